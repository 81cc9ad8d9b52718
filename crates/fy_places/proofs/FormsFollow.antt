-- The forms are read alike, behind the token that begins them.
use Rattle.std.proofs.Common.{List, length}
use Rattle.std.specs.Prelude.{Ok}
use Rattle.fy_base.specs.declared.data.Place.{Place}
use Rattle.fy_lexer.specs.declared.token.Keyword.TheVariants as word
use Rattle.fy_lexer.specs.declared.token.Symbol.TheVariants as symbol
use Rattle.fy_lexer.specs.declared.token.Token.{Token}
use Rattle.fy_syntax.specs.Reader.{Inner, Read, accept_at, cond_at, data_at, decl_at, decls_at, def_at, defs_at, escape_at, expect, lam_at, let_at, let_type_at, letrec_at, loop_at, name_at, new_at, phrase_at, trees_at, types_at, while_at, ◌>>=◌}
use Rattle.fy_syntax.specs.Signs.{front}
use Rattle.fy_syntax.specs.Trees.{Tree, Trees}
use Rattle.fy_places.proofs.Alike.{Follows}
use Rattle.fy_places.proofs.Following.{data_follows, expect_follows, expect_word_follows, mapped_follows, name_follows, ok_follows, placed_word_follows, then_follows}
use Rattle.fy_places.proofs.ListsFollow.{decl_follows, decls_follow, def_follows, defs_follow, phrase_follows, trees_follow}
use Rattle.fy_places.proofs.TypesFollow.{types_follow}

pub record Inside (excuse : Type 0) (f g : Inner) : Type 0 where
  pub types : Follows excuse f.type g.type
  pub terms : Follows excuse f.term g.term

-- forms, behind the token that begins them
abbrev pub group_behind : Inner → List Token → List Token → Read Tree
group_behind i all tokens = phrase_at i.term tokens >>= λ x. expect symbol.CloseParen x.1 >>= λ rest. Ok (Tree.group x.0 (front all), rest)

abbrev pub seq_behind : Inner → List Token → List Token → Read Tree
seq_behind i all tokens =
    expect symbol.OpenParen tokens >>= λ here. i.term here >>= λ x. trees_at (length x.1) symbol.Comma i.term x.1 >>= λ y.
    expect symbol.CloseParen y.1 >>= λ rest. Ok (Tree.seq_of (Trees.and_tree x.0 y.0) (front all), rest)

pub group_follows : (excuse : Type 0) (f g : Inner) → Inside excuse f g → (p o : List Token) → Follows excuse (group_behind f p) (group_behind g o)
group_follows excuse f g h p o =
    then_follows excuse (phrase_at f.term) (phrase_at g.term) _ _ (phrase_follows excuse f.term g.term h.terms)
    (λ u0 v0 a0 b0. expect_follows excuse symbol.CloseParen _ _ (ok_follows excuse _ _))

pub seq_follows : (excuse : Type 0) (f g : Inner) → Inside excuse f g → (p o : List Token) → Follows excuse (seq_behind f p) (seq_behind g o)
seq_follows excuse f g h p o =
    expect_follows excuse symbol.OpenParen _ _
    (then_follows excuse f.term g.term _ _ h.terms
    (λ u1 v1 a1 b1. then_follows excuse (λ here. trees_at (length here) symbol.Comma f.term here) (λ here. trees_at (length here) symbol.Comma g.term here) _ _ (trees_follow excuse symbol.Comma f.term g.term h.terms)
    (λ u2 v2 a2 b2. expect_follows excuse symbol.CloseParen _ _ (ok_follows excuse _ _))))

pub lam_follows : (excuse : Type 0) (f g : Inner) → Inside excuse f g → (p o : Place) → Follows excuse (lam_at f p) (lam_at g o)
lam_follows excuse f g h p o =
    then_follows excuse name_at name_at _ _ (name_follows excuse)
    (λ u0 v0 a0 b0. expect_follows excuse symbol.Colon _ _
    (then_follows excuse f.type g.type _ _ h.types
    (λ u2 v2 a2 b2. then_follows excuse (λ here. types_at (length here) symbol.Bar f.type here) (λ here. types_at (length here) symbol.Bar g.type here) _ _ (types_follow excuse symbol.Bar f.type g.type h.types)
    (λ u3 v3 a3 b3. expect_follows excuse symbol.Dot _ _
    (mapped_follows excuse f.term g.term _ _ h.terms)))))

pub let_follows : (excuse : Type 0) (f g : Inner) → Inside excuse f g → (p o : Place) → Follows excuse (let_at f p) (let_at g o)
let_follows excuse f g h p o =
    then_follows excuse (def_at f.term) (def_at g.term) _ _ (def_follows excuse f.term g.term h.terms)
    (λ u0 v0 a0 b0. then_follows excuse (λ here. defs_at (length here) f.term here) (λ here. defs_at (length here) g.term here) _ _ (defs_follow excuse f.term g.term h.terms)
    (λ u1 v1 a1 b1. expect_word_follows excuse word.In _ _
    (mapped_follows excuse f.term g.term _ _ h.terms)))

pub letrec_follows : (excuse : Type 0) (f g : Inner) → Inside excuse f g → (p o : Place) → Follows excuse (letrec_at f p) (letrec_at g o)
letrec_follows excuse f g h p o =
    then_follows excuse (decl_at f.type) (decl_at g.type) _ _ (decl_follows excuse f.type g.type h.types)
    (λ u0 v0 a0 b0. then_follows excuse (λ here. decls_at (length here) f.type here) (λ here. decls_at (length here) g.type here) _ _ (decls_follow excuse f.type g.type h.types)
    (λ u1 v1 a1 b1. expect_word_follows excuse word.Where _ _
    (then_follows excuse (def_at f.term) (def_at g.term) _ _ (def_follows excuse f.term g.term h.terms)
    (λ u3 v3 a3 b3. then_follows excuse (λ here. defs_at (length here) f.term here) (λ here. defs_at (length here) g.term here) _ _ (defs_follow excuse f.term g.term h.terms)
    (λ u4 v4 a4 b4. placed_word_follows excuse word.In _ _
    (λ u v. mapped_follows excuse f.term g.term _ _ h.terms))))))

pub let_type_follows : (excuse : Type 0) (f g : Inner) → Inside excuse f g → (p o : Place) → Follows excuse (let_type_at f p) (let_type_at g o)
let_type_follows excuse f g h p o =
    then_follows excuse name_at name_at _ _ (name_follows excuse)
    (λ u0 v0 a0 b0. expect_follows excuse symbol.EqualsEquals _ _
    (then_follows excuse f.type g.type _ _ h.types
    (λ u2 v2 a2 b2. expect_word_follows excuse word.In _ _
    (mapped_follows excuse f.term g.term _ _ h.terms))))

pub new_follows : (excuse : Type 0) (f g : Inner) → Inside excuse f g → (p o : Place) → Follows excuse (new_at f p) (new_at g o)
new_follows excuse f g h p o =
    then_follows excuse name_at name_at _ _ (name_follows excuse)
    (λ u0 v0 a0 b0. expect_follows excuse symbol.Colon _ _
    (then_follows excuse data_at data_at _ _ (data_follows excuse)
    (λ u2 v2 a2 b2. expect_follows excuse symbol.ColonEquals _ _
    (then_follows excuse f.term g.term _ _ h.terms
    (λ u4 v4 a4 b4. expect_word_follows excuse word.In _ _
    (mapped_follows excuse f.term g.term _ _ h.terms))))))

pub escape_follows : (excuse : Type 0) (f g : Inner) → Inside excuse f g → (p o : Place) → Follows excuse (escape_at f p) (escape_at g o)
escape_follows excuse f g h p o =
    then_follows excuse name_at name_at _ _ (name_follows excuse)
    (λ u0 v0 a0 b0. expect_word_follows excuse word.In _ _
    (mapped_follows excuse f.term g.term _ _ h.terms))

pub accept_follows : (excuse : Type 0) (f g : Inner) → Inside excuse f g → (p o : Place) → Follows excuse (accept_at f p) (accept_at g o)
accept_follows excuse f g h p o =
    then_follows excuse name_at name_at _ _ (name_follows excuse)
    (λ u0 v0 a0 b0. expect_follows excuse symbol.Colon _ _
    (then_follows excuse data_at data_at _ _ (data_follows excuse)
    (λ u2 v2 a2 b2. expect_word_follows excuse word.In _ _
    (mapped_follows excuse f.term g.term _ _ h.terms))))

pub cond_follows : (excuse : Type 0) (f g : Inner) → Inside excuse f g → (p o : Place) → Follows excuse (cond_at f p) (cond_at g o)
cond_follows excuse f g h p o =
    then_follows excuse f.term g.term _ _ h.terms
    (λ u0 v0 a0 b0. expect_word_follows excuse word.Then _ _
    (then_follows excuse f.term g.term _ _ h.terms
    (λ u2 v2 a2 b2. expect_word_follows excuse word.Else _ _
    (mapped_follows excuse f.term g.term _ _ h.terms))))

pub while_follows : (excuse : Type 0) (f g : Inner) → Inside excuse f g → (p o : Place) → Follows excuse (while_at f p) (while_at g o)
while_follows excuse f g h p o =
    then_follows excuse f.term g.term _ _ h.terms
    (λ u0 v0 a0 b0. expect_word_follows excuse word.Do _ _
    (mapped_follows excuse f.term g.term _ _ h.terms))

pub forever_follows : (excuse : Type 0) (f g : Inner) → Inside excuse f g → (p o : Place) → Follows excuse (loop_at f p) (loop_at g o)
forever_follows excuse f g h p o =
    mapped_follows excuse f.term g.term _ _ h.terms
