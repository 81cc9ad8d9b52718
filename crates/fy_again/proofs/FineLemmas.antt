-- What the tokens of a text say of the tree that they spell: integers from 0 on, bytes, and no empty lists.
use Rattle.std.proofs.Common.{◌≡◌, ◌≢◌, ℕ, ◌-◌, ◌<◌, ◌==◌, ◌&&◌, nat_le, Bool, true, false, if◌then◌else◌, ℤ, pos, Option, Some, None, List, [], ◌∷◌, ◌++◌, refl, sym, subst, arith, inl, inr, ◌⊎◌}
use Rattle.std.proofs.lemmas.Bool.Decides.{nat_tests}
use Rattle.std.proofs.lemmas.Int.{ints}
use Rattle.fy_base.specs.Outside.{Bytes}
use Rattle.fy_base.specs.declared.data.Place.{Place}
use Rattle.fy_base.specs.declared.data.Datum.TheVariants as datum
use Rattle.fy_types.specs.Words.{is_digit}
use Rattle.fy_lexer.specs.declared.token.Token.{Token}
use Rattle.fy_lexer.specs.declared.token.TokenKind.{TokenKind}
use Rattle.fy_lexer.specs.declared.token.TokenKind.TheVariants as kind
use Rattle.fy_lexer.specs.declared.token.Symbol.{Symbol}
use Rattle.fy_lexer.specs.Spellings.{Element, plain, escape, code, Elements, Spells, is_plain, escaped, hex_value}
use Rattle.fy_lexer.specs.Tokens.{Reading, Steps, IsTokensOf, IsFit, AllFit}
use Rattle.fy_syntax.specs.declared.surface.Prefixed.{Prefixed}
use Rattle.fy_syntax.specs.Ranges.{AreBytes}
use Rattle.fy_syntax.specs.Signs.{Level, TypeLevel, token}
use Rattle.fy_syntax.specs.Spells.{merge_of, sequence_of, chain_of, prefixed_of, apply_of, select_of, Fields, Dots, Prefixes, SpellsType, MoreTypes, MoreDecls, SpellsBefore, MoreTrees, MoreDefs, MoreLinks, MoreArguments}
use Rattle.fy_syntax.specs.Trees.{TypeTree, TypeTrees, DeclTree, Tree, Trees, Defs, Links}
use Rattle.fy_again.specs.Again.{IsLiteral}
use Rattle.fy_again.proofs.FormedLemmas.{IsFine, AreFine, AreFineDefs, AreFineLinks}

-- ---- tokens

abbrev IsFineKind : TokenKind → Type 0
IsFineKind (kind.Ident n) = Unit {0}
IsFineKind (kind.Word w) = Unit {0}
IsFineKind (kind.Number v) = IsLiteral (datum.Int v)
IsFineKind (kind.Letter c) = c < 256
IsFineKind (kind.Str bytes) = AreBytes bytes
IsFineKind (kind.Sym s) = Unit {0}
IsFineKind kind.End = Unit {0}

abbrev pub AreFineTokens : List Token → Type 0
AreFineTokens [] = Unit {0}
AreFineTokens (t ∷ ts) = IsFineKind t.kind × AreFineTokens ts

picked : (b : Bool) (x v : ℕ) (o : Option ℕ) → (if b then Some x else o) ≡ Some v → ((b ≡ true) × (v ≡ x)) ⊎ (o ≡ Some v)
picked true x v o h = let same : v ≡ x = cc in inl (refl, same)
picked false x v o h = inr h

digit_small : (b : ℕ) → is_digit b ≡ true → b - 48 < 16
digit_small b h = grind (arith, nat_tests)

upper_small : (b : ℕ) → (nat_le 65 b && nat_le b 70) ≡ true → b - 55 < 16
upper_small b h = grind (arith, nat_tests)

lower_small : (b : ℕ) → (nat_le 97 b && nat_le b 102) ≡ true → b - 87 < 16
lower_small b h = grind (arith, nat_tests)

hex_small : (b m : ℕ) → hex_value b ≡ Some m → m < 16
hex_small b m h = elim (picked (is_digit b) (b - 48) m _ h) [
  | inl x ↦ subst (λ k. k < 16) (sym x.1) (digit_small b x.0)
  | inr g ↦
      elim (picked (nat_le 65 b && nat_le b 70) (b - 55) m _ g) [
        | inl x ↦ subst (λ k. k < 16) (sym x.1) (upper_small b x.0)
        | inr f ↦
            elim (picked (nat_le 97 b && nat_le b 102) (b - 87) m None f) [
              | inl x ↦ subst (λ k. k < 16) (sym x.1) (lower_small b x.0)
              | inr e ↦ absurd (none_some m e)
            ]
      ]
]
  where
    none_some : (m : ℕ) → None ≡ Some m → ⊥
    none_some m e = cc

below : (v n : ℕ) → v ≡ n → n < 256 → v < 256
below v n e h = omega (arith, e, h)

escaped_small : (c v : ℕ) → escaped c ≡ Some v → v < 256
escaped_small c v h = elim (picked (c == 110) 10 v _ h) [
  | inl x ↦ below v 10 x.1 (omega arith)
  | inr g ↦
      elim (picked (c == 116) 9 v _ g) [
        | inl x ↦ below v 9 x.1 (omega arith)
        | inr f ↦
            elim (picked (c == 92) 92 v _ f) [
              | inl x ↦ below v 92 x.1 (omega arith)
              | inr e ↦
                  elim (picked (c == 39) 39 v _ e) [
                    | inl x ↦ below v 39 x.1 (omega arith)
                    | inr d ↦
                        elim (picked (c == 34) 34 v None d) [
                          | inl x ↦ below v 34 x.1 (omega arith)
                          | inr b ↦ absurd (none_some v b)
                        ]
                  ]
            ]
      ]
]
  where
    none_some : (m : ℕ) → None ≡ Some m → ⊥
    none_some m e = cc

plain_small : (quote v : ℕ) → is_plain quote v ≡ true → v < 256
plain_small quote v h = grind (arith, nat_tests)

element_small : (quote : ℕ) (piece : Bytes) (v : ℕ) → Element quote piece v → v < 256
element_small quote piece v (plain e p) = plain_small quote v p
element_small quote piece v (escape c e f) = escaped_small c v f
element_small quote piece v (code h l m n e f g i) = let a = hex_small h m f in let b = hex_small l n g in omega (arith, i, a, b)

elements_small : (quote : ℕ) (inside bytes : Bytes) → Elements quote inside bytes → AreBytes bytes
elements_small quote inside [] h = tt
elements_small quote inside (b ∷ bytes) h = (element_small quote h.0 b h.3, elements_small quote h.1 bytes h.4)

fine_number : (n : ℕ) (v : ℤ) → v ≡ pos n → IsFit (kind.Number v) → IsLiteral (datum.Int v)
fine_number n v e fit = (omega (arith, ints, e), record { sfits = omega (arith, ints, e, fit) })

fine_kind : (names : List Bytes) (k : TokenKind) (piece : Bytes) → Spells names k piece → IsFit k → IsFineKind k
fine_kind names (kind.Ident n) piece h fit = tt
fine_kind names (kind.Word w) piece h fit = tt
fine_kind names (kind.Number v) piece h fit = fine_number _ v h.1 fit
fine_kind names (kind.Letter c) piece h fit = element_small 39 h.0 c h.2
fine_kind names (kind.Str bytes) piece h fit = elements_small 34 h.0 bytes h.2
fine_kind names (kind.Sym s) piece h fit = tt
fine_kind names kind.End piece h fit = tt

record IsSpelled (k : TokenKind) : Type 0 where
  names : List Bytes
  piece : Bytes
  spells : Spells names k piece

abbrev AllSpelled : List Token → Type 0
AllSpelled [] = Unit {0}
AllSpelled (t ∷ ts) = IsSpelled t.kind × AllSpelled ts

spelled_behind : (ts : List Token) (t : Token) → AllSpelled ts → IsSpelled t.kind → AllSpelled (ts ++ t ∷ [])
spelled_behind [] t h k = (k, tt)
spelled_behind (u ∷ ts) t h k = (h.0, spelled_behind ts t h.1 k)

all_spelled : {old new : Reading} → Steps old new → AllSpelled old.tokens → AllSpelled new.tokens
all_spelled (Steps.none here) h = h
all_spelled (Steps.more old next new (inl gap) rest) h = all_spelled rest (subst (λ l. AllSpelled l) (sym gap.tokens) h)
all_spelled (Steps.more old next new (inr taken) rest) h =
    all_spelled rest
    (subst (λ l. AllSpelled l) (sym taken.tokens)
    (spelled_behind old.tokens (record { kind = taken.kind; place = old.spot.place }) h (record { names = old.names; piece = taken.piece; spells = taken.spelled })))

all_fine : (ts : List Token) (at : Place) → AllSpelled ts → AllFit (ts ++ token kind.End at ∷ []) → AreFineTokens (ts ++ token kind.End at ∷ [])
all_fine [] at h fit = (tt, tt)
all_fine (t ∷ ts) at h fit = (fine_kind h.0.names t.kind h.0.piece h.0.spells fit.0, all_fine ts at h.1 fit.1)

pub tokens_fine : (names after : List Bytes) (text : Bytes) (tokens : List Token) → IsTokensOf names text tokens after → AllFit tokens → AreFineTokens tokens
tokens_fine names after text tokens read fit =
    subst (λ l. AreFineTokens l) (sym read.read) (all_fine read.last.tokens read.last.spot.place (all_spelled read.steps tt) (subst (λ l. AllFit l) read.read fit))

-- ---- trees

fine_merge_of : (p : Tree) (more : Trees) (at : Place) → IsFine p → AreFine more → IsFine (merge_of p more at)
fine_merge_of p Trees.no_trees at h k = h
fine_merge_of p (Trees.and_tree q more) at h k = (h, k)

fine_sequence_of : (p : Tree) (more : Trees) (at : Place) → IsFine p → AreFine more → IsFine (sequence_of p more at)
fine_sequence_of p Trees.no_trees at h k = h
fine_sequence_of p (Trees.and_tree q more) at h k = (h, k)

fine_chain_of : (p : Tree) (more : Links) (at : Place) → IsFine p → AreFineLinks more → IsFine (chain_of p more at)
fine_chain_of p Links.no_links at h k = h
fine_chain_of p (Links.and_link op here q more) at h k = (h, k)

fine_prefixed_of : (operators : List Prefixed) (p : Tree) (at : Place) → IsFine p → IsFine (prefixed_of operators p at)
fine_prefixed_of [] p at h = h
fine_prefixed_of (o ∷ operators) p at h = h

fine_apply_of : (p : Tree) (more : Trees) (at : Place) → IsFine p → AreFine more → IsFine (apply_of p more at)
fine_apply_of p Trees.no_trees at h k = h
fine_apply_of p (Trees.and_tree q more) at h k = (h, k)

fine_select_of : (p : Tree) (names : List ℕ) (at : Place) → IsFine p → IsFine (select_of p names at)
fine_select_of p [] at h = h
fine_select_of p (n ∷ names) at h = h

some_alternatives : (a : TypeTree) (more : TypeTrees) → TypeTrees.and_type a more ≢ TypeTrees.no_types
some_alternatives a more e = cc

some_decls : (d : DeclTree) (more : List DeclTree) → d ∷ more ≢ []
some_decls d more e = cc

some_parts : (p : Tree) (more : Trees) → Trees.and_tree p more ≢ Trees.no_trees
some_parts p more e = cc

-- what is left behind a type is fine
fields_left : {names : List ℕ} {ts r : List Token} → Fields names ts r → AreFineTokens ts → AreFineTokens r
fields_left Fields.no_fields g = g
fields_left (Fields.and_field x) g = fields_left x g.1.1

dots_left : {names : List ℕ} {ts r : List Token} → Dots names ts r → AreFineTokens ts → AreFineTokens r
dots_left Dots.no_dots g = g
dots_left (Dots.and_dot x) g = dots_left x g.1.1

prefixes_left : {operators : List Prefixed} {ts r : List Token} → Prefixes operators ts r → AreFineTokens ts → AreFineTokens r
prefixes_left Prefixes.no_prefixes g = g
prefixes_left (Prefixes.and_prefix x) g = prefixes_left x g.1

mutual
  type_left : {l : TypeLevel} {a : TypeTree} {ts r : List Token} → SpellsType l a ts r → AreFineTokens ts → AreFineTokens r
  type_left (SpellsType.arrow x y) g = type_left y (type_left x g).1
  type_left (SpellsType.no_arrow x) g = type_left x g
  type_left (SpellsType.inter x y) g = types_left y (type_left x g)
  type_left (SpellsType.field n x) g = type_left x (fields_left n g)
  type_left SpellsType.ns g = g.1
  type_left SpellsType.atom g = g.1
  type_left SpellsType.ident g = g.1
  type_left (SpellsType.group x) g = (type_left x g.1).1

  types_left : {s : Symbol} {l : TypeLevel} {others : TypeTrees} {ts r : List Token} → MoreTypes s l others ts r → AreFineTokens ts → AreFineTokens r
  types_left MoreTypes.no_types g = g
  types_left (MoreTypes.and_type x y) g = types_left y (type_left x g.1)

decls_left : {decls : List DeclTree} {ts r : List Token} → MoreDecls decls ts r → AreFineTokens ts → AreFineTokens r
decls_left MoreDecls.no_decls g = g
decls_left (MoreDecls.and_decl x y) g = decls_left y (type_left x g.1.1.1)

mutual
  pub tree_fine : {l : Level} {p : Tree} {ts r : List Token} → SpellsBefore l p ts r → AreFineTokens ts → IsFine p × AreFineTokens r
  tree_fine (SpellsBefore.phrase {t = t} {more = more} h k) g = let x = tree_fine h g in let y = trees_fine k x.1 in (fine_merge_of t more _ x.0 y.0, y.1)
  tree_fine (SpellsBefore.sequence {t = t} {more = more} h k) g = let x = tree_fine h g in let y = trees_fine k x.1 in (fine_sequence_of t more _ x.0 y.0, y.1)
  tree_fine (SpellsBefore.lam {a = a} {more = more} b c h) g =
      let x = tree_fine h (types_left c (type_left b g.1.1.1)).1 in ((some_alternatives a more, x.0), x.1)
  tree_fine (SpellsBefore.let_in h k l) g = let x = tree_fine h g.1.1.1 in let y = defs_fine k x.1 in let z = tree_fine l y.1.1 in (((x.0, y.0), z.0), z.1)
  tree_fine (SpellsBefore.letrec {decls = decls} a b h k l) g =
      let x = tree_fine h (decls_left b (type_left a g.1.1.1)).1.1.1 in
      let y = defs_fine k x.1 in
      let z = tree_fine l y.1.1 in ((some_decls _ decls, (x.0, y.0), z.0), z.1)
  tree_fine (SpellsBefore.let_type a h) g = tree_fine h (type_left a g.1.1.1).1
  tree_fine (SpellsBefore.new d h k) g = let x = tree_fine h g.1.1.1.1.1 in let y = tree_fine k x.1.1 in ((x.0, y.0), y.1)
  tree_fine (SpellsBefore.escape h) g = tree_fine h g.1.1.1
  tree_fine (SpellsBefore.accept d h) g = tree_fine h g.1.1.1.1.1
  tree_fine (SpellsBefore.cond h k l) g = let x = tree_fine h g.1 in let y = tree_fine k x.1.1 in let z = tree_fine l y.1.1 in ((x.0, y.0, z.0), z.1)
  tree_fine (SpellsBefore.while_do h k) g = let x = tree_fine h g.1 in let y = tree_fine k x.1.1 in ((x.0, y.0), y.1)
  tree_fine (SpellsBefore.loop h) g = tree_fine h g.1
  tree_fine (SpellsBefore.field h) g = tree_fine h g.1.1
  tree_fine (SpellsBefore.assign h k) g = let x = tree_fine h g in let y = tree_fine k x.1.1 in ((x.0, y.0), y.1)
  tree_fine (SpellsBefore.no_assign h) g = tree_fine h g
  tree_fine (SpellsBefore.either {t = t} {more = more} h k) g = let x = tree_fine h g in let y = links_fine k x.1 in (fine_chain_of t more _ x.0 y.0, y.1)
  tree_fine (SpellsBefore.both {t = t} {more = more} h k) g = let x = tree_fine h g in let y = links_fine k x.1 in (fine_chain_of t more _ x.0 y.0, y.1)
  tree_fine (SpellsBefore.related e h k) g = let x = tree_fine h g in let y = tree_fine k x.1.1 in ((x.0, (y.0, tt)), y.1)
  tree_fine (SpellsBefore.no_relation h) g = tree_fine h g
  tree_fine (SpellsBefore.sum {t = t} {more = more} h k) g = let x = tree_fine h g in let y = links_fine k x.1 in (fine_chain_of t more _ x.0 y.0, y.1)
  tree_fine (SpellsBefore.product {t = t} {more = more} h k) g = let x = tree_fine h g in let y = links_fine k x.1 in (fine_chain_of t more _ x.0 y.0, y.1)
  tree_fine (SpellsBefore.prefixed {operators = operators} {t = t} o h) g = let x = tree_fine h (prefixes_left o g) in (fine_prefixed_of operators t _ x.0, x.1)
  tree_fine (SpellsBefore.apply {t = t} {more = more} h k) g = let x = tree_fine h g in let y = arguments_fine k x.1 in (fine_apply_of t more _ x.0 y.0, y.1)
  tree_fine (SpellsBefore.select {t = t} {names = names} h d) g = let x = tree_fine h g in (fine_select_of t names _ x.0, dots_left d x.1)
  tree_fine SpellsBefore.ident g = (tt, g.1)
  tree_fine SpellsBefore.number g = (g.0, g.1)
  tree_fine SpellsBefore.letter g = (g.0, g.1)
  tree_fine SpellsBefore.string g = (g.0, g.1)
  tree_fine SpellsBefore.truth g = (tt, g.1)
  tree_fine SpellsBefore.skip g = (tt, g.1)
  tree_fine (SpellsBefore.group h) g = let x = tree_fine h g.1 in (x.0, x.1.1)
  tree_fine (SpellsBefore.seq_of {t = t} {more = more} h k) g =
      let x = tree_fine h g.1.1 in let y = trees_fine k x.1 in ((some_parts t more, (x.0, y.0)), y.1.1)

  trees_fine : {s : Symbol} {l : Level} {more : Trees} {ts r : List Token} → MoreTrees s l more ts r → AreFineTokens ts → AreFine more × AreFineTokens r
  trees_fine MoreTrees.no_trees g = (tt, g)
  trees_fine (MoreTrees.and_tree h k) g = let x = tree_fine h g.1 in let y = trees_fine k x.1 in ((x.0, y.0), y.1)

  defs_fine : {more : Defs} {ts r : List Token} → MoreDefs more ts r → AreFineTokens ts → AreFineDefs more × AreFineTokens r
  defs_fine MoreDefs.no_defs g = (tt, g)
  defs_fine (MoreDefs.and_def h k) g = let x = tree_fine h g.1.1.1 in let y = defs_fine k x.1 in ((x.0, y.0), y.1)

  links_fine : {c l : Level} {more : Links} {ts r : List Token} → MoreLinks c l more ts r → AreFineTokens ts → AreFineLinks more × AreFineTokens r
  links_fine MoreLinks.no_links g = (tt, g)
  links_fine (MoreLinks.and_link e h k) g = let x = tree_fine h g.1 in let y = links_fine k x.1 in ((x.0, y.0), y.1)

  arguments_fine : {more : Trees} {ts r : List Token} → MoreArguments more ts r → AreFineTokens ts → AreFine more × AreFineTokens r
  arguments_fine MoreArguments.no_arguments g = (tt, g)
  arguments_fine (MoreArguments.and_argument h k) g = let x = tree_fine h g in let y = arguments_fine k x.1 in ((x.0, y.0), y.1)
