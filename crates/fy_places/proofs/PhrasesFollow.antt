-- Phrases are read alike, and with more nodes allowed but for a fault of depth.
use Rattle.std.proofs.Common.{Bool, List, [], arith, false, inl, inr, length, refl, subst, suc, sym, true, zero, ℕ, ◌∷◌, ◌≡◌}
use Rattle.std.specs.Prelude.{Ok, Option, if◌then◌else◌}
use Rattle.fy_base.specs.declared.data.Place.{Place}
use Rattle.fy_lexer.specs.declared.token.Keyword.TheVariants as word
use Rattle.fy_lexer.specs.declared.token.Symbol.TheVariants as symbol
use Rattle.fy_lexer.specs.declared.token.Token.{Token}
use Rattle.fy_lexer.specs.declared.token.TokenKind.{TokenKind}
use Rattle.fy_lexer.specs.declared.token.TokenKind.TheVariants as kind
use Rattle.fy_syntax.specs.Reader.{Inner, Read, accept_at, assign_at, begins_with, behind, cond_at, either_at, escape_at, ident_term, inner, is_symbol_kind, kind_at, lam_at, let_at, let_type_at, letrec_at, loop_at, mapped, nested, new_at, read_phrase, read_term, term_at, term_by_kind, while_at}
use Rattle.fy_syntax.specs.Signs.{front, ident_at, token}
use Rattle.fy_syntax.specs.Trees.{Tree}
use Rattle.fy_places.proofs.Alike.{AnswersAs, Follows, LeavesAtMost, SameKinds, answers_past, same_first_kind}
use Rattle.fy_places.proofs.Following.{Further, behind_follows, behind_length, if_follows, mapped_follows, nested_follows, ok_follows, opened_follows, then_follows}
use Rattle.fy_places.proofs.FormsFollow.{Inside, accept_follows, cond_follows, escape_follows, forever_follows, lam_follows, let_follows, let_type_follows, letrec_follows, new_follows, while_follows}
use Rattle.fy_places.proofs.ListsFollow.{phrase_follows}
use Rattle.fy_places.proofs.LooksFollow.{FollowsAs, answers_over, follows_as, kinds_follow}
use Rattle.fy_places.proofs.OperandsFollow.{TermFurther, either_follows}
use Rattle.fy_places.proofs.TypesFollow.{Allows, allows_less, read_type_follows}

assign_follows : (excuse : Type 0) (i j : Option Inner) → TermFurther excuse i j → Follows excuse (assign_at i) (assign_at j)
assign_follows excuse i j h =
    then_follows excuse (either_at i) (either_at j) _ _ (either_follows excuse i j h)
    (λ u v a b. if_follows excuse (is_symbol_kind symbol.ColonEquals) (λ here. nested i here (λ inner. mapped (λ t. Tree.assign a (front here) t (front u)) (inner.term (behind here)))) (λ here. nested j here (λ inner. mapped (λ t. Tree.assign b (front here) t (front v)) (inner.term (behind here)))) (λ here. Ok (a, here)) (λ here. Ok (b, here))
    (nested_follows excuse (Inside excuse) i j (λ inner here. mapped (λ t. Tree.assign a (front here) t (front u)) (inner.term (behind here))) (λ inner here. mapped (λ t. Tree.assign b (front here) t (front v)) (inner.term (behind here))) h
    (λ f g k. mapped_follows excuse (λ here. f.term (behind here)) (λ here. g.term (behind here)) _ _ (behind_follows excuse f.term g.term k.terms)))
    (ok_follows excuse a b))

-- a name, and `==` behind it or not: two tokens are looked at
abbrev field_behind : ℕ → Option Inner → List Token → List Token → Read Tree
field_behind name i all tokens = nested i tokens (λ inner. mapped (λ u. Tree.field name u (front all)) (inner.term (behind tokens)))

field_follows : (excuse : Type 0) (name : ℕ) (i j : Option Inner) → TermFurther excuse i j → (u v : List Token) → Follows excuse (field_behind name i u) (field_behind name j v)
field_follows excuse name i j h u v =
    nested_follows excuse (Inside excuse) i j (λ inner m. mapped (λ t. Tree.field name t (front u)) (inner.term (behind m))) (λ inner m. mapped (λ t. Tree.field name t (front v)) (inner.term (behind m))) h
    (λ f g k. mapped_follows excuse (λ m. f.term (behind m)) (λ m. g.term (behind m)) _ _ (behind_follows excuse f.term g.term k.terms))

if_leaves : (most : ℕ) (b : Bool) (x y : Read Tree) → LeavesAtMost most x → LeavesAtMost most y → LeavesAtMost most (if b then x else y)
if_leaves most true x y h k = h
if_leaves most false x y h k = k

ident_answers : (excuse : Type 0) (name : ℕ) (i j : Option Inner) → TermFurther excuse i j → (rest other_rest here there : List Token) → SameKinds rest other_rest here there → kind_at here ≡ kind.Ident name → AnswersAs rest other_rest excuse (ident_term name i here) (ident_term name j there)
ident_answers excuse name i j h rest other_rest here there (SameKinds.last {k = k} {p = p} {o = o}) e = subst (λ k. AnswersAs rest other_rest excuse (ident_term name i (token k p ∷ rest)) (ident_term name j (token k o ∷ other_rest))) (sym e) (go (begins_with symbol.EqualsEquals rest))
  where
    go : (b : Bool) → AnswersAs rest other_rest excuse (if b then field_behind name i (ident_at name p ∷ rest) rest else assign_at i (ident_at name p ∷ rest)) (ident_term name j (ident_at name o ∷ other_rest))
    go true = answers_past rest other_rest excuse (field_behind name i (ident_at name p ∷ rest) rest) (ident_term name j (ident_at name o ∷ other_rest)) ((field_follows excuse name i j h (ident_at name p ∷ rest) (ident_at name p ∷ rest)).left (length rest) rest (omega arith))
    go false = answers_over rest other_rest excuse (assign_at i (ident_at name p ∷ rest)) (ident_term name j (ident_at name o ∷ other_rest)) (Tree.ident name o) ((assign_follows excuse i j h).same rest [] (ident_at name p ∷ rest) (ident_at name o ∷ []) SameKinds.last)
ident_answers excuse name i j h rest other_rest here there (SameKinds.next {k = k} {p = p} {o = o} {here = v} {there = z} a) e =
    subst (λ s. AnswersAs rest other_rest excuse (ident_term name i (token k p ∷ v)) (if is_symbol_kind symbol.EqualsEquals s then field_behind name j (token k o ∷ z) z else assign_at j (token k o ∷ z))) (sym (same_first_kind a)) (go (begins_with symbol.EqualsEquals v))
  where
    go : (b : Bool) → AnswersAs rest other_rest excuse (if b then field_behind name i (token k p ∷ v) v else assign_at i (token k p ∷ v)) (if b then field_behind name j (token k o ∷ z) z else assign_at j (token k o ∷ z))
    go true = (field_follows excuse name i j h (token k p ∷ v) (token k o ∷ z)).same rest other_rest v z a
    go false = (assign_follows excuse i j h).same rest other_rest (token k p ∷ v) (token k o ∷ z) (SameKinds.next a)

ident_follows : (excuse : Type 0) (name : ℕ) (i j : Option Inner) → TermFurther excuse i j → FollowsAs (kind.Ident name) excuse (ident_term name i) (ident_term name j)
ident_follows excuse name i j h = record {
  left = λ most here le. if_leaves most (begins_with symbol.EqualsEquals (behind here)) (field_behind name i here (behind here)) (assign_at i here) ((field_follows excuse name i j h here here).left most (behind here) (omega (arith, behind_length here))) ((assign_follows excuse i j h).left most here le);
  right = λ most here le. if_leaves most (begins_with symbol.EqualsEquals (behind here)) (field_behind name j here (behind here)) (assign_at j here) ((field_follows excuse name i j h here here).right most (behind here) (omega (arith, behind_length here))) ((assign_follows excuse i j h).right most here le);
  same = λ rest other_rest here there a e. ident_answers excuse name i j h rest other_rest here there a e;
}

-- a form, one node further in
form_follows : (k : TokenKind) (excuse : Type 0) (i j : Option Inner) → TermFurther excuse i j → (form : Inner → Place → List Token → Read Tree) → ((f g : Inner) → Inside excuse f g → (p o : Place) → Follows excuse (form f p) (form g o)) →
    FollowsAs k excuse (λ tokens. nested i tokens (λ g. form g (front tokens) (behind tokens))) (λ tokens. nested j tokens (λ g. form g (front tokens) (behind tokens)))
form_follows k excuse i j h form go =
    follows_as k excuse _ _ (nested_follows excuse (Inside excuse) i j (λ g tokens. form g (front tokens) (behind tokens)) (λ g tokens. form g (front tokens) (behind tokens)) h
    (λ f g x. opened_follows excuse (λ u here. form f (front u) here) (λ u here. form g (front u) here) (λ u v. go f g x (front u) (front v))))

term_follows : (excuse : Type 0) (i j : Option Inner) → TermFurther excuse i j → Follows excuse (term_at i) (term_at j)
term_follows excuse i j h = kinds_follow excuse (λ k tokens. term_by_kind k i tokens) (λ k tokens. term_by_kind k j tokens) go
  where
    go : (k : TokenKind) → FollowsAs k excuse (λ tokens. term_by_kind k i tokens) (λ tokens. term_by_kind k j tokens)
    go (kind.Sym symbol.Backslash) = form_follows (kind.Sym symbol.Backslash) excuse i j h lam_at (lam_follows excuse)
    go (kind.Word word.Let) = form_follows (kind.Word word.Let) excuse i j h let_at (let_follows excuse)
    go (kind.Word word.Letrec) = form_follows (kind.Word word.Letrec) excuse i j h letrec_at (letrec_follows excuse)
    go (kind.Word word.Lettype) = form_follows (kind.Word word.Lettype) excuse i j h let_type_at (let_type_follows excuse)
    go (kind.Word word.New) = form_follows (kind.Word word.New) excuse i j h new_at (new_follows excuse)
    go (kind.Word word.Escape) = form_follows (kind.Word word.Escape) excuse i j h escape_at (escape_follows excuse)
    go (kind.Word word.Accept) = form_follows (kind.Word word.Accept) excuse i j h accept_at (accept_follows excuse)
    go (kind.Word word.If) = form_follows (kind.Word word.If) excuse i j h cond_at (cond_follows excuse)
    go (kind.Word word.While) = form_follows (kind.Word word.While) excuse i j h while_at (while_follows excuse)
    go (kind.Word word.Loop) = form_follows (kind.Word word.Loop) excuse i j h loop_at (forever_follows excuse)
    go (kind.Ident n) = ident_follows excuse n i j h
    go k = follows_as k excuse (assign_at i) (assign_at j) (assign_follows excuse i j h)

same_further : (excuse : Type 0) (depth : ℕ) → TermFurther excuse (inner depth) (inner depth)
unfolding inner
same_further excuse zero = Further.neither
same_further excuse (suc depth) = Further.both (record { types = read_type_follows excuse depth depth (inl refl); terms = term_follows excuse (inner depth) (inner depth) (same_further excuse depth) })

term_further : (excuse : Type 0) (depth deeper : ℕ) → Allows excuse depth deeper → TermFurther excuse (inner depth) (inner deeper)
unfolding inner
term_further excuse zero zero h = Further.neither
term_further excuse zero (suc deeper) (inl h) = absurd (omega arith)
term_further excuse zero (suc deeper) (inr h) = Further.only h.0 (record { types = read_type_follows excuse deeper deeper (inl refl); terms = term_follows excuse (inner deeper) (inner deeper) (same_further excuse deeper) })
term_further excuse (suc depth) zero (inl h) = absurd (omega arith)
term_further excuse (suc depth) zero (inr h) = absurd (let k = h.1 in omega arith)
term_further excuse (suc depth) (suc deeper) h = Further.both (record { types = read_type_follows excuse depth deeper (allows_less excuse depth deeper h); terms = term_follows excuse (inner depth) (inner deeper) (term_further excuse depth deeper (allows_less excuse depth deeper h)) })

-- what is read of a phrase up to a token depends on the kinds of the tokens up to it alone, and with more nodes allowed it stays, but for a fault of depth
pub read_phrase_follows : (excuse : Type 0) (depth deeper : ℕ) → Allows excuse depth deeper → Follows excuse (read_phrase depth) (read_phrase deeper)
read_phrase_follows excuse depth deeper h = phrase_follows excuse (read_term depth) (read_term deeper) (term_follows excuse (inner depth) (inner deeper) (term_further excuse depth deeper h))
