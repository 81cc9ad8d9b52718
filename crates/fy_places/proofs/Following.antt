-- What readings are made of keeps them alike.
use Rattle.std.proofs.Common.{Bool, List, [], arith, false, inl, inr, length, refl, subst, sym, true, ℕ, ◌∷◌, ◌≡◌, ◌≤◌}
use Rattle.std.specs.Prelude.{Err, None, Ok, Option, Some, if◌then◌else◌}
use Rattle.fy_types.specs.declared.types.Atom.{Atom}
use Rattle.fy_lexer.specs.declared.token.Keyword.{Keyword}
use Rattle.fy_lexer.specs.declared.token.Keyword.TheVariants as word
use Rattle.fy_lexer.specs.declared.token.Symbol.{Symbol}
use Rattle.fy_lexer.specs.declared.token.Token.{Token}
use Rattle.fy_lexer.specs.declared.token.TokenKind.{TokenKind}
use Rattle.fy_lexer.specs.declared.token.TokenKind.TheVariants as kind
use Rattle.fy_syntax.specs.Reader.{Fault, Read, behind, data_at, data_kind, expect, expect_word, is_symbol_kind, is_word_kind, kind_at, mapped, name_at, name_of, nested, ◌>>=◌}
use Rattle.fy_syntax.specs.Signs.{token}
use Rattle.fy_places.proofs.Alike.{AnswersAs, Follows, LeavesAtMost, SameKinds, answers_past, same_first_kind}

pub then_leaves : {A B : Type 0} (most : ℕ) (x : Read A) (f : A × List Token → Read B) → LeavesAtMost most x → ((a : A) (here : List Token) → length here ≤ most → LeavesAtMost most (f (a, here))) → LeavesAtMost most (x >>= f)
then_leaves most (Ok x) f u h = h x.0 x.1 u
then_leaves most (Err e) f u h = u

pub then_answers : {A B : Type 0} (rest other_rest : List Token) (excuse : Type 0) (x y : Read A) (f g : A × List Token → Read B) → AnswersAs rest other_rest excuse x y →
    ((a : A) (here : List Token) → length here ≤ length rest → LeavesAtMost (length rest) (f (a, here))) →
    ((a b : A) (here there : List Token) → SameKinds rest other_rest here there → x ≡ Ok (a, here) → y ≡ Ok (b, there) → AnswersAs rest other_rest excuse (f (a, here)) (g (b, there))) → AnswersAs rest other_rest excuse (x >>= f) (y >>= g)
then_answers rest other_rest excuse (Ok x) y f g (inl u) h k = answers_past rest other_rest excuse (f x) (y >>= g) (h x.0 x.1 u)
then_answers rest other_rest excuse (Ok x) y f g (inr (b, there, a, e)) h k = rw e (k x.0 b x.1 there a refl e)
then_answers rest other_rest excuse (Err (Fault.wrong b)) y f g (inl u) h k = inl u
then_answers rest other_rest excuse (Err (Fault.wrong b)) y f g (inr (there, a, e)) h k = inr (there, a, rw e refl)
then_answers rest other_rest excuse (Err (Fault.deep b)) y f g (inl u) h k = inl u
then_answers rest other_rest excuse (Err (Fault.deep b)) y f g (inr (inl d)) h k = inr (inl d)
then_answers rest other_rest excuse (Err (Fault.deep b)) y f g (inr (inr (there, a, e))) h k = inr (inr (there, a, rw e refl))

pub then_follows : {A B : Type 0} (excuse : Type 0) (f g : List Token → Read A) (F G : List Token → A × List Token → Read B) → Follows excuse f g →
    ((u v : List Token) (a b : A) → Follows excuse (λ here. F u (a, here)) (λ here. G v (b, here))) → Follows excuse (λ tokens. f tokens >>= F tokens) (λ tokens. g tokens >>= G tokens)
then_follows excuse f g F G h k = record {
  left = λ most here le. then_leaves most (f here) (F here) (h.left most here le) (λ a l e. (k here here a a).left most l e);
  right = λ most here le. then_leaves most (g here) (G here) (h.right most here le) (λ a l e. (k here here a a).right most l e);
  same = λ rest other_rest here there a. then_answers rest other_rest excuse (f here) (g there) (F here) (G there) (h.same rest other_rest here there a) (λ c l e. (k here there c c).left (length rest) l e) (λ c d l o b e e2. (k here there c d).same rest other_rest l o b);
}

pub mapped_leaves : {A B : Type 0} (most : ℕ) (f : A → B) (x : Read A) → LeavesAtMost most x → LeavesAtMost most (mapped f x)
mapped_leaves most f (Ok x) u = u
mapped_leaves most f (Err e) u = u

pub mapped_answers : {A B : Type 0} (rest other_rest : List Token) (excuse : Type 0) (f g : A → B) (x y : Read A) → AnswersAs rest other_rest excuse x y → AnswersAs rest other_rest excuse (mapped f x) (mapped g y)
mapped_answers rest other_rest excuse f g (Ok x) y (inl u) = inl u
mapped_answers rest other_rest excuse f g (Ok x) y (inr (b, there, a, e)) = inr (g b, there, a, rw e refl)
mapped_answers rest other_rest excuse f g (Err (Fault.wrong b)) y (inl u) = inl u
mapped_answers rest other_rest excuse f g (Err (Fault.wrong b)) y (inr (there, a, e)) = inr (there, a, rw e refl)
mapped_answers rest other_rest excuse f g (Err (Fault.deep b)) y (inl u) = inl u
mapped_answers rest other_rest excuse f g (Err (Fault.deep b)) y (inr (inl d)) = inr (inl d)
mapped_answers rest other_rest excuse f g (Err (Fault.deep b)) y (inr (inr (there, a, e))) = inr (inr (there, a, rw e refl))

pub mapped_follows : {A B : Type 0} (excuse : Type 0) (f g : List Token → Read A) (F G : List Token → A → B) → Follows excuse f g → Follows excuse (λ tokens. mapped (F tokens) (f tokens)) (λ tokens. mapped (G tokens) (g tokens))
mapped_follows excuse f g F G h = record {
  left = λ most here le. mapped_leaves most (F here) (f here) (h.left most here le);
  right = λ most here le. mapped_leaves most (G here) (g here) (h.right most here le);
  same = λ rest other_rest here there a. mapped_answers rest other_rest excuse (F here) (G there) (f here) (g there) (h.same rest other_rest here there a);
}

pub ok_follows : {A : Type 0} (excuse : Type 0) (a b : A) → Follows excuse (λ here. Ok (a, here)) (λ here. Ok (b, here))
ok_follows excuse a b = record {
  left = λ most here le. le;
  right = λ most here le. le;
  same = λ rest other_rest here there c. inr (b, there, c, refl);
}

pub wrong_follows : (A : Type 0) (excuse : Type 0) → Follows {A = A} excuse (λ here. Err (Fault.wrong here)) (λ here. Err (Fault.wrong here))
wrong_follows A excuse = record {
  left = λ most here le. le;
  right = λ most here le. le;
  same = λ rest other_rest here there c. inr (there, c, refl);
}

-- what stands behind the next token
pub behind_length : (here : List Token) → length (behind here) ≤ length here
behind_length [] = omega arith
behind_length (t ∷ here) = omega arith

pub behind_follows : {A : Type 0} (excuse : Type 0) (f g : List Token → Read A) → Follows excuse f g → Follows excuse (λ here. f (behind here)) (λ here. g (behind here))
behind_follows excuse f g h = record {
  left = λ most here le. h.left most (behind here) (omega (arith, behind_length here));
  right = λ most here le. h.right most (behind here) (omega (arith, behind_length here));
  same = λ rest other_rest here there a. go rest other_rest here there a;
}
  where
    go : (rest other_rest here there : List Token) → SameKinds rest other_rest here there → AnswersAs rest other_rest excuse (f (behind here)) (g (behind there))
    go rest other_rest here there SameKinds.last = answers_past rest other_rest excuse (f rest) (g other_rest) (h.left (length rest) rest (omega arith))
    go rest other_rest here there (SameKinds.next {here = l} {there = o} a) = h.same rest other_rest l o a

-- a choice by the kind of the next token
pub kind_follows : {A : Type 0} (excuse : Type 0) (F G : TokenKind → List Token → Read A) → ((k : TokenKind) → Follows excuse (F k) (G k)) → Follows excuse (λ tokens. F (kind_at tokens) tokens) (λ tokens. G (kind_at tokens) tokens)
kind_follows excuse F G h = record {
  left = λ most here le. (h (kind_at here)).left most here le;
  right = λ most here le. (h (kind_at here)).right most here le;
  same = λ rest other_rest here there a. subst (λ k. AnswersAs rest other_rest excuse (F (kind_at here) here) (G k there)) (sym (same_first_kind a)) ((h (kind_at here)).same rest other_rest here there a);
}

pub if_follows : {A : Type 0} (excuse : Type 0) (c : TokenKind → Bool) (f g u v : List Token → Read A) → Follows excuse f g → Follows excuse u v →
    Follows excuse (λ tokens. if c (kind_at tokens) then f tokens else u tokens) (λ tokens. if c (kind_at tokens) then g tokens else v tokens)
if_follows excuse c f g u v h k = kind_follows excuse (λ l tokens. if c l then f tokens else u tokens) (λ l tokens. if c l then g tokens else v tokens) (λ l. go (c l))
  where
    go : (b : Bool) → Follows excuse (λ tokens. if b then f tokens else u tokens) (λ tokens. if b then g tokens else v tokens)
    go true = h
    go false = k

-- a sign that has to stand here
sign_follows : {B : Type 0} (excuse : Type 0) (c : TokenKind → Bool) (F G : List Token → Read B) → Follows excuse F G →
    Follows excuse (λ tokens. (if c (kind_at tokens) then Ok (behind tokens) else Err (Fault.wrong tokens)) >>= F) (λ tokens. (if c (kind_at tokens) then Ok (behind tokens) else Err (Fault.wrong tokens)) >>= G)
sign_follows {B = B} excuse c F G h =
    kind_follows excuse (λ l tokens. (if c l then Ok (behind tokens) else Err (Fault.wrong tokens)) >>= F) (λ l tokens. (if c l then Ok (behind tokens) else Err (Fault.wrong tokens)) >>= G) (λ l. go (c l))
  where
    go : (b : Bool) → Follows excuse (λ tokens. (if b then Ok (behind tokens) else Err (Fault.wrong tokens)) >>= F) (λ tokens. (if b then Ok (behind tokens) else Err (Fault.wrong tokens)) >>= G)
    go true = behind_follows excuse F G h
    go false = wrong_follows B excuse

pub expect_follows : {B : Type 0} (excuse : Type 0) (s : Symbol) (F G : List Token → Read B) → Follows excuse F G → Follows excuse (λ tokens. expect s tokens >>= F) (λ tokens. expect s tokens >>= G)
expect_follows excuse s F G h = sign_follows excuse (is_symbol_kind s) F G h

pub expect_word_follows : {B : Type 0} (excuse : Type 0) (w : Keyword) (F G : List Token → Read B) → Follows excuse F G → Follows excuse (λ tokens. expect_word w tokens >>= F) (λ tokens. expect_word w tokens >>= G)
expect_word_follows excuse w F G h = sign_follows excuse (is_word_kind w) F G h

pub taken_follows : {A : Type 0} (excuse : Type 0) (f g : List Token → A) → Follows excuse (λ here. Ok (f here, behind here)) (λ here. Ok (g here, behind here))
taken_follows excuse f g = record {
  left = λ most here le. omega (arith, behind_length here);
  right = λ most here le. omega (arith, behind_length here);
  same = λ rest other_rest here there a. go rest other_rest here there a;
}
  where
    go : (rest other_rest here there : List Token) → SameKinds rest other_rest here there → AnswersAs rest other_rest excuse (Ok (f here, behind here)) (Ok (g there, behind there))
    go rest other_rest here there SameKinds.last = inl (omega arith)
    go rest other_rest here there (SameKinds.next {here = l} {there = o} a) = inr (g there, o, a, refl)

pub name_follows : (excuse : Type 0) → Follows excuse name_at name_at
name_follows excuse = kind_follows excuse name_of name_of go
  where
    go : (k : TokenKind) → Follows excuse (name_of k) (name_of k)
    go (kind.Ident n) = taken_follows excuse (λ m. n) (λ m. n)
    go _ = wrong_follows ℕ excuse

pub data_follows : (excuse : Type 0) → Follows excuse data_at data_at
data_follows excuse = kind_follows excuse data_kind data_kind go
  where
    go : (k : TokenKind) → Follows excuse (data_kind k) (data_kind k)
    go (kind.Word word.Int) = taken_follows excuse (λ here. _) (λ here. _)
    go (kind.Word word.Bool) = taken_follows excuse (λ here. _) (λ here. _)
    go (kind.Word word.Char) = taken_follows excuse (λ here. _) (λ here. _)
    go _ = wrong_follows Atom excuse

-- one node further in, where the first may have none left
pub data Further {A : Type 0} (excuse : Type 0) (R : A → A → Type 0) : Option A → Option A → Type 0 where
  neither : Further excuse R None None
  both : {f g : A} → R f g → Further excuse R (Some f) (Some g)
  only : {g : A} → excuse → R g g → Further excuse R None (Some g)

pub nested_follows : {A B : Type 0} (excuse : Type 0) (R : A → A → Type 0) (i j : Option A) (go too : A → List Token → Read B) → Further excuse R i j → ((f g : A) → R f g → Follows excuse (go f) (too g)) →
    Follows excuse (λ tokens. nested i tokens (λ f. go f tokens)) (λ tokens. nested j tokens (λ f. too f tokens))
nested_follows excuse R i j go too Further.neither h = record {
  left = λ most here le. le;
  right = λ most here le. le;
  same = λ rest other_rest here there c. inr (inr (there, c, refl));
}
nested_follows excuse R i j go too (Further.both {f = f} {g = g} x) h = h f g x
nested_follows excuse R i j go too (Further.only {g = g} d x) h = record {
  left = λ most here le. le;
  right = λ most here le. (h g g x).right most here le;
  same = λ rest other_rest here there c. inr (inl d);
}

-- the same where what is read depends on the place of the token that was taken
pub opened_follows : {A : Type 0} (excuse : Type 0) (F G : List Token → List Token → Read A) → ((u v : List Token) → Follows excuse (F u) (G v)) → Follows excuse (λ here. F here (behind here)) (λ here. G here (behind here))
opened_follows excuse F G h = record {
  left = λ most here le. (h here here).left most (behind here) (omega (arith, behind_length here));
  right = λ most here le. (h here here).right most (behind here) (omega (arith, behind_length here));
  same = λ rest other_rest here there a. go rest other_rest here there a;
}
  where
    go : (rest other_rest here there : List Token) → SameKinds rest other_rest here there → AnswersAs rest other_rest excuse (F here (behind here)) (G there (behind there))
    go rest other_rest here there (SameKinds.last {k = k} {p = p} {o = o}) = answers_past rest other_rest excuse (F (token k p ∷ rest) rest) (G (token k o ∷ other_rest) other_rest) ((h (token k p ∷ rest) (token k p ∷ rest)).left (length rest) rest (omega arith))
    go rest other_rest here there (SameKinds.next {k = k} {p = p} {o = o} {here = l} {there = w} a) = (h (token k p ∷ l) (token k o ∷ w)).same rest other_rest l w a

-- a word that has to stand here, where its place is kept
pub placed_word_follows : {B : Type 0} (excuse : Type 0) (w : Keyword) (F G : List Token → List Token → Read B) → ((u v : List Token) → Follows excuse (F u) (G v)) → Follows excuse (λ tokens. expect_word w tokens >>= F tokens) (λ tokens. expect_word w tokens >>= G tokens)
placed_word_follows {B = B} excuse w F G h =
    kind_follows excuse (λ l tokens. (if is_word_kind w l then Ok (behind tokens) else Err (Fault.wrong tokens)) >>= F tokens) (λ l tokens. (if is_word_kind w l then Ok (behind tokens) else Err (Fault.wrong tokens)) >>= G tokens) (λ l. go (is_word_kind w l))
  where
    go : (b : Bool) → Follows excuse (λ tokens. (if b then Ok (behind tokens) else Err (Fault.wrong tokens)) >>= F tokens) (λ tokens. (if b then Ok (behind tokens) else Err (Fault.wrong tokens)) >>= G tokens)
    go true = opened_follows excuse F G h
    go false = wrong_follows B excuse
