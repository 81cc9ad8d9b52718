-- Where two tokens are looked at, and where a token at least is taken.
use Rattle.std.proofs.Common.{List, [], ap, arith, inl, inr, length, refl, subst, sym, ℕ, ◌≡◌, ◌≤◌}
use Rattle.std.specs.Prelude.{Err, Ok, Option}
use Rattle.fy_lexer.specs.declared.token.Token.{Token}
use Rattle.fy_lexer.specs.declared.token.TokenKind.{TokenKind}
use Rattle.fy_syntax.specs.Reader.{Fault, Read, kind_at, nested, ◌>>=◌}
use Rattle.fy_places.proofs.Alike.{AnswersAs, Follows, LeavesAtMost, SameKinds, same_first_kind, same_kinds_longer_too}
use Rattle.fy_places.proofs.Following.{Further}
use Rattle.fy_places.proofs.LoopsFollow.{LeavesIfRead, leaves_if_read}

pub then_leaves_if_read : {A B : Type 0} (most : ℕ) (x : Read A) (f : A × List Token → Read B) → LeavesIfRead most x → ((a : A) (here : List Token) → length here ≤ most → LeavesAtMost most (f (a, here))) → LeavesIfRead most (x >>= f)
then_leaves_if_read most (Ok x) f u h = leaves_if_read most (f x) (h x.0 x.1 u)
then_leaves_if_read most (Err e) f u h = tt

pub nested_leaves : {A B : Type 0} (excuse : Type 0) (R : A → A → Type 0) (most : ℕ) (i j : Option A) (here : List Token) (go : A → Read B) → Further excuse R i j → ((f g : A) → R f g → LeavesAtMost most (go f)) → LeavesIfRead most (nested i here go)
nested_leaves excuse R most i j here go Further.neither h = tt
nested_leaves excuse R most i j here go (Further.both {f = f} {g = g} x) h = leaves_if_read most (go f) (h f g x)
nested_leaves excuse R most i j here go (Further.only d x) h = tt

pub nested_leaves_too : {A B : Type 0} (excuse : Type 0) (R : A → A → Type 0) (most : ℕ) (i j : Option A) (here : List Token) (go : A → Read B) → Further excuse R i j → ((f g : A) → R f g → LeavesAtMost most (go g)) → LeavesIfRead most (nested j here go)
nested_leaves_too excuse R most i j here go Further.neither h = tt
nested_leaves_too excuse R most i j here go (Further.both {f = f} {g = g} x) h = leaves_if_read most (go g) (h f g x)
nested_leaves_too excuse R most i j here go (Further.only {g = g} d x) h = leaves_if_read most (go g) (h g g x)

-- the same for lists that begin with a token of this kind
pub record FollowsAs {A : Type 0} (k : TokenKind) (excuse : Type 0) (f g : List Token → Read A) : Type 0 where
  pub left : (most : ℕ) (here : List Token) → length here ≤ most → LeavesAtMost most (f here)
  pub right : (most : ℕ) (here : List Token) → length here ≤ most → LeavesAtMost most (g here)
  pub same : (rest other_rest here there : List Token) → SameKinds rest other_rest here there → kind_at here ≡ k → AnswersAs rest other_rest excuse (f here) (g there)

pub follows_as : {A : Type 0} (k : TokenKind) (excuse : Type 0) (f g : List Token → Read A) → Follows excuse f g → FollowsAs k excuse f g
follows_as k excuse f g h = record {
  left = h.left;
  right = h.right;
  same = λ rest other_rest here there a e. h.same rest other_rest here there a;
}

pub kinds_follow : {A : Type 0} (excuse : Type 0) (F G : TokenKind → List Token → Read A) → ((k : TokenKind) → FollowsAs k excuse (F k) (G k)) → Follows excuse (λ tokens. F (kind_at tokens) tokens) (λ tokens. G (kind_at tokens) tokens)
kinds_follow excuse F G h = record {
  left = λ most here le. (h (kind_at here)).left most here le;
  right = λ most here le. (h (kind_at here)).right most here le;
  same = λ rest other_rest here there a. subst (λ k. AnswersAs rest other_rest excuse (F (kind_at here) here) (G k there)) (sym (same_first_kind a)) ((h (kind_at here)).same rest other_rest here there a refl);
}

-- what would be taken whole if nothing stood behind it is taken, whatever stands there
pub answers_over : {A : Type 0} (rest other_rest : List Token) (excuse : Type 0) (x y : Read A) (t : A) → AnswersAs rest [] excuse x (Ok (t, [])) → AnswersAs rest other_rest excuse x y
answers_over rest other_rest excuse (Ok x) y t (inl u) = inl u
answers_over {A = A} rest other_rest excuse (Ok x) y t (inr (b, there, a, e)) =
    absurd (let s : (t, []) ≡ (b, there) = cc in let k : [] ≡ there = ap (λ (z : A × List Token). z.1) s in let l = same_kinds_longer_too a in let j : length there ≡ 0 = sym (ap length k) in omega arith)
answers_over rest other_rest excuse (Err (Fault.wrong b)) y t (inl u) = inl u
answers_over rest other_rest excuse (Err (Fault.wrong b)) y t (inr (there, a, e)) = absurd cc
answers_over rest other_rest excuse (Err (Fault.deep b)) y t (inl u) = inl u
answers_over rest other_rest excuse (Err (Fault.deep b)) y t (inr (inl d)) = inr (inl d)
answers_over rest other_rest excuse (Err (Fault.deep b)) y t (inr (inr (there, a, e))) = absurd cc
