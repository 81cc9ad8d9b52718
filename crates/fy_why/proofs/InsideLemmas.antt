-- A phrase inside definitions.
use Rattle.std.proofs.Common.{ℕ, zero, suc, ◌-◌, ◌≡◌, ◌≢◌, ◌∷◌, Some, None, refl, ap, ◌∙◌}
use Rattle.fy_phrase.specs.Tree.{Tree, let_in}
use Rattle.fy_show.specs.Entries.{Scope, Known}
use Rattle.fy_show.specs.Fresh.{bound}
use Rattle.fy_why.specs.Texts.{body_in, inside}
use Rattle.fy_why.proofs.SpanLemmas.{less_one}

same_tree : (a b : Tree) → Some a ≡ Some b → a ≡ b
same_tree a b e = cc

pub inside-body : (k : Known) (n : ℕ) (s : Scope) (t b : Tree) → n ≢ 0 → Some b ≡ body_in t → inside k (n - 1) (bound k s t ∷ s) b ≡ inside k n s t
inside-body k zero s t b some is = absurd (some refl)
inside-body k (suc n) s (let_in d p c at) b some is =
    ap (λ m. inside k m (bound k s (let_in d p c at) ∷ s) b) (less_one n) ∙ ap (inside k n (bound k s (let_in d p c at) ∷ s)) (same_tree b c is)
inside-body k (suc n) s t b some is = absurd (cc)

pub inside-plain : (k : Known) (n : ℕ) (s : Scope) (t : Tree) → None ≡ body_in t → (s, t) ≡ inside k n s t
inside-plain k zero s t none = refl
inside-plain k (suc n) s (let_in d p b at) none = absurd (cc)
inside-plain k (suc n) s t none = refl
