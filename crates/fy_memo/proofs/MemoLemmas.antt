-- Answers of equal pairs.
use Rattle.std.proofs.Common.{◌≡◌, true, sym, ap, ◌∙◌, subst}
use Rattle.fy_types.specs.Once.{are_same}
use Rattle.fy_types.specs.Paths.{PlainPaths}
use Rattle.fy_memo.proofs.EachLemmas.{same-itself, same-lists}

pub right-made : (f : PlainPaths → PlainPaths → PlainPaths) (A B C P Q R : PlainPaths) → A ≡ P → B ≡ Q → C ≡ R → R ≡ f P Q →
    are_same C (f A B) ≡ true
right-made f A B C P Q R a b c e =
    subst (λ X. are_same C X ≡ true) (c ∙ (e ∙ (ap (λ X. f X Q) (sym a) ∙ ap (f A) (sym b)))) (same-itself C)

pub right-again : (f : PlainPaths → PlainPaths → PlainPaths) (A B C P Q : PlainPaths) → are_same C (f A B) ≡ true → A ≡ P → B ≡ Q → C ≡ f P Q
right-again f A B C P Q right a b = same-lists C (f A B) right ∙ (ap (λ X. f X B) a ∙ ap (f P) b)
