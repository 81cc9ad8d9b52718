-- Answers about equal paths, places and numbers; and refusals that are handed on.
use Rattle.std.proofs.Common.{ℕ, ◌≡◌, refl, sym, ap, ◌∙◌, subst}
use Rattle.std.specs.Prelude.{IfOk, IsErrOf, Result, Ok, Err}
use Rattle.fy_base.specs.declared.data.Place.{Place}
use Rattle.fy_forms.specs.declared.error.TypeError.{TypeError}
use Rattle.fy_forms.specs.declared.error.TypeError.TheVariants as types
use Rattle.fy_types.specs.Types.{PlainType, arrow}
use Rattle.fy_types.specs.Paths.{PlainPaths}
use Rattle.fy_types.specs.Nested.{IsTypeOf}
use Rattle.fy_derive.specs.Derivations.{PlainDerivation, sub}
use Rattle.fy_derive.specs.Reading.{plain_derivation}
use Rattle.fy_least.specs.declared.error.LeastError.{LeastError}
use Rattle.fy_least.specs.declared.error.LeastError.TheVariants.{TypeTooLarge}
use Rattle.fy_least.specs.declared.found.Found.{Found}
use Rattle.fy_least.specs.Derived.{IsCall, IsDefinition, IsSelection, IsSubsumed, rule_of, rule_of_both}
use Rattle.fy_least.specs.Made.{IsArrowTo, IsFieldOf}
use Rattle.fy_least.specs.Refused.{of_type}
use Rattle.fy_least.specs.Visited.{IsMade, IsRefused}

pub made-same : {P Q : PlainPaths} {at to : Place} {n m : ℕ} (r : Result Found LeastError) → P ≡ Q → at ≡ to → n ≡ m →
    IfOk r (λ f. IsMade P at n f) → IfOk r (λ f. IsMade Q to m f)
made-same {P = P} {Q = Q} {at = at} {to = to} {n = n} {m = m} r e f g h =
    subst (λ X. IfOk r (λ x. IsMade X to m x)) e
    (subst (λ a. IfOk r (λ x. IsMade P a m x)) f (subst (λ k. IfOk r (λ x. IsMade P at k x)) g h))

pub refused-same : {P Q : PlainPaths} {n m : ℕ} → P ≡ Q → n ≡ m → IsRefused P n → IsRefused Q m
refused-same {P = P} {Q = Q} {n = n} {m = m} e g h = subst (λ X. IsRefused X m) e (subst (IsRefused P) g h)

-- what holds of one derivation holds of an equal one
pub derived-same : (r : Result Found LeastError) (C : PlainDerivation → Type 0) (d : PlainDerivation) → C d →
    IfOk r (λ f. plain_derivation f.derivation ≡ d) → IfOk r (λ f. C (plain_derivation f.derivation))
derived-same (Ok f) C d x e = subst C (sym e) x
derived-same (Err f) C d x e = tt

pub large-error : {X Y : Type 0} (e : TypeError) → IsErrOf {T = X} (Err (of_type e)) TypeTooLarge → IsErrOf {T = Y} (Err e) types.TypeTooLarge
large-error types.TypeTooLarge h = refl
large-error types.OutOfMemory h = absurd (cc)

pub call-made : (Q R : PlainPaths) (A T : PlainType) (d e x y made : PlainDerivation) → IsTypeOf Q A → IsArrowTo A R T → x ≡ sub T d → y ≡ sub A e →
    made ≡ rule_of_both x y → IsCall Q R d e made
call-made Q R A T d e x y made p (B, q, t) f g m =
    (A, B, p, q, m ∙ (ap (λ z. rule_of_both z y) (f ∙ ap (λ S. sub S d) t) ∙ ap (rule_of_both (sub (arrow A B) d)) g))

pub selection-made : (i : ℕ) (R : PlainPaths) (T : PlainType) (d x made : PlainDerivation) → IsFieldOf i R T → x ≡ sub T d → made ≡ rule_of x →
    IsSelection i R d made
selection-made i R T d x made (A, q, t) f m = (A, q, m ∙ ap rule_of (f ∙ ap (λ S. sub S d) t))

pub definition-made : (P : PlainPaths) (d e x made : PlainDerivation) → IsSubsumed P d x → made ≡ rule_of_both x e → IsDefinition P d e made
definition-made P d e x made (A, q, t) m = (A, q, m ∙ ap (λ y. rule_of_both y e) t)
