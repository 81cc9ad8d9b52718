use Rattle.std.proofs.Common.{Bool, true, false, ◌≡◌, ◌∙◌, refl, sym}
use Rattle.std.proofs.lemmas.Slice.Eq.{slice_eq-Decides}
use Rattle.std.specs.Bool.{Decides, beq}
use Rattle.fy_forms.proofs.fresh.met_with.Goals as goal

equal : (a b : Bool) → Decides (beq a b) (a ≡ b)
equal true true = (λ e. refl, λ e. refl)
equal true false = (λ e. cc, λ e. cc)
equal false true = (λ e. cc, λ e. cc)
equal false false = (λ e. refl, λ e. refl)

pub returns-then-eq : goal.returns-then-eq
returns-then-eq c = (
  (c.in_ok-place.field-0.now, c.if-place-met.false, sym c.index-met-place.is),
  sym c.as_slice.ensures.value ∙ (slice_eq-Decides equal _ _ _ c.eq.ensures).0 c.if-eq.true,
)
