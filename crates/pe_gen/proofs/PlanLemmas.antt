-- Look-ups in a plan.
use Rattle.std.proofs.Common.{ℕ, ◌≡◌, [], ◌∷◌, Some, ap, sym, ◌∙◌}
use Rattle.std.specs.Prelude.{slice_get}
use Rattle.fy_phrase.specs.declared.shapes.ShapeElem.{ShapeElem}
use Rattle.fy_phrase.specs.declared.shapes.ShapeEnd.{ShapeEnd}
use Rattle.fy_derive.specs.Shapes.{PlainShape, at_end}
use Rattle.fy_derive.specs.ShapeTables.{plain_end, behind, shape_at, HasPairOf}
use Rattle.pe_code.specs.Code.{address_in}
use Rattle.pe_gen.specs.declared.plan.Plan.{Plan}
use Rattle.pe_gen.specs.declared.steps.ShapeStep.{ShapeStep}
use Rattle.pe_gen.specs.declared.steps.ShapeStep.TheVariants.{End, Before}
use Rattle.pe_gen.specs.Plan.{IsPlan}
use Rattle.pe_gen.specs.Sites.{Stands}
use Rattle.pe_gen.proofs.Gets.{some_same}
use Rattle.pe_gen.proofs.StepLemmas.{end-step, before-step}

module _ (plan : Plan) (ok : IsPlan plan) where
  -- a node that is asked for a shape has an entry for its number
  pub asked-entry : (k n : ℕ) (s : PlainShape) → shape_at plan.table.now n ≡ Some s → HasPairOf plan.table.now k s →
      (a : ℕ) × (address_in plan.entries k n ≡ Some a)
  asked-entry k n s is has =
      let x = ok.entered has.pair (has.place, has.stands) in
      let number : has.pair.shape ≡ n = ok.table.shapes_once has.pair.shape n s has.shape_is is in
      (x.0, ap (λ j. address_in plan.entries k j) (sym number) ∙ (ap (λ j. address_in plan.entries j has.pair.shape) (sym has.node_is) ∙ x.1))

  -- the last demand alone has a step, which is at its number
  pub end-stands : (k : ℕ) (e : ShapeEnd) → HasPairOf plan.table.now k (at_end (plain_end e)) → Stands plan.steps.keys (End e)
  end-stands k e has = (has.pair.shape, end-step plan.table.now.shapes plan.steps.keys ok.steps has.pair.shape e has.shape_is)

  pub end-number : (n : ℕ) (e : ShapeEnd) → slice_get plan.steps.keys n ≡ Some (End e) → shape_at plan.table.now n ≡ Some (at_end (plain_end e))
  end-number n e at = ok.steps.each n (End e) at

  -- and so has a demand before a shape
  pub before-stands : (k n : ℕ) (e : ShapeElem) (s : PlainShape) → shape_at plan.table.now n ≡ Some s → HasPairOf plan.table.now k (behind (e ∷ []) s) →
      Stands plan.steps.keys (Before e n)
  before-stands k n e s is has =
      (has.pair.shape, before-step plan.table.now.shapes plan.steps.keys ok.table.shapes_once ok.steps has.pair.shape n e s has.shape_is is)

  pub before-number : (m n : ℕ) (e : ShapeElem) (s : PlainShape) → slice_get plan.steps.keys m ≡ Some (Before e n) → shape_at plan.table.now n ≡ Some s →
      shape_at plan.table.now m ≡ Some (behind (e ∷ []) s)
  before-number m n e s at is =
      let x = ok.steps.each m (Before e n) at in
      x.2 ∙ ap (λ t. Some (behind (e ∷ []) t)) (some_same (sym x.1 ∙ is))

  -- the step of a shape whose rest is in the table
  pub rest-step : (k n : ℕ) (e : ShapeElem) (s : PlainShape) (t : ShapeStep) → shape_at plan.table.now n ≡ Some (behind (e ∷ []) s) → (has : HasPairOf plan.table.now k s) →
      slice_get plan.steps.keys n ≡ Some t → t ≡ Before e has.pair.shape
  rest-step k n e s t is has at =
      some_same (sym at ∙ before-step plan.table.now.shapes plan.steps.keys ok.table.shapes_once ok.steps n has.pair.shape e s is has.shape_is)

before_same : {e f : ShapeElem} {n m : ℕ} → Before e n ≡ Before f m → n ≡ m
before_same h = cc

pub rest-number : (t : ShapeStep) (e f : ShapeElem) (n m : ℕ) → t ≡ Before e n → t ≡ Before f m → n ≡ m
rest-number t e f n m a b = before_same (sym a ∙ b)
