-- The tests of pairs and of steps decide equality.
use Rattle.std.proofs.Common.{Bool, true, ◌≡◌, eqb-true, refl, ap, ◌∙◌}
use Rattle.fy_types.proofs.OnceLemmas.{both_true}
use Rattle.fy_phrase.specs.declared.shapes.Pair.{Pair}
use Rattle.fy_phrase.specs.declared.shapes.ShapeElem.{ShapeElem}
use Rattle.fy_phrase.specs.declared.shapes.ShapeElem.TheVariants as elem
use Rattle.fy_phrase.specs.declared.shapes.ShapeEnd.{ShapeEnd}
use Rattle.fy_phrase.specs.contracts.shapes.PairPartialEq.TheImpl as pair_test
use Rattle.fy_phrase.specs.contracts.shapes.PairEq.TheImpl.Laws as pair_laws
use Rattle.fy_phrase.specs.contracts.shapes.ShapeElemPartialEq.TheImpl as elem_test
use Rattle.fy_phrase.specs.contracts.shapes.ShapeElemEq.TheImpl.Laws as elem_laws
use Rattle.fy_phrase.specs.contracts.shapes.ShapeEndEq.TheImpl.Laws as end_laws
use Rattle.fy_phrase.specs.contracts.shapes.ShapeEndPartialEq.TheImpl as end_test
use Rattle.pe_gen.specs.declared.steps.ShapeStep.{ShapeStep}
use Rattle.pe_gen.specs.declared.steps.ShapeStep.TheVariants.{End, Before, Apart}
use Rattle.pe_gen.specs.contracts.steps.ShapeStepPartialEq.TheImpl as step_test
use Rattle.pe_gen.specs.contracts.steps.ShapeStepEq.TheImpl.Laws as step_laws
use Rattle.pe_gen.proofs.EntryLists.{pair_same}
pub use Rattle.pe_shapes.proofs.NodeTests.{same_end}

abbrev pub same_pair : Pair → Pair → Bool
same_pair = pair_test.ghosts.eq

pub same_pair-refl : (x : Pair) → same_pair x x ≡ true
same_pair-refl x = pair_laws.lawful.laws.refl x

pub same_pair-true : (x y : Pair) → same_pair x y ≡ true → x ≡ y
same_pair-true x y e = let h = both_true _ _ e in pair_same x y (eqb-true x.node y.node h.0) (eqb-true x.shape y.shape h.1)

pub same_elem : (a b : ShapeElem) → (elem_test.ghosts).eq a b ≡ true → a ≡ b
same_elem elem.Call elem.Call e = refl
same_elem (elem.Field i) (elem.Field j) e = ap elem.Field (eqb-true i j e)
same_elem a b e = absurd cc

pub end-same : (a b : ShapeEnd) → a ≡ b → (end_test.ghosts).eq a b ≡ true
end-same a b e = ap (λ x. (end_test.ghosts).eq x b) e ∙ end_laws.lawful.laws.refl b

pub elem-same : (a b : ShapeElem) → a ≡ b → (elem_test.ghosts).eq a b ≡ true
elem-same a b e = ap (λ x. (elem_test.ghosts).eq x b) e ∙ elem_laws.lawful.laws.refl b

abbrev pub same_step : ShapeStep → ShapeStep → Bool
same_step = step_test.ghosts.eq

pub same_step-refl : (x : ShapeStep) → same_step x x ≡ true
same_step-refl x = step_laws.lawful.laws.refl x

pub same_step-true : (x y : ShapeStep) → same_step x y ≡ true → x ≡ y
same_step-true (End a) (End b) e = ap End (same_end a b e)
same_step-true (Before a m) (Before b n) e = let h = both_true _ _ e in ap (λ x. Before x m) (same_elem a b h.0) ∙ ap (Before b) (eqb-true m n h.1)
same_step-true (Apart m) (Apart n) e = ap Apart (eqb-true m n e)
same_step-true x y e = absurd cc
