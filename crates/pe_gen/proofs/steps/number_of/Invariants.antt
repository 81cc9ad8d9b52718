use Rattle.std.proofs.Common.{ℕ, ◌<◌, ◌≢◌, Some}
use Rattle.fy_derive.specs.Shapes.{at_end}
use Rattle.fy_derive.specs.ShapeTables.{behind, plain_end}
use Rattle.pe_gen.specs.Steps.{shape_in}
use Rattle.pe_gen.proofs.steps.number_of.Given as goal

abbrev pub invariant-loop-number : goal.invariant-loop-number
invariant-loop-number l = (n : ℕ) → n < l.number → shape_in l.shapes n ≢ Some (behind l.elems (at_end (plain_end l.end)))
