use Rattle.std.proofs.Common.{ℕ, ◌<◌, slice_index_or}
use Rattle.pe_code.specs.declared.code.StraightPart.{StraightPart}
use Rattle.rv_straight.specs.Laws.{IsInRange}
use Rattle.fy_build.proofs.data.read_parts.Given as goal

abbrev pub invariant-loop-part : goal.invariant-loop-part
invariant-loop-part l = (k : ℕ) (d : StraightPart) → k < l.part-index → IsInRange (slice_index_or l.parts k d)
