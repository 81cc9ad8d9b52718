use Rattle.std.proofs.Common.{◌≡◌, vec_len}
use Rattle.fy_types.specs.Reading.{plain_type}
use Rattle.fy_read.specs.OpenTypes.{in_fields}
use Rattle.fy_read.proofs.level.with_fields.Given as goal

-- behind the fields that are left it is the whole
abbrev pub invariant-loop-name : goal.invariant-loop-name
invariant-loop-name l = in_fields l.left.items (plain_type l.whole) ≡ in_fields l.initial.left.items (plain_type l.initial.whole)

abbrev pub decreases-loop-name : goal.decreases-loop-name
decreases-loop-name l = vec_len l.left
