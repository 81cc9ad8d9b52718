use Rattle.fy_types.specs.Reading.{plain_path}
use Rattle.fy_forms.specs.Rows.{IsFlagged}
use Rattle.fy_forms.proofs.rows.flags_of.Given as goal

abbrev pub invariant-loop-member : goal.invariant-loop-member
invariant-loop-member l = IsFlagged l.table l.flags.items (plain_path l.path)
