use Rattle.std.proofs.Common.{◌≡◌, true, map, take}
use Rattle.fy_forms.specs.Rows.{plain_member, stands_for}
use Rattle.fy_forms.proofs.rows.row_of.Given as goal

abbrev pub invariant-loop-member : goal.invariant-loop-member
invariant-loop-member l =
    l.is_whole ≡ true → map (stands_for l.table) l.indexes.items ≡ map plain_member (take l.member-index l.member-items)
