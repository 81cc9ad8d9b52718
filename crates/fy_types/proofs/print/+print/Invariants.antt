use Rattle.std.proofs.Common.{◌≡◌, ◌+◌, ◌*◌, ◌++◌, map, take}
use Rattle.fy_types.specs.declared.types.Ty.{size-Ty}
use Rattle.fy_types.specs.declared.types.TyList.{size-TyList}
use Rattle.fy_types.specs.Reading.{plain_type, types_from}
use Rattle.fy_types.specs.Print.{members_text}
use Rattle.fy_types.proofs.print.+print.Given as goal

abbrev pub invariant-put_members-loop-i : goal.invariant-put_members-loop-i
invariant-put_members-loop-i l = l.text ≡ l.initial.text ++ members_text l.names (types_from (map plain_type (take l.i l.list)))

-- a part stands above the type that it is
abbrev pub decreases-put_ty : goal.decreases-put_ty
decreases-put_ty l = 2 * size-Ty l.ty.now

abbrev pub decreases-put_part : goal.decreases-put_part
decreases-put_part l = 2 * size-Ty l.ty.now + 1

abbrev pub decreases-put_members : goal.decreases-put_members
decreases-put_members l = 2 * size-TyList l.all.now
