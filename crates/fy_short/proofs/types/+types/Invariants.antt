use Rattle.std.proofs.Common.{◌≡◌, ◌+◌, ◌*◌, ◌++◌, [], map, drop}
use Rattle.fy_types.specs.declared.types.Ty.{size-Ty}
use Rattle.fy_types.specs.declared.types.TyList.{size-TyList}
use Rattle.fy_types.specs.Reading.{plain_type, plain_types, types_from}
use Rattle.fy_short.specs.ShortTypes.{short_members}
use Rattle.fy_short.proofs.types.+types.Given as goal

abbrev pub invariant-put_members-loop-ty : goal.invariant-put_members-loop-ty
invariant-put_members-loop-ty l =
    l.text.items ++ short_members l.names l.lead (types_from (map plain_type (drop l.ty-index l.ty-items)))
    ≡ l.initial.text.items ++ short_members l.names [] (plain_types l.all)

-- a part stands above the type that it is
abbrev pub decreases-put_type : goal.decreases-put_type
decreases-put_type l = 2 * size-Ty l.ty.now

abbrev pub decreases-put_unless : goal.decreases-put_unless
decreases-put_unless l = 2 * size-Ty l.ty.now + 1

abbrev pub decreases-put_members : goal.decreases-put_members
decreases-put_members l = 2 * size-TyList l.all.now
