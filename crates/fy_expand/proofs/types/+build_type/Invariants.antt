use Rattle.std.proofs.Common.{◌≡◌, suc, ◌+◌, take, map}
use Rattle.fy_syntax.specs.Reading.{type_tree}
use Rattle.fy_types.specs.Reading.{plain_type, types_in}
use Rattle.fy_expand.specs.Types.{type_of}
use Rattle.fy_expand.specs.Frames.{scope_of}
use Rattle.fy_expand.proofs.ScopeWeights.{frame_weight}
use Rattle.fy_expand.proofs.types.+build_type.Given as goal

abbrev pub decreases-build_named : goal.decreases-build_named
decreases-build_named l = frame_weight l.frame.now

abbrev pub decreases-build_type : goal.decreases-build_type
decreases-build_type l = suc (goal.size-build_type l + frame_weight l.frame.now)

abbrev pub decreases-build_types : goal.decreases-build_types
decreases-build_types l = suc (goal.size-build_types l + frame_weight l.frame.now)

abbrev pub invariant-build_types-loop-ty : goal.invariant-build_types-loop-ty
invariant-build_types-loop-ty l =
    map plain_type (types_in l.made) ≡ map (λ a. type_of (scope_of l.frame).types (type_tree a)) (take l.ty-index l.ty-items)
