use Rattle.std.proofs.Common.{◌≡◌, map, take}
use Rattle.fy_forms.proofs.fresh.paths_of.Given as goal

abbrev pub invariant-loop-one : goal.invariant-loop-one
invariant-loop-one l = l.list.items ≡ map (λ f. f.path) (take l.one-index l.found)
