use Rattle.std.proofs.Common.{map, drop}
use Rattle.fy_types.specs.Reading.{plain_path, paths_from}
use Rattle.fy_order.specs.Levels.{all_tagged, met_in}
use Rattle.fy_order.proofs.LevelLemmas.{ArePlaced}
use Rattle.fy_order.proofs.levels.add_places.Given as goal

abbrev pub invariant-loop-path : goal.invariant-loop-path
invariant-loop-path l =
    ArePlaced (met_in l.initial.met) (met_in l.met) l.initial.places.items l.places.items
    (all_tagged l.tag (paths_from (map plain_path (drop l.path-index l.paths)))) (all_tagged l.tag (paths_from (map plain_path l.paths)))
