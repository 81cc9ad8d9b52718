use Rattle.std.proofs.Common.{[], map, drop}
use Rattle.fy_types.specs.Paths.{end}
use Rattle.fy_types.specs.Reading.{plain_elem, plain_path, fronted}
use Rattle.fy_order.specs.Levels.{inner_from, met_in}
use Rattle.fy_order.proofs.LevelLemmas.{ArePlaced}
use Rattle.fy_order.proofs.levels.places_of.Given as goal

abbrev pub invariant-loop-tag : goal.invariant-loop-tag
invariant-loop-tag l =
    ArePlaced (met_in l.initial.met) (met_in l.met) [] l.places.items
    (inner_from l.tag (fronted (map plain_elem (drop l.tag l.elem-items)) (end l.path.end))) (inner_from 0 (plain_path l.path))
