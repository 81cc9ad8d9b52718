use Rattle.std.proofs.Common.{map}
use Rattle.fy_order.specs.Levels.{met_in, next, plain_tagged}
use Rattle.fy_order.proofs.LevelLemmas.{grown-from}
use Rattle.fy_order.proofs.levels.level_of.Goals as goal

pub returns-clause-next : goal.returns-clause-next
returns-clause-next c =
    let U = met_in c.places_of_all.new.met in
    let grown = rw (c.as_slice-2.ensures.value, c.new.ensures.items) at c.in_ok-inner.ensures.grown in
    grown-from U (next (map plain_tagged c.args.nodes.items)) grown
