use Rattle.std.proofs.Common.{◌∙◌, map, ◌++◌, ◌∷◌, []}
use Rattle.fy_order.specs.Levels.{plain_tagged}
use Rattle.fy_order.proofs.LevelLemmas.{at-last, none-alike}
use Rattle.fy_order.proofs.levels.Met.place_of.Goals as goal

pub returns-clause-at : goal.returns-clause-at
returns-clause-at c =
    let xs = c.args.self.now.nodes.items in
    let t = plain_tagged c.args.tagged in
    let len = c.len-place.ensures ∙ c.args.self.now.nodes.ok.0 in
    rw (c.in_ok-push.ensures.items, len) (none-alike (map plain_tagged (xs ++ (c.args.tagged ∷ []))) t _ (at-last xs c.args.tagged))
