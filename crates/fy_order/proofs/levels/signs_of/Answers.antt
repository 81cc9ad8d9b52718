use Rattle.std.proofs.Common.{◌∷◌, [], map, take, refl, ap, sym, ◌∙◌}
use Rattle.std.proofs.lemmas.List.{map-append, take_all}
use Rattle.fy_order.specs.Levels.{own_sign, plain_tagged, sign}
use Rattle.fy_order.proofs.LevelLemmas.{end-of_path, tagged-more}
use Rattle.fy_order.proofs.levels.signs_of.Goals as goal

pub loop-tagged-init : goal.loop-tagged-init
loop-tagged-init c = c.in_ok-signs.ensures.items

pub loop-tagged-preserved : goal.loop-tagged-preserved
loop-tagged-preserved c =
    let x = c.tagged-item.result in
    let T = map plain_tagged (take c.loop-tagged.tagged-index c.args.nodes.now) in
    let own = c.sign.ensures ∙ ap (sign (plain_tagged x)) (sym (end-of_path x.path.now)) in
    let more = tagged-more c.args.nodes.now c.loop-tagged.tagged-index x c.loop-tagged-test.true c.tagged-item.is in
    rw (c.in_ok-push.ensures.items, more, map-append own_sign T (plain_tagged x ∷ []), c.loop-tagged.invariant, own) refl

pub returns : goal.returns
returns c =
    c.loop-tagged.invariant
    ∙ ap (λ xs. map own_sign (map plain_tagged xs)) (take_all c.loop-tagged.tagged-index c.args.nodes.now c.loop-tagged-test.false)
