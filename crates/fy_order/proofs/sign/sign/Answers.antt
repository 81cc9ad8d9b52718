use Rattle.std.proofs.Common.{sym, refl, map, drop, ◌+◌, ◌∙◌}
use Rattle.fy_types.specs.Paths.{end}
use Rattle.fy_types.specs.Reading.{plain_elem, fronted}
use Rattle.fy_types.proofs.ReadLemmas.{plain_path-at}
use Rattle.fy_types.proofs.Steps.{drop_item, drop_end}
use Rattle.fy_order.proofs.LevelLemmas.{sign-front}
use Rattle.fy_order.proofs.sign.sign.Goals as goal

pub loop-elem-init : goal.loop-elem-init
loop-elem-init c = rw (plain_path-at c.args.tagged.path.now, c.as_slice-elem-items.ensures.reading) refl

pub loop-elem-preserved : goal.loop-elem-preserved
loop-elem-preserved c =
    let rest = drop_item plain_elem c.as_slice-elem-items.result.now c.loop-elem.elem-index c.elem-item.result c.loop-elem-test.true c.elem-item.is in
    let now = rw rest at c.loop-elem.invariant in
    let more = fronted (map plain_elem (drop (c.loop-elem.elem-index + 1) c.as_slice-elem-items.result.now)) (end c.args.tagged.path.now.end) in
    rw (c.mixed-number.ensures, c.mark.ensures) (sym (sign-front c.loop-elem.number c.args.end (plain_elem c.elem-item.result) more) ∙ now)

pub returns : goal.returns
returns c =
    let none = drop_end plain_elem c.as_slice-elem-items.result.now c.loop-elem.elem-index c.loop-elem-test.false in
    rw (c.mixed.ensures, c.place.ensures) (rw none at c.loop-elem.invariant)
