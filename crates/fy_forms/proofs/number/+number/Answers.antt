use Rattle.std.proofs.Common.{sym, refl, map, drop, ◌+◌, ◌∙◌}
use Rattle.fy_types.specs.Paths.{end}
use Rattle.fy_types.specs.Reading.{plain_elem, plain_path, fronted}
use Rattle.fy_forms.proofs.KeyLemmas.{number-front}
use Rattle.fy_types.proofs.ReadLemmas.{plain_path-at}
use Rattle.fy_types.proofs.Steps.{drop_item, drop_end}
use Rattle.fy_forms.proofs.number.+number.Goals as goal

pub path_after-loop-elem-init : goal.path_after-loop-elem-init
path_after-loop-elem-init t c = rw (plain_path-at c.args.path.now, c.as_slice-elem-items.ensures.reading) refl

pub path_after-loop-elem-preserved : goal.path_after-loop-elem-preserved
path_after-loop-elem-preserved t c =
    let rest = drop_item plain_elem c.as_slice-elem-items.result.now c.loop-elem.elem-index c.elem-item.result c.loop-elem-test.true c.elem-item.is in
    let now = rw rest at c.loop-elem.invariant in
    let more = fronted (map plain_elem (drop (c.loop-elem.elem-index + 1) c.as_slice-elem-items.result.now)) (end c.args.path.now.end) in
    rw c.elem_after-number.ensures (sym (number-front c.loop-elem.number (plain_elem c.elem-item.result) more) ∙ now)

pub path_after-returns : goal.path_after-returns
path_after-returns t c =
    let none = drop_end plain_elem c.as_slice-elem-items.result.now c.loop-elem.elem-index c.loop-elem-test.false in
    let now = rw none at c.loop-elem.invariant in
    rw (c.mixed.ensures, c.place.ensures) now

pub paths_after-loop-path-preserved : goal.paths_after-loop-path-preserved
paths_after-loop-path-preserved t c =
    let rest = drop_item plain_path c.as_slice-path-items.result.now c.loop-path.path-index c.path-item.result c.loop-path-test.true c.path-item.is in
    let now = rw rest at c.loop-path.invariant in
    rw c.path_after-number.ensures now

pub paths_after-returns : goal.paths_after-returns
paths_after-returns t c =
    let none = drop_end plain_path c.as_slice-path-items.result.now c.loop-path.path-index c.loop-path-test.false in
    rw none at c.loop-path.invariant
