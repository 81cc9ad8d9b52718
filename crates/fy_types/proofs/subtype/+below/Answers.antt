use Rattle.std.proofs.Common.{◌+◌, map, drop, sym, refl, ◌∙◌, arith, eqb-true, eq-eqb}
use Rattle.std.proofs.lemmas.List.{length-map}
use Rattle.fy_types.specs.Paths.{end}
use Rattle.fy_types.specs.PathOrder.{IsPathBelow, ends, same_end, none_left}
use Rattle.fy_types.specs.PathOrder as order
use Rattle.fy_types.specs.Reading.{plain_elem, plain_path, fronted, paths_from}
use Rattle.fy_types.proofs.Steps.{drop_item, drop_end, not_so, all-next, all-first, some-next, some-none, front-split, front-next, fronted-length, fronted-end, elem-call, elem-field, field-elem}
use Rattle.fy_types.proofs.ReadLemmas.{plain_elem-Call, plain_elem-Field, plain_path-at}
use Rattle.fy_types.proofs.subtype.+below.Goals as goal
use Rattle.fy_types.proofs.subtype.+below.Goals.{is_path_below-then-xs-ys-via-then-xs-ys, is_path_below-then-xs-ys-via-else-xs-ys+then-not-is_end_below}

pub is_elem_below-returns-in-Call-y : goal.is_elem_below-returns-in-Call-y
is_elem_below-returns-in-Call-y t c =
    let both = rw (c.deref.ensures, c.deref-in-Call-y.ensures) at c.are_paths_below.ensures in
    rw (c.in-Call.is, c.in-Call-y.is, plain_elem-Call c.in-Call.d, plain_elem-Call c.in-Call-y.e)
    (λ r. elem-call.1 (both.0 r), λ below. both.1 (elem-call.0 below))

pub is_elem_below-returns-in-Field-y-2 : goal.is_elem_below-returns-in-Field-y-2
is_elem_below-returns-in-Field-y-2 t c =
    rw (c.in-Field.is, c.in-Field-y-2.is, plain_elem-Field c.in-Field.i, plain_elem-Field c.in-Field-y-2.j)
    (λ r. field-elem (eqb-true _ _ r), λ below. eq-eqb _ _ (elem-field below))

pub is_path_below-returns-then-xs-ys : goal.is_path_below-returns-then-xs-ys
is_path_below-returns-then-xs-ys t c =
    let apart : IsPathBelow (plain_path c.args.p.now) (plain_path c.args.q.now) → ⊥ =
    λ below.
    let low = rw (plain_path-at c.args.p.now, plain_path-at c.args.q.now, c.as_slice-xs.ensures.reading, c.as_slice-ys.ensures.reading) at below in
    elim c.then-xs-ys.branch [
      | is_path_below-then-xs-ys-via-then-xs-ys w ↦
          w.if-xs-ys.true (sym (length-map c.as_slice-xs.result.now plain_elem) ∙ (fronted-length _ _ _ _ low ∙ length-map c.as_slice-ys.result.now plain_elem))
      | is_path_below-then-xs-ys-via-else-xs-ys+then-not-is_end_below w ↦
          not_so w.if-not-is_end_below.true w.is_end_below.ensures.1 (fronted-end _ _ _ _ low)
    ] in
    (λ r. cc, λ below. absurd (apart below))

pub is_path_below-returns-then-not-is_elem_below : goal.is_path_below-returns-then-not-is_elem_below
is_path_below-returns-then-not-is_elem_below t c =
    let xs = drop_item plain_elem c.as_slice-xs.result.now c.loop-i.i c.index-xs-i.result c.loop-i-test.true c.index-xs-i.is in
    let ys = drop_item plain_elem c.as_slice-ys.result.now c.loop-i.i c.index-ys-i.result (omega arith) c.index-ys-i.is in (
      λ r. cc,
      λ below. absurd (not_so c.if-not-is_elem_below.true c.is_elem_below.ensures.1
          (front-split _ _ _ _ (rw (xs, ys) at (c.loop-i.invariant.1 below))).0),
    )

pub is_path_below-loop-i-preserved : goal.is_path_below-loop-i-preserved
is_path_below-loop-i-preserved t c =
    let xs = drop_item plain_elem c.as_slice-xs.result.now c.loop-i.i c.index-xs-i.result c.loop-i-test.true c.index-xs-i.is in
    let ys = drop_item plain_elem c.as_slice-ys.result.now c.loop-i.i c.index-ys-i.result (omega arith) c.index-ys-i.is in
    let step = front-next _ _ (fronted (map plain_elem (drop (c.loop-i.i + 1) c.as_slice-xs.result.now)) (end c.args.p.now.end))
    (fronted (map plain_elem (drop (c.loop-i.i + 1) c.as_slice-ys.result.now)) (end c.args.q.now.end))
    (c.is_elem_below.ensures.0 c.if-not-is_elem_below.false) in
    let now = rw (xs, ys) at c.loop-i.invariant in
    (λ low. now.0 (step.1 low), λ below. step.0 (now.1 below))

pub is_path_below-returns : goal.is_path_below-returns
is_path_below-returns t c =
    let xs = drop_end plain_elem c.as_slice-xs.result.now c.loop-i.i c.loop-i-test.false in
    let ys = drop_end plain_elem c.as_slice-ys.result.now c.loop-i.i (omega arith) in
    let now = rw (xs, ys) at c.loop-i.invariant in
    (λ r. now.0 (ends (c.is_end_below.ensures.0 c.if-not-is_end_below.false)), λ below. refl)

pub are_paths_below-returns-then-not-has_below : goal.are_paths_below-returns-then-not-has_below
are_paths_below-returns-then-not-has_below t c =
    let rest = drop_item plain_path c.as_slice-path-items.result.now c.loop-path.path-index c.path-item.result c.loop-path-test.true c.path-item.is in
    (λ r. cc, λ below. absurd (not_so c.if-not-has_below.true c.has_below.ensures.1 (all-first (rw rest at (c.loop-path.invariant.1 below)))))

pub are_paths_below-loop-path-preserved : goal.are_paths_below-loop-path-preserved
are_paths_below-loop-path-preserved t c =
    let rest = drop_item plain_path c.as_slice-path-items.result.now c.loop-path.path-index c.path-item.result c.loop-path-test.true c.path-item.is in
    let step = all-next {Q = paths_from (map plain_path (drop (c.loop-path.path-index + 1) c.as_slice-path-items.result.now))}
    (c.has_below.ensures.0 c.if-not-has_below.false) in
    let now = rw rest at c.loop-path.invariant in
    (λ low. now.0 (step.1 low), λ below. step.0 (now.1 below))

pub are_paths_below-returns : goal.are_paths_below-returns
are_paths_below-returns t c =
    let none = drop_end plain_path c.as_slice-path-items.result.now c.loop-path.path-index c.loop-path-test.false in
    let now = rw none at c.loop-path.invariant in
    (λ r. now.0 none_left, λ below. refl)

pub has_below-returns-then-is_path_below : goal.has_below-returns-then-is_path_below
has_below-returns-then-is_path_below t c =
    let rest = drop_item plain_path c.as_slice-path-items.result.now c.loop-path.path-index c.path-item.result c.loop-path-test.true c.path-item.is in
    let now = rw rest at c.loop-path.invariant in
    (λ r. now.0 (order.here (c.is_path_below.ensures.0 c.if-is_path_below.true)), λ some. refl)

pub has_below-loop-path-preserved : goal.has_below-loop-path-preserved
has_below-loop-path-preserved t c =
    let rest = drop_item plain_path c.as_slice-path-items.result.now c.loop-path.path-index c.path-item.result c.loop-path-test.true c.path-item.is in
    let step = some-next {P = paths_from (map plain_path (drop (c.loop-path.path-index + 1) c.as_slice-path-items.result.now))}
    (not_so c.if-is_path_below.false c.is_path_below.ensures.1) in
    let now = rw rest at c.loop-path.invariant in
    (λ low. now.0 (step.1 low), λ some. step.0 (now.1 some))

pub has_below-returns : goal.has_below-returns
has_below-returns t c =
    let none = drop_end plain_path c.as_slice-path-items.result.now c.loop-path.path-index c.loop-path-test.false in
    let now = rw none at c.loop-path.invariant in
    (λ r. cc, λ some. absurd (some-none (now.1 some)))
