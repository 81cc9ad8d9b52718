use Rattle.std.proofs.Common.{get_or, ap, subst, ◌≡◌, ◌+◌, map, drop, sym, refl, ◌∙◌, arith, rules, eqb-true, eq-eqb}
use Rattle.std.proofs.lemmas.List.{length-map}
use Rattle.std.proofs.lemmas.Result.{IfOk-weaker}
use Rattle.std.specs.Borrow.{Bor}
use Rattle.fy_types.specs.declared.paths.Path.{Path}
use Rattle.fy_forms.specs.Keys.{lent}
use Rattle.fy_types.specs.Paths.{end}
use Rattle.fy_types.specs.PathOrder.{IsPathBelow, HasBelow, ends, none_left}
use Rattle.fy_types.specs.PathOrder as order
use Rattle.fy_types.specs.Reading.{plain_elem, plain_path, plain_paths, paths_in, fronted, paths_from}
use Rattle.fy_forms.proofs.KeyLemmas.{candidates-depth, deepest-item, item-size, some-by_index}
use Rattle.fy_order.specs.Levels.{all_tagged, nodes, IsAt}
use Rattle.fy_order.proofs.FoundLemmas.{none-below, none-here, none-more, at-below, tagged-item}
use Rattle.fy_types.proofs.Steps.{drop_item, drop_end, not_so, all-next, all-first, some-next, some-none, front-split, front-next, fronted-length, fronted-end, elem-call, elem-field, field-elem}
use Rattle.fy_types.proofs.ReadLemmas.{plain_elem-Call, plain_elem-Field, plain_path-at, plain_paths-at}
use Rattle.fy_order.proofs.keyed.+keyed.Goals as goal
use Rattle.fy_order.proofs.keyed.+keyed.Goals.{is_path_below-then-xs-ys-via-then-xs-ys, is_path_below-then-xs-ys-via-else-xs-ys+then-not-is_end_below}
use Rattle.fy_order.proofs.keyed.+keyed.Goals.{are_found_below-then-not-branch+in_ok-all+in_ok-is_found_below+else-not-branch-2, are_found_below-else-not-branch}
use Rattle.fy_order.proofs.keyed.+keyed.Goals.{is_found_below-else-place-members-via-then-place-members+in_ok-is_path_below+else-branch, is_found_below-else-place-members-via-else-place-members}

pub is_elem_below-returns-in-Call-y : goal.is_elem_below-returns-in-Call-y
is_elem_below-returns-in-Call-y t c =
    IfOk-weaker c.are_paths_below.result _ _
    (λ r test. let both = rw (c.deref.ensures, c.deref-in-Call-y.ensures) at test in
    rw (c.in-Call.is, c.in-Call-y.is, plain_elem-Call c.in-Call.d, plain_elem-Call c.in-Call-y.e)
    (λ s. elem-call.1 (both.0 s), λ below. both.1 (elem-call.0 below))) c.are_paths_below.ensures

pub is_elem_below-returns-in-Field-y-2 : goal.is_elem_below-returns-in-Field-y-2
is_elem_below-returns-in-Field-y-2 t c =
    rw (c.in-Field.is, c.in-Field-y-2.is, plain_elem-Field c.in-Field.i, plain_elem-Field c.in-Field-y-2.j)
    (λ r. field-elem (eqb-true _ _ r), λ below. eq-eqb _ _ (elem-field below))

pub is_path_below-returns-then-xs-ys : goal.is_path_below-returns-then-xs-ys
is_path_below-returns-then-xs-ys t c =
    let apart : IsPathBelow (plain_path c.args.p.now) (plain_path c.args.q.now) → ⊥ =
    λ below.
    let low = rw (plain_path-at c.args.p.now, plain_path-at c.args.q.now, c.as_slice-xs.ensures.reading, c.as_slice-ys.ensures.reading) at below in
    elim c.then-xs-ys.branch [
      | is_path_below-then-xs-ys-via-then-xs-ys w ↦
          w.if-xs-ys.true (sym (length-map c.as_slice-xs.result.now plain_elem) ∙ (fronted-length _ _ _ _ low ∙ length-map c.as_slice-ys.result.now plain_elem))
      | is_path_below-then-xs-ys-via-else-xs-ys+then-not-is_end_below w ↦
          not_so w.if-not-is_end_below.true w.is_end_below.ensures.1 (fronted-end _ _ _ _ low)
    ] in
    (λ r. cc, λ below. absurd (apart below))

pub is_path_below-returns-then-not-branch : goal.is_path_below-returns-then-not-branch
is_path_below-returns-then-not-branch t c =
    let xs = drop_item plain_elem c.as_slice-xs.result.now c.loop-i.i c.index-xs-i.result c.loop-i-test.true c.index-xs-i.is in
    let ys = drop_item plain_elem c.as_slice-ys.result.now c.loop-i.i c.index-ys-i.result (omega arith) c.index-ys-i.is in (
      λ r. cc,
      λ below. absurd (not_so c.if-not-branch.true c.in_ok-is_elem_below.ensures.1
          (front-split _ _ _ _ (rw (xs, ys) at (c.loop-i.invariant.1 below))).0),
    )

pub is_path_below-loop-i-preserved : goal.is_path_below-loop-i-preserved
is_path_below-loop-i-preserved t c =
    let xs = drop_item plain_elem c.as_slice-xs.result.now c.loop-i.i c.index-xs-i.result c.loop-i-test.true c.index-xs-i.is in
    let ys = drop_item plain_elem c.as_slice-ys.result.now c.loop-i.i c.index-ys-i.result (omega arith) c.index-ys-i.is in
    let step = front-next _ _ (fronted (map plain_elem (drop (c.loop-i.i + 1) c.as_slice-xs.result.now)) (end c.args.p.now.end))
    (fronted (map plain_elem (drop (c.loop-i.i + 1) c.as_slice-ys.result.now)) (end c.args.q.now.end))
    (c.in_ok-is_elem_below.ensures.0 c.if-not-branch.false) in
    let now = rw (xs, ys) at c.loop-i.invariant in
    (λ low. now.0 (step.1 low), λ below. step.0 (now.1 below))

pub is_path_below-returns : goal.is_path_below-returns
is_path_below-returns t c =
    let xs = drop_end plain_elem c.as_slice-xs.result.now c.loop-i.i c.loop-i-test.false in
    let ys = drop_end plain_elem c.as_slice-ys.result.now c.loop-i.i (omega arith) in
    let now = rw (xs, ys) at c.loop-i.invariant in
    (λ r. now.0 (ends (c.is_end_below.ensures.0 c.if-not-is_end_below.false)), λ below. refl)

pub are_keyed_below-is_some_below-requires : goal.are_keyed_below-is_some_below-requires
are_keyed_below-is_some_below-requires t c =
    let item = item-size c.args.b.now c.loop-path.path-index c.path-item.result
    (rw c.as_slice-path-items.ensures.members at c.loop-path-test.true) (rw c.as_slice-path-items.ensures.members at c.path-item.is) in
    let depth = candidates-depth c.args.groups.now c.args.a.now (paths_in c.args.a.now) c.key_of.result c.candidates-list.result.now
    c.requires c.candidates-list.ensures refl in
    search rules

pub are_keyed_below-returns-then-not-branch : goal.are_keyed_below-returns-then-not-branch
are_keyed_below-returns-then-not-branch t c =
    let rest = drop_item plain_path c.as_slice-path-items.result.now c.loop-path.path-index c.path-item.result c.loop-path-test.true c.path-item.is in
    let enough = some-by_index c.args.groups.now (plain_paths c.args.a.now) (paths_in c.args.a.now) c.key_of.result c.candidates-list.result.now
    (plain_path c.path-item.result) c.requires c.key_of.ensures c.candidates-list.ensures (plain_paths-at c.args.a.now) in
    (λ r. cc, λ below. absurd (not_so c.if-not-branch.true c.in_ok-is_some_below.ensures.1 (enough.1 (all-first (rw rest at (c.loop-path.invariant.1 below))))))

pub are_keyed_below-loop-path-preserved : goal.are_keyed_below-loop-path-preserved
are_keyed_below-loop-path-preserved t c =
    let rest = drop_item plain_path c.as_slice-path-items.result.now c.loop-path.path-index c.path-item.result c.loop-path-test.true c.path-item.is in
    let enough = some-by_index c.args.groups.now (plain_paths c.args.a.now) (paths_in c.args.a.now) c.key_of.result c.candidates-list.result.now
    (plain_path c.path-item.result) c.requires c.key_of.ensures c.candidates-list.ensures (plain_paths-at c.args.a.now) in
    let step = all-next {Q = paths_from (map plain_path (drop (c.loop-path.path-index + 1) c.as_slice-path-items.result.now))}
    (enough.0 (c.in_ok-is_some_below.ensures.0 c.if-not-branch.false)) in
    let now = rw rest at c.loop-path.invariant in
    (λ low. now.0 (step.1 low), λ below. step.0 (now.1 below))

pub are_keyed_below-returns : goal.are_keyed_below-returns
are_keyed_below-returns t c =
    let none = drop_end plain_path c.as_slice-path-items.result.now c.loop-path.path-index c.loop-path-test.false in
    let now = rw none at c.loop-path.invariant in
    (λ r. now.0 none_left, λ below. refl)

pub are_few_below-has_below-requires : goal.are_few_below-has_below-requires
are_few_below-has_below-requires t c =
    let item = item-size c.args.b.now c.loop-path.path-index c.path-item.result
    (rw c.as_slice-path-items.ensures.members at c.loop-path-test.true) (rw c.as_slice-path-items.ensures.members at c.path-item.is) in
    search rules

pub are_few_below-returns-then-not-branch : goal.are_few_below-returns-then-not-branch
are_few_below-returns-then-not-branch t c =
    let rest = drop_item plain_path c.as_slice-path-items.result.now c.loop-path.path-index c.path-item.result c.loop-path-test.true c.path-item.is in
    (λ r. cc, λ below. absurd (not_so c.if-not-branch.true c.in_ok-has_below.ensures.1 (all-first (rw rest at (c.loop-path.invariant.1 below)))))

pub are_few_below-loop-path-preserved : goal.are_few_below-loop-path-preserved
are_few_below-loop-path-preserved t c =
    let rest = drop_item plain_path c.as_slice-path-items.result.now c.loop-path.path-index c.path-item.result c.loop-path-test.true c.path-item.is in
    let step = all-next {Q = paths_from (map plain_path (drop (c.loop-path.path-index + 1) c.as_slice-path-items.result.now))}
    (c.in_ok-has_below.ensures.0 c.if-not-branch.false) in
    let now = rw rest at c.loop-path.invariant in
    (λ low. now.0 (step.1 low), λ below. step.0 (now.1 below))

pub are_few_below-returns : goal.are_few_below-returns
are_few_below-returns t c =
    let none = drop_end plain_path c.as_slice-path-items.result.now c.loop-path.path-index c.loop-path-test.false in
    let now = rw none at c.loop-path.invariant in
    (λ r. now.0 none_left, λ below. refl)

pub has_below-returns-then-branch : goal.has_below-returns-then-branch
has_below-returns-then-branch t c =
    let rest = drop_item plain_path c.as_slice-path-items.result.now c.loop-path.path-index c.path-item.result c.loop-path-test.true c.path-item.is in
    let now = rw rest at c.loop-path.invariant in
    (λ r. now.0 (order.here (c.in_ok-is_path_below.ensures.0 c.if-branch.true)), λ some. refl)

pub has_below-loop-path-preserved : goal.has_below-loop-path-preserved
has_below-loop-path-preserved t c =
    let rest = drop_item plain_path c.as_slice-path-items.result.now c.loop-path.path-index c.path-item.result c.loop-path-test.true c.path-item.is in
    let step = some-next {P = paths_from (map plain_path (drop (c.loop-path.path-index + 1) c.as_slice-path-items.result.now))}
    (not_so c.if-branch.false c.in_ok-is_path_below.ensures.1) in
    let now = rw rest at c.loop-path.invariant in
    (λ low. now.0 (step.1 low), λ some. step.0 (now.1 some))

pub has_below-returns : goal.has_below-returns
has_below-returns t c =
    let none = drop_end plain_path c.as_slice-path-items.result.now c.loop-path.path-index c.loop-path-test.false in
    let now = rw none at c.loop-path.invariant in
    (λ r. cc, λ some. absurd (some-none (now.1 some)))

pub is_some_below-is_path_below-requires : goal.is_some_below-is_path_below-requires
is_some_below-is_path_below-requires t c =
    let size = deepest-item c.args.list.now c.loop-path.path-index c.path-item.result c.loop-path-test.true c.path-item.is in search rules

pub is_some_below-returns-then-branch : goal.is_some_below-returns-then-branch
is_some_below-returns-then-branch t c =
    let rest = drop_item (λ (x : Bor Path). plain_path x.now) c.args.list.now c.loop-path.path-index c.path-item.result c.loop-path-test.true c.path-item.is in
    let now = rw rest at c.loop-path.invariant in
    (λ r. now.0 (order.here (c.in_ok-is_path_below.ensures.0 c.if-branch.true)), λ some. refl)

pub is_some_below-loop-path-preserved : goal.is_some_below-loop-path-preserved
is_some_below-loop-path-preserved t c =
    let rest = drop_item (λ (x : Bor Path). plain_path x.now) c.args.list.now c.loop-path.path-index c.path-item.result c.loop-path-test.true c.path-item.is in
    let step = some-next {P = lent (drop (c.loop-path.path-index + 1) c.args.list.now)}
    (not_so c.if-branch.false c.in_ok-is_path_below.ensures.1) in
    let now = rw rest at c.loop-path.invariant in
    (λ low. now.0 (step.1 low), λ some. step.0 (now.1 some))

pub is_some_below-returns : goal.is_some_below-returns
is_some_below-returns t c =
    let none = drop_end (λ (x : Bor Path). plain_path x.now) c.args.list.now c.loop-path.path-index c.loop-path-test.false in
    let now = rw none at c.loop-path.invariant in
    (λ r. cc, λ some. absurd (some-none (now.1 some)))

pub are_found_below-is_found_below-requires : goal.are_found_below-is_found_below-requires
are_found_below-is_found_below-requires t c =
    let item = item-size c.args.b.now c.loop-place.place c.path-item.result
    (rw c.as_slice-path-items.ensures.members at c.loop-place-test.true) (rw c.as_slice-path-items.ensures.members at c.path-item.is) in
    let at = tagged-item 0 c.as_slice-path-items.result.now c.loop-place.place c.path-item.result c.loop-place-test.true c.path-item.is in
    let same : nodes c.as_slice-then-not-branch.result.now ≡ all_tagged 0 (paths_from (map plain_path c.as_slice-path-items.result.now)) =
    ap nodes c.as_slice-then-not-branch.ensures.value ∙ (c.in_ok-others.ensures.nodes
    ∙ (c.in_ok-tagged.ensures ∙ ap (λ P. all_tagged 0 P) (sym c.as_slice.ensures.reading ∙ c.as_slice-path-items.ensures.reading))) in
    let have = c.in_ok-all.ensures (record { tag = 0; path = plain_path c.path-item.result })
    (subst (λ T. IsAt T c.loop-place.place (record { tag = 0; path = plain_path c.path-item.result })) (sym same) at) in
    (search rules, rw (c.as_slice-then-not-branch-3.ensures.value, sym c.requires.nodes) have)

pub are_found_below-returns-then-not-branch-2 : goal.are_found_below-returns-then-not-branch-2
are_found_below-returns-then-not-branch-2 t c =
    let rest = drop_item plain_path c.as_slice-path-items.result.now c.loop-place.place c.path-item.result c.loop-place-test.true c.path-item.is in
    (λ r. cc, λ below. absurd (not_so c.if-not-branch-2.true c.in_ok-is_found_below.ensures.1 (all-first (rw rest at (c.loop-place.invariant.1 below)))))

pub are_found_below-loop-place-preserved : goal.are_found_below-loop-place-preserved
are_found_below-loop-place-preserved t c =
    let rest = drop_item plain_path c.as_slice-path-items.result.now c.loop-place.place c.path-item.result c.loop-place-test.true c.path-item.is in
    let some : HasBelow (plain_paths c.args.a.now) (plain_path c.path-item.result) =
    elim c.if-not-branch.branch [
      | are_found_below-then-not-branch+in_ok-all+in_ok-is_found_below+else-not-branch-2 w ↦ w.in_ok-is_found_below.ensures.0 w.if-not-branch-2.false
      | are_found_below-else-not-branch w ↦ c.in_ok-is_at_below.ensures w.if-not-branch.false
    ] in
    let step = all-next {Q = paths_from (map plain_path (drop (c.loop-place.place + 1) c.as_slice-path-items.result.now))} some in
    let now = rw rest at c.loop-place.invariant in
    (λ low. now.0 (step.1 low), λ below. step.0 (now.1 below))

pub are_found_below-returns : goal.are_found_below-returns
are_found_below-returns t c =
    let none = drop_end plain_path c.as_slice-path-items.result.now c.loop-place.place c.loop-place-test.false in
    let now = rw none at c.loop-place.invariant in
    (λ r. now.0 none_left, λ below. refl)

pub is_at_below-returns-in-Some : goal.is_at_below-returns-in-Some
is_at_below-returns-in-Some t c =
    IfOk-weaker c.is_path_below.result _ _
    (λ r both s. rw c.as_slice-members.ensures.reading (at-below c.as_slice-members.result.now (plain_path c.args.above.now) c.in-Some.place
    c.index-members-place.result c.if-place-members.true c.index-members-place.is (both.0 s))) c.is_path_below.ensures

pub is_found_below-returns-then-branch : goal.is_found_below-returns-then-branch
is_found_below-returns-then-branch t c =
    let some = at-below c.as_slice-members.result.now (plain_path c.args.above.now) (get_or c.args.places.now c.loop-place.place-index 0)
    c.index-members-place.result c.if-place-members.true c.index-members-place.is (c.in_ok-is_path_below.ensures.0 c.if-branch.true) in
    (λ r. rw c.as_slice-members.ensures.reading some, λ below. refl)

pub is_found_below-loop-place-preserved : goal.is_found_below-loop-place-preserved
is_found_below-loop-place-preserved t c =
    none-more c.as_slice-members.result.now c.args.places.now (plain_path c.args.above.now) c.loop-place.place-index c.loop-place.invariant
    (λ x few is low. elim c.else-place-members.branch [
      | is_found_below-else-place-members-via-then-place-members+in_ok-is_path_below+else-branch w ↦
          none-here c.as_slice-members.result.now c.args.places.now (plain_path c.args.above.now) c.loop-place.place-index
          w.index-members-place.result w.if-place-members.true w.index-members-place.is (λ h. not_so w.if-branch.false w.in_ok-is_path_below.ensures.1 h) x is low
      | is_found_below-else-place-members-via-else-place-members w ↦ absurd (omega (arith, few, w.if-place-members.false))
    ])

pub is_found_below-returns : goal.is_found_below-returns
is_found_below-returns t c =
    let none = none-below c.as_slice-members.result.now (plain_path c.args.above.now) c.args.places.now 0
    (rw c.as_slice-members.ensures.reading at c.requires)
    (λ j x within few is low. c.loop-place.invariant j x (omega (arith, c.loop-place-test.false)) few is low) in
    (λ r. cc, λ some. absurd (none (rw c.as_slice-members.ensures.reading at some)))
