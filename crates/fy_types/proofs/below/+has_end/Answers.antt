use Rattle.std.proofs.Common.{◌+◌, map, drop, ap, refl}
use Rattle.fy_types.specs.Paths.{end, paths, all_paths}
use Rattle.fy_types.specs.Reading.{plain_type, types_from}
use Rattle.fy_types.proofs.Laws.{HasBelow-left}
use Rattle.fy_types.proofs.Steps.{drop_item, drop_end, not_so, some-none}
use Rattle.fy_types.proofs.TypeForms.{reads_atom, reads_arrow, reads_field}
use Rattle.fy_types.proofs.RestLemmas.{some-rest, no_end-called, no_end-picked, one_end}
use Rattle.fy_types.proofs.below.+has_end.Goals as goal

pub has_member_end-returns-then-has_end : goal.has_member_end-returns-then-has_end
has_member_end-returns-then-has_end t c =
    let rest = drop_item plain_type c.as_slice-ty-items.result.now c.loop-ty.ty-index c.ty-item.result c.loop-ty-test.true c.ty-item.is in
    let now = rw rest at c.loop-ty.invariant in
    (λ r. now.0 (HasBelow-left _ (c.has_end.ensures.0 c.if-has_end.true)), λ some. refl)

pub has_member_end-loop-ty-preserved : goal.has_member_end-loop-ty-preserved
has_member_end-loop-ty-preserved t c =
    let rest = drop_item plain_type c.as_slice-ty-items.result.now c.loop-ty.ty-index c.ty-item.result c.loop-ty-test.true c.ty-item.is in
    let now = rw rest at c.loop-ty.invariant in
    let step = some-rest (paths (plain_type c.ty-item.result))
    (all_paths (types_from (map plain_type (drop (c.loop-ty.ty-index + 1) c.as_slice-ty-items.result.now)))) (end c.args.end)
    (not_so c.if-has_end.false c.has_end.ensures.1) in
    (λ some. now.0 (step.1 some), λ some. step.0 (now.1 some))

pub has_member_end-returns : goal.has_member_end-returns
has_member_end-returns t c =
    let none = drop_end plain_type c.as_slice-ty-items.result.now c.loop-ty.ty-index c.loop-ty-test.false in
    let now = rw none at c.loop-ty.invariant in
    (λ r. cc, λ some. absurd (some-none (now.1 some)))

pub has_end-returns-in-Atom : goal.has_end-returns-in-Atom
has_end-returns-in-Atom t c =
    let same = one_end c.in-Atom.atom c.args.end in
    rw (ap paths (reads_atom c.args.ty.now c.in-Atom.atom c.in-Atom.is))
    (λ r. same.1 (c.is_end_below.ensures.0 r), λ some. c.is_end_below.ensures.1 (same.0 some))

pub has_end-returns-in-Arrow : goal.has_end-returns-in-Arrow
has_end-returns-in-Arrow t c =
    rw (ap paths (reads_arrow c.args.ty.now c.in-Arrow.field-0 c.in-Arrow.field-1 c.in-Arrow.is))
    (λ r. cc, λ some. absurd (no_end-called _ _ some))

pub has_end-returns-in-Field : goal.has_end-returns-in-Field
has_end-returns-in-Field t c =
    rw (ap paths (reads_field c.args.ty.now c.in-Field.field-0 c.in-Field.field-1 c.in-Field.is))
    (λ r. cc, λ some. absurd (no_end-picked _ _ some))
