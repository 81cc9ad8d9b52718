use Rattle.std.proofs.Common.{◌+◌, map, drop, sym, ◌∙◌}
use Rattle.fy_types.specs.Reading.{plain_path, paths_from}
use Rattle.fy_types.proofs.Steps.{drop_item}
use Rattle.fy_types.proofs.OnceLemmas.{contains-first, contains-later}
use Rattle.fy_forms.proofs.same.has_path.Goals as goal

pub returns-then-is_same_path : goal.returns-then-is_same_path
returns-then-is_same_path c =
    let rest = drop_item plain_path c.as_slice-member-items.result.now c.loop-member.member-index c.member-item.result c.loop-member-test.true c.member-item.is in
    contains-first (plain_path c.args.path.now) (plain_path c.member-item.result)
    (paths_from (map plain_path (drop (c.loop-member.member-index + 1) c.as_slice-member-items.result.now)))
    c.if-is_same_path.true c.is_same_path.ensures.0
    ∙ (rw rest at c.loop-member.invariant)

pub loop-member-preserved : goal.loop-member-preserved
loop-member-preserved c =
    let rest = drop_item plain_path c.as_slice-member-items.result.now c.loop-member.member-index c.member-item.result c.loop-member-test.true c.member-item.is in
    sym (contains-later (plain_path c.args.path.now) (plain_path c.member-item.result)
    (paths_from (map plain_path (drop (c.loop-member.member-index + 1) c.as_slice-member-items.result.now)))
    c.if-is_same_path.false c.is_same_path.ensures.1)
    ∙ (rw rest at c.loop-member.invariant)
