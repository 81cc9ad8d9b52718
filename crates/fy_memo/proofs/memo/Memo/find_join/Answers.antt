use Rattle.std.proofs.Common.{subst}
use Rattle.fy_types.specs.Bounds.{join_of}
use Rattle.fy_types.specs.Limits.{IsWithinLimits}
use Rattle.fy_types.specs.Reading.{plain_paths}
use Rattle.fy_memo.proofs.MemoLemmas.{right-again}
use Rattle.fy_memo.proofs.memo.Memo.find_join.Goals as goal

pub returns-then-are_same_paths-2-clause-joined : goal.returns-then-are_same_paths-2-clause-joined
returns-then-are_same_paths-2-clause-joined c =
    let entry = c.index-entry.result.now in
    right-again join_of (plain_paths entry.first) (plain_paths entry.second) (plain_paths entry.joined)
    (plain_paths c.args.a.now) (plain_paths c.args.b.now) entry.right
    (c.are_same_paths.ensures.0 c.if-are_same_paths.true) (c.are_same_paths-then-are_same_paths.ensures.0 c.if-are_same_paths-2.true)

pub returns-then-are_same_paths-2-clause-within : goal.returns-then-are_same_paths-2-clause-within
returns-then-are_same_paths-2-clause-within c =
    let entry = c.index-entry.result.now in
    subst IsWithinLimits
    (right-again join_of (plain_paths entry.first) (plain_paths entry.second) (plain_paths entry.joined)
    (plain_paths c.args.a.now) (plain_paths c.args.b.now) entry.right
    (c.are_same_paths.ensures.0 c.if-are_same_paths.true) (c.are_same_paths-then-are_same_paths.ensures.0 c.if-are_same_paths-2.true))
    (record { few = entry.few; shallow = entry.shallow })
