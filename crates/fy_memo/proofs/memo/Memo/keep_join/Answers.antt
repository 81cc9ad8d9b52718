use Rattle.std.proofs.Common.{◌≤◌, sym, ◌∙◌, subst}
use Rattle.fy_types.specs.Limits.{all_nesting, all_nodes, most_nesting, most_nodes}
use Rattle.fy_types.specs.Bounds.{join_of}
use Rattle.fy_types.specs.Reading.{plain_paths}
use Rattle.fy_memo.proofs.MemoLemmas.{right-made}
use Rattle.fy_memo.proofs.memo.Memo.keep_join.Goals as goal

pub invariant_of-push : goal.invariant_of-push
invariant_of-push c = record {
  right = right-made join_of (plain_paths c.in_ok-first.first) (plain_paths c.in_ok-second.second) (plain_paths c.in_ok-joined.joined)
      (plain_paths c.args.pair.0.now) (plain_paths c.args.pair.1.now) (plain_paths c.args.joined.now)
      c.in_ok-first.ensures c.in_ok-second.ensures c.in_ok-joined.ensures c.requires.joined;
  few = subst (λ P. all_nodes P ≤ most_nodes) (sym (c.in_ok-joined.ensures ∙ c.requires.joined)) c.requires.within.few;
  shallow = subst (λ P. all_nesting P ≤ most_nesting) (sym (c.in_ok-joined.ensures ∙ c.requires.joined)) c.requires.within.shallow;
}
