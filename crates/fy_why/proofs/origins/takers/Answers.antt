use Rattle.std.proofs.Common.{◌+◌, map, drop, sym, ap, ◌∙◌}
use Rattle.fy_types.specs.Paths.{append}
use Rattle.fy_types.specs.Reading.{paths_from, plain_path, plain_paths}
use Rattle.fy_types.proofs.Laws.{append-none}
use Rattle.fy_types.proofs.Steps.{drop_end}
use Rattle.fy_why.specs.Origins.{takers}
use Rattle.fy_why.proofs.TakerLemmas.{takers-more, takers-skip}
use Rattle.fy_why.proofs.origins.takers.Goals as goal
use Rattle.fy_why.proofs.origins.takers.Goals.{then-branch+in_ok-copy_path+in_ok-push, else-branch}

pub loop-path-preserved : goal.loop-path-preserved
loop-path-preserved c =
    let Q = plain_paths c.args.argument.now in
    let xs = c.as_slice-path-items.result.now in
    let i = c.loop-path.path-index in
    let x = c.path-item.result in
    let W = takers Q (plain_paths c.args.all.now) in
    let rest = takers Q (paths_from (map plain_path (drop (i + 1) xs))) in
    elim c.if-branch.branch [
      | then-branch+in_ok-copy_path+in_ok-push w ↦
          ap (λ m. append (plain_paths m) rest) w.made-is
          ∙ takers-more Q xs i x c.loop-path.made w.push.new.self w.in_ok-copy_path.field-0 W c.loop-path-test.true c.path-item.is
          (sym c.in_ok-takes.ensures ∙ w.if-branch.true) w.in_ok-push.ensures.ok w.in_ok-copy_path.ensures c.loop-path.invariant
      | else-branch w ↦
          ap (λ m. append (plain_paths m) rest) w.made-is
          ∙ takers-skip Q xs i x (plain_paths c.loop-path.made) W c.loop-path-test.true c.path-item.is (sym c.in_ok-takes.ensures ∙ w.if-branch.false)
          c.loop-path.invariant
    ]

pub returns : goal.returns
returns c =
    let Q = plain_paths c.args.argument.now in
    let made = plain_paths c.loop-path.made in
    sym (append-none made)
    ∙ (ap (λ ps. append made (takers Q (paths_from ps)))
    (sym (drop_end plain_path c.as_slice-path-items.result.now c.loop-path.path-index c.loop-path-test.false))
    ∙ c.loop-path.invariant)
