use Rattle.std.proofs.Common.{sym, ap, ◌∙◌}
use Rattle.fy_types.specs.Bounds.{meet_of}
use Rattle.fy_types.specs.Once.{once}
use Rattle.fy_types.specs.Paths.{append}
use Rattle.fy_types.specs.Reading.{paths_from, plain_path, plain_paths}
use Rattle.fy_types.proofs.Laws.{append-none}
use Rattle.fy_types.proofs.Steps.{drop_end}
use Rattle.fy_causes.specs.Causes.{heads_of}
use Rattle.fy_causes.proofs.WalkLemmas.{heads-more}
use Rattle.fy_causes.proofs.causes.heads_of.Goals as goal

pub loop-path-preserved : goal.loop-path-preserved
loop-path-preserved c =
    heads-more c.as_slice-path-items.result.now c.loop-path.path-index c.path-item.result (plain_paths c.loop-path.heads)
    (plain_paths c.add_head.new.heads) (heads_of (plain_paths c.args.paths.now)) c.loop-path-test.true c.path-item.is c.in_ok-add_head.ensures
    c.loop-path.invariant

pub returns : goal.returns
returns c =
    let H = plain_paths c.loop-path.heads in
    c.in_ok-made.ensures.ok
    ∙ (ap (λ P. meet_of P H) c.no_path.ensures
    ∙ ap once (sym (append-none H)
    ∙ (ap (λ ps. append H (heads_of (paths_from ps)))
    (sym (drop_end plain_path c.as_slice-path-items.result.now c.loop-path.path-index c.loop-path-test.false))
    ∙ c.loop-path.invariant)))
