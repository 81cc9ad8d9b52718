use Rattle.std.proofs.Common.{◌+◌, ◌<◌, ◌≤◌, length, get_or, ap, ◌∙◌, subst, arith}
use Rattle.std.proofs.lemmas.Result.{err_from_is_err_and}
use Rattle.fy_types.specs.Reading.{plain_paths}
use Rattle.fy_types.specs.Once.{once}
use Rattle.fy_types.specs.Limits.{IsTooLarge}
use Rattle.fy_memo.proofs.EachLemmas.{empty-paths}
use Rattle.fy_least.proofs.AnswerLemmas.{large-error}
use Rattle.fy_least.proofs.CallLemmas.{called-all, called-next, large-body, large-bodies}
use Rattle.fy_least.proofs.many.paths_of_calls.Goals as goal

pub loop-i-init : goal.loop-i-init
loop-i-init c = empty-paths c.new-paths.result c.new-paths.ensures

pub returns-in_err-called-clause-large : goal.returns-in_err-called-clause-large
returns-in_err-called-clause-large c =
    let p = err_from_is_err_and c.from_residual.result c.from_residual.ensures.1 in
    let within : c.loop-i.i < length c.args.bodies.now = omega arith in
    rw (p.1, p.2) (λ e. large-body c.args.alternatives.now c.args.bodies.now c.loop-i.i c.index-alternatives-i.result
    (get_or c.args.bodies.now c.loop-i.i c.index-bodies-i.result)
    c.requires.same c.requires.once within c.index-alternatives-i.is (ap (get_or c.args.bodies.now c.loop-i.i) c.index-bodies-i.is)
    (c.in_err-called.ensures.large (large-error _ e)))

pub returns-in_err-paths-clause-large : goal.returns-in_err-paths-clause-large
returns-in_err-paths-clause-large c =
    let p = err_from_is_err_and c.from_residual-in_err-paths.result c.from_residual-in_err-paths.ensures.1 in
    let within : c.loop-i.i < length c.args.bodies.now = omega arith in
    let next = called-next c.args.alternatives.now c.args.bodies.now c.loop-i.i c.index-alternatives-i.result
    (get_or c.args.bodies.now c.loop-i.i c.index-bodies-i.result)
    (plain_paths c.loop-i.paths) (plain_paths c.in_ok-called.called) c.requires.same within c.index-alternatives-i.is
    (ap (get_or c.args.bodies.now c.loop-i.i) c.index-bodies-i.is)
    c.loop-i.invariant c.in_ok-called.ensures.ok in
    rw (p.1, p.2) (λ e. large-bodies c.args.alternatives.now c.args.bodies.now (c.loop-i.i + 1) c.requires.same
    (subst IsTooLarge next (c.in_err-paths.ensures.large (large-error _ e))))

pub loop-i-preserved : goal.loop-i-preserved
loop-i-preserved c =
    let within : c.loop-i.i < length c.args.bodies.now = omega arith in
    c.in_ok-paths.ensures.ok
    ∙ called-next c.args.alternatives.now c.args.bodies.now c.loop-i.i c.index-alternatives-i.result
    (get_or c.args.bodies.now c.loop-i.i c.index-bodies-i.result)
    (plain_paths c.loop-i.paths) (plain_paths c.in_ok-called.called) c.requires.same within c.index-alternatives-i.is
    (ap (get_or c.args.bodies.now c.loop-i.i) c.index-bodies-i.is)
    c.loop-i.invariant c.in_ok-called.ensures.ok

pub returns-clause-ok : goal.returns-clause-ok
returns-clause-ok c =
    let past : length c.args.bodies.now ≤ c.loop-i.i = omega arith in
    c.loop-i.invariant ∙ ap once (called-all c.args.alternatives.now c.args.bodies.now c.loop-i.i c.requires.same past)
