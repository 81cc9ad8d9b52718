use Rattle.std.proofs.Common.{◌+◌, ◌<◌, ◌≤◌, length, get_or, sym, ap, ◌∙◌, subst, arith}
use Rattle.std.proofs.lemmas.Result.{err_from_is_err_and}
use Rattle.std.proofs.lemmas.List.{take_all}
use Rattle.fy_types.specs.Reading.{plain_paths}
use Rattle.fy_types.specs.Bounds.{join_of}
use Rattle.fy_types.specs.Limits.{IsTooLarge, IsWithinLimits}
use Rattle.fy_least.specs.Counts.{AreWithin, no_forms, nodes_of_forms}
use Rattle.fy_least.specs.Many.{joined, earlier_joined}
use Rattle.fy_least.proofs.AnswerLemmas.{large-error}
use Rattle.fy_least.proofs.ErrorLemmas.{large-again}
use Rattle.fy_least.proofs.JoinLemmas.{earlier-counted, earlier-refused, earlier-within, joined-more, joined-refused, one-earlier, one-joined, two-earlier, two-joined}
use Rattle.fy_least.proofs.many.joined.Goals as goal

pub returns-then-parts-eq1-clause-paths : goal.returns-then-parts-eq1-clause-paths
returns-then-parts-eq1-clause-paths c =
    c.in_ok-copy_paths.ensures ∙ one-joined c.args.parts.now (get_or c.args.parts.now 0 c.index-parts-0.result) c.if-parts-eq1.true
    (ap (get_or c.args.parts.now 0) c.index-parts-0.is)

pub returns-then-parts-eq1-clause-earlier : goal.returns-then-parts-eq1-clause-earlier
returns-then-parts-eq1-clause-earlier c = sym (ap nodes_of_forms (one-earlier c.args.parts.now c.if-parts-eq1.true))

pub returns-then-parts-eq1-clause-within : goal.returns-then-parts-eq1-clause-within
returns-then-parts-eq1-clause-within c = subst AreWithin (sym (one-earlier c.args.parts.now c.if-parts-eq1.true)) no_forms

pub returns-clause-paths : goal.returns-clause-paths
returns-clause-paths c =
    let past : length c.args.parts.now ≤ c.loop-i.i = omega arith in
    c.loop-i.invariant.paths ∙ ap joined (take_all c.loop-i.i c.args.parts.now past)

pub returns-clause-earlier : goal.returns-clause-earlier
returns-clause-earlier c =
    let past : length c.args.parts.now ≤ c.loop-i.i = omega arith in
    c.loop-i.invariant.earlier ∙ ap (λ xs. nodes_of_forms (earlier_joined xs)) (take_all c.loop-i.i c.args.parts.now past)

pub returns-clause-within : goal.returns-clause-within
returns-clause-within c =
    let past : length c.args.parts.now ≤ c.loop-i.i = omega arith in
    subst (λ xs. AreWithin (earlier_joined xs)) (take_all c.loop-i.i c.args.parts.now past) c.loop-i.invariant.within

pub returns-in_err-paths-clause-large : goal.returns-in_err-paths-clause-large
returns-in_err-paths-clause-large c =
    let p = err_from_is_err_and c.from_residual-in_err-paths.result c.from_residual-in_err-paths.ensures.1 in
    let fs = c.args.parts.now in
    let some : 1 < length fs = omega arith in
    rw (p.1, p.2) (λ e. joined-refused fs 2 (omega arith) some
    (subst IsTooLarge (two-joined fs (get_or fs 0 c.index-parts-0.result) (get_or fs 1 c.index-parts-1.result) some
    (ap (get_or fs 0) c.index-parts-0.is) (ap (get_or fs 1) c.index-parts-1.is))
    (c.in_err-paths.ensures.large (large-error _ e))))

pub loop-i-init : goal.loop-i-init
loop-i-init c =
    let fs = c.args.parts.now in
    let some : 1 < length fs = omega arith in
    let two = two-joined fs (get_or fs 0 c.index-parts-0.result) (get_or fs 1 c.index-parts-1.result) some
    (ap (get_or fs 0) c.index-parts-0.is) (ap (get_or fs 1) c.index-parts-1.is) in
    record {
      paths = c.in_ok-paths.ensures.ok ∙ two;
      earlier = sym (ap nodes_of_forms (two-earlier fs));
      within = subst AreWithin (sym (two-earlier fs)) no_forms;
      last = subst IsWithinLimits two c.in_ok-paths.ensures.within;
    }

pub returns-in_err-earlier-clause-large : goal.returns-in_err-earlier-clause-large
returns-in_err-earlier-clause-large c =
    let p = err_from_is_err_and c.from_residual-in_err-earlier.result c.from_residual-in_err-earlier.ensures.1 in
    let fs = c.args.parts.now in
    let i = c.loop-i.i in
    let inv = c.loop-i.invariant in
    let pos : 1 < i = omega arith in
    let within : i < length fs = omega arith in
    rw (p.1, p.2) (λ e. earlier-refused fs i c.loop-i.earlier c.size_of_paths.result.nodes (plain_paths c.loop-i.paths) pos within
    inv.earlier inv.paths inv.last c.size_of_paths.ensures.nodes (c.in_err-earlier.ensures.large (large-again _ e)))

pub returns-in_err-paths-2-clause-large : goal.returns-in_err-paths-2-clause-large
returns-in_err-paths-2-clause-large c =
    let p = err_from_is_err_and c.from_residual-in_err-paths-2.result c.from_residual-in_err-paths-2.ensures.1 in
    let fs = c.args.parts.now in
    let i = c.loop-i.i in
    let f = get_or fs i c.index-parts-i.result in
    let pos : 0 < i = omega arith in
    let pos' : 1 < i + 1 = omega arith in
    let within : i < length fs = omega arith in
    let within' : i + 1 ≤ length fs = omega arith in
    rw (p.1, p.2) (λ e. joined-refused fs (i + 1) pos' within'
    (subst IsTooLarge (ap (λ P. join_of P (plain_paths f.paths)) c.loop-i.invariant.paths
    ∙ sym (joined-more fs i f pos within (ap (get_or fs i) c.index-parts-i.is)))
    (c.in_err-paths-2.ensures.large (large-error _ e))))

pub loop-i-preserved : goal.loop-i-preserved
loop-i-preserved c =
    let fs = c.args.parts.now in
    let i = c.loop-i.i in
    let f = get_or fs i c.index-parts-i.result in
    let inv = c.loop-i.invariant in
    let pos : 0 < i = omega arith in
    let more : 1 < i = omega arith in
    let within : i < length fs = omega arith in
    let next = ap (λ P. join_of P (plain_paths f.paths)) inv.paths ∙ sym (joined-more fs i f pos within (ap (get_or fs i) c.index-parts-i.is)) in
    record {
      paths = c.in_ok-paths-2.ensures.ok ∙ next;
      earlier = c.in_ok-earlier.ensures.sum
          ∙ earlier-counted fs i c.loop-i.earlier c.size_of_paths.result.nodes (plain_paths c.loop-i.paths) more within inv.earlier inv.paths inv.last
          c.size_of_paths.ensures.nodes;
      within = earlier-within fs i more within inv.within inv.last;
      last = subst IsWithinLimits next c.in_ok-paths-2.ensures.within;
    }
