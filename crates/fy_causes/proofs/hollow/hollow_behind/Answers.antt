use Rattle.std.proofs.Common.{◌<◌, ◌≡◌, length, map, get_or, option_map, ap, ◌∙◌, subst, arith}
use Rattle.std.specs.Prelude.{IfOk}
use Rattle.fy_causes.specs.Hollow.{hollow_part}
use Rattle.fy_causes.specs.Readings.{failed_read, occurrence_read, part_at}
use Rattle.fy_causes.proofs.FailLemmas.{failing-past, failing-within}
use Rattle.fy_causes.proofs.hollow.hollow_behind.Goals as goal

pub returns-then-failed-parts : goal.returns-then-failed-parts
returns-then-failed-parts c =
    let ps = c.args.parts.now in
    failing-past ps (failed_read c.in-Some.failed) (omega arith) ∙ ap (hollow_part (map part_at ps)) c.in-Some.ensures

pub returns-else-failed-parts : goal.returns-else-failed-parts
returns-else-failed-parts c =
    let ps = c.args.parts.now in
    let i = c.in-Some.failed.index in
    let within : i < length ps = omega arith in
    subst (λ X. IfOk c.hollow.result (λ o. option_map occurrence_read o ≡ X))
    (failing-within ps (failed_read c.in-Some.failed) (get_or ps i c.index-parts-failed.result) within (ap (get_or ps i) c.index-parts-failed.is)
    ∙ ap (hollow_part (map part_at ps)) c.in-Some.ensures) c.hollow.ensures
