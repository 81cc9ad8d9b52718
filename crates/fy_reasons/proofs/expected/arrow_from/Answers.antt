use Rattle.std.proofs.Common.{◌≡◌, ◌<◌, get_or, sym, ap, ◌∙◌, arith, eq-eqb}
use Rattle.fy_derive.specs.Shown.{total, shown, types_in}
use Rattle.fy_derive.proofs.Standings.{AreIn-at}
use Rattle.fy_derive.proofs.RuleLemmas.{eqb_apart}
use Rattle.fy_reasons.specs.Expected.{has_domain}
use Rattle.fy_reasons.proofs.AskLemmas.{find-here, find-next, from-arrow, from-other}
use Rattle.fy_reasons.proofs.expected.arrow_from.Goals as goal
use Rattle.fy_reasons.proofs.expected.arrow_from.Goals.{in-Arrow+else-domain-from, in_default}

pub returns-then-domain-from-clause-first : goal.returns-then-domain-from-clause-first
returns-then-domain-from-clause-first c =
    let t = c.args.table.now in
    let ks = c.args.all.now in
    let i = c.loop-number.number-index in
    let here : get_or ks i 0 < total t = AreIn-at i c.requires.all c.loop-number-test.true in
    find-here (has_domain (shown t c.args.from)) t ks i _ c.loop-number-test.true
    (from-arrow t (shown t (get_or ks i 0)) c.in-Arrow.domain c.in-Arrow.field-1 c.args.from c.in-Arrow.ensures.stands
    (omega (arith, c.in-Arrow.ensures.parts, here)) c.requires.from
    ∙ eq-eqb c.in-Arrow.domain c.args.from c.if-domain-from.true)
    c.loop-number.invariant

pub loop-number-preserved : goal.loop-number-preserved
loop-number-preserved c =
    let t = c.args.table.now in
    let ks = c.args.all.now in
    let i = c.loop-number.number-index in
    let here : get_or ks i 0 < total t = AreIn-at i c.requires.all c.loop-number-test.true in
    elim c.match-node.branch [
      | in-Arrow+else-domain-from w ↦
          (find-next (has_domain (shown t c.args.from)) t ks i _ c.loop-number-test.true
          (from-arrow t (shown t (get_or ks i 0)) w.in-Arrow.domain w.in-Arrow.field-1 c.args.from w.in-Arrow.ensures.stands
          (omega (arith, w.in-Arrow.ensures.parts, here)) c.requires.from
          ∙ eqb_apart w.in-Arrow.domain c.args.from (λ e. w.if-domain-from.false (sym e)))
          c.loop-number.invariant)
      | in_default w ↦
          (find-next (has_domain (shown t c.args.from)) t ks i _ c.loop-number-test.true
          (ap (has_domain (shown t c.args.from)) c.node.ensures.stands
          ∙ from-other (types_in t) c.node.result (shown t c.args.from) c.node.ensures.meet w.in_default.not-Arrow)
          c.loop-number.invariant)
    ]
