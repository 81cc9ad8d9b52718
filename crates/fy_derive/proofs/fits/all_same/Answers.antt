use Rattle.std.proofs.Common.{◌+◌, ◌&&◌, get_or, drop, sym, ap, ◌∙◌, eq-eqb}
use Rattle.fy_derive.specs.Rules.{all_same}
use Rattle.fy_derive.specs.Shown.{shown, all_shown}
use Rattle.fy_derive.proofs.Standings.{AreIn-at}
use Rattle.fy_derive.proofs.RuleLemmas.{all_same-next, same_shown, eqb_apart}
use Rattle.fy_derive.proofs.fits.all_same.Goals as goal

pub returns-then-other-first : goal.returns-then-other-first
returns-then-other-first c =
    let t = c.args.table.now in
    let ks = c.args.others.now in
    let i = c.loop-other.other-index in
    let rest = all_same (shown t c.args.first) (all_shown t (drop (i + 1) ks)) in
    let test = same_shown t c.args.first (get_or ks i 0) c.requires.first (AreIn-at i c.requires.others c.loop-other-test.true)
    ∙ eqb_apart c.args.first (get_or ks i 0) (λ e. c.if-other-first.true e) in
    sym (sym c.loop-other.invariant ∙ (all_same-next t c.args.first ks i c.loop-other-test.true ∙ ap (λ b. b && rest) test))

pub loop-other-preserved : goal.loop-other-preserved
loop-other-preserved c =
    let t = c.args.table.now in
    let ks = c.args.others.now in
    let i = c.loop-other.other-index in
    let rest = all_same (shown t c.args.first) (all_shown t (drop (i + 1) ks)) in
    let test = same_shown t c.args.first (get_or ks i 0) c.requires.first (AreIn-at i c.requires.others c.loop-other-test.true)
    ∙ eq-eqb c.args.first (get_or ks i 0) (sym c.if-other-first.false) in
    sym (all_same-next t c.args.first ks i c.loop-other-test.true ∙ ap (λ b. b && rest) test) ∙ c.loop-other.invariant
