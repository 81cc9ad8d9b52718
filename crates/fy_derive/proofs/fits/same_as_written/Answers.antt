use Rattle.std.proofs.Common.{ap, sym, ◌∙◌}
use Rattle.fy_types.specs.Reading.{plain_type}
use Rattle.fy_derive.specs.Rules.{provided}
use Rattle.fy_derive.proofs.RuleLemmas.{same_later, eqb_apart}
use Rattle.fy_derive.proofs.fits.same_as_written.Goals as goal

pub returns-else-number-written-clause-shown : goal.returns-else-number-written-clause-shown
returns-else-number-written-clause-shown c =
    let T = plain_type c.args.ty.now in
    let one = c.in_ok-written.ensures in
    let k = c.args.number in
    let m = c.in_ok-written.written in
    ap (λ b. provided b T) (sym (same_later k m T one.extends c.requires one.within one.stands
    ∙ eqb_apart k m (λ e. c.if-number-written.false (sym e))))
