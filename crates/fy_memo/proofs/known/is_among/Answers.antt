use Rattle.std.proofs.Common.{ap, ◌∙◌, sym}
use Rattle.fy_derive.specs.Subsumption.{path_below}
use Rattle.fy_memo.proofs.BaseLemmas.{lent-one}
use Rattle.fy_memo.proofs.known.is_among.Goals as goal

pub returns-then-is_same_path : goal.returns-then-is_same_path
returns-then-is_same_path c t q low =
    lent-one c.args.others.now c.loop-other.other-index c.other-item.result q c.loop-other-test.true c.other-item.is
    (ap (λ p. path_below p q) (sym (c.is_same_path.ensures.0 c.if-is_same_path.true)) ∙ low)
