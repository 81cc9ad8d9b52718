use Rattle.std.proofs.Common.{◌≤◌, refl, subst}
use Rattle.fy_lexer.proofs.RunLemmas.{grown-large}
use Rattle.fy_lexer.proofs.literal.value_of.Goals as goal

pub returns-then-value-digit : goal.returns-then-value-digit
returns-then-value-digit c =
    subst (λ n. 9223372036854775808 ≤ n) c.loop-digit.invariant.1
    (grown-large c.args.digits.now c.loop-digit.digit-index c.loop-digit.value _ c.loop-digit-test.true refl c.if-value-digit.true)
