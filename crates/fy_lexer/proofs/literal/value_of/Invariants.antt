use Rattle.std.proofs.Common.{◌≡◌, ◌+◌, ◌-◌, ◌*◌, ◌<◌, ◌^◌, drop, fold}
use Rattle.fy_lexer.specs.Spellings.{decimal}
use Rattle.fy_lexer.proofs.literal.value_of.Given as goal

-- the value so far, which the digits that are left take to the whole value
abbrev pub invariant-loop-digit : goal.invariant-loop-digit
invariant-loop-digit l =
    (l.value < 2 ^ 63) × (fold (λ value digit. 10 * value + (digit - 48)) l.value (drop l.digit-index l.digits) ≡ decimal l.digits)
