use Rattle.std.proofs.Common.{◌≡◌, ◌≤◌, ◌-◌, ◌^◌, min, drop}
use Rattle.fy_words.specs.Order.{number_from}
use Rattle.fy_words.proofs.words.number_of.Given as goal

-- what is left decides
abbrev pub invariant-loop-digit : goal.invariant-loop-digit
invariant-loop-digit l = record {
  left : min (number_from l.number (drop l.digit-index l.digit-items)) (2 ^ 64 - 1) ≡ min (number_from 0 l.text) (2 ^ 64 - 1);
  fits : l.number ≤ 2 ^ 64 - 1;
}
