use Rattle.std.proofs.Common.{◌≡◌, []}
use Rattle.fy_derive.specs.Reading.{derivations_in}
use Rattle.fy_least.proofs.many.meet_of.Given as goal

abbrev pub invariant-loop-member : goal.invariant-loop-member
invariant-loop-member l = record {
  list : derivations_in l.list ≡ l.yielded;
  one : l.count ≡ 1 → l.yielded ≡ [];
}
