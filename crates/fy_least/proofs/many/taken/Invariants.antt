use Rattle.std.proofs.Common.{◌≡◌, length, map}
use Rattle.fy_derive.specs.Reading.{derivations_from, plain_derivation}
use Rattle.fy_least.specs.Many.{AreAlternatives}
use Rattle.fy_least.proofs.many.taken.Given as goal

abbrev pub invariant-loop-body : goal.invariant-loop-body
invariant-loop-body l = record {
  index : l.index ≡ length l.yielded;
  members : AreAlternatives 0 l.yielded (derivations_from (map plain_derivation l.members.items));
}
