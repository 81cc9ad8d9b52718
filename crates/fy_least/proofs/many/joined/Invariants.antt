use Rattle.std.proofs.Common.{◌≡◌, take}
use Rattle.fy_types.specs.Reading.{plain_paths}
use Rattle.fy_types.specs.Limits.{IsWithinLimits}
use Rattle.fy_least.specs.Counts.{nodes_of_forms, AreWithin}
use Rattle.fy_least.specs.Many.{joined, earlier_joined}
use Rattle.fy_least.proofs.many.joined.Given as goal

abbrev pub invariant-loop-i : goal.invariant-loop-i
invariant-loop-i l = record {
  paths : plain_paths l.paths ≡ joined (take l.i l.parts);
  earlier : l.earlier ≡ nodes_of_forms (earlier_joined (take l.i l.parts));
  within : AreWithin (earlier_joined (take l.i l.parts));
  last : IsWithinLimits (joined (take l.i l.parts));
}
