use Rattle.std.proofs.Common.{◌≡◌, ◌++◌, drop, map}
use Rattle.fy_types.specs.Reading.{plain_paths}
use Rattle.fy_causes.specs.Causes.{all_missed}
use Rattle.fy_causes.specs.Readings.{domain_read, missed_read}
use Rattle.fy_causes.proofs.causes.all_missed.Given as goal

abbrev pub invariant-loop-domain : goal.invariant-loop-domain
invariant-loop-domain l =
    map missed_read l.all.items ++ all_missed (plain_paths l.argument) (map domain_read (drop l.domain-index l.domains))
    ≡ all_missed (plain_paths l.argument) (map domain_read l.domains)
