use Rattle.std.proofs.Common.{◌≡◌, ◌++◌, map, take}
use Rattle.fy_derive.specs.Reading.{plain_derivation, derivations_from}
use Rattle.fy_derive.specs.Print.{derivations_text}
use Rattle.fy_derive.proofs.print.+print.Given as goal

abbrev pub invariant-put_derivations-loop-d : goal.invariant-put_derivations-loop-d
invariant-put_derivations-loop-d l = l.text ≡ l.initial.text ++ derivations_text l.names (derivations_from (map plain_derivation (take l.d-index l.d-items)))
