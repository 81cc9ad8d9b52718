-- What the program's derivations are read as.
use Rattle.std.specs.Prelude.{List, [], ◌∷◌}
use Rattle.fy_types.specs.Reading.{plain_type}
use Rattle.fy_derive.specs.declared.derivation.Derivation.{Derivation, Derivation-F, fold-Derivation}
use Rattle.fy_derive.specs.declared.derivation.DerivationList.{DerivationList, DerivationList-F, fold-DerivationList, out-DerivationList}
use Rattle.fy_derive.specs.Derivations.{PlainDerivation, PlainDerivations, by_ns, sub, meets, alt, left, right, rule, no_derivations, and_derivation}

-- the members of the list
abbrev pub derivations_in : DerivationList → List Derivation
derivations_in l = (out-DerivationList l).items.items

abbrev pub derivations_from : List PlainDerivation → PlainDerivations
derivations_from [] = no_derivations
derivations_from (d ∷ ds) = and_derivation d (derivations_from ds)

abbrev pub derivation_step : Derivation-F PlainDerivation PlainDerivations → PlainDerivation
derivation_step Derivation-F.Ns = by_ns
derivation_step (Derivation-F.Sub T d) = sub (plain_type T) d.value
derivation_step (Derivation-F.Meet ds) = meets ds
derivation_step (Derivation-F.Alt i d) = alt i d.value
derivation_step (Derivation-F.Left d) = left d.value
derivation_step (Derivation-F.Right d) = right d.value
derivation_step (Derivation-F.Rule ds) = rule ds

abbrev pub derivations_step : DerivationList-F PlainDerivation PlainDerivations → PlainDerivations
derivations_step l = derivations_from l.items.items

-- the derivation that a tree is
abbrev pub plain_derivation : Derivation → PlainDerivation
plain_derivation = fold-Derivation PlainDerivation PlainDerivations derivation_step derivations_step

abbrev pub plain_derivations : DerivationList → PlainDerivations
plain_derivations = fold-DerivationList PlainDerivation PlainDerivations derivation_step derivations_step
