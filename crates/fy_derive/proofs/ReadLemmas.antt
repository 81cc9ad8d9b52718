-- Lists of derivations, read.
use Rattle.std.proofs.Common.{◌≡◌, List, [], ◌∷◌, length, map, refl, ap, ◌∙◌, arith, rules}
use Rattle.fy_derive.specs.declared.derivation.Derivation.{Derivation}
use Rattle.fy_derive.specs.declared.derivation.DerivationList.{DerivationList}
use Rattle.fy_derive.specs.declared.derivation.DerivationList as list_of_derivations
use Rattle.fy_derive.specs.Derivations.{count}
use Rattle.fy_derive.specs.Reading.{plain_derivation, plain_derivations, derivations_in, derivations_from}

pub plain_derivations-at : (l : DerivationList) → plain_derivations l ≡ derivations_from (map plain_derivation (derivations_in l))
plain_derivations-at l = search (rules, list_of_derivations.the_lemmas)

pub count-from : (ds : List Derivation) → count (derivations_from (map plain_derivation ds)) ≡ length ds
count-from [] = refl
count-from (d ∷ ds) = omega (arith, count-from ds)

pub count-in : (l : DerivationList) → count (plain_derivations l) ≡ length (derivations_in l)
count-in l = ap count (plain_derivations-at l) ∙ count-from (derivations_in l)

pub ruleset readings = (plain_derivations-at, count-from)
