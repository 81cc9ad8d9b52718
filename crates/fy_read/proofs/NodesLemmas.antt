-- The nodes that wait, with one more.
use Rattle.std.proofs.Common.{◌≡◌, List, [], ◌∷◌, ◌++◌, map, reverse, refl, ap, sym, ◌∙◌}
use Rattle.std.proofs.lemmas.List.{map_push, reverse-append}
use Rattle.fy_read.specs.declared.nodes.Open.{Open}
use Rattle.fy_derive.specs.declared.derivation.Derivation.{Derivation}
use Rattle.fy_derive.specs.declared.derivation.DerivationList.{DerivationList}
use Rattle.fy_derive.specs.Derivations.{and_derivation}
use Rattle.fy_derive.specs.Reading.{plain_derivation, plain_derivations, derivations_in, derivations_from}
use Rattle.fy_read.specs.Opened.{plain_open, added}
use Rattle.fy_derive.proofs.ReadLemmas.{plain_derivations-at}

pub open-push : (os : List Open) (o : Open) → reverse (map plain_open (os ++ o ∷ [])) ≡ plain_open o ∷ reverse (map plain_open os)
open-push os o = ap reverse (map_push plain_open os o) ∙ reverse-append (map plain_open os) (plain_open o ∷ [])

added-from : (ds : List Derivation) (d : Derivation) →
    derivations_from (map plain_derivation (ds ++ d ∷ [])) ≡ added (derivations_from (map plain_derivation ds)) (plain_derivation d)
added-from [] d = refl
added-from (e ∷ ds) d = ap (and_derivation (plain_derivation e)) (added-from ds d)

-- a list with one more derivation
pub list-push : (old new : DerivationList) (d : Derivation) → derivations_in new ≡ derivations_in old ++ d ∷ [] →
    plain_derivations new ≡ added (plain_derivations old) (plain_derivation d)
list-push old new d e =
    plain_derivations-at new ∙ (ap (λ ds. derivations_from (map plain_derivation ds)) e ∙ (added-from (derivations_in old) d
    ∙ ap (λ ds. added ds (plain_derivation d)) (sym (plain_derivations-at old))))
