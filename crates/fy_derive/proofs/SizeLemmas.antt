-- One more derivation of a list, in a loop over its members.
use Rattle.std.proofs.Common.{◌≡◌, ℕ, ◌+◌, ◌<◌, List, [], ◌∷◌, ◌++◌, length, get_or, take, map, max, refl, ap, ◌∙◌, arith}
use Rattle.std.proofs.lemmas.List.{take_more}
use Rattle.fy_derive.specs.declared.derivation.Derivation.{Derivation}
use Rattle.fy_derive.specs.Derivations.{nodes, all_nodes, nesting, all_nesting}
use Rattle.fy_derive.specs.Reading.{plain_derivation, derivations_from}

all_nodes-push : (ds : List Derivation) (d : Derivation) →
    all_nodes (derivations_from (map plain_derivation (ds ++ d ∷ []))) ≡ all_nodes (derivations_from (map plain_derivation ds)) + nodes (plain_derivation d)
all_nodes-push [] d = omega arith
all_nodes-push (e ∷ ds) d = omega (arith, all_nodes-push ds d)

all_nesting-push : (ds : List Derivation) (d : Derivation) →
    all_nesting (derivations_from (map plain_derivation (ds ++ d ∷ []))) ≡ max (all_nesting (derivations_from (map plain_derivation ds))) (nesting (plain_derivation d))
all_nesting-push [] d = omega arith
all_nesting-push (e ∷ ds) d = omega (arith, all_nesting-push ds d)

pub all_nodes-more : (ds : List Derivation) (i : ℕ) (d : Derivation) → i < length ds → (get_or ds i d ≡ get_or ds i d) ×
    (all_nodes (derivations_from (map plain_derivation (take (i + 1) ds))) ≡ all_nodes (derivations_from (map plain_derivation (take i ds))) + nodes (plain_derivation (get_or ds i d)))
all_nodes-more ds i d h =
    (refl, ap (λ es. all_nodes (derivations_from (map plain_derivation es))) (take_more ds i d h) ∙ all_nodes-push (take i ds) (get_or ds i d))

pub all_nesting-more : (ds : List Derivation) (i : ℕ) (d : Derivation) → i < length ds → (get_or ds i d ≡ get_or ds i d) ×
    (all_nesting (derivations_from (map plain_derivation (take (i + 1) ds))) ≡ max (all_nesting (derivations_from (map plain_derivation (take i ds)))) (nesting (plain_derivation (get_or ds i d))))
all_nesting-more ds i d h =
    (refl, ap (λ es. all_nesting (derivations_from (map plain_derivation es))) (take_more ds i d h) ∙ all_nesting-push (take i ds) (get_or ds i d))

pub ruleset sizes = (all_nodes-more, all_nesting-more)
