-- Units put together, the last one first.
use Rattle.std.proofs.Common.{ℕ, ◌+◌, ◌<◌, ◌≡◌, List, [], ◌∷◌, length, map, take, drop, get_or, Bool, true, false, cond, Option, Some, None, Bor, refl, sym, ap, ◌∙◌, arith}
use Rattle.std.proofs.lemmas.List.{drop_more, length-drop, length-map}
use Rattle.fy_types.specs.declared.types.Ty.{Ty}
use Rattle.fy_types.specs.Types.{PlainType}
use Rattle.fy_derive.specs.Derivations.{PlainDerivation, rule, no_derivations, and_derivation}
use Rattle.fy_derive.specs.Rules.{same_type}
use Rattle.fy_derive.proofs.RuleLemmas.{same_type-refl, same_type-true}
use Rattle.fy_link.specs.declared.unit.Unit.{Unit as UnitValue}
use Rattle.fy_link.specs.Sources.{Named}
use Rattle.fy_link.specs.Units.{PlainUnit, plain_unit}
use Rattle.fy_link.specs.declared.composed.Wanted as form
use Rattle.fy_link.specs.declared.composed.Wanted.{Wanted as WantedValue}
use Rattle.fy_link.specs.Composed.{placed_unit, units_derivation, wanted, wanted_at}
use Rattle.fy_link.specs.Placing.{plain_optional, plain_wanted, plain_wanted_types, wanted_for, wanted_in}
use Rattle.fy_link.specs.Read.{owns_before}
use Rattle.fy_link.proofs.CauseLemmas.{owns-more}
use Rattle.fy_link.proofs.PlacingLemmas.{wanted-imports, wanted-of}

-- the units from one on
pub units-from : (values : List UnitValue) (i : ℕ) (v : UnitValue) → i < length values → v ≡ get_or values i v →
    map plain_unit (drop i values) ≡ plain_unit v ∷ map plain_unit (drop (i + 1) values)
units-from values i v h e =
    ap (map plain_unit) (drop_more values i v h) ∙ ap (λ (y : UnitValue). plain_unit y ∷ map plain_unit (drop (i + 1) values)) (sym e)

-- each other one is a definition around those behind it
pub units-more : (earlier : List Named) (u : PlainUnit) (more : List PlainUnit) → 0 < length more →
    units_derivation earlier (u ∷ more)
    ≡ rule (and_derivation (placed_unit earlier u) (and_derivation (units_derivation (u.source.own ∷ earlier) more) no_derivations))
units-more earlier u [] h = absurd (omega (arith, h))
units-more earlier u (v ∷ more) h = refl

-- the derivation of the units from one on, of which others are behind it
pub more-step : (values : List UnitValue) (i : ℕ) (v : UnitValue) (own made new : PlainDerivation) → i < length values → v ≡ get_or values i v → i + 1 < length values →
    own ≡ placed_unit (owns_before (take i values)) (plain_unit v) →
    made ≡ units_derivation (owns_before (take (i + 1) values)) (map plain_unit (drop (i + 1) values)) →
    new ≡ rule (and_derivation own (and_derivation made no_derivations)) →
    new ≡ units_derivation (owns_before (take i values)) (map plain_unit (drop i values))
more-step values i v own made new h e more one so is =
    is
    ∙ (ap (λ d. rule (and_derivation d (and_derivation made no_derivations))) one
    ∙ (ap (λ d. rule (and_derivation (placed_unit earlier u) (and_derivation d no_derivations)))
    (so ∙ ap (λ owns. units_derivation owns rest) (owns-more values i v h e))
    ∙ (sym (units-more earlier u rest some) ∙ ap (units_derivation earlier) (sym (units-from values i v h e)))))
  where
    earlier : List Named
    earlier = owns_before (take i values)

    u : PlainUnit
    u = plain_unit v

    rest : List PlainUnit
    rest = map plain_unit (drop (i + 1) values)

    some : 0 < length rest
    some = omega (arith, length-map (drop (i + 1) values) plain_unit, length-drop (i + 1) values, more)

-- the wanted types of a unit's imports
pub imports-wanted : (w : WantedValue) (types : Bor (List (Option (Bor Ty)))) (items : List (Option (Bor Ty))) (earlier imports : List Named) →
    w ≡ form.Imports types → types.now ≡ items → map plain_optional items ≡ map (wanted_for earlier) imports → plain_wanted w ≡ wanted imports earlier
imports-wanted w types items earlier imports e n so =
    wanted-imports w types e ∙ (ap plain_wanted_types n ∙ (ap wanted_in so ∙ wanted-of earlier imports))

-- the type that is wanted for an import, by that of its exporting unit
pub not-wanted : (o : Option PlainType) (B A : PlainType) → o ≡ Some B → B ≡ A → None ≡ wanted_at o A
not-wanted o B A e same =
    sym (ap (λ x. wanted_at x A) e ∙ ap (λ b. cond b None (Some A)) (ap (λ C. same_type C A) same ∙ same_type-refl A))

pub is-wanted : (o : Option PlainType) (B A : PlainType) → o ≡ Some B → (B ≡ A → ⊥) → Some A ≡ wanted_at o A
is-wanted o B A e other = sym (ap (λ x. wanted_at x A) e ∙ ap (λ b. cond b None (Some A)) (untrue (same_type B A) (λ h. other (same_type-true B A h))))
  where
    untrue : (b : Bool) → (b ≡ true → ⊥) → b ≡ false
    untrue true h = absurd (h refl)
    untrue false h = refl
