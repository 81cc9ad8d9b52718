-- Lists of derivations that are made of what is found, one after another; sums and blame over what is found.
use Rattle.std.proofs.Common.{ℕ, ◌+◌, ◌<◌, ◌≤◌, ◌≡◌, ◌≢◌, List, [], ◌∷◌, ◌++◌, length, map, take, drop, get_or, refl, sym, ap, ◌∙◌, subst, arith}
use Rattle.std.proofs.lemmas.List.{map-id, take-append-drop, take_more, take_all, at_drop_more}
use Rattle.fy_base.specs.declared.data.Place.{Place}
use Rattle.fy_types.specs.Types.{PlainType}
use Rattle.fy_types.specs.Nested.{IsTypeOf}
use Rattle.fy_types.specs.Reading.{paths_in, plain_paths}
use Rattle.fy_derive.specs.declared.derivation.Derivation as form
use Rattle.fy_derive.specs.declared.derivation.Derivation.{Derivation, Derivation-F, fold-roll-Derivation}
use Rattle.fy_derive.specs.declared.derivation.Derivation.TheVariants.{rolls-Meet, rolls-Rule}
use Rattle.fy_derive.specs.declared.derivation.DerivationList.{DerivationList}
use Rattle.fy_derive.specs.Derivations.{PlainDerivation, PlainDerivations, meets, alt, rule, sub, no_derivations, and_derivation}
use Rattle.fy_derive.specs.Reading.{derivations_in, derivations_from, derivation_step, derivations_step, plain_derivation, plain_derivations}
use Rattle.fy_derive.proofs.ReadLemmas.{plain_derivations-at}
use Rattle.fy_least.specs.declared.found.Found.{Found}
use Rattle.fy_least.specs.Many.{AreAlternatives, IsAlternative, no_more, and_more, all_at, blame_at_first, blame_at_some, meet_of_all, total_of}
use Rattle.fy_least.specs.Visited.{blame_at, derivation_of}
use Rattle.fy_least.proofs.BlameLemmas.{blamed, not-blamed}

-- the derivations with one more at the end
abbrev pub with_last : PlainDerivations → PlainDerivation → PlainDerivations
with_last no_derivations d = and_derivation d no_derivations
with_last (and_derivation e ds) d = and_derivation e (with_last ds d)

pub derivations-push : (xs : List Derivation) (x : Derivation) →
    derivations_from (map plain_derivation (xs ++ x ∷ [])) ≡ with_last (derivations_from (map plain_derivation xs)) (plain_derivation x)
derivations-push [] x = refl
derivations-push (y ∷ xs) x = ap (and_derivation (plain_derivation y)) (derivations-push xs x)

pub AreAlternatives-push : {i : ℕ} {fs : List Found} {ds : PlainDerivations} (j : ℕ) (f : Found) (A : PlainType) → AreAlternatives i fs ds →
    j ≡ i + length fs → IsTypeOf (plain_paths f.paths) A → AreAlternatives i (fs ++ f ∷ []) (with_last ds (alt j (sub A (derivation_of f))))
AreAlternatives-push {i = i} j f A no_more e p =
    let same : i ≡ j = omega arith in
    subst (λ k. AreAlternatives i (f ∷ []) (and_derivation (alt k (sub A (derivation_of f))) no_derivations)) same (and_more A p no_more)
AreAlternatives-push j f A (and_more B q h) e p = and_more B q (AreAlternatives-push j f A h (omega arith) p)

pub all_at-push : (A : PlainType) (fs : List Found) (f : Found) → all_at A (fs ++ f ∷ []) ≡ with_last (all_at A fs) (sub A (derivation_of f))
all_at-push A [] f = refl
all_at-push A (g ∷ fs) f = ap (and_derivation (sub A (derivation_of g))) (all_at-push A fs f)

Meet-derivation : (list : DerivationList) → plain_derivation (form.Meet list) ≡ meets (plain_derivations list)
Meet-derivation list =
    ap plain_derivation (sym (rolls-Meet list))
    ∙ fold-roll-Derivation PlainDerivation PlainDerivations derivation_step derivations_step (Derivation-F.Meet list)

Rule-derivation : (list : DerivationList) → plain_derivation (form.Rule list) ≡ rule (plain_derivations list)
Rule-derivation list =
    ap plain_derivation (sym (rolls-Rule list))
    ∙ fold-roll-Derivation PlainDerivation PlainDerivations derivation_step derivations_step (Derivation-F.Rule list)

-- one alternative more, and one part more
pub taken-more : (fs : List Found) (f : Found) (xs ys : List Derivation) (i : ℕ) (x : Derivation) →
    AreAlternatives 0 fs (derivations_from (map plain_derivation xs)) → ys ≡ xs ++ x ∷ [] → i ≡ length fs → IsAlternative i f (plain_derivation x) →
    AreAlternatives 0 (fs ++ f ∷ []) (derivations_from (map plain_derivation ys))
taken-more fs f xs ys i x h pushed at (A, p, q) =
    subst (AreAlternatives 0 (fs ++ f ∷ []))
    (sym (ap (λ zs. derivations_from (map plain_derivation zs)) pushed
    ∙ (derivations-push xs x ∙ ap (with_last (derivations_from (map plain_derivation xs))) q)))
    (AreAlternatives-push i f A h (omega arith) p)

pub part-more : (A : PlainType) (d : PlainDerivation) (fs : List Found) (f : Found) (xs ys : List Derivation) (x : Derivation) →
    derivations_from (map plain_derivation xs) ≡ and_derivation d (all_at A fs) → ys ≡ xs ++ x ∷ [] → plain_derivation x ≡ sub A (derivation_of f) →
    derivations_from (map plain_derivation ys) ≡ and_derivation d (all_at A (fs ++ f ∷ []))
part-more A d fs f xs ys x so_far pushed here =
    ap (λ zs. derivations_from (map plain_derivation zs)) pushed
    ∙ (derivations-push xs x
    ∙ (ap (λ ds. with_last ds (plain_derivation x)) so_far
    ∙ ap (and_derivation d) (ap (with_last (all_at A fs)) here ∙ sym (all_at-push A fs f))))

pub first-part : (A : PlainType) (d : PlainDerivation) (xs ys : List Derivation) (x : Derivation) → xs ≡ [] → ys ≡ xs ++ x ∷ [] →
    plain_derivation x ≡ d →
    derivations_from (map plain_derivation ys) ≡ and_derivation d (all_at A [])
first-part A d xs ys x none pushed here =
    ap (λ zs. derivations_from (map plain_derivation zs)) (pushed ∙ ap (λ zs. zs ++ x ∷ []) none)
    ∙ ap (λ e. and_derivation e no_derivations) here

pub all-parts : (A : PlainType) (d : PlainDerivation) (fs gs : List Found) (list : DerivationList) →
    derivations_from (map plain_derivation (derivations_in list)) ≡ and_derivation d (all_at A fs) → fs ≡ gs →
    plain_derivation (form.Rule list) ≡ rule (and_derivation d (all_at A gs))
all-parts A d fs gs list so_far all =
    Rule-derivation list ∙ ap rule (plain_derivations-at list ∙ (so_far ∙ ap (λ xs. and_derivation d (all_at A xs)) all))

meets-all : (xs : List Derivation) → length xs ≢ 0 → length xs ≢ 1 →
    meets (derivations_from (map plain_derivation xs)) ≡ meet_of_all (derivations_from (map plain_derivation xs))
meets-all [] some more = absurd (some refl)
meets-all (x ∷ []) some more = absurd (more refl)
meets-all (x ∷ y ∷ xs) some more = refl

-- the meet of a list that holds more than one
pub met-more : (list : DerivationList) (xs : List Derivation) → derivations_in list ≡ xs → length xs ≢ 0 → length xs ≢ 1 →
    plain_derivation (form.Meet list) ≡ meet_of_all (derivations_from (map plain_derivation xs))
met-more list xs e some more =
    Meet-derivation list
    ∙ (ap meets (plain_derivations-at list ∙ ap (λ ys. derivations_from (map plain_derivation ys)) e) ∙ meets-all xs some more)

-- the sum over the first parts
total-append : (fs gs : List Found) → total_of (fs ++ gs) ≡ total_of fs + total_of gs
total-append [] gs = omega arith
total-append (f ∷ fs) gs = omega (arith, total-append fs gs)

pub total-more : (fs : List Found) (i : ℕ) (f : Found) → i < length fs → f ≡ get_or fs i f →
    total_of (take (i + 1) fs) ≡ total_of (take i fs) + f.total
total-more fs i f within is =
    let next = ap total_of (take_more fs i f within ∙ ap (λ x. take i fs ++ x ∷ []) (sym is)) in
    omega (arith, next, total-append (take i fs) (f ∷ []))

pub total-all : (fs : List Found) (i : ℕ) → length fs ≤ i → total_of (take i fs) ≡ total_of fs
total-all fs i past = ap total_of (take_all i fs past)

pub total-low : (fs : List Found) (i : ℕ) → total_of (take i fs) ≤ total_of fs
total-low fs i = omega (arith, total-append (take i fs) (drop i fs), ap total_of (take-append-drop i fs))

-- the first part that is blamed
pub blame-here : (fs : List Found) (i : ℕ) (f : Found) (at : Place) → i < length fs → f ≡ get_or fs i f → length (paths_in f.paths) ≡ 0 →
    f.blame ≡ blame_at_some (drop i fs) at
blame-here fs i f at within is none =
    sym (at_drop_more (λ xs. blame_at_some xs at) fs i f within
    ∙ (ap (λ x. blame_at_some (x ∷ drop (i + 1) fs) at) (sym is) ∙ blamed f.paths f.blame (blame_at_some (drop (i + 1) fs) at) none))

pub blame-later : (fs : List Found) (i : ℕ) (f : Found) (at : Place) → i < length fs → f ≡ get_or fs i f → length (paths_in f.paths) ≢ 0 →
    blame_at_some (drop (i + 1) fs) at ≡ blame_at_some (drop i fs) at
blame-later fs i f at within is some =
    sym (at_drop_more (λ xs. blame_at_some xs at) fs i f within
    ∙ (ap (λ x. blame_at_some (x ∷ drop (i + 1) fs) at) (sym is) ∙ not-blamed f.paths f.blame (blame_at_some (drop (i + 1) fs) at) some))

-- where the first body is blamed
pub none-first : (fs : List Found) (at : Place) → length fs ≡ 0 → at ≡ blame_at_first fs at
none-first [] at none = refl
none-first (f ∷ fs) at none = absurd (omega arith)

pub some-first : (fs : List Found) (f : Found) (at : Place) → length fs ≢ 0 → f ≡ get_or fs 0 f → blame_at f at ≡ blame_at_first fs at
some-first [] f at some is = absurd (some refl)
some-first (g ∷ fs) f at some is = ap (λ x. blame_at x at) is

-- a list that was gone through, read by the items that were given
pub all-given : {A : Type 0} (xs ys : List A) → map (λ x. x) xs ≡ ys → xs ≡ ys
all-given xs ys e = sym (map-id xs) ∙ e
