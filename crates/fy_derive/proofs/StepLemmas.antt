-- One step of judging, in numbers.
use Rattle.std.proofs.Common.{ℕ, ◌+◌, ◌<◌, ◌≡◌, ◌≢◌, List, [], ◌∷◌, ◌++◌, length, get_or, map, drop, slice_get, Some, None, Box, Global, Err, refl, sym, ap, ◌∙◌, subst}
use Rattle.std.proofs.lemmas.List.{length-map}
use Rattle.std.proofs.lemmas.List.Elements.{All-head}
use Rattle.fy_types.specs.declared.types.Ty.{Ty}
use Rattle.fy_types.specs.Types.{PlainType, arrow}
use Rattle.fy_types.specs.Reading.{plain_type}
use Rattle.fy_types.proofs.Steps.{drop_item}
use Rattle.fy_phrase.specs.declared.phrase.Phrase.{Phrase}
use Rattle.fy_phrase.specs.Reads.{reads}
use Rattle.fy_derive.specs.declared.derivation.Derivation as form
use Rattle.fy_derive.specs.declared.derivation.Derivation.{Derivation, Derivation-F, fold-roll-Derivation}
use Rattle.fy_derive.specs.declared.derivation.Derivation.TheVariants.{rolls-Alt, rolls-Rule}
use Rattle.fy_derive.specs.declared.derivation.DerivationList.{DerivationList}
use Rattle.fy_derive.specs.declared.table.TypeTable.{TypeTable}
use Rattle.fy_derive.specs.declared.error.DeriveError.{DeriveError}
use Rattle.fy_derive.specs.declared.error.DeriveError.TheVariants.{Wrong, OutOfMemory}
use Rattle.fy_phrase.specs.declared.premise.Premise.{Premise}
use Rattle.fy_phrase.specs.Premises.{Binder, plain_binder, premise_shown}
use Rattle.fy_derive.specs.Shown.{total, shown, all_shown, Extends, AreIn}
use Rattle.fy_derive.specs.Standing.{IsJudgedAs, AreJudgedAs}
use Rattle.fy_derive.specs.Derivations.{PlainDerivation, PlainDerivations, alt, rule, count, nodes}
use Rattle.fy_derive.specs.Reading.{plain_derivation, plain_derivations, derivation_step, derivations_step, derivations_from}
use Rattle.fy_derive.specs.Rules.{first, premises, conclusion}
use Rattle.fy_derive.specs.Judging.{under, alternative, if_form, Judged, concludes, stops, then_judge, then_others, AllJudged, one_stops, from_premises, judged, each_judged}
use Rattle.fy_derive.proofs.Standings.{all_shown-kept}
use Rattle.fy_derive.proofs.JudgeLemmas.{rule_judged, rule_unfit}

pub Alt-derivation : (d : Derivation) (i : ℕ) (b : Box Derivation Global) → d ≡ form.Alt i b → plain_derivation d ≡ alt i (plain_derivation b.value)
Alt-derivation d i b e = rw e (ap plain_derivation (sym (rolls-Alt i b)) ∙ fold-roll-Derivation PlainDerivation PlainDerivations derivation_step derivations_step (Derivation-F.Alt i b))

pub Rule-derivation : (d : Derivation) (list : DerivationList) → d ≡ form.Rule list → plain_derivation d ≡ rule (plain_derivations list)
Rule-derivation d list e = rw e (ap plain_derivation (sym (rolls-Rule list)) ∙ fold-roll-Derivation PlainDerivation PlainDerivations derivation_step derivations_step (Derivation-F.Rule list))

-- an answer that stops, handed on
pub stops_along : (t u : TypeTable) (e : DeriveError) (j j' : Judged) → ((k : ℕ) → j ≡ stops k → j' ≡ stops k) →
    IsJudgedAs t (Err e) j → IsJudgedAs u (Err e) j'
stops_along t u (Wrong k) j j' f h = f k h
stops_along t u OutOfMemory j j' f h = tt

pub stop_out : (t u : TypeTable) (e : DeriveError) (j : AllJudged) (j' : Judged) → ((k : ℕ) → j ≡ one_stops k → j' ≡ stops k) →
    AreJudgedAs t (Err e) j → IsJudgedAs u (Err e) j'
stop_out t u (Wrong k) j j' f h = f k h
stop_out t u OutOfMemory j j' f h = tt

pub stop_in : (t u : TypeTable) (e : DeriveError) (j : Judged) (j' : AllJudged) → ((k : ℕ) → j ≡ stops k → j' ≡ one_stops k) →
    IsJudgedAs t (Err e) j → AreJudgedAs u (Err e) j'
stop_in t u (Wrong k) j j' f h = f k h
stop_in t u OutOfMemory j j' f h = tt

-- an alternative of an abstraction
pub alt_step : (t u : TypeTable) (G H : List ℕ) (k : ℕ) (d x : Derivation) (i : ℕ) (inner : Box Derivation Global) (p b : Phrase) (ty : Ty) (n : ℕ) (j : Judged) →
    d ≡ form.Alt i inner → x ≡ inner.value → Some (plain_type ty, reads b) ≡ alternative i (reads p) →
    Extends t u → AreIn t G → shown u k ≡ plain_type ty → H ≡ k ∷ G →
    judged (plain_derivation x) (n + 1) (all_shown u H) (reads b) ≡ j →
    judged (plain_derivation d) n (all_shown t G) (reads p) ≡ then_judge j (λ C. concludes (arrow (plain_type ty) C))
alt_step t u G H k d x i inner p b ty n j e f a more h s g w =
    ap (λ D. judged D n (all_shown t G) (reads p)) (Alt-derivation d i inner e)
    ∙ (ap (λ o. if_form n o (λ y. then_judge (judged (plain_derivation inner.value) (n + 1) (y.0 ∷ all_shown t G) y.1) (λ C. concludes (arrow y.0 C)))) (sym a)
    ∙ ap (λ z. then_judge z (λ C. concludes (arrow (plain_type ty) C)))
    (ap (λ y. judged (plain_derivation y) (n + 1) (plain_type ty ∷ all_shown t G) (reads b)) (sym f)
    ∙ (ap (λ A. judged (plain_derivation x) (n + 1) (A ∷ all_shown t G) (reads b)) (sym s)
    ∙ (ap (λ As. judged (plain_derivation x) (n + 1) (shown u k ∷ As) (reads b)) (sym (all_shown-kept G more h))
    ∙ (ap (λ ks. judged (plain_derivation x) (n + 1) (all_shown u ks) (reads b)) (sym g) ∙ w)))))

-- a rule that has premises
pub rule_step : (G : List PlainType) (d : Derivation) (list : DerivationList) (p : Phrase) (n : ℕ) (Ps : List Premise) (j : AllJudged) →
    d ≡ form.Rule list → Some (map premise_shown Ps) ≡ premises (reads p) → count (plain_derivations list) ≡ length Ps →
    each_judged (plain_derivations list) (n + 1) G (map premise_shown Ps) [] ≡ j →
    judged (plain_derivation d) n G (reads p) ≡ from_premises n j (conclusion G (reads p))
rule_step G d list p n Ps j e f l w =
    ap (λ D. judged D n G (reads p)) (Rule-derivation d list e)
    ∙ rule_judged (plain_derivations list) n G (reads p) (map premise_shown Ps) j (sym f) (l ∙ sym (length-map Ps premise_shown)) w

pub rule_misfit : (G : List PlainType) (d : Derivation) (list : DerivationList) (p : Phrase) (n : ℕ) (Ps : List Premise) →
    d ≡ form.Rule list → Some (map premise_shown Ps) ≡ premises (reads p) → count (plain_derivations list) ≢ length Ps →
    judged (plain_derivation d) n G (reads p) ≡ stops n
rule_misfit G d list p n Ps e f l =
    ap (λ D. judged D n G (reads p)) (Rule-derivation d list e)
    ∙ rule_unfit (plain_derivations list) n G (reads p) (map premise_shown Ps) (sym f) (λ g. l (g ∙ length-map Ps premise_shown))

-- the context of a premise under a variable of the first premise's type
pub under-first : (t : TypeTable) (ks : List ℕ) (k : ℕ) (As : List PlainType) → Some k ≡ slice_get ks 0 → shown t k ∷ As ≡ under first (all_shown t ks) As
under-first t [] k As e = absurd cc
under-first t (j ∷ ks) k As e = let same : k ≡ j = cc in ap (λ i. shown t i ∷ As) same

pub under-none : (t : TypeTable) (ks : List ℕ) (As : List PlainType) → None ≡ slice_get ks 0 → As ≡ under first (all_shown t ks) As
under-none t [] As e = refl
under-none t (j ∷ ks) As e = absurd cc

pub first-in : (t : TypeTable) (ks : List ℕ) (k : ℕ) → Some k ≡ slice_get ks 0 → AreIn t ks → k < total t
first-in t [] k e h = absurd cc
first-in t (j ∷ ks) k e h = let same : k ≡ j = cc in subst (λ i. i < total t) (sym same) (All-head (λ i. i < total t) j ks h.below)

-- the context of a premise, in a table that has grown since
pub under-kept : (t u v : TypeTable) (b : Binder) (ks xs G H : List ℕ) → all_shown v H ≡ under b (all_shown u xs) (all_shown u G) → xs ≡ ks → Extends t u → AreIn t G →
    all_shown v H ≡ under b (all_shown u ks) (all_shown t G)
under-kept t u v b ks xs G H s e more h =
    s ∙ (ap (λ ys. under b (all_shown u ys) (all_shown u G)) e ∙ ap (under b (all_shown u ks)) (all_shown-kept G more h))

-- the next premise, and those after it
pub each_step : (items : List Derivation) (Ps : List Premise) (i n : ℕ) (x : Derivation) (P : Premise) (G As : List PlainType) →
    i < length items → x ≡ get_or items i x → i < length Ps → P ≡ get_or Ps i P →
    each_judged (derivations_from (map plain_derivation (drop i items))) n G (map premise_shown (drop i Ps)) As
    ≡ then_others (judged (plain_derivation x) n (under (plain_binder P.binds) As G) (reads P.part.now))
    (λ A. each_judged (derivations_from (map plain_derivation (drop (i + 1) items))) (n + nodes (plain_derivation x)) G (map premise_shown (drop (i + 1) Ps)) (As ++ A ∷ []))
each_step items Ps i n x P G As h e l f =
    ap (λ ds. each_judged (derivations_from ds) n G (map premise_shown (drop i Ps)) As) (drop_item plain_derivation items i x h e)
    ∙ ap (λ Qs. each_judged (derivations_from (plain_derivation x ∷ map plain_derivation (drop (i + 1) items))) n G Qs As) (drop_item premise_shown Ps i P l f)
