-- What is found of abstractions.
use Rattle.std.proofs.Common.{ℕ, zero, suc, ◌+◌, ◌*◌, ◌≤◌, ◌≡◌, max, cond, List, [], ◌∷◌, ◌++◌, length, replicate, Option, option_map, None, Some, refl, sym, ap, ◌∙◌, subst, arith, zero-add}
use Rattle.std.proofs.lemmas.Bool.{le-leb}
use Rattle.std.proofs.lemmas.List.{length-append}
use Rattle.fy_base.specs.declared.data.Place.{Place}
use Rattle.fy_base.specs.Outside.{Bytes}
use Rattle.fy_types.specs.Types.{PlainType, PlainTypes, arrow, meet, no_types, and_type}
use Rattle.fy_types.specs.Paths.{PlainPaths, append, called, paths, all_paths}
use Rattle.fy_types.specs.PathOrder.{ArePathsBelow}
use Rattle.fy_types.specs.Limits.{IsWithinLimits}
use Rattle.fy_types.specs.Once.{once}
use Rattle.fy_types.specs.Reading.{plain_paths, types_from}
use Rattle.fy_types.specs.Fields.{IsNamed, AllFieldsOf}
use Rattle.fy_types.proofs.Order.{ArePathsBelow-refl}
use Rattle.fy_types.proofs.Laws.{append-none}
use Rattle.fy_types.proofs.OnceLemmas.{below-once}
use Rattle.fy_phrase.specs.Tree.{Tree, lam}
use Rattle.fy_phrase.specs.Sizes.{nesting}
use Rattle.fy_derive.specs.Derivations.{PlainDerivation, PlainDerivations, sub, meets, alt, no_derivations, and_derivation, nodes, all_nodes, count}
use Rattle.fy_derive.specs.Derivations as derivations
use Rattle.fy_derive.specs.Rules.{nothing}
use Rattle.fy_derive.specs.Judging.{judged, concludes, stops, each_judged, all_conclude, then_judge, then_others, from_premises, if_form, member}
use Rattle.fy_derive.specs.Shapes.{PlainShape, HasPair, in_sub, in_meet, in_alt, OneHasPair, this_one, other_one}
use Rattle.fy_derive.specs.Least.{forms_of, alternatives_of, least_type, visits, visits_under}
use Rattle.fy_derive.proofs.SoundLemmas.{append-none as append-nothing, append-push}
use Rattle.fy_least.specs.declared.found.Found.{Found}
use Rattle.fy_least.specs.Blame.{blame_of}
use Rattle.fy_least.specs.Limits.{forms}
use Rattle.fy_least.specs.Counts.{nodes_of_visits, AreWithin, no_forms, and_form, AreVisitsWithin, no_visits}
use Rattle.fy_least.specs.Derived.{ConcludesBelow, most_made_nesting}
use Rattle.fy_derive.specs.Limits.{deepest_type, deepest_of_all}
use Rattle.fy_derive.specs.Printable.{IsPrintable, ArePrintable}
use Rattle.fy_least.specs.Layers.{met, ruled, IsLayered, one_sub, an_alt, AreLayered, no_layers, and_layers}
use Rattle.fy_phrase.specs.CoreLimits.{types_count, visits_of, deepest_written}
use Rattle.fy_phrase.specs.PhraseNames.{AllNames, HasFullTypes}
use Rattle.fy_least.specs.Many.{AreFoundUnder, no_alternatives, and_alternative, total_of, blame_at_first, called_bodies, AreOnce, AreAlternatives, no_more, and_more, meet_of_all, IsAbstracted}
use Rattle.fy_least.specs.Pairs.{AreContextsBelow, and_variable, HasPairsAbove}
use Rattle.fy_least.specs.Writable.{AllContextFields, IsWritable}
use Rattle.fy_least.specs.Visited.{IsFound, IsMade, derivation_of}
use Rattle.fy_least.proofs.DistinctLemmas.{once-distinct, distinct-least}
use Rattle.fy_least.proofs.FoundLemmas.{made-nesting, taken, found-fields, none-derived, made-found, blame-same}
use Rattle.fy_least.proofs.CountLemmas.{within-append, nodes-append}
use Rattle.fy_least.proofs.LayerLemmas.{meet-layered}
use Rattle.fy_least.proofs.FormFields.{paths-fields}
use Rattle.fy_least.proofs.PairLemmas.{HasInner, inner-pairs}
use Rattle.fy_least.proofs.PrintableLemmas.{made-printable, meet-printable}
use Rattle.fy_least.proofs.VisitLemmas.{visits-some}

-- the paths, the limits, the nodes and the blame under all alternatives
pub bodies-same : {G : List PlainPaths} {b : Tree} {As : PlainTypes} {fs : List Found} → AreFoundUnder G b As fs →
    called_bodies As fs ≡ alternatives_of As (λ D. least_type (D ∷ G) b)
bodies-same no_alternatives = refl
bodies-same {G = G} {b = b} (and_alternative {A = A} {As = As} {f = f} {fs = fs} w h r) =
    ap (λ P. append (called (paths A) P) (called_bodies As fs)) h.paths
    ∙ ap (append (called (paths A) (least_type (paths A ∷ G) b))) (bodies-same r)

forms-within : {G : List PlainPaths} {b : Tree} {As : PlainTypes} {fs : List Found} → AreFoundUnder G b As fs → AreWithin (forms As)
forms-within no_alternatives = no_forms
forms-within (and_alternative w h r) = and_form w (forms-within r)

under-within : {G : List PlainPaths} {b : Tree} {As : PlainTypes} {fs : List Found} → AreFoundUnder G b As fs → (m : ℕ) →
    AreVisitsWithin (visits_under As (λ D. visits m (D ∷ G) b))
under-within no_alternatives m = no_visits
under-within (and_alternative w h r) m = within-append (h.within m) (under-within r m)

pub under-total : {G : List PlainPaths} {b : Tree} {As : PlainTypes} {fs : List Found} → AreFoundUnder G b As fs → (m : ℕ) →
    total_of fs ≡ nodes_of_visits (visits_under As (λ D. visits m (D ∷ G) b))
under-total no_alternatives m = refl
under-total {G = G} {b = b} (and_alternative {A = A} {As = As} w h r) m =
    omega (arith, h.total m, under-total r m, nodes-append (visits m (paths A ∷ G) b) (visits_under As (λ D. visits m (D ∷ G) b)))

under-blame : {G : List PlainPaths} {b : Tree} {As : PlainTypes} {fs : List Found} → AreFoundUnder G b As fs → (d : ℕ) (at : Place) →
    blame_at_first fs at ≡ blame_of G (lam d As b at)
under-blame no_alternatives d at = refl
under-blame {G = G} {b = b} (and_alternative {A = A} {f = f} w h r) d at = blame-same (paths A ∷ G) b f at h

under-few : {G : List PlainPaths} {b : Tree} {As : PlainTypes} {fs : List Found} {i : ℕ} {ds : PlainDerivations} → AreFoundUnder G b As fs →
    AreAlternatives i fs ds → (m : ℕ) → all_nodes ds ≤ 4 * length (visits_under As (λ D. visits m (D ∷ G) b))
under-few no_alternatives no_more m = omega arith
under-few {G = G} {b = b} (and_alternative {A = A} {As = As} w h r) (and_more B e s) m =
    omega (arith, h.few m, under-few r s m, length-append (visits m (paths A ∷ G) b) (visits_under As (λ D. visits m (D ∷ G) b)))

under-shallow : {G : List PlainPaths} {b : Tree} {As : PlainTypes} {fs : List Found} {i : ℕ} {ds : PlainDerivations} → AreFoundUnder G b As fs →
    AreAlternatives i fs ds → derivations.all_nesting ds ≤ 1 + 3 * nesting b
under-shallow no_alternatives no_more = omega arith
under-shallow (and_alternative w h r) (and_more B e s) = omega (arith, h.shallow, under-shallow r s)

under-types : {G : List PlainPaths} {b : Tree} {As : PlainTypes} {fs : List Found} {i : ℕ} {ds : PlainDerivations} → AreFoundUnder G b As fs →
    AreAlternatives i fs ds → deepest_of_all ds ≤ max (deepest_written b) most_made_nesting
under-types no_alternatives no_more = omega arith
under-types (and_alternative {f = f} w h r) (and_more B e s) =
    omega (arith, h.types, made-nesting (plain_paths f.paths) B e (subst IsWithinLimits (sym h.paths) h.kept), under-types r s)

under-layered : {G : List PlainPaths} {b : Tree} {As : PlainTypes} {fs : List Found} {i : ℕ} {ds : PlainDerivations} → AreFoundUnder G b As fs →
    AreAlternatives i fs ds → AreLayered ruled ds
under-layered no_alternatives no_more = no_layers
under-layered (and_alternative w h r) (and_more B e s) = and_layers (an_alt (one_sub h.layered)) (under-layered r s)

under-count : {G : List PlainPaths} {b : Tree} {As : PlainTypes} {fs : List Found} {i : ℕ} {ds : PlainDerivations} → AreFoundUnder G b As fs →
    AreAlternatives i fs ds → count ds ≡ types_count As
under-count no_alternatives no_more = refl
under-count (and_alternative w h r) (and_more B e s) = omega (arith, under-count r s)

times-some : (n v : ℕ) → 1 ≤ v → n ≤ n * v
times-some n zero some = absurd (omega arith)
times-some n (suc v) some = omega arith

under-printable : {G : List PlainPaths} {b : Tree} {As : PlainTypes} {fs : List Found} {i : ℕ} {ds : PlainDerivations} → AreFoundUnder G b As fs →
    AreAlternatives i fs ds → (names : List Bytes) → AllContextFields (IsNamed names) G → AllFieldsOf (IsNamed names) As →
    AllNames (IsNamed names) b → HasFullTypes b → suc (types_count As * visits_of b) ≤ 65536 → i + types_count As ≤ 65536 →
    ArePrintable names ds
under-printable no_alternatives no_more names around fields named full few low = tt
under-printable {G = G} {b = b} (and_alternative {A = A} {As = As} {f = f} w h r) (and_more {i = i} B e s) names around fields named full few low =
    let within = paths-fields (IsNamed names) A fields.0 in
    let text : IsWritable names (paths A ∷ G) b =
    record { around = (within, around); named = named; full = full; few = omega (arith, few) } in
    let type = made-printable names (plain_paths f.paths) B e (found-fields names (paths A ∷ G) b f h text) in (
      (omega arith, (type.0, type.1, h.printable names text)),
      under-printable r s names around fields.1 named full (omega (arith, few)) (omega arith),
    )

meet-types : (ds : PlainDerivations) → deepest_type (meet_of_all ds) ≤ deepest_of_all ds
meet-types no_derivations = omega arith
meet-types (and_derivation d no_derivations) = omega arith
meet-types (and_derivation d (and_derivation e ds)) = omega arith

meet-few : (ds : PlainDerivations) → nodes (meet_of_all ds) ≤ 1 + all_nodes ds
meet-few no_derivations = omega arith
meet-few (and_derivation d no_derivations) = omega arith
meet-few (and_derivation d (and_derivation e ds)) = omega arith

meet-shallow : (ds : PlainDerivations) → derivations.nesting (meet_of_all ds) ≤ 1 + derivations.all_nesting ds
meet-shallow no_derivations = omega arith
meet-shallow (and_derivation d no_derivations) = omega arith
meet-shallow (and_derivation d (and_derivation e ds)) = omega arith

-- each path of what is found stands once
pub found-once : (G : List PlainPaths) (p : Tree) (f : Found) → IsFound G p f → once (plain_paths f.paths) ≡ plain_paths f.paths
found-once G p f h = subst (λ P. once P ≡ P) (sym h.paths) (once-distinct (distinct-least p G))

-- what is asked of the bodies before their paths are put together
pub bodies-once : {G : List PlainPaths} {b : Tree} {As : PlainTypes} {fs : List Found} → AreFoundUnder G b As fs → AreOnce fs
bodies-once no_alternatives = tt
bodies-once {G = G} {b = b} (and_alternative {A = A} {f = f} w h r) = (found-once (paths A ∷ G) b f h, bodies-once r)

pub bodies-length : {G : List PlainPaths} {b : Tree} (As : List PlainType) {fs : List Found} → AreFoundUnder G b (types_from As) fs →
    length As ≡ length fs
bodies-length [] no_alternatives = refl
bodies-length (A ∷ As) (and_alternative w h r) = ap suc (bodies-length As r)

-- one alternative, and those from an index on
alternative-judged : (G : List PlainPaths) (All : PlainTypes) (d : ℕ) (b : Tree) (at : Place) (i : ℕ) (A B : PlainType) (f : Found) →
    IsFound (paths A ∷ G) b f → member All i ≡ Some A → paths B ≡ plain_paths f.paths → (H : List PlainType) → forms_of H ≡ G → (n : ℕ) →
    judged (alt i (sub B (derivation_of f))) n H (lam d All b at) ≡ concludes (arrow A B)
alternative-judged G All d b at i A B f h m e H j n =
    ap (λ o. if_form {X = PlainType × Tree} n (option_map (λ A. (A, b)) o)
    (λ x'. then_judge (judged (sub B (derivation_of f)) (n + 1) (x'.0 ∷ H) x'.1) (λ C. concludes (arrow x'.0 C)))) m
    ∙ ap (λ j. then_judge j (λ C. concludes (arrow A C)))
    (taken (paths A ∷ G) b (derivation_of f) h.derived B
    (subst (λ P. ArePathsBelow (least_type (paths A ∷ G) b) P) (sym (e ∙ h.paths)) (ArePathsBelow-refl (least_type (paths A ∷ G) b)))
    (A ∷ H) (ap (λ X. paths A ∷ X) j) (n + 1))

abbrev AreJudged : List PlainPaths → Tree → PlainDerivations → PlainPaths → Type 0
AreJudged G t ds P = (Cs : List PlainType) × (all_paths (types_from Cs) ≡ P)
    × ((H : List PlainType) → forms_of H ≡ G → (n : ℕ) (Bs : List PlainType) →
    each_judged ds n H (replicate (count ds) (nothing, t)) Bs ≡ all_conclude (Bs ++ Cs))

alternatives-judged : (G : List PlainPaths) (All : PlainTypes) (d : ℕ) (b : Tree) (at : Place) {As : PlainTypes} {fs : List Found} {i : ℕ}
    {ds : PlainDerivations} →
    AreFoundUnder G b As fs → AreAlternatives i fs ds → ((k : ℕ) → member All (i + k) ≡ member As k) →
    AreJudged G (lam d All b at) ds (called_bodies As fs)
alternatives-judged G All d b at no_alternatives no_more places = ([], refl, λ H j n Bs. ap all_conclude (sym (append-nothing Bs)))
alternatives-judged G All d b at (and_alternative {A = A} {As = As} {f = f} {fs = fs} w h r) (and_more {i = i} {ds = ds} B e s) places =
    let x = alternatives-judged G All d b at r s (λ k. ap (member All) (later k) ∙ places (suc k)) in (
      arrow A B ∷ x.0,
      ap (λ P. append (called (paths A) P) (all_paths (types_from x.0))) e.0 ∙ ap (append (called (paths A) (plain_paths f.paths))) x.1,
      λ H j n Bs.
          ap (λ m. each_judged (and_derivation (alt i (sub B (derivation_of f))) ds) n H (replicate m (nothing, lam d All b at)) Bs) (more ds)
          ∙ (ap (λ j. then_others j (λ C. each_judged ds (n + nodes (alt i (sub B (derivation_of f)))) H
          (replicate (count ds) (nothing, lam d All b at)) (Bs ++ C ∷ [])))
          (alternative-judged G All d b at i A B f h (ap (member All) start ∙ places 0) e.0 H j n)
          ∙ (x.2 H j (n + nodes (alt i (sub B (derivation_of f)))) (Bs ++ arrow A B ∷ []) ∙ ap all_conclude (append-push Bs x.0 (arrow A B)))),
    )
  where
    later : (k : ℕ) → suc i + k ≡ i + suc k
    later k = omega arith

    start : i ≡ i + 0
    start = omega arith

    more : (ds : PlainDerivations) → 1 + count ds ≡ suc (count ds)
    more ds = omega arith

meet-judged : (G : List PlainPaths) (t : Tree) (ds : PlainDerivations) (P : PlainPaths) (x : AreJudged G t ds P) → 2 ≤ count ds →
    (H : List PlainType) → forms_of H ≡ G → (n : ℕ) → judged (meets ds) n H t ≡ concludes (meet (types_from x.0))
meet-judged G t ds P x l H j n =
    let f : List PlainType → Option PlainType = λ Bs. Some (meet (types_from Bs)) in
    ap (λ b. cond b (from_premises n (each_judged ds (n + 1) H (replicate (count ds) (nothing, t)) []) f) (stops n)) (le-leb 2 (count ds) l)
    ∙ ap (λ j. from_premises n j f) (x.2 H j (n + 1) [])

lam-derived : (G : List PlainPaths) (d : ℕ) (b : Tree) (at : Place) {As : PlainTypes} {fs : List Found} {ds : PlainDerivations} →
    AreFoundUnder G b As fs → AreAlternatives 0 fs ds → ConcludesBelow G (lam d As b at) (meet_of_all ds)
lam-derived G d b at no_alternatives no_more = none-derived G (lam d no_types b at) refl
lam-derived G d b at (and_alternative {A = A} {f = f} w h no_alternatives) (and_more B e no_more) =
    λ H j n. (
      arrow A B,
      alternative-judged G (and_type A no_types) d b at 0 A B f h refl e.0 H j n,
      subst (λ X. ArePathsBelow (called (paths A) (paths B)) (once X))
          (ap (called (paths A)) (e.0 ∙ h.paths) ∙ sym (append-none (called (paths A) (least_type (paths A ∷ G) b))))
          (below-once (called (paths A) (paths B))),
    )
lam-derived G d b at (and_alternative {A = A} {As = As} {f = f} {fs = fs} w h (and_alternative {A = B} {As = Bs} {f = g} {fs = gs} v k r))
    (and_more C e (and_more {ds = es} D i s)) =
    let all = and_alternative w h (and_alternative v k r) in
    let x = alternatives-judged G (and_type A (and_type B Bs)) d b at all (and_more C e (and_more D i s))
    (λ n. ap (member (and_type A (and_type B Bs))) (zero-add n)) in
    let ds : PlainDerivations = and_derivation (alt 0 (sub C (derivation_of f))) (and_derivation (alt 1 (sub D (derivation_of g))) es) in
    let many : 2 ≤ count ds = omega arith in
    λ H j n. (
      meet (types_from x.0),
      meet-judged G (lam d (and_type A (and_type B Bs)) b at) ds (called_bodies (and_type A (and_type B Bs)) (f ∷ g ∷ gs)) x many H j n,
      subst (λ P. ArePathsBelow (all_paths (types_from x.0)) (once P)) (x.1 ∙ bodies-same all) (below-once (all_paths (types_from x.0))),
    )

-- each pair of the body under an alternative is one of that alternative
under-pairs : {G : List PlainPaths} {b : Tree} {As : PlainTypes} {fs : List Found} {i : ℕ} {ds : PlainDerivations} (All : PlainTypes) (d : ℕ)
    (at : Place) →
    AreFoundUnder G b As fs → AreAlternatives i fs ds → ((k : ℕ) → member All (i + k) ≡ member As k) → (H I : List PlainType) → forms_of H ≡ G →
    AreContextsBelow G (forms_of I) → (l : ℕ) (A : PlainType) → member As l ≡ Some A → (e : PlainDerivation) (C : PlainType) →
    judged e 0 (A ∷ I) b ≡ concludes C → (m k : ℕ) (s : PlainShape) → HasPair e (m + 1) (A ∷ I) b k s → OneHasPair ds m H (lam d All b at) k s
under-pairs All d at no_alternatives no_more places H I same low l A there e C j m k s pair = absurd cc
under-pairs {b = b} All d at (and_alternative {A = B} {f = f} w h r) (and_more {i = i} T t rest) places H I same low zero A there e C j m k s pair =
    let is : B ≡ A = cc in
    let at-i : member All i ≡ Some B = ap (member All) start ∙ places 0 in
    this_one (in_alt (ap (option_map {U = PlainType × Tree} (λ X. (X, b))) at-i)
    (in_sub (h.pairs (B ∷ H) (B ∷ I) (ap (λ X. paths B ∷ X) same) (and_variable (ArePathsBelow-refl (paths B)) low) e C
    (subst (λ X. judged e 0 (X ∷ I) b ≡ concludes C) (sym is) j) (m + 1) k s (subst (λ X. HasPair e (m + 1) (X ∷ I) b k s) (sym is) pair))))
  where
    start : i ≡ i + 0
    start = omega arith
under-pairs All d at (and_alternative w h r) (and_more {i = i} T t rest) places H I same low (suc l) A there e C j m k s pair =
    other_one (under-pairs All d at r rest (λ n. ap (member All) (later n) ∙ places (suc n)) H I same low l A there e C j m k s pair)
  where
    later : (n : ℕ) → suc i + n ≡ i + suc n
    later n = omega arith

meet-pair : {ds : PlainDerivations} {m k : ℕ} {H : List PlainType} {p : Tree} {s : PlainShape} → OneHasPair ds m H p k s →
    HasPair (meet_of_all ds) m H p k s
meet-pair {ds = no_derivations} pair = elim pair [ ]
meet-pair {ds = and_derivation d no_derivations} (this_one pair) = pair
meet-pair {ds = and_derivation d no_derivations} (other_one pair) = elim pair [ ]
meet-pair {ds = and_derivation d (and_derivation e ds)} pair = in_meet pair

lam-pairs : (G : List PlainPaths) (d : ℕ) (As : PlainTypes) (b : Tree) (at : Place) {fs : List Found} {ds : PlainDerivations} →
    AreFoundUnder G b As fs → AreAlternatives 0 fs ds → ConcludesBelow G (lam d As b at) (meet_of_all ds) →
    HasPairsAbove G (lam d As b at) (meet_of_all ds)
lam-pairs G d As b at {ds = ds} hs all derived = inner-pairs G (lam d As b at) (meet_of_all ds) derived inner
  where
    found : (H I : List PlainType) → forms_of H ≡ G → AreContextsBelow G (forms_of I) → (i : ℕ) (x : PlainType × Tree) (o : Option PlainType) →
        member As i ≡ o → option_map {U = PlainType × Tree} (λ A. (A, b)) o ≡ Some x → (e : PlainDerivation) (C : PlainType) →
        judged e 0 (x.0 ∷ I) x.1 ≡ concludes C → (m k : ℕ) (s : PlainShape) → HasPair e (m + 1) (x.0 ∷ I) x.1 k s →
        HasPair (meet_of_all ds) m H (lam d As b at) k s
    found H I same low i x None g f e C j m k s pair = absurd cc
    found H I same low i x (Some A) g f e C j m k s pair =
        let is : x ≡ (A, b) = cc in
        meet-pair (under-pairs As d at hs all (λ n. ap (member As) (zero-add n)) H I same low i A g e C
        (subst (λ y. judged e 0 (y.0 ∷ I) y.1 ≡ concludes C) is j) m k s (subst (λ y. HasPair e (m + 1) (y.0 ∷ I) y.1 k s) is pair))

    inner : (H I : List PlainType) → forms_of H ≡ G → AreContextsBelow G (forms_of I) → HasInner I H (lam d As b at) (meet_of_all ds)
    inner H I same low = record {
      rules = λ es n B j Ps f m k s pair. absurd cc;
      alternatives = λ i x f e C j m k s pair. found H I same low i x (member As i) refl f e C j m k s pair;
      lefts = λ x f e C j m k s pair. absurd cc;
      rights = λ x f e C j m k s pair. absurd cc;
    }

pub lam-found : (G : List PlainPaths) (d : ℕ) (As : PlainTypes) (b : Tree) (at : Place) (fs : List Found) (r : Found) → AreFoundUnder G b As fs →
    IsMade (once (called_bodies As fs)) (blame_at_first fs at) (total_of fs) r → IsAbstracted fs (derivation_of r) → IsFound G (lam d As b at) r
lam-found G d As b at fs r hs made x =
    made-found G (lam d As b at) (blame_at_first fs at) (total_of fs) r (λ m. visits_under As (λ D. visits (m + 1) (D ∷ G) b))
    (subst (λ P. IsMade (once P) (blame_at_first fs at) (total_of fs) r) (bodies-same hs) made) (under-blame hs d at) refl (forms-within hs)
    (λ m. refl)
    (λ m. under-within hs (m + 1)) (λ m. under-total hs (m + 1))
    (subst (ConcludesBelow G (lam d As b at)) (sym x.2) (lam-derived G d b at hs x.1))
    (λ m. omega (arith, under-few hs x.1 (m + 1), meet-few x.0, ap nodes x.2))
    (omega (arith, under-shallow hs x.1, meet-shallow x.0, ap derivations.nesting x.2))
    (omega (arith, under-types hs x.1, meet-types x.0, ap deepest_type x.2))
    (subst (IsLayered met) (sym x.2) (meet-layered x.0 (under-layered hs x.1)))
    (λ names text. subst (IsPrintable names) (sym x.2)
    (let few = times-some (types_count As) (visits_of b) (visits-some b) in
    meet-printable names x.0 (omega (arith, under-count hs x.1, text.few, few))
    (under-printable hs x.1 names text.around text.named.0 text.named.1 text.full.1 text.few (omega (arith, text.few, few)))))
    (subst (HasPairsAbove G (lam d As b at)) (sym x.2) (lam-pairs G d As b at hs x.1 (lam-derived G d b at hs x.1)))
