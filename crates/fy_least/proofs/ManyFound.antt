-- What is found of cases.
use Rattle.std.proofs.Common.{ℕ, ◌+◌, ◌*◌, ◌≤◌, ◌≡◌, max, Bool, true, false, List, [], ◌∷◌, ◌++◌, length, inl, inr, refl, sym, ap, ◌∙◌, subst, arith, if◌then◌else◌}
use Rattle.std.proofs.lemmas.List.{length-append}
use Rattle.fy_base.specs.declared.data.Place.{Place}
use Rattle.fy_base.specs.Outside.{Bytes}
use Rattle.fy_types.specs.declared.types.Atom.TheVariants.{Int}
use Rattle.fy_types.specs.Types.{PlainType, atom}
use Rattle.fy_types.specs.Paths.{PlainPaths, no_paths, paths}
use Rattle.fy_types.specs.PathOrder.{ArePathsBelow}
use Rattle.fy_types.specs.Bounds.{join_of}
use Rattle.fy_types.specs.Limits.{IsWithinLimits}
use Rattle.fy_types.specs.Nested.{type_nesting}
use Rattle.fy_types.specs.Fields.{IsNamed, AllFormFields}
use Rattle.fy_types.proofs.Order.{ArePathsBelow-refl, ArePathsBelow-trans}
use Rattle.fy_types.proofs.BoundLemmas.{join_of-left, join_of-right}
use Rattle.fy_phrase.specs.Tree.{Tree, Trees, no_trees, and_tree, case}
use Rattle.fy_phrase.specs.Sizes.{nesting, all_nesting}
use Rattle.fy_phrase.specs.Sizes as sizes
use Rattle.fy_derive.specs.Derivations.{sub, rule, and_derivation, nodes, all_nodes, count}
use Rattle.fy_derive.specs.Derivations as derivations
use Rattle.fy_derive.specs.Rules.{nothing, of_parts, all_same}
use Rattle.fy_derive.specs.Judging.{each_judged, all_conclude, then_others, at_node}
use Rattle.fy_derive.specs.Least.{forms_of, if_passed, has, least_type, join_of_all, join_behind, visits, visits_of_all}
use Rattle.fy_derive.proofs.CompleteLemmas.{when, copies, all_same-copies}
use Rattle.fy_derive.proofs.JudgeLemmas.{rule_judged}
use Rattle.fy_derive.proofs.SoundLemmas.{append-none, append-push}
use Rattle.fy_least.specs.Layers.{subsumed, met, IsLayered, one_sub, no_meet, a_rule, AreLayered, no_layers, and_layers}
use Rattle.fy_least.proofs.LayerLemmas.{ns-layered}
use Rattle.fy_least.specs.declared.found.Found.{Found}
use Rattle.fy_least.specs.Blame.{if_empty, blame_of, blame_among}
use Rattle.fy_least.specs.Limits.{earlier_joins, joins_before_last}
use Rattle.fy_least.specs.Counts.{nodes_of_forms, nodes_of_visits, AreWithin, no_forms, and_form, AreVisitsWithin, no_visits, and_visit}
use Rattle.fy_least.specs.Derived.{ConcludesBelow, most_made_nesting}
use Rattle.fy_derive.specs.Limits.{deepest_type, deepest_of_all}
use Rattle.fy_derive.specs.Printable.{IsPrintable, ArePrintable}
use Rattle.fy_phrase.specs.CoreLimits.{parts_visits, deepest_of_parts}
use Rattle.fy_phrase.specs.PhraseNames.{AllNamesOf, HaveFullTypes}
use Rattle.fy_least.specs.Many.{AreFound, no_parts, and_part, total_of, blame_at_some, joined, joined_with, joins_before, earlier_joined, case_forms, all_at, IsCased, IsCase}
use Rattle.fy_least.specs.Pairs.{HasPairsAbove}
use Rattle.fy_least.specs.Writable.{AllContextFields, IsWritable}
use Rattle.fy_least.specs.Visited.{IsFound, has_atom, derivation_of, as_atom}
use Rattle.fy_least.proofs.FoundLemmas.{made-nesting, taken, taken-atom, none-derived, blame-same}
use Rattle.fy_least.proofs.CountLemmas.{within-append, nodes-append}
use Rattle.fy_least.proofs.LeastFields.{all-fields}
use Rattle.fy_least.proofs.PairLemmas.{HavePairs, no_premises, and_plain, sub-pairs, rule-pairs, untested-pairs, picked-first, empty-pairs}
use Rattle.fy_least.proofs.PrintableLemmas.{IsPrintableType, made-printable}
use Rattle.fy_least.proofs.VisitLemmas.{visits-some}

-- the joins of the parts
joined-with : {G : List PlainPaths} {ps : Trees} {fs : List Found} → AreFound G ps fs → (P : PlainPaths) → joined_with P fs ≡ join_behind G P ps
joined-with no_parts P = refl
joined-with {G = G} (and_part {p = p} {ps = ps} {f = f} {fs = fs} h r) P =
    ap (λ Q. joined_with (join_of P Q) fs) h.paths ∙ joined-with r (join_of P (least_type G p))

joined-all : {G : List PlainPaths} {ps : Trees} {fs : List Found} → AreFound G ps fs → joined fs ≡ join_of_all G ps
joined-all no_parts = refl
joined-all {G = G} (and_part {p = p} {ps = ps} {f = f} {fs = fs} h r) = ap (λ Q. joined_with Q fs) h.paths ∙ joined-with r (least_type G p)

before-last : {G : List PlainPaths} {ps : Trees} {fs : List Found} → AreFound G ps fs → (P : PlainPaths) →
    joins_before P fs ≡ joins_before_last G P ps
before-last no_parts P = refl
before-last (and_part h no_parts) P = refl
before-last {G = G} (and_part {p = p} {f = f} h (and_part {p = q} {ps = qs} {f = g} {fs = gs} k r)) P =
    ap (λ Q. join_of P Q ∷ joins_before (join_of P Q) (g ∷ gs)) h.paths
    ∙ ap (λ Js. join_of P (least_type G p) ∷ Js) (before-last (and_part k r) (join_of P (least_type G p)))

-- the visits of all parts
parts-within : {G : List PlainPaths} {ps : Trees} {fs : List Found} → AreFound G ps fs → (m : ℕ) → AreVisitsWithin (visits_of_all m G ps)
parts-within no_parts m = no_visits
parts-within (and_part {p = p} h r) m = within-append (h.within m) (parts-within r (m + sizes.nodes p))

pub parts-total : {G : List PlainPaths} {ps : Trees} {fs : List Found} → AreFound G ps fs → (m : ℕ) →
    total_of fs ≡ nodes_of_visits (visits_of_all m G ps)
parts-total no_parts m = refl
parts-total {G = G} (and_part {p = p} {ps = ps} h r) m =
    omega (arith, h.total m, parts-total r (m + sizes.nodes p), nodes-append (visits m G p) (visits_of_all (m + sizes.nodes p) G ps))

parts-blame : {G : List PlainPaths} {ps : Trees} {fs : List Found} → AreFound G ps fs → (at : Place) → blame_at_some fs at ≡ blame_among G ps at
parts-blame no_parts at = refl
parts-blame {G = G} (and_part {p = p} {f = f} {fs = fs} h r) at =
    blame-same G p f (blame_at_some fs at) h ∙ ap (if_empty (least_type G p) (blame_of G p)) (parts-blame r at)

-- the parts' derivations at one type
parts-few : {G : List PlainPaths} {ps : Trees} {fs : List Found} → AreFound G ps fs → (A : PlainType) (m : ℕ) →
    all_nodes (all_at A fs) ≤ 4 * length (visits_of_all m G ps)
parts-few no_parts A m = omega arith
parts-few {G = G} (and_part {p = p} {ps = ps} h r) A m =
    omega (arith, h.few m, parts-few r A (m + sizes.nodes p), length-append (visits m G p) (visits_of_all (m + sizes.nodes p) G ps))

parts-shallow : {G : List PlainPaths} {ps : Trees} {fs : List Found} → AreFound G ps fs → (A : PlainType) →
    derivations.all_nesting (all_at A fs) ≤ 3 * all_nesting ps
parts-shallow no_parts A = omega arith
parts-shallow (and_part h r) A = omega (arith, h.shallow, parts-shallow r A)

parts-types : {G : List PlainPaths} {ps : Trees} {fs : List Found} → AreFound G ps fs → (A : PlainType) →
    deepest_of_all (all_at A fs) ≤ max (type_nesting A) (max (deepest_of_parts ps) most_made_nesting)
parts-types no_parts A = omega arith
parts-types (and_part h r) A = omega (arith, h.types, parts-types r A)

last-within : (Ps : List PlainPaths) (P : PlainPaths) → AreWithin (Ps ++ P ∷ []) → IsWithinLimits P
last-within [] P (and_form h r) = h
last-within (Q ∷ Ps) P (and_form h r) = last-within Ps P r

-- each part has the join
data AreAbove (G : List PlainPaths) (J : PlainPaths) : Trees → Type 0 where
  none_above : AreAbove G J no_trees
  also_above : {p : Tree} {ps : Trees} → ArePathsBelow (least_type G p) J → AreAbove G J ps → AreAbove G J (and_tree p ps)

behind-low : (ps : Trees) (G : List PlainPaths) (P : PlainPaths) → ArePathsBelow P (join_behind G P ps)
behind-low no_trees G P = ArePathsBelow-refl P
behind-low (and_tree p ps) G P =
    ArePathsBelow-trans (join_of P (least_type G p)) (join_of-left P (least_type G p)) (behind-low ps G (join_of P (least_type G p)))

behind-above : (ps : Trees) (G : List PlainPaths) (P : PlainPaths) → AreAbove G (join_behind G P ps) ps
behind-above no_trees G P = none_above
behind-above (and_tree p ps) G P =
    also_above (ArePathsBelow-trans (join_of P (least_type G p)) (join_of-right P (least_type G p)) (behind-low ps G (join_of P (least_type G p))))
    (behind-above ps G (join_of P (least_type G p)))

all-above : (ps : Trees) (G : List PlainPaths) → AreAbove G (join_of_all G ps) ps
all-above no_trees G = none_above
all-above (and_tree p ps) G = also_above (behind-low ps G (least_type G p)) (behind-above ps G (least_type G p))

parts-layered : {G : List PlainPaths} {ps : Trees} {fs : List Found} → AreFound G ps fs → (A : PlainType) → AreLayered subsumed (all_at A fs)
parts-layered no_parts A = no_layers
parts-layered (and_part h r) A = and_layers (one_sub h.layered) (parts-layered r A)

-- the parts' derivations at one type are written as texts, and are no more than their visits
parts-low : {G : List PlainPaths} {ps : Trees} {fs : List Found} → AreFound G ps fs → (A : PlainType) → count (all_at A fs) ≤ parts_visits ps
parts-low no_parts A = omega arith
parts-low (and_part {p = p} h r) A = omega (arith, visits-some p, parts-low r A)

parts-printable : {G : List PlainPaths} {ps : Trees} {fs : List Found} → AreFound G ps fs → (A : PlainType) (names : List Bytes) →
    IsPrintableType names A → AllContextFields (IsNamed names) G → AllNamesOf (IsNamed names) ps → HaveFullTypes ps → parts_visits ps ≤ 65536 →
    ArePrintable names (all_at A fs)
parts-printable no_parts A names type around named full few = tt
parts-printable {G = G} (and_part {p = p} h r) A names type around named full few =
    let text : IsWritable names G p = record { around = around; named = named.0; full = full.0; few = omega (arith, few) } in
    ((type.0, type.1, h.printable names text), parts-printable r A names type around named.1 full.1 (omega (arith, few)))

parts-count : {G : List PlainPaths} {ps : Trees} {fs : List Found} → AreFound G ps fs → (A : PlainType) → count (all_at A fs) ≡ length (of_parts ps)
parts-count no_parts A = refl
parts-count (and_part h r) A = omega (arith, parts-count r A)

parts-judged : {G : List PlainPaths} {ps : Trees} {fs : List Found} → AreFound G ps fs → (A : PlainType) → AreAbove G (paths A) ps →
    (H : List PlainType) → forms_of H ≡ G → (n : ℕ) (Bs : List PlainType) →
    each_judged (all_at A fs) n H (of_parts ps) Bs ≡ all_conclude (Bs ++ copies ps A)
parts-judged no_parts A above H i n Bs = ap all_conclude (sym (append-none Bs))
parts-judged {G = G} (and_part {p = p} {ps = ps} {f = f} {fs = fs} h r) A (also_above low above) H i n Bs =
    ap (λ j. then_others j (λ B. each_judged (all_at A fs) (n + nodes (sub A (derivation_of f))) H (of_parts ps) (Bs ++ B ∷ [])))
    (taken G p (derivation_of f) h.derived A low H i n)
    ∙ (parts-judged r A above H i (n + nodes (sub A (derivation_of f))) (Bs ++ A ∷ []) ∙ ap all_conclude (append-push Bs (copies ps A) A))

none-passed : (b : Bool) → if_passed b no_paths ≡ no_paths
none-passed true = refl
none-passed false = refl

-- the least types that count at a case
none-counted : (b : Bool) → (if b then no_paths ∷ [] else no_paths ∷ []) ≡ if_passed b no_paths ∷ []
none-counted true = refl
none-counted false = refl

some-counted : (b : Bool) (Js : List PlainPaths) (J : PlainPaths) →
    (if b then Js ++ J ∷ [] else no_paths ∷ []) ≡ (if b then Js else []) ++ if_passed b J ∷ []
some-counted true Js J = refl
some-counted false Js J = refl

pub counted : (G : List PlainPaths) (e : Tree) (ps : Trees) (at : Place) (c : Found) (fs : List Found) → IsFound G e c → AreFound G ps fs →
    case_forms c fs ≡ earlier_joins G (case e ps at) ++ least_type G (case e ps at) ∷ []
counted G e no_trees at c [] hc no_parts =
    ap (λ P. if has P Int then no_paths ∷ [] else no_paths ∷ []) hc.paths ∙ none-counted (has (least_type G e) Int)
counted G e no_trees at c (f ∷ fs) hc x4 = elim x4 [ ]
counted G e (and_tree p ps) at c [] hc x4 = elim x4 [ ]
counted G e (and_tree p ps) at c (f ∷ fs) hc (and_part h r) =
    ap (λ P. if has P Int then earlier_joined (f ∷ fs) ++ joined (f ∷ fs) ∷ [] else no_paths ∷ []) hc.paths
    ∙ (ap (λ J. if has (least_type G e) Int then earlier_joined (f ∷ fs) ++ J ∷ [] else no_paths ∷ []) (joined-all (and_part h r))
    ∙ (ap (λ Js. if has (least_type G e) Int then Js ++ join_of_all G (and_tree p ps) ∷ [] else no_paths ∷ [])
    (ap (λ P. joins_before P fs) h.paths ∙ before-last r (least_type G p))
    ∙ some-counted (has (least_type G e) Int) (joins_before_last G (least_type G p) ps) (join_of_all G (and_tree p ps))))

parts-pairs : {G : List PlainPaths} {ps : Trees} {fs : List Found} → AreFound G ps fs → (A : PlainType) → HavePairs G (of_parts ps) (all_at A fs)
parts-pairs no_parts A = no_premises
parts-pairs {G = G} (and_part {p = p} {f = f} h r) A = and_plain (sub-pairs G p A (derivation_of f) h.pairs) (parts-pairs r A)

case-derived : (G : List PlainPaths) (e p : Tree) (ps : Trees) (at : Place) (c f : Found) (fs : List Found) (A : PlainType) → IsFound G e c →
    AreFound G (and_tree p ps) (f ∷ fs) → has_atom c Int ≡ true → paths A ≡ joined (f ∷ fs) →
    ConcludesBelow G (case e (and_tree p ps) at) (rule (and_derivation (as_atom Int c) (all_at A (f ∷ fs))))
case-derived G e p ps at c f fs A hc hs t joined_there = λ H i n. (
  A,
  rule_judged (and_derivation (as_atom Int c) (all_at A (f ∷ fs))) n H (case e (and_tree p ps) at) ((nothing, e) ∷ of_parts (and_tree p ps))
      (all_conclude (atom Int ∷ copies (and_tree p ps) A)) refl (omega (arith, parts-count hs A))
      (ap (λ j. then_others j (λ X. each_judged (all_at A (f ∷ fs)) (n + 1 + nodes (as_atom Int c)) H (of_parts (and_tree p ps)) (X ∷ [])))
      (taken-atom G e c hc Int t H i (n + 1))
      ∙ parts-judged hs A (subst (λ J. AreAbove G J (and_tree p ps)) (sym there) (all-above (and_tree p ps) G)) H i (n + 1 + nodes (as_atom Int c))
      (atom Int ∷ []))
      ∙ ap (at_node n) (when (all_same A (copies ps A)) A (all_same-copies ps A)),
  subst (λ J. ArePathsBelow (paths A) J) (there ∙ sym (ap (λ b. if_passed b (join_of_all G (and_tree p ps)))
      (ap (λ P. has P Int) (sym hc.paths) ∙ t)))
      (ArePathsBelow-refl (paths A)),
)
  where
    there : paths A ≡ join_of_all G (and_tree p ps)
    there = joined_there ∙ joined-all hs

pub case-found : (G : List PlainPaths) (e : Tree) (ps : Trees) (at : Place) (c r : Found) (fs : List Found) → IsFound G e c → AreFound G ps fs →
    IsCase c fs at r → IsCased c fs (derivation_of r) → IsFound G (case e ps at) r
case-found G e ps at c r fs hc hs made choice = record {
  paths = made.least ∙ (ap (λ P. if_passed (has P Int) (joined fs)) hc.paths ∙ ap (if_passed (has (least_type G e) Int)) (joined-all hs));
  blame = made.blame ∙ (blame-same G e c (blame_at_some fs at) hc ∙ ap (if_empty (least_type G e) (blame_of G e)) (parts-blame hs at));
  within = λ m. and_visit (subst AreWithin (counted G e ps at c fs hc hs) made.within) no_forms
      (within-append (hc.within (m + 1)) (parts-within hs (m + 1 + sizes.nodes e)));
  total = λ m. omega (
    arith,
    made.total,
    hc.total (m + 1),
    parts-total hs (m + 1 + sizes.nodes e),
    nodes-append (visits (m + 1) G e) (visits_of_all (m + 1 + sizes.nodes e) G ps),
    ap nodes_of_forms (counted G e ps at c fs hc hs),
  );
  low = made.low;
  derived = derived ps fs hs choice;
  few = λ m. omega (
    arith,
    hc.few (m + 1),
    few-of fs hs choice (m + 1 + sizes.nodes e),
    length-append (visits (m + 1) G e) (visits_of_all (m + 1 + sizes.nodes e) G ps),
  );
  shallow = omega (arith, hc.shallow, shallow-of fs hs choice);
  kept = last-within (earlier_joins G (case e ps at)) (least_type G (case e ps at)) (subst AreWithin (counted G e ps at c fs hc hs) made.within);
  types = omega (arith, hc.types, types-of fs hs made.within choice);
  layered = layers fs hs choice;
  pairs = paired ps fs hs choice (derived ps fs hs choice);
  printable = λ names text. prints names text fs hs choice;
}
  where
    paired : (ps : Trees) (fs : List Found) → AreFound G ps fs → IsCased c fs (derivation_of r) →
        ConcludesBelow G (case e ps at) (derivation_of r) → HasPairsAbove G (case e ps at) (derivation_of r)
    paired no_trees [] no_parts x = empty-pairs G e at (derivation_of r)
    paired no_trees (f ∷ fs) hs x = elim hs [ ]
    paired (and_tree p ps) [] hs x = elim hs [ ]
    paired (and_tree p ps) (f ∷ fs) hs (inl x) =
        untested-pairs G e (case e (and_tree p ps) at) (of_parts (and_tree p ps)) Int (derivation_of r) refl
        (sym (ap (λ X. has X Int) hc.paths) ∙ x.0) (λ I Bs A. picked-first Bs A)
    paired (and_tree p ps) (f ∷ fs) hs (inr x) =
        subst (λ d. ConcludesBelow G (case e (and_tree p ps) at) d → HasPairsAbove G (case e (and_tree p ps) at) d) (sym x.3)
        (rule-pairs G (case e (and_tree p ps) at) ((nothing, e) ∷ of_parts (and_tree p ps))
        (and_derivation (as_atom Int c) (all_at x.1 (f ∷ fs))) refl
        (and_plain (sub-pairs G e (atom Int) (derivation_of c) hc.pairs) (parts-pairs hs x.1)))

    prints : (names : List Bytes) → IsWritable names G (case e ps at) → (gs : List Found) → AreFound G ps gs →
        IsCased c gs (derivation_of r) → IsPrintable names (derivation_of r)
    prints names text [] h x = subst (IsPrintable names) (sym x) tt
    prints names text (g ∷ gs) h (inl x) = subst (IsPrintable names) (sym x.1) tt
    prints names text (g ∷ gs) h (inr x) =
        let index : IsWritable names G e =
        record { around = text.around; named = text.named.0; full = text.full.0; few = omega (arith, text.few) } in
        let join = subst (AllFormFields (IsNamed names)) (sym (joined-all h)) (all-fields (IsNamed names) ps G text.around text.named.1) in
        let type = made-printable names (joined (g ∷ gs)) x.1 x.2 join in
        subst (IsPrintable names) (sym x.3) (
          omega (arith, text.few, parts-low h x.1),
          (
            (tt, tt, hc.printable names index),
            parts-printable h x.1 names type text.around text.named.1 text.full.1 (omega (arith, text.few)),
          ),
        )

    layers : (gs : List Found) → AreFound G ps gs → IsCased c gs (derivation_of r) → IsLayered met (derivation_of r)
    layers [] h x = subst (IsLayered met) (sym x) ns-layered
    layers (g ∷ gs) h (inl x) = subst (IsLayered met) (sym x.1) ns-layered
    layers (g ∷ gs) h (inr x) =
        subst (IsLayered met) (sym x.3) (no_meet (a_rule (and_layers (one_sub hc.layered) (parts-layered h x.1))))

    derived : (ps : Trees) (fs : List Found) → AreFound G ps fs → IsCased c fs (derivation_of r) → ConcludesBelow G (case e ps at) (derivation_of r)
    derived no_trees [] no_parts x = subst (ConcludesBelow G (case e no_trees at)) (sym x)
        (none-derived G (case e no_trees at) (none-passed (has (least_type G e) Int)))
    derived no_trees (f ∷ fs) hs x = elim hs [ ]
    derived (and_tree p ps) [] hs x = elim hs [ ]
    derived (and_tree p ps) (f ∷ fs) hs (inl x) =
        subst (ConcludesBelow G (case e (and_tree p ps) at)) (sym x.1)
        (none-derived G (case e (and_tree p ps) at) (ap (λ b. if_passed b (join_of_all G (and_tree p ps)))
        (ap (λ P. has P Int) (sym hc.paths) ∙ x.0)))
    derived (and_tree p ps) (f ∷ fs) hs (inr x) =
        subst (ConcludesBelow G (case e (and_tree p ps) at)) (sym x.3) (case-derived G e p ps at c f fs x.1 hc hs x.0 x.2.0)

    types-of : (gs : List Found) → AreFound G ps gs → AreWithin (case_forms c gs) → IsCased c gs (derivation_of r) →
        deepest_type (derivation_of r) ≤ max (deepest_type (derivation_of c)) (max (deepest_of_parts ps) most_made_nesting)
    types-of [] h w x = omega (arith, ap deepest_type x)
    types-of (g ∷ gs) h w (inl x) = omega (arith, ap deepest_type x.1)
    types-of (g ∷ gs) h w (inr x) =
        let joins = subst (λ b. AreWithin (if b then earlier_joined (g ∷ gs) ++ joined (g ∷ gs) ∷ [] else no_paths ∷ [])) x.0 w in
        let within = last-within (earlier_joined (g ∷ gs)) (joined (g ∷ gs)) joins in
        omega (arith, ap deepest_type x.3, parts-types h x.1, made-nesting (joined (g ∷ gs)) x.1 x.2 within)

    few-of : (gs : List Found) → AreFound G ps gs → IsCased c gs (derivation_of r) → (m : ℕ) →
        nodes (derivation_of r) ≤ 2 + nodes (derivation_of c) + 4 * length (visits_of_all m G ps)
    few-of [] h x m = omega (arith, ap nodes x)
    few-of (g ∷ gs) h (inl x) m = omega (arith, ap nodes x.1)
    few-of (g ∷ gs) h (inr x) m = omega (arith, ap nodes x.3, parts-few h x.1 m)

    shallow-of : (gs : List Found) → AreFound G ps gs → IsCased c gs (derivation_of r) → derivations.nesting (derivation_of r)
        ≤ 1 + max (1 + derivations.nesting (derivation_of c)) (3 * all_nesting ps)
    shallow-of [] h x = omega (arith, ap derivations.nesting x)
    shallow-of (g ∷ gs) h (inl x) = omega (arith, ap derivations.nesting x.1)
    shallow-of (g ∷ gs) h (inr x) = omega (arith, ap derivations.nesting x.3, parts-shallow h x.1)
