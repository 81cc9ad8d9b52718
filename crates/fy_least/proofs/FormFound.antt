-- What is found of forms whose parts are taken at their least types.
use Rattle.std.proofs.Common.{ℕ, zero, suc, ◌+◌, ◌≤◌, ◌≡◌, max, Bool, true, false, not, ◌&&◌, List, [], ◌∷◌, ◌++◌, eqb, eqb-true, eq-eqb, Option, option_map, Some, None, inl, inr, slice_get, refl, sym, ap, ◌∙◌, subst, arith, if◌then◌else◌}
use Rattle.std.proofs.lemmas.Bool.{and_from}
use Rattle.std.proofs.lemmas.List.{length-append}
use Rattle.std.proofs.lemmas.Option.{slice_get-map}
use Rattle.fy_base.specs.declared.data.Place.{Place}
use Rattle.fy_base.specs.Outside.{Bytes}
use Rattle.fy_types.specs.declared.types.Atom.TheVariants.{Bool as Truth}
use Rattle.fy_types.specs.Types.{PlainType, atom, arrow, field as field_type, meet, no_types, and_type}
use Rattle.fy_types.specs.Paths.{PlainPath, PlainPaths, end, call, pick, no_paths, and_path, append, called, picked, paths}
use Rattle.fy_types.specs.PathOrder.{ArePathsBelow, none_left, and_above, here, calls, picks}
use Rattle.fy_types.specs.Once.{once}
use Rattle.fy_types.specs.Bounds.{meet_of, join_of}
use Rattle.fy_types.specs.Limits.{all_nesting, IsWithinLimits}
use Rattle.fy_types.specs.Limits.{nesting as nesting_of}
use Rattle.fy_types.specs.Reading.{plain_paths, types_from}
use Rattle.fy_types.specs.Nested.{type_nesting}
use Rattle.fy_types.specs.Fields.{IsNamed, AllFormFields}
use Rattle.fy_types.proofs.Order.{IsPathBelow-refl, ArePathsBelow-refl, ArePathsBelow-trans}
use Rattle.fy_types.proofs.Laws.{append-left, append-right, append-greatest, append-none, called-append, called-below, picked-append, picked-below}
use Rattle.fy_types.proofs.OnceLemmas.{both_true, below-once}
use Rattle.fy_types.proofs.BoundLemmas.{join_of-left, join_of-right}
use Rattle.fy_phrase.specs.Tree.{Tree, var, cond, app, field, sel, merge, let_in, rec}
use Rattle.fy_phrase.specs.Sizes.{nesting}
use Rattle.fy_phrase.specs.Sizes as sizes
use Rattle.fy_derive.specs.Derivations.{PlainDerivation, sub, meets, left, right, rule, no_derivations, and_derivation, nodes}
use Rattle.fy_derive.specs.Derivations as derivations
use Rattle.fy_derive.specs.Kinds.{Kind, kind_of, begins, none_begins}
use Rattle.fy_derive.specs.Subsumption.{paths_below}
use Rattle.fy_derive.specs.Rules.{nothing, first, given, provided, is_atom, same_type}
use Rattle.fy_derive.specs.Tables.{type_at}
use Rattle.fy_derive.specs.Judging.{concludes, then_judge, then_others, at_node, if_form, all_conclude, from_premises, judged}
use Rattle.fy_derive.specs.Least.{forms_of, paths_at, if_passed, has, rest_of_call, rests_of_call, rest_of_field, rests_of_field, others, merge_of, least_type, visits}
use Rattle.fy_derive.proofs.CompleteLemmas.{no-premise, one-premise, two-premises, three-premises, when}
use Rattle.fy_derive.proofs.RuleLemmas.{same_type-refl}
use Rattle.fy_least.specs.declared.found.Found.{Found}
use Rattle.fy_least.specs.Blame.{if_empty, blame_of}
use Rattle.fy_least.specs.Counts.{no_forms, and_form}
use Rattle.fy_least.specs.Derived.{rule_of, rule_of_both, derived_if, ConcludesBelow, most_made_nesting}
use Rattle.fy_derive.specs.Limits.{deepest_type}
use Rattle.fy_derive.specs.Printable.{IsPrintable}
use Rattle.fy_least.specs.Layers.{met, IsLayered}
use Rattle.fy_phrase.specs.CoreLimits.{deepest_written}
use Rattle.fy_least.specs.Forms.{variable_rule, IsApplied, IsPicked, IsDefined, IsMerged, is_recursive, IsChosen}
use Rattle.fy_least.specs.Pairs.{HasPairsAbove}
use Rattle.fy_least.specs.Writable.{IsWritable}
use Rattle.fy_least.specs.Visited.{IsFound, IsMade, blame_at, has_atom, derivation_of, as_atom}
use Rattle.fy_least.proofs.BelowLemmas.{more-below, test-below}
use Rattle.fy_least.proofs.FoundLemmas.{made-nesting, taken, taken-atom, found-fields, none-found, one-found, two-found, made-found, blame-same, passed-derived, none-derived}
use Rattle.fy_least.proofs.CountLemmas.{within-append, nodes-append}
use Rattle.fy_least.proofs.FormFields.{paths-fields, once-fields, join-fields, call-fields, selection-fields, others-fields}
use Rattle.fy_least.proofs.LayerLemmas.{ns-layered, none-layered, bare-layered, one-layered, two-layered, defined-layered, three-layered, merge-layered, if-layered}
use Rattle.fy_least.proofs.LeastFields.{least-fields, part-writable, both-writable}
use Rattle.fy_least.proofs.PairLemmas.{provided-some, IsSolid, no_premises, and_plain, and_given, none-pairs, sub-pairs, rule-pairs, passed-pairs, untested-pairs, let-pairs, merge-pairs, unmerged-pairs}
use Rattle.fy_least.proofs.PrintableLemmas.{made-printable, arrow-printable, none-printable, bare-printable, one-printable, two-printable, defined-printable, three-printable, merge-printable, if-printable}

-- a variable
known : (G : List PlainPaths) (k : ℕ) (H : List PlainType) → forms_of H ≡ G → option_map paths (slice_get H k) ≡ slice_get G k
known G k H i = sym (slice_get-map paths H k) ∙ ap (λ Gs. slice_get Gs k) i

at-some : (G : List PlainPaths) (k : ℕ) (P : PlainPaths) → slice_get G k ≡ Some P → paths_at G k ≡ P
at-some [] k P e = absurd (cc)
at-some (Q ∷ G) zero P e = cc
at-some (Q ∷ G) (suc k) P e = at-some G k P e

at-none : (G : List PlainPaths) (k : ℕ) → slice_get G k ≡ None → paths_at G k ≡ no_paths
at-none [] k e = refl
at-none (Q ∷ G) zero e = absurd (cc)
at-none (Q ∷ G) (suc k) e = at-none G k e

pub var-found : (G : List PlainPaths) (k : ℕ) (at : Place) (f : Found) → IsMade (once (paths_at G k)) at 0 f →
    derivation_of f ≡ variable_rule (slice_get G k) → IsFound G (var k at) f
var-found G k at f made e =
    none-found G (var k at) at f (variable_rule (slice_get G k)) made refl refl refl (λ m. refl) e (derived (slice_get G k) refl)
    (few (slice_get G k)) (shallow (slice_get G k)) (omega arith) (plain (slice_get G k)) (layers (slice_get G k))
    (prints (slice_get G k)) (none-pairs G (var k at) (variable_rule (slice_get G k)) refl)
  where
    prints : (o : Option PlainPaths) (names : List Bytes) → IsPrintable names (variable_rule o)
    prints None names = tt
    prints (Some P) names = none-printable names

    layers : (o : Option PlainPaths) → IsLayered met (variable_rule o)
    layers None = ns-layered
    layers (Some P) = none-layered

    plain : (o : Option PlainPaths) → deepest_type (variable_rule o) ≡ 0
    plain None = refl
    plain (Some P) = refl

    low : (o : Option PlainPaths) (H : List PlainType) (P : PlainPaths) → slice_get G k ≡ Some P → forms_of H ≡ G →
        (A : Option PlainType) → slice_get H k ≡ A → (n : ℕ) →
        (B : PlainType) × (judged (rule no_derivations) n H (var k at) ≡ concludes B) × ArePathsBelow (paths B) (once (paths_at G k))
    low o H P s i None h n =
        let x = ap (option_map paths) (sym h) ∙ (known G k H i ∙ s) in absurd (cc)
    low o H P s i (Some A) h n =
        let x = ap (option_map paths) (sym h) ∙ (known G k H i ∙ s) in
        let same : paths A ≡ P = cc in (
          A,
          no-premise H (var k at) A n refl h,
          subst (λ Q. ArePathsBelow (paths A) (once Q)) (same ∙ sym (at-some G k P s)) (below-once (paths A)),
        )

    derived : (o : Option PlainPaths) → slice_get G k ≡ o → ConcludesBelow G (var k at) (variable_rule o)
    derived None s = none-derived G (var k at) (ap once (at-none G k s))
    derived (Some P) s = λ H i n. low (Some P) H P s i (slice_get H k) refl n

    few : (o : Option PlainPaths) → nodes (variable_rule o) ≡ 1
    few None = refl
    few (Some P) = refl

    shallow : (o : Option PlainPaths) → derivations.nesting (variable_rule o) ≡ 1
    shallow None = refl
    shallow (Some P) = refl

-- a call
call-below : (Q : PlainPaths) (p : PlainPath) (P : PlainPaths) → ArePathsBelow (and_path p P) (called Q (rest_of_call Q p))
call-below Q (end a) P = none_left
call-below Q (pick i p) P = none_left
call-below Q (call D p) P = cases (paths_below Q D) refl
  where
    cases : (b : Bool) → paths_below Q D ≡ b → ArePathsBelow (and_path (call D p) P) (called Q (if_passed b (and_path p no_paths)))
    cases true e = and_above (here (calls (test-below Q D e) (IsPathBelow-refl p))) none_left
    cases false e = none_left

calls-below : (Q P : PlainPaths) → ArePathsBelow P (called Q (rests_of_call Q P))
calls-below Q no_paths = none_left
calls-below Q (and_path p P) =
    subst (λ X. ArePathsBelow (and_path p P) X) (sym (called-append Q (rest_of_call Q p) (rests_of_call Q P)))
    (append-greatest (call-below Q p P) (ArePathsBelow-trans P (more-below p P) (calls-below Q P)))

pub app-found : (G : List PlainPaths) (p q : Tree) (at : Place) (f g r : Found) → IsFound G p f → IsFound G q g →
    IsMade (once (rests_of_call (plain_paths g.paths) (plain_paths f.paths))) (blame_at f (blame_at g at)) (f.total + g.total) r →
    IsApplied f g (derivation_of r) → IsFound G (app p q at) r
app-found G p q at f g r hf hg made x =
    two-found G G p q (app p q at) at f g r (rule_of_both (sub (arrow x.0 x.1) (derivation_of f)) (sub x.0 (derivation_of g)))
    (λ m. m + 1 + sizes.nodes p)
    hf hg (subst (λ P. IsMade P (blame_at f (blame_at g at)) (f.total + g.total) r) (sym test) made) refl refl refl (λ m. refl) refl x.4
    (λ H i n. (
      x.1,
      two-premises H (app p q at) p q nothing nothing (sub (arrow x.0 x.1) (derivation_of f)) (sub x.0 (derivation_of g)) (arrow x.0 x.1) x.0 x.1 n
          refl
          (taken G p (derivation_of f) hf.derived (arrow x.0 x.1) low H i (n + 1))
          (taken G q (derivation_of g) hg.derived x.0 (subst (λ P. ArePathsBelow (least_type G q) P) (sym argument)
          (ArePathsBelow-refl (least_type G q)))
          H i (n + 1 + nodes (sub (arrow x.0 x.1) (derivation_of f))))
          (when (same_type x.0 x.0) x.1 (same_type-refl x.0)),
      subst (λ P. ArePathsBelow (paths x.1) P) result (ArePathsBelow-refl (paths x.1)),
    )) (omega arith) (omega arith)
    (omega (
      arith,
      hf.types,
      hg.types,
      made-nesting (plain_paths g.paths) x.0 x.2 (subst IsWithinLimits (sym hg.paths) hg.kept),
      made-nesting (once (rests_of_call (plain_paths g.paths) (plain_paths f.paths))) x.1 x.3 made.within,
    ))
    (two-layered (arrow x.0 x.1) x.0 (derivation_of f) (derivation_of g) hf.layered hg.layered) prints
    (rule-pairs G (app p q at) ((nothing, p) ∷ (nothing, q) ∷ [])
    (and_derivation (sub (arrow x.0 x.1) (derivation_of f)) (and_derivation (sub x.0 (derivation_of g)) no_derivations)) refl
    (and_plain (sub-pairs G p (arrow x.0 x.1) (derivation_of f) hf.pairs) (and_plain (sub-pairs G q x.0 (derivation_of g) hg.pairs) no_premises)))
  where
    prints : (names : List Bytes) → IsWritable names G (app p q at) →
        IsPrintable names (rule_of_both (sub (arrow x.0 x.1) (derivation_of f)) (sub x.0 (derivation_of g)))
    prints names text =
        let each = both-writable names G G p q text.around text.around text.named text.full text.few in
        let given = made-printable names (plain_paths g.paths) x.0 x.2 (found-fields names G q g hg each.1) in
        let rests = call-fields (IsNamed names) (plain_paths g.paths) (plain_paths f.paths) (found-fields names G p f hf each.0) in
        let back = made-printable names (once (rests_of_call (plain_paths g.paths) (plain_paths f.paths))) x.1 x.3
        (once-fields (IsNamed names) (rests_of_call (plain_paths g.paths) (plain_paths f.paths)) rests) in
        two-printable names (arrow x.0 x.1) x.0 (derivation_of f) (derivation_of g) (arrow-printable names x.0 x.1 given back) given
        (hf.printable names each.0) (hg.printable names each.1)

    test : least_type G (app p q at) ≡ once (rests_of_call (plain_paths g.paths) (plain_paths f.paths))
    test =
        ap (λ Q. once (rests_of_call Q (least_type G p))) (sym hg.paths) ∙ ap (λ P. once (rests_of_call (plain_paths g.paths) P)) (sym hf.paths)

    argument : paths x.0 ≡ least_type G q
    argument = x.2.0 ∙ hg.paths

    result : paths x.1 ≡ least_type G (app p q at)
    result = x.3.0 ∙ sym test

    low : ArePathsBelow (least_type G p) (called (paths x.0) (paths x.1))
    low =
        subst (λ Q. ArePathsBelow (least_type G p) (called Q (paths x.1))) (sym argument)
        (subst (λ R. ArePathsBelow (least_type G p) (called (least_type G q) R)) (sym result)
        (ArePathsBelow-trans (called (least_type G q) (rests_of_call (least_type G q) (least_type G p)))
        (calls-below (least_type G q) (least_type G p))
        (called-below (ArePathsBelow-refl (least_type G q)) (below-once (rests_of_call (least_type G q) (least_type G p))))))

-- fields
pub field-found : (G : List PlainPaths) (i : ℕ) (p : Tree) (at : Place) (part f : Found) → IsFound G p part →
    IsMade (picked i (plain_paths part.paths)) (blame_at part at) part.total f → derivation_of f ≡ rule_of (derivation_of part) →
    IsFound G (field i p at) f
field-found G i p at part f h made e =
    one-found G G p (field i p at) at part f (rule_of (derivation_of part)) h
    (subst (λ P. IsMade (picked i P) (blame_at part at) part.total f) h.paths made) refl refl no_forms (λ m. refl) refl e
    (λ H j n.
    let x = h.derived H j (n + 1) in (
      field_type i x.0,
      one-premise H (field i p at) p nothing (derivation_of part) x.0 (field_type i x.0) n refl x.1 refl,
      picked-below i x.2,
    )) (omega arith) (omega arith) (omega (arith, h.types)) (bare-layered (derivation_of part) h.layered)
    (λ names text. bare-printable names (derivation_of part)
    (h.printable names (part-writable names G p text.around text.named.1 text.full text.few)))
    (rule-pairs G (field i p at) ((nothing, p) ∷ []) (and_derivation (derivation_of part) no_derivations) refl (and_plain h.pairs no_premises))

pick-below : (i : ℕ) (p : PlainPath) (P : PlainPaths) → ArePathsBelow (and_path p P) (picked i (rest_of_field i p))
pick-below i (end a) P = none_left
pick-below i (call D p) P = none_left
pick-below i (pick j p) P = cases (eqb i j) refl
  where
    cases : (b : Bool) → eqb i j ≡ b → ArePathsBelow (and_path (pick j p) P) (picked i (if_passed b (and_path p no_paths)))
    cases true e =
        subst (λ k. ArePathsBelow (and_path (pick k p) P) (picked i (and_path p no_paths))) (eqb-true i j e)
        (and_above (here (picks (IsPathBelow-refl p))) none_left)
    cases false e = none_left

picks-below : (i : ℕ) (P : PlainPaths) → ArePathsBelow P (picked i (rests_of_field i P))
picks-below i no_paths = none_left
picks-below i (and_path p P) =
    subst (λ X. ArePathsBelow (and_path p P) X) (sym (picked-append i (rest_of_field i p) (rests_of_field i P)))
    (append-greatest (pick-below i p P) (ArePathsBelow-trans P (more-below p P) (picks-below i P)))

pub sel-found : (G : List PlainPaths) (i : ℕ) (p : Tree) (at : Place) (part f : Found) → IsFound G p part →
    IsMade (rests_of_field i (plain_paths part.paths)) (blame_at part at) part.total f → IsPicked i part (derivation_of f) →
    IsFound G (sel p i at) f
sel-found G i p at part f h made x =
    one-found G G p (sel p i at) at part f (rule_of (sub (field_type i x.0) (derivation_of part))) h
    (subst (λ P. IsMade (rests_of_field i P) (blame_at part at) part.total f) h.paths made) refl refl no_forms (λ m. refl) refl x.2
    (λ H j n. (
      x.0,
      one-premise H (sel p i at) p nothing (sub (field_type i x.0) (derivation_of part)) (field_type i x.0) x.0 n refl
          (taken G p (derivation_of part) h.derived (field_type i x.0) low H j (n + 1)) (when (eqb i i) x.0 (eq-eqb i i refl)),
      subst (λ P. ArePathsBelow (paths x.0) P) same (ArePathsBelow-refl (paths x.0)),
    )) (omega arith) (omega arith)
    (omega (arith, h.types, made-nesting (rests_of_field i (plain_paths part.paths)) x.0 x.1 made.within))
    (one-layered (field_type i x.0) (derivation_of part) h.layered) prints
    (rule-pairs G (sel p i at) ((nothing, p) ∷ []) (and_derivation (sub (field_type i x.0) (derivation_of part)) no_derivations) refl
    (and_plain (sub-pairs G p (field_type i x.0) (derivation_of part) h.pairs) no_premises))
  where
    prints : (names : List Bytes) → IsWritable names G (sel p i at) → IsPrintable names (rule_of (sub (field_type i x.0) (derivation_of part)))
    prints names text =
        let inner = part-writable names G p text.around text.named.1 text.full text.few in
        let rests = selection-fields (IsNamed names) i (plain_paths part.paths) (found-fields names G p part h inner) in
        let back = made-printable names (rests_of_field i (plain_paths part.paths)) x.0 x.1 rests in
        one-printable names (field_type i x.0) (derivation_of part) ((text.named.0, back.0), back.1) (h.printable names inner)

    same : paths x.0 ≡ rests_of_field i (least_type G p)
    same = x.1.0 ∙ ap (rests_of_field i) h.paths

    low : ArePathsBelow (least_type G p) (picked i (paths x.0))
    low = subst (λ R. ArePathsBelow (least_type G p) (picked i R)) (sym same) (picks-below i (least_type G p))

-- a definition
pub let-found : (G : List PlainPaths) (d : ℕ) (p q : Tree) (at : Place) (f g r : Found) → IsFound G p f → IsFound (plain_paths f.paths ∷ G) q g →
    IsMade (plain_paths g.paths) (blame_at f (blame_at g at)) (f.total + g.total) r → IsDefined f g (derivation_of r) → IsFound G (let_in d p q at) r
let-found G d p q at f g r hf hg made x =
    two-found G (least_type G p ∷ G) p q (let_in d p q at) at f g r (rule_of_both (sub x.0 (derivation_of f)) (derivation_of g))
    (λ m. m + 1 + sizes.nodes p)
    hf inner (subst (λ P. IsMade P (blame_at f (blame_at g at)) (f.total + g.total) r) inner.paths made) refl refl refl (λ m. refl) refl x.2
    (λ H i n.
    let y = inner.derived (x.0 ∷ H) (ap (λ P. P ∷ forms_of H) defined ∙ ap (λ X. least_type G p ∷ X) i)
    (n + 1 + nodes (sub x.0 (derivation_of f))) in (
      y.0,
      two-premises H (let_in d p q at) p q nothing first (sub x.0 (derivation_of f)) (derivation_of g) x.0 y.0 y.0 n refl
          (taken G p (derivation_of f) hf.derived x.0 (subst (λ P. ArePathsBelow (least_type G p) P) (sym defined)
          (ArePathsBelow-refl (least_type G p))) H i (n + 1))
          y.1 refl,
      y.2,
    )) (omega arith) (omega arith)
    (omega (arith, hf.types, hg.types, made-nesting (plain_paths f.paths) x.0 x.1 (subst IsWithinLimits (sym hf.paths) hf.kept)))
    (defined-layered x.0 (derivation_of f) (derivation_of g) hf.layered hg.layered) prints
    (let-pairs G d p q at x.0 (derivation_of f) (derivation_of g) defined hf.pairs inner.pairs
    (λ H i. taken G p (derivation_of f) hf.derived x.0
    (subst (λ P. ArePathsBelow (least_type G p) P) (sym defined) (ArePathsBelow-refl (least_type G p))) H i 0))
  where
    prints : (names : List Bytes) → IsWritable names G (let_in d p q at) →
        IsPrintable names (rule_of_both (sub x.0 (derivation_of f)) (derivation_of g))
    prints names text =
        let fields = least-fields (IsNamed names) p G text.around text.named.0 in
        let each = both-writable names G (plain_paths f.paths ∷ G) p q text.around
        (subst (AllFormFields (IsNamed names)) (sym hf.paths) fields, text.around) text.named text.full text.few in
        defined-printable names x.0 (derivation_of f) (derivation_of g)
        (made-printable names (plain_paths f.paths) x.0 x.1 (found-fields names G p f hf each.0))
        (hf.printable names each.0) (hg.printable names each.1)

    inner : IsFound (least_type G p ∷ G) q g
    inner = subst (λ P. IsFound (P ∷ G) q g) hf.paths hg

    defined : paths x.0 ≡ least_type G p
    defined = x.1.0 ∙ hf.paths

-- a phrase of a type that is defined by itself
pub rec-found : (G : List PlainPaths) (d : ℕ) (T : PlainType) (p : Tree) (at : Place) (P : PlainPaths) (part f : Found) → P ≡ paths T →
    IsWithinLimits (paths T) → IsFound (paths T ∷ G) p part →
    IsMade (if_passed (is_recursive part P) (once P)) (blame_at part at) part.total f →
    derivation_of f ≡ derived_if (is_recursive part P) (rule_of (sub T (derivation_of part))) → IsFound G (rec d T p at) f
rec-found G d T p at P part f same within h made e =
    one-found G (paths T ∷ G) p (rec d T p at) at part f (derived_if (is_recursive part P) (rule_of (sub T (derivation_of part)))) h
    (subst (λ X. IsMade X (blame_at part at) part.total f) (sym test) made) refl refl (and_form within no_forms) (λ m. refl) refl e
    (passed-derived G (rec d T p at) (is_recursive part P) (once P) (rule_of (sub T (derivation_of part))) test
    (λ t H i n. (
      T,
      one-premise H (rec d T p at) p (given T) (sub T (derivation_of part)) T T n refl
          (taken (paths T ∷ G) p (derivation_of part) h.derived T
          (test-below (least_type (paths T ∷ G) p) (paths T)
          (sym (ap (λ X. paths_below X (paths T)) h.paths) ∙ (sym (ap (λ X. is_recursive part X) same) ∙ t)))
          (T ∷ H) (ap (λ X. paths T ∷ X) i) (n + 1))
          (when (same_type T T) T (same_type-refl T)),
      subst (λ X. ArePathsBelow (paths T) (once X)) (sym same) (below-once (paths T)),
    )))
    (few (is_recursive part P)) (shallow (is_recursive part P)) (omega (arith, types (is_recursive part P), h.types))
    (if-layered (is_recursive part P) (rule_of (sub T (derivation_of part))) (one-layered T (derivation_of part) h.layered))
    (λ names text. if-printable names (is_recursive part P) (rule_of (sub T (derivation_of part)))
    (one-printable names T (derivation_of part) (text.named.0, text.full.0)
    (h.printable names (part-writable names (paths T ∷ G) p (paths-fields (IsNamed names) T text.named.0, text.around)
    text.named.1 text.full.1 text.few))))
    (passed-pairs G (rec d T p at) ((given T, p) ∷ []) (is_recursive part P) (once P) (rule_of (sub T (derivation_of part))) refl test solid
    (rule-pairs G (rec d T p at) ((given T, p) ∷ []) (and_derivation (sub T (derivation_of part)) no_derivations) refl
    (and_given (sub-pairs (paths T ∷ G) p T (derivation_of part) h.pairs) no_premises)))
  where
    solid : is_recursive part P ≡ false → IsSolid (rec d T p at)
    solid off I Bs A c none =
        let empty : P ≡ no_paths = same ∙ (ap paths (provided-some (same_type (type_at Bs 0) T) T A c).1 ∙ none) in
        let failed = sym (ap (is_recursive part) empty) ∙ off in cc

    types : (b : Bool) → deepest_type (derived_if b (rule_of (sub T (derivation_of part)))) ≤ max (type_nesting T) (deepest_type (derivation_of part))
    types true = omega arith
    types false = omega arith

    test : least_type G (rec d T p at) ≡ if_passed (is_recursive part P) (once P)
    test =
        ap (λ X. if_passed (paths_below X (paths T)) (once (paths T))) (sym h.paths)
        ∙ ap (λ X. if_passed (paths_below (plain_paths part.paths) X) (once X)) (sym same)

    few : (b : Bool) → nodes (derived_if b (rule_of (sub T (derivation_of part)))) ≤ 2 + nodes (derivation_of part)
    few true = omega arith
    few false = omega arith

    shallow : (b : Bool) → derivations.nesting (derived_if b (rule_of (sub T (derivation_of part)))) ≤ 2 + derivations.nesting (derivation_of part)
    shallow true = omega arith
    shallow false = omega arith

-- a merge
others-clear : (k : Kind) (P : PlainPaths) → none_begins k (others k P) ≡ true
others-clear k no_paths = refl
others-clear k (and_path p P) = cases (begins k p) refl (others-clear k P)
  where
    cases : (b : Bool) → begins k p ≡ b → none_begins k (others k P) ≡ true → none_begins k (if b then others k P else and_path p (others k P)) ≡ true
    cases true e h = h
    cases false e h = and_from _ _ (ap not e) h

left-judged : (H : List PlainType) (p q : Tree) (at : Place) (k : Kind) (d : PlainDerivation) (A : PlainType) (n : ℕ) → kind_of q ≡ Some k →
    judged d (n + 1) H p ≡ concludes A → none_begins k (paths A) ≡ true → judged (left d) n H (merge p q at) ≡ concludes A
left-judged H p q at k d A n m h c =
    ap (λ o. if_form {X = Tree × Tree × Kind} n (option_map (λ k. (p, q, k)) o)
    (λ x'. then_judge (judged d (n + 1) H x'.0) (λ A. at_node n (provided (none_begins x'.2 (paths A)) A)))) m
    ∙ (ap (λ j. then_judge j (λ A. at_node n (provided (none_begins k (paths A)) A))) h ∙ ap (at_node n) (when _ A c))

right-judged : (H : List PlainType) (p q : Tree) (at : Place) (k : Kind) (d : PlainDerivation) (A : PlainType) (n : ℕ) → kind_of q ≡ Some k →
    judged d (n + 1) H q ≡ concludes A → judged (right d) n H (merge p q at) ≡ concludes A
right-judged H p q at k d A n m h =
    ap (λ o. if_form {X = Tree × Tree × Kind} n (option_map (λ k. (p, q, k)) o) (λ x'. judged d (n + 1) H x'.1)) m ∙ h

pair-judged : (H : List PlainType) (t : Tree) (d e : PlainDerivation) (A B : PlainType) (n : ℕ) → judged d (n + 1) H t ≡ concludes A →
    judged e (n + 1 + nodes d) H t ≡ concludes B →
    judged (meets (and_derivation d (and_derivation e no_derivations))) n H t ≡ concludes (meet (and_type A (and_type B no_types)))
pair-judged H t d e A B n h k =
    ap (λ j. from_premises n (then_others j (λ X. then_others (judged e (n + 1 + nodes d) H t) (λ Y. all_conclude (X ∷ Y ∷ []))))
    (λ As. Some (meet (types_from As)))) h
    ∙ ap (λ j. from_premises n (then_others j (λ Y. all_conclude (A ∷ Y ∷ []))) (λ As. Some (meet (types_from As)))) k

others-nesting : (k : Kind) (P : PlainPaths) → all_nesting (others k P) ≤ all_nesting P
others-nesting k no_paths = omega arith
others-nesting k (and_path p P) = cases (begins k p) (others-nesting k P)
  where
    cases : (b : Bool) → all_nesting (others k P) ≤ all_nesting P →
        all_nesting (if b then others k P else and_path p (others k P)) ≤ max (nesting_of p) (all_nesting P)
    cases true h = omega arith
    cases false h = omega arith

others-below : (k : Kind) (P : PlainPaths) → ArePathsBelow P (others k P)
others-below k no_paths = none_left
others-below k (and_path p P) = cases (begins k p) (ArePathsBelow-trans P (more-below p P) (others-below k P))
  where
    cases : (b : Bool) → ArePathsBelow (and_path p P) (others k P) → ArePathsBelow (and_path p P) (if b then others k P else and_path p (others k P))
    cases true h = h
    cases false h = and_above (here (IsPathBelow-refl p)) h

merged-below : (P R Q : PlainPaths) → ArePathsBelow R Q → ArePathsBelow (append P (append R no_paths)) (meet_of P Q)
merged-below P R Q low =
    subst (λ X. ArePathsBelow (append P X) (meet_of P Q)) (sym (append-none R))
    (ArePathsBelow-trans (append P Q) (append-greatest (append-left P R) (ArePathsBelow-trans R (append-right P R) low)) (below-once (append P Q)))

pub merge-found : (G : List PlainPaths) (p q : Tree) (at : Place) (f g r : Found) → IsFound G p f → IsFound G q g →
    IsMade (merge_of (kind_of q) (plain_paths f.paths) (plain_paths g.paths)) (blame_at f (blame_at g at)) (f.total + g.total) r →
    IsMerged (kind_of q) f g (derivation_of r) → IsFound G (merge p q at) r
merge-found G p q at f g r hf hg made choice =
    two-found G G p q (merge p q at) at f g r (derivation_of r) (λ m. m + 1 + sizes.nodes p) hf hg
    (subst (λ P. IsMade P (blame_at f (blame_at g at)) (f.total + g.total) r)
    (ap (λ P. merge_of (kind_of q) P (plain_paths g.paths)) hf.paths ∙ ap (merge_of (kind_of q) (least_type G p)) hg.paths) made)
    refl refl refl (λ m. refl) refl refl
    (derived (kind_of q) refl choice) (few (kind_of q) choice) (shallow (kind_of q) choice) (types (kind_of q) choice)
    (layers (kind_of q) choice) (λ names text. prints names text (kind_of q) choice) (paired (kind_of q) refl choice)
  where
    paired : (o : Option Kind) → kind_of q ≡ o → IsMerged o f g (derivation_of r) → ConcludesBelow G (merge p q at) (derivation_of r) →
        HasPairsAbove G (merge p q at) (derivation_of r)
    paired None m e = unmerged-pairs G p q at (derivation_of r) m
    paired (Some k) m x =
        subst (λ d. ConcludesBelow G (merge p q at) d → HasPairsAbove G (merge p q at) d) (sym x.2)
        (merge-pairs G p q at k x.0 (derivation_of f) (derivation_of g) m hf.pairs hg.pairs)

    prints : (names : List Bytes) → IsWritable names G (merge p q at) → (o : Option Kind) → IsMerged o f g (derivation_of r) →
        IsPrintable names (derivation_of r)
    prints names text None e = subst (IsPrintable names) (sym e) tt
    prints names text (Some k) x =
        let each = both-writable names G G p q text.around text.around text.named text.full text.few in
        let kept = others-fields (IsNamed names) k (plain_paths f.paths) (found-fields names G p f hf each.0) in
        subst (IsPrintable names) (sym x.2)
        (merge-printable names x.0 (derivation_of f) (derivation_of g)
        (made-printable names (others k (plain_paths f.paths)) x.0 x.1 kept)
        (hf.printable names each.0) (hg.printable names each.1))

    layers : (o : Option Kind) → IsMerged o f g (derivation_of r) → IsLayered met (derivation_of r)
    layers None e = subst (IsLayered met) (sym e) ns-layered
    layers (Some k) x = subst (IsLayered met) (sym x.2) (merge-layered x.0 (derivation_of f) (derivation_of g) hf.layered hg.layered)

    types : (o : Option Kind) → IsMerged o f g (derivation_of r) → deepest_type (derivation_of r)
        ≤ max (max (deepest_written p) (deepest_written q)) most_made_nesting
    types None e = omega (arith, ap deepest_type e)
    types (Some k) x =
        let within : IsWithinLimits (plain_paths f.paths) = subst IsWithinLimits (sym hf.paths) hf.kept in
        omega (arith, ap deepest_type x.2, hf.types, hg.types, x.1.1, others-nesting k (plain_paths f.paths), within.shallow)

    derived : (o : Option Kind) → kind_of q ≡ o → IsMerged o f g (derivation_of r) → ConcludesBelow G (merge p q at) (derivation_of r)
    derived None m e =
        subst (ConcludesBelow G (merge p q at)) (sym e)
        (none-derived G (merge p q at) (ap (λ o. merge_of o (least_type G p) (least_type G q)) m))
    derived (Some k) m x =
        subst (ConcludesBelow G (merge p q at)) (sym x.2)
        (λ H i n.
        let kept : paths x.0 ≡ others k (least_type G p) = x.1.0 ∙ ap (others k) hf.paths in
        let y = hg.derived H i (n + 1 + nodes (left (sub x.0 (derivation_of f))) + 1) in (
          meet (and_type x.0 (and_type y.0 no_types)),
          pair-judged H (merge p q at) (left (sub x.0 (derivation_of f))) (right (derivation_of g)) x.0 y.0 n
              (left-judged H p q at k (sub x.0 (derivation_of f)) x.0 (n + 1) m
              (taken G p (derivation_of f) hf.derived x.0 (subst (λ P. ArePathsBelow (least_type G p) P) (sym kept) (others-below k (least_type G p)))
              H i (n + 1 + 1))
              (subst (λ P. none_begins k P ≡ true) (sym kept) (others-clear k (least_type G p))))
              (right-judged H p q at k (derivation_of g) y.0 (n + 1 + nodes (left (sub x.0 (derivation_of f)))) m y.1),
          subst (λ o. ArePathsBelow (append (paths x.0) (append (paths y.0) no_paths)) (merge_of o (least_type G p) (least_type G q))) (sym m)
              (subst (λ P. ArePathsBelow (append P (append (paths y.0) no_paths)) (meet_of (others k (least_type G p)) (least_type G q))) (sym kept)
              (merged-below (others k (least_type G p)) (paths y.0) (least_type G q) y.2)),
        ))

    few : (o : Option Kind) → IsMerged o f g (derivation_of r) → nodes (derivation_of r) ≤ 4 + nodes (derivation_of f) + nodes (derivation_of g)
    few None e = omega (arith, ap nodes e)
    few (Some k) x = omega (arith, ap nodes x.2)

    shallow : (o : Option Kind) → IsMerged o f g (derivation_of r) → derivations.nesting (derivation_of r)
        ≤ 3 + max (derivations.nesting (derivation_of f)) (derivations.nesting (derivation_of g))
    shallow None e = omega (arith, ap derivations.nesting e)
    shallow (Some k) x = omega (arith, ap derivations.nesting x.2)

-- a conditional
pub cond-found : (G : List PlainPaths) (b p q : Tree) (at : Place) (c f g r : Found) → IsFound G b c → IsFound G p f → IsFound G q g →
    IsMade (if_passed (has_atom c Truth) (join_of (plain_paths f.paths) (plain_paths g.paths))) (blame_at c (blame_at f (blame_at g at)))
    (c.total + f.total + g.total) r →
    IsChosen c f g (derivation_of r) → IsFound G (cond b p q at) r
cond-found G b p q at c f g r hc hf hg made choice =
    made-found G (cond b p q at) (blame_at c (blame_at f (blame_at g at))) (c.total + f.total + g.total) r
    (λ m. visits (m + 1) G b ++ (visits (m + 1 + sizes.nodes b) G p ++ visits (m + 1 + sizes.nodes b + sizes.nodes p) G q))
    (subst (λ P. IsMade P (blame_at c (blame_at f (blame_at g at))) (c.total + f.total + g.total) r) (sym test) made)
    (blame-same G b c (blame_at f (blame_at g at)) hc
    ∙ ap (if_empty (least_type G b) (blame_of G b)) (blame-same G p f (blame_at g at) hf
    ∙ ap (if_empty (least_type G p) (blame_of G p)) (blame-same G q g at hg)))
    refl no_forms (λ m. refl)
    (λ m. within-append (hc.within (m + 1)) (within-append (hf.within (m + 1 + sizes.nodes b)) (hg.within (m + 1 + sizes.nodes b + sizes.nodes p))))
    (λ m. omega (
      arith,
      hc.total (m + 1),
      hf.total (m + 1 + sizes.nodes b),
      hg.total (m + 1 + sizes.nodes b + sizes.nodes p),
      nodes-append (visits (m + 1) G b) (visits (m + 1 + sizes.nodes b) G p ++ visits (m + 1 + sizes.nodes b + sizes.nodes p) G q),
      nodes-append (visits (m + 1 + sizes.nodes b) G p) (visits (m + 1 + sizes.nodes b + sizes.nodes p) G q),
    ))
    (derived choice)
    (λ m. omega (
      arith,
      hc.few (m + 1),
      hf.few (m + 1 + sizes.nodes b),
      hg.few (m + 1 + sizes.nodes b + sizes.nodes p),
      length-append (visits (m + 1) G b) (visits (m + 1 + sizes.nodes b) G p ++ visits (m + 1 + sizes.nodes b + sizes.nodes p) G q),
      length-append (visits (m + 1 + sizes.nodes b) G p) (visits (m + 1 + sizes.nodes b + sizes.nodes p) G q),
      few choice,
    ))
    (omega (arith, hc.shallow, hf.shallow, hg.shallow, shallow choice)) (types choice) (layers choice)
    (λ names text. prints names text choice) (paired choice (derived choice))
  where
    paired : IsChosen c f g (derivation_of r) → ConcludesBelow G (cond b p q at) (derivation_of r) → HasPairsAbove G (cond b p q at) (derivation_of r)
    paired (inl x) =
        untested-pairs G b (cond b p q at) ((nothing, p) ∷ (nothing, q) ∷ []) Truth (derivation_of r) refl
        (sym (ap (λ X. has X Truth) hc.paths) ∙ x.0)
        (λ I Bs A e. (both_true (is_atom Truth (type_at Bs 0)) (same_type (type_at Bs 1) (type_at Bs 2))
        (provided-some (is_atom Truth (type_at Bs 0) && same_type (type_at Bs 1) (type_at Bs 2)) (type_at Bs 1) A e).0).0)
    paired (inr y) =
        let x = y.1 in
        subst (λ d. ConcludesBelow G (cond b p q at) d → HasPairsAbove G (cond b p q at) d) (sym x.2)
        (rule-pairs G (cond b p q at) ((nothing, b) ∷ (nothing, p) ∷ (nothing, q) ∷ [])
        (and_derivation (as_atom Truth c) (and_derivation (sub x.0 (derivation_of f)) (and_derivation (sub x.0 (derivation_of g)) no_derivations)))
        refl
        (and_plain (sub-pairs G b (atom Truth) (derivation_of c) hc.pairs)
        (and_plain (sub-pairs G p x.0 (derivation_of f) hf.pairs) (and_plain (sub-pairs G q x.0 (derivation_of g) hg.pairs) no_premises))))

    prints : (names : List Bytes) → IsWritable names G (cond b p q at) → IsChosen c f g (derivation_of r) → IsPrintable names (derivation_of r)
    prints names text (inl x) = subst (IsPrintable names) (sym x.1) tt
    prints names text (inr y) =
        let x = y.1 in
        let test : IsWritable names G b =
        record { around = text.around; named = text.named.0; full = text.full.0; few = omega (arith, text.few) } in
        let yes : IsWritable names G p =
        record { around = text.around; named = text.named.1; full = text.full.1; few = omega (arith, text.few) } in
        let other : IsWritable names G q =
        record { around = text.around; named = text.named.2; full = text.full.2; few = omega (arith, text.few) } in
        let both = join-fields (IsNamed names) (plain_paths f.paths) (plain_paths g.paths)
        (found-fields names G p f hf yes) (found-fields names G q g hg other) in
        let type = made-printable names (join_of (plain_paths f.paths) (plain_paths g.paths)) x.0 x.1 both in
        subst (IsPrintable names) (sym x.2)
        (three-printable names (atom Truth) x.0 x.0 (derivation_of c) (derivation_of f) (derivation_of g) (tt, tt) type type
        (hc.printable names test) (hf.printable names yes) (hg.printable names other))

    layers : IsChosen c f g (derivation_of r) → IsLayered met (derivation_of r)
    layers (inl x) = subst (IsLayered met) (sym x.1) ns-layered
    layers (inr y) =
        let x = y.1 in
        subst (IsLayered met) (sym x.2)
        (three-layered (atom Truth) x.0 x.0 (derivation_of c) (derivation_of f) (derivation_of g) hc.layered hf.layered hg.layered)

    types : IsChosen c f g (derivation_of r) → deepest_type (derivation_of r)
        ≤ max (max (deepest_written b) (max (deepest_written p) (deepest_written q))) most_made_nesting
    types (inl x) = omega (arith, ap deepest_type x.1)
    types (inr y) =
        let x = y.1 in
        let within : IsWithinLimits (join_of (plain_paths f.paths) (plain_paths g.paths)) =
        subst (λ z. IsWithinLimits (if_passed z (join_of (plain_paths f.paths) (plain_paths g.paths)))) y.0 made.within in
        omega (
          arith,
          ap deepest_type x.2,
          hc.types,
          hf.types,
          hg.types,
          made-nesting (join_of (plain_paths f.paths) (plain_paths g.paths)) x.0 x.1 within,
        )

    test : least_type G (cond b p q at) ≡ if_passed (has_atom c Truth) (join_of (plain_paths f.paths) (plain_paths g.paths))
    test =
        ap (λ X. if_passed (has X Truth) (join_of (least_type G p) (least_type G q))) (sym hc.paths)
        ∙ (ap (λ X. if_passed (has_atom c Truth) (join_of X (least_type G q))) (sym hf.paths)
        ∙ ap (λ X. if_passed (has_atom c Truth) (join_of (plain_paths f.paths) X)) (sym hg.paths))

    joined : (A : PlainType) → paths A ≡ join_of (plain_paths f.paths) (plain_paths g.paths) → paths A ≡ join_of (least_type G p) (least_type G q)
    joined A e = e ∙ (ap (λ X. join_of X (plain_paths g.paths)) hf.paths ∙ ap (join_of (least_type G p)) hg.paths)

    derived : IsChosen c f g (derivation_of r) → ConcludesBelow G (cond b p q at) (derivation_of r)
    derived (inl x) =
        subst (ConcludesBelow G (cond b p q at)) (sym x.1)
        (none-derived G (cond b p q at) (test ∙ ap (λ z. if_passed z (join_of (plain_paths f.paths) (plain_paths g.paths))) x.0))
    derived (inr y) =
        let t = y.0 in
        let x = y.1 in
        subst (ConcludesBelow G (cond b p q at)) (sym x.2)
        (λ H i n. (
          x.0,
          three-premises H (cond b p q at) b p q (as_atom Truth c) (sub x.0 (derivation_of f)) (sub x.0 (derivation_of g)) (atom Truth) x.0 x.0 x.0 n
              refl
              (taken-atom G b c hc Truth t H i (n + 1))
              (taken G p (derivation_of f) hf.derived x.0
              (subst (λ P. ArePathsBelow (least_type G p) P) (sym (joined x.0 x.1.0)) (join_of-left (least_type G p) (least_type G q)))
              H i (n + 1 + nodes (as_atom Truth c)))
              (taken G q (derivation_of g) hg.derived x.0
              (subst (λ P. ArePathsBelow (least_type G q) P) (sym (joined x.0 x.1.0)) (join_of-right (least_type G p) (least_type G q)))
              H i (n + 1 + nodes (as_atom Truth c) + nodes (sub x.0 (derivation_of f))))
              (when (same_type x.0 x.0) x.0 (same_type-refl x.0)),
          subst (λ P. ArePathsBelow (paths x.0) P)
              (x.1.0 ∙ sym (test ∙ ap (λ z. if_passed z (join_of (plain_paths f.paths) (plain_paths g.paths))) t)) (ArePathsBelow-refl (paths x.0)),
        ))

    few : IsChosen c f g (derivation_of r) → nodes (derivation_of r) ≤ 4 + nodes (derivation_of c) + nodes (derivation_of f) + nodes (derivation_of g)
    few (inl x) = omega (arith, ap nodes x.1)
    few (inr y) = omega (arith, ap nodes y.1.2)

    shallow : IsChosen c f g (derivation_of r) → derivations.nesting (derivation_of r)
        ≤ 2 + max (derivations.nesting (derivation_of c)) (max (derivations.nesting (derivation_of f)) (derivations.nesting (derivation_of g)))
    shallow (inl x) = omega (arith, ap derivations.nesting x.1)
    shallow (inr y) = omega (arith, ap derivations.nesting y.1.2)
