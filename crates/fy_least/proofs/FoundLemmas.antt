-- What is found of a phrase, from what is found of its parts.
use Rattle.std.proofs.Common.{ℕ, suc, ◌+◌, ◌*◌, ◌≤◌, ◌≡◌, max, Bool, true, false, ◌&&◌, List, [], ◌∷◌, ◌++◌, length, Some, refl, sym, ap, ◌∙◌, subst, arith}
use Rattle.std.proofs.lemmas.List.{length-append}
use Rattle.fy_base.specs.declared.data.Place.{Place}
use Rattle.fy_base.specs.Outside.{Bytes}
use Rattle.fy_types.specs.declared.types.Atom.{Atom}
use Rattle.fy_types.specs.Types.{PlainType, ns, atom}
use Rattle.fy_types.specs.Paths.{PlainPaths, no_paths, paths}
use Rattle.fy_types.specs.PathOrder.{ArePathsBelow, none_left}
use Rattle.fy_types.specs.Limits.{IsWithinLimits}
use Rattle.fy_types.specs.Nested.{IsTypeOf, type_nesting}
use Rattle.fy_types.specs.Fields.{IsNamed, AllFormFields}
use Rattle.fy_types.specs.Reading.{plain_paths}
use Rattle.fy_types.proofs.Order.{ArePathsBelow-refl, ArePathsBelow-trans}
use Rattle.fy_types.proofs.OnceLemmas.{both_true}
use Rattle.fy_phrase.specs.Tree.{Tree}
use Rattle.fy_phrase.specs.Sizes.{nesting}
use Rattle.fy_derive.specs.Derivations.{PlainDerivation, by_ns, sub, no_derivations, and_derivation, nodes}
use Rattle.fy_derive.specs.Derivations as derivations
use Rattle.fy_derive.specs.Subsumption.{is_below}
use Rattle.fy_derive.specs.Rules.{Binder, nothing, premises, provided, is_atom, conclusion}
use Rattle.fy_derive.specs.Tables.{type_at}
use Rattle.fy_derive.specs.Judging.{judged, concludes, then_judge, at_node, under}
use Rattle.fy_derive.specs.Least.{forms_of, one_end, if_passed, has, least_type, Visit, visit, visits}
use Rattle.fy_derive.proofs.CompleteLemmas.{one-premise, two-premises, same_atom, when}
use Rattle.fy_least.specs.declared.found.Found.{Found}
use Rattle.fy_least.specs.Blame.{if_empty, blame_of}
use Rattle.fy_least.specs.Layers.{met, IsLayered}
use Rattle.fy_least.specs.Limits.{earlier_joins, written_in}
use Rattle.fy_least.specs.Counts.{nodes_of_visits, AreWithin, no_forms, AreVisitsWithin, no_visits}
use Rattle.fy_least.specs.Derived.{rule_of, rule_of_both, derived_if, ConcludesBelow, most_made_nesting}
use Rattle.fy_least.specs.Pairs.{HasPairsAbove}
use Rattle.fy_derive.specs.Limits.{deepest_type}
use Rattle.fy_derive.specs.Printable.{IsPrintable}
use Rattle.fy_phrase.specs.CoreLimits.{deepest_written}
use Rattle.fy_least.specs.Writable.{IsWritable}
use Rattle.fy_least.specs.Visited.{IsFound, IsMade, blame_at, has_atom, derivation_of, as_atom}
use Rattle.fy_least.specs.Rules.{have_atoms}
use Rattle.fy_least.proofs.BelowLemmas.{has-below, below-test}
use Rattle.fy_least.proofs.CountLemmas.{within-append, nodes-append, visit-nodes, visit-within}
use Rattle.fy_least.proofs.LayerLemmas.{one-layered, two-layered, if-layered}
use Rattle.fy_least.proofs.LeastFields.{least-fields}
use Rattle.fy_least.proofs.PairLemmas.{HavePairs, IsSolid, provided-solid, sub-pairs, rule-pairs, passed-pairs}
use Rattle.fy_least.proofs.PrintableLemmas.{one-printable, two-printable, if-printable}

-- a derivation that is subsumed to a type above the least type
sub-judged : (H : List PlainType) (p : Tree) (d : PlainDerivation) (A B : PlainType) (n : ℕ) → judged d (n + 1) H p ≡ concludes A →
    is_below A B ≡ true → judged (sub B d) n H p ≡ concludes B
sub-judged H p d A B n h e =
    ap (λ j. then_judge j (λ A. at_node n (provided (is_below A B) B))) h ∙ ap (at_node n) (when (is_below A B) B e)

pub taken : (G : List PlainPaths) (p : Tree) (d : PlainDerivation) → ConcludesBelow G p d → (B : PlainType) →
    ArePathsBelow (least_type G p) (paths B) → (H : List PlainType) → forms_of H ≡ G → (n : ℕ) → judged (sub B d) n H p ≡ concludes B
taken G p d h B low H e n =
    let x = h H e (n + 1) in
    sub-judged H p d x.0 B n x.1 (below-test (paths x.0) (paths B) (ArePathsBelow-trans (least_type G p) x.2 low))

pub taken-atom : (G : List PlainPaths) (p : Tree) (f : Found) → IsFound G p f → (a : Atom) → has_atom f a ≡ true →
    (H : List PlainType) → forms_of H ≡ G → (n : ℕ) → judged (as_atom a f) n H p ≡ concludes (atom a)
taken-atom G p f h a t =
    taken G p (derivation_of f) h.derived (atom a) (has-below (least_type G p) a (ap (λ P. has P a) (sym h.paths) ∙ t))

-- a type that is made of paths within the limits
pub made-nesting : (P : PlainPaths) (A : PlainType) → IsTypeOf P A → IsWithinLimits P → type_nesting A + 1 ≤ most_made_nesting
made-nesting P A x within = omega (arith, x.1, within.shallow)

-- a derivation that is there if a test is passed
pub passed-derived : (G : List PlainPaths) (q : Tree) (b : Bool) (P : PlainPaths) (d : PlainDerivation) → least_type G q ≡ if_passed b P →
    (b ≡ true → (H : List PlainType) → forms_of H ≡ G → (n : ℕ) → (A : PlainType) × (judged d n H q ≡ concludes A) × ArePathsBelow (paths A) P) →
    ConcludesBelow G q (derived_if b d)
passed-derived G q true P d e f =
    λ H i n. let x = f refl H i n in (x.0, x.1, subst (λ Q. ArePathsBelow (paths x.0) Q) (sym e) x.2)
passed-derived G q false P d e f = λ H i n. (ns, refl, subst (λ Q. ArePathsBelow no_paths Q) (sym e) none_left)

pub none-derived : (G : List PlainPaths) (q : Tree) → least_type G q ≡ no_paths → ConcludesBelow G q by_ns
none-derived G q e = λ H i n. (ns, refl, subst (λ Q. ArePathsBelow no_paths Q) (sym e) none_left)

-- a visit of any form but a case
pub made-found : (G : List PlainPaths) (q : Tree) (at : Place) (parts : ℕ) (f : Found) (vs : ℕ → List Visit) →
    IsMade (least_type G q) at parts f → at ≡ blame_of G q → earlier_joins G q ≡ [] → AreWithin (written_in q) →
    ((m : ℕ) → visits m G q ≡ visit m G q ∷ vs m) → ((m : ℕ) → AreVisitsWithin (vs m)) → ((m : ℕ) → parts ≡ nodes_of_visits (vs m)) →
    ConcludesBelow G q (derivation_of f) → ((m : ℕ) → nodes (derivation_of f) + 3 ≤ 4 * suc (length (vs m))) →
    derivations.nesting (derivation_of f) + 1 ≤ 3 * nesting q → deepest_type (derivation_of f) ≤ max (deepest_written q) most_made_nesting →
    IsLayered met (derivation_of f) → ((names : List Bytes) → IsWritable names G q → IsPrintable names (derivation_of f)) →
    HasPairsAbove G q (derivation_of f) → IsFound G q f
made-found G q at parts f vs made blame early written split within total derived few shallow types layered printable pairs = record {
  paths = made.paths;
  blame = made.blame ∙ blame;
  within = λ m. subst AreVisitsWithin (sym (split m)) (visit-within m G q (vs m) early written made.within (within m));
  total = λ m.
      let sum : f.total ≡ nodes_of_visits (visit m G q ∷ vs m) = omega (arith, made.total, total m, visit-nodes m G q (vs m) early) in
      sum ∙ ap nodes_of_visits (sym (split m));
  low = made.low;
  derived = derived;
  few = λ m. subst (λ us. nodes (derivation_of f) + 3 ≤ 4 * length us) (sym (split m)) (few m);
  shallow = shallow;
  kept = made.within;
  types = types;
  layered = layered;
  pairs = pairs;
  printable = printable;
}

-- the fields of the paths that are found are those of the phrase and of its context
pub found-fields : (names : List Bytes) (G : List PlainPaths) (p : Tree) (f : Found) → IsFound G p f → IsWritable names G p →
    AllFormFields (IsNamed names) (plain_paths f.paths)
found-fields names G p f h w =
    subst (AllFormFields (IsNamed names)) (sym h.paths) (least-fields (IsNamed names) p G w.around w.named)

pub blame-same : (G : List PlainPaths) (p : Tree) (f : Found) (at : Place) → IsFound G p f →
    blame_at f at ≡ if_empty (least_type G p) (blame_of G p) at
blame-same G p f at h = ap (λ P. if_empty P f.blame at) h.paths ∙ ap (λ x. if_empty (least_type G p) x at) h.blame

-- a form of no part
pub none-found : (G : List PlainPaths) (q : Tree) (at : Place) (f : Found) (d : PlainDerivation) →
    IsMade (least_type G q) at 0 f → at ≡ blame_of G q → earlier_joins G q ≡ [] → written_in q ≡ [] →
    ((m : ℕ) → visits m G q ≡ visit m G q ∷ []) → derivation_of f ≡ d → ConcludesBelow G q d → nodes d ≡ 1 →
    derivations.nesting d ≡ 1 → 1 ≤ nesting q → deepest_type d ≡ 0 → IsLayered met d →
    ((names : List Bytes) → IsPrintable names d) → (ConcludesBelow G q d → HasPairsAbove G q d) → IsFound G q f
none-found G q at f d made blame early written split e derived few shallow deep plain layered printable pairs =
    made-found G q at 0 f (λ m. []) made blame early (subst AreWithin (sym written) no_forms) split (λ m. no_visits) (λ m. refl)
    (subst (ConcludesBelow G q) (sym e) derived) (λ m. omega (arith, ap nodes e, few)) (omega (arith, ap derivations.nesting e, shallow, deep))
    (omega (arith, ap deepest_type e, plain)) (subst (IsLayered met) (sym e) layered)
    (λ names w. subst (IsPrintable names) (sym e) (printable names)) (subst (HasPairsAbove G q) (sym e) (pairs derived))

-- a form of one part, whose derivation has at most two nodes more
pub one-found : (G G' : List PlainPaths) (p q : Tree) (at : Place) (part f : Found) (d : PlainDerivation) → IsFound G' p part →
    IsMade (least_type G q) (blame_at part at) part.total f → blame_of G q ≡ if_empty (least_type G' p) (blame_of G' p) at →
    earlier_joins G q ≡ [] → AreWithin (written_in q) → ((m : ℕ) → visits m G q ≡ visit m G q ∷ visits (m + 1) G' p) →
    nesting q ≡ 1 + nesting p → derivation_of f ≡ d → ConcludesBelow G q d →
    nodes d ≤ 2 + nodes (derivation_of part) → derivations.nesting d ≤ 2 + derivations.nesting (derivation_of part) →
    deepest_type d ≤ max (deepest_written q) most_made_nesting → IsLayered met d →
    ((names : List Bytes) → IsWritable names G q → IsPrintable names d) → (ConcludesBelow G q d → HasPairsAbove G q d) → IsFound G q f
one-found G G' p q at part f d h made blame early written split deep e derived few shallow types layered printable pairs =
    made-found G q (blame_at part at) part.total f (λ m. visits (m + 1) G' p) made (blame-same G' p part at h ∙ sym blame) early written split
    (λ m. h.within (m + 1)) (λ m. h.total (m + 1)) (subst (ConcludesBelow G q) (sym e) derived)
    (λ m. omega (arith, h.few (m + 1), ap nodes e, few)) (omega (arith, h.shallow, deep, ap derivations.nesting e, shallow))
    (subst (λ d. deepest_type d ≤ max (deepest_written q) most_made_nesting) (sym e) types) (subst (IsLayered met) (sym e) layered)
    (λ names w. subst (IsPrintable names) (sym e) (printable names w)) (subst (HasPairsAbove G q) (sym e) (pairs derived))

-- a form of two parts, whose derivation has at most four nodes more
pub two-found : (G G' : List PlainPaths) (p q t : Tree) (at : Place) (f g r : Found) (d : PlainDerivation) (k : ℕ → ℕ) → IsFound G p f →
    IsFound G' q g →
    IsMade (least_type G t) (blame_at f (blame_at g at)) (f.total + g.total) r →
    blame_of G t ≡ if_empty (least_type G p) (blame_of G p) (if_empty (least_type G' q) (blame_of G' q) at) →
    earlier_joins G t ≡ [] → written_in t ≡ [] → ((m : ℕ) → visits m G t ≡ visit m G t ∷ visits (m + 1) G p ++ visits (k m) G' q) →
    nesting t ≡ 1 + max (nesting p) (nesting q) → derivation_of r ≡ d → ConcludesBelow G t d →
    nodes d ≤ 4 + nodes (derivation_of f) + nodes (derivation_of g) →
    derivations.nesting d ≤ 3 + max (derivations.nesting (derivation_of f)) (derivations.nesting (derivation_of g)) →
    deepest_type d ≤ max (deepest_written t) most_made_nesting → IsLayered met d →
    ((names : List Bytes) → IsWritable names G t → IsPrintable names d) → (ConcludesBelow G t d → HasPairsAbove G t d) → IsFound G t r
two-found G G' p q t at f g r d k hf hg made blame early written split deep e derived few shallow types layered printable pairs =
    made-found G t (blame_at f (blame_at g at)) (f.total + g.total) r (λ m. visits (m + 1) G p ++ visits (k m) G' q) made
    (blame-same G p f (blame_at g at) hf ∙ (ap (if_empty (least_type G p) (blame_of G p)) (blame-same G' q g at hg) ∙ sym blame))
    early (subst AreWithin (sym written) no_forms) split
    (λ m. within-append (hf.within (m + 1)) (hg.within (k m)))
    (λ m. omega (arith, hf.total (m + 1), hg.total (k m), nodes-append (visits (m + 1) G p) (visits (k m) G' q)))
    (subst (ConcludesBelow G t) (sym e) derived)
    (λ m. omega (arith, hf.few (m + 1), hg.few (k m), length-append (visits (m + 1) G p) (visits (k m) G' q), ap nodes e, few))
    (omega (arith, hf.shallow, hg.shallow, deep, ap derivations.nesting e, shallow))
    (subst (λ d. deepest_type d ≤ max (deepest_written t) most_made_nesting) (sym e) types) (subst (IsLayered met) (sym e) layered)
    (λ names w. subst (IsPrintable names) (sym e) (printable names w)) (subst (HasPairsAbove G t) (sym e) (pairs derived))

-- a rule whose one premise is an atom
pub atom-found : (G G' : List PlainPaths) (p q : Tree) (b : Binder) (w g : Atom) (at : Place) (part f : Found) → IsFound G' p part →
    least_type G q ≡ if_passed (has (least_type G' p) w) (one_end g) → blame_of G q ≡ if_empty (least_type G' p) (blame_of G' p) at →
    earlier_joins G q ≡ [] → written_in q ≡ [] → ((m : ℕ) → visits m G q ≡ visit m G q ∷ visits (m + 1) G' p) →
    nesting q ≡ 1 + nesting p → deepest_written q ≡ deepest_written p → premises q ≡ Some ((b, p) ∷ []) →
    ((H : List PlainType) → forms_of H ≡ G → forms_of (under b [] H) ≡ G') →
    ((H As : List PlainType) → conclusion H q As ≡ provided (is_atom w (type_at As 0)) (atom g)) →
    ((names : List Bytes) → IsWritable names G q → IsWritable names G' p) →
    ((d : PlainDerivation) → HasPairsAbove G' p d → HavePairs G ((b, p) ∷ []) (and_derivation d no_derivations)) →
    IsMade (if_passed (has_atom part w) (one_end g)) (blame_at part at) part.total f →
    derivation_of f ≡ derived_if (has_atom part w) (rule_of (as_atom w part)) → IsFound G q f
atom-found G G' p q b w g at part f h least blame early written split deep spelled asked inside shown writable each made e =
    one-found G G' p q at part f (derived_if (has_atom part w) (rule_of (as_atom w part))) h
    (subst (λ P. IsMade P (blame_at part at) part.total f) (sym test) made) blame early (subst AreWithin (sym written) no_forms) split deep e
    (passed-derived G q (has_atom part w) (one_end g) (rule_of (as_atom w part)) test
    (λ t H i n. (
      atom g,
      one-premise H q p b (as_atom w part) (atom w) (atom g) n asked (taken-atom G' p part h w t (under b [] H) (inside H i) (n + 1))
          (shown H (atom w ∷ []) ∙ when (is_atom w (atom w)) (atom g) (same_atom w)),
      ArePathsBelow-refl (one_end g),
    )))
    (few-of (has_atom part w)) (shallow-of (has_atom part w)) (omega (arith, types-of (has_atom part w), h.types, spelled))
    (if-layered (has_atom part w) (rule_of (as_atom w part)) (one-layered (atom w) (derivation_of part) h.layered))
    (λ names text. if-printable names (has_atom part w) (rule_of (as_atom w part))
    (one-printable names (atom w) (derivation_of part) (tt, tt) (h.printable names (writable names text))))
    (passed-pairs G q ((b, p) ∷ []) (has_atom part w) (one_end g) (rule_of (as_atom w part)) asked test
    (λ off I Bs A c. provided-solid (is_atom w (type_at Bs 0)) g A (sym (shown I Bs) ∙ c))
    (rule-pairs G q ((b, p) ∷ []) (and_derivation (as_atom w part) no_derivations) asked
    (each (as_atom w part) (sub-pairs G' p (atom w) (derivation_of part) h.pairs))))
  where
    types-of : (c : Bool) → deepest_type (derived_if c (rule_of (as_atom w part))) ≤ max 1 (deepest_type (derivation_of part))
    types-of true = omega arith
    types-of false = omega arith

    test : least_type G q ≡ if_passed (has_atom part w) (one_end g)
    test = least ∙ ap (λ P. if_passed (has P w) (one_end g)) (sym h.paths)

    few-of : (c : Bool) → nodes (derived_if c (rule_of (as_atom w part))) ≤ 2 + nodes (derivation_of part)
    few-of true = omega arith
    few-of false = omega arith

    shallow-of : (c : Bool) → derivations.nesting (derived_if c (rule_of (as_atom w part))) ≤ 2 + derivations.nesting (derivation_of part)
    shallow-of true = omega arith
    shallow-of false = omega arith

-- a rule whose two premises are atoms, at least where both parts have theirs
pub atoms-derived : (G G' : List PlainPaths) (p q t : Tree) (c : Binder) (w v a : Atom) (f g : Found) → IsFound G p f → IsFound G' q g →
    premises t ≡ Some ((nothing, p) ∷ (c, q) ∷ []) →
    ((H : List PlainType) (A : PlainType) → forms_of H ≡ G → forms_of (under c (A ∷ []) H) ≡ G') →
    ((H : List PlainType) → conclusion H t (atom w ∷ atom v ∷ []) ≡ Some (atom a)) → has_atom f w ≡ true → has_atom g v ≡ true →
    (H : List PlainType) → forms_of H ≡ G → (n : ℕ) → judged (rule_of_both (as_atom w f) (as_atom v g)) n H t ≡ concludes (atom a)
atoms-derived G G' p q t c w v a f g hf hg asked inside gives x y H i n =
    two-premises H t p q nothing c (as_atom w f) (as_atom v g) (atom w) (atom v) (atom a) n asked
    (taken-atom G p f hf w x H i (n + 1))
    (taken-atom G' q g hg v y (under c (atom w ∷ []) H) (inside H (atom w) i) (n + 1 + nodes (as_atom w f))) (gives H)

pub atoms-found : (G G' : List PlainPaths) (p q t : Tree) (c : Binder) (w v a : Atom) (at : Place) (f g r : Found) (k : ℕ → ℕ) →
    IsFound G p f → IsFound G' q g →
    least_type G t ≡ if_passed (has (least_type G p) w && has (least_type G' q) v) (one_end a) →
    blame_of G t ≡ if_empty (least_type G p) (blame_of G p) (if_empty (least_type G' q) (blame_of G' q) at) →
    earlier_joins G t ≡ [] → written_in t ≡ [] → ((m : ℕ) → visits m G t ≡ visit m G t ∷ visits (m + 1) G p ++ visits (k m) G' q) →
    nesting t ≡ 1 + max (nesting p) (nesting q) → deepest_written t ≡ max (deepest_written p) (deepest_written q) →
    premises t ≡ Some ((nothing, p) ∷ (c, q) ∷ []) →
    ((H : List PlainType) (A : PlainType) → forms_of H ≡ G → forms_of (under c (A ∷ []) H) ≡ G') →
    ((H : List PlainType) → conclusion H t (atom w ∷ atom v ∷ []) ≡ Some (atom a)) →
    ((names : List Bytes) → IsWritable names G t → IsWritable names G p × IsWritable names G' q) → IsSolid t →
    ((d e : PlainDerivation) → HasPairsAbove G p d → HasPairsAbove G' q e →
    HavePairs G ((nothing, p) ∷ (c, q) ∷ []) (and_derivation d (and_derivation e no_derivations))) →
    IsMade (if_passed (have_atoms f g w v) (one_end a)) (blame_at f (blame_at g at)) (f.total + g.total) r →
    derivation_of r ≡ derived_if (have_atoms f g w v) (rule_of_both (as_atom w f) (as_atom v g)) → IsFound G t r
atoms-found G G' p q t c w v a at f g r k hf hg least blame early written split deep spelled asked inside gives writable solid each made e =
    two-found G G' p q t at f g r (derived_if (have_atoms f g w v) (rule_of_both (as_atom w f) (as_atom v g))) k hf hg
    (subst (λ P. IsMade P (blame_at f (blame_at g at)) (f.total + g.total) r) (sym test) made) blame early written split deep e
    (passed-derived G t (have_atoms f g w v) (one_end a) (rule_of_both (as_atom w f) (as_atom v g)) test
    (λ z H i n.
    let both = both_true (has_atom f w) (has_atom g v) z in (
      atom a,
      atoms-derived G G' p q t c w v a f g hf hg asked inside gives both.0 both.1 H i n,
      ArePathsBelow-refl (one_end a),
    )))
    (few-of (have_atoms f g w v)) (shallow-of (have_atoms f g w v)) (omega (arith, types-of (have_atoms f g w v), hf.types, hg.types, spelled))
    (if-layered (have_atoms f g w v) (rule_of_both (as_atom w f) (as_atom v g))
    (two-layered (atom w) (atom v) (derivation_of f) (derivation_of g) hf.layered hg.layered))
    (λ names text.
    let texts = writable names text in
    if-printable names (have_atoms f g w v) (rule_of_both (as_atom w f) (as_atom v g))
    (two-printable names (atom w) (atom v) (derivation_of f) (derivation_of g) (tt, tt) (tt, tt)
    (hf.printable names texts.0) (hg.printable names texts.1)))
    (passed-pairs G t ((nothing, p) ∷ (c, q) ∷ []) (have_atoms f g w v) (one_end a) (rule_of_both (as_atom w f) (as_atom v g)) asked test
    (λ off. solid)
    (rule-pairs G t ((nothing, p) ∷ (c, q) ∷ []) (and_derivation (as_atom w f) (and_derivation (as_atom v g) no_derivations)) asked
    (each (as_atom w f) (as_atom v g) (sub-pairs G p (atom w) (derivation_of f) hf.pairs) (sub-pairs G' q (atom v) (derivation_of g) hg.pairs))))
  where
    types-of : (b : Bool) → deepest_type (derived_if b (rule_of_both (as_atom w f) (as_atom v g)))
        ≤ max 1 (max (deepest_type (derivation_of f)) (deepest_type (derivation_of g)))
    types-of true = omega arith
    types-of false = omega arith

    test : least_type G t ≡ if_passed (have_atoms f g w v) (one_end a)
    test =
        least ∙ (ap (λ P. if_passed (has P w && has (least_type G' q) v) (one_end a)) (sym hf.paths)
        ∙ ap (λ Q. if_passed (has_atom f w && has Q v) (one_end a)) (sym hg.paths))

    few-of : (b : Bool) → nodes (derived_if b (rule_of_both (as_atom w f) (as_atom v g))) ≤ 4 + nodes (derivation_of f) + nodes (derivation_of g)
    few-of true = omega arith
    few-of false = omega arith

    shallow-of : (b : Bool) → derivations.nesting (derived_if b (rule_of_both (as_atom w f) (as_atom v g)))
        ≤ 3 + max (derivations.nesting (derivation_of f)) (derivations.nesting (derivation_of g))
    shallow-of true = omega arith
    shallow-of false = omega arith
