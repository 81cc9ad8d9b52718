-- The pairs that a derivation has of the parts of a phrase, and those of each derivation of the phrase.
use Rattle.std.proofs.Common.{ℕ, zero, suc, ◌+◌, ◌≡◌, ◌↔◌, Bool, true, false, ◌&&◌, ◌||◌, nat_le, List, [], ◌∷◌, ◌++◌, replicate, cond, Option, option_map, Some, None, refl, sym, ap, ◌∙◌, subst, arith}
use Rattle.fy_base.specs.declared.data.Place.{Place}
use Rattle.fy_types.specs.declared.types.Atom.{Atom}
use Rattle.fy_types.specs.declared.types.Atom.TheVariants.{Int, Comm, Compl}
use Rattle.fy_types.specs.Types.{PlainType, atom, arrow, meet}
use Rattle.fy_types.specs.Paths.{PlainPath, PlainPaths, no_paths, and_path, paths}
use Rattle.fy_types.specs.PathOrder.{ArePathsBelow, and_above}
use Rattle.fy_types.specs.Reading.{types_from}
use Rattle.fy_types.proofs.Order.{ArePathsBelow-refl, ArePathsBelow-trans}
use Rattle.fy_types.proofs.OnceLemmas.{both_true}
use Rattle.fy_phrase.specs.declared.phrase.MarkKind.{MarkKind}
use Rattle.fy_phrase.specs.Tree.{Tree, no_trees, case, lam, merge, let_in, mark}
use Rattle.fy_phrase.specs.Sizes as sizes
use Rattle.fy_derive.specs.Kinds.{Kind, kind_of, none_begins}
use Rattle.fy_derive.specs.Derivations.{PlainDerivation, PlainDerivations, by_ns, sub, meets, alt, left, right, rule, no_derivations, and_derivation, count, nodes}
use Rattle.fy_derive.specs.Subsumption.{is_below}
use Rattle.fy_derive.specs.Rules.{nothing, first, given, Premise, premises, provided, is_atom, all_same, picked_type, command_behind, conclusion}
use Rattle.fy_derive.specs.Tables.{type_at}
use Rattle.fy_derive.specs.Judging.{Judged, concludes, stops, refusal, conclusion_of, all_conclude, then_judge, then_others, at_node, from_premises, if_form, if_count, alternative, operands, under, judged, each_judged}
use Rattle.fy_derive.specs.Shapes.{PlainShape, shape_table, erase, HasPath, HasPair, own, in_sub, in_meet, in_alt, in_left, in_right, in_rule, OneHasPair, this_one, other_one, PremiseHasPair, this_premise, later_premise}
use Rattle.fy_derive.specs.Least.{forms_of, has, if_passed, least_type}
use Rattle.fy_derive.proofs.JudgeLemmas.{rule_judged}
use Rattle.fy_derive.proofs.RuleLemmas.{same_type-true}
use Rattle.fy_derive.proofs.SubsumptionLemmas.{or_cases}
use Rattle.fy_derive.proofs.SoundLemmas.{some_same, judge-inner, others-inner, node-inner, premises-inner, form-inner, count-inner, meet-inner, append-none, append-push}
pub use Rattle.fy_derive.proofs.SoundLemmas.{provided-some}
use Rattle.fy_least.specs.Derived.{rule_of_both, derived_if, ConcludesBelow}
use Rattle.fy_least.specs.Pairs.{AreContextsBelow, and_variable, HasPairsAbove, HasAllPairs}
use Rattle.fy_least.proofs.BelowLemmas.{below-has}
use Rattle.fy_least.proofs.ShapeLemmas.{path-below, below-path, concluded-above}

-- what a derivation concludes is the same from whatever number
mutual
  pub anywhere : (d : PlainDerivation) (n k : ℕ) (G : List PlainType) (p : Tree) (A : PlainType) → judged d n G p ≡ concludes A →
      judged d k G p ≡ concludes A
  anywhere by_ns n k G p A e = e
  anywhere (sub B d) n k G p A e =
      let x = judge-inner (judged d (n + 1) G p) (λ A. at_node n (provided (is_below A B) B)) A e in
      ap (λ j. then_judge j (λ A. at_node k (provided (is_below A B) B))) (anywhere d (n + 1) (k + 1) G p x.0 x.1)
      ∙ ap (at_node k) (node-inner n (provided (is_below x.0 B) B) A x.2)
  anywhere (meets ds) n k G p A e =
      let Ps : List Premise = replicate (count ds) (nothing, p) in
      let f : List PlainType → Option PlainType = λ As. Some (meet (types_from As)) in
      let x = meet-inner (nat_le 2 (count ds)) (from_premises n (each_judged ds (n + 1) G Ps []) f) n A e in
      let y = premises-inner n (each_judged ds (n + 1) G Ps []) f A x.1 in
      ap (λ b. cond b (from_premises k (each_judged ds (k + 1) G Ps []) f) (stops k)) x.0
      ∙ (ap (λ j. from_premises k j f) (all-anywhere ds (n + 1) (k + 1) G Ps [] y.0 y.1) ∙ ap (at_node k) y.2)
  anywhere (alt i d) n k G p A e =
      let x = form-inner n (alternative i p) (λ x. then_judge (judged d (n + 1) (x.0 ∷ G) x.1) (λ C. concludes (arrow x.0 C))) A e in
      let y = judge-inner (judged d (n + 1) (x.0.0 ∷ G) x.0.1) (λ C. concludes (arrow x.0.0 C)) A x.2 in
      ap (λ o. if_form {X = PlainType × Tree} k o (λ x. then_judge (judged d (k + 1) (x.0 ∷ G) x.1) (λ C. concludes (arrow x.0 C)))) x.1
      ∙ (ap (λ j. then_judge j (λ C. concludes (arrow x.0.0 C))) (anywhere d (n + 1) (k + 1) (x.0.0 ∷ G) x.0.1 y.0 y.1) ∙ y.2)
  anywhere (left d) n k G p A e =
      let x = form-inner n (operands p) (λ x. then_judge (judged d (n + 1) G x.0) (λ A. at_node n (provided (none_begins x.2 (paths A)) A))) A e in
      let y = judge-inner (judged d (n + 1) G x.0.0) (λ A. at_node n (provided (none_begins x.0.2 (paths A)) A)) A x.2 in
      ap (λ o. if_form {X = Tree × Tree × Kind} k o
      (λ x. then_judge (judged d (k + 1) G x.0) (λ A. at_node k (provided (none_begins x.2 (paths A)) A)))) x.1
      ∙ (ap (λ j. then_judge j (λ A. at_node k (provided (none_begins x.0.2 (paths A)) A))) (anywhere d (n + 1) (k + 1) G x.0.0 y.0 y.1)
      ∙ ap (at_node k) (node-inner n (provided (none_begins x.0.2 (paths y.0)) y.0) A y.2))
  anywhere (right d) n k G p A e =
      let x = form-inner n (operands p) (λ x. judged d (n + 1) G x.1) A e in
      ap (λ o. if_form {X = Tree × Tree × Kind} k o (λ x. judged d (k + 1) G x.1)) x.1 ∙ anywhere d (n + 1) (k + 1) G x.0.1 A x.2
  anywhere (rule ds) n k G p A e =
      let f : List Premise → Judged = λ Ps. if_count n (count ds) Ps (from_premises n (each_judged ds (n + 1) G Ps []) (conclusion G p)) in
      let x = form-inner n (premises p) f A e in
      let y = count-inner n (count ds) x.0 (from_premises n (each_judged ds (n + 1) G x.0 []) (conclusion G p)) A x.2 in
      let z = premises-inner n (each_judged ds (n + 1) G x.0 []) (conclusion G p) A y.1 in
      rule_judged ds k G p x.0 (all_conclude z.0) x.1 y.0 (all-anywhere ds (n + 1) (k + 1) G x.0 [] z.0 z.1) ∙ ap (at_node k) z.2

  all-anywhere : (ds : PlainDerivations) (n k : ℕ) (G : List PlainType) (Ps : List Premise) (As Cs : List PlainType) →
      each_judged ds n G Ps As ≡ all_conclude Cs → each_judged ds k G Ps As ≡ all_conclude Cs
  all-anywhere no_derivations n k G Ps As Cs e = e
  all-anywhere (and_derivation d ds) n k G [] As Cs e = e
  all-anywhere (and_derivation d ds) n k G (P ∷ Ps) As Cs e =
      let x = others-inner (judged d n (under P.0 As G) P.1) (λ A. each_judged ds (n + nodes d) G Ps (As ++ A ∷ [])) Cs e in
      ap (λ j. then_others j (λ A. each_judged ds (k + nodes d) G Ps (As ++ A ∷ []))) (anywhere d n k (under P.0 As G) P.1 x.0 x.1)
      ∙ all-anywhere ds (n + nodes d) (k + nodes d) G Ps (As ++ x.0 ∷ []) Cs x.2

-- what a rule was concluded from
rule-inner : (es : PlainDerivations) (n : ℕ) (I : List PlainType) (p : Tree) (Ps : List Premise) (A : PlainType) → premises p ≡ Some Ps →
    judged (rule es) n I p ≡ concludes A → (Bs : List PlainType) × (each_judged es (n + 1) I Ps [] ≡ all_conclude Bs) × (conclusion I p Bs ≡ Some A)
rule-inner es n I p Ps A asked e =
    let x = subst (λ o. if_form {X = List Premise} n o
    (λ Qs. if_count n (count es) Qs (from_premises n (each_judged es (n + 1) I Qs []) (conclusion I p))) ≡ concludes A) asked e in
    let y = count-inner n (count es) Ps (from_premises n (each_judged es (n + 1) I Ps []) (conclusion I p)) A x in
    premises-inner n (each_judged es (n + 1) I Ps []) (conclusion I p) A y.1

-- the pairs of a derivation's premises are the pairs of d
pub record HasInner (I H : List PlainType) (p : Tree) (d : PlainDerivation) : Type 0 where
  pub rules : (es : PlainDerivations) (n : ℕ) (A : PlainType) → judged (rule es) n I p ≡ concludes A → (Ps : List Premise) →
      premises p ≡ Some Ps → (m k : ℕ) (s : PlainShape) → PremiseHasPair es (m + 1) I Ps [] k s → HasPair d m H p k s
  pub alternatives : (i : ℕ) (x : PlainType × Tree) → alternative i p ≡ Some x → (e : PlainDerivation) (C : PlainType) →
      judged e 0 (x.0 ∷ I) x.1 ≡ concludes C → (m k : ℕ) (s : PlainShape) → HasPair e (m + 1) (x.0 ∷ I) x.1 k s → HasPair d m H p k s
  pub lefts : (x : Tree × Tree × Kind) → operands p ≡ Some x → (e : PlainDerivation) (C : PlainType) → judged e 0 I x.0 ≡ concludes C →
      (m k : ℕ) (s : PlainShape) → HasPair e (m + 1) I x.0 k s → HasPair d m H p k s
  pub rights : (x : Tree × Tree × Kind) → operands p ≡ Some x → (e : PlainDerivation) (C : PlainType) → judged e 0 I x.1 ≡ concludes C →
      (m k : ℕ) (s : PlainShape) → HasPair e (m + 1 + sizes.nodes x.0) I x.1 k s → HasPair d m H p k s

-- a pair of the whole
own-pair : (G : List PlainPaths) (H I : List PlainType) (p : Tree) (d e : PlainDerivation) (A : PlainType) (m : ℕ) (q : PlainPath) →
    forms_of H ≡ G → AreContextsBelow G (forms_of I) → ConcludesBelow G p d → judged e 0 I p ≡ concludes A → HasPath (paths A) q →
    HasPair d m H p m (erase q)
own-pair G H I p d e A m q same low derived j among =
    let x = derived H same 0 in
    let found = path-below (below-path (ArePathsBelow-trans (least_type G p) x.2 (concluded-above e 0 p G I A low j)) among) in
    subst (λ s. HasPair d m H p m s) found.2 (own x.1 found.1)

mutual
  pair-of : {e : PlainDerivation} {m k : ℕ} {I : List PlainType} {p : Tree} {s : PlainShape} (G : List PlainPaths) (H : List PlainType)
      (d : PlainDerivation) → forms_of H ≡ G → AreContextsBelow G (forms_of I) → ConcludesBelow G p d → HasInner I H p d →
      (n : ℕ) (A : PlainType) → judged e n I p ≡ concludes A → HasPair e m I p k s → HasPair d m H p k s
  pair-of G H d same low derived inner n A j (own {d = e} {m = m} {G = I} {p = p} {A = B} {q = q} f among) =
      own-pair G H I p d e B m q same low derived f among
  pair-of G H d same low derived inner n A j (in_sub {B = B} {d = e} {G = I} {p = p} pair) =
      let x = judge-inner (judged e (n + 1) I p) (λ A. at_node n (provided (is_below A B) B)) A j in
      pair-of G H d same low derived inner (n + 1) x.0 x.1 pair
  pair-of G H d same low derived inner n A j (in_meet {ds = es} {G = I} {p = p} pair) =
      let Ps : List Premise = replicate (count es) (nothing, p) in
      let f : List PlainType → Option PlainType = λ As. Some (meet (types_from As)) in
      let x = meet-inner (nat_le 2 (count es)) (from_premises n (each_judged es (n + 1) I Ps []) f) n A j in
      let y = premises-inner n (each_judged es (n + 1) I Ps []) f A x.1 in
      one-of G H d same low derived inner (count es) refl (n + 1) [] y.0 y.1 pair
  pair-of G H d same low derived inner n A j (in_alt {i = i} {m = m} {k = k} {d = e} {G = I} {p = p} {b = b} {A = B} {s = s} f pair) =
      let x = subst (λ o. if_form {X = PlainType × Tree} n o
      (λ x. then_judge (judged e (n + 1) (x.0 ∷ I) x.1) (λ C. concludes (arrow x.0 C))) ≡ concludes A) f j in
      let y = judge-inner (judged e (n + 1) (B ∷ I) b) (λ C. concludes (arrow B C)) A x in
      inner.alternatives i (B, b) f e y.0 (anywhere e (n + 1) 0 (B ∷ I) b y.0 y.1) m k s pair
  pair-of G H d same low derived inner n A j (in_left {d = e} {m = m} {k = k} {G = I} {p = p} {q = q} {r = r} {kind = kind} {s = s} f pair) =
      let x = subst (λ o. if_form {X = Tree × Tree × Kind} n o
      (λ x. then_judge (judged e (n + 1) I x.0) (λ A. at_node n (provided (none_begins x.2 (paths A)) A))) ≡ concludes A) f j in
      let y = judge-inner (judged e (n + 1) I q) (λ A. at_node n (provided (none_begins kind (paths A)) A)) A x in
      inner.lefts (q, r, kind) f e y.0 (anywhere e (n + 1) 0 I q y.0 y.1) m k s pair
  pair-of G H d same low derived inner n A j (in_right {d = e} {m = m} {k = k} {G = I} {p = p} {q = q} {r = r} {kind = kind} {s = s} f pair) =
      let x = subst (λ o. if_form {X = Tree × Tree × Kind} n o (λ x. judged e (n + 1) I x.1) ≡ concludes A) f j in
      inner.rights (q, r, kind) f e A (anywhere e (n + 1) 0 I r A x) m k s pair
  pair-of G H d same low derived inner n A j (in_rule {ds = es} {m = m} {k = k} {Ps = Ps} {s = s} f pair) = inner.rules es n A j Ps f m k s pair

  one-of : {es : PlainDerivations} {m k : ℕ} {I : List PlainType} {p : Tree} {s : PlainShape} (G : List PlainPaths) (H : List PlainType)
      (d : PlainDerivation) → forms_of H ≡ G → AreContextsBelow G (forms_of I) → ConcludesBelow G p d → HasInner I H p d →
      (c : ℕ) → c ≡ count es → (n : ℕ) (As Bs : List PlainType) → each_judged es n I (replicate c (nothing, p)) As ≡ all_conclude Bs →
      OneHasPair es m I p k s → HasPair d m H p k s
  one-of G H d same low derived inner zero l n As Bs j (this_one pair) = absurd (omega arith)
  one-of G H d same low derived inner zero l n As Bs j (other_one pair) = absurd (omega arith)
  one-of G H d same low derived inner (suc c) l n As Bs j (this_one {d = e} {ds = es} {G = I} {p = p} pair) =
      let x = others-inner (judged e n I p) (λ A. each_judged es (n + nodes e) I (replicate c (nothing, p)) (As ++ A ∷ [])) Bs j in
      pair-of G H d same low derived inner n x.0 x.1 pair
  one-of G H d same low derived inner (suc c) l n As Bs j (other_one {d = e} {ds = es} {G = I} {p = p} pair) =
      let x = others-inner (judged e n I p) (λ A. each_judged es (n + nodes e) I (replicate c (nothing, p)) (As ++ A ∷ [])) Bs j in
      one-of G H d same low derived inner c (omega (arith, l)) (n + nodes e) (As ++ x.0 ∷ []) Bs x.2 pair

pub inner-pairs : (G : List PlainPaths) (p : Tree) (d : PlainDerivation) → ConcludesBelow G p d →
    ((H I : List PlainType) → forms_of H ≡ G → AreContextsBelow G (forms_of I) → HasInner I H p d) → HasPairsAbove G p d
inner-pairs G p d derived inner H I same low e A j m k s pair = pair-of G H d same low derived (inner H I same low) 0 A j pair

-- a phrase with premises has no alternatives and no operands
no-alternative : (p : Tree) (Ps : List Premise) (i : ℕ) (x : PlainType × Tree) → premises p ≡ Some Ps → alternative i p ≡ Some x → ⊥
no-alternative (lam d As b at) Ps i x e f = cc
no-alternative p Ps i x e f = cc

no-operand : (p : Tree) (Ps : List Premise) (x : Tree × Tree × Kind) → premises p ≡ Some Ps → operands p ≡ Some x → ⊥
no-operand (merge q r at) Ps x e f = cc
no-operand p Ps x e f = cc

-- the pairs of a rule that was concluded are those of d
abbrev pub HasRulePairs : List PlainPaths → Tree → List Premise → PlainDerivation → Type 0
HasRulePairs G p Ps d = (H I : List PlainType) → forms_of H ≡ G → AreContextsBelow G (forms_of I) → (es : PlainDerivations) (n : ℕ)
    (A : PlainType) (Bs : List PlainType) → each_judged es n I Ps [] ≡ all_conclude Bs → conclusion I p Bs ≡ Some A →
    ArePathsBelow (least_type G p) (paths A) → (m k : ℕ) (s : PlainShape) → PremiseHasPair es (m + 1) I Ps [] k s → HasPair d m H p k s

pub ruled-pairs : (G : List PlainPaths) (p : Tree) (Ps : List Premise) (d : PlainDerivation) → premises p ≡ Some Ps → HasRulePairs G p Ps d →
    ConcludesBelow G p d → HasPairsAbove G p d
ruled-pairs G p Ps d asked ruled derived = inner-pairs G p d derived inner
  where
    inner : (H I : List PlainType) → forms_of H ≡ G → AreContextsBelow G (forms_of I) → HasInner I H p d
    inner H I same low = record {
      rules = λ es n A j Qs f m k s pair.
          let x = rule-inner es n I p Ps A asked j in
          let is : Qs ≡ Ps = some_same (sym f ∙ asked) in
          ruled H I same low es (n + 1) A x.0 x.1 x.2 (concluded-above (rule es) n p G I A low j) m k s
          (subst (λ Rs. PremiseHasPair es (m + 1) I Rs [] k s) is pair);
      alternatives = λ i x f e C j m k s pair. absurd (no-alternative p Ps i x asked f);
      lefts = λ x f e C j m k s pair. absurd (no-operand p Ps x asked f);
      rights = λ x f e C j m k s pair. absurd (no-operand p Ps x asked f);
    }

no-pair : {C : Type 0} {es : PlainDerivations} {m k : ℕ} {I As : List PlainType} {s : PlainShape} → PremiseHasPair es m I [] As k s → C
no-pair pair = elim pair [ ]

-- a phrase without premises
pub none-pairs : (G : List PlainPaths) (p : Tree) (d : PlainDerivation) → premises p ≡ Some [] → ConcludesBelow G p d → HasPairsAbove G p d
none-pairs G p d asked =
    ruled-pairs G p [] d asked (λ H I same low es n A Bs j c below m k s pair. no-pair pair)

pub sub-pairs : (G : List PlainPaths) (p : Tree) (T : PlainType) (d : PlainDerivation) → HasPairsAbove G p d → HasPairsAbove G p (sub T d)
sub-pairs G p T d h H I same low e A j m k s pair = in_sub (h H I same low e A j m k s pair)

-- derivations of premises that are under no binder or under one of a written type
pub data HavePairs (G : List PlainPaths) : List Premise → PlainDerivations → Type 0 where
  no_premises : HavePairs G [] no_derivations
  and_plain : {p : Tree} {Ps : List Premise} {d : PlainDerivation} {ds : PlainDerivations} → HasPairsAbove G p d → HavePairs G Ps ds →
      HavePairs G ((nothing, p) ∷ Ps) (and_derivation d ds)
  and_given : {T : PlainType} {p : Tree} {Ps : List Premise} {d : PlainDerivation} {ds : PlainDerivations} → HasPairsAbove (paths T ∷ G) p d →
      HavePairs G Ps ds → HavePairs G ((given T, p) ∷ Ps) (and_derivation d ds)

premise-of : {G : List PlainPaths} {Ps : List Premise} {es ds : PlainDerivations} {m k : ℕ} {I As : List PlainType} {s : PlainShape} →
    HavePairs G Ps ds → (H Xs : List PlainType) → forms_of H ≡ G → AreContextsBelow G (forms_of I) →
    (n : ℕ) (Es Bs : List PlainType) → each_judged es n I Ps Es ≡ all_conclude Bs →
    (l : ℕ) (Ds Cs : List PlainType) → each_judged ds l H Ps Ds ≡ all_conclude Cs →
    PremiseHasPair es m I Ps As k s → PremiseHasPair ds m H Ps Xs k s
premise-of no_premises H Xs same low n Es Bs j l Ds Cs i pair = elim pair [ ]
premise-of (and_plain {p = p} {Ps = Ps} h r) H Xs same low n Es Bs j l Ds Cs i
    (this_premise {d = e} {ds = es} {m = m} {k = k} {G = I} {s = s} pair) =
    let x = others-inner (judged e n I p) (λ A. each_judged es (n + nodes e) I Ps (Es ++ A ∷ [])) Bs j in
    this_premise (h H I same low e x.0 (anywhere e n 0 I p x.0 x.1) m k s pair)
premise-of (and_plain {p = p} {Ps = Ps} {d = d} {ds = ds} h r) H Xs same low n Es Bs j l Ds Cs i
    (later_premise {d = e} {ds = es} {G = I} f pair) =
    let x = others-inner (judged e n I p) (λ A. each_judged es (n + nodes e) I Ps (Es ++ A ∷ [])) Bs j in
    let y = others-inner (judged d l H p) (λ A. each_judged ds (l + nodes d) H Ps (Ds ++ A ∷ [])) Cs i in
    later_premise (anywhere d l 0 H p y.0 y.1)
    (premise-of r H (Xs ++ y.0 ∷ []) same low (n + nodes e) (Es ++ x.0 ∷ []) Bs x.2 (l + nodes d) (Ds ++ y.0 ∷ []) Cs y.2 pair)
premise-of (and_given {T = T} {p = p} {Ps = Ps} h r) H Xs same low n Es Bs j l Ds Cs i
    (this_premise {d = e} {ds = es} {m = m} {k = k} {G = I} {s = s} pair) =
    let x = others-inner (judged e n (T ∷ I) p) (λ A. each_judged es (n + nodes e) I Ps (Es ++ A ∷ [])) Bs j in
    this_premise (h (T ∷ H) (T ∷ I) (ap (λ X. paths T ∷ X) same) (and_variable (ArePathsBelow-refl (paths T)) low) e x.0
    (anywhere e n 0 (T ∷ I) p x.0 x.1) m k s pair)
premise-of (and_given {T = T} {p = p} {Ps = Ps} {d = d} {ds = ds} h r) H Xs same low n Es Bs j l Ds Cs i
    (later_premise {d = e} {ds = es} {G = I} f pair) =
    let x = others-inner (judged e n (T ∷ I) p) (λ A. each_judged es (n + nodes e) I Ps (Es ++ A ∷ [])) Bs j in
    let y = others-inner (judged d l (T ∷ H) p) (λ A. each_judged ds (l + nodes d) H Ps (Ds ++ A ∷ [])) Cs i in
    later_premise (anywhere d l 0 (T ∷ H) p y.0 y.1)
    (premise-of r H (Xs ++ y.0 ∷ []) same low (n + nodes e) (Es ++ x.0 ∷ []) Bs x.2 (l + nodes d) (Ds ++ y.0 ∷ []) Cs y.2 pair)

-- a rule whose premises' derivations have their pairs
pub rule-pairs : (G : List PlainPaths) (p : Tree) (Ps : List Premise) (ds : PlainDerivations) → premises p ≡ Some Ps → HavePairs G Ps ds →
    ConcludesBelow G p (rule ds) → HasPairsAbove G p (rule ds)
rule-pairs G p Ps ds asked each derived = ruled-pairs G p Ps (rule ds) asked ruled derived
  where
    ruled : HasRulePairs G p Ps (rule ds)
    ruled H I same low es n A Bs j c below m k s pair =
        let x = derived H same 0 in
        let y = rule-inner ds 0 H p Ps x.0 asked x.1 in
        in_rule asked (premise-of each H [] same low n [] Bs j (0 + 1) [] y.0 y.1 pair)

-- a rule that concludes only types that have a path
abbrev pub IsSolid : Tree → Type 0
IsSolid p = (I Bs : List PlainType) (A : PlainType) → conclusion I p Bs ≡ Some A → paths A ≡ no_paths → ⊥

pub provided-solid : (c : Bool) (a : Atom) (A : PlainType) → provided c (atom a) ≡ Some A → paths A ≡ no_paths → ⊥
provided-solid c a A e none =
    let x = ap paths (provided-some c (atom a) A e).1 ∙ none in cc

pub command-solid : (a : Atom) (A R C : PlainType) → command_behind a A R ≡ Some C → paths C ≡ no_paths → ⊥
command-solid a A R C e none =
    let x = provided-some (is_atom a A && (is_atom Comm R || is_atom Compl R)) R C e in
    let y = both_true (is_atom a A) (is_atom Comm R || is_atom Compl R) x.0 in
    or_cases (is_atom Comm R) (is_atom Compl R) y.1 (λ t. end-at Comm (same_type-true R (atom Comm) t) x.1)
    (λ t. end-at Compl (same_type-true R (atom Compl) t) x.1)
  where
    end-at : (b : Atom) → R ≡ atom b → R ≡ C → ⊥
    end-at b f g = let x = ap paths (sym f ∙ g) ∙ none in cc

none-below : (P : PlainPaths) → ArePathsBelow no_paths P → P ≡ no_paths
none-below no_paths low = refl
none-below (and_path p P) (and_above some rest) = elim some [ ]

-- a phrase without a type of use, whose rule concludes only types of use
pub solid-pairs : (G : List PlainPaths) (p : Tree) (Ps : List Premise) (d : PlainDerivation) → premises p ≡ Some Ps →
    least_type G p ≡ no_paths → IsSolid p → ConcludesBelow G p d → HasPairsAbove G p d
solid-pairs G p Ps d asked none solid =
    ruled-pairs G p Ps d asked (λ H I same low es n A Bs j c below m k s pair.
    absurd (solid I Bs A c (none-below (paths A) (subst (λ P. ArePathsBelow P (paths A)) none below))))

-- a rule that is there if a test is passed
pub passed-pairs : (G : List PlainPaths) (p : Tree) (Ps : List Premise) (b : Bool) (P : PlainPaths) (d : PlainDerivation) →
    premises p ≡ Some Ps → least_type G p ≡ if_passed b P → (b ≡ false → IsSolid p) → (ConcludesBelow G p d → HasPairsAbove G p d) →
    ConcludesBelow G p (derived_if b d) → HasPairsAbove G p (derived_if b d)
passed-pairs G p Ps true P d asked e solid f = f
passed-pairs G p Ps false P d asked e solid f = solid-pairs G p Ps by_ns asked e (solid refl)

-- the conclusions begin with those so far
starts : (es : PlainDerivations) (n : ℕ) (I : List PlainType) (Ps : List Premise) (As Bs : List PlainType) →
    each_judged es n I Ps As ≡ all_conclude Bs → (Cs : List PlainType) × (Bs ≡ As ++ Cs)
starts no_derivations n I Ps As Bs e = let same : Bs ≡ As = cc in ([], same ∙ sym (append-none As))
starts (and_derivation d ds) n I [] As Bs e = let same : Bs ≡ As = cc in ([], same ∙ sym (append-none As))
starts (and_derivation d ds) n I (P ∷ Ps) As Bs e =
    let x = others-inner (judged d n (under P.0 As I) P.1) (λ A. each_judged ds (n + nodes d) I Ps (As ++ A ∷ [])) Bs e in
    let y = starts ds (n + nodes d) I Ps (As ++ x.0 ∷ []) Bs x.2 in
    (x.0 ∷ y.0, y.1 ∙ append-push As y.0 x.0)

-- a first premise that is an atom
first-known : (G : List PlainPaths) (I : List PlainType) (p : Tree) (Ps : List Premise) (e : PlainDerivation) (es : PlainDerivations) (a : Atom)
    (n : ℕ) (Bs : List PlainType) → AreContextsBelow G (forms_of I) →
    each_judged (and_derivation e es) n I ((nothing, p) ∷ Ps) [] ≡ all_conclude Bs → is_atom a (type_at Bs 0) ≡ true → has (least_type G p) a ≡ true
first-known G I p Ps e es a n Bs low j is =
    let x = others-inner (judged e n I p) (λ A. each_judged es (n + nodes e) I Ps (A ∷ [])) Bs j in
    let y = starts es (n + nodes e) I Ps (x.0 ∷ []) Bs x.2 in
    let same : x.0 ≡ atom a = same_type-true x.0 (atom a) (subst (λ As. is_atom a (type_at As 0) ≡ true) y.1 is) in
    below-has (subst (λ A. ArePathsBelow (least_type G p) (paths A)) same (concluded-above e n p G I x.0 low x.1))

pub first-has : {es : PlainDerivations} {m k : ℕ} {I As : List PlainType} {p : Tree} {Ps : List Premise} {s : PlainShape} (G : List PlainPaths)
    (a : Atom) (n : ℕ) (Bs : List PlainType) → AreContextsBelow G (forms_of I) → each_judged es n I ((nothing, p) ∷ Ps) [] ≡ all_conclude Bs →
    is_atom a (type_at Bs 0) ≡ true → PremiseHasPair es m I ((nothing, p) ∷ Ps) As k s → has (least_type G p) a ≡ true
first-has {I = I} {p = p} {Ps = Ps} G a n Bs low j is (this_premise {d = e} {ds = es} pair) = first-known G I p Ps e es a n Bs low j is
first-has {I = I} {p = p} {Ps = Ps} G a n Bs low j is (later_premise {d = e} {ds = es} f pair) = first-known G I p Ps e es a n Bs low j is

-- the one premise of a phrase
alone : (es : PlainDerivations) (n : ℕ) (I As Bs : List PlainType) → each_judged es n I [] As ≡ all_conclude Bs → Bs ≡ As
alone no_derivations n I As Bs e = cc
alone (and_derivation d ds) n I As Bs e = cc

one-known : (I : List PlainType) (p : Tree) (e : PlainDerivation) (es : PlainDerivations) (n : ℕ) (Bs : List PlainType) →
    each_judged (and_derivation e es) n I ((nothing, p) ∷ []) [] ≡ all_conclude Bs → (A : PlainType) × (Bs ≡ A ∷ [])
one-known I p e es n Bs j =
    let x = others-inner (judged e n I p) (λ A. each_judged es (n + nodes e) I [] (A ∷ [])) Bs j in
    (x.0, alone es (n + nodes e) I (x.0 ∷ []) Bs x.2)

pub one-concluded : {es : PlainDerivations} {m k : ℕ} {I As : List PlainType} {p : Tree} {s : PlainShape} (n : ℕ) (Bs : List PlainType) →
    each_judged es n I ((nothing, p) ∷ []) [] ≡ all_conclude Bs → PremiseHasPair es m I ((nothing, p) ∷ []) As k s → (A : PlainType) × (Bs ≡ A ∷ [])
one-concluded {I = I} {p = p} n Bs j (this_premise {d = e} {ds = es} pair) = one-known I p e es n Bs j
one-concluded {I = I} {p = p} n Bs j (later_premise {d = e} {ds = es} f pair) = one-known I p e es n Bs j

-- a definition that is taken at a type with the paths of the least type, and the phrase that it stands in
let-known : {es : PlainDerivations} {m k : ℕ} {I : List PlainType} {p b : Tree} {s : PlainShape} (G : List PlainPaths) (H : List PlainType)
    (A : PlainType) (d e : PlainDerivation) → paths A ≡ least_type G p → HasPairsAbove G p d → HasPairsAbove (least_type G p ∷ G) b e →
    judged (sub A d) 0 H p ≡ concludes A → forms_of H ≡ G → AreContextsBelow G (forms_of I) → (n : ℕ) (Bs : List PlainType) →
    each_judged es n I ((nothing, p) ∷ (first, b) ∷ []) [] ≡ all_conclude Bs →
    PremiseHasPair es m I ((nothing, p) ∷ (first, b) ∷ []) [] k s →
    PremiseHasPair (and_derivation (sub A d) (and_derivation e no_derivations)) m H ((nothing, p) ∷ (first, b) ∷ []) [] k s
let-known {I = I} {p = p} {b = b} G H A d e is hd he taken same low n Bs j (this_premise {d = c} {ds = es} {m = m} {k = k} {s = s} pair) =
    let x = others-inner (judged c n I p) (λ B. each_judged es (n + nodes c) I ((first, b) ∷ []) (B ∷ [])) Bs j in
    this_premise (in_sub (hd H I same low c x.0 (anywhere c n 0 I p x.0 x.1) m k s pair))
let-known {I = I} {p = p} {b = b} G H A d e is hd he taken same low n Bs j
    (later_premise {d = c} {m = m} {k = k} {A = B} {s = s} f (this_premise {d = g} {ds = es} pair)) =
    let x = others-inner (judged c n I p) (λ B. each_judged (and_derivation g es) (n + nodes c) I ((first, b) ∷ []) (B ∷ [])) Bs j in
    let z = others-inner (judged g (n + nodes c) (x.0 ∷ I) b) (λ C. each_judged es (n + nodes c + nodes g) I [] (x.0 ∷ C ∷ [])) Bs x.2 in
    let back : concludes x.0 ≡ concludes B = sym (anywhere c n 0 I p x.0 x.1) ∙ f in
    let known : x.0 ≡ B = cc in
    let there = anywhere g (n + nodes c) 0 (x.0 ∷ I) b z.0 z.1 in
    later_premise taken
    (this_premise (he (A ∷ H) (B ∷ I) (ap (λ P. P ∷ forms_of H) is ∙ ap (λ Q. least_type G p ∷ Q) same)
    (and_variable (concluded-above c 0 p G I B low f) low) g z.0 (subst (λ C. judged g 0 (C ∷ I) b ≡ concludes z.0) known there) (m + sizes.nodes p) k s pair))
let-known G H A d e is hd he taken same low n Bs j (later_premise f (later_premise g pair)) = no-pair pair

pub let-pairs : (G : List PlainPaths) (w : ℕ) (p b : Tree) (at : Place) (A : PlainType) (d e : PlainDerivation) → paths A ≡ least_type G p →
    HasPairsAbove G p d → HasPairsAbove (least_type G p ∷ G) b e →
    ((H : List PlainType) → forms_of H ≡ G → judged (sub A d) 0 H p ≡ concludes A) →
    ConcludesBelow G (let_in w p b at) (rule_of_both (sub A d) e) → HasPairsAbove G (let_in w p b at) (rule_of_both (sub A d) e)
let-pairs G w p b at A d e is hd he taken =
    ruled-pairs G (let_in w p b at) ((nothing, p) ∷ (first, b) ∷ []) (rule_of_both (sub A d) e) refl
    (λ H I same low es n C Bs j c over m k s pair. in_rule refl (let-known G H A d e is hd he (taken H same) same low n Bs j pair))

-- a phrase whose rule asks an atom that its first part doesn't have
pub untested-pairs : (G : List PlainPaths) (p t : Tree) (Ps : List Premise) (a : Atom) (d : PlainDerivation) → premises t ≡ Some ((nothing, p) ∷ Ps) →
    has (least_type G p) a ≡ false → ((I Bs : List PlainType) (A : PlainType) → conclusion I t Bs ≡ Some A → is_atom a (type_at Bs 0) ≡ true) →
    ConcludesBelow G t d → HasPairsAbove G t d
untested-pairs G p t Ps a d asked off tested =
    ruled-pairs G t ((nothing, p) ∷ Ps) d asked
    (λ H I same low es n A Bs j c over m k s pair. absurd (apart (first-has G a n Bs low j (tested I Bs A c) pair)))
  where
    apart : has (least_type G p) a ≡ true → ⊥
    apart on = cc

-- a merge
abbrev merged_of : PlainType → PlainDerivation → PlainDerivation → PlainDerivation
merged_of A d e = meets (and_derivation (left (sub A d)) (and_derivation (right e) no_derivations))

pub merge-pairs : (G : List PlainPaths) (p q : Tree) (at : Place) (kind : Kind) (A : PlainType) (d e : PlainDerivation) → kind_of q ≡ Some kind →
    HasPairsAbove G p d → HasPairsAbove G q e → ConcludesBelow G (merge p q at) (merged_of A d e) → HasPairsAbove G (merge p q at) (merged_of A d e)
merge-pairs G p q at kind A d e is hd he derived = inner-pairs G (merge p q at) (merged_of A d e) derived inner
  where
    both : operands (merge p q at) ≡ Some (p, q, kind)
    both = ap (option_map {U = Tree × Tree × Kind} (λ k. (p, q, k))) is

    inner : (H I : List PlainType) → forms_of H ≡ G → AreContextsBelow G (forms_of I) → HasInner I H (merge p q at) (merged_of A d e)
    inner H I same low = record {
      rules = λ es n B j Ps f m k s pair. absurd cc;
      alternatives = λ i x f c C j m k s pair. absurd cc;
      lefts = λ x f c C j m k s pair.
          let on : x ≡ (p, q, kind) = some_same (sym f ∙ both) in
          in_meet (this_one (in_left both (in_sub (hd H I same low c C (subst (λ y. judged c 0 I y.0 ≡ concludes C) on j) (m + 1) k s
          (subst (λ y. HasPair c (m + 1) I y.0 k s) on pair)))));
      rights = λ x f c C j m k s pair.
          let on : x ≡ (p, q, kind) = some_same (sym f ∙ both) in
          in_meet (other_one (this_one (in_right both (he H I same low c C (subst (λ y. judged c 0 I y.1 ≡ concludes C) on j)
          (m + 1 + sizes.nodes p) k s (subst (λ y. HasPair c (m + 1 + sizes.nodes y.0) I y.1 k s) on pair)))));
    }

pub unmerged-pairs : (G : List PlainPaths) (p q : Tree) (at : Place) (d : PlainDerivation) → kind_of q ≡ None →
    ConcludesBelow G (merge p q at) d → HasPairsAbove G (merge p q at) d
unmerged-pairs G p q at d is derived = inner-pairs G (merge p q at) d derived inner
  where
    apart : (x : Tree × Tree × Kind) → operands (merge p q at) ≡ Some x → ⊥
    apart x f = let none = ap (option_map {U = Tree × Tree × Kind} (λ k. (p, q, k))) (sym is) ∙ f in cc

    inner : (H I : List PlainType) → forms_of H ≡ G → AreContextsBelow G (forms_of I) → HasInner I H (merge p q at) d
    inner H I same low = record {
      rules = λ es n B j Ps f m k s pair. absurd cc;
      alternatives = λ i x f c C j m k s pair. absurd cc;
      lefts = λ x f c C j m k s pair. absurd (apart x f);
      rights = λ x f c C j m k s pair. absurd (apart x f);
    }

-- a mark
pub mark-pairs : (G : List PlainPaths) (a : MarkKind) (at : Place) (d : PlainDerivation) → ConcludesBelow G (mark a at) d →
    HasPairsAbove G (mark a at) d
mark-pairs G a at d derived =
    inner-pairs G (mark a at) d derived
    (λ H I same low. record {
      rules = λ es n B j Ps f m k s pair. absurd cc;
      alternatives = λ i x f c C j m k s pair. absurd cc;
      lefts = λ x f c C j m k s pair. absurd cc;
      rights = λ x f c C j m k s pair. absurd cc;
    })

-- the index of a case
pub picked-first : (Bs : List PlainType) (A : PlainType) → picked_type Bs ≡ Some A → is_atom Int (type_at Bs 0) ≡ true
picked-first [] A e = absurd cc
picked-first (E ∷ []) A e = absurd cc
picked-first (E ∷ B ∷ Bs) A e = (both_true (is_atom Int E) (all_same B Bs) (provided-some (is_atom Int E && all_same B Bs) B A e).0).0

-- a case without parts
pub empty-pairs : (G : List PlainPaths) (i : Tree) (at : Place) (d : PlainDerivation) → ConcludesBelow G (case i no_trees at) d →
    HasPairsAbove G (case i no_trees at) d
empty-pairs G i at d =
    ruled-pairs G (case i no_trees at) ((nothing, i) ∷ []) d refl
    (λ H I same low es n A Bs j c over m k s pair. absurd (apart A Bs c (one-concluded n Bs j pair)))
  where
    apart : (A : PlainType) (Bs : List PlainType) → picked_type Bs ≡ Some A → (B : PlainType) × (Bs ≡ B ∷ []) → ⊥
    apart A Bs c x = let none = ap picked_type (sym x.1) ∙ c in cc

-- two derivations of a phrase with all pairs
accepted-concludes : (j : Judged) → refusal j ≡ None → (A : PlainType) × (j ≡ concludes A)
accepted-concludes (concludes A) e = (A, refl)
accepted-concludes (stops n) e = absurd cc

pub same-shapes : (p : Tree) (d e : PlainDerivation) → refusal (conclusion_of p d) ≡ None → refusal (conclusion_of p e) ≡ None →
    HasAllPairs [] p d → HasAllPairs [] p e → (k : ℕ) (s : PlainShape) → shape_table p d k s ↔ shape_table p e k s
same-shapes p d e accepted others hd he k s =
    let x = accepted-concludes (conclusion_of p d) accepted in
    let y = accepted-concludes (conclusion_of p e) others in
    (he d x.0 x.1 k s, hd e y.0 y.1 k s)
