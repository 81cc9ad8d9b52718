-- What a placed derivation concludes.
use Rattle.std.proofs.Common.{ℕ, zero, suc, ◌+◌, ◌≡◌, Bool, true, false, nat_le, List, [], ◌∷◌, ◌++◌, length, replicate, cond, Option, Some, None, option_map, slice_get, refl, sym, ap, ◌∙◌, subst, arith}
use Rattle.fy_base.specs.declared.data.Place.{Place}
use Rattle.fy_types.specs.Types.{PlainType, PlainTypes, arrow, meet}
use Rattle.fy_types.specs.Paths.{paths}
use Rattle.fy_types.specs.Reading.{types_from}
use Rattle.fy_phrase.specs.Tree as tree
use Rattle.fy_phrase.specs.Tree.{Tree, Trees}
use Rattle.fy_phrase.specs.Alike as alike
use Rattle.fy_phrase.specs.Alike.{Alike, AllAlike, lifted}
use Rattle.fy_derive.specs.Derivations.{PlainDerivation, PlainDerivations, by_ns, sub, meets, alt, left, right, rule, no_derivations, and_derivation, count, nodes}
use Rattle.fy_derive.specs.Kinds.{Kind, kind_of, none_begins}
use Rattle.fy_derive.specs.Subsumption.{is_below}
use Rattle.fy_derive.specs.Rules.{Binder, nothing, first, given, Premise, premises, of_parts, provided, conclusion}
use Rattle.fy_derive.specs.Judging.{Judged, concludes, stops, AllJudged, all_conclude, then_judge, then_others, at_node, from_premises, if_form, if_count, member, alternative, operands, under, judged, each_judged}
use Rattle.fy_derive.specs.Placed.{Wanted, behind, behind_binder, raised, raised_use, those_of, body_of, left_of, right_of, placed, all_placed, FitsAt, Fits, PlacedConcludes}
use Rattle.fy_derive.proofs.JudgeLemmas.{rule_judged}
use Rattle.fy_derive.proofs.SoundLemmas.{some_same, judge-inner, others-inner, node-inner, premises-inner, form-inner, count-inner, meet-inner}

-- ---- how judging goes on

node-outer : (n : ℕ) (o : Option PlainType) (A : PlainType) → o ≡ Some A → at_node n o ≡ concludes A
node-outer n o A e = ap (at_node n) e

judge-outer : (j : Judged) (f : PlainType → Judged) (A B : PlainType) → j ≡ concludes B → f B ≡ concludes A → then_judge j f ≡ concludes A
judge-outer j f A B e h = ap (λ k. then_judge k f) e ∙ h

pub others-outer : (j : Judged) (f : PlainType → AllJudged) (As : List PlainType) (B : PlainType) → j ≡ concludes B → f B ≡ all_conclude As → then_others j f ≡ all_conclude As
others-outer j f As B e h = ap (λ k. then_others k f) e ∙ h

premises-outer : (n : ℕ) (j : AllJudged) (f : List PlainType → Option PlainType) (A : PlainType) (Bs : List PlainType) → j ≡ all_conclude Bs → f Bs ≡ Some A →
    from_premises n j f ≡ concludes A
premises-outer n j f A Bs e h = ap (λ k. from_premises n k f) e ∙ ap (at_node n) h

-- ---- premises of alike phrases

-- a renumbering below a premise's binder
abbrev around : Binder → (ℕ → ℕ) → ℕ → ℕ
around nothing f = f
around first f = lifted f
around (given T) f = lifted f

-- some premise stands before a variable of the first premise's type
abbrev IsReady : Bool → Binder → Type 0
IsReady b nothing = Unit {0}
IsReady true first = Unit {0}
IsReady false first = ⊥
IsReady b (given T) = Unit {0}

-- the conclusions are some where the flag says so
abbrev HasSome : Bool → List PlainType → Type 0
HasSome false As = Unit {0}
HasSome true [] = ⊥
HasSome true (A ∷ As) = Unit {0}

-- the premises are of the same binders, about alike parts
abbrev EachAlike : Bool → (ℕ → ℕ) → List Premise → List Premise → Type 0
EachAlike b f [] [] = Unit {0}
EachAlike b f [] (Q ∷ Qs) = ⊥
EachAlike b f (P ∷ Ps) [] = ⊥
EachAlike b f (P ∷ Ps) (Q ∷ Qs) = IsReady b P.0 × (P.0 ≡ Q.0) × Alike (around P.0 f) P.1 Q.1 × EachAlike true f Ps Qs

abbrev SameAlike : (ℕ → ℕ) → Option (List Premise) → Option (List Premise) → Type 0
SameAlike f None None = Unit {0}
SameAlike f None (Some Qs) = ⊥
SameAlike f (Some Ps) None = ⊥
SameAlike f (Some Ps) (Some Qs) = EachAlike false f Ps Qs

parts-alike : {f : ℕ → ℕ} {ps qs : Trees} → AllAlike f ps qs → EachAlike true f (of_parts ps) (of_parts qs)
parts-alike alike.no_parts = tt
parts-alike (alike.and_part h hs) = (tt, refl, h, parts-alike hs)

premises-alike : {f : ℕ → ℕ} {p q : Tree} → Alike f p q → SameAlike f (premises p) (premises q)
premises-alike (alike.var i) = tt
premises-alike alike.lit = tt
premises-alike (alike.unary h) = (tt, refl, h, tt)
premises-alike (alike.binary h k) = (tt, refl, h, (tt, refl, k, tt))
premises-alike (alike.cond h k l) = (tt, refl, h, (tt, refl, k, (tt, refl, l, tt)))
premises-alike (alike.case h hs) = (tt, refl, h, parts-alike hs)
premises-alike (alike.lam h) = tt
premises-alike (alike.app h k) = (tt, refl, h, (tt, refl, k, tt))
premises-alike (alike.field h) = (tt, refl, h, tt)
premises-alike (alike.sel h) = (tt, refl, h, tt)
premises-alike (alike.merge h k) = tt
premises-alike (alike.let_in h k) = (tt, refl, h, (tt, refl, k, tt))
premises-alike (alike.rec h) = (tt, refl, h, tt)
premises-alike alike.skip = tt
premises-alike (alike.seq h k) = (tt, refl, h, (tt, refl, k, tt))
premises-alike (alike.assign h k) = (tt, refl, h, (tt, refl, k, tt))
premises-alike (alike.while_do h k) = (tt, refl, h, (tt, refl, k, tt))
premises-alike (alike.forever h) = (tt, refl, h, tt)
premises-alike (alike.new h k) = (tt, refl, h, (tt, refl, k, tt))
premises-alike (alike.cells h k) = (tt, refl, h, (tt, refl, k, tt))
premises-alike (alike.escape h) = (tt, refl, h, tt)
premises-alike (alike.accept h) = (tt, refl, h, tt)
premises-alike (alike.put h) = (tt, refl, h, tt)
premises-alike (alike.read h) = (tt, refl, h, tt)

again-alike : (k : ℕ) (b : Bool) {f : ℕ → ℕ} {p q : Tree} → Alike f p q → EachAlike b f (replicate k (nothing, p)) (replicate k (nothing, q))
again-alike zero b h = tt
again-alike (suc k) b h = (tt, refl, h, again-alike k true h)

each-length : (b : Bool) (f : ℕ → ℕ) (Ps Qs : List Premise) → EachAlike b f Ps Qs → length Ps ≡ length Qs
each-length b f [] [] e = refl
each-length b f [] (Q ∷ Qs) e = absurd e
each-length b f (P ∷ Ps) [] e = absurd e
each-length b f (P ∷ Ps) (Q ∷ Qs) e = let h = each-length true f Ps Qs e.3 in omega (arith, h)

placed-count : (w : Wanted) (Ps : List Premise) (ds : PlainDerivations) → count (all_placed w Ps ds) ≡ count ds
placed-count w Ps no_derivations = refl
placed-count w [] (and_derivation d ds) = refl
placed-count w (P ∷ Ps) (and_derivation d ds) = ap (λ n. 1 + n) (placed-count w Ps ds)

kind-alike : {f : ℕ → ℕ} {p q : Tree} → Alike f p q → kind_of p ≡ kind_of q
kind-alike (alike.var i) = refl
kind-alike h = refl

-- ---- contexts

pub fits-behind : (f : ℕ → ℕ) (w : Wanted) (G H : List PlainType) (C : PlainType) → Fits f w G H → Fits (lifted f) (behind w) (C ∷ G) (C ∷ H)
fits-behind f w G H C t = record { each = at }
  where
    at : (k : ℕ) (A : PlainType) → slice_get (C ∷ G) k ≡ Some A → FitsAt (behind w k) A (slice_get (C ∷ H) (lifted f k))
    at zero A e = e
    at (suc k) A e = t.each k A e

fits-around : (b : Bool) (B : Binder) (As : List PlainType) (f : ℕ → ℕ) (w : Wanted) (G H : List PlainType) → IsReady b B → HasSome b As → Fits f w G H →
    Fits (around B f) (behind_binder B w) (under B As G) (under B As H)
fits-around b nothing As f w G H r s t = t
fits-around true first (A ∷ As) f w G H r s t = fits-behind f w G H A t
fits-around true first [] f w G H r s t = absurd s
fits-around false first As f w G H r s t = absurd r
fits-around b (given T) As f w G H r s t = fits-behind f w G H T t

some-more : (As : List PlainType) (A : PlainType) → HasSome true (As ++ A ∷ [])
some-more [] A = tt
some-more (B ∷ As) A = tt

-- ---- the rule of a form

-- a use
use-kept : (o : Option PlainType) (A : PlainType) (k j m : ℕ) (at : Place) (H : List PlainType) → FitsAt o A (slice_get H j) →
    judged (raised o (rule no_derivations)) m H (tree.var j at) ≡ concludes A
use-kept None A k j m at H e = ap (at_node m) e
use-kept (Some T) A k j m at H e =
    judge-outer _ (λ C. at_node m (provided (is_below C T) T)) A e.1.0 (ap (at_node (m + 1)) e.1.1)
    (node-outer m (provided (is_below e.1.0 T) T) A (subst (λ S. provided (is_below e.1.0 S) S ≡ Some A) (sym e.0) (ap (λ b. provided b A) e.1.2)))

pub plain-rule : (q : Tree) (H : List PlainType) (es : PlainDerivations) (m : ℕ) (Qs : List Premise) (As : List PlainType) (A : PlainType) →
    premises q ≡ Some Qs → count es ≡ length Qs → each_judged es (m + 1) H Qs [] ≡ all_conclude As → conclusion H q As ≡ Some A →
    judged (rule es) m H q ≡ concludes A
plain-rule q H es m Qs As A e l j c = rule_judged es m H q Qs (all_conclude As) e l j ∙ ap (at_node m) c

use-rule : (es : PlainDerivations) (o : Option PlainType) (A : PlainType) (j m : ℕ) (at : Place) (H : List PlainType) → count es ≡ 0 → FitsAt o A (slice_get H j) →
    judged (raised o (rule es)) m H (tree.var j at) ≡ concludes A
use-rule no_derivations o A j m at H l t = use-kept o A j j m at H t
use-rule (and_derivation d es) o A j m at H l t = absurd (omega (arith, l))

rule-outer : {f : ℕ → ℕ} {p q : Tree} → Alike f p q → (w : Wanted) (G H : List PlainType) → Fits f w G H → (es : PlainDerivations) (m : ℕ) (Qs : List Premise)
    (As : List PlainType) (A : PlainType) → premises q ≡ Some Qs → count es ≡ length Qs → each_judged es (m + 1) H Qs [] ≡ all_conclude As →
    conclusion G p As ≡ Some A → judged (raised_use w p (rule es)) m H q ≡ concludes A
rule-outer {f} (alike.var {k} {j} {a} {b} i) w G H t es m Qs As A e l y c =
    use-rule es (w k) A j m b H (l ∙ sym (ap length (some_same e))) (subst (λ x. FitsAt (w k) A (slice_get H x)) (sym i) (t.each k A c))
rule-outer {f} {p} {q} h w G H t es m Qs As A e l j c = plain-rule q H es m Qs As A e l j c

-- ---- what a derivation's node goes on with

same-inner : (f : ℕ → ℕ) (o r : Option (List Premise)) (Ps : List Premise) → o ≡ Some Ps → SameAlike f o r → (Qs : List Premise) × (r ≡ Some Qs) × EachAlike false f Ps Qs
same-inner f None r Ps e s = absurd cc
same-inner f (Some Ps) None Rs e s = absurd s
same-inner f (Some Ps) (Some Qs) Rs e s = (Qs, refl, subst (λ X. EachAlike false f X Qs) (some_same e) s)

form-outer : {X : Type 0} (n : ℕ) (o : Option X) (f : X → Judged) (A : PlainType) (x : X) → o ≡ Some x → f x ≡ concludes A → if_form n o f ≡ concludes A
form-outer n o f A x e h = ap (λ r. if_form n r f) e ∙ h

alternative-alike : {f : ℕ → ℕ} {p q : Tree} → Alike f p q → (i : ℕ) (x : PlainType × Tree) → alternative i p ≡ Some x →
    (alternative i q ≡ Some (x.0, body_of q)) × (x.1 ≡ body_of p) × Alike (lifted f) (body_of p) (body_of q)
alternative-alike {f} (alike.lam {As} {p} {q} h) i x e = by (member As i) e
  where
    by : (o : Option PlainType) → option_map {U = PlainType × Tree} (λ A. (A, p)) o ≡ Some x →
        (option_map {U = PlainType × Tree} (λ A. (A, q)) o ≡ Some (x.0, q)) × (x.1 ≡ p) × Alike (lifted f) p q
    by None s = absurd cc
    by (Some A) s =
        let start : PlainType × Tree = (A, p) in
        let pair : start ≡ x = some_same s in
        let go : PlainType × Tree → Option (PlainType × Tree) = λ y. Some (y.0, q) in (ap go pair, ap (λ y. y.1) (sym pair), h)
alternative-alike h i x e = absurd cc

operands-alike : {f : ℕ → ℕ} {p q : Tree} → Alike f p q → (x : Tree × Tree × Kind) → operands p ≡ Some x →
    (x.0 ≡ left_of p) × (x.1 ≡ right_of p) × (operands q ≡ Some (left_of q, right_of q, x.2)) × Alike f (left_of p) (left_of q) × Alike f (right_of p) (right_of q)
operands-alike {f} (alike.merge {p} {q} {p2} {q2} h k) x e = by (kind_of p2) (kind_of q2) (kind-alike k) e
  where
    by : (o r : Option Kind) → o ≡ r → option_map {U = Tree × Tree × Kind} (λ m. (p, p2, m)) o ≡ Some x →
        (x.0 ≡ p) × (x.1 ≡ p2) × (option_map {U = Tree × Tree × Kind} (λ m. (q, q2, m)) r ≡ Some (q, q2, x.2)) × Alike f p q × Alike f p2 q2
    by None r s t = absurd cc
    by (Some m) r s t =
        let start : Tree × Tree × Kind = (p, p2, m) in
        let triple : start ≡ x = some_same t in
        let go : Tree × Tree × Kind → Option (Tree × Tree × Kind) = λ y. Some (q, q2, y.2) in
        let map : Option Kind → Option (Tree × Tree × Kind) = option_map {U = Tree × Tree × Kind} (λ m. (q, q2, m)) in
        (ap (λ y. y.0) (sym triple), ap (λ y. y.1) (sym triple), ap map (sym s) ∙ ap go triple, h, k)
operands-alike h x e = absurd cc

-- ---- all derivations

mutual
  pub placed-judged : (d : PlainDerivation) (f : ℕ → ℕ) (w : Wanted) (G H : List PlainType) (p q : Tree) (A : PlainType) (n m : ℕ) →
      Alike f p q → Fits f w G H → judged d n G p ≡ concludes A → judged (placed w p d) m H q ≡ concludes A
  placed-judged by_ns f w G H p q A n m h t e = e
  placed-judged (sub B d) f w G H p q A n m h t e =
      let x = judge-inner (judged d (n + 1) G p) (λ A. at_node n (provided (is_below A B) B)) A e in
      judge-outer (judged (placed w p d) (m + 1) H q) (λ A. at_node m (provided (is_below A B) B)) A x.0
      (placed-judged d f w G H p q x.0 (n + 1) (m + 1) h t x.1)
      (node-outer m (provided (is_below x.0 B) B) A (node-inner n (provided (is_below x.0 B) B) A x.2))
  placed-judged (meets ds) f w G H p q A n m h t e =
      let k = count ds in
      let Ps = replicate k (nothing, p) in
      let Qs = replicate k (nothing, q) in
      let es = all_placed w Ps ds in
      let c : count es ≡ k = placed-count w Ps ds in
      let x = meet-inner (nat_le 2 k) (from_premises n (each_judged ds (n + 1) G Ps []) (λ As. Some (meet (types_from As)))) n A e in
      let y = premises-inner n (each_judged ds (n + 1) G Ps []) (λ As. Some (meet (types_from As))) A x.1 in
      let z = each-placed ds false f w G H Ps Qs [] y.0 (n + 1) (m + 1) (again-alike k false h) tt t y.1 in
      let goal : ℕ → Judged = λ r. cond (nat_le 2 r) (from_premises m (each_judged es (m + 1) H (replicate r (nothing, q)) []) (λ As. Some (meet (types_from As)))) (stops m) in
      ap goal c ∙ ap (λ b. cond b (from_premises m (each_judged es (m + 1) H Qs []) (λ As. Some (meet (types_from As)))) (stops m)) x.0
      ∙ premises-outer m (each_judged es (m + 1) H Qs []) (λ As. Some (meet (types_from As))) A y.0 z y.2
  placed-judged (alt i d) f w G H p q A n m h t e =
      let x = form-inner n (alternative i p) (λ x. then_judge (judged d (n + 1) (x.0 ∷ G) x.1) (λ C. concludes (arrow x.0 C))) A e in
      let y = judge-inner (judged d (n + 1) (x.0.0 ∷ G) x.0.1) (λ C. concludes (arrow x.0.0 C)) A x.2 in
      let z = alternative-alike h i x.0 x.1 in
      form-outer m (alternative i q) (λ x. then_judge (judged (placed (behind w) (body_of p) d) (m + 1) (x.0 ∷ H) x.1) (λ C. concludes (arrow x.0 C))) A (x.0.0, body_of q) z.0
      (judge-outer (judged (placed (behind w) (body_of p) d) (m + 1) (x.0.0 ∷ H) (body_of q)) (λ C. concludes (arrow x.0.0 C)) A y.0
      (placed-judged d (lifted f) (behind w) (x.0.0 ∷ G) (x.0.0 ∷ H) (body_of p) (body_of q) y.0 (n + 1) (m + 1) z.2 (fits-behind f w G H x.0.0 t)
      (subst (λ b. judged d (n + 1) (x.0.0 ∷ G) b ≡ concludes y.0) z.1 y.1))
      y.2)
  placed-judged (left d) f w G H p q A n m h t e =
      let x = form-inner n (operands p) (λ x. then_judge (judged d (n + 1) G x.0) (λ A. at_node n (provided (none_begins x.2 (paths A)) A))) A e in
      let y = judge-inner (judged d (n + 1) G x.0.0) (λ A. at_node n (provided (none_begins x.0.2 (paths A)) A)) A x.2 in
      let z = operands-alike h x.0 x.1 in
      form-outer m (operands q) (λ x. then_judge (judged (placed w (left_of p) d) (m + 1) H x.0) (λ A. at_node m (provided (none_begins x.2 (paths A)) A))) A
      (left_of q, right_of q, x.0.2) z.2
      (judge-outer (judged (placed w (left_of p) d) (m + 1) H (left_of q)) (λ A. at_node m (provided (none_begins x.0.2 (paths A)) A)) A y.0
      (placed-judged d f w G H (left_of p) (left_of q) y.0 (n + 1) (m + 1) z.3 t (subst (λ b. judged d (n + 1) G b ≡ concludes y.0) z.0 y.1))
      (node-outer m (provided (none_begins x.0.2 (paths y.0)) y.0) A (node-inner n (provided (none_begins x.0.2 (paths y.0)) y.0) A y.2)))
  placed-judged (right d) f w G H p q A n m h t e =
      let x = form-inner n (operands p) (λ x. judged d (n + 1) G x.1) A e in
      let z = operands-alike h x.0 x.1 in
      form-outer m (operands q) (λ x. judged (placed w (right_of p) d) (m + 1) H x.1) A (left_of q, right_of q, x.0.2) z.2
      (placed-judged d f w G H (right_of p) (right_of q) A (n + 1) (m + 1) z.4 t (subst (λ b. judged d (n + 1) G b ≡ concludes A) z.1 x.2))
  placed-judged (rule ds) f w G H p q A n m h t e =
      let x = form-inner n (premises p) (λ Ps. if_count n (count ds) Ps (from_premises n (each_judged ds (n + 1) G Ps []) (conclusion G p))) A e in
      let y = count-inner n (count ds) x.0 (from_premises n (each_judged ds (n + 1) G x.0 []) (conclusion G p)) A x.2 in
      let z = premises-inner n (each_judged ds (n + 1) G x.0 []) (conclusion G p) A y.1 in
      let s = same-inner f (premises p) (premises q) x.0 x.1 (premises-alike h) in
      let l = each-length false f x.0 s.0 s.2 in
      let go = each-placed ds false f w G H x.0 s.0 [] z.0 (n + 1) (m + 1) s.2 tt t z.1 in
      let r = rule-outer h w G H t (all_placed w x.0 ds) m s.0 z.0 A s.1 (placed-count w x.0 ds ∙ y.0 ∙ l) go z.2 in
      subst (λ Ps. judged (raised_use w p (rule (all_placed w Ps ds))) m H q ≡ concludes A) (sym (ap those_of x.1)) r

  pub each-placed : (ds : PlainDerivations) (b : Bool) (f : ℕ → ℕ) (w : Wanted) (G H : List PlainType) (Ps Qs : List Premise) (As Cs : List PlainType) (n m : ℕ) →
      EachAlike b f Ps Qs → HasSome b As → Fits f w G H → each_judged ds n G Ps As ≡ all_conclude Cs → each_judged (all_placed w Ps ds) m H Qs As ≡ all_conclude Cs
  each-placed no_derivations b f w G H Ps Qs As Cs n m h s t e = e
  each-placed (and_derivation d ds) b f w G H [] [] As Cs n m h s t e = e
  each-placed (and_derivation d ds) b f w G H [] (Q ∷ Qs) As Cs n m h s t e = absurd h
  each-placed (and_derivation d ds) b f w G H (P ∷ Ps) [] As Cs n m h s t e = absurd h
  each-placed (and_derivation d ds) b f w G H (P ∷ Ps) (Q ∷ Qs) As Cs n m h s t e =
      let x = others-inner (judged d n (under P.0 As G) P.1) (λ A. each_judged ds (n + nodes d) G Ps (As ++ A ∷ [])) Cs e in
      let v = behind_binder P.0 w in
      let own = placed-judged d (around P.0 f) v (under P.0 As G) (under P.0 As H) P.1 Q.1 x.0 n m h.2 (fits-around b P.0 As f w G H h.0 s t) x.1 in
      let own2 : judged (placed v P.1 d) m (under Q.0 As H) Q.1 ≡ concludes x.0 = subst (λ B. judged (placed v P.1 d) m (under B As H) Q.1 ≡ concludes x.0) h.1 own in
      let rest = each-placed ds true f w G H Ps Qs (As ++ x.0 ∷ []) Cs (n + nodes d) (m + nodes (placed v P.1 d)) h.3 (some-more As x.0) t x.2 in
      others-outer (judged (placed v P.1 d) m (under Q.0 As H) Q.1) (λ A. each_judged (all_placed w Ps ds) (m + nodes (placed v P.1 d)) H Qs (As ++ A ∷ [])) Cs x.0 own2 rest

pub placed-concludes : PlacedConcludes
placed-concludes f w G H p q A d n m h t e = placed-judged d f w G H p q A n m h t e
