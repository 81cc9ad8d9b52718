-- Walking a derivation of each form.
use Rattle.std.proofs.Common.{ℕ, ◌+◌, ◌≡◌, ◌≢◌, inr, List, [], ◌∷◌, length, map, replicate, Option, option_map, Some, None, Result, Vec, Global, IfOk, refl, sym, ap, ◌∙◌, subst}
use Rattle.fy_phrase.specs.declared.shapes.ShapeElem.TheVariants as elem
use Rattle.fy_types.specs.Types.{PlainType, ns, arrow, meet}
use Rattle.fy_types.specs.Reading.{types_from}
use Rattle.fy_phrase.specs.Tree.{Tree}
use Rattle.fy_phrase.specs.Sizes.{nodes}
use Rattle.fy_derive.specs.Derivations.{PlainDerivation, PlainDerivations, by_ns, sub, meets, alt, left, right, rule, count}
use Rattle.fy_derive.specs.Kinds.{Kind}
use Rattle.fy_derive.specs.Subsumption.{is_below}
use Rattle.fy_derive.specs.Rules.{nothing, Premise, premises, provided, conclusion}
use Rattle.fy_derive.specs.Judging.{concludes, all_conclude, at_node, alternative, operands, judged, each_judged, if_count, from_premises}
use Rattle.fy_derive.specs.Shapes.{PlainShape, HasPair, in_sub, in_meet, in_alt, in_left, in_right, in_rule, OneHasPair, PremiseHasPair}
use Rattle.pe_shapes.specs.declared.error.ShapeError.{ShapeError}
use Rattle.pe_shapes.specs.declared.found.Found.{Found}
use Rattle.pe_shapes.specs.declared.numbers.ShapeNumbers.{ShapeNumbers}
use Rattle.pe_shapes.specs.Finding.{IsFound, Adds, NoPair, IsWalkStop, IsRecording, IsWalk}
use Rattle.pe_shapes.specs.Numbering.{in_front}
use Rattle.std.proofs.lemmas.List.{length-map}
use Rattle.fy_phrase.specs.declared.premise.Premise.{Premise as PremiseValue}
use Rattle.fy_phrase.specs.Premises.{merged, premise_shown}
use Rattle.pe_shapes.specs.Parts.{bound_parts}
use Rattle.pe_shapes.specs.Shown.{all_shown, Extends}
use Rattle.pe_shapes.specs.Standing.{HasShape, AreJust, IsStop}
use Rattle.pe_shapes.proofs.FoundLemmas.{Adds-none, stop-inside, stop-own}
use Rattle.pe_shapes.proofs.JudgedLemmas.{some_same, concluded_same, then-inner, node-inner, provided-inner, form-inner, count-inner, premises-inner, alt-inner, left-inner, right-inner, sub-inner, meets-inner}
use Rattle.pe_shapes.proofs.PairLemmas.{own-pair, pair-ns, pair-sub, pair-meet, pair-alt, pair-left, pair-right, pair-rule}
use Rattle.pe_shapes.proofs.PartLemmas.{both, operands-merged, premises-made}
use Rattle.pe_shapes.proofs.ShapeLemmas.{AreJust-none, AreJust-as, AreJust-front}
use Rattle.pe_shapes.proofs.Standings.{Extends-itself}
use Rattle.pe_shapes.proofs.WalkLemmas.{node-walked}

inner-stop : (a : Found) (P Q : ℕ → PlainShape → Type 0) (e : ShapeError) → ((k : ℕ) (s : PlainShape) → Q k s → P k s) → IsWalkStop e a Q → IsWalkStop e a P
inner-stop a P Q e inside x = stop-inside e (Adds-none a P) inside x

-- ---- `ns`

pub ns-arm : (r : Result (Vec ℕ Global) ShapeError) (a c : Found) (D : PlainDerivation) (m : ℕ) (G : List PlainType) (p : Tree) (A : PlainType) (ks : List ℕ) → ks ≡ [] →
    D ≡ by_ns → judged D 0 G p ≡ concludes A → IsFound a → IsRecording r a c m (all_shown a.numbers ks) →
    IfOk r (λ v. v.items ≡ ks) → IfOk r (λ v. c.numbers ≡ a.numbers) → IsWalk r a c A (HasPair D m G p)
ns-arm r a c D m G p A ks none e j s rec same numbers =
    let f = subst (λ X. judged X 0 G p ≡ concludes A) e j in
    let made : AreJust (all_shown a.numbers ks) ns = subst (λ ms. AreJust (all_shown a.numbers ms) ns) (sym none) AreJust-none in
    subst (λ X. IsWalk r a c A (HasPair X m G p)) (sym e)
    (node-walked r a a c a.numbers by_ns m G p A NoPair ks (Adds-none a NoPair) (λ k s z. absurd z) (λ k s z. inr (pair-ns f z)) f
    (Extends-itself a.numbers) s (AreJust-as (concluded_same f) made) rec same numbers)

-- where there is no value
pub none-of : {X Y : Type 0} (f : X → Y) (o : Option X) (q : Option Y) → ((x : X) → o ≡ Some x → ⊥) → option_map f o ≡ q → q ≡ None
none-of f None q n e = sym e
none-of f (Some x) q n e = absurd (n x refl)

-- ---- subsumption

sub-type : (B : PlainType) (d : PlainDerivation) (G : List PlainType) (p : Tree) (A : PlainType) → judged (sub B d) 0 G p ≡ concludes A → B ≡ A
sub-type B d G p A e =
    let x = then-inner (judged d 1 G p) (λ C. at_node 0 (provided (is_below C B) B)) A e in
    (provided-inner (is_below x.0 B) B A (node-inner 0 (provided (is_below x.0 B) B) A x.2)).1

pub sub-arm : (r : Result (Vec ℕ Global) ShapeError) (a b c : Found) (t : ShapeNumbers) (D d : PlainDerivation) (B : PlainType) (m : ℕ) (G : List PlainType) (p : Tree)
    (A : PlainType) (set ks : List ℕ) → D ≡ sub B d →
    ((C : PlainType) → judged d 0 G p ≡ concludes C → AreJust (all_shown b.numbers set) C × Adds a b (HasPair d m G p) NoPair) →
    judged D 0 G p ≡ concludes A → Extends b.numbers t → IsFound b → AreJust (all_shown t ks) B → IsRecording r (record b { numbers = t }) c m (all_shown t ks) →
    IfOk r (λ v. v.items ≡ ks) → IfOk r (λ v. c.numbers ≡ t) → IsWalk r a c A (HasPair D m G p)
sub-arm r a b c t D d B m G p A set ks e walk j more s made rec same numbers =
    let f = subst (λ X. judged X 0 G p ≡ concludes A) e j in
    let x = sub-inner B d G p A f in
    subst (λ X. IsWalk r a c A (HasPair X m G p)) (sym e)
    (node-walked r a b c t (sub B d) m G p A (HasPair d m G p) ks (walk x.0 x.1).1 (λ k s z. in_sub z) (λ k s z. pair-sub f z) f
    more s (AreJust-as (sub-type B d G p A f) made) rec same numbers)

pub sub-stop : (a : Found) (D d : PlainDerivation) (B : PlainType) (m : ℕ) (G : List PlainType) (p : Tree) (A : PlainType) (x : ShapeError) → D ≡ sub B d →
    ((C : PlainType) → judged d 0 G p ≡ concludes C → IsWalkStop x a (HasPair d m G p)) → judged D 0 G p ≡ concludes A → IsWalkStop x a (HasPair D m G p)
sub-stop a D d B m G p A x e walk j =
    let y = sub-inner B d G p A (subst (λ X. judged X 0 G p ≡ concludes A) e j) in
    subst (λ X. IsWalkStop x a (HasPair X m G p)) (sym e) (inner-stop a (HasPair (sub B d) m G p) (HasPair d m G p) x (λ k s z. in_sub z) (walk y.0 y.1))

pub sub-type-stop : (a : Found) (D d : PlainDerivation) (B : PlainType) (m : ℕ) (G : List PlainType) (p : Tree) (A : PlainType) (x : ShapeError) → D ≡ sub B d →
    judged D 0 G p ≡ concludes A → IsStop x (HasShape B) → IsWalkStop x a (HasPair D m G p)
sub-type-stop a D d B m G p A x e j h =
    let f = subst (λ X. judged X 0 G p ≡ concludes A) e j in
    subst (λ X. IsWalkStop x a (HasPair X m G p)) (sym e)
    (stop-own a (HasPair (sub B d) m G p) m B x (own-pair (f ∙ ap concludes (sym (sub-type B d G p A f)))) h)

-- ---- meets

pub meet-arm : (r : Result (Vec ℕ Global) ShapeError) (a b c : Found) (D : PlainDerivation) (ds : PlainDerivations) (m : ℕ) (G : List PlainType) (p : Tree) (A : PlainType)
    (ks : List ℕ) → D ≡ meets ds →
    ((As : List PlainType) (n : ℕ) → each_judged ds n G (replicate (count ds) (nothing, p)) [] ≡ all_conclude As →
    AreJust (all_shown b.numbers ks) (meet (types_from As)) × Adds a b (OneHasPair ds m G p) NoPair) →
    judged D 0 G p ≡ concludes A → IsFound b → IsRecording r b c m (all_shown b.numbers ks) →
    IfOk r (λ v. v.items ≡ ks) → IfOk r (λ v. c.numbers ≡ b.numbers) → IsWalk r a c A (HasPair D m G p)
meet-arm r a b c D ds m G p A ks e walk j s rec same numbers =
    let f = subst (λ X. judged X 0 G p ≡ concludes A) e j in
    let x = meets-inner ds G p A f in
    let y = walk x.0 1 x.1 in
    subst (λ X. IsWalk r a c A (HasPair X m G p)) (sym e)
    (node-walked r a b c b.numbers (meets ds) m G p A (OneHasPair ds m G p) ks y.1 (λ k s z. in_meet z) (λ k s z. pair-meet f z) f
    (Extends-itself b.numbers) s (AreJust-as x.2 y.0) rec same numbers)

pub meet-stop : (a : Found) (D : PlainDerivation) (ds : PlainDerivations) (m : ℕ) (G : List PlainType) (p : Tree) (A : PlainType) (x : ShapeError) → D ≡ meets ds →
    ((As : List PlainType) (n : ℕ) → each_judged ds n G (replicate (count ds) (nothing, p)) [] ≡ all_conclude As → IsWalkStop x a (OneHasPair ds m G p)) →
    judged D 0 G p ≡ concludes A → IsWalkStop x a (HasPair D m G p)
meet-stop a D ds m G p A x e walk j =
    let y = meets-inner ds G p A (subst (λ X. judged X 0 G p ≡ concludes A) e j) in
    subst (λ X. IsWalkStop x a (HasPair X m G p)) (sym e) (inner-stop a (HasPair (meets ds) m G p) (OneHasPair ds m G p) x (λ k s z. in_meet z) (walk y.0 1 y.1))

-- ---- alternatives

-- the alternative that is read is the one that judging reads
alt-read : (i : ℕ) (d : PlainDerivation) (G : List PlainType) (p : Tree) (A : PlainType) (x : PlainType × Tree) → alternative i p ≡ Some x → judged (alt i d) 0 G p ≡ concludes A →
    (C : PlainType) × (judged d 0 (x.0 ∷ G) x.1 ≡ concludes C) × (arrow x.0 C ≡ A)
alt-read i d G p A x a f =
    let y = alt-inner i d G p A f in
    let same : y.0 ≡ x = some_same (sym y.2 ∙ a) in
    (y.1, ap (λ z. judged d 0 (z.0 ∷ G) z.1) (sym same) ∙ y.3, ap (λ z. arrow z.0 y.1) (sym same) ∙ y.4)

pub alt-arm : (r : Result (Vec ℕ Global) ShapeError) (a b c : Found) (t : ShapeNumbers) (D d : PlainDerivation) (i m : ℕ) (G : List PlainType) (p : Tree)
    (A : PlainType) (x : PlainType × Tree) (behind ks : List ℕ) → D ≡ alt i d → alternative i p ≡ Some x →
    ((C : PlainType) → judged d 0 (x.0 ∷ G) x.1 ≡ concludes C → AreJust (all_shown b.numbers behind) C × Adds a b (HasPair d (m + 1) (x.0 ∷ G) x.1) NoPair) →
    judged D 0 G p ≡ concludes A → Extends b.numbers t → IsFound b → all_shown t ks ≡ map (in_front elem.Call) (all_shown b.numbers behind) →
    IsRecording r (record b { numbers = t }) c m (all_shown t ks) → IfOk r (λ v. v.items ≡ ks) → IfOk r (λ v. c.numbers ≡ t) → IsWalk r a c A (HasPair D m G p)
alt-arm r a b c t D d i m G p A x behind ks e alternative_is walk j more s made rec same numbers =
    let f = subst (λ X. judged X 0 G p ≡ concludes A) e j in
    let y = alt-read i d G p A x alternative_is f in
    let w = walk y.0 y.1 in
    subst (λ X. IsWalk r a c A (HasPair X m G p)) (sym e)
    (node-walked r a b c t (alt i d) m G p A (HasPair d (m + 1) (x.0 ∷ G) x.1) ks w.1 (λ k s z. in_alt alternative_is z) (λ k s z. pair-alt x f alternative_is z) f
    more s (subst (λ S. AreJust S A) (sym made) (AreJust-front elem.Call A y.0 (x.0, sym y.2) (all_shown b.numbers behind) w.0)) rec same numbers)

pub alt-stop : (a : Found) (D d : PlainDerivation) (i m : ℕ) (G : List PlainType) (p : Tree) (A : PlainType) (x : PlainType × Tree) (z : ShapeError) → D ≡ alt i d →
    alternative i p ≡ Some x → ((C : PlainType) → judged d 0 (x.0 ∷ G) x.1 ≡ concludes C → IsWalkStop z a (HasPair d (m + 1) (x.0 ∷ G) x.1)) →
    judged D 0 G p ≡ concludes A → IsWalkStop z a (HasPair D m G p)
alt-stop a D d i m G p A x z e alternative_is walk j =
    let y = alt-read i d G p A x alternative_is (subst (λ X. judged X 0 G p ≡ concludes A) e j) in
    subst (λ X. IsWalkStop z a (HasPair X m G p)) (sym e)
    (inner-stop a (HasPair (alt i d) m G p) (HasPair d (m + 1) (x.0 ∷ G) x.1) z (λ k s w. in_alt alternative_is w) (walk y.0 y.1))

pub alt-none : (D d : PlainDerivation) (i : ℕ) (G : List PlainType) (p : Tree) (A : PlainType) → D ≡ alt i d → alternative i p ≡ None → judged D 0 G p ≡ concludes A → ⊥
alt-none D d i G p A e n j =
    let y = alt-inner i d G p A (subst (λ X. judged X 0 G p ≡ concludes A) e j) in
    let g : None ≡ Some y.0 = sym n ∙ y.2 in cc

-- ---- operands

left-read : (d : PlainDerivation) (G : List PlainType) (p : Tree) (A : PlainType) (x : Tree × Tree) → merged p ≡ Some x → judged (left d) 0 G p ≡ concludes A →
    (k : Kind) × (operands p ≡ Some (x.0, x.1, k)) × (judged d 0 G x.0 ≡ concludes A)
left-read d G p A x m f =
    let y = left-inner d G p A f in
    let same : both y.0.0 y.0.1 ≡ x = some_same (sym (operands-merged p y.0 y.1) ∙ m) in
    (y.0.2, y.1 ∙ ap (λ z. Some (z.0, z.1, y.0.2)) same, ap (λ z. judged d 0 G z.0) (sym same) ∙ y.2)

pub left-arm : (r : Result (Vec ℕ Global) ShapeError) (a b c : Found) (D d : PlainDerivation) (m : ℕ) (G : List PlainType) (p : Tree) (A : PlainType) (x : Tree × Tree)
    (ks : List ℕ) → D ≡ left d → merged p ≡ Some x →
    ((C : PlainType) → judged d 0 G x.0 ≡ concludes C → AreJust (all_shown b.numbers ks) C × Adds a b (HasPair d (m + 1) G x.0) NoPair) →
    judged D 0 G p ≡ concludes A → IsFound b → IsRecording r b c m (all_shown b.numbers ks) →
    IfOk r (λ v. v.items ≡ ks) → IfOk r (λ v. c.numbers ≡ b.numbers) → IsWalk r a c A (HasPair D m G p)
left-arm r a b c D d m G p A x ks e merged_is walk j s rec same numbers =
    let f = subst (λ X. judged X 0 G p ≡ concludes A) e j in
    let y = left-read d G p A x merged_is f in
    let w = walk A y.2 in
    subst (λ X. IsWalk r a c A (HasPair X m G p)) (sym e)
    (node-walked r a b c b.numbers (left d) m G p A (HasPair d (m + 1) G x.0) ks w.1 (λ k s z. in_left y.1 z) (λ k s z. pair-left (x.0, x.1, y.0) f y.1 z) f
    (Extends-itself b.numbers) s w.0 rec same numbers)

pub left-stop : (a : Found) (D d : PlainDerivation) (m : ℕ) (G : List PlainType) (p : Tree) (A : PlainType) (x : Tree × Tree) (z : ShapeError) → D ≡ left d → merged p ≡ Some x →
    ((C : PlainType) → judged d 0 G x.0 ≡ concludes C → IsWalkStop z a (HasPair d (m + 1) G x.0)) → judged D 0 G p ≡ concludes A → IsWalkStop z a (HasPair D m G p)
left-stop a D d m G p A x z e merged_is walk j =
    let y = left-read d G p A x merged_is (subst (λ X. judged X 0 G p ≡ concludes A) e j) in
    subst (λ X. IsWalkStop z a (HasPair X m G p)) (sym e)
    (inner-stop a (HasPair (left d) m G p) (HasPair d (m + 1) G x.0) z (λ k s w. in_left y.1 w) (walk A y.2))

pub left-none : (D d : PlainDerivation) (G : List PlainType) (p : Tree) (A : PlainType) → D ≡ left d → merged p ≡ None → judged D 0 G p ≡ concludes A → ⊥
left-none D d G p A e n j =
    let y = left-inner d G p A (subst (λ X. judged X 0 G p ≡ concludes A) e j) in
    let g : None ≡ Some (both y.0.0 y.0.1) = sym n ∙ operands-merged p y.0 y.1 in cc

right-read : (d : PlainDerivation) (G : List PlainType) (p : Tree) (A : PlainType) (x : Tree × Tree) → merged p ≡ Some x → judged (right d) 0 G p ≡ concludes A →
    (k : Kind) × (operands p ≡ Some (x.0, x.1, k)) × (judged d 0 G x.1 ≡ concludes A)
right-read d G p A x m f =
    let y = right-inner d G p A f in
    let same : both y.0.0 y.0.1 ≡ x = some_same (sym (operands-merged p y.0 y.1) ∙ m) in
    (y.0.2, y.1 ∙ ap (λ z. Some (z.0, z.1, y.0.2)) same, ap (λ z. judged d 0 G z.1) (sym same) ∙ y.2)

pub right-arm : (r : Result (Vec ℕ Global) ShapeError) (a b c : Found) (D d : PlainDerivation) (m n : ℕ) (G : List PlainType) (p : Tree) (A : PlainType) (x : Tree × Tree)
    (ks : List ℕ) → D ≡ right d → merged p ≡ Some x → n ≡ m + 1 + nodes x.0 →
    ((C : PlainType) → judged d 0 G x.1 ≡ concludes C → AreJust (all_shown b.numbers ks) C × Adds a b (HasPair d n G x.1) NoPair) →
    judged D 0 G p ≡ concludes A → IsFound b → IsRecording r b c m (all_shown b.numbers ks) →
    IfOk r (λ v. v.items ≡ ks) → IfOk r (λ v. c.numbers ≡ b.numbers) → IsWalk r a c A (HasPair D m G p)
right-arm r a b c D d m n G p A x ks e merged_is at walk j s rec same numbers =
    let f = subst (λ X. judged X 0 G p ≡ concludes A) e j in
    let y = right-read d G p A x merged_is f in
    let w = subst (λ n. AreJust (all_shown b.numbers ks) A × Adds a b (HasPair d n G x.1) NoPair) at (walk A y.2) in
    subst (λ X. IsWalk r a c A (HasPair X m G p)) (sym e)
    (node-walked r a b c b.numbers (right d) m G p A (HasPair d (m + 1 + nodes x.0) G x.1) ks w.1 (λ k s z. in_right y.1 z) (λ k s z. pair-right (x.0, x.1, y.0) f y.1 z) f
    (Extends-itself b.numbers) s w.0 rec same numbers)

pub right-stop : (a : Found) (D d : PlainDerivation) (m n : ℕ) (G : List PlainType) (p : Tree) (A : PlainType) (x : Tree × Tree) (z : ShapeError) → D ≡ right d →
    merged p ≡ Some x → n ≡ m + 1 + nodes x.0 →
    ((C : PlainType) → judged d 0 G x.1 ≡ concludes C → IsWalkStop z a (HasPair d n G x.1)) → judged D 0 G p ≡ concludes A → IsWalkStop z a (HasPair D m G p)
right-stop a D d m n G p A x z e merged_is at walk j =
    let y = right-read d G p A x merged_is (subst (λ X. judged X 0 G p ≡ concludes A) e j) in
    subst (λ X. IsWalkStop z a (HasPair X m G p)) (sym e)
    (inner-stop a (HasPair (right d) m G p) (HasPair d (m + 1 + nodes x.0) G x.1) z (λ k s w. in_right y.1 w)
    (subst (λ n. IsWalkStop z a (HasPair d n G x.1)) at (walk A y.2)))

pub right-none : (D d : PlainDerivation) (G : List PlainType) (p : Tree) (A : PlainType) → D ≡ right d → merged p ≡ None → judged D 0 G p ≡ concludes A → ⊥
right-none D d G p A e n j =
    let y = right-inner d G p A (subst (λ X. judged X 0 G p ≡ concludes A) e j) in
    let g : None ≡ Some (both y.0.0 y.0.1) = sym n ∙ operands-merged p y.0 y.1 in cc

-- ---- rules

pub record IsRule (ds : PlainDerivations) (G : List PlainType) (p : Tree) (A : PlainType) : Type 0 where
  pub asked : List Premise
  pub types : List PlainType
  pub are : premises p ≡ Some asked
  pub many : count ds ≡ length asked
  pub judges : each_judged ds 1 G asked [] ≡ all_conclude types
  pub concluded : conclusion G p types ≡ Some A

pub rule-read : (ds : PlainDerivations) (G : List PlainType) (p : Tree) (A : PlainType) → judged (rule ds) 0 G p ≡ concludes A → IsRule ds G p A
rule-read ds G p A e =
    let x = form-inner 0 (premises p) (λ Ps. if_count 0 (count ds) Ps (from_premises 0 (each_judged ds 1 G Ps []) (conclusion G p))) A e in
    let y = count-inner 0 (count ds) x.0 (from_premises 0 (each_judged ds 1 G x.0 []) (conclusion G p)) A x.2 in
    let z = premises-inner 0 (each_judged ds 1 G x.0 []) (conclusion G p) A y.1 in
    record { asked = x.0; types = z.0; are = x.1; many = y.0; judges = z.1; concluded = z.2 }

pub rule-arm : (r : Result (Vec ℕ Global) ShapeError) (a b c : Found) (t : ShapeNumbers) (D : PlainDerivation) (ds : PlainDerivations) (m : ℕ) (G : List PlainType) (p : Tree)
    (A : PlainType) (ks : List ℕ) → (e : D ≡ rule ds) → (j : judged D 0 G p ≡ concludes A) →
    ((x : IsRule ds G p A) → Adds a b (PremiseHasPair ds (m + 1) G x.asked []) NoPair) →
    Extends b.numbers t → IsFound b → ((x : IsRule ds G p A) → AreJust (all_shown t ks) A) → IsRecording r (record b { numbers = t }) c m (all_shown t ks) →
    IfOk r (λ v. v.items ≡ ks) → IfOk r (λ v. c.numbers ≡ t) → IsWalk r a c A (HasPair D m G p)
rule-arm r a b c t D ds m G p A ks e j walk more s made rec same numbers =
    let f = subst (λ X. judged X 0 G p ≡ concludes A) e j in
    let x = rule-read ds G p A f in
    subst (λ X. IsWalk r a c A (HasPair X m G p)) (sym e)
    (node-walked r a b c t (rule ds) m G p A (PremiseHasPair ds (m + 1) G x.asked []) ks (walk x) (λ k s z. in_rule x.are z) (λ k s z. pair-rule x.asked f x.are z) f
    more s (made x) rec same numbers)

pub rule-stop : (a : Found) (D : PlainDerivation) (ds : PlainDerivations) (m : ℕ) (G : List PlainType) (p : Tree) (A : PlainType) (z : ShapeError) → D ≡ rule ds →
    ((x : IsRule ds G p A) → IsWalkStop z a (PremiseHasPair ds (m + 1) G x.asked [])) → judged D 0 G p ≡ concludes A → IsWalkStop z a (HasPair D m G p)
rule-stop a D ds m G p A z e walk j =
    let x = rule-read ds G p A (subst (λ X. judged X 0 G p ≡ concludes A) e j) in
    subst (λ X. IsWalkStop z a (HasPair X m G p)) (sym e)
    (inner-stop a (HasPair (rule ds) m G p) (PremiseHasPair ds (m + 1) G x.asked []) z (λ k s w. in_rule x.are w) (walk x))

pub rule-own-stop : (a : Found) (D : PlainDerivation) (ds : PlainDerivations) (m : ℕ) (G : List PlainType) (p : Tree) (A : PlainType) (z : ShapeError) → D ≡ rule ds →
    ((x : IsRule ds G p A) → IsStop z (HasShape A)) → judged D 0 G p ≡ concludes A → IsWalkStop z a (HasPair D m G p)
rule-own-stop a D ds m G p A z e own j =
    let x = rule-read ds G p A (subst (λ X. judged X 0 G p ≡ concludes A) e j) in
    stop-own a (HasPair D m G p) m A z (own-pair j) (own x)

-- the premises, as parts that were made
asked-made : (ds : PlainDerivations) (G : List PlainType) (p : Tree) (A : PlainType) (Ps : List PremiseValue) → map premise_shown Ps ≡ bound_parts p → (x : IsRule ds G p A) → map premise_shown Ps ≡ x.asked
asked-made ds G p A Ps made x = premises-made Ps p x.asked made x.are

pub rule-misfit : (D : PlainDerivation) (ds : PlainDerivations) (G : List PlainType) (p : Tree) (A : PlainType) (Ps : List PremiseValue) → D ≡ rule ds → map premise_shown Ps ≡ bound_parts p →
    count ds ≢ length Ps → judged D 0 G p ≡ concludes A → ⊥
rule-misfit D ds G p A Ps e made apart j =
    let x = rule-read ds G p A (subst (λ X. judged X 0 G p ≡ concludes A) e j) in
    apart (x.many ∙ (sym (ap length (asked-made ds G p A Ps made x)) ∙ length-map Ps premise_shown))

pub rule-each-stop : (a : Found) (D : PlainDerivation) (ds : PlainDerivations) (m : ℕ) (G : List PlainType) (p : Tree) (A : PlainType) (Ps : List PremiseValue) (z : ShapeError) → D ≡ rule ds →
    map premise_shown Ps ≡ bound_parts p →
    ((As : List PlainType) (n : ℕ) → each_judged ds n G (map premise_shown Ps) [] ≡ all_conclude As → IsWalkStop z a (PremiseHasPair ds (m + 1) G (map premise_shown Ps) [])) →
    judged D 0 G p ≡ concludes A → IsWalkStop z a (HasPair D m G p)
rule-each-stop a D ds m G p A Ps z e made walk j =
    rule-stop a D ds m G p A z e
    (λ x. let same = asked-made ds G p A Ps made x in
    subst (λ Qs. IsWalkStop z a (PremiseHasPair ds (m + 1) G Qs [])) same (walk x.types 1 (subst (λ Qs. each_judged ds 1 G Qs [] ≡ all_conclude x.types) (sym same) x.judges))) j

pub rule-each-own : (a : Found) (D : PlainDerivation) (ds : PlainDerivations) (m : ℕ) (G : List PlainType) (p : Tree) (A : PlainType) (Ps : List PremiseValue) (z : ShapeError) → D ≡ rule ds →
    map premise_shown Ps ≡ bound_parts p →
    ((As : List PlainType) (n : ℕ) → each_judged ds n G (map premise_shown Ps) [] ≡ all_conclude As → conclusion G p As ≡ Some A → IsStop z (HasShape A)) →
    judged D 0 G p ≡ concludes A → IsWalkStop z a (HasPair D m G p)
rule-each-own a D ds m G p A Ps z e made own j =
    rule-own-stop a D ds m G p A z e
    (λ x. own x.types 1 (subst (λ Qs. each_judged ds 1 G Qs [] ≡ all_conclude x.types) (sym (asked-made ds G p A Ps made x)) x.judges) x.concluded) j

pub rule-each-arm : (r : Result (Vec ℕ Global) ShapeError) (a b c : Found) (t : ShapeNumbers) (D : PlainDerivation) (ds : PlainDerivations) (m : ℕ) (G : List PlainType) (p : Tree)
    (A : PlainType) (Ps : List PremiseValue) (ks : List ℕ) → D ≡ rule ds → map premise_shown Ps ≡ bound_parts p →
    ((As : List PlainType) (n : ℕ) → each_judged ds n G (map premise_shown Ps) [] ≡ all_conclude As → Adds a b (PremiseHasPair ds (m + 1) G (map premise_shown Ps) []) NoPair) →
    judged D 0 G p ≡ concludes A → Extends b.numbers t → IsFound b →
    ((As : List PlainType) (n : ℕ) → each_judged ds n G (map premise_shown Ps) [] ≡ all_conclude As → conclusion G p As ≡ Some A → AreJust (all_shown t ks) A) →
    IsRecording r (record b { numbers = t }) c m (all_shown t ks) → IfOk r (λ v. v.items ≡ ks) → IfOk r (λ v. c.numbers ≡ t) → IsWalk r a c A (HasPair D m G p)
rule-each-arm r a b c t D ds m G p A Ps ks e made walk j more s just rec same numbers =
    rule-arm r a b c t D ds m G p A ks e j
    (λ x. let is = asked-made ds G p A Ps made x in
    subst (λ Qs. Adds a b (PremiseHasPair ds (m + 1) G Qs []) NoPair) is (walk x.types 1 (subst (λ Qs. each_judged ds 1 G Qs [] ≡ all_conclude x.types) (sym is) x.judges)))
    more s
    (λ x. just x.types 1 (subst (λ Qs. each_judged ds 1 G Qs [] ≡ all_conclude x.types) (sym (asked-made ds G p A Ps made x)) x.judges) x.concluded)
    rec same numbers
