-- What judging went through where it concludes, and that this doesn't depend on the numbers of the nodes.
use Rattle.std.proofs.Common.{ℕ, ◌+◌, ◌≡◌, Bool, true, false, eqb, eqb-true, if◌then◌else◌, nat_le, List, [], ◌∷◌, ◌++◌, length, replicate, Option, Some, None, refl, sym, ap, ◌∙◌, arith}
use Rattle.fy_types.specs.Types.{PlainType, arrow, meet}
use Rattle.fy_types.specs.Paths.{paths}
use Rattle.fy_types.specs.Reading.{types_from}
use Rattle.fy_phrase.specs.Tree.{Tree}
use Rattle.fy_derive.specs.Kinds.{Kind, none_begins}
use Rattle.fy_derive.specs.Derivations.{PlainDerivation, PlainDerivations, by_ns, sub, meets, alt, left, right, rule, no_derivations, and_derivation, count, nodes}
use Rattle.fy_derive.specs.Subsumption.{is_below}
use Rattle.fy_derive.specs.Rules.{nothing, Premise, premises, provided, conclusion}
use Rattle.fy_derive.specs.Judging.{Judged, concludes, stops, AllJudged, all_conclude, one_stops, then_judge, then_others, at_node, from_premises, if_form, if_count, alternative, operands, under, judged, each_judged}
use Rattle.fy_derive.proofs.SoundLemmas.{append-none, append-push}
pub use Rattle.fy_derive.proofs.SoundLemmas.{node-inner, premises-inner, some_same}

pub concluded_same : {A B : PlainType} → concludes A ≡ concludes B → A ≡ B
concluded_same e = cc

pub all_same_concluded : {As Bs : List PlainType} → all_conclude As ≡ all_conclude Bs → As ≡ Bs
all_same_concluded e = cc

-- ---- what judging went on with

pub provided-inner : (b : Bool) (A C : PlainType) → provided b A ≡ Some C → (b ≡ true) × (A ≡ C)
provided-inner true A C e = (refl, some_same e)
provided-inner false A C e = absurd cc

pub then-inner : (j : Judged) (f : PlainType → Judged) (A : PlainType) → then_judge j f ≡ concludes A →
    (B : PlainType) × (j ≡ concludes B) × (f B ≡ concludes A)
then-inner (concludes B) f A e = (B, refl, e)
then-inner (stops n) f A e = absurd cc

pub others-inner : (j : Judged) (f : PlainType → AllJudged) (As : List PlainType) → then_others j f ≡ all_conclude As →
    (B : PlainType) × (j ≡ concludes B) × (f B ≡ all_conclude As)
others-inner (concludes B) f As e = (B, refl, e)
others-inner (stops n) f As e = absurd cc

pub form-inner : {X : Type 0} (n : ℕ) (o : Option X) (f : X → Judged) (A : PlainType) → if_form n o f ≡ concludes A →
    (x : X) × (o ≡ Some x) × (f x ≡ concludes A)
form-inner n None f A e = absurd cc
form-inner n (Some x) f A e = (x, refl, e)

pub test-inner : (b : Bool) (j : Judged) (n : ℕ) (A : PlainType) → (if b then j else stops n) ≡ concludes A → (b ≡ true) × (j ≡ concludes A)
test-inner true j n A e = (refl, e)
test-inner false j n A e = absurd cc

pub count-inner : (n k : ℕ) (Ps : List Premise) (j : Judged) (A : PlainType) → if_count n k Ps j ≡ concludes A → (k ≡ length Ps) × (j ≡ concludes A)
count-inner n k Ps j A e = let x = test-inner (eqb k (length Ps)) j n A e in (eqb-true k (length Ps) x.0, x.1)

-- ---- other numbers

-- the second concludes what the first does
abbrev pub Keeps : Judged → Judged → Type 0
Keeps j i = (A : PlainType) → j ≡ concludes A → i ≡ concludes A

abbrev AllKeep : AllJudged → AllJudged → Type 0
AllKeep j i = (As : List PlainType) → j ≡ all_conclude As → i ≡ all_conclude As

then-keeps : (j i : Judged) (f g : PlainType → Judged) → Keeps j i → ((A : PlainType) → Keeps (f A) (g A)) → Keeps (then_judge j f) (then_judge i g)
then-keeps (concludes B) i f g h k A e = ap (λ x. then_judge x g) (h B refl) ∙ k B A e
then-keeps (stops n) i f g h k A e = absurd cc

others-keep : (j i : Judged) (f g : PlainType → AllJudged) → Keeps j i → ((A : PlainType) → AllKeep (f A) (g A)) →
    AllKeep (then_others j f) (then_others i g)
others-keep (concludes B) i f g h k As e = ap (λ x. then_others x g) (h B refl) ∙ k B As e
others-keep (stops n) i f g h k As e = absurd cc

node-keeps : (n m : ℕ) (o : Option PlainType) → Keeps (at_node n o) (at_node m o)
node-keeps n m None A e = absurd cc
node-keeps n m (Some B) A e = e

premises-keep : (n m : ℕ) (j i : AllJudged) (f : List PlainType → Option PlainType) → AllKeep j i → Keeps (from_premises n j f) (from_premises m i f)
premises-keep n m (all_conclude As) i f h A e = ap (λ x. from_premises m x f) (h As refl) ∙ node-keeps n m (f As) A e
premises-keep n m (one_stops k) i f h A e = absurd cc

form-keeps : {X : Type 0} (n m : ℕ) (o : Option X) (f g : X → Judged) → ((x : X) → Keeps (f x) (g x)) → Keeps (if_form n o f) (if_form m o g)
form-keeps n m None f g h A e = absurd cc
form-keeps n m (Some x) f g h A e = h x A e

test-keeps : (b : Bool) (n m : ℕ) (j i : Judged) → Keeps j i → Keeps (if b then j else stops n) (if b then i else stops m)
test-keeps true n m j i h A e = h A e
test-keeps false n m j i h A e = absurd cc

-- what stands behind the judging of a part
abbrev below : PlainType → ℕ → PlainType → Judged
below B n A = at_node n (provided (is_below A B) B)

abbrev meet_of_all : List PlainType → Option PlainType
meet_of_all As = Some (meet (types_from As))

abbrev to_arrow : PlainType → PlainType → Judged
to_arrow A C = concludes (arrow A C)

abbrev cleared : Kind → ℕ → PlainType → Judged
cleared k n A = at_node n (provided (none_begins k (paths A)) A)

mutual
  pub judged-keeps : (d : PlainDerivation) (n m : ℕ) (G : List PlainType) (p : Tree) → Keeps (judged d n G p) (judged d m G p)
  judged-keeps by_ns n m G p A e = e
  judged-keeps (sub B d) n m G p A e =
      then-keeps (judged d (n + 1) G p) (judged d (m + 1) G p) (below B n) (below B m) (judged-keeps d (n + 1) (m + 1) G p)
      (λ C. node-keeps n m (provided (is_below C B) B)) A e
  judged-keeps (meets ds) n m G p A e =
      let Ps : List Premise = replicate (count ds) (nothing, p) in
      test-keeps (nat_le 2 (count ds)) n m
      (from_premises n (each_judged ds (n + 1) G Ps []) meet_of_all) (from_premises m (each_judged ds (m + 1) G Ps []) meet_of_all)
      (premises-keep n m (each_judged ds (n + 1) G Ps []) (each_judged ds (m + 1) G Ps []) meet_of_all (each-keep ds (n + 1) (m + 1) G Ps [])) A e
  judged-keeps (alt i d) n m G p A e =
      form-keeps n m (alternative i p)
      (λ x. then_judge (judged d (n + 1) (x.0 ∷ G) x.1) (to_arrow x.0)) (λ x. then_judge (judged d (m + 1) (x.0 ∷ G) x.1) (to_arrow x.0))
      (λ x. then-keeps (judged d (n + 1) (x.0 ∷ G) x.1) (judged d (m + 1) (x.0 ∷ G) x.1) (to_arrow x.0) (to_arrow x.0)
      (judged-keeps d (n + 1) (m + 1) (x.0 ∷ G) x.1) (λ C B f. f)) A e
  judged-keeps (left d) n m G p A e =
      form-keeps n m (operands p)
      (λ x. then_judge (judged d (n + 1) G x.0) (cleared x.2 n)) (λ x. then_judge (judged d (m + 1) G x.0) (cleared x.2 m))
      (λ x. then-keeps (judged d (n + 1) G x.0) (judged d (m + 1) G x.0) (cleared x.2 n) (cleared x.2 m)
      (judged-keeps d (n + 1) (m + 1) G x.0) (λ C. node-keeps n m (provided (none_begins x.2 (paths C)) C))) A e
  judged-keeps (right d) n m G p A e =
      form-keeps n m (operands p) (λ x. judged d (n + 1) G x.1) (λ x. judged d (m + 1) G x.1) (λ x. judged-keeps d (n + 1) (m + 1) G x.1) A e
  judged-keeps (rule ds) n m G p A e =
      form-keeps n m (premises p)
      (λ Ps. if_count n (count ds) Ps (from_premises n (each_judged ds (n + 1) G Ps []) (conclusion G p)))
      (λ Ps. if_count m (count ds) Ps (from_premises m (each_judged ds (m + 1) G Ps []) (conclusion G p)))
      (λ Ps. test-keeps (eqb (count ds) (length Ps)) n m
      (from_premises n (each_judged ds (n + 1) G Ps []) (conclusion G p)) (from_premises m (each_judged ds (m + 1) G Ps []) (conclusion G p))
      (premises-keep n m (each_judged ds (n + 1) G Ps []) (each_judged ds (m + 1) G Ps []) (conclusion G p) (each-keep ds (n + 1) (m + 1) G Ps []))) A e

  each-keep : (ds : PlainDerivations) (n m : ℕ) (G : List PlainType) (Ps : List Premise) (As : List PlainType) →
      AllKeep (each_judged ds n G Ps As) (each_judged ds m G Ps As)
  each-keep no_derivations n m G Ps As Cs e = e
  each-keep (and_derivation d ds) n m G [] As Cs e = e
  each-keep (and_derivation d ds) n m G (P ∷ Ps) As Cs e =
      others-keep (judged d n (under P.0 As G) P.1) (judged d m (under P.0 As G) P.1)
      (λ A. each_judged ds (n + nodes d) G Ps (As ++ A ∷ [])) (λ A. each_judged ds (m + nodes d) G Ps (As ++ A ∷ []))
      (judged-keeps d n m (under P.0 As G) P.1) (λ A. each-keep ds (n + nodes d) (m + nodes d) G Ps (As ++ A ∷ [])) Cs e

-- ---- the premises of a rule

-- the derivations conclude these types for the premises, in the contexts that the types before them make
pub data ArePremisesJudged : PlainDerivations → List PlainType → List Premise → List PlainType → List PlainType → Type 0 where
  none_judged : {G As : List PlainType} → ArePremisesJudged no_derivations G [] As []
  and_judged : {d : PlainDerivation} {ds : PlainDerivations} {G As Bs : List PlainType} {P : Premise} {Ps : List Premise} {B : PlainType} →
      judged d 0 (under P.0 As G) P.1 ≡ concludes B → ArePremisesJudged ds G Ps (As ++ B ∷ []) Bs →
      ArePremisesJudged (and_derivation d ds) G (P ∷ Ps) As (B ∷ Bs)

each-inner : (ds : PlainDerivations) (n : ℕ) (G : List PlainType) (Ps : List Premise) (As Cs : List PlainType) → count ds ≡ length Ps →
    each_judged ds n G Ps As ≡ all_conclude Cs → (Bs : List PlainType) × (Cs ≡ As ++ Bs) × ArePremisesJudged ds G Ps As Bs
each-inner no_derivations n G [] As Cs l e = ([], sym (all_same_concluded e) ∙ sym (append-none As), none_judged)
each-inner no_derivations n G (P ∷ Ps) As Cs l e = absurd (omega arith)
each-inner (and_derivation d ds) n G [] As Cs l e = absurd (omega arith)
each-inner (and_derivation d ds) n G (P ∷ Ps) As Cs l e =
    let x = others-inner (judged d n (under P.0 As G) P.1) (λ A. each_judged ds (n + nodes d) G Ps (As ++ A ∷ [])) Cs e in
    let y = each-inner ds (n + nodes d) G Ps (As ++ x.0 ∷ []) Cs (omega arith) x.2 in
    (x.0 ∷ y.0, y.1 ∙ append-push As y.0 x.0, and_judged (judged-keeps d n 0 (under P.0 As G) P.1 x.0 x.1) y.2)

-- the rule of a form: what its premises conclude, and it from them
pub rule-inner : (ds : PlainDerivations) (G : List PlainType) (p : Tree) (A : PlainType) → judged (rule ds) 0 G p ≡ concludes A →
    (Ps : List Premise) × (Bs : List PlainType) × (premises p ≡ Some Ps) × ArePremisesJudged ds G Ps [] Bs × (conclusion G p Bs ≡ Some A)
rule-inner ds G p A e =
    let x = form-inner 0 (premises p) (λ Ps. if_count 0 (count ds) Ps (from_premises 0 (each_judged ds 1 G Ps []) (conclusion G p))) A e in
    let y = count-inner 0 (count ds) x.0 (from_premises 0 (each_judged ds 1 G x.0 []) (conclusion G p)) A x.2 in
    let z = premises-inner 0 (each_judged ds 1 G x.0 []) (conclusion G p) A y.1 in
    let w = each-inner ds 1 G x.0 [] z.0 y.0 z.1 in
    (x.0, w.0, x.1, w.2, ap (conclusion G p) (sym w.1) ∙ z.2)

-- an abstraction's alternative, the operands of a merge, and subsumption, each by what was concluded below
pub alt-inner : (i : ℕ) (d : PlainDerivation) (G : List PlainType) (p : Tree) (A : PlainType) → judged (alt i d) 0 G p ≡ concludes A →
    (x : PlainType × Tree) × (C : PlainType) × (alternative i p ≡ Some x) × (judged d 0 (x.0 ∷ G) x.1 ≡ concludes C) × (arrow x.0 C ≡ A)
alt-inner i d G p A e =
    let x = form-inner 0 (alternative i p) (λ x. then_judge (judged d 1 (x.0 ∷ G) x.1) (to_arrow x.0)) A e in
    let y = then-inner (judged d 1 (x.0.0 ∷ G) x.0.1) (to_arrow x.0.0) A x.2 in
    (x.0, y.0, x.1, judged-keeps d 1 0 (x.0.0 ∷ G) x.0.1 y.0 y.1, concluded_same y.2)

pub left-inner : (d : PlainDerivation) (G : List PlainType) (p : Tree) (A : PlainType) → judged (left d) 0 G p ≡ concludes A →
    (x : Tree × Tree × Kind) × (operands p ≡ Some x) × (judged d 0 G x.0 ≡ concludes A) × (none_begins x.2 (paths A) ≡ true)
left-inner d G p A e =
    let x = form-inner 0 (operands p) (λ x. then_judge (judged d 1 G x.0) (cleared x.2 0)) A e in
    let y = then-inner (judged d 1 G x.0.0) (cleared x.0.2 0) A x.2 in
    let z = provided-inner (none_begins x.0.2 (paths y.0)) y.0 A (node-inner 0 (provided (none_begins x.0.2 (paths y.0)) y.0) A y.2) in
    (x.0, x.1, judged-keeps d 1 0 G x.0.0 y.0 y.1 ∙ ap concludes z.1, ap (λ B. none_begins x.0.2 (paths B)) (sym z.1) ∙ z.0)

pub right-inner : (d : PlainDerivation) (G : List PlainType) (p : Tree) (A : PlainType) → judged (right d) 0 G p ≡ concludes A →
    (x : Tree × Tree × Kind) × (operands p ≡ Some x) × (judged d 0 G x.1 ≡ concludes A)
right-inner d G p A e =
    let x = form-inner 0 (operands p) (λ x. judged d 1 G x.1) A e in
    (x.0, x.1, judged-keeps d 1 0 G x.0.1 A x.2)

pub sub-inner : (B : PlainType) (d : PlainDerivation) (G : List PlainType) (p : Tree) (A : PlainType) → judged (sub B d) 0 G p ≡ concludes A →
    (C : PlainType) × (judged d 0 G p ≡ concludes C) × (is_below C A ≡ true)
sub-inner B d G p A e =
    let x = then-inner (judged d 1 G p) (below B 0) A e in
    let y = provided-inner (is_below x.0 B) B A (node-inner 0 (provided (is_below x.0 B) B) A x.2) in
    (x.0, judged-keeps d 1 0 G p x.0 x.1, ap (is_below x.0) (sym y.1) ∙ y.0)

pub meets-inner : (ds : PlainDerivations) (G : List PlainType) (p : Tree) (A : PlainType) → judged (meets ds) 0 G p ≡ concludes A →
    (Bs : List PlainType) × (each_judged ds 1 G (replicate (count ds) (nothing, p)) [] ≡ all_conclude Bs) × (meet (types_from Bs) ≡ A)
meets-inner ds G p A e =
    let Ps : List Premise = replicate (count ds) (nothing, p) in
    let x = test-inner (nat_le 2 (count ds)) (from_premises 0 (each_judged ds 1 G Ps []) meet_of_all) 0 A e in
    let y = premises-inner 0 (each_judged ds 1 G Ps []) meet_of_all A x.1 in
    (y.0, y.1, some_same y.2)
