-- Walking a derivation, node by node.
use Rattle.std.proofs.Common.{ℕ, suc, ◌+◌, ◌<◌, ◌≡◌, ◌⊎◌, List, [], ◌∷◌, ◌++◌, length, get_or, map, drop, replicate, Result, Vec, Global, Box, IfOk, sym, ap, ◌∙◌, subst, arith}
use Rattle.std.specs.List.{Contains}
use Rattle.fy_types.specs.declared.types.Ty.{Ty}
use Rattle.fy_types.proofs.Steps.{drop_item}
use Rattle.fy_types.specs.Types.{PlainType, meet, no_types}
use Rattle.pe_shapes.proofs.ShapeLemmas.{AreJust-no_meet}
use Rattle.fy_types.specs.Reading.{plain_type, types_from}
use Rattle.fy_phrase.specs.Tree.{Tree}
use Rattle.fy_phrase.specs.Sizes.{nodes}
use Rattle.fy_derive.specs.declared.derivation.Derivation as form
use Rattle.fy_derive.specs.declared.derivation.Derivation.{Derivation, Derivation-F, fold-roll-Derivation}
use Rattle.fy_derive.specs.declared.derivation.Derivation.TheVariants.{rolls-Ns, rolls-Sub, rolls-Meet, rolls-Left, rolls-Right, rolls-Rule}
use Rattle.fy_derive.specs.declared.derivation.DerivationList.{DerivationList}
use Rattle.fy_derive.specs.Derivations.{PlainDerivation, PlainDerivations, by_ns, sub, meets, alt, left, right, rule, no_derivations, and_derivation, count, nodes as derivation_nodes}
use Rattle.fy_derive.specs.Reading.{plain_derivation, plain_derivations, derivations_from, derivation_step, derivations_step}
use Rattle.fy_derive.specs.Rules.{nothing, Premise}
use Rattle.fy_derive.specs.Judging.{concludes, all_conclude, judged, each_judged, under}
use Rattle.fy_derive.specs.Shapes.{PlainShape, HasPair, OneHasPair, this_one, other_one, PremiseHasPair, this_premise, later_premise}
use Rattle.fy_derive.proofs.StepLemmas.{Alt-derivation}
use Rattle.pe_shapes.specs.declared.error.ShapeError.{ShapeError}
use Rattle.fy_phrase.specs.declared.premise.Premise.{Premise as PremiseValue}
use Rattle.fy_phrase.specs.Premises.{premise_shown}
use Rattle.pe_shapes.specs.declared.found.Found.{Found}
use Rattle.pe_shapes.specs.declared.numbers.ShapeNumbers.{ShapeNumbers}
use Rattle.pe_shapes.specs.Finding.{IsFound, Adds, NoPair, IsWalkStop, IsRecording, IsWalk}
use Rattle.pe_shapes.specs.Shown.{all_shown, Extends, AreIn, AreAllIn}
use Rattle.pe_shapes.specs.Standing.{AreJust, AreShapesOfEach}
use Rattle.pe_shapes.proofs.FoundLemmas.{Adds-none, Adds-step, Adds-inside, Adds-numbers, stop-inside, recorded}
use Rattle.pe_shapes.proofs.JudgedLemmas.{all_same_concluded, others-inner, judged-keeps}
use Rattle.pe_shapes.proofs.PairLemmas.{IsOwn, own-pair, no_one, one-pair, no_premise, premise-pair}
use Rattle.pe_shapes.proofs.Standings.{AreJust-kept, AreJust-added, AreShapesOfEach-kept, AreShapesOfEach-none, AreShapesOfEach-push}

-- ---- derivations by their forms

pub Ns-derivation : (d : Derivation) → d ≡ form.Ns → plain_derivation d ≡ by_ns
Ns-derivation d e = rw e (ap plain_derivation (sym rolls-Ns) ∙ fold-roll-Derivation PlainDerivation PlainDerivations derivation_step derivations_step Derivation-F.Ns)

pub Sub-derivation : (d : Derivation) (T : Ty) (b : Box Derivation Global) → d ≡ form.Sub T b → plain_derivation d ≡ sub (plain_type T) (plain_derivation b.value)
Sub-derivation d T b e = rw e (ap plain_derivation (sym (rolls-Sub T b)) ∙ fold-roll-Derivation PlainDerivation PlainDerivations derivation_step derivations_step (Derivation-F.Sub T b))

pub Meet-derivation : (d : Derivation) (l : DerivationList) → d ≡ form.Meet l → plain_derivation d ≡ meets (plain_derivations l)
Meet-derivation d l e = rw e (ap plain_derivation (sym (rolls-Meet l)) ∙ fold-roll-Derivation PlainDerivation PlainDerivations derivation_step derivations_step (Derivation-F.Meet l))

pub Left-derivation : (d : Derivation) (b : Box Derivation Global) → d ≡ form.Left b → plain_derivation d ≡ left (plain_derivation b.value)
Left-derivation d b e = rw e (ap plain_derivation (sym (rolls-Left b)) ∙ fold-roll-Derivation PlainDerivation PlainDerivations derivation_step derivations_step (Derivation-F.Left b))

pub Right-derivation : (d : Derivation) (b : Box Derivation Global) → d ≡ form.Right b → plain_derivation d ≡ right (plain_derivation b.value)
Right-derivation d b e = rw e (ap plain_derivation (sym (rolls-Right b)) ∙ fold-roll-Derivation PlainDerivation PlainDerivations derivation_step derivations_step (Derivation-F.Right b))

pub Rule-derivation : (d : Derivation) (l : DerivationList) → d ≡ form.Rule l → plain_derivation d ≡ rule (plain_derivations l)
Rule-derivation d l e = rw e (ap plain_derivation (sym (rolls-Rule l)) ∙ fold-roll-Derivation PlainDerivation PlainDerivations derivation_step derivations_step (Derivation-F.Rule l))

pub Sub-read : (d x : Derivation) (T : Ty) (b : Box Derivation Global) → d ≡ form.Sub T b → x ≡ b.value → plain_derivation d ≡ sub (plain_type T) (plain_derivation x)
Sub-read d x T b e f = Sub-derivation d T b e ∙ ap (λ y. sub (plain_type T) (plain_derivation y)) (sym f)

pub Alt-read : (d x : Derivation) (i : ℕ) (b : Box Derivation Global) → d ≡ form.Alt i b → x ≡ b.value → plain_derivation d ≡ alt i (plain_derivation x)
Alt-read d x i b e f = Alt-derivation d i b e ∙ ap (λ y. alt i (plain_derivation y)) (sym f)

pub Left-read : (d x : Derivation) (b : Box Derivation Global) → d ≡ form.Left b → x ≡ b.value → plain_derivation d ≡ left (plain_derivation x)
Left-read d x b e f = Left-derivation d b e ∙ ap (λ y. left (plain_derivation y)) (sym f)

pub Right-read : (d x : Derivation) (b : Box Derivation Global) → d ≡ form.Right b → x ≡ b.value → plain_derivation d ≡ right (plain_derivation x)
Right-read d x b e f = Right-derivation d b e ∙ ap (λ y. right (plain_derivation y)) (sym f)

-- ---- a node whose own shapes are recorded last

pub node-walked : (r : Result (Vec ℕ Global) ShapeError) (a b c : Found) (t : ShapeNumbers) (D : PlainDerivation) (m : ℕ) (G : List PlainType) (p : Tree) (A : PlainType)
    (Q : ℕ → PlainShape → Type 0) (ks : List ℕ) → Adds a b Q NoPair → ((k : ℕ) (s : PlainShape) → Q k s → HasPair D m G p k s) →
    ((k : ℕ) (s : PlainShape) → HasPair D m G p k s → Q k s ⊎ IsOwn m A k s) → judged D 0 G p ≡ concludes A →
    Extends b.numbers t → IsFound b → AreJust (all_shown t ks) A → IsRecording r (record b { numbers = t }) c m (all_shown t ks) →
    IfOk r (λ v. v.items ≡ ks) → IfOk r (λ v. c.numbers ≡ t) → IsWalk r a c A (HasPair D m G p)
node-walked r a b c t D m G p A Q ks h inside rest e more s j rec same numbers =
    recorded r a (record b { numbers = t }) c A (HasPair D m G p) m ks
    (Adds-numbers t (Adds-inside (HasPair D m G p) (IsOwn m A) h inside rest) more s) j (own-pair e) rec same numbers

-- ---- the derivations of one phrase

-- the conclusions so far have these shapes, and the pairs that are left are those of the derivations that are left
pub record AreWalkedSo (a b : Found) (ds : PlainDerivations) (m : ℕ) (G : List PlainType) (p : Tree) (As : List PlainType)
    (whole : ℕ → PlainShape → Type 0) (met : List ℕ) : Type 0 where
  pub so_far : List PlainType
  pub number : ℕ
  pub judges : each_judged ds number G (replicate (count ds) (nothing, p)) so_far ≡ all_conclude As
  pub shapes : AreJust (all_shown b.numbers met) (meet (types_from so_far))
  pub adds : Adds a b whole (OneHasPair ds m G p)
  pub inside : (k : ℕ) (s : PlainShape) → OneHasPair ds m G p k s → whole k s

pub record WalksNext (d : PlainDerivation) (ds : PlainDerivations) (G : List PlainType) (p : Tree) (n : ℕ) (so_far As : List PlainType) : Type 0 where
  pub concluded : PlainType
  pub judges : judged d 0 G p ≡ concludes concluded
  pub others : each_judged ds (n + derivation_nodes d) G (replicate (count ds) (nothing, p)) (so_far ++ concluded ∷ []) ≡ all_conclude As

pub walks-next : (d : PlainDerivation) (ds : PlainDerivations) (G : List PlainType) (p : Tree) (n : ℕ) (so_far As : List PlainType) →
    each_judged (and_derivation d ds) n G (replicate (count (and_derivation d ds)) (nothing, p)) so_far ≡ all_conclude As → WalksNext d ds G p n so_far As
walks-next d ds G p n so_far As e =
    let one_more : suc (count ds) ≡ 1 + count ds = omega arith in
    let f : each_judged (and_derivation d ds) n G ((nothing, p) ∷ replicate (count ds) (nothing, p)) so_far ≡ all_conclude As =
    ap (λ k. each_judged (and_derivation d ds) n G (replicate k (nothing, p)) so_far) one_more ∙ e in
    let x = others-inner (judged d n G p) (λ A. each_judged ds (n + derivation_nodes d) G (replicate (count ds) (nothing, p)) (so_far ++ A ∷ [])) As f in
    record { concluded = x.0; judges = judged-keeps d n 0 G p x.0 x.1; others = x.2 }

pub all-walked-next : (a b c : Found) (d : PlainDerivation) (ds : PlainDerivations) (m : ℕ) (G : List PlainType) (p : Tree) (As : List PlainType)
    (whole : ℕ → PlainShape → Type 0) (met set now : List ℕ) → (w : AreWalkedSo a b (and_derivation d ds) m G p As whole met) →
    ((A : PlainType) → judged d 0 G p ≡ concludes A → AreJust (all_shown c.numbers set) A × Adds b c (HasPair d m G p) NoPair) →
    Extends b.numbers c.numbers → AreIn b.numbers met →
    ((k : ℕ) → Contains met k → Contains now k) → ((k : ℕ) → Contains set k → Contains now k) → ((k : ℕ) → Contains now k → Contains met k ⊎ Contains set k) →
    AreWalkedSo a c ds m G p As whole now
all-walked-next a b c d ds m G p As whole met set now w walk more known left_in right_in from =
    let x = walks-next d ds G p w.number w.so_far As w.judges in
    let y = walk x.concluded x.judges in
    record {
      so_far = w.so_far ++ x.concluded ∷ [];
      number = w.number + derivation_nodes d;
      judges = x.others;
      shapes = AreJust-added c.numbers met set now w.so_far x.concluded (AreJust-kept met more known w.shapes) y.0 left_in right_in from;
      adds = Adds-step w.adds y.1 (λ k s z. w.inside k s (this_one z)) (λ k s z. one-pair z);
      inside = λ k s z. w.inside k s (other_one z);
    }

pub all-walked-stop : (a b : Found) (d : PlainDerivation) (ds : PlainDerivations) (m : ℕ) (G : List PlainType) (p : Tree) (As : List PlainType)
    (whole : ℕ → PlainShape → Type 0) (met : List ℕ) (e : ShapeError) → (w : AreWalkedSo a b (and_derivation d ds) m G p As whole met) →
    ((A : PlainType) → judged d 0 G p ≡ concludes A → IsWalkStop e b (HasPair d m G p)) → IsWalkStop e a whole
all-walked-stop a b d ds m G p As whole met e w walk =
    let x = walks-next d ds G p w.number w.so_far As w.judges in
    stop-inside e w.adds (λ k s z. w.inside k s (this_one z)) (walk x.concluded x.judges)

pub all-walked-end : (a b : Found) (m : ℕ) (G : List PlainType) (p : Tree) (As : List PlainType) (whole : ℕ → PlainShape → Type 0) (met : List ℕ) →
    AreWalkedSo a b no_derivations m G p As whole met → AreJust (all_shown b.numbers met) (meet (types_from As)) × Adds a b whole NoPair
all-walked-end a b m G p As whole met w = (
  subst (λ Bs. AreJust (all_shown b.numbers met) (meet (types_from Bs))) (all_same_concluded w.judges) w.shapes,
  Adds-step w.adds (Adds-none b NoPair) (λ k s z. absurd z) (λ k s z. absurd (no_one z)),
)

pub all-walked-init : (a : Found) (ds : PlainDerivations) (m : ℕ) (G : List PlainType) (p : Tree) (As : List PlainType) (n : ℕ) (met : List ℕ) → met ≡ [] →
    each_judged ds n G (replicate (count ds) (nothing, p)) [] ≡ all_conclude As → AreWalkedSo a a ds m G p As (OneHasPair ds m G p) met
all-walked-init a ds m G p As n met none e = record {
  so_far = [];
  number = n;
  judges = e;
  shapes = subst (λ ks. AreJust (all_shown a.numbers ks) (meet no_types)) (sym none) AreJust-no_meet;
  adds = Adds-none a (OneHasPair ds m G p);
  inside = λ k s z. z;
}

-- ---- the premises of a rule

pub record ArePremisesWalkedSo (a b : Found) (ds : PlainDerivations) (m : ℕ) (G : List PlainType) (Ps : List Premise) (As : List PlainType)
    (whole : ℕ → PlainShape → Type 0) (sets : List (List ℕ)) : Type 0 where
  pub so_far : List PlainType
  pub number : ℕ
  pub judges : each_judged ds number G Ps so_far ≡ all_conclude As
  pub shapes : AreShapesOfEach b.numbers sets so_far
  pub adds : Adds a b whole (PremiseHasPair ds m G Ps so_far)
  pub inside : (k : ℕ) (s : PlainShape) → PremiseHasPair ds m G Ps so_far k s → whole k s

pub premises-walked-init : (a : Found) (ds : PlainDerivations) (m : ℕ) (G : List PlainType) (Ps : List Premise) (As : List PlainType) (n : ℕ) (sets : List (List ℕ)) → sets ≡ [] →
    each_judged ds n G Ps [] ≡ all_conclude As → ArePremisesWalkedSo a a ds m G Ps As (PremiseHasPair ds m G Ps []) sets
premises-walked-init a ds m G Ps As n sets none e = record {
  so_far = [];
  number = n;
  judges = e;
  shapes = subst (λ ss. AreShapesOfEach a.numbers ss []) (sym none) (AreShapesOfEach-none a.numbers);
  adds = Adds-none a (PremiseHasPair ds m G Ps []);
  inside = λ k s z. z;
}

-- with the next derivation and the next part in front
pub premises-at : (a b : Found) (items : List Derivation) (Qs : List PremiseValue) (i : ℕ) (x : Derivation) (P : PremiseValue) (m : ℕ) (G As : List PlainType)
    (whole : ℕ → PlainShape → Type 0) (sets : List (List ℕ)) → i < length items → x ≡ get_or items i x → i < length Qs → P ≡ get_or Qs i P →
    ArePremisesWalkedSo a b (derivations_from (map plain_derivation (drop i items))) m G (map premise_shown (drop i Qs)) As whole sets →
    ArePremisesWalkedSo a b (and_derivation (plain_derivation x) (derivations_from (map plain_derivation (drop (i + 1) items)))) m G (premise_shown P ∷ map premise_shown (drop (i + 1) Qs)) As whole sets
premises-at a b items Qs i x P m G As whole sets h e k f w =
    subst (λ Ps. ArePremisesWalkedSo a b (derivations_from (plain_derivation x ∷ map plain_derivation (drop (i + 1) items))) m G Ps As whole sets) (drop_item premise_shown Qs i P k f)
    (subst (λ ds. ArePremisesWalkedSo a b (derivations_from ds) m G (map premise_shown (drop i Qs)) As whole sets) (drop_item plain_derivation items i x h e) w)

pub record PremiseNext (d : PlainDerivation) (ds : PlainDerivations) (G : List PlainType) (P : Premise) (Ps : List Premise) (n : ℕ) (so_far As : List PlainType) : Type 0 where
  pub concluded : PlainType
  pub judges : judged d 0 (under P.0 so_far G) P.1 ≡ concludes concluded
  pub others : each_judged ds (n + derivation_nodes d) G Ps (so_far ++ concluded ∷ []) ≡ all_conclude As

pub premise-next : (d : PlainDerivation) (ds : PlainDerivations) (G : List PlainType) (P : Premise) (Ps : List Premise) (n : ℕ) (so_far As : List PlainType) →
    each_judged (and_derivation d ds) n G (P ∷ Ps) so_far ≡ all_conclude As → PremiseNext d ds G P Ps n so_far As
premise-next d ds G P Ps n so_far As e =
    let x = others-inner (judged d n (under P.0 so_far G) P.1) (λ A. each_judged ds (n + derivation_nodes d) G Ps (so_far ++ A ∷ [])) As e in
    record { concluded = x.0; judges = judged-keeps d n 0 (under P.0 so_far G) P.1 x.0 x.1; others = x.2 }

pub premise-walked-next : (a b c : Found) (d : PlainDerivation) (ds : PlainDerivations) (m : ℕ) (G : List PlainType) (P : Premise) (Ps : List Premise) (As : List PlainType)
    (whole : ℕ → PlainShape → Type 0) (sets : List (List ℕ)) (set : List ℕ) → (w : ArePremisesWalkedSo a b (and_derivation d ds) m G (P ∷ Ps) As whole sets) →
    ((A : PlainType) → judged d 0 (under P.0 w.so_far G) P.1 ≡ concludes A → AreJust (all_shown c.numbers set) A × Adds b c (HasPair d m (under P.0 w.so_far G) P.1) NoPair) →
    Extends b.numbers c.numbers → AreAllIn b.numbers sets → ArePremisesWalkedSo a c ds (m + nodes P.1) G Ps As whole (sets ++ set ∷ [])
premise-walked-next a b c d ds m G P Ps As whole sets set w walk more known =
    let x = premise-next d ds G P Ps w.number w.so_far As w.judges in
    let y = walk x.concluded x.judges in
    record {
      so_far = w.so_far ++ x.concluded ∷ [];
      number = w.number + derivation_nodes d;
      judges = x.others;
      shapes = AreShapesOfEach-push set x.concluded (AreShapesOfEach-kept more known w.shapes) y.0;
      adds = Adds-step w.adds y.1 (λ k s z. w.inside k s (this_premise z)) (λ k s z. premise-pair x.judges z);
      inside = λ k s z. w.inside k s (later_premise x.judges z);
    }

pub premise-walked-stop : (a b : Found) (d : PlainDerivation) (ds : PlainDerivations) (m : ℕ) (G : List PlainType) (P : Premise) (Ps : List Premise) (As : List PlainType)
    (whole : ℕ → PlainShape → Type 0) (sets : List (List ℕ)) (e : ShapeError) → (w : ArePremisesWalkedSo a b (and_derivation d ds) m G (P ∷ Ps) As whole sets) →
    ((A : PlainType) → judged d 0 (under P.0 w.so_far G) P.1 ≡ concludes A → IsWalkStop e b (HasPair d m (under P.0 w.so_far G) P.1)) → IsWalkStop e a whole
premise-walked-stop a b d ds m G P Ps As whole sets e w walk =
    let x = premise-next d ds G P Ps w.number w.so_far As w.judges in
    stop-inside e w.adds (λ k s z. w.inside k s (this_premise z)) (walk x.concluded x.judges)

pub premises-walked-end : (a b : Found) (m : ℕ) (G : List PlainType) (Ps : List Premise) (As : List PlainType) (whole : ℕ → PlainShape → Type 0) (sets : List (List ℕ)) →
    ArePremisesWalkedSo a b no_derivations m G Ps As whole sets → AreShapesOfEach b.numbers sets As × Adds a b whole NoPair
premises-walked-end a b m G Ps As whole sets w = (
  subst (AreShapesOfEach b.numbers sets) (all_same_concluded w.judges) w.shapes,
  Adds-step w.adds (Adds-none b NoPair) (λ k s z. absurd z) (λ k s z. absurd (no_premise z)),
)
