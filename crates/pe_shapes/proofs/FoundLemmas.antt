-- What has been found grows.
use Rattle.std.proofs.Common.{ℕ, ◌≡◌, ◌⊎◌, inl, inr, List, slice_get, Result, Ok, Err, Vec, Global, IfOk, sym, ap, ◌∙◌, subst, arith}
use Rattle.std.specs.List.{Contains}
use Rattle.fy_types.specs.Types.{PlainType}
use Rattle.fy_derive.specs.Shapes.{PlainShape}
use Rattle.pe_shapes.specs.declared.error.ShapeError.{ShapeError}
use Rattle.pe_shapes.specs.declared.found.Found.{Found}
use Rattle.pe_shapes.specs.declared.numbers.ShapeNumbers.{ShapeNumbers}
use Rattle.pe_shapes.specs.Finding.{used_shapes, pair_of, IsFound, IsSeen, Adds, NoPair, IsWalkStop, IsRecording, IsWalk, Stays}
use Rattle.pe_shapes.specs.Shown.{all_shown, Extends, AreIn}
use Rattle.pe_shapes.specs.Standing.{HasShape, AreJust, IsStop}
use Rattle.pe_shapes.proofs.Members.{Contains-at, place_of}
use Rattle.pe_shapes.proofs.PairLemmas.{IsOwn}
use Rattle.pe_shapes.proofs.ShapeLemmas.{IsStop-weaker}
use Rattle.pe_shapes.proofs.Standings.{Extends-itself, Extends-trans, AreIn-kept, all_shown-kept}

pub Adds-none : (f : Found) (P : ℕ → PlainShape → Type 0) → Adds f f P P
Adds-none f P = record {
  extends = Extends-itself f.numbers;
  places = λ n s e. e;
  kept = λ p h. h;
  fuller = omega arith;
  used = λ s h. inl h;
  known = λ k s h. inl h;
  seen = λ k s h. inr h;
}

used-kept : {a b : Found} {P L : ℕ → PlainShape → Type 0} → Adds a b P L → (s : PlainShape) → Contains (used_shapes a) s → Contains (used_shapes b) s
used-kept {a = a} {b = b} h s c = let r = place_of (used_shapes a) s c in Contains-at (used_shapes b) r.0 s (h.places r.0 s r.1)

IsSeen-kept : {a b : Found} {P L : ℕ → PlainShape → Type 0} → Adds a b P L → (k : ℕ) (s : PlainShape) → IsSeen a k s → IsSeen b k s
IsSeen-kept {a = a} {b = b} h k s x = record {
  used = used-kept h s x.used;
  recorded = elim x.recorded [
    | inl r ↦ inl (record { place = r.place; shape = h.places r.place s r.shape; pair = h.kept (pair_of k r.place) r.pair })
    | inr f ↦ inr (record { more = omega (arith, f.more, h.fuller) })
  ];
}

-- one step more: of what was left, the pairs Q are found now
pub Adds-step : {a b c : Found} {P L Q M : ℕ → PlainShape → Type 0} → Adds a b P L → Adds b c Q NoPair →
    ((k : ℕ) (s : PlainShape) → Q k s → P k s) → ((k : ℕ) (s : PlainShape) → L k s → Q k s ⊎ M k s) → Adds a c P M
Adds-step h g inside rest = record {
  extends = Extends-trans h.extends g.extends;
  places = λ n s e. g.places n s (h.places n s e);
  kept = λ p x. g.kept p (h.kept p x);
  fuller = omega (arith, h.fuller, g.fuller);
  used = λ s x. elim (g.used s x) [ inl y ↦ h.used s y | inr y ↦ inr (y.0, inside y.0 s y.1) ];
  known = λ k s x. elim (g.known k s x) [ inl y ↦ h.known k s y | inr y ↦ inr (inside k s y) ];
  seen = λ k s x. elim (h.seen k s x) [
    | inl y ↦ inl (IsSeen-kept g k s y)
    | inr y ↦ elim (rest k s y) [
      | inl q ↦ elim (g.seen k s q) [ inl z ↦ inl z | inr z ↦ absurd z ]
      | inr m ↦ inr m
    ]
  ];
}

-- the same pairs found, of more
pub Adds-inside : {a b : Found} {Q : ℕ → PlainShape → Type 0} (P M : ℕ → PlainShape → Type 0) → Adds a b Q NoPair →
    ((k : ℕ) (s : PlainShape) → Q k s → P k s) → ((k : ℕ) (s : PlainShape) → P k s → Q k s ⊎ M k s) → Adds a b P M
Adds-inside {a = a} P M h inside rest = Adds-step (Adds-none a P) h inside rest

-- a table of shapes that grew

pub Adds-renumbered : (f : Found) (t : ShapeNumbers) → Extends f.numbers t → AreIn f.numbers f.used.keys → Adds f (record f { numbers = t }) NoPair NoPair
Adds-renumbered f t e h = record {
  extends = e;
  places = λ n s g. ap (λ S. slice_get S n) same ∙ g;
  kept = λ p x. x;
  fuller = omega arith;
  used = λ s x. inl (subst (λ S. Contains S s) same x);
  known = λ k s r. inl (record { place = r.place; shape = ap (λ S. slice_get S r.place) (sym same) ∙ r.shape; pair = r.pair });
  seen = λ k s x. absurd x;
}
  where
    same : all_shown t f.used.keys ≡ used_shapes f
    same = all_shown-kept f.used.keys e h

pub Adds-numbers : {a b : Found} {P L : ℕ → PlainShape → Type 0} (t : ShapeNumbers) → Adds a b P L → Extends b.numbers t → IsFound b → Adds a (record b { numbers = t }) P L
Adds-numbers {b = b} t h e s = Adds-step h (Adds-renumbered b t e s.used_in) (λ k s x. absurd x) (λ k s x. inr x)

pub IsFound-numbers : (f : Found) (t : ShapeNumbers) → IsFound f → Extends f.numbers t → IsFound (record f { numbers = t })
IsFound-numbers f t s e = record {
  used_in = AreIn-kept e s.used_in;
  used_once = s.used_once;
  few = s.few;
  pairs_in = s.pairs_in;
  pairs_once = s.pairs_once;
  few_pairs = s.few_pairs;
}

-- ---- stops

pub stop-inside : {a b : Found} {P L Q : ℕ → PlainShape → Type 0} (e : ShapeError) → Adds a b P L → ((k : ℕ) (s : PlainShape) → Q k s → P k s) →
    IsWalkStop e b Q → IsWalkStop e a P
stop-inside {a = a} {b = b} {P = P} {Q = Q} e h inside x =
    IsStop-weaker e (λ s. Contains (used_shapes b) s ⊎ ((k : ℕ) × Q k s)) (λ s. Contains (used_shapes a) s ⊎ ((k : ℕ) × P k s))
    (λ s y. elim y [ inl u ↦ h.used s u | inr q ↦ inr (q.0, inside q.0 s q.1) ]) x

-- a type with too many shapes, which is concluded
pub stop-own : (a : Found) (P : ℕ → PlainShape → Type 0) (m : ℕ) (A : PlainType) (e : ShapeError) → ((s : PlainShape) → HasShape A s → P m s) →
    IsStop e (HasShape A) → IsWalkStop e a P
stop-own a P m A e inside x =
    IsStop-weaker e (HasShape A) (λ s. Contains (used_shapes a) s ⊎ ((k : ℕ) × P k s)) (λ s h. inr (m, inside s h)) x

-- ---- a node's own shapes are recorded last

recorded-now : (r : Result (Vec ℕ Global) ShapeError) (a b c : Found) (A : PlainType) (P : ℕ → PlainShape → Type 0) (m : ℕ) (ks : List ℕ) →
    Adds a b P (IsOwn m A) → AreJust (all_shown b.numbers ks) A → ((s : PlainShape) → HasShape A s → P m s) →
    IsRecording r b c m (all_shown b.numbers ks) → IfOk r (λ v. all_shown c.numbers v.items ≡ all_shown b.numbers ks) → IsWalk r a c A P
recorded-now (Ok v) a b c A P m ks h j inside rec same = (
  subst (λ S. AreJust S A) (sym same) j,
  Adds-step h rec
      (λ k s x. subst (λ n. P n s) (sym x.0) (inside s (j.known s x.1)))
      (λ k s x. inl (x.node, j.has s x.shape)),
)
recorded-now (Err e) a b c A P m ks h j inside rec same =
    stop-inside e h (λ k s x. subst (λ n. P n s) (sym x.0) (inside s (j.known s x.1))) rec

pub recorded : (r : Result (Vec ℕ Global) ShapeError) (a b c : Found) (A : PlainType) (P : ℕ → PlainShape → Type 0) (m : ℕ) (ks : List ℕ) →
    Adds a b P (IsOwn m A) → AreJust (all_shown b.numbers ks) A → ((s : PlainShape) → HasShape A s → P m s) →
    IsRecording r b c m (all_shown b.numbers ks) → IfOk r (λ v. v.items ≡ ks) → IfOk r (λ v. c.numbers ≡ b.numbers) → IsWalk r a c A P
recorded (Ok v) a b c A P m ks h j inside rec same numbers =
    recorded-now (Ok v) a b c A P m ks h j inside rec (ap (all_shown c.numbers) same ∙ ap (λ t. all_shown t ks) numbers)
recorded (Err e) a b c A P m ks h j inside rec same numbers = recorded-now (Err e) a b c A P m ks h j inside rec same

pub Stays-recorded : (r : Result (Vec ℕ Global) ShapeError) (a b c : Found) (ks : List ℕ) → Extends a.numbers b.numbers → AreIn b.numbers ks →
    IfOk r (λ v. v.items ≡ ks) → IfOk r (λ v. IsFound c) → IfOk r (λ v. c.numbers ≡ b.numbers) → IfOk r (λ v. Stays a c v.items)
Stays-recorded (Ok v) a b c ks e h same sound numbers = record {
  sound = sound;
  extends = subst (Extends a.numbers) (sym numbers) e;
  within = subst (AreIn c.numbers) (sym same) (subst (λ t. AreIn t ks) (sym numbers) h);
}
Stays-recorded (Err e) a b c ks x h same sound numbers = same
