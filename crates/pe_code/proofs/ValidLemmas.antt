-- What each test of a code tells of it.
use Rattle.std.proofs.Common.{◌≡◌, ℕ, ◌+◌, ◌<◌, ◌≤◌, Bool, true, false, cond, eqb, eqb-true, List, [], ◌∷◌, length, get_or, filter, Some, refl, sym, ap, subst, ◌∙◌, arith, inl, inr}
use Rattle.std.specs.List.{All, AllAdjacentBelow, Contains, slice_get}
use Rattle.std.proofs.lemmas.Bool.{cases_lt, cases_order, ltb-false, or_parts, and_cases, eqb-false}
use Rattle.std.proofs.lemmas.Option.{slice_get-get_or, slice_get_read, slice_get_within, get_or_from_slice_get}
use Rattle.std.proofs.lemmas.List.Elements.{All-nil, All-cons, All-head, All-tail, All-filter, filter_passes}
use Rattle.pe_code.specs.declared.code.Entry.{Entry}
use Rattle.pe_code.specs.declared.code.PeItem.{PeItem}
use Rattle.pe_code.specs.declared.code.PeCode.{PeCode}
use Rattle.pe_code.specs.Entries.{is_before, AreInOrder}
use Rattle.pe_code.specs.Valid.{LeadsTo, IsThunkNode, AreOnce}
use Rattle.pe_code.proofs.EntryLemmas.{not_below-trans, below-asym}

-- an address that leads somewhere
pub leads-from : (code : PeCode) (depth a : ℕ) (item : PeItem) → a < length code.items → item ≡ get_or code.items a item → item.depth ≡ depth → LeadsTo code depth a
leads-from code depth a item within is same = record { item = item; stands = slice_get_read code.items (length code.items) a item refl within is; depth_is = same }

pub leads-depth : (code : PeCode) (depth a : ℕ) (item : PeItem) → item ≡ get_or code.items a item → LeadsTo code depth a → item.depth ≡ depth
leads-depth code depth a item is h = ap (λ (i : PeItem). i.depth) (is ∙ get_or_from_slice_get code.items a h.item item h.stands) ∙ h.depth_is

pub leads-within : (code : PeCode) (depth a : ℕ) → LeadsTo code depth a → a < length code.items
leads-within code depth a h = slice_get_within code.items a h.item h.stands

-- a fact on the entries of a node
pub of-node : (P : Entry → Type 0) (node : ℕ) (es : List Entry) → All (λ e. e.node ≡ node → P e) es → All P (filter (λ e. eqb e.node node) es)
of-node P node es h k d lt =
    All-filter (λ e. eqb e.node node) (λ e. e.node ≡ node → P e) es h k d lt (eqb-true _ _ (filter_passes (λ e. eqb e.node node) es k d lt))

pub from-node : (P : Entry → Type 0) (node : ℕ) (es : List Entry) → All P (filter (λ e. eqb e.node node) es) → All (λ e. e.node ≡ node → P e) es
from-node P node [] h = All-nil (λ e. e.node ≡ node → P e)
from-node P node (e ∷ es) h = by (eqb e.node node) refl (λ a. from-node P node es a) h
  where
    by : (b : Bool) → eqb e.node node ≡ b → (All P (filter (λ x. eqb x.node node) es) → All (λ x. x.node ≡ node → P x) es) → All P (cond b (e ∷ filter (λ x. eqb x.node node) es) (filter (λ x. eqb x.node node) es)) → All (λ x. x.node ≡ node → P x) (e ∷ es)
    by true is further a = All-cons (λ x. x.node ≡ node → P x) e es (λ _. All-head P e _ a) (further (All-tail P e _ a))
    by false is further a = All-cons (λ x. x.node ≡ node → P x) e es (λ same. absurd (eqb-false _ _ is same)) (further a)

-- a node that is listed
pub listed : (ns : List ℕ) (n : ℕ) (h : Contains ns n) → slice_get ns h.0 ≡ Some n
listed ns n h = slice_get-get_or ns h.0 n h.1 ∙ ap Some h.2

pub contains-listed : (ns : List ℕ) (n k : ℕ) → slice_get ns k ≡ Some n → Contains ns n
contains-listed ns n k h = (k, slice_get_within ns k n h, get_or_from_slice_get ns k n n h)

pub thunk-node : (code : PeCode) (depth node : ℕ) → Contains code.thunks node → All (λ e. LeadsTo code depth e.address) (filter (λ e. eqb e.node node) code.entries) → IsThunkNode code depth node
thunk-node code depth node h all = record { place = h.0; listed = listed code.thunks node h; led = from-node (λ e. LeadsTo code depth e.address) node code.entries all }

-- each entry is before the next
abbrev pub AreRising : List Entry → ℕ → Type 0
AreRising es high = AllAdjacentBelow (λ d e. is_before e.node e.shape d ≡ true) es high

-- none is before itself, or before another for its place
before_itself : (e : Entry) → is_before e.node e.shape e ≡ true → ⊥
before_itself e h = let f : is_before e.node e.shape e ≡ false = below-asym e.node e.shape e.node e.shape h in absurd (cc)

-- entries that rise from one to the next rise from each to each later one
rising-apart : (es : List Entry) (i j : ℕ) (d : Entry) → AreInOrder es → AreRising es (length es) → i < j → j < length es → is_before (get_or es j d).node (get_or es j d).shape (get_or es i d) ≡ true
rising-apart es i j d o up lt within = elim (cases_lt (i + 1) j) [
  | inl more ↦ rise (get_or es i d) (get_or es (i + 1) d) (get_or es j d) (up i d (omega arith)) (o (i + 1) j d more within)
  | inr ge ↦ let e : i + 1 ≡ j = omega arith in subst (λ n. is_before (get_or es n d).node (get_or es n d).shape (get_or es i d) ≡ true) e (up i d (omega arith))
]
  where
    rise : (x y z : Entry) → is_before y.node y.shape x ≡ true → is_before y.node y.shape z ≡ false → is_before z.node z.shape x ≡ true
    rise x y z first second = by (is_before z.node z.shape x) refl
      where
        by : (b : Bool) → is_before z.node z.shape x ≡ b → b ≡ true
        by true is = refl
        by false is = let f : is_before y.node y.shape x ≡ false = not_below-trans y.node y.shape z.node z.shape x.node x.shape second is in absurd (cc)

apart-other : (x y : Entry) → is_before y.node y.shape x ≡ true → x.node ≡ y.node → x.shape ≡ y.shape → ⊥
apart-other x y h n s = before_itself x (subst (λ m. is_before m x.shape x ≡ true) (sym n) (subst (λ m. is_before y.node m x ≡ true) (sym s) h))

-- so no two are for one node and shape
pub once-rising : (es : List Entry) → AreInOrder es → AreRising es (length es) → AreOnce es
once-rising es o up i j d e di ej n s = elim (cases_order i j) [
  | inl same ↦ same
  | inr other ↦ elim other [
    | inl lt ↦ absurd (apart-other d e (rises i j d e di ej lt) n s)
    | inr gt ↦ absurd (apart-other e d (rises j i e d ej di gt) (sym n) (sym s))
  ]
]
  where
    rises : (i j : ℕ) (x y : Entry) → slice_get es i ≡ Some x → slice_get es j ≡ Some y → i < j → is_before y.node y.shape x ≡ true
    rises i j x y xi yj lt =
        subst (λ (b : Entry). is_before b.node b.shape x ≡ true) (get_or_from_slice_get es j y x yj)
        (subst (λ (a : Entry). is_before (get_or es j x).node (get_or es j x).shape a ≡ true) (get_or_from_slice_get es i x x xi)
        (rising-apart es i j x o up lt (slice_get_within es j y yj)))

-- neighbours in order that do not rise are for one node and shape
pub once-falling : (es : List Entry) (k : ℕ) (d : Entry) → AreInOrder es → AreOnce es → k + 1 < length es
    → is_before (get_or es (k + 1) d).node (get_or es (k + 1) d).shape (get_or es k d) ≡ false → ⊥
once-falling es k d o once within flat =
    let p = same (get_or es k d) (get_or es (k + 1) d) flat (o k (k + 1) d (omega arith) within) in
    let e : k ≡ k + 1 = once k (k + 1) (get_or es k d) (get_or es (k + 1) d) (slice_get-get_or es k d (omega arith)) (slice_get-get_or es (k + 1) d within) p.0 p.1 in
    omega arith
  where
    same : (x y : Entry) → is_before y.node y.shape x ≡ false → is_before x.node x.shape y ≡ false → (x.node ≡ y.node) × (x.shape ≡ y.shape)
    same x y one other =
        let p = or_parts _ _ one in
        let q = or_parts _ _ other in
        let ge : y.node ≤ x.node = ltb-false _ _ p.0 in
        let le : x.node ≤ y.node = ltb-false _ _ q.0 in
        let n : x.node ≡ y.node = omega arith in (
          n,
          elim (and_cases _ _ p.1) [
            | inl a ↦ absurd (eqb-false _ _ a n)
            | inr a ↦ elim (and_cases _ _ q.1) [
              | inl b ↦ absurd (eqb-false _ _ b (sym n))
              | inr b ↦ let g : y.shape ≤ x.shape = ltb-false _ _ a in let l : x.shape ≤ y.shape = ltb-false _ _ b in omega arith
            ]
          ],
        )
