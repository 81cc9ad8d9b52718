-- Lists of entries: one more put in, one entry for each node and shape, and where it leads.
use Rattle.std.proofs.Common.{ℕ, zero, suc, ◌+◌, ◌<◌, ◌≤◌, ◌≡◌, ◌&&◌, eqb, if◌then◌else◌, Bool, true, false, ◌⊎◌, inl, inr, List, [], ◌∷◌, length, Some, refl, ap, sym, ◌∙◌, subst, arith}
use Rattle.std.specs.Prelude.{slice_get}
use Rattle.std.proofs.lemmas.Bool.{cases_lt, cases_Bool, and_parts, and_from, eqb-true, eq-eqb, cond-true, cond-false}
use Rattle.fy_phrase.specs.declared.shapes.Pair.{Pair}
use Rattle.fy_phrase.specs.declared.shapes.Shape.{Shape}
use Rattle.fy_phrase.specs.Tree.{Tree}
use Rattle.pe_code.specs.declared.code.Entry.{Entry}
use Rattle.pe_code.specs.Code.{address_in}
use Rattle.pe_code.specs.Entries.{is_before, with_entry, AreInOrder}
use Rattle.pe_code.specs.Valid.{AreOnce}
use Rattle.pe_code.proofs.EntryLemmas.{order-with_entry}
use Rattle.pe_gen.specs.Sites.{pair, Stands, IsEntryOf, AreEntries}
use Rattle.pe_gen.proofs.Gets.{some_same, get-within}

-- ---- one more

pub with-member : (item : Entry) (es : List Entry) (i : ℕ) (e : Entry) → slice_get (with_entry item es) i ≡ Some e → (item ≡ e) ⊎ Stands es e
with-member item [] zero e is = inl (some_same is)
with-member item [] (suc i) e is = absurd cc
with-member item (d ∷ ds) i e is = by (is_before d.node d.shape item) i is (λ j s. with-member item ds j e s)
  where
    by : (b : Bool) (i : ℕ) → slice_get (if b then item ∷ d ∷ ds else d ∷ with_entry item ds) i ≡ Some e →
        ((j : ℕ) → slice_get (with_entry item ds) j ≡ Some e → (item ≡ e) ⊎ Stands ds e) → (item ≡ e) ⊎ Stands (d ∷ ds) e
    by true zero is rest = inl (some_same is)
    by true (suc i) is rest = inr (i, is)
    by false zero is rest = inr (0, is)
    by false (suc i) is rest = elim (rest i is) [ inl x ↦ inl x | inr s ↦ inr (suc s.0, s.1) ]

pub with-new : (item : Entry) (es : List Entry) → Stands (with_entry item es) item
with-new item [] = (0, refl)
with-new item (d ∷ ds) = by (is_before d.node d.shape item) (with-new item ds)
  where
    by : (b : Bool) → Stands (with_entry item ds) item → Stands (if b then item ∷ d ∷ ds else d ∷ with_entry item ds) item
    by true s = (0, refl)
    by false s = (suc s.0, s.1)

pub with-old : (item : Entry) (es : List Entry) (i : ℕ) (e : Entry) → slice_get es i ≡ Some e → Stands (with_entry item es) e
with-old item [] i e is = absurd cc
with-old item (d ∷ ds) i e is = by (is_before d.node d.shape item) i is (λ j s. with-old item ds j e s)
  where
    by : (b : Bool) (i : ℕ) → slice_get (d ∷ ds) i ≡ Some e → ((j : ℕ) → slice_get ds j ≡ Some e → Stands (with_entry item ds) e) →
        Stands (if b then item ∷ d ∷ ds else d ∷ with_entry item ds) e
    by true i is rest = (suc i, is)
    by false zero is rest = (0, is)
    by false (suc i) is rest = let s = rest i is in (suc s.0, s.1)

-- ---- one for each node and shape

abbrev pub AreUnlike : Entry → Entry → Type 0
AreUnlike d e = d.node ≡ e.node → d.shape ≡ e.shape → ⊥

-- no two are for the same node and shape
abbrev pub AreApart : List Entry → Type 0
AreApart [] = Unit {0}
AreApart (e ∷ es) = ((i : ℕ) (d : Entry) → slice_get es i ≡ Some d → AreUnlike e d) × AreApart es

pub apart-with : (item : Entry) (es : List Entry) → AreApart es → ((i : ℕ) (d : Entry) → slice_get es i ≡ Some d → AreUnlike item d) → AreApart (with_entry item es)
apart-with item [] apart new = (λ i d is. absurd cc, tt)
apart-with item (d ∷ ds) apart new = by (is_before d.node d.shape item) (apart-with item ds apart.1 (λ i e is. new (suc i) e is))
  where
    by : (b : Bool) → AreApart (with_entry item ds) → AreApart (if b then item ∷ d ∷ ds else d ∷ with_entry item ds)
    by true rest = (new, apart)
    by false rest = (
      λ i e is. elim (with-member item ds i e is) [
        | inl same ↦ λ n s. new 0 d refl (ap (λ (x : Entry). x.node) same ∙ sym n) (ap (λ (x : Entry). x.shape) same ∙ sym s)
        | inr old ↦ apart.0 old.0 e old.1
      ],
      rest,
    )

pub apart-once : (es : List Entry) → AreApart es → AreOnce es
apart-once [] apart i j d e a b n s = absurd cc
apart-once (x ∷ es) apart zero zero d e a b n s = refl
apart-once (x ∷ es) apart zero (suc j) d e a b n s =
    absurd (apart.0 j e b (ap (λ (y : Entry). y.node) (some_same a) ∙ n) (ap (λ (y : Entry). y.shape) (some_same a) ∙ s))
apart-once (x ∷ es) apart (suc i) zero d e a b n s =
    absurd (apart.0 i d a (ap (λ (y : Entry). y.node) (some_same b) ∙ sym n) (ap (λ (y : Entry). y.shape) (some_same b) ∙ sym s))
apart-once (x ∷ es) apart (suc i) (suc j) d e a b n s = ap suc (apart-once es apart.1 i j d e a b n s)

-- ---- where they lead

pub address-of : (es : List Entry) → AreOnce es → (i : ℕ) (e : Entry) → slice_get es i ≡ Some e → address_in es e.node e.shape ≡ Some e.address
address-of [] once i e is = absurd cc
address-of (x ∷ es) once zero e is =
    let same = some_same is in
    cond-true _ _ _ (and_from (eqb x.node e.node) (eqb x.shape e.shape) (eq-eqb x.node e.node (ap (λ (y : Entry). y.node) same)) (eq-eqb x.shape e.shape (ap (λ (y : Entry). y.shape) same)))
    ∙ ap (λ (y : Entry). Some y.address) same
address-of (x ∷ es) once (suc i) e is =
    let other : (eqb x.node e.node && eqb x.shape e.shape) ≡ false = elim (cases_Bool (eqb x.node e.node && eqb x.shape e.shape)) [
      | inl t ↦
          let p = and_parts (eqb x.node e.node) (eqb x.shape e.shape) t in
          let zero_suc : zero ≡ suc i = once zero (suc i) x e refl is (eqb-true x.node e.node p.0) (eqb-true x.shape e.shape p.1) in
          absurd (omega arith)
      | inr f ↦ f
    ] in
    cond-false _ _ _ other
    ∙ address-of es (λ m n c d a b f g. let e : suc m ≡ suc n = once (suc m) (suc n) c d a b f g in omega arith) i e is

pub address-from : (es : List Entry) (k n a : ℕ) → address_in es k n ≡ Some a → (e : Entry) × Stands es e × (e.node ≡ k) × (e.shape ≡ n) × (e.address ≡ a)
address-from [] k n a is = absurd cc
address-from (x ∷ es) k n a is = by (eqb x.node k && eqb x.shape n) refl is (λ s. address-from es k n a s)
  where
    by : (b : Bool) → (eqb x.node k && eqb x.shape n) ≡ b → (if b then Some x.address else address_in es k n) ≡ Some a →
        (address_in es k n ≡ Some a → (e : Entry) × Stands es e × (e.node ≡ k) × (e.shape ≡ n) × (e.address ≡ a)) →
        (e : Entry) × Stands (x ∷ es) e × (e.node ≡ k) × (e.shape ≡ n) × (e.address ≡ a)
    by true t f rest =
        let p = and_parts (eqb x.node k) (eqb x.shape n) t in
        (x, (0, refl), eqb-true x.node k p.0, eqb-true x.shape n p.1, some_same f)
    by false t f rest = let r = rest f in (r.0, (suc r.1.0, r.1.1), r.2, r.3, r.4)

-- ---- the entries of pairs, as far as they are made

pub pair_same : (a b : Pair) → a.node ≡ b.node → a.shape ≡ b.shape → a ≡ b
pair_same a b n s = ap (λ k. pair k a.shape) n ∙ ap (λ k. pair b.node k) s

module _ (ns : List (ℕ × Tree)) (shapes : List Shape) (pairs sites : List Pair) where
  -- the entries are those of the first i pairs
  pub record AreEntriesTo (i : ℕ) (entries : List Entry) : Type 0 where
    pub known : (j : ℕ) (e : Entry) → slice_get entries j ≡ Some e →
        IsEntryOf ns shapes pairs sites e × ((m : ℕ) × (m < i) × (slice_get pairs m ≡ Some (pair e.node e.shape)))
    pub has : (m : ℕ) (x : Pair) → m < i → slice_get pairs m ≡ Some x → (e : Entry) × Stands entries e × (e.node ≡ x.node) × (e.shape ≡ x.shape)
    pub apart : AreApart entries
    pub ordered : AreInOrder entries

  pub no-entries : AreEntriesTo 0 []
  no-entries = record {
    known = λ j e is. absurd cc;
    has = λ m x h is. absurd (omega arith);
    apart = tt;
    ordered = λ i j d l w. absurd (omega (arith, w));
  }

  pub one-entry : (i : ℕ) (es : List Entry) (x : Pair) (item : Entry) →
      ((a b : ℕ) (y : Pair) → slice_get pairs a ≡ Some y → slice_get pairs b ≡ Some y → a ≡ b) →
      AreEntriesTo i es → slice_get pairs i ≡ Some x → IsEntryOf ns shapes pairs sites item → item.node ≡ x.node → item.shape ≡ x.shape →
      AreEntriesTo (i + 1) (with_entry item es)
  one-entry i es x item once r is its n s =
      let here : slice_get pairs i ≡ Some (pair item.node item.shape) = is ∙ ap Some (sym (pair_same (pair item.node item.shape) x n s)) in
      record {
        known = λ j e at. elim (with-member item es j e at) [
          | inl same ↦ (
            subst (λ y. IsEntryOf ns shapes pairs sites y) same its,
            (i, omega arith, subst (λ (y : Entry). slice_get pairs i ≡ Some (pair y.node y.shape)) same here),
          )
          | inr old ↦ let k = r.known old.0 e old.1 in (k.0, (k.1.0, omega (arith, k.1.1), k.1.2))
        ];
        has = λ m y h at. elim (cases_lt m i) [
          | inl l ↦ let k = r.has m y l at in (k.0, with-old item es k.1.0 k.0 k.1.1, k.2, k.3)
          | inr g ↦
              let here : m ≡ i = omega arith in
              let same : x ≡ y = some_same (sym is ∙ (ap (slice_get pairs) (sym here) ∙ at)) in
              (item, with-new item es, n ∙ ap (λ (z : Pair). z.node) same, s ∙ ap (λ (z : Pair). z.shape) same)
        ];
        apart = apart-with item es r.apart (λ j d at a b.
            let k = r.known j d at in
            let same : pair item.node item.shape ≡ pair d.node d.shape = pair_same (pair item.node item.shape) (pair d.node d.shape) a b in
            let again : i ≡ k.1.0 = once i k.1.0 (pair item.node item.shape) here (k.1.2 ∙ ap Some (sym same)) in
            omega (arith, k.1.1));
        ordered = order-with_entry item es r.ordered;
      }

  pub all-entries : (i : ℕ) (es : List Entry) → AreEntriesTo i es → length pairs ≤ i → AreEntries ns shapes pairs sites es
  all-entries i es r all = record {
    known = λ j e at. (r.known j e at).0;
    has = λ x at. r.has at.0 x (let h = get-within pairs at.0 x at.1 in omega arith) at.1;
    once = apart-once es r.apart;
    ordered = r.ordered;
  }
