-- Code that is right, valid and laid out is one.
use Rattle.std.proofs.Common.{ℕ, zero, suc, ◌+◌, ◌<◌, ◌≤◌, ◌≡◌, ◌⊎◌, ◌&&◌, eqb, Bool, true, false, inl, inr, List, [], ◌∷◌, length, Option, Some, None, refl, ap, sym, ◌∙◌, subst, arith}
use Rattle.std.specs.Prelude.{slice_get}
use Rattle.std.proofs.lemmas.Bool.{cases_lt, cases_Bool, or_parts, and_parts, and_cases, and_from, eqb-true, eqb-false, ltb-false, eq-eqb, cond-true, cond-false}
use Rattle.fy_base.specs.declared.data.Datum.{Datum}
use Rattle.fy_base.specs.declared.data.Place.{Place}
use Rattle.fy_phrase.specs.declared.shapes.Pair.{Pair}
use Rattle.fy_phrase.specs.declared.shapes.ShapeTable.{ShapeTable}
use Rattle.fy_phrase.specs.Sizes.{nodes}
use Rattle.fy_phrase.specs.Tree.{Tree, Trees, var, field, merge}
use Rattle.fy_derive.specs.Kinds.{Kind, kind_of}
use Rattle.fy_derive.specs.Shapes.{PlainShape, at_end, a_call, a_field, a_value, an_assignment, shape_begins}
use Rattle.fy_derive.specs.ShapeTables.{shape_at}
use Rattle.pe_code.specs.declared.code.Entry.{Entry}
use Rattle.pe_code.specs.declared.code.PeCode.{PeCode}
use Rattle.pe_code.specs.declared.code.SequenceShapes.{SequenceShapes}
use Rattle.pe_code.specs.declared.code.PeInsn.{PeInsn}
use Rattle.pe_code.specs.declared.code.PeInsn.TheVariants as insn
use Rattle.pe_code.specs.declared.code.PeItem.{PeItem}
use Rattle.pe_code.specs.Code.{item_at, address_in, entry_of}
use Rattle.pe_code.specs.Entries.{is_before, AreInOrder}
use Rattle.pe_code.specs.Valid.{AreOnce, IsValid}
use Rattle.pe_code.proofs.EntryLemmas.{order-head, order-tail}
use Rattle.pe_right.specs.Entered.{none_straight}
use Rattle.pe_right.specs.Right.{IsNodeUnder, itself, is_variable, Enters, EachEnters, no_parts, and_part, IsInsnOf, IsItemOf, IsNumberOf, IsCodeOf, of_app, of_app_datum, of_let, of_let_datum, of_var, of_lit, of_unary, of_binary, of_cond, of_case, of_lam, of_app_variable, of_field, of_sel, of_let_variable, of_rec, of_skip, of_seq, of_assign, of_while, of_forever, of_new, of_cells, of_escape, of_accept, of_put, of_read}
use Rattle.pe_right.specs.Typed.{IsTableOf}
use Rattle.pe_gen.specs.Layout.{IsOwn, IsLaidOut}
use Rattle.pe_gen.specs.declared.manners.Manner.{Manner}
use Rattle.pe_gen.specs.Manners.{all_manners, item_by}
use Rattle.pe_gen.specs.OneCode.{LaidOutCodeIsOne, StraightenedCodeIsOne}
use Rattle.pe_gen.specs.Preorder.{preorder}
use Rattle.pe_gen.specs.Sites.{is_merge, pair, IsBefore}
use Rattle.pe_gen.specs.Straightened.{IsEvaluatedSo}
use Rattle.pe_gen.proofs.EntryLists.{address-from}
use Rattle.pe_gen.proofs.Gets.{some_same, get-within, get-some}
use Rattle.pe_gen.proofs.KeptLemmas.{at-place}
use Rattle.pe_gen.proofs.NodeLists.{length-preorder, node-found, first-part, second-part}
use Rattle.pe_gen.proofs.PlainLemmas.{plain-right, whole-item}
use Rattle.pe_gen.proofs.TableLemmas.{pair-shape, pair-within}

-- ---- lists

-- lists with the same members at the same places
same-lists : {X : Type 0} (xs ys : List X) → ((i : ℕ) (x : X) → slice_get xs i ≡ Some x → slice_get ys i ≡ Some x) →
    ((i : ℕ) (x : X) → slice_get ys i ≡ Some x → slice_get xs i ≡ Some x) → xs ≡ ys
same-lists [] [] there back = refl
same-lists [] (y ∷ ys) there back = let none = back 0 y refl in absurd cc
same-lists (x ∷ xs) [] there back = let none = there 0 x refl in absurd cc
same-lists (x ∷ xs) (y ∷ ys) there back =
    let head : y ≡ x = some_same (there 0 x refl) in
    ap (λ z. z ∷ xs) (sym head) ∙ ap (λ zs. y ∷ zs) (same-lists xs ys (λ i z e. there (suc i) z e) (λ i z e. back (suc i) z e))

abbrev has_key : ℕ → ℕ → Entry → Bool
has_key k n e = eqb e.node k && eqb e.shape n

-- behind an entry there is none for the same node and shape
none-behind : (e : Entry) (es : List Entry) (k n : ℕ) → AreOnce (e ∷ es) → has_key k n e ≡ true → address_in es k n ≡ None
none-behind e es k n once is = by (address_in es k n) refl
  where
    by : (o : Option ℕ) → address_in es k n ≡ o → address_in es k n ≡ None
    by None f = f
    by (Some a) f =
        let d = address-from es k n a f in
        let keys = and_parts (eqb e.node k) (eqb e.shape n) is in
        let clash : zero ≡ suc d.1.0 = once zero (suc d.1.0) e d.0 refl d.1.1 (eqb-true e.node k keys.0 ∙ sym d.2) (eqb-true e.shape n keys.1 ∙ sym d.3) in
        absurd (omega arith)

once-tail : (e : Entry) (es : List Entry) → AreOnce (e ∷ es) → AreOnce es
once-tail e es once i j c d a b f g = let same : suc i ≡ suc j = once (suc i) (suc j) c d a b f g in omega arith

is-key : (e : Entry) → has_key e.node e.shape e ≡ true
is-key e = and_from (eqb e.node e.node) (eqb e.shape e.shape) (eq-eqb e.node e.node refl) (eq-eqb e.shape e.shape refl)

first-address : (e : Entry) (es : List Entry) → address_in (e ∷ es) e.node e.shape ≡ Some e.address
first-address e es = cond-true _ _ _ (is-key e)

skip-first : (e : Entry) (es : List Entry) (k n : ℕ) → has_key k n e ≡ false → address_in (e ∷ es) k n ≡ address_in es k n
skip-first e es k n other = cond-false _ _ _ other

-- an entry that isn't before another is at most as small
abbrev IsFrom : Entry → Entry → Type 0
IsFrom e d = (e.node ≤ d.node) × (d.node ≡ e.node → e.shape ≤ d.shape)

tells : (e d : Entry) → is_before e.node e.shape d ≡ false → IsFrom e d
tells e d h =
    let p = or_parts _ _ h in (
      ltb-false d.node e.node p.0,
      λ s. elim (and_cases _ _ p.1) [
        | inl q ↦ absurd (eqb-false d.node e.node q s)
        | inr r ↦ ltb-false d.shape e.shape r
      ],
    )

from-first : (e : Entry) (es : List Entry) (i : ℕ) (d : Entry) → AreInOrder (e ∷ es) → slice_get (e ∷ es) i ≡ Some d → IsFrom e d
from-first e es zero d ordered at =
    let same : e ≡ d = some_same at in
    (omega (arith, ap (λ (x : Entry). x.node) same), λ s. omega (arith, ap (λ (x : Entry). x.shape) same))
from-first e es (suc i) d ordered at = tells e d (at-place (λ x. is_before e.node e.shape x ≡ false) es i d (order-head e es ordered) at)

-- what is for the same node and shape as an entry of the list is so too
from-found : (e : Entry) (es : List Entry) (d : Entry) (a : ℕ) → AreInOrder (e ∷ es) → address_in (e ∷ es) d.node d.shape ≡ Some a → IsFrom e d
from-found e es d a ordered found =
    let x = address-from (e ∷ es) d.node d.shape a found in
    let h = from-first e es x.1.0 x.0 ordered x.1.1 in
    (omega (arith, h.0, x.2), λ s. let low = h.1 (x.2 ∙ s) in omega (arith, low, x.3))

abbrev entry_for : ℕ → ℕ → ℕ → Entry
entry_for k n a = record { node = k; shape = n; address = a }

entry_same : (d e : Entry) → d.node ≡ e.node → d.shape ≡ e.shape → d.address ≡ e.address → d ≡ e
entry_same d e n s a =
    ap (λ x. entry_for x d.shape d.address) n ∙ (ap (λ x. entry_for e.node x d.address) s ∙ ap (λ x. entry_for e.node e.shape x) a)

-- lists in order in which the same is found
same-entries : (es fs : List Entry) → AreInOrder es → AreInOrder fs → AreOnce es → AreOnce fs → ((k n : ℕ) → address_in es k n ≡ address_in fs k n) → es ≡ fs
same-entries [] [] up rise once single same = refl
same-entries [] (f ∷ fs) up rise once single same = let clash : None ≡ Some f.address = same f.node f.shape ∙ first-address f fs in absurd cc
same-entries (e ∷ es) [] up rise once single same = let clash : Some e.address ≡ None = sym (first-address e es) ∙ same e.node e.shape in absurd cc
same-entries (e ∷ es) (f ∷ fs) up rise once single same =
    let low = from-found f fs e e.address rise (sym (same e.node e.shape) ∙ first-address e es) in
    let high = from-found e es f f.address up (same f.node f.shape ∙ first-address f fs) in
    let node : e.node ≡ f.node = omega (arith, low.0, high.0) in
    let shape : e.shape ≡ f.shape = omega (arith, low.1 node, high.1 (sym node)) in
    let key : address_in (f ∷ fs) e.node e.shape ≡ address_in (f ∷ fs) f.node f.shape = ap (λ k. address_in (f ∷ fs) k e.shape) node ∙ ap (λ n. address_in (f ∷ fs) f.node n) shape in
    let address : e.address ≡ f.address = some_same (sym (first-address e es) ∙ (same e.node e.shape ∙ (key ∙ first-address f fs))) in
    let head : e ≡ f = entry_same e f node shape address in
    let tails : es ≡ fs = same-entries es fs (order-tail e es up) (order-tail f fs rise) (once-tail e es once) (once-tail f fs single) (λ k n. rest k n head) in
    ap (λ x. x ∷ es) head ∙ ap (λ xs. f ∷ xs) tails
  where
    rest : (k n : ℕ) → e ≡ f → address_in es k n ≡ address_in fs k n
    rest k n head = elim (cases_Bool (has_key k n e)) [
      | inl t ↦ none-behind e es k n once t ∙ sym (none-behind f fs k n single (sym (ap (has_key k n) head) ∙ t))
      | inr g ↦ sym (skip-first e es k n g) ∙ (same k n ∙ skip-first f fs k n (sym (ap (has_key k n) head) ∙ g))
    ]

-- ---- records

abbrev item_with : PeInsn → ℕ → Place → PeItem
item_with n d p = record { insn = n; depth = d; place = p }

item_same : (i j : PeItem) → i.insn ≡ j.insn → i.depth ≡ j.depth → i.place ≡ j.place → i ≡ j
item_same i j n d p = ap (λ x. item_with x i.depth i.place) n ∙ (ap (λ x. item_with j.insn x i.place) d ∙ ap (λ x. item_with j.insn j.depth x) p)

abbrev sequences_with : Option ℕ → Option ℕ → Option ℕ → Option ℕ → SequenceShapes
sequences_with v e a l = record { value = v; element = e; assigned_element = a; row_length = l }

sequences_same : (q r : SequenceShapes) → q.value ≡ r.value → q.element ≡ r.element → q.assigned_element ≡ r.assigned_element → q.row_length ≡ r.row_length → q ≡ r
sequences_same q r v e a l =
    ap (λ x. sequences_with x q.element q.assigned_element q.row_length) v
    ∙ (ap (λ x. sequences_with r.value x q.assigned_element q.row_length) e
    ∙ (ap (λ x. sequences_with r.value r.element x q.row_length) a ∙ ap (λ x. sequences_with r.value r.element r.assigned_element x) l))

abbrev code_with : List PeItem → List Entry → ℕ → Option ℕ → SequenceShapes → List ℕ → PeCode
code_with is es s a q ts = record { items = is; entries = es; shapes = s; assignment = a; sequences = q; thunks = ts }

code_same : (c d : PeCode) → c.items ≡ d.items → c.entries ≡ d.entries → c.shapes ≡ d.shapes → c.assignment ≡ d.assignment → c.sequences ≡ d.sequences → c.thunks ≡ d.thunks → c ≡ d
code_same c d i e s a q t =
    ap (λ x. code_with x c.entries c.shapes c.assignment c.sequences c.thunks) i
    ∙ (ap (λ x. code_with d.items x c.shapes c.assignment c.sequences c.thunks) e
    ∙ (ap (λ x. code_with d.items d.entries x c.assignment c.sequences c.thunks) s ∙ (ap (λ x. code_with d.items d.entries d.shapes x c.sequences c.thunks) a
    ∙ (ap (λ x. code_with d.items d.entries d.shapes d.assignment x c.thunks) q ∙ ap (λ x. code_with d.items d.entries d.shapes d.assignment d.sequences x) t))))

before-once : (x y : Pair) → IsBefore x y → IsBefore y x → ⊥
before-once x y (inl a) (inl b) = omega (arith, a, b)
before-once x y (inl a) (inr b) = omega (arith, a, b.0)
before-once x y (inr a) (inl b) = omega (arith, a.0, b)
before-once x y (inr a) (inr b) = omega (arith, a.1, b.1)

-- what is known of each of the codes
pub record IsGiven (handed : Tree → Option Datum) (p : Tree) (table : ShapeTable) (code : PeCode) : Type 0 where
  pub right : IsCodeOf handed none_straight p table code
  pub laid : IsLaidOut p code

module _ (handed : Tree → Option Datum) (p : Tree) (table : ShapeTable) (whole : is_merge p ≡ false) (its : IsTableOf p table) where
  crossed : (one other : PeCode) → IsGiven handed p table one → IsGiven handed p table other → (x : Pair) (a : ℕ) → IsOwn p one x a → (b : ℕ) × IsOwn p other x b
  crossed one other g h x a o =
      let there = (g.right.entries x.node x.shape).1 (a, o.entered) in
      let e = (h.right.entries x.node x.shape).0 there in
      (e.0, record { depth = o.depth; form = o.form; node = o.node; whole = o.whole; entered = e.1 })

  -- a pair's own item
  own-item : (code : PeCode) → IsGiven handed p table code → (x : Pair) (a : ℕ) (o : IsOwn p code x a) (s : PlainShape) → shape_at table x.shape ≡ Some s →
      (item : PeItem) × (item_at code a ≡ Some item) × IsItemOf handed table code o.depth x.node o.form s item
  own-item code g x a o s is = whole-item handed table code o.form o.depth x.node a s o.whole (plain-right handed table code p g.right o.depth x.node a o.form s o.node (x.shape, is, o.entered))

  own-shape : (code : PeCode) → IsGiven handed p table code → (x : Pair) (a : ℕ) → IsOwn p code x a → (s : PlainShape) × (shape_at table x.shape ≡ Some s)
  own-shape code g x a o = pair-shape p table its (pair x.node x.shape) ((g.right.entries x.node x.shape).1 (a, o.entered))

  own-within : (code : PeCode) → IsGiven handed p table code → (x : Pair) (a : ℕ) → IsOwn p code x a → a < length code.items
  own-within code g x a o =
      let s = own-shape code g x a o in
      let item = own-item code g x a o s.0 s.1 in
      get-within code.items a item.0 item.1

  own-once : (code : PeCode) (x : Pair) (a b : ℕ) → IsOwn p code x a → IsOwn p code x b → a ≡ b
  own-once code x a b o u = some_same (sym o.entered ∙ u.entered)

  start : (one other : PeCode) → IsGiven handed p table one → IsGiven handed p table other → (x : Pair) (b : ℕ) → IsOwn p one x 0 → IsOwn p other x b → b ≡ 0
  start one other g h x b o u =
      let run = g.right.program in
      let other_run = h.right.program in
      let first : IsOwn p one (pair 0 run.0) 0 = record { depth = 0; form = p; node = itself; whole = whole; entered = run.2 } in
      let second : IsOwn p other (pair 0 other_run.0) 0 = record { depth = 0; form = p; node = itself; whole = whole; entered = other_run.2 } in
      let number : other_run.0 ≡ run.0 = its.pairs.sound.shapes_once other_run.0 run.0 _ other_run.1 run.1 in
      let is : pair 0 other_run.0 ≡ x = ap (pair 0) number ∙ g.laid.one 0 (pair 0 run.0) x first o in
      own-once other x b 0 u (subst (λ y. IsOwn p other y 0) is second)

  -- an own address isn't smaller than the other code's, where smaller ones are the same
  clash : (one other : PeCode) → IsGiven handed p table one → IsGiven handed p table other → (n a b : ℕ) (x : Pair) →
      ((c e : ℕ) (y : Pair) → c < n → IsOwn p one y c → IsOwn p other y e → c ≡ e) → a ≤ n → IsOwn p one x a → IsOwn p other x b → a < b → ⊥
  clash one other g h n a b x same le o u up =
      let y = h.laid.each a (omega (arith, up, own-within other h x b u)) in
      let z = crossed other one h g y.0 a y.1 in
      elim (cases_lt z.0 a) [
        | inl before ↦ let at = same z.0 a y.0 (omega (arith, le, before)) z.1 y.1 in omega (arith, at, before)
        | inr behind ↦ elim (cases_lt a z.0) [
          | inl past ↦ elim (cases_lt 0 a) [
            | inl some ↦ before-once x y.0 (g.laid.order a z.0 x y.0 (omega arith) past o z.1) (h.laid.order a b y.0 x (omega arith) up y.1 u)
            | inr none ↦
                let zero_is : a ≡ 0 = omega arith in
                let at : b ≡ 0 = start one other g h x b (subst (λ m. IsOwn p one x m) zero_is o) u in
                omega (arith, at, up)
          ]
          | inr here ↦
              let number : z.0 ≡ a = omega arith in
              let is : y.0 ≡ x = g.laid.one a y.0 x (subst (λ m. IsOwn p one y.0 m) number z.1) o in
              let at : a ≡ b = own-once other x a b (subst (λ w. IsOwn p other w a) is y.1) u in
              omega (arith, at, up)
        ]
      ]

  -- a pair's own address in one code is its own in the other
  agree : (one other : PeCode) → IsGiven handed p table one → IsGiven handed p table other → (n a b : ℕ) (x : Pair) → a < n → IsOwn p one x a → IsOwn p other x b → a ≡ b
  agree one other g h zero a b x l o u = absurd (omega arith)
  agree one other g h (suc n) a b x l o u = elim (cases_lt b a) [
    | inl low ↦
        let y = g.laid.each b (omega (arith, low, own-within one g x a o)) in
        let z = crossed one other g h y.0 b y.1 in
        let same : b ≡ z.0 = agree one other g h n b z.0 y.0 (omega (arith, l, low)) y.1 z.1 in
        let is : x ≡ y.0 = h.laid.one b x y.0 u (subst (λ m. IsOwn p other y.0 m) (sym same) z.1) in
        own-once one y.0 a b (subst (λ w. IsOwn p one w a) is o) y.1
    | inr high ↦ elim (cases_lt a b) [
      | inl up ↦ absurd (clash one other g h n a b x (agree one other g h n) (omega (arith, l)) o u up)
      | inr even ↦ omega (arith, high, even)
    ]
  ]

  -- ---- entries

  module _ (one other : PeCode) (g : IsGiven handed p table one) (h : IsGiven handed p table other) where
    number-same : (m n : ℕ) (s : PlainShape) → shape_at table m ≡ Some s → shape_at table n ≡ Some s → m ≡ n
    number-same m n s a b = its.pairs.sound.shapes_once m n s a b

    kind-same : (k j : Kind) (o : Option Kind) → o ≡ Some k → o ≡ Some j → k ≡ j
    kind-same k j o a b = some_same (sym a ∙ b)

    plain-same : (q : Tree) (d k n a b : ℕ) (s : PlainShape) → IsNodeUnder 0 0 p d k q → entry_of one k n ≡ Some a → entry_of other k n ≡ Some b → is_merge q ≡ false → a ≡ b
    plain-same q d k n a b s node e f plain =
        agree one other g h (suc a) a b (pair k n) (omega arith) (record { depth = d; form = q; node = node; whole = plain; entered = e }) (record { depth = d; form = q; node = node; whole = plain; entered = f })

    address-same : (q : Tree) (d k n a b : ℕ) (s : PlainShape) → IsNodeUnder 0 0 p d k q → shape_at table n ≡ Some s → entry_of one k n ≡ Some a → entry_of other k n ≡ Some b → a ≡ b
    address-same (merge l r at) d k n a b s node is e f =
        let x = plain-right handed table one p g.right d k a (merge l r at) s node (n, is, e) in
        let y = plain-right handed table other p h.right d k b (merge l r at) s node (n, is, f) in
        let kind : x.0 ≡ y.0 = kind-same x.0 y.0 (kind_of r) x.1 y.1 in
        elim x.2 [
          | inl t ↦ elim y.2 [
            | inl u ↦
                let m : u.1.0 ≡ t.1.0 = number-same u.1.0 t.1.0 s u.1.1 t.1.1 in
                address-same r d (k + 1 + nodes l) t.1.0 a b s (second-part [] node refl) t.1.1 t.1.2 (subst (λ j. entry_of other (k + 1 + nodes l) j ≡ Some b) m u.1.2)
            | inr u ↦ let unlike : true ≡ false = sym t.0 ∙ (ap (λ j. shape_begins j s) kind ∙ u.0) in absurd cc
          ]
          | inr t ↦ elim y.2 [
            | inl u ↦ let unlike : false ≡ true = sym t.0 ∙ (ap (λ j. shape_begins j s) kind ∙ u.0) in absurd cc
            | inr u ↦
                let m : u.1.0 ≡ t.1.0 = number-same u.1.0 t.1.0 s u.1.1 t.1.1 in
                address-same l d (k + 1) t.1.0 a b s (first-part ((d, r) ∷ []) node refl) t.1.1 t.1.2 (subst (λ j. entry_of other (k + 1) j ≡ Some b) m u.1.2)
          ]
        ]
    address-same q d k n a b s node is e f = plain-same q d k n a b s node e f refl

    entry-there : (k n a : ℕ) → entry_of one k n ≡ Some a → entry_of other k n ≡ Some a
    entry-there k n a e =
        let at = (g.right.entries k n).1 (a, e) in
        let f = (h.right.entries k n).0 at in
        let s = pair-shape p table its (pair k n) at in
        let x = get-some (preorder 0 p) k (omega (arith, pair-within p table its (pair k n) at, length-preorder 0 p)) in
        let same : a ≡ f.0 = address-same x.0.1 x.0.0 k n a f.0 s.0 (node-found 0 p k x.0.0 x.0.1 x.1) s.1 e f.1 in
        f.1 ∙ ap Some (sym same)

-- the same is found in both
same-found : (handed : Tree → Option Datum) (p : Tree) (table : ShapeTable) → is_merge p ≡ false → IsTableOf p table → (one other : PeCode) → IsGiven handed p table one → IsGiven handed p table other →
    (k n : ℕ) → entry_of one k n ≡ entry_of other k n
same-found handed p table whole its one other g h k n = by (entry_of one k n) (entry_of other k n) refl refl
  where
    by : (o u : Option ℕ) → entry_of one k n ≡ o → entry_of other k n ≡ u → entry_of one k n ≡ entry_of other k n
    by (Some a) u e f = e ∙ sym (entry-there handed p table whole its one other g h k n a e)
    by None (Some b) e f = entry-there handed p table whole its other one h g k n b f ∙ sym f
    by None None e f = e ∙ sym f

-- ---- items

module _ (handed : Tree → Option Datum) (named : (k : ℕ) (at : Place) → handed (var k at) ≡ None) (p : Tree) (table : ShapeTable) (its : IsTableOf p table)
    (one other : PeCode) (found : (k n : ℕ) → entry_of one k n ≡ entry_of other k n) where
  enters : (k : ℕ) (s : PlainShape) (a b : ℕ) → Enters table one k s a → Enters table other k s b → a ≡ b
  enters k s a b e f =
      let n : e.0 ≡ f.0 = its.pairs.sound.shapes_once e.0 f.0 s e.1 f.1 in
      some_same (sym e.2 ∙ (found k e.0 ∙ (ap (entry_of other k) n ∙ f.2)))

  each : (k : ℕ) (ps : Trees) (s : PlainShape) (ys zs : List ℕ) → EachEnters table one k ps s ys → EachEnters table other k ps s zs → ys ≡ zs
  each k ps s ys zs no_parts no_parts = refl
  each k ps s (y ∷ ys) [] (and_part e es) f = elim f [ ]
  each k ps s (y ∷ ys) (z ∷ zs) (and_part {p = q} {ps = qs} e es) (and_part f fs) = ap (λ a. a ∷ ys) (enters k s y z e f) ∙ ap (λ bs. z ∷ bs) (each (k + nodes q) qs s ys zs es fs)

  -- no datum is known of a variable
  no-datum : {A : Type 0} (q : Tree) (j : ℕ) (v : Datum) → is_variable q ≡ Some j → handed q ≡ Some v → A
  no-datum (var k at) j v e f = let none = named k at in absurd cc
  no-datum q j v e f = absurd cc

  -- the instruction of a group, of which the shape tells the field too
  field-tells : (k : ℕ) (q : Tree) (s : PlainShape) (j : PeInsn) → IsInsnOf handed table other k q s j → (i : ℕ) (p : Tree) (at : Place) (t : PlainShape) → q ≡ field i p at → s ≡ a_field i t →
      (x : ℕ) × (j ≡ insn.Field i x) × Enters table other (k + 1) t x
  field-tells k q s j (of_field {i = f} {x = x} {s = u} e) i p at t a b =
      let name : f ≡ i = cc in
      let rest : u ≡ t = cc in
      (x, ap (λ n. insn.Field n x) name, subst (λ r. Enters table other (k + 1) r x) rest e)
  field-tells k q s j h i p at t a b = absurd cc

  insn-same : (k : ℕ) (q : Tree) (s : PlainShape) (i j : PeInsn) → IsInsnOf handed table one k q s i → IsInsnOf handed table other k q s j → i ≡ j
  insn-same k q s i j (of_var {j = v} a) (of_var b) = ap (insn.UseVar v) (its.pairs.sound.shapes_once _ _ s a b)
  insn-same k q s i j of_lit of_lit = refl
  insn-same k q s i j (of_unary {op = op} a) (of_unary b) = ap (insn.Op1 op) (enters (k + 1) _ _ _ a b)
  insn-same k q s i j (of_binary {y = y} {op = op} {p = l} a c) (of_binary {x = x} b d) = ap (λ n. insn.Op2 op n y) (enters (k + 1) _ _ _ a b) ∙ ap (insn.Op2 op x) (enters (k + 1 + nodes l) _ _ _ c d)
  insn-same k q s i j (of_cond {y = y} {z = z} {b = t} {p = l} a c e) (of_cond {x = x} {y = w} b d f) =
      ap (λ n. insn.Cond n y z) (enters (k + 1) _ _ _ a b) ∙ (ap (λ n. insn.Cond x n z) (enters (k + 1 + nodes t) _ _ _ c d) ∙ ap (insn.Cond x w) (enters (k + 1 + nodes t + nodes l) _ _ _ e f))
  insn-same k q s i j (of_case {ys = ys} {e = t} {parts = ps} a c) (of_case {x = x} b d) =
      ap (λ n. insn.Case n ys) (enters (k + 1) _ _ _ a b) ∙ ap (insn.Case x) (each (k + 1 + nodes t) ps s _ _ c d)
  insn-same k q s i j (of_lam a) (of_lam b) = ap insn.Bind (enters (k + 1) _ _ _ a b)
  insn-same k q s i j (of_app {p = l} plain none a) (of_app same nothing b) = ap (insn.Pass (k + 1 + nodes l)) (enters (k + 1) _ _ _ a b)
  insn-same k q s i j (of_app plain none a) (of_app_variable is b) = absurd cc
  insn-same k q s i j (of_app plain none a) (of_app_datum known b) = absurd cc
  insn-same k q s i j (of_app_variable is a) (of_app plain none b) = absurd cc
  insn-same k q s i j (of_app_variable {y = y} is a) (of_app_variable {j = v} it b) = ap (λ n. insn.PassVar n y) (some_same (sym is ∙ it)) ∙ ap (insn.PassVar v) (enters (k + 1) _ _ _ a b)
  insn-same k q s i j (of_app_variable {q = r} is a) (of_app_datum known b) = no-datum r _ _ is known
  insn-same k q s i j (of_app_datum known a) (of_app plain none b) = absurd cc
  insn-same k q s i j (of_app_datum {q = r} known a) (of_app_variable is b) = no-datum r _ _ is known
  insn-same k q s i j (of_app_datum {y = y} known a) (of_app_datum {v = v} told b) = ap (λ n. insn.PassData n y) (some_same (sym known ∙ told)) ∙ ap (insn.PassData v) (enters (k + 1) _ _ _ a b)
  insn-same k q s i j (of_field {i = f} {x = y} {p = l} {at = w} {s = t} a) h =
      let x = field-tells k (field f l w) (a_field f t) j h f l w t refl refl in
      ap (insn.Field f) (enters (k + 1) t y x.0 a x.2) ∙ sym x.1
  insn-same k q s i j (of_sel {i = f} a) (of_sel b) = ap (insn.Pick f) (enters (k + 1) _ _ _ a b)
  insn-same k q s i j (of_let {p = l} plain none a) (of_let same nothing b) = ap (insn.Let (k + 1)) (enters (k + 1 + nodes l) _ _ _ a b)
  insn-same k q s i j (of_let plain none a) (of_let_variable is b) = absurd cc
  insn-same k q s i j (of_let plain none a) (of_let_datum known b) = absurd cc
  insn-same k q s i j (of_let_variable is a) (of_let plain none b) = absurd cc
  insn-same k q s i j (of_let_variable {y = y} {p = l} is a) (of_let_variable {j = v} it b) =
      ap (λ n. insn.LetVar n y) (some_same (sym is ∙ it)) ∙ ap (insn.LetVar v) (enters (k + 1 + nodes l) _ _ _ a b)
  insn-same k q s i j (of_let_variable {p = l} is a) (of_let_datum known b) = no-datum l _ _ is known
  insn-same k q s i j (of_let_datum known a) (of_let plain none b) = absurd cc
  insn-same k q s i j (of_let_datum {p = l} known a) (of_let_variable is b) = no-datum l _ _ is known
  insn-same k q s i j (of_let_datum {y = y} {p = l} known a) (of_let_datum {v = v} told b) =
      ap (λ n. insn.LetData n y) (some_same (sym known ∙ told)) ∙ ap (insn.LetData v) (enters (k + 1 + nodes l) _ _ _ a b)
  insn-same k q s i j (of_rec a) (of_rec b) = ap (insn.Knot k) (enters (k + 1) _ _ _ a b)
  insn-same k q s i j of_skip of_skip = refl
  insn-same k q s i j (of_seq {y = y} {p = l} a c) (of_seq {x = x} b d) = ap (λ n. insn.Seq n y) (enters (k + 1) _ _ _ a b) ∙ ap (insn.Seq x) (enters (k + 1 + nodes l) _ _ _ c d)
  insn-same k q s i j (of_assign {y = y} {p = l} a c) (of_assign {x = x} b d) = ap (λ n. insn.Assign n y) (enters (k + 1) _ _ _ a b) ∙ ap (insn.Assign x) (enters (k + 1 + nodes l) _ _ _ c d)
  insn-same k q s i j (of_while {y = y} {b = l} a c) (of_while {x = x} b d) = ap (λ n. insn.While n y) (enters (k + 1) _ _ _ a b) ∙ ap (insn.While x) (enters (k + 1 + nodes l) _ _ _ c d)
  insn-same k q s i j (of_forever a) (of_forever b) = ap insn.Loop (enters (k + 1) _ _ _ a b)
  insn-same k q s i j (of_new {y = y} {e = l} a c) (of_new {x = x} b d) = ap (λ n. insn.New n y) (enters (k + 1) _ _ _ a b) ∙ ap (insn.New x) (enters (k + 1 + nodes l) _ _ _ c d)
  insn-same k q s i j (of_cells {y = y} {e = l} a c) (of_cells {x = x} b d) = ap (λ n. insn.Cells n y) (enters (k + 1) _ _ _ a b) ∙ ap (insn.Cells x) (enters (k + 1 + nodes l) _ _ _ c d)
  insn-same k q s i j (of_escape a) (of_escape b) = ap insn.Escape (enters (k + 1) _ _ _ a b)
  insn-same k q s i j (of_accept a) (of_accept b) = ap insn.Accept (enters (k + 1) _ _ _ a b)
  insn-same k q s i j (of_put {kind = kind} a) (of_put b) = ap (insn.Put kind) (enters (k + 1) _ _ _ a b)
  insn-same k q s i j (of_read a) (of_read b) = ap insn.Read (enters (k + 1) _ _ _ a b)

  item-of-same : (d k : ℕ) (q : Tree) (s : PlainShape) (i j : PeItem) → IsItemOf handed table one d k q s i → IsItemOf handed table other d k q s j → i ≡ j
  item-of-same d k q s i j a b = item_same i j (insn-same k q s i.insn j.insn a.insn b.insn) (a.depth ∙ sym b.depth) (a.place ∙ sym b.place)

-- an item of one code is that of the other
item-there : (handed : Tree → Option Datum) → ((k : ℕ) (at : Place) → handed (var k at) ≡ None) → (p : Tree) (table : ShapeTable) (whole : is_merge p ≡ false) (its : IsTableOf p table)
    (one other : PeCode) → IsGiven handed p table one → IsGiven handed p table other → (a : ℕ) (i : PeItem) → slice_get one.items a ≡ Some i → slice_get other.items a ≡ Some i
item-there handed named p table whole its one other g h a i at =
    let x = g.laid.each a (get-within one.items a i at) in
    let o = x.1 in
    let found = same-found handed p table whole its one other g h in
    let u : IsOwn p other x.0 a = record { depth = o.depth; form = o.form; node = o.node; whole = o.whole; entered = sym (found x.0.node x.0.shape) ∙ o.entered } in
    let s = own-shape handed p table whole its one g x.0 a o in
    let item = own-item handed p table whole its one g x.0 a o s.0 s.1 in
    let copy = own-item handed p table whole its other h x.0 a u s.0 s.1 in
    let same : item.0 ≡ copy.0 = item-of-same handed named p table its one other found o.depth x.0.node o.form s.0 item.0 copy.0 item.2 copy.2 in
    copy.1 ∙ (ap Some (sym same) ∙ (sym item.1 ∙ at))

-- ---- the code

-- a shape has one number
one-number : (table : ShapeTable) (o u : Option ℕ) (s : PlainShape) → IsNumberOf table o s → IsNumberOf table u s → o ≡ u
one-number table (Some n) u s is too = sym ((too n).1 ((is n).0 refl))
one-number table None (Some n) s is too = (is n).1 ((too n).0 refl)
one-number table None None s is too = refl

pub code-is-one : LaidOutCodeIsOne
code-is-one handed p table one other whole its named right correct valid sound laid placed =
    let g : IsGiven handed p table one = record { right = right; laid = laid } in
    let h : IsGiven handed p table other = record { right = correct; laid = placed } in
    code_same one other
    (same-lists one.items other.items (item-there handed named p table whole its one other g h) (item-there handed named p table whole its other one h g))
    (same-entries one.entries other.entries laid.entries placed.entries valid.once sound.once (same-found handed p table whole its one other g h))
    (right.shapes ∙ sym correct.shapes)
    (one-number table one.assignment other.assignment (at_end an_assignment) right.assignment correct.assignment)
    (sequences_same one.sequences other.sequences
    (one-number table one.sequences.value other.sequences.value (at_end a_value) right.sequences.value correct.sequences.value)
    (one-number table one.sequences.element other.sequences.element (a_call (at_end a_value)) right.sequences.element correct.sequences.element)
    (one-number table one.sequences.assigned_element other.sequences.assigned_element (a_call (at_end an_assignment)) right.sequences.assigned_element correct.sequences.assigned_element)
    (one-number table one.sequences.row_length other.sequences.row_length (a_field 0 (at_end a_value)) right.sequences.row_length correct.sequences.row_length))
    (right.thunks ∙ sym correct.thunks)

-- ---- straightened code

-- an item that is evaluated as its owner's node is
evaluated-there : (p : Tree) (manners : List Manner) (code one other : PeCode) → IsLaidOut p code → IsEvaluatedSo p manners code one → IsEvaluatedSo p manners code other →
    (a : ℕ) (item : PeItem) → slice_get one.items a ≡ Some item → slice_get other.items a ≡ Some item
evaluated-there p manners code one other laid g h a item at =
    let old = get-some code.items a (omega (arith, get-within one.items a item at, g.count)) in
    let x = g.items a old.0 old.1 in
    let y = h.items a old.0 old.1 in
    let owner : x.2.owner ≡ y.2.owner = laid.one a x.2.owner y.2.owner x.2.own y.2.own in
    let same : x.2.manner ≡ y.2.manner = some_same (sym x.2.told ∙ (ap (λ (z : Pair). slice_get manners z.node) owner ∙ y.2.told)) in
    let is : y.0 ≡ x.0 = y.2.is ∙ (ap (λ m. item_by m old.0) (sym same) ∙ sym x.2.is) in
    y.1 ∙ (ap Some is ∙ (sym x.1 ∙ at))

evaluated-one : (p : Tree) (manners : List Manner) (code one other : PeCode) → IsLaidOut p code → IsEvaluatedSo p manners code one → IsEvaluatedSo p manners code other → one ≡ other
evaluated-one p manners code one other laid g h =
    code_same one other (same-lists one.items other.items (evaluated-there p manners code one other laid g h) (evaluated-there p manners code other one laid h g)) (g.entries ∙ sym h.entries)
    (g.shapes ∙ sym h.shapes) (g.assignment ∙ sym h.assignment) (g.sequences ∙ sym h.sequences) (g.thunks ∙ sym h.thunks)

pub straightened-is-one : StraightenedCodeIsOne
straightened-is-one p code one other laid g h = by (evaluated-one p (all_manners code p) code g.straight h.straight laid g.evaluated h.evaluated) g.is h.is
  where
    by : g.straight ≡ h.straight → (IsValid g.straight × (one ≡ g.straight)) ⊎ ((IsValid g.straight → ⊥) × (one ≡ code)) → (IsValid h.straight × (other ≡ h.straight)) ⊎ ((IsValid h.straight → ⊥) × (other ≡ code)) →
        one ≡ other
    by same (inl a) (inl b) = a.1 ∙ (same ∙ sym b.1)
    by same (inl a) (inr b) = absurd (b.0 (subst (λ (c : PeCode). IsValid c) same a.0))
    by same (inr a) (inl b) = absurd (a.0 (subst (λ (c : PeCode). IsValid c) (sym same) b.0))
    by same (inr a) (inr b) = a.1 ∙ sym b.1
