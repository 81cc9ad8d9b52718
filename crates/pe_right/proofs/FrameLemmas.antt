-- Lists of frames, whose numbers fall: what a newer frame, a cut and a written cell leave. A cell is that of a variable or one of a sequence.
use Rattle.std.proofs.Common.{ℕ, suc, ◌<◌, ◌≤◌, ◌≡◌, ◌≢◌, ◌⊎◌, Bool, true, false, cond, List, [], ◌∷◌, length, set, Option, Some, None, refl, sym, ap, ◌∙◌, subst, inl, inr, arith, le-leb, eq-eqb, ne_eqb}
use Rattle.std.proofs.lemmas.Bool.{cases_eq, cases_lt, lt-leb}
use Rattle.fy_base.specs.declared.data.Datum.{Datum}
use Rattle.fy_phrase.specs.Copy.{Content, single, several, Row, Which, own, element, content_of, with_value, without_row}
use Rattle.pe_machine.specs.States.{Binding, to_thunk, to_cell, to_escape, to_sequence, Frame, is_named, oldest, is_listed, from_frame, frame_outside, datum_in, datum_of, with_datum, with_binding, sequence_in, sequence_at, with_element, with_value as with_value_at}
use Rattle.pe_right.specs.ReadsBack.{with_cell_of, cells_in}

-- the frame with its binding changed
abbrev pub changed : (Binding → Binding) → Frame → Frame
changed change f = record f { binding = change f.binding }

-- v is written in a cell of a binding
abbrev pub written : Which → Datum → Binding → Binding
written own v = with_datum v
written (element i) v = with_element i v

-- the row with the number and the content
abbrev row_with : ℕ → Content → Row
row_with n x = record { number = n; content = x }

-- the numbers of the frames fall, and all are below the bound
abbrev pub Below : ℕ → List Frame → Type 0
Below b [] = Unit {0}
Below b (f ∷ fs) = (f.number < b) × Below f.number fs

pub Below-up : (fs : List Frame) (a b : ℕ) → a ≤ b → Below a fs → Below b fs
Below-up [] a b le h = tt
Below-up (f ∷ fs) a b le h = (let l = h.0 in omega arith, h.1)

-- ---- cuts

-- the cut leaves the newest frame out, or it leaves all
pub cases_oldest : (n : ℕ) (f : Frame) (fs : List Frame) →
    ((n ≤ length fs) × (oldest n (f ∷ fs) ≡ oldest n fs)) ⊎ ((length fs < n) × (oldest n (f ∷ fs) ≡ f ∷ fs))
cases_oldest n f fs =
    elim (cases_lt (length fs) n) [
      | inl l ↦ inr (l, ap (λ (b : Bool). cond b (oldest n fs) (f ∷ fs)) (lt-leb n (length fs) l))
      | inr g ↦ inl (g, ap (λ (b : Bool). cond b (oldest n fs) (f ∷ fs)) (le-leb n (length fs) g))
    ]

-- what holds of the whole, and still where one more frame is cut off, holds of each cut
pub along_cut : (P : List Frame → List Frame → Type 0) → ((fs : List Frame) → P fs fs) →
    ((f : Frame) (fs gs : List Frame) → P fs gs → P (f ∷ fs) gs) → (n : ℕ) (fs : List Frame) → P fs (oldest n fs)
along_cut P whole newer n [] = whole []
along_cut P whole newer n (f ∷ fs) =
    elim (cases_oldest n f fs) [
      | inl x ↦ subst (P (f ∷ fs)) (sym x.1) (newer f fs (oldest n fs) (along_cut P whole newer n fs))
      | inr x ↦ subst (P (f ∷ fs)) (sym x.1) (whole (f ∷ fs))
    ]

pub oldest-newer : (n : ℕ) (f : Frame) (fs : List Frame) → n ≤ length fs → oldest n (f ∷ fs) ≡ oldest n fs
oldest-newer n f fs le = ap (λ (b : Bool). cond b (oldest n fs) (f ∷ fs)) (le-leb n (length fs) le)

pub oldest-all : (n : ℕ) (fs : List Frame) → length fs ≤ n → oldest n fs ≡ fs
oldest-all n [] le = refl
oldest-all n (f ∷ fs) le = ap (λ (b : Bool). cond b (oldest n fs) (f ∷ fs)) (lt-leb n (length fs) (omega arith))

pub oldest-oldest : (k n : ℕ) (fs : List Frame) → k ≤ n → oldest k (oldest n fs) ≡ oldest k fs
oldest-oldest k n [] le = refl
oldest-oldest k n (f ∷ fs) le =
    elim (cases_oldest n f fs) [
      | inl x ↦ ap (oldest k) x.1 ∙ oldest-oldest k n fs le ∙ sym (oldest-newer k f fs (let l = x.0 in omega arith))
      | inr x ↦ ap (oldest k) x.1
    ]

pub length-oldest : (n : ℕ) (fs : List Frame) → n ≤ length fs → length (oldest n fs) ≡ n
length-oldest n [] le = omega arith
length-oldest n (f ∷ fs) le =
    elim (cases_oldest n f fs) [
      | inl x ↦ ap length x.1 ∙ length-oldest n fs x.0
      | inr x ↦ let l = x.0 in ap length x.1 ∙ omega arith
    ]

pub length-oldest_most : (n : ℕ) (fs : List Frame) → length (oldest n fs) ≤ length fs
length-oldest_most = along_cut (λ fs gs. length gs ≤ length fs) (λ fs. omega arith) (λ f fs gs le. omega arith)

-- as many frames as stand below a newer one
pub oldest-itself : (f : Frame) (fs : List Frame) → oldest (length fs) (f ∷ fs) ≡ fs
oldest-itself f fs = oldest-newer (length fs) f fs (omega arith) ∙ oldest-all (length fs) fs (omega arith)

pub Below-oldest : (n : ℕ) (fs : List Frame) (b : ℕ) → Below b fs → Below b (oldest n fs)
Below-oldest =
    along_cut (λ fs gs. (b : ℕ) → Below b fs → Below b gs) (λ fs b h. h)
    (λ f fs gs ih b h. ih b (Below-up fs f.number b (let l = h.0 in omega arith) h.1))

-- ---- the frame that is named

-- it isn't a frame with a number that is too great
pub named-apart : (r : Option ℕ) (fs : List Frame) (b m : ℕ) → Below b fs → is_listed r fs ≡ true → b ≤ m → is_named r m ≡ false
named-apart None fs b m h e le = refl
named-apart (Some n) [] b m h e le = absurd cc
named-apart (Some n) (f ∷ fs) b m h e le =
    elim (cases_eq n f.number) [
      | inl is ↦ ne_eqb n m (λ q. let l = h.0 in omega arith)
      | inr other ↦
          let l = h.0 in
          let older : is_listed (Some n) fs ≡ true = sym (ap (λ (t : Bool). cond t true (is_listed (Some n) fs)) (ne_eqb n f.number other)) ∙ e in
          named-apart (Some n) fs f.number m h.1 older (omega arith)
    ]

pub is_listed-newer : (r : Option ℕ) (f : Frame) (fs : List Frame) → is_listed r fs ≡ true → is_listed r (f ∷ fs) ≡ true
is_listed-newer r f fs e = by (is_named r f.number)
  where
    by : (t : Bool) → cond t true (is_listed r fs) ≡ true
    by true = refl
    by false = e

pub is_listed-oldest : (r : Option ℕ) (n : ℕ) (fs : List Frame) → is_listed r (oldest n fs) ≡ true → is_listed r fs ≡ true
is_listed-oldest r =
    along_cut (λ fs gs. is_listed r gs ≡ true → is_listed r fs ≡ true) (λ fs e. e) (λ f fs gs ih e. is_listed-newer r f fs (ih e))

pub is_listed-none : (fs : List Frame) → is_listed None fs ≡ true
is_listed-none [] = refl
is_listed-none (f ∷ fs) = is_listed-none fs

-- a frame that is listed isn't a newer one
pub frame_outside-newer : (k : ℕ) (r : Option ℕ) (f : Frame) (fs : List Frame) → Below f.number fs → is_listed r fs ≡ true →
    frame_outside (f ∷ fs) k r ≡ frame_outside fs k r
frame_outside-newer k r f fs h e =
    ap (λ (t : Bool). cond t (from_frame k f (λ j. frame_outside fs j f.around)) (frame_outside fs k r))
    (named-apart r fs f.number f.number h e (omega arith))

pub frame_outside-oldest : (k : ℕ) (r : Option ℕ) (n : ℕ) (fs : List Frame) (b : ℕ) → Below b fs → is_listed r (oldest n fs) ≡ true →
    frame_outside fs k r ≡ frame_outside (oldest n fs) k r
frame_outside-oldest k r n fs b h e =
    (along_cut
    (λ fs gs. (b : ℕ) → Below b fs → is_listed r gs ≡ true → (is_listed r fs ≡ true) × (frame_outside fs k r ≡ frame_outside gs k r))
    (λ fs b h e. (e, refl))
    (λ f fs gs ih b h e.
    let x = ih f.number h.1 e in (is_listed-newer r f fs x.0, frame_outside-newer k r f fs h.1 x.0 ∙ x.1))
    n fs b h e).1

-- ---- frames of a kind

-- a cell or a sequence of cells
abbrev pub IsRow : Binding → Type 0
IsRow (to_thunk t) = ⊥
IsRow (to_cell v) = Unit {0}
IsRow to_escape = ⊥
IsRow (to_sequence c) = Unit {0}

abbrev pub IsEscape : Binding → Type 0
IsEscape (to_thunk t) = ⊥
IsEscape (to_cell v) = ⊥
IsEscape to_escape = Unit {0}
IsEscape (to_sequence c) = ⊥

-- frame n is in the list, and its binding is as F says
abbrev pub HasFrame : (Binding → Type 0) → ℕ → List Frame → Type 0
HasFrame F n [] = ⊥
HasFrame F n (f ∷ fs) = ((n ≡ f.number) × F f.binding) ⊎ ((n < f.number) × HasFrame F n fs)

pub HasFrame-map : {F H : Binding → Type 0} → ((b : Binding) → F b → H b) → (n : ℕ) (fs : List Frame) → HasFrame F n fs → HasFrame H n fs
HasFrame-map g n [] h = h
HasFrame-map g n (f ∷ fs) (inl h) = inl (h.0, g f.binding h.1)
HasFrame-map g n (f ∷ fs) (inr h) = inr (h.0, HasFrame-map g n fs h.1)

pub HasFrame-below : (F : Binding → Type 0) (n : ℕ) (fs : List Frame) (b : ℕ) → Below b fs → HasFrame F n fs → n < b
HasFrame-below F n [] b h e = absurd e
HasFrame-below F n (f ∷ fs) b h (inl e) = let l = h.0 in let q = e.0 in omega arith
HasFrame-below F n (f ∷ fs) b h (inr e) = let l = h.0 in let q = e.0 in omega arith

pub HasFrame-newer : (F : Binding → Type 0) (n : ℕ) (f : Frame) (fs : List Frame) → Below f.number fs → HasFrame F n fs → HasFrame F n (f ∷ fs)
HasFrame-newer F n f fs h e = inr (HasFrame-below F n fs f.number h e, e)

pub HasFrame-oldest : (F : Binding → Type 0) (n k : ℕ) (fs : List Frame) (b : ℕ) → Below b fs → HasFrame F n (oldest k fs) → HasFrame F n fs
HasFrame-oldest F n =
    along_cut (λ fs gs. (b : ℕ) → Below b fs → HasFrame F n gs → HasFrame F n fs) (λ fs b h e. e)
    (λ f fs gs ih b h e. HasFrame-newer F n f fs h.1 (ih f.number h.1 e))

pub HasFrame-listed : (F : Binding → Type 0) (n : ℕ) (fs : List Frame) → HasFrame F n fs → is_listed (Some n) fs ≡ true
HasFrame-listed F n [] h = absurd h
HasFrame-listed F n (f ∷ fs) (inl h) = ap (λ (t : Bool). cond t true (is_listed (Some n) fs)) (eq-eqb n f.number h.0)
HasFrame-listed F n (f ∷ fs) (inr h) = is_listed-newer (Some n) f fs (HasFrame-listed F n fs h.1)

-- ---- marks

-- a frame that holds a cell or a sequence of cells, or an escape
pub data Mark : Type 0 where
  a_row : (n : ℕ) → Mark
  an_escape : (n : ℕ) → Mark

abbrev pub with_mark_of : ℕ → Binding → List Mark → List Mark
with_mark_of n (to_thunk t) ms = ms
with_mark_of n (to_cell v) ms = a_row n ∷ ms
with_mark_of n to_escape ms = an_escape n ∷ ms
with_mark_of n (to_sequence c) ms = a_row n ∷ ms

-- the frames that hold one, the newest first
abbrev pub marks_in : List Frame → List Mark
marks_in [] = []
marks_in (f ∷ fs) = with_mark_of f.number f.binding (marks_in fs)

marks-one_more : (m : ℕ) (b : Binding) (ms : List Mark) → length ms ≤ length (with_mark_of m b ms)
marks-one_more m (to_thunk t) ms = omega arith
marks-one_more m (to_cell v) ms = omega arith
marks-one_more m to_escape ms = omega arith
marks-one_more m (to_sequence c) ms = omega arith

-- a cut leaves no more marks
pub marks-oldest : (n : ℕ) (fs : List Frame) → length (marks_in (oldest n fs)) ≤ length (marks_in fs)
marks-oldest =
    along_cut (λ fs gs. length (marks_in gs) ≤ length (marks_in fs)) (λ fs. omega arith)
    (λ f fs gs le. let l = marks-one_more f.number f.binding (marks_in fs) in omega arith)

-- a frame that no mark is lost with holds no cell
unmarked : (m : ℕ) (b : Binding) (ms ks : List Mark) (cs ds : List Row) → length ks ≤ length ms → length (with_mark_of m b ms) ≡ length ks →
    (length ms ≡ length ks → cs ≡ ds) → with_cell_of m b cs ≡ ds
unmarked m (to_thunk t) ms ks cs ds le e f = f e
unmarked m (to_cell v) ms ks cs ds le e f = absurd (omega arith)
unmarked m to_escape ms ks cs ds le e f = absurd (omega arith)
unmarked m (to_sequence q) ms ks cs ds le e f = absurd (omega arith)

-- a cut that leaves all marks leaves all cells
pub cells-kept : (n : ℕ) (fs : List Frame) → length (marks_in fs) ≡ length (marks_in (oldest n fs)) → cells_in fs ≡ cells_in (oldest n fs)
cells-kept n fs e =
    (along_cut (λ fs gs. (length (marks_in gs) ≤ length (marks_in fs)) × (length (marks_in fs) ≡ length (marks_in gs) → cells_in fs ≡ cells_in gs))
    (λ fs. (omega arith, λ e. refl))
    (λ f fs gs ih.
    let l = marks-one_more f.number f.binding (marks_in fs) in
    let k = ih.0 in
    (omega arith, λ e. unmarked f.number f.binding (marks_in fs) (marks_in gs) (cells_in fs) (cells_in gs) ih.0 e ih.1))
    n fs).1 e

one_escape_less : (m : ℕ) (b : Binding) (i : ℕ) (ms ks : List Mark) (cs ds : List Row) → with_mark_of m b ms ≡ an_escape i ∷ ks →
    (length ms ≡ length ks → cs ≡ ds) → (ms ≡ an_escape i ∷ ks → cs ≡ ds) → with_cell_of m b cs ≡ ds
one_escape_less m (to_thunk t) i ms ks cs ds e f g = g e
one_escape_less m (to_cell v) i ms ks cs ds e f g = absurd cc
one_escape_less m to_escape i ms ks cs ds e f g = let same : ms ≡ ks = cc in f (ap length same)
one_escape_less m (to_sequence q) i ms ks cs ds e f g = absurd cc

one_cell_less : (m : ℕ) (b : Binding) (i : ℕ) (ms ks : List Mark) (cs ds : List Row) → with_mark_of m b ms ≡ a_row i ∷ ks →
    (length ms ≡ length ks → cs ≡ ds) → (ms ≡ a_row i ∷ ks → without_row i cs ≡ ds) → without_row i (with_cell_of m b cs) ≡ ds
one_cell_less m (to_thunk t) i ms ks cs ds e f g = g e
one_cell_less m (to_cell v) i ms ks cs ds e f g =
    let same : ms ≡ ks = cc in
    let number : m ≡ i = cc in
    rw (eq-eqb m i number) (f (ap length same))
one_cell_less m to_escape i ms ks cs ds e f g = absurd cc
one_cell_less m (to_sequence q) i ms ks cs ds e f g =
    let same : ms ≡ ks = cc in
    let number : m ≡ i = cc in
    rw (eq-eqb m i number) (f (ap length same))

-- a list isn't longer than itself
not_longer : (m : Mark) (ms : List Mark) → ms ≡ m ∷ ms → ⊥
not_longer m ms e = let l = ap length e in omega arith

-- a cut that leaves all marks but one escape leaves all cells
pub cells-one_escape_less : (n i : ℕ) (fs : List Frame) → marks_in fs ≡ an_escape i ∷ marks_in (oldest n fs) → cells_in fs ≡ cells_in (oldest n fs)
cells-one_escape_less n i [] e = absurd cc
cells-one_escape_less n i (f ∷ fs) e =
    elim (cases_oldest n f fs) [
      | inl x ↦
          let g : marks_in (f ∷ fs) ≡ an_escape i ∷ marks_in (oldest n fs) = e ∙ ap (λ (gs : List Frame). an_escape i ∷ marks_in gs) x.1 in
          one_escape_less f.number f.binding i (marks_in fs) (marks_in (oldest n fs)) (cells_in fs) (cells_in (oldest n fs)) g (cells-kept n fs)
          (cells-one_escape_less n i fs)
          ∙ sym (ap cells_in x.1)
      | inr x ↦ absurd (not_longer (an_escape i) (marks_in (f ∷ fs)) (e ∙ ap (λ (gs : List Frame). an_escape i ∷ marks_in gs) x.1))
    ]

-- a cut that leaves all marks but one cell leaves the other cells
pub cells-one_less : (n i : ℕ) (fs : List Frame) → marks_in fs ≡ a_row i ∷ marks_in (oldest n fs) → without_row i (cells_in fs) ≡ cells_in (oldest n fs)
cells-one_less n i [] e = absurd cc
cells-one_less n i (f ∷ fs) e =
    elim (cases_oldest n f fs) [
      | inl x ↦
          let g : marks_in (f ∷ fs) ≡ a_row i ∷ marks_in (oldest n fs) = e ∙ ap (λ (gs : List Frame). a_row i ∷ marks_in gs) x.1 in
          one_cell_less f.number f.binding i (marks_in fs) (marks_in (oldest n fs)) (cells_in fs) (cells_in (oldest n fs)) g (cells-kept n fs)
          (cells-one_less n i fs)
          ∙ sym (ap cells_in x.1)
      | inr x ↦ absurd (not_longer (a_row i) (marks_in (f ∷ fs)) (e ∙ ap (λ (gs : List Frame). a_row i ∷ marks_in gs) x.1))
    ]

-- the mark is among those
abbrev pub IsMarked : Mark → List Mark → Type 0
IsMarked m [] = ⊥
IsMarked m (k ∷ ms) = (m ≡ k) ⊎ IsMarked m ms

marked-more : (k : Mark) (m : ℕ) (b : Binding) (ms : List Mark) → IsMarked k ms → IsMarked k (with_mark_of m b ms)
marked-more k m (to_thunk t) ms s = s
marked-more k m (to_cell v) ms s = inr s
marked-more k m to_escape ms s = inr s
marked-more k m (to_sequence c) ms s = inr s

escape-marked : (m : ℕ) (b : Binding) (ms : List Mark) → IsEscape b → IsMarked (an_escape m) (with_mark_of m b ms)
escape-marked m (to_thunk t) ms is = absurd is
escape-marked m (to_cell v) ms is = absurd is
escape-marked m to_escape ms is = inl refl
escape-marked m (to_sequence c) ms is = absurd is

-- a frame that holds an escape is among the marks
pub HasFrame-escape : (n : ℕ) (fs : List Frame) → HasFrame IsEscape n fs → IsMarked (an_escape n) (marks_in fs)
HasFrame-escape n [] h = absurd h
HasFrame-escape n (f ∷ fs) (inl h) =
    subst (λ (m : ℕ). IsMarked (an_escape m) (marks_in (f ∷ fs))) (sym h.0) (escape-marked f.number f.binding (marks_in fs) h.1)
HasFrame-escape n (f ∷ fs) (inr h) = marked-more (an_escape n) f.number f.binding (marks_in fs) (HasFrame-escape n fs h.1)

-- ---- a binding is changed

module _ (n : ℕ) (change : Binding → Binding) where
  abbrev pub Changed : List Frame → List Frame
  Changed fs = with_binding n change fs

  pub with_binding-newer : (f : Frame) (fs : List Frame) → n ≢ f.number → Changed (f ∷ fs) ≡ f ∷ Changed fs
  with_binding-newer f fs apart = ap (λ (t : Bool). cond t (changed change f ∷ fs) (f ∷ Changed fs)) (ne_eqb n f.number apart)

  pub with_binding-here : (f : Frame) (fs : List Frame) → n ≡ f.number → Changed (f ∷ fs) ≡ changed change f ∷ fs
  with_binding-here f fs is = ap (λ (t : Bool). cond t (changed change f ∷ fs) (f ∷ Changed fs)) (eq-eqb n f.number is)

  -- where no frame has the number, nothing changes
  pub with_binding-none : (fs : List Frame) → Below n fs → Changed fs ≡ fs
  with_binding-none [] h = refl
  with_binding-none (f ∷ fs) h =
      let l = h.0 in
      with_binding-newer f fs (λ q. omega arith)
      ∙ ap (λ (gs : List Frame). f ∷ gs) (with_binding-none fs (Below-up fs f.number n (omega arith) h.1))

  pub length-with_binding : (fs : List Frame) → length (Changed fs) ≡ length fs
  length-with_binding [] = refl
  length-with_binding (f ∷ fs) =
      elim (cases_eq n f.number) [
        | inl is ↦ ap length (with_binding-here f fs is)
        | inr other ↦ ap length (with_binding-newer f fs other) ∙ ap suc (length-with_binding fs)
      ]

  pub Below-with_binding : (fs : List Frame) (b : ℕ) → Below b fs → Below b (Changed fs)
  Below-with_binding [] b h = h
  Below-with_binding (f ∷ fs) b h =
      elim (cases_eq n f.number) [
        | inl is ↦ subst (Below b) (sym (with_binding-here f fs is)) h
        | inr other ↦ subst (Below b) (sym (with_binding-newer f fs other)) (h.0, Below-with_binding fs f.number h.1)
      ]

  -- a cut of what was changed is what a change leaves of the cut
  pub oldest-with_binding : (k : ℕ) (fs : List Frame) (b : ℕ) → Below b fs → oldest k (Changed fs) ≡ Changed (oldest k fs)
  oldest-with_binding k [] b h = refl
  oldest-with_binding k (f ∷ fs) b h =
      let long = length-with_binding fs in
      elim (cases_oldest k f fs) [
        | inl x ↦
            let le = x.0 in
            elim (cases_eq n f.number) [
              | inl is ↦
                  ap (oldest k) (with_binding-here f fs is) ∙ oldest-newer k (changed change f) fs le
                  ∙ sym (with_binding-none (oldest k fs) (Below-oldest k fs n (Below-up fs f.number n (omega arith) h.1)))
                  ∙ sym (ap Changed x.1)
              | inr other ↦
                  ap (oldest k) (with_binding-newer f fs other) ∙ oldest-newer k f (Changed fs) (omega arith)
                  ∙ oldest-with_binding k fs f.number h.1
                  ∙ sym (ap Changed x.1)
            ]
        | inr x ↦
            let l = x.0 in
            let longer = length-with_binding (f ∷ fs) in
            oldest-all k (Changed (f ∷ fs)) (omega arith) ∙ sym (ap Changed x.1)
      ]

-- ---- cells

-- a write changes one binding
pub with_value-changes : (which : Which) (n : ℕ) (v : Datum) (fs : List Frame) → with_value_at which n v fs ≡ with_binding n (written which v) fs
with_value-changes own n v fs = refl
with_value-changes (element i) n v fs = refl

written-marks : (which : Which) (m : ℕ) (v : Datum) (b : Binding) (ms : List Mark) → with_mark_of m (written which v b) ms ≡ with_mark_of m b ms
written-marks own m v (to_thunk t) ms = refl
written-marks own m v (to_cell u) ms = refl
written-marks own m v to_escape ms = refl
written-marks own m v (to_sequence c) ms = refl
written-marks (element i) m v (to_thunk t) ms = refl
written-marks (element i) m v (to_cell u) ms = refl
written-marks (element i) m v to_escape ms = refl
written-marks (element i) m v (to_sequence c) ms = refl

pub marks-written : (which : Which) (n : ℕ) (v : Datum) (fs : List Frame) → marks_in (with_binding n (written which v) fs) ≡ marks_in fs
marks-written which n v [] = refl
marks-written which n v (f ∷ fs) =
    elim (cases_eq n f.number) [
      | inl is ↦ ap marks_in (with_binding-here n (written which v) f fs is) ∙ written-marks which f.number v f.binding (marks_in fs)
      | inr other ↦ ap marks_in (with_binding-newer n (written which v) f fs other) ∙ ap (with_mark_of f.number f.binding) (marks-written which n v fs)
    ]

cells-written : (which : Which) (m n : ℕ) (v : Datum) (b : Binding) (cs : List Row) → n ≡ m → with_value which n v cs ≡ cs →
    with_value which n v (with_cell_of m b cs) ≡ with_cell_of m (written which v b) cs
cells-written own m n v (to_thunk t) cs is e = e
cells-written own m n v (to_cell u) cs is e = rw (eq-eqb m n (sym is)) (ap (λ (k : ℕ). row_with k (single v) ∷ cs) is)
cells-written own m n v to_escape cs is e = e
cells-written own m n v (to_sequence q) cs is e = rw (eq-eqb m n (sym is)) (ap (λ (k : ℕ). row_with k (several q.place q.values) ∷ cs) is)
cells-written (element i) m n v (to_thunk t) cs is e = e
cells-written (element i) m n v (to_cell u) cs is e = rw (eq-eqb m n (sym is)) (ap (λ (k : ℕ). row_with k (single u) ∷ cs) is)
cells-written (element i) m n v to_escape cs is e = e
cells-written (element i) m n v (to_sequence q) cs is e =
    rw (eq-eqb m n (sym is)) (ap (λ (k : ℕ). row_with k (several q.place (set q.values i v)) ∷ cs) is)

cells-apart : (which : Which) (m n : ℕ) (v : Datum) (b : Binding) (cs ds : List Row) → n ≢ m → with_value which n v cs ≡ ds →
    with_value which n v (with_cell_of m b cs) ≡ with_cell_of m b ds
cells-apart which m n v (to_thunk t) cs ds apart e = e
cells-apart which m n v (to_cell u) cs ds apart e =
    rw (ne_eqb m n (λ q. apart (sym q))) (ap (λ (xs : List Row). row_with m (single u) ∷ xs) e)
cells-apart which m n v to_escape cs ds apart e = e
cells-apart which m n v (to_sequence q) cs ds apart e =
    rw (ne_eqb m n (λ p. apart (sym p))) (ap (λ (xs : List Row). row_with m (several q.place q.values) ∷ xs) e)

-- where no frame has the number, the store has no such cell
pub with_value-none : (which : Which) (n : ℕ) (v : Datum) (fs : List Frame) → Below n fs → with_value which n v (cells_in fs) ≡ cells_in fs
with_value-none which n v [] h = refl
with_value-none which n v (f ∷ fs) h =
    let l = h.0 in
    cells-apart which f.number n v f.binding (cells_in fs) (cells_in fs) (λ q. omega arith)
    (with_value-none which n v fs (Below-up fs f.number n (omega arith) h.1))

-- a write to a frame is one to the store
pub cells-changed : (which : Which) (n : ℕ) (v : Datum) (fs : List Frame) (b : ℕ) → Below b fs →
    with_value which n v (cells_in fs) ≡ cells_in (with_binding n (written which v) fs)
cells-changed which n v [] b h = refl
cells-changed which n v (f ∷ fs) b h =
    elim (cases_eq n f.number) [
      | inl is ↦
          cells-written which f.number n v f.binding (cells_in fs) is (with_value-none which n v fs (Below-up fs f.number n (omega arith) h.1))
          ∙ sym (ap cells_in (with_binding-here n (written which v) f fs is))
      | inr other ↦
          cells-apart which f.number n v f.binding (cells_in fs) (cells_in (with_binding n (written which v) fs)) other (cells-changed which n v fs f.number h.1)
          ∙ sym (ap cells_in (with_binding-newer n (written which v) f fs other))
    ]

pub IsEscape-written : (which : Which) (v : Datum) (b : Binding) → IsEscape b → IsEscape (written which v b)
IsEscape-written which v (to_thunk t) is = absurd is
IsEscape-written which v (to_cell u) is = absurd is
IsEscape-written own v to_escape is = is
IsEscape-written (element i) v to_escape is = is
IsEscape-written which v (to_sequence c) is = absurd is

-- ---- a frame that holds a cell or a sequence of cells is found on both sides

datum_of-newer : (n : ℕ) (f : Frame) (fs : List Frame) → n ≢ f.number → datum_of n (f ∷ fs) ≡ datum_of n fs
datum_of-newer n f fs apart = ap (λ (t : Bool). cond t (datum_in f.binding) (datum_of n fs)) (ne_eqb n f.number apart)

pub sequence_at-newer : (n : ℕ) (f : Frame) (fs : List Frame) → n ≢ f.number → sequence_at n (f ∷ fs) ≡ sequence_at n fs
sequence_at-newer n f fs apart = ap (λ (t : Bool). cond t (sequence_in f.binding) (sequence_at n fs)) (ne_eqb n f.number apart)

-- what the store holds for a binding
abbrev pub content_in : Binding → Option Content
content_in (to_thunk t) = None
content_in (to_cell v) = Some (single v)
content_in to_escape = None
content_in (to_sequence c) = Some (several c.place c.values)

pub content-apart : (n m : ℕ) (b : Binding) (cs : List Row) → n ≢ m → content_of n (with_cell_of m b cs) ≡ content_of n cs
content-apart n m (to_thunk t) cs apart = refl
content-apart n m (to_cell v) cs apart = ap (λ (t : Bool). cond t (Some (single v)) (content_of n cs)) (ne_eqb m n (λ q. apart (sym q)))
content-apart n m to_escape cs apart = refl
content-apart n m (to_sequence c) cs apart =
    ap (λ (t : Bool). cond t (Some (several c.place c.values)) (content_of n cs)) (ne_eqb m n (λ q. apart (sym q)))

pub content-here : (n m : ℕ) (b : Binding) (cs : List Row) → n ≡ m → IsRow b → content_of n (with_cell_of m b cs) ≡ content_in b
content-here n m (to_thunk t) cs e is = absurd is
content-here n m (to_cell v) cs e is = ap (λ (t : Bool). cond t (Some (single v)) (content_of n cs)) (eq-eqb m n (sym e))
content-here n m to_escape cs e is = absurd is
content-here n m (to_sequence c) cs e is =
    ap (λ (t : Bool). cond t (Some (several c.place c.values)) (content_of n cs)) (eq-eqb m n (sym e))

-- F says more of the binding
pub row-found : (F : Binding → Type 0) (n : ℕ) (fs : List Frame) → ((b : Binding) → F b → IsRow b) → HasFrame F n fs →
    (b : Binding) × F b × (datum_of n fs ≡ datum_in b) × (sequence_at n fs ≡ sequence_in b) × (content_of n (cells_in fs) ≡ content_in b)
row-found F n [] is h = absurd h
row-found F n (f ∷ fs) is (inl h) = (
  f.binding,
  h.1,
  ap (λ (t : Bool). cond t (datum_in f.binding) (datum_of n fs)) (eq-eqb n f.number h.0),
  ap (λ (t : Bool). cond t (sequence_in f.binding) (sequence_at n fs)) (eq-eqb n f.number h.0),
  content-here n f.number f.binding (cells_in fs) h.0 (is f.binding h.1),
)
row-found F n (f ∷ fs) is (inr h) =
    let x = row-found F n fs is h.1 in
    let l = h.0 in (
      x.0,
      x.1,
      datum_of-newer n f fs (λ q. omega arith) ∙ x.2,
      sequence_at-newer n f fs (λ q. omega arith) ∙ x.3,
      content-apart n f.number f.binding (cells_in fs) (λ q. omega arith) ∙ x.4,
    )
