-- Variables, cells and jumps are found on both sides, and a cell is written on both.
use Rattle.std.proofs.Common.{ℕ, zero, suc, ◌+◌, ◌≡◌, List, [], ◌∷◌, length, Option, Some, None, refl, sym, ap, ◌∙◌, subst, subst₂, inl, inr, arith, nat_eq, eq-eqb, ne_eqb}
use Rattle.std.proofs.lemmas.Bool.{cond-true, cond-false, cond_both}
use Rattle.fy_base.specs.declared.data.Datum.{Datum}
use Rattle.pe_frame.specs.Frames.{frame_words, words_of_context}
use Rattle.pe_machine.specs.States.{sequence_of, Sequence, Binding, to_thunk, to_cell, to_escape, to_sequence, Frame, Held, from_frame, frame_outside, datum_in, datum_of, with_datum, with_cell, handed_on}
use Rattle.pe_machine.specs.Sound.{IsNumbered}
use Rattle.pe_machine.proofs.FrameLemmas.{numbered_with_cell}
use Rattle.pe_items.specs.Items as items
use Rattle.pe_items.specs.Items.{ItemBinding, Item, frame, context, sequence, words, address_on, FoundFrame, frame_from, datum_at}
use Rattle.pe_items.proofs.Lays.{cost, Sort, any_frame, escape_frame, Fits, IsAt, AreAt, Sits, IsSequenceAt, ThunkStands, a_cell, a_jump, a_sequence, VariableStands, no_variable, a_variable, BindingStands, thunk_bound, cell_bound, escape_bound, sequence_bound, Lays, nothing, newer_frame, live_context, taken_context, laid_cells}
use Rattle.pe_items.proofs.Standing.{Kept, kept-context, kept-cells, kept-frame, names-kept, names-under, names-older, thunk-kept, variable-kept, context-kept}

-- ---- variables

-- what a variable hands on, of frame n at address x
handed-stands : {fs gs : List Frame} {is js : List Item} {cs : List Held} {newest n : ℕ} {b : Binding} {u : ItemBinding} (x : ℕ) → Kept fs is gs js →
    ((k : Sort) → Fits k b → IsAt k gs js n x) → ((y : ℕ) → Sits b u y → IsSequenceAt gs js n y) → BindingStands fs is cs newest n b u →
    ThunkStands gs js (handed_on n b) (items.handed_on x u)
handed-stands x w here row (thunk_bound t) = thunk-kept w t
handed-stands x w here row cell_bound = a_cell (here any_frame tt)
handed-stands x w here row (escape_bound e) = a_jump (here escape_frame tt)
handed-stands x w here row (sequence_bound {x = y} e q) = a_sequence (row y refl)

variable-frame : (f : Frame) (d : ℕ) (u : ItemBinding) (y : Option ℕ) (fs : List Frame) (is : List Item) (k n x : ℕ) → IsNumbered f.number fs →
    ThunkStands (f ∷ fs) (frame d u y ∷ is) (handed_on f.number f.binding) (items.handed_on (address_on is) u) →
    ((j : ℕ) → VariableStands fs is (frame_outside fs j f.around) (frame_from is j y)) →
    (IsAt any_frame fs is n x → VariableStands fs is (frame_outside fs k (Some n)) (frame_from is k (Some x))) →
    IsAt any_frame (f ∷ fs) (frame d u y ∷ is) n x → VariableStands (f ∷ fs) (frame d u y ∷ is) (frame_outside (f ∷ fs) k (Some n)) (frame_from (frame d u y ∷ is) k (Some x))
variable-frame f d u y fs is k n x h t around older (inl a) =
    subst₂ (λ (o : Option Frame) (p : Option FoundFrame). VariableStands (f ∷ fs) (frame d u y ∷ is) o p)
    (sym (cond-true (nat_eq n f.number) _ (frame_outside fs k (Some n)) (eq-eqb n f.number a.0)))
    (sym (cond-true (nat_eq x (address_on is)) _ (frame_from is k (Some x)) (eq-eqb x (address_on is) a.1))) (by k)
  where
    by : (j : ℕ) →
        VariableStands (f ∷ fs) (frame d u y ∷ is) (from_frame j f (λ i. frame_outside fs i f.around))
        (items.from_frame j (record { address = address_on is; binding = u }) (λ i. frame_from is i y))
    by zero = a_variable t
    by (suc j) = variable-kept (kept-frame f d u y fs is h) (around j)
variable-frame f d u y fs is k n x h t around older (inr a) =
    let l = a.0 in
    let m = a.1 in
    subst₂ (λ (o : Option Frame) (p : Option FoundFrame). VariableStands (f ∷ fs) (frame d u y ∷ is) o p)
    (sym (cond-false (nat_eq n f.number) _ (frame_outside fs k (Some n)) (ne_eqb n f.number (λ q. omega arith))))
    (sym (cond-false (nat_eq x (address_on is)) _ (frame_from is k (Some x)) (ne_eqb x (address_on is) (λ q. omega arith))))
    (variable-kept (kept-frame f d u y fs is h) (older a.2))

-- the frame k frames outside one that is named on both sides
pub variable-at : {fs : List Frame} {cs : List Held} {newest : ℕ} {is : List Item} (b k : ℕ) (r x : Option ℕ) → IsNumbered b fs → AreAt fs is r x → Lays fs cs newest is →
    VariableStands fs is (frame_outside fs k r) (frame_from is k x)
variable-at b k r x h a nothing = no_variable
variable-at b k r x h a (live_context {fs = fs} {newest = newest} {is = is} {e = e} counted small s l) =
    variable-kept (kept-context fs is e newest) (variable-at b k r x h (names-older fs is e newest r x a) l)
variable-at b k r x h a (taken_context {fs = fs} {outside = outside} {is = is} {e = e} l) =
    variable-kept (kept-context fs is e outside) (variable-at b k r x h (names-older fs is e outside r x a) l)
variable-at b k r x h a (laid_cells {fs = fs} {is = is} {c = c} l) = variable-kept (kept-cells fs is c) (variable-at b k r x h (names-under fs is c r x a) l)
variable-at b k None None h a (newer_frame {f = f} {fs = fs} {is = is} {u = u} {x = y} s o l) =
    variable-kept (kept-frame f f.depth u y fs is h.1) (variable-at f.number k None None h.1 tt l)
variable-at b k (Some n) (Some x) h a (newer_frame {f = f} {fs = fs} {is = is} {u = u} {x = y} s o l) =
    variable-frame f f.depth u y fs is k n x h.1 (handed-stands (address_on is) (kept-frame f f.depth u y fs is h.1) (λ i fit. inl (refl, refl, fit)) (λ z sits. inl (refl, sits)) s)
    (λ j. variable-at f.number j f.around y h.1 o l) (λ older. variable-at f.number k (Some n) (Some x) h.1 older l) a
variable-at b k None (Some x) h a (newer_frame s o l) = absurd a
variable-at b k (Some n) None h a (newer_frame s o l) = absurd a

-- ---- cells

pub binding-datum : {fs : List Frame} {is : List Item} {cs : List Held} {newest n : ℕ} {b : Binding} {u : ItemBinding} → BindingStands fs is cs newest n b u →
    datum_in b ≡ items.datum_in u
binding-datum (thunk_bound t) = refl
binding-datum cell_bound = refl
binding-datum (escape_bound e) = refl
binding-datum (sequence_bound e q) = refl

datum-frame : (f : Frame) (d : ℕ) (u : ItemBinding) (y : Option ℕ) (fs : List Frame) (is : List Item) (n x : ℕ) → datum_in f.binding ≡ items.datum_in u →
    (IsAt any_frame fs is n x → datum_of n fs ≡ datum_at x is) → IsAt any_frame (f ∷ fs) (frame d u y ∷ is) n x → datum_of n (f ∷ fs) ≡ datum_at x (frame d u y ∷ is)
datum-frame f d u y fs is n x e older (inl a) =
    cond-true (nat_eq n f.number) (datum_in f.binding) (datum_of n fs) (eq-eqb n f.number a.0) ∙ e
    ∙ sym (cond-true (nat_eq x (address_on is)) (items.datum_in u) (datum_at x is) (eq-eqb x (address_on is) a.1))
datum-frame f d u y fs is n x e older (inr a) =
    let l = a.0 in
    let m = a.1 in
    cond-false (nat_eq n f.number) (datum_in f.binding) (datum_of n fs) (ne_eqb n f.number (λ q. omega arith)) ∙ older a.2
    ∙ sym (cond-false (nat_eq x (address_on is)) (items.datum_in u) (datum_at x is) (ne_eqb x (address_on is) (λ q. omega arith)))

pub datum-found : {fs : List Frame} {cs : List Held} {newest : ℕ} {is : List Item} (n x : ℕ) → IsAt any_frame fs is n x → Lays fs cs newest is →
    datum_of n fs ≡ datum_at x is
datum-found n x a nothing = refl
datum-found n x a (newer_frame {f = f} {fs = fs} {is = is} {u = u} {x = y} s o l) =
    datum-frame f f.depth u y fs is n x (binding-datum s) (λ older. datum-found n x older l) a
datum-found n x a (live_context counted small s l) = datum-found n x a l
datum-found n x a (taken_context l) = datum-found n x a l
datum-found n x a (laid_cells l) = datum-found n x a l

-- ---- a cell is written

pub words-with_cell : (x : ℕ) (v : Datum) (is : List Item) → words (items.with_cell x v is) ≡ words is
words-with_cell x v [] = refl
words-with_cell x v (context e o ∷ is) = ap (λ n. n + 4) (words-with_cell x v is)
words-with_cell x v (sequence c ∷ is) = ap (λ n. n + length c.values) (words-with_cell x v is)
words-with_cell x v (frame d u o ∷ is) =
    cond_both (nat_eq x (address_on is)) (frame d (items.with_datum v u) o ∷ is) (frame d u o ∷ items.with_cell x v is) (λ js. words js ≡ words (frame d u o ∷ is))
    (λ q. refl) (λ q. ap (λ n. n + frame_words d) (words-with_cell x v is))

length-with_cell : (x : ℕ) (v : Datum) (is : List Item) → length (items.with_cell x v is) ≡ length is
length-with_cell x v [] = refl
length-with_cell x v (context e o ∷ is) = ap suc (length-with_cell x v is)
length-with_cell x v (sequence c ∷ is) = ap suc (length-with_cell x v is)
length-with_cell x v (frame d u o ∷ is) =
    cond_both (nat_eq x (address_on is)) (frame d (items.with_datum v u) o ∷ is) (frame d u o ∷ items.with_cell x v is) (λ js. length js ≡ length (frame d u o ∷ is))
    (λ q. refl) (λ q. ap suc (length-with_cell x v is))

pub cost-with_cell : (x : ℕ) (v : Datum) (is : List Item) → cost (items.with_cell x v is) ≡ cost is
cost-with_cell x v is = let w = words-with_cell x v is in let l = length-with_cell x v is in omega arith

frames-with_cell : (n : ℕ) (v : Datum) (fs : List Frame) → length (with_cell n v fs) ≡ length fs
frames-with_cell n v [] = refl
frames-with_cell n v (f ∷ fs) =
    cond_both (nat_eq n f.number) (record f { binding = with_datum v f.binding } ∷ fs) (f ∷ with_cell n v fs) (λ gs. length gs ≡ length (f ∷ fs)) (λ q. refl)
    (λ q. ap suc (frames-with_cell n v fs))

fits-with_datum : (k : Sort) (v : Datum) (b : Binding) → Fits k b → Fits k (with_datum v b)
fits-with_datum any_frame v b h = tt
fits-with_datum escape_frame v (to_thunk t) h = h
fits-with_datum escape_frame v (to_cell u) h = h
fits-with_datum escape_frame v to_escape h = h
fits-with_datum escape_frame v (to_sequence c) h = h

sits-with_datum : (v : Datum) (b : Binding) (u : ItemBinding) (x : ℕ) → Sits b u x → Sits (with_datum v b) (items.with_datum v u) x
sits-with_datum v (to_sequence c) (items.to_thunk t) x h = h
sits-with_datum v b u x h = absurd h

-- frame m at y stands also where frame n at x was written, which is this frame or an older one
at-with_cell : (v : Datum) (k : Sort) (n x m y : ℕ) (is : List Item) (fs : List Frame) → IsAt any_frame fs is n x → IsAt k fs is m y →
    IsAt k (with_cell n v fs) (items.with_cell x v is) m y
at-with_cell v k n x m y (context e o ∷ is) fs a t = at-with_cell v k n x m y is fs a t
at-with_cell v k n x m y (sequence c ∷ is) fs a t = at-with_cell v k n x m y is fs a t
at-with_cell v k n x m y [] [] a t = absurd a
at-with_cell v k n x m y [] (f ∷ fs) a t = absurd a
at-with_cell v k n x m y (frame d u o ∷ is) [] a t = absurd a
at-with_cell v k n x m y (frame d u o ∷ is) (f ∷ fs) (inl a) t =
    subst₂ (λ (gs : List Frame) (js : List Item). IsAt k gs js m y)
    (sym (cond-true (nat_eq n f.number) (record f { binding = with_datum v f.binding } ∷ fs) (f ∷ with_cell n v fs) (eq-eqb n f.number a.0)))
    (sym (cond-true (nat_eq x (address_on is)) (frame d (items.with_datum v u) o ∷ is) (frame d u o ∷ items.with_cell x v is) (eq-eqb x (address_on is) a.1)))
    (here t)
  where
    here : IsAt k (f ∷ fs) (frame d u o ∷ is) m y → IsAt k (record f { binding = with_datum v f.binding } ∷ fs) (frame d (items.with_datum v u) o ∷ is) m y
    here (inl b) = inl (b.0, b.1, fits-with_datum k v f.binding b.2)
    here (inr b) = inr b
at-with_cell v k n x m y (frame d u o ∷ is) (f ∷ fs) (inr a) t =
    let l = a.0 in
    let p = a.1 in
    subst₂ (λ (gs : List Frame) (js : List Item). IsAt k gs js m y)
    (sym (cond-false (nat_eq n f.number) (record f { binding = with_datum v f.binding } ∷ fs) (f ∷ with_cell n v fs) (ne_eqb n f.number (λ q. omega arith))))
    (sym (cond-false (nat_eq x (address_on is)) (frame d (items.with_datum v u) o ∷ is) (frame d u o ∷ items.with_cell x v is) (ne_eqb x (address_on is) (λ q. omega arith))))
    (there (λ b. at-with_cell v k n x m y is fs a.2 b) t)
  where
    there : (IsAt k fs is m y → IsAt k (with_cell n v fs) (items.with_cell x v is) m y) → IsAt k (f ∷ fs) (frame d u o ∷ is) m y →
        IsAt k (f ∷ with_cell n v fs) (frame d u o ∷ items.with_cell x v is) m y
    there older (inl b) = let w = words-with_cell x v is in let e = b.1 in inl (b.0, omega arith, b.2)
    there older (inr b) = let w = words-with_cell x v is in let e = b.1 in inr (b.0, omega arith, older b.2)

-- and so does the sequence of frame m
row-with_cell : (v : Datum) (n x m y : ℕ) (is : List Item) (fs : List Frame) → IsAt any_frame fs is n x → IsSequenceAt fs is m y →
    IsSequenceAt (with_cell n v fs) (items.with_cell x v is) m y
row-with_cell v n x m y (context e o ∷ is) fs a t = row-with_cell v n x m y is fs a t
row-with_cell v n x m y (sequence c ∷ is) fs a t = row-with_cell v n x m y is fs a t
row-with_cell v n x m y [] [] a t = absurd a
row-with_cell v n x m y [] (f ∷ fs) a t = absurd a
row-with_cell v n x m y (frame d u o ∷ is) [] a t = absurd a
row-with_cell v n x m y (frame d u o ∷ is) (f ∷ fs) (inl a) t =
    subst₂ (λ (gs : List Frame) (js : List Item). IsSequenceAt gs js m y)
    (sym (cond-true (nat_eq n f.number) (record f { binding = with_datum v f.binding } ∷ fs) (f ∷ with_cell n v fs) (eq-eqb n f.number a.0)))
    (sym (cond-true (nat_eq x (address_on is)) (frame d (items.with_datum v u) o ∷ is) (frame d u o ∷ items.with_cell x v is) (eq-eqb x (address_on is) a.1)))
    (here t)
  where
    here : IsSequenceAt (f ∷ fs) (frame d u o ∷ is) m y → IsSequenceAt (record f { binding = with_datum v f.binding } ∷ fs) (frame d (items.with_datum v u) o ∷ is) m y
    here (inl b) = inl (b.0, sits-with_datum v f.binding u y b.1)
    here (inr b) = inr b
row-with_cell v n x m y (frame d u o ∷ is) (f ∷ fs) (inr a) t =
    let l = a.0 in
    let p = a.1 in
    subst₂ (λ (gs : List Frame) (js : List Item). IsSequenceAt gs js m y)
    (sym (cond-false (nat_eq n f.number) (record f { binding = with_datum v f.binding } ∷ fs) (f ∷ with_cell n v fs) (ne_eqb n f.number (λ q. omega arith))))
    (sym (cond-false (nat_eq x (address_on is)) (frame d (items.with_datum v u) o ∷ is) (frame d u o ∷ items.with_cell x v is) (ne_eqb x (address_on is) (λ q. omega arith))))
    (there (λ b. row-with_cell v n x m y is fs a.2 b) t)
  where
    there : (IsSequenceAt fs is m y → IsSequenceAt (with_cell n v fs) (items.with_cell x v is) m y) → IsSequenceAt (f ∷ fs) (frame d u o ∷ is) m y →
        IsSequenceAt (f ∷ with_cell n v fs) (frame d u o ∷ items.with_cell x v is) m y
    there older (inl b) = inl b
    there older (inr b) = inr (b.0, older b.1)

kept-with_cell : (v : Datum) (n x : ℕ) (fs : List Frame) (is : List Item) → IsAt any_frame fs is n x → Kept fs is (with_cell n v fs) (items.with_cell x v is)
kept-with_cell v n x fs is a = record { stands = λ k m y t. at-with_cell v k n x m y is fs a t; sequences = λ m y t. row-with_cell v n x m y is fs a t }

-- below the frame that is written, where the cells of a sequence begin as before
pub binding-kept : {fs gs : List Frame} {is js : List Item} {cs : List Held} {newest n : ℕ} {b : Binding} {u : ItemBinding} → Kept fs is gs js →
    ((c : Sequence) (ks : List Item) (x : ℕ) → is ≡ sequence c ∷ ks → x + words_of_context ≡ address_on ks → BindingStands gs js cs newest n (to_sequence c) (items.to_thunk (sequence_of x))) →
    BindingStands fs is cs newest n b u → BindingStands gs js cs newest n b u
binding-kept w row (thunk_bound t) = thunk_bound (thunk-kept w t)
binding-kept w row cell_bound = cell_bound
binding-kept w row (escape_bound e) = escape_bound e
binding-kept w row (sequence_bound {c = c} {js = ks} {x = x} e q) = row c ks x e q

row-bound : {fs : List Frame} {cs : List Held} {newest n : ℕ} (x : ℕ) (v : Datum) (is : List Item) (c : Sequence) (ks : List Item) (y : ℕ) → is ≡ sequence c ∷ ks → y + words_of_context ≡ address_on ks →
    BindingStands fs (items.with_cell x v is) cs newest n (to_sequence c) (items.to_thunk (sequence_of y))
row-bound x v is c ks y e q = sequence_bound {js = items.with_cell x v ks} (ap (items.with_cell x v) e) (let w = words-with_cell x v ks in omega arith)

binding-with_datum : {fs : List Frame} {is : List Item} {cs : List Held} {newest n : ℕ} {b : Binding} {u : ItemBinding} (v : Datum) →
    BindingStands fs is cs newest n b u → BindingStands fs is cs newest n (with_datum v b) (items.with_datum v u)
binding-with_datum v (thunk_bound t) = thunk_bound t
binding-with_datum v cell_bound = cell_bound
binding-with_datum v (escape_bound e) = escape_bound e
binding-with_datum v (sequence_bound e q) = sequence_bound e q

lays-frame : (v : Datum) (f : Frame) (fs : List Frame) (cs : List Held) (newest : ℕ) (is : List Item) (u : ItemBinding) (y : Option ℕ) (n x : ℕ) →
    BindingStands fs is cs newest f.number f.binding u → AreAt fs is f.around y → Lays fs cs newest is →
    (IsAt any_frame fs is n x → Lays (with_cell n v fs) cs newest (items.with_cell x v is)) → IsAt any_frame (f ∷ fs) (frame f.depth u y ∷ is) n x →
    Lays (with_cell n v (f ∷ fs)) cs newest (items.with_cell x v (frame f.depth u y ∷ is))
lays-frame v f fs cs newest is u y n x s o l older (inl a) =
    let g : Frame = record f { binding = with_datum v f.binding } in
    subst₂ (λ (gs : List Frame) (js : List Item). Lays gs cs newest js)
    (sym (cond-true (nat_eq n f.number) (record f { binding = with_datum v f.binding } ∷ fs) (f ∷ with_cell n v fs) (eq-eqb n f.number a.0)))
    (sym (cond-true (nat_eq x (address_on is)) (frame f.depth (items.with_datum v u) y ∷ is) (frame f.depth u y ∷ items.with_cell x v is) (eq-eqb x (address_on is) a.1)))
    (newer_frame {f = g} (binding-with_datum v s) o l)
lays-frame v f fs cs newest is u y n x s o l older (inr a) =
    let less = a.0 in
    let lower = a.1 in
    let w = kept-with_cell v n x fs is a.2 in
    subst₂ (λ (gs : List Frame) (js : List Item). Lays gs cs newest js)
    (sym (cond-false (nat_eq n f.number) (record f { binding = with_datum v f.binding } ∷ fs) (f ∷ with_cell n v fs) (ne_eqb n f.number (λ q. omega arith))))
    (sym (cond-false (nat_eq x (address_on is)) (frame f.depth (items.with_datum v u) y ∷ is) (frame f.depth u y ∷ items.with_cell x v is) (ne_eqb x (address_on is) (λ q. omega arith))))
    (newer_frame (binding-kept w (row-bound x v is) s) (names-kept w f.around y o) (older a.2))

pub lays-with_cell : {fs : List Frame} {cs : List Held} {newest : ℕ} {is : List Item} (v : Datum) (n x : ℕ) → IsAt any_frame fs is n x → Lays fs cs newest is →
    Lays (with_cell n v fs) cs newest (items.with_cell x v is)
lays-with_cell v n x a nothing = nothing
lays-with_cell v n x a (newer_frame {f = f} {fs = fs} {cs = cs} {newest = newest} {is = is} {u = u} {x = y} s o l) =
    lays-frame v f fs cs newest is u y n x s o l (λ older. lays-with_cell v n x older l) a
lays-with_cell v n x a (live_context {c = c} {fs = fs} {cs = cs} {newest = newest} {is = is} {e = e} counted small s l) =
    let w = cost-with_cell x v is in
    let number = frames-with_cell n v fs in
    subst (λ (y : ℕ). Lays (with_cell n v fs) (c ∷ cs) y (context e newest ∷ items.with_cell x v is)) (ap suc (words-with_cell x v is))
    (live_context (omega arith) (omega arith) (context-kept (kept-with_cell v n x fs is a) (λ m h. numbered_with_cell m n v fs h) s) (lays-with_cell v n x a l))
lays-with_cell v n x a (taken_context l) = taken_context (lays-with_cell v n x a l)
lays-with_cell v n x a (laid_cells l) = laid_cells (lays-with_cell v n x a l)
