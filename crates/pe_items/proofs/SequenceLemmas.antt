-- The cells of a sequence are found on both sides, and one is written on both.
use Rattle.std.proofs.Common.{ℕ, suc, ◌+◌, ◌<◌, ◌≡◌, List, [], ◌∷◌, length, set, Option, Some, refl, sym, ap, ◌∙◌, subst, subst₂, inl, inr, arith, nat_eq, eq-eqb, ne_eqb}
use Rattle.std.proofs.lemmas.List.{length-set}
use Rattle.std.proofs.lemmas.Bool.{cond-true, cond-false, cond_both}
use Rattle.fy_base.specs.declared.data.Datum.{Datum}
use Rattle.pe_frame.specs.Frames.{frame_words, words_of_context}
use Rattle.pe_machine.specs.States.{sequence_of, Sequence, Binding, to_thunk, to_cell, to_escape, to_sequence, Frame, Held, sequence_in, sequence_at, with_element, with_binding}
use Rattle.pe_machine.proofs.FrameLemmas.{numbered_with_binding}
use Rattle.pe_items.specs.Items as items
use Rattle.pe_items.specs.Items.{ItemBinding, Item, frame, context, sequence, words, address_on}
use Rattle.pe_items.proofs.Lays.{cost, Sort, any_frame, escape_frame, Fits, IsAt, AreAt, Sits, IsSequenceAt, BindingStands, thunk_bound, cell_bound, escape_bound, sequence_bound, Lays, nothing, newer_frame, live_context, taken_context, laid_cells}
use Rattle.pe_items.proofs.Standing.{frame-width, Kept, kept-cells, names-kept, names-under, context-kept}
use Rattle.pe_items.proofs.VariableLemmas.{binding-kept}

-- ---- a sequence is found

-- the cells of a sequence that is bound are the newest item
pub record Here (is : List Item) (b : Binding) (u : ItemBinding) (x : ℕ) : Type 0 where
  pub cells : Sequence
  pub older : List Item
  pub binding_is : b ≡ to_sequence cells
  pub thunk_is : u ≡ items.to_thunk (sequence_of x)
  pub items_are : is ≡ sequence cells ∷ older
  pub stands : x + words_of_context ≡ address_on older

here-of : {fs : List Frame} {is : List Item} {cs : List Held} {newest n : ℕ} {b : Binding} {u : ItemBinding} (x : ℕ) → BindingStands fs is cs newest n b u → Sits b u x → Here is b u x
here-of x (thunk_bound t) h = absurd h
here-of x cell_bound h = absurd h
here-of x (escape_bound e) h = absurd h
here-of x (sequence_bound {c = c} {js = js} {x = y} e q) h = record {
  cells = c;
  older = js;
  binding_is = refl;
  thunk_is = ap (λ (z : ℕ). items.to_thunk (sequence_of z)) (sym h);
  items_are = e;
  stands = omega (arith, q, h);
}

under-newer : (f : Frame) (fs : List Frame) (cs : List Held) (newest : ℕ) (is : List Item) (u : ItemBinding) (y : Option ℕ) (n x : ℕ) → BindingStands fs is cs newest f.number f.binding u →
    (IsSequenceAt fs is n x → x + words_of_context < address_on is) → IsSequenceAt (f ∷ fs) (frame f.depth u y ∷ is) n x →
    x + words_of_context < address_on (frame f.depth u y ∷ is)
under-newer f fs cs newest is u y n x s older (inl a) =
    let h = here-of x s a.1 in
    let w = frame-width f.depth in
    let e : words is ≡ words h.older + length h.cells.values = ap words h.items_are in
    let q = h.stands in
    omega arith
under-newer f fs cs newest is u y n x s older (inr a) = let l = older a.1 in let w = frame-width f.depth in omega arith

-- it begins below all that is newer
pub sequence-under : {fs : List Frame} {cs : List Held} {newest : ℕ} {is : List Item} (n x : ℕ) → IsSequenceAt fs is n x → Lays fs cs newest is → x + words_of_context < address_on is
sequence-under n x a nothing = absurd a
sequence-under n x a (newer_frame {f = f} {fs = fs} {cs = cs} {newest = newest} {is = is} {u = u} {x = y} s o l) =
    under-newer f fs cs newest is u y n x s (λ older. sequence-under n x older l) a
sequence-under n x a (live_context counted small s l) = let w = sequence-under n x a l in omega arith
sequence-under n x a (taken_context l) = let w = sequence-under n x a l in omega arith
sequence-under n x a (laid_cells l) = let w = sequence-under n x a l in omega arith

found-newer : (f : Frame) (fs : List Frame) (cs : List Held) (newest : ℕ) (is : List Item) (u : ItemBinding) (y : Option ℕ) (n x : ℕ) → BindingStands fs is cs newest f.number f.binding u →
    (IsSequenceAt fs is n x → sequence_at n fs ≡ items.sequence_at x is) → IsSequenceAt (f ∷ fs) (frame f.depth u y ∷ is) n x →
    sequence_at n (f ∷ fs) ≡ items.sequence_at x (frame f.depth u y ∷ is)
found-newer f fs cs newest is u y n x s older (inl a) =
    let h = here-of x s a.1 in
    cond-true (nat_eq n f.number) (sequence_in f.binding) (sequence_at n fs) (eq-eqb n f.number a.0)
    ∙ ap (λ (b : Binding). sequence_in b) h.binding_is
    ∙ sym (ap (λ (js : List Item). items.sequence_at x js) h.items_are
    ∙ cond-true (nat_eq (x + words_of_context) (address_on h.older)) (Some h.cells) (items.sequence_at x h.older) (eq-eqb (x + words_of_context) (address_on h.older) h.stands))
found-newer f fs cs newest is u y n x s older (inr a) =
    let l = a.0 in
    cond-false (nat_eq n f.number) (sequence_in f.binding) (sequence_at n fs) (ne_eqb n f.number (λ q. omega arith)) ∙ older a.1

pub sequence-found : {fs : List Frame} {cs : List Held} {newest : ℕ} {is : List Item} (n x : ℕ) → IsSequenceAt fs is n x → Lays fs cs newest is →
    sequence_at n fs ≡ items.sequence_at x is
sequence-found n x a nothing = absurd a
sequence-found n x a (newer_frame {f = f} {fs = fs} {cs = cs} {newest = newest} {is = is} {u = u} {x = y} s o l) =
    found-newer f fs cs newest is u y n x s (λ older. sequence-found n x older l) a
sequence-found n x a (live_context counted small s l) = sequence-found n x a l
sequence-found n x a (taken_context l) = sequence-found n x a l
sequence-found n x a (laid_cells {is = is} {c = c} l) =
    let w = sequence-under n x a l in
    sequence-found n x a l
    ∙ sym (cond-false (nat_eq (x + words_of_context) (address_on is)) (Some c) (items.sequence_at x is) (ne_eqb (x + words_of_context) (address_on is) (λ q. omega arith)))

-- ---- a cell of it is written

pub words-with_element : (x i : ℕ) (v : Datum) (is : List Item) → words (items.with_element x i v is) ≡ words is
words-with_element x i v [] = refl
words-with_element x i v (context e o ∷ is) = ap (λ n. n + 4) (words-with_element x i v is)
words-with_element x i v (frame d u o ∷ is) = ap (λ n. n + frame_words d) (words-with_element x i v is)
words-with_element x i v (sequence c ∷ is) =
    cond_both (nat_eq (x + words_of_context) (address_on is)) (sequence (record c { values = set c.values i v }) ∷ is) (sequence c ∷ items.with_element x i v is)
    (λ js. words js ≡ words (sequence c ∷ is)) (λ q. ap (λ n. words is + n) (length-set c.values i v)) (λ q. ap (λ n. n + length c.values) (words-with_element x i v is))

length-with_element : (x i : ℕ) (v : Datum) (is : List Item) → length (items.with_element x i v is) ≡ length is
length-with_element x i v [] = refl
length-with_element x i v (context e o ∷ is) = ap suc (length-with_element x i v is)
length-with_element x i v (frame d u o ∷ is) = ap suc (length-with_element x i v is)
length-with_element x i v (sequence c ∷ is) =
    cond_both (nat_eq (x + words_of_context) (address_on is)) (sequence (record c { values = set c.values i v }) ∷ is) (sequence c ∷ items.with_element x i v is)
    (λ js. length js ≡ length (sequence c ∷ is)) (λ q. refl) (λ q. ap suc (length-with_element x i v is))

pub cost-with_element : (x i : ℕ) (v : Datum) (is : List Item) → cost (items.with_element x i v is) ≡ cost is
cost-with_element x i v is = let w = words-with_element x i v is in let l = length-with_element x i v is in omega arith

pub frames-with_binding : (n : ℕ) (change : Binding → Binding) (fs : List Frame) → length (with_binding n change fs) ≡ length fs
frames-with_binding n change [] = refl
frames-with_binding n change (f ∷ fs) =
    cond_both (nat_eq n f.number) (record f { binding = change f.binding } ∷ fs) (f ∷ with_binding n change fs) (λ gs. length gs ≡ length (f ∷ fs)) (λ q. refl)
    (λ q. ap suc (frames-with_binding n change fs))

fits-with_element : (k : Sort) (i : ℕ) (v : Datum) (b : Binding) → Fits k b → Fits k (with_element i v b)
fits-with_element any_frame i v b h = tt
fits-with_element escape_frame i v (to_thunk t) h = h
fits-with_element escape_frame i v (to_cell u) h = h
fits-with_element escape_frame i v to_escape h = h
fits-with_element escape_frame i v (to_sequence c) h = h

sits-with_element : (i : ℕ) (v : Datum) (b : Binding) (u : ItemBinding) (x : ℕ) → Sits b u x → Sits (with_element i v b) u x
sits-with_element i v (to_sequence c) (items.to_thunk (sequence_of y)) x h = h
sits-with_element i v b u x h = absurd h

-- cell i of the sequence of frame n, on the context at x, has v on both sides, and all stands as before
pub record Written (i : ℕ) (v : Datum) (n x : ℕ) (fs : List Frame) (cs : List Held) (newest : ℕ) (is : List Item) : Type 0 where
  pub lays : Lays (with_binding n (with_element i v) fs) cs newest (items.with_element x i v is)
  pub kept : Kept fs is (with_binding n (with_element i v) fs) (items.with_element x i v is)

cells-under : {fs : List Frame} {cs : List Held} {newest : ℕ} (c : Sequence) (js : List Item) → Lays fs cs newest (sequence c ∷ js) → Lays fs cs newest js
cells-under c js (laid_cells l) = l

-- the frame and the cells under it, one of which is another
kept-here : (i : ℕ) (v : Datum) (f : Frame) (fs : List Frame) (d : ℕ) (u : ItemBinding) (y : Option ℕ) (c : Sequence) (js : List Item) →
    Kept (f ∷ fs) (frame d u y ∷ sequence c ∷ js) (record f { binding = with_element i v f.binding } ∷ fs) (frame d u y ∷ sequence (record c { values = set c.values i v }) ∷ js)
kept-here i v f fs d u y c js = record { stands = at; sequences = row }
  where
    at : (k : Sort) (m z : ℕ) → IsAt k (f ∷ fs) (frame d u y ∷ sequence c ∷ js) m z →
        IsAt k (record f { binding = with_element i v f.binding } ∷ fs) (frame d u y ∷ sequence (record c { values = set c.values i v }) ∷ js) m z
    at k m z (inl b) = let w = length-set c.values i v in let e = b.1 in inl (b.0, omega arith, fits-with_element k i v f.binding b.2)
    at k m z (inr b) = let w = length-set c.values i v in let e = b.1 in inr (b.0, omega arith, b.2)

    row : (m z : ℕ) → IsSequenceAt (f ∷ fs) (frame d u y ∷ sequence c ∷ js) m z →
        IsSequenceAt (record f { binding = with_element i v f.binding } ∷ fs) (frame d u y ∷ sequence (record c { values = set c.values i v }) ∷ js) m z
    row m z (inl b) = inl (b.0, sits-with_element i v f.binding u z b.1)
    row m z (inr b) = inr b

written-here : (i : ℕ) (v : Datum) (f : Frame) (fs : List Frame) (cs : List Held) (newest : ℕ) (u : ItemBinding) (y : Option ℕ) (n x : ℕ) (c : Sequence) (js : List Item) → n ≡ f.number →
    f.binding ≡ to_sequence c → u ≡ items.to_thunk (sequence_of x) → x + words_of_context ≡ address_on js → AreAt fs (sequence c ∷ js) f.around y → Lays fs cs newest (sequence c ∷ js) →
    Written i v n x (f ∷ fs) cs newest (frame f.depth u y ∷ sequence c ∷ js)
written-here i v f fs cs newest u y n x c js number bound thunk stands around l =
    let g : Frame = record f { binding = with_element i v f.binding } in
    let q : Sequence = record c { values = set c.values i v } in
    let first : with_binding n (with_element i v) (f ∷ fs) ≡ g ∷ fs = cond-true (nat_eq n f.number) (g ∷ fs) (f ∷ with_binding n (with_element i v) fs) (eq-eqb n f.number number) in
    let below : items.with_element x i v (sequence c ∷ js) ≡ sequence q ∷ js =
    cond-true (nat_eq (x + words_of_context) (address_on js)) (sequence q ∷ js) (sequence c ∷ items.with_element x i v js) (eq-eqb (x + words_of_context) (address_on js) stands) in
    let binds : BindingStands fs (sequence q ∷ js) cs newest f.number (with_element i v f.binding) u =
    subst₂ (λ (b : Binding) (w : ItemBinding). BindingStands fs (sequence q ∷ js) cs newest f.number b w) (sym (ap (λ (b : Binding). with_element i v b) bound)) (sym thunk)
    (sequence_bound refl stands) in
    record {
      lays =
          subst₂ (λ (gs : List Frame) (ks : List Item). Lays gs cs newest (frame f.depth u y ∷ ks)) (sym first) (sym below)
          (newer_frame {f = g} binds (names-kept (kept-cells fs js q) f.around y (names-under fs js c f.around y around)) (laid_cells (cells-under c js l)));
      kept =
          subst₂ (λ (gs : List Frame) (ks : List Item). Kept (f ∷ fs) (frame f.depth u y ∷ sequence c ∷ js) gs (frame f.depth u y ∷ ks)) (sym first) (sym below)
          (kept-here i v f fs f.depth u y c js);
    }

-- past cells that aren't those of the sequence
passed-cells : {fs : List Frame} {cs : List Held} {newest : ℕ} (i : ℕ) (v : Datum) (n x : ℕ) (c : Sequence) (js : List Item) → IsSequenceAt fs js n x → Lays fs cs newest js →
    items.with_element x i v (sequence c ∷ js) ≡ sequence c ∷ items.with_element x i v js
passed-cells i v n x c js a l =
    let w = sequence-under n x a l in
    cond-false (nat_eq (x + words_of_context) (address_on js)) (sequence (record c { values = set c.values i v }) ∷ js) (sequence c ∷ items.with_element x i v js)
    (ne_eqb (x + words_of_context) (address_on js) (λ q. omega arith))

-- a newer frame, whose own cells are others
row-passed : {fs gs : List Frame} {cs : List Held} {newest m : ℕ} (i : ℕ) (v : Datum) (n x : ℕ) (is : List Item) → IsSequenceAt fs is n x → Lays fs cs newest is →
    (c : Sequence) (ks : List Item) (z : ℕ) → is ≡ sequence c ∷ ks → z + words_of_context ≡ address_on ks →
    BindingStands gs (items.with_element x i v is) cs newest m (to_sequence c) (items.to_thunk (sequence_of z))
row-passed {fs = fs} {cs = cs} {newest = newest} i v n x is a l c ks z e q =
    let at : IsSequenceAt fs ks n x = subst (λ (js : List Item). IsSequenceAt fs js n x) e a in
    let lays : Lays fs cs newest ks = cells-under c ks (subst (λ (js : List Item). Lays fs cs newest js) e l) in
    let w = words-with_element x i v ks in
    sequence_bound {js = items.with_element x i v ks} (ap (λ (js : List Item). items.with_element x i v js) e ∙ passed-cells i v n x c ks at lays) (omega arith)

kept-newer : (f : Frame) (d : ℕ) (u : ItemBinding) (y : Option ℕ) (fs gs : List Frame) (is js : List Item) → words js ≡ words is → Kept fs is gs js →
    Kept (f ∷ fs) (frame d u y ∷ is) (f ∷ gs) (frame d u y ∷ js)
kept-newer f d u y fs gs is js w kept = record { stands = at; sequences = row }
  where
    at : (k : Sort) (m z : ℕ) → IsAt k (f ∷ fs) (frame d u y ∷ is) m z → IsAt k (f ∷ gs) (frame d u y ∷ js) m z
    at k m z (inl b) = let e = b.1 in inl (b.0, omega arith, b.2)
    at k m z (inr b) = let e = b.1 in inr (b.0, omega arith, kept.stands k m z b.2)

    row : (m z : ℕ) → IsSequenceAt (f ∷ fs) (frame d u y ∷ is) m z → IsSequenceAt (f ∷ gs) (frame d u y ∷ js) m z
    row m z (inl b) = inl b
    row m z (inr b) = inr (b.0, kept.sequences m z b.1)

written-older : (i : ℕ) (v : Datum) (f : Frame) (fs : List Frame) (cs : List Held) (newest : ℕ) (is : List Item) (u : ItemBinding) (y : Option ℕ) (n x : ℕ) → n < f.number → IsSequenceAt fs is n x →
    BindingStands fs is cs newest f.number f.binding u → AreAt fs is f.around y → Lays fs cs newest is → Written i v n x fs cs newest is →
    Written i v n x (f ∷ fs) cs newest (frame f.depth u y ∷ is)
written-older i v f fs cs newest is u y n x less a s o l w =
    let passed : with_binding n (with_element i v) (f ∷ fs) ≡ f ∷ with_binding n (with_element i v) fs =
    cond-false (nat_eq n f.number) (record f { binding = with_element i v f.binding } ∷ fs) (f ∷ with_binding n (with_element i v) fs) (ne_eqb n f.number (λ q. omega arith)) in
    record {
      lays =
          subst (λ (gs : List Frame). Lays gs cs newest (frame f.depth u y ∷ items.with_element x i v is)) (sym passed)
          (newer_frame (binding-kept w.kept (row-passed i v n x is a l) s) (names-kept w.kept f.around y o) w.lays);
      kept =
          subst (λ (gs : List Frame). Kept (f ∷ fs) (frame f.depth u y ∷ is) gs (frame f.depth u y ∷ items.with_element x i v is)) (sym passed)
          (kept-newer f f.depth u y fs (with_binding n (with_element i v) fs) is (items.with_element x i v is) (words-with_element x i v is) w.kept);
    }

written-newer : (i : ℕ) (v : Datum) (f : Frame) (fs : List Frame) (cs : List Held) (newest : ℕ) (is : List Item) (u : ItemBinding) (y : Option ℕ) (n x : ℕ) →
    BindingStands fs is cs newest f.number f.binding u → AreAt fs is f.around y → Lays fs cs newest is → (IsSequenceAt fs is n x → Written i v n x fs cs newest is) →
    IsSequenceAt (f ∷ fs) (frame f.depth u y ∷ is) n x → Written i v n x (f ∷ fs) cs newest (frame f.depth u y ∷ is)
written-newer i v f fs cs newest is u y n x s o l older (inl a) =
    let h = here-of x s a.1 in
    subst (λ (js : List Item). Written i v n x (f ∷ fs) cs newest (frame f.depth u y ∷ js)) (sym h.items_are)
    (written-here i v f fs cs newest u y n x h.cells h.older a.0 h.binding_is h.thunk_is h.stands (subst (λ (js : List Item). AreAt fs js f.around y) h.items_are o)
    (subst (λ (js : List Item). Lays fs cs newest js) h.items_are l))
written-newer i v f fs cs newest is u y n x s o l older (inr a) = written-older i v f fs cs newest is u y n x a.0 a.1 s o l (older a.1)

pub written : {fs : List Frame} {cs : List Held} {newest : ℕ} {is : List Item} (i : ℕ) (v : Datum) (n x : ℕ) → IsSequenceAt fs is n x → Lays fs cs newest is → Written i v n x fs cs newest is
written i v n x a nothing = absurd a
written i v n x a (newer_frame {f = f} {fs = fs} {cs = cs} {newest = newest} {is = is} {u = u} {x = y} s o l) =
    written-newer i v f fs cs newest is u y n x s o l (λ older. written i v n x older l) a
written i v n x a (live_context {c = c} {fs = fs} {cs = cs} {newest = newest} {is = is} {e = e} counted small s l) =
    let w = written i v n x a l in
    let paid = cost-with_element x i v is in
    let number = frames-with_binding n (with_element i v) fs in
    record {
      lays =
          subst (λ (y : ℕ). Lays (with_binding n (with_element i v) fs) (c ∷ cs) y (context e newest ∷ items.with_element x i v is)) (ap suc (words-with_element x i v is))
          (live_context (omega arith) (omega arith) (context-kept w.kept (λ m h. numbered_with_binding m n (with_element i v) fs h) s) w.lays);
      kept = record { stands = λ k m z t. w.kept.stands k m z t; sequences = λ m z t. w.kept.sequences m z t };
    }
written i v n x a (taken_context l) =
    let w = written i v n x a l in
    record { lays = taken_context w.lays; kept = record { stands = λ k m z t. w.kept.stands k m z t; sequences = λ m z t. w.kept.sequences m z t } }
written i v n x a (laid_cells {fs = fs} {cs = cs} {newest = newest} {is = is} {c = c} l) =
    let w = written i v n x a l in
    let passed = passed-cells i v n x c is a l in
    record {
      lays = subst (λ (js : List Item). Lays (with_binding n (with_element i v) fs) cs newest js) (sym passed) (laid_cells w.lays);
      kept =
          subst (λ (js : List Item). Kept fs (sequence c ∷ is) (with_binding n (with_element i v) fs) js) (sym passed)
          (record { stands = λ k m z t. w.kept.stands k m z t; sequences = λ m z t. w.kept.sequences m z t });
    }
