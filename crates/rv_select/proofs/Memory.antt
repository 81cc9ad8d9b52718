-- Items in the words of the stack.
use Rattle.std.proofs.Common.{◌≡◌, ◌≢◌, ℕ, zero, suc, ◌+◌, ◌<◌, ◌≤◌, ◌⊎◌, Bool, true, false, cond, List, [], ◌∷◌, length, set, Some, None, refl, sym, ap, ◌∙◌, subst, inl, inr, arith}
use Rattle.std.proofs.lemmas.Bool.{cases_eq, cond-true, cond-false, eq-eqb, ne_eqb}
use Rattle.std.proofs.lemmas.Option.{same_Some, slice_get_within}
use Rattle.std.proofs.lemmas.List.{length-set}
use Rattle.std.specs.Prelude.{nat_eq, slice_get, slice_index}
use Rattle.std.specs.declared.option.Option.{Option}
use mathlib.Core.Path.{fun_ext}
use Rattle.fy_base.specs.declared.data.Datum.{Datum}
use Rattle.fy_phrase.specs.Copy.{Which, own, element}
use Rattle.pe_code.specs.declared.code.PeCode.{PeCode}
use Rattle.pe_frame.specs.Frames.{frame_words, display_start}
use Rattle.pe_machine.specs.States.{is_named, Sequence, element_in, PeContext}
use Rattle.pe_items.specs.Items.{ItemBinding, to_thunk, to_cell, to_escape, Item, frame, context, sequence, address_on, FoundContext, context_at, FoundFrame, from_frame, frame_from, handed_on, handed_by, with_datum, with_cell, datum_in, datum_at, context_in, escape_at, sequence_at, with_element, value_at, with_value}
use Rattle.rv_word.specs.Word.{word_address}
use Rattle.rv_operators.specs.Operators.{word_of}
use Rattle.rv_operators.specs.Laws.{IsDatum}
use Rattle.rv_select.specs.Numbers.{column_word}
use Rattle.rv_select.specs.Layout.{word_in, frames_from, address_found, column, payload, IsGoodThunk, IsGoodBinding, HasThird, LeavesBelow, FrameIsLaid, DropsCells, HasParts, ContextIsLaid, CellsAreLaid, SequenceIsLaid, IsLaid, AreLaid}
use Rattle.rv_select.proofs.Wp.{Wrote}
use Rattle.rv_select.proofs.Around.{by_eq, frame_room, frames_more, thunk_deeper, handed_good, from_here, from_else, address_with, address_element, cell_below, sequence_below, AreAlike, alike_with}

-- ---- writes

-- as many words, and the same below word x
pub record IsSameBelow (x : ℕ) (m n : List ℕ) : Type 0 where
  pub size : length n ≡ length m
  pub under : (y : ℕ) → y < x → slice_index n y ≡ slice_index m y

pub same_itself : (x : ℕ) (m : List ℕ) → IsSameBelow x m m
same_itself x m = record { size = refl; under = λ y lt. refl }

pub same_then : (x : ℕ) (m n k : List ℕ) → IsSameBelow x m n → IsSameBelow x n k → IsSameBelow x m k
same_then x m n k h g = record { size = g.size ∙ h.size; under = λ y lt. g.under y lt ∙ h.under y lt }

pub same_wrote : (x : ℕ) (m n : List ℕ) (j v : ℕ) → Wrote m n j v → x ≤ j → IsSameBelow x m n
same_wrote x m n j v w le = record { size = w.size; under = λ y lt. w.else y (λ e. omega arith) }

pub same_less : (x z : ℕ) (m n : List ℕ) → x ≤ z → IsSameBelow z m n → IsSameBelow x m n
same_less x z m n le h = record { size = h.size; under = λ y lt. h.under y (omega arith) }

-- another word than the one that was written
pub unwritten : (m n : List ℕ) (x j k v w : ℕ) → Wrote m n (x + j) v → (k ≢ j) → word_in m x k ≡ w → word_in n x k ≡ w
unwritten m n x j k v w h other is = h.else (x + k) (λ e. other (omega arith)) ∙ is

-- ---- items keep standing

pub parts_along : (code : PeCode) (depths : Option ℕ → Option ℕ) (c : PeContext) (w0 w2 w3 v0 v2 v3 : ℕ) → w0 ≡ v0 → w2 ≡ v2 → w3 ≡ v3 → HasParts code depths c w0 w2 w3 → HasParts code depths c v0 v2 v3
parts_along code depths c w0 w2 w3 v0 v2 v3 e0 e2 e3 h =
    subst (λ w. HasParts code depths c w v2 v3) e0 (subst (λ w. HasParts code depths c w0 w v3) e2 (subst (λ w. HasParts code depths c w0 w2 w) e3 h))

frame_same : (code : PeCode) (m n : List ℕ) (is : List Item) (d : ℕ) (b : ItemBinding) (around : Option ℕ) → IsSameBelow (address_on (frame d b around ∷ is)) m n
    → FrameIsLaid code m is d b around → FrameIsLaid code n is d b around
frame_same code m n is d b around e h =
    let room = frame_room d in
    record {
      column_is = e.under (address_on is + 0) (omega arith) ∙ h.column_is;
      payload_is = e.under (address_on is + 1) (omega arith) ∙ h.payload_is;
      third = subst (HasThird b) (sym (e.under (address_on is + 2) (omega arith))) h.third;
      below = h.below;
      display = λ j y lt found. e.under (address_on is + (display_start + j)) (omega arith) ∙ h.display j y lt found;
      depth_is = h.depth_is;
      good = h.good;
    }

context_same : (code : PeCode) (m n : List ℕ) (is : List Item) (c : PeContext) (o : ℕ) → IsSameBelow (address_on (context c o ∷ is)) m n → ContextIsLaid code m is c o → ContextIsLaid code n is c o
context_same code m n is c o e h = record {
  outside_is = e.under (address_on is + 1) (omega arith) ∙ h.outside_is;
  parts = parts_along code (frames_from is) c _ _ _ _ _ _ (sym (e.under (address_on is + 0) (omega arith))) (sym (e.under (address_on is + 2) (omega arith))) (sym (e.under (address_on is + 3) (omega arith))) h.parts;
}

-- the cells of a sequence, where their words and those of their context stay
cells_same : (code : PeCode) (m n : List ℕ) (x : ℕ) (c : Sequence) → ((k : ℕ) → k < 4 + length c.values → word_in n x k ≡ word_in m x k) → CellsAreLaid code m x c → CellsAreLaid code n x c
cells_same code m n x c word h = record {
  drops = subst (DropsCells code c.place) (sym (word 0 (omega arith))) h.drops;
  count = word 2 (omega arith) ∙ h.count;
  cells = λ i v found.
      let lt = slice_get_within c.values i v found in
      let spot : x + (4 + i) ≡ x + 4 + i = omega arith in
      let cell = h.cells i v found in
      (ap (λ j. slice_index n j) (sym spot) ∙ word (4 + i) (omega arith) ∙ ap (λ j. slice_index m j) spot ∙ cell.0, cell.1);
}

sequence_same : (code : PeCode) (m n : List ℕ) (is : List Item) (c : Sequence) → IsSameBelow (address_on (sequence c ∷ is)) m n → SequenceIsLaid code m is c → SequenceIsLaid code n is c
sequence_same code m n [] c e h = absurd h
sequence_same code m n (frame d b around ∷ is) c e h = absurd h
sequence_same code m n (sequence q ∷ is) c e h = absurd h
sequence_same code m n (context k o ∷ is) c e h = cells_same code m n (address_on is) c (λ j lt. e.under (address_on is + j) (omega arith)) h

item_same : (code : PeCode) (m n : List ℕ) (is : List Item) (i : Item) → IsSameBelow (address_on (i ∷ is)) m n → IsLaid code m is i → IsLaid code n is i
item_same code m n is (frame d b around) e h = frame_same code m n is d b around e h
item_same code m n is (context c o) e h = context_same code m n is c o e h
item_same code m n is (sequence c) e h = sequence_same code m n is c e h

item_room : (i : Item) (is : List Item) → address_on is ≤ address_on (i ∷ is)
item_room (frame d b around) is = omega arith
item_room (context c o) is = omega arith
item_room (sequence c) is = omega arith

-- what is written on top of them changes nothing
pub laid_same : (code : PeCode) (m n : List ℕ) (is : List Item) → IsSameBelow (address_on is) m n → AreLaid code m is → AreLaid code n is
laid_same code m n [] e h = tt
laid_same code m n (i ∷ is) e h =
    (item_same code m n is i e h.0, laid_same code m n is (let room = item_room i is in same_less (address_on is) (address_on (i ∷ is)) m n (omega arith) e) h.1)

-- ---- a variable's binding

-- what the frame that was found hands on stands in its first two words
pub record HandsOn (code : PeCode) (m : List ℕ) (is : List Item) (f : FoundFrame) : Type 0 where
  pub column_is : word_in m f.address 0 ≡ column_word (column code (handed_by f))
  pub payload_is : word_in m f.address 1 ≡ payload (handed_by f)
  pub good : IsGoodThunk code (frames_from is) (handed_by f)
  pub within : f.address + 3 ≤ address_on is

hands_more : (code : PeCode) (m : List ℕ) (i : Item) (is : List Item) (f : FoundFrame) → HandsOn code m is f → HandsOn code m (i ∷ is) f
hands_more code m i is f h = record {
  column_is = h.column_is;
  payload_is = h.payload_is;
  good = thunk_deeper code (frames_from is) (frames_from (i ∷ is)) (λ g d. frames_more i is g d) (handed_by f) h.good;
  within = (let room = item_room i is in let w = h.within in omega arith);
}

hands_here : (code : PeCode) (m : List ℕ) (is : List Item) (d : ℕ) (b : ItemBinding) (around : Option ℕ) → FrameIsLaid code m is d b around
    → HandsOn code m (frame d b around ∷ is) (record { address = address_on is; binding = b })
hands_here code m is d b around h = record {
  column_is = h.column_is;
  payload_is = h.payload_is;
  good = thunk_deeper code (frames_from is) (frames_from (frame d b around ∷ is)) (λ g n. frames_more (frame d b around) is g n) (handed_on (address_on is) b) (handed_good code (frames_from is) (address_on is) b h.good);
  within = (let room = frame_room d in omega arith);
}

pub hands_on : (code : PeCode) (m : List ℕ) (is : List Item) (k : ℕ) (x : Option ℕ) (f : FoundFrame) → frame_from is k x ≡ Some f → AreLaid code m is → HandsOn code m is f
hands_on code m [] k x f e h = absurd (cc)
hands_on code m (sequence c ∷ is) k x f e h = hands_more code m (sequence c) is f (hands_on code m is k x f e h.1)
hands_on code m (context c o ∷ is) k x f e h = hands_more code m (context c o) is f (hands_on code m is k x f e h.1)
hands_on code m (frame d b around ∷ is) k x f e h =
    by (is_named x (address_on is)) k (λ j g. hands_on code m is j around f g h.1) (λ g. hands_on code m is k x f g h.1) e
  where
    by : (t : Bool) (k : ℕ) → ((j : ℕ) → frame_from is j around ≡ Some f → HandsOn code m is f) → (frame_from is k x ≡ Some f → HandsOn code m is f)
        → cond t (from_frame k (record { address = address_on is; binding = b }) (λ j. frame_from is j around)) (frame_from is k x) ≡ Some f → HandsOn code m (frame d b around ∷ is) f
    by true zero outward other g =
        subst (λ (q : FoundFrame). HandsOn code m (frame d b around ∷ is) q) (same_Some (record { address = address_on is; binding = b }) f g) (hands_here code m is d b around h.0)
    by true (suc k) outward other g = hands_more code m (frame d b around) is f (outward k g)
    by false k outward other g = hands_more code m (frame d b around) is f (other g)

-- ---- a variable's own cell

-- the frame that was found stands below, and its binding is that at its address
pub record IsOwn (is : List Item) (f : FoundFrame) : Type 0 where
  pub below : f.address < address_on is
  pub datum_is : datum_at f.address is ≡ datum_in f.binding

own_more : (i : Item) (is : List Item) (f : FoundFrame) → IsOwn is f → IsOwn (i ∷ is) f
own_more (sequence c) is f h = record { below = (let b = h.below in omega arith); datum_is = h.datum_is }
own_more (context c o) is f h = record { below = (let b = h.below in omega arith); datum_is = h.datum_is }
own_more (frame d b around) is f h =
    let below = h.below in
    record {
      below = omega arith;
      datum_is = cond-false (nat_eq f.address (address_on is)) (datum_in b) (datum_at f.address is) (ne_eqb f.address (address_on is) (λ e. omega arith)) ∙ h.datum_is;
    }

own_here : (d : ℕ) (b : ItemBinding) (around : Option ℕ) (is : List Item) → IsOwn (frame d b around ∷ is) (record { address = address_on is; binding = b })
own_here d b around is = record {
  below = (let room = frame_room d in omega arith);
  datum_is = cond-true (nat_eq (address_on is) (address_on is)) (datum_in b) (datum_at (address_on is) is) (eq-eqb (address_on is) (address_on is) refl);
}

pub own_found : (is : List Item) (k : ℕ) (x : Option ℕ) (f : FoundFrame) → frame_from is k x ≡ Some f → IsOwn is f
own_found [] k x f e = absurd (cc)
own_found (sequence c ∷ is) k x f e = own_more (sequence c) is f (own_found is k x f e)
own_found (context c o ∷ is) k x f e = own_more (context c o) is f (own_found is k x f e)
own_found (frame d b around ∷ is) k x f e =
    by (is_named x (address_on is)) k (λ j g. own_found is j around f g) (λ g. own_found is k x f g) e
  where
    by : (t : Bool) (k : ℕ) → ((j : ℕ) → frame_from is j around ≡ Some f → IsOwn is f) → (frame_from is k x ≡ Some f → IsOwn is f)
        → cond t (from_frame k (record { address = address_on is; binding = b }) (λ j. frame_from is j around)) (frame_from is k x) ≡ Some f → IsOwn (frame d b around ∷ is) f
    by true zero outward other g =
        subst (λ (q : FoundFrame). IsOwn (frame d b around ∷ is) q) (same_Some (record { address = address_on is; binding = b }) f g) (own_here d b around is)
    by true (suc k) outward other g = own_more (frame d b around) is f (outward k g)
    by false k outward other g = own_more (frame d b around) is f (other g)

-- ---- the frame in use

-- word j of the display of the frame at word x, around which there are d frames
pub record ShowsFrames (m : List ℕ) (is : List Item) (x d : ℕ) : Type 0 where
  pub display : (j y : ℕ) → j < d → address_found (frame_from is (suc j) (Some x)) ≡ Some y → word_in m x (display_start + j) ≡ word_address y
  pub within : x + frame_words d ≤ address_on is

pub shows_frames : (code : PeCode) (m : List ℕ) (is : List Item) (x d : ℕ) → frames_from is (Some x) ≡ Some (suc d) → AreLaid code m is → ShowsFrames m is x d
shows_frames code m [] x d e h = absurd (cc)
shows_frames code m (sequence c ∷ is) x d e h =
    let r = shows_frames code m is x d e h.1 in
    record { display = r.display; within = (let w = r.within in omega arith) }
shows_frames code m (context c o ∷ is) x d e h =
    let r = shows_frames code m is x d e h.1 in
    record { display = r.display; within = (let w = r.within in omega arith) }
shows_frames code m (frame n b around ∷ is) x d e h =
    by_eq (λ o. o ≡ Some (suc d) → ShowsFrames m (frame n b around ∷ is) x d) x (address_on is) (Some (suc n)) (frames_from is (Some x))
    (λ same k. let depth : n ≡ d = (let s = same_Some (suc n) (suc d) k in omega arith) in here x d same depth)
    (λ other k. let r = shows_frames code m is x d k h.1 in record {
      display = λ j y lt found. r.display j y lt (sym (ap address_found (from_else n b around is (suc j) x other)) ∙ found);
      within = (let w = r.within in let room = frame_room n in omega arith);
    })
    e
  where
    here : (x d : ℕ) → x ≡ address_on is → n ≡ d → ShowsFrames m (frame n b around ∷ is) x d
    here x d same depth =
        subst (λ y. ShowsFrames m (frame n b around ∷ is) y d) (sym same)
        (subst (λ e. ShowsFrames m (frame n b around ∷ is) (address_on is) e) depth
        (record {
          display = λ j y lt found. h.0.display j y lt (sym (ap address_found (from_here n b around is (suc j))) ∙ found);
          within = omega arith;
        }))

-- ---- a context

-- the context at word x, and what a cut back to it leaves
pub record StandsAt (code : PeCode) (m : List ℕ) (is : List Item) (x : ℕ) (c : FoundContext) : Type 0 where
  pub spot : x ≡ address_on c.older
  pub older : AreLaid code m c.older
  pub here : ContextIsLaid code m c.older c.content c.outside
  pub within : address_on c.older + 4 ≤ address_on is
  pub deeper : (f : Option ℕ) (d : ℕ) → frames_from c.older f ≡ Some d → frames_from is f ≡ Some d

stands_more : (code : PeCode) (m : List ℕ) (i : Item) (is : List Item) (x : ℕ) (c : FoundContext) → StandsAt code m is x c → StandsAt code m (i ∷ is) x c
stands_more code m i is x c r = record {
  spot = r.spot;
  older = r.older;
  here = r.here;
  within = (let w = r.within in let room = item_room i is in omega arith);
  deeper = λ f d e. frames_more i is f d (r.deeper f d e);
}

pub stands_at : (code : PeCode) (m : List ℕ) (is : List Item) (x : ℕ) (c : FoundContext) → context_at x is ≡ Some c → AreLaid code m is → StandsAt code m is x c
stands_at code m [] x c e h = absurd (cc)
stands_at code m (sequence q ∷ is) x c e h = stands_more code m (sequence q) is x c (stands_at code m is x c e h.1)
stands_at code m (frame d b around ∷ is) x c e h = stands_more code m (frame d b around) is x c (stands_at code m is x c e h.1)
stands_at code m (context k o ∷ is) x c e h =
    by_eq (λ q. q ≡ Some c → StandsAt code m (context k o ∷ is) x c) x (address_on is) (Some (record { content = k; outside = o; older = is })) (context_at x is)
    (λ same g. subst (λ (q : FoundContext). StandsAt code m (context k o ∷ is) x q) (same_Some (record { content = k; outside = o; older = is }) c g)
    (record { spot = same; older = h.1; here = h.0; within = omega arith; deeper = λ f d. frames_more (context k o) is f d }))
    (λ other g. stands_more code m (context k o) is x c (stands_at code m is x c g h.1))
    e

-- ---- cells and escapes

pub record CellIs (m : List ℕ) (is : List Item) (x : ℕ) (v : Datum) : Type 0 where
  pub value_is : word_in m x 2 ≡ word_of v
  pub good : IsDatum v
  pub within : x + 3 ≤ address_on is

pub cell_is : (code : PeCode) (m : List ℕ) (is : List Item) (x : ℕ) (v : Datum) → datum_at x is ≡ Some v → AreLaid code m is → CellIs m is x v
cell_is code m [] x v e h = absurd (cc)
cell_is code m (sequence c ∷ is) x v e h =
    let r = cell_is code m is x v e h.1 in record { value_is = r.value_is; good = r.good; within = (let w = r.within in omega arith) }
cell_is code m (context c o ∷ is) x v e h =
    let r = cell_is code m is x v e h.1 in record { value_is = r.value_is; good = r.good; within = (let w = r.within in omega arith) }
cell_is code m (frame d b around ∷ is) x v e h =
    by_eq (λ o. o ≡ Some v → CellIs m (frame d b around ∷ is) x v) x (address_on is) (datum_in b) (datum_at x is)
    (λ same k. here b same k h.0.third h.0.good)
    (λ other k. let r = cell_is code m is x v k h.1 in record { value_is = r.value_is; good = r.good; within = (let w = r.within in let room = frame_room d in omega arith) })
    e
  where
    here : (b : ItemBinding) → x ≡ address_on is → datum_in b ≡ Some v → HasThird b (word_in m (address_on is) 2) → IsGoodBinding code (frames_from is) b → CellIs m (frame d b around ∷ is) x v
    here (to_thunk t) same k third good = absurd (cc)
    here (to_escape c) same k third good = absurd (cc)
    here (to_cell u) same k third good =
        let v' = same_Some u v k in
        record {
          value_is = ap (λ y. word_in m y 2) same ∙ third ∙ ap word_of v';
          good = subst IsDatum v' good;
          within = (let room = frame_room d in omega arith);
        }

pub record EscapeIs (m : List ℕ) (is : List Item) (x c : ℕ) : Type 0 where
  pub context_is : word_in m x 2 ≡ word_address c
  pub within : x + 3 ≤ address_on is
  pub below : c < address_on is

pub escape_is : (code : PeCode) (m : List ℕ) (is : List Item) (x c : ℕ) → escape_at x is ≡ Some c → AreLaid code m is → EscapeIs m is x c
escape_is code m [] x c e h = absurd (cc)
escape_is code m (sequence q ∷ is) x c e h =
    let r = escape_is code m is x c e h.1 in record { context_is = r.context_is; within = (let w = r.within in omega arith); below = (let b = r.below in omega arith) }
escape_is code m (context k o ∷ is) x c e h =
    let r = escape_is code m is x c e h.1 in record { context_is = r.context_is; within = (let w = r.within in omega arith); below = (let b = r.below in omega arith) }
escape_is code m (frame d b around ∷ is) x c e h =
    by_eq (λ o. o ≡ Some c → EscapeIs m (frame d b around ∷ is) x c) x (address_on is) (context_in b) (escape_at x is)
    (λ same k. here b same k h.0.third h.0.below)
    (λ other k. let r = escape_is code m is x c k h.1 in record {
      context_is = r.context_is;
      within = (let w = r.within in let room = frame_room d in omega arith);
      below = (let b = r.below in let room = frame_room d in omega arith);
    })
    e
  where
    here : (b : ItemBinding) → x ≡ address_on is → context_in b ≡ Some c → HasThird b (word_in m (address_on is) 2) → LeavesBelow b (address_on is) → EscapeIs m (frame d b around ∷ is) x c
    here (to_thunk t) same k third below = absurd (cc)
    here (to_cell v) same k third below = absurd (cc)
    here (to_escape a) same k third below = record {
      context_is = ap (λ y. word_in m y 2) same ∙ third ∙ ap word_address (same_Some a c k);
      within = (let room = frame_room d in omega arith);
      below = (let room = frame_room d in let one = same_Some a c k in omega arith);
    }

-- ---- sequences of cells

pub record SequenceIs (code : PeCode) (m : List ℕ) (is : List Item) (x : ℕ) (c : Sequence) : Type 0 where
  pub laid : CellsAreLaid code m x c
  pub within : x + 4 + length c.values ≤ address_on is

pub sequence_is : (code : PeCode) (m : List ℕ) (is : List Item) (x : ℕ) (c : Sequence) → sequence_at x is ≡ Some c → AreLaid code m is → SequenceIs code m is x c
sequence_is code m [] x c e h = absurd (cc)
sequence_is code m (context k o ∷ is) x c e h =
    let r = sequence_is code m is x c e h.1 in record { laid = r.laid; within = (let w = r.within in omega arith) }
sequence_is code m (frame d b around ∷ is) x c e h =
    let r = sequence_is code m is x c e h.1 in record { laid = r.laid; within = (let w = r.within in let room = frame_room d in omega arith) }
sequence_is code m (sequence q ∷ is) x c e h =
    by_eq (λ o. o ≡ Some c → SequenceIs code m (sequence q ∷ is) x c) (x + 4) (address_on is) (Some q) (sequence_at x is)
    (λ same k. subst (λ (z : Sequence). SequenceIs code m (sequence q ∷ is) x z) (same_Some q c k) (here is same h.0))
    (λ other k. let r = sequence_is code m is x c k h.1 in record { laid = r.laid; within = (let w = r.within in omega arith) })
    e
  where
    here : (is : List Item) → x + 4 ≡ address_on is → SequenceIsLaid code m is q → SequenceIs code m (sequence q ∷ is) x q
    here [] same laid = absurd laid
    here (frame d b around ∷ is) same laid = absurd laid
    here (sequence p ∷ is) same laid = absurd laid
    here (context k o ∷ is) same laid =
        let spot : address_on is ≡ x = omega arith in
        record { laid = subst (λ y. CellsAreLaid code m y q) spot laid; within = omega arith }

-- ---- a cell of either sort

-- its datum is word 2 behind this one: its frame, or, of a sequence, as many words behind the number of the cells as its index says
abbrev pub cell_spot : Which → ℕ → ℕ
cell_spot own x = x
cell_spot (element i) x = x + 2 + i

pub value_is : (code : PeCode) (m : List ℕ) (is : List Item) (which : Which) (x : ℕ) (v : Datum) → value_at which x is ≡ Some v → AreLaid code m is → CellIs m is (cell_spot which x) v
value_is code m is own x v e h = cell_is code m is x v e h
value_is code m is (element i) x v e h =
    by (sequence_at x is) refl e
  where
    by : (o : Option Sequence) → sequence_at x is ≡ o → element_in i o ≡ Some v → CellIs m is (x + 2 + i) v
    by None at k = absurd (cc)
    by (Some c) at k =
        let r = sequence_is code m is x c at h in
        let within = r.within in
        let lt = slice_get_within c.values i v k in
        let cell = r.laid.cells i v k in
        let spot : x + 2 + i + 2 ≡ x + 4 + i = omega arith in
        record { value_is = ap (λ j. slice_index m j) spot ∙ cell.0; good = cell.1; within = omega arith }

-- ---- a cell is written

-- an item that stands above the word
context_kept : (code : PeCode) (m n : List ℕ) (j v : ℕ) (is js : List Item) (c : PeContext) (o : ℕ) → AreAlike is js → Wrote m n j v → j < address_on is → ContextIsLaid code m is c o → ContextIsLaid code n js c o
context_kept code m n j v is js c o alike w lt h =
    let same : frames_from is ≡ frames_from js = fun_ext (λ f. sym (alike.frames f)) in
    let word : (k : ℕ) → word_in m (address_on is) k ≡ word_in n (address_on js) k = λ k. sym (ap (λ y. slice_index n (y + k)) alike.address ∙ w.else (address_on is + k) (λ e. omega arith)) in
    record {
      outside_is = sym (word 1) ∙ h.outside_is;
      parts = subst (λ (depths : Option ℕ → Option ℕ). HasParts code depths c (word_in n (address_on js) 0) (word_in n (address_on js) 2) (word_in n (address_on js) 3)) same
          (parts_along code (frames_from is) c _ _ _ _ _ _ (word 0) (word 2) (word 3) h.parts);
    }

binding_deeper : (code : PeCode) (p q : Option ℕ → Option ℕ) → ((f : Option ℕ) (d : ℕ) → p f ≡ Some d → q f ≡ Some d) → (b : ItemBinding) → IsGoodBinding code p b → IsGoodBinding code q b
binding_deeper code p q h (to_thunk t) g = thunk_deeper code p q h t g
binding_deeper code p q h (to_cell v) g = g
binding_deeper code p q h (to_escape c) g = tt

frame_kept : (code : PeCode) (m n : List ℕ) (j v : ℕ) (is js : List Item) (d : ℕ) (b : ItemBinding) (around : Option ℕ) → AreAlike is js → Wrote m n j v → j < address_on is
    → FrameIsLaid code m is d b around → FrameIsLaid code n js d b around
frame_kept code m n j v is js d b around alike w lt h =
    let a = alike.address in
    let word : (k : ℕ) → word_in n (address_on js) k ≡ word_in m (address_on is) k = λ k. ap (λ y. slice_index n (y + k)) a ∙ w.else (address_on is + k) (λ e. omega arith) in
    record {
      column_is = word 0 ∙ h.column_is ∙ ap (λ y. column_word (column code (handed_on y b))) (sym a);
      payload_is = word 1 ∙ h.payload_is ∙ ap (λ y. payload (handed_on y b)) (sym a);
      third = subst (HasThird b) (sym (word 2)) h.third;
      below = subst (LeavesBelow b) (sym a) h.below;
      display = λ k y inside found. word (display_start + k) ∙ h.display k y inside (sym (alike.found k around) ∙ found);
      depth_is = alike.frames around ∙ h.depth_is;
      good = binding_deeper code (frames_from is) (frames_from js) (λ f k e. alike.frames f ∙ e) b h.good;
    }

-- the cells of a sequence on the context at word x, which stands at word y then
cells_kept : (code : PeCode) (m n : List ℕ) (j v x y : ℕ) (c : Sequence) → y ≡ x → Wrote m n j v → j < x → CellsAreLaid code m x c → CellsAreLaid code n y c
cells_kept code m n j v x y c same w lt h =
    subst (λ z. CellsAreLaid code n z c) (sym same) (cells_same code m n x c (λ k inside. w.else (x + k) (λ e. omega arith)) h)

cell_written : (code : PeCode) (m n : List ℕ) (x : ℕ) (u v : Datum) (is : List Item) (d : ℕ) (b : ItemBinding) (around : Option ℕ) → datum_in b ≡ Some u → x ≡ address_on is → Wrote m n (x + 2) (word_of v) → IsDatum v
    → FrameIsLaid code m is d b around → FrameIsLaid code n is d (with_datum v b) around
cell_written code m n x u v is d (to_thunk t) around e same w good h = absurd (cc)
cell_written code m n x u v is d (to_escape c) around e same w good h = absurd (cc)
cell_written code m n x u v is d (to_cell z) around e same w good h =
    let word : (k : ℕ) → k ≢ 2 → word_in n (address_on is) k ≡ word_in m (address_on is) k = λ k other. w.else (address_on is + k) (λ q. other (omega arith)) in
    record {
      column_is = word 0 (λ q. omega (arith, q)) ∙ h.column_is;
      payload_is = word 1 (λ q. omega (arith, q)) ∙ h.payload_is;
      third = ap (λ y. slice_index n (y + 2)) (sym same) ∙ w.here;
      below = tt;
      display = λ j y lt found. word (display_start + j) (λ q. omega (arith, q)) ∙ h.display j y lt found;
      depth_is = h.depth_is;
      good = good;
    }

laid_with : (code : PeCode) (m n : List ℕ) (x : ℕ) (u v : Datum) (is : List Item) → datum_at x is ≡ Some u → Wrote m n (x + 2) (word_of v) → IsDatum v → AreLaid code m is → AreLaid code n (with_cell x v is)
laid_with code m n x u v [] e w good h = absurd (cc)
laid_with code m n x u v (sequence c ∷ is) e w good h =
    (on is e h.0, laid_with code m n x u v is e w good h.1)
  where
    on : (is : List Item) → datum_at x is ≡ Some u → SequenceIsLaid code m is c → SequenceIsLaid code n (with_cell x v is) c
    on [] k laid = absurd laid
    on (frame d b around ∷ is) k laid = absurd laid
    on (sequence q ∷ is) k laid = absurd laid
    on (context q o ∷ is) k laid =
        let below = cell_below x u is k in cells_kept code m n (x + 2) (word_of v) (address_on is) (address_on (with_cell x v is)) c (address_with x v is) w (omega arith) laid
laid_with code m n x u v (context c o ∷ is) e w good h =
    let below = cell_below x u is e in
    (context_kept code m n (x + 2) (word_of v) is (with_cell x v is) c o (alike_with own x v is) w (omega arith) h.0, laid_with code m n x u v is e w good h.1)
laid_with code m n x u v (frame d b around ∷ is) e w good h =
    by (cases_eq x (address_on is)) (λ k. laid_with code m n x u v is k w good h.1)
  where
    by : (x ≡ address_on is) ⊎ (x ≡ address_on is → ⊥) → (datum_at x is ≡ Some u → AreLaid code n (with_cell x v is)) → AreLaid code n (with_cell x v (frame d b around ∷ is))
    by (inl same) further =
        let k : datum_in b ≡ Some u = sym (cond-true (nat_eq x (address_on is)) (datum_in b) (datum_at x is) (eq-eqb x (address_on is) same)) ∙ e in
        subst (AreLaid code n) (sym (cond-true (nat_eq x (address_on is)) (frame d (with_datum v b) around ∷ is) (frame d b around ∷ with_cell x v is) (eq-eqb x (address_on is) same)))
        (cell_written code m n x u v is d b around k same w good h.0, laid_same code m n is (same_wrote (address_on is) m n (x + 2) (word_of v) w (omega arith)) h.1)
    by (inr other) further =
        let k : datum_at x is ≡ Some u = sym (cond-false (nat_eq x (address_on is)) (datum_in b) (datum_at x is) (ne_eqb x (address_on is) other)) ∙ e in
        let below = cell_below x u is k in
        subst (AreLaid code n) (sym (cond-false (nat_eq x (address_on is)) (frame d (with_datum v b) around ∷ is) (frame d b around ∷ with_cell x v is) (ne_eqb x (address_on is) other)))
        (frame_kept code m n (x + 2) (word_of v) is (with_cell x v is) d b around (alike_with own x v is) w (omega arith) h.0, further k)

-- ---- a cell of a sequence is written

get_set : (vs : List Datum) (i : ℕ) (v : Datum) → i < length vs → slice_get (set vs i v) i ≡ Some v
get_set [] i v lt = absurd (omega arith)
get_set (u ∷ vs) zero v lt = refl
get_set (u ∷ vs) (suc i) v lt = get_set vs i v (omega arith)

get_else : (vs : List Datum) (i k : ℕ) (v : Datum) → k ≢ i → slice_get (set vs i v) k ≡ slice_get vs k
get_else [] i k v other = refl
get_else (u ∷ vs) zero zero v other = absurd (other refl)
get_else (u ∷ vs) zero (suc k) v other = refl
get_else (u ∷ vs) (suc i) zero v other = refl
get_else (u ∷ vs) (suc i) (suc k) v other = get_else vs i k v (λ e. other (ap suc e))

-- of the sequence on the context at word x
cells_written : (code : PeCode) (m n : List ℕ) (x i : ℕ) (v : Datum) (c : Sequence) → i < length c.values → Wrote m n (x + 4 + i) (word_of v) → IsDatum v → CellsAreLaid code m x c
    → CellsAreLaid code n x (record c { values = set c.values i v })
cells_written code m n x i v c lt w good h = record {
  drops = subst (DropsCells code c.place) (sym (w.else (x + 0) (λ e. omega arith))) h.drops;
  count = w.else (x + 2) (λ e. omega arith) ∙ h.count ∙ sym (length-set c.values i v);
  cells = λ k u found. by k u found (cases_eq k i);
}
  where
    by : (k : ℕ) (u : Datum) → slice_get (set c.values i v) k ≡ Some u → (k ≡ i) ⊎ (k ≡ i → ⊥) → (word_in n (x + 4) k ≡ word_of u) × IsDatum u
    by k u found (inl same) =
        let one : v ≡ u = same_Some v u (sym (get_set c.values i v lt) ∙ ap (λ j. slice_get (set c.values i v) j) (sym same) ∙ found) in
        (ap (λ j. word_in n (x + 4) j) same ∙ w.here ∙ ap word_of one, subst IsDatum one good)
    by k u found (inr other) =
        let cell = h.cells k u (sym (get_else c.values i k v other) ∙ found) in
        (w.else (x + 4 + k) (λ e. other (omega arith)) ∙ cell.0, cell.1)

laid_element : (code : PeCode) (m n : List ℕ) (x i : ℕ) (c : Sequence) (v : Datum) (is : List Item) → sequence_at x is ≡ Some c → i < length c.values → Wrote m n (x + 4 + i) (word_of v) → IsDatum v → AreLaid code m is
    → AreLaid code n (with_element x i v is)
laid_element code m n x i c v [] e lt w good h = absurd (cc)
laid_element code m n x i c v (context k o ∷ is) e lt w good h =
    let below = sequence_below x c is e in
    (context_kept code m n (x + 4 + i) (word_of v) is (with_element x i v is) k o (alike_with (element i) x v is) w (omega arith) h.0, laid_element code m n x i c v is e lt w good h.1)
laid_element code m n x i c v (frame d b around ∷ is) e lt w good h =
    let below = sequence_below x c is e in
    (frame_kept code m n (x + 4 + i) (word_of v) is (with_element x i v is) d b around (alike_with (element i) x v is) w (omega arith) h.0, laid_element code m n x i c v is e lt w good h.1)
laid_element code m n x i c v (sequence q ∷ is) e lt w good h =
    by (cases_eq (x + 4) (address_on is)) (λ k. laid_element code m n x i c v is k lt w good h.1)
  where
    here : (is : List Item) → x + 4 ≡ address_on is → i < length q.values → SequenceIsLaid code m is q → SequenceIsLaid code n is (record q { values = set q.values i v })
    here [] same less laid = absurd laid
    here (frame d b around ∷ is) same less laid = absurd laid
    here (sequence p ∷ is) same less laid = absurd laid
    here (context k o ∷ is) same less laid =
        let spot : x + 4 + i ≡ address_on is + 4 + i = omega arith in
        cells_written code m n (address_on is) i v q less (subst (λ j. Wrote m n j (word_of v)) spot w) good laid

    on : (is : List Item) → sequence_at x is ≡ Some c → SequenceIsLaid code m is q → SequenceIsLaid code n (with_element x i v is) q
    on [] k laid = absurd laid
    on (frame d b around ∷ is) k laid = absurd laid
    on (sequence p ∷ is) k laid = absurd laid
    on (context p o ∷ is) k laid =
        let below = sequence_below x c is k in
        cells_kept code m n (x + 4 + i) (word_of v) (address_on is) (address_on (with_element x i v is)) q (address_element x i v is) w (omega arith) laid

    by : (x + 4 ≡ address_on is) ⊎ (x + 4 ≡ address_on is → ⊥) → (sequence_at x is ≡ Some c → AreLaid code n (with_element x i v is)) → AreLaid code n (with_element x i v (sequence q ∷ is))
    by (inl same) further =
        let k : Some q ≡ Some c = sym (cond-true (nat_eq (x + 4) (address_on is)) (Some q) (sequence_at x is) (eq-eqb (x + 4) (address_on is) same)) ∙ e in
        let long = ap (λ (z : Sequence). length z.values) (same_Some q c k) in
        subst (AreLaid code n) (sym (cond-true (nat_eq (x + 4) (address_on is)) (sequence (record q { values = set q.values i v }) ∷ is) (sequence q ∷ with_element x i v is) (eq-eqb (x + 4) (address_on is) same)))
        (here is same (omega arith) h.0, laid_same code m n is (same_wrote (address_on is) m n (x + 4 + i) (word_of v) w (omega arith)) h.1)
    by (inr other) further =
        let k : sequence_at x is ≡ Some c = sym (cond-false (nat_eq (x + 4) (address_on is)) (Some q) (sequence_at x is) (ne_eqb (x + 4) (address_on is) other)) ∙ e in
        subst (AreLaid code n) (sym (cond-false (nat_eq (x + 4) (address_on is)) (sequence (record q { values = set q.values i v }) ∷ is) (sequence q ∷ with_element x i v is) (ne_eqb (x + 4) (address_on is) other)))
        (on is k h.0, further k)

-- ---- and one of either sort

pub laid_value : (code : PeCode) (m n : List ℕ) (which : Which) (x : ℕ) (u v : Datum) (is : List Item) → value_at which x is ≡ Some u → Wrote m n (cell_spot which x + 2) (word_of v) → IsDatum v → AreLaid code m is
    → AreLaid code n (with_value which x v is)
laid_value code m n own x u v is e w good h = laid_with code m n x u v is e w good h
laid_value code m n (element i) x u v is e w good h =
    by (sequence_at x is) refl e
  where
    by : (o : Option Sequence) → sequence_at x is ≡ o → element_in i o ≡ Some u → AreLaid code n (with_element x i v is)
    by None at k = absurd (cc)
    by (Some c) at k =
        let spot : x + 2 + i + 2 ≡ x + 4 + i = omega arith in
        laid_element code m n x i c v is at (slice_get_within c.values i u k) (subst (λ j. Wrote m n j (word_of v)) spot w) good h
