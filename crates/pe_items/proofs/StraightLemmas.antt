-- Straight code is run on both sides: its cells are those of the same frames.
use Rattle.std.proofs.Common.{ℕ, zero, suc, ◌≡◌, List, [], ◌∷◌, Option, Some, None, refl, sym, subst, subst₂, inl, inr, arith, nat_eq, eq-eqb, ne_eqb}
use Rattle.std.proofs.lemmas.Bool.{cond-true, cond-false}
use Rattle.fy_base.specs.declared.data.Datum.{Datum}
use Rattle.fy_base.specs.declared.data.FaultKind.{FaultKind}
use Rattle.pe_code.specs.declared.code.StraightPart.{StraightPart}
use Rattle.pe_code.specs.declared.code.PeItem.{PeItem}
use Rattle.pe_code.specs.declared.code.PeCode.{PeCode}
use Rattle.pe_code.specs.Code.{item_at}
use Rattle.pe_code.specs.Straight.{cell_read, Outcome, leaves, fails, has_none, misses}
use Rattle.pe_code.proofs.StraightLemmas.{ReadsAlike, same_reading, one_missing, OutcomesAlike, same_outcome, one_misses, outcomes-alike}
use Rattle.pe_machine.specs.States.{Frame, Held, PeState, from_frame, frame_outside, datum_in}
use Rattle.pe_machine.specs.Step as machine
use Rattle.pe_machine.specs.Step.{PeMove}
use Rattle.pe_machine.specs.Sound.{IsNumbered}
use Rattle.pe_machine.proofs.FrameLemmas.{numbered_with_cell}
use Rattle.pe_items.specs.Items as items
use Rattle.pe_items.specs.Items.{ItemBinding, Item, frame, address_on, FoundFrame, frame_from, ItemState}
use Rattle.pe_items.specs.Step as moves
use Rattle.pe_items.specs.Step.{ItemMove}
use Rattle.pe_items.proofs.Lays.{any_frame, IsAt, AreAt, Lays, nothing, newer_frame, live_context, taken_context, laid_cells, at_end, UnderState, at_rest}
use Rattle.pe_items.proofs.Standing.{Kept, kept-context, kept-cells, kept-frame, names-under, names-older}
use Rattle.pe_items.proofs.VariableLemmas.{binding-datum, cost-with_cell, lays-with_cell}
use Rattle.pe_items.proofs.Alike.{Alike, both_go, both_fault, one_sticks, one_loses}

-- a variable's frame on both sides, which holds the same itself
pub data OwnStands (fs : List Frame) (is : List Item) : Option Frame → Option FoundFrame → Type 0 where
  no_own : {o : Option FoundFrame} → OwnStands fs is None o
  an_own : {f : Frame} {g : FoundFrame} → datum_in f.binding ≡ items.datum_in g.binding → IsAt any_frame fs is f.number g.address → OwnStands fs is (Some f) (Some g)

own-kept : {fs gs : List Frame} {is js : List Item} {o : Option Frame} {p : Option FoundFrame} → Kept fs is gs js → OwnStands fs is o p → OwnStands gs js o p
own-kept w no_own = no_own
own-kept w (an_own {f = f} {g = g} e a) = an_own e (w.stands any_frame f.number g.address a)

own-frame : (f : Frame) (d : ℕ) (u : ItemBinding) (y : Option ℕ) (fs : List Frame) (is : List Item) (k n x : ℕ) → IsNumbered f.number fs → datum_in f.binding ≡ items.datum_in u →
    ((j : ℕ) → OwnStands fs is (frame_outside fs j f.around) (frame_from is j y)) →
    (IsAt any_frame fs is n x → OwnStands fs is (frame_outside fs k (Some n)) (frame_from is k (Some x))) →
    IsAt any_frame (f ∷ fs) (frame d u y ∷ is) n x → OwnStands (f ∷ fs) (frame d u y ∷ is) (frame_outside (f ∷ fs) k (Some n)) (frame_from (frame d u y ∷ is) k (Some x))
own-frame f d u y fs is k n x h e around older (inl a) =
    subst₂ (λ (o : Option Frame) (p : Option FoundFrame). OwnStands (f ∷ fs) (frame d u y ∷ is) o p)
    (sym (cond-true (nat_eq n f.number) _ (frame_outside fs k (Some n)) (eq-eqb n f.number a.0)))
    (sym (cond-true (nat_eq x (address_on is)) _ (frame_from is k (Some x)) (eq-eqb x (address_on is) a.1))) (by k)
  where
    by : (j : ℕ) →
        OwnStands (f ∷ fs) (frame d u y ∷ is) (from_frame j f (λ i. frame_outside fs i f.around))
        (items.from_frame j (record { address = address_on is; binding = u }) (λ i. frame_from is i y))
    by zero = an_own e (inl (refl, refl, tt))
    by (suc j) = own-kept (kept-frame f d u y fs is h) (around j)
own-frame f d u y fs is k n x h e around older (inr a) =
    let l = a.0 in
    let m = a.1 in
    subst₂ (λ (o : Option Frame) (p : Option FoundFrame). OwnStands (f ∷ fs) (frame d u y ∷ is) o p)
    (sym (cond-false (nat_eq n f.number) _ (frame_outside fs k (Some n)) (ne_eqb n f.number (λ q. omega arith))))
    (sym (cond-false (nat_eq x (address_on is)) _ (frame_from is k (Some x)) (ne_eqb x (address_on is) (λ q. omega arith))))
    (own-kept (kept-frame f d u y fs is h) (older a.2))

-- the frame k frames outside one that is named on both sides
own-at : {fs : List Frame} {cs : List Held} {newest : ℕ} {is : List Item} (b k : ℕ) (r x : Option ℕ) → IsNumbered b fs → AreAt fs is r x → Lays fs cs newest is →
    OwnStands fs is (frame_outside fs k r) (frame_from is k x)
own-at b k r x h a nothing = no_own
own-at b k r x h a (live_context {fs = fs} {newest = newest} {is = is} {e = e} counted small s l) =
    own-kept (kept-context fs is e newest) (own-at b k r x h (names-older fs is e newest r x a) l)
own-at b k r x h a (taken_context {fs = fs} {outside = outside} {is = is} {e = e} l) =
    own-kept (kept-context fs is e outside) (own-at b k r x h (names-older fs is e outside r x a) l)
own-at b k r x h a (laid_cells {fs = fs} {is = is} {c = c} l) = own-kept (kept-cells fs is c) (own-at b k r x h (names-under fs is c r x a) l)
own-at b k None None h a (newer_frame {f = f} {fs = fs} {is = is} {u = u} {x = y} s o l) =
    own-kept (kept-frame f f.depth u y fs is h.1) (own-at f.number k None None h.1 tt l)
own-at b k (Some n) (Some x) h a (newer_frame {f = f} {fs = fs} {is = is} {u = u} {x = y} s o l) =
    own-frame f f.depth u y fs is k n x h.1 (binding-datum s) (λ j. own-at f.number j f.around y h.1 o l) (λ older. own-at f.number k (Some n) (Some x) h.1 older l) a
own-at b k None (Some x) h a (newer_frame s o l) = absurd a
own-at b k (Some n) None h a (newer_frame s o l) = absurd a

-- ---- its cell is read and set

own-read : {fs : List Frame} {is : List Item} {o : Option Frame} {p : Option FoundFrame} → OwnStands fs is o p → ReadsAlike (machine.own_cell o) (moves.own_cell p)
own-read no_own = one_missing
own-read (an_own {f = f} {g = g} e a) = by (datum_in f.binding) (items.datum_in g.binding) e
  where
    by : (u v : Option Datum) → u ≡ v → ReadsAlike (cell_read u) (cell_read v)
    by u v same = subst (λ (w : Option Datum). ReadsAlike (cell_read u) (cell_read w)) same same_reading

set-alike : (o : Option Datum) (n x : ℕ) (v : Datum) (s : PeState) (t : ItemState) → IsAt any_frame s.frames t.items n x → UnderState s t →
    Alike (machine.cell_set o n v s) (moves.cell_set o x v t)
set-alike (Some w) n x v s t a u =
    both_go (at_rest (record {
      focus = at_end;
      under = record {
        lays = lays-with_cell v n x a u.lays;
        load = (let l = u.load in let c = cost-with_cell x v t.items in omega arith);
        numbers = numbered_with_cell s.next n v s.frames u.numbers;
      };
    }))
set-alike None n x v s t a u = one_sticks

own-set : {o : Option Frame} {p : Option FoundFrame} (v : Datum) (s : PeState) (t : ItemState) → OwnStands s.frames t.items o p → UnderState s t →
    Alike (machine.own_cell_set o v s) (moves.own_cell_set p v t)
own-set v s t no_own u = one_loses
own-set v s t (an_own {f = f} {g = g} e a) u =
    subst (λ (o : Option Datum). Alike (machine.cell_set (datum_in f.binding) f.number v s) (moves.cell_set o g.address v t)) e (set-alike (datum_in f.binding) f.number g.address v s t a u)

-- ---- runs

module _ (code : PeCode) where
  faults-alike : (kind : FaultKind) (o : Option PeItem) → Alike (machine.faults_at kind o) (moves.faults_at kind o)
  faults-alike kind (Some i) = both_fault
  faults-alike kind None = one_sticks

  outcome-move : {o p : Outcome} (go : Datum → PeMove) (to : Datum → ItemMove) → OutcomesAlike o p → ((v : Datum) → Alike (go v) (to v)) →
      Alike (machine.outcome_move code o go) (moves.outcome_move code p to)
  outcome-move go to (same_outcome {o = o}) h = by o
    where
      by : (o : Outcome) → Alike (machine.outcome_move code o go) (moves.outcome_move code o to)
      by (leaves []) = one_sticks
      by (leaves (v ∷ [])) = h v
      by (leaves (v ∷ u ∷ stack)) = one_sticks
      by (fails kind a) = faults-alike kind (item_at code a)
      by has_none = one_sticks
      by misses = one_loses
  outcome-move go to one_misses h = one_loses

  pub straight-alike : (ss : List StraightPart) (r x : Option ℕ) (s : PeState) (t : ItemState) (go : Datum → PeMove) (to : Datum → ItemMove) → AreAt s.frames t.items r x → UnderState s t →
      ((v : Datum) → Alike (go v) (to v)) → Alike (machine.straight_run code ss r s go) (moves.straight_run code ss x t to)
  straight-alike ss r x s t go to k u h =
      outcome-move go to
      (outcomes-alike (λ j. machine.own_cell (frame_outside s.frames j r)) (λ j. moves.own_cell (frame_from t.items j x)) (λ j. own-read (own-at s.next j r x u.numbers k u.lays)) ss []) h

  pub assignment-alike : (j : ℕ) (ss : List StraightPart) (r x : Option ℕ) (s : PeState) (t : ItemState) → AreAt s.frames t.items r x → UnderState s t →
      Alike (machine.straight_run code ss r s (λ v. machine.own_cell_set (frame_outside s.frames j r) v s)) (moves.straight_run code ss x t (λ v. moves.own_cell_set (frame_from t.items j x) v t))
  assignment-alike j ss r x s t k u = straight-alike ss r x s t _ _ k u (λ v. own-set v s t (own-at s.next j r x u.numbers k u.lays) u)
