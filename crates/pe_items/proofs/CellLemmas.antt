-- Cells of both sorts: one that a frame holds, and one of a sequence.
use Rattle.std.proofs.Common.{ℕ, ◌≡◌, Bool, true, false, List, length, Option, Some, None, ap, subst, arith, nat_lt}
use Rattle.std.specs.Prelude.{pos, negsuc}
use Rattle.fy_base.specs.declared.data.Datum.{Datum}
use Rattle.fy_base.specs.declared.data.Datum.TheVariants as datum_kind
use Rattle.fy_phrase.specs.Copy.{Which, own, element}
use Rattle.pe_machine.specs.States.{Sequence, Frame, Held, value, PeState, element_in, sequence_at, value_of, with_element}
use Rattle.pe_machine.specs.Step as machine
use Rattle.pe_machine.proofs.FrameLemmas.{numbered_with_cell, numbered_with_binding}
use Rattle.pe_items.specs.Items.{Item, value_at, ItemState}
use Rattle.pe_items.specs.Items as items
use Rattle.pe_items.specs.Step as moves
use Rattle.pe_items.proofs.Lays.{IsSequenceAt, IsCellAt, at_store, at_value, at_end, Lays, UnderState, at_rest}
use Rattle.pe_items.proofs.VariableLemmas.{datum-found, cost-with_cell, lays-with_cell}
use Rattle.pe_items.proofs.SequenceLemmas.{sequence-found, cost-with_element, written}
use Rattle.pe_items.proofs.Alike.{Alike, both_go, both_fault, one_sticks, one_loses, focused-alike, either-alike, TakenAlike, taken-alike}

pub value-found : {fs : List Frame} {cs : List Held} {newest : ℕ} {is : List Item} (which : Which) (n x : ℕ) → IsCellAt which fs is n x → Lays fs cs newest is →
    value_of which n fs ≡ value_at which x is
value-found own n x a l = datum-found n x a l
value-found (element i) n x a l = ap (λ (o : Option Sequence). element_in i o) (sequence-found n x a l)

loaded-alike : (o : Option Datum) (s : PeState) (t : ItemState) → UnderState s t → Alike (machine.loaded o s) (moves.loaded o t)
loaded-alike (Some v) s t u = focused-alike (value v) (value v) s t at_value u
loaded-alike None s t u = one_loses

assigned-alike : (o : Option Datum) (which : Which) (n x : ℕ) (v : Datum) (s : PeState) (t : ItemState) → IsCellAt which s.frames t.items n x → UnderState s t →
    Alike (machine.assigned o which n v s) (moves.assigned o which x v t)
assigned-alike (Some w) own n x v s t a u =
    both_go (at_rest (record {
      focus = at_end;
      under = record {
        lays = lays-with_cell v n x a u.lays;
        load = (let l = u.load in let c = cost-with_cell x v t.items in omega arith);
        numbers = numbered_with_cell s.next n v s.frames u.numbers;
      };
    }))
assigned-alike (Some w) (element i) n x v s t a u =
    both_go (at_rest (record {
      focus = at_end;
      under = record {
        lays = (written i v n x a u.lays).lays;
        load = (let l = u.load in let c = cost-with_element x i v t.items in omega arith);
        numbers = numbered_with_binding s.next n (with_element i v) s.frames u.numbers;
      };
    }))
assigned-alike None which n x v s t a u = one_loses

assignment-alike : (which : Which) (n x : ℕ) (s : PeState) (t : ItemState) → IsCellAt which s.frames t.items n x → value_of which n s.frames ≡ value_at which x t.items →
    TakenAlike (machine.assignment_meets which n) (moves.assignment_meets which x) s t
assignment-alike which n x s t a same c e cs outside ks old (at_store {v = v}) w left =
    subst (λ (o : Option Datum). Alike (machine.assigned (value_of which n s.frames) which n v (record s { contexts = cs })) (moves.assigned o which x v (record t { newest = outside }))) same
    (assigned-alike (value_of which n s.frames) which n x v (record s { contexts = cs }) (record t { newest = outside }) a (left (λ m q. cc)))
assignment-alike which n x s t a same c e cs outside ks old h w left = one_sticks

pub cell-alike : (b : Bool) (which : Which) (n x : ℕ) (s : PeState) (t : ItemState) → IsCellAt which s.frames t.items n x → UnderState s t →
    Alike (machine.cell_entered b which n s) (moves.cell_entered b which x t)
cell-alike true which n x s t a u =
    taken-alike (machine.assignment_meets which n) (moves.assignment_meets which x) s t (assignment-alike which n x s t a (value-found which n x a u.lays)) u
cell-alike false which n x s t a u =
    subst (λ (o : Option Datum). Alike (machine.loaded (value_of which n s.frames) s) (moves.loaded o t)) (value-found which n x a u.lays)
    (loaded-alike (value_of which n s.frames) s t u)

-- an index picks a cell of a sequence, or faults on both sides
picked-alike : (v : Datum) (o : Option Sequence) (b : Bool) (n x : ℕ) (s : PeState) (t : ItemState) → IsSequenceAt s.frames t.items n x → UnderState s t →
    Alike (machine.element_picked v (record { is_written = b; number = n }) o s) (moves.element_picked v (record { is_written = b; number = x }) o t)
picked-alike (datum_kind.Int (pos i)) (Some c) b n x s t a u =
    either-alike (nat_lt i (length c.values)) _ _ _ _ (λ q. cell-alike b (element i) n x s t a u) (λ q. both_fault)
picked-alike (datum_kind.Int (negsuc i)) (Some c) b n x s t a u = both_fault
picked-alike v (Some c) b n x s t a u = one_sticks
picked-alike v None b n x s t a u = one_loses

pub element-alike : (v : Datum) (b : Bool) (n x : ℕ) (s : PeState) (t : ItemState) → IsSequenceAt s.frames t.items n x → UnderState s t →
    Alike (machine.element_picked v (record { is_written = b; number = n }) (sequence_at n s.frames) s)
    (moves.element_picked v (record { is_written = b; number = x }) (items.sequence_at x t.items) t)
element-alike v b n x s t a u =
    subst (λ (o : Option Sequence). Alike (machine.element_picked v (record { is_written = b; number = n }) (sequence_at n s.frames) s)
    (moves.element_picked v (record { is_written = b; number = x }) o t)) (sequence-found n x a u.lays)
    (picked-alike v (sequence_at n s.frames) b n x s t a u)
