-- An index meets the context of a sequence of cells.
use Rattle.std.proofs.Common.{◌≡◌, ℕ, ◌+◌, ◌*◌, ◌<◌, ◌≤◌, Bool, true, false, List, ◌∷◌, length, pos, negsuc, Some, None, refl, sym, ap, ◌∙◌, subst, inl, inr, arith, lt-ltb, le-ltb}
use Rattle.std.proofs.lemmas.Bool.{cases_lt, cond-true, cond-false}
use Rattle.std.specs.Prelude.{nat_lt, slice_index}
use Rattle.std.specs.declared.option.Option.{Option}
use Rattle.fy_base.specs.declared.data.Datum.{Datum as DatumType}
use Rattle.fy_base.specs.declared.data.Datum.TheVariants as kind
use Rattle.fy_base.specs.declared.data.FaultKind.TheVariants.{Range}
use Rattle.fy_phrase.specs.Contexts.{element_c}
use Rattle.fy_phrase.specs.Copy.{element}
use Rattle.pe_code.specs.declared.code.PeInsn.TheVariants as insn
use Rattle.pe_code.specs.declared.code.PeCode.{PeCode}
use Rattle.pe_machine.specs.States.{Sequence, Wanted}
use Rattle.pe_items.specs.Items.{Item, address_on, sequence_at, ItemState}
use Rattle.pe_items.specs.Step as item
use Rattle.pe_items.specs.Step.{ItemMove, cell_entered, element_picked}
use Rattle.rv_insn.specs.declared.instructions.RegOp.TheVariants as reg
use Rattle.rv_insn.specs.Operations.{shift_value}
use Rattle.rv_insn.specs.declared.instructions.ShiftOp.TheVariants.{Slli}
use Rattle.rv_word.specs.declared.micros.Register.TheVariants.{Frame, Context, Top, Datum, First, Second}
use Rattle.rv_insn.specs.declared.instructions.BranchOp.TheVariants.{Bgeu}
use Rattle.rv_word.specs.declared.micros.Micro.TheVariants.{Shift, Alu, Test}
use Rattle.rv_word.specs.Word.{Data, Code, word_address, block}
use Rattle.rv_operators.specs.Operators.{word_of}
use Rattle.rv_operators.specs.Laws.{IsDatum}
use Rattle.rv_select.specs.Numbers.{read_element_label, write_element_label, outside_label, element_entry, label_of, entry_number, entry_word}
use Rattle.rv_select.specs.Blocks.{element_block, outside_block}
use Rattle.rv_select.specs.Layout.{word_in, count_address, HoldsItems}
use Rattle.rv_select.proofs.Runs.{Later, wider}
use Rattle.rv_select.proofs.Wp.{Wp, with_value, by_blocks}
use Rattle.rv_select.proofs.Values.{moves, moves_by, moves_back, adds, eightfold, taken_above, untaken_above}
use Rattle.rv_select.proofs.Memory.{SequenceIs, sequence_is}
use Rattle.rv_select.proofs.SelectedCode.{IsEntry, IsSelected}
use Rattle.rv_select.proofs.ItemSteps.{Helpers}
use Rattle.rv_select.proofs.Landing.{Keeps}
use Rattle.rv_select.proofs.Entering.{cell_block, cell_by}
use Rattle.rv_select.proofs.Meeting.{IsMet, Q, From, Kept, negative_small, nothing, fault_told, cut}

-- the block where an index is met
abbrev pub element_label : Bool → ℕ
element_label true = write_element_label
element_label false = read_element_label

cell_few : (b : Bool) → length (cell_block b) ≤ 6
cell_few true = omega arith
cell_few false = omega arith

module _ (code : PeCode) (w : Code) (sel : IsSelected code w) (help : Helpers) (e0 : Data) where
  pub element_leads : (b : Bool) → IsEntry w (element_entry b) (element_label b)
  element_leads true = sel.fixed 11 (omega arith)
  element_leads false = sel.fixed 10 (omega arith)

  element_is : (b : Bool) → block w (element_label b) ≡ element_block (cell_block b)
  element_is true = sel.own 15 (omega arith)
  element_is false = sel.own 14 (omega arith)

  module _ (s : ItemState) (older : List Item) (outside : ℕ) (k : Wanted) (e : Data) (payload_is : word_in e.words (address_on older) 2 ≡ count_address k.number) (met : IsMet code older (element_c k) outside e) (keeps : Kept code w sel help e0 e) where
    abbrev stack : ItemState
    stack = cut code w sel help e0 s older outside

    abbrev Meets : ItemMove → Type 0
    Meets mv = From code w sel help e0 mv 200 (element_label k.is_written) e

    module _ (c : Sequence) (r : SequenceIs code e.words older k.number c) where
      -- the context is left, with the number of the cells in Second
      abbrev left : Data
      left =
          with_value Second (length c.values) (with_value Context (word_address outside) (with_value Top (word_address (address_on older)) (with_value First (count_address k.number) e)))

      -- the fault of the sequence's item
      faults : From code w sel help e0 (item.faults Range c.place) 54 outside_label left
      faults =
          let n = k.number in
          let p = r.laid.drops in
          let a = p.0 in
          let within = r.within in
          let fits = met.memory.fits in
          let few = met.memory.few in
          let entry = sel.entries a _ 4 p.4.stands (omega arith) in
          let inside = entry.inside in
          let most = sel.operators.entries in
          by_blocks w (Q code w sel help e0 (item.faults Range c.place)) outside_label outside_block left 9 54 (sel.own 16 (omega arith)) (omega arith) (
            word_address n,
            moves_back (count_address n) n refl (omega arith),
            (
              n,
              refl,
              omega arith,
              (
                n,
                entry_word (entry_number code a + 3),
                refl,
                omega arith,
                p.4.entry,
                (
                  entry_word (entry_number code a + 4),
                  moves_by (entry_word (entry_number code a + 3)) 8 (entry_word (entry_number code a + 4)) (omega arith) (omega arith),
                  (
                    entry_number code a + 4,
                    label_of code a + 2,
                    refl,
                    entry.inside,
                    entry.leads,
                    inr (fault_told code w sel help e0 a p.1 2 (insn.Cells p.2 p.3) Range c.place (with_value First (entry_word (entry_number code a + 4)) left) p.4.stands (omega arith, refl)
                        (record { input_is = keeps.input_is; output_is = keeps.output_is; size_is = keeps.size_is })),
                  ),
                ),
              ),
            ),
          )

      -- what the block does up to the test
      tested : (mv : ItemMove) → Wp w (Later w 60 (Q code w sel help e0 mv))
          (Test Bgeu Datum Second outside_label ∷ Shift Slli Datum Datum 3 ∷ Alu reg.Add Frame First Datum ∷ cell_block k.is_written) left → Meets mv
      tested mv go =
          let n = k.number in
          let room = met.room in
          let within = r.within in
          let fits = met.memory.fits in
          let few = met.memory.few in
          let spot : n + 2 + 0 ≡ n + 2 = omega arith in
          let short = cell_few k.is_written in
          by_blocks w (Q code w sel help e0 mv) (element_label k.is_written) (element_block (cell_block k.is_written)) e 60 200 (element_is k.is_written) (omega arith) (
            address_on older,
            met.newest_is,
            omega arith,
            (
              address_on older,
              count_address n,
              met.newest_is,
              omega arith,
              payload_is,
              (
                word_address (address_on older),
                moves e.named.context (word_address (address_on older)) met.newest_is (omega arith),
                (
                  address_on older,
                  word_address outside,
                  met.newest_is,
                  omega arith,
                  met.here.outside_is,
                  (
                    n + 2,
                    refl,
                    omega arith,
                    (n + 2, length c.values, refl, omega arith, ap (λ j. slice_index e.words j) spot ∙ r.laid.count, go),
                  ),
                ),
              ),
            ),
          )

      -- no cell has the index
      misses : length c.values ≤ e.named.datum → Meets (item.faults Range c.place)
      misses past = tested (item.faults Range c.place) (λ t. inr (wider w (Q code w sel help e0 (item.faults Range c.place)) 54 60 (record { rest = block w outside_label; held = left }) (omega arith) faults), λ u. absurd (let below = untaken_above e.named.datum (length c.values) u in omega arith))

      -- cell i has it: the frame in use is as many words behind the number of the cells
      abbrev entered_data : ℕ → Data
      entered_data i = with_value Frame (word_address (k.number + 2 + i)) (with_value Datum (8 * i) left)

      holds : (i : ℕ) → HoldsItems code outside older (entered_data i)
      holds i = record { newest_is = refl; top_is = refl; memory = met.memory; bytes = met.bytes }

      kept : (i : ℕ) → Keeps e0.input e0.output (length e0.words) (entered_data i)
      kept i = record { input_is = keeps.input_is; output_is = keeps.output_is; size_is = keeps.size_is }

      hits : (i : ℕ) → e.named.datum ≡ i → i < length c.values → Meets (cell_entered k.is_written (element i) k.number stack)
      hits i is lt =
          let within = r.within in
          let fits = met.memory.fits in
          let few = met.memory.few in
          cell_by code w sel stack e0 (element i) k.number (entered_data i) (holds i) (kept i) refl 60 Meets (nothing code w sel help e0 200 (element_label k.is_written) e (omega arith)) k.is_written
          (λ mv go. tested mv (
            λ t. absurd (let past = taken_above e.named.datum (length c.values) t in omega arith),
            λ u. (
              8 * i,
              ap (λ v. shift_value Slli v 3) is ∙ eightfold i (omega arith),
              (word_address (k.number + 2 + i), adds (count_address k.number) (8 * i) (word_address (k.number + 2 + i)) (omega arith) (omega arith), go),
            ),
          ))

      picks : (i : ℕ) → e.named.datum ≡ i → Meets (element_picked (kind.Int (pos i)) k (Some c) stack)
      picks i is = elim (cases_lt i (length c.values)) [
        | inl lt ↦
            subst Meets (sym (cond-true (nat_lt i (length c.values)) (cell_entered k.is_written (element i) k.number stack) (item.faults Range c.place) (lt-ltb i (length c.values) lt))) (hits i is lt)
        | inr past ↦
            subst Meets (sym (cond-false (nat_lt i (length c.values)) (cell_entered k.is_written (element i) k.number stack) (item.faults Range c.place) (le-ltb i (length c.values) past))) (misses (omega arith))
      ]

      negative : (i : ℕ) → e.named.datum ≡ word_of (kind.Int (negsuc i)) → IsDatum (kind.Int (negsuc i)) → length c.values ≤ e.named.datum
      negative i is good =
          let small = negative_small i good in
          let within = r.within in
          let fits = met.memory.fits in
          let few = met.memory.few in
          omega arith

    -- where the sequence doesn't stand nothing is said
    met_by : (v : DatumType) → e.named.datum ≡ word_of v → IsDatum v → (o : Option Sequence) → sequence_at k.number older ≡ o → Meets (element_picked v k o stack)
    met_by (kind.Int (pos i)) is good (Some c) stands = picks c (sequence_is code e.words older k.number c stands met.memory.laid) i is
    met_by (kind.Int (negsuc i)) is good (Some c) stands =
        let r = sequence_is code e.words older k.number c stands met.memory.laid in misses c r (negative c r i is good)
    met_by (kind.Bool b) is good (Some c) stands = nothing code w sel help e0 200 (element_label k.is_written) e (omega arith)
    met_by (kind.Char b) is good (Some c) stands = nothing code w sel help e0 200 (element_label k.is_written) e (omega arith)
    met_by (kind.Int (pos i)) is good None stands = nothing code w sel help e0 200 (element_label k.is_written) e (omega arith)
    met_by (kind.Int (negsuc i)) is good None stands = nothing code w sel help e0 200 (element_label k.is_written) e (omega arith)
    met_by (kind.Bool b) is good None stands = nothing code w sel help e0 200 (element_label k.is_written) e (omega arith)
    met_by (kind.Char b) is good None stands = nothing code w sel help e0 200 (element_label k.is_written) e (omega arith)

    pub met_element : (v : DatumType) → e.named.datum ≡ word_of v → IsDatum v → Meets (element_picked v k (sequence_at k.number older) stack)
    met_element v is good = met_by v is good (sequence_at k.number older) refl
