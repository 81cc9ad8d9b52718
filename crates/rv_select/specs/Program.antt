-- The code for the word machine that push-enter code becomes: its blocks, entries, table and places.
use Rattle.std.specs.Prelude.{ℕ, zero, suc, if◌then◌else◌, List, [], ◌∷◌, ◌++◌, map, Some, None}
use Rattle.std.specs.declared.option.Option.{Option}
use Rattle.pe_code.specs.declared.code.PeItem.{PeItem}
use Rattle.pe_code.specs.declared.code.PeCode.{PeCode}
use Rattle.pe_code.specs.Code.{entry_of}
use Rattle.pe_machine.specs.Step.{is_assignment}
use Rattle.rv_word.specs.declared.micros.Micro.{Micro}
use Rattle.rv_word.specs.Word.{Code}
use Rattle.rv_runtime.specs.Routines.{routine_blocks}
use Rattle.rv_operators.specs.Operators.{operator_blocks}
use Rattle.rv_select.specs.Numbers.{meet, first_operator, fixed_entries, end_entry, datum_entry, read_entry, write_entry, leave_entry, length_entry, index_read_entry, index_write_entry, entry_number, entry_word}
use Rattle.rv_select.specs.Blocks.{blocks_of, entries_of, caller_blocks, own_blocks}

-- the blocks of the items from an address on
abbrev pub item_blocks : PeCode → ℕ → List PeItem → List (List Micro)
item_blocks code a [] = []
item_blocks code a (i ∷ is) = blocks_of code a i.depth i.insn ++ item_blocks code (suc a) is

-- and their entries
abbrev pub item_entries : PeCode → ℕ → List PeItem → List ℕ
item_entries code a [] = []
item_entries code a (i ∷ is) = entries_of code a i.depth i.insn ++ item_entries code (suc a) is

-- the word of a node at a shape: its entry there; a node without one is never entered there
abbrev pub node_word : PeCode → Option ℕ → ℕ
node_word code (Some a) = entry_word (entry_number code a)
node_word code None = entry_word end_entry

-- the entry of a cell at a shape: it is written where an assignment is asked for, else read
abbrev pub cell_word : PeCode → ℕ → ℕ
cell_word code shape = if is_assignment code.assignment shape then entry_word write_entry else entry_word read_entry

-- the entry of a sequence of cells at a shape, by what is asked of it; one of which nothing is asked is never entered there
abbrev pub sequence_word : PeCode → ℕ → ℕ
sequence_word code shape =
    if is_assignment code.sequences.element shape then entry_word index_read_entry
    else (if is_assignment code.sequences.assigned_element shape then entry_word index_write_entry
    else (if is_assignment code.sequences.row_length shape then entry_word length_entry else entry_word end_entry))

-- the row of a shape
abbrev pub row : PeCode → ℕ → List ℕ
row code shape =
    entry_word datum_entry ∷ cell_word code shape ∷ entry_word leave_entry ∷ sequence_word code shape
    ∷ map (λ node. node_word code (entry_of code node shape)) code.thunks

-- the rows of so many shapes, from one on
abbrev pub rows : PeCode → ℕ → ℕ → List ℕ
rows code shape zero = []
rows code shape (suc n) = row code shape ++ rows code (suc shape) n

-- all of it
abbrev pub word_code : PeCode → Code
word_code code =
    record {
      blocks = caller_blocks ++ (routine_blocks ++ (operator_blocks first_operator meet ++ (own_blocks code ++ item_blocks code 0 code.items)));
      entries = fixed_entries ++ item_entries code 0 code.items;
      table = rows code 0 code.shapes;
      places = map (λ i. i.place) code.items;
    }
