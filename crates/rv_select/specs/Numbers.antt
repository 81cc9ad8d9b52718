-- The numbers by which micro-code names blocks, entries and words of the table.
use Rattle.std.specs.Prelude.{ℕ, suc, ◌+◌, ◌*◌, Bool, true, false, nat_eq, if◌then◌else◌, List, [], ◌∷◌, length, take}
use Rattle.fy_base.specs.declared.data.UnOp.{UnOp}
use Rattle.fy_base.specs.declared.data.UnOp.TheVariants.{Neg, Chr}
use Rattle.fy_base.specs.declared.data.BinOp.{BinOp}
use Rattle.fy_base.specs.declared.data.BinOp.TheVariants.{Add, Sub, Mul, Div, Rem, And, Or}
use Rattle.pe_code.specs.declared.code.PeInsn.{PeInsn}
use Rattle.pe_code.specs.declared.code.PeInsn.TheVariants as insn
use Rattle.pe_code.specs.declared.code.Purpose.{Purpose}
use Rattle.pe_code.specs.declared.code.Purpose.TheVariants as purpose
use Rattle.pe_code.specs.declared.code.PeItem.{PeItem}
use Rattle.pe_code.specs.declared.code.PeCode.{PeCode}
use Rattle.rv_word.specs.Word.{table_address}
use Rattle.rv_runtime.specs.Routines.{first_free}
use Rattle.rv_operators.specs.Operators.{operator_count}
use Rattle.rv_straight.specs.Straight.{fault_blocks}

-- ---- labels of the blocks that every program has: the caller's, the routines, the operators, and those of selection

-- a datum or a finished command meets the newest context; the code whose entry is in Datum goes on
abbrev pub meet : ℕ
meet = 0

abbrev pub go : ℕ
go = 1

abbrev pub first_operator : ℕ
first_operator = first_free

abbrev pub first_own : ℕ
first_own = first_operator + operator_count

abbrev pub start_label : ℕ
start_label = first_own

-- the program ends
abbrev pub end_label : ℕ
end_label = first_own + 1

-- a binding is entered that is a datum, a cell that is read or written, an escape
abbrev pub datum_label : ℕ
datum_label = first_own + 2

abbrev pub read_label : ℕ
read_label = first_own + 3

abbrev pub write_label : ℕ
write_label = first_own + 4

abbrev pub leave_label : ℕ
leave_label = first_own + 5

-- the newest context is answered by a finished command, which goes on to the next
abbrev pub pop_label : ℕ
pop_label = first_own + 6

-- a datum is put
abbrev pub put_int_label : ℕ
put_int_label = first_own + 7

abbrev pub put_char_label : ℕ
put_char_label = first_own + 8

abbrev pub put_bool_label : ℕ
put_bool_label = first_own + 9

-- of sequences of cells: their number is met, or is below 0; one more cell is made; all are made
abbrev pub count_label : ℕ
count_label = first_own + 10

abbrev pub no_count_label : ℕ
no_count_label = first_own + 11

abbrev pub fill_label : ℕ
fill_label = first_own + 12

abbrev pub filled_label : ℕ
filled_label = first_own + 13

-- an index is met, of a cell that is read or written, or of no cell
abbrev pub read_element_label : ℕ
read_element_label = first_own + 14

abbrev pub write_element_label : ℕ
write_element_label = first_own + 15

abbrev pub outside_label : ℕ
outside_label = first_own + 16

-- a sequence is entered: for its length; for a cell, by an index for whose context there is no room; for a cell that is read or written
abbrev pub length_label : ℕ
length_label = first_own + 17

abbrev pub no_room_label : ℕ
no_room_label = first_own + 18

abbrev pub index_read_label : ℕ
index_read_label = first_own + 19

abbrev pub index_write_label : ℕ
index_write_label = first_own + 20

-- the first label of the items
abbrev pub first_item : ℕ
first_item = first_own + 21

-- ---- the entries that every program has

abbrev pub start_entry : ℕ
start_entry = 0

abbrev pub end_entry : ℕ
end_entry = 1

abbrev pub datum_entry : ℕ
datum_entry = 2

abbrev pub read_entry : ℕ
read_entry = 3

abbrev pub write_entry : ℕ
write_entry = 4

abbrev pub leave_entry : ℕ
leave_entry = 5

abbrev pub pop_entry : ℕ
pop_entry = 6

abbrev pub put_int_entry : ℕ
put_int_entry = 7

abbrev pub put_char_entry : ℕ
put_char_entry = 8

abbrev pub put_bool_entry : ℕ
put_bool_entry = 9

abbrev pub read_element_entry : ℕ
read_element_entry = 10

abbrev pub write_element_entry : ℕ
write_element_entry = 11

abbrev pub length_entry : ℕ
length_entry = 12

abbrev pub index_read_entry : ℕ
index_read_entry = 13

abbrev pub index_write_entry : ℕ
index_write_entry = 14

-- their labels
abbrev pub fixed_entries : List ℕ
fixed_entries =
    start_label ∷ end_label ∷ datum_label ∷ read_label ∷ write_label ∷ leave_label ∷ pop_label ∷ put_int_label ∷ put_char_label ∷ put_bool_label
    ∷ read_element_label ∷ write_element_label ∷ length_label ∷ index_read_label ∷ index_write_label ∷ []

-- that of the context of an index, by whether the cell is written
abbrev pub element_entry : Bool → ℕ
element_entry true = write_element_entry
element_entry false = read_element_entry

-- ---- how many blocks and entries an instruction has

-- how many kinds of fault an operator has
abbrev pub unary_faults : UnOp → ℕ
unary_faults Neg = 1
unary_faults Chr = 1
unary_faults _ = 0

abbrev pub binary_faults : BinOp → ℕ
binary_faults Add = 1
binary_faults Sub = 1
binary_faults Mul = 1
binary_faults Div = 2
binary_faults Rem = 1
binary_faults _ = 0

-- whether the left operand may decide alone, so that there is no context for the right one
abbrev pub right_entries : BinOp → ℕ
right_entries And = 0
right_entries Or = 0
right_entries op = 1 + binary_faults op

-- its own block first, then those of its contexts, then those of its faults
abbrev pub block_count : PeInsn → ℕ
block_count (insn.Op1 op x) = 1 + unary_faults op
block_count (insn.Op2 op x y) = 2 + binary_faults op
block_count (insn.Cond x y z) = 2
block_count (insn.Case x ys) = 3
block_count (insn.Seq x y) = 2
block_count (insn.Assign x y) = 2
block_count (insn.While x y) = 3
block_count (insn.Loop x) = 2
block_count (insn.New x y) = 2
block_count (insn.Cells x y) = 3
block_count (insn.Eval ss) = suc (length (fault_blocks ss))
block_count (insn.Set k ss) = suc (length (fault_blocks ss))
block_count (insn.EvalFor ss (purpose.Repeat x)) = suc (suc (length (fault_blocks ss)))
block_count (insn.EvalFor ss u) = suc (length (fault_blocks ss))
block_count _ = 1

-- the number of the first block of straight code's faults
abbrev pub faults_from : Purpose → ℕ
faults_from (purpose.Repeat x) = 2
faults_from _ = 1

abbrev pub first_fault : PeInsn → ℕ
first_fault (insn.EvalFor ss u) = faults_from u
first_fault _ = 1

-- its own entry first, then those of its contexts, each operator's followed by those of its faults; of a case then those of its parts.
-- Of a sequence of cells: of its number's context, of that while its cells are made, of that which drops them, and of its fault
abbrev pub entry_count : PeInsn → ℕ
entry_count (insn.Op1 op x) = 2 + unary_faults op
entry_count (insn.Op2 op x y) = 2 + right_entries op
entry_count (insn.Cond x y z) = 2
entry_count (insn.Case x ys) = 2 + length ys
entry_count (insn.Seq x y) = 2
entry_count (insn.Assign x y) = 2
entry_count (insn.While x y) = 3
entry_count (insn.Loop x) = 2
entry_count (insn.New x y) = 2
entry_count (insn.Cells x y) = 5
entry_count (insn.EvalFor ss (purpose.Repeat x)) = 2
entry_count _ = 1

abbrev pub blocks_in : List PeItem → ℕ
blocks_in [] = 0
blocks_in (i ∷ is) = block_count i.insn + blocks_in is

abbrev pub entries_in : List PeItem → ℕ
entries_in [] = 0
entries_in (i ∷ is) = entry_count i.insn + entries_in is

-- ---- numbers of a code

-- the label of the first block of the item at an address, and the number of its first entry
abbrev pub label_of : PeCode → ℕ → ℕ
label_of code a = first_item + blocks_in (take a code.items)

abbrev pub entry_number : PeCode → ℕ → ℕ
entry_number code a = length fixed_entries + entries_in (take a code.items)

-- the word that names an entry
abbrev pub entry_word : ℕ → ℕ
entry_word k = 8 * k

-- how many words a row of the table has: those of a datum, of a cell, of an escape and of a sequence of cells, and one for each thunk node
abbrev pub row_words : PeCode → ℕ
row_words code = 4 + length code.thunks

-- the place of a node in a list, or its length
abbrev pub place_in : List ℕ → ℕ → ℕ
place_in [] node = 0
place_in (n ∷ ns) node = if nat_eq n node then 0 else suc (place_in ns node)

-- the word of a binding that names a column of the rows, in bytes from their start
abbrev pub column_word : ℕ → ℕ
column_word k = 8 * k

-- the columns of a row
abbrev pub datum_column : ℕ
datum_column = 0

abbrev pub cell_column : ℕ
cell_column = 1

abbrev pub escape_column : ℕ
escape_column = 2

abbrev pub sequence_column : ℕ
sequence_column = 3

abbrev pub column_of : PeCode → ℕ → ℕ
column_of code node = 4 + place_in code.thunks node

-- the address of the row of a shape
abbrev pub row_address : PeCode → ℕ → ℕ
row_address code shape = table_address (shape * row_words code)
