-- The micro-code of push-enter instructions: what each does on the stack of words, and what its contexts do when they are met.
use Rattle.std.specs.Prelude.{ℕ, zero, suc, ◌+◌, ◌*◌, ◌^◌, pos, negsuc, true, false, List, [], ◌∷◌, ◌++◌, length, map, Some, None}
use Rattle.std.specs.declared.option.Option.{Option}
use Rattle.fy_base.specs.declared.data.UnOp.{UnOp}
use Rattle.fy_base.specs.declared.data.UnOp.TheVariants.{Neg, Chr}
use Rattle.fy_base.specs.declared.data.BinOp.{BinOp}
use Rattle.fy_base.specs.declared.data.BinOp.TheVariants.{Add, Sub, Mul, Div, Rem, And, Or}
use Rattle.fy_base.specs.declared.data.PutKind.{PutKind}
use Rattle.fy_base.specs.declared.data.PutKind.TheVariants as kind
use Rattle.fy_base.specs.declared.data.FaultKind.TheVariants as fault
use Rattle.rv_insn.specs.declared.instructions.RegOp.TheVariants as reg
use Rattle.rv_insn.specs.declared.instructions.ImmOp.TheVariants.{Addi}
use Rattle.rv_insn.specs.declared.instructions.ShiftOp.TheVariants.{Slli}
use Rattle.rv_insn.specs.declared.instructions.BranchOp.TheVariants.{Beq, Bne, Bgeu}
use Rattle.rv_insn.specs.Program.{stack_start}
use Rattle.pe_code.specs.declared.code.PeInsn.{PeInsn}
use Rattle.pe_code.specs.declared.code.PeInsn.TheVariants as insn
use Rattle.pe_code.specs.declared.code.Purpose.{Purpose}
use Rattle.pe_code.specs.declared.code.Purpose.TheVariants as purpose
use Rattle.pe_code.specs.declared.code.PeCode.{PeCode}
use Rattle.pe_code.specs.declared.code.StraightPart.{StraightPart}
use Rattle.pe_frame.specs.Frames.{frame_words, words_of_context}
use Rattle.rv_word.specs.declared.micros.Register.TheVariants.{Zero, Frame, Context, Top, Datum, First, Second, Third}
use Rattle.rv_word.specs.declared.micros.Micro.{Micro}
use Rattle.rv_word.specs.declared.micros.Micro.TheVariants.{Set, Imm, Shift, Alu, Window, Get, Save, Look, Room, Test, Jump, Enter, Put, Take, End, Fault}
use Rattle.rv_runtime.specs.Routines.{exhausted, put_true, put_false, put_int, make_frame}
use Rattle.rv_operators.specs.Operators.{word_of, unary_label, binary_label}
pub use Rattle.rv_straight.specs.Straight.{move, behind}
use Rattle.rv_straight.specs.Straight.{reach_in, straight_code, fault_blocks}
use Rattle.rv_select.specs.Numbers.{meet, first_operator, faults_from, leave_label, pop_label, count_label, no_count_label, fill_label, filled_label, outside_label, no_room_label, pop_entry, put_int_entry, put_char_entry, put_bool_entry, end_entry, element_entry, label_of, entry_number, entry_word, column_word, datum_column, cell_column, escape_column, sequence_column, column_of, row_address}

-- ---- shared parts

-- the address of the frame of variable k in First
abbrev pub reach : ℕ → List Micro
reach k = reach_in First k

-- a context of which words were saved is the newest, and code goes on at a label
abbrev pub open_context : ℕ → List Micro
open_context label = move Context Top ∷ behind Top Top words_of_context ∷ Jump label ∷ []

-- the same with an argument in First and Second
abbrev pub open_argument : ℕ → List Micro
open_argument label = Save Top 2 First ∷ Save Top 3 Second ∷ open_context label

-- the words of a context at Top: room is asked for first, since windows end at what may jump
abbrev pub at_top : List Micro
at_top = Room words_of_context exhausted ∷ Window Top words_of_context ∷ []

-- a context with an entry alone, and one that has the frame in use too
abbrev pub push : ℕ → ℕ → List Micro
push entry label = at_top ++ (Set First (entry_word entry) ∷ Save Top 0 First ∷ Save Top 1 Context ∷ open_context label)

abbrev pub push_frame : ℕ → ℕ → List Micro
push_frame entry label = at_top ++ (Set First (entry_word entry) ∷ Save Top 0 First ∷ Save Top 1 Context ∷ Save Top 2 Frame ∷ open_context label)

-- the frame at Top, whose binding was saved, is in use, and its body goes on at a label, or at an entry once the display is made
abbrev pub open_frame : ℕ → ℕ → ℕ → List Micro
open_frame zero label entry = move Frame Top ∷ behind Top Top (frame_words zero) ∷ Jump label ∷ []
open_frame (suc d) label entry = Set Third (8 * frame_words (suc d)) ∷ Set Datum (entry_word entry) ∷ Jump make_frame ∷ []

-- a frame at depth d with the binding in First and Second
abbrev pub bind : ℕ → ℕ → ℕ → List Micro
bind d label entry = Room (frame_words d) exhausted ∷ Window Top 3 ∷ Save Top 0 First ∷ Save Top 1 Second ∷ open_frame d label entry

-- the newest context is answered
abbrev pub answer : List Micro
answer = Window Context 2 ∷ move Top Context ∷ Get Context Context 1 ∷ []

-- and its frame is in use again
abbrev pub answer_frame : List Micro
answer_frame = Window Context 3 ∷ Get Frame Context 2 ∷ move Top Context ∷ Get Context Context 1 ∷ []

-- the newest context stays and becomes another: its frame is in use, and what stood above it is gone
abbrev pub renew : List Micro → List Micro
renew saves = Window Context 3 ∷ Get Frame Context 2 ∷ saves ++ (behind Top Context words_of_context ∷ [])

abbrev pub put_entry : PutKind → ℕ
put_entry kind.Int = put_int_entry
put_entry kind.Char = put_char_entry
put_entry kind.Bool = put_bool_entry

-- the datum in Datum is put
abbrev pub put_block : PutKind → List Micro
put_block kind.Int = Jump put_int ∷ []
put_block kind.Char = Put Datum ∷ Jump meet ∷ []
put_block kind.Bool = Test Bne Datum Zero put_true ∷ Jump put_false ∷ []

-- straight code, whose faults are at labels from one on, puts its datum in focus, or a variable's own cell takes it
abbrev pub eval_block : ℕ → List StraightPart → List Micro
eval_block faults ss = straight_code ss 0 faults ++ (Jump meet ∷ [])

abbrev pub set_block : ℕ → ℕ → List StraightPart → List Micro
set_block faults k ss = straight_code ss 0 faults ++ (reach k ++ (Window First 3 ∷ Save First 2 Datum ∷ Jump meet ∷ []))

-- ---- blocks, for the item at address a of depth d. A fault's place has the number of its item

module _ (code : PeCode) (a d : ℕ) where
  -- the labels of its further blocks, and the words of its further entries
  abbrev pub block_label : ℕ → ℕ
  block_label k = label_of code a + k

  abbrev pub own_entry : ℕ → ℕ
  own_entry k = entry_number code a + k

  abbrev pub to_item : ℕ → Micro
  to_item x = Jump (label_of code x)

  -- a frame for its body
  abbrev pub bind_body : ℕ → List Micro
  bind_body y = bind d (label_of code y) (entry_number code y)

  -- what comes behind straight code for a purpose: a choice, a loop's turn under the context of its body, an acceptor under that of its datum
  abbrev pub purpose_block : Purpose → List Micro
  purpose_block (purpose.Choose x y) = Test Beq Datum Zero (label_of code y) ∷ to_item x ∷ []
  purpose_block (purpose.Repeat x) = Test Beq Datum Zero meet ∷ push_frame (own_entry 1) (label_of code x)
  purpose_block (purpose.Store x) = at_top ++ (Save Top 1 Context ∷ Save Top 2 Datum ∷ open_context (label_of code x))
  purpose_block (purpose.Write kind) = put_block kind

  -- its own block
  abbrev pub main_block : PeInsn → List Micro
  main_block (insn.UseVar k shape) =
      reach k
      ++ (Window First 2 ∷ Get Second First 0 ∷ Get Frame First 1
      ∷ Set Third (row_address code shape) ∷ Alu reg.Add Second Second Third ∷ Look Second Second ∷ Enter Second ∷ [])
  main_block (insn.Answer v) = Set Datum (word_of v) ∷ Jump meet ∷ []
  main_block (insn.Op1 op x) = push (own_entry 1) (label_of code x)
  main_block (insn.Op2 op x y) = push_frame (own_entry 1) (label_of code x)
  main_block (insn.Cond x y z) = push_frame (own_entry 1) (label_of code x)
  main_block (insn.Case x ys) = push_frame (own_entry 1) (label_of code x)
  main_block (insn.Bind y) = Window Context 4 ∷ Get First Context 2 ∷ Get Second Context 3 ∷ Get Context Context 1 ∷ bind_body y
  main_block (insn.Pass n y) =
      at_top ++ (Save Top 1 Context ∷ Set First (column_word (column_of code n)) ∷ Save Top 2 First ∷ Save Top 3 Frame ∷ open_context (label_of code y))
  main_block (insn.PassVar k y) =
      reach k
      ++ (Window First 2 ∷ Get Second First 0 ∷ Get Third First 1
      ∷ at_top ++ (Save Top 1 Context ∷ Save Top 2 Second ∷ Save Top 3 Third ∷ open_context (label_of code y)))
  main_block (insn.PassData v y) =
      at_top ++ (Save Top 1 Context ∷ Set First (column_word datum_column) ∷ Set Second (word_of v) ∷ open_argument (label_of code y))
  main_block (insn.Field i x) = Window Context 2 ∷ Get Context Context 1 ∷ to_item x ∷ []
  main_block (insn.Pick i x) = at_top ++ (Save Top 1 Context ∷ open_context (label_of code x))
  main_block (insn.Let n y) = Set First (column_word (column_of code n)) ∷ move Second Frame ∷ bind_body y
  main_block (insn.LetVar k y) = reach k ++ (Window First 2 ∷ Get Second First 1 ∷ Get First First 0 ∷ bind_body y)
  main_block (insn.LetData v y) = Set First (column_word datum_column) ∷ Set Second (word_of v) ∷ bind_body y
  main_block (insn.Knot n y) = Set First (column_word (column_of code n)) ∷ move Second Frame ∷ bind_body y
  main_block insn.Done = Jump meet ∷ []
  main_block (insn.Cells x y) = push_frame (own_entry 1) (label_of code x)
  main_block (insn.Seq x y) = push_frame (own_entry 1) (label_of code x)
  main_block (insn.Assign x y) = push_frame (own_entry 1) (label_of code y)
  main_block (insn.While x y) = push_frame (own_entry 1) (label_of code x)
  main_block (insn.Loop x) = push_frame (own_entry 1) (label_of code x)
  main_block (insn.New x y) = push_frame (own_entry 1) (label_of code x)
  main_block (insn.Escape y) =
      Room (words_of_context + frame_words d) exhausted ∷ Window Top (words_of_context + 3)
      ∷ Set First (entry_word pop_entry) ∷ Save Top 0 First ∷ Save Top 1 Context ∷ move Context Top ∷ behind Top Top words_of_context
      ∷ Set First (column_word escape_column) ∷ Save Top 0 First ∷ Save Top 1 Top ∷ Save Top 2 Context
      ∷ open_frame d (label_of code y) (entry_number code y)
  main_block (insn.Accept y) = Window Context 3 ∷ Get Second Context 2 ∷ Get Context Context 1 ∷ Set First (column_word datum_column) ∷ bind_body y
  main_block (insn.Put kind x) = push (put_entry kind) (label_of code x)
  main_block (insn.Read x) =
      at_top ++ (Take First ∷ Save Top 1 Context ∷ Save Top 2 First ∷ open_context (label_of code x))
  main_block (insn.Eval ss) = eval_block (block_label 1) ss
  main_block (insn.Set k ss) = set_block (block_label 1) k ss
  main_block (insn.EvalFor ss u) = straight_code ss 0 (block_label (faults_from u)) ++ purpose_block u

  -- ---- the blocks of its contexts

  -- the left operand's datum: of `and` and `or` it may decide, else the right operand is next
  abbrev pub left_block : BinOp → ℕ → List Micro
  left_block And y = answer_frame ++ (Test Beq Datum Zero meet ∷ to_item y ∷ [])
  left_block Or y = answer_frame ++ (Test Bne Datum Zero meet ∷ to_item y ∷ [])
  left_block op y = renew (Save Context 2 Datum ∷ Set First (entry_word (own_entry 2)) ∷ Save Context 0 First ∷ []) ++ (to_item y ∷ [])

  abbrev pub if_block : ℕ → ℕ → List Micro
  if_block y z = answer_frame ++ (Test Beq Datum Zero (label_of code z) ∷ to_item y ∷ [])

  -- the entries of the parts stand one behind the other
  abbrev pub case_block : ℕ → List Micro
  case_block count =
      answer_frame
      ++ (Set First count ∷ Test Bgeu Datum First (block_label 2)
      ∷ Shift Slli Datum Datum 3 ∷ Set First (entry_word (own_entry 2)) ∷ Alu reg.Add First First Datum ∷ Enter First ∷ [])

  abbrev pub then_block : ℕ → List Micro
  then_block y = answer_frame ++ (to_item y ∷ [])

  -- the context of an acceptor has the datum in word 2, and is never met
  abbrev pub assign_block : ℕ → List Micro
  assign_block x = renew (Save Context 2 Datum ∷ []) ++ (to_item x ∷ [])

  abbrev pub while_block : ℕ → List Micro
  while_block y = Test Beq Datum Zero pop_label ∷ renew (Set First (entry_word (own_entry 2)) ∷ Save Context 0 First ∷ []) ++ (to_item y ∷ [])

  -- a loop again
  abbrev pub again_block : List Micro
  again_block = answer_frame ++ (to_item a ∷ [])

  -- a cell that holds the datum: its context in place of the first value's, and its frame above that
  abbrev pub new_block : ℕ → List Micro
  new_block y =
      behind Top Context words_of_context ∷ Room (frame_words d) exhausted ∷ Window Context (words_of_context + 3)
      ∷ Get Frame Context 2 ∷ Set First (entry_word pop_entry) ∷ Save Context 0 First ∷ behind Top Context words_of_context
      ∷ Set First (column_word cell_column) ∷ Save Top 0 First ∷ Save Top 1 Top ∷ Save Top 2 Datum
      ∷ open_frame d (label_of code y) (entry_number code y)

  -- ---- its blocks and its entries in order

  abbrev pub unary_fault_blocks : UnOp → List (List Micro)
  unary_fault_blocks Neg = (Fault fault.Overflow a ∷ []) ∷ []
  unary_fault_blocks Chr = (Fault fault.Range a ∷ []) ∷ []
  unary_fault_blocks _ = []

  abbrev pub binary_fault_blocks : BinOp → List (List Micro)
  binary_fault_blocks Add = (Fault fault.Overflow a ∷ []) ∷ []
  binary_fault_blocks Sub = (Fault fault.Overflow a ∷ []) ∷ []
  binary_fault_blocks Mul = (Fault fault.Overflow a ∷ []) ∷ []
  binary_fault_blocks Div = (Fault fault.Zero a ∷ []) ∷ (Fault fault.Overflow a ∷ []) ∷ []
  binary_fault_blocks Rem = (Fault fault.Zero a ∷ []) ∷ []
  binary_fault_blocks _ = []

  abbrev pub blocks_of : PeInsn → List (List Micro)
  blocks_of (insn.Op1 op x) = main_block (insn.Op1 op x) ∷ unary_fault_blocks op
  blocks_of (insn.Op2 op x y) = main_block (insn.Op2 op x y) ∷ left_block op y ∷ binary_fault_blocks op
  blocks_of (insn.Cond x y z) = main_block (insn.Cond x y z) ∷ if_block y z ∷ []
  blocks_of (insn.Case x ys) = main_block (insn.Case x ys) ∷ case_block (length ys) ∷ (Fault fault.Range a ∷ []) ∷ []
  blocks_of (insn.Seq x y) = main_block (insn.Seq x y) ∷ then_block y ∷ []
  blocks_of (insn.Assign x y) = main_block (insn.Assign x y) ∷ assign_block x ∷ []
  blocks_of (insn.While x y) = main_block (insn.While x y) ∷ while_block y ∷ again_block ∷ []
  blocks_of (insn.Loop x) = main_block (insn.Loop x) ∷ again_block ∷ []
  blocks_of (insn.New x y) = main_block (insn.New x y) ∷ new_block y ∷ []
  blocks_of (insn.Cells x y) = main_block (insn.Cells x y) ∷ bind_body y ∷ (Fault fault.Range a ∷ []) ∷ []
  blocks_of (insn.Eval ss) = main_block (insn.Eval ss) ∷ fault_blocks ss
  blocks_of (insn.Set k ss) = main_block (insn.Set k ss) ∷ fault_blocks ss
  blocks_of (insn.EvalFor ss (purpose.Repeat x)) = main_block (insn.EvalFor ss (purpose.Repeat x)) ∷ again_block ∷ fault_blocks ss
  blocks_of (insn.EvalFor ss u) = main_block (insn.EvalFor ss u) ∷ fault_blocks ss
  blocks_of i = main_block i ∷ []

  abbrev pub unary_entries : UnOp → List ℕ
  unary_entries Neg = block_label 1 ∷ []
  unary_entries Chr = block_label 1 ∷ []
  unary_entries _ = []

  abbrev pub binary_entries : BinOp → List ℕ
  binary_entries And = []
  binary_entries Or = []
  binary_entries Div = binary_label first_operator Div ∷ block_label 2 ∷ block_label 3 ∷ []
  binary_entries Add = binary_label first_operator Add ∷ block_label 2 ∷ []
  binary_entries Sub = binary_label first_operator Sub ∷ block_label 2 ∷ []
  binary_entries Mul = binary_label first_operator Mul ∷ block_label 2 ∷ []
  binary_entries Rem = binary_label first_operator Rem ∷ block_label 2 ∷ []
  binary_entries op = binary_label first_operator op ∷ []

  abbrev pub entries_of : PeInsn → List ℕ
  entries_of (insn.Op1 op x) = block_label 0 ∷ unary_label first_operator op ∷ unary_entries op
  entries_of (insn.Op2 op x y) = block_label 0 ∷ block_label 1 ∷ binary_entries op
  entries_of (insn.Cond x y z) = block_label 0 ∷ block_label 1 ∷ []
  entries_of (insn.Case x ys) = block_label 0 ∷ block_label 1 ∷ map (label_of code) ys
  entries_of (insn.Seq x y) = block_label 0 ∷ block_label 1 ∷ []
  entries_of (insn.Assign x y) = block_label 0 ∷ block_label 1 ∷ []
  entries_of (insn.While x y) = block_label 0 ∷ block_label 1 ∷ block_label 2 ∷ []
  entries_of (insn.Loop x) = block_label 0 ∷ block_label 1 ∷ []
  entries_of (insn.EvalFor ss (purpose.Repeat x)) = block_label 0 ∷ block_label 1 ∷ []
  entries_of (insn.New x y) = block_label 0 ∷ block_label 1 ∷ []
  entries_of (insn.Cells x y) = block_label 0 ∷ count_label ∷ block_label 1 ∷ pop_label ∷ block_label 2 ∷ []
  entries_of i = block_label 0 ∷ []

-- ---- sequences of cells

-- While its cells are made, Second has how many a sequence is to have, Datum how many there are, and the frame around is in use; the cells stand on the
-- context. A sequence's payload is the address of word 2 of that context, which has their number, so that cell i is word 2 behind word i of it. The entry in
-- word 0 of the context is an item's own, and one of those behind it tells the item's fault.

-- their number meets the context, whose entry is in First: below 0 it is a word from 2 ^ 63 on
abbrev pub count_block : List Micro
count_block =
    Set Second (2 ^ 63) ∷ Test Bgeu Datum Second no_count_label
    ∷ Window Context 3 ∷ Get Frame Context 2 ∷ Save Context 2 Datum ∷ behind First First 1 ∷ Save Context 0 First ∷ behind Top Context words_of_context
    ∷ move Second Datum ∷ move Datum Zero ∷ Test Bne Second Zero fill_label ∷ Jump filled_label ∷ []

abbrev pub no_count_block : List Micro
no_count_block = behind First First 3 ∷ Enter First ∷ []

-- one cell more
abbrev pub fill_block : List Micro
fill_block =
    Room 1 exhausted ∷ Window Top 1 ∷ Save Top 0 Zero ∷ behind Top Top 1 ∷ Imm Addi Datum Datum (pos 1) ∷ Test Bne Datum Second fill_label ∷ Jump filled_label ∷ []

-- all are there: the context becomes the one that drops them, and the item goes on with the binding of the sequence in First and Second
abbrev pub filled_block : List Micro
filled_block =
    Window Context 1 ∷ Get Third Context 0 ∷ behind First Third 1 ∷ Save Context 0 First ∷ behind Second Context 2 ∷ Set First (column_word sequence_column)
    ∷ Enter Third ∷ []

-- a cell is read or written. In use is its frame, or for cell i of a sequence what is i words behind the number of the cells
abbrev pub read_block : List Micro
read_block = Window Frame 3 ∷ Get Datum Frame 2 ∷ Jump meet ∷ []

abbrev pub write_block : List Micro
write_block = Window Context 3 ∷ Get Datum Context 2 ∷ Get Context Context 1 ∷ Window Frame 3 ∷ Save Frame 2 Datum ∷ Jump meet ∷ []

-- an index meets the context of the sequence, and its cell is read or written
abbrev pub element_block : (cell : List Micro) → List Micro
element_block cell =
    Window Context 3 ∷ Get First Context 2 ∷ move Top Context ∷ Get Context Context 1 ∷ Window First 1 ∷ Get Second First 0
    ∷ Test Bgeu Datum Second outside_label ∷ Shift Slli Datum Datum 3 ∷ Alu reg.Add Frame First Datum ∷ cell

-- there is no such cell
abbrev pub outside_block : List Micro
outside_block = Imm Addi First First (negsuc 15) ∷ Window First 1 ∷ Get First First 0 ∷ behind First First 1 ∷ Enter First ∷ []

-- the newest context asks for the length
abbrev pub length_block : List Micro
length_block = Window Context 2 ∷ Get Context Context 1 ∷ Window Frame 1 ∷ Get Datum Frame 0 ∷ Jump meet ∷ []

-- an index is taken, and entered through a row of the table under its own context, which has the payload of the sequence that was in use
abbrev pub indexing : (entry row : ℕ) → List Micro
indexing entry row =
    Room words_of_context no_room_label ∷ Window Top words_of_context ∷ Save Top 2 Frame
    ∷ Window Context words_of_context ∷ Get Second Context 2 ∷ Get Frame Context 3 ∷ Get Context Context 1
    ∷ Set First (entry_word entry) ∷ Save Top 0 First ∷ Save Top 1 Context ∷ move Context Top ∷ behind Top Top words_of_context
    ∷ Set Third row ∷ Alu reg.Add Second Second Third ∷ Look Second Second ∷ Enter Second ∷ []

-- at a shape; where indices have none, no sequence is entered so
abbrev pub index_block : PeCode → ℕ → Option ℕ → List Micro
index_block code entry (Some shape) = indexing entry (row_address code shape)
index_block code entry None = Jump meet ∷ []

-- without room for that context; an escape leaves it at once, and needs none
abbrev pub no_room_block : List Micro
no_room_block =
    Window Context words_of_context ∷ Get Second Context 2 ∷ Get Frame Context 3 ∷ Set First (column_word escape_column) ∷ Test Bne Second First exhausted
    ∷ Jump leave_label ∷ []

-- ---- the blocks that every program has

-- the stack's foot is a context whose entry ends the program
abbrev pub start_block : PeCode → List Micro
start_block code =
    Set Top stack_start ∷ move Frame Top ∷ move Context Top ∷ Window Top 1
    ∷ Set First (entry_word end_entry) ∷ Save Top 0 First ∷ behind Top Top 1 ∷ Jump (label_of code 0) ∷ []

-- a datum or a finished command meets the newest context, by the context's entry; and the code whose entry is in Datum goes on
abbrev pub caller_blocks : List (List Micro)
caller_blocks = (Window Context 1 ∷ Get First Context 0 ∷ Enter First ∷ []) ∷ (Enter Datum ∷ []) ∷ []

-- those of sequences of cells
abbrev pub sequence_blocks : PeCode → List (List Micro)
sequence_blocks code =
    count_block ∷ no_count_block ∷ fill_block ∷ filled_block ∷ element_block read_block ∷ element_block write_block ∷ outside_block ∷ length_block ∷ no_room_block
    ∷ index_block code (element_entry false) code.sequences.value ∷ index_block code (element_entry true) code.sequences.value ∷ []

abbrev pub own_blocks : PeCode → List (List Micro)
own_blocks code =
    start_block code
    ∷ (End ∷ [])
    -- a binding that is a datum has it as its payload; a cell's and an escape's payload is its frame
    ∷ (move Datum Frame ∷ Jump meet ∷ [])
    ∷ read_block
    ∷ write_block
    ∷ (Window Frame 3 ∷ Get Context Frame 2 ∷ Jump pop_label ∷ [])
    ∷ (answer ++ (Jump meet ∷ []))
    ∷ (answer ++ put_block kind.Int)
    ∷ (answer ++ put_block kind.Char)
    ∷ (answer ++ put_block kind.Bool)
    ∷ sequence_blocks code
