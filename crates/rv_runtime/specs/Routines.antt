-- The routines, a block of micro-operations each. They go to blocks of the caller where they have done their work, and read no entry and no table.
use Rattle.std.specs.Prelude.{ℕ, zero, suc, pos, true, false, List, [], ◌∷◌}
use Rattle.fy_base.specs.declared.data.FaultKind.{FaultKind}
use Rattle.fy_base.specs.Arithmetic.{truth_text}
use Rattle.fy_base.specs.Outside.{Bytes}
use Rattle.rv_insn.specs.declared.instructions.RegOp.TheVariants.{Add, Sub, Mul, Divu, Remu}
use Rattle.rv_insn.specs.declared.instructions.ImmOp.TheVariants.{Addi, Sltiu}
use Rattle.rv_insn.specs.declared.instructions.BranchOp.TheVariants.{Bne, Bge, Bltu}
use Rattle.rv_word.specs.declared.micros.Register.TheVariants.{Zero, Frame, Top, Datum, First, Second, Third}
use Rattle.rv_word.specs.declared.micros.Micro.{Micro}
use Rattle.rv_word.specs.declared.micros.Micro.TheVariants.{Set, Imm, Alu, Window, Get, Save, Test, Jump, Put, Exhaust, Fault}
use Rattle.rv_runtime.specs.declared.labels.TheConstants.{MEET, GO, EXHAUSTED, PUT_TRUE, PUT_FALSE, PUT_INT, PUT_MAGNITUDE, FIND_POWER, PUT_DIGITS, MAKE_FRAME, COPY_DISPLAY, COPY_FEW, FIRST_FREE}

-- ---- labels

-- the caller's: a datum or a finished command meets the newest context
abbrev pub meet : ℕ
meet = MEET

-- the caller's: the code whose entry is in Datum goes on
abbrev pub go : ℕ
go = GO

-- the stack is exhausted
abbrev pub exhausted : ℕ
exhausted = EXHAUSTED

-- a truth value is put
abbrev pub put_true : ℕ
put_true = PUT_TRUE

abbrev pub put_false : ℕ
put_false = PUT_FALSE

-- the integer in Datum is put, and then in turn: the number without sign, the search for its highest digit, its digits
abbrev pub put_int : ℕ
put_int = PUT_INT

abbrev pub put_magnitude : ℕ
put_magnitude = PUT_MAGNITUDE

abbrev pub find_power : ℕ
find_power = FIND_POWER

abbrev pub put_digits : ℕ
put_digits = PUT_DIGITS

-- a frame is made, and then its display is copied, the last four words apart
abbrev pub make_frame : ℕ
make_frame = MAKE_FRAME

abbrev pub copy_display : ℕ
copy_display = COPY_DISPLAY

abbrev pub copy_few : ℕ
copy_few = COPY_FEW

-- the first label behind the routines
abbrev pub first_free : ℕ
first_free = FIRST_FREE

-- ---- ends

abbrev pub exhausted_block : List Micro
exhausted_block = Exhaust ∷ []

-- a fault's place is part of its words, so each place at which a program may fault has a block of its own
abbrev pub fault_block : FaultKind → ℕ → List Micro
fault_block kind place = Fault kind place ∷ []

-- ---- output

-- puts a text, byte by byte
abbrev pub text_block : Bytes → List Micro
text_block [] = Jump meet ∷ []
text_block (byte ∷ bytes) = Set Second byte ∷ Put Second ∷ text_block bytes

-- puts Datum as an integer: where it is negative, a sign and then 0 - Datum, which as a number without sign is right for the least integer too
abbrev pub put_int_block : List Micro
put_int_block = Test Bge Datum Zero put_magnitude ∷ Set Second 45 ∷ Put Second ∷ Alu Sub Datum Zero Datum ∷ Jump put_magnitude ∷ []

-- puts Datum as a number without sign. First becomes a power of ten, from 1 on, and Second is a tenth of the number
abbrev pub put_magnitude_block : List Micro
put_magnitude_block = Set First 1 ∷ Set Third 10 ∷ Alu Divu Second Datum Third ∷ Jump find_power ∷ []

-- as long as First isn't above a tenth of the number, ten times First isn't above the number
abbrev pub find_power_block : List Micro
find_power_block = Test Bltu Second First put_digits ∷ Alu Mul First First Third ∷ Jump find_power ∷ []

-- puts the highest digit of what is left, with the weight in First
abbrev pub put_digits_block : List Micro
put_digits_block =
    Alu Divu Second Datum First
    ∷ Imm Addi Second Second (pos 48)
    ∷ Put Second
    ∷ Alu Remu Datum Datum First
    ∷ Alu Divu First First Third
    ∷ Test Bne First Zero put_digits
    ∷ Jump meet
    ∷ []

-- ---- frames

-- makes the frame at Top, whose size is in Third, inside the frame in Frame: the display is the address of that frame, and then its display
abbrev pub make_frame_block : List Micro
make_frame_block =
    Window Top 4
    ∷ Save Top 3 Frame
    ∷ Alu Add Second Top Third
    ∷ Imm Addi Third Frame (pos 24)
    ∷ Imm Addi Frame Top (pos 0)
    ∷ Imm Addi Top Top (pos 32)
    ∷ Test Bne Top Second copy_display
    ∷ Jump go
    ∷ []

-- so many words, from one on, are copied from Third to Top, and then come others
abbrev pub copied_words : (count from : ℕ) → List Micro → List Micro
copied_words zero from rest = rest
copied_words (suc count) from rest = Get First Third from ∷ Save Top from First ∷ copied_words count (suc from) rest

-- the words from Third on go to Top and on, up to the address in Second: eight at a time, as long as there are so many
abbrev pub copy_display_block : List Micro
copy_display_block =
    Alu Sub First Second Top
    ∷ Imm Sltiu First First (pos 64)
    ∷ Test Bne First Zero copy_few
    ∷ Window Third 8
    ∷ Window Top 8
    ∷ copied_words 8 0 (Imm Addi Third Third (pos 64) ∷ Imm Addi Top Top (pos 64) ∷ Test Bne Top Second copy_display ∷ Jump go ∷ [])

-- the last four
abbrev pub copy_few_block : List Micro
copy_few_block = Window Third 4 ∷ Window Top 4 ∷ copied_words 4 0 (Imm Addi Top Top (pos 32) ∷ Jump go ∷ [])

-- ---- all

-- the blocks of the labels from exhausted on
abbrev pub routine_blocks : List (List Micro)
routine_blocks =
    exhausted_block
    ∷ text_block (truth_text true)
    ∷ text_block (truth_text false)
    ∷ put_int_block
    ∷ put_magnitude_block
    ∷ find_power_block
    ∷ put_digits_block
    ∷ make_frame_block
    ∷ copy_display_block
    ∷ copy_few_block
    ∷ []
