-- The word machine: blocks of micro-operations over seven registers of 64 bits, a stack of words and a table of words that is only read.
use Rattle.std.specs.Prelude.{ℕ, zero, suc, ◌+◌, ◌-◌, ◌*◌, ◌/◌, ◌%◌, ◌^◌, Bool, ◌&&◌, nat_lt, nat_le, nat_eq, if◌then◌else◌, List, [], ◌∷◌, ◌++◌, length, drop, slice_index, slice_index_or, slice_set, slice_get, Some, None}
use Rattle.std.specs.declared.option.Option.{Option}
use Rattle.std.specs.Int.{cast_unsigned, w64}
use Rattle.fy_base.specs.declared.data.Place.{Place}
use Rattle.fy_base.specs.declared.data.FaultKind.{FaultKind}
use Rattle.rv_insn.specs.declared.events.Event.{Event}
use Rattle.rv_insn.specs.declared.events.Event.TheVariants as event
use Rattle.rv_insn.specs.Operations.{reg_value, imm_value, shift_value, is_taken}
use Rattle.rv_insn.specs.Program.{table_start, stack_start}
use Rattle.rv_word.specs.declared.micros.Register.{Register}
use Rattle.rv_word.specs.declared.micros.Register.TheVariants.{Zero, Frame, Context, Top, Datum, First, Second, Third}
use Rattle.rv_word.specs.declared.micros.Micro.{Micro}
use Rattle.rv_word.specs.declared.micros.Micro.TheVariants.{Set, Imm, Shift, Alu, Window, Get, Save, Look, Room, Test, Jump, Enter, Put, Take, End, Exhaust, Fault}

-- ---- registers

-- their values
pub record Named : Type 0 where
  pub frame : ℕ
  pub context : ℕ
  pub top : ℕ
  pub datum : ℕ
  pub first : ℕ
  pub second : ℕ
  pub third : ℕ

abbrev pub get : Named → Register → ℕ
get n Zero = 0
get n Frame = n.frame
get n Context = n.context
get n Top = n.top
get n Datum = n.datum
get n First = n.first
get n Second = n.second
get n Third = n.third

-- what is written to the register that is always 0 is lost
abbrev pub set : Named → Register → ℕ → Named
set n Zero v = n
set n Frame v = record n { frame = v }
set n Context v = record n { context = v }
set n Top v = record n { top = v }
set n Datum v = record n { datum = v }
set n First v = record n { first = v }
set n Second v = record n { second = v }
set n Third v = record n { third = v }

-- ---- states

-- what a run changes: the registers, the words of the stack, the input that is left and the output so far
pub record Data : Type 0 where
  pub named : Named
  pub words : List ℕ
  pub input : List ℕ
  pub output : List ℕ

-- the blocks by their labels, the labels of the entries, the words of the table, and the places that faults name
pub record Code : Type 0 where
  pub blocks : List (List Micro)
  pub entries : List ℕ
  pub table : List ℕ
  pub places : List Place

-- what is left of the block in which the machine is, and its data
pub record State : Type 0 where
  pub rest : List Micro
  pub held : Data

-- where steps lead: on, to an operation that repeats itself for ever, to the end of the run, or to what no machine does
pub data Led : Type 0 where
  goes : (s : State) → Led
  hangs : (e : Data) → Led
  stops : (how : Event) (e : Data) → Led
  wrong : Led

-- ---- addresses

-- the address of a word of the stack, and of one of the table
abbrev pub word_address : ℕ → ℕ
word_address k = stack_start + 8 * k

abbrev pub table_address : ℕ → ℕ
table_address k = table_start + 8 * k

-- the number of the word of the stack at an address, and of the word of the table
abbrev pub word_number : ℕ → ℕ
word_number address = (address - stack_start) / 8

abbrev pub table_number : ℕ → ℕ
table_number address = (address - table_start) / 8

-- just past the stack
abbrev pub limit : Data → ℕ
limit e = word_address (length e.words)

-- the address is that of a word, and so many words lie in the stack from it on
abbrev pub has_window : Data → ℕ → ℕ → Bool
has_window e address k = nat_le stack_start address && (nat_le (address + 8 * k) (limit e) && nat_eq (address % 8) 0)

-- the address is that of a word of the table
abbrev pub is_in_table : Code → ℕ → Bool
is_in_table code address =
    nat_le table_start address && (nat_lt address (table_address (length code.table)) && nat_eq (address % 8) 0)

-- ---- one step

-- the micro-operations of a block; a label that has none stands for no operation
abbrev pub block : Code → ℕ → List Micro
block code label = slice_index_or code.blocks label []

abbrev pub onward : List Micro → Data → Led
onward rest e = goes (record { rest = rest; held = e })

abbrev pub written : List Micro → Register → ℕ → Data → Led
written rest r v e = onward rest (record e { named = set e.named r v })

-- the next byte of input, or all ones
abbrev pub taken_in : Option ℕ → ℕ
taken_in None = 2 ^ 64 - 1
taken_in (Some byte) = byte

abbrev pub faulted : Option Place → FaultKind → Data → Led
faulted None kind e = wrong
faulted (Some place) kind e = stops (event.Fault kind place) e

-- a micro-operation, with `rest` behind it in its block
abbrev pub does : Code → Micro → List Micro → Data → Led
does code (Set r v) rest e = written rest r v e
does code (Imm op r s imm) rest e = written rest r (imm_value op (get e.named s) (cast_unsigned w64 imm)) e
does code (Shift op r s amount) rest e = written rest r (shift_value op (get e.named s) amount) e
does code (Alu op r s t) rest e = written rest r (reg_value op (get e.named s) (get e.named t)) e
does code (Window r k) rest e = if has_window e (get e.named r) k then onward rest e else hangs e
does code (Get r s k) rest e =
    if has_window e (get e.named s) (k + 1) then written rest r (slice_index e.words (word_number (get e.named s) + k)) e else wrong
does code (Save s k r) rest e =
    if has_window e (get e.named s) (k + 1)
    then onward rest (record e { words = slice_set e.words (word_number (get e.named s) + k) (get e.named r) }) else wrong
does code (Look r s) rest e =
    if is_in_table code (get e.named s) then written rest r (slice_index code.table (table_number (get e.named s))) e else hangs e
does code (Room k label) rest e = onward (if nat_le (e.named.top + 8 * k) (limit e) then rest else block code label) e
does code (Test op r s label) rest e = onward (if is_taken op (get e.named r) (get e.named s) then block code label else rest) e
does code (Jump label) rest e = onward (block code label) e
does code (Enter r) rest e =
    if nat_lt (get e.named r / 8) (length code.entries) then onward (block code (slice_index code.entries (get e.named r / 8))) e else hangs e
does code (Put r) rest e = onward rest (record e { output = e.output ++ (get e.named r % 256) ∷ [] })
does code (Take r) rest e = written rest r (taken_in (slice_get e.input 0)) (record e { input = drop 1 e.input })
does code End rest e = stops event.Ended e
does code Exhaust rest e = stops event.Exhausted e
does code (Fault kind place) rest e = faulted (slice_get code.places place) kind e

-- behind the last operation of a block there is none
abbrev pub does_first : Code → List Micro → Data → Led
does_first code [] e = wrong
does_first code (m ∷ rest) e = does code m rest e

abbrev pub word_step : Code → State → Led
word_step code s = does_first code s.rest s.held

-- ---- runs

abbrev pub after_step : Code → Led → Led
after_step code (goes s) = word_step code s
after_step code (hangs e) = hangs e
after_step code (stops how e) = stops how e
after_step code wrong = wrong

-- n steps on from where others led
unfoldable pub led_on : Code → ℕ → Led → Led
led_on code zero r = r
led_on code (suc n) r = after_step code (led_on code n r)

-- n steps
abbrev pub word_run : Code → ℕ → State → Led
word_run code n s = led_on code n (goes s)

-- registers that are all 0
abbrev pub zeros : Named
zeros = record { frame = 0; context = 0; top = 0; datum = 0; first = 0; second = 0; third = 0 }
