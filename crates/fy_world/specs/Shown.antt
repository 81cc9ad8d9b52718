-- How a word of code is shown: its address, itself, and its instruction. RISC-V Unprivileged ISA, "RV32/64G Instruction Set Listings".
use Rattle.std.specs.Prelude.{ℕ, ◌+◌, ◌-◌, ◌*◌, ◌/◌, ◌%◌, ◌^◌, nat_lt, if◌then◌else◌, List, [], ◌∷◌, ◌++◌, map, slice_index_or, codes, Some, None}
use Rattle.std.specs.declared.option.Option.{Option}
use Rattle.fy_base.specs.Outside.{Bytes}
use Rattle.rv_insn.specs.declared.instructions.Insn.{Insn}
use Rattle.rv_insn.specs.Prints.{insn_print}
use Rattle.rv_insn.specs.Program.{Program, code_start}
use Rattle.rv_machine.specs.declared.watch.Fetched.{Fetched}

-- a hexadecimal digit, in small letters
abbrev pub hex_digit : ℕ → ℕ
hex_digit d = if nat_lt d 10 then 48 + d else 87 + d

-- the eight lowest hexadecimal digits of a number, the highest of them first
abbrev pub hex_text : ℕ → Bytes
hex_text n =
    hex_digit (n / 2 ^ 28 % 16)
    ∷ hex_digit (n / 2 ^ 24 % 16)
    ∷ hex_digit (n / 2 ^ 20 % 16)
    ∷ hex_digit (n / 2 ^ 16 % 16)
    ∷ hex_digit (n / 2 ^ 12 % 16)
    ∷ hex_digit (n / 2 ^ 8 % 16)
    ∷ hex_digit (n / 2 ^ 4 % 16)
    ∷ hex_digit (n % 16)
    ∷ []

-- the print of an instruction, or `illegal` for a word that belongs to none
abbrev pub insn_text : Option Insn → Bytes
insn_text (Some insn) = insn_print insn
insn_text None = codes "illegal"

-- `PC WORD TEXT`
abbrev pub word_text : Fetched → Option Insn → Bytes
word_text fetched insn = hex_text fetched.pc ++ (32 ∷ (hex_text fetched.word ++ (32 ∷ insn_text insn)))

-- the instruction at an address of the code
abbrev pub insn_at : Program → ℕ → Option Insn
insn_at program address = slice_index_or program.instructions ((address - code_start) / 4) None

-- how a word of a program is shown
abbrev pub shown : Program → Fetched → Bytes
shown program fetched = word_text fetched (insn_at program fetched.pc)

-- the words of code from number k on, each with its address
abbrev pub placed_from : ℕ → List ℕ → List Fetched
placed_from k [] = []
placed_from k (word ∷ words) = (record { pc = code_start + 4 * k; word = word }) ∷ placed_from (k + 1) words

-- the listing of a program: a line for each word of its code, in order
abbrev pub listing : Program → List Bytes
listing program = map (shown program) (placed_from 0 program.words)
