-- The definitions of the step at numbers: special cases that the manual tables, and a run.
use Rattle.std.proofs.Common.{◌≡◌, ℕ, ◌-◌, true, false, List, [], ◌∷◌, Some, None, Ok, Err, replicate, slice_set, refl, pos, negsuc}
use Rattle.fy_base.specs.declared.data.TrapKind.TheVariants.{Illegal, FetchAlign, FetchRange, LoadAlign, LoadRange, StoreAlign, StoreRange, Service}
use Rattle.fy_base.specs.declared.data.Place.{Place}
use Rattle.fy_base.specs.Places.{columns_on, first_place, next_line}
use Rattle.fy_base.specs.declared.data.FaultKind.TheVariants.{Overflow, Zero, Range}
use Rattle.rv_insn.specs.declared.events.Event.{Event}
use Rattle.rv_insn.specs.declared.events.Event.TheVariants.{Going, Put, WantByte, Ended, Fault, Exhausted, Trap}
use Rattle.rv_insn.specs.declared.events.Status.TheVariants.{Running}
use Rattle.rv_insn.specs.declared.instructions.RegOp.TheVariants.{Sub, Slt, Sltu, Sra, Mulh, Mulhsu, Mulhu, Addw, Subw, Sllw, Srlw, Sraw, Div, Divu, Rem, Remu, Divw, Divuw, Remw, Remuw}
use Rattle.rv_insn.specs.declared.instructions.ImmOp.TheVariants.{Addi, Sltiu, Addiw}
use Rattle.rv_insn.specs.declared.instructions.ShiftOp.TheVariants.{Srai, Sraiw, Slliw}
use Rattle.rv_insn.specs.declared.instructions.LoadOp.TheVariants.{Lb, Lbu, Lh, Lw, Lwu, Ld}
use Rattle.rv_insn.specs.declared.instructions.StoreOp.TheVariants.{Sb, Sw, Sd}
use Rattle.rv_insn.specs.declared.instructions.BranchOp.TheVariants.{Blt, Bltu, Bge}
use Rattle.rv_insn.specs.declared.instructions.Insn.TheVariants.{Imm, Jalr, Ecall}
use Rattle.rv_insn.specs.Operations.{reg_value, imm_value, shift_value, is_taken, upper_value}
use Rattle.rv_insn.specs.Program.{Program}
use Rattle.rv_insn.specs.Memory.{load, load_size, load_value, store, store_size, store_bytes}
use Rattle.rv_insn.specs.Step.{execute, service, instruction_step, reg}
use Rattle.fy_runs.specs.Runs.{after}
use Rattle.rv_insn.specs.Run.{World, run}

-- the least number, and all ones: -1
abbrev least : ℕ
least = 0x8000000000000000

abbrev ones : ℕ
ones = 0xffffffffffffffff

differences : (reg_value Sub 0 1 ≡ ones) × (reg_value Subw 0 1 ≡ ones) × (reg_value Addw 0x7fffffff 1 ≡ 0xffffffff80000000) × (imm_value Addiw 0xffffffff 0 ≡ ones)
unfolding reg_value imm_value
differences = (refl, refl, refl, refl)

comparisons : (reg_value Slt ones 0 ≡ 1) × (reg_value Sltu ones 0 ≡ 0) × (imm_value Sltiu 5 ones ≡ 1) × (is_taken Blt least 0 ≡ true) × (is_taken Bltu least 0 ≡ false) × (is_taken Bge ones ones ≡ true)
unfolding reg_value imm_value is_taken
comparisons = (refl, refl, refl, refl, refl, refl)

shifts : (reg_value Sra least 63 ≡ ones) × (reg_value Sra 0x4000000000000000 62 ≡ 1) × (shift_value Srai ones 5 ≡ ones) × (reg_value Sllw 1 31 ≡ 0xffffffff80000000)
    × (reg_value Srlw ones 0 ≡ ones) × (reg_value Srlw ones 1 ≡ 0x7fffffff) × (reg_value Sraw 0x80000000 31 ≡ ones) × (shift_value Sraiw 0x7fffffff 30 ≡ 1) × (shift_value Slliw 3 31 ≡ 0xffffffff80000000)
unfolding reg_value shift_value
shifts = (refl, refl, refl, refl, refl, refl, refl, refl, refl)

products : (reg_value Mulh ones ones ≡ 0) × (reg_value Mulh least least ≡ 0x4000000000000000) × (reg_value Mulh ones 1 ≡ ones) × (reg_value Mulhsu ones ones ≡ ones) × (reg_value Mulhu ones ones ≡ 0xfffffffffffffffe)
unfolding reg_value
products = (refl, refl, refl, refl, refl)

-- by zero, past the range, and with signs (chapter "M", table "Semantics for division by zero and division overflow")
quotients : (reg_value Div 7 0 ≡ ones) × (reg_value Divu 7 0 ≡ ones) × (reg_value Rem 7 0 ≡ 7) × (reg_value Remu 7 0 ≡ 7) × (reg_value Div least ones ≡ least) × (reg_value Rem least ones ≡ 0)
    × (reg_value Div (ones - 6) 2 ≡ ones - 2) × (reg_value Rem (ones - 6) 2 ≡ ones) × (reg_value Rem 7 (ones - 1) ≡ 1)
unfolding reg_value
quotients = (refl, refl, refl, refl, refl, refl, refl, refl, refl)

word_quotients : (reg_value Divw 7 0 ≡ ones) × (reg_value Divuw 7 0 ≡ ones) × (reg_value Remw 0x80000000 0 ≡ 0xffffffff80000000) × (reg_value Remuw 0x80000000 0 ≡ 0xffffffff80000000)
    × (reg_value Divw 0x80000000 0xffffffff ≡ 0xffffffff80000000) × (reg_value Remw 0x80000000 0xffffffff ≡ 0) × (reg_value Divuw 0xffffffff 1 ≡ ones)
unfolding reg_value
word_quotients = (refl, refl, refl, refl, refl, refl, refl)

uppers : (upper_value 0x80000 ≡ 0xffffffff80000000) × (upper_value 0x7ffff ≡ 0x7ffff000)
uppers = (refl, refl)

-- two words of code, one of table, a stack of 16 bytes
abbrev small : Program
small = record { words = 0x04100513 ∷ 0x00100893 ∷ []; instructions = None ∷ None ∷ []; table = 0x8877665544332211 ∷ []; places = [] }

abbrev bytes : List ℕ
bytes = 0xff ∷ 0x80 ∷ 1 ∷ 2 ∷ 3 ∷ 4 ∷ 5 ∷ 6 ∷ 0 ∷ 0 ∷ 0 ∷ 0 ∷ 0 ∷ 0 ∷ 0 ∷ 0 ∷ []

loads : (load small bytes Lb 1073741824 ≡ Ok ones) × (load small bytes Lbu 1073741825 ≡ Ok 0x80) × (load small bytes Lh 1073741824 ≡ Ok 0xffffffffffff80ff) × (load small bytes Ld 1073741824 ≡ Ok 0x06050403020180ff)
    × (load small bytes Lwu 536870916 ≡ Ok 0x88776655) × (load small bytes Lw 536870916 ≡ Ok 0xffffffff88776655) × (load small bytes Ld 65536 ≡ Ok 0x0010089304100513) × (load small bytes Lbu 65541 ≡ Ok 0x08)
unfolding load load_size load_value
loads = (refl, refl, refl, refl, refl, refl, refl, refl)

load_traps : (load small bytes Lw 1073741826 ≡ Err LoadAlign) × (load small bytes Lw 3 ≡ Err LoadAlign) × (load small bytes Lw 4 ≡ Err LoadRange) × (load small bytes Ld 1073741840 ≡ Err LoadRange) × (load small bytes Ld 65544 ≡ Err LoadRange) × (load small bytes Ld 0xfffffffffffffff8 ≡ Err LoadRange)
unfolding load load_size load_value
load_traps = (refl, refl, refl, refl, refl, refl)

stores : (store bytes Sb 1073741825 0x1234 ≡ Ok (0xff ∷ 0x34 ∷ 1 ∷ 2 ∷ 3 ∷ 4 ∷ 5 ∷ 6 ∷ 0 ∷ 0 ∷ 0 ∷ 0 ∷ 0 ∷ 0 ∷ 0 ∷ 0 ∷ []))
    × (store bytes Sw 1073741836 0xffffffff01020304 ≡ Ok (0xff ∷ 0x80 ∷ 1 ∷ 2 ∷ 3 ∷ 4 ∷ 5 ∷ 6 ∷ 0 ∷ 0 ∷ 0 ∷ 0 ∷ 4 ∷ 3 ∷ 2 ∷ 1 ∷ []))
    × (store bytes Sd 1073741828 0 ≡ Err StoreAlign) × (store bytes Sd 1073741840 0 ≡ Err StoreRange) × (store bytes Sw 536870912 0 ≡ Err StoreRange)
unfolding store store_size store_bytes
stores = (refl, refl, refl, refl, refl)

-- a program that puts `A`, reads a byte and ends: its registers, its output and its end
abbrev echo : Program
echo = record {
  words = [];
  instructions = Some (Imm Addi 10 0 (pos 65)) ∷ Some (Imm Addi 17 0 (pos 1)) ∷ Some Ecall ∷ Some (Imm Addi 17 0 (pos 2)) ∷ Some Ecall ∷ Some (Imm Addi 17 0 (pos 0)) ∷ Some Ecall ∷ [];
  table = [];
  places = [];
}

abbrev first : World
first = record { core = record { regs = replicate 32 0; pc = 65536; stack = []; status = Running }; input = 7 ∷ 8 ∷ []; output = []; ending = Going }

echo_runs : ((run echo 7 first).output ≡ 65 ∷ []) × ((run echo 7 first).input ≡ 8 ∷ []) × ((run echo 7 first).ending ≡ Ended) × (reg (run echo 7 first).core 10 ≡ 7) × ((run echo 6 first).ending ≡ Going) × ((run echo 9 first).core.pc ≡ 65560)
unfolding after instruction_step execute service imm_value
echo_runs = (refl, refl, refl, refl, refl, refl)

-- what JALR leads to: bit 0 is cleared, the target is of the old register, and a bad target traps at the next fetch
abbrev leap : Program
leap = record { words = []; instructions = Some (Jalr 5 5 (negsuc 0)) ∷ []; table = []; places = [] }

abbrev from : ℕ → World
from target = record first { core = record first.core { regs = 0 ∷ 0 ∷ 0 ∷ 0 ∷ 0 ∷ target ∷ [] } }

leaps : ((run leap 1 (from 65544)).core.pc ≡ 65542) × (reg (run leap 1 (from 65544)).core 5 ≡ 65540) × ((run leap 1 (from 65544)).ending ≡ Going) × ((run leap 2 (from 65544)).ending ≡ Trap FetchAlign) × ((run leap 2 (from 65541)).ending ≡ Trap FetchRange) × ((run leap 1 (from 0)).core.pc ≡ 0xfffffffffffffffe)
unfolding after instruction_step execute
leaps = (refl, refl, refl, refl, refl, refl)

-- the services at x17, x10 and x11, with one place
abbrev place : Place
place = columns_on 4 (next_line (next_line first_place))

abbrev served : ℕ → ℕ → ℕ → Event
served x17 x10 x11 = (service (record small { places = place ∷ [] }) (record first.core { regs = slice_set (slice_set (slice_set (replicate 32 0) 17 x17) 10 x10) 11 x11 })).event

services : (served 0 0 0 ≡ Ended) × (served 1 0x141 0 ≡ Put 0x41) × (served 2 0 0 ≡ WantByte) × (served 3 1 0 ≡ Fault Overflow place) × (served 3 2 0 ≡ Fault Zero place) × (served 3 3 0 ≡ Fault Range place)
    × (served 4 0 0 ≡ Exhausted) × (served 3 0 0 ≡ Trap Service) × (served 3 4 0 ≡ Trap Service) × (served 3 1 1 ≡ Trap Service) × (served 5 0 0 ≡ Trap Service) × (served ones 0 0 ≡ Trap Service)
unfolding service
services = (refl, refl, refl, refl, refl, refl, refl, refl, refl, refl, refl, refl)

-- at the end of the input x10 is -1; x0 stays 0
abbrev ask : Program
ask = record small { instructions = Some (Imm Addi 17 0 (pos 2)) ∷ Some Ecall ∷ Some (Imm Addi 0 10 (pos 1)) ∷ None ∷ [] }

asks : (reg (run ask 2 (record first { input = [] })).core 10 ≡ ones) × (reg (run ask 3 (record first { input = [] })).core 0 ≡ 0) × ((run ask 4 (record first { input = [] })).ending ≡ Trap Illegal)
unfolding after instruction_step execute service imm_value
asks = (refl, refl, refl)
