-- What a process of Linux on RISC-V does, as far as a program of this crate makes it do anything. Where no line fits, nothing is said: `undefined`.
-- Linux man-pages: syscall(2) (riscv: the number in a7, the arguments from a0 on, the result in a0), read(2), write(2), exit_group(2), sigaction(2),
-- signal(7), errno(3); instructions as `rv_insn` defines them.
use Rattle.std.specs.Prelude.{◌≡◌, ℕ, zero, suc, ◌+◌, ◌-◌, ◌*◌, ◌/◌, ◌%◌, ◌^◌, ◌<◌, ◌≤◌, Bool, true, false, not, ◌&&◌, ◌||◌, nat_le, nat_lt, nat_eq, if◌then◌else◌, min, max, List, [], ◌∷◌, ◌++◌, length, take, drop, map, replicate, slice_get, Some, None}
use Rattle.std.specs.Str.{bytes_eq}
use Rattle.std.specs.declared.option.Option.{Option}
use Rattle.fy_base.specs.Outside.{Bytes}
use Rattle.fy_image.specs.declared.image.Image.{Image}
use Rattle.fy_image.specs.Form.{double}
use Rattle.rv_guard.specs.declared.pieces.Piece.{Piece}
use Rattle.rv_insn.specs.declared.events.Event.{Event}
use Rattle.rv_insn.specs.declared.events.Event.TheVariants.{Going}
use Rattle.rv_insn.specs.declared.events.Status.TheVariants.{Running}
use Rattle.rv_insn.specs.declared.instructions.Insn.{Insn}
use Rattle.rv_insn.specs.declared.instructions.Insn.TheVariants.{Ecall}
use Rattle.rv_insn.specs.Memory.{lies_in, overwritten}
use Rattle.rv_insn.specs.Program.{Program, code_start, table_start, stack_start, table_bytes}
use Rattle.rv_insn.specs.Step.{Core, reg, with_reg, advanced, instruction_step}
use Rattle.rv_guard.specs.Guarded.{AreWordsOf}
use Rattle.fy_linux.specs.Code.{linux_code, stubs_start}
use Rattle.fy_linux.specs.Notes.{linux_table}
use Rattle.fy_linux.specs.Stubs.{own_bytes}

-- ---- the process

-- it runs, it has left with a status, or nothing is said of it
pub data Standing : Type 0 where
  running : Standing
  left : ℕ → Standing
  undefined : Standing

-- what the system answers to a call of `read` or `write`: it moves bytes, this many if it can, or it fails with an error
pub data Answer : Type 0 where
  moves : ℕ → Answer
  fails : ℕ → Answer

-- the answer to each call, by its number
abbrev pub System : Type 0
System = ℕ → Answer

-- the registers, the pc and the memory that can be written; the input that is left, what was written to 1 and to 2; how many calls were answered
pub record Process : Type 0 where
  pub core : Core
  pub input : Bytes
  pub out : Bytes
  pub err : Bytes
  pub calls : ℕ
  pub standing : Standing

-- ---- calls of the system

-- the bytes from an address on, where they can be read
abbrev pub readable : Program → Core → ℕ → ℕ → Option Bytes
readable program core address count =
    if lies_in stack_start (length core.stack) address count then Some (take count (drop (address - stack_start) core.stack))
    else (if lies_in table_start (8 * length program.table) address count then Some (take count (drop (address - table_start) (table_bytes program)))
    else None)

-- a call gives a result in x10 and goes on behind its ECALL; every other register stays
abbrev pub returned : ℕ → Core → Core
returned result core = advanced (with_reg 10 result core)

-- a call that failed
abbrev pub failed : ℕ → Process → Process
failed error p = record p { core = returned (2 ^ 64 - error) p.core; calls = p.calls + 1 }

-- how many bytes are moved where so many were asked for: one at least
abbrev pub moved : ℕ → ℕ → ℕ
moved asked count = min (max count 1) asked

-- exit_group
abbrev pub leaves : ℕ → Process → Process
leaves status p = record p { standing = left (status % 256) }

abbrev pub lost : Process → Process
lost p = record p { standing = undefined }

-- read of the file 0, of `asked` bytes to an address: bytes of the input, as many as are moved and as there are, so none at its end alone
abbrev pub read_to : ℕ → ℕ → Answer → Process → Process
read_to address asked (fails error) p = failed error p
read_to address asked (moves count) p =
    let n = min (moved asked count) (length p.input) in
    record p {
      core = returned n (record p.core { stack = overwritten (address - stack_start) (take n p.input) p.core.stack });
      input = drop n p.input;
      calls = p.calls + 1;
    }

abbrev pub read_call : System → ℕ → ℕ → ℕ → Process → Process
read_call system file address asked p =
    if nat_eq file 0 && (nat_lt 0 asked && lies_in stack_start (length p.core.stack) address asked) then read_to address asked (system p.calls) p
    else lost p

-- write of bytes to the file 1 or 2: the first of them, as many as are moved
abbrev pub gain : ℕ → Bytes → Process → Process
gain file bytes p = if nat_eq file 1 then record p { out = p.out ++ bytes } else record p { err = p.err ++ bytes }

abbrev pub write_from : ℕ → Bytes → Answer → Process → Process
write_from file bytes (fails error) p = failed error p
write_from file bytes (moves count) p =
    let n = moved (length bytes) count in
    record (gain file (take n bytes) p) { core = returned n p.core; calls = p.calls + 1 }

abbrev pub write_of : System → ℕ → Option Bytes → Process → Process
write_of system file None p = lost p
write_of system file (Some bytes) p = if nat_lt 0 (length bytes) && (nat_eq file 1 || nat_eq file 2) then write_from file bytes (system p.calls) p else lost p

-- what tells that a signal is ignored: SIG_IGN, no flags, no mask
abbrev pub ignoring : Bytes
ignoring = double 1 ++ replicate 16 0

-- rt_sigaction of SIGPIPE: it is ignored, so that a write to a pipe that nobody reads fails with EPIPE
abbrev pub ignore_of : Option Bytes → Process → Process
ignore_of None p = lost p
ignore_of (Some action) p = if bytes_eq action ignoring then record p { core = returned 0 p.core } else lost p

abbrev pub ignore_call : Program → Process → Process
ignore_call program p =
    if nat_eq (reg p.core 10) 13 && (nat_eq (reg p.core 12) 0 && nat_eq (reg p.core 13) 8) then ignore_of (readable program p.core (reg p.core 11) 24) p
    else lost p

-- the calls, by x17
unfoldable pub system_call : Program → System → Process → Process
system_call program system p =
    if nat_eq (reg p.core 17) 94 then leaves (reg p.core 10) p
    else (if nat_eq (reg p.core 17) 63 then read_call system (reg p.core 10) (reg p.core 11) (reg p.core 12) p
    else (if nat_eq (reg p.core 17) 64 then write_of system (reg p.core 10) (readable program p.core (reg p.core 11) (reg p.core 12)) p
    else (if nat_eq (reg p.core 17) 134 then ignore_call program p
    else lost p)))

-- ---- steps

-- whether an ECALL is next
abbrev pub is_ecall : Option (Option Insn) → Bool
is_ecall (Some (Some Ecall)) = true
is_ecall _ = false

abbrev pub calls_next : Program → ℕ → Bool
calls_next program pc =
    nat_eq (pc % 4) 0 && (nat_le code_start pc && is_ecall (slice_get program.instructions ((pc - code_start) / 4)))

-- an instruction that isn't an ECALL goes on, or nothing is said: it would be a signal that kills
abbrev pub went : Event → Core → Process → Process
went Going core p = record p { core = core }
went event core p = lost p

unfoldable pub process_step : Program → System → Process → Process
process_step program system p =
    if calls_next program p.core.pc then system_call program system p
    else went (instruction_step program p.core).event (instruction_step program p.core).core p

-- a process that doesn't run stays as it is
abbrev pub ticked_from : Standing → Program → System → Process → Process
ticked_from running program system p = process_step program system p
ticked_from standing program system p = p

abbrev pub tick : Program → System → Process → Process
tick program system p = ticked_from p.standing program system p

-- the process after n steps
unfoldable pub process_after : Program → System → ℕ → Process → Process
process_after program system zero p = p
process_after program system (suc n) p = tick program system (process_after program system n p)

-- ---- the process of an image

-- its code and its table. It has no places, which the image's machine needs for its faults alone
pub record IsLinuxProgram (image : Image) (pieces : List Piece) (program : Program) : Type 0 where
  pub are : AreWordsOf (linux_code image pieces) program.words
  pub instructions_are : program.instructions ≡ map (λ insn. Some insn) (linux_code image pieces)
  pub table_is : program.table ≡ linux_table image
  pub places_are : program.places ≡ []

-- the registers with which the system starts a process: nothing is said of them but that x0 is 0 and each has 64 bits
pub record AreStartRegs (regs : List ℕ) : Type 0 where
  pub count : length regs ≡ 32
  pub zero_is : slice_get regs 0 ≡ Some 0
  pub fit : (r v : ℕ) → slice_get regs r ≡ Some v → v < 2 ^ 64

-- the start: the first stub is next, and all memory that can be written is 0
unfoldable pub process_start : Image → List ℕ → Bytes → Process
process_start image regs input = record {
  core = record { regs = regs; pc = stubs_start image; stack = replicate (8 * image.stack_words + own_bytes) 0; status = Running };
  input = input;
  out = [];
  err = [];
  calls = 0;
  standing = running;
}
