-- Laws of the encoding, of the step and of runs.
use Rattle.std.specs.Prelude.{◌≡◌, ◌≢◌, ℕ, ◌+◌, ◌*◌, ◌^◌, ◌<◌, ◌≤◌, List, length, slice_index, slice_set, Option, Ok}
use Rattle.fy_base.specs.Outside.{IsPrefix}
use Rattle.rv_insn.specs.declared.events.Event.TheVariants.{Going, Trap}
use Rattle.fy_base.specs.declared.data.TrapKind.TheVariants.{Illegal}
use Rattle.rv_insn.specs.declared.events.Status.TheVariants.{Running}
use Rattle.rv_insn.specs.declared.instructions.Insn.{Insn}
use Rattle.rv_insn.specs.Encoding.{IsWordOf, IsEncodable}
use Rattle.rv_insn.specs.declared.instructions.LoadOp.TheVariants.{Ld}
use Rattle.rv_insn.specs.declared.instructions.StoreOp.TheVariants.{Sd}
use Rattle.rv_insn.specs.Program.{Program, AreRead, code_start, table_start, stack_start}
use Rattle.rv_insn.specs.Memory.{load, store, doublewords}
use Rattle.rv_insn.specs.Step.{Core, reg, stopped, execute, instruction_step, status_after}
use Rattle.rv_insn.specs.Run.{World, run}

-- each word is at most one instruction's
abbrev pub WordsAreUnambiguous : Type 0
WordsAreUnambiguous = (first second : Insn) (word : ℕ) → IsWordOf first word → IsWordOf second word → first ≡ second

-- an instruction has one word
pub record HasOneWord (insn : Insn) : Type 0 where
  pub word : ℕ
  pub is : IsWordOf insn word
  pub only : (other : ℕ) → IsWordOf insn other → other ≡ word

-- each encodable instruction has a word, and only one
abbrev pub EncodableHaveOneWord : Type 0
EncodableHaveOneWord = (insn : Insn) → IsEncodable insn → HasOneWord insn

-- no other instruction has a word
abbrev pub OnlyEncodableHaveWords : Type 0
OnlyEncodableHaveWords = (insn : Insn) (word : ℕ) → IsWordOf insn word → IsEncodable insn

-- a step at a word of the code executes the word's instruction
abbrev pub StepsExecuteWords : Type 0
StepsExecuteWords =
    (program : Program) (core : Core) (k : ℕ) (insn : Insn) → AreRead program.words program.instructions → k < length program.words
    → core.pc ≡ code_start + 4 * k → IsWordOf insn (slice_index program.words k) → instruction_step program core ≡ execute program insn core

-- at a word that no instruction has it traps
abbrev pub IllegalWordsTrap : Type 0
IllegalWordsTrap =
    (program : Program) (core : Core) (k : ℕ) → AreRead program.words program.instructions → k < length program.words
    → core.pc ≡ code_start + 4 * k → ((insn : Insn) → ¬ IsWordOf insn (slice_index program.words k))
    → instruction_step program core ≡ stopped (Trap Illegal) core

-- n + m instructions are n and then m
abbrev pub RunsSplit : Type 0
RunsSplit = (program : Program) (n m : ℕ) (world : World) → run program (n + m) world ≡ run program m (run program n world)

-- the output only grows
abbrev pub OutputGrows : Type 0
OutputGrows = (program : Program) (n m : ℕ) (world : World) → IsPrefix (run program n world).output (run program (n + m) world).output

-- a run that has ended stays as it is
abbrev pub EndedRunsStay : Type 0
EndedRunsStay = (program : Program) (n : ℕ) (world : World) → world.ending ≢ Going → run program n world ≡ world

-- a machine that ran stands after a step as the step's event says
abbrev pub StatusFollows : Type 0
StatusFollows =
    (program : Program) (core : Core) → core.status ≡ Running
    → (instruction_step program core).core.status ≡ status_after (instruction_step program core).event

-- what no run changes of a machine: how many registers it has, x0, and the size of the stack
pub record KeepsShape (before now : Core) : Type 0 where
  pub count : length now.regs ≡ length before.regs
  pub zero : reg now 0 ≡ reg before 0
  pub size : length now.stack ≡ length before.stack

abbrev pub RunsKeepShape : Type 0
RunsKeepShape = (program : Program) (n : ℕ) (world : World) → KeepsShape world.core (run program n world).core

-- the words of the code tell its instructions
abbrev pub ReadingsAreUnique : Type 0
ReadingsAreUnique = (words : List ℕ) (first second : List (Option Insn)) → AreRead words first → AreRead words second → first ≡ second

-- a load of an aligned doubleword of the stack reads one of its doublewords
abbrev pub LoadsReadDoublewords : Type 0
LoadsReadDoublewords =
    (program : Program) (stack : List ℕ) (k : ℕ) → 8 * k + 8 ≤ length stack
    → load program stack Ld (stack_start + 8 * k) ≡ Ok (slice_index (doublewords stack) k)

-- a load of an aligned doubleword of the table reads one of its words
abbrev pub LoadsReadTheTable : Type 0
LoadsReadTheTable =
    (program : Program) (stack : List ℕ) (k : ℕ) → k < length program.table → length program.table ≤ 1048576 → slice_index program.table k < 2 ^ 64
    → load program stack Ld (table_start + 8 * k) ≡ Ok (slice_index program.table k)

-- a store of an aligned doubleword of the stack leads to one in which it alone is replaced
pub record StoresDoubleword (stack : List ℕ) (k v : ℕ) : Type 0 where
  pub now : List ℕ
  pub stored : store stack Sd (stack_start + 8 * k) v ≡ Ok now
  pub size : length now ≡ length stack
  pub replaced : doublewords now ≡ slice_set (doublewords stack) k v

abbrev pub StoresReplaceDoublewords : Type 0
StoresReplaceDoublewords = (stack : List ℕ) (k v : ℕ) → 8 * k + 8 ≤ length stack → v < 2 ^ 64 → StoresDoubleword stack k v
