-- What the process of a guarded image does, against what the image's machine does: the statement. No proof of it stands yet.
use Rattle.std.specs.Prelude.{◌≡◌, ◌≢◌, ◌⊎◌, ℕ, ◌+◌, ◌*◌, ◌<◌, ◌≤◌, true, List, [], ◌∷◌, ◌++◌, codes, length, All}
use Rattle.fy_base.specs.Outside.{Bytes, IsPrefix}
use Rattle.fy_base.specs.declared.data.FaultKind.{FaultKind}
use Rattle.fy_base.specs.declared.data.FaultKind.TheVariants.{Overflow, Zero, Range}
use Rattle.fy_image.specs.Machine.{IsProgramOf, machine_after}
use Rattle.fy_image.specs.Ranges.{IsImage}
use Rattle.fy_image.specs.declared.image.Image.{Image}
use Rattle.rv_guard.specs.Guarded.{IsGuarded}
use Rattle.rv_insn.specs.declared.events.Event.{Event}
use Rattle.rv_insn.specs.declared.events.Event.TheVariants.{Going, WantByte, Ended, Fault, Exhausted}
use Rattle.rv_insn.specs.Program.{Program}
use Rattle.rv_insn.specs.Run.{World}
use Rattle.rv_insn.specs.Step.{reg, instruction_step}
use Rattle.fy_linux.specs.Code.{AreFree}
use Rattle.fy_linux.specs.Notes.{place_line}
use Rattle.fy_linux.specs.Process.{Process, System, Answer, moves, fails, running, left, undefined, IsLinuxProgram, AreStartRegs, calls_next, process_start, process_after}

-- what the status and the note tell of how a machine ended
abbrev pub fault_words : FaultKind → Bytes
fault_words Overflow = codes "fault overflow "
fault_words Zero = codes "fault zero "
fault_words Range = codes "fault range "

abbrev pub Tells : Event → ℕ → Bytes → Type 0
Tells Ended status note = (status ≡ 0) × (note ≡ [])
Tells (Fault kind place) status note = (status ≡ 1) × (note ≡ fault_words kind ++ place_line place)
Tells Exhausted status note = (status ≡ 3) × (note ≡ codes "stack exhausted\n")
Tells event status note = ⊥

-- an answer is no failure, or that of a call that a signal broke off: EINTR, which is 4
abbrev pub IsNoFailure : Answer → Type 0
IsNoFailure (moves count) = Unit {0}
IsNoFailure (fails error) = error ≡ 4

abbrev pub IsMoving : Answer → Type 0
IsMoving (moves count) = Unit {0}
IsMoving (fails error) = ⊥

-- an error is one of the system's numbers
abbrev pub IsAnswer : Answer → Type 0
IsAnswer (moves count) = Unit {0}
IsAnswer (fails error) = (1 ≤ error) × (error < 4096)

-- one of the first n answers is a failure
pub record HasFailed (system : System) (n : ℕ) : Type 0 where
  pub k : ℕ
  pub before : k < n
  pub fails_there : ¬ IsNoFailure (system k)

-- an image with its machine's program, the program of its process, and what the system gives: registers, input and answers
pub record Setting : Type 0 where
  pub image : Image
  pub guarded : IsGuarded image
  pub machine : Program
  pub linux : Program
  pub regs : List ℕ
  pub input : Bytes
  pub system : System

pub record IsSetting (s : Setting) : Type 0 where
  pub ranges : IsImage s.image
  pub free : AreFree s.guarded.code
  pub machine : IsProgramOf s.image s.machine
  pub linux : IsLinuxProgram s.image s.guarded.pieces s.linux
  pub regs : AreStartRegs s.regs
  pub input : All (λ byte. byte < 256) s.input
  pub answers : (k : ℕ) → IsAnswer (s.system k)

-- the machine after k instructions, and the process after n
abbrev pub machine_at : Setting → ℕ → World
machine_at s k = machine_after s.machine s.image s.input k

abbrev pub process_at : Setting → ℕ → Process
process_at s n = process_after s.linux s.system n (process_start s.image s.regs s.input)

-- what was written is what the machine has put out by some earlier time, but for at most 4,096 bytes that wait
pub record IsBehind (s : Setting) (n : ℕ) : Type 0 where
  pub k : ℕ
  pub earlier : k ≤ n
  pub waiting : Bytes
  pub few : length waiting ≤ 4096
  pub output : (machine_at s k).output ≡ (process_at s n).out ++ waiting

-- the next step calls `read`
pub record IsReading (s : Setting) (n : ℕ) : Type 0 where
  pub runs : (process_at s n).standing ≡ running
  pub calls : calls_next s.linux (process_at s n).core.pc ≡ true
  pub number : reg (process_at s n).core 17 ≡ 63

-- all that the machine puts before it wants that byte was written
pub record IsLevel (s : Setting) (n : ℕ) : Type 0 where
  pub k : ℕ
  pub earlier : k ≤ n
  pub going : (machine_at s k).ending ≡ Going
  pub wants : (instruction_step s.machine (machine_at s k).core).event ≡ WantByte
  pub output : (machine_at s k).output ≡ (process_at s n).out

-- the process left because a call failed: with status 7, and what was written is a beginning of what the machine puts out
pub record LeftBroken (s : Setting) (n status : ℕ) : Type 0 where
  pub failed : HasFailed s.system (process_at s n).calls
  pub is_7 : status ≡ 7
  pub k : ℕ
  pub begins : IsPrefix (process_at s n).out (machine_at s k).output

-- the process left as the machine ended: the same output, and the status and the note tell how
pub record LeftEnded (s : Setting) (n status : ℕ) : Type 0 where
  pub k : ℕ
  pub output : (process_at s n).out ≡ (machine_at s k).output
  pub tells : Tells (machine_at s k).ending status (process_at s n).err

-- no call fails, and of r + 1 calls in a row one isn't broken off
pub record AnswersWell (system : System) (r : ℕ) : Type 0 where
  pub none_fails : (k : ℕ) → IsNoFailure (system k)
  pub one_moves : (k : ℕ) → (i : ℕ) × (i ≤ r) × IsMoving (system (k + i))

-- the process does what the machine does
pub record LinuxRuns (s : Setting) : Type 0 where
  -- no step of it is undefined
  pub safe : (n : ℕ) → (process_at s n).standing ≢ undefined
  pub behind : (n : ℕ) → IsBehind s n
  pub level : (n : ℕ) → IsReading s n → IsLevel s n
  pub ended : (n status : ℕ) → (process_at s n).standing ≡ left status → LeftBroken s n status ⊎ LeftEnded s n status
  -- it leaves where the machine ends and the system answers well
  pub comes : (k r : ℕ) → (machine_at s k).ending ≢ Going → AnswersWell s.system r
      → (process_at s (64 * (k + 1) * (r + 1) + 2000 * (r + 1))).standing ≢ running
