-- Runs of push-enter code, and the line of each step.
use Rattle.std.specs.Prelude.{ℕ, zero, suc, ◌≤◌, List, [], ◌∷◌, ◌++◌, codes, Some, None}
use Rattle.std.specs.Fmt.{decimal}
use Rattle.std.specs.declared.option.Option.{Option}
use Rattle.fy_base.specs.Outside.{Bytes}
use Rattle.fy_base.specs.declared.data.Ending.{Ending}
use Rattle.fy_base.specs.declared.data.Ending.TheVariants as ends
use Rattle.fy_base.specs.declared.data.FaultKind.{FaultKind}
use Rattle.fy_base.specs.declared.data.Place.{Place}
use Rattle.pe_code.specs.Code.{item_at}
use Rattle.pe_code.specs.Print.{printed}
use Rattle.pe_code.specs.declared.code.PeItem.{PeItem}
use Rattle.pe_code.specs.declared.code.PeCode.{PeCode}
use Rattle.pe_machine.specs.Run.{pe_after}
use Rattle.pe_machine.specs.Seen.{address_of}
use Rattle.pe_machine.specs.Ends.{IsWithin, EndsSo}
use Rattle.fy_world.specs.declared.note.Note.{Note}
use Rattle.fy_world.specs.declared.note.Note.TheVariants as note

-- ---- lines

-- the print of an item's instruction; nothing where there is no item
abbrev pub insn_text : List Bytes → Option PeItem → Bytes
insn_text names (Some item) = printed names item.insn
insn_text names None = []

-- `A TEXT`: the address of an instruction and its print; or `- answer`, where a datum or a finished command meets a context
abbrev pub step_text : PeCode → List Bytes → Option ℕ → Bytes
step_text code names (Some address) = decimal address ++ 32 ∷ insn_text names (item_at code address)
step_text code names None = codes "- answer"

-- the line of the step behind n others
abbrev pub line_after : PeCode → List Bytes → Bytes → ℕ → Bytes
line_after code names input n = step_text code names (address_of (pe_after code input n).state.focus)

-- the lines of the first n steps
unfoldable pub step_lines : PeCode → List Bytes → Bytes → ℕ → List Bytes
step_lines code names input zero = []
step_lines code names input (suc n) = step_lines code names input n ++ line_after code names input n ∷ []

-- ---- runs

-- the words of the stack of such a run
abbrev pub step_words : ℕ
step_words = 1048576

-- a run of code on an input, of at most so many steps, whose lines have these names
pub record Stepping : Type 0 where
  pub code : PeCode
  pub names : List Bytes
  pub input : Bytes
  pub limit : ℕ

-- how a run of right code ends that no fault of the outside ends
pub data StepEnd : Type 0 where
  ended : StepEnd
  faulted : (kind : FaultKind) (at : Place) → StepEnd
  exhausted : StepEnd
  spent : StepEnd

-- the same among the ends of all runs
abbrev pub ending_of_steps : StepEnd → Ending
ending_of_steps ended = ends.Ended
ending_of_steps (faulted kind at) = ends.Fault kind at
ending_of_steps exhausted = ends.Exhausted
ending_of_steps spent = ends.Spent

-- the status and the note of a run's end
abbrev pub step_status : StepEnd → ℕ
step_status ended = 0
step_status (faulted kind at) = 1
step_status exhausted = 3
step_status spent = 4

abbrev pub step_note : StepEnd → Option Note
step_note ended = None
step_note (faulted kind at) = Some (note.Fault kind at)
step_note exhausted = Some note.StackExhausted
step_note spent = Some note.StepsSpent

-- a run of at most so many steps ends so after n of them, none of which led to a load that passes the words of the stack
pub record IsSteppedRun (stepping : Stepping) (n : ℕ) (end : StepEnd) : Type 0 where
  pub ends : EndsSo (ending_of_steps end) stepping.code stepping.input step_words n stepping.limit
  pub inside : IsWithin stepping.code stepping.input step_words n
  pub within : n ≤ stepping.limit
