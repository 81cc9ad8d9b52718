-- Runs, and what is due for them: a status, an output, notes, the file that is kept and what is left at input.
use Rattle.std.specs.Prelude.{ℕ, ◌≤◌, List, [], ◌∷◌, ◌++◌, length, map, Some, None, option_to_list}
use Rattle.std.specs.declared.option.Option.{Option}
use Rattle.circular_buffer.specs.Buffer.{keep_last}
use Rattle.fy_base.specs.Outside.{Bytes}
use Rattle.fy_base.specs.declared.data.Ending.{Ending}
use Rattle.fy_base.specs.declared.data.Ending.TheVariants as ends
use Rattle.fy_base.specs.declared.data.FaultKind.{FaultKind}
use Rattle.fy_base.specs.declared.data.Place.{Place}
use Rattle.fy_build.specs.Shown as run_ends
use Rattle.fy_build.specs.Shown.{RunEnd, ending_of_run}
use Rattle.fy_phrase.specs.Tree.{Tree}
use Rattle.fy_phrase.specs.Copy.{copy_after, peak_load}
use Rattle.fy_copy.specs.Ends.{IsHeldBelow}
use Rattle.fy_copy.specs.Ends as copy
use Rattle.pe_code.specs.declared.code.PeCode.{PeCode}
use Rattle.pe_machine.specs.Run.{pe_after}
use Rattle.fy_image.specs.declared.image.Image.{Image}
use Rattle.fy_sample.specs.Sample.{summary}
use Rattle.rv_insn.specs.Program.{Program}
use Rattle.rv_machine.specs.Fetch.{fetches}
use Rattle.rv_machine.specs.Start.{start_of}
use Rattle.rv_machine.specs.Run.{World, run, going_world}
use Rattle.rv_machine.specs.Ends.{EndsSo}
use Rattle.fy_world.specs.Note.{texts}
use Rattle.fy_world.specs.Shown.{shown}
use Rattle.fy_world.specs.Steps.{StepEnd, Stepping, step_status, step_note, step_lines}
use Rattle.fy_world.specs.declared.note.Note.{Note}
use Rattle.fy_world.specs.declared.note.Note.TheVariants as note

-- a run of a machine, of at most so many instructions
pub record Running : Type 0 where
  pub program : Program
  pub first : World
  pub limit : ℕ

-- a run of the copy rule on a phrase and an input, of at most so many steps
pub record Copying : Type 0 where
  pub phrase : Tree
  pub input : Bytes
  pub limit : ℕ

-- a run
pub data Runs : Type 0 where
  of_machine : Running → Runs
  of_phrase : Copying → Runs
  of_code : Stepping → Runs

-- what is due; where the rest of the input is none, the input is as before. The notes are lines
pub record Due : Type 0 where
  pub status : ℕ
  pub output : Bytes
  pub notes : List Bytes
  pub kept : Option (Bytes × Bytes)
  pub rest : Option Bytes
  pub running : Option Runs

-- a status and notes, and nothing else
abbrev pub told : ℕ → List Note → Due
told status notes = record { status = status; output = []; notes = texts notes; kept = None; rest = None; running = None }

-- bytes at output, and nothing else
abbrev pub written : Bytes → Due
written output = record { status = 0; output = output; notes = []; kept = None; rest = None; running = None }

-- ---- runs

-- a run of at most so many instructions ends so after n of them
pub record IsRun (run : Running) (n : ℕ) (end : RunEnd) : Type 0 where
  pub ends : EndsSo (ending_of_run end) run.program run.first n run.limit
  pub within : n ≤ run.limit

-- the status and the note of a run's end
abbrev pub run_status : RunEnd → ℕ
run_status run_ends.ended = 0
run_status (run_ends.faulted kind at) = 1
run_status run_ends.exhausted = 3
run_status run_ends.spent = 4
run_status (run_ends.trapped kind) = 10

abbrev pub run_note : RunEnd → Option Note
run_note run_ends.ended = None
run_note (run_ends.faulted kind at) = Some (note.Fault kind at)
run_note run_ends.exhausted = Some note.StackExhausted
run_note run_ends.spent = Some note.StepsSpent
run_note (run_ends.trapped kind) = Some (note.Trapped kind)

-- the last notes of a run of n instructions that ended so
abbrev pub end_notes : RunEnd → ℕ → List Note
end_notes end n = option_to_list (run_note end) ++ note.Instructions n ∷ []

-- the lines of the last so many words that a run of n instructions fetched, the oldest first; none where no trace is wanted
abbrev pub traced : Option ℕ → Running → ℕ → List Bytes
traced None run n = []
traced (Some count) run n = map (shown run.program) (keep_last count (fetches run.program run.first n))

-- what is due for a run that ends so after n instructions
abbrev pub ran : Running → Option ℕ → Option (Bytes × Bytes) → ℕ → RunEnd → Due
ran running trace kept n end = record {
  status = run_status end;
  output = (run running.program n running.first).output;
  notes = traced trace running n ++ texts (end_notes end n);
  kept = kept;
  rest = Some (run running.program n running.first).input;
  running = Some (of_machine running);
}

-- the run of an image on an input
abbrev pub running_of : Program → Image → Bytes → ℕ → Running
running_of program image input limit = record { program = program; first = going_world (start_of image) input; limit = limit }

-- what a run is due to do, and then the summary at output
abbrev pub sampled : Due → Due
sampled due = record due { output = due.output ++ summary due.status (length due.output) }

-- ---- the copy rule

-- how a run of a typed phrase ends that no fault of the outside ends
pub data CopyEnd : Type 0 where
  ended : CopyEnd
  faulted : (kind : FaultKind) (at : Place) → CopyEnd
  spent : CopyEnd
  too_big : CopyEnd

-- the same among the ends of all runs
abbrev pub ending_of_copy : CopyEnd → Ending
ending_of_copy ended = ends.Ended
ending_of_copy (faulted kind at) = ends.Fault kind at
ending_of_copy spent = ends.Spent
ending_of_copy too_big = ends.TooBig

-- a run of at most so many steps ends so after n of them, and no focus before passed the limit on held phrases
pub record IsCopyRun (copying : Copying) (n : ℕ) (end : CopyEnd) : Type 0 where
  pub ends : copy.EndsSo (ending_of_copy end) copying.phrase copying.input n copying.limit
  pub held : IsHeldBelow copying.phrase copying.input n
  pub within : n ≤ copying.limit

-- the status and the note of a run's end
abbrev pub copy_status : CopyEnd → ℕ
copy_status ended = 0
copy_status (faulted kind at) = 1
copy_status spent = 4
copy_status too_big = 4

abbrev pub copy_note : CopyEnd → Option Note
copy_note ended = None
copy_note (faulted kind at) = Some (note.Fault kind at)
copy_note spent = Some note.StepsSpent
copy_note too_big = Some note.CopyLimit

-- the last notes of a run of the copy rule of n steps that ended so
abbrev pub copy_notes : CopyEnd → ℕ → ℕ → List Note
copy_notes end n peak = option_to_list (copy_note end) ++ note.Copied n peak ∷ []

-- what is due for a run that ends so after n steps
abbrev pub copied : Copying → ℕ → CopyEnd → Due
copied copying n end = record {
  status = copy_status end;
  output = (copy_after copying.phrase copying.input n).output;
  notes = texts (copy_notes end n (peak_load copying.phrase copying.input n));
  kept = None;
  rest = Some (copy_after copying.phrase copying.input n).input;
  running = Some (of_phrase copying);
}

-- ---- push-enter code

-- what is due for a run that ends so after n steps: a line for each, and how it ended
abbrev pub stepped : Stepping → ℕ → StepEnd → Due
stepped stepping n end = record {
  status = step_status end;
  output = (pe_after stepping.code stepping.input n).output;
  notes = step_lines stepping.code stepping.names stepping.input n ++ texts (option_to_list (step_note end));
  kept = None;
  rest = Some (pe_after stepping.code stepping.input n).input;
  running = Some (of_code stepping);
}

-- the run of code on an input, with lines by these names
abbrev pub stepping_of : PeCode → List Bytes → Bytes → ℕ → Stepping
stepping_of code names input limit = record { code = code; names = names; input = input; limit = limit }
