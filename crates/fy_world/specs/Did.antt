-- How all that is due is done, or a part of it.
use Rattle.std.specs.Prelude.{◌≡◌, ◌≢◌, ℕ, ◌-◌, ◌≤◌, List, [], ◌++◌, ◌⊎◌, take, Some, None, MatchResult}
use Rattle.std.specs.Option.{option_map}
use Rattle.std.specs.declared.option.Option.{Option}
use Rattle.std.specs.declared.result.Result.{Result}
use Rattle.std.specs.FinMap.{insert}
use Rattle.fy_base.specs.Outside.{Bytes, Folder, appended, Gained, GainedPart, IsPrefix, Kept, OthersStay}
use Rattle.fy_phrase.specs.Copy.{copy_after}
use Rattle.rv_machine.specs.Ends as machine
use Rattle.rv_machine.specs.Run.{run}
use Rattle.fy_copy.specs.Ends as copy
use Rattle.fy_copy.specs.Ends.{IsHeldBelow}
use Rattle.pe_machine.specs.Ends as entered
use Rattle.pe_machine.specs.Ends.{IsWithin}
use Rattle.pe_machine.specs.Run.{pe_after}
use Rattle.fy_world.specs.World.{Contents}
use Rattle.fy_world.specs.Note.{ended_lines}
use Rattle.fy_world.specs.Runs.{Due, Runs, of_machine, of_phrase, of_code}
use Rattle.fy_world.specs.Steps.{step_words, step_lines}
use Rattle.fy_world.specs.declared.world.Stop.{Stop}
use Rattle.fy_world.specs.declared.world.Stop.TheVariants.{Keep, Input, Output, Notes, Memory}

-- ---- all that is due

-- the files after the due one was kept, or none
abbrev pub files_after : Option Folder → Option (Bytes × Bytes) → Option Folder
files_after files None = files
files_after files (Some kept) = option_map (λ folder. insert folder kept.0 kept.1) files

-- the input after the due rest was left, or all of it
abbrev pub input_after : Option Bytes → Option Bytes → Option Bytes
input_after input None = input
input_after input (Some rest) = option_map (λ _. rest) input

-- the objects after all that is due was done
abbrev pub after_all : Due → Contents → Contents
after_all due before = record {
  files = files_after before.files due.kept;
  input = input_after before.input due.rest;
  output = appended before.output due.output;
  notes = appended before.notes (ended_lines due.notes);
}

-- ---- a part of it

-- the files are as before, or the due one is kept; where to keep it failed, it alone may be unknown
abbrev pub FilesPart : Option (Bytes × Bytes) → Stop → Option Folder → Option Folder → Type 0
FilesPart None stop before now = now ≡ before
FilesPart (Some kept) stop before now = (now ≡ before) ⊎ Kept before now kept.0 kept.1 ⊎ ((stop ≡ Keep) × OthersStay before now kept.0)

-- how many instructions, or steps, a run may make
abbrev pub limit_of : Runs → ℕ
limit_of (of_machine running) = running.limit
limit_of (of_phrase copying) = copying.limit
limit_of (of_code stepping) = stepping.limit

-- what a run has left of its input after so many of them
abbrev pub rest_after : Runs → ℕ → Bytes
rest_after (of_machine running) n = (run running.program n running.first).input
rest_after (of_phrase copying) n = (copy_after copying.phrase copying.input n).input
rest_after (of_code stepping) n = (pe_after stepping.code stepping.input n).input

-- what is left is what the run has left after some number of its steps, within its limit
pub record IsLeftBy (running : Runs) (before now : Option Bytes) : Type 0 where
  pub steps : ℕ
  pub within : steps ≤ limit_of running
  pub rest : now ≡ option_map (λ _. rest_after running steps) before

-- a run takes of the input what its steps take, and nothing else takes any
abbrev pub InputPart : Option Runs → Option Bytes → Option Bytes → Type 0
InputPart None before now = now ≡ before
InputPart (Some running) before now = IsLeftBy running before now

-- what a run has put after so many of them
abbrev pub output_after : Runs → ℕ → Bytes
output_after (of_machine running) n = (run running.program n running.first).output
output_after (of_phrase copying) n = (copy_after copying.phrase copying.input n).output
output_after (of_code stepping) n = (pe_after stepping.code stepping.input n).output

-- a run comes to its instruction, or its step, number n, which reads a byte; none up to it passed the limit on held phrases, or the words of the stack
abbrev pub ReadsAt : Runs → ℕ → Type 0
ReadsAt (of_machine running) n = machine.AsksAt running.program running.first n
ReadsAt (of_phrase copying) n = copy.AsksAt copying.phrase copying.input n × IsHeldBelow copying.phrase copying.input n
ReadsAt (of_code stepping) n = entered.AsksAt stepping.code stepping.input n × IsWithin stepping.code stepping.input step_words n

-- the same of one that puts bytes
abbrev pub PutsAt : Runs → ℕ → Type 0
PutsAt (of_machine running) n = machine.PutsAt running.program running.first n
PutsAt (of_phrase copying) n = copy.PutsAt copying.phrase copying.input n × IsHeldBelow copying.phrase copying.input n
PutsAt (of_code stepping) n = entered.PutsAt stepping.code stepping.input n × IsWithin stepping.code stepping.input step_words n

-- the lines that a run tells before its step number n takes or puts anything: where code runs, one for each step up to that one, and else none
abbrev pub lines_before : Runs → ℕ → List Bytes
lines_before (of_machine running) n = []
lines_before (of_phrase copying) n = []
lines_before (of_code stepping) n = step_lines stepping.code stepping.names stepping.input n

-- an output that failed gained a beginning of what n instructions, or steps, put, with all that was put before each of them that reads
pub record GainedSinceRead (running : Runs) (n : ℕ) (before now : Option Bytes) : Type 0 where
  pub part : Bytes
  pub gained : Gained before now part
  pub begins : IsPrefix part (output_after running n)
  pub reads : (k : ℕ) → k ≤ n → ReadsAt running k → IsPrefix (output_after running k) part

-- a run was stopped at an instruction, or a step, within its limit, that reads a byte: the due file was kept, those before it were made, and no more; their lines, its own and the last one were told
pub record StopsAtRead (running : Runs) (kept : Option (Bytes × Bytes)) (before now : Contents) (last : Bytes) : Type 0 where
  pub steps : ℕ
  pub within : steps ≤ limit_of running
  pub reads : ReadsAt running steps
  pub files : now.files ≡ files_after before.files kept
  pub rest : now.input ≡ option_map (λ _. rest_after running (steps - 1)) before.input
  pub output : Gained before.output now.output (output_after running (steps - 1))
  pub notes : Gained before.notes now.notes (ended_lines (lines_before running steps) ++ last)

-- where the input failed, there was a run, and it was stopped so
abbrev pub IsUnread : Option Runs → Option (Bytes × Bytes) → Contents → Contents → Bytes → Type 0
IsUnread None kept before now last = ⊥
IsUnread (Some running) kept before now last = StopsAtRead running kept before now last

-- a run was stopped at an instruction, or a step, within its limit, that puts: the due file was kept, what those up to it take was taken, and of what they put all that was put before the last read,
-- and maybe more; their lines and the last one were told
pub record StopsAtPut (running : Runs) (kept : Option (Bytes × Bytes)) (before now : Contents) (last : Bytes) : Type 0 where
  pub steps : ℕ
  pub within : steps ≤ limit_of running
  pub puts : PutsAt running steps
  pub files : now.files ≡ files_after before.files kept
  pub rest : now.input ≡ option_map (λ _. rest_after running steps) before.input
  pub output : GainedSinceRead running steps before.output now.output
  pub notes : Gained before.notes now.notes (ended_lines (lines_before running steps) ++ last)

-- a run was made to its end, and the output failed behind all that it put, where more is due: none of its notes was told, but the last one
pub record StopsBehind (running : Runs) (due : Due) (before now : Contents) (last : Bytes) : Type 0 where
  pub more : Bytes
  pub some : more ≢ []
  pub due_is : due.output ≡ output_after running (limit_of running) ++ more
  pub files : now.files ≡ files_after before.files due.kept
  pub rest : now.input ≡ input_after before.input due.rest
  pub part : Bytes
  pub begins : IsPrefix part more
  pub output : Gained before.output now.output (output_after running (limit_of running) ++ part)
  pub notes : Gained before.notes now.notes last

-- what runs nothing had some output due, and did nothing else
pub record StopsUnrun (due : Due) (before now : Contents) (last : Bytes) : Type 0 where
  pub some : due.output ≢ []
  pub alone : now ≡ record before { output = now.output; notes = appended before.notes last }

-- where the output failed, a run was stopped so, or nothing ran and some output was due
abbrev pub IsUnput : Option Runs → Due → Contents → Contents → Bytes → Type 0
IsUnput None due before now last = StopsUnrun due before now last
IsUnput (Some running) due before now last = StopsAtPut running due.kept before now last ⊎ StopsBehind running due before now last

-- whole lines of the due notes
pub record WholeLines (notes : List Bytes) (before now : Option Bytes) : Type 0 where
  pub count : ℕ
  pub gained : Gained before now (ended_lines (take count notes))

-- where memory was wanting, the files are as before, and the lines of notes are whole; where a file wasn't kept, nothing else was done; where the input or the output failed, a run was stopped where it reads, or puts; notes and files failed only where some were due
pub record Part (due : Due) (before now : Contents) (stop : Stop) : Type 0 where
  pub files : FilesPart due.kept stop before.files now.files
  pub input : InputPart due.running before.input now.input
  pub output : GainedPart before.output now.output due.output
  pub notes : GainedPart before.notes now.notes (ended_lines due.notes)
  pub unchanged : stop ≡ Memory → now.files ≡ before.files
  pub whole : stop ≡ Memory → WholeLines due.notes before.notes now.notes
  pub unkept : stop ≡ Keep → now ≡ record before { files = now.files }
  pub unread : stop ≡ Input → IsUnread due.running due.kept before now []
  pub unput : stop ≡ Output → IsUnput due.running due before now []
  pub untold : stop ≡ Notes → due.notes ≢ []
  pub due_kept : stop ≡ Keep → due.kept ≢ None

-- ---- a command's work

-- all that is due was done, or a part
abbrev pub Did : Due → Contents → Contents → Result ℕ Stop → Type 0
Did due before now result = MatchResult result (λ status. (status ≡ due.status) × (now ≡ after_all due before)) (Part due before now)

-- a status that tells of no fault of the outside and of no want of memory
abbrev pub IsOwn : ℕ → Type 0
IsOwn status = (status ≢ 7) × (status ≢ 9)
