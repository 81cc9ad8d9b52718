-- How a call answers: all that is due was done, or the outside failed, or memory was wanting.
use Rattle.std.specs.Prelude.{◌≡◌, ◌≢◌, ℕ, List, [], ◌∷◌, ◌++◌, ◌⊎◌, length, take, IfOk, IfSome, IsSomeAnd, MatchOption}
use Rattle.std.specs.Option.{ForSome}
use Rattle.std.specs.declared.option.Option.{Option}
use Rattle.std.specs.declared.option.Option.TheVariants.{Some, None}
use Rattle.std.specs.declared.result.Result.{Result}
use Rattle.std.specs.declared.result.Result.TheVariants.{Ok, Err}
use Rattle.fy_base.specs.Outside.{Bytes, FileCalls, Folder, Rose, Gained, GainedPart, IsPrefix, appended}
use Rattle.fy_build.specs.Headline.{AreBytes}
use Rattle.fy_words.specs.Order.{Order}
use Rattle.fy_world.specs.World.{Contents, Counts, Later}
use Rattle.fy_world.specs.Counted.{Caused, OthersStand, Counted, HasCalled}
use Rattle.fy_world.specs.Note.{texts, ended_lines}
use Rattle.fy_world.specs.Runs.{Due}
use Rattle.fy_world.specs.Did.{Did, IsOwn, FilesPart, InputPart, IsUnread, IsUnput, after_all}
use Rattle.fy_world.specs.declared.note.Note.TheVariants as note
use Rattle.fy_world.specs.declared.world.Stop.{Stop}
use Rattle.fy_world.specs.declared.world.Stop.TheVariants.{Fetch, Keep, Input, Output, Notes, Memory}
use Rattle.fy_tool.specs.Due.{IsDue, Sources, TellsSources, reads_of, keeps_of, IsReadyFirst, RunsImage}
use Rattle.fy_tool.specs.Fetched.{AreDue, IsUnfetched}

-- what a call reads and keeps
abbrev pub all_reads_of : Option Order → Sources → List Bytes
all_reads_of None sources = []
all_reads_of (Some order) sources = reads_of order sources

abbrev pub all_keeps_of : Option Order → List Bytes
all_keeps_of None = []
all_keeps_of (Some order) = keeps_of order

-- what explains an answer: what the files hold that are read, where they are told, and the input, which is what was left where that is told, and which an image is
-- run on only where it is of bytes, unless what is told isn't
pub record Explains (order : Option Order) (files : Option Folder) (left : Option Bytes) (due : Due) : Type 0 where
  pub sources : Sources
  pub told : IfSome order (λ order. TellsSources order files sources)
  pub input : Bytes
  pub fed : ForSome left (λ bytes. input ≡ bytes)
  pub bytes : IsSomeAnd order RunsImage → ForSome left AreBytes → AreBytes input
  pub is_due : IsDue sources input order due

-- `fetch` was called at most once for each of some files that are due one after another, and `keep` for each that the order keeps; where none is due to be kept it wasn't called, but where memory was wanting
pub record Called (order : Option Order) (sources : Sources) (due : Due) (Wanting : Type 0) (before now : FileCalls) : Type 0 where
  pub names : List Bytes
  pub are : MatchOption order (names ≡ []) (λ order. AreDue order sources names)
  pub called : HasCalled (length names) (length (all_keeps_of order)) before now
  pub unkept : due.kept ≡ None → ¬ Wanting → HasCalled (length names) 0 before now

-- the work of an order, or of none
pub record Serves (order : Option Order) (before now : Contents) (counts counts' : Counts) (calls calls' : FileCalls) (result : Result ℕ Stop) : Type 0 where
  pub own : IfOk result IsOwn
  pub due : Due
  pub explained : Explains order before.files before.input due
  pub counted : Counted (all_reads_of order explained.sources) (all_keeps_of order) counts counts' result
  pub fetched : result ≡ Err Fetch → IsUnfetched order explained.sources due counts counts'
  pub called : Called order explained.sources due (result ≡ Err Memory) calls calls'
  pub did : Did due before now result
  pub ready : IfSome order IsReadyFirst → result ≡ Err Memory → now ≡ before

-- ---- the end of a call

-- how a stop is told at notes: its line, where notes didn't fail
abbrev pub last_line : Stop → Bytes
last_line Fetch = ended_lines (texts (note.OutsideFiles ∷ []))
last_line Keep = ended_lines (texts (note.OutsideFiles ∷ []))
last_line Input = ended_lines (texts (note.OutsideInput ∷ []))
last_line Output = ended_lines (texts (note.OutsideOutput ∷ []))
last_line Notes = []
last_line Memory = ended_lines (texts (note.Memory ∷ []))

-- these bytes are all of the last line, or a part of it where the count of notes rose
abbrev pub IsLastLine : Bytes → Stop → Counts → Counts → Type 0
IsLastLine bytes stop counts counts' = (bytes ≡ last_line stop) ⊎ (IsPrefix bytes (last_line stop) × Rose counts.notes counts'.notes)

-- the last line was put, or a part of it
pub record PutsLastLine (stop : Stop) (before now : Option Bytes) (counts counts' : Counts) : Type 0 where
  pub bytes : Bytes
  pub gained : Gained before now bytes
  pub is : IsLastLine bytes stop counts counts'

-- the status, and the last line where there is one
pub record Concludes (result : Result ℕ Stop) (before now : Contents) (counts counts' : Counts) (status : ℕ) : Type 0 where
  pub later : Later counts counts'
  pub others : OthersStand Notes counts counts'
  pub rest : now ≡ record before { notes = now.notes }
  pub done : (code : ℕ) → result ≡ Ok code → (status ≡ code) × (now.notes ≡ before.notes) × (counts' ≡ counts)
  pub memory : result ≡ Err Memory → status ≢ 7 → (status ≡ 9) × Gained before.notes now.notes (last_line Memory) × (counts' ≡ counts)
  pub lost : result ≡ Err Memory → status ≡ 7 → Rose counts.notes counts'.notes × GainedPart before.notes now.notes (last_line Memory)
  pub outside : (stop : Stop) → result ≡ Err stop → stop ≢ Memory → (status ≡ 7) × PutsLastLine stop before.notes now.notes counts counts'

-- the bytes at notes after a fault: a part of what is due, or of what want of memory leaves, and then the last line
pub record NotesPart (due : Due) (stop : Stop) (before now : Option Bytes) (counts counts' : Counts) : Type 0 where
  pub first : Bytes
  pub second : Bytes
  pub gained : Gained before now (first ++ second)
  pub begins : IsPrefix first (ended_lines due.notes) ⊎ ((count : ℕ) × IsPrefix first (ended_lines (take count due.notes) ++ last_line Memory))
  pub ends : IsLastLine second stop counts counts'

-- status 7: a part of what is due was done; where a file wasn't kept, one is due, and nothing else was done but the last line; where the input or the output failed, a run was stopped where it reads, or puts
pub record IsOutside (due : Due) (before now : Contents) (counts counts' : Counts) (stop : Stop) : Type 0 where
  pub files : FilesPart due.kept stop before.files now.files
  pub input : InputPart due.running before.input now.input
  pub output : GainedPart before.output now.output due.output
  pub notes : NotesPart due stop before.notes now.notes counts counts'
  pub due_kept : stop ≡ Keep → due.kept ≢ None
  pub unkept : stop ≡ Keep → now ≡ record before { files = now.files; notes = appended before.notes notes.second }
  pub unread : stop ≡ Input → IsUnread due.running due.kept before now notes.second
  pub unput : stop ≡ Output → IsUnput due.running due before now notes.second

-- status 9: no file changed, a part of what is due was done, in whole lines of notes, and then the line `memory`
pub record IsMemory (due : Due) (before now : Contents) : Type 0 where
  pub files : now.files ≡ before.files
  pub input : InputPart due.running before.input now.input
  pub output : GainedPart before.output now.output due.output
  pub count : ℕ
  pub notes : Gained before.notes now.notes (ended_lines (take count due.notes) ++ last_line Memory)

-- memory was wanting, and that wasn't told: no file changed, and where all memory is taken first nothing was done
pub record IsLost (order : Option Order) (before now : Contents) : Type 0 where
  pub files : now.files ≡ before.files
  pub ready : IfSome order IsReadyFirst → now ≡ record before { notes = now.notes }

-- memory may have been wanting: that is told, or notes failed
abbrev pub MayWant : ℕ → Stop → Type 0
MayWant status stop = (status ≡ 9) ⊎ ((status ≡ 7) × (stop ≡ Notes))

-- How a call answers. With status 7 a count rose that licenses it, and all others but that of notes are as before; with
-- another no count rose, and with another but 9 all that is due was done, and nothing else.
pub record Answers (order : Option Order) (before now : Contents) (counts counts' : Counts) (calls calls' : FileCalls) (status : ℕ) : Type 0 where
  pub due : Due
  pub explained : Explains order before.files before.input due
  pub stop : Stop
  pub caused : status ≡ 7 → (stop ≢ Memory) × Caused (all_reads_of order explained.sources) (all_keeps_of order) stop counts counts'
  -- where a fetch failed, it was due, and nothing was done but the last line
  pub fetched : status ≡ 7 → stop ≡ Fetch → IsUnfetched order explained.sources due counts counts'
  pub called : Called order explained.sources due (MayWant status stop) calls calls'
  pub others : status ≡ 7 → OthersStand stop counts (record counts' { notes = counts.notes })
  pub quiet : status ≢ 7 → counts' ≡ counts
  pub due_done : status ≢ 7 → status ≢ 9 → (status ≡ due.status) × (now ≡ after_all due before)
  pub outside : status ≡ 7 → IsOutside due before now counts counts' stop
  -- where notes failed, some are due, or memory was wanting
  pub untold : status ≡ 7 → stop ≡ Notes → (due.notes ≢ []) ⊎ IsLost order before now
  pub memory : status ≡ 9 → IsMemory due before now
  -- where all memory is taken first, none of it was wanting once anything was taken, kept, put or told
  pub ready : IfSome order IsReadyFirst → status ≡ 9 → now ≡ record before { notes = appended before.notes (last_line Memory) }
  pub never_less : Later counts counts'
