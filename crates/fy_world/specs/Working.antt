-- What the parts of the work on images, runs and lines did.
use Rattle.std.specs.Prelude.{◌≡◌, ◌≢◌, ◌⊎◌, ℕ, List, [], Some, None, Option, MatchResult, IfErr, All}
use Rattle.std.specs.Option.{ForSome}
use Rattle.std.specs.declared.result.Result.{Result}
use Rattle.std.specs.declared.result.Result.TheVariants.{Err}
use Rattle.fy_base.specs.Outside.{Bytes, GainedPart, appended}
use Rattle.fy_build.specs.Shown.{RunEnd}
use Rattle.fy_image.specs.Form.{IsSpelled}
use Rattle.fy_image.specs.declared.version.Version.TheVariants.{Two}
use Rattle.fy_elf.specs.Elf.{IsElfBytes}
use Rattle.fy_elf.specs.Memory.{LoadsAsStart}
use Rattle.fy_image.specs.declared.image.Image.{Image}
use Rattle.fy_phrase.specs.Tree.{Tree}
use Rattle.rv_insn.specs.Program.{Program, AreRead}
use Rattle.rv_insn.specs.Step.{Core}
use Rattle.rv_machine.specs.Run.{going_world}
use Rattle.rv_machine.specs.Fetch.{word_at}
use Rattle.rv_machine.specs.Start.{IsProgramOf as IsProgramOfImage, start_of}
use Rattle.rv_machine.specs.declared.watch.Fetched.{Fetched}
use Rattle.rv_machine.specs.declared.run.MachineRun.{MachineRun}
use Rattle.fy_sample.specs.Sample.{summary}
use Rattle.fy_world.specs.Shown.{listing}
use Rattle.fy_world.specs.World.{Contents}
use Rattle.fy_world.specs.Note.{texts, ended_lines}
use Rattle.fy_build.specs.Headline.{AreBytes}
use Rattle.fy_world.specs.Runs.{Due, IsRun, run_status, end_notes, ran, sampled, CopyEnd, IsCopyRun, copied, written}
use Rattle.fy_world.specs.Did.{Did, WholeLines}
use Rattle.fy_world.specs.declared.world.Stop.{Stop}
use Rattle.fy_world.specs.declared.world.Stop.TheVariants.{Keep, Output, Notes, Memory}

-- memory was wanting before anything was done
pub record IsUnbegun (before now : Contents) (result : Result ℕ Stop) : Type 0 where
  pub memory : result ≡ Err Memory
  pub same : now ≡ before

-- lines were put to notes, or a part of them; where memory was wanting, whole ones
pub record ToldPart (lines : List Bytes) (before now : Option Bytes) (stop : Stop) : Type 0 where
  pub part : GainedPart before now (ended_lines lines)
  pub whole : stop ≡ Memory → WholeLines lines before now

abbrev pub TellsLines : List Bytes → Contents → Contents → Result (Unit {0}) Stop → Type 0
TellsLines lines before now result = MatchResult result (λ _. now ≡ record before { notes = appended before.notes (ended_lines lines) }) (ToldPart lines before.notes now.notes)

-- words of a program that were fetched
pub record AreFetched (program : Program) (words : List Fetched) : Type 0 where
  pub read : AreRead program.words program.instructions
  pub each : All (λ fetched. word_at program fetched.pc ≡ Some fetched.word) words

-- such bytes were kept under a name, or a part of that was done
pub record WasKept (IsSuch : Bytes → Type 0) (name : Bytes) (before now : Contents) (result : Result ℕ Stop) : Type 0 where
  pub bytes : Bytes
  pub spelled : IsSuch bytes
  pub ready : result ≢ Err Memory
  pub only : IfErr result (λ stop. stop ≡ Keep)
  pub did : Did (record { status = 0; output = []; notes = []; kept = Some (name, bytes); rest = None; running = None }) before now result

abbrev pub KeepsSuch : (Bytes → Type 0) → Bytes → Contents → Contents → Result ℕ Stop → Type 0
KeepsSuch IsSuch name before now result = IsUnbegun before now result ⊎ WasKept IsSuch name before now result

-- the same of an image's bytes in version 2
abbrev pub Keeps : Image → Bytes → Contents → Contents → Result ℕ Stop → Type 0
Keeps image name before now result = KeepsSuch (IsSpelled Two image) name before now result

-- the ELF file of an image, of which a loader makes what the image's machine starts with
pub record IsLoaded (image : Image) (bytes : Bytes) : Type 0 where
  pub elf : IsElfBytes image bytes
  pub loads : LoadsAsStart image bytes

abbrev pub KeepsElf : Image → Bytes → Contents → Contents → Result ℕ Stop → Type 0
KeepsElf image name before now result = KeepsSuch (IsLoaded image) name before now result

-- a machine ran on an input that explains it, and what is due for its run was done, or a part
pub record HasRun (program : Program) (core : Core) (limit : ℕ) (trace : Option ℕ) (kept : Option (Bytes × Bytes)) (before now : Contents) (result : Result ℕ Stop) : Type 0 where
  pub input : Bytes
  pub fed : ForSome before.input (λ left. input ≡ left)
  -- what is told being bytes, so is this
  pub bytes : ForSome before.input AreBytes → AreBytes input
  pub n : ℕ
  pub end : RunEnd
  pub is_run : IsRun (record { program = program; first = going_world core input; limit = limit }) n end
  pub did : Did (ran (record { program = program; first = going_world core input; limit = limit }) trace kept n end) before now result

-- a phrase ran by the copy rule on an input that explains it, and what is due for its run was done, or a part
pub record HasCopied (p : Tree) (limit : ℕ) (before now : Contents) (result : Result ℕ Stop) : Type 0 where
  pub input : Bytes
  pub fed : ForSome before.input (λ left. input ≡ left)
  pub n : ℕ
  pub end : CopyEnd
  pub is_run : IsCopyRun (record { phrase = p; input = input; limit = limit }) n end
  pub did : Did (copied (record { phrase = p; input = input; limit = limit }) n end) before now result

-- an image was loaded and ran
pub record HasExecuted (image : Image) (limit : ℕ) (trace : Option ℕ) (kept : Option (Bytes × Bytes)) (before now : Contents) (result : Result ℕ Stop) : Type 0 where
  pub program : Program
  pub is_the_images : IsProgramOfImage image program
  pub has_run : HasRun program (start_of image) limit trace kept before now result

abbrev pub Executes : Image → ℕ → Option ℕ → Contents → Contents → Result ℕ Stop → Type 0
Executes image limit trace before now result = IsUnbegun before now result ⊎ HasExecuted image limit trace None before now result

-- an image was kept under a name, and then it ran
pub record HasKeptAndRun (image : Image) (limit : ℕ) (name : Bytes) (before now : Contents) (result : Result ℕ Stop) : Type 0 where
  pub bytes : Bytes
  pub spelled : IsSpelled Two image bytes
  pub executed : HasExecuted image limit None (Some (name, bytes)) before now result
  pub ready : result ≢ Err Memory

abbrev pub KeepsAndRuns : Image → ℕ → Bytes → Contents → Contents → Result ℕ Stop → Type 0
KeepsAndRuns image limit name before now result = IsUnbegun before now result ⊎ HasKeptAndRun image limit name before now result

-- a summary was put to output and then lines to notes, or a part of that
pub record SummedPart (sum lines : Bytes) (before now : Contents) (stop : Stop) : Type 0 where
  pub files : now.files ≡ before.files
  pub input : now.input ≡ before.input
  pub output : GainedPart before.output now.output sum
  pub notes : GainedPart before.notes now.notes lines
  -- where all of the summary wasn't put, none of the lines was
  pub in_order : ((stop ≡ Output) × (now.notes ≡ before.notes)) ⊎ (stop ≡ Notes)

-- the same of a machine's run that ended so
abbrev pub SumsUp : MachineRun → RunEnd → Contents → Contents → Result ℕ Stop → Type 0
SumsUp done end before now result =
    let sum = summary (run_status end) done.bytes in
    let lines = ended_lines (texts (end_notes end done.steps)) in
    MatchResult result (λ status. (status ≡ run_status end) × (now ≡ record before { output = appended before.output sum; notes = appended before.notes lines })) (SummedPart sum lines before now)

-- a machine ran on an input that explains it, and what is due for its run with a summary was done, or a part
pub record HasSampled (program : Program) (core : Core) (limit : ℕ) (kept : Option (Bytes × Bytes)) (before now : Contents) (result : Result ℕ Stop) : Type 0 where
  pub input : Bytes
  pub fed : ForSome before.input (λ left. input ≡ left)
  -- what is told being bytes, so is this
  pub bytes : ForSome before.input AreBytes → AreBytes input
  pub n : ℕ
  pub end : RunEnd
  pub is_run : IsRun (record { program = program; first = going_world core input; limit = limit }) n end
  pub did : Did (sampled (ran (record { program = program; first = going_world core input; limit = limit }) None kept n end)) before now result

-- an image was kept under a name, and then it ran, and a summary was written
pub record HasKeptAndSampled (image : Image) (limit : ℕ) (name : Bytes) (before now : Contents) (result : Result ℕ Stop) : Type 0 where
  pub bytes : Bytes
  pub spelled : IsSpelled Two image bytes
  pub program : Program
  pub is_the_images : IsProgramOfImage image program
  pub has_sampled : HasSampled program (start_of image) limit (Some (name, bytes)) before now result
  pub ready : result ≢ Err Memory

abbrev pub KeepsAndSamples : Image → ℕ → Bytes → Contents → Contents → Result ℕ Stop → Type 0
KeepsAndSamples image limit name before now result = IsUnbegun before now result ⊎ HasKeptAndSampled image limit name before now result

-- the listing of a program was put
abbrev pub listed : Program → Due
listed program = written (ended_lines (listing program))
