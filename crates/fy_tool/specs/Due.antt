-- What is due for an order: its status, its output, its notes, the file that it keeps and what it leaves at input.
use Rattle.std.specs.Prelude.{◌≡◌, ◌⊎◌, ℕ, Bool, true, false, T, List, [], ◌∷◌, ◌++◌, length, codes, is_none, Some, None, unwrap_or, option_to_list, All}
use Rattle.std.specs.declared.option.Option.{Option}
use Rattle.fy_base.specs.Outside.{Bytes, Folder, Tells}
use Rattle.fy_phrase.specs.Reads.{reads}
use Rattle.fy_phrase.specs.Tree.{Tree}
use Rattle.pe_code.specs.declared.code.PeCode.{PeCode}
use Rattle.fy_derive.specs.Derivations.{PlainDerivation}
use Rattle.fy_derive.specs.Print.{derivation_text}
use Rattle.fy_derive.specs.Reading.{plain_derivation}
use Rattle.fy_read.specs.Spelling.{IsTextOf}
use Rattle.fy_image.specs.Form.{IsImageBytes, IsSpelled}
use Rattle.fy_image.specs.Refusals.{refusal_of}
use Rattle.fy_image.specs.declared.error.ImageError.{ImageError}
use Rattle.fy_image.specs.declared.image.Image.{Image}
use Rattle.fy_image.specs.declared.version.Version.TheVariants.{Two}
use Rattle.fy_elf.specs.Elf.{IsElfBytes}
use Rattle.fy_elf.specs.Memory.{LoadsAsStart}
use Rattle.fy_elf.specs.Refusals as elf
use Rattle.fy_elf.specs.declared.error.ElfError.{ElfError}
use Rattle.rv_guard.specs.Guarded.{IsGuarded, IsUnguardedAt}
use Rattle.rv_insn.specs.Program.{Program}
use Rattle.rv_machine.specs.Start.{IsProgramOf}
use Rattle.pe_shapes.specs.Order.{AreInOrder}
use Rattle.fy_build.specs.Building.{HasTableWords}
use Rattle.fy_build.specs.Selected.{IsCodeWanted, IsSelectedBy}
use Rattle.fy_build.specs.Headline.{AreBytes, RunsAsCopyRule}
use Rattle.fy_build.specs.Shown.{RunEnd, ShowsCopyRule}
use Rattle.fy_least.specs.Pairs.{HasAllPairs}
use Rattle.fy_link.specs.UnitBytes.{unit_bytes}
use Rattle.fy_link.specs.declared.linking.Linked.{Linked}
use Rattle.fy_link.specs.declared.unit.Unit.{Unit as UnitValue}
use Rattle.fy_sample.specs.Sample.{sample_text}
use Rattle.fy_words.specs.Order.{Order, stack_wanted, steps_wanted, copy_wanted, trace_steps_wanted, width_wanted, line_wanted, levels_wanted}
use Rattle.fy_words.specs.Order as orders
use Rattle.fy_world.specs.Runs.{Due, told, written, IsRun, ran, sampled, running_of, CopyEnd, IsCopyRun, copied, stepped, stepping_of}
use Rattle.fy_world.specs.Note.{ended_lines, refusal_note, elf_note}
use Rattle.fy_world.specs.Shown.{listing}
use Rattle.fy_world.specs.Steps.{StepEnd, IsSteppedRun}
use Rattle.fy_world.specs.declared.note.Note.{Note}
use Rattle.fy_world.specs.declared.note.Note.TheVariants as note
use Rattle.fy_base.specs.declared.data.Place.{Place}
use Rattle.fy_front.specs.declared.refusal.Refusal.{Refusal}
use Rattle.fy_front.specs.declared.refusal.Refusal.TheVariants as refusal
use Rattle.fy_front.specs.Checked.{IsProgramText, IsInUse, IsAccepted, IsRefusedFor, HasNames}
use Rattle.fy_tool.specs.Given.{IsDrawn, IsGiven, IsStoppedAt, IsToldWhy, IsTurnedDown, form_of}
use Rattle.fy_tool.specs.Units.{Listed, ListsUnits, names_of, IsUnitOfText, IsNoUnit, IsLinkedBy, IsNotLinked, PassesShapes}

-- ---- what an order reads and keeps

-- what the file that an order names holds, and what the derivation that it names does, if there are such; and the files that the list holds which it names
pub record Sources : Type 0 where
  pub file : Option Bytes
  pub derivation : Option Bytes
  pub units : List Listed

-- the name under which `run` keeps its image: FILE followed by `.img`, where no option names another
abbrev pub kept_as : Bytes → Option Bytes → Bytes
kept_as file image = unwrap_or image (file ++ codes ".img")

-- what an order takes: what a file holds, and as what, or a sample program, which no file holds
pub data Taken : Type 0 where
  program_text : (file : Bytes) → Taken
  image_bytes : (file : Bytes) → Taken
  elf_bytes : (file : Bytes) → Taken
  unit_source : (file : Bytes) → Taken
  unit_list : (file : Bytes) → Taken
  sample_program : (number size : ℕ) → Taken

-- the signature of an order: what it takes, the derivation that it names, the file that it keeps, whether it runs an image,
-- and whether it takes all its memory before it takes, keeps, puts or tells anything
pub record Signature : Type 0 where
  pub takes : Taken
  pub derivation : Option Bytes
  pub keeps : Option Bytes
  pub runs_image : Bool
  pub ready_first : Bool

-- of an order that does nothing beside: it names and keeps nothing, runs no image, and takes all its memory first
abbrev pub taking : Taken → Signature
taking taken = record { takes = taken; derivation = None; keeps = None; runs_image = false; ready_first = true }

abbrev pub signature_of : Order → Signature
signature_of (orders.check file) = taking (program_text file)
signature_of (orders.derive file) = taking (program_text file)
signature_of (orders.judge file named) = record (taking (program_text file)) { derivation = Some named }
signature_of (orders.why file width) = taking (program_text file)
signature_of (orders.tree file named latex levels below width) = record (taking (program_text file)) { derivation = named }
signature_of (orders.build file image stack named) = record (taking (program_text file)) { derivation = named; keeps = Some image }
signature_of (orders.exec image steps last) = record (taking (image_bytes image)) { runs_image = true; ready_first = is_none last }
signature_of (orders.run file steps stack named image) = record (taking (program_text file)) { derivation = named; keeps = Some (kept_as file image); runs_image = true }
signature_of (orders.copy file steps) = record (taking (program_text file)) { ready_first = false }
signature_of (orders.trace file steps straight) = record (taking (program_text file)) { ready_first = false }
signature_of (orders.list file) = record (taking (program_text file)) { ready_first = false }
signature_of (orders.sample number size) = record (taking (sample_program number size)) { keeps = Some (codes "sample.img"); runs_image = true }
signature_of (orders.audit image) = taking (image_bytes image)
signature_of (orders.migrate from to) = record (taking (image_bytes from)) { keeps = Some to }
signature_of (orders.elf from to) = record (taking (image_bytes from)) { keeps = Some to }
signature_of (orders.unelf from to) = record (taking (elf_bytes from)) { keeps = Some to }
signature_of (orders.unit file to) = record (taking (unit_source file)) { keeps = Some to }
signature_of (orders.join file to) = record (taking (unit_list file)) { keeps = Some to }
signature_of (orders.link file to stack) = record (taking (unit_list file)) { keeps = Some to }

-- the file that an order names, if it reads one
abbrev pub taken_file : Taken → Option Bytes
taken_file (program_text file) = Some file
taken_file (image_bytes file) = Some file
taken_file (elf_bytes file) = Some file
taken_file (unit_source file) = Some file
taken_file (unit_list file) = Some file
taken_file (sample_program number size) = None

abbrev pub file_of : Order → Option Bytes
file_of order = taken_file (signature_of order).takes

-- the derivation that it names
abbrev pub named_by : Order → Option Bytes
named_by order = (signature_of order).derivation

-- the text of a program that it takes
abbrev pub taken_text : Taken → Sources → Option Bytes
taken_text (program_text file) sources = sources.file
taken_text (sample_program number size) sources = Some (sample_text number size)
taken_text _ sources = None

abbrev pub text_of : Order → Sources → Option Bytes
text_of order sources = taken_text (signature_of order).takes sources

-- the bytes of an image that it takes
abbrev pub taken_image : Taken → Sources → Option Bytes
taken_image (image_bytes file) sources = sources.file
taken_image _ sources = None

abbrev pub image_of : Order → Sources → Option Bytes
image_of order sources = taken_image (signature_of order).takes sources

-- the list of units that it takes
abbrev pub taken_list : Taken → Sources → Option Bytes
taken_list (unit_list file) sources = sources.file
taken_list _ sources = None

abbrev pub list_of : Order → Sources → Option Bytes
list_of order sources = taken_list (signature_of order).takes sources

-- the files that it reads
abbrev pub reads_of : Order → Sources → List Bytes
reads_of order sources = names_of sources.units ++ (option_to_list (file_of order) ++ option_to_list (named_by order))

-- the files that it keeps
abbrev pub keeps_of : Order → List Bytes
keeps_of order = option_to_list (signature_of order).keeps

-- an order that takes all its memory before it takes, keeps, puts or tells anything
abbrev pub IsReadyFirst : Order → Type 0
IsReadyFirst order = T (signature_of order).ready_first

-- an order that runs an image
abbrev pub RunsImage : Order → Type 0
RunsImage order = T (signature_of order).runs_image

-- a note below which lines are due at output
abbrev pub tells_lines : Order → Note → Bool
tells_lines (orders.judge file named) (note.DerivationNode node) = true
tells_lines (orders.why file width) (note.Refused (refusal.NoType place)) = true
tells_lines order why = false

-- ---- images

-- the image of a phrase with so many stack words, by a derivation in use, whose shapes are numbered in order: its table has a row for each shape of the derivation, it is selected from right code, laid out, that hands no constant as a thunk,
-- with at most 60 words for each entry and 4,096 beside, `audit` passes it, and it runs as the copy rule
pub record IsImageBy (phrase : Tree) (by : PlainDerivation) (stack : ℕ) (image : Image) : Type 0 where
  pub in_use : IsInUse phrase by
  pub ordered : AreInOrder in_use.table
  pub stack_is : image.stack_words ≡ stack
  pub table_is : HasTableWords phrase by (length image.table)
  pub selected : IsSelectedBy phrase in_use.table image
  pub guarded : IsGuarded image
  pub runs : RunsAsCopyRule phrase image

-- the image of a text
pub record IsBuilt (text : Bytes) (named derivation : Option Bytes) (stack : ℕ) (image : Image) : Type 0 where
  pub phrase : Tree
  pub by : PlainDerivation
  pub given : IsGiven text phrase by named derivation
  pub is : IsImageBy phrase by stack image

-- an image of a text, its bytes in version 2, and a run of it that ended so after n instructions, which shows what the copy rule does
pub record RunsBuilt (text : Bytes) (named derivation : Option Bytes) (stack steps : Option ℕ) (input : Bytes) (image : Image) (bytes : Bytes) (n : ℕ) (end : RunEnd) : Type 0 where
  pub built : IsBuilt text named derivation (stack_wanted stack) image
  pub spelled : IsSpelled Two image bytes
  pub is_run : IsRun (running_of built.is.runs.program image input (steps_wanted steps)) n end
  pub shows : AreBytes input → ShowsCopyRule end built.phrase image built.is.runs.program input n

-- ---- what is due

-- what `check` and `why` are due to write of a text that is accepted, and `judge` of a derivation
abbrev pub accepted : Due
accepted = written (codes "accepted" ++ 10 ∷ [])

-- what `audit` is due to write of an image that is guarded
abbrev pub audited : Due
audited = written (codes "audited" ++ 10 ∷ [])

-- bytes kept under a name, and nothing else
abbrev pub kept : Bytes → Bytes → Due
kept name bytes = record { status = 0; output = []; notes = []; kept = Some (name, bytes); rest = None; running = None }

-- lines below a note
abbrev pub lined : ℕ → Note → Bytes → Due
lined status why lines = record (told status (why ∷ [])) { output = lines }

-- what is due for the words, by what the files hold that they name and by the input
pub data IsDue (sources : Sources) (input : Bytes) : Option Order → Due → Type 0 where
  -- words that are no command
  usage : IsDue sources input None (told 5 (note.Usage ∷ []))
  -- a call that the outside or want of memory stopped before it did anything
  stopped : (order : Order) → IsDue sources input (Some order) (told 7 [])
  -- a text that is refused, or the derivation that is named for it, where no lines are due below the note
  turned_down : (order : Order) (text : Bytes) (status : ℕ) (why : Note) → text_of order sources ≡ Some text → tells_lines order why ≡ false → IsTurnedDown text (named_by order) sources.derivation status why
      → IsDue sources input (Some order) (told status (why ∷ []))
  -- bytes that are no image, where one is taken
  unread : (order : Order) (bytes : Bytes) (error : ImageError) (why : Note) → image_of order sources ≡ Some bytes → refusal_of bytes ≡ Some error → refusal_note error ≡ Some why
      → IsDue sources input (Some order) (told 6 (why ∷ []))
  -- `check` of a text that is accepted
  accepts : (file text : Bytes) → sources.file ≡ Some text → IsAccepted text → IsDue sources input (Some (orders.check file)) accepted
  -- `derive` writes the text of the derivation in use, which shows that the phrase is a command; it can be read back, since it is one of that derivation, which keeps the limits
  derives : (file text : Bytes) (p : Tree) (names : List Bytes) (d : PlainDerivation) → sources.file ≡ Some text → IsProgramText text p → HasNames text names → IsInUse p d → HasAllPairs [] p d
      → IsTextOf names d (derivation_text names d) → IsDue sources input (Some (orders.derive file)) (written (derivation_text names d))
  -- `judge` of a derivation that is accepted
  judges : (file name text : Bytes) (p : Tree) (d : PlainDerivation) → sources.file ≡ Some text → IsGiven text p d (Some name) sources.derivation → IsInUse p d
      → IsDue sources input (Some (orders.judge file name)) accepted
  -- `judge` of one that isn't tells the node at which judging stops, and writes why
  misjudges : (file name text derivation : Bytes) (node : ℕ) (lines : Bytes) → sources.file ≡ Some text → sources.derivation ≡ Some derivation → IsStoppedAt text derivation node lines
      → IsDue sources input (Some (orders.judge file name)) (lined 8 (note.DerivationNode node) lines)
  -- `why` of a text that is accepted
  untold : (file text : Bytes) (width : Option ℕ) → sources.file ≡ Some text → IsAccepted text → IsDue sources input (Some (orders.why file width)) accepted
  -- `why` of a text that has no type tells the place that `check` tells, and writes why
  explains : (file text : Bytes) (width : Option ℕ) (place : Place) (lines : Bytes) → sources.file ≡ Some text → IsRefusedFor text (refusal.NoType place)
      → IsToldWhy text (width_wanted width) lines
      → IsDue sources input (Some (orders.why file width)) (lined 2 (note.Refused (refusal.NoType place)) lines)
  -- `tree` writes the derivation in use as a tree
  draws : (file : Bytes) (named : Option Bytes) (latex : Bool) (levels node width : Option ℕ) (text lines : Bytes) → sources.file ≡ Some text
      → IsDrawn text named sources.derivation (form_of latex) (line_wanted width) node (levels_wanted levels) lines
      → IsDue sources input (Some (orders.tree file named latex levels node width)) (written lines)
  -- `build` keeps the image's bytes, in version 2
  builds : (file name : Bytes) (stack : Option ℕ) (named : Option Bytes) (text : Bytes) (image : Image) (bytes : Bytes) → sources.file ≡ Some text
      → IsBuilt text named sources.derivation (stack_wanted stack) image → IsSpelled Two image bytes
      → IsDue sources input (Some (orders.build file name stack named)) (kept name bytes)
  -- `list` writes the image's listing
  lists : (file text : Bytes) (image : Image) → sources.file ≡ Some text → (built : IsBuilt text None sources.derivation (stack_wanted None) image)
      → IsDue sources input (Some (orders.list file)) (written (ended_lines (listing built.is.runs.program)))
  -- `exec` of an image's bytes
  executes : (name : Bytes) (steps last : Option ℕ) (bytes : Bytes) (image : Image) (program : Program) (n : ℕ) (end : RunEnd) → sources.file ≡ Some bytes
      → IsImageBytes image bytes → IsProgramOf image program → IsRun (running_of program image input (steps_wanted steps)) n end
      → IsDue sources input (Some (orders.exec name steps last)) (ran (running_of program image input (steps_wanted steps)) last None n end)
  -- `run` keeps the image of a text and runs it
  runs : (file : Bytes) (steps stack : Option ℕ) (named name : Option Bytes) (text : Bytes) (image : Image) (bytes : Bytes) (n : ℕ) (end : RunEnd) → sources.file ≡ Some text
      → (has_run : RunsBuilt text named sources.derivation stack steps input image bytes n end)
      → IsDue sources input (Some (orders.run file steps stack named name))
      (ran (running_of has_run.built.is.runs.program image input (steps_wanted steps)) None (Some (kept_as file name, bytes)) n end)
  -- `sample` does so with a sample program, and then writes a summary
  samples : (number size : ℕ) (image : Image) (bytes : Bytes) (n : ℕ) (end : RunEnd)
      → (has_run : RunsBuilt (sample_text number size) None sources.derivation None None input image bytes n end)
      → IsDue sources input (Some (orders.sample number size))
      (sampled (ran (running_of has_run.built.is.runs.program image input (steps_wanted None)) None (Some (codes "sample.img", bytes)) n end))
  -- `copy` runs the phrase by the copy rule
  copies : (file : Bytes) (steps : Option ℕ) (text : Bytes) (p : Tree) (d : PlainDerivation) (n : ℕ) (end : CopyEnd) → sources.file ≡ Some text → IsProgramText text p → IsInUse p d → HasAllPairs [] p d
      → IsCopyRun (record { phrase = p; input = input; limit = copy_wanted steps }) n end
      → IsDue sources input (Some (orders.copy file steps)) (copied (record { phrase = p; input = input; limit = copy_wanted steps }) n end)
  -- `trace` runs the phrase's code by that derivation, whose shapes are numbered in order, with constants handed as data, on a machine with so many words of stack, and tells each step; with nodes evaluated in one step where that is asked
  traces : (file : Bytes) (steps : Option ℕ) (straight : Bool) (text : Bytes) (p : Tree) (names : List Bytes) (d : PlainDerivation) (code : PeCode) (n : ℕ) (end : StepEnd) → sources.file ≡ Some text
      → IsProgramText text p → HasNames text names → (used : IsInUse p d) → AreInOrder used.table → HasAllPairs [] p d → IsCodeWanted straight p used.table code → IsSteppedRun (stepping_of code names input (trace_steps_wanted steps)) n end
      → IsDue sources input (Some (orders.trace file steps straight)) (stepped (stepping_of code names input (trace_steps_wanted steps)) n end)
  -- `audit` of a guarded image
  audits : (name bytes : Bytes) (image : Image) → sources.file ≡ Some bytes → IsImageBytes image bytes → IsGuarded image → IsDue sources input (Some (orders.audit name)) audited
  -- `audit` of an image that isn't guarded tells the word; by `images_are_judged_one_way` there is no other, and no guarded image has one
  unguarded : (name bytes : Bytes) (image : Image) (word : ℕ) → sources.file ≡ Some bytes → IsImageBytes image bytes → IsUnguardedAt image word
      → IsDue sources input (Some (orders.audit name)) (told 12 (note.Audit word ∷ []))
  -- `migrate` keeps the bytes in version 2 of the image whose bytes the file holds; these are no other image's
  migrates : (from to old : Bytes) (image : Image) (new : Bytes) → sources.file ≡ Some old → IsImageBytes image old → IsSpelled Two image new
      → IsDue sources input (Some (orders.migrate from to)) (kept to new)
  -- `elf` keeps the ELF file of the image whose bytes the file holds; a loader makes of it what the image's machine starts with
  elves : (from to old : Bytes) (image : Image) (new : Bytes) → sources.file ≡ Some old → IsImageBytes image old → IsElfBytes image new → LoadsAsStart image new
      → IsDue sources input (Some (orders.elf from to)) (kept to new)
  -- `unelf` keeps the bytes in version 2 of the image whose ELF file the file holds
  unelves : (from to old : Bytes) (image : Image) (new : Bytes) → sources.file ≡ Some old → IsElfBytes image old → LoadsAsStart image old → IsSpelled Two image new
      → IsDue sources input (Some (orders.unelf from to)) (kept to new)
  -- bytes that are no image's ELF file
  no_elf : (from to bytes : Bytes) (error : ElfError) (why : Note) → sources.file ≡ Some bytes → elf.refusal_of bytes ≡ Some error → elf_note error ≡ Some why
      → IsDue sources input (Some (orders.unelf from to)) (told 6 (why ∷ []))
  -- `unit` keeps the unit whose source the text is
  compiles : (file to text : Bytes) (names : List Bytes) (value : UnitValue) → sources.file ≡ Some text → IsUnitOfText text names value
      → IsDue sources input (Some (orders.unit file to)) (kept to (unit_bytes text (derivation_text names (plain_derivation value.derivation))))
  -- a text that is the source of no unit
  no_unit : (file to text : Bytes) (why : Refusal) → sources.file ≡ Some text → IsNoUnit text why → IsDue sources input (Some (orders.unit file to)) (told 2 (note.Refused why ∷ []))
  -- units on a list that aren't linked
  not_linked : (order : Order) (list : Bytes) (status : ℕ) (why : Note) → list_of order sources ≡ Some list → IsNotLinked list sources.units status why
      → IsDue sources input (Some order) (told status (why ∷ []))
  -- `join` keeps the joined text of the units
  joins : (file to list : Bytes) (linked : Linked) → sources.file ≡ Some list → IsLinkedBy list sources.units linked → IsDue sources input (Some (orders.join file to)) (kept to linked.text)
  -- `link` of units whose composed derivation has shapes that pass a limit
  misshapes : (file to : Bytes) (stack : Option ℕ) (list : Bytes) (why : Refusal) → sources.file ≡ Some list → PassesShapes list sources.units why
      → IsDue sources input (Some (orders.link file to stack)) (told 2 (note.Refused why ∷ []))
  -- `link` keeps the bytes in version 2 of the image of the joined text's phrase by the composed derivation
  links : (file to : Bytes) (stack : Option ℕ) (list : Bytes) (linked : Linked) (image : Image) (bytes : Bytes) → sources.file ≡ Some list → IsLinkedBy list sources.units linked
      → IsImageBy (reads linked.phrase) (plain_derivation linked.derivation) (stack_wanted stack) image → IsSpelled Two image bytes
      → IsDue sources input (Some (orders.link file to stack)) (kept to bytes)

-- ---- what is told of the files

-- what a file holds that may be named, where files are told
abbrev pub TellsNamed : Option Folder → Option Bytes → Option Bytes → Type 0
TellsNamed files None content = Unit {0}
TellsNamed files (Some name) content = Tells files name content

-- the files are those on the list, or none of them is read
abbrev pub AreListed : Option Bytes → List Listed → Type 0
AreListed None files = files ≡ []
AreListed (Some list) files = (files ≡ []) ⊎ ListsUnits list (names_of files)

-- these files hold this, where files are told
abbrev pub AreTold : Option Folder → List Listed → Type 0
AreTold files units = All (λ (unit : Listed). Tells files unit.name unit.content) units

-- the files that an order reads hold this
pub record TellsSources (order : Order) (files : Option Folder) (sources : Sources) : Type 0 where
  pub file : TellsNamed files (file_of order) sources.file
  pub derivation : TellsNamed files (named_by order) sources.derivation
  pub listed : AreListed (list_of order sources) sources.units
  pub units : AreTold files sources.units
