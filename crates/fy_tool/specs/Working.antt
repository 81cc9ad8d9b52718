-- What the parts of a command's work did with texts, derivations and the images of programs.
use Rattle.std.specs.Borrow.{Bor}
use Rattle.std.specs.Prelude.{◌≡◌, ◌⊎◌, ℕ, ◌+◌, ◌<◌, ◌≤◌, Bool, false, List, [], ◌∷◌, ◌++◌, length, map, All, IsUtf8, Some, None, Ok, Err, MatchOption, MatchResult, IfOk}
use Rattle.std.specs.declared.alloc.Global.{Global}
use Rattle.std.specs.declared.option.Option.{Option}
use Rattle.std.specs.declared.result.Result.{Result}
use Rattle.std.specs.declared.vec.Vec.{Vec}
use Rattle.fy_base.specs.Outside.{Bytes, FileCalls, Folder, Rose, Tells}
use Rattle.fy_base.specs.declared.data.Place.{Place}
use Rattle.fy_phrase.specs.Tree.{Tree, place_of}
use Rattle.fy_show.specs.declared.binders.Binder.{Binder}
use Rattle.fy_told.specs.ReasonTexts.{source_names}
use Rattle.fy_causes.specs.Hollow.{why_of}
use Rattle.fy_why.specs.Texts.{why_text}
use Rattle.fy_tree.specs.Whole.{tree_text}
use Rattle.fy_phrase.specs.Reads.{reads}
use Rattle.fy_phrase.specs.declared.shapes.ShapeTable.{ShapeTable}
use Rattle.fy_expand.specs.Judged.{IsJudged, IsJudgedFrom}
use Rattle.fy_derive.specs.Derivations.{PlainDerivation}
use Rattle.fy_derive.specs.Judging.{conclusion_of, refusal}
use Rattle.fy_derive.specs.Limits.{KeepsLimits}
use Rattle.fy_derive.specs.Print.{derivation_text}
use Rattle.fy_derive.specs.Reading.{plain_derivation}
use Rattle.fy_derive.specs.Shapes.{shape_table}
use Rattle.fy_derive.specs.ShapeTables.{HasJustPairs}
use Rattle.fy_derive.specs.declared.derivation.Derivation.{Derivation}
use Rattle.fy_read.specs.FieldNames.{NumbersFields}
use Rattle.fy_read.specs.Refusals.{IsReadFault, KeepsThroughout}
use Rattle.fy_read.specs.declared.error.ReadError.{ReadError}
use Rattle.pe_shapes.specs.Order.{AreInOrder}
use Rattle.pe_shapes.specs.Shaping.{KeepsLimits as KeepsShapeLimits, IsShaping}
use Rattle.pe_shapes.specs.declared.error.ShapeError.{ShapeError}
use Rattle.pe_code.specs.declared.code.PeCode.{PeCode}
use Rattle.rv_guard.specs.Guarded.{IsGuarded}
use Rattle.rv_insn.specs.Program.{Program as Code}
use Rattle.rv_machine.specs.Start.{IsProgramOf}
use Rattle.fy_image.specs.Form.{IsImageBytes}
use Rattle.fy_image.specs.Refusals.{refusal_of}
use Rattle.fy_image.specs.declared.error.ImageError.{ImageError}
use Rattle.fy_image.specs.declared.image.Image.{Image}
use Rattle.fy_elf.specs.Elf.{IsElfBytes}
use Rattle.fy_elf.specs.Memory.{LoadsAsStart}
use Rattle.fy_elf.specs.Refusals as elf
use Rattle.fy_elf.specs.declared.error.ElfError.{ElfError}
use Rattle.fy_build.specs.Selected.{IsCodeWanted, IsSelectedBy}
use Rattle.fy_build.specs.Building.{HasTableWords}
use Rattle.fy_build.specs.Headline.{RunsAsCopyRule}
use Rattle.fy_link.specs.Links.{IsLinked, IsUnlinked}
use Rattle.fy_link.specs.UnitBytes.{IsUnitRead, IsBadUnit, unit_bytes}
use Rattle.fy_link.specs.Units.{IsUnit}
use Rattle.fy_link.specs.declared.error.LinkError.{LinkError}
use Rattle.fy_link.specs.declared.linking.Linked.{Linked}
use Rattle.fy_link.specs.declared.unit.Unit.{Unit as UnitValue}
use Rattle.fy_sample.specs.Sample.{sample_text}
use Rattle.fy_world.specs.World.{Contents, Counts}
use Rattle.fy_world.specs.Counted.{Faulted, HasCalled, IsReadStop}
use Rattle.fy_world.specs.Note.{read_note, refusal_note, elf_note}
use Rattle.fy_world.specs.Stepping.{HasStepped}
use Rattle.fy_world.specs.Did.{Did}
use Rattle.fy_world.specs.Working.{IsUnbegun, Keeps, KeepsAndRuns, KeepsAndSamples, listed}
use Rattle.fy_world.specs.declared.note.Note.{Note}
use Rattle.fy_world.specs.declared.note.Note.TheVariants as note
use Rattle.fy_front.specs.declared.refusal.Refusal.{Refusal}
use Rattle.fy_front.specs.declared.refusal.Refusal.TheVariants as refused
use Rattle.fy_world.specs.declared.world.Stop.{Stop}
use Rattle.fy_world.specs.declared.world.Stop.TheVariants.{Fetch}
use Rattle.fy_front.specs.Checked.{IsAccepted, IsRefusedFor, shapes_refusal, IsCore, IsInUse, IsUnjudged, IsOfText, HasNames}
use Rattle.fy_words.specs.Order.{judge, why, line_wanted, levels_wanted}
use Rattle.fy_tool.specs.Given.{HasBinders, HasGivenNames, IsDrawn, IsGiven, IsStoppedAt, IsToldWhy, IsTurnedDown, Spells, form_of}
use Rattle.fy_tool.specs.Due.{TellsNamed, AreListed, AreTold, tells_lines}
use Rattle.fy_tool.specs.Fetched.{HasFetched, LastRose}
use Rattle.fy_tool.specs.Units.{most_unit, Listed, names_of, ListsUnits, ListsNone, IsUnitOfText, IsNoUnit, AreUnitsRead, IsBadObject, IsLinkedBy, IsNotLinked, link_note}
use Rattle.fy_front.specs.declared.texts.Core.{Core}
use Rattle.fy_front.specs.declared.texts.Program.{Program}
use Rattle.fy_tool.specs.declared.given.TurnedDown.{TurnedDown}
use Rattle.fy_tool.specs.declared.judge.Judgement.{Judgement}
use Rattle.fy_tool.specs.declared.judge.Judgement.TheVariants as judgement
use Rattle.fy_tool.specs.declared.texts.Source.{Source}
use Rattle.fy_tool.specs.declared.tree.Drawing.{Drawing}
use Rattle.fy_tool.specs.declared.tree.Drawn.{Drawn}
use Rattle.fy_tool.specs.declared.tree.Drawn.TheVariants as drawn
use Rattle.fy_tool.specs.declared.why.Telling.{Telling}
use Rattle.fy_tool.specs.declared.why.Telling.TheVariants as telling
use Rattle.fy_tool.specs.declared.link.Together.{Together}
use Rattle.fy_tool.specs.declared.objects.Objects.{Objects}

-- ---- texts

-- the phrase of a text with a derivation in use: the one that is named, or else one that the text has
pub record IsGivenFor (text : Bytes) (named written : Option Bytes) (program : Program) : Type 0 where
  pub is_judged : IsJudged text (Ok (reads program.phrase))
  pub given : IsGiven text (reads program.phrase) (plain_derivation program.derivation) named written
  pub derived : refusal (conclusion_of (reads program.phrase) (plain_derivation program.derivation)) ≡ None
  pub limits : KeepsLimits (plain_derivation program.derivation)
  pub table_is : HasJustPairs program.table (shape_table (reads program.phrase) (plain_derivation program.derivation))
  pub table_limits : KeepsShapeLimits (reads program.phrase) program.table
  pub table_ordered : AreInOrder program.table

-- the program of some text
abbrev pub IsOfSomeText : Program → Type 0
IsOfSomeText program = (text : Bytes) × IsOfText text program

-- a program of which images are built: the phrase of a text, with names numbered by some list, and a derivation in use
pub record IsBuildable (program : Program) : Type 0 where
  pub names : List Bytes
  pub text : Bytes
  pub is_judged : IsJudgedFrom names text (Ok (reads program.phrase))
  pub derived : refusal (conclusion_of (reads program.phrase) (plain_derivation program.derivation)) ≡ None
  pub limits : KeepsLimits (plain_derivation program.derivation)
  pub table_is : HasJustPairs program.table (shape_table (reads program.phrase) (plain_derivation program.derivation))
  pub table_limits : KeepsShapeLimits (reads program.phrase) program.table
  pub table_ordered : AreInOrder program.table

abbrev pub IsDown : Bytes → Option Bytes → Option Bytes → TurnedDown → Type 0
IsDown text named written down = IsTurnedDown text named written down.status down.note

-- the text with its core phrase
abbrev pub IsSource : Bytes → Source → Type 0
IsSource text source = (source.text.items ≡ text) × IsCore text source.core

-- the text in a file with its core phrase, or why it has none
abbrev pub ReadsSource : Bytes → Option Folder → Result (Result Source Refusal) Stop → Type 0
ReadsSource file files result = IfOk result (λ found. (text : Bytes) × Tells files file (Some text) × MatchResult found (IsSource text) (IsUnjudged text))

-- a text that was checked
abbrev pub Checks : Bytes → Option Folder → Result (Result Program Refusal) Stop → Type 0
Checks file files result = IfOk result (λ found. (text : Bytes) × Tells files file (Some text) × MatchResult found (IsOfText text) (IsRefusedFor text))

-- a text that was checked, and the derivation that is named for it
pub record WasGiven (file : Bytes) (named : Option Bytes) (files : Option Folder) (calls calls' : FileCalls) (found : Result Program TurnedDown) : Type 0 where
  pub text : Bytes
  pub told : Tells files file (Some text)
  pub written : Option Bytes
  pub told_named : TellsNamed files named written
  pub called : HasFetched (Some file) named (Some text) [] calls calls'
  pub is : MatchResult found (IsGivenFor text named written) (IsDown text named written)

abbrev pub ChecksGiven : Bytes → Option Bytes → Option Folder → FileCalls → FileCalls → Result (Result Program TurnedDown) Stop → Type 0
ChecksGiven file named files calls calls' result = IfOk result (WasGiven file named files calls calls')

-- work on a text and on the derivation that is named for it was stopped: a file wasn't fetched, that of the derivation behind a text with a core phrase, or memory was wanting
pub record WasUngiven (file : Bytes) (named : Option Bytes) (files : Option Folder) (before now : Counts) (calls calls' : FileCalls) (stop : Stop) : Type 0 where
  pub text : Option Bytes
  pub told : Tells files file text
  pub called : HasFetched (Some file) named text [] calls calls'
  pub fetched : stop ≡ Fetch → LastRose (Some file) named text [] before now

-- a sample program, or why its text is none
abbrev pub IsSampleOf : ℕ → ℕ → Result Program Refusal → Type 0
IsSampleOf number size found = MatchResult found (IsOfText (sample_text number size)) (IsRefusedFor (sample_text number size))

-- ---- derivations

-- a derivation that was read, or why the bytes are none
abbrev pub ReadFrom : List Bytes → List Bytes → Bytes → Result Derivation Note → Type 0
ReadFrom names after written read =
    MatchResult read (λ d. NumbersFields names after (plain_derivation d) written × KeepsLimits (plain_derivation d) × KeepsThroughout written)
    (λ why. (error : ReadError) × IsReadFault written error × (read_note error ≡ Some why))

-- the table of a derivation's demand shapes, in order, or which limit they pass
abbrev pub Tables : Tree → PlainDerivation → Result ShapeTable Refusal → Type 0
Tables p d found =
    MatchResult found (λ table. HasJustPairs table (shape_table p d) × KeepsShapeLimits p table × AreInOrder table)
    (λ why. (error : ShapeError) × IsShaping (Err error) p d × (shapes_refusal error ≡ Some why))

-- the core phrase of whatever text it is by the derivation that is written, under whatever name
abbrev pub GivenBy : Core → Bytes → Result Program TurnedDown → Type 0
GivenBy core written found = (text name : Bytes) → IsCore text core → MatchResult found (IsGivenFor text (Some name) (Some written)) (IsDown text (Some name) (Some written))

-- the derivation that is named for a text is accepted
pub record IsGivenInUse (text name : Bytes) (derivation : Option Bytes) : Type 0 where
  pub p : Tree
  pub d : PlainDerivation
  pub given : IsGiven text p d (Some name) derivation
  pub used : IsInUse p d

-- what a file holds is so, if it holds anything
abbrev pub HasWritten : Option Bytes → (Bytes → Type 0) → Type 0
HasWritten None P = ⊥
HasWritten (Some written) P = P written

-- what judging comes to of the derivation that is named for a text, where these bytes are written: it is accepted, or the text or the derivation is turned down, or judging stops at a node, as lines tell
abbrev pub IsJudgement : Bytes → Bytes → Option Bytes → Judgement → Type 0
IsJudgement text name derivation judgement.Accepted = IsGivenInUse text name derivation
IsJudgement text name derivation (judgement.Down down) = IsDown text (Some name) derivation down × (tells_lines (judge name name) down.note ≡ false)
IsJudgement text name derivation (judgement.Stopped node lines) = HasWritten derivation (λ written. IsStoppedAt text written node lines)

-- the same of a derivation for the phrase, of whatever text it is and however the derivation is written
abbrev pub JudgesFor : Tree → PlainDerivation → Judgement → Type 0
JudgesFor p d found = (text name written : Bytes) → IsJudged text (Ok p) → Spells text written d → IsJudgement text name (Some written) found

-- of a derivation for the phrase of a text, whose fields these names number
abbrev pub JudgesUnder : Bytes → List Bytes → Tree → PlainDerivation → Judgement → Type 0
JudgesUnder text names p d found = (name written : Bytes) → IsJudged text (Ok p) → (spelled : Spells text written d) → spelled.after ≡ names → IsJudgement text name (Some written) found

-- and of what is written for a text, under whatever name
abbrev pub JudgesWritten : Bytes → Bytes → Judgement → Type 0
JudgesWritten text written found = (name : Bytes) → IsJudgement text name (Some written) found

-- the derivation in a file was judged for the text in another
pub record WasJudged (file name : Bytes) (files : Option Folder) (calls calls' : FileCalls) (found : Judgement) : Type 0 where
  pub text : Bytes
  pub told : Tells files file (Some text)
  pub derivation : Option Bytes
  pub told_named : Tells files name derivation
  pub called : HasFetched (Some file) (Some name) (Some text) [] calls calls'
  pub is : IsJudgement text name derivation found

abbrev pub Judges : Bytes → Bytes → Option Folder → FileCalls → FileCalls → Result Judgement Stop → Type 0
Judges file name files calls calls' result = IfOk result (WasJudged file name files calls calls')

-- a derivation of a phrase as a tree, with these names, as is asked
abbrev pub tree_shown : List Bytes → List Binder → Drawing → PlainDerivation → Tree → Bytes
tree_shown names binders drawing d p =
    tree_text (record { known = source_names names binders; form = drawing.style.form; width = drawing.style.width }) drawing.node drawing.levels d p

-- how an order draws
abbrev pub drawing_wanted : Bool → Option ℕ → Option ℕ → Option ℕ → Drawing
drawing_wanted latex levels node width =
    record { style = record { form = form_of latex; width = line_wanted width }; node = node; levels = levels_wanted levels }

-- what drawing a derivation of a text comes to, as is asked: lines show it as a tree, or the text or the derivation is turned down
abbrev pub IsDrawing : Bytes → Option Bytes → Option Bytes → Drawing → Drawn → Type 0
IsDrawing text named written drawing (drawn.Down down) = IsDown text named written down
IsDrawing text named written drawing (drawn.Lines lines) = IsDrawn text named written drawing.style.form drawing.style.width drawing.node drawing.levels lines

-- the same of a derivation in use for the phrase of the text, whose fields these names number, however it is given
abbrev pub DrawsUnder : Bytes → List Bytes → Drawing → Tree → PlainDerivation → Drawn → Type 0
DrawsUnder text names drawing p d found = (named written : Option Bytes) → IsGiven text p d named written → IsInUse p d → HasGivenNames text d named written names → IsDrawing text named written drawing found

-- of one that is written for the phrase of the text
abbrev pub DrawsFor : Bytes → List Bytes → Drawing → Tree → PlainDerivation → Drawn → Type 0
DrawsFor text names drawing p d found = (name written : Bytes) → IsJudged text (Ok p) → (spelled : Spells text written d) → spelled.after ≡ names → IsDrawing text (Some name) (Some written) drawing found

-- and of what is written for a text, under whatever name
abbrev pub DrawsWritten : Bytes → Bytes → Drawing → Drawn → Type 0
DrawsWritten text written drawing found = (name : Bytes) → IsDrawing text (Some name) (Some written) drawing found

-- a derivation of the text in a file was drawn
pub record WasDrawn (file : Bytes) (named : Option Bytes) (files : Option Folder) (calls calls' : FileCalls) (drawing : Drawing) (found : Drawn) : Type 0 where
  pub text : Bytes
  pub told : Tells files file (Some text)
  pub written : Option Bytes
  pub told_named : TellsNamed files named written
  pub called : HasFetched (Some file) named (Some text) [] calls calls'
  pub is : IsDrawing text named written drawing found

abbrev pub Draws : Bytes → Option Bytes → Option Folder → FileCalls → FileCalls → Drawing → Result Drawn Stop → Type 0
Draws file named files calls calls' drawing result = IfOk result (WasDrawn file named files calls calls' drawing)

-- the lines are those of the phrase of the text, with its names and with phrases in at most so many bytes
pub record TellsWhy (text : Bytes) (width : ℕ) (lines : Bytes) : Type 0 where
  pub p : Tree
  pub is_judged : IsJudged text (Ok p)
  pub names : List Bytes
  pub numbered : HasNames text names
  pub binders : List Binder
  pub named : HasBinders text (place_of p) binders
  pub lines_are : lines ≡ why_text width (source_names names binders) (why_of p)

-- the place of a phrase that has no type, if that is why the text is refused
abbrev pub untyped_at : Refusal → Option Place
untyped_at (refused.NoType place) = Some place
untyped_at refusal = None

-- what is told of a text: it is accepted, or a stage other than the type refuses it, or it has no type, as lines tell
abbrev pub ExplainsText : Bytes → ℕ → Telling → Type 0
ExplainsText text width telling.Accepted = IsAccepted text
ExplainsText text width (telling.Refused refusal) = IsRefusedFor text refusal × (tells_lines (why [] None) (note.Refused refusal) ≡ false)
ExplainsText text width (telling.Untyped place lines) = IsRefusedFor text (refused.NoType place) × IsToldWhy text width lines

abbrev pub Explains : Bytes → ℕ → Option Folder → Result Telling Stop → Type 0
Explains file width files result = IfOk result (λ found. (text : Bytes) × Tells files file (Some text) × ExplainsText text width found)

-- ---- images

-- bytes that were read as an image, or why they are none
abbrev pub ReadAs : Bytes → Result Image Note → Type 0
ReadAs bytes read = MatchResult read (λ image. IsImageBytes image bytes) (λ why. (error : ImageError) × (refusal_of bytes ≡ Some error) × (refusal_note error ≡ Some why))

abbrev pub ReadsImage : Bytes → Option Folder → Result (Result Image Note) Stop → Type 0
ReadsImage name files result = IfOk result (λ read. (bytes : Bytes) × Tells files name (Some bytes) × ReadAs bytes read)

-- bytes that were read as an image's ELF file, or why they are none
abbrev pub ReadAsElf : Bytes → Result Image Note → Type 0
ReadAsElf bytes read =
    MatchResult read (λ image. IsElfBytes image bytes × LoadsAsStart image bytes)
    (λ why. (error : ElfError) × (elf.refusal_of bytes ≡ Some error) × (elf_note error ≡ Some why))

abbrev pub ReadsElf : Bytes → Option Folder → Result (Result Image Note) Stop → Type 0
ReadsElf name files result = IfOk result (λ read. (bytes : Bytes) × Tells files name (Some bytes) × ReadAsElf bytes read)

-- the image of a program, with so many stack words
pub record IsImageFor (program : Program) (stack : ℕ) (image : Image) : Type 0 where
  pub runs : RunsAsCopyRule (reads program.phrase) image
  pub stack_is : image.stack_words ≡ stack
  pub table_is : HasTableWords (reads program.phrase) (plain_derivation program.derivation) (length image.table)
  pub selected : IsSelectedBy (reads program.phrase) program.table image
  pub guarded : IsGuarded image

-- the image of a program was kept under a name, or a part of that was done
pub record HasBuilt (program : Program) (stack : ℕ) (name : Bytes) (before now : Contents) (result : Result ℕ Stop) : Type 0 where
  pub image : Image
  pub is : IsImageFor program stack image
  pub keeps : Keeps image name before now result

abbrev pub Builds : Program → ℕ → Bytes → Contents → Contents → Result ℕ Stop → Type 0
Builds program stack name before now result = IsUnbegun before now result ⊎ HasBuilt program stack name before now result

-- the image of a program was kept under a name, and then it ran
pub record HasBuiltAndRun (program : Program) (stack limit : ℕ) (name : Bytes) (before now : Contents) (result : Result ℕ Stop) : Type 0 where
  pub image : Image
  pub is : IsImageFor program stack image
  pub runs : KeepsAndRuns image limit name before now result

abbrev pub BuildsAndRuns : Program → ℕ → ℕ → Bytes → Contents → Contents → Result ℕ Stop → Type 0
BuildsAndRuns program stack limit name before now result = IsUnbegun before now result ⊎ HasBuiltAndRun program stack limit name before now result

-- the image of a program was kept under a name, then it ran, and a summary was written
pub record HasBuiltAndSampled (program : Program) (stack limit : ℕ) (name : Bytes) (before now : Contents) (result : Result ℕ Stop) : Type 0 where
  pub image : Image
  pub is : IsImageFor program stack image
  pub samples : KeepsAndSamples image limit name before now result

abbrev pub BuildsAndSamples : Program → ℕ → ℕ → Bytes → Contents → Contents → Result ℕ Stop → Type 0
BuildsAndSamples program stack limit name before now result = IsUnbegun before now result ⊎ HasBuiltAndSampled program stack limit name before now result

-- the image of a program was listed, or a part of that was done
pub record HasListed (program : Program) (stack : ℕ) (before now : Contents) (result : Result ℕ Stop) : Type 0 where
  pub image : Image
  pub is : IsImageFor program stack image
  pub did : (code : Code) → IsProgramOf image code → Did (listed code) before now result

abbrev pub Lists : Program → ℕ → Contents → Contents → Result ℕ Stop → Type 0
Lists program stack before now result = IsUnbegun before now result ⊎ HasListed program stack before now result

-- ---- push-enter code

-- the code of a program ran so, with nodes that are evaluated in one step or with none
pub record HasTraced (program : Program) (straight : Bool) (limit : ℕ) (before now : Contents) (result : Result ℕ Stop) : Type 0 where
  pub code : PeCode
  pub right : IsCodeWanted straight (reads program.phrase) program.table code
  pub run : HasStepped code program.names limit before now result

-- ---- units

-- these are the bytes of the unit whose source the text is
pub record AreUnitBytes (text bytes : Bytes) : Type 0 where
  pub names : List Bytes
  pub value : UnitValue
  pub unit : IsUnitOfText text names value
  pub are : bytes ≡ unit_bytes text (derivation_text names (plain_derivation value.derivation))

-- the bytes of the unit whose source is in a file, or why there is none
abbrev pub Compiles : Bytes → Option Folder → Result (Result (Vec ℕ Global) Refusal) Stop → Type 0
Compiles file files result = IfOk result (λ found. (text : Bytes) × Tells files file (Some text) × MatchResult found (λ bytes. AreUnitBytes text bytes.items) (IsNoUnit text))

-- a line that is a text of a byte or more
pub record IsText (line : Bytes) : Type 0 where
  pub some : 1 ≤ length line
  pub text : IsUtf8 line

abbrev pub texts_of : Vec (Bor Bytes) Global → List Bytes
texts_of names = map (λ (name : Bor Bytes). name.now) names.items

-- the lines are these texts, or one of them is none
abbrev pub AreTexts : List Bytes → Option (Vec (Bor Bytes) Global) → Type 0
AreTexts lines found = MatchOption found (¬ All IsText lines) (λ names. All IsText lines × (texts_of names ≡ lines))

-- the bytes list units by these names, or none
abbrev pub IsList : Bytes → Option (Vec (Bor Bytes) Global) → Type 0
IsList bytes found = MatchOption found (ListsNone bytes) (λ names. ListsUnits bytes (texts_of names))

-- a file holds a unit, read behind other names, or it holds none
pub record ReadsObject (file : Bytes) (files : Option Folder) (before after : List Bytes) (found : Option UnitValue) : Type 0 where
  pub bytes : Bytes
  pub told : Tells files file (Some bytes)
  pub is : MatchOption found ((most_unit < length bytes) ⊎ IsBadUnit before bytes) (λ value. (length bytes ≤ most_unit) × IsUnitRead before bytes after value × IsUnit after value)

-- the files with these names hold units, or the one with that number is the first that holds none
pub record ReadsObjects (names : List Bytes) (files : Option Folder) (found : Result Objects ℕ) : Type 0 where
  pub units : List Listed
  pub named : names_of units ≡ names
  pub told : AreTold files units
  pub is : MatchResult found (λ objects. AreUnitsRead units objects.units objects.names × All (IsUnit objects.names) objects.units × (length objects.names ≤ 3000000000)) (IsBadObject units)

-- a file of these wasn't fetched, and those before it hold units
pub record HasUnfetched (units : List Listed) (before now : Counts) : Type 0 where
  pub read : List Listed
  pub unit : Listed
  pub behind : List Listed
  pub are : units ≡ read ++ unit ∷ behind
  pub values : List UnitValue
  pub names : List Bytes
  pub hold : AreUnitsRead read values names
  pub rose : Rose (before.fetches unit.name) (now.fetches unit.name)

-- `fetch` was called for none of these files, or at most once for each of those that hold units and one behind them
pub data HasReadTo (units : List Listed) (before now : FileCalls) : Type 0 where
  no_unit : HasCalled 0 0 before now → HasReadTo units before now
  up_to : (read : List Listed) (unit : Listed) (behind : List Listed) (values : List UnitValue) (names : List Bytes) → units ≡ read ++ unit ∷ behind → AreUnitsRead read values names
      → HasCalled (length read + 1) 0 before now → HasReadTo units before now

-- it was called at most once for each file that holds a unit, and for the one that holds none
abbrev pub CallsObjects : FileCalls → FileCalls → Result (Result Objects ℕ) Stop → Type 0
CallsObjects before now result = IfOk result (λ found. MatchResult found (λ objects. HasCalled (length objects.units) 0 before now) (λ j. HasCalled (j + 1) 0 before now))

-- reading the files with these names was stopped
pub record StopsObjects (names : List Bytes) (files : Option Folder) (before now : Counts) (calls calls' : FileCalls) (stop : Stop) : Type 0 where
  pub units : List Listed
  pub named : names_of units ≡ names
  pub told : AreTold files units
  pub called : HasReadTo units calls calls'
  pub fetched : stop ≡ Fetch → HasUnfetched units before now

-- units put together, or why they aren't linked
abbrev pub IsLinkedFrom : Objects → Result Together TurnedDown → Type 0
IsLinkedFrom objects found =
    MatchResult found (λ together. IsLinked objects.names objects.units together.linked)
    (λ down. (error : LinkError) × IsUnlinked objects.names objects.units error × (link_note error ≡ Some (down.status, down.note)))

-- the units on the list in a file put together, or why they aren't linked
pub record WasLinked (file : Bytes) (files : Option Folder) (calls calls' : FileCalls) (found : Result Together TurnedDown) : Type 0 where
  pub list : Bytes
  pub told : Tells files file (Some list)
  pub units : List Listed
  pub listed : AreListed (Some list) units
  pub units_told : AreTold files units
  pub called : HasFetched (Some file) None None units calls calls'
  pub is : MatchResult found (λ together. IsLinkedBy list units together.linked) (λ down. IsNotLinked list units down.status down.note)

abbrev pub LinksList : Bytes → Option Folder → FileCalls → FileCalls → Result (Result Together TurnedDown) Stop → Type 0
LinksList file files calls calls' result = IfOk result (WasLinked file files calls calls')

-- work on the units on the list in a file was stopped: a count of `fetch` of the list's name, or of one on it, rose, or memory was wanting
pub record WasUnlisted (file : Bytes) (files : Option Folder) (before now : Counts) (calls calls' : FileCalls) (stop : Stop) : Type 0 where
  pub list : Option Bytes
  pub told : Tells files file list
  pub units : List Listed
  pub listed : AreListed list units
  pub units_told : AreTold files units
  pub faulted : Faulted (names_of units ++ file ∷ []) [] stop before now
  pub other : IsReadStop stop
  pub called : HasFetched (Some file) None None units calls calls'
  pub fetched : stop ≡ Fetch → LastRose (Some file) None None units before now

abbrev pub CountsList : Bytes → Option Folder → Counts → Counts → FileCalls → FileCalls → Result (Result Together TurnedDown) Stop → Type 0
CountsList file files before now calls calls' result = MatchResult result (λ _. now ≡ before) (WasUnlisted file files before now calls calls')

abbrev pub IsSomeLinked : Linked → Type 0
IsSomeLinked linked = (names : List Bytes) × (values : List UnitValue) × IsLinked names values linked

-- the program of units put together, or which limit the shapes of its derivation pass
abbrev pub ShapesLinked : Together → Result Program Refusal → Type 0
ShapesLinked together found =
    MatchResult found (λ program. (program.phrase ≡ together.linked.phrase) × (program.derivation ≡ together.linked.derivation) × IsBuildable program)
    (λ why. (error : ShapeError) × IsShaping (Err error) (reads together.linked.phrase) (plain_derivation together.linked.derivation) × (shapes_refusal error ≡ Some why))
