-- Units: which text is one, the list that names them, how they are read one after another and linked, and why they aren't.
use Rattle.std.specs.Prelude.{◌≡◌, ◌≢◌, ℕ, ◌<◌, ◌≤◌, ◌⊎◌, List, [], ◌∷◌, ◌++◌, length, map, All, IsUtf8, Some, None, Err}
use Rattle.std.specs.declared.option.Option.{Option}
use Rattle.fy_base.specs.Outside.{Bytes}
use Rattle.fy_types.specs.Names.{first_names}
use Rattle.fy_expand.specs.Judged.{most_text}
use Rattle.fy_lexer.specs.Tokens.{HasAdded}
use Rattle.fy_phrase.specs.Reads.{reads}
use Rattle.fy_derive.specs.Reading.{plain_derivation}
use Rattle.fy_link.specs.Links.{IsLinked, IsUnlinked}
use Rattle.fy_link.specs.Read.{source_in}
use Rattle.fy_link.specs.UnitBytes.{IsUnitRead, IsBadUnit, IsReadBack}
use Rattle.fy_link.specs.Units.{IsUnit, IsUnitFault, KeepsTypeLimits}
use Rattle.fy_link.specs.declared.error.LinkError.{LinkError}
use Rattle.fy_link.specs.declared.error.LinkError.TheVariants as linking
use Rattle.fy_link.specs.declared.linking.Linked.{Linked}
use Rattle.fy_link.specs.declared.unit.Unit.{Unit as UnitValue}
use Rattle.pe_shapes.specs.Shaping.{IsShaping}
use Rattle.pe_shapes.specs.declared.error.ShapeError.{ShapeError}
use Rattle.fy_world.specs.Note.{ended_lines}
use Rattle.fy_world.specs.declared.note.Note.{Note}
use Rattle.fy_world.specs.declared.note.Note.TheVariants as note
use Rattle.fy_front.specs.declared.refusal.Refusal.{Refusal}
use Rattle.fy_front.specs.declared.refusal.Refusal.TheVariants as refusal
use Rattle.fy_world.specs.declared.unlinked.Unlinked.TheVariants as unlinked
use Rattle.fy_front.specs.Checked.{shapes_refusal}

-- ---- the unit of a text

-- why a text is the source of no unit
pub data IsNoUnit (text : Bytes) : Refusal → Type 0 where
  too_long : most_text < length text → IsNoUnit text refusal.Length
  not_compiled : (why : Refusal) → length text ≤ most_text → IsUnitFault first_names text why → IsNoUnit text why

-- the unit whose source the text is, with these names; the least types of its phrase keep their limits, and what is kept of it is read back
pub record IsUnitOfText (text : Bytes) (names : List Bytes) (value : UnitValue) : Type 0 where
  pub source : value.source ≡ text
  pub unit : IsUnit names value
  pub first : HasAdded first_names names
  pub within : KeepsTypeLimits (source_in value)
  pub read_back : IsReadBack first_names names value

-- ---- lists of units

-- the most bytes of a list, the most names on it, and the most bytes of the file of a unit
abbrev pub most_list : ℕ
most_list = 65536

abbrev pub most_units : ℕ
most_units = 64

abbrev pub most_unit : ℕ
most_unit = 20000000

-- a name: UTF-8 text of a byte or more, none of which is 10
pub record IsListable (name : Bytes) : Type 0 where
  pub some : 1 ≤ length name
  pub one_line : All (λ byte. byte ≢ 10) name
  pub text : IsUtf8 name

-- the bytes are a list of these names, a line for each
pub record ListsUnits (bytes : Bytes) (names : List Bytes) : Type 0 where
  pub short : length bytes ≤ most_list
  pub lines : bytes ≡ ended_lines names
  pub some : 1 ≤ length names
  pub few : length names ≤ most_units
  pub each : All IsListable names

abbrev pub ListsNone : Bytes → Type 0
ListsNone bytes = (names : List Bytes) → ¬ ListsUnits bytes names

-- ---- the units on a list

-- a file that a list names, and what it holds, if there is such
pub record Listed : Type 0 where
  pub name : Bytes
  pub content : Option Bytes

abbrev pub names_of : List Listed → List Bytes
names_of files = map (λ (file : Listed). file.name) files

-- the files hold these units, which are read one after another with one list of names: the predefined ones, and then those that each adds
pub data AreUnitsRead : List Listed → List UnitValue → List Bytes → Type 0 where
  none : AreUnitsRead [] [] first_names
  one_more : {files : List Listed} {values : List UnitValue} {names : List Bytes} (name bytes : Bytes) (value : UnitValue) (after : List Bytes) →
      AreUnitsRead files values names → length bytes ≤ most_unit → IsUnitRead names bytes after value →
      AreUnitsRead (files ++ record { name = name; content = Some bytes } ∷ []) (values ++ value ∷ []) after

-- file j holds too many bytes, or no unit's, and those before it hold units
pub record IsBadObject (files : List Listed) (j : ℕ) : Type 0 where
  pub before : List Listed
  pub name : Bytes
  pub bytes : Bytes
  pub behind : List Listed
  pub are : files ≡ before ++ record { name = name; content = Some bytes } ∷ behind
  pub number : length before ≡ j
  pub values : List UnitValue
  pub names : List Bytes
  pub read : AreUnitsRead before values names
  pub bad : (most_unit < length bytes) ⊎ IsBadUnit names bytes

-- the units in the files on a list
pub record HoldsUnits (list : Bytes) (files : List Listed) (names : List Bytes) (values : List UnitValue) : Type 0 where
  pub listed : ListsUnits list (names_of files)
  pub read : AreUnitsRead files values names

-- ---- linking

-- what the units in the files on a list are linked to: their joined text, its phrase, with names numbered from the units' on, and the composed derivation
pub record IsLinkedBy (list : Bytes) (files : List Listed) (linked : Linked) : Type 0 where
  pub names : List Bytes
  pub values : List UnitValue
  pub units : HoldsUnits list files names values
  pub is : IsLinked names values linked

-- the status and the note that each answer of linking is; none where memory was wanting
abbrev pub link_note : LinkError → Option (ℕ × Note)
link_note (linking.Double j) = Some (11, note.Link (unlinked.Double j))
link_note (linking.Missing j) = Some (11, note.Link (unlinked.Missing j))
link_note (linking.Interface j) = Some (11, note.Link (unlinked.Interface j))
link_note linking.NotMain = Some (11, note.Link unlinked.Main)
link_note (linking.Text why) = Some (2, note.Refused why)
link_note linking.TooLarge = Some (11, note.Link unlinked.Size)
link_note linking.OutOfMemory = None

-- with which status and note the units on a list aren't linked
pub data IsNotLinked (list : Bytes) (files : List Listed) : ℕ → Note → Type 0 where
  no_list : ListsNone list → IsNotLinked list files 11 (note.Link unlinked.List)
  no_object : (j : ℕ) → ListsUnits list (names_of files) → IsBadObject files j → IsNotLinked list files 11 (note.Link (unlinked.Object j))
  not_linked : (names : List Bytes) (values : List UnitValue) (error : LinkError) (status : ℕ) (why : Note) → HoldsUnits list files names values
      → IsUnlinked names values error → link_note error ≡ Some (status, why) → IsNotLinked list files status why

-- the demand shapes of the composed derivation pass a limit
pub record PassesShapes (list : Bytes) (files : List Listed) (why : Refusal) : Type 0 where
  pub linked : Linked
  pub is : IsLinkedBy list files linked
  pub error : ShapeError
  pub shaping : IsShaping (Err error) (reads linked.phrase) (plain_derivation linked.derivation)
  pub told : shapes_refusal error ≡ Some why
