-- Which phrase and which derivation an order works with: the derivation that it names, or else one that the text has; and why it does nothing.
use Rattle.std.specs.Prelude.{◌≡◌, ℕ, ◌<◌, ◌≤◌, Bool, if◌then◌else◌, List, [], length, Some, None, Ok, Err}
use Rattle.std.specs.declared.option.Option.{Option}
use Rattle.fy_base.specs.Outside.{Bytes}
use Rattle.fy_base.specs.declared.data.Place.{Place}
use Rattle.fy_lexer.specs.declared.token.Token.{Token}
use Rattle.fy_syntax.specs.Trees as surface
use Rattle.fy_phrase.specs.Tree.{Tree, place_of}
use Rattle.fy_expand.specs.Judged.{HasTokens, IsAllowed, IsJudged}
use Rattle.fy_expand.specs.Judged as judged
use Rattle.fy_derive.specs.Derivations.{PlainDerivation}
use Rattle.fy_derive.specs.Judging.{conclusion_of, refusal as refusal_of}
use Rattle.fy_derive.specs.Limits.{KeepsLimits}
use Rattle.fy_reasons.specs.Reasons.{reason_of}
use Rattle.fy_show.specs.Binders.{program_binders}
use Rattle.fy_show.specs.declared.binders.Binder.{Binder}
use Rattle.fy_told.specs.ReasonTexts.{source_names, told_of}
use Rattle.fy_causes.specs.Hollow.{Told, why_of}
use Rattle.fy_why.specs.Texts.{why_text}
use Rattle.fy_tree.specs.declared.style.Form.{Form}
use Rattle.fy_tree.specs.declared.style.Form.TheVariants.{Plain, Latex}
use Rattle.fy_tree.specs.Whole.{tree_text}
use Rattle.fy_least.specs.Pairs.{HasAllPairs}
use Rattle.fy_read.specs.FieldNames.{NumbersFields}
use Rattle.fy_read.specs.Refusals.{IsReadFault, KeepsThroughout}
use Rattle.fy_read.specs.declared.error.ReadError.{ReadError}
use Rattle.pe_shapes.specs.Shaping.{IsShaping}
use Rattle.pe_shapes.specs.declared.error.ShapeError.{ShapeError}
use Rattle.fy_world.specs.Note.{read_note}
use Rattle.fy_world.specs.declared.note.Note.{Note}
use Rattle.fy_world.specs.declared.note.Note.TheVariants as note
use Rattle.fy_front.specs.declared.refusal.Refusal.{Refusal}
use Rattle.fy_front.specs.Checked.{IsInUse, IsProgramText, IsRefusedFor, HasNames, told_as, shapes_refusal}

-- the most bytes of the text of a derivation
abbrev pub most_written : ℕ
most_written = 16777216

-- what is written spells the derivation, which keeps its limits, as the text throughout does those on texts, with its fields numbered by the names of the text
pub record Spells (text written : Bytes) (d : PlainDerivation) : Type 0 where
  pub short : length written ≤ most_written
  pub names : List Bytes
  pub named : HasNames text names
  pub after : List Bytes
  pub numbers : NumbersFields names after d written
  pub limits : KeepsLimits d
  pub keeps : KeepsThroughout written

-- what is written is refused as a derivation for the phrase: it is too long, it can't be read as one, or judging stops at a node
pub data IsDerivationRefused (text : Bytes) (p : Tree) (written : Bytes) : Note → Type 0 where
  too_long : most_written < length written → IsDerivationRefused text p written note.DerivationLength
  unread : (error : ReadError) (why : Note) → length written ≤ most_written → IsReadFault written error → read_note error ≡ Some why → IsDerivationRefused text p written why
  wrong : (d : PlainDerivation) (node : ℕ) → Spells text written d → refusal_of (conclusion_of p d) ≡ Some node → IsDerivationRefused text p written (note.DerivationNode node)

-- the text has the phrase, and the derivation is the one that is named, or else any with each demand shape that some derivation has, where the phrase is a command within the limits on types
pub data IsGiven (text : Bytes) (p : Tree) (d : PlainDerivation) : Option Bytes → Option Bytes → Type 0 where
  found : (written : Option Bytes) → IsProgramText text p → HasAllPairs [] p d → IsGiven text p d None written
  handed : (name written : Bytes) → IsJudged text (Ok p) → Spells text written d → IsGiven text p d (Some name) (Some written)

-- with which status and note an order on the text does nothing: the text is refused, or the derivation that is named is, or the shapes of that derivation are.
-- Where a derivation is named, typing refuses no text
pub data IsTurnedDown (text : Bytes) : Option Bytes → Option Bytes → ℕ → Note → Type 0 where
  by_text : (written : Option Bytes) (why : Refusal) → IsRefusedFor text why → IsTurnedDown text None written 2 (note.Refused why)
  before_typing : (name : Bytes) (written : Option Bytes) (cause : judged.Refusal) (why : Refusal) → IsJudged text (Err cause) → told_as cause ≡ Some why
      → IsTurnedDown text (Some name) written 2 (note.Refused why)
  by_derivation : (name written : Bytes) (p : Tree) (why : Note) → IsJudged text (Ok p) → IsDerivationRefused text p written why → IsTurnedDown text (Some name) (Some written) 8 why
  by_shapes : (name written : Bytes) (p : Tree) (d : PlainDerivation) (error : ShapeError) (why : Refusal) → IsJudged text (Ok p) → Spells text written d
      → refusal_of (conclusion_of p d) ≡ None → IsShaping (Err error) p d → shapes_refusal error ≡ Some why → IsTurnedDown text (Some name) (Some written) 2 (note.Refused why)

-- the names that a text gives its binders, by the tree that its tokens spell, where the phrase stands at that place
pub record HasBinders (text : Bytes) (at : Place) (binders : List Binder) : Type 0 where
  pub tokens : List Token
  pub has : HasTokens text tokens
  pub tree : surface.Tree
  pub allowed : IsAllowed tokens tree
  pub are : binders ≡ program_binders at tree

-- judging of the derivation that is written stops at that node for the phrase of the text, and the lines tell why with the names of the text
pub record IsStoppedAt (text written : Bytes) (node : ℕ) (lines : Bytes) : Type 0 where
  pub p : Tree
  pub is_judged : IsJudged text (Ok p)
  pub d : PlainDerivation
  pub spelled : Spells text written d
  pub stops : refusal_of (conclusion_of p d) ≡ Some node
  pub binders : List Binder
  pub named : HasBinders text (place_of p) binders
  pub lines_are : lines ≡ told_of (source_names spelled.after binders) d p (reason_of d p)

-- the lines tell why the text has no type, with its names and with phrases in at most so many bytes
pub record IsToldWhy (text : Bytes) (width : ℕ) (lines : Bytes) : Type 0 where
  pub p : Tree
  pub is_judged : IsJudged text (Ok p)
  pub why : Told
  pub is_why : why_of p ≡ Some why
  pub names : List Bytes
  pub numbered : HasNames text names
  pub binders : List Binder
  pub named : HasBinders text (place_of p) binders
  pub lines_are : lines ≡ why_text width (source_names names binders) (Some why)

-- the names that number the fields of a derivation that is given for a text
pub data HasGivenNames (text : Bytes) (d : PlainDerivation) : Option Bytes → Option Bytes → List Bytes → Type 0 where
  of_text : (written : Option Bytes) (names : List Bytes) → HasNames text names → HasGivenNames text d None written names
  of_both : (name written : Bytes) (spelled : Spells text written d) → HasGivenNames text d (Some name) (Some written) spelled.after

abbrev pub form_of : Bool → Form
form_of latex = if latex then Latex else Plain

-- the lines show a derivation in use of the text as a tree: in a form, with lines of so many bytes, below a node, and down to so many levels
pub record IsDrawn (text : Bytes) (named written : Option Bytes) (form : Form) (width : ℕ) (node : Option ℕ) (levels : ℕ) (lines : Bytes) : Type 0 where
  pub p : Tree
  pub d : PlainDerivation
  pub given : IsGiven text p d named written
  pub used : IsInUse p d
  pub names : List Bytes
  pub numbered : HasGivenNames text d named written names
  pub binders : List Binder
  pub has : HasBinders text (place_of p) binders
  pub lines_are : lines ≡ tree_text (record { known = source_names names binders; form = form; width = width }) node levels d p
