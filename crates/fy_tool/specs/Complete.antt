-- Completeness: what is within the limits is taken, and a run whose bounds fit comes to its end.
use Rattle.std.specs.Prelude.{◌≡◌, ℕ, ◌≤◌, Some, None, Ok}
use Rattle.std.specs.declared.option.Option.{Option}
use Rattle.fy_base.specs.Outside.{Bytes}
use Rattle.fy_phrase.specs.Tree.{Tree}
use Rattle.fy_phrase.specs.Copy.{copy_after, peak_load}
use Rattle.fy_phrase.specs.Bounds.{instruction_bound}
use Rattle.fy_expand.specs.Judged.{IsJudged}
use Rattle.fy_derive.specs.Derivations.{PlainDerivation}
use Rattle.fy_derive.specs.Shapes.{table_words}
use Rattle.fy_image.specs.Form.{IsImageBytes}
use Rattle.fy_image.specs.Refusals.{refusal_of}
use Rattle.fy_image.specs.declared.error.ImageError.{ImageError}
use Rattle.fy_image.specs.declared.image.Image.{Image}
use Rattle.fy_image.specs.Machine.{machine_after}
use Rattle.pe_shapes.specs.Counts.{HasAtMost, IsCount}
use Rattle.pe_shapes.specs.Shaping.{most_shapes, most_pairs, most_words}
use Rattle.fy_build.specs.Headline.{AreBytes, IsOverStanding, IsSameOver}
use Rattle.fy_build.specs.Shown.{RunEnd}
use Rattle.fy_words.specs.Order.{steps_wanted}
use Rattle.fy_world.specs.declared.note.Note.{Note}
use Rattle.fy_front.specs.declared.refusal.Refusal.{Refusal}
use Rattle.fy_front.specs.Checked.{IsProgramText, IsInUse, IsAccepted, IsRefusedFor, IsLeastShape, IsLeastPair}
use Rattle.fy_tool.specs.Given.{Spells, IsTurnedDown}
use Rattle.fy_tool.specs.Due.{RunsBuilt}

-- the shapes of a phrase's least types keep their limits
pub record LeastShapesFit (p : Tree) : Type 0 where
  pub shapes : HasAtMost most_shapes (IsLeastShape p)
  pub pairs : HasAtMost most_pairs (IsLeastPair p)
  pub count : ℕ
  pub counted : IsCount (IsLeastShape p) count
  pub words : table_words p count ≤ most_words

-- a text whose phrase is a command within the limits isn't turned down where no derivation is named
abbrev pub AcceptedWhereLimitsHold : Type 0
AcceptedWhereLimitsHold = (text : Bytes) (p : Tree) → IsProgramText text p → LeastShapesFit p
    → (written : Option Bytes) (status : ℕ) (why : Note) → ¬ IsTurnedDown text None written status why

-- a text that a command accepts is refused by none, where no derivation is named
abbrev pub AcceptedTextIsNeverRefused : Type 0
AcceptedTextIsNeverRefused = (text : Bytes) → IsAccepted text → (why : Refusal) → ¬ IsRefusedFor text why

-- all commands refuse a text in one way, where no derivation is named
abbrev pub TextIsRefusedOneWay : Type 0
TextIsRefusedOneWay = (text : Bytes) (why other : Refusal) → IsRefusedFor text why → IsRefusedFor text other → why ≡ other

-- a text whose named derivation keeps the limits and is accepted for its phrase isn't turned down
abbrev pub NamedDerivationIsAccepted : Type 0
NamedDerivationIsAccepted = (text name written : Bytes) (p : Tree) (d : PlainDerivation) → IsJudged text (Ok p) → Spells text written d → IsInUse p d
    → (status : ℕ) (why : Note) → ¬ IsTurnedDown text (Some name) (Some written) status why

-- a run of an image whose copy rule is over within the stack, and whose instructions suffice, is over in the same way
abbrev pub RunCompletes : Type 0
RunCompletes = (text : Bytes) (named derivation : Option Bytes) (stack steps : Option ℕ) (input : Bytes) (image : Image) (bytes : Bytes) (n : ℕ) (end : RunEnd)
    (run : RunsBuilt text named derivation stack steps input image bytes n end) (m : ℕ) → AreBytes input
    → IsOverStanding (copy_after run.built.phrase input m).standing → peak_load run.built.phrase input m ≤ image.stack_words
    → instruction_bound run.built.phrase m ≤ steps_wanted steps
    → IsSameOver (machine_after run.built.is.runs.program image input n) (copy_after run.built.phrase input m)

-- the bytes of an image aren't refused
abbrev pub ImageIsRun : Type 0
ImageIsRun = (image : Image) (bytes : Bytes) (error : ImageError) → IsImageBytes image bytes → ¬ (refusal_of bytes ≡ Some error)
