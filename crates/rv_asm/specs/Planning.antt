-- A plan: for each item, whether it is near and the number of its label among the marked ones; and where the labels stand then.
use Rattle.std.specs.Prelude.{◌≡◌, ℕ, ◌+◌, ◌^◌, ◌<◌, true, false, nat_eq, List, [], ◌∷◌, ◌++◌, length, map, position, slice_get, slice_index, All, Some, None}
use Rattle.std.specs.Int.{cast_unsigned, w64}
use Rattle.std.specs.List.{AllZip}
use Rattle.rv_insn.specs.declared.instructions.Insn.{Insn}
use Rattle.rv_insn.specs.Encoding.{IsWordOf}
use Rattle.rv_asm.specs.declared.items.Item.{Item}
use Rattle.rv_asm.specs.declared.items.Item.TheVariants.{Mark, Constant}
use Rattle.rv_asm.specs.declared.items.LabelAt.{LabelAt}
use Rattle.rv_asm.specs.declared.error.AsmError.{AsmError}
use Rattle.rv_asm.specs.declared.error.AsmError.TheVariants.{UnknownLabel, DoubleLabel, OutOfMemory}
use Rattle.rv_asm.specs.declared.planning.Choice.{Choice}
use Rattle.rv_asm.specs.declared.planning.Plan.{Plan}
use Rattle.rv_asm.specs.Items.{marks_of, named_by}
use Rattle.rv_asm.specs.Choosing.{form_of, size_of, is_reached}

-- the words of the labels that one item marks
abbrev pub place_of : ℕ → Item → List ℕ
place_of word (Mark label) = word ∷ []
place_of word _ = []

-- the words of the marked labels, where the items stand from a word on
abbrev pub places_of : ℕ → List Item → List Choice → List ℕ
places_of word [] choices = []
places_of word (item ∷ items) [] = []
places_of word (item ∷ items) (choice ∷ choices) = place_of word item ++ places_of (word + size_of choice.near item) items choices

-- the form of each item, where the marked labels have these places
abbrev pub forms_of : List ℕ → ℕ → List Item → List Choice → List (List Insn)
forms_of places word [] choices = []
forms_of places word (item ∷ items) [] = []
forms_of places word (item ∷ items) (choice ∷ choices) =
    form_of choice.near word (slice_index places choice.target) item ∷ forms_of places (word + size_of choice.near item) items choices

-- each near item reaches its label
abbrev pub AllReach : List ℕ → ℕ → List Item → List Choice → Type 0
AllReach places word [] choices = Unit {0}
AllReach places word (item ∷ items) [] = Unit {0}
AllReach places word (item ∷ items) (choice ∷ choices) =
    (is_reached choice.near item word (slice_index places choice.target) ≡ true) × AllReach places (word + size_of choice.near item) items choices

-- no item is near
abbrev pub AreFar : List Choice → Type 0
AreFar choices = All (λ choice. choice.near ≡ false) choices

-- the labels that choices aim at
abbrev pub targets_of : List Choice → List ℕ
targets_of choices = map (λ choice. choice.target) choices

-- the target of an item that names a label is the number of this label among the marked ones
abbrev pub IsTargetOf : List ℕ → Item → ℕ → Type 0
IsTargetOf labels item target = (label : ℕ) → named_by item ≡ Some label → position (nat_eq label) labels ≡ Some target

-- the error tells a label that the item names and that isn't among them
abbrev pub IsUnknownIn : List ℕ → Item → AsmError → Type 0
IsUnknownIn labels item (UnknownLabel label) = (named_by item ≡ Some label) × (position (nat_eq label) labels ≡ None)
IsUnknownIn labels item (DoubleLabel label) = ⊥
IsUnknownIn labels item OutOfMemory = ⊥

-- there is a target for each item, and it is its label's
pub record AreAimed (items : List Item) (targets : List ℕ) : Type 0 where
  pub same_length : length targets ≡ length items
  pub each : (k : ℕ) (item : Item) → slice_get items k ≡ Some item → IsTargetOf (marks_of items) item (slice_index targets k)

-- choices with the places of the labels under them
pub record IsPlan (items : List Item) (plan : Plan) : Type 0 where
  pub aimed : AreAimed items (targets_of plan.choices.items)
  pub places_are : plan.places.items ≡ places_of 0 items plan.choices.items
  pub reach : AllReach plan.places.items 0 items plan.choices.items

-- labels with their places
abbrev pub labelled : List ℕ → List ℕ → List LabelAt
labelled [] places = []
labelled (label ∷ labels) [] = []
labelled (label ∷ labels) (place ∷ places) = (record { label = label; word = place }) ∷ labelled labels places

-- the value of a constant has 64 bits
abbrev pub IsSmall : Item → Type 0
IsSmall (Constant rd value) = cast_unsigned w64 value < 2 ^ 64
IsSmall _ = Unit {0}

-- words are added that are the instructions'
pub record Appends (insns : List Insn) (old new : List ℕ) : Type 0 where
  pub words : List ℕ
  pub are : AllZip IsWordOf insns words
  pub is : new ≡ old ++ words
