-- Assembled words: the forms of the items in order, the labels where they stand, and that each item's words do what it says.
use Rattle.std.specs.Prelude.{◌≡◌, ℕ, ◌+◌, ◌*◌, nat_eq, if◌then◌else◌, List, [], ◌∷◌, length, map, take, flat_map, slice_get, Some, None}
use Rattle.std.specs.declared.option.Option.{Option}
use Rattle.rv_insn.specs.declared.instructions.Insn.{Insn}
use Rattle.rv_insn.specs.Program.{Program, AreRead, code_start}
use Rattle.rv_insn.specs.Step.{Core, reg}
use Rattle.rv_asm.specs.declared.items.Item.{Item}
use Rattle.rv_asm.specs.declared.items.Item.TheVariants.{Mark}
use Rattle.rv_asm.specs.declared.items.LabelAt.{LabelAt}
use Rattle.rv_asm.specs.declared.items.Assembled.{Assembled}
use Rattle.rv_asm.specs.declared.error.AsmError.{AsmError}
use Rattle.rv_asm.specs.declared.error.AsmError.TheVariants.{UnknownLabel, DoubleLabel, OutOfMemory}
use Rattle.rv_asm.specs.Items.{named_by, AreDistinct, AreKnown, IsFirstDouble, IsFirstUnknown}
use Rattle.rv_asm.specs.Meaning.{Does}
use Rattle.rv_asm.specs.Forms.{IsFormOf}

-- the instructions of forms, one behind the other
abbrev pub joined : List (List Insn) → List Insn
joined forms = flat_map (λ form. form) forms

-- the number of the word before which the item with the number k stands
abbrev pub word_of : List (List Insn) → ℕ → ℕ
word_of forms k = length (joined (take k forms))

-- the address of a word of the code
abbrev pub address_of : ℕ → ℕ
address_of word = code_start + 4 * word

-- the labels of items that become these forms, in order, from a word on
abbrev pub labels_of : ℕ → List Item → List (List Insn) → List LabelAt
labels_of word [] forms = []
labels_of word (item ∷ items) [] = []
labels_of word (Mark label ∷ items) (form ∷ forms) = (record { label = label; word = word }) ∷ labels_of (word + length form) items forms
labels_of word (_ ∷ items) (form ∷ forms) = labels_of (word + length form) items forms

-- the address of a label: where it is marked first
abbrev pub label_address : List LabelAt → ℕ → ℕ
label_address [] label = code_start
label_address (l ∷ labels) label = if nat_eq l.label label then address_of l.word else label_address labels label

-- the address of the label that an item names
abbrev pub target_in : List LabelAt → Option ℕ → ℕ
target_in labels None = code_start
target_in labels (Some label) = label_address labels label

-- the words' instructions are these
abbrev pub AreWordsOf : List Insn → List ℕ → Type 0
AreWordsOf insns words = AreRead words (map (λ insn. Some insn) insns)

-- a machine at an address of a program that has these words
pub record StandsAt (words : List ℕ) (address : ℕ) (program : Program) (core : Core) : Type 0 where
  pub words_are : program.words ≡ words
  pub read : AreRead program.words program.instructions
  pub pc_is : core.pc ≡ address
  pub count : length core.regs ≡ 32
  pub zero_is : reg core 0 ≡ 0

-- the words of the items, and the labels
pub record IsAssembly (items : List Item) (assembled : Assembled) : Type 0 where
  pub distinct : AreDistinct items
  pub known : AreKnown items
  -- the instructions of each item
  pub forms : List (List Insn)
  pub count : length forms ≡ length items
  pub words_are : AreWordsOf (joined forms) assembled.words
  pub labels_are : assembled.labels ≡ labels_of 0 items forms
  pub each : (k : ℕ) (item : Item) (form : List Insn) → slice_get items k ≡ Some item → slice_get forms k ≡ Some form
      → IsFormOf item (address_of (word_of forms k)) (target_in assembled.labels (named_by item)) form
  pub does : (k : ℕ) (item : Item) (program : Program) (core : Core) → slice_get items k ≡ Some item → StandsAt assembled.words (address_of (word_of forms k)) program core
      → Does program (label_address assembled.labels) (address_of (word_of forms (k + 1))) core item

-- why items aren't assembled: the first second mark of a label, else the first use of one that isn't marked
abbrev pub IsRefusal : List Item → AsmError → Type 0
IsRefusal items (DoubleLabel label) = IsFirstDouble items label
IsRefusal items (UnknownLabel label) = AreDistinct items × IsFirstUnknown items label
IsRefusal items OutOfMemory = Unit {0}
