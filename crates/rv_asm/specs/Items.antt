-- Items of assembly: the labels that they mark and name, and what is asked of their operands.
use Rattle.std.specs.Prelude.{◌≡◌, ℕ, ◌<◌, ◌≤◌, List, [], ◌∷◌, length, take, slice_get, Contains, All, Some, None}
use Rattle.std.specs.declared.option.Option.{Option}
use Rattle.rv_insn.specs.Encoding.{IsEncodable}
use Rattle.rv_asm.specs.declared.items.Item.{Item}
use Rattle.rv_asm.specs.declared.items.Item.TheVariants.{Mark, Plain, BranchTo, JumpTo, FarTo, CallTo, AddressOf, Constant}

-- the labels that items mark, in order
abbrev pub marks_of : List Item → List ℕ
marks_of [] = []
marks_of (Mark label ∷ items) = label ∷ marks_of items
marks_of (_ ∷ items) = marks_of items

-- the label to which an item goes, or whose address it takes
abbrev pub named_by : Item → Option ℕ
named_by (BranchTo op rs1 rs2 label) = Some label
named_by (JumpTo label) = Some label
named_by (FarTo label) = Some label
named_by (CallTo rd label) = Some label
named_by (AddressOf rd label) = Some label
named_by _ = None

-- operands that an instruction can have
abbrev pub IsFit : Item → Type 0
IsFit (Plain insn) = IsEncodable insn
IsFit (BranchTo op rs1 rs2 label) = (rs1 < 32) × (rs2 < 32)
IsFit (CallTo rd label) = rd < 32
IsFit (AddressOf rd label) = rd < 32
IsFit (Constant rd value) = rd < 32
IsFit _ = Unit {0}

-- what is asked of the items of a program
pub record AreItems (items : List Item) : Type 0 where
  pub few : length items ≤ 4194304
  pub fit : All IsFit items

-- an item marks a label that one before it marks
pub record IsSecondMark (items : List Item) (k label : ℕ) : Type 0 where
  pub marks : slice_get items k ≡ Some (Mark label)
  pub before : Contains (marks_of (take k items)) label

-- an item names a label that none marks
pub record IsUnknownUse (items : List Item) (k label : ℕ) : Type 0 where
  pub item : Item
  pub there : slice_get items k ≡ Some item
  pub names : named_by item ≡ Some label
  pub unknown : ¬ Contains (marks_of items) label

-- no label is marked twice
abbrev pub AreDistinct : List Item → Type 0
AreDistinct items = (k label : ℕ) → ¬ IsSecondMark items k label

-- every label that is named is marked
abbrev pub AreKnown : List Item → Type 0
AreKnown items = (k label : ℕ) → ¬ IsUnknownUse items k label

-- the label of the first second mark, and of the first unknown use
pub record IsFirstDouble (items : List Item) (label : ℕ) : Type 0 where
  pub k : ℕ
  pub is : IsSecondMark items k label
  pub first : (j other : ℕ) → j < k → ¬ IsSecondMark items j other

pub record IsFirstUnknown (items : List Item) (label : ℕ) : Type 0 where
  pub k : ℕ
  pub is : IsUnknownUse items k label
  pub first : (j other : ℕ) → j < k → ¬ IsUnknownUse items j other
