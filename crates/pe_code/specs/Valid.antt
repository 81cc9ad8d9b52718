-- Valid code.
use Rattle.std.specs.Prelude.{ℕ, ◌+◌, ◌*◌, ◌<◌, ◌≤◌, ◌≡◌, List, [], ◌∷◌, length, slice_get, All, Option, Some}
use Rattle.std.specs.Option.{ForSome}
use Rattle.pe_code.specs.declared.code.PeItem.{PeItem}
use Rattle.pe_code.specs.declared.code.Entry.{Entry}
use Rattle.pe_code.specs.declared.code.SequenceShapes.{SequenceShapes}
use Rattle.pe_code.specs.declared.code.PeCode.{PeCode}
use Rattle.pe_code.specs.declared.code.StraightPart.{StraightPart}
use Rattle.pe_code.specs.declared.code.StraightPart.TheVariants as part
use Rattle.pe_code.specs.declared.code.PeInsn.{PeInsn}
use Rattle.pe_code.specs.declared.code.PeInsn.TheVariants as insn
use Rattle.pe_code.specs.Code.{item_at, beside, body_of, variable_of, shape_of, node_of, picked_from, straight_of}
use Rattle.pe_code.specs.Straight.{height_after}

-- the address leads to an item of the depth
pub record LeadsTo (code : PeCode) (depth address : ℕ) : Type 0 where
  pub item : PeItem
  pub stands : item_at code address ≡ Some item
  pub depth_is : item.depth ≡ depth

-- a node of which thunks are made at the depth: it is listed, and each of its entries leads to an item of the depth
pub record IsThunkNode (code : PeCode) (depth node : ℕ) : Type 0 where
  pub place : ℕ
  pub listed : slice_get code.thunks place ≡ Some node
  pub led : All (λ e. e.node ≡ node → LeadsTo code depth e.address) code.entries

-- what a part of straight code names is there, at the depth
abbrev pub IsSoundPart : PeCode → ℕ → StraightPart → Type 0
IsSoundPart code depth (part.Literal v) = Unit {0}
IsSoundPart code depth (part.Cell k) = k < depth
IsSoundPart code depth (part.Unary op a) = LeadsTo code depth a
IsSoundPart code depth (part.Binary op a) = LeadsTo code depth a

-- straight code at the depth: it is short, and leaves one datum
pub record IsSoundStraight (code : PeCode) (depth : ℕ) (ss : List StraightPart) : Type 0 where
  pub short : length ss ≤ 16
  pub one : height_after ss 0 ≡ Some 1
  pub parts : All (λ s. IsSoundPart code depth s) ss

-- what an item names is there, at the depth that it asks for
pub record IsSoundItem (code : PeCode) (item : PeItem) : Type 0 where
  pub depth : item.depth ≤ 512
  pub beside_it : All (λ a. LeadsTo code item.depth a) (beside item.insn)
  pub body : ForSome (body_of item.insn) (λ a. LeadsTo code (item.depth + 1) a)
  pub variable : ForSome (variable_of item.insn) (λ k. k < item.depth)
  pub shape : ForSome (shape_of item.insn) (λ s. s < code.shapes)
  pub thunk : ForSome (node_of item.insn) (λ n. IsThunkNode code item.depth n)
  pub straight : ForSome (straight_of item.insn) (λ ss. IsSoundStraight code item.depth ss)

-- how many parts the items pick from, all together
abbrev pub all_picked_from : List PeItem → ℕ
all_picked_from [] = 0
all_picked_from (i ∷ is) = length (picked_from i.insn) + all_picked_from is

-- how many parts the straight code of the items has, all together
abbrev pub parts_run_by : PeInsn → ℕ
parts_run_by (insn.Eval ss) = length ss
parts_run_by (insn.Set k ss) = length ss
parts_run_by (insn.EvalFor ss u) = length ss
parts_run_by _ = 0

abbrev pub all_parts_run : List PeItem → ℕ
all_parts_run [] = 0
all_parts_run (i ∷ is) = parts_run_by i.insn + all_parts_run is

-- how many items run straight code or do nothing: those whose node is a part of straight code are never run
abbrev pub places_in : PeInsn → ℕ
places_in (insn.Eval ss) = 1
places_in (insn.Set k ss) = 1
places_in (insn.EvalFor ss u) = 1
places_in insn.Done = 1
places_in _ = 0

abbrev pub all_places_in : List PeItem → ℕ
all_places_in [] = 0
all_places_in (i ∷ is) = places_in i.insn + all_places_in is

-- an entry leads to an item, and its shape is among the shapes
pub record IsSoundEntry (code : PeCode) (entry : Entry) : Type 0 where
  pub address : entry.address < length code.items
  pub shape : entry.shape < code.shapes

-- no two entries have the same node and shape
abbrev pub AreOnce : List Entry → Type 0
AreOnce es =
    (i j : ℕ) (d e : Entry) → slice_get es i ≡ Some d → slice_get es j ≡ Some e → d.node ≡ e.node → d.shape ≡ e.shape → i ≡ j

-- the numbers of the shapes by which sequences of cells are entered, where they are among the shapes
abbrev pub asked_sequences : SequenceShapes → List (Option ℕ)
asked_sequences shapes = shapes.value ∷ shapes.element ∷ shapes.assigned_element ∷ shapes.row_length ∷ []

-- and of that by which a cell is assigned
abbrev pub asked_shapes : PeCode → List (Option ℕ)
asked_shapes code = code.assignment ∷ asked_sequences code.sequences

-- code that the machine and the selection take
pub record IsValid (code : PeCode) : Type 0 where
  pub some : 1 ≤ length code.items
  pub few : length code.items ≤ 65536
  pub program : LeadsTo code 0 0
  pub items : All (λ i. IsSoundItem code i) code.items
  pub parts : all_picked_from code.items ≤ length code.items
  pub straight : all_parts_run code.items ≤ all_places_in code.items
  pub entries : All (λ e. IsSoundEntry code e) code.entries
  pub once : AreOnce code.entries
  pub asked : All (λ o. ForSome o (λ s. s < code.shapes)) (asked_shapes code)
  pub words : code.shapes * (4 + length code.thunks) ≤ 1048576
