-- What the operators do, in whatever code holds them.
use Rattle.std.specs.Prelude.{◌≡◌, ℕ, ◌+◌, ◌*◌, ◌^◌, ◌<◌, ◌≤◌, true, List, [], ◌++◌, length, slice_index, slice_index_or}
use Rattle.fy_base.specs.declared.data.Datum.{Datum}
use Rattle.fy_base.specs.declared.data.Datum.TheVariants as datum
use Rattle.fy_base.specs.declared.data.UnOp.{UnOp}
use Rattle.fy_base.specs.declared.data.BinOp.{BinOp}
use Rattle.fy_base.specs.declared.data.FaultKind.{FaultKind}
use Rattle.fy_base.specs.declared.arithmetic.Applied.{Applied}
use Rattle.fy_base.specs.declared.arithmetic.Applied.TheVariants.{Gives, Faults, NoSense}
use Rattle.fy_base.specs.Arithmetic.{is_int, unary_result, binary_result}
use Rattle.rv_word.specs.declared.micros.Micro.{Micro}
use Rattle.rv_word.specs.Word.{Data, Code, State, goes, block, word_address, word_run}
use Rattle.rv_word.specs.Costs.{spent}
use Rattle.rv_word.specs.Discipline.{Bounds, are_disciplined}
use Rattle.rv_flow.specs.Lowering.{blocks_items}
use Rattle.rv_flow.specs.Laws.{blocks_cost}
use Rattle.rv_operators.specs.Operators.{word_of, unary_label, binary_label, operator_count, operator_blocks, fault_number}

-- ---- code with the operators

-- its blocks from a label on are theirs, and the number of an entry is one of 64 bits
pub record HoldsOperators (code : Code) (first meet : ℕ) : Type 0 where
  pub blocks : (k : ℕ) → k < operator_count → block code (first + k) ≡ slice_index_or (operator_blocks first meet) k []
  pub entries : 8 * length code.entries ≤ 2 ^ 64

-- it does where they stand behind as many others as the label says
abbrev pub OperatorsAreHeld : Type 0
OperatorsAreHeld =
    (code : Code) (before others : List (List Micro)) (first meet : ℕ) → length before ≡ first → code.blocks ≡ before ++ (operator_blocks first meet ++ others)
    → 8 * length code.entries ≤ 2 ^ 64 → HoldsOperators code first meet

-- where a block begins
abbrev pub at_block : Code → ℕ → Data → State
at_block code label e = record { rest = block code label; held = e }

-- ---- what stands before an operator

-- an integer of 64 bits, or a character of eight
abbrev pub IsDatum : Datum → Type 0
IsDatum (datum.Int z) = is_int z ≡ true
IsDatum (datum.Bool b) = Unit {0}
IsDatum (datum.Char c) = c < 256

-- the newest context stands at word c, with so many words that are read: its entry and the address of the one outside come first. The datum is in focus
pub record IsMeeting (e : Data) (c size entry outside : ℕ) (v : Datum) : Type 0 where
  pub context : e.named.context ≡ word_address c
  pub inside : c + size ≤ length e.words
  pub few : length e.words ≤ 2 ^ 27
  pub entry_is : slice_index e.words c ≡ entry
  pub outside_is : slice_index e.words (c + 1) ≡ outside
  pub datum : e.named.datum ≡ word_of v
  pub fits : IsDatum v

-- its third word is that of the left operand, and the right one is in focus
pub record IsMeetingTwo (e : Data) (c entry outside : ℕ) (u v : Datum) : Type 0 where
  pub right : IsMeeting e c 3 entry outside v
  pub left : slice_index e.words (c + 2) ≡ word_of u
  pub left_fits : IsDatum u

-- ---- what they lead to

-- some steps, at a cost of at most 60 instructions, lead to a block with data of which P holds
pub record Leads (code : Code) (from to : ℕ) (before : Data) (P : Data → Type 0) : Type 0 where
  pub steps : ℕ
  pub some : 1 ≤ steps
  pub after : Data
  pub leads : word_run code steps (at_block code from before) ≡ goes (at_block code to after)
  pub cost : spent code steps (at_block code from before) ≤ 60
  pub holds : P after

-- the stack's words, the input and the output stay
pub record KeepsAll (before after : Data) : Type 0 where
  pub words : after.words ≡ before.words
  pub input : after.input ≡ before.input
  pub output : after.output ≡ before.output

-- the context at word c is left for the one outside, and a datum is in focus
pub record MakesDatum (c outside : ℕ) (w : Datum) (before after : Data) : Type 0 where
  pub datum : after.named.datum ≡ word_of w
  pub top : after.named.top ≡ word_address c
  pub context : after.named.context ≡ outside
  pub frame : after.named.frame ≡ before.named.frame
  pub keeps : KeepsAll before after

-- from a block: a datum is made, and the caller's block is next; at a fault the block of the entry that stands as far behind the context's as the fault's number says
abbrev pub ComesTo : (code : Code) (from meet c entry outside : ℕ) (number : FaultKind → ℕ) → Data → Applied → Type 0
ComesTo code from meet c entry outside number e (Gives w) = Leads code from meet e (MakesDatum c outside w e)
ComesTo code from meet c entry outside number e (Faults kind) =
    (j : ℕ) → entry ≡ 8 * j → j + number kind < length code.entries → Leads code from (slice_index code.entries (j + number kind)) e (KeepsAll e)
ComesTo code from meet c entry outside number e NoSense = Unit {0}

-- from the block of an operator the result of the definitions is come to; a unary operator has one kind of fault
abbrev pub UnaryOperatorsWork : Type 0
UnaryOperatorsWork =
    (code : Code) (first meet : ℕ) (op : UnOp) (e : Data) (c entry outside : ℕ) (v : Datum) → HoldsOperators code first meet → IsMeeting e c 2 entry outside v
    → ComesTo code (unary_label first op) meet c entry outside (λ kind. 1) e (unary_result op v)

abbrev pub BinaryOperatorsWork : Type 0
BinaryOperatorsWork =
    (code : Code) (first meet : ℕ) (op : BinOp) (e : Data) (c entry outside : ℕ) (u v : Datum) → HoldsOperators code first meet → IsMeetingTwo e c entry outside u v
    → ComesTo code (binary_label first op) meet c entry outside (fault_number op) e (binary_result op u v)

-- what operators make of data of 64 bits are such data
abbrev pub IsResult : Applied → Type 0
IsResult (Gives w) = IsDatum w
IsResult (Faults kind) = Unit {0}
IsResult NoSense = Unit {0}

abbrev pub UnaryResultsFit : Type 0
UnaryResultsFit = (op : UnOp) (v : Datum) → IsDatum v → IsResult (unary_result op v)

abbrev pub BinaryResultsFit : Type 0
BinaryResultsFit = (op : BinOp) (u v : Datum) → IsDatum u → IsDatum v → IsResult (binary_result op u v)

-- ---- the blocks as code

-- they are disciplined wherever all their labels and the caller's are those of blocks
abbrev pub OperatorsAreDisciplined : Type 0
OperatorsAreDisciplined = (b : Bounds) (first meet : ℕ) → first + operator_count ≤ b.blocks → meet < b.blocks → are_disciplined b (operator_blocks first meet) ≡ true

-- they are as many as is said, and have at most 320 words
pub record AreFew (blocks : List (List Micro)) : Type 0 where
  pub count : length blocks ≡ operator_count
  pub words : blocks_cost blocks ≤ 320

abbrev pub OperatorsAreFew : Type 0
OperatorsAreFew = (first meet : ℕ) → AreFew (operator_blocks first meet)

-- their items depend on no number of words of the table
abbrev pub OperatorsReadNoTable : Type 0
OperatorsReadNoTable =
    (entries table_words first meet : ℕ) → blocks_items entries table_words first (operator_blocks first meet) ≡ blocks_items entries 0 first (operator_blocks first meet)
