-- Selected code does what the machine of items does, is disciplined and is short.
use Rattle.std.specs.Prelude.{◌≡◌, ◌≢◌, ◌⊎◌, ℕ, ◌+◌, ◌*◌, ◌^◌, ◌<◌, ◌≤◌, max, Bool, true, false, if◌then◌else◌, is_some, List, [], ◌∷◌, ◌++◌, length, All, Some, None}
use Rattle.std.specs.List.{list_all}
use Rattle.std.specs.Option.{ForSome}
use Rattle.std.specs.declared.option.Option.{Option}
use Rattle.fy_base.specs.Outside.{Bytes, IsPrefix}
use Rattle.fy_base.specs.declared.data.Datum.{Datum}
use Rattle.rv_insn.specs.declared.events.Event.TheVariants as event
use Rattle.rv_insn.specs.declared.instructions.Insn.{Insn}
use Rattle.rv_insn.specs.declared.instructions.Insn.TheVariants.{Branch, Jal, Jalr, Ecall}
use Rattle.pe_code.specs.declared.code.PeInsn.{PeInsn}
use Rattle.pe_code.specs.declared.code.PeInsn.TheVariants as insn
use Rattle.pe_code.specs.declared.code.PeItem.{PeItem}
use Rattle.pe_code.specs.declared.code.PeCode.{PeCode}
use Rattle.pe_code.specs.Code.{item_at, body_of, straight_of}
use Rattle.pe_code.specs.Valid.{IsValid}
use Rattle.pe_machine.specs.Run.{Standing, going, ended, faulted, stuck, gone}
use Rattle.pe_machine.specs.States.{Pointer, code_at}
use Rattle.pe_items.specs.Items.{address_on, FoundFrame, frame_from, ItemState}
use Rattle.pe_items.specs.Run.{ItemRun, items_after}
use Rattle.rv_asm.specs.declared.items.Item.{Item}
use Rattle.rv_asm.specs.declared.items.Item.TheVariants.{Plain}
use Rattle.rv_word.specs.declared.micros.Register.TheVariants.{Frame, First}
use Rattle.rv_word.specs.declared.micros.Micro.{Micro}
use Rattle.rv_word.specs.declared.micros.Micro.TheVariants.{Window}
use Rattle.rv_word.specs.Word.{set, Data, Code, State, Led, goes, hangs, stops, wrong, word_address, block, word_run}
use Rattle.rv_word.specs.Costs.{spent}
use Rattle.rv_word.specs.Discipline.{is_disciplined}
use Rattle.rv_word.specs.Laws.{output_of, at_entry}
use Rattle.rv_flow.specs.Laws.{start_data, blocks_words}
use Rattle.rv_flow.specs.Lowering.{micro_items}
use Rattle.rv_operators.specs.Laws.{IsDatum}
use Rattle.rv_straight.specs.Laws.{AreInRange}
use Rattle.rv_select.specs.Numbers.{label_of}
use Rattle.rv_select.specs.Program.{word_code}
use Rattle.rv_select.specs.Layout.{Stands}

-- ---- what is selected

-- the datum that an instruction answers, passes or binds
abbrev pub value_of : PeInsn → Option Datum
value_of (insn.Answer v) = Some v
value_of (insn.PassData v y) = Some v
value_of (insn.LetData v y) = Some v
value_of _ = None

-- valid code, whose data are in range, and whose nodes of thunks are few, as they are wherever there is a shape
pub record IsSelectable (code : PeCode) : Type 0 where
  pub valid : IsValid code
  pub thunks : length code.thunks ≤ 1048576
  pub values : All (λ i. ForSome (value_of i.insn) IsDatum) code.items
  pub straight : All (λ i. ForSome (straight_of i.insn) AreInRange) code.items

-- the depth of the frame that an item makes, and the greatest of them
abbrev pub frame_depth : PeItem → ℕ
frame_depth i = if is_some (body_of i.insn) then i.depth else 0

abbrev pub deepest : List PeItem → ℕ
deepest [] = 0
deepest (i ∷ is) = max (frame_depth i) (deepest is)

-- ---- runs, from the start with a stack of so many words

pub record IsOutside (stack_words : ℕ) (input : Bytes) : Type 0 where
  pub least : 1024 ≤ stack_words
  pub most : stack_words ≤ 2 ^ 27
  pub bytes : All (λ byte. byte < 256) input

abbrev pub start_of : PeCode → ℕ → Bytes → State
start_of code stack_words input = at_entry (word_code code) 0 (start_data stack_words input)

-- the same output and rest of input
pub record IsSameAs (r : ItemRun) (e : Data) : Type 0 where
  pub output : e.output ≡ r.output
  pub input : e.input ≡ r.input

-- the word machine goes on or has ended as the run has; where that is stuck, nothing is said
abbrev pub StandsAs : Standing → ItemRun → Led → Type 0
StandsAs going r led = (s : State) × (led ≡ goes s) × IsSameAs r s.held
StandsAs ended r led = (e : Data) × (led ≡ stops event.Ended e) × IsSameAs r e
StandsAs (faulted kind at) r led = (e : Data) × (led ≡ stops (event.Fault kind at) e) × IsSameAs r e
StandsAs stuck r led = Unit {0}
StandsAs gone r led = Unit {0}

-- some state within so many steps has, with the stack's foot, more words than the stack
pub record WordsPass (code : PeCode) (input : Bytes) (within stack_words : ℕ) : Type 0 where
  pub step : ℕ
  pub is_within : step ≤ within
  pub past : stack_words < address_on (items_after code input step).state.items

-- the stack didn't suffice
abbrev pub HasRunOut : PeCode → Bytes → ℕ → ℕ → Led → Type 0
HasRunOut code input within stack_words led = (e : Data) × (led ≡ stops event.Exhausted e) × WordsPass code input within stack_words

-- the word machine comes to where the run is after k steps, or to the end of its stack; two instructions are those of the far jump to its first block
pub record Reaches (code : PeCode) (stack_words : ℕ) (input : Bytes) (k : ℕ) : Type 0 where
  pub count : ℕ
  pub cost : 2 + spent (word_code code) count (start_of code stack_words input) ≤ 250 * (k + 1) * (deepest code.items + 4)
  pub is : StandsAs (items_after code input k).standing (items_after code input k) (word_run (word_code code) count (start_of code stack_words input))
      ⊎ HasRunOut code input k stack_words (word_run (word_code code) count (start_of code stack_words input))

abbrev pub RunsReach : Type 0
RunsReach =
    (code : PeCode) (stack_words : ℕ) (input : Bytes) (k : ℕ) → IsSelectable code → IsOutside stack_words input → (items_after code input k).standing ≢ stuck
    → Reaches code stack_words input k

-- an end of the word machine is the run's; it never goes wrong and never hangs
abbrev pub IsEndOf : PeCode → Bytes → ℕ → ℕ → Led → Type 0
IsEndOf code input n stack_words (goes s) = Unit {0}
IsEndOf code input n stack_words (hangs e) = ⊥
IsEndOf code input n stack_words (stops event.Ended e) = ((items_after code input n).standing ≡ ended) × IsSameAs (items_after code input n) e
IsEndOf code input n stack_words (stops (event.Fault kind at) e) = ((items_after code input n).standing ≡ faulted kind at) × IsSameAs (items_after code input n) e
IsEndOf code input n stack_words (stops event.Exhausted e) = WordsPass code input n stack_words
IsEndOf code input n stack_words (stops _ e) = ⊥
IsEndOf code input n stack_words wrong = ⊥

-- what the word machine has done in n steps, the run has done in n
pub record IsBehind (code : PeCode) (stack_words : ℕ) (input : Bytes) (n : ℕ) (led : Led) : Type 0 where
  pub output : IsPrefix (output_of led) (items_after code input n).output
  pub end : IsEndOf code input n stack_words led

abbrev pub RunsFollow : Type 0
RunsFollow =
    (code : PeCode) (stack_words : ℕ) (input : Bytes) (n : ℕ) → IsSelectable code → IsOutside stack_words input → (items_after code input n).standing ≢ stuck
    → IsBehind code stack_words input n (word_run (word_code code) n (start_of code stack_words input))

-- ---- the code itself

abbrev pub SelectionIsDisciplined : Type 0
SelectionIsDisciplined = (code : PeCode) → IsSelectable code → is_disciplined (word_code code) ≡ true

-- the words that its blocks and the far jumps to its entries take
abbrev pub code_words : Code → ℕ
code_words w = 2 * length w.entries + blocks_words w.blocks

pub record HasSizes (items : ℕ) (w : Code) : Type 0 where
  pub words : code_words w ≤ 60 * items + 4096
  pub table : length w.table ≤ 1048576
  pub table_fits : All (λ v. v < 2 ^ 64) w.table
  pub places : length w.places ≡ items

abbrev pub SelectionIsShort : Type 0
SelectionIsShort = (code : PeCode) → IsSelectable code → HasSizes (length code.items) (word_code code)

-- ---- how a binding is reached

-- an instruction that is no branch, no jump and no call of a service
abbrev pub is_straight : Insn → Bool
is_straight (Branch op rs1 rs2 offset) = false
is_straight (Jal rd offset) = false
is_straight (Jalr rd base imm) = false
is_straight Ecall = false
is_straight _ = true

-- an item that is such an instruction as it is
abbrev pub is_straight_item : Item → Bool
is_straight_item (Plain i) = is_straight i
is_straight_item _ = false

-- the check of the frame in use, or none
abbrev pub IsFrameCheck : List Micro → Type 0
IsFrameCheck [] = Unit {0}
IsFrameCheck (Window Frame k ∷ []) = Unit {0}
IsFrameCheck _ = ⊥

-- the data with the address of a frame in First
abbrev pub with_frame_in_first : FoundFrame → Data → Data
with_frame_in_first f e = record e { named = set e.named First (word_address f.address) }

-- in code w, the block of the item at address a begins, behind the check of the frame in use, with operations that are at most four straight
-- instructions; wherever the machine of items runs the item, after them First has the address of the frame that binds variable k, and nothing else has changed
pub record IsReached (code : PeCode) (w : Code) (a k : ℕ) : Type 0 where
  pub check : List Micro
  pub reaching : List Micro
  pub rest : List Micro
  pub begins : block w (label_of code a) ≡ check ++ (reaching ++ rest)
  pub is_check : IsFrameCheck check
  pub few : length (micro_items (length w.entries) (length w.table) reaching) ≤ 4
  pub straight : list_all is_straight_item (micro_items (length w.entries) (length w.table) reaching) ≡ true
  pub reached : (s : ItemState) (t : State) (p : Pointer) (f : FoundFrame)
      → Stands code w s t → s.focus ≡ code_at p → p.address ≡ a → frame_from s.items k p.frame ≡ Some f
      → word_run w (length check + length reaching) t ≡ goes (record { rest = rest; held = with_frame_in_first f t.held })

-- the binding of each variable that valid code enters is reached so
abbrev pub BindingsAreReached : Type 0
BindingsAreReached =
    (code : PeCode) (a k shape : ℕ) (i : PeItem) → IsValid code → item_at code a ≡ Some i → i.insn ≡ insn.UseVar k shape → IsReached code (word_code code) a k
