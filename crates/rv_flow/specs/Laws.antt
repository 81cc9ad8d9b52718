-- The image of code for the word machine follows the word machine, is guarded, and its items can be assembled.
use Rattle.std.specs.Prelude.{◌≡◌, ◌≢◌, ℕ, ◌+◌, ◌*◌, ◌^◌, ◌<◌, ◌≤◌, true, List, [], ◌∷◌, length, replicate, All}
use Rattle.fy_base.specs.Outside.{Bytes, IsPrefix}
use Rattle.fy_base.specs.declared.data.TrapKind.{TrapKind}
use Rattle.fy_image.specs.declared.image.Image.{Image}
use Rattle.fy_image.specs.Ranges.{IsImage}
use Rattle.fy_image.specs.Machine.{IsProgramOf, machine_after}
use Rattle.rv_insn.specs.declared.events.Event.TheVariants.{Going, Trap}
use Rattle.rv_insn.specs.Program.{Program}
use Rattle.rv_insn.specs.Run.{World}
use Rattle.rv_guard.specs.Guarded.{IsGuarded}
use Rattle.rv_asm.specs.declared.items.Assembled.{Assembled}
use Rattle.rv_asm.specs.Items.{AreItems, AreDistinct, AreKnown}
use Rattle.rv_asm.specs.Assembly.{IsAssembly}
use Rattle.rv_word.specs.declared.micros.Micro.{Micro}
use Rattle.rv_word.specs.Word.{Data, Code, State, Led, goes, hangs, stops, wrong, zeros, word_run}
use Rattle.rv_word.specs.Costs.{spent, block_cost, block_words}
use Rattle.rv_word.specs.Discipline.{is_disciplined}
use Rattle.rv_word.specs.Laws.{output_of, at_entry}
use Rattle.rv_flow.specs.Lowering.{items_of}

-- the image of disciplined code whose items are these words
pub record IsImageOf (code : Code) (image : Image) : Type 0 where
  pub disciplined : is_disciplined code ≡ true
  pub assembled : Assembled
  pub assembly : IsAssembly (items_of code) assembled
  pub words_are : image.code ≡ assembled.words
  pub table_is : image.table ≡ code.table
  pub places_are : image.places ≡ code.places
  pub ranges : IsImage image
  pub table_fits : All (λ w. w < 2 ^ 64) code.table

-- where the word machine starts in an image with so many words of stack, on an input of bytes
abbrev pub start_data : ℕ → Bytes → Data
start_data stack_words input = record { named = zeros; words = replicate stack_words 0; input = input; output = [] }

abbrev pub start_state : Code → Image → Bytes → State
start_state code image input = at_entry code 0 (start_data image.stack_words input)

-- the same output and rest of input
pub record IsSameOutside (world : World) (e : Data) : Type 0 where
  pub output : world.output ≡ e.output
  pub input : world.input ≡ e.input

-- after k instructions the machine is as the word machine: it goes on, or goes on for ever and changes nothing, or has ended in the same way
abbrev pub IsAsLed : (ℕ → World) → ℕ → Led → Type 0
IsAsLed after k (goes s) = ((after k).ending ≡ Going) × IsSameOutside (after k) s.held
IsAsLed after k (hangs e) = (j : ℕ) → ((after (k + j)).ending ≡ Going) × IsSameOutside (after (k + j)) e
IsAsLed after k (stops how e) = ((after k).ending ≡ how) × IsSameOutside (after k) e
IsAsLed after k wrong = ⊥

-- it comes there within so many instructions
pub record ComesToLed (after : ℕ → World) (most : ℕ) (r : Led) : Type 0 where
  pub count : ℕ
  pub below : count ≤ most
  pub is : IsAsLed after count r

-- the word machine has ended as the machine has
pub record HasEndedSo (world : World) (r : Led) : Type 0 where
  pub held : Data
  pub is : r ≡ stops world.ending held
  pub same : IsSameOutside world held

-- what the machine has done, the word machine has done
pub record IsBehindLed (world : World) (r : Led) : Type 0 where
  pub output : IsPrefix world.output (output_of r)
  pub ends : world.ending ≢ Going → HasEndedSo world r

-- n steps of the word machine are made within the instructions that they cost and the two of the first far jump
abbrev pub ImagesReach : Type 0
ImagesReach =
    (code : Code) (image : Image) (program : Program) (input : Bytes) (n : ℕ) → IsImageOf code image → IsProgramOf image program → All (λ byte. byte < 256) input
    → ComesToLed (machine_after program image input) (2 + spent code n (start_state code image input)) (word_run code n (start_state code image input))

-- after n instructions the machine has done no more than n steps of the word machine
abbrev pub ImagesFollow : Type 0
ImagesFollow =
    (code : Code) (image : Image) (program : Program) (input : Bytes) (n : ℕ) → IsImageOf code image → IsProgramOf image program → All (λ byte. byte < 256) input
    → IsBehindLed (machine_after program image input n) (word_run code n (start_state code image input))

-- it never traps
abbrev pub ImagesNeverTrap : Type 0
ImagesNeverTrap =
    (code : Code) (image : Image) (program : Program) (input : Bytes) (n : ℕ) (kind : TrapKind) → IsImageOf code image → IsProgramOf image program
    → (machine_after program image input n).ending ≢ Trap kind

-- and it is guarded
abbrev pub ImagesAreGuarded : Type 0
ImagesAreGuarded = (code : Code) (image : Image) → IsImageOf code image → IsGuarded image

-- code with a table and places whose numbers `lui` and `addi` can make
pub record HasSizes (code : Code) : Type 0 where
  pub table : length code.table ≤ 2 ^ 28
  pub places : length code.places ≤ 2 ^ 31

-- items of disciplined code are refused for no label
pub record CanBeAssembled (code : Code) : Type 0 where
  pub items : AreItems (items_of code)
  pub distinct : AreDistinct (items_of code)
  pub known : AreKnown (items_of code)

abbrev pub CodeCanBeAssembled : Type 0
CodeCanBeAssembled = (code : Code) → is_disciplined code ≡ true → HasSizes code → length (items_of code) ≤ 4194304 → CanBeAssembled code

-- the instructions of blocks, and their words, at most
abbrev pub blocks_cost : List (List Micro) → ℕ
blocks_cost [] = 0
blocks_cost (ms ∷ blocks) = block_cost ms + blocks_cost blocks

abbrev pub blocks_words : List (List Micro) → ℕ
blocks_words [] = 0
blocks_words (ms ∷ blocks) = block_words ms + blocks_words blocks

-- code has at most the words of its blocks, and two for each entry
abbrev pub CodeIsShort : Type 0
CodeIsShort = (code : Code) (assembled : Assembled) → IsAssembly (items_of code) assembled → length assembled.words ≤ 2 * length code.entries + blocks_words code.blocks
