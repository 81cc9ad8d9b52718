-- The machine of an image: how it starts, and where it is after so many instructions.
use Rattle.std.specs.Prelude.{◌≡◌, ℕ, ◌+◌, ◌*◌, List, [], slice_set, replicate}
use Rattle.fy_base.specs.Outside.{Bytes}
use Rattle.fy_image.specs.Start.{start_memory}
use Rattle.fy_image.specs.declared.image.Image.{Image}
use Rattle.rv_insn.specs.Program.{Program, AreRead, table_start, stack_start}
use Rattle.rv_insn.specs.Step.{Core}
use Rattle.rv_insn.specs.Run.{World, run}
use Rattle.rv_insn.specs.declared.events.Event.TheVariants.{Going}
use Rattle.rv_insn.specs.declared.events.Status.TheVariants.{Running}

-- the program of an image: its words, its table and its places, and the instruction of each word. The words tell the
-- instructions, so an image has at most one program
pub record IsProgramOf (image : Image) (program : Program) : Type 0 where
  pub words_are : program.words ≡ image.code
  pub read : AreRead program.words program.instructions
  pub table_is : program.table ≡ image.table
  pub places_are : program.places ≡ image.places

-- x2 is where the stack begins, x3 just past it, x4 where the table begins; the others are 0
abbrev pub start_regs : ℕ → List ℕ
start_regs stack_words = slice_set (slice_set (slice_set (replicate 32 0) 2 stack_start) 3 (stack_start + 8 * stack_words)) 4 table_start

-- the start: the image's first instruction is next, and the stack is the image's
unfoldable pub start_of : Image → Core
start_of image =
    record { regs = start_regs image.stack_words; pc = (start_memory image).pc; stack = (start_memory image).stack.bytes; status = Running }

-- a machine that goes on, with this input and no output yet
abbrev pub going_world : Core → Bytes → World
going_world core input = record { core = core; input = input; output = []; ending = Going }

-- the machine of an image with its program, on an input, after so many instructions
abbrev pub machine_after : Program → Image → Bytes → ℕ → World
machine_after program image input n = run program n (going_world (start_of image) input)
