-- What an item does, whatever words it becomes and however far its label is.
use Rattle.std.specs.Prelude.{◌≡◌, ◌≢◌, ◌⊎◌, ℕ, zero, suc, ◌≤◌, if◌then◌else◌, length}
use Rattle.std.specs.Int.{cast_unsigned, w64}
use Rattle.rv_insn.specs.declared.events.Event.TheVariants.{Going}
use Rattle.rv_insn.specs.Operations.{is_taken}
use Rattle.rv_insn.specs.Program.{Program}
use Rattle.rv_insn.specs.Step.{Core, reg, with_reg, execute, instruction_step}
use Rattle.rv_asm.specs.Forms.{constant_words}
use Rattle.rv_asm.specs.declared.items.Item.{Item}
use Rattle.rv_asm.specs.declared.items.Item.TheVariants.{Mark, Plain, BranchTo, JumpTo, FarTo, CallTo, AddressOf, Constant}

-- n steps lead on from one core to another
abbrev pub GoesOn : Program → ℕ → Core → Core → Type 0
GoesOn program zero before after = before ≡ after
GoesOn program (suc n) before after =
    ((instruction_step program before).event ≡ Going) × GoesOn program n (instruction_step program before).core after

-- `rd` has the value v, every other register but x31 what it had, and the pc is this
pub record IsWrittenAt (rd v pc : ℕ) (before after : Core) : Type 0 where
  pub pc_is : after.pc ≡ pc
  pub count : length after.regs ≡ length before.regs
  pub regs : (r : ℕ) → (r ≢ 31) ⊎ (r ≡ rd) → reg after r ≡ reg (with_reg rd v before) r
  pub stack : after.stack ≡ before.stack
  pub status : after.status ≡ before.status

-- at least one step and at most so many write v to `rd` and lead to the pc; x0 for `rd` stands for no register
pub record Writes (program : Program) (most rd v pc : ℕ) (before : Core) : Type 0 where
  pub count : ℕ
  pub least : 1 ≤ count
  pub below : count ≤ most
  pub after : Core
  pub goes : GoesOn program count before after
  pub written : IsWrittenAt rd v pc before after

-- what an item does from the core at its place, where `next` is the address behind it and `at` the address of each label
abbrev pub Does : Program → (ℕ → ℕ) → ℕ → Core → Item → Type 0
Does program at next core (Mark label) = core.pc ≡ next
Does program at next core (Plain insn) = instruction_step program core ≡ execute program insn core
Does program at next core (BranchTo op rs1 rs2 label) =
    Writes program 3 0 0 (if is_taken op (reg core rs1) (reg core rs2) then at label else next) core
Does program at next core (JumpTo label) = Writes program 2 0 0 (at label) core
Does program at next core (FarTo label) = Writes program 2 0 0 (at label) core
Does program at next core (CallTo rd label) = Writes program 2 rd next (at label) core
Does program at next core (AddressOf rd label) = Writes program 2 rd (at label) next core
Does program at next core (Constant rd value) = Writes program (constant_words value) rd (cast_unsigned w64 value) next core
