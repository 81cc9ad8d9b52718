-- The instructions that an item may become: near or far forms of what it does, and those of a constant.
use Rattle.std.specs.Prelude.{◌≡◌, ◌⊎◌, ℕ, ◌+◌, ◌-◌, ◌%◌, ◌^◌, ◌≤◌, ℤ, pos, negsuc, Bool, nat_lt, if◌then◌else◌, List, [], ◌∷◌, length, All}
use Rattle.rv_insn.specs.declared.instructions.BranchOp.{BranchOp}
use Rattle.rv_insn.specs.declared.instructions.BranchOp.TheVariants.{Beq, Bne, Blt, Bge, Bltu, Bgeu}
use Rattle.rv_insn.specs.declared.instructions.ImmOp.TheVariants.{Addi, Addiw}
use Rattle.rv_insn.specs.declared.instructions.ShiftOp.TheVariants.{Slli}
use Rattle.rv_insn.specs.declared.instructions.Insn.{Insn}
use Rattle.rv_insn.specs.declared.instructions.Insn.TheVariants.{Imm, Shift, Branch, Lui, Auipc, Jal, Jalr}
use Rattle.rv_insn.specs.Operations.{upper_value}
use Rattle.rv_insn.specs.Step.{displaced}
use Rattle.rv_asm.specs.declared.items.Item.{Item}
use Rattle.rv_asm.specs.declared.items.Item.TheVariants.{Mark, Plain, BranchTo, JumpTo, FarTo, CallTo, AddressOf, Constant}

-- the comparison that holds where the other doesn't
abbrev pub opposite : BranchOp → BranchOp
opposite Beq = Bne
opposite Bne = Beq
opposite Blt = Bge
opposite Bge = Blt
opposite Bltu = Bgeu
opposite Bgeu = Bltu

-- 4096 times `high` with sign from 20 bits, plus `low`, lead from an address to another
abbrev pub leads_far : ℕ → ℕ → ℤ → ℕ
leads_far here high low = displaced ((here + upper_value high) % 2 ^ 64) low

-- the far form of a jump: two instructions that go to `to` through x31
pub record IsFar (rd here to : ℕ) (form : List Insn) : Type 0 where
  pub high : ℕ
  pub low : ℤ
  pub is : form ≡ Auipc 31 high ∷ Jalr rd 31 low ∷ []
  pub leads : leads_far here high low ≡ to

-- the near form of a jump
pub record IsNearJump (rd here to : ℕ) (form : List Insn) : Type 0 where
  pub offset : ℤ
  pub is : form ≡ Jal rd offset ∷ []
  pub leads : displaced here offset ≡ to

-- the near form of a branch
pub record IsNearBranch (op : BranchOp) (rs1 rs2 here to : ℕ) (form : List Insn) : Type 0 where
  pub offset : ℤ
  pub is : form ≡ Branch op rs1 rs2 offset ∷ []
  pub leads : displaced here offset ≡ to

-- its far form: the opposite branch over a far jump
pub record IsFarBranch (op : BranchOp) (rs1 rs2 here to : ℕ) (form : List Insn) : Type 0 where
  pub jump : List Insn
  pub is : form ≡ Branch (opposite op) rs1 rs2 (pos 12) ∷ jump
  pub far : IsFar 0 (here + 4) to jump

-- the form that takes an address
pub record IsAddress (rd here to : ℕ) (form : List Insn) : Type 0 where
  pub high : ℕ
  pub low : ℤ
  pub is : form ≡ Auipc rd high ∷ Imm Addi rd rd low ∷ []
  pub leads : leads_far here high low ≡ to

-- an instruction that builds a constant in `rd`, from x0 or from what `rd` has so far
pub data Builds (rd : ℕ) : Insn → Type 0 where
  upper : (high : ℕ) → Builds rd (Lui rd high)
  first : (low : ℤ) → Builds rd (Imm Addi rd 0 low)
  more : (low : ℤ) → Builds rd (Imm Addi rd rd low)
  more_word : (low : ℤ) → Builds rd (Imm Addiw rd rd low)
  moved : (amount : ℕ) → Builds rd (Shift Slli rd rd amount)

-- a number of so many bits with sign
abbrev pub has_bits : ℕ → ℤ → Bool
has_bits count (pos n) = nat_lt n (2 ^ (count - 1))
has_bits count (negsuc n) = nat_lt n (2 ^ (count - 1))

-- how many instructions a constant has at most: `addi` alone, or `lui` and one more, or eight
abbrev pub constant_words : ℤ → ℕ
constant_words value = if has_bits 12 value then 1 else (if has_bits 32 value then 2 else 8)

-- the instructions of a constant
pub record IsConstant (rd : ℕ) (value : ℤ) (form : List Insn) : Type 0 where
  pub each : All (Builds rd) form
  pub least : 1 ≤ length form
  pub most : length form ≤ constant_words value

-- what an item at an address may become, where `to` is the address of its label
abbrev pub IsFormOf : Item → ℕ → ℕ → List Insn → Type 0
IsFormOf (Mark label) here to form = form ≡ []
IsFormOf (Plain insn) here to form = form ≡ insn ∷ []
IsFormOf (BranchTo op rs1 rs2 label) here to form = IsNearBranch op rs1 rs2 here to form ⊎ IsFarBranch op rs1 rs2 here to form
IsFormOf (JumpTo label) here to form = IsNearJump 0 here to form ⊎ IsFar 0 here to form
IsFormOf (FarTo label) here to form = IsFar 0 here to form
IsFormOf (CallTo rd label) here to form = IsNearJump rd here to form ⊎ IsFar rd here to form
IsFormOf (AddressOf rd label) here to form = IsAddress rd here to form
IsFormOf (Constant rd value) here to form = IsConstant rd value form
