-- Words of the auditor's private contracts.
use Rattle.std.specs.Prelude.{◌≡◌, ℕ, ◌<◌, ◌≤◌, ℤ, pos, neg_ℤ, ◌≤ℤ◌, ◌-ℤ◌, nat_eq, if◌then◌else◌, Option, Some, None, Bool, false, List, [], ◌∷◌, length, slice_index_or}
use Rattle.rv_insn.specs.declared.instructions.Insn.{Insn}
use Rattle.rv_insn.specs.declared.instructions.Insn.TheVariants.{Reg, Imm, Branch, Lui, Jalr, Ecall}
use Rattle.rv_insn.specs.declared.instructions.RegOp.TheVariants.{Add}
use Rattle.rv_insn.specs.declared.instructions.ImmOp.TheVariants.{Addi, Andi}
use Rattle.rv_insn.specs.declared.instructions.BranchOp.TheVariants.{Bne, Bltu, Bgeu}
use Rattle.rv_guard.specs.Patterns.{Setting, IsNatural, HasHead}
use Rattle.rv_guard.specs.declared.pieces.Piece.{Piece}
use Rattle.rv_guard.specs.declared.pieces.Piece.TheVariants.{FarJump, StackCheck}
use Rattle.rv_guard.specs.declared.pieces.Window.{Window}
use Rattle.rv_guard.specs.declared.pieces.Window.TheVariants.{InStack, InTable}
use Rattle.rv_guard.specs.Rules.{address_of}

-- the last instructions of the longer patterns
abbrev pub stack_check_end : ℕ → List Insn
stack_check_end r = Reg Add 31 31 r ∷ Branch Bltu 3 31 (pos 0) ∷ Imm Andi 31 r (pos 7) ∷ Branch Bne 31 0 (pos 0) ∷ []

abbrev pub table_check_end : ℕ → List Insn
table_check_end r = Branch Bltu 31 r (pos 0) ∷ Imm Andi 31 r (pos 7) ∷ Branch Bne 31 0 (pos 0) ∷ []

abbrev pub entry_end : List Insn
entry_end = Branch Bgeu 31 30 (pos 0) ∷ Lui 30 16 ∷ Reg Add 31 31 30 ∷ Jalr 0 31 (pos 0) ∷ []

abbrev pub fault_end : List Insn
fault_end = Imm Addi 17 0 (pos 3) ∷ Ecall ∷ []

abbrev pub IsFarJump : Piece → Type 0
IsFarJump (FarJump link high low) = Unit {0}
IsFarJump piece = ⊥

abbrev pub setting : List Insn → ℕ → ℕ → Setting
setting code table_words places = record { code = code; table_words = table_words; places = places }

-- code begins with just so many far jumps
pub record IsHeadCount (heads : ℕ) (code : List Insn) : Type 0 where
  pub fewer : (g : ℕ) → g ≤ heads → HasHead g code
  pub most : (g : ℕ) → HasHead g code → g ≤ heads

-- just those of so many words are marked whose address is so
pub record AreMarks (is : ℕ → Bool) (words : ℕ) (marks : List Bool) : Type 0 where
  pub count : length marks ≡ words
  pub each : (j : ℕ) → j < words → slice_index_or marks j false ≡ is (address_of j)

-- a number from -n to n
abbrev pub IsNear : ℕ → ℤ → Type 0
IsNear n z = (neg_ℤ (pos n) ≤ℤ z) × (z ≤ℤ pos n)

-- the ends of a window are so, and of windows
abbrev pub IsNearWindow : ℕ → Window → Type 0
IsNearWindow n (InStack r from to) = (IsNear n from) × (IsNear n to)
IsNearWindow n (InTable r) = Unit {0}

abbrev pub AreNear : ℕ → List Window → Type 0
AreNear n [] = Unit {0}
AreNear n (window ∷ windows) = IsNearWindow n window × AreNear n windows

-- the window that `addi a, r, k` gives a for one
abbrev pub moved_window : ℕ → ℕ → ℤ → Window → Option Window
moved_window a r k (InStack q from to) = if nat_eq q r then Some (InStack a (from -ℤ k) (to -ℤ k)) else None
moved_window a r k (InTable q) = None

-- the number that a check makes isn't below 0
abbrev pub HasValue : Piece → Type 0
HasValue (StackCheck r high low) = IsNatural high low
HasValue piece = Unit {0}

abbrev pub HaveValues : List Piece → Type 0
HaveValues [] = Unit {0}
HaveValues (piece ∷ pieces) = HasValue piece × HaveValues pieces
