-- Which windows the pieces of micro-operations end.
use Rattle.std.proofs.Common.{◌≡◌, ℕ, ℤ, Bool, false, ◌||◌, nat_eq, refl, ap, ◌∙◌}
use Rattle.rv_insn.specs.declared.instructions.Insn.{Insn}
use Rattle.rv_insn.specs.declared.instructions.Insn.TheVariants.{Imm, Jal}
use Rattle.rv_insn.specs.declared.instructions.ImmOp.TheVariants.{Addi}
use Rattle.rv_guard.specs.declared.pieces.Piece.TheVariants.{FarJump, StackCheck, NearCheck, TableCheck, Entry, ServiceCall, FaultCall, Single}
use Rattle.rv_guard.specs.Windows.{written_by, is_ended}
use Rattle.rv_word.specs.declared.micros.Register.{Register}
use Rattle.rv_flow.specs.Lowering.{number_of}
use Rattle.rv_flow.proofs.Numbered.{by_number}
use Rattle.rv_flow.proofs.Covers.{EndsNone, EndsOnly}

pub far_ends : (high : ℕ) (low : ℤ) → EndsNone (FarJump 0 high low)
far_ends high low = by_number (λ n. is_ended n (FarJump 0 high low) ≡ false) refl refl refl refl refl refl refl

pub entry_ends : (r high : ℕ) (low : ℤ) → EndsNone (Entry r high low)
entry_ends r high low = by_number (λ n. is_ended n (Entry r high low) ≡ false) refl refl refl refl refl refl refl

pub fault_ends : (kind high : ℕ) (low : ℤ) → EndsNone (FaultCall kind high low)
fault_ends kind high low = by_number (λ n. is_ended n (FaultCall kind high low) ≡ false) refl refl refl refl refl refl refl

pub put_ends : EndsNone (ServiceCall 1)
put_ends = by_number (λ n. is_ended n (ServiceCall 1) ≡ false) refl refl refl refl refl refl refl

pub take_ends : EndsNone (ServiceCall 2)
take_ends = by_number (λ n. is_ended n (ServiceCall 2) ≡ false) refl refl refl refl refl refl refl

pub end_ends : EndsNone (ServiceCall 0)
end_ends = by_number (λ n. is_ended n (ServiceCall 0) ≡ false) refl refl refl refl refl refl refl

pub exhaust_ends : EndsNone (ServiceCall 4)
exhaust_ends = by_number (λ n. is_ended n (ServiceCall 4) ≡ false) refl refl refl refl refl refl refl

pub jal_ends : (offset : ℤ) → EndsNone (Single (Jal 0 offset))
jal_ends offset = by_number (λ n. is_ended n (Single (Jal 0 offset)) ≡ false) refl refl refl refl refl refl refl

-- `addi` of x10
pub copy_ends : (a : ℕ) (imm : ℤ) → EndsNone (Single (Imm Addi 10 a imm))
copy_ends a imm = by_number (λ n. is_ended n (Single (Imm Addi 10 a imm)) ≡ false) refl refl refl refl refl refl refl

-- an instruction that writes no register
pub writes_none : (i : Insn) → written_by i ≡ 0 → EndsNone (Single i)
writes_none i is q named =
    ap (λ (n : ℕ). (nat_eq n (number_of q) || false) || false) is ∙ by_number (λ n. (nat_eq 0 n || false) || false ≡ false) refl refl refl refl refl refl refl q named

-- one that writes a register of the word machine
pub writes_only : (i : Insn) (r : Register) → written_by i ≡ number_of r → EndsOnly r (Single i)
writes_only i r is q named other = ap (λ (n : ℕ). (nat_eq n (number_of q) || false) || false) is ∙ ap (λ (b : Bool). (b || false) || false) other

-- checks of a register: they write x31 alone, and end its window
pub stack_ends : (r : Register) (high : ℕ) (low : ℤ) → EndsOnly r (StackCheck (number_of r) high low)
stack_ends r high low =
    by_number (λ n. nat_eq (number_of r) n ≡ false → is_ended n (StackCheck (number_of r) high low) ≡ false) (λ e. e) (λ e. e) (λ e. e) (λ e. e) (λ e. e) (λ e. e) (λ e. e)

pub near_ends : (r : Register) (low : ℤ) → EndsOnly r (NearCheck (number_of r) low)
near_ends r low =
    by_number (λ n. nat_eq (number_of r) n ≡ false → is_ended n (NearCheck (number_of r) low) ≡ false) (λ e. e) (λ e. e) (λ e. e) (λ e. e) (λ e. e) (λ e. e) (λ e. e)

pub table_ends : (r : Register) (high : ℕ) (low : ℤ) → EndsOnly r (TableCheck (number_of r) high low)
table_ends r high low =
    by_number (λ n. nat_eq (number_of r) n ≡ false → is_ended n (TableCheck (number_of r) high low) ≡ false) (λ e. e) (λ e. e) (λ e. e) (λ e. e) (λ e. e) (λ e. e) (λ e. e)
