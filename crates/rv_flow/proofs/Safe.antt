-- Parts whose pieces are cut off whatever stands behind them, and keep the rules that ask for no window.
use Rattle.std.proofs.Common.{◌≡◌, ◌≢◌, ◌⊎◌, ℕ, ℤ, pos, Bool, false, ◌||◌, nat_eq, List, [], ◌∷◌, ◌++◌, All, None, refl, ap, subst, inl, inr, append-nil}
use Rattle.std.proofs.lemmas.Bool.{eqb-false}
use Rattle.std.proofs.lemmas.List.Elements.{All-head, All-tail}
use Rattle.rv_insn.specs.declared.instructions.RegOp.{RegOp}
use Rattle.rv_insn.specs.declared.instructions.ImmOp.{ImmOp}
use Rattle.rv_insn.specs.declared.instructions.ImmOp.TheVariants.{Addi, Addiw}
use Rattle.rv_insn.specs.declared.instructions.ShiftOp.{ShiftOp}
use Rattle.rv_insn.specs.declared.instructions.ShiftOp.TheVariants.{Slli}
use Rattle.rv_insn.specs.declared.instructions.LoadOp.{LoadOp}
use Rattle.rv_insn.specs.declared.instructions.StoreOp.{StoreOp}
use Rattle.rv_insn.specs.declared.instructions.BranchOp.{BranchOp}
use Rattle.rv_insn.specs.declared.instructions.Insn.{Insn}
use Rattle.rv_insn.specs.declared.instructions.Insn.TheVariants.{Reg, Imm, Shift, Load, Store, Branch, Lui, Jal}
use Rattle.rv_guard.specs.declared.pieces.Piece.{Piece}
use Rattle.rv_guard.specs.declared.pieces.Piece.TheVariants.{FarJump, StackCheck, NearCheck, TableCheck, Entry, ServiceCall, FaultCall, Single}
use Rattle.rv_guard.specs.Patterns.{Setting}
use Rattle.rv_guard.specs.Cutting.{AreCut}
use Rattle.rv_guard.specs.Windows.{written_by}
use Rattle.rv_guard.specs.Rules.{KeepsBounds, IsPlain, target_of}
use Rattle.rv_guard.specs.Joining.{IsAlone, IsApart, PartIsCut}
use Rattle.rv_guard.proofs.Joined.{cuts_join}
use Rattle.rv_asm.specs.Forms.{Builds, opposite}
use Rattle.rv_flow.proofs.Parts.{Part, mark, stays, constant, branch, jump, far}
use Rattle.rv_flow.proofs.Choices.{Choice, singles, part_pieces, behind, Choices, pieces_in, insns_of}

-- ---- instructions with which no pattern begins

pub alone_reg : (op : RegOp) (rd a b : ℕ) → IsAlone (Reg op rd a b)
alone_reg op rd a b (Single i) others m e = m
alone_reg op rd a b piece others m e = cc

pub alone_shift : (op : ShiftOp) (rd a amount : ℕ) → IsAlone (Shift op rd a amount)
alone_shift op rd a amount (Single i) others m e = m
alone_shift op rd a amount piece others m e = cc

pub alone_load : (op : LoadOp) (rd base : ℕ) (imm : ℤ) → IsAlone (Load op rd base imm)
alone_load op rd base imm (Single i) others m e = m
alone_load op rd base imm piece others m e = cc

pub alone_store : (op : StoreOp) (rs2 base : ℕ) (imm : ℤ) → IsAlone (Store op rs2 base imm)
alone_store op rs2 base imm (Single i) others m e = m
alone_store op rs2 base imm piece others m e = cc

pub alone_lui : (rd high : ℕ) → IsAlone (Lui rd high)
alone_lui rd high (Single i) others m e = m
alone_lui rd high piece others m e = cc

pub alone_jal : (rd : ℕ) (offset : ℤ) → IsAlone (Jal rd offset)
alone_jal rd offset (Single i) others m e = m
alone_jal rd offset piece others m e = cc

-- `addi`, but where a service or a fault begins
pub alone_addi : (rd a : ℕ) (imm : ℤ) → rd ≢ 17 → (rd ≢ 10) ⊎ (a ≢ 0) → IsAlone (Imm Addi rd a imm)
alone_addi rd a imm h k (Single i) others m e = m
alone_addi rd a imm h k (ServiceCall number) others m e = h (cc)
alone_addi rd a imm h (inl k) (FaultCall kind high low) others m e = k (cc)
alone_addi rd a imm h (inr k) (FaultCall kind high low) others m e = k (cc)
alone_addi rd a imm h k piece others m e = cc

-- any operation, but where an entry begins too
pub alone_imm : (op : ImmOp) (rd a : ℕ) (imm : ℤ) → rd ≢ 31 → rd ≢ 17 → rd ≢ 10 → IsAlone (Imm op rd a imm)
alone_imm op rd a imm g h k (Single i) others m e = m
alone_imm op rd a imm g h k (Entry r high low) others m e = g (cc)
alone_imm op rd a imm g h k (ServiceCall number) others m e = h (cc)
alone_imm op rd a imm g h k (FaultCall kind high low) others m e = k (cc)
alone_imm op rd a imm g h k piece others m e = cc

pub alone_addiw : (rd a : ℕ) (imm : ℤ) → IsAlone (Imm Addiw rd a imm)
alone_addiw rd a imm (Single i) others m e = m
alone_addiw rd a imm piece others m e = cc

-- a branch, but where a check begins
pub alone_branch : (op : BranchOp) (a b : ℕ) (offset : ℤ) → b ≢ 2 → b ≢ 4 → IsAlone (Branch op a b offset)
alone_branch op a b offset h k (Single i) others m e = m
alone_branch op a b offset h k (StackCheck r high low) others m e = h (cc)
alone_branch op a b offset h k (NearCheck r low) others m e = h (cc)
alone_branch op a b offset h k (TableCheck r high low) others m e = k (cc)
alone_branch op a b offset h k piece others m e = cc

-- ---- pieces, and parts that have but such

pub record IsGood (setting : Setting) (piece : Piece) : Type 0 where
  pub apart : IsApart setting piece
  pub bounds : KeepsBounds piece
  pub plain : IsPlain piece

pub record IsStill (setting : Setting) (piece : Piece) : Type 0 where
  pub good : IsGood setting piece
  pub still : (k : ℕ) → target_of k piece ≡ None

-- a register that a constant may have
pub record IsFree (rd : ℕ) : Type 0 where
  pub keeps_2 : nat_eq rd 2 ≡ false
  pub keeps_3 : nat_eq rd 3 ≡ false
  pub keeps_4 : nat_eq rd 4 ≡ false
  pub not_10 : nat_eq rd 10 ≡ false
  pub not_17 : nat_eq rd 17 ≡ false

abbrev pub IsSafe : Setting → Part → Type 0
IsSafe setting (stays piece) = IsStill setting piece
IsSafe setting (constant rd value) = IsFree rd
IsSafe setting (branch op rs1 rs2 label) = (nat_eq rs2 2 ≡ false) × (nat_eq rs2 4 ≡ false)
IsSafe setting _ = Unit {0}

abbrev pub AreSafe : Setting → List Part → Type 0
AreSafe setting [] = Unit {0}
AreSafe setting (part ∷ parts) = IsSafe setting part × AreSafe setting parts

abbrev pub AreGood : Setting → List Piece → Type 0
AreGood setting [] = Unit {0}
AreGood setting (piece ∷ pieces) = IsGood setting piece × AreGood setting pieces

good_append : (setting : Setting) (xs ys : List Piece) → AreGood setting xs → AreGood setting ys → AreGood setting (xs ++ ys)
good_append setting [] ys h k = k
good_append setting (x ∷ xs) ys h k = (h.0, good_append setting xs ys h.1 k)

-- an instruction that writes none of x2, x3 and x4
bounds_kept : (i : Insn) → nat_eq (written_by i) 2 ≡ false → nat_eq (written_by i) 3 ≡ false → nat_eq (written_by i) 4 ≡ false → KeepsBounds (Single i)
bounds_kept i h2 h3 h4 = record { not_x2 = ap (λ (b : Bool). b || false) h2; not_x3 = ap (λ (b : Bool). b || false) h3; not_x4 = ap (λ (b : Bool). b || false) h4 }

builds_good : (setting : Setting) (rd : ℕ) (i : Insn) → IsFree rd → Builds rd i → IsGood setting (Single i)
builds_good setting rd i h (Builds.upper high) = record { apart = alone_lui rd high; bounds = bounds_kept (Lui rd high) h.keeps_2 h.keeps_3 h.keeps_4; plain = tt }
builds_good setting rd i h (Builds.first low) = record {
  apart = alone_addi rd 0 low (eqb-false rd 17 h.not_17) (inl (eqb-false rd 10 h.not_10));
  bounds = bounds_kept (Imm Addi rd 0 low) h.keeps_2 h.keeps_3 h.keeps_4;
  plain = tt;
}
builds_good setting rd i h (Builds.more low) = record {
  apart = alone_addi rd rd low (eqb-false rd 17 h.not_17) (inl (eqb-false rd 10 h.not_10));
  bounds = bounds_kept (Imm Addi rd rd low) h.keeps_2 h.keeps_3 h.keeps_4;
  plain = tt;
}
builds_good setting rd i h (Builds.more_word low) = record { apart = alone_addiw rd rd low; bounds = bounds_kept (Imm Addiw rd rd low) h.keeps_2 h.keeps_3 h.keeps_4; plain = tt }
builds_good setting rd i h (Builds.moved amount) = record { apart = alone_shift Slli rd rd amount; bounds = bounds_kept (Shift Slli rd rd amount) h.keeps_2 h.keeps_3 h.keeps_4; plain = tt }

singles_good : (setting : Setting) (rd : ℕ) (form : List Insn) → IsFree rd → All (Builds rd) form → AreGood setting (singles form)
singles_good setting rd [] h each = tt
singles_good setting rd (i ∷ is) h each = (builds_good setting rd i h (All-head (Builds rd) i is each), singles_good setting rd is h (All-tail (Builds rd) i is each))

pub far_good : (setting : Setting) (high : ℕ) (low : ℤ) → IsGood setting (FarJump 0 high low)
far_good setting high low = record { apart = tt; bounds = record { not_x2 = refl; not_x3 = refl; not_x4 = refl }; plain = tt }

branch_good : (setting : Setting) (op : BranchOp) (a b : ℕ) (offset : ℤ) → (nat_eq b 2 ≡ false) × (nat_eq b 4 ≡ false) → IsGood setting (Single (Branch op a b offset))
branch_good setting op a b offset h = record { apart = alone_branch op a b offset (eqb-false b 2 h.0) (eqb-false b 4 h.1); bounds = record { not_x2 = refl; not_x3 = refl; not_x4 = refl }; plain = tt }

jal_good : (setting : Setting) (offset : ℤ) → IsGood setting (Single (Jal 0 offset))
jal_good setting offset = record { apart = alone_jal 0 offset; bounds = record { not_x2 = refl; not_x3 = refl; not_x4 = refl }; plain = tt }

part_good : (setting : Setting) (at : ℕ → ℕ) (k : ℕ) (part : Part) (c : Choice at k part) → IsSafe setting part → AreGood setting (part_pieces at k part c)
part_good setting at k (mark label) c h = tt
part_good setting at k (stays piece) c h = (h.good, tt)
part_good setting at k (constant rd value) c h = singles_good setting rd c.0 h c.1.each
part_good setting at k (branch op a b label) (inl near) h = (branch_good setting op a b near.0 h, tt)
part_good setting at k (branch op a b label) (inr away) h = (branch_good setting (opposite op) a b (pos 12) h, (far_good setting away.0 away.1, tt))
part_good setting at k (jump label) (inl near) h = (jal_good setting near.0, tt)
part_good setting at k (jump label) (inr away) h = (far_good setting away.0 away.1, tt)
part_good setting at k (far label) c h = (far_good setting c.0 c.1, tt)

pub all_good : (setting : Setting) (at : ℕ → ℕ) (k : ℕ) (parts : List Part) (cs : Choices at k parts) → AreSafe setting parts → AreGood setting (pieces_in at k parts cs)
all_good setting at k [] cs h = tt
all_good setting at k (part ∷ parts) cs h =
    let here : List Piece = part_pieces at k part cs.0 in
    good_append setting here (pieces_in at (behind k here) parts cs.1) (part_good setting at k part cs.0 h.0) (all_good setting at (behind k here) parts cs.1 h.1)

-- ---- such pieces are cut just so

part_cut : (setting : Setting) (pieces : List Piece) → AreGood setting pieces → PartIsCut setting (insns_of pieces) pieces
part_cut setting [] h = refl
part_cut setting (piece ∷ pieces) h = (insns_of pieces, refl, h.0.apart, part_cut setting pieces h.1)

pub all_cut : (setting : Setting) (pieces : List Piece) → AreGood setting pieces → AreCut setting (insns_of pieces) pieces
all_cut setting pieces h =
    let joined : AreCut setting (insns_of pieces ++ []) (pieces ++ []) = cuts_join setting (insns_of pieces) [] pieces [] (part_cut setting pieces h) refl in
    subst (λ (ps : List Piece). AreCut setting (insns_of pieces) ps) (append-nil pieces) (subst (λ (code : List Insn). AreCut setting code (pieces ++ [])) (append-nil (insns_of pieces)) joined)
