-- What the assembler chose for the parts of code, and the pieces that these are.
use Rattle.std.proofs.Common.{◌≡◌, ◌⊎◌, ℕ, ◌+◌, ◌≤◌, ℤ, pos, List, [], ◌∷◌, ◌++◌, length, arith, refl, sym, ap, ◌∙◌, append_assoc, length-append, inl, inr}
use Rattle.rv_insn.specs.declared.instructions.BranchOp.{BranchOp}
use Rattle.rv_insn.specs.declared.instructions.Insn.{Insn}
use Rattle.rv_insn.specs.declared.instructions.Insn.TheVariants.{Branch, Jal}
use Rattle.rv_insn.specs.Step.{displaced}
use Rattle.rv_guard.specs.declared.pieces.Piece.{Piece}
use Rattle.rv_guard.specs.declared.pieces.Piece.TheVariants.{FarJump, Single}
use Rattle.rv_guard.specs.Patterns.{instructions_of, word_count}
use Rattle.rv_asm.specs.declared.items.LabelAt.{LabelAt}
use Rattle.rv_asm.specs.Assembly.{address_of}
use Rattle.rv_asm.specs.Forms.{IsConstant, leads_far, opposite}
use Rattle.rv_flow.proofs.Parts.{Part, mark, stays, constant, branch, jump, far}

-- an offset, or the two halves of a distance, that lead from an address to another
abbrev pub NearTo : ℕ → ℕ → Type 0
NearTo here to = (offset : ℤ) × (displaced here offset ≡ to)

abbrev pub FarAway : ℕ → ℕ → Type 0
FarAway here to = (high : ℕ) × (low : ℤ) × (leads_far here high low ≡ to)

-- what there is to choose of a part at word k, where `at` is the address of each label
abbrev pub Choice : (ℕ → ℕ) → ℕ → Part → Type 0
Choice at k (mark label) = Unit {0}
Choice at k (stays piece) = Unit {0}
Choice at k (constant rd value) = (form : List Insn) × IsConstant rd value form
Choice at k (branch op rs1 rs2 label) = NearTo (address_of k) (at label) ⊎ FarAway (address_of (k + 1)) (at label)
Choice at k (jump label) = NearTo (address_of k) (at label) ⊎ FarAway (address_of k) (at label)
Choice at k (far label) = FarAway (address_of k) (at label)

-- one piece for each instruction
abbrev pub singles : List Insn → List Piece
singles [] = []
singles (i ∷ is) = Single i ∷ singles is

-- the pieces of a branch at word k to an address, and of a jump to one
abbrev pub branch_pieces : (k to : ℕ) → BranchOp → ℕ → ℕ → NearTo (address_of k) to ⊎ FarAway (address_of (k + 1)) to → List Piece
branch_pieces k to op rs1 rs2 (inl near) = Single (Branch op rs1 rs2 near.0) ∷ []
branch_pieces k to op rs1 rs2 (inr away) = Single (Branch (opposite op) rs1 rs2 (pos 12)) ∷ FarJump 0 away.0 away.1 ∷ []

abbrev pub jump_pieces : (k to : ℕ) → NearTo (address_of k) to ⊎ FarAway (address_of k) to → List Piece
jump_pieces k to (inl near) = Single (Jal 0 near.0) ∷ []
jump_pieces k to (inr away) = FarJump 0 away.0 away.1 ∷ []

abbrev pub part_pieces : (at : ℕ → ℕ) (k : ℕ) (part : Part) → Choice at k part → List Piece
part_pieces at k (mark label) c = []
part_pieces at k (stays piece) c = piece ∷ []
part_pieces at k (constant rd value) c = singles c.0
part_pieces at k (branch op rs1 rs2 label) c = branch_pieces k (at label) op rs1 rs2 c
part_pieces at k (jump label) c = jump_pieces k (at label) c
part_pieces at k (far label) c = FarJump 0 c.0 c.1 ∷ []

-- the word behind pieces that begin at word k
abbrev pub behind : ℕ → List Piece → ℕ
behind k [] = k
behind k (piece ∷ pieces) = behind (k + word_count piece) pieces

-- the same of parts one behind the other
abbrev pub Choices : (ℕ → ℕ) → ℕ → List Part → Type 0
Choices at k [] = Unit {0}
Choices at k (part ∷ parts) = (c : Choice at k part) × Choices at (behind k (part_pieces at k part c)) parts

abbrev pub pieces_in : (at : ℕ → ℕ) (k : ℕ) (parts : List Part) → Choices at k parts → List Piece
pieces_in at k [] cs = []
pieces_in at k (part ∷ parts) cs = part_pieces at k part cs.0 ++ pieces_in at (behind k (part_pieces at k part cs.0)) parts cs.1

-- the labels that a part marks, and where
abbrev pub marked_by : ℕ → Part → List LabelAt
marked_by k (mark label) = (record { label = label; word = k }) ∷ []
marked_by k _ = []

abbrev pub labels_in : (at : ℕ → ℕ) (k : ℕ) (parts : List Part) → Choices at k parts → List LabelAt
labels_in at k [] cs = []
labels_in at k (part ∷ parts) cs = marked_by k part ++ labels_in at (behind k (part_pieces at k part cs.0)) parts cs.1

-- the instructions of pieces
abbrev pub insns_of : List Piece → List Insn
insns_of [] = []
insns_of (piece ∷ pieces) = instructions_of piece ++ insns_of pieces

-- ---- laws of these

pub insns_append : (xs ys : List Piece) → insns_of (xs ++ ys) ≡ insns_of xs ++ insns_of ys
insns_append [] ys = refl
insns_append (x ∷ xs) ys = ap (λ l. instructions_of x ++ l) (insns_append xs ys) ∙ sym (append_assoc (instructions_of x) (insns_of xs) (insns_of ys))

pub insns_singles : (form : List Insn) → insns_of (singles form) ≡ form
insns_singles [] = refl
insns_singles (i ∷ is) = ap (λ l. i ∷ l) (insns_singles is)

pub behind_is : (k : ℕ) (pieces : List Piece) → behind k pieces ≡ k + length (insns_of pieces)
behind_is k [] = omega arith
behind_is k (piece ∷ pieces) =
    let rest : behind (k + word_count piece) pieces ≡ k + word_count piece + length (insns_of pieces) = behind_is (k + word_count piece) pieces in
    omega (arith, rest, length-append (instructions_of piece) (insns_of pieces))

pub behind_append : (k : ℕ) (xs ys : List Piece) → behind k (xs ++ ys) ≡ behind (behind k xs) ys
behind_append k [] ys = refl
behind_append k (x ∷ xs) ys = behind_append (k + word_count x) xs ys

pub behind_grows : (k : ℕ) (pieces : List Piece) → k ≤ behind k pieces
behind_grows k pieces = let e : behind k pieces ≡ k + length (insns_of pieces) = behind_is k pieces in omega (arith, e)
