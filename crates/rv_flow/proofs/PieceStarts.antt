-- Where pieces begin, and the last piece, in code whose last part leads elsewhere.
use Rattle.std.proofs.Common.{◌≡◌, ℕ, ◌+◌, ◌≤◌, pos, true, nat_eq, List, [], ◌∷◌, ◌++◌, length, arith, refl, sym, ap, ◌∙◌, subst, inl, inr}
use Rattle.std.proofs.lemmas.Bool.{or_left, or_right, eq-eqb}
use Rattle.rv_insn.specs.declared.instructions.BranchOp.{BranchOp}
use Rattle.rv_insn.specs.declared.instructions.Insn.{Insn}
use Rattle.rv_insn.specs.declared.instructions.Insn.TheVariants.{Branch, Jal}
use Rattle.rv_guard.specs.declared.pieces.Piece.{Piece}
use Rattle.rv_guard.specs.declared.pieces.Piece.TheVariants.{FarJump, Single}
use Rattle.rv_guard.specs.Patterns.{word_count}
use Rattle.rv_guard.specs.Rules.{address_of, target_of, is_at, is_target, is_start, JumpsToStart, Closes}
use Rattle.rv_guard.specs.Joining.{EndsClosed}
use Rattle.rv_asm.specs.Forms.{opposite}
use Rattle.rv_flow.proofs.Parts.{Part, mark, stays, constant, branch, jump, far}
use Rattle.rv_flow.proofs.Choices.{Choice, singles, branch_pieces, jump_pieces, part_pieces, behind, Choices, pieces_in}
use Rattle.rv_flow.proofs.Opened.{Opens, IsOpen}

-- the last of the parts leads elsewhere, and there is one
abbrev pub LeadsAway : Part → Type 0
LeadsAway (stays piece) = Closes piece
LeadsAway (jump label) = Unit {0}
LeadsAway (far label) = Unit {0}
LeadsAway _ = ⊥

abbrev pub LastLeadsAway : List Part → Type 0
LastLeadsAway [] = ⊥
LastLeadsAway (part ∷ []) = LeadsAway part
LastLeadsAway (part ∷ next ∷ parts) = LastLeadsAway (next ∷ parts)

-- ---- open words are where pieces begin

pub start_append : (a k : ℕ) (xs ys : List Piece) → is_start a (behind k xs) ys ≡ true → is_start a k (xs ++ ys) ≡ true
start_append a k [] ys h = h
start_append a k (x ∷ xs) ys h = or_right (nat_eq (address_of k) a) (is_start a (k + word_count x) (xs ++ ys)) (start_append a (k + word_count x) xs ys h)

start_here : (k : ℕ) (piece : Piece) (pieces : List Piece) → is_start (address_of k) k (piece ∷ pieces) ≡ true
start_here k piece pieces = or_left (nat_eq (address_of k) (address_of k)) (is_start (address_of k) (k + word_count piece) pieces) (eq-eqb (address_of k) (address_of k) refl)

start_singles : (k : ℕ) (form : List Insn) (pieces : List Piece) → 1 ≤ length form → is_start (address_of k) k (singles form ++ pieces) ≡ true
start_singles k [] pieces h = absurd (omega arith)
start_singles k (i ∷ is) pieces h = start_here k (Single i) (singles is ++ pieces)

start_branch : (at : ℕ → ℕ) (k : ℕ) (op : BranchOp) (rs1 rs2 label : ℕ) (c : Choice at k (branch op rs1 rs2 label)) (pieces : List Piece)
    → is_start (address_of k) k (branch_pieces k (at label) op rs1 rs2 c ++ pieces) ≡ true
start_branch at k op rs1 rs2 label (inl near) pieces = start_here k (Single (Branch op rs1 rs2 near.0)) pieces
start_branch at k op rs1 rs2 label (inr away) pieces = start_here k (Single (Branch (opposite op) rs1 rs2 (pos 12))) (FarJump 0 away.0 away.1 ∷ pieces)

start_jump : (at : ℕ → ℕ) (k label : ℕ) (c : Choice at k (jump label)) (pieces : List Piece) → is_start (address_of k) k (jump_pieces k (at label) c ++ pieces) ≡ true
start_jump at k label (inl near) pieces = start_here k (Single (Jal 0 near.0)) pieces
start_jump at k label (inr away) pieces = start_here k (FarJump 0 away.0 away.1) pieces

-- a piece begins where parts begin
pub parts_start : (at : ℕ → ℕ) (k : ℕ) (parts : List Part) (cs : Choices at k parts) → LastLeadsAway parts → is_start (address_of k) k (pieces_in at k parts cs) ≡ true
parts_start at k [] cs h = absurd h
parts_start at k (mark label ∷ []) cs h = absurd h
parts_start at k (mark label ∷ next ∷ parts) cs h = parts_start at k (next ∷ parts) cs.1 h
parts_start at k (stays piece ∷ parts) cs h = start_here k piece (pieces_in at (k + word_count piece) parts cs.1)
parts_start at k (constant rd value ∷ parts) cs h = start_singles k cs.0.0 (pieces_in at (behind k (singles cs.0.0)) parts cs.1) cs.0.1.least
parts_start at k (branch op rs1 rs2 label ∷ parts) cs h = start_branch at k op rs1 rs2 label cs.0 (pieces_in at (behind k (branch_pieces k (at label) op rs1 rs2 cs.0)) parts cs.1)
parts_start at k (jump label ∷ parts) cs h = start_jump at k label cs.0 (pieces_in at (behind k (jump_pieces k (at label) cs.0)) parts cs.1)
parts_start at k (far label ∷ parts) cs h = start_here k (FarJump 0 cs.0.0 cs.0.1) (pieces_in at (k + 2) parts cs.1)

-- behind a branch there is a part
behind_start : (at : ℕ → ℕ) (k : ℕ) (op : BranchOp) (rs1 rs2 label : ℕ) (parts : List Part) (cs : Choices at k (branch op rs1 rs2 label ∷ parts)) → LastLeadsAway (branch op rs1 rs2 label ∷ parts)
    → is_start (address_of (behind k (branch_pieces k (at label) op rs1 rs2 cs.0))) k (pieces_in at k (branch op rs1 rs2 label ∷ parts) cs) ≡ true
behind_start at k op rs1 rs2 label [] cs h = absurd h
behind_start at k op rs1 rs2 label (next ∷ parts) cs h =
    let here : List Piece = branch_pieces k (at label) op rs1 rs2 cs.0 in
    start_append (address_of (behind k here)) k here (pieces_in at (behind k here) (next ∷ parts) cs.1) (parts_start at (behind k here) (next ∷ parts) cs.1 h)

part_start : (at : ℕ → ℕ) (k : ℕ) (part : Part) (parts : List Part) (cs : Choices at k (part ∷ parts)) (w : ℕ) → LastLeadsAway (part ∷ parts) → Opens k (behind k (part_pieces at k part cs.0)) part w
    → is_start (address_of w) k (pieces_in at k (part ∷ parts) cs) ≡ true
part_start at k (mark label) parts cs w h o = subst (λ (j : ℕ). is_start (address_of j) k (pieces_in at k (mark label ∷ parts) cs) ≡ true) (sym o) (parts_start at k (mark label ∷ parts) cs h)
part_start at k (branch op rs1 rs2 label) parts cs w h o =
    subst (λ (j : ℕ). is_start (address_of j) k (pieces_in at k (branch op rs1 rs2 label ∷ parts) cs) ≡ true) (sym o) (behind_start at k op rs1 rs2 label parts cs h)
part_start at k part parts cs w h o = absurd o

still_leads : (at : ℕ → ℕ) (k : ℕ) (part : Part) (parts : List Part) (cs : Choices at k parts) (w : ℕ) → LastLeadsAway (part ∷ parts) → IsOpen at k parts cs w → LastLeadsAway parts
still_leads at k part [] cs w h o = absurd o
still_leads at k part (next ∷ parts) cs w h o = h

pub open_start : (at : ℕ → ℕ) (k : ℕ) (parts : List Part) (cs : Choices at k parts) (w : ℕ) → LastLeadsAway parts → IsOpen at k parts cs w → is_start (address_of w) k (pieces_in at k parts cs) ≡ true
open_start at k [] cs w h o = absurd o
open_start at k (part ∷ parts) cs w h (inl o) = part_start at k part parts cs w h o
open_start at k (part ∷ parts) cs w h (inr o) =
    let here : List Piece = part_pieces at k part cs.0 in
    start_append (address_of w) k here (pieces_in at (behind k here) parts cs.1)
    (open_start at (behind k here) parts cs.1 w (still_leads at (behind k here) part parts cs.1 w h o) o)

-- ---- the last piece

abbrev Ends : List Piece → Type 0
Ends [] = ⊥
Ends (piece ∷ []) = Closes piece
Ends (piece ∷ next ∷ pieces) = Ends (next ∷ pieces)

ends_closed : (pieces : List Piece) → Ends pieces → EndsClosed pieces
ends_closed [] h = tt
ends_closed (piece ∷ []) h = h
ends_closed (piece ∷ next ∷ pieces) h = ends_closed (next ∷ pieces) h

ends_append : (xs ys : List Piece) → Ends ys → Ends (xs ++ ys)
ends_append [] ys h = h
ends_append (x ∷ []) [] h = absurd h
ends_append (x ∷ []) (y ∷ ys) h = h
ends_append (x ∷ next ∷ xs) ys h = ends_append (next ∷ xs) ys h

jump_ends : (at : ℕ → ℕ) (k label : ℕ) (c : Choice at k (jump label)) → Ends (jump_pieces k (at label) c ++ [])
jump_ends at k label (inl near) = tt
jump_ends at k label (inr away) = tt

last_ends : (at : ℕ → ℕ) (k : ℕ) (part : Part) (c : Choice at k part) → LeadsAway part → Ends (part_pieces at k part c ++ [])
last_ends at k (stays piece) c h = h
last_ends at k (jump label) c h = jump_ends at k label c
last_ends at k (far label) c h = tt
last_ends at k part c h = absurd h

parts_end : (at : ℕ → ℕ) (k : ℕ) (parts : List Part) (cs : Choices at k parts) → LastLeadsAway parts → Ends (pieces_in at k parts cs)
parts_end at k [] cs h = absurd h
parts_end at k (part ∷ []) cs h = last_ends at k part cs.0 h
parts_end at k (part ∷ next ∷ parts) cs h =
    let here : List Piece = part_pieces at k part cs.0 in
    ends_append here (pieces_in at (behind k here) (next ∷ parts) cs.1) (parts_end at (behind k here) (next ∷ parts) cs.1 h)

pub parts_closed : (at : ℕ → ℕ) (k : ℕ) (parts : List Part) (cs : Choices at k parts) → LastLeadsAway parts → EndsClosed (pieces_in at k parts cs)
parts_closed at k parts cs h = ends_closed (pieces_in at k parts cs) (parts_end at k parts cs h)

-- ---- jumps lead to where pieces begin

abbrev pub AllJump : List Piece → ℕ → List Piece → Type 0
AllJump all k [] = Unit {0}
AllJump all k (piece ∷ pieces) = JumpsToStart all k piece × AllJump all (k + word_count piece) pieces

pub all_jump : (all : List Piece) (k : ℕ) (pieces : List Piece) → ((a : ℕ) → is_target a k pieces ≡ true → is_start a 0 all ≡ true) → AllJump all k pieces
all_jump all k [] f = tt
all_jump all k (piece ∷ pieces) f = (
  λ a e. f a (or_left (is_at a (target_of k piece)) (is_target a (k + word_count piece) pieces) (ap (is_at a) e ∙ eq-eqb a a refl)),
  all_jump all (k + word_count piece) pieces (λ a e. f a (or_right (is_at a (target_of k piece)) (is_target a (k + word_count piece) pieces) e)),
)
