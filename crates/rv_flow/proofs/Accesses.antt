-- Loads and stores of a disciplined micro-operation stand under windows, where the words inside of it are no targets.
use Rattle.std.proofs.Common.{◌≡◌, ℕ, ◌+◌, ◌*◌, ◌%◌, ◌<◌, ◌≤◌, ℤ, pos, ◌≤ℤ◌, Bool, true, false, not, ◌&&◌, nat_eq, nat_lt, nat_le, if◌then◌else◌, List, [], ◌∷◌, ◌++◌, length, All, arith, refl, sym, subst, inl, inr}
use Rattle.std.proofs.lemmas.Bool.{and_parts, ltb-true, leb-true, eq-eqb}
use Rattle.std.proofs.lemmas.Int.{ints}
use Rattle.std.proofs.lemmas.List.Elements.{All-head, All-tail}
use Rattle.rv_insn.specs.Memory.{load_size, store_size}
use Rattle.rv_insn.specs.declared.instructions.RegOp.TheVariants.{Sub}
use Rattle.rv_insn.specs.declared.instructions.ImmOp.{ImmOp}
use Rattle.rv_insn.specs.declared.instructions.ImmOp.TheVariants.{Addi, Addiw}
use Rattle.rv_insn.specs.declared.instructions.ShiftOp.TheVariants.{Slli}
use Rattle.rv_insn.specs.declared.instructions.LoadOp.TheVariants.{Ld}
use Rattle.rv_insn.specs.declared.instructions.StoreOp.TheVariants.{Sd}
use Rattle.rv_insn.specs.declared.instructions.BranchOp.{BranchOp}
use Rattle.rv_insn.specs.declared.instructions.BranchOp.TheVariants.{Bltu}
use Rattle.rv_insn.specs.declared.instructions.Insn.{Insn}
use Rattle.rv_insn.specs.declared.instructions.Insn.TheVariants as insn
use Rattle.rv_guard.specs.declared.pieces.Piece.{Piece}
use Rattle.rv_guard.specs.declared.pieces.Piece.TheVariants.{FarJump, ServiceCall, Single}
use Rattle.rv_guard.specs.declared.pieces.Window.{Window}
use Rattle.rv_guard.specs.declared.pieces.Window.TheVariants.{InStack}
use Rattle.rv_guard.specs.Patterns.{word_count, value, below}
use Rattle.rv_guard.specs.Windows.{written_by, windows_behind}
use Rattle.rv_guard.specs.Rules.{address_of, is_target, windows_at, HasAccess}
use Rattle.rv_asm.specs.Forms.{Builds, opposite}
use Rattle.rv_word.specs.declared.micros.Register.{Register}
use Rattle.rv_word.specs.declared.micros.Register.TheVariants as register
use Rattle.rv_word.specs.declared.micros.Micro.{Micro}
use Rattle.rv_word.specs.declared.micros.Micro.TheVariants as micro
use Rattle.rv_word.specs.Word.{Named, get, set, zeros}
use Rattle.rv_word.specs.Discipline.{Bounds, is_zero, has_needs, imm_window}
use Rattle.rv_word.specs.Discipline as discipline
use Rattle.rv_flow.specs.Lowering.{number_of, upper_part, lower_part, minus, kind_number, look_piece, entry_piece, fault_piece, copy}
use Rattle.rv_flow.proofs.Parts.{Part, branch, jump, room_parts, window_by, parts_of}
use Rattle.rv_flow.proofs.Choices.{Choice, singles, branch_pieces, jump_pieces, part_pieces, behind, Choices, pieces_in, behind_grows}
use Rattle.rv_flow.proofs.Numbered.{not_x0, below_minus, AreHalves, halves}
use Rattle.rv_flow.proofs.Covers.{Spans, Covers, CoversOthers, EndsNone, EndsOnly, covers_none, covers_others, covers_behind, others_behind, covers_set, covers_cleared, span_covers, imm_span}
use Rattle.rv_flow.proofs.Ended.{far_ends, entry_ends, fault_ends, put_ends, take_ends, end_ends, exhaust_ends, jal_ends, copy_ends, writes_none, writes_only, stack_ends, near_ends, table_ends}

-- ---- rule 4 of pieces, with the windows of rule 3

abbrev pub HaveAccess : List Piece → ℕ → List Window → List Piece → Type 0
HaveAccess all k windows [] = Unit {0}
HaveAccess all k windows (piece ∷ pieces) = HasAccess (windows_at all k windows) piece × HaveAccess all (k + word_count piece) (windows_behind piece (windows_at all k windows)) pieces

-- no word between two is a target
abbrev pub IsQuiet : List Piece → ℕ → ℕ → Type 0
IsQuiet all k j = (w : ℕ) → k < w → w < j → is_target (address_of w) 0 all ≡ false

-- a piece at a word that is no target
inner : (all : List Piece) (k : ℕ) (windows : List Window) (piece : Piece) (pieces : List Piece) → is_target (address_of k) 0 all ≡ false → HasAccess windows piece
    → HaveAccess all (k + word_count piece) (windows_behind piece windows) pieces → HaveAccess all k windows (piece ∷ pieces)
inner all k windows piece pieces still access rest =
    let P : Bool → Type 0 = λ b. HasAccess (if b then [] else windows) piece × HaveAccess all (k + word_count piece) (windows_behind piece (if b then [] else windows)) pieces in
    subst P (sym still) (access, rest)

-- ---- what is behind some parts

abbrev pub later_word : (at : ℕ → ℕ) (k : ℕ) (xs ys : List Part) → Choices at k (xs ++ ys) → ℕ
later_word at k [] ys cs = k
later_word at k (x ∷ xs) ys cs = later_word at (behind k (part_pieces at k x cs.0)) xs ys cs.1

abbrev pub later : (at : ℕ → ℕ) (k : ℕ) (xs ys : List Part) (cs : Choices at k (xs ++ ys)) → Choices at (later_word at k xs ys cs) ys
later at k [] ys cs = cs
later at k (x ∷ xs) ys cs = later at (behind k (part_pieces at k x cs.0)) xs ys cs.1

abbrev pub later_pieces : (at : ℕ → ℕ) (k : ℕ) (xs ys : List Part) → Choices at k (xs ++ ys) → List Piece
later_pieces at k xs ys cs = pieces_in at (later_word at k xs ys cs) ys (later at k xs ys cs)

-- the pieces behind keep rule 4 from all windows that cover this
abbrev pub HaveThen : (all : List Piece) (at : ℕ → ℕ) (k : ℕ) (xs ys : List Part) → Choices at k (xs ++ ys) → Named → Type 0
HaveThen all at k xs ys cs d =
    (windows : List Window) → Covers windows d
    → HaveAccess all (later_word at k xs ys cs) windows (later_pieces at k xs ys cs)

-- ---- constants

build_access : (windows : List Window) (rd : ℕ) (i : Insn) → Builds rd i → HasAccess windows (Single i)
build_access windows rd i (Builds.upper high) = tt
build_access windows rd i (Builds.first low) = tt
build_access windows rd i (Builds.more low) = tt
build_access windows rd i (Builds.more_word low) = tt
build_access windows rd i (Builds.moved amount) = tt

build_ends : (r : Register) (i : Insn) → Builds (number_of r) i → EndsOnly r (Single i)
build_ends r i (Builds.upper high) = writes_only (insn.Lui (number_of r) high) r refl
build_ends r i (Builds.first low) = writes_only (insn.Imm Addi (number_of r) 0 low) r refl
build_ends r i (Builds.more low) = writes_only (insn.Imm Addi (number_of r) (number_of r) low) r refl
build_ends r i (Builds.more_word low) = writes_only (insn.Imm Addiw (number_of r) (number_of r) low) r refl
build_ends r i (Builds.moved amount) = writes_only (insn.Shift Slli (number_of r) (number_of r) amount) r refl

-- the rest of a constant's instructions
more_singles : (all : List Piece) (k : ℕ) (windows : List Window) (form : List Insn) (pieces : List Piece) (d : Named) (r : Register) → All (Builds (number_of r)) form
    → ((w : ℕ) → k ≤ w → w < behind k (singles form) → is_target (address_of w) 0 all ≡ false) → CoversOthers windows d r
    → ((ws : List Window) → CoversOthers ws d r → HaveAccess all (behind k (singles form)) ws pieces) → HaveAccess all k windows (singles form ++ pieces)
more_singles all k windows [] pieces d r each quiet h go = go windows h
more_singles all k windows (i ∷ is) pieces d r each quiet h go =
    let b : Builds (number_of r) i = All-head (Builds (number_of r)) i is each in
    let next : k + 1 ≤ behind (k + 1) (singles is) = behind_grows (k + 1) (singles is) in
    inner all k windows (Single i) (singles is ++ pieces) (quiet k (omega arith) (omega arith)) (build_access windows (number_of r) i b)
    (more_singles all (k + 1) (windows_behind (Single i) windows) is pieces d r (All-tail (Builds (number_of r)) i is each) (λ w low high. quiet w (omega arith) high)
    (others_behind (Single i) windows d r (build_ends r i b) h) go)

singles_access : (all : List Piece) (k : ℕ) (windows : List Window) (form : List Insn) (pieces : List Piece) (d : Named) (r : Register) → All (Builds (number_of r)) form → 1 ≤ length form
    → IsQuiet all k (behind k (singles form)) → Covers (windows_at all k windows) d
    → ((ws : List Window) → Covers ws (set d r 0) → HaveAccess all (behind k (singles form)) ws pieces) → HaveAccess all k windows (singles form ++ pieces)
singles_access all k windows [] pieces d r each some quiet h go = absurd (omega arith)
singles_access all k windows (i ∷ is) pieces d r each some quiet h go =
    let b : Builds (number_of r) i = All-head (Builds (number_of r)) i is each in
    let here : List Window = windows_at all k windows in (
      build_access here (number_of r) i b,
      more_singles all (k + 1) (windows_behind (Single i) here) is pieces d r (All-tail (Builds (number_of r)) i is each) (λ w low high. quiet w (omega arith) high)
          (others_behind (Single i) here d r (build_ends r i b) (covers_others here d r h)) (λ ws c. go ws (covers_cleared ws d r c)),
    )

-- ---- loads and stores

eights : (k : ℕ) → nat_eq ((8 * k) % 8) 0 ≡ true
eights k = eq-eqb ((8 * k) % 8) 0 (omega arith)

load_access : (windows : List Window) (r s : Register) (d : Named) (k : ℕ) → Covers windows d → k < get d s → HasAccess windows (Single (insn.Load Ld (number_of r) (number_of s) (pos (8 * k))))
unfolding load_size
load_access windows r s d k h below = (eights k, inl (span_covers (number_of s) (get d s) k windows below (h.each s (omega arith))))

store_access : (windows : List Window) (r s : Register) (d : Named) (k : ℕ) → Covers windows d → k < get d s → HasAccess windows (Single (insn.Store Sd (number_of r) (number_of s) (pos (8 * k))))
unfolding store_size
store_access windows r s d k h below = (eights k, span_covers (number_of s) (get d s) k windows below (h.each s (omega arith)))

table_access : (windows : List Window) (table_words : ℕ) (r s : Register) → HasAccess (windows_behind (look_piece table_words s) windows) (Single (insn.Load Ld (number_of r) (number_of s) (pos 0)))
unfolding load_size
table_access windows table_words r s = (refl, inr (inl (refl, omega (arith, ints), omega (arith, ints))))

-- ---- parts that ask for no window

branch_access : (all : List Piece) (at : ℕ → ℕ) (k : ℕ) (op : BranchOp) (rs1 rs2 label : ℕ) (c : Choice at k (branch op rs1 rs2 label)) (windows : List Window) (pieces : List Piece)
    → ((ws : List Window) → HaveAccess all (behind k (branch_pieces k (at label) op rs1 rs2 c)) ws pieces) → HaveAccess all k windows (branch_pieces k (at label) op rs1 rs2 c ++ pieces)
branch_access all at k op rs1 rs2 label (inl near) windows pieces go = (tt, go (windows_behind (Single (insn.Branch op rs1 rs2 near.0)) (windows_at all k windows)))
branch_access all at k op rs1 rs2 label (inr away) windows pieces go =
    let first : List Window = windows_behind (Single (insn.Branch (opposite op) rs1 rs2 (pos 12))) (windows_at all k windows) in
    (tt, (tt, go (windows_behind (FarJump 0 away.0 away.1) (windows_at all (k + 1) first))))

jump_access : (all : List Piece) (at : ℕ → ℕ) (k label : ℕ) (c : Choice at k (jump label)) (windows : List Window) (pieces : List Piece) (d : Named) → Covers (windows_at all k windows) d
    → ((ws : List Window) → Covers ws d → HaveAccess all (behind k (jump_pieces k (at label) c)) ws pieces) → HaveAccess all k windows (jump_pieces k (at label) c ++ pieces)
jump_access all at k label (inl near) windows pieces d h go = (tt, go _ (covers_behind (Single (insn.Jal 0 near.0)) (windows_at all k windows) d (jal_ends near.0) h))
jump_access all at k label (inr away) windows pieces d h go = (tt, go _ (covers_behind (FarJump 0 away.0 away.1) (windows_at all k windows) d (far_ends away.0 away.1) h))

room_access : (all : List Piece) (at : ℕ → ℕ) (k : ℕ) (b : Bool) (n label : ℕ) (rest : List Part) (cs : Choices at k ((room_parts b n ++ branch Bltu 31 (number_of register.Top) label ∷ []) ++ rest))
    → (windows : List Window) → HaveThen all at k (room_parts b n ++ branch Bltu 31 (number_of register.Top) label ∷ []) rest cs zeros
    → HaveAccess all k windows (pieces_in at k ((room_parts b n ++ branch Bltu 31 (number_of register.Top) label ∷ []) ++ rest) cs)
room_access all at k true n label rest cs windows go =
    let first : List Window = windows_behind (Single (insn.Imm Addi 31 3 (minus (8 * n)))) (windows_at all k windows) in
    let more : List Piece = later_pieces at k (room_parts true n ++ branch Bltu 31 (number_of register.Top) label ∷ []) rest cs in
    (tt, branch_access all at (k + 1) Bltu 31 (number_of register.Top) label cs.1.0 first more (λ ws. go ws (covers_none ws)))
room_access all at k false n label rest cs windows go =
    let first : List Window = windows_behind (Single (insn.Lui 31 (upper_part (8 * n)))) (windows_at all k windows) in
    let second : List Window = windows_behind (Single (insn.Imm Addi 31 31 (lower_part (8 * n)))) (windows_at all (k + 1) first) in
    let third : List Window = windows_behind (Single (insn.Reg Sub 31 3 31)) (windows_at all (k + 1 + 1) second) in
    let more : List Piece = later_pieces at k (room_parts false n ++ branch Bltu 31 (number_of register.Top) label ∷ []) rest cs in
    (tt, (tt, (tt, branch_access all at (k + 1 + 1 + 1) Bltu 31 (number_of register.Top) label cs.1.1.1.0 third more (λ ws. go ws (covers_none ws)))))

-- ---- checks

window_covers : (windows : List Window) (b : Bool) (r : Register) (k : ℕ) (d : Named) → 1 ≤ k → k ≤ 4096 → Covers windows d → Covers (windows_behind (window_by b r k) windows) (set d r k)
window_covers windows true r k d least most h =
    let low : ℤ = minus (8 * k) in
    let spans : Spans (number_of r) k (InStack (number_of r) (pos 0) (pos (below low))) =
    (refl, omega (arith, ints), subst (λ (n : ℕ). pos (8 * k) ≤ℤ pos n) (sym (below_minus (8 * k))) (omega (arith, ints))) in
    covers_set (windows_behind (window_by true r k) windows) d r k (others_behind (window_by true r k) windows d r (near_ends r low) (covers_others windows d r h)) (λ named some. inl spans)
window_covers windows false r k d least most h =
    let high : ℕ = upper_part (8 * k) in
    let low : ℤ = lower_part (8 * k) in
    let v : AreHalves (8 * k) = halves (8 * k) (omega arith) in
    let spans : Spans (number_of r) k (InStack (number_of r) (pos 0) (pos (value high low))) =
    (refl, omega (arith, ints), subst (λ (n : ℕ). pos (8 * k) ≤ℤ pos n) (sym v.is) (omega (arith, ints))) in
    covers_set (windows_behind (window_by false r k) windows) d r k (others_behind (window_by false r k) windows d r (stack_ends r high low) (covers_others windows d r h)) (λ named some. inl spans)

window_access : (all : List Piece) (k : ℕ) (windows : List Window) (pieces : List Piece) (b : Bool) (r : Register) (n : ℕ) (d : Named) → 1 ≤ n → n ≤ 4096 → Covers (windows_at all k windows) d
    → ((ws : List Window) → Covers ws (set d r n) → HaveAccess all (k + word_count (window_by b r n)) ws pieces) → HaveAccess all k windows (window_by b r n ∷ pieces)
window_access all k windows pieces true r n d least most h go = (tt, go _ (window_covers (windows_at all k windows) true r n d least most h))
window_access all k windows pieces false r n d least most h go = (tt, go _ (window_covers (windows_at all k windows) false r n d least most h))

-- the check of a table ends the window of the stack that its register has, and the load reads under its own
look_access : (all : List Piece) (k : ℕ) (windows : List Window) (pieces : List Piece) (table_words : ℕ) (r s : Register) (d : Named) → is_target (address_of (k + 6)) 0 all ≡ false → Covers (windows_at all k windows) d
    → ((ws : List Window) → Covers ws (set (set d s 0) r 0) → HaveAccess all (k + 6 + 1) ws pieces)
    → HaveAccess all k windows (look_piece table_words s ∷ Single (insn.Load Ld (number_of r) (number_of s) (pos 0)) ∷ pieces)
look_access all k windows pieces table_words r s d still h go =
    let here : List Window = windows_at all k windows in
    let check : Piece = look_piece table_words s in
    let load : Insn = insn.Load Ld (number_of r) (number_of s) (pos 0) in
    let checked : List Window = windows_behind check here in
    let cleared : Covers checked (set d s 0) = covers_cleared checked d s (others_behind check here d s (table_ends s (upper_part (536870904 + 8 * table_words)) (lower_part (536870904 + 8 * table_words))) (covers_others here d s h)) in
    let loaded : Covers (windows_behind (Single load) checked) (set (set d s 0) r 0) =
    covers_cleared (windows_behind (Single load) checked) (set d s 0) r (others_behind (Single load) checked (set d s 0) r (writes_only load r refl) (covers_others checked (set d s 0) r cleared)) in
    (tt, inner all (k + 6) checked (Single load) pieces still (table_access here table_words r s) (go (windows_behind (Single load) checked) loaded))

-- ---- one instruction

-- that writes a register of the word machine, with no new window
one_access : (all : List Piece) (k : ℕ) (windows : List Window) (pieces : List Piece) (i : Insn) (r : Register) (d : Named) → written_by i ≡ number_of r → HasAccess (windows_at all k windows) (Single i)
    → Covers (windows_at all k windows) d → ((ws : List Window) → Covers ws (set d r 0) → HaveAccess all (k + 1) ws pieces) → HaveAccess all k windows (Single i ∷ pieces)
one_access all k windows pieces i r d is access h go =
    let here : List Window = windows_at all k windows in
    let after : List Window = windows_behind (Single i) here in
    (access, go after (covers_cleared after d r (others_behind (Single i) here d r (writes_only i r is) (covers_others here d r h))))

imm_access : (all : List Piece) (k : ℕ) (windows : List Window) (pieces : List Piece) (op : ImmOp) (r s : Register) (imm : ℤ) (d : Named) → Covers (windows_at all k windows) d
    → ((ws : List Window) → Covers ws (set d r (imm_window op imm (get d s))) → HaveAccess all (k + 1) ws pieces) → HaveAccess all k windows (Single (insn.Imm op (number_of r) (number_of s) imm) ∷ pieces)
imm_access all k windows pieces op r s imm d h go =
    let here : List Window = windows_at all k windows in
    let i : Insn = insn.Imm op (number_of r) (number_of s) imm in
    let after : List Window = windows_behind (Single i) here in (
      tt,
      go after (covers_set after d r (imm_window op imm (get d s)) (others_behind (Single i) here d r (writes_only i r refl) (covers_others here d r h))
          (λ named some. imm_span op imm (number_of r) (number_of s) (get d s) here (not_x0 r named) (h.each s) some)),
    )

-- a piece that ends no window
same_access : (all : List Piece) (k : ℕ) (windows : List Window) (pieces : List Piece) (piece : Piece) (d : Named) → EndsNone piece → HasAccess (windows_at all k windows) piece → Covers (windows_at all k windows) d
    → ((ws : List Window) → Covers ws d → HaveAccess all (k + word_count piece) ws pieces) → HaveAccess all k windows (piece ∷ pieces)
same_access all k windows pieces piece d ends access h go = (access, go _ (covers_behind piece (windows_at all k windows) d ends h))

put_access : (all : List Piece) (k : ℕ) (windows : List Window) (pieces : List Piece) (r : Register) (d : Named) → is_target (address_of (k + 1)) 0 all ≡ false → Covers (windows_at all k windows) d
    → ((ws : List Window) → Covers ws d → HaveAccess all (k + 1 + 2) ws pieces) → HaveAccess all k windows (Single (copy 10 (number_of r)) ∷ ServiceCall 1 ∷ pieces)
put_access all k windows pieces r d still h go =
    let here : List Window = windows_at all k windows in
    let copied : List Window = windows_behind (Single (copy 10 (number_of r))) here in (
      tt,
      inner all (k + 1) copied (ServiceCall 1) pieces still tt
          (go (windows_behind (ServiceCall 1) copied) (covers_behind (ServiceCall 1) copied d put_ends (covers_behind (Single (copy 10 (number_of r))) here d (copy_ends (number_of r) (pos 0)) h))),
    )

take_access : (all : List Piece) (k : ℕ) (windows : List Window) (pieces : List Piece) (r : Register) (d : Named) → is_target (address_of (k + 2)) 0 all ≡ false → Covers (windows_at all k windows) d
    → ((ws : List Window) → Covers ws (set d r 0) → HaveAccess all (k + 2 + 1) ws pieces) → HaveAccess all k windows (ServiceCall 2 ∷ Single (copy (number_of r) 10) ∷ pieces)
take_access all k windows pieces r d still h go =
    let here : List Window = windows_at all k windows in
    let taken : List Window = windows_behind (ServiceCall 2) here in
    let i : Insn = copy (number_of r) 10 in
    let after : List Window = windows_behind (Single i) taken in
    let kept : Covers taken d = covers_behind (ServiceCall 2) here d take_ends h in
    (tt, inner all (k + 2) taken (Single i) pieces still tt (go after (covers_cleared after d r (others_behind (Single i) taken d r (writes_only i r refl) (covers_others taken d r kept)))))

-- ---- a micro-operation

module _ (all : List Piece) (at : ℕ → ℕ) (entries table_words : ℕ) (b : Bounds) where
  abbrev pieces_behind : (m : Micro) (k : ℕ) (rest : List Part) → Choices at k (parts_of entries table_words m ++ rest) → List Piece
  pieces_behind m k rest cs = later_pieces at k (parts_of entries table_words m) rest cs

  pub micro_access : (m : Micro) (k : ℕ) (rest : List Part) (cs : Choices at k (parts_of entries table_words m ++ rest)) (windows : List Window) (d : Named)
      → IsQuiet all k (later_word at k (parts_of entries table_words m) rest cs) → Covers (windows_at all k windows) d → has_needs b m d ≡ true
      → HaveThen all at k (parts_of entries table_words m) rest cs (discipline.windows_behind m d) → HaveAccess all k windows (pieces_in at k (parts_of entries table_words m ++ rest) cs)
  micro_access (micro.Set r v) k rest cs windows d quiet h needs go = singles_access all k windows cs.0.0 (pieces_behind (micro.Set r v) k rest cs) d r cs.0.1.each cs.0.1.least quiet h go
  micro_access (micro.Imm op r s imm) k rest cs windows d quiet h needs go = imm_access all k windows (pieces_behind (micro.Imm op r s imm) k rest cs) op r s imm d h go
  micro_access (micro.Shift op r s amount) k rest cs windows d quiet h needs go = one_access all k windows (pieces_behind (micro.Shift op r s amount) k rest cs) (insn.Shift op (number_of r) (number_of s) amount) r d refl tt h go
  micro_access (micro.Alu op r s t) k rest cs windows d quiet h needs go = one_access all k windows (pieces_behind (micro.Alu op r s t) k rest cs) (insn.Reg op (number_of r) (number_of s) (number_of t)) r d refl tt h go
  micro_access (micro.Window r n) k rest cs windows d quiet h needs go =
      let bounds = and_parts (nat_le 1 n) (nat_le n 4096) (and_parts (not (is_zero r)) (nat_le 1 n && nat_le n 4096) needs).1 in
      window_access all k windows (pieces_behind (micro.Window r n) k rest cs) (nat_le n 255) r n d (leb-true 1 n bounds.0) (leb-true n 4096 bounds.1) h go
  micro_access (micro.Get r s n) k rest cs windows d quiet h needs go =
      one_access all k windows (pieces_behind (micro.Get r s n) k rest cs) (insn.Load Ld (number_of r) (number_of s) (pos (8 * n))) r d refl (load_access (windows_at all k windows) r s d n h (ltb-true n (get d s) (and_parts (nat_lt n (get d s)) (nat_lt n 256) needs).0)) h go
  micro_access (micro.Save s n r) k rest cs windows d quiet h needs go =
      same_access all k windows (pieces_behind (micro.Save s n r) k rest cs) (Single (insn.Store Sd (number_of r) (number_of s) (pos (8 * n)))) d (writes_none (insn.Store Sd (number_of r) (number_of s) (pos (8 * n))) refl)
      (store_access (windows_at all k windows) r s d n h (ltb-true n (get d s) (and_parts (nat_lt n (get d s)) (nat_lt n 256) needs).0)) h go
  micro_access (micro.Look r s) k rest cs windows d quiet h needs go = look_access all k windows (pieces_behind (micro.Look r s) k rest cs) table_words r s d (quiet (k + 6) (omega arith) (omega arith)) h go
  micro_access (micro.Room n label) k rest cs windows d quiet h needs go = room_access all at k (nat_le n 255) n label rest cs windows go
  micro_access (micro.Test op r s label) k rest cs windows d quiet h needs go =
      branch_access all at k op (number_of r) (number_of s) label cs.0 windows (pieces_behind (micro.Test op r s label) k rest cs) (λ ws. go ws (covers_none ws))
  micro_access (micro.Jump label) k rest cs windows d quiet h needs go = jump_access all at k label cs.0 windows (pieces_behind (micro.Jump label) k rest cs) d h go
  micro_access (micro.Enter r) k rest cs windows d quiet h needs go =
      same_access all k windows (pieces_behind (micro.Enter r) k rest cs) (entry_piece entries r) d (entry_ends (number_of r) (upper_part (8 * entries)) (lower_part (8 * entries))) tt h go
  micro_access (micro.Put r) k rest cs windows d quiet h needs go = put_access all k windows (pieces_behind (micro.Put r) k rest cs) r d (quiet (k + 1) (omega arith) (omega arith)) h go
  micro_access (micro.Take r) k rest cs windows d quiet h needs go = take_access all k windows (pieces_behind (micro.Take r) k rest cs) r d (quiet (k + 2) (omega arith) (omega arith)) h go
  micro_access micro.End k rest cs windows d quiet h needs go = same_access all k windows (pieces_behind micro.End k rest cs) (ServiceCall 0) d end_ends tt h go
  micro_access micro.Exhaust k rest cs windows d quiet h needs go = same_access all k windows (pieces_behind micro.Exhaust k rest cs) (ServiceCall 4) d exhaust_ends tt h go
  micro_access (micro.Fault kind place) k rest cs windows d quiet h needs go =
      same_access all k windows (pieces_behind (micro.Fault kind place) k rest cs) (fault_piece kind place) d (fault_ends (kind_number kind) (upper_part place) (lower_part place)) tt h go
