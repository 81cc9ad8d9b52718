-- Windows end at open words alone, so all loads and stores of disciplined code stand under windows.
use Rattle.std.proofs.Common.{◌≡◌, ◌⊎◌, ℕ, suc, ◌+◌, ◌<◌, ◌≤◌, Bool, true, false, not, ◌&&◌, nat_le, if◌then◌else◌, List, [], ◌∷◌, ◌++◌, length, arith, refl, sym, ◌∙◌, subst, inl, inr}
use Rattle.std.proofs.lemmas.Bool.{and_parts, false_from_ne_true, true≢false}
use Rattle.rv_insn.specs.declared.instructions.BranchOp.{BranchOp}
use Rattle.rv_insn.specs.declared.instructions.BranchOp.TheVariants.{Bltu}
use Rattle.rv_insn.specs.declared.instructions.Insn.{Insn}
use Rattle.rv_guard.specs.declared.pieces.Piece.{Piece}
use Rattle.rv_guard.specs.declared.pieces.Piece.TheVariants.{FarJump, StackCheck, NearCheck, TableCheck, Entry, ServiceCall, FaultCall, Single}
use Rattle.rv_guard.specs.declared.pieces.Window.{Window}
use Rattle.rv_guard.specs.Patterns.{word_count}
use Rattle.rv_guard.specs.Windows.{windows_behind}
use Rattle.rv_guard.specs.Rules.{address_of, is_target, windows_at}
use Rattle.rv_word.specs.declared.micros.Register.TheVariants as register
use Rattle.rv_word.specs.declared.micros.Micro.{Micro}
use Rattle.rv_word.specs.declared.micros.Micro.TheVariants as micro
use Rattle.rv_word.specs.Word.{Named, zeros}
use Rattle.rv_word.specs.Discipline.{Bounds, has_needs, closes, is_disciplined_from, are_disciplined}
use Rattle.rv_word.specs.Discipline as discipline
use Rattle.rv_flow.specs.Lowering.{number_of}
use Rattle.rv_flow.proofs.Parts.{Part, mark, stays, constant, branch, jump, far, room_parts, parts_of, micros_parts, blocks_parts, entry_parts}
use Rattle.rv_flow.proofs.Choices.{Choice, singles, branch_pieces, jump_pieces, part_pieces, behind, Choices, pieces_in, behind_grows}
use Rattle.rv_flow.proofs.Opened.{IsOpen}
use Rattle.rv_flow.proofs.Covers.{Covers, covers_none}
use Rattle.rv_flow.proofs.Accesses.{HaveAccess, IsQuiet, later_word, later, HaveThen, micro_access}

-- ---- the shape of micro-operations: some part first, and a branch last alone

abbrev pub is_plain_part : Part → Bool
is_plain_part (mark label) = false
is_plain_part (branch op rs1 rs2 label) = false
is_plain_part _ = true

abbrev pub are_plain : List Part → Bool
are_plain [] = true
are_plain (part ∷ parts) = is_plain_part part && are_plain parts

abbrev pub is_none : List Part → Bool
is_none [] = true
is_none (part ∷ parts) = false

abbrev pub is_shaped : List Part → Bool
is_shaped [] = true
is_shaped (mark label ∷ parts) = false
is_shaped (branch op rs1 rs2 label ∷ parts) = is_none parts
is_shaped (part ∷ parts) = is_shaped parts

room_shaped : (b : Bool) (n label : ℕ) → is_shaped (room_parts b n ++ branch Bltu 31 (number_of register.Top) label ∷ []) && not (is_none (room_parts b n ++ branch Bltu 31 (number_of register.Top) label ∷ [])) ≡ true
room_shaped true n label = refl
room_shaped false n label = refl

shaped : (entries table_words : ℕ) (m : Micro) → is_shaped (parts_of entries table_words m) && not (is_none (parts_of entries table_words m)) ≡ true
shaped entries table_words (micro.Room n label) = room_shaped (nat_le n 255) n label
shaped entries table_words m = refl

-- behind a branch the discipline counts no windows
branch_clears : (entries table_words : ℕ) (m : Micro) (d : Named) → are_plain (parts_of entries table_words m) ≡ false → discipline.windows_behind m d ≡ zeros
branch_clears entries table_words (micro.Room n label) d h = refl
branch_clears entries table_words (micro.Test op r s label) d h = refl
branch_clears entries table_words m d h = absurd (true≢false h)

-- ---- the words behind parts

some_word : (piece : Piece) → 1 ≤ word_count piece
some_word (FarJump link high low) = omega arith
some_word (StackCheck r high low) = omega arith
some_word (NearCheck r low) = omega arith
some_word (TableCheck r high low) = omega arith
some_word (Entry r high low) = omega arith
some_word (ServiceCall number) = omega arith
some_word (FaultCall kind high low) = omega arith
some_word (Single i) = omega arith

singles_grow : (k : ℕ) (form : List Insn) → 1 ≤ length form → k < behind k (singles form)
singles_grow k [] h = absurd (omega arith)
singles_grow k (i ∷ is) h = let g : k + 1 ≤ behind (k + 1) (singles is) = behind_grows (k + 1) (singles is) in omega (arith, g)

branch_grows : (at : ℕ → ℕ) (k : ℕ) (op : BranchOp) (rs1 rs2 label : ℕ) (c : Choice at k (branch op rs1 rs2 label)) → k < behind k (branch_pieces k (at label) op rs1 rs2 c)
branch_grows at k op rs1 rs2 label (inl near) = omega arith
branch_grows at k op rs1 rs2 label (inr away) = omega arith

jump_grows : (at : ℕ → ℕ) (k label : ℕ) (c : Choice at k (jump label)) → k < behind k (jump_pieces k (at label) c)
jump_grows at k label (inl near) = omega arith
jump_grows at k label (inr away) = omega arith

-- a part but a mark has some word
shaped_grows : (at : ℕ → ℕ) (k : ℕ) (part : Part) (parts : List Part) (c : Choice at k part) → is_shaped (part ∷ parts) ≡ true → k < behind k (part_pieces at k part c)
shaped_grows at k (mark label) parts c h = absurd (true≢false (sym h))
shaped_grows at k (stays piece) parts c h = let some : 1 ≤ word_count piece = some_word piece in omega (arith, some)
shaped_grows at k (constant rd value) parts c h = singles_grow k c.0 c.1.least
shaped_grows at k (branch op rs1 rs2 label) parts c h = branch_grows at k op rs1 rs2 label c
shaped_grows at k (jump label) parts c h = jump_grows at k label c
shaped_grows at k (far label) parts c h = omega arith

later_grows : (at : ℕ → ℕ) (k : ℕ) (xs ys : List Part) (cs : Choices at k (xs ++ ys)) → k ≤ later_word at k xs ys cs
later_grows at k [] ys cs = omega arith
later_grows at k (x ∷ xs) ys cs =
    let here : List Piece = part_pieces at k x cs.0 in
    let low : k ≤ behind k here = behind_grows k here in
    let high : behind k here ≤ later_word at (behind k here) xs ys cs.1 = later_grows at (behind k here) xs ys cs.1 in
    omega (arith, low, high)

grows : (at : ℕ → ℕ) (k : ℕ) (xs ys : List Part) (cs : Choices at k (xs ++ ys)) → is_shaped xs ≡ true → not (is_none xs) ≡ true → k < later_word at k xs ys cs
grows at k [] ys cs h some = absurd (true≢false (sym some))
grows at k (x ∷ xs) ys cs h some =
    let here : List Piece = part_pieces at k x cs.0 in
    let low : k < behind k here = shaped_grows at k x xs cs.0 h in
    let high : behind k here ≤ later_word at (behind k here) xs ys cs.1 = later_grows at (behind k here) xs ys cs.1 in
    omega (arith, low, high)

open_low : (at : ℕ → ℕ) (k : ℕ) (parts : List Part) (cs : Choices at k parts) (w : ℕ) → IsOpen at k parts cs w → k ≤ w
open_low at k [] cs w o = absurd o
open_low at k (mark label ∷ parts) cs w (inl o) = omega arith
open_low at k (branch op rs1 rs2 label ∷ parts) cs w (inl o) =
    let low : k < behind k (branch_pieces k (at label) op rs1 rs2 cs.0) = branch_grows at k op rs1 rs2 label cs.0 in omega (arith, low, o)
open_low at k (part ∷ parts) cs w (inl o) = absurd o
open_low at k (part ∷ parts) cs w (inr o) =
    let here : List Piece = part_pieces at k part cs.0 in
    let low : k ≤ behind k here = behind_grows k here in
    let high : behind k here ≤ w = open_low at (behind k here) parts cs.1 w o in
    omega (arith, low, high)

-- what is open from parts of this shape on: the word behind them, if they end in a branch, or what is open from there on
shaped_opens : (at : ℕ → ℕ) (k : ℕ) (xs ys : List Part) (cs : Choices at k (xs ++ ys)) (w : ℕ) → is_shaped xs ≡ true → IsOpen at k (xs ++ ys) cs w
    → ((w ≡ later_word at k xs ys cs) × (are_plain xs ≡ false)) ⊎ IsOpen at (later_word at k xs ys cs) ys (later at k xs ys cs) w
shaped_opens at k [] ys cs w h o = inr o
shaped_opens at k (mark label ∷ xs) ys cs w h o = absurd (true≢false (sym h))
shaped_opens at k (branch op rs1 rs2 label ∷ []) ys cs w h (inl o) = inl (o, refl)
shaped_opens at k (branch op rs1 rs2 label ∷ []) ys cs w h (inr o) = inr o
shaped_opens at k (branch op rs1 rs2 label ∷ x ∷ xs) ys cs w h o = absurd (true≢false (sym h))
shaped_opens at k (x ∷ xs) ys cs w h (inl o) = absurd o
shaped_opens at k (x ∷ xs) ys cs w h (inr o) = shaped_opens at (behind k (part_pieces at k x cs.0)) xs ys cs.1 w h o

-- behind a mark and a far jump
marked_up_to : (at : ℕ → ℕ) (label : ℕ) (parts : List Part) (k : ℕ) (cs : Choices at k (mark label ∷ parts)) (w : ℕ) → (w ≤ k) ⊎ IsOpen at k (mark label ∷ parts) cs w → (w ≤ k) ⊎ IsOpen at k parts cs.1 w
marked_up_to at label parts k cs w (inl below) = inl below
marked_up_to at label parts k cs w (inr (inl o)) = inl (omega arith)
marked_up_to at label parts k cs w (inr (inr o)) = inr o

far_up_to : (at : ℕ → ℕ) (label : ℕ) (parts : List Part) (k : ℕ) (cs : Choices at k (far label ∷ parts)) (w : ℕ) → (w ≤ k) ⊎ IsOpen at k (far label ∷ parts) cs w → (w ≤ k + 2) ⊎ IsOpen at (k + 2) parts cs.1 w
far_up_to at label parts k cs w (inl below) = inl (omega arith)
far_up_to at label parts k cs w (inr (inl o)) = absurd o
far_up_to at label parts k cs w (inr (inr o)) = inr o

-- ---- walking through code, where `Open` holds of every word at which windows end

module _ (all : List Piece) (at : ℕ → ℕ) (Open : ℕ → Type 0) (hits : (w : ℕ) → is_target (address_of w) 0 all ≡ true → Open w) where
  -- windows end at no word behind this one but those that the parts to come open; and the same of this one
  abbrev pub UpTo : (k : ℕ) (parts : List Part) → Choices at k parts → Type 0
  UpTo k parts cs = (w : ℕ) → Open w → (w ≤ k) ⊎ IsOpen at k parts cs w

  abbrev pub Before : (k : ℕ) (parts : List Part) → Choices at k parts → Type 0
  Before k parts cs = (w : ℕ) → Open w → (w < k) ⊎ IsOpen at k parts cs w

  up_to : (k : ℕ) (parts : List Part) (cs : Choices at k parts) → Before k parts cs → UpTo k parts cs
  up_to k parts cs f w o = elim (f w o) [ inl below ↦ inl (omega arith) | inr open_word ↦ inr open_word ]

  -- behind a micro-operation
  up_to_later : (k : ℕ) (xs ys : List Part) (cs : Choices at k (xs ++ ys)) → is_shaped xs ≡ true → UpTo k (xs ++ ys) cs → UpTo (later_word at k xs ys cs) ys (later at k xs ys cs)
  up_to_later k xs ys cs h f w o =
      let low : k ≤ later_word at k xs ys cs = later_grows at k xs ys cs in
      elim (f w o) [
        | inl below ↦ inl (omega arith)
        | inr open_word ↦ elim (shaped_opens at k xs ys cs w h open_word) [
          | inl e ↦ let is : w ≡ later_word at k xs ys cs = e.0 in inl (omega arith)
          | inr later_open ↦ inr later_open
        ]
      ]

  before_later : (k : ℕ) (xs ys : List Part) (cs : Choices at k (xs ++ ys)) → is_shaped xs ≡ true → not (is_none xs) ≡ true → are_plain xs ≡ true → UpTo k (xs ++ ys) cs
      → Before (later_word at k xs ys cs) ys (later at k xs ys cs)
  before_later k xs ys cs h some plain f w o =
      let low : k < later_word at k xs ys cs = grows at k xs ys cs h some in
      elim (f w o) [
        | inl below ↦ inl (omega arith)
        | inr open_word ↦ elim (shaped_opens at k xs ys cs w h open_word) [
          | inl e ↦ absurd (true≢false (sym plain ∙ e.1))
          | inr later_open ↦ inr later_open
        ]
      ]

  -- the words inside of a micro-operation are no targets
  quiet_within : (k : ℕ) (xs ys : List Part) (cs : Choices at k (xs ++ ys)) → is_shaped xs ≡ true → UpTo k (xs ++ ys) cs → IsQuiet all k (later_word at k xs ys cs)
  quiet_within k xs ys cs h f w low high = false_from_ne_true (is_target (address_of w) 0 all) (λ t.
      elim (f w (hits w t)) [
        | inl below ↦ omega arith
        | inr open_word ↦ elim (shaped_opens at k xs ys cs w h open_word) [
          | inl e ↦ let is : w ≡ later_word at k xs ys cs = e.0 in omega arith
          | inr later_open ↦ let there : later_word at k xs ys cs ≤ w = open_low at (later_word at k xs ys cs) ys (later at k xs ys cs) w later_open in omega arith
        ]
      ])

  -- nor is its first, where no branch stands before it
  first_quiet : (k : ℕ) (xs ys : List Part) (cs : Choices at k (xs ++ ys)) → is_shaped xs ≡ true → not (is_none xs) ≡ true → Before k (xs ++ ys) cs → is_target (address_of k) 0 all ≡ false
  first_quiet k xs ys cs h some f = false_from_ne_true (is_target (address_of k) 0 all) (λ t.
      let low : k < later_word at k xs ys cs = grows at k xs ys cs h some in
      elim (f k (hits k t)) [
        | inl below ↦ omega arith
        | inr open_word ↦ elim (shaped_opens at k xs ys cs k h open_word) [
          | inl e ↦ let is : k ≡ later_word at k xs ys cs = e.0 in omega arith
          | inr later_open ↦ let there : later_word at k xs ys cs ≤ k = open_low at (later_word at k xs ys cs) ys (later at k xs ys cs) k later_open in omega arith
        ]
      ])

  -- where a micro-operation stands: its first word may be a target, and no windows are counted, or it is none
  abbrev pub Stands : (k : ℕ) (parts : List Part) → Choices at k parts → Named → Type 0
  Stands k parts cs d = ((d ≡ zeros) × UpTo k parts cs) ⊎ Before k parts cs

  covers_at : (k : ℕ) (xs ys : List Part) (cs : Choices at k (xs ++ ys)) (windows : List Window) (d : Named) → is_shaped xs ≡ true → not (is_none xs) ≡ true → Stands k (xs ++ ys) cs d → Covers windows d
      → Covers (windows_at all k windows) d
  covers_at k xs ys cs windows d h some (inl s) c = subst (λ (e : Named). Covers (windows_at all k windows) e) (sym s.0) (covers_none (windows_at all k windows))
  covers_at k xs ys cs windows d h some (inr s) c =
      let still : is_target (address_of k) 0 all ≡ false = first_quiet k xs ys cs h some s in
      subst (λ (b : Bool). Covers (if b then [] else windows) d) (sym still) c

  stands_up_to : (k : ℕ) (parts : List Part) (cs : Choices at k parts) (d : Named) → Stands k parts cs d → UpTo k parts cs
  stands_up_to k parts cs d (inl s) = s.1
  stands_up_to k parts cs d (inr s) = up_to k parts cs s

  module _ (b : Bounds) (entries table_words : ℕ) where
    stands_later : (m : Micro) (k : ℕ) (rest : List Part) (cs : Choices at k (parts_of entries table_words m ++ rest)) (d : Named) → UpTo k (parts_of entries table_words m ++ rest) cs
        → Stands (later_word at k (parts_of entries table_words m) rest cs) rest (later at k (parts_of entries table_words m) rest cs) (discipline.windows_behind m d)
    stands_later m k rest cs d f =
        let xs : List Part = parts_of entries table_words m in
        let s = and_parts (is_shaped xs) (not (is_none xs)) (shaped entries table_words m) in
        let P : Bool → Type 0 = λ plain. are_plain xs ≡ plain → Stands (later_word at k xs rest cs) rest (later at k xs rest cs) (discipline.windows_behind m d) in
        elim (are_plain xs) as P [
          | true ↦ λ e. inr (before_later k xs rest cs s.0 s.1 e f)
          | false ↦ λ e. inl (branch_clears entries table_words m d e, up_to_later k xs rest cs s.0 f)
        ] refl

    -- one, with what is to hold behind it
    step_access : (m : Micro) (k : ℕ) (rest : List Part) (cs : Choices at k (parts_of entries table_words m ++ rest)) (windows : List Window) (d : Named)
        → Stands k (parts_of entries table_words m ++ rest) cs d → Covers windows d → has_needs b m d ≡ true
        → (UpTo k (parts_of entries table_words m ++ rest) cs → HaveThen all at k (parts_of entries table_words m) rest cs (discipline.windows_behind m d))
        → HaveAccess all k windows (pieces_in at k (parts_of entries table_words m ++ rest) cs)
    step_access m k rest cs windows d stands c needs go =
        let xs : List Part = parts_of entries table_words m in
        let s = and_parts (is_shaped xs) (not (is_none xs)) (shaped entries table_words m) in
        let f : UpTo k (xs ++ rest) cs = stands_up_to k (xs ++ rest) cs d stands in
        micro_access all at entries table_words b m k rest cs windows d (quiet_within k xs rest cs s.0 f) (covers_at k xs rest cs windows d s.0 s.1 stands c) needs (go f)

    -- the pieces of some parts keep rule 4 wherever they stand
    abbrev pub HaveAlways : List Part → Type 0
    HaveAlways parts = (k : ℕ) (cs : Choices at k parts) (windows : List Window) → UpTo k parts cs → HaveAccess all k windows (pieces_in at k parts cs)

    micros_access : (ms : List Micro) (rest : List Part) → HaveAlways rest → (k : ℕ) (cs : Choices at k (micros_parts entries table_words ms rest)) (windows : List Window) (d : Named)
        → is_disciplined_from b d ms ≡ true → Stands k (micros_parts entries table_words ms rest) cs d → Covers windows d → HaveAccess all k windows (pieces_in at k (micros_parts entries table_words ms rest) cs)
    micros_access [] rest go k cs windows d h stands c = absurd (true≢false (sym h))
    micros_access (m ∷ []) rest go k cs windows d h stands c =
        let xs : List Part = parts_of entries table_words m in
        let s = and_parts (is_shaped xs) (not (is_none xs)) (shaped entries table_words m) in
        step_access m k rest cs windows d stands c (and_parts (has_needs b m d) (closes m) h).0
        (λ f ws covers. go (later_word at k xs rest cs) (later at k xs rest cs) ws (up_to_later k xs rest cs s.0 f))
    micros_access (m ∷ next ∷ ms) rest go k cs windows d h stands c =
        let xs : List Part = parts_of entries table_words m in
        let ys : List Part = micros_parts entries table_words (next ∷ ms) rest in
        let e : Named = discipline.windows_behind m d in
        let n = and_parts (has_needs b m d) (is_disciplined_from b e (next ∷ ms)) h in
        step_access m k ys cs windows d stands c n.0
        (λ f ws covers. micros_access (next ∷ ms) rest go (later_word at k xs ys cs) (later at k xs ys cs) ws e n.1 (stands_later m k ys cs d f) covers)

    blocks_access : (label : ℕ) (blocks : List (List Micro)) → are_disciplined b blocks ≡ true → HaveAlways (blocks_parts entries table_words label blocks)
    blocks_access label [] h k cs windows f = tt
    blocks_access label (ms ∷ blocks) h k cs windows f =
        let rest : List Part = blocks_parts entries table_words (suc label) blocks in
        let a = and_parts (is_disciplined_from b zeros ms) (are_disciplined b blocks) h in
        let g : UpTo k (micros_parts entries table_words ms rest) cs.1 = λ w o. marked_up_to at label (micros_parts entries table_words ms rest) k cs w (f w o) in
        micros_access ms rest (blocks_access (suc label) blocks a.1) k cs.1 windows zeros a.0 (inl (refl, g)) (covers_none windows)

    entries_access : (labels : List ℕ) (rest : List Part) → HaveAlways rest → HaveAlways (entry_parts labels rest)
    entries_access [] rest go k cs windows f = go k cs windows f
    entries_access (label ∷ labels) rest go k cs windows f = (
      tt,
      entries_access labels rest go (k + 2) cs.1 (windows_behind (FarJump 0 cs.0.0 cs.0.1) (windows_at all k windows)) (λ w o. far_up_to at label (entry_parts labels rest) k cs w (f w o)),
    )

    pub code_access : (labels : List ℕ) (blocks : List (List Micro)) → are_disciplined b blocks ≡ true → HaveAlways (entry_parts labels (blocks_parts entries table_words 0 blocks))
    code_access labels blocks h = entries_access labels (blocks_parts entries table_words 0 blocks) (blocks_access 0 blocks h)
