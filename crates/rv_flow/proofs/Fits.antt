-- The items of disciplined code are encodable, and name labels of its blocks.
use Rattle.std.proofs.Common.{◌≡◌, ℕ, zero, suc, ◌+◌, ◌-◌, ◌*◌, ◌%◌, ◌^◌, ◌<◌, ◌≤◌, ℤ, pos, negsuc, Bool, true, false, not, ◌&&◌, nat_lt, nat_le, if◌then◌else◌, List, [], ◌∷◌, ◌++◌, length, Some, None, arith, refl, subst, lit<}
use Rattle.std.proofs.lemmas.Bool.{and_parts, ltb-true, ltb-false, leb-true}
use Rattle.std.specs.List.{AllByRecursion}
use Rattle.fy_base.specs.declared.data.FaultKind.{FaultKind}
use Rattle.fy_base.specs.declared.data.FaultKind.TheVariants as fault
use Rattle.rv_insn.specs.Encoding.{IsWithin, IsEncodable, amount_bits}
use Rattle.rv_insn.specs.declared.instructions.BranchOp.TheVariants.{Bltu}
use Rattle.rv_insn.specs.declared.instructions.Insn.{Insn}
use Rattle.rv_guard.specs.declared.pieces.Piece.TheVariants.{StackCheck, NearCheck, TableCheck, Entry, FaultCall}
use Rattle.rv_guard.specs.Patterns.{instructions_of}
use Rattle.rv_asm.specs.declared.items.Item.{Item}
use Rattle.rv_asm.specs.Items.{named_by, IsFit}
use Rattle.rv_word.specs.declared.micros.Register.{Register}
use Rattle.rv_word.specs.declared.micros.Register.TheVariants as register
use Rattle.rv_word.specs.declared.micros.Micro.{Micro}
use Rattle.rv_word.specs.declared.micros.Micro.TheVariants.{Set, Imm, Shift, Alu, Window, Get, Save, Look, Room, Test, Jump, Enter, Put, Take, End, Exhaust, Fault}
use Rattle.rv_word.specs.Word.{Named, Code, get, zeros}
use Rattle.rv_word.specs.Discipline.{is_short, is_zero, has_needs, windows_behind, closes, is_disciplined_from, are_disciplined, are_below, bounds_of}
use Rattle.rv_flow.specs.Lowering.{number_of, upper_part, lower_part, minus, kind_number, plain}
use Rattle.rv_flow.proofs.Parts.{Part, mark, stays, constant, branch, jump, far, part_items, items_in, room_parts, window_by, parts_of, micros_parts, blocks_parts, entry_parts, parts_in}
use Rattle.rv_flow.proofs.Numbered.{numbered}

-- ---- numbers

upper_fits : (v : ℕ) → v + 2048 < 2 ^ 32 → upper_part v < 2 ^ 20
upper_fits v h = omega arith

lower_fits : (v : ℕ) → IsWithin (2 ^ 11) (lower_part v)
lower_fits v =
    let P : Bool → Type 0 = λ b. nat_lt (v % 4096) 2048 ≡ b → IsWithin (2 ^ 11) (if b then pos (v % 4096) else negsuc (4095 - v % 4096)) in
    elim (nat_lt (v % 4096) 2048) as P [
      | true ↦ λ e. ltb-true (v % 4096) 2048 e
      | false ↦ λ e. let high : 2048 ≤ v % 4096 = ltb-false (v % 4096) 2048 e in below_half v high
    ] refl
  where
    below_half : (v : ℕ) → 2048 ≤ v % 4096 → 4095 - v % 4096 < 2 ^ 11
    below_half v h = omega arith

minus_fits : (v : ℕ) → v ≤ 2048 → IsWithin (2 ^ 11) (minus v)
minus_fits zero h = lit< tt
minus_fits (suc v) h = omega arith

short_fits : (imm : ℤ) → is_short imm ≡ true → IsWithin (2 ^ 11) imm
short_fits (pos n) h = ltb-true n 2048 h
short_fits (negsuc n) h = ltb-true n 2048 h

eight_fits : (k : ℕ) → k < 256 → 8 * k < 2 ^ 11
eight_fits k h = omega arith

kind_fits : (kind : FaultKind) → kind_number kind < 2 ^ 11
kind_fits fault.Overflow = lit< tt
kind_fits fault.Zero = lit< tt
kind_fits fault.Range = lit< tt

below_32 : (r : Register) → number_of r < 32
below_32 r = (numbered r).below

-- ---- patterns

abbrev AreEncodable : List Insn → Type 0
AreEncodable insns = AllByRecursion IsEncodable insns

stack_fits : (r v : ℕ) → r < 32 → v + 2048 < 2 ^ 32 → AreEncodable (instructions_of (StackCheck r (upper_part v) (lower_part v)))
stack_fits r v below small = (
  (below, lit< tt, lit< tt, refl),
  ((lit< tt, below, lit< tt, refl), ((lit< tt, upper_fits v small), ((lit< tt, lit< tt, lower_fits v), ((lit< tt, lit< tt, below), ((lit< tt, lit< tt, lit< tt, refl), ((lit< tt, below, lit< tt), ((lit< tt, lit< tt, lit< tt, refl), tt))))))),
)

near_fits : (r v : ℕ) → r < 32 → v ≤ 2048 → AreEncodable (instructions_of (NearCheck r (minus v)))
near_fits r v below small =
    ((below, lit< tt, lit< tt, refl), ((lit< tt, lit< tt, minus_fits v small), ((lit< tt, below, lit< tt, refl), ((lit< tt, below, lit< tt), ((lit< tt, lit< tt, lit< tt, refl), tt)))))

window_fits : (b : Bool) (r : Register) (k : ℕ) → nat_le k 255 ≡ b → k ≤ 4096 → AreEncodable (instructions_of (window_by b r k))
window_fits true r k near most = let few : k ≤ 255 = leb-true k 255 near in near_fits (number_of r) (8 * k) (below_32 r) (omega arith)
window_fits false r k near most = stack_fits (number_of r) (8 * k) (below_32 r) (omega arith)

table_fits : (r v : ℕ) → r < 32 → v + 2048 < 2 ^ 32 → AreEncodable (instructions_of (TableCheck r (upper_part v) (lower_part v)))
table_fits r v below small =
    ((below, lit< tt, lit< tt, refl), ((lit< tt, upper_fits v small), ((lit< tt, lit< tt, lower_fits v), ((lit< tt, below, lit< tt, refl), ((lit< tt, below, lit< tt), ((lit< tt, lit< tt, lit< tt, refl), tt))))))

entry_fits : (r v : ℕ) → r < 32 → v + 2048 < 2 ^ 32 → AreEncodable (instructions_of (Entry r (upper_part v) (lower_part v)))
entry_fits r v below small = (
  (lit< tt, below, lit< tt),
  ((lit< tt, upper_fits v small), ((lit< tt, lit< tt, lower_fits v), ((lit< tt, lit< tt, lit< tt, refl), ((lit< tt, lit< tt), ((lit< tt, lit< tt, lit< tt), ((lit< tt, lit< tt, lit< tt), tt)))))),
)

fault_fits : (kind : FaultKind) (v : ℕ) → v + 2048 < 2 ^ 32 → AreEncodable (instructions_of (FaultCall (kind_number kind) (upper_part v) (lower_part v)))
fault_fits kind v small = ((lit< tt, lit< tt, kind_fits kind), ((lit< tt, upper_fits v small), ((lit< tt, lit< tt, lower_fits v), ((lit< tt, lit< tt, lit< tt), (tt, tt)))))

-- ---- parts

-- an item of the part is encodable, and names a label below n
abbrev PartFits : ℕ → Part → Type 0
PartFits n (mark label) = Unit {0}
PartFits n (stays piece) = AreEncodable (instructions_of piece)
PartFits n (constant rd value) = rd < 32
PartFits n (branch op rs1 rs2 label) = ((rs1 < 32) × (rs2 < 32)) × (label < n)
PartFits n (jump label) = label < n
PartFits n (far label) = label < n

abbrev PartsFit : ℕ → List Part → Type 0
PartsFit n [] = Unit {0}
PartsFit n (part ∷ parts) = PartFits n part × PartsFit n parts

pub record ItemFits (n : ℕ) (item : Item) : Type 0 where
  pub fit : IsFit item
  pub names : (label : ℕ) → named_by item ≡ Some label → label < n

abbrev pub ItemsFit : ℕ → List Item → Type 0
ItemsFit n [] = Unit {0}
ItemsFit n (item ∷ items) = ItemFits n item × ItemsFit n items

named : (n l label : ℕ) → l < n → Some l ≡ Some label → label < n
named n l label h e = let same : l ≡ label = cc in subst (λ (x : ℕ). x < n) same h

unnamed : (n label : ℕ) → None ≡ Some label → label < n
unnamed n label e = absurd (cc)

plain_fits : (n : ℕ) (insns : List Insn) (items : List Item) → AreEncodable insns → ItemsFit n items → ItemsFit n (plain insns ++ items)
plain_fits n [] items h k = k
plain_fits n (i ∷ is) items h k = (record { fit = h.0; names = λ label e. unnamed n label e }, plain_fits n is items h.1 k)

part_fits : (n : ℕ) (part : Part) (items : List Item) → PartFits n part → ItemsFit n items → ItemsFit n (part_items part ++ items)
part_fits n (mark label) items h k = (record { fit = tt; names = λ l e. unnamed n l e }, k)
part_fits n (stays piece) items h k = plain_fits n (instructions_of piece) items h k
part_fits n (constant rd value) items h k = (record { fit = h; names = λ l e. unnamed n l e }, k)
part_fits n (branch op rs1 rs2 label) items h k = (record { fit = h.0; names = λ l e. named n label l h.1 e }, k)
part_fits n (jump label) items h k = (record { fit = tt; names = λ l e. named n label l h e }, k)
part_fits n (far label) items h k = (record { fit = tt; names = λ l e. named n label l h e }, k)

items_fit : (n : ℕ) (parts : List Part) → PartsFit n parts → ItemsFit n (items_in parts)
items_fit n [] h = tt
items_fit n (part ∷ parts) h = part_fits n part (items_in parts) h.0 (items_fit n parts h.1)

-- ---- micro-operations

room_fits : (n k label : ℕ) (b : Bool) (rest : List Part) → nat_le k 255 ≡ b → k ≤ 4096 → label < n → PartsFit n rest → PartsFit n ((room_parts b k ++ branch Bltu 31 (number_of register.Top) label ∷ []) ++ rest)
room_fits n k label true rest e most below h =
    let low : k ≤ 255 = leb-true k 255 e in
    (((lit< tt, lit< tt, minus_fits (8 * k) (omega arith)), tt), (((lit< tt, lit< tt), below), h))
room_fits n k label false rest e most below h =
    let small : 8 * k + 2048 < 2 ^ 32 = omega arith in
    (((lit< tt, upper_fits (8 * k) small), tt), (((lit< tt, lit< tt, lower_fits (8 * k)), tt), (((lit< tt, lit< tt, lit< tt), tt), (((lit< tt, lit< tt), below), h))))

module _ (code : Code) (few : length code.entries ≤ 4194304) (table : length code.table ≤ 2 ^ 28) (places : length code.places ≤ 2 ^ 31) where
  abbrev n : ℕ
  n = length code.blocks

  micro_fits : (m : Micro) (windows : Named) (rest : List Part) → has_needs (bounds_of code) m windows ≡ true → PartsFit n rest → PartsFit n (parts_of (length code.entries) (length code.table) m ++ rest)
  micro_fits (Set r v) windows rest h k = (below_32 r, k)
  micro_fits (Imm op r s imm) windows rest h k = (((below_32 r, below_32 s, short_fits imm h), tt), k)
  micro_fits (Shift op r s amount) windows rest h k = (((below_32 r, below_32 s, ltb-true amount (2 ^ amount_bits op) h), tt), k)
  micro_fits (Alu op r s t) windows rest h k = (((below_32 r, below_32 s, below_32 t), tt), k)
  micro_fits (Window r c) windows rest h k =
      let most : c ≤ 4096 = leb-true c 4096 (and_parts (nat_le 1 c) (nat_le c 4096) (and_parts (not (is_zero r)) (nat_le 1 c && nat_le c 4096) h).1).1 in
      (window_fits (nat_le c 255) r c refl most, k)
  micro_fits (Get r s c) windows rest h k = (((below_32 r, below_32 s, eight_fits c (ltb-true c 256 (and_parts (nat_lt c (get windows s)) (nat_lt c 256) h).1)), tt), k)
  micro_fits (Save s c r) windows rest h k = (((below_32 r, below_32 s, eight_fits c (ltb-true c 256 (and_parts (nat_lt c (get windows s)) (nat_lt c 256) h).1)), tt), k)
  micro_fits (Look r s) windows rest h k = (table_fits (number_of s) (536870904 + 8 * length code.table) (below_32 s) (omega arith), (((below_32 r, below_32 s, lit< tt), tt), k))
  micro_fits (Room c label) windows rest h k =
      let a = and_parts (nat_le c 4096) (nat_lt label n) h in
      room_fits n c label (nat_le c 255) rest refl (leb-true c 4096 a.0) (ltb-true label n a.1) k
  micro_fits (Test op r s label) windows rest h k = (((below_32 r, below_32 s), ltb-true label n h), k)
  micro_fits (Jump label) windows rest h k = (ltb-true label n h, k)
  micro_fits (Enter r) windows rest h k = (entry_fits (number_of r) (8 * length code.entries) (below_32 r) (omega arith), k)
  micro_fits (Put r) windows rest h k = (((lit< tt, below_32 r, lit< tt), tt), (((lit< tt, lit< tt, lit< tt), (tt, tt)), k))
  micro_fits (Take r) windows rest h k = (((lit< tt, lit< tt, lit< tt), (tt, tt)), (((below_32 r, lit< tt, lit< tt), tt), k))
  micro_fits End windows rest h k = (((lit< tt, lit< tt, lit< tt), (tt, tt)), k)
  micro_fits Exhaust windows rest h k = (((lit< tt, lit< tt, lit< tt), (tt, tt)), k)
  micro_fits (Fault kind place) windows rest h k = let below : place < length code.places = ltb-true place (length code.places) h in (fault_fits kind place (omega arith), k)

  micros_fit : (windows : Named) (ms : List Micro) (rest : List Part) → is_disciplined_from (bounds_of code) windows ms ≡ true → PartsFit n rest
      → PartsFit n (micros_parts (length code.entries) (length code.table) ms rest)
  micros_fit windows [] rest h k = k
  micros_fit windows (m ∷ []) rest h k = micro_fits m windows rest (and_parts (has_needs (bounds_of code) m windows) (closes m) h).0 k
  micros_fit windows (m ∷ next ∷ ms) rest h k =
      let a = and_parts (has_needs (bounds_of code) m windows) (is_disciplined_from (bounds_of code) (windows_behind m windows) (next ∷ ms)) h in
      micro_fits m windows (micros_parts (length code.entries) (length code.table) (next ∷ ms) rest) a.0 (micros_fit (windows_behind m windows) (next ∷ ms) rest a.1 k)

  blocks_fit : (label : ℕ) (blocks : List (List Micro)) → are_disciplined (bounds_of code) blocks ≡ true → PartsFit n (blocks_parts (length code.entries) (length code.table) label blocks)
  blocks_fit label [] h = tt
  blocks_fit label (ms ∷ blocks) h =
      let a = and_parts (is_disciplined_from (bounds_of code) zeros ms) (are_disciplined (bounds_of code) blocks) h in
      (tt, micros_fit zeros ms (blocks_parts (length code.entries) (length code.table) (suc label) blocks) a.0 (blocks_fit (suc label) blocks a.1))

  entries_fit : (labels : List ℕ) (rest : List Part) → are_below n labels ≡ true → PartsFit n rest → PartsFit n (entry_parts labels rest)
  entries_fit [] rest h k = k
  entries_fit (label ∷ labels) rest h k = let a = and_parts (nat_lt label n) (are_below n labels) h in (ltb-true label n a.0, entries_fit labels rest a.1 k)

  pub code_fits : are_disciplined (bounds_of code) code.blocks ≡ true → are_below n code.entries ≡ true → ItemsFit n (items_in (parts_in code))
  code_fits h below = items_fit n (parts_in code) (entries_fit code.entries (blocks_parts (length code.entries) (length code.table) 0 code.blocks) below (blocks_fit 0 code.blocks h))
