-- The parts of disciplined micro-operations are safe.
use Rattle.std.proofs.Common.{◌≡◌, ◌⊎◌, ℕ, suc, ◌+◌, ◌*◌, ◌<◌, ◌≤◌, ◌^◌, ℤ, pos, Bool, true, false, not, ◌&&◌, ◌||◌, nat_eq, nat_le, List, [], ◌∷◌, ◌++◌, length, None, arith, refl, sym, ap, ◌∙◌, subst, inl, inr}
use Rattle.std.proofs.lemmas.Bool.{and_parts, eqb-false, leb-true, ltb-true}
use Rattle.fy_base.specs.declared.data.FaultKind.{FaultKind}
use Rattle.fy_base.specs.declared.data.FaultKind.TheVariants as fault
use Rattle.rv_insn.specs.declared.instructions.RegOp.TheVariants.{Sub}
use Rattle.rv_insn.specs.declared.instructions.ImmOp.{ImmOp}
use Rattle.rv_insn.specs.declared.instructions.ImmOp.TheVariants.{Addi}
use Rattle.rv_insn.specs.declared.instructions.LoadOp.TheVariants.{Ld}
use Rattle.rv_insn.specs.declared.instructions.StoreOp.TheVariants.{Sd}
use Rattle.rv_insn.specs.declared.instructions.BranchOp.TheVariants.{Bltu}
use Rattle.rv_insn.specs.declared.instructions.Insn.{Insn}
use Rattle.rv_insn.specs.declared.instructions.Insn.TheVariants as insn
use Rattle.rv_guard.specs.declared.pieces.Piece.TheVariants.{ServiceCall, Single}
use Rattle.rv_guard.specs.Patterns.{Setting, HasHead, below, IsStackCheck, IsNearCheck, IsTableCheck, IsEntry, IsFaultCall}
use Rattle.rv_guard.specs.Windows.{written_by}
use Rattle.rv_guard.specs.Rules.{KeepsBounds, IsPlain, target_of}
use Rattle.rv_guard.specs.Joining.{IsAlone}
use Rattle.rv_word.specs.declared.micros.Register.{Register}
use Rattle.rv_word.specs.declared.micros.Register.TheVariants as register
use Rattle.rv_word.specs.declared.micros.Micro.{Micro}
use Rattle.rv_word.specs.declared.micros.Micro.TheVariants.{Set, Imm, Shift, Alu, Window, Get, Save, Look, Room, Test, Jump, Enter, Put, Take, End, Exhaust, Fault}
use Rattle.rv_word.specs.Word.{Named, Code, zeros}
use Rattle.rv_word.specs.Discipline.{is_zero, has_needs, windows_behind, closes, is_disciplined_from, are_disciplined, bounds_of}
use Rattle.rv_flow.specs.Lowering.{number_of, upper_part, lower_part, minus, kind_number, look_piece, entry_piece, fault_piece, copy}
use Rattle.rv_flow.proofs.Parts.{Part, branch, room_parts, window_by, parts_of, micros_parts, blocks_parts, entry_parts}
use Rattle.rv_flow.proofs.Numbered.{IsNumber, numbered, not_x0, checkable, below_minus, AreHalves, halves}
use Rattle.rv_flow.proofs.Safe.{alone_reg, alone_shift, alone_load, alone_store, alone_lui, alone_addi, alone_imm, IsStill, IsFree, AreSafe}

-- what an image of the code has to give
pub record Suits (code : Code) (setting : Setting) : Type 0 where
  pub some_entries : 1 ≤ length code.entries
  pub few_entries : length code.entries ≤ 2 ^ 21
  pub head : HasHead (length code.entries) setting.code
  pub table_is : setting.table_words ≡ length code.table
  pub table_most : length code.table ≤ 2 ^ 20
  pub places_are : setting.places ≡ length code.places
  pub places_most : length code.places ≤ 2 ^ 20

-- ---- single instructions

-- one that writes a register of the word machine
writes_still : (setting : Setting) (i : Insn) (r : Register) → IsAlone i → written_by i ≡ number_of r → IsPlain (Single i) → ((k : ℕ) → target_of k (Single i) ≡ None) → IsStill setting (Single i)
writes_still setting i r alone is plain still =
    let h : IsNumber (number_of r) = numbered r in
    record {
      good = record {
        apart = alone;
        bounds = record {
          not_x2 = ap (λ (n : ℕ). nat_eq n 2 || false) is ∙ ap (λ (b : Bool). b || false) h.keeps_2;
          not_x3 = ap (λ (n : ℕ). nat_eq n 3 || false) is ∙ ap (λ (b : Bool). b || false) h.keeps_3;
          not_x4 = ap (λ (n : ℕ). nat_eq n 4 || false) is ∙ ap (λ (b : Bool). b || false) h.keeps_4;
        };
        plain = plain;
      };
      still = still;
    }

still_by : (setting : Setting) (i : Insn) → IsAlone i → KeepsBounds (Single i) → IsPlain (Single i) → ((k : ℕ) → target_of k (Single i) ≡ None) → IsStill setting (Single i)
still_by setting i alone bounds plain still = record { good = record { apart = alone; bounds = bounds; plain = plain }; still = still }

imm_alone : (r : Register) (op : ImmOp) (a : ℕ) (imm : ℤ) → IsAlone (insn.Imm op (number_of r) a imm)
imm_alone r op a imm =
    let h : IsNumber (number_of r) = numbered r in
    alone_imm op (number_of r) a imm (eqb-false (number_of r) 31 h.not_31) (eqb-false (number_of r) 17 h.not_17) (eqb-false (number_of r) 10 h.not_10)

free : (r : Register) → IsFree (number_of r)
free r = let h : IsNumber (number_of r) = numbered r in record { keeps_2 = h.keeps_2; keeps_3 = h.keeps_3; keeps_4 = h.keeps_4; not_10 = h.not_10; not_17 = h.not_17 }

-- ---- patterns

window_still : (setting : Setting) (b : Bool) (r : Register) (k : ℕ) → nat_le k 255 ≡ b → not (is_zero r) ≡ true → 1 ≤ k → k ≤ 4096 → IsStill setting (window_by b r k)
window_still setting true r k near named least most =
    let few : k ≤ 255 = leb-true k 255 near in
    let v : below (minus (8 * k)) ≡ 8 * k = below_minus (8 * k) in
    let check : IsNearCheck (number_of r) (minus (8 * k)) = record { register = checkable r named; least = omega arith; most = omega arith } in
    record { good = record { apart = check; bounds = record { not_x2 = refl; not_x3 = refl; not_x4 = refl }; plain = tt }; still = λ j. refl }
window_still setting false r k near named least most =
    let h : AreHalves (8 * k) = halves (8 * k) (omega arith) in
    let check : IsStackCheck (number_of r) (8 * k) = record { register = checkable r named; least = omega arith; most = omega arith } in
    record {
      good = record { apart = (h.natural, subst (λ (v : ℕ). IsStackCheck (number_of r) v) (sym h.is) check); bounds = record { not_x2 = refl; not_x3 = refl; not_x4 = refl }; plain = tt };
      still = λ j. refl;
    }

look_still : (code : Code) (setting : Setting) (s : Register) → Suits code setting → not (is_zero s) ≡ true → 1 ≤ length code.table → IsStill setting (look_piece (length code.table) s)
look_still code setting s u named some =
    let words : ℕ = length code.table in
    let words_is : setting.table_words ≡ words = u.table_is in
    let words_most : words ≤ 2 ^ 20 = u.table_most in
    let h : AreHalves (536870904 + 8 * words) = halves (536870904 + 8 * words) (omega arith) in
    let check : IsTableCheck setting (number_of s) (536870904 + 8 * words) = record { register = checkable s named; some = omega arith; least = omega arith; most = omega arith } in
    record {
      good = record { apart = (h.natural, subst (λ (v : ℕ). IsTableCheck setting (number_of s) v) (sym h.is) check); bounds = record { not_x2 = refl; not_x3 = refl; not_x4 = refl }; plain = tt };
      still = λ j. refl;
    }

entry_still : (code : Code) (setting : Setting) (r : Register) → Suits code setting → IsStill setting (entry_piece (length code.entries) r)
entry_still code setting r u =
    let few : length code.entries ≤ 2 ^ 21 = u.few_entries in
    let h : AreHalves (8 * length code.entries) = halves (8 * length code.entries) (omega arith) in
    let entry : IsEntry setting (8 * length code.entries) = record { g = length code.entries; some = u.some_entries; is = refl; head = u.head } in
    record {
      good = record { apart = (h.natural, subst (λ (v : ℕ). IsEntry setting v) (sym h.is) entry); bounds = record { not_x2 = refl; not_x3 = refl; not_x4 = refl }; plain = tt };
      still = λ j. refl;
    }

kind_least : (kind : FaultKind) → 1 ≤ kind_number kind
kind_least fault.Overflow = omega arith
kind_least fault.Zero = omega arith
kind_least fault.Range = omega arith

kind_most : (kind : FaultKind) → kind_number kind ≤ 3
kind_most fault.Overflow = omega arith
kind_most fault.Zero = omega arith
kind_most fault.Range = omega arith

fault_still : (code : Code) (setting : Setting) (kind : FaultKind) (place : ℕ) → Suits code setting → place < length code.places → IsStill setting (fault_piece kind place)
fault_still code setting kind place u below =
    let places_are : setting.places ≡ length code.places = u.places_are in
    let places_most : length code.places ≤ 2 ^ 20 = u.places_most in
    let h : AreHalves place = halves place (omega arith) in
    let call : IsFaultCall setting (kind_number kind) place = record { least = kind_least kind; most = kind_most kind; place = omega arith } in
    record {
      good = record { apart = (h.natural, subst (λ (v : ℕ). IsFaultCall setting (kind_number kind) v) (sym h.is) call); bounds = record { not_x2 = refl; not_x3 = refl; not_x4 = refl }; plain = tt };
      still = λ j. refl;
    }

service_still : (setting : Setting) (number : ℕ) → (number ≡ 0) ⊎ ((number ≡ 1) ⊎ ((number ≡ 2) ⊎ (number ≡ 4))) → KeepsBounds (ServiceCall number) → IsStill setting (ServiceCall number)
service_still setting number is bounds = record { good = record { apart = is; bounds = bounds; plain = tt }; still = λ j. refl }

-- ---- micro-operations

-- a branch compares no register that begins a check
branch_fits : (r : Register) → (nat_eq (number_of r) 2 ≡ false) × (nat_eq (number_of r) 4 ≡ false)
branch_fits r = let h : IsNumber (number_of r) = numbered r in (h.keeps_2, h.keeps_4)

room_safe : (setting : Setting) (b : Bool) (k label : ℕ) (rest : List Part) → AreSafe setting rest → AreSafe setting ((room_parts b k ++ branch Bltu 31 (number_of register.Top) label ∷ []) ++ rest)
room_safe setting true k label rest h = (
  still_by setting (insn.Imm Addi 31 3 (minus (8 * k))) (alone_addi 31 3 (minus (8 * k)) (omega arith) (inl (omega arith))) (record { not_x2 = refl; not_x3 = refl; not_x4 = refl }) tt (λ j. refl),
  (branch_fits register.Top, h),
)
room_safe setting false k label rest h = (
  still_by setting (insn.Lui 31 (upper_part (8 * k))) (alone_lui 31 (upper_part (8 * k))) (record { not_x2 = refl; not_x3 = refl; not_x4 = refl }) tt (λ j. refl),
  (
    still_by setting (insn.Imm Addi 31 31 (lower_part (8 * k))) (alone_addi 31 31 (lower_part (8 * k)) (omega arith) (inl (omega arith))) (record { not_x2 = refl; not_x3 = refl; not_x4 = refl }) tt (λ j. refl),
    (still_by setting (insn.Reg Sub 31 3 31) (alone_reg Sub 31 3 31) (record { not_x2 = refl; not_x3 = refl; not_x4 = refl }) tt (λ j. refl), (branch_fits register.Top, h)),
  ),
)

put_still : (setting : Setting) (r : Register) → not (is_zero r) ≡ true → IsStill setting (Single (copy 10 (number_of r)))
put_still setting r named =
    still_by setting (copy 10 (number_of r)) (alone_addi 10 (number_of r) (pos 0) (omega arith) (inr (eqb-false (number_of r) 0 (not_x0 r named)))) (record { not_x2 = refl; not_x3 = refl; not_x4 = refl }) tt (λ j. refl)

pub micro_safe : (code : Code) (setting : Setting) → Suits code setting → (m : Micro) (windows : Named) (rest : List Part) → has_needs (bounds_of code) m windows ≡ true → AreSafe setting rest
    → AreSafe setting (parts_of (length code.entries) (length code.table) m ++ rest)
micro_safe code setting u (Set r v) windows rest h k = (free r, k)
micro_safe code setting u (Imm op r s imm) windows rest h k = (writes_still setting (insn.Imm op (number_of r) (number_of s) imm) r (imm_alone r op (number_of s) imm) refl tt (λ j. refl), k)
micro_safe code setting u (Shift op r s amount) windows rest h k =
    (writes_still setting (insn.Shift op (number_of r) (number_of s) amount) r (alone_shift op (number_of r) (number_of s) amount) refl tt (λ j. refl), k)
micro_safe code setting u (Alu op r s t) windows rest h k =
    (writes_still setting (insn.Reg op (number_of r) (number_of s) (number_of t)) r (alone_reg op (number_of r) (number_of s) (number_of t)) refl tt (λ j. refl), k)
micro_safe code setting u (Window r n) windows rest h k =
    let a = and_parts (not (is_zero r)) (nat_le 1 n && nat_le n 4096) h in
    let b = and_parts (nat_le 1 n) (nat_le n 4096) a.1 in
    (window_still setting (nat_le n 255) r n refl a.0 (leb-true 1 n b.0) (leb-true n 4096 b.1), k)
micro_safe code setting u (Get r s n) windows rest h k =
    (writes_still setting (insn.Load Ld (number_of r) (number_of s) (pos (8 * n))) r (alone_load Ld (number_of r) (number_of s) (pos (8 * n))) refl tt (λ j. refl), k)
micro_safe code setting u (Save s n r) windows rest h k =
    (still_by setting (insn.Store Sd (number_of r) (number_of s) (pos (8 * n))) (alone_store Sd (number_of r) (number_of s) (pos (8 * n))) (record { not_x2 = refl; not_x3 = refl; not_x4 = refl }) tt (λ j. refl), k)
micro_safe code setting u (Look r s) windows rest h k =
    let a = and_parts (not (is_zero s)) (nat_le 1 (length code.table)) h in
    (look_still code setting s u a.0 (leb-true 1 (length code.table) a.1), (writes_still setting (insn.Load Ld (number_of r) (number_of s) (pos 0)) r (alone_load Ld (number_of r) (number_of s) (pos 0)) refl tt (λ j. refl), k))
micro_safe code setting u (Room n label) windows rest h k = room_safe setting (nat_le n 255) n label rest k
micro_safe code setting u (Test op r s label) windows rest h k = (branch_fits s, k)
micro_safe code setting u (Jump label) windows rest h k = (tt, k)
micro_safe code setting u (Enter r) windows rest h k = (entry_still code setting r u, k)
micro_safe code setting u (Put r) windows rest h k = (put_still setting r h, (service_still setting 1 (inr (inl refl)) (record { not_x2 = refl; not_x3 = refl; not_x4 = refl }), k))
micro_safe code setting u (Take r) windows rest h k = (
  service_still setting 2 (inr (inr (inl refl))) (record { not_x2 = refl; not_x3 = refl; not_x4 = refl }),
  (writes_still setting (copy (number_of r) 10) r (imm_alone r Addi 10 (pos 0)) refl tt (λ j. refl), k),
)
micro_safe code setting u End windows rest h k = (service_still setting 0 (inl refl) (record { not_x2 = refl; not_x3 = refl; not_x4 = refl }), k)
micro_safe code setting u Exhaust windows rest h k = (service_still setting 4 (inr (inr (inr refl))) (record { not_x2 = refl; not_x3 = refl; not_x4 = refl }), k)
micro_safe code setting u (Fault kind place) windows rest h k = (fault_still code setting kind place u (ltb-true place (length code.places) h), k)

-- ---- blocks and entries

module _ (code : Code) (setting : Setting) (u : Suits code setting) where
  micros_safe : (windows : Named) (ms : List Micro) (rest : List Part) → is_disciplined_from (bounds_of code) windows ms ≡ true → AreSafe setting rest
      → AreSafe setting (micros_parts (length code.entries) (length code.table) ms rest)
  micros_safe windows [] rest h k = k
  micros_safe windows (m ∷ []) rest h k = micro_safe code setting u m windows rest (and_parts (has_needs (bounds_of code) m windows) (closes m) h).0 k
  micros_safe windows (m ∷ n ∷ ms) rest h k =
      let a = and_parts (has_needs (bounds_of code) m windows) (is_disciplined_from (bounds_of code) (windows_behind m windows) (n ∷ ms)) h in
      micro_safe code setting u m windows (micros_parts (length code.entries) (length code.table) (n ∷ ms) rest) a.0 (micros_safe (windows_behind m windows) (n ∷ ms) rest a.1 k)

  blocks_safe : (label : ℕ) (blocks : List (List Micro)) → are_disciplined (bounds_of code) blocks ≡ true → AreSafe setting (blocks_parts (length code.entries) (length code.table) label blocks)
  blocks_safe label [] h = tt
  blocks_safe label (ms ∷ blocks) h =
      let a = and_parts (is_disciplined_from (bounds_of code) zeros ms) (are_disciplined (bounds_of code) blocks) h in
      (tt, micros_safe zeros ms (blocks_parts (length code.entries) (length code.table) (suc label) blocks) a.0 (blocks_safe (suc label) blocks a.1))

  entries_safe : (labels : List ℕ) (rest : List Part) → AreSafe setting rest → AreSafe setting (entry_parts labels rest)
  entries_safe [] rest h = h
  entries_safe (label ∷ labels) rest h = (tt, entries_safe labels rest h)

  pub code_safe : are_disciplined (bounds_of code) code.blocks ≡ true → AreSafe setting (entry_parts code.entries (blocks_parts (length code.entries) (length code.table) 0 code.blocks))
  code_safe h = entries_safe code.entries (blocks_parts (length code.entries) (length code.table) 0 code.blocks) (blocks_safe 0 code.blocks h)
