-- The blocks of code are marked by the labels 0, 1, 2 .. in order.
use Rattle.std.proofs.Common.{◌≡◌, ℕ, zero, suc, ◌+◌, ◌<◌, ◌≤◌, Bool, true, false, ◌&&◌, nat_le, List, [], ◌∷◌, ◌++◌, length, take, slice_get, slice_index_or, Contains, Some, arith, refl, sym, ap, ◌∙◌, subst}
use Rattle.std.proofs.lemmas.Bool.{true≢false}
use Rattle.rv_insn.specs.declared.instructions.BranchOp.TheVariants.{Bltu}
use Rattle.rv_insn.specs.declared.instructions.Insn.{Insn}
use Rattle.rv_guard.specs.Patterns.{instructions_of}
use Rattle.rv_asm.specs.declared.items.Item.{Item}
use Rattle.rv_asm.specs.declared.items.Item.TheVariants.{Mark, Plain, BranchTo, JumpTo, FarTo, CallTo, AddressOf, Constant}
use Rattle.rv_asm.specs.Items.{marks_of}
use Rattle.rv_word.specs.declared.micros.Register.TheVariants as register
use Rattle.rv_word.specs.declared.micros.Micro.{Micro}
use Rattle.rv_word.specs.declared.micros.Micro.TheVariants.{Room}
use Rattle.rv_word.specs.Word.{Code}
use Rattle.rv_flow.specs.Lowering.{number_of, plain, items_of}
use Rattle.rv_flow.proofs.Parts.{Part, mark, stays, branch, items_in, room_parts, parts_of, micros_parts, blocks_parts, entry_parts, code_is}

-- so many numbers from one on
abbrev pub counted : ℕ → ℕ → List ℕ
counted l zero = []
counted l (suc n) = l ∷ counted (suc l) n

-- ---- what is marked

plain_marks : (insns : List Insn) (items : List Item) → marks_of (plain insns ++ items) ≡ marks_of items
plain_marks [] items = refl
plain_marks (i ∷ is) items = plain_marks is items

abbrev is_unmarked : Part → Bool
is_unmarked (mark label) = false
is_unmarked _ = true

abbrev are_unmarked : List Part → Bool
are_unmarked [] = true
are_unmarked (part ∷ parts) = is_unmarked part && are_unmarked parts

unmarked : (xs ys : List Part) → are_unmarked xs ≡ true → marks_of (items_in (xs ++ ys)) ≡ marks_of (items_in ys)
unmarked [] ys h = refl
unmarked (mark label ∷ xs) ys h = absurd (true≢false (sym h))
unmarked (stays piece ∷ xs) ys h = plain_marks (instructions_of piece) (items_in (xs ++ ys)) ∙ unmarked xs ys h
unmarked (x ∷ xs) ys h = unmarked xs ys h

room_unmarked : (b : Bool) (k label : ℕ) → are_unmarked (room_parts b k ++ branch Bltu 31 (number_of register.Top) label ∷ []) ≡ true
room_unmarked true k label = refl
room_unmarked false k label = refl

micro_unmarked : (entries table_words : ℕ) (m : Micro) → are_unmarked (parts_of entries table_words m) ≡ true
micro_unmarked entries table_words (Room k label) = room_unmarked (nat_le k 255) k label
micro_unmarked entries table_words m = refl

micros_marks : (entries table_words : ℕ) (ms : List Micro) (rest : List Part) → marks_of (items_in (micros_parts entries table_words ms rest)) ≡ marks_of (items_in rest)
micros_marks entries table_words [] rest = refl
micros_marks entries table_words (m ∷ ms) rest =
    unmarked (parts_of entries table_words m) (micros_parts entries table_words ms rest) (micro_unmarked entries table_words m) ∙ micros_marks entries table_words ms rest

blocks_marks : (entries table_words label : ℕ) (blocks : List (List Micro)) → marks_of (items_in (blocks_parts entries table_words label blocks)) ≡ counted label (length blocks)
blocks_marks entries table_words label [] = refl
blocks_marks entries table_words label (ms ∷ blocks) =
    ap (λ l. label ∷ l) (micros_marks entries table_words ms (blocks_parts entries table_words (suc label) blocks) ∙ blocks_marks entries table_words (suc label) blocks)

entries_marks : (labels : List ℕ) (rest : List Part) → marks_of (items_in (entry_parts labels rest)) ≡ marks_of (items_in rest)
entries_marks [] rest = refl
entries_marks (label ∷ labels) rest = entries_marks labels rest

pub code_marks : (code : Code) → marks_of (items_of code) ≡ counted 0 (length code.blocks)
code_marks code =
    ap marks_of (sym (code_is code)) ∙ entries_marks code.entries (blocks_parts (length code.entries) (length code.table) 0 code.blocks)
    ∙ blocks_marks (length code.entries) (length code.table) 0 code.blocks

-- ---- numbers in a row are distinct, and all are there

counted_above : (l n : ℕ) (xs : List ℕ) (y : ℕ) (ys : List ℕ) → counted l n ≡ xs ++ y ∷ ys → l ≤ y
counted_above l zero [] y ys e = absurd (cc)
counted_above l zero (x ∷ xs) y ys e = absurd (cc)
counted_above l (suc n) [] y ys e = let same : l ≡ y = cc in omega arith
counted_above l (suc n) (x ∷ xs) y ys e =
    let rest : counted (suc l) n ≡ xs ++ y ∷ ys = cc in
    let above : suc l ≤ y = counted_above (suc l) n xs y ys rest in
    omega arith

pub counted_once : (l n : ℕ) (xs : List ℕ) (y : ℕ) (ys : List ℕ) (k : ℕ) → counted l n ≡ xs ++ y ∷ ys → k < length xs → slice_index_or xs k y ≡ y → ⊥
counted_once l n [] y ys k e below is = omega arith
counted_once l zero (x ∷ xs) y ys k e below is = absurd (cc)
counted_once l (suc n) (x ∷ xs) y ys zero e below is =
    let first : l ≡ x = cc in
    let rest : counted (suc l) n ≡ xs ++ y ∷ ys = cc in
    let above : suc l ≤ y = counted_above (suc l) n xs y ys rest in
    let same : x ≡ y = is in
    omega arith
counted_once l (suc n) (x ∷ xs) y ys (suc k) e below is = let rest : counted (suc l) n ≡ xs ++ y ∷ ys = cc in counted_once (suc l) n xs y ys k rest (omega arith) is

counted_length : (l n : ℕ) → length (counted l n) ≡ n
counted_length l zero = refl
counted_length l (suc n) = ap suc (counted_length (suc l) n)

counted_at : (l n k d : ℕ) → k < n → slice_index_or (counted l n) k d ≡ l + k
counted_at l zero k d h = absurd (omega arith)
counted_at l (suc n) zero d h = omega arith
counted_at l (suc n) (suc k) d h = let rest : slice_index_or (counted (suc l) n) k d ≡ suc l + k = counted_at (suc l) n k d (omega arith) in rest ∙ omega arith

pub counted_has : (n k : ℕ) → k < n → Contains (counted 0 n) k
counted_has n k h = (k, subst (λ (m : ℕ). k < m) (sym (counted_length 0 n)) h, counted_at 0 n k k h ∙ omega arith)

-- ---- a mark, and those before it

pub record IsMarkedAt (items : List Item) (k label : ℕ) : Type 0 where
  pub more : List ℕ
  pub is : marks_of items ≡ marks_of (take k items) ++ label ∷ more

mark_later : (item : Item) (items : List Item) (k label : ℕ) → IsMarkedAt items k label → IsMarkedAt (item ∷ items) (suc k) label
mark_later (Mark l) items k label h = record { more = h.more; is = ap (λ (m : List ℕ). l ∷ m) h.is }
mark_later (Plain i) items k label h = record { more = h.more; is = h.is }
mark_later (BranchTo op rs1 rs2 l) items k label h = record { more = h.more; is = h.is }
mark_later (JumpTo l) items k label h = record { more = h.more; is = h.is }
mark_later (FarTo l) items k label h = record { more = h.more; is = h.is }
mark_later (CallTo rd l) items k label h = record { more = h.more; is = h.is }
mark_later (AddressOf rd l) items k label h = record { more = h.more; is = h.is }
mark_later (Constant rd v) items k label h = record { more = h.more; is = h.is }

pub marked_at : (items : List Item) (k label : ℕ) → slice_get items k ≡ Some (Mark label) → IsMarkedAt items k label
marked_at [] k label e = absurd (cc)
marked_at (item ∷ items) zero label e =
    let same : item ≡ Mark label = cc in
    record { more = marks_of items; is = ap (λ (i : Item). marks_of (i ∷ items)) same }
marked_at (item ∷ items) (suc k) label e = mark_later item items k label (marked_at items k label e)
