-- The stack's bytes, seen as doublewords.
use Rattle.std.proofs.Common.{◌≡◌, ◌≢◌, ℕ, zero, suc, ◌+◌, ◌-◌, ◌*◌, ◌/◌, ◌%◌, ◌^◌, ◌<◌, ◌≤◌, inl, inr, true, List, ◌++◌, length, take, drop, Ok, refl, sym, ◌∙◌, ap, arith}
use Rattle.std.specs.List.{slice_index, slice_set}
use Rattle.std.proofs.Math.ListN.{get_or-append}
use Rattle.std.proofs.lemmas.List.{get_or-append_right, get_or-take, get_or-drop, get_or-set_same, get_or-set_other, length-take-le, length-append, length-drop, length-set, drop_at, ext_get_or}
use Rattle.std.proofs.lemmas.List.FromFn.{length-map-range_with_len, get_or-map-range_with_len}
use Rattle.std.proofs.lemmas.Bool.{cases_lt, cases_eq}
use Rattle.byteorder.specs.Endian.{little_from, little_number, little_bytes}
use Rattle.byteorder.specs.Numbers.{little_number-reads_back}
use Rattle.rv_insn.specs.declared.instructions.LoadOp.TheVariants.{Ld}
use Rattle.rv_insn.specs.declared.instructions.StoreOp.TheVariants.{Sd}
use Rattle.rv_insn.specs.Program.{Program, stack_start}
use Rattle.rv_insn.specs.Memory.{lies_in, load, load_size, load_value, store, store_size, store_bytes, overwritten, doubleword, doublewords}
use Rattle.rv_insn.specs.Laws.{StoresDoubleword}

-- two lists that agree at n places from i on have the same number there
same_number : (n i : ℕ) (xs ys : List ℕ) → ((m : ℕ) → i ≤ m → m < i + n → slice_index xs m ≡ slice_index ys m) → little_from i n xs ≡ little_from i n ys
same_number zero i xs ys h = refl
same_number (suc n) i xs ys h =
    let first : slice_index xs i ≡ slice_index ys i = h i (omega arith) (omega arith) in
    let others : little_from (suc i) n xs ≡ little_from (suc i) n ys = same_number n (suc i) xs ys (λ m low high. h m (omega arith) (omega arith)) in
    ap (λ x. x + 256 * little_from (suc i) n xs) first ∙ ap (λ x. slice_index ys i + 256 * x) others

-- the list before and behind what is overwritten
overwritten_before : (place : ℕ) (bytes list : List ℕ) (m : ℕ) → place ≤ length list → m < place → slice_index (overwritten place bytes list) m ≡ slice_index list m
overwritten_before place bytes list m h below =
    get_or-append (take place list) (bytes ++ drop (place + length bytes) list) 0 m (omega (arith, length-take-le place list h)) ∙ get_or-take place list m 0 below

overwritten_behind : (place : ℕ) (bytes list : List ℕ) (m : ℕ) → place ≤ length list → place + length bytes ≤ m → slice_index (overwritten place bytes list) m ≡ slice_index list m
overwritten_behind place bytes list m h above =
    let count : ℕ = length bytes in
    let rest : List ℕ = drop (place + count) list in
    let e : place + count + (m - place - count) ≡ m = omega arith in
    get_or-append_right (take place list) (bytes ++ rest) place m 0 (length-take-le place list h) (omega arith)
    ∙ get_or-append_right bytes rest count (m - place) 0 refl (omega arith)
    ∙ get_or-drop (place + count) list (m - place - count) 0
    ∙ ap (λ n. slice_index list n) e

pub length-overwritten : (place : ℕ) (bytes list : List ℕ) → place + length bytes ≤ length list → length (overwritten place bytes list) ≡ length list
length-overwritten place bytes list h =
    omega (arith, length-append (take place list) (bytes ++ drop (place + length bytes) list), length-append bytes (drop (place + length bytes) list), length-take-le place list (omega arith), length-drop (place + length bytes) list)

-- what stands at the place now
pub overwritten_at : (place : ℕ) (bytes list : List ℕ) → place ≤ length list → drop place (overwritten place bytes list) ≡ bytes ++ drop (place + length bytes) list
overwritten_at place bytes list h = drop_at (take place list) (bytes ++ drop (place + length bytes) list) place (length-take-le place list h)

pub doubleword_stored : (stack : List ℕ) (k v : ℕ) → 8 * k + 8 ≤ length stack → v < 2 ^ 64 → doubleword (overwritten (8 * k) (little_bytes 8 v) stack) k ≡ v
doubleword_stored stack k v h fits =
    ap (little_number 8) (overwritten_at (8 * k) (little_bytes 8 v) stack (omega arith)) ∙ little_number-reads_back 8 v (drop (8 * k + 8) stack) fits

pub doubleword_kept : (stack : List ℕ) (k j v : ℕ) → 8 * k + 8 ≤ length stack → j ≢ k → doubleword (overwritten (8 * k) (little_bytes 8 v) stack) j ≡ doubleword stack j
doubleword_kept stack k j v h other =
    let bytes : List ℕ = little_bytes 8 v in
    let now : List ℕ = overwritten (8 * k) bytes stack in
    let outside : (m : ℕ) → m < 8 → slice_index now (8 * j + m) ≡ slice_index stack (8 * j + m) = λ m below.
    elim (cases_lt j k) [
      | inl before ↦ overwritten_before (8 * k) bytes stack (8 * j + m) (omega arith) (omega arith)
      | inr behind ↦ overwritten_behind (8 * k) bytes stack (8 * j + m) (omega arith) (omega arith)
    ] in
    same_number 8 0 (drop (8 * j) now) (drop (8 * j) stack)
    (λ m low high. get_or-drop (8 * j) now m 0 ∙ outside m high ∙ sym (get_or-drop (8 * j) stack m 0))

pub doublewords_at : (bytes : List ℕ) (k : ℕ) → 8 * k + 8 ≤ length bytes → slice_index (doublewords bytes) k ≡ doubleword bytes k
doublewords_at bytes k h = get_or-map-range_with_len (doubleword bytes) 0 (length bytes / 8) k k 0 (omega arith) (omega arith)

pub length-doublewords : (bytes : List ℕ) → length (doublewords bytes) ≡ length bytes / 8
length-doublewords bytes = length-map-range_with_len (doubleword bytes) 0 (length bytes / 8)

aligned : (k : ℕ) → (stack_start + 8 * k) % 8 ≡ 0
aligned k = omega arith

offset : (k : ℕ) → stack_start + 8 * k - stack_start ≡ 8 * k
offset k = omega arith

inside : (k count : ℕ) → 8 * k + 8 ≤ count → lies_in stack_start count (stack_start + 8 * k) 8 ≡ true
inside k count h = grind arith

pub load_doubleword : (program : Program) (stack : List ℕ) (k : ℕ) → 8 * k + 8 ≤ length stack → load program stack Ld (stack_start + 8 * k) ≡ Ok (slice_index (doublewords stack) k)
unfolding load load_size load_value
load_doubleword program stack k h =
    rw (aligned k, inside k (length stack) h, offset k) (ap Ok (sym (doublewords_at stack k h)))

store_is : (stack : List ℕ) (k v : ℕ) → 8 * k + 8 ≤ length stack → store stack Sd (stack_start + 8 * k) v ≡ Ok (overwritten (8 * k) (little_bytes 8 v) stack)
unfolding store store_size store_bytes
store_is stack k v h = rw (aligned k, inside k (length stack) h, offset k) refl

pub store_doubleword : (stack : List ℕ) (k v : ℕ) → 8 * k + 8 ≤ length stack → v < 2 ^ 64 → StoresDoubleword stack k v
store_doubleword stack k v h fits =
    let now : List ℕ = overwritten (8 * k) (little_bytes 8 v) stack in
    let size : length now ≡ length stack = length-overwritten (8 * k) (little_bytes 8 v) stack h in
    let words : List ℕ = doublewords stack in
    let count = length-doublewords stack in
    let at : (j : ℕ) → j < length (doublewords now) → slice_index (doublewords now) j ≡ slice_index (slice_set words k v) j = λ j below.
    let in_now : 8 * j + 8 ≤ length now = omega (arith, length-doublewords now) in
    let in_stack : 8 * j + 8 ≤ length stack = omega arith in
    doublewords_at now j in_now ∙ elim (cases_eq j k) [
      | inl same ↦ ap (doubleword now) same ∙ doubleword_stored stack k v h fits ∙ sym (get_or-set_same words k v 0 (omega arith)) ∙ ap (slice_index (slice_set words k v)) (sym same)
      | inr other ↦ doubleword_kept stack k j v h other ∙ sym (doublewords_at stack j in_stack) ∙ sym (get_or-set_other words k j v 0 other)
    ] in
    record {
      now = now;
      stored = store_is stack k v h;
      size = size;
      replaced = ext_get_or 0 (doublewords now) (slice_set words k v) (omega (arith, length-doublewords now, length-set words k v)) at;
    }
