-- Numbers in the code and in the table, by their words.
use Rattle.std.proofs.Common.{◌≡◌, ℕ, zero, suc, ◌+◌, ◌-◌, ◌*◌, ◌/◌, ◌%◌, ◌^◌, ◌<◌, ◌≤◌, true, false, Ok, List, [], ◌∷◌, ◌++◌, length, drop, refl, sym, ◌∙◌, ap, append_assoc, drop-drop, arith}
use Rattle.std.specs.List.{slice_index, flat_map}
use Rattle.std.specs.Int.{byte_at, bytes_low_first}
use Rattle.std.proofs.lemmas.List.{get_or-drop, drop-append-le}
use Rattle.std.proofs.Math.Seq.{drop-append-add}
use Rattle.std.proofs.Math.Nat.{div-one, pow-suc, mod-eq_of_lt}
use Rattle.byteorder.specs.Endian.{little_from, little_number, little_bytes}
use Rattle.byteorder.specs.Numbers.{little_from-bytes, length-bytes_low_first}
use Rattle.rv_insn.specs.declared.instructions.LoadOp.TheVariants.{Ld}
use Rattle.rv_insn.specs.Program.{Program, table_start, stack_start}
use Rattle.rv_insn.specs.Memory.{lies_in, load, load_size, load_value}

-- the bytes of a number from a place on, and up to one
drop-low_bytes : (r i u x : ℕ) → r ≤ u → drop r (bytes_low_first i u x) ≡ bytes_low_first (i + r) (u - r) x
drop-low_bytes zero i u x h = let e : i + 0 ≡ i = omega arith in let d : u - 0 ≡ u = omega arith in rw (e, d) refl
drop-low_bytes (suc r) i zero x h = absurd (omega arith)
drop-low_bytes (suc r) i (suc u) x h =
    let e : suc i + r ≡ i + suc r = omega arith in
    let d : suc u - suc r ≡ u - r = omega arith in
    drop-low_bytes r (suc i) u x (omega arith) ∙ ap (λ k. bytes_low_first k (u - r) x) e ∙ ap (λ k. bytes_low_first (i + suc r) k x) (sym d)

low_bytes-split : (n m i x : ℕ) → bytes_low_first i (n + m) x ≡ bytes_low_first i n x ++ bytes_low_first (i + n) m x
low_bytes-split zero m i x = let e : i + 0 ≡ i = omega arith in let d : 0 + m ≡ m = omega arith in rw (e, d) refl
low_bytes-split (suc n) m i x =
    let d : suc n + m ≡ suc (n + m) = omega arith in
    let e : suc i + n ≡ i + suc n = omega arith in
    rw d (ap (λ rest. byte_at i x ∷ rest) (low_bytes-split n m (suc i) x ∙ ap (λ k. bytes_low_first (suc i) n x ++ bytes_low_first k m x) e))

-- past a whole word
drop_past : (p q : List ℕ) (n m : ℕ) → length p ≡ n → drop (n + m) (p ++ q) ≡ drop m q
drop_past p q n m h = ap (λ k. drop (k + m) (p ++ q)) (sym h) ∙ drop-append-add p q m

-- the bytes of words of u bytes, from byte r of the word q on
drop_words : (u r : ℕ) (xs : List ℕ) (q : ℕ) → q < length xs → r ≤ u
    → drop (u * q + r) (flat_map (λ word. little_bytes u word) xs) ≡ bytes_low_first r (u - r) (slice_index xs q) ++ flat_map (λ word. little_bytes u word) (drop (suc q) xs)
drop_words u r [] q h k = absurd (omega arith)
drop_words u r (x ∷ xs) zero h k =
    let e : u * 0 + r ≡ r = omega arith in
    let z : 0 + r ≡ r = omega arith in
    rw e (drop-append-le r (little_bytes u x) (flat_map (λ word. little_bytes u word) xs) (omega (arith, length-bytes_low_first 0 u x))
    ∙ ap (λ bytes. bytes ++ flat_map (λ word. little_bytes u word) xs) (drop-low_bytes r 0 u x k ∙ ap (λ i. bytes_low_first i (u - r) x) z))
drop_words u r (x ∷ xs) (suc q) h k =
    let e : u * suc q + r ≡ u + (u * q + r) = grind arith in
    rw e (drop_past (little_bytes u x) (flat_map (λ word. little_bytes u word) xs) u (u * q + r) (length-bytes_low_first 0 u x) ∙ drop_words u r xs q (omega arith) k)

-- a number that lies within one word is a part of it
pub number_in_word : (u r n : ℕ) (xs : List ℕ) (q : ℕ) → q < length xs → r + n ≤ u
    → little_number n (drop (u * q + r) (flat_map (λ word. little_bytes u word) xs)) ≡ slice_index xs q / 256 ^ r % 256 ^ n
number_in_word u r n xs q h k =
    let x : ℕ = slice_index xs q in
    let rest : List ℕ = flat_map (λ word. little_bytes u word) (drop (suc q) xs) in
    let m : ℕ = u - r - n in
    let count : u - r ≡ n + m = omega arith in
    ap (little_number n) (drop_words u r xs q h (omega arith)
    ∙ ap (λ c. bytes_low_first r c x ++ rest) count
    ∙ ap (λ bytes. bytes ++ rest) (low_bytes-split n m r x)
    ∙ append_assoc (bytes_low_first r n x) (bytes_low_first (r + n) m x) rest)
    ∙ little_from-bytes n r x (bytes_low_first (r + n) m x ++ rest)

-- a number is that of its first bytes and, above it, that of the others
number_splits : (n m i : ℕ) (xs : List ℕ) → little_from i (n + m) xs ≡ little_from i n xs + 256 ^ n * little_from (i + n) m xs
number_splits zero m i xs = let e : i + 0 ≡ i = omega arith in let d : 0 + m ≡ m = omega arith in rw (e, d) (omega arith)
number_splits (suc n) m i xs =
    let d : suc n + m ≡ suc (n + m) = omega arith in
    let e : suc i + n ≡ i + suc n = omega arith in
    let ih : little_from (suc i) (n + m) xs ≡ little_from (suc i) n xs + 256 ^ n * little_from (i + suc n) m xs =
    number_splits n m (suc i) xs ∙ ap (λ k. little_from (suc i) n xs + 256 ^ n * little_from k m xs) e in
    rw (d, pow-suc 256 n) (grind (arith, ih))

number_behind : (a n i : ℕ) (xs : List ℕ) → little_from (a + i) n xs ≡ little_from i n (drop a xs)
number_behind a zero i xs = refl
number_behind a (suc n) i xs =
    let e : suc (a + i) ≡ a + suc i = omega arith in
    let first : slice_index xs (a + i) ≡ slice_index (drop a xs) i = sym (get_or-drop a xs i 0) in
    let others : little_from (suc (a + i)) n xs ≡ little_from (suc i) n (drop a xs) = ap (λ k. little_from k n xs) e ∙ number_behind a n (suc i) xs in
    ap (λ x. x + 256 * little_from (suc (a + i)) n xs) first ∙ ap (λ x. slice_index (drop a xs) i + 256 * x) others

word_whole : (x : ℕ) → x < 2 ^ 32 → x / 256 ^ 0 % 256 ^ 4 ≡ x
word_whole x h = ap (λ y. y % 256 ^ 4) (div-one x) ∙ mod-eq_of_lt h

-- a doubleword of the code is two of its words
pub two_words : (xs : List ℕ) (q : ℕ) → suc q < length xs → slice_index xs q < 2 ^ 32 → slice_index xs (suc q) < 2 ^ 32
    → little_number 8 (drop (4 * q) (flat_map (λ word. little_bytes 4 word) xs)) ≡ slice_index xs q + 2 ^ 32 * slice_index xs (suc q)
two_words xs q h a b =
    let code : List ℕ = flat_map (λ word. little_bytes 4 word) xs in
    let at : 4 * q + 0 ≡ 4 * q = omega arith in
    let behind : 4 * q + 4 ≡ 4 * suc q + 0 = omega arith in
    let low : little_number 4 (drop (4 * q) code) ≡ slice_index xs q =
    ap (λ k. little_number 4 (drop k code)) (sym at) ∙ number_in_word 4 0 4 xs q (omega arith) (omega arith) ∙ word_whole (slice_index xs q) a in
    let high : little_from 4 4 (drop (4 * q) code) ≡ slice_index xs (suc q) =
    number_behind 4 4 0 (drop (4 * q) code) ∙ ap (little_number 4) (drop-drop 4 (4 * q) code ∙ ap (λ k. drop k code) behind)
    ∙ number_in_word 4 0 4 xs (suc q) h (omega arith) ∙ word_whole (slice_index xs (suc q)) b in
    number_splits 4 4 0 (drop (4 * q) code) ∙ omega (arith, low, high)

table_aligned : (k : ℕ) → (table_start + 8 * k) % 8 ≡ 0
table_aligned k = omega arith

table_offset : (k : ℕ) → table_start + 8 * k - table_start ≡ 8 * k + 0
table_offset k = omega arith

below_stack : (k count : ℕ) → k < 1048576 → lies_in stack_start count (table_start + 8 * k) 8 ≡ false
below_stack k count h = grind arith

in_table : (k count : ℕ) → k < count → lies_in table_start (8 * count) (table_start + 8 * k) 8 ≡ true
in_table k count h = grind arith

pub load_from_table : (program : Program) (stack : List ℕ) (k : ℕ) → k < length program.table → length program.table ≤ 1048576 → slice_index program.table k < 2 ^ 64
    → load program stack Ld (table_start + 8 * k) ≡ Ok (slice_index program.table k)
unfolding load load_size load_value
load_from_table program stack k below most fits =
    rw (table_aligned k, below_stack k (length stack) (omega arith), in_table k (length program.table) below, table_offset k)
    (ap Ok (number_in_word 8 0 8 program.table k below (omega arith) ∙ ap (λ y. y % 256 ^ 8) (div-one (slice_index program.table k)) ∙ mod-eq_of_lt fits))
