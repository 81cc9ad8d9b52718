-- Numbers of a load within words, and the sizes of loads and stores.
use Rattle.std.proofs.Common.{◌≡◌, ℕ, zero, suc, ◌+◌, ◌*◌, ◌/◌, ◌%◌, ◌^◌, ◌<◌, ◌≤◌, List, length, drop, refl, subst, sym, ◌∙◌, ap, arith}
use Rattle.std.specs.List.{slice_index, flat_map}
use Rattle.std.proofs.lemmas.Nat.{pow-add}
use Rattle.std.proofs.Math.Nat.{pow-succ', mod-eq_of_lt}
use Rattle.byteorder.specs.Endian.{little_number, little_bytes}
use Rattle.rv_insn.specs.declared.instructions.LoadOp.{LoadOp}
use Rattle.rv_insn.specs.declared.instructions.LoadOp.TheVariants.{Lb, Lh, Lw, Ld, Lbu, Lhu, Lwu}
use Rattle.rv_insn.specs.declared.instructions.StoreOp.{StoreOp}
use Rattle.rv_insn.specs.declared.instructions.StoreOp.TheVariants.{Sb, Sh, Sw, Sd}
use Rattle.rv_insn.specs.Memory.{load_size, store_size, store_bytes}
use Rattle.rv_insn.proofs.Regions.{number_in_word, two_words}
use Rattle.byteorder.specs.Numbers.{length-bytes_low_first}

-- an aligned load inside of words of 8 bytes lies in one of them
pub in_double : (op : LoadOp) (offset n : ℕ) → offset % load_size op ≡ 0 → offset + load_size op ≤ 8 * n → (offset / 8 < n) × (offset % 8 + load_size op ≤ 8)
unfolding load_size
in_double Lb offset n aligned inside = (omega arith, omega arith)
in_double Lh offset n aligned inside = (omega arith, omega arith)
in_double Lw offset n aligned inside = (omega arith, omega arith)
in_double Ld offset n aligned inside = (omega arith, omega arith)
in_double Lbu offset n aligned inside = (omega arith, omega arith)
in_double Lhu offset n aligned inside = (omega arith, omega arith)
in_double Lwu offset n aligned inside = (omega arith, omega arith)

-- in words of 4 bytes it begins in one of them
pub in_code : (op : LoadOp) (offset n : ℕ) → offset + load_size op ≤ 4 * n → offset / 4 < n
unfolding load_size
in_code Lb offset n inside = omega arith
in_code Lh offset n inside = omega arith
in_code Lw offset n inside = omega arith
in_code Ld offset n inside = omega arith
in_code Lbu offset n inside = omega arith
in_code Lhu offset n inside = omega arith
in_code Lwu offset n inside = omega arith

-- and, but where it is of 8 bytes, ends there
pub in_word : (op : LoadOp) (offset : ℕ) → offset % load_size op ≡ 0 → (load_size op ≡ 8 → ⊥) → offset % 4 + load_size op ≤ 4
unfolding load_size
in_word Lb offset aligned short = omega arith
in_word Lh offset aligned short = omega arith
in_word Lw offset aligned short = omega arith
in_word Ld offset aligned short = absurd (short refl)
in_word Lbu offset aligned short = omega arith
in_word Lhu offset aligned short = omega arith
in_word Lwu offset aligned short = omega arith

pub in_two : (s offset n : ℕ) → s ≡ 8 → offset % s ≡ 0 → offset + s ≤ 4 * n → (suc (offset / 4) < n) × (offset % 4 ≡ 0)
in_two s offset n e aligned inside =
    let a : offset % 8 ≡ 0 = ap (λ k. offset % k) (sym e) ∙ aligned in
    (omega arith, omega arith)

pow_bytes : (r : ℕ) → 256 ^ r ≡ 2 ^ (8 * r)
pow_bytes zero = refl
pow_bytes (suc r) =
    let e : 8 * suc r ≡ 8 + 8 * r = omega arith in
    pow-succ' 256 r ∙ ap (λ x. 256 * x) (pow_bytes r) ∙ sym (pow-add 2 8 (8 * r)) ∙ ap (λ k. 2 ^ k) (sym e)

-- the number of some bytes within one word
pub number_at : (u : ℕ) (xs : List ℕ) (offset q r s : ℕ) → offset ≡ u * q + r → q < length xs → r + s ≤ u
    → little_number s (drop offset (flat_map (λ word. little_bytes u word) xs)) ≡ slice_index xs q / 2 ^ (8 * r) % 256 ^ s
number_at u xs offset q r s e h k =
    ap (λ o. little_number s (drop o (flat_map (λ word. little_bytes u word) xs))) e ∙ number_in_word u r s xs q h k
    ∙ ap (λ p. slice_index xs q / p % 256 ^ s) (pow_bytes r)

-- and in two words of 4 bytes
pub number_in_two : (xs : List ℕ) (offset q s : ℕ) → s ≡ 8 → offset ≡ 4 * q → suc q < length xs → slice_index xs q < 2 ^ 32 → slice_index xs (q + 1) < 2 ^ 32
    → little_number s (drop offset (flat_map (λ word. little_bytes 4 word) xs)) ≡ slice_index xs q + 2 ^ 32 * slice_index xs (q + 1)
number_in_two xs offset q s eight e h a b =
    let next : suc q ≡ q + 1 = omega arith in
    let high : slice_index xs (suc q) < 2 ^ 32 = subst (λ k. slice_index xs k < 2 ^ 32) (sym next) b in
    ap (λ k. little_number k (drop offset (flat_map (λ word. little_bytes 4 word) xs))) eight
    ∙ ap (λ o. little_number 8 (drop o (flat_map (λ word. little_bytes 4 word) xs))) e ∙ two_words xs q h a high
    ∙ ap (λ k. slice_index xs q + 2 ^ 32 * slice_index xs k) next

-- a doubleword fits its bytes
pub double_fits : (x s : ℕ) → s ≡ 8 → x < 2 ^ 64 → x ≡ x % 256 ^ s
double_fits x s eight h = sym (ap (λ k. x % 256 ^ k) eight ∙ mod-eq_of_lt h)

-- a store writes as many bytes as its size says
pub length-store_bytes : (op : StoreOp) (v : ℕ) → length (store_bytes op v) ≡ store_size op
unfolding store_size store_bytes
length-store_bytes Sb v = refl
length-store_bytes Sh v = length-bytes_low_first 0 2 (v % 2 ^ 16)
length-store_bytes Sw v = length-bytes_low_first 0 4 (v % 2 ^ 32)
length-store_bytes Sd v = length-bytes_low_first 0 8 v
