-- Lists of words and places, and their bytes.
use Rattle.std.proofs.Common.{◌≡◌, ℕ, suc, ◌+◌, ◌-◌, ◌*◌, ◌^◌, ◌<◌, List, [], ◌∷◌, ◌++◌, length, append_assoc, All, sym, ap, ◌∙◌, refl, arith}
use Rattle.std.specs.List.{flat_map}
use Rattle.std.specs.Int.{w32, from_le_bytes}
use Rattle.std.proofs.lemmas.List.Elements.{All-head, All-tail}
use Rattle.std.proofs.lemmas.Nat.{from_le_bytes-to_le_bytes_4}
use Rattle.fy_base.specs.Outside.{Bytes}
use Rattle.fy_base.specs.declared.data.Place.{Place}
use Rattle.fy_base.proofs.PlaceLemmas.{place-equal}
use Rattle.fy_image.specs.declared.version.Version.TheVariants.{One}
use Rattle.fy_image.specs.Form.{PlaceFits, word, place_bytes}
use Rattle.fy_image.proofs.Lists.{front_same}
pub use Rattle.fy_image.proofs.Unique.{doubles_same, lists_same}
use Rattle.fy_elf.specs.Reading.{IsTaken}
use Rattle.fy_elf.specs.Refusals.{Rest, Judge, nonzeros, nonzero, IsCause}
use Rattle.fy_elf.specs.declared.error.ElfError.{ElfError}
use Rattle.fy_elf.proofs.Taking.{between, taken_first, taken_second, taken_as, start_is}
use Rattle.fy_elf.proofs.Judging.{nonzero_passed, cause_along}

-- ---- what is spelled the same

word_same : (x y : ℕ) → x < 2 ^ 32 → y < 2 ^ 32 → word x ≡ word y → x ≡ y
word_same x y fx fy same = sym (from_le_bytes-to_le_bytes_4 x fx) ∙ ap (λ b. from_le_bytes w32 b) same ∙ from_le_bytes-to_le_bytes_4 y fy

pub words_same : (x y : ℕ) (r s : Bytes) → x < 2 ^ 32 → y < 2 ^ 32 → word x ++ r ≡ word y ++ s → (x ≡ y) × (r ≡ s)
words_same x y r s fx fy same = let both = front_same (word x) (word y) r s refl same in (word_same x y fx fy both.0, both.1)

pub places_same : (x y : Place) (r s : Bytes) → PlaceFits x → PlaceFits y → place_bytes One x ++ r ≡ place_bytes One y ++ s → (x ≡ y) × (r ≡ s)
places_same x y r s fx fy same =
    let line = words_same x.line y.line (word x.col ++ r) (word y.col ++ s) fx.line fy.line (sym (append_assoc (word x.line) (word x.col) r) ∙ same ∙ append_assoc (word y.line) (word y.col) s) in
    let col = words_same x.col y.col r s fx.col fy.col line.1 in
    (place-equal x y line.0 col.0, col.1)

-- ---- places

-- numbers of which the first are those of places: what stands behind them decides
pub places_on : (m : ℕ) (places : List Place) (before now : Rest) → All PlaceFits places → IsTaken (flat_map (place_bytes One) places) before now → (next : Judge) → nonzeros (2 * length places + m) next before ≡ nonzeros m next now
places_on m [] before now fit taken next = let n : 2 * 0 + m ≡ m = omega arith in ap (λ k. nonzeros k next before) n ∙ ap (λ rest. nonzeros m next rest) (start_is before now taken)
places_on m (place ∷ places) before now fit taken next =
    let k = 2 * length places + m in
    let two : 2 * suc (length places) + m ≡ suc (suc k) = omega arith in
    let fits = All-head PlaceFits place places fit in
    let low = place.line_from_one in
    let left = place.col_from_one in
    let others : Bytes = flat_map (place_bytes One) places in
    let r1 = between (word place.line) (word place.col ++ others) before now in
    let r2 = between (word place.col) others r1 now in
    let t0 = taken_as (flat_map (place_bytes One) (place ∷ places)) (word place.line ++ (word place.col ++ others)) before now (append_assoc (word place.line) (word place.col) others) taken in
    let t1 = taken_second (word place.line) (word place.col ++ others) before now t0 in
    let t2 = taken_second (word place.col) others r1 now t1 in
    ap (λ n. nonzeros n next before) two
    ∙ nonzero_passed place.line before r1 (taken_first (word place.line) (word place.col ++ others) before now t0) (omega arith) fits.line (nonzeros (suc k) next)
    ∙ nonzero_passed place.col r1 r2 (taken_first (word place.col) others r1 now t1) (omega arith) fits.col (nonzeros k next)
    ∙ places_on m places r2 now (All-tail PlaceFits place places fit) t2 next

-- places aren't refused
pub places_passed : (count : ℕ) (places : List Place) (before now : Rest) → length places ≡ count → All PlaceFits places → IsTaken (flat_map (place_bytes One) places) before now → (next : Judge) → nonzeros (2 * count) next before ≡ next now
places_passed count places before now same fit taken next =
    let n : 2 * count ≡ 2 * length places + 0 = omega arith in ap (λ k. nonzeros k next before) n ∙ places_on 0 places before now fit taken next

-- the next line is refused
pub line_bad : (count : ℕ) (places : List Place) (error : ElfError) (before now : Rest) → length places < count → All PlaceFits places → IsTaken (flat_map (place_bytes One) places) before now
    → ((next : Judge) → IsCause error (nonzero next now)) → (next : Judge) → IsCause error (nonzeros (2 * count) next before)
line_bad count places error before now few fit taken bad next =
    let m = 2 * (count - (length places + 1)) in
    let n : 2 * count ≡ 2 * length places + suc (suc m) = omega arith in
    cause_along error _ _ (ap (λ k. nonzeros k next before) n ∙ places_on (suc (suc m)) places before now fit taken next) (bad (nonzeros (suc m) next))

-- the next column is
pub col_bad : (count : ℕ) (places : List Place) (error : ElfError) (before now after : Rest) → length places < count → All PlaceFits places → IsTaken (flat_map (place_bytes One) places) before now
    → ((next : Judge) → nonzero next now ≡ next after) → ((next : Judge) → IsCause error (nonzero next after)) → (next : Judge) → IsCause error (nonzeros (2 * count) next before)
col_bad count places error before now after few fit taken line bad next =
    let m = 2 * (count - (length places + 1)) in
    let n : 2 * count ≡ 2 * length places + suc (suc m) = omega arith in
    cause_along error _ _ (ap (λ k. nonzeros k next before) n ∙ places_on (suc (suc m)) places before now fit taken next ∙ line (nonzeros (suc m) next)) (bad (nonzeros m next))
