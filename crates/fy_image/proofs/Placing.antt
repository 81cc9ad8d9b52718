-- Places in either version, and what refuses them.
use Rattle.std.proofs.Common.{◌≡◌, ℕ, suc, ◌+◌, ◌-◌, ◌*◌, ◌^◌, ◌<◌, ◌≤◌, if◌then◌else◌, List, [], ◌∷◌, ◌++◌, length, replicate, All, append_assoc, length-append, sym, ap, ◌∙◌, refl, arith, Some, None, Option}
use Rattle.std.specs.List.{flat_map}
use Rattle.std.proofs.lemmas.List.{append-nil}
use Rattle.std.proofs.lemmas.List.Elements.{All-head, All-tail}
use Rattle.fy_base.specs.Outside.{Bytes}
use Rattle.fy_base.specs.declared.data.Place.{Place}
use Rattle.fy_base.proofs.PlaceLemmas.{place-equal}
use Rattle.fy_image.specs.Form.{PlaceFits, word, short, place_bytes}
use Rattle.fy_image.specs.Refusals.{Field, IsCause, any_bytes, first_refusal, lists_of, number_of, place_fields, short_number}
use Rattle.fy_image.specs.declared.error.ImageError.{ImageError}
use Rattle.fy_image.specs.declared.error.ImageError.TheVariants as errors
use Rattle.fy_image.specs.declared.version.Version.{Version}
use Rattle.fy_image.specs.declared.version.Version.TheVariants.{One, Two}
use Rattle.fy_image.proofs.Judging.{passed, cause_along, number_back, places_good}
use Rattle.fy_image.proofs.Lists.{front_same}
use Rattle.fy_image.proofs.Groups.{size_is, is_short_short, short_length, short_same}

-- a short number isn't refused
pub short_good : (n field : ℕ) (fields : List Field) (rest : Bytes) → 0 < n → n < 2 ^ 32 → first_refusal (short_number field ∷ fields) (short n ++ rest) ≡ first_refusal fields rest
short_good n field fields rest some fits =
    passed (short_number field) fields (short n) rest (sym (size_is n rest some fits)) (ap (λ b. if b then None else Some (errors.BadField field)) (is_short_short n some fits))

-- so many of them, with these behind
abbrev shorts : ℕ → ℕ → List Field → List Field
shorts n field fields = replicate n (short_number field) ++ fields

-- numbers of which the first are those of places: what stands behind them decides
places_on : (m field : ℕ) (places : List Place) (fields : List Field) (rest : Bytes) → All PlaceFits places
    → first_refusal (shorts (2 * length places + m) field fields) (flat_map (place_bytes Two) places ++ rest) ≡ first_refusal (shorts m field fields) rest
places_on m field [] fields rest fit = ap (λ n. first_refusal (shorts n field fields) rest) (let e : 2 * 0 + m ≡ m = omega arith in e)
places_on m field (place ∷ places) fields rest fit =
    let k = 2 * length places + m in
    let two : 2 * suc (length places) + m ≡ suc (suc k) = omega arith in
    let fits = All-head PlaceFits place places fit in
    let behind : Bytes = flat_map (place_bytes Two) places ++ rest in
    let low = place.line_from_one in
    let left = place.col_from_one in
    ap (λ n. first_refusal (shorts n field fields) (flat_map (place_bytes Two) (place ∷ places) ++ rest)) two
    ∙ ap (λ b. first_refusal (shorts (suc (suc k)) field fields) b) (append_assoc (short place.line ++ short place.col) (flat_map (place_bytes Two) places) rest ∙ append_assoc (short place.line) (short place.col) behind)
    ∙ short_good place.line field (shorts (suc k) field fields) (short place.col ++ behind) (omega arith) fits.line
    ∙ short_good place.col field (shorts k field fields) behind (omega arith) fits.col
    ∙ places_on m field places fields rest (All-tail PlaceFits place places fit)

-- places aren't refused
pub placed_good : (version : Version) (count field : ℕ) (places : List Place) (fields : List Field) (rest : Bytes) → All PlaceFits places → length places ≡ count
    → first_refusal (place_fields version count field ++ fields) (flat_map (place_bytes version) places ++ rest) ≡ first_refusal fields rest
placed_good One count field places fields rest fit same = places_good count field places fields rest fit same
placed_good Two count field places fields rest fit same =
    let n : 2 * count ≡ 2 * length places + 0 = omega arith in
    ap (λ k. first_refusal (shorts k field fields) (flat_map (place_bytes Two) places ++ rest)) n ∙ places_on 0 field places fields rest fit

-- the next line is refused
pub line_bad : (count field : ℕ) (places : List Place) (error : ImageError) (fields : List Field) (all rest : Bytes) → All PlaceFits places → length places < count → all ≡ flat_map (place_bytes Two) places ++ rest
    → ((others : List Field) → IsCause error (first_refusal (short_number field ∷ others) rest)) → IsCause error (first_refusal (place_fields Two count field ++ fields) all)
line_bad count field places error fields all rest fit few is bad =
    let m = 2 * (count - (length places + 1)) in
    let n : 2 * count ≡ 2 * length places + suc (suc m) = omega arith in
    cause_along error _ _
    (ap (λ b. first_refusal (shorts (2 * count) field fields) b) is ∙ ap (λ k. first_refusal (shorts k field fields) (flat_map (place_bytes Two) places ++ rest)) n ∙ places_on (suc (suc m)) field places fields rest fit)
    (bad (shorts (suc m) field fields))

-- the next column is
pub col_bad : (count field : ℕ) (places : List Place) (line : ℕ) (error : ImageError) (fields : List Field) (all after rest : Bytes) → All PlaceFits places → length places < count → all ≡ flat_map (place_bytes Two) places ++ after
    → after ≡ short line ++ rest → 0 < line → line < 2 ^ 32
    → ((others : List Field) → IsCause error (first_refusal (short_number field ∷ others) rest)) → IsCause error (first_refusal (place_fields Two count field ++ fields) all)
col_bad count field places line error fields all after rest fit few is also some fits bad =
    let m = 2 * (count - (length places + 1)) in
    let n : 2 * count ≡ 2 * length places + suc (suc m) = omega arith in
    cause_along error _ _
    (ap (λ b. first_refusal (shorts (2 * count) field fields) b) (is ∙ ap (λ b. flat_map (place_bytes Two) places ++ b) also)
    ∙ ap (λ k. first_refusal (shorts k field fields) (flat_map (place_bytes Two) places ++ (short line ++ rest))) n
    ∙ places_on (suc (suc m)) field places fields (short line ++ rest) fit
    ∙ short_good line field (shorts (suc m) field fields) rest some fits)
    (bad (shorts m field fields))

-- what is left of the refusal behind the words of the lists
pub lists_judged : (version : Version) (c t n : ℕ) (r1 r2 r3 : Bytes) (whole : Option ImageError) → whole ≡ first_refusal (lists_of version c t n) r1
    → ((f : List Field) → first_refusal (any_bytes (4 * c) ∷ f) r1 ≡ first_refusal f r2) → ((f : List Field) → first_refusal (any_bytes (8 * t) ∷ f) r2 ≡ first_refusal f r3)
    → whole ≡ first_refusal (place_fields version n 6 ++ []) r3
lists_judged version c t n r1 r2 r3 whole is code table =
    is
    ∙ code (any_bytes (8 * t) ∷ place_fields version n 6)
    ∙ table (place_fields version n 6)
    ∙ ap (λ f. first_refusal f r3) (sym (append-nil (place_fields version n 6)))

-- ---- what is spelled the same

word_same : (x y : ℕ) → x < 2 ^ 32 → y < 2 ^ 32 → word x ≡ word y → x ≡ y
word_same x y fx fy same = sym (number_back x fx) ∙ ap (λ b. number_of b) same ∙ number_back y fy

pub words_same : (x y : ℕ) (r s : Bytes) → x < 2 ^ 32 → y < 2 ^ 32 → word x ++ r ≡ word y ++ s → (x ≡ y) × (r ≡ s)
words_same x y r s fx fy same = let both = front_same (word x) (word y) r s refl same in (word_same x y fx fy both.0, both.1)

pub places_same : (version : Version) (x y : Place) (r s : Bytes) → PlaceFits x → PlaceFits y → place_bytes version x ++ r ≡ place_bytes version y ++ s → (x ≡ y) × (r ≡ s)
places_same One x y r s fx fy same =
    let line = words_same x.line y.line (word x.col ++ r) (word y.col ++ s) fx.line fy.line (sym (append_assoc (word x.line) (word x.col) r) ∙ same ∙ append_assoc (word y.line) (word y.col) s) in
    let col = words_same x.col y.col r s fx.col fy.col line.1 in
    (place-equal x y line.0 col.0, col.1)
places_same Two x y r s fx fy same =
    let x_line = x.line_from_one in
    let x_col = x.col_from_one in
    let y_line = y.line_from_one in
    let y_col = y.col_from_one in
    let line = short_same x.line y.line (short x.col ++ r) (short y.col ++ s) (omega arith) (omega arith) fx.line fy.line (sym (append_assoc (short x.line) (short x.col) r) ∙ same ∙ append_assoc (short y.line) (short y.col) s) in
    let col = short_same x.col y.col r s (omega arith) (omega arith) fx.col fy.col line.1 in
    (place-equal x y line.0 col.0, col.1)

-- a place has ten bytes at most
pub place_short : (version : Version) (place : Place) → PlaceFits place → length (place_bytes version place) ≤ 10
place_short One place fits = omega arith
place_short Two place fits = omega (arith, length-append (short place.line) (short place.col), short_length place.line fits.line, short_length place.col fits.col)
