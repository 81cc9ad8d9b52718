-- Which field is refused first, step by step.
use Rattle.std.proofs.Common.{◌≡◌, ◌≢◌, ◌⊎◌, ℕ, suc, ◌+◌, ◌-◌, ◌*◌, ◌^◌, ◌<◌, ◌≤◌, min, Bool, true, false, not, ◌&&◌, All, if◌then◌else◌, nat_eq, ltb, leb, List, [], ◌∷◌, ◌++◌, length, take, drop, length-append, sym, ap, ◌∙◌, refl, arith, subst, inl, inr, Some, None, Option}
use Rattle.fy_image.proofs.Lists.{places_long, start_is}
use Rattle.std.proofs.lemmas.Bool.{le-ltb, lt-ltb, ne_eqb}
use Rattle.std.proofs.Math.Bool.{and-false, and_assoc}
use Rattle.std.proofs.lemmas.List.Elements.{All-head, All-tail}
use Rattle.std.proofs.lemmas.List.{append-nil, append_assoc, length-take, take-append-drop}
use Rattle.std.proofs.Math.Seq.{take-append_seam, drop-append_seam}
use Rattle.std.specs.declared.result.Result.{Result}
use Rattle.std.specs.declared.result.Result.TheVariants.{Ok, Err}
use Rattle.std.proofs.lemmas.Nat.{from_le_bytes-to_le_bytes_4}
use Rattle.std.specs.List.{starts_with, list_all, flat_map}
use Rattle.fy_base.specs.declared.data.Place.{Place}
use Rattle.fy_base.specs.Outside.{Bytes}
use Rattle.fy_image.specs.Form.{PlaceFits, magic, most_stack, version_number, word, place_bytes}
use Rattle.fy_image.specs.Reading.{is_place, body_refusal}
use Rattle.fy_image.specs.Refusals.{IsJudged, Field, place_list, or_else, number_of, number_at, numbers, version_of, version_refusal, version_field, range_refusal, number_in, any_bytes, fields_of, fields_behind, first_refusal, magic_refusal, lists_of, IsCause}
use Rattle.fy_image.specs.declared.error.ImageError.{ImageError}
use Rattle.fy_image.specs.declared.error.ImageError.TheVariants as errors
use Rattle.fy_image.specs.declared.version.Version.{Version}
use Rattle.fy_image.specs.declared.version.Version.TheVariants.{One, Two}

-- the first bytes aren't the magic's
pub magic_bad : (bytes start : Bytes) → start ≡ take (min (length bytes) 8) bytes → starts_with nat_eq magic start ≡ false → magic_refusal bytes ≡ Some errors.BadMagic
unfolding magic_refusal
magic_bad bytes start is other = let e = ap (λ b. starts_with nat_eq magic b) (start_is bytes start 8 is) ∙ other in rw e refl

start_long : (bytes start : Bytes) → start ≡ take (min (length bytes) 8) bytes → length start ≡ min (length bytes) 8
start_long bytes start is = ap (λ b. length b) is ∙ length-take (min (length bytes) 8) bytes ∙ omega arith

-- they are, but some are missing
pub magic_short : (bytes start : Bytes) → start ≡ take (min (length bytes) 8) bytes → starts_with nat_eq magic start ≡ true → length start < 8 → magic_refusal bytes ≡ Some errors.Truncated
unfolding magic_refusal
magic_short bytes start is same short =
    let e = ap (λ b. starts_with nat_eq magic b) (start_is bytes start 8 is) ∙ same in
    let less : length bytes < 8 = omega (arith, start_long bytes start is) in
    let l : ltb (length bytes) 8 ≡ true = grind arith in rw (e, l) refl

-- the magic is there
pub magic_good : (bytes start : Bytes) → start ≡ take (min (length bytes) 8) bytes → starts_with nat_eq magic start ≡ true → 8 ≤ length start → magic_refusal bytes ≡ None
unfolding magic_refusal
magic_good bytes start is same long =
    let e = ap (λ b. starts_with nat_eq magic b) (start_is bytes start 8 is) ∙ same in
    let more : 8 ≤ length bytes = omega (arith, start_long bytes start is) in
    let l : ltb (length bytes) 8 ≡ false = grind arith in rw (e, l) refl

-- a field that is cut off
pub cut_off : (field : Field) (fields : List Field) (bytes : Bytes) → length bytes < field.size bytes → first_refusal (field ∷ fields) bytes ≡ Some errors.Truncated
unfolding first_refusal
cut_off field fields bytes short = let l : ltb (length bytes) (field.size bytes) ≡ true = lt-ltb (length bytes) (field.size bytes) short in rw l refl

-- a field that is there
pub whole : (field : Field) (fields : List Field) (part rest : Bytes) → length part ≡ field.size (part ++ rest) → first_refusal (field ∷ fields) (part ++ rest) ≡ or_else (field.refusal part) (first_refusal fields rest)
unfolding first_refusal
whole field fields part rest long =
    let l : ltb (length (part ++ rest)) (field.size (part ++ rest)) ≡ false = le-ltb (length (part ++ rest)) (field.size (part ++ rest)) (omega (arith, length-append part rest)) in
    let t : take (field.size (part ++ rest)) (part ++ rest) ≡ part = ap (λ n. take n (part ++ rest)) (sym long) ∙ take-append_seam part rest in
    let d : drop (field.size (part ++ rest)) (part ++ rest) ≡ rest = ap (λ n. drop n (part ++ rest)) (sym long) ∙ drop-append_seam part rest in
    rw (l, t, d) refl

-- a field that is there and isn't refused
pub passed : (field : Field) (fields : List Field) (part rest : Bytes) → length part ≡ field.size (part ++ rest) → field.refusal part ≡ None → first_refusal (field ∷ fields) (part ++ rest) ≡ first_refusal fields rest
passed field fields part rest long good = whole field fields part rest long ∙ ap (λ r. or_else r (first_refusal fields rest)) good

-- a field that is there and is refused
pub refused : (field : Field) (fields : List Field) (part rest : Bytes) (error : ImageError) → length part ≡ field.size (part ++ rest) → field.refusal part ≡ Some error → first_refusal (field ∷ fields) (part ++ rest) ≡ Some error
refused field fields part rest error long bad = whole field fields part rest long ∙ ap (λ r. or_else r (first_refusal fields rest)) bad

-- a number is read back
pub number_back : (n : ℕ) → n < 2 ^ 32 → number_of (word n) ≡ n
unfolding number_of
number_back n fits = from_le_bytes-to_le_bytes_4 n fits

in_range : (least most field n : ℕ) → least ≤ n → n ≤ most → range_refusal least most field n ≡ None
in_range least most field n low high = let a : leb least n ≡ true = grind arith in let b : leb n most ≡ true = grind arith in rw (a, b) refl

below_range : (least most field n : ℕ) → n < least → range_refusal least most field n ≡ Some (errors.BadField field)
below_range least most field n low = let a : leb least n ≡ false = grind arith in rw a refl

above_range : (least most field n : ℕ) → most < n → range_refusal least most field n ≡ Some (errors.BadField field)
above_range least most field n high = let b : leb n most ≡ false = grind arith in rw (b, and-false (leb least n)) refl

-- a number in its range
pub number_good : (least most field n : ℕ) (fields : List Field) (rest : Bytes) → n < 2 ^ 32 → least ≤ n → n ≤ most → first_refusal (number_in least most field ∷ fields) (word n ++ rest) ≡ first_refusal fields rest
number_good least most field n fields rest fits low high =
    passed (number_in least most field) fields (word n) rest refl (ap (λ k. range_refusal least most field k) (number_back n fits) ∙ in_range least most field n low high)

-- a number out of its range
pub number_bad : (least most field n : ℕ) (fields : List Field) (rest : Bytes) → n < 2 ^ 32 → (n < least) ⊎ (most < n) → first_refusal (number_in least most field ∷ fields) (word n ++ rest) ≡ Some (errors.BadField field)
number_bad least most field n fields rest fits (inl low) =
    refused (number_in least most field) fields (word n) rest (errors.BadField field) refl (ap (λ k. range_refusal least most field k) (number_back n fits) ∙ below_range least most field n low)
number_bad least most field n fields rest fits (inr high) =
    refused (number_in least most field) fields (word n) rest (errors.BadField field) refl (ap (λ k. range_refusal least most field k) (number_back n fits) ∙ above_range least most field n high)

-- the version
pub version_good : (version : Version) (c t n : ℕ) (rest : Bytes)
    → first_refusal (version_field ∷ fields_behind (version_of (number_of (word (version_number version)))) c t n) (word (version_number version) ++ rest) ≡ first_refusal (fields_of version c t n) rest
unfolding number_of
version_good One c t n rest = passed version_field (fields_of One c t n) (word 1) rest refl refl
version_good Two c t n rest = passed version_field (fields_of Two c t n) (word 2) rest refl refl

other_version : (n : ℕ) → n ≢ 1 → n ≢ 2 → version_refusal n ≡ Some (errors.BadVersion n)
other_version n one two = let a = ne_eqb n 1 one in let b = ne_eqb n 2 two in rw (a, b) refl

pub version_bad : (n : ℕ) (fields : List Field) (rest : Bytes) → n < 2 ^ 32 → n ≢ 1 → n ≢ 2 → first_refusal (version_field ∷ fields) (word n ++ rest) ≡ Some (errors.BadVersion n)
version_bad n fields rest fits one two =
    refused version_field fields (word n) rest (errors.BadVersion n) refl (ap (λ k. version_refusal k) (number_back n fits) ∙ other_version n one two)

-- bytes whatever they are
pub any_good : (size : ℕ) (fields : List Field) (part rest : Bytes) → length part ≡ size → first_refusal (any_bytes size ∷ fields) (part ++ rest) ≡ first_refusal fields rest
any_good size fields part rest long = passed (any_bytes size) fields part rest long refl

-- the end
pub end_good : (bytes : Bytes) → length bytes ≡ 0 → first_refusal [] bytes ≡ None
unfolding first_refusal
end_good bytes none = rw none refl

pub end_bad : (bytes : Bytes) → 0 < length bytes → first_refusal [] bytes ≡ Some (errors.Trailing (length bytes))
unfolding first_refusal
end_bad bytes some = let e = ne_eqb (length bytes) 0 (λ z. omega arith) in rw e refl

-- a field that is cut off, told by an error
pub cut_judged : (error : ImageError) (field : Field) (bytes : Bytes) → error ≡ errors.Truncated → length bytes < field.size bytes → (fields : List Field) → IsCause error (first_refusal (field ∷ fields) bytes)
cut_judged error field bytes is short fields = let P : ImageError → Type 0 = λ e. IsCause e (first_refusal (field ∷ fields) bytes) in subst P (sym is) (cut_off field fields bytes short)

-- the numbers of places
abbrev is_nonzero : ℕ → Bool
is_nonzero n = not (nat_eq n 0)

nonzero_more : (line col m : ℕ) (rest : Bytes) → line < 2 ^ 32 → col < 2 ^ 32 → list_all is_nonzero (numbers (suc (suc m)) ((word line ++ word col) ++ rest)) ≡ (is_place line col && list_all is_nonzero (numbers m rest))
nonzero_more line col m rest line_fits col_fits =
    ap (λ n. is_nonzero n && (is_nonzero (number_of (word col)) && list_all is_nonzero (numbers m rest))) (number_back line line_fits)
    ∙ ap (λ n. is_nonzero line && (is_nonzero n && list_all is_nonzero (numbers m rest))) (number_back col col_fits)
    ∙ sym (and_assoc (is_nonzero line) (is_nonzero col) (list_all is_nonzero (numbers m rest)))

-- a place has a line and a column
has_numbers : (place : Place) → is_place place.line place.col ≡ true
has_numbers place =
    let low = place.line_from_one in
    let left = place.col_from_one in
    let line : nat_eq place.line 0 ≡ false = ne_eqb place.line 0 (λ e. omega arith) in
    let col : nat_eq place.col 0 ≡ false = ne_eqb place.col 0 (λ e. omega arith) in
    rw (line, col) refl

-- numbers of which the first are those of places: what stands behind them decides
nonzero_behind : (places : List Place) (m : ℕ) (rest : Bytes) → All PlaceFits places → list_all is_nonzero (numbers (2 * length places + m) (flat_map (place_bytes One) places ++ rest)) ≡ list_all is_nonzero (numbers m rest)
nonzero_behind [] m rest fit = ap (λ n. list_all is_nonzero (numbers n rest)) (let e : 2 * 0 + m ≡ m = omega arith in e)
nonzero_behind (place ∷ places) m rest fit =
    let two : 2 * suc (length places) + m ≡ suc (suc (2 * length places + m)) = omega arith in
    let fits = All-head PlaceFits place places fit in
    ap (λ n. list_all is_nonzero (numbers n (flat_map (place_bytes One) (place ∷ places) ++ rest))) two
    ∙ ap (λ b. list_all is_nonzero (numbers (suc (suc (2 * length places + m))) b)) (append_assoc (place_bytes One place) (flat_map (place_bytes One) places) rest)
    ∙ nonzero_more place.line place.col (2 * length places + m) (flat_map (place_bytes One) places ++ rest) fits.line fits.col
    ∙ ap (λ b. b && list_all is_nonzero (numbers (2 * length places + m) (flat_map (place_bytes One) places ++ rest))) (has_numbers place)
    ∙ nonzero_behind places m rest (All-tail PlaceFits place places fit)

-- places
pub places_good : (count field : ℕ) (places : List Place) (fields : List Field) (rest : Bytes) → All PlaceFits places → length places ≡ count
    → first_refusal (place_list count field ∷ fields) (flat_map (place_bytes One) places ++ rest) ≡ first_refusal fields rest
places_good count field places fields rest fit same =
    let all : list_all is_nonzero (numbers (2 * count) (flat_map (place_bytes One) places)) ≡ true =
    ap (λ n. list_all is_nonzero (numbers n (flat_map (place_bytes One) places))) (let e : 2 * count ≡ 2 * length places + 0 = omega arith in e)
    ∙ ap (λ b. list_all is_nonzero (numbers (2 * length places + 0) b)) (sym (append-nil (flat_map (place_bytes One) places)))
    ∙ nonzero_behind places 0 [] fit in
    passed (place_list count field) fields (flat_map (place_bytes One) places) rest (places_long places count same) (ap (λ b. if b then None else Some (errors.BadField field)) all)

-- two numbers of which one is 0, behind places: the bytes that the list has of what follows them
zero_behind : (places : List Place) (line col m : ℕ) (rest : Bytes) → All PlaceFits places → line < 2 ^ 32 → col < 2 ^ 32 → is_place line col ≡ false
    → list_all is_nonzero (numbers (2 * length places + suc (suc m)) (flat_map (place_bytes One) places ++ ((word line ++ word col) ++ rest))) ≡ false
zero_behind places line col m rest fit line_fits col_fits bad =
    nonzero_behind places (suc (suc m)) ((word line ++ word col) ++ rest) fit
    ∙ nonzero_more line col m rest line_fits col_fits
    ∙ ap (λ b. b && list_all is_nonzero (numbers m rest)) bad

-- bytes of which none is wanting, where two numbers behind places are no place
pub places_bad : (count field : ℕ) (places : List Place) (line col : ℕ) (fields : List Field) (rest : Bytes) → All PlaceFits places → line < 2 ^ 32 → col < 2 ^ 32 → is_place line col ≡ false
    → length places < count → 8 * count ≤ length (flat_map (place_bytes One) places ++ ((word line ++ word col) ++ rest))
    → first_refusal (place_list count field ∷ fields) (flat_map (place_bytes One) places ++ ((word line ++ word col) ++ rest)) ≡ Some (errors.BadField field)
places_bad count field places line col fields rest fit line_fits col_fits bad few there =
    let k = length places in
    let m : ℕ = 8 * (count - (k + 1)) in
    let own : Bytes = flat_map (place_bytes One) places ++ ((word line ++ word col) ++ take m rest) in
    let placed = places_long places k refl in
    let enough : m ≤ length rest = omega (arith, length-append (flat_map (place_bytes One) places) ((word line ++ word col) ++ rest), length-append (word line ++ word col) rest) in
    let taken : length (take m rest) ≡ m = length-take m rest ∙ omega arith in
    let long : length own ≡ 8 * count = omega (arith, length-append (flat_map (place_bytes One) places) ((word line ++ word col) ++ take m rest), length-append (word line ++ word col) (take m rest)) in
    let whole_is : flat_map (place_bytes One) places ++ ((word line ++ word col) ++ rest) ≡ own ++ drop m rest =
    ap (λ b. flat_map (place_bytes One) places ++ ((word line ++ word col) ++ b)) (sym (take-append-drop m rest))
    ∙ ap (λ b. flat_map (place_bytes One) places ++ b) (sym (append_assoc (word line ++ word col) (take m rest) (drop m rest)))
    ∙ sym (append_assoc (flat_map (place_bytes One) places) ((word line ++ word col) ++ take m rest) (drop m rest)) in
    let two : 2 * count ≡ 2 * k + suc (suc (2 * (count - (k + 1)))) = omega arith in
    let some : list_all is_nonzero (numbers (2 * count) own) ≡ false =
    ap (λ n. list_all is_nonzero (numbers n own)) two ∙ zero_behind places line col (2 * (count - (k + 1))) (take m rest) fit line_fits col_fits bad in
    ap (λ b. first_refusal (place_list count field ∷ fields) b) whole_is
    ∙ refused (place_list count field) fields own (drop m rest) (errors.BadField field) long (ap (λ b. if b then None else Some (errors.BadField field)) some)

-- an error of what is the same refusal
pub cause_along : (error : ImageError) (a b : Option ImageError) → a ≡ b → IsCause error b → IsCause error a
cause_along error a b same cause = let P : Option ImageError → Type 0 = λ r. IsCause error r in subst P (sym same) cause

-- the counts, where they stand behind the version
pub counts_at : (bytes : Bytes) (s c t n : ℕ) (r1 r2 r3 r4 : Bytes) → bytes ≡ word s ++ r1 → r1 ≡ word c ++ r2 → r2 ≡ word t ++ r3 → r3 ≡ word n ++ r4 → c < 2 ^ 32 → t < 2 ^ 32 → n < 2 ^ 32
    → (number_at bytes 4 ≡ c) × (number_at bytes 8 ≡ t) × (number_at bytes 12 ≡ n)
counts_at bytes s c t n r1 r2 r3 r4 e1 e2 e3 e4 fc ft fn =
    let whole : bytes ≡ word s ++ (word c ++ (word t ++ (word n ++ r4))) = e1 ∙ ap (λ r. word s ++ r) (e2 ∙ ap (λ r. word c ++ r) (e3 ∙ ap (λ r. word t ++ r) e4)) in (
      ap (λ b. number_at b 4) whole ∙ number_back c fc,
      ap (λ b. number_at b 8) whole ∙ number_back t ft,
      ap (λ b. number_at b 12) whole ∙ number_back n fn,
    )

-- the refusal of the body by the counts
pub body_by : (version : Version) (bytes : Bytes) (c t n : ℕ) → (number_at bytes 4 ≡ c) × (number_at bytes 8 ≡ t) × (number_at bytes 12 ≡ n) → body_refusal version bytes ≡ first_refusal (fields_of version c t n) bytes
unfolding body_refusal
body_by version bytes c t n at =
    ap (λ k. first_refusal (fields_of version k (number_at bytes 8) (number_at bytes 12)) bytes) at.0
    ∙ ap (λ k. first_refusal (fields_of version c k (number_at bytes 12)) bytes) at.1
    ∙ ap (λ k. first_refusal (fields_of version c t k) bytes) at.2

-- what is left of the refusal behind the numbers
pub header_judged : (version : Version) (r0 r1 r2 r3 r4 r5 : Bytes) (s c t n : ℕ) → (r0 ≡ word s ++ r1) × (r1 ≡ word c ++ r2) × (r2 ≡ word t ++ r3) × (r3 ≡ word n ++ r4) → (c < 2 ^ 32) × (t < 2 ^ 32) × (n < 2 ^ 32)
    → ((f : List Field) → first_refusal (number_in 1024 (most_stack version) 1 ∷ f) r0 ≡ first_refusal f r1)
    × ((f : List Field) → first_refusal (number_in 1 4194304 2 ∷ f) r1 ≡ first_refusal f r2)
    × ((f : List Field) → first_refusal (number_in 0 1048576 3 ∷ f) r2 ≡ first_refusal f r3)
    × ((f : List Field) → first_refusal (number_in 0 524288 4 ∷ f) r3 ≡ first_refusal f r4)
    × ((f : List Field) → first_refusal (number_in 0 0 5 ∷ f) r4 ≡ first_refusal f r5)
    → body_refusal version r0 ≡ first_refusal (lists_of version c t n) r5
header_judged version r0 r1 r2 r3 r4 r5 s c t n taken fits judged =
    body_by version r0 c t n (counts_at r0 s c t n r1 r2 r3 r4 taken.0 taken.1 taken.2 taken.3 fits.0 fits.1 fits.2)
    ∙ judged.0 (number_in 1 4194304 2 ∷ number_in 0 1048576 3 ∷ number_in 0 524288 4 ∷ number_in 0 0 5 ∷ lists_of version c t n)
    ∙ judged.1 (number_in 0 1048576 3 ∷ number_in 0 524288 4 ∷ number_in 0 0 5 ∷ lists_of version c t n)
    ∙ judged.2 (number_in 0 524288 4 ∷ number_in 0 0 5 ∷ lists_of version c t n)
    ∙ judged.3 (number_in 0 0 5 ∷ lists_of version c t n)
    ∙ judged.4 (lists_of version c t n)

-- a refusal is its error's cause
pub cause_some : (error : ImageError) (refusal : Option ImageError) → refusal ≡ Some error → IsCause error refusal
cause_some errors.BadMagic refusal is = is
cause_some (errors.BadVersion n) refusal is = is
cause_some errors.Truncated refusal is = is
cause_some (errors.Trailing n) refusal is = is
cause_some (errors.BadField n) refusal is = is
cause_some errors.TooLarge refusal is = is
cause_some errors.OutOfMemory refusal is = tt

pub cause_cut : (error : ImageError) (refusal : Option ImageError) → error ≡ errors.Truncated → refusal ≡ Some errors.Truncated → IsCause error refusal
cause_cut error refusal is cut = cause_some error refusal (cut ∙ ap (λ e. Some e) (sym is))

pub judged_along : {T : Type 0} (result : Result T ImageError) (a b : Option ImageError) → a ≡ b → IsJudged result b → IsJudged result a
judged_along (Ok value) a b same judged = same ∙ judged
judged_along (Err error) a b same judged = cause_along error a b same judged

-- bytes that aren't refused give want of memory alone
pub cause_none : (error : ImageError) → IsCause error None → error ≡ errors.OutOfMemory
cause_none errors.BadMagic cause = absurd (cc)
cause_none (errors.BadVersion n) cause = absurd (cc)
cause_none errors.Truncated cause = absurd (cc)
cause_none (errors.Trailing n) cause = absurd (cc)
cause_none (errors.BadField n) cause = absurd (cc)
cause_none errors.TooLarge cause = absurd (cc)
cause_none errors.OutOfMemory cause = refl
