-- An image has one file, and a file is that of one image, which isn't refused.
use Rattle.std.proofs.Common.{◌≡◌, ℕ, ◌+◌, ◌-◌, ◌*◌, ◌/◌, ◌%◌, ◌^◌, ◌<◌, ◌≤◌, [], ◌∷◌, ◌++◌, length, length-append, append_assoc, sym, ap, ◌∙◌, refl, arith, subst, Some, None, Option}
use Rattle.std.specs.Prelude.{MatchResult, replicate}
use Rattle.std.specs.List.{flat_map}
use Rattle.std.specs.declared.result.Result.{Result}
use Rattle.std.specs.declared.result.Result.TheVariants.{Ok, Err}
use Rattle.std.proofs.lemmas.List.{append-nil, length-replicate}
use Rattle.std.proofs.Math.Nat.{div-mul-le_self, mod-lt}
use Rattle.std.proofs.lemmas.Nat.{div-add-mod'}
use Rattle.fy_base.specs.Outside.{Bytes}
use Rattle.fy_image.specs.declared.image.Image.{Image}
use Rattle.fy_image.specs.declared.version.Version.TheVariants.{One}
use Rattle.fy_image.specs.Form.{FitsFields, PlaceFits, word, double, place_bytes}
use Rattle.fy_image.proofs.Lists.{words_long, doubles_long, places_long, front_same}
use Rattle.fy_elf.specs.Elf.{number_bytes, numbers_bytes, file_header, segment_start, segment_end, program_header, headers, note_header, table_offset, padding, contents_of, sizes_of, elf_of, IsElfBytes}
use Rattle.fy_elf.specs.Reading.{IsTaken, IsJudged, SizesFit}
use Rattle.fy_elf.specs.Refusals.{Rest, Judge, IsCause, content_fields, header_fields, refusal_of}
use Rattle.fy_elf.specs.declared.error.ElfError.{ElfError}
use Rattle.fy_elf.specs.declared.error.ElfError.TheVariants as errors
use Rattle.fy_elf.specs.declared.headers.Sizes.{Sizes}
use Rattle.fy_elf.proofs.Judging.{cause_none}
use Rattle.fy_elf.proofs.Lists.{words_same, doubles_same, places_same, lists_same}
use Rattle.fy_elf.proofs.Segments.{headers_passed}
use Rattle.fy_elf.proofs.Contents.{contents_by, contents_by_sizes, contents_passed, refusal_small}

pub sizes_fit : (image : Image) → FitsFields image → SizesFit (sizes_of image)
unfolding sizes_of
sizes_fit image fits = record {
  code_least = fits.ranges.code_least;
  code_most = fits.ranges.code_most;
  table_most = fits.ranges.table_most;
  stack_least = fits.ranges.stack_least;
  stack_most = fits.ranges.stack_most;
  places_most = fits.ranges.places_most;
}

-- ---- a file is judged by its headers and then by what is behind them

abbrev pub head_of : Image → Bytes
head_of image = numbers_bytes (headers (sizes_of image))

abbrev all_of : Bytes → Rest
all_of bytes = record { offset = 0; bytes = bytes }

abbrev behind_head : Image → Rest
behind_head image = record { offset = 0 + length (head_of image); bytes = contents_of image }

head_taken : (image : Image) → IsTaken (head_of image) (all_of (elf_of image)) (behind_head image)
unfolding elf_of
head_taken image = record { bytes_are = refl; offset_is = refl }

head_passed : (image : Image) (bytes : Bytes) → IsElfBytes image bytes → (next : Sizes → Judge) → header_fields next (all_of bytes) ≡ next (sizes_of image) (behind_head image)
head_passed image bytes is next =
    ap (λ b. header_fields next (all_of b)) is.spelled ∙ headers_passed (sizes_of image) (all_of (elf_of image)) (behind_head image) (sizes_fit image is.fits) (head_taken image) next

-- ---- one image

told_by : Option ElfError → ℕ
told_by None = 0
told_by (Some (errors.Bad n)) = n
told_by (Some errors.Truncated) = 0
told_by (Some (errors.Trailing n)) = 0
told_by (Some errors.TooLarge) = 0
told_by (Some errors.OutOfMemory) = 0

-- whatever is measured of the sizes, the bytes tell it
measure_same : (measure : Sizes → ℕ) (a b : Image) (bytes : Bytes) → IsElfBytes a bytes → IsElfBytes b bytes → measure (sizes_of a) ≡ measure (sizes_of b)
unfolding told_by
measure_same measure a b bytes ia ib =
    let next : Sizes → Judge = λ z rest. Some (errors.Bad (measure z)) in
    ap told_by (sym (head_passed a bytes ia next) ∙ head_passed b bytes ib next)

sizes_same : (a b : Image) (bytes : Bytes) → IsElfBytes a bytes → IsElfBytes b bytes → sizes_of a ≡ sizes_of b
sizes_same a b bytes ia ib =
    let c = measure_same (λ z. z.code_words) a b bytes ia ib in
    let t = measure_same (λ z. z.table_words) a b bytes ia ib in
    let s = measure_same (λ z. z.stack_words) a b bytes ia ib in
    let n = measure_same (λ z. z.places) a b bytes ia ib in
    λ i. record { code_words = c i; table_words = t i; stack_words = s i; places = n i }

contents_same : (a b : Image) (bytes : Bytes) → IsElfBytes a bytes → IsElfBytes b bytes → contents_of a ≡ contents_of b
unfolding elf_of
contents_same a b bytes ia ib =
    (front_same (head_of a) (head_of b) (contents_of a) (contents_of b) (ap (λ z. length (numbers_bytes (headers z))) (sizes_same a b bytes ia ib)) (sym ia.spelled ∙ ib.spelled)).1

-- bytes are those of at most one image
pub image_same : (a b : Image) (bytes : Bytes) → IsElfBytes a bytes → IsElfBytes b bytes → a ≡ b
unfolding contents_of sizes_of
image_same a b bytes ia ib =
    let z = sizes_same a b bytes ia ib in
    let c : length a.code ≡ length b.code = ap (λ s. s.code_words) z in
    let t : length a.table ≡ length b.table = ap (λ s. s.table_words) z in
    let s : a.stack_words ≡ b.stack_words = ap (λ s. s.stack_words) z in
    let n : length a.places ≡ length b.places = ap (λ s. s.places) z in
    let code = lists_same word (λ k. k < 2 ^ 32) words_same a.code b.code _ _ c ia.fits.code ib.fits.code (contents_same a b bytes ia ib) in
    let pad = front_same (padding (length a.code)) (padding (length b.code)) _ _ (ap (λ k. length (padding k)) c) code.1 in
    let table = lists_same double (λ k. k < 2 ^ 64) doubles_same a.table b.table _ _ t ia.fits.table ib.fits.table pad.1 in
    let note = front_same (numbers_bytes (note_header (length a.places))) (numbers_bytes (note_header (length b.places))) _ _ (ap (λ k. length (numbers_bytes (note_header k))) n) table.1 in
    let places_a : Bytes = flat_map (place_bytes One) a.places in
    let places_b : Bytes = flat_map (place_bytes One) b.places in
    let places = lists_same (place_bytes One) PlaceFits places_same a.places b.places [] [] n ia.fits.places ib.fits.places (append-nil places_a ∙ note.1 ∙ sym (append-nil places_b)) in
    λ i. record { stack_words = s i; code = code.0 i; table = table.0 i; places = places.0 i }

-- ---- it isn't refused

-- the headers take 288 bytes
pub head_long : (z : Sizes) → length (numbers_bytes (headers z)) ≡ 288
unfolding headers file_header program_header segment_start segment_end numbers_bytes number_bytes
head_long z = refl

pub padding_long : (c : ℕ) → length (padding c) ≡ table_offset c - (288 + 4 * c)
unfolding padding
padding_long c = length-replicate (table_offset c - (288 + 4 * c)) 0

pub padding_short : (c : ℕ) → length (padding c) ≤ 7
unfolding table_offset
padding_short c = omega (arith, padding_long c, div-mul-le_self (288 + 4 * c + 7) 8)

pub note_long : (n : ℕ) → length (numbers_bytes (note_header n)) ≡ 16
unfolding note_header numbers_bytes number_bytes
note_long n = refl

elf_small : (image : Image) → FitsFields image → length (elf_of image) ≤ 33554432
unfolding elf_of contents_of
elf_small image fits =
    let ranges = fits.ranges in
    let a : Bytes = flat_map word image.code in
    let b = padding (length image.code) in
    let c : Bytes = flat_map double image.table in
    let d = numbers_bytes (note_header (length image.places)) in
    let e : Bytes = flat_map (place_bytes One) image.places in
    omega (
      arith,
      length-append (head_of image) (a ++ (b ++ (c ++ (d ++ e)))),
      length-append a (b ++ (c ++ (d ++ e))),
      length-append b (c ++ (d ++ e)),
      length-append c (d ++ e),
      length-append d e,
      head_long (sizes_of image),
      padding_short (length image.code),
      note_long (length image.places),
      words_long image.code (length image.code) refl,
      doubles_long image.table (length image.table) refl,
      places_long image.places (length image.places) refl,
      ranges.code_most,
      ranges.table_most,
      ranges.places_most,
    )

-- the bytes of an image aren't refused
pub image_accepted : (image : Image) (bytes : Bytes) → IsElfBytes image bytes → refusal_of bytes ≡ None
image_accepted image bytes is =
    refusal_small bytes (omega (arith, elf_small image is.fits, ap (λ b. length b) is.spelled))
    ∙ head_passed image bytes is content_fields
    ∙ contents_passed image (behind_head image) is.fits refl

-- what reads exactly and is judged rightly reads the image
pub reads_only : (result : Result Image ElfError) (bytes : Bytes) → MatchResult result (λ image. IsElfBytes image bytes) (λ e. Unit {0}) → IsJudged result (refusal_of bytes)
    → (image : Image) → IsElfBytes image bytes → MatchResult result (λ read. read ≡ image) (λ e. e ≡ errors.OutOfMemory)
reads_only (Ok read) bytes found judged image is = image_same read image bytes found is
reads_only (Err error) bytes found judged image is = cause_none error (let P : Option ElfError → Type 0 = λ r. IsCause error r in subst P (image_accepted image bytes is) judged)

-- ---- the padding

pub offset_small : (c : ℕ) → table_offset c ≤ 295 + 4 * c
unfolding table_offset
offset_small c = omega (arith, div-mul-le_self (288 + 4 * c + 7) 8)

padding_count : (c count k odd : ℕ) → c ≡ 2 * k + odd → odd < 2 → count ≡ 4 * odd → table_offset c - (288 + 4 * c) ≡ count
unfolding table_offset
padding_count c count k odd is few same =
    let m = 288 + 4 * c + 7 in
    let low : m % 8 < 8 = mod-lt m (omega arith) in
    omega (arith, div-add-mod' m 8, low)

-- no bytes behind code of even length, and four behind another
pub padding_even : (c : ℕ) → c % 2 ≡ 0 → padding c ≡ []
unfolding padding
padding_even c even = ap (λ n. replicate n 0) (padding_count c 0 (c / 2) 0 (omega (arith, div-add-mod' c 2)) (omega arith) (omega arith))

pub padding_odd : (c : ℕ) → (c % 2 ≡ 0 → ⊥) → padding c ≡ 0 ∷ 0 ∷ 0 ∷ 0 ∷ []
unfolding padding
padding_odd c odd =
    let low : c % 2 < 2 = mod-lt c (omega arith) in
    let one : c % 2 ≡ 1 = omega arith in
    ap (λ n. replicate n 0) (padding_count c 4 (c / 2) 1 (omega (arith, div-add-mod' c 2, one)) (omega arith) (omega arith))

-- ---- what is written

pub record Written (image : Image) (b0 b1 b2 b3 b4 b5 b6 : Bytes) (z : Sizes) : Type 0 where
  pub none : b0 ≡ []
  pub head : b1 ≡ b0 ++ numbers_bytes (headers z)
  pub code : b2 ≡ b1 ++ flat_map word image.code
  pub pad : b3 ≡ b2 ++ padding z.code_words
  pub table : b4 ≡ b3 ++ flat_map double image.table
  pub note : b5 ≡ b4 ++ numbers_bytes (note_header z.places)
  pub places : b6 ≡ b5 ++ flat_map (place_bytes One) image.places
  pub sizes : z ≡ sizes_of image

pub written_is : (image : Image) (b0 b1 b2 b3 b4 b5 b6 : Bytes) (z : Sizes) → Written image b0 b1 b2 b3 b4 b5 b6 z → b6 ≡ elf_of image
unfolding elf_of
written_is image b0 b1 b2 b3 b4 b5 b6 z w =
    let head = numbers_bytes (headers z) in
    let code : Bytes = flat_map word image.code in
    let pad = padding z.code_words in
    let table : Bytes = flat_map double image.table in
    let note = numbers_bytes (note_header z.places) in
    let places : Bytes = flat_map (place_bytes One) image.places in
    w.places
    ∙ ap (λ b. b ++ places) w.note ∙ append_assoc b4 note places
    ∙ ap (λ b. b ++ (note ++ places)) w.table ∙ append_assoc b3 table (note ++ places)
    ∙ ap (λ b. b ++ (table ++ (note ++ places))) w.pad ∙ append_assoc b2 pad (table ++ (note ++ places))
    ∙ ap (λ b. b ++ (pad ++ (table ++ (note ++ places)))) w.code ∙ append_assoc b1 code (pad ++ (table ++ (note ++ places)))
    ∙ ap (λ b. b ++ contents_by z image) (w.head ∙ ap (λ b. b ++ head) w.none)
    ∙ ap (λ s. numbers_bytes (headers s) ++ contents_by s image) w.sizes
    ∙ ap (λ b. head_of image ++ b) (contents_by_sizes image)
