-- What stands behind the headers, part by part.
use Rattle.std.proofs.Common.{◌≡◌, ◌+◌, ◌*◌, ◌^◌, ◌<◌, ◌≤◌, List, [], ◌++◌, length, All, sym, ap, ◌∙◌, refl, arith, subst, None, Some}
use Rattle.std.specs.List.{flat_map}
use Rattle.std.specs.Prelude.{IfOk}
use Rattle.std.specs.declared.result.Result.{Result}
use Rattle.std.specs.declared.result.Result.TheVariants.{Ok, Err}
use Rattle.std.proofs.lemmas.Bool.{le-ltb, lt-ltb}
use Rattle.std.proofs.lemmas.List.{append-nil}
use Rattle.fy_base.specs.Outside.{Bytes}
use Rattle.fy_image.specs.declared.image.Image.{Image}
use Rattle.fy_image.specs.declared.version.Version.TheVariants.{One}
use Rattle.fy_image.specs.Form.{FitsFields, PlaceFits, word, double, place_bytes}
use Rattle.fy_image.proofs.Lists.{words_long, doubles_long}
use Rattle.fy_elf.specs.Elf.{numbers_bytes, note_header, padding, headers, contents_of, sizes_of, elf_of, IsElfBytes}
use Rattle.fy_elf.specs.Reading.{IsTaken, IsContents, SizesFit}
use Rattle.fy_elf.specs.Refusals.{Rest, Judge, any, exact, exacts, nonzeros, ended, content_fields, header_fields, refusal_of}
use Rattle.fy_elf.specs.declared.error.ElfError.{ElfError}
use Rattle.fy_elf.specs.declared.error.ElfError.TheVariants as errors
use Rattle.fy_elf.specs.declared.headers.Sizes.{Sizes}
use Rattle.fy_elf.specs.declared.number.Number.{Number}
use Rattle.fy_elf.proofs.Taking.{between, taken_first, taken_second, taken_more}
use Rattle.fy_elf.proofs.Judging.{any_passed, exact_passed, exacts_passed, end_good}
use Rattle.fy_elf.proofs.Lists.{places_passed}

-- the fields behind each part
abbrev pub after_note : Sizes → Judge
after_note z = nonzeros (2 * z.places) ended

abbrev pub after_table : Sizes → Judge
after_table z = exacts (note_header z.places) (after_note z)

abbrev pub after_padding : Sizes → Judge
after_padding z = any (8 * z.table_words) (after_table z)

abbrev pub after_code : Sizes → Judge
after_code z = exact (padding z.code_words) (after_padding z)

-- the padding and the note's numbers by other words
pub padding_by : (z : Sizes) (bytes : Bytes) (rest : Rest) → bytes ≡ padding z.code_words → after_code z rest ≡ exact bytes (after_padding z) rest
padding_by z bytes rest same = ap (λ b. exact b (after_padding z) rest) (sym same)

pub note_by : (z : Sizes) (numbers : List Number) (rest : Rest) → numbers ≡ note_header z.places → after_table z rest ≡ exacts numbers (after_note z) rest
note_by z numbers rest same = ap (λ ns. exacts ns (after_note z) rest) (sym same)

pub contents_are : (z : Sizes) (rest : Rest) → content_fields z rest ≡ any (4 * z.code_words) (after_code z) rest
unfolding content_fields
contents_are z rest = refl

-- the bytes for an image by its sizes
abbrev pub contents_by : Sizes → Image → Bytes
contents_by z image =
    flat_map word image.code
    ++ (padding z.code_words
    ++ (flat_map double image.table
    ++ (numbers_bytes (note_header z.places)
    ++ flat_map (place_bytes One) image.places)))

pub contents_by_sizes : (image : Image) → contents_by (sizes_of image) image ≡ contents_of image
unfolding contents_of sizes_of
contents_by_sizes image = refl

pub sizes_are : (z : Sizes) (image : Image) → z.code_words ≡ length image.code → z.table_words ≡ length image.table → z.stack_words ≡ image.stack_words → z.places ≡ length image.places → z ≡ sizes_of image
unfolding sizes_of
sizes_are z image c t s n = λ i. record { code_words = c i; table_words = t i; stack_words = s i; places = n i }

-- what was read part by part
pub record IsRead (z : Sizes) (image : Image) (r0 r1 r2 r3 r4 r5 : Rest) : Type 0 where
  pub sizes : SizesFit z
  pub code : IsTaken (flat_map word image.code) r0 r1
  pub code_fits : All (λ n. n < 2 ^ 32) image.code
  pub padding_is : IsTaken (padding z.code_words) r1 r2
  pub table : IsTaken (flat_map double image.table) r2 r3
  pub table_fits : All (λ n. n < 2 ^ 64) image.table
  pub note : IsTaken (numbers_bytes (note_header z.places)) r3 r4
  pub places : IsTaken (flat_map (place_bytes One) image.places) r4 r5
  pub places_fit : All PlaceFits image.places
  pub done : r5.bytes ≡ []
  pub code_count : length image.code ≡ z.code_words
  pub table_count : length image.table ≡ z.table_words
  pub stack_is : image.stack_words ≡ z.stack_words
  pub place_count : length image.places ≡ z.places

-- is what stands there for the image
pub is_contents : (z : Sizes) (image : Image) (r0 r1 r2 r3 r4 r5 : Rest) → IsRead z image r0 r1 r2 r3 r4 r5 → IsContents z image r0
is_contents z image r0 r1 r2 r3 r4 r5 r =
    let sizes = r.sizes in
    let same : z ≡ sizes_of image = sizes_are z image (sym r.code_count) (sym r.table_count) (sym r.stack_is) (sym r.place_count) in
    let all : IsTaken (contents_by z image) r0 r5 =
    taken_more _ _ r0 r1 r5 r.code (taken_more _ _ r1 r2 r5 r.padding_is (taken_more _ _ r2 r3 r5 r.table (taken_more _ _ r3 r4 r5 r.note r.places))) in
    record {
      fits = record {
        ranges = record {
          stack_least = omega (arith, sizes.stack_least, r.stack_is);
          stack_most = omega (arith, sizes.stack_most, r.stack_is);
          code_least = omega (arith, sizes.code_least, r.code_count);
          code_most = omega (arith, sizes.code_most, r.code_count);
          table_most = omega (arith, sizes.table_most, r.table_count);
          places_most = omega (arith, sizes.places_most, r.place_count);
        };
        code = r.code_fits;
        table = r.table_fits;
        places = r.places_fit;
      };
      sizes_are = same;
      spelled = all.bytes_are ∙ ap (λ b. contents_by z image ++ b) r.done ∙ append-nil (contents_by z image) ∙ ap (λ s. contents_by s image) same ∙ contents_by_sizes image;
    }

-- and with the headers before it the bytes are the image's file
pub is_elf : (z : Sizes) (image : Image) (bytes : Bytes) (now : Rest) → IsTaken (numbers_bytes (headers z)) (record { offset = 0; bytes = bytes }) now → IsContents z image now → IsElfBytes image bytes
unfolding elf_of
is_elf z image bytes now taken contents = record {
  fits = contents.fits;
  spelled = taken.bytes_are ∙ ap (λ s. numbers_bytes (headers s) ++ now.bytes) contents.sizes_are ∙ ap (λ b. numbers_bytes (headers (sizes_of image)) ++ b) contents.spelled;
}

pub found_is : (result : Result Image ElfError) (z : Sizes) (bytes : Bytes) (before now : Rest) → before ≡ record { offset = 0; bytes = bytes } → IsTaken (numbers_bytes (headers z)) before now → IfOk result (λ image. IsContents z image now)
    → IfOk result (λ image. IsElfBytes image bytes)
found_is (Ok image) z bytes before now start taken contents = let P : Rest → Type 0 = λ r. IsTaken (numbers_bytes (headers z)) r now in is_elf z image bytes now (subst P start taken) contents
found_is (Err error) z bytes before now start taken contents = contents

-- ---- what is refused

pub refusal_large : (bytes : Bytes) → 33554432 < length bytes → refusal_of bytes ≡ Some errors.TooLarge
unfolding refusal_of
refusal_large bytes large = rw (lt-ltb 33554432 (length bytes) large) refl

pub refusal_small : (bytes : Bytes) → length bytes ≤ 33554432 → refusal_of bytes ≡ header_fields content_fields (record { offset = 0; bytes = bytes })
unfolding refusal_of
refusal_small bytes few = rw (le-ltb 33554432 (length bytes) few) refl

-- what stands there for an image isn't
pub contents_passed : (image : Image) (rest : Rest) → FitsFields image → rest.bytes ≡ contents_of image → content_fields (sizes_of image) rest ≡ None
unfolding contents_of sizes_of
contents_passed image rest fits spelled =
    let z = sizes_of image in
    let end : Rest = record { offset = rest.offset + length (contents_of image); bytes = [] } in
    let a : Bytes = flat_map word image.code in
    let b = padding (length image.code) in
    let c : Bytes = flat_map double image.table in
    let d = numbers_bytes (note_header (length image.places)) in
    let e : Bytes = flat_map (place_bytes One) image.places in
    let t0 : IsTaken (a ++ (b ++ (c ++ (d ++ e)))) rest end = record { bytes_are = spelled ∙ sym (append-nil (a ++ (b ++ (c ++ (d ++ e))))); offset_is = refl } in
    let r1 = between a (b ++ (c ++ (d ++ e))) rest end in
    let t1 = taken_second a (b ++ (c ++ (d ++ e))) rest end t0 in
    let r2 = between b (c ++ (d ++ e)) r1 end in
    let t2 = taken_second b (c ++ (d ++ e)) r1 end t1 in
    let r3 = between c (d ++ e) r2 end in
    let t3 = taken_second c (d ++ e) r2 end t2 in
    let r4 = between d e r3 end in
    let t4 = taken_second d e r3 end t3 in
    contents_are z rest
    ∙ any_passed (4 * length image.code) a rest r1 (taken_first a (b ++ (c ++ (d ++ e))) rest end t0) (words_long image.code (length image.code) refl) (after_code z)
    ∙ exact_passed b r1 r2 (taken_first b (c ++ (d ++ e)) r1 end t1) (after_padding z)
    ∙ any_passed (8 * length image.table) c r2 r3 (taken_first c (d ++ e) r2 end t2) (doubles_long image.table (length image.table) refl) (after_table z)
    ∙ exacts_passed (note_header (length image.places)) r3 r4 (taken_first d e r3 end t3) (after_note z)
    ∙ places_passed (length image.places) image.places r4 end refl fits.places t4 ended
    ∙ end_good end refl
