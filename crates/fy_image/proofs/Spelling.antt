-- The bytes of an image, and what is read from them.
use Rattle.std.proofs.Common.{◌≡◌, ◌≢◌, ℕ, ◌^◌, ◌<◌, ◌≤◌, true, ltb, List, [], ◌∷◌, ◌++◌, length, All, drop, append_assoc, sym, ap, ◌∙◌, refl, arith, Some, None}
use Rattle.std.specs.List.{flat_map}
use Rattle.std.proofs.lemmas.Bool.{le-ltb}
use Rattle.std.proofs.lemmas.List.{append-nil}
use Rattle.fy_base.specs.Outside.{Bytes}
use Rattle.fy_image.specs.Form.{magic, most_stack, version_number, word, double, place_bytes, body_of, spelling_of, PlaceFits, FitsFields}
use Rattle.fy_image.specs.Reading.{body_refusal, header_bytes, HeaderFits, IsBody}
use Rattle.fy_image.specs.Refusals.{Field, or_else, number_at, version_field, version_of, fields_behind, first_refusal, magic_refusal, refusal_of}
use Rattle.fy_image.specs.declared.read.Header.{Header}
use Rattle.fy_image.specs.declared.image.Image.{Image}
use Rattle.fy_image.specs.declared.error.ImageError.{ImageError}
use Rattle.fy_image.specs.declared.error.ImageError.TheVariants as errors
use Rattle.fy_image.specs.declared.version.Version.{Version}
use Rattle.fy_image.specs.declared.version.Version.TheVariants.{One, Two}
use Rattle.fy_image.proofs.Judging.{version_good, version_bad, cut_off}

-- the bytes of the header and the lists are the image's
pub body_is : (version : Version) (header : Header) (image : Image) → header.stack_words ≡ image.stack_words → length image.code ≡ header.code_words → length image.table ≡ header.table_words → length image.places ≡ header.places
    → header_bytes header ++ (flat_map word image.code ++ (flat_map double image.table ++ flat_map (place_bytes version) image.places)) ≡ body_of version image
unfolding body_of
body_is version header image s c t n =
    let rest : Bytes = flat_map word image.code ++ (flat_map double image.table ++ flat_map (place_bytes version) image.places) in
    ap (λ k. word k ++ (word header.code_words ++ (word header.table_words ++ (word header.places ++ (word 0 ++ rest))))) s
    ∙ ap (λ k. word image.stack_words ++ (word k ++ (word header.table_words ++ (word header.places ++ (word 0 ++ rest))))) (sym c)
    ∙ ap (λ k. word image.stack_words ++ (word (length image.code) ++ (word k ++ (word header.places ++ (word 0 ++ rest))))) (sym t)
    ∙ ap (λ k. word image.stack_words ++ (word (length image.code) ++ (word (length image.table) ++ (word k ++ (word 0 ++ rest))))) (sym n)

-- and what was read is that
body_read : (version : Version) (header : Header) (image : Image) (r0 r1 r2 r3 r4 : Bytes) → r0 ≡ header_bytes header ++ r1 → r1 ≡ flat_map word image.code ++ r2 → r2 ≡ flat_map double image.table ++ r3 → r3 ≡ flat_map (place_bytes version) image.places ++ r4 → r4 ≡ []
    → header.stack_words ≡ image.stack_words → length image.code ≡ header.code_words → length image.table ≡ header.table_words → length image.places ≡ header.places → r0 ≡ body_of version image
body_read version header image r0 r1 r2 r3 r4 e0 e1 e2 e3 e4 s c t n =
    let places : Bytes = flat_map (place_bytes version) image.places in
    e0
    ∙ ap (λ r. header_bytes header ++ r) (e1 ∙ ap (λ r. flat_map word image.code ++ r) (e2 ∙ ap (λ r. flat_map double image.table ++ r) (e3 ∙ ap (λ r. places ++ r) e4 ∙ append-nil places)))
    ∙ body_is version header image s c t n

-- no version has a larger stack than the second
pub most_is : (version : Version) → most_stack version ≤ 67108864
most_is One = omega arith
most_is Two = omega arith

-- an image of what was read fits its fields
image_fits : (version : Version) (header : Header) (image : Image) → HeaderFits version header → header.stack_words ≡ image.stack_words → length image.code ≡ header.code_words → length image.table ≡ header.table_words → length image.places ≡ header.places
    → All (λ k. k < 2 ^ 32) image.code → All (λ k. k < 2 ^ 64) image.table → All PlaceFits image.places → FitsFields image
image_fits version header image fits s c t n code table places = record {
  ranges = record {
    stack_least = omega (arith, fits.stack_least);
    stack_most = omega (arith, fits.stack_most, most_is version);
    code_least = omega (arith, fits.code_least);
    code_most = omega (arith, fits.code_most);
    table_most = omega (arith, fits.table_most);
    places_most = omega (arith, fits.places_most);
  };
  code = code;
  table = table;
  places = places;
}

-- what was read part by part
pub record IsRead (version : Version) (header : Header) (image : Image) (r0 r1 r2 r3 r4 : Bytes) : Type 0 where
  pub numbers : r0 ≡ header_bytes header ++ r1
  pub ranges : HeaderFits version header
  pub code : r1 ≡ flat_map word image.code ++ r2
  pub code_fits : All (λ n. n < 2 ^ 32) image.code
  pub table : r2 ≡ flat_map double image.table ++ r3
  pub table_fits : All (λ n. n < 2 ^ 64) image.table
  pub places : r3 ≡ flat_map (place_bytes version) image.places ++ r4
  pub places_fit : All PlaceFits image.places
  pub done : r4 ≡ []
  pub stack_is : header.stack_words ≡ image.stack_words
  pub code_is : length image.code ≡ header.code_words
  pub table_is : length image.table ≡ header.table_words
  pub places_are : length image.places ≡ header.places

-- is the image's
pub is_body : (version : Version) (header : Header) (image : Image) (r0 r1 r2 r3 r4 : Bytes) → IsRead version header image r0 r1 r2 r3 r4 → IsBody version image r0
is_body version header image r0 r1 r2 r3 r4 r = record {
  fits = image_fits version header image r.ranges r.stack_is r.code_is r.table_is r.places_are r.code_fits r.table_fits r.places_fit;
  few = (let most = r.ranges.stack_most in let is = r.stack_is in omega arith);
  spelled = body_read version header image r0 r1 r2 r3 r4 r.numbers r.code r.table r.places r.done r.stack_is r.code_is r.table_is r.places_are;
}

-- ---- what is refused

pub refusal_large : (bytes : Bytes) → 33554432 < length bytes → refusal_of bytes ≡ Some errors.TooLarge
unfolding refusal_of
refusal_large bytes large = let l : ltb 33554432 (length bytes) ≡ true = grind arith in rw l refl

-- the fields behind the magic, as bytes tell them
abbrev fields_in : Bytes → List Field
fields_in bytes = version_field ∷ fields_behind (version_of (number_at bytes 8)) (number_at bytes 16) (number_at bytes 20) (number_at bytes 24)

-- the refusal of bytes that aren't too many
small : (bytes : Bytes) → length bytes ≤ 33554432 → refusal_of bytes ≡ or_else (magic_refusal bytes) (first_refusal (fields_in bytes) (drop 8 bytes))
unfolding refusal_of
small bytes few = rw (le-ltb 33554432 (length bytes) few) refl

pub refusal_magic : (bytes : Bytes) (error : ImageError) → length bytes ≤ 33554432 → magic_refusal bytes ≡ Some error → refusal_of bytes ≡ Some error
refusal_magic bytes error few bad = small bytes few ∙ ap (λ r. or_else r (first_refusal (fields_in bytes) (drop 8 bytes))) bad

-- the refusal of what stands behind the magic
behind_magic : (bytes rest : Bytes) → length bytes ≤ 33554432 → magic_refusal bytes ≡ None → bytes ≡ magic ++ rest → refusal_of bytes ≡ first_refusal (fields_in (magic ++ rest)) rest
behind_magic bytes rest few good is =
    small bytes few ∙ ap (λ r. or_else r (first_refusal (fields_in bytes) (drop 8 bytes))) good ∙ ap (λ b. first_refusal (fields_in b) (drop 8 b)) is

pub refusal_cut : (bytes rest : Bytes) → length bytes ≤ 33554432 → magic_refusal bytes ≡ None → bytes ≡ magic ++ rest → length rest < 4 → refusal_of bytes ≡ Some errors.Truncated
refusal_cut bytes rest few good is short = behind_magic bytes rest few good is ∙ cut_off version_field _ rest short

pub refusal_version : (bytes rest after : Bytes) (n : ℕ) → length bytes ≤ 33554432 → magic_refusal bytes ≡ None → bytes ≡ magic ++ rest → rest ≡ word n ++ after → n < 2 ^ 32 → n ≢ 1 → n ≢ 2 → refusal_of bytes ≡ Some (errors.BadVersion n)
refusal_version bytes rest after n few good is also fits one two =
    behind_magic bytes rest few good is ∙ ap (λ r. first_refusal (fields_in (magic ++ r)) r) also ∙ version_bad n _ after fits one two

pub refusal_body : (version : Version) (bytes rest after : Bytes) (n : ℕ) → length bytes ≤ 33554432 → magic_refusal bytes ≡ None → bytes ≡ magic ++ rest → rest ≡ word n ++ after → n ≡ version_number version → refusal_of bytes ≡ body_refusal version after
unfolding body_refusal
refusal_body version bytes rest after n few good is also same =
    behind_magic bytes rest few good is
    ∙ ap (λ r. first_refusal (fields_in (magic ++ r)) r) (also ∙ ap (λ k. word k ++ after) same)
    ∙ version_good version (number_at after 4) (number_at after 8) (number_at after 12) after

-- what is written field by field
pub record Written (image : Image) (b0 b1 b2 b3 b4 b5 b6 b7 b8 b9 b10 : Bytes) (c t n : ℕ) : Type 0 where
  pub none : b0 ≡ []
  pub magic_is : b1 ≡ b0 ++ magic
  pub version : b2 ≡ b1 ++ word 2
  pub stack : b3 ≡ b2 ++ word image.stack_words
  pub code_count : b4 ≡ b3 ++ word c
  pub table_count : b5 ≡ b4 ++ word t
  pub place_count : b6 ≡ b5 ++ word n
  pub zero_is : b7 ≡ b6 ++ word 0
  pub code : b8 ≡ b7 ++ flat_map word image.code
  pub table : b9 ≡ b8 ++ flat_map double image.table
  pub places : b10 ≡ b9 ++ flat_map (place_bytes Two) image.places
  pub code_is : c ≡ length image.code
  pub table_is : t ≡ length image.table
  pub places_are : n ≡ length image.places

-- the first eight pieces, put together
abbrev head_of : ℕ → ℕ → ℕ → ℕ → Bytes
head_of s c t n = magic ++ (word 2 ++ (word s ++ (word c ++ (word t ++ (word n ++ word 0)))))

pub written_is : (image : Image) (b0 b1 b2 b3 b4 b5 b6 b7 b8 b9 b10 : Bytes) (c t n : ℕ) → Written image b0 b1 b2 b3 b4 b5 b6 b7 b8 b9 b10 c t n → b10 ≡ spelling_of Two image
unfolding body_of
written_is image b0 b1 b2 b3 b4 b5 b6 b7 b8 b9 b10 c t n w =
    let s = image.stack_words in
    let h1 : b1 ≡ magic = w.magic_is ∙ ap (λ b. b ++ magic) w.none in
    let h3 : b3 ≡ magic ++ (word 2 ++ word s) = w.stack ∙ ap (λ b. b ++ word s) (w.version ∙ ap (λ b. b ++ word 2) h1) in
    let h5 : b5 ≡ magic ++ (word 2 ++ (word s ++ (word c ++ word t))) = w.table_count ∙ ap (λ b. b ++ word t) (w.code_count ∙ ap (λ b. b ++ word c) h3) in
    let h7 : b7 ≡ head_of s c t n = w.zero_is ∙ ap (λ b. b ++ word 0) (w.place_count ∙ ap (λ b. b ++ word n) h5) in
    let counted : head_of s c t n ≡ head_of s (length image.code) (length image.table) (length image.places) =
    ap (λ k. head_of s k t n) w.code_is ∙ ap (λ k. head_of s (length image.code) k n) w.table_is ∙ ap (λ k. head_of s (length image.code) (length image.table) k) w.places_are in
    let places : Bytes = flat_map (place_bytes Two) image.places in
    w.places ∙ ap (λ b. b ++ places) (w.table ∙ ap (λ b. b ++ flat_map double image.table) (w.code ∙ ap (λ b. b ++ flat_map word image.code) (h7 ∙ counted)))
    ∙ ap (λ r. head_of s (length image.code) (length image.table) (length image.places) ++ r) (append_assoc (flat_map word image.code) (flat_map double image.table) places)
