-- Bytes are those of at most one image, and aren't refused then.
use Rattle.std.proofs.Common.{◌≡◌, ℕ, ◌*◌, ◌^◌, ◌<◌, ◌≤◌, false, ltb, List, [], ◌∷◌, ◌++◌, length, length-append, All, take, drop, append_assoc, sym, ap, ◌∙◌, refl, arith, subst, None, Option}
use Rattle.std.specs.List.{flat_map}
use Rattle.std.specs.Prelude.{MatchResult}
use Rattle.std.specs.declared.result.Result.{Result}
use Rattle.std.specs.declared.result.Result.TheVariants.{Ok, Err}
use Rattle.std.proofs.lemmas.Bool.{le-ltb}
use Rattle.std.proofs.lemmas.List.{append-nil}
use Rattle.std.proofs.lemmas.List.Elements.{All-head, All-tail}
use Rattle.std.proofs.lemmas.Nat.{from_le_bytes-to_le_bytes_8}
use Rattle.std.specs.Int.{w64, from_le_bytes}
use Rattle.fy_base.specs.Outside.{Bytes}
use Rattle.fy_image.specs.Form.{magic, most_stack, version_number, word, double, place_bytes, body_of, spelling_of, PlaceFits, FitsFields, IsSpelled, IsImageBytes}
use Rattle.fy_image.specs.Reading.{body_refusal}
use Rattle.fy_image.specs.Refusals.{IsCause, IsJudged, place_fields, number_of, number_at, first_refusal, magic_refusal, refusal_of}
use Rattle.fy_image.specs.declared.image.Image.{Image}
use Rattle.fy_image.specs.declared.error.ImageError.{ImageError}
use Rattle.fy_image.specs.declared.error.ImageError.TheVariants as errors
use Rattle.fy_image.specs.declared.version.Version.{Version}
use Rattle.fy_image.specs.declared.version.Version.TheVariants.{One, Two}
use Rattle.fy_image.proofs.Judging.{number_back, number_good, any_good, end_good, body_by, cause_none}
use Rattle.fy_image.proofs.Lists.{words_long, doubles_long, spelled_short, front_same}
use Rattle.fy_image.proofs.Placing.{placed_good, words_same, places_same, place_short}
use Rattle.fy_image.proofs.Spelling.{refusal_body}

pub double_same : (x y : ℕ) → x < 2 ^ 64 → y < 2 ^ 64 → double x ≡ double y → x ≡ y
double_same x y fx fy same = sym (from_le_bytes-to_le_bytes_8 x fx) ∙ ap (λ b. from_le_bytes w64 b) same ∙ from_le_bytes-to_le_bytes_8 y fy

pub doubles_same : (x y : ℕ) (r s : Bytes) → x < 2 ^ 64 → y < 2 ^ 64 → double x ++ r ≡ double y ++ s → (x ≡ y) × (r ≡ s)
doubles_same x y r s fx fy same = let both = front_same (double x) (double y) r s refl same in (double_same x y fx fy both.0, both.1)

-- lists of one length that are spelled the same are the same
pub lists_same : {X : Type 0} (spell : X → Bytes) (P : X → Type 0) → ((x y : X) (r s : Bytes) → P x → P y → spell x ++ r ≡ spell y ++ s → (x ≡ y) × (r ≡ s)) → (xs ys : List X) (r s : Bytes)
    → length xs ≡ length ys → All P xs → All P ys → flat_map spell xs ++ r ≡ flat_map spell ys ++ s → (xs ≡ ys) × (r ≡ s)
lists_same spell P one [] [] r s count fx fy same = (refl, same)
lists_same spell P one [] (y ∷ ys) r s count fx fy same = absurd (omega arith)
lists_same spell P one (x ∷ xs) [] r s count fx fy same = absurd (omega arith)
lists_same spell P one (x ∷ xs) (y ∷ ys) r s count fx fy same =
    let first = one x y (flat_map spell xs ++ r) (flat_map spell ys ++ s) (All-head P x xs fx) (All-head P y ys fy) (sym (append_assoc (spell x) (flat_map spell xs) r) ∙ same ∙ append_assoc (spell y) (flat_map spell ys) s) in
    let others = lists_same spell P one xs ys r s (omega arith) (All-tail P x xs fx) (All-tail P y ys fy) first.1 in
    (λ t. first.0 t ∷ others.0 t, others.1)

-- the bytes behind the header
abbrev lists_bytes : Version → Image → Bytes
lists_bytes version image = flat_map word image.code ++ (flat_map double image.table ++ flat_map (place_bytes version) image.places)

abbrev header_part : Image → Bytes
header_part image = word image.stack_words ++ (word (length image.code) ++ (word (length image.table) ++ (word (length image.places) ++ word 0)))

body_parts : (version : Version) (image : Image) → body_of version image ≡ header_part image ++ lists_bytes version image
unfolding body_of
body_parts version image = refl

count_fits : (n most : ℕ) → n ≤ most → most < 2 ^ 32 → n < 2 ^ 32
count_fits n most le lt = omega arith

-- the numbers that bodies of an image have
body_numbers : (version : Version) (image : Image) → FitsFields image
    → (number_of (take 4 (body_of version image)) ≡ image.stack_words) × (number_at (body_of version image) 4 ≡ length image.code) × (number_at (body_of version image) 8 ≡ length image.table) × (number_at (body_of version image) 12 ≡ length image.places)
unfolding body_of
body_numbers version image fits = (
  number_back image.stack_words (count_fits image.stack_words 67108864 fits.ranges.stack_most (omega arith)),
  number_back (length image.code) (count_fits (length image.code) 4194304 fits.ranges.code_most (omega arith)),
  number_back (length image.table) (count_fits (length image.table) 1048576 fits.ranges.table_most (omega arith)),
  number_back (length image.places) (count_fits (length image.places) 524288 fits.ranges.places_most (omega arith)),
)

body_same : (version : Version) (a b : Image) → FitsFields a → FitsFields b → body_of version a ≡ body_of version b → a ≡ b
body_same version a b fa fb same =
    let na = body_numbers version a fa in
    let nb = body_numbers version b fb in
    let stack = sym na.0 ∙ ap (λ x. number_of (take 4 x)) same ∙ nb.0 in
    let code_count = sym na.1 ∙ ap (λ x. number_at x 4) same ∙ nb.1 in
    let table_count = sym na.2 ∙ ap (λ x. number_at x 8) same ∙ nb.2 in
    let place_count = sym na.3 ∙ ap (λ x. number_at x 12) same ∙ nb.3 in
    let behind : lists_bytes version a ≡ lists_bytes version b =
    (front_same (header_part a) (header_part b) (lists_bytes version a) (lists_bytes version b) refl (sym (body_parts version a) ∙ same ∙ body_parts version b)).1 in
    let code = lists_same word (λ n. n < 2 ^ 32) words_same a.code b.code _ _ code_count fa.code fb.code behind in
    let table = lists_same double (λ n. n < 2 ^ 64) doubles_same a.table b.table _ _ table_count fa.table fb.table code.1 in
    let places_a : Bytes = flat_map (place_bytes version) a.places in
    let places_b : Bytes = flat_map (place_bytes version) b.places in
    let places = lists_same (place_bytes version) PlaceFits (places_same version) a.places b.places [] [] place_count fa.places fb.places (append-nil places_a ∙ table.1 ∙ sym (append-nil places_b)) in
    λ t. record { stack_words = stack t; code = code.0 t; table = table.0 t; places = places.0 t }

-- the number of the version that bytes have
abbrev number_in_bytes : Bytes → ℕ
number_in_bytes bytes = number_at bytes 8

number_is : (version : Version) (image : Image) → number_in_bytes (spelling_of version image) ≡ version_number version
unfolding number_of
number_is One image = refl
number_is Two image = refl

-- bytes of one version are those of at most one image
same_spelling : (version : Version) (a b : Image) (bytes : Bytes) → IsSpelled version a bytes → IsSpelled version b bytes → a ≡ b
same_spelling version a b bytes ia ib =
    let same = sym ia.spelled ∙ ib.spelled in
    body_same version a b ia.fits ib.fits (ap (λ x. drop 12 x) same)

-- no bytes are of both versions
one_version : (a b : Image) (bytes : Bytes) → IsSpelled One a bytes → IsSpelled Two b bytes → ⊥
one_version a b bytes ia ib =
    let numbers : version_number One ≡ version_number Two = sym (number_is One a) ∙ ap number_in_bytes (sym ia.spelled ∙ ib.spelled) ∙ number_is Two b in
    absurd (omega arith)

same_versions : (v w : Version) (a b : Image) (bytes : Bytes) → IsSpelled v a bytes → IsSpelled w b bytes → a ≡ b
same_versions One One a b bytes ia ib = same_spelling One a b bytes ia ib
same_versions One Two a b bytes ia ib = absurd (one_version a b bytes ia ib)
same_versions Two One a b bytes ia ib = absurd (one_version b a bytes ib ia)
same_versions Two Two a b bytes ia ib = same_spelling Two a b bytes ia ib

-- bytes are those of at most one image
pub image_same : (a b : Image) (bytes : Bytes) → IsImageBytes a bytes → IsImageBytes b bytes → a ≡ b
image_same a b bytes ia ib = same_versions ia.version ib.version a b bytes ia.spelled ib.spelled

-- the bytes of an image behind the version aren't refused
body_accepted : (version : Version) (image : Image) → FitsFields image → image.stack_words ≤ most_stack version → body_refusal version (body_of version image) ≡ None
unfolding body_of
body_accepted version image fits few =
    let ranges = fits.ranges in
    let s = image.stack_words in
    let c = length image.code in
    let t = length image.table in
    let n = length image.places in
    let places : Bytes = flat_map (place_bytes version) image.places in
    let numbers = body_numbers version image fits in
    body_by version (body_of version image) c t n (numbers.1, numbers.2, numbers.3)
    ∙ number_good 1024 (most_stack version) 1 s _ _ (count_fits s 67108864 ranges.stack_most (omega arith)) ranges.stack_least few
    ∙ number_good 1 4194304 2 c _ _ (count_fits c 4194304 ranges.code_most (omega arith)) ranges.code_least ranges.code_most
    ∙ number_good 0 1048576 3 t _ _ (count_fits t 1048576 ranges.table_most (omega arith)) (omega arith) ranges.table_most
    ∙ number_good 0 524288 4 n _ _ (count_fits n 524288 ranges.places_most (omega arith)) (omega arith) ranges.places_most
    ∙ number_good 0 0 5 0 _ _ (omega arith) (omega arith) (omega arith)
    ∙ any_good (4 * c) _ (flat_map word image.code) _ (words_long image.code c refl)
    ∙ any_good (8 * t) _ (flat_map double image.table) _ (doubles_long image.table t refl)
    ∙ ap (λ b. first_refusal (place_fields version n 6) b) (sym (append-nil places))
    ∙ ap (λ f. first_refusal f (places ++ [])) (sym (append-nil (place_fields version n 6)))
    ∙ placed_good version n 6 image.places [] [] fits.places refl
    ∙ end_good [] refl

-- an image isn't too large
image_small : (version : Version) (image : Image) → FitsFields image → length (spelling_of version image) ≤ 33554432
unfolding body_of
image_small version image fits =
    let ranges = fits.ranges in
    let places : Bytes = flat_map (place_bytes version) image.places in
    omega (
      arith,
      length-append (flat_map word image.code) (flat_map double image.table ++ places),
      length-append (flat_map double image.table) places,
      words_long image.code (length image.code) refl,
      doubles_long image.table (length image.table) refl,
      spelled_short (place_bytes version) 10 PlaceFits (place_short version) image.places fits.places,
      ranges.code_most,
      ranges.table_most,
      ranges.places_most,
    )

magic_there : (rest : Bytes) → magic_refusal (magic ++ rest) ≡ None
unfolding magic_refusal
magic_there rest = let long : ltb (length (magic ++ rest)) 8 ≡ false = le-ltb (length (magic ++ rest)) 8 (omega (arith, length-append magic rest)) in rw long refl

is_accepted : (version : Version) (image : Image) (bytes : Bytes) → IsSpelled version image bytes → refusal_of bytes ≡ None
is_accepted version image bytes is =
    let behind : Bytes = word (version_number version) ++ body_of version image in
    ap (λ b. refusal_of b) is.spelled
    ∙ refusal_body version (spelling_of version image) behind (body_of version image) (version_number version) (image_small version image is.fits) (magic_there behind) refl refl refl
    ∙ body_accepted version image is.fits is.few

-- the bytes of an image aren't refused
pub image_accepted : (image : Image) (bytes : Bytes) → IsImageBytes image bytes → refusal_of bytes ≡ None
image_accepted image bytes is = is_accepted is.version image bytes is.spelled

-- what reads exactly and is judged rightly reads the image
pub reads_only : (result : Result Image ImageError) (bytes : Bytes) → MatchResult result (λ image. IsImageBytes image bytes) (λ e. Unit {0}) → IsJudged result (refusal_of bytes)
    → (image : Image) → IsImageBytes image bytes → MatchResult result (λ read. read ≡ image) (λ e. e ≡ errors.OutOfMemory)
reads_only (Ok read) bytes found judged image is = image_same read image bytes found is
reads_only (Err error) bytes found judged image is = cause_none error (let P : Option ImageError → Type 0 = λ r. IsCause error r in subst P (image_accepted image bytes is) judged)
