-- Reading field by field: what each part of the reader tells of the first refusal.
use Rattle.std.specs.Prelude.{◌≡◌, ℕ, ◌≤◌, ◌&&◌, Bool, not, nat_eq, List, ◌∷◌, ◌++◌}
use Rattle.std.specs.declared.option.Option.{Option}
use Rattle.std.specs.declared.result.Result.{Result}
use Rattle.std.specs.declared.result.Result.TheVariants.{Ok, Err}
use Rattle.fy_base.specs.Outside.{Bytes}
use Rattle.fy_image.specs.Form.{FitsFields, body_of, most_stack, word}
use Rattle.fy_image.specs.Refusals.{Field, IsCause, fields_of, first_refusal, lists_of, number_at}
use Rattle.fy_image.specs.declared.error.ImageError.{ImageError}
use Rattle.fy_image.specs.declared.image.Image.{Image}
use Rattle.fy_image.specs.declared.read.Header.{Header}
use Rattle.fy_image.specs.declared.version.Version.{Version}

-- what a result tells of the refusal of a field that was taken off the bytes before, with those now behind it
abbrev pub Judges : {T : Type 0} → Result T ImageError → Field → Bytes → Bytes → Type 0
Judges (Ok value) field before now = (fields : List Field) → first_refusal (field ∷ fields) before ≡ first_refusal fields now
Judges (Err error) field before now = (fields : List Field) → IsCause error (first_refusal (field ∷ fields) before)

-- the same of several fields
abbrev pub JudgesAll : {T : Type 0} → Result T ImageError → List Field → Bytes → Bytes → Type 0
JudgesAll (Ok value) own before now = (fields : List Field) → first_refusal (own ++ fields) before ≡ first_refusal fields now
JudgesAll (Err error) own before now = (fields : List Field) → IsCause error (first_refusal (own ++ fields) before)

-- whether a line and a column both count from 1
abbrev pub is_place : ℕ → ℕ → Bool
is_place line col = not (nat_eq line 0) && not (nat_eq col 0)

-- the first refusal behind the version; the counts stand at the offsets 4, 8 and 12 there
unfoldable pub body_refusal : Version → Bytes → Option ImageError
body_refusal version bytes = first_refusal (fields_of version (number_at bytes 4) (number_at bytes 8) (number_at bytes 12)) bytes

-- the numbers behind the version, as bytes, and the zero
abbrev pub header_bytes : Header → Bytes
header_bytes header = word header.stack_words ++ (word header.code_words ++ (word header.table_words ++ (word header.places ++ word 0)))

-- each in its range
pub record HeaderFits (version : Version) (header : Header) : Type 0 where
  pub stack_least : 1024 ≤ header.stack_words
  pub stack_most : header.stack_words ≤ most_stack version
  pub code_least : 1 ≤ header.code_words
  pub code_most : header.code_words ≤ 4194304
  pub table_most : header.table_words ≤ 1048576
  pub places_most : header.places ≤ 524288

-- the lists behind them
abbrev pub lists_behind : Version → Header → List Field
lists_behind version header = lists_of version header.code_words header.table_words header.places

-- the bytes behind the version are the image's
pub record IsBody (version : Version) (image : Image) (bytes : Bytes) : Type 0 where
  pub fits : FitsFields image
  pub few : image.stack_words ≤ most_stack version
  pub spelled : bytes ≡ body_of version image
