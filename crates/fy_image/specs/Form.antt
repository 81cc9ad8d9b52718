-- The form of images, in its versions. All numbers are little-endian and without sign.
use Rattle.std.specs.Prelude.{◌≡◌, ℕ, ◌+◌, ◌<◌, ◌≤◌, ◌^◌, List, [], ◌∷◌, ◌++◌, length, map, reverse, All}
use Rattle.std.specs.List.{flat_map}
use Rattle.std.specs.Int.{w32, w64, to_le_bytes}
use Rattle.std.specs.Int.Digits.{digits_of}
use Rattle.fy_base.specs.Outside.{Bytes}
use Rattle.fy_base.specs.declared.data.Place.{Place}
use Rattle.fy_image.specs.declared.image.Image.{Image}
use Rattle.fy_image.specs.declared.version.Version.{Version}
use Rattle.fy_image.specs.declared.version.Version.TheVariants.{One, Two}
use Rattle.fy_image.specs.Ranges.{IsImage}

-- FORSYF64
abbrev pub magic : Bytes
magic = 70 ∷ 79 ∷ 82 ∷ 83 ∷ 89 ∷ 70 ∷ 54 ∷ 52 ∷ []

-- a number of 4 bytes
abbrev pub word : ℕ → Bytes
word n = to_le_bytes w32 n

-- a number of 8 bytes
abbrev pub double : ℕ → Bytes
double n = to_le_bytes w64 n

-- digits in base 128 as bytes, the lowest first: the highest ends them, and each of the others has its top bit set
abbrev pub grouped_bytes : List ℕ → Bytes
grouped_bytes [] = []
grouped_bytes (highest ∷ digits) = reverse (highest ∷ map (λ digit. 128 + digit) digits)

-- a short number: in groups of 7 bits, so many as it has, so that the last isn't 0
unfoldable pub short : ℕ → Bytes
short n = grouped_bytes (digits_of 128 n)

-- the number of a version
abbrev pub version_number : Version → ℕ
version_number One = 1
version_number Two = 2

-- the most words of stack in a version
abbrev pub most_stack : Version → ℕ
most_stack One = 16777216
most_stack Two = 67108864

-- a place in a version: its line, then its column
abbrev pub place_bytes : Version → Place → Bytes
place_bytes One place = word place.line ++ word place.col
place_bytes Two place = short place.line ++ short place.col

-- the fields of an image behind the version, in order
unfoldable pub body_of : Version → Image → Bytes
body_of version image =
    word image.stack_words
    ++ (word (length image.code)
    ++ (word (length image.table)
    ++ (word (length image.places)
    ++ (word 0
    ++ (flat_map word image.code
    ++ (flat_map double image.table
    ++ flat_map (place_bytes version) image.places))))))

-- the fields of an image, in order
abbrev pub spelling_of : Version → Image → Bytes
spelling_of version image = magic ++ (word (version_number version) ++ body_of version image)

-- both numbers of a place have 4 bytes
pub record PlaceFits (place : Place) : Type 0 where
  pub line : place.line < 2 ^ 32
  pub col : place.col < 2 ^ 32

-- every field is in its range, and every number fits its bytes
pub record FitsFields (image : Image) : Type 0 where
  pub ranges : IsImage image
  pub code : All (λ n. n < 2 ^ 32) image.code
  pub table : All (λ n. n < 2 ^ 64) image.table
  pub places : All PlaceFits image.places

-- the bytes are those of the image in a version
pub record IsSpelled (version : Version) (image : Image) (bytes : Bytes) : Type 0 where
  pub fits : FitsFields image
  pub few : image.stack_words ≤ most_stack version
  pub spelled : bytes ≡ spelling_of version image

-- the bytes are those of the image, in one of the versions
pub record IsImageBytes (image : Image) (bytes : Bytes) : Type 0 where
  pub version : Version
  pub spelled : IsSpelled version image bytes
