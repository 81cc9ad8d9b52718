-- The names that are there byte by byte (words of private contracts).
use Rattle.std.specs.Prelude.{◌≡◌, ◌⊎◌, ℕ, if◌then◌else◌, List, [], ◌∷◌, Option, Some, None}
use Rattle.fy_base.specs.Outside.{Bytes}
use Rattle.fy_types.specs.Names.{with_name}
use Rattle.fy_types.specs.Words.{is_name_byte, is_word}
use Rattle.fy_read.specs.declared.read.Awaited.{Awaited}
use Rattle.fy_read.specs.declared.read.Awaited.TheVariants as awaited
use Rattle.fy_read.specs.Steps.{Reached, at, Spot, spot, letters, step}

-- with a word that is whole: in a type it is a field's name, unless it is a word of the language
abbrev pub named_by : Awaited → Bytes → List Bytes → List Bytes
named_by awaited.Part w names = if is_word w then names else with_name names w
named_by _ w names = names

abbrev pub named_at : Reached → Bytes → List Bytes → List Bytes
named_at (at n k a) w names = named_by a w names

-- where the text ends here
abbrev pub names_ended : Spot → List Bytes → List Bytes
names_ended (spot c (letters w)) names = named_at c w names
names_ended (spot c b) names = names

-- with one more byte: a word ends before a byte that doesn't go on with it
abbrev pub names_with : Spot → ℕ → List Bytes → List Bytes
names_with s b names = if is_name_byte b then names else names_ended s names

-- at the end of a text
abbrev pub names_along : Option Spot → Bytes → List Bytes → List Bytes
names_along None text names = names
names_along (Some s) [] names = names_ended s names
names_along (Some s) (b ∷ text) names = names_along (step s b) text (names_with s b names)

-- the word that has begun, whose name may still be added
abbrev pub begun_words : Spot → ℕ
begun_words (spot c (letters w)) = 1
begun_words (spot c b) = 0

-- the names are the old ones, or these
abbrev pub IsOrStays : List Bytes → List Bytes → List Bytes → Type 0
IsOrStays old names new = (new ≡ old) ⊎ (new ≡ names)
