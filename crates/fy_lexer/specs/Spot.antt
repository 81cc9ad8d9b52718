-- Where a text is being read.
use Rattle.std.specs.Prelude.{◌≡◌, ℕ, ◌+◌, ◌==◌, if◌then◌else◌, [], ◌∷◌, ◌++◌}
use Rattle.fy_base.specs.Outside.{Bytes}
use Rattle.fy_base.specs.declared.data.Place.{Place}
use Rattle.fy_base.specs.Places.{next_line, columns_on}

-- the place of the byte behind one that stands at a place: a line ends at byte 10, and a column counts bytes
abbrev pub past_byte : Place → ℕ → Place
past_byte at b = if b == 10 then next_line at else columns_on 1 at

-- the place behind bytes that begin at a place
abbrev pub past : Place → Bytes → Place
past at [] = at
past at (b ∷ bytes) = past (past_byte at b) bytes

-- what is left of a text, and the place of its first byte
pub record Spot : Type 0 where
  pub rest : Bytes
  pub place : Place

-- the next byte was taken
abbrev pub TakesByte : Spot → ℕ → Spot → Type 0
TakesByte old b new = (old.rest ≡ b ∷ new.rest) × (new.place ≡ past_byte old.place b)

-- nothing was left, and nothing changed
abbrev pub IsSpent : Spot → Spot → Type 0
IsSpent old new = (old.rest ≡ []) × (new ≡ old)

-- reading moved on over these bytes
pub record Moved (old : Spot) (piece : Bytes) (new : Spot) : Type 0 where
  pub text : old.rest ≡ piece ++ new.rest
  pub place : new.place ≡ past old.place piece
