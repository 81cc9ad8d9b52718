-- What is known where reading stops for a limit.
use Rattle.std.specs.Prelude.{◌≡◌, Bool, false, List, ◌++◌}
use Rattle.fy_base.specs.Outside.{Bytes}
use Rattle.fy_types.specs.Words.{is_word}
use Rattle.fy_read.specs.declared.read.Awaited.TheVariants as awaited
use Rattle.fy_read.specs.declared.read.Begun.TheVariants as variant
use Rattle.fy_read.specs.declared.read.Reader.{Reader}
use Rattle.fy_read.specs.declared.stop.Stop.{Stop}
use Rattle.fy_read.specs.declared.stop.Stop.TheVariants.{Misfit, TooLarge, TooDeep, OutOfMemory}
use Rattle.fy_read.specs.OpenLevels.{levels_of}
use Rattle.fy_read.specs.OpenTypes.{IsFieldDeep}
use Rattle.fy_read.specs.ReadSoFar.{HoldsAt, HoldsBefore, IsRead}
use Rattle.fy_read.specs.Refusals.{PassesSize, PassesDepth}

-- the limit is passed at the end of the bytes, whatever follows
abbrev pub Passes : Bytes → Stop → Type 0
Passes part Misfit = Unit {0}
Passes part TooLarge = PassesSize part
Passes part TooDeep = ((rest : Bytes) → PassesDepth part rest) × (¬ PassesSize part)
Passes part OutOfMemory = Unit {0}

-- reading stops for no limit
abbrev pub IsPlain : Stop → Type 0
IsPlain Misfit = Unit {0}
IsPlain TooLarge = ⊥
IsPlain TooDeep = ⊥
IsPlain OutOfMemory = Unit {0}

-- the text that was read passes the limit with these bytes behind it
abbrev pub Refuses : List Bytes → Bytes → Reader → Stop → Type 0
Refuses names bytes old e = (text : Bytes) → IsRead names text old → Passes (text ++ bytes) e

-- the same under any names, where nothing had begun, behind a word or a number or not
abbrev pub RefusesOn : Bool → Bytes → Reader → Stop → Type 0
RefusesOn loose bytes old e = (names : List Bytes) (text : Bytes) → HoldsAt names text loose old → Passes (text ++ bytes) e

-- the text passes the limit with this word, which is whole
abbrev pub RefusesWord : Bytes → Reader → Stop → Type 0
RefusesWord w old e = (names : List Bytes) (text : Bytes) → HoldsBefore names text w old → Passes text e

-- the name of a field ends here, whose part would be too deep
pub record EndsDeep (r : Reader) : Type 0 where
  pub begun : r.begun ≡ variant.Word
  pub awaited : r.awaited ≡ awaited.Part
  pub other : is_word r.letters.items ≡ false
  pub deep : IsFieldDeep (levels_of r.levels)
