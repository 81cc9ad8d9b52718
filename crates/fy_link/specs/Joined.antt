-- The text of units put together: each but the last is a definition around those behind it.
use Rattle.std.specs.Prelude.{◌≡◌, List, [], ◌∷◌, ◌++◌, codes, Some, slice_get}
use Rattle.fy_base.specs.Outside.{Bytes}
use Rattle.fy_base.specs.Places.{first_place}
use Rattle.fy_base.specs.declared.data.Place.{Place}
use Rattle.fy_lexer.specs.declared.token.Token.{Token}
use Rattle.fy_lexer.specs.Spot.{past}
use Rattle.fy_lexer.specs.Tokens.{HasAdded}
use Rattle.fy_link.specs.declared.unit.Unit.{Unit as UnitValue}
use Rattle.fy_link.specs.Header.{PlainHeader}
use Rattle.fy_link.specs.Sources.{HasHeader}

-- a unit's name, and the bytes behind its header's `==`
pub record TextPart : Type 0 where
  pub name : Bytes
  pub tail : Bytes

-- the text goes on so behind the two bytes of the `==` at that place
pub record IsTail (text : Bytes) (at : Place) (tail : Bytes) : Type 0 where
  pub head : Bytes
  pub is : text ≡ head ++ (61 ∷ 61 ∷ tail)
  pub place : past first_place head ≡ at

-- the source has this name and these bytes, where its names have their numbers in the list
pub record IsTextPart (names : List Bytes) (source : Bytes) (part : TextPart) : Type 0 where
  pub before : List Bytes
  pub after : List Bytes
  pub tokens : List Token
  pub header : PlainHeader
  pub headed : HasHeader before source after tokens header
  pub kept : HasAdded after names
  pub name : slice_get names header.own.name ≡ Some part.name
  pub tail : IsTail source header.equals_at part.tail

-- the values' sources have these parts, in order
abbrev pub AreTextParts : List Bytes → List UnitValue → List TextPart → Type 0
AreTextParts names [] [] = Unit {0}
AreTextParts names [] (part ∷ parts) = ⊥
AreTextParts names (value ∷ values) [] = ⊥
AreTextParts names (value ∷ values) (part ∷ parts) = IsTextPart names value.source part × AreTextParts names values parts

-- `let NAME == (..) in ` for each unit but the last, and `(..)` for the last
abbrev pub joined_text : List TextPart → Bytes
joined_text [] = []
joined_text (part ∷ []) = codes "(" ++ (part.tail ++ codes ")")
joined_text (part ∷ next ∷ more) =
    codes "let " ++ (part.name ++ (codes " == (" ++ (part.tail ++ (codes ") in " ++ joined_text (next ∷ more)))))

-- the text is that of the units put together
pub record IsJoinedText (names : List Bytes) (values : List UnitValue) (text : Bytes) : Type 0 where
  pub parts : List TextPart
  pub are : AreTextParts names values parts
  pub is : text ≡ joined_text parts
