-- The names of the fields in a text, as they are added to a list of names.
use Rattle.std.specs.Prelude.{◌≡◌, Bool, true, false, if◌then◌else◌, IsTrue, All, List, [], ◌∷◌, ◌++◌}
use Rattle.fy_base.specs.Outside.{Bytes}
use Rattle.fy_types.specs.Names.{with_names}
use Rattle.fy_types.specs.Words.{is_identifier}
use Rattle.fy_lexer.specs.Tokens.{HasAdded}
use Rattle.fy_derive.specs.Derivations.{PlainDerivation}
use Rattle.fy_read.specs.Spelling.{Piece, word, sign, colon, IsTextOf}

-- whether the first of the pieces is a colon
abbrev pub begins_with_colon : List Piece → Bool
begins_with_colon (sign colon ∷ ps) = true
begins_with_colon _ = false

-- the names of the fields, in order: the words in front of a colon
abbrev pub field_names : List Piece → List Bytes
field_names [] = []
field_names (word w ∷ ps) = if begins_with_colon ps then w ∷ field_names ps else field_names ps
field_names (p ∷ ps) = field_names ps

-- the text is one of the derivation's, with its fields numbered by the new list: the old one with their names, the new ones at its end in order of first use
pub record NumbersFields (old new : List Bytes) (d : PlainDerivation) (text : Bytes) : Type 0 where
  pub text_of : IsTextOf new d text
  pub added : new ≡ with_names old (field_names text_of.pieces)

-- an identifier that stands in the text
pub record IsIdentifierIn (text name : Bytes) : Type 0 where
  pub identifier : IsTrue (is_identifier name)
  pub before : Bytes
  pub behind : Bytes
  pub is : text ≡ before ++ (name ++ behind)

-- a list of names kept its entries, and has identifiers of the text at its end alone
pub record HasAddedFrom (text : Bytes) (old new : List Bytes) : Type 0 where
  pub added : HasAdded old new
  pub identifiers : All (IsIdentifierIn text) added.later
