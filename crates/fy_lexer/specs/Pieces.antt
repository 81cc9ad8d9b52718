-- The pieces of a text: blanks, comments and tokens; and where a text has none.
use Rattle.std.specs.Prelude.{◌≡◌, ℕ, ◌^◌, ◌<◌, ◌≤◌, Bool, not, ◌||◌, ◌==◌, IsTrue, List, [], ◌∷◌, ◌++◌, length, ◌⊎◌}
use Rattle.std.specs.List.{list_all}
use Rattle.fy_base.specs.Outside.{Bytes}
use Rattle.fy_lexer.specs.declared.token.TokenKind.{TokenKind}
use Rattle.fy_lexer.specs.Spellings.{Spells, is_numeral, decimal}

-- a blank: tab, line feed, carriage return or space
abbrev pub is_blank : ℕ → Bool
is_blank b = (b == 9) || ((b == 10) || ((b == 13) || (b == 32)))

-- a comment: from { to the next }
pub record IsComment (piece : Bytes) : Type 0 where
  pub inside : Bytes
  pub is : piece ≡ 123 ∷ inside ++ 125 ∷ []
  pub open_inside : IsTrue (list_all (λ b. not (b == 125)) inside)

-- what separates tokens: one blank, or one comment
abbrev pub IsGap : Bytes → Type 0
IsGap piece = ((b : ℕ) × (piece ≡ b ∷ []) × IsTrue (is_blank b)) ⊎ IsComment piece

-- the bytes spell some token
pub record IsToken (piece : Bytes) : Type 0 where
  pub names : List Bytes
  pub kind : TokenKind
  pub spelled : Spells names kind piece

abbrev pub IsPiece : Bytes → Type 0
IsPiece piece = IsGap piece ⊎ IsToken piece

-- longest match, or maximal munch (as POSIX's lex has it): no longer beginning of the text spells a token
abbrev pub IsLongest : Bytes → Bytes → Type 0
IsLongest text piece = (longer rest : Bytes) → text ≡ longer ++ rest → IsToken longer → length longer ≤ length piece

-- some piece begins with these bytes
abbrev pub BeginsPiece : Bytes → Type 0
BeginsPiece part = (more : Bytes) × IsPiece (part ++ more)

-- no piece begins the text
abbrev pub HasNoPiece : Bytes → Type 0
HasNoPiece text = (piece rest : Bytes) → text ≡ piece ++ rest → ¬ IsPiece piece

-- no piece begins the text, and the byte behind this part is the first at which none can
pub record IsBadAt (text part : Bytes) : Type 0 where
  pub bad : ℕ
  pub rest : Bytes
  pub is : text ≡ part ++ bad ∷ rest
  pub none : HasNoPiece text
  pub begins : BeginsPiece part
  pub stops : ¬ BeginsPiece (part ++ bad ∷ [])

-- no piece begins the text, and it ends before such a byte
pub record IsUnclosed (text : Bytes) : Type 0 where
  pub filled : 0 < length text
  pub none : HasNoPiece text
  pub begins : BeginsPiece text

-- the longest token at the front of the text is a number past 2^63 - 1
pub record IsLargeNumber (text : Bytes) : Type 0 where
  pub piece : Bytes
  pub rest : Bytes
  pub is : text ≡ piece ++ rest
  pub numeral : IsTrue (is_numeral piece)
  pub longest : IsLongest text piece
  pub large : 2 ^ 63 ≤ decimal piece
