-- What an identifier and a word are: letters, digits and underscores, as bytes of ASCII.
use Rattle.std.specs.Prelude.{ℕ, Bool, false, not, ◌&&◌, ◌||◌, nat_le, ◌==◌, List, [], ◌∷◌, codes}
use Rattle.std.specs.List.{list_any, list_all}
use Rattle.std.specs.Str.{bytes_eq}
use Rattle.fy_base.specs.Outside.{Bytes}

-- a letter: A to Z or a to z
abbrev pub is_letter : ℕ → Bool
is_letter b = (nat_le 65 b && nat_le b 90) || (nat_le 97 b && nat_le b 122)

-- a digit: 0 to 9
abbrev pub is_digit : ℕ → Bool
is_digit b = nat_le 48 b && nat_le b 57

-- a byte that goes on with an identifier or a word: a letter, a digit or _
abbrev pub is_name_byte : ℕ → Bool
is_name_byte b = is_letter b || (is_digit b || (b == 95))

-- the words, which are no identifiers
abbrev pub words : List Bytes
words =
    codes "let" ∷ codes "letrec" ∷ codes "lettype" ∷ codes "where" ∷ codes "in" ∷ codes "new" ∷ codes "escape" ∷ codes "accept"
    ∷ codes "if" ∷ codes "then" ∷ codes "else" ∷ codes "while" ∷ codes "do" ∷ codes "loop" ∷ codes "seq" ∷ codes "skip"
    ∷ codes "true" ∷ codes "false" ∷ codes "and" ∷ codes "or" ∷ codes "not" ∷ codes "ord" ∷ codes "chr" ∷ codes "div" ∷ codes "rem"
    ∷ codes "ns" ∷ codes "int" ∷ codes "bool" ∷ codes "char" ∷ codes "comm" ∷ codes "compl"
    ∷ codes "intacc" ∷ codes "boolacc" ∷ codes "characc" ∷ []

-- a text that is a word
abbrev pub is_word : Bytes → Bool
is_word text = list_any (bytes_eq text) words

-- a letter, and then letters, digits and underscores
abbrev pub is_name_like : Bytes → Bool
is_name_like [] = false
is_name_like (b ∷ bytes) = is_letter b && list_all is_name_byte bytes

-- an identifier: a letter, then letters, digits and underscores, and no word
abbrev pub is_identifier : Bytes → Bool
is_identifier text = is_name_like text && not (is_word text)
