-- A list of distinct texts, each of which has its place in the list as its number.
use Rattle.std.specs.Prelude.{◌≡◌, ℕ, ◌+◌, Bool, true, not, ◌&&◌, IsTrue, if◌then◌else◌, List, [], ◌∷◌, ◌++◌, map, codes}
use Rattle.std.specs.List.{list_any}
use Rattle.std.specs.declared.alloc.Global.{Global}
use Rattle.std.specs.declared.vec.Vec.{Vec}
use Rattle.std.specs.Str.{bytes_eq}
use Rattle.fy_base.specs.Outside.{Bytes}

-- the names that every list begins with, with the numbers 0 to 12
abbrev pub first_names : List Bytes
first_names =
    codes "len" ∷ codes "putint" ∷ codes "putchar" ∷ codes "putbool" ∷ codes "read"
    ∷ codes "intvar" ∷ codes "boolvar" ∷ codes "charvar" ∷ codes "intseq" ∷ codes "boolseq" ∷ codes "charseq"
    ∷ codes "newintseq" ∷ codes "intvarseq" ∷ []

-- the number of a text: its place in the list, or the list's length where it is new
abbrev pub number_of : List Bytes → Bytes → ℕ
number_of [] text = 0
number_of (name ∷ names) text = if bytes_eq text name then 0 else number_of names text + 1

-- the list with a text in it: as it was where it has the text, else with the text added last
abbrev pub with_name : List Bytes → Bytes → List Bytes
with_name [] text = text ∷ []
with_name (name ∷ names) text = if bytes_eq text name then name ∷ names else name ∷ with_name names text

-- the list with each of these texts in it, added in order
abbrev pub with_names : List Bytes → List Bytes → List Bytes
with_names names [] = names
with_names names (text ∷ texts) = with_names (with_name names text) texts

-- the texts of vectors
abbrev pub texts_of : List (Vec ℕ Global) → List Bytes
texts_of = map (λ v. v.items)

-- whether a text is among the names
abbrev pub has : List Bytes → Bytes → Bool
has names text = list_any (bytes_eq text) names

-- whether each name is none of the later ones
abbrev pub are_distinct : List Bytes → Bool
are_distinct [] = true
are_distinct (name ∷ names) = not (has names name) && are_distinct names

-- the list begins with the first names, and its texts are distinct
pub record AreNames (names : List Bytes) : Type 0 where
  pub later : List Bytes
  pub begins : names ≡ first_names ++ later
  pub distinct : IsTrue (are_distinct names)
