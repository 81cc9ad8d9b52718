-- Sample programs: the text that a number and a size tell, and the summary of a run. Their form is this project's own; the recurrence is
-- the linear congruential generator of Press et al., "Numerical Recipes", modulo 2^32.
use Rattle.std.specs.Prelude.{ℕ, zero, suc, ◌+◌, ◌*◌, ◌/◌, ◌%◌, ◌≤◌, ◌==◌, if◌then◌else◌, [], ◌∷◌, ◌++◌, length, codes}
use Rattle.std.specs.Fmt.{decimal}
use Rattle.std.specs.List.{flat_map, range_with_len}
use Rattle.fy_base.specs.Outside.{Bytes}

-- the number that follows x
abbrev pub next : ℕ → ℕ
next x = (x * 1664525 + 1013904223) % 4294967296

-- x i, where x 0 is the sample's number
abbrev pub number_at : ℕ → ℕ → ℕ
number_at number zero = number
number_at number (suc i) = next (number_at number i)

-- the statement of a kind from 0 to 3 with the constant k
abbrev pub statement_of : ℕ → ℕ → Bytes
statement_of kind k =
    if kind == 0 then codes "a := f (b + " ++ decimal k ++ codes ")"
    else (if kind == 1 then codes "b := (a * 3 + " ++ decimal k ++ codes ") rem 1000"
    else (if kind == 2 then codes "if a < b then a := a + " ++ decimal k ++ codes " else b := b + " ++ decimal k
    else codes "new i:int := 0 in while i < " ++ decimal k ++ codes " do (a := f a; i := i + 1)"))

-- the statement that x tells by its upper 16 bits
abbrev pub statement : ℕ → Bytes
statement x = let u = x / 65536 in statement_of (u % 4) (u / 4 % 100)

-- statements 1 to size, each followed by a semicolon and a blank
abbrev pub statements : ℕ → ℕ → Bytes
statements number size = flat_map (λ i. statement (number_at number i) ++ codes "; ") (range_with_len 1 size)

abbrev pub opening : Bytes
opening = codes "new a:int := 0 in new b:int := 0 in let f == \\x: int | intvar. x + 1 in ("

abbrev pub closing : Bytes
closing = codes "putint a; putchar ' '; putint b)"

-- the text of the sample with this number and size
abbrev pub sample_text : ℕ → ℕ → Bytes
sample_text number size = opening ++ statements number size ++ closing

-- what is written behind the output of a sample's run: its status, and how many bytes the program wrote
abbrev pub summary : ℕ → ℕ → Bytes
summary status bytes = 10 ∷ codes "status " ++ decimal status ++ codes " bytes " ++ decimal bytes ++ 10 ∷ []

-- samples keep the limit on the length of a text
abbrev pub SamplesAreShort : Type 0
SamplesAreShort = (number size : ℕ) → size ≤ 2000 → length (sample_text number size) ≤ 1048576
