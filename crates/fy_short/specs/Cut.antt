-- Texts cut to so many bytes.
use Rattle.std.specs.Prelude.{ℕ, ◌-◌, Bool, true, ◌&&◌, ◌==◌, nat_le, if◌then◌else◌, [], ◌∷◌, ◌++◌, length, take, codes}
use Rattle.fy_base.specs.Outside.{Bytes}

abbrev pub is_blank : Bytes → Bool
is_blank [] = true
is_blank (b ∷ text) = (b == 32) && is_blank text

-- the text without the blanks at its end
abbrev pub without_blanks : Bytes → Bytes
without_blanks [] = []
without_blanks (b ∷ text) = if is_blank (b ∷ text) then [] else b ∷ without_blanks text

-- the text where it has at most n bytes, else its first n - 3 without blanks at their end, and then ` ..`
abbrev pub cut : ℕ → Bytes → Bytes
cut n text = if nat_le (length text) n then text else without_blanks (take (n - 3) text) ++ codes " .."
