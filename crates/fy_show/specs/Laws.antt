-- Laws of the texts.
use Rattle.std.specs.Prelude.{◌≡◌, ℕ, ◌+◌, ◌≤◌, max, Bool, true, false, ◌∷◌, length}
use Rattle.std.specs.List.{list_any}
use Rattle.std.specs.Str.{bytes_eq}
use Rattle.fy_base.specs.Outside.{Bytes}
use Rattle.fy_phrase.specs.Tree.{Tree}
use Rattle.fy_show.specs.Entries.{Scope, Known, unnamed, has_name}
use Rattle.fy_show.specs.Fresh.{fresh, like, most_names, uses, bound}
use Rattle.fy_show.specs.Names.{names_in, names_of_all, bodies, declared_by}
use Rattle.fy_show.specs.Texts.{Shown, short}

-- a name that is made fresh isn't used, if one of x, x_1, x_2, .. isn't
abbrev pub FreshIsFree : Type 0
FreshIsFree = (used : Bytes → Bool) (x : Bytes) (i : ℕ) → i ≤ most_names → used (like x i) ≡ false → used (fresh used x) ≡ false

-- a text uses just the names that are in it
abbrev pub UsesAreNames : Type 0
UsesAreNames = (k : Known) (t : Bytes) (s : Scope) (p : Tree) → uses k t s p ≡ list_any (bytes_eq t) (names_in k s p)

-- nothing outside that is used under a binder has a name of the binder, if not more names are used and declared there than are tried
abbrev pub NoUseIsCaptured : Type 0
NoUseIsCaptured =
    (k : Known) (s : Scope) (p : Tree) (t : Bytes) → length (names_of_all k (unnamed ∷ s) (bodies p)) + length (declared_by p) ≤ most_names →
    has_name t (bound k s p) ≡ true → list_any (λ b. uses k t (unnamed ∷ s) b) (bodies p) ≡ false

-- a short text has at most so many bytes, or is `..`
abbrev pub ShortIsShort : Type 0
ShortIsShort = (n : ℕ) (q : Shown) → length (short n 0 q) ≤ max n 2
