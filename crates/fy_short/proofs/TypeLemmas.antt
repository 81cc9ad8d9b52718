-- Meets of two members, and of another number.
use Rattle.std.proofs.Common.{ℕ, ◌≡◌, ◌≢◌, ◌<◌, List, [], ◌∷◌, length, get_or, map, None, refl, sym, ap, ◌∙◌, arith}
use Rattle.fy_types.specs.declared.types.Ty.{Ty}
use Rattle.fy_types.specs.Reading.{plain_type, types_from}
use Rattle.fy_short.specs.ShortTypes.{meet_name, predefined_name}

pub other_members : (xs : List Ty) → length xs ≢ 2 → predefined_name (types_from (map plain_type xs)) ≡ None
other_members [] h = refl
other_members (x ∷ []) h = refl
other_members (x ∷ y ∷ []) h = absurd (h refl)
other_members (x ∷ y ∷ z ∷ xs) h = refl

pub two_members : (xs : List Ty) (x y : Ty) → length xs ≡ 2 → x ≡ get_or xs 0 x → y ≡ get_or xs 1 y →
    predefined_name (types_from (map plain_type xs)) ≡ meet_name (plain_type x) (plain_type y)
two_members [] x y h e f = absurd (omega arith)
two_members (a ∷ []) x y h e f = absurd (omega arith)
two_members (a ∷ b ∷ []) x y h e f = ap (λ c. meet_name (plain_type c) (plain_type b)) (sym e) ∙ ap (λ c. meet_name (plain_type x) (plain_type c)) (sym f)
two_members (a ∷ b ∷ c ∷ xs) x y h e f = absurd (omega arith)

pub ruleset pairs = (other_members, two_members)
