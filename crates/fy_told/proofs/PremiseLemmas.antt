-- What premises are about, by their indices.
use Rattle.std.proofs.Common.{ℕ, zero, suc, ◌-◌, ◌<◌, ◌≤◌, ◌≡◌, ◌≢◌, Bool, false, List, [], ◌∷◌, length, get_or, map, Some, None, refl, ap, arith}
use Rattle.std.specs.Prelude.{slice_get}
use Rattle.fy_phrase.specs.declared.phrase.Phrase.{Phrase}
use Rattle.fy_phrase.specs.Tree.{Tree}
use Rattle.fy_phrase.specs.Reads.{reads, trees_from}
use Rattle.fy_derive.specs.Rules.{of_parts}
use Rattle.fy_told.specs.ReasonTexts.{about}

-- behind the first
pub get-later : (x : Bool × Tree) (xs : List (Bool × Tree)) (i : ℕ) → i ≢ 0 → slice_get (x ∷ xs) i ≡ slice_get xs (i - 1)
get-later x xs zero h = absurd (h refl)
get-later x xs (suc i) h = ap (slice_get xs) (omega arith)

abbrev pub parts_about : List Phrase → List (Bool × Tree)
parts_about xs = map about (of_parts (trees_from (map reads xs)))

-- the parts of a sequence
pub part-within : (xs : List Phrase) (i : ℕ) (x : Phrase) → i < length xs → x ≡ get_or xs i x → Some (false, reads x) ≡ slice_get (parts_about xs) i
part-within [] i x h e = absurd (omega arith)
part-within (y ∷ xs) zero x h e = ap (λ z. Some (false, reads z)) e
part-within (y ∷ xs) (suc i) x h e = part-within xs i x (omega arith) e

pub part-past : (xs : List Phrase) (i : ℕ) → length xs ≤ i → None ≡ slice_get (parts_about xs) i
part-past [] i h = refl
part-past (y ∷ xs) zero h = absurd (omega arith)
part-past (y ∷ xs) (suc i) h = part-past xs i (omega arith)

pub ruleset premise_rules = (get-later, part-within, part-past)
