-- Parts of lists, by how many elements stand before them.
use Rattle.std.proofs.Common.{◌≡◌, ℕ, zero, suc, ◌+◌, ◌<◌, List, [], ◌∷◌, ◌++◌, length, drop, map, slice_index, Some, refl, sym, ◌∙◌, ap, arith, drop-drop, drop_at}
use Rattle.std.specs.List.{slice_get}

pub first_is : {X : Type 0} (l : List X) (k : ℕ) (x : X) (rest : List X) → drop k l ≡ x ∷ rest → slice_get l k ≡ Some x
first_is [] zero x rest e = absurd (cc)
first_is (y ∷ l) zero x rest e = cc
first_is [] (suc k) x rest e = absurd (cc)
first_is (y ∷ l) (suc k) x rest e = first_is l k x rest e

pub rest_is : {X : Type 0} (l : List X) (k : ℕ) (x : X) (rest : List X) → drop k l ≡ x ∷ rest → drop (k + 1) l ≡ rest
rest_is l k x rest e = sym (drop-drop 1 k l) ∙ ap (drop 1) e

pub behind_is : {X : Type 0} (l : List X) (k : ℕ) (xs rest : List X) → drop k l ≡ xs ++ rest → drop (k + length xs) l ≡ rest
behind_is l k xs rest e = sym (drop-drop (length xs) k l) ∙ ap (drop (length xs)) e ∙ drop_at xs rest (length xs) refl

-- what stands in the second of two lists
pub second_is : {X : Type 0} (xs ys : List X) (k : ℕ) → drop (length xs + k) (xs ++ ys) ≡ drop k ys
second_is xs ys k = sym (drop-drop k (length xs) (xs ++ ys)) ∙ ap (drop k) (drop_at xs ys (length xs) refl)

pub mapped_is : {X : Type 0} (f : ℕ → X) (l : List ℕ) (rest : List X) (k : ℕ) → k < length l → slice_get (map f l ++ rest) k ≡ Some (f (slice_index l k))
mapped_is f [] rest k below = absurd (let none : ⊥ = omega arith in none)
mapped_is f (x ∷ l) rest zero below = refl
mapped_is f (x ∷ l) rest (suc k) below = mapped_is f l rest k (omega arith)
