-- Things joined by halves.
use Rattle.std.proofs.Common.{◌≡◌, ℕ, zero, suc, ◌-◌, ◌/◌, ◌≤◌, List, [], ◌∷◌, length, map, take, drop, refl, sym, ap, ◌∙◌, arith, length-drop}
use Rattle.std.proofs.lemmas.List.{take-map, drop-map, length-map, length-take}
use Rattle.fy_expand.specs.Core.{by_halves}

-- the number makes no difference where it is that of the things or more
pub by_halves-fuel : {A : Type 0} (join : A → A → A) (none : A) (n m : ℕ) (xs : List A) → length xs ≤ n → length xs ≤ m → by_halves join none n xs ≡ by_halves join none m xs
by_halves-fuel join none n m [] h k = refl
by_halves-fuel join none n m (x ∷ []) h k = refl
by_halves-fuel join none zero m (x ∷ y ∷ more) h k = absurd (omega arith)
by_halves-fuel join none (suc n) zero (x ∷ y ∷ more) h k = absurd (omega arith)
by_halves-fuel join none (suc n) (suc m) (x ∷ y ∷ more) h k =
    let xs = x ∷ y ∷ more in
    let half = length xs / 2 in
    let first = length-take half xs in
    let rest = length-drop half xs in
    ap (λ a. join a (by_halves join none n (drop half xs))) (by_halves-fuel join none n m (take half xs) (omega arith) (omega arith))
    ∙ ap (λ b. join (by_halves join none m (take half xs)) b) (by_halves-fuel join none n m (drop half xs) (omega arith) (omega arith))

-- two halves
pub by_halves-two : {A : Type 0} (join : A → A → A) (none : A) (xs : List A) → 2 ≤ length xs →
    by_halves join none (length xs) xs ≡ join (by_halves join none (length xs / 2) (take (length xs / 2) xs)) (by_halves join none (length xs - length xs / 2) (drop (length xs / 2) xs))
by_halves-two join none [] h = absurd (omega arith)
by_halves-two join none (x ∷ []) h = absurd (omega arith)
by_halves-two join none (x ∷ y ∷ more) h =
    let xs = x ∷ y ∷ more in
    let half = length xs / 2 in
    let first = length-take half xs in
    let rest = length-drop half xs in
    ap (λ a. join a (by_halves join none (length (y ∷ more)) (drop half xs))) (by_halves-fuel join none (length (y ∷ more)) half (take half xs) (omega arith) (omega arith))
    ∙ ap (λ b. join (by_halves join none half (take half xs)) b) (by_halves-fuel join none (length (y ∷ more)) (length xs - half) (drop half xs) (omega arith) (omega arith))

-- what is joined, seen through a function
pub by_halves-map : {A B : Type 0} (f : A → B) (join : A → A → A) (join' : B → B → B) (none : A) → ((x y : A) → f (join x y) ≡ join' (f x) (f y)) →
    (n : ℕ) (xs : List A) → f (by_halves join none n xs) ≡ by_halves join' (f none) n (map f xs)
by_halves-map f join join' none h n [] = refl
by_halves-map f join join' none h n (x ∷ []) = refl
by_halves-map f join join' none h zero (x ∷ y ∷ more) = refl
by_halves-map f join join' none h (suc n) (x ∷ y ∷ more) =
    let xs = x ∷ y ∷ more in
    let half = length xs / 2 in
    h (by_halves join none n (take half xs)) (by_halves join none n (drop half xs))
    ∙ ap (λ a. join' a (f (by_halves join none n (drop half xs)))) (by_halves-map f join join' none h n (take half xs) ∙ ap (by_halves join' (f none) n) (sym (take-map f half xs)))
    ∙ ap (λ b. join' (by_halves join' (f none) n (take half (map f xs))) b) (by_halves-map f join join' none h n (drop half xs) ∙ ap (by_halves join' (f none) n) (sym (drop-map f half xs)))
    ∙ ap (λ k. join' (by_halves join' (f none) n (take (k / 2) (map f xs))) (by_halves join' (f none) n (drop (k / 2) (map f xs)))) (sym (length-map xs f))
