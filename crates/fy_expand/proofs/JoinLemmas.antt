-- The items of a sequence, joined from the last one on.
use Rattle.std.proofs.Common.{◌≡◌, ℕ, ◌+◌, ◌-◌, ◌/◌, ◌≤◌, List, length, take, drop, sym, ap, ◌∙◌, arith, length-drop}
use Rattle.std.proofs.lemmas.List.{length-take-le, drop-take, drop-drop}
use Rattle.fy_base.specs.declared.data.Place.{Place}
use Rattle.fy_expand.specs.Core.{Item, by_halves, one_after, no_item}
use Rattle.fy_expand.specs.Built.{last_joined}
use Rattle.fy_expand.proofs.HalvesLemmas.{by_halves-two}

-- the last items in two groups
pub joined-two : (at : Place) (xs : List Item) (c : ℕ) → 2 ≤ c → c ≤ length xs →
    one_after (last_joined at (c / 2) (take (length xs - (c - c / 2)) xs)) (last_joined at (c - c / 2) xs) ≡ last_joined at c xs
joined-two at xs c two fits =
    let n = length xs in
    let h = c / 2 in
    let k = c - h in
    let join : ℕ → List Item → Item = by_halves one_after (no_item at) in
    let ys = drop (n - c) xs in
    let len : length ys ≡ c = omega (arith, length-drop (n - c) xs) in
    let taken : length (take (n - k) xs) ≡ n - k = length-take-le (n - k) xs (omega arith) in
    let behind : length (take (n - k) xs) - h ≡ n - c = omega arith in
    let before : n - k ≡ (n - c) + h = omega arith in
    let first : drop (length (take (n - k) xs) - h) (take (n - k) xs) ≡ take h ys =
    ap (λ m. drop m (take (n - k) xs)) behind ∙ ap (λ m. drop (n - c) (take m xs)) before ∙ drop-take (n - c) h xs in
    let rest : drop (n - k) xs ≡ drop h ys = ap (λ m. drop m xs) before ∙ sym (drop-drop h (n - c) xs) in
    ap (λ zs. one_after (join h zs) (last_joined at k xs)) first
    ∙ ap (λ zs. one_after (join h (take h ys)) (join k zs)) rest
    ∙ ap (λ m. one_after (join (m / 2) (take (m / 2) ys)) (join (m - m / 2) (drop (m / 2) ys))) (sym len)
    ∙ sym (by_halves-two one_after (no_item at) ys (omega arith))
    ∙ ap (λ m. join m ys) len
