-- A test of some text of a list, in a loop over the list.
use Rattle.std.proofs.Common.{◌≡◌, ℕ, suc, ◌+◌, ◌<◌, true, false, ◌||◌, List, length, drop, get_or, map, refl, ap, ◌∙◌, drop-cons, add-one, Bor}
use Rattle.std.specs.List.{list_any}
use Rattle.std.specs.Str.{bytes_eq}
use Rattle.fy_base.specs.Outside.{Bytes}

pub is-here : (text : Bytes) (xs : List (Bor Bytes)) (i : ℕ) (d : Bor Bytes) → i < length xs → bytes_eq text (get_or xs i d).now ≡ true →
    list_any (bytes_eq text) (map (λ t. t.now) (drop i xs)) ≡ true
is-here text xs i d h t =
    ap (λ l. list_any (bytes_eq text) (map (λ t. t.now) l)) (drop-cons xs i d h)
    ∙ ap (λ b. b || list_any (bytes_eq text) (map (λ t. t.now) (drop (suc i) xs))) t

pub is-later : (text : Bytes) (xs : List (Bor Bytes)) (i : ℕ) (d : Bor Bytes) → i < length xs → bytes_eq text (get_or xs i d).now ≡ false →
    list_any (bytes_eq text) (map (λ t. t.now) (drop i xs)) ≡ list_any (bytes_eq text) (map (λ t. t.now) (drop (i + 1) xs))
is-later text xs i d h t =
    ap (λ l. list_any (bytes_eq text) (map (λ t. t.now) l)) (drop-cons xs i d h)
    ∙ (ap (λ b. b || list_any (bytes_eq text) (map (λ t. t.now) (drop (suc i) xs))) t
    ∙ rw (add-one i) refl)
