-- What is found among the places of a form's paths.
use Rattle.std.proofs.Common.{ℕ, zero, suc, ◌+◌, ◌<◌, ◌≡◌, ltb, Bool, true, false, List, [], ◌∷◌, length, get_or, map, refl, sym, ap, ◌∙◌, arith}
use Rattle.std.proofs.lemmas.Bool.{ltb-true, ltb-false}
use Rattle.std.proofs.lemmas.List.{get_or_default}
use Rattle.fy_types.specs.declared.paths.Path.{Path}
use Rattle.fy_types.specs.Paths.{PlainPath, PlainPaths, no_paths, and_path}
use Rattle.fy_types.specs.PathOrder.{IsPathBelow, HasBelow, here, there}
use Rattle.fy_types.specs.Reading.{plain_path, paths_from}
use Rattle.fy_order.specs.Levels.{PlainTagged, all_tagged, IsAt, IsBelow, HaveBelow}

-- what the list has at the place is the path there
pub at-item : (n : ℕ) (ps : List Path) (k : ℕ) (t : PlainTagged) → IsAt (all_tagged n (paths_from (map plain_path ps))) k t →
    (x : Path) → x ≡ get_or ps k x → plain_path x ≡ t.path
at-item n [] k t at x is = absurd at
at-item n (p ∷ ps) zero t at x is = ap plain_path is ∙ ap (λ (u : PlainTagged). u.path) at
at-item n (p ∷ ps) (suc k) t at x is = at-item n ps k t at x is

-- a path of the list below the path has a place
pub below-at : (n : ℕ) (P : PlainPaths) (q : PlainPath) → HasBelow P q → (k : ℕ) × ((t : PlainTagged) × (IsAt (all_tagged n P) k t × IsBelow t (record { tag = n; path = q })))
below-at n no_paths q some = elim some [ ]
below-at n (and_path p P) q (here low) = (0, (record { tag = n; path = p }, (refl, (refl, low))))
below-at n (and_path p P) q (there some) = let more = below-at n P q some in (suc more.0, more.1)

-- a path at a place of the list that is below the path is one of the list's
pub at-below : (ps : List Path) (q : PlainPath) (k : ℕ) (x : Path) → k < length ps → x ≡ get_or ps k x → IsPathBelow (plain_path x) q → HasBelow (paths_from (map plain_path ps)) q
at-below [] q k x within is low = absurd (omega arith)
at-below (p ∷ ps) q zero x within is low = here (rw (ap plain_path is) at low)
at-below (p ∷ ps) q (suc k) x within is low = there (at-below ps q k x (omega arith) is low)

-- the list has a member of the list with its tag where that one stands
pub tagged-item : (n : ℕ) (ps : List Path) (i : ℕ) (x : Path) → i < length ps → x ≡ get_or ps i x →
    IsAt (all_tagged n (paths_from (map plain_path ps))) i (record { tag = n; path = plain_path x })
tagged-item n [] i x few is = absurd (omega arith)
tagged-item n (p ∷ ps) zero x few is = ap (λ y. record { tag = n; path = plain_path y }) (sym is)
tagged-item n (p ∷ ps) (suc i) x few is = tagged-item n ps i x (omega arith) is

-- no path of the list is below the path, if none at the places is that have all such paths
pub none-below : (ps : List Path) (q : PlainPath) (ks : List ℕ) (n : ℕ) →
    HaveBelow (all_tagged n (paths_from (map plain_path ps))) (record { tag = n; path = q }) ks →
    ((j : ℕ) (x : Path) → j < length ks → get_or ks j 0 < length ps → x ≡ get_or ps (get_or ks j 0) x → IsPathBelow (plain_path x) q → ⊥) →
    HasBelow (paths_from (map plain_path ps)) q → ⊥
none-below ps q ks n have none some =
    let one = below-at n (paths_from (map plain_path ps)) q some in
    let place = have one.0 one.1.0 one.1.1.0 one.1.1.1 in
    step one.0 one.1.0 one.1.1.0 one.1.1.1.1 place.0 place.1 place.2
  where
    item : (qs : List Path) (k : ℕ) (t : PlainTagged) → IsAt (all_tagged n (paths_from (map plain_path qs))) k t →
        (x : Path) × (x ≡ get_or qs k x) × (k < length qs)
    item [] k t at = absurd at
    item (p ∷ qs) zero t at = (p, refl, omega arith)
    item (p ∷ qs) (suc k) t at = let h = item qs k t at in (h.0, h.1, omega (arith, h.2))

    step : (k : ℕ) (t : PlainTagged) → IsAt (all_tagged n (paths_from (map plain_path ps))) k t → IsPathBelow t.path q →
        (j : ℕ) → j < length ks → get_or ks j k ≡ k → ⊥
    step k t at low j within is =
        let x = item ps k t at in
        let same = get_or_default ks j 0 k within ∙ is in
        none j x.0 within (omega (arith, same, x.2)) (x.1 ∙ ap (λ i. get_or ps i x.0) (sym same)) (rw (sym (at-item n ps k t at x.0 x.1)) at low)

-- the path at the place isn't below
pub none-here : (members : List Path) (places : List ℕ) (q : PlainPath) (i : ℕ) (y : Path) →
    get_or places i 0 < length members → y ≡ get_or members (get_or places i 0) y → (IsPathBelow (plain_path y) q → ⊥) →
    (x : Path) → x ≡ get_or members (get_or places i 0) x → IsPathBelow (plain_path x) q → ⊥
none-here members places q i y within is apart x at low =
    apart (rw (ap plain_path (at ∙ (get_or_default members (get_or places i 0) x y within ∙ sym is))) at low)

-- none at the places up to one, and not the one there
pub none-more : (members : List Path) (places : List ℕ) (q : PlainPath) (i : ℕ) →
    ((j : ℕ) (x : Path) → j < i → get_or places j 0 < length members → x ≡ get_or members (get_or places j 0) x → IsPathBelow (plain_path x) q → ⊥) →
    ((x : Path) → get_or places i 0 < length members → x ≡ get_or members (get_or places i 0) x → IsPathBelow (plain_path x) q → ⊥) →
    (j : ℕ) (x : Path) → j < i + 1 → get_or places j 0 < length members → x ≡ get_or members (get_or places j 0) x → IsPathBelow (plain_path x) q → ⊥
none-more members places q i before now j x less few is low = step (ltb j i) refl
  where
    step : (b : Bool) → ltb j i ≡ b → ⊥
    step true e = before j x (ltb-true j i e) few is low
    step false e =
        let same : j ≡ i = omega (arith, ltb-false j i e) in
        now x (rw same at few) (rw same at is) low
