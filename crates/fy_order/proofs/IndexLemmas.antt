-- What lists of places have, and what covers them.
use Rattle.std.proofs.Common.{Vec, Global, ℕ, zero, suc, ◌+◌, ◌<◌, ◌≤◌, ◌≡◌, ◌⊎◌, ◌↔◌, inl, inr, Bool, true, false, eqb, if◌then◌else◌, List, [], ◌∷◌, ◌++◌, length, get_or, set, All, Contains, refl, sym, ap, ◌∙◌, subst, arith, below_more}
use Rattle.std.proofs.lemmas.Bool.{eqb-true, eqb-false}
use Rattle.std.proofs.lemmas.Cmp.{tied_itself, nat_cmp_total}
use Rattle.std.proofs.lemmas.List.{get_or_default, get_or-set_other, get_or-set_same, length-set}
use Rattle.std.proofs.lemmas.List.Elements.{All-head, All-nil, All-tail, Contains-append_left, Contains-push, Contains-push_cases}
use Rattle.std.specs.Ordering.{is_eq, nat_cmp}
use Rattle.fy_order.specs.Levels.{AreWithin, IsNotedToo, IsOwnedToo, Signs, list_at, places_at}

pub list-found : (vs : List (Vec ℕ Global)) (k : ℕ) (v : Vec ℕ Global) → k < length vs → v ≡ get_or vs k v → v.items ≡ list_at vs k
list-found [] k v within is = absurd (omega arith)
list-found (w ∷ vs) zero v within is = ap (λ (x : Vec ℕ Global). x.items) is
list-found (w ∷ vs) (suc k) v within is = list-found vs k v (omega arith) is

pub list-none : (vs : List (Vec ℕ Global)) (k : ℕ) → length vs ≤ k → [] ≡ list_at vs k
list-none [] k past = refl
list-none (w ∷ vs) zero past = absurd (omega arith)
list-none (w ∷ vs) (suc k) past = list-none vs k (omega arith)

-- what holds of the element at each index holds of what is contained
pub each-contained : (P : ℕ → Type 0) (list : List ℕ) → ((j : ℕ) → j < length list → P (get_or list j 0)) → (k : ℕ) → Contains list k → P k
each-contained P list each k has = subst P (get_or_default list has.0 0 k has.1 ∙ has.2) (each has.0 has.1)

-- a list that is longer by one place
pub owned-too : (vs : List (Vec ℕ Global)) (i : ℕ) (v w : Vec ℕ Global) (place : ℕ) → i < length vs → v ≡ get_or vs i v → w.items ≡ v.items ++ (place ∷ []) →
    IsOwnedToo vs (set vs i w) i place
owned-too vs i v w place within is more = record { long = length-set vs i w; kept = kept vs i within is; owned = owned vs i within }
  where
    kept : (us : List (Vec ℕ Global)) (n : ℕ) → n < length us → v ≡ get_or us n v → (j k : ℕ) → Contains (list_at us j) k → Contains (list_at (set us n w) j) k
    kept [] n few at j k has = has
    kept (u ∷ us) zero few at zero k has =
        subst (λ xs. Contains xs k) (sym more)
        (Contains-append_left v.items (place ∷ []) k (subst (λ (x : Vec ℕ Global). Contains x.items k) (sym at) has))
    kept (u ∷ us) zero few at (suc j) k has = has
    kept (u ∷ us) (suc n) few at zero k has = has
    kept (u ∷ us) (suc n) few at (suc j) k has = kept us n (omega arith) at j k has

    owned : (us : List (Vec ℕ Global)) (n : ℕ) → n < length us → Contains (list_at (set us n w) n) place
    owned [] n few = absurd (omega arith)
    owned (u ∷ us) zero few = subst (λ xs. Contains xs place) (sym more) (Contains-push v.items place)
    owned (u ∷ us) (suc n) few = owned us n (omega arith)

-- each list is within the number
pub list-within : (n : ℕ) (vs : List (Vec ℕ Global)) (k : ℕ) → AreWithin n vs → All (λ j. j < n) (list_at vs k)
list-within n [] k are = All-nil (λ j. j < n)
list-within n (v ∷ vs) zero are = All-head (λ (x : Vec ℕ Global). All (λ j. j < n) x.items) v vs are
list-within n (v ∷ vs) (suc k) are = list-within n vs k (All-tail (λ (x : Vec ℕ Global). All (λ j. j < n) x.items) v vs are)

-- one more flag is set, for one more place
pub flagged-more : (flags : List Bool) (places after : List ℕ) (place : ℕ) → place < length flags → after ≡ places ++ (place ∷ []) →
    ((k : ℕ) → k < length flags → (get_or flags k false ≡ true) ↔ Contains places k) →
    (k : ℕ) → k < length (set flags place true) → (get_or (set flags place true) k false ≡ true) ↔ Contains after k
flagged-more flags places after place within more flagged k few = step (eqb k place) refl
  where
    step : (b : Bool) → eqb k place ≡ b → (get_or (set flags place true) k false ≡ true) ↔ Contains after k
    step true e =
        let same : place ≡ k = sym (eqb-true k place e) in (
          (λ is. subst (λ xs. Contains xs k) (sym more) (subst (Contains (places ++ (place ∷ []))) same (Contains-push places place))),
          (λ has. subst (λ n. get_or (set flags place true) n false ≡ true) same (get_or-set_same flags place true false within)),
        )
    step false e =
        let other = get_or-set_other flags place k true false (eqb-false k place e) in
        let old = flagged k (omega (arith, few, length-set flags place true)) in (
          (λ is. subst (λ xs. Contains xs k) (sym more) (Contains-append_left places (place ∷ []) k (old.0 (sym other ∙ is)))),
          (λ has. elim (Contains-push_cases places place k (subst (λ xs. Contains xs k) more has)) [
            | inl h ↦ other ∙ old.1 h
            | inr same ↦ absurd (eqb-false k place e (sym same))
          ]),
        )

-- What is found by signs, or by what stands in the domains, of the first paths of a level.

pub has-noted : (m n : Signs) (s k : ℕ) → IsNotedToo m n s k → Contains (places_at n s) k
has-noted m n s k too =
    let e : is_eq (nat_cmp s s) ≡ true = ap is_eq (tied_itself nat_cmp_total s) in
    let is : places_at n s ≡ places_at m s ++ (k ∷ []) = too s ∙ ap (λ (b : Bool). places_at m s ++ (if b then k ∷ [] else [])) e in
    subst (λ xs. Contains xs k) (sym is) (Contains-push (places_at m s) k)

pub still-noted : (m n : Signs) (s k : ℕ) → IsNotedToo m n s k → (q j : ℕ) → Contains (places_at m q) j → Contains (places_at n q) j
still-noted m n s k too q j has =
    subst (λ xs. Contains xs j) (sym (too q))
    (Contains-append_left (places_at m q) (if is_eq (nat_cmp s q) then k ∷ [] else []) j has)

-- the path at the place is found by its sign, or by one that stands in its domains
abbrev pub IsFound : List ℕ → List (Vec ℕ Global) → List (Vec ℕ Global) → Signs → ℕ → Type 0
IsFound signs inner owners places k =
    Contains (places_at places (get_or signs k 0)) k ⊎ ((j : ℕ) × Contains (list_at inner k) j × Contains (list_at owners j) k)

pub found-owned : (signs : List ℕ) (inner before after : List (Vec ℕ Global)) (m : Signs) (n chosen : ℕ) → ((k : ℕ) → k < n → IsFound signs inner before m k) →
    Contains (list_at inner n) chosen → IsOwnedToo before after chosen n → (k : ℕ) → k < n + 1 → IsFound signs inner after m k
found-owned signs inner before after m n chosen found has too = below_more (IsFound signs inner after m) n
    (λ k less. elim (found k less) [ inl noted ↦ inl noted | inr old ↦ inr (old.0, old.1, too.kept old.0 k old.2) ])
    (inr (chosen, has, too.owned))

pub found-noted : (signs : List ℕ) (inner owners : List (Vec ℕ Global)) (before after : Signs) (n : ℕ) → ((k : ℕ) → k < n → IsFound signs inner owners before k) →
    IsNotedToo before after (get_or signs n 0) n → (k : ℕ) → k < n + 1 → IsFound signs inner owners after k
found-noted signs inner owners before after n found too = below_more (IsFound signs inner owners after) n
    (λ k less. elim (found k less) [ inl noted ↦ inl (still-noted before after (get_or signs n 0) n too (get_or signs k 0) k noted) | inr old ↦ inr old ])
    (inl (has-noted before after (get_or signs n 0) n too))
