-- One turn of each loop over a list.
use Rattle.std.proofs.Common.{ℕ, ◌+◌, ◌<◌, ◌≡◌, ◌⊎◌, inl, inr, Option, Some, None, MatchOption, List, [], ◌∷◌, ◌++◌, length, get_or, map, take, drop, eqb, refl, sym, ap, ◌∙◌, subst}
use Rattle.std.specs.List.{Contains}
use Rattle.std.proofs.lemmas.List.{map_push, take_more, take-append-drop, map-append}
use Rattle.std.proofs.lemmas.List.Elements.{Contains-append_left, Contains-get_or, Contains-push, Contains-push_cases}
use Rattle.indexmap.specs.IndexSet.{insert_key}
use Rattle.fy_phrase.specs.declared.shapes.ShapeElem.{ShapeElem}
use Rattle.fy_types.specs.Types.{PlainType, meet}
use Rattle.fy_types.specs.Reading.{types_from}
use Rattle.fy_derive.specs.Shapes.{PlainShape}
use Rattle.fy_derive.proofs.CoverLemmas.{insert-keeps, insert-from}
use Rattle.pe_shapes.specs.declared.error.ShapeError.{ShapeError}
use Rattle.pe_shapes.specs.declared.found.Found.{Found}
use Rattle.pe_shapes.specs.declared.numbers.ShapeNumbers.{ShapeNumbers}
use Rattle.pe_shapes.specs.Finding.{Adds, NoPair, PairsOf, OnePair, IsWalkStop}
use Rattle.pe_shapes.specs.Numbering.{in_front}
use Rattle.pe_shapes.specs.Shown.{shown, all_shown, Extends, AreIn}
use Rattle.pe_shapes.specs.Standing.{AreJust}
use Rattle.pe_shapes.proofs.FoundLemmas.{Adds-inside, Adds-step, stop-inside}
use Rattle.pe_shapes.proofs.Members.{Contains-map}
use Rattle.pe_shapes.proofs.NodeTests.{in_front-same}
use Rattle.pe_shapes.proofs.Standings.{AreIn-at, all_shown-push, AreJust-kept, AreJust-added}

shown-more : (t : ShapeNumbers) (set : List ℕ) (i : ℕ) → i < length set →
    all_shown t (take (i + 1) set) ≡ all_shown t (take i set) ++ shown t (get_or set i 0) ∷ []
shown-more t set i h = ap (all_shown t) (take_more set i 0 h) ∙ map_push (shown t) (take i set) (get_or set i 0)

pub fronted-next : (t u v : ShapeNumbers) (x : ShapeElem) (set ks ms : List ℕ) (i one : ℕ) → Extends t u → Extends u v → AreIn t set → AreIn u ks → i < length set →
    all_shown u ks ≡ map (in_front x) (all_shown t (take i set)) → ms ≡ ks ++ one ∷ [] → shown v one ≡ in_front x (shown u (get_or set i 0)) →
    all_shown v ms ≡ map (in_front x) (all_shown t (take (i + 1) set))
fronted-next t u v x set ks ms i one e f h w l so_far is stands =
    let k = get_or set i 0 in
    all_shown-push ks ms one (in_front x (shown u k)) f w is stands
    ∙ (ap (λ S. S ++ in_front x (shown u k) ∷ []) so_far
    ∙ (ap (λ z. map (in_front x) (all_shown t (take i set)) ++ in_front x z ∷ []) (e.same k (AreIn-at i 0 h l))
    ∙ (sym (map_push (in_front x) (all_shown t (take i set)) (shown t k))
    ∙ ap (map (in_front x)) (sym (shown-more t set i l)))))

pub rests-has : (t : ShapeNumbers) (x : ShapeElem) (set ks ms : List ℕ) (i behind : ℕ) → i < length set → ms ≡ ks ++ behind ∷ [] →
    shown t (get_or set i 0) ≡ in_front x (shown t behind) →
    ((s : PlainShape) → Contains (all_shown t (take i set)) (in_front x s) → Contains (all_shown t ks) s) →
    (s : PlainShape) → Contains (all_shown t (take (i + 1) set)) (in_front x s) → Contains (all_shown t ms) s
rests-has t x set ks ms i behind l is e so_far s h =
    let k = get_or set i 0 in
    subst (λ S. Contains S s) (sym (ap (all_shown t) is ∙ map_push (shown t) ks behind))
    (elim (Contains-push_cases (all_shown t (take i set)) (shown t k) (in_front x s) (subst (λ S. Contains S (in_front x s)) (shown-more t set i l) h)) [
      | inl y ↦ Contains-append_left (all_shown t ks) (shown t behind ∷ []) s (so_far s y)
      | inr y ↦ subst (Contains (all_shown t ks ++ shown t behind ∷ [])) (in_front-same x (shown t behind) s (sym e ∙ y)) (Contains-push (all_shown t ks) (shown t behind))
    ])

pub rests-known : (t : ShapeNumbers) (x : ShapeElem) (set ks ms : List ℕ) (i behind : ℕ) → i < length set → ms ≡ ks ++ behind ∷ [] →
    shown t (get_or set i 0) ≡ in_front x (shown t behind) →
    ((s : PlainShape) → Contains (all_shown t ks) s → Contains (all_shown t (take i set)) (in_front x s)) →
    (s : PlainShape) → Contains (all_shown t ms) s → Contains (all_shown t (take (i + 1) set)) (in_front x s)
rests-known t x set ks ms i behind l is e so_far s h =
    let k = get_or set i 0 in
    subst (λ S. Contains S (in_front x s)) (sym (shown-more t set i l))
    (elim (Contains-push_cases (all_shown t ks) (shown t behind) s (subst (λ S. Contains S s) (ap (all_shown t) is ∙ map_push (shown t) ks behind) h)) [
      | inl y ↦ Contains-append_left (all_shown t (take i set)) (shown t k ∷ []) (in_front x s) (so_far s y)
      | inr y ↦ subst (Contains (all_shown t (take i set) ++ shown t k ∷ [])) (e ∙ ap (in_front x) y) (Contains-push (all_shown t (take i set)) (shown t k))
    ])

pub rests-other : (t : ShapeNumbers) (x : ShapeElem) (set ks : List ℕ) (i : ℕ) → i < length set → ((s : PlainShape) → shown t (get_or set i 0) ≡ in_front x s → ⊥) →
    ((s : PlainShape) → Contains (all_shown t (take i set)) (in_front x s) → Contains (all_shown t ks) s) →
    (s : PlainShape) → Contains (all_shown t (take (i + 1) set)) (in_front x s) → Contains (all_shown t ks) s
rests-other t x set ks i l other so_far s h =
    elim (Contains-push_cases (all_shown t (take i set)) (shown t (get_or set i 0)) (in_front x s) (subst (λ S. Contains S (in_front x s)) (shown-more t set i l) h)) [
      | inl y ↦ so_far s y
      | inr y ↦ absurd (other s y)
    ]

pub rests-later : (t : ShapeNumbers) (x : ShapeElem) (set ks : List ℕ) (i : ℕ) → i < length set →
    ((s : PlainShape) → Contains (all_shown t ks) s → Contains (all_shown t (take i set)) (in_front x s)) →
    (s : PlainShape) → Contains (all_shown t ks) s → Contains (all_shown t (take (i + 1) set)) (in_front x s)
rests-later t x set ks i l so_far s h =
    subst (λ S. Contains S (in_front x s)) (sym (shown-more t set i l))
    (Contains-append_left (all_shown t (take i set)) (shown t (get_or set i 0) ∷ []) (in_front x s) (so_far s h))

-- one number more of a list is in a set
pub added-known : (old met now list : List ℕ) (i : ℕ) → i < length list → now ≡ insert_key eqb met (get_or list i 0) →
    ((k : ℕ) → Contains met k → Contains old k ⊎ Contains (take i list) k) → (k : ℕ) → Contains now k → Contains old k ⊎ Contains (take (i + 1) list) k
added-known old met now list i l is so_far k h =
    let n = get_or list i 0 in
    elim (insert-from met n k (subst (λ ks. Contains ks k) is h)) [
      | inl y ↦ elim (so_far k y) [
        | inl z ↦ inl z
        | inr z ↦ inr (subst (λ ks. Contains ks k) (sym (take_more list i 0 l)) (Contains-append_left (take i list) (n ∷ []) k z))
      ]
      | inr y ↦ inr (subst (λ ks. Contains ks k) (sym (take_more list i 0 l)) (subst (Contains (take i list ++ n ∷ [])) y (Contains-push (take i list) n)))
    ]

pub added-kept : (met now : List ℕ) (n k : ℕ) → now ≡ insert_key eqb met n → Contains met k → Contains now k
added-kept met now n k is h = subst (λ ks. Contains ks k) (sym is) (insert-keeps met n k h)

-- the shapes of one type more
pub types-next : {X : Type 0} (f : X → PlainType) (t u : ShapeNumbers) (ms ks now : List ℕ) (items : List X) (i : ℕ) (d : X) → i < length items → Extends t u → AreIn t ms →
    AreJust (all_shown t ms) (meet (types_from (map f (take i items)))) → AreJust (all_shown u ks) (f (get_or items i d)) →
    ((k : ℕ) → Contains ms k → Contains now k) → ((k : ℕ) → Contains ks k → Contains now k) → ((k : ℕ) → Contains now k → Contains ms k ⊎ Contains ks k) →
    AreJust (all_shown u now) (meet (types_from (map f (take (i + 1) items))))
types-next f t u ms ks now items i d l e h j k left right from =
    subst (λ As. AreJust (all_shown u now) (meet (types_from As)))
    (sym (map_push f (take i items) (get_or items i d)) ∙ ap (map f) (sym (take_more items i d l)))
    (AreJust-added u ms ks now (map f (take i items)) (f (get_or items i d)) (AreJust-kept ms e h j) k left right from)

-- one shape more of a node is recorded
pub recorded-next : (a b c : Found) (node : ℕ) (S : List PlainShape) (s : PlainShape) → Adds a b (PairsOf node S) NoPair → Adds b c (OnePair node s) NoPair →
    Adds a c (PairsOf node (S ++ s ∷ [])) NoPair
recorded-next a b c node S s h g =
    Adds-step (Adds-inside (PairsOf node (S ++ s ∷ [])) (OnePair node s) h
    (λ k t x. (x.0, Contains-append_left S (s ∷ []) t x.1))
    (λ k t x. elim (Contains-push_cases S s t x.1) [ inl y ↦ inl (x.0, y) | inr y ↦ inr (x.0, y) ])) g
    (λ k t x. (x.0, subst (Contains (S ++ s ∷ [])) x.1 (Contains-push S s)))
    (λ k t x. inl x)

pub recorded-shown : (a b c : Found) (t : ShapeNumbers) (node : ℕ) (set : List ℕ) (i : ℕ) (s : PlainShape) → i < length set → s ≡ shown t (get_or set i 0) →
    Adds a b (PairsOf node (all_shown t (take i set))) NoPair → Adds b c (OnePair node s) NoPair → Adds a c (PairsOf node (all_shown t (take (i + 1) set))) NoPair
recorded-shown a b c t node set i s l is h g =
    subst (λ S. Adds a c (PairsOf node S) NoPair) (ap (λ x. all_shown t (take i set) ++ x ∷ []) is ∙ sym (shown-more t set i l))
    (recorded-next a b c node (all_shown t (take i set)) s h g)

pub recorded-stop : (a b : Found) (t : ShapeNumbers) (node : ℕ) (set : List ℕ) (i : ℕ) (s : PlainShape) (e : ShapeError) → i < length set → s ≡ shown t (get_or set i 0) →
    Adds a b (PairsOf node (all_shown t (take i set))) NoPair → IsWalkStop e b (OnePair node s) → IsWalkStop e a (PairsOf node (all_shown t set))
recorded-stop a b t node set i s e l is h x =
    stop-inside e (Adds-inside (PairsOf node (all_shown t set)) (PairsOf node (all_shown t set)) h (λ k r y. (y.0, before r y.1)) (λ k r y. inr y))
    (λ k r y. (y.0, subst (Contains (all_shown t set)) (sym is ∙ y.1) here)) x
  where
    whole : all_shown t (take i set) ++ all_shown t (drop i set) ≡ all_shown t set
    whole = sym (map-append (shown t) (take i set) (drop i set)) ∙ ap (all_shown t) (take-append-drop i set)

    before : (r : PlainShape) → Contains (all_shown t (take i set)) r → Contains (all_shown t set) r
    before r y = subst (λ S. Contains S r) whole (Contains-append_left (all_shown t (take i set)) (all_shown t (drop i set)) r y)

    here : Contains (all_shown t set) (shown t (get_or set i 0))
    here = Contains-map (shown t) set (get_or set i 0) (Contains-get_or set i 0 l)

-- what is said where there is no value
pub not_begun : {X : Type 0} (P : Type 0) (Q : X → Type 0) (o : Option X) → ((x : X) → o ≡ Some x → ⊥) → MatchOption o P Q → P
not_begun P Q None f h = h
not_begun P Q (Some x) f h = absurd (f x refl)
