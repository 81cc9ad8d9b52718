-- Only paths of one key are below one another, so that looking among those of the key is enough.
use Rattle.std.proofs.Common.{ℕ, ◌+◌, ◌<◌, ◌≤◌, ◌%◌, ◌≡◌, ◌↔◌, ◌⊎◌, inl, inr, Bool, true, false, cond, eqb, List, [], ◌∷◌, length, get_or, set, map, filter, refl, sym, ap, ◌∙◌, subst, arith, zero, suc, max, ◌++◌, Vec, Global, Contains, if◌then◌else◌, append-nil, ◌||◌, eq-eqb}
use Rattle.std.proofs.lemmas.Bool.{eqb-true, eqb-false}
use Rattle.std.proofs.lemmas.List.{length-set, map-append}
use Rattle.std.proofs.lemmas.List.Elements.{filter-append, Contains-append_left, Contains-push}
use Rattle.std.proofs.lemmas.Map.Lookups.{exact_unsigned}
use Rattle.std.proofs.lemmas.Nat.{mod_below}
use Rattle.std.specs.Borrow.{Bor}
use Rattle.std.specs.Ordering.{is_eq, nat_cmp}
use Rattle.std.specs.declared.cmp.Ordering.{Ordering}
use Rattle.std.specs.declared.cmp.Ordering.TheVariants.{Less, Equal, Greater}
use Rattle.fy_types.specs.declared.types.Atom.{Atom}
use Rattle.fy_types.specs.declared.paths.Path as tree
use Rattle.fy_types.specs.declared.paths.Path.{Path, size-Path}
use Rattle.fy_types.specs.declared.paths.Paths.{Paths, size-Paths}
use Rattle.fy_types.specs.Once.{is_same, contains}
use Rattle.fy_types.specs.Paths.{PlainPath, PlainPaths, no_paths, and_path, append}
use Rattle.fy_types.specs.PathOrder.{IsEndBelow, same_end, compl_below, IsPathBelow, ends, calls, picks, HasBelow, here, there}
use Rattle.fy_types.specs.Reading.{PlainElem, a_call, a_field, front, plain_path, paths_from, paths_in}
use Rattle.fy_types.proofs.OnceLemmas.{is_same-sound, is_same-refl}
use Rattle.fy_types.proofs.Sizes.{count}
use Rattle.fy_forms.specs.declared.index.Groups.{Groups}
use Rattle.fy_forms.specs.declared.kept.Places.{Places}
use Rattle.fy_forms.specs.Numbers.{mixed, mark, class, key_from, key_of, number_of, path_number, elem_number}
use Rattle.fy_forms.specs.Keys.{AreGrouped, IsGrown, IsIndex, IsNoted, IsSeen, StandsAt, deepest, group_at, has_slot, lent, list_at, slot_at}

-- the key of a path from its first element on
pub key-front : (n : ℕ) (x : PlainElem) (p : PlainPath) → key_from n (front x p) ≡ key_from (mixed n (mark x)) p
key-front n (a_call D) p = refl
key-front n (a_field i) p = refl

-- ends that are below one another are of one class
pub class-below : {a b : Atom} → IsEndBelow a b → class a ≡ class b
class-below same_end = refl
class-below compl_below = refl

key_from-below : (n : ℕ) {p q : PlainPath} → IsPathBelow p q → key_from n p ≡ key_from n q
key_from-below n (ends low) = ap (mixed n) (class-below low)
key_from-below n (calls wide low) = key_from-below (mixed n 0) low
key_from-below n (picks {i = i} low) = key_from-below (mixed n (i + 1)) low

pub key-below : {p q : PlainPath} → IsPathBelow p q → key_of p ≡ key_of q
key-below low = key_from-below 0 low

-- the number of a path from its first element on
pub number-front : (n : ℕ) (x : PlainElem) (p : PlainPath) → path_number n (front x p) ≡ path_number (elem_number n x) p
number-front n (a_call D) p = refl
number-front n (a_field i) p = refl

-- a path below another has its slot
pub key-hit : (n : ℕ) (p : Path) (q : PlainPath) → IsPathBelow (plain_path p) q → has_slot n (key_of q) p ≡ true
key-hit n p q low = eq-eqb (key_of (plain_path p) % n) (key_of q % n) (ap (λ k. k % n) (key-below low))

step-forth : (b : Bool) (p : Path) (F : List Path) {P : PlainPaths} {q : PlainPath} → (HasBelow (paths_from (map plain_path F)) q → HasBelow P q) →
    HasBelow (paths_from (map plain_path (cond b (p ∷ F) F))) q → HasBelow (and_path (plain_path p) P) q
step-forth true p F more (here low) = here low
step-forth true p F more (there some) = there (more some)
step-forth false p F more some = there (more some)

step-back : (b : Bool) (p : Path) (F : List Path) {P : PlainPaths} {q : PlainPath} → (IsPathBelow (plain_path p) q → b ≡ true) →
    (HasBelow P q → HasBelow (paths_from (map plain_path F)) q) →
    HasBelow (and_path (plain_path p) P) q → HasBelow (paths_from (map plain_path (cond b (p ∷ F) F))) q
step-back true p F hit more (here low) = here low
step-back true p F hit more (there some) = there (more some)
step-back false p F hit more (here low) = let e = hit low in cc
step-back false p F hit more (there some) = more some

forth : (n : ℕ) (q : PlainPath) (ps : List Path) →
    HasBelow (paths_from (map plain_path (filter (has_slot n (key_of q)) ps))) q → HasBelow (paths_from (map plain_path ps)) q
forth n q [] some = some
forth n q (p ∷ ps) some = step-forth (has_slot n (key_of q) p) p (filter (has_slot n (key_of q)) ps) (forth n q ps) some

back : (n : ℕ) (q : PlainPath) (ps : List Path) →
    HasBelow (paths_from (map plain_path ps)) q → HasBelow (paths_from (map plain_path (filter (has_slot n (key_of q)) ps))) q
back n q [] some = some
back n q (p ∷ ps) some = step-back (has_slot n (key_of q) p) p (filter (has_slot n (key_of q)) ps) (key-hit n p q) (back n q ps) some

-- some path of the list is below the path where some path of its slot is
pub some-of_slot : (n : ℕ) (q : PlainPath) (ps : List Path) →
    HasBelow (paths_from (map plain_path (filter (has_slot n (key_of q)) ps))) q ↔ HasBelow (paths_from (map plain_path ps)) q
some-of_slot n q ps = (forth n q ps, back n q ps)

pub lent-now : (bs : List (Bor Path)) → lent bs ≡ paths_from (map plain_path (map (λ p. p.now) bs))
lent-now [] = refl
lent-now (b ∷ bs) = ap (and_path (plain_path b.now)) (lent-now bs)

pub deepest-item : (xs : List (Bor Path)) (i : ℕ) (x : Bor Path) → i < length xs → x ≡ get_or xs i x → size-Path x.now ≤ deepest xs
deepest-item [] i x within is = absurd (omega arith)
deepest-item (y ∷ xs) zero x within is = rw is (omega arith)
deepest-item (y ∷ xs) (suc i) x within is = omega (arith, deepest-item xs i x (omega arith) is)

-- the greatest depth among the paths
abbrev pub depth_of : List Path → ℕ
depth_of [] = 0
depth_of (p ∷ ps) = max (size-Path p) (depth_of ps)

deepest-now : (bs : List (Bor Path)) → deepest bs ≡ depth_of (map (λ p. p.now) bs)
deepest-now [] = refl
deepest-now (b ∷ bs) = ap (max (size-Path b.now)) (deepest-now bs)

depth-cond : (b : Bool) (p : Path) (F ps : List Path) → depth_of F ≤ depth_of ps → depth_of (cond b (p ∷ F) F) ≤ max (size-Path p) (depth_of ps)
depth-cond true p F ps less = omega arith
depth-cond false p F ps less = omega arith

depth-filter : (t : Path → Bool) (ps : List Path) → depth_of (filter t ps) ≤ depth_of ps
depth-filter t [] = omega arith
depth-filter t (p ∷ ps) = depth-cond (t p) p (filter t ps) ps (depth-filter t ps)

-- those of a key are no deeper than all
pub deepest-filter : (t : Path → Bool) (bs : List (Bor Path)) (ps : List Path) → map (λ p. p.now) bs ≡ filter t ps → deepest bs ≤ depth_of ps
deepest-filter t bs ps is = omega (arith, deepest-now bs, ap depth_of is, depth-filter t ps)

depth-below : (n : ℕ) (ps : List Path) → ((i : ℕ) (x : Path) → i < length ps → x ≡ get_or ps i x → size-Path x < n) → 0 < n → depth_of ps < n
depth-below n [] each some = some
depth-below n (p ∷ ps) each some =
    omega (arith, each 0 p (omega arith) refl, depth-below n ps (λ i x within is. each (suc i) x (omega arith) is) some)

pub item-size : (l : Paths) (i : ℕ) (x : Path) → i < length (paths_in l) → x ≡ get_or (paths_in l) i x → size-Path x < size-Paths l
item-size l i x within is = search (arith, tree.the_lemmas)

size-some : (l : Paths) → 0 < size-Paths l
size-some l = search (arith, tree.the_lemmas)

-- the members of a list are less deep than it
pub depth-list : (l : Paths) → depth_of (paths_in l) < size-Paths l
depth-list l = depth-below (size-Paths l) (paths_in l) (item-size l) (size-some l)

pub is_equal : (r : Ordering) → is_eq r ≡ true → r ≡ Equal
is_equal Less e = cc
is_equal Equal e = refl
is_equal Greater e = cc

pub group-alike : (m : Groups) (a b : ℕ) → nat_cmp a b ≡ Equal → group_at m a ≡ group_at m b
group-alike m a b same = ap (group_at m) (exact_unsigned a b same)

-- Lists in slots.

pub list-found : {X : Type 0} (vs : List (Vec X Global)) (k : ℕ) (v : Vec X Global) → k < length vs → v ≡ get_or vs k v → v.items ≡ list_at vs k
list-found [] k v within is = absurd (omega arith)
list-found (w ∷ vs) zero v within is = ap (λ x. x.items) is
list-found (w ∷ vs) (suc k) v within is = list-found vs k v (omega arith) is

list-set_same : {X : Type 0} (vs : List (Vec X Global)) (i : ℕ) (w : Vec X Global) → i < length vs → list_at (set vs i w) i ≡ w.items
list-set_same [] i w within = absurd (omega arith)
list-set_same (v ∷ vs) zero w within = refl
list-set_same (v ∷ vs) (suc i) w within = list-set_same vs i w (omega arith)

list-set_other : {X : Type 0} (vs : List (Vec X Global)) (i j : ℕ) (w : Vec X Global) → (i ≡ j → ⊥) → list_at (set vs i w) j ≡ list_at vs j
list-set_other [] i j w apart = refl
list-set_other (v ∷ vs) zero zero w apart = absurd (apart refl)
list-set_other (v ∷ vs) zero (suc j) w apart = refl
list-set_other (v ∷ vs) (suc i) zero w apart = refl
list-set_other (v ∷ vs) (suc i) (suc j) w apart = list-set_other vs i j w (λ e. apart (ap suc e))

-- a list that is empty at each place, and one more such list
pub empty-push : {X : Type 0} (vs : List (Vec X Global)) (v : Vec X Global) → ((k : ℕ) → list_at vs k ≡ []) → v.items ≡ [] →
    (k : ℕ) → list_at (vs ++ (v ∷ [])) k ≡ []
empty-push [] v each none zero = none
empty-push [] v each none (suc k) = refl
empty-push (w ∷ vs) v each none zero = each 0
empty-push (w ∷ vs) v each none (suc k) = empty-push vs v (λ j. each (suc j)) none k

pub grouped-none : (lists : List (Vec (Bor Path) Global)) → ((k : ℕ) → list_at lists k ≡ []) → AreGrouped lists []
grouped-none lists each k = ap (map (λ (p : Bor Path). p.now)) (each (k % length lists))

-- what stands at the slots where one list is longer by one item
slot-set_same : {X : Type 0} (vs : List (Vec X Global)) (m k : ℕ) (v w : Vec X Global) (x : X) → 0 < length vs → v ≡ get_or vs (m % length vs) v →
    w.items ≡ v.items ++ (x ∷ []) → m % length vs ≡ k % length vs → slot_at (set vs (m % length vs) w) k ≡ slot_at vs k ++ (x ∷ [])
slot-set_same vs m k v w x some at more same =
    ap (λ n. list_at (set vs (m % length vs) w) (k % n)) (length-set vs (m % length vs) w)
    ∙ (ap (list_at (set vs (m % length vs) w)) (sym same)
    ∙ (list-set_same vs (m % length vs) w (mod_below m (length vs) some)
    ∙ (more ∙ ap (λ xs. xs ++ (x ∷ []))
    (list-found vs (m % length vs) v (mod_below m (length vs) some) at ∙ ap (list_at vs) same))))

slot-set_other : {X : Type 0} (vs : List (Vec X Global)) (m k : ℕ) (w : Vec X Global) → (m % length vs ≡ k % length vs → ⊥) →
    slot_at (set vs (m % length vs) w) k ≡ slot_at vs k
slot-set_other vs m k w apart =
    ap (λ n. list_at (set vs (m % length vs) w) (k % n)) (length-set vs (m % length vs) w)
    ∙ list-set_other vs (m % length vs) (k % length vs) w apart

-- lists that have one more path at its slot
pub grown-slot : (vs : List (Vec (Bor Path) Global)) (key : ℕ) (p : Bor Path) (v w : Vec (Bor Path) Global) → 0 < length vs →
    key ≡ key_of (plain_path p.now) → v ≡ get_or vs (key % length vs) v → w.items ≡ v.items ++ (p ∷ []) → IsGrown vs (set vs (key % length vs) w) p
grown-slot vs key p v w some is at more =
    record { long = length-set vs (key % length vs) w; grown = λ k. step k (eqb (key % length vs) (k % length vs)) refl }
  where
    step : (k : ℕ) (b : Bool) → eqb (key % length vs) (k % length vs) ≡ b →
        slot_at (set vs (key % length vs) w) k ≡ slot_at vs k ++ (if has_slot (length vs) k p.now then p ∷ [] else [])
    step k true e =
        slot-set_same vs key k v w p some at more (eqb-true (key % length vs) (k % length vs) e)
        ∙ ap (λ b. slot_at vs k ++ (if b then p ∷ [] else [])) (sym (ap (λ x. eqb (x % length vs) (k % length vs)) (sym is) ∙ e))
    step k false e =
        slot-set_other vs key k w (eqb-false (key % length vs) (k % length vs) e)
        ∙ (sym (append-nil (slot_at vs k))
        ∙ ap (λ b. slot_at vs k ++ (if b then p ∷ [] else [])) (sym (ap (λ x. eqb (x % length vs) (k % length vs)) (sym is) ∙ e)))

one-now : (b : Bool) (p : Bor Path) → map (λ (x : Bor Path). x.now) (if b then p ∷ [] else []) ≡ cond b (p.now ∷ []) []
one-now true p = refl
one-now false p = refl

-- the groups of a list and one more
pub grown-groups : (vs ws : List (Vec (Bor Path) Global)) (ps : List Path) (p : Bor Path) → AreGrouped vs ps → IsGrown vs ws p → AreGrouped ws (ps ++ (p.now ∷ []))
grown-groups vs ws ps p index more k =
    ap (map (λ (x : Bor Path). x.now)) (more.grown k)
    ∙ (map-append (λ (x : Bor Path). x.now) (slot_at vs k) (if has_slot (length vs) k p.now then p ∷ [] else [])
    ∙ (ap (λ xs. xs ++ map (λ (x : Bor Path). x.now) (if has_slot (length vs) k p.now then p ∷ [] else [])) (index k)
    ∙ (ap (λ ys. filter (has_slot (length vs) k) ps ++ ys) (one-now (has_slot (length vs) k p.now) p)
    ∙ (sym (filter-append (has_slot (length vs) k) ps (p.now ∷ []))
    ∙ ap (λ n. filter (has_slot n k) (ps ++ (p.now ∷ []))) (sym more.long)))))

-- looking among the candidates is enough
pub some-by_index : (m : Groups) (P : PlainPaths) (ps : List Path) (key : ℕ) (list : List (Bor Path)) (q : PlainPath) →
    IsIndex m ps → key ≡ key_of q → list ≡ group_at m key → P ≡ paths_from (map plain_path ps) → HasBelow (lent list) q ↔ HasBelow P q
some-by_index m P ps key list q index is at form =
    let here : lent list ≡ paths_from (map plain_path (filter (has_slot (length m.lists.items) (key_of q)) ps)) =
    lent-now list ∙ (ap (λ xs. paths_from (map plain_path (map (λ (x : Bor Path). x.now) xs))) at
    ∙ (ap (λ xs. paths_from (map plain_path xs)) (index key) ∙ ap (λ k. paths_from (map plain_path (filter (has_slot (length m.lists.items) k) ps))) is)) in
    rw (here, form) (some-of_slot (length m.lists.items) q ps)

-- the candidates are less deep than the list
pub candidates-depth : (m : Groups) (l : Paths) (ps : List Path) (key : ℕ) (list : List (Bor Path)) →
    IsIndex m ps → list ≡ group_at m key → ps ≡ paths_in l → deepest list < size-Paths l
candidates-depth m l ps key list index at is =
    omega (arith, deepest-filter (has_slot (length m.lists.items) key) list ps (ap (map (λ (x : Bor Path). x.now)) at ∙ index key), ap depth_of is, depth-list l)

pub lent-append : (xs ys : List (Bor Path)) → lent (xs ++ ys) ≡ append (lent xs) (lent ys)
lent-append [] ys = refl
lent-append (x ∷ xs) ys = ap (and_path (plain_path x.now)) (lent-append xs ys)

-- Where kept paths stand.

-- a path that stands in the list is in it, and a path in it stands there
pub contains-stands : (P : PlainPaths) (k : ℕ) (p : PlainPath) → StandsAt P k p → contains P p ≡ true
contains-stands no_paths k p at = absurd at
contains-stands (and_path q P) zero p at = ap (λ b. b || contains P p) (subst (λ x. is_same q x ≡ true) at (is_same-refl q))
contains-stands (and_path q P) (suc k) p at = step (is_same q p) (contains-stands P k p at)
  where
    step : (b : Bool) → contains P p ≡ true → (b || contains P p) ≡ true
    step true e = refl
    step false e = e

stands-left : (P R : PlainPaths) (k : ℕ) (p : PlainPath) → StandsAt P k p → StandsAt (append P R) k p
stands-left no_paths R k p at = absurd at
stands-left (and_path q P) R zero p at = at
stands-left (and_path q P) R (suc k) p at = stands-left P R k p at

stands-last : (P : PlainPaths) (p : PlainPath) → StandsAt (append P (and_path p no_paths)) (count P) p
stands-last no_paths p = refl
stands-last (and_path q P) p =
    let next : suc (count P) ≡ count P + 1 = omega arith in
    subst (λ k. StandsAt (and_path q (append P (and_path p no_paths))) k p) next (stands-last P p)

contains-push : (P : PlainPaths) (p q : PlainPath) → contains (append P (and_path p no_paths)) q ≡ true → (contains P q ≡ true) ⊎ (p ≡ q)
contains-push no_paths p q e = step (is_same p q) refl e
  where
    step : (b : Bool) → is_same p q ≡ b → (b || false) ≡ true → (false ≡ true) ⊎ (p ≡ q)
    step true same e = inr (is_same-sound p q same)
    step false same e = absurd (cc)
contains-push (and_path r P) p q e = step (is_same r q) (contains-push P p q) e
  where
    step : (b : Bool) → (contains (append P (and_path p no_paths)) q ≡ true → (contains P q ≡ true) ⊎ (p ≡ q)) →
        (b || contains (append P (and_path p no_paths)) q) ≡ true → ((b || contains P q) ≡ true) ⊎ (p ≡ q)
    step true more e = inl refl
    step false more e = more e

-- a member of the list stands at its place
pub stands-member : (xs : List Path) (i : ℕ) (x : Path) → i < length xs → x ≡ get_or xs i x → StandsAt (paths_from (map plain_path xs)) i (plain_path x)
stands-member [] i x within at = absurd (omega arith)
stands-member (y ∷ xs) zero x within at = ap plain_path (sym at)
stands-member (y ∷ xs) (suc i) x within at = stands-member xs i x (omega arith) at

-- at one place stands one path, and past the list none
pub stands-once : (P : PlainPaths) (k : ℕ) (p q : PlainPath) → StandsAt P k p → StandsAt P k q → p ≡ q
stands-once no_paths k p q one two = absurd one
stands-once (and_path r P) zero p q one two = sym one ∙ two
stands-once (and_path r P) (suc k) p q one two = stands-once P k p q one two

pub stands-within : (xs : List Path) (k : ℕ) (p : PlainPath) → StandsAt (paths_from (map plain_path xs)) k p → k < length xs
stands-within [] k p at = absurd at
stands-within (x ∷ xs) zero p at = omega arith
stands-within (x ∷ xs) (suc k) p at = omega (arith, stands-within xs k p at)

-- lists that have one more place at the number's slot
pub noted-slot : (vs : List (Vec ℕ Global)) (number place : ℕ) (v w : Vec ℕ Global) → 0 < length vs → v ≡ get_or vs (number % length vs) v →
    w.items ≡ v.items ++ (place ∷ []) → IsNoted vs (set vs (number % length vs) w) number place
noted-slot vs number place v w some at more = record {
  long = length-set vs (number % length vs) w;
  kept = λ n k has. kept n k (eqb (number % length vs) (n % length vs)) refl has;
  noted = subst (λ xs. Contains xs place) (sym (slot-set_same vs number number v w place some at more refl)) (Contains-push (slot_at vs number) place);
}
  where
    kept : (n k : ℕ) (b : Bool) → eqb (number % length vs) (n % length vs) ≡ b → Contains (slot_at vs n) k → Contains (slot_at (set vs (number % length vs) w) n) k
    kept n k true e has =
        subst (λ xs. Contains xs k) (sym (slot-set_same vs number n v w place some at more (eqb-true (number % length vs) (n % length vs) e)))
        (Contains-append_left (slot_at vs n) (place ∷ []) k has)
    kept n k false e has =
        subst (λ xs. Contains xs k) (sym (slot-set_other vs number n w (eqb-false (number % length vs) (n % length vs) e))) has

pub seen-none : (m : Places) → 0 < length m.lists.items → IsSeen m no_paths
seen-none m some = record { some = some; seen = λ p e. absurd (cc) }

-- the places with that of one more path
pub seen-more : (m n : Places) (P : PlainPaths) (p : PlainPath) (number place : ℕ) → number ≡ number_of p → place ≡ count P → IsSeen m P →
    IsNoted m.lists.items n.lists.items number place → IsSeen n (append P (and_path p no_paths))
seen-more m n P p number place is last was more = record {
  some = omega (arith, was.some, more.long);
  seen = λ q e. elim (contains-push P p q e) [
    | inl old ↦ let h = was.seen q old in (h.0, more.kept (number_of q) h.0 h.1, stands-left P (and_path p no_paths) h.0 q h.2)
    | inr same ↦ (
      place,
      subst (λ x. Contains (slot_at n.lists.items x) place) (is ∙ ap number_of same) more.noted,
      subst (λ k. StandsAt (append P (and_path p no_paths)) k q) (sym last) (subst (StandsAt (append P (and_path p no_paths)) (count P)) same (stands-last P p)),
    )
  ];
}
