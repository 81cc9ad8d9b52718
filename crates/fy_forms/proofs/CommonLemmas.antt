-- Common paths, element by element.
use Rattle.std.proofs.Common.{ℕ, ◌+◌, ◌<◌, ◌≤◌, ◌≡◌, List, [], ◌∷◌, ◌++◌, length, map, drop, length-drop, suc, max, Bool, true, false, ◌&&◌, eqb, IsTrue, ◌↔◌, if◌then◌else◌, refl, ap, sym, ◌∙◌, subst, arith}
use Rattle.std.proofs.lemmas.List.{length-map}
use Rattle.fy_types.specs.declared.types.Atom.{Atom}
use Rattle.fy_types.specs.declared.paths.PathElem.{PathElem}
use Rattle.fy_types.specs.Paths.{PlainPath, PlainPaths, end, call, pick, no_paths, and_path, called, picked}
use Rattle.fy_types.specs.Reading.{PlainElem, a_call, a_field, front, fronted, all_front, plain_elem}
use Rattle.fy_types.specs.Limits.{nodes, all_nodes, nesting, IsTooLarge}
use Rattle.fy_types.specs.PathOrder.{IsEndBelow}
use Rattle.fy_types.specs.Bounds.{meet_of, is_end_low, common_end, common}
use Rattle.fy_types.specs.Keeping.{is_some, all_fronted, elem_nodes, elem_nesting, sum_nodes, are_alike}
use Rattle.fy_forms.specs.Merging.{merged, elem_domain}
use Rattle.fy_types.proofs.Sizes.{count, nodes-pos, not_large, called-count, picked-count, large-domain, large-rest, large-part}
use Rattle.fy_types.proofs.BoundLemmas.{is_end_low-sound, is_end_low-complete}

pub front-nodes : (x : PlainElem) (p : PlainPath) → nodes (front x p) ≡ elem_nodes x + nodes p
front-nodes (a_call D) p = omega arith
front-nodes (a_field i) p = omega arith

pub front-nesting : (x : PlainElem) (p : PlainPath) → nesting (front x p) ≡ max (elem_nesting x) (nesting p) + 1
front-nesting (a_call D) p = refl
front-nesting (a_field i) p = omega arith

some-called : (D P : PlainPaths) → is_some (called D P) ≡ is_some P
some-called D no_paths = refl
some-called D (and_path p P) = refl

some-picked : (i : ℕ) (P : PlainPaths) → is_some (picked i P) ≡ is_some P
some-picked i no_paths = refl
some-picked i (and_path p P) = refl

some-all_front : (x : PlainElem) (P : PlainPaths) → is_some (all_front x P) ≡ is_some P
some-all_front (a_call D) P = some-called D P
some-all_front (a_field i) P = some-picked i P

pub some-all_fronted : (xs : List PlainElem) (P : PlainPaths) → is_some (all_fronted xs P) ≡ is_some P
some-all_fronted [] P = refl
some-all_fronted (x ∷ xs) P = some-all_front x (all_fronted xs P) ∙ some-all_fronted xs P

all_front-nodes : (x : PlainElem) (P : PlainPaths) → is_some P ≡ true → elem_nodes x + all_nodes P ≤ all_nodes (all_front x P)
all_front-nodes (a_call D) (and_path p no_paths) e = omega arith
all_front-nodes (a_call D) (and_path p (and_path q P)) e = omega (arith, all_front-nodes (a_call D) (and_path q P) refl)
all_front-nodes (a_field i) (and_path p no_paths) e = omega arith
all_front-nodes (a_field i) (and_path p (and_path q P)) e = omega (arith, all_front-nodes (a_field i) (and_path q P) refl)
all_front-nodes (a_call D) no_paths e = absurd (cc)
all_front-nodes (a_field i) no_paths e = absurd (cc)

pub all_fronted-nodes : (xs : List PlainElem) (P : PlainPaths) → is_some P ≡ true → sum_nodes xs + all_nodes P ≤ all_nodes (all_fronted xs P)
all_fronted-nodes [] P e = omega arith
all_fronted-nodes (x ∷ xs) P e =
    omega (arith, all_fronted-nodes xs P e, all_front-nodes x (all_fronted xs P) (some-all_fronted xs P ∙ e))

pub sum_nodes-push : (xs : List PlainElem) (x : PlainElem) → sum_nodes (xs ++ (x ∷ [])) ≡ sum_nodes xs + elem_nodes x
sum_nodes-push [] x = omega arith
sum_nodes-push (y ∷ xs) x = omega (arith, sum_nodes-push xs x)

pub all_fronted-push : (xs : List PlainElem) (x : PlainElem) (P : PlainPaths) → all_fronted (xs ++ (x ∷ [])) P ≡ all_fronted xs (all_front x P)
all_fronted-push [] x P = refl
all_fronted-push (y ∷ xs) x P = ap (all_front y) (all_fronted-push xs x P)

all_front-one : (x : PlainElem) (p : PlainPath) → all_front x (and_path p no_paths) ≡ and_path (front x p) no_paths
all_front-one (a_call D) p = refl
all_front-one (a_field i) p = refl

pub all_fronted-one : (xs : List PlainElem) (p : PlainPath) → all_fronted xs (and_path p no_paths) ≡ and_path (fronted xs p) no_paths
all_fronted-one [] p = refl
all_fronted-one (x ∷ xs) p = ap (all_front x) (all_fronted-one xs p) ∙ all_front-one x (fronted xs p)

large-all_front : (x : PlainElem) (P : PlainPaths) → IsTooLarge P → IsTooLarge (all_front x P)
large-all_front (a_call D) P large = large-rest D P large
large-all_front (a_field i) P large = large-part i P large

pub large-all_fronted : (xs : List PlainElem) (P : PlainPaths) → IsTooLarge P → IsTooLarge (all_fronted xs P)
large-all_fronted [] P large = large
large-all_fronted (x ∷ xs) P large = large-all_front x (all_fronted xs P) (large-all_fronted xs P large)

some-nodes : (P : PlainPaths) → is_some P ≡ true → 0 < all_nodes P
some-nodes no_paths e = absurd (cc)
some-nodes (and_path p P) e = omega (arith, nodes-pos p)

pub large-elem_domain : (x : PlainElem) (P : PlainPaths) → is_some P ≡ true → IsTooLarge (elem_domain x) → IsTooLarge (all_front x P)
large-elem_domain (a_call D) P e large = large-domain D P (some-nodes P e) large
large-elem_domain (a_field i) P e large = absurd (not_large large)

-- elements that are alike stand, merged, in front of the common path of what follows
pub common-front : (x y : PlainElem) (p q : PlainPath) → are_alike x y ≡ true → common (front x p) (front y q) ≡ all_front (merged x y) (common p q)
common-front (a_call D) (a_call E) p q e = refl
common-front (a_field i) (a_field j) p q e = rw e refl
common-front (a_call D) (a_field j) p q e = absurd (cc)
common-front (a_field i) (a_call E) p q e = absurd (cc)

pub some-front : (x y : PlainElem) (p q : PlainPath) → is_some (common (front x p) (front y q)) ≡ are_alike x y && is_some (common p q)
some-front (a_call D) (a_call E) p q = some-called (meet_of D E) (common p q)
some-front (a_field i) (a_field j) p q = cases (eqb i j)
  where
    cases : (b : Bool) → is_some (if b then picked i (common p q) else no_paths) ≡ b && is_some (common p q)
    cases true = some-picked i (common p q)
    cases false = refl
some-front (a_call D) (a_field j) p q = refl
some-front (a_field i) (a_call E) p q = refl

and-second : (a b : Bool) → a && b ≡ true → b ≡ true
and-second true b e = e
and-second false b e = absurd (cc)

and-first : (a b : Bool) → a && b ≡ true → a ≡ true
and-first true b e = refl
and-first false b e = absurd (cc)

pub some-alike : (x y : PlainElem) (p q : PlainPath) → is_some (common (front x p) (front y q)) ≡ true → are_alike x y ≡ true
some-alike x y p q e = and-first (are_alike x y) (is_some (common p q)) (sym (some-front x y p q) ∙ e)

pub some-behind : (x y : PlainElem) (p q : PlainPath) → is_some (common (front x p) (front y q)) ≡ true → is_some (common p q) ≡ true
some-behind x y p q e = and-second (are_alike x y) (is_some (common p q)) (sym (some-front x y p q) ∙ e)

pub some-length : (xs ys : List PlainElem) (a b : Atom) → is_some (common (fronted xs (end a)) (fronted ys (end b))) ≡ true → length xs ≡ length ys
some-length [] [] a b e = refl
some-length [] (a_call E ∷ ys) a b e = absurd (cc)
some-length [] (a_field j ∷ ys) a b e = absurd (cc)
some-length (a_call D ∷ xs) [] a b e = absurd (cc)
some-length (a_field i ∷ xs) [] a b e = absurd (cc)
some-length (x ∷ xs) (y ∷ ys) a b e =
    ap suc (some-length xs ys a b (some-behind x y (fronted xs (end a)) (fronted ys (end b)) e))

-- what stands behind elements has a path where the whole has one
pub some-left : (C : PlainPaths) (zs : List PlainElem) (R : PlainPaths) → C ≡ all_fronted zs R → is_some C ≡ true → is_some R ≡ true
some-left C zs R made e = sym (some-all_fronted zs R) ∙ (ap is_some (sym made) ∙ e)

-- one more element stands in front of the common path of what is left
pub common-more : (C : PlainPaths) (zs : List PlainElem) (x y : PlainElem) (p q : PlainPath) →
    C ≡ all_fronted zs (common (front x p) (front y q)) → are_alike x y ≡ true → C ≡ all_fronted (zs ++ (merged x y ∷ [])) (common p q)
common-more C zs x y p q made alike =
    made ∙ (ap (all_fronted zs) (common-front x y p q alike) ∙ sym (all_fronted-push zs (merged x y) (common p q)))

-- so many nodes has what the elements stand in front of
pub common-nodes : (C : PlainPaths) (zs : List PlainElem) (R : PlainPaths) → C ≡ all_fronted zs R → is_some C ≡ true → sum_nodes zs ≤ all_nodes C
common-nodes C zs R made e =
    let few = all_fronted-nodes zs R (some-left C zs R made e) in
    let same = ap all_nodes made in omega arith

pub large-merged : (C : PlainPaths) (zs : List PlainElem) (x y : PlainElem) (p q : PlainPath) →
    C ≡ all_fronted zs (common (front x p) (front y q)) → is_some C ≡ true → IsTooLarge (elem_domain (merged x y)) → IsTooLarge C
large-merged C zs x y p q made e large =
    let some = some-left C zs (common (front x p) (front y q)) made e in
    subst IsTooLarge (sym (made ∙ ap (all_fronted zs) (common-front x y p q (some-alike x y p q some))))
    (large-all_fronted zs (all_front (merged x y) (common p q))
    (large-elem_domain (merged x y) (common p q) (some-behind x y p q some) large))

-- the tests of ends find the common end
pub end-then : {r : Bool} (a b : Atom) → r ≡ true → (IsTrue r → IsEndBelow a b) → common_end a b ≡ and_path (end b) no_paths
end-then a b e f = rw (is_end_low-complete (f e)) refl

low-false : {r : Bool} (a b : Atom) → r ≡ false → (IsEndBelow a b → IsTrue r) → is_end_low a b ≡ false
low-false {r = r} a b e f = cases (is_end_low a b) refl
  where
    cases : (d : Bool) → is_end_low a b ≡ d → d ≡ false
    cases true h = let t : r ≡ true = f (is_end_low-sound a b h) in absurd (cc)
    cases false h = refl

pub end-else : {r : Bool} (a b : Atom) → r ≡ false → (IsEndBelow a b → IsTrue r) → is_some (common_end a b) ≡ true → common_end a b ≡ and_path (end a) no_paths
end-else a b e f some = rw (low-false a b e f) (cases (is_end_low b a) (rw (low-false a b e f) at some))
  where
    cases : (d : Bool) → is_some (if d then and_path (end a) no_paths else no_paths) ≡ true →
        (if d then and_path (end a) no_paths else no_paths) ≡ and_path (end a) no_paths
    cases true h = refl
    cases false h = absurd (cc)

pub end-found : {r : Bool} (a b : Atom) → r ≡ true → (IsTrue r → IsEndBelow a b) → r ≡ is_some (common_end a b)
end-found a b e f = rw (end-then a b e f, e) refl

pub end-turned : {r s : Bool} (a b : Atom) → r ≡ false → (IsEndBelow a b → IsTrue r) → (IsTrue s ↔ IsEndBelow b a) → s ≡ is_some (common_end a b)
end-turned {s = s} a b e f both = rw (low-false a b e f) (cases s refl)
  where
    high : (d : Bool) → (d ≡ true → s ≡ true) → s ≡ false → false ≡ is_some (if d then and_path (end a) no_paths else no_paths)
    high true g h = let t = g refl in absurd (cc)
    high false g h = refl

    cases : (d : Bool) → s ≡ d → d ≡ is_some (if is_end_low b a then and_path (end a) no_paths else no_paths)
    cases true h = rw (is_end_low-complete (both.0 h)) refl
    cases false h = high (is_end_low b a) (λ g. both.1 (is_end_low-sound b a g)) h

if-count : (b : Bool) (P Q : PlainPaths) → count P ≤ 1 → count Q ≤ 1 → count (if b then P else Q) ≤ 1
if-count true P Q few none = few
if-count false P Q few none = none

-- there is at most one common path
pub common-count : (p q : PlainPath) → count (common p q) ≤ 1
common-count (end a) (end b) =
    if-count (is_end_low a b) _ _ (omega arith) (if-count (is_end_low b a) _ _ (omega arith) (omega arith))
common-count (call D p) (call E q) = let few = common-count p q in omega (arith, called-count (meet_of D E) (common p q))
common-count (pick i p) (pick j q) =
    let few = common-count p q in
    if-count (eqb i j) (picked i (common p q)) no_paths (omega (arith, picked-count i (common p q))) (omega arith)
common-count (end a) (call E q) = omega arith
common-count (end a) (pick j q) = omega arith
common-count (call D p) (end b) = omega arith
common-count (call D p) (pick j q) = omega arith
common-count (pick i p) (end b) = omega arith
common-count (pick i p) (call E q) = omega arith

-- an index within the first elements is within the second
pub within-both : (C : PlainPaths) (zs : List PlainElem) (xs ys : List PathElem) (i : ℕ) (a b : Atom) →
    C ≡ all_fronted zs (common (fronted (map plain_elem (drop i xs)) (end a)) (fronted (map plain_elem (drop i ys)) (end b))) →
    is_some C ≡ true → i < length xs → i < length ys
within-both C zs xs ys i a b made e within =
    let same = some-length (map plain_elem (drop i xs)) (map plain_elem (drop i ys)) a b (some-left C zs _ made e) in
    omega (
      arith,
      same,
      length-map (drop i xs) plain_elem,
      length-map (drop i ys) plain_elem,
      length-drop i xs,
      length-drop i ys,
    )

pub past-both : (C : PlainPaths) (zs : List PlainElem) (xs ys : List PathElem) (i : ℕ) (a b : Atom) →
    C ≡ all_fronted zs (common (fronted (map plain_elem (drop i xs)) (end a)) (fronted (map plain_elem (drop i ys)) (end b))) →
    is_some C ≡ true → length xs ≤ i → length ys ≤ i
past-both C zs xs ys i a b made e past =
    let same = some-length (map plain_elem (drop i xs)) (map plain_elem (drop i ys)) a b (some-left C zs _ made e) in
    omega (
      arith,
      same,
      length-map (drop i xs) plain_elem,
      length-map (drop i ys) plain_elem,
      length-drop i xs,
      length-drop i ys,
    )
