-- What many have, no shorter list has whole.
use Rattle.std.proofs.Common.{ℕ, zero, suc, ◌<◌, ◌≤◌, ◌≡◌, ◌≢◌, ◌⊎◌, inl, inr, List, [], ◌∷◌, length, map, option_map, Some, None, slice_get, refl, sym, ap, ◌∙◌, subst, arith}
use Rattle.std.specs.Prelude.{Contains}
use Rattle.std.specs.declared.option.Option.{Option}
use Rattle.std.proofs.lemmas.Bool.{cases_lt}
use Rattle.std.proofs.lemmas.List.{length-map}
use Rattle.std.proofs.lemmas.Option.{slice_get-get_or}
use Rattle.fy_derive.specs.Derivations.{PlainDerivation}
use Rattle.fy_derive.specs.Shapes.{PlainShape, at_end, a_run, shape_table}
use Rattle.fy_derive.specs.ShapeTables.{HasJustPairs, plain_shape, shape_at}
use Rattle.fy_phrase.specs.Tree.{Tree}
use Rattle.fy_phrase.specs.declared.shapes.Pair.{Pair}
use Rattle.fy_phrase.specs.declared.shapes.Shape.{Shape}
use Rattle.fy_phrase.specs.declared.shapes.ShapeTable.{ShapeTable}
use Rattle.pe_shapes.specs.Counts.{HasMany, HasAtMost, IsCount}
use Rattle.pe_shapes.specs.Shaping.{IsShapeOf, IsPairOf}
use Rattle.pe_shapes.proofs.Members.{Contains-at, mapped}

-- ---- numbers

-- a number below m as it is, and in place of another one that is left over
abbrev pick : {A B : Type 0} → ℕ → ℕ → A ⊎ B → ℕ
pick x spare (inl below) = x
pick x spare (inr above) = spare

pick_below : (m x spare : ℕ) (c : (x < m) ⊎ (m ≤ x)) → x < suc m → spare < suc m → x ≢ spare → pick x spare c < m
pick_below m x spare (inl below) lt lt' apart = below
pick_below m x spare (inr above) lt lt' apart = elim (cases_lt spare m) [
  | inl less ↦ less
  | inr more ↦ let same : x ≡ spare = omega arith in absurd (apart same)
]

pick_once : (m x y spare : ℕ) (c : (x < m) ⊎ (m ≤ x)) (d : (y < m) ⊎ (m ≤ y)) → x < suc m → y < suc m → x ≢ spare → y ≢ spare → pick x spare c ≡ pick y spare d → x ≡ y
pick_once m x y spare (inl a) (inl b) lt lt' no_x no_y e = e
pick_once m x y spare (inl a) (inr b) lt lt' no_x no_y e = absurd (no_x e)
pick_once m x y spare (inr a) (inl b) lt lt' no_x no_y e = absurd (no_y (sym e))
pick_once m x y spare (inr a) (inr b) lt lt' no_x no_y e = omega arith

-- n numbers below m, of which no two are equal
pigeons : (m n : ℕ) (f : ℕ → ℕ) → ((i : ℕ) → i < n → f i < m) → ((i j : ℕ) → i < n → j < n → f i ≡ f j → i ≡ j) → n ≤ m
pigeons m zero f below once = omega arith
pigeons zero (suc n) f below once = absurd (let h = below 0 (omega arith) in omega arith)
pigeons (suc m) (suc n) f below once =
    let spare = f n in
    let last : n < suc n = omega arith in
    let apart : (i : ℕ) → i < n → f i ≢ spare = λ i lt e. let same = once i n (omega arith) last e in omega arith in
    let g : ℕ → ℕ = λ i. pick (f i) spare (cases_lt (f i) m) in
    let le = pigeons m n g (λ i lt. pick_below m (f i) spare (cases_lt (f i) m) (below i (omega arith)) (below n last) (apart i lt))
    (λ i j lt lt' e. once i j (omega arith) (omega arith) (pick_once m (f i) (f j) spare (cases_lt (f i) m) (cases_lt (f j) m) (below i (omega arith)) (below j (omega arith)) (apart i lt) (apart j lt') e)) in
    omega arith

-- ---- members of lists

member : {X : Type 0} (xs : List X) (i : ℕ) → i < length xs → (x : X) × (slice_get xs i ≡ Some x)
member [] i lt = absurd (omega arith)
member (x ∷ xs) zero lt = (x, refl)
member (x ∷ xs) (suc i) lt = member xs i (omega arith)

-- what stands at a place in the first list stands at a place in the second
record Stands {X : Type 0} (xs ys : List X) (i k : ℕ) : Type 0 where
  x : X
  here : slice_get xs i ≡ Some x
  there : slice_get ys k ≡ Some x
  within : k < length ys

stands_at : {X : Type 0} (xs ys : List X) → ((x : X) → Contains xs x → Contains ys x) → (i : ℕ) → i < length xs → (k : ℕ) × Stands xs ys i k
stands_at xs ys all i lt =
    let m = member xs i lt in
    let c = all m.0 (Contains-at xs i m.0 m.1) in
    (c.0, record { x = m.0; here = m.1; there = slice_get-get_or ys c.0 m.0 c.1 ∙ ap Some c.2; within = c.1 })

one_member : {X : Type 0} (o : Option X) (x y : X) → o ≡ Some x → o ≡ Some y → x ≡ y
one_member o x y e f = cc

same_place : {X : Type 0} (xs ys : List X) (i j k l : ℕ) → ((i j : ℕ) (x : X) → slice_get xs i ≡ Some x → slice_get xs j ≡ Some x → i ≡ j) → Stands xs ys i k → Stands xs ys j l → k ≡ l → i ≡ j
same_place xs ys i j k l once s t same =
    let x = one_member (slice_get ys l) s.x t.x (ap (λ n. slice_get ys n) (sym same) ∙ s.there) t.there in
    once i j t.x (s.here ∙ ap Some x) t.here

-- where it stands, or 0 past the end
place : {X : Type 0} (xs ys : List X) → ((x : X) → Contains xs x → Contains ys x) → (i : ℕ) → (i < length xs) ⊎ (length xs ≤ i) → ℕ
place xs ys all i (inl lt) = (stands_at xs ys all i lt).0
place xs ys all i (inr le) = 0

place_stands : {X : Type 0} (xs ys : List X) (all : (x : X) → Contains xs x → Contains ys x) (i : ℕ) (c : (i < length xs) ⊎ (length xs ≤ i)) → i < length xs → Stands xs ys i (place xs ys all i c)
unfolding place
place_stands xs ys all i (inl lt) within = (stands_at xs ys all i lt).1
place_stands xs ys all i (inr le) within = absurd (omega arith)

no_longer : {X : Type 0} (xs ys : List X) → ((i j : ℕ) (x : X) → slice_get xs i ≡ Some x → slice_get xs j ≡ Some x → i ≡ j) → ((x : X) → Contains xs x → Contains ys x) → length xs ≤ length ys
no_longer xs ys once all =
    let f : ℕ → ℕ = λ i. place xs ys all i (cases_lt i (length xs)) in
    let at : (i : ℕ) → i < length xs → Stands xs ys i (f i) = λ i lt. place_stands xs ys all i (cases_lt i (length xs)) lt in
    pigeons (length ys) (length xs) f (λ i lt. (at i lt).within) (λ i j lt lt' e. same_place xs ys i j (f i) (f j) once (at i lt) (at j lt') e)

pub many_few : {X : Type 0} (n m : ℕ) (F : X → Type 0) → HasMany n F → HasAtMost m F → n ≤ m
many_few n m F many few =
    let le = no_longer many.members few.members many.distinct (λ x here. few.all x (many.each x here)) in
    let a = many.number in
    let b = few.number in
    omega arith

-- as many as are counted are no more than a list has that has all
pub counted_few : {X : Type 0} (n m : ℕ) (F : X → Type 0) → IsCount F n → HasAtMost m F → n ≤ m
counted_few n m F count few =
    let le = no_longer count.members few.members count.distinct (λ x here. few.all x (count.each x here)) in
    let a = count.number in
    let b = few.number in
    omega arith

-- many that have it are no more than are counted
pub many_counted : {X : Type 0} (n m : ℕ) (F : X → Type 0) → HasMany n F → IsCount F m → n ≤ m
many_counted n m F many count =
    let le = no_longer many.members count.members many.distinct (λ x here. count.all x (many.each x here)) in
    let a = many.number in
    let b = count.number in
    omega arith

-- ---- the shapes of a table

-- the shape with a number is one of the table's
shape_in : (table : ShapeTable) (n : ℕ) (s : PlainShape) → shape_at table n ≡ Some s → slice_get (map plain_shape table.shapes) n ≡ Some s
shape_in table n s at = shapes_in table.shapes n s at
  where
    shapes_in : (shapes : List Shape) (n : ℕ) (s : PlainShape) → option_map plain_shape (slice_get shapes n) ≡ Some s → slice_get (map plain_shape shapes) n ≡ Some s
    shapes_in [] n s at = at
    shapes_in (x ∷ xs) zero s at = at
    shapes_in (x ∷ xs) (suc n) s at = shapes_in xs n s at

pub table_shapes : (p : Tree) (d : PlainDerivation) (table : ShapeTable) → HasJustPairs table (shape_table p d) → HasAtMost (length table.shapes) (IsShapeOf p d)
table_shapes p d table just = record {
  members = map plain_shape table.shapes;
  number = let e = length-map table.shapes plain_shape in omega arith;
  all = λ s has. let pair = (just.same has.0 s).1 has.1 in Contains-at (map plain_shape table.shapes) pair.pair.shape s (shape_in table pair.pair.shape s pair.shape_is);
}

-- any shape
abbrev other : PlainShape
other = at_end a_run

abbrev shape_or : PlainShape → Option PlainShape → PlainShape
shape_or s None = s
shape_or s (Some t) = t

-- a pair with the shape that it numbers
abbrev shown_pair : PlainShape → ShapeTable → Pair → ℕ × PlainShape
shown_pair other table pair = (pair.node, shape_or other (shape_at table pair.shape))

pub table_pairs : (p : Tree) (d : PlainDerivation) (table : ShapeTable) → HasJustPairs table (shape_table p d) → HasAtMost (length table.pairs) (IsPairOf p d)
table_pairs p d table just = record {
  members = map (shown_pair other table) table.pairs;
  number = let e = length-map table.pairs (shown_pair other table) in omega arith;
  all = λ x has.
      let pair = (just.same x.0 x.1).1 has in
      let is : shown_pair other table pair.pair ≡ x = ap (λ n. (n, shape_or other (shape_at table pair.pair.shape))) pair.node_is ∙ ap (λ o. (x.0, shape_or other o)) pair.shape_is in
      subst (λ y. Contains (map (shown_pair other table) table.pairs) y) is
      (Contains-at (map (shown_pair other table) table.pairs) pair.place (shown_pair other table pair.pair) (mapped (shown_pair other table) table.pairs pair.place pair.pair pair.stands));
}
