-- What lists of types give after one more demand, and their depths.
use Rattle.std.proofs.Common.{ℕ, ◌+◌, ◌<◌, ◌≤◌, ◌≡◌, ◌↔◌, List, [], ◌∷◌, ◌++◌, length, get_or, map, take, max, ◌⊎◌, inl, inr, refl, sym, ap, ◌∙◌, arith, zero, suc}
use Rattle.std.proofs.lemmas.List.{map-append, take_more}
use Rattle.std.specs.Borrow.{Bor}
use Rattle.fy_types.specs.declared.types.Atom.{Atom}
use Rattle.fy_types.specs.declared.types.Ty.{Ty, size-Ty}
use Rattle.fy_types.specs.Paths.{PlainPath, PlainPaths, end, call, pick, no_paths, and_path, append, called, picked, paths, all_paths}
use Rattle.fy_types.specs.PathOrder.{IsEndBelow, ends, calls, picks, ArePathsBelow, none_left, and_above, HasBelow, here, there}
use Rattle.fy_types.specs.Reading.{plain_type, types_from}
use Rattle.fy_types.specs.Rests.{listed, largest, Adds}
use Rattle.fy_types.proofs.Laws.{append-none, append-greatest, HasBelow-left, HasBelow-right, HasBelow-called, HasBelow-picked}
use Rattle.fy_types.proofs.Making.{all_paths-append}

pub some-split : (P Q : PlainPaths) {r : PlainPath} → HasBelow (append P Q) r → HasBelow P r ⊎ HasBelow Q r
some-split no_paths Q some = inr some
some-split (and_path p P) Q (here low) = inl (here low)
some-split (and_path p P) Q (there some) = first (some-split P Q some)
  where
    first : {p r : PlainPath} {P Q : PlainPaths} → HasBelow P r ⊎ HasBelow Q r → HasBelow (and_path p P) r ⊎ HasBelow Q r
    first (inl s) = inl (there s)
    first (inr s) = inr s

pub some-joined : (P Q : PlainPaths) {r : PlainPath} → HasBelow P r ⊎ HasBelow Q r → HasBelow (append P Q) r
some-joined P Q (inl s) = HasBelow-left Q s
some-joined P Q (inr s) = HasBelow-right P s

-- nothing is below a path that makes another demand
pub none-after_end : {a : Atom} {D : PlainPaths} {q : PlainPath} → HasBelow (and_path (end a) no_paths) (call D q) → ⊥
none-after_end (here low) = elim low [ ]
none-after_end (there some) = elim some [ ]

pub no_pick-after_end : {a : Atom} {i : ℕ} {q : PlainPath} → HasBelow (and_path (end a) no_paths) (pick i q) → ⊥
no_pick-after_end (here low) = elim low [ ]
no_pick-after_end (there some) = elim some [ ]

pub no_pick-called : (D P : PlainPaths) {i : ℕ} {q : PlainPath} → HasBelow (called D P) (pick i q) → ⊥
no_pick-called D no_paths some = elim some [ ]
no_pick-called D (and_path p P) (here low) = elim low [ ]
no_pick-called D (and_path p P) (there some) = no_pick-called D P some

pub no_end-called : (D P : PlainPaths) {a : Atom} → HasBelow (called D P) (end a) → ⊥
no_end-called D no_paths some = elim some [ ]
no_end-called D (and_path p P) (here low) = elim low [ ]
no_end-called D (and_path p P) (there some) = no_end-called D P some

pub no_call-picked : (i : ℕ) (P : PlainPaths) {D : PlainPaths} {q : PlainPath} → HasBelow (picked i P) (call D q) → ⊥
no_call-picked i no_paths some = elim some [ ]
no_call-picked i (and_path p P) (here low) = elim low [ ]
no_call-picked i (and_path p P) (there some) = no_call-picked i P some

pub no_end-picked : (i : ℕ) (P : PlainPaths) {a : Atom} → HasBelow (picked i P) (end a) → ⊥
no_end-picked i no_paths some = elim some [ ]
no_end-picked i (and_path p P) (here low) = elim low [ ]
no_end-picked i (and_path p P) (there some) = no_end-picked i P some

pub one_end : (a b : Atom) → HasBelow (and_path (end a) no_paths) (end b) ↔ IsEndBelow a b
one_end a b = (below, λ low. here (ends low))
  where
    below : {a b : Atom} → HasBelow (and_path (end a) no_paths) (end b) → IsEndBelow a b
    below (here (ends low)) = low
    below (there some) = elim some [ ]

-- a call is above paths with a call in front where its domain is below theirs
pub call-split : (D P : PlainPaths) {X : PlainPaths} {q : PlainPath} → HasBelow (called D P) (call X q) → ArePathsBelow X D × HasBelow P q
call-split D no_paths some = elim some [ ]
call-split D (and_path p P) (here (calls wide low)) = (wide, here low)
call-split D (and_path p P) (there some) = let both = call-split D P some in (both.0, there both.1)

pub pick-split : (i : ℕ) (P : PlainPaths) {j : ℕ} {q : PlainPath} → HasBelow (picked i P) (pick j q) → (i ≡ j) × HasBelow P q
pick-split i no_paths some = elim some [ ]
pick-split i (and_path p P) (here (picks low)) = (refl, here low)
pick-split i (and_path p P) (there some) = let both = pick-split i P some in (both.0, there both.1)

-- nothing is added where the paths have nothing below the demand
pub Adds-nothing : (f : PlainPath → PlainPath) (old P : PlainPaths) → ((q : PlainPath) → HasBelow P (f q) → ⊥) → Adds f old old P
Adds-nothing f old P none = record { had = λ q some. inl some; has = back }
  where
    back : (q : PlainPath) → HasBelow old q ⊎ HasBelow P (f q) → HasBelow old q
    back q (inl some) = some
    back q (inr some) = absurd (none q some)

pub Adds-then : (f : PlainPath → PlainPath) (A B C P Q : PlainPaths) → Adds f A B P → Adds f B C Q → Adds f A C (append P Q)
Adds-then f A B C P Q x y = record {
  had = λ q some. forth q (y.had q some);
  has = λ q some. back q some;
}
  where
    split : (q : PlainPath) → HasBelow A q ⊎ HasBelow P (f q) → HasBelow A q ⊎ HasBelow (append P Q) (f q)
    split q (inl some) = inl some
    split q (inr some) = inr (HasBelow-left Q some)

    forth : (q : PlainPath) → HasBelow B q ⊎ HasBelow Q (f q) → HasBelow A q ⊎ HasBelow (append P Q) (f q)
    forth q (inl some) = split q (x.had q some)
    forth q (inr some) = inr (HasBelow-right P some)

    behind : (q : PlainPath) → HasBelow P (f q) ⊎ HasBelow Q (f q) → HasBelow C q
    behind q (inl some) = y.has q (inl (x.has q (inr some)))
    behind q (inr some) = y.has q (inr some)

    back : (q : PlainPath) → HasBelow A q ⊎ HasBelow (append P Q) (f q) → HasBelow C q
    back q (inl some) = y.has q (inl (x.has q (inl some)))
    back q (inr some) = behind q (some-split P Q some)

pub Adds-arrow : (A D R X : PlainPaths) → ArePathsBelow X D → Adds (call X) A (append A R) (called D R)
Adds-arrow A D R X wide = record { had = λ q some. forth q (some-split A R some); has = back }
  where
    forth : (q : PlainPath) → HasBelow A q ⊎ HasBelow R q → HasBelow A q ⊎ HasBelow (called D R) (call X q)
    forth q (inl some) = inl some
    forth q (inr some) = inr (HasBelow-called wide some)

    back : (q : PlainPath) → HasBelow A q ⊎ HasBelow (called D R) (call X q) → HasBelow (append A R) q
    back q (inl some) = HasBelow-left R some
    back q (inr some) = HasBelow-right A (call-split D R some).1

pub Adds-field : (A R : PlainPaths) (i : ℕ) → Adds (pick i) A (append A R) (picked i R)
Adds-field A R i = record { had = λ q some. forth q (some-split A R some); has = back }
  where
    forth : (q : PlainPath) → HasBelow A q ⊎ HasBelow R q → HasBelow A q ⊎ HasBelow (picked i R) (pick i q)
    forth q (inl some) = inl some
    forth q (inr some) = inr (HasBelow-picked some)

    back : (q : PlainPath) → HasBelow A q ⊎ HasBelow (picked i R) (pick i q) → HasBelow (append A R) q
    back q (inl some) = HasBelow-left R some
    back q (inr some) = HasBelow-right A (pick-split i R some).1

Adds-iff : (f : PlainPath → PlainPath) (P R : PlainPaths) → Adds f no_paths R P → (q : PlainPath) → HasBelow P (f q) ↔ HasBelow R q
Adds-iff f P R x q = (λ some. x.has q (inr some), λ some. right (x.had q some))
  where
    right : {q : PlainPath} {Z : Type 0} → HasBelow no_paths q ⊎ Z → Z
    right (inl some) = elim some [ ]
    right (inr some) = some

-- the rests decide whether the list is below what the demand stands in front of
pub called-iff : (P R X Y : PlainPaths) → Adds (call X) no_paths R P → ArePathsBelow P (called X Y) ↔ ArePathsBelow R Y
called-iff P R X Y x = (forth Y, back Y)
  where
    forth : (Y : PlainPaths) → ArePathsBelow P (called X Y) → ArePathsBelow R Y
    forth no_paths below = none_left
    forth (and_path q Y) (and_above some rest) = and_above ((Adds-iff (call X) P R x q).0 some) (forth Y rest)

    back : (Y : PlainPaths) → ArePathsBelow R Y → ArePathsBelow P (called X Y)
    back no_paths below = none_left
    back (and_path q Y) (and_above some rest) = and_above ((Adds-iff (call X) P R x q).1 some) (back Y rest)

pub picked-iff : (P R : PlainPaths) (i : ℕ) (Y : PlainPaths) → Adds (pick i) no_paths R P → ArePathsBelow P (picked i Y) ↔ ArePathsBelow R Y
picked-iff P R i Y x = (forth Y, back Y)
  where
    forth : (Y : PlainPaths) → ArePathsBelow P (picked i Y) → ArePathsBelow R Y
    forth no_paths below = none_left
    forth (and_path q Y) (and_above some rest) = and_above ((Adds-iff (pick i) P R x q).0 some) (forth Y rest)

    back : (Y : PlainPaths) → ArePathsBelow R Y → ArePathsBelow P (picked i Y)
    back no_paths below = none_left
    back (and_path q Y) (and_above some rest) = and_above ((Adds-iff (pick i) P R x q).1 some) (back Y rest)

pub end-iff : (P : PlainPaths) (a : Atom) → ArePathsBelow P (and_path (end a) no_paths) ↔ HasBelow P (end a)
end-iff P a = (first, λ some. and_above some none_left)
  where
    first : {P : PlainPaths} {q : PlainPath} → ArePathsBelow P (and_path q no_paths) → HasBelow P q
    first (and_above some rest) = some

all-left : (P Q R : PlainPaths) → ArePathsBelow P (append Q R) → ArePathsBelow P Q
all-left P no_paths R below = none_left
all-left P (and_path q Q) R (and_above some rest) = and_above some (all-left P Q R rest)

all-right : (P Q R : PlainPaths) → ArePathsBelow P (append Q R) → ArePathsBelow P R
all-right P no_paths R below = below
all-right P (and_path q Q) R (and_above some rest) = all-right P Q R rest

pub append-first : (P Q R : PlainPaths) → ArePathsBelow P (append Q R) → ArePathsBelow P Q
append-first P Q R below = all-left P Q R below

pub append-iff : (P Q R : PlainPaths) → ArePathsBelow P Q → ArePathsBelow P (append Q R) ↔ ArePathsBelow P R
append-iff P Q R first = (all-right P Q R, λ rest. append-greatest first rest)

pub some-rest : (P Q : PlainPaths) (r : PlainPath) → (HasBelow P r → ⊥) → HasBelow (append P Q) r ↔ HasBelow Q r
some-rest P Q r none = (λ some. other (some-split P Q some), HasBelow-right P)
  where
    other : HasBelow P r ⊎ HasBelow Q r → HasBelow Q r
    other (inl some) = absurd (none some)
    other (inr some) = some

pub listed-push : (xs : List (Bor Ty)) (x : Bor Ty) → listed (xs ++ (x ∷ [])) ≡ append (listed xs) (paths (plain_type x.now))
listed-push xs x =
    ap (λ ys. all_paths (types_from ys)) (map-append (λ (y : Bor Ty). plain_type y.now) xs (x ∷ []))
    ∙ (all_paths-append (map (λ (y : Bor Ty). plain_type y.now) xs) (plain_type x.now ∷ [])
    ∙ ap (append (listed xs)) (append-none (paths (plain_type x.now))))

pub largest-push : (xs : List (Bor Ty)) (x : Bor Ty) → largest (xs ++ (x ∷ [])) ≡ max (largest xs) (size-Ty x.now)
largest-push [] x = omega arith
largest-push (y ∷ xs) x = omega (arith, largest-push xs x)

pub largest-item : (xs : List (Bor Ty)) (i : ℕ) (x : Bor Ty) → i < length xs → x ≡ get_or xs i x → size-Ty x.now ≤ largest xs
largest-item [] i x within is = absurd (omega arith)
largest-item (y ∷ xs) zero x within is = rw is (omega arith)
largest-item (y ∷ xs) (suc i) x within is = omega (arith, largest-item xs i x (omega arith) is)

-- the first i listed types, and one more
pub listed-item : (xs : List (Bor Ty)) (i : ℕ) (x : Bor Ty) → i < length xs → x ≡ get_or xs i x →
    listed (take (i + 1) xs) ≡ append (listed (take i xs)) (paths (plain_type x.now))
listed-item xs i x within is =
    ap listed (take_more xs i x within ∙ ap (λ y. take i xs ++ (y ∷ [])) (sym is)) ∙ listed-push (take i xs) x
