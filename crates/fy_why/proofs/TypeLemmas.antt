-- Lists of paths as types.
use Rattle.std.proofs.Common.{ℕ, zero, suc, ◌≡◌, ◌≤◌, Bool, true, false, List, [], ◌∷◌, ◌++◌, length, map, min, take, codes, refl, sym, ap, ◌∙◌, arith}
use Rattle.std.specs.Prelude.{if◌then◌else◌, nat_le}
use Rattle.std.proofs.lemmas.Bool.{leb-false, leb-true}
use Rattle.std.proofs.lemmas.List.{take_all}
use Rattle.fy_base.specs.Outside.{Bytes}
use Rattle.fy_types.specs.declared.paths.Path.{Path}
use Rattle.fy_types.specs.Types.{and_type, meet}
use Rattle.fy_types.specs.Paths.{PlainPath, PlainPaths, and_path}
use Rattle.fy_types.specs.Reading.{paths_from, plain_path, types_from}
use Rattle.fy_derive.specs.Clear.{has_none}
use Rattle.fy_short.specs.Cut.{cut}
use Rattle.fy_short.specs.ShortTypes.{short_type}
use Rattle.fy_why.specs.Types.{count, first_paths, more_text, paths_text, type_along, type_with, types_with}

-- the types of paths, one by one
pub types-each : (ps : List PlainPath) → types_with (paths_from ps) ≡ types_from (map type_along ps)
types-each [] = refl
types-each (p ∷ ps) = ap (and_type (type_along p)) (types-each ps)

-- the first of them
first-each : (n : ℕ) (xs : List Path) → paths_from (map plain_path (take n xs)) ≡ first_paths n (paths_from (map plain_path xs))
first-each zero xs = refl
first-each (suc n) [] = refl
first-each (suc n) (x ∷ xs) = ap (and_path (plain_path x)) (first-each n xs)

pub first-four : (xs : List Path) → paths_from (map plain_path (take 4 xs)) ≡ first_paths 4 (paths_from (map plain_path xs))
first-four xs = first-each 4 xs

-- how many there are
pub count-each : (ps : List PlainPath) → count (paths_from ps) ≡ length ps
count-each [] = refl
count-each (p ∷ ps) = ap suc (count-each ps)

-- the first four, by an end that is least
pub told-four : (xs : List Path) (n : ℕ) → n ≡ min (length xs) 4 → paths_from (map plain_path (take n xs)) ≡ first_paths 4 (paths_from (map plain_path xs))
told-four xs n is = of (nat_le (length xs) 4) refl
  where
    of : (b : Bool) → nat_le (length xs) 4 ≡ b → paths_from (map plain_path (take n xs)) ≡ first_paths 4 (paths_from (map plain_path xs))
    of true e =
        let few = leb-true (length xs) 4 e in
        let all : length xs ≤ n = omega (arith, is) in
        ap (λ ys. paths_from (map plain_path ys)) (take_all n xs all ∙ sym (take_all 4 xs few)) ∙ first-four xs
    of false e =
        let many = leb-false (length xs) 4 e in
        let four : n ≡ 4 = omega (arith, is) in
        ap (λ m. paths_from (map plain_path (take m xs))) four ∙ first-four xs

-- what some paths are told as
pub paths-some : (names : List Bytes) (P : PlainPaths) → has_none P ≡ false → paths_text names P ≡ cut 60 (short_type names (type_with (first_paths 4 P))) ++ more_text (count P)
paths-some names P some = ap (λ b. if b then codes "only ns" else cut 60 (short_type names (type_with (first_paths 4 P))) ++ more_text (count P)) some

-- a meet is of two or more
pub with-many : (ps : List PlainPath) → 2 ≤ length ps → type_with (paths_from ps) ≡ meet (types_with (paths_from ps))
with-many [] many = absurd (omega arith)
with-many (p ∷ []) many = absurd (omega arith)
with-many (p ∷ q ∷ ps) many = refl
