-- One more path, or type, in a list that is made.
use Rattle.std.proofs.Common.{ℕ, ◌+◌, ◌*◌, ◌<◌, ◌≤◌, ◌≡◌, List, [], ◌∷◌, ◌++◌, length, map, take, drop, get_or, refl, sym, ap, ◌∙◌, subst, arith, drop_of_length-le}
use Rattle.std.proofs.lemmas.List.{map-append, length-map, take-append-drop, take_more}
use Rattle.fy_types.specs.declared.paths.Path.{Path}
use Rattle.fy_types.specs.declared.paths.Paths.{Paths}
use Rattle.fy_types.specs.declared.types.Ty.{Ty}
use Rattle.fy_types.specs.Types.{PlainType}
use Rattle.fy_types.specs.Paths.{PlainPath, PlainPaths, no_paths, and_path, call, pick, append, called, picked, paths, all_paths}
use Rattle.fy_types.specs.Reading.{plain_type, types_from, plain_path, plain_paths, paths_in, paths_from}
use Rattle.fy_types.specs.Limits.{IsTooLarge}
use Rattle.fy_types.proofs.Laws.{append-none, append_assoc, called-append, picked-append}
use Rattle.fy_types.proofs.Sizes.{count, large-left, large-right}
use Rattle.fy_types.proofs.ReadLemmas.{plain_paths-at}

pub paths_from-append : (xs ys : List PlainPath) → paths_from (xs ++ ys) ≡ append (paths_from xs) (paths_from ys)
paths_from-append [] ys = refl
paths_from-append (x ∷ xs) ys = ap (and_path x) (paths_from-append xs ys)

pub all_paths-append : (xs ys : List PlainType) →
    all_paths (types_from (xs ++ ys)) ≡ append (all_paths (types_from xs)) (all_paths (types_from ys))
all_paths-append [] ys = refl
all_paths-append (x ∷ xs) ys =
    ap (append (paths x)) (all_paths-append xs ys)
    ∙ sym (append_assoc (paths x) (all_paths (types_from xs)) (all_paths (types_from ys)))

-- the list that was made, with one more path
pub made-push : (xs : List Path) (x : Path) →
    paths_from (map plain_path (xs ++ (x ∷ []))) ≡ append (paths_from (map plain_path xs)) (and_path (plain_path x) no_paths)
made-push xs x = ap paths_from (map-append plain_path xs (x ∷ [])) ∙ paths_from-append (map plain_path xs) (plain_path x ∷ [])

pub called-push : (D : PlainPaths) (xs ys zs : List Path) (x y : Path) → zs ≡ xs ++ (x ∷ []) → plain_path x ≡ call D (plain_path y) →
    paths_from (map plain_path xs) ≡ called D (paths_from (map plain_path ys)) →
    paths_from (map plain_path zs) ≡ called D (paths_from (map plain_path (ys ++ (y ∷ []))))
called-push D xs ys zs x y pushed front so_far =
    rw (pushed, made-push xs x, made-push ys y, so_far, front, called-append D (paths_from (map plain_path ys)) (and_path (plain_path y) no_paths)) refl

pub picked-push : (i : ℕ) (xs ys zs : List Path) (x y : Path) → zs ≡ xs ++ (x ∷ []) → plain_path x ≡ pick i (plain_path y) →
    paths_from (map plain_path xs) ≡ picked i (paths_from (map plain_path ys)) →
    paths_from (map plain_path zs) ≡ picked i (paths_from (map plain_path (ys ++ (y ∷ []))))
picked-push i xs ys zs x y pushed front so_far =
    rw (pushed, made-push xs x, made-push ys y, so_far, front, picked-append i (paths_from (map plain_path ys)) (and_path (plain_path y) no_paths)) refl

pub append-push : (P : PlainPaths) (xs ys zs : List Path) (x : Path) → zs ≡ xs ++ (x ∷ []) →
    paths_from (map plain_path xs) ≡ append P (paths_from (map plain_path ys)) →
    paths_from (map plain_path zs) ≡ append P (paths_from (map plain_path (ys ++ (x ∷ []))))
append-push P xs ys zs x pushed so_far = rw (pushed, made-push xs x, made-push ys x, so_far) (append_assoc P _ _)

count-from : (xs : List PlainPath) → count (paths_from xs) ≡ length xs
count-from [] = refl
count-from (x ∷ xs) = omega (arith, count-from xs)

-- a list has as many members as it reads as having
pub count-in : (l : Paths) → length (paths_in l) ≡ count (plain_paths l)
count-in l =
    sym (length-map (paths_in l) plain_path)
    ∙ (sym (count-from (map plain_path (paths_in l))) ∙ ap count (sym (plain_paths-at l)))

pub product-le : (a b : ℕ) → a ≤ 4096 → b ≤ 4096 → a * (b + 1) ≤ 4096 * 4097
product-le a b few small = grind arith

-- the paths of the first i members
abbrev pub first_paths : ℕ → List Ty → PlainPaths
first_paths i xs = all_paths (types_from (map plain_type (take i xs)))

pub first_paths-more : (xs : List Ty) (i : ℕ) (x : Ty) → i < length xs → x ≡ get_or xs i x →
    first_paths (i + 1) xs ≡ append (first_paths i xs) (paths (plain_type x))
first_paths-more xs i x within is =
    ap (λ ys. all_paths (types_from (map plain_type ys))) (take_more xs i x within ∙ ap (λ y. take i xs ++ (y ∷ [])) (sym is))
    ∙ (ap (λ ys. all_paths (types_from ys)) (map-append plain_type (take i xs) (x ∷ []))
    ∙ (all_paths-append (map plain_type (take i xs)) (plain_type x ∷ [])
    ∙ ap (append (first_paths i xs)) (append-none (paths (plain_type x)))))

split_paths : (xs : List Ty) (i : ℕ) →
    append (first_paths i xs) (all_paths (types_from (map plain_type (drop i xs)))) ≡ all_paths (types_from (map plain_type xs))
split_paths xs i =
    sym (all_paths-append (map plain_type (take i xs)) (map plain_type (drop i xs)))
    ∙ (ap (λ ys. all_paths (types_from ys)) (sym (map-append plain_type (take i xs) (drop i xs)))
    ∙ ap (λ ys. all_paths (types_from (map plain_type ys))) (take-append-drop i xs))

pub first_paths-all : (xs : List Ty) (i : ℕ) → length xs ≤ i → first_paths i xs ≡ all_paths (types_from (map plain_type xs))
first_paths-all xs i past =
    sym (append-none (first_paths i xs))
    ∙ (ap (λ ys. append (first_paths i xs) (all_paths (types_from (map plain_type ys)))) (sym (drop_of_length-le xs past))
    ∙ split_paths xs i)

pub large-first : (xs : List Ty) (i : ℕ) → IsTooLarge (first_paths i xs) → IsTooLarge (all_paths (types_from (map plain_type xs)))
large-first xs i large =
    subst IsTooLarge (split_paths xs i) (large-left (first_paths i xs) (all_paths (types_from (map plain_type (drop i xs)))) large)

pub large-item : (xs : List Ty) (i : ℕ) (x : Ty) → i < length xs → x ≡ get_or xs i x → IsTooLarge (paths (plain_type x)) →
    IsTooLarge (all_paths (types_from (map plain_type xs)))
large-item xs i x within is large =
    large-first xs (i + 1)
    (subst IsTooLarge (sym (first_paths-more xs i x within is)) (large-right (first_paths i xs) (paths (plain_type x)) large))
