-- How deep types nest that are made of path forms.
use Rattle.std.proofs.Common.{ℕ, ◌+◌, ◌<◌, ◌≡◌, max, List, [], ◌∷◌, ◌++◌, length, map, take, get_or, refl, sym, ap, ◌∙◌, arith}
use Rattle.std.proofs.lemmas.List.{map-append, take_more}
use Rattle.fy_types.specs.declared.types.Ty.{Ty}
use Rattle.fy_types.specs.declared.paths.Path.{Path}
use Rattle.fy_types.specs.Types.{PlainType}
use Rattle.fy_types.specs.Paths.{PlainPath, no_paths, and_path}
use Rattle.fy_types.specs.Reading.{PlainElem, a_call, a_field, front, all_front, plain_type, types_from, plain_path, paths_from}
use Rattle.fy_types.specs.Limits.{nesting, all_nesting}
use Rattle.fy_types.specs.Keeping.{elem_nesting}
use Rattle.fy_types.specs.Nested.{type_nesting, types_nesting}

types-push : (As : List PlainType) (B : PlainType) → types_nesting (types_from (As ++ B ∷ [])) ≡ max (types_nesting (types_from As)) (type_nesting B)
types-push [] B = omega arith
types-push (A ∷ As) B = omega (arith, types-push As B)

paths-push : (ps : List PlainPath) (q : PlainPath) → all_nesting (paths_from (ps ++ q ∷ [])) ≡ max (all_nesting (paths_from ps)) (nesting q)
paths-push [] q = omega arith
paths-push (p ∷ ps) q = omega (arith, paths-push ps q)

pub types-more : (xs ys : List Ty) (y : Ty) → ys ≡ xs ++ y ∷ [] →
    types_nesting (types_from (map plain_type ys)) ≡ max (types_nesting (types_from (map plain_type xs))) (type_nesting (plain_type y))
types-more xs ys y e =
    ap (λ zs. types_nesting (types_from (map plain_type zs))) e
    ∙ (ap (λ zs. types_nesting (types_from zs)) (map-append plain_type xs (y ∷ [])) ∙ types-push (map plain_type xs) (plain_type y))

pub paths-more : (xs : List Path) (i : ℕ) (x : Path) → i < length xs → x ≡ get_or xs i x →
    all_nesting (paths_from (map plain_path (take (i + 1) xs))) ≡ max (all_nesting (paths_from (map plain_path (take i xs)))) (nesting (plain_path x))
paths-more xs i x within is =
    ap (λ zs. all_nesting (paths_from (map plain_path zs))) (take_more xs i x within ∙ ap (λ y. take i xs ++ (y ∷ [])) (sym is))
    ∙ (ap (λ zs. all_nesting (paths_from zs)) (map-append plain_path (take i xs) (x ∷ [])) ∙ paths-push (map plain_path (take i xs)) (plain_path x))

pub front-nesting : (x : PlainElem) (p : PlainPath) → nesting (front x p) ≡ max (elem_nesting x) (nesting p) + 1
front-nesting (a_call D) p = refl
front-nesting (a_field i) p = omega arith

pub front-one : (x : PlainElem) (p : PlainPath) → all_front x (and_path p no_paths) ≡ and_path (front x p) no_paths
front-one (a_call D) p = refl
front-one (a_field i) p = refl
