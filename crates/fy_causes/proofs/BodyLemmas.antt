-- An abstraction's body under its alternatives.
use Rattle.std.proofs.Common.{ℕ, ◌<◌, ◌≤◌, ◌≡◌, List, [], ◌∷◌, length, map, take, get_or, sym, ap, ◌∙◌, arith}
use Rattle.std.proofs.lemmas.List.{take_all}
use Rattle.fy_types.specs.declared.types.Ty.{Ty}
use Rattle.fy_types.specs.declared.paths.Paths.{Paths}
use Rattle.fy_types.specs.Types.{PlainTypes}
use Rattle.fy_types.specs.Paths.{PlainPaths, no_paths, paths}
use Rattle.fy_types.specs.Once.{once}
use Rattle.fy_types.specs.Reading.{paths_from, paths_in, plain_path, plain_paths, plain_type, types_from}
use Rattle.fy_types.proofs.ReadLemmas.{plain_paths-at}
use Rattle.fy_phrase.specs.Tree.{Tree}
use Rattle.fy_derive.specs.Least.{alternatives_of}
use Rattle.fy_causes.specs.Occurrences.{Variable, under}
use Rattle.fy_causes.specs.Readings.{first_under}

pub new-none : (l : Paths) → paths_in l ≡ [] → plain_paths l ≡ no_paths
new-none l none = plain_paths-at l ∙ ap (λ ps. paths_from (map plain_path ps)) none

pub under-first : (G : List Variable) (p : Tree) (xs : List Ty) (x : Ty) (b : Tree) → 0 < length xs → x ≡ get_or xs 0 x →
    first_under G p (types_from (map plain_type xs)) b ≡ under G p (paths (plain_type x)) b ∷ []
under-first G p [] x b some is = absurd (omega arith)
under-first G p (y ∷ xs) x b some is = ap (λ t. under G p (paths (plain_type t)) b ∷ []) (sym is)

pub alternatives-all : (xs : List Ty) (i : ℕ) (As : PlainTypes) (f : PlainPaths → PlainPaths) → As ≡ types_from (map plain_type xs) → length xs ≤ i →
    once (alternatives_of (types_from (map plain_type (take i xs))) f) ≡ once (alternatives_of As f)
alternatives-all xs i As f read past =
    ap (λ ys. once (alternatives_of (types_from (map plain_type ys)) f)) (take_all i xs past) ∙ ap (λ Bs. once (alternatives_of Bs f)) (sym read)
