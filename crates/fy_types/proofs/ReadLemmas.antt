-- What the readings give at one level.
use Rattle.std.specs.declared.alloc.Global.{Global}
use Rattle.std.specs.declared.rc.Rc.{Rc}
use Rattle.std.proofs.Common.{ℕ, ◌<◌, ◌≡◌, List, [], ◌∷◌, suc, map, length, get_or, refl, ap, sym, ◌∙◌, arith, rules}
use Rattle.fy_types.specs.declared.paths.PathElem.{PathElem, Call, Field, size-PathElem, the_lemmas}
use Rattle.fy_types.specs.declared.paths.PathElem.TheVariants.{rolls-Call, rolls-Field}
use Rattle.fy_types.specs.declared.paths.ElemList.{ElemList, size-ElemList}
use Rattle.fy_types.specs.declared.types.Atom.{Atom}
use Rattle.fy_types.specs.declared.paths.Path.{Path, out-Path, roll-Path, fold-roll-Path}
use Rattle.fy_types.specs.declared.paths.Paths.{Paths}
use Rattle.fy_types.specs.declared.types.TyList.{TyList}
use Rattle.fy_types.specs.declared.types.TyList as list_of_types
use Rattle.fy_types.specs.Types.{PlainType, PlainTypes, no_types, and_type}
use Rattle.fy_types.specs.Paths.{PlainPath, PlainPaths, end}
use Rattle.fy_types.specs.Reading.{PlainElem, elem_step, elems_step, path_step, paths_step, types_in, elems_in, paths_in, plain_type, plain_types, types_from, a_call, a_field, fronted, paths_from, plain_elem, plain_elems, plain_path, plain_paths}

pub plain_elem-Call : (d : Rc Paths Global) → plain_elem (Call d) ≡ a_call (plain_paths d.value)
plain_elem-Call d = ap plain_elem (sym (rolls-Call d)) ∙ search (rules, the_lemmas)

pub plain_elem-Field : (i : ℕ) → plain_elem (Field i) ≡ a_field i
plain_elem-Field i = ap plain_elem (sym (rolls-Field i)) ∙ search (rules, the_lemmas)

pub plain_elems-at : (l : ElemList) → plain_elems l ≡ map plain_elem (elems_in l)
plain_elems-at l = search (rules, the_lemmas)

pub plain_path-at : (p : Path) → plain_path p ≡ fronted (plain_elems (out-Path p).elems) (end (out-Path p).end)
plain_path-at p = search (rules, the_lemmas)

pub plain_paths-at : (l : Paths) → plain_paths l ≡ paths_from (map plain_path (paths_in l))
plain_paths-at l = search (rules, the_lemmas)

pub plain_types-at : (l : TyList) → plain_types l ≡ types_from (map plain_type (types_in l))
plain_types-at l = search (rules, list_of_types.the_lemmas)

-- an element of a list is less deep than it
pub elem-size : (l : ElemList) (i : ℕ) (x : PathElem) → i < length (elems_in l) → x ≡ get_or (elems_in l) i x → size-PathElem x < size-ElemList l
elem-size l i x within is = search (arith, the_lemmas)

pub ruleset elements = (plain_elems-at, elem-size)

pub ruleset readings = (plain_elems-at, plain_paths-at, plain_types-at)

abbrev count : PlainTypes → ℕ
count no_types = 0
count (and_type A As) = suc (count As)

count-from : (xs : List PlainType) → count (types_from xs) ≡ length xs
count-from [] = refl
count-from (x ∷ xs) = ap suc (count-from xs)

-- equal lists of types have equally many members
pub types_from-length : (xs ys : List PlainType) → types_from xs ≡ types_from ys → length xs ≡ length ys
types_from-length xs ys e = sym (count-from xs) ∙ (ap count e ∙ count-from ys)

pub plain_path-made : (elems : ElemList) (a : Atom) →
    plain_path (roll-Path (record { elems = elems; end = a })) ≡ fronted (plain_elems elems) (end a)
plain_path-made elems a =
    fold-roll-Path (List PlainElem) PlainElem PlainPath PlainPaths elems_step elem_step path_step paths_step (record { elems = elems; end = a })
