-- What the program's trees are read as.
use Rattle.std.specs.Prelude.{ℕ, List, [], ◌∷◌}
use Rattle.fy_types.specs.declared.types.Ty.{Ty, Ty-F, fold-Ty}
use Rattle.fy_types.specs.declared.types.TyList.{TyList, TyList-F, fold-TyList, out-TyList}
use Rattle.fy_types.specs.declared.paths.PathElem.{PathElem, PathElem-F, fold-PathElem}
use Rattle.fy_types.specs.declared.paths.ElemList.{ElemList, ElemList-F, fold-ElemList, out-ElemList}
use Rattle.fy_types.specs.declared.paths.Path.{Path, Path-F, fold-Path}
use Rattle.fy_types.specs.declared.paths.Paths.{Paths, Paths-F, fold-Paths, out-Paths}
use Rattle.fy_types.specs.Types.{PlainType, PlainTypes, ns, atom, arrow, field, meet, no_types, and_type}
use Rattle.fy_types.specs.Paths.{PlainPath, PlainPaths, end, call, pick, no_paths, and_path, called, picked, type_of_paths}
use Rattle.fy_types.specs.PathOrder.{ArePathsBelow}

-- the members of the lists
abbrev pub types_in : TyList → List Ty
types_in l = (out-TyList l).items.items

abbrev elems_of : {A B C D : Type 0} → ElemList-F A B C D → List B
elems_of (ElemList-F.None m) = []
elems_of (ElemList-F.One m x) = x ∷ []
elems_of (ElemList-F.Many l) = l.items

abbrev pub elems_in : ElemList → List PathElem
elems_in l = elems_of (out-ElemList l)

abbrev pub paths_in : Paths → List Path
paths_in l = (out-Paths l).items.items

abbrev pub types_from : List PlainType → PlainTypes
types_from [] = no_types
types_from (A ∷ As) = and_type A (types_from As)

abbrev pub ty_step : Ty-F PlainType PlainTypes → PlainType
ty_step Ty-F.Ns = ns
ty_step (Ty-F.Atom a) = atom a
ty_step (Ty-F.Arrow a b) = arrow a.value b.value
ty_step (Ty-F.Field i a) = field i a.value
ty_step (Ty-F.Meet all) = meet all

abbrev pub types_step : TyList-F PlainType PlainTypes → PlainTypes
types_step l = types_from l.items.items

-- the type that a tree is
abbrev pub plain_type : Ty → PlainType
plain_type = fold-Ty PlainType PlainTypes ty_step types_step

abbrev pub plain_types : TyList → PlainTypes
plain_types = fold-TyList PlainType PlainTypes ty_step types_step

-- one element of a path
pub data PlainElem : Type 0 where
  a_call : PlainPaths → PlainElem
  a_field : ℕ → PlainElem

-- a path with the element, or the elements, in front
abbrev pub front : PlainElem → PlainPath → PlainPath
front (a_call D) p = call D p
front (a_field i) p = pick i p

abbrev pub fronted : List PlainElem → PlainPath → PlainPath
fronted [] p = p
fronted (x ∷ xs) p = front x (fronted xs p)

-- each path with the element in front
abbrev pub all_front : PlainElem → PlainPaths → PlainPaths
all_front (a_call D) P = called D P
all_front (a_field i) P = picked i P

-- one element below another: a call with a domain the other way round, or the same field
pub data IsElemBelow : PlainElem → PlainElem → Type 0 where
  wider : {D E : PlainPaths} → ArePathsBelow E D → IsElemBelow (a_call D) (a_call E)
  same_field : {i : ℕ} → IsElemBelow (a_field i) (a_field i)

abbrev pub paths_from : List PlainPath → PlainPaths
paths_from [] = no_paths
paths_from (p ∷ ps) = and_path p (paths_from ps)

abbrev pub elem_step : PathElem-F (List PlainElem) PlainElem PlainPath PlainPaths → PlainElem
elem_step (PathElem-F.Call D) = a_call D.value
elem_step (PathElem-F.Field i) = a_field i

abbrev pub elems_step : ElemList-F (List PlainElem) PlainElem PlainPath PlainPaths → List PlainElem
elems_step = elems_of

abbrev pub path_step : Path-F (List PlainElem) PlainElem PlainPath PlainPaths → PlainPath
path_step p = fronted p.elems (end p.end)

abbrev pub paths_step : Paths-F (List PlainElem) PlainElem PlainPath PlainPaths → PlainPaths
paths_step l = paths_from l.items.items

abbrev pub plain_elem : PathElem → PlainElem
plain_elem = fold-PathElem (List PlainElem) PlainElem PlainPath PlainPaths elems_step elem_step path_step paths_step

abbrev pub plain_elems : ElemList → List PlainElem
plain_elems = fold-ElemList (List PlainElem) PlainElem PlainPath PlainPaths elems_step elem_step path_step paths_step

-- the path that a value is: its elements in front of its end
abbrev pub plain_path : Path → PlainPath
plain_path = fold-Path (List PlainElem) PlainElem PlainPath PlainPaths elems_step elem_step path_step paths_step

-- the path form that a list is
abbrev pub plain_paths : Paths → PlainPaths
plain_paths = fold-Paths (List PlainElem) PlainElem PlainPath PlainPaths elems_step elem_step path_step paths_step

-- the type that a path form stands for
abbrev pub type_of_form : Paths → PlainType
type_of_form l = type_of_paths (plain_paths l)
