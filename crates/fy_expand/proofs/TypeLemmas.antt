-- The sizes of types.
use Rattle.std.proofs.Common.{◌≡◌, ℕ, ◌+◌, ◌≤◌, List, [], ◌∷◌, length, map, take, Option, refl, sym, ap, ◌∙◌, arith}
use Rattle.std.proofs.lemmas.List.{take_all}
use Rattle.fy_types.specs.Types.{PlainType, PlainTypes}
use Rattle.fy_types.specs.Reading as plain
use Rattle.fy_types.specs.declared.types.TyList.{TyList}
use Rattle.fy_types.proofs.ReadLemmas.{plain_types-at}
use Rattle.fy_syntax.specs.declared.types.Decl.{Decl}
use Rattle.fy_syntax.specs.declared.types.SurfaceTy.{SurfaceTy}
use Rattle.fy_syntax.specs.Trees.{DeclTree}
use Rattle.fy_syntax.specs.Reading.{types_from, type_tree, decl_tree}
use Rattle.fy_types.specs.Nested.{type_nodes, type_nesting}
use Rattle.fy_expand.specs.Types.{fields, type_of, types_of}
use Rattle.fy_expand.specs.Core.{declared, meet_of}
use Rattle.fy_expand.specs.Measures.{type_measure, types_measure, under_nodes}
use Rattle.fy_expand.proofs.MeasureLemmas.{same_size}

-- fields one inside the other
fields-nodes : (names : List ℕ) (A : PlainType) → type_nodes (fields names A) ≡ type_nodes A + length names
fields-nodes [] A = omega arith
fields-nodes (i ∷ names) A = omega (arith, fields-nodes names A)

fields-nesting : (names : List ℕ) (A : PlainType) → type_nesting (fields names A) ≡ type_nesting A + length names
fields-nesting [] A = omega arith
fields-nesting (i ∷ names) A = omega (arith, fields-nesting names A)

pub type_measure-fields : (names : List ℕ) (A : PlainType) → type_measure (fields names A) ≡ under_nodes (length names) (type_measure A)
type_measure-fields names A = same_size _ _ _ _ (omega (arith, fields-nodes names A)) (omega (arith, fields-nesting names A))

pub type_measure-meet : (As : PlainTypes) → under_nodes 1 (types_measure As) ≡ type_measure (PlainType.meet As)
type_measure-meet As = same_size _ _ _ _ (omega arith) (omega arith)

-- the meet of no fields or of several
pub meet_of-declared : (types : ℕ → Option PlainType) (ds : List DeclTree) → (length ds ≡ 1 → ⊥) → PlainType.meet (declared types ds) ≡ meet_of (declared types ds)
meet_of-declared types [] h = refl
meet_of-declared types (d ∷ []) h = absurd (h refl)
meet_of-declared types (d ∷ e ∷ ds) h = refl

pub type_measure-declared : (types : ℕ → Option PlainType) (ds : List DeclTree) → (length ds ≡ 1 → ⊥) → under_nodes 1 (types_measure (declared types ds)) ≡ type_measure (meet_of (declared types ds))
type_measure-declared types ds h = type_measure-meet (declared types ds) ∙ ap type_measure (meet_of-declared types ds h)

-- lists of types, member by member
types_of-from : (types : ℕ → Option PlainType) (ts : List SurfaceTy) → types_of types (types_from (map type_tree ts)) ≡ plain.types_from (map (λ a. type_of types (type_tree a)) ts)
types_of-from types [] = refl
types_of-from types (a ∷ ts) = ap (PlainTypes.and_type (type_of types (type_tree a))) (types_of-from types ts)

declared-from : (types : ℕ → Option PlainType) (ds : List Decl) →
    declared types (map decl_tree ds) ≡ plain.types_from (map (λ (d : Decl). PlainType.field d.name (type_of types (type_tree d.ty))) ds)
declared-from types [] = refl
declared-from types (d ∷ ds) = ap (PlainTypes.and_type (PlainType.field d.name (type_of types (type_tree d.ty)))) (declared-from types ds)

-- what is built of all members
pub types_of-built : (types : ℕ → Option PlainType) (made : TyList) (ts : List SurfaceTy) (i : ℕ) → length ts ≤ i →
    map plain.plain_type (plain.types_in made) ≡ map (λ a. type_of types (type_tree a)) (take i ts) → plain.plain_types made ≡ types_of types (types_from (map type_tree ts))
types_of-built types made ts i h is =
    plain_types-at made ∙ ap plain.types_from (is ∙ ap (map (λ a. type_of types (type_tree a))) (take_all i ts h)) ∙ sym (types_of-from types ts)

pub declared-built : (types : ℕ → Option PlainType) (made : TyList) (ds : List Decl) (i : ℕ) → length ds ≤ i →
    map plain.plain_type (plain.types_in made) ≡ map (λ (d : Decl). PlainType.field d.name (type_of types (type_tree d.ty))) (take i ds) →
    plain.plain_types made ≡ declared types (map decl_tree ds)
declared-built types made ds i h is =
    plain_types-at made ∙ ap plain.types_from (is ∙ ap (map (λ (d : Decl). PlainType.field d.name (type_of types (type_tree d.ty)))) (take_all i ds h)) ∙ sym (declared-from types ds)
