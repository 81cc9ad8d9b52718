-- The names of fields in a type and in a path form, and the members of a type's meets.
use Rattle.std.specs.Prelude.{◌≡◌, ℕ, IsTrue, List, [], ◌∷◌, ◌++◌, slice_get, Some}
use Rattle.fy_base.specs.Outside.{Bytes}
use Rattle.fy_types.specs.Types.{PlainType, PlainTypes, ns, atom, arrow, field, meet, no_types, and_type}
use Rattle.fy_types.specs.Paths.{PlainPath, PlainPaths, end, call, pick, no_paths, and_path}
use Rattle.fy_types.specs.Reading.{PlainElem, a_call, a_field}
use Rattle.fy_types.specs.Words.{is_identifier}

-- the number is that of an identifier among the names
pub record IsNamed (names : List Bytes) (i : ℕ) : Type 0 where
  pub name : Bytes
  pub numbered : slice_get names i ≡ Some name
  pub identifier : IsTrue (is_identifier name)

abbrev mutual
  -- each field's name has the property
  pub AllFields : (ℕ → Type 0) → PlainType → Type 0
  AllFields P ns = Unit {0}
  AllFields P (atom a) = Unit {0}
  AllFields P (arrow A B) = AllFields P A × AllFields P B
  AllFields P (field i A) = P i × AllFields P A
  AllFields P (meet As) = AllFieldsOf P As

  pub AllFieldsOf : (ℕ → Type 0) → PlainTypes → Type 0
  AllFieldsOf P no_types = Unit {0}
  AllFieldsOf P (and_type A As) = AllFields P A × AllFieldsOf P As

abbrev mutual
  -- each field that a path demands has the property, in its domains too
  pub AllPathFields : (ℕ → Type 0) → PlainPath → Type 0
  AllPathFields P (end a) = Unit {0}
  AllPathFields P (call D p) = AllFormFields P D × AllPathFields P p
  AllPathFields P (pick i p) = P i × AllPathFields P p

  -- the same of each path of a path form
  pub AllFormFields : (ℕ → Type 0) → PlainPaths → Type 0
  AllFormFields P no_paths = Unit {0}
  AllFormFields P (and_path p F) = AllPathFields P p × AllFormFields P F

abbrev mutual
  -- the names of the fields, in order of text
  pub fields_in : PlainType → List ℕ
  fields_in ns = []
  fields_in (atom a) = []
  fields_in (arrow A B) = fields_in A ++ fields_in B
  fields_in (field i A) = i ∷ fields_in A
  fields_in (meet As) = fields_in_all As

  pub fields_in_all : PlainTypes → List ℕ
  fields_in_all no_types = []
  fields_in_all (and_type A As) = fields_in A ++ fields_in_all As

abbrev mutual
  -- the names of the fields that a path demands, and those of a path form, in the same order
  pub fields_in_path : PlainPath → List ℕ
  fields_in_path (end a) = []
  fields_in_path (call D p) = fields_in_form D ++ fields_in_path p
  fields_in_path (pick i p) = i ∷ fields_in_path p

  pub fields_in_form : PlainPaths → List ℕ
  fields_in_form no_paths = []
  fields_in_form (and_path p F) = fields_in_path p ++ fields_in_form F

-- those of one element
abbrev pub fields_in_elem : PlainElem → List ℕ
fields_in_elem (a_call D) = fields_in_form D
fields_in_elem (a_field i) = i ∷ []

-- two types or more
abbrev pub AreSome : PlainTypes → Type 0
AreSome no_types = ⊥
AreSome (and_type A no_types) = ⊥
AreSome (and_type A (and_type B As)) = Unit {0}

abbrev mutual
  -- each meet has two members or more
  pub HasFullMeets : PlainType → Type 0
  HasFullMeets ns = Unit {0}
  HasFullMeets (atom a) = Unit {0}
  HasFullMeets (arrow A B) = HasFullMeets A × HasFullMeets B
  HasFullMeets (field i A) = HasFullMeets A
  HasFullMeets (meet As) = AreSome As × HaveFullMeets As

  pub HaveFullMeets : PlainTypes → Type 0
  HaveFullMeets no_types = Unit {0}
  HaveFullMeets (and_type A As) = HasFullMeets A × HaveFullMeets As
