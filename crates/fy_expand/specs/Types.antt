-- Types that are written: what they are once their names are replaced, and how large.
use Rattle.std.specs.Prelude.{ℕ, Bool, ◌||◌, ◌==◌, nat_lt, if◌then◌else◌, Option, Some, None, List, [], ◌∷◌}
use Rattle.fy_base.specs.declared.data.Place.{Place}
use Rattle.fy_types.specs.declared.types.Atom.TheVariants as atom
use Rattle.fy_types.specs.Types.{PlainType, PlainTypes}
use Rattle.fy_types.specs.Subtyping.{both_of}
use Rattle.fy_types.specs.Nested.{type_nodes, type_nesting}
use Rattle.fy_syntax.specs.Trees.{TypeTree, TypeTrees}

-- a map with one more entry, which hides an older one of its name
abbrev pub with : {A : Type 0} → ℕ → A → (ℕ → Option A) → ℕ → Option A
with name x older n = if n == name then Some x else older n

-- the type that a name stands for; `ns` stands in where it stands for none, which is a fault
abbrev pub named_type : Option PlainType → PlainType
named_type None = PlainType.ns
named_type (Some A) = A

-- `i : j : .. A`
abbrev pub fields : List ℕ → PlainType → PlainType
fields [] A = A
fields (i ∷ names) A = PlainType.field i (fields names A)

abbrev mutual
  -- the type that is written, with what its names stand for
  pub type_of : (ℕ → Option PlainType) → TypeTree → PlainType
  type_of types (TypeTree.arrow a b at) = PlainType.arrow (type_of types a) (type_of types b)
  type_of types (TypeTree.meet members at) = PlainType.meet (types_of types members)
  type_of types (TypeTree.field names a at) = fields names (type_of types a)
  type_of types (TypeTree.ns at) = PlainType.ns
  type_of types (TypeTree.atom a at) = PlainType.atom a
  type_of types (TypeTree.ident name at) = named_type (types name)
  type_of types (TypeTree.group a at) = type_of types a

  pub types_of : (ℕ → Option PlainType) → TypeTrees → PlainTypes
  types_of types TypeTrees.no_types = PlainTypes.no_types
  types_of types (TypeTrees.and_type a more) = PlainTypes.and_type (type_of types a) (types_of types more)

-- the place of the first token
abbrev pub type_front : TypeTree → Place
type_front (TypeTree.arrow a b at) = at
type_front (TypeTree.meet members at) = at
type_front (TypeTree.field names a at) = at
type_front (TypeTree.ns at) = at
type_front (TypeTree.atom a at) = at
type_front (TypeTree.ident name at) = at
type_front (TypeTree.group a at) = at

-- a written type may have 4,096 nodes and nest 256
abbrev pub is_large_type : PlainType → Bool
is_large_type A = nat_lt 4096 (type_nodes A) || nat_lt 256 (type_nesting A)

-- `(int -> A) & (len : int)`; the name `len` has the number 0
abbrev pub sequence_of : PlainType → PlainType
sequence_of A = both_of (PlainType.arrow (PlainType.atom atom.Int) A) (PlainType.field 0 (PlainType.atom atom.Int))

-- `int & intacc`, the type of an integer variable
abbrev pub integer_variable : PlainType
integer_variable = both_of (PlainType.atom atom.Int) (PlainType.atom atom.IntAcc)

-- a sequence of integer variables
abbrev pub variable_sequence : PlainType
variable_sequence = sequence_of integer_variable

-- the predefined names of types, by their numbers in each list of names
abbrev pub predefined : ℕ → Option PlainType
predefined name =
    if name == 5 then Some integer_variable
    else (if name == 6 then Some (both_of (PlainType.atom atom.Bool) (PlainType.atom atom.BoolAcc))
    else (if name == 7 then Some (both_of (PlainType.atom atom.Char) (PlainType.atom atom.CharAcc))
    else (if name == 8 then Some (sequence_of (PlainType.atom atom.Int))
    else (if name == 9 then Some (sequence_of (PlainType.atom atom.Bool))
    else (if name == 10 then Some (sequence_of (PlainType.atom atom.Char))
    else (if name == 12 then Some variable_sequence
    else None))))))
