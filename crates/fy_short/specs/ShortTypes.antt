-- The short text of a type: the six predefined names stand for just their types, a field is `i: A`, and an arrow behind an arrow
-- stands without parentheses.
use Rattle.std.specs.Prelude.{ℕ, Bool, true, false, ◌&&◌, ◌||◌, ◌==◌, if◌then◌else◌, List, [], ◌++◌, codes, Option, Some, None, is_some, unwrap_or}
use Rattle.fy_base.specs.Outside.{Bytes}
use Rattle.fy_types.specs.declared.types.Atom.{Atom}
use Rattle.fy_types.specs.declared.types.Atom.TheVariants as atoms
use Rattle.fy_types.specs.Types.{PlainType, PlainTypes, ns, atom, arrow, field, meet, no_types, and_type}
use Rattle.fy_types.specs.Print.{atom_text, name_text}

-- the name of the variables that take the atom's data, where the second is its acceptor
abbrev pub variable_name : Atom → Atom → Option Bytes
variable_name atoms.Int atoms.IntAcc = Some (codes "intvar")
variable_name atoms.Bool atoms.BoolAcc = Some (codes "boolvar")
variable_name atoms.Char atoms.CharAcc = Some (codes "charvar")
variable_name a b = None

-- the name of the sequences of such parts
abbrev pub sequence_name : PlainType → Option Bytes
sequence_name (atom atoms.Int) = Some (codes "intseq")
sequence_name (atom atoms.Bool) = Some (codes "boolseq")
sequence_name (atom atoms.Char) = Some (codes "charseq")
sequence_name A = None

abbrev pub is_int : PlainType → Bool
is_int (atom atoms.Int) = true
is_int A = false

-- `len : int`, where `len` has the number 0
abbrev pub is_length : PlainType → Bool
is_length (field i A) = (i == 0) && is_int A
is_length A = false

-- the predefined name of a meet of two: `D & Dacc`, or `(int -> D) & (len : int)`
abbrev pub meet_name : PlainType → PlainType → Option Bytes
meet_name (atom a) (atom b) = variable_name a b
meet_name (arrow A B) C = if is_int A && is_length C then sequence_name B else None
meet_name A B = None

abbrev pub predefined_name : PlainTypes → Option Bytes
predefined_name (and_type A (and_type B no_types)) = meet_name A B
predefined_name As = None

-- what stands without parentheses beside other parts: an atom, `ns` and a predefined name
abbrev pub is_short : PlainType → Bool
is_short ns = true
is_short (atom a) = true
is_short (arrow A B) = false
is_short (field i A) = false
is_short (meet As) = is_some (predefined_name As)

-- the members of a meet
abbrev pub members_in : PlainType → PlainTypes
members_in (meet As) = As
members_in A = no_types

abbrev pub is_arrow : PlainType → Bool
is_arrow (arrow A B) = true
is_arrow A = false

abbrev pub in_parentheses_unless : Bool → Bytes → Bytes
in_parentheses_unless bare text = if bare then text else codes "(" ++ text ++ codes ")"

abbrev mutual
  pub short_type : List Bytes → PlainType → Bytes
  short_type names ns = codes "ns"
  short_type names (atom a) = atom_text a
  short_type names (arrow A B) =
      in_parentheses_unless (is_short A) (short_type names A) ++ codes " -> " ++ in_parentheses_unless (is_arrow B || is_short B) (short_type names B)
  short_type names (field i A) = name_text names i ++ codes ": " ++ in_parentheses_unless (is_short A) (short_type names A)
  short_type names (meet As) = unwrap_or (predefined_name As) (short_members names [] As)

  -- the members of a meet, the first behind a lead and each other behind ` & `
  pub short_members : List Bytes → Bytes → PlainTypes → Bytes
  short_members names lead no_types = []
  short_members names lead (and_type A As) =
      lead ++ in_parentheses_unless (is_short A) (short_type names A) ++ short_members names (codes " & ") As

-- the alternatives of an abstraction, the first behind a lead and each other behind ` | `
abbrev pub alternatives_text : List Bytes → Bytes → PlainTypes → Bytes
alternatives_text names lead no_types = []
alternatives_text names lead (and_type A As) = lead ++ short_type names A ++ alternatives_text names (codes " | ") As
