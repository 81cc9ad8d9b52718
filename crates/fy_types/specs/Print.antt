-- The text of a type.
use Rattle.std.specs.Prelude.{ℕ, Bool, true, false, ◌==◌, if◌then◌else◌, List, [], ◌++◌, codes, slice_get, unwrap_or}
use Rattle.fy_base.specs.Outside.{Bytes}
use Rattle.fy_types.specs.declared.types.Atom.{Atom}
use Rattle.fy_types.specs.declared.types.Atom.TheVariants.{Int, Char, Comm, Compl, IntAcc, BoolAcc, CharAcc}
use Rattle.fy_types.specs.declared.types.Atom.TheVariants as atoms
use Rattle.fy_types.specs.Types.{PlainType, PlainTypes, ns, atom, arrow, field, meet, no_types, and_type}

abbrev pub atom_text : Atom → Bytes
atom_text Int = codes "int"
atom_text atoms.Bool = codes "bool"
atom_text Char = codes "char"
atom_text Comm = codes "comm"
atom_text Compl = codes "compl"
atom_text IntAcc = codes "intacc"
atom_text BoolAcc = codes "boolacc"
atom_text CharAcc = codes "characc"

-- the text of a name, and nothing for a number past the list's end
abbrev pub name_text : List Bytes → ℕ → Bytes
name_text names i = unwrap_or (slice_get names i) []

-- an atom or `ns`
abbrev pub is_bare : PlainType → Bool
is_bare ns = true
is_bare (atom a) = true
is_bare (arrow A B) = false
is_bare (field i A) = false
is_bare (meet As) = false

-- the text of a direct part: an atom or `ns` as it is, any other in parentheses
abbrev pub enclosed : PlainType → Bytes → Bytes
enclosed A text = if is_bare A then text else codes "(" ++ text ++ codes ")"

abbrev mutual
  pub type_text : List Bytes → PlainType → Bytes
  type_text names ns = codes "ns"
  type_text names (atom a) = atom_text a
  type_text names (arrow A B) = enclosed A (type_text names A) ++ codes " -> " ++ enclosed B (type_text names B)
  type_text names (field i A) = name_text names i ++ codes " : " ++ enclosed A (type_text names A)
  type_text names (meet As) = members_text names As

  -- the members of a meet, with ` & ` between them
  pub members_text : List Bytes → PlainTypes → Bytes
  members_text names no_types = []
  members_text names (and_type A As) = enclosed A (type_text names A) ++ further_text names As

  pub further_text : List Bytes → PlainTypes → Bytes
  further_text names no_types = []
  further_text names (and_type A As) = codes " & " ++ enclosed A (type_text names A) ++ further_text names As

-- what stands before the member with that index
abbrev pub separator_text : ℕ → Bytes
separator_text i = if i == 0 then [] else codes " & "
