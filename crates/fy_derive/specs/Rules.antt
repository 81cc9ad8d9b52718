-- The typing rules as data: the premises of a form, and its conclusion from the context and its premises' types.
pub use Rattle.fy_phrase.specs.Premises.{Binder, nothing, first, given, Premise, of_parts, premises}
use Rattle.std.specs.Prelude.{ℕ, Bool, true, false, ◌&&◌, ◌||◌, ◌==◌, List, [], ◌∷◌, Option, Some, None, slice_get, if◌then◌else◌}
use Rattle.fy_base.specs.declared.data.BinOp.{BinOp}
use Rattle.fy_types.specs.declared.types.Atom.{Atom}
use Rattle.fy_types.specs.declared.types.Atom.TheVariants.{Int, Bool as Truth, Comm, Compl, IntAcc}
use Rattle.fy_types.specs.Types.{PlainType, PlainTypes, ns, atom, arrow, field as field_type, meet, no_types, and_type}
use Rattle.fy_types.specs.Once.{place}
use Rattle.fy_phrase.specs.declared.phrase.DataTy.{DataTy}
use Rattle.fy_phrase.specs.declared.phrase.DataTy.TheVariants as data_type
use Rattle.fy_phrase.specs.Tree.{Tree, var, lit, unary, binary, cond, case, lam, app, field, sel, merge, let_in, rec, skip, seq, assign, while_do, forever, new, cells, escape, accept, put, read, mark}
use Rattle.fy_derive.specs.Atoms.{data_atom, acceptor_atom, datum_atom, operand_atom, unary_atom, takes, binary_atom, put_atom}
use Rattle.fy_derive.specs.Tables.{type_at}

-- whether two types are the same tree
abbrev mutual
  pub same_type : PlainType → PlainType → Bool
  same_type ns ns = true
  same_type (atom a) (atom b) = place a == place b
  same_type (arrow A B) (arrow C D) = same_type A C && same_type B D
  same_type (field_type i A) (field_type j B) = (i == j) && same_type A B
  same_type (meet As) (meet Bs) = same_types As Bs
  same_type A B = false

  pub same_types : PlainTypes → PlainTypes → Bool
  same_types no_types no_types = true
  same_types (and_type A As) (and_type B Bs) = same_type A B && same_types As Bs
  same_types As Bs = false

-- the type, if the test is passed
abbrev pub provided : Bool → PlainType → Option PlainType
provided b A = if b then Some A else None

abbrev pub is_atom : Atom → PlainType → Bool
is_atom a A = same_type A (atom a)

-- two data of one type that the operator takes
abbrev pub are_operands : BinOp → DataTy → PlainType → PlainType → Bool
are_operands op D A B = takes op D && (is_atom (data_atom D) A && is_atom (data_atom D) B)

abbrev pub fits_operator : BinOp → PlainType → PlainType → Bool
fits_operator op A B =
    are_operands op data_type.Int A B || (are_operands op data_type.Bool A B || are_operands op data_type.Char A B)

abbrev pub chosen : PlainType → PlainType → PlainType → Option PlainType
chosen B A C = provided (is_atom Truth B && same_type A C) A

-- whether the types are all the same as the first
abbrev pub all_same : PlainType → List PlainType → Bool
all_same A [] = true
all_same A (B ∷ Bs) = same_type A B && all_same A Bs

abbrev pub picked_type : List PlainType → Option PlainType
picked_type [] = None
picked_type (E ∷ []) = None
picked_type (E ∷ A ∷ As) = provided (is_atom Int E && all_same A As) A

abbrev pub applied : PlainType → PlainType → Option PlainType
applied (arrow A C) B = provided (same_type A B) C
applied F B = None

abbrev pub selected : PlainType → ℕ → Option PlainType
selected (field_type j A) i = provided (i == j) A
selected F i = None

-- the second type, if it is that of a command and the first one is the atom
abbrev pub command_behind : Atom → PlainType → PlainType → Option PlainType
command_behind a A R = provided (is_atom a A && (is_atom Comm R || is_atom Compl R)) R

abbrev pub is_assignment : DataTy → PlainType → PlainType → Bool
is_assignment D A B = is_atom (acceptor_atom D) A && is_atom (data_atom D) B

abbrev pub fits_assignment : PlainType → PlainType → Bool
fits_assignment A B =
    is_assignment data_type.Int A B || (is_assignment data_type.Bool A B || is_assignment data_type.Char A B)

-- the rule's conclusion from those of its premises, if it has one
abbrev pub conclusion : List PlainType → Tree → List PlainType → Option PlainType
conclusion G (var k at) As = slice_get G k
conclusion G (lit v at) As = Some (atom (datum_atom v))
conclusion G (unary op p at) As = provided (is_atom (operand_atom op) (type_at As 0)) (atom (unary_atom op))
conclusion G (binary op p q at) As = provided (fits_operator op (type_at As 0) (type_at As 1)) (atom (binary_atom op))
conclusion G (cond b p q at) As = chosen (type_at As 0) (type_at As 1) (type_at As 2)
conclusion G (case e parts at) As = picked_type As
conclusion G (lam d Bs b at) As = None
conclusion G (app p q at) As = applied (type_at As 0) (type_at As 1)
conclusion G (field i p at) As = Some (field_type i (type_at As 0))
conclusion G (sel p i at) As = selected (type_at As 0) i
conclusion G (merge p q at) As = None
conclusion G (let_in d p b at) As = Some (type_at As 1)
conclusion G (rec d T b at) As = provided (same_type (type_at As 0) T) T
conclusion G (skip at) As = Some (atom Comm)
conclusion G (seq p q at) As = command_behind Comm (type_at As 0) (type_at As 1)
conclusion G (assign p q at) As = provided (fits_assignment (type_at As 0) (type_at As 1)) (atom Comm)
conclusion G (while_do b c at) As = provided (is_atom Truth (type_at As 0) && is_atom Comm (type_at As 1)) (atom Comm)
conclusion G (forever c at) As = provided (is_atom Comm (type_at As 0)) (atom Compl)
conclusion G (new d D e b at) As = command_behind (data_atom D) (type_at As 0) (type_at As 1)
conclusion G (cells d e b at) As = command_behind Int (type_at As 0) (type_at As 1)
conclusion G (escape d b at) As = provided (is_atom Comm (type_at As 0)) (atom Comm)
conclusion G (accept d D b at) As = provided (is_atom Comm (type_at As 0)) (atom (acceptor_atom D))
conclusion G (put kind p at) As = provided (is_atom (put_atom kind) (type_at As 0)) (atom Comm)
conclusion G (read p at) As = provided (is_atom IntAcc (type_at As 0)) (atom Comm)
conclusion G (mark m at) As = None
