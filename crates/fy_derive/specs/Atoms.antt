-- The atoms that the typing rules name.
pub use Rattle.fy_phrase.specs.Premises.{data_atom, acceptor_atom, cell_type, sequence_type}
use Rattle.std.specs.Prelude.{Bool, true, false}
use Rattle.fy_base.specs.declared.data.Datum.{Datum}
use Rattle.fy_base.specs.declared.data.Datum.TheVariants as datum
use Rattle.fy_base.specs.declared.data.UnOp.{UnOp}
use Rattle.fy_base.specs.declared.data.UnOp.TheVariants.{Neg, Not, Ord, Chr}
use Rattle.fy_base.specs.declared.data.BinOp.{BinOp}
use Rattle.fy_base.specs.declared.data.BinOp.TheVariants.{Add, Sub, Mul, Div, Rem, Eq, Ne, Lt, Le, Gt, Ge, And, Or}
use Rattle.fy_base.specs.declared.data.PutKind.{PutKind}
use Rattle.fy_base.specs.declared.data.PutKind.TheVariants as put_kind
use Rattle.fy_types.specs.declared.types.Atom.{Atom}
use Rattle.fy_types.specs.declared.types.Atom.TheVariants.{Int, Bool as Truth, Char, Comm, Compl, IntAcc, BoolAcc, CharAcc}
use Rattle.fy_phrase.specs.declared.phrase.DataTy.{DataTy}
use Rattle.fy_phrase.specs.declared.phrase.DataTy.TheVariants as data_type

-- the data type of a datum
abbrev pub datum_atom : Datum → Atom
datum_atom (datum.Int n) = Int
datum_atom (datum.Bool b) = Truth
datum_atom (datum.Char c) = Char

-- what an operator on one datum takes, and what it gives
abbrev pub operand_atom : UnOp → Atom
operand_atom Neg = Int
operand_atom Not = Truth
operand_atom Ord = Char
operand_atom Chr = Int

abbrev pub unary_atom : UnOp → Atom
unary_atom Neg = Int
unary_atom Not = Truth
unary_atom Ord = Int
unary_atom Chr = Char

-- whether an operator takes two data of a type: sums and products integers, `=` and `<>` all, the orders integers and
-- characters, `and` and `or` truth values
abbrev pub takes : BinOp → DataTy → Bool
takes Add data_type.Int = true
takes Add data_type.Bool = false
takes Add data_type.Char = false
takes Sub data_type.Int = true
takes Sub data_type.Bool = false
takes Sub data_type.Char = false
takes Mul data_type.Int = true
takes Mul data_type.Bool = false
takes Mul data_type.Char = false
takes Div data_type.Int = true
takes Div data_type.Bool = false
takes Div data_type.Char = false
takes Rem data_type.Int = true
takes Rem data_type.Bool = false
takes Rem data_type.Char = false
takes Eq D = true
takes Ne D = true
takes Lt data_type.Int = true
takes Lt data_type.Bool = false
takes Lt data_type.Char = true
takes Le data_type.Int = true
takes Le data_type.Bool = false
takes Le data_type.Char = true
takes Gt data_type.Int = true
takes Gt data_type.Bool = false
takes Gt data_type.Char = true
takes Ge data_type.Int = true
takes Ge data_type.Bool = false
takes Ge data_type.Char = true
takes And data_type.Int = false
takes And data_type.Bool = true
takes And data_type.Char = false
takes Or data_type.Int = false
takes Or data_type.Bool = true
takes Or data_type.Char = false

-- what an operator on two data gives
abbrev pub binary_atom : BinOp → Atom
binary_atom Add = Int
binary_atom Sub = Int
binary_atom Mul = Int
binary_atom Div = Int
binary_atom Rem = Int
binary_atom Eq = Truth
binary_atom Ne = Truth
binary_atom Lt = Truth
binary_atom Le = Truth
binary_atom Gt = Truth
binary_atom Ge = Truth
binary_atom And = Truth
binary_atom Or = Truth

-- what an output statement of a kind takes
abbrev pub put_atom : PutKind → Atom
put_atom put_kind.Int = Int
put_atom put_kind.Char = Char
put_atom put_kind.Bool = Truth

-- a command, or one that never completes
abbrev pub is_command : Atom → Bool
is_command Int = false
is_command Truth = false
is_command Char = false
is_command Comm = true
is_command Compl = true
is_command IntAcc = false
is_command BoolAcc = false
is_command CharAcc = false

-- an acceptor of data
abbrev pub is_acceptor : Atom → Bool
is_acceptor Int = false
is_acceptor Truth = false
is_acceptor Char = false
is_acceptor Comm = false
is_acceptor Compl = false
is_acceptor IntAcc = true
is_acceptor BoolAcc = true
is_acceptor CharAcc = true
