-- Operators on data of their types give data of their types, or fault.
use Rattle.std.proofs.Common.{ℕ, ◌≡◌, ℤ, pos, negsuc, ◌+ℤ◌, ◌-ℤ◌, ◌*ℤ◌, Bool, true, false, cond, nat_lt, refl}
use Rattle.std.specs.Prelude.{int_div, int_rem}
use Rattle.std.specs.Ordering.{int_eq}
use Rattle.fy_base.specs.declared.data.Datum.{Datum}
use Rattle.fy_base.specs.declared.data.Datum.TheVariants as datum
use Rattle.fy_base.specs.declared.data.UnOp.{UnOp}
use Rattle.fy_base.specs.declared.data.UnOp.TheVariants.{Neg, Not, Ord, Chr}
use Rattle.fy_base.specs.declared.data.BinOp.{BinOp}
use Rattle.fy_base.specs.declared.data.BinOp.TheVariants.{Add, Sub, Mul, Div, Rem, Eq, Ne, Lt, Le, Gt, Ge, And, Or}
use Rattle.fy_base.specs.declared.data.FaultKind.TheVariants.{Overflow, Zero, Range}
use Rattle.fy_base.specs.declared.arithmetic.Applied.{Applied}
use Rattle.fy_base.specs.declared.arithmetic.Applied.TheVariants.{Gives, Faults, NoSense}
use Rattle.fy_base.specs.Arithmetic.{is_int, int_or_overflow, unless_zero, char_of, unary_result, int_result, char_result, bool_result, binary_result}
use Rattle.fy_types.specs.declared.types.Atom.{Atom}
use Rattle.fy_types.specs.declared.types.Atom.TheVariants as atoms
use Rattle.fy_phrase.specs.declared.phrase.DataTy.{DataTy}
use Rattle.fy_phrase.specs.declared.phrase.DataTy.TheVariants as data_type
use Rattle.fy_derive.specs.Atoms.{data_atom, datum_atom, operand_atom, unary_atom, takes, binary_atom}

-- a datum of the type, or a fault
abbrev pub ResultIs : Atom → Applied → Type 0
ResultIs a (Gives v) = datum_atom v ≡ a
ResultIs a (Faults kind) = Unit {0}
ResultIs a NoSense = ⊥

ResultIs-if : (a : Atom) (b : Bool) (x y : Applied) → ResultIs a x → ResultIs a y → ResultIs a (cond b x y)
ResultIs-if a true x y h k = h
ResultIs-if a false x y h k = k

int_or_overflow-is : (z : ℤ) → ResultIs atoms.Int (int_or_overflow z)
int_or_overflow-is z = ResultIs-if atoms.Int (is_int z) (Gives (datum.Int z)) (Faults Overflow) refl tt

unless_zero-is : (z : ℤ) (x : Applied) → ResultIs atoms.Int x → ResultIs atoms.Int (unless_zero z x)
unless_zero-is z x h = ResultIs-if atoms.Int (int_eq z (pos 0)) (Faults Zero) x tt h

char_of-is : (z : ℤ) → ResultIs atoms.Char (char_of z)
char_of-is (pos n) = ResultIs-if atoms.Char (nat_lt n 256) (Gives (datum.Char n)) (Faults Range) refl tt
char_of-is (negsuc n) = tt

pub unary-typed : (op : UnOp) (v : Datum) → datum_atom v ≡ operand_atom op → ResultIs (unary_atom op) (unary_result op v)
unary-typed Neg (datum.Int x) e = int_or_overflow-is (pos 0 -ℤ x)
unary-typed Neg v e = absurd cc
unary-typed Not (datum.Bool b) e = refl
unary-typed Not v e = absurd cc
unary-typed Ord (datum.Char c) e = refl
unary-typed Ord v e = absurd cc
unary-typed Chr (datum.Int x) e = char_of-is x
unary-typed Chr v e = absurd cc

ints-typed : (op : BinOp) (x y : ℤ) → takes op data_type.Int ≡ true → ResultIs (binary_atom op) (int_result op x y)
ints-typed Add x y t = int_or_overflow-is (x +ℤ y)
ints-typed Sub x y t = int_or_overflow-is (x -ℤ y)
ints-typed Mul x y t = int_or_overflow-is (x *ℤ y)
ints-typed Div x y t = unless_zero-is y (int_or_overflow (int_div x y)) (int_or_overflow-is (int_div x y))
ints-typed Rem x y t = unless_zero-is y (Gives (datum.Int (int_rem x y))) refl
ints-typed Eq x y t = refl
ints-typed Ne x y t = refl
ints-typed Lt x y t = refl
ints-typed Le x y t = refl
ints-typed Gt x y t = refl
ints-typed Ge x y t = refl
ints-typed And x y t = absurd cc
ints-typed Or x y t = absurd cc

chars-typed : (op : BinOp) (x y : ℕ) → takes op data_type.Char ≡ true → ResultIs (binary_atom op) (char_result op x y)
chars-typed Eq x y t = refl
chars-typed Ne x y t = refl
chars-typed Lt x y t = refl
chars-typed Le x y t = refl
chars-typed Gt x y t = refl
chars-typed Ge x y t = refl
chars-typed op x y t = absurd cc

truths-typed : (op : BinOp) (x y : Bool) → takes op data_type.Bool ≡ true → ResultIs (binary_atom op) (bool_result op x y)
truths-typed Eq x y t = refl
truths-typed Ne x y t = refl
truths-typed And x y t = refl
truths-typed Or x y t = refl
truths-typed op x y t = absurd cc

pub binary-typed : (op : BinOp) (D : DataTy) (u v : Datum) → takes op D ≡ true → datum_atom u ≡ data_atom D → datum_atom v ≡ data_atom D →
    ResultIs (binary_atom op) (binary_result op u v)
binary-typed op data_type.Int (datum.Int x) (datum.Int y) t e f = ints-typed op x y t
binary-typed op data_type.Bool (datum.Bool x) (datum.Bool y) t e f = truths-typed op x y t
binary-typed op data_type.Char (datum.Char x) (datum.Char y) t e f = chars-typed op x y t
binary-typed op D u v t e f = absurd cc
