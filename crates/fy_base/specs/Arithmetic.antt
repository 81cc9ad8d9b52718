-- Arithmetic on data: integers of 64 bits that fault where they overflow, truth values and characters.
-- After Reynolds, "Design of the Programming Language Forsythe" (1996); the ranges and the faults are this project's.
use Rattle.std.specs.Prelude.{ℕ, ◌-◌, ◌^◌, ℤ, pos, negsuc, ◌+ℤ◌, ◌-ℤ◌, ◌*ℤ◌, int_div, int_rem, int_lt, int_le, Bool, true, false, not, ◌&&◌, ◌||◌, ◌==◌, nat_lt, nat_le, if◌then◌else◌, Some, None, codes, [], ◌∷◌}
use Rattle.std.specs.Ordering.{int_eq}
use Rattle.std.specs.Fmt.{signed_decimal}
use Rattle.std.specs.declared.option.Option.{Option}
use Rattle.fy_base.specs.declared.data.Datum.{Datum}
use Rattle.fy_base.specs.declared.data.Datum.TheVariants as datum
use Rattle.fy_base.specs.declared.data.UnOp.{UnOp}
use Rattle.fy_base.specs.declared.data.UnOp.TheVariants.{Neg, Not, Ord, Chr}
use Rattle.fy_base.specs.declared.data.BinOp.{BinOp}
use Rattle.fy_base.specs.declared.data.BinOp.TheVariants.{Add, Sub, Mul, Div, Rem, Eq, Ne, Lt, Le, Gt, Ge, And, Or}
use Rattle.fy_base.specs.declared.data.PutKind.{PutKind}
use Rattle.fy_base.specs.declared.data.PutKind.TheVariants as kind
use Rattle.fy_base.specs.declared.data.FaultKind.TheVariants.{Overflow, Zero, Range}
use Rattle.fy_base.specs.declared.arithmetic.Applied.{Applied}
use Rattle.fy_base.specs.declared.arithmetic.Applied.TheVariants.{Gives, Faults, NoSense}
use Rattle.fy_base.specs.Outside.{Bytes}

-- from -2^63 to 2^63 - 1
abbrev pub is_int : ℤ → Bool
is_int z = int_le (negsuc (2 ^ 63 - 1)) z && int_le z (pos (2 ^ 63 - 1))

-- a number as a datum, or the fault where 64 bits don't hold it
abbrev pub int_or_overflow : ℤ → Applied
int_or_overflow z = if is_int z then Gives (datum.Int z) else Faults Overflow

-- a number as a datum, or the fault where there is none
abbrev pub int_if_some : Option ℤ → Applied
int_if_some (Some z) = Gives (datum.Int z)
int_if_some None = Faults Overflow

-- a result that a zero divisor has not
abbrev pub unless_zero : ℤ → Applied → Applied
unless_zero divisor result = if int_eq divisor (pos 0) then Faults Zero else result

-- the character of a code, from 0 to 255
abbrev pub char_of : ℤ → Applied
char_of (pos n) = if nat_lt n 256 then Gives (datum.Char n) else Faults Range
char_of (negsuc n) = Faults Range

abbrev pub truth : Bool → Applied
truth b = Gives (datum.Bool b)

-- whether two truth values are equal
abbrev pub same_truth : Bool → Bool → Bool
same_truth true b = b
same_truth false b = not b

-- what an operator makes of one datum
abbrev pub unary_result : UnOp → Datum → Applied
unary_result Neg (datum.Int x) = int_or_overflow (pos 0 -ℤ x)
unary_result Not (datum.Bool b) = truth (not b)
unary_result Ord (datum.Char c) = Gives (datum.Int (pos c))
unary_result Chr (datum.Int x) = char_of x
unary_result _ _ = NoSense

-- what an operator makes of two integers; division truncates toward zero, and a remainder has the dividend's sign
abbrev pub int_result : BinOp → ℤ → ℤ → Applied
int_result Add x y = int_or_overflow (x +ℤ y)
int_result Sub x y = int_or_overflow (x -ℤ y)
int_result Mul x y = int_or_overflow (x *ℤ y)
int_result Div x y = unless_zero y (int_or_overflow (int_div x y))
int_result Rem x y = unless_zero y (Gives (datum.Int (int_rem x y)))
int_result Eq x y = truth (int_eq x y)
int_result Ne x y = truth (not (int_eq x y))
int_result Lt x y = truth (int_lt x y)
int_result Le x y = truth (int_le x y)
int_result Gt x y = truth (int_lt y x)
int_result Ge x y = truth (int_le y x)
int_result And x y = NoSense
int_result Or x y = NoSense

abbrev pub char_result : BinOp → ℕ → ℕ → Applied
char_result Eq x y = truth (x == y)
char_result Ne x y = truth (not (x == y))
char_result Lt x y = truth (nat_lt x y)
char_result Le x y = truth (nat_le x y)
char_result Gt x y = truth (nat_lt y x)
char_result Ge x y = truth (nat_le y x)
char_result _ x y = NoSense

abbrev pub bool_result : BinOp → Bool → Bool → Applied
bool_result Eq x y = truth (same_truth x y)
bool_result Ne x y = truth (not (same_truth x y))
bool_result And x y = truth (x && y)
bool_result Or x y = truth (x || y)
bool_result _ x y = NoSense

-- what an operator makes of two data; data of two types make no sense
abbrev pub binary_result : BinOp → Datum → Datum → Applied
binary_result op (datum.Int x) (datum.Int y) = int_result op x y
binary_result op (datum.Char x) (datum.Char y) = char_result op x y
binary_result op (datum.Bool x) (datum.Bool y) = bool_result op x y
binary_result op _ _ = NoSense

abbrev pub truth_text : Bool → Bytes
truth_text true = codes "true"
truth_text false = codes "false"

-- the text that an output statement of a kind writes of a datum of that kind
abbrev pub written_text : PutKind → Datum → Option Bytes
written_text kind.Int (datum.Int x) = Some (signed_decimal x)
written_text kind.Char (datum.Char c) = Some (c ∷ [])
written_text kind.Bool (datum.Bool b) = Some (truth_text b)
written_text _ _ = None
