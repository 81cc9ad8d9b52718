-- What operators make of data of 64 bits are such data.
use Rattle.std.proofs.Common.{◌≡◌, ℕ, ℤ, pos, ◌+ℤ◌, ◌-ℤ◌, ◌*ℤ◌, Bool, true, nat_lt, int_div, int_rem, int_eq, arith, ltb-true}
use Rattle.std.proofs.lemmas.Bool.{cond_both}
use lib.Signed.{mag_rem}
use Rattle.fy_base.specs.declared.data.Datum.TheVariants as datum
use Rattle.fy_base.specs.declared.data.UnOp.TheVariants.{Neg, Not, Ord, Chr}
use Rattle.fy_base.specs.declared.data.BinOp.{BinOp}
use Rattle.fy_base.specs.declared.data.BinOp.TheVariants.{Add, Sub, Mul, Div, Rem, Eq, Ne, Lt, Le, Gt, Ge, And, Or}
use Rattle.fy_base.specs.declared.data.FaultKind.TheVariants.{Overflow, Zero, Range}
use Rattle.fy_base.specs.declared.arithmetic.Applied.TheVariants.{Gives, Faults}
use Rattle.fy_base.specs.Arithmetic.{is_int, int_or_overflow, int_result, char_result, bool_result}
use Rattle.rv_operators.specs.Laws.{IsResult, UnaryResultsFit, BinaryResultsFit}
use Rattle.rv_operators.proofs.Numbers.{fits, is_int_true}

int_fits : (z : ℤ) → IsResult (int_or_overflow z)
int_fits z = cond_both (is_int z) (Gives (datum.Int z)) (Faults Overflow) IsResult (λ is. is) (λ is. tt)

pub unary_fits : UnaryResultsFit
unary_fits Neg (datum.Int x) f = int_fits (pos 0 -ℤ x)
unary_fits Not (datum.Bool b) f = tt
unary_fits Ord (datum.Char c) f = is_int_true (pos c) (record { sfits = omega arith })
unary_fits Chr (datum.Int (pos n)) f = cond_both (nat_lt n 256) (Gives (datum.Char n)) (Faults Range) IsResult (λ is. ltb-true n 256 is) (λ is. tt)
unary_fits op v f = tt

ints_fit : (op : BinOp) (x y : ℤ) → is_int x ≡ true → IsResult (int_result op x y)
ints_fit Add x y f = int_fits (x +ℤ y)
ints_fit Sub x y f = int_fits (x -ℤ y)
ints_fit Mul x y f = int_fits (x *ℤ y)
ints_fit Div x y f = cond_both (int_eq y (pos 0)) (Faults Zero) (int_or_overflow (int_div x y)) IsResult (λ is. tt) (λ is. int_fits (int_div x y))
ints_fit Rem x y f =
    let small = (fits x f).sfits in
    let below = mag_rem x y in
    cond_both (int_eq y (pos 0)) (Faults Zero) (Gives (datum.Int (int_rem x y))) IsResult (λ is. tt) (λ is. is_int_true (int_rem x y) (record { sfits = omega arith }))
ints_fit op x y f = tt

chars_fit : (op : BinOp) (x y : ℕ) → IsResult (char_result op x y)
chars_fit Eq x y = tt
chars_fit Ne x y = tt
chars_fit Lt x y = tt
chars_fit Le x y = tt
chars_fit Gt x y = tt
chars_fit Ge x y = tt
chars_fit op x y = tt

truths_fit : (op : BinOp) (x y : Bool) → IsResult (bool_result op x y)
truths_fit Eq x y = tt
truths_fit Ne x y = tt
truths_fit And x y = tt
truths_fit Or x y = tt
truths_fit op x y = tt

pub binary_fits : BinaryResultsFit
binary_fits op (datum.Int x) (datum.Int y) f g = ints_fit op x y f
binary_fits op (datum.Char x) (datum.Char y) f g = chars_fit op x y
binary_fits op (datum.Bool x) (datum.Bool y) f g = truths_fit op x y
binary_fits op u v f g = tt
