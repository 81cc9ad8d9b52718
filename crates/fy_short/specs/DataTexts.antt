-- The texts of data and of operators, and the levels of the grammar at which they stand: 1 phrase, 2 sequence, 3 term, 4 to 8 operators,
-- 9 prefix, 10 apply, 11 select, 12 primary.
use Rattle.std.specs.Prelude.{ℕ, ◌+◌, ◌-◌, ◌^◌, ◌/◌, ◌%◌, ℤ, pos, negsuc, int_lt, Bool, ◌&&◌, ◌==◌, nat_le, if◌then◌else◌, [], ◌∷◌, ◌++◌, codes}
use Rattle.std.specs.Ordering.{int_eq}
use Rattle.std.specs.Fmt.{signed_decimal}
use Rattle.fy_base.specs.Outside.{Bytes}
use Rattle.fy_base.specs.Arithmetic.{truth_text}
use Rattle.fy_base.specs.declared.data.Datum.{Datum}
use Rattle.fy_base.specs.declared.data.Datum.TheVariants as datum
use Rattle.fy_base.specs.declared.data.BinOp.{BinOp}
use Rattle.fy_base.specs.declared.data.BinOp.TheVariants as op
use Rattle.fy_base.specs.declared.data.PutKind.{PutKind}
use Rattle.fy_base.specs.declared.data.PutKind.TheVariants as kind
use Rattle.fy_syntax.specs.Print.{hex_digit}
use Rattle.fy_phrase.specs.declared.phrase.DataTy.{DataTy}
use Rattle.fy_phrase.specs.declared.phrase.DataTy.TheVariants as data_type

-- a byte between these quotes: \n, \t, \\ and the quote behind \, a byte from 32 to 126 as it is, and any other as \x and two digits
abbrev pub element_text : ℕ → ℕ → Bytes
element_text quote b =
    if b == 10 then codes "\\n" else
    (if b == 9 then codes "\\t" else
    (if b == 92 then codes "\\\\" else
    (if b == quote then 92 ∷ quote ∷ [] else
    (if nat_le 32 b && nat_le b 126 then b ∷ [] else 92 ∷ 120 ∷ hex_digit (b / 16) ∷ hex_digit (b % 16) ∷ []))))

abbrev pub elements_text : ℕ → Bytes → Bytes
elements_text quote [] = []
elements_text quote (b ∷ bytes) = element_text quote b ++ elements_text quote bytes

-- a character between single quotes, and a string between double ones
abbrev pub letter_text : ℕ → Bytes
letter_text b = codes "'" ++ element_text 39 b ++ codes "'"

abbrev pub string_text : Bytes → Bytes
string_text bytes = codes "\"" ++ elements_text 34 bytes ++ codes "\""

-- the least integer, which no literal spells
abbrev pub is_least : ℤ → Bool
is_least z = int_eq z (negsuc (2 ^ 63 - 1))

-- an integer below 0 is a negation, and the least one a difference
abbrev pub int_text : ℤ → Bytes
int_text z = if is_least z then codes "-9223372036854775807 - 1" else signed_decimal z

abbrev pub int_level : ℤ → ℕ
int_level z = if is_least z then 7 else (if int_lt z (pos 0) then 9 else 12)

abbrev pub datum_text : Datum → Bytes
datum_text (datum.Int z) = int_text z
datum_text (datum.Bool b) = truth_text b
datum_text (datum.Char c) = letter_text c

abbrev pub datum_level : Datum → ℕ
datum_level (datum.Int z) = int_level z
datum_level (datum.Bool b) = 12
datum_level (datum.Char c) = 12

abbrev pub operator_level : BinOp → ℕ
operator_level op.Or = 4
operator_level op.And = 5
operator_level op.Eq = 6
operator_level op.Ne = 6
operator_level op.Lt = 6
operator_level op.Le = 6
operator_level op.Gt = 6
operator_level op.Ge = 6
operator_level op.Add = 7
operator_level op.Sub = 7
operator_level op.Mul = 8
operator_level op.Div = 8
operator_level op.Rem = 8

-- operators of one level group to the left, and relations don't group
abbrev pub left_level : BinOp → ℕ
left_level op = if operator_level op == 6 then 7 else operator_level op

abbrev pub data_word : DataTy → Bytes
data_word data_type.Int = codes "int"
data_word data_type.Bool = codes "bool"
data_word data_type.Char = codes "char"

-- the name that the prelude has for it
abbrev pub put_word : PutKind → Bytes
put_word kind.Int = codes "putint"
put_word kind.Char = codes "putchar"
put_word kind.Bool = codes "putbool"
