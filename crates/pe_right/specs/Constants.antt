-- Constants: literals, and operators on constants, where they have a datum as value.
use Rattle.std.specs.Prelude.{nat_le, if◌then◌else◌, Option, Some, None}
use Rattle.fy_base.specs.declared.data.Datum.{Datum}
use Rattle.fy_base.specs.declared.data.UnOp.{UnOp}
use Rattle.fy_base.specs.declared.data.BinOp.{BinOp}
use Rattle.fy_base.specs.declared.arithmetic.Applied.{Applied}
use Rattle.fy_base.specs.declared.arithmetic.Applied.TheVariants.{Gives, Faults, NoSense}
use Rattle.fy_base.specs.Arithmetic.{unary_result, binary_result}
use Rattle.fy_phrase.specs.Tree.{Tree, lit, unary, binary}
use Rattle.fy_phrase.specs.Sizes.{nodes}

-- the datum that an operator gives, if it gives one
abbrev pub given : Applied → Option Datum
given (Gives v) = Some v
given (Faults kind) = None
given NoSense = None

abbrev pub unary_value : UnOp → Option Datum → Option Datum
unary_value op None = None
unary_value op (Some v) = given (unary_result op v)

abbrev pub binary_value : BinOp → Option Datum → Option Datum → Option Datum
binary_value op None v = None
binary_value op (Some u) None = None
binary_value op (Some u) (Some v) = given (binary_result op u v)

-- the value of a phrase of literals and operators; of `and` and `or` too both parts have one
abbrev pub value_of : Tree → Option Datum
value_of (lit v at) = Some v
value_of (unary op p at) = unary_value op (value_of p)
value_of (binary op p q at) = binary_value op (value_of p) (value_of q)
value_of p = None

-- the value of one that has at most 8 nodes
abbrev pub constant : Tree → Option Datum
constant p = if nat_le (nodes p) 8 then value_of p else None

-- of no phrase a datum is known
abbrev pub no_data : Tree → Option Datum
no_data p = None
