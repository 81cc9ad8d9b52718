-- The text of an instruction: its keyword, and its words and decimal numbers, with one blank between two.
use Rattle.std.specs.Prelude.{ℕ, List, [], ◌∷◌, ◌++◌, length, codes, decimal}
use Rattle.std.specs.List.{flat_map}
use Rattle.std.specs.Fmt.{signed_decimal}
use Rattle.fy_base.specs.Outside.{Bytes}
use Rattle.fy_base.specs.Arithmetic.{truth_text}
use Rattle.fy_base.specs.declared.data.Datum.{Datum}
use Rattle.fy_base.specs.declared.data.Datum.TheVariants as datum
use Rattle.fy_base.specs.declared.data.UnOp.{UnOp}
use Rattle.fy_base.specs.declared.data.UnOp.TheVariants.{Neg, Not, Ord, Chr}
use Rattle.fy_base.specs.declared.data.BinOp.{BinOp}
use Rattle.fy_base.specs.declared.data.BinOp.TheVariants.{Add, Sub, Mul, Div, Rem, Eq, Ne, Lt, Le, Gt, Ge, And, Or}
use Rattle.fy_base.specs.declared.data.PutKind.{PutKind}
use Rattle.fy_base.specs.declared.data.PutKind.TheVariants as kinds
use Rattle.fy_types.specs.Print.{name_text}
use Rattle.pe_code.specs.declared.code.StraightPart.{StraightPart}
use Rattle.pe_code.specs.declared.code.StraightPart.TheVariants as part
use Rattle.pe_code.specs.declared.code.Purpose.{Purpose}
use Rattle.pe_code.specs.declared.code.Purpose.TheVariants as purpose
use Rattle.pe_code.specs.declared.code.PeInsn.{PeInsn}
use Rattle.pe_code.specs.declared.code.PeInsn.TheVariants as insn

-- the words of the operators on one datum
abbrev pub unary_word : UnOp → Bytes
unary_word Neg = codes "neg"
unary_word Not = codes "not"
unary_word Ord = codes "ord"
unary_word Chr = codes "chr"

-- the words of the operators on two data
abbrev pub binary_word : BinOp → Bytes
binary_word Add = codes "add"
binary_word Sub = codes "sub"
binary_word Mul = codes "mul"
binary_word Div = codes "div"
binary_word Rem = codes "rem"
binary_word Eq = codes "eq"
binary_word Ne = codes "ne"
binary_word Lt = codes "lt"
binary_word Le = codes "le"
binary_word Gt = codes "gt"
binary_word Ge = codes "ge"
binary_word And = codes "and"
binary_word Or = codes "or"

-- the words of what an output statement writes
abbrev pub kind_word : PutKind → Bytes
kind_word kinds.Int = codes "int"
kind_word kinds.Char = codes "char"
kind_word kinds.Bool = codes "bool"

-- an integer or a character's byte as a decimal number, or `true` or `false`
abbrev pub datum_text : Datum → Bytes
datum_text (datum.Int x) = signed_decimal x
datum_text (datum.Bool b) = truth_text b
datum_text (datum.Char c) = decimal c

-- a further number: ` 17`
abbrev pub then_number : ℕ → Bytes
then_number n = codes " " ++ decimal n

-- a word and the numbers behind it: `seq 17 18`
abbrev pub line : Bytes → List ℕ → Bytes
line word ns = word ++ flat_map then_number ns

-- a keyword, and a line behind it: `op1 neg 17`
abbrev pub worded : Bytes → Bytes → List ℕ → Bytes
worded keyword word ns = keyword ++ codes " " ++ line word ns

-- a part of straight code behind others: ` lit 17`, ` cell 2`, ` add 5`
abbrev pub then_part : StraightPart → Bytes
then_part (part.Literal v) = codes " lit " ++ datum_text v
then_part (part.Cell k) = codes " cell" ++ then_number k
then_part (part.Unary op a) = codes " " ++ (unary_word op ++ then_number a)
then_part (part.Binary op a) = codes " " ++ (binary_word op ++ then_number a)

-- what straight code is for: `choose 17 18`, `write int`
abbrev pub purpose_text : Purpose → Bytes
purpose_text (purpose.Choose x y) = line (codes "choose") (x ∷ y ∷ [])
purpose_text (purpose.Repeat x) = line (codes "repeat") (x ∷ [])
purpose_text (purpose.Store x) = line (codes "store") (x ∷ [])
purpose_text (purpose.Write kind) = worded (codes "write") (kind_word kind) []

-- the text of an instruction, by a list of names
abbrev pub printed : List Bytes → PeInsn → Bytes
printed names (insn.UseVar k s) = line (codes "use") (k ∷ s ∷ [])
printed names (insn.Answer v) = codes "answer " ++ datum_text v
printed names (insn.Op1 op x) = worded (codes "op1") (unary_word op) (x ∷ [])
printed names (insn.Op2 op x y) = worded (codes "op2") (binary_word op) (x ∷ y ∷ [])
printed names (insn.Cond x y z) = line (codes "cond") (x ∷ y ∷ z ∷ [])
printed names (insn.Case x ys) = line (codes "case") (x ∷ length ys ∷ [])
printed names (insn.Bind y) = line (codes "bind") (y ∷ [])
printed names (insn.Pass n y) = line (codes "pass") (n ∷ y ∷ [])
printed names (insn.PassVar k y) = line (codes "passvar") (k ∷ y ∷ [])
printed names (insn.PassData v y) = worded (codes "passdata") (datum_text v) (y ∷ [])
printed names (insn.Field i x) = worded (codes "field") (name_text names i) (x ∷ [])
printed names (insn.Pick i x) = worded (codes "pick") (name_text names i) (x ∷ [])
printed names (insn.Let n y) = line (codes "let") (n ∷ y ∷ [])
printed names (insn.LetVar k y) = line (codes "letvar") (k ∷ y ∷ [])
printed names (insn.LetData v y) = worded (codes "letdata") (datum_text v) (y ∷ [])
printed names (insn.Knot n y) = line (codes "knot") (n ∷ y ∷ [])
printed names insn.Done = codes "done"
printed names (insn.Seq x y) = line (codes "seq") (x ∷ y ∷ [])
printed names (insn.Assign x y) = line (codes "assign") (x ∷ y ∷ [])
printed names (insn.While x y) = line (codes "while") (x ∷ y ∷ [])
printed names (insn.Loop x) = line (codes "loop") (x ∷ [])
printed names (insn.New x y) = line (codes "new") (x ∷ y ∷ [])
printed names (insn.Cells x y) = line (codes "cells") (x ∷ y ∷ [])
printed names (insn.Escape y) = line (codes "escape") (y ∷ [])
printed names (insn.Accept y) = line (codes "accept") (y ∷ [])
printed names (insn.Put kind x) = worded (codes "put") (kind_word kind) (x ∷ [])
printed names (insn.Read x) = line (codes "read") (x ∷ [])
printed names (insn.Eval ss) = codes "eval" ++ flat_map then_part ss
printed names (insn.Set k ss) = line (codes "set") (k ∷ []) ++ flat_map then_part ss
printed names (insn.EvalFor ss u) = purpose_text u ++ flat_map then_part ss
