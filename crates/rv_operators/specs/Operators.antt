-- The operators on data as blocks of micro-operations. Each leaves the newest context and makes a datum, or goes to the entry of a fault.
use Rattle.std.specs.Prelude.{ℕ, ◌+◌, ℤ, pos, if◌then◌else◌, List, [], ◌∷◌, ◌++◌}
use Rattle.std.specs.Int.{cast_unsigned, w64}
use Rattle.fy_base.specs.declared.data.Datum.{Datum as DatumType}
use Rattle.fy_base.specs.declared.data.Datum.TheVariants as datum
use Rattle.fy_base.specs.declared.data.UnOp.{UnOp}
use Rattle.fy_base.specs.declared.data.UnOp.TheVariants.{Neg, Not, Ord, Chr}
use Rattle.fy_base.specs.declared.data.BinOp.{BinOp}
use Rattle.fy_base.specs.declared.data.BinOp.TheVariants.{Add, Sub, Mul, Div, Rem, Eq, Ne, Lt, Le, Gt, Ge, And, Or}
use Rattle.fy_base.specs.declared.data.FaultKind.{FaultKind}
use Rattle.fy_base.specs.declared.data.FaultKind.TheVariants.{Overflow}
use Rattle.rv_insn.specs.declared.instructions.RegOp.TheVariants as reg
use Rattle.rv_insn.specs.declared.instructions.ImmOp.TheVariants.{Addi, Slti, Sltiu, Xori}
use Rattle.rv_insn.specs.declared.instructions.ShiftOp.TheVariants.{Slli, Srai}
use Rattle.rv_insn.specs.declared.instructions.BranchOp.TheVariants.{Beq, Bne}
use Rattle.rv_word.specs.declared.micros.Register.{Register}
use Rattle.rv_word.specs.declared.micros.Register.TheVariants.{Zero, Context, Top, Datum, First, Second, Third}
use Rattle.rv_word.specs.declared.micros.Micro.{Micro}
use Rattle.rv_word.specs.declared.micros.Micro.TheVariants.{Imm, Shift, Alu, Window, Get, Test, Jump, Enter}
use Rattle.rv_operators.specs.declared.labels.TheConstants.{OPERATOR_COUNT}

-- the word of 64 bits in which a datum is kept
abbrev pub word_of : DatumType → ℕ
word_of (datum.Int z) = cast_unsigned w64 z
word_of (datum.Bool b) = if b then 1 else 0
word_of (datum.Char c) = c

-- ---- labels, which count up from one

-- the blocks of faults, which all operators share
abbrev pub fault_next : ℕ → ℕ
fault_next first = first

abbrev pub fault_after : ℕ → ℕ
fault_after first = first + 1

abbrev pub unary_label : ℕ → UnOp → ℕ
unary_label first Neg = first + 2
unary_label first Not = first + 3
unary_label first Ord = first + 4
unary_label first Chr = first + 5

-- the second block of a quotient
abbrev pub by_minus_one : ℕ → ℕ
by_minus_one first = first + 10

abbrev pub binary_label : ℕ → BinOp → ℕ
binary_label first Add = first + 6
binary_label first Sub = first + 7
binary_label first Mul = first + 8
binary_label first Div = first + 9
binary_label first Rem = first + 11
binary_label first Eq = first + 12
binary_label first Ne = first + 13
binary_label first Lt = first + 14
binary_label first Le = first + 15
binary_label first Gt = first + 16
binary_label first Ge = first + 17
binary_label first And = first + 18
binary_label first Or = first + 19

-- how many blocks there are
abbrev pub operator_count : ℕ
operator_count = OPERATOR_COUNT

-- how many entries behind that of its context an operator has the entry of a kind of fault: those of a quotient are of a zero divisor and of overflow
abbrev pub fault_number : BinOp → FaultKind → ℕ
fault_number Div Overflow = 2
fault_number _ _ = 1

-- ---- shared parts

-- to the entry so many bytes behind that in Third
abbrev pub fault_block : ℤ → List Micro
fault_block bytes = Imm Addi Third Third bytes ∷ Enter Third ∷ []

abbrev pub fault_blocks : List (List Micro)
fault_blocks = fault_block (pos 8) ∷ fault_block (pos 16) ∷ []

-- the newest context is left: the top is where it stands, and the one outside is the newest
abbrev pub leave : List Micro → List Micro
leave rest = Imm Addi Top Context (pos 0) ∷ Get Context Context 1 ∷ rest

-- a context of a unary operator has its entry and the address of the one outside
abbrev pub meet_operand : List Micro → List Micro
meet_operand rest = Window Context 2 ∷ leave rest

-- its entry stays in Third, where the operator may fault
abbrev pub meet_operand_or_fault : List Micro → List Micro
meet_operand_or_fault rest = Window Context 2 ∷ Get Third Context 0 ∷ leave rest

-- a context of a binary operator has the left operand too, which comes to First; the right one is in Datum
abbrev pub meet_operands : List Micro → List Micro
meet_operands rest = Window Context 3 ∷ Get First Context 2 ∷ leave rest

abbrev pub meet_operands_or_fault : List Micro → List Micro
meet_operands_or_fault rest = Window Context 3 ∷ Get Third Context 0 ∷ Get First Context 2 ∷ leave rest

-- a register gets the least integer
abbrev pub set_least : Register → List Micro → List Micro
set_least r rest = Imm Addi r Zero (pos 1) ∷ Shift Slli r r 63 ∷ rest

-- the truth value in Datum is turned
abbrev pub turn : Micro
turn = Imm Xori Datum Datum (pos 1)

-- ---- blocks

module _ (first meet : ℕ) where
  -- the datum that was made meets the newest context
  abbrev pub done : List Micro
  done = Jump meet ∷ []

  -- what was made in Second
  abbrev pub done_second : List Micro
  done_second = Imm Addi Datum Second (pos 0) ∷ done

  -- what makes a datum out of that in Datum
  abbrev pub unary_work : UnOp → List Micro
  -- the least integer has no negative
  unary_work Neg = set_least First (Test Beq Datum First (fault_next first) ∷ Alu reg.Sub Datum Zero Datum ∷ done)
  unary_work Not = turn ∷ done
  unary_work Ord = done
  unary_work Chr = Imm Sltiu First Datum (pos 256) ∷ Test Beq First Zero (fault_next first) ∷ done

  -- what makes a datum out of those in First and Datum
  abbrev pub binary_work : BinOp → List Micro
  -- a sum overflows where it is below the left operand and the right one isn't negative, or the other way round
  binary_work Add =
      Alu reg.Add Second First Datum ∷ Alu reg.Slt First Second First ∷ Imm Slti Datum Datum (pos 0)
      ∷ Test Bne First Datum (fault_next first) ∷ done_second
  -- a difference where it is below the left operand and the right one isn't positive, or the other way round
  binary_work Sub =
      Alu reg.Sub Second First Datum ∷ Alu reg.Slt First Second First ∷ Alu reg.Slt Datum Zero Datum
      ∷ Test Bne First Datum (fault_next first) ∷ done_second
  -- a product where the bits of its upper half aren't all the sign of its lower half
  binary_work Mul =
      Alu reg.Mulh Second First Datum ∷ Alu reg.Mul Datum First Datum ∷ Shift Srai First Datum 63
      ∷ Test Bne Second First (fault_next first) ∷ done
  binary_work Div =
      Test Beq Datum Zero (fault_next first) ∷ Alu reg.Div Second First Datum ∷ Imm Addi Datum Datum (pos 1)
      ∷ Test Beq Datum Zero (by_minus_one first) ∷ done_second
  binary_work Rem = Test Beq Datum Zero (fault_next first) ∷ Alu reg.Rem Datum First Datum ∷ done
  binary_work Eq = Alu reg.Sub Second First Datum ∷ Imm Sltiu Datum Second (pos 1) ∷ done
  binary_work Ne = Alu reg.Sub Second First Datum ∷ Alu reg.Sltu Datum Zero Second ∷ done
  binary_work Lt = Alu reg.Slt Datum First Datum ∷ done
  binary_work Le = Alu reg.Slt Datum Datum First ∷ turn ∷ done
  binary_work Gt = Alu reg.Slt Datum Datum First ∷ done
  binary_work Ge = Alu reg.Slt Datum First Datum ∷ turn ∷ done
  binary_work And = Alu reg.And Datum First Datum ∷ done
  binary_work Or = Alu reg.Or Datum First Datum ∷ done

  abbrev pub unary_block : UnOp → List Micro
  unary_block Neg = meet_operand_or_fault (unary_work Neg)
  unary_block Not = meet_operand (unary_work Not)
  unary_block Ord = meet_operand (unary_work Ord)
  unary_block Chr = meet_operand_or_fault (unary_work Chr)

  abbrev pub binary_block : BinOp → List Micro
  binary_block Add = meet_operands_or_fault (binary_work Add)
  binary_block Sub = meet_operands_or_fault (binary_work Sub)
  binary_block Mul = meet_operands_or_fault (binary_work Mul)
  binary_block Div = meet_operands_or_fault (binary_work Div)
  binary_block Rem = meet_operands_or_fault (binary_work Rem)
  binary_block op = meet_operands (binary_work op)

  -- Second has the quotient by -1 of what is in First: the least integer has none
  abbrev pub by_minus_one_block : List Micro
  by_minus_one_block = set_least Datum (Test Beq First Datum (fault_after first) ∷ done_second)

  -- the blocks in order of their labels
  abbrev pub unary_blocks : List (List Micro)
  unary_blocks = unary_block Neg ∷ unary_block Not ∷ unary_block Ord ∷ unary_block Chr ∷ []

  abbrev pub sum_blocks : List (List Micro)
  sum_blocks = binary_block Add ∷ binary_block Sub ∷ binary_block Mul ∷ []

  abbrev pub quotient_blocks : List (List Micro)
  quotient_blocks = binary_block Div ∷ by_minus_one_block ∷ binary_block Rem ∷ []

  abbrev pub equality_blocks : List (List Micro)
  equality_blocks = binary_block Eq ∷ binary_block Ne ∷ []

  abbrev pub order_blocks : List (List Micro)
  order_blocks = binary_block Lt ∷ binary_block Le ∷ binary_block Gt ∷ binary_block Ge ∷ []

  abbrev pub truth_blocks : List (List Micro)
  truth_blocks = binary_block And ∷ binary_block Or ∷ []

  abbrev pub operator_blocks : List (List Micro)
  operator_blocks =
      fault_blocks ++ (unary_blocks ++ (sum_blocks ++ (quotient_blocks ++ (equality_blocks ++ (order_blocks ++ truth_blocks)))))
