-- What the rules ask of the conclusions of their premises, and which subsumption makes one what is asked.
use Rattle.std.specs.Prelude.{◌≡◌, ℕ, zero, suc, ◌+◌, ◌==◌, Bool, true, false, not, List, [], ◌∷◌, ◌++◌, map, find, Option, Some, None, if◌then◌else◌}
use Rattle.std.specs.List.{list_any, filter}
use Rattle.fy_base.specs.declared.data.BinOp.{BinOp}
use Rattle.fy_types.specs.declared.types.Atom.{Atom}
use Rattle.fy_types.specs.declared.types.Atom.TheVariants.{Int, Bool as Truth, Char, Comm, Compl, IntAcc, BoolAcc, CharAcc}
use Rattle.fy_types.specs.Types.{PlainType, PlainTypes, ns, atom, arrow, field as field_type, meet, no_types, and_type}
use Rattle.fy_phrase.specs.declared.phrase.DataTy.{DataTy}
use Rattle.fy_phrase.specs.declared.phrase.DataTy.TheVariants as data_type
use Rattle.fy_phrase.specs.Tree.{Tree, var, lit, unary, binary, cond, case, lam, app, field, sel, merge, let_in, rec, skip, seq, assign, while_do, forever, new, cells, escape, accept, put, read, mark}
use Rattle.fy_derive.specs.Atoms.{data_atom, acceptor_atom, operand_atom, takes, put_atom}
use Rattle.fy_derive.specs.Subsumption.{is_below}
use Rattle.fy_derive.specs.Rules.{same_type}
use Rattle.fy_derive.specs.Tables.{type_at}

-- what a premise has to conclude, to the letter
pub data Asked : Type 0 where
  -- any type
  anything : Asked
  -- one of these
  one_of : List PlainType → Asked
  -- an arrow
  an_arrow : Asked
  -- `i: A` of some type A
  a_field : ℕ → Asked

-- the one type
abbrev pub just : Atom → Asked
just a = one_of (atom a ∷ [])

abbrev pub data_types : List DataTy
data_types = data_type.Int ∷ data_type.Bool ∷ data_type.Char ∷ []

-- the data that the operator takes
abbrev pub taken_by : BinOp → List PlainType
taken_by op = map (λ D. atom (data_atom D)) (filter (takes op) data_types)

-- a command
abbrev pub a_command : Asked
a_command = one_of (atom Comm ∷ atom Compl ∷ [])

-- the data of an acceptor
abbrev pub accepted_by : PlainType → Asked
accepted_by (atom IntAcc) = just Int
accepted_by (atom BoolAcc) = just Truth
accepted_by (atom CharAcc) = just Char
accepted_by A = anything

-- the domain of an arrow
abbrev pub domain_of : PlainType → Asked
domain_of (arrow A B) = one_of (A ∷ [])
domain_of A = anything

abbrev pub asked_third : ℕ → Asked → Asked → Asked → Asked
asked_third zero a b c = a
asked_third (suc zero) a b c = b
asked_third (suc (suc i)) a b c = c

-- what a form's rule asks of the premise with the index, behind premises of these types: a row a form
abbrev pub asked : Tree → List PlainType → ℕ → Asked
asked (var n at) As i = anything
asked (lit v at) As i = anything
asked (unary op p at) As i = just (operand_atom op)
asked (binary op p q at) As i = asked_third i (one_of (taken_by op)) (one_of (type_at As 0 ∷ [])) anything
asked (cond b p q at) As i = asked_third i (just Truth) anything (one_of (type_at As 1 ∷ []))
asked (case e parts at) As i = asked_third i (just Int) anything (one_of (type_at As 1 ∷ []))
asked (lam d Bs b at) As i = anything
asked (app p q at) As i = asked_third i an_arrow (domain_of (type_at As 0)) anything
asked (field j p at) As i = anything
asked (sel p j at) As i = a_field j
asked (merge p q at) As i = anything
asked (let_in d p b at) As i = anything
asked (rec d T b at) As i = one_of (T ∷ [])
asked (skip at) As i = anything
asked (seq p q at) As i = asked_third i (just Comm) a_command anything
asked (assign p q at) As i =
    asked_third i (one_of (map (λ D. atom (acceptor_atom D)) data_types)) (accepted_by (type_at As 0)) anything
asked (while_do b c at) As i = asked_third i (just Truth) (just Comm) anything
asked (forever c at) As i = just Comm
asked (new d D e b at) As i = asked_third i (just (data_atom D)) a_command anything
asked (cells d e b at) As i = asked_third i (just Int) a_command anything
asked (escape d b at) As i = just Comm
asked (accept d D b at) As i = just Comm
asked (put kind p at) As i = just (put_atom kind)
asked (read p at) As i = just IntAcc
asked (mark m at) As i = anything

-- whether the type is what is asked
abbrev pub is_asked : Asked → PlainType → Bool
is_asked anything A = true
is_asked (one_of Bs) A = list_any (same_type A) Bs
is_asked an_arrow (arrow A B) = true
is_asked an_arrow A = false
is_asked (a_field i) (field_type j A) = i == j
is_asked (a_field i) A = false

-- the index of the first premise that isn't what is asked, from the i-th on, and what is asked of it
abbrev pub first_wrong : Tree → List PlainType → ℕ → List PlainType → Option (ℕ × Asked)
first_wrong p As i [] = None
first_wrong p As i (A ∷ more) = if is_asked (asked p As i) A then first_wrong p As (i + 1) more else Some (i, asked p As i)

-- the type, or its members
abbrev pub members_of : PlainTypes → List PlainType
members_of no_types = []
members_of (and_type A As) = A ∷ members_of As

abbrev pub members : PlainType → List PlainType
members (meet As) = members_of As
members A = A ∷ []

-- an arrow for this argument stands in front of other arrows
abbrev pub has_domain : PlainType → PlainType → Bool
has_domain B (arrow A C) = same_type A B
has_domain B A = false

-- the types to which subsumption may raise what a premise concludes, in order; what stands behind it is the argument of a call
abbrev pub wanted : Asked → PlainType → PlainType → List PlainType
wanted anything A B = []
wanted (one_of Bs) A B = Bs
wanted an_arrow A B = filter (has_domain B) (members A) ++ filter (is_asked an_arrow) (members A)
wanted (a_field i) A B = filter (is_asked (a_field i)) (members A)

-- the first of them that is above
abbrev pub advised : Asked → PlainType → PlainType → Option PlainType
advised a A B = find (λ C. is_below A C) (wanted a A B)

-- the types with one end each, whose meet a type is as good as
abbrev mutual
  pub singles : PlainType → List PlainType
  singles ns = []
  singles (atom a) = atom a ∷ []
  singles (arrow A B) = map (arrow A) (singles B)
  singles (field_type i A) = map (field_type i) (singles A)
  singles (meet As) = all_singles As

  pub all_singles : PlainTypes → List PlainType
  all_singles no_types = []
  all_singles (and_type A As) = singles A ++ all_singles As

-- the first thing of B that A has not
abbrev pub lacking : PlainType → PlainType → Option PlainType
lacking A B = find (λ C. not (is_below A C)) (singles B)

-- a subsumption that is advised is one that judging takes there, and it concludes what is asked
abbrev pub AdviceIsTaken : Type 0
AdviceIsTaken = (a : Asked) (A B C : PlainType) → advised a A B ≡ Some C → (is_below A C ≡ true) × (is_asked a C ≡ true)
