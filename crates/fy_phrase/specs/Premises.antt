-- The direct parts of a phrase that its typing rule has premises about, each with what is bound over it.
use Rattle.std.specs.Prelude.{List, [], ◌∷◌, Option, Some, None}
use Rattle.fy_types.specs.declared.types.Atom.{Atom}
use Rattle.fy_types.specs.declared.types.Atom.TheVariants.{Int, Bool as Truth, Char, Compl, IntAcc, BoolAcc, CharAcc}
use Rattle.fy_types.specs.Types.{PlainType, atom, arrow, field as field_type}
use Rattle.fy_types.specs.Subtyping.{both_of}
use Rattle.fy_types.specs.Reading.{plain_type}
use Rattle.fy_phrase.specs.declared.phrase.DataTy.{DataTy}
use Rattle.fy_phrase.specs.declared.phrase.DataTy.TheVariants as data_type
use Rattle.fy_phrase.specs.declared.premise.Given.{Given}
use Rattle.fy_phrase.specs.declared.premise.Given.TheVariants as by
use Rattle.fy_phrase.specs.declared.premise.Binds.{Binds}
use Rattle.fy_phrase.specs.declared.premise.Binds.TheVariants as binds
use Rattle.fy_phrase.specs.declared.premise.Premise.{Premise as PremiseValue}
use Rattle.fy_phrase.specs.Tree.{Tree, Trees, no_trees, and_tree, var, lit, unary, binary, cond, case, lam, app, field, sel, merge, let_in, rec, skip, seq, assign, while_do, forever, new, cells, escape, accept, put, read, mark}
use Rattle.fy_phrase.specs.Reads.{reads}

-- the data type, as an atom
abbrev pub data_atom : DataTy → Atom
data_atom data_type.Int = Int
data_atom data_type.Bool = Truth
data_atom data_type.Char = Char

-- the acceptor type of a data type
abbrev pub acceptor_atom : DataTy → Atom
acceptor_atom data_type.Int = IntAcc
acceptor_atom data_type.Bool = BoolAcc
acceptor_atom data_type.Char = CharAcc

-- the type of a cell's variable
abbrev pub cell_type : DataTy → PlainType
cell_type D = both_of (atom (data_atom D)) (atom (acceptor_atom D))

-- the type of a sequence's variable: a cell of integers for each index, and the length as the field `len`, whose name has the number 0
abbrev pub sequence_type : PlainType
sequence_type = both_of (arrow (atom Int) (cell_type data_type.Int)) (field_type 0 (atom Int))

-- what a premise's part is under: no binder, a variable of the first premise's type, or one of a type that is written
pub data Binder : Type 0 where
  nothing : Binder
  first : Binder
  given : PlainType → Binder

-- a premise is about a part of the phrase
abbrev pub Premise : Type 0
Premise = Binder × Tree

-- one premise for each part
abbrev pub of_parts : Trees → List Premise
of_parts no_trees = []
of_parts (and_tree p ps) = (nothing, p) ∷ of_parts ps

-- the premises of a phrase's rule, in order; abstractions and merges have rules of their own, and marks have none
abbrev pub premises : Tree → Option (List Premise)
premises (var k at) = Some []
premises (lit v at) = Some []
premises (unary op p at) = Some ((nothing, p) ∷ [])
premises (binary op p q at) = Some ((nothing, p) ∷ (nothing, q) ∷ [])
premises (cond b p q at) = Some ((nothing, b) ∷ (nothing, p) ∷ (nothing, q) ∷ [])
premises (case e parts at) = Some ((nothing, e) ∷ of_parts parts)
premises (lam d As b at) = None
premises (app p q at) = Some ((nothing, p) ∷ (nothing, q) ∷ [])
premises (field i p at) = Some ((nothing, p) ∷ [])
premises (sel p i at) = Some ((nothing, p) ∷ [])
premises (merge p q at) = None
premises (let_in d p b at) = Some ((nothing, p) ∷ (first, b) ∷ [])
premises (rec d T b at) = Some ((given T, b) ∷ [])
premises (skip at) = Some []
premises (seq p q at) = Some ((nothing, p) ∷ (nothing, q) ∷ [])
premises (assign p q at) = Some ((nothing, p) ∷ (nothing, q) ∷ [])
premises (while_do b c at) = Some ((nothing, b) ∷ (nothing, c) ∷ [])
premises (forever c at) = Some ((nothing, c) ∷ [])
premises (new d D e b at) = Some ((nothing, e) ∷ (given (cell_type D), b) ∷ [])
premises (cells d e b at) = Some ((nothing, e) ∷ (given sequence_type, b) ∷ [])
premises (escape d b at) = Some ((given (atom Compl), b) ∷ [])
premises (accept d D b at) = Some ((given (atom (data_atom D)), b) ∷ [])
premises (put kind p at) = Some ((nothing, p) ∷ [])
premises (read p at) = Some ((nothing, p) ∷ [])
premises (mark m at) = None

-- the operands of a merge
abbrev pub merged : Tree → Option (Tree × Tree)
merged (merge p q at) = Some (p, q)
merged p = None

-- the type that a binder gives its variable
abbrev pub given_type : Given → PlainType
given_type (by.Type T) = plain_type T.now
given_type (by.Cell D) = cell_type D
given_type by.Sequence = sequence_type
given_type (by.Value D) = atom (data_atom D)
given_type by.Exit = atom Compl

-- the premise that a value of the program stands for
abbrev pub plain_binder : Binds → Binder
plain_binder binds.Nothing = nothing
plain_binder binds.First = first
plain_binder (binds.Given g) = given (given_type g)

abbrev pub premise_shown : PremiseValue → Premise
premise_shown P = (plain_binder P.binds, reads P.part.now)
