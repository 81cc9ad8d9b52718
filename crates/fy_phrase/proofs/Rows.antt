-- Worked runs.
use Rattle.std.proofs.Common.{◌≡◌, ℕ, ◌-◌, [], ◌++◌, refl, pos}
use Rattle.std.specs.Fmt.{decimal}
use Rattle.fy_base.specs.declared.data.Place.{Place}
use Rattle.fy_base.specs.Places.{columns_on, first_place}
use Rattle.fy_base.specs.declared.data.Datum.TheVariants as datum
use Rattle.fy_base.specs.declared.data.UnOp.TheVariants.{Neg}
use Rattle.fy_base.specs.declared.data.BinOp.TheVariants.{Add}
use Rattle.fy_base.specs.declared.data.PutKind.TheVariants as kind
use Rattle.fy_base.specs.declared.data.FaultKind.TheVariants.{Overflow, Range}
use Rattle.fy_types.specs.declared.types.Atom.{Atom}
use Rattle.fy_types.specs.declared.types.Atom.TheVariants as atoms
use Rattle.fy_types.specs.Types.{PlainType, PlainTypes, atom, arrow, field as field_type, meet, no_types, and_type}
use Rattle.fy_phrase.specs.Tree.{Tree, lit, unary, binary, skip, seq, assign, put, var, lam, app, sel, let_in, read, cells}
use Rattle.fy_runs.specs.Runs.{after, peak}
use Rattle.fy_phrase.specs.Copy.{going, ended, faulted, copy_after, peak_load}

at_column : ℕ → Place
at_column col = columns_on (col - 1) first_place

-- `putint(1+2)`, without what stands around a whole program
abbrev one_and_two : Tree
one_and_two = put kind.Int (binary Add (lit (datum.Int (pos 1)) (at_column 8)) (lit (datum.Int (pos 2)) (at_column 10)) (at_column 9)) (at_column 1)

one_and_two-goes_on : (copy_after one_and_two [] 4).standing ≡ going
unfolding after
one_and_two-goes_on = refl

one_and_two-ends : (copy_after one_and_two [] 5).standing ≡ ended
unfolding after
one_and_two-ends = refl

one_and_two-output : (copy_after one_and_two [] 5).output ≡ decimal 3
unfolding after
one_and_two-output = refl

-- loads 8 for the statement's context and 16 for an operand's
one_and_two-peak : peak_load one_and_two [] 5 ≡ 16
unfolding after peak
one_and_two-peak = refl

-- `skip` is at its end before any step
skip-ends : (copy_after (skip (at_column 1)) [] 0).standing ≡ ended
unfolding after
skip-ends = refl

-- a sum past the greatest integer faults at its operator
abbrev past_greatest : Tree
past_greatest = put kind.Int (binary Add (lit (datum.Int (pos 9223372036854775807)) (at_column 8)) (lit (datum.Int (pos 1)) (at_column 30)) (at_column 28)) (at_column 1)

past_greatest-faults : (copy_after past_greatest [] 4).standing ≡ faulted Overflow (at_column 28)
unfolding after
past_greatest-faults = refl

-- ---- whole programs, inside the definitions that stand before each

here : Place
here = at_column 1

one_type : Atom → PlainTypes
one_type a = and_type (atom a) no_types

variable : PlainType
variable = meet (and_type (atom atoms.Int) (and_type (atom atoms.IntAcc) no_types))

cell_sequence : PlainType
cell_sequence = meet (and_type (arrow (atom atoms.Int) variable) (and_type (field_type 0 (atom atoms.Int)) no_types))

-- what a sequence is made by
abbrev maker : Tree
maker =
    lam 4 (one_type atoms.Int) (lam 5 (and_type (arrow cell_sequence (atom atoms.Comm)) no_types) (cells 6 (var 1 here) (app (var 1 here) (var 0 here) here) here) here) here

abbrev in_prelude : Tree → Tree
in_prelude p =
    let_in 0 (lam 0 (one_type atoms.Int) (put kind.Int (var 0 here) here) here)
    (let_in 1 (lam 1 (one_type atoms.Char) (put kind.Char (var 0 here) here) here)
    (let_in 2 (lam 2 (one_type atoms.Bool) (put kind.Bool (var 0 here) here) here)
    (let_in 3 (lam 3 (one_type atoms.IntAcc) (read (var 0 here) here) here) (let_in 4 maker p here) here) here) here) here

abbrev sum_program : Tree
sum_program = in_prelude (app (var 4 here) (binary Add (lit (datum.Int (pos 1)) here) (lit (datum.Int (pos 2)) here) here) here)

sum_program-goes_on : (copy_after sum_program [] 11).standing ≡ going
unfolding after
sum_program-goes_on = refl

sum_program-ends : (copy_after sum_program [] 12).standing ≡ ended
unfolding after
sum_program-ends = refl

sum_program-output : (copy_after sum_program [] 12).output ≡ decimal 3
unfolding after
sum_program-output = refl

sum_program-peak : peak_load sum_program [] 12 ≡ 82
unfolding after peak
sum_program-peak = refl

skip_program-ends : (copy_after (in_prelude (skip here)) [] 5).standing ≡ ended
unfolding after
skip_program-ends = refl

skip_program-peak : peak_load (in_prelude (skip here)) [] 5 ≡ 50
unfolding after peak
skip_program-peak = refl

-- ---- sequences of cells

-- so many cells, and a command in which variable 0 is the sequence of them and variable 5 puts a number
abbrev with_cells : Tree → Tree → Tree
with_cells n p = in_prelude (app (app (var 0 here) n here) (lam 5 (and_type cell_sequence no_types) p (at_column 14)) here)

abbrev number : ℕ → Tree
number n = lit (datum.Int (pos n)) (at_column 30)

-- two cells and nothing to do with them
abbrev two_cells : Tree
two_cells = with_cells (number 2) (skip (at_column 20))

two_cells-goes_on : (copy_after two_cells [] 16).standing ≡ going
unfolding after
two_cells-goes_on = refl

two_cells-ends : (copy_after two_cells [] 17).standing ≡ ended
unfolding after
two_cells-ends = refl

two_cells-peak : peak_load two_cells [] 17 ≡ 136
unfolding after peak
two_cells-peak = refl

-- the cell of an index, and a number put
abbrev at_index : ℕ → Tree
at_index i = app (var 0 (at_column 20)) (number i) (at_column 20)

abbrev putting : Tree → Tree
putting p = app (var 5 (at_column 25)) p (at_column 25)

-- cells hold 0 until they are assigned, and there are three
abbrev three_cells : Tree
three_cells =
    with_cells (number 3)
    (seq (assign (at_index 0) (number 5) (at_column 21))
    (seq (assign (at_index 2) (binary Add (at_index 0) (number 1) (at_column 22)) (at_column 21))
    (seq (putting (binary Add (binary Add (at_index 0) (at_index 1) (at_column 22)) (at_index 2) (at_column 22)))
    (putting (sel (var 0 (at_column 20)) 0 (at_column 20))) (at_column 23)) (at_column 23)) (at_column 23))

three_cells-ends : (copy_after three_cells [] 71).standing ≡ ended
unfolding after
three_cells-ends = refl

three_cells-output : (copy_after three_cells [] 71).output ≡ decimal 11 ++ decimal 3
unfolding after
three_cells-output = refl

-- no cells
no_cells-output : (copy_after (with_cells (number 0) (putting (sel (var 0 (at_column 20)) 0 (at_column 20)))) [] 21).output ≡ decimal 0
unfolding after
no_cells-output = refl

-- an index past the end and a negative number of cells fault at the place of `Cells`
past_end-faults : (copy_after (with_cells (number 2) (putting (at_index 2))) [] 22).standing ≡ faulted Range here
unfolding after
past_end-faults = refl

negative-faults : (copy_after (with_cells (unary Neg (number 1) (at_column 13)) (skip (at_column 20))) [] 13).standing ≡ faulted Range here
unfolding after
negative-faults = refl

-- of two sequences each index faults at the place of its own
abbrev two_sequences : Tree → Tree
two_sequences p = cells 0 (number 2) (cells 1 (number 1) p (at_column 7)) (at_column 3)

outer-faults : (copy_after (two_sequences (put kind.Int (app (var 1 here) (number 2) here) here)) [] 13).standing ≡ faulted Range (at_column 3)
unfolding after
outer-faults = refl

inner-faults : (copy_after (two_sequences (put kind.Int (app (var 0 here) (number 1) here) here)) [] 13).standing ≡ faulted Range (at_column 7)
unfolding after
inner-faults = refl
