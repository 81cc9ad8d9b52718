-- Worked values: least types, blame, and what the limits count.
use Rattle.std.specs.Prelude.{ℕ, ◌-◌, ◌≡◌, true, [], ◌∷◌, length, sum_by, pos, refl}
use Rattle.fy_base.specs.declared.data.Place.{Place}
use Rattle.fy_base.specs.Places.{columns_on, first_place}
use Rattle.fy_base.specs.declared.data.Datum.TheVariants as datum
use Rattle.fy_base.specs.declared.data.PutKind.TheVariants as put_kind
use Rattle.fy_types.specs.declared.types.Atom.TheVariants.{Int, Bool as Truth, Char, Comm, IntAcc}
use Rattle.fy_types.specs.Types.{PlainType, PlainTypes, atom, arrow, no_types, and_type}
use Rattle.fy_types.specs.Paths.{end, call, no_paths, and_path, paths}
use Rattle.fy_types.specs.Limits.{all_nodes}
use Rattle.fy_phrase.specs.Tree.{Tree, no_trees, and_tree, var, lit, cond, case, lam, app, let_in, skip, cells, put, read}
use Rattle.fy_derive.specs.Atoms.{sequence_type}
use Rattle.fy_derive.specs.Shapes.{at_end, a_call, a_run, first_path}
use Rattle.fy_derive.specs.Least.{one_end, least_type, visits, least_shape_table, this_visit}
use Rattle.fy_least.specs.Blame.{blame_of}
use Rattle.fy_least.specs.Limits.{all_least, all_written}

abbrev at : ℕ → Place
at n = columns_on (n - 1) first_place

abbrev only : PlainType → PlainTypes
only A = and_type A no_types

-- what a sequence is made by
abbrev maker : Tree
maker =
    lam 4 (only (atom Int)) (lam 5 (only (arrow sequence_type (atom Comm))) (cells 6 (var 1 (at 1)) (app (var 1 (at 1)) (var 0 (at 1)) (at 1)) (at 1)) (at 1)) (at 1)

-- a phrase inside the definitions that each program begins with
abbrev in_prelude : Tree → Tree
in_prelude p =
    let_in 0 (lam 0 (only (atom Int)) (put put_kind.Int (var 0 (at 1)) (at 1)) (at 1))
    (let_in 1 (lam 1 (only (atom Char)) (put put_kind.Char (var 0 (at 1)) (at 1)) (at 1))
    (let_in 2 (lam 2 (only (atom Truth)) (put put_kind.Bool (var 0 (at 1)) (at 1)) (at 1))
    (let_in 3 (lam 3 (only (atom IntAcc)) (read (var 0 (at 1)) (at 1)) (at 1)) (let_in 4 maker p (at 1)) (at 1)) (at 1)) (at 1)) (at 1)

-- `putint true`
abbrev wrong_datum : Tree
wrong_datum = in_prelude (app (var 4 (at 1)) (lit (datum.Bool true) (at 8)) (at 1))

wrong_datum-empty : least_type [] wrong_datum ≡ no_paths
wrong_datum-empty = refl

wrong_datum-blamed : blame_of [] wrong_datum ≡ at 1
wrong_datum-blamed = refl

-- `\x: int. skip`
abbrev no_command : Tree
no_command = in_prelude (lam 5 (only (atom Int)) (skip (at 10)) (at 1))

no_command-type : least_type [] no_command ≡ and_path (call (one_end Int) (end Comm)) no_paths
no_command-type = refl

no_command-blamed : blame_of [] no_command ≡ at 1
no_command-blamed = refl

-- `newintseq`
made_sequence : least_type [] (in_prelude (var 0 (at 1)))
    ≡ and_path (call (one_end Int) (call (and_path (call (paths sequence_type) (end Comm)) no_paths) (end Comm))) no_paths
made_sequence = refl

-- `let a == 3 3 in putint true`
abbrev unused_nonsense : Tree
unused_nonsense =
    in_prelude (let_in 5 (app (lit (datum.Int (pos 3)) (at 10)) (lit (datum.Int (pos 3)) (at 12)) (at 10))
    (app (var 5 (at 17)) (lit (datum.Bool true) (at 24)) (at 17)) (at 1))

unused_nonsense-blamed : blame_of [] unused_nonsense ≡ at 10
unused_nonsense-blamed = refl

-- `(if true then \x:int. putint x else \x: int | bool. skip) 5`
abbrev two_procedures : Tree
two_procedures =
    cond (lit (datum.Bool true) (at 5)) (lam 5 (only (atom Int)) (app (var 5 (at 23)) (var 0 (at 30)) (at 23)) (at 15))
    (lam 5 (and_type (atom Int) (only (atom Truth))) (skip (at 53)) (at 37)) (at 2)

chosen_procedure : least_type [] (in_prelude two_procedures)
    ≡ and_path (call (one_end Int) (end Comm)) (and_path (call (and_path (end Int) (one_end Truth)) (end Comm)) no_paths)
chosen_procedure = refl

chosen_called : least_type [] (in_prelude (app two_procedures (lit (datum.Int (pos 5)) (at 59)) (at 2))) ≡ one_end Comm
chosen_called = refl

-- `(\x: int | bool. x) 5` in two visits of the body
abbrev doubled : Tree
doubled = app (lam 0 (and_type (atom Int) (only (atom Truth))) (var 0 (at 17)) (at 2)) (lit (datum.Int (pos 5)) (at 20)) (at 2)

doubled-visits : length (visits 0 [] doubled) ≡ 5
doubled-visits = refl

-- the application's int, the abstraction's two paths of three nodes each, the body's int and bool, and the argument's int
doubled-nodes : sum_by all_nodes (all_least (visits 0 [] doubled)) ≡ 10
doubled-nodes = refl

doubled-written : all_written (visits 0 [] doubled) ≡ one_end Int ∷ one_end Truth ∷ []
doubled-written = refl

-- the joins of the first two and of all three parts of `seq(1, 2, 3)`'s case; the last one is the case's own least type
abbrev three_parts : Tree
three_parts = case (lit (datum.Int (pos 0)) (at 1)) (and_tree (lit (datum.Int (pos 1)) (at 1))
    (and_tree (lit (datum.Int (pos 2)) (at 1)) (and_tree (lit (datum.Int (pos 3)) (at 1)) no_trees))) (at 1)

three_parts-least : length (all_least (visits 0 [] three_parts)) ≡ 6
three_parts-least = refl

-- an index that is no integer leaves the earlier joins out
abbrev no_index : Tree
no_index = case (skip (at 1)) (and_tree (lit (datum.Int (pos 1)) (at 1))
    (and_tree (lit (datum.Int (pos 2)) (at 1)) (and_tree (lit (datum.Int (pos 3)) (at 1)) no_trees))) (at 1)

no_index-least : length (all_least (visits 0 [] no_index)) ≡ 5
no_index-least = refl

-- the shape of `\x: int. skip`: a call and then a run
pub called_run : least_shape_table (lam 0 (only (atom Int)) (skip (at 10)) (at 1)) 0 (a_call (at_end a_run))
called_run = this_visit first_path
