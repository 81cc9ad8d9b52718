-- Phrases that have no type, and are stuck.
use Rattle.std.proofs.Common.{◌≡◌, [], refl, pos}
use Rattle.fy_base.specs.declared.data.Place.{Place}
use Rattle.fy_base.specs.Places.{first_place}
use Rattle.fy_base.specs.declared.data.Datum.TheVariants as datum
use Rattle.fy_types.specs.declared.types.Atom.TheVariants as atoms
use Rattle.fy_types.specs.Types.{atom, no_types, and_type}
use Rattle.fy_phrase.specs.Tree.{Tree, lit, lam, app, merge, let_in, skip}
use Rattle.fy_runs.specs.Runs.{after}
use Rattle.fy_phrase.specs.Copy.{going, stuck, copy_after}

here : Place
here = first_place

-- `3 3`: a number is called
abbrev called_number : Tree
called_number = app (lit (datum.Int (pos 3)) here) (lit (datum.Int (pos 3)) here) here

called_number-goes_on : (copy_after called_number [] 1).standing ≡ going
unfolding after
called_number-goes_on = refl

called_number-sticks : (copy_after called_number [] 2).standing ≡ stuck
unfolding after
called_number-sticks = refl

-- `(1, let x == skip in \ x : int. skip) 5`: the right operand would take the call, but it is no abstraction yet
abbrev hidden_procedure : Tree
hidden_procedure =
    app (merge (lit (datum.Int (pos 1)) here) (let_in 0 (skip here) (lam 1 (and_type (atom atoms.Int) no_types) (skip here) here) here) here)
    (lit (datum.Int (pos 5)) here) here

hidden_procedure-sticks : (copy_after hidden_procedure [] 3).standing ≡ stuck
unfolding after
hidden_procedure-sticks = refl
