-- Rows of the program's store by number, and the sequences in it.
use Rattle.std.specs.Prelude.{◌≡◌, ℕ, ◌+◌, ◌<◌, nat_lt, if◌then◌else◌, List, [], length, get_or, drop, Some, None, pos, negsuc}
use Rattle.std.specs.declared.option.Option.{Option}
use Rattle.fy_base.specs.declared.data.Place.{Place}
use Rattle.fy_base.specs.declared.data.Datum.{Datum}
use Rattle.fy_base.specs.declared.data.Datum.TheVariants as datum
use Rattle.fy_base.specs.declared.data.FaultKind.TheVariants.{Range}
use Rattle.fy_phrase.specs.declared.phrase.MarkKind.TheVariants as marks
use Rattle.fy_phrase.specs.Tree.{mark}
use Rattle.fy_phrase.specs.Copy.{Content, several, CopyState, CopyMove, faults, sticks, focused, content_of}
use Rattle.fy_copy.specs.Shown.{rows_onto}
use Rattle.fy_copy.specs.declared.context.Extent.{Extent}
use Rattle.fy_copy.specs.declared.context.Row.{Row}

-- row i has the number, and no newer one has it
pub record IsNewest (n : ℕ) (rows : List Row) (i : ℕ) : Type 0 where
  pub within : i < length rows
  pub number : (d : Row) → (get_or rows i d).number ≡ n
  pub newer : content_of n (rows_onto [] (drop (i + 1) rows)) ≡ None

-- the place and the number of cells of what the store holds, where that is a sequence
abbrev pub extent_in : Option Content → Option Extent
extent_in (Some (several at vs)) = Some (record { place = at; count = length vs })
extent_in _ = None

-- what an index does at sequence n, by its extent
abbrev pub picked_in : Extent → Datum → ℕ → Place → CopyState → CopyMove
picked_in e (datum.Int (pos i)) n here s = if nat_lt i e.count then focused (mark (marks.Element n i) here) s else faults Range e.place
picked_in e (datum.Int (negsuc i)) n here s = faults Range e.place
picked_in e _ n here s = sticks
