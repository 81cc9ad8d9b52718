-- What an answer of the program tells of a step.
use Rattle.std.specs.Prelude.{◌≡◌, ℕ, false, None}
use Rattle.std.specs.declared.option.Option.{Option}
use Rattle.fy_base.specs.declared.data.Place.{Place}
use Rattle.fy_base.specs.declared.data.FaultKind.TheVariants.{Range}
use Rattle.fy_phrase.specs.Reads.{reads}
use Rattle.fy_phrase.specs.Sizes.{fits}
use Rattle.fy_phrase.specs.Contexts.{store_c}
use Rattle.fy_phrase.specs.Copy.{CopyState, CopyMove, goes, puts, takes, faults, sticks, focus_on, push, bind, focused, byte_or_end}
use Rattle.fy_copy.specs.declared.progress.Turn.{Turn}
use Rattle.fy_copy.specs.declared.progress.Turn.TheVariants as turn
use Rattle.fy_copy.specs.declared.progress.Body.{Body}
use Rattle.fy_copy.specs.declared.progress.Body.TheVariants.{Undemanded, TooBig, Made}
use Rattle.fy_copy.specs.declared.progress.Picked.{Picked}
use Rattle.fy_copy.specs.declared.progress.Picked.TheVariants.{Part, NoPart, NoIndex}

-- the next focus passes the limit on held phrases
abbrev pub IsTooBig : CopyMove → Type 0
IsTooBig (goes s) = fits s.focus ≡ false
IsTooBig (puts text s) = fits s.focus ≡ false
IsTooBig (takes go) = fits (go None).focus ≡ false
IsTooBig (faults kind at) = ⊥
IsTooBig sticks = ⊥

-- the state that a waiting one goes on to
abbrev pub given : CopyState → Option ℕ → CopyState
given s byte = push (store_c (byte_or_end byte)) s

-- the move that a turn tells, to the new state; the limit may be passed where it isn't told
abbrev pub Moved : Turn → CopyMove → CopyState → Type 0
Moved turn.Going m s = m ≡ goes s
Moved (turn.Put text) m s = m ≡ puts text s
Moved (turn.Fault kind at) m s = m ≡ faults kind at
Moved turn.Stuck m s = m ≡ sticks
Moved turn.TooBig m s = IsTooBig m

-- a binding's body leads to a move from a state
abbrev pub Binds : Body → ℕ → CopyMove → CopyState → Type 0
Binds Undemanded d m s = m ≡ sticks
Binds TooBig d m s = IsTooBig m
Binds (Made p) d m s = m ≡ goes (focus_on (reads p) (bind d s))

-- what a picked part leads to
abbrev pub picked_move : Picked → Place → CopyState → CopyMove
picked_move (Part p) at s = focused (reads p) s
picked_move NoPart at s = faults Range at
picked_move NoIndex at s = sticks
