-- Where frames stand in the array.
use Rattle.std.specs.Prelude.{◌≡◌, ◌≢◌, ℕ, ◌<◌, List, [], length, slice_index_or, MatchOption, Some, None}
use Rattle.std.specs.declared.option.Option.{Option}
use Rattle.pe_machine.specs.States as states
use Rattle.pe_machine.specs.States.{frame_outside, handed_on}
use Rattle.fy_base.specs.declared.data.Datum.{Datum}
use Rattle.pe_machine.specs.Shown.{frame_of, frames_onto, number_of}
use Rattle.pe_machine.specs.declared.frames.FrameName.{FrameName}
use Rattle.pe_machine.specs.declared.frames.Frame.{Frame}
use Rattle.pe_machine.specs.declared.contexts.Held.{Held}

-- a place below end at which a frame has the number, or none where no frame there has
abbrev pub IsPlace : List Frame → ℕ → ℕ → Option ℕ → Type 0
IsPlace frames end number place =
    MatchOption place ((k : ℕ) (d : Frame) → k < end → (slice_index_or frames k d).number ≢ number)
    (λ p. (p < end) × ((d : Frame) → (slice_index_or frames p d).number ≡ number))

-- the place of the frame so many links outside the one that is named, or none where there is none
abbrev pub IsOutside : List Datum → List Frame → ℕ → Option FrameName → Option ℕ → Type 0
IsOutside cells frames links name place =
    MatchOption place (frame_outside (frames_onto cells [] frames) links (number_of name) ≡ None)
    (λ p. (p < length frames) × ((d : Frame) → frame_outside (frames_onto cells [] frames) links (number_of name) ≡ Some (frame_of cells (slice_index_or frames p d))))

-- what a variable of a frame hands on
abbrev pub handed_by : states.Frame → states.Thunk
handed_by f = handed_on f.number f.binding

-- a context stands at a place
abbrev pub IsHeldAt : Held → ℕ → List Held → Type 0
IsHeldAt held place contexts = (place < length contexts) × ((d : Held) → slice_index_or contexts place d ≡ held)
