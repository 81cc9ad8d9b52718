-- Names that lead to their frames without a search: where a frame in the array has a name's number, it stands at the name's place.
use Rattle.std.specs.Prelude.{◌≡◌, ℕ, ◌<◌, List, length, slice_index_or, All, IfSome, Some, None}
use Rattle.std.specs.Coded.{×_prop, Π_prop, →_prop, Unit-prop, le_prop, Coded-set, coded_ℕ}
use Rattle.std.specs.declared.option.Option.{Option}
use Rattle.pe_machine.specs.declared.frames.FrameName.{FrameName}
use Rattle.pe_machine.specs.declared.frames.Thunk.{Thunk}
use Rattle.pe_machine.specs.declared.frames.Thunk.TheVariants as thunk
use Rattle.pe_machine.specs.declared.frames.Binding.{Binding}
use Rattle.pe_machine.specs.declared.frames.Binding.TheVariants as binding
use Rattle.pe_machine.specs.declared.frames.Frame.{Frame}
use Rattle.pe_machine.specs.declared.contexts.Pointer.{Pointer}
use Rattle.pe_machine.specs.declared.contexts.Context.{Context}
use Rattle.pe_machine.specs.declared.contexts.Context.TheVariants as held
use Rattle.pe_machine.specs.declared.contexts.Held.{Held}
use Rattle.pe_machine.specs.declared.contexts.Filling.{Filling}
use Rattle.pe_machine.specs.declared.contexts.Focus.{Focus}
use Rattle.pe_machine.specs.declared.contexts.Focus.TheVariants as focus
use Rattle.pe_machine.specs.declared.turns.Change.{Change}
use Rattle.pe_machine.specs.declared.turns.Change.TheVariants as change
use Rattle.pe_machine.specs.declared.turns.Turn.{Turn}
use Rattle.pe_machine.specs.declared.turns.Turn.TheVariants as turn
use Rattle.pe_machine.specs.declared.turns.Demand.{Demand}
use Rattle.pe_machine.specs.declared.turns.Demand.TheVariants as demand
use Rattle.pe_machine.specs.declared.turns.Act.{Act}
use Rattle.pe_machine.specs.declared.turns.Act.TheVariants as act
use Rattle.pe_machine.specs.declared.lookup.OwnCell.{OwnCell}
use Rattle.pe_machine.specs.declared.lookup.OwnCell.TheVariants as own_cell

-- the frames in the array, and the number that the next one takes
pub record Frames : Type 0 where
  pub items : List Frame
  pub next : ℕ

-- ---- what names frames

-- a name that was given: no frame of its number will be made, and where one is there, it stands at the name's place
abbrev pub IsPlacedName : Frames → FrameName → Type 0
IsPlacedName frames name =
    (name.number < frames.next) × ((k : ℕ) (d : Frame) → k < length frames.items → (slice_index_or frames.items k d).number ≡ name.number → k ≡ name.place)

-- a name, if there is one
abbrev pub IsPlacedLink : Frames → Option FrameName → Type 0
IsPlacedLink frames None = Unit {0}
IsPlacedLink frames (Some name) = IsPlacedName frames name

abbrev pub IsPlacedThunk : Frames → Thunk → Type 0
IsPlacedThunk frames (thunk.Source node frame) = IsPlacedLink frames frame
IsPlacedThunk frames (thunk.Literal v) = Unit {0}
IsPlacedThunk frames (thunk.Cell name) = IsPlacedName frames name
IsPlacedThunk frames (thunk.Jump name) = IsPlacedName frames name
IsPlacedThunk frames (thunk.Sequence name) = IsPlacedName frames name

abbrev pub IsPlacedBinding : Frames → Binding → Type 0
IsPlacedBinding frames (binding.ToThunk t) = IsPlacedThunk frames t
IsPlacedBinding frames (binding.ToCell v) = Unit {0}
IsPlacedBinding frames binding.ToEscape = Unit {0}
IsPlacedBinding frames (binding.ToSequence place count) = Unit {0}

abbrev pub IsPlacedFrame : Frames → Frame → Type 0
IsPlacedFrame frames f = IsPlacedBinding frames f.binding × IsPlacedLink frames f.around

abbrev pub IsPlacedPointer : Frames → Pointer → Type 0
IsPlacedPointer frames p = IsPlacedLink frames p.frame

abbrev pub IsPlacedContext : Frames → Context → Type 0
IsPlacedContext frames (held.OpL op q at) = IsPlacedPointer frames q
IsPlacedContext frames (held.If p q) = IsPlacedPointer frames p × IsPlacedPointer frames q
IsPlacedContext frames (held.Case parts at) = IsPlacedPointer frames parts
IsPlacedContext frames (held.Arg t) = IsPlacedThunk frames t
IsPlacedContext frames (held.Then q) = IsPlacedPointer frames q
IsPlacedContext frames (held.Assign p) = IsPlacedPointer frames p
IsPlacedContext frames (held.While loop c) = IsPlacedPointer frames loop × IsPlacedPointer frames c
IsPlacedContext frames (held.Body loop) = IsPlacedPointer frames loop
IsPlacedContext frames (held.Loop loop) = IsPlacedPointer frames loop
IsPlacedContext frames (held.New d body) = IsPlacedPointer frames body
IsPlacedContext frames (held.Cells d body place) = IsPlacedPointer frames body
IsPlacedContext frames (held.Element is_written name) = IsPlacedName frames name
IsPlacedContext frames _ = Unit {0}

abbrev pub IsPlacedFocus : Frames → Focus → Type 0
IsPlacedFocus frames (focus.Code p) = IsPlacedPointer frames p
IsPlacedFocus frames (focus.Value v) = Unit {0}
IsPlacedFocus frames focus.Completed = Unit {0}

-- ---- what the stacks keep

abbrev pub ArePlacedContexts : Frames → List Held → Type 0
ArePlacedContexts frames contexts = All (λ h. IsPlacedContext frames h.context) contexts

abbrev pub ArePlacedFrames : Frames → Type 0
ArePlacedFrames frames = All (IsPlacedFrame frames) frames.items

-- ---- what a step comes to

abbrev pub IsPlacedChange : Frames → Change → Type 0
IsPlacedChange frames (change.Focus f) = IsPlacedFocus frames f
IsPlacedChange frames (change.Push c p) = IsPlacedContext frames c × IsPlacedPointer frames p
IsPlacedChange frames (change.PushValue c v) = IsPlacedContext frames c
IsPlacedChange frames (change.Bind d t p) = IsPlacedThunk frames t × IsPlacedPointer frames p
IsPlacedChange frames (change.NewCell d v p) = IsPlacedPointer frames p
IsPlacedChange frames (change.NewEscape d p) = IsPlacedPointer frames p
IsPlacedChange frames (change.SetCell name v) = IsPlacedName frames name
IsPlacedChange frames (change.SetElement name i v) = IsPlacedName frames name
IsPlacedChange frames (change.Assign name v) = IsPlacedName frames name

abbrev pub IsPlacedTurn : Frames → Turn → Type 0
IsPlacedTurn frames (turn.On c) = IsPlacedChange frames c
IsPlacedTurn frames (turn.Fill count d body at) = IsPlacedPointer frames body
IsPlacedTurn frames (turn.Read p) = IsPlacedPointer frames p
IsPlacedTurn frames _ = Unit {0}

abbrev pub IsPlacedDemand : Frames → Demand → Type 0
IsPlacedDemand frames (demand.Argument d p) = IsPlacedPointer frames p
IsPlacedDemand frames (demand.Selection i p) = IsPlacedPointer frames p
IsPlacedDemand frames (demand.Assigned d p) = IsPlacedPointer frames p
IsPlacedDemand frames (demand.Cell name) = IsPlacedName frames name
IsPlacedDemand frames (demand.Length count) = Unit {0}

abbrev pub IsPlacedAct : Frames → Act → Type 0
IsPlacedAct frames (act.Now t) = IsPlacedTurn frames t
IsPlacedAct frames (act.Use k shape frame) = IsPlacedLink frames frame
IsPlacedAct frames (act.Pass k p) = IsPlacedPointer frames p
IsPlacedAct frames (act.Let d k p) = IsPlacedPointer frames p
IsPlacedAct frames (act.Ask d) = IsPlacedDemand frames d

abbrev pub IsPlacedOwnCell : Frames → OwnCell → Type 0
IsPlacedOwnCell frames (own_cell.Reads name v) = IsPlacedName frames name
IsPlacedOwnCell frames own_cell.NoCell = Unit {0}
IsPlacedOwnCell frames own_cell.NoFrame = Unit {0}

-- ---- each of what the stacks keep has one proof

pub name_prop : (frames : Frames) (name : FrameName) → IsProp (IsPlacedName frames name)
name_prop frames name = ×_prop le_prop (Π_prop (λ k. Π_prop (λ d. →_prop (→_prop (Coded-set coded_ℕ k name.place)))))

pub link_prop : (frames : Frames) (link : Option FrameName) → IsProp (IsPlacedLink frames link)
link_prop frames None = Unit-prop
link_prop frames (Some name) = name_prop frames name

pub thunk_prop : (frames : Frames) (t : Thunk) → IsProp (IsPlacedThunk frames t)
thunk_prop frames (thunk.Source node frame) = link_prop frames frame
thunk_prop frames (thunk.Literal v) = Unit-prop
thunk_prop frames (thunk.Cell name) = name_prop frames name
thunk_prop frames (thunk.Jump name) = name_prop frames name
thunk_prop frames (thunk.Sequence name) = name_prop frames name

pub binding_prop : (frames : Frames) (b : Binding) → IsProp (IsPlacedBinding frames b)
binding_prop frames (binding.ToThunk t) = thunk_prop frames t
binding_prop frames (binding.ToCell v) = Unit-prop
binding_prop frames binding.ToEscape = Unit-prop
binding_prop frames (binding.ToSequence place count) = Unit-prop

pub frame_prop : (frames : Frames) (f : Frame) → IsProp (IsPlacedFrame frames f)
frame_prop frames f = ×_prop (binding_prop frames f.binding) (link_prop frames f.around)

pub context_prop : (frames : Frames) (c : Context) → IsProp (IsPlacedContext frames c)
context_prop frames (held.OpL op q at) = link_prop frames q.frame
context_prop frames (held.If p q) = ×_prop (link_prop frames p.frame) (link_prop frames q.frame)
context_prop frames (held.Case parts at) = link_prop frames parts.frame
context_prop frames (held.Arg t) = thunk_prop frames t
context_prop frames (held.Then q) = link_prop frames q.frame
context_prop frames (held.Assign p) = link_prop frames p.frame
context_prop frames (held.While loop c) = ×_prop (link_prop frames loop.frame) (link_prop frames c.frame)
context_prop frames (held.Body loop) = link_prop frames loop.frame
context_prop frames (held.Loop loop) = link_prop frames loop.frame
context_prop frames (held.New d body) = link_prop frames body.frame
context_prop frames (held.Cells d body place) = link_prop frames body.frame
context_prop frames (held.Element is_written name) = name_prop frames name
context_prop frames _ = Unit-prop

pub focus_prop : (frames : Frames) (f : Focus) → IsProp (IsPlacedFocus frames f)
focus_prop frames (focus.Code p) = link_prop frames p.frame
focus_prop frames (focus.Value v) = Unit-prop
focus_prop frames focus.Completed = Unit-prop

pub contexts_prop : (frames : Frames) (contexts : List Held) → IsProp (ArePlacedContexts frames contexts)
contexts_prop frames contexts = Π_prop (λ k. Π_prop (λ d. →_prop (context_prop frames (slice_index_or contexts k d).context)))

pub frames_prop : (frames : Frames) → IsProp (ArePlacedFrames frames)
frames_prop frames = Π_prop (λ k. Π_prop (λ d. →_prop (frame_prop frames (slice_index_or frames.items k d))))

pub filling_prop : (frames : Frames) (o : Option Filling) → IsProp (IfSome o (λ f. IsPlacedPointer frames f.body))
filling_prop frames None = Unit-prop
filling_prop frames (Some f) = link_prop frames f.body.frame
