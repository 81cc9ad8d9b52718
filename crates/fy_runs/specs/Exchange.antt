-- One step of a run over a source and a sink.
use Rattle.std.specs.Prelude.{◌≡◌, ℕ, Bool, Some, None, is_none}
use Rattle.std.specs.Option.{option_to_list}
use Rattle.std.specs.declared.option.Option.{Option}
use Rattle.fy_base.specs.Outside.{Bytes, Drew, Gained, GainedPart}
use Rattle.fy_runs.specs.Runs.{Move, goes, puts, takes, stops}
use Rattle.fy_runs.specs.Ends.{Limited, Close, stands, refused, unread, unwritten}

-- what is left at the source, whether it was at its end once, and what the sink holds
pub record Outer : Type 0 where
  pub left : Option Bytes
  pub over : Bool
  pub held : Option Bytes

-- a step is made, which leads there: the run goes on, and the step is within the limit
pub record IsMade {S T : Type 0} (l : Limited S T) (old : S) (move : Move S T) : Type 0 where
  pub going : l.machine.standing old ≡ l.machine.going
  pub move_is : l.machine.step old ≡ move
  pub inside : l.IsInside old

-- the step with its input and output, by how many steps the run is longer, and how it closed by it, or `None` where it goes on
pub data Exchange {S T : Type 0} (l : Limited S T) (old new : S) (o u : Outer) : ℕ → Option (Close T) → Type 0 where
  went : IsMade l old (goes new) → u ≡ o → Exchange l old new o u 1 None
  wrote : (text : Bytes) → IsMade l old (puts text new) → u.left ≡ o.left → u.over ≡ o.over → Gained o.held u.held text → Exchange l old new o u 1 None
  took : (byte : Option ℕ) (go : Option ℕ → S) → IsMade l old (takes go) → new ≡ go byte → Drew o.left u.left o.over u.over (option_to_list byte) → u.over ≡ is_none byte → u.held ≡ o.held
      → Exchange l old new o u 1 None
  stopped : (t : T) (s : S) → IsMade l old (stops t s) → u ≡ o → Exchange l old new o u 1 (Some (stands t))
  was_over : (t : T) → l.machine.standing old ≡ t → u ≡ o → Exchange l old new o u 0 (Some (stands t))
  refused_by : l.machine.standing old ≡ l.machine.going → l.IsPast old → u ≡ o → Exchange l old new o u 0 (Some refused)
  unread_by : (go : Option ℕ → S) → IsMade l old (takes go) → u ≡ o → Exchange l old new o u 1 (Some unread)
  unwritten_by : (text : Bytes) → IsMade l old (puts text new) → u.left ≡ o.left → u.over ≡ o.over → GainedPart o.held u.held text → Exchange l old new o u 1 (Some unwritten)
