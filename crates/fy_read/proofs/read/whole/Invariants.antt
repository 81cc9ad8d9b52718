use Rattle.std.proofs.Common.{◌≡◌, ◌+◌, ◌≤◌, length, take, drop}
use Rattle.std.specs.Prelude.{Some}
use Rattle.fy_read.specs.FieldNames.{HasAddedFrom}
use Rattle.fy_read.specs.Naming.{names_along, begun_words}
use Rattle.fy_read.specs.Readers.{spot_of, IsSound}
use Rattle.fy_read.specs.ReadSoFar.{IsRead}
use Rattle.fy_read.specs.Refusals.{KeepsBefore}
use Rattle.fy_read.specs.Steps.{start, steps}
use Rattle.fy_read.proofs.read.whole.Given as goal

-- the bytes so far are read, and what is left, read on, adds the names that the whole text does
abbrev pub invariant-loop-offset : goal.invariant-loop-offset
invariant-loop-offset l = record {
  read : IsRead l.names (take l.offset l.text) l.reader;
  led : steps (Some start) (take l.offset l.text) ≡ Some (spot_of l.reader);
  sound : IsSound l.reader;
  keeps : KeepsBefore l.text l.offset;
  within : l.offset ≤ length l.text;
  named : names_along (Some start) l.text l.fn.names ≡ names_along (Some (spot_of l.reader)) (drop l.offset l.text) l.names;
  gains : HasAddedFrom l.text l.fn.names l.names;
  few : length l.names + begun_words (spot_of l.reader) ≤ length l.fn.names + l.offset;
}
