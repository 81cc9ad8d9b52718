-- Code that does what other code does and needs no more steps for it, and that makes about as few frames.
use Rattle.std.specs.Prelude.{ℕ, ◌*◌, ◌≤◌, ◌≡◌, ◌≢◌, ◌++◌}
use Rattle.fy_base.specs.Outside.{Bytes}
use Rattle.fy_phrase.specs.declared.shapes.ShapeTable.{ShapeTable}
use Rattle.fy_phrase.specs.Tree.{Tree}
use Rattle.fy_phrase.specs.WellMade.{IsClosed, HasDepths}
use Rattle.pe_code.specs.declared.code.PeCode.{PeCode}
use Rattle.pe_machine.specs.Run.{PeRun, going, pe_after}
use Rattle.pe_right.specs.Constants.{no_data}
use Rattle.pe_right.specs.Direct.{IsDirectOf}
use Rattle.pe_right.specs.Entered.{none_straight}
use Rattle.pe_right.specs.Right.{IsCodeOf}
use Rattle.pe_right.specs.Typed.{IsTableOf}

-- the first run is at least as far as the second: it has put as much, and where the second is over it is over alike, with the same output and rest of input
pub record IsAheadOf (r t : PeRun) : Type 0 where
  pub more : Bytes
  pub output : r.output ≡ t.output ++ more
  pub over : t.standing ≢ going → (r.standing ≡ t.standing) × (r.output ≡ t.output) × (r.input ≡ t.input)

-- how many frames a run has made: they are numbered from 0 in order of making, so as many as the number that the next one takes
abbrev pub frames_made : PeRun → ℕ
frames_made r = r.state.next

-- after the same steps the code `made` is at least as far as `code`
abbrev pub StaysAhead : (code made : PeCode) → Type 0
StaysAhead code made = (input : Bytes) (n : ℕ) → IsAheadOf (pe_after made input n) (pe_after code input n)

-- the code `made` makes no more frames than `code` does in 16 times as many steps
abbrev pub MakesFewFrames : (code made : PeCode) → Type 0
MakesFewFrames code made = (input : Bytes) (n : ℕ) → frames_made (pe_after made input n) ≤ frames_made (pe_after code input (16 * n))

pub record KeepsAhead (code made : PeCode) : Type 0 where
  pub ahead : StaysAhead code made
  pub frames : MakesFewFrames code made

-- code in which constants are handed as data keeps ahead of the code that hands thunks, for a closed phrase and the table of an accepted derivation
abbrev pub DirectKeepsAhead : Type 0
DirectKeepsAhead =
    (p : Tree) (table : ShapeTable) (code made : PeCode) → IsClosed p → HasDepths p → IsTableOf p table → IsCodeOf no_data none_straight p table code → IsDirectOf p code made → KeepsAhead code made
