-- What one run of the image of a phrase shows of the copy rule.
use Rattle.std.specs.Prelude.{◌≡◌, ℕ, ◌≤◌, ◌<◌}
use Rattle.fy_base.specs.Outside.{Bytes, IsPrefix}
use Rattle.fy_base.specs.declared.data.Ending.{Ending}
use Rattle.fy_base.specs.declared.data.Ending.TheVariants as ends
use Rattle.fy_base.specs.declared.data.FaultKind.{FaultKind}
use Rattle.fy_base.specs.declared.data.Place.{Place}
use Rattle.fy_base.specs.declared.data.TrapKind.{TrapKind}
use Rattle.fy_phrase.specs.Tree.{Tree}
use Rattle.fy_phrase.specs.Copy as copy
use Rattle.fy_phrase.specs.Copy.{going, copy_after, peak_load}
use Rattle.fy_phrase.specs.Bounds.{instruction_bound, copy_bound}
use Rattle.fy_derive.specs.Safety.{IsNeverStuck}
use Rattle.fy_image.specs.declared.image.Image.{Image}
use Rattle.fy_image.specs.Machine.{start_of, going_world, machine_after}
use Rattle.rv_insn.specs.Program.{Program}
use Rattle.rv_machine.specs.Ends.{EndsSo}
use Rattle.fy_build.specs.Headline.{AreBytes, RunsAsCopyRule}

-- how a run of an image ends that no fault of the outside ends
pub data RunEnd : Type 0 where
  ended : RunEnd
  faulted : (kind : FaultKind) (at : Place) → RunEnd
  exhausted : RunEnd
  spent : RunEnd
  trapped : (kind : TrapKind) → RunEnd

-- the same among the ends of all runs
abbrev pub ending_of_run : RunEnd → Ending
ending_of_run ended = ends.Ended
ending_of_run (faulted kind at) = ends.Fault kind at
ending_of_run exhausted = ends.Exhausted
ending_of_run spent = ends.Spent
ending_of_run (trapped kind) = ends.Trap kind

-- what a run of n instructions that ended so shows of the copy rule, by its end; none is trapped
abbrev pub ShowsCopyRule : RunEnd → Tree → Image → Program → Bytes → ℕ → Type 0
ShowsCopyRule ended p image program input n =
    ((copy_after p input (copy_bound p n)).standing ≡ copy.ended) × ((machine_after program image input n).output ≡ (copy_after p input (copy_bound p n)).output)
ShowsCopyRule (faulted kind at) p image program input n =
    ((copy_after p input (copy_bound p n)).standing ≡ copy.faulted kind at) × ((machine_after program image input n).output ≡ (copy_after p input (copy_bound p n)).output)
ShowsCopyRule exhausted p image program input n =
    (image.stack_words < peak_load p input (copy_bound p n)) × IsPrefix (machine_after program image input n).output (copy_after p input (copy_bound p n)).output
ShowsCopyRule spent p image program input n =
    IsPrefix (machine_after program image input n).output (copy_after p input (copy_bound p n)).output
    × ((m : ℕ) → instruction_bound p m ≤ n → ((copy_after p input m).standing ≡ going) × IsPrefix (copy_after p input m).output (machine_after program image input n).output)
ShowsCopyRule (trapped kind) p image program input n = ⊥

-- a run, on an input of bytes, of the image of a phrase that is never stuck shows it
abbrev pub RunsShowCopyRule : Type 0
RunsShowCopyRule =
    (p : Tree) (image : Image) (runs : RunsAsCopyRule p image) (input : Bytes) (n limit : ℕ) (end : RunEnd) → IsNeverStuck p → AreBytes input
    → EndsSo (ending_of_run end) runs.program (going_world (start_of image) input) n limit → ShowsCopyRule end p image runs.program input n
