-- The headline: what the image of a phrase keeps of the copy rule, whatever its input of bytes is.
use Rattle.std.specs.Prelude.{◌≡◌, ◌≢◌, ◌⊎◌, ℕ, ◌<◌, All}
use Rattle.fy_base.specs.Outside.{Bytes, IsPrefix}
use Rattle.fy_base.specs.declared.data.Place.{Place}
use Rattle.fy_base.specs.declared.data.FaultKind.{FaultKind}
use Rattle.fy_base.specs.declared.data.TrapKind.{TrapKind}
use Rattle.fy_phrase.specs.Tree.{Tree}
use Rattle.fy_phrase.specs.Copy.{Standing, ended, faulted, CopyRun, copy_after, peak_load}
use Rattle.fy_phrase.specs.Bounds.{instruction_bound, copy_bound}
use Rattle.fy_image.specs.declared.image.Image.{Image}
use Rattle.fy_image.specs.Machine.{IsProgramOf, machine_after}
use Rattle.rv_insn.specs.Encoding.{IsWordOf}
use Rattle.rv_insn.specs.Program.{Program}
use Rattle.rv_insn.specs.Run.{World}
use Rattle.rv_insn.specs.declared.instructions.Insn.{Insn}
use Rattle.rv_insn.specs.declared.events.Event.{Event}
use Rattle.rv_insn.specs.declared.events.Event.TheVariants.{Ended, Fault, Exhausted, Trap}

-- the machine's run and the copy rule's are over in the same way
pub data IsSameEnd : Event → Standing → Type 0 where
  both_ended : IsSameEnd Ended ended
  both_faulted : (kind : FaultKind) (at : Place) → IsSameEnd (Fault kind at) (faulted kind at)

-- ended, or faulted
abbrev pub IsOverEvent : Event → Type 0
IsOverEvent Ended = Unit {0}
IsOverEvent (Fault kind at) = Unit {0}
IsOverEvent _ = ⊥

abbrev pub IsOverStanding : Standing → Type 0
IsOverStanding ended = Unit {0}
IsOverStanding (faulted kind at) = Unit {0}
IsOverStanding _ = ⊥

-- over in the same way, with the same output and the same rest of input
pub record IsSameOver (world : World) (run : CopyRun) : Type 0 where
  pub end : IsSameEnd world.ending run.standing
  pub output : world.output ≡ run.output
  pub rest : world.input ≡ run.input

-- all that the copy rule has done after some steps, the image has done
pub record Reaches (world : World) (run : CopyRun) : Type 0 where
  pub output : IsPrefix run.output world.output
  pub end : IsOverStanding run.standing → IsSameOver world run

-- what an input is made of
abbrev pub AreBytes : Bytes → Type 0
AreBytes input = All (λ byte. byte < 256) input

-- the image prints what the copy rule prints and ends as it ends
pub record RunsAsCopyRule (p : Tree) (image : Image) : Type 0 where
  pub program : Program
  pub is_the_images : IsProgramOf image program
  pub output_is_prefix : (input : Bytes) (n : ℕ) → AreBytes input → IsPrefix (machine_after program image input n).output (copy_after p input (copy_bound p n)).output
  pub end_is_the_copy_rules : (input : Bytes) (n : ℕ) → AreBytes input → IsOverEvent (machine_after program image input n).ending
      → IsSameOver (machine_after program image input n) (copy_after p input (copy_bound p n))
  pub reaches_what_the_copy_rule_reaches : (input : Bytes) (m : ℕ) → AreBytes input
      → ((machine_after program image input (instruction_bound p m)).ending ≡ Exhausted) ⊎ Reaches (machine_after program image input (instruction_bound p m)) (copy_after p input m)
  pub exhausted_only_past_the_stack : (input : Bytes) (n : ℕ) → AreBytes input → (machine_after program image input n).ending ≡ Exhausted
      → image.stack_words < peak_load p input (copy_bound p n)
  pub never_traps : (input : Bytes) (n : ℕ) (kind : TrapKind) → AreBytes input → (machine_after program image input n).ending ≢ Trap kind
  pub words_are_instructions : All (λ word. (insn : Insn) × IsWordOf insn word) image.code
