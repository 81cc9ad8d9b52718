-- The image of selected code does what the push-enter code does.
use Rattle.std.specs.Prelude.{◌≡◌, ◌≢◌, ◌⊎◌, ℕ, ◌+◌, ◌*◌, ◌<◌, All}
use Rattle.fy_base.specs.Outside.{Bytes, IsPrefix}
use Rattle.fy_base.specs.declared.data.Place.{Place}
use Rattle.fy_base.specs.declared.data.FaultKind.{FaultKind}
use Rattle.fy_base.specs.declared.data.TrapKind.{TrapKind}
use Rattle.fy_image.specs.declared.image.Image.{Image}
use Rattle.fy_image.specs.Machine.{IsProgramOf, machine_after}
use Rattle.rv_insn.specs.declared.events.Event.{Event}
use Rattle.rv_insn.specs.declared.events.Event.TheVariants.{Ended, Fault, Exhausted, Trap}
use Rattle.rv_insn.specs.Program.{Program}
use Rattle.rv_insn.specs.Run.{World}
use Rattle.pe_code.specs.declared.code.PeCode.{PeCode}
use Rattle.pe_machine.specs.Run.{PeRun, Standing, ended, faulted, stuck, gone, pe_after, pe_peak_load}
use Rattle.rv_flow.specs.Laws.{IsImageOf}
use Rattle.rv_select.specs.Program.{word_code}
use Rattle.rv_select.specs.Laws.{IsSelectable, deepest}

-- an image whose words are the assembled items of selected code, with the selection's table and places, and a stack of its own
pub record IsSelectionImage (code : PeCode) (image : Image) : Type 0 where
  pub selectable : IsSelectable code
  pub image_of : IsImageOf (word_code code) image

-- the code never comes to what has no step, nor to a frame that is gone
pub record NeverFails (code : PeCode) : Type 0 where
  pub never_stuck : (input : Bytes) (n : ℕ) → (pe_after code input n).standing ≢ stuck
  pub never_gone : (input : Bytes) (n : ℕ) → (pe_after code input n).standing ≢ gone

-- both runs are over in the same way
pub data IsSameEnd : Event → Standing → Type 0 where
  both_ended : IsSameEnd Ended ended
  both_faulted : (kind : FaultKind) (at : Place) → IsSameEnd (Fault kind at) (faulted kind at)

-- ended, or faulted
abbrev pub IsOverEvent : Event → Type 0
IsOverEvent Ended = Unit {0}
IsOverEvent (Fault kind at) = Unit {0}
IsOverEvent _ = ⊥

abbrev pub IsOverStanding : Standing → Type 0
IsOverStanding ended = Unit {0}
IsOverStanding (faulted kind at) = Unit {0}
IsOverStanding _ = ⊥

-- over in the same way, with the same output and the same rest of input
pub record IsSameOver (world : World) (r : PeRun) : Type 0 where
  pub end : IsSameEnd world.ending r.standing
  pub output : world.output ≡ r.output
  pub rest : world.input ≡ r.input

-- all that the machine has done, the code has done
pub record IsBehindRun (world : World) (r : PeRun) : Type 0 where
  pub output : IsPrefix world.output r.output
  pub over : IsOverEvent world.ending → IsSameOver world r

-- all that the code has done, the machine has done
pub record IsAsFarAs (world : World) (r : PeRun) : Type 0 where
  pub output : IsPrefix r.output world.output
  pub over : IsOverStanding r.standing → IsSameOver world r

-- within so many instructions the machine makes k steps of the code
abbrev pub step_bound : PeCode → ℕ → ℕ
step_bound code k = 250 * (k + 1) * (deepest code.items + 4)

-- what the image's machine does on an input
pub record ImageDoesRun (code : PeCode) (image : Image) (program : Program) (input : Bytes) : Type 0 where
  pub follows : (n : ℕ) → IsBehindRun (machine_after program image input n) (pe_after code input n)
  pub keeps_up : (k : ℕ) → ((machine_after program image input (step_bound code k)).ending ≡ Exhausted) ⊎ IsAsFarAs (machine_after program image input (step_bound code k)) (pe_after code input k)
  pub exhausted : (n : ℕ) → (machine_after program image input n).ending ≡ Exhausted → image.stack_words < pe_peak_load code input n
  pub never_traps : (n : ℕ) (kind : TrapKind) → (machine_after program image input n).ending ≢ Trap kind

-- it does so on every input of bytes
abbrev pub SelectionsFollow : Type 0
SelectionsFollow =
    (code : PeCode) (image : Image) (program : Program) (input : Bytes) → IsSelectionImage code image → NeverFails code → IsProgramOf image program → All (λ byte. byte < 256) input
    → ImageDoesRun code image program input
