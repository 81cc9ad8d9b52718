-- A run of the machine on an input: one of those of all machines.
use Rattle.std.specs.Prelude.{◌≡◌, ◌≢◌, ℕ, Bool, true, false, List, [], ◌∷◌}
use Rattle.std.proofs.Common.{refl}
use Rattle.fy_runs.specs.Runs as runs
use Rattle.fy_runs.specs.Runs.{Move, Machine}
use Rattle.rv_insn.specs.declared.events.Event.{Event}
use Rattle.rv_insn.specs.declared.events.Event.TheVariants.{Going, Put, WantByte, Ended, Fault, Exhausted, Trap}
use Rattle.rv_insn.specs.Program.{Program}
use Rattle.rv_insn.specs.Step.{Core, instruction_step, given}

-- a machine, the input that is left, the output so far, and how the run ended: `Going` while it hasn't
pub record World : Type 0 where
  pub core : Core
  pub input : List ℕ
  pub output : List ℕ
  pub ending : Event

-- a world as a run, and back
abbrev pub run_of : World → runs.Run Core Event
run_of world = record { state = world.core; input = world.input; output = world.output; standing = world.ending }

abbrev pub world_of : runs.Run Core Event → World
world_of r = record { core = r.state; input = r.input; output = r.output; ending = r.standing }

-- the test of a run that goes on
abbrev pub goes_on : Event → Bool
goes_on Going = true
goes_on _ = false

pub off_going : (event : Event) → event ≢ Going → goes_on event ≡ false
off_going Going other = absurd (other refl)
off_going _ other = refl

-- what a step led to, in the words of all machines: a byte is put out or taken in at once
abbrev pub move_of : Event → Core → Move Core Event
move_of Going core = runs.goes core
move_of (Put byte) core = runs.puts (byte ∷ []) core
move_of WantByte core = runs.takes (λ byte. given byte core)
move_of Ended core = runs.stops Ended core
move_of (Fault kind place) core = runs.stops (Fault kind place) core
move_of Exhausted core = runs.stops Exhausted core
move_of (Trap kind) core = runs.stops (Trap kind) core

-- a run goes on in each machine that a step leads to
abbrev pub standing_of : Core → Event
standing_of core = Going

-- a program's machine among all machines
abbrev pub insn_machine : Program → Machine Core Event
insn_machine program =
    record { step = λ core. move_of (instruction_step program core).event (instruction_step program core).core; standing = standing_of; going = Going; goes_on = goes_on; on = refl; off = off_going }

-- the world after a step that led to an event and a core; where it goes on it stands as before
abbrev pub settled : Event → Core → World → World
settled event core world = world_of (runs.settled (λ now. world.ending) (move_of event core) (run_of world))

-- one step of a run that hasn't ended; one that has ended stays
abbrev pub tick_from : Event → Program → World → World
tick_from event program world = world_of (runs.ticked (insn_machine program) event (run_of world))

abbrev pub tick : Program → World → World
tick program world = tick_from world.ending program world

-- the world after n instructions
abbrev pub run : Program → ℕ → World → World
run program n world = world_of (runs.after (insn_machine program) n (run_of world))
