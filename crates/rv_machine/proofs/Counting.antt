-- How many bytes a run puts, instruction by instruction.
use Rattle.std.proofs.Common.{◌≡◌, ◌≢◌, ◌+◌, [], ◌∷◌, length, sym, ap, ◌∙◌, refl, add-zero, length-append}
use Rattle.rv_insn.specs.Program.{Program}
use Rattle.rv_insn.specs.Step.{Core, instruction_step}
use Rattle.rv_insn.specs.Run.{settled}
use Rattle.rv_insn.proofs.Runs.{ticks_from}
use Rattle.rv_insn.specs.declared.events.Event.{Event}
use Rattle.rv_insn.specs.declared.events.Event.TheVariants as events
use Rattle.rv_machine.specs.Run.{World, tick}
use Rattle.rv_machine.specs.Turn.{put_count}

-- the output is longer by as many bytes as the event puts
settled_puts : (event : Event) (core : Core) (world : World) → length (settled event core world).output ≡ length world.output + put_count event
settled_puts events.Going core world = sym (add-zero (length world.output))
settled_puts (events.Put byte) core world = length-append world.output (byte ∷ [])
settled_puts events.WantByte core world = sym (add-zero (length world.output))
settled_puts events.Ended core world = sym (add-zero (length world.output))
settled_puts (events.Fault kind place) core world = sym (add-zero (length world.output))
settled_puts events.Exhausted core world = sym (add-zero (length world.output))
settled_puts (events.Trap kind) core world = sym (add-zero (length world.output))

-- one more instruction puts as many bytes more
pub tick_puts : (program : Program) (world : World) → world.ending ≡ events.Going → length (tick program world).output ≡ length world.output + put_count (instruction_step program world.core).event
tick_puts program world going =
    let step = instruction_step program world.core in
    ap (λ w. length w.output) (ticks_from program world going) ∙ settled_puts step.event step.core world

-- an event by which the run is over leaves the output as it is
settled_over : (event : Event) (core : Core) (world : World) → world.ending ≡ events.Going → (settled event core world).ending ≢ events.Going → (settled event core world).output ≡ world.output
settled_over events.Going core world going over = refl
settled_over (events.Put byte) core world going over = absurd (over going)
settled_over events.WantByte core world going over = refl
settled_over events.Ended core world going over = refl
settled_over (events.Fault kind place) core world going over = refl
settled_over events.Exhausted core world going over = refl
settled_over (events.Trap kind) core world going over = refl

-- an instruction by which the run is over puts none
pub over_puts_none : (program : Program) (world : World) → world.ending ≡ events.Going → (tick program world).ending ≢ events.Going → (tick program world).output ≡ world.output
over_puts_none program world going over =
    let step = instruction_step program world.core in
    let ticks : tick program world ≡ settled step.event step.core world = ticks_from program world going in
    ap (λ w. w.output) ticks ∙ settled_over step.event step.core world going (λ on. over (ap (λ w. w.ending) ticks ∙ on))
