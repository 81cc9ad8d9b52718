-- One instruction with its input and output, by the event that its step leads to.
use Rattle.std.proofs.Common.{◌≡◌, ℕ, ◌<◌, Bool, IsTrue, [], ◌∷◌, ◌++◌, sym, ap, ◌∙◌, refl, subst, append_assoc, Some, None}
use Rattle.std.proofs.lemmas.List.Elements.{All-nil}
use Rattle.std.specs.declared.option.Option.{Option}
use Rattle.fy_base.specs.Outside.{Bytes, IsAtEnd, Gained, GainedPart, Drew}
use Rattle.fy_base.specs.declared.data.Ending.{Ending}
use Rattle.fy_base.specs.declared.data.Ending.TheVariants as ends
use Rattle.rv_insn.specs.Program.{Program}
use Rattle.rv_insn.specs.Step.{Core, instruction_step}
use Rattle.rv_insn.specs.Run.{settled}
use Rattle.rv_insn.proofs.Runs.{ticks_from}
use Rattle.rv_machine.specs.Run.{World, tick}
use Rattle.rv_machine.specs.Turn.{Shows, Came, TurnedIn, Turned}
use Rattle.rv_insn.specs.declared.events.Event.{Event}
use Rattle.rv_insn.specs.declared.events.Event.TheVariants as events
use Rattle.fy_runs.proofs.Outer.{gave_none, gained_more}

-- nothing was drawn
drew_none : (left : Option Bytes) (over : Bool) → (IsTrue over → IsAtEnd left) → Drew left left over over []
drew_none left over at_end = record { gave = gave_none left; none = λ _. refl; stays = λ was. was; at_end = at_end }

-- an instruction that draws nothing
turned_alone : (end : Option Ending) (program : Program) (core after : Core) (left : Option Bytes) (over : Bool) (held held_now : Option Bytes) → (IsTrue over → IsAtEnd left)
    → ((world : World) (input : Bytes) (before : Option Bytes) → world.ending ≡ events.Going → Shows world core input before held → TurnedIn end program world after input before held_now)
    → Turned end program core after left left over over held held_now
turned_alone end program core after left over held held_now at_end did = record {
  bytes = [];
  small = All-nil (λ byte. byte < 256);
  drew = drew_none left over at_end;
  did = λ world more before going none shows. did world more before going shows;
}

-- the world after an instruction whose step is known
pub ticked : (event : Event) (program : Program) (world : World) (core after : Core) → world.ending ≡ events.Going → core ≡ world.core → instruction_step program core ≡ record { event = event; core = after }
    → tick program world ≡ settled event after world
ticked event program world core after going same step =
    ticks_from program world going ∙ ap (λ c. settled (instruction_step program c).event (instruction_step program c).core world) (sym same) ∙ ap (λ o. settled o.event o.core world) step

came_to : (event : Event) (program : Program) (world now : World) (after : Core) (input : Bytes) (before held : Option Bytes) → tick program world ≡ now → now.ending ≡ event → Shows now after input before held
    → Came program world event after input before held
came_to event program world now after input before held ticks ending shows = record {
  ending_is = ap (λ w. w.ending) ticks ∙ ending;
  shows = let P : World → Type 0 = λ w. Shows w after input before held in subst P (sym ticks) shows;
}

-- it goes on
pub turned_going : (program : Program) (core after : Core) (left : Option Bytes) (over : Bool) (held : Option Bytes) → (IsTrue over → IsAtEnd left) → instruction_step program core ≡ record { event = events.Going; core = after }
    → Turned None program core after left left over over held held
turned_going program core after left over held at_end step = turned_alone None program core after left over held held at_end
    (λ world input before going shows.
    came_to events.Going program world (record world { core = after }) after input before held (ticked events.Going program world core after going shows.core_is step) going
    (record { core_is = refl; input_is = shows.input_is; output_is = shows.output_is }))

-- the run is over by an event that stops the machine
came_over : (event : Event) (program : Program) (core after : Core) (held : Option Bytes) → instruction_step program core ≡ record { event = event; core = after }
    → ((world : World) → settled event after world ≡ record world { core = after; ending = event })
    → (world : World) (input : Bytes) (before : Option Bytes) → world.ending ≡ events.Going → Shows world core input before held → Came program world event after input before held
came_over event program core after held step stops world input before going shows =
    came_to event program world (record world { core = after; ending = event }) after input before held (ticked event program world core after going shows.core_is step ∙ stops world) refl
    (record { core_is = refl; input_is = shows.input_is; output_is = shows.output_is })

pub turned_over : (end : Ending) (event : Event) (program : Program) (core after : Core) (left : Option Bytes) (over : Bool) (held : Option Bytes) → (IsTrue over → IsAtEnd left) → instruction_step program core ≡ record { event = event; core = after }
    → ((world : World) → settled event after world ≡ record world { core = after; ending = event })
    → ((world : World) (input : Bytes) (before : Option Bytes) → Came program world event after input before held → TurnedIn (Some end) program world after input before held)
    → Turned (Some end) program core after left left over over held held
turned_over end event program core after left over held at_end step stops same = turned_alone (Some end) program core after left over held held at_end
    (λ world input before going shows. same world input before (came_over event program core after held step stops world input before going shows))

-- it put a byte
pub turned_put : (byte : ℕ) (program : Program) (core after : Core) (left : Option Bytes) (over : Bool) (held now : Option Bytes) → (IsTrue over → IsAtEnd left) → instruction_step program core ≡ record { event = events.Put byte; core = after }
    → Gained held now (byte ∷ []) → Turned None program core after left left over over held now
turned_put byte program core after left over held now at_end step gained = turned_alone None program core after left over held now at_end
    (λ world input before going shows.
    came_to events.Going program world (record world { core = after; output = world.output ++ byte ∷ [] }) after input before now (ticked (events.Put byte) program world core after going shows.core_is step) going
    (record { core_is = refl; input_is = shows.input_is; output_is = gained_more before held now world.output (byte ∷ []) shows.output_is gained }))

event_of : (event : Event) (program : Program) (world : World) (core after : Core) → core ≡ world.core → instruction_step program core ≡ record { event = event; core = after } → (instruction_step program world.core).event ≡ event
event_of event program world core after same step = ap (λ c. (instruction_step program c).event) (sym same) ∙ ap (λ o. o.event) step

-- its put failed
pub turned_unput : (byte : ℕ) (program : Program) (core after : Core) (left : Option Bytes) (over : Bool) (held now : Option Bytes) → (IsTrue over → IsAtEnd left) → instruction_step program core ≡ record { event = events.Put byte; core = after }
    → GainedPart held now (byte ∷ []) → Turned (Some ends.OutputFault) program core after left left over over held now
turned_unput byte program core after left over held now at_end step gained = turned_alone (Some ends.OutputFault) program core after left over held now at_end
    (λ world input before going shows.
    let ticks = ticked (events.Put byte) program world core after going shows.core_is step in
    record {
      byte = byte;
      puts = event_of (events.Put byte) program world core after shows.core_is step;
      core_is = ap (λ w. w.core) (sym ticks);
      input_is = ap (λ w. w.input) ticks ∙ shows.input_is;
      output_is = record {
        part = world.output ++ gained.part;
        gained = gained_more before held now world.output gained.part shows.output_is gained.gained;
        begins = record {
          rest = gained.begins.rest;
          is = ap (λ w. w.output) ticks ∙ ap (λ b. world.output ++ b) gained.begins.is ∙ sym (append_assoc world.output gained.part gained.begins.rest);
        };
      };
      behind = record { rest = gained.part; is = refl };
    })

-- its read failed
pub turned_unread : (program : Program) (core after : Core) (left left_now : Option Bytes) (over over_now : Bool) (held : Option Bytes) → (IsTrue over → IsAtEnd left) → instruction_step program core ≡ record { event = events.WantByte; core = after }
    → left_now ≡ left → over_now ≡ over → Turned (Some ends.InputFault) program core after left left_now over over_now held held
turned_unread program core after left left_now over over_now held at_end step same stays =
    let P : Option Bytes → Type 0 = λ l. Turned (Some ends.InputFault) program core after left l over over_now held held in
    let Q : Bool → Type 0 = λ o. Turned (Some ends.InputFault) program core after left left over o held held in
    subst P (sym same) (subst Q (sym stays) (turned_alone (Some ends.InputFault) program core after left over held held at_end
    (λ world input before going shows. record {
      asks = event_of events.WantByte program world core after shows.core_is step;
      core_is = sym (ap (λ c. (instruction_step program c).core) (sym shows.core_is) ∙ ap (λ o. o.core) step);
      input_is = shows.input_is;
      output_is = shows.output_is;
    })))

-- a step that led to an event, which is this one
pub step_as : (event other : Event) (program : Program) (core after : Core) → event ≡ other → instruction_step program core ≡ record { event = event; core = after } → instruction_step program core ≡ record { event = other; core = after }
step_as event other program core after same step = step ∙ ap (λ e. record { event = e; core = after }) same
