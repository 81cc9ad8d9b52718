-- How a run of a machine ends within a limit: each one ends in one way.
use Rattle.std.proofs.Common.{◌≡◌, ◌≢◌, ℕ, zero, suc, ◌+◌, ◌≤◌, sym, ap, ◌∙◌, refl, arith, subst, add-one, inl, inr}
use Rattle.std.proofs.lemmas.Bool.{cases_lt}
use Rattle.fy_build.specs.Shown as run_ends
use Rattle.fy_build.specs.Shown.{RunEnd}
use Rattle.rv_insn.specs.Program.{Program}
use Rattle.rv_insn.specs.Step.{instruction_step}
use Rattle.rv_insn.specs.Run.{settled}
use Rattle.rv_insn.proofs.Runs.{ticks_from}
use Rattle.rv_insn.specs.declared.events.Event.{Event}
use Rattle.rv_insn.specs.declared.events.Event.TheVariants as events
use Rattle.rv_machine.specs.Run.{World, tick, run}
use Rattle.rv_machine.specs.Ends.{IsGoingBelow, StandsAt}
use Rattle.rv_machine.proofs.Runs.{run_none, run_more, stands_stays}
use Rattle.fy_world.specs.Runs.{Running, IsRun}

-- how a run can stand
pub data IsStanding : Event → Type 0 where
  going : IsStanding events.Going
  over : {event : Event} → event ≢ events.Going → event ≢ events.WantByte → ((byte : ℕ) → event ≢ events.Put byte) → IsStanding event

settled_standing : (event : Event) (program : Program) (world : World) → world.ending ≡ events.Going → IsStanding (settled event (instruction_step program world.core).core world).ending
settled_standing events.Going program world is = rw is going
settled_standing (events.Put byte) program world is = rw is going
settled_standing events.WantByte program world is = rw is going
settled_standing events.Ended program world is = over (λ e. cc) (λ e. cc) (λ b e. cc)
settled_standing (events.Fault kind place) program world is = over (λ e. cc) (λ e. cc) (λ b e. cc)
settled_standing events.Exhausted program world is = over (λ e. cc) (λ e. cc) (λ b e. cc)
settled_standing (events.Trap kind) program world is = over (λ e. cc) (λ e. cc) (λ b e. cc)

tick_standing : (program : Program) (world : World) → world.ending ≡ events.Going → IsStanding (tick program world).ending
tick_standing program world is =
    subst IsStanding (sym (ap (λ (w : World). w.ending) (ticks_from program world is))) (settled_standing (instruction_step program world.core).event program world is)

-- a run goes on for all instructions, or is over after some
pub data Stops (program : Program) (world : World) (limit : ℕ) : Type 0 where
  goes : StandsAt program world limit events.Going → Stops program world limit
  stops : (n : ℕ) (event : Event) → n ≤ limit → event ≢ events.Going → event ≢ events.WantByte → ((byte : ℕ) → event ≢ events.Put byte) → StandsAt program world n event → Stops program world limit

below_one_more : (program : Program) (world : World) (n : ℕ) → StandsAt program world n events.Going → IsGoingBelow program world (n + 1)
below_one_more program world n s k lt = elim (cases_lt k n) [
  | inl less ↦ s.below k less
  | inr more ↦ let last : k ≡ n = omega arith in ap (λ j. (run program j world).ending) last ∙ s.here
]

stops_next : (program : Program) (world : World) (n : ℕ) (event : Event) → event ≡ (run program (n + 1) world).ending → StandsAt program world n events.Going → IsStanding event → Stops program world (n + 1)
stops_next program world n event is s going = goes (record { below = below_one_more program world n s; here = sym is })
stops_next program world n event is s (over a b c) = stops (n + 1) event (omega arith) a b c (record { below = below_one_more program world n s; here = sym is })

stops_more : (program : Program) (world : World) (n : ℕ) → Stops program world n → Stops program world (n + 1)
stops_more program world n (goes s) =
    stops_next program world n (tick program (run program n world)).ending (sym (ap (λ w. w.ending) (run_more program n world))) s (tick_standing program (run program n world) s.here)
stops_more program world n (stops k event le a b c s) = stops k event (omega arith) a b c s

pub stops_within : (program : Program) (world : World) (limit : ℕ) → world.ending ≡ events.Going → Stops program world limit
stops_within program world zero is = goes (record { below = λ k lt. absurd (omega arith); here = ap (λ w. w.ending) (run_none program world) ∙ is })
stops_within program world (suc n) is =
    let P : ℕ → Type 0 = λ k. Stops program world k in subst P (add-one n) (stops_more program world n (stops_within program world n is))

-- the end of a run
pub record Whole (running : Running) : Type 0 where
  pub n : ℕ
  pub end : RunEnd
  pub is_run : IsRun running n end

by_event : (running : Running) (n : ℕ) (event : Event) → event ≢ events.Going → event ≢ events.WantByte → ((byte : ℕ) → event ≢ events.Put byte) → n ≤ running.limit → StandsAt running.program running.first n event → Whole running
by_event running n events.Going a b c le s = absurd (a refl)
by_event running n events.WantByte a b c le s = absurd (b refl)
by_event running n (events.Put byte) a b c le s = absurd (c byte refl)
by_event running n events.Ended a b c le s = record { n = n; end = run_ends.ended; is_run = record { ends = s; within = le } }
by_event running n (events.Fault kind place) a b c le s = record { n = n; end = run_ends.faulted kind place; is_run = record { ends = s; within = le } }
by_event running n events.Exhausted a b c le s = record { n = n; end = run_ends.exhausted; is_run = record { ends = s; within = le } }
by_event running n (events.Trap kind) a b c le s = record { n = n; end = run_ends.trapped kind; is_run = record { ends = s; within = le } }

by_stops : (running : Running) → Stops running.program running.first running.limit → Whole running
by_stops running (goes s) = record { n = running.limit; end = run_ends.spent; is_run = record { ends = record { all = refl; going = s }; within = omega arith } }
by_stops running (stops n event le a b c s) = by_event running n event a b c le s

pub whole_run : (running : Running) → running.first.ending ≡ events.Going → Whole running
whole_run running is = by_stops running (stops_within running.program running.first running.limit is)

-- ---- what a run leaves after its end

stays_by : (program : Program) (first : World) (n limit : ℕ) (event : Event) → event ≢ events.Going → StandsAt program first n event → n ≤ limit → run program limit first ≡ run program n first
stays_by program first n limit event off s le = stands_stays program first n limit event off s le

-- where a run ends within the limit, it is where it would be after all the limit
pub whole_stays : (running : Running) (n : ℕ) (end : RunEnd) → IsRun running n end → n ≤ running.limit → run running.program running.limit running.first ≡ run running.program n running.first
whole_stays running n run_ends.ended r le = stays_by _ _ n _ events.Ended (λ e. cc) r.ends le
whole_stays running n (run_ends.faulted kind place) r le = stays_by _ _ n _ (events.Fault kind place) (λ e. cc) r.ends le
whole_stays running n run_ends.exhausted r le = stays_by _ _ n _ events.Exhausted (λ e. cc) r.ends le
whole_stays running n (run_ends.trapped kind) r le = stays_by _ _ n _ (events.Trap kind) (λ e. cc) r.ends le
whole_stays running n run_ends.spent r le = ap (λ k. run running.program k running.first) (sym r.ends.all)
