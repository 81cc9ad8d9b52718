-- The run of a machine over the objects of a call.
use Rattle.std.proofs.Common.{◌≡◌, ◌≢◌, ℕ, ◌-◌, ◌≤◌, List, [], ◌++◌, sym, ap, ◌∙◌, refl, subst, inl, inr, arith, Some, None}
use Rattle.std.specs.Prelude.{◌⊎◌}
use Rattle.std.specs.Option.{ForSome, option_map}
use Rattle.std.specs.declared.option.Option.{Option}
use Rattle.std.specs.declared.result.Result.{Result}
use Rattle.std.specs.declared.result.Result.TheVariants.{Ok, Err}
use Rattle.fy_base.specs.Outside.{Bytes, appended, Gained, GainedPart}
use Rattle.fy_base.specs.declared.data.Ending.{Ending}
use Rattle.fy_base.specs.declared.data.Ending.TheVariants as ends
use Rattle.fy_build.specs.Shown as run_ends
use Rattle.fy_build.specs.Shown.{RunEnd, ending_of_run}
use Rattle.rv_insn.specs.Program.{Program}
use Rattle.rv_insn.specs.Step.{Core}
use Rattle.fy_runs.proofs.Closes.{ask_puts_none}
use Rattle.rv_insn.specs.Run.{run_of, insn_machine}
use Rattle.rv_machine.specs.Run.{World, going_world, run}
use Rattle.rv_machine.specs.Ends.{RunsTo, EndsSo, AsksAt, HasPut, IsMachineEnd, taken_after}
use Rattle.rv_machine.specs.declared.run.MachineRun.{MachineRun}
use Rattle.rv_machine.proofs.Runs.{run_none}
use Rattle.fy_world.specs.World.{Contents}
use Rattle.fy_world.specs.Note.{texts, ended_lines}
use Rattle.fy_world.specs.Runs.{Running, of_machine, IsRun, run_status, run_note, end_notes, traced, ran}
use Rattle.fy_world.specs.Did.{IsLeftBy, StopsAtRead, StopsAtPut, WholeLines}
use Rattle.fy_world.specs.Working.{ToldPart, HasRun}
use Rattle.fy_world.specs.declared.note.Note.TheVariants as note
use Rattle.fy_world.specs.declared.world.Stop.{Stop}
use Rattle.fy_world.specs.declared.world.Stop.TheVariants.{Keep, Input, Output, Notes, Memory}
use Rattle.fy_world.proofs.Contents.{nothing, all_gained}
use Rattle.fy_world.proofs.Lines.{some_behind, some_counted}
use Rattle.fy_world.proofs.Parts.{but_notes, tell_all}
use Rattle.fy_world.proofs.Stopping.{StoppedBy, not_keep, not_memory, by_input, by_output, none_told}
use Rattle.fy_world.proofs.WholeRuns.{whole_run, whole_stays}

-- ---- what a run leaves of its input

-- the run of which the input was taken is within the limit, too
pub few_taken : (end : Ending) (n : ℕ) → taken_after end n ≤ n
few_taken ends.InputFault n = omega arith
few_taken _ n = omega arith

-- a run that didn't begin leaves all
pub all_left : (running : Running) (before now : Option Bytes) → ForSome before (λ left. running.first.input ≡ left) → now ≡ before → IsLeftBy (of_machine running) before now
all_left running before now told same = record { steps = 0; within = omega arith; rest = same ∙ none_taken before told }
  where
    none_taken : (left : Option Bytes) → ForSome left (λ bytes. running.first.input ≡ bytes) → left ≡ option_map (λ _. (run running.program 0 running.first).input) left
    none_taken None told = refl
    none_taken (Some bytes) told = ap (λ b. Some b) (sym (told bytes refl) ∙ sym (ap (λ w. w.input) (run_none running.program running.first)))

-- ---- a run over a source and a sink

abbrev pub running_by : Program → Core → ℕ → Bytes → Running
running_by program core limit input = record { program = program; first = going_world core input; limit = limit }

-- what the machine's run did between two contents
abbrev pub Ran : Program → Core → ℕ → MachineRun → Core → Contents → Contents → Type 0
Ran program core limit done after h c = RunsTo program core limit done after h.input c.input h.output c.output

-- an instruction that reads puts nothing
read_puts_none : (program : Program) (first : World) (n : ℕ) → AsksAt program first n → (run program n first).output ≡ (run program (n - 1) first).output
read_puts_none program first n at = ask_puts_none (insn_machine program) (run_of first) n at

-- a run that a failed read stopped
unread_by : (program : Program) (core : Core) (limit : ℕ) (done : MachineRun) (after : Core) (h c : Contents) → done.steps ≤ limit → (r : Ran program core limit done after h c) → c ≡ record h { input = c.input; output = c.output } → done.end ≡ ends.InputFault
    → StopsAtRead (of_machine (running_by program core limit r.fed)) None h c []
unread_by program core limit done after h c le r others is =
    let first = going_world core r.fed in
    let n = done.steps in
    let at = subst (λ e. EndsSo e program first n limit) is r.end in
    let gained = subst (λ e. HasPut e h.output c.output (run program n first).output) is r.output in
    record {
      steps = n;
      within = le;
      reads = at;
      files = ap (λ (x : Contents). x.files) others;
      rest = r.rest ∙ ap (λ e. option_map (λ _. (run program (taken_after e n) first).input) h.input) is;
      output = gained ∙ ap (λ bytes. appended h.output bytes) (read_puts_none program first n at);
      notes = none_told h.notes c.notes (ap (λ (x : Contents). x.notes) others);
    }

-- a run that a failed put stopped
unput_by : (program : Program) (core : Core) (limit : ℕ) (done : MachineRun) (after : Core) (h c : Contents) → done.steps ≤ limit → (r : Ran program core limit done after h c) → c ≡ record h { input = c.input; output = c.output } → done.end ≡ ends.OutputFault
    → StopsAtPut (of_machine (running_by program core limit r.fed)) None h c []
unput_by program core limit done after h c le r others is =
    let first = going_world core r.fed in
    let n = done.steps in
    let since = r.unput is in
    record {
      steps = n;
      within = le;
      puts = subst (λ e. EndsSo e program first n limit) is r.end;
      files = ap (λ (x : Contents). x.files) others;
      rest = r.rest ∙ ap (λ e. option_map (λ _. (run program (taken_after e n) first).input) h.input) is;
      output = record { part = since.part; gained = since.gained; begins = since.begins; reads = since.reads };
      notes = none_told h.notes c.notes (ap (λ (x : Contents). x.notes) others);
    }

-- what tells lines is stopped by nothing else
pub telling_only : (stop other : Stop) → (stop ≡ Notes) ⊎ (stop ≡ Memory) → Notes ≢ other → Memory ≢ other → stop ≢ other
telling_only stop other (inl notes) a b = λ is. a (sym notes ∙ is)
telling_only stop other (inr memory) a b = λ is. b (sym memory ∙ is)

-- what a run counted is due at notes
pub ran_tells : (running : Running) (trace : Option ℕ) (kept : Option (Bytes × Bytes)) (n : ℕ) (end : RunEnd) → (ran running trace kept n end).notes ≢ []
ran_tells running trace kept n end = some_behind (traced trace running n) (texts (end_notes end n)) (some_counted (run_note end) (note.Instructions n))

-- a run that a fault of the outside ended: a part of what is due was done
pub run_faulted : (program : Program) (core : Core) (limit : ℕ) (trace : Option ℕ) (h c : Contents) (stop : Stop) (done : MachineRun) (after : Core) → StoppedBy stop done.end
    → done.steps ≤ limit → Ran program core limit done after h c → c ≡ record h { input = c.input; output = c.output } → HasRun program core limit trace None h c (Err stop)
run_faulted program core limit trace h c stop done after by le r rest =
    let running = running_by program core limit r.fed in
    let whole = whole_run running refl in
    let stays = whole_stays running whole.n whole.end whole.is_run whole.is_run.within in
    let files = ap (λ x. x.files) rest in
    let notes = ap (λ x. x.notes) rest in
    record {
      input = r.fed;
      fed = r.told;
      bytes = r.bytes;
      n = whole.n;
      end = whole.end;
      is_run = whole.is_run;
      did = record {
        files = files;
        input = record { steps = taken_after done.end done.steps; within = let few = few_taken done.end done.steps in omega arith; rest = r.rest };
        output = subst (λ (w : World). GainedPart h.output c.output w.output) stays r.part;
        notes = subst (λ n. GainedPart h.notes n (ended_lines (ran running trace None whole.n whole.end).notes)) (sym notes) (nothing h.notes _);
        unchanged = λ _. files;
        whole = λ memory. absurd (not_memory stop done.end by memory);
        unkept = λ keep. absurd (not_keep stop done.end by keep);
        unread = λ input. unread_by program core limit done after h c le r rest (by_input stop done.end by input);
        unput = λ output. inl (unput_by program core limit done after h c le r rest (by_output stop done.end by output));
        untold = λ _. ran_tells running trace None whole.n whole.end;
        due_kept = λ keep. absurd (not_keep stop done.end by keep);
      };
    }

-- how a run ended that no fault of the outside ended
pub record OwnEnd (end : Ending) : Type 0 where
  pub by : RunEnd
  pub is : end ≡ ending_of_run by

own_end : (end : Ending) → IsMachineEnd end → end ≢ ends.InputFault → end ≢ ends.OutputFault → OwnEnd end
own_end ends.Ended machine a b = record { by = run_ends.ended; is = refl }
own_end (ends.Fault kind place) machine a b = record { by = run_ends.faulted kind place; is = refl }
own_end ends.Exhausted machine a b = record { by = run_ends.exhausted; is = refl }
own_end (ends.Trap kind) machine a b = record { by = run_ends.trapped kind; is = refl }
own_end ends.Spent machine a b = record { by = run_ends.spent; is = refl }
own_end ends.InputFault machine a b = absurd (a refl)
own_end ends.OutputFault machine a b = absurd (b refl)
own_end ends.TooBig machine a b = absurd machine
own_end ends.Stuck machine a b = absurd machine
own_end ends.Gone machine a b = absurd machine

own_taken : (end : RunEnd) (n : ℕ) → taken_after (ending_of_run end) n ≡ n
own_taken run_ends.ended n = refl
own_taken (run_ends.faulted kind at) n = refl
own_taken run_ends.exhausted n = refl
own_taken run_ends.spent n = refl
own_taken (run_ends.trapped kind) n = refl

own_put : (end : RunEnd) (before now : Option Bytes) (output : Bytes) → HasPut (ending_of_run end) before now output → Gained before now output
own_put run_ends.ended before now output put = put
own_put (run_ends.faulted kind at) before now output put = put
own_put run_ends.exhausted before now output put = put
own_put run_ends.spent before now output put = put
own_put (run_ends.trapped kind) before now output put = put

-- a run that no fault of the outside ended: all but the notes was done
pub record DoneBut (program : Program) (core : Core) (limit : ℕ) (trace : Option ℕ) (h c : Contents) (done : MachineRun) (input : Bytes) : Type 0 where
  pub own : OwnEnd done.end
  pub is_run : IsRun (running_by program core limit input) done.steps own.by
  pub all : c ≡ but_notes (ran (running_by program core limit input) trace None done.steps own.by) h

pub done_but : (program : Program) (core : Core) (limit : ℕ) (trace : Option ℕ) (h c : Contents) (done : MachineRun) (after : Core) → IsMachineEnd done.end → done.end ≢ ends.InputFault → done.end ≢ ends.OutputFault → done.steps ≤ limit
    → (r : Ran program core limit done after h c) → c ≡ record h { input = c.input; output = c.output } → DoneBut program core limit trace h c done r.fed
done_but program core limit trace h c done after machine no_input no_output le r rest =
    let own = own_end done.end machine no_input no_output in
    let first = going_world core r.fed in
    let taken : taken_after done.end done.steps ≡ done.steps = ap (λ e. taken_after e done.steps) own.is ∙ own_taken own.by done.steps in
    let input : c.input ≡ option_map (λ _. (run program done.steps first).input) h.input = r.rest ∙ ap (λ k. option_map (λ _. (run program k first).input) h.input) taken in
    let put = subst (λ e. HasPut e h.output c.output (run program done.steps first).output) own.is r.output in
    let output = own_put own.by h.output c.output (run program done.steps first).output put in
    record {
      own = own;
      is_run = record { ends = subst (λ e. EndsSo e program first done.steps limit) own.is r.end; within = le };
      all = rest ∙ (λ i. record { files = h.files; input = input i; output = output i; notes = h.notes });
    }

-- the lines of a run were told after it
pub run_told : (program : Program) (core : Core) (limit : ℕ) (trace : Option ℕ) (h c d : Contents) (done : MachineRun) (after : Core) (lines : RunEnd → List Bytes) (status : ℕ) → IsMachineEnd done.end → done.end ≢ ends.InputFault → done.end ≢ ends.OutputFault → done.steps ≤ limit
    → (r : Ran program core limit done after h c) → c ≡ record h { input = c.input; output = c.output } → ((end : RunEnd) → lines end ≡ traced trace (running_by program core limit r.fed) done.steps ++ texts (end_notes end done.steps))
    → ((end : RunEnd) → done.end ≡ ending_of_run end → d ≡ record c { notes = appended c.notes (ended_lines (lines end)) }) → ((end : RunEnd) → done.end ≡ ending_of_run end → status ≡ run_status end) → HasRun program core limit trace None h d (Ok status)
run_told program core limit trace h c d done after lines status machine no_input no_output le r rest lines_are told status_is =
    let e = done_but program core limit trace h c done after machine no_input no_output le r rest in
    let running = running_by program core limit r.fed in
    record {
      input = r.fed;
      fed = r.told;
      bytes = r.bytes;
      n = done.steps;
      end = e.own.by;
      is_run = e.is_run;
      did = (status_is e.own.by e.own.is, tell_all (ran running trace None done.steps e.own.by) h c d e.all (told e.own.by e.own.is ∙ ap (λ ls. record c { notes = appended c.notes (ended_lines ls) }) (lines_are e.own.by)));
    }

-- a part of the lines was told
pub run_told_part : (program : Program) (core : Core) (limit : ℕ) (trace : Option ℕ) (h c d : Contents) (done : MachineRun) (after : Core) (lines : RunEnd → List Bytes) (stop : Stop) → IsMachineEnd done.end → done.end ≢ ends.InputFault → done.end ≢ ends.OutputFault → done.steps ≤ limit
    → (r : Ran program core limit done after h c) → c ≡ record h { input = c.input; output = c.output } → ((end : RunEnd) → lines end ≡ traced trace (running_by program core limit r.fed) done.steps ++ texts (end_notes end done.steps))
    → d ≡ record c { notes = d.notes } → ((end : RunEnd) → done.end ≡ ending_of_run end → ToldPart (lines end) c.notes d.notes stop) → (stop ≡ Notes) ⊎ (stop ≡ Memory) → HasRun program core limit trace None h d (Err stop)
run_told_part program core limit trace h c d done after lines stop machine no_input no_output le r rest lines_are others told telling =
    let e = done_but program core limit trace h c done after machine no_input no_output le r rest in
    let running = running_by program core limit r.fed in
    let due = ran running trace None done.steps e.own.by in
    let part : ToldPart due.notes c.notes d.notes stop = subst (λ ls. ToldPart ls c.notes d.notes stop) (lines_are e.own.by) (told e.own.by e.own.is) in
    let files : d.files ≡ h.files = ap (λ (x : Contents). x.files) others ∙ ap (λ (x : Contents). x.files) rest in
    let input : d.input ≡ option_map (λ _. (run program done.steps running.first).input) h.input = ap (λ (x : Contents). x.input) others ∙ ap (λ (x : Contents). x.input) e.all in
    let output : d.output ≡ appended h.output due.output = ap (λ (x : Contents). x.output) others ∙ ap (λ (x : Contents). x.output) e.all in
    let notes : c.notes ≡ h.notes = ap (λ (x : Contents). x.notes) rest in
    record {
      input = r.fed;
      fed = r.told;
      bytes = r.bytes;
      n = done.steps;
      end = e.own.by;
      is_run = e.is_run;
      did = record {
        files = files;
        input = record { steps = done.steps; within = le; rest = input };
        output = subst (λ o. GainedPart h.output o due.output) (sym output) (all_gained h.output due.output);
        notes = subst (λ n. GainedPart n d.notes (ended_lines due.notes)) notes part.part;
        unchanged = λ _. files;
        whole = λ memory. subst (λ n. WholeLines due.notes n d.notes) notes (part.whole memory);
        unkept = λ keep. absurd (telling_only stop Keep telling (λ clash. cc) (λ clash. cc) keep);
        unread = λ input. absurd (telling_only stop Input telling (λ clash. cc) (λ clash. cc) input);
        unput = λ output. absurd (telling_only stop Output telling (λ clash. cc) (λ clash. cc) output);
        untold = λ _. ran_tells running trace None done.steps e.own.by;
        due_kept = λ keep. absurd (telling_only stop Keep telling (λ clash. cc) (λ clash. cc) keep);
      };
    }

-- ---- stops

pub notes_only : (stop other : Stop) → stop ≡ Notes → Notes ≢ other → (result : Result ℕ Stop) → result ≡ Err stop → result ≢ Err other
notes_only stop other is apart result fails e = apart (sym is ∙ same)
  where
    same : stop ≡ other
    same = let both : Err stop ≡ Err other = sym fails ∙ e in cc

-- a run was told without a trace, or a part of it
pub run_untold : (program : Program) (core : Core) (limit : ℕ) (h c d : Contents) (done : MachineRun) (after : Core) (stop : Stop) → IsMachineEnd done.end → done.end ≢ ends.InputFault → done.end ≢ ends.OutputFault → done.steps ≤ limit
    → Ran program core limit done after h c → c ≡ record h { input = c.input; output = c.output } → d ≡ record c { notes = d.notes } → ((end : RunEnd) → done.end ≡ ending_of_run end → GainedPart c.notes d.notes (ended_lines (texts (end_notes end done.steps)))) → stop ≡ Notes
    → HasRun program core limit None None h d (Err stop)
run_untold program core limit h c d done after stop machine no_input no_output le r rest others part is =
    run_told_part program core limit None h c d done after (λ end. texts (end_notes end done.steps)) stop machine no_input no_output le r rest (λ end. refl) others
    (λ end so. record { part = part end so; whole = λ memory. absurd (let clash : Notes ≡ Memory = sym is ∙ memory in cc) }) (inl is)
