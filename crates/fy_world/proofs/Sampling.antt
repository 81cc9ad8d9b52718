-- Runs whose output is followed by a summary.
use Rattle.std.specs.Prelude.{◌⊎◌}
use Rattle.std.proofs.Common.{◌≡◌, ◌≢◌, ℕ, ◌≤◌, [], ◌∷◌, ◌++◌, length, sym, ap, ◌∙◌, refl, subst, append_assoc, Some, None, inl, inr}
use Rattle.std.specs.Option.{ForSome}
use Rattle.std.specs.declared.option.Option.{Option}
use Rattle.std.specs.declared.result.Result.{Result}
use Rattle.std.specs.declared.result.Result.TheVariants.{Ok, Err}
use Rattle.fy_base.specs.Outside.{Bytes, appended, Gained, GainedPart, IsPrefix}
use Rattle.fy_base.specs.declared.data.Ending.TheVariants as ends
use Rattle.fy_build.specs.Shown.{RunEnd, ending_of_run}
use Rattle.fy_image.specs.Form.{IsSpelled}
use Rattle.fy_image.specs.declared.image.Image.{Image}
use Rattle.fy_image.specs.declared.version.Version.TheVariants.{Two}
use Rattle.fy_sample.specs.Sample.{summary}
use Rattle.rv_insn.specs.Program.{Program}
use Rattle.rv_insn.specs.Step.{Core}
use Rattle.rv_machine.specs.Start.{IsProgramOf, start_of}
use Rattle.rv_machine.specs.Ends.{IsMachineEnd}
use Rattle.rv_machine.specs.Run.{World, run}
use Rattle.rv_machine.specs.declared.run.MachineRun.{MachineRun}
use Rattle.fy_world.specs.World.{Contents}
use Rattle.fy_world.specs.Note.{texts, ended_lines}
use Rattle.fy_build.specs.Headline.{AreBytes}
use Rattle.fy_world.specs.Runs.{Running, of_machine, run_status, end_notes, ran, sampled}
use Rattle.fy_world.specs.Did.{files_after, after_all, InputPart, Did}
use Rattle.fy_world.specs.Working.{WasKept, Keeps, HasRun, HasSampled, HasKeptAndSampled, KeepsAndSamples, SumsUp}
use Rattle.fy_world.specs.declared.world.Stop.{Stop}
use Rattle.fy_world.specs.declared.world.Stop.TheVariants.{Keep, Input, Output, Notes, Memory}
use Rattle.fy_world.proofs.Contents.{appended-appended, appended-nil, nothing, all_gained, gained_both}
use Rattle.fy_world.proofs.Executing.{Ran, done_but, ran_tells, running_by}
use Rattle.fy_world.proofs.Keeping.{kept_none}
use Rattle.fy_world.proofs.WholeRuns.{whole_stays}
use Rattle.fy_world.proofs.Stopping.{KeptBefore, unread_behind, unput_behind, unput_more, none_told}

-- ---- a run

part_before : (before now : Option Bytes) (short more : Bytes) → GainedPart before now short → GainedPart before now (short ++ more)
part_before before now short more g = record {
  part = g.part;
  gained = g.gained;
  begins = record {
    rest = g.begins.rest ++ more;
    is = ap (λ x. x ++ more) g.begins.is ∙ append_assoc g.part g.begins.rest more;
  };
}

part_behind : (before held now : Option Bytes) (output bytes : Bytes) → Gained before held output → GainedPart held now bytes → GainedPart before now (output ++ bytes)
part_behind before held now output bytes first next = record {
  part = output ++ next.part;
  gained = gained_both before held now output next.part first next.gained;
  begins = record {
    rest = next.begins.rest;
    is = ap (λ b. output ++ b) next.begins.is ∙ sym (append_assoc output next.part next.begins.rest);
  };
}

-- a run that was stopped, so that no summary was due yet
pub sampled_stopped : (program : Program) (core : Core) (limit : ℕ) (kept : Option (Bytes × Bytes)) (h c : Contents) (stop : Stop) → HasRun program core limit None kept h c (Err stop) → HasSampled program core limit kept h c (Err stop)
sampled_stopped program core limit kept h c stop r =
    let p = r.did in
    let due = ran (running_by program core limit r.input) None kept r.n r.end in
    record {
      input = r.input;
      fed = r.fed;
      bytes = r.bytes;
      n = r.n;
      end = r.end;
      is_run = r.is_run;
      did = record {
        files = p.files;
        input = p.input;
        output = part_before h.output c.output due.output (summary due.status (length due.output)) p.output;
        notes = p.notes;
        unchanged = p.unchanged;
        whole = p.whole;
        unkept = p.unkept;
        unread = p.unread;
        unput = λ output.
            unput_more (of_machine (running_by program core limit r.input)) due (sampled due) h c (record { more = summary due.status (length due.output); output = refl; kept = refl; rest = refl }) (p.unput output);
        untold = p.untold;
        due_kept = p.due_kept;
      };
    }

-- there are some bytes
abbrev AreSome : Bytes → Type 0
AreSome [] = ⊥
AreSome (byte ∷ bytes) = Unit {0}

-- what sums up is stopped by nothing else
abbrev InOrder : Stop → Option Bytes → Option Bytes → Type 0
InOrder stop before now = ((stop ≡ Output) × (now ≡ before)) ⊎ (stop ≡ Notes)

summing_only : (before now : Option Bytes) (stop other : Stop) → InOrder stop before now → Output ≢ other → Notes ≢ other → stop ≢ other
summing_only before now stop other (inl output) a b = λ is. a (sym output.0 ∙ is)
summing_only before now stop other (inr notes) a b = λ is. b (sym notes ∙ is)

-- and where that was the output, no line was told
quiet_on_output : (before now : Option Bytes) (stop : Stop) → InOrder stop before now → stop ≡ Output → now ≡ before
quiet_on_output before now stop (inl output) is = output.1
quiet_on_output before now stop (inr notes) is = absurd (let clash : Notes ≡ Output = sym notes ∙ is in cc)

-- a run that no fault of the outside ended, with its summary
pub sampled_done : (program : Program) (core : Core) (limit : ℕ) (h c d : Contents) (done : MachineRun) (after : Core) (result : Result ℕ Stop) → IsMachineEnd done.end → done.end ≢ ends.InputFault → done.end ≢ ends.OutputFault → done.steps ≤ limit
    → Ran program core limit done after h c → c ≡ record h { input = c.input; output = c.output } → ((end : RunEnd) → done.end ≡ ending_of_run end → SumsUp done end c d result) → HasSampled program core limit None h d result
sampled_done program core limit h c d done after (Ok status) machine no_input no_output le r rest sums =
    let e = done_but program core limit None h c done after machine no_input no_output le r rest in
    let due = ran (running_by program core limit r.fed) None None done.steps e.own.by in
    let told = sums e.own.by e.own.is in
    let sum = summary (run_status e.own.by) done.bytes in
    let lines = ended_lines (texts (end_notes e.own.by done.steps)) in
    let same : sum ≡ summary (run_status e.own.by) (length due.output) = ap (λ k. summary (run_status e.own.by) k) (r.counted no_output) in
    let output : appended (appended h.output due.output) sum ≡ appended h.output (sampled due).output =
    appended-appended h.output due.output sum ∙ ap (λ s. appended h.output (due.output ++ s)) same in
    record {
      input = r.fed;
      fed = r.told;
      bytes = r.bytes;
      n = done.steps;
      end = e.own.by;
      is_run = e.is_run;
      did = (
        told.0,
        told.1 ∙ ap (λ (x : Contents). record x { output = appended x.output sum; notes = appended x.notes lines }) e.all
            ∙ ap (λ o. record (after_all due h) { output = o }) output,
      );
    }
sampled_done program core limit h c d done after (Err stop) machine no_input no_output le r rest sums =
    let e = done_but program core limit None h c done after machine no_input no_output le r rest in
    let s = sums e.own.by e.own.is in
    let due = ran (running_by program core limit r.fed) None None done.steps e.own.by in
    let lines = ended_lines (texts (end_notes e.own.by done.steps)) in
    let same : summary (run_status e.own.by) done.bytes ≡ summary (run_status e.own.by) (length due.output) = ap (λ k. summary (run_status e.own.by) k) (r.counted no_output) in
    let files : d.files ≡ h.files = s.files ∙ ap (λ (x : Contents). x.files) rest in
    let running = running_by program core limit r.fed in
    let puts : (run program limit running.first).output ≡ due.output = ap (λ (w : World). w.output) (whole_stays running done.steps e.own.by e.is_run le) in
    record {
      input = r.fed;
      fed = r.told;
      bytes = r.bytes;
      n = done.steps;
      end = e.own.by;
      is_run = e.is_run;
      did = record {
        files = files;
        input = record { steps = done.steps; within = le; rest = s.input ∙ ap (λ (x : Contents). x.input) e.all };
        output = subst (λ t. GainedPart h.output d.output (due.output ++ t)) same (part_behind h.output c.output d.output due.output _ (ap (λ (x : Contents). x.output) e.all) s.output);
        notes = subst (λ n. GainedPart n d.notes lines) (ap (λ (x : Contents). x.notes) rest) s.notes;
        unchanged = λ _. files;
        whole = λ memory. absurd (summing_only c.notes d.notes stop Memory s.in_order (λ clash. cc) (λ clash. cc) memory);
        unkept = λ keep. absurd (summing_only c.notes d.notes stop Keep s.in_order (λ clash. cc) (λ clash. cc) keep);
        unread = λ input. absurd (summing_only c.notes d.notes stop Input s.in_order (λ clash. cc) (λ clash. cc) input);
        unput = λ output. inr (record {
          more = summary (run_status e.own.by) (length due.output);
          some = λ none. subst AreSome none tt;
          due_is = ap (λ b. b ++ summary (run_status e.own.by) (length due.output)) (sym puts);
          files = files;
          rest = s.input ∙ ap (λ (x : Contents). x.input) e.all;
          part = s.output.part;
          begins = subst (λ t. IsPrefix s.output.part t) same s.output.begins;
          output = gained_both h.output c.output d.output due.output s.output.part (ap (λ (x : Contents). x.output) e.all) s.output.gained ∙ ap (λ b. appended h.output (b ++ s.output.part)) (sym puts);
          notes = none_told h.notes d.notes (quiet_on_output c.notes d.notes stop s.in_order output ∙ ap (λ (x : Contents). x.notes) rest);
        });
        untold = λ _. ran_tells running None None done.steps e.own.by;
        due_kept = λ keep. absurd (summing_only c.notes d.notes stop Keep s.in_order (λ clash. cc) (λ clash. cc) keep);
      };
    }

-- the summary was put, and how the run ended was told
pub summed_told : (h c d : Contents) (done : MachineRun) (given : ℕ) (own : RunEnd) → given ≡ run_status own → c ≡ record h { output = appended h.output (summary given done.bytes) }
    → d ≡ record c { notes = appended c.notes (ended_lines (texts (end_notes own done.steps))) } → SumsUp done own h d (Ok given)
summed_told h c d done given own is put told =
    let lines = ended_lines (texts (end_notes own done.steps)) in
    (is, told ∙ ap (λ (x : Contents). record x { notes = appended x.notes lines }) put ∙ ap (λ s. record h { output = appended h.output (summary s done.bytes); notes = appended h.notes lines }) is)

-- or a part of that was told
pub summed_untold : (h c d : Contents) (done : MachineRun) (given : ℕ) (stop : Stop) (own : RunEnd) → given ≡ run_status own → c ≡ record h { output = appended h.output (summary given done.bytes) } → d ≡ record c { notes = d.notes }
    → GainedPart c.notes d.notes (ended_lines (texts (end_notes own done.steps))) → stop ≡ Notes → SumsUp done own h d (Err stop)
summed_untold h c d done given stop own is put others part stop_is =
    let sum = summary given done.bytes in
    let lines = ended_lines (texts (end_notes own done.steps)) in
    let output : d.output ≡ appended h.output sum = ap (λ (x : Contents). x.output) others ∙ ap (λ (x : Contents). x.output) put in
    record {
      files = ap (λ (x : Contents). x.files) others ∙ ap (λ (x : Contents). x.files) put;
      input = ap (λ (x : Contents). x.input) others ∙ ap (λ (x : Contents). x.input) put;
      output = subst (λ s. GainedPart h.output d.output (summary s done.bytes)) is (subst (λ o. GainedPart h.output o sum) (sym output) (all_gained h.output sum));
      notes = subst (λ n. GainedPart n d.notes lines) (ap (λ (x : Contents). x.notes) put) part;
      in_order = inr stop_is;
    }

-- or a part of the summary was put
pub summed_unput : (h c : Contents) (done : MachineRun) (given : ℕ) (stop : Stop) (own : RunEnd) → given ≡ run_status own → c ≡ record h { output = c.output } → GainedPart h.output c.output (summary given done.bytes) → stop ≡ Output
    → SumsUp done own h c (Err stop)
summed_unput h c done given stop own is rest part stop_is =
    let lines = ended_lines (texts (end_notes own done.steps)) in
    record {
      files = ap (λ (x : Contents). x.files) rest;
      input = ap (λ (x : Contents). x.input) rest;
      output = subst (λ s. GainedPart h.output c.output (summary s done.bytes)) is part;
      notes = subst (λ n. GainedPart h.notes n lines) (sym (ap (λ (x : Contents). x.notes) rest)) (nothing h.notes lines);
      in_order = inl (stop_is, ap (λ (x : Contents). x.notes) rest);
    }

-- ---- an image that is kept and sampled

kept_before : (running : Running) (name bytes : Bytes) (n : ℕ) (end : RunEnd) (h c : Contents) → c ≡ record h { files = files_after h.files (Some (name, bytes)) }
    → KeptBefore (sampled (ran running None None n end)) (sampled (ran running None (Some (name, bytes)) n end)) h c
kept_before running name bytes n end h c kept = record { none = refl; output = refl; rest = refl; kept = kept }

did_kept : (running : Running) (name bytes : Bytes) (n : ℕ) (end : RunEnd) (h c d : Contents) (result : Result ℕ Stop) → result ≢ Err Memory → c ≡ record h { files = files_after h.files (Some (name, bytes)) }
    → Did (sampled (ran running None None n end)) c d result → Did (sampled (ran running None (Some (name, bytes)) n end)) h d result
did_kept running name bytes n end h c d (Ok status) ready kept did = (did.0, did.1 ∙ ap (λ (x : Contents). after_all (sampled (ran running None None n end)) x) kept)
did_kept running name bytes n end h c d (Err stop) ready kept p =
    let due = sampled (ran running None (Some (name, bytes)) n end) in
    let not_memory : stop ≢ Memory = λ memory. ready (ap (λ s. Err s) memory) in
    record {
      files = inr (inl (p.files ∙ ap (λ (x : Contents). x.files) kept));
      input = subst (λ i. InputPart (Some (of_machine running)) i d.input) (ap (λ (x : Contents). x.input) kept) p.input;
      output = subst (λ o. GainedPart o d.output due.output) (ap (λ (x : Contents). x.output) kept) p.output;
      notes = subst (λ n. GainedPart n d.notes (ended_lines due.notes)) (ap (λ (x : Contents). x.notes) kept) p.notes;
      unchanged = λ memory. absurd (not_memory memory);
      whole = λ memory. absurd (not_memory memory);
      unkept = λ keep. p.unkept keep ∙ ap (λ (x : Contents). record x { files = d.files }) kept;
      unread = λ input. unread_behind (of_machine running) (sampled (ran running None None n end)) due h c d (kept_before running name bytes n end h c kept) (p.unread input);
      unput = λ output. unput_behind (of_machine running) (sampled (ran running None None n end)) due h c d (kept_before running name bytes n end h c kept) (p.unput output);
      untold = p.untold;
      due_kept = λ _ none. cc;
    }

kept_and_sampled : (image : Image) (program : Program) (core : Core) (limit : ℕ) (name : Bytes) (h c d : Contents) (status : ℕ) (result : Result ℕ Stop) → IsProgramOf image program → core ≡ start_of image → WasKept (IsSpelled Two image) name h c (Ok status)
    → HasSampled program core limit None c d result → result ≢ Err Memory → HasKeptAndSampled image limit name h d result
kept_and_sampled image program core limit name h c d status result of start was run ready =
    let kept : c ≡ record h { files = files_after h.files (Some (name, was.bytes)) } =
    was.did.1 ∙ (λ i. record { files = files_after h.files (Some (name, was.bytes)); input = h.input; output = appended-nil h.output i; notes = appended-nil h.notes i }) in
    let r : HasSampled program (start_of image) limit None c d result = subst (λ k. HasSampled program k limit None c d result) start run in
    record {
      bytes = was.bytes;
      spelled = was.spelled;
      program = program;
      is_the_images = of;
      has_sampled = record {
        input = r.input;
        fed = subst (λ i. ForSome i (λ left. r.input ≡ left)) (ap (λ (x : Contents). x.input) kept) r.fed;
        bytes = λ all. r.bytes (subst (λ i. ForSome i AreBytes) (sym (ap (λ (x : Contents). x.input) kept)) all);
        n = r.n;
        end = r.end;
        is_run = r.is_run;
        did = did_kept (running_by program (start_of image) limit r.input) name was.bytes r.n r.end h c d result ready kept r.did;
      };
      ready = ready;
    }

pub sampled_kept : (image : Image) (program : Program) (core : Core) (limit : ℕ) (name : Bytes) (h c d : Contents) (status : ℕ) (result : Result ℕ Stop) → IsProgramOf image program → core ≡ start_of image → Keeps image name h c (Ok status)
    → HasSampled program core limit None c d result → result ≢ Err Memory → KeepsAndSamples image limit name h d result
sampled_kept image program core limit name h c d status result of start (inl unbegun) run ready = absurd (let clash = unbegun.memory in cc)
sampled_kept image program core limit name h c d status result of start (inr was) run ready = inr (kept_and_sampled image program core limit name h c d status result of start was run ready)

pub sampled_unkept : (image : Image) (program : Program) (limit : ℕ) (name : Bytes) (h c : Contents) (stop : Stop) → IsProgramOf image program → Keeps image name h c (Err stop) → KeepsAndSamples image limit name h c (Err stop)
sampled_unkept image program limit name h c stop of (inl unbegun) = inl unbegun
sampled_unkept image program limit name h c stop of (inr was) =
    let none = kept_none image program limit name h c stop of was was.only in
    inr (record {
      bytes = none.bytes;
      spelled = none.spelled;
      program = none.executed.program;
      is_the_images = none.executed.is_the_images;
      has_sampled = sampled_stopped none.executed.program (start_of image) limit (Some (name, none.bytes)) h c stop none.executed.has_run;
      ready = none.ready;
    })
