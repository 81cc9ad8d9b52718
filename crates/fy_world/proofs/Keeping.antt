-- Images that are kept, and runs after that.
use Rattle.std.proofs.Common.{◌≡◌, ◌≢◌, ℕ, [], ◌∷◌, ◌++◌, sym, ap, ◌∙◌, refl, subst, Some, None, inl, inr}
use Rattle.std.proofs.lemmas.List.Elements.{All-nil}
use Rattle.std.specs.Prelude.{◌<◌, ◌⊎◌}
use Rattle.std.specs.Option.{ForSome}
use Rattle.std.specs.declared.option.Option.{Option}
use Rattle.std.specs.declared.result.Result.{Result}
use Rattle.std.specs.declared.result.Result.TheVariants.{Ok, Err}
use Rattle.fy_base.specs.Outside.{Bytes, OthersStay, GainedPart, appended}
use Rattle.fy_build.specs.Shown.{RunEnd}
use Rattle.fy_image.specs.Form.{IsSpelled}
use Rattle.fy_image.specs.declared.version.Version.TheVariants.{Two}
use Rattle.fy_image.specs.declared.image.Image.{Image}
use Rattle.rv_insn.specs.Program.{Program}
use Rattle.rv_insn.specs.Step.{Core}
use Rattle.rv_machine.specs.Start.{IsProgramOf, start_of}
use Rattle.fy_world.specs.World.{Contents}
use Rattle.fy_world.specs.Note.{ended_lines}
use Rattle.fy_build.specs.Headline.{AreBytes}
use Rattle.fy_world.specs.Runs.{of_machine, Due, Running, ran}
use Rattle.fy_world.specs.Did.{files_after, after_all, InputPart, Did}
use Rattle.fy_world.specs.Working.{IsUnbegun, WasKept, KeepsSuch, Keeps, HasRun, HasKeptAndRun, KeepsAndRuns}
use Rattle.fy_world.specs.declared.world.Stop.{Stop}
use Rattle.fy_world.specs.declared.world.Stop.TheVariants.{Keep, Input, Output, Notes, Memory}
use Rattle.fy_world.proofs.Contents.{appended-nil, nothing}
use Rattle.fy_world.proofs.WholeRuns.{whole_run}
use Rattle.fy_world.proofs.Executing.{running_by, all_left}
use Rattle.fy_world.proofs.Stopping.{KeptBefore, unread_behind, unput_behind}

-- what is due where an image is kept and nothing else
abbrev kept_due : Bytes → Bytes → Due
kept_due name bytes = record { status = 0; output = []; notes = []; kept = Some (name, bytes); rest = None; running = None }

pub unbegun : (h c : Contents) (stop : Stop) → stop ≡ Memory → c ≡ h → IsUnbegun h c (Err stop)
unbegun h c stop memory same = record { memory = ap (λ s. Err s) memory; same = same }

abbrev failed : Stop → Result ℕ Stop
failed stop = Err stop

abbrev stop_of : Result ℕ Stop → Stop
stop_of (Ok status) = Notes
stop_of (Err stop) = stop

err_is : (a b : Stop) → failed a ≡ failed b → a ≡ b
err_is a b e = ap stop_of e

-- all was kept
pub was_kept : (IsSuch : Bytes → Type 0) (name bytes : Bytes) (h c : Contents) (status : ℕ) → IsSuch bytes → c ≡ record h { files = files_after h.files (Some (name, bytes)) } → status ≡ 0 → WasKept IsSuch name h c (Ok status)
was_kept IsSuch name bytes h c status spelled kept none_is = record {
  bytes = bytes;
  spelled = spelled;
  ready = λ e. cc;
  only = tt;
  did = (
    none_is,
    kept ∙ (λ i. record { files = files_after h.files (Some (name, bytes)); input = h.input; output = sym (appended-nil h.output) i; notes = sym (appended-nil h.notes) i }),
  );
}

-- the named file is unknown
pub not_kept : (IsSuch : Bytes → Type 0) (name bytes : Bytes) (h c : Contents) (stop : Stop) → IsSuch bytes → c ≡ record h { files = c.files } → stop ≡ Keep → OthersStay h.files c.files name → WasKept IsSuch name h c (Err stop)
not_kept IsSuch name bytes h c stop spelled rest keep unknown =
    let other : stop ≢ Memory = λ memory. let clash : Keep ≡ Memory = sym keep ∙ memory in cc in
    let no_input : stop ≢ Input = λ input. let clash : Keep ≡ Input = sym keep ∙ input in cc in
    record {
      bytes = bytes;
      spelled = spelled;
      ready = λ e. other (err_is stop Memory e);
      only = keep;
      did = record {
        files = inr (inr (keep, unknown));
        input = ap (λ (x : Contents). x.input) rest;
        output = subst (λ o. GainedPart h.output o []) (sym (ap (λ (x : Contents). x.output) rest)) (nothing h.output []);
        notes = subst (λ n. GainedPart h.notes n []) (sym (ap (λ (x : Contents). x.notes) rest)) (nothing h.notes []);
        unchanged = λ memory. absurd (other memory);
        whole = λ memory. absurd (other memory);
        unkept = λ _. rest;
        unread = λ input. absurd (no_input input);
        unput = λ output. absurd (let clash : Keep ≡ Output = sym keep ∙ output in cc);
        untold = λ notes. absurd (let clash : Keep ≡ Notes = sym keep ∙ notes in cc);
        due_kept = λ _ none. cc;
      };
    }

-- ---- a run after that

-- the input of a run that didn't begin
pub some_input : (left : Option Bytes) → (input : Bytes) × ForSome left (λ bytes. input ≡ bytes) × (ForSome left AreBytes → AreBytes input)
some_input None = ([], λ bytes e. absurd (cc), λ _. All-nil (λ byte. byte < 256))
some_input (Some bytes) = (bytes, λ left e. let same : bytes ≡ left = cc in same, λ all. all bytes refl)

empty_part : (part rest : Bytes) → [] ≡ part ++ rest → part ≡ []
empty_part [] rest is = refl
empty_part (b ∷ bs) rest is = absurd (cc)

pub none_gained : (before now : Option Bytes) → GainedPart before now [] → now ≡ before
none_gained before now g = g.gained ∙ ap (λ part. appended before part) (empty_part g.part g.begins.rest g.begins.is) ∙ appended-nil before

-- the image wasn't kept, so that nothing ran
pub kept_none : (image : Image) (program : Program) (limit : ℕ) (name : Bytes) (h c : Contents) (stop : Stop) → IsProgramOf image program → WasKept (IsSpelled Two image) name h c (Err stop) → stop ≡ Keep
    → HasKeptAndRun image limit name h c (Err stop)
kept_none image program limit name h c stop of was keep =
    let input = some_input h.input in
    let running = running_by program (start_of image) limit input.0 in
    let whole = whole_run running refl in
    let due = ran running None (Some (name, was.bytes)) whole.n whole.end in
    let p = was.did in
    let other : stop ≢ Memory = λ memory. let clash : Keep ≡ Memory = sym keep ∙ memory in cc in
    let same_output : c.output ≡ h.output = none_gained h.output c.output p.output in
    let same_notes : c.notes ≡ h.notes = none_gained h.notes c.notes p.notes in
    record {
      bytes = was.bytes;
      spelled = was.spelled;
      executed = record {
        program = program;
        is_the_images = of;
        has_run = record {
          input = input.0;
          fed = input.1;
          bytes = input.2;
          n = whole.n;
          end = whole.end;
          is_run = whole.is_run;
          did = record {
            files = p.files;
            input = all_left running h.input c.input input.1 p.input;
            output = subst (λ o. GainedPart h.output o due.output) (sym same_output) (nothing h.output due.output);
            notes = subst (λ n. GainedPart h.notes n (ended_lines due.notes)) (sym same_notes) (nothing h.notes (ended_lines due.notes));
            unchanged = λ memory. absurd (other memory);
            whole = λ memory. absurd (other memory);
            unkept = p.unkept;
            unread = λ input. absurd (let clash : Keep ≡ Input = sym keep ∙ input in cc);
            unput = λ output. absurd (let clash : Keep ≡ Output = sym keep ∙ output in cc);
            untold = λ notes. absurd (let clash : Keep ≡ Notes = sym keep ∙ notes in cc);
            due_kept = λ _ none. cc;
          };
        };
      };
      ready = λ memory. other (let same : stop ≡ Memory = cc in same);
    }

kept_before : (running : Running) (name bytes : Bytes) (n : ℕ) (end : RunEnd) (h c : Contents) → c ≡ record h { files = files_after h.files (Some (name, bytes)) } → KeptBefore (ran running None None n end) (ran running None (Some (name, bytes)) n end) h c
kept_before running name bytes n end h c kept = record { none = refl; output = refl; rest = refl; kept = kept }

did_kept : (running : Running) (name bytes : Bytes) (n : ℕ) (end : RunEnd) (h c d : Contents) (result : Result ℕ Stop) → result ≢ Err Memory → c ≡ record h { files = files_after h.files (Some (name, bytes)) }
    → Did (ran running None None n end) c d result → Did (ran running None (Some (name, bytes)) n end) h d result
did_kept running name bytes n end h c d (Ok status) ready kept did = (did.0, did.1 ∙ ap (λ (x : Contents). after_all (ran running None None n end) x) kept)
did_kept running name bytes n end h c d (Err stop) ready kept p =
    let due = ran running None (Some (name, bytes)) n end in
    let not_memory : stop ≢ Memory = λ memory. ready (ap (λ s. Err s) memory) in
    record {
      files = inr (inl (p.files ∙ ap (λ (x : Contents). x.files) kept));
      input = subst (λ i. InputPart (Some (of_machine running)) i d.input) (ap (λ (x : Contents). x.input) kept) p.input;
      output = subst (λ o. GainedPart o d.output due.output) (ap (λ (x : Contents). x.output) kept) p.output;
      notes = subst (λ n. GainedPart n d.notes (ended_lines due.notes)) (ap (λ (x : Contents). x.notes) kept) p.notes;
      unchanged = λ memory. absurd (not_memory memory);
      whole = λ memory. absurd (not_memory memory);
      unkept = λ keep. p.unkept keep ∙ ap (λ (x : Contents). record x { files = d.files }) kept;
      unread = λ input. unread_behind (of_machine running) (ran running None None n end) due h c d (kept_before running name bytes n end h c kept) (p.unread input);
      unput = λ output. unput_behind (of_machine running) (ran running None None n end) due h c d (kept_before running name bytes n end h c kept) (p.unput output);
      untold = p.untold;
      due_kept = λ _ none. cc;
    }

-- the image was kept, and then it ran
pub kept_and_run : (image : Image) (program : Program) (core : Core) (limit : ℕ) (name : Bytes) (h c d : Contents) (status : ℕ) (result : Result ℕ Stop) → IsProgramOf image program → core ≡ start_of image → WasKept (IsSpelled Two image) name h c (Ok status)
    → HasRun program core limit None None c d result → result ≢ Err Memory → HasKeptAndRun image limit name h d result
kept_and_run image program core limit name h c d status result of start was run ready =
    let kept : c ≡ record h { files = files_after h.files (Some (name, was.bytes)) } =
    was.did.1 ∙ (λ i. record { files = files_after h.files (Some (name, was.bytes)); input = h.input; output = appended-nil h.output i; notes = appended-nil h.notes i }) in
    let r : HasRun program (start_of image) limit None None c d result = subst (λ k. HasRun program k limit None None c d result) start run in
    record {
      bytes = was.bytes;
      spelled = was.spelled;
      executed = record {
        program = program;
        is_the_images = of;
        has_run = record {
          input = r.input;
          fed = subst (λ i. ForSome i (λ left. r.input ≡ left)) (ap (λ (x : Contents). x.input) kept) r.fed;
          bytes = λ all. r.bytes (subst (λ i. ForSome i AreBytes) (sym (ap (λ (x : Contents). x.input) kept)) all);
          n = r.n;
          end = r.end;
          is_run = r.is_run;
          did = did_kept (running_by program (start_of image) limit r.input) name was.bytes r.n r.end h c d result ready kept r.did;
        };
      };
      ready = ready;
    }

-- ---- what a call that keeps an image answers

pub keeps_failed : (IsSuch : Bytes → Type 0) (name bytes : Bytes) (h c : Contents) (stop : Stop) → IsSuch bytes → c ≡ record h { files = c.files } → (stop ≡ Memory → c.files ≡ h.files) → (stop ≡ Keep → OthersStay h.files c.files name)
    → (stop ≡ Keep) ⊎ (stop ≡ Memory) → KeepsSuch IsSuch name h c (Err stop)
keeps_failed IsSuch name bytes h c stop spelled rest same unknown (inl keep) = inr (not_kept IsSuch name bytes h c stop spelled rest keep (unknown keep))
keeps_failed IsSuch name bytes h c stop spelled rest same unknown (inr memory) = inl (unbegun h c stop memory (rest ∙ ap (λ f. record h { files = f }) (same memory)))

-- what these bytes are
pub kept_such : (bytes : Bytes) (IsSuch : Bytes → Type 0) (name : Bytes) (h c : Contents) (result : Result ℕ Stop) → IsSuch bytes → KeepsSuch (λ held. held ≡ bytes) name h c result → KeepsSuch IsSuch name h c result
kept_such bytes IsSuch name h c result such (inl unbegun) = inl unbegun
kept_such bytes IsSuch name h c result such (inr was) = inr (record { bytes = was.bytes; spelled = subst IsSuch (sym was.spelled) such; ready = was.ready; only = was.only; did = was.did })

pub ran_kept : (image : Image) (program : Program) (core : Core) (limit : ℕ) (name : Bytes) (h c d : Contents) (status : ℕ) (result : Result ℕ Stop) → IsProgramOf image program → core ≡ start_of image → Keeps image name h c (Ok status)
    → HasRun program core limit None None c d result → result ≢ Err Memory → KeepsAndRuns image limit name h d result
ran_kept image program core limit name h c d status result of start (inl unbegun) run ready = absurd (let clash = unbegun.memory in cc)
ran_kept image program core limit name h c d status result of start (inr was) run ready = inr (kept_and_run image program core limit name h c d status result of start was run ready)

pub ran_unkept : (image : Image) (program : Program) (limit : ℕ) (name : Bytes) (h c : Contents) (stop : Stop) → IsProgramOf image program → Keeps image name h c (Err stop) → KeepsAndRuns image limit name h c (Err stop)
ran_unkept image program limit name h c stop of (inl unbegun) = inl unbegun
ran_unkept image program limit name h c stop of (inr was) = inr (kept_none image program limit name h c stop of was was.only)
