-- The run of a phrase by the copy rule over the objects of a call.
use Rattle.std.proofs.Common.{◌≡◌, ◌≢◌, ℕ, ◌≤◌, zero, suc, ◌+◌, ◌-◌, Bool, true, false, [], sym, ap, ◌∙◌, refl, subst, arith, inl, inr, None}
use Rattle.std.specs.Prelude.{◌⊎◌}
use Rattle.std.specs.Option.{ForSome, option_map}
use Rattle.std.specs.declared.option.Option.{Option}
use Rattle.std.specs.declared.result.Result.TheVariants.{Ok, Err}
use Rattle.fy_base.specs.Outside.{Bytes, appended, Gained, GainedPart}
use Rattle.fy_base.specs.declared.data.Ending.{Ending}
use Rattle.fy_base.specs.declared.data.Ending.TheVariants as ends
use Rattle.fy_runs.proofs.Outer.{part_longer}
use Rattle.fy_runs.proofs.Reached.{below_next, inside_next}
use Rattle.fy_runs.proofs.Closes.{ask_puts_none}
use Rattle.fy_phrase.specs.Tree.{Tree}
use Rattle.fy_phrase.specs.Sizes.{fits}
use Rattle.fy_phrase.specs.Copy.{CopyMove, goes, puts, takes, faults, sticks, Standing, going, ended, faulted, stuck, copy_step, copy_machine, start_run, copy_after, peak_load}
use Rattle.fy_phrase.proofs.Runs.{outputs_grow}
use Rattle.fy_copy.specs.Moves.{IsTooBig}
use Rattle.fy_copy.specs.Ends.{held_machine, close_of, IsGoingBelow, IsHeldBelow, EndsSo, HasPut, taken_after, RunsTo, DoesPart, IsCopyEnd}
use Rattle.fy_copy.specs.declared.run.CopyRun.{CopyRun}
use Rattle.fy_derive.specs.Safety.{IsNeverStuck}
use Rattle.fy_world.specs.World.{Contents}
use Rattle.fy_world.specs.Note.{texts, ended_lines}
use Rattle.fy_world.specs.Runs.{Copying, of_phrase, CopyEnd, ending_of_copy, IsCopyRun, copy_status, copy_note, copy_notes, copied}
use Rattle.fy_world.specs.Runs as copy_ends
use Rattle.fy_world.specs.Did.{IsLeftBy, StopsAtRead, StopsAtPut}
use Rattle.fy_world.specs.Working.{HasCopied}
use Rattle.fy_world.specs.declared.note.Note.TheVariants as note
use Rattle.fy_world.specs.declared.world.Stop.{Stop}
use Rattle.fy_world.specs.declared.world.Stop.TheVariants.{Keep, Input, Output, Notes, Memory}
use Rattle.fy_world.proofs.Contents.{appended-nil, nothing, all_gained}
use Rattle.fy_world.proofs.Lines.{some_counted}
use Rattle.fy_world.proofs.Parts.{but_notes, tell_all}
use Rattle.fy_world.proofs.Stopping.{none_told}

-- the run of which the input was taken is within the limit, too
few_taken : (end : Ending) (n : ℕ) → taken_after end n ≤ n
few_taken ends.InputFault n = omega arith
few_taken _ n = omega arith

-- ---- how a run of a phrase that is never stuck ends

-- its end, after n steps or more
record Whole (copying : Copying) (n : ℕ) : Type 0 where
  m : ℕ
  end : CopyEnd
  more : n ≤ m
  is_run : IsCopyRun copying m end

is_false : (b : Bool) → (b ≡ false) ⊎ (¬ (b ≡ false))
is_false true = inr (λ e. cc)
is_false false = inl refl

is_big : (m : CopyMove) → IsTooBig m ⊎ (¬ IsTooBig m)
is_big (goes s) = is_false (fits s.focus)
is_big (puts text s) = is_false (fits s.focus)
is_big (takes go) = is_false (fits (go None).focus)
is_big (faults kind at) = inr (λ big. big)
is_big sticks = inr (λ big. big)

never : (p : Tree) → IsNeverStuck p → (input : Bytes) (m : ℕ) → (copy_after p input m).standing ≢ stuck
unfolding IsNeverStuck
never p safe = safe

-- where a run stands, and what becomes of it where it goes on
by_standing : (copying : Copying) (n : ℕ) (s : Standing) → IsNeverStuck copying.phrase → n ≤ copying.limit → IsGoingBelow copying.phrase copying.input n → IsHeldBelow copying.phrase copying.input n
    → (copy_after copying.phrase copying.input n).standing ≡ s → ((copy_after copying.phrase copying.input n).standing ≡ going → Whole copying n) → Whole copying n
by_standing copying n going safe le below held is on = on is
by_standing copying n ended safe le below held is on =
    record { m = n; end = copy_ends.ended; more = omega arith; is_run = record { ends = record { below = below; here = is }; held = held; within = le } }
by_standing copying n (faulted kind at) safe le below held is on =
    record { m = n; end = copy_ends.faulted kind at; more = omega arith; is_run = record { ends = record { below = below; here = is }; held = held; within = le } }
by_standing copying n stuck safe le below held is on = absurd (never copying.phrase safe copying.input n is)

further : (copying : Copying) (n : ℕ) → Whole copying (n + 1) → Whole copying n
further copying n w = let le = w.more in record { m = w.m; end = w.end; more = omega arith; is_run = w.is_run }

whole_from : (copying : Copying) (k n : ℕ) → IsNeverStuck copying.phrase → n + k ≡ copying.limit → IsGoingBelow copying.phrase copying.input n → IsHeldBelow copying.phrase copying.input n → Whole copying n
whole_from copying zero n safe sum below held =
    by_standing copying n _ safe (omega arith) below held refl (λ here. record {
      m = n;
      end = copy_ends.spent;
      more = omega arith;
      is_run = record { ends = record { all = omega arith; going = record { below = below; here = here } }; held = held; within = omega arith };
    })
whole_from copying (suc k) n safe sum below held =
    let p = copying.phrase in
    let fed = copying.input in
    by_standing copying n _ safe (omega arith) below held refl (λ here. elim (is_big (copy_step (copy_after p fed n).state)) [
      | inl big ↦ record {
        m = n;
        end = copy_ends.too_big;
        more = omega arith;
        is_run = record { ends = record { fewer = omega arith; going = record { below = below; here = here }; big = big }; held = held; within = omega arith };
      }
      | inr small ↦ further copying n (whole_from copying k (n + 1) safe (omega arith) (below_next copy_machine (start_run p fed) n below here) (inside_next held_machine (start_run p fed) n held small))
    ])

whole : (copying : Copying) (n : ℕ) → IsNeverStuck copying.phrase → n ≤ copying.limit → IsGoingBelow copying.phrase copying.input n → IsHeldBelow copying.phrase copying.input n → Whole copying n
whole copying n safe le below held = whole_from copying (copying.limit - n) n safe (omega arith) below held

-- ---- a run over a source and a sink

abbrev pub copying_by : Tree → ℕ → Bytes → Copying
copying_by p limit input = record { phrase = p; input = input; limit = limit }

-- what the run of a phrase did between two contents
abbrev pub Ran : Tree → ℕ → CopyRun → Contents → Contents → Type 0
Ran p limit done h c = RunsTo p limit done h.input c.input h.output c.output

-- what it left of its input
left_by : (p : Tree) (limit : ℕ) (h c : Contents) (done : CopyRun) → done.steps ≤ limit → (r : Ran p limit done h c) → IsLeftBy (of_phrase (copying_by p limit r.fed)) h.input c.input
left_by p limit h c done le r = record { steps = taken_after done.end done.steps; within = let few = few_taken done.end done.steps in omega arith; rest = r.rest }

gained_part : (before now : Option Bytes) (output : Bytes) → Gained before now output → GainedPart before now output
gained_part before now output gained = subst (λ x. GainedPart before x output) (sym gained) (all_gained before output)

-- a part of what is due was done, where the run made n steps or more
part_done : (p : Tree) (limit n : ℕ) (input : Bytes) (h c : Contents) (stop : Stop) → IsNeverStuck p → n ≤ limit → IsGoingBelow p input n → IsHeldBelow p input n → ForSome h.input (λ left. input ≡ left)
    → IsLeftBy (of_phrase (copying_by p limit input)) h.input c.input → GainedPart h.output c.output (copy_after p input n).output → c ≡ record h { input = c.input; output = c.output }
    → stop ≢ Keep → (stop ≡ Input → StopsAtRead (of_phrase (copying_by p limit input)) None h c []) → (stop ≡ Output → StopsAtPut (of_phrase (copying_by p limit input)) None h c []) → HasCopied p limit h c (Err stop)
part_done p limit n input h c stop safe le below held told taken output rest no_keep unread unput =
    let copying = copying_by p limit input in
    let w = whole copying n safe le below held in
    let files = ap (λ x. x.files) rest in
    let notes = ap (λ x. x.notes) rest in
    record {
      input = input;
      fed = told;
      n = w.m;
      end = w.end;
      is_run = w.is_run;
      did = record {
        files = files;
        input = taken;
        output = part_longer h.output c.output (copy_after p input n).output (copy_after p input w.m).output output (outputs_grow p input n w.m w.more);
        notes = subst (λ x. GainedPart h.notes x (ended_lines (copied copying w.m w.end).notes)) (sym notes) (nothing h.notes _);
        unchanged = λ _. files;
        whole = λ _. record { count = 0; gained = notes ∙ sym (appended-nil h.notes) };
        unkept = λ keep. absurd (no_keep keep);
        unread = unread;
        unput = λ output. inl (unput output);
        untold = λ _. some_counted (copy_note w.end) (note.Copied w.m (peak_load p input w.m));
        due_kept = λ keep. absurd (no_keep keep);
      };
    }

-- no memory was found at some step
pub copied_unfinished : (p : Tree) (limit : ℕ) (h c : Contents) (stop : Stop) → IsNeverStuck p → stop ≡ Memory → DoesPart p limit h.input c.input h.output c.output → c ≡ record h { input = c.input; output = c.output }
    → HasCopied p limit h c (Err stop)
copied_unfinished p limit h c stop safe memory part rest =
    part_done p limit part.made part.fed h c stop safe part.within part.going part.held part.told (record { steps = part.made; within = part.within; rest = part.rest }) (gained_part h.output c.output _ part.output) rest
    (λ keep. let clash : Memory ≡ Keep = sym memory ∙ keep in cc) (λ input. absurd (let clash : Memory ≡ Input = sym memory ∙ input in cc))
    (λ output. absurd (let clash : Memory ≡ Output = sym memory ∙ output in cc))

-- a read failed
pub copied_unread : (p : Tree) (limit : ℕ) (h c : Contents) (done : CopyRun) → IsNeverStuck p → done.end ≡ ends.InputFault → done.steps ≤ limit → Ran p limit done h c → c ≡ record h { input = c.input; output = c.output }
    → HasCopied p limit h c (Err Input)
copied_unread p limit h c done safe is le r rest =
    let asks = subst (λ e. EndsSo e p r.fed done.steps limit) is r.end in
    let output = subst (λ e. HasPut e h.output c.output (copy_after p r.fed done.steps).output) is r.output in
    part_done p limit done.steps r.fed h c Input safe le asks.below r.held r.told (left_by p limit h c done le r) (gained_part h.output c.output _ output) rest
    (λ clash. cc)
    (λ _. record {
      steps = done.steps;
      within = le;
      reads = (asks, r.held);
      files = ap (λ (x : Contents). x.files) rest;
      rest = r.rest ∙ ap (λ e. option_map (λ _. (copy_after p r.fed (taken_after e done.steps)).input) h.input) is;
      output = output ∙ ap (λ bytes. appended h.output bytes) (ask_puts_none copy_machine (start_run p r.fed) done.steps asks);
      notes = none_told h.notes c.notes (ap (λ (x : Contents). x.notes) rest);
    })
    (λ clash. absurd (let no : Input ≡ Output = clash in cc))

-- a put failed
pub copied_unwritten : (p : Tree) (limit : ℕ) (h c : Contents) (done : CopyRun) → IsNeverStuck p → done.end ≡ ends.OutputFault → done.steps ≤ limit → Ran p limit done h c → c ≡ record h { input = c.input; output = c.output }
    → HasCopied p limit h c (Err Output)
copied_unwritten p limit h c done safe is le r rest =
    let put = subst (λ e. EndsSo e p r.fed done.steps limit) is r.end in
    let output = subst (λ e. HasPut e h.output c.output (copy_after p r.fed done.steps).output) is r.output in
    part_done p limit done.steps r.fed h c Output safe le put.below r.held r.told (left_by p limit h c done le r) output rest
    (λ clash. cc) (λ clash. absurd (let no : Output ≡ Input = clash in cc))
    (λ _. record {
      steps = done.steps;
      within = le;
      puts = (put, r.held);
      files = ap (λ (x : Contents). x.files) rest;
      rest = r.rest ∙ ap (λ e. option_map (λ _. (copy_after p r.fed (taken_after e done.steps)).input) h.input) is;
      output = let since = r.unput (ap close_of is) in record { part = since.part; gained = since.gained; begins = since.begins; reads = λ k few reads. since.reads k few reads.0 };
      notes = none_told h.notes c.notes (ap (λ (x : Contents). x.notes) rest);
    })

-- ---- runs that no fault of the outside ended

-- how such a run of a phrase that is never stuck ended
record OwnEnd (end : Ending) : Type 0 where
  by : CopyEnd
  is : end ≡ ending_of_copy by

own_end : (p : Tree) (fed : Bytes) (n limit : ℕ) (end : Ending) → IsNeverStuck p → IsCopyEnd end → EndsSo end p fed n limit → end ≢ ends.InputFault → end ≢ ends.OutputFault → OwnEnd end
own_end p fed n limit ends.Ended safe is so a b = record { by = copy_ends.ended; is = refl }
own_end p fed n limit (ends.Fault kind place) safe is so a b = record { by = copy_ends.faulted kind place; is = refl }
own_end p fed n limit ends.Spent safe is so a b = record { by = copy_ends.spent; is = refl }
own_end p fed n limit ends.TooBig safe is so a b = record { by = copy_ends.too_big; is = refl }
own_end p fed n limit ends.Stuck safe is so a b = absurd (never p safe fed n so.here)
own_end p fed n limit ends.InputFault safe is so a b = absurd (a refl)
own_end p fed n limit ends.OutputFault safe is so a b = absurd (b refl)
own_end p fed n limit ends.Exhausted safe is so a b = absurd is
own_end p fed n limit ends.Gone safe is so a b = absurd is
own_end p fed n limit (ends.Trap kind) safe is so a b = absurd is

own_taken : (end : CopyEnd) (n : ℕ) → taken_after (ending_of_copy end) n ≡ n
own_taken copy_ends.ended n = refl
own_taken (copy_ends.faulted kind at) n = refl
own_taken copy_ends.spent n = refl
own_taken copy_ends.too_big n = refl

own_put : (end : CopyEnd) (before now : Option Bytes) (output : Bytes) → HasPut (ending_of_copy end) before now output → Gained before now output
own_put copy_ends.ended before now output put = put
own_put (copy_ends.faulted kind at) before now output put = put
own_put copy_ends.spent before now output put = put
own_put copy_ends.too_big before now output put = put

-- all but the notes was done
record DoneBut (p : Tree) (limit : ℕ) (h c : Contents) (done : CopyRun) (input : Bytes) : Type 0 where
  own : OwnEnd done.end
  is_run : IsCopyRun (copying_by p limit input) done.steps own.by
  notes_are : copy_notes own.by done.steps done.peak ≡ copy_notes own.by done.steps (peak_load p input done.steps)
  all : c ≡ but_notes (copied (copying_by p limit input) done.steps own.by) h

done_but : (p : Tree) (limit : ℕ) (h c : Contents) (done : CopyRun) → IsNeverStuck p → IsCopyEnd done.end → done.end ≢ ends.InputFault → done.end ≢ ends.OutputFault → done.steps ≤ limit → (r : Ran p limit done h c)
    → c ≡ record h { input = c.input; output = c.output } → DoneBut p limit h c done r.fed
done_but p limit h c done safe is no_input no_output le r rest =
    let own = own_end p r.fed done.steps limit done.end safe is r.end no_input no_output in
    let taken : taken_after done.end done.steps ≡ done.steps = ap (λ e. taken_after e done.steps) own.is ∙ own_taken own.by done.steps in
    let input : c.input ≡ option_map (λ _. (copy_after p r.fed done.steps).input) h.input = r.rest ∙ ap (λ k. option_map (λ _. (copy_after p r.fed k).input) h.input) taken in
    let put = subst (λ e. HasPut e h.output c.output (copy_after p r.fed done.steps).output) own.is r.output in
    let output = own_put own.by h.output c.output (copy_after p r.fed done.steps).output put in
    record {
      own = own;
      is_run = record { ends = subst (λ e. EndsSo e p r.fed done.steps limit) own.is r.end; held = r.held; within = le };
      notes_are = ap (λ k. copy_notes own.by done.steps k) (r.also ∙ ap (λ k. peak_load p r.fed k) taken);
      all = rest ∙ (λ i. record { files = h.files; input = input i; output = output i; notes = h.notes });
    }

-- how the run ended was told
pub copied_told : (p : Tree) (limit : ℕ) (h c d : Contents) (done : CopyRun) (status : ℕ) → IsNeverStuck p → IsCopyEnd done.end → done.end ≢ ends.InputFault → done.end ≢ ends.OutputFault → done.steps ≤ limit → Ran p limit done h c
    → c ≡ record h { input = c.input; output = c.output } → ((end : CopyEnd) → done.end ≡ ending_of_copy end → d ≡ record c { notes = appended c.notes (ended_lines (texts (copy_notes end done.steps done.peak))) })
    → ((end : CopyEnd) → done.end ≡ ending_of_copy end → status ≡ copy_status end) → HasCopied p limit h d (Ok status)
copied_told p limit h c d done status safe is no_input no_output le r rest told status_is =
    let e = done_but p limit h c done safe is no_input no_output le r rest in
    record {
      input = r.fed;
      fed = r.told;
      n = done.steps;
      end = e.own.by;
      is_run = e.is_run;
      did = (status_is e.own.by e.own.is, tell_all (copied (copying_by p limit r.fed) done.steps e.own.by) h c d e.all (told e.own.by e.own.is ∙ ap (λ ls. record c { notes = appended c.notes (ended_lines (texts ls)) }) e.notes_are));
    }

-- or a part of that
pub copied_untold : (p : Tree) (limit : ℕ) (h c d : Contents) (done : CopyRun) (stop : Stop) → IsNeverStuck p → IsCopyEnd done.end → done.end ≢ ends.InputFault → done.end ≢ ends.OutputFault → done.steps ≤ limit → Ran p limit done h c
    → c ≡ record h { input = c.input; output = c.output } → d ≡ record c { notes = d.notes } → ((end : CopyEnd) → done.end ≡ ending_of_copy end → GainedPart c.notes d.notes (ended_lines (texts (copy_notes end done.steps done.peak)))) → stop ≡ Notes → HasCopied p limit h d (Err stop)
copied_untold p limit h c d done stop safe is no_input no_output le r rest others part stop_is =
    let e = done_but p limit h c done safe is no_input no_output le r rest in
    let due = copied (copying_by p limit r.fed) done.steps e.own.by in
    let files : d.files ≡ h.files = ap (λ (x : Contents). x.files) others ∙ ap (λ (x : Contents). x.files) rest in
    let input : d.input ≡ option_map (λ _. (copy_after p r.fed done.steps).input) h.input = ap (λ (x : Contents). x.input) others ∙ ap (λ (x : Contents). x.input) e.all in
    let output : d.output ≡ appended h.output due.output = ap (λ (x : Contents). x.output) others ∙ ap (λ (x : Contents). x.output) e.all in
    let notes : c.notes ≡ h.notes = ap (λ (x : Contents). x.notes) rest in
    record {
      input = r.fed;
      fed = r.told;
      n = done.steps;
      end = e.own.by;
      is_run = e.is_run;
      did = record {
        files = files;
        input = record { steps = done.steps; within = le; rest = input };
        output = subst (λ o. GainedPart h.output o due.output) (sym output) (all_gained h.output due.output);
        notes = subst (λ n. GainedPart n d.notes (ended_lines due.notes)) notes (subst (λ ls. GainedPart c.notes d.notes (ended_lines (texts ls))) e.notes_are (part e.own.by e.own.is));
        unchanged = λ _. files;
        whole = λ memory. absurd (let clash : Notes ≡ Memory = sym stop_is ∙ memory in cc);
        unkept = λ keep. absurd (let clash : Notes ≡ Keep = sym stop_is ∙ keep in cc);
        unread = λ input. absurd (let clash : Notes ≡ Input = sym stop_is ∙ input in cc);
        unput = λ output. absurd (let clash : Notes ≡ Output = sym stop_is ∙ output in cc);
        untold = λ _. some_counted (copy_note e.own.by) (note.Copied done.steps (peak_load p r.fed done.steps));
        due_kept = λ keep. absurd (let clash : Notes ≡ Keep = sym stop_is ∙ keep in cc);
      };
    }
