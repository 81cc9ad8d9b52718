-- From the steps of push-enter code to what is due for its run.
use Rattle.std.proofs.Common.{◌≡◌, ◌≢◌, ℕ, zero, suc, ◌+◌, ◌-◌, ◌^◌, ◌<◌, ◌≤◌, Bool, false, List, [], ◌∷◌, ◌++◌, length, take, sym, ap, ◌∙◌, refl, arith, subst, inl, inr, append_assoc, Some, None}
use Rattle.std.proofs.lemmas.List.{append-nil}
use Rattle.std.proofs.Math.Seq.{take-append_seam}
use Rattle.std.proofs.lemmas.Bool.{cases_lt}
use Rattle.std.specs.Prelude.{◌⊎◌}
use Rattle.std.specs.Option.{option_map, option_to_list}
use Rattle.std.specs.declared.option.Option.{Option}
use Rattle.std.specs.declared.result.Result.TheVariants.{Ok, Err}
use Rattle.fy_base.specs.Outside.{Bytes, appended, Gained, GainedPart}
use Rattle.fy_base.specs.declared.data.Ending.{Ending}
use Rattle.fy_base.specs.declared.data.Ending.TheVariants as ends
use Rattle.fy_runs.specs.Exchange.{Exchange}
use Rattle.fy_runs.proofs.Outer.{part_longer}
use Rattle.fy_runs.proofs.Runs.{outputs_grow}
use Rattle.fy_runs.proofs.Reached.{below_next, inside_next}
use Rattle.fy_runs.proofs.Closes as runs_close
use Rattle.fy_runs.proofs.Closes.{begun_at}
use Rattle.pe_code.specs.declared.code.PeCode.{PeCode}
use Rattle.pe_machine.specs.States.{PeState}
use Rattle.pe_machine.specs.Step.{takes, puts, pe_step}
use Rattle.pe_machine.specs.Run.{Standing, going, ended, faulted, stuck, gone, pe_start, code_machine, start_run, pe_after, load_after}
use Rattle.pe_machine.specs.Seen.{Seen, address_of}
use Rattle.pe_machine.specs.declared.events.Phase.TheVariants as phase
use Rattle.pe_machine.specs.Ends.{word_machine, close_of, count_of, IsGoingBelow, IsWithin, EndsSo, PutsAt}
use Rattle.fy_world.specs.World.{Contents}
use Rattle.fy_world.specs.Note.{texts, ended_lines}
use Rattle.fy_world.specs.Steps.{Stepping, StepEnd, ending_of_steps, step_status, step_note, IsSteppedRun, line_after, step_text, step_lines, step_words}
use Rattle.fy_world.specs.Steps as step_ends
use Rattle.fy_world.specs.Runs.{stepped, of_code}
use Rattle.fy_world.specs.Did.{WholeLines, GainedSinceRead}
use Rattle.fy_world.specs.Working.{ToldPart}
use Rattle.fy_world.specs.Stepping.{IsNeverLost, IsStepEnd, IsLastEnd, HasEnded, HasStopped, HasStepped, Turned, TurnStopped, begun, noted, outer_of, step_line, text_put}
use Rattle.fy_world.specs.declared.note.Note.{Note}
use Rattle.fy_world.specs.declared.world.Stop.{Stop}
use Rattle.fy_world.specs.declared.world.Stop.TheVariants.{Keep, Input, Output, Notes, Memory}
use Rattle.fy_world.proofs.Contents.{appended-appended, appended-nil, all_gained, gained_both}
use Rattle.fy_world.proofs.Keeping.{none_gained}
use Rattle.fy_world.proofs.Lines.{ended-append, some_before, some_behind, some_texts}
use Rattle.fy_world.proofs.Tracing.{told_part_more}
use Rattle.fy_world.proofs.Stepwise.{Reached, RunsOn, lines_with, lines_at, reached_start, reached_next, runs_end, runs_out, step_taken, step_put, lines_in, begins_in, asks_in, puts_in, untaken_in, lines_grow, lines_next}

-- ---- the steps so far

-- a run goes on after n steps, whose lines were told
pub record Told (code : PeCode) (names : List Bytes) (n : ℕ) (s : Seen) (first : Contents) (over : Bool) (now : Contents) : Type 0 where
  pub lines : List Bytes
  pub steps_are : s.steps ≡ n
  pub phase_is : s.phase ≡ phase.Going
  pub limit_is : s.limit ≡ step_words
  pub reached : Reached code names n s.state lines (outer_of false first) (outer_of over now)
  pub files : now.files ≡ first.files
  pub notes : now.notes ≡ appended first.notes (ended_lines lines)

pub told_start : (code : PeCode) (names : List Bytes) (s : Seen) (first : Contents) → s ≡ begun → Told code names 0 s first false first
told_start code names s first is = record {
  lines = [];
  steps_are = ap (λ x. x.steps) is;
  phase_is = ap (λ x. x.phase) is;
  limit_is = ap (λ x. x.limit) is;
  reached = subst (λ t. Reached code names 0 t [] (outer_of false first) (outer_of false first)) (sym (ap (λ (x : Seen). x.state) is)) (reached_start code names (outer_of false first) refl);
  files = refl;
  notes = sym (appended-nil first.notes);
}

-- the step is one of the machine with the words of such runs
in_words : (end : Option Ending) (code : PeCode) (names : List Bytes) (n : ℕ) (s t : Seen) (first : Contents) (over over' : Bool) (now next : Contents) → Told code names n s first over now → Turned code names s t over over' now next end
    → Exchange (word_machine code step_words) s.state t.state (outer_of over now) (outer_of over' next) (count_of end) (option_map close_of end)
in_words end code names n s t first over over' now next told turned =
    subst (λ words. Exchange (word_machine code words) s.state t.state (outer_of over now) (outer_of over' next) (count_of end) (option_map close_of end)) told.limit_is turned.exchange

pub few_steps : (made k : ℕ) → made ≡ k → k ≤ 1000000 → made < 2 ^ 48
few_steps made k is le = omega arith

-- a line behind others
line_behind : (first held now : Option Bytes) (lines : List Bytes) (text : Bytes) → held ≡ appended first (ended_lines lines) → now ≡ appended held (text ++ 10 ∷ []) → now ≡ appended first (ended_lines (lines ++ text ∷ []))
line_behind first held now lines text so_far line =
    line ∙ ap (λ h. appended h (text ++ 10 ∷ [])) so_far ∙ appended-appended first (ended_lines lines) (text ++ 10 ∷ []) ∙ ap (λ t. appended first t) (sym (ended-append lines (text ∷ [])))

pub told_next : (code : PeCode) (names : List Bytes) (n : ℕ) (s t : Seen) (first : Contents) (over over' : Bool) (now next : Contents) → Told code names n s first over now → Turned code names s t over over' now next None
    → Told code names (n + 1) t first over' next
told_next code names n s t first over over' now next told turned = record {
  lines = lines_with code names s.state told.lines;
  steps_are = (turned.further refl).steps ∙ ap (λ k. k + 1) told.steps_are;
  phase_is = (turned.further refl).phase told.phase_is;
  limit_is = (turned.further refl).limit ∙ told.limit_is;
  reached = reached_next code names n s.state t.state told.lines (outer_of false first) (outer_of over now) (outer_of over' next) told.reached (in_words None code names n s t first over over' now next told turned);
  files = turned.files ∙ told.files;
  notes = line_behind first.notes now.notes next.notes told.lines (step_text code names (address_of s.state.focus)) told.notes turned.notes;
}

-- ---- the run ended

-- the notes behind the step that ended a run
end_noted : (end : Ending) (code : PeCode) (names : List Bytes) (s : PeState) (lines : List Bytes) (first held now : Option Bytes) → held ≡ appended first (ended_lines lines) → now ≡ noted (Some end) held (step_line code names s)
    → now ≡ appended first (ended_lines (lines_at end code names s lines))
end_noted ends.Ended code names s lines first held now so_far is = is ∙ so_far
end_noted ends.Exhausted code names s lines first held now so_far is = is ∙ so_far
end_noted (ends.Fault kind at) code names s lines first held now so_far is = line_behind first held now lines (step_text code names (address_of s.focus)) so_far is
end_noted ends.Spent code names s lines first held now so_far is = line_behind first held now lines (step_text code names (address_of s.focus)) so_far is
end_noted ends.Stuck code names s lines first held now so_far is = line_behind first held now lines (step_text code names (address_of s.focus)) so_far is
end_noted ends.Gone code names s lines first held now so_far is = line_behind first held now lines (step_text code names (address_of s.focus)) so_far is
end_noted ends.InputFault code names s lines first held now so_far is = line_behind first held now lines (step_text code names (address_of s.focus)) so_far is
end_noted ends.OutputFault code names s lines first held now so_far is = line_behind first held now lines (step_text code names (address_of s.focus)) so_far is
end_noted ends.TooBig code names s lines first held now so_far is = line_behind first held now lines (step_text code names (address_of s.focus)) so_far is
end_noted (ends.Trap kind) code names s lines first held now so_far is = line_behind first held now lines (step_text code names (address_of s.focus)) so_far is

has_ended : (code : PeCode) (names : List Bytes) (limit : ℕ) (end : Ending) (lines : List Bytes) (first now : Contents) → IsStepEnd end → RunsOn code names limit end lines first.input now.input first.output now.output → now.files ≡ first.files
    → now.notes ≡ appended first.notes (ended_lines lines) → HasEnded code names limit first now end
has_ended code names limit end lines first now kind on files notes =
    let run = on.run in
    record {
      input = run.fed;
      fed = run.told;
      n = on.made;
      few = on.few;
      ends = run.end;
      inside = run.held;
      kind = kind;
      files = files;
      rest = run.rest ∙ ap (λ k. option_map (λ _. (pe_after code run.fed k).input) first.input) (step_taken end on.made kind);
      output = step_put end first.output now.output _ kind run.output;
      notes = notes ∙ ap (λ ls. appended first.notes (ended_lines ls)) (sym run.also);
    }

pub told_end : (end : Ending) (code : PeCode) (names : List Bytes) (n limit : ℕ) (s t : Seen) (first : Contents) (over over' : Bool) (now next : Contents) → IsStepEnd end → n < limit → Told code names n s first over now
    → Turned code names s t over over' now next (Some end) → HasEnded code names limit first next end
told_end end code names n limit s t first over over' now next kind lt told turned =
    has_ended code names limit end (lines_at end code names s.state told.lines) first next kind
    (runs_end end code names n limit s.state t.state told.lines (outer_of false first) (outer_of over now) (outer_of over' next) lt told.reached (in_words (Some end) code names n s t first over over' now next told turned)) (turned.files ∙ told.files)
    (end_noted end code names s.state told.lines first.notes now.notes next.notes told.notes turned.notes)

last_kind : (end : Ending) (s : PeState) → IsLastEnd end s → IsStepEnd end
last_kind ends.Ended s is = tt
last_kind ends.Spent s is = tt
last_kind (ends.Fault kind at) s is = tt
last_kind ends.Exhausted s is = tt
last_kind ends.Stuck s is = tt
last_kind ends.Gone s is = tt
last_kind ends.InputFault s is = is
last_kind ends.OutputFault s is = is
last_kind ends.TooBig s is = is
last_kind (ends.Trap kind) s is = is

pub told_out : (end : Ending) (code : PeCode) (names : List Bytes) (n limit : ℕ) (s : Seen) (first : Contents) (over : Bool) (now : Contents) → n ≡ limit → Told code names n s first over now → IsLastEnd end s.state → HasEnded code names limit first now end
told_out end code names n limit s first over now same told is =
    has_ended code names limit end told.lines first now (last_kind end s.state is) (runs_out code names n limit end s.state told.lines (outer_of false first) (outer_of over now) same told.reached is) told.files told.notes

-- ---- a step was stopped

-- whole lines, where memory was wanting
whole_lines : (lines : List Bytes) (text : Bytes) (first held now : Option Bytes) → held ≡ appended first (ended_lines lines) → (now ≡ held) ⊎ Gained held now (text ++ 10 ∷ []) → WholeLines (lines ++ text ∷ []) first now
whole_lines lines text first held now so_far (inl same) =
    record { count = length lines; gained = same ∙ so_far ∙ ap (λ ls. appended first (ended_lines ls)) (sym (take-append_seam lines (text ∷ []))) }
whole_lines lines text first held now so_far (inr line) =
    let all = lines ++ text ∷ [] in
    let whole : take (length all) all ≡ all = ap (λ ls. take (length all) ls) (sym (append-nil all)) ∙ take-append_seam all [] in
    record { count = length all; gained = line_behind first held now lines text so_far line ∙ ap (λ ls. appended first (ended_lines ls)) (sym whole) }

part_behind : (lines : List Bytes) (text : Bytes) (first held now : Option Bytes) → held ≡ appended first (ended_lines lines) → GainedPart held now (text ++ 10 ∷ []) → GainedPart first now (ended_lines (lines ++ text ∷ []))
part_behind lines text first held now so_far part = record {
  part = ended_lines lines ++ part.part;
  gained = gained_both first held now (ended_lines lines) part.part so_far part.gained;
  begins = record {
    rest = part.begins.rest;
    is = ended-append lines (text ∷ []) ∙ ap (λ t. ended_lines lines ++ t) part.begins.is ∙ sym (append_assoc (ended_lines lines) part.part part.begins.rest);
  };
}

told_part : (lines all : List Bytes) (text : Bytes) (first held now : Option Bytes) (stop : Stop) → all ≡ lines ++ text ∷ [] → held ≡ appended first (ended_lines lines) → GainedPart held now (text ++ 10 ∷ [])
    → (stop ≡ Memory → (now ≡ held) ⊎ Gained held now (text ++ 10 ∷ [])) → ToldPart all first now stop
told_part lines all text first held now stop are so_far part whole =
    let P : List Bytes → Type 0 = λ ls. ToldPart ls first now stop in
    subst P (sym are) (record { part = part_behind lines text first held now so_far part; whole = λ memory. whole_lines lines text first held now so_far (whole memory) })

-- a step that reads puts nothing
read_puts_none : (code : PeCode) (s : PeState) (now next : Option Bytes) → GainedPart now next (text_put (pe_step code s)) → (go : Option ℕ → PeState) → pe_step code s ≡ takes go → next ≡ now
read_puts_none code s now next part go asks = none_gained now next (subst (λ m. GainedPart now next (text_put m)) asks part)

pub told_stop : (stop : Stop) (code : PeCode) (names : List Bytes) (n limit : ℕ) (s : Seen) (first : Contents) (over : Bool) (now next : Contents) → n < limit → Told code names n s first over now → TurnStopped code names s now next stop
    → HasStopped code names limit first next stop
told_stop stop code names n limit s first over now next lt told stopped =
    let lines = told.lines in
    let inside = subst (λ words. load_after (pe_step code s.state) ≤ words) told.limit_is stopped.inside in
    let stops = begun_at (word_machine code step_words) pe_start n (λ fed. step_lines code names fed n ≡ lines) s.state (outer_of false first) (outer_of over now) told.reached stopped.going inside in
    let lines_are = lines_in code names s.state lines n first.input now.input first.output now.output stops in
    let p = stopped.part in
    record {
      input = stops.fed;
      fed = stops.told;
      n = n;
      few = lt;
      going = stops.going;
      inside = stops.inside;
      files = p.files ∙ told.files;
      rest = p.input ∙ stops.rest;
      part = p.output.part;
      output = gained_both first.output now.output next.output _ p.output.part stops.output p.output.gained;
      begins = begins_in code names s.state told.lines n first.input now.input first.output now.output next.output stops p.output;
      told = told_part told.lines (step_lines code names stops.fed (n + 1)) (step_text code names (address_of s.state.focus)) first.notes now.notes next.notes stop lines_are told.notes p.notes p.whole;
      first = λ notes memory.
          line_behind first.notes now.notes next.notes told.lines (step_text code names (address_of s.state.focus)) told.notes (p.first notes memory)
          ∙ ap (λ ls. appended first.notes (ended_lines ls)) (sym lines_are);
      asks = λ input. let a = stopped.asks input in asks_in code names s.state told.lines n first.input now.input first.output now.output stops a.0 a.1;
      unput = λ input. let a = stopped.asks input in read_puts_none code s.state now.output next.output p.output a.0 a.1 ∙ stops.output;
      puts = λ output. let a = stopped.puts output in puts_in code names s.state told.lines n first.input now.input first.output now.output stops a.0 a.1 a.2;
      untaken = λ output. let a = stopped.puts output in untaken_in code names s.state told.lines n first.input now.input first.output now.output stops a.0 a.1 a.2;
      other = p.other;
    }

-- ---- how a run ends

-- its end, after n steps or more
record Whole (stepping : Stepping) (n : ℕ) : Type 0 where
  m : ℕ
  end : StepEnd
  more : n ≤ m
  is_run : IsSteppedRun stepping m end

-- where a run stands, and what becomes of it where it goes on
by_standing : (stepping : Stepping) (n : ℕ) (s : Standing) → IsNeverLost stepping.code → n ≤ stepping.limit → IsGoingBelow stepping.code stepping.input n → IsWithin stepping.code stepping.input step_words n
    → (pe_after stepping.code stepping.input n).standing ≡ s → ((pe_after stepping.code stepping.input n).standing ≡ going → Whole stepping n) → Whole stepping n
by_standing stepping n going safe le below inside is on = on is
by_standing stepping n ended safe le below inside is on =
    record { m = n; end = step_ends.ended; more = omega arith; is_run = record { ends = record { below = below; here = is }; inside = inside; within = le } }
by_standing stepping n (faulted kind at) safe le below inside is on =
    record { m = n; end = step_ends.faulted kind at; more = omega arith; is_run = record { ends = record { below = below; here = is }; inside = inside; within = le } }
by_standing stepping n stuck safe le below inside is on = absurd (safe.never_stuck stepping.input n is)
by_standing stepping n gone safe le below inside is on = absurd (safe.never_gone stepping.input n is)

further : (stepping : Stepping) (n : ℕ) → Whole stepping (n + 1) → Whole stepping n
further stepping n w = let le = w.more in record { m = w.m; end = w.end; more = omega arith; is_run = w.is_run }

whole_from : (stepping : Stepping) (k n : ℕ) → IsNeverLost stepping.code → n + k ≡ stepping.limit → IsGoingBelow stepping.code stepping.input n → IsWithin stepping.code stepping.input step_words n → Whole stepping n
whole_from stepping zero n safe sum below inside =
    by_standing stepping n _ safe (omega arith) below inside refl (λ here. record {
      m = n;
      end = step_ends.spent;
      more = omega arith;
      is_run = record { ends = record { all = omega arith; going = record { below = below; here = here } }; inside = inside; within = omega arith };
    })
whole_from stepping (suc k) n safe sum below inside =
    let code = stepping.code in
    let fed = stepping.input in
    by_standing stepping n _ safe (omega arith) below inside refl (λ here. elim (cases_lt step_words (load_after (pe_step code (pe_after code fed n).state))) [
      | inl passes ↦ record {
        m = n;
        end = step_ends.exhausted;
        more = omega arith;
        is_run = record { ends = record { fewer = omega arith; going = record { below = below; here = here }; big = passes }; inside = inside; within = omega arith };
      }
      | inr le ↦ further stepping n (whole_from stepping k (n + 1) safe (omega arith) (below_next (code_machine code) (start_run fed) n below here) (inside_next (word_machine code step_words) (start_run fed) n inside le))
    ])

whole : (stepping : Stepping) (n : ℕ) → IsNeverLost stepping.code → n ≤ stepping.limit → IsGoingBelow stepping.code stepping.input n → IsWithin stepping.code stepping.input step_words n → Whole stepping n
whole stepping n safe le below inside = whole_from stepping (stepping.limit - n) n safe (omega arith) below inside

-- ---- what is due

abbrev stepping_by : PeCode → List Bytes → ℕ → Bytes → Stepping
stepping_by code names limit input = record { code = code; names = names; input = input; limit = limit }

-- the lines of the first steps are those of a part of the whole run
due_part : (stepping : Stepping) (n m : ℕ) (end : StepEnd) (before now : Option Bytes) (stop : Stop) → n ≤ m → ToldPart (step_lines stepping.code stepping.names stepping.input n) before now stop → ToldPart (stepped stepping m end).notes before now stop
due_part stepping n m end before now stop le told =
    let first = step_lines stepping.code stepping.names stepping.input n in
    let last = texts (option_to_list (step_note end)) in
    let more = lines_grow stepping.code stepping.names stepping.input n m le in
    let same : (stepped stepping m end).notes ≡ first ++ (more.0 ++ last) = ap (λ ls. ls ++ last) more.1 ∙ append_assoc first more.0 last in
    let P : List Bytes → Type 0 = λ ls. ToldPart ls before now stop in
    subst P (sym same) (told_part_more first (more.0 ++ last) before now stop told)

-- a run of some steps has lines due
due_some : (stepping : Stepping) (n m : ℕ) (end : StepEnd) → n + 1 ≤ m → (stepped stepping m end).notes ≢ []
due_some stepping n m end le =
    let code = stepping.code in
    let names = stepping.names in
    let input = stepping.input in
    let more = lines_grow code names input (n + 1) m le in
    let first : step_lines code names input (n + 1) ≢ [] = subst (λ (ls : List Bytes). ls ≢ []) (sym (lines_next code names input n)) (some_behind (step_lines code names input n) (line_after code names input n ∷ []) (λ none. cc)) in
    some_before (step_lines code names input m) (texts (option_to_list (step_note end))) (subst (λ (ls : List Bytes). ls ≢ []) (sym more.1) (some_before (step_lines code names input (n + 1)) more.0 first))

-- all that was put before the step that was stopped, and so before each that reads
since_read : (code : PeCode) (names : List Bytes) (limit : ℕ) (b c : Contents) (stop : Stop) (h : HasStopped code names limit b c stop) → PutsAt code h.input (h.n + 1)
    → GainedSinceRead (of_code (stepping_by code names limit h.input)) (h.n + 1) b.output c.output
since_read code names limit b c stop h at =
    let before : (h.n + 1) - 1 ≡ h.n = omega arith in
    let step = ap (λ k. (code_machine code).step (pe_after code h.input k).state) (sym before) ∙ at.puts in
    let since = runs_close.since_read (code_machine code) (start_run h.input) h.n at.text at.then_state h.part b.output c.output step h.output h.begins in
    record { part = since.part; gained = since.gained; begins = since.begins; reads = λ k few reads. since.reads k few reads.0 }

-- the run was stopped
pub stepped_part : (code : PeCode) (names : List Bytes) (limit : ℕ) (b c : Contents) (stop : Stop) → IsNeverLost code → HasStopped code names limit b c stop → HasStepped code names limit b c (Err stop)
stepped_part code names limit b c stop safe h =
    let stepping = stepping_by code names limit h.input in
    let few : h.n + 1 ≤ limit = let lt = h.few in omega arith in
    let before_it : h.n ≡ (h.n + 1) - 1 = omega arith in
    let w = whole stepping (h.n + 1) safe few h.going h.inside in
    let told = due_part stepping (h.n + 1) w.m w.end b.notes c.notes stop w.more h.told in
    record {
      input = h.input;
      fed = h.fed;
      n = w.m;
      end = w.end;
      is_run = w.is_run;
      did = record {
        files = h.files;
        input = record { steps = h.n; within = let lt = h.few in omega arith; rest = h.rest };
        output = part_longer b.output c.output (pe_after code h.input (h.n + 1)).output (pe_after code h.input w.m).output
            (record { part = (pe_after code h.input h.n).output ++ h.part; gained = h.output; begins = h.begins }) (outputs_grow (code_machine code) (start_run h.input) (h.n + 1) w.m w.more);
        notes = told.part;
        unchanged = λ _. h.files;
        whole = told.whole;
        unkept = λ keep. absurd (h.other keep);
        unread = λ input. record {
          steps = h.n + 1;
          within = few;
          reads = (h.asks input, h.inside);
          files = h.files;
          rest = h.rest ∙ ap (λ k. option_map (λ _. (pe_after code h.input k).input) b.input) before_it;
          output = h.unput input ∙ ap (λ k. appended b.output (pe_after code h.input k).output) before_it;
          notes =
              h.first (λ notes. let clash : Input ≡ Notes = sym input ∙ notes in cc) (λ memory. let clash : Input ≡ Memory = sym input ∙ memory in cc)
              ∙ ap (λ t. appended b.notes t) (sym (append-nil _));
        };
        unput = λ output. inl (record {
          steps = h.n + 1;
          within = few;
          puts = (h.puts output, h.inside);
          files = h.files;
          rest = h.rest ∙ ap (λ left. option_map (λ _. left) b.input) (sym (h.untaken output));
          output = since_read code names limit b c stop h (h.puts output);
          notes =
              h.first (λ notes. let clash : Output ≡ Notes = sym output ∙ notes in cc) (λ memory. let clash : Output ≡ Memory = sym output ∙ memory in cc)
              ∙ ap (λ t. appended b.notes t) (sym (append-nil _));
        });
        untold = λ _. due_some stepping h.n w.m w.end w.more;
        due_kept = λ keep. absurd (h.other keep);
      };
    }

-- how a run ended that is never lost
record OwnEnd (end : Ending) : Type 0 where
  by : StepEnd
  is : end ≡ ending_of_steps by

own_end : (end : Ending) (code : PeCode) (input : Bytes) (n limit : ℕ) → IsNeverLost code → IsStepEnd end → EndsSo end code input step_words n limit → OwnEnd end
own_end ends.Ended code input n limit safe kind so = record { by = step_ends.ended; is = refl }
own_end (ends.Fault k at) code input n limit safe kind so = record { by = step_ends.faulted k at; is = refl }
own_end ends.Exhausted code input n limit safe kind so = record { by = step_ends.exhausted; is = refl }
own_end ends.Spent code input n limit safe kind so = record { by = step_ends.spent; is = refl }
own_end ends.Stuck code input n limit safe kind so = absurd (safe.never_stuck input n so.here)
own_end ends.Gone code input n limit safe kind so = absurd (safe.never_gone input n so.here)
own_end ends.InputFault code input n limit safe kind so = absurd kind
own_end ends.OutputFault code input n limit safe kind so = absurd kind
own_end ends.TooBig code input n limit safe kind so = absurd kind
own_end (ends.Trap k) code input n limit safe kind so = absurd kind

-- the run ended, and how was told
pub stepped_told : (code : PeCode) (names : List Bytes) (limit : ℕ) (b c d : Contents) (end : Ending) (found : Option Note) (status : ℕ) → IsNeverLost code → HasEnded code names limit b c end
    → d ≡ record c { notes = appended c.notes (ended_lines (texts (option_to_list found))) } → ((by : StepEnd) → end ≡ ending_of_steps by → found ≡ step_note by) → ((by : StepEnd) → end ≡ ending_of_steps by → status ≡ step_status by) → HasStepped code names limit b d (Ok status)
stepped_told code names limit b c d end found status safe h told found_is status_is =
    let own = own_end end code h.input h.n limit safe h.kind h.ends in
    let told' : d ≡ record c { notes = appended c.notes (ended_lines (texts (option_to_list (step_note own.by)))) } = told ∙ ap (λ n. record c { notes = appended c.notes (ended_lines (texts (option_to_list n))) }) (found_is own.by own.is) in
    let stepping = stepping_by code names limit h.input in
    let last = texts (option_to_list (step_note own.by)) in
    let lines = step_lines code names h.input h.n in
    let notes : appended c.notes (ended_lines last) ≡ appended b.notes (ended_lines (lines ++ last)) =
    ap (λ n. appended n (ended_lines last)) h.notes ∙ appended-appended b.notes (ended_lines lines) (ended_lines last) ∙ ap (λ t. appended b.notes t) (sym (ended-append lines last)) in
    record {
      input = h.input;
      fed = h.fed;
      n = h.n;
      end = own.by;
      is_run = record { ends = subst (λ e. EndsSo e code h.input step_words h.n limit) own.is h.ends; inside = h.inside; within = h.few };
      did = (status_is own.by own.is, told' ∙ (λ i. record { files = h.files i; input = h.rest i; output = h.output i; notes = notes i }));
    }

-- the run ended, and a part of that was told
pub stepped_untold : (code : PeCode) (names : List Bytes) (limit : ℕ) (b c d : Contents) (end : Ending) (found : Option Note) (stop : Stop) → IsNeverLost code → HasEnded code names limit b c end → d ≡ record c { notes = d.notes }
    → GainedPart c.notes d.notes (ended_lines (texts (option_to_list found))) → ((by : StepEnd) → end ≡ ending_of_steps by → found ≡ step_note by) → option_to_list found ≢ [] → stop ≡ Notes → HasStepped code names limit b d (Err stop)
stepped_untold code names limit b c d end found stop safe h others told found_is some stop_is =
    let own = own_end end code h.input h.n limit safe h.kind h.ends in
    let part = subst (λ n. GainedPart c.notes d.notes (ended_lines (texts (option_to_list n)))) (found_is own.by own.is) told in
    let stepping = stepping_by code names limit h.input in
    let due = stepped stepping h.n own.by in
    let last = texts (option_to_list (step_note own.by)) in
    let lines = step_lines code names h.input h.n in
    let files : d.files ≡ b.files = ap (λ (x : Contents). x.files) others ∙ h.files in
    let output : d.output ≡ appended b.output due.output = ap (λ (x : Contents). x.output) others ∙ h.output in
    record {
      input = h.input;
      fed = h.fed;
      n = h.n;
      end = own.by;
      is_run = record { ends = subst (λ e. EndsSo e code h.input step_words h.n limit) own.is h.ends; inside = h.inside; within = h.few };
      did = record {
        files = files;
        input = record { steps = h.n; within = h.few; rest = ap (λ (x : Contents). x.input) others ∙ h.rest };
        output = subst (λ o. GainedPart b.output o due.output) (sym output) (all_gained b.output due.output);
        notes = record {
          part = ended_lines lines ++ part.part;
          gained = gained_both b.notes c.notes d.notes (ended_lines lines) part.part h.notes part.gained;
          begins = record {
            rest = part.begins.rest;
            is = ended-append lines last ∙ ap (λ t. ended_lines lines ++ t) part.begins.is ∙ sym (append_assoc (ended_lines lines) part.part part.begins.rest);
          };
        };
        unchanged = λ _. files;
        whole = λ memory. absurd (let clash : Notes ≡ Memory = sym stop_is ∙ memory in cc);
        unkept = λ keep. absurd (let clash : Notes ≡ Keep = sym stop_is ∙ keep in cc);
        unread = λ input. absurd (let clash : Notes ≡ Input = sym stop_is ∙ input in cc);
        unput = λ output. absurd (let clash : Notes ≡ Output = sym stop_is ∙ output in cc);
        untold = λ _. some_behind lines last (subst (λ (n : Option Note). texts (option_to_list n) ≢ []) (found_is own.by own.is) (some_texts (option_to_list found) some));
        due_kept = λ keep. absurd (let clash : Notes ≡ Keep = sym stop_is ∙ keep in cc);
      };
    }
