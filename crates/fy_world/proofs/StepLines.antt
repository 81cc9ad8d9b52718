-- One step of push-enter code: its line, its byte or text, and what is known where it was stopped.
use Rattle.std.proofs.Common.{◌≡◌, ◌≢◌, ℕ, ◌≤◌, Bool, true, false, List, [], ◌∷◌, ◌++◌, sym, ap, ◌∙◌, refl, subst, inl, inr, Some, None}
use Rattle.std.specs.Prelude.{IsSome, IfOk, IfErr, OnOk, OnErr, is_none, unwrap_or}
use Rattle.std.specs.Option.{option_to_list}
use Rattle.std.specs.declared.option.Option.{Option}
use Rattle.std.specs.declared.result.Result.{Result}
use Rattle.std.specs.declared.result.Result.TheVariants.{Ok, Err}
use Rattle.fy_base.specs.Arithmetic.{written_text}
use Rattle.fy_base.specs.Outside.{Bytes, Drew, GainedPart, appended}
use Rattle.fy_base.specs.declared.data.Datum.{Datum}
use Rattle.fy_base.specs.declared.data.Ending.{Ending}
use Rattle.fy_base.specs.declared.data.Ending.TheVariants as ends
use Rattle.fy_base.specs.declared.data.FaultKind.{FaultKind}
use Rattle.fy_base.specs.declared.data.Place.{Place}
use Rattle.fy_base.specs.declared.data.PutKind.{PutKind}
use Rattle.fy_runs.specs.Exchange.{Outer, went, wrote, took, stopped, was_over, refused_by}
use Rattle.pe_code.specs.declared.code.PeCode.{PeCode}
use Rattle.pe_machine.specs.States.{PeState}
use Rattle.pe_machine.specs.Step.{PeMove, goes, puts, takes, faults, sticks, loses, pe_step}
use Rattle.pe_machine.specs.Run as standing
use Rattle.pe_machine.specs.Run.{going, standing_of, load_after}
use Rattle.pe_machine.specs.Seen.{Seen, Stepped, WentOn, Wrote, Waits, Halts, Refused, WasOver, IsFurther, address_of, given, went_on_with}
use Rattle.pe_machine.proofs.Ending.{went_by, put_by, waits_by, halts_by, went_further, took_further}
use Rattle.pe_machine.specs.declared.events.PeEvent.{PeEvent}
use Rattle.pe_machine.specs.declared.events.PeEvent.TheVariants as event
use Rattle.fy_world.specs.World.{Contents}
use Rattle.fy_world.specs.Steps.{step_text}
use Rattle.fy_world.specs.Stepping.{Exchanged, StepPart, Turned, TurnStopped, noted, outer_of, step_line, text_of, text_put}
use Rattle.fy_world.specs.declared.world.Stop.{Stop}
use Rattle.fy_world.specs.declared.world.Stop.TheVariants.{Keep, Input, Output, Notes, Memory}
use Rattle.fy_world.proofs.Contents.{nothing, all_gained}
use Rattle.fy_world.proofs.Keeping.{none_gained}
use Rattle.fy_world.proofs.Stopping.{none_told}

-- ---- lines

-- memory was wanting before anything was put
pub none_put : (line text : Bytes) (b : Contents) → StepPart line text b b Memory
none_put line text b = record { files = refl; input = refl; output = nothing b.output text; notes = nothing b.notes line; whole = λ _. inl refl; first = λ notes memory. absurd (memory refl); other = λ clash. cc }

-- a line was put
pub line_told : {T E : Type 0} (result : Result T E) (b c : Contents) (put line : Bytes) → put ≡ line → OnOk result (c ≡ record b { notes = appended b.notes put }) → OnOk result (c ≡ record b { notes = appended b.notes line })
line_told result b c put line is told = subst (λ (bytes : Bytes). OnOk result (c ≡ record b { notes = appended b.notes bytes })) is told

-- or a part of it
pub line_part : {T : Type 0} (result : Result T Stop) (b c : Contents) (put line : Bytes) → put ≡ line → c ≡ record b { notes = c.notes } → OnErr result (GainedPart b.notes c.notes put) → IfErr result (λ stop. stop ≡ Notes)
    → IfErr result (StepPart line [] b c)
line_part (Ok x) b c put line is rest part stop = tt
line_part (Err s) b c put line is rest part stop = record {
  files = ap (λ (x : Contents). x.files) rest;
  input = ap (λ (x : Contents). x.input) rest;
  output = subst (λ o. GainedPart b.output o []) (sym (ap (λ (x : Contents). x.output) rest)) (nothing b.output []);
  notes = subst (λ (bytes : Bytes). GainedPart b.notes c.notes bytes) is part;
  whole = λ memory. absurd (let clash : Notes ≡ Memory = sym stop ∙ memory in cc);
  first = λ notes memory. absurd (notes stop);
  other = λ keep. let clash : Notes ≡ Keep = sym stop ∙ keep in cc;
}

-- ---- a datum

-- its text is what it is
text_is : (kind : PutKind) (v : Datum) (text : Bytes) → written_text kind v ≡ Some text → text_of kind v ≡ text
text_is kind v text is = ap (λ o. unwrap_or o []) is

pub datum_put : {T E : Type 0} (result : Result T E) (kind : PutKind) (v : Datum) (b c : Contents) (put text : Bytes) → put ≡ text → Some text ≡ written_text kind v → OnOk result (c ≡ record b { output = appended b.output put })
    → OnOk result (c ≡ record b { output = appended b.output (text_of kind v) })
datum_put result kind v b c put text is written told = subst (λ (bytes : Bytes). OnOk result (c ≡ record b { output = appended b.output bytes })) (is ∙ sym (text_is kind v text (sym written))) told

pub datum_part : {T : Type 0} (result : Result T Stop) (kind : PutKind) (v : Datum) (b c : Contents) (put text : Bytes) → put ≡ text → Some text ≡ written_text kind v → c ≡ record b { output = c.output } → OnErr result (GainedPart b.output c.output put)
    → IfErr result (λ stop. stop ≡ Output) → IfErr result (StepPart [] (text_of kind v) b c)
datum_part (Ok x) kind v b c put text is written rest part stop = tt
datum_part (Err s) kind v b c put text is written rest part stop = record {
  files = ap (λ (x : Contents). x.files) rest;
  input = ap (λ (x : Contents). x.input) rest;
  output = subst (λ (bytes : Bytes). GainedPart b.output c.output bytes) (is ∙ sym (text_is kind v text (sym written))) part;
  notes = subst (λ n. GainedPart b.notes n []) (sym (ap (λ (x : Contents). x.notes) rest)) (nothing b.notes []);
  whole = λ memory. absurd (let clash : Output ≡ Memory = sym stop ∙ memory in cc);
  first = λ notes memory. none_told b.notes c.notes (ap (λ (x : Contents). x.notes) rest);
  other = λ keep. let clash : Output ≡ Keep = sym stop ∙ keep in cc;
}

-- a datum of the kind has a text
pub some_text : (o : Option Bytes) → IsSome o → None ≡ o → ⊥
some_text None some none = let clash : false ≡ true = some in cc
some_text (Some text) some none = cc

-- ---- a line, and then a text or a byte

-- a line was stopped before the text
pub line_stopped : (line text : Bytes) (b c : Contents) (stop : Stop) → StepPart line [] b c stop → StepPart line text b c stop
line_stopped line text b c stop p = record {
  files = p.files;
  input = p.input;
  output = subst (λ o. GainedPart b.output o text) (sym (none_gained b.output c.output p.output)) (nothing b.output text);
  notes = p.notes;
  whole = p.whole;
  first = p.first;
  other = p.other;
}

-- the text was stopped behind the line
pub text_stopped : (line text : Bytes) (b c d : Contents) (stop : Stop) → c ≡ record b { notes = appended b.notes line } → StepPart [] text c d stop → StepPart line text b d stop
text_stopped line text b c d stop told p =
    let notes : d.notes ≡ appended b.notes line = none_gained c.notes d.notes p.notes ∙ ap (λ (x : Contents). x.notes) told in
    record {
      files = p.files ∙ ap (λ (x : Contents). x.files) told;
      input = p.input ∙ ap (λ (x : Contents). x.input) told;
      output = subst (λ o. GainedPart o d.output text) (ap (λ (x : Contents). x.output) told) p.output;
      notes = subst (λ n. GainedPart b.notes n line) (sym notes) (all_gained b.notes line);
      whole = λ _. inr notes;
      first = λ _ _. notes;
      other = p.other;
    }

-- the text was put behind the line
pub text_told : (line text : Bytes) (b c d : Contents) → c ≡ record b { notes = appended b.notes line } → d ≡ record c { output = appended c.output text } → d ≡ record b { output = appended b.output text; notes = appended b.notes line }
text_told line text b c d told put = put ∙ ap (λ (x : Contents). record { files = x.files; input = x.input; output = appended x.output text; notes = x.notes }) told

-- a byte was taken behind the line
pub byte_told : {T E : Type 0} (result : Result T E) (line : Bytes) (b c d : Contents) → c ≡ record b { notes = appended b.notes line } → d ≡ record c { input = d.input } → OnOk result (d ≡ record b { input = d.input; notes = appended b.notes line })
byte_told (Ok x) line b c d told rest = rest ∙ ap (λ (x : Contents). record { files = x.files; input = d.input; output = x.output; notes = x.notes }) told
byte_told (Err e) line b c d told rest = tt

-- or it wasn't
pub byte_stopped : {T : Type 0} (result : Result T Stop) (line : Bytes) (b c d : Contents) → c ≡ record b { notes = appended b.notes line } → OnErr result (d ≡ c) → IfErr result (λ stop. stop ≡ Input) → IfErr result (StepPart line [] b d)
byte_stopped (Ok x) line b c d told none stop = tt
byte_stopped (Err s) line b c d told none stop =
    let P : Contents → Type 0 = λ x. StepPart line [] b x s in
    subst P (sym (none ∙ told)) (record {
      files = refl;
      input = refl;
      output = nothing b.output [];
      notes = all_gained b.notes line;
      whole = λ _. inr refl;
      first = λ _ _. refl;
      other = λ keep. let clash : Input ≡ Keep = sym stop ∙ keep in cc;
    })

-- what was drawn behind the line
pub byte_drawn : {E : Type 0} (result : Result (Option ℕ) E) (line : Bytes) (b c d : Contents) (over over' : Bool) → c ≡ record b { notes = appended b.notes line } → IfOk result (λ byte. Drew c.input d.input over over' (option_to_list byte))
    → IfOk result (λ byte. Drew b.input d.input over over' (option_to_list byte))
byte_drawn result line b c d over over' told drew = subst (λ (left : Option Bytes). IfOk result (λ byte. Drew left d.input over over' (option_to_list byte))) (ap (λ (x : Contents). x.input) told) drew

-- ---- steps

-- the line of the step from a state
line_is : (code : PeCode) (names : List Bytes) (old : Seen) (address : Option ℕ) → address ≡ address_of old.state.focus → step_text code names address ++ 10 ∷ [] ≡ step_line code names old.state
line_is code names old address is = ap (λ a. step_text code names a ++ 10 ∷ []) is

-- a step whose line alone was told, behind which the run goes on or ends so
pub turned_told : (result : Result (Option Ending) Stop) (end : Option Ending) (code : PeCode) (names : List Bytes) (old new : Seen) (over : Bool) (b c : Contents) (address : Option ℕ) → address ≡ address_of old.state.focus
    → ((o u : Outer) → u ≡ o → Exchanged code old new o u end) → (end ≡ None → IsFurther old new) → ((notes : Option Bytes) (line : Bytes) → noted end notes line ≡ appended notes line) → IfOk result (λ given. given ≡ end)
    → OnOk result (c ≡ record b { notes = appended b.notes (step_text code names address ++ 10 ∷ []) }) → IfOk result (Turned code names old new over over b c)
turned_told (Err stop) end code names old new over b c address is exchange further lines given told = tt
turned_told (Ok x) end code names old new over b c address is exchange further lines given told =
    let P : Option Ending → Type 0 = λ e. Turned code names old new over over b c e in
    subst P (sym given) (record {
      exchange = exchange (outer_of over b) (outer_of over c) (ap (λ y. outer_of over y) told);
      further = further;
      files = ap (λ (y : Contents). y.files) told;
      notes = ap (λ (y : Contents). y.notes) told ∙ ap (λ l. appended b.notes l) (line_is code names old address is) ∙ sym (lines b.notes (step_line code names old.state));
    })

-- a step that put a text
pub turned_put : (result : Result (Option Ending) Stop) (code : PeCode) (names : List Bytes) (old new : Seen) (over : Bool) (b c : Contents) (address : Option ℕ) (kind : PutKind) (v : Datum) → address ≡ address_of old.state.focus
    → Wrote kind v (pe_step code old.state) old new → IfOk result (λ given. given ≡ None)
    → OnOk result (c ≡ record b { output = appended b.output (text_of kind v); notes = appended b.notes (step_text code names address ++ 10 ∷ []) }) → IfOk result (Turned code names old new over over b c)
turned_put (Err stop) code names old new over b c address kind v is wrote_it given told = tt
turned_put (Ok x) code names old new over b c address kind v is wrote_it given told =
    let P : Option Ending → Type 0 = λ e. Turned code names old new over over b c e in
    let output : c.output ≡ appended b.output wrote_it.text = ap (λ (y : Contents). y.output) told ∙ ap (λ t. appended b.output t) (text_is kind v wrote_it.text wrote_it.text_is) in
    subst P (sym given) (record {
      exchange = wrote wrote_it.text (put_by code old new wrote_it.text wrote_it.went) (ap (λ (y : Contents). y.input) told) refl output;
      further = λ _. went_further _ _ old new wrote_it.went;
      files = ap (λ (y : Contents). y.files) told;
      notes = ap (λ (y : Contents). y.notes) told ∙ ap (λ l. appended b.notes l) (line_is code names old address is);
    })

-- a step that took a byte
pub turned_take : (byte : Option ℕ) (code : PeCode) (names : List Bytes) (old mid new : Seen) (over over' : Bool) (b c : Contents) (address : Option ℕ) → address ≡ address_of old.state.focus → Waits (pe_step code old.state) old mid
    → new ≡ went_on_with byte mid → Drew b.input c.input over over' (option_to_list byte) → over' ≡ is_none byte → c ≡ record b { input = c.input; notes = appended b.notes (step_text code names address ++ 10 ∷ []) }
    → Turned code names old new over over' b c None
turned_take byte code names old mid new over over' b c address is waits next drew none told = record {
  exchange = took byte (given mid.state) (waits_by code old mid waits) (ap (λ (y : Seen). y.state) next) drew none (ap (λ (y : Contents). y.output) told);
  further = λ _. took_further byte _ old mid new waits next;
  files = ap (λ (y : Contents). y.files) told;
  notes = ap (λ (y : Contents). y.notes) told ∙ ap (λ l. appended b.notes l) (line_is code names old address is);
}

-- no step was made
pub turned_none : (end : Ending) (code : PeCode) (names : List Bytes) (old new : Seen) (over : Bool) (b : Contents) → ((o u : Outer) → u ≡ o → Exchanged code old new o u (Some end)) → noted (Some end) b.notes (step_line code names old.state) ≡ b.notes
    → Turned code names old new over over b b (Some end)
turned_none end code names old new over b exchange none = record { exchange = exchange (outer_of over b) (outer_of over b) refl; further = λ clash. cc; files = refl; notes = sym none }

pub went_so : (code : PeCode) (old new : Seen) → WentOn (pe_step code old.state) (goes new.state) old new → (o u : Outer) → u ≡ o → Exchanged code old new o u None
went_so code old new on o u same = went (went_by code old new on) same

pub faulted_so : (code : PeCode) (old new : Seen) (kind : FaultKind) (at : Place) → Halts (pe_step code old.state) (faults kind at) old new → (o u : Outer) → u ≡ o → Exchanged code old new o u (Some (ends.Fault kind at))
faulted_so code old new kind at halts o u same = stopped (standing.faulted kind at) old.state (halts_by code (faults kind at) old new refl halts) same

pub stuck_so : (code : PeCode) (old new : Seen) → Halts (pe_step code old.state) sticks old new → (o u : Outer) → u ≡ o → Exchanged code old new o u (Some ends.Stuck)
stuck_so code old new halts o u same = stopped standing.stuck old.state (halts_by code sticks old new refl halts) same

pub lost_so : (code : PeCode) (old new : Seen) → Halts (pe_step code old.state) loses old new → (o u : Outer) → u ≡ o → Exchanged code old new o u (Some ends.Gone)
lost_so code old new halts o u same = stopped standing.gone old.state (halts_by code loses old new refl halts) same

pub over_so : (code : PeCode) (old new : Seen) → WasOver old new → (o u : Outer) → u ≡ o → Exchanged code old new o u (Some ends.Ended)
over_so code old new over o u same = was_over standing.ended over.over same

pub refused_so : (code : PeCode) (old new : Seen) → Refused (pe_step code old.state) old new → (o u : Outer) → u ≡ o → Exchanged code old new o u (Some ends.Exhausted)
refused_so code old new big o u same = refused_by big.going big.passes same

-- ---- steps that were stopped

-- a step that is one of the run, whatever was put of it
abbrev IsBegun : PeCode → Seen → Type 0
IsBegun code old = (standing_of old.state ≡ going) × (load_after (pe_step code old.state) ≤ old.limit)

pub went_made : (code : PeCode) (old new : Seen) → WentOn (pe_step code old.state) (goes new.state) old new → IsBegun code old
went_made code old new on = let made = went_by code old new on in (made.going, made.inside)

pub wrote_made : (code : PeCode) (old new : Seen) (kind : PutKind) (v : Datum) → Wrote kind v (pe_step code old.state) old new → IsBegun code old
wrote_made code old new kind v w = let made = put_by code old new w.text w.went in (made.going, made.inside)

pub waits_made : (code : PeCode) (old new : Seen) → Waits (pe_step code old.state) old new → IsBegun code old
waits_made code old new waits = let made = waits_by code old new waits in (made.going, made.inside)

pub halts_made : (code : PeCode) (old new : Seen) (m : PeMove) → load_after m ≡ 0 → Halts (pe_step code old.state) m old new → IsBegun code old
halts_made code old new m none halts = let made = halts_by code m old new none halts in (made.going, made.inside)

-- the line was stopped, or the text behind it
stopped_at : (code : PeCode) (names : List Bytes) (old : Seen) (b c : Contents) (stop : Stop) (address : Option ℕ) (text : Bytes) → address ≡ address_of old.state.focus → IsBegun code old → text ≡ text_put (pe_step code old.state)
    → StepPart (step_text code names address ++ 10 ∷ []) text b c stop → (stop ≡ Input → (go : Option ℕ → PeState) × (pe_step code old.state ≡ takes go))
    → (stop ≡ Output → (put : Bytes) × (next : PeState) × (pe_step code old.state ≡ puts put next)) → TurnStopped code names old b c stop
stopped_at code names old b c stop address text is made text_is part asks put =
    let P : Bytes → Type 0 = λ line. StepPart line (text_put (pe_step code old.state)) b c stop in
    let Q : Bytes → Type 0 = λ t. StepPart (step_text code names address ++ 10 ∷ []) t b c stop in
    record { going = made.0; inside = made.1; part = subst P (line_is code names old address is) (subst Q text_is part); asks = asks; puts = put }

pub stopped_told : (result : Result (Option Ending) Stop) (code : PeCode) (names : List Bytes) (old : Seen) (b c : Contents) (address : Option ℕ) → address ≡ address_of old.state.focus → IsBegun code old → IfErr result (StepPart (step_text code names address ++ 10 ∷ []) [] b c)
    → IfErr result (λ stop. stop ≢ Input) → IfErr result (λ stop. stop ≢ Output) → IfErr result (TurnStopped code names old b c)
stopped_told (Ok x) code names old b c address is made part other unput = tt
stopped_told (Err stop) code names old b c address is made part other unput =
    stopped_at code names old b c stop address (text_put (pe_step code old.state)) is made refl (line_stopped (step_text code names address ++ 10 ∷ []) (text_put (pe_step code old.state)) b c stop part) (λ input. absurd (other input)) (λ output. absurd (unput output))

pub stopped_put : (result : Result (Option Ending) Stop) (code : PeCode) (names : List Bytes) (old new : Seen) (b c : Contents) (address : Option ℕ) (kind : PutKind) (v : Datum) → address ≡ address_of old.state.focus
    → Wrote kind v (pe_step code old.state) old new → IfErr result (StepPart (step_text code names address ++ 10 ∷ []) (text_of kind v) b c) → IfErr result (λ stop. stop ≢ Input) → IfErr result (TurnStopped code names old b c)
stopped_put (Ok x) code names old new b c address kind v is w part other = tt
stopped_put (Err stop) code names old new b c address kind v is w part other =
    stopped_at code names old b c stop address (text_of kind v) is (wrote_made code old new kind v w) (text_is kind v w.text w.text_is ∙ sym (ap text_put w.went.move_is)) part (λ input. absurd (other input)) (λ _. (w.text, new.state, w.went.move_is))

pub stopped_take : (code : PeCode) (names : List Bytes) (old mid : Seen) (b c : Contents) (stop : Stop) (address : Option ℕ) → address ≡ address_of old.state.focus → Waits (pe_step code old.state) old mid
    → StepPart (step_text code names address ++ 10 ∷ []) [] b c stop → stop ≢ Output → TurnStopped code names old b c stop
stopped_take code names old mid b c stop address is waits part unput =
    stopped_at code names old b c stop address [] is (waits_made code old mid waits) (sym (ap text_put waits.move_is)) part (λ _. (given mid.state, waits.move_is)) (λ output. absurd (unput output))

-- ---- the last step

-- a state where a step was made was going on
pub not_ended : (e : PeEvent) (code : PeCode) (old new : Seen) → e ≢ event.Ended → Stepped e code old new → standing_of old.state ≡ going
not_ended event.Going code old new other on = on.going
not_ended (event.Put kind v) code old new other w = w.went.going
not_ended event.WantByte code old new other waits = waits.going
not_ended event.Ended code old new other over = absurd (other refl)
not_ended (event.Fault kind at) code old new other halts = halts.going
not_ended event.Exhausted code old new other big = big.going
not_ended event.Gone code old new other halts = halts.going
not_ended event.Stuck code old new other halts = halts.going
