-- Where work was stopped: at a file that wasn't kept, a read, or a put.
use Rattle.std.proofs.Common.{◌≡◌, ◌≢◌, ◌-◌, [], ◌∷◌, ◌++◌, sym, ap, ◌∙◌, refl, subst, inl, inr, append_assoc, Some, None}
use Rattle.std.proofs.lemmas.List.{append-nil}
use Rattle.std.specs.Prelude.{◌⊎◌}
use Rattle.std.specs.Option.{option_map}
use Rattle.std.specs.declared.option.Option.{Option}
use Rattle.fy_base.specs.Outside.{Bytes, appended, Gained}
use Rattle.fy_base.specs.declared.data.Ending.{Ending}
use Rattle.fy_base.specs.declared.data.Ending.TheVariants as ends
use Rattle.fy_world.specs.World.{Contents}
use Rattle.fy_world.specs.Runs.{Runs, Due}
use Rattle.fy_world.specs.Note.{ended_lines}
use Rattle.fy_world.specs.Did.{files_after, input_after, output_after, limit_of, lines_before, rest_after, GainedSinceRead, StopsAtRead, StopsAtPut, StopsBehind, IsUnread, IsUnput}
use Rattle.fy_world.specs.declared.world.Stop.{Stop}
use Rattle.fy_world.specs.declared.world.Stop.TheVariants.{Keep, Input, Output, Memory}
use Rattle.fy_world.proofs.Contents.{appended-nil, gained_both}

-- ---- which fault it was

-- the fault of the outside that ended a run, and the stop that tells of it
abbrev pub StoppedBy : Stop → Ending → Type 0
StoppedBy stop end = ((stop ≡ Input) × (end ≡ ends.InputFault)) ⊎ ((stop ≡ Output) × (end ≡ ends.OutputFault))

pub not_keep : (stop : Stop) (end : Ending) → StoppedBy stop end → stop ≢ Keep
not_keep stop end (inl input) = λ keep. let clash : Input ≡ Keep = sym input.0 ∙ keep in cc
not_keep stop end (inr output) = λ keep. let clash : Output ≡ Keep = sym output.0 ∙ keep in cc

pub not_memory : (stop : Stop) (end : Ending) → StoppedBy stop end → stop ≢ Memory
not_memory stop end (inl input) = λ memory. let clash : Input ≡ Memory = sym input.0 ∙ memory in cc
not_memory stop end (inr output) = λ memory. let clash : Output ≡ Memory = sym output.0 ∙ memory in cc

pub by_input : (stop : Stop) (end : Ending) → StoppedBy stop end → stop ≡ Input → end ≡ ends.InputFault
by_input stop end (inl input) is = input.1
by_input stop end (inr output) is = absurd (let clash : Output ≡ Input = sym output.0 ∙ is in cc)

pub by_output : (stop : Stop) (end : Ending) → StoppedBy stop end → stop ≡ Output → end ≡ ends.OutputFault
by_output stop end (inl input) is = absurd (let clash : Input ≡ Output = sym input.0 ∙ is in cc)
by_output stop end (inr output) is = output.1

-- no lines were told
pub none_told : (before now : Option Bytes) → now ≡ before → Gained before now []
none_told before now same = same ∙ sym (appended-nil before)

-- ---- work behind a file that was kept

-- what runs nothing of what is due but that, and what is due with it
pub record KeptBefore (due all : Due) (h c : Contents) : Type 0 where
  pub none : due.kept ≡ None
  pub output : all.output ≡ due.output
  pub rest : all.rest ≡ due.rest
  pub kept : c ≡ record h { files = files_after h.files all.kept }

files_behind : (due all : Due) (h c d : Contents) → KeptBefore due all h c → d.files ≡ files_after c.files due.kept → d.files ≡ files_after h.files all.kept
files_behind due all h c d k is = is ∙ ap (λ kept. files_after c.files kept) k.none ∙ ap (λ (x : Contents). x.files) k.kept

pub unread_behind : (running : Runs) (due all : Due) (h c d : Contents) → KeptBefore due all h c → StopsAtRead running due.kept c d [] → StopsAtRead running all.kept h d []
unread_behind running due all h c d k s = record {
  steps = s.steps;
  within = s.within;
  reads = s.reads;
  files = files_behind due all h c d k s.files;
  rest = s.rest ∙ ap (λ (x : Contents). option_map (λ _. rest_after running (s.steps - 1)) x.input) k.kept;
  output = s.output ∙ ap (λ (x : Contents). appended x.output (output_after running (s.steps - 1))) k.kept;
  notes = s.notes ∙ ap (λ (x : Contents). appended x.notes (ended_lines (lines_before running s.steps) ++ [])) k.kept;
}

put_behind : (running : Runs) (due all : Due) (h c d : Contents) → KeptBefore due all h c → StopsAtPut running due.kept c d [] → StopsAtPut running all.kept h d []
put_behind running due all h c d k s = record {
  steps = s.steps;
  within = s.within;
  puts = s.puts;
  files = files_behind due all h c d k s.files;
  rest = s.rest ∙ ap (λ (x : Contents). option_map (λ _. rest_after running s.steps) x.input) k.kept;
  output = subst (λ o. GainedSinceRead running s.steps o d.output) (ap (λ (x : Contents). x.output) k.kept) s.output;
  notes = s.notes ∙ ap (λ (x : Contents). appended x.notes (ended_lines (lines_before running s.steps) ++ [])) k.kept;
}

end_behind : (running : Runs) (due all : Due) (h c d : Contents) → KeptBefore due all h c → StopsBehind running due c d [] → StopsBehind running all h d []
end_behind running due all h c d k s = record {
  more = s.more;
  some = s.some;
  due_is = k.output ∙ s.due_is;
  files = files_behind due all h c d k s.files;
  rest = s.rest ∙ ap (λ (x : Contents). input_after x.input due.rest) k.kept ∙ ap (λ rest. input_after h.input rest) (sym k.rest);
  part = s.part;
  begins = s.begins;
  output = s.output ∙ ap (λ (x : Contents). appended x.output (output_after running (limit_of running) ++ s.part)) k.kept;
  notes = s.notes ∙ ap (λ (x : Contents). appended x.notes []) k.kept;
}

pub unput_behind : (running : Runs) (due all : Due) (h c d : Contents) → KeptBefore due all h c → IsUnput (Some running) due c d [] → IsUnput (Some running) all h d []
unput_behind running due all h c d k (inl s) = inl (put_behind running due all h c d k s)
unput_behind running due all h c d k (inr s) = inr (end_behind running due all h c d k s)

-- ---- more that is due at output

-- what is due with more behind all the output
pub record MoreDue (due all : Due) : Type 0 where
  pub more : Bytes
  pub output : all.output ≡ due.output ++ more
  pub kept : all.kept ≡ due.kept
  pub rest : all.rest ≡ due.rest

nothing_in : (x y : Bytes) → x ++ y ≡ [] → x ≡ []
nothing_in [] y is = refl
nothing_in (b ∷ x) y is = absurd (cc)

pub unput_more : (running : Runs) (due all : Due) (h c : Contents) → MoreDue due all → IsUnput (Some running) due h c [] → IsUnput (Some running) all h c []
unput_more running due all h c m (inl s) = inl (subst (λ kept. StopsAtPut running kept h c []) (sym m.kept) s)
unput_more running due all h c m (inr s) = inr (record {
  more = s.more ++ m.more;
  some = λ none. s.some (nothing_in s.more m.more none);
  due_is = m.output ∙ ap (λ b. b ++ m.more) s.due_is ∙ append_assoc (output_after running (limit_of running)) s.more m.more;
  files = s.files ∙ ap (λ kept. files_after h.files kept) (sym m.kept);
  rest = s.rest ∙ ap (λ rest. input_after h.input rest) (sym m.rest);
  part = s.part;
  begins = record { rest = s.begins.rest ++ m.more; is = ap (λ b. b ++ m.more) s.begins.is ∙ append_assoc s.part s.begins.rest m.more };
  output = s.output;
  notes = s.notes;
})

-- ---- the last line

notes_more : (b c d : Option Bytes) (told last : Bytes) → Gained b c (told ++ []) → Gained c d last → Gained b d (told ++ last)
notes_more b c d told last first next = gained_both b c d (told ++ []) last first next ∙ ap (λ t. appended b (t ++ last)) (append-nil told)

pub unkept_told : (b c d : Contents) (last : Bytes) → d ≡ record c { notes = d.notes } → Gained c.notes d.notes last → c ≡ record b { files = c.files } → d ≡ record b { files = d.files; notes = appended b.notes last }
unkept_told b c d last e told is =
    let input : d.input ≡ b.input = ap (λ (x : Contents). x.input) e ∙ ap (λ (x : Contents). x.input) is in
    let output : d.output ≡ b.output = ap (λ (x : Contents). x.output) e ∙ ap (λ (x : Contents). x.output) is in
    let notes : d.notes ≡ appended b.notes last = told ∙ ap (λ (x : Contents). appended x.notes last) is in
    λ i. record { files = d.files; input = input i; output = output i; notes = notes i }

read_told : (running : Runs) (kept : Option (Bytes × Bytes)) (b c d : Contents) (last : Bytes) → d ≡ record c { notes = d.notes } → Gained c.notes d.notes last → StopsAtRead running kept b c [] → StopsAtRead running kept b d last
read_told running kept b c d last e told s = record {
  steps = s.steps;
  within = s.within;
  reads = s.reads;
  files = ap (λ (x : Contents). x.files) e ∙ s.files;
  rest = ap (λ (x : Contents). x.input) e ∙ s.rest;
  output = ap (λ (x : Contents). x.output) e ∙ s.output;
  notes = notes_more b.notes c.notes d.notes (ended_lines (lines_before running s.steps)) last s.notes told;
}

pub unread_told : (running : Option Runs) (kept : Option (Bytes × Bytes)) (b c d : Contents) (last : Bytes) → d ≡ record c { notes = d.notes } → Gained c.notes d.notes last → IsUnread running kept b c [] → IsUnread running kept b d last
unread_told None kept b c d last e told s = absurd s
unread_told (Some running) kept b c d last e told s = read_told running kept b c d last e told s

put_told : (running : Runs) (kept : Option (Bytes × Bytes)) (b c d : Contents) (last : Bytes) → d ≡ record c { notes = d.notes } → Gained c.notes d.notes last → StopsAtPut running kept b c [] → StopsAtPut running kept b d last
put_told running kept b c d last e told s = record {
  steps = s.steps;
  within = s.within;
  puts = s.puts;
  files = ap (λ (x : Contents). x.files) e ∙ s.files;
  rest = ap (λ (x : Contents). x.input) e ∙ s.rest;
  output = subst (λ o. GainedSinceRead running s.steps b.output o) (sym (ap (λ (x : Contents). x.output) e)) s.output;
  notes = notes_more b.notes c.notes d.notes (ended_lines (lines_before running s.steps)) last s.notes told;
}

end_told : (running : Runs) (due : Due) (b c d : Contents) (last : Bytes) → d ≡ record c { notes = d.notes } → Gained c.notes d.notes last → StopsBehind running due b c [] → StopsBehind running due b d last
end_told running due b c d last e told s = record {
  more = s.more;
  some = s.some;
  due_is = s.due_is;
  files = ap (λ (x : Contents). x.files) e ∙ s.files;
  rest = ap (λ (x : Contents). x.input) e ∙ s.rest;
  part = s.part;
  begins = s.begins;
  output = ap (λ (x : Contents). x.output) e ∙ s.output;
  notes = gained_both b.notes c.notes d.notes [] last s.notes told;
}

quiet_told : (b c d : Contents) (last : Bytes) → d ≡ record c { notes = d.notes } → Gained c.notes d.notes last → c ≡ record b { output = c.output; notes = appended b.notes [] } → d ≡ record b { output = d.output; notes = appended b.notes last }
quiet_told b c d last e told is =
    let files : d.files ≡ b.files = ap (λ (x : Contents). x.files) e ∙ ap (λ (x : Contents). x.files) is in
    let input : d.input ≡ b.input = ap (λ (x : Contents). x.input) e ∙ ap (λ (x : Contents). x.input) is in
    let notes : d.notes ≡ appended b.notes last = gained_both b.notes c.notes d.notes [] last (ap (λ (x : Contents). x.notes) is) told in
    λ i. record { files = files i; input = input i; output = d.output; notes = notes i }

pub unput_told : (running : Option Runs) (due : Due) (b c d : Contents) (last : Bytes) → d ≡ record c { notes = d.notes } → Gained c.notes d.notes last → IsUnput running due b c [] → IsUnput running due b d last
unput_told None due b c d last e told s = record { some = s.some; alone = quiet_told b c d last e told s.alone }
unput_told (Some running) due b c d last e told (inl s) = inl (put_told running due.kept b c d last e told s)
unput_told (Some running) due b c d last e told (inr s) = inr (end_told running due b c d last e told s)
