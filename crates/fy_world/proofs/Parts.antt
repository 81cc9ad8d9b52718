-- Doing what is due, or a part of it.
use Rattle.std.proofs.Common.{◌≡◌, ◌≢◌, ℕ, List, [], sym, ap, ◌∙◌, refl, subst, Some, None, Ok, Err}
use Rattle.std.specs.declared.option.Option.{Option}
use Rattle.std.specs.FinMap.{get}
use Rattle.fy_base.specs.Outside.{Bytes, Folder, GainedPart, appended, Tells}
use Rattle.fy_world.specs.World.{Contents}
use Rattle.fy_world.specs.Note.{texts, ended_lines}
use Rattle.fy_world.specs.declared.note.Note.{Note}
use Rattle.fy_world.specs.declared.world.Stop.{Stop}
use Rattle.fy_world.specs.declared.world.Stop.TheVariants.{Keep, Input, Output, Notes, Memory}
use Rattle.fy_world.specs.Counted.{IsReadStop}
use Rattle.fy_world.specs.Runs.{Due, told, written}
use Rattle.fy_world.specs.Did.{after_all, Part, Did}
use Rattle.fy_world.proofs.Contents.{appended-nil, nothing}
use Rattle.fy_world.proofs.Counting.{read_stop_only}
use Rattle.fy_world.proofs.Lines.{some_texts}

-- what a file has, if it has anything
pub content_of : (held : Option Folder) (name : Bytes) → (content : Option Bytes) × Tells held name content
content_of None name = (None, λ folder e. cc)
content_of (Some m) name = (get m name, λ folder e. let same : folder ≡ m = cc in ap (λ m. get m name) same)

-- nothing was done, and nothing was due
pub part_none : (c : Contents) (stop : Stop) → IsReadStop stop → Part (told 7 []) c c stop
part_none c stop is = record {
  files = refl;
  input = refl;
  output = nothing c.output [];
  notes = nothing c.notes [];
  unchanged = λ _. refl;
  whole = λ _. record { count = 0; gained = sym (appended-nil c.notes) };
  unkept = λ keep. refl;
  unread = λ input. absurd (read_stop_only stop Input is (λ clash. cc) (λ clash. cc) input);
  unput = λ output. absurd (read_stop_only stop Output is (λ clash. cc) (λ clash. cc) output);
  untold = λ notes. absurd (read_stop_only stop Notes is (λ clash. cc) (λ clash. cc) notes);
  due_kept = λ keep. absurd (read_stop_only stop Keep is (λ clash. cc) (λ clash. cc) keep);
}

-- all but the notes was done
abbrev pub but_notes : Due → Contents → Contents
but_notes due b = record (after_all due b) { notes = b.notes }

-- and then the notes, or a part of them
pub tell_all : (due : Due) (b c d : Contents) → c ≡ but_notes due b → d ≡ record c { notes = appended c.notes (ended_lines due.notes) } → d ≡ after_all due b
tell_all due b c d h k = k ∙ ap (λ (c : Contents). record { files = c.files; input = c.input; output = c.output; notes = appended c.notes (ended_lines due.notes) }) h

-- ---- what is written

pub written_put : (b c : Contents) (bytes : Bytes) (status : ℕ) → status ≡ 0 → c ≡ record b { output = appended b.output bytes } → Did (written bytes) b c (Ok status)
written_put b c bytes status none_is put = (
  none_is,
  put ∙ (λ i. record { files = b.files; input = b.input; output = appended b.output bytes; notes = sym (appended-nil b.notes) i }),
)

-- where there are no bytes, nothing is
pub written_none : (b : Contents) (bytes : Bytes) (status : ℕ) → status ≡ 0 → bytes ≡ [] → Did (written bytes) b b (Ok status)
written_none b bytes status none_is none = written_put b b bytes status none_is (ap (λ o. record b { output = o }) (sym (appended-nil b.output)) ∙ ap (λ (x : Bytes). record b { output = appended b.output x }) (sym none))

pub written_part : (b c : Contents) (bytes : Bytes) (stop : Stop) → bytes ≢ [] → c ≡ record b { output = c.output } → GainedPart b.output c.output bytes → stop ≡ Output → Did (written bytes) b c (Err stop)
written_part b c bytes stop some rest part stop_is = record {
  files = ap (λ (x : Contents). x.files) rest;
  input = ap (λ (x : Contents). x.input) rest;
  output = part;
  notes = subst (λ n. GainedPart b.notes n []) (sym (ap (λ (x : Contents). x.notes) rest)) (nothing b.notes []);
  unchanged = λ _. ap (λ (x : Contents). x.files) rest;
  whole = λ memory. let clash : Output ≡ Memory = sym stop_is ∙ memory in absurd cc;
  unkept = λ keep. let clash : Output ≡ Keep = sym stop_is ∙ keep in absurd cc;
  unread = λ input. let clash : Output ≡ Input = sym stop_is ∙ input in absurd cc;
  unput = λ output. record { some = some; alone = rest ∙ ap (λ n. record b { output = c.output; notes = n }) (sym (appended-nil b.notes)) };
  untold = λ notes. let clash : Output ≡ Notes = sym stop_is ∙ notes in absurd cc;
  due_kept = λ keep. let clash : Output ≡ Keep = sym stop_is ∙ keep in absurd cc;
}

-- ---- what notes tell, and nothing else

pub told_part : (status : ℕ) (notes : List Note) (b c : Contents) (stop : Stop) → notes ≢ [] → c ≡ record b { notes = c.notes } → GainedPart b.notes c.notes (ended_lines (texts notes)) → stop ≡ Notes → Did (told status notes) b c (Err stop)
told_part status notes b c stop some rest part stop_is = record {
  files = ap (λ (x : Contents). x.files) rest;
  input = ap (λ (x : Contents). x.input) rest;
  output = subst (λ o. GainedPart b.output o []) (sym (ap (λ (x : Contents). x.output) rest)) (nothing b.output []);
  notes = part;
  unchanged = λ _. ap (λ (x : Contents). x.files) rest;
  whole = λ memory. let clash : Notes ≡ Memory = sym stop_is ∙ memory in absurd cc;
  unkept = λ keep. let clash : Notes ≡ Keep = sym stop_is ∙ keep in absurd cc;
  unread = λ input. let clash : Notes ≡ Input = sym stop_is ∙ input in absurd cc;
  unput = λ output. let clash : Notes ≡ Output = sym stop_is ∙ output in absurd cc;
  untold = λ _. some_texts notes some;
  due_kept = λ keep. let clash : Notes ≡ Keep = sym stop_is ∙ keep in absurd cc;
}
