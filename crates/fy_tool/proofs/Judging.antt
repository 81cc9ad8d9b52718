-- From what judging a derivation came to, to what is due for `judge`, and what writing lines below a note did.
use Rattle.std.proofs.Common.{◌≡◌, ◌≢◌, ◌∙◌, ℕ, ◌<◌, ◌≤◌, List, [], ◌∷◌, length, sym, ap, refl, subst, false, Some, None, Ok, Err}
use Rattle.std.specs.Prelude.{IfOk}
use Rattle.std.specs.declared.option.Option.{Option}
use Rattle.std.specs.declared.result.Result.{Result}
use Rattle.fy_base.specs.Outside.{Bytes, FileCalls, Folder, GainedPart, Tells, appended, once_fetched}
use Rattle.fy_phrase.specs.Reads.{reads}
use Rattle.fy_phrase.specs.Tree.{Tree, place_of}
use Rattle.fy_phrase.specs.declared.shapes.ShapeTable.{ShapeTable}
use Rattle.fy_expand.specs.Judged.{IsJudged, expanded}
use Rattle.fy_derive.specs.Derivations.{PlainDerivation}
use Rattle.fy_derive.specs.Judging.{conclusion_of, refusal}
use Rattle.fy_derive.specs.Limits.{KeepsLimits}
use Rattle.fy_derive.specs.Reading.{plain_derivation}
use Rattle.fy_derive.specs.declared.derivation.Derivation.{Derivation}
use Rattle.fy_reasons.specs.Reasons.{Stop as PlainStop, reason_of}
use Rattle.fy_read.specs.declared.error.ReadError.{ReadError}
use Rattle.fy_read.specs.declared.error.ReadError.TheVariants.{BadText, TooLarge, TooDeep, OutOfMemory}
use Rattle.fy_show.specs.Entries.{Known}
use Rattle.fy_show.specs.declared.binders.Binder.{Binder}
use Rattle.fy_told.specs.ReasonTexts.{source_names, told_of}
use Rattle.fy_words.specs.Order.{judge}
use Rattle.fy_world.specs.World.{Contents, Counts}
use Rattle.fy_world.specs.Note.{ended_lines, read_note, texts}
use Rattle.fy_world.specs.Did.{Did}
use Rattle.fy_world.specs.declared.note.Note.{Note}
use Rattle.fy_world.specs.declared.note.Note.TheVariants as note
use Rattle.fy_world.specs.declared.world.Stop.{Stop}
use Rattle.fy_world.specs.declared.world.Stop.TheVariants.{Keep, Input, Output, Notes, Memory}
use Rattle.fy_world.proofs.Contents.{appended-nil, all_gained, nothing}
use Rattle.fy_world.proofs.Parts.{content_of}
use Rattle.fy_front.specs.declared.refusal.Refusal.{Refusal}
use Rattle.fy_front.specs.declared.texts.Core.{Core}
use Rattle.fy_front.specs.Checked.{IsCore, IsUnjudged}
use Rattle.fy_tool.specs.Given.{HasBinders, IsStoppedAt, handed, unread, too_long, before_typing, by_derivation, by_shapes}
use Rattle.fy_tool.specs.Due.{accepted as accepted_due, judges, lined, misjudges, tells_lines}
use Rattle.fy_tool.specs.Answers.{Serves}
use Rattle.fy_tool.specs.Fetched.{HasFetched}
use Rattle.fy_tool.specs.Working.{HasWritten, IsGivenInUse, Judges, JudgesFor, JudgesUnder, JudgesWritten, ReadFrom, Tables, WasJudged}
use Rattle.fy_tool.specs.declared.judge.Judgement.{Judgement}
use Rattle.fy_tool.specs.declared.judge.Judgement.TheVariants.{Accepted, Down, Stopped}
use Rattle.fy_tool.proofs.Derived.{spells-after, file_fetched, spells}
use Rattle.fy_tool.proofs.ImageCommands.{both}
use Rattle.fy_tool.proofs.Serving.{After, done_quietly}

-- a text with a core phrase isn't too long
pub judged_short : (text : Bytes) (p : Tree) → IsJudged text (Ok p) → length text ≤ 1048576
judged_short text p (expanded has allowed is) = has.short

-- ---- what judging comes to

-- a derivation that is accepted, with a table within the limits
pub judged_in_use : (p : Tree) (d : PlainDerivation) (table : ShapeTable) → refusal (conclusion_of p d) ≡ None → KeepsLimits d → Tables p d (Ok table) → JudgesFor p d Accepted
judged_in_use p d table accepted limits tabled = λ text name written is spelled. record {
  p = p;
  d = d;
  given = handed name written is spelled;
  used = record { accepted = accepted; within = limits; table = table; just = tabled.0; limits = tabled.1 };
}

-- one whose shapes pass a limit
pub judged_passing : (p : Tree) (d : PlainDerivation) (why : Refusal) → refusal (conclusion_of p d) ≡ None → Tables p d (Err why) → JudgesFor p d (Down (record { status = 2; note = note.Refused why }))
judged_passing p d why accepted passed = λ text name written is spelled. (by_shapes name written p d passed.0 why is spelled accepted passed.1 passed.2, refl)

-- one at a node of which judging stops
pub judged_stopped : (text : Bytes) (names : List Bytes) (p : Tree) (d : PlainDerivation) (node : ℕ) (binders : List Binder) (lines : Bytes) → refusal (conclusion_of p d) ≡ Some node → HasBinders text (place_of p) binders
    → lines ≡ told_of (source_names names binders) d p (reason_of d p) → JudgesUnder text names p d (Stopped node lines)
judged_stopped text names p d node binders lines stops named are = λ name written is spelled same. record {
  p = p;
  is_judged = is;
  d = d;
  spelled = spelled;
  stops = stops;
  binders = binders;
  named = named;
  lines_are = are ∙ ap (λ (ns : List Bytes). told_of (source_names ns binders) d p (reason_of d p)) (sym same);
}

-- of a text that has no core phrase
pub judged_unread : (text : Bytes) (names : List Bytes) (p : Tree) (d : PlainDerivation) (why : Refusal) → IsUnjudged text why → JudgesUnder text names p d (Down (record { status = 2; note = note.Refused why }))
judged_unread text names p d why none = λ name written is spelled same. (before_typing name (Some written) none.cause why none.is_judged none.told, refl)

some_same : (a b : Note) → Some a ≡ Some b → a ≡ b
some_same a b e = cc

-- what is told of a text that is no derivation's has no lines below it
read_silent : (name : Bytes) (error : ReadError) (why : Note) → read_note error ≡ Some why → tells_lines (judge name name) why ≡ false
read_silent name (BadText k) why e = subst (λ w. tells_lines (judge name name) w ≡ false) (some_same (note.DerivationText k) why e) refl
read_silent name TooLarge why e = subst (λ w. tells_lines (judge name name) w ≡ false) (some_same note.DerivationSize why e) refl
read_silent name TooDeep why e = subst (λ w. tells_lines (judge name name) w ≡ false) (some_same note.DerivationDeep why e) refl
read_silent name OutOfMemory why e = absurd cc

pub judged_no_text : (text written : Bytes) (core : Core) (after : List Bytes) (why : Note) → length written ≤ 16777216 → IsCore text core → ReadFrom core.names after written (Err why)
    → JudgesWritten text written (Down (record { status = 8; note = why }))
judged_no_text text written core after why short is read = λ name.
    (by_derivation name written (reads core.phrase) why is.is_judged (unread read.0 why short read.1 read.2), read_silent name read.0 why read.2)

-- what was read
pub judged_for : (text written : Bytes) (core : Core) (after : List Bytes) (d : Derivation) (found : Judgement) → length written ≤ 16777216 → IsCore text core → ReadFrom core.names after written (Ok d)
    → JudgesFor (reads core.phrase) (plain_derivation d) found → JudgesWritten text written found
judged_for text written core after d found short is read judged = λ name.
    judged text name written is.is_judged (spells text written core after (plain_derivation d) short is read.0 read.1 read.2)

pub judged_under : (text written : Bytes) (core : Core) (after : List Bytes) (d : Derivation) (found : Judgement) → length written ≤ 16777216 → IsCore text core → ReadFrom core.names after written (Ok d)
    → JudgesUnder text after (reads core.phrase) (plain_derivation d) found → JudgesWritten text written found
judged_under text written core after d found short is read judged = λ name.
    judged name written is.is_judged (spells text written core after (plain_derivation d) short is read.0 read.1 read.2) (spells-after text written core after (plain_derivation d) short is read.0 read.1 read.2)

-- ---- files

-- the text has no core phrase
pub judged_no_core : (file name : Bytes) (files : Option Folder) (e e1 : FileCalls) (text : Bytes) (why : Refusal) → Tells files file (Some text) → e1 ≡ once_fetched e → IsUnjudged text why
    → WasJudged file name files e e1 (Down (record { status = 2; note = note.Refused why }))
judged_no_core file name files e e1 text why told once is =
    let named = content_of files name in
    record {
      text = text;
      told = told;
      derivation = named.0;
      told_named = named.1;
      called = file_fetched file (Some name) (Some text) e e1 once;
      is = (before_typing name named.0 is.cause why is.is_judged is.told, refl);
    }

-- too many bytes are written
pub judged_long : (file name : Bytes) (files : Option Folder) (e e1 : FileCalls) (text written : Bytes) (core : Core) → Tells files file (Some text) → Tells files name (Some written) → IsCore text core
    → HasFetched (Some file) (Some name) (Some text) [] e e1 → 16777216 < length written → WasJudged file name files e e1 (Down (record { status = 8; note = note.DerivationLength }))
judged_long file name files e e1 text written core told told_named is fetched longer = record {
  text = text;
  told = told;
  derivation = Some written;
  told_named = told_named;
  called = fetched;
  is = (by_derivation name written (reads core.phrase) note.DerivationLength is.is_judged (too_long longer), refl);
}

pub judged_both : (file name : Bytes) (files : Option Folder) (e e1 : FileCalls) (text written : Bytes) (result : Result Judgement Stop) → Tells files file (Some text) → Tells files name (Some written)
    → HasFetched (Some file) (Some name) (Some text) [] e e1 → IfOk result (JudgesWritten text written) → Judges file name files e e1 result
judged_both file name files e e1 text written (Ok found) told told_named fetched judged = record { text = text; told = told; derivation = Some written; told_named = told_named; called = fetched; is = judged name }
judged_both file name files e e1 text written (Err stop) told told_named fetched judged = tt

-- ---- lines

some_begins : (b : ℕ) (rest : Bytes) → b ∷ rest ≢ []
some_begins b rest = λ e. cc

-- there are lines
told_some : (k : Known) (d : PlainDerivation) (p : Tree) (o : Option PlainStop) → told_of k d p o ≢ []
told_some k d p None = some_begins 97 _
told_some k d p (Some s) = some_begins 32 _

pub stopped_some : (text : Bytes) (derivation : Option Bytes) (node : ℕ) (lines : Bytes) → HasWritten derivation (λ written. IsStoppedAt text written node lines) → lines ≢ []
stopped_some text None node lines is = absurd is
stopped_some text (Some written) node lines is = λ none. told_some (source_names is.spelled.after is.binders) is.d is.p (reason_of is.d is.p) (sym is.lines_are ∙ none)

-- ---- what was done

-- the lines weren't all put
pub lines_unput : (status : ℕ) (why : Note) (lines : Bytes) (b c : Contents) (stop : Stop) → lines ≢ [] → c ≡ record b { output = c.output } → GainedPart b.output c.output lines → stop ≡ Output → Did (lined status why lines) b c (Err stop)
lines_unput status why lines b c stop some rest part stop_is = record {
  files = ap (λ (x : Contents). x.files) rest;
  input = ap (λ (x : Contents). x.input) rest;
  output = part;
  notes = subst (λ n. GainedPart b.notes n (ended_lines (texts (why ∷ [])))) (sym (ap (λ (x : Contents). x.notes) rest)) (nothing b.notes (ended_lines (texts (why ∷ []))));
  unchanged = λ _. ap (λ (x : Contents). x.files) rest;
  whole = λ memory. let clash : Output ≡ Memory = sym stop_is ∙ memory in absurd cc;
  unkept = λ keep. let clash : Output ≡ Keep = sym stop_is ∙ keep in absurd cc;
  unread = λ input. let clash : Output ≡ Input = sym stop_is ∙ input in absurd cc;
  unput = λ output. record { some = some; alone = rest ∙ ap (λ n. record b { output = c.output; notes = n }) (sym (appended-nil b.notes)) };
  untold = λ notes. let clash : Output ≡ Notes = sym stop_is ∙ notes in absurd cc;
  due_kept = λ keep. let clash : Output ≡ Keep = sym stop_is ∙ keep in absurd cc;
}

-- they were put, and the note wasn't told
pub lines_untold : (status : ℕ) (why : Note) (lines : Bytes) (b c d : Contents) (stop : Stop) → c ≡ record b { output = appended b.output lines } → d ≡ record c { notes = d.notes }
    → GainedPart c.notes d.notes (ended_lines (texts (why ∷ []))) → stop ≡ Notes → Did (lined status why lines) b d (Err stop)
lines_untold status why lines b c d stop put rest part stop_is =
    let files : d.files ≡ b.files = ap (λ (x : Contents). x.files) rest ∙ ap (λ (x : Contents). x.files) put in
    let input : d.input ≡ b.input = ap (λ (x : Contents). x.input) rest ∙ ap (λ (x : Contents). x.input) put in
    let output : d.output ≡ appended b.output lines = ap (λ (x : Contents). x.output) rest ∙ ap (λ (x : Contents). x.output) put in
    record {
      files = files;
      input = input;
      output = subst (λ o. GainedPart b.output o lines) (sym output) (all_gained b.output lines);
      notes = subst (λ n. GainedPart n d.notes (ended_lines (texts (why ∷ [])))) (ap (λ (x : Contents). x.notes) put) part;
      unchanged = λ _. files;
      whole = λ memory. let clash : Notes ≡ Memory = sym stop_is ∙ memory in absurd cc;
      unkept = λ keep. let clash : Notes ≡ Keep = sym stop_is ∙ keep in absurd cc;
      unread = λ input. let clash : Notes ≡ Input = sym stop_is ∙ input in absurd cc;
      unput = λ output. let clash : Notes ≡ Output = sym stop_is ∙ output in absurd cc;
      untold = λ notes. some_texts;
      due_kept = λ keep. let clash : Notes ≡ Keep = sym stop_is ∙ keep in absurd cc;
    }
  where
    some_texts : texts (why ∷ []) ≢ []
    some_texts = λ e. cc

-- both were done
pub lines_told : (status : ℕ) (why : Note) (lines : Bytes) (b c d : Contents) → c ≡ record b { output = appended b.output lines } → d ≡ record c { notes = appended c.notes (ended_lines (texts (why ∷ []))) }
    → Did (lined status why lines) b d (Ok status)
lines_told status why lines b c d put told_is = (
  refl,
  told_is ∙ ap (λ (x : Contents). record { files = x.files; input = x.input; output = x.output; notes = appended x.notes (ended_lines (texts (why ∷ []))) }) put,
)

-- ---- what is due

-- a derivation that is accepted
pub serves_judged : (file name text : Bytes) (derivation : Option Bytes) (b c d : Contents) (k k1 k2 : Counts) (e e1 e2 : FileCalls) (result : Result ℕ Stop) → IsGivenInUse text name derivation
    → After (judge file name) (both text derivation) b c d k k1 k2 e e1 e2 result → result ≢ Err Memory → Did accepted_due c d result → Serves (Some (judge file name)) b d k k2 e e2 result
serves_judged file name text derivation b c d k k1 k2 e e1 e2 result is a ready did =
    done_quietly (judge file name) (both text derivation) b c d k k1 k2 e e1 e2 result accepted_due a (λ input. judges file name text is.p is.d refl is.given is.used) did (λ _ memory. absurd (ready memory)) (λ _ _. a.kept)

-- one at a node of which judging stops
pub serves_stop : (file name text : Bytes) (derivation : Option Bytes) (node : ℕ) (lines : Bytes) (b c d : Contents) (k k1 k2 : Counts) (e e1 e2 : FileCalls) (result : Result ℕ Stop)
    → HasWritten derivation (λ written. IsStoppedAt text written node lines) → After (judge file name) (both text derivation) b c d k k1 k2 e e1 e2 result → result ≢ Err Memory → Did (lined 8 (note.DerivationNode node) lines) c d result
    → Serves (Some (judge file name)) b d k k2 e e2 result
serves_stop file name text None node lines b c d k k1 k2 e e1 e2 result is a ready did = absurd is
serves_stop file name text (Some written) node lines b c d k k1 k2 e e1 e2 result is a ready did =
    done_quietly (judge file name) (both text (Some written)) b c d k k1 k2 e e1 e2 result (lined 8 (note.DerivationNode node) lines) a (λ input. misjudges file name text written node lines refl refl is) did
    (λ _ memory. absurd (ready memory)) (λ _ _. a.kept)
