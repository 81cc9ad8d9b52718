-- From what drawing a derivation came to, to what is due for `tree`.
use Rattle.std.proofs.Common.{◌≡◌, ◌≢◌, ◌∙◌, ℕ, ◌<◌, ◌≤◌, Bool, List, [], length, refl, subst, sym, Some, None, Ok, Err}
use Rattle.std.specs.Prelude.{IfOk, IfErr}
use Rattle.std.specs.declared.option.Option.{Option}
use Rattle.std.specs.declared.result.Result.{Result}
use Rattle.fy_base.specs.Outside.{Bytes, FileCalls, Folder, Tells, once_fetched}
use Rattle.fy_phrase.specs.Reads.{reads}
use Rattle.fy_phrase.specs.Tree.{Tree, place_of}
use Rattle.fy_phrase.specs.declared.shapes.ShapeTable.{ShapeTable}
use Rattle.fy_derive.specs.Derivations.{PlainDerivation}
use Rattle.fy_derive.specs.Judging.{conclusion_of, refusal}
use Rattle.fy_derive.specs.Limits.{KeepsLimits}
use Rattle.fy_derive.specs.Reading.{plain_derivation}
use Rattle.fy_derive.specs.declared.derivation.Derivation.{Derivation}
use Rattle.fy_show.specs.declared.binders.Binder.{Binder}
use Rattle.fy_words.specs.Order.{tree, line_wanted, levels_wanted}
use Rattle.fy_world.specs.World.{Contents, Counts}
use Rattle.fy_world.specs.Did.{Did}
use Rattle.fy_world.specs.Runs.{written as written_due}
use Rattle.fy_world.specs.declared.note.Note.{Note}
use Rattle.fy_world.specs.declared.note.Note.TheVariants as note
use Rattle.fy_world.specs.declared.world.Stop.{Stop}
use Rattle.fy_world.specs.declared.world.Stop.TheVariants.{Fetch, Memory}
use Rattle.fy_world.proofs.Parts.{content_of}
use Rattle.fy_front.specs.declared.refusal.Refusal.{Refusal}
use Rattle.fy_front.specs.declared.texts.Core.{Core}
use Rattle.fy_front.specs.declared.texts.Program.{Program}
use Rattle.fy_front.specs.Checked.{IsCore, IsOfText, IsUnjudged, not_judged}
use Rattle.fy_tool.specs.Given.{HasBinders, HasGivenNames, IsDrawn, IsTurnedDown, by_derivation, by_shapes, by_text, before_typing, form_of, found as by_finding, handed, of_both, of_text, too_long, unread, wrong}
use Rattle.fy_tool.specs.Due.{draws}
use Rattle.fy_tool.specs.Answers.{Serves}
use Rattle.fy_tool.specs.Fetched.{HasFetched}
use Rattle.fy_tool.specs.Working.{Draws, DrawsFor, DrawsUnder, DrawsWritten, IsDrawing, ReadFrom, Tables, WasDrawn, WasUngiven, tree_shown}
use Rattle.fy_tool.specs.declared.tree.Drawing.{Drawing}
use Rattle.fy_tool.specs.declared.tree.Drawn.{Drawn}
use Rattle.fy_tool.specs.declared.tree.Drawn.TheVariants.{Down, Lines}
use Rattle.fy_tool.proofs.Derived.{file_fetched, spells, spells-after}
use Rattle.fy_tool.proofs.ImageCommands.{both}
use Rattle.fy_tool.proofs.Serving.{After, done_quietly}

-- ---- what drawing comes to

-- a text that has no core phrase
unread_down : (text : Bytes) (why : Refusal) (named written : Option Bytes) → IsUnjudged text why → IsTurnedDown text named written 2 (note.Refused why)
unread_down text why None written is = by_text written why (not_judged is.cause is.is_judged is.told)
unread_down text why (Some name) written is = before_typing name written is.cause why is.is_judged is.told

pub drawn_unread : (text : Bytes) (names : List Bytes) (drawing : Drawing) (p : Tree) (d : PlainDerivation) (why : Refusal) → IsUnjudged text why
    → DrawsUnder text names drawing p d (Down (record { status = 2; note = note.Refused why }))
drawn_unread text names drawing p d why is = λ named written given used numbered. unread_down text why named written is

-- the lines of a derivation in use
pub drawn_lines : (text : Bytes) (names : List Bytes) (drawing : Drawing) (p : Tree) (d : PlainDerivation) (binders : List Binder) (lines : Bytes) → HasBinders text (place_of p) binders
    → lines ≡ tree_shown names binders drawing d p → DrawsUnder text names drawing p d (Lines lines)
drawn_lines text names drawing p d binders lines has are = λ named written given used numbered. record {
  p = p;
  d = d;
  given = given;
  used = used;
  names = names;
  numbered = numbered;
  binders = binders;
  has = has;
  lines_are = are;
}

-- those of the derivation that is found
pub drawn_program : (text : Bytes) (program : Program) (drawing : Drawing) (found : Drawn) → IsOfText text program
    → DrawsUnder text program.names drawing (reads program.phrase) (plain_derivation program.derivation) found → IsDrawing text None None drawing found
drawn_program text program drawing found is under =
    under None None (by_finding None is.is_program is.full)
    (record { accepted = is.derived; within = is.limits; table = program.table; just = is.table_is; limits = is.table_limits }) (of_text None program.names is.named)

-- one that is written, with a table within the limits
pub drawn_in_use : (text : Bytes) (names : List Bytes) (drawing : Drawing) (p : Tree) (d : PlainDerivation) (table : ShapeTable) (found : Drawn) → refusal (conclusion_of p d) ≡ None → KeepsLimits d → Tables p d (Ok table)
    → DrawsUnder text names drawing p d found → DrawsFor text names drawing p d found
drawn_in_use text names drawing p d table found accepted limits tabled under = λ name written is spelled same.
    under (Some name) (Some written) (handed name written is spelled) (record { accepted = accepted; within = limits; table = table; just = tabled.0; limits = tabled.1 })
    (subst (λ (ns : List Bytes). HasGivenNames text d (Some name) (Some written) ns) same (of_both name written spelled))

-- one whose shapes pass a limit
pub drawn_passing : (text : Bytes) (names : List Bytes) (drawing : Drawing) (p : Tree) (d : PlainDerivation) (why : Refusal) → refusal (conclusion_of p d) ≡ None → Tables p d (Err why)
    → DrawsFor text names drawing p d (Down (record { status = 2; note = note.Refused why }))
drawn_passing text names drawing p d why accepted passed = λ name written is spelled same. by_shapes name written p d passed.0 why is spelled accepted passed.1 passed.2

-- what is no derivation's text
pub drawn_no_text : (text written : Bytes) (core : Core) (after : List Bytes) (drawing : Drawing) (why : Note) → length written ≤ 16777216 → IsCore text core → ReadFrom core.names after written (Err why)
    → DrawsWritten text written drawing (Down (record { status = 8; note = why }))
drawn_no_text text written core after drawing why short is read = λ name. by_derivation name written (reads core.phrase) why is.is_judged (unread read.0 why short read.1 read.2)

-- one at a node of which judging stops
pub drawn_wrong : (text written : Bytes) (core : Core) (after : List Bytes) (drawing : Drawing) (d : Derivation) (node : ℕ) → length written ≤ 16777216 → IsCore text core → ReadFrom core.names after written (Ok d)
    → refusal (conclusion_of (reads core.phrase) (plain_derivation d)) ≡ Some node → DrawsWritten text written drawing (Down (record { status = 8; note = note.DerivationNode node }))
drawn_wrong text written core after drawing d node short is read stops = λ name.
    by_derivation name written (reads core.phrase) (note.DerivationNode node) is.is_judged (wrong (plain_derivation d) node (spells text written core after (plain_derivation d) short is read.0 read.1 read.2) stops)

-- what was read
pub drawn_read : (text written : Bytes) (core : Core) (after : List Bytes) (drawing : Drawing) (d : Derivation) (found : Drawn) → length written ≤ 16777216 → IsCore text core → ReadFrom core.names after written (Ok d)
    → DrawsFor text after drawing (reads core.phrase) (plain_derivation d) found → DrawsWritten text written drawing found
drawn_read text written core after drawing d found short is read under = λ name.
    under name written is.is_judged (spells text written core after (plain_derivation d) short is read.0 read.1 read.2) (spells-after text written core after (plain_derivation d) short is read.0 read.1 read.2)

-- ---- files

-- too long a text
pub drawn_long : (file : Bytes) (files : Option Folder) (e e1 : FileCalls) (text : Bytes) (why : Refusal) (drawing : Drawing) → Tells files file (Some text) → e1 ≡ once_fetched e → IsUnjudged text why
    → WasDrawn file None files e e1 drawing (Down (record { status = 2; note = note.Refused why }))
drawn_long file files e e1 text why drawing told once is =
    record { text = text; told = told; written = None; told_named = tt; called = file_fetched file None (Some text) e e1 once; is = unread_down text why None None is }

pub drawn_first : (file : Bytes) (files : Option Folder) (e e1 : FileCalls) (text : Bytes) (drawing : Drawing) (result : Result Drawn Stop) → Tells files file (Some text) → e1 ≡ once_fetched e
    → IfOk result (IsDrawing text None None drawing) → Draws file None files e e1 drawing result
drawn_first file files e e1 text drawing (Ok found) told once is =
    record { text = text; told = told; written = None; told_named = tt; called = file_fetched file None (Some text) e e1 once; is = is }
drawn_first file files e e1 text drawing (Err stop) told once is = tt

-- behind the text nothing is fetched
pub first_fetched : {T : Type 0} (file text : Bytes) (files : Option Folder) (k k1 : Counts) (e e1 : FileCalls) (result : Result T Stop) → Tells files file (Some text) → e1 ≡ once_fetched e
    → IfErr result (λ stop. stop ≡ Memory) → IfErr result (WasUngiven file None files k k1 e e1)
first_fetched file text files k k1 e e1 (Ok found) told once memory = tt
first_fetched file text files k k1 e e1 (Err stop) told once memory = record {
  text = Some text;
  told = told;
  called = file_fetched file None (Some text) e e1 once;
  fetched = λ is. let clash : Memory ≡ Fetch = sym memory ∙ is in absurd cc;
}

-- the text has no core phrase
pub drawn_no_core : (file name : Bytes) (files : Option Folder) (e e1 : FileCalls) (text : Bytes) (why : Refusal) (drawing : Drawing) → Tells files file (Some text) → e1 ≡ once_fetched e → IsUnjudged text why
    → WasDrawn file (Some name) files e e1 drawing (Down (record { status = 2; note = note.Refused why }))
drawn_no_core file name files e e1 text why drawing told once is =
    let named = content_of files name in
    record {
      text = text;
      told = told;
      written = named.0;
      told_named = named.1;
      called = file_fetched file (Some name) (Some text) e e1 once;
      is = unread_down text why (Some name) named.0 is;
    }

-- too many bytes are written
pub drawn_too_long : (file name : Bytes) (files : Option Folder) (e e1 : FileCalls) (text written : Bytes) (core : Core) (drawing : Drawing) → Tells files file (Some text) → Tells files name (Some written) → IsCore text core
    → HasFetched (Some file) (Some name) (Some text) [] e e1 → 16777216 < length written → WasDrawn file (Some name) files e e1 drawing (Down (record { status = 8; note = note.DerivationLength }))
drawn_too_long file name files e e1 text written core drawing told told_named is fetched longer = record {
  text = text;
  told = told;
  written = Some written;
  told_named = told_named;
  called = fetched;
  is = by_derivation name written (reads core.phrase) note.DerivationLength is.is_judged (too_long longer);
}

pub drawn_both : (file name : Bytes) (files : Option Folder) (e e1 : FileCalls) (text written : Bytes) (drawing : Drawing) (result : Result Drawn Stop) → Tells files file (Some text) → Tells files name (Some written)
    → HasFetched (Some file) (Some name) (Some text) [] e e1 → IfOk result (DrawsWritten text written drawing) → Draws file (Some name) files e e1 drawing result
drawn_both file name files e e1 text written drawing (Ok found) told told_named fetched by =
    record { text = text; told = told; written = Some written; told_named = told_named; called = fetched; is = by name }
drawn_both file name files e e1 text written drawing (Err stop) told told_named fetched by = tt

-- ---- what is due

pub serves_drawn : (file : Bytes) (named : Option Bytes) (latex : Bool) (levels node width : Option ℕ) (text : Bytes) (written : Option Bytes) (lines : Bytes) (b c d : Contents) (k k1 k2 : Counts) (e e1 e2 : FileCalls) (result : Result ℕ Stop)
    → IsDrawn text named written (form_of latex) (line_wanted width) node (levels_wanted levels) lines → After (tree file named latex levels node width) (both text written) b c d k k1 k2 e e1 e2 result → result ≢ Err Memory
    → Did (written_due lines) c d result → Serves (Some (tree file named latex levels node width)) b d k k2 e e2 result
serves_drawn file named latex levels node width text written lines b c d k k1 k2 e e1 e2 result is a ready did =
    done_quietly (tree file named latex levels node width) (both text written) b c d k k1 k2 e e1 e2 result (written_due lines) a (λ input. draws file named latex levels node width text lines refl is) did (λ _ memory. absurd (ready memory))
    (λ _ _. a.kept)
