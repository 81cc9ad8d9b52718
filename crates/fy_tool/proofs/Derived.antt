-- Derivations that are named, and what they show of texts.
use Rattle.std.proofs.Common.{◌≡◌, ◌∙◌, ℕ, ◌<◌, ◌≤◌, List, [], ◌∷◌, length, refl, subst, sym, Some, None}
use Rattle.std.specs.Prelude.{IfOk, IfErr, Ok, Err}
use Rattle.std.specs.declared.option.Option.{Option}
use Rattle.std.specs.declared.result.Result.{Result}
use Rattle.fy_base.specs.Outside.{Bytes, FileCalls, Folder, Rose, Tells, once_fetched}
use Rattle.fy_derive.specs.Derivations.{PlainDerivation}
use Rattle.fy_derive.specs.Judging.{conclusion_of, refusal}
use Rattle.fy_derive.specs.Limits.{KeepsLimits}
use Rattle.fy_derive.specs.Reading.{plain_derivation}
use Rattle.fy_derive.specs.Shapes.{shape_table}
use Rattle.fy_derive.specs.ShapeTables.{HasJustPairs}
use Rattle.fy_derive.specs.declared.derivation.Derivation.{Derivation}
use Rattle.fy_expand.specs.Judged.{IsJudged}
use Rattle.fy_phrase.specs.Reads.{reads}
use Rattle.fy_phrase.specs.Tree.{Tree}
use Rattle.pe_shapes.specs.Order.{AreInOrder}
use Rattle.pe_shapes.specs.Shaping.{KeepsLimits as KeepsShapeLimits}
use Rattle.fy_read.specs.FieldNames.{NumbersFields}
use Rattle.fy_read.specs.Refusals.{KeepsThroughout}
use Rattle.fy_world.proofs.Parts.{content_of}
use Rattle.fy_world.specs.World.{Counts}
use Rattle.fy_world.specs.Counted.{Faulted}
use Rattle.fy_world.specs.declared.world.Stop.{Stop}
use Rattle.fy_world.specs.declared.world.Stop.TheVariants.{Fetch, Memory}
use Rattle.fy_world.proofs.Counting.{called_both, called_fetch, counted_behind, faulted_after}
use Rattle.fy_world.specs.declared.note.Note.{Note}
use Rattle.fy_world.specs.declared.note.Note.TheVariants as note
use Rattle.fy_front.specs.declared.refusal.Refusal.{Refusal}
use Rattle.fy_front.specs.Checked.{IsRefusedFor, IsCore, IsOfText, IsUnjudged}
use Rattle.fy_tool.specs.Given.{Spells, handed, unread, wrong, too_long, by_text, before_typing, by_derivation, by_shapes}
use Rattle.fy_tool.specs.Working.{ReadFrom, Tables, ChecksGiven, GivenBy, WasGiven, WasUngiven}
use Rattle.fy_tool.specs.Fetched.{just_file, derivation_too, HasFetched}
use Rattle.fy_tool.specs.declared.given.TurnedDown.{TurnedDown}
use Rattle.fy_front.specs.declared.texts.Core.{Core}
use Rattle.fy_front.specs.declared.texts.Program.{Program}
use Rattle.fy_tool.proofs.ImageCommands.{given_found}
use Rattle.fy_tool.proofs.ReadUnits.{the_one}

-- what a derivation that spells from a text's names shows of the text
pub spells : (text written : Bytes) (core : Core) (after : List Bytes) (d : PlainDerivation) → length written ≤ 16777216 → IsCore text core → NumbersFields core.names after d written → KeepsLimits d → KeepsThroughout written → Spells text written d
spells text written core after d short is numbers limits keeps = record { short = short; names = core.names; named = is.named; after = after; numbers = numbers; limits = limits; keeps = keeps }

pub spells-after : (text written : Bytes) (core : Core) (after : List Bytes) (d : PlainDerivation) (short : length written ≤ 16777216) (is : IsCore text core) (n : NumbersFields core.names after d written) (l : KeepsLimits d) (k : KeepsThroughout written) → (spells text written core after d short is n l k).after ≡ after
unfolding spells
spells-after text written core after d short is n l k = refl

-- the derivation is in use
pub given_in_use : (core : Core) (written : Bytes) (after : List Bytes) (program : Program) → length written ≤ 16777216 → ReadFrom core.names after written (Ok program.derivation) → reads program.phrase ≡ reads core.phrase
    → refusal (conclusion_of (reads core.phrase) (plain_derivation program.derivation)) ≡ None → Tables (reads core.phrase) (plain_derivation program.derivation) (Ok program.table) → GivenBy core written (Ok program)
given_in_use core written after program short read same accepted tabled = λ text name is.
    let d = plain_derivation program.derivation in
    let spelled = spells text written core after d short is read.0 read.1 read.2 in
    let P : Tree → Type 0 = λ p. IsJudged text (Ok p) × (refusal (conclusion_of p d) ≡ None) × HasJustPairs program.table (shape_table p d) × KeepsShapeLimits p program.table × AreInOrder program.table in
    let moved = subst P (sym same) (is.is_judged, accepted, tabled.0, tabled.1, tabled.2) in
    record {
      is_judged = moved.0;
      given = handed name written moved.0 spelled;
      derived = moved.1;
      limits = read.1;
      table_is = moved.2;
      table_limits = moved.3;
      table_ordered = moved.4;
    }

-- judging stops at a node
pub given_wrong : (core : Core) (written : Bytes) (after : List Bytes) (d : Derivation) (node : ℕ) → length written ≤ 16777216 → ReadFrom core.names after written (Ok d) → refusal (conclusion_of (reads core.phrase) (plain_derivation d)) ≡ Some node
    → GivenBy core written (Err (record { status = 8; note = note.DerivationNode node }))
given_wrong core written after d node short read at = λ text name is.
    by_derivation name written (reads core.phrase) (note.DerivationNode node) is.is_judged (wrong (plain_derivation d) node (spells text written core after (plain_derivation d) short is read.0 read.1 read.2) at)

-- its shapes pass a limit
pub given_passing : (core : Core) (written : Bytes) (after : List Bytes) (d : Derivation) (why : Refusal) → length written ≤ 16777216 → ReadFrom core.names after written (Ok d) → refusal (conclusion_of (reads core.phrase) (plain_derivation d)) ≡ None
    → Tables (reads core.phrase) (plain_derivation d) (Err why) → GivenBy core written (Err (record { status = 2; note = note.Refused why }))
given_passing core written after d why short read accepted passed = λ text name is.
    by_shapes name written (reads core.phrase) (plain_derivation d) passed.0 why is.is_judged (spells text written core after (plain_derivation d) short is read.0 read.1 read.2) accepted passed.1 passed.2

-- no derivation was read
pub given_unread : (core : Core) (written : Bytes) (after : List Bytes) (why : Note) → length written ≤ 16777216 → ReadFrom core.names after written (Err why) → GivenBy core written (Err (record { status = 8; note = why }))
given_unread core written after why short read = λ text name is. by_derivation name written (reads core.phrase) why is.is_judged (unread read.0 why short read.1 read.2)

-- ---- files

-- the file alone was fetched
pub file_fetched : (file : Bytes) (named text : Option Bytes) (e e1 : FileCalls) → e1 ≡ once_fetched e → HasFetched (Some file) named text [] e e1
file_fetched file named text e e1 once = record { names = file ∷ []; are = just_file file refl; called = called_fetch e e1 once }

-- the derivation too, behind a text with a core phrase
pub both_fetched : (file name text : Bytes) (p : Tree) (e e1 e2 : FileCalls) → IsJudged text (Ok p) → e1 ≡ once_fetched e → e2 ≡ once_fetched e1 → HasFetched (Some file) (Some name) (Some text) [] e e2
both_fetched file name text p e e1 e2 judged once again = record {
  names = file ∷ name ∷ [];
  are = derivation_too file name text p refl refl refl judged;
  called = called_both 1 0 1 0 e e1 e2 (called_fetch e e1 once) (called_fetch e1 e2 again);
}

pub was_given : (file name : Bytes) (files : Option Folder) (e e1 : FileCalls) (text written : Bytes) (core : Core) (found : Result Program TurnedDown) → Tells files file (Some text) → Tells files name (Some written) → IsCore text core
    → HasFetched (Some file) (Some name) (Some text) [] e e1 → GivenBy core written found → WasGiven file (Some name) files e e1 found
was_given file name files e e1 text written core found told told_named is fetched given =
    record { text = text; told = told; written = Some written; told_named = told_named; called = fetched; is = given text name is }

pub all_given : (file name : Bytes) (files : Option Folder) (e e1 : FileCalls) (text written : Bytes) (core : Core) (result : Result (Result Program TurnedDown) Stop) → Tells files file (Some text) → Tells files name (Some written) → IsCore text core
    → HasFetched (Some file) (Some name) (Some text) [] e e1 → IfOk result (GivenBy core written) → ChecksGiven file (Some name) files e e1 result
all_given file name files e e1 text written core (Ok found) told told_named is fetched given = was_given file name files e e1 text written core found told told_named is fetched given
all_given file name files e e1 text written core (Err stop) told told_named is fetched given = tt

-- too many bytes are written
pub was_long : (file name : Bytes) (files : Option Folder) (e e1 : FileCalls) (text written : Bytes) (core : Core) → Tells files file (Some text) → Tells files name (Some written) → IsCore text core
    → HasFetched (Some file) (Some name) (Some text) [] e e1 → 16777216 < length written → WasGiven file (Some name) files e e1 (Err (record { status = 8; note = note.DerivationLength }))
was_long file name files e e1 text written core told told_named is fetched longer = record {
  text = text;
  told = told;
  written = Some written;
  told_named = told_named;
  called = fetched;
  is = by_derivation name written (reads core.phrase) note.DerivationLength is.is_judged (too_long longer);
}

-- the text has no core phrase
pub was_unjudged : (file name : Bytes) (files : Option Folder) (e e1 : FileCalls) (text : Bytes) (why : Refusal) → Tells files file (Some text) → e1 ≡ once_fetched e → IsUnjudged text why
    → WasGiven file (Some name) files e e1 (Err (record { status = 2; note = note.Refused why }))
was_unjudged file name files e e1 text why told once is =
    let named = content_of files name in
    record { text = text; told = told; written = named.0; told_named = named.1; called = file_fetched file (Some name) (Some text) e e1 once; is = before_typing name named.0 is.cause why is.is_judged is.told }

-- no derivation is named
pub was_found : (file : Bytes) (files : Option Folder) (e e1 : FileCalls) (text : Bytes) (program : Program) → Tells files file (Some text) → e1 ≡ once_fetched e → IsOfText text program → WasGiven file None files e e1 (Ok program)
was_found file files e e1 text program told once is =
    record { text = text; told = told; written = None; told_named = tt; called = file_fetched file None (Some text) e e1 once; is = given_found text None program is }

pub was_refused : (file : Bytes) (files : Option Folder) (e e1 : FileCalls) (text : Bytes) (why : Refusal) → Tells files file (Some text) → e1 ≡ once_fetched e → IsRefusedFor text why
    → WasGiven file None files e e1 (Err (record { status = 2; note = note.Refused why }))
was_refused file files e e1 text why told once is =
    record { text = text; told = told; written = None; told_named = tt; called = file_fetched file None (Some text) e e1 once; is = by_text None why is }

-- ---- counts

abbrev failed : Stop → Result ℕ Stop
failed stop = Err stop

-- the second file wasn't fetched
pub second_faulted : (file name : Bytes) (k k1 k2 : Counts) (stop : Stop) → k1 ≡ k → Faulted (name ∷ []) [] stop k1 k2 → Faulted (file ∷ name ∷ []) [] stop k k2
second_faulted file name k k1 k2 stop same fault = faulted_after (file ∷ name ∷ []) [] stop k k1 k2 same (counted_behind file (name ∷ []) [] k1 k2 (failed stop) fault)

-- ---- what wasn't fetched

rose_of : (name : Bytes) (k k1 : Counts) (stop : Stop) → Faulted (name ∷ []) [] stop k k1 → stop ≡ Fetch → Rose (k.fetches name) (k1.fetches name)
rose_of name k k1 stop fault is =
    let of : Faulted (name ∷ []) [] Fetch k k1 = subst (λ (s : Stop). Faulted (name ∷ []) [] s k k1) is fault in
    the_one (λ name. Rose (k.fetches name) (k1.fetches name)) name of.caused

-- the text
pub text_unfetched : (file : Bytes) (named : Option Bytes) (files : Option Folder) (k k1 : Counts) (e e1 : FileCalls) (stop : Stop) → Faulted (file ∷ []) [] stop k k1 → e1 ≡ once_fetched e → WasUngiven file named files k k1 e e1 stop
text_unfetched file named files k k1 e e1 stop fault once =
    let text = content_of files file in
    record {
      text = text.0;
      told = text.1;
      called = file_fetched file named text.0 e e1 once;
      fetched = λ is. record { first = []; name = file; are = just_file file refl; rose = rose_of file k k1 stop fault is };
    }

-- the derivation, behind a text with a core phrase
pub derivation_unfetched : (file name text : Bytes) (files : Option Folder) (core : Core) (k k1 k2 : Counts) (e e1 e2 : FileCalls) (stop : Stop) → Tells files file (Some text) → IsCore text core → k1 ≡ k → Faulted (name ∷ []) [] stop k1 k2
    → e1 ≡ once_fetched e → e2 ≡ once_fetched e1 → WasUngiven file (Some name) files k k2 e e2 stop
derivation_unfetched file name text files core k k1 k2 e e1 e2 stop told is same fault once again = record {
  text = Some text;
  told = told;
  called = both_fetched file name text (reads core.phrase) e e1 e2 is.is_judged once again;
  fetched = λ fetch. record {
    first = file ∷ [];
    name = name;
    are = derivation_too file name text (reads core.phrase) refl refl refl is.is_judged;
    rose = rose_of name k k2 stop (faulted_after (name ∷ []) [] stop k k1 k2 same fault) fetch;
  };
}

-- behind both nothing is fetched
pub all_fetched : {T : Type 0} (file name text : Bytes) (files : Option Folder) (k k1 : Counts) (e e1 : FileCalls) (result : Result T Stop) → Tells files file (Some text)
    → HasFetched (Some file) (Some name) (Some text) [] e e1 → IfErr result (λ stop. stop ≡ Memory) → IfErr result (WasUngiven file (Some name) files k k1 e e1)
all_fetched file name text files k k1 e e1 (Ok found) told fetched memory = tt
all_fetched file name text files k k1 e e1 (Err stop) told fetched memory =
    record { text = Some text; told = told; called = fetched; fetched = λ is. let clash : Memory ≡ Fetch = sym memory ∙ is in absurd cc }
