-- The units on a list in a file: read, and put together.
use Rattle.std.proofs.Common.{◌≡◌, ℕ, ◌+◌, ◌≤◌, List, [], ◌∷◌, ◌++◌, length, sym, ap, ◌∙◌, refl, subst, arith, inl, inr, Some, None, Ok, Err}
use Rattle.std.proofs.lemmas.List.{length-append, length-map}
use Rattle.std.proofs.lemmas.List.Elements.{All-nil}
use Rattle.std.specs.Prelude.{IfOk, IfErr}
use Rattle.std.specs.declared.option.Option.{Option}
use Rattle.std.specs.declared.result.Result.{Result}
use Rattle.fy_base.specs.Outside.{Bytes, FileCalls, Folder, Rose, Tells, once_fetched}
use Rattle.fy_derive.specs.Judging.{conclusion_of, refusal}
use Rattle.fy_derive.specs.Limits.{KeepsLimits}
use Rattle.fy_derive.specs.Reading.{plain_derivation}
use Rattle.fy_derive.specs.Shapes.{shape_table}
use Rattle.fy_derive.specs.ShapeTables.{HasJustPairs}
use Rattle.fy_derive.specs.declared.derivation.Derivation.{Derivation}
use Rattle.fy_expand.specs.Judged.{IsJudgedFrom}
use Rattle.fy_phrase.specs.Reads.{reads}
use Rattle.fy_phrase.specs.declared.phrase.Phrase.{Phrase}
use Rattle.pe_shapes.specs.Order.{AreInOrder}
use Rattle.pe_shapes.specs.Shaping.{KeepsLimits as KeepsShapeLimits}
use Rattle.fy_link.specs.declared.linking.Linked.{Linked}
use Rattle.fy_world.specs.World.{Counts}
use Rattle.fy_world.specs.Counted.{Faulted, HasCalled, IsReadStop}
use Rattle.fy_world.specs.declared.note.Note.TheVariants as note
use Rattle.fy_front.specs.declared.refusal.Refusal.{Refusal}
use Rattle.fy_world.specs.declared.unlinked.Unlinked.TheVariants as unlinked
use Rattle.fy_world.specs.declared.world.Stop.{Stop}
use Rattle.fy_world.specs.declared.world.Stop.TheVariants.{Fetch, Memory}
use Rattle.fy_world.proofs.Counting.{called_both, called_fetch, called_more, faulted_after, short_of_memory}
use Rattle.fy_world.proofs.Parts.{content_of}
use Rattle.fy_tool.specs.Due.{AreListed, AreTold}
use Rattle.fy_tool.specs.Units.{Listed, names_of, ListsUnits, ListsNone, IsLinkedBy, no_list, no_object, not_linked, PassesShapes}
use Rattle.fy_tool.specs.Working.{WasLinked, LinksList, WasUnlisted, CountsList, IsLinkedFrom, IsSomeLinked, ReadsObjects, HasReadTo, no_unit, up_to, HasUnfetched, StopsObjects, ShapesLinked, Tables}
use Rattle.fy_tool.specs.Fetched.{just_file, units_too, HasFetched}
use Rattle.fy_tool.specs.declared.given.TurnedDown.{TurnedDown}
use Rattle.fy_tool.specs.declared.link.Together.{Together}
use Rattle.fy_tool.specs.declared.objects.Objects.{Objects}
use Rattle.fy_front.specs.declared.texts.Program.{Program}
use Rattle.fy_tool.proofs.ReadUnits.{all_fetched, bad_fetched, counted_units, faulted_before, the_one}
use Rattle.fy_tool.proofs.Serving.{none_listed}

-- ---- how often files were fetched

-- the list alone was
list_fetched : (file : Bytes) (units : List Listed) (e e1 : FileCalls) → e1 ≡ once_fetched e → HasFetched (Some file) None None units e e1
list_fetched file units e e1 once = record { names = file ∷ []; are = just_file file refl; called = called_fetch e e1 once }

-- the files on it were too, up to one behind those that hold units
units_fetched : (file : Bytes) (units : List Listed) (e e1 e2 : FileCalls) → e1 ≡ once_fetched e → HasReadTo units e1 e2 → HasFetched (Some file) None None units e e2
units_fetched file units e e1 e2 once (no_unit called) = record { names = file ∷ []; are = just_file file refl; called = called_both 1 0 0 0 e e1 e2 (called_fetch e e1 once) called }
units_fetched file units e e1 e2 once (up_to read unit behind values names are hold called) =
    let mapped = length-map read (λ (unit : Listed). unit.name) in
    let both = length-append (names_of read) (unit.name ∷ []) in
    record {
      names = file ∷ (names_of read ++ unit.name ∷ []);
      are = units_too file read unit behind values names refl are hold;
      called = called_more (1 + (length read + 1)) 0 (length (file ∷ (names_of read ++ unit.name ∷ []))) 0 e e2 (omega arith) (omega arith)
          (called_both 1 0 (length read + 1) 0 e e1 e2 (called_fetch e e1 once) called);
    }

-- ---- why nothing is linked

-- the file is no list
pub was_no_list : (file list : Bytes) (files : Option Folder) (e e1 : FileCalls) → Tells files file (Some list) → ListsNone list → e1 ≡ once_fetched e
    → WasLinked file files e e1 (Err (record { status = 11; note = note.Link unlinked.List }))
was_no_list file list files e e1 holds none once =
    record { list = list; told = holds; units = []; listed = inl refl; units_told = All-nil _; called = list_fetched file [] e e1 once; is = no_list none }

-- a file on it holds no unit
pub was_bad : (file list : Bytes) (files : Option Folder) (names : List Bytes) (j : ℕ) (e e1 e2 : FileCalls) → Tells files file (Some list) → ListsUnits list names → ReadsObjects names files (Err j)
    → e1 ≡ once_fetched e → HasCalled (j + 1) 0 e1 e2 → WasLinked file files e e2 (Err (record { status = 11; note = note.Link (unlinked.Object j) }))
was_bad file list files names j e e1 e2 holds lists read once called =
    let by = subst (ListsUnits list) (sym read.named) lists in
    record {
      list = list;
      told = holds;
      units = read.units;
      listed = inr by;
      units_told = read.told;
      called = units_fetched file read.units e e1 e2 once (bad_fetched read.units j e1 e2 read.is called);
      is = no_object j by read.is;
    }

-- ---- units put together

-- the list and all files on it were fetched
linked_fetched : (file : Bytes) (files : Option Folder) (names : List Bytes) (objects : Objects) (e e1 e2 : FileCalls) (read : ReadsObjects names files (Ok objects)) → e1 ≡ once_fetched e → HasCalled (length objects.units) 0 e1 e2
    → HasFetched (Some file) None None read.units e e2
linked_fetched file files names objects e e1 e2 read once called = units_fetched file read.units e e1 e2 once (all_fetched e1 e2 read.is.0 called)

linked_so : (file list : Bytes) (files : Option Folder) (names : List Bytes) (objects : Objects) (e e1 e2 : FileCalls) (found : Result Together TurnedDown) → Tells files file (Some list) → ListsUnits list names → ReadsObjects names files (Ok objects)
    → e1 ≡ once_fetched e → HasCalled (length objects.units) 0 e1 e2 → IsLinkedFrom objects found → WasLinked file files e e2 found
linked_so file list files names objects e e1 e2 (Ok together) holds lists read once called is =
    let by = subst (ListsUnits list) (sym read.named) lists in
    record {
      list = list;
      told = holds;
      units = read.units;
      listed = inr by;
      units_told = read.told;
      called = linked_fetched file files names objects e e1 e2 read once called;
      is = record { names = objects.names; values = objects.units; units = record { listed = by; read = read.is.0 }; is = is };
    }
linked_so file list files names objects e e1 e2 (Err down) holds lists read once called is =
    let by = subst (ListsUnits list) (sym read.named) lists in
    record {
      list = list;
      told = holds;
      units = read.units;
      listed = inr by;
      units_told = read.told;
      called = linked_fetched file files names objects e e1 e2 read once called;
      is = not_linked objects.names objects.units is.0 down.status down.note (record { listed = by; read = read.is.0 }) is.1 is.2;
    }

pub links_list : (file list : Bytes) (files : Option Folder) (names : List Bytes) (objects : Objects) (e e1 e2 : FileCalls) (result : Result (Result Together TurnedDown) Stop) → Tells files file (Some list) → ListsUnits list names
    → ReadsObjects names files (Ok objects) → e1 ≡ once_fetched e → HasCalled (length objects.units) 0 e1 e2 → IfOk result (IsLinkedFrom objects) → LinksList file files e e2 result
links_list file list files names objects e e1 e2 (Ok answer) holds lists read once called is = linked_so file list files names objects e e1 e2 answer holds lists read once called is
links_list file list files names objects e e1 e2 (Err stop) holds lists read once called is = tt

-- how many units a list has
pub some_objects : (list : Bytes) (files : Option Folder) (names : List Bytes) (objects : Objects) → ListsUnits list names → ReadsObjects names files (Ok objects) → (1 ≤ length objects.units) × (length objects.units ≤ 64)
some_objects list files names objects lists read =
    let counted = counted_units read.is.0 in
    let mapped = length-map read.units (λ (unit : Listed). unit.name) in
    let named = ap length read.named in
    let some = lists.some in
    let few = lists.few in
    (omega arith, omega arith)

-- ---- what stopped the work

-- the list wasn't fetched
pub unlisted_fetch : (file : Bytes) (files : Option Folder) (k k1 : Counts) (e e1 : FileCalls) (stop : Stop) → Faulted (file ∷ []) [] stop k k1 → IsReadStop stop → e1 ≡ once_fetched e → WasUnlisted file files k k1 e e1 stop
unlisted_fetch file files k k1 e e1 stop fault other once =
    let content = content_of files file in
    record {
      list = content.0;
      told = content.1;
      units = [];
      listed = none_listed content.0;
      units_told = All-nil _;
      faulted = fault;
      other = other;
      called = list_fetched file [] e e1 once;
      fetched = λ is.
          let of : Faulted (file ∷ []) [] Fetch k k1 = subst (λ (s : Stop). Faulted (file ∷ []) [] s k k1) is fault in
          record { first = []; name = file; are = just_file file refl; rose = the_one (λ name. Rose (k.fetches name) (k1.fetches name)) file of.caused };
    }

pub unlisted_memory : (file : Bytes) (files : Option Folder) (k k1 : Counts) (e e1 : FileCalls) (stop : Stop) → stop ≡ Memory → k1 ≡ k → e1 ≡ once_fetched e → WasUnlisted file files k k1 e e1 stop
unlisted_memory file files k k1 e e1 stop memory same once = unlisted_fetch file files k k1 e e1 stop (short_of_memory (file ∷ []) [] stop k k1 memory same) (inr memory) once

-- a file on it wasn't
pub unlisted_units : (file list : Bytes) (files : Option Folder) (names : List Bytes) (k k1 k2 : Counts) (e e1 e2 : FileCalls) (stop : Stop) → Tells files file (Some list) → ListsUnits list names → k1 ≡ k → Faulted names [] stop k1 k2
    → IsReadStop stop → e1 ≡ once_fetched e → StopsObjects names files k1 k2 e1 e2 stop → WasUnlisted file files k k2 e e2 stop
unlisted_units file list files names k k1 k2 e e1 e2 stop holds lists same fault other once behind =
    record {
      list = Some list;
      told = holds;
      units = behind.units;
      listed = inr (subst (ListsUnits list) (sym behind.named) lists);
      units_told = behind.told;
      faulted = subst (λ (ns : List Bytes). Faulted (ns ++ file ∷ []) [] stop k k2) (sym behind.named) (faulted_before names (file ∷ []) stop k k2 (faulted_after names [] stop k k1 k2 same fault));
      other = other;
      called = units_fetched file behind.units e e1 e2 once behind.called;
      fetched = λ is.
          let was = subst (λ (c : Counts). HasUnfetched behind.units c k2) same (behind.fetched is) in
          record { first = file ∷ names_of was.read; name = was.unit.name; are = units_too file was.read was.unit was.behind was.values was.names refl was.are was.hold; rose = was.rose };
    }

-- memory was wanting behind the units
short_behind : (file list : Bytes) (files : Option Folder) (units : List Listed) (k k1 : Counts) (e e1 : FileCalls) (stop : Stop) → Tells files file (Some list) → AreListed (Some list) units → AreTold files units → stop ≡ Memory → k1 ≡ k
    → HasFetched (Some file) None None units e e1 → WasUnlisted file files k k1 e e1 stop
short_behind file list files units k k1 e e1 stop holds listed told memory same fetched =
    record {
      list = Some list;
      told = holds;
      units = units;
      listed = listed;
      units_told = told;
      faulted = short_of_memory (names_of units ++ file ∷ []) [] stop k k1 memory same;
      other = inr memory;
      called = fetched;
      fetched = λ is. let clash : Memory ≡ Fetch = sym memory ∙ is in absurd cc;
    }

pub unlisted_linked : (file : Bytes) (files : Option Folder) (found : Result Together TurnedDown) (k k1 : Counts) (e e1 : FileCalls) (stop : Stop) → stop ≡ Memory → k1 ≡ k → WasLinked file files e e1 found → WasUnlisted file files k k1 e e1 stop
unlisted_linked file files found k k1 e e1 stop memory same was = short_behind file was.list files was.units k k1 e e1 stop was.told was.listed was.units_told memory same was.called

pub counts_memory : (file list : Bytes) (files : Option Folder) (names : List Bytes) (objects : Objects) (k k1 : Counts) (e e1 e2 : FileCalls) (result : Result (Result Together TurnedDown) Stop) → Tells files file (Some list)
    → ListsUnits list names → ReadsObjects names files (Ok objects) → e1 ≡ once_fetched e → HasCalled (length objects.units) 0 e1 e2 → IfErr result (λ stop. stop ≡ Memory) → k1 ≡ k → CountsList file files k k1 e e2 result
counts_memory file list files names objects k k1 e e1 e2 (Ok answer) holds lists read once called memory same = same
counts_memory file list files names objects k k1 e e1 e2 (Err stop) holds lists read once called memory same =
    short_behind file list files read.units k k1 e e2 stop holds (inr (subst (ListsUnits list) (sym read.named) lists)) read.told memory same (linked_fetched file files names objects e e1 e2 read once called)

-- ---- the program

pub program_linked : (together : Together) (program : Program) → IsSomeLinked together.linked → program.phrase ≡ together.linked.phrase → program.derivation ≡ together.linked.derivation
    → Tables (reads together.linked.phrase) (plain_derivation together.linked.derivation) (Ok program.table) → ShapesLinked together (Ok program)
program_linked together program some phrase by tabled =
    let is = some.2 in
    let P : Phrase → Derivation → Type 0 = λ p d. IsJudgedFrom some.0 together.linked.text (Ok (reads p)) × (refusal (conclusion_of (reads p) (plain_derivation d)) ≡ None) × KeepsLimits (plain_derivation d)
    × HasJustPairs program.table (shape_table (reads p) (plain_derivation d)) × KeepsShapeLimits (reads p) program.table × AreInOrder program.table in
    let moved = subst (λ p. P p program.derivation) (sym phrase) (subst (λ d. P together.linked.phrase d) (sym by) (is.phrase, is.accepted, is.few, tabled.0, tabled.1, tabled.2)) in
    (phrase, by, record { names = some.0; text = together.linked.text; is_judged = moved.0; derived = moved.1; limits = moved.2; table_is = moved.3; table_limits = moved.4; table_ordered = moved.5 })

pub passes_shapes : {list : Bytes} {units : List Listed} (together : Together) (why : Refusal) → IsLinkedBy list units together.linked → ShapesLinked together (Err why) → PassesShapes list units why
passes_shapes together why is passed = record { linked = together.linked; is = is; error = passed.0; shaping = passed.1; told = passed.2 }

pub some_linked : {list : Bytes} {units : List Listed} (linked : Linked) → IsLinkedBy list units linked → IsSomeLinked linked
some_linked linked is = (is.names, is.values, is.is)
