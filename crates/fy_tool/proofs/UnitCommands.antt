-- From the parts of the commands of units to what is due for the words.
use Rattle.std.proofs.Common.{◌≡◌, ◌≢◌, ℕ, [], ◌∷◌, ◌++◌, ◌≤◌, List, length, sym, ap, ◌∙◌, refl, subst, inl, inr, Some, None, Err}
use Rattle.std.specs.declared.option.Option.{Option}
use Rattle.std.specs.declared.result.Result.{Result}
use Rattle.fy_base.specs.Outside.{Bytes, FileCalls, Folder, Tells}
use Rattle.fy_derive.specs.Print.{derivation_text}
use Rattle.fy_derive.specs.Reading.{plain_derivation}
use Rattle.fy_phrase.specs.Reads.{reads}
use Rattle.fy_lexer.specs.Identifiers.{AreIdentifiers}
use Rattle.fy_lexer.specs.Tokens.{HasAdded}
use Rattle.fy_lexer.proofs.IdentifierLemmas.{identifiers_named}
use Rattle.fy_link.specs.Read.{source_in}
use Rattle.fy_link.specs.UnitBytes.{unit_bytes, IsReadBack}
use Rattle.fy_link.specs.Units.{IsUnit, IsUnitFault, KeepsTypeLimits}
use Rattle.fy_link.specs.declared.unit.Unit.{Unit as UnitValue}
use Rattle.fy_link.specs.declared.error.LinkError.{LinkError}
use Rattle.fy_link.specs.declared.error.LinkError.TheVariants as linking
use Rattle.fy_link.specs.declared.linking.Linked.{Linked}
use Rattle.fy_types.specs.Names.{AreNames, first_names}
use Rattle.fy_words.specs.Order.{Order, unit, join, link, stack_wanted}
use Rattle.fy_world.specs.World.{Contents, Counts}
use Rattle.fy_world.specs.Counted.{Faulted}
use Rattle.fy_world.specs.Runs.{told}
use Rattle.fy_world.specs.Did.{Did, IsOwn}
use Rattle.fy_world.specs.Working.{KeepsSuch, Keeps}
use Rattle.fy_world.specs.declared.note.Note.{Note}
use Rattle.fy_world.specs.declared.note.Note.TheVariants as note
use Rattle.fy_front.specs.Checked.{IfRefused}
use Rattle.fy_front.specs.declared.error.FrontError.{FrontError}
use Rattle.fy_front.specs.declared.refusal.Refusal.{Refusal}
use Rattle.fy_front.proofs.Checking.{refused_more}
use Rattle.fy_world.specs.declared.unlinked.Unlinked.TheVariants as unlinked
use Rattle.fy_world.specs.declared.world.Stop.{Stop}
use Rattle.fy_world.specs.declared.world.Stop.TheVariants.{Memory}
use Rattle.fy_world.proofs.Counting.{called_none, faulted_keeps}
use Rattle.fy_tool.specs.Units.{Listed, names_of, IsNoUnit, not_compiled, IsLinkedBy, IsNotLinked, no_list, no_object, not_linked as not_linked_units, PassesShapes, link_note}
use Rattle.fy_tool.specs.Due.{IsImageBy, Sources, TellsSources, AreTold, AreListed, list_of, compiles, no_unit, not_linked, joins, misshapes, links, reads_of, keeps_of}
use Rattle.fy_tool.specs.Fetched.{HasFetched, HasFetchedDue, LastRose, LastDueRose}
use Rattle.fy_tool.specs.Answers.{Serves}
use Rattle.fy_tool.specs.Working.{AreUnitBytes, Builds, IsBuildable, WasUnlisted}
use Rattle.fy_front.specs.declared.texts.Program.{Program}
use Rattle.fy_tool.proofs.ImageCommands.{by_image}
use Rattle.fy_tool.proofs.Serving.{After, called_fetched, done_quietly, none_done, only, serves_stopped}
use Rattle.fy_tool.proofs.Named.{are_first}

-- ---- `unit`

-- a text that is the source of none
pub not_unit : (names : List Bytes) (text : Bytes) (error : FrontError) → length text ≤ 1048576 → names ≡ first_names → IfRefused (IsUnitFault names text) error → IfRefused (IsNoUnit text) error
not_unit names text error short e is = refused_more (IsUnitFault names text) (IsNoUnit text) error (λ why f. not_compiled why short (subst (λ n. IsUnitFault n text why) e f)) is

pub unit_written : (first names : List Bytes) (text bytes : Bytes) (value : UnitValue) → first ≡ first_names → value.source ≡ text → IsUnit names value → HasAdded first names
    → KeepsTypeLimits (source_in value) → (AreNames first → AreIdentifiers first → IsReadBack first names value)
    → bytes ≡ unit_bytes value.source (derivation_text names (plain_derivation value.derivation)) → AreUnitBytes text bytes
unit_written first names text bytes value e source is added within back written = record {
  names = names;
  value = value;
  unit = record {
    source = source;
    unit = is;
    first = subst (λ n. HasAdded n names) e added;
    within = within;
    read_back = subst (λ n. IsReadBack n names value) e (back (subst AreNames (sym e) are_first) (subst AreIdentifiers (sym e) identifiers_named.first));
  };
  are = written ∙ ap (λ s. unit_bytes s (derivation_text names (plain_derivation value.derivation))) source;
}

-- a text that is the source of no unit
pub serves_no_unit : (file to text : Bytes) (why : Refusal) (b c d : Contents) (k k1 k2 : Counts) (e e1 e2 : FileCalls) (result : Result ℕ Stop) → IsNoUnit text why → After (unit file to) (only text) b c d k k1 k2 e e1 e2 result → result ≢ Err Memory
    → Did (told 2 (note.Refused why ∷ [])) c d result → e2 ≡ e1 → Serves (Some (unit file to)) b d k k2 e e2 result
serves_no_unit file to text why b c d k k1 k2 e e1 e2 result is a ready did same =
    done_quietly (unit file to) (only text) b c d k k1 k2 e e1 e2 result _ a (λ input. no_unit file to text why refl is) did (λ _ memory. absurd (ready memory)) (λ _ _. called_none e1 e2 same)

-- `unit` of a text that is one's source
pub serves_unit : (file to text bytes : Bytes) (b c d : Contents) (k k1 k2 : Counts) (e e1 e2 : FileCalls) (result : Result ℕ Stop) → AreUnitBytes text bytes → After (unit file to) (only text) b c d k k1 k2 e e1 e2 result
    → KeepsSuch (λ kept. kept ≡ bytes) to c d result → Serves (Some (unit file to)) b d k k2 e e2 result
serves_unit file to text bytes b c d k k1 k2 e e1 e2 result are a (inl unbegun) = none_done (unit file to) (only text) b c d k k1 k2 e e1 e2 result a unbegun
serves_unit file to text bytes b c d k k1 k2 e e1 e2 result are a (inr was) =
    let same = was.spelled ∙ are.are in
    done_quietly (unit file to) (only text) b c d k k1 k2 e e1 e2 result _ a (λ input. compiles file to text are.names are.value refl are.unit)
    (subst (λ kept. Did (record { status = 0; output = []; notes = []; kept = Some (to, kept); rest = None; running = None }) c d result) same was.did) (λ _ memory. absurd (was.ready memory)) (λ none. absurd cc)

-- ---- lists

-- what the files hold that a list names
abbrev pub with_units : Option Bytes → List Listed → Sources
with_units list units = record { file = list; derivation = None; units = units }

-- an order that takes a list
pub record TakesList (order : Order) (file : Bytes) : Type 0 where
  pub sources : (list : Option Bytes) (units : List Listed) → list_of order (with_units list units) ≡ list
  pub reads : (list : Option Bytes) (units : List Listed) → reads_of order (with_units list units) ≡ names_of units ++ file ∷ []
  pub tells : (files : Option Folder) (list : Option Bytes) (units : List Listed) → Tells files file list → AreListed list units → AreTold files units → TellsSources order files (with_units list units)
  pub fetched : (list : Option Bytes) (units : List Listed) (e e1 : FileCalls) → HasFetched (Some file) None None units e e1 → HasFetchedDue order (with_units list units) e e1
  pub last : (list : Option Bytes) (units : List Listed) (k k1 : Counts) → LastRose (Some file) None None units k k1 → LastDueRose order (with_units list units) k k1

pub join_takes : (file to : Bytes) → TakesList (join file to) file
join_takes file to = record {
  sources = λ list units. refl;
  reads = λ list units. refl;
  tells = λ files list units holds listed hold. record { file = holds; derivation = tt; listed = listed; units = hold };
  fetched = λ list units e e1 was. was;
  last = λ list units k k1 was. was;
}

pub link_takes : (file to : Bytes) (stack : Option ℕ) → TakesList (link file to stack) file
link_takes file to stack = record {
  sources = λ list units. refl;
  reads = λ list units. refl;
  tells = λ files list units holds listed hold. record { file = holds; derivation = tt; listed = listed; units = hold };
  fetched = λ list units e e1 was. was;
  last = λ list units k k1 was. was;
}

-- work on the units of a list was stopped
pub serves_unlisted : (order : Order) (file : Bytes) (b c : Contents) (k k1 : Counts) (e e1 : FileCalls) (stop : Stop) → TakesList order file → c ≡ b → WasUnlisted file b.files k k1 e e1 stop → Serves (Some order) b c k k1 e e1 (Err stop)
serves_unlisted order file b c k k1 e e1 stop takes same was =
    let sources = with_units was.list was.units in
    serves_stopped order sources b c k k1 e e1 stop (takes.tells b.files was.list was.units was.told was.listed was.units_told) same
    (faulted_keeps (reads_of order sources) (keeps_of order) stop k k1 (subst (λ (names : List Bytes). Faulted names [] stop k k1) (sym (takes.reads was.list was.units)) was.faulted)) was.other
    (λ is. takes.last was.list was.units k k1 (was.fetched is)) (called_fetched order sources (told 7 []) _ e e1 (takes.fetched was.list was.units e e1 was.called))

-- the status of units that aren't linked is its own
own_same : (x y : ℕ × Note) → Some x ≡ Some y → IsOwn x.0 → IsOwn y.0
own_same x y is own = let same : x ≡ y = cc in subst (λ (p : ℕ × Note). IsOwn p.0) same own

own_of : (error : LinkError) (status : ℕ) (why : Note) → link_note error ≡ Some (status, why) → IsOwn status
own_of (linking.Double j) status why is = own_same (11, note.Link (unlinked.Double j)) (status, why) is (λ clash. cc, λ clash. cc)
own_of (linking.Missing j) status why is = own_same (11, note.Link (unlinked.Missing j)) (status, why) is (λ clash. cc, λ clash. cc)
own_of (linking.Interface j) status why is = own_same (11, note.Link (unlinked.Interface j)) (status, why) is (λ clash. cc, λ clash. cc)
own_of linking.NotMain status why is = own_same (11, note.Link unlinked.Main) (status, why) is (λ clash. cc, λ clash. cc)
own_of (linking.Text r) status why is = own_same (2, note.Refused r) (status, why) is (λ clash. cc, λ clash. cc)
own_of linking.TooLarge status why is = own_same (11, note.Link unlinked.Size) (status, why) is (λ clash. cc, λ clash. cc)
own_of linking.OutOfMemory status why is = absurd cc

pub not_linked_own : {list : Bytes} {files : List Listed} {status : ℕ} {why : Note} → IsNotLinked list files status why → IsOwn status
not_linked_own (no_list is) = (λ clash. cc, λ clash. cc)
not_linked_own (no_object j lists is) = (λ clash. cc, λ clash. cc)
not_linked_own (not_linked_units names values error status why holds is told) = own_of error status why told

pub serves_not_linked : (order : Order) (file list : Bytes) (units : List Listed) (status : ℕ) (why : Note) (b c d : Contents) (k k1 k2 : Counts) (e e1 e2 : FileCalls) (result : Result ℕ Stop) → TakesList order file
    → IsNotLinked list units status why → After order (with_units (Some list) units) b c d k k1 k2 e e1 e2 result → result ≢ Err Memory → Did (told status (why ∷ [])) c d result → e2 ≡ e1 → Serves (Some order) b d k k2 e e2 result
serves_not_linked order file list units status why b c d k k1 k2 e e1 e2 result takes is a ready did same =
    done_quietly order (with_units (Some list) units) b c d k k1 k2 e e1 e2 result _ a (λ input. not_linked order list status why (takes.sources (Some list) units) is) did (λ _ memory. absurd (ready memory)) (λ _ _. called_none e1 e2 same)

-- `join` of units that are linked
pub serves_join : (file to list : Bytes) (units : List Listed) (linked : Linked) (b c d : Contents) (k k1 k2 : Counts) (e e1 e2 : FileCalls) (result : Result ℕ Stop) → IsLinkedBy list units linked
    → After (join file to) (with_units (Some list) units) b c d k k1 k2 e e1 e2 result → KeepsSuch (λ kept. kept ≡ linked.text) to c d result → Serves (Some (join file to)) b d k k2 e e2 result
serves_join file to list units linked b c d k k1 k2 e e1 e2 result is a (inl unbegun) = none_done (join file to) (with_units (Some list) units) b c d k k1 k2 e e1 e2 result a unbegun
serves_join file to list units linked b c d k k1 k2 e e1 e2 result is a (inr was) =
    done_quietly (join file to) (with_units (Some list) units) b c d k k1 k2 e e1 e2 result _ a (λ input. joins file to list linked refl is)
    (subst (λ kept. Did (record { status = 0; output = []; notes = []; kept = Some (to, kept); rest = None; running = None }) c d result) was.spelled was.did) (λ _ memory. absurd (was.ready memory)) (λ none. absurd cc)

-- `link` of units whose shapes pass a limit
pub serves_misshaped : (file to : Bytes) (stack : Option ℕ) (list : Bytes) (units : List Listed) (why : Refusal) (b c d : Contents) (k k1 k2 : Counts) (e e1 e2 : FileCalls) (result : Result ℕ Stop) → PassesShapes list units why
    → After (link file to stack) (with_units (Some list) units) b c d k k1 k2 e e1 e2 result → result ≢ Err Memory → Did (told 2 (note.Refused why ∷ [])) c d result → e2 ≡ e1 → Serves (Some (link file to stack)) b d k k2 e e2 result
serves_misshaped file to stack list units why b c d k k1 k2 e e1 e2 result is a ready did same =
    done_quietly (link file to stack) (with_units (Some list) units) b c d k k1 k2 e e1 e2 result _ a (λ input. misshapes file to stack list why refl is) did (λ _ memory. absurd (ready memory)) (λ _ _. called_none e1 e2 same)

-- `link` of units
pub serves_link : (file to : Bytes) (stack : Option ℕ) (list : Bytes) (units : List Listed) (linked : Linked) (program : Program) (b c d : Contents) (k k1 k2 : Counts) (e e1 e2 : FileCalls) (result : Result ℕ Stop) → IsLinkedBy list units linked
    → program.phrase ≡ linked.phrase → program.derivation ≡ linked.derivation → IsBuildable program → After (link file to stack) (with_units (Some list) units) b c d k k1 k2 e e1 e2 result
    → Builds program (stack_wanted stack) to c d result → Serves (Some (link file to stack)) b d k k2 e e2 result
serves_link file to stack list units linked program b c d k k1 k2 e e1 e2 result is phrase by buildable a (inl unbegun) = none_done (link file to stack) (with_units (Some list) units) b c d k k1 k2 e e1 e2 result a unbegun
serves_link file to stack list units linked program b c d k k1 k2 e e1 e2 result is phrase by buildable a (inr has) = kept has.keeps
  where
    order : Order
    order = link file to stack

    kept : Keeps has.image to c d result → Serves (Some order) b d k k2 e e2 result
    kept (inl unbegun) = none_done order (with_units (Some list) units) b c d k k1 k2 e e1 e2 result a unbegun
    kept (inr was) =
        let image = subst (λ d. IsImageBy (reads linked.phrase) d (stack_wanted stack) has.image) (ap plain_derivation by)
        (subst (λ p. IsImageBy p (plain_derivation program.derivation) (stack_wanted stack) has.image) (ap reads phrase) (by_image program (stack_wanted stack) has.image buildable has.is)) in
        done_quietly order (with_units (Some list) units) b c d k k1 k2 e e1 e2 result _ a (λ input. links file to stack list linked has.image was.bytes refl is image was.spelled) was.did (λ _ memory. absurd (was.ready memory)) (λ none. absurd cc)
