-- From the parts of a command's work to what is due for the words.
use Rattle.std.proofs.Common.{◌≡◌, ◌≢◌, ℕ, ◌<◌, List, [], ◌∷◌, ◌++◌, sym, ◌∙◌, refl, subst, inl, inr, Some, None, false, arith}
use Rattle.std.proofs.lemmas.List.Elements.{All-nil}
use Rattle.std.specs.Prelude.{IfOk, length}
use Rattle.std.specs.Option.{ForSome, option_to_list}
use Rattle.std.specs.declared.option.Option.{Option}
use Rattle.std.specs.declared.result.Result.{Result}
use Rattle.std.specs.declared.result.Result.TheVariants.{Err}
use Rattle.fy_base.specs.Outside.{Bytes, FileCalls, Folder, Rose}
use Rattle.fy_words.specs.Order.{Order}
use Rattle.fy_world.specs.World.{Contents, Counts}
use Rattle.fy_world.specs.Counted.{Faulted, Counted, HasCalled, IsReadStop}
use Rattle.fy_build.specs.Headline.{AreBytes}
use Rattle.fy_world.specs.Runs.{Due, told}
use Rattle.fy_world.specs.Did.{Did, IsOwn}
use Rattle.fy_world.specs.Working.{IsUnbegun}
use Rattle.fy_world.specs.declared.note.Note.{Note}
use Rattle.fy_world.specs.declared.note.Note.TheVariants as note
use Rattle.fy_world.specs.declared.world.Stop.{Stop}
use Rattle.fy_world.specs.declared.world.Stop.TheVariants.{Fetch, Memory}
use Rattle.fy_world.proofs.Counting.{called_none, called_same, short_of_memory, faulted_keeps, counted_after, counted_reads}
use Rattle.fy_world.proofs.Keeping.{some_input}
use Rattle.fy_world.proofs.Parts.{content_of, part_none}
use Rattle.fy_tool.specs.Given.{IsTurnedDown, by_text, before_typing, by_derivation, by_shapes}
use Rattle.fy_tool.specs.Due.{Sources, TellsNamed, TellsSources, IsDue, usage, stopped, turned_down, tells_lines, named_by, text_of, list_of, file_of, AreListed, reads_of, keeps_of, IsReadyFirst, RunsImage}
use Rattle.fy_tool.specs.Units.{Listed}
use Rattle.fy_tool.specs.Fetched.{AreFetched, no_file, just_file, HasFetched, HasFetchedDue, LastRose, LastDueRose}
use Rattle.fy_tool.specs.Answers.{Called, Serves}
use Rattle.fy_tool.specs.Working.{WasUngiven}
use Rattle.fy_tool.proofs.ReadUnits.{faulted_before, the_one}

abbrev failed : Stop → Result ℕ Stop
failed stop = Err stop

-- work that fetches no file stops by no fetch
unfetching : (keeps : List Bytes) (k k1 : Counts) (result : Result ℕ Stop) → Counted [] keeps k k1 result → result ≢ Err Fetch
unfetching keeps k k1 result counted is =
    let fault : Faulted [] keeps Fetch k k1 = subst (λ (r : Result ℕ Stop). Counted [] keeps k k1 r) is counted in
    let lt : fault.caused.0 < 0 = fault.caused.2 in
    omega arith

-- words that are no command
pub serves_usage : (b c : Contents) (k k1 : Counts) (e e1 : FileCalls) (result : Result ℕ Stop) → Counted [] [] k k1 result → IfOk result IsOwn → result ≢ Err Memory
    → Did (told 5 (note.Usage ∷ [])) b c result → e1 ≡ e → Serves None b c k k1 e e1 result
serves_usage b c k k1 e e1 result counted own ready did same =
    let input = some_input b.input in
    record {
      counted = counted;
      called = record { names = []; are = refl; called = called_none e e1 same; unkept = λ _ _. called_none e e1 same };
      own = own;
      due = told 5 (note.Usage ∷ []);
      explained = record {
        sources = record { file = None; derivation = None; units = [] };
        told = tt;
        input = input.0;
        fed = input.1;
        bytes = λ _. input.2;
        is_due = usage;
      };
      fetched = λ is. absurd (unfetching [] k k1 result counted is);
      did = did;
      ready = λ _ memory. absurd (ready memory);
    }

-- what a file holds that may be named
pub named_content : (files : Option Folder) (name : Option Bytes) → (content : Option Bytes) × TellsNamed files name content
named_content files None = (None, tt)
named_content files (Some name) = content_of files name

-- no file on a list is read
pub none_listed : (list : Option Bytes) → AreListed list []
none_listed None = refl
none_listed (Some list) = inl refl

-- what the files hold that an order reads which takes no list
abbrev pub holding : Option Bytes → Option Bytes → Sources
holding file derivation = record { file = file; derivation = derivation; units = [] }

pub tells : (order : Order) (files : Option Folder) (file derivation : Option Bytes) → TellsNamed files (file_of order) file → TellsNamed files (named_by order) derivation → TellsSources order files (holding file derivation)
tells order files file derivation holds holds_named = record { file = holds; derivation = holds_named; listed = none_listed (list_of order (holding file derivation)); units = All-nil _ }

-- ---- how often files are fetched

-- the file that is named, if one is, is fetched first
fetched_first : (file named text : Option Bytes) (units : List Listed) → AreFetched file named text units (option_to_list file)
fetched_first None named text units = no_file
fetched_first (Some name) named text units = just_file name refl

pub fetched_file : (order : Order) (sources : Sources) (e e1 : FileCalls) → HasCalled (length (option_to_list (file_of order))) 0 e e1 → HasFetchedDue order sources e e1
fetched_file order sources e e1 called =
    record { names = option_to_list (file_of order); are = fetched_first (file_of order) (named_by order) (text_of order sources) sources.units; called = called }

-- and then work that keeps nothing unless a file is due to be kept, or memory was wanting
all_called : (order : Order) (sources : Sources) (due : Due) (Wanting : Type 0) (e e1 e2 : FileCalls) → HasFetchedDue order sources e e1 → HasCalled 0 (length (keeps_of order)) e1 e2
    → (due.kept ≡ None → ¬ Wanting → HasCalled 0 0 e1 e2) → Called (Some order) sources due Wanting e e2
all_called order sources due Wanting e e1 e2 fetched kept unkept = record {
  names = fetched.names;
  are = fetched.are;
  called = behind (length (keeps_of order)) kept;
  unkept = λ none not. behind 0 (unkept none not);
}
  where
    behind : (keeps : ℕ) → HasCalled 0 keeps e1 e2 → HasCalled (length fetched.names) keeps e e2
    behind keeps h = let first = fetched.called in record { fetched = let x = first.fetched in let y = h.fetched in omega arith; kept = let x = first.kept in let y = h.kept in omega arith }

-- nothing was kept
pub called_fetched : (order : Order) (sources : Sources) (due : Due) (Wanting : Type 0) (e e1 : FileCalls) → HasFetchedDue order sources e e1 → Called (Some order) sources due Wanting e e1
called_fetched order sources due Wanting e e1 fetched =
    all_called order sources due Wanting e e1 e1 fetched (called_same 0 (length (keeps_of order)) e1 e1 refl) (λ _ _. called_none e1 e1 refl)

-- ---- stops

-- a call that was stopped before it did anything
pub serves_stopped : (order : Order) (sources : Sources) (b c : Contents) (k k1 : Counts) (e e1 : FileCalls) (stop : Stop) → TellsSources order b.files sources → c ≡ b → Faulted (reads_of order sources) (keeps_of order) stop k k1 → IsReadStop stop
    → (stop ≡ Fetch → LastDueRose order sources k k1) → Called (Some order) sources (told 7 []) (failed stop ≡ Err Memory) e e1 → Serves (Some order) b c k k1 e e1 (Err stop)
serves_stopped order sources b c k k1 e e1 stop held same fault other fetch called =
    let input = some_input b.input in
    let due = told 7 [] in
    record {
      counted = fault;
      own = tt;
      due = due;
      explained = record { sources = sources; told = held; input = input.0; fed = input.1; bytes = λ _. input.2; is_due = stopped order };
      fetched = λ is. (refl, fetch cc);
      called = called;
      did = subst (λ (c : Contents). Did due b c (Err stop)) (sym same) (part_none b stop other);
      ready = λ _ _. same;
    }

-- the file that an order names is the only one that stopped the work
last_first : (order : Order) (sources : Sources) (k k1 : Counts) (stop : Stop) → Faulted (option_to_list (file_of order)) [] stop k k1 → stop ≡ Fetch → LastDueRose order sources k k1
last_first order sources k k1 stop fault is = of (file_of order) (subst (λ (s : Stop). Faulted (option_to_list (file_of order)) [] s k k1) is fault)
  where
    of : (file : Option Bytes) → Faulted (option_to_list file) [] Fetch k k1 → LastRose file (named_by order) (text_of order sources) sources.units k k1
    of None fault = let lt : fault.caused.0 < 0 = fault.caused.2 in absurd (omega arith)
    of (Some file) fault = record { first = []; name = file; are = just_file file refl; rose = the_one (λ name. Rose (k.fetches name) (k1.fetches name)) file fault.caused }

-- the file that an order names wasn't fetched
pub serves_unread : (order : Order) (b c : Contents) (k k1 : Counts) (e e1 : FileCalls) (stop : Stop) → c ≡ b → Faulted (option_to_list (file_of order)) [] stop k k1 → IsReadStop stop
    → HasCalled (length (option_to_list (file_of order))) 0 e e1 → Serves (Some order) b c k k1 e e1 (Err stop)
serves_unread order b c k k1 e e1 stop same fault other called =
    let file = named_content b.files (file_of order) in
    let derivation = named_content b.files (named_by order) in
    let sources = holding file.0 derivation.0 in
    let all = faulted_before (option_to_list (file_of order)) (option_to_list (named_by order)) stop k k1 fault in
    serves_stopped order sources b c k k1 e e1 stop (tells order b.files file.0 derivation.0 file.1 derivation.1) same (faulted_keeps (reads_of order sources) (keeps_of order) stop k k1 all) other
    (last_first order sources k k1 stop fault) (called_fetched order sources (told 7 []) (failed stop ≡ Err Memory) e e1 (fetched_file order sources e e1 called))

moved : (P : Option Bytes → Option Bytes → Type 0) (file file' text text' : Option Bytes) → file' ≡ file → text' ≡ text → P file text → P file' text'
moved P file file' text text' same same' is = subst (λ t. P file' t) (sym same') (subst (λ f. P f text) (sym same) is)

-- the text, or the derivation behind it, wasn't fetched
pub serves_ungiven : (order : Order) (file : Bytes) (b c : Contents) (k k1 : Counts) (e e1 : FileCalls) (stop : Stop) → file_of order ≡ Some file → ((sources : Sources) → text_of order sources ≡ sources.file) → c ≡ b
    → Faulted (option_to_list (file_of order) ++ option_to_list (named_by order)) [] stop k k1 → IsReadStop stop → WasUngiven file (named_by order) b.files k k1 e e1 stop → Serves (Some order) b c k k1 e e1 (Err stop)
serves_ungiven order file b c k k1 e e1 stop named takes same fault other was =
    let derivation = named_content b.files (named_by order) in
    let sources = holding was.text derivation.0 in
    let held = subst (λ (f : Option Bytes). TellsNamed b.files f was.text) (sym named) was.told in
    let fetched = moved (λ f t. HasFetched f (named_by order) t [] e e1) (Some file) (file_of order) was.text (text_of order sources) named (takes sources) was.called in
    serves_stopped order sources b c k k1 e e1 stop (tells order b.files was.text derivation.0 held derivation.1) same (faulted_keeps (reads_of order sources) (keeps_of order) stop k k1 fault) other
    (λ is. moved (λ f t. LastRose f (named_by order) t [] k k1) (Some file) (file_of order) was.text (text_of order sources) named (takes sources) (was.fetched is)) (called_fetched order sources (told 7 []) (failed stop ≡ Err Memory) e e1 fetched)

-- memory was wanting before anything was read
pub serves_nothing : (order : Order) (b : Contents) (k : Counts) (e : FileCalls) (stop : Stop) → stop ≡ Memory → Serves (Some order) b b k k e e (Err stop)
serves_nothing order b k e stop memory =
    serves_unread order b b k k e e stop refl (short_of_memory _ _ stop k k memory refl) (inr memory) (called_same (length (option_to_list (file_of order))) 0 e e refl)

-- what a call did after its files were read, which changed nothing
pub record After (order : Order) (sources : Sources) (b c d : Contents) (k k1 k2 : Counts) (e e1 e2 : FileCalls) (result : Result ℕ Stop) : Type 0 where
  held : TellsSources order b.files sources
  same : c ≡ b
  first : k1 ≡ k
  fetched : HasFetchedDue order sources e e1
  own : IfOk result IsOwn
  counted : Counted [] (keeps_of order) k1 k2 result
  pub kept : HasCalled 0 (length (keeps_of order)) e1 e2

pub after : (order : Order) (sources : Sources) (b c d : Contents) (k k1 k2 : Counts) (e e1 e2 : FileCalls) (result : Result ℕ Stop) → TellsSources order b.files sources → c ≡ b → k1 ≡ k → HasFetchedDue order sources e e1
    → IfOk result IsOwn → Counted [] (keeps_of order) k1 k2 result → HasCalled 0 (length (keeps_of order)) e1 e2 → After order sources b c d k k1 k2 e e1 e2 result
after order sources b c d k k1 k2 e e1 e2 result held same first fetched own counted kept = record { held = held; same = same; first = first; fetched = fetched; own = own; counted = counted; kept = kept }

all_counted : (order : Order) (sources : Sources) (b c d : Contents) (k k1 k2 : Counts) (e e1 e2 : FileCalls) (result : Result ℕ Stop) → After order sources b c d k k1 k2 e e1 e2 result → Counted (reads_of order sources) (keeps_of order) k k2 result
all_counted order sources b c d k k1 k2 e e1 e2 result a = counted_reads (reads_of order sources) (keeps_of order) k k2 result (counted_after [] (keeps_of order) k k1 k2 result a.first a.counted)

-- what was done is what is due
pub done : (order : Order) (sources : Sources) (b c d : Contents) (k k1 k2 : Counts) (e e1 e2 : FileCalls) (result : Result ℕ Stop) (due : Due) (input : Bytes) → After order sources b c d k k1 k2 e e1 e2 result → ForSome c.input (λ left. input ≡ left)
    → (RunsImage order → ForSome c.input AreBytes → AreBytes input) → IsDue sources input (Some order) due → Did due c d result → (IsReadyFirst order → result ≡ Err Memory → d ≡ c)
    → (due.kept ≡ None → result ≢ Err Memory → HasCalled 0 0 e1 e2) → Serves (Some order) b d k k2 e e2 result
done order sources b c d k k1 k2 e e1 e2 result due input a fed bytes is_due did ready unkept = record {
  own = a.own;
  due = due;
  explained = record {
    sources = sources;
    told = a.held;
    input = input;
    fed = subst (λ (x : Contents). ForSome x.input (λ left. input ≡ left)) a.same fed;
    bytes = subst (λ (x : Contents). RunsImage order → ForSome x.input AreBytes → AreBytes input) a.same bytes;
    is_due = is_due;
  };
  counted = all_counted order sources b c d k k1 k2 e e1 e2 result a;
  called = all_called order sources due (result ≡ Err Memory) e e1 e2 a.fetched a.kept unkept;
  fetched = λ is. absurd (unfetching (keeps_of order) k1 k2 result a.counted is);
  did = subst (λ (x : Contents). Did due x d result) a.same did;
  ready = λ first memory. ready first memory ∙ a.same;
}

-- the same, where no image is run
pub done_quietly : (order : Order) (sources : Sources) (b c d : Contents) (k k1 k2 : Counts) (e e1 e2 : FileCalls) (result : Result ℕ Stop) (due : Due) → After order sources b c d k k1 k2 e e1 e2 result
    → ((input : Bytes) → IsDue sources input (Some order) due) → Did due c d result → (IsReadyFirst order → result ≡ Err Memory → d ≡ c)
    → (due.kept ≡ None → result ≢ Err Memory → HasCalled 0 0 e1 e2) → Serves (Some order) b d k k2 e e2 result
done_quietly order sources b c d k k1 k2 e e1 e2 result due a is_due did ready unkept =
    let input = some_input c.input in
    done order sources b c d k k1 k2 e e1 e2 result due input.0 a input.1 (λ _. input.2) (is_due input.0) did ready unkept

-- nothing was done, as memory was wanting
pub none_done : (order : Order) (sources : Sources) (b c d : Contents) (k k1 k2 : Counts) (e e1 e2 : FileCalls) (result : Result ℕ Stop) → After order sources b c d k k1 k2 e e1 e2 result → IsUnbegun c d result
    → Serves (Some order) b d k k2 e e2 result
none_done order sources b c d k k1 k2 e e1 e2 result a unbegun =
    subst (λ r. Serves (Some order) b d k k2 e e2 r) (sym unbegun.memory)
    (serves_stopped order sources b d k k2 e e2 Memory a.held (unbegun.same ∙ a.same)
    (subst (λ r. Counted (reads_of order sources) (keeps_of order) k k2 r) unbegun.memory (all_counted order sources b c d k k1 k2 e e1 e2 result a)) (inr refl) (λ clash. absurd cc)
    (all_called order sources (told 7 []) (failed Memory ≡ Err Memory) e e1 e2 a.fetched a.kept (λ _ wanted. absurd (wanted refl))))

-- ---- what is turned down

-- its status is its own
pub down_own : {text : Bytes} {named written : Option Bytes} {status : ℕ} {why : Note} → IsTurnedDown text named written status why → IsOwn status
down_own (by_text written why is) = (λ clash. cc, λ clash. cc)
down_own (before_typing name written cause why is told) = (λ clash. cc, λ clash. cc)
down_own (by_derivation name written p why is refused) = (λ clash. cc, λ clash. cc)
down_own (by_shapes name written p d error why is spells accepted shaping told) = (λ clash. cc, λ clash. cc)

pub serves_down : (order : Order) (sources : Sources) (text : Bytes) (status : ℕ) (why : Note) (b c d : Contents) (k k1 k2 : Counts) (e e1 e2 : FileCalls) (result : Result ℕ Stop) → text_of order sources ≡ Some text → tells_lines order why ≡ false
    → IsTurnedDown text (named_by order) sources.derivation status why → After order sources b c d k k1 k2 e e1 e2 result → result ≢ Err Memory → Did (told status (why ∷ [])) c d result → e2 ≡ e1
    → Serves (Some order) b d k k2 e e2 result
serves_down order sources text status why b c d k k1 k2 e e1 e2 result is_text silent is a ready did same =
    done_quietly order sources b c d k k1 k2 e e1 e2 result (told status (why ∷ [])) a (λ input. turned_down order text status why is_text silent is) did (λ _ memory. absurd (ready memory)) (λ _ _. called_none e1 e2 same)

-- ---- texts for which no derivation is named

-- what the files hold then
abbrev pub only : Bytes → Sources
only content = holding (Some content) None
