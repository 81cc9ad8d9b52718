-- Units in the files on a list, read one after another.
use Rattle.std.proofs.Common.{◌≡◌, ◌⊎◌, ℕ, zero, suc, ◌+◌, ◌*◌, ◌≤◌, ◌<◌, List, [], ◌∷◌, ◌++◌, length, map, take, drop, get_or, refl, sym, ap, ◌∙◌, subst, arith, inl, inr, Some, None, Ok, Err}
use Rattle.std.proofs.lemmas.List.{map-append, length-map, length-append, length_push, take-append-drop, take_all}
use Rattle.std.proofs.lemmas.List.Elements.{All-nil, All-cons, All-append, All-push, All-weaker}
use Rattle.std.specs.Borrow.{Bor}
use Rattle.std.specs.Prelude.{All, Any}
use Rattle.std.specs.declared.option.Option.{Option}
use Rattle.fy_base.specs.Outside.{Bytes, FileCalls, Folder, Rose, Tells, once_fetched}
use Rattle.fy_lexer.specs.Tokens.{HasAdded}
use Rattle.fy_link.specs.UnitBytes.{IsBadUnit}
use Rattle.fy_link.specs.Units.{IsUnit}
use Rattle.fy_link.specs.declared.error.UnitReadError.TheVariants as unread
use Rattle.fy_link.specs.declared.unit.Unit.{Unit as UnitValue}
use Rattle.fy_link.proofs.Made.{unit-later}
use Rattle.fy_types.specs.Names.{first_names}
use Rattle.fy_world.specs.World.{Contents, Counts}
use Rattle.fy_world.specs.Counted.{Caused, Faulted, HasCalled}
use Rattle.fy_world.specs.declared.world.Stop.{Stop}
use Rattle.fy_world.specs.declared.world.Stop.TheVariants.{Fetch, Keep, Input, Output, Notes, Memory}
use Rattle.fy_world.proofs.Counting.{called_both, called_fetch, called_more, faulted_after}
use Rattle.fy_world.proofs.Parts.{content_of}
use Rattle.fy_tool.specs.Due.{AreTold}
use Rattle.fy_tool.specs.Units.{Listed, names_of, AreUnitsRead, none, one_more, IsBadObject}
use Rattle.fy_tool.specs.Working.{ReadsObject, ReadsObjects, HasReadTo, no_unit, up_to, StopsObjects}
use Rattle.fy_tool.specs.declared.objects.Objects.{Objects}
use Rattle.fy_tool.proofs.Lists.{all_now, taken_now}

-- ---- what the files hold

abbrev Holds : Option Folder → Listed → Type 0
Holds files unit = Tells files unit.name unit.content

-- files with these names, and what they hold
pub record Found (files : Option Folder) (names : List Bytes) : Type 0 where
  pub units : List Listed
  pub named : names_of units ≡ names
  pub told : AreTold files units

pub found : (files : Option Folder) (names : List Bytes) → Found files names
found files [] = record { units = []; named = refl; told = All-nil (Holds files) }
found files (name ∷ names) =
    let content = content_of files name in
    let behind = found files names in
    let unit : Listed = record { name = name; content = content.0 } in
    record { units = unit ∷ behind.units; named = ap (λ ns. name ∷ ns) behind.named; told = All-cons (Holds files) unit behind.units content.1 behind.told }

-- ---- what is read so far

-- the first files hold units, of which there are these, with these names
pub record ReadSoFar (files : Option Folder) (names : List Bytes) (values : List UnitValue) (known : List Bytes) : Type 0 where
  pub units : List Listed
  pub named : names_of units ≡ names
  pub told : AreTold files units
  pub read : AreUnitsRead units values known
  pub are : All (IsUnit known) values
  pub few : length known ≤ 1000 + 20000000 * length names

pub none_read : (files : Option Folder) (values : List UnitValue) (known : List Bytes) → values ≡ [] → known ≡ first_names → ReadSoFar files [] values known
none_read files values known empty is = subst (λ vs. ReadSoFar files [] vs known) (sym empty) (record { units = []; named = refl; told = All-nil (Holds files); read = subst (AreUnitsRead [] []) (sym is) none; are = All-nil (IsUnit known); few = let h : length first_names ≡ 13 = refl in omega (arith, h, ap length is) })

named_push : (units : List Listed) (unit : Listed) (names : List Bytes) → names_of units ≡ names → names_of (units ++ unit ∷ []) ≡ names ++ unit.name ∷ []
named_push units unit names is = map-append (λ (file : Listed). file.name) units (unit ∷ []) ∙ ap (λ ns. ns ++ unit.name ∷ []) is

pub read_more : (files : Option Folder) (names : List Bytes) (values : List UnitValue) (known after : List Bytes) (name : Bytes) (value : UnitValue) → ReadSoFar files names values known
    → ReadsObject name files known after (Some value) → HasAdded known after → length after ≤ length known + 20000000 → ReadSoFar files (names ++ name ∷ []) (values ++ value ∷ []) after
read_more files names values known after name value so_far object more most =
    let unit : Listed = record { name = name; content = Some object.bytes } in
    let few = so_far.few in
    let one_more_name = length_push names name in
    record {
      units = so_far.units ++ unit ∷ [];
      named = named_push so_far.units unit names so_far.named;
      told = All-push (Holds files) so_far.units unit so_far.told object.told;
      read = one_more name object.bytes value after so_far.read object.is.0 object.is.1;
      are = All-push (IsUnit after) values value (All-weaker (IsUnit known) (IsUnit after) (λ u is. unit-later known after u more is) values so_far.are) object.is.2;
      few = omega arith;
    }

length_named : (units : List Listed) (names : List Bytes) → names_of units ≡ names → length units ≡ length names
length_named units names is = sym (length-map units (λ (file : Listed). file.name)) ∙ ap length is

-- a file that holds no unit, behind those that do
pub read_bad : (files : Option Folder) (names : List Bytes) (values : List UnitValue) (known after : List Bytes) (name : Bytes) (rest all : List Bytes) → ReadSoFar files names values known
    → ReadsObject name files known after None → all ≡ names ++ name ∷ rest → ReadsObjects all files (Err (length names))
read_bad files names values known after name rest all so_far object are =
    let unit : Listed = record { name = name; content = Some object.bytes } in
    let behind = found files rest in
    record {
      units = so_far.units ++ unit ∷ behind.units;
      named = map-append (λ (file : Listed). file.name) so_far.units (unit ∷ behind.units) ∙ (λ i. so_far.named i ++ name ∷ behind.named i) ∙ sym are;
      told = All-append (Holds files) so_far.units (unit ∷ behind.units) so_far.told (All-cons (Holds files) unit behind.units object.told behind.told);
      is = record {
        before = so_far.units;
        name = name;
        bytes = object.bytes;
        behind = behind.units;
        are = refl;
        number = length_named so_far.units names so_far.named;
        values = values;
        names = known;
        read = so_far.read;
        bad = object.is;
      };
    }

-- all files hold units
pub read_all : (files : Option Folder) (names : List Bytes) (objects : Objects) → ReadSoFar files names objects.units objects.names → length names ≤ 64 → ReadsObjects names files (Ok objects)
read_all files names objects so_far few = record {
  units = so_far.units;
  named = so_far.named;
  told = so_far.told;
  is = (so_far.read, so_far.are, let most = so_far.few in omega arith);
}

-- a file whose bytes are no unit's
pub holds_none : (file : Bytes) (files : Option Folder) (before after : List Bytes) (bytes : Bytes) → Tells files file (Some bytes) → (unread.BadUnit ≡ unread.OutOfMemory) ⊎ IsBadUnit before bytes
    → ReadsObject file files before after None
holds_none file files before after bytes holds (inl memory) = absurd cc
holds_none file files before after bytes holds (inr bad) = record { bytes = bytes; told = holds; is = inr bad }

-- ---- a name among others

any_at : (P : Bytes → Type 0) (before : List Bytes) (name : Bytes) (behind : List Bytes) → P name → Any P (before ++ name ∷ behind)
any_at P [] name behind p = (0, name, omega arith, refl, p)
any_at P (x ∷ before) name behind p = let a = any_at P before name behind p in (suc a.0, a.1, omega (arith, a.2), a.3, a.4)

pub the_one : (P : Bytes → Type 0) (name : Bytes) → Any P (name ∷ []) → P name
the_one P name (zero, x, lt, is, p) = subst P (sym is) p
the_one P name (suc k, x, lt, is, p) = absurd (omega arith)

caused_among : (before : List Bytes) (name : Bytes) (behind : List Bytes) (stop : Stop) (k k1 : Counts) → Caused (name ∷ []) [] stop k k1 → Caused (before ++ name ∷ behind) [] stop k k1
caused_among before name behind Fetch k k1 c = any_at _ before name behind (the_one _ name c)
caused_among before name behind Keep k k1 c = c
caused_among before name behind Input k k1 c = c
caused_among before name behind Output k k1 c = c
caused_among before name behind Notes k k1 c = c
caused_among before name behind Memory k k1 c = c

pub faulted_among : (before : List Bytes) (name : Bytes) (behind all : List Bytes) (stop : Stop) (k k1 : Counts) → all ≡ before ++ name ∷ behind → Faulted (name ∷ []) [] stop k k1 → Faulted all [] stop k k1
faulted_among before name behind all stop k k1 are fault =
    subst (λ (names : List Bytes). Faulted names [] stop k k1) (sym are)
    (record { caused = caused_among before name behind stop k k1 fault.caused; later = fault.later; others = fault.others })

any_before : (P : Bytes → Type 0) (names behind : List Bytes) → Any P names → Any P (names ++ behind)
any_before P [] behind (k, x, lt, is, p) = absurd (omega arith)
any_before P (name ∷ names) behind (zero, x, lt, is, p) = (0, x, omega arith, is, p)
any_before P (name ∷ names) behind (suc k, x, lt, is, p) = let a = any_before P names behind (k, x, omega arith, is, p) in (suc a.0, a.1, omega (arith, a.2), a.3, a.4)

caused_before : (names behind : List Bytes) (stop : Stop) (k k1 : Counts) → Caused names [] stop k k1 → Caused (names ++ behind) [] stop k k1
caused_before names behind Fetch k k1 c = any_before _ names behind c
caused_before names behind Keep k k1 c = c
caused_before names behind Input k k1 c = c
caused_before names behind Output k k1 c = c
caused_before names behind Notes k k1 c = c
caused_before names behind Memory k k1 c = c

pub faulted_before : (names behind : List Bytes) (stop : Stop) (k k1 : Counts) → Faulted names [] stop k k1 → Faulted (names ++ behind) [] stop k k1
faulted_before names behind stop k k1 fault = record { caused = caused_before names behind stop k k1 fault.caused; later = fault.later; others = fault.others }

-- ---- file by file

pub counted_units : {files : List Listed} {values : List UnitValue} {names : List Bytes} → AreUnitsRead files values names → length files ≡ length values
counted_units none = refl
counted_units (one_more {files = files} {values = values} name bytes value after read short is) =
    let before = counted_units read in
    let one = length_push files (record { name = name; content = Some bytes }) in
    let other = length_push values value in
    omega arith

-- the names of the first files
abbrev pub firsts : ℕ → List (Bor Bytes) → List Bytes
firsts i files = map (λ (file : Bor Bytes). file.now) (take i files)

few_firsts : (i : ℕ) (files : List (Bor Bytes)) → length files ≤ 64 → length (firsts i files) ≤ 64
few_firsts i files few =
    let mapped = length-map (take i files) (λ (file : Bor Bytes). file.now) in
    let both = length-append (take i files) (drop i files) in
    let whole = ap length (take-append-drop i files) in
    omega arith

pub few_known : (held : Option Folder) (i : ℕ) (files : List (Bor Bytes)) (values : List UnitValue) (known : List Bytes) → length files ≤ 64 → ReadSoFar held (firsts i files) values known → length known ≤ 3000000000
few_known held i files values known few so_far =
    let some = few_firsts i files few in
    let most = so_far.few in
    omega arith

pub few_values : (held : Option Folder) (i : ℕ) (files : List (Bor Bytes)) (values : List UnitValue) (known : List Bytes) → length files ≤ 64 → ReadSoFar held (firsts i files) values known → length values ≤ 64
few_values held i files values known few so_far =
    let some = few_firsts i files few in
    let named = length_named so_far.units (firsts i files) so_far.named in
    let counted = counted_units so_far.read in
    omega arith

pub read_step : (b c : Contents) (files : List (Bor Bytes)) (i : ℕ) (d : Bor Bytes) (values later : List UnitValue) (known after : List Bytes) (value : UnitValue) → c ≡ b → ReadSoFar b.files (firsts i files) values known → i < length files
    → ReadsObject (get_or files i d).now c.files known after (Some value) → HasAdded known after → length after ≤ length known + 20000000 → later ≡ values ++ value ∷ [] → ReadSoFar b.files (firsts (i + 1) files) later after
read_step b c files i d values later known after value same so_far lt object more most pushed =
    let here = subst (λ (x : Contents). ReadsObject (get_or files i d).now x.files known after (Some value)) same object in
    let read = read_more b.files (firsts i files) values known after (get_or files i d).now value so_far here more most in
    subst (λ vs. ReadSoFar b.files (firsts (i + 1) files) vs after) (sym pushed) (subst (λ ns. ReadSoFar b.files ns (values ++ value ∷ []) after) (sym (taken_now files i d lt)) read)

pub read_stop : (b c : Contents) (files : List (Bor Bytes)) (i : ℕ) (d : Bor Bytes) (values : List UnitValue) (known after : List Bytes) (count : ℕ) → c ≡ b → ReadSoFar b.files (firsts i files) values known → i < length files
    → ReadsObject (get_or files i d).now c.files known after None → count ≡ length values → ReadsObjects (map (λ (file : Bor Bytes). file.now) files) b.files (Err count)
read_stop b c files i d values known after count same so_far lt object counted =
    let here = subst (λ (x : Contents). ReadsObject (get_or files i d).now x.files known after None) same object in
    let long : length (firsts i files) ≡ count = sym (length_named so_far.units (firsts i files) so_far.named) ∙ counted_units so_far.read ∙ sym counted in
    subst (λ n. ReadsObjects (map (λ (file : Bor Bytes). file.now) files) b.files (Err n)) long
    (read_bad b.files (firsts i files) values known after (get_or files i d).now (map (λ (file : Bor Bytes). file.now) (drop (i + 1) files)) _ so_far here (all_now files i d lt))

pub read_end : (b : Contents) (files : List (Bor Bytes)) (i : ℕ) (values : List UnitValue) (objects : Objects) → length files ≤ i → length files ≤ 64 → ReadSoFar b.files (firsts i files) values objects.names → objects.units ≡ values
    → ReadsObjects (map (λ (file : Bor Bytes). file.now) files) b.files (Ok objects)
read_end b files i values objects past few so_far are =
    let whole = ap (map (λ (file : Bor Bytes). file.now)) (take_all i files past) in
    subst (λ ns. ReadsObjects ns b.files (Ok objects)) whole (read_all b.files (firsts i files) objects (subst (λ vs. ReadSoFar b.files (firsts i files) vs objects.names) (sym are) so_far) (few_firsts i files few))

pub read_faulted : (files : List (Bor Bytes)) (i : ℕ) (d : Bor Bytes) (stop : Stop) (k k1 k2 : Counts) → i < length files → k1 ≡ k → Faulted ((get_or files i d).now ∷ []) [] stop k1 k2
    → Faulted (map (λ (file : Bor Bytes). file.now) files) [] stop k k2
read_faulted files i d stop k k1 k2 lt same fault =
    faulted_among (firsts i files) (get_or files i d).now (map (λ (file : Bor Bytes). file.now) (drop (i + 1) files)) _ stop k k2 (all_now files i d lt) (faulted_after _ [] stop k k1 k2 same fault)

-- ---- how often files were fetched

-- the next file was
called_next : (count : ℕ) (e e1 e2 : FileCalls) → HasCalled count 0 e e1 → e2 ≡ once_fetched e1 → HasCalled (count + 1) 0 e e2
called_next count e e1 e2 before once = called_both count 0 1 0 e e1 e2 before (called_fetch e1 e2 once)

pub called_step : (values later : List UnitValue) (value : UnitValue) (e e1 e2 : FileCalls) → later ≡ values ++ value ∷ [] → HasCalled (length values) 0 e e1 → e2 ≡ once_fetched e1 → HasCalled (length later) 0 e e2
called_step values later value e e1 e2 pushed before once =
    let one = length_push values value in
    let same = ap length pushed in
    called_more (length values + 1) 0 (length later) 0 e e2 (omega arith) (omega arith) (called_next (length values) e e1 e2 before once)

pub called_stop : (values : List UnitValue) (count : ℕ) (e e1 e2 : FileCalls) → count ≡ length values → HasCalled (length values) 0 e e1 → e2 ≡ once_fetched e1 → HasCalled (count + 1) 0 e e2
called_stop values count e e1 e2 counted before once = subst (λ n. HasCalled (n + 1) 0 e e2) (sym counted) (called_next (length values) e e1 e2 before once)

-- all files that hold units were
pub all_fetched : {units : List Listed} {values : List UnitValue} {names : List Bytes} (e e1 : FileCalls) → AreUnitsRead units values names → HasCalled (length values) 0 e e1 → HasReadTo units e e1
all_fetched e e1 none called = no_unit called
all_fetched e e1 (one_more {files = files} {values = values} {names = names} name bytes value after read short is) called =
    let counted = counted_units read in
    let one = length_push values value in
    up_to files (record { name = name; content = Some bytes }) [] values names refl read
    (called_more (length (values ++ value ∷ [])) 0 (length files + 1) 0 e e1 (omega arith) (omega arith) called)

-- they were, and the first that holds none
pub bad_fetched : (units : List Listed) (j : ℕ) (e e1 : FileCalls) → IsBadObject units j → HasCalled (j + 1) 0 e e1 → HasReadTo units e e1
bad_fetched units j e e1 bad called =
    let number = bad.number in
    up_to bad.before (record { name = bad.name; content = Some bad.bytes }) bad.behind bad.values bad.names bad.are bad.read
    (called_more (j + 1) 0 (length bad.before + 1) 0 e e1 (omega arith) (omega arith) called)

-- ---- what stopped the reading

-- memory was wanting
pub stopped_short : (names : List Bytes) (files : Option Folder) (k k1 : Counts) (e e1 : FileCalls) (stop : Stop) → stop ≡ Memory → HasCalled 0 0 e e1 → StopsObjects names files k k1 e e1 stop
stopped_short names files k k1 e e1 stop memory called =
    let all = found files names in
    record { units = all.units; named = all.named; told = all.told; called = no_unit called; fetched = λ is. let clash : Memory ≡ Fetch = sym memory ∙ is in absurd cc }

-- at a file that holds this, behind those that hold units
stopped_at : (files : Option Folder) (names : List Bytes) (values : List UnitValue) (known : List Bytes) (name : Bytes) (content : Option Bytes) (rest all : List Bytes) (k k1 : Counts) (e e1 e2 : FileCalls) (stop : Stop)
    → ReadSoFar files names values known → Tells files name content → all ≡ names ++ name ∷ rest → HasCalled (length values) 0 e e1 → e2 ≡ once_fetched e1 → (stop ≡ Fetch → Rose (k.fetches name) (k1.fetches name))
    → StopsObjects all files k k1 e e2 stop
stopped_at files names values known name content rest all k k1 e e1 e2 stop so_far holds are before once rose =
    let unit : Listed = record { name = name; content = content } in
    let behind = found files rest in
    let counted = counted_units so_far.read in
    record {
      units = so_far.units ++ unit ∷ behind.units;
      named = map-append (λ (file : Listed). file.name) so_far.units (unit ∷ behind.units) ∙ (λ i. so_far.named i ++ name ∷ behind.named i) ∙ sym are;
      told = All-append (Holds files) so_far.units (unit ∷ behind.units) so_far.told (All-cons (Holds files) unit behind.units holds behind.told);
      called = up_to so_far.units unit behind.units values known refl so_far.read
          (called_more (length values + 1) 0 (length so_far.units + 1) 0 e e2 (omega arith) (omega arith) (called_next (length values) e e1 e2 before once));
      fetched = λ is. record {
        read = so_far.units;
        unit = unit;
        behind = behind.units;
        are = refl;
        values = values;
        names = known;
        hold = so_far.read;
        rose = rose is;
      };
    }

-- the file wasn't fetched, or memory was wanting
pub read_unfetched : (b : Contents) (files : List (Bor Bytes)) (i : ℕ) (d : Bor Bytes) (values : List UnitValue) (known : List Bytes) (stop : Stop) (k k1 k2 : Counts) (e e1 e2 : FileCalls) → ReadSoFar b.files (firsts i files) values known
    → i < length files → k1 ≡ k → Faulted ((get_or files i d).now ∷ []) [] stop k1 k2 → HasCalled (length values) 0 e e1 → e2 ≡ once_fetched e1 → StopsObjects (map (λ (file : Bor Bytes). file.now) files) b.files k k2 e e2 stop
read_unfetched b files i d values known stop k k1 k2 e e1 e2 so_far lt same fault before once =
    let name = (get_or files i d).now in
    let content = content_of b.files name in
    stopped_at b.files (firsts i files) values known name content.0 (map (λ (file : Bor Bytes). file.now) (drop (i + 1) files)) _ k k2 e e1 e2 stop so_far content.1 (all_now files i d lt) before once
    (λ is.
    let of : Faulted (name ∷ []) [] Fetch k k2 = subst (λ (s : Stop). Faulted (name ∷ []) [] s k k2) is (faulted_after _ [] stop k k1 k2 same fault) in
    the_one (λ name. Rose (k.fetches name) (k2.fetches name)) name of.caused)

-- memory was wanting behind a unit that was read
pub read_short : (b c : Contents) (files : List (Bor Bytes)) (i : ℕ) (d : Bor Bytes) (values : List UnitValue) (known after : List Bytes) (value : UnitValue) (stop : Stop) (k k1 : Counts) (e e1 e2 : FileCalls) → c ≡ b
    → ReadSoFar b.files (firsts i files) values known → i < length files → ReadsObject (get_or files i d).now c.files known after (Some value) → HasCalled (length values) 0 e e1 → e2 ≡ once_fetched e1 → stop ≡ Memory
    → StopsObjects (map (λ (file : Bor Bytes). file.now) files) b.files k k1 e e2 stop
read_short b c files i d values known after value stop k k1 e e1 e2 same so_far lt object before once memory =
    let name = (get_or files i d).now in
    let holds = subst (λ (x : Contents). Tells x.files name (Some object.bytes)) same object.told in
    stopped_at b.files (firsts i files) values known name (Some object.bytes) (map (λ (file : Bor Bytes). file.now) (drop (i + 1) files)) _ k k1 e e1 e2 stop so_far holds (all_now files i d lt) before once
    (λ is. let clash : Memory ≡ Fetch = sym memory ∙ is in absurd cc)
