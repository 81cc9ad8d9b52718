-- What the counts of faults and of calls tell, step by step.
use Rattle.std.proofs.Common.{◌≡◌, ◌≢◌, ℕ, zero, suc, ◌+◌, ◌≤◌, ◌<◌, List, [], ◌∷◌, sym, ap, ◌∙◌, subst, inl, inr, arith}
use Rattle.std.specs.Prelude.{Any}
use Rattle.std.specs.declared.result.Result.{Result}
use Rattle.std.specs.declared.result.Result.TheVariants.{Ok, Err}
use Rattle.fy_base.specs.Outside.{Bytes, Rose, FileCalls, once_fetched, once_kept}
use Rattle.fy_world.specs.World.{Counts, Later}
use Rattle.fy_world.specs.Counted.{Caused, OthersStand, Faulted, Counted, IsReadStop, HasCalled}
use Rattle.fy_world.specs.declared.world.Stop.{Stop}
use Rattle.fy_world.specs.declared.world.Stop.TheVariants.{Fetch, Keep, Input, Output, Notes, Memory}

-- ---- no count fell

pub later_more : (a b c : Counts) → Later a b → Later b c → Later a c
later_more a b c h k = record {
  fetches = λ name. let x = h.fetches name in let y = k.fetches name in omega arith;
  keeps = λ name. let x = h.keeps name in let y = k.keeps name in omega arith;
  input = let x = h.input in let y = k.input in omega arith;
  output = let x = h.output in let y = k.output in omega arith;
  notes = let x = h.notes in let y = k.notes in omega arith;
}

pub later_same : (a : Counts) → Later a a
later_same a = record { fetches = λ name. omega arith; keeps = λ name. omega arith; input = omega arith; output = omega arith; notes = omega arith }

pub later_equal : (a b : Counts) → b ≡ a → Later a b
later_equal a b same = subst (λ (c : Counts). Later a c) (sym same) (later_same a)

pub later_counted : {T : Type 0} (reads keeps : List Bytes) (a b : Counts) (result : Result T Stop) → Counted reads keeps a b result → Later a b
later_counted reads keeps a b (Ok x) same = later_equal a b same
later_counted reads keeps a b (Err stop) fault = fault.later

-- ---- work after work that was done

pub faulted_after : (reads keeps : List Bytes) (stop : Stop) (k k1 k2 : Counts) → k1 ≡ k → Faulted reads keeps stop k1 k2 → Faulted reads keeps stop k k2
faulted_after reads keeps stop k k1 k2 same fault = subst (λ (c : Counts). Faulted reads keeps stop c k2) same fault

pub counted_after : {T : Type 0} (reads keeps : List Bytes) (k k1 k2 : Counts) (result : Result T Stop) → k1 ≡ k → Counted reads keeps k1 k2 result → Counted reads keeps k k2 result
counted_after reads keeps k k1 k2 result same counted = subst (λ (c : Counts). Counted reads keeps c k2 result) same counted

-- memory was wanting
pub short_of_memory : (reads keeps : List Bytes) (stop : Stop) (k k1 : Counts) → stop ≡ Memory → k1 ≡ k → Faulted reads keeps stop k k1
short_of_memory reads keeps stop k k1 memory same = subst (λ (s : Stop). Faulted reads keeps s k k1) (sym memory) (record { caused = tt; later = later_equal k k1 same; others = same })

-- a stop that notes made is one of their faults
pub rose_notes : (reads keeps : List Bytes) (stop : Stop) (k k1 : Counts) → stop ≡ Notes → Faulted reads keeps stop k k1 → Rose k.notes k1.notes
rose_notes reads keeps stop k k1 is fault = let f : Faulted reads keeps Notes k k1 = subst (λ (s : Stop). Faulted reads keeps s k k1) is fault in f.caused

-- ---- names that license a stop

none_of : (P : Bytes → Type 0) → Any P [] → ⊥
none_of P a = let lt : a.0 < 0 = a.2 in absurd (omega arith)

-- what no name that is read licenses, none need license
caused_reads : (reads keeps : List Bytes) (stop : Stop) (k k1 : Counts) → Caused [] keeps stop k k1 → Caused reads keeps stop k k1
caused_reads reads keeps Fetch k k1 c = absurd (none_of _ c)
caused_reads reads keeps Keep k k1 c = c
caused_reads reads keeps Input k k1 c = c
caused_reads reads keeps Output k k1 c = c
caused_reads reads keeps Notes k k1 c = c
caused_reads reads keeps Memory k k1 c = c

-- what no kept name licenses, no kept name need license
caused_keeps : (reads keeps : List Bytes) (stop : Stop) (k k1 : Counts) → Caused reads [] stop k k1 → Caused reads keeps stop k k1
caused_keeps reads keeps Fetch k k1 c = c
caused_keeps reads keeps Keep k k1 c = absurd (none_of _ c)
caused_keeps reads keeps Input k k1 c = c
caused_keeps reads keeps Output k k1 c = c
caused_keeps reads keeps Notes k k1 c = c
caused_keeps reads keeps Memory k k1 c = c

pub faulted_keeps : (reads keeps : List Bytes) (stop : Stop) (k k1 : Counts) → Faulted reads [] stop k k1 → Faulted reads keeps stop k k1
faulted_keeps reads keeps stop k k1 fault = record { caused = caused_keeps reads keeps stop k k1 fault.caused; later = fault.later; others = fault.others }

pub counted_reads : {T : Type 0} (reads keeps : List Bytes) (k k1 : Counts) (result : Result T Stop) → Counted [] keeps k k1 result → Counted reads keeps k k1 result
counted_reads reads keeps k k1 (Ok x) same = same
counted_reads reads keeps k k1 (Err stop) fault = record { caused = caused_reads reads keeps stop k k1 fault.caused; later = fault.later; others = fault.others }

pub counted_keeps : {T : Type 0} (reads keeps : List Bytes) (k k1 : Counts) (result : Result T Stop) → Counted reads [] k k1 result → Counted reads keeps k k1 result
counted_keeps reads keeps k k1 (Ok x) same = same
counted_keeps reads keeps k k1 (Err stop) fault = faulted_keeps reads keeps stop k k1 fault

-- ---- one name among others

any_first : (P : Bytes → Type 0) (name : Bytes) (names : List Bytes) → Any P (name ∷ []) → Any P (name ∷ names)
any_first P name names (zero, x, lt, is, p) = (0, x, omega arith, is, p)
any_first P name names (suc k, x, lt, is, p) = absurd (omega arith)

any_behind : (P : Bytes → Type 0) (name : Bytes) (names : List Bytes) → Any P names → Any P (name ∷ names)
any_behind P name names a = (suc a.0, a.1, omega (arith, a.2), a.3, a.4)

caused_first : (name : Bytes) (names keeps : List Bytes) (stop : Stop) (k k1 : Counts) → Caused (name ∷ []) keeps stop k k1 → Caused (name ∷ names) keeps stop k k1
caused_first name names keeps Fetch k k1 c = any_first _ name names c
caused_first name names keeps Keep k k1 c = c
caused_first name names keeps Input k k1 c = c
caused_first name names keeps Output k k1 c = c
caused_first name names keeps Notes k k1 c = c
caused_first name names keeps Memory k k1 c = c

caused_behind : (name : Bytes) (names keeps : List Bytes) (stop : Stop) (k k1 : Counts) → Caused names keeps stop k k1 → Caused (name ∷ names) keeps stop k k1
caused_behind name names keeps Fetch k k1 c = any_behind _ name names c
caused_behind name names keeps Keep k k1 c = c
caused_behind name names keeps Input k k1 c = c
caused_behind name names keeps Output k k1 c = c
caused_behind name names keeps Notes k k1 c = c
caused_behind name names keeps Memory k k1 c = c

pub counted_first : {T : Type 0} (name : Bytes) (names keeps : List Bytes) (k k1 : Counts) (result : Result T Stop) → Counted (name ∷ []) keeps k k1 result → Counted (name ∷ names) keeps k k1 result
counted_first name names keeps k k1 (Ok x) same = same
counted_first name names keeps k k1 (Err stop) fault = record { caused = caused_first name names keeps stop k k1 fault.caused; later = fault.later; others = fault.others }

pub counted_behind : {T : Type 0} (name : Bytes) (names keeps : List Bytes) (k k1 : Counts) (result : Result T Stop) → Counted names keeps k k1 result → Counted (name ∷ names) keeps k k1 result
counted_behind name names keeps k k1 (Ok x) same = same
counted_behind name names keeps k k1 (Err stop) fault = record { caused = caused_behind name names keeps stop k k1 fault.caused; later = fault.later; others = fault.others }

-- ---- the end of a call

rose_later : (a b c : ℕ) → Rose a b → b ≤ c → Rose a c
rose_later a b c r h = omega arith

any_map : (P Q : Bytes → Type 0) (names : List Bytes) → ((name : Bytes) → P name → Q name) → Any P names → Any Q names
any_map P Q names f a = (a.0, a.1, a.2, a.3, f a.1 a.4)

-- what stopped the work stopped the call
pub caused_later : (reads keeps : List Bytes) (stop : Stop) (k k1 k2 : Counts) → Later k1 k2 → Caused reads keeps stop k k1 → Caused reads keeps stop k k2
caused_later reads keeps Fetch k k1 k2 l c = any_map _ _ reads (λ name r. rose_later _ _ _ r (l.fetches name)) c
caused_later reads keeps Keep k k1 k2 l c = any_map _ _ keeps (λ name r. rose_later _ _ _ r (l.keeps name)) c
caused_later reads keeps Input k k1 k2 l c = rose_later _ _ _ c l.input
caused_later reads keeps Output k k1 k2 l c = rose_later _ _ _ c l.output
caused_later reads keeps Notes k k1 k2 l c = rose_later _ _ _ c l.notes
caused_later reads keeps Memory k k1 k2 l c = tt

-- the counts but that of notes
abbrev but_notes : Counts → Counts → Counts
but_notes k k1 = record k1 { notes = k.notes }

still : (k k1 k2 : Counts) → k2 ≡ record k1 { notes = k2.notes } → but_notes k k2 ≡ but_notes k k1
still k k1 k2 last = ap (λ (c : Counts). but_notes k c) last

-- all others stand, also after the last line
pub others_later : (stop : Stop) (k k1 k2 : Counts) → OthersStand Notes k1 k2 → OthersStand stop k k1 → OthersStand stop k (but_notes k k2)
others_later Fetch k k1 k2 last o = let s = still k k1 k2 last in
    s ∙ ap (λ (c : Counts). but_notes k c) o ∙ (λ i. record k { fetches = (sym s i).fetches; keeps = (sym s i).keeps })
others_later Keep k k1 k2 last o = let s = still k k1 k2 last in
    s ∙ ap (λ (c : Counts). but_notes k c) o ∙ (λ i. record k { fetches = (sym s i).fetches; keeps = (sym s i).keeps })
others_later Input k k1 k2 last o = let s = still k k1 k2 last in s ∙ ap (λ (c : Counts). but_notes k c) o ∙ (λ i. record k { input = (sym s i).input })
others_later Output k k1 k2 last o = let s = still k k1 k2 last in s ∙ ap (λ (c : Counts). but_notes k c) o ∙ (λ i. record k { output = (sym s i).output })
others_later Notes k k1 k2 last o = still k k1 k2 last ∙ ap (λ (c : Counts). but_notes k c) o
others_later Memory k k1 k2 last o = still k k1 k2 last ∙ ap (λ (c : Counts). but_notes k c) o

-- ---- what only reads files

pub read_stop_only : (stop other : Stop) → IsReadStop stop → Fetch ≢ other → Memory ≢ other → stop ≢ other
read_stop_only stop other (inl fetch) a b = λ is. a (sym fetch ∙ is)
read_stop_only stop other (inr memory) a b = λ is. b (sym memory ∙ is)

-- ---- how often files were fetched and kept

pub called_none : (before now : FileCalls) → now ≡ before → HasCalled 0 0 before now
called_none before now same =
    let fetches : now.fetches ≡ before.fetches = ap (λ (c : FileCalls). c.fetches) same in
    let keeps : now.keeps ≡ before.keeps = ap (λ (c : FileCalls). c.keeps) same in
    record { fetched = omega arith; kept = omega arith }

pub called_fetch : (before now : FileCalls) → now ≡ once_fetched before → HasCalled 1 0 before now
called_fetch before now once =
    let fetches : now.fetches ≡ (once_fetched before).fetches = ap (λ (c : FileCalls). c.fetches) once in
    let keeps : now.keeps ≡ before.keeps = ap (λ (c : FileCalls). c.keeps) once in
    record { fetched = omega arith; kept = omega arith }

pub called_keep : (before now : FileCalls) → now ≡ once_kept before → HasCalled 0 1 before now
called_keep before now once =
    let fetches : now.fetches ≡ before.fetches = ap (λ (c : FileCalls). c.fetches) once in
    let keeps : now.keeps ≡ (once_kept before).keeps = ap (λ (c : FileCalls). c.keeps) once in
    record { fetched = omega arith; kept = omega arith }

-- no more often than that is no more often than more
pub called_more : (fetches keeps fetches' keeps' : ℕ) (before now : FileCalls) → fetches ≤ fetches' → keeps ≤ keeps' → HasCalled fetches keeps before now → HasCalled fetches' keeps' before now
called_more fetches keeps fetches' keeps' before now f k h =
    let x = h.fetched in
    let y = h.kept in
    record { fetched = omega arith; kept = omega arith }

-- work after work
pub called_both : (fetches keeps fetches' keeps' : ℕ) (first mid last : FileCalls) → HasCalled fetches keeps first mid → HasCalled fetches' keeps' mid last → HasCalled (fetches + fetches') (keeps + keeps') first last
called_both fetches keeps fetches' keeps' first mid last h next =
    let a = h.fetched in
    let b = h.kept in
    let c = next.fetched in
    let d = next.kept in
    record { fetched = omega arith; kept = omega arith }

-- work that calls neither, however often they may be called
pub called_same : (fetches keeps : ℕ) (before now : FileCalls) → now ≡ before → HasCalled fetches keeps before now
called_same fetches keeps before now same = called_more 0 0 fetches keeps before now (omega arith) (omega arith) (called_none before now same)

-- and such work before others, or behind them
pub called_first : (fetches keeps : ℕ) (first mid last : FileCalls) → mid ≡ first → HasCalled fetches keeps mid last → HasCalled fetches keeps first last
called_first fetches keeps first mid last same h = subst (λ (c : FileCalls). HasCalled fetches keeps c last) same h

pub called_behind : (fetches keeps : ℕ) (first mid last : FileCalls) → HasCalled fetches keeps first mid → last ≡ mid → HasCalled fetches keeps first last
called_behind fetches keeps first mid last h same = subst (λ (c : FileCalls). HasCalled fetches keeps first c) (sym same) h
