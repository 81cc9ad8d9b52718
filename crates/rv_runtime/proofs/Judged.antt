-- The routines as code: disciplined, few, and the same for all programs. Runs end as they tell.
use Rattle.std.proofs.Common.{◌≡◌, ℕ, ◌+◌, ◌≤◌, true, nat_lt, List, [], ◌∷◌, refl, ap, ◌∙◌, arith, lit≤, lt-ltb}
use Rattle.std.specs.declared.option.Option.{Option}
use Rattle.fy_base.specs.declared.data.Place.{Place}
use Rattle.rv_insn.specs.declared.events.Event.{Event}
use Rattle.rv_word.specs.declared.micros.Micro.{Micro}
use Rattle.rv_word.specs.declared.micros.Micro.TheVariants.{Exhaust, Fault}
use Rattle.rv_word.specs.Word.{Data, Code, goes, stops, block, does, faulted, led_on}
use Rattle.rv_word.specs.Costs.{cost, spent}
use Rattle.rv_runtime.specs.Routines.{exhausted}
use Rattle.rv_runtime.specs.Laws.{Stops, at_block, ExhaustionIsTold, FaultsAreTold, RoutinesAreDisciplined, RoutinesAreFew, RoutinesAreUniform}
use Rattle.rv_runtime.proofs.Runs.{at}
use Rattle.rv_runtime.proofs.Held.{exhausted-is}

-- ---- ends

ends_so : (code : Code) (label : ℕ) (m : Micro) (how : Event) (e : Data) → block code label ≡ m ∷ [] → does code m [] e ≡ stops how e → cost m ≤ 10 → Stops code label 10 how e
unfolding led_on spent
ends_so code label m how e is does_so low =
    let spent_is : spent code 1 (at_block code label e) ≡ 0 + cost m = ap (λ (l : List Micro). spent code 1 (at l e)) is in
    record { ends = ap (λ (l : List Micro). led_on code 1 (goes (at l e))) is ∙ does_so; cost = omega (arith, spent_is) }

pub exhaustion_is_told : ExhaustionIsTold
exhaustion_is_told code e h = ends_so code exhausted Exhaust _ e (exhausted-is code h) refl (lit≤ tt)

pub faults_are_told : FaultsAreTold
faults_are_told code label fault number place e is there = ends_so code label (Fault fault number) _ e is (ap (λ (p : Option Place). faulted p fault e) there) (lit≤ tt)

-- ---- as code

pub routines_are_disciplined : RoutinesAreDisciplined
routines_are_disciplined b h =
    let has_0 : nat_lt 0 b.blocks ≡ true = lt-ltb 0 b.blocks (omega arith) in
    let has_1 : nat_lt 1 b.blocks ≡ true = lt-ltb 1 b.blocks (omega arith) in
    let has_6 : nat_lt 6 b.blocks ≡ true = lt-ltb 6 b.blocks (omega arith) in
    let has_7 : nat_lt 7 b.blocks ≡ true = lt-ltb 7 b.blocks (omega arith) in
    let has_8 : nat_lt 8 b.blocks ≡ true = lt-ltb 8 b.blocks (omega arith) in
    let has_10 : nat_lt 10 b.blocks ≡ true = lt-ltb 10 b.blocks (omega arith) in
    let has_11 : nat_lt 11 b.blocks ≡ true = lt-ltb 11 b.blocks (omega arith) in
    simp (has_0, has_1, has_6, has_7, has_8, has_10, has_11)

pub routines_are_few : RoutinesAreFew
routines_are_few = record { blocks = refl; words = lit≤ tt }

pub routines_are_uniform : RoutinesAreUniform
routines_are_uniform = record { routines = λ entries table_words. refl; faults = λ entries table_words label kind place. refl }
