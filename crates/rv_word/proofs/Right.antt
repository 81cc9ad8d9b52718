-- Disciplined code never goes wrong.
use Rattle.std.proofs.Common.{◌≡◌, ℕ, zero, suc, ◌+◌, ◌*◌, ◌/◌, ◌%◌, ◌^◌, ◌<◌, ◌≤◌, Bool, true, false, nat_lt, nat_le, if◌then◌else◌, ◌&&◌, List, [], ◌∷◌, ◌++◌, length, drop, slice_index, slice_index_or, slice_set, Option, Some, None, refl, sym, ◌∙◌, arith, length-set}
use Rattle.std.specs.List.{slice_get}
use Rattle.std.specs.Int.{cast_unsigned, w64}
use Rattle.std.proofs.lemmas.Bool.{and_parts, true≢false}
use Rattle.fy_base.specs.declared.data.Place.{Place}
use Rattle.fy_base.specs.declared.data.FaultKind.{FaultKind}
use Rattle.rv_insn.specs.Operations.{reg_value, imm_value, shift_value, is_taken}
use Rattle.rv_word.specs.declared.micros.Register.{Register}
use Rattle.rv_word.specs.declared.micros.Micro.{Micro}
use Rattle.rv_word.specs.declared.micros.Micro.TheVariants.{Set, Imm, Shift, Alu, Window, Get, Save, Look, Room, Test, Jump, Enter, Put, Take, End, Exhaust, Fault}
use Rattle.rv_word.specs.Word.{Named, Data, Code, State, Led, goes, hangs, stops, wrong, get, set, limit, word_number, table_number, has_window, is_in_table, block, onward, written, taken_in, faulted, does, does_first, after_step, led_on, word_run, zeros}
use Rattle.rv_word.specs.Discipline.{Bounds, has_needs, imm_window, windows_behind, closes, is_disciplined_from, are_disciplined, are_below, bounds_of, is_disciplined}
use Rattle.rv_word.specs.Laws.{IsRight, at_entry}
use Rattle.rv_word.proofs.Windows.{AreThere, none_there, written_there, lost_there, checked_there, dropped_there, saved_there, fewer_there, imm_there}

-- a state whose rest of a block is disciplined, where the windows that are counted are there
pub record IsFine (code : Code) (s : State) : Type 0 where
  pub windows : Named
  pub disciplined : is_disciplined_from (bounds_of code) windows s.rest ≡ true
  pub there : AreThere s.held windows
  pub size : length s.held.words ≤ 2 ^ 27

abbrev pub LeadsFine : Code → Led → Type 0
LeadsFine code (goes s) = IsFine code s
LeadsFine code (hangs e) = Unit {0}
LeadsFine code (stops how e) = Unit {0}
LeadsFine code wrong = ⊥

-- ---- what the discipline gives

pub needs_met : (b : Bounds) (windows : Named) (m : Micro) (rest : List Micro) → is_disciplined_from b windows (m ∷ rest) ≡ true → has_needs b m windows ≡ true
needs_met b windows m [] h = (and_parts (has_needs b m windows) (closes m) h).0
needs_met b windows m (n ∷ rest) h = (and_parts (has_needs b m windows) (is_disciplined_from b (windows_behind m windows) (n ∷ rest)) h).0

rest_disciplined : (b : Bounds) (windows : Named) (m : Micro) (rest : List Micro) → is_disciplined_from b windows (m ∷ rest) ≡ true → closes m ≡ false → is_disciplined_from b (windows_behind m windows) rest ≡ true
rest_disciplined b windows m [] h open_end = absurd (true≢false (sym (and_parts (has_needs b m windows) (closes m) h).1 ∙ open_end))
rest_disciplined b windows m (n ∷ rest) h open_end = (and_parts (has_needs b m windows) (is_disciplined_from b (windows_behind m windows) (n ∷ rest)) h).1

block_disciplined : (b : Bounds) (blocks : List (List Micro)) (label : ℕ) → are_disciplined b blocks ≡ true → label < length blocks → is_disciplined_from b zeros (slice_index_or blocks label []) ≡ true
block_disciplined b [] label h below = absurd (let none : ⊥ = omega arith in none)
block_disciplined b (ms ∷ blocks) zero h below = (and_parts (is_disciplined_from b zeros ms) (are_disciplined b blocks) h).0
block_disciplined b (ms ∷ blocks) (suc label) h below = block_disciplined b blocks label (and_parts (is_disciplined_from b zeros ms) (are_disciplined b blocks) h).1 (omega arith)

entry_below : (n : ℕ) (labels : List ℕ) (k : ℕ) → are_below n labels ≡ true → k < length labels → slice_index labels k < n
entry_below n [] k h below = absurd (let none : ⊥ = omega arith in none)
entry_below n (label ∷ labels) zero h below = let first : nat_lt label n ≡ true = (and_parts (nat_lt label n) (are_below n labels) h).0 in grind arith
entry_below n (label ∷ labels) (suc k) h below = entry_below n labels k (and_parts (nat_lt label n) (are_below n labels) h).1 (omega arith)

-- the parts of the discipline of whole code
pub record IsDisciplined (code : Code) : Type 0 where
  pub blocks : are_disciplined (bounds_of code) code.blocks ≡ true
  pub entries : are_below (length code.blocks) code.entries ≡ true
  pub some : 1 ≤ length code.entries

pub discipline_is : (code : Code) → is_disciplined code ≡ true → IsDisciplined code
discipline_is code h =
    let both = and_parts (are_disciplined (bounds_of code) code.blocks) (are_below (length code.blocks) code.entries && nat_le 1 (length code.entries)) h in
    let others = and_parts (are_below (length code.blocks) code.entries) (nat_le 1 (length code.entries)) both.1 in
    let last : nat_le 1 (length code.entries) ≡ true = others.1 in
    record { blocks = both.0; entries = others.0; some = grind arith }

pub entry_within : (code : Code) (k : ℕ) → is_disciplined code ≡ true → k < length code.entries → slice_index code.entries k < length code.blocks
entry_within code k h below = entry_below (length code.blocks) code.entries k (discipline_is code h).entries below

-- ---- one step

-- a block from its beginning
pub block_fine : (code : Code) (label : ℕ) (e : Data) → is_disciplined code ≡ true → label < length code.blocks → length e.words ≤ 2 ^ 27 → IsFine code (record { rest = block code label; held = e })
block_fine code label e h below size = record {
  windows = zeros;
  disciplined = block_disciplined (bounds_of code) code.blocks label (discipline_is code h).blocks below;
  there = none_there e;
  size = size;
}

either_fine : (code : Code) (b : Bool) (x y : Led) → (b ≡ true → LeadsFine code x) → (b ≡ false → LeadsFine code y) → LeadsFine code (if b then x else y)
either_fine code true x y f g = f refl
either_fine code false x y f g = g refl

either_rest : (code : Code) (b : Bool) (xs ys : List Micro) (e : Data) → LeadsFine code (onward xs e) → LeadsFine code (onward ys e) → LeadsFine code (onward (if b then xs else ys) e)
either_rest code true xs ys e f g = f
either_rest code false xs ys e f g = g

fault_fine : (code : Code) (place : Option Place) (kind : FaultKind) (e : Data) → (place ≡ None → ⊥) → LeadsFine code (faulted place kind e)
fault_fine code None kind e h = h refl
fault_fine code (Some place) kind e h = tt

place_there : (places : List Place) (k : ℕ) → k < length places → slice_get places k ≡ None → ⊥
place_there [] k below none = absurd (let not_so : ⊥ = omega arith in not_so)
place_there (place ∷ places) zero below none = grind arith
place_there (place ∷ places) (suc k) below none = place_there places k (omega arith) none

-- what a step may use
record CanStep (code : Code) (m : Micro) (rest : List Micro) (e : Data) (windows : Named) : Type 0 where
  disciplined : is_disciplined code ≡ true
  here : is_disciplined_from (bounds_of code) windows (m ∷ rest) ≡ true
  there : AreThere e windows
  size : length e.words ≤ 2 ^ 27

-- to the operation behind
on : (code : Code) (m : Micro) (rest : List Micro) (e f : Data) (windows : Named) → CanStep code m rest e windows → closes m ≡ false → AreThere f (windows_behind m windows) → length f.words ≤ 2 ^ 27 → LeadsFine code (onward rest f)
on code m rest e f windows c goes_on there size = record { windows = windows_behind m windows; disciplined = rest_disciplined (bounds_of code) windows m rest c.here goes_on; there = there; size = size }

-- to a block
to : (code : Code) (m : Micro) (rest : List Micro) (e : Data) (windows : Named) (label : ℕ) → CanStep code m rest e windows → label < length code.blocks → LeadsFine code (onward (block code label) e)
to code m rest e windows label c below = block_fine code label e c.disciplined below c.size

needs : (code : Code) (m : Micro) (rest : List Micro) (e : Data) (windows : Named) → CanStep code m rest e windows → has_needs (bounds_of code) m windows ≡ true
needs code m rest e windows c = needs_met (bounds_of code) windows m rest c.here

-- a word that lies under a window
word_there : (code : Code) (m : Micro) (rest : List Micro) (e : Data) (windows : Named) (s : Register) (k : ℕ) → CanStep code m rest e windows → nat_lt k (get windows s) && nat_lt k 256 ≡ true → has_window e (get e.named s) (k + 1) ≡ true
word_there code m rest e windows s k c h =
    let first : nat_lt k (get windows s) ≡ true = (and_parts (nat_lt k (get windows s)) (nat_lt k 256) h).0 in
    let below : k < get windows s = grind arith in
    fewer_there e (get e.named s) (k + 1) (get windows s) (omega arith) (c.there.each s (omega arith))

does_fine : (code : Code) (m : Micro) (rest : List Micro) (e : Data) (windows : Named) → CanStep code m rest e windows → LeadsFine code (does code m rest e)
does_fine code (Set r v) rest e windows c = on code (Set r v) rest e (record e { named = set e.named r v }) windows c refl (lost_there e windows r v c.there) c.size
does_fine code (Imm op r s imm) rest e windows c =
    let x : ℕ = imm_value op (get e.named s) (cast_unsigned w64 imm) in
    on code (Imm op r s imm) rest e (record e { named = set e.named r x }) windows c refl
    (written_there e windows r x (imm_window op imm (get windows s)) (imm_there e op (get e.named s) imm (get windows s) c.size (c.there.each s)) c.there) c.size
does_fine code (Shift op r s amount) rest e windows c =
    let x : ℕ = shift_value op (get e.named s) amount in
    on code (Shift op r s amount) rest e (record e { named = set e.named r x }) windows c refl (lost_there e windows r x c.there) c.size
does_fine code (Alu op r s t) rest e windows c =
    let x : ℕ = reg_value op (get e.named s) (get e.named t) in
    on code (Alu op r s t) rest e (record e { named = set e.named r x }) windows c refl (lost_there e windows r x c.there) c.size
does_fine code (Window r k) rest e windows c =
    either_fine code (has_window e (get e.named r) k) (onward rest e) (hangs e) (λ h. on code (Window r k) rest e e windows c refl (checked_there e windows r k h c.there) c.size) (λ h. tt)
does_fine code (Get r s k) rest e windows c =
    let x : ℕ = slice_index e.words (word_number (get e.named s) + k) in
    rw (word_there code (Get r s k) rest e windows s k c (needs code (Get r s k) rest e windows c))
    (on code (Get r s k) rest e (record e { named = set e.named r x }) windows c refl (lost_there e windows r x c.there) c.size)
does_fine code (Save s k r) rest e windows c =
    let i : ℕ = word_number (get e.named s) + k in
    let long : length (slice_set e.words i (get e.named r)) ≡ length e.words = length-set e.words i (get e.named r) in
    let size = c.size in
    rw (word_there code (Save s k r) rest e windows s k c (needs code (Save s k r) rest e windows c))
    (on code (Save s k r) rest e (record e { words = slice_set e.words i (get e.named r) }) windows c refl (saved_there e windows i (get e.named r) c.there) (omega arith))
does_fine code (Look r s) rest e windows c =
    let x : ℕ = slice_index code.table (table_number (get e.named s)) in
    either_fine code (is_in_table code (get e.named s)) (written rest r x e) (hangs e)
    (λ h. on code (Look r s) rest e (record e { named = set e.named r x }) windows c refl (lost_there e (set windows s 0) r x (dropped_there e windows s c.there)) c.size) (λ h. tt)
does_fine code (Room k label) rest e windows c =
    let both = and_parts (nat_le k 4096) (nat_lt label (length code.blocks)) (needs code (Room k label) rest e windows c) in
    let second : nat_lt label (length code.blocks) ≡ true = both.1 in
    either_rest code (nat_le (e.named.top + 8 * k) (limit e)) rest (block code label) e
    (on code (Room k label) rest e e windows c refl (none_there e) c.size) (to code (Room k label) rest e windows label c (grind arith))
does_fine code (Test op r s label) rest e windows c =
    let within : nat_lt label (length code.blocks) ≡ true = needs code (Test op r s label) rest e windows c in
    either_rest code (is_taken op (get e.named r) (get e.named s)) (block code label) rest e
    (to code (Test op r s label) rest e windows label c (grind arith)) (on code (Test op r s label) rest e e windows c refl (none_there e) c.size)
does_fine code (Jump label) rest e windows c =
    let within : nat_lt label (length code.blocks) ≡ true = needs code (Jump label) rest e windows c in
    to code (Jump label) rest e windows label c (grind arith)
does_fine code (Enter r) rest e windows c =
    let k : ℕ = get e.named r / 8 in
    either_fine code (nat_lt k (length code.entries)) (onward (block code (slice_index code.entries k)) e) (hangs e)
    (λ h. to code (Enter r) rest e windows (slice_index code.entries k) c (entry_within code k c.disciplined (let below : k < length code.entries = grind arith in below))) (λ h. tt)
does_fine code (Put r) rest e windows c =
    on code (Put r) rest e (record e { output = e.output ++ (get e.named r % 256) ∷ [] }) windows c refl (record { each = c.there.each }) c.size
does_fine code (Take r) rest e windows c =
    let x : ℕ = taken_in (slice_get e.input 0) in
    let f : Data = record e { input = drop 1 e.input } in
    on code (Take r) rest e (record f { named = set f.named r x }) windows c refl (lost_there f windows r x (record { each = c.there.each })) c.size
does_fine code End rest e windows c = tt
does_fine code Exhaust rest e windows c = tt
does_fine code (Fault kind place) rest e windows c =
    let within : nat_lt place (length code.places) ≡ true = needs code (Fault kind place) rest e windows c in
    let below : place < length code.places = grind arith in
    fault_fine code (slice_get code.places place) kind e (place_there code.places place below)

first_fine : (code : Code) (rest : List Micro) (e : Data) (windows : Named) → is_disciplined code ≡ true → is_disciplined_from (bounds_of code) windows rest ≡ true → AreThere e windows → length e.words ≤ 2 ^ 27
    → LeadsFine code (does_first code rest e)
first_fine code [] e windows h here there size = absurd (true≢false (sym here))
first_fine code (m ∷ rest) e windows h here there size = does_fine code m rest e windows (record { disciplined = h; here = here; there = there; size = size })

after_fine : (code : Code) (r : Led) → is_disciplined code ≡ true → LeadsFine code r → LeadsFine code (after_step code r)
after_fine code (goes s) h f = first_fine code s.rest s.held f.windows h f.disciplined f.there f.size
after_fine code (hangs e) h f = tt
after_fine code (stops how e) h f = tt
after_fine code wrong h f = f

-- ---- whole runs

pub led_fine : (code : Code) (n : ℕ) (r : Led) → is_disciplined code ≡ true → LeadsFine code r → LeadsFine code (led_on code n r)
unfolding led_on
led_fine code zero r h f = f
led_fine code (suc n) r h f = after_fine code (led_on code n r) h (led_fine code n r h f)

pub fine_is_right : (code : Code) (r : Led) → LeadsFine code r → IsRight r
fine_is_right code (goes s) f = tt
fine_is_right code (hangs e) f = tt
fine_is_right code (stops how e) f = tt
fine_is_right code wrong f = f

pub entry_fine : (code : Code) (k : ℕ) (e : Data) → is_disciplined code ≡ true → k < length code.entries → length e.words ≤ 2 ^ 27 → IsFine code (at_entry code k e)
entry_fine code k e h below size = block_fine code (slice_index code.entries k) e h (entry_within code k h below) size

pub never_wrong : (code : Code) (k : ℕ) (e : Data) (n : ℕ) → is_disciplined code ≡ true → k < length code.entries → length e.words ≤ 2 ^ 27 → IsRight (word_run code n (at_entry code k e))
never_wrong code k e n h below size = fine_is_right code (word_run code n (at_entry code k e)) (led_fine code n (goes (at_entry code k e)) h (entry_fine code k e h below size))
