-- Each step keeps the data that of a machine of 64 bits.
use Rattle.std.proofs.Common.{◌≡◌, ℕ, zero, suc, ◌+◌, ◌/◌, ◌^◌, ◌<◌, Bool, true, false, nat_lt, if◌then◌else◌, List, [], ◌∷◌, length, drop, slice_index, slice_set, All, Option, Some, None, inl, inr, arith, lit<, length-set}
use Rattle.std.specs.List.{slice_get}
use Rattle.std.specs.Int.{cast_unsigned, w64}
use Rattle.std.proofs.lemmas.Bool.{cases_lt}
use Rattle.std.proofs.lemmas.List.{get_or_past}
use Rattle.std.proofs.lemmas.List.Elements.{All-get_or, All-set, All-drop, All-head}
use Rattle.fy_base.specs.declared.data.Place.{Place}
use Rattle.fy_base.specs.declared.data.FaultKind.{FaultKind}
use Rattle.rv_word.specs.declared.micros.Register.{Register}
use Rattle.rv_word.specs.declared.micros.Micro.{Micro}
use Rattle.rv_word.specs.declared.micros.Micro.TheVariants.{Set, Imm, Shift, Alu, Window, Get, Save, Look, Room, Test, Jump, Enter, Put, Take, End, Exhaust, Fault}
use Rattle.rv_word.specs.Word.{Named, Data, Code, Led, goes, hangs, stops, wrong, get, word_number, table_number, has_window, is_in_table, block, onward, written, taken_in, faulted, does, does_first, after_step, led_on}
use Rattle.rv_word.specs.Discipline.{Bounds, has_needs, is_disciplined_from, bounds_of, is_disciplined}
use Rattle.rv_word.specs.Laws.{IsSound}
use Rattle.rv_word.proofs.Registers.{either_set}
use Rattle.rv_word.proofs.Below.{reg_below, imm_below, shift_below, short_below}
use Rattle.rv_word.proofs.Right.{LeadsFine, needs_met, led_fine}

abbrev pub LeadsSound : Led → Type 0
LeadsSound (goes s) = IsSound s.held
LeadsSound (hangs e) = Unit {0}
LeadsSound (stops how e) = Unit {0}
LeadsSound wrong = Unit {0}

sound_either : (b : Bool) (x y : Led) → LeadsSound x → LeadsSound y → LeadsSound (if b then x else y)
sound_either true x y h k = h
sound_either false x y h k = k

fault_sound : (place : Option Place) (kind : FaultKind) (e : Data) → LeadsSound (faulted place kind e)
fault_sound None kind e = tt
fault_sound (Some place) kind e = tt

written_sound : (rest : List Micro) (r : Register) (x : ℕ) (e : Data) → IsSound e → x < 2 ^ 64 → LeadsSound (written rest r x e)
written_sound rest r x e s h = record { named = λ q. either_set (λ z a b. a < 2 ^ 64) e.named e.named r q x x h (s.named q); words = s.words; input = s.input; size = s.size }

-- an element of a list, or 0
pub element_below : (l : List ℕ) (k m : ℕ) → 0 < m → All (λ w. w < m) l → slice_index l k < m
element_below l k m some h = elim (cases_lt k (length l)) [
  | inl within ↦ All-get_or (λ w. w < m) l k 0 within h
  | inr past ↦ let none : slice_index l k ≡ 0 = get_or_past l k 0 past in omega arith
]

pub taken_below : (l : List ℕ) → All (λ byte. byte < 256) l → taken_in (slice_get l 0) < 2 ^ 64
taken_below [] h = lit< tt
taken_below (x ∷ l) h = let first : x < 256 = All-head (λ byte. byte < 256) x l h in omega arith

does_sound : (code : Code) (b : Bounds) (windows : Named) (m : Micro) (rest : List Micro) (e : Data) → has_needs b m windows ≡ true → All (λ w. w < 2 ^ 64) code.table → IsSound e → LeadsSound (does code m rest e)
does_sound code b windows (Set r v) rest e h table s = written_sound rest r v e s (grind arith)
does_sound code b windows (Imm op r q imm) rest e h table s = written_sound rest r _ e s (imm_below op (get e.named q) (cast_unsigned w64 imm) (s.named q) (short_below imm h))
does_sound code b windows (Shift op r q amount) rest e h table s = written_sound rest r _ e s (shift_below op (get e.named q) amount (s.named q))
does_sound code b windows (Alu op r q t) rest e h table s = written_sound rest r _ e s (reg_below op (get e.named q) (get e.named t) (s.named q) (s.named t))
does_sound code b windows (Window r k) rest e h table s = sound_either (has_window e (get e.named r) k) (onward rest e) (hangs e) s tt
does_sound code b windows (Get r q k) rest e h table s =
    let i : ℕ = word_number (get e.named q) + k in
    sound_either (has_window e (get e.named q) (k + 1)) (written rest r (slice_index e.words i) e) wrong (written_sound rest r (slice_index e.words i) e s (element_below e.words i (2 ^ 64) (lit< tt) s.words)) tt
does_sound code b windows (Save q k r) rest e h table s =
    let i : ℕ = word_number (get e.named q) + k in
    let long : length (slice_set e.words i (get e.named r)) ≡ length e.words = length-set e.words i (get e.named r) in
    let size = s.size in
    sound_either (has_window e (get e.named q) (k + 1)) (onward rest (record e { words = slice_set e.words i (get e.named r) })) wrong
    (record { named = s.named; words = All-set (λ w. w < 2 ^ 64) e.words i (get e.named r) (s.named r) s.words; input = s.input; size = omega arith }) tt
does_sound code b windows (Look r q) rest e h table s =
    let i : ℕ = table_number (get e.named q) in
    sound_either (is_in_table code (get e.named q)) (written rest r (slice_index code.table i) e) (hangs e) (written_sound rest r (slice_index code.table i) e s (element_below code.table i (2 ^ 64) (lit< tt) table)) tt
does_sound code b windows (Room k label) rest e h table s = s
does_sound code b windows (Test op r q label) rest e h table s = s
does_sound code b windows (Jump label) rest e h table s = s
does_sound code b windows (Enter r) rest e h table s =
    sound_either (nat_lt (get e.named r / 8) (length code.entries)) (onward (block code (slice_index code.entries (get e.named r / 8))) e) (hangs e) s tt
does_sound code b windows (Put r) rest e h table s = record { named = s.named; words = s.words; input = s.input; size = s.size }
does_sound code b windows (Take r) rest e h table s =
    let x : ℕ = taken_in (slice_get e.input 0) in
    written_sound rest r x (record e { input = drop 1 e.input })
    (record { named = s.named; words = s.words; input = All-drop (λ byte. byte < 256) 1 e.input s.input; size = s.size }) (taken_below e.input s.input)
does_sound code b windows End rest e h table s = tt
does_sound code b windows Exhaust rest e h table s = tt
does_sound code b windows (Fault kind place) rest e h table s = fault_sound (slice_get code.places place) kind e

first_sound : (code : Code) (rest : List Micro) (e : Data) (windows : Named) → is_disciplined_from (bounds_of code) windows rest ≡ true → All (λ w. w < 2 ^ 64) code.table → IsSound e → LeadsSound (does_first code rest e)
first_sound code [] e windows h table s = tt
first_sound code (m ∷ rest) e windows h table s = does_sound code (bounds_of code) windows m rest e (needs_met (bounds_of code) windows m rest h) table s

after_sound : (code : Code) (r : Led) → LeadsFine code r → All (λ w. w < 2 ^ 64) code.table → LeadsSound r → LeadsSound (after_step code r)
after_sound code (goes s) f table sound = first_sound code s.rest s.held f.windows f.disciplined table sound
after_sound code (hangs e) f table sound = tt
after_sound code (stops how e) f table sound = tt
after_sound code wrong f table sound = tt

pub led_sound : (code : Code) (n : ℕ) (r : Led) → is_disciplined code ≡ true → All (λ w. w < 2 ^ 64) code.table → LeadsFine code r → LeadsSound r → LeadsSound (led_on code n r)
unfolding led_on
led_sound code zero r h table f sound = sound
led_sound code (suc n) r h table f sound = after_sound code (led_on code n r) (led_fine code n r h f) table (led_sound code n r h table f sound)
