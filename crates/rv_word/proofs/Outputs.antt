-- The output of a run only grows.
use Rattle.std.proofs.Common.{ℕ, zero, suc, ◌+◌, ◌/◌, ◌%◌, Bool, true, false, List, [], ◌∷◌, ◌++◌, length, slice_index, slice_set, nat_lt, if◌then◌else◌, Option, Some, None, refl, sym, ◌∙◌, ap, subst, append_assoc, append-nil}
use Rattle.std.specs.List.{slice_get}
use Rattle.fy_base.specs.Outside.{IsPrefix}
use Rattle.fy_base.specs.declared.data.Place.{Place}
use Rattle.fy_base.specs.declared.data.FaultKind.{FaultKind}
use Rattle.rv_word.specs.declared.micros.Micro.{Micro}
use Rattle.rv_word.specs.declared.micros.Micro.TheVariants.{Window, Get, Save, Look, Enter, Put, Fault}
use Rattle.rv_word.specs.Word.{Data, Code, State, Led, goes, hangs, stops, wrong, get, block, onward, written, word_number, table_number, has_window, is_in_table, faulted, does, does_first, after_step, led_on, word_run}
use Rattle.rv_word.specs.Laws.{output_of, IsRight}
use Rattle.rv_word.proofs.Runs.{led_splits}

itself : (o : List ℕ) → IsPrefix o o
itself o = record { rest = []; is = sym (append-nil o) }

longer : (a b c : List ℕ) → IsPrefix a b → IsPrefix b c → IsPrefix a c
longer a b c h k = record { rest = h.rest ++ k.rest; is = k.is ∙ ap (λ o. o ++ k.rest) h.is ∙ append_assoc a h.rest k.rest }

-- what is led to has put out this first, unless it is wrong
abbrev Grows : List ℕ → Led → Type 0
Grows o r = IsRight r → IsPrefix o (output_of r)

grows_either : (o : List ℕ) (b : Bool) (x y : Led) → Grows o x → Grows o y → Grows o (if b then x else y)
grows_either o true x y h k = h
grows_either o false x y h k = k

fault_grows : (place : Option Place) (kind : FaultKind) (e : Data) → Grows e.output (faulted place kind e)
fault_grows None kind e = λ right. absurd right
fault_grows (Some place) kind e = λ right. itself e.output

does_grows : (code : Code) (m : Micro) (rest : List Micro) (e : Data) → Grows e.output (does code m rest e)
does_grows code (Window r k) rest e = grows_either e.output (has_window e (get e.named r) k) (onward rest e) (hangs e) (λ right. itself e.output) (λ right. itself e.output)
does_grows code (Get r s k) rest e =
    grows_either e.output (has_window e (get e.named s) (k + 1)) (written rest r (slice_index e.words (word_number (get e.named s) + k)) e) wrong (λ right. itself e.output) (λ right. absurd right)
does_grows code (Save s k r) rest e =
    grows_either e.output (has_window e (get e.named s) (k + 1)) (onward rest (record e { words = slice_set e.words (word_number (get e.named s) + k) (get e.named r) })) wrong
    (λ right. itself e.output) (λ right. absurd right)
does_grows code (Look r s) rest e =
    grows_either e.output (is_in_table code (get e.named s)) (written rest r (slice_index code.table (table_number (get e.named s))) e) (hangs e) (λ right. itself e.output) (λ right. itself e.output)
does_grows code (Enter r) rest e =
    grows_either e.output (nat_lt (get e.named r / 8) (length code.entries)) (onward (block code (slice_index code.entries (get e.named r / 8))) e) (hangs e)
    (λ right. itself e.output) (λ right. itself e.output)
does_grows code (Put r) rest e = λ right. record { rest = (get e.named r % 256) ∷ []; is = refl }
does_grows code (Fault kind place) rest e = fault_grows (slice_get code.places place) kind e
does_grows code m rest e = λ right. itself e.output

first_grows : (code : Code) (rest : List Micro) (e : Data) → Grows e.output (does_first code rest e)
first_grows code [] e = λ right. absurd right
first_grows code (m ∷ rest) e = does_grows code m rest e

after_grows : (code : Code) (r : Led) → Grows (output_of r) (after_step code r)
after_grows code (goes s) = first_grows code s.rest s.held
after_grows code (hangs e) = λ right. itself e.output
after_grows code (stops how e) = λ right. itself e.output
after_grows code wrong = λ right. absurd right

-- what was right before is what is right after
right_before : (code : Code) (r : Led) → IsRight (after_step code r) → IsRight r
right_before code (goes s) h = tt
right_before code (hangs e) h = tt
right_before code (stops how e) h = tt
right_before code wrong h = h

led_grows : (code : Code) (m : ℕ) (r : Led) → Grows (output_of r) (led_on code m r)
unfolding led_on
led_grows code zero r = λ right. itself (output_of r)
led_grows code (suc m) r = λ right.
    longer (output_of r) (output_of (led_on code m r)) (output_of (after_step code (led_on code m r)))
    (led_grows code m r (right_before code (led_on code m r) right)) (after_grows code (led_on code m r) right)

pub output_grows : (code : Code) (n m : ℕ) (s : State) → IsRight (word_run code (n + m) s) → IsPrefix (output_of (word_run code n s)) (output_of (word_run code (n + m) s))
output_grows code n m s right =
    let splits = led_splits code n m (goes s) in
    let P : Led → Type 0 = λ r. IsPrefix (output_of (word_run code n s)) (output_of r) in
    let Q : Led → Type 0 = λ r. IsRight r in
    subst P (sym splits) (led_grows code m (word_run code n s) (subst Q splits right))
