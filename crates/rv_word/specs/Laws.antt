-- Laws of the word machine.
use Rattle.std.specs.Prelude.{◌≡◌, ℕ, ◌+◌, ◌^◌, ◌<◌, ◌≤◌, true, List, [], length, slice_index, All}
use Rattle.fy_base.specs.Outside.{IsPrefix}
use Rattle.rv_word.specs.declared.micros.Register.{Register}
use Rattle.rv_word.specs.Word.{Data, Code, State, Led, goes, hangs, stops, wrong, get, block, led_on, word_run}
use Rattle.rv_word.specs.Discipline.{is_disciplined}

-- what has been put out where steps led
abbrev pub output_of : Led → List ℕ
output_of (goes s) = s.held.output
output_of (hangs e) = e.output
output_of (stops how e) = e.output
output_of wrong = []

abbrev pub IsRight : Led → Type 0
IsRight (goes s) = Unit {0}
IsRight (hangs e) = Unit {0}
IsRight (stops how e) = Unit {0}
IsRight wrong = ⊥

-- data of a machine of 64 bits
pub record IsSound (e : Data) : Type 0 where
  pub named : (r : Register) → get e.named r < 2 ^ 64
  pub words : All (λ w. w < 2 ^ 64) e.words
  pub input : All (λ byte. byte < 256) e.input
  pub size : length e.words ≤ 2 ^ 27

-- the state at the entry with a number
abbrev pub at_entry : Code → ℕ → Data → State
at_entry code k e = record { rest = block code (slice_index code.entries k); held = e }

-- n + m steps are n and then m
abbrev pub WordRunsSplit : Type 0
WordRunsSplit = (code : Code) (n m : ℕ) (r : Led) → led_on code (n + m) r ≡ led_on code m (led_on code n r)

-- the output only grows, unless the run goes wrong
abbrev pub WordOutputGrows : Type 0
WordOutputGrows =
    (code : Code) (n m : ℕ) (s : State) → IsRight (word_run code (n + m) s)
    → IsPrefix (output_of (word_run code n s)) (output_of (word_run code (n + m) s))

-- disciplined code never goes wrong, from its start or any entry
abbrev pub DisciplinedIsNeverWrong : Type 0
DisciplinedIsNeverWrong =
    (code : Code) (k : ℕ) (e : Data) (n : ℕ) → is_disciplined code ≡ true → k < length code.entries → length e.words ≤ 2 ^ 27 → IsRight (word_run code n (at_entry code k e))
