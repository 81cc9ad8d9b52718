-- How many instructions of RV64IM micro-operations take at most: a bound that code for the word machine is held to.
use Rattle.std.specs.Prelude.{ℕ, zero, suc, ◌+◌, ◌^◌, nat_lt, nat_le, if◌then◌else◌, List, [], ◌∷◌}
use Rattle.rv_word.specs.declared.micros.Micro.{Micro}
use Rattle.rv_word.specs.declared.micros.Micro.TheVariants.{Set, Imm, Shift, Alu, Window, Get, Save, Look, Room, Test, Jump, Enter, Put, Take, End, Exhaust, Fault}
use Rattle.rv_word.specs.Word.{Code, State, Led, goes, hangs, stops, wrong, word_run}

-- a number of eleven bits takes one, of thirty-one bits two, any other eight
abbrev pub set_cost : ℕ → ℕ
set_cost v = if nat_lt v (2 ^ 11) then 1 else (if nat_lt v (2 ^ 31) then 2 else 8)

-- a window of at most 255 words takes five, any other eight
abbrev pub window_cost : ℕ → ℕ
window_cost k = if nat_le k 255 then 5 else 8

abbrev pub cost : Micro → ℕ
cost (Set r v) = set_cost v
cost (Imm op r s imm) = 1
cost (Shift op r s amount) = 1
cost (Alu op r s t) = 1
cost (Window r k) = window_cost k
cost (Get r s k) = 1
cost (Save s k r) = 1
cost (Look r s) = 7
cost (Room k label) = 6
cost (Test op r s label) = 3
cost (Jump label) = 2
cost (Enter r) = 9
cost (Put r) = 3
cost (Take r) = 3
cost End = 2
cost Exhaust = 2
cost (Fault kind place) = 5

-- of a block
abbrev pub block_cost : List Micro → ℕ
block_cost [] = 0
block_cost (m ∷ rest) = cost m + block_cost rest

-- how many words one takes at most: a demand for room one or three and a branch's three, and an entry no far jump, since the head has it
abbrev pub micro_words : Micro → ℕ
micro_words (Room k label) = if nat_le k 255 then 4 else 6
micro_words (Enter r) = 7
micro_words m = cost m

abbrev pub block_words : List Micro → ℕ
block_words [] = 0
block_words (m ∷ rest) = micro_words m + block_words rest

-- of the operation that comes next
abbrev pub next_cost : List Micro → ℕ
next_cost [] = 0
next_cost (m ∷ rest) = cost m

abbrev pub led_cost : Led → ℕ
led_cost (goes s) = next_cost s.rest
led_cost (hangs e) = 0
led_cost (stops how e) = 0
led_cost wrong = 0

-- of the first n steps
unfoldable pub spent : Code → ℕ → State → ℕ
spent code zero s = 0
spent code (suc n) s = spent code n s + led_cost (word_run code n s)
