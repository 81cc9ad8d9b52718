-- What a block of micro-operations does, as what is left to prove of it.
use Rattle.std.proofs.Common.{◌≡◌, ◌≢◌, ℕ, suc, ◌+◌, ◌*◌, ◌/◌, ◌%◌, ◌^◌, ◌<◌, ◌≤◌, Bool, true, false, cond, ◌&&◌, List, [], ◌∷◌, ◌++◌, length, set, drop, Some, refl, sym, ap, ◌∙◌, subst, inl, inr, arith}
use Rattle.std.proofs.lemmas.Bool.{cases_lt, cases_Bool, cond-true, and_from, le-leb, lt-leb, lt-ltb, eq-eqb}
use Rattle.std.proofs.lemmas.List.{get_or-set_same, get_or-set_other, length-set}
use Rattle.std.specs.Prelude.{slice_get, slice_index, nat_lt, nat_le, nat_eq}
use Rattle.std.specs.Int.{cast_unsigned, w64}
use Rattle.fy_base.specs.declared.data.Place.{Place}
use Rattle.rv_insn.specs.declared.events.Event.TheVariants as event
use Rattle.rv_insn.specs.Operations.{reg_value, imm_value, shift_value, is_taken}
use Rattle.rv_word.specs.declared.micros.Register.{Register}
use Rattle.rv_word.specs.declared.micros.Micro.{Micro}
use Rattle.rv_word.specs.declared.micros.Micro.TheVariants.{Set, Imm, Shift, Alu, Window, Get, Save, Look, Room, Test, Jump, Enter, Put, Take, End, Exhaust, Fault}
use Rattle.rv_word.specs.Word.{Named, get, Data, Code, State, Led, goes, hangs, stops, word_address, table_address, word_number, table_number, has_window, is_in_table, limit, block, onward, written, taken_in, faulted, does}
use Rattle.rv_word.specs.Word as word
use Rattle.rv_word.specs.Costs.{set_cost, window_cost, cost, next_cost}
use Rattle.rv_select.proofs.Runs.{Reach, Later, more, last, later}

-- n has the word v at j, and is else as m
pub record Wrote (m n : List ℕ) (j v : ℕ) : Type 0 where
  pub size : length n ≡ length m
  pub here : slice_index n j ≡ v
  pub else : (i : ℕ) → i ≢ j → slice_index n i ≡ slice_index m i

wrote : (m : List ℕ) (j v : ℕ) → j < length m → Wrote m (set m j v) j v
wrote m j v h = record { size = length-set m j v; here = get_or-set_same m j v 0 h; else = λ i e. get_or-set_other m j i v 0 e }

-- data with another value of a register
abbrev pub with_value : Register → ℕ → Data → Data
with_value r v e = record e { named = word.set e.named r v }

abbrev pub at : Code → ℕ → Data → Led
at code label e = goes (record { rest = block code label; held = e })

-- ---- tests

pub window_holds : (e : Data) (a j k : ℕ) → a ≡ word_address j → j + k ≤ length e.words → has_window e a k ≡ true
window_holds e a j k is le =
    and_from (nat_le 1073741824 a) (nat_le (a + 8 * k) (limit e) && nat_eq (a % 8) 0) (le-leb 1073741824 a (omega arith))
    (and_from (nat_le (a + 8 * k) (limit e)) (nat_eq (a % 8) 0) (le-leb (a + 8 * k) (limit e) (omega arith)) (eq-eqb (a % 8) 0 (omega arith)))

number_is : (a j : ℕ) → a ≡ word_address j → word_number a ≡ j
number_is a j is = omega arith

table_holds : (code : Code) (a j : ℕ) → a ≡ table_address j → j < length code.table → is_in_table code a ≡ true
table_holds code a j is lt =
    and_from (nat_le 536870912 a) (nat_lt a (table_address (length code.table)) && nat_eq (a % 8) 0) (le-leb 536870912 a (omega arith))
    (and_from (nat_lt a (table_address (length code.table))) (nat_eq (a % 8) 0) (lt-ltb a (table_address (length code.table)) (omega arith)) (eq-eqb (a % 8) 0 (omega arith)))

table_number_is : (a j : ℕ) → a ≡ table_address j → table_number a ≡ j
table_number_is a j is = omega arith

cond_most : (b : Bool) (x y n : ℕ) → x ≤ n → y ≤ n → cond b x y ≤ n
cond_most true x y n p q = p
cond_most false x y n p q = q

pub set_most : (v : ℕ) → set_cost v ≤ 8
set_most v = cond_most (nat_lt v (2 ^ 11)) 1 (cond (nat_lt v (2 ^ 31)) 2 8) 8 (omega arith) (cond_most (nat_lt v (2 ^ 31)) 2 8 8 (omega arith) (omega arith))

pub window_most : (k : ℕ) → window_cost k ≤ 8
window_most k = cond_most (nat_le k 255) 5 8 8 (omega arith) (omega arith)

pub cost_most : (m : Micro) → cost m ≤ 9
cost_most (Set r v) = let z = set_most v in omega arith
cost_most (Imm op r s imm) = omega arith
cost_most (Shift op r s amount) = omega arith
cost_most (Alu op r s t) = omega arith
cost_most (Window r k) = let z = window_most k in omega arith
cost_most (Get r s k) = omega arith
cost_most (Save s k r) = omega arith
cost_most (Look r s) = omega arith
cost_most (Room k label) = omega arith
cost_most (Test op r s label) = omega arith
cost_most (Jump label) = omega arith
cost_most (Enter r) = omega arith
cost_most (Put r) = omega arith
cost_most (Take r) = omega arith
cost_most End = omega arith
cost_most Exhaust = omega arith
cost_most (Fault kind place) = omega arith

next_most : (rest : List Micro) → next_cost rest ≤ 9
next_most [] = omega arith
next_most (m ∷ rest) = cost_most m

-- one step, wherever it leads
pub any_step : (code : Code) (Q : Led → Type 0) (s : State) → ((r : Led) → Q r) → Reach code Q 9 s
any_step code Q s h = last code Q s (word.word_step code s) 9 refl (next_most s.rest) (h (word.word_step code s))

module _ (code : Code) (Q : Led → Type 0) where
  -- what has to hold so that a block leads to Q
  abbrev pub Wp : List Micro → Data → Type 0
  Wp [] e = ⊥
  Wp (Set r v ∷ rest) e = Wp rest (with_value r v e)
  Wp (Imm op r s imm ∷ rest) e = (v : ℕ) × (imm_value op (get e.named s) (cast_unsigned w64 imm) ≡ v) × Wp rest (with_value r v e)
  Wp (Shift op r s amount ∷ rest) e = (v : ℕ) × (shift_value op (get e.named s) amount ≡ v) × Wp rest (with_value r v e)
  Wp (Alu op r s t ∷ rest) e = (v : ℕ) × (reg_value op (get e.named s) (get e.named t) ≡ v) × Wp rest (with_value r v e)
  Wp (Window r k ∷ rest) e = (j : ℕ) × (get e.named r ≡ word_address j) × (j + k ≤ length e.words) × Wp rest e
  Wp (Get r s k ∷ rest) e =
      (j v : ℕ) × (get e.named s ≡ word_address j) × (j + (k + 1) ≤ length e.words) × (slice_index e.words (j + k) ≡ v) × Wp rest (with_value r v e)
  Wp (Save s k r ∷ rest) e =
      (j : ℕ) × (get e.named s ≡ word_address j) × (j + (k + 1) ≤ length e.words)
      × ((n : List ℕ) → Wrote e.words n (j + k) (get e.named r) → Wp rest (record e { words = n }))
  Wp (Look r s ∷ rest) e =
      (j v : ℕ) × (get e.named s ≡ table_address j) × (j < length code.table) × (slice_index code.table j ≡ v) × Wp rest (with_value r v e)
  Wp (Room k label ∷ rest) e = (j : ℕ) × (e.named.top ≡ word_address j) × (length e.words < j + k → Q (at code label e)) × (j + k ≤ length e.words → Wp rest e)
  Wp (Test op r s label ∷ rest) e =
      (is_taken op (get e.named r) (get e.named s) ≡ true → Q (at code label e)) × (is_taken op (get e.named r) (get e.named s) ≡ false → Wp rest e)
  Wp (Jump label ∷ rest) e = Q (at code label e)
  Wp (Enter r ∷ rest) e = (j label : ℕ) × (get e.named r ≡ 8 * j) × (j < length code.entries) × (slice_index code.entries j ≡ label) × Q (at code label e)
  Wp (Put r ∷ rest) e = Wp rest (record e { output = e.output ++ (get e.named r % 256) ∷ [] })
  Wp (Take r ∷ rest) e = Wp rest (record (with_value r (taken_in (slice_get e.input 0)) e) { input = drop 1 e.input })
  Wp (End ∷ rest) e = Q (stops event.Ended e)
  Wp (Exhaust ∷ rest) e = Q (stops event.Exhausted e)
  Wp (Fault kind place ∷ rest) e = (p : Place) × (slice_get code.places place ≡ Some p) × Q (stops (event.Fault kind p) e)

  state : List Micro → Data → State
  state rest e = record { rest = rest; held = e }

  -- one that goes on with new data
  on : (m : Micro) (rest : List Micro) (e d : Data) → does code m rest e ≡ onward rest d → cost m ≤ 9
      → Reach code Q (9 * length rest) (record { rest = rest; held = d }) → Reach code Q (9 * suc (length rest)) (record { rest = m ∷ rest; held = e })
  on m rest e d is few h =
      more code Q (record { rest = m ∷ rest; held = e }) (record { rest = rest; held = d }) (9 * length rest) (9 * suc (length rest)) is (omega arith) h

  -- one that ends the block
  ends : (m : Micro) (rest : List Micro) (e : Data) (r : Led) → does code m rest e ≡ r → cost m ≤ 9 → Q r → Reach code Q (9 * suc (length rest)) (record { rest = m ∷ rest; held = e })
  ends m rest e r is few h = last code Q (record { rest = m ∷ rest; held = e }) r (9 * suc (length rest)) is (omega arith) h

  window_goes : (e : Data) (a j k : ℕ) (rest : List Micro) (d : Data) (other : Led) → a ≡ word_address j → j + k ≤ length e.words
      → cond (has_window e a k) (onward rest d) other ≡ onward rest d
  window_goes e a j k rest d other is le = cond-true (has_window e a k) (onward rest d) other (window_holds e a j k is le)

  -- where that holds, a block leads to Q at a cost of at most nine instructions for each operation
  pub sound : (rest : List Micro) (e : Data) → Wp rest e → Reach code Q (9 * length rest) (record { rest = rest; held = e })
  sound [] e h = absurd h
  sound (Set r v ∷ rest) e h = on (Set r v) rest e (with_value r v e) refl (cost_most (Set r v)) (sound rest (with_value r v e) h)
  sound (Imm op r s imm ∷ rest) e h =
      on (Imm op r s imm) rest e (with_value r h.0 e) (ap (λ v. onward rest (with_value r v e)) h.1) (omega arith) (sound rest (with_value r h.0 e) h.2)
  sound (Shift op r s amount ∷ rest) e h =
      on (Shift op r s amount) rest e (with_value r h.0 e) (ap (λ v. onward rest (with_value r v e)) h.1) (omega arith) (sound rest (with_value r h.0 e) h.2)
  sound (Alu op r s t ∷ rest) e h =
      on (Alu op r s t) rest e (with_value r h.0 e) (ap (λ v. onward rest (with_value r v e)) h.1) (omega arith) (sound rest (with_value r h.0 e) h.2)
  sound (Window r k ∷ rest) e h = on (Window r k) rest e e (window_goes e (get e.named r) h.0 k rest e (hangs e) h.1 h.2) (cost_most (Window r k)) (sound rest e h.3)
  sound (Get r s k ∷ rest) e h =
      let i = number_is (get e.named s) h.0 h.2 in
      on (Get r s k) rest e (with_value r h.1 e)
      (window_goes e (get e.named s) h.0 (k + 1) rest (with_value r (slice_index e.words (word_number (get e.named s) + k)) e) word.wrong h.2 h.3
      ∙ ap (λ v. onward rest (with_value r v e)) (ap (λ j. slice_index e.words (j + k)) i ∙ h.4))
      (omega arith)
      (sound rest (with_value r h.1 e) h.5)
  sound (Save s k r ∷ rest) e h =
      let i = number_is (get e.named s) h.0 h.1 in
      let n = set e.words (h.0 + k) (get e.named r) in
      let le = h.2 in
      on (Save s k r) rest e (record e { words = n })
      (window_goes e (get e.named s) h.0 (k + 1) rest (record e { words = set e.words (word_number (get e.named s) + k) (get e.named r) }) word.wrong h.1 h.2
      ∙ ap (λ j. onward rest (record e { words = set e.words (j + k) (get e.named r) })) i)
      (omega arith)
      (sound rest (record e { words = n }) (h.3 n (wrote e.words (h.0 + k) (get e.named r) (omega arith))))
  sound (Look r s ∷ rest) e h =
      let i = table_number_is (get e.named s) h.0 h.2 in
      on (Look r s) rest e (with_value r h.1 e)
      (cond-true (is_in_table code (get e.named s)) (onward rest (with_value r (slice_index code.table (table_number (get e.named s))) e)) (hangs e) (table_holds code (get e.named s) h.0 h.2 h.3)
      ∙ ap (λ v. onward rest (with_value r v e)) (ap (λ j. slice_index code.table j) i ∙ h.4))
      (omega arith)
      (sound rest (with_value r h.1 e) h.5)
  sound (Room k label ∷ rest) e h =
      let top = h.1 in
      elim (cases_lt (length e.words) (h.0 + k)) [
        | inl lt ↦
            ends (Room k label) rest e (at code label e)
            (ap (λ b. onward (cond b rest (block code label)) e) (lt-leb (e.named.top + 8 * k) (limit e) (omega arith))) (omega arith) (h.2 lt)
        | inr le ↦
            on (Room k label) rest e e
            (ap (λ b. onward (cond b rest (block code label)) e) (le-leb (e.named.top + 8 * k) (limit e) (omega arith))) (omega arith) (sound rest e (h.3 le))
      ]
  sound (Test op r s label ∷ rest) e h =
      elim (cases_Bool (is_taken op (get e.named r) (get e.named s))) [
        | inl yes' ↦ ends (Test op r s label) rest e (at code label e) (ap (λ b. onward (cond b (block code label) rest) e) yes') (omega arith) (h.0 yes')
        | inr no' ↦ on (Test op r s label) rest e e (ap (λ b. onward (cond b (block code label) rest) e) no') (omega arith) (sound rest e (h.1 no'))
      ]
  sound (Jump label ∷ rest) e h = ends (Jump label) rest e (at code label e) refl (omega arith) h
  sound (Enter r ∷ rest) e h =
      let value = h.2 in
      let lt = h.3 in
      let i : get e.named r / 8 ≡ h.0 = omega arith in
      ends (Enter r) rest e (at code h.1 e)
      (cond-true (nat_lt (get e.named r / 8) (length code.entries)) (onward (block code (slice_index code.entries (get e.named r / 8))) e) (hangs e) (lt-ltb (get e.named r / 8) (length code.entries) (omega arith))
      ∙ ap (λ l. at code l e) (ap (λ j. slice_index code.entries j) i ∙ h.4))
      (omega arith)
      h.5
  sound (Put r ∷ rest) e h =
      on (Put r) rest e (record e { output = e.output ++ (get e.named r % 256) ∷ [] }) refl (omega arith) (sound rest (record e { output = e.output ++ (get e.named r % 256) ∷ [] }) h)
  sound (Take r ∷ rest) e h =
      on (Take r) rest e (record (with_value r (taken_in (slice_get e.input 0)) e) { input = drop 1 e.input }) refl (omega arith)
      (sound rest (record (with_value r (taken_in (slice_get e.input 0)) e) { input = drop 1 e.input }) h)
  sound (End ∷ rest) e h = ends End rest e (stops event.Ended e) refl (omega arith) h
  sound (Exhaust ∷ rest) e h = ends Exhaust rest e (stops event.Exhausted e) refl (omega arith) h
  sound (Fault kind place ∷ rest) e h = ends (Fault kind place) rest e (stops (event.Fault kind h.0) e) (ap (λ o. faulted o kind e) h.1) (omega arith) h.2

-- ---- blocks

module _ (code : Code) (Q : Led → Type 0) where
  -- a block that is known
  pub by_block : (label : ℕ) (ops : List Micro) (e : Data) (c : ℕ) → block code label ≡ ops → 9 * length ops ≤ c → Wp code Q ops e → Reach code Q c (record { rest = block code label; held = e })
  by_block label ops e c is le h =
      let r = sound code Q ops e h in
      subst (λ (rest : List Micro). Reach code Q c (record { rest = rest; held = e })) (sym is)
      (record { count = r.count; some = r.some; cost = (let z = r.cost in omega arith); is = r.is })

  -- and what comes behind it
  pub by_blocks : (label : ℕ) (ops : List Micro) (e : Data) (n c : ℕ) → block code label ≡ ops → 9 * length ops + n ≤ c → Wp code (Later code n Q) ops e
      → Reach code Q c (record { rest = block code label; held = e })
  by_blocks label ops e n c is le h =
      let r = later code Q (record { rest = ops; held = e }) (9 * length ops) n (sound code (Later code n Q) ops e h) in
      subst (λ (rest : List Micro). Reach code Q c (record { rest = rest; held = e })) (sym is)
      (record { count = r.count; some = r.some; cost = (let z = r.cost in omega arith); is = r.is })
