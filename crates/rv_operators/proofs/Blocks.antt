-- What a block of micro-operations leads to, as what is left to prove of it.
use Rattle.std.proofs.Common.{◌≡◌, ℕ, zero, suc, ◌+◌, ◌/◌, ◌≤◌, Bool, true, false, cond, nat_lt, List, [], ◌∷◌, length, slice_index, MatchBool, refl, sym, ap, ◌∙◌, subst, arith}
use Rattle.std.specs.Int.{cast_unsigned, w64}
use Rattle.rv_insn.specs.Operations.{reg_value, imm_value, shift_value, is_taken}
use Rattle.rv_insn.specs.declared.instructions.BranchOp.{BranchOp}
use Rattle.rv_word.specs.declared.micros.Register.{Register}
use Rattle.rv_word.specs.declared.micros.Micro.{Micro}
use Rattle.rv_word.specs.declared.micros.Micro.TheVariants.{Imm, Shift, Alu, Window, Get, Test, Jump, Enter}
use Rattle.rv_word.specs.Word.{Data, Code, State, goes, hangs, wrong, get, set, word_number, has_window, block, onward, written, after_step, word_step, led_on, word_run}
use Rattle.rv_word.specs.Costs.{block_cost, next_cost, led_cost, spent}
use Rattle.rv_operators.specs.Laws.{at_block, Leads}

-- some steps, at least so many and at a cost of at most so much, lead to a block with data of which P holds
pub record Comes (code : Code) (least most : ℕ) (s : State) (to : ℕ) (P : Data → Type 0) : Type 0 where
  pub steps : ℕ
  pub some : least ≤ steps
  pub after : Data
  pub leads : word_run code steps s ≡ goes (at_block code to after)
  pub cost : spent code steps s ≤ most
  pub holds : P after

-- a step and then others
pub run_step : (code : Code) (n : ℕ) (s t : State) → word_step code s ≡ goes t → word_run code (suc n) s ≡ word_run code n t
unfolding led_on
run_step code zero s t e = e
run_step code (suc n) s t e = ap (after_step code) (run_step code n s t e)

pub spent_none : (code : Code) (s : State) → spent code 0 s ≡ 0
unfolding spent
spent_none code s = refl

spent_more : (code : Code) (n : ℕ) (s : State) → spent code (suc n) s ≡ spent code n s + led_cost (word_run code n s)
unfolding spent
spent_more code n s = refl

pub run_none : (code : Code) (s : State) → word_run code 0 s ≡ goes s
unfolding led_on
run_none code s = refl

pub spent_step : (code : Code) (n : ℕ) (s t : State) → word_step code s ≡ goes t → spent code (suc n) s ≡ next_cost s.rest + spent code n t
spent_step code zero s t e =
    let first = spent_more code 0 s in
    let start = spent_none code s in
    let end = spent_none code t in
    let here : led_cost (word_run code 0 s) ≡ next_cost s.rest = ap led_cost (run_none code s) in
    omega arith
spent_step code (suc n) s t e =
    let more = spent_more code (suc n) s in
    let behind = spent_more code n t in
    let before = spent_step code n s t e in
    let same : led_cost (word_run code (suc n) s) ≡ led_cost (word_run code n t) = ap led_cost (run_step code n s t e) in
    omega arith

module _ (code : Code) (to : ℕ) (P : Data → Type 0) where
  pub arrives : (most : ℕ) (e : Data) → P e → Comes code 0 most (at_block code to e) to P
  arrives most e h =
      let none = spent_none code (at_block code to e) in
      record { steps = 0; some = omega arith; after = e; leads = run_none code (at_block code to e); cost = omega arith; holds = h }

  steps_on : (most all : ℕ) (s t : State) → next_cost s.rest + most ≤ all → word_step code s ≡ goes t → Comes code 0 most t to P → Comes code 1 all s to P
  steps_on most all s t le e h =
      let c = h.cost in
      let first = spent_step code h.steps s t e in
      record { steps = suc h.steps; some = omega arith; after = h.after; leads = run_step code h.steps s t e ∙ h.leads; cost = omega arith; holds = h.holds }

  from_none : (most : ℕ) (s : State) → Comes code 1 most s to P → Comes code 0 most s to P
  from_none most s h = record { steps = h.steps; some = omega arith; after = h.after; leads = h.leads; cost = h.cost; holds = h.holds }

-- what has to be shown of a block, from some data on, so that it leads to a label and data of which Q holds
module _ (code : Code) (Q : ℕ → Data → Type 0) where
  abbrev pub Needs : List Micro → Data → Type 0
  Needs [] e = ⊥
  Needs (Imm op r s imm ∷ rest) e = (v : ℕ) × (imm_value op (get e.named s) (cast_unsigned w64 imm) ≡ v) × Needs rest (record e { named = set e.named r v })
  Needs (Shift op r s amount ∷ rest) e = (v : ℕ) × (shift_value op (get e.named s) amount ≡ v) × Needs rest (record e { named = set e.named r v })
  Needs (Alu op r s t ∷ rest) e = (v : ℕ) × (reg_value op (get e.named s) (get e.named t) ≡ v) × Needs rest (record e { named = set e.named r v })
  Needs (Window r k ∷ rest) e = (has_window e (get e.named r) k ≡ true) × Needs rest e
  Needs (Get r s k ∷ rest) e =
      (v : ℕ) × (has_window e (get e.named s) (k + 1) ≡ true) × (slice_index e.words (word_number (get e.named s) + k) ≡ v)
      × Needs rest (record e { named = set e.named r v })
  Needs (Test op r s label ∷ rest) e = (b : Bool) × (is_taken op (get e.named r) (get e.named s) ≡ b) × MatchBool b (Q label e) (Needs rest e)
  Needs (Jump label ∷ rest) e = Q label e
  Needs (Enter r ∷ rest) e = (nat_lt (get e.named r / 8) (length code.entries) ≡ true) × Q (slice_index code.entries (get e.named r / 8)) e
  Needs (m ∷ rest) e = ⊥

module _ (code : Code) (to : ℕ) (P : Data → Type 0) (most : ℕ) where
  -- from a label on it comes to where it should
  abbrev pub From : ℕ → Data → Type 0
  From label e = Comes code 0 most (at_block code label e) to P

  abbrev pub rest_at : List Micro → Data → State
  rest_at rest e = record { rest = rest; held = e }

  -- an operation that goes on with the rest of the block
  goes_on : (m : Micro) (rest : List Micro) (e f : Data) → word_step code (rest_at (m ∷ rest) e) ≡ goes (rest_at rest f) → Comes code 1 (block_cost rest + most) (rest_at rest f) to P
      → Comes code 1 (block_cost (m ∷ rest) + most) (rest_at (m ∷ rest) e) to P
  goes_on m rest e f is h =
      steps_on code to P (block_cost rest + most) (block_cost (m ∷ rest) + most) (rest_at (m ∷ rest) e) (rest_at rest f) (omega arith) is (from_none code to P (block_cost rest + most) (rest_at rest f) h)

  -- one that goes to a label
  goes_to : (m : Micro) (rest : List Micro) (e : Data) (label : ℕ) → word_step code (rest_at (m ∷ rest) e) ≡ goes (at_block code label e) → From label e
      → Comes code 1 (block_cost (m ∷ rest) + most) (rest_at (m ∷ rest) e) to P
  goes_to m rest e label is h =
      steps_on code to P most (block_cost (m ∷ rest) + most) (rest_at (m ∷ rest) e) (at_block code label e) (omega arith) is h

  tests : (op : BranchOp) (r s : Register) (label : ℕ) (rest : List Micro) (e : Data) (b : Bool) → is_taken op (get e.named r) (get e.named s) ≡ b
      → MatchBool b (From label e) (Needs code From rest e) → (Needs code From rest e → Comes code 1 (block_cost rest + most) (rest_at rest e) to P)
      → Comes code 1 (block_cost (Test op r s label ∷ rest) + most) (rest_at (Test op r s label ∷ rest) e) to P
  tests op r s label rest e true is q more =
      goes_to (Test op r s label) rest e label (ap (λ (b : Bool). onward (cond b (block code label) rest) e) is) q
  tests op r s label rest e false is q more =
      goes_on (Test op r s label) rest e e (ap (λ (b : Bool). onward (cond b (block code label) rest) e) is) (more q)

  pub comes : (rest : List Micro) (e : Data) → Needs code From rest e → Comes code 1 (block_cost rest + most) (rest_at rest e) to P
  comes [] e h = absurd h
  comes (Imm op r s imm ∷ rest) e h =
      goes_on (Imm op r s imm) rest e (record e { named = set e.named r h.0 }) (ap (λ (v : ℕ). written rest r v e) h.1) (comes rest (record e { named = set e.named r h.0 }) h.2)
  comes (Shift op r s amount ∷ rest) e h =
      goes_on (Shift op r s amount) rest e (record e { named = set e.named r h.0 }) (ap (λ (v : ℕ). written rest r v e) h.1) (comes rest (record e { named = set e.named r h.0 }) h.2)
  comes (Alu op r s t ∷ rest) e h =
      goes_on (Alu op r s t) rest e (record e { named = set e.named r h.0 }) (ap (λ (v : ℕ). written rest r v e) h.1) (comes rest (record e { named = set e.named r h.0 }) h.2)
  comes (Window r k ∷ rest) e h = goes_on (Window r k) rest e e (ap (λ (b : Bool). cond b (onward rest e) (hangs e)) h.0) (comes rest e h.1)
  comes (Get r s k ∷ rest) e h =
      goes_on (Get r s k) rest e (record e { named = set e.named r h.0 })
      (ap (λ (b : Bool). cond b (written rest r (slice_index e.words (word_number (get e.named s) + k)) e) wrong) h.1 ∙ ap (λ (v : ℕ). written rest r v e) h.2)
      (comes rest (record e { named = set e.named r h.0 }) h.3)
  comes (Test op r s label ∷ rest) e h = tests op r s label rest e h.0 h.1 h.2 (λ q. comes rest e q)
  comes (Jump label ∷ rest) e h = goes_to (Jump label) rest e label refl h
  comes (Enter r ∷ rest) e h =
      goes_to (Enter r) rest e (slice_index code.entries (get e.named r / 8))
      (ap (λ (b : Bool). cond b (onward (block code (slice_index code.entries (get e.named r / 8))) e) (hangs e)) h.0) h.1
  comes (m ∷ rest) e h = absurd h

  -- a block of code, of which that is known
  pub block_comes : (all label : ℕ) (micros : List Micro) (e : Data) → block code label ≡ micros → block_cost micros + most ≤ all → Needs code From micros e
      → Comes code 1 all (at_block code label e) to P
  block_comes all label micros e is le h =
      subst (λ (rest : List Micro). Comes code 1 all (rest_at rest e) to P) (sym is) (widened (comes micros e h))
    where
      widened : Comes code 1 (block_cost micros + most) (rest_at micros e) to P → Comes code 1 all (rest_at micros e) to P
      widened h = let c = h.cost in record { steps = h.steps; some = h.some; after = h.after; leads = h.leads; cost = omega arith; holds = h.holds }

pub from_zero : (code : Code) (most : ℕ) (s : State) (to : ℕ) (P : Data → Type 0) → Comes code 1 most s to P → Comes code 0 most s to P
from_zero code most s to P h = from_none code to P most s h

-- as the laws say it
pub leads_from : (code : Code) (from to : ℕ) (e : Data) (P : Data → Type 0) → Comes code 1 60 (at_block code from e) to P → Leads code from to e P
leads_from code from to e P h = record { steps = h.steps; some = h.some; after = h.after; leads = h.leads; cost = h.cost; holds = h.holds }
