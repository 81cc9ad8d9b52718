-- What operations lead to, as what is left to prove of them.
use Rattle.std.proofs.Common.{◌≡◌, ℕ, suc, ◌+◌, ◌≤◌, Bool, true, false, cond, List, [], ◌∷◌, ◌++◌, length, slice_index, MatchBool, refl, ap, ◌∙◌, arith}
use Rattle.std.specs.Int.{cast_unsigned, w64}
use Rattle.rv_insn.specs.declared.instructions.BranchOp.{BranchOp}
use Rattle.rv_insn.specs.Operations.{reg_value, imm_value, shift_value, is_taken}
use Rattle.rv_word.specs.declared.micros.Register.{Register}
use Rattle.rv_word.specs.declared.micros.Micro.{Micro}
use Rattle.rv_word.specs.declared.micros.Micro.TheVariants.{Set, Imm, Shift, Alu, Window, Get, Test}
use Rattle.rv_word.specs.Word.{Data, Code, State, goes, hangs, wrong, get, word_address, word_number, block, onward, written, word_step, word_run}
use Rattle.rv_word.specs.Costs.{block_cost, next_cost, spent}
use Rattle.rv_operators.proofs.Blocks.{run_step, spent_none, run_none, spent_step}
use Rattle.rv_operators.proofs.Contexts.{window_lies, read}
use Rattle.rv_straight.proofs.Registers.{with_value}

-- ---- from some data on they lead to their end with data of which Q holds, or to a label with data of which F does

module _ (F : ℕ → Data → Type 0) where
  abbrev pub Needs : List Micro → Data → (Data → Type 0) → Type 0
  Needs [] e Q = Q e
  Needs (Set r v ∷ ms) e Q = Needs ms (with_value r v e) Q
  Needs (Imm op r s imm ∷ ms) e Q = (v : ℕ) × (imm_value op (get e.named s) (cast_unsigned w64 imm) ≡ v) × Needs ms (with_value r v e) Q
  Needs (Shift op r s amount ∷ ms) e Q = (v : ℕ) × (shift_value op (get e.named s) amount ≡ v) × Needs ms (with_value r v e) Q
  Needs (Alu op r s t ∷ ms) e Q = (v : ℕ) × (reg_value op (get e.named s) (get e.named t) ≡ v) × Needs ms (with_value r v e) Q
  Needs (Window r k ∷ ms) e Q = (j : ℕ) × (get e.named r ≡ word_address j) × (j + k ≤ length e.words) × Needs ms e Q
  Needs (Get r s k ∷ ms) e Q =
      (j v : ℕ) × (get e.named s ≡ word_address j) × (j + (k + 1) ≤ length e.words) × (slice_index e.words (j + k) ≡ v) × Needs ms (with_value r v e) Q
  Needs (Test op r s label ∷ ms) e Q = (b : Bool) × (is_taken op (get e.named r) (get e.named s) ≡ b) × MatchBool b (F label e) (Needs ms e Q)
  Needs (m ∷ ms) e Q = ⊥

  passed_on : (b : Bool) (A B C : Type 0) → MatchBool b A B → (B → C) → MatchBool b A C
  passed_on true A B C h go = h
  passed_on false A B C h go = go h

  -- operations behind others
  pub needs_joined : (xs ys : List Micro) (e : Data) (Q : Data → Type 0) → Needs xs e (λ f. Needs ys f Q) → Needs (xs ++ ys) e Q
  needs_joined [] ys e Q h = h
  needs_joined (Set r v ∷ xs) ys e Q h = needs_joined xs ys (with_value r v e) Q h
  needs_joined (Imm op r s imm ∷ xs) ys e Q h = (h.0, h.1, needs_joined xs ys (with_value r h.0 e) Q h.2)
  needs_joined (Shift op r s amount ∷ xs) ys e Q h = (h.0, h.1, needs_joined xs ys (with_value r h.0 e) Q h.2)
  needs_joined (Alu op r s t ∷ xs) ys e Q h = (h.0, h.1, needs_joined xs ys (with_value r h.0 e) Q h.2)
  needs_joined (Window r k ∷ xs) ys e Q h = (h.0, h.1, h.2, needs_joined xs ys e Q h.3)
  needs_joined (Get r s k ∷ xs) ys e Q h = (h.0, h.1, h.2, h.3, h.4, needs_joined xs ys (with_value r h.1 e) Q h.5)
  needs_joined (Test op r s label ∷ xs) ys e Q h = (h.0, h.1, passed_on h.0 (F label e) (Needs xs e (λ f. Needs ys f Q)) (Needs (xs ++ ys) e Q) h.2 (λ k. needs_joined xs ys e Q k))
  needs_joined (m ∷ xs) ys e Q h = absurd h

-- ---- runs

abbrev pub state : List Micro → Data → State
state rest e = record { rest = rest; held = e }

-- some steps, at so great a cost at most, lead to a state of which P holds
pub record Comes (code : Code) (P : State → Type 0) (most : ℕ) (s : State) : Type 0 where
  pub steps : ℕ
  pub after : State
  pub leads : word_run code steps s ≡ goes after
  pub cost : spent code steps s ≤ most
  pub holds : P after

module _ (code : Code) (P : State → Type 0) where
  here : (most : ℕ) (s : State) → P s → Comes code P most s
  here most s h = let none = spent_none code s in record { steps = 0; after = s; leads = run_none code s; cost = omega arith; holds = h }

  on : (most all : ℕ) (s t : State) → next_cost s.rest + most ≤ all → word_step code s ≡ goes t → Comes code P most t → Comes code P all s
  on most all s t le e h =
      let c = h.cost in
      let first = spent_step code h.steps s t e in
      record { steps = suc h.steps; after = h.after; leads = run_step code h.steps s t e ∙ h.leads; cost = omega arith; holds = h.holds }

module _ (code : Code) (P : State → Type 0) (rest : List Micro) where
  -- a label's block is come to
  abbrev pub At : ℕ → Data → Type 0
  At label e = P (state (block code label) e)

  abbrev pub Ends : Data → Type 0
  Ends e = P (state rest e)

  goes_on : (m : Micro) (ms : List Micro) (e f : Data) → word_step code (state (m ∷ (ms ++ rest)) e) ≡ goes (state (ms ++ rest) f) → Comes code P (block_cost ms) (state (ms ++ rest) f)
      → Comes code P (block_cost (m ∷ ms)) (state (m ∷ (ms ++ rest)) e)
  goes_on m ms e f is h = on code P (block_cost ms) (block_cost (m ∷ ms)) (state (m ∷ (ms ++ rest)) e) (state (ms ++ rest) f) (omega arith) is h

  tests : (op : BranchOp) (r s : Register) (label : ℕ) (ms : List Micro) (e : Data) (b : Bool) → is_taken op (get e.named r) (get e.named s) ≡ b
      → MatchBool b (At label e) (Needs At ms e Ends) → (Needs At ms e Ends → Comes code P (block_cost ms) (state (ms ++ rest) e))
      → Comes code P (block_cost (Test op r s label ∷ ms)) (state (Test op r s label ∷ (ms ++ rest)) e)
  tests op r s label ms e true is q more =
      on code P 0 (block_cost (Test op r s label ∷ ms)) (state (Test op r s label ∷ (ms ++ rest)) e) (state (block code label) e) (omega arith)
      (ap (λ (b : Bool). onward (cond b (block code label) (ms ++ rest)) e) is) (here code P 0 (state (block code label) e) q)
  tests op r s label ms e false is q more =
      goes_on (Test op r s label) ms e e (ap (λ (b : Bool). onward (cond b (block code label) (ms ++ rest)) e) is) (more q)

  pub comes : (ms : List Micro) (e : Data) → Needs At ms e Ends → Comes code P (block_cost ms) (state (ms ++ rest) e)
  comes [] e h = here code P 0 (state rest e) h
  comes (Set r v ∷ ms) e h = goes_on (Set r v) ms e (with_value r v e) refl (comes ms (with_value r v e) h)
  comes (Imm op r s imm ∷ ms) e h = goes_on (Imm op r s imm) ms e (with_value r h.0 e) (ap (λ (v : ℕ). written (ms ++ rest) r v e) h.1) (comes ms (with_value r h.0 e) h.2)
  comes (Shift op r s amount ∷ ms) e h = goes_on (Shift op r s amount) ms e (with_value r h.0 e) (ap (λ (v : ℕ). written (ms ++ rest) r v e) h.1) (comes ms (with_value r h.0 e) h.2)
  comes (Alu op r s t ∷ ms) e h = goes_on (Alu op r s t) ms e (with_value r h.0 e) (ap (λ (v : ℕ). written (ms ++ rest) r v e) h.1) (comes ms (with_value r h.0 e) h.2)
  comes (Window r k ∷ ms) e h =
      goes_on (Window r k) ms e e (ap (λ (b : Bool). cond b (onward (ms ++ rest) e) (hangs e)) (window_lies e (get e.named r) h.0 k h.1 h.2)) (comes ms e h.3)
  comes (Get r s k ∷ ms) e h =
      goes_on (Get r s k) ms e (with_value r h.1 e)
      (ap (λ (b : Bool). cond b (written (ms ++ rest) r (slice_index e.words (word_number (get e.named s) + k)) e) wrong) (window_lies e (get e.named s) h.0 (k + 1) h.2 h.3)
      ∙ ap (λ (v : ℕ). written (ms ++ rest) r v e) (read e (get e.named s) h.0 k h.1 h.2 h.4))
      (comes ms (with_value r h.1 e) h.5)
  comes (Test op r s label ∷ ms) e h = tests op r s label ms e h.0 h.1 h.2 (λ q. comes ms e q)
  comes (m ∷ ms) e h = absurd h
