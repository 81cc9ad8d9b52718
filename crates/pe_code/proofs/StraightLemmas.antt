-- Straight code comes to the same where its cells are read in the same way.
use Rattle.std.proofs.Common.{ℕ, List, [], ◌∷◌}
use Rattle.fy_base.specs.declared.data.Datum.{Datum}
use Rattle.pe_code.specs.declared.code.StraightPart.{StraightPart}
use Rattle.pe_code.specs.declared.code.StraightPart.TheVariants as part
use Rattle.pe_code.specs.Straight.{Reading, no_frame, Outcome, leaves, fails, has_none, misses, cell_pushed, outcome_then, outcome_with, outcome_after}

-- what is read is the same, but where the first has no frame
pub data ReadsAlike : Reading → Reading → Type 0 where
  same_reading : {r : Reading} → ReadsAlike r r
  one_missing : {r : Reading} → ReadsAlike no_frame r

pub data OutcomesAlike : Outcome → Outcome → Type 0 where
  same_outcome : {o : Outcome} → OutcomesAlike o o
  one_misses : {o : Outcome} → OutcomesAlike misses o

cell-alike : {r q : Reading} (stack : List Datum) → ReadsAlike r q → OutcomesAlike (cell_pushed r stack) (cell_pushed q stack)
cell-alike stack same_reading = same_outcome
cell-alike stack one_missing = one_misses

then-alike : {o p : Outcome} (go to : List Datum → Outcome) → OutcomesAlike o p → ((stack : List Datum) → OutcomesAlike (go stack) (to stack)) →
    OutcomesAlike (outcome_then o go) (outcome_then p to)
then-alike go to (same_outcome {o = o}) h = by o
  where
    by : (o : Outcome) → OutcomesAlike (outcome_then o go) (outcome_then o to)
    by (leaves stack) = h stack
    by (fails kind a) = same_outcome
    by has_none = same_outcome
    by misses = same_outcome
then-alike go to one_misses h = one_misses

module _ (read other : ℕ → Reading) (each : (k : ℕ) → ReadsAlike (read k) (other k)) where
  with-alike : (s : StraightPart) (stack : List Datum) → OutcomesAlike (outcome_with read s stack) (outcome_with other s stack)
  with-alike (part.Literal v) stack = same_outcome
  with-alike (part.Cell k) stack = cell-alike stack (each k)
  with-alike (part.Unary op a) [] = same_outcome
  with-alike (part.Unary op a) (v ∷ stack) = same_outcome
  with-alike (part.Binary op a) [] = same_outcome
  with-alike (part.Binary op a) (v ∷ []) = same_outcome
  with-alike (part.Binary op a) (v ∷ u ∷ stack) = same_outcome

  pub outcomes-alike : (ss : List StraightPart) (stack : List Datum) → OutcomesAlike (outcome_after read ss stack) (outcome_after other ss stack)
  outcomes-alike [] stack = same_outcome
  outcomes-alike (s ∷ ss) stack = then-alike (λ more. outcome_after read ss more) (λ more. outcome_after other ss more) (with-alike s stack) (λ more. outcomes-alike ss more)
