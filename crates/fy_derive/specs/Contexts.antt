-- The numbers in a context.
use Rattle.std.specs.Prelude.{ℕ, List, ◌∷◌}
use Rattle.fy_derive.specs.declared.context.Context.{Context, Context-F, fold-Context}

abbrev pub numbers_step : Context-F (List ℕ) → List ℕ
numbers_step (Context-F.Outside ks) = ks.now
numbers_step (Context-F.Under k G) = k ∷ G.now

-- the numbers, the innermost first
abbrev pub numbers : Context → List ℕ
numbers = fold-Context (List ℕ) numbers_step
