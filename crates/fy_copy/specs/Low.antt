-- What keeps every sum of a state within 64 bits, and which contexts take memory.
use Rattle.std.specs.Prelude.{ℕ, ◌^◌, ◌≤◌, List, [], ◌∷◌}
use Rattle.fy_phrase.specs.Contexts.{CopyContext, Pushed}
use Rattle.fy_phrase.specs.Copy.{CopyState}
use Rattle.fy_copy.specs.declared.context.Context.{Context}
use Rattle.fy_copy.specs.declared.context.Context.TheVariants as held

-- a load and a number far below 2^64
abbrev pub LOW : ℕ
LOW = 2 ^ 62

abbrev pub AreLow : List (Pushed CopyContext) → Type 0
AreLow [] = Unit {0}
AreLow (c ∷ cs) = (c.base ≤ LOW) × AreLow cs

-- a context at which a datum takes no memory
abbrev pub IsAtOnce : Context → Type 0
IsAtOnce (held.Case parts at) = ⊥
IsAtOnce (held.New d body) = ⊥
IsAtOnce (held.Put kind) = ⊥
IsAtOnce (held.Cells d body at) = ⊥
IsAtOnce (held.Fill f) = ⊥
IsAtOnce _ = Unit {0}

-- a state whose load, bases and next number are far below 2^64
pub record IsLow (s : CopyState) : Type 0 where
  pub load : s.load ≤ LOW
  pub bases : AreLow s.contexts
  pub next : s.next ≤ LOW
