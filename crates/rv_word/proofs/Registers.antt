-- Registers read after one was written.
use Rattle.std.proofs.Common.{◌≡◌, ℕ, refl}
use Rattle.rv_word.specs.declared.micros.Register.{Register}
use Rattle.rv_word.specs.declared.micros.Register.TheVariants.{Zero, Frame, Context, Top, Datum, First, Second, Third}
use Rattle.rv_word.specs.Word.{Named, get, set, zeros}

-- what holds of the values that are written to a register, in two tables at once, and of those of each other, holds of each
pub either_set : (P : Register → ℕ → ℕ → Type 0) (n m : Named) (r q : Register) (x y : ℕ) → P r x y → P q (get n q) (get m q) → P q (get (set n r x) q) (get (set m r y) q)
either_set P n m Zero q x y h other = other
either_set P n m Frame Frame x y h other = h
either_set P n m Frame q x y h other = other
either_set P n m Context Context x y h other = h
either_set P n m Context q x y h other = other
either_set P n m Top Top x y h other = h
either_set P n m Top q x y h other = other
either_set P n m Datum Datum x y h other = h
either_set P n m Datum q x y h other = other
either_set P n m First First x y h other = h
either_set P n m First q x y h other = other
either_set P n m Second Second x y h other = h
either_set P n m Second q x y h other = other
either_set P n m Third Third x y h other = h
either_set P n m Third q x y h other = other

pub zero_is : (r : Register) → get zeros r ≡ 0
zero_is Zero = refl
zero_is r = refl
