-- How long short texts are.
use Rattle.std.proofs.Common.{◌≡◌, ◌≤◌, ℕ, max, Bool, true, false, if◌then◌else◌, ◌++◌, length, codes, refl, sym, subst, arith}
use Rattle.std.proofs.lemmas.Bool.{leb-true, ltb-true}
use Rattle.std.specs.Prelude.{nat_le, nat_lt}
use Rattle.fy_base.specs.Outside.{Bytes}
use Rattle.fy_show.specs.declared.manner.Manner.TheVariants.{Whole, Bare}
use Rattle.fy_show.specs.Laws.{ShortIsShort}
use Rattle.fy_show.specs.Texts.{enclosed}

-- at level 0 nothing stands in parentheses
enclosed-none : (level : ℕ) (text : Bytes) → enclosed 0 level text ≡ text
enclosed-none level text = not_low (nat_lt level 0) refl
  where
    not_low : (b : Bool) → nat_lt level 0 ≡ b → (if b then codes "(" ++ text ++ codes ")" else text) ≡ text
    not_low false e = refl
    not_low true e = let h = ltb-true level 0 e in absurd (omega arith)

short-one : (n : ℕ) (level : ℕ) (text other : Bytes) (b : Bool) → nat_le (length text) n ≡ b → length other ≤ max n 2 →
    length (if b then enclosed 0 level text else other) ≤ max n 2
short-one n level text other false e h = h
short-one n level text other true e h = let l = leb-true (length text) n e in subst (λ t. length t ≤ max n 2) (sym (enclosed-none level text)) (omega (arith, l))

-- the whole text, the bare one, or `..`
pub short-short : ShortIsShort
short-short n q =
    short-one n q.0 (q.1 Whole) (if nat_le (length (q.1 Bare)) n then enclosed 0 q.0 (q.1 Bare) else codes "..") (nat_le (length (q.1 Whole)) n) refl
    (short-one n q.0 (q.1 Bare) (codes "..") (nat_le (length (q.1 Bare)) n) refl (omega arith))
