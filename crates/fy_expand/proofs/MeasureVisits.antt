-- Visits, as far as numbers of 64 bits tell them.
use Rattle.std.proofs.Common.{◌≡◌, ℕ, zero, suc, ◌+◌, ◌*◌, ◌-◌, ◌^◌, min, List, [], ◌∷◌, length, map, inl, inr, refl, ap, ◌∙◌, arith}
use Rattle.std.proofs.Math.Nat.{suc-mul}
use Rattle.std.proofs.lemmas.Bool.{cases_lt}
use Rattle.std.proofs.lemmas.List.{length-map}
use Rattle.fy_types.specs.declared.types.TyList.{TyList}
use Rattle.fy_types.specs.Types.{PlainType}
use Rattle.fy_types.specs.Reading.{types_in, types_from, plain_type, plain_types}
use Rattle.fy_types.proofs.ReadLemmas.{plain_types-at}
use Rattle.fy_phrase.specs.Sizes.{greatest_u64}
use Rattle.fy_phrase.specs.CoreLimits.{types_count}

types_count-from : (As : List PlainType) → types_count (types_from As) ≡ length As
types_count-from [] = refl
types_count-from (A ∷ As) = ap suc (types_count-from As)

-- the number of alternatives
pub types_count-at : (l : TyList) → types_count (plain_types l) ≡ length (types_in l)
types_count-at l = ap types_count (plain_types-at l) ∙ types_count-from (map plain_type (types_in l)) ∙ length-map (types_in l) plain_type

-- a product tells no more than that of a number that is cut
min-mul : (m n v : ℕ) → min (n * min v m) m ≡ min (n * v) m
min-mul m zero v = omega arith
min-mul m (suc n) v = elim (cases_lt m v) [
  | inl less ↦ let cut : min v m ≡ m = omega arith in
      ap (λ x. min (suc n * x) m) cut ∙ omega (arith, suc-mul n m, suc-mul n v)
  | inr more ↦ let all : min v m ≡ v = omega arith in ap (λ x. min (suc n * x) m) all
]

pub visits-lam : (n m v : ℕ) → n ≡ m → greatest_u64 (greatest_u64 (n * greatest_u64 v) + 1) ≡ greatest_u64 (suc (m * v))
visits-lam n m v e = let cut = min-mul (2 ^ 64 - 1) n v in ap (λ x. greatest_u64 (x + 1)) cut ∙ ap (λ k. greatest_u64 (greatest_u64 (k * v) + 1)) e ∙ omega arith
