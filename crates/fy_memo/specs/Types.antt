-- That a type's meets have two members or more is a fact in one way alone.
use Rattle.std.specs.Coded.{×_prop, Unit-prop}
use Rattle.fy_types.specs.Fields.{AreSome, HasFullMeets, HaveFullMeets}
use Rattle.fy_types.specs.Types.{PlainType, PlainTypes, ns, atom, arrow, field, meet, no_types, and_type}

some_prop : (As : PlainTypes) → IsProp (AreSome As)
some_prop no_types = λ x y. absurd x
some_prop (and_type A no_types) = λ x y. absurd x
some_prop (and_type A (and_type B As)) = Unit-prop

mutual
  pub full_prop : (A : PlainType) → IsProp (HasFullMeets A)
  full_prop ns = Unit-prop
  full_prop (atom a) = Unit-prop
  full_prop (arrow A B) = ×_prop (full_prop A) (full_prop B)
  full_prop (field i A) = full_prop A
  full_prop (meet As) = ×_prop (some_prop As) (all_full_prop As)

  all_full_prop : (As : PlainTypes) → IsProp (HaveFullMeets As)
  all_full_prop no_types = Unit-prop
  all_full_prop (and_type A As) = ×_prop (full_prop A) (all_full_prop As)
