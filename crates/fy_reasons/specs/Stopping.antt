-- What the program tells of a refusal, by the types of a table.
use Rattle.std.specs.Prelude.{ℕ, ◌≡◌, ◌<◌, ◌+◌, List, [], ◌∷◌, ◌++◌}
use Rattle.fy_types.specs.Types.{PlainType, PlainTypes, ns, atom, arrow, field, meet, no_types, and_type}
use Rattle.fy_phrase.specs.Tree.{Tree}
use Rattle.fy_phrase.specs.Reads.{reads}
use Rattle.fy_derive.specs.declared.table.TypeTable.{TypeTable}
use Rattle.fy_reasons.specs.declared.reasons.Why.{Why}
use Rattle.fy_reasons.specs.declared.reasons.Why.TheVariants as why
use Rattle.fy_reasons.specs.declared.reasons.Stopped.{Stopped}
use Rattle.fy_reasons.specs.declared.expected.Asking.{Asking}
use Rattle.fy_reasons.specs.declared.expected.Asking.TheVariants as asking
use Rattle.fy_reasons.specs.declared.expected.Halves.{Halves}
use Rattle.fy_reasons.specs.declared.expected.Halves.TheVariants.{Nothing, Single, Both}
use Rattle.fy_derive.specs.Derivations.{PlainDerivation}
use Rattle.fy_derive.specs.Reading.{plain_derivation}
use Rattle.fy_derive.specs.Shown.{total, shown, all_shown, AreIn}
use Rattle.fy_reasons.specs.Expected.{Asked, anything, one_of, an_arrow, a_field, singles}
use Rattle.fy_reasons.specs.Reasons.{Reason, other_form, other_count, no_alternative, few_parts, not_below, taken_right, other_types, no_command, Stop, stop_at, judged_so, stops}

abbrev pub why_read : TypeTable → Why → Reason
why_read t why.OtherForm = other_form
why_read t why.OtherCount = other_count
why_read t why.NoAlternative = no_alternative
why_read t why.FewParts = few_parts
why_read t (why.NotBelow n) = not_below (shown t n)
why_read t (why.TakenRight n) = taken_right (shown t n)
why_read t (why.OtherTypes ks) = other_types (all_shown t ks.items)
why_read t (why.NoCommand n) = no_command (shown t n)

abbrev pub stop_read : TypeTable → Stopped → Stop
stop_read t s = stop_at s.number (plain_derivation s.node.now) (all_shown t s.types.items) (reads s.phrase.now) (why_read t s.why)

-- the types that are told of are those of the table
abbrev pub IsWhyIn : TypeTable → Why → Type 0
IsWhyIn t why.OtherForm = Unit {0}
IsWhyIn t why.OtherCount = Unit {0}
IsWhyIn t why.NoAlternative = Unit {0}
IsWhyIn t why.FewParts = Unit {0}
IsWhyIn t (why.NotBelow n) = n < total t
IsWhyIn t (why.TakenRight n) = n < total t
IsWhyIn t (why.OtherTypes ks) = AreIn t ks.items
IsWhyIn t (why.NoCommand n) = n < total t

pub record IsStopIn (t : TypeTable) (s : Stopped) : Type 0 where
  pub types_in : AreIn t s.types.items
  pub why_in : IsWhyIn t s.why

-- judging stops at the derivation's own node for this reason
abbrev pub OwnStop : TypeTable → PlainDerivation → ℕ → List PlainType → Tree → Why → Type 0
OwnStop t d n G p w = judged_so d n G p ≡ stops (stop_at n d G p (why_read t w))

abbrev pub asking_read : TypeTable → Asking → Asked
asking_read t asking.Anything = anything
asking_read t (asking.OneOf ks) = one_of (all_shown t ks.items)
asking_read t asking.AnArrow = an_arrow
asking_read t (asking.AField i) = a_field i

-- the types that are asked are those of the table
abbrev pub IsAskingIn : TypeTable → Asking → Type 0
IsAskingIn t asking.Anything = Unit {0}
IsAskingIn t (asking.OneOf ks) = AreIn t ks.items
IsAskingIn t asking.AnArrow = Unit {0}
IsAskingIn t (asking.AField i) = Unit {0}

-- how many members the meets of a type have, but for those in domains
abbrev mutual
  pub members_under : PlainType → ℕ
  members_under ns = 0
  members_under (atom a) = 0
  members_under (arrow A B) = members_under B
  members_under (field i A) = members_under A
  members_under (meet As) = all_members_under As

  pub all_members_under : PlainTypes → ℕ
  all_members_under no_types = 0
  all_members_under (and_type A As) = 1 + (members_under A + all_members_under As)

-- two types have the single types of one, and fewer members each
pub record AreHalves (t : TypeTable) (A : PlainType) (i j : ℕ) : Type 0 where
  pub first_in : i < total t
  pub second_in : j < total t
  pub same : singles A ≡ singles (shown t i) ++ singles (shown t j)
  pub first_fewer : members_under (shown t i) < members_under A
  pub second_fewer : members_under (shown t j) < members_under A

-- a type has no single type, is one, or has two halves
abbrev pub IsHalved : TypeTable → PlainType → Halves → Type 0
IsHalved t A Nothing = singles A ≡ []
IsHalved t A Single = singles A ≡ A ∷ []
IsHalved t A (Both i j) = AreHalves t A i j
