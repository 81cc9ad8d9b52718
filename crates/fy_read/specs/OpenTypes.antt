-- A type as far as it is read: what stands between a parenthesis, or a bracket, and its end, and how deep it is.
use Rattle.std.specs.Prelude.{◌≡◌, ℕ, ◌+◌, ◌<◌, ◌≤◌, max, List, [], ◌∷◌, ◌++◌, length}
use Rattle.fy_types.specs.Types.{PlainType, PlainTypes}
use Rattle.fy_types.specs.Types as types
use Rattle.fy_types.specs.Reading.{types_from}
use Rattle.fy_types.specs.Nested.{type_nesting}
use Rattle.fy_derive.specs.Limits.{most_type_nesting}
use Rattle.fy_read.specs.Spelling.{meet_of}

-- what stands before each `->`, the members of the meet behind the last one, and the fields before the part that comes next
pub record PlainLevel : Type 0 where
  pub domains : List PlainType
  pub members : List PlainType
  pub fields : List ℕ

abbrev pub no_level : PlainLevel
no_level = record { domains = []; members = []; fields = [] }

-- a part behind its fields
abbrev pub in_fields : List ℕ → PlainType → PlainType
in_fields [] A = A
in_fields (i ∷ is) A = types.field i (in_fields is A)

-- what stands behind the domains
abbrev pub in_arrows : List PlainType → PlainType → PlainType
in_arrows [] A = A
in_arrows (D ∷ Ds) A = types.arrow D (in_arrows Ds A)

-- the meet of the types, and of one that type
abbrev pub meet_all : List PlainType → PlainType
meet_all [] = types.meet types.no_types
meet_all (A ∷ As) = meet_of A (types_from As)

-- the whole, if it ends here
abbrev pub whole_type : PlainLevel → PlainType
whole_type L = in_arrows L.domains (meet_all L.members)

-- with a field, a part, and `->`
abbrev pub with_field : PlainLevel → ℕ → PlainLevel
with_field L i = record { domains = L.domains; members = L.members; fields = L.fields ++ i ∷ [] }

abbrev pub with_part : PlainLevel → PlainType → PlainLevel
with_part L A = record { domains = L.domains; members = L.members ++ in_fields L.fields A ∷ []; fields = [] }

abbrev pub with_domain : PlainLevel → PlainLevel
with_domain L = record { domains = L.domains ++ meet_all L.members ∷ []; members = []; fields = [] }

-- the levels that are open: the innermost, and those around it from within
pub record PlainLevels : Type 0 where
  pub outer : List PlainLevel
  pub inner : PlainLevel

abbrev pub no_levels : PlainLevels
no_levels = record { outer = []; inner = no_level }

-- with another innermost level, a parenthesis that opens, and one that closes
abbrev pub with_inner : PlainLevels → PlainLevel → PlainLevels
with_inner Ls L = record { outer = Ls.outer; inner = L }

abbrev pub with_open : PlainLevels → PlainLevels
with_open Ls = record { outer = Ls.inner ∷ Ls.outer; inner = no_level }

abbrev pub closed_by : List PlainLevel → PlainLevel → PlainLevels
closed_by [] M = record { outer = []; inner = M }
closed_by (L ∷ Ls) M = record { outer = Ls; inner = with_part L (whole_type M) }

abbrev pub with_closed : PlainLevels → PlainLevels
with_closed Ls = closed_by Ls.outer Ls.inner

-- a node for the meet where there are members
abbrev pub one_if_any : List PlainType → ℕ
one_if_any [] = 0
one_if_any (A ∷ As) = 1

-- the nodes around the part that comes next: of the level, and of levels
abbrev pub inside : PlainLevel → ℕ
inside L = length L.domains + one_if_any L.members + length L.fields

abbrev pub around : List PlainLevel → ℕ
around [] = 0
around (L ∷ Ls) = inside L + around Ls

-- the nesting of types beside each other, and of their meet
abbrev pub greatest_nesting : List PlainType → ℕ
greatest_nesting [] = 0
greatest_nesting (A ∷ As) = max (type_nesting A) (greatest_nesting As)

abbrev pub meet_nesting : List PlainType → ℕ
meet_nesting [] = 0
meet_nesting (A ∷ []) = type_nesting A
meet_nesting (A ∷ B ∷ As) = greatest_nesting (A ∷ B ∷ As) + 1

-- the nesting that domains make below so many arrows
abbrev pub arrows_nesting : ℕ → List PlainType → ℕ
arrows_nesting n [] = 0
arrows_nesting n (D ∷ Ds) = max (n + 1 + type_nesting D) (arrows_nesting (n + 1) Ds)

-- the nesting of the whole, if it ends here
abbrev pub level_nesting : PlainLevel → ℕ
level_nesting L = max (arrows_nesting 0 L.domains) (length L.domains + meet_nesting L.members)

-- below so many nodes the level is within the limit where a part comes next, whatever word it is
pub record HasRoom (n : ℕ) (L : PlainLevel) : Type 0 where
  pub part : n + inside L + 1 ≤ most_type_nesting
  pub arrows : n + arrows_nesting 0 L.domains ≤ most_type_nesting
  pub members : n + length L.domains + (one_if_any L.members + greatest_nesting L.members) ≤ most_type_nesting

-- and where a part has come
pub record HasMember (n : ℕ) (L : PlainLevel) : Type 0 where
  pub some : 0 < length L.members
  pub no_fields : L.fields ≡ []
  pub arrows : n + arrows_nesting 0 L.domains ≤ most_type_nesting
  pub members : n + length L.domains + meet_nesting L.members ≤ most_type_nesting

abbrev pub AllHaveRoom : List PlainLevel → Type 0
AllHaveRoom [] = Unit {0}
AllHaveRoom (L ∷ Ls) = HasRoom (around Ls) L × AllHaveRoom Ls

pub record TakesPart (Ls : PlainLevels) : Type 0 where
  pub inner : HasRoom (around Ls.outer) Ls.inner
  pub outer : AllHaveRoom Ls.outer

pub record TakesJoint (Ls : PlainLevels) : Type 0 where
  pub inner : HasMember (around Ls.outer) Ls.inner
  pub outer : AllHaveRoom Ls.outer

-- with a field, a member more, or an arrow, the level is too deep
abbrev pub IsFieldDeep : PlainLevels → Type 0
IsFieldDeep Ls = most_type_nesting < around Ls.outer + inside Ls.inner + 2

abbrev pub IsMeetDeep : PlainLevels → Type 0
IsMeetDeep Ls = most_type_nesting < around Ls.outer + length Ls.inner.domains + 1 + greatest_nesting Ls.inner.members

abbrev pub IsArrowDeep : PlainLevels → Type 0
IsArrowDeep Ls = most_type_nesting < around Ls.outer + length Ls.inner.domains + 1 + meet_nesting Ls.inner.members
