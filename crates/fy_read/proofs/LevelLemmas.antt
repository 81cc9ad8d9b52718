-- How deep the levels of a type are that is read.
use Rattle.std.proofs.Common.{◌≡◌, ℕ, ◌+◌, ◌<◌, ◌≤◌, max, List, [], ◌∷◌, ◌++◌, length, map, reverse, refl, ap, ◌∙◌, arith}
use Rattle.std.proofs.lemmas.List.{map_push, reverse-append}
use Rattle.fy_types.specs.Types.{PlainType, PlainTypes}
use Rattle.fy_types.specs.Types as types
use Rattle.fy_types.specs.Reading.{types_from}
use Rattle.fy_types.specs.Nested.{type_nesting, types_nesting}
use Rattle.fy_derive.specs.Limits.{most_type_nesting}
use Rattle.fy_read.specs.declared.level.Level.{Level}
use Rattle.fy_read.specs.Levels.{plain_level, outer_levels}
use Rattle.fy_read.specs.OpenTypes.{PlainLevel, in_fields, in_arrows, meet_all, whole_type, with_field, with_part, with_domain, PlainLevels, no_levels, with_inner, with_open, closed_by, with_closed, one_if_any, inside, around, greatest_nesting, meet_nesting, arrows_nesting, level_nesting, HasRoom, HasMember, AllHaveRoom, TakesPart, TakesJoint, IsFieldDeep, IsMeetDeep, IsArrowDeep}

pub greatest_nesting-push : (As : List PlainType) (A : PlainType) → greatest_nesting (As ++ A ∷ []) ≡ max (greatest_nesting As) (type_nesting A)
greatest_nesting-push [] A = omega arith
greatest_nesting-push (B ∷ As) A = omega (arith, greatest_nesting-push As A)

pub arrows_nesting-push : (n : ℕ) (Ds : List PlainType) (D : PlainType) →
    arrows_nesting n (Ds ++ D ∷ []) ≡ max (arrows_nesting n Ds) (n + length Ds + 1 + type_nesting D)
arrows_nesting-push n [] D = omega arith
arrows_nesting-push n (E ∷ Ds) D = omega (arith, arrows_nesting-push (n + 1) Ds D)

pub nesting-in_fields : (is : List ℕ) (A : PlainType) → type_nesting (in_fields is A) ≡ length is + type_nesting A
nesting-in_fields [] A = omega arith
nesting-in_fields (i ∷ is) A = omega (arith, nesting-in_fields is A)

-- every type has a node
pub nesting_some : (A : PlainType) → 1 ≤ type_nesting A
nesting_some types.ns = omega arith
nesting_some (types.atom a) = omega arith
nesting_some (types.arrow A B) = omega arith
nesting_some (types.field i A) = omega arith
nesting_some (types.meet As) = omega arith

pub meet_nesting-more : (As : List PlainType) → 1 < length As → meet_nesting As ≡ greatest_nesting As + 1
meet_nesting-more [] h = absurd (omega (arith, h))
meet_nesting-more (A ∷ []) h = absurd (omega (arith, h))
meet_nesting-more (A ∷ B ∷ As) h = refl

pub meet_nesting-one : (As : List PlainType) → length As ≤ 1 → meet_nesting As ≡ greatest_nesting As
meet_nesting-one [] h = refl
meet_nesting-one (A ∷ []) h = omega arith
meet_nesting-one (A ∷ B ∷ As) h = absurd (omega (arith, h))

pub one_if_any-none : {T : Type 0} (f : T → PlainType) (xs : List T) → length xs ≡ 0 → one_if_any (map f xs) ≡ 0
one_if_any-none f [] h = refl
one_if_any-none f (x ∷ xs) h = absurd (omega (arith, h))

pub one_if_any-some : {T : Type 0} (f : T → PlainType) (xs : List T) → 0 < length xs → one_if_any (map f xs) ≡ 1
one_if_any-some f [] h = absurd (omega (arith, h))
one_if_any-some f (x ∷ xs) h = refl

types_nesting-from : (As : List PlainType) → types_nesting (types_from As) ≡ greatest_nesting As
types_nesting-from [] = refl
types_nesting-from (A ∷ As) = ap (λ n. max (type_nesting A) n) (types_nesting-from As)

pub nesting-meet_all : (As : List PlainType) → 0 < length As → type_nesting (meet_all As) ≡ meet_nesting As
nesting-meet_all [] h = absurd (omega (arith, h))
nesting-meet_all (A ∷ []) h = refl
nesting-meet_all (A ∷ B ∷ As) h = omega (arith, types_nesting-from As)

nesting-in_arrows : (n : ℕ) (Ds : List PlainType) (A : PlainType) →
    n + type_nesting (in_arrows Ds A) ≡ max (arrows_nesting n Ds) (n + length Ds + type_nesting A)
nesting-in_arrows n [] A = omega arith
nesting-in_arrows n (D ∷ Ds) A = omega (arith, nesting-in_arrows (n + 1) Ds A)

-- the nesting of a whole level
pub nesting-whole : (L : PlainLevel) → 0 < length L.members → type_nesting (whole_type L) ≡ level_nesting L
nesting-whole L some = omega (arith, nesting-in_arrows 0 L.domains (meet_all L.members), nesting-meet_all L.members some)

-- what the levels are after each step
length-push : {T : Type 0} (xs : List T) (x : T) → length (xs ++ x ∷ []) ≡ length xs + 1
length-push [] x = refl
length-push (y ∷ xs) x = omega (arith, length-push xs x)

one_if_any-least : (As : List PlainType) → one_if_any As ≤ length As
one_if_any-least [] = omega arith
one_if_any-least (A ∷ As) = omega arith

one_if_any-most : (As : List PlainType) → 0 < length As → one_if_any As ≡ 1
one_if_any-most [] h = absurd (omega (arith, h))
one_if_any-most (A ∷ As) h = refl

greatest_some : (As : List PlainType) → 0 < length As → 1 ≤ greatest_nesting As
greatest_some [] h = absurd (omega (arith, h))
greatest_some (A ∷ As) h = omega (arith, nesting_some A)

meet_some : (As : List PlainType) → 0 < length As → 1 ≤ meet_nesting As
meet_some [] h = absurd (omega (arith, h))
meet_some (A ∷ []) h = nesting_some A
meet_some (A ∷ B ∷ As) h = omega arith

-- at the beginning, behind a field, and in a parenthesis
pub first_room : TakesPart no_levels
first_room = record { inner = record { part = omega arith; arrows = omega arith; members = omega arith }; outer = tt }

pub field_room : (Ls : PlainLevels) (i : ℕ) → TakesPart Ls → ¬ IsFieldDeep Ls → TakesPart (with_inner Ls (with_field Ls.inner i))
field_room Ls i h within = record {
  inner = record { part = omega (arith, length-push Ls.inner.fields i, within); arrows = h.inner.arrows; members = h.inner.members };
  outer = h.outer;
}

pub open_room : (Ls : PlainLevels) → TakesPart Ls → TakesPart (with_open Ls)
open_room Ls h = record {
  inner = record { part = omega (arith, h.inner.part); arrows = omega (arith, h.inner.part); members = omega (arith, h.inner.part) };
  outer = (h.inner, h.outer);
}

-- a part of that nesting
part_member : (n : ℕ) (L : PlainLevel) (A : PlainType) → HasRoom n L → n + inside L + type_nesting A ≤ most_type_nesting → HasMember n (with_part L A)
part_member n L A h deep = record {
  some = omega (arith, length-push L.members (in_fields L.fields A));
  no_fields = refl;
  arrows = h.arrows;
  members = by L.members h.members deep;
} where
  by : (As : List PlainType) → n + length L.domains + (one_if_any As + greatest_nesting As) ≤ most_type_nesting →
      n + (length L.domains + one_if_any As + length L.fields) + type_nesting A ≤ most_type_nesting →
      n + length L.domains + meet_nesting (As ++ in_fields L.fields A ∷ []) ≤ most_type_nesting
  by [] members deep = omega (arith, nesting-in_fields L.fields A, deep)
  by (B ∷ As) members deep =
      let X = in_fields L.fields A in
      let more : 1 < length ((B ∷ As) ++ X ∷ []) = omega (arith, length-push As X) in
      omega (arith, nesting-in_fields L.fields A, meet_nesting-more ((B ∷ As) ++ X ∷ []) more, greatest_nesting-push (B ∷ As) X, members, deep)

pub word_joint : (Ls : PlainLevels) (A : PlainType) → type_nesting A ≡ 1 → TakesPart Ls → TakesJoint (with_inner Ls (with_part Ls.inner A))
word_joint Ls A one h = record { inner = part_member (around Ls.outer) Ls.inner A h.inner (omega (arith, one, h.inner.part)); outer = h.outer }

pub close_joint : (Ls : PlainLevels) → 0 < length Ls.outer → TakesJoint Ls → TakesJoint (with_closed Ls)
close_joint Ls opens h = by Ls.outer opens h.inner h.outer where
  by : (outer : List PlainLevel) → 0 < length outer → HasMember (around outer) Ls.inner → AllHaveRoom outer → TakesJoint (closed_by outer Ls.inner)
  by [] opens inner rooms = absurd (omega (arith, opens))
  by (L ∷ outer) opens inner rooms = record {
    inner = part_member (around outer) L (whole_type Ls.inner) rooms.0
        (omega (arith, nesting-whole Ls.inner inner.some, inner.arrows, inner.members));
    outer = rooms.1;
  }

pub ampersand_room : (Ls : PlainLevels) → TakesJoint Ls → ¬ IsMeetDeep Ls → TakesPart Ls
ampersand_room Ls h within =
    let some = greatest_some Ls.inner.members h.inner.some in
    let one = one_if_any-most Ls.inner.members h.inner.some in
    let none : length Ls.inner.fields ≡ 0 = ap length h.inner.no_fields in
    record {
      inner = record { part = omega (arith, some, one, none, within); arrows = h.inner.arrows; members = omega (arith, one, within) };
      outer = h.outer;
    }

pub arrow_room : (Ls : PlainLevels) → TakesJoint Ls → ¬ IsArrowDeep Ls → TakesPart (with_inner Ls (with_domain Ls.inner))
arrow_room Ls h within =
    let D = meet_all Ls.inner.members in
    let some = meet_some Ls.inner.members h.inner.some in
    let longer = length-push Ls.inner.domains D in
    record {
      inner = record {
        part = omega (arith, some, longer, within);
        arrows = omega (arith, arrows_nesting-push 0 Ls.inner.domains D, nesting-meet_all Ls.inner.members h.inner.some, h.inner.arrows, within);
        members = omega (arith, some, longer, within);
      };
      outer = h.outer;
    }

-- the levels around, with one more
pub outer-push : (ls : List Level) (l : Level) → outer_levels (ls ++ l ∷ []) ≡ plain_level l ∷ outer_levels ls
outer-push ls l = ap reverse (map_push plain_level ls l) ∙ reverse-append (map plain_level ls) (plain_level l ∷ [])

pub around-push : (ls : List Level) (l : Level) → around (outer_levels (ls ++ l ∷ [])) ≡ inside (plain_level l) + around (outer_levels ls)
around-push ls l = ap around (outer-push ls l)

pub in_fields-push : (is : List ℕ) (i : ℕ) (A : PlainType) → in_fields (is ++ i ∷ []) A ≡ in_fields is (types.field i A)
in_fields-push [] i A = refl
in_fields-push (j ∷ is) i A = ap (types.field j) (in_fields-push is i A)

pub in_arrows-push : (Ds : List PlainType) (D A : PlainType) → in_arrows (Ds ++ D ∷ []) A ≡ in_arrows Ds (types.arrow D A)
in_arrows-push [] D A = refl
in_arrows-push (E ∷ Ds) D A = ap (types.arrow E) (in_arrows-push Ds D A)

-- the meet of other than one type
pub meet_all-many : (As : List PlainType) → (length As ≡ 1 → ⊥) → meet_all As ≡ types.meet (types_from As)
meet_all-many [] h = refl
meet_all-many (A ∷ []) h = absurd (h refl)
meet_all-many (A ∷ B ∷ As) h = refl

-- the numbers of a level with a domain, and with a member
pub closed_arrows : (Ds As : List PlainType) (D : PlainType) (arrows nesting result : ℕ) → 0 < length As → D ≡ meet_all As →
    arrows ≡ arrows_nesting 0 Ds →
    nesting ≡ length Ds + 1 + meet_nesting As → result ≡ max arrows nesting → result ≡ arrows_nesting 0 (Ds ++ D ∷ [])
closed_arrows Ds As D arrows nesting result some is before nests made =
    omega (arith, arrows_nesting-push 0 Ds D, ap type_nesting is ∙ nesting-meet_all As some, before, nests, made)

pub added_greatest : (As : List PlainType) (is : List ℕ) (A B : PlainType) (before nesting result : ℕ) → B ≡ in_fields is A →
    before ≡ greatest_nesting As →
    nesting ≡ type_nesting A + length is → result ≡ max before nesting → result ≡ greatest_nesting (As ++ B ∷ [])
added_greatest As is A B before nesting result made was nests is_max =
    omega (arith, greatest_nesting-push As B, ap type_nesting made ∙ nesting-in_fields is A, was, nests, is_max)
