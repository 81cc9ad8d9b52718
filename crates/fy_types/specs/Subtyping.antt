-- Subtyping: the least relation with seven laws. The laws on arrows, meets and the greatest type are those of Coppo, Dezani and
-- Venneri, and of Barendregt, Coppo and Dezani (1983); those on fields and on `compl` are Reynolds's (1988, 1996).
use Rattle.std.specs.Prelude.{ℕ}
use Rattle.fy_types.specs.declared.types.Atom.TheVariants.{Comm, Compl}
use Rattle.fy_types.specs.Types.{PlainType, PlainTypes, ns, atom, arrow, field, meet, no_types, and_type}

-- the type is a member of the list
pub data IsMember : PlainTypes → PlainType → Type 0 where
  first : {A : PlainType} {As : PlainTypes} → IsMember (and_type A As) A
  later : {A B : PlainType} {As : PlainTypes} → IsMember As A → IsMember (and_type B As) A

-- `A & B`
abbrev pub both_of : PlainType → PlainType → PlainType
both_of A B = meet (and_type A (and_type B no_types))

mutual
  -- `A <= B`
  pub data IsSubtype : PlainType → PlainType → Type 0 where
    -- 1. A <= A; if A <= B and B <= C then A <= C
    same : {A : PlainType} → IsSubtype A A
    chain : {A B C : PlainType} → IsSubtype A B → IsSubtype B C → IsSubtype A C
    -- 2. A1 & .. & An <= Ai; if C <= Ai for each i then C <= A1 & .. & An
    below_member : {As : PlainTypes} {A : PlainType} → IsMember As A → IsSubtype (meet As) A
    below_meet : {C : PlainType} {As : PlainTypes} → IsBelowEach C As → IsSubtype C (meet As)
    -- 3. A <= ns, ns <= A -> ns, ns <= i : ns
    below_ns : {A : PlainType} → IsSubtype A ns
    ns_below_arrow : {A : PlainType} → IsSubtype ns (arrow A ns)
    ns_below_field : {i : ℕ} → IsSubtype ns (field i ns)
    -- 4. if A2 <= A1 and B1 <= B2 then A1 -> B1 <= A2 -> B2
    arrows : {A1 A2 B1 B2 : PlainType} → IsSubtype A2 A1 → IsSubtype B1 B2 → IsSubtype (arrow A1 B1) (arrow A2 B2)
    -- 5. if A <= B then i : A <= i : B
    fields : {i : ℕ} {A B : PlainType} → IsSubtype A B → IsSubtype (field i A) (field i B)
    -- 6. (A -> B) & (A -> C) <= A -> (B & C), (i : A) & (i : B) <= i : (A & B)
    arrow_of_meet : {A B C : PlainType} → IsSubtype (both_of (arrow A B) (arrow A C)) (arrow A (both_of B C))
    field_of_meet : {i : ℕ} {A B : PlainType} → IsSubtype (both_of (field i A) (field i B)) (field i (both_of A B))
    -- 7. compl <= comm
    compl_below_comm : IsSubtype (atom Compl) (atom Comm)

  -- `C <= A` for each member A of the list
  pub data IsBelowEach : PlainType → PlainTypes → Type 0 where
    none : {C : PlainType} → IsBelowEach C no_types
    also : {C A : PlainType} {As : PlainTypes} → IsSubtype C A → IsBelowEach C As → IsBelowEach C (and_type A As)
