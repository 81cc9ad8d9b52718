-- The pieces of a type, as far as they are read, spell what they are read as.
use Rattle.std.proofs.Common.{◌≡◌, ℕ, IsTrue, List, [], ◌∷◌, ◌++◌, refl, ap, sym, subst, append_assoc, Some, slice_get}
use Rattle.fy_base.specs.Outside.{Bytes}
use Rattle.fy_types.specs.Reading.{types_from}
use Rattle.fy_types.specs.Types.{PlainType, PlainTypes}
use Rattle.fy_types.specs.Types as types
use Rattle.fy_types.specs.Words.{is_identifier}
use Rattle.fy_read.specs.Halfway.{InType, in_meet, in_arrow, BeforePart, BehindPart}
use Rattle.fy_read.specs.OpenTypes.{PlainLevel, no_level, in_fields, in_arrows, meet_all, whole_type, with_field, with_part, with_domain}
use Rattle.fy_read.specs.Spelling.{Piece, word, sign, Sign, TypeLevel, meet_of, SpellsType, an_arrow, no_arrow, members, a_field, no_field, group, MoreTypes, no_more, one_more}

-- the beginning of a type
pub before_first : (names : List Bytes) → BeforePart names no_level []
before_first names = record { goes_on = λ A ts m s. in_meet s no_more }

in_fields-more : (is : List ℕ) (i : ℕ) (A : PlainType) → in_fields (is ++ i ∷ []) A ≡ in_fields is (types.field i A)
in_fields-more [] i A = refl
in_fields-more (j ∷ is) i A = ap (types.field j) (in_fields-more is i A)

pub before_field : {names : List Bytes} {L : PlainLevel} {us : List Piece} (i : ℕ) (w : Bytes) → slice_get names i ≡ Some w →
    IsTrue (is_identifier w) →
    BeforePart names L us → BeforePart names (with_field L i) (us ++ word w ∷ sign Sign.colon ∷ [])
before_field {names = names} {L = L} {us = us} i w numbered identifier before = record {
  goes_on = λ A ts m s.
      subst (λ vs. InType names L.domains (L.members ++ in_fields (L.fields ++ i ∷ []) A ∷ []) vs m)
      (sym (append_assoc us (word w ∷ sign Sign.colon ∷ []) ts))
      (subst (λ B. InType names L.domains (L.members ++ B ∷ []) (us ++ word w ∷ sign Sign.colon ∷ ts) m) (sym (in_fields-more L.fields i A))
      (before.goes_on (types.field i A) (word w ∷ sign Sign.colon ∷ ts) m (a_field numbered identifier s)));
}

-- a part of some pieces
pub behind_part : {names : List Bytes} {L : PlainLevel} {us : List Piece} (A : PlainType) (vs : List Piece) →
    ((ts : List Piece) → SpellsType names TypeLevel.field A (vs ++ ts) ts) →
    BeforePart names L us → BehindPart names (with_part L A) (us ++ vs)
behind_part {names = names} {L = L} {us = us} A vs part before = record {
  goes_on = λ ts.
      subst (λ ws. InType names L.domains (L.members ++ in_fields L.fields A ∷ []) ws ts) (sym (append_assoc us vs ts))
      (before.goes_on A (vs ++ ts) ts (part ts));
}

-- one more member, and one more domain
more-push : {names : List Bytes} (As : List PlainType) {B : PlainType} {m q ts r : List Piece} → MoreTypes names (types_from As) m q →
    q ≡ sign Sign.ampersand ∷ ts →
    SpellsType names TypeLevel.field B ts r → MoreTypes names (types_from (As ++ B ∷ [])) m r
more-push {names = names} [] {B = B} {r = r} no_more e b =
    subst (λ q. MoreTypes names (types.and_type B types.no_types) q r) (sym e) (one_more b no_more)
more-push (A ∷ As) (one_more a as') e b = one_more a (more-push As as' e b)

InType-and : {names : List Bytes} {Ds As : List PlainType} {B : PlainType} {us q ts m : List Piece} → InType names Ds As us q →
    q ≡ sign Sign.ampersand ∷ ts →
    SpellsType names TypeLevel.field B ts m → InType names Ds (As ++ B ∷ []) us m
InType-and (in_meet {As = As} a as') e b = in_meet a (more-push As as' e b)
InType-and (in_arrow d rest) e b = in_arrow d (InType-and rest e b)

InType-arrow : {names : List Bytes} {Ds As : List PlainType} {B : PlainType} {us q ts m : List Piece} → InType names Ds As us q →
    q ≡ sign Sign.arrow ∷ ts →
    SpellsType names TypeLevel.field B ts m → InType names (Ds ++ meet_all As ∷ []) (B ∷ []) us m
InType-arrow {names = names} {us = us} (in_meet {A = A} {As = As} a as') e b =
    in_arrow (subst (λ q. SpellsType names TypeLevel.inter (meet_of A (types_from As)) us q) e (members a as')) (in_meet b no_more)
InType-arrow (in_arrow d rest) e b = in_arrow d (InType-arrow rest e b)

pub before_ampersand : {names : List Bytes} {L : PlainLevel} {us : List Piece} → L.fields ≡ [] → BehindPart names L us →
    BeforePart names L (us ++ sign Sign.ampersand ∷ [])
before_ampersand {names = names} {L = L} {us = us} none behind = record {
  goes_on = λ A ts m s.
      subst (λ fs. InType names L.domains (L.members ++ in_fields fs A ∷ []) ((us ++ sign Sign.ampersand ∷ []) ++ ts) m) (sym none)
      (subst (λ vs. InType names L.domains (L.members ++ A ∷ []) vs m) (sym (append_assoc us (sign Sign.ampersand ∷ []) ts))
      (InType-and (behind.goes_on (sign Sign.ampersand ∷ ts)) refl s));
}

pub before_arrow : {names : List Bytes} {L : PlainLevel} {us : List Piece} → BehindPart names L us →
    BeforePart names (with_domain L) (us ++ sign Sign.arrow ∷ [])
before_arrow {names = names} {L = L} {us = us} behind = record {
  goes_on = λ A ts m s.
      subst (λ vs. InType names (L.domains ++ meet_all L.members ∷ []) (A ∷ []) vs m) (sym (append_assoc us (sign Sign.arrow ∷ []) ts))
      (InType-arrow (behind.goes_on (sign Sign.arrow ∷ ts)) refl s);
}

-- the whole
InType-type : {names : List Bytes} {Ds As : List PlainType} {us ts : List Piece} → InType names Ds As us ts →
    SpellsType names TypeLevel.type (in_arrows Ds (meet_all As)) us ts
InType-type (in_meet a as') = no_arrow (members a as')
InType-type (in_arrow d rest) = an_arrow d (InType-type rest)

pub whole_spelled : {names : List Bytes} {L : PlainLevel} {us : List Piece} → BehindPart names L us → (ts : List Piece) →
    SpellsType names TypeLevel.type (whole_type L) (us ++ ts) ts
whole_spelled behind ts = InType-type (behind.goes_on ts)

-- a type in parentheses is a part of the level around it
pub behind_group : {names : List Bytes} {L M : PlainLevel} {us vs : List Piece} → BeforePart names L us → BehindPart names M vs →
    BehindPart names (with_part L (whole_type M)) (us ++ (sign Sign.open_paren ∷ (vs ++ sign Sign.close_paren ∷ [])))
behind_group {names = names} {M = M} {vs = vs} before behind =
    behind_part (whole_type M) (sign Sign.open_paren ∷ (vs ++ sign Sign.close_paren ∷ []))
    (λ ts. no_field (group (subst (λ ws. SpellsType names TypeLevel.type (whole_type M) ws (sign Sign.close_paren ∷ ts))
    (sym (append_assoc vs (sign Sign.close_paren ∷ []) ts))
    (whole_spelled behind (sign Sign.close_paren ∷ ts)))))
    before
