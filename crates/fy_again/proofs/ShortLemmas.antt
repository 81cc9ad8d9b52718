-- Short texts of types are read again.
use Rattle.std.proofs.Common.{◌≡◌, Bool, true, false, ◌||◌, List, [], ◌∷◌, ◌++◌, codes, refl, sym, ap, subst, ◌∙◌, append-nil, Option, Some, None, is_some, unwrap_or}
use Rattle.std.proofs.lemmas.Bool.{false≢true}
use Rattle.fy_base.specs.Outside.{Bytes}
use Rattle.fy_base.specs.Places.{first_place}
use Rattle.fy_types.specs.Fields.{AllFields, AllFieldsOf, AreSome, HasFullMeets, HaveFullMeets}
use Rattle.fy_types.specs.Names.{AreNames}
use Rattle.fy_types.specs.Types.{PlainType, PlainTypes}
use Rattle.fy_lexer.specs.declared.token.Token.{Token}
use Rattle.fy_lexer.specs.declared.token.TokenKind.TheVariants as kind
use Rattle.fy_lexer.specs.Reading.{reading_of}
use Rattle.fy_lexer.specs.Again.{kinds}
use Rattle.fy_syntax.specs.Signs.{TypeLevel, token}
use Rattle.fy_syntax.specs.Spells.{SpellsType}
use Rattle.fy_syntax.specs.Printing.{IsIdentifierNumber}
use Rattle.fy_short.specs.ShortTypes.{short_type, short_members, is_short, is_arrow, in_parentheses_unless, predefined_name}
use Rattle.fy_again.specs.Again.{ShortTypesAreReadAgain}
use Rattle.fy_again.proofs.EndLemmas.{Follows}
use Rattle.fy_again.proofs.ReadLemmas.{Reads, reads_end, reads_same, peel, none_left}
use Rattle.fy_again.proofs.TypeLemmas.{Shows, at_field, at_inter, at_type, shows_ns, shows_atom, shows_named, shows_group, shows_arrow, shows_field, ShowsMore, shows_none, shows_more, shows_meet}
use Rattle.fy_again.proofs.NamedLemmas.{predefined_named}

-- the text shows the type, and where it is short as a part too
record ShowsType (names : List Bytes) (A : PlainType) (text : Bytes) : Type 0 where
  whole : Shows names TypeLevel.type A text
  alone : is_short A ≡ true → Shows names TypeLevel.primary A text

bare : {names : List Bytes} {A : PlainType} {text : Bytes} → Shows names TypeLevel.primary A text → ShowsType names A text
bare s = record { whole = at_type (at_inter (at_field s)); alone = λ e. s }

part : (names : List Bytes) (A : PlainType) (text : Bytes) → ShowsType names A text → Shows names TypeLevel.primary A (in_parentheses_unless (is_short A) text)
part names A text s = by (is_short A) refl
  where
    by : (b : Bool) → is_short A ≡ b → Shows names TypeLevel.primary A (in_parentheses_unless b text)
    by true e = s.alone e
    by false e = shows_group names A text s.whole

-- behind an arrow
behind : (names : List Bytes) (B : PlainType) (text : Bytes) (b : Bool) → ShowsType names B text → Shows names TypeLevel.type B (in_parentheses_unless b text)
behind names B text true s = s.whole
behind names B text false s = at_type (at_inter (at_field (shows_group names B text s.whole)))

-- a meet, by its name or by its members
meet_shown : (names : List Bytes) → AreNames names → (As : PlainTypes) → Shows names TypeLevel.inter (PlainType.meet As) (short_members names [] As) → (o : Option Bytes) → predefined_name As ≡ o →
    ShowsType names (PlainType.meet As) (unwrap_or o (short_members names [] As))
meet_shown names are As s None e = record { whole = at_type s; alone = λ h. absurd (false≢true (sym (ap (λ (o : Option Bytes). is_some o) e) ∙ h)) }
meet_shown names are As s (Some x) e =
    let w = predefined_named names are As x e in bare (shows_named names (PlainType.meet As) x w.number w.spelled w.stays w.means)

mutual
  shows : (names : List Bytes) → AreNames names → (A : PlainType) → HasFullMeets A → AllFields (IsIdentifierNumber names) A → ShowsType names A (short_type names A)
  shows names are PlainType.ns f k = bare (shows_ns names)
  shows names are (PlainType.atom a) f k = bare (shows_atom names a)
  shows names are (PlainType.arrow A B) f k = record {
    whole =
        shows_arrow names A B (in_parentheses_unless (is_short A) (short_type names A)) (in_parentheses_unless (is_arrow B || is_short B) (short_type names B))
        (part names A (short_type names A) (shows names are A f.0 k.0)) (behind names B (short_type names B) (is_arrow B || is_short B) (shows names are B f.1 k.1));
    alone = λ e. absurd (false≢true e);
  }
  shows names are (PlainType.field i A) f k = record {
    whole = at_type (at_inter (shows_field names i A (in_parentheses_unless (is_short A) (short_type names A)) k.0 (part names A (short_type names A) (shows names are A f k.1))));
    alone = λ e. absurd (false≢true e);
  }
  shows names are (PlainType.meet As) f k = meet_shown names are As (shows_members names are As f.0 f.1 k) (predefined_name As) refl

  shows_members : (names : List Bytes) → AreNames names → (As : PlainTypes) → AreSome As → HaveFullMeets As → AllFieldsOf (IsIdentifierNumber names) As →
      Shows names TypeLevel.inter (PlainType.meet As) (short_members names [] As)
  shows_members names are PlainTypes.no_types some f k = absurd some
  shows_members names are (PlainTypes.and_type A PlainTypes.no_types) some f k = absurd some
  shows_members names are (PlainTypes.and_type A (PlainTypes.and_type B As)) some f k =
      shows_meet names A B As (in_parentheses_unless (is_short A) (short_type names A)) (short_members names (codes " & ") (PlainTypes.and_type B As))
      (part names A (short_type names A) (shows names are A f.0 k.0)) (shows_further names are (PlainTypes.and_type B As) f.1 k.1)

  shows_further : (names : List Bytes) → AreNames names → (As : PlainTypes) → HaveFullMeets As → AllFieldsOf (IsIdentifierNumber names) As →
      ShowsMore names As (short_members names (codes " & ") As)
  shows_further names are PlainTypes.no_types f k = shows_none names
  shows_further names are (PlainTypes.and_type A As) f k =
      shows_more names A As (in_parentheses_unless (is_short A) (short_type names A)) (short_members names (codes " & ") As)
      (part names A (short_type names A) (shows names are A f.0 k.0)) (shows_further names are As f.1 k.1)

-- the short text of a type shows it
pub shows_short : (names : List Bytes) → AreNames names → (A : PlainType) → HasFullMeets A → AllFields (IsIdentifierNumber names) A → Shows names TypeLevel.type A (short_type names A)
shows_short names are A f k = (shows names are A f k).whole

pub kinds-append : (us vs : List Token) → kinds (us ++ vs) ≡ kinds us ++ kinds vs
kinds-append [] vs = refl
kinds-append (u ∷ us) vs = ap (λ l. u.kind ∷ l) (kinds-append us vs)

pub short_types_read : ShortTypesAreReadAgain
short_types_read names A are f k =
    let text = short_type names A in
    let s = (shows names are A f k).whole in
    let whole : Reads names text s.own = reads_same names (text ++ []) text _ _ (append-nil text) (append-nil s.own) (s.reads [] [] Follows.the_end (reads_end names)) in
    let r = whole first_place [] in
    let end : Token = record { kind = kind.End; place = r.end } in
    let all_kinds : kinds (r.us ++ end ∷ []) ≡ s.own ++ kind.End ∷ [] = kinds-append r.us (end ∷ []) ∙ ap (λ l. l ++ kind.End ∷ []) r.same in
    let x = s.taken (r.us ++ end ∷ []) (kind.End ∷ []) all_kinds in
    let p = peel x.rest kind.End [] x.left in
    record {
      tokens = r.us ++ end ∷ [];
      read = record { last = reading_of (record { rest = []; place = r.end }) names r.us; steps = r.steps; ended = refl; named = refl; read = refl };
      tree = x.tree;
      at = p.place;
      spelled =
          subst (λ l. SpellsType TypeLevel.type x.tree (r.us ++ end ∷ []) l)
          (p.is ∙ ap (λ l. token kind.End p.place ∷ l) (none_left p.rest p.left)) x.spells;
      means = x.means;
    }
