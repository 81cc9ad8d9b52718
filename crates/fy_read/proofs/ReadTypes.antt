-- The pieces of a type in brackets, as far as they are read, spell what its levels become.
use Rattle.std.proofs.Common.{◌≡◌, ℕ, ◌<◌, IsTrue, List, [], ◌∷◌, ◌++◌, length, refl, ap, sym, ◌∙◌, subst, append_assoc, Some, slice_get, arith}
use Rattle.std.proofs.lemmas.List.{append-nil}
use Rattle.fy_base.specs.Outside.{Bytes}
use Rattle.fy_lexer.specs.Tokens.{HasAdded}
use Rattle.fy_lexer.proofs.NamesLemmas.{HasAdded-then}
use Rattle.fy_types.specs.Types.{PlainType}
use Rattle.fy_types.specs.Words.{is_identifier}
use Rattle.fy_read.specs.Halfway.{Awaits, Has, Around, no_level_around, a_level, PartNext, PartLast, NameLast}
use Rattle.fy_read.specs.OpenTypes.{PlainLevel, whole_type, with_field, with_part, with_domain, PlainLevels, no_levels, with_inner, with_open, closed_by, with_closed}
use Rattle.fy_read.specs.Spelling.{Piece, word, sign, Sign, TypeLevel, SpellsType}
use Rattle.fy_read.proofs.TypeLemmas.{before_first, before_field, behind_part, before_ampersand, before_arrow, whole_spelled, behind_group}

-- more pieces at the innermost level
longer : {ps : List Piece} (around inside qs : List Piece) → ps ≡ around ++ inside → ps ++ qs ≡ around ++ (inside ++ qs)
longer around inside qs e = ap (λ us. us ++ qs) e ∙ append_assoc around inside qs

-- under more names
later_awaits : {names later : List Bytes} {L : PlainLevel} {us : List Piece} → HasAdded names later → Awaits names L us → Awaits later L us
later_awaits {names = names} {later = later} added h = record { before = λ last more. h.before last (HasAdded-then names later last added more) }

later_around : {names later : List Bytes} {Ls : List PlainLevel} {us : List Piece} → HasAdded names later → Around names Ls us → Around later Ls us
later_around added no_level_around = no_level_around
later_around added (a_level rest one) = a_level (later_around added rest) (later_awaits added one)

pub later_next : {names later : List Bytes} {Ls : PlainLevels} {ps : List Piece} → HasAdded names later → PartNext names Ls ps → PartNext later Ls ps
later_next added h =
    record { around = h.around; inside = h.inside; is = h.is; levels = later_around added h.levels; awaits = later_awaits added h.awaits }

-- the beginning
pub next_first : (names : List Bytes) → PartNext names no_levels []
next_first names =
    record { around = []; inside = []; is = refl; levels = no_level_around; awaits = record { before = λ later more. before_first later } }

-- a field's name, and its colon
pub name_last : {names : List Bytes} {ps : List Piece} (Ls : PlainLevels) (i : ℕ) (w : Bytes) →
    ((later : List Bytes) → HasAdded names later → slice_get later i ≡ Some w) → IsTrue (is_identifier w) →
    PartNext names Ls ps → NameLast names (with_inner Ls (with_field Ls.inner i)) (ps ++ word w ∷ [])
name_last {ps = ps} Ls i w numbered identifier h =
    record { before = ps; name = w; i = i; L = Ls.inner; is = refl; awaits = h; field = refl; numbered = numbered; identifier = identifier }

field_next : {names : List Bytes} {ps : List Piece} (Ls : PlainLevels) (L : PlainLevel) (i : ℕ) (w : Bytes) →
    ((later : List Bytes) → HasAdded names later → slice_get later i ≡ Some w) → IsTrue (is_identifier w) →
    PartNext names (with_inner Ls L) ps → PartNext names (with_inner Ls (with_field L i)) (ps ++ word w ∷ sign Sign.colon ∷ [])
field_next Ls L i w numbered identifier h = record {
  around = h.around;
  inside = h.inside ++ word w ∷ sign Sign.colon ∷ [];
  is = longer h.around h.inside (word w ∷ sign Sign.colon ∷ []) h.is;
  levels = h.levels;
  awaits = record { before = λ later more. before_field i w (numbered later more) identifier (h.awaits.before later more) };
}

pub next_behind_name : {names : List Bytes} {ps : List Piece} (Ls : PlainLevels) → NameLast names Ls ps →
    PartNext names Ls (ps ++ sign Sign.colon ∷ [])
next_behind_name {names = names} {ps = ps} Ls h =
    subst (λ L. PartNext names (with_inner Ls L) (ps ++ sign Sign.colon ∷ [])) (sym h.field)
    (subst (PartNext names (with_inner Ls (with_field h.L h.i)))
    (sym (ap (λ qs. qs ++ sign Sign.colon ∷ []) h.is ∙ append_assoc h.before (word h.name ∷ []) (sign Sign.colon ∷ [])))
    (field_next Ls h.L h.i h.name h.numbered h.identifier h.awaits))

-- a word that is a type
pub word_last : {names : List Bytes} {ps : List Piece} (Ls : PlainLevels) (A : PlainType) (w : Bytes) →
    ((later : List Bytes) (r : List Piece) → SpellsType later TypeLevel.field A (word w ∷ r) r) →
    PartNext names Ls ps → PartLast names (with_inner Ls (with_part Ls.inner A)) (ps ++ word w ∷ [])
word_last Ls A w part h = record {
  around = h.around;
  inside = h.inside ++ word w ∷ [];
  is = longer h.around h.inside (word w ∷ []) h.is;
  levels = h.levels;
  has = record { behind = λ later more. behind_part A (word w ∷ []) (part later) (h.awaits.before later more) };
}

-- `&` and `->`, behind a part
pub next_member : {names : List Bytes} {ps : List Piece} (Ls : PlainLevels) → Ls.inner.fields ≡ [] → PartLast names Ls ps →
    PartNext names Ls (ps ++ sign Sign.ampersand ∷ [])
next_member Ls none h = record {
  around = h.around;
  inside = h.inside ++ sign Sign.ampersand ∷ [];
  is = longer h.around h.inside (sign Sign.ampersand ∷ []) h.is;
  levels = h.levels;
  awaits = record { before = λ later more. before_ampersand none (h.has.behind later more) };
}

pub next_codomain : {names : List Bytes} {ps : List Piece} (Ls : PlainLevels) → PartLast names Ls ps →
    PartNext names (with_inner Ls (with_domain Ls.inner)) (ps ++ sign Sign.arrow ∷ [])
next_codomain Ls h = record {
  around = h.around;
  inside = h.inside ++ sign Sign.arrow ∷ [];
  is = longer h.around h.inside (sign Sign.arrow ∷ []) h.is;
  levels = h.levels;
  awaits = record { before = λ later more. before_arrow (h.has.behind later more) };
}

-- a parenthesis opens and closes
pub next_inside : {names : List Bytes} {ps : List Piece} (Ls : PlainLevels) → PartNext names Ls ps →
    PartNext names (with_open Ls) (ps ++ sign Sign.open_paren ∷ [])
next_inside Ls h = record {
  around = h.around ++ (h.inside ++ sign Sign.open_paren ∷ []);
  inside = [];
  is = longer h.around h.inside (sign Sign.open_paren ∷ []) h.is ∙ sym (append-nil (h.around ++ (h.inside ++ sign Sign.open_paren ∷ [])));
  levels = a_level h.levels h.awaits;
  awaits = record { before = λ later more. before_first later };
}

closed : {names : List Bytes} {L M : PlainLevel} {Ls : List PlainLevel} {ps vs us : List Piece} (ws : List Piece) → Around names Ls vs →
    Awaits names L us → Has names M ws →
    ps ≡ (vs ++ (us ++ sign Sign.open_paren ∷ [])) ++ ws →
    PartLast names (record { outer = Ls; inner = with_part L (whole_type M) }) (ps ++ sign Sign.close_paren ∷ [])
closed {ps = ps} {vs = vs} {us = us} ws levels awaits has e = record {
  around = vs;
  inside = us ++ (sign Sign.open_paren ∷ (ws ++ sign Sign.close_paren ∷ []));
  is = ap (λ x. x ++ sign Sign.close_paren ∷ []) e
      ∙ (append_assoc (vs ++ (us ++ sign Sign.open_paren ∷ [])) ws (sign Sign.close_paren ∷ [])
      ∙ (append_assoc vs (us ++ sign Sign.open_paren ∷ []) (ws ++ sign Sign.close_paren ∷ [])
      ∙ ap (λ x. vs ++ x) (append_assoc us (sign Sign.open_paren ∷ []) (ws ++ sign Sign.close_paren ∷ []))));
  levels = levels;
  has = record { behind = λ later more. behind_group (awaits.before later more) (has.behind later more) };
}

closing : {names : List Bytes} {L M : PlainLevel} {Ls : List PlainLevel} {ps : List Piece} (around ws : List Piece) → Around names (L ∷ Ls) around →
    Has names M ws → ps ≡ around ++ ws →
    PartLast names (record { outer = Ls; inner = with_part L (whole_type M) }) (ps ++ sign Sign.close_paren ∷ [])
closing around ws (a_level levels awaits) has e = closed ws levels awaits has e

pub last_group : {names : List Bytes} {ps : List Piece} (Ls : PlainLevels) → 0 < length Ls.outer → PartLast names Ls ps →
    PartLast names (with_closed Ls) (ps ++ sign Sign.close_paren ∷ [])
last_group {names = names} {ps = ps} Ls opens h = by Ls.outer opens h.levels where
  by : (outer : List PlainLevel) → 0 < length outer → Around names outer h.around →
      PartLast names (closed_by outer Ls.inner) (ps ++ sign Sign.close_paren ∷ [])
  by [] opens levels = absurd (omega (arith, opens))
  by (L ∷ outer) opens levels = closing h.around h.inside levels h.has h.is

-- the whole, where no parenthesis is open
whole_of : {names : List Bytes} {L : PlainLevel} {ps : List Piece} (around inside : List Piece) → Around names [] around → Has names L inside →
    ps ≡ around ++ inside →
    (later : List Bytes) → HasAdded names later → (ts : List Piece) → SpellsType later TypeLevel.type (whole_type L) (ps ++ ts) ts
whole_of {L = L} around inside no_level_around has e later more ts =
    subst (λ us. SpellsType later TypeLevel.type (whole_type L) (us ++ ts) ts) (sym e) (whole_spelled (has.behind later more) ts)

pub whole_last : {names : List Bytes} {ps : List Piece} (Ls : PlainLevels) → Ls.outer ≡ [] → PartLast names Ls ps →
    (later : List Bytes) → HasAdded names later → (ts : List Piece) → SpellsType later TypeLevel.type (whole_type Ls.inner) (ps ++ ts) ts
whole_last {names = names} Ls none h later more ts =
    whole_of h.around h.inside (subst (λ outer. Around names outer h.around) none h.levels) h.has h.is later more ts
