-- The names in a header are identifiers that the list of names has.
use Rattle.std.proofs.Common.{◌≡◌, inl, inr, ℕ, zero, suc, IsTrue, List, [], ◌∷◌, ◌++◌, Bool, true, false, take, refl, sym, ap, ◌∙◌, subst}
use Rattle.std.specs.Prelude.{Option, Some, None, slice_get}
use Rattle.std.specs.List.{slice_split, onto_first}
use Rattle.std.proofs.lemmas.List.Splits.{slice_split-cons_yes, slice_split-cons_no}
use Rattle.fy_base.specs.Outside.{Bytes}
use Rattle.fy_base.specs.declared.data.Place.{Place}
use Rattle.fy_types.specs.Names.{number_of, with_name}
use Rattle.fy_types.specs.Words.{is_identifier}
use Rattle.fy_lexer.specs.declared.token.Token.{Token}
use Rattle.fy_lexer.specs.declared.token.TokenKind.{TokenKind}
use Rattle.fy_lexer.specs.declared.token.TokenKind.TheVariants as kind
use Rattle.fy_lexer.specs.declared.token.Symbol.TheVariants as symbol
use Rattle.fy_lexer.specs.Identifiers.{OfIdentifier, AllIdentifiers}
use Rattle.fy_lexer.specs.Spellings.{Spells}
use Rattle.fy_lexer.specs.Tokens.{Reading, names_past, Steps, start_of, IsTokensOf, HasAdded}
use Rattle.fy_lexer.proofs.AgainLemmas.{steps_added, spelled_later}
use Rattle.fy_lexer.proofs.NamesLemmas.{HasAdded-none, HasAdded-then, numbered_later}
use Rattle.fy_link.specs.Header.{PlainPiece, PlainHeader, is_sign, piece_from, piece_of, before_others, pieces_of, header_of, pieces_in}
use Rattle.fy_link.proofs.Cuts.{header-cut}

-- the number is that of an identifier among the names
pub record IsKnown (names : List Bytes) (n : ℕ) : Type 0 where
  pub piece : Bytes
  pub identifier : IsTrue (is_identifier piece)
  pub number : n ≡ number_of names piece
  pub stays : with_name names piece ≡ names

-- ---- tokens

push-identifier : (P : ℕ → Type 0) (ts : List Token) (t : Token) → AllIdentifiers P ts → OfIdentifier P t.kind → AllIdentifiers P (ts ++ t ∷ [])
push-identifier P [] t h one = (one, tt)
push-identifier P (u ∷ ts) t h one = (h.0, push-identifier P ts t h.1 one)

pub take-identifiers : (P : ℕ → Type 0) (k : ℕ) (ts : List Token) → AllIdentifiers P ts → AllIdentifiers P (take k ts)
take-identifiers P zero ts h = tt
take-identifiers P (suc k) [] h = tt
take-identifiers P (suc k) (t ∷ ts) h = (h.0, take-identifiers P k ts h.1)

known-of : (names : List Bytes) (k : TokenKind) (piece : Bytes) → Spells names k piece → names_past k piece names ≡ names → OfIdentifier (IsKnown names) k
known-of names (kind.Ident n) piece h e = record { piece = piece; identifier = h.0; number = h.1; stays = e }
known-of names (kind.Word n) piece h e = tt
known-of names (kind.Number n) piece h e = tt
known-of names (kind.Letter n) piece h e = tt
known-of names (kind.Str n) piece h e = tt
known-of names (kind.Sym n) piece h e = tt
known-of names kind.End piece h e = tt

steps-known : (names : List Bytes) (old last : Reading) → Steps old last → HasAdded last.names names → AllIdentifiers (IsKnown names) old.tokens →
    AllIdentifiers (IsKnown names) last.tokens
steps-known names old last (Steps.none here) a h = h
steps-known names old last (Steps.more first next new (inl s) rest) a h =
    steps-known names next new rest a (subst (AllIdentifiers (IsKnown names)) (sym s.tokens) h)
steps-known names old last (Steps.more first next new (inr s) rest) a h =
    let added : HasAdded next.names names = HasAdded-then next.names new.names names (steps_added next new rest) a in
    let known = spelled_later s.kind s.piece first.names names s.spelled (subst (λ l. HasAdded l names) s.names added) in
    steps-known names next new rest a
    (subst (AllIdentifiers (IsKnown names)) (sym s.tokens)
    (push-identifier (IsKnown names) first.tokens (record { kind = s.kind; place = first.spot.place }) h (known-of names s.kind s.piece known.0 known.1)))

pub tokens-known : (names : List Bytes) (text : Bytes) (tokens : List Token) (after later : List Bytes) → IsTokensOf names text tokens after → HasAdded after later →
    AllIdentifiers (IsKnown later) tokens
tokens-known names text tokens after later h a =
    let all = steps-known later (start_of names text) h.last h.steps (subst (λ l. HasAdded l later) h.named a) tt in
    subst (AllIdentifiers (IsKnown later)) (sym h.read)
    (push-identifier (IsKnown later) h.last.tokens (record { kind = kind.End; place = h.last.spot.place }) all tt)

-- ---- pieces

abbrev pub AllParts : (ℕ → Type 0) → List (List Token) → Type 0
AllParts P [] = Unit {0}
AllParts P (part ∷ parts) = AllIdentifiers P part × AllParts P parts

onto : (P : ℕ → Type 0) (t : Token) (parts : List (List Token)) → OfIdentifier P t.kind → AllParts P parts → AllParts P (onto_first t parts)
onto P t [] n h = ((n, tt), tt)
onto P t (part ∷ parts) n h = ((n, h.0), h.1)

split_step : (P : ℕ → Type 0) (p : Token → Bool) (t : Token) (ts : List Token) (b : Bool) → p t ≡ b → OfIdentifier P t.kind → AllParts P (slice_split p ts) →
    AllParts P (slice_split p (t ∷ ts))
split_step P p t ts true e n h = subst (AllParts P) (sym (slice_split-cons_yes p t ts e)) (tt, h)
split_step P p t ts false e n h = subst (AllParts P) (sym (slice_split-cons_no p t ts e)) (onto P t (slice_split p ts) n h)

pub parts-identifiers : (P : ℕ → Type 0) (p : Token → Bool) (ts : List Token) → AllIdentifiers P ts → AllParts P (slice_split p ts)
parts-identifiers P p [] h = (tt, tt)
parts-identifiers P p (t ∷ ts) h = split_step P p t ts (p t) refl h.0 (parts-identifiers P p ts h.1)

-- the name of each piece has the property
abbrev pub AllPieceNames : (ℕ → Type 0) → List PlainPiece → Type 0
AllPieceNames P [] = Unit {0}
AllPieceNames P (x ∷ xs) = P x.name × AllPieceNames P xs

abbrev name_or : Option PlainPiece → ℕ → ℕ
name_or None n = n
name_or (Some x) n = x.name

from-named : (P : ℕ → Type 0) (k : TokenKind) (b : Bool) (p q : Place) (type : List Token) (x : PlainPiece) → piece_from k b p q type ≡ Some x → OfIdentifier P k → P x.name
from-named P (kind.Ident n) true p q type x e h = subst P (ap (λ (o : Option PlainPiece). name_or o n) e) h
from-named P (kind.Ident n) false p q type x e h = absurd (cc)
from-named P (kind.Number n) b p q type x e h = absurd (cc)
from-named P (kind.Letter c) b p q type x e h = absurd (cc)
from-named P (kind.Str bytes) b p q type x e h = absurd (cc)
from-named P (kind.Word w) b p q type x e h = absurd (cc)
from-named P (kind.Sym s) b p q type x e h = absurd (cc)
from-named P kind.End b p q type x e h = absurd (cc)

piece-named : (P : ℕ → Type 0) (part : List Token) (x : PlainPiece) → AllIdentifiers P part → piece_of part ≡ Some x → P x.name
piece-named P [] x h e = absurd (cc)
piece-named P (t ∷ []) x h e = absurd (cc)
piece-named P (t ∷ u ∷ type) x h e = from-named P t.kind (is_sign symbol.Colon u) t.place u.place type x e h.0

both-named : (P : ℕ → Type 0) (o : Option PlainPiece) (r : Option (List PlainPiece)) (xs : List PlainPiece) → before_others o r ≡ Some xs →
    ((x : PlainPiece) → o ≡ Some x → P x.name) → ((ys : List PlainPiece) → r ≡ Some ys → AllPieceNames P ys) → AllPieceNames P xs
both-named P None r xs e f g = absurd (cc)
both-named P (Some x) None xs e f g = absurd (cc)
both-named P (Some x) (Some ys) xs e f g = let k : x ∷ ys ≡ xs = cc in subst (AllPieceNames P) k (f x refl, g ys refl)

pieces-named : (P : ℕ → Type 0) (parts : List (List Token)) (xs : List PlainPiece) → AllParts P parts → pieces_of parts ≡ Some xs → AllPieceNames P xs
pieces-named P [] xs h e = let k : [] ≡ xs = cc in subst (AllPieceNames P) k tt
pieces-named P (part ∷ parts) xs h e =
    both-named P (piece_of part) (pieces_of parts) xs e (λ x k. piece-named P part x h.0 k) (λ ys k. pieces-named P parts ys h.1 k)

last-named : (P : ℕ → Type 0) (xs : List PlainPiece) (x : PlainPiece) → AllPieceNames P (xs ++ x ∷ []) → P x.name
last-named P [] x h = h.0
last-named P (y ∷ xs) x h = last-named P xs x h.1

-- the unit's own name is one of the names
pub own-known : (names : List Bytes) (tokens : List Token) (header : PlainHeader) → AllIdentifiers (IsKnown names) tokens → header_of tokens ≡ Some header →
    IsKnown names header.own.name
own-known names tokens header h e =
    let cut = header-cut tokens header e in
    last-named (IsKnown names) header.imports header.own
    (pieces-named (IsKnown names) (slice_split (is_sign symbol.Comma) (take cut.k tokens)) (pieces_in header)
    (parts-identifiers (IsKnown names) (is_sign symbol.Comma) (take cut.k tokens) (take-identifiers (IsKnown names) cut.k tokens h)) cut.pieces)

-- the text of a name is its piece
pub known-text : (names : List Bytes) (n : ℕ) (text : Bytes) (h : IsKnown names n) → slice_get names n ≡ Some text → text ≡ h.piece
known-text names n text h e =
    let own : slice_get names (number_of names h.piece) ≡ Some h.piece =
    numbered_later names names h.piece (subst (λ (l : List Bytes). HasAdded l names) (sym h.stays) (HasAdded-none names)) in
    let both : Some text ≡ Some h.piece = sym e ∙ (ap (slice_get names) h.number ∙ own) in
    cc
