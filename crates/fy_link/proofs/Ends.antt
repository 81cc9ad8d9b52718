-- The end of a text is in no piece of its header, and stands last behind the `==`; so what is judged ends with it.
use Rattle.std.proofs.Common.{◌≡◌, ◌≢◌, ℕ, zero, suc, ◌-◌, ◌+◌, ◌<◌, List, [], ◌∷◌, ◌++◌, length, map, take, drop, get_or, Bool, true, false, refl, sym, ap, ◌∙◌, subst, arith}
use Rattle.std.specs.Prelude.{Option, Some, None}
use Rattle.std.specs.List.{All, flat_map, slice_split, onto_first, position}
use Rattle.std.proofs.lemmas.List.{append_assoc, append-nil, length-append, take-append-le, drop-append-le, take_all}
use Rattle.std.proofs.lemmas.List.Elements.{All-nil, All-head, All-tail, All-push, All-take, All-drop}
use Rattle.std.proofs.lemmas.List.Quantifiers.{position-Some}
use Rattle.std.proofs.lemmas.List.Splits.{slice_split-cons_yes, slice_split-cons_no}
use Rattle.fy_base.specs.declared.data.Place.{Place}
use Rattle.fy_lexer.specs.declared.token.Token.{Token}
use Rattle.fy_lexer.specs.declared.token.TokenKind.{TokenKind}
use Rattle.fy_lexer.specs.declared.token.TokenKind.TheVariants as kind
use Rattle.fy_lexer.specs.declared.token.Keyword.TheVariants as word
use Rattle.fy_lexer.specs.declared.token.Symbol.TheVariants as symbol
use Rattle.fy_lexer.specs.Again.{HaveNoEnd}
use Rattle.fy_syntax.specs.Signs.{token, word_at, symbol_at}
use Rattle.fy_grammar.specs.Program.{IsEnded}
use Rattle.fy_link.specs.declared.header.Piece.{Piece}
use Rattle.fy_link.specs.Read.{plain_piece}
use Rattle.fy_link.proofs.Cuts.{header-cut}
use Rattle.fy_link.specs.Sources.{AreInside, IsInside}
use Rattle.fy_link.specs.Header.{PlainPiece, PlainHeader, is_sign, piece_from, piece_of, before_others, pieces_of, header_of, inside, pieces_in, abstraction_over, type_program, unit_program}
use Rattle.fy_link.proofs.CleanPieces.{type_or_none}

abbrev IsOther : Token → Type 0
IsOther t = t.kind ≢ kind.End

pub have_from_all : (ts : List Token) → All IsOther ts → HaveNoEnd ts
have_from_all [] h = tt
have_from_all (t ∷ ts) h = (All-head IsOther t ts h, have_from_all ts (All-tail IsOther t ts h))

have-append : (ts us : List Token) → HaveNoEnd ts → HaveNoEnd us → HaveNoEnd (ts ++ us)
have-append [] us h k = k
have-append (t ∷ ts) us h k = (h.0, have-append ts us h.1 k)

-- each part has no end
abbrev AllOpen : List (List Token) → Type 0
AllOpen [] = Unit {0}
AllOpen (part ∷ parts) = HaveNoEnd part × AllOpen parts

onto : (t : Token) (parts : List (List Token)) → IsOther t → AllOpen parts → AllOpen (onto_first t parts)
onto t [] n h = ((n, tt), tt)
onto t (part ∷ parts) n h = ((n, h.0), h.1)

split_step : (p : Token → Bool) (t : Token) (ts : List Token) (b : Bool) → p t ≡ b → IsOther t → AllOpen (slice_split p ts) → AllOpen (slice_split p (t ∷ ts))
split_step p t ts true e n h = subst AllOpen (sym (slice_split-cons_yes p t ts e)) (tt, h)
split_step p t ts false e n h = subst AllOpen (sym (slice_split-cons_no p t ts e)) (onto t (slice_split p ts) n h)

pub parts-open : (p : Token → Bool) (ts : List Token) → HaveNoEnd ts → AllOpen (slice_split p ts)
parts-open p [] h = (tt, tt)
parts-open p (t ∷ ts) h = split_step p t ts (p t) refl h.0 (parts-open p ts h.1)

from-clear : (k : TokenKind) (b : Bool) (p q : Place) (type : List Token) (x : PlainPiece) → piece_from k b p q type ≡ Some x → HaveNoEnd type → HaveNoEnd x.type
from-clear (kind.Ident n) true p q type x e h = subst HaveNoEnd (ap type_or_none e) h
from-clear (kind.Ident n) false p q type x e h = absurd (cc)
from-clear (kind.Number n) b p q type x e h = absurd (cc)
from-clear (kind.Letter c) b p q type x e h = absurd (cc)
from-clear (kind.Str bytes) b p q type x e h = absurd (cc)
from-clear (kind.Word w) b p q type x e h = absurd (cc)
from-clear (kind.Sym s) b p q type x e h = absurd (cc)
from-clear kind.End b p q type x e h = absurd (cc)

pub piece-clear : (part : List Token) (x : PlainPiece) → HaveNoEnd part → piece_of part ≡ Some x → HaveNoEnd x.type
piece-clear [] x h e = absurd (cc)
piece-clear (t ∷ []) x h e = absurd (cc)
piece-clear (t ∷ u ∷ type) x h e = from-clear t.kind (is_sign symbol.Colon u) t.place u.place type x e h.1.1

both-clear : (o : Option PlainPiece) (r : Option (List PlainPiece)) (xs : List PlainPiece) → before_others o r ≡ Some xs →
    ((x : PlainPiece) → o ≡ Some x → HaveNoEnd x.type) → ((ys : List PlainPiece) → r ≡ Some ys → AreInside ys) → AreInside xs
both-clear None r xs e f g = absurd (cc)
both-clear (Some x) None xs e f g = absurd (cc)
both-clear (Some x) (Some ys) xs e f g = let k : x ∷ ys ≡ xs = cc in subst AreInside k (f x refl, g ys refl)

pub pieces-clear : (parts : List (List Token)) (xs : List PlainPiece) → AllOpen parts → pieces_of parts ≡ Some xs → AreInside xs
pieces-clear [] xs h e = let k : [] ≡ xs = cc in subst AreInside k tt
pieces-clear (part ∷ parts) xs h e =
    both-clear (piece_of part) (pieces_of parts) xs e (λ x k. piece-clear part x h.0 k) (λ ys k. pieces-clear parts ys h.1 k)

-- tokens without an end, and then the end
pub ended-behind : (ts : List Token) (at : Place) → All IsOther ts → IsEnded (ts ++ token kind.End at ∷ [])
ended-behind ts at h = record { before = ts; at = at; is = refl; no_other = h }

all_from_have : (ts : List Token) (us : List Token) → All IsOther us → HaveNoEnd ts → All IsOther (us ++ ts)
all_from_have [] us k h = subst (λ xs. All IsOther xs) (sym (append-nil us)) k
all_from_have (t ∷ ts) us k h =
    subst (λ xs. All IsOther xs) (append_assoc us (t ∷ []) ts) (all_from_have ts (us ++ t ∷ []) (All-push IsOther us t k h.0) h.1)

all-of : (ts : List Token) → HaveNoEnd ts → All IsOther ts
all-of ts h = all_from_have ts [] (All-nil IsOther) h

ended-by : (ts us : List Token) (at : Place) → HaveNoEnd ts → us ≡ ts ++ token kind.End at ∷ [] → IsEnded us
ended-by ts us at h e = record { before = ts; at = at; is = e; no_other = all-of ts h }

abstraction-clear : (at : Place) (x : PlainPiece) → HaveNoEnd x.type → HaveNoEnd (abstraction_over at x)
abstraction-clear at x h =
    ((λ e. absurd (cc)), ((λ e. absurd (cc)), ((λ e. absurd (cc)), have-append x.type (symbol_at symbol.Dot at ∷ []) h ((λ e. absurd (cc)), tt))))

pub type_program-ended : (at : Place) (x : PlainPiece) → HaveNoEnd x.type → IsEnded (type_program at x)
type_program-ended at x h =
    ended-by (abstraction_over at x ++ word_at word.Skip at ∷ []) (type_program at x) at
    (have-append (abstraction_over at x) (word_at word.Skip at ∷ []) (abstraction-clear at x h) ((λ e. absurd (cc)), tt))
    (sym (append_assoc (abstraction_over at x) (word_at word.Skip at ∷ []) (token kind.End at ∷ [])))

abstractions-clear : (at : Place) (xs : List PlainPiece) → AreInside xs → HaveNoEnd (flat_map (abstraction_over at) xs)
abstractions-clear at [] h = tt
abstractions-clear at (x ∷ xs) h = have-append (abstraction_over at x) (flat_map (abstraction_over at) xs) (abstraction-clear at x h.0) (abstractions-clear at xs h.1)

pub clear-last : (xs : List PlainPiece) (x : PlainPiece) → AreInside (xs ++ x ∷ []) → HaveNoEnd x.type
clear-last [] x h = h.0
clear-last (y ∷ xs) x h = clear-last xs x h.1

pub clear-front : (xs ys : List PlainPiece) → AreInside (xs ++ ys) → AreInside xs
clear-front [] ys h = tt
clear-front (x ∷ xs) ys h = (h.0, clear-front xs ys h.1)

enclosed-ended : (at : Place) (ts us : List Token) → HaveNoEnd ts → HaveNoEnd us →
    IsEnded (ts ++ symbol_at symbol.OpenParen at ∷ (us ++ symbol_at symbol.CloseParen at ∷ token kind.End at ∷ []))
enclosed-ended at ts us h k =
    ended-by (ts ++ symbol_at symbol.OpenParen at ∷ (us ++ symbol_at symbol.CloseParen at ∷ []))
    (ts ++ symbol_at symbol.OpenParen at ∷ (us ++ symbol_at symbol.CloseParen at ∷ token kind.End at ∷ [])) at
    (have-append ts (symbol_at symbol.OpenParen at ∷ (us ++ symbol_at symbol.CloseParen at ∷ [])) h
    ((λ e. absurd (cc)), have-append us (symbol_at symbol.CloseParen at ∷ []) k ((λ e. absurd (cc)), tt)))
    (simp append_assoc refl)

take-front : (ts : List Token) (t : Token) → take (length (ts ++ t ∷ []) - 1) (ts ++ t ∷ []) ≡ ts
take-front ts t =
    let e : length (ts ++ t ∷ []) - 1 ≡ length ts = omega (arith, length-append ts (t ∷ [])) in
    ap (λ n. take n (ts ++ t ∷ [])) e ∙ (take-append-le (length ts) ts (t ∷ []) (omega arith) ∙ take_all (length ts) ts (omega arith))

pub inside-of : (header : PlainHeader) (ended : IsEnded header.tail) → inside header ≡ ended.before
inside-of header ended =
    rw ended.is
    (take-front ended.before (token kind.End ended.at))

pub unit_program-ended : (at : Place) (header : PlainHeader) → IsEnded header.tail → AreInside (pieces_in header) → IsEnded (unit_program at header)
unit_program-ended at header ended h =
    enclosed-ended at (flat_map (abstraction_over at) header.imports) (inside header)
    (abstractions-clear at header.imports (clear-front header.imports (header.own ∷ []) h))
    (subst HaveNoEnd (sym (inside-of header ended)) (have_from_all ended.before ended.no_other))

-- a token that passes a test that the last one doesn't pass stands before it
pub before-last : (test : Token → Bool) (ts : List Token) (t d : Token) (k : ℕ) → test t ≡ false → test (get_or (ts ++ t ∷ []) k d) ≡ true →
    k < length (ts ++ t ∷ []) → k < length ts
before-last test [] t d zero f e l = absurd (cc)
before-last test [] t d (suc k) f e l = absurd (omega arith)
before-last test (u ∷ ts) t d zero f e l = omega arith
before-last test (u ∷ ts) t d (suc k) f e l = let h : k < length ts = before-last test ts t d k f e (omega arith) in omega arith

-- of tokens that end with the end, the `==` of a header stands before it
pub equals-before : (tokens : List Token) (k : ℕ) (ended : IsEnded tokens) → position (is_sign symbol.EqualsEquals) tokens ≡ Some k → k < length ended.before
equals-before tokens k ended q =
    let d : Token = token kind.End ended.at in
    let found = position-Some (is_sign symbol.EqualsEquals) tokens k d q in
    before-last (is_sign symbol.EqualsEquals) ended.before d d k refl
    (subst (λ (ts : List Token). is_sign symbol.EqualsEquals (get_or ts k d) ≡ true) ended.is found.1)
    (subst (λ (ts : List Token). k < length ts) ended.is found.0)

-- and so the end is in no piece, and the last behind the `==`
pub header-inside : (tokens : List Token) (h : PlainHeader) → IsEnded tokens → header_of tokens ≡ Some h → IsInside h
header-inside tokens h ended e =
    let cut = header-cut tokens h e in
    let d : Token = token kind.End ended.at in
    let inner : cut.k < length ended.before = equals-before tokens cut.k ended cut.found in
    let clear : HaveNoEnd (take cut.k tokens) =
    have_from_all (take cut.k tokens)
    (subst (λ (ts : List Token). All IsOther ts) (sym (ap (take cut.k) ended.is ∙ take-append-le cut.k ended.before (d ∷ []) (omega arith)))
    (All-take IsOther cut.k ended.before ended.no_other)) in
    record {
      tail = subst IsEnded (sym cut.tail) (record {
        before = drop (cut.k + 1) ended.before;
        at = ended.at;
        is = ap (drop (cut.k + 1)) ended.is ∙ drop-append-le (cut.k + 1) ended.before (d ∷ []) (omega arith);
        no_other = All-drop IsOther (cut.k + 1) ended.before ended.no_other;
      });
      pieces = pieces-clear (slice_split (is_sign symbol.Comma) (take cut.k tokens)) (pieces_in h) (parts-open (is_sign symbol.Comma) (take cut.k tokens) clear) cut.pieces;
    }

pub inside-at : (xs : List Piece) (i : ℕ) (x : Piece) → AreInside (map plain_piece xs) → i < length xs → x ≡ get_or xs i x → HaveNoEnd x.ty.now
inside-at [] i x h l e = absurd (omega arith)
inside-at (y ∷ xs) zero x h l e = subst (λ (p : Piece). HaveNoEnd p.ty.now) (sym e) h.0
inside-at (y ∷ xs) (suc i) x h l e = inside-at xs i x h.1 (omega arith) e
