-- In no piece of a header stands a `.` or a `|`.
use Rattle.std.proofs.Common.{◌≡◌, ℕ, List, [], ◌∷◌, ◌++◌, ◌+◌, take, drop, Bool, true, false, refl, sym, ap, ◌∙◌, subst}
use Rattle.std.specs.Prelude.{Option, Some, None, ◌||◌, if◌then◌else◌}
use Rattle.std.specs.List.{slice_split, onto_first, list_any}
use Rattle.std.proofs.lemmas.List.Splits.{slice_split-cons_yes, slice_split-cons_no}
use Rattle.fy_base.specs.declared.data.Place.{Place}
use Rattle.fy_lexer.specs.declared.token.Token.{Token}
use Rattle.fy_lexer.specs.declared.token.TokenKind.{TokenKind}
use Rattle.fy_lexer.specs.declared.token.TokenKind.TheVariants as kind
use Rattle.fy_lexer.specs.declared.token.Symbol.TheVariants as symbol
use Rattle.fy_syntax.specs.Signs.{front}
use Rattle.fy_link.specs.Header.{PlainPiece, PlainHeader, is_sign, piece_from, piece_of, before_others, pieces_of, ends_type, header_from, header_at, header_of, pieces_in}
use Rattle.fy_link.proofs.Cuts.{header-cut}
use Rattle.fy_link.proofs.TypeParts.{IsClean}

-- each part is clean, and so is each piece's type
abbrev AllClean : List (List Token) → Type 0
AllClean [] = Unit {0}
AllClean (part ∷ parts) = IsClean part × AllClean parts

abbrev pub AreClean : List PlainPiece → Type 0
AreClean [] = Unit {0}
AreClean (x ∷ xs) = IsClean x.type × AreClean xs

or-false : (a b : Bool) → (a || b) ≡ false → (a ≡ false) × (b ≡ false)
or-false true b e = absurd (cc)
or-false false b e = (refl, e)

clean-from : (ts : List Token) → list_any ends_type ts ≡ false → IsClean ts
clean-from [] e = tt
clean-from (t ∷ ts) e = let both = or-false (ends_type t) (list_any ends_type ts) e in (both.0, clean-from ts both.1)

onto : (t : Token) (parts : List (List Token)) → ends_type t ≡ false → AllClean parts → AllClean (onto_first t parts)
onto t [] n h = ((n, tt), tt)
onto t (part ∷ parts) n h = ((n, h.0), h.1)

split_step : (p : Token → Bool) (t : Token) (ts : List Token) (b : Bool) → p t ≡ b → ends_type t ≡ false → AllClean (slice_split p ts) → AllClean (slice_split p (t ∷ ts))
split_step p t ts true e n h = subst AllClean (sym (slice_split-cons_yes p t ts e)) (tt, h)
split_step p t ts false e n h = subst AllClean (sym (slice_split-cons_no p t ts e)) (onto t (slice_split p ts) n h)

parts-clean : (p : Token → Bool) (ts : List Token) → IsClean ts → AllClean (slice_split p ts)
parts-clean p [] h = (tt, tt)
parts-clean p (t ∷ ts) h = split_step p t ts (p t) refl h.0 (parts-clean p ts h.1)

abbrev pub type_or_none : Option PlainPiece → List Token
type_or_none None = []
type_or_none (Some x) = x.type

from-clean : (k : TokenKind) (b : Bool) (p q : Place) (type : List Token) (x : PlainPiece) → piece_from k b p q type ≡ Some x → IsClean type → IsClean x.type
from-clean (kind.Ident n) true p q type x e h = subst IsClean (ap type_or_none e) h
from-clean (kind.Ident n) false p q type x e h = absurd (cc)
from-clean (kind.Number n) b p q type x e h = absurd (cc)
from-clean (kind.Letter c) b p q type x e h = absurd (cc)
from-clean (kind.Str bytes) b p q type x e h = absurd (cc)
from-clean (kind.Word w) b p q type x e h = absurd (cc)
from-clean (kind.Sym s) b p q type x e h = absurd (cc)
from-clean kind.End b p q type x e h = absurd (cc)

piece-clean : (part : List Token) (x : PlainPiece) → IsClean part → piece_of part ≡ Some x → IsClean x.type
piece-clean [] x h e = absurd (cc)
piece-clean (t ∷ []) x h e = absurd (cc)
piece-clean (t ∷ u ∷ type) x h e = from-clean t.kind (is_sign symbol.Colon u) t.place u.place type x e h.1.1

both-clean : (o : Option PlainPiece) (r : Option (List PlainPiece)) (xs : List PlainPiece) → before_others o r ≡ Some xs →
    ((x : PlainPiece) → o ≡ Some x → IsClean x.type) → ((ys : List PlainPiece) → r ≡ Some ys → AreClean ys) → AreClean xs
both-clean None r xs e f g = absurd (cc)
both-clean (Some x) None xs e f g = absurd (cc)
both-clean (Some x) (Some ys) xs e f g = let k : x ∷ ys ≡ xs = cc in subst AreClean k (f x refl, g ys refl)

pieces-clean : (parts : List (List Token)) (xs : List PlainPiece) → AllClean parts → pieces_of parts ≡ Some xs → AreClean xs
pieces-clean [] xs h e = let k : [] ≡ xs = cc in subst AreClean k tt
pieces-clean (part ∷ parts) xs h e =
    both-clean (piece_of part) (pieces_of parts) xs e (λ x k. piece-clean part x h.0 k) (λ ys k. pieces-clean parts ys h.1 k)

-- a header has no `.` and `|` in front of it
plain-front : (b : Bool) (o : Option PlainHeader) (h : PlainHeader) → (if b then None else o) ≡ Some h → b ≡ false
plain-front true o h e = absurd (cc)
plain-front false o h e = refl

front-clean : (k : ℕ) (tokens : List Token) (h : PlainHeader) → header_at (Some k) tokens ≡ Some h → IsClean (take k tokens)
front-clean k tokens h e = clean-from (take k tokens) (plain-front (list_any ends_type (take k tokens))
    (header_from (pieces_of (slice_split (is_sign symbol.Comma) (take k tokens))) (front (drop k tokens)) (drop (k + 1) tokens)) h e)

pub header-clean : (tokens : List Token) (h : PlainHeader) → header_of tokens ≡ Some h → AreClean (pieces_in h)
header-clean tokens h e =
    let cut = header-cut tokens h e in
    pieces-clean (slice_split (is_sign symbol.Comma) (take cut.k tokens)) (pieces_in h)
    (parts-clean (is_sign symbol.Comma) (take cut.k tokens) (front-clean cut.k tokens h (ap (λ (o : Option ℕ). header_at o tokens) (sym cut.found) ∙ e))) cut.pieces

pub clean-front : (xs ys : List PlainPiece) → AreClean (xs ++ ys) → AreClean xs
clean-front [] ys h = tt
clean-front (x ∷ xs) ys h = (h.0, clean-front xs ys h.1)

pub clean-last : (xs : List PlainPiece) (y : PlainPiece) → AreClean (xs ++ y ∷ []) → IsClean y.type
clean-last [] y h = h.0
clean-last (x ∷ xs) y h = clean-last xs y h.1
