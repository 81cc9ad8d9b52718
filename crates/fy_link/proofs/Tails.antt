-- The `==` of a header has a place in the text, and bytes behind it.
use Rattle.std.proofs.Common.{◌≡◌, ℕ, zero, suc, ◌<◌, List, [], ◌∷◌, ◌++◌, length, get_or, Bool, true, false, refl, sym, ap, ◌∙◌, subst, arith}
use Rattle.std.specs.Prelude.{Some, codes, cond, if◌then◌else◌}
use Rattle.std.specs.List.{list_all}
use Rattle.std.specs.Map.{lookup}
use Rattle.std.specs.Str.{bytes_eq}
use Rattle.std.proofs.lemmas.Slice.Eq.{bytes_eq-Decides}
use Rattle.std.proofs.lemmas.List.Quantifiers.{position-Some}
use Rattle.fy_base.specs.Outside.{Bytes}
use Rattle.fy_lexer.specs.declared.token.Token.{Token}
use Rattle.fy_lexer.specs.declared.token.TokenKind.TheVariants as kind
use Rattle.fy_lexer.specs.declared.token.Symbol.{Symbol}
use Rattle.fy_lexer.specs.declared.token.Symbol.TheVariants as symbol
use Rattle.fy_lexer.specs.Spellings.{Spells, symbols, symbol_of}
use Rattle.fy_lexer.specs.Tokens.{IsTokensOf}
use Rattle.fy_lexer.proofs.RunLemmas.{and-left, and-right}
use Rattle.fy_syntax.specs.Reader.{is_symbol_kind}
use Rattle.fy_syntax.specs.Signs.{token}
use Rattle.fy_syntax.proofs.SignLemmas.{kind_is_symbol}
use Rattle.fy_link.specs.Header.{PlainHeader, is_sign, header_of}
use Rattle.fy_link.specs.Joined.{IsTail}
use Rattle.fy_link.proofs.Cuts.{header-cut}
use Rattle.fy_link.proofs.HeadLemmas.{front-drop}
use Rattle.fy_link.proofs.Ends.{before-last}
use Rattle.fy_link.proofs.TokenPlaces.{StandsIn, read-stand, stands-at}

-- what holds of each pair of a table holds of a text with what the table has for it
pair-step : (q : Bytes → Symbol → Bool) (piece : Bytes) (x : Bytes × Symbol) (table : List (Bytes × Symbol)) (v : Symbol) (b : Bool) → bytes_eq piece x.0 ≡ b →
    q x.0 x.1 ≡ true → (lookup (bytes_eq piece) table ≡ Some v → q piece v ≡ true) → lookup (bytes_eq piece) (x ∷ table) ≡ Some v → q piece v ≡ true
pair-step q piece x table v true t h f e =
    let same : piece ≡ x.0 = (bytes_eq-Decides piece x.0).0 t in
    let value : Some x.1 ≡ Some v = sym (ap (λ (b : Bool). cond b (Some x.1) (lookup (bytes_eq piece) table)) t) ∙ e in
    let k : x.1 ≡ v = cc in
    subst (λ (w : Symbol). q piece w ≡ true) k (subst (λ (p : Bytes). q p x.1 ≡ true) (sym same) h)
pair-step q piece x table v false t h f e = f (sym (ap (λ (b : Bool). cond b (Some x.1) (lookup (bytes_eq piece) table)) t) ∙ e)

lookup-pair : (q : Bytes → Symbol → Bool) (table : List (Bytes × Symbol)) (piece : Bytes) (v : Symbol) →
    list_all (λ (e : Bytes × Symbol). q e.0 e.1) table ≡ true → lookup (bytes_eq piece) table ≡ Some v → q piece v ≡ true
lookup-pair q [] piece v h e = absurd (cc)
lookup-pair q (x ∷ table) piece v h e =
    pair-step q piece x table v (bytes_eq piece x.0) refl (and-left _ _ h) (lookup-pair q table piece v (and-right _ _ h)) e

-- only two bytes 61 spell `==`
is_equals : Bytes → Symbol → Bool
is_equals piece s = if is_symbol_kind symbol.EqualsEquals (kind.Sym s) then bytes_eq piece (codes "==") else true

symbols_equals : list_all (λ (e : Bytes × Symbol). is_equals e.0 e.1) symbols ≡ true
unfolding symbols is_equals
symbols_equals = refl

pub equals-spelled : (piece : Bytes) → symbol_of piece ≡ Some symbol.EqualsEquals → piece ≡ 61 ∷ 61 ∷ []
unfolding is_equals
equals-spelled piece e = (bytes_eq-Decides piece (61 ∷ 61 ∷ [])).0 (lookup-pair is_equals symbols piece symbol.EqualsEquals symbols_equals e)

-- the text goes on behind the `==` of the header
pub record HasTail (text : Bytes) (header : PlainHeader) : Type 0 where
  pub tail : Bytes
  pub is : IsTail text header.equals_at tail

pub spelled-at : (names : List Bytes) (t : Token) (piece : Bytes) → is_sign symbol.EqualsEquals t ≡ true → Spells names t.kind piece → piece ≡ 61 ∷ 61 ∷ []
spelled-at names t piece e h = equals-spelled piece (subst (λ k. Spells names k piece) (kind_is_symbol symbol.EqualsEquals t.kind e) h)

get-front : (ts : List Token) (t d : Token) (k : ℕ) → k < length ts → get_or (ts ++ t ∷ []) k d ≡ get_or ts k d
get-front [] t d k l = absurd (omega arith)
get-front (u ∷ ts) t d zero l = refl
get-front (u ∷ ts) t d (suc k) l = get-front ts t d k (omega arith)

pub text-has-tail : (names after : List Bytes) (text : Bytes) (tokens : List Token) (header : PlainHeader) →
    IsTokensOf names text tokens after → header_of tokens ≡ Some header → HasTail text header
text-has-tail names after text tokens header h e =
    let cut = header-cut tokens header e in
    let last : Token = token kind.End h.last.spot.place in
    let found = position-Some (is_sign symbol.EqualsEquals) tokens cut.k last cut.found in
    let passes : is_sign symbol.EqualsEquals (get_or (h.last.tokens ++ last ∷ []) cut.k last) ≡ true =
    subst (λ (ts : List Token). is_sign symbol.EqualsEquals (get_or ts cut.k last) ≡ true) h.read found.1 in
    let inner : cut.k < length h.last.tokens =
    before-last (is_sign symbol.EqualsEquals) h.last.tokens last last cut.k refl passes (subst (λ (ts : List Token). cut.k < length ts) h.read found.0) in
    let stands : StandsIn text (get_or h.last.tokens cut.k last) = stands-at text h.last.tokens cut.k last inner (read-stand names text h.last h.steps) in
    let same : get_or tokens cut.k last ≡ get_or h.last.tokens cut.k last =
    ap (λ (ts : List Token). get_or ts cut.k last) h.read ∙ get-front h.last.tokens last last cut.k inner in
    let piece : stands.piece ≡ 61 ∷ 61 ∷ [] =
    spelled-at stands.names (get_or h.last.tokens cut.k last) stands.piece (subst (λ t. is_sign symbol.EqualsEquals t ≡ true) same found.1) stands.spelled in
    record {
      tail = stands.rest;
      is = record {
        head = stands.head;
        is = subst (λ (p : Bytes). text ≡ stands.head ++ (p ++ stands.rest)) piece stands.is;
        place = stands.place ∙ sym (cut.at ∙ (front-drop tokens last cut.k found.0 ∙ ap (λ (t : Token). t.place) same));
      };
    }
