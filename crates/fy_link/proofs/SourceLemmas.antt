-- Why sources are refused, from why their stages are.
use Rattle.std.proofs.Common.{◌≡◌, ℕ, ◌+◌, ◌<◌, length, map, take, drop, get_or, List, [], ◌∷◌, ◌++◌, refl, sym, ap, ◌∙◌, subst}
use Rattle.std.specs.Prelude.{None, Result, Ok, Err, IfOk, IfErr}
use Rattle.std.proofs.lemmas.List.{take-append-drop, drop_more, map-append, map_more, map_push}
use Rattle.fy_base.specs.Outside.{Bytes}
use Rattle.fy_base.specs.declared.data.Place.{Place}
use Rattle.fy_lexer.specs.declared.token.Token.{Token}
use Rattle.fy_lexer.specs.declared.error.LexError.{LexError}
use Rattle.fy_lexer.specs.Tokens.{IsFaultOf}
use Rattle.fy_syntax.specs.Signs.{front}
use Rattle.fy_syntax.specs.Trees as written
use Rattle.fy_grammar.specs.declared.error.ParseError.{ParseError}
use Rattle.fy_grammar.specs.Program.{IsTheProgram, IsRefusal}
use Rattle.fy_front.specs.Checked.{lex_refusal, parse_refusal, failure_of, IfRefused, IsMeaningless}
use Rattle.fy_front.specs.declared.error.FrontError.{FrontError}
use Rattle.fy_front.specs.declared.refusal.Refusal.TheVariants as refusal
use Rattle.fy_front.proofs.Checking.{failed, refused_more}
use Rattle.fy_link.specs.declared.header.Piece.{Piece}
use Rattle.fy_link.specs.declared.source.Named as value
use Rattle.fy_link.specs.Header.{PlainPiece, PlainHeader, type_program, unit_program, header_of, pieces_in}
use Rattle.fy_link.specs.Sources.{Named, NameAll, Names, IsTypeFault, IsSaidFault, IsLexed, HasHeader, IsSourceFault}
use Rattle.fy_link.specs.Read.{plain_piece, plain_named}
use Rattle.fy_link.proofs.NamingLemmas.{named-push, fault-more}

-- the type of a piece is refused
pub type-fault : (at : Place) (xs before behind : List PlainPiece) (x : PlainPiece) (known : List Named) (e : FrontError) →
    xs ≡ before ++ x ∷ behind → NameAll at before known → IfRefused (IsMeaningless (type_program at x)) e → IfRefused (IsTypeFault at xs) e
type-fault at xs before behind x known e is h k =
    refused_more (IsMeaningless (type_program at x)) (IsTypeFault at xs) e (λ why f. record { before = before; x = x; behind = behind; is = is; known = known; named = h; why = f }) k

-- a source with this header is refused
pub imports-fault : (at : Place) (header : PlainHeader) (e : FrontError) → IfRefused (IsTypeFault at header.imports) e → IfRefused (IsSaidFault at header) e
imports-fault at header e k =
    refused_more (IsTypeFault at header.imports) (IsSaidFault at header) e (λ why f. IsSaidFault.of_type (fault-more at header.imports (header.own ∷ []) why f)) k

pub own-fault : (at : Place) (header : PlainHeader) (known : List Named) (e : FrontError) →
    NameAll at header.imports known → IfRefused (IsMeaningless (type_program at header.own)) e → IfRefused (IsSaidFault at header) e
own-fault at header known e h k =
    refused_more (IsTypeFault at (pieces_in header)) (IsSaidFault at header) e (λ why f. IsSaidFault.of_type f) (type-fault at (pieces_in header) header.imports [] header.own known e refl h k)

pub tail-fault : (at : Place) (header : PlainHeader) (known : List Named) (own : Named) (e : ParseError) →
    NameAll at header.imports known → Names at header.own own → IsRefusal header.tail e → IfRefused (IsSaidFault at header) (failure_of (parse_refusal e))
tail-fault at header known own e h k f =
    failed (IsSaidFault at header) (parse_refusal e) (λ why told. IsSaidFault.of_tail (known ++ own ∷ []) e (named-push at header.imports known header.own own h k) f told)

pub phrase-fault : (at : Place) (header : PlainHeader) (known : List Named) (own : Named) (alone : written.Tree) (e : FrontError) → NameAll at header.imports known →
    Names at header.own own → IsTheProgram header.tail alone → IfRefused (IsMeaningless (unit_program at header)) e → IfRefused (IsSaidFault at header) e
phrase-fault at header known own alone e h k p q =
    refused_more (IsMeaningless (unit_program at header)) (IsSaidFault at header) e
    (λ why f. IsSaidFault.of_phrase (known ++ own ∷ []) (named-push at header.imports known header.own own h k) p f) q

-- the source is refused
pub lex-fault : (names : List Bytes) (source : Bytes) (e : LexError) → IsFaultOf names source e → IfRefused (IsSourceFault names source) (failure_of (lex_refusal e))
lex-fault names source e h = failed (IsSourceFault names source) (lex_refusal e) (λ why told. IsSourceFault.of_tokens e h told)

pub header-fault : (names after : List Bytes) (source : Bytes) (tokens : List Token) (at : Place) →
    IsLexed names source tokens after → None ≡ header_of tokens → at ≡ front tokens → IsSourceFault names source (refusal.Header at)
header-fault names after source tokens at h e k = subst (λ (p : Place). IsSourceFault names source (refusal.Header p)) (sym k) (IsSourceFault.of_header h (sym e))

pub behind-fault : (names after : List Bytes) (source : Bytes) (tokens : List Token) (header : PlainHeader) (e : FrontError) →
    HasHeader names source after tokens header → IfRefused (IsSaidFault (front tokens) header) e → IfRefused (IsSourceFault names source) e
behind-fault names after source tokens header e h k = refused_more (IsSaidFault (front tokens) header) (IsSourceFault names source) e (λ why f. IsSourceFault.behind_header h f) k

pub ok-weaker : {X E : Type 0} (P Q : X → Type 0) (r : Result X E) → ((x : X) → P x → Q x) → IfOk r P → IfOk r Q
ok-weaker P Q (Ok x) f h = f x h
ok-weaker P Q (Err e) f h = tt

pub err-weaker : {X E : Type 0} (P Q : E → Type 0) (r : Result X E) → ((e : E) → P e → Q e) → IfErr r P → IfErr r Q
err-weaker P Q (Ok x) f h = tt
err-weaker P Q (Err e) f h = f e h

pub pieces-split : (xs : List Piece) (i : ℕ) (x : Piece) → i < length xs → x ≡ get_or xs i x →
    map plain_piece xs ≡ map plain_piece (take i xs) ++ plain_piece x ∷ map plain_piece (drop (i + 1) xs)
pieces-split xs i x h e =
    ap (map plain_piece) (sym (take-append-drop i xs) ∙ ap (λ (ys : List Piece). take i xs ++ ys) (drop_more xs i x h ∙ ap (λ (y : Piece). y ∷ drop (i + 1) xs) (sym e)))
    ∙ map-append plain_piece (take i xs) (x ∷ drop (i + 1) xs)

pub names-more : (at : Place) (xs : List Piece) (i : ℕ) (x : Piece) (all new : List value.Named) (n : value.Named) →
    NameAll at (map plain_piece (take i xs)) (map plain_named all) → i < length xs → x ≡ get_or xs i x → Names at (plain_piece x) (plain_named n) → new ≡ all ++ n ∷ [] →
    NameAll at (map plain_piece (take (i + 1) xs)) (map plain_named new)
names-more at xs i x all new n h l e k put =
    let more : map plain_piece (take (i + 1) xs) ≡ map plain_piece (take i xs) ++ plain_piece x ∷ [] =
    map_more plain_piece xs i x l ∙ ap (λ (y : Piece). map plain_piece (take i xs) ++ plain_piece y ∷ []) (sym e) in
    let named : map plain_named new ≡ map plain_named all ++ plain_named n ∷ [] = ap (map plain_named) put ∙ map_push plain_named all n in
    subst (λ (ps : List PlainPiece). NameAll at ps (map plain_named new)) (sym more)
    (subst (NameAll at (map plain_piece (take i xs) ++ plain_piece x ∷ [])) (sym named) (named-push at (map plain_piece (take i xs)) (map plain_named all) (plain_piece x) (plain_named n) h k))
