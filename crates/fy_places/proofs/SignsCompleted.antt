-- Single tokens that are read can be completed.
use Rattle.std.proofs.Common.{Bool, List, [], arith, false, refl, subst, suc, sym, true, ℕ, ◌∷◌, ◌≡◌, ◌≤◌}
use Rattle.std.specs.Prelude.{Err, Ok, Option, Some, if◌then◌else◌}
use Rattle.fy_base.specs.declared.data.Place.{Place}
use Rattle.fy_types.specs.declared.types.Atom.TheVariants as atom
use Rattle.fy_lexer.specs.declared.token.Keyword.{Keyword}
use Rattle.fy_lexer.specs.declared.token.Keyword.TheVariants as word
use Rattle.fy_lexer.specs.declared.token.Symbol.{Symbol}
use Rattle.fy_lexer.specs.declared.token.Token.{Token}
use Rattle.fy_lexer.specs.declared.token.TokenKind.{TokenKind}
use Rattle.fy_lexer.specs.declared.token.TokenKind.TheVariants as kind
use Rattle.fy_syntax.specs.Reader.{Fault, Read, begins_with, begins_with_word, behind, data_at, data_kind, expect, expect_word, name_at, name_of, nested, ◌>>=◌}
use Rattle.fy_syntax.specs.Signs.{front, ident_at, token, word_at}
use Rattle.fy_syntax.proofs.TokenLemmas.{begins_is, begins_word_is}
use Rattle.fy_places.proofs.Completing.{IsCompletable, Language, SameBefore, SameThrough, completable_behind, completable_nested, piece_completes, pieces_complete, same_through_next}
use Rattle.fy_places.proofs.Fresh.{fresh_pieces}
use Rattle.fy_places.proofs.Pieces.{Piece, SpellsPiece, SpellsPieces}

-- behind a sign that is there
pub completable_sign : {A : Type 0} (k : TokenKind) (pieces : List Piece) (depth : ℕ) (at : Place) (tokens : List Token) (x : Read A) →
    IsCompletable (SpellsPieces pieces) depth tokens x → IsCompletable (SpellsPieces (Piece.sign k ∷ pieces)) depth (token k at ∷ tokens) x
completable_sign k pieces depth at tokens x h =
    completable_behind (SpellsPieces pieces) (SpellsPieces (Piece.sign k ∷ pieces)) depth depth (token k at) tokens x (λ whole rest s. SpellsPieces.also SpellsPiece.a_sign s) (λ whole rest s. SpellsPieces.also SpellsPiece.a_sign s) h

pub completable_symbol : {B : Type 0} (s : Symbol) (pieces : List Piece) (depth : ℕ) (tokens : List Token) (f : List Token → Read B) →
    ((middle : List Token) → IsCompletable (SpellsPieces pieces) depth middle (f middle)) → IsCompletable (SpellsPieces (Piece.sign (kind.Sym s) ∷ pieces)) depth tokens (expect s tokens >>= f)
completable_symbol s pieces depth tokens f h = go (begins_with s tokens) refl
  where
    go : (b : Bool) → begins_with s tokens ≡ b → IsCompletable (SpellsPieces (Piece.sign (kind.Sym s) ∷ pieces)) depth tokens ((if b then Ok (behind tokens) else Err (Fault.wrong tokens)) >>= f)
    go true e =
        subst (λ whole. IsCompletable (SpellsPieces (Piece.sign (kind.Sym s) ∷ pieces)) depth whole (f (behind tokens))) (sym (begins_is s tokens e))
        (completable_sign (kind.Sym s) pieces depth (front tokens) (behind tokens) (f (behind tokens)) (h (behind tokens)))
    go false e = pieces_complete (Piece.sign (kind.Sym s) ∷ pieces) depth tokens

pub completable_word : {B : Type 0} (w : Keyword) (pieces : List Piece) (depth : ℕ) (tokens : List Token) (f : List Token → Read B) →
    ((middle : List Token) → IsCompletable (SpellsPieces pieces) depth middle (f middle)) → IsCompletable (SpellsPieces (Piece.sign (kind.Word w) ∷ pieces)) depth tokens (expect_word w tokens >>= f)
completable_word w pieces depth tokens f h = go (begins_with_word w tokens) refl
  where
    go : (b : Bool) → begins_with_word w tokens ≡ b → IsCompletable (SpellsPieces (Piece.sign (kind.Word w) ∷ pieces)) depth tokens ((if b then Ok (behind tokens) else Err (Fault.wrong tokens)) >>= f)
    go true e =
        subst (λ whole. IsCompletable (SpellsPieces (Piece.sign (kind.Word w) ∷ pieces)) depth whole (f (behind tokens))) (sym (begins_word_is w tokens e))
        (completable_sign (kind.Word w) pieces depth (front tokens) (behind tokens) (f (behind tokens)) (h (behind tokens)))
    go false e = pieces_complete (Piece.sign (kind.Word w) ∷ pieces) depth tokens

pub completable_name : (depth : ℕ) (tokens : List Token) → IsCompletable (SpellsPiece Piece.name) depth tokens (name_at tokens)
completable_name depth [] = piece_completes Piece.name depth []
completable_name depth (t ∷ tokens) = go t.kind
  where
    go : (k : TokenKind) → IsCompletable (SpellsPiece Piece.name) depth (token k t.place ∷ tokens) (name_of k (token k t.place ∷ tokens))
    go (kind.Ident n) = λ later. (ident_at n t.place ∷ later, SameBefore.next SameBefore.here, SpellsPiece.a_name)
    go k = piece_completes Piece.name depth (token k t.place ∷ tokens)

pub completable_datum : (depth : ℕ) (tokens : List Token) → IsCompletable (SpellsPiece Piece.datum) depth tokens (data_at tokens)
completable_datum depth [] = piece_completes Piece.datum depth []
completable_datum depth (t ∷ tokens) = go t.kind
  where
    go : (k : TokenKind) → IsCompletable (SpellsPiece Piece.datum) depth (token k t.place ∷ tokens) (data_kind k (token k t.place ∷ tokens))
    go (kind.Word word.Int) = λ later. (word_at word.Int t.place ∷ later, SameBefore.next SameBefore.here, SpellsPiece.a_datum atom.Int refl)
    go (kind.Word word.Bool) = λ later. (word_at word.Bool t.place ∷ later, SameBefore.next SameBefore.here, SpellsPiece.a_datum atom.Bool refl)
    go (kind.Word word.Char) = λ later. (word_at word.Char t.place ∷ later, SameBefore.next SameBefore.here, SpellsPiece.a_datum atom.Char refl)
    go k = piece_completes Piece.datum depth (token k t.place ∷ tokens)

-- behind a token that opens one node more
pub completable_opened : {A B : Type 0} (P : Piece) (depth : ℕ) (t : Token) (tokens : List Token) (pieces : List Piece) (i : Option A) (go : A → Read B) →
    ((depth less : ℕ) → suc less ≤ depth → (whole rest : List Token) → SpellsPieces pieces less whole rest → SpellsPiece P depth (t ∷ whole) rest) →
    ((g : A) → i ≡ Some g → (less : ℕ) × (suc less ≤ depth) × IsCompletable (SpellsPieces pieces) less tokens (go g)) → IsCompletable (SpellsPiece P) depth (t ∷ tokens) (nested i (t ∷ tokens) go)
completable_opened P depth t tokens pieces i go said h =
    completable_nested (SpellsPiece P) depth (t ∷ tokens) i (t ∷ tokens) go (piece_completes P depth (t ∷ tokens))
    (λ later. let (whole, s) = fresh_pieces pieces depth later in (whole, t ∷ whole, SameThrough.through (SameBefore.next SameBefore.here), said (suc depth) depth (omega arith) whole later s))
    (λ g f. let (n, le, inside) = h g f in
    completable_behind (SpellsPieces pieces) (SpellsPiece P) n depth t tokens (go g) (said depth n le) (said (suc depth) (suc n) (omega arith)) inside)

pub completable_behind_two : {A : Type 0} (language other : Language) (depth less : ℕ) (t u : Token) (tokens : List Token) (x : Read A) →
    ((whole rest : List Token) → language depth whole rest → other less (t ∷ u ∷ whole) rest) → ((whole rest : List Token) → language (suc depth) whole rest → other (suc less) (t ∷ u ∷ whole) rest) → IsCompletable language depth tokens x → IsCompletable other less (t ∷ u ∷ tokens) x
completable_behind_two language other depth less t u tokens (Ok x) k l h = λ later. let (whole, a, s) = h later in (t ∷ u ∷ whole, SameBefore.next (SameBefore.next a), k whole later s)
completable_behind_two language other depth less t u tokens (Err (Fault.wrong b)) k l h = λ later. let (c, whole, a, s) = h later in (c, t ∷ u ∷ whole, SameBefore.next (SameBefore.next a), k whole later s)
completable_behind_two language other depth less t u tokens (Err (Fault.deep b)) k l h = (λ later. let (c, whole, a, s) = h.0 later in (c, t ∷ u ∷ whole, SameBefore.next (SameBefore.next a), k whole later s), λ later. let (c, whole, a, s) = h.1 later in (c, t ∷ u ∷ whole, same_through_next t (same_through_next u a), l whole later s))
