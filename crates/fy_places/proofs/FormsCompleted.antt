-- Where reading a form stops, behind its first token, the tokens before can be completed.
use Rattle.std.proofs.Common.{List, [], length, suc, ℕ, ◌∷◌, ◌≡◌, ◌≤◌}
use Rattle.std.specs.Prelude.{Option, Some}
use Rattle.fy_base.specs.declared.data.Place.{Place}
use Rattle.fy_lexer.specs.declared.token.Keyword.TheVariants as word
use Rattle.fy_lexer.specs.declared.token.Symbol.TheVariants as symbol
use Rattle.fy_lexer.specs.declared.token.Token.{Token}
use Rattle.fy_lexer.specs.declared.token.TokenKind.TheVariants as kind
use Rattle.fy_syntax.specs.Reader.{Inner, accept_at, cond_at, data_at, decl_at, decls_at, def_at, defs_at, escape_at, group_at, lam_at, let_at, let_type_at, letrec_at, loop_at, name_at, new_at, phrase_at, seq_at, trees_at, types_at, while_at}
use Rattle.fy_syntax.specs.Signs.{Level, TypeLevel, symbol_at, word_at}
use Rattle.fy_syntax.specs.Trees.{Tree, Trees}
use Rattle.fy_places.proofs.Completing.{IsCompletable, ReadsPiece, completable_end, completable_last, completable_then}
use Rattle.fy_places.proofs.ListsCompleted.{decl_completable, decls_completable, def_completable, defs_completable, phrase_reads, trees_completable}
use Rattle.fy_places.proofs.Pieces.{Piece, SpellsPieces}
use Rattle.fy_places.proofs.SignsCompleted.{completable_datum, completable_name, completable_symbol, completable_word}
use Rattle.fy_places.proofs.TypesCompleted.{types_completable}

pub record InnerReads (depth : ℕ) (i : Option Inner) : Type 0 where
  pub inside : (g : Inner) → i ≡ Some g → (less : ℕ) × (suc less ≤ depth) × ReadsPiece (Piece.type TypeLevel.type) less g.type × ReadsPiece (Piece.phrase Level.term) less g.term

pub group_completable : (less : ℕ) (g : Inner) → ReadsPiece (Piece.type TypeLevel.type) less g.type → ReadsPiece (Piece.phrase Level.term) less g.term → (at : Place) (tokens : List Token) →
    IsCompletable (SpellsPieces (Piece.phrase Level.phrase ∷ Piece.sign (kind.Sym symbol.CloseParen) ∷ [])) less tokens (group_at g (symbol_at symbol.OpenParen at ∷ tokens))
group_completable less g types terms at tokens =
    completable_then (Piece.phrase Level.phrase) (Piece.sign (kind.Sym symbol.CloseParen) ∷ []) less tokens (phrase_at g.term tokens) _ ((phrase_reads less g.term terms).completable tokens)
    (λ x0. completable_symbol symbol.CloseParen [] less x0.1 _ (λ m. completable_end less (Tree.group x0.0 at) m))

pub seq_completable : (less : ℕ) (g : Inner) → ReadsPiece (Piece.type TypeLevel.type) less g.type → ReadsPiece (Piece.phrase Level.term) less g.term → (at : Place) (tokens : List Token) →
    IsCompletable (SpellsPieces (Piece.sign (kind.Sym symbol.OpenParen) ∷ Piece.phrase Level.term ∷ Piece.phrases symbol.Comma Level.term ∷ Piece.sign (kind.Sym symbol.CloseParen) ∷ [])) less tokens (seq_at g (word_at word.Seq at ∷ tokens))
seq_completable less g types terms at tokens =
    completable_symbol symbol.OpenParen (Piece.phrase Level.term ∷ Piece.phrases symbol.Comma Level.term ∷ Piece.sign (kind.Sym symbol.CloseParen) ∷ []) less tokens _
    (λ x0. completable_then (Piece.phrase Level.term) (Piece.phrases symbol.Comma Level.term ∷ Piece.sign (kind.Sym symbol.CloseParen) ∷ []) less x0 (g.term x0) _ (terms.completable x0)
    (λ x1. completable_then (Piece.phrases symbol.Comma Level.term) (Piece.sign (kind.Sym symbol.CloseParen) ∷ []) less x1.1 (trees_at (length x1.1) symbol.Comma g.term x1.1) _ (trees_completable symbol.Comma Level.term less g.term terms (length x1.1) x1.1)
    (λ x2. completable_symbol symbol.CloseParen [] less x2.1 _ (λ m. completable_end less (Tree.seq_of (Trees.and_tree x1.0 x2.0) at) m))))

pub lam_completable : (less : ℕ) (g : Inner) → ReadsPiece (Piece.type TypeLevel.type) less g.type → ReadsPiece (Piece.phrase Level.term) less g.term → (at : Place) (tokens : List Token) →
    IsCompletable (SpellsPieces (Piece.name ∷ Piece.sign (kind.Sym symbol.Colon) ∷ Piece.type TypeLevel.type ∷ Piece.types symbol.Bar TypeLevel.type ∷ Piece.sign (kind.Sym symbol.Dot) ∷ Piece.phrase Level.term ∷ [])) less tokens (lam_at g at tokens)
lam_completable less g types terms at tokens =
    completable_then Piece.name (Piece.sign (kind.Sym symbol.Colon) ∷ Piece.type TypeLevel.type ∷ Piece.types symbol.Bar TypeLevel.type ∷ Piece.sign (kind.Sym symbol.Dot) ∷ Piece.phrase Level.term ∷ []) less tokens (name_at tokens) _ (completable_name less tokens)
    (λ x0. completable_symbol symbol.Colon (Piece.type TypeLevel.type ∷ Piece.types symbol.Bar TypeLevel.type ∷ Piece.sign (kind.Sym symbol.Dot) ∷ Piece.phrase Level.term ∷ []) less x0.1 _
    (λ x1. completable_then (Piece.type TypeLevel.type) (Piece.types symbol.Bar TypeLevel.type ∷ Piece.sign (kind.Sym symbol.Dot) ∷ Piece.phrase Level.term ∷ []) less x1 (g.type x1) _ (types.completable x1)
    (λ x2. completable_then (Piece.types symbol.Bar TypeLevel.type) (Piece.sign (kind.Sym symbol.Dot) ∷ Piece.phrase Level.term ∷ []) less x2.1 (types_at (length x2.1) symbol.Bar g.type x2.1) _ (types_completable symbol.Bar TypeLevel.type less g.type types (length x2.1) x2.1)
    (λ x3. completable_symbol symbol.Dot (Piece.phrase Level.term ∷ []) less x3.1 _
    (λ x4. completable_last (Piece.phrase Level.term) less x4 _ (g.term x4) (terms.completable x4))))))

pub let_completable : (less : ℕ) (g : Inner) → ReadsPiece (Piece.type TypeLevel.type) less g.type → ReadsPiece (Piece.phrase Level.term) less g.term → (at : Place) (tokens : List Token) →
    IsCompletable (SpellsPieces (Piece.def ∷ Piece.defs ∷ Piece.sign (kind.Word word.In) ∷ Piece.phrase Level.term ∷ [])) less tokens (let_at g at tokens)
let_completable less g types terms at tokens =
    completable_then Piece.def (Piece.defs ∷ Piece.sign (kind.Word word.In) ∷ Piece.phrase Level.term ∷ []) less tokens (def_at g.term tokens) _ (def_completable less g.term terms tokens)
    (λ x0. completable_then Piece.defs (Piece.sign (kind.Word word.In) ∷ Piece.phrase Level.term ∷ []) less x0.1 (defs_at (length x0.1) g.term x0.1) _ (defs_completable less g.term terms (length x0.1) x0.1)
    (λ x1. completable_word word.In (Piece.phrase Level.term ∷ []) less x1.1 _
    (λ x2. completable_last (Piece.phrase Level.term) less x2 _ (g.term x2) (terms.completable x2))))

pub letrec_completable : (less : ℕ) (g : Inner) → ReadsPiece (Piece.type TypeLevel.type) less g.type → ReadsPiece (Piece.phrase Level.term) less g.term → (at : Place) (tokens : List Token) →
    IsCompletable (SpellsPieces (Piece.decl ∷ Piece.decls ∷ Piece.sign (kind.Word word.Where) ∷ Piece.def ∷ Piece.defs ∷ Piece.sign (kind.Word word.In) ∷ Piece.phrase Level.term ∷ [])) less tokens (letrec_at g at tokens)
letrec_completable less g types terms at tokens =
    completable_then Piece.decl (Piece.decls ∷ Piece.sign (kind.Word word.Where) ∷ Piece.def ∷ Piece.defs ∷ Piece.sign (kind.Word word.In) ∷ Piece.phrase Level.term ∷ []) less tokens (decl_at g.type tokens) _ (decl_completable less g.type types tokens)
    (λ x0. completable_then Piece.decls (Piece.sign (kind.Word word.Where) ∷ Piece.def ∷ Piece.defs ∷ Piece.sign (kind.Word word.In) ∷ Piece.phrase Level.term ∷ []) less x0.1 (decls_at (length x0.1) g.type x0.1) _ (decls_completable less g.type types (length x0.1) x0.1)
    (λ x1. completable_word word.Where (Piece.def ∷ Piece.defs ∷ Piece.sign (kind.Word word.In) ∷ Piece.phrase Level.term ∷ []) less x1.1 _
    (λ x2. completable_then Piece.def (Piece.defs ∷ Piece.sign (kind.Word word.In) ∷ Piece.phrase Level.term ∷ []) less x2 (def_at g.term x2) _ (def_completable less g.term terms x2)
    (λ x3. completable_then Piece.defs (Piece.sign (kind.Word word.In) ∷ Piece.phrase Level.term ∷ []) less x3.1 (defs_at (length x3.1) g.term x3.1) _ (defs_completable less g.term terms (length x3.1) x3.1)
    (λ x4. completable_word word.In (Piece.phrase Level.term ∷ []) less x4.1 _
    (λ x5. completable_last (Piece.phrase Level.term) less x5 _ (g.term x5) (terms.completable x5)))))))

pub let_type_completable : (less : ℕ) (g : Inner) → ReadsPiece (Piece.type TypeLevel.type) less g.type → ReadsPiece (Piece.phrase Level.term) less g.term → (at : Place) (tokens : List Token) →
    IsCompletable (SpellsPieces (Piece.name ∷ Piece.sign (kind.Sym symbol.EqualsEquals) ∷ Piece.type TypeLevel.type ∷ Piece.sign (kind.Word word.In) ∷ Piece.phrase Level.term ∷ [])) less tokens (let_type_at g at tokens)
let_type_completable less g types terms at tokens =
    completable_then Piece.name (Piece.sign (kind.Sym symbol.EqualsEquals) ∷ Piece.type TypeLevel.type ∷ Piece.sign (kind.Word word.In) ∷ Piece.phrase Level.term ∷ []) less tokens (name_at tokens) _ (completable_name less tokens)
    (λ x0. completable_symbol symbol.EqualsEquals (Piece.type TypeLevel.type ∷ Piece.sign (kind.Word word.In) ∷ Piece.phrase Level.term ∷ []) less x0.1 _
    (λ x1. completable_then (Piece.type TypeLevel.type) (Piece.sign (kind.Word word.In) ∷ Piece.phrase Level.term ∷ []) less x1 (g.type x1) _ (types.completable x1)
    (λ x2. completable_word word.In (Piece.phrase Level.term ∷ []) less x2.1 _
    (λ x3. completable_last (Piece.phrase Level.term) less x3 _ (g.term x3) (terms.completable x3)))))

pub new_completable : (less : ℕ) (g : Inner) → ReadsPiece (Piece.type TypeLevel.type) less g.type → ReadsPiece (Piece.phrase Level.term) less g.term → (at : Place) (tokens : List Token) →
    IsCompletable (SpellsPieces (Piece.name ∷ Piece.sign (kind.Sym symbol.Colon) ∷ Piece.datum ∷ Piece.sign (kind.Sym symbol.ColonEquals) ∷ Piece.phrase Level.term ∷ Piece.sign (kind.Word word.In) ∷ Piece.phrase Level.term ∷ [])) less tokens (new_at g at tokens)
new_completable less g types terms at tokens =
    completable_then Piece.name (Piece.sign (kind.Sym symbol.Colon) ∷ Piece.datum ∷ Piece.sign (kind.Sym symbol.ColonEquals) ∷ Piece.phrase Level.term ∷ Piece.sign (kind.Word word.In) ∷ Piece.phrase Level.term ∷ []) less tokens (name_at tokens) _ (completable_name less tokens)
    (λ x0. completable_symbol symbol.Colon (Piece.datum ∷ Piece.sign (kind.Sym symbol.ColonEquals) ∷ Piece.phrase Level.term ∷ Piece.sign (kind.Word word.In) ∷ Piece.phrase Level.term ∷ []) less x0.1 _
    (λ x1. completable_then Piece.datum (Piece.sign (kind.Sym symbol.ColonEquals) ∷ Piece.phrase Level.term ∷ Piece.sign (kind.Word word.In) ∷ Piece.phrase Level.term ∷ []) less x1 (data_at x1) _ (completable_datum less x1)
    (λ x2. completable_symbol symbol.ColonEquals (Piece.phrase Level.term ∷ Piece.sign (kind.Word word.In) ∷ Piece.phrase Level.term ∷ []) less x2.1 _
    (λ x3. completable_then (Piece.phrase Level.term) (Piece.sign (kind.Word word.In) ∷ Piece.phrase Level.term ∷ []) less x3 (g.term x3) _ (terms.completable x3)
    (λ x4. completable_word word.In (Piece.phrase Level.term ∷ []) less x4.1 _
    (λ x5. completable_last (Piece.phrase Level.term) less x5 _ (g.term x5) (terms.completable x5)))))))

pub escape_completable : (less : ℕ) (g : Inner) → ReadsPiece (Piece.type TypeLevel.type) less g.type → ReadsPiece (Piece.phrase Level.term) less g.term → (at : Place) (tokens : List Token) →
    IsCompletable (SpellsPieces (Piece.name ∷ Piece.sign (kind.Word word.In) ∷ Piece.phrase Level.term ∷ [])) less tokens (escape_at g at tokens)
escape_completable less g types terms at tokens =
    completable_then Piece.name (Piece.sign (kind.Word word.In) ∷ Piece.phrase Level.term ∷ []) less tokens (name_at tokens) _ (completable_name less tokens)
    (λ x0. completable_word word.In (Piece.phrase Level.term ∷ []) less x0.1 _
    (λ x1. completable_last (Piece.phrase Level.term) less x1 _ (g.term x1) (terms.completable x1)))

pub accept_completable : (less : ℕ) (g : Inner) → ReadsPiece (Piece.type TypeLevel.type) less g.type → ReadsPiece (Piece.phrase Level.term) less g.term → (at : Place) (tokens : List Token) →
    IsCompletable (SpellsPieces (Piece.name ∷ Piece.sign (kind.Sym symbol.Colon) ∷ Piece.datum ∷ Piece.sign (kind.Word word.In) ∷ Piece.phrase Level.term ∷ [])) less tokens (accept_at g at tokens)
accept_completable less g types terms at tokens =
    completable_then Piece.name (Piece.sign (kind.Sym symbol.Colon) ∷ Piece.datum ∷ Piece.sign (kind.Word word.In) ∷ Piece.phrase Level.term ∷ []) less tokens (name_at tokens) _ (completable_name less tokens)
    (λ x0. completable_symbol symbol.Colon (Piece.datum ∷ Piece.sign (kind.Word word.In) ∷ Piece.phrase Level.term ∷ []) less x0.1 _
    (λ x1. completable_then Piece.datum (Piece.sign (kind.Word word.In) ∷ Piece.phrase Level.term ∷ []) less x1 (data_at x1) _ (completable_datum less x1)
    (λ x2. completable_word word.In (Piece.phrase Level.term ∷ []) less x2.1 _
    (λ x3. completable_last (Piece.phrase Level.term) less x3 _ (g.term x3) (terms.completable x3)))))

pub cond_completable : (less : ℕ) (g : Inner) → ReadsPiece (Piece.type TypeLevel.type) less g.type → ReadsPiece (Piece.phrase Level.term) less g.term → (at : Place) (tokens : List Token) →
    IsCompletable (SpellsPieces (Piece.phrase Level.term ∷ Piece.sign (kind.Word word.Then) ∷ Piece.phrase Level.term ∷ Piece.sign (kind.Word word.Else) ∷ Piece.phrase Level.term ∷ [])) less tokens (cond_at g at tokens)
cond_completable less g types terms at tokens =
    completable_then (Piece.phrase Level.term) (Piece.sign (kind.Word word.Then) ∷ Piece.phrase Level.term ∷ Piece.sign (kind.Word word.Else) ∷ Piece.phrase Level.term ∷ []) less tokens (g.term tokens) _ (terms.completable tokens)
    (λ x0. completable_word word.Then (Piece.phrase Level.term ∷ Piece.sign (kind.Word word.Else) ∷ Piece.phrase Level.term ∷ []) less x0.1 _
    (λ x1. completable_then (Piece.phrase Level.term) (Piece.sign (kind.Word word.Else) ∷ Piece.phrase Level.term ∷ []) less x1 (g.term x1) _ (terms.completable x1)
    (λ x2. completable_word word.Else (Piece.phrase Level.term ∷ []) less x2.1 _
    (λ x3. completable_last (Piece.phrase Level.term) less x3 _ (g.term x3) (terms.completable x3)))))

pub while_completable : (less : ℕ) (g : Inner) → ReadsPiece (Piece.type TypeLevel.type) less g.type → ReadsPiece (Piece.phrase Level.term) less g.term → (at : Place) (tokens : List Token) →
    IsCompletable (SpellsPieces (Piece.phrase Level.term ∷ Piece.sign (kind.Word word.Do) ∷ Piece.phrase Level.term ∷ [])) less tokens (while_at g at tokens)
while_completable less g types terms at tokens =
    completable_then (Piece.phrase Level.term) (Piece.sign (kind.Word word.Do) ∷ Piece.phrase Level.term ∷ []) less tokens (g.term tokens) _ (terms.completable tokens)
    (λ x0. completable_word word.Do (Piece.phrase Level.term ∷ []) less x0.1 _
    (λ x1. completable_last (Piece.phrase Level.term) less x1 _ (g.term x1) (terms.completable x1)))

pub loop_completable : (less : ℕ) (g : Inner) → ReadsPiece (Piece.type TypeLevel.type) less g.type → ReadsPiece (Piece.phrase Level.term) less g.term → (at : Place) (tokens : List Token) →
    IsCompletable (SpellsPieces (Piece.phrase Level.term ∷ [])) less tokens (loop_at g at tokens)
loop_completable less g types terms at tokens =
    completable_last (Piece.phrase Level.term) less tokens _ (g.term tokens) (terms.completable tokens)
