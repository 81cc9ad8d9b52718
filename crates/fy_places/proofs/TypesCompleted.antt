-- Where reading a type stops, the tokens before can be completed.
use Rattle.std.proofs.Common.{Bool, List, [], arith, false, length, refl, subst, suc, sym, true, zero, ℕ, ◌∷◌, ◌≡◌, ◌≤◌}
use Rattle.std.specs.Prelude.{Ok, Option, Some, if◌then◌else◌}
use Rattle.fy_base.specs.declared.data.Place.{Place}
use Rattle.fy_types.specs.declared.types.Atom.{Atom}
use Rattle.fy_types.specs.declared.types.Atom.TheVariants as atom
use Rattle.fy_lexer.specs.declared.token.Keyword.TheVariants as word
use Rattle.fy_lexer.specs.declared.token.Symbol.{Symbol}
use Rattle.fy_lexer.specs.declared.token.Symbol.TheVariants as symbol
use Rattle.fy_lexer.specs.declared.token.Token.{Token}
use Rattle.fy_lexer.specs.declared.token.TokenKind.{TokenKind}
use Rattle.fy_lexer.specs.declared.token.TokenKind.TheVariants as kind
use Rattle.fy_syntax.specs.Reader.{Read, begins_with, behind, fields_at, fields_step, is_symbol_kind, mapped, nested, read_type, type_by_kind, type_field, type_group, type_inner, type_inter, type_primary, type_type, types_at, ◌>>=◌}
use Rattle.fy_syntax.specs.Signs.{TypeLevel, atom_word, front, ident_at, symbol_at, token, word_at}
use Rattle.fy_syntax.specs.Spells.{Fields, MoreTypes, SpellsType, field_of, meet_of}
use Rattle.fy_syntax.specs.Trees.{TypeTree, TypeTrees}
use Rattle.fy_syntax.proofs.SignLemmas.{kind_is_symbol}
use Rattle.fy_syntax.proofs.TokenLemmas.{begins_is}
use Rattle.fy_places.proofs.Completing.{CompletesThrough, IsCompletable, ReadsPiece, SameBefore, SameThrough, completable_after, completable_as, completable_behind, completable_end, completable_if, completable_last, completable_mapped, completable_nested, completable_then, piece_completes}
use Rattle.fy_places.proofs.Fresh.{fresh_piece, fresh_pieces}
use Rattle.fy_places.proofs.Pieces.{Piece, SpellsPiece, SpellsPieces}
use Rattle.fy_places.proofs.SignsCompleted.{completable_sign, completable_symbol}
use Rattle.fy_places.proofs.TypesSpelled.{arrow_tail_spelled, field_spelled, group_spelled, inter_spelled, more_types_spelled, type_spelled}

pub record TypeInnerReads (depth : ℕ) (i : Option (List Token → Read TypeTree)) : Type 0 where
  pub inside : (g : List Token → Read TypeTree) → i ≡ Some g → (less : ℕ) × (suc less ≤ depth) × ReadsPiece (Piece.type TypeLevel.type) less g

-- readers
pub types_completable : (s : Symbol) (level : TypeLevel) (depth : ℕ) (item : List Token → Read TypeTree) → ReadsPiece (Piece.type level) depth item → (g : ℕ) (tokens : List Token) → IsCompletable (SpellsPiece (Piece.types s level)) depth tokens (types_at g s item tokens)
types_completable s level depth item i zero tokens = λ later. (later, SameBefore.here, SpellsPiece.more_types MoreTypes.no_types (omega arith))
types_completable s level depth item i (suc g) tokens =
    completable_if (SpellsPiece (Piece.types s level)) depth tokens (begins_with s tokens) _ (Ok (TypeTrees.no_types, tokens))
    (λ e. subst (λ whole. IsCompletable (SpellsPiece (Piece.types s level)) depth whole (item (behind tokens) >>= λ x. mapped (TypeTrees.and_type x.0) (types_at g s item x.1))) (sym (begins_is s tokens e))
    (completable_as (SpellsPieces (Piece.sign (kind.Sym s) ∷ Piece.type level ∷ Piece.types s level ∷ [])) (SpellsPiece (Piece.types s level)) depth depth _ _ (more_types_spelled s level depth) (more_types_spelled s level (suc depth))
    (completable_sign (kind.Sym s) (Piece.type level ∷ Piece.types s level ∷ []) depth (front tokens) (behind tokens) _
    (completable_then (Piece.type level) (Piece.types s level ∷ []) depth (behind tokens) (item (behind tokens)) (λ x. mapped (TypeTrees.and_type x.0) (types_at g s item x.1)) (i.completable (behind tokens))
    (λ x. completable_last (Piece.types s level) depth x.1 (TypeTrees.and_type x.0) (types_at g s item x.1) (types_completable s level depth item i g x.1))))))
    (λ e later. (later, SameBefore.here, SpellsPiece.more_types MoreTypes.no_types (omega arith)))

type_group_completable : (depth : ℕ) (i : Option (List Token → Read TypeTree)) → TypeInnerReads depth i → (at : Place) (tokens : List Token) →
    IsCompletable (SpellsPiece (Piece.type TypeLevel.primary)) depth (symbol_at symbol.OpenParen at ∷ tokens) (nested i (symbol_at symbol.OpenParen at ∷ tokens) (λ type. type_group type (symbol_at symbol.OpenParen at ∷ tokens)))
type_group_completable depth i h at tokens =
    completable_nested (SpellsPiece (Piece.type TypeLevel.primary)) depth (symbol_at symbol.OpenParen at ∷ tokens) i (symbol_at symbol.OpenParen at ∷ tokens) _
    (piece_completes (Piece.type TypeLevel.primary) depth (symbol_at symbol.OpenParen at ∷ tokens))
    (λ later. let (whole, s) = fresh_pieces (Piece.type TypeLevel.type ∷ Piece.sign (kind.Sym symbol.CloseParen) ∷ []) depth later in (whole, symbol_at symbol.OpenParen at ∷ whole, SameThrough.through (SameBefore.next SameBefore.here), group_spelled (suc depth) depth at (omega arith) whole later s))
    (λ g e. let (n, le, inside) = h.inside g e in
    completable_behind (SpellsPieces (Piece.type TypeLevel.type ∷ Piece.sign (kind.Sym symbol.CloseParen) ∷ [])) (SpellsPiece (Piece.type TypeLevel.primary)) n depth (symbol_at symbol.OpenParen at) tokens _
    (group_spelled depth n at le) (group_spelled (suc depth) (suc n) at (omega arith))
    (completable_then (Piece.type TypeLevel.type) (Piece.sign (kind.Sym symbol.CloseParen) ∷ []) n tokens (g tokens) _ (inside.completable tokens)
    (λ x. completable_symbol symbol.CloseParen [] n x.1 _ (λ m. completable_end n (TypeTree.group x.0 at) m))))

type_primary_reads : (depth : ℕ) (i : Option (List Token → Read TypeTree)) → TypeInnerReads depth i → ReadsPiece (Piece.type TypeLevel.primary) depth (type_primary i)
type_primary_reads depth i h = record { completable = go }
  where
    atomic : (x : Atom) (at : Place) (tokens : List Token) → IsCompletable (SpellsPiece (Piece.type TypeLevel.primary)) depth (word_at (atom_word x) at ∷ tokens) (Ok (TypeTree.atom x at, tokens))
    atomic x at tokens = λ later. (word_at (atom_word x) at ∷ later, SameBefore.next SameBefore.here, SpellsPiece.a_type (SpellsType.atom {a = x}) (omega arith))

    by_kind : (at : Place) (tokens : List Token) (k : TokenKind) → IsCompletable (SpellsPiece (Piece.type TypeLevel.primary)) depth (token k at ∷ tokens) (type_by_kind k i (token k at ∷ tokens))
    by_kind at tokens (kind.Ident n) = λ later. (ident_at n at ∷ later, SameBefore.next SameBefore.here, SpellsPiece.a_type SpellsType.ident (omega arith))
    by_kind at tokens (kind.Word word.Ns) = λ later. (word_at word.Ns at ∷ later, SameBefore.next SameBefore.here, SpellsPiece.a_type SpellsType.ns (omega arith))
    by_kind at tokens (kind.Word word.Int) = atomic atom.Int at tokens
    by_kind at tokens (kind.Word word.Bool) = atomic atom.Bool at tokens
    by_kind at tokens (kind.Word word.Char) = atomic atom.Char at tokens
    by_kind at tokens (kind.Word word.Comm) = atomic atom.Comm at tokens
    by_kind at tokens (kind.Word word.Compl) = atomic atom.Compl at tokens
    by_kind at tokens (kind.Word word.IntAcc) = atomic atom.IntAcc at tokens
    by_kind at tokens (kind.Word word.BoolAcc) = atomic atom.BoolAcc at tokens
    by_kind at tokens (kind.Word word.CharAcc) = atomic atom.CharAcc at tokens
    by_kind at tokens (kind.Sym symbol.OpenParen) = type_group_completable depth i h at tokens
    by_kind at tokens k = piece_completes (Piece.type TypeLevel.primary) depth (token k at ∷ tokens)

    go : (tokens : List Token) → IsCompletable (SpellsPiece (Piece.type TypeLevel.primary)) depth tokens (type_primary i tokens)
    go [] = piece_completes (Piece.type TypeLevel.primary) depth []
    go (t ∷ tokens) = by_kind t.place tokens t.kind

-- names before colons
abbrev FieldsRead : ℕ → List Token → List ℕ × List Token → Type 0
FieldsRead depth tokens x = (later : List Token) → (whole : List Token) × SameBefore x.1 later tokens whole × SpellsPiece Piece.fields depth whole later

fields_none : (depth : ℕ) (tokens : List Token) → FieldsRead depth tokens ([], tokens)
fields_none depth tokens = λ later. (later, SameBefore.here, SpellsPiece.some_fields Fields.no_fields)

one_field : (depth name : ℕ) (at c : Place) (whole rest : List Token) → SpellsPiece Piece.fields depth whole rest → SpellsPiece Piece.fields depth (ident_at name at ∷ symbol_at symbol.Colon c ∷ whole) rest
one_field depth name at c whole rest (SpellsPiece.some_fields x) = SpellsPiece.some_fields (Fields.and_field x)

fields_step_reads : (depth : ℕ) (at c : Place) (tokens : List Token) (more : List ℕ × List Token) (k l : TokenKind) → FieldsRead depth tokens more → (b : Bool) → is_symbol_kind symbol.Colon l ≡ b →
    FieldsRead depth (token k at ∷ token l c ∷ tokens) (fields_step k b more (token k at ∷ token l c ∷ tokens))
fields_step_reads depth at c tokens more (kind.Ident n) l m true e = λ later.
    let (whole, a, s) = m later in
    (ident_at n at ∷ symbol_at symbol.Colon c ∷ whole, subst (λ k. SameBefore more.1 later (ident_at n at ∷ token k c ∷ tokens) (ident_at n at ∷ symbol_at symbol.Colon c ∷ whole)) (sym (kind_is_symbol symbol.Colon l e)) (SameBefore.next (SameBefore.next a)), one_field depth n at c whole later s)
fields_step_reads depth at c tokens more (kind.Ident n) l m false e = fields_none depth _
fields_step_reads depth at c tokens more _ l m b e = fields_none depth _

fields_read : (depth : ℕ) (tokens : List Token) → FieldsRead depth tokens (fields_at tokens)
fields_read depth [] = fields_none depth []
fields_read depth (t ∷ []) = fields_none depth (t ∷ [])
fields_read depth (t ∷ u ∷ tokens) = fields_step_reads depth t.place u.place tokens (fields_at tokens) t.kind u.kind (fields_read depth tokens) (is_symbol_kind symbol.Colon u.kind) refl

pub type_field_reads : (depth : ℕ) (i : Option (List Token → Read TypeTree)) → TypeInnerReads depth i → ReadsPiece (Piece.type TypeLevel.field) depth (type_field i)
type_field_reads depth i h = record {
  completable = λ tokens.
      completable_as (SpellsPieces (Piece.fields ∷ Piece.type TypeLevel.primary ∷ [])) (SpellsPiece (Piece.type TypeLevel.field)) depth depth tokens _ (field_spelled depth) (field_spelled (suc depth))
      (completable_after Piece.fields (Piece.type TypeLevel.primary ∷ []) depth tokens (fields_at tokens).1 _ (fields_read depth tokens)
      (completable_last (Piece.type TypeLevel.primary) depth (fields_at tokens).1 (λ a. field_of (fields_at tokens).0 a (front tokens)) (type_primary i (fields_at tokens).1) ((type_primary_reads depth i h).completable (fields_at tokens).1)));
}

type_inter_reads : (depth : ℕ) (i : Option (List Token → Read TypeTree)) → TypeInnerReads depth i → ReadsPiece (Piece.type TypeLevel.inter) depth (type_inter i)
type_inter_reads depth i h = record {
  completable = λ tokens.
      completable_as (SpellsPieces (Piece.type TypeLevel.field ∷ Piece.types symbol.Ampersand TypeLevel.field ∷ [])) (SpellsPiece (Piece.type TypeLevel.inter)) depth depth tokens _ (inter_spelled depth) (inter_spelled (suc depth))
      (completable_then (Piece.type TypeLevel.field) (Piece.types symbol.Ampersand TypeLevel.field ∷ []) depth tokens (type_field i tokens) _ ((type_field_reads depth i h).completable tokens)
      (λ x. completable_last (Piece.types symbol.Ampersand TypeLevel.field) depth x.1 (λ more. meet_of x.0 more (front tokens)) (types_at (length x.1) symbol.Ampersand (type_field i) x.1)
      (types_completable symbol.Ampersand TypeLevel.field depth (type_field i) (type_field_reads depth i h) (length x.1) x.1)));
}

-- what may stand behind an `inter`
arrow_tail_completable : (depth : ℕ) (i : Option (List Token → Read TypeTree)) → TypeInnerReads depth i → (tokens : List Token) (x : TypeTree × List Token) →
    IsCompletable (SpellsPiece Piece.arrow_tail) depth x.1 (if begins_with symbol.Arrow x.1 then nested i x.1 (λ type. mapped (λ b. TypeTree.arrow x.0 b (front tokens)) (type (behind x.1))) else Ok x)
arrow_tail_completable depth i h tokens x =
    completable_if (SpellsPiece Piece.arrow_tail) depth x.1 (begins_with symbol.Arrow x.1) _ (Ok x)
    (λ e. completable_nested (SpellsPiece Piece.arrow_tail) depth x.1 i x.1 _ (piece_completes Piece.arrow_tail depth x.1)
    (subst (λ whole. CompletesThrough (SpellsPiece Piece.arrow_tail) (suc depth) whole whole) (sym (begins_is symbol.Arrow x.1 e))
    (λ later. let (whole, s) = fresh_piece (Piece.type TypeLevel.type) depth later in (whole, symbol_at symbol.Arrow (front x.1) ∷ whole, SameThrough.through (SameBefore.next SameBefore.here), arrow_tail_spelled (suc depth) depth (front x.1) (omega arith) whole later s)))
    (λ g f. let (n, le, inside) = h.inside g f in
    completable_mapped (SpellsPiece Piece.arrow_tail) depth x.1 (λ b. TypeTree.arrow x.0 b (front tokens)) (g (behind x.1))
    (subst (λ whole. IsCompletable (SpellsPiece Piece.arrow_tail) depth whole (g (behind x.1))) (sym (begins_is symbol.Arrow x.1 e))
    (completable_behind (SpellsPiece (Piece.type TypeLevel.type)) (SpellsPiece Piece.arrow_tail) n depth (symbol_at symbol.Arrow (front x.1)) (behind x.1) (g (behind x.1)) (arrow_tail_spelled depth n (front x.1) le) (arrow_tail_spelled (suc depth) (suc n) (front x.1) (omega arith)) (inside.completable (behind x.1))))))
    (λ e later. (later, SameBefore.here, SpellsPiece.no_arrow))

type_type_reads : (depth : ℕ) (i : Option (List Token → Read TypeTree)) → TypeInnerReads depth i → ReadsPiece (Piece.type TypeLevel.type) depth (type_type i)
type_type_reads depth i h = record {
  completable = λ tokens.
      completable_as (SpellsPieces (Piece.type TypeLevel.inter ∷ Piece.arrow_tail ∷ [])) (SpellsPiece (Piece.type TypeLevel.type)) depth depth tokens _ (type_spelled depth) (type_spelled (suc depth))
      (completable_then (Piece.type TypeLevel.inter) (Piece.arrow_tail ∷ []) depth tokens (type_inter i tokens) _ ((type_inter_reads depth i h).completable tokens)
      (λ x. completable_as (SpellsPiece Piece.arrow_tail) (SpellsPieces (Piece.arrow_tail ∷ [])) depth depth x.1 _ (λ whole rest s. SpellsPieces.also s SpellsPieces.nothing) (λ whole rest s. SpellsPieces.also s SpellsPieces.nothing) (arrow_tail_completable depth i h tokens x)));
}

type_inner_reads : (depth : ℕ) → TypeInnerReads depth (type_inner depth)
unfolding type_inner
type_inner_reads zero = record { inside = λ g e. absurd cc }
type_inner_reads (suc depth) = record {
  inside = λ g e. (depth, omega arith, subst (ReadsPiece (Piece.type TypeLevel.type) depth) (let s : type_type (type_inner depth) ≡ g = cc in s) (type_type_reads depth (type_inner depth) (type_inner_reads depth)));
}

pub read_type_reads : (depth : ℕ) → ReadsPiece (Piece.type TypeLevel.type) depth (read_type depth)
read_type_reads depth = type_type_reads depth (type_inner depth) (type_inner_reads depth)
