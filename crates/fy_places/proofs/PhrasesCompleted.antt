-- Where reading a phrase stops, the tokens before can be completed.
use Rattle.std.proofs.Common.{List, [], arith, false, length, refl, subst, suc, sym, true, zero, ℕ, ◌∷◌, ◌≡◌}
use Rattle.std.specs.Prelude.{Ok, Option, if◌then◌else◌}
use Rattle.fy_base.specs.declared.data.Place.{Place}
use Rattle.fy_lexer.specs.declared.token.Keyword.TheVariants as word
use Rattle.fy_lexer.specs.declared.token.Symbol.TheVariants as symbol
use Rattle.fy_lexer.specs.declared.token.Token.{Token}
use Rattle.fy_lexer.specs.declared.token.TokenKind.{TokenKind}
use Rattle.fy_lexer.specs.declared.token.TokenKind.TheVariants as kind
use Rattle.fy_syntax.specs.Reader.{Inner, Read, apply_at, arguments_at, assign_at, begins_with, behind, both_at, dots_at, either_at, ident_term, inner, link_step, links_at, mapped, nested, operator_at, prefixed_at, prefixes_at, primary_at, primary_by_kind, product_at, read_phrase, read_term, read_type, relation_at, select_at, sum_at, term_at, term_by_kind}
use Rattle.fy_syntax.specs.Signs.{Level, TypeLevel, front, ident_at, operator_sign, symbol_at, token, word_at}
use Rattle.fy_syntax.specs.Spells.{Dots, MoreArguments, MoreLinks, Prefixes, SpellsBefore, apply_of, chain_of, prefixed_of, select_of}
use Rattle.fy_syntax.specs.Trees.{Links, Tree}
use Rattle.fy_syntax.proofs.TokenLemmas.{begins_is, operator_is}
use Rattle.fy_places.proofs.Completing.{CompletesThrough, IsCompletable, ReadsPiece, SameBefore, SameThrough, completable_after, completable_as, completable_behind, completable_if, completable_last, completable_mapped, completable_nested, completable_then, piece_completes}
use Rattle.fy_places.proofs.FormsCompleted.{InnerReads, accept_completable, cond_completable, escape_completable, group_completable, lam_completable, let_completable, let_type_completable, letrec_completable, loop_completable, new_completable, seq_completable, while_completable}
use Rattle.fy_places.proofs.FormsSpelled.{accept_spelled, cond_spelled, escape_spelled, lam_spelled, let_spelled, let_type_spelled, letrec_spelled, loop_spelled, new_spelled, while_spelled}
use Rattle.fy_places.proofs.Fresh.{fresh_piece}
use Rattle.fy_places.proofs.ListsCompleted.{arguments_completable, completable_link, dots_completable, links_completable, phrase_reads, prefixes_read}
use Rattle.fy_places.proofs.PhrasesSpelled.{apply_spelled, assign_spelled, assign_tail_spelled, both_spelled, either_spelled, field_spelled, group_spelled, prefixed_spelled, product_spelled, relation_spelled, relation_tail_spelled, select_spelled, seq_spelled, sum_spelled}
use Rattle.fy_places.proofs.Pieces.{Piece, SpellsPiece, SpellsPieces}
use Rattle.fy_places.proofs.SignsCompleted.{completable_behind_two, completable_opened}
use Rattle.fy_places.proofs.TypesCompleted.{read_type_reads}

primary_reads : (depth : ℕ) (i : Option Inner) → InnerReads depth i → ReadsPiece (Piece.phrase Level.primary) depth (primary_at i)
primary_reads depth i h = record { completable = go }
  where
    by_kind : (at : Place) (tokens : List Token) (k : TokenKind) → IsCompletable (SpellsPiece (Piece.phrase Level.primary)) depth (token k at ∷ tokens) (primary_by_kind k i (token k at ∷ tokens))
    by_kind at tokens (kind.Ident n) = λ later. (ident_at n at ∷ later, SameBefore.next SameBefore.here, SpellsPiece.a_phrase SpellsBefore.ident (omega arith))
    by_kind at tokens (kind.Number v) = λ later. (token (kind.Number v) at ∷ later, SameBefore.next SameBefore.here, SpellsPiece.a_phrase SpellsBefore.number (omega arith))
    by_kind at tokens (kind.Letter c) = λ later. (token (kind.Letter c) at ∷ later, SameBefore.next SameBefore.here, SpellsPiece.a_phrase SpellsBefore.letter (omega arith))
    by_kind at tokens (kind.Str bytes) = λ later. (token (kind.Str bytes) at ∷ later, SameBefore.next SameBefore.here, SpellsPiece.a_phrase SpellsBefore.string (omega arith))
    by_kind at tokens (kind.Word word.True) = λ later. (word_at word.True at ∷ later, SameBefore.next SameBefore.here, SpellsPiece.a_phrase (SpellsBefore.truth {b = true}) (omega arith))
    by_kind at tokens (kind.Word word.False) = λ later. (word_at word.False at ∷ later, SameBefore.next SameBefore.here, SpellsPiece.a_phrase (SpellsBefore.truth {b = false}) (omega arith))
    by_kind at tokens (kind.Word word.Skip) = λ later. (word_at word.Skip at ∷ later, SameBefore.next SameBefore.here, SpellsPiece.a_phrase SpellsBefore.skip (omega arith))
    by_kind at tokens (kind.Sym symbol.OpenParen) =
        completable_opened (Piece.phrase Level.primary) depth (symbol_at symbol.OpenParen at) tokens (Piece.phrase Level.phrase ∷ Piece.sign (kind.Sym symbol.CloseParen) ∷ []) i _ (group_spelled at)
        (λ g f. let (less, le, types, terms) = h.inside g f in (less, le, group_completable less g types terms at tokens))
    by_kind at tokens (kind.Word word.Seq) =
        completable_opened (Piece.phrase Level.primary) depth (word_at word.Seq at) tokens (Piece.sign (kind.Sym symbol.OpenParen) ∷ Piece.phrase Level.term ∷ Piece.phrases symbol.Comma Level.term ∷ Piece.sign (kind.Sym symbol.CloseParen) ∷ []) i _ (seq_spelled at)
        (λ g f. let (less, le, types, terms) = h.inside g f in (less, le, seq_completable less g types terms at tokens))
    by_kind at tokens k = piece_completes (Piece.phrase Level.primary) depth (token k at ∷ tokens)

    go : (tokens : List Token) → IsCompletable (SpellsPiece (Piece.phrase Level.primary)) depth tokens (primary_at i tokens)
    go [] = piece_completes (Piece.phrase Level.primary) depth []
    go (t ∷ tokens) = by_kind t.place tokens t.kind

select_reads : (depth : ℕ) (i : Option Inner) → InnerReads depth i → ReadsPiece (Piece.phrase Level.select) depth (select_at i)
select_reads depth i h = record {
  completable = λ tokens.
      completable_as (SpellsPieces (Piece.phrase Level.primary ∷ Piece.dots ∷ [])) (SpellsPiece (Piece.phrase Level.select)) depth depth tokens _ (select_spelled depth) (select_spelled (suc depth))
      (completable_then (Piece.phrase Level.primary) (Piece.dots ∷ []) depth tokens (primary_at i tokens) _ ((primary_reads depth i h).completable tokens)
      (λ x. completable_last Piece.dots depth x.1 (λ names. select_of x.0 names (front tokens)) (dots_at (length x.1) x.1) (dots_completable depth (length x.1) x.1)));
}

apply_reads : (depth : ℕ) (i : Option Inner) → InnerReads depth i → ReadsPiece (Piece.phrase Level.apply) depth (apply_at i)
apply_reads depth i h = record {
  completable = λ tokens.
      completable_as (SpellsPieces (Piece.phrase Level.select ∷ Piece.arguments ∷ [])) (SpellsPiece (Piece.phrase Level.apply)) depth depth tokens _ (apply_spelled depth) (apply_spelled (suc depth))
      (completable_then (Piece.phrase Level.select) (Piece.arguments ∷ []) depth tokens (select_at i tokens) _ ((select_reads depth i h).completable tokens)
      (λ x. completable_last Piece.arguments depth x.1 (λ more. apply_of x.0 more (front tokens)) (arguments_at (length x.1) (select_at i) x.1) (arguments_completable depth (select_at i) (select_reads depth i h) (length x.1) x.1)));
}

prefixed_reads : (depth : ℕ) (i : Option Inner) → InnerReads depth i → ReadsPiece (Piece.phrase Level.prefixed) depth (prefixed_at i)
prefixed_reads depth i h = record {
  completable = λ tokens.
      completable_as (SpellsPieces (Piece.prefixes ∷ Piece.phrase Level.apply ∷ [])) (SpellsPiece (Piece.phrase Level.prefixed)) depth depth tokens _ (prefixed_spelled depth) (prefixed_spelled (suc depth))
      (completable_after Piece.prefixes (Piece.phrase Level.apply ∷ []) depth tokens (prefixes_at tokens).1 _ (prefixes_read depth tokens)
      (completable_last (Piece.phrase Level.apply) depth (prefixes_at tokens).1 (λ p. prefixed_of (prefixes_at tokens).0 p (front tokens)) (apply_at i (prefixes_at tokens).1) ((apply_reads depth i h).completable (prefixes_at tokens).1)));
}

product_reads : (depth : ℕ) (i : Option Inner) → InnerReads depth i → ReadsPiece (Piece.phrase Level.product) depth (product_at i)
product_reads depth i h = record {
  completable = λ tokens.
      completable_as (SpellsPieces (Piece.phrase Level.prefixed ∷ Piece.links Level.product Level.prefixed ∷ [])) (SpellsPiece (Piece.phrase Level.product)) depth depth tokens _ (product_spelled depth) (product_spelled (suc depth))
      (completable_then (Piece.phrase Level.prefixed) (Piece.links Level.product Level.prefixed ∷ []) depth tokens (prefixed_at i tokens) _ ((prefixed_reads depth i h).completable tokens)
      (λ x. completable_last (Piece.links Level.product Level.prefixed) depth x.1 (λ more. chain_of x.0 more (front tokens)) (links_at (length x.1) Level.product (prefixed_at i) x.1)
      (links_completable Level.product Level.prefixed depth (prefixed_at i) refl (prefixed_reads depth i h) (length x.1) x.1)));
}

sum_reads : (depth : ℕ) (i : Option Inner) → InnerReads depth i → ReadsPiece (Piece.phrase Level.sum) depth (sum_at i)
sum_reads depth i h = record {
  completable = λ tokens.
      completable_as (SpellsPieces (Piece.phrase Level.product ∷ Piece.links Level.sum Level.product ∷ [])) (SpellsPiece (Piece.phrase Level.sum)) depth depth tokens _ (sum_spelled depth) (sum_spelled (suc depth))
      (completable_then (Piece.phrase Level.product) (Piece.links Level.sum Level.product ∷ []) depth tokens (product_at i tokens) _ ((product_reads depth i h).completable tokens)
      (λ x. completable_last (Piece.links Level.sum Level.product) depth x.1 (λ more. chain_of x.0 more (front tokens)) (links_at (length x.1) Level.sum (product_at i) x.1)
      (links_completable Level.sum Level.product depth (product_at i) refl (product_reads depth i h) (length x.1) x.1)));
}

relation_tail_completable : (depth : ℕ) (item : List Token → Read Tree) → ReadsPiece (Piece.phrase Level.sum) depth item → (tokens : List Token) (x : Tree × List Token) →
    IsCompletable (SpellsPiece Piece.relation_tail) depth x.1 (link_step (operator_at Level.relation x.1) (λ op. mapped (λ u. Tree.chain x.0 (Links.and_link op (front x.1) u Links.no_links) (front tokens)) (item (behind x.1))) (Ok x))
relation_tail_completable depth item i tokens x =
    completable_link (SpellsPiece Piece.relation_tail) depth x.1 (operator_at Level.relation x.1) _ (Ok x)
    (λ op e. let (f, is) = operator_is Level.relation op x.1 e in
    completable_mapped (SpellsPiece Piece.relation_tail) depth x.1 (λ u. Tree.chain x.0 (Links.and_link op (front x.1) u Links.no_links) (front tokens)) (item (behind x.1))
    (subst (λ whole. IsCompletable (SpellsPiece Piece.relation_tail) depth whole (item (behind x.1))) (sym is)
    (completable_behind (SpellsPiece (Piece.phrase Level.sum)) (SpellsPiece Piece.relation_tail) depth depth (token (operator_sign op) (front x.1)) (behind x.1) (item (behind x.1)) (relation_tail_spelled op (front x.1) depth f) (relation_tail_spelled op (front x.1) (suc depth) f) (i.completable (behind x.1)))))
    (λ later. (later, SameBefore.here, SpellsPiece.no_relation))

relation_reads : (depth : ℕ) (i : Option Inner) → InnerReads depth i → ReadsPiece (Piece.phrase Level.relation) depth (relation_at i)
relation_reads depth i h = record {
  completable = λ tokens.
      completable_as (SpellsPieces (Piece.phrase Level.sum ∷ Piece.relation_tail ∷ [])) (SpellsPiece (Piece.phrase Level.relation)) depth depth tokens _ (relation_spelled depth) (relation_spelled (suc depth))
      (completable_then (Piece.phrase Level.sum) (Piece.relation_tail ∷ []) depth tokens (sum_at i tokens) _ ((sum_reads depth i h).completable tokens)
      (λ x. completable_as (SpellsPiece Piece.relation_tail) (SpellsPieces (Piece.relation_tail ∷ [])) depth depth x.1 _ (λ whole rest s. SpellsPieces.also s SpellsPieces.nothing) (λ whole rest s. SpellsPieces.also s SpellsPieces.nothing) (relation_tail_completable depth (sum_at i) (sum_reads depth i h) tokens x)));
}

both_reads : (depth : ℕ) (i : Option Inner) → InnerReads depth i → ReadsPiece (Piece.phrase Level.both) depth (both_at i)
both_reads depth i h = record {
  completable = λ tokens.
      completable_as (SpellsPieces (Piece.phrase Level.relation ∷ Piece.links Level.both Level.relation ∷ [])) (SpellsPiece (Piece.phrase Level.both)) depth depth tokens _ (both_spelled depth) (both_spelled (suc depth))
      (completable_then (Piece.phrase Level.relation) (Piece.links Level.both Level.relation ∷ []) depth tokens (relation_at i tokens) _ ((relation_reads depth i h).completable tokens)
      (λ x. completable_last (Piece.links Level.both Level.relation) depth x.1 (λ more. chain_of x.0 more (front tokens)) (links_at (length x.1) Level.both (relation_at i) x.1)
      (links_completable Level.both Level.relation depth (relation_at i) refl (relation_reads depth i h) (length x.1) x.1)));
}

either_reads : (depth : ℕ) (i : Option Inner) → InnerReads depth i → ReadsPiece (Piece.phrase Level.either) depth (either_at i)
either_reads depth i h = record {
  completable = λ tokens.
      completable_as (SpellsPieces (Piece.phrase Level.both ∷ Piece.links Level.either Level.both ∷ [])) (SpellsPiece (Piece.phrase Level.either)) depth depth tokens _ (either_spelled depth) (either_spelled (suc depth))
      (completable_then (Piece.phrase Level.both) (Piece.links Level.either Level.both ∷ []) depth tokens (both_at i tokens) _ ((both_reads depth i h).completable tokens)
      (λ x. completable_last (Piece.links Level.either Level.both) depth x.1 (λ more. chain_of x.0 more (front tokens)) (links_at (length x.1) Level.either (both_at i) x.1)
      (links_completable Level.either Level.both depth (both_at i) refl (both_reads depth i h) (length x.1) x.1)));
}

assign_tail_completable : (depth : ℕ) (i : Option Inner) → InnerReads depth i → (tokens : List Token) (x : Tree × List Token) →
    IsCompletable (SpellsPiece Piece.assign_tail) depth x.1 (if begins_with symbol.ColonEquals x.1 then nested i x.1 (λ inner. mapped (λ u. Tree.assign x.0 (front x.1) u (front tokens)) (inner.term (behind x.1))) else Ok x)
assign_tail_completable depth i h tokens x =
    completable_if (SpellsPiece Piece.assign_tail) depth x.1 (begins_with symbol.ColonEquals x.1) _ (Ok x)
    (λ e. completable_nested (SpellsPiece Piece.assign_tail) depth x.1 i x.1 _ (piece_completes Piece.assign_tail depth x.1)
    (subst (λ whole. CompletesThrough (SpellsPiece Piece.assign_tail) (suc depth) whole whole) (sym (begins_is symbol.ColonEquals x.1 e))
    (λ later. let (whole, s) = fresh_piece (Piece.phrase Level.term) depth later in (whole, symbol_at symbol.ColonEquals (front x.1) ∷ whole, SameThrough.through (SameBefore.next SameBefore.here), assign_tail_spelled (front x.1) (suc depth) depth (omega arith) whole later s)))
    (λ g f. let (n, le, types, terms) = h.inside g f in
    completable_mapped (SpellsPiece Piece.assign_tail) depth x.1 (λ u. Tree.assign x.0 (front x.1) u (front tokens)) (g.term (behind x.1))
    (subst (λ whole. IsCompletable (SpellsPiece Piece.assign_tail) depth whole (g.term (behind x.1))) (sym (begins_is symbol.ColonEquals x.1 e))
    (completable_behind (SpellsPiece (Piece.phrase Level.term)) (SpellsPiece Piece.assign_tail) n depth (symbol_at symbol.ColonEquals (front x.1)) (behind x.1) (g.term (behind x.1)) (assign_tail_spelled (front x.1) depth n le) (assign_tail_spelled (front x.1) (suc depth) (suc n) (omega arith)) (terms.completable (behind x.1))))))
    (λ e later. (later, SameBefore.here, SpellsPiece.no_assign))

assign_reads : (depth : ℕ) (i : Option Inner) → InnerReads depth i → ReadsPiece (Piece.phrase Level.term) depth (assign_at i)
assign_reads depth i h = record {
  completable = λ tokens.
      completable_as (SpellsPieces (Piece.phrase Level.either ∷ Piece.assign_tail ∷ [])) (SpellsPiece (Piece.phrase Level.term)) depth depth tokens _ (assign_spelled depth) (assign_spelled (suc depth))
      (completable_then (Piece.phrase Level.either) (Piece.assign_tail ∷ []) depth tokens (either_at i tokens) _ ((either_reads depth i h).completable tokens)
      (λ x. completable_as (SpellsPiece Piece.assign_tail) (SpellsPieces (Piece.assign_tail ∷ [])) depth depth x.1 _ (λ whole rest s. SpellsPieces.also s SpellsPieces.nothing) (λ whole rest s. SpellsPieces.also s SpellsPieces.nothing) (assign_tail_completable depth i h tokens x)));
}

ident_says : (name : ℕ) (at : Place) (depth : ℕ) (later : List Token) → SpellsPiece (Piece.phrase Level.term) depth (ident_at name at ∷ later) later
ident_says name at depth later =
    SpellsPiece.a_phrase {t = Tree.ident name at} (SpellsBefore.no_assign (SpellsBefore.either (SpellsBefore.both (SpellsBefore.no_relation (SpellsBefore.sum (SpellsBefore.product (SpellsBefore.prefixed Prefixes.no_prefixes
    (SpellsBefore.apply (SpellsBefore.select SpellsBefore.ident Dots.no_dots) MoreArguments.no_arguments)) MoreLinks.no_links) MoreLinks.no_links)) MoreLinks.no_links) MoreLinks.no_links)) (omega arith)

-- a name, and `==` behind it or not
field_through : (name : ℕ) (at : Place) (depth : ℕ) (tokens : List Token) → begins_with symbol.EqualsEquals tokens ≡ true → CompletesThrough (SpellsPiece (Piece.phrase Level.term)) (suc depth) tokens (ident_at name at ∷ tokens)
field_through name at depth tokens e =
    subst (λ whole. CompletesThrough (SpellsPiece (Piece.phrase Level.term)) (suc depth) whole (ident_at name at ∷ whole)) (sym (begins_is symbol.EqualsEquals tokens e))
    (λ later. let (whole, s) = fresh_piece (Piece.phrase Level.term) depth later in
    (whole, ident_at name at ∷ symbol_at symbol.EqualsEquals (front tokens) ∷ whole, SameThrough.through (SameBefore.next (SameBefore.next SameBefore.here)), field_spelled name at (front tokens) (suc depth) depth (omega arith) whole later s))

ident_completable : (depth : ℕ) (i : Option Inner) → InnerReads depth i → (name : ℕ) (at : Place) (tokens : List Token) → IsCompletable (SpellsPiece (Piece.phrase Level.term)) depth (ident_at name at ∷ tokens) (ident_term name i (ident_at name at ∷ tokens))
ident_completable depth i h name at tokens =
    completable_if (SpellsPiece (Piece.phrase Level.term)) depth (ident_at name at ∷ tokens) (begins_with symbol.EqualsEquals tokens) _ (assign_at i (ident_at name at ∷ tokens))
    (λ e. completable_nested (SpellsPiece (Piece.phrase Level.term)) depth (ident_at name at ∷ tokens) i tokens _ (λ later. (later, ident_at name at ∷ later, SameBefore.next SameBefore.here, ident_says name at depth later)) (field_through name at depth tokens e)
    (λ g f. let (m, le, types, terms) = h.inside g f in
    completable_mapped (SpellsPiece (Piece.phrase Level.term)) depth (ident_at name at ∷ tokens) (λ u. Tree.field name u at) (g.term (behind tokens))
    (subst (λ whole. IsCompletable (SpellsPiece (Piece.phrase Level.term)) depth (ident_at name at ∷ whole) (g.term (behind tokens))) (sym (begins_is symbol.EqualsEquals tokens e))
    (completable_behind_two (SpellsPiece (Piece.phrase Level.term)) (SpellsPiece (Piece.phrase Level.term)) m depth (ident_at name at) (symbol_at symbol.EqualsEquals (front tokens)) (behind tokens) (g.term (behind tokens)) (field_spelled name at (front tokens) depth m le) (field_spelled name at (front tokens) (suc depth) (suc m) (omega arith)) (terms.completable (behind tokens))))))
    (λ e. (assign_reads depth i h).completable (ident_at name at ∷ tokens))

term_reads : (depth : ℕ) (i : Option Inner) → InnerReads depth i → ReadsPiece (Piece.phrase Level.term) depth (term_at i)
term_reads depth i h = record { completable = go }
  where
    by_kind : (at : Place) (tokens : List Token) (k : TokenKind) → IsCompletable (SpellsPiece (Piece.phrase Level.term)) depth (token k at ∷ tokens) (term_by_kind k i (token k at ∷ tokens))
    by_kind at tokens (kind.Sym symbol.Backslash) =
        completable_opened (Piece.phrase Level.term) depth (symbol_at symbol.Backslash at) tokens (Piece.name ∷ Piece.sign (kind.Sym symbol.Colon) ∷ Piece.type TypeLevel.type ∷ Piece.types symbol.Bar TypeLevel.type ∷ Piece.sign (kind.Sym symbol.Dot) ∷ Piece.phrase Level.term ∷ []) i _ (lam_spelled at)
        (λ g f. let (less, le, types, terms) = h.inside g f in (less, le, lam_completable less g types terms at tokens))
    by_kind at tokens (kind.Word word.Let) =
        completable_opened (Piece.phrase Level.term) depth (word_at word.Let at) tokens (Piece.def ∷ Piece.defs ∷ Piece.sign (kind.Word word.In) ∷ Piece.phrase Level.term ∷ []) i _ (let_spelled at)
        (λ g f. let (less, le, types, terms) = h.inside g f in (less, le, let_completable less g types terms at tokens))
    by_kind at tokens (kind.Word word.Letrec) =
        completable_opened (Piece.phrase Level.term) depth (word_at word.Letrec at) tokens (Piece.decl ∷ Piece.decls ∷ Piece.sign (kind.Word word.Where) ∷ Piece.def ∷ Piece.defs ∷ Piece.sign (kind.Word word.In) ∷ Piece.phrase Level.term ∷ []) i _ (letrec_spelled at)
        (λ g f. let (less, le, types, terms) = h.inside g f in (less, le, letrec_completable less g types terms at tokens))
    by_kind at tokens (kind.Word word.Lettype) =
        completable_opened (Piece.phrase Level.term) depth (word_at word.Lettype at) tokens (Piece.name ∷ Piece.sign (kind.Sym symbol.EqualsEquals) ∷ Piece.type TypeLevel.type ∷ Piece.sign (kind.Word word.In) ∷ Piece.phrase Level.term ∷ []) i _ (let_type_spelled at)
        (λ g f. let (less, le, types, terms) = h.inside g f in (less, le, let_type_completable less g types terms at tokens))
    by_kind at tokens (kind.Word word.New) =
        completable_opened (Piece.phrase Level.term) depth (word_at word.New at) tokens (Piece.name ∷ Piece.sign (kind.Sym symbol.Colon) ∷ Piece.datum ∷ Piece.sign (kind.Sym symbol.ColonEquals) ∷ Piece.phrase Level.term ∷ Piece.sign (kind.Word word.In) ∷ Piece.phrase Level.term ∷ []) i _ (new_spelled at)
        (λ g f. let (less, le, types, terms) = h.inside g f in (less, le, new_completable less g types terms at tokens))
    by_kind at tokens (kind.Word word.Escape) =
        completable_opened (Piece.phrase Level.term) depth (word_at word.Escape at) tokens (Piece.name ∷ Piece.sign (kind.Word word.In) ∷ Piece.phrase Level.term ∷ []) i _ (escape_spelled at)
        (λ g f. let (less, le, types, terms) = h.inside g f in (less, le, escape_completable less g types terms at tokens))
    by_kind at tokens (kind.Word word.Accept) =
        completable_opened (Piece.phrase Level.term) depth (word_at word.Accept at) tokens (Piece.name ∷ Piece.sign (kind.Sym symbol.Colon) ∷ Piece.datum ∷ Piece.sign (kind.Word word.In) ∷ Piece.phrase Level.term ∷ []) i _ (accept_spelled at)
        (λ g f. let (less, le, types, terms) = h.inside g f in (less, le, accept_completable less g types terms at tokens))
    by_kind at tokens (kind.Word word.If) =
        completable_opened (Piece.phrase Level.term) depth (word_at word.If at) tokens (Piece.phrase Level.term ∷ Piece.sign (kind.Word word.Then) ∷ Piece.phrase Level.term ∷ Piece.sign (kind.Word word.Else) ∷ Piece.phrase Level.term ∷ []) i _ (cond_spelled at)
        (λ g f. let (less, le, types, terms) = h.inside g f in (less, le, cond_completable less g types terms at tokens))
    by_kind at tokens (kind.Word word.While) =
        completable_opened (Piece.phrase Level.term) depth (word_at word.While at) tokens (Piece.phrase Level.term ∷ Piece.sign (kind.Word word.Do) ∷ Piece.phrase Level.term ∷ []) i _ (while_spelled at)
        (λ g f. let (less, le, types, terms) = h.inside g f in (less, le, while_completable less g types terms at tokens))
    by_kind at tokens (kind.Word word.Loop) =
        completable_opened (Piece.phrase Level.term) depth (word_at word.Loop at) tokens (Piece.phrase Level.term ∷ []) i _ (loop_spelled at)
        (λ g f. let (less, le, types, terms) = h.inside g f in (less, le, loop_completable less g types terms at tokens))
    by_kind at tokens (kind.Ident n) = ident_completable depth i h n at tokens
    by_kind at tokens k = (assign_reads depth i h).completable (token k at ∷ tokens)

    go : (tokens : List Token) → IsCompletable (SpellsPiece (Piece.phrase Level.term)) depth tokens (term_at i tokens)
    go [] = (assign_reads depth i h).completable []
    go (t ∷ tokens) = by_kind t.place tokens t.kind

inner_reads : (depth : ℕ) → InnerReads depth (inner depth)
unfolding inner
inner_reads zero = record { inside = λ g e. absurd cc }
inner_reads (suc depth) = record {
  inside = λ g e. (
    depth,
    omega arith,
    subst (λ (g : Inner). ReadsPiece (Piece.type TypeLevel.type) depth g.type) (let s : (record { type = read_type depth; term = read_term depth }) ≡ g = cc in s) (read_type_reads depth),
    subst (λ (g : Inner). ReadsPiece (Piece.phrase Level.term) depth g.term) (let s : (record { type = read_type depth; term = read_term depth }) ≡ g = cc in s) (term_reads depth (inner depth) (inner_reads depth)),
  );
}

-- where reading stops, the tokens before begin a phrase that nests no deeper than allowed, and where it is too deep the tokens up to it begin a deeper one
pub read_phrase_reads : (depth : ℕ) → ReadsPiece (Piece.phrase Level.phrase) depth (read_phrase depth)
read_phrase_reads depth = phrase_reads depth (read_term depth) (term_reads depth (inner depth) (inner_reads depth))
