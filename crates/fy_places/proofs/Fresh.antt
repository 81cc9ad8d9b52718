-- What completes a piece of which nothing stands yet: `skip`, `ns`, `x == skip`, and nothing where a list or a tail may be left out.
use Rattle.std.proofs.Common.{List, [], arith, refl, ℕ, ◌∷◌}
use Rattle.fy_base.specs.declared.data.Place.{Place}
use Rattle.fy_base.specs.Places.{first_place}
use Rattle.fy_types.specs.declared.types.Atom.TheVariants as atom
use Rattle.fy_lexer.specs.declared.token.Keyword.TheVariants as word
use Rattle.fy_lexer.specs.declared.token.Symbol.TheVariants as symbol
use Rattle.fy_lexer.specs.declared.token.Token.{Token}
use Rattle.fy_syntax.specs.Signs.{Level, TypeLevel, atom_word, ident_at, symbol_at, token, word_at}
use Rattle.fy_syntax.specs.Spells.{Dots, Fields, MoreArguments, MoreDecls, MoreDefs, MoreLinks, MoreTrees, MoreTypes, Prefixes, SpellsBefore, SpellsType}
use Rattle.fy_syntax.specs.Trees.{Tree, TypeTree}
use Rattle.fy_places.proofs.Pieces.{Piece, SpellsPiece, SpellsPieces}

pub nowhere : Place
nowhere = first_place

ns_spells : (level : TypeLevel) (at : Place) (middle : List Token) → SpellsType level (TypeTree.ns at) (word_at word.Ns at ∷ middle) middle
ns_spells TypeLevel.primary at middle = SpellsType.ns
ns_spells TypeLevel.field at middle = SpellsType.field Fields.no_fields SpellsType.ns
ns_spells TypeLevel.inter at middle = SpellsType.inter (SpellsType.field Fields.no_fields SpellsType.ns) MoreTypes.no_types
ns_spells TypeLevel.type at middle = SpellsType.no_arrow (SpellsType.inter (SpellsType.field Fields.no_fields SpellsType.ns) MoreTypes.no_types)

abbrev Skips : Level → Place → List Token → Type 0
Skips level at rest = SpellsBefore level (Tree.skip at) (word_at word.Skip at ∷ rest) rest

skip_select : (at : Place) (middle : List Token) → Skips Level.select at middle
skip_select at middle = SpellsBefore.select SpellsBefore.skip Dots.no_dots

skip_apply : (at : Place) (middle : List Token) → Skips Level.apply at middle
skip_apply at middle = SpellsBefore.apply (skip_select at middle) MoreArguments.no_arguments

skip_prefixed : (at : Place) (middle : List Token) → Skips Level.prefixed at middle
skip_prefixed at middle = SpellsBefore.prefixed Prefixes.no_prefixes (skip_apply at middle)

skip_product : (at : Place) (middle : List Token) → Skips Level.product at middle
skip_product at middle = SpellsBefore.product (skip_prefixed at middle) MoreLinks.no_links

skip_sum : (at : Place) (middle : List Token) → Skips Level.sum at middle
skip_sum at middle = SpellsBefore.sum (skip_product at middle) MoreLinks.no_links

skip_relation : (at : Place) (middle : List Token) → Skips Level.relation at middle
skip_relation at middle = SpellsBefore.no_relation (skip_sum at middle)

skip_both : (at : Place) (middle : List Token) → Skips Level.both at middle
skip_both at middle = SpellsBefore.both (skip_relation at middle) MoreLinks.no_links

skip_either : (at : Place) (middle : List Token) → Skips Level.either at middle
skip_either at middle = SpellsBefore.either (skip_both at middle) MoreLinks.no_links

skip_term : (at : Place) (middle : List Token) → Skips Level.term at middle
skip_term at middle = SpellsBefore.no_assign (skip_either at middle)

skip_sequence : (at : Place) (middle : List Token) → Skips Level.sequence at middle
skip_sequence at middle = SpellsBefore.sequence (skip_term at middle) MoreTrees.no_trees

skip_phrase : (at : Place) (middle : List Token) → Skips Level.phrase at middle
skip_phrase at middle = SpellsBefore.phrase (skip_sequence at middle) MoreTrees.no_trees

skip_piece : (level : Level) (depth : ℕ) (middle : List Token) → SpellsPiece (Piece.phrase level) depth (word_at word.Skip nowhere ∷ middle) middle
skip_piece Level.phrase depth middle = SpellsPiece.a_phrase (skip_phrase nowhere middle) (omega arith)
skip_piece Level.sequence depth middle = SpellsPiece.a_phrase (skip_sequence nowhere middle) (omega arith)
skip_piece Level.term depth middle = SpellsPiece.a_phrase (skip_term nowhere middle) (omega arith)
skip_piece Level.either depth middle = SpellsPiece.a_phrase (skip_either nowhere middle) (omega arith)
skip_piece Level.both depth middle = SpellsPiece.a_phrase (skip_both nowhere middle) (omega arith)
skip_piece Level.relation depth middle = SpellsPiece.a_phrase (skip_relation nowhere middle) (omega arith)
skip_piece Level.sum depth middle = SpellsPiece.a_phrase (skip_sum nowhere middle) (omega arith)
skip_piece Level.product depth middle = SpellsPiece.a_phrase (skip_product nowhere middle) (omega arith)
skip_piece Level.prefixed depth middle = SpellsPiece.a_phrase (skip_prefixed nowhere middle) (omega arith)
skip_piece Level.apply depth middle = SpellsPiece.a_phrase (skip_apply nowhere middle) (omega arith)
skip_piece Level.select depth middle = SpellsPiece.a_phrase (skip_select nowhere middle) (omega arith)
skip_piece Level.primary depth middle = SpellsPiece.a_phrase SpellsBefore.skip (omega arith)

pub fresh_piece : (piece : Piece) (depth : ℕ) (later : List Token) → (whole : List Token) × SpellsPiece piece depth whole later
fresh_piece (Piece.sign k) depth later = (token k nowhere ∷ later, SpellsPiece.a_sign)
fresh_piece Piece.name depth later = (ident_at 0 nowhere ∷ later, SpellsPiece.a_name)
fresh_piece Piece.datum depth later = (word_at (atom_word atom.Int) nowhere ∷ later, SpellsPiece.a_datum atom.Int refl)
fresh_piece (Piece.type level) depth later = (word_at word.Ns nowhere ∷ later, SpellsPiece.a_type (ns_spells level nowhere later) (omega arith))
fresh_piece (Piece.types s level) depth later = (later, SpellsPiece.more_types MoreTypes.no_types (omega arith))
fresh_piece Piece.arrow_tail depth later = (later, SpellsPiece.no_arrow)
fresh_piece Piece.fields depth later = (later, SpellsPiece.some_fields Fields.no_fields)
fresh_piece Piece.decl depth later = (ident_at 0 nowhere ∷ symbol_at symbol.Colon nowhere ∷ word_at word.Ns nowhere ∷ later, SpellsPiece.a_decl (ns_spells TypeLevel.type nowhere later) (omega arith))
fresh_piece Piece.decls depth later = (later, SpellsPiece.more_decls MoreDecls.no_decls (omega arith))
fresh_piece (Piece.phrase level) depth later = (word_at word.Skip nowhere ∷ later, skip_piece level depth later)
fresh_piece (Piece.phrases s level) depth later = (later, SpellsPiece.more_phrases MoreTrees.no_trees (omega arith))
fresh_piece Piece.def depth later = (ident_at 0 nowhere ∷ symbol_at symbol.EqualsEquals nowhere ∷ word_at word.Skip nowhere ∷ later, SpellsPiece.a_def (skip_term nowhere later) (omega arith))
fresh_piece Piece.defs depth later = (later, SpellsPiece.more_defs MoreDefs.no_defs (omega arith))
fresh_piece (Piece.links operators level) depth later = (later, SpellsPiece.more_links MoreLinks.no_links (omega arith))
fresh_piece Piece.relation_tail depth later = (later, SpellsPiece.no_relation)
fresh_piece Piece.assign_tail depth later = (later, SpellsPiece.no_assign)
fresh_piece Piece.arguments depth later = (later, SpellsPiece.some_arguments MoreArguments.no_arguments (omega arith))
fresh_piece Piece.dots depth later = (later, SpellsPiece.some_dots Dots.no_dots)
fresh_piece Piece.prefixes depth later = (later, SpellsPiece.some_prefixes Prefixes.no_prefixes)

pub fresh_pieces : (pieces : List Piece) (depth : ℕ) (later : List Token) → (whole : List Token) × SpellsPieces pieces depth whole later
fresh_pieces [] depth later = (later, SpellsPieces.nothing)
fresh_pieces (piece ∷ pieces) depth later =
    let (m, y) = fresh_pieces pieces depth later in
    let (whole, x) = fresh_piece piece depth m in (whole, SpellsPieces.also x y)
