-- The pieces that the productions of the grammar are made of.
use Rattle.std.proofs.Common.{IsTrue, List, [], arith, suc, ℕ, ◌+◌, ◌∷◌, ◌≡◌, ◌≤◌}
use Rattle.fy_base.specs.declared.data.BinOp.{BinOp}
use Rattle.fy_base.specs.declared.data.Place.{Place}
use Rattle.fy_types.specs.declared.types.Atom.{Atom}
use Rattle.fy_lexer.specs.declared.token.Symbol.{Symbol}
use Rattle.fy_lexer.specs.declared.token.Symbol.TheVariants as symbol
use Rattle.fy_lexer.specs.declared.token.Token.{Token}
use Rattle.fy_lexer.specs.declared.token.TokenKind.{TokenKind}
use Rattle.fy_syntax.specs.declared.surface.Prefixed.{Prefixed}
use Rattle.fy_syntax.specs.Nesting.{below, decls_nesting, defs_nesting, links_below, own, trees_below, trees_nesting, type_below, types_below}
use Rattle.fy_syntax.specs.Signs.{Level, TypeLevel, atom_word, ident_at, is_data, operator_level, operator_sign, symbol_at, token, word_at}
use Rattle.fy_syntax.specs.Spells.{Dots, Fields, MoreArguments, MoreDecls, MoreDefs, MoreLinks, MoreTrees, MoreTypes, Prefixes, SpellsBefore, SpellsType}
use Rattle.fy_syntax.specs.Trees.{DeclTree, Defs, Links, Tree, Trees, TypeTree, TypeTrees}
use Rattle.fy_syntax.proofs.Complete.{depth_at}

pub data Piece : Type 0 where
  sign : (k : TokenKind) → Piece
  name : Piece
  -- a type of data
  datum : Piece
  type : (level : TypeLevel) → Piece
  -- types, each behind a symbol
  types : (s : Symbol) (level : TypeLevel) → Piece
  -- `-> type`, or nothing
  arrow_tail : Piece
  -- names before colons
  fields : Piece
  -- `name : type`, and more, each behind a comma
  decl : Piece
  decls : Piece
  phrase : (level : Level) → Piece
  -- phrases, each behind a symbol
  phrases : (s : Symbol) (level : Level) → Piece
  -- `name == term`, and more, each behind a comma
  def : Piece
  defs : Piece
  -- operands, each behind an operator of a level
  links : (operators level : Level) → Piece
  -- an operator of relation with its operand, or nothing
  relation_tail : Piece
  -- `:= term`, or nothing
  assign_tail : Piece
  arguments : Piece
  -- names behind dots
  dots : Piece
  -- operators in front
  prefixes : Piece

-- the tokens are such a piece before the rest, within the nesting
pub data SpellsPiece : Piece → ℕ → List Token → List Token → Type 0 where
  a_sign : {k : TokenKind} {at : Place} {depth : ℕ} {rest : List Token} → SpellsPiece (Piece.sign k) depth (token k at ∷ rest) rest
  a_name : {name : ℕ} {at : Place} {depth : ℕ} {rest : List Token} → SpellsPiece Piece.name depth (ident_at name at ∷ rest) rest
  a_datum : (a : Atom) {at : Place} {depth : ℕ} {rest : List Token} → IsTrue (is_data a) → SpellsPiece Piece.datum depth (word_at (atom_word a) at ∷ rest) rest
  a_type : {level : TypeLevel} {a : TypeTree} {depth : ℕ} {tokens rest : List Token} →
      SpellsType level a tokens rest → type_below a ≤ depth → SpellsPiece (Piece.type level) depth tokens rest
  more_types : {s : Symbol} {level : TypeLevel} {more : TypeTrees} {depth : ℕ} {tokens rest : List Token} →
      MoreTypes s level more tokens rest → types_below more ≤ depth → SpellsPiece (Piece.types s level) depth tokens rest
  no_arrow : {depth : ℕ} {rest : List Token} → SpellsPiece Piece.arrow_tail depth rest rest
  an_arrow : {a : TypeTree} {at : Place} {depth : ℕ} {tokens rest : List Token} →
      SpellsType TypeLevel.type a tokens rest → suc (type_below a) ≤ depth → SpellsPiece Piece.arrow_tail depth (symbol_at symbol.Arrow at ∷ tokens) rest
  some_fields : {names : List ℕ} {depth : ℕ} {tokens rest : List Token} → Fields names tokens rest → SpellsPiece Piece.fields depth tokens rest
  a_decl : {name : ℕ} {a : TypeTree} {at colon_at : Place} {depth : ℕ} {tokens rest : List Token} →
      SpellsType TypeLevel.type a tokens rest → type_below a ≤ depth → SpellsPiece Piece.decl depth (ident_at name at ∷ symbol_at symbol.Colon colon_at ∷ tokens) rest
  more_decls : {more : List DeclTree} {depth : ℕ} {tokens rest : List Token} → MoreDecls more tokens rest → decls_nesting more ≤ suc depth → SpellsPiece Piece.decls depth tokens rest
  a_phrase : {level : Level} {t : Tree} {depth : ℕ} {tokens rest : List Token} →
      SpellsBefore level t tokens rest → depth_at level t ≤ suc depth → SpellsPiece (Piece.phrase level) depth tokens rest
  more_phrases : {s : Symbol} {level : Level} {more : Trees} {depth : ℕ} {tokens rest : List Token} →
      MoreTrees s level more tokens rest → trees_nesting more ≤ suc depth → SpellsPiece (Piece.phrases s level) depth tokens rest
  a_def : {name : ℕ} {t : Tree} {at equals_at : Place} {depth : ℕ} {tokens rest : List Token} →
      SpellsBefore Level.term t tokens rest → below t + own t ≤ suc depth → SpellsPiece Piece.def depth (ident_at name at ∷ symbol_at symbol.EqualsEquals equals_at ∷ tokens) rest
  more_defs : {more : Defs} {depth : ℕ} {tokens rest : List Token} → MoreDefs more tokens rest → defs_nesting more ≤ suc depth → SpellsPiece Piece.defs depth tokens rest
  more_links : {operators level : Level} {more : Links} {depth : ℕ} {tokens rest : List Token} →
      MoreLinks operators level more tokens rest → links_below more ≤ depth → SpellsPiece (Piece.links operators level) depth tokens rest
  no_relation : {depth : ℕ} {rest : List Token} → SpellsPiece Piece.relation_tail depth rest rest
  a_relation : (op : BinOp) {t : Tree} {at : Place} {depth : ℕ} {tokens rest : List Token} → operator_level op ≡ Level.relation →
      SpellsBefore Level.sum t tokens rest → below t ≤ depth → SpellsPiece Piece.relation_tail depth (token (operator_sign op) at ∷ tokens) rest
  no_assign : {depth : ℕ} {rest : List Token} → SpellsPiece Piece.assign_tail depth rest rest
  an_assign : {t : Tree} {at : Place} {depth : ℕ} {tokens rest : List Token} →
      SpellsBefore Level.term t tokens rest → below t + own t ≤ depth → SpellsPiece Piece.assign_tail depth (symbol_at symbol.ColonEquals at ∷ tokens) rest
  some_arguments : {more : Trees} {depth : ℕ} {tokens rest : List Token} → MoreArguments more tokens rest → trees_below more ≤ depth → SpellsPiece Piece.arguments depth tokens rest
  some_dots : {names : List ℕ} {depth : ℕ} {tokens rest : List Token} → Dots names tokens rest → SpellsPiece Piece.dots depth tokens rest
  some_prefixes : {operators : List Prefixed} {depth : ℕ} {tokens rest : List Token} → Prefixes operators tokens rest → SpellsPiece Piece.prefixes depth tokens rest

-- one piece behind the other
pub data SpellsPieces : List Piece → ℕ → List Token → List Token → Type 0 where
  nothing : {depth : ℕ} {rest : List Token} → SpellsPieces [] depth rest rest
  also : {piece : Piece} {pieces : List Piece} {depth : ℕ} {tokens middle rest : List Token} →
      SpellsPiece piece depth tokens middle → SpellsPieces pieces depth middle rest → SpellsPieces (piece ∷ pieces) depth tokens rest

-- what nests no deeper than d nests no deeper than d + 1
pub piece_deeper : {piece : Piece} {depth : ℕ} {tokens rest : List Token} → SpellsPiece piece depth tokens rest → SpellsPiece piece (suc depth) tokens rest
piece_deeper SpellsPiece.a_sign = SpellsPiece.a_sign
piece_deeper SpellsPiece.a_name = SpellsPiece.a_name
piece_deeper (SpellsPiece.a_datum a h) = SpellsPiece.a_datum a h
piece_deeper (SpellsPiece.a_type x h) = SpellsPiece.a_type x (omega arith)
piece_deeper (SpellsPiece.more_types x h) = SpellsPiece.more_types x (omega arith)
piece_deeper SpellsPiece.no_arrow = SpellsPiece.no_arrow
piece_deeper (SpellsPiece.an_arrow x h) = SpellsPiece.an_arrow x (omega arith)
piece_deeper (SpellsPiece.some_fields x) = SpellsPiece.some_fields x
piece_deeper (SpellsPiece.a_decl x h) = SpellsPiece.a_decl x (omega arith)
piece_deeper (SpellsPiece.more_decls x h) = SpellsPiece.more_decls x (omega arith)
piece_deeper (SpellsPiece.a_phrase x h) = SpellsPiece.a_phrase x (omega arith)
piece_deeper (SpellsPiece.more_phrases x h) = SpellsPiece.more_phrases x (omega arith)
piece_deeper (SpellsPiece.a_def x h) = SpellsPiece.a_def x (omega arith)
piece_deeper (SpellsPiece.more_defs x h) = SpellsPiece.more_defs x (omega arith)
piece_deeper (SpellsPiece.more_links x h) = SpellsPiece.more_links x (omega arith)
piece_deeper SpellsPiece.no_relation = SpellsPiece.no_relation
piece_deeper (SpellsPiece.a_relation op e x h) = SpellsPiece.a_relation op e x (omega arith)
piece_deeper SpellsPiece.no_assign = SpellsPiece.no_assign
piece_deeper (SpellsPiece.an_assign x h) = SpellsPiece.an_assign x (omega arith)
piece_deeper (SpellsPiece.some_arguments x h) = SpellsPiece.some_arguments x (omega arith)
piece_deeper (SpellsPiece.some_dots x) = SpellsPiece.some_dots x
piece_deeper (SpellsPiece.some_prefixes x) = SpellsPiece.some_prefixes x
