-- The productions of phrases: their pieces, one behind the other, are the phrase.
use Rattle.std.proofs.Common.{List, [], arith, suc, ℕ, ◌∷◌, ◌≡◌, ◌≤◌}
use Rattle.fy_base.specs.declared.data.BinOp.{BinOp}
use Rattle.fy_base.specs.declared.data.Place.{Place}
use Rattle.fy_base.specs.declared.data.UnOp.{UnOp}
use Rattle.fy_lexer.specs.declared.token.Keyword.TheVariants as word
use Rattle.fy_lexer.specs.declared.token.Symbol.{Symbol}
use Rattle.fy_lexer.specs.declared.token.Symbol.TheVariants as symbol
use Rattle.fy_lexer.specs.declared.token.Token.{Token}
use Rattle.fy_lexer.specs.declared.token.TokenKind.TheVariants as kind
use Rattle.fy_syntax.specs.Nesting.{below}
use Rattle.fy_syntax.specs.Signs.{Level, TypeLevel, front, ident_at, operator_level, operator_sign, prefix_sign, symbol_at, token, word_at}
use Rattle.fy_syntax.specs.Spells.{Dots, MoreArguments, MoreDecls, MoreDefs, MoreLinks, MoreTrees, Prefixes, SpellsBefore}
use Rattle.fy_syntax.proofs.Complete.{depth_at, nested_depth}
use Rattle.fy_syntax.proofs.Fronts.{apply_below, chain_below, merge_nested, prefixed_below, select_below, sequence_nested}
use Rattle.fy_places.proofs.Pieces.{Piece, SpellsPiece, SpellsPieces}

pub phrase_spelled : (depth : ℕ) (whole rest : List Token) → SpellsPieces (Piece.phrase Level.sequence ∷ Piece.phrases symbol.Comma Level.sequence ∷ []) depth whole rest → SpellsPiece (Piece.phrase Level.phrase) depth whole rest
phrase_spelled depth whole rest (SpellsPieces.also (SpellsPiece.a_phrase {t = t} x h) (SpellsPieces.also (SpellsPiece.more_phrases {more = more} y k) SpellsPieces.nothing)) = SpellsPiece.a_phrase (SpellsBefore.phrase x y) (omega (arith, merge_nested t more (front whole), h, k))

pub sequence_spelled : (depth : ℕ) (whole rest : List Token) → SpellsPieces (Piece.phrase Level.term ∷ Piece.phrases symbol.Semicolon Level.term ∷ []) depth whole rest → SpellsPiece (Piece.phrase Level.sequence) depth whole rest
sequence_spelled depth whole rest (SpellsPieces.also (SpellsPiece.a_phrase {t = t} x h) (SpellsPieces.also (SpellsPiece.more_phrases {more = more} y k) SpellsPieces.nothing)) = SpellsPiece.a_phrase (SpellsBefore.sequence x y) (omega (arith, sequence_nested t more (front whole), nested_depth (suc depth) Level.term t x h, k))

pub more_phrases_spelled : (s : Symbol) (level : Level) (depth : ℕ) (whole rest : List Token) → SpellsPieces (Piece.sign (kind.Sym s) ∷ Piece.phrase level ∷ Piece.phrases s level ∷ []) depth whole rest → SpellsPiece (Piece.phrases s level) depth whole rest
more_phrases_spelled s level depth whole rest (SpellsPieces.also SpellsPiece.a_sign (SpellsPieces.also (SpellsPiece.a_phrase {t = t} x h) (SpellsPieces.also (SpellsPiece.more_phrases y k) SpellsPieces.nothing))) = SpellsPiece.more_phrases (MoreTrees.and_tree x y) (omega (arith, nested_depth (suc depth) level t x h, k))

pub select_spelled : (depth : ℕ) (whole rest : List Token) → SpellsPieces (Piece.phrase Level.primary ∷ Piece.dots ∷ []) depth whole rest → SpellsPiece (Piece.phrase Level.select) depth whole rest
select_spelled depth whole rest (SpellsPieces.also (SpellsPiece.a_phrase {t = t} x h) (SpellsPieces.also (SpellsPiece.some_dots {names = names} y) SpellsPieces.nothing)) = SpellsPiece.a_phrase (SpellsBefore.select x y) (omega (arith, select_below t names (front whole), h))

pub dots_spelled : (depth : ℕ) (whole rest : List Token) → SpellsPieces (Piece.sign (kind.Sym symbol.Dot) ∷ Piece.name ∷ Piece.dots ∷ []) depth whole rest → SpellsPiece (Piece.dots) depth whole rest
dots_spelled depth whole rest (SpellsPieces.also SpellsPiece.a_sign (SpellsPieces.also SpellsPiece.a_name (SpellsPieces.also (SpellsPiece.some_dots y) SpellsPieces.nothing))) = SpellsPiece.some_dots (Dots.and_dot y)

pub apply_spelled : (depth : ℕ) (whole rest : List Token) → SpellsPieces (Piece.phrase Level.select ∷ Piece.arguments ∷ []) depth whole rest → SpellsPiece (Piece.phrase Level.apply) depth whole rest
apply_spelled depth whole rest (SpellsPieces.also (SpellsPiece.a_phrase {t = t} x h) (SpellsPieces.also (SpellsPiece.some_arguments {more = more} y k) SpellsPieces.nothing)) = SpellsPiece.a_phrase (SpellsBefore.apply x y) (omega (arith, apply_below t more (front whole), h, k))

pub arguments_spelled : (depth : ℕ) (whole rest : List Token) → SpellsPieces (Piece.phrase Level.select ∷ Piece.arguments ∷ []) depth whole rest → SpellsPiece (Piece.arguments) depth whole rest
arguments_spelled depth whole rest (SpellsPieces.also (SpellsPiece.a_phrase x h) (SpellsPieces.also (SpellsPiece.some_arguments y k) SpellsPieces.nothing)) = SpellsPiece.some_arguments (MoreArguments.and_argument x y) (omega (arith, h, k))

pub prefixed_spelled : (depth : ℕ) (whole rest : List Token) → SpellsPieces (Piece.prefixes ∷ Piece.phrase Level.apply ∷ []) depth whole rest → SpellsPiece (Piece.phrase Level.prefixed) depth whole rest
prefixed_spelled depth whole rest (SpellsPieces.also (SpellsPiece.some_prefixes {operators = operators} x) (SpellsPieces.also (SpellsPiece.a_phrase {t = t} y k) SpellsPieces.nothing)) = SpellsPiece.a_phrase (SpellsBefore.prefixed x y) (omega (arith, prefixed_below operators t (front whole), k))

pub product_spelled : (depth : ℕ) (whole rest : List Token) → SpellsPieces (Piece.phrase Level.prefixed ∷ Piece.links Level.product Level.prefixed ∷ []) depth whole rest → SpellsPiece (Piece.phrase Level.product) depth whole rest
product_spelled depth whole rest (SpellsPieces.also (SpellsPiece.a_phrase {t = t} x h) (SpellsPieces.also (SpellsPiece.more_links {more = more} y k) SpellsPieces.nothing)) = SpellsPiece.a_phrase (SpellsBefore.product x y) (omega (arith, chain_below t more (front whole), h, k))

pub sum_spelled : (depth : ℕ) (whole rest : List Token) → SpellsPieces (Piece.phrase Level.product ∷ Piece.links Level.sum Level.product ∷ []) depth whole rest → SpellsPiece (Piece.phrase Level.sum) depth whole rest
sum_spelled depth whole rest (SpellsPieces.also (SpellsPiece.a_phrase {t = t} x h) (SpellsPieces.also (SpellsPiece.more_links {more = more} y k) SpellsPieces.nothing)) = SpellsPiece.a_phrase (SpellsBefore.sum x y) (omega (arith, chain_below t more (front whole), h, k))

pub both_spelled : (depth : ℕ) (whole rest : List Token) → SpellsPieces (Piece.phrase Level.relation ∷ Piece.links Level.both Level.relation ∷ []) depth whole rest → SpellsPiece (Piece.phrase Level.both) depth whole rest
both_spelled depth whole rest (SpellsPieces.also (SpellsPiece.a_phrase {t = t} x h) (SpellsPieces.also (SpellsPiece.more_links {more = more} y k) SpellsPieces.nothing)) = SpellsPiece.a_phrase (SpellsBefore.both x y) (omega (arith, chain_below t more (front whole), h, k))

pub either_spelled : (depth : ℕ) (whole rest : List Token) → SpellsPieces (Piece.phrase Level.both ∷ Piece.links Level.either Level.both ∷ []) depth whole rest → SpellsPiece (Piece.phrase Level.either) depth whole rest
either_spelled depth whole rest (SpellsPieces.also (SpellsPiece.a_phrase {t = t} x h) (SpellsPieces.also (SpellsPiece.more_links {more = more} y k) SpellsPieces.nothing)) = SpellsPiece.a_phrase (SpellsBefore.either x y) (omega (arith, chain_below t more (front whole), h, k))

pub relation_spelled : (depth : ℕ) (whole rest : List Token) → SpellsPieces (Piece.phrase Level.sum ∷ Piece.relation_tail ∷ []) depth whole rest → SpellsPiece (Piece.phrase Level.relation) depth whole rest
relation_spelled depth whole rest (SpellsPieces.also (SpellsPiece.a_phrase x h) (SpellsPieces.also SpellsPiece.no_relation SpellsPieces.nothing)) = SpellsPiece.a_phrase (SpellsBefore.no_relation x) h
relation_spelled depth whole rest (SpellsPieces.also (SpellsPiece.a_phrase x h) (SpellsPieces.also (SpellsPiece.a_relation op e y k) SpellsPieces.nothing)) = SpellsPiece.a_phrase (SpellsBefore.related {op = op} e x y) (omega (arith, h, k))

pub assign_spelled : (depth : ℕ) (whole rest : List Token) → SpellsPieces (Piece.phrase Level.either ∷ Piece.assign_tail ∷ []) depth whole rest → SpellsPiece (Piece.phrase Level.term) depth whole rest
assign_spelled depth whole rest (SpellsPieces.also (SpellsPiece.a_phrase x h) (SpellsPieces.also SpellsPiece.no_assign SpellsPieces.nothing)) = SpellsPiece.a_phrase (SpellsBefore.no_assign x) h
assign_spelled depth whole rest (SpellsPieces.also (SpellsPiece.a_phrase x h) (SpellsPieces.also (SpellsPiece.an_assign y k) SpellsPieces.nothing)) = SpellsPiece.a_phrase (SpellsBefore.assign x y) (omega (arith, h, k))

pub links_spelled : (operators level : Level) (op : BinOp) (at : Place) (depth : ℕ) → operator_level op ≡ operators → depth_at level ≡ (λ t. suc (below t)) → (whole rest : List Token) →
    SpellsPieces (Piece.phrase level ∷ Piece.links operators level ∷ []) depth whole rest → SpellsPiece (Piece.links operators level) depth (token (operator_sign op) at ∷ whole) rest
links_spelled operators level op at depth e o whole rest (SpellsPieces.also (SpellsPiece.a_phrase {t = t} x h) (SpellsPieces.also (SpellsPiece.more_links y k) SpellsPieces.nothing)) =
    SpellsPiece.more_links (MoreLinks.and_link {op = op} e x y) (let h : suc (below t) ≤ suc depth = rw o at h in omega (arith, k))

pub relation_tail_spelled : (op : BinOp) (at : Place) (depth : ℕ) → operator_level op ≡ Level.relation → (whole rest : List Token) → SpellsPiece (Piece.phrase Level.sum) depth whole rest → SpellsPiece Piece.relation_tail depth (token (operator_sign op) at ∷ whole) rest
relation_tail_spelled op at depth e whole rest (SpellsPiece.a_phrase x h) = SpellsPiece.a_relation op e x (omega (arith, h))

pub assign_tail_spelled : (at : Place) (depth less : ℕ) → suc less ≤ depth → (whole rest : List Token) → SpellsPiece (Piece.phrase Level.term) less whole rest → SpellsPiece Piece.assign_tail depth (symbol_at symbol.ColonEquals at ∷ whole) rest
assign_tail_spelled at depth less le whole rest (SpellsPiece.a_phrase {t = t} x h) = SpellsPiece.an_assign x (omega (arith, nested_depth (suc less) Level.term t x h))

pub prefix_spelled : (o : UnOp) (at : Place) (depth : ℕ) (whole rest : List Token) → SpellsPiece Piece.prefixes depth whole rest → SpellsPiece Piece.prefixes depth (token (prefix_sign o) at ∷ whole) rest
prefix_spelled o at depth whole rest (SpellsPiece.some_prefixes x) = SpellsPiece.some_prefixes (Prefixes.and_prefix {op = o} x)

pub def_spelled : (depth : ℕ) (whole rest : List Token) → SpellsPieces (Piece.name ∷ Piece.sign (kind.Sym symbol.EqualsEquals) ∷ Piece.phrase Level.term ∷ []) depth whole rest → SpellsPiece Piece.def depth whole rest
def_spelled depth whole rest (SpellsPieces.also SpellsPiece.a_name (SpellsPieces.also SpellsPiece.a_sign (SpellsPieces.also (SpellsPiece.a_phrase {t = t} x h) SpellsPieces.nothing))) = SpellsPiece.a_def x (nested_depth (suc depth) Level.term t x h)

pub defs_spelled : (depth : ℕ) (whole rest : List Token) → SpellsPieces (Piece.sign (kind.Sym symbol.Comma) ∷ Piece.def ∷ Piece.defs ∷ []) depth whole rest → SpellsPiece Piece.defs depth whole rest
defs_spelled depth whole rest (SpellsPieces.also SpellsPiece.a_sign (SpellsPieces.also (SpellsPiece.a_def x h) (SpellsPieces.also (SpellsPiece.more_defs y k) SpellsPieces.nothing))) = SpellsPiece.more_defs (MoreDefs.and_def x y) (omega (arith, h, k))

pub decl_spelled : (depth : ℕ) (whole rest : List Token) → SpellsPieces (Piece.name ∷ Piece.sign (kind.Sym symbol.Colon) ∷ Piece.type TypeLevel.type ∷ []) depth whole rest → SpellsPiece Piece.decl depth whole rest
decl_spelled depth whole rest (SpellsPieces.also SpellsPiece.a_name (SpellsPieces.also SpellsPiece.a_sign (SpellsPieces.also (SpellsPiece.a_type x h) SpellsPieces.nothing))) = SpellsPiece.a_decl x h

pub decls_spelled : (depth : ℕ) (whole rest : List Token) → SpellsPieces (Piece.sign (kind.Sym symbol.Comma) ∷ Piece.decl ∷ Piece.decls ∷ []) depth whole rest → SpellsPiece Piece.decls depth whole rest
decls_spelled depth whole rest (SpellsPieces.also SpellsPiece.a_sign (SpellsPieces.also (SpellsPiece.a_decl x h) (SpellsPieces.also (SpellsPiece.more_decls y k) SpellsPieces.nothing))) = SpellsPiece.more_decls (MoreDecls.and_decl x y) (omega (arith, h, k))

pub field_spelled : (name : ℕ) (at equals_at : Place) (depth less : ℕ) → suc less ≤ depth → (whole rest : List Token) → SpellsPiece (Piece.phrase Level.term) less whole rest → SpellsPiece (Piece.phrase Level.term) depth (ident_at name at ∷ symbol_at symbol.EqualsEquals equals_at ∷ whole) rest
field_spelled name at equals_at depth less le whole rest (SpellsPiece.a_phrase {t = t} x h) = SpellsPiece.a_phrase (SpellsBefore.field x) (omega (arith, nested_depth (suc less) Level.term t x h))

pub group_spelled : (at : Place) (depth less : ℕ) → suc less ≤ depth → (whole rest : List Token) → SpellsPieces (Piece.phrase Level.phrase ∷ Piece.sign (kind.Sym symbol.CloseParen) ∷ []) less whole rest → SpellsPiece (Piece.phrase Level.primary) depth (symbol_at symbol.OpenParen at ∷ whole) rest
group_spelled at depth less le whole rest (SpellsPieces.also (SpellsPiece.a_phrase x h) (SpellsPieces.also SpellsPiece.a_sign SpellsPieces.nothing)) = SpellsPiece.a_phrase (SpellsBefore.group x) (omega (arith, h))

pub seq_spelled : (at : Place) (depth less : ℕ) → suc less ≤ depth → (whole rest : List Token) → SpellsPieces (Piece.sign (kind.Sym symbol.OpenParen) ∷ Piece.phrase Level.term ∷ Piece.phrases symbol.Comma Level.term ∷ Piece.sign (kind.Sym symbol.CloseParen) ∷ []) less whole rest → SpellsPiece (Piece.phrase Level.primary) depth (word_at word.Seq at ∷ whole) rest
seq_spelled at depth less le whole rest (SpellsPieces.also SpellsPiece.a_sign (SpellsPieces.also (SpellsPiece.a_phrase {t = t} x h) (SpellsPieces.also (SpellsPiece.more_phrases y k) (SpellsPieces.also SpellsPiece.a_sign SpellsPieces.nothing)))) = SpellsPiece.a_phrase (SpellsBefore.seq_of x y) (omega (arith, nested_depth (suc less) Level.term t x h, k))
