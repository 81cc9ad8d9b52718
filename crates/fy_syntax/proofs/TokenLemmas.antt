-- What a test of the next tokens says of them.
use Rattle.std.proofs.lemmas.Bool.{eqb-true}
use Rattle.std.proofs.Common.{◌≡◌, Bool, true, false, List, [], ◌∷◌, get_or, refl, sym, ap, ◌∙◌}
use Rattle.std.specs.Prelude.{Option, Some, None, ◌==◌}
use Rattle.fy_base.specs.declared.data.BinOp.{BinOp}
use Rattle.fy_base.specs.declared.data.BinOp.TheVariants as op
use Rattle.fy_base.specs.declared.data.UnOp.{UnOp}
use Rattle.fy_base.specs.declared.data.UnOp.TheVariants as unary
use Rattle.fy_lexer.specs.declared.token.Token.{Token}
use Rattle.fy_lexer.specs.declared.token.TokenKind.{TokenKind}
use Rattle.fy_lexer.specs.declared.token.TokenKind.TheVariants as kind
use Rattle.fy_lexer.specs.declared.token.Keyword.{Keyword}
use Rattle.fy_lexer.specs.declared.token.Keyword.TheVariants as word
use Rattle.fy_lexer.specs.declared.token.Symbol.{Symbol}
use Rattle.fy_lexer.specs.declared.token.Symbol.TheVariants as symbol
use Rattle.fy_syntax.specs.Signs.{front, token, symbol_at, word_at, Level, operator_sign, operator_level, prefix_sign}
use Rattle.fy_syntax.specs.Reader.{Fault, behind, begins_with, begins_with_word, prefix_kind, operator_kind, operator_at, of_level, rank}
use Rattle.fy_syntax.proofs.SignLemmas.{kind_is_symbol, kind_is_word}

-- the tokens from the one at which reading stops
abbrev pub stopped : Fault → List Token
stopped (Fault.wrong ts) = ts
stopped (Fault.deep ts) = ts

-- a symbol, or a word
pub begins_is : (s : Symbol) (ts : List Token) → begins_with s ts ≡ true → ts ≡ symbol_at s (front ts) ∷ behind ts
begins_is s [] e = absurd cc
begins_is s (t ∷ ts) e = ap (λ k. token k t.place ∷ ts) (kind_is_symbol s t.kind e)

pub begins_word_is : (w : Keyword) (ts : List Token) → begins_with_word w ts ≡ true → ts ≡ word_at w (front ts) ∷ behind ts
begins_word_is w [] e = absurd cc
begins_word_is w (t ∷ ts) e = ap (λ k. token k t.place ∷ ts) (kind_is_word w t.kind e)

-- an operator in front
pub prefix_is : (k : TokenKind) (o : UnOp) → prefix_kind k ≡ Some o → k ≡ prefix_sign o
prefix_is (kind.Sym symbol.Minus) o e = let s : unary.Neg ≡ o = cc in ap prefix_sign s
prefix_is (kind.Word word.Not) o e = let s : unary.Not ≡ o = cc in ap prefix_sign s
prefix_is (kind.Word word.Ord) o e = let s : unary.Ord ≡ o = cc in ap prefix_sign s
prefix_is (kind.Word word.Chr) o e = let s : unary.Chr ≡ o = cc in ap prefix_sign s
prefix_is _ o e = absurd cc

-- an operator between operands
levels : List Level
levels =
    Level.phrase ∷ Level.phrase ∷ Level.sequence ∷ Level.term ∷ Level.either ∷ Level.both ∷ Level.relation ∷ Level.sum ∷
    Level.product ∷ Level.prefixed ∷ Level.apply ∷ Level.select ∷ Level.primary ∷ []

level_of-rank : (l : Level) → get_or levels (rank l) Level.phrase ≡ l
unfolding levels
level_of-rank = elim [
  | Level.phrase ↦ refl
  | Level.sequence ↦ refl
  | Level.term ↦ refl
  | Level.either ↦ refl
  | Level.both ↦ refl
  | Level.relation ↦ refl
  | Level.sum ↦ refl
  | Level.product ↦ refl
  | Level.prefixed ↦ refl
  | Level.apply ↦ refl
  | Level.select ↦ refl
  | Level.primary ↦ refl
]

rank-same : (l m : Level) → rank l ≡ rank m → l ≡ m
rank-same l m e = sym (level_of-rank l) ∙ ap (λ k. get_or levels k Level.phrase) e ∙ level_of-rank m

operator_kind-is : (k : TokenKind) (o : BinOp) → operator_kind k ≡ Some o → k ≡ operator_sign o
operator_kind-is (kind.Word word.Or) o e = let s : op.Or ≡ o = cc in ap operator_sign s
operator_kind-is (kind.Word word.And) o e = let s : op.And ≡ o = cc in ap operator_sign s
operator_kind-is (kind.Word word.Div) o e = let s : op.Div ≡ o = cc in ap operator_sign s
operator_kind-is (kind.Word word.Rem) o e = let s : op.Rem ≡ o = cc in ap operator_sign s
operator_kind-is (kind.Sym symbol.Equals) o e = let s : op.Eq ≡ o = cc in ap operator_sign s
operator_kind-is (kind.Sym symbol.LessGreater) o e = let s : op.Ne ≡ o = cc in ap operator_sign s
operator_kind-is (kind.Sym symbol.Less) o e = let s : op.Lt ≡ o = cc in ap operator_sign s
operator_kind-is (kind.Sym symbol.LessEquals) o e = let s : op.Le ≡ o = cc in ap operator_sign s
operator_kind-is (kind.Sym symbol.Greater) o e = let s : op.Gt ≡ o = cc in ap operator_sign s
operator_kind-is (kind.Sym symbol.GreaterEquals) o e = let s : op.Ge ≡ o = cc in ap operator_sign s
operator_kind-is (kind.Sym symbol.Plus) o e = let s : op.Add ≡ o = cc in ap operator_sign s
operator_kind-is (kind.Sym symbol.Minus) o e = let s : op.Sub ≡ o = cc in ap operator_sign s
operator_kind-is (kind.Sym symbol.Star) o e = let s : op.Mul ≡ o = cc in ap operator_sign s
operator_kind-is _ o e = absurd cc

-- an operator of a level, and its token
abbrev pub IsOperator : Level → BinOp → List Token → Type 0
IsOperator c o ts = (operator_level o ≡ c) × (ts ≡ token (operator_sign o) (front ts) ∷ behind ts)

pub operator_is : (c : Level) (o : BinOp) (ts : List Token) → operator_at c ts ≡ Some o → IsOperator c o ts
operator_is c o [] e = absurd cc
operator_is c o (t ∷ ts) e = go (operator_kind t.kind) refl e
  where
    level : (p : BinOp) (b : Bool) → operator_kind t.kind ≡ Some p → (rank (operator_level p) == rank c) ≡ b → of_level c (Some p) ≡ Some o → IsOperator c o (t ∷ ts)
    level p true k f g =
        let same : p ≡ o = let h = rw f at g in cc in (
          ap operator_level (sym same) ∙ rank-same (operator_level p) c (eqb-true (rank (operator_level p)) (rank c) f),
          ap (λ k. token k t.place ∷ ts) (operator_kind-is t.kind p k ∙ ap operator_sign same),
        )
    level p false k f g = absurd (let h = rw f at g in cc)

    go : (q : Option BinOp) → operator_kind t.kind ≡ q → of_level c q ≡ Some o → IsOperator c o (t ∷ ts)
    go None k g = absurd cc
    go (Some p) k g = level p (rank (operator_level p) == rank c) k refl g
