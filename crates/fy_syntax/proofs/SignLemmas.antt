-- What tests of tokens say, and which levels a token goes on with.
use Rattle.std.proofs.lemmas.Bool.{eqb-true, eq-eqb}
use Rattle.std.proofs.Common.{◌≡◌, ◌<◌, ℕ, Bool, true, false, List, [], ◌∷◌, get_or, refl, sym, ap, ◌∙◌, arith}
use Rattle.std.specs.Prelude.{Option, Some, None, ◌==◌}
use Rattle.fy_base.specs.declared.data.BinOp.{BinOp}
use Rattle.fy_base.specs.declared.data.BinOp.TheVariants as op
use Rattle.fy_base.specs.declared.data.UnOp.{UnOp}
use Rattle.fy_base.specs.declared.data.UnOp.TheVariants as unary
use Rattle.fy_lexer.specs.declared.token.Token.{Token}
use Rattle.fy_lexer.specs.declared.token.TokenKind.{TokenKind}
use Rattle.fy_lexer.specs.declared.token.TokenKind.TheVariants as kind
use Rattle.fy_lexer.specs.declared.token.Keyword.{Keyword}
use Rattle.fy_lexer.specs.declared.token.Keyword.TheVariants as word
use Rattle.fy_lexer.specs.declared.token.Symbol.{Symbol}
use Rattle.fy_lexer.specs.declared.token.Symbol.TheVariants as symbol
use Rattle.fy_syntax.specs.Signs.{Level, TypeLevel, operator_sign, operator_level, prefix_sign}
use Rattle.fy_syntax.specs.Reader.{word_number, symbol_number, is_word_kind, is_symbol_kind, begins_with, kind_at, rank, starts, starts_kind, prefix_kind, operator_kind, operator_at, of_level}

-- the greatest level that a token goes on with, in types
abbrev pub type_reach : TokenKind → ℕ
type_reach (kind.Sym symbol.Arrow) = 1
type_reach (kind.Sym symbol.Ampersand) = 2
type_reach (kind.Sym symbol.Colon) = 4
type_reach _ = 0

abbrev pub type_reach_of : List Token → ℕ
type_reach_of ts = type_reach (kind_at ts)

abbrev pub type_rank : TypeLevel → ℕ
type_rank TypeLevel.type = 1
type_rank TypeLevel.inter = 2
type_rank TypeLevel.field = 3
type_rank TypeLevel.primary = 4

-- the greatest level that a token goes on with; `==` is above all, since it makes a name a field
abbrev pub reach : TokenKind → ℕ
reach (kind.Ident n) = 10
reach (kind.Number v) = 10
reach (kind.Letter c) = 10
reach (kind.Str bytes) = 10
reach (kind.Word word.True) = 10
reach (kind.Word word.False) = 10
reach (kind.Word word.Skip) = 10
reach (kind.Word word.Seq) = 10
reach (kind.Sym symbol.OpenParen) = 10
reach (kind.Sym symbol.Comma) = 1
reach (kind.Sym symbol.Semicolon) = 2
reach (kind.Sym symbol.ColonEquals) = 3
reach (kind.Word word.Or) = 4
reach (kind.Word word.And) = 5
reach (kind.Sym symbol.Equals) = 6
reach (kind.Sym symbol.LessGreater) = 6
reach (kind.Sym symbol.Less) = 6
reach (kind.Sym symbol.LessEquals) = 6
reach (kind.Sym symbol.Greater) = 6
reach (kind.Sym symbol.GreaterEquals) = 6
reach (kind.Sym symbol.Plus) = 7
reach (kind.Sym symbol.Minus) = 7
reach (kind.Sym symbol.Star) = 8
reach (kind.Word word.Div) = 8
reach (kind.Word word.Rem) = 8
reach (kind.Sym symbol.Dot) = 11
reach (kind.Sym symbol.EqualsEquals) = 12
reach _ = 0

abbrev pub reach_of : List Token → ℕ
reach_of ts = reach (kind_at ts)

words : List Keyword
words =
    word.Let ∷ word.Letrec ∷ word.Lettype ∷ word.Where ∷ word.In ∷ word.New ∷ word.Escape ∷ word.Accept ∷ word.If ∷
    word.Then ∷ word.Else ∷ word.While ∷ word.Do ∷ word.Loop ∷ word.Seq ∷ word.Skip ∷ word.True ∷ word.False ∷
    word.And ∷ word.Or ∷ word.Not ∷ word.Ord ∷ word.Chr ∷ word.Div ∷ word.Rem ∷ word.Ns ∷ word.Int ∷ word.Bool ∷
    word.Char ∷ word.Comm ∷ word.Compl ∷ word.IntAcc ∷ word.BoolAcc ∷ word.CharAcc ∷ []

symbols : List Symbol
symbols =
    symbol.OpenParen ∷ symbol.CloseParen ∷ symbol.Comma ∷ symbol.Semicolon ∷ symbol.Colon ∷ symbol.ColonEquals ∷
    symbol.EqualsEquals ∷ symbol.Equals ∷ symbol.LessGreater ∷ symbol.Less ∷ symbol.LessEquals ∷ symbol.Greater ∷
    symbol.GreaterEquals ∷ symbol.Plus ∷ symbol.Minus ∷ symbol.Star ∷ symbol.Dot ∷ symbol.Arrow ∷ symbol.Ampersand ∷
    symbol.Bar ∷ symbol.Backslash ∷ []

word_of-number : (w : Keyword) → get_or words (word_number w) word.Let ≡ w
unfolding words
word_of-number = elim [
  | word.Let ↦ refl
  | word.Letrec ↦ refl
  | word.Lettype ↦ refl
  | word.Where ↦ refl
  | word.In ↦ refl
  | word.New ↦ refl
  | word.Escape ↦ refl
  | word.Accept ↦ refl
  | word.If ↦ refl
  | word.Then ↦ refl
  | word.Else ↦ refl
  | word.While ↦ refl
  | word.Do ↦ refl
  | word.Loop ↦ refl
  | word.Seq ↦ refl
  | word.Skip ↦ refl
  | word.True ↦ refl
  | word.False ↦ refl
  | word.And ↦ refl
  | word.Or ↦ refl
  | word.Not ↦ refl
  | word.Ord ↦ refl
  | word.Chr ↦ refl
  | word.Div ↦ refl
  | word.Rem ↦ refl
  | word.Ns ↦ refl
  | word.Int ↦ refl
  | word.Bool ↦ refl
  | word.Char ↦ refl
  | word.Comm ↦ refl
  | word.Compl ↦ refl
  | word.IntAcc ↦ refl
  | word.BoolAcc ↦ refl
  | word.CharAcc ↦ refl
]

symbol_of-number : (s : Symbol) → get_or symbols (symbol_number s) symbol.OpenParen ≡ s
unfolding symbols
symbol_of-number = elim [
  | symbol.OpenParen ↦ refl
  | symbol.CloseParen ↦ refl
  | symbol.Comma ↦ refl
  | symbol.Semicolon ↦ refl
  | symbol.Colon ↦ refl
  | symbol.ColonEquals ↦ refl
  | symbol.EqualsEquals ↦ refl
  | symbol.Equals ↦ refl
  | symbol.LessGreater ↦ refl
  | symbol.Less ↦ refl
  | symbol.LessEquals ↦ refl
  | symbol.Greater ↦ refl
  | symbol.GreaterEquals ↦ refl
  | symbol.Plus ↦ refl
  | symbol.Minus ↦ refl
  | symbol.Star ↦ refl
  | symbol.Dot ↦ refl
  | symbol.Arrow ↦ refl
  | symbol.Ampersand ↦ refl
  | symbol.Bar ↦ refl
  | symbol.Backslash ↦ refl
]

pub word_number-same : (v w : Keyword) → word_number v ≡ word_number w → v ≡ w
word_number-same v w e = sym (word_of-number v) ∙ ap (λ k. get_or words k word.Let) e ∙ word_of-number w

pub symbol_number-same : (s t : Symbol) → symbol_number s ≡ symbol_number t → s ≡ t
symbol_number-same s t e = sym (symbol_of-number s) ∙ ap (λ k. get_or symbols k symbol.OpenParen) e ∙ symbol_of-number t

pub kind_is_word : (w : Keyword) (k : TokenKind) → is_word_kind w k ≡ true → k ≡ kind.Word w
kind_is_word w (kind.Word v) e = ap kind.Word (sym (word_number-same w v (eqb-true (word_number w) (word_number v) e)))
kind_is_word w _ e = absurd cc

pub kind_is_symbol : (s : Symbol) (k : TokenKind) → is_symbol_kind s k ≡ true → k ≡ kind.Sym s
kind_is_symbol s (kind.Sym t) e = ap kind.Sym (sym (symbol_number-same s t (eqb-true (symbol_number s) (symbol_number t) e)))
kind_is_symbol s _ e = absurd cc

pub is_word_same : (w : Keyword) → is_word_kind w (kind.Word w) ≡ true
is_word_same w = eq-eqb (word_number w) (word_number w) refl

pub is_symbol_same : (s : Symbol) → is_symbol_kind s (kind.Sym s) ≡ true
is_symbol_same s = eq-eqb (symbol_number s) (symbol_number s) refl

pub not_true : (b : Bool) → (b ≡ true → ⊥) → b ≡ false
not_true true f = absurd (f refl)
not_true false f = refl

-- a symbol of a higher level doesn't stand where a level ends
pub type_stops : (s : Symbol) (ts : List Token) → type_reach_of ts < type_reach (kind.Sym s) → begins_with s ts ≡ false
type_stops s ts h = not_true (begins_with s ts) (λ e. absurd (let i : type_reach_of ts ≡ type_reach (kind.Sym s) = ap type_reach (kind_is_symbol s (kind_at ts) e) in omega arith))

pub stops : (s : Symbol) (ts : List Token) → reach_of ts < reach (kind.Sym s) → begins_with s ts ≡ false
stops s ts h = not_true (begins_with s ts) (λ e. absurd (let i : reach_of ts ≡ reach (kind.Sym s) = ap reach (kind_is_symbol s (kind_at ts) e) in omega arith))

-- an operator is read back from how it is written
pub operator_read : (o : BinOp) → operator_kind (operator_sign o) ≡ Some o
operator_read = elim [
  | op.Add ↦ refl
  | op.Sub ↦ refl
  | op.Mul ↦ refl
  | op.Div ↦ refl
  | op.Rem ↦ refl
  | op.Eq ↦ refl
  | op.Ne ↦ refl
  | op.Lt ↦ refl
  | op.Le ↦ refl
  | op.Gt ↦ refl
  | op.Ge ↦ refl
  | op.And ↦ refl
  | op.Or ↦ refl
]

pub operator_reach : (o : BinOp) → reach (operator_sign o) ≡ rank (operator_level o)
operator_reach = elim [
  | op.Add ↦ refl
  | op.Sub ↦ refl
  | op.Mul ↦ refl
  | op.Div ↦ refl
  | op.Rem ↦ refl
  | op.Eq ↦ refl
  | op.Ne ↦ refl
  | op.Lt ↦ refl
  | op.Le ↦ refl
  | op.Gt ↦ refl
  | op.Ge ↦ refl
  | op.And ↦ refl
  | op.Or ↦ refl
]

pub prefix_read : (o : UnOp) → prefix_kind (prefix_sign o) ≡ Some o
prefix_read = elim [
  | unary.Neg ↦ refl
  | unary.Not ↦ refl
  | unary.Ord ↦ refl
  | unary.Chr ↦ refl
]

-- an operator that is read is a token of its level
pub operator_kind-reach : (k : TokenKind) (o : BinOp) → operator_kind k ≡ Some o → reach k ≡ rank (operator_level o)
operator_kind-reach (kind.Word word.Or) o e = let s : op.Or ≡ o = cc in ap (λ p. rank (operator_level p)) s
operator_kind-reach (kind.Word word.And) o e = let s : op.And ≡ o = cc in ap (λ p. rank (operator_level p)) s
operator_kind-reach (kind.Word word.Div) o e = let s : op.Div ≡ o = cc in ap (λ p. rank (operator_level p)) s
operator_kind-reach (kind.Word word.Rem) o e = let s : op.Rem ≡ o = cc in ap (λ p. rank (operator_level p)) s
operator_kind-reach (kind.Sym symbol.Equals) o e = let s : op.Eq ≡ o = cc in ap (λ p. rank (operator_level p)) s
operator_kind-reach (kind.Sym symbol.LessGreater) o e = let s : op.Ne ≡ o = cc in ap (λ p. rank (operator_level p)) s
operator_kind-reach (kind.Sym symbol.Less) o e = let s : op.Lt ≡ o = cc in ap (λ p. rank (operator_level p)) s
operator_kind-reach (kind.Sym symbol.LessEquals) o e = let s : op.Le ≡ o = cc in ap (λ p. rank (operator_level p)) s
operator_kind-reach (kind.Sym symbol.Greater) o e = let s : op.Gt ≡ o = cc in ap (λ p. rank (operator_level p)) s
operator_kind-reach (kind.Sym symbol.GreaterEquals) o e = let s : op.Ge ≡ o = cc in ap (λ p. rank (operator_level p)) s
operator_kind-reach (kind.Sym symbol.Plus) o e = let s : op.Add ≡ o = cc in ap (λ p. rank (operator_level p)) s
operator_kind-reach (kind.Sym symbol.Minus) o e = let s : op.Sub ≡ o = cc in ap (λ p. rank (operator_level p)) s
operator_kind-reach (kind.Sym symbol.Star) o e = let s : op.Mul ≡ o = cc in ap (λ p. rank (operator_level p)) s
operator_kind-reach _ o e = absurd cc

-- of a level, and of no other
pub of_level-same : (c : Level) (o : BinOp) → operator_level o ≡ c → of_level c (Some o) ≡ Some o
of_level-same c o e = rw (eq-eqb (rank (operator_level o)) (rank c) (ap rank e)) refl

of_level-is : (c : Level) (o p : BinOp) → of_level c (Some o) ≡ Some p → rank (operator_level o) ≡ rank c
of_level-is c o p e = eqb-true (rank (operator_level o)) (rank c) (go (rank (operator_level o) == rank c) refl)
  where
    go : (b : Bool) → (rank (operator_level o) == rank c) ≡ b → b ≡ true
    go true f = refl
    go false f = absurd (let g : of_level c (Some o) ≡ None = rw f refl in cc)

pub operator_stops : (c : Level) (ts : List Token) → reach_of ts < rank c → operator_at c ts ≡ None
operator_stops c ts h = go (operator_kind (kind_at ts)) refl
  where
    found : (o : BinOp) (q : Option BinOp) → operator_kind (kind_at ts) ≡ Some o → of_level c (Some o) ≡ q → q ≡ None
    found o None e f = refl
    found o (Some p) e f = absurd (omega (arith, operator_kind-reach (kind_at ts) o e, of_level-is c o p f))

    go : (q : Option BinOp) → operator_kind (kind_at ts) ≡ q → of_level c q ≡ None
    go None e = refl
    go (Some o) e = found o (of_level c (Some o)) e refl

pub starts_reach : (k : TokenKind) → starts_kind k ≡ true → reach k ≡ 10
starts_reach (kind.Ident n) e = refl
starts_reach (kind.Number v) e = refl
starts_reach (kind.Letter c) e = refl
starts_reach (kind.Str bytes) e = refl
starts_reach (kind.Word word.True) e = refl
starts_reach (kind.Word word.False) e = refl
starts_reach (kind.Word word.Skip) e = refl
starts_reach (kind.Word word.Seq) e = refl
starts_reach (kind.Sym symbol.OpenParen) e = refl
starts_reach _ e = absurd cc

pub starts_stops : (ts : List Token) → reach_of ts < 10 → starts ts ≡ false
starts_stops ts h = not_true (starts ts) (λ e. absurd (omega (arith, starts_reach (kind_at ts) e)))

-- what begins a primary is no operator in front of one
pub starts_no_prefix : (k : TokenKind) → starts_kind k ≡ true → prefix_kind k ≡ None
starts_no_prefix (kind.Sym symbol.Minus) e = absurd cc
starts_no_prefix (kind.Word word.Not) e = absurd cc
starts_no_prefix (kind.Word word.Ord) e = absurd cc
starts_no_prefix (kind.Word word.Chr) e = absurd cc
starts_no_prefix _ e = refl
