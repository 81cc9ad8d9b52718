-- The texts of tokens, as they are written.
use Rattle.std.proofs.Common.{◌≡◌, ℕ, pos, negsuc, zero, suc, ◌<◌, ◌+◌, ◌/◌, ◌%◌, ◌^◌, Bool, true, false, ◌&&◌, ◌||◌, IsTrue, List, [], ◌∷◌, ◌++◌, length, codes, refl, sym, ap, subst, ◌∙◌, arith, Some, slice_get, unwrap_or, if◌then◌else◌}
use Rattle.std.specs.Fmt.{signed_decimal}
use Rattle.std.specs.Fmt as fmt
use Rattle.std.specs.Str.{bytes_eq}
use Rattle.std.specs.List.{list_all}
use Rattle.std.proofs.lemmas.Slice.Eq.{bytes_eq-Decides}
use Rattle.std.proofs.lemmas.Fmt.{decimal_is_IsNumeral, digits_decimal, digits_value-decimal}
use Rattle.std.proofs.lemmas.Str.Parse.{IsDigitsTest, FoldsDigits, numerals_by_fold, IsNumeralModel}
use Rattle.std.specs.Int.{IsInRange}
use Rattle.std.proofs.lemmas.Bool.Decides.{nat_tests}
use Rattle.fy_base.specs.Outside.{Bytes}
use Rattle.fy_types.specs.Names.{number_of, with_name, has}
use Rattle.fy_types.specs.Print.{name_text}
use Rattle.fy_types.specs.Words.{is_digit, is_identifier}
use Rattle.fy_types.proofs.NameLemmas.{with_name-old}
use Rattle.fy_lexer.specs.declared.token.TokenKind.{TokenKind}
use Rattle.fy_lexer.specs.declared.token.TokenKind.TheVariants as kind
use Rattle.fy_lexer.specs.declared.token.Keyword.{Keyword}
use Rattle.fy_lexer.specs.declared.token.Keyword.TheVariants as word
use Rattle.fy_lexer.specs.declared.token.Symbol.{Symbol}
use Rattle.fy_lexer.specs.declared.token.Symbol.TheVariants as symbol
use Rattle.fy_lexer.specs.Spellings.{Element, code, Elements, Spells, keywords, symbols, keyword_of, symbol_of, hex_value, decimal, is_numeral}
use Rattle.fy_lexer.specs.Tokens.{names_past}
use Rattle.fy_lexer.proofs.RunLemmas.{and-left, and-right, grown}
use Rattle.fy_syntax.specs.Print.{hex_digit, element_text, elements_text}
use Rattle.fy_syntax.specs.Ranges.{AreBytes}
use Rattle.fy_syntax.proofs.RangeLemmas.{IsKindInRange}
use Rattle.std.proofs.lemmas.Int.{ints}
use Rattle.fy_syntax.specs.Printing.{IsIdentifierNumber, IsKnown}

abbrev pub word_text : Keyword → Bytes
word_text word.Let = codes "let"
word_text word.Letrec = codes "letrec"
word_text word.Lettype = codes "lettype"
word_text word.Where = codes "where"
word_text word.In = codes "in"
word_text word.New = codes "new"
word_text word.Escape = codes "escape"
word_text word.Accept = codes "accept"
word_text word.If = codes "if"
word_text word.Then = codes "then"
word_text word.Else = codes "else"
word_text word.While = codes "while"
word_text word.Do = codes "do"
word_text word.Loop = codes "loop"
word_text word.Seq = codes "seq"
word_text word.Skip = codes "skip"
word_text word.True = codes "true"
word_text word.False = codes "false"
word_text word.And = codes "and"
word_text word.Or = codes "or"
word_text word.Not = codes "not"
word_text word.Ord = codes "ord"
word_text word.Chr = codes "chr"
word_text word.Div = codes "div"
word_text word.Rem = codes "rem"
word_text word.Ns = codes "ns"
word_text word.Int = codes "int"
word_text word.Bool = codes "bool"
word_text word.Char = codes "char"
word_text word.Comm = codes "comm"
word_text word.Compl = codes "compl"
word_text word.IntAcc = codes "intacc"
word_text word.BoolAcc = codes "boolacc"
word_text word.CharAcc = codes "characc"

abbrev pub symbol_text : Symbol → Bytes
symbol_text symbol.OpenParen = codes "("
symbol_text symbol.CloseParen = codes ")"
symbol_text symbol.Comma = codes ","
symbol_text symbol.Semicolon = codes ";"
symbol_text symbol.Colon = codes ":"
symbol_text symbol.ColonEquals = codes ":="
symbol_text symbol.EqualsEquals = codes "=="
symbol_text symbol.Equals = codes "="
symbol_text symbol.LessGreater = codes "<>"
symbol_text symbol.Less = codes "<"
symbol_text symbol.LessEquals = codes "<="
symbol_text symbol.Greater = codes ">"
symbol_text symbol.GreaterEquals = codes ">="
symbol_text symbol.Plus = codes "+"
symbol_text symbol.Minus = codes "-"
symbol_text symbol.Star = codes "*"
symbol_text symbol.Dot = codes "."
symbol_text symbol.Arrow = codes "->"
symbol_text symbol.Ampersand = codes "&"
symbol_text symbol.Bar = codes "|"
symbol_text symbol.Backslash = codes "\\"

-- how a token is written
abbrev pub kind_text : List Bytes → TokenKind → Bytes
kind_text names (kind.Ident n) = name_text names n
kind_text names (kind.Number v) = signed_decimal v
kind_text names (kind.Letter c) = codes "'" ++ (element_text c ++ codes "'")
kind_text names (kind.Str bytes) = codes "\"" ++ (elements_text bytes ++ codes "\"")
kind_text names (kind.Word w) = word_text w
kind_text names (kind.Sym s) = symbol_text s
kind_text names kind.End = []

word_spelled : (w : Keyword) → keyword_of (word_text w) ≡ Some w
unfolding keywords
word_spelled = elim [
  | word.Let ↦ refl
  | word.Letrec ↦ refl
  | word.Lettype ↦ refl
  | word.Where ↦ refl
  | word.In ↦ refl
  | word.New ↦ refl
  | word.Escape ↦ refl
  | word.Accept ↦ refl
  | word.If ↦ refl
  | word.Then ↦ refl
  | word.Else ↦ refl
  | word.While ↦ refl
  | word.Do ↦ refl
  | word.Loop ↦ refl
  | word.Seq ↦ refl
  | word.Skip ↦ refl
  | word.True ↦ refl
  | word.False ↦ refl
  | word.And ↦ refl
  | word.Or ↦ refl
  | word.Not ↦ refl
  | word.Ord ↦ refl
  | word.Chr ↦ refl
  | word.Div ↦ refl
  | word.Rem ↦ refl
  | word.Ns ↦ refl
  | word.Int ↦ refl
  | word.Bool ↦ refl
  | word.Char ↦ refl
  | word.Comm ↦ refl
  | word.Compl ↦ refl
  | word.IntAcc ↦ refl
  | word.BoolAcc ↦ refl
  | word.CharAcc ↦ refl
]

symbol_spelled : (s : Symbol) → symbol_of (symbol_text s) ≡ Some s
unfolding symbols
symbol_spelled = elim [
  | symbol.OpenParen ↦ refl
  | symbol.CloseParen ↦ refl
  | symbol.Comma ↦ refl
  | symbol.Semicolon ↦ refl
  | symbol.Colon ↦ refl
  | symbol.ColonEquals ↦ refl
  | symbol.EqualsEquals ↦ refl
  | symbol.Equals ↦ refl
  | symbol.LessGreater ↦ refl
  | symbol.Less ↦ refl
  | symbol.LessEquals ↦ refl
  | symbol.Greater ↦ refl
  | symbol.GreaterEquals ↦ refl
  | symbol.Plus ↦ refl
  | symbol.Minus ↦ refl
  | symbol.Star ↦ refl
  | symbol.Dot ↦ refl
  | symbol.Arrow ↦ refl
  | symbol.Ampersand ↦ refl
  | symbol.Bar ↦ refl
  | symbol.Backslash ↦ refl
]

hex_back : (d : ℕ) → d < 16 → hex_value (hex_digit d) ≡ Some d
hex_back zero h = refl
hex_back (suc zero) h = refl
hex_back (suc (suc zero)) h = refl
hex_back (suc (suc (suc zero))) h = refl
hex_back (suc (suc (suc (suc zero)))) h = refl
hex_back (suc (suc (suc (suc (suc zero))))) h = refl
hex_back (suc (suc (suc (suc (suc (suc zero)))))) h = refl
hex_back (suc (suc (suc (suc (suc (suc (suc zero))))))) h = refl
hex_back (suc (suc (suc (suc (suc (suc (suc (suc zero)))))))) h = refl
hex_back (suc (suc (suc (suc (suc (suc (suc (suc (suc zero))))))))) h = refl
hex_back (suc (suc (suc (suc (suc (suc (suc (suc (suc (suc zero)))))))))) h = refl
hex_back (suc (suc (suc (suc (suc (suc (suc (suc (suc (suc (suc zero))))))))))) h = refl
hex_back (suc (suc (suc (suc (suc (suc (suc (suc (suc (suc (suc (suc zero)))))))))))) h = refl
hex_back (suc (suc (suc (suc (suc (suc (suc (suc (suc (suc (suc (suc (suc zero))))))))))))) h = refl
hex_back (suc (suc (suc (suc (suc (suc (suc (suc (suc (suc (suc (suc (suc (suc zero)))))))))))))) h = refl
hex_back (suc (suc (suc (suc (suc (suc (suc (suc (suc (suc (suc (suc (suc (suc (suc zero))))))))))))))) h = refl
hex_back (suc (suc (suc (suc (suc (suc (suc (suc (suc (suc (suc (suc (suc (suc (suc (suc n)))))))))))))))) h = absurd (omega arith)

element_spelled : (quote c : ℕ) → c < 256 → Element quote (element_text c) c
element_spelled quote c h =
    code (hex_digit (c / 16)) (hex_digit (c % 16)) (c / 16) (c % 16) refl (hex_back (c / 16) (omega arith)) (hex_back (c % 16) (omega arith)) (omega arith)

elements_spelled : (quote : ℕ) (bytes : Bytes) → AreBytes bytes → Elements quote (elements_text bytes) bytes
elements_spelled quote [] h = refl
elements_spelled quote (c ∷ bytes) h = (element_text c, elements_text bytes, refl, element_spelled quote c h.0, elements_spelled quote bytes h.1)

-- numbers
digits_test : IsDigitsTest (λ ds. IsTrue (list_all is_digit ds))
digits_test = record {
  empty = refl;
  parts = λ c cs h. (digit_range c (and-left _ _ h), and-right _ _ h);
  more = λ c cs h k. both (is_digit c) (list_all is_digit cs) (range_digit c h) k;
}
  where
    digit_range : (c : ℕ) → is_digit c ≡ true → IsInRange 48 57 c
    digit_range c h = grind (arith, nat_tests)

    range_digit : (c : ℕ) → IsInRange 48 57 c → is_digit c ≡ true
    range_digit c h = grind (arith, nat_tests)

    both : (a b : Bool) → a ≡ true → b ≡ true → (a && b) ≡ true
    both true b e f = f
    both false b e f = absurd cc

digits_fold : FoldsDigits grown
digits_fold = record {
  empty = λ n. refl;
  more = λ n c cs h. ap (λ k. grown k cs) (omega arith);
}

digits_model : IsNumeralModel (λ ds. IsTrue (list_all is_digit ds)) (grown 0)
digits_model = numerals_by_fold (λ ds. IsTrue (list_all is_digit ds)) digits_test grown digits_fold

filled_numeral : (ds : Bytes) → 0 < length ds → list_all is_digit ds ≡ true → is_numeral ds ≡ true
filled_numeral [] h e = absurd (omega arith)
filled_numeral (d ∷ ds) h e = e

number_spelled : (n : ℕ) → n < 2 ^ 64 → IsTrue (is_numeral (fmt.decimal n)) × (pos n ≡ pos (decimal (fmt.decimal n)))
number_spelled n h = (
  filled_numeral (fmt.decimal n) (decimal_is_IsNumeral n h).0.0 (digits_decimal digits_model n h),
  ap pos (sym (digits_value-decimal digits_model n h)),
)

-- names
text_back : (names : List Bytes) (text : Bytes) → has names text ≡ true → slice_get names (number_of names text) ≡ Some text
text_back [] text h = absurd cc
text_back (name ∷ names) text h = go (bytes_eq text name) (text_back names text) refl h
  where
    next : (n : ℕ) → n + 1 ≡ suc n
    next n = omega arith

    go : (b : Bool) → (has names text ≡ true → slice_get names (number_of names text) ≡ Some text) → bytes_eq text name ≡ b → (b || has names text) ≡ true →
        slice_get (name ∷ names) (if b then 0 else number_of names text + 1) ≡ Some text
    go true r f h = ap Some (sym ((bytes_eq-Decides text name).0 f))
    go false r f h = ap (λ n. slice_get (name ∷ names) n) (next (number_of names text)) ∙ r h

name_back : (names : List Bytes) (n : ℕ) (h : IsIdentifierNumber names n) → name_text names n ≡ h.text
name_back names n h = ap (name_text names) h.number ∙ ap (λ o. unwrap_or o []) (text_back names h.text h.known)

-- what is written of a token of a program spells it
pub spelled : (names : List Bytes) (k : TokenKind) → IsKnown names k → IsKindInRange k → Spells names k (kind_text names k)
spelled names (kind.Ident n) h r =
    let e = name_back names n h in
    (subst (λ t. IsTrue (is_identifier t)) (sym e) h.identifier, h.number ∙ ap (number_of names) (sym e))
spelled names (kind.Number (pos n)) h r = number_spelled n (omega (arith, ints, r))
spelled names (kind.Number (negsuc n)) h r = absurd (omega (arith, ints, h))
spelled names (kind.Letter c) h r = (element_text c, refl, element_spelled 39 c r)
spelled names (kind.Str bytes) h r = (elements_text bytes, refl, elements_spelled 34 bytes r)
spelled names (kind.Word w) h r = word_spelled w
spelled names (kind.Sym s) h r = symbol_spelled s
spelled names kind.End h r = r

-- and leaves the names as they are
pub names_stay : (names : List Bytes) (k : TokenKind) → IsKnown names k → names_past k (kind_text names k) names ≡ names
names_stay names (kind.Ident n) h =
    ap (with_name names) (name_back names n h) ∙ with_name-old names h.text h.known
names_stay names (kind.Number v) h = refl
names_stay names (kind.Letter c) h = refl
names_stay names (kind.Str bytes) h = refl
names_stay names (kind.Word w) h = refl
names_stay names (kind.Sym s) h = refl
names_stay names kind.End h = refl
