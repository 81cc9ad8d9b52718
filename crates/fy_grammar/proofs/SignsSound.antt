-- What a test or a word of reading says of the next token.
use Rattle.std.proofs.Common.{◌≡◌, ℕ, true, false, IsTrue, List, [], ◌∷◌, refl, sym, subst}
use Rattle.std.specs.Prelude.{Option, Some, None, Ok, Err}
use Rattle.fy_base.specs.declared.data.Place.{Place}
use Rattle.fy_base.specs.declared.data.BinOp.{BinOp}
use Rattle.fy_base.specs.declared.data.BinOp.TheVariants as op
use Rattle.fy_base.specs.declared.data.UnOp.{UnOp}
use Rattle.fy_base.specs.declared.data.UnOp.TheVariants as unary
use Rattle.fy_types.specs.declared.types.Atom.{Atom}
use Rattle.fy_lexer.specs.declared.token.Token.{Token}
use Rattle.fy_lexer.specs.declared.token.TokenKind.{TokenKind}
use Rattle.fy_lexer.specs.declared.token.TokenKind.TheVariants as kind
use Rattle.fy_lexer.specs.declared.token.Keyword.{Keyword}
use Rattle.fy_lexer.specs.declared.token.Keyword.TheVariants as word
use Rattle.fy_lexer.specs.declared.token.Symbol.{Symbol}
use Rattle.fy_syntax.specs.declared.surface.Prefixed.{Prefixed}
use Rattle.fy_syntax.specs.Signs.{front, token, symbol_at, word_at, ident_at, Level, operator_sign, prefix_sign, atom_word, is_data}
use Rattle.fy_syntax.specs.Spells.{Prefixes}
use Rattle.fy_syntax.specs.Reader.{Fault, behind, begins_with, begins_with_word, expect, expect_word, name_at, name_of, data_at, data_kind, prefix_kind, prefixes_at, prefixes_step, operator_at}
use Rattle.fy_syntax.proofs.TokenLemmas.{stopped, begins_is, begins_word_is, prefix_is, operator_is}
use Rattle.fy_grammar.specs.Program.{is_end}
use Rattle.fy_grammar.proofs.Holding.{Holds, holds_if}

-- a property of tokens that stays behind each token but the end
pub record Lasts (E : List Token → Type 0) : Type 0 where
  pub behind : (t : Token) (ts : List Token) → is_end t.kind ≡ false → E (t ∷ ts) → E ts

abbrev pub Fails : (List Token → Type 0) → Fault → Type 0
Fails E e = E (stopped e)

-- the property behind a symbol that is there
pub lasts_symbol : (E : List Token → Type 0) → Lasts E → (s : Symbol) (ts : List Token) → begins_with s ts ≡ true → E ts → E (behind ts)
lasts_symbol E l s ts e h = l.behind (symbol_at s (front ts)) (behind ts) refl (subst E (begins_is s ts e) h)

pub lasts_word : (E : List Token → Type 0) → Lasts E → (w : Keyword) (ts : List Token) → begins_with_word w ts ≡ true → E ts → E (behind ts)
lasts_word E l w ts e h = l.behind (word_at w (front ts)) (behind ts) refl (subst E (begins_word_is w ts e) h)

abbrev pub IsBehind : (List Token → Type 0) → Token → List Token → List Token → Type 0
IsBehind E t ts r = (ts ≡ t ∷ r) × E r

pub expect_sound : (E : List Token → Type 0) → Lasts E → (s : Symbol) (ts : List Token) → E ts → Holds (IsBehind E (symbol_at s (front ts)) ts) (Fails E) (expect s ts)
expect_sound E l s ts h =
    holds_if (IsBehind E (symbol_at s (front ts)) ts) (Fails E) (begins_with s ts) (Ok (behind ts)) (Err (Fault.wrong ts))
    (λ e. (begins_is s ts e, lasts_symbol E l s ts e h)) (λ e. h)

pub expect_word_sound : (E : List Token → Type 0) → Lasts E → (w : Keyword) (ts : List Token) → E ts → Holds (IsBehind E (word_at w (front ts)) ts) (Fails E) (expect_word w ts)
expect_word_sound E l w ts h =
    holds_if (IsBehind E (word_at w (front ts)) ts) (Fails E) (begins_with_word w ts) (Ok (behind ts)) (Err (Fault.wrong ts))
    (λ e. (begins_word_is w ts e, lasts_word E l w ts e h)) (λ e. h)

abbrev pub IsNamed : (List Token → Type 0) → List Token → ℕ × List Token → Type 0
IsNamed E ts x = (ts ≡ ident_at x.0 (front ts) ∷ x.1) × E x.1

pub name_sound : (E : List Token → Type 0) → Lasts E → (ts : List Token) → E ts → Holds (IsNamed E ts) (Fails E) (name_at ts)
name_sound E l [] h = h
name_sound E l (t ∷ ts) h = go t.kind h
  where
    go : (k : TokenKind) → E (token k t.place ∷ ts) → Holds (IsNamed E (token k t.place ∷ ts)) (Fails E) (name_of k (token k t.place ∷ ts))
    go (kind.Ident n) h = (refl, l.behind (ident_at n t.place) ts refl h)
    go _ h = h

abbrev pub IsDatum : (List Token → Type 0) → List Token → Atom × List Token → Type 0
IsDatum E ts x = IsTrue (is_data x.0) × (ts ≡ word_at (atom_word x.0) (front ts) ∷ x.1) × E x.1

pub data_sound : (E : List Token → Type 0) → Lasts E → (ts : List Token) → E ts → Holds (IsDatum E ts) (Fails E) (data_at ts)
data_sound E l [] h = h
data_sound E l (t ∷ ts) h = go t.kind h
  where
    go : (k : TokenKind) → E (token k t.place ∷ ts) → Holds (IsDatum E (token k t.place ∷ ts)) (Fails E) (data_kind k (token k t.place ∷ ts))
    go (kind.Word word.Int) h = (refl, refl, l.behind (word_at word.Int t.place) ts refl h)
    go (kind.Word word.Bool) h = (refl, refl, l.behind (word_at word.Bool t.place) ts refl h)
    go (kind.Word word.Char) h = (refl, refl, l.behind (word_at word.Char t.place) ts refl h)
    go _ h = h

-- operators in front
prefix_no_end : (o : UnOp) → is_end (prefix_sign o) ≡ false
prefix_no_end unary.Neg = refl
prefix_no_end unary.Not = refl
prefix_no_end unary.Ord = refl
prefix_no_end unary.Chr = refl

abbrev pub ArePrefixes : (List Token → Type 0) → List Token → List Prefixed × List Token → Type 0
ArePrefixes E ts x = Prefixes x.0 ts x.1 × E x.1

prefixes_step_sound : (E : List Token → Type 0) (k : TokenKind) (p : Place) (ts : List Token) (more : List Prefixed × List Token) → E (token k p ∷ ts) → ArePrefixes E ts more →
    (o : Option UnOp) → prefix_kind k ≡ o → ArePrefixes E (token k p ∷ ts) (prefixes_step o p more (token k p ∷ ts))
prefixes_step_sound E k p ts more h m None e = (Prefixes.no_prefixes, h)
prefixes_step_sound E k p ts more h m (Some o) e =
    (subst (λ (k : TokenKind). Prefixes (record { op = o; at = p } ∷ more.0) (token k p ∷ ts) more.1) (sym (prefix_is k o e)) (Prefixes.and_prefix m.0), m.1)

prefixes_stop : (E : List Token → Type 0) (k : TokenKind) (p : Place) (ts : List Token) (more : List Prefixed × List Token) → E (token k p ∷ ts) →
    prefix_kind k ≡ None → ArePrefixes E (token k p ∷ ts) (prefixes_step (prefix_kind k) p more (token k p ∷ ts))
prefixes_stop E k p ts more h e = rw e (Prefixes.no_prefixes, h)

pub prefixes_sound : (E : List Token → Type 0) → Lasts E → (ts : List Token) → E ts → ArePrefixes E ts (prefixes_at ts)
prefixes_sound E l [] h = (Prefixes.no_prefixes, h)
prefixes_sound E l (t ∷ ts) h = go (λ k. prefixes_sound E l ts k) (prefix_kind t.kind) refl
  where
    go : (E ts → ArePrefixes E ts (prefixes_at ts)) → (o : Option UnOp) → prefix_kind t.kind ≡ o → ArePrefixes E (t ∷ ts) (prefixes_step (prefix_kind t.kind) t.place (prefixes_at ts) (t ∷ ts))
    go ih None e = prefixes_stop E t.kind t.place ts (prefixes_at ts) h e
    go ih (Some o) e =
        prefixes_step_sound E t.kind t.place ts (prefixes_at ts) h
        (ih (l.behind t ts (subst (λ (k : TokenKind). is_end k ≡ false) (sym (prefix_is t.kind o e)) (prefix_no_end o)) h)) (prefix_kind t.kind) refl

-- operators between operands
operator_no_end : (o : BinOp) → is_end (operator_sign o) ≡ false
operator_no_end = elim [
  | op.Add ↦ refl
  | op.Sub ↦ refl
  | op.Mul ↦ refl
  | op.Div ↦ refl
  | op.Rem ↦ refl
  | op.Eq ↦ refl
  | op.Ne ↦ refl
  | op.Lt ↦ refl
  | op.Le ↦ refl
  | op.Gt ↦ refl
  | op.Ge ↦ refl
  | op.And ↦ refl
  | op.Or ↦ refl
]

pub lasts_operator : (E : List Token → Type 0) → Lasts E → (c : Level) (o : BinOp) (ts : List Token) → operator_at c ts ≡ Some o → E ts → E (behind ts)
lasts_operator E l c o ts e h = l.behind (token (operator_sign o) (front ts)) (behind ts) (operator_no_end o) (subst E (operator_is c o ts e).1 h)
