-- Which form begins, and what stands in front: the tests of the parser, and what the reader does there.
use Rattle.std.proofs.Common.{◌≡◌, ◌<◌, ℕ, Bool, true, false, List, [], ◌∷◌, length, refl, ap, arith}
use Rattle.std.specs.Prelude.{Option, Some, None}
use Rattle.fy_lexer.specs.declared.token.Token.{Token}
use Rattle.fy_lexer.specs.declared.token.TokenKind.{TokenKind}
use Rattle.fy_lexer.specs.declared.token.TokenKind.TheVariants as kind
use Rattle.fy_lexer.specs.declared.token.Keyword.TheVariants as word
use Rattle.fy_lexer.specs.declared.token.Symbol.TheVariants as symbol
use Rattle.fy_base.specs.declared.data.UnOp.{UnOp}
use Rattle.fy_syntax.specs.Trees.{TypeTree}
use Rattle.fy_syntax.specs.Signs.{front}
use Rattle.fy_syntax.specs.Reader.{Read, Inner, behind, kind_at, begins_with, begins_with_word, is_symbol_kind, is_word_kind, nested, term_at, term_by_kind, assign_at, primary_at, primary_by_kind, group_at, seq_at, type_primary, type_by_kind, type_group, fields_at, fields_step, prefixes_at, prefix_kind}
use Rattle.fy_grammar.specs.Forms.{form_kind, form_at, forcing, read_form, name_before, field_name_at}
use Rattle.fy_grammar.specs.declared.form.Form.{Form}
use Rattle.fy_grammar.proofs.Advance.{behind_less}

-- a term that no form begins
operand_kind : (k : TokenKind) (i : Option Inner) (ts : List Token) (b : Bool) → begins_with symbol.EqualsEquals (behind ts) ≡ b → form_kind k b ≡ None → term_by_kind k i ts ≡ assign_at i ts
operand_kind (kind.Sym symbol.Backslash) i ts b e f = absurd cc
operand_kind (kind.Word word.Let) i ts b e f = absurd cc
operand_kind (kind.Word word.Letrec) i ts b e f = absurd cc
operand_kind (kind.Word word.Lettype) i ts b e f = absurd cc
operand_kind (kind.Word word.New) i ts b e f = absurd cc
operand_kind (kind.Word word.Escape) i ts b e f = absurd cc
operand_kind (kind.Word word.Accept) i ts b e f = absurd cc
operand_kind (kind.Word word.If) i ts b e f = absurd cc
operand_kind (kind.Word word.While) i ts b e f = absurd cc
operand_kind (kind.Word word.Loop) i ts b e f = absurd cc
operand_kind (kind.Ident n) i ts true e f = absurd cc
operand_kind (kind.Ident n) i ts false e f = rw e refl
operand_kind _ i ts b e f = refl

pub term_operand : (i : Option Inner) (ts : List Token) → form_at ts ≡ None → term_at i ts ≡ assign_at i ts
term_operand i ts e = operand_kind (kind_at ts) i ts (begins_with symbol.EqualsEquals (behind ts)) refl e

some_form : (f g : Form) → Some f ≡ Some g → f ≡ g
some_form f g e = cc

-- a term that a form begins
formed_kind : (k : TokenKind) (i : Option Inner) (ts : List Token) (b : Bool) (f : Form) → begins_with symbol.EqualsEquals (behind ts) ≡ b → form_kind k b ≡ Some f →
    term_by_kind k i ts ≡ nested i (forcing f ts) (λ inner. read_form f inner ts)
formed_kind (kind.Sym symbol.Backslash) i ts b f e g = rw (← some_form _ f g) refl
formed_kind (kind.Word word.Let) i ts b f e g = rw (← some_form _ f g) refl
formed_kind (kind.Word word.Letrec) i ts b f e g = rw (← some_form _ f g) refl
formed_kind (kind.Word word.Lettype) i ts b f e g = rw (← some_form _ f g) refl
formed_kind (kind.Word word.New) i ts b f e g = rw (← some_form _ f g) refl
formed_kind (kind.Word word.Escape) i ts b f e g = rw (← some_form _ f g) refl
formed_kind (kind.Word word.Accept) i ts b f e g = rw (← some_form _ f g) refl
formed_kind (kind.Word word.If) i ts b f e g = rw (← some_form _ f g) refl
formed_kind (kind.Word word.While) i ts b f e g = rw (← some_form _ f g) refl
formed_kind (kind.Word word.Loop) i ts b f e g = rw (← some_form _ f g) refl
formed_kind (kind.Ident n) i ts true f e g = rw (← some_form _ f g) (rw e refl)
formed_kind (kind.Ident n) i ts false f e g = absurd cc
formed_kind _ i ts b f e g = absurd cc

pub term_form : (i : Option Inner) (ts : List Token) (f : Form) → form_at ts ≡ Some f → term_at i ts ≡ nested i (forcing f ts) (λ inner. read_form f inner ts)
term_form i ts f e = formed_kind (kind_at ts) i ts (begins_with symbol.EqualsEquals (behind ts)) f refl e

-- a primary of one token
leaf_kind : (k : TokenKind) (i : Option Inner) (ts : List Token) → is_symbol_kind symbol.OpenParen k ≡ false → is_word_kind word.Seq k ≡ false → primary_by_kind k None ts ≡ primary_by_kind k i ts
leaf_kind (kind.Sym symbol.OpenParen) i ts e f = absurd cc
leaf_kind (kind.Word word.Seq) i ts e f = absurd cc
leaf_kind _ i ts e f = refl

pub primary_leaf : (i : Option Inner) (ts : List Token) → begins_with symbol.OpenParen ts ≡ false → begins_with_word word.Seq ts ≡ false → primary_at None ts ≡ primary_at i ts
primary_leaf i ts e f = leaf_kind (kind_at ts) i ts e f

group_kind : (k : TokenKind) (i : Option Inner) (ts : List Token) → is_symbol_kind symbol.OpenParen k ≡ true → primary_by_kind k i ts ≡ nested i ts (λ inner. group_at inner ts)
group_kind (kind.Sym symbol.OpenParen) i ts e = refl
group_kind _ i ts e = absurd cc

pub primary_group : (i : Option Inner) (ts : List Token) → begins_with symbol.OpenParen ts ≡ true → primary_at i ts ≡ nested i ts (λ inner. group_at inner ts)
primary_group i ts e = group_kind (kind_at ts) i ts e

parts_kind : (k : TokenKind) (i : Option Inner) (ts : List Token) → is_word_kind word.Seq k ≡ true → primary_by_kind k i ts ≡ nested i ts (λ inner. seq_at inner ts)
parts_kind (kind.Word word.Seq) i ts e = refl
parts_kind _ i ts e = absurd cc

pub primary_parts : (i : Option Inner) (ts : List Token) → begins_with_word word.Seq ts ≡ true → primary_at i ts ≡ nested i ts (λ inner. seq_at inner ts)
primary_parts i ts e = parts_kind (kind_at ts) i ts e

-- types
type_leaf_kind : (k : TokenKind) (i : Option (List Token → Read TypeTree)) (ts : List Token) → is_symbol_kind symbol.OpenParen k ≡ false → type_by_kind k None ts ≡ type_by_kind k i ts
type_leaf_kind (kind.Sym symbol.OpenParen) i ts e = absurd cc
type_leaf_kind (kind.Word word.Ns) i ts e = refl
type_leaf_kind _ i ts e = refl

pub type_leaf : (i : Option (List Token → Read TypeTree)) (ts : List Token) → begins_with symbol.OpenParen ts ≡ false → type_primary None ts ≡ type_primary i ts
type_leaf i ts e = type_leaf_kind (kind_at ts) i ts e

type_group_kind : (k : TokenKind) (i : Option (List Token → Read TypeTree)) (ts : List Token) → is_symbol_kind symbol.OpenParen k ≡ true → type_by_kind k i ts ≡ nested i ts (λ type. type_group type ts)
type_group_kind (kind.Sym symbol.OpenParen) i ts e = refl
type_group_kind _ i ts e = absurd cc

pub type_group_begins : (i : Option (List Token → Read TypeTree)) (ts : List Token) → begins_with symbol.OpenParen ts ≡ true → type_primary i ts ≡ nested i ts (λ type. type_group type ts)
type_group_begins i ts e = type_group_kind (kind_at ts) i ts e

-- names before colons
name_turn : (k : TokenKind) (b : Bool) (n : ℕ) (more : List ℕ × List Token) (all : List Token) → name_before k b ≡ Some n → fields_step k b more all ≡ (n ∷ more.0, more.1)
name_turn (kind.Ident m) true n more all e = let s : m ≡ n = cc in ap (λ k. (k ∷ more.0, more.1)) s
name_turn (kind.Ident m) false n more all e = absurd cc
name_turn _ b n more all e = absurd cc

name_none : (k : TokenKind) (n : ℕ) → name_before k false ≡ Some n → ⊥
name_none (kind.Ident m) n e = cc
name_none _ n e = cc

pub fields_turn : (ts : List Token) (n : ℕ) → field_name_at ts ≡ Some n → fields_at ts ≡ (n ∷ (fields_at (behind (behind ts))).0, (fields_at (behind (behind ts))).1)
fields_turn [] n e = absurd cc
fields_turn (t ∷ []) n e = absurd (name_none t.kind n e)
fields_turn (t ∷ u ∷ ts) n e = name_turn t.kind (is_symbol_kind symbol.Colon u.kind) n (fields_at ts) (t ∷ u ∷ ts) e

name_ends : (k : TokenKind) (b : Bool) (more : List ℕ × List Token) (all : List Token) → name_before k b ≡ None → fields_step k b more all ≡ ([], all)
name_ends (kind.Ident m) true more all e = absurd cc
name_ends _ b more all e = refl

pub fields_end : (ts : List Token) → field_name_at ts ≡ None → fields_at ts ≡ ([], ts)
fields_end [] e = refl
fields_end (t ∷ []) e = refl
fields_end (t ∷ u ∷ ts) e = name_ends t.kind (is_symbol_kind symbol.Colon u.kind) (fields_at ts) (t ∷ u ∷ ts) e

pub fields_smaller : (ts : List Token) (n : ℕ) → field_name_at ts ≡ Some n → length (behind (behind ts)) < length ts
fields_smaller [] n e = absurd cc
fields_smaller (t ∷ ts) n e = omega (arith, behind_less ts)

-- operators in front
pub prefixes_turn : (ts : List Token) (o : UnOp) → prefix_kind (kind_at ts) ≡ Some o → prefixes_at ts ≡ ((record { op = o; at = front ts }) ∷ (prefixes_at (behind ts)).0, (prefixes_at (behind ts)).1)
prefixes_turn [] o e = absurd cc
prefixes_turn (t ∷ ts) o e = rw e refl

pub prefixes_end : (ts : List Token) → prefix_kind (kind_at ts) ≡ None → prefixes_at ts ≡ ([], ts)
prefixes_end [] e = refl
prefixes_end (t ∷ ts) e = rw e refl

pub prefixes_smaller : (ts : List Token) (o : UnOp) → prefix_kind (kind_at ts) ≡ Some o → length (behind ts) < length ts
prefixes_smaller [] o e = absurd cc
prefixes_smaller (t ∷ ts) o e = omega arith
