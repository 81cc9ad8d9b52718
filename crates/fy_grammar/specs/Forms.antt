-- The forms of terms, by the tokens that begin them, and how each is read.
use Rattle.std.specs.Prelude.{ℕ, Bool, true, List, Option, Some, None}
use Rattle.fy_lexer.specs.declared.token.Token.{Token}
use Rattle.fy_lexer.specs.declared.token.TokenKind.{TokenKind}
use Rattle.fy_lexer.specs.declared.token.TokenKind.TheVariants as kind
use Rattle.fy_lexer.specs.declared.token.Keyword.TheVariants as word
use Rattle.fy_lexer.specs.declared.token.Symbol.TheVariants as symbol
use Rattle.fy_syntax.specs.Trees.{Tree}
use Rattle.fy_syntax.specs.Signs.{front}
use Rattle.fy_syntax.specs.Reading.{DefTree}
use Rattle.fy_syntax.specs.Reader.{Read, mapped, behind, kind_at, begins_with, OneDef, Inner, read_type, read_term, lam_at, let_at, letrec_at, let_type_at, new_at, escape_at, accept_at, cond_at, while_at, loop_at}
use Rattle.fy_grammar.specs.declared.form.Form.{Form}
use Rattle.fy_grammar.specs.declared.form.Form.TheVariants as form

-- what stands in a term with at most d nodes on a path below its own
abbrev pub within : ℕ → Inner
within d = record { type = read_type d; term = read_term d }

-- the form that a token begins, and whether `==` stands behind it
abbrev pub form_kind : TokenKind → Bool → Option Form
form_kind (kind.Sym symbol.Backslash) b = Some form.Lam
form_kind (kind.Word word.Let) b = Some form.Let
form_kind (kind.Word word.Letrec) b = Some form.Letrec
form_kind (kind.Word word.Lettype) b = Some form.Lettype
form_kind (kind.Word word.New) b = Some form.New
form_kind (kind.Word word.Escape) b = Some form.Escape
form_kind (kind.Word word.Accept) b = Some form.Accept
form_kind (kind.Word word.If) b = Some form.Cond
form_kind (kind.Word word.While) b = Some form.While
form_kind (kind.Word word.Loop) b = Some form.Loop
form_kind (kind.Ident n) true = Some (form.Field n)
form_kind _ b = None

abbrev pub form_at : List Token → Option Form
form_at tokens = form_kind (kind_at tokens) (begins_with symbol.EqualsEquals (behind tokens))

-- the tokens from the one that shows the form
abbrev pub forcing : Form → List Token → List Token
forcing (form.Field n) tokens = behind tokens
forcing _ tokens = tokens

abbrev pub read_form : Form → Inner → List Token → Read Tree
read_form form.Lam i tokens = lam_at i (front tokens) (behind tokens)
read_form form.Let i tokens = let_at i (front tokens) (behind tokens)
read_form form.Letrec i tokens = letrec_at i (front tokens) (behind tokens)
read_form form.Lettype i tokens = let_type_at i (front tokens) (behind tokens)
read_form form.New i tokens = new_at i (front tokens) (behind tokens)
read_form form.Escape i tokens = escape_at i (front tokens) (behind tokens)
read_form form.Accept i tokens = accept_at i (front tokens) (behind tokens)
read_form form.Cond i tokens = cond_at i (front tokens) (behind tokens)
read_form form.While i tokens = while_at i (front tokens) (behind tokens)
read_form form.Loop i tokens = loop_at i (front tokens) (behind tokens)
read_form (form.Field n) i tokens = mapped (λ p. Tree.field n p (front tokens)) (i.term (behind (behind tokens)))

-- the name that stands before a colon
abbrev pub name_before : TokenKind → Bool → Option ℕ
name_before (kind.Ident n) true = Some n
name_before _ b = None

abbrev pub field_name_at : List Token → Option ℕ
field_name_at tokens = name_before (kind_at tokens) (begins_with symbol.Colon (behind tokens))

-- a definition, as trees hold it
abbrev pub def_tree : OneDef → DefTree
def_tree d = record { name = d.name; at = d.at; body = d.body }
