-- Reading trees from tokens, with a bound on their nesting.
use Rattle.std.specs.Prelude.{ℕ, zero, suc, Bool, true, false, ◌==◌, List, [], ◌∷◌, Option, Some, None, Result, Ok, Err, length, if◌then◌else◌}
use Rattle.fy_base.specs.declared.data.Place.{Place}
use Rattle.fy_base.specs.declared.data.BinOp.{BinOp}
use Rattle.fy_base.specs.declared.data.BinOp.TheVariants as op
use Rattle.fy_base.specs.declared.data.UnOp.{UnOp}
use Rattle.fy_base.specs.declared.data.UnOp.TheVariants as unary
use Rattle.fy_types.specs.declared.types.Atom.{Atom}
use Rattle.fy_types.specs.declared.types.Atom.TheVariants as atom
use Rattle.fy_lexer.specs.declared.token.Token.{Token}
use Rattle.fy_lexer.specs.declared.token.TokenKind.{TokenKind}
use Rattle.fy_lexer.specs.declared.token.TokenKind.TheVariants as kind
use Rattle.fy_lexer.specs.declared.token.Keyword.{Keyword}
use Rattle.fy_lexer.specs.declared.token.Keyword.TheVariants as word
use Rattle.fy_lexer.specs.declared.token.Symbol.{Symbol}
use Rattle.fy_lexer.specs.declared.token.Symbol.TheVariants as symbol
use Rattle.fy_syntax.specs.declared.surface.Prefixed.{Prefixed}
use Rattle.fy_syntax.specs.Trees.{TypeTree, TypeTrees, DeclTree, Tree, Trees, Defs, Links}
use Rattle.fy_syntax.specs.Signs.{front, Level, TypeLevel, operator_level}
use Rattle.fy_syntax.specs.Spells.{meet_of, field_of, merge_of, sequence_of, chain_of, prefixed_of, apply_of, select_of}

-- the tokens from the one that can't follow, or that would nest too deep
pub data Fault : Type 0 where
  wrong : (ts : List Token) → Fault
  deep : (ts : List Token) → Fault

-- what is read, with the tokens behind it
abbrev pub Read : Type 0 → Type 0
Read A = Result (A × List Token) Fault

infixl 10 ◌>>=◌
abbrev pub ◌>>=◌ : {A B : Type 0} → Result A Fault → (A → Result B Fault) → Result B Fault
(Ok x) >>= f = f x
(Err e) >>= f = Err e

-- what is made of what was read
abbrev pub mapped : {A B : Type 0} → (A → B) → Read A → Read B
mapped f (Ok x) = Ok (f x.0, x.1)
mapped f (Err e) = Err e

abbrev pub behind : List Token → List Token
behind [] = []
behind (t ∷ ts) = ts

-- what the next token is; behind the last one stands the end
abbrev pub kind_at : List Token → TokenKind
kind_at [] = kind.End
kind_at (t ∷ ts) = t.kind

-- the words in order
abbrev pub word_number : Keyword → ℕ
word_number word.Let = 0
word_number word.Letrec = 1
word_number word.Lettype = 2
word_number word.Where = 3
word_number word.In = 4
word_number word.New = 5
word_number word.Escape = 6
word_number word.Accept = 7
word_number word.If = 8
word_number word.Then = 9
word_number word.Else = 10
word_number word.While = 11
word_number word.Do = 12
word_number word.Loop = 13
word_number word.Seq = 14
word_number word.Skip = 15
word_number word.True = 16
word_number word.False = 17
word_number word.And = 18
word_number word.Or = 19
word_number word.Not = 20
word_number word.Ord = 21
word_number word.Chr = 22
word_number word.Div = 23
word_number word.Rem = 24
word_number word.Ns = 25
word_number word.Int = 26
word_number word.Bool = 27
word_number word.Char = 28
word_number word.Comm = 29
word_number word.Compl = 30
word_number word.IntAcc = 31
word_number word.BoolAcc = 32
word_number word.CharAcc = 33

-- the symbols in order
abbrev pub symbol_number : Symbol → ℕ
symbol_number symbol.OpenParen = 0
symbol_number symbol.CloseParen = 1
symbol_number symbol.Comma = 2
symbol_number symbol.Semicolon = 3
symbol_number symbol.Colon = 4
symbol_number symbol.ColonEquals = 5
symbol_number symbol.EqualsEquals = 6
symbol_number symbol.Equals = 7
symbol_number symbol.LessGreater = 8
symbol_number symbol.Less = 9
symbol_number symbol.LessEquals = 10
symbol_number symbol.Greater = 11
symbol_number symbol.GreaterEquals = 12
symbol_number symbol.Plus = 13
symbol_number symbol.Minus = 14
symbol_number symbol.Star = 15
symbol_number symbol.Dot = 16
symbol_number symbol.Arrow = 17
symbol_number symbol.Ampersand = 18
symbol_number symbol.Bar = 19
symbol_number symbol.Backslash = 20

-- whether a token is this word, or this symbol
abbrev pub is_word_kind : Keyword → TokenKind → Bool
is_word_kind w (kind.Word v) = word_number w == word_number v
is_word_kind w _ = false

abbrev pub is_symbol_kind : Symbol → TokenKind → Bool
is_symbol_kind s (kind.Sym v) = symbol_number s == symbol_number v
is_symbol_kind s _ = false

abbrev pub begins_with_word : Keyword → List Token → Bool
begins_with_word w ts = is_word_kind w (kind_at ts)

abbrev pub begins_with : Symbol → List Token → Bool
begins_with s ts = is_symbol_kind s (kind_at ts)

-- the tokens behind a word, or behind a symbol
abbrev pub expect_word : Keyword → List Token → Result (List Token) Fault
expect_word w ts = if begins_with_word w ts then Ok (behind ts) else Err (Fault.wrong ts)

abbrev pub expect : Symbol → List Token → Result (List Token) Fault
expect s ts = if begins_with s ts then Ok (behind ts) else Err (Fault.wrong ts)

-- a name
abbrev pub name_of : TokenKind → List Token → Read ℕ
name_of (kind.Ident n) ts = Ok (n, behind ts)
name_of _ ts = Err (Fault.wrong ts)

abbrev pub name_at : List Token → Read ℕ
name_at ts = name_of (kind_at ts) ts

-- the type of data that stands here
abbrev pub data_kind : TokenKind → List Token → Read Atom
data_kind (kind.Word word.Int) ts = Ok (atom.Int, behind ts)
data_kind (kind.Word word.Bool) ts = Ok (atom.Bool, behind ts)
data_kind (kind.Word word.Char) ts = Ok (atom.Char, behind ts)
data_kind _ ts = Err (Fault.wrong ts)

abbrev pub data_at : List Token → Read Atom
data_at ts = data_kind (kind_at ts) ts

-- what stands one node further in, where that is allowed
abbrev pub nested : {A B : Type 0} → Option A → List Token → (A → Result B Fault) → Result B Fault
nested None here go = Err (Fault.deep here)
nested (Some inner) here go = go inner

-- names before colons
abbrev pub fields_step : TokenKind → Bool → List ℕ × List Token → List Token → List ℕ × List Token
fields_step (kind.Ident n) true more all = (n ∷ more.0, more.1)
fields_step _ _ more all = ([], all)

abbrev pub fields_at : List Token → List ℕ × List Token
fields_at [] = ([], [])
fields_at (t ∷ []) = ([], t ∷ [])
fields_at (t ∷ u ∷ ts) = fields_step t.kind (is_symbol_kind symbol.Colon u.kind) (fields_at ts) (t ∷ u ∷ ts)

-- types, each behind a symbol
abbrev pub types_at : ℕ → Symbol → (List Token → Read TypeTree) → List Token → Read TypeTrees
types_at zero s item ts = Ok (TypeTrees.no_types, ts)
types_at (suc g) s item ts =
    if begins_with s ts
    then (item (behind ts) >>= λ x. mapped (TypeTrees.and_type x.0) (types_at g s item x.1))
    else Ok (TypeTrees.no_types, ts)

abbrev pub type_group : (List Token → Read TypeTree) → List Token → Read TypeTree
type_group type ts = type (behind ts) >>= λ x. expect symbol.CloseParen x.1 >>= λ r. Ok (TypeTree.group x.0 (front ts), r)

abbrev pub type_by_kind : TokenKind → Option (List Token → Read TypeTree) → List Token → Read TypeTree
type_by_kind (kind.Ident n) i ts = Ok (TypeTree.ident n (front ts), behind ts)
type_by_kind (kind.Word word.Ns) i ts = Ok (TypeTree.ns (front ts), behind ts)
type_by_kind (kind.Word word.Int) i ts = Ok (TypeTree.atom atom.Int (front ts), behind ts)
type_by_kind (kind.Word word.Bool) i ts = Ok (TypeTree.atom atom.Bool (front ts), behind ts)
type_by_kind (kind.Word word.Char) i ts = Ok (TypeTree.atom atom.Char (front ts), behind ts)
type_by_kind (kind.Word word.Comm) i ts = Ok (TypeTree.atom atom.Comm (front ts), behind ts)
type_by_kind (kind.Word word.Compl) i ts = Ok (TypeTree.atom atom.Compl (front ts), behind ts)
type_by_kind (kind.Word word.IntAcc) i ts = Ok (TypeTree.atom atom.IntAcc (front ts), behind ts)
type_by_kind (kind.Word word.BoolAcc) i ts = Ok (TypeTree.atom atom.BoolAcc (front ts), behind ts)
type_by_kind (kind.Word word.CharAcc) i ts = Ok (TypeTree.atom atom.CharAcc (front ts), behind ts)
type_by_kind (kind.Sym symbol.OpenParen) i ts = nested i ts (λ type. type_group type ts)
type_by_kind _ i ts = Err (Fault.wrong ts)

abbrev pub type_primary : Option (List Token → Read TypeTree) → List Token → Read TypeTree
type_primary i ts = type_by_kind (kind_at ts) i ts

abbrev pub type_field : Option (List Token → Read TypeTree) → List Token → Read TypeTree
type_field i ts = let x = fields_at ts in mapped (λ a. field_of x.0 a (front ts)) (type_primary i x.1)

abbrev pub type_inter : Option (List Token → Read TypeTree) → List Token → Read TypeTree
type_inter i ts = type_field i ts >>= λ x. mapped (λ more. meet_of x.0 more (front ts)) (types_at (length x.1) symbol.Ampersand (type_field i) x.1)

abbrev pub type_type : Option (List Token → Read TypeTree) → List Token → Read TypeTree
type_type i ts =
    type_inter i ts >>= λ x.
    if begins_with symbol.Arrow x.1
    then nested i x.1 (λ type. mapped (λ b. TypeTree.arrow x.0 b (front ts)) (type (behind x.1)))
    else Ok x

-- a type with at most d type nodes on a path below its own
unfoldable pub type_inner : ℕ → Option (List Token → Read TypeTree)
type_inner zero = None
type_inner (suc d) = Some (type_type (type_inner d))

abbrev pub read_type : ℕ → List Token → Read TypeTree
read_type d = type_type (type_inner d)

-- what stands in a term
pub record Inner : Type 0 where
  pub type : List Token → Read TypeTree
  pub term : List Token → Read Tree

-- phrases, each behind a symbol
abbrev pub trees_at : ℕ → Symbol → (List Token → Read Tree) → List Token → Read Trees
trees_at zero s item ts = Ok (Trees.no_trees, ts)
trees_at (suc g) s item ts =
    if begins_with s ts
    then (item (behind ts) >>= λ x. mapped (Trees.and_tree x.0) (trees_at g s item x.1))
    else Ok (Trees.no_trees, ts)

abbrev pub sequence_at : (List Token → Read Tree) → List Token → Read Tree
sequence_at term ts = term ts >>= λ x. mapped (λ more. sequence_of x.0 more (front ts)) (trees_at (length x.1) symbol.Semicolon term x.1)

abbrev pub phrase_at : (List Token → Read Tree) → List Token → Read Tree
phrase_at term ts = sequence_at term ts >>= λ x. mapped (λ more. merge_of x.0 more (front ts)) (trees_at (length x.1) symbol.Comma (sequence_at term) x.1)

abbrev pub group_at : Inner → List Token → Read Tree
group_at inner ts = phrase_at inner.term (behind ts) >>= λ x. expect symbol.CloseParen x.1 >>= λ r. Ok (Tree.group x.0 (front ts), r)

abbrev pub seq_at : Inner → List Token → Read Tree
seq_at inner ts =
    expect symbol.OpenParen (behind ts) >>= λ m. inner.term m >>= λ x. trees_at (length x.1) symbol.Comma inner.term x.1 >>= λ y.
    expect symbol.CloseParen y.1 >>= λ r. Ok (Tree.seq_of (Trees.and_tree x.0 y.0) (front ts), r)

abbrev pub primary_by_kind : TokenKind → Option Inner → List Token → Read Tree
primary_by_kind (kind.Ident n) i ts = Ok (Tree.ident n (front ts), behind ts)
primary_by_kind (kind.Number v) i ts = Ok (Tree.number v (front ts), behind ts)
primary_by_kind (kind.Letter c) i ts = Ok (Tree.letter c (front ts), behind ts)
primary_by_kind (kind.Str bytes) i ts = Ok (Tree.string bytes (front ts), behind ts)
primary_by_kind (kind.Word word.True) i ts = Ok (Tree.truth true (front ts), behind ts)
primary_by_kind (kind.Word word.False) i ts = Ok (Tree.truth false (front ts), behind ts)
primary_by_kind (kind.Word word.Skip) i ts = Ok (Tree.skip (front ts), behind ts)
primary_by_kind (kind.Sym symbol.OpenParen) i ts = nested i ts (λ inner. group_at inner ts)
primary_by_kind (kind.Word word.Seq) i ts = nested i ts (λ inner. seq_at inner ts)
primary_by_kind _ i ts = Err (Fault.wrong ts)

abbrev pub primary_at : Option Inner → List Token → Read Tree
primary_at i ts = primary_by_kind (kind_at ts) i ts

-- names behind dots
abbrev pub dots_at : ℕ → List Token → Read (List ℕ)
dots_at zero ts = Ok ([], ts)
dots_at (suc g) ts =
    if begins_with symbol.Dot ts
    then (name_at (behind ts) >>= λ x. mapped (λ names. x.0 ∷ names) (dots_at g x.1))
    else Ok ([], ts)

abbrev pub select_at : Option Inner → List Token → Read Tree
select_at i ts = primary_at i ts >>= λ x. mapped (λ names. select_of x.0 names (front ts)) (dots_at (length x.1) x.1)

-- whether a primary begins with such a token
abbrev pub starts_kind : TokenKind → Bool
starts_kind (kind.Ident n) = true
starts_kind (kind.Number v) = true
starts_kind (kind.Letter c) = true
starts_kind (kind.Str bytes) = true
starts_kind (kind.Word word.True) = true
starts_kind (kind.Word word.False) = true
starts_kind (kind.Word word.Skip) = true
starts_kind (kind.Word word.Seq) = true
starts_kind (kind.Sym symbol.OpenParen) = true
starts_kind _ = false

abbrev pub starts : List Token → Bool
starts ts = starts_kind (kind_at ts)

abbrev pub arguments_at : ℕ → (List Token → Read Tree) → List Token → Read Trees
arguments_at zero item ts = Ok (Trees.no_trees, ts)
arguments_at (suc g) item ts =
    if starts ts then (item ts >>= λ x. mapped (Trees.and_tree x.0) (arguments_at g item x.1)) else Ok (Trees.no_trees, ts)

abbrev pub apply_at : Option Inner → List Token → Read Tree
apply_at i ts = select_at i ts >>= λ x. mapped (λ more. apply_of x.0 more (front ts)) (arguments_at (length x.1) (select_at i) x.1)

-- the operator that stands in front of an operand here
abbrev pub prefix_kind : TokenKind → Option UnOp
prefix_kind (kind.Sym symbol.Minus) = Some unary.Neg
prefix_kind (kind.Word word.Not) = Some unary.Not
prefix_kind (kind.Word word.Ord) = Some unary.Ord
prefix_kind (kind.Word word.Chr) = Some unary.Chr
prefix_kind _ = None

abbrev pub prefixes_step : Option UnOp → Place → List Prefixed × List Token → List Token → List Prefixed × List Token
prefixes_step (Some op) at more all = (record { op = op; at = at } ∷ more.0, more.1)
prefixes_step None at more all = ([], all)

abbrev pub prefixes_at : List Token → List Prefixed × List Token
prefixes_at [] = ([], [])
prefixes_at (t ∷ ts) = prefixes_step (prefix_kind t.kind) t.place (prefixes_at ts) (t ∷ ts)

abbrev pub prefixed_at : Option Inner → List Token → Read Tree
prefixed_at i ts = let x = prefixes_at ts in mapped (λ p. prefixed_of x.0 p (front ts)) (apply_at i x.1)

-- the operator that stands between operands here
abbrev pub operator_kind : TokenKind → Option BinOp
operator_kind (kind.Word word.Or) = Some op.Or
operator_kind (kind.Word word.And) = Some op.And
operator_kind (kind.Word word.Div) = Some op.Div
operator_kind (kind.Word word.Rem) = Some op.Rem
operator_kind (kind.Sym symbol.Equals) = Some op.Eq
operator_kind (kind.Sym symbol.LessGreater) = Some op.Ne
operator_kind (kind.Sym symbol.Less) = Some op.Lt
operator_kind (kind.Sym symbol.LessEquals) = Some op.Le
operator_kind (kind.Sym symbol.Greater) = Some op.Gt
operator_kind (kind.Sym symbol.GreaterEquals) = Some op.Ge
operator_kind (kind.Sym symbol.Plus) = Some op.Add
operator_kind (kind.Sym symbol.Minus) = Some op.Sub
operator_kind (kind.Sym symbol.Star) = Some op.Mul
operator_kind _ = None

-- the levels by their numbers
abbrev pub rank : Level → ℕ
rank Level.phrase = 1
rank Level.sequence = 2
rank Level.term = 3
rank Level.either = 4
rank Level.both = 5
rank Level.relation = 6
rank Level.sum = 7
rank Level.product = 8
rank Level.prefixed = 9
rank Level.apply = 10
rank Level.select = 11
rank Level.primary = 12

-- an operator, if it is one of the level
abbrev pub of_level : Level → Option BinOp → Option BinOp
of_level c (Some op) = if rank (operator_level op) == rank c then Some op else None
of_level c None = None

abbrev pub operator_at : Level → List Token → Option BinOp
operator_at c ts = of_level c (operator_kind (kind_at ts))

abbrev pub link_step : {A : Type 0} → Option BinOp → (BinOp → Read A) → Read A → Read A
link_step (Some op) go stop = go op
link_step None go stop = stop

-- operands, each behind an operator of the level
abbrev pub links_at : ℕ → Level → (List Token → Read Tree) → List Token → Read Links
links_at zero c item ts = Ok (Links.no_links, ts)
links_at (suc g) c item ts =
    link_step (operator_at c ts) (λ op. item (behind ts) >>= λ x. mapped (Links.and_link op (front ts) x.0) (links_at g c item x.1)) (Ok (Links.no_links, ts))

abbrev pub chain_at : Level → (List Token → Read Tree) → List Token → Read Tree
chain_at c item ts = item ts >>= λ x. mapped (λ more. chain_of x.0 more (front ts)) (links_at (length x.1) c item x.1)

abbrev pub product_at : Option Inner → List Token → Read Tree
product_at i = chain_at Level.product (prefixed_at i)

abbrev pub sum_at : Option Inner → List Token → Read Tree
sum_at i = chain_at Level.sum (product_at i)

abbrev pub relation_at : Option Inner → List Token → Read Tree
relation_at i ts =
    sum_at i ts >>= λ x.
    link_step (operator_at Level.relation x.1) (λ op. mapped (λ u. Tree.chain x.0 (Links.and_link op (front x.1) u Links.no_links) (front ts)) (sum_at i (behind x.1))) (Ok x)

abbrev pub both_at : Option Inner → List Token → Read Tree
both_at i = chain_at Level.both (relation_at i)

abbrev pub either_at : Option Inner → List Token → Read Tree
either_at i = chain_at Level.either (both_at i)

abbrev pub assign_at : Option Inner → List Token → Read Tree
assign_at i ts =
    either_at i ts >>= λ x.
    if begins_with symbol.ColonEquals x.1
    then nested i x.1 (λ inner. mapped (λ u. Tree.assign x.0 (front x.1) u (front ts)) (inner.term (behind x.1)))
    else Ok x

-- a definition, and a declaration
pub record OneDef : Type 0 where
  pub name : ℕ
  pub at : Place
  pub body : Tree

abbrev pub def_at : (List Token → Read Tree) → List Token → Read OneDef
def_at term ts = name_at ts >>= λ n. expect symbol.EqualsEquals n.1 >>= λ m. mapped (λ t. record { name = n.0; at = front ts; body = t }) (term m)

abbrev pub defs_at : ℕ → (List Token → Read Tree) → List Token → Read Defs
defs_at zero term ts = Ok (Defs.no_defs, ts)
defs_at (suc g) term ts =
    if begins_with symbol.Comma ts
    then (def_at term (behind ts) >>= λ x. mapped (Defs.and_def x.0.name x.0.at x.0.body) (defs_at g term x.1))
    else Ok (Defs.no_defs, ts)

abbrev pub decl_at : (List Token → Read TypeTree) → List Token → Read DeclTree
decl_at type ts = name_at ts >>= λ n. expect symbol.Colon n.1 >>= λ m. mapped (λ a. record { name = n.0; at = front ts; type = a }) (type m)

abbrev pub decls_at : ℕ → (List Token → Read TypeTree) → List Token → Read (List DeclTree)
decls_at zero type ts = Ok ([], ts)
decls_at (suc g) type ts =
    if begins_with symbol.Comma ts
    then (decl_at type (behind ts) >>= λ x. mapped (λ more. x.0 ∷ more) (decls_at g type x.1))
    else Ok ([], ts)

abbrev pub lam_at : Inner → Place → List Token → Read Tree
lam_at i at ts =
    name_at ts >>= λ n. expect symbol.Colon n.1 >>= λ m. i.type m >>= λ a. types_at (length a.1) symbol.Bar i.type a.1 >>= λ more.
    expect symbol.Dot more.1 >>= λ k. mapped (λ t. Tree.lam n.0 (TypeTrees.and_type a.0 more.0) t at) (i.term k)

abbrev pub let_at : Inner → Place → List Token → Read Tree
let_at i at ts =
    def_at i.term ts >>= λ d. defs_at (length d.1) i.term d.1 >>= λ more. expect_word word.In more.1 >>= λ k.
    mapped (λ u. Tree.let_in (Defs.and_def d.0.name d.0.at d.0.body more.0) u at) (i.term k)

abbrev pub letrec_at : Inner → Place → List Token → Read Tree
letrec_at i at ts =
    decl_at i.type ts >>= λ a. decls_at (length a.1) i.type a.1 >>= λ decls. expect_word word.Where decls.1 >>= λ m.
    def_at i.term m >>= λ d. defs_at (length d.1) i.term d.1 >>= λ more. expect_word word.In more.1 >>= λ k.
    mapped (λ u. Tree.letrec (a.0 ∷ decls.0) (Defs.and_def d.0.name d.0.at d.0.body more.0) (front more.1) u at) (i.term k)

abbrev pub let_type_at : Inner → Place → List Token → Read Tree
let_type_at i at ts =
    name_at ts >>= λ n. expect symbol.EqualsEquals n.1 >>= λ m. i.type m >>= λ a. expect_word word.In a.1 >>= λ k.
    mapped (λ t. Tree.let_type n.0 a.0 t at) (i.term k)

abbrev pub new_at : Inner → Place → List Token → Read Tree
new_at i at ts =
    name_at ts >>= λ n. expect symbol.Colon n.1 >>= λ m. data_at m >>= λ a. expect symbol.ColonEquals a.1 >>= λ k.
    i.term k >>= λ t. expect_word word.In t.1 >>= λ j. mapped (λ u. Tree.new n.0 a.0 t.0 u at) (i.term j)

abbrev pub escape_at : Inner → Place → List Token → Read Tree
escape_at i at ts = name_at ts >>= λ n. expect_word word.In n.1 >>= λ k. mapped (λ t. Tree.escape n.0 t at) (i.term k)

abbrev pub accept_at : Inner → Place → List Token → Read Tree
accept_at i at ts =
    name_at ts >>= λ n. expect symbol.Colon n.1 >>= λ m. data_at m >>= λ a. expect_word word.In a.1 >>= λ k.
    mapped (λ t. Tree.accept n.0 a.0 t at) (i.term k)

abbrev pub cond_at : Inner → Place → List Token → Read Tree
cond_at i at ts =
    i.term ts >>= λ b. expect_word word.Then b.1 >>= λ m. i.term m >>= λ t. expect_word word.Else t.1 >>= λ k.
    mapped (λ u. Tree.cond b.0 t.0 u at) (i.term k)

abbrev pub while_at : Inner → Place → List Token → Read Tree
while_at i at ts = i.term ts >>= λ b. expect_word word.Do b.1 >>= λ m. mapped (λ t. Tree.while_do b.0 t at) (i.term m)

abbrev pub loop_at : Inner → Place → List Token → Read Tree
loop_at i at ts = mapped (λ t. Tree.loop t at) (i.term ts)

abbrev pub ident_term : ℕ → Option Inner → List Token → Read Tree
ident_term n i ts =
    if begins_with symbol.EqualsEquals (behind ts)
    then nested i (behind ts) (λ inner. mapped (λ u. Tree.field n u (front ts)) (inner.term (behind (behind ts))))
    else assign_at i ts

abbrev pub term_by_kind : TokenKind → Option Inner → List Token → Read Tree
term_by_kind (kind.Sym symbol.Backslash) i ts = nested i ts (λ inner. lam_at inner (front ts) (behind ts))
term_by_kind (kind.Word word.Let) i ts = nested i ts (λ inner. let_at inner (front ts) (behind ts))
term_by_kind (kind.Word word.Letrec) i ts = nested i ts (λ inner. letrec_at inner (front ts) (behind ts))
term_by_kind (kind.Word word.Lettype) i ts = nested i ts (λ inner. let_type_at inner (front ts) (behind ts))
term_by_kind (kind.Word word.New) i ts = nested i ts (λ inner. new_at inner (front ts) (behind ts))
term_by_kind (kind.Word word.Escape) i ts = nested i ts (λ inner. escape_at inner (front ts) (behind ts))
term_by_kind (kind.Word word.Accept) i ts = nested i ts (λ inner. accept_at inner (front ts) (behind ts))
term_by_kind (kind.Word word.If) i ts = nested i ts (λ inner. cond_at inner (front ts) (behind ts))
term_by_kind (kind.Word word.While) i ts = nested i ts (λ inner. while_at inner (front ts) (behind ts))
term_by_kind (kind.Word word.Loop) i ts = nested i ts (λ inner. loop_at inner (front ts) (behind ts))
term_by_kind (kind.Ident n) i ts = ident_term n i ts
term_by_kind _ i ts = assign_at i ts

abbrev pub term_at : Option Inner → List Token → Read Tree
term_at i ts = term_by_kind (kind_at ts) i ts

-- a term with at most d nodes on a path below its own
unfoldable pub inner : ℕ → Option Inner
inner zero = None
inner (suc d) = Some (record { type = read_type d; term = term_at (inner d) })

abbrev pub read_term : ℕ → List Token → Read Tree
read_term d = term_at (inner d)

-- a phrase whose nesting is at most d + 1
abbrev pub read_phrase : ℕ → List Token → Read Tree
read_phrase d = phrase_at (read_term d)

abbrev pub read_at : ℕ → Level → List Token → Read Tree
read_at d Level.phrase = read_phrase d
read_at d Level.sequence = sequence_at (read_term d)
read_at d Level.term = read_term d
read_at d Level.either = either_at (inner d)
read_at d Level.both = both_at (inner d)
read_at d Level.relation = relation_at (inner d)
read_at d Level.sum = sum_at (inner d)
read_at d Level.product = product_at (inner d)
read_at d Level.prefixed = prefixed_at (inner d)
read_at d Level.apply = apply_at (inner d)
read_at d Level.select = select_at (inner d)
read_at d Level.primary = primary_at (inner d)

abbrev pub read_type_at : ℕ → TypeLevel → List Token → Read TypeTree
read_type_at d TypeLevel.type = read_type d
read_type_at d TypeLevel.inter = type_inter (type_inner d)
read_type_at d TypeLevel.field = type_field (type_inner d)
read_type_at d TypeLevel.primary = type_primary (type_inner d)
