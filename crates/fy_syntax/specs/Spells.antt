-- Which tokens spell which tree: the grammar in extended Backus-Naur form, one case for each production. The last argument is the rest of the tokens, which follow what is spelled.
use Rattle.std.specs.Prelude.{◌≡◌, ℕ, ℤ, Bool, IsTrue, List, [], ◌∷◌}
use Rattle.fy_base.specs.Outside.{Bytes}
use Rattle.fy_base.specs.declared.data.Place.{Place}
use Rattle.fy_base.specs.declared.data.BinOp.{BinOp}
use Rattle.fy_base.specs.declared.data.UnOp.{UnOp}
use Rattle.fy_types.specs.declared.types.Atom.{Atom}
use Rattle.fy_lexer.specs.declared.token.Token.{Token}
use Rattle.fy_lexer.specs.declared.token.TokenKind.TheVariants as kind
use Rattle.fy_lexer.specs.declared.token.Keyword.TheVariants as word
use Rattle.fy_lexer.specs.declared.token.Symbol.{Symbol}
use Rattle.fy_lexer.specs.declared.token.Symbol.TheVariants as symbol
use Rattle.fy_syntax.specs.declared.surface.Prefixed.{Prefixed}
use Rattle.fy_syntax.specs.Trees.{TypeTree, TypeTrees, DeclTree, Tree, Trees, Defs, Links}
use Rattle.fy_syntax.specs.Signs.{token, word_at, symbol_at, ident_at, front, Level, TypeLevel, operator_sign, operator_level, prefix_sign, atom_word, is_data, truth_word}

-- a list of one item is that item
abbrev pub meet_of : TypeTree → TypeTrees → Place → TypeTree
meet_of a TypeTrees.no_types at = a
meet_of a (TypeTrees.and_type b more) at = TypeTree.meet (TypeTrees.and_type a (TypeTrees.and_type b more)) at

abbrev pub field_of : List ℕ → TypeTree → Place → TypeTree
field_of [] a at = a
field_of (n ∷ names) a at = TypeTree.field (n ∷ names) a at

abbrev pub merge_of : Tree → Trees → Place → Tree
merge_of p Trees.no_trees at = p
merge_of p (Trees.and_tree q more) at = Tree.merge (Trees.and_tree p (Trees.and_tree q more)) at

abbrev pub sequence_of : Tree → Trees → Place → Tree
sequence_of p Trees.no_trees at = p
sequence_of p (Trees.and_tree q more) at = Tree.sequence (Trees.and_tree p (Trees.and_tree q more)) at

abbrev pub chain_of : Tree → Links → Place → Tree
chain_of p Links.no_links at = p
chain_of p (Links.and_link op here q more) at = Tree.chain p (Links.and_link op here q more) at

abbrev pub prefixed_of : List Prefixed → Tree → Place → Tree
prefixed_of [] p at = p
prefixed_of (o ∷ operators) p at = Tree.prefixed (o ∷ operators) p at

abbrev pub apply_of : Tree → Trees → Place → Tree
apply_of p Trees.no_trees at = p
apply_of p (Trees.and_tree q more) at = Tree.apply p (Trees.and_tree q more) at

abbrev pub select_of : Tree → List ℕ → Place → Tree
select_of p [] at = p
select_of p (n ∷ names) at = Tree.select p (n ∷ names) at

-- { ident ":" }
pub data Fields : List ℕ → List Token → List Token → Type 0 where
  no_fields : {r : List Token} → Fields [] r r
  and_field : {n : ℕ} {names : List ℕ} {ts r : List Token} {p q : Place} →
      Fields names ts r → Fields (n ∷ names) (ident_at n p ∷ symbol_at symbol.Colon q ∷ ts) r

-- { "." ident }
pub data Dots : List ℕ → List Token → List Token → Type 0 where
  no_dots : {r : List Token} → Dots [] r r
  and_dot : {n : ℕ} {names : List ℕ} {ts r : List Token} {p q : Place} →
      Dots names ts r → Dots (n ∷ names) (symbol_at symbol.Dot p ∷ ident_at n q ∷ ts) r

-- { "-" | "not" | "ord" | "chr" }
pub data Prefixes : List Prefixed → List Token → List Token → Type 0 where
  no_prefixes : {r : List Token} → Prefixes [] r r
  and_prefix : {op : UnOp} {operators : List Prefixed} {ts r : List Token} {p : Place} →
      Prefixes operators ts r → Prefixes (record { op = op; at = p } ∷ operators) (token (prefix_sign op) p ∷ ts) r

mutual
  pub data SpellsType : TypeLevel → TypeTree → List Token → List Token → Type 0 where
    -- type = inter "->" type
    arrow : {a b : TypeTree} {ts m r : List Token} {p : Place} →
        SpellsType TypeLevel.inter a ts (symbol_at symbol.Arrow p ∷ m) → SpellsType TypeLevel.type b m r →
        SpellsType TypeLevel.type (TypeTree.arrow a b (front ts)) ts r
    -- type = inter
    no_arrow : {a : TypeTree} {ts r : List Token} → SpellsType TypeLevel.inter a ts r → SpellsType TypeLevel.type a ts r
    -- inter = tfield { "&" tfield }
    inter : {a : TypeTree} {more : TypeTrees} {ts m r : List Token} →
        SpellsType TypeLevel.field a ts m → MoreTypes symbol.Ampersand TypeLevel.field more m r →
        SpellsType TypeLevel.inter (meet_of a more (front ts)) ts r
    -- tfield = { ident ":" } tprim
    field : {names : List ℕ} {a : TypeTree} {ts m r : List Token} →
        Fields names ts m → SpellsType TypeLevel.primary a m r → SpellsType TypeLevel.field (field_of names a (front ts)) ts r
    -- tprim = "ns" | datatype | "comm" | "compl" | "intacc" | "boolacc" | "characc" | ident | "(" type ")"
    ns : {r : List Token} {p : Place} → SpellsType TypeLevel.primary (TypeTree.ns p) (word_at word.Ns p ∷ r) r
    atom : {a : Atom} {r : List Token} {p : Place} → SpellsType TypeLevel.primary (TypeTree.atom a p) (word_at (atom_word a) p ∷ r) r
    ident : {n : ℕ} {r : List Token} {p : Place} → SpellsType TypeLevel.primary (TypeTree.ident n p) (ident_at n p ∷ r) r
    group : {a : TypeTree} {ts r : List Token} {p q : Place} →
        SpellsType TypeLevel.type a ts (symbol_at symbol.CloseParen q ∷ r) →
        SpellsType TypeLevel.primary (TypeTree.group a p) (symbol_at symbol.OpenParen p ∷ ts) r

  -- { separator type }
  pub data MoreTypes : Symbol → TypeLevel → TypeTrees → List Token → List Token → Type 0 where
    no_types : {s : Symbol} {l : TypeLevel} {r : List Token} → MoreTypes s l TypeTrees.no_types r r
    and_type : {s : Symbol} {l : TypeLevel} {a : TypeTree} {more : TypeTrees} {ts m r : List Token} {p : Place} →
        SpellsType l a ts m → MoreTypes s l more m r → MoreTypes s l (TypeTrees.and_type a more) (symbol_at s p ∷ ts) r

-- { "," ident ":" type }
pub data MoreDecls : List DeclTree → List Token → List Token → Type 0 where
  no_decls : {r : List Token} → MoreDecls [] r r
  and_decl : {n : ℕ} {a : TypeTree} {more : List DeclTree} {ts m r : List Token} {c p q : Place} →
      SpellsType TypeLevel.type a ts m → MoreDecls more m r →
      MoreDecls (record { name = n; at = p; type = a } ∷ more) (symbol_at symbol.Comma c ∷ ident_at n p ∷ symbol_at symbol.Colon q ∷ ts) r

mutual
  pub data SpellsBefore : Level → Tree → List Token → List Token → Type 0 where
    -- phrase = sequence { "," sequence }
    phrase : {t : Tree} {more : Trees} {ts m r : List Token} →
        SpellsBefore Level.sequence t ts m → MoreTrees symbol.Comma Level.sequence more m r →
        SpellsBefore Level.phrase (merge_of t more (front ts)) ts r
    -- sequence = term { ";" term }
    sequence : {t : Tree} {more : Trees} {ts m r : List Token} →
        SpellsBefore Level.term t ts m → MoreTrees symbol.Semicolon Level.term more m r →
        SpellsBefore Level.sequence (sequence_of t more (front ts)) ts r
    -- term = "\" ident ":" type { "|" type } "." term
    lam : {n : ℕ} {a : TypeTree} {more : TypeTrees} {t : Tree} {ts m k r : List Token} {p q c d : Place} →
        SpellsType TypeLevel.type a ts m → MoreTypes symbol.Bar TypeLevel.type more m (symbol_at symbol.Dot d ∷ k) → SpellsBefore Level.term t k r →
        SpellsBefore Level.term (Tree.lam n (TypeTrees.and_type a more) t p) (symbol_at symbol.Backslash p ∷ ident_at n q ∷ symbol_at symbol.Colon c ∷ ts) r
    -- term = "let" ident "==" term { "," ident "==" term } "in" term
    let_in : {n : ℕ} {t u : Tree} {more : Defs} {ts m k r : List Token} {p q e i : Place} →
        SpellsBefore Level.term t ts m → MoreDefs more m (word_at word.In i ∷ k) → SpellsBefore Level.term u k r →
        SpellsBefore Level.term (Tree.let_in (Defs.and_def n q t more) u p) (word_at word.Let p ∷ ident_at n q ∷ symbol_at symbol.EqualsEquals e ∷ ts) r
    -- term = "letrec" ident ":" type { "," ident ":" type } "where" ident "==" term { "," ident "==" term } "in" term
    letrec : {n f : ℕ} {a : TypeTree} {decls : List DeclTree} {t u : Tree} {more : Defs} {ts m ds k j r : List Token} {p q c w v e i : Place} →
        SpellsType TypeLevel.type a ts m → MoreDecls decls m (word_at word.Where w ∷ ident_at f v ∷ symbol_at symbol.EqualsEquals e ∷ ds) →
        SpellsBefore Level.term t ds k → MoreDefs more k (word_at word.In i ∷ j) → SpellsBefore Level.term u j r →
        SpellsBefore Level.term (Tree.letrec (record { name = n; at = q; type = a } ∷ decls) (Defs.and_def f v t more) i u p)
        (word_at word.Letrec p ∷ ident_at n q ∷ symbol_at symbol.Colon c ∷ ts) r
    -- term = "lettype" ident "==" type "in" term
    let_type : {n : ℕ} {a : TypeTree} {t : Tree} {ts m r : List Token} {p q e i : Place} →
        SpellsType TypeLevel.type a ts (word_at word.In i ∷ m) → SpellsBefore Level.term t m r →
        SpellsBefore Level.term (Tree.let_type n a t p) (word_at word.Lettype p ∷ ident_at n q ∷ symbol_at symbol.EqualsEquals e ∷ ts) r
    -- term = "new" ident ":" datatype ":=" term "in" term
    new : {n : ℕ} {a : Atom} {t u : Tree} {ts m r : List Token} {p q c d e i : Place} →
        IsTrue (is_data a) → SpellsBefore Level.term t ts (word_at word.In i ∷ m) → SpellsBefore Level.term u m r →
        SpellsBefore Level.term (Tree.new n a t u p)
        (word_at word.New p ∷ ident_at n q ∷ symbol_at symbol.Colon c ∷ word_at (atom_word a) d ∷ symbol_at symbol.ColonEquals e ∷ ts) r
    -- term = "escape" ident "in" term
    escape : {n : ℕ} {t : Tree} {ts r : List Token} {p q i : Place} →
        SpellsBefore Level.term t ts r → SpellsBefore Level.term (Tree.escape n t p) (word_at word.Escape p ∷ ident_at n q ∷ word_at word.In i ∷ ts) r
    -- term = "accept" ident ":" datatype "in" term
    accept : {n : ℕ} {a : Atom} {t : Tree} {ts r : List Token} {p q c d i : Place} →
        IsTrue (is_data a) → SpellsBefore Level.term t ts r →
        SpellsBefore Level.term (Tree.accept n a t p)
        (word_at word.Accept p ∷ ident_at n q ∷ symbol_at symbol.Colon c ∷ word_at (atom_word a) d ∷ word_at word.In i ∷ ts) r
    -- term = "if" term "then" term "else" term
    cond : {b t u : Tree} {ts m k r : List Token} {p h e : Place} →
        SpellsBefore Level.term b ts (word_at word.Then h ∷ m) → SpellsBefore Level.term t m (word_at word.Else e ∷ k) → SpellsBefore Level.term u k r →
        SpellsBefore Level.term (Tree.cond b t u p) (word_at word.If p ∷ ts) r
    -- term = "while" term "do" term
    while_do : {b t : Tree} {ts m r : List Token} {p d : Place} →
        SpellsBefore Level.term b ts (word_at word.Do d ∷ m) → SpellsBefore Level.term t m r →
        SpellsBefore Level.term (Tree.while_do b t p) (word_at word.While p ∷ ts) r
    -- term = "loop" term
    loop : {t : Tree} {ts r : List Token} {p : Place} →
        SpellsBefore Level.term t ts r → SpellsBefore Level.term (Tree.loop t p) (word_at word.Loop p ∷ ts) r
    -- term = ident "==" term
    field : {n : ℕ} {t : Tree} {ts r : List Token} {p e : Place} →
        SpellsBefore Level.term t ts r → SpellsBefore Level.term (Tree.field n t p) (ident_at n p ∷ symbol_at symbol.EqualsEquals e ∷ ts) r
    -- term = either ":=" term
    assign : {t u : Tree} {ts m r : List Token} {p : Place} →
        SpellsBefore Level.either t ts (symbol_at symbol.ColonEquals p ∷ m) → SpellsBefore Level.term u m r →
        SpellsBefore Level.term (Tree.assign t p u (front ts)) ts r
    -- term = either
    no_assign : {t : Tree} {ts r : List Token} → SpellsBefore Level.either t ts r → SpellsBefore Level.term t ts r
    -- either = both { "or" both }
    either : {t : Tree} {more : Links} {ts m r : List Token} →
        SpellsBefore Level.both t ts m → MoreLinks Level.either Level.both more m r →
        SpellsBefore Level.either (chain_of t more (front ts)) ts r
    -- both = relation { "and" relation }
    both : {t : Tree} {more : Links} {ts m r : List Token} →
        SpellsBefore Level.relation t ts m → MoreLinks Level.both Level.relation more m r →
        SpellsBefore Level.both (chain_of t more (front ts)) ts r
    -- relation = sum ( "=" | "<>" | "<" | "<=" | ">" | ">=" ) sum
    related : {t u : Tree} {op : BinOp} {ts m r : List Token} {p : Place} →
        operator_level op ≡ Level.relation → SpellsBefore Level.sum t ts (token (operator_sign op) p ∷ m) → SpellsBefore Level.sum u m r →
        SpellsBefore Level.relation (Tree.chain t (Links.and_link op p u Links.no_links) (front ts)) ts r
    -- relation = sum
    no_relation : {t : Tree} {ts r : List Token} → SpellsBefore Level.sum t ts r → SpellsBefore Level.relation t ts r
    -- sum = product { ( "+" | "-" ) product }
    sum : {t : Tree} {more : Links} {ts m r : List Token} →
        SpellsBefore Level.product t ts m → MoreLinks Level.sum Level.product more m r →
        SpellsBefore Level.sum (chain_of t more (front ts)) ts r
    -- product = prefix { ( "*" | "div" | "rem" ) prefix }
    product : {t : Tree} {more : Links} {ts m r : List Token} →
        SpellsBefore Level.prefixed t ts m → MoreLinks Level.product Level.prefixed more m r →
        SpellsBefore Level.product (chain_of t more (front ts)) ts r
    -- prefix = { "-" | "not" | "ord" | "chr" } apply
    prefixed : {operators : List Prefixed} {t : Tree} {ts m r : List Token} →
        Prefixes operators ts m → SpellsBefore Level.apply t m r →
        SpellsBefore Level.prefixed (prefixed_of operators t (front ts)) ts r
    -- apply = select { select }
    apply : {t : Tree} {more : Trees} {ts m r : List Token} →
        SpellsBefore Level.select t ts m → MoreArguments more m r → SpellsBefore Level.apply (apply_of t more (front ts)) ts r
    -- select = primary { "." ident }
    select : {t : Tree} {names : List ℕ} {ts m r : List Token} →
        SpellsBefore Level.primary t ts m → Dots names m r → SpellsBefore Level.select (select_of t names (front ts)) ts r
    -- primary = ident | number | character | string | "true" | "false" | "skip" | "(" phrase ")" | "seq" "(" term { "," term } ")"
    ident : {n : ℕ} {r : List Token} {p : Place} → SpellsBefore Level.primary (Tree.ident n p) (ident_at n p ∷ r) r
    number : {v : ℤ} {r : List Token} {p : Place} → SpellsBefore Level.primary (Tree.number v p) (token (kind.Number v) p ∷ r) r
    letter : {c : ℕ} {r : List Token} {p : Place} → SpellsBefore Level.primary (Tree.letter c p) (token (kind.Letter c) p ∷ r) r
    string : {bytes : Bytes} {r : List Token} {p : Place} → SpellsBefore Level.primary (Tree.string bytes p) (token (kind.Str bytes) p ∷ r) r
    truth : {b : Bool} {r : List Token} {p : Place} → SpellsBefore Level.primary (Tree.truth b p) (word_at (truth_word b) p ∷ r) r
    skip : {r : List Token} {p : Place} → SpellsBefore Level.primary (Tree.skip p) (word_at word.Skip p ∷ r) r
    group : {t : Tree} {ts r : List Token} {p q : Place} →
        SpellsBefore Level.phrase t ts (symbol_at symbol.CloseParen q ∷ r) →
        SpellsBefore Level.primary (Tree.group t p) (symbol_at symbol.OpenParen p ∷ ts) r
    seq_of : {t : Tree} {more : Trees} {ts m r : List Token} {p o q : Place} →
        SpellsBefore Level.term t ts m → MoreTrees symbol.Comma Level.term more m (symbol_at symbol.CloseParen q ∷ r) →
        SpellsBefore Level.primary (Tree.seq_of (Trees.and_tree t more) p) (word_at word.Seq p ∷ symbol_at symbol.OpenParen o ∷ ts) r

  -- { separator phrase }
  pub data MoreTrees : Symbol → Level → Trees → List Token → List Token → Type 0 where
    no_trees : {s : Symbol} {l : Level} {r : List Token} → MoreTrees s l Trees.no_trees r r
    and_tree : {s : Symbol} {l : Level} {t : Tree} {more : Trees} {ts m r : List Token} {p : Place} →
        SpellsBefore l t ts m → MoreTrees s l more m r → MoreTrees s l (Trees.and_tree t more) (symbol_at s p ∷ ts) r

  -- { "," ident "==" term }
  pub data MoreDefs : Defs → List Token → List Token → Type 0 where
    no_defs : {r : List Token} → MoreDefs Defs.no_defs r r
    and_def : {n : ℕ} {t : Tree} {more : Defs} {ts m r : List Token} {c q e : Place} →
        SpellsBefore Level.term t ts m → MoreDefs more m r →
        MoreDefs (Defs.and_def n q t more) (symbol_at symbol.Comma c ∷ ident_at n q ∷ symbol_at symbol.EqualsEquals e ∷ ts) r

  -- { operator operand }, with operators of one level and operands of the next
  pub data MoreLinks : Level → Level → Links → List Token → List Token → Type 0 where
    no_links : {c l : Level} {r : List Token} → MoreLinks c l Links.no_links r r
    and_link : {c l : Level} {op : BinOp} {t : Tree} {more : Links} {ts m r : List Token} {p : Place} →
        operator_level op ≡ c → SpellsBefore l t ts m → MoreLinks c l more m r →
        MoreLinks c l (Links.and_link op p t more) (token (operator_sign op) p ∷ ts) r

  -- { select }
  pub data MoreArguments : Trees → List Token → List Token → Type 0 where
    no_arguments : {r : List Token} → MoreArguments Trees.no_trees r r
    and_argument : {t : Tree} {more : Trees} {ts m r : List Token} →
        SpellsBefore Level.select t ts m → MoreArguments more m r → MoreArguments (Trees.and_tree t more) ts r

-- the tokens spell the tree at this level
abbrev pub Spells : Level → Tree → List Token → Type 0
Spells level tree tokens = SpellsBefore level tree tokens []

-- a program: the tokens spell the tree as a phrase, and then their end comes
abbrev pub IsProgram : Tree → List Token → Type 0
IsProgram tree tokens = (at : Place) × SpellsBefore Level.phrase tree tokens (token kind.End at ∷ [])

-- at most one tree spells a list of tokens as a phrase, and at most one is a program's
pub record IsUnambiguous : Type 0 where
  pub of_phrases : (tokens : List Token) (tree other : Tree) → Spells Level.phrase tree tokens → Spells Level.phrase other tokens → tree ≡ other
  pub of_programs : (tokens : List Token) (tree other : Tree) → IsProgram tree tokens → IsProgram other tokens → tree ≡ other
