-- Which tokens a phrase begins with, and which come behind its parts.
use Rattle.std.proofs.Common.{◌≡◌, ◌<◌, ◌≤◌, ◌+◌, ℕ, Bool, max, true, false, List, [], ◌∷◌, length, refl, arith}
use Rattle.fy_base.specs.declared.data.Place.{Place}
use Rattle.fy_base.specs.declared.data.UnOp.{UnOp}
use Rattle.fy_base.specs.declared.data.UnOp.TheVariants as unary
use Rattle.fy_lexer.specs.declared.token.Token.{Token}
use Rattle.fy_lexer.specs.declared.token.TokenKind.{TokenKind}
use Rattle.fy_lexer.specs.declared.token.TokenKind.TheVariants as kind
use Rattle.fy_lexer.specs.declared.token.Keyword.TheVariants as word
use Rattle.fy_lexer.specs.declared.token.Symbol.{Symbol}
use Rattle.fy_lexer.specs.declared.token.Symbol.TheVariants as symbol
use Rattle.fy_syntax.specs.declared.surface.Prefixed.{Prefixed}
use Rattle.fy_syntax.specs.Trees.{Tree, Trees, Defs, Links}
use Rattle.fy_syntax.specs.Nesting.{own, below, trees_nesting, trees_below, links_below}
use Rattle.fy_syntax.specs.Signs.{Level, prefix_sign}
use Rattle.fy_syntax.specs.Spells.{Dots, Prefixes, SpellsBefore, MoreTrees, MoreDefs, MoreLinks, MoreArguments, merge_of, sequence_of, chain_of, prefixed_of, apply_of, select_of}
use Rattle.fy_syntax.specs.Reader.{rank, starts, starts_kind, kind_at, prefixes_at}
use Rattle.fy_syntax.proofs.SignLemmas.{reach, reach_of, operator_reach, prefix_read, starts_reach, starts_no_prefix}
use Rattle.fy_syntax.proofs.TypesComplete.{type_shorter, types_shorter, decls_shorter}

pub dots_shorter : {names : List ℕ} {ts r : List Token} → Dots names ts r → length r ≤ length ts
dots_shorter Dots.no_dots = omega arith
dots_shorter (Dots.and_dot x) = omega (arith, dots_shorter x)

prefixes_shorter : {operators : List Prefixed} {ts r : List Token} → Prefixes operators ts r → length r ≤ length ts
prefixes_shorter Prefixes.no_prefixes = omega arith
prefixes_shorter (Prefixes.and_prefix x) = omega (arith, prefixes_shorter x)

mutual
  pub shorter : {l : Level} {t : Tree} {ts r : List Token} → SpellsBefore l t ts r → length r < length ts
  shorter (SpellsBefore.phrase x y) = omega (arith, shorter x, trees_shorter y)
  shorter (SpellsBefore.sequence x y) = omega (arith, shorter x, trees_shorter y)
  shorter (SpellsBefore.lam x y z) = omega (arith, type_shorter x, types_shorter y, shorter z)
  shorter (SpellsBefore.let_in x y z) = omega (arith, shorter x, defs_shorter y, shorter z)
  shorter (SpellsBefore.letrec a b x y z) = omega (arith, type_shorter a, decls_shorter b, shorter x, defs_shorter y, shorter z)
  shorter (SpellsBefore.let_type a x) = omega (arith, type_shorter a, shorter x)
  shorter (SpellsBefore.new d x y) = omega (arith, shorter x, shorter y)
  shorter (SpellsBefore.escape x) = omega (arith, shorter x)
  shorter (SpellsBefore.accept d x) = omega (arith, shorter x)
  shorter (SpellsBefore.cond x y z) = omega (arith, shorter x, shorter y, shorter z)
  shorter (SpellsBefore.while_do x y) = omega (arith, shorter x, shorter y)
  shorter (SpellsBefore.loop x) = omega (arith, shorter x)
  shorter (SpellsBefore.field x) = omega (arith, shorter x)
  shorter (SpellsBefore.assign x y) = omega (arith, shorter x, shorter y)
  shorter (SpellsBefore.no_assign x) = shorter x
  shorter (SpellsBefore.either x y) = omega (arith, shorter x, links_shorter y)
  shorter (SpellsBefore.both x y) = omega (arith, shorter x, links_shorter y)
  shorter (SpellsBefore.related o x y) = omega (arith, shorter x, shorter y)
  shorter (SpellsBefore.no_relation x) = shorter x
  shorter (SpellsBefore.sum x y) = omega (arith, shorter x, links_shorter y)
  shorter (SpellsBefore.product x y) = omega (arith, shorter x, links_shorter y)
  shorter (SpellsBefore.prefixed x y) = omega (arith, prefixes_shorter x, shorter y)
  shorter (SpellsBefore.apply x y) = omega (arith, shorter x, arguments_shorter y)
  shorter (SpellsBefore.select x y) = omega (arith, shorter x, dots_shorter y)
  shorter SpellsBefore.ident = omega arith
  shorter SpellsBefore.number = omega arith
  shorter SpellsBefore.letter = omega arith
  shorter SpellsBefore.string = omega arith
  shorter SpellsBefore.truth = omega arith
  shorter SpellsBefore.skip = omega arith
  shorter (SpellsBefore.group x) = omega (arith, shorter x)
  shorter (SpellsBefore.seq_of x y) = omega (arith, shorter x, trees_shorter y)

  pub trees_shorter : {s : Symbol} {l : Level} {more : Trees} {ts r : List Token} → MoreTrees s l more ts r → length r ≤ length ts
  trees_shorter MoreTrees.no_trees = omega arith
  trees_shorter (MoreTrees.and_tree x y) = omega (arith, shorter x, trees_shorter y)

  pub defs_shorter : {more : Defs} {ts r : List Token} → MoreDefs more ts r → length r ≤ length ts
  defs_shorter MoreDefs.no_defs = omega arith
  defs_shorter (MoreDefs.and_def x y) = omega (arith, shorter x, defs_shorter y)

  pub links_shorter : {c l : Level} {more : Links} {ts r : List Token} → MoreLinks c l more ts r → length r ≤ length ts
  links_shorter MoreLinks.no_links = omega arith
  links_shorter (MoreLinks.and_link e x y) = omega (arith, shorter x, links_shorter y)

  pub arguments_shorter : {more : Trees} {ts r : List Token} → MoreArguments more ts r → length r ≤ length ts
  arguments_shorter MoreArguments.no_arguments = omega arith
  arguments_shorter (MoreArguments.and_argument x y) = omega (arith, shorter x, arguments_shorter y)

-- what comes behind an item ends the item
pub trees_front : {s : Symbol} {l : Level} {more : Trees} {ts r : List Token} (n : ℕ) → MoreTrees s l more ts r → reach (kind.Sym s) < n → reach_of r < n → reach_of ts < n
trees_front n MoreTrees.no_trees sep stop = stop
trees_front n (MoreTrees.and_tree x y) sep stop = sep

pub defs_front : {more : Defs} {ts r : List Token} (n : ℕ) → MoreDefs more ts r → 1 < n → reach_of r < n → reach_of ts < n
defs_front n MoreDefs.no_defs sep stop = stop
defs_front n (MoreDefs.and_def x y) sep stop = sep

pub links_front : {c l : Level} {more : Links} {ts r : List Token} (n : ℕ) → MoreLinks c l more ts r → rank c < n → reach_of r < n → reach_of ts < n
links_front n MoreLinks.no_links sep stop = stop
links_front n (MoreLinks.and_link {op = op} e x y) sep stop = rw (operator_reach op) (rw e sep)

pub dots_front : {names : List ℕ} {ts r : List Token} → Dots names ts r → reach_of r < 12 → reach_of ts < 12
dots_front Dots.no_dots stop = stop
dots_front (Dots.and_dot x) stop = omega arith

-- a primary begins an application
pub primary_starts : {t : Tree} {ts r : List Token} → SpellsBefore Level.primary t ts r → starts ts ≡ true
primary_starts SpellsBefore.ident = refl
primary_starts SpellsBefore.number = refl
primary_starts SpellsBefore.letter = refl
primary_starts SpellsBefore.string = refl
primary_starts (SpellsBefore.truth {b = true}) = refl
primary_starts (SpellsBefore.truth {b = false}) = refl
primary_starts SpellsBefore.skip = refl
primary_starts (SpellsBefore.group x) = refl
primary_starts (SpellsBefore.seq_of x y) = refl

pub select_starts : {t : Tree} {ts r : List Token} → SpellsBefore Level.select t ts r → starts ts ≡ true
select_starts (SpellsBefore.select x y) = primary_starts x

pub apply_starts : {t : Tree} {ts r : List Token} → SpellsBefore Level.apply t ts r → starts ts ≡ true
apply_starts (SpellsBefore.apply x y) = select_starts x

pub arguments_front : {more : Trees} {ts r : List Token} (n : ℕ) → MoreArguments more ts r → 10 < n → reach_of r < n → reach_of ts < n
arguments_front n MoreArguments.no_arguments sep stop = stop
arguments_front n (MoreArguments.and_argument {ts = ts} x y) sep stop = omega (arith, starts_reach (kind_at ts) (select_starts x))

-- prefix operators end where an application begins
prefixes_end : (ts : List Token) → starts ts ≡ true → prefixes_at ts ≡ ([], ts)
prefixes_end [] e = refl
prefixes_end (t ∷ ts) e = rw (starts_no_prefix t.kind e) refl

pub prefixes_complete : {operators : List Prefixed} {ts r : List Token} → Prefixes operators ts r → starts r ≡ true → prefixes_at ts ≡ (operators, r)
prefixes_complete {r = r} Prefixes.no_prefixes e = prefixes_end r e
prefixes_complete (Prefixes.and_prefix {op = op} x) e = rw (prefix_read op) (rw (prefixes_complete x e) refl)

-- whether a token begins an operand: a primary, or an operator in front of one
abbrev pub opens : TokenKind → Bool
opens (kind.Sym symbol.Minus) = true
opens (kind.Word word.Not) = true
opens (kind.Word word.Ord) = true
opens (kind.Word word.Chr) = true
opens k = starts_kind k

starts_opens : (k : TokenKind) → starts_kind k ≡ true → opens k ≡ true
starts_opens (kind.Sym symbol.Minus) e = refl
starts_opens (kind.Word word.Not) e = refl
starts_opens (kind.Word word.Ord) e = refl
starts_opens (kind.Word word.Chr) e = refl
starts_opens _ e = e

prefix_opens : (o : UnOp) → opens (prefix_sign o) ≡ true
prefix_opens unary.Neg = refl
prefix_opens unary.Not = refl
prefix_opens unary.Ord = refl
prefix_opens unary.Chr = refl

pub prefixed_opens : {t : Tree} {ts r : List Token} → SpellsBefore Level.prefixed t ts r → opens (kind_at ts) ≡ true
prefixed_opens (SpellsBefore.prefixed {ts = ts} Prefixes.no_prefixes y) = starts_opens (kind_at ts) (apply_starts y)
prefixed_opens (SpellsBefore.prefixed (Prefixes.and_prefix {op = op} x) y) = prefix_opens op

pub sum_opens : {t : Tree} {ts r : List Token} → SpellsBefore Level.sum t ts r → opens (kind_at ts) ≡ true
sum_opens (SpellsBefore.sum (SpellsBefore.product x y) z) = prefixed_opens x

pub relation_opens : {t : Tree} {ts r : List Token} → SpellsBefore Level.relation t ts r → opens (kind_at ts) ≡ true
relation_opens (SpellsBefore.related o x y) = sum_opens x
relation_opens (SpellsBefore.no_relation x) = sum_opens x

pub either_opens : {t : Tree} {ts r : List Token} → SpellsBefore Level.either t ts r → opens (kind_at ts) ≡ true
either_opens (SpellsBefore.either (SpellsBefore.both x y) z) = relation_opens x

-- how far the token behind a first name goes on
abbrev pub behind_name : TokenKind → ℕ → ℕ
behind_name (kind.Ident n) k = k
behind_name _ k = 0

abbrev pub second : List Token → ℕ
second [] = 0
second (t ∷ ts) = behind_name t.kind (reach_of ts)

pub primary_second : {t : Tree} {ts r : List Token} → SpellsBefore Level.primary t ts r → reach_of r < 12 → second ts < 12
primary_second SpellsBefore.ident h = h
primary_second SpellsBefore.number h = omega arith
primary_second SpellsBefore.letter h = omega arith
primary_second SpellsBefore.string h = omega arith
primary_second (SpellsBefore.truth {b = true}) h = omega arith
primary_second (SpellsBefore.truth {b = false}) h = omega arith
primary_second SpellsBefore.skip h = omega arith
primary_second (SpellsBefore.group x) h = omega arith
primary_second (SpellsBefore.seq_of x y) h = omega arith

pub select_second : {t : Tree} {ts r : List Token} → SpellsBefore Level.select t ts r → reach_of r < 12 → second ts < 12
select_second (SpellsBefore.select x y) h = primary_second x (dots_front y h)

pub apply_second : {t : Tree} {ts r : List Token} → SpellsBefore Level.apply t ts r → reach_of r < 12 → second ts < 12
apply_second (SpellsBefore.apply x y) h = select_second x (arguments_front 12 y (omega arith) h)

prefix_second : (o : UnOp) (k : ℕ) → behind_name (prefix_sign o) k ≡ 0
prefix_second unary.Neg k = refl
prefix_second unary.Not k = refl
prefix_second unary.Ord k = refl
prefix_second unary.Chr k = refl

pub prefixed_second : {t : Tree} {ts r : List Token} → SpellsBefore Level.prefixed t ts r → reach_of r < 12 → second ts < 12
prefixed_second (SpellsBefore.prefixed Prefixes.no_prefixes y) h = apply_second y h
prefixed_second (SpellsBefore.prefixed (Prefixes.and_prefix {op = op} {ts = ts} x) y) h = omega (arith, prefix_second op (reach_of ts))

pub product_second : {t : Tree} {ts r : List Token} → SpellsBefore Level.product t ts r → reach_of r < 12 → second ts < 12
product_second (SpellsBefore.product x y) h = prefixed_second x (links_front 12 y (omega arith) h)

pub sum_second : {t : Tree} {ts r : List Token} → SpellsBefore Level.sum t ts r → reach_of r < 12 → second ts < 12
sum_second (SpellsBefore.sum x y) h = product_second x (links_front 12 y (omega arith) h)

pub relation_second : {t : Tree} {ts r : List Token} → SpellsBefore Level.relation t ts r → reach_of r < 12 → second ts < 12
relation_second (SpellsBefore.related {op = op} o x y) h = sum_second x (rw (operator_reach op) (rw o (omega arith)))
relation_second (SpellsBefore.no_relation x) h = sum_second x h

pub both_second : {t : Tree} {ts r : List Token} → SpellsBefore Level.both t ts r → reach_of r < 12 → second ts < 12
both_second (SpellsBefore.both x y) h = relation_second x (links_front 12 y (omega arith) h)

pub either_second : {t : Tree} {ts r : List Token} → SpellsBefore Level.either t ts r → reach_of r < 12 → second ts < 12
either_second (SpellsBefore.either x y) h = both_second x (links_front 12 y (omega arith) h)

-- lists of one item
pub merge_nested : (t : Tree) (more : Trees) (p : Place) → below (merge_of t more p) + own (merge_of t more p) ≡ max (below t + own t) (trees_nesting more)
merge_nested t Trees.no_trees p = omega arith
merge_nested t (Trees.and_tree u more) p = omega arith

pub sequence_nested : (t : Tree) (more : Trees) (p : Place) → below (sequence_of t more p) + own (sequence_of t more p) ≡ max (below t + own t) (trees_nesting more)
sequence_nested t Trees.no_trees p = omega arith
sequence_nested t (Trees.and_tree u more) p = omega arith

pub chain_below : (t : Tree) (more : Links) (p : Place) → below (chain_of t more p) ≡ max (below t) (links_below more)
chain_below t Links.no_links p = omega arith
chain_below t (Links.and_link op q u more) p = refl

pub prefixed_below : (operators : List Prefixed) (t : Tree) (p : Place) → below (prefixed_of operators t p) ≡ below t
prefixed_below [] t p = refl
prefixed_below (o ∷ operators) t p = refl

pub apply_below : (t : Tree) (more : Trees) (p : Place) → below (apply_of t more p) ≡ max (below t) (trees_below more)
apply_below t Trees.no_trees p = omega arith
apply_below t (Trees.and_tree u more) p = refl

pub select_below : (t : Tree) (names : List ℕ) (p : Place) → below (select_of t names p) ≡ below t
select_below t [] p = refl
select_below t (n ∷ names) p = refl

-- a term is one node
pub own_one : {l : Level} {t : Tree} {ts r : List Token} → SpellsBefore l t ts r → 3 ≤ rank l → own t ≡ 1
own_one (SpellsBefore.phrase x y) h = absurd (omega arith)
own_one (SpellsBefore.sequence x y) h = absurd (omega arith)
own_one (SpellsBefore.lam x y z) h = refl
own_one (SpellsBefore.let_in x y z) h = refl
own_one (SpellsBefore.letrec a b x y z) h = refl
own_one (SpellsBefore.let_type a x) h = refl
own_one (SpellsBefore.new d x y) h = refl
own_one (SpellsBefore.escape x) h = refl
own_one (SpellsBefore.accept d x) h = refl
own_one (SpellsBefore.cond x y z) h = refl
own_one (SpellsBefore.while_do x y) h = refl
own_one (SpellsBefore.loop x) h = refl
own_one (SpellsBefore.field x) h = refl
own_one (SpellsBefore.assign x y) h = refl
own_one (SpellsBefore.no_assign x) h = own_one x (omega arith)
own_one (SpellsBefore.either x MoreLinks.no_links) h = own_one x (omega arith)
own_one (SpellsBefore.either x (MoreLinks.and_link e y z)) h = refl
own_one (SpellsBefore.both x MoreLinks.no_links) h = own_one x (omega arith)
own_one (SpellsBefore.both x (MoreLinks.and_link e y z)) h = refl
own_one (SpellsBefore.related o x y) h = refl
own_one (SpellsBefore.no_relation x) h = own_one x (omega arith)
own_one (SpellsBefore.sum x MoreLinks.no_links) h = own_one x (omega arith)
own_one (SpellsBefore.sum x (MoreLinks.and_link e y z)) h = refl
own_one (SpellsBefore.product x MoreLinks.no_links) h = own_one x (omega arith)
own_one (SpellsBefore.product x (MoreLinks.and_link e y z)) h = refl
own_one (SpellsBefore.prefixed Prefixes.no_prefixes y) h = own_one y (omega arith)
own_one (SpellsBefore.prefixed (Prefixes.and_prefix x) y) h = refl
own_one (SpellsBefore.apply x MoreArguments.no_arguments) h = own_one x (omega arith)
own_one (SpellsBefore.apply x (MoreArguments.and_argument y z)) h = refl
own_one (SpellsBefore.select x Dots.no_dots) h = own_one x (omega arith)
own_one (SpellsBefore.select x (Dots.and_dot y)) h = refl
own_one SpellsBefore.ident h = refl
own_one SpellsBefore.number h = refl
own_one SpellsBefore.letter h = refl
own_one SpellsBefore.string h = refl
own_one SpellsBefore.truth h = refl
own_one SpellsBefore.skip h = refl
own_one (SpellsBefore.group x) h = refl
own_one (SpellsBefore.seq_of x y) h = refl
