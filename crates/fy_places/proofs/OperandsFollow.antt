-- Operands, arguments and chains of operators are read alike.
use Rattle.std.proofs.Common.{List, [], arith, length, ◌∷◌, ◌≤◌}
use Rattle.std.specs.Prelude.{None, Ok, Option, Some}
use Rattle.fy_base.specs.declared.data.BinOp.{BinOp}
use Rattle.fy_base.specs.declared.data.Place.{Place}
use Rattle.fy_base.specs.declared.data.UnOp.{UnOp}
use Rattle.fy_lexer.specs.declared.token.Keyword.TheVariants as word
use Rattle.fy_lexer.specs.declared.token.Symbol.TheVariants as symbol
use Rattle.fy_lexer.specs.declared.token.Token.{Token}
use Rattle.fy_lexer.specs.declared.token.TokenKind.{TokenKind}
use Rattle.fy_lexer.specs.declared.token.TokenKind.TheVariants as kind
use Rattle.fy_syntax.specs.declared.surface.Prefixed.{Prefixed}
use Rattle.fy_syntax.specs.Reader.{Inner, apply_at, arguments_at, behind, both_at, chain_at, dots_at, either_at, group_at, link_step, links_at, mapped, of_level, operator_at, operator_kind, prefix_kind, prefixed_at, prefixes_at, prefixes_step, primary_at, primary_by_kind, product_at, relation_at, select_at, seq_at, starts_kind, sum_at}
use Rattle.fy_syntax.specs.Signs.{Level, front, token}
use Rattle.fy_syntax.specs.Spells.{select_of}
use Rattle.fy_syntax.specs.Trees.{Links, Tree}
use Rattle.fy_places.proofs.Alike.{AnswersAs, Follows, SameKinds, answers_past}
use Rattle.fy_places.proofs.Following.{Further, behind_follows, kind_follows, mapped_follows, nested_follows, ok_follows, opened_follows, taken_follows, then_follows, wrong_follows}
use Rattle.fy_places.proofs.FormsFollow.{Inside, group_behind, group_follows, seq_behind, seq_follows}
use Rattle.fy_places.proofs.ListsFollow.{Item, arguments_loop, dots_follow, links_follow}
use Rattle.fy_places.proofs.LooksFollow.{nested_leaves, nested_leaves_too, then_leaves_if_read}
use Rattle.fy_places.proofs.LoopsFollow.{LeavesIfRead, TakesToken, loop_follows, read_leaves}

abbrev pub TermFurther : Type 0 → Option Inner → Option Inner → Type 0
TermFurther excuse i j = Further excuse (Inside excuse) i j

-- operands
primary_follows : (excuse : Type 0) (i j : Option Inner) → TermFurther excuse i j → Follows excuse (primary_at i) (primary_at j)
primary_follows excuse i j h = kind_follows excuse (λ k tokens. primary_by_kind k i tokens) (λ k tokens. primary_by_kind k j tokens) go
  where
    go : (k : TokenKind) → Follows excuse (λ tokens. primary_by_kind k i tokens) (λ tokens. primary_by_kind k j tokens)
    go (kind.Ident n) = taken_follows excuse _ _
    go (kind.Number v) = taken_follows excuse _ _
    go (kind.Letter c) = taken_follows excuse _ _
    go (kind.Str bytes) = taken_follows excuse _ _
    go (kind.Word word.True) = taken_follows excuse _ _
    go (kind.Word word.False) = taken_follows excuse _ _
    go (kind.Word word.Skip) = taken_follows excuse _ _
    go (kind.Sym symbol.OpenParen) =
        nested_follows excuse (Inside excuse) i j group_at group_at h (λ f g k. opened_follows excuse (group_behind f) (group_behind g) (group_follows excuse f g k))
    go (kind.Word word.Seq) =
        nested_follows excuse (Inside excuse) i j seq_at seq_at h (λ f g k. opened_follows excuse (seq_behind f) (seq_behind g) (seq_follows excuse f g k))
    go _ = wrong_follows Tree excuse

-- an operand takes a token at least
primary_takes : (excuse : Type 0) (i j : Option Inner) → TermFurther excuse i j → (t : Token) (tokens : List Token) → LeavesIfRead (length tokens) (primary_at i (t ∷ tokens))
primary_takes excuse i j h t tokens = go t.kind
  where
    go : (k : TokenKind) → LeavesIfRead (length tokens) (primary_by_kind k i (t ∷ tokens))
    go (kind.Ident n) = omega arith
    go (kind.Number v) = omega arith
    go (kind.Letter c) = omega arith
    go (kind.Str bytes) = omega arith
    go (kind.Word word.True) = omega arith
    go (kind.Word word.False) = omega arith
    go (kind.Word word.Skip) = omega arith
    go (kind.Sym symbol.OpenParen) = nested_leaves excuse (Inside excuse) (length tokens) i j (t ∷ tokens) (λ g. group_at g (t ∷ tokens)) h (λ f g k. (group_follows excuse f g k (t ∷ tokens) (t ∷ tokens)).left (length tokens) tokens (omega arith))
    go (kind.Word word.Seq) = nested_leaves excuse (Inside excuse) (length tokens) i j (t ∷ tokens) (λ g. seq_at g (t ∷ tokens)) h (λ f g k. (seq_follows excuse f g k (t ∷ tokens) (t ∷ tokens)).left (length tokens) tokens (omega arith))
    go _ = tt

primary_takes_too : (excuse : Type 0) (i j : Option Inner) → TermFurther excuse i j → (t : Token) (tokens : List Token) → LeavesIfRead (length tokens) (primary_at j (t ∷ tokens))
primary_takes_too excuse i j h t tokens = go t.kind
  where
    go : (k : TokenKind) → LeavesIfRead (length tokens) (primary_by_kind k j (t ∷ tokens))
    go (kind.Ident n) = omega arith
    go (kind.Number v) = omega arith
    go (kind.Letter c) = omega arith
    go (kind.Str bytes) = omega arith
    go (kind.Word word.True) = omega arith
    go (kind.Word word.False) = omega arith
    go (kind.Word word.Skip) = omega arith
    go (kind.Sym symbol.OpenParen) = nested_leaves_too excuse (Inside excuse) (length tokens) i j (t ∷ tokens) (λ g. group_at g (t ∷ tokens)) h (λ f g k. (group_follows excuse f g k (t ∷ tokens) (t ∷ tokens)).right (length tokens) tokens (omega arith))
    go (kind.Word word.Seq) = nested_leaves_too excuse (Inside excuse) (length tokens) i j (t ∷ tokens) (λ g. seq_at g (t ∷ tokens)) h (λ f g k. (seq_follows excuse f g k (t ∷ tokens) (t ∷ tokens)).right (length tokens) tokens (omega arith))
    go _ = tt

dotted_follows : (excuse : Type 0) (u v : List Token) (a b : Tree) → Follows excuse (λ here. mapped (λ names. select_of a names (front u)) (dots_at (length here) here)) (λ here. mapped (λ names. select_of b names (front v)) (dots_at (length here) here))
dotted_follows excuse u v a b = mapped_follows excuse (λ here. dots_at (length here) here) (λ here. dots_at (length here) here) _ _ (dots_follow excuse)

select_follows : (excuse : Type 0) (i j : Option Inner) → TermFurther excuse i j → Follows excuse (select_at i) (select_at j)
select_follows excuse i j h = then_follows excuse (primary_at i) (primary_at j) _ _ (primary_follows excuse i j h) (λ u v a b. dotted_follows excuse u v a b)

select_takes : (excuse : Type 0) (i j : Option Inner) → TermFurther excuse i j → TakesToken starts_kind (select_at i)
select_takes excuse i j h t tokens x e s =
    read_leaves (length tokens) (select_at i (t ∷ tokens)) x
    (then_leaves_if_read (length tokens) (primary_at i (t ∷ tokens)) (λ x. mapped (λ names. select_of x.0 names (front (t ∷ tokens))) (dots_at (length x.1) x.1)) (primary_takes excuse i j h t tokens) (λ a here le. (dotted_follows excuse (t ∷ tokens) (t ∷ tokens) a a).left (length tokens) here le)) s

select_takes_too : (excuse : Type 0) (i j : Option Inner) → TermFurther excuse i j → TakesToken starts_kind (select_at j)
select_takes_too excuse i j h t tokens x e s =
    read_leaves (length tokens) (select_at j (t ∷ tokens)) x
    (then_leaves_if_read (length tokens) (primary_at j (t ∷ tokens)) (λ x. mapped (λ names. select_of x.0 names (front (t ∷ tokens))) (dots_at (length x.1) x.1)) (primary_takes_too excuse i j h t tokens) (λ a here le. (dotted_follows excuse (t ∷ tokens) (t ∷ tokens) a a).left (length tokens) here le)) s

arguments_follow : (excuse : Type 0) (i j : Option Inner) → TermFurther excuse i j → Follows excuse (λ tokens. arguments_at (length tokens) (select_at i) tokens) (λ tokens. arguments_at (length tokens) (select_at j) tokens)
arguments_follow excuse i j h =
    loop_follows excuse starts_kind (select_at i) (select_at j) (λ fuel tokens. arguments_at fuel (select_at i) tokens) (λ fuel tokens. arguments_at fuel (select_at j) tokens) (arguments_loop (select_at i)) (arguments_loop (select_at j))
    (select_takes excuse i j h) (select_takes_too excuse i j h) (select_follows excuse i j h)

apply_follows : (excuse : Type 0) (i j : Option Inner) → TermFurther excuse i j → Follows excuse (apply_at i) (apply_at j)
apply_follows excuse i j h =
    then_follows excuse (select_at i) (select_at j) _ _ (select_follows excuse i j h)
    (λ u v a b. mapped_follows excuse (λ here. arguments_at (length here) (select_at i) here) (λ here. arguments_at (length here) (select_at j) here) _ _ (arguments_follow excuse i j h))

-- operators in front
step_length : (o : Option UnOp) (at : Place) (more : List Prefixed × List Token) (all : List Token) → length more.1 ≤ length all → length (prefixes_step o at more all).1 ≤ length all
step_length (Some o) at more all h = h
step_length None at more all h = omega arith

prefixes_length : (tokens : List Token) → length (prefixes_at tokens).1 ≤ length tokens
prefixes_length [] = omega arith
prefixes_length (t ∷ tokens) = step_length (prefix_kind t.kind) t.place (prefixes_at tokens) (t ∷ tokens) (omega (arith, prefixes_length tokens))

prefixed_answers : (excuse : Type 0) (f g : Item) → Follows excuse f g → (rest other_rest here there : List Token) → SameKinds rest other_rest here there → AnswersAs rest other_rest excuse (f (prefixes_at here).1) (g (prefixes_at there).1)
prefixed_answers excuse f g h rest other_rest here there (SameKinds.last {k = k} {p = p} {o = o}) = go (prefix_kind k)
  where
    go : (w : Option UnOp) → AnswersAs rest other_rest excuse (f (prefixes_step w p (prefixes_at rest) (token k p ∷ rest)).1) (g (prefixes_step w o (prefixes_at other_rest) (token k o ∷ other_rest)).1)
    go (Some w) = answers_past rest other_rest excuse (f (prefixes_at rest).1) (g (prefixes_at other_rest).1) (h.left (length rest) (prefixes_at rest).1 (prefixes_length rest))
    go None = h.same rest other_rest (token k p ∷ rest) (token k o ∷ other_rest) SameKinds.last
prefixed_answers excuse f g h rest other_rest here there (SameKinds.next {k = k} {p = p} {o = o} {here = v} {there = w} a) = go (prefixed_answers excuse f g h rest other_rest v w a) (prefix_kind k)
  where
    go : AnswersAs rest other_rest excuse (f (prefixes_at v).1) (g (prefixes_at w).1) → (z : Option UnOp) → AnswersAs rest other_rest excuse (f (prefixes_step z p (prefixes_at v) (token k p ∷ v)).1) (g (prefixes_step z o (prefixes_at w) (token k o ∷ w)).1)
    go ih (Some z) = ih
    go ih None = h.same rest other_rest (token k p ∷ v) (token k o ∷ w) (SameKinds.next a)

stripped_follows : (excuse : Type 0) (f g : Item) → Follows excuse f g → Follows excuse (λ tokens. f (prefixes_at tokens).1) (λ tokens. g (prefixes_at tokens).1)
stripped_follows excuse f g h = record {
  left = λ most here le. h.left most (prefixes_at here).1 (omega (arith, prefixes_length here));
  right = λ most here le. h.right most (prefixes_at here).1 (omega (arith, prefixes_length here));
  same = λ rest other_rest here there a. prefixed_answers excuse f g h rest other_rest here there a;
}

prefixed_follows : (excuse : Type 0) (i j : Option Inner) → TermFurther excuse i j → Follows excuse (prefixed_at i) (prefixed_at j)
prefixed_follows excuse i j h = mapped_follows excuse (λ tokens. apply_at i (prefixes_at tokens).1) (λ tokens. apply_at j (prefixes_at tokens).1) _ _ (stripped_follows excuse (apply_at i) (apply_at j) (apply_follows excuse i j h))

chain_follows : (excuse : Type 0) (c : Level) (f g : Item) → Follows excuse f g → Follows excuse (chain_at c f) (chain_at c g)
chain_follows excuse c f g h = then_follows excuse f g _ _ h (λ u v a b. mapped_follows excuse (λ here. links_at (length here) c f here) (λ here. links_at (length here) c g here) _ _ (links_follow excuse c f g h))

sum_follows : (excuse : Type 0) (i j : Option Inner) → TermFurther excuse i j → Follows excuse (sum_at i) (sum_at j)
sum_follows excuse i j h = chain_follows excuse Level.sum (product_at i) (product_at j) (chain_follows excuse Level.product (prefixed_at i) (prefixed_at j) (prefixed_follows excuse i j h))

related_follows : (excuse : Type 0) (f g : Item) → Follows excuse f g → (u v : List Token) (a b : Tree) →
    Follows excuse (λ here. link_step (operator_at Level.relation here) (λ op. mapped (λ t. Tree.chain a (Links.and_link op (front here) t Links.no_links) (front u)) (f (behind here))) (Ok (a, here)))
    (λ here. link_step (operator_at Level.relation here) (λ op. mapped (λ t. Tree.chain b (Links.and_link op (front here) t Links.no_links) (front v)) (g (behind here))) (Ok (b, here)))
related_follows excuse f g h u v a b =
    kind_follows excuse (λ k here. link_step (of_level Level.relation (operator_kind k)) (λ op. mapped (λ t. Tree.chain a (Links.and_link op (front here) t Links.no_links) (front u)) (f (behind here))) (Ok (a, here)))
    (λ k here. link_step (of_level Level.relation (operator_kind k)) (λ op. mapped (λ t. Tree.chain b (Links.and_link op (front here) t Links.no_links) (front v)) (g (behind here))) (Ok (b, here)))
    (λ k. go (of_level Level.relation (operator_kind k)))
  where
    go : (o : Option BinOp) → Follows excuse (λ here. link_step o (λ op. mapped (λ t. Tree.chain a (Links.and_link op (front here) t Links.no_links) (front u)) (f (behind here))) (Ok (a, here)))
        (λ here. link_step o (λ op. mapped (λ t. Tree.chain b (Links.and_link op (front here) t Links.no_links) (front v)) (g (behind here))) (Ok (b, here)))
    go (Some op) = mapped_follows excuse (λ here. f (behind here)) (λ here. g (behind here)) _ _ (behind_follows excuse f g h)
    go None = ok_follows excuse a b

relation_follows : (excuse : Type 0) (i j : Option Inner) → TermFurther excuse i j → Follows excuse (relation_at i) (relation_at j)
relation_follows excuse i j h = then_follows excuse (sum_at i) (sum_at j) _ _ (sum_follows excuse i j h) (λ u v a b. related_follows excuse (sum_at i) (sum_at j) (sum_follows excuse i j h) u v a b)

pub either_follows : (excuse : Type 0) (i j : Option Inner) → TermFurther excuse i j → Follows excuse (either_at i) (either_at j)
either_follows excuse i j h = chain_follows excuse Level.either (both_at i) (both_at j) (chain_follows excuse Level.both (relation_at i) (relation_at j) (relation_follows excuse i j h))
