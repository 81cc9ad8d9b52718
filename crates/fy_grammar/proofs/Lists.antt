-- Lists of two members or more, and lists of one, which is no list.
use Rattle.std.proofs.Common.{◌≡◌, true, false, List, [], ◌∷◌, length, refl, ap}
use Rattle.std.specs.Prelude.{Ok, Err}
use Rattle.fy_base.specs.declared.data.Place.{Place}
use Rattle.fy_lexer.specs.declared.token.Token.{Token}
use Rattle.fy_lexer.specs.declared.token.Symbol.{Symbol}
use Rattle.fy_lexer.specs.declared.token.Symbol.TheVariants as symbol
use Rattle.fy_syntax.specs.Trees.{TypeTree, TypeTrees, Tree, Trees}
use Rattle.fy_syntax.specs.Signs.{front}
use Rattle.fy_syntax.specs.Spells.{meet_of, merge_of, sequence_of}
use Rattle.fy_syntax.specs.Reader.{Read, ◌>>=◌, mapped, begins_with, types_at, trees_at, sequence_at, phrase_at}

abbrev just : {A : Type 0} → A → List Token → Read A
just a ts = Ok (a, ts)

-- some member was read
abbrev SomeTrees : Trees → Type 0
SomeTrees Trees.no_trees = ⊥
SomeTrees (Trees.and_tree p more) = Unit {0}

abbrev SomeTypes : TypeTrees → Type 0
SomeTypes TypeTrees.no_types = ⊥
SomeTypes (TypeTrees.and_type a more) = Unit {0}

abbrev ReadSome : {A : Type 0} → (A → Type 0) → Read A → Type 0
ReadSome P (Ok x) = P x.0
ReadSome P (Err e) = Unit {0}

trees_read : (r : Read Tree) (more : Tree × List Token → Read Trees) → ReadSome SomeTrees (r >>= λ x. mapped (Trees.and_tree x.0) (more x))
trees_read (Ok x) more = go (more x)
  where
    go : (m : Read Trees) → ReadSome SomeTrees (mapped (Trees.and_tree x.0) m)
    go (Ok y) = tt
    go (Err e) = tt
trees_read (Err e) more = tt

types_read : (r : Read TypeTree) (more : TypeTree × List Token → Read TypeTrees) → ReadSome SomeTypes (r >>= λ x. mapped (TypeTrees.and_type x.0) (more x))
types_read (Ok x) more = go (more x)
  where
    go : (m : Read TypeTrees) → ReadSome SomeTypes (mapped (TypeTrees.and_type x.0) m)
    go (Ok y) = tt
    go (Err e) = tt
types_read (Err e) more = tt

trees_some : (s : Symbol) (item : List Token → Read Tree) (ts : List Token) → begins_with s ts ≡ true → ReadSome SomeTrees (trees_at (length ts) s item ts)
trees_some s item [] e = absurd cc
trees_some s item (t ∷ ts) e = rw e (trees_read (item ts) (λ x. trees_at (length ts) s item x.1))

types_some : (s : Symbol) (item : List Token → Read TypeTree) (ts : List Token) → begins_with s ts ≡ true → ReadSome SomeTypes (types_at (length ts) s item ts)
types_some s item [] e = absurd cc
types_some s item (t ∷ ts) e = rw e (types_read (item ts) (λ x. types_at (length ts) s item x.1))

trees_none : (s : Symbol) (item : List Token → Read Tree) (ts : List Token) → begins_with s ts ≡ false → trees_at (length ts) s item ts ≡ Ok (Trees.no_trees, ts)
trees_none s item [] e = refl
trees_none s item (t ∷ ts) e = rw e refl

types_none : (s : Symbol) (item : List Token → Read TypeTree) (ts : List Token) → begins_with s ts ≡ false → types_at (length ts) s item ts ≡ Ok (TypeTrees.no_types, ts)
types_none s item [] e = refl
types_none s item (t ∷ ts) e = rw e refl

-- what a list is made to, with its first member in front
trees_made : (f : Tree → Trees → Place → Tree) (g : Trees → Place → Tree) → ((a b : Tree) (more : Trees) (p : Place) → f a (Trees.and_tree b more) p ≡ g (Trees.and_tree a (Trees.and_tree b more)) p) →
    (a : Tree) (p : Place) (m : Read Trees) → ReadSome SomeTrees m → mapped (λ more. f a more p) m ≡ mapped (λ all. g all p) (mapped (Trees.and_tree a) m)
trees_made f g h a p (Ok x) s = go x.0 s
  where
    go : (more : Trees) → SomeTrees more → just (f a more p) x.1 ≡ just (g (Trees.and_tree a more) p) x.1
    go Trees.no_trees s = absurd s
    go (Trees.and_tree b more) s = ap (λ t. just t x.1) (h a b more p)
trees_made f g h a p (Err e) s = refl

types_made : (a : TypeTree) (p : Place) (m : Read TypeTrees) → ReadSome SomeTypes m → mapped (λ more. meet_of a more p) m ≡ mapped (λ all. TypeTree.meet all p) (mapped (TypeTrees.and_type a) m)
types_made a p (Ok x) s = go x.0 s
  where
    go : (more : TypeTrees) → SomeTypes more → just (meet_of a more p) x.1 ≡ just (TypeTree.meet (TypeTrees.and_type a more) p) x.1
    go TypeTrees.no_types s = absurd s
    go (TypeTrees.and_type b more) s = refl
types_made a p (Err e) s = refl

-- one member
pub inter_one : (item : List Token → Read TypeTree) (ts m : List Token) (a : TypeTree) → item ts ≡ Ok (a, m) → begins_with symbol.Ampersand m ≡ false →
    (item ts >>= λ x. mapped (λ more. meet_of x.0 more (front ts)) (types_at (length x.1) symbol.Ampersand item x.1)) ≡ Ok (a, m)
inter_one item ts m a e f = rw e (rw (types_none symbol.Ampersand item m f) refl)

pub sequence_one : (term : List Token → Read Tree) (ts m : List Token) (a : Tree) → term ts ≡ Ok (a, m) → begins_with symbol.Semicolon m ≡ false → sequence_at term ts ≡ Ok (a, m)
sequence_one term ts m a e f = rw e (rw (trees_none symbol.Semicolon term m f) refl)

pub phrase_one : (term : List Token → Read Tree) (ts m : List Token) (a : Tree) → sequence_at term ts ≡ Ok (a, m) → begins_with symbol.Comma m ≡ false → phrase_at term ts ≡ Ok (a, m)
phrase_one term ts m a e f = rw e (rw (trees_none symbol.Comma (sequence_at term) m f) refl)

-- more members
pub inter_more : (item : List Token → Read TypeTree) (ts m : List Token) (a : TypeTree) → item ts ≡ Ok (a, m) → begins_with symbol.Ampersand m ≡ true →
    (item ts >>= λ x. mapped (λ more. meet_of x.0 more (front ts)) (types_at (length x.1) symbol.Ampersand item x.1))
    ≡ mapped (λ all. TypeTree.meet all (front ts)) (mapped (TypeTrees.and_type a) (types_at (length m) symbol.Ampersand item m))
inter_more item ts m a e f = rw e (types_made a (front ts) (types_at (length m) symbol.Ampersand item m) (types_some symbol.Ampersand item m f))

pub sequence_more : (term : List Token → Read Tree) (ts m : List Token) (a : Tree) → term ts ≡ Ok (a, m) → begins_with symbol.Semicolon m ≡ true →
    sequence_at term ts ≡ mapped (λ all. Tree.sequence all (front ts)) (mapped (Trees.and_tree a) (trees_at (length m) symbol.Semicolon term m))
sequence_more term ts m a e f = rw e (trees_made sequence_of Tree.sequence (λ a b more p. refl) a (front ts) (trees_at (length m) symbol.Semicolon term m) (trees_some symbol.Semicolon term m f))

pub phrase_more : (term : List Token → Read Tree) (ts m : List Token) (a : Tree) → sequence_at term ts ≡ Ok (a, m) → begins_with symbol.Comma m ≡ true →
    phrase_at term ts ≡ mapped (λ all. Tree.merge all (front ts)) (mapped (Trees.and_tree a) (trees_at (length m) symbol.Comma (sequence_at term) m))
phrase_more term ts m a e f =
    rw e (trees_made merge_of Tree.merge (λ a b more p. refl) a (front ts) (trees_at (length m) symbol.Comma (sequence_at term) m) (trees_some symbol.Comma (sequence_at term) m f))
