-- How large things are, as far as numbers of 64 bits tell it, and what the core phrases of written ones measure.
use Rattle.std.specs.Prelude.{ℕ, ◌+◌, ◌-◌, max, ◌==◌, if◌then◌else◌, List, [], ◌∷◌, length}
use Rattle.fy_types.specs.Types.{PlainType, PlainTypes}
use Rattle.fy_types.specs.Nested.{type_nodes, types_nodes, type_nesting, types_nesting}
use Rattle.fy_syntax.specs.Trees.{Defs, Links}
use Rattle.fy_syntax.specs.Trees as written
use Rattle.fy_phrase.specs.Sizes.{greatest_u64, nesting, all_nesting}
use Rattle.fy_phrase.specs.CoreLimits.{size_of, parts_size}
use Rattle.fy_phrase.specs.Tree.{Tree, Trees}
use Rattle.fy_expand.specs.declared.size.Size.{Size}
use Rattle.fy_expand.specs.Scope.{Scope, behind}
use Rattle.fy_expand.specs.Core.{core, by_halves}

-- a size with these numbers, each at most the greatest of 64 bits
abbrev pub capped_size : ℕ → ℕ → Size
capped_size nodes nesting = record { nodes = greatest_u64 nodes; nesting = greatest_u64 nesting }

abbrev pub type_measure : PlainType → Size
type_measure A = capped_size (type_nodes A) (type_nesting A)

abbrev pub types_measure : PlainTypes → Size
types_measure As = capped_size (types_nodes As) (types_nesting As)

abbrev pub measure : Tree → Size
measure p = capped_size (size_of p) (nesting p)

abbrev pub parts_measure : Trees → Size
parts_measure ps = capped_size (parts_size ps) (all_nesting ps)

-- two things beside each other
abbrev pub beside : Size → Size → Size
beside a b = capped_size (a.nodes + b.nodes) (max a.nesting b.nesting)

-- so many nodes around, one inside the other
abbrev pub under_nodes : ℕ → Size → Size
under_nodes n a = capped_size (a.nodes + n) (a.nesting + n)

-- more nodes, which nest no deeper
abbrev pub with_nodes : ℕ → Size → Size
with_nodes n a = capped_size (a.nodes + n) a.nesting

-- a node over two parts
abbrev pub over : Size → Size → Size
over a b = under_nodes 1 (beside a b)

abbrev pub leaf : Size
leaf = record { nodes = 1; nesting = 1 }

abbrev pub none : Size
none = record { nodes = 0; nesting = 0 }

-- things grouped to the left, each pair under a node
abbrev pub grouped : Size → List Size → Size
grouped a [] = a
grouped a (b ∷ more) = grouped (over a b) more

abbrev pub grouped_all : List Size → Size
grouped_all [] = leaf
grouped_all (a ∷ more) = grouped a more

-- things one inside the other, around a body
abbrev pub nested : List Size → Size → Size
nested [] body = body
nested (a ∷ more) body = over a (nested more body)

-- things beside each other
abbrev pub all_beside : List Size → Size
all_beside [] = none
all_beside (a ∷ more) = beside a (all_beside more)

-- things grouped by halves
abbrev pub halved : List Size → Size
halved all = by_halves over leaf (length all) all

-- what the core phrases of each measure
abbrev pub trees_measures : Scope → written.Trees → List Size
trees_measures s written.Trees.no_trees = []
trees_measures s (written.Trees.and_tree p more) = measure (core s p) ∷ trees_measures s more

abbrev pub links_measures : Scope → Links → List Size
links_measures s Links.no_links = []
links_measures s (Links.and_link op at p more) = measure (core s p) ∷ links_measures s more

abbrev pub fields_measures : Scope → Defs → List Size
fields_measures s Defs.no_defs = []
fields_measures s (Defs.and_def x at p more) = under_nodes 1 (measure (core s p)) ∷ fields_measures s more

-- the definitions of a `let`, each under the binders of those before it
abbrev pub defs_measures : Scope → Defs → List Size
defs_measures s Defs.no_defs = []
defs_measures s (Defs.and_def x at p more) = measure (core s p) ∷ defs_measures (behind s) more

-- parts by their index, and their number
abbrev pub indexed_measure : Size → Size
indexed_measure parts = over (with_nodes 1 (under_nodes 1 (over parts leaf))) (under_nodes 1 leaf)

-- the parts of a string of so many characters
abbrev pub text_measure : ℕ → Size
text_measure n = if n == 0 then under_nodes 1 leaf else with_nodes (n - 1) leaf

-- a procedure of the prelude: an abstraction of one type, over a command, over a variable
abbrev pub procedure : Size
procedure = record { nodes = 4; nesting = 3 }

-- what `newintseq` stands for: an abstraction of one type over one of a type of 10 nodes, over the cells of a number, over a variable applied to another
abbrev pub maker : Size
maker = record { nodes = 18; nesting = 5 }

-- a program inside the prelude
abbrev pub prelude_measure : Size → Size
prelude_measure a = over procedure (over procedure (over procedure (over procedure (over maker a))))
