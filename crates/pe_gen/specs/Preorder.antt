-- The nodes of a phrase in preorder, and the thunks that a node makes.
use Rattle.std.specs.Prelude.{ℕ, ◌+◌, List, [], ◌∷◌, ◌++◌, map, reverse}
use Rattle.fy_phrase.specs.Reads.{reads}
use Rattle.fy_phrase.specs.Sizes.{nodes}
use Rattle.fy_phrase.specs.Tree.{Tree, Trees, var, lit, unary, binary, cond, case, lam, app, field, sel, merge, let_in, rec, skip, seq, assign, while_do, forever, new, cells, escape, accept, put, read, mark, no_trees, and_tree}
use Rattle.pe_gen.specs.declared.nodes.Node.{Node}

abbrev mutual
  -- the nodes below a phrase under d binders, in preorder, each with the number of binders around it
  pub nodes_below : ℕ → Tree → List (ℕ × Tree)
  nodes_below d (var k at) = []
  nodes_below d (lit v at) = []
  nodes_below d (unary op p at) = (d, p) ∷ nodes_below d p
  nodes_below d (binary op p q at) = (d, p) ∷ (nodes_below d p ++ (d, q) ∷ nodes_below d q)
  nodes_below d (cond b p q at) = (d, b) ∷ (nodes_below d b ++ (d, p) ∷ (nodes_below d p ++ (d, q) ∷ nodes_below d q))
  nodes_below d (case e parts at) = (d, e) ∷ (nodes_below d e ++ nodes_of_all d parts)
  nodes_below d (lam n As b at) = (d + 1, b) ∷ nodes_below (d + 1) b
  nodes_below d (app p q at) = (d, p) ∷ (nodes_below d p ++ (d, q) ∷ nodes_below d q)
  nodes_below d (field i p at) = (d, p) ∷ nodes_below d p
  nodes_below d (sel p i at) = (d, p) ∷ nodes_below d p
  nodes_below d (merge p q at) = (d, p) ∷ (nodes_below d p ++ (d, q) ∷ nodes_below d q)
  nodes_below d (let_in n p b at) = (d, p) ∷ (nodes_below d p ++ (d + 1, b) ∷ nodes_below (d + 1) b)
  nodes_below d (rec n T b at) = (d + 1, b) ∷ nodes_below (d + 1) b
  nodes_below d (skip at) = []
  nodes_below d (seq p q at) = (d, p) ∷ (nodes_below d p ++ (d, q) ∷ nodes_below d q)
  nodes_below d (assign p q at) = (d, p) ∷ (nodes_below d p ++ (d, q) ∷ nodes_below d q)
  nodes_below d (while_do b c at) = (d, b) ∷ (nodes_below d b ++ (d, c) ∷ nodes_below d c)
  nodes_below d (forever c at) = (d, c) ∷ nodes_below d c
  nodes_below d (new n D e b at) = (d, e) ∷ (nodes_below d e ++ (d + 1, b) ∷ nodes_below (d + 1) b)
  nodes_below d (cells n e b at) = (d, e) ∷ (nodes_below d e ++ (d + 1, b) ∷ nodes_below (d + 1) b)
  nodes_below d (escape n b at) = (d + 1, b) ∷ nodes_below (d + 1) b
  nodes_below d (accept n D b at) = (d + 1, b) ∷ nodes_below (d + 1) b
  nodes_below d (put kind p at) = (d, p) ∷ nodes_below d p
  nodes_below d (read p at) = (d, p) ∷ nodes_below d p
  nodes_below d (mark m at) = []

  pub nodes_of_all : ℕ → Trees → List (ℕ × Tree)
  nodes_of_all d no_trees = []
  nodes_of_all d (and_tree p ps) = (d, p) ∷ (nodes_below d p ++ nodes_of_all d ps)

-- the phrase's own node, and those below it
abbrev pub preorder : ℕ → Tree → List (ℕ × Tree)
preorder d p = (d, p) ∷ nodes_below d p

-- what a node of the program stands for
abbrev pub seen : Node → ℕ × Tree
seen node = (node.depth, reads node.phrase.now)

-- a list that was made from its end
abbrev pub seen_back : List Node → List (ℕ × Tree)
seen_back ns = reverse (map seen ns)

-- the nodes of which the form with the number k makes thunks
abbrev pub own_thunks : ℕ → Tree → List ℕ
own_thunks k (app p q at) = (k + 1 + nodes p) ∷ []
own_thunks k (let_in d p b at) = (k + 1) ∷ []
own_thunks k (rec d T b at) = k ∷ []
own_thunks k p = []

-- those of a list of nodes, of which the first has the number k
abbrev pub thunks_from : ℕ → List (ℕ × Tree) → List ℕ
thunks_from k [] = []
thunks_from k (x ∷ xs) = own_thunks k x.1 ++ thunks_from (k + 1) xs
