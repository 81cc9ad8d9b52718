-- What the numbers of a list of nodes stand for.
use Rattle.std.specs.Prelude.{ℕ, ◌+◌, ◌<◌, ◌≤◌, ◌≢◌, max, Bool, true, false, IsTrue, List, [], ◌∷◌, ◌++◌, length, slice_index_or}
use Rattle.fy_types.specs.Types.{PlainType, ns, atom, arrow, field, meet, no_types, and_type}
use Rattle.fy_derive.specs.declared.node.TypeNode.{TypeNode}
use Rattle.fy_derive.specs.declared.node.TypeNode.TheVariants as node

-- the type with the number, and `ns` past the end
abbrev pub type_at : List PlainType → ℕ → PlainType
type_at As k = slice_index_or As k ns

-- the node with the number
abbrev pub node_at : List TypeNode → ℕ → TypeNode
node_at nodes k = slice_index_or nodes k node.Ns

-- a meet with one more member in front
abbrev pub in_front : PlainType → PlainType → PlainType
in_front A (meet As) = meet (and_type A As)
in_front A ns = ns
in_front A (atom a) = ns
in_front A (arrow B C) = ns
in_front A (field i B) = ns

abbrev pub is_meet : PlainType → Bool
is_meet ns = false
is_meet (atom a) = false
is_meet (arrow B C) = false
is_meet (field i B) = false
is_meet (meet As) = true

-- the type of a node whose parts are among these types
abbrev pub node_type : List PlainType → TypeNode → PlainType
node_type As node.Ns = ns
node_type As (node.Atom a) = atom a
node_type As (node.Arrow d r) = arrow (type_at As d) (type_at As r)
node_type As (node.Field i r) = field i (type_at As r)
node_type As node.NoTypes = meet no_types
node_type As (node.AndType m r) = in_front (type_at As m) (type_at As r)

-- how many types there have to be for the node's parts to be among them
abbrev pub reach : TypeNode → ℕ
reach node.Ns = 0
reach (node.Atom a) = 0
reach (node.Arrow d r) = max d r + 1
reach (node.Field i r) = r + 1
reach node.NoTypes = 0
reach (node.AndType m r) = max m r + 1

-- what stands behind a member is a meet
abbrev pub is_meet_behind : List PlainType → TypeNode → Bool
is_meet_behind As node.Ns = true
is_meet_behind As (node.Atom a) = true
is_meet_behind As (node.Arrow d r) = true
is_meet_behind As (node.Field i r) = true
is_meet_behind As node.NoTypes = true
is_meet_behind As (node.AndType m r) = is_meet (type_at As r)

-- these types, and those of the nodes behind them
abbrev pub types_after : List PlainType → List TypeNode → List PlainType
types_after As [] = As
types_after As (n ∷ nodes) = types_after (As ++ node_type As n ∷ []) nodes

-- the types of the nodes, each from the types before it
abbrev pub types_of : List TypeNode → List PlainType
types_of nodes = types_after [] nodes

-- parts stand before what they are parts of, and no node stands twice
pub record IsTable (nodes : List TypeNode) : Type 0 where
  pub parts : (k : ℕ) → k < length nodes → reach (node_at nodes k) ≤ k
  pub meets : (k : ℕ) → k < length nodes → IsTrue (is_meet_behind (types_of nodes) (node_at nodes k))
  pub apart : (i j : ℕ) → i < j → j < length nodes → node_at nodes i ≢ node_at nodes j
