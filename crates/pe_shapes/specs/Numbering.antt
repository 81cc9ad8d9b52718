-- What the numbers of a list of nodes stand for.
use Rattle.std.specs.Prelude.{ℕ, ◌+◌, ◌<◌, ◌≤◌, ◌≢◌, List, [], ◌∷◌, ◌++◌, length, slice_index_or}
use Rattle.fy_phrase.specs.declared.shapes.ShapeElem.{ShapeElem}
use Rattle.fy_phrase.specs.declared.shapes.ShapeElem.TheVariants as elem
use Rattle.fy_phrase.specs.declared.shapes.ShapeEnd.TheVariants as ending
use Rattle.fy_derive.specs.Shapes.{PlainShape, a_value, at_end, a_call, a_field}
use Rattle.fy_derive.specs.ShapeTables.{plain_end}
use Rattle.pe_shapes.specs.declared.node.ShapeNode.{ShapeNode}
use Rattle.pe_shapes.specs.declared.node.ShapeNode.TheVariants as node

-- a shape with the demand in front
abbrev pub in_front : ShapeElem → PlainShape → PlainShape
in_front elem.Call s = a_call s
in_front (elem.Field i) s = a_field i s

-- the shape with the number, and a value's past the end
abbrev pub numbered_shape : List PlainShape → ℕ → PlainShape
numbered_shape shapes k = slice_index_or shapes k (at_end a_value)

-- the node with the number
abbrev pub node_at : List ShapeNode → ℕ → ShapeNode
node_at nodes k = slice_index_or nodes k (node.End ending.Value)

-- the shape of a node whose part is among these shapes
abbrev pub node_shape : List PlainShape → ShapeNode → PlainShape
node_shape shapes (node.End e) = at_end (plain_end e)
node_shape shapes (node.Front x k) = in_front x (numbered_shape shapes k)

-- how many shapes there have to be for the node's part to be among them
abbrev pub reach : ShapeNode → ℕ
reach (node.End e) = 0
reach (node.Front x k) = k + 1

-- these shapes, and those of the nodes behind them
abbrev pub shapes_after : List PlainShape → List ShapeNode → List PlainShape
shapes_after shapes [] = shapes
shapes_after shapes (n ∷ nodes) = shapes_after (shapes ++ node_shape shapes n ∷ []) nodes

-- the shapes of the nodes, each from the shapes before it
abbrev pub shapes_of : List ShapeNode → List PlainShape
shapes_of nodes = shapes_after [] nodes

-- parts stand before what they are parts of, and no node stands twice
pub record IsNumbering (nodes : List ShapeNode) : Type 0 where
  pub parts : (k : ℕ) → k < length nodes → reach (node_at nodes k) ≤ k
  pub apart : (i j : ℕ) → i < j → j < length nodes → node_at nodes i ≢ node_at nodes j
