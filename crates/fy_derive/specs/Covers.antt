-- Lists of numbers of a table as the paths of their types.
use Rattle.std.specs.Prelude.{ℕ, ◌<◌, ◌≤◌, ◌≡◌, Bool, true, false, List, All, Contains, slice_index_or}
use Rattle.fy_types.specs.Paths.{PlainPaths, all_paths}
use Rattle.fy_types.specs.PathOrder.{ArePathsBelow}
use Rattle.fy_types.specs.Reading.{types_from}
use Rattle.fy_derive.specs.declared.node.TypeNode.{TypeNode}
use Rattle.fy_derive.specs.declared.node.TypeNode.TheVariants as node
use Rattle.fy_derive.specs.declared.table.TypeTable.{TypeTable}
use Rattle.fy_derive.specs.Tables.{node_at}
use Rattle.fy_derive.specs.Shown.{all_shown}

-- the paths of all the types with the numbers
abbrev pub covered : TypeTable → List ℕ → PlainPaths
covered t ks = all_paths (types_from (all_shown t ks))

-- two lists of paths are below each other
pub record AreAlike (P Q : PlainPaths) : Type 0 where
  pub to : ArePathsBelow P Q
  pub from : ArePathsBelow Q P

-- each number is at most the bound
pub record AreUnder (bound : ℕ) (ks : List ℕ) : Type 0 where
  pub each : All (λ k. k ≤ bound) ks

-- the node has no member
abbrev pub is_single : TypeNode → Bool
is_single node.Ns = true
is_single (node.Atom a) = true
is_single (node.Arrow d r) = true
is_single (node.Field i r) = true
is_single node.NoTypes = true
is_single (node.AndType m r) = false

-- no number is that of a meet with a member
pub record AreSingle (t : TypeTable) (ks : List ℕ) : Type 0 where
  pub each : All (λ k. is_single (node_at t.nodes.keys k) ≡ true) ks

-- the number is among the singles, or its parts are among the numbers that were met
pub data IsOpened (t : TypeTable) (met singles : List ℕ) (k : ℕ) : Type 0 where
  as_single : Contains singles k → IsOpened t met singles k
  as_meet : (m r : ℕ) → node_at t.nodes.keys k ≡ node.AndType m r → Contains met m → Contains met r → IsOpened t met singles k

-- so far the numbers that were met hold those of the list, cover the same paths, and the first i of them are opened
pub record AreMet (t : TypeTable) (bound : ℕ) (list met singles : List ℕ) (i : ℕ) : Type 0 where
  pub has : (k : ℕ) → Contains list k → Contains met k
  pub cover : ArePathsBelow (covered t list) (covered t met)
  pub under : AreUnder bound met
  pub known : (k : ℕ) → Contains singles k → Contains met k
  pub single : AreSingle t singles
  pub opened : (j : ℕ) → j < i → IsOpened t met singles (slice_index_or met j 0)
