-- The test of nodes decides equality.
use Rattle.std.proofs.Common.{ℕ, Bool, true, ◌≡◌, List, eqb-true, refl, ap, ◌∙◌, sym, rules, Some, slice_get, [], ◌∷◌, zero, suc}
use Rattle.fy_types.specs.declared.types.Atom.{Atom}
use Rattle.fy_types.specs.contracts.types.AtomPartialEq.TheImpl as atom_test
use Rattle.fy_types.specs.contracts.types.Atom.{the_type}
use denote.Enum.Bare.{same_true}
use Rattle.fy_types.proofs.OnceLemmas.{both_true}
use Rattle.fy_derive.specs.declared.node.TypeNode.{TypeNode}
use Rattle.fy_derive.specs.declared.node.TypeNode.TheVariants as node
use Rattle.fy_derive.specs.contracts.node.TypeNodePartialEq.TheImpl.{ghosts}
use Rattle.fy_derive.specs.contracts.node.TypeNodeEq.TheImpl.Laws.{lawful}
use Rattle.fy_derive.specs.Tables.{node_at}

abbrev pub same_node : TypeNode → TypeNode → Bool
same_node = ghosts.eq

pub same_node-refl : (x : TypeNode) → same_node x x ≡ true
same_node-refl x = lawful.laws.refl x

same_atom : (a b : Atom) → (atom_test.ghosts).eq a b ≡ true → a ≡ b
same_atom a b e = same_true the_type (search rules) _ _ e

pub same_node-true : (x y : TypeNode) → same_node x y ≡ true → x ≡ y
same_node-true node.Ns node.Ns e = refl
same_node-true (node.Atom a) (node.Atom b) e = ap node.Atom (same_atom a b e)
same_node-true (node.Arrow a b) (node.Arrow c d) e =
    let h = both_true _ _ e in ap (λ x. node.Arrow x b) (eqb-true a c h.0) ∙ ap (node.Arrow c) (eqb-true b d h.1)
same_node-true (node.Field a b) (node.Field c d) e =
    let h = both_true _ _ e in ap (λ x. node.Field x b) (eqb-true a c h.0) ∙ ap (node.Field c) (eqb-true b d h.1)
same_node-true node.NoTypes node.NoTypes e = refl
same_node-true (node.AndType a b) (node.AndType c d) e =
    let h = both_true _ _ e in ap (λ x. node.AndType x b) (eqb-true a c h.0) ∙ ap (node.AndType c) (eqb-true b d h.1)
same_node-true x y e = absurd cc

pub read_node : (ys : List TypeNode) (n : TypeNode) (i : ℕ) → slice_get ys i ≡ Some n → node_at ys i ≡ n
read_node [] n i h = absurd cc
read_node (y ∷ ys) n zero h = cc
read_node (y ∷ ys) n (suc i) h = read_node ys n i h

-- the node at a place where a key is stored that is the same
pub stored_node : (ys : List TypeNode) (n : TypeNode) (i : ℕ) → ((k : TypeNode) × (slice_get ys i ≡ Some k) × (same_node n k ≡ true)) → node_at ys i ≡ n
stored_node ys n i h = read_node ys h.0 i h.1 ∙ sym (same_node-true n h.0 h.2)
