-- The operands of a merge in a list of nodes.
use Rattle.std.proofs.Common.{ℕ, ◌+◌, ◌≡◌, List, [], ◌∷◌, Some, refl, ap, sym}
use Rattle.std.specs.Prelude.{slice_get}
use Rattle.fy_base.specs.declared.data.Place.{Place}
use Rattle.fy_phrase.specs.Sizes.{nodes}
use Rattle.fy_phrase.specs.Tree.{Tree, merge}
use Rattle.pe_gen.specs.Preorder.{preorder}
use Rattle.pe_gen.specs.Sites.{right_of}
use Rattle.pe_gen.proofs.Gets.{some_same}
use Rattle.pe_gen.proofs.NodeLists.{listed-node, node-listed, first-part, second-part}

pub merge-form : (q r : Tree) → Some r ≡ right_of q → (l : Tree) × (at : Place) × (q ≡ merge l r at)
merge-form (merge l s at) r e = (l, at, ap (λ t. merge l t at) (sym (some_same e)))
merge-form q r e = absurd cc

module _ (p : Tree) (ns : List (ℕ × Tree)) (made : ns ≡ preorder 0 p) (k d : ℕ) (l r : Tree) (at : Place) (is : slice_get ns k ≡ Some (d, merge l r at)) where
  pub left-listed : slice_get ns (k + 1) ≡ Some (d, l)
  left-listed = node-listed p ns made (k + 1) d l (first-part ((d, r) ∷ []) (listed-node p ns made k d (merge l r at) is) refl)

  pub right-listed : slice_get ns (k + 1 + nodes l) ≡ Some (d, r)
  right-listed = node-listed p ns made (k + 1 + nodes l) d r (second-part [] (listed-node p ns made k d (merge l r at) is) refl)
