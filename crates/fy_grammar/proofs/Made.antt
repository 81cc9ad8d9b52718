-- Nodes of a list that isn't empty, and the members of lists.
use Rattle.std.proofs.Common.{◌≡◌, ℕ, List, [], ◌∷◌, length, map, refl, subst}
use Rattle.fy_base.specs.declared.data.BinOp.{BinOp}
use Rattle.fy_base.specs.declared.data.Place.{Place}
use Rattle.fy_syntax.specs.declared.surface.Surface.{Surface}
use Rattle.fy_syntax.specs.declared.surface.Def.{roll-Def, fold-roll-Def}
use Rattle.fy_syntax.specs.declared.surface.Link.{Link, roll-Link, fold-roll-Link}
use Rattle.fy_syntax.specs.declared.surface.LinkList.{LinkList}
use Rattle.fy_syntax.specs.declared.surface.SurfaceList.{SurfaceList}
use Rattle.fy_syntax.specs.Trees.{Tree, Trees, Defs, Links}
use Rattle.fy_syntax.specs.Reading.{DefTree, LinkTree, surface_step, def_step, defs_step, link_step, links_step, phrases_step, tree_of, trees_of, trees_from, phrases_in, def_of, link_of, links_of, links_from, links_in}
use Rattle.fy_syntax.specs.Spells.{chain_of, apply_of}
use Rattle.fy_syntax.proofs.ReadLemmas.{links_of-at, trees_of-at}

pub chain_of-some : (p : Tree) (links : LinkList) (at : Place) → (length (links_in links) ≡ 0 → ⊥) → Tree.chain p (links_of links) at ≡ chain_of p (links_of links) at
chain_of-some p links at h = rw (links_of-at links) (go (links_in links) h)
  where
    go : (l : List Link) → (length l ≡ 0 → ⊥) → Tree.chain p (links_from (map link_of l)) at ≡ chain_of p (links_from (map link_of l)) at
    go [] h = absurd (h refl)
    go (x ∷ l) h = refl

pub apply_of-some : (p : Tree) (arguments : SurfaceList) (at : Place) → (length (phrases_in arguments) ≡ 0 → ⊥) → Tree.apply p (trees_of arguments) at ≡ apply_of p (trees_of arguments) at
apply_of-some p arguments at h = rw (trees_of-at arguments) (go (phrases_in arguments) h)
  where
    go : (l : List Surface) → (length l ≡ 0 → ⊥) → Tree.apply p (trees_from (map tree_of l)) at ≡ apply_of p (trees_from (map tree_of l)) at
    go [] h = absurd (h refl)
    go (x ∷ l) h = refl

pub def_made : (n : ℕ) (p : Place) (s : Surface) → def_of (roll-Def (record { name = n; at = p; body = s })) ≡ record { name = n; at = p; body = tree_of s }
def_made n p s = fold-roll-Def Tree DefTree Defs LinkTree Links Trees surface_step def_step defs_step link_step links_step phrases_step (record { name = n; at = p; body = s })

pub link_made : (op : BinOp) (p q : Place) (s : Surface) → p ≡ q → link_of (roll-Link (record { op = op; at = p; item = s })) ≡ record { op = op; at = q; item = tree_of s }
link_made op p q s e =
    subst (λ (z : Place). link_of (roll-Link (record { op = op; at = p; item = s })) ≡ record { op = op; at = z; item = tree_of s }) e
    (fold-roll-Link Tree DefTree Defs LinkTree Links Trees surface_step def_step defs_step link_step links_step phrases_step (record { op = op; at = p; item = s }))
