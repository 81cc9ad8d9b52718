-- Where a phrase that has no type of use is blamed.
use Rattle.std.specs.Prelude.{List, ◌∷◌, if◌then◌else◌}
use Rattle.fy_base.specs.declared.data.Place.{Place}
use Rattle.fy_types.specs.declared.types.Atom.TheVariants.{Compl}
use Rattle.fy_types.specs.Types.{no_types, and_type}
use Rattle.fy_types.specs.Paths.{PlainPaths, paths}
use Rattle.fy_phrase.specs.Tree.{Tree, Trees, no_trees, and_tree, var, lit, unary, binary, cond, case, lam, app, field, sel, merge, let_in, rec, skip, seq, assign, while_do, forever, new, cells, escape, accept, put, read, mark}
use Rattle.fy_derive.specs.Atoms.{data_atom, cell_type, sequence_type}
use Rattle.fy_derive.specs.Clear.{has_none}
use Rattle.fy_derive.specs.Least.{one_end, least_type}

-- the first place, if the part's least type is empty, else the second
abbrev pub if_empty : PlainPaths → Place → Place → Place
if_empty P here there = if has_none P then here else there

abbrev mutual
  -- from a phrase to its first direct part whose least type is empty, and so on from that; an abstraction's body is under the first
  -- alternative
  pub blame_of : List PlainPaths → Tree → Place
  blame_of G (var k at) = at
  blame_of G (lit v at) = at
  blame_of G (unary op p at) = if_empty (least_type G p) (blame_of G p) at
  blame_of G (binary op p q at) = if_empty (least_type G p) (blame_of G p) (if_empty (least_type G q) (blame_of G q) at)
  blame_of G (cond b p q at) =
      if_empty (least_type G b) (blame_of G b)
      (if_empty (least_type G p) (blame_of G p) (if_empty (least_type G q) (blame_of G q) at))
  blame_of G (case e parts at) = if_empty (least_type G e) (blame_of G e) (blame_among G parts at)
  blame_of G (lam d no_types b at) = at
  blame_of G (lam d (and_type A As) b at) = if_empty (least_type (paths A ∷ G) b) (blame_of (paths A ∷ G) b) at
  blame_of G (app p q at) = if_empty (least_type G p) (blame_of G p) (if_empty (least_type G q) (blame_of G q) at)
  blame_of G (field i p at) = if_empty (least_type G p) (blame_of G p) at
  blame_of G (sel p i at) = if_empty (least_type G p) (blame_of G p) at
  blame_of G (merge p q at) = if_empty (least_type G p) (blame_of G p) (if_empty (least_type G q) (blame_of G q) at)
  blame_of G (let_in d p b at) =
      if_empty (least_type G p) (blame_of G p)
      (if_empty (least_type (least_type G p ∷ G) b) (blame_of (least_type G p ∷ G) b) at)
  blame_of G (rec d T b at) = if_empty (least_type (paths T ∷ G) b) (blame_of (paths T ∷ G) b) at
  blame_of G (skip at) = at
  blame_of G (seq p q at) = if_empty (least_type G p) (blame_of G p) (if_empty (least_type G q) (blame_of G q) at)
  blame_of G (assign p q at) = if_empty (least_type G p) (blame_of G p) (if_empty (least_type G q) (blame_of G q) at)
  blame_of G (while_do b c at) = if_empty (least_type G b) (blame_of G b) (if_empty (least_type G c) (blame_of G c) at)
  blame_of G (forever c at) = if_empty (least_type G c) (blame_of G c) at
  blame_of G (new d D e b at) =
      if_empty (least_type G e) (blame_of G e)
      (if_empty (least_type (paths (cell_type D) ∷ G) b) (blame_of (paths (cell_type D) ∷ G) b) at)
  blame_of G (cells d e b at) =
      if_empty (least_type G e) (blame_of G e)
      (if_empty (least_type (paths sequence_type ∷ G) b) (blame_of (paths sequence_type ∷ G) b) at)
  blame_of G (escape d b at) = if_empty (least_type (one_end Compl ∷ G) b) (blame_of (one_end Compl ∷ G) b) at
  blame_of G (accept d D b at) =
      if_empty (least_type (one_end (data_atom D) ∷ G) b) (blame_of (one_end (data_atom D) ∷ G) b) at
  blame_of G (put kind p at) = if_empty (least_type G p) (blame_of G p) at
  blame_of G (read p at) = if_empty (least_type G p) (blame_of G p) at
  blame_of G (mark m at) = at

  -- from the first of the parts whose least type is empty, else the place
  pub blame_among : List PlainPaths → Trees → Place → Place
  blame_among G no_trees at = at
  blame_among G (and_tree p ps) at = if_empty (least_type G p) (blame_of G p) (blame_among G ps at)
