-- The phrase that is blamed where a phrase has no type of use, with the variables in scope there. `BlamedPlaces` is the law: its place is that of
-- `blame_of`.
use Rattle.std.specs.Prelude.{◌≡◌, List, ◌∷◌, if◌then◌else◌}
use Rattle.fy_types.specs.declared.types.Atom.TheVariants.{Compl}
use Rattle.fy_types.specs.Types.{no_types, and_type}
use Rattle.fy_types.specs.Paths.{PlainPaths, paths}
use Rattle.fy_phrase.specs.Tree.{Tree, Trees, no_trees, and_tree, var, lit, unary, binary, cond, case, lam, app, field, sel, merge, let_in, rec, skip, seq, assign, while_do, forever, new, cells, escape, accept, put, read, mark, place_of}
use Rattle.fy_derive.specs.Atoms.{data_atom, cell_type, sequence_type}
use Rattle.fy_derive.specs.Clear.{has_none}
use Rattle.fy_derive.specs.Least.{one_end}
use Rattle.fy_least.specs.Blame.{blame_of}
use Rattle.fy_causes.specs.Occurrences.{Variable, bound_by, Occurrence, occurs, forms_around, least_in}

-- the first occurrence, if the part's least type is empty, else the second
abbrev pub if_hollow : PlainPaths → Occurrence → Occurrence → Occurrence
if_hollow P here there = if has_none P then here else there

abbrev mutual
  -- from a phrase to its first direct part whose least type is empty, and so on from that; an abstraction's body is under the first alternative
  pub blamed : List Variable → Tree → Occurrence
  blamed G (var k at) = occurs G (var k at)
  blamed G (lit v at) = occurs G (lit v at)
  blamed G (unary op p at) = if_hollow (least_in G p) (blamed G p) (occurs G (unary op p at))
  blamed G (binary op p q at) =
      if_hollow (least_in G p) (blamed G p) (if_hollow (least_in G q) (blamed G q) (occurs G (binary op p q at)))
  blamed G (cond b p q at) =
      if_hollow (least_in G b) (blamed G b)
      (if_hollow (least_in G p) (blamed G p) (if_hollow (least_in G q) (blamed G q) (occurs G (cond b p q at))))
  blamed G (case e parts at) = if_hollow (least_in G e) (blamed G e) (blamed_among G parts (occurs G (case e parts at)))
  blamed G (lam d no_types b at) = occurs G (lam d no_types b at)
  blamed G (lam d (and_type A As) b at) =
      if_hollow (least_in (bound_by (lam d (and_type A As) b at) (paths A) ∷ G) b) (blamed (bound_by (lam d (and_type A As) b at) (paths A) ∷ G) b)
      (occurs G (lam d (and_type A As) b at))
  blamed G (app p q at) = if_hollow (least_in G p) (blamed G p) (if_hollow (least_in G q) (blamed G q) (occurs G (app p q at)))
  blamed G (field i p at) = if_hollow (least_in G p) (blamed G p) (occurs G (field i p at))
  blamed G (sel p i at) = if_hollow (least_in G p) (blamed G p) (occurs G (sel p i at))
  blamed G (merge p q at) = if_hollow (least_in G p) (blamed G p) (if_hollow (least_in G q) (blamed G q) (occurs G (merge p q at)))
  blamed G (let_in d p b at) =
      if_hollow (least_in G p) (blamed G p)
      (if_hollow (least_in (bound_by (let_in d p b at) (least_in G p) ∷ G) b) (blamed (bound_by (let_in d p b at) (least_in G p) ∷ G) b)
      (occurs G (let_in d p b at)))
  blamed G (rec d T b at) =
      if_hollow (least_in (bound_by (rec d T b at) (paths T) ∷ G) b) (blamed (bound_by (rec d T b at) (paths T) ∷ G) b) (occurs G (rec d T b at))
  blamed G (skip at) = occurs G (skip at)
  blamed G (seq p q at) = if_hollow (least_in G p) (blamed G p) (if_hollow (least_in G q) (blamed G q) (occurs G (seq p q at)))
  blamed G (assign p q at) = if_hollow (least_in G p) (blamed G p) (if_hollow (least_in G q) (blamed G q) (occurs G (assign p q at)))
  blamed G (while_do b c at) = if_hollow (least_in G b) (blamed G b) (if_hollow (least_in G c) (blamed G c) (occurs G (while_do b c at)))
  blamed G (forever c at) = if_hollow (least_in G c) (blamed G c) (occurs G (forever c at))
  blamed G (new d D e b at) =
      if_hollow (least_in G e) (blamed G e)
      (if_hollow (least_in (bound_by (new d D e b at) (paths (cell_type D)) ∷ G) b) (blamed (bound_by (new d D e b at) (paths (cell_type D)) ∷ G) b)
      (occurs G (new d D e b at)))
  blamed G (cells d e b at) =
      if_hollow (least_in G e) (blamed G e)
      (if_hollow (least_in (bound_by (cells d e b at) (paths sequence_type) ∷ G) b) (blamed (bound_by (cells d e b at) (paths sequence_type) ∷ G) b)
      (occurs G (cells d e b at)))
  blamed G (escape d b at) =
      if_hollow (least_in (bound_by (escape d b at) (one_end Compl) ∷ G) b) (blamed (bound_by (escape d b at) (one_end Compl) ∷ G) b)
      (occurs G (escape d b at))
  blamed G (accept d D b at) =
      if_hollow (least_in (bound_by (accept d D b at) (one_end (data_atom D)) ∷ G) b) (blamed (bound_by (accept d D b at) (one_end (data_atom D)) ∷ G) b)
      (occurs G (accept d D b at))
  blamed G (put kind p at) = if_hollow (least_in G p) (blamed G p) (occurs G (put kind p at))
  blamed G (read p at) = if_hollow (least_in G p) (blamed G p) (occurs G (read p at))
  blamed G (mark m at) = occurs G (mark m at)

  -- from the first of the parts whose least type is empty, else the occurrence
  pub blamed_among : List Variable → Trees → Occurrence → Occurrence
  blamed_among G no_trees o = o
  blamed_among G (and_tree p ps) o = if_hollow (least_in G p) (blamed G p) (blamed_among G ps o)

-- blame stops where it is said to stop
abbrev pub BlamedPlaces : Type 0
BlamedPlaces = (G : List Variable) (p : Tree) → place_of (blamed G p).phrase ≡ blame_of (forms_around G) p
