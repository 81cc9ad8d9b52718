-- How far the limits are used up by the pieces that a reader has read.
use Rattle.std.specs.Prelude.{◌≡◌, ℕ, ◌≤◌, true, false, List, map, length, Some}
use Rattle.fy_read.specs.declared.counts.Counted.{Counted}
use Rattle.fy_read.specs.declared.counts.Counted.TheVariants as counted
use Rattle.fy_read.specs.declared.read.Awaited.{Awaited}
use Rattle.fy_read.specs.declared.read.Awaited.TheVariants as awaited
use Rattle.fy_read.specs.Depth.{Deep, deep, Nest, outside, nest_after, typeds, nest_of}
use Rattle.fy_derive.specs.Derivations.{most_nodes, most_nesting}
use Rattle.fy_read.specs.Opened.{PlainNodes, missing}
use Rattle.fy_read.specs.OpenTypes.{PlainLevel, PlainLevels, arrows_nesting, greatest_nesting}
use Rattle.fy_read.specs.Readers.{reached_by}
use Rattle.fy_read.specs.Refusals.{open_parens, most_open_parens}
use Rattle.fy_derive.specs.Limits.{most_type_nesting}
use Rattle.fy_read.specs.Shape.{Want, no_number, a_list, an_index, Shape, shape, first_shape, shape_after, outs, greatest}
use Rattle.fy_read.specs.Spelling.{Piece}
use Rattle.fy_read.specs.Steps.{after_all, begin}

abbrev pub want_of : Counted → Want
want_of counted.Members = a_list
want_of counted.Alternatives = an_index
want_of counted.Premises = a_list

abbrev pub shape_of : Awaited → PlainNodes → Shape
shape_of awaited.Node n = shape (map missing n.waiting) false no_number
shape_of awaited.Bracket n = shape (map missing n.waiting) false no_number
shape_of (awaited.Count c) n = shape (map missing n.waiting) false (want_of c)
shape_of awaited.Part n = shape (map missing n.waiting) true no_number
shape_of awaited.Colon n = shape (map missing n.waiting) true no_number
shape_of awaited.Joint n = shape (map missing n.waiting) true no_number

abbrev pub deep_of : PlainLevel → Deep
deep_of L = deep (length L.domains) (arrows_nesting 0 L.domains) (length L.members) (greatest_nesting L.members) (length L.fields)

abbrev pub nest_at : Awaited → PlainLevels → Nest
nest_at a Ls = nest_of a (deep_of Ls.inner) (map deep_of Ls.outer)

-- the parentheses that are open
abbrev pub open_at : Awaited → PlainLevels → ℕ
open_at awaited.Node Ls = 0
open_at awaited.Bracket Ls = 0
open_at (awaited.Count c) Ls = 0
open_at awaited.Part Ls = length Ls.outer
open_at awaited.Colon Ls = length Ls.outer
open_at awaited.Joint Ls = length Ls.outer

-- the pieces have q words of nodes, and come where the reader is, within the limits on what is whole
pub record IsMeasured (q : ℕ) (a : Awaited) (n : PlainNodes) (Ls : PlainLevels) (ps : List Piece) : Type 0 where
  pub leads : after_all (Some begin) ps ≡ Some (reached_by a n (length Ls.outer))
  pub shape : shape_after first_shape ps ≡ shape_of a n
  pub nest : nest_after outside ps ≡ nest_at a Ls
  pub parens : open_parens ps ≡ open_at a Ls
  pub words : length (outs first_shape ps) ≡ q
  pub few : q ≤ most_nodes
  pub shallow : greatest (outs first_shape ps) ≤ most_nesting
  pub few_open : open_at a Ls ≤ most_open_parens
  pub types : greatest (typeds outside ps) ≤ most_type_nesting
