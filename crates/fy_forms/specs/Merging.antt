-- One element that stands for two.
use Rattle.std.specs.Prelude.{◌≡◌, ◌≤◌, ◌+◌}
use Rattle.fy_forms.specs.declared.join_forms.Merged.{Merged}
use Rattle.fy_types.specs.Paths.{PlainPaths, no_paths}
use Rattle.fy_types.specs.Reading.{PlainElem, a_call, a_field, plain_elem}
use Rattle.fy_types.specs.Limits.{most_nodes}
use Rattle.fy_types.specs.Bounds.{meet_of}
use Rattle.fy_types.specs.Keeping.{elem_nodes}

-- a call with the meet of both domains, or the first element
abbrev pub merged : PlainElem → PlainElem → PlainElem
merged (a_call D) (a_call E) = a_call (meet_of D E)
merged (a_call D) (a_field j) = a_call D
merged (a_field i) y = a_field i

abbrev pub elem_domain : PlainElem → PlainPaths
elem_domain (a_call D) = D
elem_domain (a_field i) = no_paths

-- it holds this element, and the number is what the element adds to a path's nodes
pub record IsMerged (m : Merged) (x : PlainElem) : Type 0 where
  pub elem : plain_elem m.elem ≡ x
  pub nodes : m.nodes ≡ elem_nodes x
  pub few : m.nodes ≤ most_nodes + 1
