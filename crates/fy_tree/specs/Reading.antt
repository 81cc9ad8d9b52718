-- What the program's values stand for where a tree is shown.
use Rattle.std.specs.Prelude.{ℕ, ◌<◌, ◌≡◌, Option, Some, None}
use Rattle.fy_phrase.specs.Tree.{Tree, let_in}
use Rattle.fy_phrase.specs.Reads.{reads}
use Rattle.fy_derive.specs.declared.table.TypeTable.{TypeTable}
use Rattle.fy_derive.specs.declared.context.Context.{Context}
use Rattle.fy_derive.specs.Contexts.{numbers}
use Rattle.fy_derive.specs.Derivations.{PlainDerivation, PlainDerivations, by_ns, sub, meets, alt, left, right, rule, no_derivations, and_derivation}
use Rattle.fy_derive.specs.Judging.{judged}
use Rattle.fy_derive.specs.Reading.{plain_derivation}
use Rattle.fy_derive.specs.Shown.{all_shown, shown, total}
use Rattle.fy_show.specs.declared.entries.KnownNames.{KnownNames}
use Rattle.fy_show.specs.declared.view.View.{View}
use Rattle.fy_show.specs.Reading.{known_in, known_read, scope_in}
use Rattle.fy_tree.specs.declared.node.Node.{Node}
use Rattle.fy_tree.specs.declared.style.Style.{Style}
use Rattle.fy_tree.specs.Annotated.{Spot, Annotated, AnnotatedList, shown_of, below_of, concluded}
use Rattle.fy_tree.specs.Lines.{Look}

-- the names and the form in a view
abbrev pub look_in : Style → View → Look
look_in style v = record { known = known_in v; form = style.form; width = style.width }

abbrev pub look_read : Style → KnownNames → Look
look_read style known = record { known = known_read known; form = style.form; width = style.width }

-- what is shown of a node, where types have these numbers in a table
abbrev pub spot_in : TypeTable → View → Node → Spot
spot_in t v node =
    record {
      number = node.at;
      node = plain_derivation node.derivation.now;
      scope = scope_in v;
      phrase = reads node.phrase.now;
      added = node.added.now;
      conclusion = shown t node.conclusion;
    }

-- the tree of a derivation that stands in a node's place
abbrev pub tree_of : TypeTable → Context → View → Node → ℕ → PlainDerivation → Annotated
tree_of t c v node n d = shown_of (known_in v) d n (all_shown t (numbers c)) (scope_in v) node.added.now (reads node.phrase.now)

-- the tree below a node, and those of its premises
abbrev pub tree_in : TypeTable → Context → View → Node → Annotated
tree_in t c v node = tree_of t c v node node.at (plain_derivation node.derivation.now)

abbrev pub below_in : TypeTable → Context → View → Node → AnnotatedList
below_in t c v node = below_of (tree_in t c v node)

-- the node concludes the type with its number
pub record IsNodeIn (t : TypeTable) (c : Context) (node : Node) : Type 0 where
  pub within : node.conclusion < total t
  pub stands : shown t node.conclusion ≡ concluded (judged (plain_derivation node.derivation.now) node.at (all_shown t (numbers c)) (reads node.phrase.now))

-- the part of a subsumption
abbrev pub raised_part : PlainDerivation → Option PlainDerivation
raised_part by_ns = None
raised_part (sub B d) = Some d
raised_part (meets ds) = None
raised_part (alt i d) = None
raised_part (left d) = None
raised_part (right d) = None
raised_part (rule ds) = None

-- the two derivations of a list, where it has no more
abbrev pub two_in : PlainDerivations → Option (PlainDerivation × PlainDerivation)
two_in (and_derivation e (and_derivation d no_derivations)) = Some (e, d)
two_in ds = None

-- those of a rule's premises
abbrev pub two_below : PlainDerivation → Option (PlainDerivation × PlainDerivation)
two_below by_ns = None
two_below (sub B d) = None
two_below (meets ds) = None
two_below (alt i d) = None
two_below (left d) = None
two_below (right d) = None
two_below (rule ds) = two_in ds

-- what a `let` defines, and its body
abbrev pub let_parts : Tree → Option (Tree × Tree)
let_parts (let_in x q b at) = Some (q, b)
let_parts p = None
