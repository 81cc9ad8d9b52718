-- Phrases where they stand: with the variables in scope there.
use Rattle.std.specs.Prelude.{List, [], ◌∷◌, map}
use Rattle.fy_types.specs.declared.types.Atom.TheVariants.{Compl}
use Rattle.fy_types.specs.Types.{no_types, and_type}
use Rattle.fy_types.specs.Paths.{PlainPaths, paths}
use Rattle.fy_phrase.specs.Tree.{Tree, Trees, no_trees, and_tree, var, lit, unary, binary, cond, case, lam, app, field, sel, merge, let_in, rec, skip, seq, assign, while_do, forever, new, cells, escape, accept, put, read, mark}
use Rattle.fy_derive.specs.Atoms.{data_atom, cell_type, sequence_type}
use Rattle.fy_derive.specs.Least.{one_end, least_type}

-- a variable in scope: the paths of its type, and the phrase that binds it
pub record Variable : Type 0 where
  pub paths : PlainPaths
  pub binder : Tree

abbrev pub bound_by : Tree → PlainPaths → Variable
bound_by p P = record { paths = P; binder = p }

-- a phrase, and the variables in scope where it stands, the innermost first
pub record Occurrence : Type 0 where
  pub around : List Variable
  pub phrase : Tree

abbrev pub occurs : List Variable → Tree → Occurrence
occurs G p = record { around = G; phrase = p }

abbrev pub variable_paths : Variable → PlainPaths
variable_paths v = v.paths

-- the paths of the variables
abbrev pub forms_around : List Variable → List PlainPaths
forms_around G = map variable_paths G

-- the least type of a phrase where it stands
abbrev pub least_in : List Variable → Tree → PlainPaths
least_in G p = least_type (forms_around G) p

abbrev pub least_of : Occurrence → PlainPaths
least_of o = least_in o.around o.phrase

-- each of the phrases
abbrev pub each_occurs : List Variable → Trees → List Occurrence
each_occurs G no_trees = []
each_occurs G (and_tree p ps) = occurs G p ∷ each_occurs G ps

-- the body under a variable with the paths that the phrase binds
abbrev pub under : List Variable → Tree → PlainPaths → Tree → Occurrence
under G p P b = occurs (bound_by p P ∷ G) b

-- the direct parts of a phrase, a row a form: an abstraction's body stands under the first alternative
abbrev pub parts_of : List Variable → Tree → List Occurrence
parts_of G (var k at) = []
parts_of G (lit v at) = []
parts_of G (unary op p at) = occurs G p ∷ []
parts_of G (binary op p q at) = occurs G p ∷ occurs G q ∷ []
parts_of G (cond b p q at) = occurs G b ∷ occurs G p ∷ occurs G q ∷ []
parts_of G (case e parts at) = occurs G e ∷ each_occurs G parts
parts_of G (lam d no_types b at) = []
parts_of G (lam d (and_type A As) b at) = under G (lam d (and_type A As) b at) (paths A) b ∷ []
parts_of G (app p q at) = occurs G p ∷ occurs G q ∷ []
parts_of G (field i p at) = occurs G p ∷ []
parts_of G (sel p i at) = occurs G p ∷ []
parts_of G (merge p q at) = occurs G p ∷ occurs G q ∷ []
parts_of G (let_in d p b at) = occurs G p ∷ under G (let_in d p b at) (least_in G p) b ∷ []
parts_of G (rec d T b at) = under G (rec d T b at) (paths T) b ∷ []
parts_of G (skip at) = []
parts_of G (seq p q at) = occurs G p ∷ occurs G q ∷ []
parts_of G (assign p q at) = occurs G p ∷ occurs G q ∷ []
parts_of G (while_do b c at) = occurs G b ∷ occurs G c ∷ []
parts_of G (forever c at) = occurs G c ∷ []
parts_of G (new d D e b at) = occurs G e ∷ under G (new d D e b at) (paths (cell_type D)) b ∷ []
parts_of G (cells d e b at) = occurs G e ∷ under G (cells d e b at) (paths sequence_type) b ∷ []
parts_of G (escape d b at) = under G (escape d b at) (one_end Compl) b ∷ []
parts_of G (accept d D b at) = under G (accept d D b at) (one_end (data_atom D)) b ∷ []
parts_of G (put kind p at) = occurs G p ∷ []
parts_of G (read p at) = occurs G p ∷ []
parts_of G (mark m at) = []

-- the least types of the direct parts
abbrev pub part_types : List Variable → Tree → List PlainPaths
part_types G p = map least_of (parts_of G p)
