-- The facts that the causes tell, and the laws of what is blamed.
use Rattle.std.specs.Prelude.{ℕ, ◌+◌, ◌==◌, ◌≡◌, ◌⊎◌, Bool, true, false, is_none, List, [], ◌∷◌, map, Some}
use Rattle.std.specs.List.{list_any}
use Rattle.fy_base.specs.declared.data.BinOp.{BinOp}
use Rattle.fy_base.specs.declared.data.Place.{Place}
use Rattle.fy_types.specs.declared.types.Atom.{Atom}
use Rattle.fy_types.specs.declared.types.Atom.TheVariants.{Comm}
use Rattle.fy_types.specs.Types.{PlainType, no_types, and_type}
use Rattle.fy_types.specs.Paths.{PlainPath, PlainPaths, and_path, paths}
use Rattle.fy_types.specs.Bounds.{join_of}
use Rattle.fy_phrase.specs.declared.phrase.DataTy.{DataTy}
use Rattle.fy_phrase.specs.Tree.{Tree, Trees, and_tree, var, lit, binary, cond, case, lam, app, field, sel, merge, let_in, rec, skip, assign}
use Rattle.fy_derive.specs.Clear.{has_none}
use Rattle.fy_derive.specs.Kinds.{of_call, of_field, kind_of, none_begins}
use Rattle.fy_derive.specs.Subsumption.{some_below}
use Rattle.fy_derive.specs.Least.{has, has_assignment, has_operands, paths_at, some_data}
use Rattle.fy_causes.specs.Occurrences.{Variable, bound_by, Occurrence, occurs, each_occurs, forms_around, least_in, least_of, parts_of, part_types}
use Rattle.fy_causes.specs.Blamed.{blamed}
use Rattle.fy_causes.specs.Causes.{Missed, missed, Cause, not_command, useless, wants, differ, branches, parts, no_procedure, no_domain, no_field, declared, no_acceptor, assigned, all_data, operands_of, taken_at, has_some, domains_of, fields_of, data_taken, data_had, cause_of}
use Rattle.fy_causes.specs.Hollow.{hollow_behind}

-- each of the occurrences has more types than `ns`
pub data AreFull : List Occurrence → Type 0 where
  none_full : AreFull []
  and_full : {o : Occurrence} {os : List Occurrence} → has_none (least_of o) ≡ false → AreFull os → AreFull (o ∷ os)

-- of parts with these types, from the i-th on, the first that has none of the atoms that the rule takes there is the j-th
pub data IsFirstWanting (p : Tree) : ℕ → List PlainPaths → ℕ → List Atom → Type 0 where
  wanting_here : {i : ℕ} {P : PlainPaths} {Ps : List PlainPaths} {atoms : List Atom} →
      taken_at p i ≡ Some atoms → has_some P atoms ≡ false → IsFirstWanting p i (P ∷ Ps) i atoms
  wanting_later : {i j : ℕ} {P : PlainPaths} {Ps : List PlainPaths} {atoms : List Atom} →
      ((bs : List Atom) → taken_at p i ≡ Some bs → has_some P bs ≡ true) →
      IsFirstWanting p (i + 1) Ps j atoms → IsFirstWanting p i (P ∷ Ps) j atoms

-- the first path of the list that no path of Q is below
pub data IsFirstMissed (Q : PlainPaths) : PlainPaths → PlainPath → Type 0 where
  missed_here : {x : PlainPath} {P : PlainPaths} → some_below Q x ≡ false → IsFirstMissed Q (and_path x P) x
  missed_later : {x y : PlainPath} {P : PlainPaths} → some_below Q y ≡ true → IsFirstMissed Q P x → IsFirstMissed Q (and_path y P) x

-- the domains, each with the first path of it that no path of Q is below
pub data AreMissed (Q : PlainPaths) : List PlainPaths → List Missed → Type 0 where
  none_missed : AreMissed Q [] []
  and_missed : {D : PlainPaths} {x : PlainPath} {Ds : List PlainPaths} {ms : List Missed} →
      IsFirstMissed Q D x → AreMissed Q Ds ms → AreMissed Q (D ∷ Ds) (missed D x ∷ ms)

-- of parts with these types, from the i-th on, before which all have J in common, the first that has nothing in common with what all before it
-- have, which is K, is the j-th
pub data IsFirstApart : ℕ → PlainPaths → List PlainPaths → ℕ → PlainPaths → Type 0 where
  apart_here : {i : ℕ} {J P : PlainPaths} {Ps : List PlainPaths} →
      has_none J ≡ false → has_none (join_of J P) ≡ true → IsFirstApart i J (P ∷ Ps) i J
  apart_later : {i j : ℕ} {J K P : PlainPaths} {Ps : List PlainPaths} →
      has_none (join_of J P) ≡ false → IsFirstApart (i + 1) (join_of J P) Ps j K → IsFirstApart i J (P ∷ Ps) j K

-- the fact that a cause tells of a phrase, a row a cause
pub data IsSo (G : List Variable) : Tree → Cause → Type 0 where
  -- no path is that of a command
  so_not_command : {p : Tree} → has (least_in G p) Comm ≡ false → IsSo G p not_command
  -- the name has no path
  so_useless : {k : ℕ} {at : Place} → has_none (paths_at (forms_around G) k) ≡ true → IsSo G (var k at) useless
  so_wants : {p : Tree} {i : ℕ} {atoms : List Atom} → IsFirstWanting p 0 (part_types G p) i atoms → IsSo G p (wants i atoms)
  -- what is assigned to takes data, and the value has none
  so_wants_value : {p q : Tree} {at : Place} → (data_taken (least_in G p) ≡ [] → ⊥) → data_had (least_in G q) ≡ [] →
      IsSo G (assign p q at) (wants 1 all_data)
  so_differ : {op : BinOp} {p q : Tree} {at : Place} → has_some (least_in G p) (operands_of op) ≡ true →
      has_some (least_in G q) (operands_of op) ≡ true → some_data (has_operands op (least_in G p) (least_in G q)) ≡ false →
      IsSo G (binary op p q at) differ
  so_branches : {b p q : Tree} {at : Place} → has_none (join_of (least_in G p) (least_in G q)) ≡ true → IsSo G (cond b p q at) branches
  so_parts : {e p : Tree} {ps : Trees} {at : Place} {i : ℕ} {J : PlainPaths} →
      IsFirstApart 2 (least_in G p) (map least_of (each_occurs G ps)) i J → IsSo G (case e (and_tree p ps) at) (parts i J)
  -- no path begins with a call
  so_no_procedure : {p q : Tree} {at : Place} → none_begins of_call (least_in G p) ≡ true → IsSo G (app p q at) no_procedure
  so_no_domain : {p q : Tree} {at : Place} {ms : List Missed} → AreMissed (least_in G q) (domains_of (least_in G p)) ms →
      IsSo G (app p q at) (no_domain ms)
  -- no path begins with the field, and those that begin with fields do so with these
  so_no_field : {p : Tree} {i : ℕ} {at : Place} {is : List ℕ} → is ≡ fields_of (least_in G p) → list_any (λ j. i == j) is ≡ false →
      none_begins (of_field i) (least_in G p) ≡ true → IsSo G (sel p i at) (no_field is)
  so_declared : {d : ℕ} {T : PlainType} {b : Tree} {at : Place} {x : PlainPath} →
      IsFirstMissed (least_in (bound_by (rec d T b at) (paths T) ∷ G) b) (paths T) x → IsSo G (rec d T b at) (declared x)
  so_no_acceptor : {p q : Tree} {at : Place} → data_taken (least_in G p) ≡ [] → IsSo G (assign p q at) no_acceptor
  -- they have nothing in common
  so_assigned : {p q : Tree} {at : Place} {ds es : List DataTy} → ds ≡ data_taken (least_in G p) → es ≡ data_had (least_in G q) →
      some_data (has_assignment (least_in G p) (least_in G q)) ≡ false → IsSo G (assign p q at) (assigned ds es)

-- where blame stops each direct part has more than `ns`, and the phrase has only `ns`, or is the whole
pub record IsStuck (G : List Variable) (p : Tree) (o : Occurrence) : Type 0 where
  pub full : AreFull (parts_of o.around o.phrase)
  pub only_ns : (o ≡ occurs G p) ⊎ (has_none (least_of o) ≡ true)

-- a form that may have only `ns` where its parts have more; not so an abstraction with an alternative, and a merge whose right operand takes a demand
abbrev pub may_be_blamed : Tree → Bool
may_be_blamed (lit v at) = false
may_be_blamed (lam d no_types b at) = true
may_be_blamed (lam d (and_type A As) b at) = false
may_be_blamed (field i p at) = false
may_be_blamed (merge p q at) = is_none (kind_of q)
may_be_blamed (let_in d p b at) = false
may_be_blamed (skip at) = false
may_be_blamed p = true

abbrev pub BlameStops : Type 0
BlameStops = (G : List Variable) (p : Tree) → IsStuck G p (blamed G p)

abbrev pub BlamedForms : Type 0
BlamedForms = (G : List Variable) (p : Tree) → AreFull (parts_of G p) → has_none (least_in G p) ≡ true → may_be_blamed p ≡ true

-- the fact of the cause that is told of an occurrence
abbrev pub IsCauseSo : Occurrence → Type 0
IsCauseSo o = IsSo o.around o.phrase (cause_of o.around o.phrase)

-- what is told of what is blamed, in a phrase that isn't a command, is so
abbrev pub CausesAreSo : Type 0
CausesAreSo = (G : List Variable) (p : Tree) → has (least_in G p) Comm ≡ false → IsCauseSo (blamed G p)

-- what is told of a definition has only `ns`, and what is told of it is so
abbrev pub SecondCausesAreSo : Type 0
SecondCausesAreSo = (o h : Occurrence) → hollow_behind o ≡ Some h → (has_none (least_of h) ≡ true) × IsCauseSo (blamed h.around h.phrase)
