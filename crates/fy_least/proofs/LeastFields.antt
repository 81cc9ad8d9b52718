-- The fields of a least type are those of its phrase and of the context; and parts of phrases whose derivations are written as texts.
use Rattle.std.proofs.Common.{ℕ, suc, ◌+◌, ◌≤◌, List, ◌∷◌, Option, Some, None, arith}
use Rattle.fy_base.specs.Outside.{Bytes}
use Rattle.fy_types.specs.declared.types.Atom.TheVariants.{Int}
use Rattle.fy_types.specs.Paths.{PlainPaths, paths}
use Rattle.fy_types.specs.Bounds.{join_of}
use Rattle.fy_types.specs.Fields.{IsNamed, AllFormFields}
use Rattle.fy_phrase.specs.Tree.{Tree, Trees, no_trees, and_tree, var, lit, unary, binary, cond, case, lam, app, field, sel, merge, let_in, rec, skip, seq, assign, while_do, forever, new, cells, escape, accept, put, read, mark}
use Rattle.fy_phrase.specs.CoreLimits.{visits_of}
use Rattle.fy_phrase.specs.PhraseNames.{AllNames, AllNamesOf, HasFullTypes}
use Rattle.fy_derive.specs.Atoms.{data_atom, cell_type, sequence_type}
use Rattle.fy_derive.specs.Kinds.{Kind, kind_of}
use Rattle.fy_derive.specs.Least.{has, paths_at, command_of, alternatives_of, rests_of_call, others, merge_of, least_type, join_of_all, join_behind}
use Rattle.fy_least.specs.Writable.{AllContextFields, IsWritable}
use Rattle.fy_least.proofs.FormFields.{picked-fields, paths-fields, once-fields, meet-fields, join-fields, passed-fields, passed-end, command-fields, call-fields, selection-fields, others-fields, variable-fields, alternatives-fields}

merge-fields : (P : ℕ → Type 0) (k : Option Kind) (F Q : PlainPaths) → AllFormFields P F → AllFormFields P Q → AllFormFields P (merge_of k F Q)
merge-fields P None F Q h l = tt
merge-fields P (Some k) F Q h l = meet-fields P (others k F) Q (others-fields P k F h) l

mutual
  pub least-fields : (P : ℕ → Type 0) (p : Tree) (G : List PlainPaths) → AllContextFields P G → AllNames P p → AllFormFields P (least_type G p)
  least-fields P (var k at) G g h = once-fields P (paths_at G k) (variable-fields P G k g)
  least-fields P (lit v at) G g h = (tt, tt)
  least-fields P (unary op p at) G g h = passed-end P _ _
  least-fields P (binary op p q at) G g h = passed-end P _ _
  least-fields P (cond b p q at) G g h =
      passed-fields P _ _ (join-fields P (least_type G p) (least_type G q) (least-fields P p G g h.1) (least-fields P q G g h.2))
  least-fields P (case e parts at) G g h = passed-fields P _ _ (all-fields P parts G g h.1)
  least-fields P (lam d As b at) G g h =
      once-fields P (alternatives_of As (λ D. least_type (D ∷ G) b))
      (alternatives-fields P As (λ D. least_type (D ∷ G) b) h.0 (λ D k. least-fields P b (D ∷ G) (k, g) h.1))
  least-fields P (app p q at) G g h =
      once-fields P (rests_of_call (least_type G q) (least_type G p)) (call-fields P (least_type G q) (least_type G p) (least-fields P p G g h.0))
  least-fields P (field i p at) G g h = picked-fields P i (least_type G p) h.0 (least-fields P p G g h.1)
  least-fields P (sel p i at) G g h = selection-fields P i (least_type G p) (least-fields P p G g h.1)
  least-fields P (merge p q at) G g h =
      merge-fields P (kind_of q) (least_type G p) (least_type G q) (least-fields P p G g h.0) (least-fields P q G g h.1)
  least-fields P (let_in d p b at) G g h = least-fields P b (least_type G p ∷ G) (least-fields P p G g h.0, g) h.1
  least-fields P (rec d T b at) G g h = passed-fields P _ _ (once-fields P (paths T) (paths-fields P T h.0))
  least-fields P (skip at) G g h = (tt, tt)
  least-fields P (seq p q at) G g h = passed-fields P _ _ (command-fields P (least_type G q))
  least-fields P (assign p q at) G g h = passed-end P _ _
  least-fields P (while_do b c at) G g h = passed-end P _ _
  least-fields P (forever c at) G g h = passed-end P _ _
  least-fields P (new d D e b at) G g h =
      passed-fields P (has (least_type G e) (data_atom D)) (command_of (least_type (paths (cell_type D) ∷ G) b))
      (command-fields P (least_type (paths (cell_type D) ∷ G) b))
  least-fields P (cells d e b at) G g h =
      passed-fields P (has (least_type G e) Int) (command_of (least_type (paths sequence_type ∷ G) b)) (command-fields P (least_type (paths sequence_type ∷ G) b))
  least-fields P (escape d b at) G g h = passed-end P _ _
  least-fields P (accept d D b at) G g h = passed-end P _ _
  least-fields P (put kind p at) G g h = passed-end P _ _
  least-fields P (read p at) G g h = passed-end P _ _
  least-fields P (mark m at) G g h = tt

  pub all-fields : (P : ℕ → Type 0) (ps : Trees) (G : List PlainPaths) → AllContextFields P G → AllNamesOf P ps → AllFormFields P (join_of_all G ps)
  all-fields P no_trees G g h = tt
  all-fields P (and_tree p ps) G g h = behind-fields P ps G (least_type G p) g h.1 (least-fields P p G g h.0)

  behind-fields : (P : ℕ → Type 0) (ps : Trees) (G : List PlainPaths) (F : PlainPaths) → AllContextFields P G → AllNamesOf P ps →
      AllFormFields P F → AllFormFields P (join_behind G F ps)
  behind-fields P no_trees G F g h k = k
  behind-fields P (and_tree p ps) G F g h k =
      behind-fields P ps G (join_of F (least_type G p)) g h.1 (join-fields P F (least_type G p) k (least-fields P p G g h.0))

-- one part, and two parts, of a phrase whose derivation is written as a text
pub part-writable : (names : List Bytes) (G : List PlainPaths) (p : Tree) → AllContextFields (IsNamed names) G → AllNames (IsNamed names) p →
    HasFullTypes p → suc (visits_of p) ≤ 65536 → IsWritable names G p
part-writable names G p around named full low = record { around = around; named = named; full = full; few = omega arith }

pub both-writable : (names : List Bytes) (G G' : List PlainPaths) (p q : Tree) → AllContextFields (IsNamed names) G →
    AllContextFields (IsNamed names) G' → AllNames (IsNamed names) p × AllNames (IsNamed names) q → HasFullTypes p × HasFullTypes q →
    suc (visits_of p + visits_of q) ≤ 65536 → IsWritable names G p × IsWritable names G' q
both-writable names G G' p q around within named full low = (
  record { around = around; named = named.0; full = full.0; few = omega arith },
  record { around = within; named = named.1; full = full.1; few = omega arith },
)

-- the paths of a sequence's variable demand one field
pub sequence-fields : (P : ℕ → Type 0) → P 0 → AllFormFields P (paths sequence_type)
sequence-fields P named = (((tt, tt), tt), (((tt, tt), tt), ((named, tt), tt)))
