-- What is made of path forms whose fields all have a property has no others.
use Rattle.std.proofs.Common.{ℕ, zero, suc, Bool, true, false, ◌==◌, List, [], ◌∷◌, if◌then◌else◌}
use Rattle.fy_types.specs.declared.types.Atom.{Atom}
use Rattle.fy_types.specs.declared.types.Atom.TheVariants.{Comm, Compl}
use Rattle.fy_types.specs.Types.{PlainType, PlainTypes, ns, atom, arrow, field, meet, no_types, and_type}
use Rattle.fy_types.specs.Paths.{PlainPath, PlainPaths, end, call, pick, no_paths, and_path, append, called, picked, paths, all_paths}
use Rattle.fy_types.specs.Once.{is_same, without, once}
use Rattle.fy_types.specs.Bounds.{is_end_low, common_end, common, commons_with, commons, meet_of, join_of}
use Rattle.fy_types.specs.Fields.{AllFields, AllFieldsOf, AllPathFields, AllFormFields}
use Rattle.fy_derive.specs.Kinds.{Kind, begins}
use Rattle.fy_derive.specs.Subsumption.{paths_below}
use Rattle.fy_derive.specs.Least.{paths_at, one_end, if_passed, has, command_of, rest_of_call, rests_of_call, rest_of_field, rests_of_field, others, alternatives_of}
use Rattle.fy_least.specs.Writable.{AllContextFields}

pub append-fields : (P : ℕ → Type 0) (F Q : PlainPaths) → AllFormFields P F → AllFormFields P Q → AllFormFields P (append F Q)
append-fields P no_paths Q h k = k
append-fields P (and_path p F) Q h k = (h.0, append-fields P F Q h.1 k)

called-fields : (P : ℕ → Type 0) (D F : PlainPaths) → AllFormFields P D → AllFormFields P F → AllFormFields P (called D F)
called-fields P D no_paths d h = tt
called-fields P D (and_path p F) d h = ((d, h.0), called-fields P D F d h.1)

pub picked-fields : (P : ℕ → Type 0) (i : ℕ) (F : PlainPaths) → P i → AllFormFields P F → AllFormFields P (picked i F)
picked-fields P i no_paths d h = tt
picked-fields P i (and_path p F) d h = ((d, h.0), picked-fields P i F d h.1)

mutual
  pub paths-fields : (P : ℕ → Type 0) (A : PlainType) → AllFields P A → AllFormFields P (paths A)
  paths-fields P ns h = tt
  paths-fields P (atom a) h = (tt, tt)
  paths-fields P (arrow A B) h = called-fields P (paths A) (paths B) (paths-fields P A h.0) (paths-fields P B h.1)
  paths-fields P (field i A) h = picked-fields P i (paths A) h.0 (paths-fields P A h.1)
  paths-fields P (meet As) h = all-paths-fields P As h

  all-paths-fields : (P : ℕ → Type 0) (As : PlainTypes) → AllFieldsOf P As → AllFormFields P (all_paths As)
  all-paths-fields P no_types h = tt
  all-paths-fields P (and_type A As) h = append-fields P (paths A) (all_paths As) (paths-fields P A h.0) (all-paths-fields P As h.1)

-- each path once
without-fields : (P : ℕ → Type 0) (p : PlainPath) (F : PlainPaths) → AllFormFields P F → AllFormFields P (without p F)
without-fields P p no_paths h = tt
without-fields P p (and_path q F) h = cases (is_same q p) (without-fields P p F h.1)
  where
    cases : (b : Bool) → AllFormFields P (without p F) → AllFormFields P (if b then without p F else and_path q (without p F))
    cases true k = k
    cases false k = (h.0, k)

pub once-fields : (P : ℕ → Type 0) (F : PlainPaths) → AllFormFields P F → AllFormFields P (once F)
once-fields P no_paths h = tt
once-fields P (and_path p F) h = (h.0, without-fields P p (once F) (once-fields P F h.1))

pub meet-fields : (P : ℕ → Type 0) (F Q : PlainPaths) → AllFormFields P F → AllFormFields P Q → AllFormFields P (meet_of F Q)
meet-fields P F Q h k = once-fields P (append F Q) (append-fields P F Q h k)

-- common paths
end-fields : (P : ℕ → Type 0) (a b : Atom) → AllFormFields P (common_end a b)
end-fields P a b = cases (is_end_low a b) (is_end_low b a)
  where
    cases : (x y : Bool) →
        AllFormFields P (if x then and_path (end b) no_paths else (if y then and_path (end a) no_paths else no_paths))
    cases true y = (tt, tt)
    cases false true = (tt, tt)
    cases false false = tt

common-fields : (P : ℕ → Type 0) (p q : PlainPath) → AllPathFields P p → AllPathFields P q → AllFormFields P (common p q)
common-fields P (end a) (end b) h k = end-fields P a b
common-fields P (end a) (call E q) h k = tt
common-fields P (end a) (pick j q) h k = tt
common-fields P (call D p) (end b) h k = tt
common-fields P (call D p) (call E q) h k =
    called-fields P (meet_of D E) (common p q) (meet-fields P D E h.0 k.0) (common-fields P p q h.1 k.1)
common-fields P (call D p) (pick j q) h k = tt
common-fields P (pick i p) (end b) h k = tt
common-fields P (pick i p) (call E q) h k = tt
common-fields P (pick i p) (pick j q) h k = cases (i == j) (common-fields P p q h.1 k.1)
  where
    cases : (b : Bool) → AllFormFields P (common p q) → AllFormFields P (if b then picked i (common p q) else no_paths)
    cases true l = picked-fields P i (common p q) h.0 l
    cases false l = tt

with-fields : (P : ℕ → Type 0) (p : PlainPath) (Q : PlainPaths) → AllPathFields P p → AllFormFields P Q → AllFormFields P (commons_with p Q)
with-fields P p no_paths h k = tt
with-fields P p (and_path q Q) h k =
    append-fields P (common p q) (commons_with p Q) (common-fields P p q h k.0) (with-fields P p Q h k.1)

commons-fields : (P : ℕ → Type 0) (F Q : PlainPaths) → AllFormFields P F → AllFormFields P Q → AllFormFields P (commons F Q)
commons-fields P no_paths Q h k = tt
commons-fields P (and_path p F) Q h k =
    append-fields P (commons_with p Q) (commons F Q) (with-fields P p Q h.0 k) (commons-fields P F Q h.1 k)

pub join-fields : (P : ℕ → Type 0) (F Q : PlainPaths) → AllFormFields P F → AllFormFields P Q → AllFormFields P (join_of F Q)
join-fields P F Q h k = once-fields P (commons F Q) (commons-fields P F Q h k)

-- paths by a test, and rests of paths
pub passed-fields : (P : ℕ → Type 0) (b : Bool) (F : PlainPaths) → AllFormFields P F → AllFormFields P (if_passed b F)
passed-fields P true F h = h
passed-fields P false F h = tt

pub passed-end : (P : ℕ → Type 0) (b : Bool) (a : Atom) → AllFormFields P (if_passed b (one_end a))
passed-end P b a = passed-fields P b (one_end a) (tt, tt)

pub command-fields : (P : ℕ → Type 0) (F : PlainPaths) → AllFormFields P (command_of F)
command-fields P F = cases (has F Compl)
  where
    cases : (b : Bool) → AllFormFields P (if b then one_end Compl else if_passed (has F Comm) (one_end Comm))
    cases true = (tt, tt)
    cases false = passed-fields P (has F Comm) (one_end Comm) (tt, tt)

call-rest : (P : ℕ → Type 0) (Q : PlainPaths) (p : PlainPath) → AllPathFields P p → AllFormFields P (rest_of_call Q p)
call-rest P Q (end a) h = tt
call-rest P Q (call D p) h = passed-fields P (paths_below Q D) (and_path p no_paths) (h.1, tt)
call-rest P Q (pick i p) h = tt

pub call-fields : (P : ℕ → Type 0) (Q F : PlainPaths) → AllFormFields P F → AllFormFields P (rests_of_call Q F)
call-fields P Q no_paths h = tt
call-fields P Q (and_path p F) h = append-fields P (rest_of_call Q p) (rests_of_call Q F) (call-rest P Q p h.0) (call-fields P Q F h.1)

field-rest : (P : ℕ → Type 0) (i : ℕ) (p : PlainPath) → AllPathFields P p → AllFormFields P (rest_of_field i p)
field-rest P i (end a) h = tt
field-rest P i (call D p) h = tt
field-rest P i (pick j p) h = passed-fields P (i == j) (and_path p no_paths) (h.1, tt)

pub selection-fields : (P : ℕ → Type 0) (i : ℕ) (F : PlainPaths) → AllFormFields P F → AllFormFields P (rests_of_field i F)
selection-fields P i no_paths h = tt
selection-fields P i (and_path p F) h =
    append-fields P (rest_of_field i p) (rests_of_field i F) (field-rest P i p h.0) (selection-fields P i F h.1)

pub others-fields : (P : ℕ → Type 0) (k : Kind) (F : PlainPaths) → AllFormFields P F → AllFormFields P (others k F)
others-fields P k no_paths h = tt
others-fields P k (and_path p F) h = cases (begins k p) (others-fields P k F h.1)
  where
    cases : (b : Bool) → AllFormFields P (others k F) → AllFormFields P (if b then others k F else and_path p (others k F))
    cases true l = l
    cases false l = (h.0, l)

pub variable-fields : (P : ℕ → Type 0) (G : List PlainPaths) (k : ℕ) → AllContextFields P G → AllFormFields P (paths_at G k)
variable-fields P [] k h = tt
variable-fields P (F ∷ G) zero h = h.0
variable-fields P (F ∷ G) (suc k) h = variable-fields P G k h.1

pub alternatives-fields : (P : ℕ → Type 0) (As : PlainTypes) (f : PlainPaths → PlainPaths) → AllFieldsOf P As →
    ((D : PlainPaths) → AllFormFields P D → AllFormFields P (f D)) → AllFormFields P (alternatives_of As f)
alternatives-fields P no_types f h k = tt
alternatives-fields P (and_type A As) f h k =
    let D = paths-fields P A h.0 in
    append-fields P (called (paths A) (f (paths A))) (alternatives_of As f) (called-fields P (paths A) (f (paths A)) D (k (paths A) D))
    (alternatives-fields P As f h.1 k)
