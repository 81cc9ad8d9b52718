-- What is blamed: where it stands, and that blame stops there.
use Rattle.std.proofs.Common.{◌≡◌, ◌⊎◌, Bool, true, false, List, [], ◌∷◌, inl, inr, refl, sym, ap, ◌∙◌, subst}
use Rattle.std.specs.Prelude.{if◌then◌else◌}
use Rattle.fy_base.specs.declared.data.Place.{Place}
use Rattle.fy_types.specs.declared.types.Atom.TheVariants.{Compl}
use Rattle.fy_types.specs.Types.{no_types, and_type}
use Rattle.fy_types.specs.Paths.{PlainPaths, paths}
use Rattle.fy_phrase.specs.Tree.{Tree, Trees, no_trees, and_tree, var, lit, unary, binary, cond, case, lam, app, field, sel, merge, let_in, rec, skip, seq, assign, while_do, forever, new, cells, escape, accept, put, read, mark, place_of}
use Rattle.fy_derive.specs.Atoms.{data_atom, cell_type, sequence_type}
use Rattle.fy_derive.specs.Clear.{has_none}
use Rattle.fy_derive.specs.Least.{one_end}
use Rattle.fy_least.specs.Blame.{if_empty, blame_of, blame_among}
use Rattle.fy_causes.specs.Occurrences.{Variable, bound_by, Occurrence, occurs, each_occurs, forms_around, least_in, least_of, parts_of}
use Rattle.fy_causes.specs.Blamed.{if_hollow, blamed, blamed_among}
use Rattle.fy_causes.specs.Facts.{AreFull, none_full, and_full, IsStuck}

placed : (P : PlainPaths) (a b : Occurrence) (x y : Place) → place_of a.phrase ≡ x → place_of b.phrase ≡ y → place_of (if_hollow P a b).phrase ≡ if_empty P x y
placed P a b x y e f = cases (has_none P)
  where
    cases : (c : Bool) → place_of (if c then a else b).phrase ≡ (if c then x else y)
    cases true = e
    cases false = f

-- the place of what is blamed is that where blame stops
mutual
  pub blamed-place : (G : List Variable) (p : Tree) → place_of (blamed G p).phrase ≡ blame_of (forms_around G) p
  blamed-place G (var k at) = refl
  blamed-place G (lit v at) = refl
  blamed-place G (unary op p at) =
      placed (least_in G p) (blamed G p) (occurs G (unary op p at)) (blame_of (forms_around G) p) at (blamed-place G p) refl
  blamed-place G (binary op p q at) =
      placed (least_in G p) (blamed G p) (if_hollow (least_in G q) (blamed G q) (occurs G (binary op p q at))) (blame_of (forms_around G) p) (if_empty (least_in G q) (blame_of (forms_around G) q) at) (blamed-place G p)
      (placed (least_in G q) (blamed G q) (occurs G (binary op p q at)) (blame_of (forms_around G) q) at (blamed-place G q) refl)
  blamed-place G (cond b p q at) =
      placed (least_in G b) (blamed G b) (if_hollow (least_in G p) (blamed G p) (if_hollow (least_in G q) (blamed G q) (occurs G (cond b p q at)))) (blame_of (forms_around G) b) (if_empty (least_in G p) (blame_of (forms_around G) p) (if_empty (least_in G q) (blame_of (forms_around G) q) at)) (blamed-place G b)
      (placed (least_in G p) (blamed G p) (if_hollow (least_in G q) (blamed G q) (occurs G (cond b p q at))) (blame_of (forms_around G) p) (if_empty (least_in G q) (blame_of (forms_around G) q) at) (blamed-place G p)
      (placed (least_in G q) (blamed G q) (occurs G (cond b p q at)) (blame_of (forms_around G) q) at (blamed-place G q) refl))
  blamed-place G (case e ps at) =
      placed (least_in G e) (blamed G e) (blamed_among G ps (occurs G (case e ps at))) (blame_of (forms_around G) e) (blame_among (forms_around G) ps at)
      (blamed-place G e) (among-place G ps (occurs G (case e ps at)))
  blamed-place G (lam d no_types b at) = refl
  blamed-place G (lam d (and_type A As) b at) =
      placed (least_in (bound_by (lam d (and_type A As) b at) (paths A) ∷ G) b) (blamed (bound_by (lam d (and_type A As) b at) (paths A) ∷ G) b) (occurs G (lam d (and_type A As) b at)) (blame_of (forms_around (bound_by (lam d (and_type A As) b at) (paths A) ∷ G)) b) at (blamed-place (bound_by (lam d (and_type A As) b at) (paths A) ∷ G) b) refl
  blamed-place G (app p q at) =
      placed (least_in G p) (blamed G p) (if_hollow (least_in G q) (blamed G q) (occurs G (app p q at))) (blame_of (forms_around G) p) (if_empty (least_in G q) (blame_of (forms_around G) q) at) (blamed-place G p)
      (placed (least_in G q) (blamed G q) (occurs G (app p q at)) (blame_of (forms_around G) q) at (blamed-place G q) refl)
  blamed-place G (field i p at) =
      placed (least_in G p) (blamed G p) (occurs G (field i p at)) (blame_of (forms_around G) p) at (blamed-place G p) refl
  blamed-place G (sel p i at) =
      placed (least_in G p) (blamed G p) (occurs G (sel p i at)) (blame_of (forms_around G) p) at (blamed-place G p) refl
  blamed-place G (merge p q at) =
      placed (least_in G p) (blamed G p) (if_hollow (least_in G q) (blamed G q) (occurs G (merge p q at))) (blame_of (forms_around G) p) (if_empty (least_in G q) (blame_of (forms_around G) q) at) (blamed-place G p)
      (placed (least_in G q) (blamed G q) (occurs G (merge p q at)) (blame_of (forms_around G) q) at (blamed-place G q) refl)
  blamed-place G (let_in d p b at) =
      placed (least_in G p) (blamed G p) (if_hollow (least_in (bound_by (let_in d p b at) (least_in G p) ∷ G) b) (blamed (bound_by (let_in d p b at) (least_in G p) ∷ G) b) (occurs G (let_in d p b at))) (blame_of (forms_around G) p) (if_empty (least_in (bound_by (let_in d p b at) (least_in G p) ∷ G) b) (blame_of (forms_around (bound_by (let_in d p b at) (least_in G p) ∷ G)) b) at) (blamed-place G p)
      (placed (least_in (bound_by (let_in d p b at) (least_in G p) ∷ G) b) (blamed (bound_by (let_in d p b at) (least_in G p) ∷ G) b) (occurs G (let_in d p b at)) (blame_of (forms_around (bound_by (let_in d p b at) (least_in G p) ∷ G)) b) at (blamed-place (bound_by (let_in d p b at) (least_in G p) ∷ G) b) refl)
  blamed-place G (rec d T b at) =
      placed (least_in (bound_by (rec d T b at) (paths T) ∷ G) b) (blamed (bound_by (rec d T b at) (paths T) ∷ G) b) (occurs G (rec d T b at)) (blame_of (forms_around (bound_by (rec d T b at) (paths T) ∷ G)) b) at (blamed-place (bound_by (rec d T b at) (paths T) ∷ G) b) refl
  blamed-place G (skip at) = refl
  blamed-place G (seq p q at) =
      placed (least_in G p) (blamed G p) (if_hollow (least_in G q) (blamed G q) (occurs G (seq p q at))) (blame_of (forms_around G) p) (if_empty (least_in G q) (blame_of (forms_around G) q) at) (blamed-place G p)
      (placed (least_in G q) (blamed G q) (occurs G (seq p q at)) (blame_of (forms_around G) q) at (blamed-place G q) refl)
  blamed-place G (assign p q at) =
      placed (least_in G p) (blamed G p) (if_hollow (least_in G q) (blamed G q) (occurs G (assign p q at))) (blame_of (forms_around G) p) (if_empty (least_in G q) (blame_of (forms_around G) q) at) (blamed-place G p)
      (placed (least_in G q) (blamed G q) (occurs G (assign p q at)) (blame_of (forms_around G) q) at (blamed-place G q) refl)
  blamed-place G (while_do b c at) =
      placed (least_in G b) (blamed G b) (if_hollow (least_in G c) (blamed G c) (occurs G (while_do b c at))) (blame_of (forms_around G) b) (if_empty (least_in G c) (blame_of (forms_around G) c) at) (blamed-place G b)
      (placed (least_in G c) (blamed G c) (occurs G (while_do b c at)) (blame_of (forms_around G) c) at (blamed-place G c) refl)
  blamed-place G (forever c at) =
      placed (least_in G c) (blamed G c) (occurs G (forever c at)) (blame_of (forms_around G) c) at (blamed-place G c) refl
  blamed-place G (new d D e b at) =
      placed (least_in G e) (blamed G e) (if_hollow (least_in (bound_by (new d D e b at) (paths (cell_type D)) ∷ G) b) (blamed (bound_by (new d D e b at) (paths (cell_type D)) ∷ G) b) (occurs G (new d D e b at))) (blame_of (forms_around G) e) (if_empty (least_in (bound_by (new d D e b at) (paths (cell_type D)) ∷ G) b) (blame_of (forms_around (bound_by (new d D e b at) (paths (cell_type D)) ∷ G)) b) at) (blamed-place G e)
      (placed (least_in (bound_by (new d D e b at) (paths (cell_type D)) ∷ G) b) (blamed (bound_by (new d D e b at) (paths (cell_type D)) ∷ G) b) (occurs G (new d D e b at)) (blame_of (forms_around (bound_by (new d D e b at) (paths (cell_type D)) ∷ G)) b) at (blamed-place (bound_by (new d D e b at) (paths (cell_type D)) ∷ G) b) refl)
  blamed-place G (cells d e b at) =
      placed (least_in G e) (blamed G e) (if_hollow (least_in (bound_by (cells d e b at) (paths sequence_type) ∷ G) b) (blamed (bound_by (cells d e b at) (paths sequence_type) ∷ G) b) (occurs G (cells d e b at))) (blame_of (forms_around G) e) (if_empty (least_in (bound_by (cells d e b at) (paths sequence_type) ∷ G) b) (blame_of (forms_around (bound_by (cells d e b at) (paths sequence_type) ∷ G)) b) at) (blamed-place G e)
      (placed (least_in (bound_by (cells d e b at) (paths sequence_type) ∷ G) b) (blamed (bound_by (cells d e b at) (paths sequence_type) ∷ G) b) (occurs G (cells d e b at)) (blame_of (forms_around (bound_by (cells d e b at) (paths sequence_type) ∷ G)) b) at (blamed-place (bound_by (cells d e b at) (paths sequence_type) ∷ G) b) refl)
  blamed-place G (escape d b at) =
      placed (least_in (bound_by (escape d b at) (one_end Compl) ∷ G) b) (blamed (bound_by (escape d b at) (one_end Compl) ∷ G) b) (occurs G (escape d b at)) (blame_of (forms_around (bound_by (escape d b at) (one_end Compl) ∷ G)) b) at (blamed-place (bound_by (escape d b at) (one_end Compl) ∷ G) b) refl
  blamed-place G (accept d D b at) =
      placed (least_in (bound_by (accept d D b at) (one_end (data_atom D)) ∷ G) b) (blamed (bound_by (accept d D b at) (one_end (data_atom D)) ∷ G) b) (occurs G (accept d D b at)) (blame_of (forms_around (bound_by (accept d D b at) (one_end (data_atom D)) ∷ G)) b) at (blamed-place (bound_by (accept d D b at) (one_end (data_atom D)) ∷ G) b) refl
  blamed-place G (put kind p at) =
      placed (least_in G p) (blamed G p) (occurs G (put kind p at)) (blame_of (forms_around G) p) at (blamed-place G p) refl
  blamed-place G (read p at) =
      placed (least_in G p) (blamed G p) (occurs G (read p at)) (blame_of (forms_around G) p) at (blamed-place G p) refl
  blamed-place G (mark m at) = refl

  among-place : (G : List Variable) (ps : Trees) (o : Occurrence) → place_of (blamed_among G ps o).phrase ≡ blame_among (forms_around G) ps (place_of o.phrase)
  among-place G no_trees o = refl
  among-place G (and_tree p ps) o =
      placed (least_in G p) (blamed G p) (blamed_among G ps o) (blame_of (forms_around G) p) (blame_among (forms_around G) ps (place_of o.phrase))
      (blamed-place G p) (among-place G ps o)

-- what is blamed among parts, else in the whole
abbrev pub from_parts : List Occurrence → Occurrence → Occurrence
from_parts [] w = w
from_parts (o ∷ os) w = if_hollow (least_of o) (blamed o.around o.phrase) (from_parts os w)

among-parts : (G : List Variable) (ps : Trees) (w : Occurrence) → blamed_among G ps w ≡ from_parts (each_occurs G ps) w
among-parts G no_trees w = refl
among-parts G (and_tree p ps) w = ap (if_hollow (least_in G p) (blamed G p)) (among-parts G ps w)

-- blame stops in each of the parts
data AllStuck : List Occurrence → Type 0 where
  no_stuck : AllStuck []
  and_stuck : {o : Occurrence} {os : List Occurrence} → IsStuck o.around o.phrase (blamed o.around o.phrase) → AllStuck os → AllStuck (o ∷ os)

first-stuck : {o : Occurrence} {os : List Occurrence} → AllStuck (o ∷ os) → IsStuck o.around o.phrase (blamed o.around o.phrase)
first-stuck (and_stuck h r) = h

rest-stuck : {o : Occurrence} {os : List Occurrence} → AllStuck (o ∷ os) → AllStuck os
rest-stuck (and_stuck h r) = r

-- a part that has only `ns`, in which blame stops
in-part : (w o b : Occurrence) → has_none (least_of o) ≡ true → IsStuck o.around o.phrase b → IsStuck w.around w.phrase b
in-part w o b e h = record { full = h.full; only_ns = inr (same h.only_ns) }
  where
    same : (b ≡ o) ⊎ (has_none (least_of b) ≡ true) → has_none (least_of b) ≡ true
    same (inl f) = ap (λ x. has_none (least_of x)) f ∙ e
    same (inr f) = f

stuck-from : (w : Occurrence) (os : List Occurrence) → (AreFull os → AreFull (parts_of w.around w.phrase)) → AllStuck os →
    IsStuck w.around w.phrase (from_parts os w)
stuck-from w [] all h = record { full = all none_full; only_ns = inl refl }
stuck-from w (o ∷ os) all h =
    cases (has_none (least_of o)) refl (λ e. stuck-from w os (λ f. all (and_full e f)) (rest-stuck h))
  where
    cases : (c : Bool) → has_none (least_of o) ≡ c → (has_none (least_of o) ≡ false → IsStuck w.around w.phrase (from_parts os w)) →
        IsStuck w.around w.phrase (if c then blamed o.around o.phrase else from_parts os w)
    cases true e later = in-part w o (blamed o.around o.phrase) e (first-stuck h)
    cases false e later = later e

mutual
  pub stuck : (G : List Variable) (p : Tree) → IsStuck G p (blamed G p)
  stuck G (var k at) = stuck-from (occurs G (var k at)) [] (λ f. f) no_stuck
  stuck G (lit v at) = stuck-from (occurs G (lit v at)) [] (λ f. f) no_stuck
  stuck G (unary op p at) = stuck-from (occurs G (unary op p at)) (occurs G p ∷ []) (λ f. f) (and_stuck (stuck G p) no_stuck)
  stuck G (binary op p q at) = stuck-from (occurs G (binary op p q at)) (occurs G p ∷ occurs G q ∷ []) (λ f. f) (and_stuck (stuck G p) (and_stuck (stuck G q) no_stuck))
  stuck G (cond b p q at) = stuck-from (occurs G (cond b p q at)) (occurs G b ∷ occurs G p ∷ occurs G q ∷ []) (λ f. f) (and_stuck (stuck G b) (and_stuck (stuck G p) (and_stuck (stuck G q) no_stuck)))
  stuck G (case e ps at) =
      subst (IsStuck G (case e ps at)) (sym (ap (if_hollow (least_in G e) (blamed G e)) (among-parts G ps (occurs G (case e ps at)))))
      (stuck-from (occurs G (case e ps at)) (occurs G e ∷ each_occurs G ps) (λ f. f) (and_stuck (stuck G e) (all-stuck G ps)))
  stuck G (lam d no_types b at) = stuck-from (occurs G (lam d no_types b at)) [] (λ f. f) no_stuck
  stuck G (lam d (and_type A As) b at) = stuck-from (occurs G (lam d (and_type A As) b at)) (occurs (bound_by (lam d (and_type A As) b at) (paths A) ∷ G) b ∷ []) (λ f. f) (and_stuck (stuck (bound_by (lam d (and_type A As) b at) (paths A) ∷ G) b) no_stuck)
  stuck G (app p q at) = stuck-from (occurs G (app p q at)) (occurs G p ∷ occurs G q ∷ []) (λ f. f) (and_stuck (stuck G p) (and_stuck (stuck G q) no_stuck))
  stuck G (field i p at) = stuck-from (occurs G (field i p at)) (occurs G p ∷ []) (λ f. f) (and_stuck (stuck G p) no_stuck)
  stuck G (sel p i at) = stuck-from (occurs G (sel p i at)) (occurs G p ∷ []) (λ f. f) (and_stuck (stuck G p) no_stuck)
  stuck G (merge p q at) = stuck-from (occurs G (merge p q at)) (occurs G p ∷ occurs G q ∷ []) (λ f. f) (and_stuck (stuck G p) (and_stuck (stuck G q) no_stuck))
  stuck G (let_in d p b at) = stuck-from (occurs G (let_in d p b at)) (occurs G p ∷ occurs (bound_by (let_in d p b at) (least_in G p) ∷ G) b ∷ []) (λ f. f) (and_stuck (stuck G p) (and_stuck (stuck (bound_by (let_in d p b at) (least_in G p) ∷ G) b) no_stuck))
  stuck G (rec d T b at) = stuck-from (occurs G (rec d T b at)) (occurs (bound_by (rec d T b at) (paths T) ∷ G) b ∷ []) (λ f. f) (and_stuck (stuck (bound_by (rec d T b at) (paths T) ∷ G) b) no_stuck)
  stuck G (skip at) = stuck-from (occurs G (skip at)) [] (λ f. f) no_stuck
  stuck G (seq p q at) = stuck-from (occurs G (seq p q at)) (occurs G p ∷ occurs G q ∷ []) (λ f. f) (and_stuck (stuck G p) (and_stuck (stuck G q) no_stuck))
  stuck G (assign p q at) = stuck-from (occurs G (assign p q at)) (occurs G p ∷ occurs G q ∷ []) (λ f. f) (and_stuck (stuck G p) (and_stuck (stuck G q) no_stuck))
  stuck G (while_do b c at) = stuck-from (occurs G (while_do b c at)) (occurs G b ∷ occurs G c ∷ []) (λ f. f) (and_stuck (stuck G b) (and_stuck (stuck G c) no_stuck))
  stuck G (forever c at) = stuck-from (occurs G (forever c at)) (occurs G c ∷ []) (λ f. f) (and_stuck (stuck G c) no_stuck)
  stuck G (new d D e b at) = stuck-from (occurs G (new d D e b at)) (occurs G e ∷ occurs (bound_by (new d D e b at) (paths (cell_type D)) ∷ G) b ∷ []) (λ f. f) (and_stuck (stuck G e) (and_stuck (stuck (bound_by (new d D e b at) (paths (cell_type D)) ∷ G) b) no_stuck))
  stuck G (cells d e b at) = stuck-from (occurs G (cells d e b at)) (occurs G e ∷ occurs (bound_by (cells d e b at) (paths sequence_type) ∷ G) b ∷ []) (λ f. f) (and_stuck (stuck G e) (and_stuck (stuck (bound_by (cells d e b at) (paths sequence_type) ∷ G) b) no_stuck))
  stuck G (escape d b at) = stuck-from (occurs G (escape d b at)) (occurs (bound_by (escape d b at) (one_end Compl) ∷ G) b ∷ []) (λ f. f) (and_stuck (stuck (bound_by (escape d b at) (one_end Compl) ∷ G) b) no_stuck)
  stuck G (accept d D b at) = stuck-from (occurs G (accept d D b at)) (occurs (bound_by (accept d D b at) (one_end (data_atom D)) ∷ G) b ∷ []) (λ f. f) (and_stuck (stuck (bound_by (accept d D b at) (one_end (data_atom D)) ∷ G) b) no_stuck)
  stuck G (put kind p at) = stuck-from (occurs G (put kind p at)) (occurs G p ∷ []) (λ f. f) (and_stuck (stuck G p) no_stuck)
  stuck G (read p at) = stuck-from (occurs G (read p at)) (occurs G p ∷ []) (λ f. f) (and_stuck (stuck G p) no_stuck)
  stuck G (mark m at) = stuck-from (occurs G (mark m at)) [] (λ f. f) no_stuck

  all-stuck : (G : List Variable) (ps : Trees) → AllStuck (each_occurs G ps)
  all-stuck G no_trees = no_stuck
  all-stuck G (and_tree p ps) = and_stuck (stuck G p) (all-stuck G ps)
