-- The least type follows the order of contexts, and each type of a phrase is above it.
use Rattle.std.proofs.Common.{List, ◌∷◌, ◌&&◌, sym, subst}
use Rattle.std.proofs.lemmas.Bool.{and_from}
use Rattle.fy_types.specs.declared.types.Atom.TheVariants.{Int, Bool as Truth, Comm, Compl, IntAcc}
use Rattle.fy_types.specs.Types.{PlainType, PlainTypes}
use Rattle.fy_types.specs.Paths.{PlainPaths, paths, all_paths}
use Rattle.fy_types.specs.PathOrder.{ArePathsBelow, none_left}
use Rattle.fy_types.specs.Once.{once}
use Rattle.fy_types.specs.Bounds.{join_of}
use Rattle.fy_types.proofs.Order.{ArePathsBelow-refl, ArePathsBelow-trans}
use Rattle.fy_types.proofs.Laws.{append-greatest, picked-below, IsSubtype-paths}
use Rattle.fy_types.proofs.OnceLemmas.{once-below}
use Rattle.fy_types.proofs.BoundLemmas.{meet_of-left, meet_of-right, join_of-least}
use Rattle.fy_phrase.specs.Tree.{Tree, Trees, no_trees, and_tree, var, lit, unary, binary, cond, case, lam, app, field, sel, merge, let_in, rec, skip, seq, assign, while_do, forever, new, cells, escape, accept, put, read, mark}
use Rattle.fy_derive.specs.Atoms.{data_atom, acceptor_atom, cell_type, sequence_type, datum_atom, operand_atom, unary_atom, binary_atom, put_atom}
use Rattle.fy_derive.specs.Kinds.{kind_of}
use Rattle.fy_derive.specs.Typing.{HasType, by_ns, by_subsumption, by_meet, by_var, by_lit, by_unary, by_binary, by_cond, by_case, by_lam, by_app, by_field, by_sel, by_left, by_right, by_let, by_rec, by_skip, by_seq, by_assign, by_while, by_forever, by_new, by_cells, by_escape, by_accept, by_put, by_read, HasEach, no_more, and_has, EachHasType, no_parts, and_part}
use Rattle.fy_derive.specs.Subsumption.{paths_below}
use Rattle.fy_derive.specs.Least.{forms_of, paths_at, one_end, has, some_data, has_operands, has_assignment, alternatives_of, rests_of_call, others, merge_of, least_type, join_of_all, join_behind}
use Rattle.fy_least.specs.Pairs.{AreContextsBelow, and_variable}
use Rattle.fy_least.proofs.BelowLemmas.{passed-mono, passed-below, below-has, has-down, below-test, test-down, once-mono, once-low, join_of-mono, AreContextsBelow-refl, at-mono, at-known, others-below, merge_of-mono, rests-below, rests-mono, fields-below, fields-mono, alternatives-mono, alternatives-below, data-intro, operands-mono, assignment-mono, both-mono, command-below, command-mono}

mutual
  pub least-mono : (p : Tree) (G H : List PlainPaths) → AreContextsBelow G H → ArePathsBelow (least_type G p) (least_type H p)
  least-mono (var k at) G H c = once-mono (paths_at G k) (paths_at H k) (at-mono k c)
  least-mono (lit v at) G H c = ArePathsBelow-refl (one_end (datum_atom v))
  least-mono (unary op p at) G H c =
      passed-mono (has (least_type G p) (operand_atom op)) (has (least_type H p) (operand_atom op))
      (has-down (least_type G p) (least_type H p) (operand_atom op) (least-mono p G H c)) (ArePathsBelow-refl (one_end (unary_atom op)))
  least-mono (binary op p q at) G H c =
      passed-mono (some_data (has_operands op (least_type G p) (least_type G q))) (some_data (has_operands op (least_type H p) (least_type H q)))
      (operands-mono op (least_type G p) (least_type H p) (least_type G q) (least_type H q) (least-mono p G H c) (least-mono q G H c))
      (ArePathsBelow-refl (one_end (binary_atom op)))
  least-mono (cond b p q at) G H c =
      passed-mono (has (least_type G b) Truth) (has (least_type H b) Truth)
      (has-down (least_type G b) (least_type H b) Truth (least-mono b G H c))
      (join_of-mono (least_type G p) (least_type H p) (least_type G q) (least_type H q) (least-mono p G H c) (least-mono q G H c))
  least-mono (case e parts at) G H c =
      passed-mono (has (least_type G e) Int) (has (least_type H e) Int)
      (has-down (least_type G e) (least_type H e) Int (least-mono e G H c)) (all-mono parts G H c)
  least-mono (lam d As b at) G H c =
      once-mono (alternatives_of As (λ D. least_type (D ∷ G) b)) (alternatives_of As (λ D. least_type (D ∷ H) b))
      (alternatives-mono As (λ D. least_type (D ∷ G) b) (λ D. least_type (D ∷ H) b)
      (λ D. least-mono b (D ∷ G) (D ∷ H) (and_variable (ArePathsBelow-refl D) c)))
  least-mono (app p q at) G H c =
      once-mono (rests_of_call (least_type G q) (least_type G p)) (rests_of_call (least_type H q) (least_type H p))
      (rests-mono (least_type H p) (least_type H q) (least-mono p G H c) (least-mono q G H c))
  least-mono (field i p at) G H c = picked-below i (least-mono p G H c)
  least-mono (sel p i at) G H c = fields-mono i (least_type H p) (least-mono p G H c)
  least-mono (merge p q at) G H c =
      merge_of-mono (kind_of q) (least_type G p) (least_type H p) (least_type G q) (least_type H q) (least-mono p G H c) (least-mono q G H c)
  least-mono (let_in d p b at) G H c =
      least-mono b (least_type G p ∷ G) (least_type H p ∷ H) (and_variable (least-mono p G H c) c)
  least-mono (rec d T b at) G H c =
      passed-mono (paths_below (least_type (paths T ∷ G) b) (paths T)) (paths_below (least_type (paths T ∷ H) b) (paths T))
      (test-down (least_type (paths T ∷ G) b) (least_type (paths T ∷ H) b) (paths T)
      (least-mono b (paths T ∷ G) (paths T ∷ H) (and_variable (ArePathsBelow-refl (paths T)) c))) (ArePathsBelow-refl (once (paths T)))
  least-mono (skip at) G H c = ArePathsBelow-refl (one_end Comm)
  least-mono (seq p q at) G H c =
      passed-mono (has (least_type G p) Comm) (has (least_type H p) Comm)
      (has-down (least_type G p) (least_type H p) Comm (least-mono p G H c))
      (command-mono (least_type G q) (least_type H q) (least-mono q G H c))
  least-mono (assign p q at) G H c =
      passed-mono (some_data (has_assignment (least_type G p) (least_type G q))) (some_data (has_assignment (least_type H p) (least_type H q)))
      (assignment-mono (least_type G p) (least_type H p) (least_type G q) (least_type H q) (least-mono p G H c) (least-mono q G H c))
      (ArePathsBelow-refl (one_end Comm))
  least-mono (while_do b p at) G H c =
      passed-mono (has (least_type G b) Truth && has (least_type G p) Comm) (has (least_type H b) Truth && has (least_type H p) Comm)
      (both-mono (least_type G b) (least_type H b) (least_type G p) (least_type H p) Truth Comm (least-mono b G H c) (least-mono p G H c))
      (ArePathsBelow-refl (one_end Comm))
  least-mono (forever p at) G H c =
      passed-mono (has (least_type G p) Comm) (has (least_type H p) Comm)
      (has-down (least_type G p) (least_type H p) Comm (least-mono p G H c)) (ArePathsBelow-refl (one_end Compl))
  least-mono (new d D e b at) G H c =
      passed-mono (has (least_type G e) (data_atom D)) (has (least_type H e) (data_atom D))
      (has-down (least_type G e) (least_type H e) (data_atom D) (least-mono e G H c))
      (command-mono (least_type (paths (cell_type D) ∷ G) b) (least_type (paths (cell_type D) ∷ H) b)
      (least-mono b (paths (cell_type D) ∷ G) (paths (cell_type D) ∷ H) (and_variable (ArePathsBelow-refl (paths (cell_type D))) c)))
  least-mono (cells d e b at) G H c =
      passed-mono (has (least_type G e) Int) (has (least_type H e) Int)
      (has-down (least_type G e) (least_type H e) Int (least-mono e G H c))
      (command-mono (least_type (paths sequence_type ∷ G) b) (least_type (paths sequence_type ∷ H) b)
      (least-mono b (paths sequence_type ∷ G) (paths sequence_type ∷ H) (and_variable (ArePathsBelow-refl (paths sequence_type)) c)))
  least-mono (escape d b at) G H c =
      passed-mono (has (least_type (one_end Compl ∷ G) b) Comm) (has (least_type (one_end Compl ∷ H) b) Comm)
      (has-down (least_type (one_end Compl ∷ G) b) (least_type (one_end Compl ∷ H) b) Comm
      (least-mono b (one_end Compl ∷ G) (one_end Compl ∷ H) (and_variable (ArePathsBelow-refl (one_end Compl)) c)))
      (ArePathsBelow-refl (one_end Comm))
  least-mono (accept d D b at) G H c =
      passed-mono (has (least_type (one_end (data_atom D) ∷ G) b) Comm) (has (least_type (one_end (data_atom D) ∷ H) b) Comm)
      (has-down (least_type (one_end (data_atom D) ∷ G) b) (least_type (one_end (data_atom D) ∷ H) b) Comm
      (least-mono b (one_end (data_atom D) ∷ G) (one_end (data_atom D) ∷ H) (and_variable (ArePathsBelow-refl (one_end (data_atom D))) c)))
      (ArePathsBelow-refl (one_end (acceptor_atom D)))
  least-mono (put kind p at) G H c =
      passed-mono (has (least_type G p) (put_atom kind)) (has (least_type H p) (put_atom kind))
      (has-down (least_type G p) (least_type H p) (put_atom kind) (least-mono p G H c)) (ArePathsBelow-refl (one_end Comm))
  least-mono (read p at) G H c =
      passed-mono (has (least_type G p) IntAcc) (has (least_type H p) IntAcc)
      (has-down (least_type G p) (least_type H p) IntAcc (least-mono p G H c)) (ArePathsBelow-refl (one_end Comm))
  least-mono (mark m at) G H c = none_left

  all-mono : (ps : Trees) (G H : List PlainPaths) → AreContextsBelow G H → ArePathsBelow (join_of_all G ps) (join_of_all H ps)
  all-mono no_trees G H c = none_left
  all-mono (and_tree p ps) G H c = behind-mono ps G H (least_type G p) (least_type H p) c (least-mono p G H c)

  behind-mono : (ps : Trees) (G H : List PlainPaths) (P Q : PlainPaths) → AreContextsBelow G H → ArePathsBelow P Q →
      ArePathsBelow (join_behind G P ps) (join_behind H Q ps)
  behind-mono no_trees G H P Q c low = low
  behind-mono (and_tree p ps) G H P Q c low =
      behind-mono ps G H (join_of P (least_type G p)) (join_of Q (least_type H p)) c
      (join_of-mono P Q (least_type G p) (least_type H p) low (least-mono p G H c))

-- each type that the rules give is above the least type
mutual
  pub HasType-least : {G : List PlainType} {p : Tree} {A : PlainType} → HasType G p A → ArePathsBelow (least_type (forms_of G) p) (paths A)
  HasType-least by_ns = none_left
  HasType-least (by_subsumption {A = A} t low) = ArePathsBelow-trans (paths A) (HasType-least t) (IsSubtype-paths low)
  HasType-least (by_meet t u us) = append-greatest (HasType-least t) (append-greatest (HasType-least u) (HasEach-least us))
  HasType-least (by_var {G = G} {k = k} {A = A} e) = rw (at-known G k A e) (once-below (paths A))
  HasType-least (by_lit {v = v}) = ArePathsBelow-refl (one_end (datum_atom v))
  HasType-least (by_unary {G = G} {op = op} {p = p} t) =
      passed-below (has (least_type (forms_of G) p) (operand_atom op)) (below-has (HasType-least t)) (ArePathsBelow-refl (one_end (unary_atom op)))
  HasType-least (by_binary {G = G} {op = op} {p = p} {q = q} D e t u) =
      passed-below (some_data (has_operands op (least_type (forms_of G) p) (least_type (forms_of G) q)))
      (data-intro (has_operands op (least_type (forms_of G) p) (least_type (forms_of G) q)) D
      (and_from _ _ e (and_from _ _ (below-has (HasType-least t)) (below-has (HasType-least u))))) (ArePathsBelow-refl (one_end (binary_atom op)))
  HasType-least (by_cond {G = G} {b = b} {p = p} {q = q} t u v) =
      passed-below (has (least_type (forms_of G) b) Truth) (below-has (HasType-least t))
      (join_of-least (least_type (forms_of G) p) (least_type (forms_of G) q) (HasType-least u) (HasType-least v))
  HasType-least (by_case {G = G} {e = e} t u us) =
      passed-below (has (least_type (forms_of G) e) Int) (below-has (HasType-least t)) (EachHasType-least us (HasType-least u))
  HasType-least (by_lam {G = G} {As = As} {b = b} among t) =
      once-low (alternatives_of As (λ D. least_type (D ∷ forms_of G) b))
      (alternatives-below (λ D. least_type (D ∷ forms_of G) b) among (HasType-least t))
  HasType-least (by_app {G = G} {p = p} {q = q} {A = A} {C = C} t u) =
      once-low (rests_of_call (least_type (forms_of G) q) (least_type (forms_of G) p))
      (rests-below (paths A) (paths C) (HasType-least t) (HasType-least u))
  HasType-least (by_field {i = i} t) = picked-below i (HasType-least t)
  HasType-least (by_sel {i = i} {A = A} t) = fields-below i (paths A) (HasType-least t)
  HasType-least (by_left {G = G} {p = p} {q = q} {k = k} {A = A} e t clear) =
      subst (λ o. ArePathsBelow (merge_of o (least_type (forms_of G) p) (least_type (forms_of G) q)) (paths A)) (sym e)
      (ArePathsBelow-trans (others k (least_type (forms_of G) p)) (meet_of-left (others k (least_type (forms_of G) p)) (least_type (forms_of G) q))
      (others-below k clear (HasType-least t)))
  HasType-least (by_right {G = G} {p = p} {q = q} {k = k} {A = A} e t) =
      subst (λ o. ArePathsBelow (merge_of o (least_type (forms_of G) p) (least_type (forms_of G) q)) (paths A)) (sym e)
      (ArePathsBelow-trans (least_type (forms_of G) q) (meet_of-right (others k (least_type (forms_of G) p)) (least_type (forms_of G) q))
      (HasType-least t))
  HasType-least (by_let {G = G} {p = p} {b = b} {A = A} t u) =
      ArePathsBelow-trans (least_type (paths A ∷ forms_of G) b)
      (least-mono b (least_type (forms_of G) p ∷ forms_of G) (paths A ∷ forms_of G)
      (and_variable (HasType-least t) (AreContextsBelow-refl (forms_of G))))
      (HasType-least u)
  HasType-least (by_rec {G = G} {T = T} {b = b} t) =
      passed-below (paths_below (least_type (paths T ∷ forms_of G) b) (paths T))
      (below-test (least_type (paths T ∷ forms_of G) b) (paths T) (HasType-least t))
      (once-below (paths T))
  HasType-least by_skip = ArePathsBelow-refl (one_end Comm)
  HasType-least (by_seq {G = G} {p = p} {q = q} {R = R} e t u) =
      passed-below (has (least_type (forms_of G) p) Comm) (below-has (HasType-least t))
      (command-below R (least_type (forms_of G) q) e (HasType-least u))
  HasType-least (by_assign {G = G} {p = p} {q = q} D t u) =
      passed-below (some_data (has_assignment (least_type (forms_of G) p) (least_type (forms_of G) q)))
      (data-intro (has_assignment (least_type (forms_of G) p) (least_type (forms_of G) q)) D
      (and_from _ _ (below-has (HasType-least t)) (below-has (HasType-least u)))) (ArePathsBelow-refl (one_end Comm))
  HasType-least (by_while {G = G} {b = b} {c = c} t u) =
      passed-below (has (least_type (forms_of G) b) Truth && has (least_type (forms_of G) c) Comm)
      (and_from _ _ (below-has (HasType-least t)) (below-has (HasType-least u))) (ArePathsBelow-refl (one_end Comm))
  HasType-least (by_forever {G = G} {c = c} t) =
      passed-below (has (least_type (forms_of G) c) Comm) (below-has (HasType-least t)) (ArePathsBelow-refl (one_end Compl))
  HasType-least (by_new {G = G} {D = D} {e = e} {b = b} {R = R} is t u) =
      passed-below (has (least_type (forms_of G) e) (data_atom D)) (below-has (HasType-least t))
      (command-below R (least_type (paths (cell_type D) ∷ forms_of G) b) is (HasType-least u))
  HasType-least (by_cells {G = G} {e = e} {b = b} {R = R} is t u) =
      passed-below (has (least_type (forms_of G) e) Int) (below-has (HasType-least t))
      (command-below R (least_type (paths sequence_type ∷ forms_of G) b) is (HasType-least u))
  HasType-least (by_escape {G = G} {b = b} t) =
      passed-below (has (least_type (one_end Compl ∷ forms_of G) b) Comm) (below-has (HasType-least t)) (ArePathsBelow-refl (one_end Comm))
  HasType-least (by_accept {G = G} {D = D} {b = b} t) =
      passed-below (has (least_type (one_end (data_atom D) ∷ forms_of G) b) Comm) (below-has (HasType-least t))
      (ArePathsBelow-refl (one_end (acceptor_atom D)))
  HasType-least (by_put {G = G} {kind = kind} {p = p} t) =
      passed-below (has (least_type (forms_of G) p) (put_atom kind)) (below-has (HasType-least t)) (ArePathsBelow-refl (one_end Comm))
  HasType-least (by_read {G = G} {p = p} t) =
      passed-below (has (least_type (forms_of G) p) IntAcc) (below-has (HasType-least t)) (ArePathsBelow-refl (one_end Comm))

  HasEach-least : {G : List PlainType} {p : Tree} {As : PlainTypes} → HasEach G p As → ArePathsBelow (least_type (forms_of G) p) (all_paths As)
  HasEach-least no_more = none_left
  HasEach-least (and_has t ts) = append-greatest (HasType-least t) (HasEach-least ts)

  EachHasType-least : {G : List PlainType} {ps : Trees} {A : PlainType} {P : PlainPaths} → EachHasType G ps A → ArePathsBelow P (paths A) →
      ArePathsBelow (join_behind (forms_of G) P ps) (paths A)
  EachHasType-least no_parts low = low
  EachHasType-least {G = G} {P = P} (and_part {p = p} t ts) low =
      EachHasType-least ts (join_of-least P (least_type (forms_of G) p) low (HasType-least t))
