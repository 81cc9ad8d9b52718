-- A phrase has its least type, and so exactly the types above it.
use Rattle.std.proofs.Common.{ℕ, List, ◌∷◌, ◌≡◌, ◌↔◌, Bool, true, false, ◌&&◌, eqb, Option, Some, None, refl, sym, ap, subst, eqb-true}
use Rattle.fy_base.specs.declared.data.Place.{Place}
use Rattle.fy_types.specs.declared.types.Atom.{Atom}
use Rattle.fy_types.specs.declared.types.Atom.TheVariants.{Int, Bool as Truth, Comm, Compl, IntAcc}
use Rattle.fy_types.specs.Types.{PlainType, PlainTypes, atom, arrow, field as field_type, meet, no_types, and_type}
use Rattle.fy_types.specs.Subtyping.{IsMember, first, later, IsSubtype, same, below_member, below_meet, none, also}
use Rattle.fy_types.specs.Paths.{PlainPath, PlainPaths, end, call, pick, no_paths, and_path, append, called, picked, paths, type_of_path, type_of_paths}
use Rattle.fy_types.specs.PathOrder.{ArePathsBelow}
use Rattle.fy_types.specs.Once.{once}
use Rattle.fy_types.specs.Bounds.{join_of}
use Rattle.fy_types.proofs.Order.{ArePathsBelow-refl, ArePathsBelow-trans}
use Rattle.fy_types.proofs.Laws.{append-none}
use Rattle.fy_types.proofs.OnceLemmas.{both_true, below-once}
use Rattle.fy_types.proofs.BoundLemmas.{join_of-left, join_of-right}
use Rattle.fy_types.proofs.Central.{ArePathsBelow-types, paths-of_types, subtype-iff}
use Rattle.fy_phrase.specs.Tree.{Tree, Trees, no_trees, and_tree, var, lit, unary, binary, cond, case, lam, app, field, sel, merge, let_in, rec, skip, seq, assign, while_do, forever, new, cells, escape, accept, put, read, mark}
use Rattle.fy_derive.specs.Atoms.{data_atom, acceptor_atom, cell_type, sequence_type, datum_atom, operand_atom, unary_atom, takes, binary_atom, put_atom}
use Rattle.fy_derive.specs.Kinds.{Kind, kind_of, none_begins}
use Rattle.fy_derive.specs.Typing.{HasType, by_ns, by_subsumption, by_meet, by_var, by_lit, by_unary, by_binary, by_cond, by_case, by_lam, by_app, by_field, by_sel, by_left, by_right, by_let, by_rec, by_skip, by_seq, by_assign, by_while, by_forever, by_new, by_cells, by_escape, by_accept, by_put, by_read, no_more, EachHasType, no_parts, and_part}
use Rattle.fy_derive.specs.Subsumption.{paths_below}
use Rattle.fy_derive.specs.Least.{forms_of, paths_at, one_end, if_passed, has, some_data, has_operands, has_assignment, command_of, alternatives_of, rest_of_call, rests_of_call, rest_of_field, rests_of_field, others, merge_of, least_type, join_of_all, join_behind}
use Rattle.fy_least.proofs.BelowLemmas.{has-below, test-below, more-below, at-cases, others-clear, others-above, data-cases, command-cases}
use Rattle.fy_least.proofs.LeastLemmas.{HasType-least}

-- a type and the meet of its paths
same-below : (B : PlainType) (P : PlainPaths) → paths B ≡ P → IsSubtype B (type_of_paths P)
same-below B P e = (subtype-iff B (type_of_paths P)).1 (rw (paths-of_types P, e) (ArePathsBelow-refl P))

paths-below : (P : PlainPaths) (A : PlainType) → ArePathsBelow P (paths A) → IsSubtype (type_of_paths P) A
paths-below P A low = (subtype-iff (type_of_paths P) A).1 (rw (paths-of_types P) low)

below-paths : (P : PlainPaths) (A : PlainType) → IsSubtype (type_of_paths P) A → ArePathsBelow P (paths A)
below-paths P A low = rw (paths-of_types P) at ((subtype-iff (type_of_paths P) A).0 low)

module _ (G : List PlainType) (x : Tree) where
  has_none : HasType G x (type_of_paths no_paths)
  has_none = by_subsumption by_ns (below_meet none)

  has_one : (a : Atom) → HasType G x (atom a) → HasType G x (type_of_paths (one_end a))
  has_one a t = by_subsumption t (below_meet (also same none))

  has_passed : (b : Bool) (P : PlainPaths) → (b ≡ true → HasType G x (type_of_paths P)) → HasType G x (type_of_paths (if_passed b P))
  has_passed true P f = f refl
  has_passed false P f = has_none

  has_above : (P Q : PlainPaths) → ArePathsBelow P Q → HasType G x (type_of_paths P) → HasType G x (type_of_paths Q)
  has_above P Q low t = by_subsumption t (ArePathsBelow-types low)

  has_type : (P : PlainPaths) (A : PlainType) → ArePathsBelow P (paths A) → HasType G x (type_of_paths P) → HasType G x A
  has_type P A low t = by_subsumption t (paths-below P A low)

  has_once : (P : PlainPaths) → HasType G x (type_of_paths P) → HasType G x (type_of_paths (once P))
  has_once P t = has_above P (once P) (below-once P) t

  has_both : (P Q : PlainPaths) → HasType G x (type_of_paths P) → HasType G x (type_of_paths Q) → HasType G x (type_of_paths (append P Q))
  has_both P Q t u =
      by_subsumption (by_meet t u no_more)
      (same-below (meet (and_type (type_of_paths P) (and_type (type_of_paths Q) no_types))) (append P Q)
      (rw (paths-of_types P, paths-of_types Q) (ap (append P) (append-none Q))))

-- each form has its least type where its parts have theirs
has_alternatives : (G : List PlainType) (d : ℕ) (b : Tree) (at : Place) (f : PlainPaths → PlainPaths) (All : PlainTypes) (As : PlainTypes) →
    ((A : PlainType) → IsMember As A → IsMember All A) → ((A : PlainType) → HasType (A ∷ G) b (type_of_paths (f (paths A)))) →
    HasType G (lam d All b at) (type_of_paths (alternatives_of As f))
has_alternatives G d b at f All no_types inside g = has_none G (lam d All b at)
has_alternatives G d b at f All (and_type A As) inside g =
    has_both G (lam d All b at) (called (paths A) (f (paths A))) (alternatives_of As f)
    (by_subsumption (by_lam (inside A first) (g A))
    (same-below (arrow A (type_of_paths (f (paths A)))) (called (paths A) (f (paths A))) (ap (called (paths A)) (paths-of_types (f (paths A))))))
    (has_alternatives G d b at f All As (λ B among. inside B (later among)) g)

has_rest : (G : List PlainType) (p q : Tree) (at : Place) (r : PlainPath) (Q : PlainPaths) → HasType G p (type_of_path r) →
    HasType G q (type_of_paths Q) →
    HasType G (app p q at) (type_of_paths (rest_of_call Q r))
has_rest G p q at (call D s) Q t u =
    has_passed G (app p q at) (paths_below Q D) (and_path s no_paths)
    (λ e. by_subsumption (by_app t (has_above G q Q D (test-below Q D e) u)) (below_meet (also same none)))
has_rest G p q at (pick i s) Q t u = has_none G (app p q at)
has_rest G p q at (end a) Q t u = has_none G (app p q at)

has_rests : (G : List PlainType) (p q : Tree) (at : Place) (P Q : PlainPaths) → HasType G p (type_of_paths P) → HasType G q (type_of_paths Q) →
    HasType G (app p q at) (type_of_paths (rests_of_call Q P))
has_rests G p q at no_paths Q t u = has_none G (app p q at)
has_rests G p q at (and_path r P) Q t u =
    has_both G (app p q at) (rest_of_call Q r) (rests_of_call Q P) (has_rest G p q at r Q (by_subsumption t (below_member first)) u)
    (has_rests G p q at P Q (has_above G p (and_path r P) P (more-below r P) t) u)

has_field : (G : List PlainType) (p : Tree) (i : ℕ) (at : Place) (r : PlainPath) → HasType G p (type_of_path r) →
    HasType G (sel p i at) (type_of_paths (rest_of_field i r))
has_field G p i at (pick j s) t =
    has_passed G (sel p i at) (eqb i j) (and_path s no_paths)
    (λ e. by_subsumption (by_sel (subst (λ x. HasType G p (field_type x (type_of_path s))) (sym (eqb-true i j e)) t)) (below_meet (also same none)))
has_field G p i at (call D s) t = has_none G (sel p i at)
has_field G p i at (end a) t = has_none G (sel p i at)

has_fields : (G : List PlainType) (p : Tree) (i : ℕ) (at : Place) (P : PlainPaths) → HasType G p (type_of_paths P) →
    HasType G (sel p i at) (type_of_paths (rests_of_field i P))
has_fields G p i at no_paths t = has_none G (sel p i at)
has_fields G p i at (and_path r P) t =
    has_both G (sel p i at) (rest_of_field i r) (rests_of_field i P) (has_field G p i at r (by_subsumption t (below_member first)))
    (has_fields G p i at P (has_above G p (and_path r P) P (more-below r P) t))

has_merge : (G : List PlainType) (p q : Tree) (at : Place) (P Q : PlainPaths) → HasType G p (type_of_paths P) → HasType G q (type_of_paths Q) →
    (o : Option Kind) → kind_of q ≡ o → HasType G (merge p q at) (type_of_paths (merge_of o P Q))
has_merge G p q at P Q t u None e = has_none G (merge p q at)
has_merge G p q at P Q t u (Some k) e =
    has_once G (merge p q at) (append (others k P) Q)
    (has_both G (merge p q at) (others k P) Q
    (by_left e (has_above G p P (others k P) (others-above k P) t)
    (subst (λ X. none_begins k X ≡ true) (sym (paths-of_types (others k P))) (others-clear k P)))
    (by_right e u))

-- a join is above the paths before it and above the least types of the parts
behind-above : (ps : Trees) (G : List PlainPaths) (P : PlainPaths) → ArePathsBelow P (join_behind G P ps)
behind-above no_trees G P = ArePathsBelow-refl P
behind-above (and_tree p ps) G P =
    ArePathsBelow-trans (join_of P (least_type G p)) (join_of-left P (least_type G p)) (behind-above ps G (join_of P (least_type G p)))

has_atom : (p : Tree) (G : List PlainType) (a : Atom) → has (least_type (forms_of G) p) a ≡ true →
    HasType G p (type_of_paths (least_type (forms_of G) p)) → HasType G p (atom a)
has_atom p G a e t = has_type G p (least_type (forms_of G) p) (atom a) (has-below (least_type (forms_of G) p) a e) t

mutual
  pub least-HasType : (p : Tree) (G : List PlainType) → HasType G p (type_of_paths (least_type (forms_of G) p))
  least-HasType (var k at) G =
      has_once G (var k at) (paths_at (forms_of G) k)
      (at-cases G k (λ X. HasType G (var k at) (type_of_paths X)) (λ A e. by_subsumption (by_var e) (same-below A (paths A) refl))
      (has_none G (var k at)))
  least-HasType (lit v at) G = has_one G (lit v at) (datum_atom v) by_lit
  least-HasType (unary op p at) G =
      has_passed G (unary op p at) (has (least_type (forms_of G) p) (operand_atom op)) (one_end (unary_atom op))
      (λ e. has_one G (unary op p at) (unary_atom op) (by_unary (has_atom p G (operand_atom op) e (least-HasType p G))))
  least-HasType (binary op p q at) G =
      has_passed G (binary op p q at) (some_data (has_operands op (least_type (forms_of G) p) (least_type (forms_of G) q))) (one_end (binary_atom op))
      (λ e. has_one G (binary op p q at) (binary_atom op)
      (data-cases (has_operands op (least_type (forms_of G) p) (least_type (forms_of G) q)) e
      (λ D h. let both = both_true (takes op D) (has (least_type (forms_of G) p) (data_atom D) && has (least_type (forms_of G) q) (data_atom D)) h in
      let each = both_true (has (least_type (forms_of G) p) (data_atom D)) (has (least_type (forms_of G) q) (data_atom D)) both.1 in
      by_binary D both.0 (has_atom p G (data_atom D) each.0 (least-HasType p G)) (has_atom q G (data_atom D) each.1 (least-HasType q G)))))
  least-HasType (cond b p q at) G =
      has_passed G (cond b p q at) (has (least_type (forms_of G) b) Truth) (join_of (least_type (forms_of G) p) (least_type (forms_of G) q))
      (λ e. by_cond (has_atom b G Truth e (least-HasType b G))
      (has_above G p (least_type (forms_of G) p) (join_of (least_type (forms_of G) p) (least_type (forms_of G) q))
      (join_of-left (least_type (forms_of G) p) (least_type (forms_of G) q)) (least-HasType p G))
      (has_above G q (least_type (forms_of G) q) (join_of (least_type (forms_of G) p) (least_type (forms_of G) q))
      (join_of-right (least_type (forms_of G) p) (least_type (forms_of G) q)) (least-HasType q G)))
  least-HasType (case e parts at) G =
      has_passed G (case e parts at) (has (least_type (forms_of G) e) Int) (join_of_all (forms_of G) parts)
      (λ h. has_parts parts G e at (has_atom e G Int h (least-HasType e G)))
  least-HasType (lam d As b at) G =
      has_once G (lam d As b at) (alternatives_of As (λ D. least_type (D ∷ forms_of G) b))
      (has_alternatives G d b at (λ D. least_type (D ∷ forms_of G) b) As As (λ A among. among) (λ A. least-HasType b (A ∷ G)))
  least-HasType (app p q at) G =
      has_once G (app p q at) (rests_of_call (least_type (forms_of G) q) (least_type (forms_of G) p))
      (has_rests G p q at (least_type (forms_of G) p) (least_type (forms_of G) q) (least-HasType p G) (least-HasType q G))
  least-HasType (field i p at) G =
      by_subsumption (by_field (least-HasType p G))
      (same-below (field_type i (type_of_paths (least_type (forms_of G) p))) (picked i (least_type (forms_of G) p))
      (ap (picked i) (paths-of_types (least_type (forms_of G) p))))
  least-HasType (sel p i at) G = has_fields G p i at (least_type (forms_of G) p) (least-HasType p G)
  least-HasType (merge p q at) G =
      has_merge G p q at (least_type (forms_of G) p) (least_type (forms_of G) q) (least-HasType p G) (least-HasType q G) (kind_of q) refl
  least-HasType (let_in d p b at) G =
      by_let (least-HasType p G)
      (subst (λ X. HasType (type_of_paths (least_type (forms_of G) p) ∷ G) b (type_of_paths (least_type (X ∷ forms_of G) b)))
      (paths-of_types (least_type (forms_of G) p)) (least-HasType b (type_of_paths (least_type (forms_of G) p) ∷ G)))
  least-HasType (rec d T b at) G =
      has_passed G (rec d T b at) (paths_below (least_type (paths T ∷ forms_of G) b) (paths T)) (once (paths T))
      (λ e. has_once G (rec d T b at) (paths T)
      (by_subsumption (by_rec (has_type (T ∷ G) b (least_type (paths T ∷ forms_of G) b) T
      (test-below (least_type (paths T ∷ forms_of G) b) (paths T) e) (least-HasType b (T ∷ G)))) (same-below T (paths T) refl)))
  least-HasType (skip at) G = has_one G (skip at) Comm by_skip
  least-HasType (seq p q at) G =
      has_passed G (seq p q at) (has (least_type (forms_of G) p) Comm) (command_of (least_type (forms_of G) q))
      (λ e. command-cases (λ X. HasType G (seq p q at) (type_of_paths X)) (least_type (forms_of G) q)
      (λ R is low. has_one G (seq p q at) R
      (by_seq is (has_atom p G Comm e (least-HasType p G)) (has_type G q (least_type (forms_of G) q) (atom R) low (least-HasType q G))))
      (has_none G (seq p q at)))
  least-HasType (assign p q at) G =
      has_passed G (assign p q at) (some_data (has_assignment (least_type (forms_of G) p) (least_type (forms_of G) q))) (one_end Comm)
      (λ e. has_one G (assign p q at) Comm
      (data-cases (has_assignment (least_type (forms_of G) p) (least_type (forms_of G) q)) e
      (λ D h. let each = both_true (has (least_type (forms_of G) p) (acceptor_atom D)) (has (least_type (forms_of G) q) (data_atom D)) h in
      by_assign D (has_atom p G (acceptor_atom D) each.0 (least-HasType p G)) (has_atom q G (data_atom D) each.1 (least-HasType q G)))))
  least-HasType (while_do b c at) G =
      has_passed G (while_do b c at) (has (least_type (forms_of G) b) Truth && has (least_type (forms_of G) c) Comm) (one_end Comm)
      (λ e. let each = both_true (has (least_type (forms_of G) b) Truth) (has (least_type (forms_of G) c) Comm) e in
      has_one G (while_do b c at) Comm (by_while (has_atom b G Truth each.0 (least-HasType b G)) (has_atom c G Comm each.1 (least-HasType c G))))
  least-HasType (forever c at) G =
      has_passed G (forever c at) (has (least_type (forms_of G) c) Comm) (one_end Compl)
      (λ e. has_one G (forever c at) Compl (by_forever (has_atom c G Comm e (least-HasType c G))))
  least-HasType (new d D e b at) G =
      has_passed G (new d D e b at) (has (least_type (forms_of G) e) (data_atom D)) (command_of (least_type (paths (cell_type D) ∷ forms_of G) b))
      (λ f. command-cases (λ X. HasType G (new d D e b at) (type_of_paths X)) (least_type (paths (cell_type D) ∷ forms_of G) b)
      (λ R is low. has_one G (new d D e b at) R
      (by_new is (has_atom e G (data_atom D) f (least-HasType e G))
      (has_type (cell_type D ∷ G) b (least_type (paths (cell_type D) ∷ forms_of G) b) (atom R) low (least-HasType b (cell_type D ∷ G)))))
      (has_none G (new d D e b at)))
  least-HasType (cells d e b at) G =
      has_passed G (cells d e b at) (has (least_type (forms_of G) e) Int) (command_of (least_type (paths sequence_type ∷ forms_of G) b))
      (λ f. command-cases (λ X. HasType G (cells d e b at) (type_of_paths X)) (least_type (paths sequence_type ∷ forms_of G) b)
      (λ R is low. has_one G (cells d e b at) R
      (by_cells is (has_atom e G Int f (least-HasType e G))
      (has_type (sequence_type ∷ G) b (least_type (paths sequence_type ∷ forms_of G) b) (atom R) low (least-HasType b (sequence_type ∷ G)))))
      (has_none G (cells d e b at)))
  least-HasType (escape d b at) G =
      has_passed G (escape d b at) (has (least_type (one_end Compl ∷ forms_of G) b) Comm) (one_end Comm)
      (λ e. has_one G (escape d b at) Comm (by_escape (has_atom b (atom Compl ∷ G) Comm e (least-HasType b (atom Compl ∷ G)))))
  least-HasType (accept d D b at) G =
      has_passed G (accept d D b at) (has (least_type (one_end (data_atom D) ∷ forms_of G) b) Comm) (one_end (acceptor_atom D))
      (λ e. has_one G (accept d D b at) (acceptor_atom D) (by_accept
      (has_atom b (atom (data_atom D) ∷ G) Comm e (least-HasType b (atom (data_atom D) ∷ G)))))
  least-HasType (put kind p at) G =
      has_passed G (put kind p at) (has (least_type (forms_of G) p) (put_atom kind)) (one_end Comm)
      (λ e. has_one G (put kind p at) Comm (by_put (has_atom p G (put_atom kind) e (least-HasType p G))))
  least-HasType (read p at) G =
      has_passed G (read p at) (has (least_type (forms_of G) p) IntAcc) (one_end Comm)
      (λ e. has_one G (read p at) Comm (by_read (has_atom p G IntAcc e (least-HasType p G))))
  least-HasType (mark m at) G = has_none G (mark m at)

  has_parts : (ps : Trees) (G : List PlainType) (e : Tree) (at : Place) → HasType G e (atom Int) →
      HasType G (case e ps at) (type_of_paths (join_of_all (forms_of G) ps))
  has_parts no_trees G e at t = has_none G (case e no_trees at)
  has_parts (and_tree p ps) G e at t =
      by_case t
      (has_above G p (least_type (forms_of G) p) (join_behind (forms_of G) (least_type (forms_of G) p) ps)
      (behind-above ps (forms_of G) (least_type (forms_of G) p)) (least-HasType p G))
      (each_part ps G (least_type (forms_of G) p))

  each_part : (ps : Trees) (G : List PlainType) (P : PlainPaths) → EachHasType G ps (type_of_paths (join_behind (forms_of G) P ps))
  each_part no_trees G P = no_parts
  each_part (and_tree p ps) G P =
      and_part
      (has_above G p (least_type (forms_of G) p) (join_behind (forms_of G) (join_of P (least_type (forms_of G) p)) ps)
      (ArePathsBelow-trans (join_of P (least_type (forms_of G) p)) (join_of-right P (least_type (forms_of G) p))
      (behind-above ps (forms_of G) (join_of P (least_type (forms_of G) p)))) (least-HasType p G))
      (each_part ps G (join_of P (least_type (forms_of G) p)))

-- the law
pub HasType-iff : (G : List PlainType) (p : Tree) (A : PlainType) → HasType G p A ↔ IsSubtype (type_of_paths (least_type (forms_of G) p)) A
HasType-iff G p A = (λ t. paths-below (least_type (forms_of G) p) A (HasType-least t), λ low. by_subsumption (least-HasType p G) low)
