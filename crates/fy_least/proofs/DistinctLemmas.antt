-- Least types have each path once, so that a list of calls of one has no repeats to be left out.
use Rattle.std.proofs.Common.{ℕ, ◌+◌, ◌≤◌, ◌≡◌, Bool, true, false, ◌&&◌, ◌||◌, List, ◌∷◌, Option, Some, None, eqb, eqb-true, eq-eqb, refl, sym, ap, ◌∙◌, subst, arith, if◌then◌else◌}
use Rattle.std.proofs.lemmas.Bool.{or_left, or_right}
use Rattle.fy_types.specs.declared.types.Atom.{Atom}
use Rattle.fy_types.specs.declared.types.Atom.TheVariants.{Int, Bool as Truth, Comm, Compl, IntAcc}
use Rattle.fy_types.specs.Paths.{PlainPath, PlainPaths, end, call, pick, no_paths, and_path, append, called, picked, paths}
use Rattle.fy_types.specs.Once.{is_same, are_same, contains, without, once}
use Rattle.fy_types.specs.Bounds.{commons, join_of}
use Rattle.fy_types.specs.Limits.{nodes, all_nodes}
use Rattle.fy_types.proofs.OnceLemmas.{is_same-sound, is_same-refl}
use Rattle.fy_phrase.specs.Tree.{Tree, Trees, no_trees, and_tree, var, lit, unary, binary, cond as conditional, case, lam, app, field, sel, merge, let_in, rec, skip, seq, assign, while_do, forever, new, cells, escape, accept, put, read, mark}
use Rattle.fy_derive.specs.Atoms.{data_atom, acceptor_atom, cell_type, sequence_type, datum_atom, operand_atom, unary_atom, binary_atom, put_atom}
use Rattle.fy_derive.specs.Kinds.{Kind, begins, kind_of}
use Rattle.fy_derive.specs.Subsumption.{paths_below}
use Rattle.fy_derive.specs.Least.{paths_at, if_passed, has, some_data, has_operands, has_assignment, command_of, one_end, alternatives_of, rests_of_call, rests_of_field, others, merge_of, least_type, join_of_all, join_behind}

-- each path of the list stands in it once
pub data IsDistinct : PlainPaths → Type 0 where
  none_there : IsDistinct no_paths
  and_other : {p : PlainPath} {P : PlainPaths} → contains P p ≡ false → IsDistinct P → IsDistinct (and_path p P)

pub distinct-end : (a : Atom) → IsDistinct (one_end a)
distinct-end a = and_other refl none_there

pub distinct-passed : (b : Bool) {P : PlainPaths} → IsDistinct P → IsDistinct (if_passed b P)
distinct-passed true h = h
distinct-passed false h = none_there

pub distinct-command : (P : PlainPaths) → IsDistinct (command_of P)
distinct-command P = cases (has P Compl)
  where
    cases : (b : Bool) → IsDistinct (if b then one_end Compl else if_passed (has P Comm) (one_end Comm))
    cases true = distinct-end Compl
    cases false = distinct-passed (has P Comm) (distinct-end Comm)

-- a list without a path
left-out : (p : PlainPath) (Q : PlainPaths) → contains (without p Q) p ≡ false
left-out p no_paths = refl
left-out p (and_path q Q) = cases (is_same q p) refl (left-out p Q)
  where
    cases : (b : Bool) → is_same q p ≡ b → contains (without p Q) p ≡ false → contains (if b then without p Q else and_path q (without p Q)) p ≡ false
    cases true e h = h
    cases false e h = ap (λ c. c || contains (without p Q) p) e ∙ h

still-out : (p q : PlainPath) (Q : PlainPaths) → contains Q q ≡ false → contains (without p Q) q ≡ false
still-out p q no_paths e = refl
still-out p q (and_path r Q) e = cases (is_same r p) (is_same r q) refl e (λ f. still-out p q Q f)
  where
    cases : (b c : Bool) → is_same r q ≡ c → c || contains Q q ≡ false → (contains Q q ≡ false → contains (without p Q) q ≡ false) →
        contains (if b then without p Q else and_path r (without p Q)) q ≡ false
    cases b true f h g = absurd (cc)
    cases true false f h g = g h
    cases false false f h g = ap (λ c. c || contains (without p Q) q) f ∙ g h

distinct-without : (p : PlainPath) {Q : PlainPaths} → IsDistinct Q → IsDistinct (without p Q)
distinct-without p none_there = none_there
distinct-without p (and_other {p = q} {P = Q} e h) = cases (is_same q p) (distinct-without p h)
  where
    cases : (b : Bool) → IsDistinct (without p Q) → IsDistinct (if b then without p Q else and_path q (without p Q))
    cases true g = g
    cases false g = and_other (still-out p q Q e) g

pub distinct-once : (P : PlainPaths) → IsDistinct (once P)
distinct-once no_paths = none_there
distinct-once (and_path p P) = and_other (left-out p (once P)) (distinct-without p (distinct-once P))

not-there : (p : PlainPath) (Q : PlainPaths) → contains Q p ≡ false → without p Q ≡ Q
not-there p no_paths e = refl
not-there p (and_path q Q) e = cases (is_same q p) refl e (λ f. not-there p Q f)
  where
    cases : (b : Bool) → is_same q p ≡ b → b || contains Q p ≡ false → (contains Q p ≡ false → without p Q ≡ Q) →
        (if b then without p Q else and_path q (without p Q)) ≡ and_path q Q
    cases true f h g = absurd (cc)
    cases false f h g = ap (and_path q) (g h)

-- a list without repeats is its own list of paths that stand once
pub once-distinct : {P : PlainPaths} → IsDistinct P → once P ≡ P
once-distinct none_there = refl
once-distinct (and_other {p = p} {P = P} e h) =
    ap (λ Q. and_path p (without p Q)) (once-distinct h) ∙ ap (and_path p) (not-there p P e)

-- demands in front
no-more : (a b : Bool) → ((a && false) || b) ≡ b
no-more true b = refl
no-more false b = refl

out-called : (D : PlainPaths) (p : PlainPath) (P : PlainPaths) → contains P p ≡ false → contains (called D P) (call D p) ≡ false
out-called D p no_paths e = refl
out-called D p (and_path q P) e = cases (is_same q p) refl e (λ f. out-called D p P f)
  where
    cases : (b : Bool) → is_same q p ≡ b → b || contains P p ≡ false → (contains P p ≡ false → contains (called D P) (call D p) ≡ false) →
        (are_same D D && is_same q p) || contains (called D P) (call D p) ≡ false
    cases true f h g = absurd (cc)
    cases false f h g =
        ap (λ b. (are_same D D && b) || contains (called D P) (call D p)) f
        ∙ (no-more (are_same D D) (contains (called D P) (call D p)) ∙ g h)

pub distinct-called : (D : PlainPaths) {P : PlainPaths} → IsDistinct P → IsDistinct (called D P)
distinct-called D none_there = none_there
distinct-called D (and_other {p = p} {P = P} e h) = and_other (out-called D p P e) (distinct-called D h)

-- a list without repeats whose paths are all in another has no more nodes, and nests no more
fewer : (p : PlainPath) (Q : PlainPaths) → all_nodes (without p Q) ≤ all_nodes Q
fewer p no_paths = omega arith
fewer p (and_path q Q) = cases (is_same q p) (fewer p Q)
  where
    cases : (b : Bool) → all_nodes (without p Q) ≤ all_nodes Q →
        all_nodes (if b then without p Q else and_path q (without p Q)) ≤ nodes q + all_nodes Q
    cases true h = omega arith
    cases false h = omega arith

removed : (p : PlainPath) (Q : PlainPaths) → contains Q p ≡ true → nodes p + all_nodes (without p Q) ≤ all_nodes Q
removed p no_paths e = absurd (cc)
removed p (and_path q Q) e = cases (is_same q p) refl e (λ f. removed p Q f)
  where
    cases : (b : Bool) → is_same q p ≡ b → b || contains Q p ≡ true → (contains Q p ≡ true → nodes p + all_nodes (without p Q) ≤ all_nodes Q) →
        nodes p + all_nodes (if b then without p Q else and_path q (without p Q)) ≤ nodes q + all_nodes Q
    cases true f h g = let same = ap nodes (is_same-sound q p f) in omega (arith, fewer p Q)
    cases false f h g = omega (arith, g h)

pub kept-in : (p q : PlainPath) (Q : PlainPaths) → is_same p q ≡ false → contains Q q ≡ true → contains (without p Q) q ≡ true
kept-in p q no_paths apart e = absurd (cc)
kept-in p q (and_path r Q) apart e = cases (is_same r p) refl (is_same r q) refl e (λ f. kept-in p q Q apart f)
  where
    cases : (b : Bool) → is_same r p ≡ b → (c : Bool) → is_same r q ≡ c → c || contains Q q ≡ true →
        (contains Q q ≡ true → contains (without p Q) q ≡ true) → contains (if b then without p Q else and_path r (without p Q)) q ≡ true
    cases true f true g h i =
        let clash : is_same p q ≡ true = subst (λ x. is_same x q ≡ true) (is_same-sound r p f) g in absurd (cc)
    cases true f false g h i = i h
    cases false f true g h i = or_left _ _ g
    cases false f false g h i = or_right _ _ (i h)

-- all paths of the list are in the other
pub data AreIn (Q : PlainPaths) : PlainPaths → Type 0 where
  none_in : AreIn Q no_paths
  and_in : {p : PlainPath} {P : PlainPaths} → contains Q p ≡ true → AreIn Q P → AreIn Q (and_path p P)

in-without : (p : PlainPath) {Q P : PlainPaths} → contains P p ≡ false → AreIn Q P → AreIn (without p Q) P
in-without p e none_in = none_in
in-without p {Q = Q} e (and_in {p = q} {P = P} h r) = cases (is_same q p) refl e (λ f. in-without p f r)
  where
    same : (b : Bool) → is_same p q ≡ b → is_same q p ≡ false → b ≡ false
    same true g f = let x : is_same q p ≡ true = subst (λ y. is_same y p ≡ true) (is_same-sound p q g) (is_same-refl p) in cc
    same false g f = refl

    turned : is_same q p ≡ false → is_same p q ≡ false
    turned f = same (is_same p q) refl f

    cases : (b : Bool) → is_same q p ≡ b → b || contains P p ≡ false → (contains P p ≡ false → AreIn (without p Q) P) →
        AreIn (without p Q) (and_path q P)
    cases true f h' g = absurd (cc)
    cases false f h' g = and_in (kept-in p q Q (turned f) h) (g h')

first-in : {Q : PlainPaths} {p : PlainPath} {P : PlainPaths} → AreIn Q (and_path p P) → (contains Q p ≡ true) × AreIn Q P
first-in (and_in i r) = (i, r)

pub in-nodes : {P : PlainPaths} → IsDistinct P → (Q : PlainPaths) → AreIn Q P → all_nodes P ≤ all_nodes Q
in-nodes none_there Q i = omega arith
in-nodes (and_other {p = p} e h) Q i =
    let both = first-in i in omega (arith, removed p Q both.0, in-nodes h (without p Q) (in-without p e both.1))

-- fields in front, and behind them
out-picked : (i : ℕ) (p : PlainPath) (P : PlainPaths) → contains P p ≡ false → contains (picked i P) (pick i p) ≡ false
out-picked i p no_paths e = refl
out-picked i p (and_path q P) e = cases (is_same q p) refl e (λ f. out-picked i p P f)
  where
    cases : (b : Bool) → is_same q p ≡ b → b || contains P p ≡ false → (contains P p ≡ false → contains (picked i P) (pick i p) ≡ false) →
        (eqb i i && is_same q p) || contains (picked i P) (pick i p) ≡ false
    cases true f h g = absurd (cc)
    cases false f h g =
        ap (λ b. (eqb i i && b) || contains (picked i P) (pick i p)) f ∙ (no-more (eqb i i) (contains (picked i P) (pick i p)) ∙ g h)

distinct-picked : (i : ℕ) {P : PlainPaths} → IsDistinct P → IsDistinct (picked i P)
distinct-picked i none_there = none_there
distinct-picked i (and_other {p = p} {P = P} e h) = and_other (out-picked i p P e) (distinct-picked i h)

rests-out : (i : ℕ) (p : PlainPath) (P : PlainPaths) → contains P (pick i p) ≡ false → contains (rests_of_field i P) p ≡ false
rests-out i p no_paths e = refl
rests-out i p (and_path (end a) P) e = rests-out i p P e
rests-out i p (and_path (call D q) P) e = rests-out i p P e
rests-out i p (and_path (pick j q) P) e = cases (eqb i j) refl (is_same q p) refl (λ f. rests-out i p P f)
  where
    left-false : (a b : Bool) → a || b ≡ false → b ≡ false
    left-false true b x = absurd (cc)
    left-false false b x = x

    cases : (b : Bool) → eqb i j ≡ b → (c : Bool) → is_same q p ≡ c → (contains P (pick i p) ≡ false → contains (rests_of_field i P) p ≡ false) →
        contains (append (if_passed b (and_path q no_paths)) (rests_of_field i P)) p ≡ false
    cases false f c g h = h (left-false (eqb j i && is_same q p) (contains P (pick i p)) e)
    cases true f true g h =
        let same : eqb j i ≡ true = eq-eqb j i (sym (eqb-true i j f)) in
        let clash : true || contains P (pick i p) ≡ false =
        sym (ap (λ b. (b && is_same q p) || contains P (pick i p)) same ∙ ap (λ b. b || contains P (pick i p)) g) ∙ e in
        absurd (cc)
    cases true f false g h =
        ap (λ b. b || contains (rests_of_field i P) p) g ∙ h (left-false (eqb j i && is_same q p) (contains P (pick i p)) e)

distinct-field : (i : ℕ) {P : PlainPaths} → IsDistinct P → IsDistinct (rests_of_field i P)
distinct-field i none_there = none_there
distinct-field i (and_other {p = end a} e h) = distinct-field i h
distinct-field i (and_other {p = call D p} e h) = distinct-field i h
distinct-field i (and_other {p = pick j p} {P = P} e h) = cases (eqb i j) refl (distinct-field i h)
  where
    cases : (b : Bool) → eqb i j ≡ b → IsDistinct (rests_of_field i P) → IsDistinct (append (if_passed b (and_path p no_paths)) (rests_of_field i P))
    cases true f g = and_other (rests-out i p P (subst (λ k. contains P (pick k p) ≡ false) (sym (eqb-true i j f)) e)) g
    cases false f g = g

still-other : (k : Kind) (p : PlainPath) (P : PlainPaths) → contains P p ≡ false → contains (others k P) p ≡ false
still-other k p no_paths e = refl
still-other k p (and_path q P) e = cases (begins k q) (is_same q p) refl (λ f. still-other k p P f)
  where
    right-false : (a b : Bool) → a || b ≡ false → b ≡ false
    right-false true b x = absurd (cc)
    right-false false b x = x

    cases : (b c : Bool) → is_same q p ≡ c → (contains P p ≡ false → contains (others k P) p ≡ false) →
        contains (if b then others k P else and_path q (others k P)) p ≡ false
    cases true c g h = h (right-false (is_same q p) (contains P p) e)
    cases false true g h = let clash = sym (ap (λ b. b || contains P p) g) ∙ e in absurd (cc)
    cases false false g h = ap (λ b. b || contains (others k P) p) g ∙ h (right-false (is_same q p) (contains P p) e)

pub distinct-others : (k : Kind) {P : PlainPaths} → IsDistinct P → IsDistinct (others k P)
distinct-others k none_there = none_there
distinct-others k (and_other {p = p} {P = P} e h) = cases (begins k p) (distinct-others k h)
  where
    cases : (b : Bool) → IsDistinct (others k P) → IsDistinct (if b then others k P else and_path p (others k P))
    cases true g = g
    cases false g = and_other (still-other k p P e) g

distinct-merge : (o : Option Kind) (P Q : PlainPaths) → IsDistinct (merge_of o P Q)
distinct-merge None P Q = none_there
distinct-merge (Some k) P Q = distinct-once (append (others k P) Q)

mutual
  pub distinct-least : (p : Tree) (G : List PlainPaths) → IsDistinct (least_type G p)
  distinct-least (var k at) G = distinct-once (paths_at G k)
  distinct-least (lit v at) G = distinct-end (datum_atom v)
  distinct-least (unary op p at) G = distinct-passed (has (least_type G p) (operand_atom op)) (distinct-end (unary_atom op))
  distinct-least (binary op p q at) G = distinct-passed (some_data (has_operands op (least_type G p) (least_type G q)))
      (distinct-end (binary_atom op))
  distinct-least (conditional b p q at) G = distinct-passed (has (least_type G b) Truth) (distinct-once (commons (least_type G p) (least_type G q)))
  distinct-least (case e parts at) G = distinct-passed (has (least_type G e) Int) (distinct-all parts G)
  distinct-least (lam d As b at) G = distinct-once (alternatives_of As (λ D. least_type (D ∷ G) b))
  distinct-least (app p q at) G = distinct-once (rests_of_call (least_type G q) (least_type G p))
  distinct-least (field i p at) G = distinct-picked i (distinct-least p G)
  distinct-least (sel p i at) G = distinct-field i (distinct-least p G)
  distinct-least (merge p q at) G = distinct-merge (kind_of q) (least_type G p) (least_type G q)
  distinct-least (let_in d p b at) G = distinct-least b (least_type G p ∷ G)
  distinct-least (rec d T b at) G = distinct-passed (paths_below (least_type (paths T ∷ G) b) (paths T)) (distinct-once (paths T))
  distinct-least (skip at) G = distinct-end Comm
  distinct-least (seq p q at) G = distinct-passed (has (least_type G p) Comm) (distinct-command (least_type G q))
  distinct-least (assign p q at) G = distinct-passed (some_data (has_assignment (least_type G p) (least_type G q))) (distinct-end Comm)
  distinct-least (while_do b c at) G = distinct-passed (has (least_type G b) Truth && has (least_type G c) Comm) (distinct-end Comm)
  distinct-least (forever c at) G = distinct-passed (has (least_type G c) Comm) (distinct-end Compl)
  distinct-least (new d D e b at) G =
      distinct-passed (has (least_type G e) (data_atom D)) (distinct-command (least_type (paths (cell_type D) ∷ G) b))
  distinct-least (cells d e b at) G =
      distinct-passed (has (least_type G e) Int) (distinct-command (least_type (paths sequence_type ∷ G) b))
  distinct-least (escape d b at) G = distinct-passed (has (least_type (one_end Compl ∷ G) b) Comm) (distinct-end Comm)
  distinct-least (accept d D b at) G = distinct-passed (has (least_type (one_end (data_atom D) ∷ G) b) Comm) (distinct-end (acceptor_atom D))
  distinct-least (put kind p at) G = distinct-passed (has (least_type G p) (put_atom kind)) (distinct-end Comm)
  distinct-least (read p at) G = distinct-passed (has (least_type G p) IntAcc) (distinct-end Comm)
  distinct-least (mark m at) G = none_there

  distinct-all : (ps : Trees) (G : List PlainPaths) → IsDistinct (join_of_all G ps)
  distinct-all no_trees G = none_there
  distinct-all (and_tree p ps) G = distinct-behind ps G (least_type G p) (distinct-least p G)

  distinct-behind : (ps : Trees) (G : List PlainPaths) (P : PlainPaths) → IsDistinct P → IsDistinct (join_behind G P ps)
  distinct-behind no_trees G P h = h
  distinct-behind (and_tree p ps) G P h = distinct-behind ps G (join_of P (least_type G p)) (distinct-once (commons P (least_type G p)))
