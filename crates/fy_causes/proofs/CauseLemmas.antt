-- The facts that causes tell hold.
use Rattle.std.proofs.Common.{ℕ, ◌+◌, ◌≡◌, ◌⊎◌, Bool, true, false, List, [], ◌∷◌, map, Option, Some, None, inl, inr, refl, sym, ap, ◌∙◌, subst}
use Rattle.std.specs.Prelude.{◌&&◌, ◌||◌, ◌==◌, if◌then◌else◌}
use Rattle.std.specs.List.{list_any}
use Rattle.fy_base.specs.declared.data.Place.{Place}
use Rattle.fy_types.specs.declared.types.Atom.{Atom}
use Rattle.fy_types.specs.declared.types.Atom.TheVariants.{Bool as Truth, Comm}
use Rattle.fy_types.specs.Types.{PlainType}
use Rattle.fy_types.specs.Paths.{PlainPath, PlainPaths, end, call, pick, no_paths, and_path, paths}
use Rattle.fy_types.specs.Once.{is_same, once, without}
use Rattle.fy_types.specs.Bounds.{join_of}
use Rattle.fy_phrase.specs.declared.phrase.DataTy.{DataTy}
use Rattle.fy_phrase.specs.Tree.{Tree, Trees, no_trees, and_tree, var, binary, cond, case, app, sel, rec, assign}
use Rattle.fy_derive.specs.Atoms.{binary_atom}
use Rattle.fy_derive.specs.Clear.{has_none}
use Rattle.fy_derive.specs.Kinds.{of_call, of_field, begins, none_begins}
use Rattle.fy_derive.specs.Subsumption.{some_below, paths_below}
use Rattle.fy_derive.specs.Least.{has, has_assignment, has_operands, if_passed, one_end, paths_at, rests_of_call, rests_of_field, some_data}
use Rattle.fy_causes.specs.Occurrences.{Variable, bound_by, occurs, each_occurs, forms_around, least_in, least_of, parts_of, part_types}
use Rattle.fy_causes.specs.Blamed.{blamed}
use Rattle.fy_causes.specs.Causes.{Missed, Cause, not_command, parts, no_field, heads_of, domains_in, fields_in, domains_of, fields_of, first_missed, missed_and, all_missed, call_cause, declared_cause, data_taken, data_had, assignment_cause, first_apart, operands_of, taken_at, has_some, unless_had, with_index, first_wanting, wants_or, other_cause, cause_of}
use Rattle.fy_causes.specs.Facts.{AreFull, IsFirstWanting, wanting_here, wanting_later, IsFirstMissed, missed_here, missed_later, AreMissed, none_missed, and_missed, IsFirstApart, apart_here, apart_later, IsSo, so_not_command, so_useless, so_wants, so_wants_value, so_differ, so_branches, so_parts, so_no_procedure, so_no_domain, so_no_field, so_declared, so_no_acceptor, so_assigned, IsCauseSo}
use Rattle.fy_causes.proofs.BlameLemmas.{stuck}
use Rattle.fy_causes.proofs.FormLemmas.{first-full, rest-full}
use Rattle.fy_causes.proofs.EmptyLemmas.{none-once, none-left, none-right, none-had, not-passed, then-none, clear-once, clear-head, clear-tail, clear-and}

-- each of the parts, from the i-th on, has one of the atoms that the rule takes there
data AllHad (p : Tree) : ℕ → List PlainPaths → Type 0 where
  none_had : {i : ℕ} → AllHad p i []
  and_had : {i : ℕ} {P : PlainPaths} {Ps : List PlainPaths} →
      ((atoms : List Atom) → taken_at p i ≡ Some atoms → has_some P atoms ≡ true) → AllHad p (i + 1) Ps → AllHad p i (P ∷ Ps)

had-first : {p : Tree} {i : ℕ} {P : PlainPaths} {Ps : List PlainPaths} → AllHad p i (P ∷ Ps) → (atoms : List Atom) → taken_at p i ≡ Some atoms → has_some P atoms ≡ true
had-first (and_had h r) = h

had-rest : {p : Tree} {i : ℕ} {P : PlainPaths} {Ps : List PlainPaths} → AllHad p i (P ∷ Ps) → AllHad p (i + 1) Ps
had-rest (and_had h r) = r

-- what is taken at a part, and not had
not-had : (P : PlainPaths) (o : Option (List Atom)) → unless_had P o ≡ None → (atoms : List Atom) → o ≡ Some atoms → has_some P atoms ≡ true
not-had P None e atoms f = absurd (cc)
not-had P (Some bs) e atoms f = cases (has_some P bs) refl e
  where
    same : {x y : List Atom} → Some x ≡ Some y → x ≡ y
    same g = cc

    cases : (b : Bool) → has_some P bs ≡ b → (if b then None else Some bs) ≡ None → has_some P atoms ≡ true
    cases true g h = subst (λ xs. has_some P xs ≡ true) (same f) g
    cases false g h = absurd (cc)

wanted-here : (P : PlainPaths) (o : Option (List Atom)) (atoms : List Atom) → unless_had P o ≡ Some atoms → (o ≡ Some atoms) × (has_some P atoms ≡ false)
wanted-here P None atoms e = absurd (cc)
wanted-here P (Some bs) atoms e = cases (has_some P bs) refl e
  where
    same : {x y : List Atom} → Some x ≡ Some y → x ≡ y
    same g = cc

    cases : (b : Bool) → has_some P bs ≡ b → (if b then None else Some bs) ≡ Some atoms → (Some bs ≡ Some atoms) × (has_some P atoms ≡ false)
    cases true g h = absurd (cc)
    cases false g h = (h, subst (λ xs. has_some P xs ≡ false) (same h) g)

-- the first that wants, or all have what is taken
abbrev WantsOrHas : Tree → ℕ → List PlainPaths → Option (ℕ × List Atom) → Type 0
WantsOrHas p i Ps None = AllHad p i Ps
WantsOrHas p i Ps (Some x) = IsFirstWanting p i Ps x.0 x.1

wanting-step : (p : Tree) (i : ℕ) (P : PlainPaths) (Ps : List PlainPaths) (o : Option (List Atom)) (r : Option (ℕ × List Atom)) →
    unless_had P (taken_at p i) ≡ o → WantsOrHas p (i + 1) Ps r → WantsOrHas p i (P ∷ Ps) (with_index i o r)
wanting-step p i P Ps None None e h = and_had (not-had P (taken_at p i) e) h
wanting-step p i P Ps None (Some x) e h = wanting_later (not-had P (taken_at p i) e) h
wanting-step p i P Ps (Some atoms) r e h = let w = wanted-here P (taken_at p i) atoms e in wanting_here w.0 w.1

wants-or-has : (p : Tree) (i : ℕ) (Ps : List PlainPaths) → WantsOrHas p i Ps (first_wanting p i Ps)
wants-or-has p i [] = none_had
wants-or-has p i (P ∷ Ps) =
    wanting-step p i P Ps (unless_had P (taken_at p i)) (first_wanting p (i + 1) Ps) refl (wants-or-has p (i + 1) Ps)

-- the first part that has nothing in common with those before it, or none is told
apart-so : (G : List Variable) (p e : Tree) (ps : Trees) (at : Place) (f : List PlainPaths) → f ≡ map least_of (each_occurs G ps) →
    has (least_in G (case e (and_tree p ps) at)) Comm ≡ false → has_none (least_in G p) ≡ false →
    IsSo G (case e (and_tree p ps) at) (first_apart 2 (least_in G p) f)
apart-so G p e ps at f same none full =
    told (first_apart 2 (least_in G p) f) (found 2 (least_in G p) f full)
  where
    Found : ℕ → PlainPaths → List PlainPaths → Cause → Type 0
    Found i J Ps c = (c ≡ not_command) ⊎ ((j : ℕ) × (K : PlainPaths) × IsFirstApart i J Ps j K × (c ≡ parts j K))

    later : (i : ℕ) (J P : PlainPaths) (Ps : List PlainPaths) (c : Cause) → has_none (join_of J P) ≡ false →
        Found (i + 1) (join_of J P) Ps c → Found i J (P ∷ Ps) c
    later i J P Ps c e (inl g) = inl g
    later i J P Ps c e (inr (j, K, h, g)) = inr (j, K, apart_later e h, g)

    step : (i : ℕ) (J P : PlainPaths) (Ps : List PlainPaths) (b : Bool) → has_none (join_of J P) ≡ b → has_none J ≡ false →
        (has_none (join_of J P) ≡ false → Found (i + 1) (join_of J P) Ps (first_apart (i + 1) (join_of J P) Ps)) →
        Found i J (P ∷ Ps) (if b then parts i J else first_apart (i + 1) (join_of J P) Ps)
    step i J P Ps true e g h = inr (i, J, apart_here g e, refl)
    step i J P Ps false e g h = later i J P Ps (first_apart (i + 1) (join_of J P) Ps) e (h e)

    found : (i : ℕ) (J : PlainPaths) (Ps : List PlainPaths) → has_none J ≡ false → Found i J Ps (first_apart i J Ps)
    found i J [] g = inl refl
    found i J (P ∷ Ps) g = step i J P Ps (has_none (join_of J P)) refl g (λ h. found (i + 1) (join_of J P) Ps h)

    told : (c : Cause) → Found 2 (least_in G p) f c → IsSo G (case e (and_tree p ps) at) c
    told c (inl g) = subst (IsSo G (case e (and_tree p ps) at)) (sym g) (so_not_command none)
    told c (inr (j, K, h, g)) =
        subst (IsSo G (case e (and_tree p ps) at)) (sym g) (so_parts (subst (λ Ps. IsFirstApart 2 (least_in G p) Ps j K) same h))

-- no path takes the argument
abbrev NoneTakes : PlainPaths → PlainPaths → Type 0
NoneTakes Q no_paths = Unit {0}
NoneTakes Q (and_path (end a) P) = NoneTakes Q P
NoneTakes Q (and_path (call D p) P) = (paths_below Q D ≡ false) × NoneTakes Q P
NoneTakes Q (and_path (pick i p) P) = NoneTakes Q P

none-takes : (Q P : PlainPaths) → has_none (rests_of_call Q P) ≡ true → NoneTakes Q P
none-takes Q no_paths e = tt
none-takes Q (and_path (end a) P) e = none-takes Q P e
none-takes Q (and_path (call D p) P) e = (
  not-passed (paths_below Q D) (and_path p no_paths) refl (none-left (if_passed (paths_below Q D) (and_path p no_paths)) (rests_of_call Q P) e),
  none-takes Q P (none-right (if_passed (paths_below Q D) (and_path p no_paths)) (rests_of_call Q P) e),
)
none-takes Q (and_path (pick i p) P) e = none-takes Q P e

heads-take : (Q P : PlainPaths) → NoneTakes Q P → NoneTakes Q (heads_of P)
heads-take Q no_paths h = tt
heads-take Q (and_path (end a) P) h = heads-take Q P h
heads-take Q (and_path (call D p) P) h = (h.0, heads-take Q P h.1)
heads-take Q (and_path (pick i p) P) h = heads-take Q P h

without-takes : (Q : PlainPaths) (x : PlainPath) (P : PlainPaths) → NoneTakes Q P → NoneTakes Q (without x P)
without-takes Q x no_paths h = tt
without-takes Q x (and_path (end a) P) h = cases (is_same (end a) x) (without-takes Q x P h)
  where
    cases : (b : Bool) → NoneTakes Q (without x P) → NoneTakes Q (if b then without x P else and_path (end a) (without x P))
    cases true g = g
    cases false g = g
without-takes Q x (and_path (call D p) P) h = cases (is_same (call D p) x) (without-takes Q x P h.1)
  where
    cases : (b : Bool) → NoneTakes Q (without x P) → NoneTakes Q (if b then without x P else and_path (call D p) (without x P))
    cases true g = g
    cases false g = (h.0, g)
without-takes Q x (and_path (pick i p) P) h = cases (is_same (pick i p) x) (without-takes Q x P h)
  where
    cases : (b : Bool) → NoneTakes Q (without x P) → NoneTakes Q (if b then without x P else and_path (pick i p) (without x P))
    cases true g = g
    cases false g = g

once-takes : (Q P : PlainPaths) → NoneTakes Q P → NoneTakes Q (once P)
once-takes Q no_paths h = tt
once-takes Q (and_path (end a) P) h = without-takes Q (end a) (once P) (once-takes Q P h)
once-takes Q (and_path (call D p) P) h = (h.0, without-takes Q (call D p) (once P) (once-takes Q P h.1))
once-takes Q (and_path (pick i p) P) h = without-takes Q (pick i p) (once P) (once-takes Q P h)

-- a domain that isn't above has a first path that is missed
abbrev MissedIn : PlainPaths → PlainPaths → Option PlainPath → Type 0
MissedIn Q D None = paths_below Q D ≡ true
MissedIn Q D (Some x) = IsFirstMissed Q D x

missed-in : (Q D : PlainPaths) → MissedIn Q D (first_missed Q D)
missed-in Q no_paths = refl
missed-in Q (and_path x D) = cases (some_below Q x) refl (first_missed Q D) (missed-in Q D)
  where
    cases : (b : Bool) → some_below Q x ≡ b → (o : Option PlainPath) → MissedIn Q D o → MissedIn Q (and_path x D) (if b then o else Some x)
    cases true e None h = ap (λ c. c && paths_below Q D) e ∙ h
    cases true e (Some y) h = missed_later e h
    cases false e o h = missed_here e

missed-step : (Q D : PlainPaths) (o : Option PlainPath) (Ds : List PlainPaths) (ms : List Missed) → paths_below Q D ≡ false →
    MissedIn Q D o → AreMissed Q Ds ms → AreMissed Q (D ∷ Ds) (missed_and D o ms)
missed-step Q D None Ds ms e h r = absurd (cc)
missed-step Q D (Some x) Ds ms e h r = and_missed h r

all-missed : (Q P : PlainPaths) → NoneTakes Q P → AreMissed Q (domains_in P) (all_missed Q (domains_in P))
all-missed Q no_paths h = none_missed
all-missed Q (and_path (end a) P) h = all-missed Q P h
all-missed Q (and_path (call D p) P) h =
    missed-step Q D (first_missed Q D) (domains_in P) (all_missed Q (domains_in P)) h.0 (missed-in Q D) (all-missed Q P h.1)
all-missed Q (and_path (pick i p) P) h = all-missed Q P h

-- without domains there is no call
no-domain-without : (x : PlainPath) (P : PlainPaths) → begins of_call x ≡ false → domains_in (without x P) ≡ [] → domains_in P ≡ []
no-domain-without x no_paths e f = refl
no-domain-without (end a) (and_path (end b) P) e f = cases (is_same (end b) (end a)) f (λ g. no-domain-without (end a) P e g)
  where
    cases : (c : Bool) → domains_in (if c then without (end a) P else and_path (end b) (without (end a) P)) ≡ [] →
        (domains_in (without (end a) P) ≡ [] → domains_in P ≡ []) → domains_in P ≡ []
    cases true g h = h g
    cases false g h = h g
no-domain-without (end a) (and_path (call D p) P) e f = absurd (cc)
no-domain-without (end a) (and_path (pick i p) P) e f = no-domain-without (end a) P e f
no-domain-without (call E q) P e f = absurd (cc)
no-domain-without (pick j q) (and_path (end b) P) e f = no-domain-without (pick j q) P e f
no-domain-without (pick j q) (and_path (call D p) P) e f = absurd (cc)
no-domain-without (pick j q) (and_path (pick i p) P) e f =
    cases (is_same (pick i p) (pick j q)) f (λ g. no-domain-without (pick j q) P e g)
  where
    cases : (c : Bool) → domains_in (if c then without (pick j q) P else and_path (pick i p) (without (pick j q) P)) ≡ [] →
        (domains_in (without (pick j q) P) ≡ [] → domains_in P ≡ []) → domains_in P ≡ []
    cases true g h = h g
    cases false g h = h g

no-domain-once : (P : PlainPaths) → domains_in (once P) ≡ [] → domains_in P ≡ []
no-domain-once no_paths e = refl
no-domain-once (and_path (end a) P) e = no-domain-once P (no-domain-without (end a) (once P) refl e)
no-domain-once (and_path (call D p) P) e = absurd (cc)
no-domain-once (and_path (pick i p) P) e = no-domain-once P (no-domain-without (pick i p) (once P) refl e)

no-call : (P : PlainPaths) → domains_in (heads_of P) ≡ [] → none_begins of_call P ≡ true
no-call no_paths e = refl
no-call (and_path (end a) P) e = no-call P e
no-call (and_path (call D p) P) e = absurd (cc)
no-call (and_path (pick i p) P) e = no-call P e

call-so : (G : List Variable) (p q : Tree) (at : Place) (Ds : List PlainPaths) → Ds ≡ domains_of (least_in G p) →
    NoneTakes (least_in G q) (least_in G p) → IsSo G (app p q at) (call_cause Ds (least_in G q))
call-so G p q at [] same h = so_no_procedure (no-call (least_in G p) (no-domain-once (heads_of (least_in G p)) (sym same)))
call-so G p q at (D ∷ Ds) same h =
    let P = least_in G p in
    let Q = least_in G q in
    so_no_domain (subst (λ Es. AreMissed Q (domains_of P) (all_missed Q Es)) (sym same)
    (all-missed Q (once (heads_of P)) (once-takes Q (heads_of P) (heads-take Q P h))))

-- no path begins with the field
no-rest : (i : ℕ) (P : PlainPaths) → has_none (rests_of_field i P) ≡ true → none_begins (of_field i) P ≡ true
no-rest i no_paths e = refl
no-rest i (and_path (end a) P) e = no-rest i P e
no-rest i (and_path (call D p) P) e = no-rest i P e
no-rest i (and_path (pick j p) P) e =
    clear-and (of_field i) (pick j p) P
    (not-passed (i == j) (and_path p no_paths) refl (none-left (if_passed (i == j) (and_path p no_paths)) (rests_of_field i P) e))
    (no-rest i P (none-right (if_passed (i == j) (and_path p no_paths)) (rests_of_field i P) e))

heads-clear : (i : ℕ) (P : PlainPaths) → none_begins (of_field i) P ≡ true → none_begins (of_field i) (heads_of P) ≡ true
heads-clear i no_paths e = refl
heads-clear i (and_path (end a) P) e = heads-clear i P e
heads-clear i (and_path (call D p) P) e = heads-clear i P e
heads-clear i (and_path (pick j p) P) e =
    clear-and (of_field i) (pick j (end Comm)) (heads_of P) (clear-head (of_field i) (pick j p) P e)
    (heads-clear i P (clear-tail (of_field i) (pick j p) P e))

none-named : (i : ℕ) (P : PlainPaths) → none_begins (of_field i) P ≡ true → list_any (λ j. i == j) (fields_in P) ≡ false
none-named i no_paths e = refl
none-named i (and_path (end a) P) e = none-named i P e
none-named i (and_path (call D p) P) e = none-named i P e
none-named i (and_path (pick j p) P) e =
    ap (λ b. b || list_any (λ k. i == k) (fields_in P)) (clear-head (of_field i) (pick j p) P e)
    ∙ none-named i P (clear-tail (of_field i) (pick j p) P e)

field-so : (G : List Variable) (p : Tree) (i : ℕ) (at : Place) → has_none (rests_of_field i (least_in G p)) ≡ true →
    IsSo G (sel p i at) (no_field (fields_of (least_in G p)))
field-so G p i at e =
    let P = least_in G p in
    let clear = no-rest i P e in
    so_no_field refl (none-named i (once (heads_of P)) (clear-once (of_field i) (heads_of P) (heads-clear i P clear))) clear

-- a definition has a first path that it misses, or none is told
declared-so : (G : List Variable) (d : ℕ) (T : PlainType) (b : Tree) (at : Place) (o : Option PlainPath) → has (least_in G (rec d T b at)) Comm ≡ false →
    MissedIn (least_in (bound_by (rec d T b at) (paths T) ∷ G) b) (paths T) o → IsSo G (rec d T b at) (declared_cause o)
declared-so G d T b at None none h = so_not_command none
declared-so G d T b at (Some x) none h = so_declared h

-- an assignment
assign-so : (G : List Variable) (p q : Tree) (at : Place) (ds es : List DataTy) → ds ≡ data_taken (least_in G p) → es ≡ data_had (least_in G q) →
    some_data (has_assignment (least_in G p) (least_in G q)) ≡ false → IsSo G (assign p q at) (assignment_cause ds es)
assign-so G p q at [] es e f none = so_no_acceptor (sym e)
assign-so G p q at (D ∷ ds) [] e f none = so_wants_value (λ g. apart (e ∙ g)) (sym f)
  where
    apart : D ∷ ds ≡ [] → ⊥
    apart g = cc
assign-so G p q at (D ∷ ds) (E ∷ es) e f none = so_assigned e f none

-- one atom that is had
one-had : (b : Bool) → b || false ≡ true → b ≡ true
one-had true e = refl
one-had false e = absurd (cc)

-- the other causes
other-so : (G : List Variable) (p : Tree) → AreFull (parts_of G p) → has (least_in G p) Comm ≡ false → has_none (least_in G p) ≡ true →
    AllHad p 0 (part_types G p) → IsSo G p (other_cause p (part_types G p))
other-so G (var k at) full none e h = so_useless (sym (none-once (paths_at (forms_around G) k)) ∙ e)
other-so G (binary op p q at) full none e h =
    so_differ (had-first h (operands_of op) refl) (had-first (had-rest h) (operands_of op) refl)
    (not-passed (some_data (has_operands op (least_in G p) (least_in G q))) (one_end (binary_atom op)) refl e)
other-so G (cond b p q at) full none e h =
    so_branches (then-none (has (least_in G b) Truth) (join_of (least_in G p) (least_in G q))
    (one-had (has (least_in G b) Truth) (had-first h (Truth ∷ []) refl)) e)
other-so G (case e no_trees at) full none f h = so_not_command none
other-so G (case e (and_tree p ps) at) full none f h =
    apart-so G p e ps at (map least_of (each_occurs G ps)) refl none (first-full (rest-full full))
other-so G (app p q at) full none e h =
    call-so G p q at (domains_of (least_in G p)) refl
    (none-takes (least_in G q) (least_in G p) (sym (none-once (rests_of_call (least_in G q) (least_in G p))) ∙ e))
other-so G (sel p i at) full none e h = field-so G p i at e
other-so G (rec d T b at) full none e h =
    declared-so G d T b at (first_missed (least_in (bound_by (rec d T b at) (paths T) ∷ G) b) (paths T)) none
    (missed-in (least_in (bound_by (rec d T b at) (paths T) ∷ G) b) (paths T))
other-so G (assign p q at) full none e h =
    assign-so G p q at (data_taken (least_in G p)) (data_had (least_in G q)) refl refl
    (not-passed (some_data (has_assignment (least_in G p) (least_in G q))) (one_end Comm) refl e)
other-so G p full none e h = so_not_command none

wants-so : (G : List Variable) (p : Tree) → AreFull (parts_of G p) → has (least_in G p) Comm ≡ false → has_none (least_in G p) ≡ true →
    (o : Option (ℕ × List Atom)) → WantsOrHas p 0 (part_types G p) o → IsSo G p (wants_or o (other_cause p (part_types G p)))
wants-so G p full none e None h = other-so G p full none e h
wants-so G p full none e (Some x) h = so_wants h

pub cause-so : (G : List Variable) (p : Tree) → AreFull (parts_of G p) → has (least_in G p) Comm ≡ false → IsSo G p (cause_of G p)
cause-so G p full none = cases (has_none (least_in G p)) refl
  where
    cases : (b : Bool) → has_none (least_in G p) ≡ b →
        IsSo G p (if b then wants_or (first_wanting p 0 (part_types G p)) (other_cause p (part_types G p)) else not_command)
    cases true e = wants-so G p full none e (first_wanting p 0 (part_types G p)) (wants-or-has p 0 (part_types G p))
    cases false e = so_not_command none

pub causes-so : (G : List Variable) (p : Tree) → has (least_in G p) Comm ≡ false → IsCauseSo (blamed G p)
causes-so G p none = let b = blamed G p in cause-so b.around b.phrase (stuck G p).full (none-in (stuck G p).only_ns)
  where
    none-in : (blamed G p ≡ occurs G p) ⊎ (has_none (least_of (blamed G p)) ≡ true) → has (least_of (blamed G p)) Comm ≡ false
    none-in (inl e) = ap (λ o. has (least_of o) Comm) e ∙ none
    none-in (inr e) = none-had (least_of (blamed G p)) Comm e
