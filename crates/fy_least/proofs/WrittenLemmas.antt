-- Path forms of written types, each path once.
use Rattle.std.specs.declared.rc.Rc.{Rc}
use Rattle.std.proofs.Common.{Global, ℕ, ◌+◌, ◌<◌, ◌≤◌, ◌≡◌, Bool, true, false, ◌&&◌, List, length, map, take, drop, get_or, eq-eqb, inl, inr, refl, sym, ap, ◌∙◌, subst, arith, if◌then◌else◌}
use Rattle.std.proofs.lemmas.List.{take-append-drop, map-append}
use Rattle.fy_types.specs.declared.types.Ty as tree
use Rattle.fy_types.specs.declared.types.Ty.{Ty}
use Rattle.fy_types.specs.Paths.{PlainPath, PlainPaths, call, pick, no_paths, and_path, append, called, picked, paths, all_paths}
use Rattle.fy_types.specs.Reading.{plain_type, types_from}
use Rattle.fy_types.specs.Once.{is_same, without, once}
use Rattle.fy_types.specs.Bounds.{meet_of}
use Rattle.fy_types.specs.Limits.{all_nodes, all_nesting, IsTooLarge}
use Rattle.fy_types.proofs.Making.{all_paths-append, first_paths, first_paths-more}
use Rattle.fy_types.proofs.TypeForms.{reads_arrow, reads_field}
use Rattle.fy_memo.proofs.EachLemmas.{same-itself}
use Rattle.fy_least.proofs.DistinctLemmas.{distinct-once, once-distinct}
use Rattle.fy_least.proofs.CallLemmas.{meet-once, large-part, large-front}

-- a call or a field in front of each path
without-called : (D : PlainPaths) (p : PlainPath) (Q : PlainPaths) → without (call D p) (called D Q) ≡ called D (without p Q)
without-called D p no_paths = refl
without-called D p (and_path q Q) =
    ap (λ b. if b && is_same q p then without (call D p) (called D Q) else and_path (call D q) (without (call D p) (called D Q))) (same-itself D)
    ∙ (ap (λ X. if is_same q p then X else and_path (call D q) X) (without-called D p Q) ∙ cases (is_same q p))
  where
    cases : (b : Bool) → (if b then called D (without p Q) else and_path (call D q) (called D (without p Q)))
        ≡ called D (if b then without p Q else and_path q (without p Q))
    cases true = refl
    cases false = refl

pub once-called : (D P : PlainPaths) → once (called D P) ≡ called D (once P)
once-called D no_paths = refl
once-called D (and_path p P) =
    ap (λ X. and_path (call D p) (without (call D p) X)) (once-called D P) ∙ ap (and_path (call D p)) (without-called D p (once P))

without-picked : (i : ℕ) (p : PlainPath) (Q : PlainPaths) → without (pick i p) (picked i Q) ≡ picked i (without p Q)
without-picked i p no_paths = refl
without-picked i p (and_path q Q) =
    ap (λ b. if b && is_same q p then without (pick i p) (picked i Q) else and_path (pick i q) (without (pick i p) (picked i Q))) (eq-eqb i i refl)
    ∙ (ap (λ X. if is_same q p then X else and_path (pick i q) X) (without-picked i p Q) ∙ cases (is_same q p))
  where
    cases : (b : Bool) → (if b then picked i (without p Q) else and_path (pick i q) (picked i (without p Q)))
        ≡ picked i (if b then without p Q else and_path q (without p Q))
    cases true = refl
    cases false = refl

pub once-picked : (i : ℕ) (P : PlainPaths) → once (picked i P) ≡ picked i (once P)
once-picked i no_paths = refl
once-picked i (and_path p P) =
    ap (λ X. and_path (pick i p) (without (pick i p) X)) (once-picked i P) ∙ ap (and_path (pick i p)) (without-picked i p (once P))

-- what passes a limit does so with a demand in front
called-nodes : (D P : PlainPaths) → all_nodes P ≤ all_nodes (called D P)
called-nodes D no_paths = omega arith
called-nodes D (and_path p P) = omega (arith, called-nodes D P)

called-nesting : (D P : PlainPaths) → all_nesting P ≤ all_nesting (called D P)
called-nesting D no_paths = omega arith
called-nesting D (and_path p P) = omega (arith, called-nesting D P)

pub large-called : (D P : PlainPaths) → IsTooLarge (once P) → IsTooLarge (once (called D P))
large-called D P large = subst IsTooLarge (sym (once-called D P)) (by_limit large)
  where
    by_limit : IsTooLarge (once P) → IsTooLarge (called D (once P))
    by_limit (inl many) = inl (omega (arith, called-nodes D (once P)))
    by_limit (inr deep) = inr (omega (arith, called-nesting D (once P)))

picked-nodes : (i : ℕ) (P : PlainPaths) → all_nodes P ≤ all_nodes (picked i P)
picked-nodes i no_paths = omega arith
picked-nodes i (and_path p P) = omega (arith, picked-nodes i P)

picked-nesting : (i : ℕ) (P : PlainPaths) → all_nesting P ≤ all_nesting (picked i P)
picked-nesting i no_paths = omega arith
picked-nesting i (and_path p P) = omega (arith, picked-nesting i P)

pub large-picked : (i : ℕ) (P : PlainPaths) → IsTooLarge (once P) → IsTooLarge (once (picked i P))
large-picked i P large = subst IsTooLarge (sym (once-picked i P)) (by_limit large)
  where
    by_limit : IsTooLarge (once P) → IsTooLarge (picked i (once P))
    by_limit (inl many) = inl (omega (arith, picked-nodes i (once P)))
    by_limit (inr deep) = inr (omega (arith, picked-nesting i (once P)))

-- types by their forms
pub arrow-once : (t : Ty) (a b : Rc Ty Global) (x y : Ty) (P : PlainPaths) → t ≡ tree.Arrow a b → x ≡ a.value → y ≡ b.value →
    P ≡ once (paths (plain_type y)) → called (paths (plain_type x)) P ≡ once (paths (plain_type t))
arrow-once t a b x y P is from to made =
    ap (λ z. called (paths (plain_type z)) P) from
    ∙ (ap (called (paths (plain_type a.value))) (made ∙ ap (λ z. once (paths (plain_type z))) to)
    ∙ (sym (once-called (paths (plain_type a.value)) (paths (plain_type b.value))) ∙ ap (λ A. once (paths A)) (sym (reads_arrow t a b is))))

pub arrow-large : (t : Ty) (a b : Rc Ty Global) (y : Ty) → t ≡ tree.Arrow a b → y ≡ b.value →
    IsTooLarge (once (paths (plain_type y))) → IsTooLarge (once (paths (plain_type t)))
arrow-large t a b y is to large =
    subst (λ A. IsTooLarge (once (paths A))) (sym (reads_arrow t a b is))
    (large-called (paths (plain_type a.value)) (paths (plain_type b.value)) (subst (λ z. IsTooLarge (once (paths (plain_type z)))) to large))

pub field-once : (t : Ty) (i : ℕ) (a : Rc Ty Global) (x : Ty) (P : PlainPaths) → t ≡ tree.Field i a → x ≡ a.value →
    P ≡ once (paths (plain_type x)) → picked i P ≡ once (paths (plain_type t))
field-once t i a x P is part made =
    ap (picked i) (made ∙ ap (λ z. once (paths (plain_type z))) part)
    ∙ (sym (once-picked i (paths (plain_type a.value))) ∙ ap (λ A. once (paths A)) (sym (reads_field t i a is)))

pub field-large : (t : Ty) (i : ℕ) (a : Rc Ty Global) (x : Ty) → t ≡ tree.Field i a → x ≡ a.value →
    IsTooLarge (once (paths (plain_type x))) → IsTooLarge (once (paths (plain_type t)))
field-large t i a x is part large =
    subst (λ A. IsTooLarge (once (paths A))) (sym (reads_field t i a is))
    (large-picked i (paths (plain_type a.value)) (subst (λ z. IsTooLarge (once (paths (plain_type z)))) part large))

-- the members of a meet, one after another
once-behind : (P Q : PlainPaths) → once (append P (once Q)) ≡ once (append P Q)
once-behind no_paths Q = once-distinct (distinct-once Q)
once-behind (and_path p P) Q = ap (λ X. and_path p (without p X)) (once-behind P Q)

abbrev paths_behind : ℕ → List Ty → PlainPaths
paths_behind i ts = all_paths (types_from (map plain_type (drop i ts)))

all-split : (ts : List Ty) (i : ℕ) → all_paths (types_from (map plain_type ts)) ≡ append (first_paths i ts) (paths_behind i ts)
all-split ts i =
    ap (λ xs. all_paths (types_from (map plain_type xs))) (sym (take-append-drop i ts))
    ∙ (ap (λ As. all_paths (types_from As)) (map-append plain_type (take i ts) (drop i ts))
    ∙ all_paths-append (map plain_type (take i ts)) (map plain_type (drop i ts)))

pub members-next : (ts : List Ty) (i : ℕ) (t : Ty) (P C : PlainPaths) → i < length ts → t ≡ get_or ts i t →
    P ≡ once (first_paths i ts) → C ≡ once (paths (plain_type t)) → meet_of P C ≡ once (first_paths (i + 1) ts)
members-next ts i t P C within is so_far here =
    ap (λ X. meet_of X C) so_far
    ∙ (ap (meet_of (once (first_paths i ts))) here
    ∙ (meet-once (first_paths i ts) (once (paths (plain_type t)))
    ∙ (once-behind (first_paths i ts) (paths (plain_type t)) ∙ ap once (sym (first_paths-more ts i t within is)))))

pub large-member : (ts : List Ty) (i : ℕ) (t : Ty) → i < length ts → t ≡ get_or ts i t →
    IsTooLarge (once (paths (plain_type t))) → IsTooLarge (once (all_paths (types_from (map plain_type ts))))
large-member ts i t within is large =
    large-part (first_paths i ts) (paths (plain_type t)) (paths_behind (i + 1) ts) (all_paths (types_from (map plain_type ts)))
    (all-split ts (i + 1) ∙ ap (λ P. append P (paths_behind (i + 1) ts)) (first_paths-more ts i t within is)) large

pub large-members : (ts : List Ty) (i : ℕ) → IsTooLarge (once (first_paths i ts)) → IsTooLarge (once (all_paths (types_from (map plain_type ts))))
large-members ts i large = large-front (first_paths i ts) (paths_behind i ts) (all_paths (types_from (map plain_type ts))) (all-split ts i) large
