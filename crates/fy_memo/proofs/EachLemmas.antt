-- A list with as many paths as it has when each stands once, is that list; and what a form says of its paths.
use Rattle.std.proofs.Common.{◌+◌, ◌≤◌, ◌≡◌, Bool, true, false, Option, Some, None, [], length, map, refl, sym, ap, ◌∙◌, subst, arith, if◌then◌else◌}
use Rattle.std.specs.Prelude.{IsErrOf, Err}
use Rattle.fy_forms.specs.declared.error.TypeError.{TypeError}
use Rattle.fy_forms.specs.declared.error.TypeError.TheVariants.{TypeTooLarge, OutOfMemory}
use Rattle.fy_types.specs.declared.paths.Paths.{Paths}
use Rattle.fy_types.specs.Once.{is_same, are_same, without, once}
use Rattle.fy_types.specs.Paths.{PlainPath, PlainPaths, no_paths, and_path}
use Rattle.fy_types.specs.Reading.{paths_in, paths_from, plain_path, plain_paths}
use Rattle.fy_types.proofs.Making.{count-in}
use Rattle.fy_types.proofs.OnceLemmas.{both_true, is_same-iff, is_same-refl}
use Rattle.fy_types.proofs.ReadLemmas.{plain_paths-at}
use Rattle.fy_types.proofs.Sizes.{count}
use Rattle.fy_memo.specs.Forms.{has_each}

without-few : (p : PlainPath) (Q : PlainPaths) → count (without p Q) ≤ count Q
without-few p no_paths = omega arith
without-few p (and_path q Q) = by_test (without-few p Q) (is_same q p)
  where
    by_test : count (without p Q) ≤ count Q → (b : Bool) → count (if b then without p Q else and_path q (without p Q)) ≤ count Q + 1
    by_test few true = omega arith
    by_test few false = omega arith

once-few : (P : PlainPaths) → count (once P) ≤ count P
once-few no_paths = omega arith
once-few (and_path p P) = omega (arith, without-few p (once P), once-few P)

without-none : (p : PlainPath) (Q : PlainPaths) → count (without p Q) ≡ count Q → without p Q ≡ Q
without-none p no_paths e = refl
without-none p (and_path q Q) e = by_test (without-few p Q) (without-none p Q) (is_same q p) e
  where
    by_test : count (without p Q) ≤ count Q → (count (without p Q) ≡ count Q → without p Q ≡ Q) → (b : Bool) →
        count (if b then without p Q else and_path q (without p Q)) ≡ count Q + 1 →
        (if b then without p Q else and_path q (without p Q)) ≡ and_path q Q
    by_test few h true same = absurd (omega arith)
    by_test few h false same = ap (and_path q) (h (omega arith))

once-all : (P : PlainPaths) → count (once P) ≡ count P → once P ≡ P
once-all no_paths e = refl
once-all (and_path p P) e =
    let few = without-few p (once P) in
    let fewer = once-few P in
    let none : count (without p (once P)) ≡ count (once P) = omega arith in
    let all : count (once P) ≡ count P = omega arith in
    ap (and_path p) (without-none p (once P) none ∙ once-all P all)

pub same-itself : (P : PlainPaths) → are_same P P ≡ true
same-itself no_paths = refl
same-itself (and_path p P) = rw (is_same-refl p, same-itself P) refl

pub same-lists : (P Q : PlainPaths) → are_same P Q ≡ true → P ≡ Q
same-lists no_paths no_paths e = refl
same-lists no_paths (and_path q Q) e = absurd (cc)
same-lists (and_path p P) no_paths e = absurd (cc)
same-lists (and_path p P) (and_path q Q) e =
    let both = both_true (is_same p q) (are_same P Q) e in
    ap (λ x. and_path x P) ((is_same-iff p q).0 both.0) ∙ ap (and_path q) (same-lists P Q both.1)

pub each-once : (made P : Paths) → plain_paths made ≡ once (plain_paths P) → length (paths_in made) ≡ length (paths_in P) →
    are_same (once (plain_paths P)) (plain_paths P) ≡ true
each-once made P e same =
    let all = once-all (plain_paths P) (ap count (sym e) ∙ (sym (count-in made) ∙ (same ∙ count-in P))) in
    subst (λ Q. are_same (once (plain_paths P)) Q ≡ true) all (same-itself (once (plain_paths P)))

pub stood-once : (P : PlainPaths) → are_same (once P) P ≡ true → once P ≡ P
stood-once P e = same-lists (once P) P e

pub empty-paths : (l : Paths) → paths_in l ≡ [] → plain_paths l ≡ no_paths
empty-paths l e = plain_paths-at l ∙ ap (λ xs. paths_from (map plain_path xs)) e

-- each path of a form, by whether some stand there twice
pub each-none : (P : Paths) (o : Option Paths) → o ≡ None → has_each P o ≡ true → plain_paths P ≡ once (plain_paths P)
each-none P None is h = sym (stood-once (plain_paths P) h)
each-none P (Some E) is h = absurd (cc)

pub each-some : (P : Paths) (o : Option Paths) (E : Paths) → o ≡ Some E → has_each P o ≡ true → plain_paths E ≡ once (plain_paths P)
each-some P None E is h = absurd (cc)
each-some P (Some F) E is h =
    let same : F ≡ E = cc in
    sym (same-lists (once (plain_paths P)) (plain_paths E) (subst (λ x. are_same (once (plain_paths P)) (plain_paths x) ≡ true) same h))

-- the form of an entry is that of an equal type
pub form-same : (P Q R : PlainPaths) → are_same P Q ≡ true → Q ≡ R → P ≡ R
form-same P Q R same e = same-lists P Q same ∙ e

-- a refusal is the same at another type of results
pub large-again : {X Y : Type 0} (e : TypeError) → IsErrOf {T = X} (Err e) TypeTooLarge → IsErrOf {T = Y} (Err e) TypeTooLarge
large-again TypeTooLarge h = refl
large-again OutOfMemory h = absurd (cc)
