-- Lists of paths that are empty.
use Rattle.std.proofs.Common.{ℕ, ◌≡◌, Bool, true, false, refl, ap}
use Rattle.std.specs.Prelude.{◌&&◌, not, if◌then◌else◌}
use Rattle.fy_types.specs.declared.types.Atom.{Atom}
use Rattle.fy_types.specs.Paths.{PlainPath, PlainPaths, no_paths, and_path, append, called, picked}
use Rattle.fy_types.specs.Once.{is_same, once, without}
use Rattle.fy_derive.specs.Clear.{has_none}
use Rattle.fy_derive.specs.Kinds.{Kind, begins, none_begins}
use Rattle.fy_derive.specs.Least.{has, if_passed}

-- lists that are made of others
pub none-called : (D P : PlainPaths) → has_none (called D P) ≡ has_none P
none-called D no_paths = refl
none-called D (and_path p P) = refl

pub called-none : (D P : PlainPaths) → has_none P ≡ true → no_paths ≡ called D P
called-none D no_paths e = refl
called-none D (and_path p P) e = absurd (cc)

pub none-picked : (i : ℕ) (P : PlainPaths) → has_none (picked i P) ≡ has_none P
none-picked i no_paths = refl
none-picked i (and_path p P) = refl

pub none-once : (P : PlainPaths) → has_none (once P) ≡ has_none P
none-once no_paths = refl
none-once (and_path p P) = refl

pub some-left : (P Q : PlainPaths) → has_none P ≡ false → has_none (append P Q) ≡ false
some-left no_paths Q e = absurd (cc)
some-left (and_path p P) Q e = refl

pub some-right : (P Q : PlainPaths) → has_none Q ≡ false → has_none (append P Q) ≡ false
some-right no_paths Q e = e
some-right (and_path p P) Q e = refl

pub none-left : (P Q : PlainPaths) → has_none (append P Q) ≡ true → has_none P ≡ true
none-left no_paths Q e = refl
none-left (and_path p P) Q e = absurd (cc)

pub none-right : (P Q : PlainPaths) → has_none (append P Q) ≡ true → has_none Q ≡ true
none-right no_paths Q e = e
none-right (and_path p P) Q e = absurd (cc)

-- what has no path has no atom
pub none-had : (P : PlainPaths) (a : Atom) → has_none P ≡ true → has P a ≡ false
none-had no_paths a e = refl
none-had (and_path p P) a e = absurd (cc)

-- a test that isn't passed, and what is left where it is
pub not-passed : (b : Bool) (P : PlainPaths) → has_none P ≡ false → has_none (if_passed b P) ≡ true → b ≡ false
not-passed true P f e = absurd (cc)
not-passed false P f e = refl

pub then-none : (b : Bool) (P : PlainPaths) → b ≡ true → has_none (if_passed b P) ≡ true → has_none P ≡ true
then-none true P f e = e
then-none false P f e = absurd (cc)

-- no path begins so in a part of a list
and-first : (a b : Bool) → a && b ≡ true → a ≡ true
and-first true b e = refl
and-first false b e = absurd (cc)

and-second : (a b : Bool) → a && b ≡ true → b ≡ true
and-second true b e = e
and-second false b e = absurd (cc)

and-both : (a b : Bool) → a ≡ true → b ≡ true → a && b ≡ true
and-both true b e f = f
and-both false b e f = absurd (cc)

pub clear-without : (k : Kind) (p : PlainPath) (P : PlainPaths) → none_begins k P ≡ true → none_begins k (without p P) ≡ true
clear-without k p no_paths e = refl
clear-without k p (and_path q P) e =
    cases (is_same q p) (clear-without k p P (and-second (not (begins k q)) (none_begins k P) e))
  where
    cases : (b : Bool) → none_begins k (without p P) ≡ true → none_begins k (if b then without p P else and_path q (without p P)) ≡ true
    cases true h = h
    cases false h = and-both (not (begins k q)) (none_begins k (without p P)) (and-first (not (begins k q)) (none_begins k P) e) h

pub clear-once : (k : Kind) (P : PlainPaths) → none_begins k P ≡ true → none_begins k (once P) ≡ true
clear-once k no_paths e = refl
clear-once k (and_path p P) e =
    and-both (not (begins k p)) (none_begins k (without p (once P))) (and-first (not (begins k p)) (none_begins k P) e)
    (clear-without k p (once P) (clear-once k P (and-second (not (begins k p)) (none_begins k P) e)))

pub clear-head : (k : Kind) (p : PlainPath) (P : PlainPaths) → none_begins k (and_path p P) ≡ true → begins k p ≡ false
clear-head k p P e = cases (begins k p) (and-first (not (begins k p)) (none_begins k P) e)
  where
    cases : (b : Bool) → not b ≡ true → b ≡ false
    cases true h = absurd (cc)
    cases false h = refl

pub clear-tail : (k : Kind) (p : PlainPath) (P : PlainPaths) → none_begins k (and_path p P) ≡ true → none_begins k P ≡ true
clear-tail k p P e = and-second (not (begins k p)) (none_begins k P) e

pub clear-and : (k : Kind) (p : PlainPath) (P : PlainPaths) → begins k p ≡ false → none_begins k P ≡ true → none_begins k (and_path p P) ≡ true
clear-and k p P e f = and-both (not (begins k p)) (none_begins k P) (ap not e) f
