-- Lists that are made path by path.
use Rattle.std.proofs.Common.{ℕ, ◌+◌, ◌<◌, ◌≤◌, ◌≡◌, List, [], ◌∷◌, ◌++◌, length, map, take, drop, get_or, max, Bool, true, false, ◌||◌, if◌then◌else◌, inl, inr, refl, ap, sym, ◌∙◌, subst, arith}
use Rattle.std.proofs.lemmas.List.{map-append, take-append-drop, take_more, take_all}
use Rattle.fy_types.specs.declared.paths.Path.{Path}
use Rattle.fy_types.specs.Paths.{PlainPath, PlainPaths, no_paths, and_path, append}
use Rattle.fy_types.specs.Reading.{plain_path, paths_from}
use Rattle.fy_types.specs.Limits.{nodes, all_nodes, nesting, all_nesting, IsTooLarge}
use Rattle.fy_types.specs.Once.{is_same, contains, without, once}
use Rattle.fy_types.specs.Bounds.{meet_of, common, commons_with, commons, join_of}
use Rattle.fy_types.specs.Keeping.{added, all_added}
use Rattle.fy_types.proofs.Laws.{append-none, append_assoc}
use Rattle.fy_types.proofs.Sizes.{count, not_large, large-left, large-right}
use Rattle.fy_types.proofs.Making.{paths_from-append, made-push}
use Rattle.fy_types.proofs.OnceLemmas.{is_same-sound, is_same-refl}

without-append : (x : PlainPath) (P Q : PlainPaths) → without x (append P Q) ≡ append (without x P) (without x Q)
without-append x no_paths Q = refl
without-append x (and_path p P) Q = cases (is_same p x) (without-append x P Q)
  where
    cases : (b : Bool) → without x (append P Q) ≡ append (without x P) (without x Q) →
        (if b then without x (append P Q) else and_path p (without x (append P Q)))
        ≡ append (if b then without x P else and_path p (without x P)) (without x Q)
    cases true e = e
    cases false e = ap (and_path p) e

contains-without : (x : PlainPath) (Q : PlainPaths) (p : PlainPath) → is_same x p ≡ false → contains (without x Q) p ≡ contains Q p
contains-without x no_paths p apart = refl
contains-without x (and_path q Q) p apart = cases (is_same q x) refl (contains-without x Q p apart)
  where
    cases : (b : Bool) → is_same q x ≡ b → contains (without x Q) p ≡ contains Q p →
        contains (if b then without x Q else and_path q (without x Q)) p ≡ (is_same q p || contains Q p)
    cases true same e =
        let apart_too : is_same q p ≡ false = subst (λ y. is_same y p ≡ false) (sym (is_same-sound q x same)) apart in
        rw apart_too e
    cases false same e = ap (λ b. is_same q p || b) e

same-turned : (x p : PlainPath) → is_same x p ≡ true → is_same p x ≡ true
same-turned x p e = subst (λ y. is_same y x ≡ true) (is_same-sound x p e) (is_same-refl x)

apart-turned : (x p : PlainPath) → is_same x p ≡ false → is_same p x ≡ false
apart-turned x p e = cases (is_same p x) refl
  where
    cases : (b : Bool) → is_same p x ≡ b → b ≡ false
    cases true f = let t = same-turned p x f in cc
    cases false f = refl

-- a path added behind the first one, whose repeats are left out
added-behind : (x : PlainPath) (Q : PlainPaths) (p : PlainPath) →
    added (and_path x (without x Q)) p ≡ and_path x (without x (added Q p))
added-behind x Q p = cases (is_same x p) refl (contains Q p) refl
  where
    cases : (b : Bool) → is_same x p ≡ b → (d : Bool) → contains Q p ≡ d →
        added (and_path x (without x Q)) p ≡ and_path x (without x (added Q p))
    cases true e true f = rw (e, f) refl
    cases true e false f =
        rw (e, f, without-append x Q (and_path p no_paths), same-turned x p e, append-none (without x Q)) refl
    cases false e true f = rw (e, contains-without x Q p e, f) refl
    cases false e false f =
        rw (e, contains-without x Q p e, f, without-append x Q (and_path p no_paths), apart-turned x p e) refl

-- one more path, where each stands once
added-once : (P : PlainPaths) (p : PlainPath) → added (once P) p ≡ once (append P (and_path p no_paths))
added-once no_paths p = refl
added-once (and_path x P) p = added-behind x (once P) p ∙ ap (λ X. and_path x (without x X)) (added-once P p)

pub all_added-once : (P Q : PlainPaths) → all_added (once P) Q ≡ once (append P Q)
all_added-once P no_paths = ap once (sym (append-none P))
all_added-once P (and_path q Q) =
    ap (λ X. all_added X Q) (added-once P q)
    ∙ (all_added-once (append P (and_path q no_paths)) Q ∙ ap once (append_assoc P (and_path q no_paths) Q))

pub all_added-meet : (P Q : PlainPaths) → all_added (all_added no_paths P) Q ≡ meet_of P Q
all_added-meet P Q = ap (λ X. all_added X Q) (all_added-once no_paths P) ∙ all_added-once P Q

pub all_added-join : (P Q : PlainPaths) → all_added no_paths (commons P Q) ≡ join_of P Q
all_added-join P Q = all_added-once no_paths (commons P Q)

pub all_added-append : (P Q R : PlainPaths) → all_added P (append Q R) ≡ all_added (all_added P Q) R
all_added-append P no_paths R = refl
all_added-append P (and_path q Q) R = all_added-append (added P q) Q R

added-left : (C : PlainPaths → Type 0) (P : PlainPaths) (p : PlainPath) →
    (contains P p ≡ true → C P) → C (append P (and_path p no_paths)) → C (added P p)
added-left C P p f g = cases (contains P p) refl
  where
    cases : (b : Bool) → contains P p ≡ b → C (if b then P else append P (and_path p no_paths))
    cases true e = f e
    cases false e = g

large-added : (P : PlainPaths) (p : PlainPath) → IsTooLarge P → IsTooLarge (added P p)
large-added P p large = added-left IsTooLarge P p (λ e. large) (large-left P (and_path p no_paths) large)

pub large-all_added : (P Q : PlainPaths) → IsTooLarge P → IsTooLarge (all_added P Q)
large-all_added P no_paths large = large
large-all_added P (and_path q Q) large = large-all_added (added P q) Q (large-added P q large)

contains-nodes : (P : PlainPaths) (p : PlainPath) → contains P p ≡ true → nodes p ≤ all_nodes P
contains-nodes no_paths p e = absurd (cc)
contains-nodes (and_path q P) p e = cases (is_same q p) refl (λ f. contains-nodes P p f) e
  where
    cases : (b : Bool) → is_same q p ≡ b → (contains P p ≡ true → nodes p ≤ all_nodes P) → b || contains P p ≡ true →
        nodes p ≤ nodes q + all_nodes P
    cases true same f h = let same_nodes = ap nodes (is_same-sound q p same) in omega arith
    cases false same f h = let few = f h in omega arith

contains-nesting : (P : PlainPaths) (p : PlainPath) → contains P p ≡ true → nesting p ≤ all_nesting P
contains-nesting no_paths p e = absurd (cc)
contains-nesting (and_path q P) p e = cases (is_same q p) refl (λ f. contains-nesting P p f) e
  where
    cases : (b : Bool) → is_same q p ≡ b → (contains P p ≡ true → nesting p ≤ all_nesting P) → b || contains P p ≡ true →
        nesting p ≤ max (nesting q) (all_nesting P)
    cases true same f h = let same_nesting = ap nesting (is_same-sound q p same) in omega arith
    cases false same f h = let shallow = f h in omega arith

-- a path that is too large makes any list too large
pub large-path : (P : PlainPaths) (p : PlainPath) → IsTooLarge (and_path p no_paths) → IsTooLarge (added P p)
large-path P p large = added-left IsTooLarge P p (λ e. held e large) (large-right P (and_path p no_paths) large)
  where
    held : contains P p ≡ true → IsTooLarge (and_path p no_paths) → IsTooLarge P
    held e (inl many) = inl (omega (arith, contains-nodes P p e))
    held e (inr deep) = inr (omega (arith, contains-nesting P p e))

pub commons_with-append : (p : PlainPath) (Q R : PlainPaths) →
    commons_with p (append Q R) ≡ append (commons_with p Q) (commons_with p R)
commons_with-append p no_paths R = refl
commons_with-append p (and_path q Q) R =
    ap (append (common p q)) (commons_with-append p Q R) ∙ sym (append_assoc (common p q) (commons_with p Q) (commons_with p R))

commons-append : (P R Q : PlainPaths) → commons (append P R) Q ≡ append (commons P Q) (commons R Q)
commons-append no_paths R Q = refl
commons-append (and_path p P) R Q =
    ap (append (commons_with p Q)) (commons-append P R Q) ∙ sym (append_assoc (commons_with p Q) (commons P Q) (commons R Q))

-- the first i paths, and one more
abbrev pub firsts : ℕ → List Path → PlainPaths
firsts i xs = paths_from (map plain_path (take i xs))

pub firsts-more : (xs : List Path) (i : ℕ) (x : Path) → i < length xs → x ≡ get_or xs i x →
    firsts (i + 1) xs ≡ append (firsts i xs) (and_path (plain_path x) no_paths)
firsts-more xs i x within is =
    ap (λ ys. paths_from (map plain_path ys)) (take_more xs i x within ∙ ap (λ y. take i xs ++ (y ∷ [])) (sym is)) ∙ made-push (take i xs) x

pub firsts-all : (xs : List Path) (i : ℕ) → length xs ≤ i → firsts i xs ≡ paths_from (map plain_path xs)
firsts-all xs i past = ap (λ ys. paths_from (map plain_path ys)) (take_all i xs past)

abbrev pub lasts : ℕ → List Path → PlainPaths
lasts i xs = paths_from (map plain_path (drop i xs))

pub firsts-lasts : (xs : List Path) (i : ℕ) → append (firsts i xs) (lasts i xs) ≡ paths_from (map plain_path xs)
firsts-lasts xs i =
    sym (paths_from-append (map plain_path (take i xs)) (map plain_path (drop i xs)))
    ∙ (ap paths_from (sym (map-append plain_path (take i xs) (drop i xs)))
    ∙ ap (λ ys. paths_from (map plain_path ys)) (take-append-drop i xs))

-- keeping one more path of a list
pub kept-more : (P : PlainPaths) (xs : List Path) (i : ℕ) (x : Path) → i < length xs → x ≡ get_or xs i x →
    added (all_added P (firsts i xs)) (plain_path x) ≡ all_added P (firsts (i + 1) xs)
kept-more P xs i x within is =
    sym (ap (all_added P) (firsts-more xs i x within is) ∙ all_added-append P (firsts i xs) (and_path (plain_path x) no_paths))

pub large-kept : (P : PlainPaths) (xs : List Path) (i : ℕ) → IsTooLarge (all_added P (firsts i xs)) →
    IsTooLarge (all_added P (paths_from (map plain_path xs)))
large-kept P xs i large =
    subst IsTooLarge (sym (all_added-append P (firsts i xs) (lasts i xs)) ∙ ap (all_added P) (firsts-lasts xs i))
    (large-all_added (all_added P (firsts i xs)) (lasts i xs) large)

-- keeping the common paths of a path with one more path of a list
pub commons_with-more : (P : PlainPaths) (p : PlainPath) (xs : List Path) (i : ℕ) (x : Path) → i < length xs → x ≡ get_or xs i x →
    all_added (all_added P (commons_with p (firsts i xs))) (common p (plain_path x)) ≡ all_added P (commons_with p (firsts (i + 1) xs))
commons_with-more P p xs i x within is =
    sym (ap (λ X. all_added P (commons_with p X)) (firsts-more xs i x within is)
    ∙ (ap (all_added P) (commons_with-append p (firsts i xs) (and_path (plain_path x) no_paths)
    ∙ ap (append (commons_with p (firsts i xs))) (append-none (common p (plain_path x))))
    ∙ all_added-append P (commons_with p (firsts i xs)) (common p (plain_path x))))

pub large-commons_with : (P : PlainPaths) (p : PlainPath) (xs : List Path) (i : ℕ) → IsTooLarge (all_added P (commons_with p (firsts i xs))) →
    IsTooLarge (all_added P (commons_with p (paths_from (map plain_path xs))))
large-commons_with P p xs i large =
    subst IsTooLarge
    (sym (all_added-append P (commons_with p (firsts i xs)) (commons_with p (lasts i xs)))
    ∙ ap (all_added P) (sym (commons_with-append p (firsts i xs) (lasts i xs)) ∙ ap (commons_with p) (firsts-lasts xs i)))
    (large-all_added (all_added P (commons_with p (firsts i xs))) (commons_with p (lasts i xs)) large)

-- keeping the common paths of one more path with a list
pub commons-more : (Q : PlainPaths) (xs : List Path) (i : ℕ) (x : Path) → i < length xs → x ≡ get_or xs i x →
    all_added (all_added no_paths (commons (firsts i xs) Q)) (commons_with (plain_path x) Q) ≡ all_added no_paths (commons (firsts (i + 1) xs) Q)
commons-more Q xs i x within is =
    sym (ap (λ X. all_added no_paths (commons X Q)) (firsts-more xs i x within is)
    ∙ (ap (all_added no_paths) (commons-append (firsts i xs) (and_path (plain_path x) no_paths) Q
    ∙ ap (append (commons (firsts i xs) Q)) (append-none (commons_with (plain_path x) Q)))
    ∙ all_added-append no_paths (commons (firsts i xs) Q) (commons_with (plain_path x) Q)))

pub large-commons : (Q : PlainPaths) (xs : List Path) (i : ℕ) → IsTooLarge (all_added no_paths (commons (firsts i xs) Q)) →
    IsTooLarge (join_of (paths_from (map plain_path xs)) Q)
large-commons Q xs i large =
    subst IsTooLarge
    (sym (all_added-append no_paths (commons (firsts i xs) Q) (commons (lasts i xs) Q))
    ∙ (ap (all_added no_paths) (sym (commons-append (firsts i xs) (lasts i xs) Q) ∙ ap (λ X. commons X Q) (firsts-lasts xs i))
    ∙ all_added-join (paths_from (map plain_path xs)) Q))
    (large-all_added (all_added no_paths (commons (firsts i xs) Q)) (commons (lasts i xs) Q) large)

pub added-new : (P : PlainPaths) (p : PlainPath) → contains P p ≡ false → added P p ≡ append P (and_path p no_paths)
added-new P p e = rw e refl

pub added-known : (P : PlainPaths) (p : PlainPath) → contains P p ≡ true → added P p ≡ P
added-known P p e = rw e refl

-- keeping one path that is too large makes any list too large
pub large-one_added : (P Q : PlainPaths) → count Q ≤ 1 → IsTooLarge Q → IsTooLarge (all_added P Q)
large-one_added P no_paths one large = absurd (not_large large)
large-one_added P (and_path q no_paths) one large = large-path P q large
large-one_added P (and_path q (and_path r R)) one large = absurd (omega arith)
