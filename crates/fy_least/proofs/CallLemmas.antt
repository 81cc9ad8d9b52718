-- The paths of an abstraction's bodies, alternative by alternative.
use Rattle.std.proofs.Common.{ℕ, zero, suc, ◌+◌, ◌<◌, ◌≤◌, ◌≡◌, Bool, true, false, ◌||◌, List, [], ◌∷◌, ◌++◌, length, map, take, drop, get_or, max, inl, inr, refl, sym, ap, ◌∙◌, subst, arith, if◌then◌else◌}
use Rattle.std.proofs.lemmas.Bool.{or_left, or_right}
use Rattle.std.proofs.lemmas.List.{length-take, take-append-drop, take_more, take_all}
use Rattle.fy_types.specs.declared.types.Ty.{Ty}
use Rattle.fy_types.specs.Paths.{PlainPath, PlainPaths, no_paths, and_path, append, called, paths}
use Rattle.fy_types.specs.Reading.{plain_type, plain_paths, types_from}
use Rattle.fy_types.specs.Once.{is_same, contains, without, once}
use Rattle.fy_types.specs.Bounds.{meet_of}
use Rattle.fy_types.specs.Keeping.{all_added}
use Rattle.fy_types.specs.Limits.{nesting, all_nesting, IsTooLarge}
use Rattle.fy_types.proofs.Laws.{append_assoc, append-none}
use Rattle.fy_forms.proofs.KeepLemmas.{all_added-meet}
use Rattle.fy_types.proofs.OnceLemmas.{is_same-sound, is_same-refl}
use Rattle.fy_least.specs.declared.found.Found.{Found}
use Rattle.fy_least.specs.Many.{called_bodies, AreOnce}
use Rattle.fy_least.proofs.DistinctLemmas.{IsDistinct, AreIn, none_in, and_in, in-nodes, kept-in, distinct-once, distinct-called, once-distinct}

-- lists that have all paths of another
more-in : {Q R P : PlainPaths} → ((p : PlainPath) → contains Q p ≡ true → contains R p ≡ true) → AreIn Q P → AreIn R P
more-in f none_in = none_in
more-in f (and_in {p = p} e r) = and_in (f p e) (more-in f r)

in-itself : (P : PlainPaths) → AreIn P P
in-itself no_paths = none_in
in-itself (and_path p P) = and_in (or_left _ _ (is_same-refl p)) (more-in (λ q e. or_right _ _ e) (in-itself P))

in-left : (P Q : PlainPaths) (p : PlainPath) → contains P p ≡ true → contains (append P Q) p ≡ true
in-left no_paths Q p e = absurd (cc)
in-left (and_path q P) Q p e = cases (is_same q p) e (λ f. in-left P Q p f)
  where
    cases : (b : Bool) → b || contains P p ≡ true → (contains P p ≡ true → contains (append P Q) p ≡ true) → b || contains (append P Q) p ≡ true
    cases true h g = refl
    cases false h g = g h

in-right : (P Q : PlainPaths) (p : PlainPath) → contains Q p ≡ true → contains (append P Q) p ≡ true
in-right no_paths Q p e = e
in-right (and_path q P) Q p e = or_right _ _ (in-right P Q p e)

in-once : (P : PlainPaths) (p : PlainPath) → contains P p ≡ true → contains (once P) p ≡ true
in-once no_paths p e = e
in-once (and_path q P) p e = cases (is_same q p) refl e (λ f. in-once P p f)
  where
    cases : (b : Bool) → is_same q p ≡ b → b || contains P p ≡ true → (contains P p ≡ true → contains (once P) p ≡ true) →
        contains (once (and_path q P)) p ≡ true
    cases true f h g = or_left _ _ f
    cases false f h g = or_right _ _ (kept-in q p (once P) f (g h))

without-in : (p : PlainPath) {Q P : PlainPaths} → AreIn Q P → AreIn Q (without p P)
without-in p none_in = none_in
without-in p {Q = Q} (and_in {p = q} {P = P} e r) = cases (is_same q p) (without-in p r)
  where
    cases : (b : Bool) → AreIn Q (without p P) → AreIn Q (if b then without p P else and_path q (without p P))
    cases true s = s
    cases false s = and_in e s

once-in : {Q P : PlainPaths} → AreIn Q P → AreIn Q (once P)
once-in none_in = none_in
once-in (and_in {p = p} e r) = and_in e (without-in p (once-in r))

-- what passes a limit does so in a list that has all its paths
in-nests : (P : PlainPaths) (p : PlainPath) → contains P p ≡ true → nesting p ≤ all_nesting P
in-nests no_paths p e = absurd (cc)
in-nests (and_path q P) p e = cases (is_same q p) refl e (λ f. in-nests P p f)
  where
    cases : (b : Bool) → is_same q p ≡ b → b || contains P p ≡ true → (contains P p ≡ true → nesting p ≤ all_nesting P) →
        nesting p ≤ max (nesting q) (all_nesting P)
    cases true f h g = let same = ap nesting (is_same-sound q p f) in omega arith
    cases false f h g = let low = g h in omega arith

in-nesting : {Q P : PlainPaths} → AreIn Q P → all_nesting P ≤ all_nesting Q
in-nesting none_in = omega arith
in-nesting {Q = Q} (and_in {p = p} e r) = omega (arith, in-nests Q p e, in-nesting r)

large-in : {Q P : PlainPaths} → IsDistinct P → AreIn Q P → IsTooLarge P → IsTooLarge Q
large-in {Q = Q} d i (inl many) = inl (omega (arith, in-nodes d Q i))
large-in d i (inr deep) = inr (omega (arith, in-nesting i))

large-middle : (P Q R W : PlainPaths) → W ≡ append (append P Q) R → IsDistinct Q → IsTooLarge Q → IsTooLarge (once W)
large-middle P Q R W e d large =
    subst (λ X. IsTooLarge (once X)) (sym e)
    (large-in d (more-in (λ p h. in-once (append (append P Q) R) p (in-left (append P Q) R p (in-right P Q p h))) (in-itself Q)) large)

-- what passes a limit, each path once, does so among others
pub large-part : (P Q R W : PlainPaths) → W ≡ append (append P Q) R → IsTooLarge (once Q) → IsTooLarge (once W)
large-part P Q R W e large =
    subst (λ X. IsTooLarge (once X)) (sym e)
    (large-in (distinct-once Q)
    (more-in (λ p h. in-once (append (append P Q) R) p (in-left (append P Q) R p (in-right P Q p h))) (once-in (in-itself Q))) large)

pub large-front : (P R W : PlainPaths) → W ≡ append P R → IsTooLarge (once P) → IsTooLarge (once W)
large-front P R W e large = large-part no_paths P R W e large

-- the meet with what stands once already
pub meet-once : (P Q : PlainPaths) → meet_of (once P) Q ≡ once (append P Q)
meet-once P Q =
    sym (all_added-meet (once P) Q)
    ∙ (ap (λ X. all_added X Q) (all_added-meet no_paths (once P) ∙ (once-distinct (distinct-once P) ∙ sym (all_added-meet no_paths P)))
    ∙ all_added-meet P Q)

-- bodies under their alternatives
abbrev pub bodies_called : List Ty → List Found → PlainPaths
bodies_called ts fs = called_bodies (types_from (map plain_type ts)) fs

abbrev pub body_called : Ty → Found → PlainPaths
body_called t f = called (paths (plain_type t)) (plain_paths f.paths)

called-append : (ts us : List Ty) (fs gs : List Found) → length ts ≡ length fs →
    bodies_called (ts ++ us) (fs ++ gs) ≡ append (bodies_called ts fs) (bodies_called us gs)
called-append [] us [] gs e = refl
called-append [] us (f ∷ fs) gs e = absurd (omega arith)
called-append (t ∷ ts) us [] gs e = absurd (omega arith)
called-append (t ∷ ts) us (f ∷ fs) gs e =
    ap (append (body_called t f)) (called-append ts us fs gs (omega arith))
    ∙ sym (append_assoc (body_called t f) (bodies_called ts fs) (bodies_called us gs))

same-length : {A B : Type 0} (xs : List A) (ys : List B) (i : ℕ) → length xs ≡ length ys → length (take i xs) ≡ length (take i ys)
same-length xs ys i e = omega (arith, length-take i xs, length-take i ys)

pub called-more : (ts : List Ty) (fs : List Found) (i : ℕ) (t : Ty) (f : Found) → length ts ≡ length fs → i < length fs →
    t ≡ get_or ts i t → f ≡ get_or fs i f →
    bodies_called (take (i + 1) ts) (take (i + 1) fs) ≡ append (bodies_called (take i ts) (take i fs)) (body_called t f)
called-more ts fs i t f same within is is' =
    let here : i < length ts = omega arith in
    ap (λ xs. bodies_called xs (take (i + 1) fs)) (take_more ts i t here ∙ ap (λ y. take i ts ++ (y ∷ [])) (sym is))
    ∙ (ap (λ xs. bodies_called (take i ts ++ (t ∷ [])) xs) (take_more fs i f within ∙ ap (λ y. take i fs ++ (y ∷ [])) (sym is'))
    ∙ (called-append (take i ts) (t ∷ []) (take i fs) (f ∷ []) (same-length ts fs i same)
    ∙ ap (append (bodies_called (take i ts) (take i fs))) (append-none (body_called t f))))

-- the meet of what the first bodies have with what the next one has
pub called-next : (ts : List Ty) (fs : List Found) (i : ℕ) (t : Ty) (f : Found) (P C : PlainPaths) → length ts ≡ length fs → i < length fs →
    t ≡ get_or ts i t → f ≡ get_or fs i f → P ≡ once (bodies_called (take i ts) (take i fs)) → C ≡ body_called t f →
    meet_of P C ≡ once (bodies_called (take (i + 1) ts) (take (i + 1) fs))
called-next ts fs i t f P C same within is is' so_far here =
    ap (λ X. meet_of X C) so_far
    ∙ (ap (meet_of (once (bodies_called (take i ts) (take i fs)))) here
    ∙ (meet-once (bodies_called (take i ts) (take i fs)) (body_called t f) ∙ ap once (sym (called-more ts fs i t f same within is is'))))

called-split : (ts : List Ty) (fs : List Found) (i : ℕ) → length ts ≡ length fs →
    bodies_called ts fs ≡ append (bodies_called (take i ts) (take i fs)) (bodies_called (drop i ts) (drop i fs))
called-split ts fs i same =
    sym (ap (λ xs. bodies_called xs fs) (take-append-drop i ts))
    ∙ (ap (λ xs. bodies_called (take i ts ++ drop i ts) xs) (sym (take-append-drop i fs))
    ∙ called-append (take i ts) (drop i ts) (take i fs) (drop i fs) (same-length ts fs i same))

pub called-all : (ts : List Ty) (fs : List Found) (i : ℕ) → length ts ≡ length fs → length fs ≤ i →
    bodies_called (take i ts) (take i fs) ≡ bodies_called ts fs
called-all ts fs i same past =
    let past' : length ts ≤ i = omega arith in
    ap (λ xs. bodies_called xs (take i fs)) (take_all i ts past') ∙ ap (bodies_called ts) (take_all i fs past)

once-at : (fs : List Found) (i : ℕ) (f : Found) → AreOnce fs → i < length fs → f ≡ get_or fs i f → once (plain_paths f.paths) ≡ plain_paths f.paths
once-at [] i f h within is = absurd (omega arith)
once-at (g ∷ fs) zero f h within is = subst (λ x. once (plain_paths x.paths) ≡ plain_paths x.paths) (sym is) h.0
once-at (g ∷ fs) (suc i) f h within is = once-at fs i f h.1 (omega arith) is

-- a body's paths that pass a limit make all pass it, and so do those of the first bodies
pub large-body : (ts : List Ty) (fs : List Found) (i : ℕ) (t : Ty) (f : Found) → length ts ≡ length fs → AreOnce fs → i < length fs →
    t ≡ get_or ts i t → f ≡ get_or fs i f → IsTooLarge (body_called t f) → IsTooLarge (once (bodies_called ts fs))
large-body ts fs i t f same ones within is is' large =
    large-middle (bodies_called (take i ts) (take i fs)) (body_called t f) (bodies_called (drop (i + 1) ts) (drop (i + 1) fs)) (bodies_called ts fs)
    (called-split ts fs (i + 1) same ∙ ap (λ P. append P (bodies_called (drop (i + 1) ts) (drop (i + 1) fs)))
    (called-more ts fs i t f same within is is'))
    (distinct-called (paths (plain_type t)) (subst IsDistinct (once-at fs i f ones within is') (distinct-once (plain_paths f.paths)))) large

pub large-bodies : (ts : List Ty) (fs : List Found) (i : ℕ) → length ts ≡ length fs → IsTooLarge (once (bodies_called (take i ts) (take i fs))) →
    IsTooLarge (once (bodies_called ts fs))
large-bodies ts fs i same large =
    large-front (bodies_called (take i ts) (take i fs)) (bodies_called (drop i ts) (drop i fs)) (bodies_called ts fs) (called-split ts fs i same)
    large
