-- How a procedure takes arguments that have the paths of a base.
use Rattle.std.proofs.Common.{ℕ, zero, suc, ◌+◌, ◌<◌, ◌≤◌, ◌≡◌, ◌⊎◌, inl, inr, Bool, true, false, ◌&&◌, ◌||◌, List, [], ◌∷◌, ◌++◌, length, map, take, drop, get_or, sym, ap, ◌∙◌, refl, subst, arith}
use Rattle.std.proofs.lemmas.Bool.{and_from, and_parts, or_cases, or_left, or_parts, or_right}
use Rattle.std.proofs.lemmas.List.{get_or_default, map-append, take_more, take_all}
use Rattle.std.specs.Borrow.{Bor}
use Rattle.std.specs.declared.alloc.Global.{Global}
use Rattle.std.specs.declared.rc.Rc.{Rc}
use Rattle.fy_types.specs.declared.paths.Path.{Path, out-Path}
use Rattle.fy_types.specs.declared.paths.PathElem.{PathElem, Call, Field}
use Rattle.fy_types.specs.declared.paths.Paths.{Paths}
use Rattle.fy_types.specs.Once.{are_same, once}
use Rattle.fy_types.specs.Paths.{PlainPath, PlainPaths, end, call, pick, no_paths, and_path, append}
use Rattle.fy_types.specs.Reading.{plain_elem, plain_elems, plain_path, plain_paths, paths_from}
use Rattle.fy_types.proofs.Steps.{drop_item}
use Rattle.fy_forms.specs.Keys.{lent}
use Rattle.fy_derive.specs.Least.{if_passed, rest_of_call, rests_of_call}
use Rattle.fy_derive.specs.Subsumption.{path_below, some_below, paths_below, all_pass, some_passes}
use Rattle.fy_order.specs.Demands.{takes_argument, takes}
use Rattle.fy_order.proofs.DemandLemmas.{takes-call, takes-field, takes-at}
use Rattle.fy_memo.proofs.EachLemmas.{same-lists}
use Rattle.fy_memo.specs.Bases.{IsMadeOf, Sees, IsIn, IsParted, IsRest, IsSkipped, IsFound, first_of, is_same_flag, are_takers}

-- Arguments that the same paths of a procedure take have the same rests.

one-alike : (A B : PlainPaths) (p : PlainPath) → takes_argument A p ≡ takes_argument B p → rest_of_call A p ≡ rest_of_call B p
one-alike A B (end a) e = refl
one-alike A B (call D p) e = ap (λ b. if_passed b (and_path p no_paths)) e
one-alike A B (pick i p) e = refl

pub rests-alike : (A B P : PlainPaths) → takes A P ≡ takes B P → rests_of_call A P ≡ rests_of_call B P
rests-alike A B no_paths e = refl
rests-alike A B (and_path p P) e =
    ap (λ R. append R (rests_of_call A P)) (one-alike A B p (ap (λ bs. get_or bs 0 false) e))
    ∙ ap (append (rest_of_call B p)) (rests-alike A B P (ap (drop 1) e))

-- The flags of the paths that take an argument.

same-flag : (b c : Bool) → is_same_flag b c ≡ true → b ≡ c
same-flag true c e = sym e
same-flag false true e = e
same-flag false false e = refl

flag-itself : (b : Bool) → is_same_flag b b ≡ true
flag-itself true = refl
flag-itself false = refl

pub takes-flags : (bs : List Bool) (Q P : PlainPaths) → are_takers bs Q P ≡ true → bs ≡ takes Q P
takes-flags [] Q no_paths e = refl
takes-flags [] Q (and_path p P) e = absurd (cc)
takes-flags (b ∷ bs) Q no_paths e = absurd (cc)
takes-flags (b ∷ bs) Q (and_path p P) e =
    let both = and_parts (is_same_flag b (takes_argument Q p)) (are_takers bs Q P) e in
    ap (λ c. c ∷ bs) (same-flag b (takes_argument Q p) both.0) ∙ ap (λ cs. takes_argument Q p ∷ cs) (takes-flags bs Q P both.1)

own-takers : (Q P : PlainPaths) → are_takers (takes Q P) Q P ≡ true
own-takers Q no_paths = refl
own-takers Q (and_path p P) =
    and_from (is_same_flag (takes_argument Q p) (takes_argument Q p)) (are_takers (takes Q P) Q P)
    (flag-itself (takes_argument Q p)) (own-takers Q P)

pub takers-made : (bs : List Bool) (Q P : PlainPaths) → bs ≡ takes Q P → are_takers bs Q P ≡ true
takers-made bs Q P e = rw e (own-takers Q P)

-- An argument that has the paths of a base, and others.

or-none : (a : Bool) → (a || false) ≡ a
or-none true = refl
or-none false = refl

or-assoc : (a b c : Bool) → ((a || b) || c) ≡ (a || (b || c))
or-assoc true b c = refl
or-assoc false b c = refl

all-more : (f g : PlainPath → Bool) → ((q : PlainPath) → f q ≡ true → g q ≡ true) → (D : PlainPaths) → all_pass f D ≡ true → all_pass g D ≡ true
all-more f g more no_paths e = refl
all-more f g more (and_path q D) e =
    let both = and_parts (f q) (all_pass f D) e in
    and_from (g q) (all_pass g D) (more q both.0) (all-more f g more D both.1)

-- what takes the base takes the argument
pub taken-more : (P B N : PlainPaths) (p : PlainPath) → IsMadeOf P B N → takes_argument B p ≡ true → takes_argument P p ≡ true
taken-more P B N (end a) made e = e
taken-more P B N (call D p) made e =
    all-more (some_below B) (some_below P) (λ q low. made q ∙ or_left (some_below B q) (some_below N q) low) D e
taken-more P B N (pick i p) made e = e

-- others that are below nothing in a domain don't matter for it
pub below-alike : (P B N D : PlainPaths) → IsMadeOf P B N → some_passes (some_below N) D ≡ false → paths_below P D ≡ paths_below B D
below-alike P B N no_paths made e = refl
below-alike P B N (and_path q D) made e =
    let none = or_parts (some_below N q) (some_passes (some_below N) D) e in
    ap (λ b. b && all_pass (some_below P) D) (made q ∙ (ap (λ b. some_below B q || b) none.0 ∙ or-none (some_below B q)))
    ∙ ap (λ b. some_below B q && b) (below-alike P B N D made none.1)

-- a path that begins with a call in whose domain the others are below nothing, or with a field, takes both, or neither
pub takes-domain : (P B N : PlainPaths) (p : Path) (xs : List PathElem) (x : PathElem) (d : Rc Paths Global) →
    plain_elems (out-Path p).elems ≡ map plain_elem xs → 0 < length xs → x ≡ get_or xs 0 x → x ≡ Call d →
    some_passes (some_below N) (plain_paths d.value) ≡ false → IsMadeOf P B N → takes_argument P (plain_path p) ≡ takes_argument B (plain_path p)
takes-domain P B N p xs x d e some is begins apart made =
    takes-call P p xs x d e some is begins
    ∙ (below-alike P B N (plain_paths d.value) made apart ∙ sym (takes-call B p xs x d e some is begins))

pub takes-none : (P B : PlainPaths) (p : Path) (xs : List PathElem) (x : PathElem) (i : ℕ) →
    plain_elems (out-Path p).elems ≡ map plain_elem xs → 0 < length xs → x ≡ get_or xs 0 x → x ≡ Field i →
    takes_argument P (plain_path p) ≡ takes_argument B (plain_path p)
takes-none P B p xs x i e some is begins = takes-field P p xs x i e some is begins ∙ sym (takes-field B p xs x i e some is begins)

-- a path whose flag is set takes both
pub takes-flagged : (P B N F : PlainPaths) (flags taken : List Bool) (xs : List Path) (k : ℕ) (x : Path) → are_takers taken B F ≡ true →
    F ≡ paths_from (map plain_path xs) → k < length xs → x ≡ get_or xs k x → flags ≡ taken → get_or flags k false ≡ true → IsMadeOf P B N →
    takes_argument P (plain_path x) ≡ takes_argument B (plain_path x)
takes-flagged P B N F flags taken xs k x right reading few is same set made =
    let all : flags ≡ takes B (paths_from (map plain_path xs)) = same ∙ (takes-flags taken B F right ∙ ap (takes B) reading) in
    let low : takes_argument B (plain_path x) ≡ true = sym (takes-at B xs k x false few is) ∙ (ap (λ bs. get_or bs k false) (sym all) ∙ set) in
    taken-more P B N (plain_path x) made low ∙ sym low

-- one path more that takes both, or neither
pub takes-next : (P B : PlainPaths) (p : PlainPath) (R : PlainPaths) → takes_argument P p ≡ takes_argument B p → takes P R ≡ takes B R →
    takes P (and_path p R) ≡ takes B (and_path p R)
takes-next P B p R e more = ap (λ b. b ∷ takes P R) e ∙ ap (λ bs. takes_argument B p ∷ bs) more

-- what is left begins with such a path
pub takes-left : (P B : PlainPaths) (xs : List Path) (i : ℕ) (x : Path) → i < length xs → x ≡ get_or xs i x →
    takes_argument P (plain_path x) ≡ takes_argument B (plain_path x) →
    takes P (paths_from (map plain_path (drop (i + 1) xs))) ≡ takes B (paths_from (map plain_path (drop (i + 1) xs))) →
    takes P (paths_from (map plain_path (drop i xs))) ≡ takes B (paths_from (map plain_path (drop i xs)))
takes-left P B xs i x few is e more =
    let split = drop_item plain_path xs i x few is in
    ap (λ ps. takes P (paths_from ps)) split
    ∙ (takes-next P B (plain_path x) (paths_from (map plain_path (drop (i + 1) xs))) e more ∙ sym (ap (λ ps. takes B (paths_from ps)) split))

-- the rests for a base are those for an argument that the same paths take
pub rests-again : (A B P Q R : PlainPaths) → are_same R (once (rests_of_call B P)) ≡ true → takes A P ≡ takes B P → P ≡ Q →
    R ≡ once (rests_of_call A Q)
rests-again A B P Q R right alike same =
    same-lists R (once (rests_of_call B P)) right ∙ ap once (sym (rests-alike A B P alike) ∙ ap (rests_of_call A) same)

-- The paths of a form that are looked through.

some-pushed : (xs : List PlainPath) (x q : PlainPath) → some_below (paths_from (xs ++ x ∷ [])) q ≡ (some_below (paths_from xs) q || path_below x q)
some-pushed [] x q = or-none (path_below x q)
some-pushed (y ∷ xs) x q =
    ap (λ b. path_below y q || b) (some-pushed xs x q) ∙ sym (or-assoc (path_below y q) (some_below (paths_from xs) q) (path_below x q))

first-more : (xs : List Path) (k : ℕ) (x : Path) (q : PlainPath) → k < length xs → x ≡ get_or xs k x →
    some_below (first_of (k + 1) xs) q ≡ (some_below (first_of k xs) q || path_below (plain_path x) q)
first-more xs k x q few is =
    ap (λ ys. some_below (paths_from (map plain_path ys)) q) (take_more xs k x few ∙ ap (λ y. take k xs ++ y ∷ []) (sym is))
    ∙ (ap (λ ps. some_below (paths_from ps) q) (map-append plain_path (take k xs) (x ∷ []))
    ∙ some-pushed (map plain_path (take k xs)) (plain_path x) q)

first-split : (xs : List Path) (k : ℕ) (x : Path) (q : PlainPath) → k < length xs → x ≡ get_or xs k x →
    Sees (first_of (k + 1) xs) q → Sees (first_of k xs) q ⊎ (path_below (plain_path x) q ≡ true)
first-split xs k x q few is low = or_cases (some_below (first_of k xs) q) (path_below (plain_path x) q) (sym (first-more xs k x q few is) ∙ low)

first-last : (xs : List Path) (k : ℕ) (x : Path) (q : PlainPath) → k < length xs → x ≡ get_or xs k x →
    path_below (plain_path x) q ≡ true → Sees (first_of (k + 1) xs) q
first-last xs k x q few is low = first-more xs k x q few is ∙ or_right (some_below (first_of k xs) q) (path_below (plain_path x) q) low

-- fewer paths are among more
first-in : (xs : List Path) (j k : ℕ) → j ≤ k → IsIn (first_of j xs) (first_of k xs)
first-in xs zero k less q low = absurd (cc)
first-in [] (suc j) k less q low = absurd (cc)
first-in (x ∷ xs) (suc j) zero less q low = absurd (omega arith)
first-in (x ∷ xs) (suc j) (suc k) less q low =
    let here = path_below (plain_path x) q in
    elim (or_cases here (some_below (first_of j xs) q) low) [
      | inl e ↦ or_left here (some_below (first_of k xs) q) e
      | inr e ↦ or_right here (some_below (first_of k xs) q) (first-in xs j k (omega arith) q e)
    ]

pub first-all : (xs : List Path) (k : ℕ) → length xs ≤ k → first_of k xs ≡ paths_from (map plain_path xs)
first-all xs k all = ap (λ ys. paths_from (map plain_path ys)) (take_all k xs all)

lent-more : (xs : List (Bor Path)) (x : Bor Path) (q : PlainPath) →
    some_below (lent (xs ++ x ∷ [])) q ≡ (some_below (lent xs) q || path_below (plain_path x.now) q)
lent-more xs x q =
    ap (λ ps. some_below (paths_from ps) q) (map-append (λ p. plain_path p.now) xs (x ∷ []))
    ∙ some-pushed (map (λ p. plain_path p.now) xs) (plain_path x.now) q

lent-split : (xs : List (Bor Path)) (x : Bor Path) (q : PlainPath) →
    Sees (lent (xs ++ x ∷ [])) q → Sees (lent xs) q ⊎ (path_below (plain_path x.now) q ≡ true)
lent-split xs x q low = or_cases (some_below (lent xs) q) (path_below (plain_path x.now) q) (sym (lent-more xs x q) ∙ low)

lent-kept : (xs : List (Bor Path)) (x : Bor Path) → IsIn (lent xs) (lent (xs ++ x ∷ []))
lent-kept xs x q low = lent-more xs x q ∙ or_left (some_below (lent xs) q) (path_below (plain_path x.now) q) low

lent-last : (xs : List (Bor Path)) (x : Bor Path) (q : PlainPath) → path_below (plain_path x.now) q ≡ true → Sees (lent (xs ++ x ∷ [])) q
lent-last xs x q low = lent-more xs x q ∙ or_right (some_below (lent xs) q) (path_below (plain_path x.now) q) low

-- one of the lent paths is below
pub lent-one : (xs : List (Bor Path)) (k : ℕ) (x : Bor Path) (q : PlainPath) → k < length xs → x ≡ get_or xs k x →
    path_below (plain_path x.now) q ≡ true → Sees (lent xs) q
lent-one [] k x q few is low = absurd (omega arith)
lent-one (y ∷ xs) zero x q few is low =
    or_left (path_below (plain_path y.now) q) (some_below (lent xs) q) (ap (λ (z : Bor Path). path_below (plain_path z.now) q) (sym is) ∙ low)
lent-one (y ∷ xs) (suc k) x q few is low =
    or_right (path_below (plain_path y.now) q) (some_below (lent xs) q) (lent-one xs k x q (omega arith) is low)

take-next : (xs : List (Bor Path)) (k : ℕ) (x : Bor Path) → k < length xs → x ≡ get_or xs k x → take (k + 1) xs ≡ take k xs ++ x ∷ []
take-next xs k x few is = take_more xs k x few ∙ ap (λ y. take k xs ++ y ∷ []) (sym is)

-- each of the lent paths so far is among others, and so is the next one
pub taken-in : (xs : List (Bor Path)) (k : ℕ) (x : Bor Path) (N : PlainPaths) → k < length xs → x ≡ get_or xs k x →
    ((q : PlainPath) → path_below (plain_path x.now) q ≡ true → Sees N q) → IsIn (lent (take k xs)) N → IsIn (lent (take (k + 1) xs)) N
taken-in xs k x N few is here all q low =
    elim (lent-split (take k xs) x q (subst (λ ys. Sees (lent ys) q) (take-next xs k x few is) low)) [
      | inl e ↦ all q e
      | inr e ↦ here q e
    ]

-- the others so far that aren't among the missing, when the next one is
pub rest-missing : (xs os : List (Bor Path)) (k : ℕ) (x : Bor Path) (M : PlainPaths) → k < length xs → x ≡ get_or xs k x →
    ((q : PlainPath) → path_below (plain_path x.now) q ≡ true → Sees M q) → IsRest (lent (take k xs)) (lent os) M →
    IsRest (lent (take (k + 1) xs)) (lent os) M
rest-missing xs os k x M few is here so = record {
  own = λ q low. subst (λ ys. Sees (lent ys) q) (sym (take-next xs k x few is)) (lent-kept (take k xs) x q (so.own q low));
  all = λ q low. elim (lent-split (take k xs) x q (subst (λ ys. Sees (lent ys) q) (take-next xs k x few is) low)) [
    | inl e ↦ so.all q e
    | inr e ↦ inr (here q e)
  ];
}

-- and when it isn't
pub rest-other : (xs os : List (Bor Path)) (k : ℕ) (x : Bor Path) (M : PlainPaths) → k < length xs → x ≡ get_or xs k x →
    IsRest (lent (take k xs)) (lent os) M → IsRest (lent (take (k + 1) xs)) (lent (os ++ x ∷ [])) M
rest-other xs os k x M few is so = record {
  own = λ q low. subst (λ ys. Sees (lent ys) q) (sym (take-next xs k x few is))
      (elim (lent-split os x q low) [
        | inl e ↦ lent-kept (take k xs) x q (so.own q e)
        | inr e ↦ lent-last (take k xs) x q e
      ]);
  all = λ q low. elim (lent-split (take k xs) x q (subst (λ ys. Sees (lent ys) q) (take-next xs k x few is) low)) [
    | inl e ↦ elim (so.all q e) [
      | inl f ↦ inl (lent-kept os x q f)
      | inr f ↦ inr f
    ]
    | inr e ↦ inl (lent-last os x q e)
  ];
}

-- A form and a base, parted.

-- the base's paths up to the place are missing
pub parted-skipped : (P N M R : PlainPaths) (ys : List Path) (n k : ℕ) → n ≤ k → IsSkipped ys n k M R → IsParted P (first_of n ys) N M →
    IsParted P (first_of k ys) N R
parted-skipped P N M R ys n k less more parts = record {
  form = λ q low. elim (parts.form q low) [
    | inl e ↦ inl (first-in ys n k less q e)
    | inr e ↦ inr e
  ];
  base = λ q low. elim (more.has q low) [
    | inl e ↦ elim (parts.base q e) [
      | inl f ↦ inl f
      | inr f ↦ inr (more.kept q f)
    ]
    | inr e ↦ inr e
  ];
  others = parts.others;
  missing = λ q low. elim (more.own q low) [
    | inl e ↦ first-in ys n k less q (parts.missing q e)
    | inr e ↦ e
  ];
}

-- the next paths of both are the same
parted-same : (N M : PlainPaths) (xs ys : List Path) (i k : ℕ) (x y : Path) → i < length xs → x ≡ get_or xs i x →
    k < length ys → y ≡ get_or ys k y → plain_path y ≡ plain_path x → IsParted (first_of i xs) (first_of k ys) N M →
    IsParted (first_of (i + 1) xs) (first_of (k + 1) ys) N M
parted-same N M xs ys i k x y few is short has same parts = record {
  form = λ q low. elim (first-split xs i x q few is low) [
    | inl e ↦ elim (parts.form q e) [
      | inl f ↦ inl (first-in ys k (k + 1) (omega arith) q f)
      | inr f ↦ inr f
    ]
    | inr e ↦ inl (first-last ys k y q short has (ap (λ p. path_below p q) same ∙ e))
  ];
  base = λ q low. elim (first-split ys k y q short has low) [
    | inl e ↦ elim (parts.base q e) [
      | inl f ↦ inl (first-in xs i (i + 1) (omega arith) q f)
      | inr f ↦ inr f
    ]
    | inr e ↦ inl (first-last xs i x q few is (ap (λ p. path_below p q) (sym same) ∙ e))
  ];
  others = λ q low. first-in xs i (i + 1) (omega arith) q (parts.others q low);
  missing = λ q low. first-in ys k (k + 1) (omega arith) q (parts.missing q low);
}

-- a path of the base is found, past others of it
pub parted-found : (N M R : PlainPaths) (xs ys : List Path) (i n k : ℕ) (x : Path) → i < length xs → x ≡ get_or xs i x →
    IsFound ys n (plain_path x) k → IsSkipped ys n k M R → IsParted (first_of i xs) (first_of n ys) N M →
    IsParted (first_of (i + 1) xs) (first_of (k + 1) ys) N R
parted-found N M R xs ys i n k x few is found more parts =
    parted-same N R xs ys i k x (get_or ys k x) few is found.few (get_or_default ys k x (get_or ys k x) found.few) (found.same x)
    (parted-skipped (first_of i xs) N M R ys n k found.past more parts)

-- the form's next path is one of the others
pub parted-other : (B M : PlainPaths) (xs : List Path) (os : List (Bor Path)) (i : ℕ) (x : Bor Path) → i < length xs →
    x.now ≡ get_or xs i x.now → IsParted (first_of i xs) B (lent os) M → IsParted (first_of (i + 1) xs) B (lent (os ++ x ∷ [])) M
parted-other B M xs os i x few is parts = record {
  form = λ q low. elim (first-split xs i x.now q few is low) [
    | inl e ↦ elim (parts.form q e) [
      | inl f ↦ inl f
      | inr f ↦ inr (lent-kept os x q f)
    ]
    | inr e ↦ inr (lent-last os x q e)
  ];
  base = λ q low. elim (parts.base q low) [
    | inl e ↦ inl (first-in xs i (i + 1) (omega arith) q e)
    | inr e ↦ inr e
  ];
  others = λ q low. elim (lent-split os x q low) [
    | inl e ↦ first-in xs i (i + 1) (omega arith) q (parts.others q e)
    | inr e ↦ first-last xs i x.now q few is e
  ];
  missing = parts.missing;
}

-- one path more is skipped
pub skipped-more : (xs : List Path) (n k : ℕ) (M : PlainPaths) (os : List (Bor Path)) (x : Bor Path) → k < length xs →
    x.now ≡ get_or xs k x.now → IsSkipped xs n k M (lent os) → IsSkipped xs n (k + 1) M (lent (os ++ x ∷ []))
skipped-more xs n k M os x few is more = record {
  kept = λ q low. lent-kept os x q (more.kept q low);
  has = λ q low. elim (first-split xs k x.now q few is low) [
    | inl e ↦ elim (more.has q e) [
      | inl f ↦ inl f
      | inr f ↦ inr (lent-kept os x q f)
    ]
    | inr e ↦ inr (lent-last os x q e)
  ];
  own = λ q low. elim (lent-split os x q low) [
    | inl e ↦ elim (more.own q e) [
      | inl f ↦ inl f
      | inr f ↦ inr (first-in xs k (k + 1) (omega arith) q f)
    ]
    | inr e ↦ inr (first-last xs k x.now q few is e)
  ];
}
