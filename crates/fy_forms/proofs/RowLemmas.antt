-- What a path adds to another is known by its members that the other lacks.
use Rattle.std.proofs.Common.{ℕ, ◌+◌, ◌<◌, ◌≡◌, zero, suc, Bool, true, false, not, ◌||◌, cond, List, [], ◌∷◌, ◌++◌, length, get_or, set, map, filter, eqb, eqb-true, eq-eqb, if◌then◌else◌, refl, ap, sym, ◌∙◌, subst, arith}
use Rattle.std.proofs.lemmas.List.{append_assoc as list_assoc, get_or-set_other}
use Rattle.fy_types.specs.declared.types.Atom.{Atom}
use Rattle.fy_types.specs.declared.paths.Path.{Path}
use Rattle.fy_types.specs.Paths.{PlainPath, PlainPaths, end, call, pick, no_paths, and_path, append, called, picked}
use Rattle.fy_types.specs.Reading.{PlainElem, a_call, a_field, front, fronted, plain_path}
use Rattle.fy_types.specs.Once.{is_same, contains, once}
use Rattle.fy_types.specs.Bounds.{meet_of, common}
use Rattle.fy_types.specs.Keeping.{added, all_added, is_some}
use Rattle.fy_types.proofs.OnceLemmas.{is_same-sound, is_same-refl}
use Rattle.fy_forms.specs.declared.rows.Member.{Member}
use Rattle.fy_forms.specs.declared.rows.Table.{Table}
use Rattle.fy_forms.specs.Rows.{PlainMember, plain_member, stands_for, IsFlagged, tagged, members, domain_at, minus, is_new, last}
use Rattle.fy_types.proofs.Laws.{append-none}
use Rattle.fy_forms.specs.Merging.{elem_domain}
use Rattle.fy_forms.proofs.KeepLemmas.{firsts, firsts-more, added-known, all_added-once}
use Rattle.fy_forms.proofs.CommonLemmas.{some-alike, some-behind}

or-true : (b : Bool) → (b || true) ≡ true
or-true true = refl
or-true false = refl

pub contains-append : (P Q : PlainPaths) (x : PlainPath) → contains P x ≡ true → contains (append P Q) x ≡ true
contains-append no_paths Q x e = absurd (cc)
contains-append (and_path p P) Q x e = step (is_same p x) (contains-append P Q x) e
  where
    step : (b : Bool) → (contains P x ≡ true → contains (append P Q) x ≡ true) → (b || contains P x) ≡ true →
        (b || contains (append P Q) x) ≡ true
    step true more h = refl
    step false more h = more h

pub contains-behind : (P Q : PlainPaths) (x : PlainPath) → contains Q x ≡ true → contains (append P Q) x ≡ true
contains-behind no_paths Q x e = e
contains-behind (and_path p P) Q x e = rw (contains-behind P Q x e) (or-true (is_same p x))

contains-added : (P : PlainPaths) (p x : PlainPath) → contains P x ≡ true → contains (added P p) x ≡ true
contains-added P p x e = cases (contains P p)
  where
    cases : (b : Bool) → contains (if b then P else append P (and_path p no_paths)) x ≡ true
    cases true = e
    cases false = contains-append P (and_path p no_paths) x e

contains-own : (P : PlainPaths) (p : PlainPath) → contains (added P p) p ≡ true
contains-own P p = cases (contains P p) refl
  where
    cases : (b : Bool) → contains P p ≡ b → contains (if b then P else append P (and_path p no_paths)) p ≡ true
    cases true e = e
    cases false e = contains-behind P (and_path p no_paths) p (rw (is_same-refl p) refl)

pub contains-all_added : (P Q : PlainPaths) (x : PlainPath) → contains P x ≡ true → contains (all_added P Q) x ≡ true
contains-all_added P no_paths x e = e
contains-all_added P (and_path q Q) x e = contains-all_added (added P q) Q x (contains-added P q x e)

pub contains-all_behind : (P Q : PlainPaths) (x : PlainPath) → contains Q x ≡ true → contains (all_added P Q) x ≡ true
contains-all_behind P no_paths x e = absurd (cc)
contains-all_behind P (and_path q Q) x e = step (is_same q x) refl (contains-all_behind (added P q) Q x) e
  where
    step : (b : Bool) → is_same q x ≡ b → (contains Q x ≡ true → contains (all_added (added P q) Q) x ≡ true) → (b || contains Q x) ≡ true →
        contains (all_added (added P q) Q) x ≡ true
    step true same more h = contains-all_added (added P q) Q x (subst (λ y. contains (added P q) y ≡ true) (is_same-sound q x same) (contains-own P q))
    step false same more h = more h

-- paths that the list has change nothing
pub all-known : (A Q : PlainPaths) → ((x : PlainPath) → contains Q x ≡ true → contains A x ≡ true) → all_added A Q ≡ A
all-known A no_paths held = refl
all-known A (and_path q Q) held =
    ap (λ X. all_added X Q) (added-known A q (held q (rw (is_same-refl q) refl)))
    ∙ all-known A Q (λ x e. held x (rw e (or-true (is_same q x))))

contains-once : (P : PlainPaths) (x : PlainPath) → contains P x ≡ true → contains (once P) x ≡ true
contains-once P x e = subst (λ X. contains X x ≡ true) (all_added-once no_paths P) (contains-all_behind no_paths P x e)

all_added-minus : (D A E : PlainPaths) → ((x : PlainPath) → contains D x ≡ true → contains A x ≡ true) → all_added A E ≡ all_added A (minus D E)
all_added-minus D A no_paths held = refl
all_added-minus D A (and_path e E) held = cases (contains D e) refl (λ B more. all_added-minus D B E more)
  where
    cases : (b : Bool) → contains D e ≡ b →
        ((B : PlainPaths) → ((x : PlainPath) → contains D x ≡ true → contains B x ≡ true) → all_added B E ≡ all_added B (minus D E)) →
        all_added (added A e) E ≡ all_added A (if b then minus D E else and_path e (minus D E))
    cases true h rest = ap (λ X. all_added X E) (added-known A e (held e h)) ∙ rest A held
    cases false h rest = rest (added A e) (λ x k. contains-added A e x (held x k))

-- a meet needs only what the first list lacks
meet-minus : (D E : PlainPaths) → meet_of D E ≡ meet_of D (minus D E)
meet-minus D E = sym (all_added-once D E) ∙ (all_added-minus D (once D) E (contains-once D) ∙ all_added-once D (minus D E))

-- paths with the same elements and end, that add the same to the domains, have the same common path
pub common-same : (q r p : PlainPath) → is_some (common q r) ≡ true → last q ≡ last r →
    ((j : ℕ) → minus (domain_at p j) (domain_at q j) ≡ minus (domain_at p j) (domain_at r j)) → common p q ≡ common p r
common-same (end a) (end b) p some ends same = ap (λ c. common p (end c)) ends
common-same (end a) (call E r) p some ends same = absurd (cc)
common-same (end a) (pick j r) p some ends same = absurd (cc)
common-same (call D q) (end b) p some ends same = absurd (cc)
common-same (call D q) (pick j r) p some ends same = absurd (cc)
common-same (pick i q) (end b) p some ends same = absurd (cc)
common-same (pick i q) (call E r) p some ends same = absurd (cc)
common-same (call D q) (call E r) (end a) some ends same = refl
common-same (call D q) (call E r) (pick k p) some ends same = refl
common-same (call D q) (call E r) (call C p) some ends same =
    ap (λ M. called M (common p q)) (meet-minus C D ∙ (ap (meet_of C) (same 0) ∙ sym (meet-minus C E)))
    ∙ ap (called (meet_of C E)) (common-same q r p (some-behind (a_call D) (a_call E) q r some) ends (λ j. same (suc j)))
common-same (pick i q) (pick j r) (end a) some ends same = refl
common-same (pick i q) (pick j r) (call C p) some ends same = refl
common-same (pick i q) (pick j r) (pick k p) some ends same =
    ap (λ n. if eqb k n then picked k (common p q) else no_paths) (eqb-true i j (some-alike (a_field i) (a_field j) q r some))
    ∙ ap (λ P. if eqb k j then picked k P else no_paths)
    (common-same q r p (some-behind (a_field i) (a_field j) q r some) ends (λ n. same (suc n)))

-- the paths of the members at a place
abbrev select : ℕ → List PlainMember → PlainPaths
select j [] = no_paths
select j (m ∷ ms) = if eqb m.0 j then and_path m.1 (select j ms) else select j ms

eqb-apart : (k n : ℕ) → (k ≡ n → ⊥) → eqb k n ≡ false
eqb-apart k n other = cases (eqb k n) refl
  where
    cases : (b : Bool) → eqb k n ≡ b → b ≡ false
    cases true e = absurd (other (eqb-true k n e))
    cases false e = refl

select-here : (k : ℕ) (D : PlainPaths) (ms : List PlainMember) → select k (tagged k D ++ ms) ≡ append D (select k ms)
select-here k no_paths ms = refl
select-here k (and_path p D) ms = rw (eq-eqb k k refl) (ap (and_path p) (select-here k D ms))

select-past : (k n : ℕ) (D : PlainPaths) (ms : List PlainMember) → (k ≡ n → ⊥) → select n (tagged k D ++ ms) ≡ select n ms
select-past k n no_paths ms other = refl
select-past k n (and_path p D) ms other = rw (eqb-apart k n other) (select-past k n D ms other)

select-low : (k n : ℕ) (q : PlainPath) → n < k → select n (members k q) ≡ no_paths
select-low k n (end a) low = refl
select-low k n (call D q) low = select-past k n D (members (k + 1) q) (λ e. omega arith) ∙ select-low (k + 1) n q (omega arith)
select-low k n (pick i q) low = select-low (k + 1) n q (omega arith)

select-members : (k j n : ℕ) (q : PlainPath) → n ≡ j + k → select n (members k q) ≡ domain_at q j
select-members k j n (end a) is = refl
select-members k zero n (call D q) is =
    let same : k ≡ n = omega arith in
    subst (λ m. select m (tagged k D ++ members (k + 1) q) ≡ D) same
    (select-here k D (members (k + 1) q) ∙ (ap (append D) (select-low (k + 1) k q (omega arith)) ∙ append-none D))
select-members k (suc j) n (call D q) is =
    select-past k n D (members (k + 1) q) (λ e. omega arith) ∙ select-members (k + 1) j n q (omega arith)
select-members k zero n (pick i q) is = select-low (k + 1) n q (omega arith)
select-members k (suc j) n (pick i q) is = select-members (k + 1) j n q (omega arith)

select-new : (p : PlainPath) (j : ℕ) (ms : List PlainMember) → select j (filter (is_new p) ms) ≡ minus (domain_at p j) (select j ms)
select-new p j [] = refl
select-new p j (m ∷ ms) = step (eqb m.0 j) refl (contains (domain_at p m.0) m.1) refl (select-new p j ms)
  where
    step : (b : Bool) → eqb m.0 j ≡ b → (c : Bool) → contains (domain_at p m.0) m.1 ≡ c →
        select j (filter (is_new p) ms) ≡ minus (domain_at p j) (select j ms) →
        select j (cond (not c) (m ∷ filter (is_new p) ms) (filter (is_new p) ms))
        ≡ minus (domain_at p j) (if b then and_path m.1 (select j ms) else select j ms)
    step true e true h more =
        let held : contains (domain_at p j) m.1 ≡ true = subst (λ n. contains (domain_at p n) m.1 ≡ true) (eqb-true m.0 j e) h in
        rw held more
    step true e false h more =
        let lacked : contains (domain_at p j) m.1 ≡ false = subst (λ n. contains (domain_at p n) m.1 ≡ false) (eqb-true m.0 j e) h in
        rw (lacked, e) (ap (and_path m.1) more)
    step false e true h more = more
    step false e false h more = rw e more

-- paths with the same new members add the same to each domain
pub new-same : (q r p : PlainPath) → filter (is_new p) (members 0 q) ≡ filter (is_new p) (members 0 r) →
    (j : ℕ) → minus (domain_at p j) (domain_at q j) ≡ minus (domain_at p j) (domain_at r j)
new-same q r p same j = sym (of q) ∙ (ap (select j) same ∙ of r)
  where
    of : (s : PlainPath) → select j (filter (is_new p) (members 0 s)) ≡ minus (domain_at p j) (domain_at s j)
    of s = select-new p j (members 0 s) ∙ ap (minus (domain_at p j)) (select-members 0 j j s (omega arith))

-- what is left out isn't new
pub filter-known : (h : ℕ → PlainMember) (f : ℕ → Bool) (g : PlainMember → Bool) → ((i : ℕ) → f i ≡ false → g (h i) ≡ false) → (is : List ℕ) →
    filter g (map h is) ≡ filter g (map h (filter f is))
filter-known h f g known [] = refl
filter-known h f g known (i ∷ is) = step (f i) refl (filter-known h f g known is)
  where
    step : (b : Bool) → f i ≡ b → filter g (map h is) ≡ filter g (map h (filter f is)) →
        cond (g (h i)) (h i ∷ filter g (map h is)) (filter g (map h is)) ≡ filter g (map h (cond b (i ∷ filter f is) (filter f is)))
    step true e more = ap (λ X. cond (g (h i)) (h i ∷ X) X) more
    step false e more = rw (known i e) more

pub members-front : (k : ℕ) (x : PlainElem) (p : PlainPath) → members k (front x p) ≡ tagged k (elem_domain x) ++ members (k + 1) p
members-front k (a_call D) p = refl
members-front k (a_field i) p = refl

pub last-fronted : (xs : List PlainElem) (a : Atom) → last (fronted xs (end a)) ≡ a
last-fronted [] a = refl
last-fronted (a_call D ∷ xs) a = last-fronted xs a
last-fronted (a_field i ∷ xs) a = last-fronted xs a

pub tagged-more : (L : List PlainMember) (k : ℕ) (xs : List Path) (i : ℕ) (x : Path) → i < length xs → x ≡ get_or xs i x →
    (L ++ tagged k (firsts i xs)) ++ ((k, plain_path x) ∷ []) ≡ L ++ tagged k (firsts (i + 1) xs)
tagged-more L k xs i x within is =
    list_assoc L (tagged k (firsts i xs)) ((k, plain_path x) ∷ [])
    ∙ ap (λ X. L ++ X) (sym (ap (tagged k) (firsts-more xs i x within is) ∙ push (firsts i xs)))
  where
    push : (P : PlainPaths) → tagged k (append P (and_path (plain_path x) no_paths)) ≡ tagged k P ++ ((k, plain_path x) ∷ [])
    push no_paths = refl
    push (and_path p P) = ap (λ X. (k, p) ∷ X) (push P)

select-own : (ms : List Member) (i : ℕ) (x : Member) → i < length ms → x ≡ get_or ms i x →
    contains (select x.place (map plain_member ms)) (plain_path x.path.now) ≡ true
select-own [] i x within at = absurd (omega arith)
select-own (m ∷ ms) zero x within at =
    subst (λ (y : Member). contains (select y.place (map plain_member (m ∷ ms))) (plain_path y.path.now) ≡ true) (sym at)
    (rw (eq-eqb m.place m.place refl, is_same-refl (plain_path m.path.now)) refl)
select-own (m ∷ ms) (suc i) x within at = step (eqb m.place x.place) (select-own ms i x (omega arith) at)
  where
    step : (b : Bool) → contains (select x.place (map plain_member ms)) (plain_path x.path.now) ≡ true →
        contains (if b then and_path (plain_path m.path.now) (select x.place (map plain_member ms)) else select x.place (map plain_member ms)) (plain_path x.path.now) ≡ true
    step true e = rw e (or-true (is_same (plain_path m.path.now) (plain_path x.path.now)))
    step false e = e

-- a path has its members
pub member-known : (p : PlainPath) (ms : List Member) (i : ℕ) (x : Member) → map plain_member ms ≡ members 0 p → i < length ms → x ≡ get_or ms i x →
    is_new p (plain_member x) ≡ false
member-known p ms i x are within at =
    ap not (subst (λ P. contains P (plain_path x.path.now) ≡ true)
    (ap (select x.place) are ∙ select-members 0 x.place x.place p (omega arith)) (select-own ms i x within at))

-- one more flag
pub flagged-set : (t : Table) (F : List Bool) (p : PlainPath) (k : ℕ) (x : Member) → IsFlagged t F p → k < length F →
    stands_for t k ≡ plain_member x → is_new p (plain_member x) ≡ false → IsFlagged t (set F k true) p
flagged-set t F p k x flagged within is known i e = step (eqb i k) refl
  where
    step : (b : Bool) → eqb i k ≡ b → is_new p (stands_for t i) ≡ false
    step true same = rw (eqb-true i k same, is) known
    step false other = flagged i (sym (get_or-set_other F k i true false (λ s. absurd (apart s))) ∙ e)
      where
        apart : i ≡ k → ⊥
        apart s = let t : eqb i k ≡ true = eq-eqb i k s in cc
