-- Common paths with those of a key alone, and with a list of lent paths.
use Rattle.std.proofs.Common.{ℕ, ◌+◌, ◌<◌, ◌%◌, ◌≡◌, eq-eqb, Bool, true, false, cond, List, [], ◌∷◌, ◌++◌, length, map, filter, take, drop, get_or, eqb, eqb-true, if◌then◌else◌, refl, ap, sym, ◌∙◌, subst}
use Rattle.std.proofs.lemmas.List.{take-append-drop, take_more}
use Rattle.std.proofs.lemmas.Cmp.{tied_itself, nat_cmp_total}
use Rattle.std.proofs.lemmas.Map.Lookups.{exact_unsigned}
use Rattle.std.specs.Borrow.{Bor}
use Rattle.std.specs.Ordering.{is_eq, nat_cmp}
use Rattle.fy_types.specs.declared.paths.Path.{Path}
use Rattle.fy_types.specs.declared.paths.Paths.{Paths}
use Rattle.fy_types.specs.Paths.{PlainPath, PlainPaths, end, call, pick, no_paths, and_path, append, called, picked}
use Rattle.fy_types.specs.Reading.{plain_path, plain_paths, paths_from}
use Rattle.fy_types.specs.Limits.{IsTooLarge}
use Rattle.fy_types.specs.Bounds.{meet_of, is_end_low, common, commons_with}
use Rattle.fy_types.specs.Keeping.{all_added}
use Rattle.fy_forms.specs.Numbers.{mixed, class, key_from, key_of}
use Rattle.fy_forms.specs.declared.index.Groups.{Groups}
use Rattle.fy_forms.specs.Keys.{IsIndex, group_at, has_slot, lent}
use Rattle.fy_types.proofs.BoundLemmas.{is_end_low-sound}
use Rattle.fy_types.proofs.Laws.{append-none}
use Rattle.fy_forms.proofs.KeepLemmas.{commons_with-append, all_added-append, large-all_added}
use Rattle.fy_forms.proofs.KeyLemmas.{class-below, is_equal, lent-now, lent-append}

-- paths whose keys differ have no common path
common-apart : (n : ℕ) (p q : PlainPath) → is_eq (nat_cmp (key_from n q) (key_from n p)) ≡ false → common p q ≡ no_paths
common-apart n (end a) (end b) apart = first (is_end_low a b) refl
  where
    other : class a ≡ class b → ⊥
    other e =
        let tied : is_eq (nat_cmp (mixed n (class b)) (mixed n (class a))) ≡ true =
        rw e (ap is_eq (tied_itself nat_cmp_total (mixed n (class b)))) in cc

    second : (low : Bool) → is_end_low b a ≡ low → (if low then and_path (end a) no_paths else no_paths) ≡ no_paths
    second true e = absurd (other (sym (class-below (is_end_low-sound b a e))))
    second false e = refl

    first : (low : Bool) → is_end_low a b ≡ low →
        (if low then and_path (end b) no_paths else (if is_end_low b a then and_path (end a) no_paths else no_paths)) ≡ no_paths
    first true e = absurd (other (class-below (is_end_low-sound a b e)))
    first false e = second (is_end_low b a) refl
common-apart n (end a) (call E q) apart = refl
common-apart n (end a) (pick j q) apart = refl
common-apart n (call D p) (end b) apart = refl
common-apart n (call D p) (call E q) apart = ap (called (meet_of D E)) (common-apart (mixed n 0) p q apart)
common-apart n (call D p) (pick j q) apart = refl
common-apart n (pick i p) (end b) apart = refl
common-apart n (pick i p) (call E q) apart = refl
common-apart n (pick i p) (pick j q) apart = cases (eqb i j) refl (common-apart (mixed n (i + 1)) p q)
  where
    cases : (b : Bool) → eqb i j ≡ b →
        (is_eq (nat_cmp (key_from (mixed n (i + 1)) q) (key_from (mixed n (i + 1)) p)) ≡ false → common p q ≡ no_paths) →
        (if b then picked i (common p q) else no_paths) ≡ no_paths
    cases false e rest = refl
    cases true e rest =
        ap (picked i) (rest (subst (λ k. is_eq (nat_cmp (key_from (mixed n (k + 1)) q) (key_from (mixed n (i + 1)) p)) ≡ false) (sym (eqb-true i j e)) apart))

-- paths whose slots differ have no one key
slots-apart : (n : ℕ) (p : PlainPath) (q : Path) → has_slot n (key_of p) q ≡ false → is_eq (nat_cmp (key_of (plain_path q)) (key_of p)) ≡ false
slots-apart n p q apart = step (is_eq (nat_cmp (key_of (plain_path q)) (key_of p))) refl
  where
    step : (b : Bool) → is_eq (nat_cmp (key_of (plain_path q)) (key_of p)) ≡ b → b ≡ false
    step false e = refl
    step true e =
        let same : key_of (plain_path q) ≡ key_of p =
        exact_unsigned (key_of (plain_path q)) (key_of p) (is_equal (nat_cmp (key_of (plain_path q)) (key_of p)) e) in
        let near = eq-eqb (key_of (plain_path q) % n) (key_of p % n) (ap (λ k. k % n) same) in
        absurd (cc)

commons-slot : (n : ℕ) (p : PlainPath) (ps : List Path) →
    commons_with p (paths_from (map plain_path (filter (has_slot n (key_of p)) ps))) ≡ commons_with p (paths_from (map plain_path ps))
commons-slot n p [] = refl
commons-slot n p (q ∷ ps) = step (has_slot n (key_of p) q) refl (commons-slot n p ps)
  where
    step : (b : Bool) → has_slot n (key_of p) q ≡ b →
        commons_with p (paths_from (map plain_path (filter (has_slot n (key_of p)) ps))) ≡ commons_with p (paths_from (map plain_path ps)) →
        commons_with p (paths_from (map plain_path (cond b (q ∷ filter (has_slot n (key_of p)) ps) (filter (has_slot n (key_of p)) ps))))
        ≡ append (common p (plain_path q)) (commons_with p (paths_from (map plain_path ps)))
    step true e rest = ap (append (common p (plain_path q))) rest
    step false e rest = rw (common-apart 0 p (plain_path q) (slots-apart n p q e)) rest

-- the common paths with the candidates are those with the whole list
pub commons-by_index : (m : Groups) (l : Paths) (p : PlainPath) (ps : List Path) (list : List (Bor Path)) →
    IsIndex m ps → list ≡ group_at m (key_of p) → plain_paths l ≡ paths_from (map plain_path ps) →
    commons_with p (lent list) ≡ commons_with p (plain_paths l)
commons-by_index m l p ps list index at form =
    ap (commons_with p) (lent-now list ∙ ap (λ xs. paths_from (map plain_path (map (λ (x : Bor Path). x.now) xs))) at
    ∙ ap (λ xs. paths_from (map plain_path xs)) (index (key_of p)))
    ∙ (commons-slot (length m.lists.items) p ps ∙ ap (commons_with p) (sym form))

lents-more : (xs : List (Bor Path)) (i : ℕ) (x : Bor Path) → i < length xs → x ≡ get_or xs i x →
    lent (take (i + 1) xs) ≡ append (lent (take i xs)) (and_path (plain_path x.now) no_paths)
lents-more xs i x within is =
    ap lent (take_more xs i x within ∙ ap (λ y. take i xs ++ (y ∷ [])) (sym is)) ∙ lent-append (take i xs) (x ∷ [])

-- keeping the common paths of a path with one more lent path
pub commons_lent-more : (P : PlainPaths) (p : PlainPath) (xs : List (Bor Path)) (i : ℕ) (x : Bor Path) → i < length xs → x ≡ get_or xs i x →
    all_added (all_added P (commons_with p (lent (take i xs)))) (common p (plain_path x.now)) ≡ all_added P (commons_with p (lent (take (i + 1) xs)))
commons_lent-more P p xs i x within is =
    sym (ap (λ X. all_added P (commons_with p X)) (lents-more xs i x within is)
    ∙ (ap (all_added P) (commons_with-append p (lent (take i xs)) (and_path (plain_path x.now) no_paths)
    ∙ ap (append (commons_with p (lent (take i xs)))) (append-none (common p (plain_path x.now))))
    ∙ all_added-append P (commons_with p (lent (take i xs))) (common p (plain_path x.now))))

pub large-commons_lent : (P : PlainPaths) (p : PlainPath) (xs : List (Bor Path)) (i : ℕ) →
    IsTooLarge (all_added P (commons_with p (lent (take i xs)))) → IsTooLarge (all_added P (commons_with p (lent xs)))
large-commons_lent P p xs i large =
    subst IsTooLarge
    (sym (all_added-append P (commons_with p (lent (take i xs))) (commons_with p (lent (drop i xs))))
    ∙ ap (all_added P) (sym (commons_with-append p (lent (take i xs)) (lent (drop i xs)))
    ∙ ap (commons_with p) (sym (lent-append (take i xs) (drop i xs)) ∙ ap lent (take-append-drop i xs))))
    (large-all_added (all_added P (commons_with p (lent (take i xs)))) (commons_with p (lent (drop i xs))) large)
