-- Runs of bytes, tables and decimal numbers.
use Rattle.std.proofs.Common.{◌≡◌, ℕ, suc, ◌+◌, ◌-◌, ◌*◌, ◌/◌, ◌<◌, ◌≤◌, Bool, true, false, ◌&&◌, ◌||◌, cond, List, [], ◌∷◌, ◌++◌, length, take, drop, get_or, fold, map, refl, sym, ap, subst, ◌∙◌, arith, Some, None, slice_get, length-append, length-take, drop-cons, add-one, Bor}
use Rattle.std.specs.List.{list_all, list_any, prefix_len}
use Rattle.std.specs.Map.{lookup}
use Rattle.std.specs.Str.{bytes_eq}
use Rattle.std.proofs.lemmas.Slice.Eq.{bytes_eq-Decides}
use Rattle.std.proofs.lemmas.List.Folds.{list_all-append}
use Rattle.fy_base.specs.Outside.{Bytes}
use Rattle.fy_lexer.specs.Reading.{table_of}
use Rattle.fy_lexer.specs.Spot.{Spot, Moved}
use Rattle.fy_lexer.proofs.ReadingLemmas.{Took, Moved-one, Moved-then}

pub and-left : (a b : Bool) → (a && b) ≡ true → a ≡ true
and-left true b h = refl
and-left false b h = h

pub and-right : (a b : Bool) → (a && b) ≡ true → b ≡ true
and-right true b h = h
and-right false b h = cc

pub and-both : (a b : Bool) → a ≡ true → b ≡ true → (a && b) ≡ true
and-both a b h k = ap (λ x. x && b) h ∙ k

-- the first bytes with one more
take-one_more : (a : Bytes) (b : ℕ) (r : Bytes) (n : ℕ) → n ≡ length a + 1 → take n (a ++ b ∷ r) ≡ a ++ b ∷ []
take-one_more [] b r n e = let i : n ≡ 1 = omega (arith, e) in ap (λ k. take k (b ∷ r)) i
take-one_more (x ∷ a) b r n e =
    let i : n ≡ suc (length a + 1) = omega (arith, e) in
    ap (λ k. take k (x ∷ a ++ b ∷ r)) i ∙ ap (λ l. x ∷ l) (take-one_more a b r (length a + 1) refl)

-- a run that goes on over one more byte
pub run-more : (p : ℕ → Bool) (text : Bytes) (len : ℕ) (old mid new : Spot) (b : ℕ) → len ≤ length text → text ≡ old.rest → Moved old (take len text) mid → Took mid b new → p b ≡ true → list_all p (take len text) ≡ true
    → (len + 1 ≤ length text) × Moved old (take (len + 1) text) new × (list_all p (take (len + 1) text) ≡ true)
run-more p text len old mid new b h i m t g all =
    let front : Bytes = take len text in
    let split : text ≡ front ++ b ∷ new.rest = i ∙ m.text ∙ ap (λ l. front ++ l) t.0 in
    let size : length front ≡ len = length-take len text ∙ omega (arith, h) in
    let next : take (len + 1) text ≡ front ++ b ∷ [] = ap (take (len + 1)) split ∙ take-one_more front b new.rest (len + 1) (omega (arith, size)) in
    let total : length text ≡ length front + length (b ∷ new.rest) = ap length split ∙ length-append front (b ∷ new.rest) in (
      omega (arith, total, size),
      subst (λ l. Moved old l new) (sym next) (Moved-then old mid new front (b ∷ []) m (Moved-one mid new b t)),
      ap (list_all p) next ∙ list_all-append p front (b ∷ []) ∙ and-both _ _ all (and-both _ _ g refl),
    )

pub stop-some : (p : ℕ → Bool) (rest : Bytes) (b : ℕ) → slice_get rest 0 ≡ Some b → p b ≡ false → prefix_len p rest ≡ 0
stop-some p [] b h g = cc
stop-some p (x ∷ rest) b h g = let e : x ≡ b = cc in ap (λ t. cond t (1 + prefix_len p rest) 0) (ap p e ∙ g)

pub stop-none : (p : ℕ → Bool) (rest : Bytes) → slice_get rest 0 ≡ None → prefix_len p rest ≡ 0
stop-none p [] h = refl
stop-none p (x ∷ rest) h = cc

-- a run is as long as any beginning of its class
pub run-longest : (p : ℕ → Bool) (a b r r' : Bytes) → list_all p b ≡ true → prefix_len p r ≡ 0 → a ++ r ≡ b ++ r' → length b ≤ length a
run-longest p [] [] r r' h g e = omega arith
run-longest p [] (x ∷ b) r r' h g e =
    let w : cond (p x) (1 + prefix_len p (b ++ r')) 0 ≡ 0 = sym (ap (prefix_len p) e) ∙ g in
    let v : 1 + prefix_len p (b ++ r') ≡ 0 = sym (ap (λ t. cond t (1 + prefix_len p (b ++ r')) 0) (and-left _ _ h)) ∙ w in
    absurd (omega (arith, v))
run-longest p (y ∷ a) [] r r' h g e = omega arith
run-longest p (y ∷ a) (x ∷ b) r r' h g e =
    let t : a ++ r ≡ b ++ r' = cc in
    let u : list_all p b ≡ true = and-right (p x) (list_all p b) h in
    let k : length b ≤ length a = run-longest p a b r r' u g t in omega (arith, k)

-- tables
pub lookup-here : {T : Type 0} (text : Bytes) (xs : List (Bor Bytes × T)) (i : ℕ) (x : Bor Bytes × T) → i < length xs → x ≡ get_or xs i x → bytes_eq text x.0.now ≡ true → lookup (bytes_eq text) (table_of (drop i xs)) ≡ Some x.1
lookup-here text xs i x h e t =
    ap (λ l. lookup (bytes_eq text) (table_of l)) (drop-cons xs i x h ∙ ap (λ y. y ∷ drop (suc i) xs) (sym e))
    ∙ ap (λ b. cond b (Some x.1) (lookup (bytes_eq text) (table_of (drop (suc i) xs)))) t

pub lookup-later : {T : Type 0} (text : Bytes) (xs : List (Bor Bytes × T)) (i : ℕ) (x : Bor Bytes × T) → i < length xs → x ≡ get_or xs i x → bytes_eq text x.0.now ≡ false → lookup (bytes_eq text) (table_of (drop i xs)) ≡ lookup (bytes_eq text) (table_of (drop (i + 1) xs))
lookup-later text xs i x h e t =
    ap (λ l. lookup (bytes_eq text) (table_of l)) (drop-cons xs i x h ∙ ap (λ y. y ∷ drop (suc i) xs) (sym e))
    ∙ ap (λ b. cond b (Some x.1) (lookup (bytes_eq text) (table_of (drop (suc i) xs)))) t
    ∙ rw (add-one i) refl

lookup_step : {T : Type 0} (q : Bytes → Bool) (piece : Bytes) (x : Bytes × T) (table : List (Bytes × T)) (v : T) (b : Bool) → bytes_eq piece x.0 ≡ b → q x.0 ≡ true → (lookup (bytes_eq piece) table ≡ Some v → q piece ≡ true)
    → lookup (bytes_eq piece) (x ∷ table) ≡ Some v → q piece ≡ true
lookup_step q piece x table v true t h f e = ap q ((bytes_eq-Decides piece x.0).0 t) ∙ h
lookup_step q piece x table v false t h f e = f (sym (ap (λ b. cond b (Some x.1) (lookup (bytes_eq piece) table)) t) ∙ e)

-- what holds of each text of a table holds of a text that the table has
pub lookup-all : {T : Type 0} (q : Bytes → Bool) (table : List (Bytes × T)) (piece : Bytes) (v : T) → list_all (λ e. q e.0) table ≡ true → lookup (bytes_eq piece) table ≡ Some v → q piece ≡ true
lookup-all q [] piece v h e = cc
lookup-all q (x ∷ table) piece v h e = lookup_step q piece x table v (bytes_eq piece x.0) refl (and-left _ _ h) (lookup-all q table piece v (and-right _ _ h)) e

any_step : {T : Type 0} (test : Bytes → Bool) (x : Bytes × T) (table : List (Bytes × T)) (v : T) (b : Bool) → test x.0 ≡ b → (lookup test table ≡ Some v → list_any test (map (λ e. e.0) table) ≡ true)
    → lookup test (x ∷ table) ≡ Some v → list_any test (map (λ e. e.0) (x ∷ table)) ≡ true
any_step test x table v true t f e = ap (λ b. b || list_any test (map (λ e. e.0) table)) t
any_step test x table v false t f e =
    ap (λ b. b || list_any test (map (λ e. e.0) table)) t ∙ f (sym (ap (λ b. cond b (Some x.1) (lookup test table)) t) ∙ e)

pub lookup-any : {T : Type 0} (test : Bytes → Bool) (table : List (Bytes × T)) (v : T) → lookup test table ≡ Some v → list_any test (map (λ e. e.0) table) ≡ true
lookup-any test [] v e = cc
lookup-any test (x ∷ table) v e = any_step test x table v (test x.0) refl (lookup-any test table v) e

no_step : {T : Type 0} (test : Bytes → Bool) (x : Bytes × T) (table : List (Bytes × T)) (b : Bool) → test x.0 ≡ b → (lookup test table ≡ None → list_any test (map (λ e. e.0) table) ≡ false)
    → lookup test (x ∷ table) ≡ None → list_any test (map (λ e. e.0) (x ∷ table)) ≡ false
no_step test x table true t f e = let u : Some x.1 ≡ None = sym (ap (λ b. cond b (Some x.1) (lookup test table)) t) ∙ e in cc
no_step test x table false t f e =
    ap (λ b. b || list_any test (map (λ e. e.0) table)) t ∙ f (sym (ap (λ b. cond b (Some x.1) (lookup test table)) t) ∙ e)

pub lookup-no : {T : Type 0} (test : Bytes → Bool) (table : List (Bytes × T)) → lookup test table ≡ None → list_any test (map (λ e. e.0) table) ≡ false
lookup-no test [] e = refl
lookup-no test (x ∷ table) e = no_step test x table (test x.0) refl (lookup-no test table) e

-- decimal numbers
abbrev pub grown : ℕ → Bytes → ℕ
grown value digits = fold (λ value digit. 10 * value + (digit - 48)) value digits

pub grown-le : (digits : Bytes) (value : ℕ) → value ≤ grown value digits
grown-le [] value = omega arith
grown-le (d ∷ digits) value = let k : 10 * value + (d - 48) ≤ grown (10 * value + (d - 48)) digits = grown-le digits (10 * value + (d - 48)) in omega (arith, k)

pub grown-step : (xs : Bytes) (i value : ℕ) → i < length xs → grown value (drop i xs) ≡ grown (10 * value + (get_or xs i 0 - 48)) (drop (i + 1) xs)
grown-step xs i value h = ap (grown value) (drop-cons xs i 0 h) ∙ rw (add-one i) refl

-- a digit past which a number is past the limit
pub grown-large : (xs : Bytes) (i value d : ℕ) → i < length xs → d ≡ get_or xs i 0 - 48 → (9223372036854775807 - d) / 10 < value → 9223372036854775808 ≤ grown value (drop i xs)
grown-large xs i value d h e l =
    let k : 10 * value + (get_or xs i 0 - 48) ≤ grown (10 * value + (get_or xs i 0 - 48)) (drop (i + 1) xs) = grown-le (drop (i + 1) xs) (10 * value + (get_or xs i 0 - 48)) in
    let s = grown-step xs i value h in
    omega (arith, k, s, e)
