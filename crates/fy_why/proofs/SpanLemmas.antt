-- Parts with what stands in front of them, by index.
use Rattle.std.proofs.Common.{ℕ, zero, suc, ◌+◌, ◌-◌, ◌<◌, ◌≤◌, ◌≡◌, ◌≢◌, List, [], ◌∷◌, ◌++◌, length, map, drop, get_or, append_assoc, Option, Some, refl, sym, ap, ◌∙◌, arith}
use Rattle.std.specs.Prelude.{slice_get, codes, replicate}
use Rattle.fy_base.specs.Outside.{Bytes}
use Rattle.fy_types.proofs.Steps.{drop_item}
use Rattle.fy_phrase.specs.declared.phrase.Phrase.{Phrase}
use Rattle.fy_phrase.specs.Reads.{reads, trees_from}
use Rattle.fy_show.specs.Entries.{Scope, Known}
use Rattle.fy_why.specs.Carets.{Span, cut_part, each}

pub less_one : (n : ℕ) → suc n - 1 ≡ n
less_one n = omega arith

-- behind the first
pub span-later : (x : Span) (xs : List Span) (i : ℕ) → i ≢ 0 → slice_get xs (i - 1) ≡ slice_get (x ∷ xs) i
span-later x xs zero some = absurd (some refl)
span-later x xs (suc i) some = ap (slice_get xs) (less_one i)

-- the parts of a `seq` that are left
each-left : (k : Known) (s : Scope) (F : Bytes) (xs : List Phrase) (i : ℕ) (x : Phrase) → i < length xs → x ≡ get_or xs i x →
    each k s F (trees_from (map reads (drop i xs)))
    ≡ (F, cut_part k s 3 (reads x)) ∷ each k s (F ++ cut_part k s 3 (reads x) ++ codes ", ") (trees_from (map reads (drop (i + 1) xs)))
each-left k s F xs i x within is = ap (λ ts. each k s F (trees_from ts)) (drop_item reads xs i x within is)

pub each-here : (k : Known) (s : Scope) (F : Bytes) (xs : List Phrase) (i j : ℕ) (x : Phrase) (o : Option Span) → i < length xs → x ≡ get_or xs i x →
    i ≡ j → slice_get (each k s F (trees_from (map reads (drop i xs)))) (j - i) ≡ o → Some (F, cut_part k s 3 (reads x)) ≡ o
each-here k s F xs i j x o within is here so_far =
    let none : 0 ≡ j - i = omega arith in
    let ts = trees_from (map reads (drop (i + 1) xs)) in
    ap (slice_get ((F, cut_part k s 3 (reads x)) ∷ each k s (F ++ cut_part k s 3 (reads x) ++ codes ", ") ts)) none
    ∙ (sym (ap (λ ys. slice_get ys (j - i)) (each-left k s F xs i x within is)) ∙ so_far)

pub each-later : (k : Known) (s : Scope) (F N : Bytes) (xs : List Phrase) (i j : ℕ) (x : Phrase) (o : Option Span) → i < length xs → x ≡ get_or xs i x →
    i ≤ j → i ≢ j → N ≡ F ++ cut_part k s 3 (reads x) ++ codes ", " → slice_get (each k s F (trees_from (map reads (drop i xs)))) (j - i) ≡ o →
    slice_get (each k s N (trees_from (map reads (drop (i + 1) xs)))) (j - (i + 1)) ≡ o
each-later k s F N xs i j x o within is low apart more so_far =
    let some : j - i ≢ 0 = λ e. apart (omega arith) in
    let next : j - (i + 1) ≡ j - i - 1 = omega arith in
    let ts = trees_from (map reads (drop (i + 1) xs)) in
    ap (λ f. slice_get (each k s f ts) (j - (i + 1))) more
    ∙ (ap (slice_get (each k s (F ++ cut_part k s 3 (reads x) ++ codes ", ") ts)) next
    ∙ (span-later (F, cut_part k s 3 (reads x)) (each k s (F ++ cut_part k s 3 (reads x) ++ codes ", ") ts) (j - i) some
    ∙ (sym (ap (λ ys. slice_get ys (j - i)) (each-left k s F xs i x within is)) ∙ so_far)))

-- a byte more
pub put-more : (old new : Bytes) (b n i : ℕ) (W : Bytes) → i < n → new ≡ old ++ b ∷ [] → old ++ replicate (n - i) b ≡ W → new ++ replicate (n - (i + 1)) b ≡ W
put-more old new b n i W within pushed so_far =
    let next : suc (n - (i + 1)) ≡ n - i = omega arith in
    ap (λ ys. ys ++ replicate (n - (i + 1)) b) pushed
    ∙ (append_assoc old (b ∷ []) (replicate (n - (i + 1)) b) ∙ (ap (λ m. old ++ replicate m b) next ∙ so_far))

-- words one behind the other
pub regroup-five : (n p a e b : Bytes) → (((n ++ p) ++ a) ++ e) ++ b ≡ n ++ p ++ (a ++ e ++ b)
regroup-five n p a e b = simp append_assoc
