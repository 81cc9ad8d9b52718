-- What a watch is told, word by word.
use Rattle.std.proofs.Common.{◌≡◌, ℕ, zero, suc, ◌+◌, ◌-◌, ◌≤◌, List, [], ◌∷◌, ◌++◌, length, drop, refl, sym, ap, ◌∙◌, arith, add-one, add-zero, append_assoc, length-append, drop-drop}
use Rattle.std.proofs.lemmas.List.{append-nil, drop-append-le}
use Rattle.std.proofs.Common.{length-drop}
use Rattle.std.proofs.lemmas.List.Elements.{filter_map-append}
use Rattle.std.specs.List.{filter_map, range_with_len}
use Rattle.std.specs.Option.{option_to_list}
use Rattle.std.specs.declared.option.Option.{Option}
use Rattle.std.specs.declared.option.Option.TheVariants.{Some, None}
use Rattle.circular_buffer.specs.Buffer.{keep_last}
use Rattle.rv_insn.specs.Program.{Program}
use Rattle.rv_insn.specs.Step.{Core}
use Rattle.rv_machine.specs.Run.{World, run}
use Rattle.rv_machine.proofs.Runs.{run_split}
use Rattle.rv_machine.specs.Fetch.{fetched_at, fetches}
use Rattle.rv_machine.specs.declared.watch.Fetched.{Fetched}

-- what is kept of a list of which the last part was kept, and of more
pub keep_last-keep : (n : ℕ) (xs ys : List Fetched) → keep_last n (keep_last n xs ++ ys) ≡ keep_last n (xs ++ ys)
keep_last-keep n xs ys =
    let k : ℕ = length xs - n in
    let seam : drop k xs ++ ys ≡ drop k (xs ++ ys) = sym (drop-append-le k xs ys (omega arith)) in
    let long : length (xs ++ ys) ≡ length xs + length ys = length-append xs ys in
    let rest : length (drop k (xs ++ ys)) ≡ length (xs ++ ys) - k = length-drop k (xs ++ ys) in
    let there : k + (length (drop k (xs ++ ys)) - n) ≡ length (xs ++ ys) - n = omega arith in
    ap (λ l. keep_last n l) seam ∙ drop-drop (length (drop k (xs ++ ys)) - n) k (xs ++ ys) ∙ ap (λ j. drop j (xs ++ ys)) there

-- a list of at most n is kept
pub keep_last_all : (n : ℕ) (xs : List Fetched) → length xs ≤ n → keep_last n xs ≡ xs
keep_last_all n xs few = let none : length xs - n ≡ 0 = omega arith in ap (λ k. drop k xs) none

range_more : (a n : ℕ) → range_with_len a (suc n) ≡ range_with_len a n ++ (a + n) ∷ []
range_more a zero = ap (λ k. k ∷ []) (sym (add-zero a))
range_more a (suc n) = let same : (a + 1) + n ≡ a + suc n = omega arith in ap (λ l. a ∷ l) (range_more (a + 1) n ∙ ap (λ k. range_with_len (a + 1) n ++ k ∷ []) same)

listed : (o : Option Fetched) (f : ℕ → Option Fetched) (n : ℕ) → f n ≡ o → filter_map f (n ∷ []) ≡ option_to_list o
listed (Some x) f n is = rw is refl
listed None f n is = rw is refl

-- what is fetched at one more count
pub fetches_more : (program : Program) (world : World) (n : ℕ) → fetches program world (n + 1) ≡ fetches program world n ++ option_to_list (fetched_at program (run program n world).core)
fetches_more program world n =
    let f : ℕ → Option Fetched = λ k. fetched_at program (run program k world).core in
    let range : range_with_len 0 (n + 1) ≡ range_with_len 0 n ++ n ∷ [] = ap (λ k. range_with_len 0 k) (add-one n) ∙ range_more 0 n ∙ ap (λ k. range_with_len 0 n ++ k ∷ []) (omega arith) in
    ap (λ l. filter_map f l) range ∙ filter_map-append f (range_with_len 0 n) (n ∷ []) ∙ ap (λ l. filter_map f (range_with_len 0 n) ++ l) (listed (f n) f n refl)

-- before the first word
pub kept_start : (n : ℕ) (held : List Fetched) → length held ≤ n → held ≡ keep_last n (held ++ [])
kept_start n held few = sym (keep_last_all n held few) ∙ ap (λ l. keep_last n l) (sym (append-nil held))

-- a watch that held the last of some words holds the last of these and more
pub kept_more : (room n : ℕ) (held seen more now next : List Fetched) → room ≡ n → now ≡ keep_last n (held ++ seen) → next ≡ keep_last room (now ++ more) → next ≡ keep_last n (held ++ (seen ++ more))
kept_more room n held seen more now next same was is =
    is ∙ ap (λ k. keep_last k (now ++ more)) same ∙ ap (λ l. keep_last n (l ++ more)) was ∙ keep_last-keep n (held ++ seen) more ∙ ap (λ l. keep_last n l) (append_assoc held seen more)

-- no more than n are kept
pub length-keep_last : (n : ℕ) (xs : List Fetched) → length (keep_last n xs) ≤ n
length-keep_last n xs = omega (arith, length-drop (length xs - n) xs)

-- what a run fetches in n instructions and then in m more
pub fetches_split : (program : Program) (world : World) (n m : ℕ) → fetches program world (n + m) ≡ fetches program world n ++ fetches program (run program n world) m
fetches_split program world n zero = ap (λ k. fetches program world k) (add-zero n) ∙ sym (append-nil (fetches program world n))
fetches_split program world n (suc m) =
    let now = run program n world in
    let last = λ (c : Core). option_to_list (fetched_at program c) in
    let count : n + suc m ≡ (n + m) + 1 = omega arith in
    let ends : fetches program now (suc m) ≡ fetches program now m ++ last (run program m now).core = ap (λ k. fetches program now k) (sym (add-one m)) ∙ fetches_more program now m in
    ap (λ k. fetches program world k) count ∙ fetches_more program world (n + m)
    ∙ ap (λ w. fetches program world (n + m) ++ last w.core) (run_split program n m world)
    ∙ ap (λ l. l ++ last (run program m now).core) (fetches_split program world n m)
    ∙ append_assoc (fetches program world n) (fetches program now m) (last (run program m now).core)
    ∙ ap (λ l. fetches program world n ++ l) (sym ends)
