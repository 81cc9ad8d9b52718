-- Frames and contexts, the newest first.
use Rattle.std.proofs.Common.{◌≡◌, ℕ, zero, suc, ◌+◌, ◌-◌, ◌<◌, ◌≤◌, List, [], ◌∷◌, ◌++◌, length, get_or, take, refl, sym, ap, ◌∙◌, arith, inl, inr}
use Rattle.std.specs.Prelude.{nat_le}
use Rattle.std.proofs.lemmas.List.{take_more, take_all, length-take-le}
use Rattle.std.proofs.lemmas.Bool.{le-leb, lt-leb, cases_lt, cond-true, cond-false}
use Rattle.fy_base.specs.declared.data.Datum.{Datum}
use Rattle.pe_machine.specs.States as states
use Rattle.pe_machine.specs.States.{oldest}
use Rattle.pe_machine.specs.Shown.{frame_of, held_of, frames_onto, contexts_onto}
use Rattle.pe_machine.specs.Turns.{oldest_contexts}
use Rattle.pe_machine.specs.declared.frames.Frame.{Frame}
use Rattle.pe_machine.specs.declared.contexts.Held.{Held}

-- ---- frames

pub frames_onto-push : (cells : List Datum) (fs : List states.Frame) (xs : List Frame) (x : Frame) → frames_onto cells fs (xs ++ x ∷ []) ≡ frame_of cells x ∷ frames_onto cells fs xs
frames_onto-push cells fs [] x = refl
frames_onto-push cells fs (y ∷ xs) x = frames_onto-push cells (frame_of cells y ∷ fs) xs x

-- one frame more
pub frames_more : (cells : List Datum) (xs : List Frame) (i : ℕ) (d : Frame) → i < length xs → frames_onto cells [] (take (i + 1) xs) ≡ frame_of cells (get_or xs i d) ∷ frames_onto cells [] (take i xs)
frames_more cells xs i d h = ap (frames_onto cells []) (take_more xs i d h) ∙ frames_onto-push cells [] (take i xs) (get_or xs i d)

length-frames_onto : (cells : List Datum) (fs : List states.Frame) (xs : List Frame) → length (frames_onto cells fs xs) ≡ length fs + length xs
length-frames_onto cells fs [] = omega arith
length-frames_onto cells fs (x ∷ xs) = omega (arith, length-frames_onto cells (frame_of cells x ∷ fs) xs)

pub length-frames : (cells : List Datum) (xs : List Frame) → length (frames_onto cells [] xs) ≡ length xs
length-frames cells xs = omega (arith, length-frames_onto cells [] xs)

pub oldest_all : (n : ℕ) (fs : List states.Frame) → length fs ≤ n → oldest n fs ≡ fs
oldest_all n [] h = refl
oldest_all n (f ∷ fs) h = cond-false (nat_le n (length fs)) (oldest n fs) (f ∷ fs) (lt-leb n (length fs) (omega arith))

pub oldest_past : (n : ℕ) (f : states.Frame) (fs : List states.Frame) → n ≤ length fs → oldest n (f ∷ fs) ≡ oldest n fs
oldest_past n f fs h = cond-true (nat_le n (length fs)) (oldest n fs) (f ∷ fs) (le-leb n (length fs) h)

oldest_front : (cells : List Datum) (n m : ℕ) (xs : List Frame) (d : Frame) → n + m ≤ length xs → oldest n (frames_onto cells [] (take (n + m) xs)) ≡ frames_onto cells [] (take n xs)
oldest_front cells n zero xs d h =
    let e : n + zero ≡ n = omega arith in
    let few : length (frames_onto cells [] (take n xs)) ≤ n = omega (arith, length-frames cells (take n xs), length-take-le n xs (omega arith)) in
    ap (λ k. oldest n (frames_onto cells [] (take k xs))) e ∙ oldest_all n (frames_onto cells [] (take n xs)) few
oldest_front cells n (suc m) xs d h =
    let e : n + suc m ≡ (n + m) + 1 = omega arith in
    let some : n ≤ length (frames_onto cells [] (take (n + m) xs)) = omega (arith, length-frames cells (take (n + m) xs), length-take-le (n + m) xs (omega arith)) in
    ap (λ k. oldest n (frames_onto cells [] (take k xs))) e
    ∙ ap (λ fs. oldest n fs) (frames_more cells xs (n + m) d (omega arith))
    ∙ oldest_past n (frame_of cells (get_or xs (n + m) d)) (frames_onto cells [] (take (n + m) xs)) some
    ∙ oldest_front cells n m xs d (omega arith)

oldest_take_from : (cells : List Datum) (n : ℕ) (xs : List Frame) (d : Frame) → (n < length xs) → oldest n (frames_onto cells [] xs) ≡ frames_onto cells [] (take n xs)
oldest_take_from cells n xs d h =
    let e : length xs ≡ n + (length xs - n) = omega arith in
    ap (λ ys. oldest n (frames_onto cells [] ys)) (sym (take_all (length xs) xs (omega arith)))
    ∙ ap (λ k. oldest n (frames_onto cells [] (take k xs))) e
    ∙ oldest_front cells n (length xs - n) xs d (omega arith)

-- the oldest n frames are the first n of the array
pub oldest_take : (cells : List Datum) (n : ℕ) (xs : List Frame) → oldest n (frames_onto cells [] xs) ≡ frames_onto cells [] (take n xs)
oldest_take cells n [] = sym (ap (frames_onto cells []) (take_all n [] (omega arith)))
oldest_take cells n (x ∷ xs) = elim (cases_lt n (length (x ∷ xs))) [
  | inl few ↦ oldest_take_from cells n (x ∷ xs) x few
  | inr many ↦
      oldest_all n (frames_onto cells [] (x ∷ xs)) (omega (arith, length-frames cells (x ∷ xs)))
      ∙ sym (ap (frames_onto cells []) (take_all n (x ∷ xs) many))
]

-- ---- contexts

pub contexts_onto-push : (cs : List states.Held) (xs : List Held) (x : Held) → contexts_onto cs (xs ++ x ∷ []) ≡ held_of x ∷ contexts_onto cs xs
contexts_onto-push cs [] x = refl
contexts_onto-push cs (y ∷ xs) x = contexts_onto-push (held_of y ∷ cs) xs x

-- one context more
pub contexts_more : (xs : List Held) (i : ℕ) (d : Held) → i < length xs → contexts_onto [] (take (i + 1) xs) ≡ held_of (get_or xs i d) ∷ contexts_onto [] (take i xs)
contexts_more xs i d h = ap (contexts_onto []) (take_more xs i d h) ∙ contexts_onto-push [] (take i xs) (get_or xs i d)

length-contexts_onto : (cs : List states.Held) (xs : List Held) → length (contexts_onto cs xs) ≡ length cs + length xs
length-contexts_onto cs [] = omega arith
length-contexts_onto cs (x ∷ xs) = omega (arith, length-contexts_onto (held_of x ∷ cs) xs)

pub length-contexts : (xs : List Held) → length (contexts_onto [] xs) ≡ length xs
length-contexts xs = omega (arith, length-contexts_onto [] xs)

pub contexts_all : (n : ℕ) (cs : List states.Held) → length cs ≤ n → oldest_contexts n cs ≡ cs
contexts_all n [] h = refl
contexts_all n (c ∷ cs) h = cond-false (nat_le n (length cs)) (oldest_contexts n cs) (c ∷ cs) (lt-leb n (length cs) (omega arith))

pub contexts_past : (n : ℕ) (c : states.Held) (cs : List states.Held) → n ≤ length cs → oldest_contexts n (c ∷ cs) ≡ oldest_contexts n cs
contexts_past n c cs h = cond-true (nat_le n (length cs)) (oldest_contexts n cs) (c ∷ cs) (le-leb n (length cs) h)

contexts_front : (n m : ℕ) (xs : List Held) (d : Held) → n + m ≤ length xs → oldest_contexts n (contexts_onto [] (take (n + m) xs)) ≡ contexts_onto [] (take n xs)
contexts_front n zero xs d h =
    let e : n + zero ≡ n = omega arith in
    let few : length (contexts_onto [] (take n xs)) ≤ n = omega (arith, length-contexts (take n xs), length-take-le n xs (omega arith)) in
    ap (λ k. oldest_contexts n (contexts_onto [] (take k xs))) e ∙ contexts_all n (contexts_onto [] (take n xs)) few
contexts_front n (suc m) xs d h =
    let e : n + suc m ≡ (n + m) + 1 = omega arith in
    let some : n ≤ length (contexts_onto [] (take (n + m) xs)) = omega (arith, length-contexts (take (n + m) xs), length-take-le (n + m) xs (omega arith)) in
    ap (λ k. oldest_contexts n (contexts_onto [] (take k xs))) e
    ∙ ap (λ cs. oldest_contexts n cs) (contexts_more xs (n + m) d (omega arith))
    ∙ contexts_past n (held_of (get_or xs (n + m) d)) (contexts_onto [] (take (n + m) xs)) some
    ∙ contexts_front n m xs d (omega arith)

contexts_take_from : (n : ℕ) (xs : List Held) (d : Held) → (n < length xs) → oldest_contexts n (contexts_onto [] xs) ≡ contexts_onto [] (take n xs)
contexts_take_from n xs d h =
    let e : length xs ≡ n + (length xs - n) = omega arith in
    ap (λ ys. oldest_contexts n (contexts_onto [] ys)) (sym (take_all (length xs) xs (omega arith)))
    ∙ ap (λ k. oldest_contexts n (contexts_onto [] (take k xs))) e
    ∙ contexts_front n (length xs - n) xs d (omega arith)

-- the oldest n contexts are the first n of the array
pub contexts_take : (n : ℕ) (xs : List Held) → oldest_contexts n (contexts_onto [] xs) ≡ contexts_onto [] (take n xs)
contexts_take n [] = sym (ap (contexts_onto []) (take_all n [] (omega arith)))
contexts_take n (x ∷ xs) = elim (cases_lt n (length (x ∷ xs))) [
  | inl few ↦ contexts_take_from n (x ∷ xs) x few
  | inr many ↦
      contexts_all n (contexts_onto [] (x ∷ xs)) (omega (arith, length-contexts (x ∷ xs)))
      ∙ sym (ap (contexts_onto []) (take_all n (x ∷ xs) many))
]

pub ruleset stacks = (frames_onto-push, contexts_onto-push, length-frames, length-contexts, oldest_take, contexts_take)
