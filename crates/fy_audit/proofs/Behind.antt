-- The loops that make the windows behind a piece.
use Rattle.std.proofs.Common.{◌≡◌, ℕ, ◌+◌, ◌<◌, ◌≤◌, ◌^◌, ℤ, pos, ◌-ℤ◌, Bool, true, false, nat_eq, if◌then◌else◌, List, [], ◌∷◌, ◌++◌, length, drop, Option, Some, None, refl, sym, ap, subst, ◌∙◌, arith, slice_index_or, append_assoc, append-nil}
use Rattle.std.proofs.lemmas.Int.{ints}
use Rattle.std.proofs.lemmas.List.{drop_all}
use Rattle.rv_guard.specs.declared.pieces.Piece.{Piece}
use Rattle.rv_guard.specs.Windows.{register_of, is_ended, kept_windows, moved_windows}
use Rattle.rv_guard.specs.declared.pieces.Window.{Window}
use Rattle.rv_guard.specs.declared.pieces.Window.TheVariants.{InStack, InTable}
use Rattle.fy_audit.specs.Words.{IsNear, IsNearWindow, AreNear, moved_window}
use Rattle.fy_audit.proofs.Finding.{next_window}

-- what is made so far, and what comes of the windows from place i on, is all
abbrev pub KeptSoFar : Piece → List Window → List Window → List Window → ℕ → Type 0
KeptSoFar piece first windows now i = now ++ kept_windows piece (drop i windows) ≡ first ++ kept_windows piece windows

abbrev pub MovedSoFar : ℕ → ℕ → ℤ → List Window → List Window → ℕ → Type 0
MovedSoFar a r k windows now i = now ++ moved_windows a r k (drop i windows) ≡ moved_windows a r k windows

pub kept_skip : (piece : Piece) (first windows now : List Window) (i : ℕ) (d : Window) → i < length windows → is_ended (register_of (slice_index_or windows i d)) piece ≡ true
    → KeptSoFar piece first windows now i → KeptSoFar piece first windows now (i + 1)
kept_skip piece first windows now i d below e h =
    ap (λ xs. now ++ xs) (sym (ap (kept_windows piece) (next_window windows i d below) ∙ ap (λ b. if b then kept_windows piece (drop (i + 1) windows) else slice_index_or windows i d ∷ kept_windows piece (drop (i + 1) windows)) e)) ∙ h

pub kept_take : (piece : Piece) (first windows before now : List Window) (i : ℕ) (d : Window) → i < length windows → is_ended (register_of (slice_index_or windows i d)) piece ≡ false
    → now ≡ before ++ slice_index_or windows i d ∷ [] → KeptSoFar piece first windows before i → KeptSoFar piece first windows now (i + 1)
kept_take piece first windows before now i d below e is h =
    ap (λ xs. xs ++ kept_windows piece (drop (i + 1) windows)) is
    ∙ append_assoc before (slice_index_or windows i d ∷ []) (kept_windows piece (drop (i + 1) windows))
    ∙ ap (λ xs. before ++ xs) (sym (ap (kept_windows piece) (next_window windows i d below) ∙ ap (λ b. if b then kept_windows piece (drop (i + 1) windows) else slice_index_or windows i d ∷ kept_windows piece (drop (i + 1) windows)) e)) ∙ h

pub kept_all : (piece : Piece) (first windows now : List Window) (i : ℕ) → length windows ≤ i → KeptSoFar piece first windows now i → now ≡ first ++ kept_windows piece windows
kept_all piece first windows now i past h = sym (ap (λ xs. now ++ kept_windows piece xs) (drop_all i windows past) ∙ append-nil now) ∙ h

pub moved_step : (a r : ℕ) (k : ℤ) (windows : List Window) (i : ℕ) (window : Window) → i < length windows → slice_index_or windows i window ≡ window → moved_windows a r k (drop i windows) ≡ moved_windows a r k (window ∷ drop (i + 1) windows)
moved_step a r k windows i window below e = ap (moved_windows a r k) (next_window windows i window below) ∙ ap (λ x. moved_windows a r k (x ∷ drop (i + 1) windows)) e

pub near_next : (n : ℕ) (windows : List Window) (i : ℕ) (d : Window) → i < length windows → AreNear n (drop i windows) → AreNear n (slice_index_or windows i d ∷ drop (i + 1) windows)
near_next n windows i d below h = subst (AreNear n) (next_window windows i d below) h

pub near_drop : (n : ℕ) (windows : List Window) (i : ℕ) (d : Window) → i < length windows → AreNear n (drop i windows) → AreNear n (drop (i + 1) windows)
near_drop n windows i d below h = (near_next n windows i d below h).1

pub near_at : (n : ℕ) (windows : List Window) (i : ℕ) (d : Window) → i < length windows → AreNear n (drop i windows) → IsNearWindow n (slice_index_or windows i d)
near_at n windows i d below h = (near_next n windows i d below h).0

abbrev with_option : Option Window → List Window → List Window
with_option None windows = windows
with_option (Some window) windows = window ∷ windows

moved_cons : (a r : ℕ) (k : ℤ) (window : Window) (windows : List Window) → moved_windows a r k (window ∷ windows) ≡ with_option (moved_window a r k window) (moved_windows a r k windows)
moved_cons a r k (InTable q) windows = refl
moved_cons a r k (InStack q low high) windows =
    let P : Bool → Type 0 = λ b. (if b then InStack a (low -ℤ k) (high -ℤ k) ∷ moved_windows a r k windows else moved_windows a r k windows)
    ≡ with_option (if b then Some (InStack a (low -ℤ k) (high -ℤ k)) else None) (moved_windows a r k windows) in
    elim (nat_eq q r) as P [ true ↦ refl | false ↦ refl ]

pub moved_none : (a r : ℕ) (k : ℤ) (windows now : List Window) (i : ℕ) (d : Window) → i < length windows → moved_window a r k (slice_index_or windows i d) ≡ None
    → MovedSoFar a r k windows now i → MovedSoFar a r k windows now (i + 1)
moved_none a r k windows now i d below e h =
    ap (λ xs. now ++ xs) (sym (ap (moved_windows a r k) (next_window windows i d below) ∙ moved_cons a r k (slice_index_or windows i d) (drop (i + 1) windows)
    ∙ ap (λ o. with_option o (moved_windows a r k (drop (i + 1) windows))) e)) ∙ h

pub moved_some : (a r : ℕ) (k : ℤ) (windows before now : List Window) (i : ℕ) (d given : Window) → i < length windows → moved_window a r k (slice_index_or windows i d) ≡ Some given
    → now ≡ before ++ given ∷ [] → MovedSoFar a r k windows before i → MovedSoFar a r k windows now (i + 1)
moved_some a r k windows before now i d given below e made h =
    ap (λ xs. xs ++ moved_windows a r k (drop (i + 1) windows)) made
    ∙ append_assoc before (given ∷ []) (moved_windows a r k (drop (i + 1) windows))
    ∙ ap (λ xs. before ++ xs) (sym (ap (moved_windows a r k) (next_window windows i d below) ∙ moved_cons a r k (slice_index_or windows i d) (drop (i + 1) windows)
    ∙ ap (λ o. with_option o (moved_windows a r k (drop (i + 1) windows))) e)) ∙ h

pub moved_all : (a r : ℕ) (k : ℤ) (windows now : List Window) (i : ℕ) → length windows ≤ i → MovedSoFar a r k windows now i → now ≡ moved_windows a r k windows
moved_all a r k windows now i past h = sym (ap (λ xs. now ++ moved_windows a r k xs) (drop_all i windows past) ∙ append-nil now) ∙ h

pub moved_is : (a r q : ℕ) (k low high x y : ℤ) (window : Window) → window ≡ InStack q low high → q ≡ r → x ≡ low -ℤ k → y ≡ high -ℤ k → Some (InStack a x y) ≡ moved_window a r k window
moved_is a r q k low high x y window is same ex ey =
    let eq : nat_eq q r ≡ true = grind arith in
    ap (λ z. Some (InStack a z y)) ex ∙ ap (λ z. Some (InStack a (low -ℤ k) z)) ey
    ∙ sym (ap (moved_window a r k) is ∙ ap (λ b. if b then Some (InStack a (low -ℤ k) (high -ℤ k)) else None) eq)

-- how far ends of windows lie from 0
near_wider : (n m : ℕ) (window : Window) → n ≤ m → IsNearWindow n window → IsNearWindow m window
near_wider n m (InTable r) e h = tt
near_wider n m (InStack r low high) e h =
    let a = h.0.0 in let b = h.0.1 in let c = h.1.0 in let d = h.1.1 in
    ((omega (arith, ints, a, e), omega (arith, ints, b, e)), (omega (arith, ints, c, e), omega (arith, ints, d, e)))

pub near_more : (n m : ℕ) (windows : List Window) → n ≤ m → AreNear n windows → AreNear m windows
near_more n m [] e h = tt
near_more n m (window ∷ windows) e h = (near_wider n m window e h.0, near_more n m windows e h.1)

pub near_append : (n : ℕ) (xs ys : List Window) → AreNear n xs → AreNear n ys → AreNear n (xs ++ ys)
near_append n [] ys h k = k
near_append n (x ∷ xs) ys h k = (h.0, near_append n xs ys h.1 k)

pub near_kept : (n : ℕ) (piece : Piece) (windows : List Window) → AreNear n windows → AreNear n (kept_windows piece windows)
near_kept n piece [] h = tt
near_kept n piece (window ∷ windows) h =
    let rest : AreNear n (kept_windows piece windows) = near_kept n piece windows h.1 in
    elim (is_ended (register_of window) piece) as (λ b. AreNear n (if b then kept_windows piece windows else window ∷ kept_windows piece windows)) [ true ↦ rest | false ↦ (h.0, rest) ]

near_shift : (n : ℕ) (low k : ℤ) → IsNear (2 ^ 32) k → IsNear n low → IsNear (n + 2 ^ 32) (low -ℤ k)
near_shift n low k f h = let a = h.0 in let b = h.1 in let c = f.0 in let d = f.1 in (omega (arith, ints, a, d), omega (arith, ints, b, c))

pub near_moved : (n a r : ℕ) (k : ℤ) (windows : List Window) → IsNear (2 ^ 32) k → AreNear n windows → AreNear (n + 2 ^ 32) (moved_windows a r k windows)
near_moved n a r k [] f h = tt
near_moved n a r k (InTable q ∷ windows) f h = near_moved n a r k windows f h.1
near_moved n a r k (InStack q low high ∷ windows) f h =
    let rest : AreNear (n + 2 ^ 32) (moved_windows a r k windows) = near_moved n a r k windows f h.1 in
    elim (nat_eq q r) as (λ b. AreNear (n + 2 ^ 32) (if b then InStack a (low -ℤ k) (high -ℤ k) ∷ moved_windows a r k windows else moved_windows a r k windows)) [
      | true ↦ ((near_shift n low k f h.0.0, near_shift n high k f h.0.1), rest)
      | false ↦ rest
    ]

pub near_behind : (n : ℕ) (piece : Piece) (given now windows : List Window) → now ≡ given ++ kept_windows piece windows → AreNear (n + 2 ^ 32) given → AreNear n windows → AreNear (n + 2 ^ 32) now
near_behind n piece given now windows e g h = subst (AreNear (n + 2 ^ 32)) (sym e)
    (near_append (n + 2 ^ 32) given (kept_windows piece windows) g (near_more n (n + 2 ^ 32) (kept_windows piece windows) (omega arith) (near_kept n piece windows h)))

pub near_pushed : (n v : ℕ) (r : ℕ) → v < 2 ^ 32 → AreNear (n + 2 ^ 32) (InStack r (pos 0) (pos v) ∷ [])
near_pushed n v r e = (((omega (arith, ints), omega (arith, ints)), (omega (arith, ints), omega (arith, ints, e))), tt)
