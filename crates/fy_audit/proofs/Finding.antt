-- The loops that look for a window, and where pieces begin.
use Rattle.std.proofs.Common.{◌≡◌, ℕ, zero, suc, ◌+◌, ◌<◌, ◌≤◌, Bool, true, false, ◌||◌, nat_eq, List, [], ◌∷◌, length, drop, refl, sym, ap, subst, ◌∙◌, arith, slice_index_or, inl, inr, true≢false}
use Rattle.std.proofs.lemmas.List.{drop_all}
use Rattle.std.proofs.Math.Seq.{drop-cons}
use Rattle.rv_guard.specs.Patterns.{word_count}
use Rattle.rv_guard.specs.declared.pieces.Piece.{Piece}
use Rattle.rv_guard.specs.Windows.{HasWindow}
use Rattle.rv_guard.specs.declared.pieces.Window.{Window}
use Rattle.rv_guard.specs.Rules.{address_of, is_start}
use Rattle.rv_guard.specs.Joining.{total_words}
use Rattle.fy_audit.proofs.Cuts.{some_size}

-- all windows have one so only if those from place i on have
abbrev pub NoneBefore : (Window → Type 0) → List Window → ℕ → Type 0
NoneBefore Is windows i = HasWindow Is windows → HasWindow Is (drop i windows)

pub next_window : (windows : List Window) (i : ℕ) (d : Window) → i < length windows → drop i windows ≡ slice_index_or windows i d ∷ drop (i + 1) windows
next_window windows i d below = drop-cons windows i d below ∙ (let e : suc i ≡ i + 1 = omega arith in ap (λ n. slice_index_or windows i d ∷ drop n windows) e)

pub none_next : (Is : Window → Type 0) (windows : List Window) (i : ℕ) (window : Window) → i < length windows → slice_index_or windows i window ≡ window → ¬ Is window → NoneBefore Is windows i → NoneBefore Is windows (i + 1)
none_next Is windows i window below e not h has =
    let P : List Window → Type 0 = HasWindow Is in
    let q : HasWindow Is (slice_index_or windows i window ∷ drop (i + 1) windows) = subst P (next_window windows i window below) (h has) in
    elim q [ inl here ↦ absurd (not (subst Is e here)) | inr there ↦ there ]

pub has_at : (Is : Window → Type 0) (windows : List Window) (i : ℕ) (d : Window) → i < length windows → Is (slice_index_or windows i d) → HasWindow Is windows
has_at Is [] i d below h = absurd (omega arith)
has_at Is (x ∷ windows) zero d below h = inl h
has_at Is (x ∷ windows) (suc i) d below h = inr (has_at Is windows i d (omega arith) h)

pub has_none : (Is : Window → Type 0) (windows : List Window) (i : ℕ) → length windows ≤ i → NoneBefore Is windows i → ¬ HasWindow Is windows
has_none Is windows i past h has = let P : List Window → Type 0 = HasWindow Is in subst P (drop_all i windows past) (h has)

-- where a piece begins
pub record IsStartWord (address k : ℕ) (pieces : List Piece) : Type 0 where
  pub j : ℕ
  pub is : address ≡ address_of j
  pub most : j < k + total_words pieces

pub start_word : (address k : ℕ) (pieces : List Piece) → is_start address k pieces ≡ true → IsStartWord address k pieces
start_word address k [] e = absurd (true≢false (sym e))
start_word address k (piece ∷ pieces) e =
    let P : Bool → Type 0 = λ b. nat_eq (address_of k) address ≡ b → (b || is_start address (k + word_count piece) pieces) ≡ true → IsStartWord address k (piece ∷ pieces) in
    (elim (nat_eq (address_of k) address) as P [
      | true ↦ λ here whole. record { j = k; is = grind arith; most = omega (arith, some_size piece) }
      | false ↦ λ other whole. let there = start_word address (k + word_count piece) pieces whole in record { j = there.j; is = there.is; most = omega (arith, there.most) }
    ]) refl e

pub no_start : (address : ℕ) (pieces : List Piece) → ((j : ℕ) → j < total_words pieces → ¬ (address ≡ address_of j)) → is_start address 0 pieces ≡ false
no_start address pieces none =
    let P : Bool → Type 0 = λ b. is_start address 0 pieces ≡ b → b ≡ false in
    (elim (is_start address 0 pieces) as P [
      | true ↦ λ e. let w = start_word address 0 pieces e in absurd (none w.j (omega (arith, w.most)) w.is)
      | false ↦ λ e. refl
    ]) refl
