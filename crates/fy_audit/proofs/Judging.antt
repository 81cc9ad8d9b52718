-- The loop that judges the pieces.
use Rattle.std.proofs.Common.{◌≡◌, ℕ, ◌+◌, ◌-◌, ◌*◌, ◌^◌, ◌<◌, ◌≤◌, true, false, if◌then◌else◌, List, [], ◌∷◌, length, drop, take, refl, sym, ap, subst, ◌∙◌, arith, slice_index_or, inl, inr}
use Rattle.std.proofs.lemmas.List.{drop_all, take_all, length-drop}
use Rattle.rv_guard.specs.Patterns.{word_count}
use Rattle.rv_guard.specs.declared.pieces.Piece.{Piece}
use Rattle.rv_guard.specs.Windows.{windows_behind}
use Rattle.rv_guard.specs.declared.pieces.Window.{Window}
use Rattle.rv_guard.specs.Rules.{address_of, is_target, windows_at, IsAllowed, KeepRules, BreaksFirstAt}
use Rattle.rv_guard.specs.Joining.{total_words}
use Rattle.fy_audit.specs.Words.{HasValue, HaveValues, AreNear}
use Rattle.fy_audit.proofs.Cuts.{some_size}
use Rattle.fy_audit.proofs.Marking.{next_piece}
use Rattle.fy_audit.proofs.Behind.{near_more}

-- what the pieces from word k on do tells what all do
pub record JudgedSoFar (all : List Piece) (k : ℕ) (windows : List Window) (rest : List Piece) : Type 0 where
  pub keep : KeepRules all k windows rest → KeepRules all 0 [] all
  pub breaks : (broken : ℕ) → BreaksFirstAt broken all k windows rest → BreaksFirstAt broken all 0 [] all

-- where the loop stands
pub record Stands (all : List Piece) (words k i : ℕ) (windows : List Window) : Type 0 where
  pub words_left : k + total_words (drop i all) ≤ words
  pub fewer : i ≤ k
  pub values : HaveValues (drop i all)
  pub near : AreNear (2 ^ 32 * i) windows
  pub judged : JudgedSoFar all k windows (drop i all)

pub stands_first : (all : List Piece) (words : ℕ) (windows : List Window) → total_words all ≤ words → HaveValues all → windows ≡ [] → Stands all words 0 0 windows
stands_first all words windows fits values e =
    let P : List Window → Type 0 = λ xs. Stands all words 0 0 xs in
    subst P (sym e) (record { words_left = omega (arith, fits); fewer = omega arith; values = values; near = tt; judged = record { keep = λ h. h; breaks = λ broken h. h } })

-- what the loop has at hand for the piece at place i
pub record AtPiece (all : List Piece) (words k i : ℕ) (windows : List Window) (piece : Piece) : Type 0 where
  pub room : k + word_count piece + total_words (drop (i + 1) all) ≤ words
  pub here : k < words
  pub value : HasValue piece
  pub values : HaveValues (drop (i + 1) all)
  pub judged : JudgedSoFar all k windows (piece ∷ drop (i + 1) all)

pub at_piece : (all : List Piece) (words k i : ℕ) (windows : List Window) (d : Piece) → i < length all → Stands all words k i windows → AtPiece all words k i windows (slice_index_or all i d)
at_piece all words k i windows d below h =
    let e = next_piece all i d below in
    let P : List Piece → Type 0 = λ xs. k + total_words xs ≤ words in
    let V : List Piece → Type 0 = HaveValues in
    let J : List Piece → Type 0 = JudgedSoFar all k windows in
    let fits = subst P e h.words_left in
    record {
      room = omega (arith, fits);
      here = omega (arith, fits, some_size (slice_index_or all i d));
      value = (subst V e h.values).0;
      values = (subst V e h.values).1;
      judged = subst J e h.judged;
    }

pub near_at : (all : List Piece) (n k : ℕ) (windows : List Window) → AreNear n windows → AreNear n (windows_at all k windows)
near_at all n k windows h = elim (is_target (address_of k) 0 all) as (λ b. AreNear n (if b then [] else windows)) [ true ↦ tt | false ↦ h ]

pub stands_more : (all : List Piece) (words k i : ℕ) (windows here now : List Window) (d : Piece) → i < length all → Stands all words k i windows
    → IsAllowed all k (windows_at all k windows) (slice_index_or all i d) (drop (i + 1) all) → here ≡ windows_at all k windows → now ≡ windows_behind (slice_index_or all i d) here → AreNear (2 ^ 32 * i + 2 ^ 32) now
    → Stands all words (k + word_count (slice_index_or all i d)) (i + 1) now
stands_more all words k i windows here now d below h keeps same made near =
    let e : now ≡ windows_behind (slice_index_or all i d) (windows_at all k windows) = made ∙ ap (windows_behind (slice_index_or all i d)) same in
    let piece : Piece = slice_index_or all i d in
    let a = at_piece all words k i windows d below h in
    let fewer = h.fewer in
    let Q : List Window → Type 0 = λ xs. JudgedSoFar all (k + word_count piece) xs (drop (i + 1) all) in
    record {
      words_left = a.room;
      fewer = omega (arith, fewer, some_size piece);
      values = a.values;
      near = near_more (2 ^ 32 * i + 2 ^ 32) (2 ^ 32 * (i + 1)) now (omega arith) near;
      judged = subst Q (sym e) (record { keep = λ rest. a.judged.keep (keeps, rest); breaks = λ broken rest. a.judged.breaks broken (inr (keeps, rest)) });
    }

pub stands_broken : (all : List Piece) (words k i : ℕ) (windows : List Window) (d : Piece) → i < length all → Stands all words k i windows
    → ¬ IsAllowed all k (windows_at all k windows) (slice_index_or all i d) (drop (i + 1) all) → BreaksFirstAt k all 0 [] all
stands_broken all words k i windows d below h breaks = (at_piece all words k i windows d below h).judged.breaks k (inl (refl, breaks))

pub stands_last : (all : List Piece) (words k i : ℕ) (windows : List Window) → length all ≤ i → Stands all words k i windows → KeepRules all 0 [] all
stands_last all words k i windows past h =
    let J : List Piece → Type 0 = JudgedSoFar all k windows in
    (subst J (drop_all i all past) h.judged).keep tt

-- the same windows and the same rest
pub keeps_same : (all : List Piece) (k : ℕ) (piece : Piece) (windows windows' : List Window) (rest rest' : List Piece) → windows ≡ windows' → rest ≡ rest' → IsAllowed all k windows piece rest → IsAllowed all k windows' piece rest'
keeps_same all k piece windows windows' rest rest' e f h =
    let P : List Window → Type 0 = λ xs. IsAllowed all k xs piece rest' in
    let Q : List Piece → Type 0 = λ xs. IsAllowed all k windows piece xs in
    subst P e (subst Q f h)

pub sliced : (xs : List Piece) (i n : ℕ) → n ≡ length xs - i → take n (drop i xs) ≡ drop i xs
sliced xs i n e = take_all n (drop i xs) (omega (arith, e, length-drop i xs))
