-- The loop that marks words.
use Rattle.std.proofs.Common.{◌≡◌, ℕ, suc, ◌+◌, ◌<◌, Bool, true, false, ◌||◌, nat_eq, List, [], ◌∷◌, length, drop, replicate, refl, sym, ap, ◌∙◌, arith, slice_index_or}
use Rattle.std.proofs.lemmas.List.{get_or-replicate, length-replicate}
use Rattle.std.proofs.Math.Seq.{drop-cons}
use Rattle.rv_guard.specs.Patterns.{word_count}
use Rattle.rv_guard.specs.declared.pieces.Piece.{Piece}
use Rattle.rv_guard.specs.Rules.{address_of, target_of, is_at, is_start, is_target}
use Rattle.fy_audit.specs.Words.{AreMarks}

-- what holds of an address is marked already, or holds of the pieces that are left
pub record SoFar (f : ℕ → ℕ → List Piece → Bool) (words k : ℕ) (all rest : List Piece) (marks : List Bool) : Type 0 where
  pub count : length marks ≡ words
  pub each : (j : ℕ) → j < words → f (address_of j) 0 all ≡ (slice_index_or marks j false || f (address_of j) k rest)

pub so_far_none : (f : ℕ → ℕ → List Piece → Bool) (words : ℕ) (all : List Piece) (marks : List Bool) → marks ≡ replicate words false → SoFar f words 0 all all marks
so_far_none f words all marks e = record {
  count = ap length e ∙ length-replicate words false;
  each = λ j below. ap (λ b. b || f (address_of j) 0 all) (sym (ap (λ xs. slice_index_or xs j false) e ∙ get_or-replicate words j false false below));
}

or_assoc : (a b c : Bool) → (a || (b || c)) ≡ ((a || b) || c)
or_assoc true b c = refl
or_assoc false b c = refl

so_far_more : (f : ℕ → ℕ → List Piece → Bool) (g : ℕ → Bool) (words k : ℕ) (all rest : List Piece) (piece : Piece) (marks now : List Bool) → ((a : ℕ) → f a k (piece ∷ rest) ≡ (g a || f a (k + word_count piece) rest))
    → SoFar f words k all (piece ∷ rest) marks → length now ≡ length marks → ((j : ℕ) → j < length marks → slice_index_or now j false ≡ (slice_index_or marks j false || g (address_of j)))
    → SoFar f words (k + word_count piece) all rest now
so_far_more f g words k all rest piece marks now step h count each = record {
  count = count ∙ h.count;
  each = λ j below. h.each j below ∙ ap (λ b. slice_index_or marks j false || b) (step (address_of j)) ∙ or_assoc (slice_index_or marks j false) (g (address_of j)) (f (address_of j) (k + word_count piece) rest)
      ∙ ap (λ b. b || f (address_of j) (k + word_count piece) rest) (sym (each j (omega (arith, below, h.count))));
}

pub start_more : (words k : ℕ) (all rest : List Piece) (piece : Piece) (marks now : List Bool)
    → SoFar is_start words k all (piece ∷ rest) marks → length now ≡ length marks → ((j : ℕ) → j < length marks → slice_index_or now j false ≡ (slice_index_or marks j false || nat_eq (address_of k) (address_of j)))
    → SoFar is_start words (k + word_count piece) all rest now
start_more words k all rest piece marks now h count each = so_far_more is_start (λ a. nat_eq (address_of k) a) words k all rest piece marks now (λ a. refl) h count each

pub target_more : (words k : ℕ) (all rest : List Piece) (piece : Piece) (marks now : List Bool)
    → SoFar is_target words k all (piece ∷ rest) marks → length now ≡ length marks → ((j : ℕ) → j < length marks → slice_index_or now j false ≡ (slice_index_or marks j false || is_at (address_of j) (target_of k piece)))
    → SoFar is_target words (k + word_count piece) all rest now
target_more words k all rest piece marks now h count each = so_far_more is_target (λ a. is_at a (target_of k piece)) words k all rest piece marks now (λ a. refl) h count each

or_false : (a : Bool) → (a || false) ≡ a
or_false true = refl
or_false false = refl

so_far_all : (f : ℕ → ℕ → List Piece → Bool) (words k : ℕ) (all rest : List Piece) (marks : List Bool) → rest ≡ [] → ((a : ℕ) → f a k [] ≡ false) → SoFar f words k all rest marks → AreMarks (λ a. f a 0 all) words marks
so_far_all f words k all rest marks e none h = record {
  count = h.count;
  each = λ j below. sym (h.each j below ∙ ap (λ xs. slice_index_or marks j false || f (address_of j) k xs) e ∙ ap (λ b. slice_index_or marks j false || b) (none (address_of j)) ∙ or_false (slice_index_or marks j false));
}

pub start_all : (words k : ℕ) (all rest : List Piece) (marks : List Bool) → rest ≡ [] → SoFar is_start words k all rest marks → AreMarks (λ a. is_start a 0 all) words marks
start_all words k all rest marks e h = so_far_all is_start words k all rest marks e (λ a. refl) h

pub target_all : (words k : ℕ) (all rest : List Piece) (marks : List Bool) → rest ≡ [] → SoFar is_target words k all rest marks → AreMarks (λ a. is_target a 0 all) words marks
target_all words k all rest marks e h = so_far_all is_target words k all rest marks e (λ a. refl) h

pub next_piece : (pieces : List Piece) (i : ℕ) (d : Piece) → i < length pieces → drop i pieces ≡ slice_index_or pieces i d ∷ drop (i + 1) pieces
next_piece pieces i d below = drop-cons pieces i d below ∙ (let e : suc i ≡ i + 1 = omega arith in ap (λ n. slice_index_or pieces i d ∷ drop n pieces) e)
