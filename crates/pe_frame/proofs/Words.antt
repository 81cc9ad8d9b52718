-- Bounds on the words of a frame.
use Rattle.std.proofs.Common.{ℕ, zero, suc, ◌+◌, ◌≤◌, arith}
use Rattle.pe_frame.specs.Frames.{frame_words}

-- room for three words and the display, and not many more
pub record Fits (depth : ℕ) : Type 0 where
  pub room : 3 + depth ≤ frame_words depth
  pub small : frame_words depth ≤ 8 + depth

pub frame_fits : (depth : ℕ) → Fits depth
frame_fits zero = record { room = omega arith; small = omega arith }
frame_fits (suc d) = record { room = omega arith; small = omega arith }
