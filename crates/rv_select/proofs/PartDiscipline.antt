-- Parts of blocks of selected code are disciplined.
use Rattle.std.proofs.Common.{◌≡◌, ℕ, zero, suc, ◌*◌, ◌^◌, ◌<◌, ◌≤◌, true, arith, lt-ltb}
use Rattle.std.proofs.lemmas.Bool.{le-leb}
use Rattle.std.specs.Prelude.{nat_lt}
use Rattle.pe_frame.specs.Frames.{frame_words}
use Rattle.rv_word.specs.Word.{Named, zeros}
use Rattle.rv_word.specs.Discipline.{Bounds, is_disciplined_from}
use Rattle.rv_runtime.specs.Routines.{exhausted, make_frame}
pub use Rattle.rv_straight.proofs.Fine.{have_needs, chained, joined}
use Rattle.rv_straight.proofs.Fine.{reach_needs}
use Rattle.rv_select.specs.Numbers.{entry_word}
use Rattle.rv_select.specs.Blocks.{reach, push, push_frame, bind}

-- the label is a block's, and the number a word of 64 bits
abbrev pub IsLabel : Bounds → ℕ → Type 0
IsLabel b label = nat_lt label b.blocks ≡ true

abbrev pub IsWord : ℕ → Type 0
IsWord v = nat_lt v (2 ^ 64) ≡ true

-- ---- the shared parts

pub reach_fine : (b : Bounds) (k : ℕ) → k < 512 → have_needs b zeros (reach k) ≡ true
reach_fine b k h = reach_needs b 1 k zeros h

pub push_fine : (b : Bounds) (entry label : ℕ) → IsLabel b exhausted → IsWord (entry_word entry) → IsLabel b label → is_disciplined_from b zeros (push entry label) ≡ true
push_fine b entry label out word there = simp (out, word, there)

pub push_frame_fine : (b : Bounds) (entry label : ℕ) → IsLabel b exhausted → IsWord (entry_word entry) → IsLabel b label → is_disciplined_from b zeros (push_frame entry label) ≡ true
push_frame_fine b entry label out word there = simp (out, word, there)

pub bind_fine : (b : Bounds) (windows : Named) (d label entry : ℕ) → d ≤ 512 → IsLabel b exhausted → IsLabel b make_frame → IsWord (entry_word entry) → IsLabel b label
    → is_disciplined_from b windows (bind d label entry) ≡ true
bind_fine b windows zero label entry deep out make word there = simp (out, there)
bind_fine b windows (suc d) label entry deep out make word there =
    simp (le-leb (frame_words (suc d)) 4096 (omega arith), lt-ltb (8 * frame_words (suc d)) (2 ^ 64) (omega arith), out, make, word)
