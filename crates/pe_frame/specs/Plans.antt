-- Plans of frames.
use Rattle.std.specs.Prelude.{ℕ, ◌+◌, ◌≤◌}
use Rattle.pe_frame.specs.declared.frames.FramePlan.{FramePlan}
use Rattle.pe_frame.specs.Frames.{frame_words, thunk_start, display_start}

-- the plan of a frame at a depth
abbrev pub plan_of : ℕ → FramePlan
plan_of depth = record { words = frame_words depth; thunk_at = thunk_start; display_at = display_start }

-- a plan keeps its bound, and the two words of the thunk and the display of so many words lie inside the frame, one behind the other
pub record IsFitPlan (depth : ℕ) (plan : FramePlan) : Type 0 where
  pub small : plan.words ≤ 8 + depth
  pub thunk_first : plan.thunk_at + 2 ≤ plan.display_at
  pub display_inside : plan.display_at + depth ≤ plan.words
