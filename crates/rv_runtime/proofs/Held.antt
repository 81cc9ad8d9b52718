-- The blocks of code that holds the routines.
use Rattle.std.proofs.Common.{◌≡◌, ℕ, List, [], ◌∷◌, ◌++◌, get_or, true, false, ap}
use Rattle.fy_base.specs.Arithmetic.{truth_text}
use Rattle.rv_word.specs.declared.micros.Micro.{Micro}
use Rattle.rv_word.specs.Word.{Code, block}
use Rattle.rv_runtime.specs.Routines.{exhausted, put_true, put_false, put_int, put_magnitude, find_power, put_digits, make_frame, copy_display, copy_few, routine_blocks, exhausted_block, text_block, put_int_block, put_magnitude_block, find_power_block, put_digits_block, make_frame_block, copy_display_block, copy_few_block}
use Rattle.rv_runtime.specs.Laws.{HoldsRoutines}

module _ (code : Code) (h : HoldsRoutines code) where
  -- the block with a label, which is that of the list
  at_label : (label : ℕ) → block code label ≡ get_or (h.meet_block ∷ h.go_block ∷ (routine_blocks ++ h.others)) label []
  at_label label = ap (λ (blocks : List (List Micro)). get_or blocks label []) h.are

  pub exhausted-is : block code exhausted ≡ exhausted_block
  exhausted-is = at_label exhausted

  pub put_true-is : block code put_true ≡ text_block (truth_text true)
  put_true-is = at_label put_true

  pub put_false-is : block code put_false ≡ text_block (truth_text false)
  put_false-is = at_label put_false

  pub put_int-is : block code put_int ≡ put_int_block
  put_int-is = at_label put_int

  pub put_magnitude-is : block code put_magnitude ≡ put_magnitude_block
  put_magnitude-is = at_label put_magnitude

  pub find_power-is : block code find_power ≡ find_power_block
  find_power-is = at_label find_power

  pub put_digits-is : block code put_digits ≡ put_digits_block
  put_digits-is = at_label put_digits

  pub make_frame-is : block code make_frame ≡ make_frame_block
  make_frame-is = at_label make_frame

  pub copy_display-is : block code copy_display ≡ copy_display_block
  copy_display-is = at_label copy_display

  pub copy_few-is : block code copy_few ≡ copy_few_block
  copy_few-is = at_label copy_few
