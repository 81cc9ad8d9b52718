-- What a run of a phrase keeps: its binders' depths, and with them small loads.
use Rattle.std.specs.Prelude.{ℕ, ◌*◌, ◌≤◌, max, List, [], ◌∷◌}
use Rattle.std.specs.declared.option.Option.{Option}
use Rattle.fy_phrase.specs.Sizes.{depth, all_depth}
use Rattle.fy_phrase.specs.Contexts.{CopyContext, op_1, op_l, op_r, if_c, case_c, arg_c, pick_c, then_c, assign_c, store_c, while_c, body_c, loop_c, new_c, drop_c, put_c, esc_c, cells_c, fill_c, element_c, Pushed}
use Rattle.fy_phrase.specs.Copy.{CopyState, CopyMove, goes, puts, takes, faults, sticks}

-- the greatest depth of a binder in a context
abbrev pub context_depth : CopyContext → ℕ
context_depth (op_1 op at) = 0
context_depth (op_l op q at) = depth q
context_depth (op_r op u at) = 0
context_depth (if_c p q) = max (depth p) (depth q)
context_depth (case_c parts at) = all_depth parts
context_depth (arg_c q) = depth q
context_depth (pick_c i) = 0
context_depth (then_c q) = depth q
context_depth (assign_c p) = depth p
context_depth (store_c v) = 0
context_depth (while_c loop c) = max (depth loop) (depth c)
context_depth (body_c loop) = depth loop
context_depth (loop_c loop) = depth loop
context_depth (new_c d body) = max d (depth body)
context_depth (drop_c n) = 0
context_depth (put_c kind) = 0
context_depth (esc_c n) = 0
context_depth (cells_c d body at) = max d (depth body)
context_depth (fill_c n v d body at) = max d (depth body)
context_depth (element_c n) = 0

abbrev pub contexts_depth : List (Pushed CopyContext) → ℕ
contexts_depth [] = 0
contexts_depth (c ∷ cs) = max (context_depth c.context) (contexts_depth cs)

-- the greatest load before a context
abbrev pub greatest_base : List (Pushed CopyContext) → ℕ
greatest_base [] = 0
greatest_base (c ∷ cs) = max c.base (greatest_base cs)

-- a state after n steps: each step adds at most 1,039 to the load
pub record IsKept (n : ℕ) (s : CopyState) : Type 0 where
  pub focus : depth s.focus ≤ 1023
  pub contexts : contexts_depth s.contexts ≤ 1023
  pub bases : greatest_base s.contexts ≤ 1039 * n
  pub next : s.next ≤ n
  pub load : s.load ≤ 1039 * n

-- and the states that a move leads to
abbrev pub IsMoveKept : ℕ → CopyMove → Type 0
IsMoveKept n (goes s) = IsKept n s
IsMoveKept n (puts text s) = IsKept n s
IsMoveKept n (takes go) = (byte : Option ℕ) → IsKept n (go byte)
IsMoveKept n (faults kind at) = Unit {0}
IsMoveKept n sticks = Unit {0}
