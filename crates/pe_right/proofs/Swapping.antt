-- States of code that hands constants as data, by those of code that hands thunks: a thunk of a constant's node becomes its datum, and all else is as it is.
use Rattle.std.proofs.Common.{ℕ, zero, suc, ◌+◌, ◌≡◌, pos, negsuc, Bool, true, false, cond, leb, nat_eq, nat_lt, List, [], ◌∷◌, length, Option, Some, None, slice_get, refl, ap, ap₂, ◌∙◌}
use Rattle.fy_base.specs.declared.data.Place.{Place}
use Rattle.fy_base.specs.declared.data.Datum.{Datum}
use Rattle.fy_base.specs.declared.data.Datum.TheVariants as datum_kind
use Rattle.fy_base.specs.declared.data.BinOp.{BinOp}
use Rattle.fy_base.specs.declared.data.BinOp.TheVariants.{And, Or}
use Rattle.fy_base.specs.declared.arithmetic.Applied.{Applied}
use Rattle.fy_base.specs.declared.arithmetic.Applied.TheVariants.{Gives, Faults, NoSense}
use Rattle.fy_base.specs.Arithmetic.{unary_result, binary_result, written_text}
use Rattle.fy_base.specs.Outside.{Bytes}
use Rattle.fy_phrase.specs.Contexts.{op_1, op_l, op_r, if_c, case_c, arg_c, pick_c, then_c, assign_c, store_c, while_c, body_c, loop_c, new_c, drop_c, put_c, esc_c, cells_c, fill_c, element_c}
use Rattle.fy_phrase.specs.Copy.{Which, own, element}
use Rattle.fy_base.specs.declared.data.FaultKind.TheVariants.{Range}
use Rattle.pe_code.specs.declared.code.PeCode.{PeCode}
use Rattle.pe_code.specs.Code.{item_at, entry_of}
use Rattle.pe_machine.specs.States.{Pointer, Thunk, source, datum, cell_of, jump_of, sequence_of, Binding, to_thunk, to_cell, to_escape, to_sequence, Frame, code_at, value, completed, Wanted, Sequence, PeContext, Held, PeState, is_named, oldest, is_listed, frame_outside, datum_in, datum_of, with_datum, with_cell, sequence_in, sequence_at, element_in, with_element, with_binding, value_of, with_value, handed_on}
use Rattle.pe_machine.specs.Step.{PeMove, goes, puts, takes, faults, sticks, loses, focus_on, push, focused, pushed, bound, answered, taken, operated, left_meets, chosen, parts_at, focused_if_some, indexed, written, element_picked, counted, datum_meets, one_more, bound_filled, filled, datum_under, datum_focused, completion_meets, bind_meets, field_meets, accept_meets, loaded, assigned, assignment_meets, cell_entered, is_target, jumped, at_entry, if_listed, is_assignment, entered_plain, with_variable}

abbrev pub hand : Option Datum → ℕ → Option ℕ → Thunk
hand None k r = source k r
hand (Some v) k r = datum v

-- of which nodes a datum is known, cv tells
module _ (cv : ℕ → Option Datum) where
  abbrev pub swap : Thunk → Thunk
  swap (source k r) = hand (cv k) k r
  swap (datum v) = datum v
  swap (cell_of n) = cell_of n
  swap (jump_of n) = jump_of n
  swap (sequence_of n) = sequence_of n

  abbrev pub swap_binding : Binding → Binding
  swap_binding (to_thunk t) = to_thunk (swap t)
  swap_binding (to_cell v) = to_cell v
  swap_binding to_escape = to_escape
  swap_binding (to_sequence c) = to_sequence c

  abbrev pub swap_frame : Frame → Frame
  swap_frame f = record f { binding = swap_binding f.binding }

  abbrev pub swap_frames : List Frame → List Frame
  swap_frames [] = []
  swap_frames (f ∷ fs) = swap_frame f ∷ swap_frames fs

  abbrev pub swap_context : PeContext → PeContext
  swap_context (arg_c t) = arg_c (swap t)
  swap_context c = c

  abbrev pub swap_held : List Held → List Held
  swap_held [] = []
  swap_held (c ∷ cs) = (record c { context = swap_context c.context }) ∷ swap_held cs

  abbrev pub swap_state : PeState → PeState
  swap_state s = record s { contexts = swap_held s.contexts; frames = swap_frames s.frames }

  abbrev pub swap_move : PeMove → PeMove
  swap_move (goes s) = goes (swap_state s)
  swap_move (puts text s) = puts text (swap_state s)
  swap_move (takes go) = takes (λ byte. swap_state (go byte))
  swap_move (faults kind at) = faults kind at
  swap_move sticks = sticks
  swap_move loses = loses

  -- ---- frames

  pub length-swap : (fs : List Frame) → length (swap_frames fs) ≡ length fs
  length-swap [] = refl
  length-swap (f ∷ fs) = ap suc (length-swap fs)

  frames-if : (t : Bool) (x y : List Frame) → cond t (swap_frames x) (swap_frames y) ≡ swap_frames (cond t x y)
  frames-if true x y = refl
  frames-if false x y = refl

  pub oldest-swap : (n : ℕ) (fs : List Frame) → oldest n (swap_frames fs) ≡ swap_frames (oldest n fs)
  oldest-swap n [] = refl
  oldest-swap n (f ∷ fs) =
      ap (λ (l : ℕ). cond (leb n l) (oldest n (swap_frames fs)) (swap_frame f ∷ swap_frames fs)) (length-swap fs)
      ∙ ap (λ (x : List Frame). cond (leb n (length fs)) x (swap_frame f ∷ swap_frames fs)) (oldest-swap n fs)
      ∙ frames-if (leb n (length fs)) (oldest n fs) (f ∷ fs)

  pub listed-swap : (r : Option ℕ) (fs : List Frame) → is_listed r (swap_frames fs) ≡ is_listed r fs
  listed-swap None [] = refl
  listed-swap (Some n) [] = refl
  listed-swap r (f ∷ fs) = ap (λ (x : Bool). cond (is_named r f.number) true x) (listed-swap r fs)

  abbrev pub swap_found : Option Frame → Option Frame
  swap_found None = None
  swap_found (Some f) = Some (swap_frame f)

  found-if : (t : Bool) (x y : Option Frame) → cond t (swap_found x) (swap_found y) ≡ swap_found (cond t x y)
  found-if true x y = refl
  found-if false x y = refl

  pub outside-swap : (fs : List Frame) (k : ℕ) (r : Option ℕ) → frame_outside (swap_frames fs) k r ≡ swap_found (frame_outside fs k r)
  outside-swap [] k r = refl
  outside-swap (f ∷ fs) zero r =
      ap (λ (x : Option Frame). cond (is_named r f.number) (Some (swap_frame f)) x) (outside-swap fs zero r)
      ∙ found-if (is_named r f.number) (Some f) (frame_outside fs zero r)
  outside-swap (f ∷ fs) (suc k) r =
      ap₂ (λ (x : Option Frame) (y : Option Frame). cond (is_named r f.number) x y) (outside-swap fs k f.around) (outside-swap fs (suc k) r)
      ∙ found-if (is_named r f.number) (frame_outside fs k f.around) (frame_outside fs (suc k) r)

  datum_in-swap : (b : Binding) → datum_in (swap_binding b) ≡ datum_in b
  datum_in-swap (to_thunk t) = refl
  datum_in-swap (to_cell v) = refl
  datum_in-swap to_escape = refl
  datum_in-swap (to_sequence c) = refl

  pub datum_of-swap : (n : ℕ) (fs : List Frame) → datum_of n (swap_frames fs) ≡ datum_of n fs
  datum_of-swap n [] = refl
  datum_of-swap n (f ∷ fs) =
      ap₂ (λ (x : Option Datum) (y : Option Datum). cond (nat_eq n f.number) x y) (datum_in-swap f.binding) (datum_of-swap n fs)

  with_datum-swap : (v : Datum) (b : Binding) → with_datum v (swap_binding b) ≡ swap_binding (with_datum v b)
  with_datum-swap v (to_thunk t) = refl
  with_datum-swap v (to_cell u) = refl
  with_datum-swap v to_escape = refl
  with_datum-swap v (to_sequence c) = refl

  pub with_cell-swap : (n : ℕ) (v : Datum) (fs : List Frame) → with_cell n v (swap_frames fs) ≡ swap_frames (with_cell n v fs)
  with_cell-swap n v [] = refl
  with_cell-swap n v (f ∷ fs) =
      ap₂ (λ (b : Binding) (gs : List Frame). cond (nat_eq n f.number) ((record f { binding = b }) ∷ swap_frames fs) (swap_frame f ∷ gs)) (with_datum-swap v f.binding) (with_cell-swap n v fs)
      ∙ frames-if (nat_eq n f.number) ((record f { binding = with_datum v f.binding }) ∷ fs) (f ∷ with_cell n v fs)

  sequence_in-swap : (b : Binding) → sequence_in (swap_binding b) ≡ sequence_in b
  sequence_in-swap (to_thunk t) = refl
  sequence_in-swap (to_cell v) = refl
  sequence_in-swap to_escape = refl
  sequence_in-swap (to_sequence c) = refl

  pub sequence_at-swap : (n : ℕ) (fs : List Frame) → sequence_at n (swap_frames fs) ≡ sequence_at n fs
  sequence_at-swap n [] = refl
  sequence_at-swap n (f ∷ fs) =
      ap₂ (λ (x : Option Sequence) (y : Option Sequence). cond (nat_eq n f.number) x y) (sequence_in-swap f.binding) (sequence_at-swap n fs)

  with_element-swap : (i : ℕ) (v : Datum) (b : Binding) → with_element i v (swap_binding b) ≡ swap_binding (with_element i v b)
  with_element-swap i v (to_thunk t) = refl
  with_element-swap i v (to_cell u) = refl
  with_element-swap i v to_escape = refl
  with_element-swap i v (to_sequence c) = refl

  set_element-swap : (n i : ℕ) (v : Datum) (fs : List Frame) → with_binding n (with_element i v) (swap_frames fs) ≡ swap_frames (with_binding n (with_element i v) fs)
  set_element-swap n i v [] = refl
  set_element-swap n i v (f ∷ fs) =
      ap₂ (λ (b : Binding) (gs : List Frame). cond (nat_eq n f.number) ((record f { binding = b }) ∷ swap_frames fs) (swap_frame f ∷ gs)) (with_element-swap i v f.binding) (set_element-swap n i v fs)
      ∙ frames-if (nat_eq n f.number) ((record f { binding = with_element i v f.binding }) ∷ fs) (f ∷ with_binding n (with_element i v) fs)

  value_of-swap : (which : Which) (n : ℕ) (fs : List Frame) → value_of which n (swap_frames fs) ≡ value_of which n fs
  value_of-swap own n fs = datum_of-swap n fs
  value_of-swap (element i) n fs = ap (λ (o : Option Sequence). element_in i o) (sequence_at-swap n fs)

  with_value-swap : (which : Which) (n : ℕ) (v : Datum) (fs : List Frame) → with_value which n v (swap_frames fs) ≡ swap_frames (with_value which n v fs)
  with_value-swap own n v fs = with_cell-swap n v fs
  with_value-swap (element i) n v fs = set_element-swap n i v fs

  pub handed-swap : (n : ℕ) (b : Binding) → handed_on n (swap_binding b) ≡ swap (handed_on n b)
  handed-swap n (to_thunk t) = refl
  handed-swap n (to_cell v) = refl
  handed-swap n to_escape = refl
  handed-swap n (to_sequence c) = refl

  -- ---- states and moves

  pub push-swap : (c : PeContext) (s : PeState) → push (swap_context c) (swap_state s) ≡ swap_state (push c s)
  push-swap c s =
      ap (λ (l : ℕ). record (swap_state s) { contexts = (record { base = s.load; frames = l; context = swap_context c }) ∷ swap_held s.contexts; load = s.load + 8 })
      (length-swap s.frames)

  pub pushed-swap : (c : PeContext) (p : Pointer) (s : PeState) → pushed (swap_context c) p (swap_state s) ≡ swap_move (pushed c p s)
  pushed-swap c p s = ap (λ (t : PeState). goes (focus_on (code_at p) t)) (push-swap c s)

  move-if : (t : Bool) (x y : PeMove) → cond t (swap_move x) (swap_move y) ≡ swap_move (cond t x y)
  move-if true x y = refl
  move-if false x y = refl

  pub answered-swap : (there here : PeContext → PeState → PeMove) → ((c : PeContext) (s : PeState) → there (swap_context c) (swap_state s) ≡ swap_move (here c s)) →
      (cs : List Held) (s : PeState) → answered there (swap_held cs) (swap_state s) ≡ swap_move (answered here cs s)
  answered-swap there here h [] s = refl
  answered-swap there here h (c ∷ cs) s =
      ap (λ (fs : List Frame). there (swap_context c.context) (record (swap_state s) { contexts = swap_held cs; frames = fs; load = c.base })) (oldest-swap c.frames s.frames)
      ∙ h c.context (record s { contexts = cs; frames = oldest c.frames s.frames; load = c.base })

  pub taken-swap : (there here : PeContext → PeState → PeMove) → ((c : PeContext) (s : PeState) → there (swap_context c) (swap_state s) ≡ swap_move (here c s)) →
      (cs : List Held) (s : PeState) → taken there (swap_held cs) (swap_state s) ≡ swap_move (taken here cs s)
  taken-swap there here h [] s = refl
  taken-swap there here h (c ∷ cs) s = h c.context (record s { contexts = cs })

  -- ---- a datum and a finished command meet a context

  operated-swap : (x : Applied) (at : Place) (s : PeState) → operated x at (swap_state s) ≡ swap_move (operated x at s)
  operated-swap (Gives v) at s = refl
  operated-swap (Faults kind) at s = refl
  operated-swap NoSense at s = refl

  left-swap : (op : BinOp) (v : Datum) (q : Pointer) (at : Place) (s : PeState) → left_meets op v q at (swap_state s) ≡ swap_move (left_meets op v q at s)
  left-swap And (datum_kind.Bool true) q at s = refl
  left-swap And (datum_kind.Bool false) q at s = refl
  left-swap And (datum_kind.Int n) q at s = refl
  left-swap And (datum_kind.Char n) q at s = refl
  left-swap Or (datum_kind.Bool true) q at s = refl
  left-swap Or (datum_kind.Bool false) q at s = refl
  left-swap Or (datum_kind.Int n) q at s = refl
  left-swap Or (datum_kind.Char n) q at s = refl
  left-swap op v q at s = pushed-swap (op_r op v at) q s

  chosen-swap : (v : Datum) (x y m n : PeMove) → x ≡ swap_move m → y ≡ swap_move n → chosen v x y ≡ swap_move (chosen v m n)
  chosen-swap (datum_kind.Bool true) x y m n e f = e
  chosen-swap (datum_kind.Bool false) x y m n e f = f
  chosen-swap v x y m n e f = refl

  if_some-swap : (o r : Option ℕ) (at : Place) (s : PeState) → focused_if_some o r at (swap_state s) ≡ swap_move (focused_if_some o r at s)
  if_some-swap (Some a) r at s = refl
  if_some-swap None r at s = refl

  indexed-swap : (v : Datum) (ys : List ℕ) (r : Option ℕ) (at : Place) (s : PeState) → indexed v ys r at (swap_state s) ≡ swap_move (indexed v ys r at s)
  indexed-swap (datum_kind.Int (pos n)) ys r at s = if_some-swap (slice_get ys n) r at s
  indexed-swap (datum_kind.Int (negsuc n)) ys r at s = refl
  indexed-swap v ys r at s = refl

  written-swap : (o : Option Bytes) (s : PeState) → written o (swap_state s) ≡ swap_move (written o s)
  written-swap (Some text) s = refl
  written-swap None s = refl

  -- ---- cells

  loaded-swap : (o : Option Datum) (s : PeState) → loaded o (swap_state s) ≡ swap_move (loaded o s)
  loaded-swap (Some v) s = refl
  loaded-swap None s = refl

  assigned-swap : (o : Option Datum) (which : Which) (n : ℕ) (v : Datum) (s : PeState) → assigned o which n v (swap_state s) ≡ swap_move (assigned o which n v s)
  assigned-swap (Some u) which n v s = ap (λ (fs : List Frame). focused completed (record (swap_state s) { frames = fs })) (with_value-swap which n v s.frames)
  assigned-swap None which n v s = refl

  assignment-meets-swap : (which : Which) (n : ℕ) (c : PeContext) (s : PeState) → assignment_meets which n (swap_context c) (swap_state s) ≡ swap_move (assignment_meets which n c s)
  assignment-meets-swap which n (store_c v) s =
      ap (λ (o : Option Datum). assigned o which n v (swap_state s)) (value_of-swap which n s.frames) ∙ assigned-swap (value_of which n s.frames) which n v s
  assignment-meets-swap which n c s = refl

  cell-entered-swap : (b : Bool) (which : Which) (n : ℕ) (s : PeState) → cell_entered b which n (swap_state s) ≡ swap_move (cell_entered b which n s)
  cell-entered-swap true which n s = taken-swap (assignment_meets which n) (assignment_meets which n) (assignment-meets-swap which n) s.contexts s
  cell-entered-swap false which n s =
      ap (λ (o : Option Datum). loaded o (swap_state s)) (value_of-swap which n s.frames) ∙ loaded-swap (value_of which n s.frames) s

  picked-swap : (v : Datum) (w : Wanted) (o : Option Sequence) (s : PeState) → element_picked v w o (swap_state s) ≡ swap_move (element_picked v w o s)
  picked-swap (datum_kind.Int (pos i)) w (Some c) s =
      ap (λ (m : PeMove). cond (nat_lt i (length c.values)) m (faults Range c.place)) (cell-entered-swap w.is_written (element i) w.number s)
      ∙ move-if (nat_lt i (length c.values)) (cell_entered w.is_written (element i) w.number s) (faults Range c.place)
  picked-swap (datum_kind.Int (negsuc i)) w (Some c) s = refl
  picked-swap v w (Some c) s = refl
  picked-swap v w None s = refl

  counted-swap : (v : Datum) (d : ℕ) (body : Pointer) (at : Place) (s : PeState) → counted v d body at (swap_state s) ≡ swap_move (counted v d body at s)
  counted-swap (datum_kind.Int (pos m)) d body at s = ap (λ (t : PeState). focused (value (datum_kind.Int (pos 0))) t) (push-swap (fill_c s.next m d body at) s)
  counted-swap (datum_kind.Int (negsuc m)) d body at s = refl
  counted-swap v d body at s = refl

  datum-meets-swap : (made code : PeCode) → ((a : ℕ) → parts_at (item_at made a) ≡ parts_at (item_at code a)) → (v : Datum) (c : PeContext) (s : PeState) →
      datum_meets made v (swap_context c) (swap_state s) ≡ swap_move (datum_meets code v c s)
  datum-meets-swap made code parts v (op_1 op at) s = operated-swap (unary_result op v) at s
  datum-meets-swap made code parts v (op_l op q at) s = left-swap op v q at s
  datum-meets-swap made code parts v (op_r op u at) s = operated-swap (binary_result op u v) at s
  datum-meets-swap made code parts v (if_c p q) s = chosen-swap v _ _ (focused (code_at p) s) (focused (code_at q) s) refl refl
  datum-meets-swap made code parts v (case_c c at) s =
      ap (λ (ys : List ℕ). indexed v ys c.frame at (swap_state s)) (parts c.address) ∙ indexed-swap v (parts_at (item_at code c.address)) c.frame at s
  datum-meets-swap made code parts v (while_c loop c) s = chosen-swap v _ _ (pushed (body_c loop) c s) (focused completed s) (pushed-swap (body_c loop) c s) refl
  datum-meets-swap made code parts v (new_c d body) s = ap (λ (t : PeState). bound d (to_cell v) body.address body.frame t) (push-swap (drop_c s.next) s)
  datum-meets-swap made code parts v (assign_c p) s = pushed-swap (store_c v) p s
  datum-meets-swap made code parts v (put_c kind) s = written-swap (written_text kind v) s
  datum-meets-swap made code parts v (cells_c d body at) s = counted-swap v d body at s
  datum-meets-swap made code parts v (element_c w) s =
      ap (λ (o : Option Sequence). element_picked v w o (swap_state s)) (sequence_at-swap w.number s.frames) ∙ picked-swap v w (sequence_at w.number s.frames) s
  datum-meets-swap made code parts v c s = refl

  completion-meets-swap : (c : PeContext) (s : PeState) → completion_meets (swap_context c) (swap_state s) ≡ swap_move (completion_meets c s)
  completion-meets-swap (then_c q) s = refl
  completion-meets-swap (body_c loop) s = refl
  completion-meets-swap (loop_c loop) s = refl
  completion-meets-swap (drop_c n) s = refl
  completion-meets-swap (esc_c n) s = refl
  completion-meets-swap c s = refl

  filled-swap : (v : Datum) (m d : ℕ) (body : Pointer) (at : Place) (c : Held) (cs : List Held) (s : PeState) →
      filled v m (λ k. one_more k (swap_state s)) (bound_filled m d body at (record c { context = swap_context c.context }) (swap_held cs) (swap_state s))
      ≡ swap_move (filled v m (λ k. one_more k s) (bound_filled m d body at c cs s))
  filled-swap (datum_kind.Int (pos k)) m d body at c cs s =
      ap (λ (x : PeMove). cond (nat_lt k m) (swap_move (one_more k s)) x) (move-if (nat_eq k m) (bound_filled m d body at c cs s) sticks)
      ∙ move-if (nat_lt k m) (one_more k s) (cond (nat_eq k m) (bound_filled m d body at c cs s) sticks)
  filled-swap v m d body at c cs s = refl

  under-swap : (made code : PeCode) → ((a : ℕ) → parts_at (item_at made a) ≡ parts_at (item_at code a)) → (v : Datum) (e : PeContext) (c : Held) (cs : List Held) (s : PeState) →
      datum_under made v (swap_context e) (record c { context = swap_context c.context }) (swap_held cs) (swap_state s) ≡ swap_move (datum_under code v e c cs s)
  under-swap made code parts v (fill_c n m d body at) c cs s = filled-swap v m d body at c cs s
  under-swap made code parts v (arg_c t) c cs s = answered-swap (datum_meets made v) (datum_meets code v) (datum-meets-swap made code parts v) (c ∷ cs) s
  under-swap made code parts v e c cs s = answered-swap (datum_meets made v) (datum_meets code v) (datum-meets-swap made code parts v) (c ∷ cs) s

  focused-swap : (made code : PeCode) → ((a : ℕ) → parts_at (item_at made a) ≡ parts_at (item_at code a)) → (v : Datum) (cs : List Held) (s : PeState) →
      datum_focused made v (swap_held cs) (swap_state s) ≡ swap_move (datum_focused code v cs s)
  focused-swap made code parts v [] s = refl
  focused-swap made code parts v (c ∷ cs) s = under-swap made code parts v c.context c cs s

  pub value-swap : (made code : PeCode) → ((a : ℕ) → parts_at (item_at made a) ≡ parts_at (item_at code a)) → (v : Datum) (s : PeState) →
      datum_focused made v (swap_held s.contexts) (swap_state s) ≡ swap_move (datum_focused code v s.contexts s)
  value-swap made code parts v s = focused-swap made code parts v s.contexts s

  pub completed-swap : (s : PeState) → answered completion_meets (swap_held s.contexts) (swap_state s) ≡ swap_move (answered completion_meets s.contexts s)
  completed-swap s = answered-swap completion_meets completion_meets completion-meets-swap s.contexts s

  -- ---- a procedure, a field and an acceptor

  pub bind-meets-swap : (d y : ℕ) (r : Option ℕ) (c : PeContext) (s : PeState) → bind_meets d y r (swap_context c) (swap_state s) ≡ swap_move (bind_meets d y r c s)
  bind-meets-swap d y r (arg_c t) s = refl
  bind-meets-swap d y r c s = refl

  pub field-meets-swap : (i : ℕ) (p : Pointer) (c : PeContext) (s : PeState) → field_meets i p (swap_context c) (swap_state s) ≡ swap_move (field_meets i p c s)
  field-meets-swap i p (pick_c j) s = move-if (nat_eq i j) (focused (code_at p) s) sticks
  field-meets-swap i p c s = refl

  pub accept-meets-swap : (d y : ℕ) (r : Option ℕ) (c : PeContext) (s : PeState) → accept_meets d y r (swap_context c) (swap_state s) ≡ swap_move (accept_meets d y r c s)
  accept-meets-swap d y r (store_c v) s = refl
  accept-meets-swap d y r c s = refl

  -- ---- a thunk is entered

  target-swap : (n : ℕ) (c : PeContext) → is_target n (swap_context c) ≡ is_target n c
  target-swap n (arg_c t) = refl
  target-swap n c = refl

  jumped-swap : (n : ℕ) (cs : List Held) (s : PeState) → jumped n (swap_held cs) (swap_state s) ≡ swap_move (jumped n cs s)
  jumped-swap n [] s = refl
  jumped-swap n (c ∷ cs) s =
      let off : PeState = record s { focus = completed; contexts = cs; frames = oldest c.frames s.frames; load = c.base } in
      ap₂ (λ (b : Bool) (fs : List Frame). cond b (goes (record (swap_state s) { focus = completed; contexts = swap_held cs; frames = fs; load = c.base })) (jumped n (swap_held cs) (swap_state s)))
      (target-swap n c.context) (oldest-swap c.frames s.frames)
      ∙ ap (λ (m : PeMove). cond (is_target n c.context) (goes (swap_state off)) m) (jumped-swap n cs s)
      ∙ move-if (is_target n c.context) (goes off) (jumped n cs s)

  at_entry-swap : (o r : Option ℕ) (s : PeState) → at_entry o r (swap_state s) ≡ swap_move (at_entry o r s)
  at_entry-swap (Some a) r s = refl
  at_entry-swap None r s = refl

  if_listed-swap : (b : Bool) (x m : PeMove) → x ≡ swap_move m → if_listed b x ≡ swap_move (if_listed b m)
  if_listed-swap true x m e = e
  if_listed-swap false x m e = refl

  -- one that is no constant's and no sequence, where both have the same entries
  pub entered-swap : (made code : PeCode) → ((k n : ℕ) → entry_of made k n ≡ entry_of code k n) → made.assignment ≡ code.assignment → (n : ℕ) (t : Thunk) (s : PeState) →
      swap t ≡ t → entered_plain made n (swap t) (swap_state s) ≡ swap_move (entered_plain code n t s)
  entered-swap made code entries assignment n (source k r) s plain =
      ap (λ (t : Thunk). entered_plain made n t (swap_state s)) plain
      ∙ ap₂ (λ (b : Bool) (o : Option ℕ). if_listed b (at_entry o r (swap_state s))) (listed-swap r s.frames) (entries k n)
      ∙ if_listed-swap (is_listed r s.frames) (at_entry (entry_of code k n) r (swap_state s)) (at_entry (entry_of code k n) r s) (at_entry-swap (entry_of code k n) r s)
  entered-swap made code entries assignment n (datum v) s plain = refl
  entered-swap made code entries assignment n (cell_of m) s plain =
      ap (λ (o : Option ℕ). cell_entered (is_assignment o n) own m (swap_state s)) assignment ∙ cell-entered-swap (is_assignment code.assignment n) own m s
  entered-swap made code entries assignment n (jump_of m) s plain =
      ap (λ (b : Bool). if_listed b (jumped m (swap_held s.contexts) (swap_state s))) (listed-swap (Some m) s.frames)
      ∙ if_listed-swap (is_listed (Some m) s.frames) (jumped m (swap_held s.contexts) (swap_state s)) (jumped m s.contexts s) (jumped-swap m s.contexts s)
  entered-swap made code entries assignment n (sequence_of m) s plain = refl

  pub variable-swap : (o : Option Frame) (there here : Thunk → PeMove) → ((t : Thunk) → there (swap t) ≡ swap_move (here t)) →
      with_variable (swap_found o) there ≡ swap_move (with_variable o here)
  variable-swap None there here h = refl
  variable-swap (Some f) there here h = ap there (handed-swap f.number f.binding) ∙ h (handed_on f.number f.binding)
