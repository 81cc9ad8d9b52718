-- No step takes the number of frames that were made back.
use Rattle.std.proofs.Common.{ℕ, ◌≤◌, pos, negsuc, Bool, true, false, cond, nat_eq, nat_lt, List, [], ◌∷◌, length, Option, Some, None, slice_get, arith}
use Rattle.fy_base.specs.declared.data.Place.{Place}
use Rattle.fy_base.specs.declared.data.Datum.{Datum}
use Rattle.fy_base.specs.declared.data.Datum.TheVariants as datum_kind
use Rattle.fy_base.specs.declared.data.BinOp.{BinOp}
use Rattle.fy_base.specs.declared.data.BinOp.TheVariants.{And, Or}
use Rattle.fy_base.specs.declared.arithmetic.Applied.{Applied}
use Rattle.fy_base.specs.declared.arithmetic.Applied.TheVariants.{Gives, Faults, NoSense}
use Rattle.fy_base.specs.Arithmetic.{unary_result, binary_result, written_text}
use Rattle.fy_base.specs.Outside.{Bytes}
use Rattle.fy_phrase.specs.Contexts.{op_1, op_l, op_r, if_c, case_c, arg_c, pick_c, then_c, assign_c, store_c, while_c, body_c, loop_c, new_c, drop_c, put_c, esc_c, cells_c, fill_c, element_c}
use Rattle.fy_phrase.specs.Copy.{Which, own, element}
use Rattle.fy_base.specs.declared.data.FaultKind.{FaultKind}
use Rattle.fy_base.specs.declared.data.FaultKind.TheVariants.{Range}
use Rattle.pe_code.specs.declared.code.PeInsn.{PeInsn}
use Rattle.pe_code.specs.declared.code.PeInsn.TheVariants as insn
use Rattle.pe_code.specs.declared.code.PeItem.{PeItem}
use Rattle.pe_code.specs.declared.code.PeCode.{PeCode}
use Rattle.pe_code.specs.Code.{item_at, entry_of}
use Rattle.pe_machine.specs.States.{Pointer, Thunk, source, datum, cell_of, jump_of, sequence_of, to_thunk, Frame, Focus, code_at, value, completed, PeContext, Wanted, Sequence, Held, PeState, oldest, is_listed, frame_outside, datum_in, sequence_at, value_of, handed_on}
use Rattle.pe_code.specs.Straight.{Outcome, leaves, fails, has_none, misses, outcome_after}
use Rattle.pe_machine.specs.Step.{own_cell, cell_set, own_cell_set, faults_at, outcome_move, PeMove, goes, puts, takes, faults, sticks, loses, focused, pushed, bound, answered, taken, operated, left_meets, chosen, parts_at, focused_if_some, indexed, written, element_picked, counted, datum_meets, one_more, bound_filled, filled, datum_under, datum_focused, completion_meets, bind_meets, field_meets, accept_meets, loaded, assigned, assignment_meets, cell_entered, is_target, jumped, at_entry, if_listed, is_assignment, push, entered_plain, index_entered, index_meets, length_meets, Asked, a_cell, a_length, no_part, asked_at, sequence_asked, entered, with_variable, waiting, executed, item_executed, step_at, pe_step}

-- the state that the move leads to has made at least n frames
abbrev pub HasMade : ℕ → PeMove → Type 0
HasMade n (goes s) = n ≤ s.next
HasMade n (puts text s) = n ≤ s.next
HasMade n (takes go) = (byte : Option ℕ) → n ≤ (go byte).next
HasMade n (faults kind at) = Unit {0}
HasMade n sticks = Unit {0}
HasMade n loses = Unit {0}

made-if : (n : ℕ) (b : Bool) (x y : PeMove) → HasMade n x → HasMade n y → HasMade n (cond b x y)
made-if n true x y h k = h
made-if n false x y h k = k

made-answered : (meets : PeContext → PeState → PeMove) → ((c : PeContext) (s : PeState) → HasMade s.next (meets c s)) → (cs : List Held) (s : PeState) → HasMade s.next (answered meets cs s)
made-answered meets h [] s = tt
made-answered meets h (c ∷ cs) s = h c.context (record s { contexts = cs; frames = oldest c.frames s.frames; load = c.base })

made-taken : (meets : PeContext → PeState → PeMove) → ((c : PeContext) (s : PeState) → HasMade s.next (meets c s)) → (cs : List Held) (s : PeState) → HasMade s.next (taken meets cs s)
made-taken meets h [] s = tt
made-taken meets h (c ∷ cs) s = h c.context (record s { contexts = cs })

-- ---- a datum and a finished command meet a context

made-operated : (x : Applied) (at : Place) (s : PeState) → HasMade s.next (operated x at s)
made-operated (Gives v) at s = omega arith
made-operated (Faults kind) at s = tt
made-operated NoSense at s = tt

made-left : (op : BinOp) (v : Datum) (q : Pointer) (at : Place) (s : PeState) → HasMade s.next (left_meets op v q at s)
made-left And (datum_kind.Bool true) q at s = omega arith
made-left And (datum_kind.Bool false) q at s = omega arith
made-left And (datum_kind.Int n) q at s = tt
made-left And (datum_kind.Char n) q at s = tt
made-left Or (datum_kind.Bool true) q at s = omega arith
made-left Or (datum_kind.Bool false) q at s = omega arith
made-left Or (datum_kind.Int n) q at s = tt
made-left Or (datum_kind.Char n) q at s = tt
made-left op v q at s = omega arith

made-chosen : (n : ℕ) (v : Datum) (x y : PeMove) → HasMade n x → HasMade n y → HasMade n (chosen v x y)
made-chosen n (datum_kind.Bool true) x y h k = h
made-chosen n (datum_kind.Bool false) x y h k = k
made-chosen n v x y h k = tt

made-if_some : (o r : Option ℕ) (at : Place) (s : PeState) → HasMade s.next (focused_if_some o r at s)
made-if_some (Some a) r at s = omega arith
made-if_some None r at s = tt

made-indexed : (v : Datum) (ys : List ℕ) (r : Option ℕ) (at : Place) (s : PeState) → HasMade s.next (indexed v ys r at s)
made-indexed (datum_kind.Int (pos n)) ys r at s = made-if_some (slice_get ys n) r at s
made-indexed (datum_kind.Int (negsuc n)) ys r at s = tt
made-indexed v ys r at s = tt

made-written : (o : Option Bytes) (s : PeState) → HasMade s.next (written o s)
made-written (Some text) s = omega arith
made-written None s = tt

made-loaded : (o : Option Datum) (s : PeState) → HasMade s.next (loaded o s)
made-loaded (Some v) s = omega arith
made-loaded None s = tt

made-assigned : (o : Option Datum) (which : Which) (n : ℕ) (v : Datum) (s : PeState) → HasMade s.next (assigned o which n v s)
made-assigned (Some u) which n v s = omega arith
made-assigned None which n v s = tt

made-assignment : (which : Which) (n : ℕ) (c : PeContext) (s : PeState) → HasMade s.next (assignment_meets which n c s)
made-assignment which n (store_c v) s = made-assigned (value_of which n s.frames) which n v s
made-assignment which n c s = tt

made-cell : (b : Bool) (which : Which) (n : ℕ) (s : PeState) → HasMade s.next (cell_entered b which n s)
made-cell true which n s = made-taken (assignment_meets which n) (made-assignment which n) s.contexts s
made-cell false which n s = made-loaded (value_of which n s.frames) s

made-picked : (v : Datum) (w : Wanted) (o : Option Sequence) (s : PeState) → HasMade s.next (element_picked v w o s)
made-picked (datum_kind.Int (pos i)) w (Some c) s =
    made-if s.next (nat_lt i (length c.values)) (cell_entered w.is_written (element i) w.number s) (faults Range c.place) (made-cell w.is_written (element i) w.number s) tt
made-picked (datum_kind.Int (negsuc i)) w (Some c) s = tt
made-picked v w (Some c) s = tt
made-picked v w None s = tt

made-counted : (v : Datum) (d : ℕ) (body : Pointer) (at : Place) (s : PeState) → HasMade s.next (counted v d body at s)
made-counted (datum_kind.Int (pos m)) d body at s = omega arith
made-counted (datum_kind.Int (negsuc m)) d body at s = tt
made-counted v d body at s = tt

made-datum : (code : PeCode) (v : Datum) (c : PeContext) (s : PeState) → HasMade s.next (datum_meets code v c s)
made-datum code v (op_1 op at) s = made-operated (unary_result op v) at s
made-datum code v (op_l op q at) s = made-left op v q at s
made-datum code v (op_r op u at) s = made-operated (binary_result op u v) at s
made-datum code v (if_c p q) s = made-chosen s.next v (focused (code_at p) s) (focused (code_at q) s) (omega arith) (omega arith)
made-datum code v (case_c c at) s = made-indexed v (parts_at (item_at code c.address)) c.frame at s
made-datum code v (while_c loop c) s = made-chosen s.next v (pushed (body_c loop) c s) (focused completed s) (omega arith) (omega arith)
made-datum code v (new_c d body) s = omega arith
made-datum code v (assign_c p) s = omega arith
made-datum code v (put_c kind) s = made-written (written_text kind v) s
made-datum code v (cells_c d body at) s = made-counted v d body at s
made-datum code v (element_c w) s = made-picked v w (sequence_at w.number s.frames) s
made-datum code v c s = tt

made-filled : (v : Datum) (m d : ℕ) (body : Pointer) (at : Place) (c : Held) (cs : List Held) (s : PeState) → HasMade s.next (filled v m (λ k. one_more k s) (bound_filled m d body at c cs s))
made-filled (datum_kind.Int (pos k)) m d body at c cs s =
    made-if s.next (nat_lt k m) (one_more k s) (cond (nat_eq k m) (bound_filled m d body at c cs s) sticks) (omega arith)
    (made-if s.next (nat_eq k m) (bound_filled m d body at c cs s) sticks (omega arith) tt)
made-filled v m d body at c cs s = tt

made-under : (code : PeCode) (v : Datum) (e : PeContext) (c : Held) (cs : List Held) (s : PeState) → HasMade s.next (datum_under code v e c cs s)
made-under code v (fill_c n m d body at) c cs s = made-filled v m d body at c cs s
made-under code v e c cs s = made-answered (datum_meets code v) (made-datum code v) (c ∷ cs) s

made-focused : (code : PeCode) (v : Datum) (cs : List Held) (s : PeState) → HasMade s.next (datum_focused code v cs s)
made-focused code v [] s = tt
made-focused code v (c ∷ cs) s = made-under code v c.context c cs s

made-completion : (c : PeContext) (s : PeState) → HasMade s.next (completion_meets c s)
made-completion (then_c q) s = omega arith
made-completion (body_c loop) s = omega arith
made-completion (loop_c loop) s = omega arith
made-completion (drop_c n) s = omega arith
made-completion (esc_c n) s = omega arith
made-completion c s = tt

-- ---- a procedure, a field and an acceptor

made-bind : (d y : ℕ) (r : Option ℕ) (c : PeContext) (s : PeState) → HasMade s.next (bind_meets d y r c s)
made-bind d y r (arg_c t) s = omega arith
made-bind d y r c s = tt

made-field : (i : ℕ) (p : Pointer) (c : PeContext) (s : PeState) → HasMade s.next (field_meets i p c s)
made-field i p (pick_c j) s = made-if s.next (nat_eq i j) (focused (code_at p) s) sticks (omega arith) tt
made-field i p c s = tt

made-accept : (d y : ℕ) (r : Option ℕ) (c : PeContext) (s : PeState) → HasMade s.next (accept_meets d y r c s)
made-accept d y r (store_c v) s = omega arith
made-accept d y r c s = tt

-- ---- a thunk is entered

made-jumped : (n : ℕ) (cs : List Held) (s : PeState) → HasMade s.next (jumped n cs s)
made-jumped n [] s = tt
made-jumped n (c ∷ cs) s =
    made-if s.next (is_target n c.context) (goes (record s { focus = completed; contexts = cs; frames = oldest c.frames s.frames; load = c.base })) (jumped n cs s) (omega arith) (made-jumped n cs s)

made-at_entry : (o r : Option ℕ) (s : PeState) → HasMade s.next (at_entry o r s)
made-at_entry (Some a) r s = omega arith
made-at_entry None r s = tt

made-if_listed : (n : ℕ) (b : Bool) (m : PeMove) → HasMade n m → HasMade n (if_listed b m)
made-if_listed n true m h = h
made-if_listed n false m h = tt

made-plain : (code : PeCode) (n : ℕ) (t : Thunk) (s : PeState) → HasMade s.next (entered_plain code n t s)
made-plain code n (source k r) s = made-if_listed s.next (is_listed r s.frames) (at_entry (entry_of code k n) r s) (made-at_entry (entry_of code k n) r s)
made-plain code n (datum v) s = omega arith
made-plain code n (cell_of m) s = made-cell (is_assignment code.assignment n) own m s
made-plain code n (jump_of m) s = made-if_listed s.next (is_listed (Some m) s.frames) (jumped m s.contexts s) (made-jumped m s.contexts s)
made-plain code n (sequence_of m) s = tt

made-index : (code : PeCode) (o : Option ℕ) (w : Wanted) (t : Thunk) (s : PeState) → HasMade s.next (index_entered code o w t s)
made-index code (Some n) w t s = made-plain code n t (push (element_c w) s)
made-index code None w t s = tt

made-index_meets : (code : PeCode) (w : Wanted) (c : PeContext) (s : PeState) → HasMade s.next (index_meets code w c s)
made-index_meets code w (arg_c t) s = made-index code code.sequences.value w t s
made-index_meets code w c s = tt

made-length : (m : ℕ) (c : PeContext) (s : PeState) → HasMade s.next (length_meets m c s)
made-length m (pick_c i) s = made-if s.next (nat_eq i 0) (focused (value (datum_kind.Int (pos m))) s) sticks (omega arith) tt
made-length m c s = tt

made-asked : (code : PeCode) (k : Asked) (n : ℕ) (o : Option Sequence) (s : PeState) → HasMade s.next (sequence_asked code k n o s)
made-asked code (a_cell b) n (Some c) s =
    made-taken (index_meets code (record { is_written = b; number = n })) (made-index_meets code (record { is_written = b; number = n })) s.contexts s
made-asked code a_length n (Some c) s = made-taken (length_meets (length c.values)) (made-length (length c.values)) s.contexts s
made-asked code no_part n (Some c) s = tt
made-asked code k n None s = tt

made-entered : (code : PeCode) (n : ℕ) (t : Thunk) (s : PeState) → HasMade s.next (entered code n t s)
made-entered code n (source k r) s = made-plain code n (source k r) s
made-entered code n (datum v) s = made-plain code n (datum v) s
made-entered code n (cell_of m) s = made-plain code n (cell_of m) s
made-entered code n (jump_of m) s = made-plain code n (jump_of m) s
made-entered code n (sequence_of m) s = made-asked code (asked_at code.sequences n) m (sequence_at m s.frames) s

made-variable : (n : ℕ) (o : Option Frame) (go : Thunk → PeMove) → ((t : Thunk) → HasMade n (go t)) → HasMade n (with_variable o go)
made-variable n None go h = tt
made-variable n (Some f) go h = h (handed_on f.number f.binding)

-- ---- a step

made-fault : (n : ℕ) (kind : FaultKind) (o : Option PeItem) → HasMade n (faults_at kind o)
made-fault n kind (Some i) = tt
made-fault n kind None = tt

made-outcome : (code : PeCode) (n : ℕ) (o : Outcome) (go : Datum → PeMove) → ((v : Datum) → HasMade n (go v)) → HasMade n (outcome_move code o go)
made-outcome code n (leaves []) go h = tt
made-outcome code n (leaves (v ∷ [])) go h = h v
made-outcome code n (leaves (v ∷ u ∷ stack)) go h = tt
made-outcome code n (fails kind a) go h = made-fault n kind (item_at code a)
made-outcome code n has_none go h = tt
made-outcome code n misses go h = tt

made-set : (o : Option Datum) (m : ℕ) (v : Datum) (s : PeState) → HasMade s.next (cell_set o m v s)
made-set (Some u) m v s = omega arith
made-set None m v s = tt

made-own_set : (o : Option Frame) (v : Datum) (s : PeState) → HasMade s.next (own_cell_set o v s)
made-own_set (Some f) v s = made-set (datum_in f.binding) f.number v s
made-own_set None v s = tt

made-executed : (code : PeCode) (i : PeInsn) (d : ℕ) (at : Place) (here : Pointer) (s : PeState) → HasMade s.next (executed code i d at here s)
made-executed code (insn.UseVar k n) d at here s = made-variable s.next (frame_outside s.frames k here.frame) (λ t. entered code n t s) (λ t. made-entered code n t s)
made-executed code (insn.Bind y) d at here s = made-taken (bind_meets d y here.frame) (made-bind d y here.frame) s.contexts s
made-executed code (insn.PassVar k y) d at here s =
    made-variable s.next (frame_outside s.frames k here.frame) (λ t. pushed (arg_c t) (record here { address = y }) s) (λ t. omega arith)
made-executed code (insn.Field i x) d at here s = made-taken (field_meets i (record here { address = x })) (made-field i (record here { address = x })) s.contexts s
made-executed code (insn.LetVar k y) d at here s =
    made-variable s.next (frame_outside s.frames k here.frame) (λ t. bound d (to_thunk t) y here.frame s) (λ t. omega arith)
made-executed code (insn.Accept y) d at here s = made-taken (accept_meets d y here.frame) (made-accept d y here.frame) s.contexts s
made-executed code (insn.Read x) d at here s = λ byte. omega arith
made-executed code (insn.Eval ss) d at here s =
    made-outcome code s.next (outcome_after (λ k. own_cell (frame_outside s.frames k here.frame)) ss []) (λ v. focused (value v) s) (λ v. omega arith)
made-executed code (insn.Set j ss) d at here s =
    made-outcome code s.next (outcome_after (λ k. own_cell (frame_outside s.frames k here.frame)) ss []) (λ v. own_cell_set (frame_outside s.frames j here.frame) v s)
    (λ v. made-own_set (frame_outside s.frames j here.frame) v s)
made-executed code (insn.EvalFor ss u) d at here s =
    made-outcome code s.next (outcome_after (λ k. own_cell (frame_outside s.frames k here.frame)) ss []) (λ v. datum_meets code v (waiting u here) s)
    (λ v. made-datum code v (waiting u here) s)
made-executed code i d at here s = omega arith

made-item : (code : PeCode) (o : Option PeItem) (here : Pointer) (s : PeState) → HasMade s.next (item_executed code o here s)
made-item code (Some i) here s = made-executed code i.insn i.depth i.place here s
made-item code None here s = tt

made-at : (code : PeCode) (f : Focus) (s : PeState) → HasMade s.next (step_at code f s)
made-at code (code_at here) s = made-item code (item_at code here.address) here s
made-at code (value v) s = made-focused code v s.contexts s
made-at code completed s = made-answered completion_meets made-completion s.contexts s

pub made-step : (code : PeCode) (s : PeState) → HasMade s.next (pe_step code s)
made-step code s = made-at code s.focus s
