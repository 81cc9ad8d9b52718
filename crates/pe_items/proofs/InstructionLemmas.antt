-- A thunk is entered, and an instruction is executed.
use Rattle.std.proofs.Common.{ℕ, Bool, List, length, Option, Some, None, refl, sym, subst, nat_eq}
use Rattle.fy_base.specs.declared.data.Place.{Place}
use Rattle.fy_base.specs.declared.data.Datum.{Datum}
use Rattle.fy_base.specs.declared.data.Datum.TheVariants as datum_kind
use Rattle.std.specs.Prelude.{pos}
use Rattle.fy_phrase.specs.Contexts.{op_1, op_l, if_c, case_c, arg_c, pick_c, then_c, assign_c, store_c, while_c, loop_c, new_c, put_c, esc_c, cells_c, element_c}
use Rattle.fy_phrase.specs.Copy.{own, byte_or_end}
use Rattle.pe_code.specs.declared.code.PeInsn.{PeInsn}
use Rattle.pe_code.specs.declared.code.PeInsn.TheVariants as insn
use Rattle.pe_code.specs.declared.code.Purpose.{Purpose}
use Rattle.pe_code.specs.declared.code.Purpose.TheVariants as purpose
use Rattle.pe_code.specs.declared.code.PeItem.{PeItem}
use Rattle.pe_code.specs.declared.code.PeCode.{PeCode}
use Rattle.pe_code.specs.Code.{item_at, entry_of}
use Rattle.pe_machine.specs.States.{Frame, Thunk, source, datum, Sequence, to_thunk, to_escape, Focus, code_at, value, completed, Wanted, PeState, is_listed, oldest, frame_outside, sequence_at}
use Rattle.pe_machine.specs.Step as machine
use Rattle.pe_machine.specs.Step.{PeMove, goes, is_assignment, Asked, a_cell, a_length, no_part, asked_at, pe_step}
use Rattle.pe_machine.proofs.FrameLemmas.{numbered_oldest}
use Rattle.pe_items.specs.Items as items
use Rattle.pe_items.specs.Items.{Item, address_on, FoundContext, frame_from, escape_at, ItemState}
use Rattle.pe_items.specs.Step as moves
use Rattle.pe_items.specs.Step.{item_step}
use Rattle.pe_items.proofs.Lays.{escape_frame, IsAt, AreAt, IsSequenceAt, ContextStands, ThunkStands, a_source, a_datum, a_cell, a_jump, a_sequence, at_op_1, at_op_l, at_if, at_case, at_arg, at_pick, at_then, at_assign, at_store, at_while, at_loop, at_new, at_cells, at_element, at_put, at_escape, FocusStands, at_code, at_value, at_end, thunk_bound, escape_bound, UnderState, Stands, at_rest, at_fill}
use Rattle.pe_items.proofs.Standing.{at-listed, name-listed, kept-context, names-kept, thunk-kept}
use Rattle.pe_items.proofs.VariableLemmas.{variable-at}
use Rattle.pe_items.proofs.SequenceLemmas.{sequence-found}
use Rattle.pe_items.proofs.CellLemmas.{cell-alike}
use Rattle.pe_items.proofs.StraightLemmas.{straight-alike, assignment-alike}
use Rattle.pe_items.proofs.JumpLemmas.{leaves}
use Rattle.pe_items.proofs.Alike.{Alike, both_go, both_take, one_sticks, one_loses, focused-alike, pushed-under, pushed-alike, bound-alike, listed-alike, variable-alike, if_alike, answered-alike, datum_focused-alike, TakenAlike, taken-alike}
use Rattle.pe_items.proofs.MeetingLemmas.{datum-alike, filling-alike, completion-alike, bind-alike, field-alike, accept-alike}

-- ---- jumps

jump-alike : (n x : ℕ) (s : PeState) (t : ItemState) → IsAt escape_frame s.frames t.items n x → UnderState s t →
    Alike (machine.jumped n s.contexts s) (moves.jumped (escape_at x t.items) t)
jump-alike n x s t a u =
    let w = leaves s.next n x u.numbers a u.lays in
    let q : PeState = record s { focus = completed; contexts = w.rest; frames = oldest w.held.frames s.frames; load = w.held.base } in
    subst (λ (m : PeMove). Alike m (moves.jumped (escape_at x t.items) t)) (sym (w.jumps s))
    (subst (λ (o : Option ℕ). Alike (goes q) (moves.jumped o t)) (sym w.is_place)
    (subst (λ (o : Option FoundContext). Alike (goes q) (moves.left_by o t)) (sym w.is_found)
    (both_go (at_rest (record {
      focus = at_end;
      under = record { lays = w.lays; load = w.small; numbers = numbered_oldest s.next w.held.frames s.frames u.numbers };
    })))))

-- ---- thunks

entry-alike : (o r x : Option ℕ) (s : PeState) (t : ItemState) → AreAt s.frames t.items r x → UnderState s t → Alike (machine.at_entry o r s) (moves.at_entry o x t)
entry-alike (Some a) r x s t k u = focused-alike (code_at (record { address = a; frame = r })) (code_at (record { address = a; frame = x })) s t (at_code k) u
entry-alike None r x s t k u = one_sticks

-- a thunk that isn't a sequence
plain-alike : (code : PeCode) (shape : ℕ) (c e : Thunk) (s : PeState) (t : ItemState) → ThunkStands s.frames t.items c e → UnderState s t →
    Alike (machine.entered_plain code shape c s) (moves.entered_plain code shape e t)
plain-alike code shape c e s t (a_source {node = node} {r = r} {x = x} k) u =
    listed-alike (is_listed r s.frames) _ _ (name-listed s.frames t.items r x k) (entry-alike (entry_of code node shape) r x s t k u)
plain-alike code shape c e s t (a_datum {v = v}) u = focused-alike (value v) (value v) s t at_value u
plain-alike code shape c e s t (a_cell {n = n} {x = x} a) u = cell-alike (is_assignment code.assignment shape) own n x s t a u
plain-alike code shape c e s t (a_jump {n = n} {x = x} a) u = listed-alike (is_listed (Some n) s.frames) _ _ (at-listed escape_frame t.items s.frames n x a) (jump-alike n x s t a u)
plain-alike code shape c e s t (a_sequence a) u = one_sticks

-- ---- sequences

index_entered-alike : (code : PeCode) (o : Option ℕ) (v w : Wanted) (c e : Thunk) (s : PeState) (t : ItemState) → ThunkStands s.frames t.items c e →
    UnderState (machine.push (element_c v) s) (moves.push (element_c w) t) → Alike (machine.index_entered code o v c s) (moves.index_entered code o w e t)
index_entered-alike code (Some shape) v w c e s t h u =
    plain-alike code shape c e (machine.push (element_c v) s) (moves.push (element_c w) t) (thunk-kept (kept-context s.frames t.items (element_c w) t.newest) h) u
index_entered-alike code None v w c e s t h u = one_sticks

index-alike : (code : PeCode) (b : Bool) (n x : ℕ) (s : PeState) (t : ItemState) → IsSequenceAt s.frames t.items n x →
    TakenAlike (machine.index_meets code (record { is_written = b; number = n })) (moves.index_meets code (record { is_written = b; number = x })) s t
index-alike code b n x s t a c e cs outside ks old (at_arg {t = th} {u = tu} h) w left =
    let v : Wanted = record { is_written = b; number = n } in
    let z : Wanted = record { is_written = b; number = x } in
    let q : PeState = record s { contexts = cs } in
    let i : ItemState = record t { newest = outside } in
    index_entered-alike code code.sequences.value v z th tu q i (thunk-kept w h) (pushed-under (element_c v) (element_c z) q i (at_element a) (left (λ m p. cc)))
index-alike code b n x s t a c e cs outside ks old h w left = one_sticks

length-alike : (n : ℕ) (s : PeState) (t : ItemState) → TakenAlike (machine.length_meets n) (moves.length_meets n) s t
length-alike n s t c e cs outside ks old (at_pick {i = i}) w left =
    let v : Datum = datum_kind.Int (pos n) in
    if_alike (nat_eq i 0) _ _ (focused-alike (value v) (value v) (record s { contexts = cs }) (record t { newest = outside }) at_value (left (λ m p. cc)))
length-alike n s t c e cs outside ks old h w left = one_sticks

asked-alike : (code : PeCode) (k : Asked) (o : Option Sequence) (n x : ℕ) (s : PeState) (t : ItemState) → IsSequenceAt s.frames t.items n x → UnderState s t →
    Alike (machine.sequence_asked code k n o s) (moves.sequence_asked code k x o t)
asked-alike code (a_cell b) (Some q) n x s t a u =
    taken-alike (machine.index_meets code (record { is_written = b; number = n })) (moves.index_meets code (record { is_written = b; number = x })) s t (index-alike code b n x s t a) u
asked-alike code a_length (Some q) n x s t a u = taken-alike (machine.length_meets (length q.values)) (moves.length_meets (length q.values)) s t (length-alike (length q.values) s t) u
asked-alike code no_part (Some q) n x s t a u = one_sticks
asked-alike code k None n x s t a u = one_loses

sequence-alike : (code : PeCode) (shape n x : ℕ) (s : PeState) (t : ItemState) → IsSequenceAt s.frames t.items n x → UnderState s t →
    Alike (machine.sequence_asked code (asked_at code.sequences shape) n (sequence_at n s.frames) s) (moves.sequence_asked code (asked_at code.sequences shape) x (items.sequence_at x t.items) t)
sequence-alike code shape n x s t a u =
    subst (λ (o : Option Sequence). Alike (machine.sequence_asked code (asked_at code.sequences shape) n (sequence_at n s.frames) s) (moves.sequence_asked code (asked_at code.sequences shape) x o t))
    (sequence-found n x a u.lays) (asked-alike code (asked_at code.sequences shape) (sequence_at n s.frames) n x s t a u)

-- ---- any thunk

entered-alike : (code : PeCode) (shape : ℕ) (c e : Thunk) (s : PeState) (t : ItemState) → ThunkStands s.frames t.items c e → UnderState s t →
    Alike (machine.entered code shape c s) (moves.entered code shape e t)
entered-alike code shape c e s t (a_source k) u = plain-alike code shape _ _ s t (a_source k) u
entered-alike code shape c e s t a_datum u = plain-alike code shape _ _ s t a_datum u
entered-alike code shape c e s t (a_cell a) u = plain-alike code shape _ _ s t (a_cell a) u
entered-alike code shape c e s t (a_jump a) u = plain-alike code shape _ _ s t (a_jump a) u
entered-alike code shape c e s t (a_sequence {n = n} {x = x} a) u = sequence-alike code shape n x s t a u

-- ---- instructions

waiting-alike : (w : Purpose) (a : ℕ) (r x : Option ℕ) (fs : List Frame) (is : List Item) → AreAt fs is r x →
    ContextStands fs is (machine.waiting w (record { address = a; frame = r })) (machine.waiting w (record { address = a; frame = x }))
waiting-alike (purpose.Choose y z) a r x fs is k = at_if k k
waiting-alike (purpose.Repeat y) a r x fs is k = at_while k k
waiting-alike (purpose.Store y) a r x fs is k = at_assign k
waiting-alike (purpose.Write kind) a r x fs is k = at_put

module _ (code : PeCode) where
  executed-alike : (i : PeInsn) (d : ℕ) (at : Place) (a : ℕ) (r x : Option ℕ) (s : PeState) (t : ItemState) → AreAt s.frames t.items r x → UnderState s t →
      Alike (machine.executed code i d at (record { address = a; frame = r }) s) (moves.executed code i d at (record { address = a; frame = x }) t)
  executed-alike (insn.UseVar j shape) d at a r x s t k u =
      variable-alike (frame_outside s.frames j r) (frame_from t.items j x) _ _ (variable-at s.next j r x u.numbers k u.lays) (λ c e h. entered-alike code shape c e s t h u)
  executed-alike (insn.Answer v) d at a r x s t k u = focused-alike (value v) (value v) s t at_value u
  executed-alike (insn.Op1 op y) d at a r x s t k u = pushed-alike (op_1 op at) (op_1 op at) y r x s t at_op_1 k u
  executed-alike (insn.Op2 op y z) d at a r x s t k u =
      pushed-alike (op_l op (record { address = z; frame = r }) at) (op_l op (record { address = z; frame = x }) at) y r x s t (at_op_l k) k u
  executed-alike (insn.Cond y z w) d at a r x s t k u =
      pushed-alike (if_c (record { address = z; frame = r }) (record { address = w; frame = r })) (if_c (record { address = z; frame = x }) (record { address = w; frame = x })) y r x s t
      (at_if k k) k u
  executed-alike (insn.Case y ys) d at a r x s t k u =
      pushed-alike (case_c (record { address = a; frame = r }) at) (case_c (record { address = a; frame = x }) at) y r x s t (at_case k) k u
  executed-alike (insn.Bind y) d at a r x s t k u = taken-alike (machine.bind_meets d y r) (moves.bind_meets d y x) s t (bind-alike d y r x s t k) u
  executed-alike (insn.Pass n y) d at a r x s t k u = pushed-alike (arg_c (source n r)) (arg_c (source n x)) y r x s t (at_arg (a_source k)) k u
  executed-alike (insn.PassVar j y) d at a r x s t k u =
      variable-alike (frame_outside s.frames j r) (frame_from t.items j x) _ _ (variable-at s.next j r x u.numbers k u.lays)
      (λ c e h. pushed-alike (arg_c c) (arg_c e) y r x s t (at_arg h) k u)
  executed-alike (insn.PassData v y) d at a r x s t k u = pushed-alike (arg_c (datum v)) (arg_c (datum v)) y r x s t (at_arg a_datum) k u
  executed-alike (insn.Field i y) d at a r x s t k u =
      taken-alike (machine.field_meets i (record { address = y; frame = r })) (moves.field_meets i (record { address = y; frame = x })) s t (field-alike i y r x s t k) u
  executed-alike (insn.Pick i y) d at a r x s t k u = pushed-alike (pick_c i) (pick_c i) y r x s t at_pick k u
  executed-alike (insn.Let n y) d at a r x s t k u =
      bound-alike d (to_thunk (source n r)) (items.to_thunk (source n x)) y r x s t (thunk_bound (a_source k)) k u
  executed-alike (insn.LetVar j y) d at a r x s t k u =
      variable-alike (frame_outside s.frames j r) (frame_from t.items j x) _ _ (variable-at s.next j r x u.numbers k u.lays)
      (λ c e h. bound-alike d (to_thunk c) (items.to_thunk e) y r x s t (thunk_bound h) k u)
  executed-alike (insn.LetData v y) d at a r x s t k u =
      bound-alike d (to_thunk (datum v)) (items.to_thunk (datum v)) y r x s t (thunk_bound a_datum) k u
  executed-alike (insn.Knot n y) d at a r x s t k u =
      bound-alike d (to_thunk (source n r)) (items.to_thunk (source n x)) y r x s t (thunk_bound (a_source k)) k u
  executed-alike insn.Done d at a r x s t k u = focused-alike completed completed s t at_end u
  executed-alike (insn.Seq y z) d at a r x s t k u =
      pushed-alike (then_c (record { address = z; frame = r })) (then_c (record { address = z; frame = x })) y r x s t (at_then k) k u
  executed-alike (insn.Assign y z) d at a r x s t k u =
      pushed-alike (assign_c (record { address = y; frame = r })) (assign_c (record { address = y; frame = x })) z r x s t (at_assign k) k u
  executed-alike (insn.While y z) d at a r x s t k u =
      pushed-alike (while_c (record { address = a; frame = r }) (record { address = z; frame = r })) (while_c (record { address = a; frame = x }) (record { address = z; frame = x })) y r x s t
      (at_while k k) k u
  executed-alike (insn.Loop y) d at a r x s t k u =
      pushed-alike (loop_c (record { address = a; frame = r })) (loop_c (record { address = a; frame = x })) y r x s t (at_loop k) k u
  executed-alike (insn.New y z) d at a r x s t k u =
      pushed-alike (new_c d (record { address = z; frame = r })) (new_c d (record { address = z; frame = x })) y r x s t (at_new k) k u
  executed-alike (insn.Cells y z) d at a r x s t k u =
      pushed-alike (cells_c d (record { address = z; frame = r }) at) (cells_c d (record { address = z; frame = x }) at) y r x s t (at_cells k) k u
  executed-alike (insn.Escape y) d at a r x s t k u =
      bound-alike d to_escape (items.to_escape (address_on t.items)) y r x (machine.push (esc_c s.next) s) (moves.push (esc_c 0) t) (escape_bound refl)
      (names-kept (kept-context s.frames t.items (esc_c 0) t.newest) r x k) (pushed-under (esc_c s.next) (esc_c 0) s t (at_escape u.numbers) u)
  executed-alike (insn.Accept y) d at a r x s t k u = taken-alike (machine.accept_meets d y r) (moves.accept_meets d y x) s t (accept-alike d y r x s t k) u
  executed-alike (insn.Put kind y) d at a r x s t k u = pushed-alike (put_c kind) (put_c kind) y r x s t at_put k u
  executed-alike (insn.Read y) d at a r x s t k u =
      both_take (λ byte. record {
        focus = at_code (names-kept (kept-context s.frames t.items (store_c (byte_or_end byte)) t.newest) r x k);
        under = pushed-under (store_c (byte_or_end byte)) (store_c (byte_or_end byte)) s t at_store u;
      })
  executed-alike (insn.Eval ss) d at a r x s t k u = straight-alike code ss r x s t _ _ k u (λ v. focused-alike (value v) (value v) s t at_value u)
  executed-alike (insn.Set j ss) d at a r x s t k u = assignment-alike code j ss r x s t k u
  executed-alike (insn.EvalFor ss w) d at a r x s t k u = straight-alike code ss r x s t _ _ k u (λ v. datum-alike code v _ _ s t (waiting-alike w a r x s.frames t.items k) u)

  item-alike : (o : Option PeItem) (a : ℕ) (r x : Option ℕ) (s : PeState) (t : ItemState) → AreAt s.frames t.items r x → UnderState s t →
      Alike (machine.item_executed code o (record { address = a; frame = r }) s) (moves.item_executed code o (record { address = a; frame = x }) t)
  item-alike (Some i) a r x s t k u = executed-alike i.insn i.depth i.place a r x s t k u
  item-alike None a r x s t k u = one_sticks

  -- one step, by the focus
  step-alike : (f g : Focus) (s : PeState) (t : ItemState) → FocusStands s.frames t.items f g → UnderState s t → Alike (machine.step_at code f s) (moves.step_at code g t)
  step-alike f g s t (at_code {a = a} {r = r} {x = x} k) u = item-alike (item_at code a) a r x s t k u
  step-alike f g s t (at_value {v = v}) u =
      datum_focused-alike code v (moves.step_at code (value v) t) s t u
      (answered-alike (machine.datum_meets code v) (moves.datum_meets code v) s t (λ c e q w h v2. datum-alike code v c e q w h v2) u)
  step-alike f g s t at_end u = answered-alike machine.completion_meets moves.completion_meets s t completion-alike u

  pub both-step : (s : PeState) (t : ItemState) → Stands s t → Alike (pe_step code s) (item_step code t)
  both-step s t (at_rest w) = step-alike s.focus t.focus s t w.focus w.under
  both-step s t (at_fill {fs = fs} {cs = cs} {n = n} {k = k} {m = m} {d = d} {a = a} {base = base} {load = load} {next = next} {outside = outside} {at = at} {r = r} {x = x} {is = is} paid around under) =
      filling-alike fs cs n k m d a base load next outside at r x is paid around under code
