-- Each step of the machine of items is made by the word machine.
use Rattle.std.proofs.Common.{◌≡◌, ℕ, zero, suc, ◌+◌, ◌*◌, ◌≤◌, List, [], ◌∷◌, All, Some, None, ◌⊎◌, refl, sym, ap, ◌∙◌, subst, inl, inr, arith}
use Rattle.std.proofs.lemmas.Bool.{cond-true}
use Rattle.std.proofs.lemmas.Option.{same_Some, slice_get_within, get_or_from_slice_get}
use Rattle.std.specs.Prelude.{slice_get, slice_index, slice_index_or, is_some}
use Rattle.std.specs.Option.{ForSome}
use Rattle.std.specs.declared.option.Option.{Option}
use Rattle.fy_base.specs.declared.data.Place.{Place}
use Rattle.fy_base.specs.declared.data.Datum.{Datum as DatumType}
use Rattle.fy_base.specs.declared.data.BinOp.{BinOp}
use Rattle.fy_base.specs.declared.data.BinOp.TheVariants.{And, Or}
use Rattle.fy_base.specs.declared.data.PutKind.{PutKind}
use Rattle.fy_base.specs.declared.data.PutKind.TheVariants as puts
use Rattle.fy_phrase.specs.Contexts.{op_1, op_l, op_r, if_c, case_c, then_c, assign_c, while_c, body_c, loop_c, new_c, drop_c, put_c, esc_c, cells_c, fill_c, element_c}
use Rattle.pe_code.specs.declared.code.PeInsn.TheVariants as insn
use Rattle.pe_code.specs.declared.code.Purpose.TheVariants as purpose
use Rattle.pe_code.specs.declared.code.PeItem.{PeItem}
use Rattle.pe_code.specs.declared.code.PeCode.{PeCode}
use Rattle.pe_code.specs.Code.{item_at, body_of, straight_of}
use Rattle.pe_code.specs.Valid.{IsSoundItem}
use Rattle.pe_machine.specs.States.{Pointer, Focus, code_at, value, completed, PeContext}
use Rattle.pe_items.specs.Items.{Item, address_on, FoundContext, ItemState}
use Rattle.pe_items.specs.Step as item
use Rattle.pe_items.specs.Step.{ItemMove, answered, newest_of, datum_meets, completion_meets, item_executed, step_at, item_step}
use Rattle.rv_word.specs.declared.micros.Register.TheVariants.{Frame, Context, Top, Datum, First}
use Rattle.rv_word.specs.declared.micros.Micro.{Micro}
use Rattle.rv_word.specs.declared.micros.Micro.TheVariants.{Set, Window, Get, Save, Jump, Enter}
use Rattle.rv_word.specs.Word.{Data, Code, State, word_address, block}
use Rattle.rv_operators.specs.Operators.{word_of, binary_label, unary_label}
use Rattle.rv_operators.specs.Laws.{IsDatum}
use Rattle.rv_select.specs.Numbers.{meet, first_operator, right_entries, pop_label, count_label, put_int_label, put_char_label, put_bool_label, pop_entry, put_int_entry, put_char_entry, put_bool_entry, element_entry, label_of, entry_number, entry_word}
use Rattle.rv_select.specs.Blocks.{behind, blocks_of, entries_of}
use Rattle.rv_select.specs.Layout.{word_in, frame_word, frames_from, DropsCells, HasParts, HoldsItems, RunsItem, HasFocus, Stands}
use Rattle.rv_straight.specs.Laws.{AreInRange}
use Rattle.rv_select.specs.Laws.{value_of, IsSelectable, frame_depth, deepest}
use Rattle.rv_select.proofs.Runs.{Reach, wider}
use Rattle.rv_select.proofs.Wp.{with_value, by_blocks}
use Rattle.rv_select.proofs.Memory.{StandsAt, stands_at}
use Rattle.rv_select.proofs.SelectedCode.{IsEntry, IsSelected}
use Rattle.rv_select.proofs.ItemSteps.{Helpers, Follows, step_cost}
use Rattle.rv_select.proofs.Executing.{runs}
use Rattle.rv_select.proofs.Meeting.{IsMet, Q, From, Kept, nothing, cut, popped, met_then, met_again, met_if, met_and, met_or, met_case, met_left, met_assign, met_while, met_new, met_put_int, met_put_char, met_put_truth}
use Rattle.rv_select.proofs.Filling.{met_count, filling_steps}
use Rattle.rv_select.proofs.Elements.{element_label, element_leads, met_element}
use Rattle.rv_select.proofs.Operating.{met_op_1, met_op_r}

-- ---- what holds of all holds of one

pub all_found : {X : Type 0} (P : X → Type 0) (xs : List X) (k : ℕ) (x : X) → All P xs → slice_get xs k ≡ Some x → P x
all_found P xs k x h is = subst P (get_or_from_slice_get xs k x x is) (h k x (slice_get_within xs k x is))

-- an item that makes a frame is no deeper than the deepest
pub deepest_bounds : (is : List PeItem) (a : ℕ) (i : PeItem) → slice_get is a ≡ Some i → frame_depth i ≤ deepest is
deepest_bounds [] a i h = absurd (cc)
deepest_bounds (j ∷ is) zero i h = let same = ap frame_depth (same_Some j i h) in omega arith
deepest_bounds (j ∷ is) (suc a) i h = let rest = deepest_bounds is a i h in omega arith

pub frame_is_deep : (i : PeItem) (y : ℕ) → body_of i.insn ≡ Some y → frame_depth i ≡ i.depth
frame_is_deep i y h = cond-true (is_some (body_of i.insn)) i.depth 0 (ap is_some h)

-- ---- operators whose right operand has a context

left_plain : (op : BinOp) → 1 ≤ right_entries op → (v : DatumType) (q : Pointer) (at : Place) (s : ItemState) → item.left_meets op v q at s ≡ item.pushed (op_r op v at) q s
left_plain And h v q at s = absurd (omega arith)
left_plain Or h v q at s = absurd (omega arith)
left_plain op h v q at s = refl

left_block_plain : (code : PeCode) (a d x y : ℕ) (op : BinOp) → 1 ≤ right_entries op
    → slice_index_or (blocks_of code a d (insn.Op2 op x y)) 1 []
    ≡ Window Context 3 ∷ Get Frame Context 2 ∷ Save Context 2 Datum ∷ Set First (entry_word (entry_number code a + 2)) ∷ Save Context 0 First ∷ behind Top Context 4 ∷ Jump (label_of code y) ∷ []
left_block_plain code a d x y And h = absurd (omega arith)
left_block_plain code a d x y Or h = absurd (omega arith)
left_block_plain code a d x y op h = refl

-- entry 2 of such an operator is its block's
right_entry_is : (code : PeCode) (a d x y : ℕ) (op : BinOp) → 1 ≤ right_entries op → slice_index (entries_of code a d (insn.Op2 op x y)) 2 ≡ binary_label first_operator op
right_entry_is code a d x y And h = absurd (omega arith)
right_entry_is code a d x y Or h = absurd (omega arith)
right_entry_is code a d x y op h = refl

right_entry : (code : PeCode) (w : Code) (sel : IsSelected code w) (a d x y : ℕ) (op : BinOp) (at : Place) → item_at code a ≡ Some (record { insn = insn.Op2 op x y; depth = d; place = at }) → 1 ≤ right_entries op
    → IsEntry w (entry_number code a + 2) (binary_label first_operator op)
right_entry code w sel a d x y op at stands right =
    let e = sel.entries a (record { insn = insn.Op2 op x y; depth = d; place = at }) 2 stands (omega arith) in
    record { inside = e.inside; leads = e.leads ∙ right_entry_is code a d x y op right }

module _ (code : PeCode) (w : Code) (sel : IsSelected code w) (help : Helpers) (ok : IsSelectable code) where
  sound_of : (a : ℕ) (i : PeItem) → item_at code a ≡ Some i → IsSoundItem code i
  sound_of a i h = all_found (λ j. IsSoundItem code j) code.items a i ok.valid.items h

  module _ (s : ItemState) (e0 : Data) (h : HoldsItems code s.newest s.items e0) where
    -- the newest context is entered
    met_at : (mv : ItemMove) (older : List Item) (k label n : ℕ) → s.newest ≡ address_on older → address_on older + 4 ≤ address_on s.items → word_in e0.words (address_on older) 0 ≡ entry_word k → IsEntry w k label
        → From code w sel help e0 mv n label (with_value First (entry_word k) e0) → From code w sel help e0 mv (27 + n) meet e0
    met_at mv older k label n spot within word entry go =
        let newest = h.newest_is ∙ ap word_address spot in
        let fits = h.memory.fits in
        by_blocks w (Q code w sel help e0 mv) meet (Window Context 1 ∷ Get First Context 0 ∷ Enter First ∷ []) e0 n (27 + n) (sel.callers 0 (omega arith)) (omega arith)
        (address_on older, newest, omega arith, (address_on older, entry_word k, newest, omega arith, word, (k, label, refl, entry.inside, entry.leads, inr go)))

    -- the context that is met
    met_of : (c : PeContext) (outside k : ℕ) (older : List Item) → StandsAt code e0.words s.items s.newest (record { content = c; outside = outside; older = older }) → IsMet code older c outside (with_value First (entry_word k) e0)
    met_of c outside k older found =
        let within = found.within in
        let fits = h.memory.fits in
        record {
          newest_is = h.newest_is ∙ ap word_address found.spot;
          memory = record { foot = h.memory.foot; fits = omega arith; few = h.memory.few; laid = found.older };
          here = found.here;
          room = omega arith;
          bytes = h.bytes;
        }

    kept_of : (k : ℕ) → Kept code w sel help e0 (with_value First (entry_word k) e0)
    kept_of k = record { input_is = refl; output_is = refl; size_is = refl }

    cost : ℕ
    cost = step_cost (deepest code.items)

    wide : (mv : ItemMove) (n : ℕ) → n ≤ 900 + 16 * deepest code.items → From code w sel help e0 mv n meet e0 → From code w sel help e0 mv (step_cost (deepest code.items)) meet e0
    wide mv n le go = wider w (Q code w sel help e0 mv) n (step_cost (deepest code.items)) (record { rest = block w meet; held = e0 }) le go

    -- ---- a datum

    module _ (v : DatumType) (is : e0.named.datum ≡ word_of v) (good : IsDatum v) where
      abbrev Meets : PeContext → ℕ → List Item → Type 0
      Meets c outside older = From code w sel help e0 (datum_meets code v c (cut code w sel help e0 s older outside)) (step_cost (deepest code.items)) meet e0

      abbrev Found : PeContext → ℕ → List Item → Type 0
      Found c outside older = StandsAt code e0.words s.items s.newest (record { content = c; outside = outside; older = older })

      left_by : (op : BinOp) (q : Pointer) (at : Place) (outside : ℕ) (older : List Item) → Found (op_l op q at) outside older → 1 ≤ right_entries op → Meets (op_l op q at) outside older
      left_by op q at outside older found right =
          let p = found.here.parts in
          let a = p.0 in
          let k = entry_number code a + 1 in
          let mv = item.pushed (op_r op v at) q (cut code w sel help e0 s older outside) in
          let sound = sound_of a (record { insn = insn.Op2 op p.2 q.address; depth = p.1; place = at }) p.3.entry.stands in
          subst (λ (m : ItemMove). From code w sel help e0 m (step_cost (deepest code.items)) meet e0) (sym (left_plain op right v q at (cut code w sel help e0 s older outside)))
          (wide mv 127 (omega arith)
          (met_at mv older k (label_of code a + 1) 100 found.spot found.within p.3.entry.entry
          (sel.entries a (record { insn = insn.Op2 op p.2 q.address; depth = p.1; place = at }) 1 p.3.entry.stands (omega arith))
          (met_left code w sel help e0 s older outside op q v (with_value First (entry_word k) e0) a p.1 p.2 at right p.3.entry.stands (sound.beside_it 1 0 (omega arith)) p.3.deep p.3.frame is good (met_of (op_l op q at) outside k older found) (kept_of k)
          (left_block_plain code a p.1 p.2 q.address op right))))

      put_by : (kind : PutKind) (outside : ℕ) (older : List Item) → Found (put_c kind) outside older → Meets (put_c kind) outside older
      put_by puts.Int outside older found =
          wide (datum_meets code v (put_c puts.Int) (cut code w sel help e0 s older outside)) 727 (omega arith)
          (met_at (datum_meets code v (put_c puts.Int) (cut code w sel help e0 s older outside)) older put_int_entry put_int_label 700 found.spot found.within found.here.parts (sel.fixed 7 (omega arith))
          (met_put_int code w sel help e0 s older outside v (with_value First (entry_word put_int_entry) e0) is good (met_of (put_c puts.Int) outside put_int_entry older found) (kept_of put_int_entry)))
      put_by puts.Char outside older found =
          wide (datum_meets code v (put_c puts.Char) (cut code w sel help e0 s older outside)) 87 (omega arith)
          (met_at (datum_meets code v (put_c puts.Char) (cut code w sel help e0 s older outside)) older put_char_entry put_char_label 60 found.spot found.within found.here.parts (sel.fixed 8 (omega arith))
          (met_put_char code w sel help e0 s older outside v (with_value First (entry_word put_char_entry) e0) is good (met_of (put_c puts.Char) outside put_char_entry older found) (kept_of put_char_entry)))
      put_by puts.Bool outside older found =
          wide (datum_meets code v (put_c puts.Bool) (cut code w sel help e0 s older outside)) 227 (omega arith)
          (met_at (datum_meets code v (put_c puts.Bool) (cut code w sel help e0 s older outside)) older put_bool_entry put_bool_label 200 found.spot found.within found.here.parts (sel.fixed 9 (omega arith))
          (met_put_truth code w sel help e0 s older outside v (with_value First (entry_word put_bool_entry) e0) is (met_of (put_c puts.Bool) outside put_bool_entry older found) (kept_of put_bool_entry)))

      value_by : (c : PeContext) (outside : ℕ) (older : List Item) → Found c outside older → Meets c outside older
      value_by (op_1 op at) outside older found =
          let p = found.here.parts in
          let k = entry_number code p.0 + 1 in
          let mv = datum_meets code v (op_1 op at) (cut code w sel help e0 s older outside) in
          wide mv 97 (omega arith)
          (met_at mv older k (unary_label first_operator op) 70 found.spot found.within p.3.entry (sel.entries p.0 (record { insn = insn.Op1 op p.2; depth = p.1; place = at }) 1 p.3.stands (omega arith))
          (met_op_1 code w sel help e0 s older outside op v (with_value First (entry_word k) e0) p.0 p.1 p.2 at p.3.stands p.3.entry is good (met_of (op_1 op at) outside k older found) (kept_of k)))
      value_by (op_l And q at) outside older found =
          let p = found.here.parts in
          let k = entry_number code p.0 + 1 in
          let mv = datum_meets code v (op_l And q at) (cut code w sel help e0 s older outside) in
          let sound = sound_of p.0 (record { insn = insn.Op2 And p.2 q.address; depth = p.1; place = at }) p.3.entry.stands in
          wide mv 107 (omega arith)
          (met_at mv older k (label_of code p.0 + 1) 80 found.spot found.within p.3.entry.entry (sel.entries p.0 (record { insn = insn.Op2 And p.2 q.address; depth = p.1; place = at }) 1 p.3.entry.stands (omega arith))
          (met_and code w sel help e0 s older outside q v (with_value First (entry_word k) e0) p.0 p.1 p.2 at p.3.entry.stands (sound.beside_it 1 0 (omega arith)) p.3.deep p.3.frame is (met_of (op_l And q at) outside k older found) (kept_of k)))
      value_by (op_l Or q at) outside older found =
          let p = found.here.parts in
          let k = entry_number code p.0 + 1 in
          let mv = datum_meets code v (op_l Or q at) (cut code w sel help e0 s older outside) in
          let sound = sound_of p.0 (record { insn = insn.Op2 Or p.2 q.address; depth = p.1; place = at }) p.3.entry.stands in
          wide mv 107 (omega arith)
          (met_at mv older k (label_of code p.0 + 1) 80 found.spot found.within p.3.entry.entry (sel.entries p.0 (record { insn = insn.Op2 Or p.2 q.address; depth = p.1; place = at }) 1 p.3.entry.stands (omega arith))
          (met_or code w sel help e0 s older outside q v (with_value First (entry_word k) e0) p.0 p.1 p.2 at p.3.entry.stands (sound.beside_it 1 0 (omega arith)) p.3.deep p.3.frame is (met_of (op_l Or q at) outside k older found) (kept_of k)))
      value_by (op_l op q at) outside older found = left_by op q at outside older found (omega arith)
      value_by (op_r op u at) outside older found =
          let p = found.here.parts in
          let k = entry_number code p.0 + 2 in
          let mv = datum_meets code v (op_r op u at) (cut code w sel help e0 s older outside) in
          wide mv 97 (omega arith)
          (met_at mv older k (binary_label first_operator op) 70 found.spot found.within p.4.entry (right_entry code w sel p.0 p.1 p.2 p.3 op at p.4.stands p.5)
          (met_op_r code w sel help e0 s older outside op u v (with_value First (entry_word k) e0) p.0 p.1 p.2 p.3 at p.4.stands p.4.entry p.6 p.7 is good (met_of (op_r op u at) outside k older found) (kept_of k)))
      value_by (if_c p q) outside older found =
          let r = found.here.parts in
          let k = entry_number code r.0 + 1 in
          let mv = datum_meets code v (if_c p q) (cut code w sel help e0 s older outside) in
          wide mv 107 (omega arith)
          (met_at mv older k (label_of code r.0 + 1) 80 found.spot found.within r.4.entry.entry (sel.entries r.0 (record { insn = insn.Cond r.2 p.address q.address; depth = r.1; place = r.3 }) 1 r.4.entry.stands (omega arith))
          (met_if code w sel help e0 s older outside p q v (with_value First (entry_word k) e0) r.0 r.1 r.2 r.3 r.4.entry.stands
          ((sound_of r.0 (record { insn = insn.Cond r.2 p.address q.address; depth = r.1; place = r.3 }) r.4.entry.stands).beside_it 1 0 (omega arith))
          ((sound_of r.0 (record { insn = insn.Cond r.2 p.address q.address; depth = r.1; place = r.3 }) r.4.entry.stands).beside_it 2 0 (omega arith))
          r.4.deep r.5 r.4.frame is (met_of (if_c p q) outside k older found) (kept_of k)))
      value_by (case_c parts at) outside older found =
          let r = found.here.parts in
          let k = entry_number code parts.address + 1 in
          let mv = datum_meets code v (case_c parts at) (cut code w sel help e0 s older outside) in
          wide mv 177 (omega arith)
          (met_at mv older k (label_of code parts.address + 1) 150 found.spot found.within r.3.entry.entry (sel.entries parts.address (record { insn = insn.Case r.1 r.2; depth = r.0; place = at }) 1 r.3.entry.stands (omega arith))
          (met_case code w sel help e0 s older outside parts (with_value First (entry_word k) e0) r.0 r.1 r.2 at r.3.entry.stands (sound_of parts.address (record { insn = insn.Case r.1 r.2; depth = r.0; place = at }) r.3.entry.stands)
          r.3.deep r.3.frame (met_of (case_c parts at) outside k older found) (kept_of k) v is good))
      value_by (while_c loop c) outside older found =
          let r = found.here.parts in
          let k = entry_number code loop.address + 1 in
          let mv = datum_meets code v (while_c loop c) (cut code w sel help e0 s older outside) in
          wide mv 147 (omega arith)
          (met_at mv older k (label_of code loop.address + 1) 120 found.spot found.within r.3.entry.entry (sel.entries loop.address (record { insn = insn.While r.1 c.address; depth = r.0; place = r.2 }) 1 r.3.entry.stands (omega arith))
          (met_while code w sel help e0 s older outside loop c v (with_value First (entry_word k) e0) r.0 r.1 r.2 r.3.entry.stands
          ((sound_of loop.address (record { insn = insn.While r.1 c.address; depth = r.0; place = r.2 }) r.3.entry.stands).beside_it 1 0 (omega arith))
          r.3.deep r.4 r.3.frame is (met_of (while_c loop c) outside k older found) (kept_of k)))
      value_by (new_c d body) outside older found =
          let r = found.here.parts in
          let k = entry_number code r.0 + 1 in
          let mv = datum_meets code v (new_c d body) (cut code w sel help e0 s older outside) in
          let deep = deepest_bounds code.items r.0 (record { insn = insn.New r.1 body.address; depth = d; place = r.2 }) r.3.entry.stands in
          wide mv (27 + (300 + 16 * d)) (omega arith)
          (met_at mv older k (label_of code r.0 + 1) (300 + 16 * d) found.spot found.within r.3.entry.entry (sel.entries r.0 (record { insn = insn.New r.1 body.address; depth = d; place = r.2 }) 1 r.3.entry.stands (omega arith))
          (met_new code w sel help e0 s older outside body v (with_value First (entry_word k) e0) r.0 d r.1 r.2 r.3.entry.stands
          ((sound_of r.0 (record { insn = insn.New r.1 body.address; depth = d; place = r.2 }) r.3.entry.stands).body body.address refl)
          r.3.deep r.3.frame is good (sound_of r.0 (record { insn = insn.New r.1 body.address; depth = d; place = r.2 }) r.3.entry.stands).depth (met_of (new_c d body) outside k older found) (kept_of k)))
      value_by (assign_c p) outside older found =
          let r = found.here.parts in
          let k = entry_number code r.0 + 1 in
          let mv = datum_meets code v (assign_c p) (cut code w sel help e0 s older outside) in
          wide mv 107 (omega arith)
          (met_at mv older k (label_of code r.0 + 1) 80 found.spot found.within r.4.entry.entry (sel.entries r.0 (record { insn = insn.Assign p.address r.2; depth = r.1; place = r.3 }) 1 r.4.entry.stands (omega arith))
          (met_assign code w sel help e0 s older outside p v (with_value First (entry_word k) e0) r.0 r.1 r.2 r.3 r.4.entry.stands
          ((sound_of r.0 (record { insn = insn.Assign p.address r.2; depth = r.1; place = r.3 }) r.4.entry.stands).beside_it 0 0 (omega arith))
          r.4.deep r.4.frame is good (met_of (assign_c p) outside k older found) (kept_of k)))
      value_by (put_c kind) outside older found = put_by kind outside older found
      value_by (cells_c d body at) outside older found =
          let r = found.here.parts in
          let k = entry_number code r.0 + 1 in
          let mv = datum_meets code v (cells_c d body at) (cut code w sel help e0 s older outside) in
          wide mv 227 (omega arith)
          (met_at mv older k count_label 200 found.spot found.within r.2.entry.entry (sel.entries r.0 (record { insn = insn.Cells r.1 body.address; depth = d; place = at }) 1 r.2.entry.stands (omega arith))
          (met_count code w sel help e0 s older outside body (with_value First (entry_word k) e0) r.0 d r.1 at r.2.entry.stands r.2.deep r.2.frame refl (met_of (cells_c d body at) outside k older found) (kept_of k) v is good))
      value_by (fill_c n m d body at) outside older found = absurd found.here.parts
      value_by (element_c wanted) outside older found =
          let r = found.here.parts in
          let k = element_entry wanted.is_written in
          let mv = datum_meets code v (element_c wanted) (cut code w sel help e0 s older outside) in
          wide mv 227 (omega arith)
          (met_at mv older k (element_label wanted.is_written) 200 found.spot found.within r.0 (element_leads code w sel help e0 wanted.is_written)
          (met_element code w sel help e0 s older outside wanted (with_value First (entry_word k) e0) r.1 (met_of (element_c wanted) outside k older found) (kept_of k) v is good))
      value_by _ outside older found = nothing code w sel help e0 (step_cost (deepest code.items)) meet e0 (omega arith)

      pub value_at : (o : Option FoundContext) → newest_of s ≡ o → From code w sel help e0 (answered (datum_meets code v) o s) (step_cost (deepest code.items)) meet e0
      value_at None found = nothing code w sel help e0 (step_cost (deepest code.items)) meet e0 (omega arith)
      value_at (Some c) found = value_by c.content c.outside c.older (stands_at code e0.words s.items s.newest c found h.memory.laid)

    -- ---- a finished command

    abbrev Ends : PeContext → ℕ → List Item → Type 0
    Ends c outside older = From code w sel help e0 (completion_meets c (cut code w sel help e0 s older outside)) (step_cost (deepest code.items)) meet e0

    -- a cell's context is dropped, or that of a sequence
    dropped_by : (n outside : ℕ) (older : List Item) → StandsAt code e0.words s.items s.newest (record { content = drop_c n; outside = outside; older = older })
        → (word_in e0.words (address_on older) 0 ≡ entry_word pop_entry) ⊎ ((at : Place) × DropsCells code at (word_in e0.words (address_on older) 0)) → Ends (drop_c n) outside older
    dropped_by n outside older found (inl is) =
        let mv = completion_meets (drop_c n) (cut code w sel help e0 s older outside) in
        wide mv 67 (omega arith)
        (met_at mv older pop_entry pop_label 40 found.spot found.within is (sel.fixed 6 (omega arith))
        (popped code w sel help e0 s older outside (drop_c n) (with_value First (entry_word pop_entry) e0) (met_of (drop_c n) outside pop_entry older found) (kept_of pop_entry)))
    dropped_by n outside older found (inr p) =
        let a = p.1.0 in
        let mine = p.1.4 in
        let k = entry_number code a + 3 in
        let mv = completion_meets (drop_c n) (cut code w sel help e0 s older outside) in
        wide mv 67 (omega arith)
        (met_at mv older k pop_label 40 found.spot found.within mine.entry (sel.entries a _ 3 mine.stands (omega arith))
        (popped code w sel help e0 s older outside (drop_c n) (with_value First (entry_word k) e0) (met_of (drop_c n) outside k older found) (kept_of k)))

    -- a loop again, by parts or with its condition straight
    again_by : (loop : Pointer) (outside : ℕ) (older : List Item) → StandsAt code e0.words s.items s.newest (record { content = body_c loop; outside = outside; older = older })
        → HasParts code (frames_from older) (body_c loop) (word_in e0.words (address_on older) 0) (word_in e0.words (address_on older) 2) (word_in e0.words (address_on older) 3) → Ends (body_c loop) outside older
    again_by loop outside older found (inl r) =
        let k = entry_number code loop.address + 2 in
        let mv = completion_meets (body_c loop) (cut code w sel help e0 s older outside) in
        wide mv 87 (omega arith)
        (met_at mv older k (label_of code loop.address + 2) 60 found.spot found.within r.4.entry.entry (sel.entries loop.address (record { insn = insn.While r.1 r.2; depth = r.0; place = r.3 }) 2 r.4.entry.stands (omega arith))
        (met_again code w sel help e0 s older outside (body_c loop) loop (insn.While r.1 r.2) 2 (with_value First (entry_word k) e0) r.0 r.3 r.4.entry.stands (omega arith) refl r.4.deep r.4.frame (met_of (body_c loop) outside k older found) (kept_of k)))
    again_by loop outside older found (inr r) =
        let i = insn.EvalFor r.2 (purpose.Repeat r.1) in
        let k = entry_number code loop.address + 1 in
        let mv = completion_meets (body_c loop) (cut code w sel help e0 s older outside) in
        wide mv 87 (omega arith)
        (met_at mv older k (label_of code loop.address + 1) 60 found.spot found.within r.4.entry.entry (sel.entries loop.address (record { insn = i; depth = r.0; place = r.3 }) 1 r.4.entry.stands (omega arith))
        (met_again code w sel help e0 s older outside (body_c loop) loop i 1 (with_value First (entry_word k) e0) r.0 r.3 r.4.entry.stands (omega arith) refl r.4.deep r.4.frame (met_of (body_c loop) outside k older found) (kept_of k)))

    completed_by : (c : PeContext) (outside : ℕ) (older : List Item) → StandsAt code e0.words s.items s.newest (record { content = c; outside = outside; older = older }) → Ends c outside older
    completed_by (then_c q) outside older found =
        let r = found.here.parts in
        let k = entry_number code r.0 + 1 in
        let mv = completion_meets (then_c q) (cut code w sel help e0 s older outside) in
        wide mv 87 (omega arith)
        (met_at mv older k (label_of code r.0 + 1) 60 found.spot found.within r.4.entry.entry (sel.entries r.0 (record { insn = insn.Seq r.2 q.address; depth = r.1; place = r.3 }) 1 r.4.entry.stands (omega arith))
        (met_then code w sel help e0 s older outside q (with_value First (entry_word k) e0) r.0 r.1 r.2 r.3 r.4.entry.stands
        ((sound_of r.0 (record { insn = insn.Seq r.2 q.address; depth = r.1; place = r.3 }) r.4.entry.stands).beside_it 1 0 (omega arith))
        r.4.deep r.4.frame (met_of (then_c q) outside k older found) (kept_of k)))
    completed_by (body_c loop) outside older found = again_by loop outside older found found.here.parts
    completed_by (loop_c loop) outside older found =
        let r = found.here.parts in
        let k = entry_number code loop.address + 1 in
        let mv = completion_meets (loop_c loop) (cut code w sel help e0 s older outside) in
        wide mv 87 (omega arith)
        (met_at mv older k (label_of code loop.address + 1) 60 found.spot found.within r.3.entry.entry (sel.entries loop.address (record { insn = insn.Loop r.1; depth = r.0; place = r.2 }) 1 r.3.entry.stands (omega arith))
        (met_again code w sel help e0 s older outside (loop_c loop) loop (insn.Loop r.1) 1 (with_value First (entry_word k) e0) r.0 r.2 r.3.entry.stands (omega arith) refl r.3.deep r.3.frame (met_of (loop_c loop) outside k older found) (kept_of k)))
    completed_by (drop_c n) outside older found = dropped_by n outside older found found.here.parts
    completed_by (esc_c n) outside older found =
        let mv = completion_meets (esc_c n) (cut code w sel help e0 s older outside) in
        wide mv 67 (omega arith)
        (met_at mv older pop_entry pop_label 40 found.spot found.within found.here.parts (sel.fixed 6 (omega arith))
        (popped code w sel help e0 s older outside (esc_c n) (with_value First (entry_word pop_entry) e0) (met_of (esc_c n) outside pop_entry older found) (kept_of pop_entry)))
    completed_by _ outside older found = nothing code w sel help e0 (step_cost (deepest code.items)) meet e0 (omega arith)

    pub completed_at : (o : Option FoundContext) → newest_of s ≡ o → From code w sel help e0 (answered completion_meets o s) (step_cost (deepest code.items)) meet e0
    completed_at None found = nothing code w sel help e0 (step_cost (deepest code.items)) meet e0 (omega arith)
    completed_at (Some c) found = completed_by c.content c.outside c.older (stands_at code e0.words s.items s.newest c found h.memory.laid)

    -- ---- an item

    item_runs : (here : Pointer) (i : PeItem) → item_at code here.address ≡ Some i → frames_from s.items here.frame ≡ Some i.depth → e0.named.frame ≡ frame_word here.frame
        → From code w sel help e0 (item.executed code i.insn i.depth i.place here s) (step_cost (deepest code.items)) (label_of code here.address) e0
    item_runs here i stands deep f =
        let sound = sound_of here.address i stands in
        let bounds = deepest_bounds code.items here.address i stands in
        wider w (Q code w sel help e0 (item.executed code i.insn i.depth i.place here s)) (300 + (600 + 16 * deepest code.items)) (step_cost (deepest code.items)) (record { rest = block w (label_of code here.address); held = e0 }) (omega arith)
        (runs code w sel help s e0 h here i.depth i.place f deep sound.depth (600 + 16 * deepest code.items) (omega arith) i.insn stands sound
        (all_found (λ j. ForSome (value_of j.insn) IsDatum) code.items here.address i ok.values stands)
        (all_found (λ j. ForSome (straight_of j.insn) AreInRange) code.items here.address i ok.straight stands)
        (λ y body. let same = frame_is_deep i y body in omega arith))

    pub code_runs : (here : Pointer) (rest : List Micro) → RunsItem code w s.items here rest e0 → Reach w (Q code w sel help e0 (item_executed code (item_at code here.address) here s)) (step_cost (deepest code.items)) (record { rest = rest; held = e0 })
    code_runs here rest r =
        let i = r.leads.item in
        subst (λ (o : Option PeItem). Reach w (Q code w sel help e0 (item_executed code o here s)) (step_cost (deepest code.items)) (record { rest = rest; held = e0 })) (sym r.leads.stands)
        (subst (λ (ms : List Micro). Reach w (Q code w sel help e0 (item.executed code i.insn i.depth i.place here s)) (step_cost (deepest code.items)) (record { rest = ms; held = e0 })) (sym r.at)
        (item_runs here i r.leads.stands (r.deep ∙ ap Some (sym r.leads.depth_is)) r.frame))

  -- ---- any state

  step_by : (s : ItemState) (f : Focus) (rest : List Micro) (e : Data) → HoldsItems code s.newest s.items e → HasFocus code w s.items f rest e
      → Reach w (Follows code w e (step_at code f s)) (step_cost (deepest code.items)) (record { rest = rest; held = e })
  step_by s (code_at here) rest e h focus = code_runs s e h here rest focus
  step_by s (value v) rest e h focus =
      subst (λ (ms : List Micro). Reach w (Follows code w e (step_at code (value v) s)) (step_cost (deepest code.items)) (record { rest = ms; held = e })) (sym focus.at) (value_at s e h v focus.datum focus.good (newest_of s) refl)
  step_by s completed rest e h focus =
      subst (λ (ms : List Micro). Reach w (Follows code w e (step_at code completed s)) (step_cost (deepest code.items)) (record { rest = ms; held = e })) (sym focus) (completed_at s e h (newest_of s) refl)

  pub step : (s : ItemState) (t : State) → Stands code w s t → Reach w (Follows code w t.held (item_step code s)) (step_cost (deepest code.items)) t
  step s t (inl h) = step_by s s.focus t.rest t.held h.items h.focus
  step s t (inr h) =
      let i : PeItem = record { insn = insn.Cells h.first h.body.address; depth = h.depth; place = h.place } in
      let deep : h.depth ≤ deepest code.items = deepest_bounds code.items h.a i h.stands in
      filling_steps code w sel help s t h (step_cost (deepest code.items)) (omega arith) (sound_of h.a i h.stands)
