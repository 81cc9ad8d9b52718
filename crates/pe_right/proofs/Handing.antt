-- One step of code that hands constants as data, and the steps of the code that hands thunks which it stands for.
use Rattle.std.proofs.Common.{ℕ, zero, suc, ◌+◌, ◌≤◌, ◌≡◌, Bool, true, false, cond, leb, List, [], ◌∷◌, length, Option, Some, None, slice_get, refl, sym, ap, ap₂, ◌∙◌, subst, subst₂, inl, inr, arith, pos, nat_eq}
use Rattle.std.proofs.lemmas.Bool.{leb-true}
use Rattle.fy_base.specs.declared.data.Place.{Place}
use Rattle.fy_base.specs.declared.data.Datum.{Datum}
use Rattle.fy_base.specs.declared.data.Datum.TheVariants as datum_kind
use Rattle.fy_types.specs.Paths.{PlainPath, PlainPaths}
use Rattle.fy_phrase.specs.Tree.{Tree, var, merge}
use Rattle.fy_phrase.specs.Contexts.{CopyContext, Pushed, op_1, op_l, if_c, case_c, arg_c, pick_c, then_c, assign_c, store_c, while_c, loop_c, new_c, cells_c, element_c, put_c, esc_c}
use Rattle.fy_phrase.specs.Copy.{CopyState, byte_or_end}
use Rattle.fy_phrase.specs.Sizes.{nodes}
use Rattle.fy_phrase.specs.WellMade.{IsClosedUnder}
use Rattle.fy_derive.specs.Shapes.{PlainShape, at_end, a_value, erase}
use Rattle.fy_derive.specs.ShapeTables.{shape_at}
use Rattle.pe_code.specs.declared.code.Entry.{Entry}
use Rattle.pe_code.specs.declared.code.PeInsn.{PeInsn}
use Rattle.pe_code.specs.declared.code.PeInsn.TheVariants as insn
use Rattle.pe_code.specs.declared.code.PeItem.{PeItem}
use Rattle.pe_code.specs.declared.code.SequenceShapes.{SequenceShapes}
use Rattle.pe_code.specs.declared.code.PeCode.{PeCode}
use Rattle.pe_code.specs.Code.{item_at, address_in, entry_of, picked_from}
use Rattle.pe_machine.specs.States.{Pointer, Thunk, source, datum, cell_of, jump_of, sequence_of, Sequence, to_thunk, to_escape, Frame, Focus, code_at, value, completed, Wanted, PeContext, Held, PeState, oldest, is_listed, frame_outside, sequence_at, handed_on}
use Rattle.pe_machine.specs.Step.{PeMove, goes, takes, sticks, loses, push, focused, pushed, bound, taken, bind_meets, field_meets, accept_meets, parts_at, at_entry, if_listed, entered_plain, index_entered, index_meets, length_meets, Asked, a_cell, a_length, no_part, asked_at, sequence_asked, entered, with_variable, executed, item_executed, step_at, pe_step}
use Rattle.pe_right.specs.Constants.{value_of, constant}
use Rattle.pe_right.specs.Direct.{IsConstantAt, IsHanded, passed, bound as let_bound, same, IsDirectOf}
use Rattle.pe_right.specs.Right.{IsNodeUnder, in_first, in_later, itself, Enters, IsInsnOf, of_var, of_lit, of_unary, of_binary, of_cond, of_case, of_lam, of_app, of_app_variable, of_app_datum, of_field, of_sel, of_let, of_let_variable, of_let_datum, of_rec, of_skip, of_seq, of_assign, of_while, of_forever, of_new, of_cells, of_escape, of_accept, of_put, of_read, IsItemAt}
use Rattle.pe_right.proofs.ConstantLemmas.{constant-value}
use Rattle.pe_right.proofs.NodeLemmas.{under-part, entered-node, part-entered}
use Rattle.pe_right.proofs.EntryLemmas.{plain-insn}
use Rattle.pe_right.specs.Entered.{BinderKind, every, IsEntered, is_entered, within_first, within_later}
use Rattle.pe_right.proofs.Invariants.{Compiled, FramesAnswer, ThunkAnswers, ContextTakes, procedure, escape_body, ContextsTake, FocusAnswers, Fills, Follows}
use Rattle.pe_right.proofs.FrameLemmas.{Below}
use Rattle.pe_right.proofs.Growing.{env-listed, extends-oldest, thunk-extends, variable-found}
use Rattle.pe_right.proofs.Swapping.{hand, swap, swap_binding, handed-swap, swap_context, swap_held, swap_state, swap_move, swap_found, length-swap, outside-swap, sequence_at-swap, push-swap, pushed-swap, taken-swap, bind-meets-swap, field-meets-swap, accept-meets-swap, value-swap, completed-swap, entered-swap, variable-swap}
use Rattle.pe_right.proofs.NodeValues.{known, known-is}
use Rattle.pe_right.proofs.CodeEvaluating.{CodeSteps, code-evaluated}

-- ---- constants

constant-small : (q : Tree) (v : Datum) → constant q ≡ Some v → nodes q ≤ 8
constant-small q v e = by (leb (nodes q) 8) refl e
  where
    by : (b : Bool) → leb (nodes q) 8 ≡ b → cond b (value_of q) None ≡ Some v → nodes q ≤ 8
    by true l f = leb-true (nodes q) 8 l
    by false l f = absurd cc

rec-none : (q : Tree) → value_of q ≡ None → constant q ≡ None
rec-none q e = by (leb (nodes q) 8)
  where
    by : (b : Bool) → cond b (value_of q) None ≡ None
    by true = e
    by false = refl

-- a node of which no constant is is none
no-constant : {d k : ℕ} {p q : Tree} → IsNodeUnder 0 0 p d k q → ((v : Datum) → IsConstantAt p k v → ⊥) → constant q ≡ None
no-constant {d = d} {k = k} {p = p} {q = q} node none = by (constant q) refl
  where
    by : (o : Option Datum) → constant q ≡ o → constant q ≡ None
    by None e = e
    by (Some v) e = absurd (none v (record { depth = d; node = q; stands = node; value = e }))

-- ---- items

none_as : (xs ys : List PeItem) (a : ℕ) → length ys ≡ length xs → slice_get xs a ≡ None → slice_get ys a ≡ None
none_as [] [] a e f = refl
none_as [] (y ∷ ys) a e f = absurd (omega arith)
none_as (x ∷ xs) [] a e f = absurd (omega arith)
none_as (x ∷ xs) (y ∷ ys) zero e f = absurd cc
none_as (x ∷ xs) (y ∷ ys) (suc a) e f = none_as xs ys a (omega arith) f

picks-same : {p : Tree} {i j : PeInsn} → IsHanded p i j → picked_from j ≡ picked_from i
picks-same (passed c) = refl
picks-same (let_bound c) = refl
picks-same (same none) = refl

-- in code that evaluates no node in one step
module _ (g : Compiled) (made : PeCode) (direct : IsDirectOf g.phrase g.code made) (by_each : (k : ℕ) → g.straight k ≡ every) where
  abbrev pub cv : ℕ → Option Datum
  cv k = known g.phrase k

  -- the first move is the second one's, or the second one's where it leads to the code of a constant, with the constant evaluated; of a move that leads nowhere nothing is said
  pub data Hands : PeMove → PeMove → Type 0 where
    locked : {n m : PeMove} → n ≡ swap_move cv m → Hands n m
    lost : {n m : PeMove} → m ≡ loses → Hands n m
    stopped : {n m : PeMove} → m ≡ sticks → Hands n m
    evaluates : {n m : PeMove} {s t : PeState} {j : ℕ} → suc j ≤ 16 → m ≡ goes s → CodeSteps g.code j s t → n ≡ goes (swap_state cv t) → Hands n m

  moves-as : {n m x y : PeMove} → n ≡ x → m ≡ y → Hands x y → Hands n m
  moves-as e f h = subst₂ (λ (x : PeMove) (y : PeMove). Hands x y) (sym e) (sym f) h

  parts-same : (a : ℕ) → parts_at (item_at made a) ≡ parts_at (item_at g.code a)
  parts-same a = by (item_at g.code a) refl
    where
      by : (o : Option PeItem) → item_at g.code a ≡ o → parts_at (item_at made a) ≡ parts_at (item_at g.code a)
      by (Some old) e =
          let x = direct.items a old e in
          ap (λ (o : Option PeItem). parts_at o) x.1 ∙ picks-same x.2.insn ∙ sym (ap (λ (o : Option PeItem). parts_at o) e)
      by None e = ap (λ (o : Option PeItem). parts_at o) (none_as g.code.items made.items a direct.count e) ∙ sym (ap (λ (o : Option PeItem). parts_at o) e)

  entries-same : (k n : ℕ) → entry_of made k n ≡ entry_of g.code k n
  entries-same k n = ap (λ (es : List Entry). address_in es k n) direct.entries

  -- ---- thunks

  plain-thunk : (k : ℕ) (r : Option ℕ) → cv k ≡ None → source k r ≡ swap cv (source k r)
  plain-thunk k r e = sym (ap (λ (o : Option Datum). hand o k r) e)

  datum-thunk : (k : ℕ) (r : Option ℕ) (v : Datum) → cv k ≡ Some v → datum v ≡ swap cv (source k r)
  datum-thunk k r v e = sym (ap (λ (o : Option Datum). hand o k r) e)

  argument : (t u : Thunk) (p : Pointer) (s : PeState) → t ≡ swap cv u → pushed (arg_c t) p (swap_state cv s) ≡ swap_move cv (pushed (arg_c u) p s)
  argument t u p s e = ap (λ (x : Thunk). pushed (arg_c x) p (swap_state cv s)) e ∙ pushed-swap cv (arg_c u) p s

  definition : (t u : Thunk) (d y : ℕ) (r : Option ℕ) (s : PeState) → t ≡ swap cv u → bound d (to_thunk t) y r (swap_state cv s) ≡ swap_move cv (bound d (to_thunk u) y r s)
  definition t u d y r s e = ap (λ (x : Thunk). bound d (to_thunk x) y r (swap_state cv s)) e

  -- ---- an instruction that uses no variable

  module _ (d : ℕ) (at : Place) (here : Pointer) (s : PeState) where
    abbrev There : PeState
    There = swap_state cv s

    abbrev To : ℕ → Pointer
    To a = record here { address = a }

    app-hands : {k n y : ℕ} {q : Tree} {j : PeInsn} → IsNodeUnder 0 0 g.phrase n k q → IsHanded g.phrase (insn.Pass k y) j →
        executed made j d at here There ≡ swap_move cv (executed g.code (insn.Pass k y) d at here s)
    app-hands {k = k} {y = y} node (passed {v = v} c) = argument (datum v) (source k here.frame) (To y) s (datum-thunk k here.frame v (known-is c.stands ∙ c.value))
    app-hands {k = k} {y = y} node (same none) =
        argument (source k here.frame) (source k here.frame) (To y) s (plain-thunk k here.frame (known-is node ∙ no-constant node (λ v c. none k v refl c)))

    let-hands : {k n y : ℕ} {q : Tree} {j : PeInsn} → IsNodeUnder 0 0 g.phrase n k q → IsHanded g.phrase (insn.Let k y) j →
        executed made j d at here There ≡ swap_move cv (executed g.code (insn.Let k y) d at here s)
    let-hands {k = k} {y = y} node (let_bound {v = v} c) = definition (datum v) (source k here.frame) d y here.frame s (datum-thunk k here.frame v (known-is c.stands ∙ c.value))
    let-hands {k = k} {y = y} node (same none) =
        definition (source k here.frame) (source k here.frame) d y here.frame s (plain-thunk k here.frame (known-is node ∙ no-constant node (λ v c. none k v refl c)))

    insn-hands : {n k : ℕ} (q : Tree) {t : PlainShape} {i j : PeInsn} → IsNodeUnder 0 0 g.phrase n k q → IsInsnOf g.handed g.table g.code k q t i → IsHanded g.phrase i j →
        ((m : ℕ) (o : Place) → q ≡ var m o → ⊥) → executed made j d at here There ≡ swap_move cv (executed g.code i d at here s)
    insn-hands q node (of_var {j = j} {at = o} e) h none = absurd (none j o refl)
    insn-hands q node of_lit (same u) none = refl
    insn-hands q node (of_unary {x = x} {op = op} e) (same u) none = pushed-swap cv (op_1 op at) (To x) s
    insn-hands q node (of_binary {x = x} {y = y} {op = op} e f) (same u) none = pushed-swap cv (op_l op (To y) at) (To x) s
    insn-hands q node (of_cond {x = x} {y = y} {z = z} e f h) (same u) none = pushed-swap cv (if_c (To y) (To z)) (To x) s
    insn-hands q node (of_case {x = x} e f) (same u) none = pushed-swap cv (case_c here at) (To x) s
    insn-hands q node (of_lam {y = y} e) (same u) none =
        taken-swap cv (bind_meets d y here.frame) (bind_meets d y here.frame) (bind-meets-swap cv d y here.frame) s.contexts s
    insn-hands q node (of_app plain unknown e) h none = app-hands (under-part node (in_later (in_first itself))) h
    insn-hands q node (of_app_variable {j = j} {y = y} e f) (same u) none =
        ap (λ (o : Option Frame). with_variable o (λ t. pushed (arg_c t) (To y) There)) (outside-swap cv s.frames j here.frame)
        ∙ variable-swap cv (frame_outside s.frames j here.frame) (λ t. pushed (arg_c t) (To y) There) (λ t. pushed (arg_c t) (To y) s) (λ t. pushed-swap cv (arg_c t) (To y) s)
    insn-hands q node (of_app_datum {y = y} {v = v} e f) (same u) none = pushed-swap cv (arg_c (datum v)) (To y) s
    insn-hands q node (of_field {i = i} {x = x} e) (same u) none =
        taken-swap cv (field_meets i (To x)) (field_meets i (To x)) (field-meets-swap cv i (To x)) s.contexts s
    insn-hands q node (of_sel {i = i} {x = x} e) (same u) none = pushed-swap cv (pick_c i) (To x) s
    insn-hands q node (of_let plain unknown e) h none = let-hands (under-part node (in_first itself)) h
    insn-hands q node (of_let_variable {j = j} {y = y} e f) (same u) none =
        ap (λ (o : Option Frame). with_variable o (λ t. bound d (to_thunk t) y here.frame There)) (outside-swap cv s.frames j here.frame)
        ∙ variable-swap cv (frame_outside s.frames j here.frame) (λ t. bound d (to_thunk t) y here.frame There) (λ t. bound d (to_thunk t) y here.frame s) (λ t. refl)
    insn-hands q node (of_let_datum e f) (same u) none = refl
    insn-hands q node (of_rec {k = k} {y = y} e) (same u) none =
        definition (source k here.frame) (source k here.frame) d y here.frame s (plain-thunk k here.frame (known-is node ∙ rec-none q refl))
    insn-hands q node of_skip (same u) none = refl
    insn-hands q node (of_seq {x = x} {y = y} e f) (same u) none = pushed-swap cv (then_c (To y)) (To x) s
    insn-hands q node (of_assign {x = x} {y = y} e f) (same u) none = pushed-swap cv (assign_c (To x)) (To y) s
    insn-hands q node (of_while {x = x} {y = y} e f) (same u) none = pushed-swap cv (while_c here (To y)) (To x) s
    insn-hands q node (of_forever {x = x} e) (same u) none = pushed-swap cv (loop_c here) (To x) s
    insn-hands q node (of_new {x = x} {y = y} e f) (same u) none = pushed-swap cv (new_c d (To y)) (To x) s
    insn-hands q node (of_cells {x = x} {y = y} e f) (same u) none = pushed-swap cv (cells_c d (To y) at) (To x) s
    insn-hands q node (of_escape {x = x} e) (same u) none = ap (λ (t : PeState). bound d to_escape x here.frame t) (push-swap cv (esc_c s.next) s)
    insn-hands q node (of_accept {x = x} e) (same u) none =
        taken-swap cv (accept_meets d x here.frame) (accept_meets d x here.frame) (accept-meets-swap cv d x here.frame) s.contexts s
    insn-hands q node (of_put {x = x} {kind = kind} e) (same u) none = pushed-swap cv (put_c kind) (To x) s
    insn-hands q node (of_read {x = x} e) (same u) none =
        ap (λ (l : ℕ). takes (λ byte. record There {
          focus = code_at (To x);
          contexts = (record { base = s.load; frames = l; context = store_c (byte_or_end byte) }) ∷ swap_held cv s.contexts;
          load = s.load + 8;
        })) (length-swap cv s.frames)

  -- ---- a variable

  -- a node's thunk, or the datum in its place, is no sequence
  entered-hand : (code : PeCode) (o : Option Datum) (n k : ℕ) (r : Option ℕ) (s : PeState) → entered code n (hand o k r) s ≡ entered_plain code n (hand o k r) s
  entered-hand code None n k r s = refl
  entered-hand code (Some v) n k r s = refl

  source-hands : (k n : ℕ) (r : Option ℕ) (node : Tree) (d : List BinderKind) (t : PlainShape) (s : PeState) → IsEntered g.straight [] 0 g.phrase d k node → is_listed r s.frames ≡ true →
      shape_at g.table n ≡ Some t → Hands (entered_plain made n (swap cv (source k r)) (swap_state cv s)) (entered_plain g.code n (source k r) s)
  source-hands k n r node d t s stands listed sh = by (constant node) refl (entry_of g.code k n) refl
    where
      into : (o : Option ℕ) → entry_of g.code k n ≡ o → entered_plain g.code n (source k r) s ≡ at_entry o r s
      into o e = ap₂ (λ (b : Bool) (x : Option ℕ). if_listed b (at_entry x r s)) listed e

      by : (o : Option Datum) → constant node ≡ o → (x : Option ℕ) → entry_of g.code k n ≡ x →
          Hands (entered_plain made n (swap cv (source k r)) (swap_state cv s)) (entered_plain g.code n (source k r) s)
      by None e x f = locked (entered-swap cv made g.code entries-same direct.assignment n (source k r) s (sym (plain-thunk k r (known-is (entered-node g.straight stands) ∙ e))))
      by (Some v) e None f = stopped (into None f)
      by (Some v) e (Some a) f =
          let y = code-evaluated g by_each node v d k a t (constant-value node v e) stands (n, sh, f) r s in
          evaluates (let few = constant-small node v e in omega (arith, y.1)) (into (Some a) f) y.2
          (ap (λ (u : Thunk). entered_plain made n u (swap_state cv s)) (sym (datum-thunk k r v (known-is (entered-node g.straight stands) ∙ e))))

  -- a thunk that isn't a sequence; where it is one, nothing is entered
  plain-hands : (u : Thunk) (q : Tree) (D : PlainPaths) (n : ℕ) (t : PlainShape) (s : PeState) → ThunkAnswers g s.frames u q D → shape_at g.table n ≡ Some t →
      Hands (entered_plain made n (swap cv u) (swap_state cv s)) (entered_plain g.code n u s)
  plain-hands (source k r) q D n t s h sh = source-hands k n r h.0 h.3.binders t s h.3.stands (env-listed g s.frames r h.1 h.2 h.5) sh
  plain-hands (datum v) q D n t s h sh = locked (entered-swap cv made g.code entries-same direct.assignment n (datum v) s refl)
  plain-hands (cell_of m) q D n t s h sh = locked (entered-swap cv made g.code entries-same direct.assignment n (cell_of m) s refl)
  plain-hands (jump_of m) q D n t s h sh = locked (entered-swap cv made g.code entries-same direct.assignment n (jump_of m) s refl)
  plain-hands (sequence_of m) q D n t s h sh = stopped refl

  -- ---- a sequence

  -- an index is entered, and may be a constant
  index-hands : (o : Option ℕ) (w : Wanted) (u : Thunk) (q : Tree) (D : PlainPaths) (s : PeState) → g.code.sequences.value ≡ o → ThunkAnswers g s.frames u q D →
      Hands (index_entered made o w (swap cv u) (swap_state cv s)) (index_entered g.code o w u s)
  index-hands None w u q D s e h = stopped refl
  index-hands (Some n) w u q D s e h =
      moves-as (ap (λ (t : PeState). entered_plain made n (swap cv u) t) (push-swap cv (element_c w) s)) refl
      (plain-hands u q D n (at_end a_value) (push (element_c w) s) h ((g.right.sequences.value n).0 e))

  index-meets-hands : (w : Wanted) (c : PeContext) (x : CopyContext) (P Q : PlainPath) (many : ℕ) (cs : List Held) (s : PeState) → Below s.next s.frames →
      ContextTakes g (oldest many s.frames) c x P Q →
      Hands (index_meets made w (swap_context cv c) (swap_state cv (record s { contexts = cs }))) (index_meets g.code w c (record s { contexts = cs }))
  index-meets-hands w c x P Q many cs s low (procedure {t = t} {q = q} {D = D} th) =
      moves-as (ap (λ (shapes : SequenceShapes). index_entered made shapes.value w (swap cv t) (swap_state cv (record s { contexts = cs }))) direct.sequences) refl
      (index-hands g.code.sequences.value w t q D (record s { contexts = cs }) refl (thunk-extends g (extends-oldest g many s.frames s.next low) t q D th))
  index-meets-hands w c x P Q many cs s low escape_body = stopped refl
  index-meets-hands w c x P Q many cs s low h = stopped refl

  index-taken-hands : (w : Wanted) (cs : List Held) (xs : List (Pushed CopyContext)) (P : PlainPath) (s : PeState) → Below s.next s.frames → ContextsTake g s.frames cs xs P →
      Hands (taken (index_meets made w) (swap_held cv cs) (swap_state cv s)) (taken (index_meets g.code w) cs s)
  index-taken-hands w [] xs P s low t = stopped refl
  index-taken-hands w (c ∷ cs) [] P s low t = absurd t
  index-taken-hands w (c ∷ cs) (x ∷ xs) P s low t = index-meets-hands w c.context x.context P t.3.0 c.frames cs s low t.3.1

  length-meets-swap : (m : ℕ) (c : PeContext) (s : PeState) → length_meets m (swap_context cv c) (swap_state cv s) ≡ swap_move cv (length_meets m c s)
  length-meets-swap m (pick_c i) s = by (nat_eq i 0)
    where
      by : (b : Bool) → cond b (focused (value (datum_kind.Int (pos m))) (swap_state cv s)) sticks ≡ swap_move cv (cond b (focused (value (datum_kind.Int (pos m))) s) sticks)
      by true = refl
      by false = refl
  length-meets-swap m (arg_c t) s = refl
  length-meets-swap m c s = refl

  asked-hands : (a : Asked) (m : ℕ) (o : Option Sequence) (xs : List (Pushed CopyContext)) (P : PlainPath) (s : PeState) → Below s.next s.frames → ContextsTake g s.frames s.contexts xs P →
      Hands (sequence_asked made a m o (swap_state cv s)) (sequence_asked g.code a m o s)
  asked-hands (a_cell b) m (Some c) xs P s low t = index-taken-hands (record { is_written = b; number = m }) s.contexts xs P s low t
  asked-hands a_length m (Some c) xs P s low t =
      locked (taken-swap cv (length_meets (length c.values)) (length_meets (length c.values)) (length-meets-swap (length c.values)) s.contexts s)
  asked-hands no_part m (Some c) xs P s low t = stopped refl
  asked-hands (a_cell b) m None xs P s low t = lost refl
  asked-hands a_length m None xs P s low t = lost refl
  asked-hands no_part m None xs P s low t = lost refl

  -- ---- a thunk

  thunk-hands : (u : Thunk) (q : Tree) (D : PlainPaths) (n : ℕ) (t : PlainShape) (xs : List (Pushed CopyContext)) (P : PlainPath) (s : PeState) → ThunkAnswers g s.frames u q D →
      shape_at g.table n ≡ Some t → Below s.next s.frames → ContextsTake g s.frames s.contexts xs P →
      Hands (entered made n (swap cv u) (swap_state cv s)) (entered g.code n u s)
  thunk-hands (source k r) q D n t xs P s h sh low w = moves-as (entered-hand made (cv k) n k r (swap_state cv s)) refl (plain-hands (source k r) q D n t s h sh)
  thunk-hands (datum v) q D n t xs P s h sh low w = plain-hands (datum v) q D n t s h sh
  thunk-hands (cell_of m) q D n t xs P s h sh low w = plain-hands (cell_of m) q D n t s h sh
  thunk-hands (jump_of m) q D n t xs P s h sh low w = plain-hands (jump_of m) q D n t s h sh
  thunk-hands (sequence_of m) q D n t xs P s h sh low w =
      moves-as
      (ap₂ (λ (shapes : SequenceShapes) (o : Option Sequence). sequence_asked made (asked_at shapes n) m o (swap_state cv s)) direct.sequences (sequence_at-swap cv m s.frames)) refl
      (asked-hands (asked_at g.code.sequences n) m (sequence_at m s.frames) xs P s low w)

  variable-hands : (j n : ℕ) (o : Place) (t : PlainShape) (d : ℕ) (at : Place) (here : Pointer) (s : PeState) (qs : List Tree) (G : List PlainPaths) (xs : List (Pushed CopyContext)) (P : PlainPath) →
      shape_at g.table n ≡ Some t → ContextsTake g s.frames s.contexts xs P → Below s.next s.frames → FramesAnswer g s.frames here.frame qs G → IsClosedUnder (length G) (var j o) →
      Hands (executed made (insn.UseVar j n) d at here (swap_state cv s)) (executed g.code (insn.UseVar j n) d at here s)
  variable-hands j n o t d at here s qs G xs P sh w low env l =
      let x = variable-found g s.frames s.next j here.frame qs G o low env l in
      let f : Frame = x.0 in
      let go : Thunk → PeMove = λ u. entered g.code n u s in
      moves-as
      (ap (λ (y : Option Frame). with_variable y (λ u. entered made n u (swap_state cv s))) (outside-swap cv s.frames j here.frame ∙ ap (swap_found cv) x.1)
      ∙ ap (λ (u : Thunk). entered made n u (swap_state cv s)) (handed-as f))
      (ap (λ (y : Option Frame). with_variable y go) x.1)
      (thunk-hands (handed_on f.number f.binding) _ _ n t xs P s x.2 sh low w)
    where
      handed-as : (f : Frame) → handed_on f.number (swap_binding cv f.binding) ≡ swap cv (handed_on f.number f.binding)
      handed-as f = handed-swap cv f.number f.binding

  -- ---- the item at an address

  -- what stands where a node is entered: the item of the node, or of the operand that a merge gives way to
  abbrev ItemHere : (w : List BinderKind) (d a : ℕ) → PlainShape → Type 0
  ItemHere w d a t =
      (k : ℕ) × (q : Tree) × IsEntered g.straight [] 0 g.phrase w k q × IsClosedUnder d q × (item : PeItem) × (item_at g.code a ≡ Some item) × IsItemAt g.handed g.straight g.table g.code w k q t item

  item-here : (q : Tree) (w : List BinderKind) (d k a : ℕ) (t : PlainShape) → IsEntered g.straight [] 0 g.phrase w k q → IsClosedUnder d q → Enters g.table g.code k t a → ItemHere w d a t
  item-here (merge p q at) w d k a t node closed en =
      elim (g.right.right w k a (merge p q at) t node en).3 [
        | inl x ↦ item-here q w d (k + 1 + nodes p) a t (part-entered g.straight node (by_each k) (within_later (within_first is_entered))) closed.1 x.1
        | inr x ↦ item-here p w d (k + 1) a t (part-entered g.straight node (by_each k) (within_first is_entered)) closed.0 x.1
      ]
  item-here q w d k a t node closed en =
      let it : (item : PeItem) × (item_at g.code a ≡ Some item) × IsItemAt g.handed g.straight g.table g.code w k q t item = g.right.right w k a q t node en in
      (k, q, node, closed, it.0, it.1, it.2)

  item-hands : {k : ℕ} {i j : PeInsn} (q : Tree) (t : PlainShape) (d : ℕ) (at : Place) (here : Pointer) (s : PeState) (qs : List Tree) (G : List PlainPaths) →
      IsNodeUnder 0 0 g.phrase (length G) k q → IsClosedUnder (length G) q → IsInsnOf g.handed g.table g.code k q t i → IsHanded g.phrase i j → Below s.next s.frames →
      FramesAnswer g s.frames here.frame qs G → (xs : List (Pushed CopyContext)) (P : PlainPath) → ContextsTake g s.frames s.contexts xs P → Hands (executed made j d at here (swap_state cv s)) (executed g.code i d at here s)
  item-hands (var m o) t d at here s qs G node closed (of_var {n = n} sh) (same none) low env xs P w = variable-hands m n o t d at here s qs G xs P sh w low env closed
  item-hands q t d at here s qs G node closed is h low env xs P w = locked (insn-hands d at here s q node is h (λ m o e. cc))

  focus-hands : (k : ℕ) (f : Focus) (q : Tree) (P : PlainPath) (xs : List (Pushed CopyContext)) (s : PeState) → FocusAnswers g k s.frames f q P → Below s.next s.frames →
      ContextsTake g s.frames s.contexts xs P →
      Hands (step_at made f (swap_state cv s)) (step_at g.code f s)
  focus-hands k (code_at here) q P xs s a low w =
      let h = a.0 in
      let x = item-here h.1 h.4.binders (length h.3) h.0 here.address (erase P) h.4.stands h.4.closed h.6 in
      let node = subst (λ (d : ℕ). IsNodeUnder 0 0 g.phrase d x.0 x.1) h.4.many (entered-node g.straight x.2) in
      let item : PeItem = x.4 in
      let y = direct.items here.address item x.5 in
      let new : PeItem = y.0 in
      moves-as
      (ap (λ (o : Option PeItem). item_executed made o here (swap_state cv s)) y.1
      ∙ ap₂ (λ (d : ℕ) (at : Place). executed made new.insn d at here (swap_state cv s)) y.2.depth y.2.place)
      (ap (λ (o : Option PeItem). item_executed g.code o here s) x.5)
      (item-hands x.1 (erase P) item.depth item.place here s h.2 h.3 node x.3 (plain-insn g (by_each x.0) x.6.insn) y.2.insn low h.7 xs P w)
  focus-hands k (value v) q P xs s a low w = locked (value-swap cv made g.code parts-same v s)
  focus-hands k completed q P xs s a low w = locked (completed-swap cv s)

  -- a sequence that is filled meets no thunk
  filling-hands : (s : PeState) (c : CopyState) → Fills g s c → Hands (pe_step made (swap_state cv s)) (pe_step g.code s)
  filling-hands s c h =
      moves-as (ap (λ (f : Focus). step_at made f (swap_state cv s)) h.focus) (ap (λ (f : Focus). step_at g.code f s) h.focus)
      (locked (value-swap cv made g.code parts-same (datum_kind.Int (pos h.made)) s))

  pub step-hands : (k : ℕ) (s : PeState) (c : CopyState) → Follows g k s c → Hands (pe_step made (swap_state cv s)) (pe_step g.code s)
  step-hands k s c (inl t) = focus-hands k s.focus c.focus t.0 c.contexts s t.1 t.2.2 t.2.0
  step-hands k s c (inr h) = filling-hands s c h
