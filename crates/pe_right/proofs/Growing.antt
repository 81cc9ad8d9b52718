-- What frames stand for, as newer frames come, as they are cut off, and as a cell is written; and what a variable finds.
use Rattle.std.proofs.lemmas.List.{length-set}
use Rattle.std.proofs.Common.{ℕ, zero, suc, ◌<◌, ◌≤◌, ◌≡◌, Bool, true, false, cond, List, [], ◌∷◌, length, Option, Some, refl, sym, ap, ◌∙◌, subst, inl, inr, arith, eq-eqb, ne_eqb}
use Rattle.fy_base.specs.declared.data.Place.{Place}
use Rattle.fy_base.specs.declared.data.Datum.{Datum}
use Rattle.fy_types.specs.Paths.{PlainPath, PlainPaths, paths}
use Rattle.fy_types.specs.PathOrder.{HasBelow}
use Rattle.fy_phrase.specs.declared.phrase.DataTy.{DataTy}
use Rattle.fy_phrase.specs.Tree.{Tree, Trees, no_trees, and_tree}
use Rattle.fy_phrase.specs.Contexts.{CopyContext}
use Rattle.fy_phrase.specs.Copy.{Which, own, element}
use Rattle.fy_derive.specs.Atoms.{data_atom, cell_type, sequence_type, datum_atom}
use Rattle.fy_derive.proofs.PathTyping.{paths_at}
use Rattle.fy_derive.proofs.StateTyping.{ints-set}
use Rattle.pe_code.specs.Code.{picked_from}
use Rattle.pe_machine.specs.States.{Pointer, Thunk, source, datum, cell_of, jump_of, sequence_of, Binding, to_thunk, to_cell, to_escape, to_sequence, Frame, PeContext, oldest, is_named, is_listed, from_frame, frame_outside, with_binding, handed_on}
use Rattle.pe_right.specs.Closing.{phrase_at}
use Rattle.pe_right.specs.Entered.{BinderKind, a_cell, another}
use Rattle.pe_right.proofs.ConstantLemmas.{constant-value, value-shut}
use Rattle.pe_right.proofs.ClosingLemmas.{Shut, AllShut, shut-closed_by}
use Rattle.pe_right.proofs.FrameLemmas.{changed, written, Below, along_cut, HasFrame-newer, IsEscape, IsEscape-written, with_binding-newer, with_binding-here}
use Rattle.pe_right.proofs.Invariants.{Compiled, Above, IsBoundBy, AreBoundBy, IsNode, IsBody, HoldsDatum, HasCell, HoldsInts, HasSequence, HasEscape, FramesAnswer, ThunkAnswers, BindingAnswers, CodeAnswers, BodyAnswers, EachCodeAnswers, ContextTakes, unary_operand, left_operand, right_operand, condition, index, procedure, selected, first_command, assigned_value, acceptor, loop_test, loop_body, endless_body, first_value, cells_wanted, element_wanted, cell_body, put_datum, escape_body}

pub named-itself : (r : Option ℕ) (n : ℕ) → r ≡ Some n → is_named r n ≡ true
named-itself r n e = ap (λ (x : Option ℕ). is_named x n) e ∙ eq-eqb n n refl

-- a frame with too great a number isn't named
bound-unnamed : (fs : List Frame) (b m : ℕ) (r : Option ℕ) (w : List BinderKind) → Below b fs → b ≤ m → AreBoundBy fs r w → is_named r m ≡ false
bound-unnamed [] b m r w h le e = ap (λ (x : Option ℕ). is_named x m) e.0
bound-unnamed (f ∷ fs) b m r w h le (inl e) = let l = h.0 in ap (λ (x : Option ℕ). is_named x m) e.0 ∙ ne_eqb f.number m (λ q. omega arith)
bound-unnamed (f ∷ fs) b m r w h le (inr e) = let l = h.0 in bound-unnamed fs f.number m r w h.1 (omega arith) e.1

-- what is bound so is so once a cell is written
bound-written : (which : Which) (v : Datum) (y : BinderKind) (b : Binding) → IsBoundBy y b → IsBoundBy y (written which v b)
bound-written which v another b h = tt
bound-written which v a_cell (to_thunk t) h = absurd h
bound-written own v a_cell (to_cell u) h = tt
bound-written (element i) v a_cell (to_cell u) h = tt
bound-written which v a_cell to_escape h = absurd h
bound-written which v a_cell (to_sequence c) h = absurd h

module _ (g : Compiled) where
  -- what stands in the first list stands in the second
  pub record Extends (fs gs : List Frame) : Type 0 where
    pub env : (r : Option ℕ) (qs : List Tree) (G : List PlainPaths) → FramesAnswer g fs r qs G → FramesAnswer g gs r qs G
    pub cell : (which : Which) (X : DataTy) (n : ℕ) → HasCell which X n fs → HasCell which X n gs
    pub sequence : (n : ℕ) → HasSequence n fs → HasSequence n gs
    pub escape : (n : ℕ) → HasEscape n fs → HasEscape n gs
    pub bound : (r : Option ℕ) (w : List BinderKind) → AreBoundBy fs r w → AreBoundBy gs r w

  pub extends-itself : (fs : List Frame) → Extends fs fs
  extends-itself fs = record { env = λ r qs G e. e; cell = λ which X n h. h; sequence = λ n h. h; escape = λ n h. h; bound = λ r w h. h }

  extends-trans : {fs gs hs : List Frame} → Extends fs gs → Extends gs hs → Extends fs hs
  extends-trans a b =
      record {
        env = λ r qs G e. b.env r qs G (a.env r qs G e);
        cell = λ which X n h. b.cell which X n (a.cell which X n h);
        sequence = λ n h. b.sequence n (a.sequence n h);
        escape = λ n h. b.escape n (a.escape n h);
        bound = λ r w h. b.bound r w (a.bound r w h);
      }

  -- a frame with too great a number isn't named
  pub env-unnamed : (fs : List Frame) (b m : ℕ) (r : Option ℕ) (qs : List Tree) (G : List PlainPaths) → Below b fs → b ≤ m → FramesAnswer g fs r qs G → is_named r m ≡ false
  env-unnamed [] b m r qs G h le e = ap (λ (x : Option ℕ). is_named x m) e.0
  env-unnamed (f ∷ fs) b m r qs G h le (inl e) =
      let l = h.0 in ap (λ (x : Option ℕ). is_named x m) e.0 ∙ ne_eqb f.number m (λ q. omega arith)
  env-unnamed (f ∷ fs) b m r qs G h le (inr e) = let l = h.0 in env-unnamed fs f.number m r qs G h.1 (omega arith) e.1

  pub extends-newer : (f : Frame) (fs : List Frame) → Below f.number fs → Extends fs (f ∷ fs)
  extends-newer f fs h = record {
    env = λ r qs G e. inr (env-unnamed fs f.number f.number r qs G h (omega arith) e, e);
    cell = λ which X n c. HasFrame-newer (λ b. HoldsDatum which X b) n f fs h c;
    sequence = λ n c. HasFrame-newer (λ b. HoldsInts b) n f fs h c;
    escape = λ n c. HasFrame-newer (λ b. IsEscape b) n f fs h c;
    bound = λ r w e. inr (bound-unnamed fs f.number f.number r w h (omega arith) e, e);
  }

  pub extends-oldest : (k : ℕ) (fs : List Frame) (b : ℕ) → Below b fs → Extends (oldest k fs) fs
  extends-oldest =
      along_cut (λ fs gs. (b : ℕ) → Below b fs → Extends gs fs) (λ fs b h. extends-itself fs)
      (λ f fs gs ih b h. extends-trans (ih f.number h.1) (extends-newer f fs h.1))

  -- ---- thunks, code and contexts go along

  node-extends : {fs gs : List Frame} → Extends fs gs → {r : Option ℕ} {d k : ℕ} {q : Tree} → IsNode g fs r d k q → IsNode g gs r d k q
  node-extends x {r = r} n = record { binders = n.binders; stands = n.stands; many = n.many; bound = x.bound r n.binders n.bound; closed = n.closed; depths = n.depths }

  body-node-extends : {fs gs : List Frame} → Extends fs gs → {r : Option ℕ} {y : BinderKind} {d k : ℕ} {q : Tree} → IsBody g fs r y d k q → IsBody g gs r y d k q
  body-node-extends x {r = r} n = record { binders = n.binders; stands = n.stands; many = n.many; bound = x.bound r n.binders n.bound; closed = n.closed; depths = n.depths }

  pub thunk-extends : {fs gs : List Frame} → Extends fs gs → (t : Thunk) (q : Tree) (D : PlainPaths) → ThunkAnswers g fs t q D → ThunkAnswers g gs t q D
  thunk-extends x (source k r) q D h = (h.0, h.1, h.2, node-extends x h.3, h.4, x.env r h.1 h.2 h.5, h.6, h.7)
  thunk-extends x (datum v) q D h = h
  thunk-extends x (cell_of n) q D h = (h.0, h.1, h.2, x.cell own h.1 n h.3, h.4)
  thunk-extends x (jump_of n) q D h = (h.0, h.1, x.escape n h.2, h.3)
  thunk-extends x (sequence_of n) q D h = (h.0, h.1, h.2, x.sequence n h.3, h.4)

  binding-extends : {fs gs : List Frame} → Extends fs gs → (n : ℕ) (b : Binding) (q : Tree) (D : PlainPaths) → BindingAnswers g fs n b q D → BindingAnswers g gs n b q D
  binding-extends x n (to_thunk t) q D h = thunk-extends x t q D h
  binding-extends x n (to_cell v) q D h = h
  binding-extends x n to_escape q D h = h
  binding-extends x n (to_sequence c) q D h = h

  pub code-extends : {fs gs : List Frame} → Extends fs gs → (c : Pointer) (q : Tree) (P : PlainPath) → CodeAnswers g fs c q P → CodeAnswers g gs c q P
  code-extends x c q P h = (h.0, h.1, h.2, h.3, node-extends x h.4, h.5, h.6, x.env c.frame h.2 h.3 h.7, h.8)

  body-extends : {fs gs : List Frame} → Extends fs gs → (y : BinderKind) (c : Pointer) (b : Tree) (D : PlainPaths) (P : PlainPath) → BodyAnswers g y fs c b D P → BodyAnswers g y gs c b D P
  body-extends x y c b D P h = (h.0, h.1, h.2, h.3, body-node-extends x h.4, h.5, h.6, x.env c.frame h.2 h.3 h.7, h.8)

  each-extends : {fs gs : List Frame} → Extends fs gs → (r : Option ℕ) (ys : List ℕ) (qs : Trees) (P : PlainPath) → EachCodeAnswers g fs r ys qs P → EachCodeAnswers g gs r ys qs P
  each-extends x r [] no_trees P h = tt
  each-extends x r (y ∷ ys) (and_tree q qs) P h = (code-extends x (record { address = y; frame = r }) q P h.0, each-extends x r ys qs P h.1)
  each-extends x r [] (and_tree q qs) P h = absurd h
  each-extends x r (y ∷ ys) no_trees P h = absurd h

  pub held-extends : {fs gs : List Frame} {c : PeContext} {y : CopyContext} {P Q : PlainPath} → Extends fs gs → ContextTakes g fs c y P Q → ContextTakes g gs c y P Q
  held-extends x unary_operand = unary_operand
  held-extends x (left_operand {c = c} {q = q} D t h) = left_operand D t (code-extends x c q _ h)
  held-extends x (right_operand D t e) = right_operand D t e
  held-extends x (condition {c = c} {d = d} {q = q} {r = r} {P = P} h k) = condition (code-extends x c q P h) (code-extends x d r P k)
  held-extends x (index {c = c} {parts = parts} {P = P} h) = index (h.0, h.1, each-extends x c.frame (picked_from h.0.insn) parts P h.2)
  held-extends x (procedure {t = t} {q = q} {D = D} h) = procedure (thunk-extends x t q D h)
  held-extends x selected = selected
  held-extends x (first_command {c = c} {q = q} {P = P} h) = first_command (code-extends x c q P h)
  held-extends x (assigned_value {c = c} {q = q} D h) = assigned_value D (code-extends x c q _ h)
  held-extends x (acceptor D e) = acceptor D e
  held-extends x (loop_test {c = c} {d = d} {q = q} {r = r} h k) = loop_test (code-extends x c q _ h) (code-extends x d r _ k)
  held-extends x (loop_body {c = c} {q = q} h) = loop_body (code-extends x c q _ h)
  held-extends x (endless_body {c = c} {q = q} {P = P} h) = endless_body (code-extends x c q P h)
  held-extends x (first_value {c = c} {b = b} {P = P} D is h) = first_value D is (body-extends x a_cell c b (paths (cell_type D)) P h)
  held-extends x (cells_wanted {c = c} {b = b} {P = P} is known h) = cells_wanted is known (body-extends x another c b (paths sequence_type) P h)
  held-extends x (element_wanted {w = w} h) = element_wanted (x.sequence w.number h)
  held-extends x (cell_body is) = cell_body is
  held-extends x put_datum = put_datum
  held-extends x escape_body = escape_body

  -- ---- a cell is written

  written-binding : {fs gs : List Frame} → Extends fs gs → (which : Which) (E : DataTy) (v : Datum) (n : ℕ) (b : Binding) (q : Tree) (D : PlainPaths) →
      HoldsDatum which E b → datum_atom v ≡ data_atom E → BindingAnswers g fs n b q D → BindingAnswers g gs n (written which v b) q D
  written-binding x which E v n (to_thunk t) q D is e h = absurd is
  written-binding x own E v n (to_cell u) q D is e h = (h.0, h.1, h.2, e ∙ sym is ∙ h.3, h.4)
  written-binding x (element i) E v n (to_cell u) q D is e h = absurd is
  written-binding x which E v n to_escape q D is e h = absurd is
  written-binding x own E v n (to_sequence c) q D is e h = absurd is
  written-binding x (element i) E v n (to_sequence c) q D is e h =
      (h.0, h.1, h.2, ints-set c.values i v (e ∙ ap (λ (Y : DataTy). data_atom Y) (sym is.2)) h.3, h.4)

  written-holds : (which other : Which) (E X : DataTy) (v : Datum) (b : Binding) → HoldsDatum which E b → datum_atom v ≡ data_atom E → HoldsDatum other X b →
      HoldsDatum other X (written which v b)
  written-holds which other E X v (to_thunk t) is e h = absurd is
  written-holds own own E X v (to_cell u) is e h = e ∙ sym is ∙ h
  written-holds own (element j) E X v (to_cell u) is e h = absurd h
  written-holds (element i) other E X v (to_cell u) is e h = absurd is
  written-holds which other E X v to_escape is e h = absurd is
  written-holds own other E X v (to_sequence c) is e h = absurd is
  written-holds (element i) own E X v (to_sequence c) is e h = absurd h
  written-holds (element i) (element j) E X v (to_sequence c) is e h =
      let long = length-set c.values i v in
      let l = h.0 in
      (omega arith, ints-set c.values i v (e ∙ ap (λ (Y : DataTy). data_atom Y) (sym is.2)) h.1, h.2)

  written-ints : (which : Which) (E : DataTy) (v : Datum) (b : Binding) → HoldsDatum which E b → datum_atom v ≡ data_atom E → HoldsInts b → HoldsInts (written which v b)
  written-ints which E v (to_thunk t) is e h = absurd is
  written-ints which E v (to_cell u) is e h = absurd h
  written-ints which E v to_escape is e h = absurd is
  written-ints own E v (to_sequence c) is e h = absurd is
  written-ints (element i) E v (to_sequence c) is e h = ints-set c.values i v (e ∙ ap (λ (Y : DataTy). data_atom Y) (sym is.2)) h

  -- the newest frame holds the cell
  written-here : (which : Which) (E : DataTy) (v : Datum) (f : Frame) (fs : List Frame) → HoldsDatum which E f.binding → datum_atom v ≡ data_atom E →
      Extends (f ∷ fs) (changed (written which v) f ∷ fs)
  written-here which E v f fs is e = record { env = env; cell = cell; sequence = sequence; escape = escape; bound = bound }
    where
      bound : (r : Option ℕ) (w : List BinderKind) → AreBoundBy (f ∷ fs) r w → AreBoundBy (changed (written which v) f ∷ fs) r w
      bound r w (inl h) = inl (h.0, (h.1.0, h.1.1, h.1.2, bound-written which v h.1.0 f.binding h.1.3, h.1.4))
      bound r w (inr h) = inr h

      env : (r : Option ℕ) (qs : List Tree) (G : List PlainPaths) → FramesAnswer g (f ∷ fs) r qs G → FramesAnswer g (changed (written which v) f ∷ fs) r qs G
      env r qs G (inl h) =
          inl (h.0, (h.1.0, h.1.1, h.1.2, h.1.3, h.1.4, h.1.5, written-binding (extends-itself fs) which E v f.number f.binding h.1.0 h.1.2 is e h.1.6, h.1.7))
      env r qs G (inr h) = inr h

      cell : (other : Which) (X : DataTy) (n : ℕ) → HasCell other X n (f ∷ fs) → HasCell other X n (changed (written which v) f ∷ fs)
      cell other X n (inl h) = inl (h.0, written-holds which other E X v f.binding is e h.1)
      cell other X n (inr h) = inr h

      sequence : (n : ℕ) → HasSequence n (f ∷ fs) → HasSequence n (changed (written which v) f ∷ fs)
      sequence n (inl h) = inl (h.0, written-ints which E v f.binding is e h.1)
      sequence n (inr h) = inr h

      escape : (n : ℕ) → HasEscape n (f ∷ fs) → HasEscape n (changed (written which v) f ∷ fs)
      escape n (inl h) = inl (h.0, IsEscape-written which v f.binding h.1)
      escape n (inr h) = inr h

  -- an older one does
  extends-behind : (f : Frame) {fs gs : List Frame} → Extends fs gs → Extends (f ∷ fs) (f ∷ gs)
  extends-behind f {fs = fs} {gs = gs} x = record { env = env; cell = cell; sequence = sequence; escape = escape; bound = bound }
    where
      bound : (r : Option ℕ) (w : List BinderKind) → AreBoundBy (f ∷ fs) r w → AreBoundBy (f ∷ gs) r w
      bound r w (inl h) = inl (h.0, (h.1.0, h.1.1, h.1.2, h.1.3, x.bound f.around h.1.1 h.1.4))
      bound r w (inr h) = inr (h.0, x.bound r w h.1)

      env : (r : Option ℕ) (qs : List Tree) (G : List PlainPaths) → FramesAnswer g (f ∷ fs) r qs G → FramesAnswer g (f ∷ gs) r qs G
      env r qs G (inl h) =
          inl (h.0, (h.1.0, h.1.1, h.1.2, h.1.3, h.1.4, h.1.5, binding-extends x f.number f.binding h.1.0 h.1.2 h.1.6, x.env f.around h.1.1 h.1.3 h.1.7))
      env r qs G (inr h) = inr (h.0, x.env r qs G h.1)

      cell : (which : Which) (X : DataTy) (n : ℕ) → HasCell which X n (f ∷ fs) → HasCell which X n (f ∷ gs)
      cell which X n (inl h) = inl h
      cell which X n (inr h) = inr (h.0, x.cell which X n h.1)

      sequence : (n : ℕ) → HasSequence n (f ∷ fs) → HasSequence n (f ∷ gs)
      sequence n (inl h) = inl h
      sequence n (inr h) = inr (h.0, x.sequence n h.1)

      escape : (n : ℕ) → HasEscape n (f ∷ fs) → HasEscape n (f ∷ gs)
      escape n (inl h) = inl h
      escape n (inr h) = inr (h.0, x.escape n h.1)

  pub extends-written : (which : Which) (E : DataTy) (n : ℕ) (v : Datum) (fs : List Frame) → datum_atom v ≡ data_atom E → HasCell which E n fs →
      Extends fs (with_binding n (written which v) fs)
  extends-written which E n v [] e h = absurd h
  extends-written which E n v (f ∷ fs) e (inl h) =
      subst (Extends (f ∷ fs)) (sym (with_binding-here n (written which v) f fs h.0)) (written-here which E v f fs h.1 e)
  extends-written which E n v (f ∷ fs) e (inr h) =
      let l = h.0 in
      subst (Extends (f ∷ fs)) (sym (with_binding-newer n (written which v) f fs (λ q. omega arith))) (extends-behind f (extends-written which E n v fs e h.1))

  -- ---- what frames stand for is closed

  thunk-shut : (fs : List Frame) → ((r : Option ℕ) (qs : List Tree) (G : List PlainPaths) → FramesAnswer g fs r qs G → AllShut qs) →
      (t : Thunk) (q : Tree) (D : PlainPaths) → ThunkAnswers g fs t q D → Shut q
  thunk-shut fs ih (source k r) q D h = subst Shut (sym h.7) (shut-closed_by h.0 h.1 (ih r h.1 h.2 h.5))
  thunk-shut fs ih (datum v) q D h = value-shut q v (constant-value q v h.0)
  thunk-shut fs ih (cell_of n) q D h = subst Shut (sym h.2) (λ n r. refl)
  thunk-shut fs ih (jump_of n) q D h = subst Shut (sym h.1) (λ n r. refl)
  thunk-shut fs ih (sequence_of n) q D h = subst Shut (sym h.1) (λ n r. refl)

  binding-shut : (fs : List Frame) → ((r : Option ℕ) (qs : List Tree) (G : List PlainPaths) → FramesAnswer g fs r qs G → AllShut qs) →
      (n : ℕ) (b : Binding) (q : Tree) (D : PlainPaths) → BindingAnswers g fs n b q D → Shut q
  binding-shut fs ih n (to_thunk t) q D h = thunk-shut fs ih t q D h
  binding-shut fs ih n (to_cell v) q D h = subst Shut (sym h.2) (λ n r. refl)
  binding-shut fs ih n to_escape q D h = subst Shut (sym h.1) (λ n r. refl)
  binding-shut fs ih n (to_sequence c) q D h = subst Shut (sym h.1) (λ n r. refl)

  pub env-shut : (fs : List Frame) (r : Option ℕ) (qs : List Tree) (G : List PlainPaths) → FramesAnswer g fs r qs G → AllShut qs
  env-shut [] r qs G e = subst AllShut (sym e.1) tt
  env-shut (f ∷ fs) r qs G (inl e) =
      subst AllShut (sym e.1.4) (binding-shut fs (env-shut fs) f.number f.binding e.1.0 e.1.2 e.1.6, env-shut fs f.around e.1.1 e.1.3 e.1.7)
  env-shut (f ∷ fs) r qs G (inr e) = env-shut fs r qs G e.1

  -- ---- what is named is found

  pub env-listed : (fs : List Frame) (r : Option ℕ) (qs : List Tree) (G : List PlainPaths) → FramesAnswer g fs r qs G → is_listed r fs ≡ true
  env-listed [] r qs G e = ap (λ (x : Option ℕ). is_listed x []) e.0
  env-listed (f ∷ fs) r qs G (inl e) = ap (λ (t : Bool). cond t true (is_listed r fs)) (named-itself r f.number e.0)
  env-listed (f ∷ fs) r qs G (inr e) = ap (λ (t : Bool). cond t true (is_listed r fs)) e.0 ∙ env-listed fs r qs G e.1

  -- what a frame hands on stands for what its binding does
  handed : (f : Frame) (fs : List Frame) (b : Binding) (q : Tree) (D : PlainPaths) → f.binding ≡ b → Below f.number fs → BindingAnswers g fs f.number b q D →
      ThunkAnswers g (f ∷ fs) (handed_on f.number b) q D
  handed f fs (to_thunk t) q D e h r = thunk-extends (extends-newer f fs h) t q D r
  handed f fs (to_cell v) q D e h r = (r.0, r.1, r.2, inl (refl, subst (λ (x : Binding). HoldsDatum own r.1 x) (sym e) r.3), r.4)
  handed f fs to_escape q D e h r = (r.0, r.1, inl (refl, subst (λ (x : Binding). IsEscape x) (sym e) tt), r.2)
  handed f fs (to_sequence c) q D e h r = (r.0, r.1, r.2, inl (refl, subst (λ (x : Binding). HoldsInts x) (sym e) r.3), r.4)

  -- the frame of variable j, and what it hands on
  abbrev pub Found : List Frame → ℕ → Option ℕ → List Tree → List PlainPaths → Place → Type 0
  Found fs j r qs G at = (f : Frame) × (frame_outside fs j r ≡ Some f) × ThunkAnswers g fs (handed_on f.number f.binding) (phrase_at qs j at) (paths_at G j)

  found-here : (f : Frame) (fs : List Frame) (r : Option ℕ) (q : Tree) (rest : List Tree) (D : PlainPaths) (H : List PlainPaths) (at : Place) → r ≡ Some f.number →
      Below f.number fs → BindingAnswers g fs f.number f.binding q D → ((j : ℕ) → j < length H → Found fs j f.around rest H at) →
      (j : ℕ) → j < length (D ∷ H) → Found (f ∷ fs) j r (q ∷ rest) (D ∷ H) at
  found-here f fs r q rest D H at e h b ih zero l =
      (f, ap (λ (t : Bool). cond t (Some f) (frame_outside fs 0 r)) (named-itself r f.number e), handed f fs f.binding q D refl h b)
  found-here f fs r q rest D H at e h b ih (suc j) l =
      let x = ih j (omega arith) in (
        x.0,
        ap (λ (t : Bool). cond t (frame_outside fs j f.around) (frame_outside fs (suc j) r)) (named-itself r f.number e) ∙ x.1,
        thunk-extends (extends-newer f fs h) (handed_on x.0.number x.0.binding) (phrase_at rest j at) (paths_at H j) x.2,
      )

  pub variable-found : (fs : List Frame) (b j : ℕ) (r : Option ℕ) (qs : List Tree) (G : List PlainPaths) (at : Place) → Below b fs → FramesAnswer g fs r qs G →
      j < length G → Found fs j r qs G at
  variable-found [] b j r qs G at h e l = let none : length G ≡ 0 = ap length e.2 in absurd (omega arith)
  variable-found (f ∷ fs) b j r qs G at h (inl e) l =
      subst (λ (ps : List Tree). Found (f ∷ fs) j r ps G at) (sym e.1.4)
      (subst (λ (H : List PlainPaths). Found (f ∷ fs) j r (e.1.0 ∷ e.1.1) H at) (sym e.1.5)
      (found-here f fs r e.1.0 e.1.1 e.1.2 e.1.3 at e.0 h.1 e.1.6 (λ i k. variable-found fs f.number i f.around e.1.1 e.1.3 at h.1 e.1.7 k) j
      (let long : length G ≡ length (e.1.2 ∷ e.1.3) = ap length e.1.5 in omega arith)))
  variable-found (f ∷ fs) b j r qs G at h (inr e) l =
      let x = variable-found fs f.number j r qs G at h.1 e.1 l in (
        x.0,
        ap (λ (t : Bool). cond t (from_frame j f (λ i. frame_outside fs i f.around)) (frame_outside fs j r)) e.0 ∙ x.1,
        thunk-extends (extends-newer f fs h.1) (handed_on x.0.number x.0.binding) (phrase_at qs j at) (paths_at G j) x.2,
      )

  -- paths that are each above one
  pub thunk-above : (fs : List Frame) (t : Thunk) (q : Tree) (D E : PlainPaths) → Above E (λ P. HasBelow D P) → ThunkAnswers g fs t q D → ThunkAnswers g fs t q E
  thunk-above fs (source k r) q D E up h = (h.0, h.1, h.2, h.3, h.4, h.5, λ P some. h.6 P (up P some), h.7)
  thunk-above fs (datum v) q D E up h = (h.0, h.1, (λ P some. h.2 P (up P some)), h.3)
  thunk-above fs (cell_of n) q D E up h = (h.0, h.1, h.2, h.3, λ P some. h.4 P (up P some))
  thunk-above fs (jump_of n) q D E up h = (h.0, h.1, h.2, λ P some. h.3 P (up P some))
  thunk-above fs (sequence_of n) q D E up h = (h.0, h.1, h.2, h.3, λ P some. h.4 P (up P some))
