-- A datum and a finished command meet the context that takes them, and a sequence is filled.
use Rattle.std.proofs.Common.{ℕ, zero, suc, ◌+◌, ◌<◌, ◌≤◌, ◌≡◌, pos, negsuc, Bool, true, false, cond, nat_eq, nat_lt, List, [], ◌∷◌, length, replicate, Option, Some, slice_get, refl, sym, ap, ap₂, ◌∙◌, subst, inl, arith, eq-eqb, ltb-false, ltb-true}
use Rattle.std.proofs.lemmas.List.{replicate_more}
use Rattle.fy_base.specs.declared.data.Place.{Place}
use Rattle.fy_base.specs.declared.data.Datum.{Datum}
use Rattle.fy_base.specs.declared.data.Datum.TheVariants as datum
use Rattle.fy_base.specs.declared.data.BinOp.{BinOp}
use Rattle.fy_base.specs.declared.data.BinOp.TheVariants.{And, Or}
use Rattle.fy_base.specs.declared.data.PutKind.{PutKind}
use Rattle.fy_base.specs.declared.data.PutKind.TheVariants as put_kind
use Rattle.fy_base.specs.declared.data.FaultKind.TheVariants.{Range}
use Rattle.fy_base.specs.declared.arithmetic.Applied.{Applied}
use Rattle.fy_base.specs.declared.arithmetic.Applied.TheVariants.{Gives, Faults, NoSense}
use Rattle.fy_base.specs.Arithmetic.{unary_result, binary_result, written_text}
use Rattle.fy_types.specs.declared.types.Atom.{Atom}
use Rattle.fy_types.specs.declared.types.Atom.TheVariants as atoms
use Rattle.fy_types.specs.Paths.{PlainPath, end, paths}
use Rattle.fy_phrase.specs.declared.phrase.DataTy.{DataTy}
use Rattle.fy_phrase.specs.declared.phrase.DataTy.TheVariants as data_type
use Rattle.fy_phrase.specs.declared.phrase.MarkKind.TheVariants as marks
use Rattle.fy_phrase.specs.Tree.{Tree, Trees, no_trees, and_tree, lit, skip, mark}
use Rattle.fy_phrase.specs.Closing.{closed_with}
use Rattle.fy_phrase.specs.Contexts.{CopyContext, op_r, store_c, body_c, drop_c, fill_c, Pushed}
use Rattle.fy_phrase.specs.Copy.{Content, CopyState, CopyMove, Row, single, several, element, copy_step, content_of, with_content, lengthened, store_after, part_at}
use Rattle.fy_phrase.specs.Copy as copy
use Rattle.fy_derive.specs.Atoms.{data_atom, acceptor_atom, cell_type, sequence_type, datum_atom, unary_atom, takes, binary_atom, put_atom}
use Rattle.fy_derive.proofs.PathTyping.{IsRun}
use Rattle.fy_derive.proofs.Asking.{datum_asked, command_asked, run_asked}
use Rattle.fy_derive.proofs.StateTyping.{ints-zeros}
use Rattle.fy_derive.proofs.OperatorTypes.{ResultIs, unary-typed, binary-typed}
use Rattle.pe_code.specs.declared.code.PeItem.{PeItem}
use Rattle.pe_machine.specs.States.{Pointer, to_cell, Sequence, to_sequence, Frame, code_at, value, completed, Wanted, PeContext, Held, PeState, oldest, sequence_at}
use Rattle.pe_machine.specs.Step.{PeMove, focused, pushed, operated, left_meets, chosen, parts_at, focused_if_some, indexed, written, stored, counted, cell_entered, element_picked, sticks, datum_meets, one_more, bound_filled, datum_under, datum_focused, step_at, pe_step, completion_meets, answered, faults}
use Rattle.pe_right.specs.Closing.{closed_by}
use Rattle.pe_right.specs.ReadsBack.{cells_in}
use Rattle.pe_right.proofs.ClosingLemmas.{closed_with-more}
use Rattle.pe_right.proofs.FrameLemmas.{Below, Below-oldest, oldest-itself}
use Rattle.pe_right.proofs.AnswerLemmas.{end-same}
use Rattle.pe_right.proofs.Invariants.{Compiled, FramesAnswer, CodeAnswers, BodyAnswers, EachCodeAnswers, ContextTakes, unary_operand, left_operand, right_operand, condition, index, first_command, assigned_value, acceptor, loop_test, loop_body, endless_body, first_value, cells_wanted, element_wanted, cell_body, put_datum, escape_body, ContextsTake, Behind, IndexKnown, HasSequence, HasCell, wanted_atom, Fills}
use Rattle.pe_right.specs.Entered.{a_cell, another}
use Rattle.pe_right.proofs.NodeLemmas.{body-bound}
use Rattle.pe_right.proofs.Growing.{env-shut}
use Rattle.pe_right.proofs.ContextLemmas.{held-asked, contexts-pushed, left_store}
use Rattle.pe_right.proofs.CellLemmas.{IsUse, sequence-found, cell-followed}
use Rattle.pe_right.proofs.Moves.{focus-step, rank-two, no_step, and_step, fills, earlier, IsFollowed, by_moves, puts_text, faults_at, one_step, pushed-simulates}

module _ (g : Compiled) where
  -- ---- what follows a datum

  code_next : (p : Pointer) (q : Tree) (P : PlainPath) (s : PeState) (c d : CopyState) → copy_step d ≡ copy.focused q c → CodeAnswers g s.frames p q P → Behind g s c P →
      IsFollowed g 0 2 d (focused (code_at p) s)
  code_next p q P s c d e a b = one_step g e (omega arith) (P, (a, rank-two a.1), b)

  value_next : (v : Datum) (at : Place) (s : PeState) (c d : CopyState) → copy_step d ≡ copy.focused (lit v at) c → Behind g s c (end (datum_atom v)) →
      IsFollowed g 0 2 d (focused (value v) s)
  value_next v at s c d e b = one_step g e (omega arith) (end (datum_atom v), (at, refl, refl), b)

  completion_next : (at : Place) (s : PeState) (c d : CopyState) → copy_step d ≡ copy.focused (skip at) c → Behind g s c (end atoms.Comm) →
      IsFollowed g 0 2 d (focused completed s)
  completion_next at s c d e b = one_step g e (omega arith) (end atoms.Comm, (at, refl, refl), b)

  operated-followed : (x : Applied) (a : Atom) (at : Place) (s : PeState) (c d : CopyState) → copy_step d ≡ copy.operated x at c → ResultIs a x → Behind g s c (end a) →
      IsFollowed g 0 2 d (operated x at s)
  operated-followed (Gives v) a at s c d e r b = value_next v at s c d e (subst (λ (A : Atom). Behind g s c (end A)) (sym r) b)
  operated-followed (Faults kind) a at s c d e r b = faults_at (omega arith) e
  operated-followed NoSense a at s c d e r b = absurd r

  right_next : (op : BinOp) (D : DataTy) (v : Datum) (p : Pointer) (q : Tree) (at : Place) (s : PeState) (c d : CopyState) →
      copy_step d ≡ copy.pushed (op_r op v at) q c → takes op D ≡ true → datum_atom v ≡ data_atom D → CodeAnswers g s.frames p q (end (data_atom D)) →
      Behind g s c (end (binary_atom op)) → IsFollowed g 0 2 d (pushed (op_r op v at) p s)
  right_next op D v p q at s c d e t i a b =
      one_step g e (omega arith)
      (pushed-simulates g s c (end (data_atom D)) (end (binary_atom op)) (op_r op v at) (op_r op v at) p q refl a (right_operand D t i) b)

  left-followed : (op : BinOp) (D : DataTy) (v : Datum) (here : Place) (p : Pointer) (q : Tree) (at : Place) (s : PeState) (c d : CopyState) →
      copy_step d ≡ copy.left_meets op v here q at c → takes op D ≡ true → datum_atom v ≡ data_atom D → CodeAnswers g s.frames p q (end (data_atom D)) →
      Behind g s c (end (binary_atom op)) → IsFollowed g 0 2 d (left_meets op v p at s)
  left-followed And data_type.Bool (datum.Bool true) here p q at s c d e t i a b = code_next p q (end atoms.Bool) s c d e a b
  left-followed And data_type.Bool (datum.Bool false) here p q at s c d e t i a b = value_next (datum.Bool false) here s c d e b
  left-followed And D v here p q at s c d e t i a b = absurd cc
  left-followed Or data_type.Bool (datum.Bool true) here p q at s c d e t i a b = value_next (datum.Bool true) here s c d e b
  left-followed Or data_type.Bool (datum.Bool false) here p q at s c d e t i a b = code_next p q (end atoms.Bool) s c d e a b
  left-followed Or D v here p q at s c d e t i a b = absurd cc
  left-followed op D v here p q at s c d e t i a b = right_next op D v p q at s c d e t i a b

  chosen-followed : (v : Datum) (m n : PeMove) (x y : CopyMove) (d : CopyState) → copy_step d ≡ copy.chosen v x y → datum_atom v ≡ atoms.Bool →
      (copy_step d ≡ x → IsFollowed g 0 2 d m) → (copy_step d ≡ y → IsFollowed g 0 2 d n) → IsFollowed g 0 2 d (chosen v m n)
  chosen-followed (datum.Bool true) m n x y d e i h k = h e
  chosen-followed (datum.Bool false) m n x y d e i h k = k e
  chosen-followed v m n x y d e i h k = absurd cc

  part-followed : (ys : List ℕ) (parts : Trees) (n : ℕ) (r : Option ℕ) (at : Place) (P : PlainPath) (s : PeState) (c d : CopyState) →
      copy_step d ≡ copy.focused_if_some (part_at parts n) at c → EachCodeAnswers g s.frames r ys parts P → Behind g s c P →
      IsFollowed g 0 2 d (focused_if_some (slice_get ys n) r at s)
  part-followed [] no_trees n r at P s c d e each b = faults_at (omega arith) e
  part-followed (y ∷ ys) (and_tree q qs) zero r at P s c d e each b = code_next (record { address = y; frame = r }) q P s c d e each.0 b
  part-followed (y ∷ ys) (and_tree q qs) (suc n) r at P s c d e each b = part-followed ys qs n r at P s c d e each.1 b
  part-followed [] (and_tree q qs) n r at P s c d e each b = absurd each
  part-followed (y ∷ ys) no_trees n r at P s c d e each b = absurd each

  indexed-followed : (v : Datum) (ys : List ℕ) (parts : Trees) (r : Option ℕ) (at : Place) (P : PlainPath) (s : PeState) (c d : CopyState) →
      copy_step d ≡ copy.indexed v parts at c → datum_atom v ≡ atoms.Int → EachCodeAnswers g s.frames r ys parts P → Behind g s c P → IsFollowed g 0 2 d (indexed v ys r at s)
  indexed-followed (datum.Int (pos n)) ys parts r at P s c d e i each b = part-followed ys parts n r at P s c d e each b
  indexed-followed (datum.Int (negsuc n)) ys parts r at P s c d e i each b = faults_at (omega arith) e
  indexed-followed v ys parts r at P s c d e i each b = absurd cc

  written-followed : (kind : PutKind) (v : Datum) (at : Place) (s : PeState) (c d : CopyState) → copy_step d ≡ copy.written (written_text kind v) at c →
      datum_atom v ≡ put_atom kind → Behind g s c (end atoms.Comm) → IsFollowed g 0 2 d (written (written_text kind v) s)
  written-followed put_kind.Int (datum.Int n) at s c d e i b = puts_text (omega arith) e (end atoms.Comm, (at, refl, refl), b)
  written-followed put_kind.Char (datum.Char n) at s c d e i b = puts_text (omega arith) e (end atoms.Comm, (at, refl, refl), b)
  written-followed put_kind.Bool (datum.Bool t) at s c d e i b = puts_text (omega arith) e (end atoms.Comm, (at, refl, refl), b)
  written-followed kind v at s c d e i b = absurd cc

  -- a new cell
  stored-followed : (v : Datum) (n : ℕ) (p : Pointer) (body : Tree) (at : Place) (D : DataTy) (P : PlainPath) (s : PeState) (c d : CopyState) →
      copy_step d ≡ copy.stored v n body at c → datum_atom v ≡ data_atom D → IsRun P → BodyAnswers g a_cell s.frames p body (paths (cell_type D)) P → Behind g s c P →
      IsFollowed g 0 2 d (stored v n p s)
  stored-followed v n p body at D P s c d e i is a b =
      let new : Frame = record { number = s.next; depth = n; binding = to_cell v; around = p.frame } in
      let m : Tree = mark (marks.Cell c.next) at in
      let env : FramesAnswer g (new ∷ s.frames) (Some s.next) (m ∷ a.2) (paths (cell_type D) ∷ a.3) =
      inl (refl, (m, a.2, paths (cell_type D), a.3, refl, refl, (at, D, ap (λ (k : ℕ). mark (marks.Cell k) at) b.3, i, λ Q some. some), a.7)) in
      let shut : closed_with body m ≡ closed_by 0 (m ∷ a.2) a.1 =
      ap (λ (q : Tree). closed_with q m) a.8 ∙ closed_with-more a.1 m a.2 (env-shut g s.frames p.frame a.2 a.3 a.7) in
      one_step g e (omega arith) (
        P,
        ((a.0, a.1, m ∷ a.2, paths (cell_type D) ∷ a.3, body-bound g new tt a.4, a.5, a.6, env, shut), rank-two a.1),
        (
          contexts-pushed g (new ∷ s.frames) s.frames (length s.frames) (drop_c s.next) (drop_c c.next) s.load c.load s.contexts c.contexts P P (oldest-itself new s.frames)
              (omega arith) refl b.4 (subst (λ (k : ℕ). ContextTakes g s.frames (drop_c s.next) (drop_c k) P P) (sym b.3) (cell_body is)) b.0,
          ap (λ (k : ℕ). (record { number = k; content = single v }) ∷ c.store) b.3 ∙ ap (λ (cells : List Row). (record { number = s.next; content = single v }) ∷ cells) b.1,
          (omega arith, b.2),
          ap (λ (k : ℕ). k + 1) b.3,
          ap (λ (k : ℕ). k + 8 + (8 + n)) b.4,
        ),
      )

  -- a new sequence, which has no cells yet
  counted-followed : (v : Datum) (n : ℕ) (p : Pointer) (body : Tree) (at : Place) (P : PlainPath) (s : PeState) (c d : CopyState) → copy_step d ≡ copy.counted v n body at c →
      datum_atom v ≡ atoms.Int → IsRun P → IndexKnown g → BodyAnswers g another s.frames p body (paths sequence_type) P → Behind g s c P → IsFollowed g 0 2 d (counted v n p at s)
  counted-followed (datum.Int (pos m)) n p body at P s c d e i is known a b = by_moves (fills (and_step e no_step) (omega arith) (omega arith) (record {
    made = 0;
    wanted = m;
    few = omega arith;
    depth = n;
    body = p;
    phrase = body;
    place = at;
    base = s.load;
    behind = s.contexts;
    copy_behind = c.contexts;
    focus = refl;
    contexts = refl;
    here = at;
    copy_focus = refl;
    copy_contexts = ap₂ (λ (l : ℕ) (k : ℕ). (record { base = l; context = fill_c k m n body at }) ∷ c.contexts) b.4 b.3;
    path = P;
    run = is;
    known = known;
    answers = a;
    takes_path = b.0;
    store = ap₂ (λ (k : ℕ) (rows : List Row). (record { number = k; content = several at [] }) ∷ rows) b.3 b.1;
    below = b.2;
    next = b.3;
    load = ap (λ (l : ℕ). l + 8) b.4;
  }))
  counted-followed (datum.Int (negsuc m)) n p body at P s c d e i is known a b = faults_at (omega arith) e
  counted-followed v n p body at P s c d e i is known a b = absurd cc

  -- the cell that an index picks
  wanted-use : (w : Wanted) → IsUse w.is_written data_type.Int (end (wanted_atom w.is_written))
  wanted-use w = by w.is_written
    where
      by : (b : Bool) → IsUse b data_type.Int (end (wanted_atom b))
      by true = refl
      by false = refl

  tested-followed : (i : ℕ) (w : Wanted) (q : Sequence) (here : Place) (s : PeState) (c d : CopyState) (b : Bool) →
      copy_step d ≡ cond b (copy.focused (mark (marks.Element w.number i) here) c) (copy.faults Range q.place) → (b ≡ true → HasCell (element i) data_type.Int w.number s.frames) →
      Behind g s c (end (wanted_atom w.is_written)) → IsFollowed g 0 2 d (cond b (cell_entered w.is_written (element i) w.number s) (faults Range q.place))
  tested-followed i w q here s c d true e has b =
      by_moves (earlier g {r = 2} {b = 1} e
      (cell-followed g w.is_written (element i) data_type.Int w.number here (end (wanted_atom w.is_written)) s (copy.focus_on (mark (marks.Element w.number i) here) c) (omega arith) refl (has refl)
      (wanted-use w) b))
  tested-followed i w q here s c d false e has b = faults_at (omega arith) e

  picked-followed : (v : Datum) (w : Wanted) (q : Sequence) (here : Place) (s : PeState) (c d : CopyState) →
      copy_step d ≡ copy.element_picked v w.number (Some (several q.place q.values)) here c → datum_atom v ≡ atoms.Int →
      ((i : ℕ) → i < length q.values → HasCell (element i) data_type.Int w.number s.frames) → Behind g s c (end (wanted_atom w.is_written)) →
      IsFollowed g 0 2 d (element_picked v w (Some q) s)
  picked-followed (datum.Int (pos i)) w q here s c d e t has b =
      tested-followed i w q here s c d (nat_lt i (length q.values)) e (λ f. has i (ltb-true i (length q.values) f)) b
  picked-followed (datum.Int (negsuc i)) w q here s c d e t has b = faults_at (omega arith) e
  picked-followed v w q here s c d e t has b = absurd cc

  element-followed : (v : Datum) (w : Wanted) (here : Place) (s : PeState) (c d : CopyState) → copy_step d ≡ copy.element_picked v w.number (content_of w.number c.store) here c →
      datum_atom v ≡ atoms.Int → HasSequence w.number s.frames → Behind g s c (end (wanted_atom w.is_written)) →
      IsFollowed g 0 2 d (element_picked v w (sequence_at w.number s.frames) s)
  element-followed v w here s c d e t h b =
      let x = sequence-found w.number s.frames h in
      let step = e ∙ ap (λ (rows : List Row). copy.element_picked v w.number (content_of w.number rows) here c) b.1
      ∙ ap (λ (o : Option Content). copy.element_picked v w.number o here c) x.2 in
      subst (λ (o : Option Sequence). IsFollowed g 0 2 d (element_picked v w o s)) (sym x.1) (picked-followed v w x.0 here s c d step t x.3 b)

  -- ---- a datum

  pub datum-followed : (v : Datum) (here : Place) (k : PeContext) (x : CopyContext) (P Q : PlainPath) (s : PeState) (c d : CopyState) →
      copy_step d ≡ copy.datum_meets v here x c → P ≡ end (datum_atom v) → ContextTakes g s.frames k x P Q → ContextsTake g s.frames s.contexts c.contexts Q →
      store_after x c.store ≡ cells_in s.frames → Below s.next s.frames → c.next ≡ s.next → c.load ≡ s.load → IsFollowed g 0 2 d (datum_meets g.code v k s)
  datum-followed v here k x P Q s c d e i (unary_operand {op = op} {at = at}) t st lo nx ld =
      operated-followed (unary_result op v) (unary_atom op) at s c d e (unary-typed op v (sym (end-same refl i))) (t, st, lo, nx, ld)
  datum-followed v here k x P Q s c d e i (left_operand {op = op} {c = p} {q = q} {at = at} D o a) t st lo nx ld =
      left-followed op D v here p q at s c d e o (sym (end-same refl i)) a (t, st, lo, nx, ld)
  datum-followed v here k x P Q s c d e i (right_operand {op = op} {u = u} {at = at} D o f) t st lo nx ld =
      operated-followed (binary_result op u v) (binary_atom op) at s c d e (binary-typed op D u v o f (sym (end-same refl i))) (t, st, lo, nx, ld)
  datum-followed v here k x P Q s c d e i (condition {c = p} {d = r} {q = q} {r = q'} h l) t st lo nx ld =
      chosen-followed v (focused (code_at p) s) (focused (code_at r) s) (copy.focused q c) (copy.focused q' c) d e (sym (end-same refl i))
      (λ f. code_next p q Q s c d f h (t, st, lo, nx, ld)) (λ f. code_next r q' Q s c d f l (t, st, lo, nx, ld))
  datum-followed v here k x P Q s c d e i (index {c = p} {parts = parts} {at = at} h) t st lo nx ld =
      subst (λ (o : Option PeItem). IsFollowed g 0 2 d (indexed v (parts_at o) p.frame at s)) (sym h.1)
      (indexed-followed v (parts_at (Some h.0)) parts p.frame at Q s c d e (sym (end-same refl i)) h.2 (t, st, lo, nx, ld))
  datum-followed v here k x P Q s c d e i (assigned_value {c = p} {q = q} D h) t st lo nx ld =
      one_step g e (omega arith)
      (pushed-simulates g s c (end (acceptor_atom D)) Q (store_c v) (store_c v) p q refl h (acceptor D (sym (end-same refl i))) (t, st, lo, nx, ld))
  datum-followed v here k x P Q s c d e i (loop_test {c = p} {d = r} {q = q} {r = q'} h l) t st lo nx ld =
      chosen-followed v (pushed (body_c p) r s) (focused completed s) (copy.pushed (body_c q) q' c) (copy.focused (skip here) c) d e (sym (end-same refl i))
      (λ f. one_step g f (omega arith) (pushed-simulates g s c (end atoms.Comm) (end atoms.Comm) (body_c p) (body_c q) r q' refl l (loop_body h) (t, st, lo, nx, ld)))
      (λ f. completion_next here s c d f (t, st, lo, nx, ld))
  datum-followed v here k x P Q s c d e i (first_value {d = n} {c = p} {b = b} D is h) t st lo nx ld =
      stored-followed v n p b here D Q s c d e (sym (end-same refl i)) is h (t, st, lo, nx, ld)
  datum-followed v here k x P Q s c d e i (cells_wanted {d = n} {c = p} {b = b} {at = at} is known h) t st lo nx ld =
      counted-followed v n p b at Q s c d e (sym (end-same refl i)) is known h (t, st, lo, nx, ld)
  datum-followed v here k x P Q s c d e i (element_wanted {w = w} h) t st lo nx ld =
      element-followed v w here s c d e (sym (end-same refl i)) h (t, st, lo, nx, ld)
  datum-followed v here k x P Q s c d e i (put_datum {kind = kind}) t st lo nx ld = written-followed kind v here s c d e (sym (end-same refl i)) (t, st, lo, nx, ld)
  datum-followed v here k x P Q s c d e i h t st lo nx ld = let f = sym (datum_asked v i) ∙ held-asked g h in absurd cc

  -- ---- a finished command

  completion-followed : (here : Place) (k : PeContext) (x : CopyContext) (P Q : PlainPath) (s : PeState) (c d : CopyState) →
      copy_step d ≡ copy.skip_meets here x c → P ≡ end atoms.Comm → ContextTakes g s.frames k x P Q → ContextsTake g s.frames s.contexts c.contexts Q →
      store_after x c.store ≡ cells_in s.frames → Below s.next s.frames → c.next ≡ s.next → c.load ≡ s.load → IsFollowed g 0 2 d (completion_meets k s)
  completion-followed here k x P Q s c d e i (first_command {c = p} {q = q} h) t st lo nx ld = code_next p q Q s c d e h (t, st, lo, nx, ld)
  completion-followed here k x P Q s c d e i (loop_body {c = p} {q = q} h) t st lo nx ld = code_next p q Q s c d e h (t, st, lo, nx, ld)
  completion-followed here k x P Q s c d e i (endless_body {c = p} {q = q} h) t st lo nx ld = code_next p q Q s c d e h (t, st, lo, nx, ld)
  completion-followed here k x P Q s c d e i (cell_body {n = n} is) t st lo nx ld =
      one_step g e (omega arith) (end atoms.Comm, (here, refl, refl), (subst (λ (R : PlainPath). ContextsTake g s.frames s.contexts c.contexts R) i t, st, lo, nx, ld))
  completion-followed here k x P Q s c d e i (escape_body {n = n}) t st lo nx ld = completion_next here s c d e (t, st, lo, nx, ld)
  completion-followed here k x P Q s c d e i h t st lo nx ld = let f = sym (command_asked i) ∙ held-asked g h in absurd cc

  -- ---- the newest context is taken off

  abbrev Meets : (CopyContext → CopyState → CopyMove) → (PeContext → PeState → PeMove) → PlainPath → Type 0
  Meets to meets P =
      (k : PeContext) (x : CopyContext) (Q : PlainPath) (s : PeState) (c d : CopyState) → copy_step d ≡ to x c → ContextTakes g s.frames k x P Q →
      ContextsTake g s.frames s.contexts c.contexts Q → store_after x c.store ≡ cells_in s.frames → Below s.next s.frames → c.next ≡ s.next → c.load ≡ s.load → IsFollowed g 0 2 d (meets k s)

  answered-followed : (to : CopyContext → CopyState → CopyMove) (meets : PeContext → PeState → PeMove) (P : PlainPath) (cs : List Held) (xs : List (Pushed CopyContext))
      (s : PeState) (c d : CopyState) → copy_step d ≡ copy.answered to xs c → (cs ≡ [] → IsRun P → ⊥) → ContextsTake g s.frames cs xs P → c.store ≡ cells_in s.frames →
      Below s.next s.frames → c.next ≡ s.next → Meets to meets P → IsFollowed g 0 2 d (answered meets cs s)
  answered-followed to meets P [] [] s c d e apart t st lo nx f = absurd (apart refl t.0)
  answered-followed to meets P (k ∷ cs) (x ∷ xs) s c d e apart t st lo nx f =
      f k.context x.context t.3.0 (record s { contexts = cs; frames = oldest k.frames s.frames; load = k.base }) (record c { contexts = xs; load = x.base }) d e t.3.1 t.3.2
      (ap (λ (cells : List Row). store_after x.context cells) st ∙ left_store g k.frames s.frames t.3.1 t.2) (Below-oldest k.frames s.frames s.next lo) nx t.0
  answered-followed to meets P [] (x ∷ xs) s c d e apart t st lo nx f = absurd t
  answered-followed to meets P (k ∷ cs) [] s c d e apart t st lo nx f = absurd t

  -- no context that stands for one is that of a sequence which gets its cells, so a datum answers it
  under-answers : (v : Datum) (at : Place) (base : ℕ) (xs : List (Pushed CopyContext)) (c : CopyState) {fs : List Frame} {k : PeContext} {x : CopyContext} {P Q : PlainPath} →
      ContextTakes g fs k x P Q → copy.datum_under v at x base xs c ≡ copy.datum_meets v at x (record c { contexts = xs; load = base })
  under-answers v at base xs c escape_body = refl
  under-answers v at base xs c h = refl

  datum-answers : (v : Datum) (at : Place) (fs : List Frame) (cs : List Held) (xs : List (Pushed CopyContext)) (c : CopyState) (P : PlainPath) →
      ContextsTake g fs cs xs P → copy.datum_focused v at xs c ≡ copy.answered (copy.datum_meets v at) xs c
  datum-answers v at fs [] [] c P t = refl
  datum-answers v at fs (k ∷ cs) (x ∷ xs) c P t = under-answers v at x.base xs c t.3.1
  datum-answers v at fs [] (x ∷ xs) c P t = absurd t
  datum-answers v at fs (k ∷ cs) [] c P t = absurd t

  -- nor is one of the machine
  code-under : (v : Datum) (e : Held) (cs : List Held) (s : PeState) {fs : List Frame} {k : PeContext} {x : CopyContext} {P Q : PlainPath} →
      ContextTakes g fs k x P Q → datum_under g.code v k e cs s ≡ answered (datum_meets g.code v) (e ∷ cs) s
  code-under v e cs s escape_body = refl
  code-under v e cs s h = refl

  code-answers : (v : Datum) (fs : List Frame) (cs : List Held) (xs : List (Pushed CopyContext)) (s : PeState) (P : PlainPath) →
      ContextsTake g fs cs xs P → datum_focused g.code v cs s ≡ answered (datum_meets g.code v) cs s
  code-answers v fs [] [] s P t = refl
  code-answers v fs (k ∷ cs) (x ∷ xs) s P t = code-under v k cs s t.3.1
  code-answers v fs [] (x ∷ xs) s P t = absurd t
  code-answers v fs (k ∷ cs) [] s P t = absurd t

  -- a datum in focus
  pub value-followed : (v : Datum) (at : Place) (s : PeState) (c : CopyState) (P : PlainPath) → c.focus ≡ lit v at → P ≡ end (datum_atom v) → Behind g s c P →
      IsFollowed g 0 2 c (datum_focused g.code v s.contexts s)
  value-followed v at s c P e i b =
      subst (λ (m : PeMove). IsFollowed g 0 2 c m) (sym (code-answers v s.frames s.contexts c.contexts s P b.0))
      (answered-followed (copy.datum_meets v at) (datum_meets g.code v) P s.contexts c.contexts s c c
      (focus-step c (lit v at) e ∙ datum-answers v at s.frames s.contexts c.contexts c P b.0)
      (λ none is. let f = sym (datum_asked v i) ∙ run_asked is in cc) b.0 b.1 b.2 b.3 (λ k x Q u w d f h t st lo nx ld. datum-followed v at k x P Q u w d f i h t st lo nx ld))

  -- a finished command in focus, where a context is left
  pub finished-followed : (at : Place) (s : PeState) (c : CopyState) (P : PlainPath) → c.focus ≡ skip at → P ≡ end atoms.Comm → (s.contexts ≡ [] → ⊥) → Behind g s c P →
      IsFollowed g 0 2 c (answered completion_meets s.contexts s)
  finished-followed at s c P e i some b =
      answered-followed (copy.skip_meets at) completion_meets P s.contexts c.contexts s c c (focus-step c (skip at) e) (λ none is. some none) b.0 b.1 b.2 b.3
      (λ k x Q u w d f h t st lo nx ld. completion-followed at k x P Q u w d f i h t st lo nx ld)

  -- ---- a sequence is filled

  -- one cell more
  zeros-longer : (n k : ℕ) (at : Place) (rows : List Row) →
      with_content n lengthened ((record { number = n; content = several at (replicate k (datum.Int (pos 0))) }) ∷ rows)
      ≡ (record { number = n; content = several at (replicate (k + 1) (datum.Int (pos 0))) }) ∷ rows
  zeros-longer n k at rows =
      rw (eq-eqb n n refl) (ap (λ (vs : List Datum). (record { number = n; content = several at vs }) ∷ rows) (replicate_more k (datum.Int (pos 0))))

  more-followed : (s : PeState) (c : CopyState) (h : Fills g s c) → copy_step c ≡ copy.one_more s.next h.made h.here c → h.made < h.wanted →
      IsFollowed g 0 2 c (one_more h.made s)
  more-followed s c h e l = by_moves (fills (and_step e no_step) (omega arith) (omega arith) (record {
    made = h.made + 1;
    wanted = h.wanted;
    few = omega arith;
    depth = h.depth;
    body = h.body;
    phrase = h.phrase;
    place = h.place;
    base = h.base;
    behind = h.behind;
    copy_behind = h.copy_behind;
    focus = refl;
    contexts = h.contexts;
    here = h.here;
    copy_focus = refl;
    copy_contexts = h.copy_contexts;
    path = h.path;
    run = h.run;
    known = h.known;
    answers = h.answers;
    takes_path = h.takes_path;
    store = ap (λ (rows : List Row). with_content s.next lengthened rows) h.store ∙ zeros-longer s.next h.made h.place (cells_in s.frames);
    below = h.below;
    next = h.next;
    load = ap (λ (k : ℕ). k + 1) h.load;
  }))

  -- all cells are there, and a frame holds them
  all-followed : (s : PeState) (c : CopyState) (h : Fills g s c) →
      copy_step c ≡ copy.bound_filled s.next h.depth h.phrase h.place h.base h.copy_behind c → h.made ≡ h.wanted →
      IsFollowed g 0 2 c (bound_filled h.wanted h.depth h.body h.place (record { base = h.base; frames = length s.frames; context = fill_c s.next h.wanted h.depth h.body h.place }) h.behind s)
  all-followed s c h e full =
      let zeros : ℕ → List Datum = λ k. replicate k (datum.Int (pos 0)) in
      let new : Frame = record { number = s.next; depth = h.depth; binding = to_sequence (record { place = h.place; values = zeros h.wanted }); around = h.body.frame } in
      let m : Tree = mark (marks.Sequence s.next) h.place in
      let a = h.answers in
      let P = h.path in
      let env : FramesAnswer g (new ∷ s.frames) (Some s.next) (m ∷ a.2) (paths sequence_type ∷ a.3) =
      inl (refl, (m, a.2, paths sequence_type, a.3, refl, refl, (h.place, refl, h.known, ints-zeros h.wanted, λ Q some. some), a.7)) in
      let shut : closed_with h.phrase m ≡ closed_by 0 (m ∷ a.2) a.1 =
      ap (λ (q : Tree). closed_with q m) a.8 ∙ closed_with-more a.1 m a.2 (env-shut g s.frames h.body.frame a.2 a.3 a.7) in
      one_step g e (omega arith) (
        P,
        ((a.0, a.1, m ∷ a.2, paths sequence_type ∷ a.3, body-bound g new tt a.4, a.5, a.6, env, shut), rank-two a.1),
        (
          contexts-pushed g (new ∷ s.frames) s.frames (length s.frames) (drop_c s.next) (drop_c s.next) h.base h.base h.behind h.copy_behind P P (oldest-itself new s.frames)
              (omega arith) refl refl (cell_body h.run) h.takes_path,
          h.store ∙ ap (λ (k : ℕ). (record { number = s.next; content = several h.place (zeros k) }) ∷ cells_in s.frames) full,
          (omega arith, h.below),
          ap (λ (k : ℕ). k + 1) h.next,
          ap (λ (k : ℕ). k + (8 + h.depth)) h.load,
        ),
      )

  by_count : (k m : ℕ) (d : CopyState) (more all : PeMove) (copy_more copy_all : CopyMove) → k ≤ m →
      copy_step d ≡ cond (nat_lt k m) copy_more (cond (nat_eq k m) copy_all copy.sticks) → (copy_step d ≡ copy_more → k < m → IsFollowed g 0 2 d more) →
      (copy_step d ≡ copy_all → k ≡ m → IsFollowed g 0 2 d all) → IsFollowed g 0 2 d (cond (nat_lt k m) more (cond (nat_eq k m) all sticks))
  by_count k m d more all copy_more copy_all le e f h = test (nat_lt k m) refl e
    where
      test : (b : Bool) → nat_lt k m ≡ b → copy_step d ≡ cond b copy_more (cond (nat_eq k m) copy_all copy.sticks) →
          IsFollowed g 0 2 d (cond b more (cond (nat_eq k m) all sticks))
      test true t step = f step (ltb-true k m t)
      test false t step =
          let l = ltb-false k m t in
          let same : k ≡ m = omega arith in
          let full = eq-eqb k m same in
          subst (λ (b : Bool). IsFollowed g 0 2 d (cond b all sticks)) (sym full) (h (step ∙ ap (λ (b : Bool). cond b copy_all copy.sticks) full) same)

  -- a state in which a sequence is filled
  pub fills-followed : (s : PeState) (c : CopyState) → Fills g s c → IsFollowed g 0 2 c (pe_step g.code s)
  fills-followed s c h =
      let v : Datum = datum.Int (pos h.made) in
      let held : Held = record { base = h.base; frames = length s.frames; context = fill_c s.next h.wanted h.depth h.body h.place } in
      let here = ap (λ f. step_at g.code f s) h.focus ∙ ap (λ (cs : List Held). datum_focused g.code v cs s) h.contexts in
      let step = focus-step c (lit v h.here) h.copy_focus ∙ ap (λ (xs : List (Pushed CopyContext)). copy.datum_focused v h.here xs c) h.copy_contexts in
      subst (λ (m : PeMove). IsFollowed g 0 2 c m) (sym here)
      (by_count h.made h.wanted c (one_more h.made s) (bound_filled h.wanted h.depth h.body h.place held h.behind s) (copy.one_more s.next h.made h.here c)
      (copy.bound_filled s.next h.depth h.phrase h.place h.base h.copy_behind c) h.few step (λ e l. more-followed s c h e l) (λ e full. all-followed s c h e full))
