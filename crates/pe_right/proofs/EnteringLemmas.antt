-- A thunk is entered at a shape of its paths: code goes on, a datum is given, a cell gives its datum or takes another, a jump goes to its context, and a sequence takes an index, which is
-- entered before the cell that it picks, or gives its length.
use Rattle.std.proofs.Common.{ℕ, ◌+◌, ◌≤◌, ◌≡◌, ◌⊎◌, Bool, true, false, cond, List, [], ◌∷◌, length, Option, Some, pos, refl, sym, ap, ◌∙◌, subst, inl, inr, arith, eq-eqb}
use Rattle.std.proofs.lemmas.Bool.{cases_Bool}
use Rattle.fy_base.specs.declared.data.Place.{Place}
use Rattle.fy_base.specs.declared.data.Datum.{Datum}
use Rattle.fy_base.specs.declared.data.Datum.TheVariants as datum_kind
use Rattle.fy_types.specs.declared.types.Atom.TheVariants as atoms
use Rattle.fy_types.specs.Paths.{PlainPath, PlainPaths, end, call, pick, paths}
use Rattle.fy_types.specs.PathOrder.{HasBelow}
use Rattle.fy_phrase.specs.declared.phrase.DataTy.{DataTy}
use Rattle.fy_phrase.specs.declared.phrase.DataTy.TheVariants as data_type
use Rattle.fy_phrase.specs.declared.phrase.MarkKind.TheVariants as marks
use Rattle.fy_phrase.specs.Tree.{Tree, lit, skip, mark}
use Rattle.fy_phrase.specs.Contexts.{CopyContext, element_c, Pushed}
use Rattle.fy_phrase.specs.Copy.{Content, several, CopyState, CopyMove, Row, own, copy_step, content_of, store_after}
use Rattle.fy_phrase.specs.Copy as copy
use Rattle.fy_derive.specs.Atoms.{data_atom, acceptor_atom, sequence_type}
use Rattle.fy_derive.specs.Shapes.{a_call, erase}
use Rattle.fy_derive.specs.ShapeTables.{shape_at, HasPairOf}
use Rattle.fy_derive.proofs.Asking.{first_asked}
use Rattle.fy_derive.proofs.ContextSafety.{sequence-path}
use Rattle.pe_code.specs.Code.{entry_of}
use Rattle.pe_machine.specs.States.{Thunk, source, datum, cell_of, jump_of, sequence_of, Sequence, Frame, value, completed, Wanted, PeContext, Held, PeState, oldest, sequence_at}
use Rattle.pe_machine.specs.Step.{PeMove, goes, sticks, push, focused, taken, cell_entered, is_target, jumped, at_entry, if_listed, is_assignment, entered_plain, index_entered, index_meets, length_meets, Asked, a_cell, a_length, asked_at, sequence_asked, entered}
use Rattle.pe_right.specs.ReadsBack.{cells_in}
use Rattle.pe_right.proofs.FrameLemmas.{Below, Below-oldest, oldest-oldest, length-oldest, HasFrame-listed, HasFrame-escape, IsEscape, an_escape, marks_in, IsMarked}
use Rattle.pe_right.proofs.AnswerLemmas.{data-erase, acceptor-erase, cell-paths, has-pair}
use Rattle.pe_right.proofs.Invariants.{Compiled, HasCell, HasSequence, wanted_atom, marked, IndexKnown, ThunkAnswers, ContextTakes, procedure, selected, element_wanted, ContextsTake, Behind, Simulates}
use Rattle.pe_right.proofs.Growing.{env-listed, extends-oldest, thunk-extends}
use Rattle.pe_right.proofs.EntryLemmas.{entry-found, assignment-asked, value-asked, asked-read, asked-written, asked-length}
use Rattle.pe_right.proofs.ContextLemmas.{held-asked, contexts-taken, left_store, same_target, target_command, target_store, marked_behind}
use Rattle.pe_right.proofs.ConstantLemmas.{constant-value}
use Rattle.pe_right.proofs.Evaluating.{evaluated}
use Rattle.pe_right.proofs.Moves.{Steps, focus-step, rank-one, MovesIn, goes_on, extra, one_move, no_move, earlier, moves-weaker, pushed-behind}
use Rattle.pe_right.proofs.CellLemmas.{sequence-found, cell-followed}
use Rattle.pe_right.proofs.TakingLemmas.{call-apart, pick-apart}

module _ (g : Compiled) where
  -- ---- jumps

  abbrev Jumps : ℕ → Place → List Held → PeState → List (Pushed CopyContext) → CopyState → Type 0
  Jumps n at cs s xs c = (t : PeState) × (d : CopyState) × (jumped n cs s ≡ goes t) × (copy.jumped n at xs c ≡ copy.goes d) × Simulates g 2 t d

  -- the contexts cs are left, of which the frames fs are kept
  jump-followed : (n : ℕ) (at : Place) (fs : List Frame) (P : PlainPath) (cs : List Held) (xs : List (Pushed CopyContext)) (s : PeState) (c : CopyState) →
      ((k : ℕ) → k ≤ length fs → oldest k s.frames ≡ oldest k fs) → IsMarked (an_escape n) (marks_in fs) → ContextsTake g fs cs xs P → c.store ≡ cells_in fs →
      Below s.next s.frames → c.next ≡ s.next → Jumps n at cs s xs c
  jump-followed n at fs P [] [] s c same m t st lo nx = absurd (subst (IsMarked (an_escape n)) t.1 m)
  jump-followed n at fs P (k ∷ cs) (x ∷ xs) s c same m t st lo nx =
      let few = t.1 in
      let cut = same k.frames few in
      let st' : store_after x.context c.store ≡ cells_in (oldest k.frames fs) =
      ap (λ (cells : List Row). store_after x.context cells) st ∙ left_store g k.frames fs t.3.1 t.2 in
      let off : PeMove = goes (record s { focus = completed; contexts = cs; frames = oldest k.frames s.frames; load = k.base }) in
      let over : CopyMove = copy.goes (record c { focus = skip at; contexts = xs; load = x.base }) in
      let rest : CopyState = record c { store = store_after x.context c.store } in
      elim (cases_Bool (is_target n k.context)) [
        | inl y ↦
            let ends = subst (λ (R : PlainPath). ContextsTake g (oldest k.frames fs) cs xs R) (target_command g n y t.3.1) t.3.2 in (
              record s { focus = completed; contexts = cs; frames = oldest k.frames s.frames; load = k.base },
              record c { focus = skip at; contexts = xs; load = x.base },
              ap (λ (b : Bool). cond b off (jumped n cs s)) y,
              ap (λ (b : Bool). cond b over (copy.jumped n at xs rest)) (same_target g n t.3.1 ∙ y),
              (
                end atoms.Comm,
                (at, refl, refl),
                (
                  subst (λ (hs : List Frame). ContextsTake g hs cs xs (end atoms.Comm)) (sym cut) ends,
                  sym (target_store g n c.store y t.3.1) ∙ st' ∙ ap cells_in (sym cut),
                  Below-oldest k.frames s.frames s.next lo,
                  nx,
                  t.0,
                ),
              ),
            )
        | inr y ↦
            let long = length-oldest k.frames fs few in
            let deep = jump-followed n at (oldest k.frames fs) t.3.0 cs xs s rest (λ j le. same j (omega arith) ∙ sym (oldest-oldest j k.frames fs (omega arith)))
            (marked_behind g n (marks_in (oldest k.frames fs)) y t.3.1 (subst (IsMarked (an_escape n)) t.2 m)) t.3.2 st' lo nx in (
              deep.0,
              deep.1,
              ap (λ (b : Bool). cond b off (jumped n cs s)) y ∙ deep.2,
              ap (λ (b : Bool). cond b over (copy.jumped n at xs rest)) (same_target g n t.3.1 ∙ y) ∙ deep.3,
              deep.4,
            )
      ]
  jump-followed n at fs P [] (x ∷ xs) s c same m t st lo nx = absurd t
  jump-followed n at fs P (k ∷ cs) [] s c same m t st lo nx = absurd t

  jump-moves : (n : ℕ) (at : Place) (s : PeState) (c : CopyState) → c.focus ≡ mark (marks.Jump n) at → Jumps n at s.contexts s c.contexts c → MovesIn g (extra g) 2 1 c (jumped n s.contexts s)
  jump-moves n at s c f j =
      subst (λ (m : PeMove). MovesIn g (extra g) 2 1 c m) (sym j.2) (one_move g (focus-step c (mark (marks.Jump n) at) f ∙ j.3) (omega arith) j.4)

  -- ---- a thunk

  -- all thunks but a sequence
  abbrev pub IsPlain : Thunk → Type 0
  IsPlain (source k r) = Unit {0}
  IsPlain (datum v) = Unit {0}
  IsPlain (cell_of n) = Unit {0}
  IsPlain (jump_of n) = Unit {0}
  IsPlain (sequence_of n) = ⊥

  -- a cell is written where an assignment is asked for, and read elsewhere
  own-followed : (X : DataTy) (m n : ℕ) (at : Place) (P : PlainPath) (s : PeState) (c : CopyState) → shape_at g.table n ≡ Some (erase P) → c.focus ≡ mark (marks.Cell m) at →
      HasCell own X m s.frames → (P ≡ end (data_atom X)) ⊎ (P ≡ end (acceptor_atom X)) → Behind g s c P → MovesIn g (extra g) 2 1 c (cell_entered (is_assignment g.code.assignment n) own m s)
  own-followed X m n at P s c sh f h (inl e) b =
      subst (λ (a : Bool). MovesIn g (extra g) 2 1 c (cell_entered a own m s)) (sym (value-asked g n (sh ∙ ap (λ (R : PlainPath). Some (erase R)) e ∙ ap Some (data-erase X))))
      (cell-followed g false own X m at P s c (omega arith) f h e b)
  own-followed X m n at P s c sh f h (inr e) b =
      subst (λ (a : Bool). MovesIn g (extra g) 2 1 c (cell_entered a own m s)) (sym (assignment-asked g n (sh ∙ ap (λ (R : PlainPath). Some (erase R)) e ∙ ap Some (acceptor-erase X))))
      (cell-followed g true own X m at P s c (omega arith) f h e b)

  plain-followed : (t : Thunk) (q : Tree) (D : PlainPaths) (n : ℕ) (P : PlainPath) (s : PeState) (c : CopyState) → IsPlain t → shape_at g.table n ≡ Some (erase P) → HasBelow D P →
      ThunkAnswers g s.frames t q D → c.focus ≡ q → Behind g s c P → MovesIn g (extra g) 2 1 c (entered_plain g.code n t s)
  plain-followed (source k r) q D n P s c plain sh some th f b =
      let a = th.6 P some in
      let x = entry-found g k n (erase P) (has-pair (HasPairOf g.table) th.0 th.2 k P a) sh in
      subst (λ (y : Bool). MovesIn g (extra g) 2 1 c (if_listed y (at_entry (entry_of g.code k n) r s))) (sym (env-listed g s.frames r th.1 th.2 th.5))
      (subst (λ (o : Option ℕ). MovesIn g (extra g) 2 1 c (at_entry o r s)) (sym x.1)
      (no_move g 1 (omega arith) (omega arith) (P, ((k, th.0, th.1, th.2, th.3, a, (n, sh, x.1), th.5, f ∙ th.7), rank-one th.0 th.4), b)))
  plain-followed (datum v) q D n P s c plain sh some th f b =
      let x = evaluated q v (constant-value q v th.0) c in
      let steps = subst (λ (d : CopyState). Steps x.0 d (copy.focus_on (lit v x.1) c)) (ap (λ (t : Tree). copy.focus_on t c) (sym f)) x.3 in
      let l : x.0 ≤ 1 + extra g = (let h = th.1 in omega (arith, h, x.2)) in
      goes_on 0 steps l (λ none. omega arith) (omega arith) (P, (x.1, refl, th.2 P some), b)
  plain-followed (cell_of m) q D n P s c plain sh some th f b = own-followed th.1 m n th.0 P s c sh (f ∙ th.2) th.3 (cell-paths th.1 P (th.4 P some)) b
  plain-followed (jump_of m) q D n P s c plain sh some th f b =
      subst (λ (y : Bool). MovesIn g (extra g) 2 1 c (if_listed y (jumped m s.contexts s))) (sym (HasFrame-listed (λ b. IsEscape b) m s.frames th.2))
      (jump-moves m th.0 s c (f ∙ th.1)
      (jump-followed m th.0 s.frames P s.contexts c.contexts s c (λ k le. refl) (HasFrame-escape m s.frames th.2) b.0 b.1 b.2 b.3))
  plain-followed (sequence_of m) q D n P s c plain sh some th f b = absurd plain

  -- ---- a sequence takes an index

  no-value : HasBelow (paths sequence_type) (end atoms.Int) → ⊥
  no-value some = elim (sequence-path some) [ inl x ↦ (let e = x.2 in cc) | inr e ↦ cc ]

  -- what has the path of an integer is no sequence
  index-plain : (fs : List Frame) (t : Thunk) (q : Tree) (D : PlainPaths) → HasBelow D (end atoms.Int) → ThunkAnswers g fs t q D → IsPlain t
  index-plain fs (source k r) q D some th = tt
  index-plain fs (datum v) q D some th = tt
  index-plain fs (cell_of n) q D some th = tt
  index-plain fs (jump_of n) q D some th = tt
  index-plain fs (sequence_of n) q D some th = no-value (th.4 (end atoms.Int) some)

  -- what stands where the newest context of a sequence in focus was taken off
  index-meets : (m : ℕ) (at : Place) (is_written : Bool) (P R : PlainPath) (E : PlainPaths) (k : PeContext) (x : CopyContext) (Q : PlainPath) (many : ℕ) (cs : List Held) (xs : List (Pushed CopyContext))
      (s : PeState) (c : CopyState) → copy_step c ≡ copy.sequence_meets m at x (record c { contexts = xs }) → P ≡ call E R → HasBelow E (end atoms.Int) → R ≡ end (wanted_atom is_written) →
      IndexKnown g → HasSequence m s.frames → many ≤ length s.frames → marks_in s.frames ≡ marked k (marks_in (oldest many s.frames)) → ContextTakes g (oldest many s.frames) k x P Q →
      ContextsTake g (oldest many s.frames) cs xs Q → c.store ≡ cells_in s.frames → Below s.next s.frames → c.next ≡ s.next → c.load ≡ s.load →
      MovesIn g (extra g) 2 2 c (index_meets g.code (record { is_written = is_written; number = m }) k (record s { contexts = cs }))
  index-meets m at is_written P R E k x Q many cs xs s c step e some ending known has le same_marks (procedure {t = t} {q = q} {D = D} {P = S} th) rest st lo nx ld =
      let w : Wanted = record { is_written = is_written; number = m } in
      let f : D ≡ E = cc in
      let h : S ≡ R = cc in
      let here : PeState = record s { contexts = cs } in
      let there : CopyState = record c { contexts = xs } in
      let behind : Behind g here there (end (wanted_atom is_written)) = (
        contexts-taken g many s.frames le same_marks cs xs (end (wanted_atom is_written)) (subst (λ (U : PlainPath). ContextsTake g (oldest many s.frames) cs xs U) (h ∙ ending) rest),
        st,
        lo,
        nx,
        ld,
      ) in
      let index : ThunkAnswers g s.frames t q E = subst (λ (F : PlainPaths). ThunkAnswers g s.frames t q F) f (thunk-extends g (extends-oldest g many s.frames s.next lo) t q D th) in
      let pushed : Behind g (push (element_c w) here) (copy.push (element_c m) there) (end atoms.Int) =
      pushed-behind g here there (end atoms.Int) (end (wanted_atom is_written)) (element_c w) (element_c m) refl (element_wanted has) behind in
      subst (λ (o : Option ℕ). MovesIn g (extra g) 2 2 c (index_entered g.code o w t here)) (sym known.1)
      (earlier g step
      (plain-followed t q E known.0 (end atoms.Int) (push (element_c w) here) (copy.focus_on q (copy.push (element_c m) there)) (index-plain s.frames t q E some index)
      ((g.right.sequences.value known.0).0 known.1) some index refl pushed))
  index-meets m at is_written P R E k x Q many cs xs s c step e some ending known has le same_marks held rest st lo nx ld =
      let f = sym (ap (λ (S : PlainPath). first_asked S) e) ∙ held-asked g held in absurd cc

  index-under : (m : ℕ) (at : Place) (is_written : Bool) (P R : PlainPath) (E : PlainPaths) (cs : List Held) (xs : List (Pushed CopyContext)) (s : PeState) (c : CopyState) →
      copy_step c ≡ copy.taken (copy.sequence_meets m at) xs c → P ≡ call E R → HasBelow E (end atoms.Int) → R ≡ end (wanted_atom is_written) → IndexKnown g → HasSequence m s.frames →
      ContextsTake g s.frames cs xs P → c.store ≡ cells_in s.frames → Below s.next s.frames → c.next ≡ s.next → c.load ≡ s.load →
      MovesIn g (extra g) 2 2 c (taken (index_meets g.code (record { is_written = is_written; number = m })) cs s)
  index-under m at is_written P R E [] [] s c step e some ending known has t st lo nx ld = absurd (call-apart e t.0)
  index-under m at is_written P R E (k ∷ cs) (x ∷ xs) s c step e some ending known has t st lo nx ld =
      index-meets m at is_written P R E k.context x.context t.3.0 k.frames cs xs s c step e some ending known has t.1 t.2 t.3.1 t.3.2 st lo nx ld
  index-under m at is_written P R E [] (x ∷ xs) s c step e some ending known has t st lo nx ld = absurd t
  index-under m at is_written P R E (k ∷ cs) [] s c step e some ending known has t st lo nx ld = absurd t

  -- ---- its length is selected

  length-meets : (m : ℕ) (at : Place) (P : PlainPath) (q : Sequence) (k : PeContext) (x : CopyContext) (Q : PlainPath) (many : ℕ) (cs : List Held) (xs : List (Pushed CopyContext)) (s : PeState) (c : CopyState) →
      copy_step c ≡ copy.sequence_meets m at x (record c { contexts = xs }) → P ≡ pick 0 (end atoms.Int) → content_of m (cells_in s.frames) ≡ Some (several q.place q.values) →
      many ≤ length s.frames → marks_in s.frames ≡ marked k (marks_in (oldest many s.frames)) → ContextTakes g (oldest many s.frames) k x P Q →
      ContextsTake g (oldest many s.frames) cs xs Q → c.store ≡ cells_in s.frames → Below s.next s.frames → c.next ≡ s.next → c.load ≡ s.load →
      MovesIn g (extra g) 2 2 c (length_meets (length q.values) k (record s { contexts = cs }))
  length-meets m at P q k x Q many cs xs s c step e content le same_marks (selected {i = i} {P = S}) rest st lo nx ld =
      let f : i ≡ 0 = cc in
      let h : S ≡ end atoms.Int = cc in
      let test = eq-eqb i 0 f in
      let v : Datum = datum_kind.Int (pos (length q.values)) in
      let there : CopyState = record c { contexts = xs } in
      let to : copy_step c ≡ copy.goes (copy.focus_on (lit v at) there) =
      step ∙ ap (λ (b : Bool). cond b (copy.measured (content_of m c.store) at there) copy.sticks) test
      ∙ ap (λ (rows : List Row). copy.measured (content_of m rows) at there) st ∙ ap (λ (o : Option Content). copy.measured o at there) content in
      subst (λ (b : Bool). MovesIn g (extra g) 2 2 c (cond b (focused (value v) (record s { contexts = cs })) sticks)) (sym test)
      (one_move g to (omega arith) (
        end atoms.Int,
        (at, refl, refl),
        (contexts-taken g many s.frames le same_marks cs xs (end atoms.Int) (subst (λ (U : PlainPath). ContextsTake g (oldest many s.frames) cs xs U) h rest), st, lo, nx, ld),
      ))
  length-meets m at P q k x Q many cs xs s c step e content le same_marks held rest st lo nx ld =
      let f = sym (ap (λ (S : PlainPath). first_asked S) e) ∙ held-asked g held in absurd cc

  length-under : (m : ℕ) (at : Place) (P : PlainPath) (q : Sequence) (cs : List Held) (xs : List (Pushed CopyContext)) (s : PeState) (c : CopyState) →
      copy_step c ≡ copy.taken (copy.sequence_meets m at) xs c → P ≡ pick 0 (end atoms.Int) → content_of m (cells_in s.frames) ≡ Some (several q.place q.values) →
      ContextsTake g s.frames cs xs P → c.store ≡ cells_in s.frames → Below s.next s.frames → c.next ≡ s.next → c.load ≡ s.load →
      MovesIn g (extra g) 2 2 c (taken (length_meets (length q.values)) cs s)
  length-under m at P q [] [] s c step e content t st lo nx ld = absurd (pick-apart e t.0)
  length-under m at P q (k ∷ cs) (x ∷ xs) s c step e content t st lo nx ld =
      length-meets m at P q k.context x.context t.3.0 k.frames cs xs s c step e content t.1 t.2 t.3.1 t.3.2 st lo nx ld
  length-under m at P q [] (x ∷ xs) s c step e content t st lo nx ld = absurd t
  length-under m at P q (k ∷ cs) [] s c step e content t st lo nx ld = absurd t

  -- ---- a sequence

  -- what the shape asks, of the sequence that the frame holds
  asked-moves : (m n : ℕ) (a : Asked) (q : Sequence) (s : PeState) (c : CopyState) → asked_at g.code.sequences n ≡ a → sequence_at m s.frames ≡ Some q →
      MovesIn g (extra g) 2 2 c (sequence_asked g.code a m (Some q) s) → MovesIn g (extra g) 2 2 c (entered g.code n (sequence_of m) s)
  asked-moves m n a q s c e f h =
      subst (λ (o : Option Sequence). MovesIn g (extra g) 2 2 c (sequence_asked g.code (asked_at g.code.sequences n) m o s)) (sym f)
      (subst (λ (x : Asked). MovesIn g (extra g) 2 2 c (sequence_asked g.code x m (Some q) s)) (sym e) h)

  called-followed : (m n : ℕ) (at : Place) (P R : PlainPath) (E : PlainPaths) (q : Sequence) (s : PeState) (c : CopyState) → shape_at g.table n ≡ Some (erase P) → P ≡ call E R →
      HasBelow E (end atoms.Int) → (R ≡ end atoms.Int) ⊎ (R ≡ end atoms.IntAcc) → c.focus ≡ mark (marks.Sequence m) at → IndexKnown g → HasSequence m s.frames →
      sequence_at m s.frames ≡ Some q → Behind g s c P → MovesIn g (extra g) 2 2 c (entered g.code n (sequence_of m) s)
  called-followed m n at P R E q s c sh e some (inl ending) f known has found b =
      asked-moves m n (a_cell false) q s c (asked-read g.table g.code n g.right.sequences (sh ∙ ap (λ (S : PlainPath). Some (erase S)) e ∙ ap (λ (S : PlainPath). Some (a_call (erase S))) ending)) found
      (index-under m at false P R E s.contexts c.contexts s c (focus-step c (mark (marks.Sequence m) at) f) e some ending known has b.0 b.1 b.2 b.3 b.4)
  called-followed m n at P R E q s c sh e some (inr ending) f known has found b =
      asked-moves m n (a_cell true) q s c (asked-written g.table g.code n g.right.sequences (sh ∙ ap (λ (S : PlainPath). Some (erase S)) e ∙ ap (λ (S : PlainPath). Some (a_call (erase S))) ending)) found
      (index-under m at true P R E s.contexts c.contexts s c (focus-step c (mark (marks.Sequence m) at) f) e some ending known has b.0 b.1 b.2 b.3 b.4)

  sequence-followed : (m n : ℕ) (at : Place) (P : PlainPath) (s : PeState) (c : CopyState) → shape_at g.table n ≡ Some (erase P) → HasBelow (paths sequence_type) P →
      c.focus ≡ mark (marks.Sequence m) at → IndexKnown g → HasSequence m s.frames → Behind g s c P → MovesIn g (extra g) 2 2 c (entered g.code n (sequence_of m) s)
  sequence-followed m n at P s c sh some f known has b =
      let y = sequence-found m s.frames has in
      elim (sequence-path some) [
        | inl x ↦ called-followed m n at P x.1 x.0 y.0 s c sh x.2 x.3 (cell-paths data_type.Int x.1 x.4) f known has y.1 b
        | inr e ↦
            asked-moves m n a_length y.0 s c (asked-length g.table g.code n g.right.sequences (sh ∙ ap (λ (S : PlainPath). Some (erase S)) e)) y.1
            (length-under m at P y.0 s.contexts c.contexts s c (focus-step c (mark (marks.Sequence m) at) f) e y.2 b.0 b.1 b.2 b.3 b.4)
      ]

  pub entered-followed : (t : Thunk) (q : Tree) (D : PlainPaths) (n : ℕ) (P : PlainPath) (s : PeState) (c : CopyState) → shape_at g.table n ≡ Some (erase P) → HasBelow D P →
      ThunkAnswers g s.frames t q D → c.focus ≡ q → Behind g s c P → MovesIn g (extra g) 2 2 c (entered g.code n t s)
  entered-followed (source k r) q D n P s c sh some th f b = moves-weaker g (omega arith) (omega arith) (plain-followed (source k r) q D n P s c tt sh some th f b)
  entered-followed (datum v) q D n P s c sh some th f b = moves-weaker g (omega arith) (omega arith) (plain-followed (datum v) q D n P s c tt sh some th f b)
  entered-followed (cell_of m) q D n P s c sh some th f b = moves-weaker g (omega arith) (omega arith) (plain-followed (cell_of m) q D n P s c tt sh some th f b)
  entered-followed (jump_of m) q D n P s c sh some th f b = moves-weaker g (omega arith) (omega arith) (plain-followed (jump_of m) q D n P s c tt sh some th f b)
  entered-followed (sequence_of m) q D n P s c sh some th f b = sequence-followed m n th.0 P s c sh (th.4 P some) (f ∙ th.1) th.2 th.3 b
