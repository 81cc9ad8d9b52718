-- A cell, of a variable or of a sequence, gives its datum or takes another, on both sides; and what a sequence has.
use Rattle.std.proofs.Common.{ℕ, ◌<◌, ◌≤◌, ◌≡◌, Bool, true, false, List, [], ◌∷◌, length, Option, Some, refl, sym, ap, ◌∙◌, subst, inl, inr, arith, eq-eqb}
use Rattle.fy_base.specs.declared.data.Place.{Place}
use Rattle.fy_base.specs.declared.data.Datum.{Datum}
use Rattle.fy_types.specs.declared.types.Atom.TheVariants as atoms
use Rattle.fy_types.specs.Paths.{PlainPath, end}
use Rattle.fy_phrase.specs.declared.phrase.DataTy.{DataTy}
use Rattle.fy_phrase.specs.declared.phrase.DataTy.TheVariants as data_type
use Rattle.fy_phrase.specs.declared.phrase.MarkKind.TheVariants as marks
use Rattle.fy_phrase.specs.Tree.{Tree, lit, skip, mark}
use Rattle.fy_phrase.specs.Contexts.{CopyContext, store_c, Pushed}
use Rattle.fy_phrase.specs.Copy.{Content, several, Row, Which, own, element, CopyState, copy_step, content_of, value_in, value_of, with_value}
use Rattle.fy_phrase.specs.Copy as copy
use Rattle.fy_derive.specs.Atoms.{data_atom, acceptor_atom, datum_atom}
use Rattle.fy_derive.specs.Shapes.{a_value}
use Rattle.fy_derive.proofs.Asking.{for_end, asked_by, value_asked, assignment_asked, run_asked}
use Rattle.fy_derive.proofs.StateTyping.{AreInts, ints-get}
use Rattle.pe_machine.specs.States.{Sequence, Binding, to_thunk, to_cell, to_escape, to_sequence, Frame, PeContext, Held, PeState, oldest, datum_in, datum_of, sequence_in, sequence_at, element_in, value_of as value_at}
use Rattle.pe_machine.specs.Step.{taken, loaded, assigned, assignment_meets, cell_entered}
use Rattle.pe_right.specs.ReadsBack.{cells_in}
use Rattle.pe_right.proofs.FrameLemmas.{written, Below, Below-with_binding, IsRow, marks_in, with_value-changes, cells-changed, content_in, content-here, content-apart, sequence_at-newer, row-found}
use Rattle.pe_right.proofs.AnswerLemmas.{acceptor_atom-same, end-same}
use Rattle.pe_right.proofs.Invariants.{Compiled, HoldsDatum, HasCell, HoldsInts, HasSequence, marked, ContextTakes, acceptor, ContextsTake, Behind}
use Rattle.pe_right.proofs.ContextLemmas.{held-asked, contexts-taken, contexts-written}
use Rattle.pe_right.proofs.Moves.{MovesIn, one_move}

-- ---- a cell of a binding

holds-row : (which : Which) (X : DataTy) (b : Binding) → HoldsDatum which X b → IsRow b
holds-row which X (to_thunk t) h = h
holds-row which X (to_cell v) h = tt
holds-row which X to_escape h = h
holds-row which X (to_sequence c) h = tt

-- the datum in it, for the machine
abbrev datum_at : Which → Binding → Option Datum
datum_at own b = datum_in b
datum_at (element i) b = element_in i (sequence_in b)

holds-value : (which : Which) (X : DataTy) (b : Binding) → HoldsDatum which X b →
    (v : Datum) × (datum_atom v ≡ data_atom X) × (datum_at which b ≡ Some v) × (value_in which (content_in b) ≡ Some v)
holds-value which X (to_thunk t) h = absurd h
holds-value own X (to_cell v) h = (v, h, refl, refl)
holds-value (element i) X (to_cell v) h = absurd h
holds-value which X to_escape h = absurd h
holds-value own X (to_sequence c) h = absurd h
holds-value (element i) X (to_sequence c) h =
    let x = ints-get c.values i h.0 h.1 in
    (x.0, x.2 ∙ ap (λ (Y : DataTy). data_atom Y) h.2, x.1, x.1)

value-at : (which : Which) (n : ℕ) (fs : List Frame) (b : Binding) → datum_of n fs ≡ datum_in b → sequence_at n fs ≡ sequence_in b → value_at which n fs ≡ datum_at which b
value-at own n fs b e f = e
value-at (element i) n fs b e f = ap (λ (o : Option Sequence). element_in i o) f

-- the datum of a cell, on both sides
pub cell-datum : (which : Which) (X : DataTy) (n : ℕ) (fs : List Frame) → HasCell which X n fs →
    (v : Datum) × (datum_atom v ≡ data_atom X) × (value_at which n fs ≡ Some v) × (value_of which n (cells_in fs) ≡ Some v)
cell-datum which X n fs h =
    let x = row-found (λ b. HoldsDatum which X b) n fs (holds-row which X) h in
    let y = holds-value which X x.0 x.1 in
    (y.0, y.1, value-at which n fs x.0 x.2 x.3 ∙ y.2, ap (λ (o : Option Content). value_in which o) x.4 ∙ y.3)

-- ---- sequences

is-sequence : (b : Binding) → HoldsInts b → (q : Sequence) × (b ≡ to_sequence q) × AreInts q.values
is-sequence (to_thunk t) h = absurd h
is-sequence (to_cell v) h = absurd h
is-sequence to_escape h = absurd h
is-sequence (to_sequence q) h = (q, refl, h)

-- a sequence is found on both sides, and it has a cell for each index below its length
pub sequence-found : (n : ℕ) (fs : List Frame) → HasSequence n fs →
    (q : Sequence) × (sequence_at n fs ≡ Some q) × (content_of n (cells_in fs) ≡ Some (several q.place q.values))
    × ((i : ℕ) → i < length q.values → HasCell (element i) data_type.Int n fs)
sequence-found n [] h = absurd h
sequence-found n (f ∷ fs) (inl h) =
    let x = is-sequence f.binding h.1 in (
      x.0,
      rw (eq-eqb n f.number h.0) (ap (λ (b : Binding). sequence_in b) x.1),
      content-here n f.number f.binding (cells_in fs) h.0 (subst (λ (b : Binding). IsRow b) (sym x.1) tt) ∙ ap (λ (b : Binding). content_in b) x.1,
      λ i l. inl (h.0, subst (λ (b : Binding). HoldsDatum (element i) data_type.Int b) (sym x.1) (l, x.2, refl)),
    )
sequence-found n (f ∷ fs) (inr h) =
    let x = sequence-found n fs h.1 in
    let l = h.0 in (
      x.0,
      sequence_at-newer n f fs (λ q. omega arith) ∙ x.1,
      content-apart n f.number f.binding (cells_in fs) (λ q. omega arith) ∙ x.2,
      λ i k. inr (l, x.3 i k),
    )

-- ---- a cell in focus

-- the mark of a cell
abbrev pub mark_of : Which → ℕ → Place → Tree
mark_of own n at = mark (marks.Cell n) at
mark_of (element i) n at = mark (marks.Element n i) at

mark-step : (which : Which) (n : ℕ) (at : Place) (c : CopyState) → copy.step_at (mark_of which n at) c ≡ copy.cell_under which n at c.contexts c
mark-step own n at c = refl
mark-step (element i) n at c = refl

pub cell-step : (which : Which) (n : ℕ) (at : Place) (c : CopyState) → c.focus ≡ mark_of which n at → copy_step c ≡ copy.cell_under which n at c.contexts c
cell-step which n at c e = ap (λ (p : Tree). copy.step_at p c) e ∙ mark-step which n at c

-- a context that doesn't assign makes a cell give its datum
not_assigned : (which : Which) (x : CopyContext) (n : ℕ) (at : Place) (xs : List (Pushed CopyContext)) (c : CopyState) → for_end a_value ≡ asked_by x →
    copy.cell_meets which n at x xs c ≡ copy.loaded (value_of which n c.store) at c
not_assigned which (store_c v) n at xs c f = absurd cc
not_assigned which x n at xs c f = refl

-- the path that says how a cell is used
abbrev pub IsUse : Bool → DataTy → PlainPath → Type 0
IsUse true X P = P ≡ end (acceptor_atom X)
IsUse false X P = P ≡ end (data_atom X)

module _ (g : Compiled) where
  -- ---- a cell is read

  pub reads-under : (which : Which) (X : DataTy) (n : ℕ) (at : Place) (P : PlainPath) (fs : List Frame) (cs : List Held) (xs : List (Pushed CopyContext)) (c : CopyState) →
      P ≡ end (data_atom X) → ContextsTake g fs cs xs P → copy.cell_under which n at xs c ≡ copy.loaded (value_of which n c.store) at c
  reads-under which X n at P fs [] [] c e t = refl
  reads-under which X n at P fs (k ∷ cs) (x ∷ xs) c e t = not_assigned which x.context n at xs c (sym (value_asked X e) ∙ held-asked g t.3.1)
  reads-under which X n at P fs [] (x ∷ xs) c e t = absurd t
  reads-under which X n at P fs (k ∷ cs) [] c e t = absurd t

  cell-reads : {x r b : ℕ} (which : Which) (X : DataTy) (n : ℕ) (at : Place) (P : PlainPath) (s : PeState) (c : CopyState) → 1 ≤ b → c.focus ≡ mark_of which n at →
      P ≡ end (data_atom X) → HasCell which X n s.frames → Behind g s c P → MovesIn g x r b c (loaded (value_at which n s.frames) s)
  cell-reads {x = x} {r = r} {b = b} which X n at P s c l f e h w =
      let y = cell-datum which X n s.frames h in
      let step : copy_step c ≡ copy.goes (copy.focus_on (lit y.0 at) c) =
      cell-step which n at c f ∙ reads-under which X n at P s.frames s.contexts c.contexts c e w.0
      ∙ ap (λ (rows : List Row). copy.loaded (value_of which n rows) at c) w.1 ∙ ap (λ (o : Option Datum). copy.loaded o at c) y.3 in
      subst (λ (o : Option Datum). MovesIn g x r b c (loaded o s)) (sym y.2) (one_move g step l (P, (at, refl, e ∙ ap end (sym y.1)), w))

  -- ---- a cell is written

  assigns : {z r b : ℕ} (which : Which) (X : DataTy) (n : ℕ) (at : Place) (P Q : PlainPath) (k : PeContext) (x : CopyContext) (many : ℕ) (cs : List Held) (xs : List (Pushed CopyContext))
      (s : PeState) (c : CopyState) → 1 ≤ b → copy_step c ≡ copy.cell_meets which n at x xs c → P ≡ end (acceptor_atom X) → HasCell which X n s.frames → many ≤ length s.frames →
      marks_in s.frames ≡ marked k (marks_in (oldest many s.frames)) → ContextTakes g (oldest many s.frames) k x P Q → ContextsTake g (oldest many s.frames) cs xs Q →
      c.store ≡ cells_in s.frames → Below s.next s.frames → c.next ≡ s.next → c.load ≡ s.load → MovesIn g z r b c (assignment_meets which n k (record s { contexts = cs }))
  assigns {z = z} {r = r} {b = b} which X n at P Q k x many cs xs s c l step e h le m (acceptor {v = v} D f) t st lo nx ld =
      let same : D ≡ X = acceptor_atom-same D X (end-same refl e) in
      let typed : datum_atom v ≡ data_atom X = f ∙ ap (λ (Y : DataTy). data_atom Y) same in
      let y = cell-datum which X n s.frames h in
      let change = with_value-changes which n v s.frames in
      let to : copy_step c ≡ copy.goes (record c { focus = skip at; contexts = xs; store = with_value which n v c.store }) =
      step ∙ ap (λ (rows : List Row). copy.assigned (value_of which n rows) which n v at (record c { contexts = xs })) st
      ∙ ap (λ (o : Option Datum). copy.assigned o which n v at (record c { contexts = xs })) y.3 in
      subst (λ (o : Option Datum). MovesIn g z r b c (assigned o which n v (record s { contexts = cs }))) (sym y.2)
      (one_move g to l (
        end atoms.Comm,
        (at, refl, refl),
        (
          subst (λ (fs : List Frame). ContextsTake g fs cs xs (end atoms.Comm)) (sym change)
              (contexts-written g which X n v s.frames s.next typed lo (inl h) cs xs (end atoms.Comm) (contexts-taken g many s.frames le m cs xs (end atoms.Comm) t)),
          ap (λ (rows : List Row). with_value which n v rows) st ∙ cells-changed which n v s.frames s.next lo ∙ sym (ap cells_in change),
          subst (Below s.next) (sym change) (Below-with_binding n (written which v) s.frames s.next lo),
          nx,
          ld,
        ),
      ))
  assigns which X n at P Q k x many cs xs s c l step e h le m held t st lo nx ld = let f = sym (assignment_asked X e) ∙ held-asked g held in absurd cc

  writes-under : {z r b : ℕ} (which : Which) (X : DataTy) (n : ℕ) (at : Place) (P : PlainPath) (cs : List Held) (xs : List (Pushed CopyContext)) (s : PeState) (c : CopyState) → 1 ≤ b →
      copy_step c ≡ copy.cell_under which n at xs c → P ≡ end (acceptor_atom X) → HasCell which X n s.frames → ContextsTake g s.frames cs xs P →
      c.store ≡ cells_in s.frames → Below s.next s.frames → c.next ≡ s.next → c.load ≡ s.load → MovesIn g z r b c (taken (assignment_meets which n) cs s)
  writes-under which X n at P [] [] s c l step e h t st lo nx ld = let f = sym (assignment_asked X e) ∙ run_asked t.0 in absurd cc
  writes-under which X n at P (k ∷ cs) (x ∷ xs) s c l step e h t st lo nx ld =
      assigns which X n at P t.3.0 k.context x.context k.frames cs xs s c l step e h t.1 t.2 t.3.1 t.3.2 st lo nx ld
  writes-under which X n at P [] (x ∷ xs) s c l step e h t st lo nx ld = absurd t
  writes-under which X n at P (k ∷ cs) [] s c l step e h t st lo nx ld = absurd t

  pub cell-followed : {x r b : ℕ} (is_written : Bool) (which : Which) (X : DataTy) (n : ℕ) (at : Place) (P : PlainPath) (s : PeState) (c : CopyState) → 1 ≤ b →
      c.focus ≡ mark_of which n at → HasCell which X n s.frames → IsUse is_written X P → Behind g s c P → MovesIn g x r b c (cell_entered is_written which n s)
  cell-followed true which X n at P s c l f h e w =
      writes-under which X n at P s.contexts c.contexts s c l (cell-step which n at c f) e h w.0 w.1 w.2 w.3 w.4
  cell-followed false which X n at P s c l f h e w = cell-reads which X n at P s c l f e h w
