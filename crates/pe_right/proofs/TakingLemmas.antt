-- A procedure, a field and an acceptor meet the context that demands them, which is taken off while the frames stay.
use Rattle.std.proofs.Common.{ℕ, ◌≤◌, ◌≡◌, Bool, cond, List, [], ◌∷◌, length, Option, refl, sym, ap, ◌∙◌, subst, inl, arith, eq-eqb}
use Rattle.fy_base.specs.declared.data.Place.{Place}
use Rattle.fy_types.specs.declared.types.Atom.TheVariants as atoms
use Rattle.fy_types.specs.Paths.{PlainPath, PlainPaths, end, call, pick}
use Rattle.fy_types.specs.PathOrder.{here, there}
use Rattle.fy_phrase.specs.declared.phrase.DataTy.{DataTy}
use Rattle.fy_phrase.specs.Tree.{Tree, lit}
use Rattle.fy_phrase.specs.Contexts.{CopyContext, Pushed}
use Rattle.fy_phrase.specs.Copy.{CopyState, CopyMove, copy_step}
use Rattle.fy_phrase.specs.Copy as copy
use Rattle.fy_derive.specs.Atoms.{data_atom, acceptor_atom, datum_atom}
use Rattle.fy_derive.specs.Shapes.{at_end, a_run, erase}
use Rattle.fy_derive.proofs.PathTyping.{IsRun, only}
use Rattle.fy_derive.proofs.Asking.{first_asked, assignment_asked, run_asked}
use Rattle.pe_machine.specs.States.{Pointer, datum, code_at, PeContext, Held, PeState, oldest}
use Rattle.pe_machine.specs.Step.{PeMove, focused, taken, bind_meets, field_meets, accept_meets, sticks}
use Rattle.pe_right.specs.Closing.{closed_by}
use Rattle.pe_right.specs.Right.{Enters}
use Rattle.pe_right.specs.ReadsBack.{cells_in}
use Rattle.pe_right.proofs.FrameLemmas.{Below, marks_in}
use Rattle.pe_right.proofs.AnswerLemmas.{data-up, acceptor_atom-same, end-same}
use Rattle.pe_right.specs.Entered.{another}
use Rattle.pe_right.proofs.Invariants.{Compiled, Above, marked, Answered, IsBody, FramesAnswer, ThunkAnswers, CodeAnswers, ContextTakes, procedure, selected, acceptor, ContextsTake, Behind}
use Rattle.pe_right.proofs.Growing.{extends-oldest, thunk-extends}
use Rattle.pe_right.proofs.ContextLemmas.{held-asked, contexts-taken}
use Rattle.pe_right.proofs.Moves.{rank-two, MovesIn, extra, one_move, bound-simulates}

-- a datum's own path
above-datum : (D : DataTy) → Above (only (data_atom D)) (λ P. P ≡ end (data_atom D))
above-datum D P (here low) = data-up D low
above-datum D P (there some) = elim some [ ]

-- the path of a call, of a selection and of an assignment isn't that of a command
pub call-apart : {P R : PlainPath} {D : PlainPaths} → P ≡ call D R → IsRun P → ⊥
call-apart e is = let f = sym (ap (λ (S : PlainPath). first_asked S) e) ∙ run_asked is in cc

pub pick-apart : {P R : PlainPath} {i : ℕ} → P ≡ pick i R → IsRun P → ⊥
pick-apart e is = let f = sym (ap (λ (S : PlainPath). first_asked S) e) ∙ run_asked is in cc

pub acceptor-apart : (X : DataTy) {P : PlainPath} → P ≡ end (acceptor_atom X) → IsRun P → ⊥
acceptor-apart X e is = let f = sym (assignment_asked X e) ∙ run_asked is in cc

module _ (g : Compiled) where
  -- what stands where the context k was taken off, which kept m frames; the next one takes the path
  abbrev pub Left : PeState → CopyState → PeContext → ℕ → PlainPath → Type 0
  Left s c k m Q =
      (m ≤ length s.frames) × (marks_in s.frames ≡ marked k (marks_in (oldest m s.frames))) × ContextsTake g (oldest m s.frames) s.contexts c.contexts Q
      × (c.store ≡ cells_in s.frames) × Below s.next s.frames × (c.next ≡ s.next) × (c.load ≡ s.load)

  -- what meets the newest context goes on
  abbrev pub Meets : PeState → CopyState → (CopyContext → CopyState → CopyMove) → (PeContext → PeState → PeMove) → PlainPath → Type 0
  Meets s c to meets P =
      (k : PeContext) (x : CopyContext) (Q : PlainPath) (m : ℕ) (cs : List Held) (xs : List (Pushed CopyContext)) → copy_step c ≡ to x (record c { contexts = xs }) →
      ContextTakes g (oldest m s.frames) k x P Q → Left (record s { contexts = cs }) (record c { contexts = xs }) k m Q →
      MovesIn g (extra g) 0 1 c (meets k (record s { contexts = cs }))

  newest : (to : CopyContext → CopyState → CopyMove) (meets : PeContext → PeState → PeMove) (P : PlainPath) (cs : List Held) (xs : List (Pushed CopyContext)) (s : PeState)
      (c : CopyState) → copy_step c ≡ copy.taken to xs c → (IsRun P → ⊥) → ContextsTake g s.frames cs xs P → c.store ≡ cells_in s.frames → Below s.next s.frames →
      c.next ≡ s.next → c.load ≡ s.load → Meets s c to meets P → MovesIn g (extra g) 0 1 c (taken meets cs s)
  newest to meets P [] [] s c e apart t st lo nx ld f = absurd (apart t.0)
  newest to meets P (k ∷ cs) (x ∷ xs) s c e apart t st lo nx ld f =
      f k.context x.context t.3.0 k.frames cs xs e t.3.1 (t.1, t.2, t.3.2, st, lo, nx, ld)
  newest to meets P [] (x ∷ xs) s c e apart t st lo nx ld f = absurd t
  newest to meets P (k ∷ cs) [] s c e apart t st lo nx ld f = absurd t

  pub taken-followed : (to : CopyContext → CopyState → CopyMove) (meets : PeContext → PeState → PeMove) (P : PlainPath) (s : PeState) (c : CopyState) →
      copy_step c ≡ copy.taken to c.contexts c → (IsRun P → ⊥) → Behind g s c P → Meets s c to meets P → MovesIn g (extra g) 0 1 c (taken meets s.contexts s)
  taken-followed to meets P s c e apart w f = newest to meets P s.contexts c.contexts s c e apart w.0 w.1 w.2 w.3 w.4 f

  -- a procedure
  pub lam-meets : (n y : ℕ) (r : Option ℕ) (b : Tree) (j : ℕ) (qs : List Tree) (G : List PlainPaths) (D : PlainPaths) (R P : PlainPath) (s : PeState) (c : CopyState) →
      P ≡ call D R → IsBody g s.frames r another (length G) j b → Answered g (D ∷ G) j b R → Enters g.table g.code j (erase R) y → FramesAnswer g s.frames r qs G →
      Meets s c (copy.lam_meets n (closed_by 1 qs b)) (bind_meets n y r) P
  lam-meets n y r b j qs G D R P s c e node a en env k x Q m cs xs step (procedure {t = t} {q = q} {D = E} {P = S} th) w =
      let f : E ≡ D = cc in
      let h : S ≡ R = cc in
      one_move g step (omega arith)
      (bound-simulates g (record s { contexts = cs }) (record c { contexts = xs }) n y r t q D b j qs G R
      (subst (λ (F : PlainPaths). ThunkAnswers g s.frames t q F) f (thunk-extends g (extends-oldest g m s.frames s.next w.4) t q E th)) env node a en
      (contexts-taken g m s.frames w.0 w.1 cs xs R (subst (λ (U : PlainPath). ContextsTake g (oldest m s.frames) cs xs U) h w.2), w.3, w.4, w.5, w.6))
  lam-meets n y r b j qs G D R P s c e node a en env k x Q m cs xs step held w =
      let f = sym (ap (λ (S : PlainPath). first_asked S) e) ∙ held-asked g held in absurd cc

  -- a field
  pub field-meets : (i : ℕ) (p : Pointer) (q : Tree) (R P : PlainPath) (s : PeState) (c : CopyState) → P ≡ pick i R → CodeAnswers g s.frames p q R →
      Meets s c (copy.field_meets i q) (field_meets i p) P
  field-meets i p q R P s c e a k x Q m cs xs step (selected {i = j} {P = S}) w =
      let f : i ≡ j = cc in
      let h : S ≡ R = cc in
      let test = eq-eqb i j f in
      subst (λ (b : Bool). MovesIn g (extra g) 0 1 c (cond b (focused (code_at p) (record s { contexts = cs })) sticks)) (sym test)
      (one_move g (step ∙ ap (λ (b : Bool). cond b (copy.focused q (record c { contexts = xs })) copy.sticks) test) (omega arith) (
        R,
        (a, rank-two a.1),
        (contexts-taken g m s.frames w.0 w.1 cs xs R (subst (λ (U : PlainPath). ContextsTake g (oldest m s.frames) cs xs U) h w.2), w.3, w.4, w.5, w.6),
      ))
  field-meets i p q R P s c e a k x Q m cs xs step held w =
      let f = sym (ap (λ (S : PlainPath). first_asked S) e) ∙ held-asked g held in absurd cc

  -- an acceptor
  pub accept-meets : (n y : ℕ) (r : Option ℕ) (b : Tree) (at : Place) (j : ℕ) (qs : List Tree) (G : List PlainPaths) (X : DataTy) (P : PlainPath) (s : PeState) (c : CopyState) →
      P ≡ end (acceptor_atom X) → IsBody g s.frames r another (length G) j b → Answered g (only (data_atom X) ∷ G) j b (end atoms.Comm) → Enters g.table g.code j (at_end a_run) y →
      FramesAnswer g s.frames r qs G → Meets s c (copy.accept_meets n (closed_by 1 qs b) at) (accept_meets n y r) P
  accept-meets n y r b at j qs G X P s c e node a en env k x Q m cs xs step (acceptor {v = v} D i) w =
      let same : D ≡ X = acceptor_atom-same D X (end-same refl e) in
      let typed : datum_atom v ≡ data_atom X = i ∙ ap (λ (Y : DataTy). data_atom Y) same in
      one_move g step (omega arith)
      (bound-simulates g (record s { contexts = cs }) (record c { contexts = xs }) n y r (datum v) (lit v at) (only (data_atom X)) b j qs G (end atoms.Comm)
      (refl, omega arith, (λ S some. above-datum X S some ∙ ap end (sym typed)), inl (at, refl)) env node a en (contexts-taken g m s.frames w.0 w.1 cs xs (end atoms.Comm) w.2, w.3, w.4, w.5, w.6))
  accept-meets n y r b at j qs G X P s c e node a en env k x Q m cs xs step held w =
      let f = sym (assignment_asked X e) ∙ held-asked g held in absurd cc
