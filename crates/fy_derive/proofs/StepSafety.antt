-- A step from a typed state leads to a typed state, or to a fault.
use Rattle.std.proofs.Common.{ℕ, ◌+◌, ◌≡◌, List, [], ◌∷◌, Option, Some, None, refl, sym, ap, ◌∙◌, subst, inl, inr, arith}
use Rattle.fy_base.specs.declared.data.Place.{Place}
use Rattle.fy_types.specs.declared.types.Atom.TheVariants as atoms
use Rattle.fy_types.specs.Paths.{PlainPath, PlainPaths, end, call, pick, paths}
use Rattle.fy_types.specs.PathOrder.{HasBelow}
use Rattle.fy_types.specs.Types.{PlainType}
use Rattle.fy_phrase.specs.declared.phrase.DataTy.TheVariants as data_type
use Rattle.fy_phrase.specs.declared.phrase.MarkKind.TheVariants as marks
use Rattle.fy_phrase.specs.Tree.{Tree, var, lit, unary, binary, cond, case, lam, app, field, sel, merge, let_in, rec, skip, seq, assign, while_do, forever, new, cells, escape, accept, put, read, mark}
use Rattle.fy_phrase.specs.Contexts.{CopyContext, Pushed}
use Rattle.fy_phrase.specs.Copy.{CopyState, CopyMove, answered, taken, skip_meets, lam_meets, field_meets, accept_meets, sequence_meets, own, element, byte_or_end, step_at, going, standing_at}
use Rattle.fy_derive.specs.Atoms.{data_atom, sequence_type, datum_atom, operand_atom}
use Rattle.fy_derive.proofs.PathTyping.{one, many, jump, World, EachPath, EachPath-map, IsRun, only, Answers, answers-above, answers-older}
use Rattle.fy_derive.proofs.CopyingIn.{copied-in}
use Rattle.fy_derive.proofs.TypedAnswers.{EachPath-self}
use Rattle.fy_derive.proofs.StateTyping.{Takes, AllTake, Holds, Keeps, GoesOn, goes-on, Holds-more}
use Rattle.fy_derive.proofs.Asking.{first_asked, assignment_asked, run_asked, demanded-answers}
use Rattle.fy_derive.proofs.ContextSafety.{Behind, focused-goes, skip-keeps, lam-keeps, field-keeps, accept-keeps, cell-keeps, sequence-path, sequence-keeps, jump-keeps}

-- what meets the newest context, and leaves the load
taken-keeps : (meets : CopyContext → CopyState → CopyMove) (cs : List (Pushed CopyContext)) (s : CopyState) (W : World) (P : PlainPath) →
    (IsRun P → ⊥) → AllTake W P cs → Holds s.next W s.store →
    ((x : CopyContext) (u : CopyState) → Takes (Behind u) W P x → Holds u.next W u.store → Keeps (meets x u)) → Keeps (taken meets cs s)
taken-keeps meets [] s W P apart t h f = absurd (apart t.1)
taken-keeps meets (c ∷ cs) s W P apart t h f = f c.context (record s { contexts = cs }) t h

-- a finished command, where a context is left
finished-keeps : (at : Place) (cs : List (Pushed CopyContext)) (s : CopyState) (W : World) (P : PlainPath) → standing_at (skip at) cs ≡ going →
    P ≡ end atoms.Comm → AllTake W P cs → Holds s.next W s.store → Keeps (answered (skip_meets at) cs s)
finished-keeps at [] s W P on e t h = absurd cc
finished-keeps at (c ∷ cs) s W P on e t h = skip-keeps at c.context (record s { contexts = cs; load = c.base }) W P e t h

-- a recursion answers each path of its type
rec-answers : (W : World) (d : ℕ) (T : PlainType) (b : Tree) (at : Place) → EachPath (λ Q. Answers W (paths T ∷ []) b Q) (paths T) →
    EachPath (λ Q. Answers W [] (rec d T b at) Q) (paths T)
rec-answers W d T b at each = EachPath-map (paths T) (λ R some. (some, each)) (EachPath-self (paths T))

byte-is : (byte : Option ℕ) → datum_atom (byte_or_end byte) ≡ atoms.Int
byte-is (Some b) = refl
byte-is None = refl

call-not_run : {P R : PlainPath} {D : PlainPaths} → P ≡ call D R → IsRun P → ⊥
call-not_run e is = let f = sym (ap (λ Q. first_asked Q) e) ∙ run_asked is in cc

pick-not_run : {P R : PlainPath} {i : ℕ} → P ≡ pick i R → IsRun P → ⊥
pick-not_run e is = let f = sym (ap (λ Q. first_asked Q) e) ∙ run_asked is in cc

sequence-not_run : {P : PlainPath} → HasBelow (paths sequence_type) P → IsRun P → ⊥
sequence-not_run some is = elim (sequence-path some) [ inl c ↦ call-not_run c.2 is | inr e ↦ pick-not_run e is ]

-- data meet their contexts apart
abbrev IsNoDatum : Tree → Type 0
IsNoDatum (lit v at) = ⊥
IsNoDatum p = Unit {0}

step-keeps : (p : Tree) (s : CopyState) (W : World) (P : PlainPath) → IsNoDatum p → standing_at p s.contexts ≡ going → Answers W [] p P → Behind s W P →
    Holds s.next W s.store → Keeps (step_at p s)
step-keeps (var k at) s W P other on a t h = elim a [ ]
step-keeps (lit v at) s W P other on a t h = absurd other
step-keeps (unary op p at) s W P other on a t h = (W, end (operand_atom op), a.1, (refl, subst (λ Q. Behind s W Q) a.0 t), h)
step-keeps (binary op p q at) s W P other on a t h =
    (W, end (data_atom a.0), a.3, (a.0, a.1, refl, a.4, subst (λ Q. Behind s W Q) a.2 t), h)
step-keeps (cond b p q at) s W P other on a t h = (W, end atoms.Bool, a.0, (refl, P, a.1, a.2, t), h)
step-keeps (case e parts at) s W P other on a t h = (W, end atoms.Int, a.0, (refl, P, a.1, t), h)
step-keeps (lam d As b at) s W P other on a t h =
    taken-keeps (lam_meets d b) s.contexts s W P (call-not_run a.2) t h (λ x u k g. lam-keeps d b x u W P a.0 a.1 a.2 a.3 k g)
step-keeps (app p q at) s W P other on a t h = (W, call a.0 P, a.1, (a.0, P, refl, a.2, t), h)
step-keeps (field i p at) s W P other on a t h =
    taken-keeps (field_meets i p) s.contexts s W P (pick-not_run a.1) t h (λ x u k g. field-keeps i p x u W P a.0 a.1 a.2 k g)
step-keeps (sel p i at) s W P other on a t h = (W, pick i P, a, (P, refl, t), h)
step-keeps (merge p q at) s W P other on a t h = (W, P, demanded-answers p q s.contexts W P a.0 a.1 a.2 t, t, h)
step-keeps (let_in d p b at) s W P other on a t h =
    (W, P, copied-in W p b a.0 P a.1 a.2, t, Holds-more W s.store s.next (s.next + 1) (omega arith) h)
step-keeps (rec d T b at) s W P other on a t h = (
  W,
  P,
  copied-in W (rec d T b at) b (paths T) P (rec-answers W d T b at a.1) (answers-above W b (paths T ∷ []) a.0 a.1),
  t,
  Holds-more W s.store s.next (s.next + 1) (omega arith) h,
)
step-keeps (skip at) s W P other on a t h = finished-keeps at s.contexts s W P on a t h
step-keeps (seq p q at) s W P other on a t h = (W, end atoms.Comm, a.1, (refl, P, a.2, t), h)
step-keeps (assign p q at) s W P other on a t h =
    (W, end (data_atom a.0), a.3, (a.0, refl, a.2, subst (λ Q. Behind s W Q) a.1 t), h)
step-keeps (while_do b c at) s W P other on a t h =
    (W, end atoms.Bool, a.1, (refl, (refl, a.1, a.2), a.2, subst (λ Q. Behind s W Q) a.0 t), h)
step-keeps (forever c at) s W P other on a t h = (W, end atoms.Comm, a.1, (refl, P, a, t), h)
step-keeps (new d D e b at) s W P other on a t h = (W, end (data_atom D), a.1, (D, refl, P, a.0, a.2, t), h)
step-keeps (cells d e b at) s W P other on a t h = (W, end atoms.Int, a.1, (refl, P, a.0, a.2, t), h)
step-keeps (escape d b at) s W P other on a t h =
    let U = jump s.next ∷ W in (
      U,
      end atoms.Comm,
      copied-in U (mark (marks.Jump s.next) at) b (only atoms.Compl) (end atoms.Comm) ((inl refl, (atoms.Compl, refl, refl)), tt)
          (answers-older (jump s.next) W b (only atoms.Compl ∷ []) (end atoms.Comm) a.1),
      (W, refl, refl, subst (λ Q. Behind s W Q) a.0 t),
      Holds-more W s.store s.next (s.next + 1) (omega arith) h,
    )
step-keeps (accept d D b at) s W P other on a t h =
    taken-keeps (accept_meets d b at) s.contexts s W P (λ is. let f = sym (assignment_asked D a.0) ∙ run_asked is in cc) t h
    (λ x u k g. accept-keeps d D b at x u W P a.0 a.1 k g)
step-keeps (put kind p at) s W P other on a t h = (W, _, a.1, (refl, subst (λ Q. Behind s W Q) a.0 t), h)
step-keeps (read p at) s W P other on a t h =
    λ byte. (W, end atoms.IntAcc, a.1, (data_type.Int, refl, byte-is byte, subst (λ Q. Behind s W Q) a.0 t), h)
step-keeps (mark (marks.Cell n) at) s W P other on a t h = cell-keeps own n (one a.0) a.0 at s W P refl a.1 a.2 t h
step-keeps (mark (marks.Jump n) at) s W P other on a t h = jump-keeps n at s.contexts s W P a.0 t h
step-keeps (mark (marks.Sequence n) at) s W P other on a t h =
    taken-keeps (sequence_meets n at) s.contexts s W P (sequence-not_run a.2) t h (λ x u k g. sequence-keeps n a.0 at x u W P a.2 a.1 k g)
step-keeps (mark (marks.Element n i) at) s W P other on a t h = cell-keeps (element i) n (many a.0) data_type.Int at s W P (a.1, refl) a.2 a.3 t h

pub step-goes : (p : Tree) (s : CopyState) (W : World) (P : PlainPath) → standing_at p s.contexts ≡ going → Answers W [] p P → Behind s W P →
    Holds s.next W s.store → GoesOn (step_at p s)
step-goes (lit v at) s W P on a t h = focused-goes v at s.contexts s W P a t h
step-goes p s W P on a t h = goes-on (step_at p s) (step-keeps p s W P tt on a t h)
