-- Runs: step by step, the machine is where the copy rule is.
use Rattle.std.proofs.Common.{ℕ, zero, suc, ◌+◌, ◌-◌, ◌*◌, ◌<◌, ◌≤◌, ◌≡◌, ◌≢◌, List, [], ◌∷◌, ◌++◌, drop, Option, Some, None, slice_get, refl, sym, ap, ◌∙◌, subst, ◌⊎◌, inl, inr, arith, append-nil, append_assoc, le_of_eq}
use Rattle.std.proofs.lemmas.Bool.{cases_lt}
use Rattle.fy_base.specs.declared.data.Place.{Place}
use Rattle.fy_base.specs.declared.data.Datum.{Datum}
use Rattle.fy_base.specs.Outside.{Bytes}
use Rattle.fy_types.specs.declared.types.Atom.TheVariants as atoms
use Rattle.fy_types.specs.Paths.{PlainPath, end}
use Rattle.fy_derive.specs.Shapes.{at_end, a_run}
use Rattle.fy_phrase.specs.Tree.{Tree, merge, skip}
use Rattle.fy_phrase.specs.Contexts.{CopyContext, Pushed}
use Rattle.fy_phrase.specs.Sizes.{nodes}
use Rattle.fy_phrase.specs.Copy.{CopyState, CopyMove, CopyRun, copy_step, copy_after}
use Rattle.fy_phrase.specs.Copy as copy
use Rattle.fy_phrase.proofs.Runs.{after_zero, after_suc, after_first, after_both, over_later}
use Rattle.fy_derive.specs.Atoms.{datum_atom}
use Rattle.fy_derive.proofs.Asking.{datum_asked, run_asked}
use Rattle.pe_code.specs.declared.code.PeInsn.{PeInsn}
use Rattle.pe_code.specs.declared.code.PeItem.{PeItem}
use Rattle.pe_code.specs.Code.{item_at}
use Rattle.fy_base.specs.declared.data.FaultKind.{FaultKind}
use Rattle.pe_machine.specs.States.{Pointer, Frame, Focus, code_at, value, completed, Held, PeState}
use Rattle.pe_machine.specs.Step.{PeMove, goes, puts, takes, faults, executed, item_executed, step_at, pe_step}
use Rattle.pe_machine.specs.Run.{Standing, going, ended, faulted, stuck, gone, standing_at, standing_of, PeRun, settled, ticked, start_run, pe_start, pe_after}
use Rattle.pe_machine.proofs.RunLemmas.{after_zero as pe_zero, after_suc as pe_suc}
use Rattle.pe_right.specs.Entered.{IsEntered, is_entered, within_first, within_later}
use Rattle.pe_right.specs.Right.{Enters, IsInsnAt, by_parts, at_once, fed, IsItemAt}
use Rattle.pe_right.proofs.FirstSteps.{first-item-end, first-item, plain-starts, no-straight, none-fed}
use Rattle.pe_right.proofs.EntryLemmas.{form-plain}
use Rattle.pe_right.specs.Follows.{StandAlike, StandNearlyAlike, HasFaulted, IsReached, IsAsFarAs, FollowsCopyRule}
use Rattle.pe_right.proofs.ClosingLemmas.{closed_by-nothing}
use Rattle.pe_right.proofs.DerivedLemmas.{table-answers}
use Rattle.pe_right.proofs.Invariants.{Compiled, ContextsTake, FocusAnswers, Behind, Simulates, Fills, Follows}
use Rattle.pe_right.proofs.Merges.{merges, merges-few, spare}
use Rattle.pe_right.proofs.NodeLemmas.{under, part-entered, under-merges, whole}
use Rattle.pe_right.proofs.Moves.{Steps, no_step, and_step, at_rest_in, rank-two, extra, MovesIn, executed-weaker, goes_on, fills, takes_byte, IsFollowedIn, by_moves, puts_text, faults_at, faults_within, followed-weaker, more_in, IsExecuted, by_steps, fails_within, meets_after}
use Rattle.pe_right.proofs.MeetingLemmas.{value-followed, finished-followed, fills-followed}
use Rattle.pe_right.proofs.InstructionLemmas.{executed-followed}
use Rattle.pe_right.proofs.Reading.{state-reads}

-- ---- runs of the copy rule

-- a step that leads anywhere is made by a run that goes on
steps_going : (q : Tree) (xs : List (Pushed CopyContext)) (c : CopyState) (m : CopyMove) → c.contexts ≡ xs → copy.step_at q c ≡ m → (m ≡ copy.sticks → ⊥) →
    copy.standing_at q xs ≡ copy.going
steps_going (skip at) [] c m e f apart = absurd (apart (sym f ∙ ap (λ (ys : List (Pushed CopyContext)). copy.answered (copy.skip_meets at) ys c) e))
steps_going (skip at) (x ∷ xs) c m e f apart = refl
steps_going q xs c m e f apart = refl

is_going : (c : CopyState) (m : CopyMove) → copy_step c ≡ m → (m ≡ copy.sticks → ⊥) → copy.standing_of c ≡ copy.going
is_going c m e apart = steps_going c.focus c.contexts c m refl e apart

-- a run that goes on makes a step
ticks : (r : CopyRun) (m : CopyMove) → r.standing ≡ copy.going → copy_step r.state ≡ m → copy.tick r ≡ copy.settled m r
ticks r m e f = ap (λ (st : copy.Standing). copy.ticked st r) e ∙ ap (λ (x : CopyMove). copy.settled x r) f

-- a run after steps that neither put nor take
record After (j : ℕ) (c : CopyRun) (d : CopyState) : Type 0 where
  state : (copy.after_more j c).state ≡ d
  input : (copy.after_more j c).input ≡ c.input
  output : (copy.after_more j c).output ≡ c.output
  standing : (copy.after_more j c).standing ≡ copy.standing_of d
  before : (i : ℕ) → i < j → (copy.after_more i c).standing ≡ copy.going

after-steps : {j : ℕ} {a d : CopyState} (c : CopyRun) → c.state ≡ a → c.standing ≡ copy.standing_of a → Steps j a d → After j c d
after-steps c e f no_step = record {
  state = ap (λ (r : CopyRun). r.state) (after_zero c) ∙ e;
  input = ap (λ (r : CopyRun). r.input) (after_zero c);
  output = ap (λ (r : CopyRun). r.output) (after_zero c);
  standing = ap (λ (r : CopyRun). r.standing) (after_zero c) ∙ f;
  before = λ i l. absurd (omega arith);
}
after-steps c e f (and_step {j = j} {c = a} {d = b} {e = d} h rest) =
    let up : c.standing ≡ copy.going = f ∙ is_going a (copy.goes b) h (λ q. cc) in
    let next : CopyRun = record c { state = b; standing = copy.standing_of b } in
    let one : copy.tick c ≡ next = ticks c (copy.goes b) up (ap (λ (s : CopyState). copy_step s) e ∙ h) in
    let more : (i : ℕ) → copy.after_more (suc i) c ≡ copy.after_more i next = λ i. after_first i c ∙ ap (λ (r : CopyRun). copy.after_more i r) one in
    let x = after-steps next refl refl rest in
    record {
      state = ap (λ (r : CopyRun). r.state) (more j) ∙ x.state;
      input = ap (λ (r : CopyRun). r.input) (more j) ∙ x.input;
      output = ap (λ (r : CopyRun). r.output) (more j) ∙ x.output;
      standing = ap (λ (r : CopyRun). r.standing) (more j) ∙ x.standing;
      before = before-all c next j up more x.before;
    }
  where
    before-all : (c next : CopyRun) (j : ℕ) → c.standing ≡ copy.going → ((i : ℕ) → copy.after_more (suc i) c ≡ copy.after_more i next) →
        ((i : ℕ) → i < j → (copy.after_more i next).standing ≡ copy.going) → (i : ℕ) → i < suc j → (copy.after_more i c).standing ≡ copy.going
    before-all c next j up more before zero l = ap (λ (r : CopyRun). r.standing) (after_zero c) ∙ up
    before-all c next j up more before (suc i) l = ap (λ (r : CopyRun). r.standing) (more i) ∙ before i (omega arith)

-- one step more, with its end
after-more-one : {j : ℕ} {c : CopyRun} {d : CopyState} (m : CopyMove) → After j c d → copy_step d ≡ m → (m ≡ copy.sticks → ⊥) →
    (copy.after_more (suc j) c ≡ copy.settled m (copy.after_more j c)) × ((i : ℕ) → i < suc j → (copy.after_more i c).standing ≡ copy.going)
after-more-one {j = j} {c = c} {d = d} m x e apart =
    let up : (copy.after_more j c).standing ≡ copy.going = x.standing ∙ is_going d m e apart in (
      after_suc j c ∙ ticks (copy.after_more j c) m up (ap (λ (s : CopyState). copy_step s) x.state ∙ e),
      λ i l. elim (cases_lt i j) [ inl k ↦ x.before i k | inr k ↦ (let same : i ≡ j = omega arith in ap (λ (n : ℕ). (copy.after_more n c).standing) same ∙ up) ],
    )

-- the output grows
tick-grows : (r : CopyRun) → (more : Bytes) × ((copy.tick r).output ≡ r.output ++ more)
tick-grows r = by_standing r.standing
  where
    by_move : (m : CopyMove) → (more : Bytes) × ((copy.settled m r).output ≡ r.output ++ more)
    by_move (copy.goes s) = ([], sym (append-nil r.output))
    by_move (copy.puts text s) = (text, refl)
    by_move (copy.takes go) = ([], sym (append-nil r.output))
    by_move (copy.faults kind at) = ([], sym (append-nil r.output))
    by_move copy.sticks = ([], sym (append-nil r.output))

    by_standing : (st : copy.Standing) → (more : Bytes) × ((copy.ticked st r).output ≡ r.output ++ more)
    by_standing copy.going = by_move (copy_step r.state)
    by_standing copy.ended = ([], sym (append-nil r.output))
    by_standing (copy.faulted kind at) = ([], sym (append-nil r.output))
    by_standing copy.stuck = ([], sym (append-nil r.output))

output-grows : (k : ℕ) (r : CopyRun) → (more : Bytes) × ((copy.after_more k r).output ≡ r.output ++ more)
output-grows zero r = ([], ap (λ (x : CopyRun). x.output) (after_zero r) ∙ sym (append-nil r.output))
output-grows (suc k) r =
    let x = output-grows k r in
    let y = tick-grows (copy.after_more k r) in
    (x.0 ++ y.0, ap (λ (z : CopyRun). z.output) (after_suc k r) ∙ y.1 ∙ ap (λ (o : Bytes). o ++ y.0) x.1 ∙ append_assoc r.output x.0 y.0)

-- a run of as many steps and more has put as much and more
output-later : (m j : ℕ) (r : CopyRun) → m ≤ j → (more : Bytes) × ((copy.after_more j r).output ≡ (copy.after_more m r).output ++ more)
output-later m j r le =
    let x = output-grows (j - m) (copy.after_more m r) in
    let e : j ≡ m + (j - m) = omega arith in
    (x.0, ap (λ (n : ℕ). (copy.after_more n r).output) e ∙ ap (λ (z : CopyRun). z.output) (after_both m (j - m) r) ∙ x.1)

-- ---- how both stand

copy-standing : (q : Tree) (xs : List (Pushed CopyContext)) → (copy.standing_at q xs ≡ copy.going) ⊎ (copy.standing_at q xs ≡ copy.ended)
copy-standing (skip at) [] = inr refl
copy-standing (skip at) (x ∷ xs) = inl refl
copy-standing q xs = inl refl

-- where the machine's run is over, both stand alike
strictly : (st : Standing) (t : copy.Standing) → st ≢ going → StandNearlyAlike st t → StandAlike st t
strictly going t apart h = absurd (apart refl)
strictly ended t apart h = h
strictly (faulted kind at) t apart h = h
strictly stuck t apart h = h
strictly gone t apart h = h

both-over : (st : Standing) (t : copy.Standing) → st ≢ going → StandAlike st t → t ≢ copy.going
both-over going t apart h e = apart refl
both-over ended t apart h e = let f = sym h ∙ e in cc
both-over (faulted kind at) t apart h e = let f = sym h ∙ e in cc
both-over stuck t apart h e = h
both-over gone t apart h e = h

is_it_going : (st : Standing) → (st ≡ going) ⊎ (st ≢ going)
is_it_going going = inl refl
is_it_going ended = inr (λ e. cc)
is_it_going (faulted kind at) = inr (λ e. cc)
is_it_going stuck = inr (λ e. cc)
is_it_going gone = inr (λ e. cc)

module _ (g : Compiled) where
  -- ---- a step

  -- how many steps of the copy rule go with one from the focus, and how many more where it comes to a datum
  abbrev base : Focus → ℕ
  base (code_at p) = suc (suc (merges g.phrase))
  base (value v) = 2
  base completed = 2

  abbrev more : Focus → ℕ
  more (code_at p) = extra g
  more (value v) = 0
  more completed = 0

  -- and before it meets a datum
  abbrev far : Focus → ℕ
  far (code_at p) = more_in g p.frame
  far (value v) = 0
  far completed = 0

  -- what is left for a step to a datum, which is due only with the step behind it
  abbrev gap : Focus → ℕ
  gap (code_at p) = spare g.phrase
  gap (value v) = 0
  gap completed = 0

  gap-few : (f : Focus) → gap f ≤ spare g.phrase
  gap-few (code_at p) = omega arith
  gap-few (value v) = omega arith
  gap-few completed = omega arith

  all-nodes : spare g.phrase + merges g.phrase + 1 ≡ nodes g.phrase
  all-nodes = let h = merges-few g.phrase in omega arith

  -- only of a run that goes on
  abbrev gap_of : Standing → Focus → ℕ
  gap_of going f = gap f
  gap_of ended f = 0
  gap_of (faulted kind at) f = 0
  gap_of stuck f = 0
  gap_of gone f = 0

  gap-less : (st : Standing) (f : Focus) → gap_of st f ≤ gap f
  gap-less going f = omega arith
  gap-less ended f = omega arith
  gap-less (faulted kind at) f = omega arith
  gap-less stuck f = omega arith
  gap-less gone f = omega arith

  -- a step's count is within the most, with what is left then
  abbrev Room : (x b most : ℕ) → PeMove → Type 0
  Room x b most m =
      ((n : ℕ) (s : PeState) (d : CopyState) → m ≡ goes s → Simulates g n s d → b + at_rest_in x s.frames s.focus + gap s.focus ≤ most)
      × ((kind : FaultKind) (at : Place) → m ≡ faults kind at → b + x ≤ most)

  -- which is one phrase's nodes and one more, with what was left before
  abbrev most_after : ℕ → ℕ
  most_after h = nodes g.phrase + 1 + h

  -- the count of a step from the focus, also where it meets a datum
  abbrev StepRoom : ℕ → Focus → PeMove → Type 0
  StepRoom h f m = Room (more f) (base f) (most_after h) m × (base f + far f + spare g.phrase ≤ most_after h)

  no-rest : (fs : List Frame) (f : Focus) → at_rest_in 0 fs f ≡ 0
  no-rest fs (code_at p) = refl
  no-rest fs (value v) = refl
  no-rest [] completed = refl
  no-rest (e ∷ fs) completed = refl

  -- of a step from a datum
  datum-room : (m : PeMove) → Room 0 2 (2 + spare g.phrase) m
  datum-room m = ((λ n s d e t. let none = no-rest s.frames s.focus in let few = gap-few s.focus in omega (arith, none, few)), λ kind at e. omega arith)

  far-few : (o : Option ℕ) → more_in g o ≤ spare g.phrase
  far-few None = omega arith
  far-few (Some n) = omega arith

  room-far : (f : Focus) → base f + far f + spare g.phrase ≤ nodes g.phrase + 1 + gap f
  room-far (code_at p) = let h = all-nodes in let few = far-few p.frame in omega (arith, h, few)
  room-far (value v) = let h = all-nodes in omega arith
  room-far completed = let h = all-nodes in omega arith

  room-between : (f : Focus) (fs : List Frame) (e : Focus) → base f + at_rest_in (more f) fs e + gap e ≤ nodes g.phrase + 1 + gap f
  room-between (code_at p) fs (code_at q) = let h = all-nodes in omega arith
  room-between (code_at p) fs (value v) = let h = all-nodes in omega arith
  room-between (code_at p) [] completed = let h = all-nodes in omega arith
  room-between (code_at p) (f ∷ fs) completed = let h = all-nodes in omega arith
  room-between (value u) fs (code_at q) = let h = all-nodes in omega arith
  room-between (value u) fs (value v) = let h = all-nodes in omega arith
  room-between (value u) [] completed = let h = all-nodes in omega arith
  room-between (value u) (f ∷ fs) completed = let h = all-nodes in omega arith
  room-between completed fs (code_at q) = let h = all-nodes in omega arith
  room-between completed fs (value v) = let h = all-nodes in omega arith
  room-between completed [] completed = let h = all-nodes in omega arith
  room-between completed (f ∷ fs) completed = let h = all-nodes in omega arith

  room-faulting : (f : Focus) → base f + more f ≤ nodes g.phrase + 1 + gap f
  room-faulting (code_at p) = let h = all-nodes in omega arith
  room-faulting (value v) = let h = all-nodes in omega arith
  room-faulting completed = let h = all-nodes in omega arith

  room-left : (f : Focus) → base f + spare g.phrase ≤ nodes g.phrase + 1
  room-left (code_at p) = let h = all-nodes in omega arith
  room-left (value v) = let h = all-nodes in omega arith
  room-left completed = let h = all-nodes in omega arith

  no-contexts : (fs : List Frame) (xs : List (Pushed CopyContext)) (P : PlainPath) (v : Datum) → P ≡ end (datum_atom v) → ContextsTake g fs [] xs P → ⊥
  no-contexts fs [] P v i k = let f = sym (datum_asked v i) ∙ run_asked k.0 in cc
  no-contexts fs (x ∷ xs) P v i k = k

  -- nor does it fault: a phrase that is evaluated in one step is no command, or needs a cell
  starts-well : (k : ℕ) (q : Tree) (i : PeInsn) (d : ℕ) (at : Place) (here : Pointer) (kind : FaultKind) (there : Place) → IsInsnAt g.handed g.straight g.table g.code [] k q (at_end a_run) i →
      executed g.code i d at here pe_start ≢ faults kind there
  starts-well k q i d at here kind there (by_parts plain h) e = plain-starts g.code i d at here kind there (form-plain h) e
  starts-well k q i d at here kind there (at_once is h) e = no-straight g.code q (at_end a_run) i refl h
  starts-well k q i d at here kind there (fed is h) e = none-fed h

  node-starts : (q : Tree) (k : ℕ) (kind : FaultKind) (at : Place) → IsEntered g.straight [] 0 g.phrase [] k q → Enters g.table g.code k (at_end a_run) 0 → pe_step g.code pe_start ≢ faults kind at
  node-starts (merge p q place) k kind at n en e =
      let r = g.right.right [] k 0 (merge p q place) (at_end a_run) n en in
      elim r.3 [
        | inl x ↦ node-starts q (k + 1 + nodes p) kind at (part-entered g.straight n r.2 (within_later (within_first is_entered))) x.1 e
        | inr x ↦ node-starts p (k + 1) kind at (part-entered g.straight n r.2 (within_first is_entered)) x.1 e
      ]
  node-starts q k kind at n en e =
      let it : (item : PeItem) × (item_at g.code 0 ≡ Some item) × IsItemAt g.handed g.straight g.table g.code [] k q (at_end a_run) item = g.right.right [] k 0 q (at_end a_run) n en in
      starts-well k q it.0.insn it.0.depth it.0.place (record { address = 0; frame = None }) kind at it.2.insn
      (sym (ap (λ (o : Option PeItem). item_executed g.code o (record { address = 0; frame = None }) pe_start) it.1) ∙ e)

  first-fault : (kind : FaultKind) (at : Place) → pe_step g.code pe_start ≢ faults kind at
  first-fault kind at = node-starts g.phrase 0 kind at is_entered g.right.program

  -- the first step comes to no datum
  first-goes : (n : ℕ) (s : PeState) (d : CopyState) → pe_step g.code pe_start ≡ goes s → Simulates g n s d →
      base pe_start.focus + at_rest_in (more pe_start.focus) s.frames s.focus + gap s.focus ≤ nodes g.phrase + 1 + 0
  first-goes n s d e t = by s.focus refl
    where
      by : (f : Focus) → s.focus ≡ f → base pe_start.focus + at_rest_in (more pe_start.focus) s.frames f + gap f ≤ nodes g.phrase + 1 + 0
      by (code_at p) i = let h = all-nodes in omega arith
      by completed i =
          let none = first-item-end g.code (item_at g.code 0) (record { address = 0; frame = None }) s e i in
          let h = all-nodes in
          subst (λ (fs : List Frame). base pe_start.focus + at_rest_in (more pe_start.focus) fs completed + gap completed ≤ nodes g.phrase + 1 + 0) (sym none) (omega arith)
      by (value v) i =
          let none = first-item g.code (item_at g.code 0) (record { address = 0; frame = None }) s v e i in
          let a = subst (λ (f : Focus). FocusAnswers g n s.frames f d.focus t.0) i t.1 in
          absurd (no-contexts s.frames d.contexts t.0 v a.2 (subst (λ (cs : List Held). ContextsTake g s.frames cs d.contexts t.0) none t.2.0))

  first-room : StepRoom 0 pe_start.focus (pe_step g.code pe_start)
  first-room = (((λ n s d e t. first-goes n s d e t), λ kind at e. absurd (first-fault kind at e)), (let h = all-nodes in omega arith))

  -- a step from a state that simulates, where a command that is finished has a context
  abbrev IsStep : (k : ℕ) → Focus → CopyState → PeMove → Type 0
  IsStep k f c m = IsFollowedIn g (more f) k (base f) c m ⊎ IsExecuted g (more f) (far f) k (base f) c m

  step-followed : (k : ℕ) (f : Focus) (P : PlainPath) (s : PeState) (c : CopyState) → FocusAnswers g k s.frames f c.focus P → Behind g s c P → standing_at f s.contexts ≡ going →
      IsStep k f c (step_at g.code f s)
  step-followed k (code_at p) P s c a b up =
      inr (executed-weaker g a.1 (let l = under-merges (under g a.0.4) in omega arith) (executed-followed g s p a.0.2 a.0.3 a.0.7 a.0.1 a.0.0 P c a.0.4 a.0.5 a.0.6 a.0.8 b))
  step-followed k (value v) P s c a b up = inl (followed-weaker g (omega arith) (omega arith) (value-followed g v a.0 s c P a.1 a.2 b))
  step-followed k completed P s c a b up =
      inl (followed-weaker g (omega arith) (omega arith)
      (finished-followed g a.0 s c P a.1 a.2 (λ none. let f = sym (ap (λ (cs : List Held). standing_at completed cs) none) ∙ up in cc) b))

  state-followed : (k : ℕ) (s : PeState) (c : CopyState) → Follows g k s c → standing_of s ≡ going → IsStep k s.focus c (pe_step g.code s)
  state-followed k s c (inl t) up = step-followed k s.focus t.0 s c t.1 t.2 up
  state-followed k s c (inr h) up =
      subst (λ (f : Focus). IsStep k f c (pe_step g.code s)) (sym h.focus) (inl (followed-weaker g (omega arith) (omega arith) (fills-followed g s c h)))

  standing-alike : (k : ℕ) (fs : List Frame) (f : Focus) (q : Tree) (cs : List Held) (xs : List (Pushed CopyContext)) (P : PlainPath) → FocusAnswers g k fs f q P →
      ContextsTake g fs cs xs P → StandNearlyAlike (standing_at f cs) (copy.standing_at q xs)
  standing-alike k fs (code_at p) q cs xs P a t = copy-standing q xs
  standing-alike k fs (value v) q cs xs P a t = inl (ap (λ (p : Tree). copy.standing_at p xs) a.1)
  standing-alike k fs completed q [] [] P a t = ap (λ (p : Tree). copy.standing_at p []) a.1
  standing-alike k fs completed q (c ∷ cs) (x ∷ xs) P a t = inl (ap (λ (p : Tree). copy.standing_at p (x ∷ xs)) a.1)
  standing-alike k fs completed q [] (x ∷ xs) P a t = absurd t
  standing-alike k fs completed q (c ∷ cs) [] P a t = absurd t

  -- where a sequence is filled, both go on
  filling-alike : (s : PeState) (c : CopyState) → Fills g s c → StandNearlyAlike (standing_of s) (copy.standing_of c)
  filling-alike s c h =
      subst (λ (f : Focus). StandNearlyAlike (standing_at f s.contexts) (copy.standing_of c)) (sym h.focus)
      (inl (ap (λ (q : Tree). copy.standing_at q c.contexts) h.copy_focus))

  states-alike : (k : ℕ) (s : PeState) (c : CopyState) → Follows g k s c → StandNearlyAlike (standing_of s) (copy.standing_of c)
  states-alike k s c (inl t) = standing-alike k s.frames s.focus c.focus s.contexts c.contexts t.0 t.1 t.2.0
  states-alike k s c (inr h) = filling-alike s c h

  -- ---- runs

  same-load : (k : ℕ) (s : PeState) (c : CopyState) → Follows g k s c → c.load ≡ s.load
  same-load k s c (inl t) = t.2.4
  same-load k s c (inr h) = h.load

  -- the run of the machine is that of the copy rule, and the state of one that goes on has the rank
  record SameRun (k : ℕ) (r : PeRun) (c : CopyRun) : Type 0 where
    state : HasFaulted r.standing ⊎ Follows g k r.state c.state
    load : r.state.load ≤ c.state.load
    standing : StandNearlyAlike r.standing c.standing
    input : r.input ≡ c.input
    output : r.output ≡ c.output
    fresh : r.standing ≡ going → (standing_of r.state ≡ going) × (c.standing ≡ copy.standing_of c.state)

  -- what a step of the machine comes to: some steps of the copy rule, with what is left then the most, or none and a lower rank
  record Ticked (most k : ℕ) (r : PeRun) (c : CopyRun) : Type 0 where
    steps : ℕ
    rank : ℕ
    few : steps + gap_of r.standing r.state.focus ≤ most
    least : rank ≤ 2
    lower : r.standing ≡ going → steps ≡ 0 → rank < k
    same : SameRun rank r (copy.after_more steps c)
    before : (i : ℕ) → i < steps → (copy.after_more i c).standing ≡ copy.going

  -- after a step to states that simulate
  fresh-run : (k : ℕ) (s : PeState) (d : CopyState) (i j o p : Bytes) → Follows g k s d → i ≡ j → o ≡ p →
      SameRun k (record { state = s; input = i; output = o; standing = standing_of s }) (record { state = d; input = j; output = p; standing = copy.standing_of d })
  fresh-run k s d i j o p t e f = record {
    state = inr t;
    load = le_of_eq (sym (same-load k s d t));
    standing = states-alike k s d t;
    input = e;
    output = f;
    fresh = λ up. (up, refl);
  }

  moves-tick : {x b : ℕ} (h k : ℕ) (r : PeRun) (c : CopyRun) (m : PeMove) → Room x b h m → b + spare g.phrase ≤ h → c.standing ≡ copy.standing_of c.state → r.input ≡ c.input → r.output ≡ c.output →
      MovesIn g x k b c.state m → Ticked h k (settled m r) c
  moves-tick h k r c m room left st ei eo (goes_on {j = j} {m = s} {d = d} n x l z w t) =
      let y = after-steps c refl st x in
      record {
        steps = j;
        rank = n;
        few = (let most = room.0 n s d refl t in let less = gap-less (standing_of s) s.focus in omega (arith, l, most, less));
        least = w;
        lower = λ up none. z none;
        same = record {
          state = inr (subst (λ (e : CopyState). Follows g n s e) (sym y.state) (inl t));
          load = subst (λ (e : CopyState). s.load ≤ e.load) (sym y.state) (le_of_eq (sym (same-load n s d (inl t))));
          standing = subst (λ (e : copy.Standing). StandNearlyAlike (standing_of s) e) (sym y.standing) (states-alike n s d (inl t));
          input = ei ∙ sym y.input;
          output = eo ∙ sym y.output;
          fresh = λ up. (up, y.standing ∙ ap (λ (e : CopyState). copy.standing_of e) (sym y.state));
        };
        before = y.before;
      }
  moves-tick h k r c m room left st ei eo (fills {j = j} {m = s} {d = d} x l some t) =
      let y = after-steps c refl st x in
      record {
        steps = j;
        rank = 2;
        few = (let most = gap-few s.focus in let less = gap-less (standing_of s) s.focus in omega (arith, l, left, most, less));
        least = omega arith;
        lower = λ up none. absurd (omega arith);
        same = record {
          state = inr (subst (λ (e : CopyState). Follows g 2 s e) (sym y.state) (inr t));
          load = subst (λ (e : CopyState). s.load ≤ e.load) (sym y.state) (le_of_eq (sym (same-load 2 s d (inr t))));
          standing = subst (λ (e : copy.Standing). StandNearlyAlike (standing_of s) e) (sym y.standing) (states-alike 2 s d (inr t));
          input = ei ∙ sym y.input;
          output = eo ∙ sym y.output;
          fresh = λ up. (up, y.standing ∙ ap (λ (e : CopyState). copy.standing_of e) (sym y.state));
        };
        before = y.before;
      }
  moves-tick h k r c m room left st ei eo (takes_byte {j = j} {go = go} {d = d} to x l f t) =
      let y = after-steps c refl st x in
      let one = after-more-one (copy.takes to) y f (λ q. cc) in
      let here = ei ∙ sym y.input in
      let byte : slice_get r.input 0 ≡ slice_get (copy.after_more j c).input 0 = ap (λ (i : Bytes). slice_get i 0) here in
      let u : Option ℕ = slice_get (copy.after_more j c).input 0 in
      record {
        steps = suc j;
        rank = 2;
        few =
            (let most = gap-few (settled (takes go) r).state.focus in
            let less = gap-less (settled (takes go) r).standing (settled (takes go) r).state.focus in
            omega (arith, l, left, most, less));
        least = omega arith;
        lower = λ up none. absurd (omega arith);
        same = subst (λ (z : CopyRun). SameRun 2 (settled (takes go) r) z) (sym one.0)
            (subst (λ (o : Option ℕ). SameRun 2 (record { state = go o; input = drop 1 r.input; output = r.output; standing = standing_of (go o) }) (copy.settled (copy.takes to) (copy.after_more j c))) (sym byte)
            (fresh-run 2 (go u) (to u) (drop 1 r.input) (drop 1 (copy.after_more j c).input) r.output (copy.after_more j c).output (inl (t u)) (ap (λ (i : Bytes). drop 1 i) here) (eo ∙ sym y.output)));
        before = one.1;
      }

  followed-tick : {x b : ℕ} (h k : ℕ) (r : PeRun) (c : CopyRun) (m : PeMove) → Room x b h m → b + spare g.phrase ≤ h → r.state.load ≤ c.state.load → k ≤ 2 → c.standing ≡ copy.standing_of c.state → r.input ≡ c.input → r.output ≡ c.output →
      IsFollowedIn g x k b c.state m → Ticked h k (settled m r) c
  followed-tick h k r c m room left now least st ei eo (by_moves x) = moves-tick h k r c m room left st ei eo x
  followed-tick h k r c m room left now least st ei eo (puts_text {text = text} {m = s} {d = d} l e t) =
      let y = after-steps c refl st no_step in
      let one = after-more-one (copy.puts text d) y e (λ q. cc) in
      record {
        steps = 1;
        rank = 2;
        few = (let most = gap-few s.focus in let less = gap-less (standing_of s) s.focus in omega (arith, most, less, left, l));
        least = omega arith;
        lower = λ up none. absurd (omega arith);
        same = subst (λ (z : CopyRun). SameRun 2 (settled (puts text s) r) z) (sym one.0)
            (fresh-run 2 s d r.input (copy.after_more 0 c).input (r.output ++ text) ((copy.after_more 0 c).output ++ text) (inl t) (ei ∙ sym y.input)
            (ap (λ (o : Bytes). o ++ text) (eo ∙ sym y.output)));
        before = one.1;
      }
  followed-tick h k r c m room left now least st ei eo (faults_at {kind = kind} {at = at} l e) =
      let y = after-steps c refl st no_step in
      let one = after-more-one (copy.faults kind at) y e (λ q. cc) in
      record {
        steps = 1;
        rank = k;
        few = omega (arith, left, l);
        least = least;
        lower = λ up none. absurd (omega arith);
        same = subst (λ (z : CopyRun). SameRun k (settled (faults kind at) r) z) (sym one.0) (record {
          state = inl tt;
          load = subst (λ (d : CopyState). r.state.load ≤ d.load) (sym y.state) now;
          standing = refl;
          input = ei ∙ sym y.input;
          output = eo ∙ sym y.output;
          fresh = λ up. absurd cc;
        });
        before = one.1;
      }
  followed-tick h k r c m room left now least st ei eo (faults_within {j = j} {kind = kind} {at = at} {d = d} x l e up) =
      let y = after-steps c refl st x in
      let one = after-more-one (copy.faults kind at) y e (λ q. cc) in
      record {
        steps = suc j;
        rank = k;
        few = (let most = room.1 kind at refl in omega (arith, l, most));
        least = least;
        lower = λ going none. absurd (omega arith);
        same = subst (λ (z : CopyRun). SameRun k (settled (faults kind at) r) z) (sym one.0) (record {
          state = inl tt;
          load = subst (λ (z : CopyState). r.state.load ≤ z.load) (sym y.state) (omega (arith, up, now));
          standing = refl;
          input = ei ∙ sym y.input;
          output = eo ∙ sym y.output;
          fresh = λ going. absurd cc;
        });
        before = one.1;
      }

  -- steps of the copy rule before one that goes on
  after-tick : (i n h k : ℕ) (r t : PeRun) (c : CopyRun) → 1 ≤ i → i + n ≤ h → ((j : ℕ) → j < i → (copy.after_more j c).standing ≡ copy.going) → Ticked n 2 t (copy.after_more i c) → Ticked h k t c
  after-tick i n h k r t c some few before x = record {
    steps = i + x.steps;
    rank = x.rank;
    few = (let f = x.few in omega (arith, f, few));
    least = x.least;
    lower = λ up none. absurd (omega (arith, some, none));
    same = subst (λ (z : CopyRun). SameRun x.rank t z) (sym (after_both i x.steps c)) x.same;
    before = λ j l. elim (cases_lt j i) [
      | inl less ↦ before j less
      | inr more ↦
          let e : j ≡ i + (j - i) = omega arith in
          ap (λ (n : ℕ). (copy.after_more n c).standing) e ∙ ap (λ (z : CopyRun). z.standing) (after_both i (j - i) c) ∙ x.before (j - i) (omega arith)
    ];
  }

  executed-tick : {x y b : ℕ} (h k : ℕ) (r : PeRun) (c : CopyRun) (m : PeMove) → Room x b h m → b + spare g.phrase ≤ h → b + y + spare g.phrase ≤ h → r.state.load ≤ c.state.load → k ≤ 2 →
      c.standing ≡ copy.standing_of c.state → r.input ≡ c.input → r.output ≡ c.output → IsExecuted g x y k b c.state m → Ticked h k (settled m r) c
  executed-tick h k r c m room left far now least st ei eo (by_steps x) = moves-tick h k r c m room left st ei eo x
  executed-tick h k r c m room left far now least st ei eo (fails_within x l e up) = followed-tick h k r c m room left now least st ei eo (faults_within x l e up)
  executed-tick h k r c m room left far now least st ei eo (meets_after {j = j} {d = d} x some l up t) =
      let y = after-steps c refl st x in
      let n = copy.after_more j c in
      after-tick j (2 + spare g.phrase) h k r (settled m r) c some (omega (arith, l, far)) y.before
      (followed-tick (2 + spare g.phrase) 2 r n m (datum-room m) (omega arith) (subst (λ (e : CopyState). r.state.load ≤ e.load) (sym y.state) (omega (arith, now, up))) (omega arith)
      (y.standing ∙ ap (λ (e : CopyState). copy.standing_of e) (sym y.state)) (ei ∙ sym y.input) (eo ∙ sym y.output) (subst (λ (e : CopyState). IsFollowedIn g 0 2 2 e m) (sym y.state) t))

  -- a run that is over stays
  no-tick : (h k : ℕ) (r : PeRun) (c : CopyRun) → k ≤ 2 → r.standing ≢ going → SameRun k r c → Ticked (most_after h) k r c
  no-tick h k r c least over same = record {
    steps = 0;
    rank = k;
    few = (let most = gap-few r.state.focus in let less = gap-less r.standing r.state.focus in let whole = all-nodes in omega (arith, most, less, whole));
    least = least;
    lower = λ up none. absurd (over up);
    same = subst (λ (z : CopyRun). SameRun k r z) (sym (after_zero c)) same;
    before = λ i l. absurd (omega arith);
  }

  -- a run that goes on is followed
  still-followed : (k : ℕ) (r : PeRun) (c : CopyRun) → r.standing ≡ going → SameRun k r c → Follows g k r.state c.state
  still-followed k r c e same = elim same.state [ inl f ↦ absurd (subst (λ (st : Standing). HasFaulted st) e f) | inr t ↦ t ]

  run-tick : (h k : ℕ) (r : PeRun) (c : CopyRun) (st : Standing) → (r.standing ≡ going → StepRoom h r.state.focus (pe_step g.code r.state)) → r.standing ≡ st → k ≤ 2 → SameRun k r c → Ticked (most_after h) k (ticked g.code st r) c
  run-tick h k r c going room e least same =
      let up = same.fresh e in
      let now = still-followed k r c e same in
      let f = r.state.focus in
      let m = pe_step g.code r.state in
      let low = le_of_eq (sym (same-load k r.state c.state now)) in
      let left : base f + spare g.phrase ≤ most_after h = (let l = room-left f in omega (arith, l)) in
      elim (state-followed k r.state c.state now up.0) [
        | inl x ↦ followed-tick (most_after h) k r c m (room e).0 left low least up.1 same.input same.output x
        | inr x ↦ executed-tick (most_after h) k r c m (room e).0 left (room e).1 low least up.1 same.input same.output x
      ]
  run-tick h k r c ended room e least same = no-tick h k r c least (λ f. let q = sym e ∙ f in cc) same
  run-tick h k r c (faulted kind at) room e least same = no-tick h k r c least (λ f. let q = sym e ∙ f in cc) same
  run-tick h k r c stuck room e least same = no-tick h k r c least (λ f. let q = sym e ∙ f in cc) same
  run-tick h k r c gone room e least same = no-tick h k r c least (λ f. let q = sym e ∙ f in cc) same

  -- ---- after n steps

  -- what is left after n steps
  abbrev left : ℕ → PeRun → ℕ
  left zero r = 0
  left (suc n) r = gap_of r.standing r.state.focus

  -- the machine is where the copy rule is after some steps: no more than the bound, and while it goes on no fewer than a third
  record Reached (input : Bytes) (n : ℕ) : Type 0 where
    steps : ℕ
    rank : ℕ
    few : steps + left n (pe_after g.code input n) ≤ n * (nodes g.phrase + 1)
    least : rank ≤ 2
    far : (pe_after g.code input n).standing ≡ going → n + rank ≤ 3 * steps + 2
    same : SameRun rank (pe_after g.code input n) (copy_after g.phrase input steps)
    before : (i : ℕ) → i < steps → (copy_after g.phrase input i).standing ≡ copy.going

  start-simulates : Simulates g 2 pe_start (copy.start g.phrase)
  start-simulates = (
    end atoms.Comm,
    (
      (0, g.phrase, [], [], whole g, table-answers g.phrase g.table g.typed, g.right.program, (refl, refl, refl), sym (closed_by-nothing g.phrase 0 g.closed)),
      rank-two g.phrase,
    ),
    (((atoms.Comm, refl, refl), refl), refl, tt, refl, refl),
  )

  reached-none : (input : Bytes) → Reached input 0
  reached-none input = record {
    steps = 0;
    rank = 2;
    few = omega arith;
    least = omega arith;
    far = λ up. omega arith;
    same = subst (λ (r : PeRun). SameRun 2 r (copy_after g.phrase input 0)) (sym (pe_zero g.code (start_run input)))
        (subst (λ (c : CopyRun). SameRun 2 (start_run input) c) (sym (after_zero (copy.start_run g.phrase input)))
        (fresh-run 2 pe_start (copy.start g.phrase) input input [] [] (inl start-simulates) refl refl));
    before = λ i l. absurd (omega arith);
  }

  more-few : (b n m i o q : ℕ) → m + o ≤ n * b → i + q ≤ b + o → m + i + q ≤ suc n * b
  more-few b n m i o q l k = let e : suc n * b ≡ n * b + b = omega arith in omega arith

  far-more : (n m k i j : ℕ) → j ≤ 2 → n + k ≤ 3 * m + 2 → (i ≡ 0 → j < k) → suc n + j ≤ 3 * (m + i) + 2
  far-more n m k zero j l f z = let q = z refl in omega arith
  far-more n m k (suc i) j l f z = omega arith

  -- a run that goes on went on
  was-going : (r : PeRun) (st : Standing) → r.standing ≡ st → (ticked g.code st r).standing ≡ going → r.standing ≡ going
  was-going r going f e = f
  was-going r ended f e = e
  was-going r (faulted kind at) f e = e
  was-going r stuck f e = e
  was-going r gone f e = e

  before-more : (input : Bytes) (n : ℕ) (r : PeRun) (h : Reached input n) (t : Ticked (most_after (left n (pe_after g.code input n))) h.rank r (copy_after g.phrase input h.steps)) (i : ℕ) → i < h.steps + t.steps →
      (copy_after g.phrase input i).standing ≡ copy.going
  before-more input n r h t i l =
      elim (cases_lt i h.steps) [
        | inl k ↦ h.before i k
        | inr k ↦
            let e : i ≡ h.steps + (i - h.steps) = omega arith in
            ap (λ (j : ℕ). (copy_after g.phrase input j).standing) e ∙ ap (λ (z : CopyRun). z.standing) (after_both h.steps (i - h.steps) (copy.start_run g.phrase input))
            ∙ t.before (i - h.steps) (omega arith)
      ]

  room-after : (input : Bytes) (n : ℕ) → (pe_after g.code input n).standing ≡ going →
      StepRoom (left n (pe_after g.code input n)) (pe_after g.code input n).state.focus (pe_step g.code (pe_after g.code input n).state)
  room-after input zero up =
      subst (λ (r : PeRun). StepRoom 0 r.state.focus (pe_step g.code r.state)) (sym (pe_zero g.code (start_run input))) first-room
  room-after input (suc n) up =
      let r = pe_after g.code input (suc n) in
      subst (λ (st : Standing). StepRoom (gap_of st r.state.focus) r.state.focus (pe_step g.code r.state)) (sym up)
      (((λ i s d e t. room-between r.state.focus s.frames s.focus), λ kind at e. room-faulting r.state.focus), room-far r.state.focus)

  reached-more : (input : Bytes) (n : ℕ) → Reached input n → Reached input (suc n)
  reached-more input n h =
      let r = pe_after g.code input n in
      let c = copy_after g.phrase input h.steps in
      let t : Ticked (most_after (left n r)) h.rank (ticked g.code r.standing r) c = run-tick (left n r) h.rank r c r.standing (room-after input n) refl h.least h.same in
      let next : pe_after g.code input (suc n) ≡ ticked g.code r.standing r = pe_suc g.code n (start_run input) in
      let both : copy_after g.phrase input (h.steps + t.steps) ≡ copy.after_more t.steps c = after_both h.steps t.steps (copy.start_run g.phrase input) in
      record {
        steps = h.steps + t.steps;
        rank = t.rank;
        few = subst (λ (x : PeRun). h.steps + t.steps + gap_of x.standing x.state.focus ≤ suc n * (nodes g.phrase + 1)) (sym next)
            (more-few (nodes g.phrase + 1) n h.steps t.steps (left n r) (gap_of (ticked g.code r.standing r).standing (ticked g.code r.standing r).state.focus) h.few t.few);
        least = t.least;
        far = λ up.
            let still = sym (ap (λ (x : PeRun). x.standing) next) ∙ up in
            far-more n h.steps h.rank t.steps t.rank t.least (h.far (was-going r r.standing refl still)) (t.lower still);
        same = subst (λ (x : PeRun). SameRun t.rank x (copy_after g.phrase input (h.steps + t.steps))) (sym next)
            (subst (λ (x : CopyRun). SameRun t.rank (ticked g.code r.standing r) x) (sym both) t.same);
        before = before-more input n (ticked g.code r.standing r) h t;
      }

  reached : (input : Bytes) (n : ℕ) → Reached input n
  reached input zero = reached-none input
  reached input (suc n) = reached-more input n (reached input n)

  -- a state of the copy rule that the one after n steps follows, where the run goes on
  pub simulated : (input : Bytes) (n : ℕ) → (pe_after g.code input n).standing ≡ going → (k : ℕ) × (c : CopyState) × Follows g k (pe_after g.code input n).state c
  simulated input n up =
      let h = reached input n in
      (h.rank, (copy_after g.phrase input h.steps).state, still-followed h.rank (pe_after g.code input n) (copy_after g.phrase input h.steps) up h.same)

  -- ---- the law's clauses

  reads-back : (input : Bytes) (n : ℕ) → Reached input n → IsReached g.handed g.phrase g.code input n
  reads-back input n h =
      record {
        steps = h.steps;
        few = (let few = h.few in omega arith);
        same = record {
          state = elim h.same.state [
            | inl f ↦ inl f
            | inr t ↦ inr (state-reads g h.rank (pe_after g.code input n).state (copy_after g.phrase input h.steps).state t)
          ];
          standing = h.same.standing;
          input = h.same.input;
          output = h.same.output;
          load = h.same.load;
        };
      }

  -- fewer steps of the copy rule than the machine has made
  ahead : (input : Bytes) (n m : ℕ) (h : Reached input n) → m < h.steps → IsAsFarAs (pe_after g.code input n) (copy_after g.phrase input m)
  ahead input n m h l =
      let x = output-later m h.steps (copy.start_run g.phrase input) (omega arith) in
      record { more = x.0; output = h.same.output ∙ x.1; over = λ apart. absurd (apart (h.before m l)) }

  -- as many or more, where the machine's run is over
  beyond : (input : Bytes) (n m : ℕ) (h : Reached input n) → h.steps ≤ m → (pe_after g.code input n).standing ≢ going → IsAsFarAs (pe_after g.code input n) (copy_after g.phrase input m)
  beyond input n m h le over =
      let r = pe_after g.code input n in
      let alike = strictly r.standing (copy_after g.phrase input h.steps).standing over h.same.standing in
      let same : copy_after g.phrase input m ≡ copy_after g.phrase input h.steps =
      over_later h.steps m (copy.start_run g.phrase input) (both-over r.standing (copy_after g.phrase input h.steps).standing over alike) le in
      subst (λ (c : CopyRun). IsAsFarAs r c) (sym same)
      (record { more = []; output = h.same.output ∙ sym (append-nil (copy_after g.phrase input h.steps).output); over = λ apart. (alike, h.same.output, h.same.input) })

  keeps-up : (input : Bytes) (m : ℕ) → Reached input (3 * (m + 1)) → IsAsFarAs (pe_after g.code input (3 * (m + 1))) (copy_after g.phrase input m)
  keeps-up input m h =
      elim (cases_lt m h.steps) [
        | inl l ↦ ahead input (3 * (m + 1)) m h l
        | inr le ↦ beyond input (3 * (m + 1)) m h le (λ up. let f = h.far up in omega arith)
      ]

  no-standing : (input : Bytes) (n : ℕ) (st : Standing) → ((t : copy.Standing) → StandNearlyAlike st t → ⊥) → (pe_after g.code input n).standing ≢ st
  no-standing input n st none e =
      let h = reached input n in
      none (copy_after g.phrase input h.steps).standing (subst (λ (x : Standing). StandNearlyAlike x (copy_after g.phrase input h.steps).standing) e h.same.standing)

  pub follows : FollowsCopyRule g.handed g.phrase g.code
  follows = record {
    reads_back = λ input n. reads-back input n (reached input n);
    keeps_up = λ input m. keeps-up input m (reached input (3 * (m + 1)));
    never_stuck = λ input n. no-standing input n stuck (λ t h. h);
    never_gone = λ input n. no-standing input n gone (λ t h. h);
  }
