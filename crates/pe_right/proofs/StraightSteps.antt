-- A node is evaluated in one step of the machine, where the copy rule takes some.
use Rattle.std.proofs.Common.{ℕ, suc, ◌+◌, ◌*◌, ◌≤◌, ◌≡◌, List, [], ◌∷◌, ◌++◌, length, Option, Some, refl, sym, ap, ◌∙◌, subst, inl, inr, arith, append-nil, nat_eq, slice_get}
use Rattle.std.proofs.lemmas.Bool.{cond_both}
use Rattle.fy_base.specs.declared.data.Place.{Place}
use Rattle.fy_base.specs.declared.data.Datum.{Datum}
use Rattle.fy_base.specs.declared.data.FaultKind.{FaultKind}
use Rattle.fy_types.specs.declared.types.Atom.TheVariants as atoms
use Rattle.fy_types.specs.Paths.{PlainPath, PlainPaths, end, paths}
use Rattle.fy_types.specs.PathOrder.{HasBelow}
use Rattle.fy_phrase.specs.declared.phrase.DataTy.{DataTy}
use Rattle.fy_phrase.specs.declared.phrase.DataTy.TheVariants as data_type
use Rattle.fy_phrase.specs.declared.phrase.MarkKind.TheVariants as marks
use Rattle.fy_phrase.specs.Tree.{Tree, var, lit, assign, skip, mark}
use Rattle.fy_phrase.specs.Sizes.{nodes}
use Rattle.fy_phrase.specs.Contexts.{CopyContext, assign_c, store_c}
use Rattle.fy_phrase.specs.Copy.{Row, own, CopyState, copy_step, store_after, value_of, with_value}
use Rattle.fy_phrase.specs.Copy as copy
use Rattle.fy_derive.specs.Atoms.{data_atom, acceptor_atom, cell_type, datum_atom}
use Rattle.fy_derive.proofs.PathTyping.{paths_at}
use Rattle.pe_code.specs.declared.code.StraightPart.{StraightPart}
use Rattle.pe_code.specs.declared.code.Purpose.{Purpose}
use Rattle.pe_code.specs.declared.code.PeInsn.TheVariants as insn
use Rattle.pe_code.specs.declared.code.PeItem.{PeItem}
use Rattle.pe_code.specs.Straight.{Outcome, leaves, fails, outcome_after, height_after}
use Rattle.pe_machine.specs.States.{Pointer, Thunk, Binding, to_cell, Frame, handed_on, value, completed, PeState, frame_outside, datum_in, with_cell}
use Rattle.pe_machine.specs.Step.{PeMove, faults, focused, executed, own_cell, cell_set, own_cell_set, faults_at, outcome_move, straight_run, waiting, datum_meets}
use Rattle.pe_right.specs.Closing.{phrase_at, closed_by}
use Rattle.pe_right.specs.Entered.{BinderKind, a_cell}
use Rattle.pe_right.specs.ReadsBack.{cells_in}
use Rattle.pe_right.specs.Straight.{HasPlace, IsPostfix, of_literal, of_cell, of_one, of_two}
use Rattle.pe_right.proofs.ClosingLemmas.{closed_by-var}
use Rattle.pe_right.proofs.AnswerLemmas.{end-same, in_scope, cell-paths, acceptor_atom-same}
use Rattle.pe_right.proofs.Growing.{variable-found}
use Rattle.pe_right.proofs.FrameLemmas.{written, Below, Below-with_binding, HasFrame, HasFrame-map, cells-changed, with_value-changes}
use Rattle.pe_right.proofs.Invariants.{Compiled, AreBoundBy, rank_of, Answered, IsNode, FramesAnswer, ThunkAnswers, HasCell, ContextTakes, ContextsTake, Behind}
use Rattle.pe_right.proofs.ContextLemmas.{contexts-written}
use Rattle.pe_right.proofs.CellLemmas.{reads-under}
use Rattle.pe_right.proofs.Evaluating.{joined}
use Rattle.pe_right.proofs.Merges.{merges, spare}
use Rattle.pe_right.proofs.NodeLemmas.{under, constant-spare}
use Rattle.pe_right.proofs.MeetingLemmas.{datum-followed}
use Rattle.pe_right.proofs.Moves.{Steps, no_step, and_step, at_rest_in, extra, goes_on, followed-weaker, more_in, IsExecuted, by_steps, fails_within, meets_after}
use Rattle.pe_right.specs.Right.{IsWithin, IsFeeding}
use Rattle.pe_right.proofs.StraightLemmas.{bound-found, is-cell, stored-own, Comes, comes_to, fails_in, IsReading, comes}

-- some frame is named where some binder is around
pub named-within : (fs : List Frame) (r : Option ℕ) (w : List BinderKind) → AreBoundBy fs r w → IsWithin w → (n : ℕ) × (r ≡ Some n)
named-within [] r w h within = absurd (subst IsWithin h.1 within)
named-within (f ∷ fs) r w (inl h) within = (f.number, h.0)
named-within (f ∷ fs) r w (inr h) within = named-within fs r w h.1 within

module _ (g : Compiled) where
  -- straight code has no merge
  postfix-merges : {w : List BinderKind} {q : Tree} {ss : List StraightPart} → IsPostfix g.code w q ss → merges q ≡ 0
  postfix-merges of_literal = refl
  postfix-merges (of_cell is) = refl
  postfix-merges (of_one a post place) = postfix-merges post
  postfix-merges (of_two a post other choice place) = let h = postfix-merges post in let k = postfix-merges other in omega arith

  module _ (s : PeState) (at_here : Pointer) (qs : List Tree) (G : List PlainPaths) (env : FramesAnswer g s.frames at_here.frame qs G) (b : ℕ) (lo : Below b s.frames) where
    -- where the code comes to a fault, the machine faults at the place of the item
    fails-followed : {r z j : ℕ} {c e : CopyState} (ss : List StraightPart) (go : Datum → PeMove) (kind : FaultKind) (i : ℕ) (here : Place) → Steps j c e → suc j ≤ z + extra g → copy_step e ≡ copy.faults kind here →
        c.load ≤ e.load → outcome_after (λ k. own_cell (frame_outside s.frames k at_here.frame)) ss [] ≡ fails kind i → HasPlace g.code i here →
        IsExecuted g (extra g) (more_in g at_here.frame) r z c (straight_run g.code ss at_here.frame s go)
    fails-followed {r = r} {z = z} {c = c} ss go kind i here steps l fault up is place =
        subst (λ (o : Outcome). IsExecuted g (extra g) (more_in g at_here.frame) r z c (outcome_move g.code o go)) (sym is)
        (subst (λ (o : Option PeItem). IsExecuted g (extra g) (more_in g at_here.frame) r z c (faults_at kind o)) (sym place.1)
        (subst (λ (x : Place). IsExecuted g (extra g) (more_in g at_here.frame) r z c (faults kind x)) (sym place.2) (fails_within steps l fault up)))

    -- a phrase is evaluated
    pub eval-followed : (q : Tree) (k : ℕ) (D : DataTy) (P : PlainPath) (ss : List StraightPart) (d : ℕ) (at : Place) (c : CopyState) (n : IsNode g s.frames at_here.frame (length G) k q) → P ≡ end (data_atom D) →
        Answered g G k q P → IsPostfix g.code n.binders q ss → height_after ss 0 ≡ Some 1 → c.focus ≡ closed_by 0 qs q → Behind g s c P →
        IsExecuted g (extra g) (more_in g at_here.frame) (rank_of q) 2 c (executed g.code (insn.Eval ss) d at at_here s)
    eval-followed q k D P ss d at c n is a post height f w =
        let same : ss ++ [] ≡ ss = append-nil ss in
        let few = constant-spare (under g n) (postfix-merges post) in
        by few same
        (comes g n.binders s.frames at_here.frame qs G b lo env n.bound q k D [] [] 1 c post (subst (λ (R : PlainPath). Answered g G k q R) is a)
        (ap (λ (us : List StraightPart). height_after us 0) same ∙ height) w.1 (λ m here e. reads-under g own D m here P s.frames s.contexts c.contexts e is w.0))
      where
        from : {j : ℕ} {e : CopyState} → Steps j (copy.focus_on (closed_by 0 qs q) c) e → Steps j c e
        from {j = j} {e = e} steps = subst (λ (d : CopyState). Steps j d e) (ap (λ (t : Tree). copy.focus_on t c) (sym f)) steps

        by : nodes q ≤ spare g.phrase + 1 → ss ++ [] ≡ ss → Comes g n.binders s.frames at_here.frame qs G b lo env n.bound q D c ss [] [] →
            IsExecuted g (extra g) (more_in g at_here.frame) (rank_of q) 2 c (executed g.code (insn.Eval ss) d at at_here s)
        by few same (comes_to v here l some steps typed run) =
            let e : outcome_after (λ j. own_cell (frame_outside s.frames j at_here.frame)) ss [] ≡ leaves (v ∷ []) =
            sym (ap (λ (us : List StraightPart). outcome_after (λ j. own_cell (frame_outside s.frames j at_here.frame)) us []) same) ∙ run in
            subst (λ (o : Outcome). IsExecuted g (extra g) (more_in g at_here.frame) (rank_of q) 2 c (outcome_move g.code o (λ u. focused (value u) s))) (sym e)
            (by_steps (goes_on 0 (from steps) (omega (arith, l, few)) some (omega arith) (P, (here, refl, is ∙ ap end (sym typed)), w)))
        by few same (fails_in kind i here l steps fault up may run place) =
            fails-followed ss (λ u. focused (value u) s) kind i here (from steps) (omega (arith, l, few)) fault up
            (sym (ap (λ (us : List StraightPart). outcome_after (λ j. own_cell (frame_outside s.frames j at_here.frame)) us []) same) ∙ run) place

    -- a form goes on with the datum of its part
    pub fed-followed : (q e : Tree) (k j r : ℕ) (D : DataTy) (P : PlainPath) (u : Purpose) (x : CopyContext) (ss : List StraightPart) (d : ℕ) (at : Place) (c : CopyState) (n : IsNode g s.frames at_here.frame (length G) k q) →
        IsFeeding g.code n.binders e ss → 2 * nodes e ≤ spare g.phrase → Answered g G j e (end (data_atom D)) → copy_step c ≡ copy.pushed x (closed_by 0 qs e) c →
        IsReading g n.binders s.frames at_here.frame qs G b lo env n.bound (copy.push x c).contexts →
        ((v : Datum) (there : Place) → copy_step (copy.focus_on (lit v there) (copy.push x c)) ≡ copy.datum_meets v there x (copy.focus_on (lit v there) c)) → store_after x c.store ≡ c.store →
        ContextTakes g s.frames (waiting u at_here) x (end (data_atom D)) P → Behind g s c P → IsExecuted g (extra g) (more_in g at_here.frame) r 2 c (executed g.code (insn.EvalFor ss u) d at at_here s)
    fed-followed q e k j r D P u x ss d at c n feeds few a start reads meets left takes w =
        let same : ss ++ [] ≡ ss = append-nil ss in
        by same (named-within s.frames at_here.frame n.binders n.bound feeds.within)
        (comes g n.binders s.frames at_here.frame qs G b lo env n.bound e j D [] [] 1 (copy.push x c) feeds.postfix a
        (ap (λ (us : List StraightPart). height_after us 0) same ∙ feeds.one) w.1 reads)
      where
        by : ss ++ [] ≡ ss → (m : ℕ) × (at_here.frame ≡ Some m) → Comes g n.binders s.frames at_here.frame qs G b lo env n.bound e D (copy.push x c) ss [] [] →
            IsExecuted g (extra g) (more_in g at_here.frame) r 2 c (executed g.code (insn.EvalFor ss u) d at at_here s)
        by same named (fails_in kind i there l steps fault up may run place) =
            fails-followed ss (λ v. datum_meets g.code v (waiting u at_here) s) kind i there (and_step start steps) (omega (arith, l, few)) fault (omega arith)
            (sym (ap (λ (us : List StraightPart). outcome_after (λ m. own_cell (frame_outside s.frames m at_here.frame)) us []) same) ∙ run) place
        by same named (comes_to v there l some steps typed run) =
            let is : outcome_after (λ m. own_cell (frame_outside s.frames m at_here.frame)) ss [] ≡ leaves (v ∷ []) =
            sym (ap (λ (us : List StraightPart). outcome_after (λ m. own_cell (frame_outside s.frames m at_here.frame)) us []) same) ∙ run in
            let far : more_in g at_here.frame ≡ spare g.phrase = ap (λ (o : Option ℕ). more_in g o) named.1 in
            subst (λ (o : Outcome). IsExecuted g (extra g) (more_in g at_here.frame) r 2 c (outcome_move g.code o (λ z. datum_meets g.code z (waiting u at_here) s))) (sym is)
            (meets_after (and_step start steps) (omega arith) (omega (arith, l, few, far)) (omega arith)
            (followed-weaker g (omega arith) (omega arith)
            (datum-followed g v there (waiting u at_here) x (end (data_atom D)) P s (copy.focus_on (lit v there) c) (copy.focus_on (lit v there) (copy.push x c)) (meets v there) (ap end (sym typed))
            takes w.0 (left ∙ w.1) w.2 w.3 w.4)))

    -- where a cell was written, some frame is there
    rest-written : (x n : ℕ) (v : Datum) (F : Binding → Type 0) (fs : List Frame) → HasFrame F n fs → at_rest_in x (with_cell n v fs) completed ≡ x
    rest-written x n v F [] h = absurd h
    rest-written x n v F (e ∷ fs) h = cond_both (nat_eq n e.number) _ _ (λ (hs : List Frame). at_rest_in x hs completed ≡ x) (λ q. refl) (λ q. refl)

    -- an assignment to a cell is made
    pub set-followed : (j : ℕ) (q : Tree) (here at : Place) (k : ℕ) (D : DataTy) (ss : List StraightPart) (d : ℕ) (place : Place) (c : CopyState) (n : IsNode g s.frames at_here.frame (length G) k (assign (var j here) q at)) →
        slice_get n.binders j ≡ Some a_cell → Answered g G (k + 1) (var j here) (end (acceptor_atom D)) → Answered g G (k + 1 + 1) q (end (data_atom D)) → IsPostfix g.code n.binders q ss → height_after ss 0 ≡ Some 1 →
        c.focus ≡ closed_by 0 qs (assign (var j here) q at) → Behind g s c (end atoms.Comm) → IsExecuted g (extra g) (more_in g at_here.frame) 0 2 c (executed g.code (insn.Set j ss) d place at_here s)
    set-followed j q here at k D ss d place c n is ax aq post height f w =
        let x = bound-found s.frames b j at_here.frame n.binders a_cell lo n.bound is in
        let y = variable-found g s.frames b j at_here.frame qs G here lo env (in_scope G j (end (acceptor_atom D)) ax.1) in
        let frame : x.0 ≡ y.0 = (let e : Some x.0 ≡ Some y.0 = sym x.1 ∙ y.1 in cc) in
        let cell = is-cell x.0.binding x.2 in
        let stands = subst (λ (t : Thunk). ThunkAnswers g s.frames t (phrase_at qs j here) (paths_at G j)) (ap (λ (e : Frame). handed_on e.number e.binding) (sym frame) ∙ ap (λ (e : Binding). handed_on x.0.number e) cell.1) y.2 in
        let same : ss ++ [] ≡ ss = append-nil ss in
        by x.0 cell.0 stands.0 stands.1 x.1 cell.1 (HasFrame-map (λ e h. h ∙ cell.1) x.0.number s.frames x.3) (closed_by-var qs j here ∙ stands.2) stands.3 (acceptor-typed stands.1 D (stands.4 (end (acceptor_atom D)) ax.1))
        (constant-spare (under g n) (let z = postfix-merges post in omega arith)) same
        (comes g n.binders s.frames at_here.frame qs G b lo env n.bound q (k + 1 + 1) D [] [] 1 (copy.push (assign_c (closed_by 0 qs (var j here))) c) post aq
        (ap (λ (us : List StraightPart). height_after us 0) same ∙ height) w.1 (λ m there e. refl))
      where
        acceptor-typed : (X E : DataTy) → HasBelow (paths (cell_type X)) (end (acceptor_atom E)) → X ≡ E
        acceptor-typed X E below = elim (cell-paths X (end (acceptor_atom E)) below) [ inl e ↦ absurd (apart X E (sym (end-same refl e))) | inr e ↦ acceptor_atom-same X E (sym (end-same refl e)) ]
          where
            apart : (Y Z : DataTy) → data_atom Y ≡ acceptor_atom Z → ⊥
            apart data_type.Int data_type.Int e = cc
            apart data_type.Int data_type.Bool e = cc
            apart data_type.Int data_type.Char e = cc
            apart data_type.Bool data_type.Int e = cc
            apart data_type.Bool data_type.Bool e = cc
            apart data_type.Bool data_type.Char e = cc
            apart data_type.Char data_type.Int e = cc
            apart data_type.Char data_type.Bool e = cc
            apart data_type.Char data_type.Char e = cc

        from : {i : ℕ} {e : CopyState} → Steps i (copy.focus_on (closed_by 0 qs (assign (var j here) q at)) c) e → Steps i c e
        from {i = i} {e = e} steps = subst (λ (z : CopyState). Steps i z e) (ap (λ (t : Tree). copy.focus_on t c) (sym f)) steps

        by : (x : Frame) (u : Datum) (there : Place) (X : DataTy) → frame_outside s.frames j at_here.frame ≡ Some x → x.binding ≡ to_cell u → HasFrame (λ e. e ≡ to_cell u) x.number s.frames →
            closed_by 0 qs (var j here) ≡ mark (marks.Cell x.number) there → HasCell own X x.number s.frames → X ≡ D → nodes (assign (var j here) q at) ≤ spare g.phrase + 1 → ss ++ [] ≡ ss →
            Comes g n.binders s.frames at_here.frame qs G b lo env n.bound q D (copy.push (assign_c (closed_by 0 qs (var j here))) c) ss [] [] → IsExecuted g (extra g) (more_in g at_here.frame) 0 2 c (executed g.code (insn.Set j ss) d place at_here s)
        by x u there X found bound stands phrase has typed few same (fails_in kind i at_fault l steps fault up may run item) =
            fails-followed ss (λ v. own_cell_set (frame_outside s.frames j at_here.frame) v s) kind i at_fault (from (and_step refl steps)) (omega (arith, l, few)) fault (omega arith)
            (sym (ap (λ (us : List StraightPart). outcome_after (λ m. own_cell (frame_outside s.frames m at_here.frame)) us []) same) ∙ run) item
        by x u there X found bound stands phrase has typed few same (comes_to v at_value l some steps tv run) =
            let e : outcome_after (λ m. own_cell (frame_outside s.frames m at_here.frame)) ss [] ≡ leaves (v ∷ []) =
            sym (ap (λ (us : List StraightPart). outcome_after (λ m. own_cell (frame_outside s.frames m at_here.frame)) us []) same) ∙ run in
            let stored = stored-own x.number u s.frames stands in
            let vX : datum_atom v ≡ data_atom X = tv ∙ ap (λ (Y : DataTy). data_atom Y) (sym typed) in
            let written_to : CopyState = record c { focus = skip there; store = with_value own x.number v c.store; load = c.load + 8 } in
            let last : copy_step (copy.focus_on (closed_by 0 qs (var j here)) (copy.push (store_c v) c)) ≡ copy.goes written_to =
            ap (λ (t : Tree). copy.step_at t (copy.focus_on t (copy.push (store_c v) c))) phrase
            ∙ ap (λ (rows : List Row). copy.assigned (value_of own x.number rows) own x.number v there (record c { focus = mark (marks.Cell x.number) there; load = c.load + 8 })) w.1
            ∙ ap (λ (o : Option Datum). copy.assigned o own x.number v there (record c { focus = mark (marks.Cell x.number) there; load = c.load + 8 })) stored in
            let all = from (and_step refl (joined steps (and_step refl (and_step last no_step)))) in
            let rest = rest-written (extra g) x.number v (λ e. e ≡ to_cell u) s.frames stands in
            let change = with_value-changes own x.number v s.frames in
            subst (λ (o : Outcome). IsExecuted g (extra g) (more_in g at_here.frame) 0 2 c (outcome_move g.code o (λ z. own_cell_set (frame_outside s.frames j at_here.frame) z s))) (sym e)
            (subst (λ (o : Option Frame). IsExecuted g (extra g) (more_in g at_here.frame) 0 2 c (own_cell_set o v s)) (sym found)
            (subst (λ (o : Binding). IsExecuted g (extra g) (more_in g at_here.frame) 0 2 c (cell_set (datum_in o) x.number v s)) (sym bound)
            (by_steps (goes_on 2 all (omega (arith, l, few, rest)) (λ none. absurd (omega arith)) (omega arith) (
              end atoms.Comm,
              (there, refl, refl),
              (
                subst (λ (fs : List Frame). ContextsTake g fs s.contexts c.contexts (end atoms.Comm)) (sym change)
                    (contexts-written g own X x.number v s.frames b vX lo (inl has) s.contexts c.contexts (end atoms.Comm) w.0),
                ap (λ (rows : List Row). with_value own x.number v rows) w.1 ∙ cells-changed own x.number v s.frames b lo ∙ sym (ap cells_in change),
                subst (Below s.next) (sym change) (Below-with_binding x.number (written own v) s.frames s.next w.2),
                w.3,
                ap (λ (m : ℕ). m + 8) w.4,
              ),
            )))))
