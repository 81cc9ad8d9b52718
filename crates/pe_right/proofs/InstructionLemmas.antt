-- An instruction is executed: what the code stands for takes as many steps as merges lie above the form, and one more, or two where a sequence takes an index.
use Rattle.std.proofs.Common.{ℕ, Bool, true, false, suc, ◌+◌, ◌<◌, ◌≤◌, ◌≡◌, ◌⊎◌, List, ◌∷◌, length, Option, Some, None, refl, sym, ap, ◌∙◌, subst, inl, inr, arith}
use Rattle.fy_base.specs.declared.data.Place.{Place}
use Rattle.fy_base.specs.declared.data.Datum.{Datum}
use Rattle.fy_types.specs.declared.types.Atom.{Atom}
use Rattle.fy_types.specs.declared.types.Atom.TheVariants as atoms
use Rattle.fy_types.specs.Paths.{PlainPath, PlainPaths, end, call, pick, paths}
use Rattle.fy_types.specs.PathOrder.{HasBelow, here, there}
use Rattle.fy_phrase.specs.declared.phrase.DataTy.{DataTy}
use Rattle.fy_phrase.specs.declared.phrase.DataTy.TheVariants as data_type
use Rattle.fy_phrase.specs.declared.phrase.MarkKind.TheVariants as marks
use Rattle.fy_phrase.specs.Tree.{Tree, Trees, var, lit, unary, binary, cond as conditional, case, lam, app, field, sel, merge, let_in, rec, skip, seq, assign, while_do, forever, new, cells, escape, accept, put, read, mark}
use Rattle.fy_phrase.specs.Sizes.{nodes}
use Rattle.fy_phrase.specs.WellMade.{IsClosedUnder, AreClosedUnder, HasDepthsUnder, HaveDepthsUnder}
use Rattle.fy_phrase.specs.Contexts.{CopyContext, op_1, op_l, if_c, case_c, arg_c, pick_c, then_c, assign_c, store_c, while_c, loop_c, new_c, cells_c, put_c, esc_c}
use Rattle.fy_phrase.specs.Copy.{CopyState, copy_step, byte_or_end}
use Rattle.fy_phrase.specs.Copy as copy
use Rattle.fy_base.specs.declared.data.PutKind.{PutKind}
use Rattle.fy_base.specs.declared.data.PutKind.TheVariants as put_kind
use Rattle.fy_derive.specs.Atoms.{data_atom, acceptor_atom, datum_atom, operand_atom, unary_atom, binary_atom, put_atom}
use Rattle.fy_derive.specs.Shapes.{PlainShape, at_end, a_call, a_field, a_value, an_assignment, a_run, end_shape, erase}
use Rattle.fy_derive.specs.ShapeTables.{HasPairOf}
use Rattle.fy_derive.proofs.PathTyping.{paths_at, EachPath, IsRun, only}
use Rattle.pe_code.specs.declared.code.Purpose.TheVariants as purpose
use Rattle.pe_code.specs.declared.code.PeInsn.{PeInsn}
use Rattle.pe_code.specs.declared.code.PeInsn.TheVariants as insn
use Rattle.pe_code.specs.declared.code.PeItem.{PeItem}
use Rattle.pe_code.specs.Code.{item_at, picked_from}
use Rattle.pe_machine.specs.States.{Pointer, source, datum, to_thunk, to_escape, Frame, PeContext, PeState, frame_outside, handed_on}
use Rattle.pe_machine.specs.Step.{push, pushed, bound, bind_meets, field_meets, accept_meets, with_variable, entered, executed, item_executed}
use Rattle.pe_right.specs.Closing.{phrase_at, closed_by, all_closed_by}
use Rattle.pe_right.specs.Entered.{BinderKind, another, Entering, every, later, first_alone, with_binders, IsEnteredAmong, is_entered, within_first, within_later}
use Rattle.pe_right.specs.Straight.{IsStraightOf, of_value, of_assignment}
use Rattle.pe_right.specs.Right.{IsFedOf, of_condition, of_test, of_assigned, of_output, FeedsFew, IsInsnAt, by_parts, at_once, fed, IsItemAt, IsRightAt, is_variable, Enters, EachEnters, no_parts, and_part}
use Rattle.pe_right.proofs.Demanding.{EachAnswers}
use Rattle.pe_right.proofs.ClosingLemmas.{closed_with-more, closed_by-var, kind-closed}
use Rattle.pe_right.proofs.FrameLemmas.{Below, oldest-itself, marks_in}
use Rattle.pe_right.proofs.AnswerLemmas.{erase-below, run-up, data-erase, acceptor-erase, operand-erase, put-erase, run-erase, in_scope, answers-above, merge-left, merge-right, begins-shape}
use Rattle.pe_right.proofs.Invariants.{Compiled, IndexKnown, Above, marked, rank_of, Answered, IsNode, IsBody, FramesAnswer, ThunkAnswers, CodeAnswers, EachCodeAnswers, ContextTakes, unary_operand, left_operand, condition, index, procedure, selected, first_command, assigned_value, acceptor, loop_test, endless_body, first_value, cells_wanted, put_datum, escape_body, Behind}
use Rattle.pe_right.proofs.ConstantLemmas.{constant-value, value-closed, value-path}
use Rattle.pe_right.proofs.Merges.{merges, value-merges, quarter-spare}
use Rattle.pe_right.proofs.NodeLemmas.{constant-spare, under, part, part-as, body, body-bound}
use Rattle.pe_right.proofs.StraightSteps.{eval-followed, set-followed, fed-followed}
use Rattle.pe_right.proofs.EntryLemmas.{insn-is, plain-insn}
use Rattle.pe_right.proofs.Growing.{env-shut, variable-found, thunk-above}
use Rattle.pe_right.proofs.ContextLemmas.{demanded-left, demanded-right, contexts-pushed}
use Rattle.pe_right.proofs.Moves.{focus-step, no_step, rank-two, MovesIn, extra, takes_byte, one_move, no_move, more_in, IsExecuted, by_steps, executed-weaker, executed-earlier, moves-weaker, pushed-simulates, bound-simulates}
use Rattle.pe_right.proofs.TakingLemmas.{call-apart, pick-apart, acceptor-apart, taken-followed, lam-meets, field-meets, accept-meets}
use Rattle.pe_right.proofs.EnteringLemmas.{entered-followed}

-- ---- paths

byte-typed : (byte : Option ℕ) → datum_atom (byte_or_end byte) ≡ atoms.Int
byte-typed (Some b) = refl
byte-typed None = refl

above-escape : Above (only atoms.Compl) (λ P. IsRun P)
above-escape P (here low) = run-up (atoms.Compl, refl, refl) low
above-escape P (there some) = elim some [ ]

abbrev is_merge : Tree → Bool
is_merge (merge p q at) = true
is_merge q = false

variable-is : (q : Tree) (j : ℕ) → is_variable q ≡ Some j → (at : Place) × (q ≡ var j at)
variable-is (var k at) j e = let f : k ≡ j = cc in (at, ap (λ (i : ℕ). var i at) f)
variable-is q j e = absurd cc

module _ (g : Compiled) where
  -- ---- the instruction at an address

  pair-above : (k : ℕ) {D : PlainPaths} {R : PlainPath} → HasBelow D R → EachPath (λ Q. HasPairOf g.table k (erase Q)) D → HasPairOf g.table k (erase R)
  pair-above k (here low) each = subst (λ (t : PlainShape). HasPairOf g.table k t) (erase-below low) each.0
  pair-above k (there some) each = pair-above k some each.1

  -- a part that is entered as a value tells the number of its shape
  index-known : (a j : ℕ) → Enters g.table g.code j (at_end a_value) a → IndexKnown g
  index-known a j en = (en.0, (g.right.sequences.value en.0).1 en.1)

  module _ (s : PeState) (at_here : Pointer) (qs : List Tree) (G : List PlainPaths) (env : FramesAnswer g s.frames at_here.frame qs G) where
    abbrev pub At : ℕ → ℕ → CopyState → Type 0
    At r b c = MovesIn g (extra g) r b c (item_executed g.code (item_at g.code at_here.address) at_here s)

    abbrev pub Executed : ℕ → ℕ → CopyState → Type 0
    Executed r b c = IsExecuted g (extra g) (more_in g at_here.frame) r b c (item_executed g.code (item_at g.code at_here.address) at_here s)

    abbrev pub Here : ℕ → Pointer
    Here a = record at_here { address = a }

    executes : {r b : ℕ} {c : CopyState} (item : PeItem) (i : PeInsn) (d : ℕ) (at : Place) → item_at g.code at_here.address ≡ Some item → item.insn ≡ i → item.depth ≡ d → item.place ≡ at →
        MovesIn g (extra g) r b c (executed g.code i d at at_here s) → At r b c
    executes {r = r} {b = b} {c = c} item i d at e f h l m =
        subst (λ (o : Option PeItem). MovesIn g (extra g) r b c (item_executed g.code o at_here s)) (sym e)
        (subst (λ (j : PeInsn). MovesIn g (extra g) r b c (executed g.code j item.depth item.place at_here s)) (sym f)
        (subst (λ (n : ℕ). MovesIn g (extra g) r b c (executed g.code i n item.place at_here s)) (sym h)
        (subst (λ (p : Place). MovesIn g (extra g) r b c (executed g.code i d p at_here s)) (sym l) m)))

    -- a part that is entered at the shape t
    code-as : (a j : ℕ) (q : Tree) (P : PlainPath) (t : PlainShape) → erase P ≡ t → IsNode g s.frames at_here.frame (length G) j q → Answered g G j q P → Enters g.table g.code j t a →
        CodeAnswers g s.frames (Here a) (closed_by 0 qs q) P
    code-as a j q P t e n h en = (j, q, qs, G, n, h, subst (λ (u : PlainShape). Enters g.table g.code j u a) (sym e) en, env, refl)

    starts : {r b : ℕ} (c : CopyState) (a : ℕ) (q : Tree) (P Q : PlainPath) (k : PeContext) (x : CopyContext) → 1 ≤ b → marks_in s.frames ≡ marked k (marks_in s.frames) →
        copy_step c ≡ copy.pushed x q c → CodeAnswers g s.frames (Here a) q P → ContextTakes g s.frames k x P Q → Behind g s c Q → MovesIn g (extra g) r b c (pushed k (Here a) s)
    starts c a q P Q k x l m e code h w = one_move g e l (pushed-simulates g s c P Q k x (Here a) q m code h w)

    -- what a variable is bound to, in place of a thunk of its own
    variable-thunk : (q : Tree) (j m : ℕ) (D : PlainPaths) → is_variable q ≡ Some j → IsClosedUnder (length G) q → Below s.next s.frames → Above D (λ R. Answered g G m q R) →
        (x : Frame) × (frame_outside s.frames j at_here.frame ≡ Some x) × ThunkAnswers g s.frames (handed_on x.number x.binding) (closed_by 0 qs q) D
    variable-thunk q j m D e closed lo above =
        let v = variable-is q j e in
        let l : j < length G = subst (λ (p : Tree). IsClosedUnder (length G) p) v.1 closed in
        let x = variable-found g s.frames s.next j at_here.frame qs G v.0 lo env l in
        let is : phrase_at qs j v.0 ≡ closed_by 0 qs q = sym (ap (λ (p : Tree). closed_by 0 qs p) v.1 ∙ closed_by-var qs j v.0) in (
          x.0,
          x.1,
          subst (λ (p : Tree). ThunkAnswers g s.frames (handed_on x.0.number x.0.binding) p D) is
              (thunk-above g s.frames (handed_on x.0.number x.0.binding) (phrase_at qs j v.0) (paths_at G j) D
              (λ R some. (subst (λ (p : Tree). Answered g G m p R) v.1 (above R some)).1) x.2),
        )

    own-thunk : (q : Tree) (m : ℕ) (D : PlainPaths) → is_variable q ≡ None → IsNode g s.frames at_here.frame (length G) m q → EachPath (λ R. Answered g G m q R) D →
        ThunkAnswers g s.frames (source m at_here.frame) (closed_by 0 qs q) D
    own-thunk q m D e n each = (q, qs, G, n, e, env, λ R some. answers-above (HasPairOf g.table) q G m some each, refl)

    -- a constant's datum
    datum-thunk : (q : Tree) (v : Datum) (m : ℕ) (D : PlainPaths) → g.handed q ≡ Some v → IsNode g s.frames at_here.frame (length G) m q → EachPath (λ R. Answered g G m q R) D →
        ThunkAnswers g s.frames (datum v) (closed_by 0 qs q) D
    datum-thunk q v m D e n each =
        let is = g.constants q v e in
        let x = constant-value q v is in
        subst (λ (p : Tree). ThunkAnswers g s.frames (datum v) p D) (sym (value-closed q v 0 qs x))
        (is, constant-spare (under g n) (value-merges q v x), (λ R some. value-path (HasPairOf g.table) q v G m R x (answers-above (HasPairOf g.table) q G m some each)), inr e)

    -- the parts that an index picks from
    each-code : (v : List BinderKind) (j : ℕ) (ps : Trees) (t : PlainShape) (ys : List ℕ) (P : PlainPath) → EachEnters g.table g.code j ps t ys → erase P ≡ t →
        ((i : ℕ) (q : Tree) → IsEnteredAmong g.straight j (with_binders v ps) v i q → IsClosedUnder (length G) q → HasDepthsUnder (length G) q → IsNode g s.frames at_here.frame (length G) i q) →
        AreClosedUnder (length G) ps → HaveDepthsUnder (length G) ps → EachAnswers (HasPairOf g.table) G j ps P → EachCodeAnswers g s.frames at_here.frame ys (all_closed_by 0 qs ps) P
    each-code v j ps t ys P no_parts e node closed depths each = tt
    each-code v j ps t ys P (and_part {y = y} {p = p} {ps = more} {ys = rest} en ens) e node closed depths each = (
      code-as y j p P t e (node j p (within_first is_entered) closed.0 depths.0) each.0 en,
      each-code v (j + nodes p) more t rest P ens e (λ i q a. node i q (within_later a)) closed.1 depths.1 each.1,
    )

    app-followed : (p q : Tree) (at : Place) (k y : ℕ) (i : PeInsn) (d b : ℕ) (D : PlainPaths) (P : PlainPath) (c : CopyState) → IsNode g s.frames at_here.frame (length G) k (app p q at) → g.straight k ≡ every →
        ((is_variable q ≡ None) × (i ≡ insn.Pass (k + 1 + nodes p) y)) ⊎ (((j : ℕ) × (is_variable q ≡ Some j) × (i ≡ insn.PassVar j y)) ⊎ ((v : Datum) × (g.handed q ≡ Some v) × (i ≡ insn.PassData v y))) →
        Answered g G (k + 1) p (call D P) → EachPath (λ R. Answered g G (k + 1 + nodes p) q R) D → Enters g.table g.code (k + 1) (a_call (erase P)) y →
        c.focus ≡ closed_by 0 qs (app p q at) → Behind g s c P → 1 ≤ b → MovesIn g (extra g) 0 b c (executed g.code i d at at_here s)
    app-followed p q at k y i d b D P c n plain (inl v) a each en f w l =
        subst (λ (j : PeInsn). MovesIn g (extra g) 0 b c (executed g.code j d at at_here s)) (sym v.1)
        (starts c y (closed_by 0 qs p) (call D P) P (arg_c (source (k + 1 + nodes p) at_here.frame)) (arg_c (closed_by 0 qs q)) l refl
        (focus-step c (app (closed_by 0 qs p) (closed_by 0 qs q) at) f)
        (code-as y (k + 1) p (call D P) (a_call (erase P)) refl (part g n plain (within_first is_entered) n.closed.0 n.depths.0) a en)
        (procedure (own-thunk q (k + 1 + nodes p) D v.0 (part g n plain (within_later (within_first is_entered)) n.closed.1 n.depths.1) each)) w)
    app-followed p q at k y i d b D P c n plain (inr (inl v)) a each en f w l =
        let x = variable-thunk q v.0 (k + 1 + nodes p) D v.1 n.closed.1 w.2 (λ R some. answers-above (HasPairOf g.table) q G (k + 1 + nodes p) some each) in
        subst (λ (j : PeInsn). MovesIn g (extra g) 0 b c (executed g.code j d at at_here s)) (sym v.2)
        (subst (λ (o : Option Frame). MovesIn g (extra g) 0 b c (with_variable o (λ t. pushed (arg_c t) (Here y) s))) (sym x.1)
        (starts c y (closed_by 0 qs p) (call D P) P (arg_c (handed_on x.0.number x.0.binding)) (arg_c (closed_by 0 qs q)) l refl
        (focus-step c (app (closed_by 0 qs p) (closed_by 0 qs q) at) f)
        (code-as y (k + 1) p (call D P) (a_call (erase P)) refl (part g n plain (within_first is_entered) n.closed.0 n.depths.0) a en) (procedure x.2) w))
    app-followed p q at k y i d b D P c n plain (inr (inr v)) a each en f w l =
        subst (λ (j : PeInsn). MovesIn g (extra g) 0 b c (executed g.code j d at at_here s)) (sym v.2)
        (starts c y (closed_by 0 qs p) (call D P) P (arg_c (datum v.0)) (arg_c (closed_by 0 qs q)) l refl
        (focus-step c (app (closed_by 0 qs p) (closed_by 0 qs q) at) f)
        (code-as y (k + 1) p (call D P) (a_call (erase P)) refl (part g n plain (within_first is_entered) n.closed.0 n.depths.0) a en)
        (procedure (datum-thunk q v.0 (k + 1 + nodes p) D v.1 (part g n plain (within_later (within_first is_entered)) n.closed.1 n.depths.1) each)) w)

    let-followed : (d : ℕ) (p r : Tree) (at : Place) (k y : ℕ) (i : PeInsn) (b : ℕ) (D : PlainPaths) (P : PlainPath) (c : CopyState) → IsNode g s.frames at_here.frame (length G) k (let_in d p r at) → g.straight k ≡ every →
        ((is_variable p ≡ None) × (i ≡ insn.Let (k + 1) y)) ⊎ (((j : ℕ) × (is_variable p ≡ Some j) × (i ≡ insn.LetVar j y)) ⊎ ((v : Datum) × (g.handed p ≡ Some v) × (i ≡ insn.LetData v y))) →
        EachPath (λ R. Answered g G (k + 1) p R) D → Answered g (D ∷ G) (k + 1 + nodes p) r P → Enters g.table g.code (k + 1 + nodes p) (erase P) y →
        c.focus ≡ closed_by 0 qs (let_in d p r at) → Behind g s c P → 1 ≤ b → MovesIn g (extra g) 0 b c (executed g.code i d at at_here s)
    let-followed d p r at k y i b D P c n plain (inl v) each a en f w l =
        subst (λ (j : PeInsn). MovesIn g (extra g) 0 b c (executed g.code j d at at_here s)) (sym v.1)
        (one_move g (focus-step c (let_in d (closed_by 0 qs p) (closed_by 1 qs r) at) f) l
        (bound-simulates g s c d y at_here.frame (source (k + 1) at_here.frame) (closed_by 0 qs p) D r (k + 1 + nodes p) qs G P
        (own-thunk p (k + 1) D v.0 (part g n plain (within_first is_entered) n.closed.0 n.depths.1) each) env
        (body g n plain (within_later (within_first is_entered)) n.closed.1 n.depths.2) a en w))
    let-followed d p r at k y i b D P c n plain (inr (inl v)) each a en f w l =
        let x = variable-thunk p v.0 (k + 1) D v.1 n.closed.0 w.2 (λ R some. answers-above (HasPairOf g.table) p G (k + 1) some each) in
        subst (λ (j : PeInsn). MovesIn g (extra g) 0 b c (executed g.code j d at at_here s)) (sym v.2)
        (subst (λ (o : Option Frame). MovesIn g (extra g) 0 b c (with_variable o (λ t. bound d (to_thunk t) y at_here.frame s))) (sym x.1)
        (one_move g (focus-step c (let_in d (closed_by 0 qs p) (closed_by 1 qs r) at) f) l
        (bound-simulates g s c d y at_here.frame (handed_on x.0.number x.0.binding) (closed_by 0 qs p) D r (k + 1 + nodes p) qs G P x.2 env
        (body g n plain (within_later (within_first is_entered)) n.closed.1 n.depths.2) a en w)))
    let-followed d p r at k y i b D P c n plain (inr (inr v)) each a en f w l =
        subst (λ (j : PeInsn). MovesIn g (extra g) 0 b c (executed g.code j d at at_here s)) (sym v.2)
        (one_move g (focus-step c (let_in d (closed_by 0 qs p) (closed_by 1 qs r) at) f) l
        (bound-simulates g s c d y at_here.frame (datum v.0) (closed_by 0 qs p) D r (k + 1 + nodes p) qs G P
        (datum-thunk p v.0 (k + 1) D v.1 (part g n plain (within_first is_entered) n.closed.0 n.depths.1) each) env
        (body g n plain (within_later (within_first is_entered)) n.closed.1 n.depths.2) a en w))

    -- what stands at the address of a form that is no merge
    abbrev Item : List BinderKind → ℕ → Tree → PlainPath → Type 0
    Item v k q P = (item : PeItem) × (item_at g.code at_here.address ≡ Some item) × IsItemAt g.handed g.straight g.table g.code v k q (erase P) item

    -- the code itself, as what stands at its address
    itself-again : (k : ℕ) (node : Tree) (P R : PlainPath) → P ≡ R → IsNode g s.frames at_here.frame (length G) k node → Answered g G k node P → Enters g.table g.code k (erase P) at_here.address →
        CodeAnswers g s.frames at_here (closed_by 0 qs node) R
    itself-again k node P R e n a en = subst (λ (S : PlainPath). CodeAnswers g s.frames at_here (closed_by 0 qs node) S) e (k, node, qs, G, n, a, en, env, refl)

    -- of a merge the operand that the shape asks for
    merge-followed : (p q : Tree) (at : Place) (k : ℕ) (P : PlainPath) (c : CopyState) (n : IsNode g s.frames at_here.frame (length G) k (merge p q at)) → Answered g G k (merge p q at) P →
        IsRightAt g.handed g.straight g.table g.code n.binders k (merge p q at) (erase P) at_here.address → c.focus ≡ closed_by 0 qs (merge p q at) → Behind g s c P →
        ((j : ℕ) (d : CopyState) → IsNode g s.frames at_here.frame (length G) j p → Answered g G j p P → Enters g.table g.code j (erase P) at_here.address → d.focus ≡ closed_by 0 qs p →
        Behind g s d P → Executed (rank_of p) (suc (suc (merges p))) d) →
        ((j : ℕ) (d : CopyState) → IsNode g s.frames at_here.frame (length G) j q → Answered g G j q P → Enters g.table g.code j (erase P) at_here.address → d.focus ≡ closed_by 0 qs q →
        Behind g s d P → Executed (rank_of q) (suc (suc (merges q))) d) →
        Executed 0 (suc (suc (merges (merge p q at)))) c
    merge-followed p q at k P c n a (kind, is, plain, inl (b, en)) f w left right =
        executed-weaker g {r = 0} (omega arith) (omega arith)
        (executed-earlier g
        (focus-step c (merge (closed_by 0 qs p) (closed_by 0 qs q) at) f
        ∙ ap (λ (t : Tree). copy.focused t c)
        (demanded-right g s.frames s.contexts c.contexts P (closed_by 0 qs p) (closed_by 0 qs q) kind (kind-closed q 0 qs kind is) (begins-shape kind P ∙ b) w.0)) (omega arith)
        (right (k + 1 + nodes p) (copy.focus_on (closed_by 0 qs q) c) (part g n plain (within_later (within_first is_entered)) n.closed.1 n.depths.1)
        (merge-right (HasPairOf g.table) p q at kind G k P is b a) en refl w))
    merge-followed p q at k P c n a (kind, is, plain, inr (b, en)) f w left right =
        executed-weaker g {r = 0} (omega arith) (omega arith)
        (executed-earlier g
        (focus-step c (merge (closed_by 0 qs p) (closed_by 0 qs q) at) f
        ∙ ap (λ (t : Tree). copy.focused t c)
        (demanded-left g s.frames s.contexts c.contexts P (closed_by 0 qs p) (closed_by 0 qs q) kind (kind-closed q 0 qs kind is) (begins-shape kind P ∙ b) w.0)) (omega arith)
        (left (k + 1) (copy.focus_on (closed_by 0 qs p) c) (part g n plain (within_first is_entered) n.closed.0 n.depths.0)
        (merge-left (HasPairOf g.table) p q at kind G k P is b a) en refl w))

    -- an escape's frame and its context
    escape-followed : (d x : ℕ) (b : Tree) (at : Place) (k : ℕ) (c : CopyState) (n : ℕ) → IsBody g s.frames at_here.frame another (length G) k b → Answered g (only atoms.Compl ∷ G) k b (end atoms.Comm) →
        Enters g.table g.code k (at_end a_run) x → copy_step c ≡ copy.step_at (escape d (closed_by 1 qs b) at) c → Behind g s c (end atoms.Comm) → 1 ≤ n →
        MovesIn g (extra g) 0 n c (bound d to_escape x at_here.frame (push (esc_c s.next) s))
    escape-followed d x b at k c n node a en step w l =
        let frame : Frame = record { number = s.next; depth = d; binding = to_escape; around = at_here.frame } in
        let m : Tree = mark (marks.Jump c.next) at in
        let around : FramesAnswer g (frame ∷ s.frames) (Some s.next) (m ∷ qs) (only atoms.Compl ∷ G) =
        inl (refl, (m, qs, only atoms.Compl, G, refl, refl, (at, ap (λ (j : ℕ). mark (marks.Jump j) at) w.3, above-escape), env)) in
        one_move g step l (
          end atoms.Comm,
          ((k, b, m ∷ qs, only atoms.Compl ∷ G, body-bound g frame tt node, a, en, around, closed_with-more b m qs (env-shut g s.frames at_here.frame qs G env)), rank-two b),
          (
            contexts-pushed g (frame ∷ s.frames) s.frames (length s.frames) (esc_c s.next) (esc_c c.next) s.load c.load s.contexts c.contexts (end atoms.Comm) (end atoms.Comm)
                (oldest-itself frame s.frames) (omega arith) refl w.4
                (subst (λ (j : ℕ). ContextTakes g s.frames (esc_c s.next) (esc_c j) (end atoms.Comm) (end atoms.Comm)) (sym w.3) escape_body) w.0,
            w.1,
            (omega arith, w.2),
            ap (λ (j : ℕ). j + 1) w.3,
            ap (λ (j : ℕ). j + 8 + (8 + d)) w.4,
          ),
        )

    plain-followed : (node : Tree) (k : ℕ) (P : PlainPath) (c : CopyState) (n : IsNode g s.frames at_here.frame (length G) k node) → g.straight k ≡ every → is_merge node ≡ false → Answered g G k node P → Enters g.table g.code k (erase P) at_here.address →
        c.focus ≡ closed_by 0 qs node → Behind g s c P → At (rank_of node) (suc (suc (merges node))) c
    plain-followed (var j at) k P c n plain apart a e f w =
        let it : Item n.binders k (var j at) P = g.right.right n.binders k at_here.address (var j at) (erase P) n.stands e in
        let v = insn-is g.handed g.table g.code (plain-insn g plain it.2.insn) in
        let x = variable-found g s.frames s.next j at_here.frame qs G at w.2 env (in_scope G j P a.1) in
        executes it.0 (insn.UseVar j v.0) it.0.depth it.0.place it.1 v.2 refl refl
        (subst (λ (o : Option Frame). MovesIn g (extra g) 2 2 c (with_variable o (λ t. entered g.code v.0 t s))) (sym x.1)
        (entered-followed g (handed_on x.0.number x.0.binding) (phrase_at qs j at) (paths_at G j) v.0 P s c v.1 a.1 x.2 (f ∙ closed_by-var qs j at) w))
    plain-followed (lit u at) k P c n plain apart a e f w =
        let it : Item n.binders k (lit u at) P = g.right.right n.binders k at_here.address (lit u at) (erase P) n.stands e in
        executes it.0 (insn.Answer u) it.0.depth it.0.place it.1 (insn-is g.handed g.table g.code (plain-insn g plain it.2.insn)) refl refl (no_move g 0 (omega arith) (omega arith) (P, (at, f, a.1), w))
    plain-followed (unary op p at) k P c n plain apart a e f w =
        let it : Item n.binders k (unary op p at) P = g.right.right n.binders k at_here.address (unary op p at) (erase P) n.stands e in
        let v = insn-is g.handed g.table g.code (plain-insn g plain it.2.insn) in
        executes it.0 (insn.Op1 op v.0) it.0.depth at it.1 v.2 refl it.2.place
        (starts c v.0 (closed_by 0 qs p) (end (operand_atom op)) (end (unary_atom op)) (op_1 op at) (op_1 op at) (omega arith) refl
        (focus-step c (unary op (closed_by 0 qs p) at) f)
        (code-as v.0 (k + 1) p (end (operand_atom op)) (at_end a_value) (operand-erase op) (part g n plain (within_first is_entered) n.closed n.depths) a.2 v.1)
        unary_operand (subst (λ (R : PlainPath). Behind g s c R) a.1 w))
    plain-followed (binary op p q at) k P c n plain apart a e f w =
        let it : Item n.binders k (binary op p q at) P = g.right.right n.binders k at_here.address (binary op p q at) (erase P) n.stands e in
        let v = insn-is g.handed g.table g.code (plain-insn g plain it.2.insn) in
        let D = a.1.0 in
        executes it.0 (insn.Op2 op v.0 v.1) it.0.depth at it.1 v.4 refl it.2.place
        (starts c v.0 (closed_by 0 qs p) (end (data_atom D)) (end (binary_atom op)) (op_l op (Here v.1) at) (op_l op (closed_by 0 qs q) at) (omega arith) refl
        (focus-step c (binary op (closed_by 0 qs p) (closed_by 0 qs q) at) f)
        (code-as v.0 (k + 1) p (end (data_atom D)) (at_end a_value) (data-erase D) (part g n plain (within_first is_entered) n.closed.0 n.depths.0) a.1.3 v.2)
        (left_operand D a.1.1
        (code-as v.1 (k + 1 + nodes p) q (end (data_atom D)) (at_end a_value) (data-erase D) (part g n plain (within_later (within_first is_entered)) n.closed.1 n.depths.1) a.1.4 v.3))
        (subst (λ (R : PlainPath). Behind g s c R) a.1.2 w))
    plain-followed (conditional b p q at) k P c n plain apart a e f w =
        let it : Item n.binders k (conditional b p q at) P = g.right.right n.binders k at_here.address (conditional b p q at) (erase P) n.stands e in
        let v = insn-is g.handed g.table g.code (plain-insn g plain it.2.insn) in
        executes it.0 (insn.Cond v.0 v.1 v.2) it.0.depth it.0.place it.1 v.6 refl refl
        (starts c v.0 (closed_by 0 qs b) (end atoms.Bool) P (if_c (Here v.1) (Here v.2)) (if_c (closed_by 0 qs p) (closed_by 0 qs q)) (omega arith) refl
        (focus-step c (conditional (closed_by 0 qs b) (closed_by 0 qs p) (closed_by 0 qs q) at) f)
        (code-as v.0 (k + 1) b (end atoms.Bool) (at_end a_value) refl (part g n plain (within_first is_entered) n.closed.0 n.depths.0) a.1 v.3)
        (condition
        (code-as v.1 (k + 1 + nodes b) p P (erase P) refl (part g n plain (within_later (within_first is_entered)) n.closed.1 n.depths.1) a.2 v.4)
        (code-as v.2 (k + 1 + nodes b + nodes p) q P (erase P) refl (part g n plain (within_later (within_later (within_first is_entered))) n.closed.2 n.depths.2) a.3 v.5))
        w)
    plain-followed (case i parts at) k P c n plain apart a e f w =
        let it : Item n.binders k (case i parts at) P = g.right.right n.binders k at_here.address (case i parts at) (erase P) n.stands e in
        let v = insn-is g.handed g.table g.code (plain-insn g plain it.2.insn) in
        let each = each-code n.binders (k + 1 + nodes i) parts (erase P) v.1 P v.3 refl (λ j q x closed depths. part g n plain (within_later x) closed depths) n.closed.1 n.depths.1 a.2 in
        executes it.0 (insn.Case v.0 v.1) it.0.depth at it.1 v.4 refl it.2.place
        (starts c v.0 (closed_by 0 qs i) (end atoms.Int) P (case_c at_here at) (case_c (all_closed_by 0 qs parts) at) (omega arith) refl
        (focus-step c (case (closed_by 0 qs i) (all_closed_by 0 qs parts) at) f)
        (code-as v.0 (k + 1) i (end atoms.Int) (at_end a_value) refl (part g n plain (within_first is_entered) n.closed.0 n.depths.0) a.1 v.2)
        (index (it.0, it.1, subst (λ (x : PeInsn). EachCodeAnswers g s.frames at_here.frame (picked_from x) (all_closed_by 0 qs parts) P) (sym v.4) each)) w)
    plain-followed (lam d As b at) k P c n plain apart a e f w =
        let it : Item n.binders k (lam d As b at) P = g.right.right n.binders k at_here.address (lam d As b at) (erase P) n.stands e in
        let v = insn-is g.handed g.table g.code (plain-insn g plain it.2.insn) in
        let path : P ≡ call a.1.0 a.1.1 = a.1.2 in
        let sh : erase P ≡ a_call (erase a.1.1) = ap erase path in
        let asked : erase P ≡ a_call v.1 = v.2 in
        let same : v.1 ≡ erase a.1.1 = cc in
        executes it.0 (insn.Bind v.0) d it.0.place it.1 v.4 (it.2.depth ∙ n.many ∙ sym n.depths.0) refl
        (moves-weaker g {r = 0} {a = 1} (omega arith) (omega arith)
        (taken-followed g (copy.lam_meets d (closed_by 1 qs b)) (bind_meets d v.0 at_here.frame) P s c (focus-step c (lam d As (closed_by 1 qs b) at) f) (call-apart path) w
        (lam-meets g d v.0 at_here.frame b (k + 1) qs G a.1.0 a.1.1 P s c path (body g n plain (within_first is_entered) n.closed n.depths.1) a.1.3
        (subst (λ (t : PlainShape). Enters g.table g.code (k + 1) t v.0) same v.3) env)))
    plain-followed (app p q at) k P c n plain apart a e f w =
        let it : Item n.binders k (app p q at) P = g.right.right n.binders k at_here.address (app p q at) (erase P) n.stands e in
        let v = insn-is g.handed g.table g.code (plain-insn g plain it.2.insn) in
        executes it.0 it.0.insn it.0.depth at it.1 refl refl it.2.place
        (app-followed p q at k v.0 it.0.insn it.0.depth (suc (suc (merges (app p q at)))) a.1.0 P c n plain v.2 a.1.1 a.1.2 v.1 f w (omega arith))
    plain-followed (field i p at) k P c n plain apart a e f w =
        let it : Item n.binders k (field i p at) P = g.right.right n.binders k at_here.address (field i p at) (erase P) n.stands e in
        let v = insn-is g.handed g.table g.code (plain-insn g plain it.2.insn) in
        let path : P ≡ pick i a.1.0 = a.1.1 in
        let sh : erase P ≡ a_field i (erase a.1.0) = ap erase path in
        let asked : erase P ≡ a_field i v.1 = v.2 in
        let same : v.1 ≡ erase a.1.0 = cc in
        executes it.0 (insn.Field i v.0) it.0.depth it.0.place it.1 v.4 refl refl
        (moves-weaker g {r = 0} {a = 1} (omega arith) (omega arith)
        (taken-followed g (copy.field_meets i (closed_by 0 qs p)) (field_meets i (Here v.0)) P s c (focus-step c (field i (closed_by 0 qs p) at) f) (pick-apart path) w
        (field-meets g i (Here v.0) (closed_by 0 qs p) a.1.0 P s c path
        (code-as v.0 (k + 1) p a.1.0 v.1 (sym same) (part g n plain (within_first is_entered) n.closed n.depths) a.1.2 v.3))))
    plain-followed (sel p i at) k P c n plain apart a e f w =
        let it : Item n.binders k (sel p i at) P = g.right.right n.binders k at_here.address (sel p i at) (erase P) n.stands e in
        let v = insn-is g.handed g.table g.code (plain-insn g plain it.2.insn) in
        executes it.0 (insn.Pick i v.0) it.0.depth it.0.place it.1 v.2 refl refl
        (starts c v.0 (closed_by 0 qs p) (pick i P) P (pick_c i) (pick_c i) (omega arith) refl (focus-step c (sel (closed_by 0 qs p) i at) f)
        (code-as v.0 (k + 1) p (pick i P) (a_field i (erase P)) refl (part g n plain (within_first is_entered) n.closed n.depths) a.1 v.1) selected w)
    plain-followed (merge p q at) k P c n plain apart a e f w = absurd cc
    plain-followed (let_in d p b at) k P c n plain apart a e f w =
        let it : Item n.binders k (let_in d p b at) P = g.right.right n.binders k at_here.address (let_in d p b at) (erase P) n.stands e in
        let v = insn-is g.handed g.table g.code (plain-insn g plain it.2.insn) in
        executes it.0 it.0.insn d at it.1 refl (it.2.depth ∙ n.many ∙ sym n.depths.0) it.2.place
        (let-followed d p b at k v.0 it.0.insn (suc (suc (merges (let_in d p b at)))) a.1.0 P c n plain v.2 a.1.1 a.1.2 v.1 f w (omega arith))
    plain-followed (rec d A b at) k P c n plain apart a e f w =
        let it : Item n.binders k (rec d A b at) P = g.right.right n.binders k at_here.address (rec d A b at) (erase P) n.stands e in
        let v = insn-is g.handed g.table g.code (plain-insn g plain it.2.insn) in
        executes it.0 (insn.Knot k v.0) d it.0.place it.1 v.2 (it.2.depth ∙ n.many ∙ sym n.depths.0) refl
        (one_move g (focus-step c (rec d A (closed_by 1 qs b) at) f) (omega arith)
        (bound-simulates g s c d v.0 at_here.frame (source k at_here.frame) (closed_by 0 qs (rec d A b at)) (paths A) b (k + 1) qs G P
        (rec d A b at, qs, G, n, refl, env, λ R some. (pair-above k some a.2, some, a.2, a.3), refl) env
        (body g n plain (within_first is_entered) n.closed n.depths.1) (answers-above (HasPairOf g.table) b (paths A ∷ G) (k + 1) a.1 a.3) v.1 w))
    plain-followed (skip at) k P c n plain apart a e f w =
        let it : Item n.binders k (skip at) P = g.right.right n.binders k at_here.address (skip at) (erase P) n.stands e in
        executes it.0 insn.Done it.0.depth it.0.place it.1 (insn-is g.handed g.table g.code (plain-insn g plain it.2.insn)) refl refl (no_move g 0 (omega arith) (omega arith) (P, (at, f, a.1), w))
    plain-followed (seq p q at) k P c n plain apart a e f w =
        let it : Item n.binders k (seq p q at) P = g.right.right n.binders k at_here.address (seq p q at) (erase P) n.stands e in
        let v = insn-is g.handed g.table g.code (plain-insn g plain it.2.insn) in
        executes it.0 (insn.Seq v.0 v.1) it.0.depth it.0.place it.1 v.4 refl refl
        (starts c v.0 (closed_by 0 qs p) (end atoms.Comm) P (then_c (Here v.1)) (then_c (closed_by 0 qs q)) (omega arith) refl
        (focus-step c (seq (closed_by 0 qs p) (closed_by 0 qs q) at) f)
        (code-as v.0 (k + 1) p (end atoms.Comm) (at_end a_run) refl (part g n plain (within_first is_entered) n.closed.0 n.depths.0) a.2 v.2)
        (first_command (code-as v.1 (k + 1 + nodes p) q P (at_end a_run) (run-erase a.1) (part g n plain (within_later (within_first is_entered)) n.closed.1 n.depths.1) a.3 v.3)) w)
    plain-followed (assign p q at) k P c n plain apart a e f w =
        let it : Item n.binders k (assign p q at) P = g.right.right n.binders k at_here.address (assign p q at) (erase P) n.stands e in
        let v = insn-is g.handed g.table g.code (plain-insn g plain it.2.insn) in
        let D = a.1.0 in
        executes it.0 (insn.Assign v.0 v.1) it.0.depth it.0.place it.1 v.4 refl refl
        (starts c v.1 (closed_by 0 qs q) (end (data_atom D)) (end atoms.Comm) (assign_c (Here v.0)) (assign_c (closed_by 0 qs p)) (omega arith) refl
        (focus-step c (assign (closed_by 0 qs p) (closed_by 0 qs q) at) f)
        (code-as v.1 (k + 1 + nodes p) q (end (data_atom D)) (at_end a_value) (data-erase D) (part g n plain (within_later (within_first is_entered)) n.closed.1 n.depths.1) a.1.3 v.3)
        (assigned_value D (code-as v.0 (k + 1) p (end (acceptor_atom D)) (at_end an_assignment) (acceptor-erase D) (part g n plain (within_first is_entered) n.closed.0 n.depths.0) a.1.2 v.2))
        (subst (λ (R : PlainPath). Behind g s c R) a.1.1 w))
    plain-followed (while_do b i at) k P c n plain apart a e f w =
        let it : Item n.binders k (while_do b i at) P = g.right.right n.binders k at_here.address (while_do b i at) (erase P) n.stands e in
        let v = insn-is g.handed g.table g.code (plain-insn g plain it.2.insn) in
        executes it.0 (insn.While v.0 v.1) it.0.depth it.0.place it.1 v.4 refl refl
        (starts c v.0 (closed_by 0 qs b) (end atoms.Bool) (end atoms.Comm) (while_c at_here (Here v.1)) (while_c (closed_by 0 qs (while_do b i at)) (closed_by 0 qs i)) (omega arith) refl
        (focus-step c (while_do (closed_by 0 qs b) (closed_by 0 qs i) at) f)
        (code-as v.0 (k + 1) b (end atoms.Bool) (at_end a_value) refl (part g n plain (within_first is_entered) n.closed.0 n.depths.0) a.2 v.2)
        (loop_test (itself-again k (while_do b i at) P (end atoms.Comm) a.1 n a e)
        (code-as v.1 (k + 1 + nodes b) i (end atoms.Comm) (at_end a_run) refl (part g n plain (within_later (within_first is_entered)) n.closed.1 n.depths.1) a.3 v.3))
        (subst (λ (R : PlainPath). Behind g s c R) a.1 w))
    plain-followed (forever i at) k P c n plain apart a e f w =
        let it : Item n.binders k (forever i at) P = g.right.right n.binders k at_here.address (forever i at) (erase P) n.stands e in
        let v = insn-is g.handed g.table g.code (plain-insn g plain it.2.insn) in
        executes it.0 (insn.Loop v.0) it.0.depth it.0.place it.1 v.2 refl refl
        (starts c v.0 (closed_by 0 qs i) (end atoms.Comm) P (loop_c at_here) (loop_c (closed_by 0 qs (forever i at))) (omega arith) refl
        (focus-step c (forever (closed_by 0 qs i) at) f)
        (code-as v.0 (k + 1) i (end atoms.Comm) (at_end a_run) refl (part g n plain (within_first is_entered) n.closed n.depths) a.2 v.1)
        (endless_body (itself-again k (forever i at) P P refl n a e)) w)
    plain-followed (new d D i b at) k P c n plain apart a e f w =
        let it : Item n.binders k (new d D i b at) P = g.right.right n.binders k at_here.address (new d D i b at) (erase P) n.stands e in
        let v = insn-is g.handed g.table g.code (plain-insn g plain it.2.insn) in
        executes it.0 (insn.New v.0 v.1) d it.0.place it.1 v.4 (it.2.depth ∙ n.many ∙ sym n.depths.0) refl
        (starts c v.0 (closed_by 0 qs i) (end (data_atom D)) P (new_c d (Here v.1)) (new_c d (closed_by 1 qs b)) (omega arith) refl
        (focus-step c (new d D (closed_by 0 qs i) (closed_by 1 qs b) at) f)
        (code-as v.0 (k + 1) i (end (data_atom D)) (at_end a_value) (data-erase D) (part g n plain (within_first is_entered) n.closed.0 n.depths.1) a.2 v.2)
        (first_value D a.1 (
          k + 1 + nodes i,
          b,
          qs,
          G,
          body g n plain (within_later (within_first is_entered)) n.closed.1 n.depths.2,
          a.3,
          subst (λ (t : PlainShape). Enters g.table g.code (k + 1 + nodes i) t v.1) (sym (run-erase a.1)) v.3,
          env,
          refl,
        )) w)
    plain-followed (escape d b at) k P c n plain apart a e f w =
        let it : Item n.binders k (escape d b at) P = g.right.right n.binders k at_here.address (escape d b at) (erase P) n.stands e in
        let v = insn-is g.handed g.table g.code (plain-insn g plain it.2.insn) in
        executes it.0 (insn.Escape v.0) d it.0.place it.1 v.2 (it.2.depth ∙ n.many ∙ sym n.depths.0) refl
        (escape-followed d v.0 b at (k + 1) c (suc (suc (merges (escape d b at)))) (body g n plain (within_first is_entered) n.closed n.depths.1) a.2 v.1
        (focus-step c (escape d (closed_by 1 qs b) at) f) (subst (λ (R : PlainPath). Behind g s c R) a.1 w) (omega arith))
    plain-followed (accept d D b at) k P c n plain apart a e f w =
        let it : Item n.binders k (accept d D b at) P = g.right.right n.binders k at_here.address (accept d D b at) (erase P) n.stands e in
        let v = insn-is g.handed g.table g.code (plain-insn g plain it.2.insn) in
        executes it.0 (insn.Accept v.0) d it.0.place it.1 v.2 (it.2.depth ∙ n.many ∙ sym n.depths.0) refl
        (moves-weaker g {r = 0} {a = 1} (omega arith) (omega arith)
        (taken-followed g (copy.accept_meets d (closed_by 1 qs b) at) (accept_meets d v.0 at_here.frame) P s c
        (focus-step c (accept d D (closed_by 1 qs b) at) f) (acceptor-apart D a.1) w
        (accept-meets g d v.0 at_here.frame b at (k + 1) qs G D P s c a.1 (body g n plain (within_first is_entered) n.closed n.depths.1) a.2 v.1 env)))
    plain-followed (put kind p at) k P c n plain apart a e f w =
        let it : Item n.binders k (put kind p at) P = g.right.right n.binders k at_here.address (put kind p at) (erase P) n.stands e in
        let v = insn-is g.handed g.table g.code (plain-insn g plain it.2.insn) in
        executes it.0 (insn.Put kind v.0) it.0.depth it.0.place it.1 v.2 refl refl
        (starts c v.0 (closed_by 0 qs p) (end (put_atom kind)) (end atoms.Comm) (put_c kind) (put_c kind) (omega arith) refl (focus-step c (put kind (closed_by 0 qs p) at) f)
        (code-as v.0 (k + 1) p (end (put_atom kind)) (at_end a_value) (put-erase kind) (part g n plain (within_first is_entered) n.closed n.depths) a.2 v.1)
        put_datum (subst (λ (R : PlainPath). Behind g s c R) a.1 w))
    plain-followed (read p at) k P c n plain apart a e f w =
        let it : Item n.binders k (read p at) P = g.right.right n.binders k at_here.address (read p at) (erase P) n.stands e in
        let v = insn-is g.handed g.table g.code (plain-insn g plain it.2.insn) in
        let h = code-as v.0 (k + 1) p (end atoms.IntAcc) (at_end an_assignment) refl (part g n plain (within_first is_entered) n.closed n.depths) a.2 v.1 in
        executes it.0 (insn.Read v.0) it.0.depth it.0.place it.1 v.2 refl refl
        (takes_byte (λ byte. copy.focus_on (closed_by 0 qs p) (copy.push (store_c (byte_or_end byte)) c)) no_step (omega arith) (focus-step c (read (closed_by 0 qs p) at) f)
        (λ byte. pushed-simulates g s c (end atoms.IntAcc) (end atoms.Comm) (store_c (byte_or_end byte)) (store_c (byte_or_end byte)) (Here v.0) (closed_by 0 qs p) refl h
        (acceptor data_type.Int (byte-typed byte)) (subst (λ (R : PlainPath). Behind g s c R) a.1 w)))
    plain-followed (cells d i b at) k P c n plain apart a e f w =
        let it : Item n.binders k (cells d i b at) P = g.right.right n.binders k at_here.address (cells d i b at) (erase P) n.stands e in
        let v = insn-is g.handed g.table g.code (plain-insn g plain it.2.insn) in
        executes it.0 (insn.Cells v.0 v.1) d at it.1 v.4 (it.2.depth ∙ n.many ∙ sym n.depths.0) it.2.place
        (starts c v.0 (closed_by 0 qs i) (end atoms.Int) P (cells_c d (Here v.1) at) (cells_c d (closed_by 1 qs b) at) (omega arith) refl
        (focus-step c (cells d (closed_by 0 qs i) (closed_by 1 qs b) at) f)
        (code-as v.0 (k + 1) i (end atoms.Int) (at_end a_value) refl (part g n plain (within_first is_entered) n.closed.0 n.depths.1) a.2 v.2)
        (cells_wanted a.1 (index-known v.0 (k + 1) v.2) (
          k + 1 + nodes i,
          b,
          qs,
          G,
          body g n plain (within_later (within_first is_entered)) n.closed.1 n.depths.2,
          a.3,
          subst (λ (t : PlainShape). Enters g.table g.code (k + 1 + nodes i) t v.1) (sym (run-erase a.1)) v.3,
          env,
          refl,
        )) w)
    plain-followed (mark m at) k P c n plain apart a e f w = absurd a

    -- ---- a node that is evaluated in one step

    atom-data : (A : Atom) → end_shape A ≡ a_value → (D : DataTy) × (A ≡ data_atom D)
    atom-data atoms.Int e = (data_type.Int, refl)
    atom-data atoms.Bool e = (data_type.Bool, refl)
    atom-data atoms.Char e = (data_type.Char, refl)
    atom-data A e = absurd cc

    -- a path of the shape of a value
    value-data : (P : PlainPath) → erase P ≡ at_end a_value → (D : DataTy) × (P ≡ end (data_atom D))
    value-data (end A) e = let f : end_shape A ≡ a_value = cc in let x = atom-data A f in (x.0, ap end x.1)
    value-data (call D P) e = absurd cc
    value-data (pick i P) e = absurd cc

    straight-executed : (node : Tree) (k : ℕ) (P : PlainPath) (c : CopyState) (n : IsNode g s.frames at_here.frame (length G) k node) (t : PlainShape) (i : PeInsn) (d : ℕ) (at : Place) → erase P ≡ t →
        IsStraightOf g.code n.binders node t i → Below s.next s.frames → Answered g G k node P → c.focus ≡ closed_by 0 qs node → Behind g s c P →
        IsExecuted g (extra g) (more_in g at_here.frame) (rank_of node) 2 c (executed g.code i d at at_here s)
    straight-executed node k P c n t i d at e (of_value {ss = ss} post height) lo a f w =
        let x = value-data P e in
        eval-followed g s at_here qs G env s.next lo node k x.0 P ss d at c n x.1 a post height f w
    straight-executed node k P c n t i d at e (of_assignment {j = j} {e = q} {here = place} {at = spot} {ss = ss} is post height) lo a f w =
        set-followed g s at_here qs G env s.next lo j q place spot k a.1.0 ss d at c n is a.1.2 a.1.3 post height f (subst (λ (R : PlainPath). Behind g s c R) a.1.1 w)

    -- ---- a form that is executed with a part

    put-data : (kind : PutKind) → (D : DataTy) × (put_atom kind ≡ data_atom D)
    put-data put_kind.Int = (data_type.Int, refl)
    put-data put_kind.Char = (data_type.Char, refl)
    put-data put_kind.Bool = (data_type.Bool, refl)

    fed-executed : (node : Tree) (k : ℕ) (P : PlainPath) (c : CopyState) (n : IsNode g s.frames at_here.frame (length G) k node) (t : PlainShape) (x : Entering) (i : PeInsn) (d : ℕ) (at : Place) → erase P ≡ t → g.straight k ≡ x →
        FeedsFew (nodes g.phrase) x node → IsFedOf g.table g.code n.binders k node t x i → Answered g G k node P → Enters g.table g.code k (erase P) at_here.address → c.focus ≡ closed_by 0 qs node → Behind g s c P →
        IsExecuted g (extra g) (more_in g at_here.frame) (rank_of node) 2 c (executed g.code i d at at_here s)
    fed-executed node k P c n t x i d at same is few (of_condition {y = y} {z = z} {b = b} {p = p} {q = q} {at = spot} {ss = ss} feeds en em) a e f w =
        fed-followed g s at_here qs G env s.next w.2 node b k (k + 1) (rank_of node) data_type.Bool P (purpose.Choose y z) (if_c (closed_by 0 qs p) (closed_by 0 qs q)) ss d at c n feeds
        (quarter-spare (nodes b) g.phrase few) a.1 (focus-step c (conditional (closed_by 0 qs b) (closed_by 0 qs p) (closed_by 0 qs q) spot) f) (λ m there o. refl) (λ v there. refl) refl
        (condition
        (code-as y (k + 1 + nodes b) p P t same (part-as g later n is (within_first is_entered) n.closed.1 n.depths.1) a.2 en)
        (code-as z (k + 1 + nodes b + nodes p) q P t same (part-as g later n is (within_later (within_first is_entered)) n.closed.2 n.depths.2) a.3 em))
        w
    fed-executed node k P c n t x i d at same is few (of_test {y = y} {b = b} {c = r} {at = spot} {ss = ss} feeds en) a e f w =
        fed-followed g s at_here qs G env s.next w.2 node b k (k + 1) (rank_of node) data_type.Bool (end atoms.Comm) (purpose.Repeat y) (while_c (closed_by 0 qs node) (closed_by 0 qs r)) ss d at c n feeds
        (quarter-spare (nodes b) g.phrase few) a.2 (focus-step c (while_do (closed_by 0 qs b) (closed_by 0 qs r) spot) f) (λ m there o. refl) (λ v there. refl) refl
        (loop_test (itself-again k node P (end atoms.Comm) a.1 n a e)
        (code-as y (k + 1 + nodes b) r (end atoms.Comm) (at_end a_run) refl (part-as g later n is (within_first is_entered) n.closed.1 n.depths.1) a.3 en))
        (subst (λ (R : PlainPath). Behind g s c R) a.1 w)
    fed-executed node k P c n t x i d at same is few (of_assigned {x = y} {p = p} {q = q} {at = spot} {ss = ss} feeds en) a e f w =
        fed-followed g s at_here qs G env s.next w.2 node q k (k + 1 + nodes p) (rank_of node) a.1.0 (end atoms.Comm) (purpose.Store y) (assign_c (closed_by 0 qs p)) ss d at c n feeds
        (quarter-spare (nodes q) g.phrase few) a.1.3 (focus-step c (assign (closed_by 0 qs p) (closed_by 0 qs q) spot) f) (λ m there o. refl) (λ v there. refl) refl
        (assigned_value a.1.0 (code-as y (k + 1) p (end (acceptor_atom a.1.0)) (at_end an_assignment) (acceptor-erase a.1.0) (part-as g first_alone n is (within_first is_entered) n.closed.0 n.depths.0) a.1.2 en))
        (subst (λ (R : PlainPath). Behind g s c R) a.1.1 w)
    fed-executed node k P c n t x i d at same is few (of_output {kind = kind} {p = p} {at = spot} {ss = ss} feeds) a e f w =
        let D = put-data kind in
        fed-followed g s at_here qs G env s.next w.2 node p k (k + 1) (rank_of node) D.0 (end atoms.Comm) (purpose.Write kind) (put_c kind) ss d at c n feeds
        (quarter-spare (nodes p) g.phrase few) (subst (λ (A : Atom). Answered g G (k + 1) p (end A)) D.1 a.2) (focus-step c (put kind (closed_by 0 qs p) spot) f) (λ m there o. refl) (λ v there. refl) refl
        (subst (λ (A : Atom). ContextTakes g s.frames (put_c kind) (put_c kind) (end A) (end atoms.Comm)) D.1 put_datum)
        (subst (λ (R : PlainPath). Behind g s c R) a.1 w)

    -- an item is executed
    dispatch : (node : Tree) (k : ℕ) (P : PlainPath) (c : CopyState) (n : IsNode g s.frames at_here.frame (length G) k node) → Answered g G k node P → Enters g.table g.code k (erase P) at_here.address →
        c.focus ≡ closed_by 0 qs node → Behind g s c P → Item n.binders k node P → (g.straight k ≡ every → At (rank_of node) (suc (suc (merges node))) c) → Executed (rank_of node) (suc (suc (merges node))) c
    dispatch node k P c n a e f w it go = by it.2.insn
      where
        by : IsInsnAt g.handed g.straight g.table g.code n.binders k node (erase P) it.0.insn → Executed (rank_of node) (suc (suc (merges node))) c
        by (by_parts plain h) = by_steps (go plain)
        by (at_once is h) =
            subst (λ (o : Option PeItem). IsExecuted g (extra g) (more_in g at_here.frame) (rank_of node) (suc (suc (merges node))) c (item_executed g.code o at_here s)) (sym it.1)
            (executed-weaker g {r = rank_of node} {a = 2} (omega arith) (omega arith) (straight-executed node k P c n (erase P) it.0.insn it.0.depth it.0.place refl h w.2 a f w))
        by (fed {e = x} is h) =
            subst (λ (o : Option PeItem). IsExecuted g (extra g) (more_in g at_here.frame) (rank_of node) (suc (suc (merges node))) c (item_executed g.code o at_here s)) (sym it.1)
            (executed-weaker g {r = rank_of node} {a = 2} (omega arith) (omega arith)
            (fed-executed node k P c n (erase P) x it.0.insn it.0.depth it.0.place refl is (subst (λ (y : Entering). FeedsFew (nodes g.phrase) y node) is (g.right.fits n.binders k node n.stands)) h a e f w))

    pub executed-followed : (node : Tree) (k : ℕ) (P : PlainPath) (c : CopyState) → IsNode g s.frames at_here.frame (length G) k node → Answered g G k node P → Enters g.table g.code k (erase P) at_here.address →
        c.focus ≡ closed_by 0 qs node → Behind g s c P → Executed (rank_of node) (suc (suc (merges node))) c
    executed-followed (merge p q at) k P c n a e f w =
        merge-followed p q at k P c n a (g.right.right n.binders k at_here.address (merge p q at) (erase P) n.stands e) f w
        (λ j d m h en is v. executed-followed p j P d m h en is v) (λ j d m h en is v. executed-followed q j P d m h en is v)
    executed-followed (mark m at) k P c n a e f w = absurd a
    executed-followed (var j at) k P c n a e f w =
        dispatch (var j at) k P c n a e f w (g.right.right n.binders k at_here.address (var j at) (erase P) n.stands e) (λ plain. plain-followed (var j at) k P c n plain refl a e f w)
    executed-followed (lit u at) k P c n a e f w =
        dispatch (lit u at) k P c n a e f w (g.right.right n.binders k at_here.address (lit u at) (erase P) n.stands e) (λ plain. plain-followed (lit u at) k P c n plain refl a e f w)
    executed-followed (unary op p at) k P c n a e f w =
        dispatch (unary op p at) k P c n a e f w (g.right.right n.binders k at_here.address (unary op p at) (erase P) n.stands e) (λ plain. plain-followed (unary op p at) k P c n plain refl a e f w)
    executed-followed (binary op p q at) k P c n a e f w =
        dispatch (binary op p q at) k P c n a e f w (g.right.right n.binders k at_here.address (binary op p q at) (erase P) n.stands e) (λ plain. plain-followed (binary op p q at) k P c n plain refl a e f w)
    executed-followed (conditional b p q at) k P c n a e f w =
        dispatch (conditional b p q at) k P c n a e f w (g.right.right n.binders k at_here.address (conditional b p q at) (erase P) n.stands e) (λ plain. plain-followed (conditional b p q at) k P c n plain refl a e f w)
    executed-followed (case i parts at) k P c n a e f w =
        dispatch (case i parts at) k P c n a e f w (g.right.right n.binders k at_here.address (case i parts at) (erase P) n.stands e) (λ plain. plain-followed (case i parts at) k P c n plain refl a e f w)
    executed-followed (lam d As b at) k P c n a e f w =
        dispatch (lam d As b at) k P c n a e f w (g.right.right n.binders k at_here.address (lam d As b at) (erase P) n.stands e) (λ plain. plain-followed (lam d As b at) k P c n plain refl a e f w)
    executed-followed (app p q at) k P c n a e f w =
        dispatch (app p q at) k P c n a e f w (g.right.right n.binders k at_here.address (app p q at) (erase P) n.stands e) (λ plain. plain-followed (app p q at) k P c n plain refl a e f w)
    executed-followed (field i p at) k P c n a e f w =
        dispatch (field i p at) k P c n a e f w (g.right.right n.binders k at_here.address (field i p at) (erase P) n.stands e) (λ plain. plain-followed (field i p at) k P c n plain refl a e f w)
    executed-followed (sel p i at) k P c n a e f w =
        dispatch (sel p i at) k P c n a e f w (g.right.right n.binders k at_here.address (sel p i at) (erase P) n.stands e) (λ plain. plain-followed (sel p i at) k P c n plain refl a e f w)
    executed-followed (let_in d p b at) k P c n a e f w =
        dispatch (let_in d p b at) k P c n a e f w (g.right.right n.binders k at_here.address (let_in d p b at) (erase P) n.stands e) (λ plain. plain-followed (let_in d p b at) k P c n plain refl a e f w)
    executed-followed (rec d A b at) k P c n a e f w =
        dispatch (rec d A b at) k P c n a e f w (g.right.right n.binders k at_here.address (rec d A b at) (erase P) n.stands e) (λ plain. plain-followed (rec d A b at) k P c n plain refl a e f w)
    executed-followed (skip at) k P c n a e f w =
        dispatch (skip at) k P c n a e f w (g.right.right n.binders k at_here.address (skip at) (erase P) n.stands e) (λ plain. plain-followed (skip at) k P c n plain refl a e f w)
    executed-followed (seq p q at) k P c n a e f w =
        dispatch (seq p q at) k P c n a e f w (g.right.right n.binders k at_here.address (seq p q at) (erase P) n.stands e) (λ plain. plain-followed (seq p q at) k P c n plain refl a e f w)
    executed-followed (assign p q at) k P c n a e f w =
        dispatch (assign p q at) k P c n a e f w (g.right.right n.binders k at_here.address (assign p q at) (erase P) n.stands e) (λ plain. plain-followed (assign p q at) k P c n plain refl a e f w)
    executed-followed (while_do b i at) k P c n a e f w =
        dispatch (while_do b i at) k P c n a e f w (g.right.right n.binders k at_here.address (while_do b i at) (erase P) n.stands e) (λ plain. plain-followed (while_do b i at) k P c n plain refl a e f w)
    executed-followed (forever i at) k P c n a e f w =
        dispatch (forever i at) k P c n a e f w (g.right.right n.binders k at_here.address (forever i at) (erase P) n.stands e) (λ plain. plain-followed (forever i at) k P c n plain refl a e f w)
    executed-followed (new d D i b at) k P c n a e f w =
        dispatch (new d D i b at) k P c n a e f w (g.right.right n.binders k at_here.address (new d D i b at) (erase P) n.stands e) (λ plain. plain-followed (new d D i b at) k P c n plain refl a e f w)
    executed-followed (cells d i b at) k P c n a e f w =
        dispatch (cells d i b at) k P c n a e f w (g.right.right n.binders k at_here.address (cells d i b at) (erase P) n.stands e) (λ plain. plain-followed (cells d i b at) k P c n plain refl a e f w)
    executed-followed (escape d b at) k P c n a e f w =
        dispatch (escape d b at) k P c n a e f w (g.right.right n.binders k at_here.address (escape d b at) (erase P) n.stands e) (λ plain. plain-followed (escape d b at) k P c n plain refl a e f w)
    executed-followed (accept d D b at) k P c n a e f w =
        dispatch (accept d D b at) k P c n a e f w (g.right.right n.binders k at_here.address (accept d D b at) (erase P) n.stands e) (λ plain. plain-followed (accept d D b at) k P c n plain refl a e f w)
    executed-followed (put kind p at) k P c n a e f w =
        dispatch (put kind p at) k P c n a e f w (g.right.right n.binders k at_here.address (put kind p at) (erase P) n.stands e) (λ plain. plain-followed (put kind p at) k P c n plain refl a e f w)
    executed-followed (read p at) k P c n a e f w =
        dispatch (read p at) k P c n a e f w (g.right.right n.binders k at_here.address (read p at) (erase P) n.stands e) (λ plain. plain-followed (read p at) k P c n plain refl a e f w)
