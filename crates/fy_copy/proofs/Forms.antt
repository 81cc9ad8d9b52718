-- Steps by the form in focus, and ends.
use Rattle.std.proofs.Common.{◌≡◌, ℕ, suc, Box, Global, Bool, true, List, [], ◌∷◌, ◌++◌, length, refl, sym, ap, ◌∙◌, subst, eq-eqb, arith}
use Rattle.std.specs.Prelude.{◌==◌, if◌then◌else◌}
use Rattle.std.proofs.lemmas.Bool.{ne_eqb}
use Rattle.fy_base.specs.declared.data.Place.{Place}
use Rattle.fy_base.specs.declared.data.Datum.{Datum}
use Rattle.fy_types.specs.declared.types.Ty.{Ty}
use Rattle.fy_types.specs.declared.types.TyList.{TyList}
use Rattle.fy_types.specs.Reading.{plain_type, plain_types}
use Rattle.fy_phrase.specs.declared.phrase.MarkKind.{MarkKind}
use Rattle.fy_phrase.specs.declared.phrase.MarkKind.TheVariants as marks
use Rattle.fy_phrase.specs.declared.phrase.DataTy.{DataTy}
use Rattle.fy_phrase.specs.declared.phrase.Phrase as form
use Rattle.fy_phrase.specs.declared.phrase.Phrase.{Phrase, fold-roll-Phrase}
use Rattle.fy_phrase.specs.declared.phrase.Phrase.TheOpen.{Phrase-F}
use Rattle.fy_phrase.specs.declared.phrase.Phrase.TheVariants.{rolls-Lit, rolls-Skip, rolls-Mark, rolls-Lam, rolls-Accept, rolls-LetIn, rolls-Rec, rolls-Escape}
use Rattle.fy_phrase.specs.Tree.{Tree, Trees, lit, skip, mark, lam, accept, let_in, rec, escape}
use Rattle.fy_phrase.specs.Reads.{reads, reads_form, reads_list}
use Rattle.fy_phrase.specs.Contexts.{CopyContext, drop_c, esc_c, Pushed}
use Rattle.fy_phrase.specs.Copy.{Row, single, CopyState, CopyMove, goes, sticks, push, pushed, bound, taken, stored, lam_meets, accept_meets, standing_at, going, ended, jumped, is_target, step_at}
use Rattle.fy_copy.specs.Shown.{pushed_of, context_of, contexts_onto}
use Rattle.fy_copy.specs.Moves.{Moved, Binds}
use Rattle.fy_copy.specs.declared.context.Context.{Context}
use Rattle.fy_copy.specs.declared.context.Context.TheVariants as held
use Rattle.fy_copy.specs.declared.context.Frame.{Frame}
use Rattle.fy_copy.specs.declared.progress.Turn.{Turn}
use Rattle.fy_copy.specs.declared.progress.Body.{Body}
use Rattle.fy_copy.specs.declared.state.Phase.{Phase}
use Rattle.fy_copy.specs.declared.state.Phase.TheVariants as phase
use Rattle.fy_copy.proofs.Stacks.{contexts_onto-push}
use Rattle.fy_copy.proofs.StoreLemmas.{chosen_if, other_if}

-- ---- what phrases read as

pub reads_lit : (v : Datum) (at : Place) → reads (form.Lit v at) ≡ lit v at
reads_lit v at = ap reads (sym (rolls-Lit v at)) ∙ fold-roll-Phrase Tree Trees reads_form reads_list (Phrase-F.Lit v at)

pub reads_skip : (at : Place) → reads (form.Skip at) ≡ skip at
reads_skip at = ap reads (sym (rolls-Skip at)) ∙ fold-roll-Phrase Tree Trees reads_form reads_list (Phrase-F.Skip at)

pub reads_mark : (m : MarkKind) (at : Place) → reads (form.Mark m at) ≡ mark m at
reads_mark m at = ap reads (sym (rolls-Mark m at)) ∙ fold-roll-Phrase Tree Trees reads_form reads_list (Phrase-F.Mark m at)

pub reads_lam : (p : Phrase) (d : ℕ) (l : TyList) (body : Box Phrase Global) (at : Place) → p ≡ form.Lam d l body at → reads p ≡ lam d (plain_types l) (reads body.value) at
reads_lam p d l body at is = ap reads is ∙ ap reads (sym (rolls-Lam d l body at)) ∙ fold-roll-Phrase Tree Trees reads_form reads_list (Phrase-F.Lam d l body at)

pub reads_accept : (p : Phrase) (d : ℕ) (D : DataTy) (body : Box Phrase Global) (at : Place) → p ≡ form.Accept d D body at → reads p ≡ accept d D (reads body.value) at
reads_accept p d D body at is = ap reads is ∙ ap reads (sym (rolls-Accept d D body at)) ∙ fold-roll-Phrase Tree Trees reads_form reads_list (Phrase-F.Accept d D body at)

pub reads_let_in : (p : Phrase) (d : ℕ) (q body : Box Phrase Global) (at : Place) → p ≡ form.LetIn d q body at → reads p ≡ let_in d (reads q.value) (reads body.value) at
reads_let_in p d q body at is = ap reads is ∙ ap reads (sym (rolls-LetIn d q body at)) ∙ fold-roll-Phrase Tree Trees reads_form reads_list (Phrase-F.LetIn d q body at)

pub reads_rec : (p : Phrase) (d : ℕ) (T : Ty) (body : Box Phrase Global) (at : Place) → p ≡ form.Rec d T body at → reads p ≡ rec d (plain_type T) (reads body.value) at
reads_rec p d T body at is = ap reads is ∙ ap reads (sym (rolls-Rec d T body at)) ∙ fold-roll-Phrase Tree Trees reads_form reads_list (Phrase-F.Rec d T body at)

pub reads_escape : (p : Phrase) (d : ℕ) (body : Box Phrase Global) (at : Place) → p ≡ form.Escape d body at → reads p ≡ escape d (reads body.value) at
reads_escape p d body at is = ap reads is ∙ ap reads (sym (rolls-Escape d body at)) ∙ fold-roll-Phrase Tree Trees reads_form reads_list (Phrase-F.Escape d body at)

-- ---- the end

standing_under : (at : Place) (c : Pushed CopyContext) (cs : List (Pushed CopyContext)) (fs : List Frame) → standing_at (skip at) (contexts_onto (c ∷ cs) fs) ≡ going
standing_under at c cs [] = refl
standing_under at c cs (f ∷ fs) = standing_under at (pushed_of f) (c ∷ cs) fs

standing_skip : (at : Place) (fs : List Frame) (len : ℕ) → len ≡ length fs → standing_at (skip at) (contexts_onto [] fs) ≡ (if len == 0 then ended else going)
standing_skip at [] len is = ap (λ (n : ℕ). if n == 0 then ended else going) (sym is)
standing_skip at (f ∷ fs) len is =
    standing_under at (pushed_of f) [] fs ∙ sym (other_if (len == 0) ended going (ne_eqb len 0 (λ (none : len ≡ 0). let e : suc (length fs) ≡ 0 = sym is ∙ none in omega arith)))

pub standing_finished : (p : Phrase) (at : Place) (fs : List Frame) (over : Bool) (len : ℕ) → p ≡ form.Skip at → over ≡ (len == 0) → len ≡ length fs → standing_at (reads p) (contexts_onto [] fs) ≡ (if over then ended else going)
standing_finished p at fs over len is none all =
    ap (λ t. standing_at t (contexts_onto [] fs)) (ap reads is ∙ reads_skip at) ∙ standing_skip at fs len all ∙ ap (λ (b : Bool). if b then ended else going) (sym none)

-- ---- a jump at its own context

abbrev state_with : Tree → List (Pushed CopyContext) → List Row → ℕ → ℕ → CopyState
state_with p cs rows next load = record { focus = p; contexts = cs; store = rows; next = next; load = load }

pub same_but : (p q : Tree) (cs : List (Pushed CopyContext)) (rows : List Row) (i j load : ℕ) → p ≡ q → i ≡ j → state_with p cs rows i load ≡ state_with q cs rows j load
same_but p q cs rows i j load focus next = ap (λ (x : Tree). state_with x cs rows i load) focus ∙ ap (λ (k : ℕ). state_with q cs rows k load) next

pub jumped_to : (turn : Turn) (n m : ℕ) (here : Place) (frame : Frame) (rest items : List Frame) (first : CopyMove) (s u t : CopyState) → first ≡ jumped n here (contexts_onto [] items) s → items ≡ rest ++ frame ∷ []
    → frame.context ≡ held.Escape m → m ≡ n → u ≡ record s { focus = skip here; contexts = contexts_onto [] rest; load = frame.base } → Moved turn (goes u) t → Moved turn first t
jumped_to turn n m here frame rest items first s u t is split target same left moved =
    let asks : is_target n (context_of frame.context) ≡ true = ap (λ (k : Context). is_target n (context_of k)) target ∙ eq-eqb m n same in
    let stops : jumped n here (contexts_onto [] items) s ≡ goes (record s { focus = skip here; contexts = contexts_onto [] rest; load = frame.base }) =
    ap (λ (fs : List Frame). jumped n here (contexts_onto [] fs) s) split ∙ ap (λ (cs : List (Pushed CopyContext)). jumped n here cs s) (contexts_onto-push [] rest frame) ∙ chosen_if (is_target n (context_of frame.context)) _ _ asks in
    let P : CopyMove → Type 0 = λ move. Moved turn move t in
    subst P (sym (is ∙ stops ∙ ap goes (sym left))) moved

-- ---- a binding

pub bound_at : (focus form : Tree) (turn : Turn) (made : Body) (d : ℕ) (s u t : CopyState) → focus ≡ form → ((m : CopyMove) → Binds made d m u → Moved turn m t) → Binds made d (step_at form s) u → Moved turn (step_at focus s) t
bound_at focus form turn made d s u t is moves binds = let P : Tree → Type 0 = λ x. Moved turn (step_at x s) t in subst P (sym is) (moves (step_at form s) binds)

pub lam_steps : (focus : Phrase) (d : ℕ) (l : TyList) (body : Box Phrase Global) (at : Place) (inner : Phrase) (turn : Turn) (made : Body) (s u t : CopyState) → focus ≡ form.Lam d l body at → inner ≡ body.value
    → ((m : CopyMove) → Binds made d m u → Moved turn m t) → Binds made d (taken (lam_meets d (reads inner)) s.contexts s) u → Moved turn (step_at (reads focus) s) t
lam_steps focus d l body at inner turn made s u t is same moves binds =
    bound_at (reads focus) (lam d (plain_types l) (reads inner) at) turn made d s u t (reads_lam focus d l body at is ∙ ap (λ (q : Phrase). lam d (plain_types l) (reads q) at) (sym same)) moves binds

pub accept_steps : (focus : Phrase) (d : ℕ) (D : DataTy) (body : Box Phrase Global) (at : Place) (inner : Phrase) (turn : Turn) (made : Body) (s u t : CopyState) → focus ≡ form.Accept d D body at → inner ≡ body.value
    → ((m : CopyMove) → Binds made d m u → Moved turn m t) → Binds made d (taken (accept_meets d (reads inner) at) s.contexts s) u → Moved turn (step_at (reads focus) s) t
accept_steps focus d D body at inner turn made s u t is same moves binds =
    bound_at (reads focus) (accept d D (reads inner) at) turn made d s u t (reads_accept focus d D body at is ∙ ap (λ (q : Phrase). accept d D (reads q) at) (sym same)) moves binds

pub let_in_steps : (focus : Phrase) (d : ℕ) (q body : Box Phrase Global) (at : Place) (actual inner : Phrase) (turn : Turn) (made : Body) (s t : CopyState) → focus ≡ form.LetIn d q body at → actual ≡ q.value → inner ≡ body.value
    → ((m : CopyMove) → Binds made d m s → Moved turn m t) → Binds made d (bound d (reads actual) (reads inner) s) s → Moved turn (step_at (reads focus) s) t
let_in_steps focus d q body at actual inner turn made s t is first second moves binds =
    bound_at (reads focus) (let_in d (reads actual) (reads inner) at) turn made d s s t
    (reads_let_in focus d q body at is ∙ ap (λ (x : Phrase). let_in d (reads x) (reads body.value) at) (sym first) ∙ ap (λ (x : Phrase). let_in d (reads actual) (reads x) at) (sym second)) moves binds

pub rec_steps : (focus : Phrase) (d : ℕ) (T : Ty) (body : Box Phrase Global) (at : Place) (inner : Phrase) (turn : Turn) (made : Body) (s t : CopyState) → focus ≡ form.Rec d T body at → inner ≡ body.value
    → ((m : CopyMove) → Binds made d m s → Moved turn m t) → Binds made d (bound d (reads focus) (reads inner) s) s → Moved turn (step_at (reads focus) s) t
rec_steps focus d T body at inner turn made s t is same moves binds =
    let e : reads focus ≡ rec d (plain_type T) (reads inner) at = reads_rec focus d T body at is ∙ ap (λ (q : Phrase). rec d (plain_type T) (reads q) at) (sym same) in
    let P : Tree → Type 0 = λ a. Binds made d (bound d a (reads inner) s) s in
    bound_at (reads focus) (rec d (plain_type T) (reads inner) at) turn made d s s t e moves (subst P e binds)

pub escape_steps : (focus : Phrase) (d : ℕ) (body : Box Phrase Global) (at : Place) (inner : Phrase) (turn : Turn) (made : Body) (s r u t : CopyState) → focus ≡ form.Escape d body at → inner ≡ body.value
    → r ≡ s → u ≡ push (esc_c s.next) r → ((m : CopyMove) → Binds made d m u → Moved turn m t)
    → ((e : ℕ) (x : CopyState) → Binds made e (bound e (mark (marks.Jump s.next) at) (reads inner) x) x) → Moved turn (step_at (reads focus) s) t
escape_steps focus d body at inner turn made s r u t is same stays pushes moves binds =
    let e : u ≡ push (esc_c s.next) s = pushes ∙ ap (λ (x : CopyState). push (esc_c s.next) x) stays in
    let P : CopyState → Type 0 = λ x. Binds made d (bound d (mark (marks.Jump s.next) at) (reads inner) (push (esc_c s.next) s)) x in
    bound_at (reads focus) (escape d (reads inner) at) turn made d s u t (reads_escape focus d body at is ∙ ap (λ (q : Phrase). escape d (reads q) at) (sym same)) moves
    (subst P (sym e) (binds d (push (esc_c s.next) s)))

pub stored_steps : (turn : Turn) (made : Body) (d : ℕ) (v : Datum) (body : Tree) (here : Place) (s r u t : CopyState) → r ≡ record s { store = (record { number = s.next; content = single v }) ∷ s.store } → u ≡ push (drop_c s.next) r
    → ((m : CopyMove) → Binds made d m u → Moved turn m t) → ((e : ℕ) (x : CopyState) → Binds made e (bound e (mark (marks.Cell s.next) here) body x) x) → Moved turn (stored v d body here s) t
stored_steps turn made d v body here s r u t holds pushes moves binds =
    let last : CopyState = record (push (drop_c s.next) s) { store = (record { number = s.next; content = single v }) ∷ s.store } in
    let e : u ≡ last = pushes ∙ ap (λ (x : CopyState). push (drop_c s.next) x) holds in
    let P : CopyState → Type 0 = λ x. Binds made d (bound d (mark (marks.Cell s.next) here) body last) x in
    moves (stored v d body here s) (subst P (sym e) (binds d last))

-- a context is pushed on the same, and the focus reads so
pub begun : (k : CopyContext) (p q : Tree) (s r : CopyState) (t : CopyState) → pushed k p r ≡ goes t → r ≡ s → p ≡ q → pushed k q s ≡ goes t
begun k p q s r t to same focus = ap (λ (x : Tree). pushed k x s) (sym focus) ∙ ap (λ (x : CopyState). pushed k p x) (sym same) ∙ to

-- ---- an acceptor

pub accept_stores : (made : Body) (d : ℕ) (body : Tree) (here : Place) (k : Context) (v : Datum) (s : CopyState) → k ≡ held.Store v → Binds made d (bound d (lit v here) body s) s
    → Binds made d (accept_meets d body here (context_of k) s) s
accept_stores made d body here k v s is binds = let P : Context → Type 0 = λ x. Binds made d (accept_meets d body here (context_of x) s) s in subst P (sym is) binds

pub accept_sticks : (d : ℕ) (body : Tree) (here : Place) (k : Context) (s : CopyState) → ((v : Datum) → k ≡ held.Store v → ⊥) → accept_meets d body here (context_of k) s ≡ sticks
accept_sticks d body here (held.Op1 op at) s other = refl
accept_sticks d body here (held.OpL op q at) s other = refl
accept_sticks d body here (held.OpR op u at) s other = refl
accept_sticks d body here (held.If p q) s other = refl
accept_sticks d body here (held.Case parts at) s other = refl
accept_sticks d body here (held.Arg q) s other = refl
accept_sticks d body here (held.Pick i) s other = refl
accept_sticks d body here (held.Then q) s other = refl
accept_sticks d body here (held.Assign p) s other = refl
accept_sticks d body here (held.While loop c) s other = refl
accept_sticks d body here (held.Body loop) s other = refl
accept_sticks d body here (held.Loop loop) s other = refl
accept_sticks d body here (held.New e b) s other = refl
accept_sticks d body here (held.Drop n) s other = refl
accept_sticks d body here (held.Put kind) s other = refl
accept_sticks d body here (held.Escape n) s other = refl
accept_sticks d body here (held.Cells e b at) s other = refl
accept_sticks d body here (held.Fill f) s other = refl
accept_sticks d body here (held.Element n) s other = refl
accept_sticks d body here (held.Store v) s other = absurd (other v refl)

-- ---- phases

pub going_not_over : (p : Phase) → p ≡ phase.Going → p ≡ phase.Over → ⊥
going_not_over p is over = let e : phase.Going ≡ phase.Over = sym is ∙ over in cc

pub going_not_waiting : (p : Phase) → p ≡ phase.Going → p ≡ phase.Waiting → ⊥
going_not_waiting p is waits = let e : phase.Going ≡ phase.Waiting = sym is ∙ waits in cc
