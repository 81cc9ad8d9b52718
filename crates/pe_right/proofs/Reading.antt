-- A state that simulates reads back: what is said of paths is left out.
use Rattle.std.proofs.Common.{ℕ, ◌≡◌, List, [], ◌∷◌, ◌++◌, length, Option, pos, refl, sym, ap, ap₂, ◌∙◌, subst, subst₂, inl, inr, arith}
use Rattle.fy_base.specs.declared.data.Datum.TheVariants as datum_kind
use Rattle.fy_types.specs.Paths.{PlainPath, PlainPaths, paths}
use Rattle.fy_phrase.specs.Tree.{Tree, Trees, no_trees, and_tree}
use Rattle.fy_phrase.specs.Contexts.{CopyContext, fill_c, Pushed}
use Rattle.fy_phrase.specs.Copy.{Row, CopyState}
use Rattle.fy_derive.specs.Atoms.{cell_type, sequence_type}
use Rattle.pe_code.specs.Code.{picked_from}
use Rattle.pe_machine.specs.States.{Pointer, Thunk, source, datum, cell_of, jump_of, sequence_of, Binding, to_thunk, to_cell, to_escape, to_sequence, Frame, Focus, code_at, value, completed, PeContext, Held, PeState, oldest}
use Rattle.pe_right.specs.ReadsBack.{ThunkStands, BindingStands, FramesStand, CodeStandsUnder, CodeStands, EachStands, ContextStands, ContextsStand, FocusStands, cells_in, filled_by, filled_under, filling, ReadsBack}
use Rattle.pe_right.specs.Entered.{BinderKind, a_cell, another}
use Rattle.pe_right.proofs.Invariants.{Compiled, FramesAnswer, ThunkAnswers, BindingAnswers, CodeAnswers, BodyAnswers, EachCodeAnswers, ContextTakes, unary_operand, left_operand, right_operand, condition, index, procedure, selected, first_command, assigned_value, acceptor, loop_test, loop_body, endless_body, first_value, cells_wanted, element_wanted, cell_body, put_datum, escape_body, ContextsTake, FocusAnswers, Simulates, Fills, Follows}
use Rattle.pe_right.proofs.FrameLemmas.{oldest-all}
use Rattle.pe_right.proofs.NodeLemmas.{under-at, entered-node}

module _ (g : Compiled) where
  -- what the frames stand for
  abbrev Frames : List Frame → Option ℕ → List Tree → Type 0
  Frames fs r qs = FramesStand g.handed g.phrase g.code fs r qs

  thunk-reads : (fs : List Frame) → ((r : Option ℕ) (qs : List Tree) (G : List PlainPaths) → FramesAnswer g fs r qs G → Frames fs r qs) →
      (t : Thunk) (q : Tree) (D : PlainPaths) → ThunkAnswers g fs t q D → ThunkStands g.handed g.phrase g.code (FramesStand g.handed g.phrase g.code fs) t q
  thunk-reads fs ih (source k r) q D h = (h.0, h.1, under-at (entered-node g.straight h.3.stands), ih r h.1 h.2 h.5, h.7)
  thunk-reads fs ih (datum v) q D h = h.3
  thunk-reads fs ih (cell_of n) q D h = (h.0, h.2)
  thunk-reads fs ih (jump_of n) q D h = (h.0, h.1)
  thunk-reads fs ih (sequence_of n) q D h = (h.0, h.1)

  binding-reads : (fs : List Frame) → ((r : Option ℕ) (qs : List Tree) (G : List PlainPaths) → FramesAnswer g fs r qs G → Frames fs r qs) →
      (n : ℕ) (b : Binding) (q : Tree) (D : PlainPaths) → BindingAnswers g fs n b q D → BindingStands g.handed g.phrase g.code (FramesStand g.handed g.phrase g.code fs) n b q
  binding-reads fs ih n (to_thunk t) q D h = thunk-reads fs ih t q D h
  binding-reads fs ih n (to_cell v) q D h = (h.0, h.2)
  binding-reads fs ih n to_escape q D h = (h.0, h.1)
  binding-reads fs ih n (to_sequence c) q D h = (h.0, h.1)

  env-reads : (fs : List Frame) (r : Option ℕ) (qs : List Tree) (G : List PlainPaths) → FramesAnswer g fs r qs G → Frames fs r qs
  env-reads [] r qs G e = (e.0, e.1)
  env-reads (f ∷ fs) r qs G (inl e) =
      inl (e.0, (e.1.0, e.1.1, e.1.4, binding-reads fs (env-reads fs) f.number f.binding e.1.0 e.1.2 e.1.6, env-reads fs f.around e.1.1 e.1.3 e.1.7))
  env-reads (f ∷ fs) r qs G (inr e) = inr (e.0, env-reads fs r qs G e.1)

  code-reads : (fs : List Frame) (c : Pointer) (q : Tree) (P : PlainPath) → CodeAnswers g fs c q P → CodeStands g.handed g.phrase g.code fs c q
  code-reads fs c q P h = (h.0, h.6.0, h.1, h.2, under-at (entered-node g.straight h.4.stands), h.6.2, env-reads fs c.frame h.2 h.3 h.7, h.8)

  body-reads : (y : BinderKind) (fs : List Frame) (c : Pointer) (b : Tree) (D : PlainPaths) (P : PlainPath) → BodyAnswers g y fs c b D P → CodeStandsUnder g.handed g.phrase g.code 1 fs c b
  body-reads y fs c b D P h = (h.0, h.6.0, h.1, h.2, under-at (entered-node g.straight h.4.stands), h.6.2, env-reads fs c.frame h.2 h.3 h.7, h.8)

  each-reads : (fs : List Frame) (r : Option ℕ) (ys : List ℕ) (qs : Trees) (P : PlainPath) → EachCodeAnswers g fs r ys qs P → EachStands g.handed g.phrase g.code fs r ys qs
  each-reads fs r [] no_trees P h = tt
  each-reads fs r (y ∷ ys) (and_tree q qs) P h = (code-reads fs (record { address = y; frame = r }) q P h.0, each-reads fs r ys qs P h.1)
  each-reads fs r [] (and_tree q qs) P h = absurd h
  each-reads fs r (y ∷ ys) no_trees P h = absurd h

  held-reads : {fs : List Frame} {c : PeContext} {x : CopyContext} {P Q : PlainPath} → ContextTakes g fs c x P Q → ContextStands g.handed g.phrase g.code fs c x
  held-reads unary_operand = refl
  held-reads {fs = fs} (left_operand {c = c} {q = q} D t h) = (q, refl, code-reads fs c q _ h)
  held-reads (right_operand D t e) = refl
  held-reads {fs = fs} (condition {c = c} {d = d} {q = q} {r = r} {P = P} h k) = (q, r, refl, code-reads fs c q P h, code-reads fs d r P k)
  held-reads {fs = fs} (index {c = c} {parts = parts} {P = P} h) =
      (parts, refl, (h.0, h.1, each-reads fs c.frame (picked_from h.0.insn) parts P h.2))
  held-reads {fs = fs} (procedure {t = t} {q = q} {D = D} h) = (q, refl, thunk-reads fs (env-reads fs) t q D h)
  held-reads selected = refl
  held-reads {fs = fs} (first_command {c = c} {q = q} {P = P} h) = (q, refl, code-reads fs c q P h)
  held-reads {fs = fs} (assigned_value {c = c} {q = q} D h) = (q, refl, code-reads fs c q _ h)
  held-reads (acceptor D e) = refl
  held-reads {fs = fs} (loop_test {c = c} {d = d} {q = q} {r = r} h k) = (q, r, refl, code-reads fs c q _ h, code-reads fs d r _ k)
  held-reads {fs = fs} (loop_body {c = c} {q = q} h) = (q, refl, code-reads fs c q _ h)
  held-reads {fs = fs} (endless_body {c = c} {q = q} {P = P} h) = (q, refl, code-reads fs c q P h)
  held-reads {fs = fs} (first_value {c = c} {b = b} {P = P} D is h) = (b, refl, body-reads a_cell fs c b (paths (cell_type D)) P h)
  held-reads {fs = fs} (cells_wanted {c = c} {b = b} {P = P} is known h) = (b, refl, body-reads another fs c b (paths sequence_type) P h)
  held-reads (element_wanted h) = refl
  held-reads (cell_body is) = refl
  held-reads put_datum = refl
  held-reads escape_body = refl

  contexts-read : (fs : List Frame) (cs : List Held) (xs : List (Pushed CopyContext)) (P : PlainPath) → ContextsTake g fs cs xs P → ContextsStand g.handed g.phrase g.code fs cs xs
  contexts-read fs [] [] P t = tt
  contexts-read fs (c ∷ cs) (x ∷ xs) P t = (held-reads t.3.1, contexts-read (oldest c.frames fs) cs xs t.3.0 t.3.2)
  contexts-read fs [] (x ∷ xs) P t = absurd t
  contexts-read fs (c ∷ cs) [] P t = absurd t

  focus-reads : (k : ℕ) (fs : List Frame) (f : Focus) (q : Tree) (P : PlainPath) → FocusAnswers g k fs f q P → FocusStands g.handed g.phrase g.code fs f q
  focus-reads k fs (code_at c) q P a = code-reads fs c q P a.0
  focus-reads k fs (value v) q P a = (a.0, a.1)
  focus-reads k fs completed q P a = (a.0, a.1)

  -- no context that takes a path is filled
  under-filled : (k : ℕ) {fs : List Frame} {c : PeContext} {x : CopyContext} {P Q : PlainPath} → ContextTakes g fs c x P Q → filled_by k c ≡ []
  under-filled k escape_body = refl
  under-filled k h = refl

  none-filled : (k : ℕ) (fs : List Frame) (cs : List Held) (xs : List (Pushed CopyContext)) (P : PlainPath) → ContextsTake g fs cs xs P → filled_under k cs ≡ []
  none-filled k fs [] [] P t = refl
  none-filled k fs (c ∷ cs) (x ∷ xs) P t = under-filled k t.3.1
  none-filled k fs [] (x ∷ xs) P t = absurd t
  none-filled k fs (c ∷ cs) [] P t = absurd t

  no-filling : (f : Focus) (fs : List Frame) (cs : List Held) (xs : List (Pushed CopyContext)) (P : PlainPath) → ContextsTake g fs cs xs P → filling f cs ≡ []
  no-filling (value (datum_kind.Int (pos k))) fs cs xs P t = none-filled k fs cs xs P t
  no-filling f fs cs xs P t = refl

  typed-reads : (k : ℕ) (s : PeState) (c : CopyState) → Simulates g k s c → ReadsBack g.handed g.phrase g.code s c
  typed-reads k s c t = record {
    focus = focus-reads k s.frames s.focus c.focus t.0 t.1;
    contexts = contexts-read s.frames s.contexts c.contexts t.0 t.2.0;
    store = t.2.1 ∙ ap (λ (rows : List Row). rows ++ cells_in s.frames) (sym (no-filling s.focus s.frames s.contexts c.contexts t.0 t.2.0));
  }

  -- the sequence that is filled stands in the store before the cells of the frames
  fills-read : (s : PeState) (c : CopyState) → Fills g s c → ReadsBack g.handed g.phrase g.code s c
  fills-read s c h =
      let all = oldest-all (length s.frames) s.frames (omega arith) in
      let fill : PeContext = fill_c s.next h.wanted h.depth h.body h.place in
      let x : Pushed CopyContext = record { base = h.base; context = fill_c s.next h.wanted h.depth h.phrase h.place } in
      let there : ContextsStand g.handed g.phrase g.code s.frames ((record { base = h.base; frames = length s.frames; context = fill }) ∷ h.behind) (x ∷ h.copy_behind) =
      subst (λ (fs : List Frame). ContextStands g.handed g.phrase g.code fs fill x.context × ContextsStand g.handed g.phrase g.code fs h.behind h.copy_behind) (sym all)
      ((h.phrase, refl, body-reads another s.frames h.body h.phrase (paths sequence_type) h.path h.answers), contexts-read s.frames h.behind h.copy_behind h.path h.takes_path) in
      record {
        focus = subst (λ (f : Focus). FocusStands g.handed g.phrase g.code s.frames f c.focus) (sym h.focus) (h.here, h.copy_focus);
        contexts = subst₂ (λ (cs : List Held) (xs : List (Pushed CopyContext)). ContextsStand g.handed g.phrase g.code s.frames cs xs) (sym h.contexts) (sym h.copy_contexts) there;
        store = h.store ∙ ap₂ (λ (f : Focus) (cs : List Held). filling f cs ++ cells_in s.frames) (sym h.focus) (sym h.contexts);
      }

  pub state-reads : (k : ℕ) (s : PeState) (c : CopyState) → Follows g k s c → ReadsBack g.handed g.phrase g.code s c
  state-reads k s c (inl t) = typed-reads k s c t
  state-reads k s c (inr h) = fills-read s c h
