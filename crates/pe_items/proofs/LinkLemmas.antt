-- Links stay as items come and as a cell is written, and what is found is linked.
use Rattle.std.proofs.Common.{ℕ, zero, suc, ◌+◌, ◌≡◌, Bool, true, false, cond, List, [], ◌∷◌, set, Option, Some, None, IsSome, is_some, refl, sym, ap, ◌∙◌, subst, inl, inr, nat_eq, eq-eqb}
use Rattle.std.proofs.lemmas.Bool.{cond-true, cond-false, cond_both}
use Rattle.fy_base.specs.declared.data.Datum.{Datum}
use Rattle.fy_phrase.specs.Contexts.{op_l, if_c, case_c, arg_c, then_c, assign_c, while_c, body_c, loop_c, new_c, cells_c, fill_c, element_c}
use Rattle.pe_frame.specs.Frames.{words_of_context}
use Rattle.pe_machine.specs.States.{Thunk, source, datum, cell_of, jump_of, sequence_of, Sequence, PeContext, is_named}
use Rattle.pe_items.specs.Items.{ItemBinding, to_thunk, to_cell, to_escape, Item, frame, context, sequence, address_on, FoundContext, context_at, FoundFrame, from_frame, frame_from, handed_on, handed_by, with_datum, with_cell, sequence_at, with_element}
use Rattle.pe_items.specs.Links.{HasFrame, IsAny, IsCell, IsEscape, LeadsToFrame, HasContext, LeadsToContext, HasSequence, IsThunkLinked, IsBindingLinked, IsContextLinked, AreLinked}
use Rattle.pe_items.proofs.VariableLemmas.{words-with_cell}
use Rattle.pe_items.proofs.SequenceLemmas.{words-with_element}

-- ---- more items

-- the frames and the contexts of the items stand among the others too
pub record Extends (is js : List Item) : Type 0 where
  pub frames : (x : ℕ) → HasFrame (λ b. IsAny b) x is → HasFrame (λ b. IsAny b) x js
  pub cells : (x : ℕ) → HasFrame (λ b. IsCell b) x is → HasFrame (λ b. IsCell b) x js
  pub escapes : (x : ℕ) → HasFrame (λ b. IsEscape b) x is → HasFrame (λ b. IsEscape b) x js
  pub contexts : (x : ℕ) → HasContext is x → HasContext js x
  pub sequences : (x : ℕ) → HasSequence is x → HasSequence js x

frame-newer : (F : ItemBinding → Type 0) (x : ℕ) (i : Item) (is : List Item) → HasFrame F x is → HasFrame F x (i ∷ is)
frame-newer F x (frame d b o) is h = inr h
frame-newer F x (context e o) is h = h
frame-newer F x (sequence c) is h = h

context-newer : (x : ℕ) (i : Item) (is : List Item) → HasContext is x → HasContext (i ∷ is) x
context-newer x (frame d b o) is h = h
context-newer x (sequence c) is h = h
context-newer x (context e o) is h =
    cond_both (nat_eq x (address_on is)) (Some (record { content = e; outside = o; older = is })) (context_at x is) (λ f. IsSome f) (λ q. refl) (λ q. h)

sequence-newer : (x : ℕ) (i : Item) (is : List Item) → HasSequence is x → HasSequence (i ∷ is) x
sequence-newer x (frame d b o) is h = h
sequence-newer x (context e o) is h = h
sequence-newer x (sequence c) is h =
    cond_both (nat_eq (x + words_of_context) (address_on is)) (Some c) (sequence_at x is) (λ f. IsSome f) (λ q. refl) (λ q. h)

pub extends-newer : (i : Item) (is : List Item) → Extends is (i ∷ is)
extends-newer i is = record {
  frames = λ x h. frame-newer (λ b. IsAny b) x i is h;
  cells = λ x h. frame-newer (λ b. IsCell b) x i is h;
  escapes = λ x h. frame-newer (λ b. IsEscape b) x i is h;
  contexts = λ x h. context-newer x i is h;
  sequences = λ x h. sequence-newer x i is h;
}

pub extends-both : {is js ks : List Item} → Extends is js → Extends js ks → Extends is ks
extends-both v w = record {
  frames = λ x h. w.frames x (v.frames x h);
  cells = λ x h. w.cells x (v.cells x h);
  escapes = λ x h. w.escapes x (v.escapes x h);
  contexts = λ x h. w.contexts x (v.contexts x h);
  sequences = λ x h. w.sequences x (v.sequences x h);
}

-- a context that is pushed is found
pub has-pushed : (e : PeContext) (o : ℕ) (is : List Item) → HasContext (context e o ∷ is) (address_on is)
has-pushed e o is =
    ap (λ (f : Option FoundContext). is_some f) (cond-true (nat_eq (address_on is) (address_on is)) (Some (record { content = e; outside = o; older = is })) (context_at (address_on is) is) (eq-eqb (address_on is) (address_on is) refl))

-- so is a sequence on its context
pub has-laid : (c : Sequence) (is : List Item) (x : ℕ) → x + words_of_context ≡ address_on is → HasSequence (sequence c ∷ is) x
has-laid c is x e =
    ap (λ (f : Option Sequence). is_some f) (cond-true (nat_eq (x + words_of_context) (address_on is)) (Some c) (sequence_at x is) (eq-eqb (x + words_of_context) (address_on is) e))

-- ---- what is linked stays so

pub name-extends : {is js : List Item} → Extends is js → (r : Option ℕ) → LeadsToFrame is r → LeadsToFrame js r
name-extends w None h = tt
name-extends w (Some x) h = w.frames x h

pub foot-extends : {is js : List Item} → Extends is js → (x : ℕ) → LeadsToContext is x → LeadsToContext js x
foot-extends w x (inl e) = inl e
foot-extends w x (inr h) = inr (w.contexts x h)

pub thunk-extends : {is js : List Item} → Extends is js → (t : Thunk) → IsThunkLinked is t → IsThunkLinked js t
thunk-extends w (source node r) h = name-extends w r h
thunk-extends w (datum v) h = tt
thunk-extends w (cell_of x) h = w.cells x h
thunk-extends w (jump_of x) h = w.escapes x h
thunk-extends w (sequence_of x) h = w.sequences x h

binding-extends : {is js : List Item} → Extends is js → (b : ItemBinding) → IsBindingLinked is b → IsBindingLinked js b
binding-extends w (to_thunk t) h = thunk-extends w t h
binding-extends w (to_cell v) h = tt
binding-extends w (to_escape c) h = w.contexts c h

pub content-extends : {is js : List Item} → Extends is js → (c : PeContext) → IsContextLinked is c → IsContextLinked js c
content-extends w (op_l op q at) h = name-extends w q.frame h
content-extends w (if_c p q) h = (name-extends w p.frame h.0, name-extends w q.frame h.1)
content-extends w (case_c parts at) h = name-extends w parts.frame h
content-extends w (arg_c t) h = thunk-extends w t h
content-extends w (then_c q) h = name-extends w q.frame h
content-extends w (assign_c p) h = name-extends w p.frame h
content-extends w (while_c loop c) h = (name-extends w loop.frame h.0, name-extends w c.frame h.1)
content-extends w (body_c loop) h = name-extends w loop.frame h
content-extends w (loop_c loop) h = name-extends w loop.frame h
content-extends w (new_c d body) h = name-extends w body.frame h
content-extends w (cells_c d body at) h = name-extends w body.frame h
content-extends w (fill_c n m d body at) h = name-extends w body.frame h
content-extends w (element_c v) h = w.sequences v.number h
content-extends w c h = tt

-- ---- a cell is written

frame-with_cell : (F : ItemBinding → Type 0) → ((v : Datum) (b : ItemBinding) → F b → F (with_datum v b)) → (x y : ℕ) (v : Datum) (is : List Item) → HasFrame F x is →
    HasFrame F x (with_cell y v is)
frame-with_cell F keeps x y v [] h = h
frame-with_cell F keeps x y v (context e o ∷ is) h = frame-with_cell F keeps x y v is h
frame-with_cell F keeps x y v (sequence c ∷ is) h = frame-with_cell F keeps x y v is h
frame-with_cell F keeps x y v (frame d b o ∷ is) (inl h) =
    cond_both (nat_eq y (address_on is)) (frame d (with_datum v b) o ∷ is) (frame d b o ∷ with_cell y v is) (λ js. HasFrame F x js) (λ q. inl (h.0, keeps v b h.1))
    (λ q. inl (h.0 ∙ ap suc (sym (words-with_cell y v is)), h.1))
frame-with_cell F keeps x y v (frame d b o ∷ is) (inr h) =
    cond_both (nat_eq y (address_on is)) (frame d (with_datum v b) o ∷ is) (frame d b o ∷ with_cell y v is) (λ js. HasFrame F x js) (λ q. inr h)
    (λ q. inr (frame-with_cell F keeps x y v is h))

cell-with_datum : (v : Datum) (b : ItemBinding) → IsCell b → IsCell (with_datum v b)
cell-with_datum v (to_thunk t) h = h
cell-with_datum v (to_cell u) h = refl
cell-with_datum v (to_escape c) h = h

escape-with_datum : (v : Datum) (b : ItemBinding) → IsEscape b → IsEscape (with_datum v b)
escape-with_datum v (to_thunk t) h = h
escape-with_datum v (to_cell u) h = h
escape-with_datum v (to_escape c) h = h

-- past a context that isn't the one
older-context : (x : ℕ) (e : PeContext) (o : ℕ) (is : List Item) → nat_eq x (address_on is) ≡ false → HasContext (context e o ∷ is) x → HasContext is x
older-context x e o is other h =
    subst (λ (f : Option FoundContext). IsSome f) (cond-false (nat_eq x (address_on is)) (Some (record { content = e; outside = o; older = is })) (context_at x is) other) h

-- past cells that aren't those of the sequence
older-sequence : (x : ℕ) (c : Sequence) (is : List Item) → nat_eq (x + words_of_context) (address_on is) ≡ false → HasSequence (sequence c ∷ is) x → HasSequence is x
older-sequence x c is other h =
    subst (λ (f : Option Sequence). IsSome f) (cond-false (nat_eq (x + words_of_context) (address_on is)) (Some c) (sequence_at x is) other) h

context-with_cell : (x y : ℕ) (v : Datum) (is : List Item) → HasContext is x → HasContext (with_cell y v is) x
context-with_cell x y v [] h = h
context-with_cell x y v (frame d b o ∷ is) h =
    cond_both (nat_eq y (address_on is)) (frame d (with_datum v b) o ∷ is) (frame d b o ∷ with_cell y v is) (λ js. HasContext js x) (λ q. h) (λ q. context-with_cell x y v is h)
context-with_cell x y v (context e o ∷ is) h =
    cond_both (nat_eq x (address_on (with_cell y v is))) (Some (record { content = e; outside = o; older = with_cell y v is })) (context_at x (with_cell y v is)) (λ f. IsSome f) (λ q. refl)
    (λ q. context-with_cell x y v is (older-context x e o is (ap (λ (n : ℕ). nat_eq x (suc n)) (sym (words-with_cell y v is)) ∙ q) h))
context-with_cell x y v (sequence c ∷ is) h = context-with_cell x y v is h

sequence-with_cell : (x y : ℕ) (v : Datum) (is : List Item) → HasSequence is x → HasSequence (with_cell y v is) x
sequence-with_cell x y v [] h = h
sequence-with_cell x y v (frame d b o ∷ is) h =
    cond_both (nat_eq y (address_on is)) (frame d (with_datum v b) o ∷ is) (frame d b o ∷ with_cell y v is) (λ js. HasSequence js x) (λ q. h) (λ q. sequence-with_cell x y v is h)
sequence-with_cell x y v (context e o ∷ is) h = sequence-with_cell x y v is h
sequence-with_cell x y v (sequence c ∷ is) h =
    cond_both (nat_eq (x + words_of_context) (address_on (with_cell y v is))) (Some c) (sequence_at x (with_cell y v is)) (λ f. IsSome f) (λ q. refl)
    (λ q. sequence-with_cell x y v is (older-sequence x c is (ap (λ (n : ℕ). nat_eq (x + words_of_context) (suc n)) (sym (words-with_cell y v is)) ∙ q) h))

extends-with_cell : (y : ℕ) (v : Datum) (is : List Item) → Extends is (with_cell y v is)
extends-with_cell y v is = record {
  frames = λ x h. frame-with_cell (λ b. IsAny b) (λ u b k. tt) x y v is h;
  cells = λ x h. frame-with_cell (λ b. IsCell b) cell-with_datum x y v is h;
  escapes = λ x h. frame-with_cell (λ b. IsEscape b) escape-with_datum x y v is h;
  contexts = λ x h. context-with_cell x y v is h;
  sequences = λ x h. sequence-with_cell x y v is h;
}

binding-written : (v : Datum) (is : List Item) (b : ItemBinding) → IsBindingLinked is b → IsBindingLinked is (with_datum v b)
binding-written v is (to_thunk t) h = h
binding-written v is (to_cell u) h = tt
binding-written v is (to_escape c) h = h

pub linked-with_cell : (y : ℕ) (v : Datum) (is : List Item) → AreLinked is → AreLinked (with_cell y v is)
linked-with_cell y v [] h = tt
linked-with_cell y v (context e o ∷ is) h =
    let w = extends-with_cell y v is in ((content-extends w e h.0.0, foot-extends w o h.0.1), linked-with_cell y v is h.1)
linked-with_cell y v (sequence c ∷ is) h = (tt, linked-with_cell y v is h.1)
linked-with_cell y v (frame d b o ∷ is) h =
    let w = extends-with_cell y v is in
    cond_both (nat_eq y (address_on is)) (frame d (with_datum v b) o ∷ is) (frame d b o ∷ with_cell y v is) (λ js. AreLinked js)
    (λ q. ((binding-written v is b h.0.0, h.0.1), h.1)) (λ q. ((binding-extends w b h.0.0, name-extends w o h.0.1), linked-with_cell y v is h.1))

pub foot-with_cell : (x y : ℕ) (v : Datum) (is : List Item) → LeadsToContext is x → LeadsToContext (with_cell y v is) x
foot-with_cell x y v is h = foot-extends (extends-with_cell y v is) x h

-- ---- a cell of a sequence is written

frame-with_element : (F : ItemBinding → Type 0) (x y i : ℕ) (v : Datum) (is : List Item) → HasFrame F x is → HasFrame F x (with_element y i v is)
frame-with_element F x y i v [] h = h
frame-with_element F x y i v (context e o ∷ is) h = frame-with_element F x y i v is h
frame-with_element F x y i v (frame d b o ∷ is) (inl h) = inl (h.0 ∙ ap suc (sym (words-with_element y i v is)), h.1)
frame-with_element F x y i v (frame d b o ∷ is) (inr h) = inr (frame-with_element F x y i v is h)
frame-with_element F x y i v (sequence c ∷ is) h =
    cond_both (nat_eq (y + words_of_context) (address_on is)) (sequence (record c { values = set c.values i v }) ∷ is) (sequence c ∷ with_element y i v is) (λ js. HasFrame F x js) (λ q. h)
    (λ q. frame-with_element F x y i v is h)

context-with_element : (x y i : ℕ) (v : Datum) (is : List Item) → HasContext is x → HasContext (with_element y i v is) x
context-with_element x y i v [] h = h
context-with_element x y i v (frame d b o ∷ is) h = context-with_element x y i v is h
context-with_element x y i v (sequence c ∷ is) h =
    cond_both (nat_eq (y + words_of_context) (address_on is)) (sequence (record c { values = set c.values i v }) ∷ is) (sequence c ∷ with_element y i v is) (λ js. HasContext js x) (λ q. h)
    (λ q. context-with_element x y i v is h)
context-with_element x y i v (context e o ∷ is) h =
    cond_both (nat_eq x (address_on (with_element y i v is))) (Some (record { content = e; outside = o; older = with_element y i v is })) (context_at x (with_element y i v is)) (λ f. IsSome f)
    (λ q. refl) (λ q. context-with_element x y i v is (older-context x e o is (ap (λ (n : ℕ). nat_eq x (suc n)) (sym (words-with_element y i v is)) ∙ q) h))

sequence-passed : (x y i : ℕ) (v : Datum) (c : Sequence) (is : List Item) → HasSequence (sequence c ∷ is) x → (HasSequence is x → HasSequence (with_element y i v is) x) →
    HasSequence (sequence c ∷ with_element y i v is) x
sequence-passed x y i v c is h more =
    cond_both (nat_eq (x + words_of_context) (address_on (with_element y i v is))) (Some c) (sequence_at x (with_element y i v is)) (λ f. IsSome f) (λ q. refl)
    (λ q. more (older-sequence x c is (ap (λ (n : ℕ). nat_eq (x + words_of_context) (suc n)) (sym (words-with_element y i v is)) ∙ q) h))

sequence-with_element : (x y i : ℕ) (v : Datum) (is : List Item) → HasSequence is x → HasSequence (with_element y i v is) x
sequence-with_element x y i v [] h = h
sequence-with_element x y i v (frame d b o ∷ is) h = sequence-with_element x y i v is h
sequence-with_element x y i v (context e o ∷ is) h = sequence-with_element x y i v is h
sequence-with_element x y i v (sequence c ∷ is) h =
    cond_both (nat_eq (y + words_of_context) (address_on is)) (sequence (record c { values = set c.values i v }) ∷ is) (sequence c ∷ with_element y i v is) (λ js. HasSequence js x)
    (λ q. still (record c { values = set c.values i v }) is h) (λ q. sequence-passed x y i v c is h (λ r. sequence-with_element x y i v is r))
  where
    still : (q : Sequence) (js : List Item) → HasSequence (sequence c ∷ js) x → HasSequence (sequence q ∷ js) x
    still q js r =
        cond_both (nat_eq (x + words_of_context) (address_on js)) (Some q) (sequence_at x js) (λ f. IsSome f) (λ e. refl) (λ e. older-sequence x c js e r)

extends-with_element : (y i : ℕ) (v : Datum) (is : List Item) → Extends is (with_element y i v is)
extends-with_element y i v is = record {
  frames = λ x h. frame-with_element (λ b. IsAny b) x y i v is h;
  cells = λ x h. frame-with_element (λ b. IsCell b) x y i v is h;
  escapes = λ x h. frame-with_element (λ b. IsEscape b) x y i v is h;
  contexts = λ x h. context-with_element x y i v is h;
  sequences = λ x h. sequence-with_element x y i v is h;
}

pub linked-with_element : (y i : ℕ) (v : Datum) (is : List Item) → AreLinked is → AreLinked (with_element y i v is)
linked-with_element y i v [] h = tt
linked-with_element y i v (context e o ∷ is) h =
    let w = extends-with_element y i v is in ((content-extends w e h.0.0, foot-extends w o h.0.1), linked-with_element y i v is h.1)
linked-with_element y i v (frame d b o ∷ is) h =
    let w = extends-with_element y i v is in ((binding-extends w b h.0.0, name-extends w o h.0.1), linked-with_element y i v is h.1)
linked-with_element y i v (sequence c ∷ is) h =
    cond_both (nat_eq (y + words_of_context) (address_on is)) (sequence (record c { values = set c.values i v }) ∷ is) (sequence c ∷ with_element y i v is) (λ js. AreLinked js)
    (λ q. (tt, h.1)) (λ q. (tt, linked-with_element y i v is h.1))

pub foot-with_element : (x y i : ℕ) (v : Datum) (is : List Item) → LeadsToContext is x → LeadsToContext (with_element y i v is) x
foot-with_element x y i v is h = foot-extends (extends-with_element y i v is) x h

-- ---- what is found

pub record FoundLinked (c : FoundContext) (is : List Item) : Type 0 where
  pub content : IsContextLinked c.older c.content
  pub outside : LeadsToContext c.older c.outside
  pub older : AreLinked c.older
  pub extends : Extends c.older is

found-here : (t : Bool) (c f : FoundContext) (rest : Option FoundContext) (is : List Item) → FoundLinked f is → (rest ≡ Some c → FoundLinked c is) →
    cond t (Some f) rest ≡ Some c → FoundLinked c is
found-here true c f rest is h more e = let same : f ≡ c = cc in subst (λ (g : FoundContext). FoundLinked g is) same h
found-here false c f rest is h more e = more e

found-newer : {c : FoundContext} {is : List Item} (i : Item) → FoundLinked c is → FoundLinked c (i ∷ is)
found-newer {is = is} i h = record { content = h.content; outside = h.outside; older = h.older; extends = extends-both h.extends (extends-newer i is) }

pub found-linked : (x : ℕ) (is : List Item) (c : FoundContext) → AreLinked is → context_at x is ≡ Some c → FoundLinked c is
found-linked x [] c h e = absurd cc
found-linked x (frame d b o ∷ is) c h e = found-newer (frame d b o) (found-linked x is c h.1 e)
found-linked x (sequence q ∷ is) c h e = found-newer (sequence q) (found-linked x is c h.1 e)
found-linked x (context k o ∷ is) c h e =
    found-here (nat_eq x (address_on is)) c (record { content = k; outside = o; older = is }) (context_at x is) (context k o ∷ is)
    (record { content = h.0.0; outside = h.0.1; older = h.1; extends = extends-newer (context k o) is }) (λ q. found-newer (context k o) (found-linked x is c h.1 q)) e

-- what a variable hands on, where it is found
abbrev pub IsVariableLinked : List Item → Option FoundFrame → Type 0
IsVariableLinked is None = Unit {0}
IsVariableLinked is (Some f) = IsThunkLinked is (handed_by f)

variable-newer : (i : Item) (is : List Item) (o : Option FoundFrame) → IsVariableLinked is o → IsVariableLinked (i ∷ is) o
variable-newer i is None h = tt
variable-newer i is (Some f) h = thunk-extends (extends-newer i is) (handed_by f) h

handed-linked : (d : ℕ) (b : ItemBinding) (o : Option ℕ) (is : List Item) → IsBindingLinked is b → IsThunkLinked (frame d b o ∷ is) (handed_on (address_on is) b)
handed-linked d (to_thunk t) o is h = thunk-extends (extends-newer (frame d (to_thunk t) o) is) t h
handed-linked d (to_cell v) o is h = inl (refl, refl)
handed-linked d (to_escape c) o is h = inl (refl, refl)

frame-linked : (d : ℕ) (b : ItemBinding) (o : Option ℕ) (is : List Item) (k : ℕ) → IsBindingLinked is b → ((j : ℕ) → IsVariableLinked is (frame_from is j o)) →
    IsVariableLinked (frame d b o ∷ is) (from_frame k (record { address = address_on is; binding = b }) (λ j. frame_from is j o))
frame-linked d b o is zero h around = handed-linked d b o is h
frame-linked d b o is (suc j) h around = variable-newer (frame d b o) is (frame_from is j o) (around j)

pub variable-linked : (is : List Item) (k : ℕ) (r : Option ℕ) → AreLinked is → IsVariableLinked is (frame_from is k r)
variable-linked [] k r h = tt
variable-linked (context e o ∷ is) k r h = variable-newer (context e o) is (frame_from is k r) (variable-linked is k r h.1)
variable-linked (sequence c ∷ is) k r h = variable-newer (sequence c) is (frame_from is k r) (variable-linked is k r h.1)
variable-linked (frame d b o ∷ is) k r h =
    cond_both (is_named r (address_on is)) (from_frame k (record { address = address_on is; binding = b }) (λ j. frame_from is j o)) (frame_from is k r)
    (λ z. IsVariableLinked (frame d b o ∷ is) z) (λ q. frame-linked d b o is k h.0.0 (λ j. variable-linked is j o h.1))
    (λ q. variable-newer (frame d b o) is (frame_from is k r) (variable-linked is k r h.1))
