-- Steps of both machines that go alike, and the changes of state that they are made of.
use Rattle.std.proofs.Common.{ℕ, ◌≤◌, ◌≡◌, Bool, true, false, cond, List, [], ◌∷◌, Option, refl, sym, subst, inl, arith}
use Rattle.fy_base.specs.declared.data.Datum.{Datum}
use Rattle.fy_base.specs.declared.data.Place.{Place}
use Rattle.fy_base.specs.declared.data.FaultKind.{FaultKind}
use Rattle.fy_base.specs.Outside.{Bytes}
use Rattle.pe_code.specs.declared.code.PeCode.{PeCode}
use Rattle.pe_machine.specs.States.{Thunk, Binding, Frame, Focus, PeContext, Held, PeState, handed_on, oldest}
use Rattle.pe_machine.specs.Step as machine
use Rattle.pe_machine.specs.Step.{PeMove, goes, puts, takes, faults, sticks, loses}
use Rattle.pe_machine.specs.Sound.{IsNumbered}
use Rattle.pe_machine.proofs.FrameLemmas.{numbered_oldest}
use Rattle.pe_items.specs.Items.{ItemBinding, Item, FoundContext, FoundFrame, handed_by, ItemState}
use Rattle.pe_items.specs.Step as moves
use Rattle.pe_items.specs.Step.{ItemMove}
use Rattle.pe_items.proofs.Lays.{cost, AreAt, ThunkStands, VariableStands, no_variable, a_variable, ContextStands, at_op_1, at_op_l, at_op_r, at_if, at_case, at_arg, at_pick, at_then, at_assign, at_store, at_while, at_body, at_loop, at_new, at_cells, at_element, at_drop, at_put, at_escape, FocusStands, at_code, BindingStands, newer_frame, live_context, UnderState, StateStands, Stands, at_rest}
use Rattle.pe_items.proofs.Standing.{frame-width, Kept, kept-context, names-kept}
use Rattle.pe_items.proofs.NewestLemmas.{IsNoEscape, IsNewest, newest-of}

-- where the push-enter machine sticks or loses a frame nothing is said
pub data Alike : PeMove → ItemMove → Type 0 where
  both_go : {s : PeState} {t : ItemState} → Stands s t → Alike (goes s) (moves.goes t)
  both_put : {text : Bytes} {s : PeState} {t : ItemState} → StateStands s t → Alike (puts text s) (moves.puts text t)
  both_take : {go : Option ℕ → PeState} {to : Option ℕ → ItemState} → ((byte : Option ℕ) → StateStands (go byte) (to byte)) → Alike (takes go) (moves.takes to)
  both_fault : {kind : FaultKind} {at : Place} → Alike (faults kind at) (moves.faults kind at)
  one_sticks : {m : ItemMove} → Alike sticks m
  one_loses : {m : ItemMove} → Alike loses m

-- ---- changes of state

pub focused-alike : (f g : Focus) (s : PeState) (t : ItemState) → FocusStands s.frames t.items f g → UnderState s t → Alike (machine.focused f s) (moves.focused g t)
focused-alike f g s t h u = both_go (at_rest (record { focus = h; under = u }))

pub pushed-under : (c e : PeContext) (s : PeState) (t : ItemState) → ContextStands s.frames t.items c e → UnderState s t → UnderState (machine.push c s) (moves.push e t)
pushed-under c e s t h u = record { lays = live_context refl u.load h u.lays; load = (let l = u.load in omega arith); numbers = u.numbers }

pub pushed-alike : (c e : PeContext) (a : ℕ) (r x : Option ℕ) (s : PeState) (t : ItemState) → ContextStands s.frames t.items c e → AreAt s.frames t.items r x → UnderState s t →
    Alike (machine.pushed c (record { address = a; frame = r }) s) (moves.pushed e (record { address = a; frame = x }) t)
pushed-alike c e a r x s t h k u =
    both_go (at_rest (record { focus = at_code (names-kept (kept-context s.frames t.items e t.newest) r x k); under = pushed-under c e s t h u }))

pub bound-alike : (d : ℕ) (b : Binding) (i : ItemBinding) (a : ℕ) (r x : Option ℕ) (s : PeState) (t : ItemState) →
    BindingStands s.frames t.items s.contexts t.newest s.next b i → AreAt s.frames t.items r x → UnderState s t → Alike (machine.bound d b a r s) (moves.bound d i a x t)
bound-alike d b i a r x s t h k u =
    let f : Frame = record { number = s.next; depth = d; binding = b; around = r } in
    both_go (at_rest (record {
      focus = at_code (inl (refl, refl, tt));
      under = record {
        lays = newer_frame {f = f} h k u.lays;
        load = (let l = u.load in let w = frame-width d in omega arith);
        numbers = (omega arith, u.numbers);
      };
    }))

-- ---- branches

pub if_alike : (b : Bool) (m : PeMove) (n : ItemMove) → Alike m n → Alike (cond b m sticks) (cond b n moves.sticks)
if_alike true m n h = h
if_alike false m n h = one_sticks

pub either-alike : (b : Bool) (m n : PeMove) (p q : ItemMove) → (b ≡ true → Alike m p) → (b ≡ false → Alike n q) → Alike (cond b m n) (cond b p q)
either-alike true m n p q h k = h refl
either-alike false m n p q h k = k refl

pub listed-alike : (b : Bool) (m : PeMove) (n : ItemMove) → b ≡ true → Alike m n → Alike (machine.if_listed b m) n
listed-alike b m n e h = subst (λ (c : Bool). Alike (machine.if_listed c m) n) (sym e) h

pub variable-alike : {fs : List Frame} {is : List Item} (o : Option Frame) (p : Option FoundFrame) (go : Thunk → PeMove) (to : Thunk → ItemMove) → VariableStands fs is o p →
    ((t u : Thunk) → ThunkStands fs is t u → Alike (go t) (to u)) → Alike (machine.with_variable o go) (moves.with_variable p to)
variable-alike o p go to no_variable h = one_loses
variable-alike o p go to (a_variable {f = f} {g = g} t) h = h (handed_on f.number f.binding) (handed_by g) t

-- ---- the newest context

-- it is answered: frames and items are cut back
answered-by : (meets : PeContext → PeState → PeMove) (to : PeContext → ItemState → ItemMove) (s : PeState) (t : ItemState) (cs : List Held) →
    ((c e : PeContext) (q : PeState) (w : ItemState) → ContextStands q.frames w.items c e → UnderState q w → Alike (meets c q) (to e w)) →
    IsNumbered s.next s.frames → IsNewest s.frames cs t.newest t.items → Alike (machine.answered meets cs s) (moves.answered to (moves.newest_of t) t)
answered-by meets to s t [] f h n = one_sticks
answered-by meets to s t (c ∷ cs) f h n =
    subst (λ (o : Option FoundContext). Alike (machine.answered meets (c ∷ cs) s) (moves.answered to o t)) (sym n.is_found)
    (f c.context n.found.content (record s { contexts = cs; frames = oldest c.frames s.frames; load = c.base }) (record t { newest = n.found.outside; items = n.found.older }) n.stands
    (record { lays = n.lays; load = n.small; numbers = numbered_oldest s.next c.frames s.frames h }))

pub answered-alike : (meets : PeContext → PeState → PeMove) (to : PeContext → ItemState → ItemMove) (s : PeState) (t : ItemState) →
    ((c e : PeContext) (q : PeState) (w : ItemState) → ContextStands q.frames w.items c e → UnderState q w → Alike (meets c q) (to e w)) →
    UnderState s t → Alike (machine.answered meets s.contexts s) (moves.answered to (moves.newest_of t) t)
answered-alike meets to s t f u = answered-by meets to s t s.contexts f u.numbers (newest-of s.next u.numbers u.lays)

-- no context that is laid is that of a sequence without all its cells, so a datum answers it
datum-answers : {fs : List Frame} {is : List Item} {c e : PeContext} (code : PeCode) (v : Datum) (h : Held) (cs : List Held) (s : PeState) → ContextStands fs is c e →
    machine.datum_under code v c h cs s ≡ machine.answered (machine.datum_meets code v) (h ∷ cs) s
datum-answers code v h cs s at_op_1 = refl
datum-answers code v h cs s (at_op_l k) = refl
datum-answers code v h cs s at_op_r = refl
datum-answers code v h cs s (at_if k l) = refl
datum-answers code v h cs s (at_case k) = refl
datum-answers code v h cs s (at_arg k) = refl
datum-answers code v h cs s at_pick = refl
datum-answers code v h cs s (at_then k) = refl
datum-answers code v h cs s (at_assign k) = refl
datum-answers code v h cs s at_store = refl
datum-answers code v h cs s (at_while k l) = refl
datum-answers code v h cs s (at_body k) = refl
datum-answers code v h cs s (at_loop k) = refl
datum-answers code v h cs s (at_new k) = refl
datum-answers code v h cs s (at_cells k) = refl
datum-answers code v h cs s (at_element k) = refl
datum-answers code v h cs s at_drop = refl
datum-answers code v h cs s at_put = refl
datum-answers code v h cs s (at_escape k) = refl

focused-by : (code : PeCode) (v : Datum) (m : ItemMove) (s : PeState) (fs : List Frame) (cs : List Held) (newest : ℕ) (is : List Item) → IsNewest fs cs newest is →
    Alike (machine.answered (machine.datum_meets code v) cs s) m → Alike (machine.datum_focused code v cs s) m
focused-by code v m s fs [] newest is n h = one_sticks
focused-by code v m s fs (c ∷ cs) newest is n h = subst (λ (p : PeMove). Alike p m) (sym (datum-answers code v c cs s n.stands)) h

-- a datum where it answers
pub datum_focused-alike : (code : PeCode) (v : Datum) (m : ItemMove) (s : PeState) (t : ItemState) → UnderState s t →
    Alike (machine.answered (machine.datum_meets code v) s.contexts s) m → Alike (machine.datum_focused code v s.contexts s) m
datum_focused-alike code v m s t u h = focused-by code v m s s.frames s.contexts t.newest t.items (newest-of s.next u.numbers u.lays) h

-- what it meets where it is taken: its frames and the items below it are older, and what is left is so if it isn't an escape's
abbrev pub TakenAlike : (PeContext → PeState → PeMove) → (PeContext → ItemState → ItemMove) → PeState → ItemState → Type 0
TakenAlike meets to s t =
    (c e : PeContext) (cs : List Held) (outside : ℕ) (ks : List Frame) (old : List Item) → ContextStands ks old c e → Kept ks old s.frames t.items →
    (IsNoEscape c → UnderState (record s { contexts = cs }) (record t { newest = outside })) →
    Alike (meets c (record s { contexts = cs })) (to e (record t { newest = outside }))

taken-by : (meets : PeContext → PeState → PeMove) (to : PeContext → ItemState → ItemMove) (s : PeState) (t : ItemState) (cs : List Held) → TakenAlike meets to s t →
    cost t.items ≤ s.load → IsNumbered s.next s.frames → IsNewest s.frames cs t.newest t.items → Alike (machine.taken meets cs s) (moves.taken to (moves.newest_of t) t)
taken-by meets to s t [] f l h n = one_sticks
taken-by meets to s t (c ∷ cs) f l h n =
    subst (λ (o : Option FoundContext). Alike (machine.taken meets (c ∷ cs) s) (moves.taken to o t)) (sym n.is_found)
    (f c.context n.found.content cs n.found.outside (oldest c.frames s.frames) n.found.older n.stands n.kept
    (λ other. record { lays = n.taken other; load = l; numbers = h }))

pub taken-alike : (meets : PeContext → PeState → PeMove) (to : PeContext → ItemState → ItemMove) (s : PeState) (t : ItemState) → TakenAlike meets to s t → UnderState s t →
    Alike (machine.taken meets s.contexts s) (moves.taken to (moves.newest_of t) t)
taken-alike meets to s t f u = taken-by meets to s t s.contexts f u.load u.numbers (newest-of s.next u.numbers u.lays)
