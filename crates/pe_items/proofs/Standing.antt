-- What stands on the stack stays as frames and contexts come.
use Rattle.std.proofs.Common.{ℕ, zero, suc, ◌+◌, ◌<◌, ◌≤◌, ◌≡◌, true, List, [], ◌∷◌, length, Option, Some, None, ◌∙◌, inl, inr, arith, nat_eq, eq-eqb, ne_eqb}
use Rattle.std.proofs.lemmas.Bool.{cond-true, cond-false, le-leb}
use Rattle.pe_frame.specs.Frames.{frame_words}
use Rattle.pe_machine.specs.States.{Thunk, Sequence, Frame, PeContext, is_listed, oldest}
use Rattle.pe_machine.specs.Sound.{IsNumbered}
use Rattle.pe_machine.proofs.FrameLemmas.{listed_none}
use Rattle.pe_items.specs.Items.{ItemBinding, Item, frame, context, sequence, address_on, FoundFrame}
use Rattle.pe_items.proofs.Lays.{Sort, any_frame, escape_frame, IsAt, AreAt, IsSequenceAt, ThunkStands, a_source, a_datum, a_cell, a_jump, a_sequence, VariableStands, no_variable, a_variable, ContextStands, at_op_1, at_op_l, at_op_r, at_if, at_case, at_arg, at_pick, at_then, at_assign, at_store, at_while, at_body, at_loop, at_new, at_cells, at_element, at_drop, at_put, at_escape}

-- ---- words

-- a frame at depth d costs 8 + d at most
pub frame-width : (d : ℕ) → (3 ≤ frame_words d) × (frame_words d ≤ d + 6)
frame-width zero = (omega arith, omega arith)
frame-width (suc d) = (omega arith, omega arith)

-- ---- numbers and addresses

pub at-below : (k : Sort) (is : List Item) (fs : List Frame) (b n x : ℕ) → IsNumbered b fs → IsAt k fs is n x → n < b
at-below k (context e o ∷ is) fs b n x h a = at-below k is fs b n x h a
at-below k (sequence c ∷ is) fs b n x h a = at-below k is fs b n x h a
at-below k [] [] b n x h a = absurd a
at-below k [] (f ∷ fs) b n x h a = absurd a
at-below k (frame d u o ∷ is) [] b n x h a = absurd a
at-below k (frame d u o ∷ is) (f ∷ fs) b n x h (inl a) = let l = h.0 in let e = a.0 in omega arith
at-below k (frame d u o ∷ is) (f ∷ fs) b n x h (inr a) = let l = h.0 in let m = a.0 in omega arith

pub at-address : (k : Sort) (is : List Item) (fs : List Frame) (n x : ℕ) → IsAt k fs is n x → x < address_on is
at-address k (context e o ∷ is) fs n x a = let l = at-address k is fs n x a in omega arith
at-address k (sequence c ∷ is) fs n x a = let l = at-address k is fs n x a in omega arith
at-address k [] [] n x a = absurd a
at-address k [] (f ∷ fs) n x a = absurd a
at-address k (frame d u o ∷ is) [] n x a = absurd a
at-address k (frame d u o ∷ is) (f ∷ fs) n x (inl a) = let e = a.1 in let w = frame-width d in omega arith
at-address k (frame d u o ∷ is) (f ∷ fs) n x (inr a) = let l = a.1 in omega arith

pub at-listed : (k : Sort) (is : List Item) (fs : List Frame) (n x : ℕ) → IsAt k fs is n x → is_listed (Some n) fs ≡ true
at-listed k (context e o ∷ is) fs n x a = at-listed k is fs n x a
at-listed k (sequence c ∷ is) fs n x a = at-listed k is fs n x a
at-listed k [] [] n x a = absurd a
at-listed k [] (f ∷ fs) n x a = absurd a
at-listed k (frame d u o ∷ is) [] n x a = absurd a
at-listed k (frame d u o ∷ is) (f ∷ fs) n x (inl a) = cond-true (nat_eq n f.number) true (is_listed (Some n) fs) (eq-eqb n f.number a.0)
at-listed k (frame d u o ∷ is) (f ∷ fs) n x (inr a) =
    let l = a.0 in
    cond-false (nat_eq n f.number) true (is_listed (Some n) fs) (ne_eqb n f.number (λ q. omega arith)) ∙ at-listed k is fs n x a.2

pub sequence-below : (is : List Item) (fs : List Frame) (b n x : ℕ) → IsNumbered b fs → IsSequenceAt fs is n x → n < b
sequence-below (context e o ∷ is) fs b n x h a = sequence-below is fs b n x h a
sequence-below (sequence c ∷ is) fs b n x h a = sequence-below is fs b n x h a
sequence-below [] [] b n x h a = absurd a
sequence-below [] (f ∷ fs) b n x h a = absurd a
sequence-below (frame d u o ∷ is) [] b n x h a = absurd a
sequence-below (frame d u o ∷ is) (f ∷ fs) b n x h (inl a) = let l = h.0 in let e = a.0 in omega arith
sequence-below (frame d u o ∷ is) (f ∷ fs) b n x h (inr a) = let l = h.0 in let m = a.0 in omega arith

pub name-listed : (fs : List Frame) (is : List Item) (r x : Option ℕ) → AreAt fs is r x → is_listed r fs ≡ true
name-listed fs is None None a = listed_none fs
name-listed fs is (Some n) (Some x) a = at-listed any_frame is fs n x a
name-listed fs is None (Some x) a = absurd a
name-listed fs is (Some n) None a = absurd a

-- ---- cuts

pub oldest-newer : (n : ℕ) (f : Frame) (fs : List Frame) → n ≤ length fs → oldest n (f ∷ fs) ≡ oldest n fs
oldest-newer n f fs le = cond-true _ (oldest n fs) (f ∷ fs) (le-leb n (length fs) le)

-- ---- what stays

-- what stands with the frames and the items stands with the others too
pub record Kept (fs : List Frame) (is : List Item) (gs : List Frame) (js : List Item) : Type 0 where
  pub stands : (k : Sort) (n x : ℕ) → IsAt k fs is n x → IsAt k gs js n x
  pub sequences : (n x : ℕ) → IsSequenceAt fs is n x → IsSequenceAt gs js n x

pub kept-context : (fs : List Frame) (is : List Item) (e : PeContext) (o : ℕ) → Kept fs is fs (context e o ∷ is)
kept-context fs is e o = record { stands = λ k n x a. a; sequences = λ n x a. a }

pub kept-cells : (fs : List Frame) (is : List Item) (c : Sequence) → Kept fs is fs (sequence c ∷ is)
kept-cells fs is c = record { stands = λ k n x a. a; sequences = λ n x a. a }

pub kept-frame : (f : Frame) (d : ℕ) (u : ItemBinding) (o : Option ℕ) (fs : List Frame) (is : List Item) → IsNumbered f.number fs →
    Kept fs is (f ∷ fs) (frame d u o ∷ is)
kept-frame f d u o fs is h = record {
  stands = λ k n x a. inr (at-below k is fs f.number n x h a, at-address k is fs n x a, a);
  sequences = λ n x a. inr (sequence-below is fs f.number n x h a, a);
}

pub kept-both : {fs gs hs : List Frame} {is js ks : List Item} → Kept fs is gs js → Kept gs js hs ks → Kept fs is hs ks
kept-both w v = record { stands = λ k n x a. v.stands k n x (w.stands k n x a); sequences = λ n x a. v.sequences n x (w.sequences n x a) }

pub names-kept : {fs gs : List Frame} {is js : List Item} → Kept fs is gs js → (r x : Option ℕ) → AreAt fs is r x → AreAt gs js r x
names-kept w None None a = tt
names-kept w (Some n) (Some x) a = w.stands any_frame n x a
names-kept w None (Some x) a = absurd a
names-kept w (Some n) None a = absurd a

-- below cells and a context stand the same frames
pub names-under : (fs : List Frame) (is : List Item) (c : Sequence) (r x : Option ℕ) → AreAt fs (sequence c ∷ is) r x → AreAt fs is r x
names-under fs is c None None a = tt
names-under fs is c (Some n) (Some x) a = a
names-under fs is c None (Some x) a = absurd a
names-under fs is c (Some n) None a = absurd a

pub names-older : (fs : List Frame) (is : List Item) (e : PeContext) (o : ℕ) (r x : Option ℕ) → AreAt fs (context e o ∷ is) r x → AreAt fs is r x
names-older fs is e o None None a = tt
names-older fs is e o (Some n) (Some x) a = a
names-older fs is e o None (Some x) a = absurd a
names-older fs is e o (Some n) None a = absurd a

pub thunk-kept : {fs gs : List Frame} {is js : List Item} {t u : Thunk} → Kept fs is gs js → ThunkStands fs is t u → ThunkStands gs js t u
thunk-kept w (a_source {r = r} {x = x} a) = a_source (names-kept w r x a)
thunk-kept w a_datum = a_datum
thunk-kept w (a_cell {n = n} {x = x} a) = a_cell (w.stands any_frame n x a)
thunk-kept w (a_jump {n = n} {x = x} a) = a_jump (w.stands escape_frame n x a)
thunk-kept w (a_sequence {n = n} {x = x} a) = a_sequence (w.sequences n x a)

pub variable-kept : {fs gs : List Frame} {is js : List Item} {o : Option Frame} {p : Option FoundFrame} → Kept fs is gs js → VariableStands fs is o p →
    VariableStands gs js o p
variable-kept w no_variable = no_variable
variable-kept w (a_variable t) = a_variable (thunk-kept w t)

-- the numbers that are above all stay so
pub context-kept : {fs gs : List Frame} {is js : List Item} {c e : PeContext} → Kept fs is gs js → ((n : ℕ) → IsNumbered n fs → IsNumbered n gs) →
    ContextStands fs is c e → ContextStands gs js c e
context-kept w b at_op_1 = at_op_1
context-kept w b (at_op_l {r = r} {x = x} a) = at_op_l (names-kept w r x a)
context-kept w b at_op_r = at_op_r
context-kept w b (at_if {r = r} {x = x} {q = q} {y = y} a c) = at_if (names-kept w r x a) (names-kept w q y c)
context-kept w b (at_case {r = r} {x = x} a) = at_case (names-kept w r x a)
context-kept w b (at_arg t) = at_arg (thunk-kept w t)
context-kept w b at_pick = at_pick
context-kept w b (at_then {r = r} {x = x} a) = at_then (names-kept w r x a)
context-kept w b (at_assign {r = r} {x = x} a) = at_assign (names-kept w r x a)
context-kept w b at_store = at_store
context-kept w b (at_while {r = r} {x = x} {q = q} {y = y} a c) = at_while (names-kept w r x a) (names-kept w q y c)
context-kept w b (at_body {r = r} {x = x} a) = at_body (names-kept w r x a)
context-kept w b (at_loop {r = r} {x = x} a) = at_loop (names-kept w r x a)
context-kept w b (at_new {r = r} {x = x} a) = at_new (names-kept w r x a)
context-kept w b (at_cells {r = r} {x = x} a) = at_cells (names-kept w r x a)
context-kept w b (at_element {n = n} {x = x} a) = at_element (w.sequences n x a)
context-kept w b at_drop = at_drop
context-kept w b at_put = at_put
context-kept w b (at_escape {n = n} h) = at_escape (b n h)
