-- A jump leads to one context on both sides.
use Rattle.std.proofs.Common.{ℕ, ◌<◌, ◌≤◌, ◌≡◌, false, List, [], ◌∷◌, length, Option, Some, refl, sym, ap, ◌∙◌, subst, inl, inr, arith, nat_eq, eq-eqb, ne_eqb}
use Rattle.std.proofs.lemmas.Bool.{cond-true, cond-false}
use Rattle.pe_machine.specs.States.{Sequence, Binding, Frame, completed, PeContext, Held, PeState, oldest}
use Rattle.pe_machine.specs.Step.{goes, is_target, jumped}
use Rattle.pe_machine.specs.Sound.{IsNumbered}
use Rattle.pe_items.specs.Items.{ItemBinding, Item, frame, context, sequence, address_on, FoundContext, context_at, context_in, escape_at}
use Rattle.pe_items.proofs.Lays.{cost, escape_frame, Fits, IsAt, ContextStands, at_escape, IsEscapeOf, BindingStands, thunk_bound, cell_bound, escape_bound, sequence_bound, Lays, nothing, newer_frame, live_context, taken_context, laid_cells}
use Rattle.pe_items.proofs.Standing.{at-below, oldest-newer}
use Rattle.pe_items.proofs.NewestLemmas.{IsNewest, newest-of}

-- where the escape n, whose frame stands at x, leads: past the contexts cs to those that are left, and to a place on the stack
pub record Leaves (fs : List Frame) (cs : List Held) (is : List Item) (n x : ℕ) : Type 0 where
  pub place : ℕ
  pub found : FoundContext
  pub held : Held
  pub rest : List Held
  pub is_place : escape_at x is ≡ Some place
  pub is_found : context_at place is ≡ Some found
  pub below_top : place < address_on is
  pub jumps : (s : PeState) → jumped n cs s ≡ goes (record s { focus = completed; contexts = rest; frames = oldest held.frames s.frames; load = held.base })
  pub within : held.frames ≤ length fs
  pub small : cost found.older ≤ held.base
  pub lays : Lays (oldest held.frames fs) rest found.outside found.older

-- ---- from the escape's own frame

escape-here : {fs : List Frame} {is : List Item} {cs : List Held} {newest n : ℕ} {b : Binding} {u : ItemBinding} → Fits escape_frame b →
    BindingStands fs is cs newest n b u → IsEscapeOf n cs × (context_in u ≡ Some newest)
escape-here fit (thunk_bound t) = absurd fit
escape-here fit cell_bound = absurd fit
escape-here fit (escape_bound e) = (e, refl)
escape-here fit (sequence_bound e q) = absurd fit

leaves-here : (f : Frame) (fs : List Frame) (cs : List Held) (newest : ℕ) (is : List Item) (u : ItemBinding) (y : Option ℕ) (n x : ℕ) → n ≡ f.number → x ≡ address_on is →
    IsEscapeOf f.number cs → context_in u ≡ Some newest → IsNewest fs cs newest is → Leaves (f ∷ fs) cs (frame f.depth u y ∷ is) n x
leaves-here f fs [] newest is u y n x e q it found w = absurd it
leaves-here f fs (c ∷ cs) newest is u y n x e q it found w = record {
  place = newest;
  found = w.found;
  held = c;
  rest = cs;
  is_place = cond-true (nat_eq x (address_on is)) (context_in u) (escape_at x is) (eq-eqb x (address_on is) q) ∙ found;
  is_found = w.is_found;
  below_top = (let l = w.below_top in omega arith);
  jumps = λ s. cond-true (is_target n c.context) _ (jumped n cs s) (ap (λ (k : PeContext). is_target n k) it ∙ eq-eqb f.number n (sym e));
  within = (let l = w.within in omega arith);
  small = w.small;
  lays = subst (λ (ks : List Frame). Lays ks cs w.found.outside w.found.older) (sym (oldest-newer c.frames f fs w.within)) w.lays;
}

-- ---- from above

leaves-frame : (f : Frame) (d : ℕ) (fs : List Frame) (cs : List Held) (is : List Item) (u : ItemBinding) (y : Option ℕ) (n x : ℕ) → x < address_on is → Leaves fs cs is n x →
    Leaves (f ∷ fs) cs (frame d u y ∷ is) n x
leaves-frame f d fs cs is u y n x less w = record {
  place = w.place;
  found = w.found;
  held = w.held;
  rest = w.rest;
  is_place = cond-false (nat_eq x (address_on is)) (context_in u) (escape_at x is) (ne_eqb x (address_on is) (λ q. omega arith)) ∙ w.is_place;
  is_found = w.is_found;
  below_top = (let l = w.below_top in omega arith);
  jumps = w.jumps;
  within = (let l = w.within in omega arith);
  small = w.small;
  lays = subst (λ (ks : List Frame). Lays ks w.rest w.found.outside w.found.older) (sym (oldest-newer w.held.frames f fs w.within)) w.lays;
}

leaves-context : (fs : List Frame) (cs : List Held) (is : List Item) (e : PeContext) (o n x : ℕ) → Leaves fs cs is n x → Leaves fs cs (context e o ∷ is) n x
leaves-context fs cs is e o n x w =
    let l = w.below_top in
    record {
      place = w.place;
      found = w.found;
      held = w.held;
      rest = w.rest;
      is_place = w.is_place;
      is_found = cond-false (nat_eq w.place (address_on is)) _ _ (ne_eqb w.place (address_on is) (λ q. omega arith)) ∙ w.is_found;
      below_top = omega arith;
      jumps = w.jumps;
      within = w.within;
      small = w.small;
      lays = w.lays;
    }

leaves-cells : (fs : List Frame) (cs : List Held) (is : List Item) (c : Sequence) (n x : ℕ) → Leaves fs cs is n x → Leaves fs cs (sequence c ∷ is) n x
leaves-cells fs cs is c n x w = record {
  place = w.place;
  found = w.found;
  held = w.held;
  rest = w.rest;
  is_place = w.is_place;
  is_found = w.is_found;
  below_top = (let l = w.below_top in omega arith);
  jumps = w.jumps;
  within = w.within;
  small = w.small;
  lays = w.lays;
}

-- a context that isn't the escape's is passed
leaves-passed : (fs : List Frame) (c : Held) (cs : List Held) (is : List Item) (n x : ℕ) → is_target n c.context ≡ false → Leaves fs cs is n x → Leaves fs (c ∷ cs) is n x
leaves-passed fs c cs is n x other w = record {
  place = w.place;
  found = w.found;
  held = w.held;
  rest = w.rest;
  is_place = w.is_place;
  is_found = w.is_found;
  below_top = w.below_top;
  jumps = λ s. cond-false (is_target n c.context) _ (jumped n cs s) other ∙ w.jumps s;
  within = w.within;
  small = w.small;
  lays = w.lays;
}

-- the frame of an escape is newer than its context
other-target : {fs : List Frame} {is : List Item} {c e : PeContext} (n x : ℕ) → IsAt escape_frame fs is n x → ContextStands fs is c e → is_target n c ≡ false
other-target {fs = fs} {is = is} n x a (at_escape {n = m} h) = let l = at-below escape_frame is fs m n x h a in ne_eqb m n (λ q. omega arith)
other-target n x a s = refl

leaves-newer : (f : Frame) (fs : List Frame) (cs : List Held) (newest : ℕ) (is : List Item) (u : ItemBinding) (y : Option ℕ) (n x : ℕ) →
    BindingStands fs is cs newest f.number f.binding u → IsNewest fs cs newest is → (IsAt escape_frame fs is n x → Leaves fs cs is n x) →
    IsAt escape_frame (f ∷ fs) (frame f.depth u y ∷ is) n x → Leaves (f ∷ fs) cs (frame f.depth u y ∷ is) n x
leaves-newer f fs cs newest is u y n x s w older (inl a) = let h = escape-here a.2 s in leaves-here f fs cs newest is u y n x a.0 a.1 h.0 h.1 w
leaves-newer f fs cs newest is u y n x s w older (inr a) = leaves-frame f f.depth fs cs is u y n x a.1 (older a.2)

pub leaves : {fs : List Frame} {cs : List Held} {newest : ℕ} {is : List Item} (b n x : ℕ) → IsNumbered b fs → IsAt escape_frame fs is n x → Lays fs cs newest is →
    Leaves fs cs is n x
leaves b n x h a nothing = absurd a
leaves b n x h a (newer_frame {f = f} {fs = fs} {cs = cs} {newest = newest} {is = is} {u = u} {x = y} s o l) =
    leaves-newer f fs cs newest is u y n x s (newest-of f.number h.1 l) (λ older. leaves f.number n x h.1 older l) a
leaves b n x h a (live_context {c = c} {fs = fs} {cs = cs} {newest = newest} {is = is} {e = e} counted small s l) =
    leaves-passed fs c cs (context e newest ∷ is) n x (other-target n x a s) (leaves-context fs cs is e newest n x (leaves b n x h a l))
leaves b n x h a (taken_context {fs = fs} {cs = cs} {outside = outside} {is = is} {e = e} l) = leaves-context fs cs is e outside n x (leaves b n x h a l)
leaves b n x h a (laid_cells {fs = fs} {cs = cs} {is = is} {c = c} l) = leaves-cells fs cs is c n x (leaves b n x h a l)
