-- The newest context: where it stands, what is older, and what is left where it is taken.
use Rattle.std.proofs.Common.{ℕ, ◌<◌, ◌≤◌, ◌≡◌, List, [], ◌∷◌, length, Option, Some, refl, sym, ◌∙◌, subst, arith, nat_eq, eq-eqb, ne_eqb}
use Rattle.std.proofs.lemmas.Bool.{cond-true, cond-false}
use Rattle.fy_phrase.specs.Contexts.{esc_c}
use Rattle.pe_machine.specs.States.{Sequence, Binding, Frame, PeContext, Held, oldest}
use Rattle.pe_machine.specs.Sound.{IsNumbered}
use Rattle.pe_machine.proofs.Stacks.{oldest_all}
use Rattle.pe_items.specs.Items.{ItemBinding, Item, frame, context, sequence, address_on, FoundContext, context_at}
use Rattle.pe_items.proofs.Lays.{cost, AreAt, ContextStands, BindingStands, thunk_bound, cell_bound, escape_bound, sequence_bound, Lays, nothing, newer_frame, live_context, taken_context, laid_cells}
use Rattle.pe_items.proofs.Standing.{oldest-newer, Kept, kept-context, kept-cells, kept-frame, kept-both}

abbrev pub IsNoEscape : PeContext → Type 0
IsNoEscape c = (n : ℕ) → c ≡ esc_c n → ⊥

-- c is the newest context, before which the frames ks stood. An escape's isn't taken
pub record Newest (ks fs : List Frame) (is : List Item) (c : Held) (cs : List Held) (newest : ℕ) : Type 0 where
  pub found : FoundContext
  pub is_found : context_at newest is ≡ Some found
  pub above_foot : 0 < newest
  pub below_top : newest < address_on is
  pub small : cost found.older ≤ c.base
  pub stands : ContextStands ks found.older c.context found.content
  pub lays : Lays ks cs found.outside found.older
  pub within : c.frames ≤ length fs
  pub kept : Kept ks found.older fs is
  pub taken : IsNoEscape c.context → Lays fs cs found.outside is

-- the newest of the contexts, or the stack's foot where there is none
abbrev pub IsNewest : List Frame → List Held → ℕ → List Item → Type 0
IsNewest fs [] newest is = newest ≡ 0
IsNewest fs (c ∷ cs) newest is = Newest (oldest c.frames fs) fs is c cs newest

binding-taken : {fs : List Frame} {is : List Item} {c : Held} {cs : List Held} {newest n : ℕ} {b : Binding} {u : ItemBinding} (outside : ℕ) → IsNoEscape c.context →
    BindingStands fs is (c ∷ cs) newest n b u → BindingStands fs is cs outside n b u
binding-taken outside other (thunk_bound t) = thunk_bound t
binding-taken outside other cell_bound = cell_bound
binding-taken {n = n} outside other (escape_bound e) = absurd (other n e)
binding-taken outside other (sequence_bound e q) = sequence_bound e q

newest-frame : (f : Frame) (fs : List Frame) (cs : List Held) (newest : ℕ) (is : List Item) (u : ItemBinding) (o : Option ℕ) → IsNumbered f.number fs →
    BindingStands fs is cs newest f.number f.binding u → AreAt fs is f.around o → IsNewest fs cs newest is → IsNewest (f ∷ fs) cs newest (frame f.depth u o ∷ is)
newest-frame f fs [] newest is u o h b a n = n
newest-frame f fs (c ∷ cs) newest is u o h b a n =
    subst (λ (ks : List Frame). Newest ks (f ∷ fs) (frame f.depth u o ∷ is) c cs newest) (sym (oldest-newer c.frames f fs n.within))
    record {
      found = n.found;
      is_found = n.is_found;
      above_foot = n.above_foot;
      below_top = (let l = n.below_top in omega arith);
      small = n.small;
      stands = n.stands;
      lays = n.lays;
      within = (let l = n.within in omega arith);
      kept = kept-both n.kept (kept-frame f f.depth u o fs is h);
      taken = λ other. newer_frame (binding-taken n.found.outside other b) a (n.taken other);
    }

newest-taken : (fs : List Frame) (cs : List Held) (newest : ℕ) (is : List Item) (e : PeContext) (o : ℕ) → IsNewest fs cs newest is → IsNewest fs cs newest (context e o ∷ is)
newest-taken fs [] newest is e o n = n
newest-taken fs (c ∷ cs) newest is e o n =
    let l = n.below_top in
    record {
      found = n.found;
      is_found = cond-false (nat_eq newest (address_on is)) _ _ (ne_eqb newest (address_on is) (λ q. omega arith)) ∙ n.is_found;
      above_foot = n.above_foot;
      below_top = omega arith;
      small = n.small;
      stands = n.stands;
      lays = n.lays;
      within = n.within;
      kept = kept-both n.kept (kept-context fs is e o);
      taken = λ other. taken_context (n.taken other);
    }

newest-cells : (fs : List Frame) (cs : List Held) (newest : ℕ) (is : List Item) (q : Sequence) → IsNewest fs cs newest is → IsNewest fs cs newest (sequence q ∷ is)
newest-cells fs [] newest is q n = n
newest-cells fs (c ∷ cs) newest is q n = record {
  found = n.found;
  is_found = n.is_found;
  above_foot = n.above_foot;
  below_top = (let l = n.below_top in omega arith);
  small = n.small;
  stands = n.stands;
  lays = n.lays;
  within = n.within;
  kept = kept-both n.kept (kept-cells fs is q);
  taken = λ other. laid_cells (n.taken other);
}

pub newest-of : {fs : List Frame} {cs : List Held} {newest : ℕ} {is : List Item} (b : ℕ) → IsNumbered b fs → Lays fs cs newest is → IsNewest fs cs newest is
newest-of b h nothing = refl
newest-of b h (newer_frame {f = f} {fs = fs} {cs = cs} {newest = newest} {is = is} {u = u} {x = x} s a l) =
    newest-frame f fs cs newest is u x h.1 s a (newest-of f.number h.1 l)
newest-of b h (live_context {c = c} {fs = fs} {cs = cs} {newest = newest} {is = is} {e = e} counted small s l) =
    subst (λ (ks : List Frame). Newest ks fs (context e newest ∷ is) c cs (address_on is)) (sym (oldest_all c.frames fs (omega arith)))
    record {
      found = record { content = e; outside = newest; older = is };
      is_found = cond-true (nat_eq (address_on is) (address_on is)) _ _ (eq-eqb (address_on is) (address_on is) refl);
      above_foot = omega arith;
      below_top = omega arith;
      small = small;
      stands = s;
      lays = l;
      within = omega arith;
      kept = kept-context fs is e newest;
      taken = λ other. taken_context l;
    }
newest-of b h (taken_context {fs = fs} {cs = cs} {newest = newest} {outside = outside} {is = is} {e = e} l) =
    newest-taken fs cs newest is e outside (newest-of b h l)
newest-of b h (laid_cells {fs = fs} {cs = cs} {newest = newest} {is = is} {c = q} l) = newest-cells fs cs newest is q (newest-of b h l)
