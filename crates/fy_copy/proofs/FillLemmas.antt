-- Counts of cells that datums say, and what they lead to.
use Rattle.std.proofs.Common.{◌≡◌, ℕ, ◌+◌, ◌^◌, ◌<◌, ◌≤◌, ℤ, pos, negsuc, List, ◌∷◌, refl, ap, sym, ◌∙◌, subst, arith, eq-eqb, unsigned_abs, SFits, w64}
use Rattle.std.specs.Prelude.{nat_eq, nat_lt, if◌then◌else◌}
use Rattle.std.specs.Int.{FitsUnsignedBits}
use Rattle.std.proofs.lemmas.Bool.{lt-ltb, le-ltb, ne_eqb}
use Rattle.fy_base.specs.declared.data.Place.{Place}
use Rattle.fy_base.specs.declared.data.Datum.{Datum}
use Rattle.fy_base.specs.declared.data.Datum.TheVariants as datum
use Rattle.fy_base.specs.declared.data.FaultKind.TheVariants.{Range}
use Rattle.fy_phrase.specs.Tree.{Tree, lit}
use Rattle.fy_phrase.specs.Contexts.{CopyContext, fill_c, Pushed}
use Rattle.fy_phrase.specs.Copy.{Row, CopyState, goes, faults, sticks, counted, one_more, bound_filled, datum_under, lengthened, with_content}
use Rattle.fy_copy.specs.Shown.{with_context}
use Rattle.fy_copy.proofs.StoreLemmas.{chosen_if, other_if}

-- what a number of the program is, where it was taken as one that isn't negative
pub natural : (z : ℤ) (k : ℕ) → FitsUnsignedBits 64 z × (k ≡ unsigned_abs z) → pos k ≡ z
natural (pos n) k is = ap pos is.1
natural (negsuc n) k is = absurd is.0

pub small_count : (z : ℤ) (k : ℕ) → SFits w64 z → pos k ≡ z → k < 2 ^ 63
small_count z k fit is = let f : SFits w64 (pos k) = subst (λ x. SFits w64 x) (sym is) fit in f.sfits

-- ---- how many cells are wanted

pub negative_counted : (z : ℤ) (d : ℕ) (body : Tree) (at : Place) (s : CopyState) → SFits w64 z → (FitsUnsignedBits 64 z → ⊥) → counted (datum.Int z) d body at s ≡ faults Range at
negative_counted (pos n) d body at s fit none = let small : n < 2 ^ 63 = fit.sfits in let wide : n < 2 ^ 64 = omega arith in absurd (none wide)
negative_counted (negsuc n) d body at s fit none = refl

pub other_counted : (v : Datum) (d : ℕ) (body : Tree) (at : Place) (s : CopyState) → ((z : ℤ) → v ≡ datum.Int z → ⊥) → counted v d body at s ≡ sticks
other_counted (datum.Int z) d body at s other = absurd (other z refl)
other_counted (datum.Bool b) d body at s other = refl
other_counted (datum.Char c) d body at s other = refl

-- ---- how many are there

pub more_under : (k : ℕ) (here : Place) (n v d : ℕ) (body : Tree) (at : Place) (base : ℕ) (cs : List (Pushed CopyContext)) (s : CopyState) → k < v
    → datum_under (datum.Int (pos k)) here (fill_c n v d body at) base cs s ≡ one_more n k here s
more_under k here n v d body at base cs s fewer = chosen_if (nat_lt k v) (one_more n k here s) (if nat_eq k v then bound_filled n d body at base cs s else sticks) (lt-ltb k v fewer)

pub all_under : (k : ℕ) (here : Place) (n v d : ℕ) (body : Tree) (at : Place) (base : ℕ) (cs : List (Pushed CopyContext)) (s : CopyState) → v ≤ k → k ≡ v
    → datum_under (datum.Int (pos k)) here (fill_c n v d body at) base cs s ≡ bound_filled n d body at base cs s
all_under k here n v d body at base cs s past same =
    other_if (nat_lt k v) (one_more n k here s) (if nat_eq k v then bound_filled n d body at base cs s else sticks) (le-ltb k v past)
    ∙ chosen_if (nat_eq k v) (bound_filled n d body at base cs s) sticks (eq-eqb k v same)

pub past_under : (k : ℕ) (here : Place) (n v d : ℕ) (body : Tree) (at : Place) (base : ℕ) (cs : List (Pushed CopyContext)) (s : CopyState) → v ≤ k → (k ≡ v → ⊥)
    → datum_under (datum.Int (pos k)) here (fill_c n v d body at) base cs s ≡ sticks
past_under k here n v d body at base cs s past differs =
    other_if (nat_lt k v) (one_more n k here s) (if nat_eq k v then bound_filled n d body at base cs s else sticks) (le-ltb k v past)
    ∙ other_if (nat_eq k v) (bound_filled n d body at base cs s) sticks (ne_eqb k v differs)

pub negative_under : (z : ℤ) (here : Place) (n v d : ℕ) (body : Tree) (at : Place) (base : ℕ) (cs : List (Pushed CopyContext)) (s : CopyState) → SFits w64 z → (FitsUnsignedBits 64 z → ⊥)
    → datum_under (datum.Int z) here (fill_c n v d body at) base cs s ≡ sticks
negative_under (pos k) here n v d body at base cs s fit none = let small : k < 2 ^ 63 = fit.sfits in let wide : k < 2 ^ 64 = omega arith in absurd (none wide)
negative_under (negsuc k) here n v d body at base cs s fit none = refl

pub other_under : (v : Datum) (here : Place) (n m d : ℕ) (body : Tree) (at : Place) (base : ℕ) (cs : List (Pushed CopyContext)) (s : CopyState) → ((z : ℤ) → v ≡ datum.Int z → ⊥)
    → datum_under v here (fill_c n m d body at) base cs s ≡ sticks
other_under (datum.Int z) here n m d body at base cs s other = absurd (other z refl)
other_under (datum.Bool b) here n m d body at base cs s other = refl
other_under (datum.Char c) here n m d body at base cs s other = refl

-- ---- one more cell

abbrev state_with : Tree → List (Pushed CopyContext) → List Row → CopyState → CopyState
state_with p cs rows s = record s { focus = p; contexts = cs; store = rows; load = s.load + 1 }

pub one_more_steps : (n k base : ℕ) (here : Place) (c : CopyContext) (z : ℤ) (p : Tree) (cs : List (Pushed CopyContext)) (rows : List Row) (s t : CopyState) → z ≡ pos (k + 1) → p ≡ lit (datum.Int z) here
    → cs ≡ (record { base = base; context = c }) ∷ s.contexts → rows ≡ with_content n lengthened s.store → t ≡ record s { focus = p; contexts = cs; store = rows; load = s.load + 1 } → one_more n k here (with_context base c s) ≡ goes t
one_more_steps n k base here c z p cs rows s t number focus contexts store state =
    ap (λ (x : Tree). goes (state_with x ((record { base = base; context = c }) ∷ s.contexts) (with_content n lengthened s.store) s)) (ap (λ (i : ℤ). lit (datum.Int i) here) (sym number) ∙ sym focus)
    ∙ ap (λ (x : List (Pushed CopyContext)). goes (state_with p x (with_content n lengthened s.store) s)) (sym contexts)
    ∙ ap (λ (x : List Row). goes (state_with p cs x s)) (sym store)
    ∙ ap goes (sym state)
