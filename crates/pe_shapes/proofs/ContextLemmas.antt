-- A context by its form.
use Rattle.std.proofs.Common.{ℕ, zero, suc, ◌-◌, ◌≡◌, ◌≢◌, List, [], ◌∷◌, slice_get, sym, ap, ◌∙◌, refl, Bor, arith}
use Rattle.pe_shapes.specs.declared.context.Context as form
use Rattle.pe_shapes.specs.declared.context.Context.{Context, Context-F, fold-roll-Context}
use Rattle.pe_shapes.specs.declared.context.Context.TheVariants.{rolls-Empty, rolls-Under}
use Rattle.pe_shapes.specs.declared.context.Bound.{Bound}
use Rattle.pe_shapes.specs.Contexts.{PlainBound, plain_bound, bounds, bounds_step}

pub bounds-under : (c : Context) (b : Bound) (o : Bor Context) → c ≡ form.Under b o → bounds c ≡ plain_bound b ∷ bounds o.now
bounds-under c b o e = rw e (ap bounds (sym (rolls-Under b o)) ∙ fold-roll-Context (List PlainBound) bounds_step (Context-F.Under b o))

pub bounds-empty : (c : Context) → c ≡ form.Empty → bounds c ≡ []
bounds-empty c e = rw e (ap bounds (sym rolls-Empty) ∙ fold-roll-Context (List PlainBound) bounds_step Context-F.Empty)

-- one place further in
pub next_place : (x : PlainBound) (xs : List PlainBound) (i : ℕ) → i ≢ 0 → slice_get (x ∷ xs) i ≡ slice_get xs (i - 1)
next_place x xs zero h = absurd (h refl)
next_place x xs (suc i) h = ap (slice_get xs) (omega arith)
