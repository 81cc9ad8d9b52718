-- A context by its form.
use Rattle.std.proofs.Common.{ℕ, zero, suc, ◌-◌, ◌≡◌, ◌≢◌, List, ◌∷◌, slice_get, sym, ap, ◌∙◌, refl, Bor, arith}
use Rattle.fy_derive.specs.declared.context.Context as form
use Rattle.fy_derive.specs.declared.context.Context.{Context, Context-F, fold-roll-Context}
use Rattle.fy_derive.specs.declared.context.Context.TheVariants.{rolls-Outside, rolls-Under}
use Rattle.fy_derive.specs.Contexts.{numbers, numbers_step}

pub numbers-outside : (c : Context) (ks : Bor (List ℕ)) → c ≡ form.Outside ks → numbers c ≡ ks.now
numbers-outside c ks e = rw e (ap numbers (sym (rolls-Outside ks)) ∙ fold-roll-Context (List ℕ) numbers_step (Context-F.Outside ks))

pub numbers-under : (c : Context) (k : ℕ) (o : Bor Context) → c ≡ form.Under k o → numbers c ≡ k ∷ numbers o.now
numbers-under c k o e = rw e (ap numbers (sym (rolls-Under k o)) ∙ fold-roll-Context (List ℕ) numbers_step (Context-F.Under k o))

-- one place further in
pub next_place : (x : ℕ) (xs : List ℕ) (i : ℕ) → i ≢ 0 → slice_get (x ∷ xs) i ≡ slice_get xs (i - 1)
next_place x xs zero h = absurd (h refl)
next_place x xs (suc i) h = ap (slice_get xs) (omega arith)
