-- A scope by its form.
use Rattle.std.proofs.Common.{ℕ, zero, suc, ◌-◌, ◌≡◌, ◌≢◌, Bool, true, false, List, [], ◌∷◌, Some, slice_get, sym, ap, ◌∙◌, refl, Bor, arith}
use Rattle.pe_right.specs.Entered.{BinderKind}
use Rattle.pe_gen.specs.declared.scope.Scope as form
use Rattle.pe_gen.specs.declared.scope.Scope.{Scope, Scope-F, fold-roll-Scope}
use Rattle.pe_gen.specs.declared.scope.Scope.TheVariants.{rolls-Program, rolls-Under}
use Rattle.pe_gen.specs.Scopes.{binders, binders_step, kind_for, is_cell}

pub binders-program : (c : Scope) → c ≡ form.Program → binders c ≡ []
binders-program c e = rw e (ap binders (sym rolls-Program) ∙ fold-roll-Scope (List BinderKind) binders_step Scope-F.Program)

pub binders-under : (c : Scope) (b : Bool) (o : Bor Scope) → c ≡ form.Under b o → binders c ≡ kind_for b ∷ binders o.now
binders-under c b o e = rw e (ap binders (sym (rolls-Under b o)) ∙ fold-roll-Scope (List BinderKind) binders_step (Scope-F.Under b o))

-- one place further in
pub next_place : (x : BinderKind) (xs : List BinderKind) (i : ℕ) → i ≢ 0 → slice_get (x ∷ xs) i ≡ slice_get xs (i - 1)
next_place x xs zero h = absurd (h refl)
next_place x xs (suc i) h = ap (slice_get xs) (omega arith)

-- a binder is that of a cell where it is so told
pub kind-cell : (b : Bool) → is_cell (Some (kind_for b)) ≡ b
kind-cell true = refl
kind-cell false = refl
