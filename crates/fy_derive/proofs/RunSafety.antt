-- A run of a phrase that is typed as a command is never stuck.
use Rattle.std.proofs.Common.{ℕ, zero, suc, ◌≡◌, ◌≢◌, Bool, true, false, if◌then◌else◌, List, [], ◌∷◌, slice_get, Some, None, refl, sym, ap, ◌∙◌, subst, ◌⊎◌, inl, inr}
use Rattle.fy_types.specs.declared.types.Atom.TheVariants as atoms
use Rattle.fy_types.specs.Paths.{end}
use Rattle.fy_types.specs.Types.{atom}
use Rattle.fy_phrase.specs.Tree.{Tree, skip}
use Rattle.fy_phrase.specs.Contexts.{CopyContext, Pushed}
use Rattle.fy_phrase.specs.Copy.{CopyState, CopyMove, goes, puts, takes as takes_byte, faults, sticks, copy_step, start, Standing, going, ended, faulted, stuck, standing_at, standing_of, CopyRun, settled, ticked, after_more, start_run, copy_after}
use Rattle.fy_phrase.proofs.Runs.{after_zero, after_suc}
use Rattle.fy_derive.specs.Derivations.{PlainDerivation}
use Rattle.fy_derive.specs.Rules.{is_atom}
use Rattle.fy_derive.specs.Typing.{HasType}
use Rattle.fy_derive.specs.Judging.{Judged, concludes, stops, conclusion_of, refusal}
use Rattle.fy_derive.specs.Safety.{IsNeverStuck, TypedIsNeverStuck, ConcludedIsNeverStuck, AcceptedIsNeverStuck}
use Rattle.fy_derive.proofs.RuleLemmas.{same_type-true}
use Rattle.fy_derive.proofs.SoundLemmas.{judged-sound}
use Rattle.fy_derive.proofs.TypedAnswers.{typed-answers}
use Rattle.fy_derive.proofs.ContextSafety.{filling-goes}
use Rattle.fy_derive.proofs.StateTyping.{IsTyped, IsFilling, GoesOn}
use Rattle.fy_derive.proofs.StepSafety.{step-goes}

-- a typed state, or one in which a sequence is filled
abbrev IsSafe : CopyState → Type 0
IsSafe s = IsTyped s ⊎ IsFilling s

-- a run that goes on is in a safe state, and none is stuck
abbrev IsFine : Standing → CopyRun → Type 0
IsFine going r = IsSafe r.state × (standing_of r.state ≡ going)
IsFine ended r = Unit {0}
IsFine (faulted kind at) r = Unit {0}
IsFine stuck r = ⊥

-- a safe state goes on, or is at its end
standing-fine : (st : Standing) (r : CopyRun) → standing_of r.state ≡ st → IsSafe r.state → IsFine st r
standing-fine going r e t = (t, e)
standing-fine ended r e t = tt
standing-fine (faulted kind at) r e t = tt
standing-fine stuck r e t = absurd (not_stuck r.state.focus r.state.contexts e)
  where
    not_stuck : (p : Tree) (cs : List (Pushed CopyContext)) → standing_at p cs ≡ stuck → ⊥
    not_stuck (skip at) [] e = cc
    not_stuck (skip at) (c ∷ cs) e = cc
    not_stuck p cs e = cc

settled-fine : (m : CopyMove) (r : CopyRun) → GoesOn m → IsFine (settled m r).standing (settled m r)
settled-fine (goes s) r k = standing-fine (standing_of s) (settled (goes s) r) refl k
settled-fine (puts text s) r k = standing-fine (standing_of s) (settled (puts text s) r) refl (inl k)
settled-fine (takes_byte go) r k = standing-fine (settled (takes_byte go) r).standing (settled (takes_byte go) r) refl (inl (k (slice_get r.input 0)))
settled-fine (faults kind at) r k = tt
settled-fine sticks r k = k

safe-goes : (s : CopyState) → standing_of s ≡ going → IsSafe s → GoesOn (copy_step s)
safe-goes s e (inl t) = step-goes s.focus s t.0 t.1 e t.2 t.3 t.4
safe-goes s e (inr f) = filling-goes s.focus s f

ticked-fine : (st : Standing) (r : CopyRun) → r.standing ≡ st → IsFine st r → IsFine (ticked st r).standing (ticked st r)
ticked-fine going r e f = settled-fine (copy_step r.state) r (safe-goes r.state f.1 f.0)
ticked-fine ended r e f = subst (λ st. IsFine st r) (sym e) f
ticked-fine (faulted kind at) r e f = subst (λ st. IsFine st r) (sym e) f
ticked-fine stuck r e f = absurd f

after-fine : (m : ℕ) (r : CopyRun) → IsFine r.standing r → IsFine (after_more m r).standing (after_more m r)
after-fine zero r f = subst (λ x. IsFine x.standing x) (sym (after_zero r)) f
after-fine (suc m) r f =
    subst (λ x. IsFine x.standing x) (sym (after_suc m r)) (ticked-fine (after_more m r).standing (after_more m r) refl (after-fine m r f))

fine-not_stuck : (r : CopyRun) → IsFine r.standing r → r.standing ≢ stuck
fine-not_stuck r f e = subst (λ st. IsFine st r) e f

pub typed-never_stuck : TypedIsNeverStuck
unfolding IsNeverStuck
typed-never_stuck p t input m =
    fine-not_stuck (copy_after p input m) (after-fine m (start_run p input)
    (standing-fine (standing_of (start p)) (start_run p input) refl (inl ([], end atoms.Comm, (typed-answers [] t).0, (refl, (atoms.Comm, refl, refl)), tt))))

pub concluded-never_stuck : ConcludedIsNeverStuck
concluded-never_stuck p d e = typed-never_stuck p (judged-sound d 0 [] p (atom atoms.Comm) e)

-- what is refused at no node concludes `comm`
accepted-concludes : (j : Judged) → refusal j ≡ None → j ≡ concludes (atom atoms.Comm)
accepted-concludes (stops n) e = absurd cc
accepted-concludes (concludes A) e = by_test (is_atom atoms.Comm A) refl
  where
    by_test : (b : Bool) → is_atom atoms.Comm A ≡ b → concludes A ≡ concludes (atom atoms.Comm)
    by_test true is = ap concludes (same_type-true A (atom atoms.Comm) is)
    by_test false is = let f = ap (λ b. if b then None else Some 0) (sym is) ∙ e in absurd cc

pub accepted-never_stuck : AcceptedIsNeverStuck
accepted-never_stuck p d e = concluded-never_stuck p d (accepted-concludes (conclusion_of p d) e)

-- nor does it conclude for what is no command
pub accepted-typed : (p : Tree) (d : PlainDerivation) → refusal (conclusion_of p d) ≡ None → HasType [] p (atom atoms.Comm)
accepted-typed p d e = judged-sound d 0 [] p (atom atoms.Comm) (accepted-concludes (conclusion_of p d) e)
