-- A source is that of a unit, or isn't for one reason.
use Rattle.std.proofs.Common.{◌≡◌, inl, inr, List, reverse, refl, sym, ap, ◌∙◌, subst, arith}
use Rattle.std.specs.Prelude.{All, Any, Some, Err}
use Rattle.fy_base.specs.Outside.{Bytes}
use Rattle.fy_types.specs.Limits.{IsWithinLimits, IsTooLarge}
use Rattle.fy_types.specs.Paths.{PlainPaths}
use Rattle.fy_derive.specs.Least.{Visit, forms_of, visits}
use Rattle.fy_derive.proofs.SoundLemmas.{judged-sound}
use Rattle.fy_least.specs.declared.error.FindError.{FindError}
use Rattle.fy_least.specs.declared.error.FindError.TheVariants as unfound
use Rattle.fy_least.specs.Finding.{IsFindingOf}
use Rattle.fy_least.specs.Limits.{KeepTypeLimits, PassTypeLimits}
use Rattle.fy_front.specs.Checked.{find_refusal}
use Rattle.fy_front.specs.declared.refusal.Refusal.{Refusal}
use Rattle.fy_front.proofs.Checking.{told_one}
use Rattle.fy_link.specs.Laws.{IsUnitSource, SourcesAreJudgedOneWay}
use Rattle.fy_link.specs.Sources.{PlainSource}
use Rattle.fy_link.specs.Units.{context_of, IsUnitFault}
use Rattle.fy_link.proofs.OneSource.{source-same, source-or-fault, source-faults-same}

within-or-large : (P : PlainPaths) → IsWithinLimits P → IsTooLarge P → ⊥
within-or-large P h (inl many) = omega (arith, h.few, many)
within-or-large P h (inr deep) = omega (arith, h.shallow, deep)

all-or-any : (Ps : List PlainPaths) → All IsWithinLimits Ps → Any IsTooLarge Ps → ⊥
all-or-any Ps h (k, P, less, is, large) = within-or-large P (subst IsWithinLimits is (h k P less)) large

keep-or-pass : (vs : List Visit) → KeepTypeLimits vs → PassTypeLimits vs → ⊥
keep-or-pass vs h (inl (inl large)) = all-or-any _ h.least large
keep-or-pass vs h (inl (inr large)) = all-or-any _ h.written large
keep-or-pass vs h (inr many) = omega (arith, h.together, many)

-- what finding answers for the phrase of a source
abbrev IsUnfound : PlainSource → FindError → Type 0
IsUnfound u e = IsFindingOf (reverse (context_of u.imports)) u.phrase u.own.type (Err e)

unfound-same : (u : PlainSource) (x y : FindError) (e f : Refusal) → find_refusal x ≡ Some e → find_refusal y ≡ Some f → IsUnfound u x → IsUnfound u y → e ≡ f
unfound-same u (unfound.NoType at) (unfound.NoType to) e f m n h k = told_one find_refusal (unfound.NoType at) (unfound.NoType to) e f (ap unfound.NoType (h.2 ∙ sym k.2)) m n
unfound-same u (unfound.NoType at) unfound.TypeTooLarge e f m n h k = absurd (keep-or-pass (visits 0 (forms_of (reverse (context_of u.imports))) u.phrase) h.0 k)
unfound-same u unfound.TypeTooLarge (unfound.NoType to) e f m n h k = absurd (keep-or-pass (visits 0 (forms_of (reverse (context_of u.imports))) u.phrase) k.0 h)
unfound-same u unfound.TypeTooLarge unfound.TypeTooLarge e f m n h k = told_one find_refusal unfound.TypeTooLarge unfound.TypeTooLarge e f refl m n
unfound-same u unfound.OutOfMemory y e f m n h k = absurd cc
unfound-same u x unfound.OutOfMemory e f m n h k = absurd cc

faults-same : (names : List Bytes) (source : Bytes) (e f : Refusal) → IsUnitFault names source e → IsUnitFault names source f → e ≡ f
faults-same names source e f (IsUnitFault.before_typing h) (IsUnitFault.before_typing k) = source-faults-same names source e f h k
faults-same names source e f (IsUnitFault.before_typing h) (IsUnitFault.of_typing {after = last} {u = v} y said k n) = absurd (source-or-fault names last source v e said h)
faults-same names source e f (IsUnitFault.of_typing {after = after} {u = u} x said h m) (IsUnitFault.before_typing k) = absurd (source-or-fault names after source u f said k)
faults-same names source e f (IsUnitFault.of_typing {after = after} {u = u} x said h m) (IsUnitFault.of_typing {after = last} {u = v} y read k n) =
    let same = (source-same names after last source u v said read).one_source in
    unfound-same v x y e f m n (subst (λ (w : PlainSource). IsUnfound w x) same h) k

typed-or-unfound : (u : PlainSource) (x : FindError) (e : Refusal) → find_refusal x ≡ Some e → (names after : List Bytes) (source : Bytes) → IsUnitSource names source after u → IsUnfound u x → ⊥
typed-or-unfound u (unfound.NoType at) e m names after source h f =
    f.1 (judged-sound h.derivation 0 (reverse (context_of u.imports)) u.phrase u.own.type h.concluded)
typed-or-unfound u unfound.TypeTooLarge e m names after source h f = keep-or-pass (visits 0 (forms_of (reverse (context_of u.imports))) u.phrase) h.within f
typed-or-unfound u unfound.OutOfMemory e m names after source h f = cc

unit-or-fault : (names after : List Bytes) (source : Bytes) (u : PlainSource) (e : Refusal) → IsUnitSource names source after u → IsUnitFault names source e → ⊥
unit-or-fault names after source u e h (IsUnitFault.before_typing k) = source-or-fault names after source u e h.said k
unit-or-fault names after source u e h (IsUnitFault.of_typing {after = last} {u = v} x said k n) =
    let same = (source-same names after last source u v h.said said).one_source in
    typed-or-unfound u x e n names after source h (subst (λ (w : PlainSource). IsUnfound w x) (sym same) k)

pub sources-one_way : (names : List Bytes) (source : Bytes) → SourcesAreJudgedOneWay names source
sources-one_way names source = record {
  said = λ after last u v h k. (source-same names after last source u v h k).one_source;
  list = λ after last u v h k. (source-same names after last source u v h k).one_after;
  apart = λ after u e h k. unit-or-fault names after source u e h k;
  fault = λ e other h k. faults-same names source e other h k;
}
