use Rattle.std.proofs.Common.{ℕ, Bool, true, false, map, reverse, ap, sym, ◌∙◌, ◌≡◌, subst}
use Rattle.std.proofs.lemmas.Result.{err_from_is_err_and}
use Rattle.fy_types.specs.Reading.{plain_type}
use Rattle.fy_phrase.specs.Reads.{reads}
use Rattle.fy_derive.specs.Derivations.{sub}
use Rattle.fy_derive.specs.Judging.{judged, refusal_at, in_scope}
use Rattle.fy_derive.specs.Least.{forms_of, visits}
use Rattle.fy_derive.specs.Limits.{KeepsLimits}
use Rattle.fy_derive.specs.Printable.{IsPrintable}
use Rattle.fy_least.specs.Counts.{PassLimits}
use Rattle.fy_least.specs.Layers.{subsumed, IsLayered}
use Rattle.fy_least.specs.Pairs.{HasAllPairs}
use Rattle.fy_least.specs.Visited.{IsFound, derivation_of}
use Rattle.fy_least.proofs.FindLemmas.{found-kept, found-accepted, found-untyped, found-limits, found-layered, found-pairs, found-printable, found-refused}
use Rattle.fy_least.proofs.finder.find_as.Goals as goal

never : (b : Bool) → b ≡ false → b ≡ true → ⊥
never b off on = cc

pub returns-in_err-found-clause-found : goal.returns-in_err-found-clause-found
returns-in_err-found-clause-found c =
    let p = err_from_is_err_and c.from_residual.result c.from_residual.ensures.1 in
    let around = ap (λ ts. forms_of (reverse (map plain_type ts))) c.as_slice.ensures.members in
    rw (p.1, p.2) (found-refused (in_scope c.args.context.now) (reads c.args.p.now) (plain_type c.args.ty.now) c.in_err-found.field-0.0
    (λ e. subst (λ G. (m : ℕ) → PassLimits (visits m G (reads c.args.p.now))) around (c.in_err-found.ensures.large e)))

pub returns-in_ok-whole-clause-found : goal.returns-in_ok-whole-clause-found
returns-in_ok-whole-clause-found c =
    let G = in_scope c.args.context.now in
    let p = reads c.args.p.now in
    let T = plain_type c.args.ty.now in
    let f = c.in_ok-found.found in
    let around = ap (λ ts. forms_of (reverse (map plain_type ts))) c.as_slice.ensures.members in
    let h = subst (λ H. IsFound H p f) around c.in_ok-found.ensures.ok in
    let same = c.in_ok-whole.ensures ∙ ap (λ A. sub A (derivation_of f)) c.in_ok-wanted.ensures in (
      found-kept G p T f h,
      ap (λ d. refusal_at T (judged d 0 G p)) same
          ∙ found-accepted G p T f h (plain_type c.in_ok-least.least) c.in_ok-least.ensures.made (c.in_ok-fits.ensures.0 c.if-fits.true),
    )

pub returns-in_ok-whole-clause-limits : goal.returns-in_ok-whole-clause-limits
returns-in_ok-whole-clause-limits c =
    let G = in_scope c.args.context.now in
    let p = reads c.args.p.now in
    let T = plain_type c.args.ty.now in
    let f = c.in_ok-found.found in
    let around = ap (λ ts. forms_of (reverse (map plain_type ts))) c.as_slice.ensures.members in
    let h = subst (λ H. IsFound H p f) around c.in_ok-found.ensures.ok in
    let same = c.in_ok-whole.ensures ∙ ap (λ A. sub A (derivation_of f)) c.in_ok-wanted.ensures in
    λ l low. subst KeepsLimits (sym same) (found-limits G p T f h l low)

pub returns-in_ok-whole-clause-printable : goal.returns-in_ok-whole-clause-printable
returns-in_ok-whole-clause-printable c =
    let G = in_scope c.args.context.now in
    let p = reads c.args.p.now in
    let T = plain_type c.args.ty.now in
    let f = c.in_ok-found.found in
    let around = ap (λ ts. forms_of (reverse (map plain_type ts))) c.as_slice.ensures.members in
    let h = subst (λ H. IsFound H p f) around c.in_ok-found.ensures.ok in
    let same = c.in_ok-whole.ensures ∙ ap (λ A. sub A (derivation_of f)) c.in_ok-wanted.ensures in
    λ l full meets names named around written. subst (IsPrintable names) (sym same) (found-printable G p T f h l full meets names named around written)

pub returns-in_ok-whole-clause-layered : goal.returns-in_ok-whole-clause-layered
returns-in_ok-whole-clause-layered c =
    let G = in_scope c.args.context.now in
    let p = reads c.args.p.now in
    let T = plain_type c.args.ty.now in
    let f = c.in_ok-found.found in
    let around = ap (λ ts. forms_of (reverse (map plain_type ts))) c.as_slice.ensures.members in
    let h = subst (λ H. IsFound H p f) around c.in_ok-found.ensures.ok in
    let same = c.in_ok-whole.ensures ∙ ap (λ A. sub A (derivation_of f)) c.in_ok-wanted.ensures in
    subst (IsLayered subsumed) (sym same) (found-layered G p T f h)

pub returns-in_ok-whole-clause-pairs : goal.returns-in_ok-whole-clause-pairs
returns-in_ok-whole-clause-pairs c =
    let G = in_scope c.args.context.now in
    let p = reads c.args.p.now in
    let T = plain_type c.args.ty.now in
    let f = c.in_ok-found.found in
    let around = ap (λ ts. forms_of (reverse (map plain_type ts))) c.as_slice.ensures.members in
    let h = subst (λ H. IsFound H p f) around c.in_ok-found.ensures.ok in
    let same = c.in_ok-whole.ensures ∙ ap (λ A. sub A (derivation_of f)) c.in_ok-wanted.ensures in
    subst (HasAllPairs G p) (sym same) (found-pairs G p T f h)

pub returns-else-fits-clause-found : goal.returns-else-fits-clause-found
returns-else-fits-clause-found c =
    let G = in_scope c.args.context.now in
    let p = reads c.args.p.now in
    let T = plain_type c.args.ty.now in
    let f = c.in_ok-found.found in
    let around = ap (λ ts. forms_of (reverse (map plain_type ts))) c.as_slice.ensures.members in
    let h = subst (λ H. IsFound H p f) around c.in_ok-found.ensures.ok in (
      found-kept G p T f h,
      found-untyped G p T f h (plain_type c.in_ok-least.least) c.in_ok-least.ensures.made
          (λ low. never _ c.if-fits.false (c.in_ok-fits.ensures.1 low)),
      h.blame,
    )
