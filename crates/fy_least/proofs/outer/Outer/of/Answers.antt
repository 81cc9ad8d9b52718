use Rattle.std.proofs.Common.{◌≡◌, true, Option, Result, Ok, Err, refl, sym, ap, ◌∙◌, subst}
use Rattle.std.specs.Prelude.{IfOk}
use Rattle.std.specs.Result.{result_ok}
use Rattle.fy_types.specs.declared.paths.Paths.{Paths}
use Rattle.fy_types.specs.Once.{are_same, once}
use Rattle.fy_types.specs.Paths.{paths}
use Rattle.fy_types.specs.Reading.{plain_paths, plain_type}
use Rattle.fy_types.specs.Types.{PlainType}
use Rattle.fy_memo.proofs.EachLemmas.{same-itself}
use Rattle.fy_least.specs.declared.error.LeastError.{LeastError}
use Rattle.fy_least.specs.Outers.{has_once}
use Rattle.fy_least.proofs.outer.Outer.of.Goals as goal

pub invariant_of-result : goal.invariant_of-result
invariant_of-result c =
    let is = c.in_ok-paths.ensures ∙ (c.each.ensures ∙ ap once c.in-Ok.ensures.ok) in
    record { right = subst (λ P. are_same P (once (paths (plain_type c.args.ty.now))) ≡ true) (sym is) (same-itself (once (paths (plain_type c.args.ty.now)))) }

-- what was made, if anything was, is right
made : (A : PlainType) (r : Result Paths LeastError) (o : Option Paths) → o ≡ result_ok r →
    IfOk r (λ p. plain_paths p ≡ once (paths A)) → has_once o A ≡ true
made A (Ok p) o e h =
    subst (λ x. has_once x A ≡ true) (sym e) (subst (λ P. are_same P (once (paths A)) ≡ true) (sym h) (same-itself (once (paths A))))
made A (Err x) o e h = subst (λ x. has_once x A ≡ true) (sym e) refl

pub invariant_of-result-2 : goal.invariant_of-result-2
invariant_of-result-2 c = record { right = made (plain_type c.args.ty.now) c.once_in.result c.ok.result c.ok.ensures.value c.once_in.ensures.ok }
