use Rattle.std.proofs.Common.{◌≡◌, Bool, List, sym, ap, ◌∙◌, subst}
use Rattle.fy_derive.specs.Least.{rests_of_call}
use Rattle.fy_order.specs.Demands.{takes}
use Rattle.fy_types.specs.Limits.{IsWithinLimits}
use Rattle.fy_types.specs.Once.{once}
use Rattle.fy_types.specs.Paths.{PlainPaths}
use Rattle.fy_types.specs.Reading.{plain_paths}
use Rattle.fy_memo.proofs.BaseLemmas.{rests-alike}
use Rattle.fy_memo.proofs.memo.Memo.keep_rests.Goals as goal

-- The rests of an argument are those of a base that the same paths take.
rests-of-base : (bs : List Bool) (A B P Q R S : PlainPaths) → bs ≡ takes A P → bs ≡ takes B P → Q ≡ P → S ≡ R →
    R ≡ once (rests_of_call A P) → S ≡ once (rests_of_call B Q)
rests-of-base bs A B P Q R S a b q s r =
    s ∙ (r ∙ (ap once (rests-alike A B P (sym a ∙ b)) ∙ ap (λ X. once (rests_of_call B X)) (sym q)))

pub new-known-requires-clause-rests : goal.new-known-requires-clause-rests
new-known-requires-clause-rests c =
    rests-of-base c.args.taken.items (plain_paths c.args.pair.0.now) (plain_paths c.in_ok-base.base) (plain_paths c.args.pair.1.now)
    (plain_paths c.in_ok-procedure.procedure) (plain_paths c.args.rests.now) (plain_paths c.in_ok-rests.rests)
    c.requires.taken (sym c.as_slice.ensures.value ∙ c.in_ok-base.ensures) c.in_ok-procedure.ensures c.in_ok-rests.ensures
    c.requires.rests

pub new-known-requires-clause-within : goal.new-known-requires-clause-within
new-known-requires-clause-within c = subst IsWithinLimits (sym (c.in_ok-rests.ensures ∙ c.requires.rests)) c.requires.within
