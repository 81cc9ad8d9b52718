use Rattle.std.proofs.Common.{get_or, sym, subst, ◌∙◌, arith, below_more}
use Rattle.std.proofs.lemmas.List.{get_or_default}
use Rattle.fy_types.specs.Reading.{plain_path, plain_paths}
use Rattle.fy_forms.specs.Keys.{StandsAt}
use Rattle.fy_forms.proofs.kept.is_at_some.Goals as goal

pub loop-place-preserved : goal.loop-place-preserved
loop-place-preserved c =
    let P = plain_paths c.args.list.now in
    let p = plain_path c.args.path.now in
    below_more (λ j. StandsAt P (get_or c.args.places.now j 0) p → ⊥) c.loop-place.place-index c.loop-place.invariant
    (λ stands. let t = c.stands_at.ensures.1 stands in let f = c.if-stands_at.false in absurd (cc))

pub returns : goal.returns
returns c =
    let P = plain_paths c.args.list.now in
    let p = plain_path c.args.path.now in (
      (λ t. absurd (cc)),
      (λ some. absurd (c.loop-place.invariant some.1.0 (omega (arith, some.1.1, c.loop-place-test.false))
          (subst (λ k. StandsAt P k p) (sym (get_or_default c.args.places.now some.1.0 0 some.0 some.1.1 ∙ some.1.2)) some.2))),
    )
