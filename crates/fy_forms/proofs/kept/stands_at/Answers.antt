use Rattle.std.proofs.Common.{sym, subst, arith}
use Rattle.std.proofs.lemmas.Bool.{ltb-true}
use Rattle.fy_types.specs.Reading.{plain_path, plain_paths}
use Rattle.fy_forms.specs.Keys.{StandsAt}
use Rattle.fy_forms.proofs.KeyLemmas.{stands-member, stands-once, stands-within}
use Rattle.fy_forms.proofs.kept.stands_at.Goals as goal

pub returns-then-place-members : goal.returns-then-place-members
returns-then-place-members c =
    let P = plain_paths c.args.list.now in
    let member = plain_path c.index-members-place.result in
    let at = subst (λ Q. StandsAt Q c.args.place member) (sym c.as_slice-members.ensures.reading)
    (stands-member c.as_slice-members.result.now c.args.place c.index-members-place.result c.if-place-members.true c.index-members-place.is) in (
      (λ t. subst (StandsAt P c.args.place) (c.is_same_path.ensures.0 t) at),
      (λ stands. c.is_same_path.ensures.1 (stands-once P c.args.place member (plain_path c.args.path.now) at stands)),
    )

pub returns-else-place-members : goal.returns-else-place-members
returns-else-place-members c = (
  (λ t. absurd (omega (arith, ltb-true _ _ t, c.if-place-members.false))),
  (λ stands. let within = stands-within c.as_slice-members.result.now c.args.place (plain_path c.args.path.now)
      (subst (λ Q. StandsAt Q c.args.place (plain_path c.args.path.now)) c.as_slice-members.ensures.reading stands) in
      absurd (omega (arith, within, c.if-place-members.false))),
)
