use Rattle.std.proofs.Common.{sym}
use Rattle.fy_forms.proofs.fresh.is_met.Goals as goal

pub returns-then-place-found : goal.returns-then-place-found
returns-then-place-found c =
    λ t. (c.index-found-place.result, (c.in-Some.place.now, c.if-place-found.true, sym c.index-found-place.is), c.is_again.ensures t)
