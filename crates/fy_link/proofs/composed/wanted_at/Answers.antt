use Rattle.std.proofs.Common.{sym, ap, ◌∙◌}
use Rattle.fy_link.specs.Placing.{plain_optional, joined_option}
use Rattle.fy_link.proofs.PlacingLemmas.{map-at, map-past, wanted-imports}
use Rattle.fy_link.proofs.composed.wanted_at.Goals as goal

pub returns-then-place-types : goal.returns-then-place-types
returns-then-place-types c =
    sym (ap plain_optional c.index-types-place.is)
    ∙ (sym (ap joined_option (map-at plain_optional c.in-Imports.types.now c.loop-rest.left c.index-types-place.result c.if-place-types.true c.index-types-place.is))
    ∙ (ap (λ w. w c.loop-rest.left) (sym (wanted-imports _ _ c.in-Imports.is)) ∙ c.loop-rest.invariant))

pub returns-in-Imports : goal.returns-in-Imports
returns-in-Imports c =
    sym (ap joined_option (map-past plain_optional c.in-Imports.types.now c.loop-rest.left c.if-place-types.false))
    ∙ (ap (λ w. w c.loop-rest.left) (sym (wanted-imports _ _ c.in-Imports.is)) ∙ c.loop-rest.invariant)
