use Rattle.std.proofs.Common.{◌≡◌, reverse, map, ap, ◌∙◌, refl}
use Rattle.std.proofs.lemmas.Result.{IfOk-weaker}
use Rattle.fy_phrase.specs.Reads.{reads}
use Rattle.fy_derive.specs.Placed.{placed}
use Rattle.fy_derive.specs.Reading.{plain_derivation}
use Rattle.fy_link.specs.Composed.{wanted, placed_unit}
use Rattle.fy_link.specs.Placing.{wanted_for}
use Rattle.fy_link.specs.Read.{owns_before, plain_named}
use Rattle.fy_link.specs.Units.{plain_unit}
use Rattle.fy_link.proofs.UnitLemmas.{imports-wanted}
use Rattle.fy_link.proofs.composed.placed_unit.Goals as goal

pub returns : goal.returns
returns c =
    let earlier = owns_before c.args.before.now in
    let imports = reverse (map plain_named c.args.unit.now.said.imports.items) in
    let d = plain_derivation c.args.unit.now.derivation in
    IfOk-weaker c.placed.result _ (λ made. plain_derivation made ≡ placed_unit earlier (plain_unit c.args.unit.now))
    (λ made e. e ∙ (ap (λ w. placed w (reads c.phrase.result.now) d)
    (imports-wanted _ _ c.in_ok-types.types.items earlier imports refl c.as_slice.ensures.value
    (c.in_ok-types.ensures ∙ ap (λ xs. map (wanted_for earlier) (reverse (map plain_named xs))) c.as_slice-imports.ensures.value))
    ∙ ap (λ p. placed (wanted imports earlier) p d) c.phrase.ensures))
    c.placed.ensures
