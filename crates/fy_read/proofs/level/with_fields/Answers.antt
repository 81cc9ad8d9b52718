use Rattle.std.proofs.Common.{sym, ap, ◌∙◌}
use Rattle.fy_types.specs.declared.types.Ty.{Ty-F, fold-roll-Ty}
use Rattle.fy_types.specs.declared.types.Ty.TheVariants.{rolls-Field}
use Rattle.fy_types.specs.Types.{PlainType, PlainTypes}
use Rattle.fy_types.specs.Types as types
use Rattle.fy_types.specs.Reading.{plain_type, ty_step, types_step}
use Rattle.fy_read.specs.OpenTypes.{in_fields}
use Rattle.fy_read.proofs.LevelLemmas.{in_fields-push}
use Rattle.fy_read.proofs.level.with_fields.Goals as goal

pub loop-name-preserved : goal.loop-name-preserved
loop-name-preserved c =
    let i = c.in-Some.name in
    let A = plain_type c.loop-name.whole in
    let made = ap plain_type (sym (rolls-Field i c.in_ok-new.field-0))
    ∙ fold-roll-Ty PlainType PlainTypes ty_step types_step (Ty-F.Field i c.in_ok-new.field-0) in
    ap (in_fields c.pop.new.self.items) (made ∙ ap (λ t. types.field i (plain_type t)) c.in_ok-new.ensures.ok)
    ∙ (sym (in_fields-push c.pop.new.self.items i A) ∙ (ap (λ is. in_fields is A) (sym c.in-Some.ensures.items) ∙ c.loop-name.invariant))
