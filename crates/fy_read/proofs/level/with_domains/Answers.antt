use Rattle.std.proofs.Common.{map, sym, ap, ◌∙◌}
use Rattle.std.proofs.lemmas.List.{map_push}
use Rattle.fy_types.specs.declared.types.Ty.{Ty-F, fold-roll-Ty}
use Rattle.fy_types.specs.declared.types.Ty.TheVariants.{rolls-Arrow}
use Rattle.fy_types.specs.Types.{PlainType, PlainTypes}
use Rattle.fy_types.specs.Types as types
use Rattle.fy_types.specs.Reading.{plain_type, ty_step, types_step}
use Rattle.fy_read.specs.OpenTypes.{in_arrows}
use Rattle.fy_read.proofs.LevelLemmas.{in_arrows-push}
use Rattle.fy_read.proofs.level.with_domains.Goals as goal

pub loop-domain-preserved : goal.loop-domain-preserved
loop-domain-preserved c =
    let D = plain_type c.in-Some.domain in
    let A = plain_type c.loop-domain.whole in
    let rest = map plain_type c.pop.new.self.items in
    let made = ap plain_type (sym (rolls-Arrow c.in_ok-new.field-0 c.in_ok-new-2.field-0))
    ∙ fold-roll-Ty PlainType PlainTypes ty_step types_step (Ty-F.Arrow c.in_ok-new.field-0 c.in_ok-new-2.field-0) in
    ap (in_arrows rest) (made
    ∙ (ap (λ t. types.arrow (plain_type t) (plain_type c.in_ok-new-2.field-0.value)) c.in_ok-new.ensures.ok
    ∙ ap (λ t. types.arrow D (plain_type t)) c.in_ok-new-2.ensures.ok))
    ∙ (sym (in_arrows-push rest D A)
    ∙ (ap (λ Ds. in_arrows Ds A) (sym (ap (map plain_type) c.in-Some.ensures.items ∙ map_push plain_type c.pop.new.self.items c.in-Some.domain))
    ∙ c.loop-domain.invariant))
