use Rattle.std.proofs.Common.{sym, ap, ◌∙◌}
use Rattle.fy_types.specs.Reading.{plain_type}
use Rattle.fy_link.specs.Placing.{plain_optional}
use Rattle.fy_types.proofs.Steps.{not_so}
use Rattle.fy_link.proofs.UnitLemmas.{not-wanted, is-wanted}
use Rattle.fy_link.proofs.composed.wanted_type.Goals as goal

pub returns-then-same_ty : goal.returns-then-same_ty
returns-then-same_ty c =
    not-wanted _ (plain_type c.in-Some.ty.now) (plain_type c.args.import.now.ty) (sym c.type_named.ensures ∙ ap plain_optional c.in-Some.is)
    (c.same_ty.ensures.0 c.if-same_ty.true)

pub returns-else-same_ty : goal.returns-else-same_ty
returns-else-same_ty c =
    is-wanted _ (plain_type c.in-Some.ty.now) (plain_type c.args.import.now.ty) (sym c.type_named.ensures ∙ ap plain_optional c.in-Some.is)
    (not_so c.if-same_ty.false c.same_ty.ensures.1)
