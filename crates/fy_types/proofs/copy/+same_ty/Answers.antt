use Rattle.std.proofs.Common.{sym, ◌∙◌}
use Rattle.std.proofs.lemmas.List.{length-map}
use Rattle.fy_types.specs.Reading.{plain_type}
use Rattle.fy_types.proofs.ReadLemmas.{types_from-length}
use Rattle.fy_types.proofs.copy.+same_ty.Goals as goal

pub same_list-returns-then-xs-ys : goal.same_list-returns-then-xs-ys
same_list-returns-then-xs-ys t c = (
  λ r. cc,
  λ h. absurd (c.if-xs-ys.true (sym (length-map c.as_slice-xs.result.now plain_type)
      ∙ (types_from-length _ _ (rw (c.as_slice-xs.ensures.reading, c.as_slice-ys.ensures.reading) at h)
      ∙ length-map c.as_slice-ys.result.now plain_type))),
)
