use Rattle.std.proofs.Common.{length, arith, sym, ◌∙◌}
use Rattle.std.proofs.lemmas.Bool.{eqb-true, eqb-false}
use Rattle.fy_image.proofs.Judging.{end_good, end_bad}
use Rattle.fy_image.proofs.fields.Fields.end.Goals as goal

pub returns-then-is_empty-clause-judged : goal.returns-then-is_empty-clause-judged
returns-then-is_empty-clause-judged c =
    rw (← c.self.view_is) (end_good c.self.inside.rest.now (eqb-true (length c.self.inside.rest.now) 0 (sym c.is_empty.ensures ∙ c.if-is_empty.true)))

pub returns-else-is_empty-clause-judged : goal.returns-else-is_empty-clause-judged
returns-else-is_empty-clause-judged c =
    let none = eqb-false (length c.self.inside.rest.now) 0 (sym c.is_empty.ensures ∙ c.if-is_empty.false) in
    rw (← c.self.view_is) (end_bad c.self.inside.rest.now (omega arith))
