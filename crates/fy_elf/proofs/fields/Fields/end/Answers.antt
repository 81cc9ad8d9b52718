use Rattle.std.proofs.Common.{◌<◌, length, arith, sym, ◌∙◌}
use Rattle.std.proofs.lemmas.Bool.{eqb-true, eqb-false}
use Rattle.fy_elf.proofs.Judging.{end_good, end_bad}
use Rattle.fy_elf.proofs.fields.Fields.end.Goals as goal

pub returns-then-is_empty-clause-judged : goal.returns-then-is_empty-clause-judged
returns-then-is_empty-clause-judged c =
    let none = eqb-true (length c.self.inside.rest.now) 0 (sym c.is_empty.ensures ∙ c.if-is_empty.true) in
    rw (← c.self.view_is) (end_good _ none)

pub returns-else-is_empty-clause-judged : goal.returns-else-is_empty-clause-judged
returns-else-is_empty-clause-judged c =
    let none = eqb-false (length c.self.inside.rest.now) 0 (sym c.is_empty.ensures ∙ c.if-is_empty.false) in
    let some : 0 < length c.self.inside.rest.now = omega arith in
    rw (← c.self.view_is) (end_bad _ some)
