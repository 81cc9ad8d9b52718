use Rattle.rv_select.proofs.further_blocks.add_further.Goals as goal

pub returns-in-1-number : goal.returns-in-1-number
returns-in-1-number c = rw (c.in-Case.is, c.in-1-number.is, ← c.len.ensures) c.add_case.ensures
