use Rattle.fy_tool.proofs.texts.program_from.Goals as goal

pub returns-in-Err-Refused-clause-checked : goal.returns-in-Err-Refused-clause-checked
returns-in-Err-Refused-clause-checked c = rw c.in-Err-Refused.field-0-is at c.in-Err-Refused.ensures.refused
