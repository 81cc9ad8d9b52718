use Rattle.fy_tool.proofs.texts.core_from.Goals as goal

pub returns-in-Err-Refused-clause-core : goal.returns-in-Err-Refused-clause-core
returns-in-Err-Refused-clause-core c = rw c.in-Err-Refused.field-0-is at c.in-Err-Refused.ensures.refused
