use Rattle.fy_expand.proofs.JudgedLemmas.{one_phrase, phrase_or_refusal, one_refusal, judged_one_way}
use Rattle.fy_expand.proofs.laws.texts_are_judged_one_way.Goals as goal

pub returns-clause-phrase : goal.returns-clause-phrase
returns-clause-phrase c text phrase other h k = one_phrase text phrase other h k

pub returns-clause-apart : goal.returns-clause-apart
returns-clause-apart c text phrase why h k = phrase_or_refusal text phrase why h k

pub returns-clause-refusal : goal.returns-clause-refusal
returns-clause-refusal c text why other h k = one_refusal text why other h k

pub returns-clause-from : goal.returns-clause-from
returns-clause-from c = judged_one_way
