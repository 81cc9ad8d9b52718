use Rattle.fy_expand.proofs.PhraseLemmas.{judged-limits, judged-full, judged-names, judged-names_from}
use Rattle.fy_expand.proofs.laws.judged_phrases_are_named.Goals as goal

pub returns-clause-limits : goal.returns-clause-limits
returns-clause-limits c text phrase h = judged-limits text phrase h

pub returns-clause-full_types : goal.returns-clause-full_types
returns-clause-full_types c text phrase h = judged-full text phrase h

pub returns-clause-names : goal.returns-clause-names
returns-clause-names c text phrase tokens names h k = judged-names text phrase tokens names h k

pub returns-clause-names_from : goal.returns-clause-names_from
returns-clause-names_from c = judged-names_from
