use Rattle.fy_lexer.proofs.UniqueLemmas.{tokens_same, faults_same, tokens_or_fault}
use Rattle.fy_lexer.proofs.laws.tokens_are_unique.Goals as goal

pub returns-clause-tokens : goal.returns-clause-tokens
returns-clause-tokens c names text tokens others after last h k = tokens_same names text tokens others after last h k

pub returns-clause-fault : goal.returns-clause-fault
returns-clause-fault c names text error other m n h k = faults_same names text error other m n h k

pub returns-clause-apart : goal.returns-clause-apart
returns-clause-apart c names text tokens after error m h w k = tokens_or_fault names text tokens after error m h w k
