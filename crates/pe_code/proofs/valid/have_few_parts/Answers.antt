use Rattle.std.proofs.lemmas.Bool.{both_ways}
use Rattle.pe_code.proofs.valid.have_few_parts.Goals as goal

pub returns-then-are_few_parts : goal.returns-then-are_few_parts
returns-then-are_few_parts c = (λ t. (c.are_few_parts.ensures.0 c.if-are_few_parts.true, c.run_few_parts.ensures.0 t), λ few. c.run_few_parts.ensures.1 few.1)

pub returns-else-are_few_parts : goal.returns-else-are_few_parts
returns-else-are_few_parts c = (λ t. absurd (both_ways _ c.if-are_few_parts.false t), λ few. c.are_few_parts.ensures.1 few.0)
