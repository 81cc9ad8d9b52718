use Rattle.std.proofs.lemmas.Option.{MatchOption-at_some}
use Rattle.pe_gen.proofs.BegunLemmas.{some-from}
use Rattle.pe_gen.proofs.plan.Plan.number_of.Goals as goal

pub unwrap-requires : goal.unwrap-requires
unwrap-requires c = some-from c.number_of_step.result _ _ c.number_of_step.ensures (λ none. none c.requires.there.0 c.requires.there.1)

pub returns : goal.returns
returns c = MatchOption-at_some _ _ c.unwrap.result c.unwrap.ensures c.number_of_step.ensures
