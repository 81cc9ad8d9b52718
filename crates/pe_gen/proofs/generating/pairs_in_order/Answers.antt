use Rattle.std.proofs.Common.{rules}
use Rattle.std.proofs.lemmas.List.Sorted.{answers_always}
use Rattle.pe_gen.proofs.OrderLemmas.{rising-nodes, sorted-pairs}
use Rattle.pe_gen.proofs.generating.pairs_in_order.Goals as goal

pub returns-clause-ordered : goal.returns-clause-ordered
returns-clause-ordered c =
    rising-nodes _ (c.in_ok-sort_by_key.ensures.sorted (λ x. (x.node, x.shape)) (answers_always _ _ _ (λ f a r g called. search rules)))

pub returns-clause-rising : goal.returns-clause-rising
returns-clause-rising c =
    sorted-pairs _ (c.in_ok-sort_by_key.ensures.sorted (λ x. (x.node, x.shape)) (answers_always _ _ _ (λ f a r g called. search rules)))
