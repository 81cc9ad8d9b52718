use Rattle.std.proofs.Common.{rules}
use Rattle.std.proofs.lemmas.List.Sorted.{answers_always}
use Rattle.pe_shapes.proofs.PairOrder.{sorted-pairs}
use Rattle.pe_shapes.proofs.placing.placed_pairs.Goals as goal

pub returns-clause-rising : goal.returns-clause-rising
returns-clause-rising c =
    sorted-pairs _ (c.in_ok-sort_by_key.ensures.sorted (λ x. (x.node, x.shape)) (answers_always _ _ _ (λ f a r g called. search rules)))
