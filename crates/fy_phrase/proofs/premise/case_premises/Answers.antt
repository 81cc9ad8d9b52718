use Rattle.std.proofs.Common.{◌∷◌, [], ◌++◌, map, take, ap, ◌∙◌}
use Rattle.std.proofs.lemmas.List.{map_push}
use Rattle.fy_phrase.specs.Reads.{reads, trees_from}
use Rattle.fy_phrase.specs.Premises.{nothing, of_parts, plain_binder, premise_shown}
use Rattle.fy_phrase.proofs.ListLemmas.{of_parts-more}
use Rattle.fy_phrase.proofs.premise.case_premises.Goals as goal

pub loop-part-preserved : goal.loop-part-preserved
loop-part-preserved c =
    let items = c.as_slice-part-items.result.now in
    let i = c.loop-part.part-index in
    let x = c.part-item.result in
    let P = c.plain-in-loop-part.result in
    ap (map premise_shown) c.in_ok-push-2.ensures.items
    ∙ (map_push premise_shown c.loop-part.all.items P
    ∙ (ap (λ Qs. Qs ++ premise_shown P ∷ []) c.loop-part.invariant
    ∙ (ap (λ Q. ((nothing, reads c.args.e.now) ∷ of_parts (trees_from (map reads (take i items)))) ++ Q ∷ [])
    (ap (λ b. (plain_binder b, reads P.part.now)) c.plain-in-loop-part.ensures.0 ∙ ap (λ q. (nothing, q)) c.plain-in-loop-part.ensures.1)
    ∙ ap (λ Qs. (nothing, reads c.args.e.now) ∷ Qs) (of_parts-more items i x c.loop-part-test.true c.part-item.is))))
