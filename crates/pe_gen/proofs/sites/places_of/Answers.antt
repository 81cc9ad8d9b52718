use Rattle.std.proofs.Common.{get_or, ap, ◌∙◌}
use Rattle.indexmap.specs.IndexSet.{insert_key}
use Rattle.pe_gen.specs.Sites.{pair}
use Rattle.pe_gen.proofs.KeyLists.{insert-next}
use Rattle.pe_gen.proofs.KeyTests.{same_pair, same_pair-true, same_pair-refl}
use Rattle.pe_gen.proofs.sites.places_of.Goals as goal

pub loop-pair-preserved : goal.loop-pair-preserved
loop-pair-preserved c =
    let i = c.loop-pair.pair-index in
    let x = get_or c.args.pairs.now i (pair 0 0) in
    c.in_ok-insert.ensures.keys
    ∙ (ap (λ ks. insert_key same_pair ks x) c.loop-pair.invariant
    ∙ insert-next same_pair same_pair-true same_pair-refl c.args.pairs.now i (pair 0 0) c.requires c.loop-pair-test.true)
