use Rattle.std.proofs.Common.{map, get_or, sym, ap, ◌∙◌}
use Rattle.std.proofs.lemmas.Option.{slice_get-get_or}
use Rattle.fy_phrase.specs.Reads.{reads}
use Rattle.pe_gen.specs.declared.nodes.Node.{Node}
use Rattle.pe_gen.specs.Preorder.{seen}
use Rattle.pe_gen.specs.Sites.{is_merge as is_merge_of, pair}
use Rattle.pe_gen.proofs.KeyTests.{same_pair, same_pair-true, same_pair-refl}
use Rattle.pe_gen.proofs.SeenLemmas.{seen-at}
use Rattle.pe_gen.proofs.SiteLists.{next-site, no-site, all-sites}
use Rattle.pe_gen.proofs.sites.sites_of.Goals as goal
use Rattle.pe_gen.proofs.sites.sites_of.Goals.{then-not-is_merge+in_ok-insert-2, else-not-is_merge}

pub loop-pair-preserved : goal.loop-pair-preserved
loop-pair-preserved c =
    let i = c.loop-pair.pair-index in
    let x = get_or c.args.pairs.now i (pair 0 0) in
    let at = slice_get-get_or c.args.pairs.now i (pair 0 0) c.loop-pair-test.true in
    let n = c.index-nodes-pair.result in
    let here = seen-at c.args.nodes.now x.node n (c.requires.within i x at) c.index-nodes-pair.is in
    let test = c.is_merge.ensures ∙ ap (λ (y : Node). is_merge_of (reads y.phrase.now)) (sym c.index-nodes-pair.is) in
    elim c.if-not-is_merge.branch [
      | then-not-is_merge+in_ok-insert-2 w ↦
          let k = w.sites-is in
          let m = w.in_ok-insert-2.ensures.keys in
          rw (k, m)
          (next-site (map seen c.args.nodes.now) c.args.pairs.now c.args.program same_pair same_pair-true same_pair-refl c.requires.ordered i c.loop-pair.sites.keys x c.loop-pair.invariant at
          (reads n.phrase.now, (n.depth, here), sym test ∙ w.if-not-is_merge.true))
      | else-not-is_merge w ↦
          let k = w.sites-is in
          rw k
          (no-site (map seen c.args.nodes.now) c.args.pairs.now c.args.program i c.loop-pair.sites.keys x n.depth (reads n.phrase.now) c.loop-pair.invariant at here
          (sym test ∙ w.if-not-is_merge.false))
    ]

pub returns : goal.returns
returns c = all-sites (map seen c.args.nodes.now) c.args.pairs.now c.args.program c.loop-pair.pair-index c.loop-pair.sites.keys c.loop-pair.invariant c.loop-pair-test.false
