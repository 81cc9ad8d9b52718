use Rattle.std.proofs.Common.{◌+◌, sym, ap, ◌∙◌, arith}
use Rattle.fy_phrase.specs.Sizes.{nodes}
use Rattle.pe_gen.specs.declared.nodes.Node.{Node}
use Rattle.pe_gen.specs.Preorder.{seen}
use Rattle.pe_gen.proofs.Gets.{some_same, pair_second}
use Rattle.pe_gen.proofs.NodeLists.{listed-range}
use Rattle.pe_gen.proofs.SeenLemmas.{seen-at}
use Rattle.std.proofs.lemmas.List.{length-map}
use Rattle.pe_gen.proofs.listing.number_behind.Goals as goal

pub overflow_add-result : goal.overflow_add-result
overflow_add-result c =
    let n = c.index-nodes-number.result in
    let at = seen-at c.args.nodes.now c.args.number n c.requires.listed c.index-nodes-number.is in
    let range = listed-range c.requires.listing.0 _ c.requires.listing.1 c.args.number _ _ at in
    omega (arith, range, n.sized, ap (λ (x : Node). x.size) c.index-nodes-number.is, c.requires.few, length-map c.args.nodes.now seen)

pub returns : goal.returns
returns c = λ d q at.
    let n = c.index-nodes-number.result in
    let here = seen-at c.args.nodes.now c.args.number n c.requires.listed c.index-nodes-number.is in
    let same = pair_second (some_same (sym here ∙ at)) in
    ap (λ k. c.args.number + k) (sym (ap (λ (x : Node). x.size) c.index-nodes-number.is) ∙ (n.sized ∙ ap nodes same))
