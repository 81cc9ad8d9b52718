use Rattle.std.proofs.Common.{◌++◌, map, ap, ◌∙◌}
use Rattle.std.proofs.lemmas.List.{append-nil}
use Rattle.fy_phrase.specs.Reads.{reads}
use Rattle.pe_gen.specs.Preorder.{preorder, seen, seen_back}
use Rattle.pe_gen.proofs.SeenLemmas.{map-reverse}
use Rattle.pe_gen.proofs.listing.nodes_of.Goals as goal

pub returns : goal.returns
returns c =
    ap (map seen) c.reverse.ensures.items
    ∙ (map-reverse seen c.add_nodes.new.nodes.items
    ∙ (c.in_ok-add_nodes.ensures.listed
    ∙ (ap (λ xs. preorder 0 (reads c.args.p.now) ++ seen_back xs) c.new-nodes.ensures.items ∙ append-nil (preorder 0 (reads c.args.p.now)))))
