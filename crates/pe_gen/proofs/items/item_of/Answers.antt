use Rattle.std.proofs.Common.{sym, ap, ◌∙◌, subst, arith}
use Rattle.std.proofs.lemmas.List.{length-map}
use Rattle.fy_phrase.specs.Tree.{place_of}
use Rattle.pe_gen.specs.Plan.{nodes_in}
use Rattle.pe_gen.specs.Preorder.{seen}
use Rattle.pe_right.specs.Constants.{no_data}
use Rattle.pe_right.specs.Right.{IsInsnOf}
use Rattle.pe_gen.proofs.Gets.{some_same, pair_first, pair_second, get-within}
use Rattle.pe_gen.proofs.SeenLemmas.{seen-at}
use Rattle.pe_gen.proofs.items.item_of.Goals as goal

pub returns : goal.returns
returns c = λ d p s at is code same.
    let plan = c.args.plan.now in
    let n = c.index-node.result.now in
    let within = get-within (nodes_in plan) c.args.site.node _ c.requires.site.listed.1 in
    let here = seen-at plan.nodes.items c.args.site.node n (omega (arith, within, length-map plan.nodes.items seen)) c.index-node.ensures in
    let both = some_same (sym here ∙ at) in
    record {
      insn = subst (λ q. IsInsnOf no_data plan.table.now code c.args.site.node q s c.in_ok-insn.insn) (pair_second both) (c.in_ok-insn.ensures s is code same);
      depth = pair_first both;
      place = c.place.ensures ∙ ap place_of (pair_second both);
    }
