use Rattle.std.proofs.Common.{length, sym, ap, ◌∙◌, arith}
use Rattle.std.proofs.lemmas.List.{length_push}
use Rattle.fy_types.specs.Paths.{paths}
use Rattle.fy_derive.specs.Kinds.{none_begins}
use Rattle.fy_derive.specs.Clear.{has_none}
use Rattle.fy_derive.specs.Standing.{plain_kind}
use Rattle.fy_derive.specs.Shown.{shown}
use Rattle.fy_derive.proofs.ClearLemmas.{AreEmpty-push, AreClear-push}
use Rattle.fy_derive.proofs.kind.none_begins.Goals as goal

pub loop-k-preserved : goal.loop-k-preserved
loop-k-preserved c =
    let t = c.args.table.now in
    let kind = plain_kind c.args.demand in
    let inv = c.loop-k.invariant in
    record {
      sizes = omega (arith, ap length c.in_ok-push-2.ensures.items, length_push c.loop-k.empty.items c.is_node_empty.result, inv.sizes);
      sizes_too = omega (arith, ap length c.in_ok-push.ensures.items, length_push c.loop-k.clear.items c.is_node_clear.result, inv.sizes_too);
      empty = AreEmpty-push t c.loop-k.empty.items c.push-in-loop-k.new.self.items c.is_node_empty.result inv.empty
          (c.is_node_empty.ensures ∙ (ap (λ A. has_none (paths A)) (sym c.node-node.ensures.stands) ∙ ap (λ n. has_none (paths (shown t n))) (sym inv.sizes)))
          c.in_ok-push-2.ensures.items;
      clear = AreClear-push kind t c.loop-k.clear.items c.push.new.self.items c.is_node_clear.result inv.clear
          (c.is_node_clear.ensures ∙ (ap (λ A. none_begins kind (paths A)) (sym c.node-node.ensures.stands) ∙ ap (λ n. none_begins kind (paths (shown t n))) (sym inv.sizes_too)))
          c.in_ok-push.ensures.items;
    }
