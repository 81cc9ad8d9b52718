use Rattle.std.proofs.Common.{◌+◌, [], ◌∷◌, ◌++◌, map, drop, sym, ap, ◌∙◌, subst}
use Rattle.std.proofs.lemmas.List.{append-nil, append_assoc}
use Rattle.fy_types.proofs.Steps.{drop_item, drop_end}
use Rattle.fy_phrase.specs.Reads.{reads, reads_parts, trees_from}
use Rattle.pe_gen.specs.Plan.{AreDue, EachEntersIn}
use Rattle.pe_gen.proofs.InsnLemmas.{one-address, no-addresses}
use Rattle.pe_gen.proofs.items.entries_of_all.Goals as goal

pub loop-preserved : goal.loop-preserved
loop-preserved c =
    let plan = c.args.plan.now in
    let items = c.as_slice-items.result.now in
    let i = c.loop.index in
    let part = reads c.loop-item.result in
    let rest = trees_from (map reads (drop (i + 1) items)) in
    let more = drop_item reads items i c.loop-item.result c.loop-test.true c.loop-item.is in
    let inv = c.loop.invariant in
    let due = subst (λ ts. AreDue plan c.loop.number (trees_from ts) inv.left.0) more inv.left.2 in
    let behind = c.behind-number.ensures part due.0.0 in
    record {
      left = (inv.left.0, inv.left.1, subst (λ m. AreDue plan m rest inv.left.0) (sym behind) due.1);
      done = λ s is ys each.
          subst (λ xs. EachEntersIn plan c.args.first (reads_parts c.args.parts.now) s xs)
          (sym (ap (λ xs. xs ++ ys) c.in_ok-push.ensures.ok ∙ append_assoc c.loop.addresses (c.entry_at.result ∷ []) ys))
          (inv.done s is (c.entry_at.result ∷ ys)
          (subst (λ ts. EachEntersIn plan c.loop.number (trees_from ts) s (c.entry_at.result ∷ ys)) (sym more)
          (one-address plan c.loop.number c.behind-number.result part rest s c.entry_at.result ys behind (c.entry_at.ensures s is) each)));
    }

pub returns : goal.returns
returns c = λ s is.
    let plan = c.args.plan.now in
    let none = drop_end reads c.as_slice-items.result.now c.loop.index c.loop-test.false in
    subst (λ xs. EachEntersIn plan c.args.first (reads_parts c.args.parts.now) s xs) (append-nil c.loop.addresses)
    (c.loop.invariant.done s is []
    (subst (λ ts. EachEntersIn plan c.loop.number (trees_from ts) s []) (sym none) (no-addresses plan c.loop.number s)))
