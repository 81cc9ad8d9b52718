use Rattle.std.proofs.Common.{◌≡◌, ◌≤◌, true, false, ltb, leb, eqb, filter, sym, subst, ap, ◌∙◌, rules}
use Rattle.std.specs.List.Sorted.{IsPartitionPoint}
use Rattle.std.proofs.lemmas.List.Sorted.{IsPartitionPoint-from_clause, IsPartitionedBy-leb, IsPartitionedBy-ltb}
use Rattle.pe_code.specs.Entries.{AreInOrder}
use Rattle.pe_code.proofs.FoundLemmas.{node-order, node-bounds, node-filter}
use Rattle.pe_code.proofs.lists.EntryList.of_node.Goals as goal
use Rattle.pe_code.proofs.lists.EntryList.of_node.Goals.{After-partition_point-end}

order : (c : After-partition_point-end) → AreInOrder c.as_slice-entries.result.now
order c = subst AreInOrder (sym c.as_slice-entries.ensures.value) c.self.invariant

low : (c : After-partition_point-end) → IsPartitionPoint (λ e. ltb e.node c.args.node ≡ true) (λ e. ltb e.node c.args.node ≡ false) c.as_slice-entries.result.now c.partition_point-start.result
low c = IsPartitionPoint-from_clause (λ e. ltb e.node c.args.node) c.as_slice-entries.result.now c.partition_point-start.result c.partition_point-start.ensures.partitioned
    (IsPartitionedBy-ltb (λ e. e.node) c.as_slice-entries.result.now c.args.node (node-order c.as_slice-entries.result.now (order c))) (λ a r q k. search rules)

high : (c : After-partition_point-end) → IsPartitionPoint (λ e. leb e.node c.args.node ≡ true) (λ e. leb e.node c.args.node ≡ false) c.as_slice-entries.result.now c.partition_point-end.result
high c = IsPartitionPoint-from_clause (λ e. leb e.node c.args.node) c.as_slice-entries.result.now c.partition_point-end.result c.partition_point-end.ensures.partitioned
    (IsPartitionedBy-leb (λ e. e.node) c.as_slice-entries.result.now c.args.node (node-order c.as_slice-entries.result.now (order c))) (λ a r q k. search rules)

bounds : (c : After-partition_point-end) → c.partition_point-start.result ≤ c.partition_point-end.result
bounds c = node-bounds c.as_slice-entries.result.now c.args.node c.partition_point-start.result c.partition_point-end.result c.partition_point-start.ensures.bound (low c) (high c)

pub slice_bounds-result-count : goal.slice_bounds-result-count
slice_bounds-result-count c = bounds c

pub slice_bounds-result-start : goal.slice_bounds-result-start
slice_bounds-result-start c = let b = bounds c in search (rules, b)

pub returns : goal.returns
returns c =
    let p = (goal.at.returns c).After-partition_point-end in
    node-filter c.as_slice-entries.result.now c.args.node c.partition_point-start.result c.partition_point-end.result (bounds p) c.partition_point-end.ensures.bound (low p) (high p)
    ∙ ap (filter (λ e. eqb e.node c.args.node)) (c.as_slice-entries.ensures.value ∙ c.self.view_is)
