use Rattle.std.proofs.Common.{◌≡◌, ◌≤◌, ◌<◌, true, false, length, sym, subst, ap, ◌∙◌, rules}
use Rattle.std.proofs.lemmas.Bool.{ltb-true, ltb-false, and_left, and_right, ne_eqb}
use Rattle.std.specs.List.Sorted.{IsPartitionPoint}
use Rattle.std.proofs.lemmas.List.Sorted.{IsPartitionPoint-from_clause}
use Rattle.pe_code.specs.Entries.{is_before, AreInOrder}
use Rattle.pe_code.specs.Code.{address_in}
use Rattle.pe_code.proofs.EntryLemmas.{partitioned-before}
use Rattle.pe_code.proofs.FoundLemmas.{address-found, address-other, address-past}
use Rattle.pe_code.proofs.lists.EntryList.address.Goals as goal
use Rattle.pe_code.proofs.lists.EntryList.address.Goals.{After-partition_point-place, else-entry-node-via-then-entry-node+else-entry-shape, else-entry-node-via-else-entry-node}

order : (c : After-partition_point-place) → AreInOrder c.as_slice-entries.result.now
order c = subst AreInOrder (sym c.as_slice-entries.ensures.value) c.self.invariant

point : (c : After-partition_point-place) → IsPartitionPoint (λ e. is_before c.args.node c.args.shape e ≡ true) (λ e. is_before c.args.node c.args.shape e ≡ false) c.as_slice-entries.result.now c.partition_point-place.result
point c = IsPartitionPoint-from_clause (is_before c.args.node c.args.shape) c.as_slice-entries.result.now c.partition_point-place.result c.partition_point-place.ensures.partitioned
    (partitioned-before c.args.node c.args.shape c.as_slice-entries.result.now (order c)) (λ a r q k. search rules)

-- what is found in the vector is found in the list
seen : (c : After-partition_point-place) → address_in c.as_slice-entries.result.now c.args.node c.args.shape ≡ address_in c.args.self.now c.args.node c.args.shape
seen c = ap (λ l. address_in l c.args.node c.args.shape) (c.as_slice-entries.ensures.value ∙ c.self.view_is)

pub returns-in_err-entry : goal.returns-in_err-entry
returns-in_err-entry c =
    let p = (goal.at.returns-in_err-entry c).After-partition_point-place in
    let past : length c.as_slice-entries.result.now ≤ c.partition_point-place.result = ltb-false _ _ (sym c.in_err-entry.ensures.lookup.0) in
    c.from_residual.ensures ∙ (sym (address-past c.args.node c.args.shape c.as_slice-entries.result.now c.partition_point-place.result past (point p).0) ∙ seen p)

pub returns-then-entry-shape : goal.returns-then-entry-shape
returns-then-entry-shape c =
    let p = (goal.at.returns-then-entry-shape c).After-partition_point-place in
    let within : c.partition_point-place.result < length c.as_slice-entries.result.now = ltb-true _ _ (sym c.in_ok-entry.ensures.lookup.0) in
    sym (address-found c.args.node c.args.shape c.as_slice-entries.result.now c.partition_point-place.result c.in_ok-entry.entry.now within c.in_ok-entry.ensures.lookup.1 (point p).0 c.if-entry-node.true c.if-entry-shape.true) ∙ seen p

pub returns : goal.returns
returns c =
    let p = (goal.at.returns c).After-partition_point-place in
    let within : c.partition_point-place.result < length c.as_slice-entries.result.now = ltb-true _ _ (sym c.in_ok-entry.ensures.lookup.0) in
    let e = c.in_ok-entry.entry.now in
    sym (address-other c.args.node c.args.shape c.as_slice-entries.result.now c.partition_point-place.result e (order p) within c.in_ok-entry.ensures.lookup.1 (point p).0 (point p).1
    (elim c.else-entry-node.branch [
      | else-entry-node-via-then-entry-node+else-entry-shape w ↦ and_right _ _ (ne_eqb e.shape c.args.shape w.if-entry-shape.false)
      | else-entry-node-via-else-entry-node w ↦ and_left _ _ (ne_eqb e.node c.args.node w.if-entry-node.false)
    ]))
    ∙ seen p
