use Rattle.std.proofs.Common.{not, sym, ◌∙◌, arith, rules}
use Rattle.std.proofs.lemmas.Bool.{not-true, not-false}
use Rattle.std.proofs.lemmas.List.Sorted.{IsPartitionPoint-from_clause}
use Rattle.pe_code.specs.Entries.{is_before}
use Rattle.pe_code.proofs.EntryLemmas.{after-all, partitioned-after}
use Rattle.pe_code.proofs.lists.place_of.Goals as goal

pub returns-then-not-is_before-clause-splits : goal.returns-then-not-is_before-clause-splits
returns-then-not-is_before-clause-splits c = (
  after-all c.args.item c.args.entries.now c.in-Some.last.now c.requires (sym c.in-Some.ensures.value) (sym c.is_before.ensures ∙ c.if-not-is_before.true),
  λ k d lo lt. absurd (omega arith),
)

pub returns-clause-splits : goal.returns-clause-splits
returns-clause-splits c =
    let point = IsPartitionPoint-from_clause (λ e. not (is_before e.node e.shape c.args.item)) c.args.entries.now c.partition_point.result c.partition_point.ensures.partitioned
    (partitioned-after c.args.item c.args.entries.now c.requires) (λ a r q k. search rules) in
    (λ k d lo lt. not-true _ (point.0 k d lo lt), λ k d lo lt. not-false _ (point.1 k d lo lt))
