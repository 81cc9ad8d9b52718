use Rattle.std.proofs.Common.{◌≡◌, ℕ, List, [], ◌∷◌, ◌++◌, get_or, Some, false, true, nat_eq, if◌then◌else◌, sym, ap, ◌∙◌}
use Rattle.std.specs.List.{slice_get, list_any}
use Rattle.std.proofs.lemmas.Bool.{not-false, not-true}
use Rattle.std.proofs.lemmas.Option.{slice_get-get_or}
use Rattle.rv_asm.specs.declared.items.Item.TheVariants.{Mark}
use Rattle.rv_asm.proofs.Refusals.{first_double, mark_taken, other_taken, distinct_mark, distinct_other, all_distinct}
use Rattle.rv_asm.proofs.marks.marked_labels.Goals as goal
use Rattle.rv_asm.proofs.marks.marked_labels.Goals.{in-Mark+in_ok-insert+else-not-branch, in_default}

pub returns-then-not-branch-clause-err : goal.returns-then-not-branch-clause-err
returns-then-not-branch-clause-err c =
    let items = c.args.items.now in
    let k = c.loop-item.item-index in
    let there : slice_get items k ≡ Some (Mark c.in-Mark.label) = slice_get-get_or items k (Mark 0) c.loop-item-test.true ∙ ap (λ i. Some i) c.in-Mark.is in
    let double : list_any (nat_eq c.in-Mark.label) c.loop-item.labels.keys ≡ true = not-false _ (sym c.in_ok-insert.ensures.added ∙ c.if-not-branch.true) in
    first_double items k c.in-Mark.label c.loop-item.labels.keys c.loop-item.invariant.keys there double c.loop-item.invariant.distinct

pub loop-item-preserved : goal.loop-item-preserved
loop-item-preserved c =
    let items = c.args.items.now in
    let k = c.loop-item.item-index in
    let inv = c.loop-item.invariant in
    let at : slice_get items k ≡ Some (get_or items k (Mark 0)) = slice_get-get_or items k (Mark 0) c.loop-item-test.true in
    elim c.match-item.branch [
      | in-Mark+in_ok-insert+else-not-branch w ↦
          (let label : ℕ = w.in-Mark.label in
          let keys : List ℕ = c.loop-item.labels.keys in
          let there : slice_get items k ≡ Some (Mark label) = at ∙ ap (λ i. Some i) w.in-Mark.is in
          let fresh : list_any (nat_eq label) keys ≡ false = not-true _ (sym w.in_ok-insert.ensures.added ∙ w.if-not-branch.false) in
          record {
            keys = ap (λ s. s.keys) w.labels-is ∙ w.in_ok-insert.ensures.keys ∙ ap (λ b. if b then keys else keys ++ label ∷ []) fresh ∙ ap (λ ls. ls ++ label ∷ []) inv.keys ∙ sym (mark_taken items k label there);
            distinct = distinct_mark items k label keys inv.keys there fresh inv.distinct;
          })
      | in_default w ↦ record {
        keys = ap (λ s. s.keys) w.labels-is ∙ inv.keys ∙ sym (other_taken items k (get_or items k (Mark 0)) at w.in_default.not-Mark);
        distinct = distinct_other items k (get_or items k (Mark 0)) at w.in_default.not-Mark inv.distinct;
      }
    ]

pub returns-clause-distinct : goal.returns-clause-distinct
returns-clause-distinct c = all_distinct c.args.items.now c.loop-item.item-index c.loop-item-test.false c.loop-item.invariant.distinct
