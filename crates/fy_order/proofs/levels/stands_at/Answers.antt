use Rattle.std.proofs.Common.{sym, ap, ◌∙◌, subst, eqb-true, ltb-true, length, arith}
use Rattle.fy_types.specs.PathOrder.{IsPathBelow}
use Rattle.fy_types.specs.Reading.{plain_path}
use Rattle.fy_order.specs.declared.sign.Tagged.{Tagged}
use Rattle.fy_order.proofs.LevelLemmas.{alike-at}
use Rattle.fy_order.proofs.levels.stands_at.Goals as goal
use Rattle.fy_order.proofs.levels.stands_at.Goals.{then-place-nodes, else-place-nodes}

pub returns-then-nodes-place : goal.returns-then-nodes-place
returns-then-nodes-place c r = elim c.if-place-nodes.branch [
  | then-place-nodes w ↦
      let y = c.index-nodes-place-then-nodes-place.result in
      let is = sym c.index-nodes-place-then-nodes-place.is in
      alike-at c.args.nodes.now c.args.place w.index-nodes-place.result y c.args.tagged w.if-place-nodes.true w.index-nodes-place.is
      c.index-nodes-place-then-nodes-place.is (ap (λ (x : Tagged). x.tag) w.index-nodes-place.is ∙ eqb-true _ _ (sym w.value-is ∙ c.if-nodes-place.true))
      (subst (λ (x : Tagged). IsPathBelow (plain_path x.path.now) (plain_path c.args.tagged.path.now)) is (c.are_alike.ensures.low r))
      (subst (λ (x : Tagged). IsPathBelow (plain_path c.args.tagged.path.now) (plain_path x.path.now)) is (c.are_alike.ensures.high r))
  | else-place-nodes w ↦
      absurd (omega (arith, ltb-true c.args.place (length c.args.nodes.now) (sym w.value-is ∙ c.if-nodes-place.true), w.if-place-nodes.false))
]
