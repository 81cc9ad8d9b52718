use Rattle.std.proofs.Common.{inl, inr, subst}
use Rattle.std.specs.List.{Contains}
use Rattle.std.proofs.lemmas.List.{take_all}
use Rattle.fy_derive.proofs.CoverLemmas.{met-more}
use Rattle.pe_shapes.proofs.LoopSteps.{added-known, added-kept}
use Rattle.pe_shapes.proofs.sets.add_all.Goals as goal

pub loop-number-preserved : goal.loop-number-preserved
loop-number-preserved c =
    let inv = c.loop-number.invariant in
    let keys = c.in_ok-insert.ensures.keys in
    record {
      kept = λ k h. added-kept c.loop-number.met.keys _ _ k keys (inv.kept k h);
      has = met-more c.args.set.now c.loop-number.met.keys _ c.loop-number.number-index c.loop-number-test.true keys inv.has;
      known = added-known _ c.loop-number.met.keys _ c.args.set.now c.loop-number.number-index c.loop-number-test.true keys inv.known;
    }

pub returns-clause-known : goal.returns-clause-known
returns-clause-known c = λ k h. elim (c.loop-number.invariant.known k h) [
  | inl x ↦ inl x
  | inr x ↦ inr (subst (λ ks. Contains ks k) (take_all c.loop-number.number-index c.args.set.now c.loop-number-test.false) x)
]
