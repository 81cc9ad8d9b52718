use Rattle.std.proofs.Common.{sym, subst}
use Rattle.std.specs.List.{Contains}
use Rattle.std.proofs.lemmas.List.{take_all}
use Rattle.fy_derive.proofs.CoverLemmas.{met-more, met-known}
use Rattle.fy_derive.proofs.members.met_in.Goals as goal

pub loop-number-preserved : goal.loop-number-preserved
loop-number-preserved c = record {
  has = met-more c.args.list.now c.loop-number.met.keys _ c.loop-number.number-index c.loop-number-test.true c.in_ok-insert.ensures.keys c.loop-number.invariant.has;
  known = met-known c.args.list.now c.loop-number.met.keys _ c.loop-number.number-index c.loop-number-test.true c.in_ok-insert.ensures.keys c.loop-number.invariant.known;
}

pub returns-clause-has : goal.returns-clause-has
returns-clause-has c = λ k h. c.loop-number.invariant.has k (subst (λ ks. Contains ks k) (sym (take_all c.loop-number.number-index c.args.list.now c.loop-number-test.false)) h)

pub returns-clause-known : goal.returns-clause-known
returns-clause-known c = λ k h. subst (λ ks. Contains ks k) (take_all c.loop-number.number-index c.args.list.now c.loop-number-test.false) (c.loop-number.invariant.known k h)
