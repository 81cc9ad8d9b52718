use Rattle.std.proofs.Common.{◌≡◌, Bool, true, false, sym, ap, ◌∙◌, subst, arith}
use Rattle.fy_derive.specs.Shown.{shown}
use Rattle.fy_derive.specs.Subsumption.{is_below}
use Rattle.fy_derive.proofs.Standings.{Extends-trans}
use Rattle.fy_reasons.specs.Expected.{lacking}
use Rattle.fy_reasons.specs.Stopping.{IsHalved, AreHalves}
use Rattle.fy_reasons.proofs.LackLemmas.{nothing-lacking, first-half, second-half, second-apart}
use Rattle.fy_reasons.proofs.expected.lacking.Goals as goal

pub returns-then-branch-clause-lacking : goal.returns-then-branch-clause-lacking
returns-then-branch-clause-lacking c =
    sym (nothing-lacking (shown c.args.table.now c.args.a) (shown c.args.table.now c.args.b) (sym c.in_ok-is_below.ensures ∙ c.if-branch.true))

pub loop-first-preserved-then-branch-2 : goal.loop-first-preserved-then-branch-2
loop-first-preserved-then-branch-2 c =
    let inv = c.loop-first.invariant in
    let t1 = c.loop-first.table in
    let t2 = c.halved.new.table in
    let more = c.in_ok-halved.ensures.extends in
    let B = shown t1 c.loop-first.rest in
    let A = shown t2 c.args.a in
    let X = shown t2 c.in-Both.first in
    let parts : AreHalves t2 B c.in-Both.first c.in-Both.second = subst (λ x. IsHalved t2 B x) c.in-Both.is c.in_ok-halved.ensures.halved in
    let kept : A ≡ shown t1 c.args.a = more.same c.args.a (omega (arith, c.requires.first, inv.extends.more)) in
    let apart : is_below A B ≡ false = ap (λ Z. is_below Z B) kept ∙ inv.apart in
    let below : is_below A X ≡ true = sym c.in_ok-is_below-in-Both.ensures ∙ c.if-branch-2.true in
    record {
      within = parts.second_in;
      extends = Extends-trans inv.extends more;
      apart = second-apart A B X (shown t2 c.in-Both.second) parts.same apart below;
      same = second-half A B X (shown t2 c.in-Both.second) parts.same below ∙ (ap (λ Z. lacking Z B) kept ∙ inv.same);
    }

pub loop-first-preserved : goal.loop-first-preserved
loop-first-preserved c =
    let inv = c.loop-first.invariant in
    let t1 = c.loop-first.table in
    let t2 = c.halved.new.table in
    let more = c.in_ok-halved.ensures.extends in
    let B = shown t1 c.loop-first.rest in
    let A = shown t2 c.args.a in
    let X = shown t2 c.in-Both.first in
    let parts : AreHalves t2 B c.in-Both.first c.in-Both.second = subst (λ x. IsHalved t2 B x) c.in-Both.is c.in_ok-halved.ensures.halved in
    let kept : A ≡ shown t1 c.args.a = more.same c.args.a (omega (arith, c.requires.first, inv.extends.more)) in
    let over : is_below A X ≡ false = sym c.in_ok-is_below-in-Both.ensures ∙ c.if-branch-2.false in
    record {
      within = parts.first_in;
      extends = Extends-trans inv.extends more;
      apart = over;
      same = first-half A B X (shown t2 c.in-Both.second) parts.same over ∙ (ap (λ Z. lacking Z B) kept ∙ inv.same);
    }
