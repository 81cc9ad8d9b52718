use Rattle.std.proofs.Common.{◌≡◌, ◌≢◌, [], ◌∷◌, ◌++◌, length, ap, ◌∙◌, arith}
use Rattle.std.proofs.lemmas.Iterator.Adapters.{YieldsList-from_vec}
use Rattle.std.proofs.lemmas.Iterator.Consumers.{YieldsList-end}
use Rattle.fy_least.proofs.MadeLemmas.{all-given, met-more}
use Rattle.fy_least.proofs.many.meet_of.Goals as goal

pub loop-member-preserved : goal.loop-member-preserved
loop-member-preserved c = record {
  list = c.in_ok-push.ensures.ok ∙ ap (λ ds. ds ++ c.in-Some.member ∷ []) c.loop-member.invariant.list;
  one = λ e. absurd (c.if-count-eq1.false e);
}

pub returns : goal.returns
returns c =
    let began = c.into_iter-member-iterator.ensures.into_iter_gives in
    let items = c.args.members.items in
    let given = (YieldsList-end (YieldsList-from_vec items began.0 (began.1 ∙ c.args.members.ok.0)) c.loop-member.yielded
    c.loop-member.member-iterator
    c.loop-member.yielded_by c.next.result c.next.new.self c.in-None.is c.next.ensures.steps).0 in
    let all : c.loop-member.yielded ≡ items = all-given c.loop-member.yielded items given in
    let some : length items ≢ 0 = λ e. c.if-count-eq0.false (c.len-count.ensures ∙ (c.args.members.ok.0 ∙ e)) in
    let more : length items ≢ 1 = λ e. omega (
      arith,
      e,
      ap length all,
      ap length (c.loop-member.invariant.one (c.len-count.ensures ∙ (c.args.members.ok.0 ∙ e))),
    ) in
    met-more c.loop-member.list items (c.loop-member.invariant.list ∙ all) some more
