use Rattle.std.proofs.Common.{◌∙◌, [], map, refl, sym, subst, arith}
use Rattle.std.proofs.lemmas.Iterator.Adapters.{YieldsList-from_vec}
use Rattle.std.proofs.lemmas.Iterator.Consumers.{YieldsList-end}
use Rattle.std.proofs.lemmas.List.{length_push}
use Rattle.fy_derive.specs.Reading.{derivations_from, plain_derivation}
use Rattle.fy_least.specs.Many.{AreAlternatives, no_more}
use Rattle.fy_least.proofs.MadeLemmas.{all-given, taken-more}
use Rattle.fy_least.proofs.many.taken.Goals as goal

pub loop-body-init : goal.loop-body-init
loop-body-init c = record {
  index = refl;
  members = subst (λ xs. AreAlternatives 0 [] (derivations_from (map plain_derivation xs))) (sym c.new-members.ensures.items) no_more;
}

pub loop-body-preserved : goal.loop-body-preserved
loop-body-preserved c = record {
  index = omega (arith, c.in_ok-index.ensures, length_push c.loop-body.yielded c.in-Some.body, c.loop-body.invariant.index);
  members = taken-more c.loop-body.yielded c.in-Some.body c.loop-body.members.items c.push.new.self.items c.loop-body.index
      c.in_ok-alternative.field-0 c.loop-body.invariant.members c.in_ok-push.ensures.items c.loop-body.invariant.index c.in_ok-alternative.ensures;
}

pub returns : goal.returns
returns c =
    let began = c.into_iter-body-iterator.ensures.into_iter_gives in
    let all = (YieldsList-end (YieldsList-from_vec c.args.bodies.items began.0 (began.1 ∙ c.args.bodies.ok.0)) c.loop-body.yielded
    c.loop-body.body-iterator
    c.loop-body.yielded_by c.next.result c.next.new.self c.in-None.is c.next.ensures.steps).0 in
    subst (λ fs. AreAlternatives 0 fs (derivations_from (map plain_derivation c.loop-body.members.items)))
    (all-given c.loop-body.yielded c.args.bodies.items all) c.loop-body.invariant.members
