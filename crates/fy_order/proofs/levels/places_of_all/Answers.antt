use Rattle.std.proofs.Common.{ℕ, Vec, Global, List, ◌++◌, ◌∷◌, [], map, take, sym, subst}
use Rattle.std.proofs.lemmas.List.{take_all}
use Rattle.fy_order.specs.Levels.{AreInner, IsGrown, inner, met_in, next, plain_tagged}
use Rattle.fy_order.proofs.LevelLemmas.{are_inner-grown, are_inner-push, grown-none, grown-then, next-push, tagged-more}
use Rattle.fy_order.proofs.levels.places_of_all.Goals as goal

pub loop-tagged-init : goal.loop-tagged-init
loop-tagged-init c = record {
  at = rw c.in_ok-all.ensures.items tt;
  grown = grown-none (met_in c.args.met.now) [];
}

pub loop-tagged-preserved : goal.loop-tagged-preserved
loop-tagged-preserved c =
    let t = plain_tagged c.tagged-item.result in
    let T = map plain_tagged (take c.loop-tagged.tagged-index c.args.nodes.now) in
    let U = met_in c.loop-tagged.met in
    let V = met_in c.places_of.new.met in
    let vs = c.loop-tagged.all.items in
    let v = c.in_ok-places_of.field-0 in
    let grown = c.in_ok-places_of.ensures.grown in
    let more = tagged-more c.args.nodes.now c.loop-tagged.tagged-index c.tagged-item.result c.loop-tagged-test.true c.tagged-item.is in
    record {
      at = subst (AreInner V c.push.new.self.items) (sym more)
          (subst (λ ws. AreInner V ws (T ++ (t ∷ []))) (sym {A = List (Vec ℕ Global)} c.in_ok-push.ensures.items)
          (are_inner-push V vs T v t (are_inner-grown U V (inner t) grown vs T c.loop-tagged.invariant.at) c.in_ok-places_of.ensures.at));
      grown = subst (λ xs. IsGrown (met_in c.args.met.now) V (next xs)) (sym more)
          (subst (IsGrown (met_in c.args.met.now) V) (sym (next-push T t))
          (grown-then (met_in c.args.met.now) U V (next T) (inner t) c.loop-tagged.invariant.grown grown));
    }

pub returns-clause-at : goal.returns-clause-at
returns-clause-at c =
    subst (λ xs. AreInner (met_in c.loop-tagged.met) c.loop-tagged.all.items (map plain_tagged xs))
    (take_all c.loop-tagged.tagged-index c.args.nodes.now c.loop-tagged-test.false) c.loop-tagged.invariant.at

pub returns-clause-grown : goal.returns-clause-grown
returns-clause-grown c =
    subst (λ xs. IsGrown (met_in c.args.met.now) (met_in c.loop-tagged.met) (next (map plain_tagged xs)))
    (take_all c.loop-tagged.tagged-index c.args.nodes.now c.loop-tagged-test.false) c.loop-tagged.invariant.grown
