use Rattle.std.proofs.Common.{ap, sym, subst, Some, None}
use Rattle.std.specs.Option.{option_map}
use Rattle.std.specs.Prelude.{Option}
use Rattle.fy_words.specs.Order.{Order, order_of}
use Rattle.fy_tool.specs.Answers.{Answers}
use Rattle.fy_tool.proofs.Serving.{serves_usage}
use Rattle.fy_tool.proofs.Answering.{answered}
use Rattle.fy_tool.proofs.top.answer.Goals as goal

pub returns-in-None-clause-answers : goal.returns-in-None-clause-answers
returns-in-None-clause-answers g c =
    let P : Option Order → Type 0 = λ o. Answers o (g.W.World.holds c.args.world.now) (g.W.World.holds c.conclude.new.world) (g.W.World.counts c.args.world.now) (g.W.World.counts c.conclude.new.world) (g.W.World.calls c.args.world.now) (g.W.World.calls c.conclude.new.world) c.conclude.result in
    subst P (sym (ap (λ o. option_map order_of o) c.in-None.is))
    (answered None _ (g.W.World.holds c.refuse-work.new.world) _ _ (g.W.World.counts c.refuse-work.new.world) _ _ (g.W.World.calls c.refuse-work.new.world) _ c.refuse-work.result _
    (serves_usage _ _ _ _ _ _ c.refuse-work.result c.refuse-work.ensures.counted c.refuse-work.ensures.own c.refuse-work.ensures.memory c.refuse-work.ensures.did c.refuse-work.ensures.called) c.conclude.ensures.concludes c.conclude.ensures.called)

pub returns-in-Some-clause-answers : goal.returns-in-Some-clause-answers
returns-in-Some-clause-answers g c =
    let P : Option Order → Type 0 = λ o. Answers o (g.W.World.holds c.args.world.now) (g.W.World.holds c.conclude-in-Some.new.world) (g.W.World.counts c.args.world.now) (g.W.World.counts c.conclude-in-Some.new.world) (g.W.World.calls c.args.world.now) (g.W.World.calls c.conclude-in-Some.new.world) c.conclude-in-Some.result in
    subst P (sym (ap (λ o. option_map order_of o) c.in-Some.is))
    (answered (Some (order_of c.in-Some.command)) _ (g.W.World.holds c.serve-work.new.world) _ _ (g.W.World.counts c.serve-work.new.world) _ _ (g.W.World.calls c.serve-work.new.world) _ c.serve-work.result _ c.serve-work.ensures.serves c.conclude-in-Some.ensures.concludes c.conclude-in-Some.ensures.called)
