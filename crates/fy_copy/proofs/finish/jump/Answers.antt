use Rattle.std.proofs.Common.{[]}
use Rattle.fy_phrase.specs.Copy.{CopyState}
use Rattle.fy_copy.specs.Shown.{rows_onto, contexts_onto, state_of}
use Rattle.fy_copy.proofs.Forms.{jumped_to, reads_skip, same_but}
use Rattle.fy_copy.proofs.finish.jump.Goals as goal

pub returns-then-m-n : goal.returns-then-m-n
returns-then-m-n c =
    let core = c.loop-frame.core in
    let s : CopyState = record (state_of c.args.core.now) { store = rows_onto [] core.store.items } in
    jumped_to c.go_on.result c.args.n c.in-Escape.m c.args.here c.in-Some.frame c.pop.new.self.items core.contexts.items _ s _ _ c.loop-frame.invariant.jumps c.in-Some.ensures.items c.in-Escape.is c.if-m-n.true
    (same_but _ _ (contexts_onto [] c.pop.new.self.items) (rows_onto [] core.store.items) _ _ c.in-Some.frame.base (reads_skip c.args.here) c.loop-frame.invariant.next) c.go_on.ensures
