use Rattle.std.proofs.Common.{sym, ap, subst}
use Rattle.std.specs.Borrow.{Bor}
use Rattle.std.specs.Option.{option_map}
use Rattle.std.specs.Prelude.{IfErr, Option}
use Rattle.fy_base.specs.Outside.{Bytes}
use Rattle.fy_tool.specs.Working.{WasUngiven}
use Rattle.fy_tool.proofs.tree.drawn_in.Goals as goal

pub returns-in-Some-clause-stopped : goal.returns-in-Some-clause-stopped
returns-in-Some-clause-stopped g c =
    let counts = g.W.World.counts in
    let calls = g.W.World.calls in
    let P : Option Bytes → Type 0 = λ named. IfErr c.named_in.result (WasUngiven c.args.file.now named (g.W.World.holds c.args.world.now).files (counts c.args.world.now) (counts c.named_in.new.world) (calls c.args.world.now) (calls c.named_in.new.world)) in
    subst P (sym (ap (λ (o : Option (Bor Bytes)). option_map (λ (name : Bor Bytes). name.now) o) c.in-Some.is)) c.named_in.ensures.stopped
