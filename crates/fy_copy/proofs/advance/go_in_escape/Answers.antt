use Rattle.std.proofs.Common.{List, [], ap}
use Rattle.fy_phrase.specs.Copy.{CopyState}
use Rattle.fy_copy.specs.Shown.{contexts_onto, state_of}
use Rattle.fy_copy.specs.declared.context.Frame.{Frame}
use Rattle.fy_copy.proofs.Forms.{escape_steps}
use Rattle.fy_copy.proofs.advance.go_in_escape.Goals as goal

pub returns-in_ok-reserve-in-Escape-clause-ok : goal.returns-in_ok-reserve-in-Escape-clause-ok
returns-in_ok-reserve-in-Escape-clause-ok c =
    let S : List Frame → CopyState = λ l. record (state_of c.args.core.now) { contexts = contexts_onto [] l } in
    λ _. escape_steps c.args.core.now.focus c.in-Escape.d c.in-Escape.body c.in-Escape.at c.deref.result.now c.bind.result c.in_ok-made-in-Escape.made (state_of c.args.core.now) _ _ _ c.in-Escape.is c.deref.ensures
    (ap S c.reserve.ensures.items) c.push_context.ensures.does c.bind.ensures c.in_ok-made-in-Escape.ensures
