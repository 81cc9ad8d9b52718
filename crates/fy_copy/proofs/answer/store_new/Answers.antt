use Rattle.std.proofs.Common.{List, ap}
use Rattle.fy_phrase.specs.Reads.{reads}
use Rattle.fy_phrase.specs.Copy.{Row, CopyState}
use Rattle.fy_copy.specs.Shown.{state_of}
use Rattle.fy_copy.proofs.Forms.{stored_steps}
use Rattle.fy_copy.proofs.answer.store_new.Goals as goal

pub returns-clause-ok : goal.returns-clause-ok
returns-clause-ok c =
    let first : CopyState = record (state_of c.args.core.now) { load = c.args.base } in
    let S : List Row → CopyState = λ l. record first { store = l } in
    stored_steps c.bind.result c.in_ok-made.made c.args.d c.args.v (reads c.args.body.now) c.args.here first _ _ _ (ap S c.in_ok-add_row.ensures.ok) c.push_context.ensures.does c.bind.ensures c.in_ok-made.ensures
