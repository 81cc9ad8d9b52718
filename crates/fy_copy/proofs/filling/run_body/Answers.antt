use Rattle.std.proofs.Common.{List, sym, subst}
use Rattle.fy_phrase.specs.Contexts.{CopyContext, Pushed}
use Rattle.fy_copy.specs.Moves.{Binds}
use Rattle.fy_copy.specs.Shown.{state_of}
use Rattle.fy_copy.proofs.filling.run_body.Goals as goal

pub returns : goal.returns
returns c = λ m binds.
    let P : List (Pushed CopyContext) → Type 0 = λ cs. Binds c.args.made c.args.depth m (record (state_of c.args.core.now) { contexts = cs }) in
    c.bind.ensures m (subst P (sym c.put_back.ensures) binds)
