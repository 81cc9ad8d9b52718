use Rattle.std.proofs.Common.{[], sym, ap, ◌∙◌, subst}
use Rattle.fy_phrase.specs.Copy.{CopyMove, content_of}
use Rattle.fy_copy.specs.Moves.{Moved}
use Rattle.fy_copy.specs.Shown.{rows_onto, state_of}
use Rattle.fy_copy.specs.Store.{extent_in}
use Rattle.fy_copy.proofs.StoreLemmas.{picked_none, picked_some}
use Rattle.fy_copy.proofs.filling.pick_element.Goals as goal

pub returns-in-None : goal.returns-in-None
returns-in-None c =
    let s = state_of c.args.core.now in
    picked_none c.args.v c.args.n (content_of c.args.n s.store) c.args.here s (ap (λ rows. extent_in (content_of c.args.n (rows_onto [] rows))) (sym c.as_slice.ensures.value) ∙ sym c.in-None.ensures.extent)

pub returns-in-Some : goal.returns-in-Some
returns-in-Some c =
    let s = state_of c.args.core.now in
    let P : CopyMove → Type 0 = λ move. Moved c.pick_in.result move (state_of c.pick_in.new.core) in
    let found = ap (λ rows. extent_in (content_of c.args.n (rows_onto [] rows))) (sym c.as_slice.ensures.value) ∙ sym c.in-Some.ensures.extent in
    subst P (sym (picked_some c.args.v c.args.n (content_of c.args.n s.store) c.args.here s c.in-Some.extent found)) c.pick_in.ensures
