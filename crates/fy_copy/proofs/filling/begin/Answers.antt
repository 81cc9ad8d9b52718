use Rattle.std.proofs.Common.{List, [], ◌∷◌, ap, ◌∙◌, pos}
use Rattle.fy_base.specs.declared.data.Datum.{Datum}
use Rattle.fy_base.specs.declared.data.Datum.TheVariants as datum
use Rattle.fy_phrase.specs.Tree.{lit}
use Rattle.fy_phrase.specs.Reads.{reads}
use Rattle.fy_phrase.specs.Contexts.{CopyContext, cells_c, fill_c, Pushed}
use Rattle.fy_phrase.specs.Copy.{Row, several, CopyState}
use Rattle.fy_copy.specs.Shown.{rows_onto, state_of}
use Rattle.fy_copy.proofs.Forms.{begun, reads_lit}
use Rattle.fy_copy.proofs.filling.begin.Goals as goal

pub returns-in-Ok-clause-ok : goal.returns-in-Ok-clause-ok
returns-in-Ok-clause-ok c =
    let s : CopyState = record (state_of c.args.core.now) { load = c.args.base } in
    let S : List Row → CopyState = λ rows. record s { store = rows } in
    let R : List Datum → List Row = λ vs. (record { number = s.next; content = several c.args.place vs }) ∷ s.store in
    begun (fill_c s.next c.args.count c.args.depth (reads c.args.body) c.args.place) _ (lit (datum.Int (pos 0)) c.args.place) (S (R [])) _ _ c.enter.ensures
    (ap S (c.in-Ok.ensures.ok ∙ ap R c.new-values.ensures.items)) (reads_lit (datum.Int (pos 0)) c.args.place)

pub returns-in-Err-clause-err : goal.returns-in-Err-clause-err
returns-in-Err-clause-err c =
    let s : CopyState = state_of c.args.core.now in
    let T : List (Pushed CopyContext) → List Row → CopyState = λ cs rows. record s { contexts = cs; store = rows } in
    ap (λ (cs : List (Pushed CopyContext)). T cs (rows_onto [] c.add_row.new.store.items)) c.put_back.ensures
    ∙ ap (λ (rows : List Row). T ((record { base = c.args.base; context = cells_c c.args.depth (reads c.args.body) c.args.place }) ∷ s.contexts) rows) c.in-Err.ensures.err
