use Rattle.std.proofs.Common.{List, [], ◌∷◌, SFits, w64, to_z, of_z, to_z-of_z, ap, ◌∙◌, arith, rules}
use Rattle.fy_base.specs.declared.data.Datum.TheVariants as datum
use Rattle.fy_phrase.specs.Contexts.{CopyContext, Pushed}
use Rattle.fy_phrase.specs.Copy.{Row, CopyState}
use Rattle.fy_copy.specs.Shown.{filling_of, rows_onto, state_of}
use Rattle.fy_copy.proofs.Forms.{reads_lit}
use Rattle.fy_copy.proofs.FillLemmas.{one_more_steps}
use Rattle.fy_copy.proofs.filling.add_cell.Goals as goal

pub overflow_add-more : goal.overflow_add-more
overflow_add-more c = omega (arith, c.requires.fewer, c.args.filling.small)

pub integer-next-requires : goal.integer-next-requires
integer-next-requires c = omega (arith, c.requires.fewer, c.args.filling.small)

pub returns-in-Ok-clause-ok : goal.returns-in-Ok-clause-ok
returns-in-Ok-clause-ok c =
    let f = c.args.filling in
    let fits : SFits w64 c.integer-next.result = search rules in
    let z = to_z w64 (of_z w64 c.integer-next.result) in
    one_more_steps f.number c.args.k c.args.base c.args.here (filling_of f) z _ _ _ (state_of c.args.core.now) _ (to_z-of_z fits ∙ c.integer-next.ensures)
    (reads_lit (datum.Int z) c.args.here) c.put_back.ensures c.in-Ok.ensures.ok (ap state_of c.set_focus.ensures)

pub returns-in-Err-clause-err : goal.returns-in-Err-clause-err
returns-in-Err-clause-err c =
    let s : CopyState = state_of c.args.core.now in
    let T : List (Pushed CopyContext) → List Row → CopyState = λ cs rows. record s { contexts = cs; store = rows } in
    ap (λ (cs : List (Pushed CopyContext)). T cs (rows_onto [] c.lengthen.new.store.items)) c.put_back-in-Err.ensures
    ∙ ap (λ (rows : List Row). T ((record { base = c.args.base; context = filling_of c.args.filling }) ∷ s.contexts) rows) c.in-Err.ensures.err
