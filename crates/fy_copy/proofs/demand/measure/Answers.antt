use Rattle.std.proofs.Common.{[], SFits, w64, to_z, of_z, to_z-of_z, sym, ap, ◌∙◌, rules}
use Rattle.fy_base.specs.declared.data.Datum.TheVariants as datum
use Rattle.fy_phrase.specs.Copy.{content_of}
use Rattle.fy_copy.specs.Shown.{rows_onto, state_of}
use Rattle.fy_copy.specs.Store.{extent_in}
use Rattle.fy_copy.proofs.Forms.{reads_lit}
use Rattle.fy_copy.proofs.StoreLemmas.{measured_none, measured_steps}
use Rattle.fy_copy.proofs.demand.measure.Goals as goal

pub returns-in-None : goal.returns-in-None
returns-in-None c =
    let s = state_of c.args.core.now in
    measured_none (content_of c.args.n s.store) c.args.here s (ap (λ rows. extent_in (content_of c.args.n (rows_onto [] rows))) (sym c.as_slice.ensures.value) ∙ sym c.in-None.ensures.extent)

pub returns-in-Some : goal.returns-in-Some
returns-in-Some c =
    let s = state_of c.args.core.now in
    let fits : SFits w64 c.integer-length.result = search rules in
    let z = to_z w64 (of_z w64 c.integer-length.result) in
    measured_steps (content_of c.args.n s.store) c.args.here s _ c.in-Some.extent z _ (ap (λ rows. extent_in (content_of c.args.n (rows_onto [] rows))) (sym c.as_slice.ensures.value) ∙ sym c.in-Some.ensures.extent)
    (to_z-of_z fits ∙ c.integer-length.ensures) (reads_lit (datum.Int z) c.args.here) (ap state_of c.set_focus.ensures)
