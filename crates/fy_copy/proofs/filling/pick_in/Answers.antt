use Rattle.std.proofs.Common.{ℤ, SFits, w64, to_z, of_z, to_z-of_z, sym, ◌∙◌, subst, rules}
use Rattle.fy_base.specs.declared.data.Datum.{Datum}
use Rattle.fy_base.specs.declared.data.Datum.TheVariants as datum
use Rattle.fy_copy.specs.Moves.{Moved}
use Rattle.fy_copy.specs.Shown.{state_of}
use Rattle.fy_copy.specs.Store.{picked_in}
use Rattle.fy_copy.proofs.FillLemmas.{natural}
use Rattle.fy_copy.proofs.filling.pick_in.Goals as goal

pub returns-in-Ok : goal.returns-in-Ok
returns-in-Ok c =
    let fits : SFits w64 c.in-Int.i = search rules in
    let P : Datum → Type 0 = λ v. Moved c.pick_at.result (picked_in c.args.extent v c.args.n c.args.here (state_of c.args.core.now)) (state_of c.pick_at.new.core) in
    let Q : ℤ → Type 0 = λ z. P (datum.Int z) in
    subst P (sym c.in-Int.is) (subst Q (natural (to_z w64 (of_z w64 c.in-Int.i)) c.in-Ok.i c.in-Ok.ensures ∙ to_z-of_z fits) c.pick_at.ensures)
