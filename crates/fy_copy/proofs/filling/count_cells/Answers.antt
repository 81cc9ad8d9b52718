use Rattle.std.proofs.Common.{ℤ, SFits, w64, to_z-of_z, sym, subst, rules}
use Rattle.std.specs.Prelude.{IfOk}
use Rattle.fy_base.specs.declared.data.Datum.{Datum}
use Rattle.fy_base.specs.declared.data.Datum.TheVariants as datum
use Rattle.fy_phrase.specs.Reads.{reads}
use Rattle.fy_phrase.specs.Copy.{CopyState, counted}
use Rattle.fy_copy.specs.Moves.{Moved}
use Rattle.fy_copy.specs.Shown.{state_of}
use Rattle.fy_copy.proofs.FillLemmas.{other_counted}
use Rattle.fy_copy.proofs.filling.count_cells.Goals as goal

pub returns-in_default-clause-ok : goal.returns-in_default-clause-ok
returns-in_default-clause-ok c =
    let s : CopyState = record (state_of c.args.core.now) { load = c.args.base } in
    other_counted c.args.v c.args.depth (reads c.args.body) c.args.place s c.in_default.not-Int

pub returns-clause-ok : goal.returns-clause-ok
returns-clause-ok c =
    let s : CopyState = record (state_of c.args.core.now) { load = c.args.base } in
    let P : Datum → Type 0 = λ v. IfOk c.count_from.result (λ turn. Moved turn (counted v c.args.depth (reads c.args.body) c.args.place s) (state_of c.count_from.new.core)) in
    let fits : SFits w64 c.in-Int.n = search rules in
    let Q : ℤ → Type 0 = λ z. P (datum.Int z) in
    subst P (sym c.in-Int.is) (subst Q (to_z-of_z fits) c.count_from.ensures.ok)
