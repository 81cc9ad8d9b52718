use Rattle.std.proofs.Common.{ℤ, SFits, w64, to_z-of_z, sym, subst, rules}
use Rattle.std.specs.Prelude.{IfOk}
use Rattle.fy_base.specs.declared.data.Datum.{Datum}
use Rattle.fy_base.specs.declared.data.Datum.TheVariants as datum
use Rattle.fy_phrase.specs.Reads.{reads}
use Rattle.fy_phrase.specs.Copy.{CopyState, datum_under}
use Rattle.fy_copy.specs.Moves.{Moved}
use Rattle.fy_copy.specs.Shown.{filling_of, state_of, with_context}
use Rattle.fy_copy.proofs.FillLemmas.{other_under}
use Rattle.fy_copy.proofs.filling.fill.Goals as goal

pub returns-in_default-clause-ok : goal.returns-in_default-clause-ok
returns-in_default-clause-ok c =
    let f = c.args.filling in
    let s = state_of c.args.core.now in
    let t : CopyState = with_context c.args.base (filling_of f) s in
    other_under c.args.v c.args.here f.number f.count f.depth (reads f.body) f.place c.args.base s.contexts t c.in_default.not-Int

pub returns-clause-ok : goal.returns-clause-ok
returns-clause-ok c =
    let f = c.args.filling in
    let s = state_of c.args.core.now in
    let t : CopyState = with_context c.args.base (filling_of f) s in
    let P : Datum → Type 0 = λ v. IfOk c.fill_by.result (λ turn. Moved turn (datum_under v c.args.here (filling_of f) c.args.base s.contexts t) (state_of c.fill_by.new.core)) in
    let fits : SFits w64 c.in-Int.n = search rules in
    let Q : ℤ → Type 0 = λ z. P (datum.Int z) in
    subst P (sym c.in-Int.is) (subst Q (to_z-of_z fits) c.fill_by.ensures.ok)
