use Rattle.std.proofs.Common.{ℤ, to_z, of_z, to_z-of_z, ◌∙◌, subst}
use Rattle.std.specs.Int.{FitsUnsignedBits, w64}
use Rattle.std.specs.Prelude.{IfOk}
use Rattle.fy_base.specs.declared.data.Datum.TheVariants as datum
use Rattle.fy_phrase.specs.Reads.{reads}
use Rattle.fy_phrase.specs.Copy.{CopyState, datum_under}
use Rattle.fy_copy.specs.Moves.{Moved}
use Rattle.fy_copy.specs.Shown.{filling_of, state_of, with_context}
use Rattle.fy_copy.proofs.FillLemmas.{natural, negative_under}
use Rattle.fy_copy.proofs.filling.fill_by.Goals as goal

pub returns-in-Err-clause-ok : goal.returns-in-Err-clause-ok
returns-in-Err-clause-ok c =
    let f = c.args.filling in
    let s = state_of c.args.core.now in
    let t : CopyState = with_context c.args.base (filling_of f) s in
    let P : ℤ → Type 0 = λ z. FitsUnsignedBits 64 z → ⊥ in
    negative_under c.args.n c.args.here f.number f.count f.depth (reads f.body) f.place c.args.base s.contexts t c.ranges.n (subst P (to_z-of_z c.ranges.n) c.in-Err.ensures)

pub returns-clause-ok : goal.returns-clause-ok
returns-clause-ok c =
    let f = c.args.filling in
    let s = state_of c.args.core.now in
    let t : CopyState = with_context c.args.base (filling_of f) s in
    let P : ℤ → Type 0 = λ z. IfOk c.fill_from.result (λ turn. Moved turn (datum_under (datum.Int z) c.args.here (filling_of f) c.args.base s.contexts t) (state_of c.fill_from.new.core)) in
    subst P (natural (to_z w64 (of_z w64 c.args.n)) c.in-Ok.k c.in-Ok.ensures ∙ to_z-of_z c.ranges.n) c.fill_from.ensures.ok
