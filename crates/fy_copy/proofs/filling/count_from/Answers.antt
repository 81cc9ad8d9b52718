use Rattle.std.proofs.Common.{ℤ, to_z, of_z, to_z-of_z, ◌∙◌, subst}
use Rattle.std.specs.Int.{FitsUnsignedBits, w64}
use Rattle.std.specs.Prelude.{IfOk}
use Rattle.fy_base.specs.declared.data.Datum.TheVariants as datum
use Rattle.fy_phrase.specs.Reads.{reads}
use Rattle.fy_phrase.specs.Copy.{CopyState, counted}
use Rattle.fy_copy.specs.Moves.{Moved}
use Rattle.fy_copy.specs.Shown.{state_of}
use Rattle.fy_copy.proofs.FillLemmas.{natural, small_count, negative_counted}
use Rattle.fy_copy.proofs.filling.count_from.Goals as goal

pub returns-in-Err-clause-ok : goal.returns-in-Err-clause-ok
returns-in-Err-clause-ok c =
    let s : CopyState = record (state_of c.args.core.now) { load = c.args.base } in
    let P : ℤ → Type 0 = λ z. FitsUnsignedBits 64 z → ⊥ in
    negative_counted c.args.n c.args.depth (reads c.args.body) c.args.place s c.ranges.n (subst P (to_z-of_z c.ranges.n) c.in-Err.ensures)

pub begin-requires-clause-small : goal.begin-requires-clause-small
begin-requires-clause-small c =
    small_count c.args.n c.in-Ok.count c.ranges.n (natural (to_z w64 (of_z w64 c.args.n)) c.in-Ok.count c.in-Ok.ensures ∙ to_z-of_z c.ranges.n)

pub returns-clause-ok : goal.returns-clause-ok
returns-clause-ok c =
    let s : CopyState = record (state_of c.args.core.now) { load = c.args.base } in
    let P : ℤ → Type 0 = λ z. IfOk c.begin.result (λ turn. Moved turn (counted (datum.Int z) c.args.depth (reads c.args.body) c.args.place s) (state_of c.begin.new.core)) in
    subst P (natural (to_z w64 (of_z w64 c.args.n)) c.in-Ok.count c.in-Ok.ensures ∙ to_z-of_z c.ranges.n) c.begin.ensures.ok
