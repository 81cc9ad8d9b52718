use Rattle.std.proofs.Common.{sym, subst}
use Rattle.std.specs.Prelude.{IfOk}
use Rattle.fy_phrase.specs.Reads.{reads}
use Rattle.fy_phrase.specs.Copy.{CopyState, CopyMove}
use Rattle.fy_copy.specs.Moves.{Moved}
use Rattle.fy_copy.specs.Shown.{filling_of, state_of, with_context}
use Rattle.fy_copy.proofs.FillLemmas.{more_under, all_under, past_under}
use Rattle.fy_copy.proofs.filling.fill_from.Goals as goal

pub returns-then-k-count-clause-ok : goal.returns-then-k-count-clause-ok
returns-then-k-count-clause-ok c =
    let f = c.args.filling in
    let s = state_of c.args.core.now in
    let t : CopyState = with_context c.args.base (filling_of f) s in
    let P : CopyMove → Type 0 = λ move. IfOk c.add_cell.result (λ turn. Moved turn move (state_of c.add_cell.new.core)) in
    subst P (sym (more_under c.args.k c.args.here f.number f.count f.depth (reads f.body) f.place c.args.base s.contexts t c.if-k-count.true)) c.add_cell.ensures.ok

pub returns-then-k-count-2-clause-ok : goal.returns-then-k-count-2-clause-ok
returns-then-k-count-2-clause-ok c =
    let f = c.args.filling in
    let s = state_of c.args.core.now in
    let t : CopyState = with_context c.args.base (filling_of f) s in
    let P : CopyMove → Type 0 = λ move. IfOk c.complete.result (λ turn. Moved turn move (state_of c.complete.new.core)) in
    subst P (sym (all_under c.args.k c.args.here f.number f.count f.depth (reads f.body) f.place c.args.base s.contexts t c.if-k-count.false c.if-k-count-2.true)) c.complete.ensures.ok

pub returns-clause-ok : goal.returns-clause-ok
returns-clause-ok c =
    let f = c.args.filling in
    let s = state_of c.args.core.now in
    let t : CopyState = with_context c.args.base (filling_of f) s in
    past_under c.args.k c.args.here f.number f.count f.depth (reads f.body) f.place c.args.base s.contexts t c.if-k-count.false c.if-k-count-2.false
