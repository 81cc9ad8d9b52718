use Rattle.fy_phrase.specs.declared.phrase.MarkKind.TheVariants as marks
use Rattle.fy_phrase.specs.Tree.{mark}
use Rattle.fy_phrase.specs.Reads.{reads}
use Rattle.fy_phrase.specs.Contexts.{drop_c}
use Rattle.fy_phrase.specs.Copy.{CopyState, bound}
use Rattle.fy_copy.specs.Shown.{state_of, with_context}
use Rattle.fy_copy.proofs.filling.complete.Goals as goal

pub returns-clause-ok : goal.returns-clause-ok
returns-clause-ok c =
    let f = c.args.filling in
    let s : CopyState = with_context c.args.base (drop_c f.number) (state_of c.args.core.now) in
    c.run_body.ensures (bound f.depth (mark (marks.Sequence f.number) f.place) (reads f.body) s) (c.in-Ok.ensures f.depth s)
