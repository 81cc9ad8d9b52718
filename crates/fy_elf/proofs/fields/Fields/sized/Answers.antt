use Rattle.std.proofs.lemmas.Result.{err_from_is_err_and}
use Rattle.fy_elf.proofs.Judging.{sized_cut, sized_bad, sized_read}
use Rattle.fy_elf.proofs.fields.Fields.sized.Goals as goal

pub returns-in_err-size-clause-judged : goal.returns-in_err-size-clause-judged
returns-in_err-size-clause-judged c =
    let p = err_from_is_err_and c.from_residual.result c.from_residual.ensures.1 in
    let cut = c.in_err-size.ensures.cut in
    rw (p.1, p.2) (sized_cut c.in_err-size.field-0.0 c.args.counted.now c.args.self.now cut.0 cut.1)

pub returns-in-Some-clause-judged : goal.returns-in-Some-clause-judged
returns-in-Some-clause-judged c =
    let found = c.in-Some.ensures in
    let size = c.in_ok-size in
    sized_read c.args.counted.now size.size c.in-Some.count c.args.self.now _ c.requires found.1 found.2 size.ensures.fits found.0 size.ensures.taken

pub returns-in-None-clause-judged : goal.returns-in-None-clause-judged
returns-in-None-clause-judged c =
    let size = c.in_ok-size in
    sized_bad c.args.counted.now size.size c.args.self.now _ _ size.ensures.taken size.ensures.fits c.in-None.ensures c.offset-offset.ensures
