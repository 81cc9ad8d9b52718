use Rattle.std.proofs.Common.{◌≡◌, ap}
use Rattle.fy_phrase.specs.Copy.{lengthened}
use Rattle.fy_copy.specs.Shown.{content_shown}
use Rattle.fy_copy.proofs.StoreLemmas.{row_with, on_ok, on_err}
use Rattle.fy_copy.proofs.store.grow_row.Goals as goal

pub returns-clause-ok : goal.returns-clause-ok
returns-clause-ok c =
    let n = c.args.row.now.number in
    let new = content_shown c.grow.new.content in
    let old = content_shown c.args.row.now.content in
    on_ok c.grow.result (new ≡ lengthened old) (row_with n new ≡ row_with n (lengthened old)) c.grow.ensures.ok (λ e. ap (row_with n) e)

pub returns-clause-err : goal.returns-clause-err
returns-clause-err c =
    let n = c.args.row.now.number in
    let new = content_shown c.grow.new.content in
    let old = content_shown c.args.row.now.content in
    on_err c.grow.result (new ≡ old) (row_with n new ≡ row_with n old) c.grow.ensures.err (λ e. ap (row_with n) e)
