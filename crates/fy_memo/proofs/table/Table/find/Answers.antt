use Rattle.std.proofs.Common.{ap}
use Rattle.fy_types.specs.Paths.{paths}
use Rattle.fy_types.specs.Reading.{plain_paths, plain_type}
use Rattle.fy_memo.proofs.EachLemmas.{form-same}
use Rattle.fy_memo.proofs.table.Table.find.Goals as goal

pub returns-then-same_ty-clause-form : goal.returns-then-same_ty-clause-form
returns-then-same_ty-clause-form c =
    let entry = c.index-entry.result.now in
    form-same (plain_paths entry.form.paths) (paths (plain_type entry.ty.now)) (paths (plain_type c.args.ty.now)) entry.of_type
    (ap paths (c.same_ty.ensures.0 c.if-same_ty.true))
