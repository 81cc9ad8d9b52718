use Rattle.std.proofs.Common.{ap}
use Rattle.fy_copy.proofs.StoreLemmas.{row_with}
use Rattle.fy_copy.proofs.store.write_row.Goals as goal

pub returns : goal.returns
returns c = ap (row_with c.args.row.now.number) c.write.ensures
