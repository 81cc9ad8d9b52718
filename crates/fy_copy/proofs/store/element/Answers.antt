use Rattle.std.proofs.Common.{sym, arith}
use Rattle.std.proofs.lemmas.Option.{slice_get-get_or, slice_get_past}
use Rattle.fy_copy.proofs.store.element.Goals as goal

pub returns-then-i-values : goal.returns-then-i-values
returns-then-i-values c = sym (slice_get_past c.args.values.now c.args.i (omega arith))

pub returns : goal.returns
returns c = sym (slice_get-get_or c.args.values.now c.args.i _ (omega arith))
