use Rattle.std.proofs.Common.{sym, arith}
use Rattle.fy_copy.proofs.StoreLemmas.{set_past}
use Rattle.fy_copy.proofs.store.set_element.Goals as goal

pub returns-then-i-len : goal.returns-then-i-len
returns-then-i-len c = sym (set_past c.args.values.now.items c.args.i c.args.value (omega (arith, c.if-i-len.true, c.len.ensures, c.args.values.now.ok.0)))
