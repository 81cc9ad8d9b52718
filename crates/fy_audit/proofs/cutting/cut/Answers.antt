use Rattle.std.proofs.Common.{arith}
use Rattle.fy_audit.specs.Words.{setting}
use Rattle.fy_audit.proofs.Cuts.{cut_all}
use Rattle.fy_audit.proofs.cutting.cut.Goals as goal

pub returns : goal.returns
returns c = cut_all (setting c.args.code.now c.args.table_words c.args.places) c.args.code.now c.loop-k.k c.loop-k.pieces.items (let t = c.loop-k-test.false in omega (arith, t)) c.loop-k.invariant.2
