use Rattle.std.proofs.Common.{◌≡◌}
use Rattle.pe_gen.specs.Manners.{covered}
use Rattle.pe_gen.proofs.manners.cover.Given as goal

abbrev pub invariant-loop-i : goal.invariant-loop-i
invariant-loop-i l = l.manners.items ≡ covered l.start l.i l.fn.manners.items
