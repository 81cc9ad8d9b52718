use Rattle.std.proofs.Common.{ap, sym, subst, arith}
use Rattle.rv_guard.specs.Joining.{total_words}
use Rattle.fy_audit.specs.Words.{HaveValues}
use Rattle.fy_audit.proofs.CodeRead.{cut_total, cut_values}
use Rattle.fy_audit.proofs.image.audit.Goals as goal

pub marks_of-requires-clause-words : goal.marks_of-requires-clause-words
marks_of-requires-clause-words c =
    omega (arith, ap total_words c.deref-2.ensures.value, cut_total _ _ _ c.in_ok-pieces.ensures, c.deref.ensures.len, c.len-3.ensures)

pub judge-requires-clause-words : goal.judge-requires-clause-words
judge-requires-clause-words c =
    omega (arith, ap total_words c.deref-3.ensures.value, cut_total _ _ _ c.in_ok-pieces.ensures, c.deref.ensures.len, c.len-3.ensures, c.in_ok-marks.ensures.starts.count)

pub judge-requires-clause-good : goal.judge-requires-clause-good
judge-requires-clause-good c = subst HaveValues (sym c.deref-3.ensures.value) (cut_values _ _ _ c.in_ok-pieces.ensures)
