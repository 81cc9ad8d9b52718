use Rattle.std.proofs.Common.{◌≡◌, drop}
use Rattle.fy_phrase.specs.Reads.{reads}
use Rattle.fy_derive.specs.Shown.{all_shown, Extends}
use Rattle.fy_reasons.specs.Expected.{first_wrong}
use Rattle.fy_reasons.proofs.expected.first_wrong.Given as goal

-- what is left decides
abbrev pub invariant-loop-i : goal.invariant-loop-i
invariant-loop-i l = record {
  extends : Extends l.fn.table l.table;
  same : first_wrong (reads l.p) (all_shown l.fn.table l.done) l.i (all_shown l.fn.table (drop l.i l.done))
      ≡ first_wrong (reads l.p) (all_shown l.fn.table l.done) 0 (all_shown l.fn.table l.done);
}
