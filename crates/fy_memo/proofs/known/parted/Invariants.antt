use Rattle.std.proofs.Common.{◌≤◌, length}
use Rattle.fy_forms.specs.Keys.{lent}
use Rattle.fy_memo.specs.Bases.{IsParted, first_of}
use Rattle.fy_memo.proofs.known.parted.Given as goal

-- the form's paths so far and the base's so far are parted
abbrev pub invariant-loop-path : goal.invariant-loop-path
invariant-loop-path l =
    IsParted (first_of l.path-index l.path-items) (first_of l.next l.wanted) (lent l.others.items) (lent l.missing.items) × (l.next ≤ length l.wanted)
