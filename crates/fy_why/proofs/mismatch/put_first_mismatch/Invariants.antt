use Rattle.std.proofs.Common.{◌≡◌, ◌+◌, ◌≤◌, map, drop}
use Rattle.fy_types.specs.Paths.{end}
use Rattle.fy_types.specs.Reading.{plain_elem, plain_path, fronted}
use Rattle.fy_why.specs.Types.{mismatch}
use Rattle.fy_why.proofs.mismatch.put_first_mismatch.Given as goal

-- what is left decides, and nothing is put yet
abbrev pub invariant-loop-i : goal.invariant-loop-i
invariant-loop-i l = record {
  few : l.number ≤ l.i;
  same :
      mismatch (l.number + 1) (fronted (map plain_elem (drop l.i l.xs)) (end l.path.end)) (fronted (map plain_elem (drop l.i l.ys)) (end l.wanted.end))
      ≡ mismatch 1 (plain_path l.path) (plain_path l.wanted);
  unput : l.text.items ≡ l.initial.text.items;
}
