use Rattle.std.proofs.Common.{map, take}
use Rattle.std.specs.Prelude.{All}
use Rattle.fy_forms.specs.Keys.{lent}
use Rattle.fy_forms.specs.Rows.{IsEnough, IsFound}
use Rattle.fy_forms.proofs.fresh.fresh_of.Given as goal

-- what was found is enough for the rows so far
abbrev pub invariant-loop-row : goal.invariant-loop-row
invariant-loop-row l = record {
  enough : IsEnough l.all.table l.flags (lent (map (λ f. f.path) l.found.items)) (lent (map (λ r. r.path) (take l.row-index l.row-items)));
  each : All (IsFound l.all.table l.flags) l.found.items;
}
