use Rattle.std.proofs.Common.{◌≡◌, map, take}
use Rattle.std.specs.Prelude.{All}
use Rattle.fy_forms.specs.Rows.{IsRow}
use Rattle.fy_forms.proofs.rows.rows_of.Given as goal

abbrev pub invariant-loop-listed : goal.invariant-loop-listed
invariant-loop-listed l = record {
  each : All (IsRow l.table) l.rows.items;
  paths : map (λ r. r.path) l.rows.items ≡ map (λ x. x.path) (take l.listed-index l.listed-items);
}
