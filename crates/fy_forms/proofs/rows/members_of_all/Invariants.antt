use Rattle.std.proofs.Common.{◌≡◌, map, take}
use Rattle.std.specs.Prelude.{All}
use Rattle.fy_forms.specs.Rows.{IsListed}
use Rattle.fy_forms.proofs.rows.members_of_all.Given as goal

abbrev pub invariant-loop-path : goal.invariant-loop-path
invariant-loop-path l = record {
  each : All IsListed l.all.items;
  paths : map (λ x. x.path) l.all.items ≡ take l.path-index l.list;
}
