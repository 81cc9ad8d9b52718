use Rattle.std.proofs.Common.{◌≡◌, ◌≤◌, ◌+◌, ◌++◌, pos, replicate}
use Rattle.std.specs.Prelude.{vec_len, vec_capacity}
use Rattle.fy_base.specs.declared.data.Datum.TheVariants as datum_kind
use Rattle.pe_machine.proofs.apply.add_cells.Given as goal

abbrev pub invariant-loop-k : goal.invariant-loop-k
invariant-loop-k l = record {
  items : l.cells.items ≡ l.initial.cells.items ++ replicate l.k (datum_kind.Int (pos 0));
  len : vec_len l.cells ≡ vec_len l.initial.cells + l.k;
  room : vec_capacity l.initial.cells ≤ vec_capacity l.cells;
}
