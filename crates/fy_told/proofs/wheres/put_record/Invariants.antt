use Rattle.std.proofs.Common.{◌≡◌, ◌<◌, ◌++◌, []}
use Rattle.fy_derive.specs.Shown.{total, shown}
use Rattle.fy_show.specs.Reading.{fields_read, known_in}
use Rattle.fy_told.proofs.WhereLemmas.{fields_told}
use Rattle.fy_told.proofs.wheres.put_record.Given as goal

-- the fields that are left, behind those so far
abbrev pub invariant-loop-name : goal.invariant-loop-name
invariant-loop-name l = record {
  here : l.rest < total l.table;
  same :
      l.text.items ++ fields_told (known_in l.view) (fields_read l.fields) l.lead (shown l.table l.rest)
      ≡ l.initial.text.items ++ fields_told (known_in l.view) (fields_read l.fields) [] (shown l.table l.number);
}

abbrev pub decreases-loop-name : goal.decreases-loop-name
decreases-loop-name l = l.rest
