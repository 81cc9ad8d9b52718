use Rattle.std.proofs.Common.{◌≡◌, drop}
use Rattle.std.specs.List.{list_any}
use Rattle.fy_phrase.specs.Reads.{reads}
use Rattle.fy_show.specs.Fresh.{uses}
use Rattle.fy_show.specs.Reading.{fields_read, known_in, scope_in}
use Rattle.fy_told.proofs.wheres.is_any_used.Given as goal

-- what is left decides
abbrev pub invariant-loop-field : goal.invariant-loop-field
invariant-loop-field l =
    list_any (λ f. uses (known_in l.view) f.1 (scope_in l.view) (reads l.p)) (fields_read (drop l.field-index l.fields))
    ≡ list_any (λ f. uses (known_in l.view) f.1 (scope_in l.view) (reads l.p)) (fields_read l.fields)
