use Rattle.std.proofs.Common.{◌≡◌, ◌-◌, ◌≤◌, map, drop}
use Rattle.std.specs.Prelude.{slice_get}
use Rattle.fy_phrase.specs.Reads.{reads, trees_from}
use Rattle.fy_show.specs.Reading.{known_in, scope_in}
use Rattle.fy_why.specs.Carets.{each}
use Rattle.fy_why.proofs.carets.each_span.Given as goal

-- it is one of those that are left
abbrev pub invariant-loop-i : goal.invariant-loop-i
invariant-loop-i l = record {
  behind : l.i ≤ l.index;
  same :
      slice_get (each (known_in l.view) (scope_in l.view) l.front.items (trees_from (map reads (drop l.i l.parts)))) (l.index - l.i)
      ≡ slice_get (each (known_in l.view) (scope_in l.view) l.initial.front.items (trees_from (map reads l.parts))) l.index;
}
