use Rattle.std.proofs.Common.{◌≡◌, ◌+◌, ◌<◌, ◌^◌, if◌then◌else◌, drop, map}
use Rattle.fy_phrase.specs.Reads.{reads}
use Rattle.fy_derive.specs.Derivations.{all_nodes, count}
use Rattle.fy_derive.specs.Reading.{plain_derivation, plain_derivations, derivations_from}
use Rattle.fy_show.specs.Reading.{known_in, scope_in}
use Rattle.fy_told.specs.ReasonTexts.{names_in, premises_at, whole_premises}
use Rattle.fy_told.proofs.refusal.+refusal.Given as goal

-- the node is in none of those before
abbrev pub invariant-put_in-loop-i : goal.invariant-put_in-loop-i
invariant-put_in-loop-i l = record {
  unput : l.text.items ≡ l.initial.text.items;
  unnumbered : l.table ≡ l.initial.table;
  room : l.next + all_nodes (derivations_from (map plain_derivation (drop l.i l.items))) < 2 ^ 32;
  names :
      names_in (known_in l.view) l.stop.number (derivations_from (map plain_derivation (drop l.i l.items))) l.next (scope_in l.view) (reads l.p)
      (drop l.i (if l.is_whole then whole_premises (count (plain_derivations l.list)) (reads l.p) else premises_at (reads l.p)))
      ≡ names_in (known_in l.view) l.stop.number (plain_derivations l.list) l.at (scope_in l.view) (reads l.p)
      (if l.is_whole then whole_premises (count (plain_derivations l.list)) (reads l.p) else premises_at (reads l.p));
}

abbrev pub decreases-put_at : goal.decreases-put_at
decreases-put_at l = goal.size-put_at l

abbrev pub decreases-put_in : goal.decreases-put_in
decreases-put_in l = goal.size-put_in l
