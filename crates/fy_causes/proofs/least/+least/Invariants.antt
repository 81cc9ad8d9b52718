use Rattle.std.proofs.Common.{◌≡◌, ◌+◌, ◌*◌, ◌∷◌, max, map, take}
use Rattle.fy_types.specs.Once.{once}
use Rattle.fy_types.specs.Reading.{plain_paths, plain_type, types_from}
use Rattle.fy_phrase.specs.declared.phrase.Phrase.{size-Phrase}
use Rattle.fy_phrase.specs.declared.phrase.Parts.{size-Parts}
use Rattle.fy_phrase.specs.Reads.{reads, trees_from}
use Rattle.fy_derive.specs.Least.{alternatives_of, least_type}
use Rattle.fy_causes.specs.Occurrences.{each_occurs, forms_around}
use Rattle.fy_causes.specs.Readings.{around_read, found_at, found_read}
use Rattle.fy_causes.proofs.least.+least.Given as goal

abbrev pub invariant-found_in_each-loop-part : goal.invariant-found_in_each-loop-part
invariant-found_in_each-loop-part l =
    map found_read l.made.items ≡ map found_at (each_occurs (around_read l.around.value) (trees_from (map reads (take l.part-index l.part-items))))

abbrev pub invariant-found_in_abstraction-loop-i : goal.invariant-found_in_abstraction-loop-i
invariant-found_in_abstraction-loop-i l =
    plain_paths l.paths
    ≡ once (alternatives_of (types_from (map plain_type (take l.i l.types)))
    (λ D. least_type (D ∷ forms_around (around_read l.around.value)) (reads l.body)))

abbrev pub decreases-found_in : goal.decreases-found_in
decreases-found_in l = 4 * size-Phrase l.p.now

abbrev pub decreases-found_in_one : goal.decreases-found_in_one
decreases-found_in_one l = 4 * size-Phrase l.part.now + 3

abbrev pub decreases-found_under : goal.decreases-found_under
decreases-found_under l = 4 * size-Phrase l.body.now + 3

abbrev pub decreases-found_in_binary : goal.decreases-found_in_binary
decreases-found_in_binary l = 4 * max (size-Phrase l.left.now) (size-Phrase l.right.now) + 3

abbrev pub decreases-found_in_conditional : goal.decreases-found_in_conditional
decreases-found_in_conditional l = 4 * max (size-Phrase l.test.now) (max (size-Phrase l.first.now) (size-Phrase l.second.now)) + 3

abbrev pub decreases-found_in_case : goal.decreases-found_in_case
decreases-found_in_case l = 4 * max (size-Phrase l.index.now) (size-Parts l.parts.now) + 3

abbrev pub decreases-found_in_each : goal.decreases-found_in_each
decreases-found_in_each l = 4 * size-Parts l.parts.now

abbrev pub decreases-found_in_abstraction : goal.decreases-found_in_abstraction
decreases-found_in_abstraction l = 4 * size-Phrase l.body.now + 3

abbrev pub decreases-found_with : goal.decreases-found_with
decreases-found_with l = 4 * size-Phrase l.body.now + 2

abbrev pub decreases-found_in_application : goal.decreases-found_in_application
decreases-found_in_application l = 4 * max (size-Phrase l.procedure.now) (size-Phrase l.argument.now) + 3

abbrev pub decreases-found_in_field : goal.decreases-found_in_field
decreases-found_in_field l = 4 * size-Phrase l.part.now + 3

abbrev pub decreases-found_in_selection : goal.decreases-found_in_selection
decreases-found_in_selection l = 4 * size-Phrase l.part.now + 3

abbrev pub decreases-found_in_merge : goal.decreases-found_in_merge
decreases-found_in_merge l = 4 * max (size-Phrase l.left.now) (size-Phrase l.right.now) + 3

abbrev pub decreases-found_in_definition : goal.decreases-found_in_definition
decreases-found_in_definition l = 4 * max (size-Phrase l.defined.now) (size-Phrase l.body.now) + 3

abbrev pub decreases-found_in_recursion : goal.decreases-found_in_recursion
decreases-found_in_recursion l = 4 * size-Phrase l.body.now + 3

abbrev pub decreases-found_in_sequence : goal.decreases-found_in_sequence
decreases-found_in_sequence l = 4 * max (size-Phrase l.first.now) (size-Phrase l.second.now) + 3

abbrev pub decreases-found_in_assignment : goal.decreases-found_in_assignment
decreases-found_in_assignment l = 4 * max (size-Phrase l.acceptor.now) (size-Phrase l.value.now) + 3

abbrev pub decreases-found_in_loop : goal.decreases-found_in_loop
decreases-found_in_loop l = 4 * max (size-Phrase l.test.now) (size-Phrase l.body.now) + 3

abbrev pub decreases-found_in_cell : goal.decreases-found_in_cell
decreases-found_in_cell l = 4 * max (size-Phrase l.first.now) (size-Phrase l.body.now) + 3
