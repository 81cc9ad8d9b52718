use Rattle.std.proofs.Common.{◌+◌, ◌*◌, max, map, take}
use Rattle.fy_types.specs.Reading.{plain_type, types_from}
use Rattle.fy_phrase.specs.declared.phrase.Phrase.{size-Phrase}
use Rattle.fy_phrase.specs.declared.phrase.Parts.{size-Parts}
use Rattle.fy_phrase.specs.Reads.{reads, trees_from}
use Rattle.fy_least.specs.Many.{AreFound, AreFoundUnder}
use Rattle.fy_least.specs.Scopes.{scope_forms}
use Rattle.fy_least.proofs.least.+least.Given as goal

abbrev pub invariant-found_in_each-loop-part : goal.invariant-found_in_each-loop-part
invariant-found_in_each-loop-part l =
    AreFound (scope_forms l.scope) (trees_from (map reads (take l.part-index l.part-items))) l.made.items

abbrev pub invariant-found_under-loop-ty : goal.invariant-found_under-loop-ty
invariant-found_under-loop-ty l =
    AreFoundUnder (scope_forms l.scope) (reads l.body) (types_from (map plain_type (take l.ty-index l.alternatives))) l.made.items

abbrev pub decreases-found_in : goal.decreases-found_in
decreases-found_in l = 4 * size-Phrase l.p.now

abbrev pub decreases-found_in_each : goal.decreases-found_in_each
decreases-found_in_each l = 4 * size-Parts l.parts.now

abbrev pub decreases-found_under : goal.decreases-found_under
decreases-found_under l = 4 * size-Phrase l.body.now + 2

abbrev pub decreases-found_in_unary : goal.decreases-found_in_unary
decreases-found_in_unary l = 4 * size-Phrase l.part.now + 3

abbrev pub decreases-found_in_binary : goal.decreases-found_in_binary
decreases-found_in_binary l = 4 * max (size-Phrase l.left.now) (size-Phrase l.right.now) + 3

abbrev pub decreases-found_in_conditional : goal.decreases-found_in_conditional
decreases-found_in_conditional l = 4 * max (size-Phrase l.test.now) (max (size-Phrase l.first.now) (size-Phrase l.second.now)) + 3

abbrev pub decreases-found_in_case : goal.decreases-found_in_case
decreases-found_in_case l = 4 * max (size-Phrase l.index.now) (size-Parts l.parts.now) + 3

abbrev pub decreases-found_in_abstraction : goal.decreases-found_in_abstraction
decreases-found_in_abstraction l = 4 * size-Phrase l.body.now + 3

abbrev pub decreases-found_in_application : goal.decreases-found_in_application
decreases-found_in_application l = 4 * max (size-Phrase l.procedure.now) (size-Phrase l.argument.now) + 3

abbrev pub decreases-found_in_field : goal.decreases-found_in_field
decreases-found_in_field l = 4 * size-Phrase l.part.now + 3

abbrev pub decreases-found_in_selection : goal.decreases-found_in_selection
decreases-found_in_selection l = 4 * size-Phrase l.part.now + 3

abbrev pub decreases-found_in_merge : goal.decreases-found_in_merge
decreases-found_in_merge l = 4 * max (size-Phrase l.left.now) (size-Phrase l.right.now) + 3

abbrev pub decreases-found_in_definition : goal.decreases-found_in_definition
decreases-found_in_definition l = 4 * max (size-Phrase l.defined.now) (size-Phrase l.body.now) + 3

abbrev pub decreases-found_in_recursion : goal.decreases-found_in_recursion
decreases-found_in_recursion l = 4 * size-Phrase l.body.now + 3

abbrev pub decreases-found_in_sequence : goal.decreases-found_in_sequence
decreases-found_in_sequence l = 4 * max (size-Phrase l.first.now) (size-Phrase l.second.now) + 3

abbrev pub decreases-found_in_assignment : goal.decreases-found_in_assignment
decreases-found_in_assignment l = 4 * max (size-Phrase l.acceptor.now) (size-Phrase l.value.now) + 3

abbrev pub decreases-found_in_loop : goal.decreases-found_in_loop
decreases-found_in_loop l = 4 * max (size-Phrase l.test.now) (size-Phrase l.body.now) + 3

abbrev pub decreases-found_in_endless_loop : goal.decreases-found_in_endless_loop
decreases-found_in_endless_loop l = 4 * size-Phrase l.body.now + 3

abbrev pub decreases-found_in_cell : goal.decreases-found_in_cell
decreases-found_in_cell l = 4 * max (size-Phrase l.first.now) (size-Phrase l.body.now) + 3

abbrev pub decreases-found_in_cells : goal.decreases-found_in_cells
decreases-found_in_cells l = 4 * max (size-Phrase l.count.now) (size-Phrase l.body.now) + 3

abbrev pub decreases-found_in_escape : goal.decreases-found_in_escape
decreases-found_in_escape l = 4 * size-Phrase l.body.now + 3

abbrev pub decreases-found_in_acceptor : goal.decreases-found_in_acceptor
decreases-found_in_acceptor l = 4 * size-Phrase l.body.now + 3

abbrev pub decreases-found_in_output : goal.decreases-found_in_output
decreases-found_in_output l = 4 * size-Phrase l.part.now + 3

abbrev pub decreases-found_in_input : goal.decreases-found_in_input
decreases-found_in_input l = 4 * size-Phrase l.part.now + 3

abbrev pub decreases-found_with : goal.decreases-found_with
decreases-found_with l = 4 * size-Phrase l.body.now + 1

abbrev pub decreases-found_in_fixed : goal.decreases-found_in_fixed
decreases-found_in_fixed l = 4 * size-Phrase l.body.now + 1
