use Rattle.std.proofs.Common.{◌≡◌, ◌+◌, ◌*◌, ◌++◌, [], max, drop, map}
use Rattle.fy_phrase.specs.declared.phrase.Phrase.{size-Phrase}
use Rattle.fy_phrase.specs.declared.phrase.Parts.{size-Parts}
use Rattle.fy_phrase.specs.Reads.{reads, reads_parts, trees_from}
use Rattle.fy_show.specs.Reading.{known_read, scope_read}
use Rattle.fy_show.specs.Texts.{parts_text}
use Rattle.fy_show.proofs.print.+print.Given as goal

abbrev pub invariant-put_parts-loop-part : goal.invariant-put_parts-loop-part
invariant-put_parts-loop-part l =
    l.text.items ++ parts_text (known_read l.view.known.now) (scope_read l.view.scope.now) l.view.manner l.lead (trees_from (map reads (drop l.part-index l.part-items)))
    ≡ l.initial.text.items ++ parts_text (known_read l.view.known.now) (scope_read l.view.scope.now) l.view.manner [] (reads_parts l.parts)

-- a form stands above its parts, and the steps that show one part above the form that it is
abbrev pub decreases-put_form : goal.decreases-put_form
decreases-put_form l = 8 * size-Phrase l.p.now

abbrev pub decreases-form_text : goal.decreases-form_text
decreases-form_text l = 8 * size-Phrase l.p.now + 1

abbrev pub decreases-put_whole : goal.decreases-put_whole
decreases-put_whole l = 8 * size-Phrase l.p.now + 1

abbrev pub decreases-put_shortened : goal.decreases-put_shortened
decreases-put_shortened l = 8 * size-Phrase l.p.now + 2

abbrev pub decreases-put_short : goal.decreases-put_short
decreases-put_short l = 8 * size-Phrase l.p.now + 2

abbrev pub decreases-put_part : goal.decreases-put_part
decreases-put_part l = 8 * size-Phrase l.p.now + 3

abbrev pub decreases-put_behind : goal.decreases-put_behind
decreases-put_behind l = 8 * size-Phrase l.p.now + 4

abbrev pub decreases-put_item : goal.decreases-put_item
decreases-put_item l = 8 * size-Phrase l.p.now + 5

abbrev pub decreases-put_inside : goal.decreases-put_inside
decreases-put_inside l = 8 * size-Phrase l.body.now + 5

abbrev pub decreases-put_two : goal.decreases-put_two
decreases-put_two l = 8 * max (size-Phrase l.p.now) (size-Phrase l.q.now) + 5

abbrev pub decreases-put_binary : goal.decreases-put_binary
decreases-put_binary l = 8 * max (size-Phrase l.p.now) (size-Phrase l.q.now) + 5

abbrev pub decreases-put_cond : goal.decreases-put_cond
decreases-put_cond l = 8 * max (size-Phrase l.b.now) (max (size-Phrase l.p.now) (size-Phrase l.q.now)) + 5

abbrev pub decreases-put_case : goal.decreases-put_case
decreases-put_case l = 8 * max (size-Phrase l.e.now) (size-Parts l.parts.now) + 5

abbrev pub decreases-put_definition : goal.decreases-put_definition
decreases-put_definition l = 8 * size-Phrase l.p.now + 5

abbrev pub decreases-put_while : goal.decreases-put_while
decreases-put_while l = 8 * max (size-Phrase l.b.now) (size-Phrase l.c.now) + 5

abbrev pub decreases-put_output : goal.decreases-put_output
decreases-put_output l = 8 * size-Phrase l.p.now + 5

abbrev pub decreases-put_items : goal.decreases-put_items
decreases-put_items l = 8 * max (size-Phrase l.p.now) (size-Phrase l.q.now) + 6

abbrev pub decreases-put_parts : goal.decreases-put_parts
decreases-put_parts l = 8 * size-Parts l.parts.now

abbrev pub decreases-put_sequence : goal.decreases-put_sequence
decreases-put_sequence l = 8 * size-Parts l.parts.now + 1

abbrev pub decreases-put_called : goal.decreases-put_called
decreases-put_called l = 8 * size-Phrase l.p.now

abbrev pub decreases-put_lam : goal.decreases-put_lam
decreases-put_lam l = 8 * size-Phrase l.body.now + 6

abbrev pub decreases-put_selection : goal.decreases-put_selection
decreases-put_selection l = 8 * size-Phrase l.p.now + 5

abbrev pub decreases-put_opening : goal.decreases-put_opening
decreases-put_opening l = 8 * size-Phrase l.p.now + 5

abbrev pub decreases-put_let : goal.decreases-put_let
decreases-put_let l = 8 * max (size-Phrase l.p.now) (size-Phrase l.body.now) + 6

abbrev pub decreases-put_definitions : goal.decreases-put_definitions
decreases-put_definitions l = 8 * size-Phrase l.p.now

abbrev pub decreases-put_letrec : goal.decreases-put_letrec
decreases-put_letrec l = 8 * size-Phrase l.body.now + 1

abbrev pub decreases-put_rec : goal.decreases-put_rec
decreases-put_rec l = 8 * size-Phrase l.body.now + 2

abbrev pub decreases-put_new : goal.decreases-put_new
decreases-put_new l = 8 * max (size-Phrase l.e.now) (size-Phrase l.body.now) + 6

abbrev pub decreases-put_cells : goal.decreases-put_cells
decreases-put_cells l = 8 * max (size-Phrase l.e.now) (size-Phrase l.body.now) + 6

abbrev pub decreases-put_escape : goal.decreases-put_escape
decreases-put_escape l = 8 * size-Phrase l.body.now + 6

abbrev pub decreases-put_accept : goal.decreases-put_accept
decreases-put_accept l = 8 * size-Phrase l.body.now + 6
