use Rattle.std.proofs.Common.{◌≡◌, [], drop, map}
use Rattle.fy_phrase.specs.Reads.{reads}
use Rattle.fy_show.specs.Fresh.{fields_behind}
use Rattle.fy_show.specs.Reading.{declared_read, fields_read, known_read, scope_read}
use Rattle.fy_show.proofs.free.fresh_fields.Given as goal

abbrev pub invariant-loop-field : goal.invariant-loop-field
invariant-loop-field l =
    fields_behind (known_read l.view.known.now) (scope_read l.view.scope.now) (map (λ p. reads p.now) l.bodies) (fields_read l.done.items) (declared_read (drop l.field-index l.declared))
    ≡ fields_behind (known_read l.view.known.now) (scope_read l.view.scope.now) (map (λ p. reads p.now) l.bodies) [] (declared_read l.declared)
