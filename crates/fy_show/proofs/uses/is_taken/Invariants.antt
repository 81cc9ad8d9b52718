use Rattle.std.proofs.Common.{◌≡◌, drop, map}
use Rattle.fy_phrase.specs.Reads.{reads}
use Rattle.fy_show.specs.Fresh.{is_taken}
use Rattle.fy_show.specs.Reading.{fields_read, known_read, scope_read}
use Rattle.fy_show.proofs.uses.is_taken.Given as goal

-- what is left decides
abbrev pub invariant-loop-body : goal.invariant-loop-body
invariant-loop-body l =
    is_taken (known_read l.known) (scope_read l.scope) (map (λ p. reads p.now) (drop l.body-index l.bodies)) (fields_read l.done) l.text
    ≡ is_taken (known_read l.known) (scope_read l.scope) (map (λ p. reads p.now) l.bodies) (fields_read l.done) l.text
