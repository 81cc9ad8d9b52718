use Rattle.std.proofs.Common.{◌≡◌, ◌-◌, map}
use Rattle.fy_phrase.specs.Reads.{reads}
use Rattle.fy_show.specs.Fresh.{fresh, first_free, is_taken, most_names}
use Rattle.fy_show.specs.Reading.{fields_read, known_read, scope_read}
use Rattle.fy_show.proofs.free.fresh.Given as goal

-- no name so far was free
abbrev pub invariant-loop-number : goal.invariant-loop-number
invariant-loop-number l =
    first_free (is_taken (known_read l.view.known.now) (scope_read l.view.scope.now) (map (λ p. reads p.now) l.bodies) (fields_read l.done)) l.base (most_names - l.number) l.number
    ≡ fresh (is_taken (known_read l.view.known.now) (scope_read l.view.scope.now) (map (λ p. reads p.now) l.bodies) (fields_read l.done)) l.base
