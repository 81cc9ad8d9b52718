use Rattle.std.proofs.Common.{◌≡◌, map}
use Rattle.fy_types.specs.declared.types.Atom.TheVariants.{Int}
use Rattle.fy_types.specs.Types.{atom}
use Rattle.fy_types.specs.Reading.{plain_type}
use Rattle.fy_derive.specs.Derivations.{and_derivation, sub}
use Rattle.fy_derive.specs.Reading.{derivations_from, derivations_in, plain_derivation}
use Rattle.fy_least.specs.Many.{all_at}
use Rattle.fy_least.proofs.many.all_taken.Given as goal

abbrev pub invariant-loop-part : goal.invariant-loop-part
invariant-loop-part l =
    derivations_from (map plain_derivation (derivations_in l.premises))
    ≡ and_derivation (sub (atom Int) (plain_derivation l.fn.index)) (all_at (plain_type l.ty) l.yielded)
