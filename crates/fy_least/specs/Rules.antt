-- Derivations by rules with two premises that are atoms.
use Rattle.std.specs.Prelude.{◌≡◌, ◌⊎◌, Bool, true, false, ◌&&◌, if◌then◌else◌}
use Rattle.fy_base.specs.declared.data.BinOp.{BinOp}
use Rattle.fy_types.specs.declared.types.Atom.{Atom}
use Rattle.fy_types.specs.declared.types.Atom.TheVariants.{Comm, Compl}
use Rattle.fy_types.specs.Reading.{plain_paths}
use Rattle.fy_phrase.specs.declared.phrase.DataTy.{DataTy}
use Rattle.fy_derive.specs.Atoms.{data_atom, acceptor_atom}
use Rattle.fy_derive.specs.Derivations.{PlainDerivation, by_ns}
use Rattle.fy_derive.specs.Least.{some_data, has_operands, has_assignment}
use Rattle.fy_least.specs.declared.found.Found.{Found}
use Rattle.fy_least.specs.Derived.{rule_of_both}
use Rattle.fy_least.specs.Visited.{as_atom, has_atom}

-- both parts have their atoms
abbrev pub have_atoms : Found → Found → Atom → Atom → Bool
have_atoms f g a b = has_atom f a && has_atom g b

-- `compl` where the command has it, else `comm`
abbrev pub end_of_command : Found → Atom
end_of_command f = if has_atom f Compl then Compl else Comm

-- some data type serves an operator, or an assignment
abbrev pub serves_operator : BinOp → Found → Found → Bool
serves_operator op f g = some_data (has_operands op (plain_paths f.paths) (plain_paths g.paths))

abbrev pub serves_assignment : Found → Found → Bool
serves_assignment f g = some_data (has_assignment (plain_paths f.paths) (plain_paths g.paths))

-- the premises are taken at a data type that serves, where one does
abbrev pub IsOperated : BinOp → Found → Found → PlainDerivation → Type 0
IsOperated op f g made = ((serves_operator op f g ≡ false) × (made ≡ by_ns))
    ⊎ ((D : DataTy) × (has_operands op (plain_paths f.paths) (plain_paths g.paths) D ≡ true)
    × (made ≡ rule_of_both (as_atom (data_atom D) f) (as_atom (data_atom D) g)))

abbrev pub IsAssigned : Found → Found → PlainDerivation → Type 0
IsAssigned f g made = ((serves_assignment f g ≡ false) × (made ≡ by_ns))
    ⊎ ((D : DataTy) × (has_assignment (plain_paths f.paths) (plain_paths g.paths) D ≡ true)
    × (made ≡ rule_of_both (as_atom (acceptor_atom D) f) (as_atom (data_atom D) g)))
