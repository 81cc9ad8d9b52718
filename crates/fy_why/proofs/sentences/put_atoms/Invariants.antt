use Rattle.std.proofs.Common.{◌≡◌, ◌++◌, map, drop}
use Rattle.fy_types.specs.Print.{atom_text}
use Rattle.fy_why.specs.Sentences.{or_text}
use Rattle.fy_why.proofs.sentences.put_atoms.Given as goal

-- what is left, behind those so far
abbrev pub invariant-loop-i : goal.invariant-loop-i
invariant-loop-i l = l.text.items ++ or_text (map atom_text (drop l.i l.atoms)) ≡ l.initial.text.items ++ or_text (map atom_text l.atoms)
