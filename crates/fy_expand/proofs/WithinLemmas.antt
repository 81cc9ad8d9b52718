-- A program within the limit on nesting is shallow.
use Rattle.std.proofs.Common.{◌≡◌, ◌≤◌, sym, ap, ◌∙◌, arith}
use Rattle.fy_syntax.specs.Trees as written
use Rattle.fy_expand.specs.declared.size.Size.{Size}
use Rattle.fy_expand.specs.Scope.{Scope, program_scope}
use Rattle.fy_expand.specs.Front.{front}
use Rattle.fy_expand.specs.Core.{core}
use Rattle.fy_expand.specs.Built.{IsShallow}
use Rattle.fy_expand.specs.Measures.{measure, prelude_measure}
use Rattle.fy_expand.proofs.MeasureLemmas.{measure-in_prelude}

-- the program is shallow
pub shallow-program : (s : Scope) (tree : written.Tree) (size : Size) → s ≡ program_scope → size ≡ prelude_measure (measure (core s tree)) → size.nesting ≤ 512 → IsShallow s (core s tree)
shallow-program s tree size h k l =
    let depth : s.depth ≡ 5 = ap (λ (t : Scope). t.depth) h in
    let total = k ∙ sym (measure-in_prelude (front tree) (core s tree)) in
    let nests = ap (λ (x : Size). x.nesting) total in
    record { bound = omega arith }
