use Rattle.std.proofs.Common.{arith, ap, ◌∙◌}
use Rattle.fy_expand.specs.Scope.{Scope}
use Rattle.fy_expand.specs.Frames.{scope_of}
use Rattle.fy_expand.proofs.ScopeLemmas.{scope_of-Defs, scope_of-Hidden, depth_under-defs_from, behind_all-depth}
use Rattle.fy_expand.proofs.frame.+depth_in.Goals as goal

pub returns-in-Defs : goal.returns-in-Defs
returns-in-Defs t c =
    let here = ap (λ f. (scope_of f).depth) c.in-Defs.is ∙ ap (λ (s : Scope). s.depth) (scope_of-Defs c.in-Defs.defs c.in-Defs.outer) in
    let all = depth_under-defs_from (scope_of c.in-Defs.outer.now).depth c.in-Defs.defs.now in
    omega (arith, here, all, c.count.ensures)

pub returns-in-Hidden : goal.returns-in-Hidden
returns-in-Hidden t c =
    let here = ap (λ f. (scope_of f).depth) c.in-Hidden.is ∙ ap (λ (s : Scope). s.depth) (scope_of-Hidden c.in-Hidden.count_of c.in-Hidden.outer) in
    let all = behind_all-depth c.in-Hidden.count_of (scope_of c.in-Hidden.outer.now) in
    omega (arith, here, all, c.count-in-Hidden.ensures)
