use Rattle.std.proofs.Common.{◌≡◌, drop, map}
use Rattle.fy_syntax.specs.Reading.{decl_tree}
use Rattle.fy_expand.specs.Scope.{with_members}
use Rattle.fy_expand.proofs.frame.find_member.Given as goal

abbrev pub invariant-loop-decl : goal.invariant-loop-decl
invariant-loop-decl l =
    with_members l.depth (map decl_tree (drop l.decl-index l.decls)) (λ _. l.older) l.name ≡ with_members l.depth (map decl_tree l.decls) (λ _. l.older) l.name
