use Rattle.std.proofs.Common.{◌≡◌, [], drop, take, map}
use Rattle.fy_syntax.specs.Reading.{decl_tree}
use Rattle.fy_expand.specs.Faults.{decls_fault}
use Rattle.fy_expand.specs.Frames.{scope_of, decl_names}
use Rattle.fy_expand.proofs.check.check_decls.Given as goal

abbrev pub invariant-loop-i : goal.invariant-loop-i
invariant-loop-i l =
    decls_fault (scope_of l.frame).types (decl_names (take l.i l.decls)) (map decl_tree (drop l.i l.decls)) ≡ decls_fault (scope_of l.frame).types [] (map decl_tree l.decls)
