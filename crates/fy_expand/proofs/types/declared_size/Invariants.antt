use Rattle.std.proofs.Common.{◌≡◌, drop, map}
use Rattle.fy_syntax.specs.Reading.{decl_tree}
use Rattle.fy_expand.specs.Core.{declared}
use Rattle.fy_expand.specs.Measures.{beside, types_measure, none}
use Rattle.fy_expand.specs.Frames.{scope_of}
use Rattle.fy_expand.proofs.types.declared_size.Given as goal

abbrev pub invariant-loop-decl : goal.invariant-loop-decl
invariant-loop-decl l = record {
  total : beside l.size (types_measure (declared (scope_of l.frame).types (map decl_tree (drop l.decl-index l.decls))))
      ≡ types_measure (declared (scope_of l.frame).types (map decl_tree l.decls));
  fits : beside l.size none ≡ l.size;
}
