use Rattle.std.proofs.Common.{◌≡◌, max, map, drop}
use Rattle.fy_syntax.specs.Reading.{decl_tree}
use Rattle.fy_syntax.specs.Nesting.{capped, decls_nesting}
use Rattle.fy_syntax.proofs.depth.nesting_of_decls.Given as goal

abbrev pub invariant-loop-decl : goal.invariant-loop-decl
invariant-loop-decl l =
    max l.greatest (capped (decls_nesting (map decl_tree (drop l.decl-index l.decl-items)))) ≡ capped (decls_nesting (map decl_tree l.decls))
