use Rattle.std.proofs.Common.{◌≡◌, ◌++◌, [], map, drop}
use Rattle.fy_syntax.specs.Reading.{decl_tree}
use Rattle.fy_syntax.specs.Print.{decls_text}
use Rattle.fy_syntax.proofs.printer.put_decls.Given as goal

abbrev pub invariant-loop-decl : goal.invariant-loop-decl
invariant-loop-decl l =
    l.text.items ++ decls_text l.names l.lead (map decl_tree (drop l.decl-index l.decl-items))
    ≡ l.initial.text.items ++ decls_text l.names [] (map decl_tree l.decls)
