use Rattle.std.proofs.Common.{◌≡◌, [], length, map, drop, sym, ap, ◌∙◌, arith}
use Rattle.std.proofs.lemmas.List.{drop_all}
use Rattle.fy_syntax.specs.Reading.{decl_tree, def_of, defs_from}
use Rattle.fy_expand.specs.Frames.{scope_of}
use Rattle.fy_expand.specs.Faults.{fields_fault}
use Rattle.fy_expand.proofs.FaultLemmas.{fields-missing}
use Rattle.fy_expand.proofs.check.+check.Goals as goal

pub check_fields-returns-then-len-decls : goal.check_fields-returns-then-len-decls
check_fields-returns-then-len-decls t c =
    let s = scope_of c.args.frame.now in
    let decls = c.args.decls.now in
    let xs = c.as_slice-def-items.result.now in
    let i = c.loop-i.i in
    let gone : drop i xs ≡ [] = drop_all i xs (omega arith) in
    sym (fields-missing s c.args.in_at decls i (omega (arith, c.len.ensures, ap length c.as_slice-def-items.ensures.members)))
    ∙ sym (ap (λ ys. fields_fault s c.args.in_at (map decl_tree (drop i decls)) (defs_from (map def_of ys))) gone)
    ∙ c.loop-i.invariant
