use Rattle.std.proofs.Common.{◌≡◌, map, sym, ap, ◌∙◌, arith}
use Rattle.std.proofs.lemmas.List.{at_drop_all, length-map}
use Rattle.fy_syntax.specs.Reading.{decl_tree}
use Rattle.fy_expand.specs.Core.{declared}
use Rattle.fy_expand.specs.Measures.{beside, types_measure, under_nodes}
use Rattle.fy_expand.specs.Frames.{scope_of}
use Rattle.fy_expand.proofs.TypeLemmas.{type_measure-declared}
use Rattle.fy_expand.proofs.types.declared_size.Goals as goal

pub returns-else-decls-eq1 : goal.returns-else-decls-eq1
returns-else-decls-eq1 c =
    let types = (scope_of c.args.frame.now).types in
    let decls = c.args.decls.now in
    let last = at_drop_all (λ ds. beside c.loop-decl.size (types_measure (declared types (map decl_tree ds)))) decls c.loop-decl.decl-index (omega arith) in
    let all : c.loop-decl.size ≡ types_measure (declared types (map decl_tree decls)) = sym c.loop-decl.invariant.fits ∙ sym last ∙ c.loop-decl.invariant.total in
    c.under-else-decls-eq1.ensures
    ∙ ap (under_nodes 1) all
    ∙ type_measure-declared types (map decl_tree decls) (λ one. c.if-decls-eq1.false (sym (length-map decls decl_tree) ∙ one))
