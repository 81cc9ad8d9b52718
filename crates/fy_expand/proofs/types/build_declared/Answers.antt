use Rattle.std.proofs.Common.{◌≡◌, map, sym, ap, ◌∙◌, arith, rules}
use Rattle.std.proofs.lemmas.List.{length-map}
use Rattle.fy_types.specs.Types.{PlainType}
use Rattle.fy_types.specs.declared.types.Ty.{the_lemmas}
use Rattle.fy_types.specs.declared.types.Ty as ty
use Rattle.fy_types.specs.Reading.{plain_type, plain_types}
use Rattle.fy_syntax.specs.Reading.{decl_tree}
use Rattle.fy_expand.specs.Frames.{scope_of}
use Rattle.fy_expand.proofs.TypeLemmas.{declared-built, meet_of-declared}
use Rattle.fy_expand.proofs.types.build_declared.Goals as goal

pub returns : goal.returns
returns c =
    let types = (scope_of c.args.frame.now).types in
    let decls = c.args.decls.now in
    let read : plain_type (ty.Meet c.loop-decl.made) ≡ PlainType.meet (plain_types c.loop-decl.made) = search (rules, the_lemmas) in
    read
    ∙ ap PlainType.meet (declared-built types c.loop-decl.made decls c.loop-decl.decl-index (omega arith) c.loop-decl.invariant)
    ∙ meet_of-declared types (map decl_tree decls) (λ one. c.if-decls-eq1.false (sym (length-map decls decl_tree) ∙ one))
