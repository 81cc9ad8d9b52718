use Rattle.std.proofs.Common.{◌≡◌, arith, rules}
use Rattle.fy_syntax.specs.Reading.{tree_of}
use Rattle.fy_expand.specs.Core.{core}
use Rattle.fy_expand.specs.Frames.{scope_of}
use Rattle.fy_expand.specs.Measures.{measure, prelude_measure}
use Rattle.fy_expand.proofs.WithinLemmas.{shallow-program}
use Rattle.fy_expand.proofs.expansion.within.Goals as goal

pub build-requires : goal.build-requires
build-requires c =
    let s = scope_of c.args.frame.now in
    let tree = tree_of c.args.tree.now in
    let size : c.prelude_size-size.result ≡ prelude_measure (measure (core s tree)) = search rules in
    shallow-program s tree c.prelude_size-size.result c.requires.scope size (omega arith)
