use Rattle.std.proofs.Common.{◌+◌, ◌∙◌, arith, rules}
use Rattle.fy_expand.proofs.ScopeLemmas.{with_defs-more, with_defs-rest}
use Rattle.fy_expand.proofs.frame.find_def.Goals as goal

pub loop-def-preserved : goal.loop-def-preserved
loop-def-preserved c = record {
  reached = search rules;
  exact = λ few.
      with_defs-rest c.args.defs.now c.loop-def.def-index (c.args.depth + c.loop-def.def-index) (c.args.depth + (c.loop-def.def-index + 1)) c.def-item.result c.args.older c.args.name (omega arith) (search rules) c.def-item.is (search rules)
      ∙ c.loop-def.invariant.exact few;
  kind =
      with_defs-more c.args.defs.now c.loop-def.def-index c.def-item.result c.args.older c.args.name (search rules) c.def-item.is (search rules)
      ∙ c.loop-def.invariant.kind;
}
