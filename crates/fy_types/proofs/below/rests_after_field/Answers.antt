use Rattle.std.proofs.Common.{sym, subst, arith}
use Rattle.fy_types.specs.Paths.{no_paths, pick}
use Rattle.fy_types.specs.Rests.{listed, Adds}
use Rattle.fy_types.proofs.RestLemmas.{Adds-then, listed-item, largest-item}
use Rattle.fy_types.proofs.below.rests_after_field.Goals as goal

pub loop-ty-preserved : goal.loop-ty-preserved
loop-ty-preserved c =
    let size = largest-item c.args.list.now c.loop-ty.ty-index c.ty-item.result c.loop-ty-test.true c.ty-item.is in
    record {
      rests =
          subst (λ P. Adds (pick c.args.name) no_paths (listed c.add_rests_after_field.new.made.items) P)
          (sym (listed-item c.args.list.now c.loop-ty.ty-index c.ty-item.result c.loop-ty-test.true c.ty-item.is))
          (Adds-then (pick c.args.name) _ _ _ _ _ c.loop-ty.invariant.rests c.in_ok-add_rests_after_field.ensures.rests);
      size = omega (arith, size, c.in_ok-add_rests_after_field.ensures.size, c.loop-ty.invariant.size);
    }
