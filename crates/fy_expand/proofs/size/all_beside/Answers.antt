use Rattle.std.proofs.Common.{refl}
use Rattle.fy_expand.proofs.MeasureHalves.{none-beside}
use Rattle.fy_expand.proofs.size.all_beside.Goals as goal

pub loop-size-init : goal.loop-size-init
loop-size-init c = record { total = none-beside c.args.sizes.now; fits = refl }
