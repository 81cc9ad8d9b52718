use Rattle.fy_link.proofs.OneFault.{sources-one_way}
use Rattle.fy_link.proofs.OneLink.{units-one_way}
use Rattle.fy_link.proofs.OneUnit.{bytes-one_way}
use Rattle.fy_link.proofs.laws.units_are_judged_one_way.Goals as goal

pub returns : goal.returns
returns c = record { sources = sources-one_way; bytes = bytes-one_way; units = units-one_way }
