use Rattle.std.proofs.Common.{inr}
use Rattle.fy_tool.proofs.list.list_program.Goals as goal

pub returns-clause-lists : goal.returns-clause-lists
returns-clause-lists g c = inr (record { image = c.in-Ok.image; is = c.in-Ok.ensures.image; did = c.list_image.ensures.did })
