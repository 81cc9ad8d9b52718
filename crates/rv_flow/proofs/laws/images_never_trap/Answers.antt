use Rattle.rv_guard.proofs.Theorem.{guarded_images_never_trap}
use Rattle.rv_flow.proofs.Guarded.{images_are_guarded}
use Rattle.rv_flow.proofs.laws.images_never_trap.Goals as goal

pub returns : goal.returns
returns c = λ code image program input n kind of is. guarded_images_never_trap image program input n kind of.ranges is (images_are_guarded code image of)
