use Rattle.fy_derive.proofs.RunSafety.{typed-never_stuck}
use Rattle.fy_derive.proofs.laws.typed_programs_are_never_stuck.Goals as goal

pub returns : goal.returns
returns c = typed-never_stuck
