use Rattle.fy_derive.proofs.RunSafety.{concluded-never_stuck, accepted-never_stuck}
use Rattle.fy_derive.proofs.laws.judged_programs_are_never_stuck.Goals as goal

pub returns-clause-concluded : goal.returns-clause-concluded
returns-clause-concluded c = concluded-never_stuck

pub returns-clause-accepted : goal.returns-clause-accepted
returns-clause-accepted c = accepted-never_stuck
