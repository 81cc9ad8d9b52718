use Rattle.fy_build.proofs.MachineRuns.{RunLaws}
use Rattle.fy_build.proofs.Whole.{code_runs}
use Rattle.fy_build.proofs.laws.code_runs_as_copy_rule.Goals as goal

pub returns : goal.returns
returns c =
    let laws : RunLaws = record { split = c.runs_split.ensures; grows = c.output_grows.ensures; stays = c.ended_runs_stay.ensures } in
    code_runs laws c.selections_follow.ensures
