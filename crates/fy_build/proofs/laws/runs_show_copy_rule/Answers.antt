use Rattle.fy_build.proofs.MachineRuns.{RunLaws}
use Rattle.fy_build.proofs.Shown.{runs_show}
use Rattle.fy_build.proofs.laws.runs_show_copy_rule.Goals as goal

pub returns : goal.returns
returns c =
    let laws : RunLaws = record { split = c.runs_split.ensures; grows = c.output_grows.ensures; stays = c.ended_runs_stay.ensures } in
    runs_show laws
