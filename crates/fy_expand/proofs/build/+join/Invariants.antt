use Rattle.fy_expand.proofs.build.+join.Given as goal

abbrev pub decreases-join : goal.decreases-join
decreases-join l = l.count
