use Rattle.fy_causes.proofs.hollow.+hollow.Given as goal

abbrev pub decreases-hollow : goal.decreases-hollow
decreases-hollow l = l.left
