use Rattle.fy_reasons.proofs.expected.+halved.Given as goal

-- parts stand before what they are parts of
abbrev pub decreases-halved : goal.decreases-halved
decreases-halved l = l.number
