use Rattle.fy_why.proofs.text.+put_blame_in.Given as goal

abbrev pub decreases-put_blame_in : goal.decreases-put_blame_in
decreases-put_blame_in l = l.count
