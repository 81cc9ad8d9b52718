use Rattle.fy_why.proofs.text.+put_inside.Given as goal

abbrev pub decreases-put_inside : goal.decreases-put_inside
decreases-put_inside l = l.count
