use Rattle.fy_why.proofs.scopes.+put_phrase_in.Given as goal

-- fewer phrases are left
abbrev pub decreases-put_phrase_in : goal.decreases-put_phrase_in
decreases-put_phrase_in l = l.count
