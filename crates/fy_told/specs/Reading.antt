-- What the program's values stand for where a refusal is told.
use Rattle.std.specs.Prelude.{Bool}
use Rattle.fy_phrase.specs.Tree.{Tree}
use Rattle.fy_phrase.specs.Reads.{reads}
use Rattle.fy_told.specs.declared.premise.PremisePart.{PremisePart}

-- what a premise is about, and whether that is under the phrase's binder
abbrev pub premise_read : PremisePart → Bool × Tree
premise_read x = (x.is_inside, reads x.part.now)
