use Rattle.std.proofs.Common.{◌≡◌, drop}
use Rattle.fy_phrase.specs.Reads.{reads}
use Rattle.fy_expand.specs.Core.{selected}
use Rattle.fy_expand.proofs.build.with_selections.Given as goal

abbrev pub invariant-loop-name : goal.invariant-loop-name
invariant-loop-name l = selected l.at (reads l.made) (drop l.name-index l.names) ≡ selected l.at (reads l.fn.part) l.names
