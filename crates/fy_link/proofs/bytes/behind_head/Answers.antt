use Rattle.std.proofs.Common.{◌++◌}
use Rattle.std.proofs.lemmas.Bool.Decides.{Decides-eqb}
use Rattle.std.proofs.lemmas.Slice.Eq.{strip_prefix_is}
use Rattle.fy_link.specs.UnitBytes.{magic, word}
use Rattle.fy_link.proofs.bytes.behind_head.Goals as goal

pub returns : goal.returns
returns c = strip_prefix_is Decides-eqb c.args.bytes.now (magic ++ word 1) c.strip_prefix.result c.strip_prefix.ensures.cases
