-- The demands of the paths of a sequence's variable.
use Rattle.fy_types.proofs.ReadLemmas.{plain_elem-Call, plain_elem-Field}

pub ruleset elements = (plain_elem-Call, plain_elem-Field)
