use Rattle.fy_forms.proofs.CommonLemmas.{end-then, end-else}
use Rattle.fy_forms.proofs.join_forms.common_end.Goals as goal

pub returns-then-is_end_below : goal.returns-then-is_end_below
returns-then-is_end_below c = end-then c.args.a c.args.b c.if-is_end_below.true c.is_end_below.ensures.0

pub returns-else-is_end_below : goal.returns-else-is_end_below
returns-else-is_end_below c = end-else c.args.a c.args.b c.if-is_end_below.false c.is_end_below.ensures.1 c.requires
