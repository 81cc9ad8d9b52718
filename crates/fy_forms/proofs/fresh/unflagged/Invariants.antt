use Rattle.std.proofs.Common.{◌≡◌, filter, take}
use Rattle.fy_forms.specs.Rows.{lacks_flag}
use Rattle.fy_forms.proofs.fresh.unflagged.Given as goal

abbrev pub invariant-loop-index : goal.invariant-loop-index
invariant-loop-index l = l.news.items ≡ filter (lacks_flag l.flags) (take l.index-index l.indexes)
