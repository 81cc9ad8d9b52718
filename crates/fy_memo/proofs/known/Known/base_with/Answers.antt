use Rattle.std.proofs.Common.{sym, ◌∙◌}
use Rattle.std.proofs.lemmas.Slice.Eq.{slice_eq-Decides}
use Rattle.std.specs.Cmp.{booleans_Decides}
use Rattle.fy_memo.proofs.known.Known.base_with.Goals as goal

pub returns-then-eq : goal.returns-then-eq
returns-then-eq c =
    sym ((slice_eq-Decides booleans_Decides _ _ _ c.eq.ensures).0 c.if-eq.true) ∙ (c.as_slice.ensures.value ∙ c.in_ok-own.ensures)
