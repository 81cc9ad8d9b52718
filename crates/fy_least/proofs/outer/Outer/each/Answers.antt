use Rattle.std.proofs.Common.{◌≡◌, true, ◌∙◌, subst}
use Rattle.fy_types.specs.Reading.{plain_type}
use Rattle.fy_memo.proofs.EachLemmas.{same-lists}
use Rattle.fy_least.specs.Outers.{has_once}
use Rattle.fy_least.proofs.outer.Outer.each.Goals as goal

pub returns-in_ok-made-in-Some-clause-ok : goal.returns-in_ok-made-in-Some-clause-ok
returns-in_ok-made-in-Some-clause-ok c =
    c.in_ok-made-in-Some.ensures
    ∙ same-lists _ _ (subst (λ o. has_once o (plain_type c.args.self.now.ty.now) ≡ true) c.in-Some.is c.args.self.now.right)
