use Rattle.std.proofs.Common.{map, sym, ap, ◌∙◌, arith}
use Rattle.std.proofs.lemmas.List.{length-map}
use Rattle.fy_types.specs.declared.types.Ty.{Ty-F, fold-roll-Ty}
use Rattle.fy_types.specs.declared.types.Ty.TheVariants.{rolls-Meet}
use Rattle.fy_types.specs.Types.{PlainType, PlainTypes}
use Rattle.fy_types.specs.Types as types
use Rattle.fy_types.specs.Reading.{plain_type, types_from, ty_step, types_step}
use Rattle.fy_types.proofs.ReadLemmas.{plain_types-at}
use Rattle.fy_read.proofs.LevelLemmas.{meet_all-many}
use Rattle.fy_read.proofs.level.meet_of.Goals as goal
use Rattle.fy_read.proofs.level.meet_of.Goals.{then-len-eq1+in_default, else-len-eq1}

pub returns-clause-ok : goal.returns-clause-ok
returns-clause-ok c =
    let l = c.in_ok-list_of.field-0 in
    let made = ap plain_type (sym (rolls-Meet l)) ∙ fold-roll-Ty PlainType PlainTypes ty_step types_step (Ty-F.Meet l) in
    let all = made ∙ ap types.meet (plain_types-at l ∙ ap (λ ts. types_from (map plain_type ts)) c.in_ok-list_of.ensures.ok) in
    elim c.if-len-eq1.branch [
      | then-len-eq1+in_default w ↦ absurd (omega (arith, w.in_default.ensures.cases.0))
      | else-len-eq1 w ↦ all ∙ (ap (λ v. types.meet (types_from (map plain_type v.items))) w.types-is
          ∙ sym (meet_all-many (map plain_type c.args.types.items)
          (λ e. w.if-len-eq1.false (omega (arith, e, length-map c.args.types.items plain_type, c.args.types.ok.0)))))
    ]
