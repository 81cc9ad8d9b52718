use Rattle.std.proofs.Common.{◌++◌, ◌∷◌, [], map, take, ap, sym, ◌∙◌, subst}
use Rattle.std.proofs.lemmas.List.{take_more, map_push, take_all}
use Rattle.fy_types.specs.Reading.{plain_type, types_from}
use Rattle.fy_derive.specs.Shown.{AreIn}
use Rattle.fy_derive.proofs.Standings.{Extends-trans, AreIn-kept, AreIn-push, all_shown-push}
use Rattle.fy_derive.proofs.reading.+reading.Goals as goal

pub numbers_of_types-loop-ty-preserved : goal.numbers_of_types-loop-ty-preserved
numbers_of_types-loop-ty-preserved t c =
    let inv = c.loop-ty.invariant in
    let one = c.in_ok-number_of_type.ensures in
    let items = c.as_slice-ty-items.result.now in
    record {
      within = subst (λ ks. AreIn c.number_of_type.new.table ks) (sym c.in_ok-push.ensures.items)
          (AreIn-push c.in_ok-number_of_type.field-0 (AreIn-kept one.extends inv.within) one.within);
      stands = all_shown-push c.loop-ty.numbers.items c.push.new.self.items c.in_ok-number_of_type.field-0 _ one.extends inv.within
          c.in_ok-push.ensures.items one.stands
          ∙ (ap (λ As. As ++ plain_type c.ty-item.result ∷ []) inv.stands
          ∙ (sym (map_push plain_type (take c.loop-ty.ty-index items) c.ty-item.result)
          ∙ (ap (λ x. map plain_type (take c.loop-ty.ty-index items ++ x ∷ [])) c.ty-item.is
          ∙ ap (map plain_type) (sym (take_more items c.loop-ty.ty-index c.ty-item.result c.loop-ty-test.true)))));
      extends = Extends-trans inv.extends one.extends;
    }

pub numbers_of_types-returns-clause-stands : goal.numbers_of_types-returns-clause-stands
numbers_of_types-returns-clause-stands t c =
    let items = c.as_slice-ty-items.result.now in
    ap types_from (c.loop-ty.invariant.stands ∙ ap (map plain_type) (take_all c.loop-ty.ty-index items c.loop-ty-test.false))
    ∙ sym c.as_slice-ty-items.ensures.reading
