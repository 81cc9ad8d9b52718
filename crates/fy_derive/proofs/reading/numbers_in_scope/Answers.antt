use Rattle.std.proofs.Common.{◌+◌, ◌-◌, ◌<◌, ◌≡◌, length, get_or, drop, map, reverse, [], ◌∷◌, ◌++◌, ap, sym, ◌∙◌, subst, arith}
use Rattle.std.proofs.lemmas.Grind.{reverse_onto}
use Rattle.fy_types.specs.Reading.{plain_type}
use Rattle.fy_types.proofs.Steps.{drop_item}
use Rattle.fy_derive.specs.Shown.{AreIn}
use Rattle.fy_derive.proofs.Standings.{AreIn-kept, AreIn-push, all_shown-push}
use Rattle.fy_derive.proofs.reading.numbers_in_scope.Goals as goal

pub loop-i-preserved : goal.loop-i-preserved
loop-i-preserved c =
    let inv = c.loop-i.invariant in
    let one = c.in_ok-number_of_type.ensures in
    let types = c.as_slice-types.result.now in
    let j = c.loop-i.i - 1 in
    let here : j < length types = omega (arith, inv.place, c.loop-i-test.true) in
    let next : drop (j + 1) types ≡ drop c.loop-i.i types = ap (λ k. drop k types) (omega (arith, c.loop-i-test.true)) in
    record {
      place = omega (arith, inv.place);
      within = subst (λ ks. AreIn c.number_of_type.new.table ks) (sym c.in_ok-push.ensures.items)
          (AreIn-push c.in_ok-number_of_type.field-0 (AreIn-kept one.extends inv.within) one.within);
      stands = all_shown-push c.loop-i.numbers.items c.push.new.self.items c.in_ok-number_of_type.field-0 _ one.extends inv.within
          c.in_ok-push.ensures.items one.stands
          ∙ (ap (λ As. As ++ plain_type c.index-types-i.result ∷ []) (inv.stands ∙ ap (λ ts. reverse (map plain_type ts)) (sym next))
          ∙ (sym (reverse_onto (map plain_type (drop (j + 1) types)) (plain_type c.index-types-i.result) [])
          ∙ ap reverse (sym (drop_item plain_type types j c.index-types-i.result here c.index-types-i.is))));
    }
