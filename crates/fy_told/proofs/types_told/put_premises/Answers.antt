use Rattle.std.proofs.Common.{◌≡◌, ◌+◌, ◌-◌, ◌<◌, ◌≤◌, ◌++◌, append_assoc, arith, ap, codes, decimal, drop, get_or, length, map, min, sym, take, ◌∙◌}
use Rattle.std.proofs.lemmas.List.{append-nil}
use Rattle.fy_derive.specs.Derivations.{nodes}
use Rattle.fy_derive.specs.Reading.{derivations_from, plain_derivation}
use Rattle.fy_derive.specs.Shown.{all_shown, shown}
use Rattle.fy_show.specs.Reading.{known_in}
use Rattle.fy_told.specs.ReasonTexts.{premise_lines, premise_numbers, told, type_told}
use Rattle.fy_told.proofs.StepLemmas.{items-room, premise-end, premise-step}
use Rattle.fy_told.proofs.types_told.put_premises.Goals as goal

pub loop-i-preserved : goal.loop-i-preserved
loop-i-preserved c =
    let xs = c.args.items.now in
    let ks = c.args.done.now in
    let i = c.loop-i.i in
    let x = c.index-items-i.result in
    let k = known_in c.args.view.now in
    let h : i < length xs = omega (arith, c.loop-i-test.true, c.min.ensures, c.min-i-end.ensures) in
    let g : i < length ks = omega (arith, c.loop-i-test.true, c.min.ensures, c.min-i-end.ensures) in
    let l : i < 6 = omega (arith, c.loop-i-test.true, c.min.ensures, c.min-i-end.ensures) in
    let here = items-room xs i x h c.index-items-i.is in
    let next : c.saturating_add-number.result ≡ c.loop-i.number + nodes (plain_derivation x) =
    omega (arith, c.saturating_add-number.ensures, c.nodes_of.ensures, here, c.loop-i.invariant.room) in
    let line = told (codes "premise " ++ decimal (i + 1) ++ codes " (node " ++ decimal c.loop-i.number ++ codes ") concludes " ++ type_told k (shown c.args.table.now (get_or ks i 0))) in
    record {
      room = omega (arith, next, here, c.loop-i.invariant.room);
      lines =
          ap (λ t. t ++ premise_lines k (i + 1 + 1) (take (6 - (i + 1)) (premise_numbers c.saturating_add-number.result (derivations_from (map plain_derivation (drop (i + 1) xs))))) (all_shown c.args.table.now (drop (i + 1) ks)))
          c.in_ok-put_premise.ensures
          ∙ (append_assoc c.loop-i.text.items line _
          ∙ (ap (λ n. c.loop-i.text.items ++ (line ++ premise_lines k (i + 1 + 1) (take (6 - (i + 1)) (premise_numbers n (derivations_from (map plain_derivation (drop (i + 1) xs))))) (all_shown c.args.table.now (drop (i + 1) ks)))) next
          ∙ (ap (λ t. c.loop-i.text.items ++ t) (sym (premise-step k c.args.table.now xs ks i c.loop-i.number x h g l c.index-items-i.is))
          ∙ c.loop-i.invariant.lines)));
    }

pub returns : goal.returns
returns c =
    let xs = c.args.items.now in
    let ks = c.args.done.now in
    let i = c.loop-i.i in
    let past : min (min (length xs) (length ks)) 6 ≤ i = omega (arith, c.loop-i-test.false, c.min.ensures, c.min-i-end.ensures) in
    sym (append-nil c.loop-i.text.items)
    ∙ (ap (λ t. c.loop-i.text.items ++ t) (sym (premise-end (known_in c.args.view.now) c.args.table.now xs ks i c.loop-i.number past))
    ∙ c.loop-i.invariant.lines)
