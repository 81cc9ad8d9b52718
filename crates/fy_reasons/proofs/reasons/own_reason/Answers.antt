use Rattle.std.proofs.Common.{◌≡◌, length, map, Some, option_map, sym, ap, ◌∙◌, subst}
use Rattle.std.proofs.lemmas.List.{length-map}
use Rattle.fy_phrase.specs.Reads.{reads}
use Rattle.fy_phrase.specs.Premises.{premise_shown}
use Rattle.fy_derive.specs.Contexts.{numbers}
use Rattle.fy_derive.specs.Derivations.{count}
use Rattle.fy_derive.specs.Reading.{plain_derivations}
use Rattle.fy_derive.specs.Rules.{premises}
use Rattle.fy_derive.specs.Shown.{all_shown}
use Rattle.fy_reasons.proofs.WalkLemmas.{rule_own}
use Rattle.fy_reasons.proofs.reasons.own_reason.Goals as goal

pub returns-in_ok-done-in-Some-2-clause-why : goal.returns-in_ok-done-in-Some-2-clause-why
returns-in_ok-done-in-Some-2-clause-why c =
    let xs = c.deref-in-Some-2.result.now in
    let fit : count (plain_derivations c.in-Rule.list) ≡ length xs =
    sym c.len-in-Some-2.ensures ∙ (c.if-len.false ∙ (c.len-in-Some-2-2.ensures ∙ sym c.deref-in-Some-2.ensures.len)) in
    let asked : Some (map premise_shown xs) ≡ premises (reads c.args.p.now) =
    ap (λ ys. Some (map premise_shown ys)) c.deref-in-Some-2.ensures.value
    ∙ subst (λ o. option_map (λ v. map premise_shown v.items) o ≡ premises (reads c.args.p.now)) c.in-Some-2.is c.in_ok-premises_of-in-Rule.ensures in
    rule_own (all_shown c.args.table.now (numbers c.args.context.now)) c.args.d.now c.in-Rule.list c.args.at (reads c.args.p.now) (map premise_shown xs)
    (all_shown c.judge_each.new.table c.in_ok-done-in-Some-2.done.items) c.in-Rule.is asked (fit ∙ sym (length-map xs premise_shown))
    c.in_ok-done-in-Some-2.ensures.judged.1 c.requires.wrong
