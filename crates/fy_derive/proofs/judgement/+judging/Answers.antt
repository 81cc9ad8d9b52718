use Rattle.std.proofs.Common.{◌≡◌, ◌≢◌, ◌+◌, ◌<◌, [], length, ℕ, List, ◌∷◌, ◌++◌, map, drop, sym, ap, ◌∙◌, subst, arith, refl, Some, None, IfSome, option_map}
use Rattle.std.proofs.lemmas.List.{length_push}
use Rattle.std.proofs.lemmas.Result.{err_from_is_err_and}
use Rattle.fy_types.specs.Types.{PlainType, arrow}
use Rattle.fy_types.proofs.Steps.{drop_item}
use Rattle.fy_phrase.specs.Reads.{reads}
use Rattle.fy_phrase.specs.Premises.{plain_binder, premise_shown}
use Rattle.fy_derive.specs.Derivations.{nodes, all_nodes, count}
use Rattle.fy_derive.specs.Reading.{plain_derivation, plain_derivations, derivations_from}
use Rattle.fy_derive.specs.Rules.{premises, conclusion}
use Rattle.fy_derive.specs.Judging.{judged, each_judged, concludes, AllJudged, then_others, at_node}
use Rattle.fy_derive.specs.Shown.{AreIn, total, shown, all_shown}
use Rattle.fy_derive.specs.Contexts.{numbers}
use Rattle.fy_derive.proofs.Standings.{Extends-trans, AreIn-kept, AreIn-push, all_shown-push, all_shown-kept}
use Rattle.fy_derive.proofs.ContextLemmas.{numbers-under}
use Rattle.fy_derive.proofs.ReadLemmas.{count-in}
use Rattle.fy_derive.proofs.DerivationSizes.{member_size}
use Rattle.fy_derive.proofs.StepLemmas.{stops_along, stop_out, stop_in, alt_step, rule_step, rule_misfit, under-kept, each_step}
use Rattle.fy_derive.proofs.judgement.+judging.Goals as goal

pub judge-returns-in_err-rest-in-Alt-clause-judged : goal.judge-returns-in_err-rest-in-Alt-clause-judged
judge-returns-in_err-rest-in-Alt-clause-judged t c =
    let p = err_from_is_err_and c.from_residual-in_err-rest-in-Alt.result c.from_residual-in_err-rest-in-Alt.ensures.1 in
    let domain = c.in_ok-domain-in-Alt.ensures in
    rw (p.1, p.2)
    (stops_along c.judge-in-Alt.new.table c.judge-in-Alt.new.table c.in_err-rest-in-Alt.field-0.0 _ _
    (λ k h. alt_step c.args.table.now c.number_of_type-in-Alt.new.table (numbers c.args.context.now) _ c.in_ok-domain-in-Alt.domain
    c.args.d.now c.deref-in-Alt.result.now c.in-Alt.index c.in-Alt.inner c.args.p.now c.in-Some.body.now c.in-Some.ty.now c.args.next.now _
    c.in-Alt.is c.deref-in-Alt.ensures c.in-Some.ensures domain.extends c.requires.context domain.stands (numbers-under _ _ _ refl) h)
    c.in_err-rest-in-Alt.ensures.judged)

pub judge-returns-in-Alt-clause-judged : goal.judge-returns-in-Alt-clause-judged
judge-returns-in-Alt-clause-judged t c =
    let domain = c.in_ok-domain-in-Alt.ensures in
    let rest = c.in_ok-rest-in-Alt.ensures in
    let number = c.in_ok-number-in-Alt.ensures in (
      number.within,
      alt_step c.args.table.now c.number_of_type-in-Alt.new.table (numbers c.args.context.now) _ c.in_ok-domain-in-Alt.domain
          c.args.d.now c.deref-in-Alt.result.now c.in-Alt.index c.in-Alt.inner c.args.p.now c.in-Some.body.now c.in-Some.ty.now c.args.next.now _
          c.in-Alt.is c.deref-in-Alt.ensures c.in-Some.ensures domain.extends c.requires.context domain.stands (numbers-under _ _ _ refl) rest.judged.1
          ∙ ap concludes (sym (number.stands
          ∙ ap (λ A. arrow A (shown c.judge-in-Alt.new.table c.in_ok-rest-in-Alt.rest))
          (rest.extends.same c.in_ok-domain-in-Alt.domain domain.within ∙ domain.stands))),
    )

pub judge-returns-then-len-clause-judged : goal.judge-returns-then-len-clause-judged
judge-returns-then-len-clause-judged t c =
    let unfit : count (plain_derivations c.in-Rule.list) ≢ length c.in-Some-2.premises.items =
    λ e. c.if-len.true (c.len.ensures ∙ (e ∙ (sym c.in-Some-2.premises.ok.0 ∙ sym c.len-in-Rule.ensures))) in
    rule_misfit (all_shown c.args.table.now (numbers c.args.context.now)) c.args.d.now c.in-Rule.list c.args.p.now c.args.next.now
    c.in-Some-2.premises.items c.in-Rule.is
    (subst (λ o. option_map (λ v. map premise_shown v.items) o ≡ premises (reads c.args.p.now)) c.in-Some-2.is c.in_ok-premises-in-Rule.ensures)
    unfit

pub judge-returns-in_err-done-in-Rule-clause-judged : goal.judge-returns-in_err-done-in-Rule-clause-judged
judge-returns-in_err-done-in-Rule-clause-judged t c =
    let p = err_from_is_err_and c.from_residual-in_err-done-in-Rule.result c.from_residual-in_err-done-in-Rule.ensures.1 in
    let fit : count (plain_derivations c.in-Rule.list) ≡ length c.deref-in-Rule.result.now =
    sym c.len.ensures ∙ (c.if-len.false ∙ (c.len-in-Rule.ensures ∙ sym c.deref-in-Rule.ensures.len)) in
    let asked : Some (map premise_shown c.deref-in-Rule.result.now) ≡ premises (reads c.args.p.now) =
    ap (λ xs. Some (map premise_shown xs)) c.deref-in-Rule.ensures.value
    ∙ subst (λ o. option_map (λ v. map premise_shown v.items) o ≡ premises (reads c.args.p.now)) c.in-Some-2.is c.in_ok-premises-in-Rule.ensures in
    rw (p.1, p.2)
    (stop_out c.judge_each-in-Rule.new.table c.judge_each-in-Rule.new.table c.in_err-done-in-Rule.field-0.0 _ _
    (λ k h. rule_step (all_shown c.args.table.now (numbers c.args.context.now)) c.args.d.now c.in-Rule.list c.args.p.now c.args.next.now c.deref-in-Rule.result.now _
    c.in-Rule.is asked fit h)
    c.in_err-done-in-Rule.ensures.judged)

pub judge-returns-in-Some-3-clause-judged : goal.judge-returns-in-Some-3-clause-judged
judge-returns-in-Some-3-clause-judged t c =
    let u = c.args.table.now in
    let v = c.judge_each-in-Rule.new.table in
    let G = numbers c.args.context.now in
    let fit : count (plain_derivations c.in-Rule.list) ≡ length c.deref-in-Rule.result.now =
    sym c.len.ensures ∙ (c.if-len.false ∙ (c.len-in-Rule.ensures ∙ sym c.deref-in-Rule.ensures.len)) in
    let asked : Some (map premise_shown c.deref-in-Rule.result.now) ≡ premises (reads c.args.p.now) =
    ap (λ xs. Some (map premise_shown xs)) c.deref-in-Rule.ensures.value
    ∙ subst (λ o. option_map (λ v. map premise_shown v.items) o ≡ premises (reads c.args.p.now)) c.in-Some-2.is c.in_ok-premises-in-Rule.ensures in
    let concluded : conclusion (all_shown u G) (reads c.args.p.now) (all_shown v c.in_ok-done-in-Rule.done.items)
    ≡ Some (shown c.conclusion.new.table c.in-Some-3.number) =
    ap (λ As. conclusion As (reads c.args.p.now) (all_shown v c.in_ok-done-in-Rule.done.items)) (sym (all_shown-kept G c.in_ok-done-in-Rule.ensures.extends c.requires.context))
    ∙ (ap (λ ks. conclusion (all_shown v G) (reads c.args.p.now) (all_shown v ks)) (sym c.deref-in-Rule-2.ensures.value)
    ∙ (sym c.in_ok-number-in-Rule.ensures.shown ∙ ap (option_map (shown c.conclusion.new.table)) c.in-Some-3.is)) in (
      subst (λ o. IfSome o (λ k. k < total c.conclusion.new.table)) c.in-Some-3.is c.in_ok-number-in-Rule.ensures.within,
      rule_step (all_shown u G) c.args.d.now c.in-Rule.list c.args.p.now c.args.next.now c.deref-in-Rule.result.now _
          c.in-Rule.is asked fit c.in_ok-done-in-Rule.ensures.judged.1
          ∙ ap (at_node c.args.next.now) concluded,
    )

pub judge-returns-clause-judged : goal.judge-returns-clause-judged
judge-returns-clause-judged t c =
    let u = c.args.table.now in
    let v = c.judge_each-in-Rule.new.table in
    let G = numbers c.args.context.now in
    let fit : count (plain_derivations c.in-Rule.list) ≡ length c.deref-in-Rule.result.now =
    sym c.len.ensures ∙ (c.if-len.false ∙ (c.len-in-Rule.ensures ∙ sym c.deref-in-Rule.ensures.len)) in
    let asked : Some (map premise_shown c.deref-in-Rule.result.now) ≡ premises (reads c.args.p.now) =
    ap (λ xs. Some (map premise_shown xs)) c.deref-in-Rule.ensures.value
    ∙ subst (λ o. option_map (λ v. map premise_shown v.items) o ≡ premises (reads c.args.p.now)) c.in-Some-2.is c.in_ok-premises-in-Rule.ensures in
    let concluded : conclusion (all_shown u G) (reads c.args.p.now) (all_shown v c.in_ok-done-in-Rule.done.items) ≡ None =
    ap (λ As. conclusion As (reads c.args.p.now) (all_shown v c.in_ok-done-in-Rule.done.items)) (sym (all_shown-kept G c.in_ok-done-in-Rule.ensures.extends c.requires.context))
    ∙ (ap (λ ks. conclusion (all_shown v G) (reads c.args.p.now) (all_shown v ks)) (sym c.deref-in-Rule-2.ensures.value)
    ∙ (sym c.in_ok-number-in-Rule.ensures.shown ∙ ap (option_map (shown c.conclusion.new.table)) c.in-None.is)) in
    rule_step (all_shown u G) c.args.d.now c.in-Rule.list c.args.p.now c.args.next.now c.deref-in-Rule.result.now _
    c.in-Rule.is asked fit c.in_ok-done-in-Rule.ensures.judged.1
    ∙ ap (at_node c.args.next.now) concluded

pub judge_each-bounds-premises-i : goal.judge_each-bounds-premises-i
judge_each-bounds-premises-i t c =
    omega (arith, c.requires.all, count-in c.args.list.now, ap length c.as_slice-items.ensures.members, c.loop-i-test.true)

pub judge_each-under-requires-clause-context : goal.judge_each-under-requires-clause-context
judge_each-under-requires-clause-context t c = AreIn-kept c.loop-i.invariant.extends c.requires.context

pub judge_each-under-requires-clause-done : goal.judge_each-under-requires-clause-done
judge_each-under-requires-clause-done t c = subst (λ ks. AreIn c.loop-i.table ks) (sym c.deref.ensures.value) c.loop-i.invariant.within

pub judge_each-judge-requires : goal.judge_each-judge-requires
judge_each-judge-requires t c =
    let inv = c.loop-i.invariant in
    let left : all_nodes (derivations_from (map plain_derivation (drop c.loop-i.i c.as_slice-items.result.now)))
    ≡ nodes (plain_derivation c.index-items-i.result) + all_nodes (derivations_from (map plain_derivation (drop (c.loop-i.i + 1) c.as_slice-items.result.now))) =
    ap (λ ds. all_nodes (derivations_from ds)) (drop_item plain_derivation c.as_slice-items.result.now c.loop-i.i c.index-items-i.result c.loop-i-test.true c.index-items-i.is) in
    let deep = member_size c.args.list.now c.loop-i.i c.index-items-i.result
    (rw c.as_slice-items.ensures.members at c.loop-i-test.true) (rw c.as_slice-items.ensures.members at c.index-items-i.is) in
    (omega (arith, deep, c.decreases), (c.in_ok-inside.ensures.within, omega (arith, left, inv.next, c.requires.room)))

pub judge_each-returns-in_err-number-clause-judged : goal.judge_each-returns-in_err-number-clause-judged
judge_each-returns-in_err-number-clause-judged t c =
    let p = err_from_is_err_and c.from_residual-in_err-number.result c.from_residual-in_err-number.ensures.1 in
    let inv = c.loop-i.invariant in
    let G = numbers c.args.context.now in
    let P = c.index-premises-i.result in
    let here : c.loop-i.i < length c.args.premises.now =
    omega (arith, c.requires.all, count-in c.args.list.now, ap length c.as_slice-items.ensures.members, c.loop-i-test.true) in
    let context = under-kept c.args.table.now c.loop-i.table c.under.new.table (plain_binder P.binds) c.loop-i.done.items c.deref.result.now G (numbers c.in_ok-inside.inside)
    c.in_ok-inside.ensures.shown c.deref.ensures.value inv.extends c.requires.context in
    rw (p.1, p.2)
    (stop_in c.judge.new.table c.judge.new.table c.in_err-number.field-0.0 _ _
    (λ k h. sym inv.judged
    ∙ (each_step c.as_slice-items.result.now c.args.premises.now c.loop-i.i c.loop-i.next c.index-items-i.result P
    (all_shown c.args.table.now G) (all_shown c.loop-i.table c.loop-i.done.items) c.loop-i-test.true c.index-items-i.is here c.index-premises-i.is
    ∙ ap (λ z. then_others z (λ A. each_judged (derivations_from (map plain_derivation (drop (c.loop-i.i + 1) c.as_slice-items.result.now)))
    (c.loop-i.next + nodes (plain_derivation c.index-items-i.result)) (all_shown c.args.table.now G)
    (map premise_shown (drop (c.loop-i.i + 1) c.args.premises.now)) (all_shown c.loop-i.table c.loop-i.done.items ++ A ∷ [])))
    (ap (λ As. judged (plain_derivation c.index-items-i.result) c.loop-i.next As (reads P.part.now)) (sym context) ∙ h)))
    c.in_err-number.ensures.judged)

pub judge_each-loop-i-preserved : goal.judge_each-loop-i-preserved
judge_each-loop-i-preserved t c =
    let inv = c.loop-i.invariant in
    let one = c.in_ok-number.ensures in
    let G = numbers c.args.context.now in
    let P = c.index-premises-i.result in
    let items = c.as_slice-items.result.now in
    let here : c.loop-i.i < length c.args.premises.now =
    omega (arith, c.requires.all, count-in c.args.list.now, ap length c.as_slice-items.ensures.members, c.loop-i-test.true) in
    let context = under-kept c.args.table.now c.loop-i.table c.under.new.table (plain_binder P.binds) c.loop-i.done.items c.deref.result.now G (numbers c.in_ok-inside.inside)
    c.in_ok-inside.ensures.shown c.deref.ensures.value inv.extends c.requires.context in
    let grown = Extends-trans c.in_ok-inside.ensures.extends one.extends in
    let left : all_nodes (derivations_from (map plain_derivation (drop c.loop-i.i items)))
    ≡ nodes (plain_derivation c.index-items-i.result) + all_nodes (derivations_from (map plain_derivation (drop (c.loop-i.i + 1) items))) =
    ap (λ ds. all_nodes (derivations_from ds)) (drop_item plain_derivation items c.loop-i.i c.index-items-i.result c.loop-i-test.true c.index-items-i.is) in
    let rest : ℕ → List PlainType → AllJudged = λ n As. each_judged (derivations_from (map plain_derivation (drop (c.loop-i.i + 1) items))) n (all_shown c.args.table.now G)
    (map premise_shown (drop (c.loop-i.i + 1) c.args.premises.now)) As in
    record {
      within = subst (λ ks. AreIn c.judge.new.table ks) (sym c.in_ok-push.ensures.items)
          (AreIn-push c.in_ok-number.number (AreIn-kept grown inv.within) one.judged.0);
      so_far = ap length c.in_ok-push.ensures.items ∙ omega (arith, length_push c.loop-i.done.items c.in_ok-number.number, inv.so_far);
      next = omega (arith, left, inv.next, one.next);
      extends = Extends-trans inv.extends grown;
      judged =
          ap (λ n. rest n (all_shown c.judge.new.table c.push.new.self.items)) one.next
          ∙ (ap (rest (c.loop-i.next + nodes (plain_derivation c.index-items-i.result)))
          (all_shown-push c.loop-i.done.items c.push.new.self.items c.in_ok-number.number (shown c.judge.new.table c.in_ok-number.number) grown inv.within c.in_ok-push.ensures.items refl)
          ∙ (sym (each_step items c.args.premises.now c.loop-i.i c.loop-i.next c.index-items-i.result P
          (all_shown c.args.table.now G) (all_shown c.loop-i.table c.loop-i.done.items) c.loop-i-test.true c.index-items-i.is here c.index-premises-i.is
          ∙ ap (λ z. then_others z (λ A. rest (c.loop-i.next + nodes (plain_derivation c.index-items-i.result)) (all_shown c.loop-i.table c.loop-i.done.items ++ A ∷ [])))
          (ap (λ As. judged (plain_derivation c.index-items-i.result) c.loop-i.next As (reads P.part.now)) (sym context) ∙ one.judged.1))
          ∙ inv.judged));
    }

pub judge_each-returns-clause-length : goal.judge_each-returns-clause-length
judge_each-returns-clause-length t c =
    omega (arith, c.requires.all, count-in c.args.list.now, ap length c.as_slice-items.ensures.members, c.loop-i-test.false, c.loop-i.invariant.so_far, c.loop-i.auto.i-end)
