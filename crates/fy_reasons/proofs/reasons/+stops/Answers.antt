use Rattle.std.proofs.Common.{◌≡◌, ◌≢◌, ◌+◌, ◌<◌, [], length, ℕ, List, ◌∷◌, ◌++◌, map, drop, sym, ap, ◌∙◌, subst, arith, refl, Some, option_map}
use Rattle.std.proofs.lemmas.List.{length-map}
use Rattle.std.proofs.lemmas.Result.{IfOk-weaker}
use Rattle.fy_types.specs.Types.{PlainType}
use Rattle.fy_types.specs.Reading.{plain_type}
use Rattle.fy_types.proofs.Steps.{drop_item}
use Rattle.fy_phrase.specs.Reads.{reads}
use Rattle.fy_phrase.specs.Premises.{plain_binder, premise_shown}
use Rattle.fy_derive.specs.Derivations.{nodes, all_nodes, count}
use Rattle.fy_derive.specs.Reading.{plain_derivation, plain_derivations, derivations_from}
use Rattle.fy_derive.specs.Rules.{premises}
use Rattle.fy_derive.specs.Judging.{under, judged, each_judged, concludes, stops, one_stops, AllJudged, then_others, operands}
use Rattle.fy_derive.specs.Shown.{AreIn, total, shown, all_shown}
use Rattle.fy_derive.specs.Standing.{plain_kind}
use Rattle.fy_derive.specs.Contexts.{numbers}
use Rattle.fy_derive.proofs.Standings.{Extends-trans, AreIn-kept, AreIn-push, AreIn-cons, all_shown-push}
use Rattle.fy_derive.proofs.ContextLemmas.{numbers-under}
use Rattle.fy_derive.proofs.ReadLemmas.{count-in}
use Rattle.fy_derive.proofs.DerivationSizes.{member_size}
use Rattle.fy_derive.proofs.StepLemmas.{under-kept, each_step}
use Rattle.fy_reasons.specs.Reasons.{AllReasoned, judged_so, each_so}
use Rattle.fy_reasons.specs.Reasons as so
use Rattle.fy_reasons.specs.Stopping.{stop_read}
use Rattle.fy_reasons.proofs.StopLemmas.{stops-here, so-concludes}
use Rattle.fy_reasons.proofs.WalkLemmas.{Alt-derivation, Left-derivation, Rule-derivation, alt_size, left_size, rule_size, alt_inner, alt_so, left_inner, rule_inner, rule_so, each_so_step, stop-made}
use Rattle.fy_reasons.proofs.reasons.+stops.Goals as goal

pub stop_among-bounds-premises-i : goal.stop_among-bounds-premises-i
stop_among-bounds-premises-i t c =
    omega (arith, c.requires.all, count-in c.args.list.now, ap length c.as_slice-items.ensures.members, c.loop-i-test.true)

pub stop_among-under-requires-clause-context : goal.stop_among-under-requires-clause-context
stop_among-under-requires-clause-context t c = AreIn-kept c.loop-i.invariant.extends c.requires.context

pub stop_among-under-requires-clause-done : goal.stop_among-under-requires-clause-done
stop_among-under-requires-clause-done t c = subst (λ ks. AreIn c.loop-i.table ks) (sym c.deref.ensures.value) c.loop-i.invariant.within

pub stop_among-stop_in-requires : goal.stop_among-stop_in-requires
stop_among-stop_in-requires t c =
    let inv = c.loop-i.invariant in
    let G = numbers c.args.context.now in
    let P = c.index-premises-i.result in
    let items = c.as_slice-items.result.now in
    let x = c.index-items-i.result in
    let here : c.loop-i.i < length c.args.premises.now =
    omega (arith, c.requires.all, count-in c.args.list.now, ap length c.as_slice-items.ensures.members, c.loop-i-test.true) in
    let context = under-kept c.args.table.now c.loop-i.table c.under.new.table (plain_binder P.binds) c.loop-i.done.items c.deref.result.now G (numbers c.in_ok-inside.inside)
    c.in_ok-inside.ensures.shown c.deref.ensures.value inv.extends c.requires.context in
    let left : all_nodes (derivations_from (map plain_derivation (drop c.loop-i.i items)))
    ≡ nodes (plain_derivation x) + all_nodes (derivations_from (map plain_derivation (drop (c.loop-i.i + 1) items))) =
    ap (λ ds. all_nodes (derivations_from ds)) (drop_item plain_derivation items c.loop-i.i x c.loop-i-test.true c.index-items-i.is) in
    let deep = member_size c.args.list.now c.loop-i.i x
    (rw c.as_slice-items.ensures.members at c.loop-i-test.true) (rw c.as_slice-items.ensures.members at c.index-items-i.is) in
    let whole : then_others (judged (plain_derivation x) c.loop-i.next (under (plain_binder P.binds) (all_shown c.loop-i.table c.loop-i.done.items) (all_shown c.args.table.now G)) (reads P.part.now))
    (λ A. each_judged (derivations_from (map plain_derivation (drop (c.loop-i.i + 1) items))) (c.loop-i.next + nodes (plain_derivation x)) (all_shown c.args.table.now G)
    (map premise_shown (drop (c.loop-i.i + 1) c.args.premises.now)) (all_shown c.loop-i.table c.loop-i.done.items ++ A ∷ [])) ≡ one_stops c.args.wrong =
    sym (each_step items c.args.premises.now c.loop-i.i c.loop-i.next x P
    (all_shown c.args.table.now G) (all_shown c.loop-i.table c.loop-i.done.items) c.loop-i-test.true c.index-items-i.is here c.index-premises-i.is) ∙ inv.judged in (
      omega (arith, deep, c.decreases),
      (
        c.in_ok-inside.ensures.within,
        (
          omega (arith, left, inv.next, c.requires.room),
          ap (λ As. judged (plain_derivation x) c.loop-i.next As (reads P.part.now)) context
              ∙ stops-here (plain_derivation x) (derivations_from (map plain_derivation (drop (c.loop-i.i + 1) items))) c.loop-i.next c.args.wrong (all_shown c.args.table.now G)
              (premise_shown P) (map premise_shown (drop (c.loop-i.i + 1) c.args.premises.now)) (all_shown c.loop-i.table c.loop-i.done.items)
              whole (omega (arith, c.if-wrong-next.true, c.nodes_of.ensures)),
        ),
      ),
    )

pub stop_among-returns-then-wrong-next-clause-stop : goal.stop_among-returns-then-wrong-next-clause-stop
stop_among-returns-then-wrong-next-clause-stop t c =
    let inv = c.loop-i.invariant in
    let G = numbers c.args.context.now in
    let P = c.index-premises-i.result in
    let items = c.as_slice-items.result.now in
    let x = c.index-items-i.result in
    let here : c.loop-i.i < length c.args.premises.now =
    omega (arith, c.requires.all, count-in c.args.list.now, ap length c.as_slice-items.ensures.members, c.loop-i-test.true) in
    let context = under-kept c.args.table.now c.loop-i.table c.under.new.table (plain_binder P.binds) c.loop-i.done.items c.deref.result.now G (numbers c.in_ok-inside.inside)
    c.in_ok-inside.ensures.shown c.deref.ensures.value inv.extends c.requires.context in
    IfOk-weaker c.stop_in.result _ _
    (λ s h. sym inv.reasoned
    ∙ (each_so_step items c.args.premises.now c.loop-i.i c.loop-i.next x P
    (all_shown c.args.table.now G) (all_shown c.loop-i.table c.loop-i.done.items) c.loop-i-test.true c.index-items-i.is here c.index-premises-i.is
    ∙ ap (λ z. so.then_others z (λ A. each_so (derivations_from (map plain_derivation (drop (c.loop-i.i + 1) items))) (c.loop-i.next + nodes (plain_derivation x)) (all_shown c.args.table.now G)
    (map premise_shown (drop (c.loop-i.i + 1) c.args.premises.now)) (all_shown c.loop-i.table c.loop-i.done.items ++ A ∷ [])))
    (ap (λ As. judged_so (plain_derivation x) c.loop-i.next As (reads P.part.now)) (sym context) ∙ h)))
    c.stop_in.ensures.stop

pub stop_among-loop-i-preserved : goal.stop_among-loop-i-preserved
stop_among-loop-i-preserved t c =
    let inv = c.loop-i.invariant in
    let one = c.in_ok-number.ensures in
    let G = numbers c.args.context.now in
    let P = c.index-premises-i.result in
    let items = c.as_slice-items.result.now in
    let x = c.index-items-i.result in
    let n = c.loop-i.next in
    let old = all_shown c.loop-i.table c.loop-i.done.items in
    let here : c.loop-i.i < length c.args.premises.now =
    omega (arith, c.requires.all, count-in c.args.list.now, ap length c.as_slice-items.ensures.members, c.loop-i-test.true) in
    let context = under-kept c.args.table.now c.loop-i.table c.under.new.table (plain_binder P.binds) c.loop-i.done.items c.deref.result.now G (numbers c.in_ok-inside.inside)
    c.in_ok-inside.ensures.shown c.deref.ensures.value inv.extends c.requires.context in
    let left : all_nodes (derivations_from (map plain_derivation (drop c.loop-i.i items)))
    ≡ nodes (plain_derivation x) + all_nodes (derivations_from (map plain_derivation (drop (c.loop-i.i + 1) items))) =
    ap (λ ds. all_nodes (derivations_from ds)) (drop_item plain_derivation items c.loop-i.i x c.loop-i-test.true c.index-items-i.is) in
    let A : PlainType = shown c.judge.new.table c.in_ok-number.number in
    let concluded : judged (plain_derivation x) n (under (plain_binder P.binds) old (all_shown c.args.table.now G)) (reads P.part.now) ≡ concludes A =
    ap (λ As. judged (plain_derivation x) n As (reads P.part.now)) (sym context) ∙ one.judged.1 in
    let more = Extends-trans c.in_ok-inside.ensures.extends one.extends in
    let grown : all_shown c.judge.new.table c.push.new.self.items ≡ old ++ A ∷ [] =
    all_shown-push c.loop-i.done.items c.push.new.self.items c.in_ok-number.number A more inv.within c.in_ok-push.ensures.items refl in
    let rest : ℕ → List PlainType → AllJudged = λ k As. each_judged (derivations_from (map plain_derivation (drop (c.loop-i.i + 1) items))) k (all_shown c.args.table.now G)
    (map premise_shown (drop (c.loop-i.i + 1) c.args.premises.now)) As in
    let rest_so : ℕ → List PlainType → AllReasoned = λ k As. each_so (derivations_from (map plain_derivation (drop (c.loop-i.i + 1) items))) k (all_shown c.args.table.now G)
    (map premise_shown (drop (c.loop-i.i + 1) c.args.premises.now)) As in
    record {
      within = subst (λ ks. AreIn c.judge.new.table ks) (sym c.in_ok-push.ensures.items)
          (AreIn-push c.in_ok-number.number (AreIn-kept more inv.within) one.judged.0);
      next = omega (arith, left, inv.next, one.next);
      extends = Extends-trans inv.extends more;
      judged =
          ap (λ k. rest k (all_shown c.judge.new.table c.push.new.self.items)) one.next
          ∙ (ap (rest (n + nodes (plain_derivation x))) grown
          ∙ (sym (each_step items c.args.premises.now c.loop-i.i n x P
          (all_shown c.args.table.now G) old c.loop-i-test.true c.index-items-i.is here c.index-premises-i.is
          ∙ ap (λ z. then_others z (λ B. rest (n + nodes (plain_derivation x)) (old ++ B ∷ []))) concluded)
          ∙ inv.judged));
      reasoned =
          ap (λ k. rest_so k (all_shown c.judge.new.table c.push.new.self.items)) one.next
          ∙ (ap (rest_so (n + nodes (plain_derivation x))) grown
          ∙ (sym (each_so_step items c.args.premises.now c.loop-i.i n x P
          (all_shown c.args.table.now G) old c.loop-i-test.true c.index-items-i.is here c.index-premises-i.is
          ∙ ap (λ z. so.then_others z (λ B. rest_so (n + nodes (plain_derivation x)) (old ++ B ∷ [])))
          (so-concludes (plain_derivation x) n (under (plain_binder P.binds) old (all_shown c.args.table.now G)) (reads P.part.now) A concluded))
          ∙ inv.reasoned));
    }

pub stop_in-returns-then-wrong-at-clause-stop : goal.stop_in-returns-then-wrong-at-clause-stop
stop_in-returns-then-wrong-at-clause-stop t c =
    let s = c.in_ok-stop.ensures in
    c.in_ok-why.ensures.why
    ∙ ap so.stops (sym (stop-made c.args.table.now c.own_reason.new.table (numbers c.args.context.now) c.in_ok-stop.stop c.args.at (plain_derivation c.args.d.now) (reads c.args.p.now)
    c.in_ok-why.why c.in_ok-why.ensures.extends c.requires.context s.number s.node s.types s.phrase s.why))

pub stop_in-stop_in-requires-in-Alt : goal.stop_in-stop_in-requires-in-Alt
stop_in-stop_in-requires-in-Alt t c =
    let domain = c.in_ok-domain-in-Alt.ensures in
    let size : nodes (plain_derivation c.args.d.now) ≡ 1 + nodes (plain_derivation c.in-Alt.inner.value) = ap nodes (Alt-derivation c.args.d.now c.in-Alt.index c.in-Alt.inner c.in-Alt.is) in
    let same : nodes (plain_derivation c.deref-in-Alt.result.now) ≡ nodes (plain_derivation c.in-Alt.inner.value) = ap (λ y. nodes (plain_derivation y)) c.deref-in-Alt.ensures in (
      omega (arith, alt_size c.args.d.now c.deref-in-Alt.result.now c.in-Alt.index c.in-Alt.inner c.in-Alt.is c.deref-in-Alt.ensures, c.decreases),
      (
        subst (λ ks. AreIn c.number_of_type.new.table ks) (sym (numbers-under _ _ _ refl))
            (AreIn-cons c.in_ok-domain-in-Alt.domain domain.within (AreIn-kept domain.extends c.requires.context)),
        (
          omega (arith, size, same, c.requires.room),
          alt_inner c.args.table.now c.number_of_type.new.table (numbers c.args.context.now) _ c.in_ok-domain-in-Alt.domain c.args.d.now c.deref-in-Alt.result.now
              c.in-Alt.index c.in-Alt.inner (reads c.args.p.now) (reads c.in-Some.body.now) (plain_type c.in-Some.ty.now) c.args.at c.args.wrong
              c.in-Alt.is c.deref-in-Alt.ensures c.in-Some.ensures domain.extends c.requires.context domain.stands (numbers-under _ _ _ refl) c.requires.wrong,
        ),
      ),
    )

pub stop_in-stop_in-requires-in-Left : goal.stop_in-stop_in-requires-in-Left
stop_in-stop_in-requires-in-Left t c =
    let size : nodes (plain_derivation c.args.d.now) ≡ 1 + nodes (plain_derivation c.in-Left.inner.value) = ap nodes (Left-derivation c.args.d.now c.in-Left.inner c.in-Left.is) in
    let same : nodes (plain_derivation c.deref-in-Left.result.now) ≡ nodes (plain_derivation c.in-Left.inner.value) = ap (λ y. nodes (plain_derivation y)) c.deref-in-Left.ensures in (
      omega (arith, left_size c.args.d.now c.deref-in-Left.result.now c.in-Left.inner c.in-Left.is c.deref-in-Left.ensures, c.decreases),
      (
        c.requires.context,
        (
          omega (arith, size, same, c.requires.room),
          left_inner c.args.d.now c.deref-in-Left.result.now c.in-Left.inner c.args.at c.args.wrong (all_shown c.args.table.now (numbers c.args.context.now)) (reads c.args.p.now)
              (reads c.in-Some-operands.left.now) (reads c.in-Some-operands.field-0-1.now) (plain_kind c.in-Some-operands.field-0-2)
              c.in-Left.is c.deref-in-Left.ensures c.in-Some-operands.ensures c.requires.wrong c.if-wrong-at.false,
        ),
      ),
    )

pub stop_in-stop_among-requires-in-Rule : goal.stop_in-stop_among-requires-in-Rule
stop_in-stop_among-requires-in-Rule t c =
    let xs = c.deref-in-Rule.result.now in
    let fit : count (plain_derivations c.in-Rule.list) ≡ length xs =
    sym c.len-in-Rule.ensures ∙ (c.if-len.false ∙ (c.len-in-Rule-2.ensures ∙ sym c.deref-in-Rule.ensures.len)) in
    let asked : Some (map premise_shown xs) ≡ premises (reads c.args.p.now) =
    ap (λ ys. Some (map premise_shown ys)) c.deref-in-Rule.ensures.value
    ∙ subst (λ o. option_map (λ v. map premise_shown v.items) o ≡ premises (reads c.args.p.now)) c.in-Some-2.is c.in_ok-premises-in-Rule.ensures in
    let size : nodes (plain_derivation c.args.d.now) ≡ 1 + all_nodes (plain_derivations c.in-Rule.list) = ap nodes (Rule-derivation c.args.d.now c.in-Rule.list c.in-Rule.is) in (
      omega (arith, rule_size c.args.d.now c.in-Rule.list c.in-Rule.is, c.decreases),
      (
        c.requires.context,
        (
          sym fit,
          (
            omega (arith, size, c.requires.room),
            rule_inner (all_shown c.args.table.now (numbers c.args.context.now)) c.args.d.now c.in-Rule.list c.args.at c.args.wrong (reads c.args.p.now) (map premise_shown xs)
                c.in-Rule.is asked (fit ∙ sym (length-map xs premise_shown)) c.requires.wrong c.if-wrong-at.false,
          ),
        ),
      ),
    )

pub stop_in-returns-in_ok-domain-in-Alt-clause-stop : goal.stop_in-returns-in_ok-domain-in-Alt-clause-stop
stop_in-returns-in_ok-domain-in-Alt-clause-stop t c =
    let domain = c.in_ok-domain-in-Alt.ensures in
    IfOk-weaker c.stop_in-in-Alt.result _ _
    (λ s h. alt_so c.args.table.now c.number_of_type.new.table (numbers c.args.context.now) _ c.in_ok-domain-in-Alt.domain c.args.d.now c.deref-in-Alt.result.now
    c.in-Alt.index c.in-Alt.inner (reads c.args.p.now) (reads c.in-Some.body.now) (plain_type c.in-Some.ty.now) c.args.at (stop_read c.stop_in-in-Alt.new.table s)
    c.in-Alt.is c.deref-in-Alt.ensures c.in-Some.ensures domain.extends c.requires.context domain.stands (numbers-under _ _ _ refl) h)
    c.stop_in-in-Alt.ensures.stop

pub stop_in-returns-else-len-clause-stop : goal.stop_in-returns-else-len-clause-stop
stop_in-returns-else-len-clause-stop t c =
    let xs = c.deref-in-Rule.result.now in
    let fit : count (plain_derivations c.in-Rule.list) ≡ length xs =
    sym c.len-in-Rule.ensures ∙ (c.if-len.false ∙ (c.len-in-Rule-2.ensures ∙ sym c.deref-in-Rule.ensures.len)) in
    let asked : Some (map premise_shown xs) ≡ premises (reads c.args.p.now) =
    ap (λ ys. Some (map premise_shown ys)) c.deref-in-Rule.ensures.value
    ∙ subst (λ o. option_map (λ v. map premise_shown v.items) o ≡ premises (reads c.args.p.now)) c.in-Some-2.is c.in_ok-premises-in-Rule.ensures in
    IfOk-weaker c.stop_among-in-Rule.result _ _
    (λ s h. rule_so (all_shown c.args.table.now (numbers c.args.context.now)) c.args.d.now c.in-Rule.list c.args.at (reads c.args.p.now) (map premise_shown xs)
    (stop_read c.stop_among-in-Rule.new.table s) c.in-Rule.is asked (fit ∙ sym (length-map xs premise_shown)) h)
    c.stop_among-in-Rule.ensures.stop
