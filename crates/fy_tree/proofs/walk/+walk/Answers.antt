use Rattle.std.proofs.Common.{◌≡◌, ◌+◌, ◌-◌, ◌<◌, ◌≤◌, ◌==◌, if◌then◌else◌, ◌++◌, ℕ, List, [], ◌∷◌, length, map, drop, Bor, Option, Some, None, IfSome, refl, sym, ap, ◌∙◌, subst, eq-eqb, arith}
use Rattle.std.specs.Prelude.{option_map, codes}
use Rattle.std.proofs.lemmas.List.{append-nil}
use Rattle.fy_base.specs.Outside.{Bytes}
use Rattle.fy_types.specs.Types.{PlainType}
use Rattle.fy_types.specs.Reading.{plain_type}
use Rattle.fy_types.proofs.Steps.{drop_item}
use Rattle.fy_phrase.specs.Premises.{plain_binder, premise_shown}
use Rattle.fy_phrase.specs.Reads.{reads}
use Rattle.fy_derive.specs.declared.derivation.Derivation.{Derivation, size-Derivation}
use Rattle.fy_derive.specs.Contexts.{numbers}
use Rattle.fy_derive.specs.Derivations.{all_nodes, count, nodes}
use Rattle.fy_derive.specs.Judging.{judged, under}
use Rattle.fy_derive.specs.Reading.{plain_derivation, plain_derivations, derivations_from}
use Rattle.fy_derive.specs.Rules.{same_type, premises}
use Rattle.fy_derive.specs.Shown.{shown, all_shown, total, AreIn}
use Rattle.fy_derive.specs.Tables.{type_at}
use Rattle.fy_derive.proofs.DerivationSizes.{member_size}
use Rattle.fy_derive.proofs.ReadLemmas.{count-in}
use Rattle.fy_derive.proofs.RuleLemmas.{same_shown, eqb_apart}
use Rattle.fy_derive.proofs.Standings.{Extends-trans, AreIn-kept, AreIn-push, all_shown-kept, all_shown-push}
use Rattle.fy_derive.proofs.StepLemmas.{under-kept}
use Rattle.fy_show.specs.declared.entries.KnownNames.{KnownNames}
use Rattle.fy_show.specs.Fresh.{bound}
use Rattle.fy_show.specs.Reading.{known_in, known_read, scope_in, scope_read}
use Rattle.fy_show.proofs.ScopeLemmas.{scope-inside}
use Rattle.fy_short.specs.Cut.{cut}
use Rattle.fy_told.specs.ReasonTexts.{variable_text}
use Rattle.fy_tree.specs.Annotated.{AnnotatedList, concluded, shown_of, conclusion_of, at_premise}
use Rattle.fy_tree.specs.Lines.{above_part, cut_off, each_lines, inside, lines}
use Rattle.fy_tree.specs.Reading.{below_in, look_in, spot_in, tree_in, tree_of, raised_part}
use Rattle.fy_tree.proofs.ShownLemmas.{root-conclusion}
use Rattle.fy_tree.proofs.TreeLemmas.{put-as, raised-tree, own-tree, part-nodes, raised-sought, raised-same, raised-other, own-sought, own-shown, other-plain, other-latex, three-put, meet-below, alt-below, alt-none, left-below, left-none, right-below, right-none, rule-below, rule-unfit, rule-none, nothing-below, only-lines, each-next, each-shown-end, plain-beneath, bound-beneath, premise-beneath, inside-cut, inside-more}
use Rattle.fy_tree.proofs.walk.+walk.Goals as goal

-- ---- a node

pub put_node-put_raised-requires : goal.put_node-put_raised-requires
put_node-put_raised-requires t c =
    let d = plain_derivation c.args.node.now.derivation.now in
    let e = plain_derivation c.in-Some.inner.now in
    let part : raised_part d ≡ Some e = sym c.part_of.ensures.part ∙ ap (option_map (λ (x : Bor Derivation). plain_derivation x.now)) c.in-Some.is in
    let smaller = subst (λ (o : Option (Bor Derivation)). IfSome o (λ x. size-Derivation x.now < size-Derivation c.args.node.now.derivation.now)) c.in-Some.is c.part_of.ensures.smaller in
    (omega (arith, smaller, c.decreases), (c.requires.context, (omega (arith, part-nodes d e part, c.requires.room), c.requires.node.within)))

pub put_node-put_own-requires : goal.put_node-put_own-requires
put_node-put_own-requires t c =
    let d = plain_derivation c.args.node.now.derivation.now in
    let none : raised_part d ≡ None = sym c.part_of.ensures.part ∙ ap (option_map (λ (x : Bor Derivation). plain_derivation x.now)) c.in-None.is in
    (omega (arith, c.decreases), (c.requires.context, (c.requires.room, (c.requires.node.within, none))))

pub put_node-returns-in-Some-clause-text : goal.put_node-returns-in-Some-clause-text
put_node-returns-in-Some-clause-text t c =
    let v = c.args.view.now in
    let node = c.args.node.now in
    let d = plain_derivation node.derivation.now in
    let e = plain_derivation c.in-Some.inner.now in
    let part : raised_part d ≡ Some e = sym c.part_of.ensures.part ∙ ap (option_map (λ (x : Bor Derivation). plain_derivation x.now)) c.in-Some.is in
    put-as c.put_raised.result c.put_raised.new.text.items c.args.text.now.items _ _ c.put_raised.ensures.text
    (raised-tree (look_in c.args.style v) (known_in v) c.args.stand.now.seek c.sought-seek.result c.args.stand.now.lead.now c.args.stand.now.more c.args.above.now d e node.at
    (all_shown c.args.table.now (numbers c.args.context.now)) (scope_in v) node.added.now (reads node.phrase.now) (shown c.args.table.now node.conclusion) c.sought-seek.ensures c.requires.node.stands part)

pub put_node-returns-in-None-clause-text : goal.put_node-returns-in-None-clause-text
put_node-returns-in-None-clause-text t c =
    let v = c.args.view.now in
    let node = c.args.node.now in
    let d = plain_derivation node.derivation.now in
    let none : raised_part d ≡ None = sym c.part_of.ensures.part ∙ ap (option_map (λ (x : Bor Derivation). plain_derivation x.now)) c.in-None.is in
    put-as c.put_own.result c.put_own.new.text.items c.args.text.now.items _ _ c.put_own.ensures.text
    (own-tree (look_in c.args.style v) (known_in v) c.args.stand.now.seek c.sought-seek.result c.args.stand.now.lead.now c.args.stand.now.more c.args.above.now d node.at
    (all_shown c.args.table.now (numbers c.args.context.now)) (scope_in v) node.added.now (reads node.phrase.now) (shown c.args.table.now node.conclusion) c.sought-seek.ensures c.requires.node.stands none)

-- ---- a subsumption

pub put_raised-put_node-requires : goal.put_raised-put_node-requires
put_raised-put_node-requires t c =
    let one = c.in_ok-conclusion.ensures in
    let kept = all_shown-kept (numbers c.args.context.now) one.extends c.requires.context in (
      omega (arith, c.decreases),
      (
        AreIn-kept one.extends c.requires.context,
        (
          c.requires.room,
          record {
            within = one.within;
            stands = one.stands ∙ ap (λ As. concluded (judged (plain_derivation c.args.inner.now) (c.args.node.now.at + 1) As (reads c.args.node.now.phrase.now))) (sym kept);
          },
        ),
      ),
    )

pub put_raised-put_seen-requires : goal.put_raised-put_seen-requires
put_raised-put_seen-requires t c =
    let one = c.in_ok-conclusion.ensures in
    let kept = all_shown-kept (numbers c.args.context.now) one.extends c.requires.context in (
      omega (arith, c.decreases),
      (
        AreIn-kept one.extends c.requires.context,
        (
          c.requires.room,
          (
            omega (arith, one.extends.more, c.requires.within),
            (
              record {
                within = one.within;
                stands = one.stands ∙ ap (λ As. concluded (judged (plain_derivation c.args.inner.now) (c.args.node.now.at + 1) As (reads c.args.node.now.phrase.now))) (sym kept);
              },
              c.in-None.is,
            ),
          ),
        ),
      ),
    )

pub put_raised-returns-in-Some-clause-text : goal.put_raised-returns-in-Some-clause-text
put_raised-returns-in-Some-clause-text t c =
    let v = c.args.view.now in
    let node = c.args.node.now in
    let stand = c.args.stand.now in
    let look = look_in c.args.style v in
    let kept = all_shown-kept (numbers c.args.context.now) c.in_ok-conclusion.ensures.extends c.requires.context in
    put-as c.put_node.result c.put_node.new.text.items c.args.text.now.items _ _ c.put_node.ensures.text
    (ap (λ As. lines look stand.seek stand.lead.now stand.more [] (shown_of (known_in v) (plain_derivation c.args.inner.now) (node.at + 1) As (scope_in v) node.added.now (reads node.phrase.now))) kept
    ∙ raised-sought look stand.seek c.in-Some.field-0 stand.lead.now stand.more c.args.above.now (spot_in c.args.table.now v node)
    (tree_of c.args.table.now c.args.context.now v node (node.at + 1) (plain_derivation c.args.inner.now)) c.in-Some.is)

pub put_raised-returns-in-None-clause-text : goal.put_raised-returns-in-None-clause-text
put_raised-returns-in-None-clause-text t c =
    let v = c.args.view.now in
    let node = c.args.node.now in
    let stand = c.args.stand.now in
    let look = look_in c.args.style v in
    let e = plain_derivation c.args.inner.now in
    let one = c.in_ok-conclusion.ensures in
    let kept = all_shown-kept (numbers c.args.context.now) one.extends c.requires.context in
    let same = one.extends.same node.conclusion c.requires.within in
    put-as c.put_seen.result c.put_seen.new.text.items c.args.text.now.items _ _ c.put_seen.ensures.text
    (ap (λ As. above_part look stand.seek stand.lead.now stand.more c.args.above.now (spot_in c.concluded.new.table v node) (shown_of (known_in v) e (node.at + 1) As (scope_in v) node.added.now (reads node.phrase.now))) kept
    ∙ ap (λ (A : PlainType). above_part look stand.seek stand.lead.now stand.more c.args.above.now
    (record { number = node.at; node = plain_derivation node.derivation.now; scope = scope_in v; phrase = reads node.phrase.now; added = node.added.now; conclusion = A })
    (tree_of c.args.table.now c.args.context.now v node (node.at + 1) e)) same)

pub put_seen-returns-then-part-node-clause-text : goal.put_seen-returns-then-part-node-clause-text
put_seen-returns-then-part-node-clause-text t c =
    let v = c.args.view.now in
    let node = c.args.node.now in
    let part = c.args.part.now in
    let stand = c.args.stand.now in
    let table = c.args.table.now in
    let G = all_shown table (numbers c.args.context.now) in
    let root = root-conclusion (known_in v) (plain_derivation part.derivation.now) part.at G (scope_in v) part.added.now (reads part.phrase.now) in
    let same = ap (same_type (shown table node.conclusion)) (root ∙ sym c.requires.part.stands)
    ∙ (same_shown table node.conclusion part.conclusion c.requires.within c.requires.part.within ∙ eq-eqb node.conclusion part.conclusion (sym c.if-part-node.true)) in
    put-as c.put_node.result c.put_node.new.text.items c.args.text.now.items _ _ c.put_node.ensures.text
    (raised-same (look_in c.args.style v) stand.seek stand.lead.now stand.more c.args.above.now (spot_in table v node) (tree_in table c.args.context.now v part) c.requires.seen same)

pub put_seen-returns-else-part-node-clause-text : goal.put_seen-returns-else-part-node-clause-text
put_seen-returns-else-part-node-clause-text t c =
    let v = c.args.view.now in
    let node = c.args.node.now in
    let part = c.args.part.now in
    let stand = c.args.stand.now in
    let table = c.args.table.now in
    let G = all_shown table (numbers c.args.context.now) in
    let root = root-conclusion (known_in v) (plain_derivation part.derivation.now) part.at G (scope_in v) part.added.now (reads part.phrase.now) in
    let other = ap (same_type (shown table node.conclusion)) (root ∙ sym c.requires.part.stands)
    ∙ (same_shown table node.conclusion part.conclusion c.requires.within c.requires.part.within ∙ eqb_apart node.conclusion part.conclusion c.if-part-node.false) in
    put-as c.put_other.result c.put_other.new.text.items c.args.text.now.items _ _ c.put_other.ensures.text
    (raised-other (look_in c.args.style v) stand.seek stand.lead.now stand.more c.args.above.now (spot_in table v node) (tree_in table c.args.context.now v part) c.requires.seen other)

pub put_other-returns-in_ok-behind-in-Plain-clause-text : goal.put_other-returns-in_ok-behind-in-Plain-clause-text
put_other-returns-in_ok-behind-in-Plain-clause-text t c =
    let v = c.args.view.now in
    let stand = c.args.stand.now in
    let table = c.args.table.now in
    put-as c.put_node.result c.put_node.new.text.items c.args.text.now.items _ _ c.put_node.ensures.text
    (other-plain (look_in c.args.style v) stand.seek stand.lead.now stand.more c.args.above.now c.deref.result.now (spot_in table v c.args.node.now) (tree_in table c.args.context.now v c.args.part.now)
    c.in-Plain.is c.requires.seen (c.deref.ensures.value ∙ c.in_ok-behind-in-Plain.ensures))

pub put_other-returns-in-Latex-clause-text : goal.put_other-returns-in-Latex-clause-text
put_other-returns-in-Latex-clause-text t c =
    let v = c.args.view.now in
    let stand = c.args.stand.now in
    let table = c.args.table.now in
    put-as c.put_enclosed.result c.put_enclosed.new.text.items c.args.text.now.items _ _ c.put_enclosed.ensures.text
    (other-latex (look_in c.args.style v) stand.lead.now stand.more c.args.above.now (spot_in table v c.args.node.now) (tree_in table c.args.context.now v c.args.part.now) c.in-Latex.is)

pub put_enclosed-returns-clause-text : goal.put_enclosed-returns-clause-text
put_enclosed-returns-clause-text t c =
    let v = c.args.view.now in
    let stand = c.args.stand.now in
    let part = tree_in c.args.table.now c.args.context.now v c.args.part.now in
    let lead : c.deref.result.now ≡ inside stand.lead.now = c.deref.ensures.value ∙ c.in_ok-lead.ensures in
    let middle = c.in_ok-put_node.ensures.text
    ∙ ap (λ (l : Bytes). c.put_first_line.new.text.items ++ lines (look_in c.args.style v) None l stand.more [] part) lead in
    let last = put-as c.put.result c.put.new.text.items c.put_node.new.text.items _ _ c.put.ensures (c.deref-2.ensures.value ∙ c.in_ok-behind.ensures) in
    three-put c.put.result c.args.text.now.items c.put_first_line.new.text.items c.put_node.new.text.items c.put.new.text.items _ _ _ c.in_ok-put_first_line.ensures middle last

-- ---- another node

pub put_own-returns-in-Some-clause-text : goal.put_own-returns-in-Some-clause-text
put_own-returns-in-Some-clause-text t c =
    let v = c.args.view.now in
    let stand = c.args.stand.now in
    put-as c.put_below.result c.put_below.new.text.items c.args.text.now.items _ _ c.put_below.ensures.text
    (own-sought (look_in c.args.style v) stand.seek c.in-Some.field-0 stand.lead.now stand.more c.args.above.now (spot_in c.args.table.now v c.args.node.now) _ c.in-Some.is)

pub put_shown-returns-clause-text : goal.put_shown-returns-clause-text
put_shown-returns-clause-text t c =
    let v = c.args.view.now in
    let node = c.args.node.now in
    let stand = c.args.stand.now in
    let look = look_in c.args.style v in
    let table = c.args.table.now in
    let spot = spot_in table v node in
    let below = below_in table c.args.context.now v node in
    let form = c.args.style.form in
    let lead : c.deref.result.now ≡ inside stand.lead.now = c.deref.ensures.value ∙ c.in_ok-lead.ensures in
    let middle = c.in_ok-put_inside.ensures.text
    ∙ ap (λ (l : Bytes). c.put_opening.new.text.items ++ (if stand.more == 0 then cut_off form l node.at (plain_derivation node.derivation.now) else each_lines look None l (stand.more - 1) [] below)) lead in
    let last = put-as c.put.result c.put.new.text.items c.put_inside.new.text.items _ _ c.put.ensures (c.deref-2.ensures.value ∙ c.in_ok-behind.ensures) in
    put-as c.put.result c.put.new.text.items c.args.text.now.items _ _
    (three-put c.put.result c.args.text.now.items c.put_opening.new.text.items c.put_inside.new.text.items c.put.new.text.items _ _ _ c.in_ok-put_opening.ensures middle last)
    (own-shown look stand.seek stand.lead.now stand.more c.args.above.now spot below c.requires.seen)

pub put_inside-returns-then-more-eq0-clause-text : goal.put_inside-returns-then-more-eq0-clause-text
put_inside-returns-then-more-eq0-clause-text t c =
    put-as c.put_cut_off.result c.put_cut_off.new.text.items c.args.text.now.items _ _ c.put_cut_off.ensures (inside-cut c.args.more _ _ c.if-more-eq0.true)

pub put_inside-returns-else-more-eq0-clause-text : goal.put_inside-returns-else-more-eq0-clause-text
put_inside-returns-else-more-eq0-clause-text t c =
    put-as c.put_below.result c.put_below.new.text.items c.args.text.now.items _ _ c.put_below.ensures.text (inside-more c.args.more _ _ c.if-more-eq0.false)

-- ---- premises

pub put_only-returns-clause-text : goal.put_only-returns-clause-text
put_only-returns-clause-text t c =
    let v = c.args.view.now in
    let stand = c.args.stand.now in
    c.in_ok-put_premise.ensures.text
    ∙ ap (λ x. c.args.text.now.items ++ x)
    (only-lines (look_in c.args.style v) stand.seek stand.lead.now stand.more
    (at_premise (known_in v) (all_shown c.args.table.now (numbers c.args.context.now)) (scope_in v) (reads c.args.p.now) [] (premise_shown c.args.premise.now) (shown_of (known_in v) (plain_derivation c.args.d.now) c.args.at)))

pub put_each-bounds-premises-i : goal.put_each-bounds-premises-i
put_each-bounds-premises-i t c =
    omega (arith, c.requires.all, count-in c.args.list.now, ap length c.as_slice-items.ensures.members, c.loop-i-test.true)

pub put_each-put_premise-requires : goal.put_each-put_premise-requires
put_each-put_premise-requires t c =
    let inv = c.loop-i.invariant in
    let items = c.as_slice-items.result.now in
    let x = c.index-items-i.result in
    let left : all_nodes (derivations_from (map plain_derivation (drop c.loop-i.i items))) ≡ nodes (plain_derivation x) + all_nodes (derivations_from (map plain_derivation (drop (c.loop-i.i + 1) items))) =
    ap (λ ds. all_nodes (derivations_from ds)) (drop_item plain_derivation items c.loop-i.i x c.loop-i-test.true c.index-items-i.is) in
    let deep = member_size c.args.list.now c.loop-i.i x (rw c.as_slice-items.ensures.members at c.loop-i-test.true) (rw c.as_slice-items.ensures.members at c.index-items-i.is) in (
      omega (arith, deep, c.decreases),
      (
        AreIn-kept inv.extends c.requires.context,
        (subst (λ ks. AreIn c.loop-i.table ks) (sym c.deref.ensures.value) inv.within, omega (arith, left, inv.next, c.requires.room)),
      ),
    )

pub put_each-loop-i-preserved : goal.put_each-loop-i-preserved
put_each-loop-i-preserved t c =
    let inv = c.loop-i.invariant in
    let one = c.in_ok-number.ensures in
    let v = c.args.view.now in
    let look = look_in c.args.style v in
    let stand = c.args.stand.now in
    let k = known_in v in
    let s = scope_in v in
    let p = reads c.args.p.now in
    let G = numbers c.args.context.now in
    let H = all_shown c.args.table.now G in
    let P = c.index-premises-i.result in
    let items = c.as_slice-items.result.now in
    let x = c.index-items-i.result in
    let d = plain_derivation x in
    let i = c.loop-i.i in
    let n = c.loop-i.next in
    let old = all_shown c.loop-i.table c.loop-i.done.items in
    let here : i < length c.args.premises.now = omega (arith, c.requires.all, count-in c.args.list.now, ap length c.as_slice-items.ensures.members, c.loop-i-test.true) in
    let left : all_nodes (derivations_from (map plain_derivation (drop i items))) ≡ nodes d + all_nodes (derivations_from (map plain_derivation (drop (i + 1) items))) =
    ap (λ ds. all_nodes (derivations_from ds)) (drop_item plain_derivation items i x c.loop-i-test.true c.index-items-i.is) in
    let next : c.saturating_add-next.result ≡ n + nodes d = omega (arith, c.saturating_add-next.ensures, c.nodes_of.ensures, left, inv.next, c.requires.room) in
    let kept : all_shown c.loop-i.table G ≡ H = all_shown-kept G inv.extends c.requires.context in
    let done : all_shown c.loop-i.table c.deref.result.now ≡ old = ap (all_shown c.loop-i.table) c.deref.ensures.value in
    let A : PlainType = shown c.put_premise.new.table c.in_ok-number.number in
    let stands : A ≡ concluded (judged d n (under (plain_binder P.binds) old H) (reads P.part.now)) =
    one.stands
    ∙ (ap (λ (Bs : List PlainType). concluded (judged d n (under (plain_binder P.binds) Bs (all_shown c.loop-i.table G)) (reads P.part.now))) done
    ∙ ap (λ (Bs : List PlainType). concluded (judged d n (under (plain_binder P.binds) old Bs) (reads P.part.now))) kept) in
    let put = one.text
    ∙ (ap (λ (Bs : List PlainType). c.put.new.text.items ++ lines look stand.seek stand.lead.now stand.more [] (at_premise k (all_shown c.loop-i.table G) s p Bs (premise_shown P) (shown_of k d n))) done
    ∙ ap (λ (Bs : List PlainType). c.put.new.text.items ++ lines look stand.seek stand.lead.now stand.more [] (at_premise k Bs s p old (premise_shown P) (shown_of k d n))) kept) in
    record {
      within = subst (λ ks. AreIn c.put_premise.new.table ks) (sym c.in_ok-push.ensures.items)
          (AreIn-push c.in_ok-number.number (AreIn-kept one.extends inv.within) one.within);
      next = omega (arith, left, inv.next, next);
      extends = Extends-trans inv.extends one.extends;
      text =
          each-next look stand.seek stand.lead.now stand.more k items c.args.premises.now i n c.saturating_add-next.result x P H s p old (all_shown c.put_premise.new.table c.push.new.self.items) A
          c.loop-i.text.items c.put.new.text.items c.put_premise.new.text.items c.loop-i.before.now c.deref-before.result.now _
          c.loop-i-test.true c.index-items-i.is here c.index-premises-i.is next
          (all_shown-push c.loop-i.done.items c.push.new.self.items c.in_ok-number.number A one.extends inv.within c.in_ok-push.ensures.items refl) stands
          c.in_ok-put.ensures put (c.deref-before.ensures.value ∙ c.in_ok-parting.ensures) inv.text;
    }

pub put_each-returns-clause-text : goal.put_each-returns-clause-text
put_each-returns-clause-text t c =
    let v = c.args.view.now in
    let stand = c.args.stand.now in
    let inv = c.loop-i.invariant in
    let items = c.as_slice-items.result.now in
    let past : length items ≤ c.loop-i.i = omega (arith, c.loop-i-test.false, c.loop-i.auto.i-end) in
    let end = each-shown-end (known_in v) items c.loop-i.i c.loop-i.next (all_shown c.args.table.now (numbers c.args.context.now)) (scope_in v) (reads c.args.p.now)
    (map premise_shown (drop c.loop-i.i c.args.premises.now)) (all_shown c.loop-i.table c.loop-i.done.items) past in
    sym (append-nil c.loop-i.text.items)
    ∙ (ap (λ (a : AnnotatedList). c.loop-i.text.items ++ each_lines (look_in c.args.style v) stand.seek stand.lead.now stand.more c.loop-i.before.now a) (sym end) ∙ inv.text)

-- ---- a premise

pub put_premise-put_beneath-requires : goal.put_premise-put_beneath-requires
put_premise-put_beneath-requires t c =
    let one = c.in_ok-under.ensures in
    let two = c.in_ok-conclusion.ensures in
    let kept = all_shown-kept (numbers c.in_ok-under.under) two.extends one.within in (
      omega (arith, c.decreases),
      (
        AreIn-kept two.extends one.within,
        (
          c.requires.room,
          (two.within, two.stands ∙ ap (λ (As : List PlainType). concluded (judged (plain_derivation c.args.d.now) c.args.at As (reads c.args.premise.now.part.now))) (sym kept)),
        ),
      ),
    )

pub put_premise-returns-clause-text : goal.put_premise-returns-clause-text
put_premise-returns-clause-text t c =
    let v = c.args.view.now in
    let stand = c.args.stand.now in
    let one = c.in_ok-under.ensures in
    let two = c.in_ok-conclusion.ensures in
    let G = all_shown c.args.table.now (numbers c.args.context.now) in
    let H = all_shown c.concluded.new.table (numbers c.in_ok-under.under) in
    let here : H ≡ under (plain_binder c.args.premise.now.binds) (all_shown c.args.table.now c.args.done.now) G =
    all_shown-kept (numbers c.in_ok-under.under) two.extends one.within ∙ one.shown in
    c.in_ok-put_beneath.ensures.text
    ∙ ap (λ x. c.args.text.now.items ++ x)
    (premise-beneath (look_in c.args.style v) stand.seek stand.lead.now stand.more (known_in v) G H (scope_in v) (reads c.args.p.now) (all_shown c.args.table.now c.args.done.now) (premise_shown c.args.premise.now)
    (plain_derivation c.args.d.now) c.args.at here)

pub put_bound-put_node-requires : goal.put_bound-put_node-requires
put_bound-put_node-requires t c =
    let one = c.in_ok-added.ensures in
    let kept = all_shown-kept (numbers c.args.context.now) one.extends c.requires.context in (
      omega (arith, c.decreases),
      (
        AreIn-kept one.extends c.requires.context,
        (
          c.requires.room,
          record {
            within = omega (arith, one.extends.more, c.requires.within);
            stands = one.extends.same c.args.conclusion c.requires.within
                ∙ (c.requires.stands ∙ ap (λ (As : List PlainType). concluded (judged (plain_derivation c.args.d.now) c.args.at As (reads c.args.premise.now.part.now))) (sym kept));
          },
        ),
      ),
    )

pub put_bound-returns-clause-text : goal.put_bound-returns-clause-text
put_bound-returns-clause-text t c =
    let v = c.args.view.now in
    let stand = c.args.stand.now in
    let look = look_in c.args.style v in
    let inner = known_in c.in_scope-inside.result in
    let inside = scope_in c.in_scope-inside.result in
    let d = plain_derivation c.args.d.now in
    let p = reads c.args.p.now in
    let P = premise_shown c.args.premise.now in
    let G = all_shown c.args.table.now (numbers c.args.context.now) in
    let one = c.in_ok-added.ensures in
    let kept = all_shown-kept (numbers c.args.context.now) one.extends c.requires.context in
    let entry = c.in_ok-entry.ensures in
    let known : inner ≡ known_in v = ap (λ (b : Bor KnownNames). known_read b.now) c.in_scope-inside.ensures.known in
    let scope : inside ≡ bound (known_in v) (scope_in v) p ∷ scope_in v =
    ap scope_read c.in_scope-inside.ensures.scope ∙ (scope-inside _ c.args.view.now.scope ∙ ap (λ e. e ∷ scope_in v) entry) in
    let added : c.deref.result.now ≡ cut 60 (variable_text (known_in v) (bound (known_in v) (scope_in v) p) (type_at G 0)) =
    c.deref.ensures.value ∙ (one.text ∙ ap (λ e. cut 60 (variable_text (known_in v) e (type_at G 0))) entry) in
    put-as c.put_node.result c.put_node.new.text.items c.args.text.now.items _ _ c.put_node.ensures.text
    (ap (λ As. lines (look_in c.args.style c.in_scope-inside.result) stand.seek stand.lead.now stand.more [] (shown_of inner d c.args.at As inside c.deref.result.now P.1)) kept
    ∙ bound-beneath c.args.style.form c.args.style.width stand.seek stand.lead.now stand.more (known_in v) inner G (scope_in v) inside c.deref.result.now p P d c.args.at
    known scope added c.requires.bound)
