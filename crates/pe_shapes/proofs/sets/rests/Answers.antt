use Rattle.std.proofs.Common.{◌≡◌, ◌<◌, get_or, sym, ap, subst, ◌∙◌}
use Rattle.std.specs.List.{Contains}
use Rattle.std.proofs.lemmas.List.{take_all}
use Rattle.fy_derive.specs.Shapes.{PlainShape}
use Rattle.pe_shapes.specs.Numbering.{in_front}
use Rattle.pe_shapes.specs.Shown.{total, shown, all_shown, AreIn}
use Rattle.pe_shapes.proofs.LoopSteps.{rests-has, rests-known, rests-other, rests-later, not_begun}
use Rattle.pe_shapes.proofs.Standings.{AreIn-at, AreIn-push}
use Rattle.pe_shapes.proofs.sets.rests.Goals as goal
use Rattle.pe_shapes.proofs.sets.rests.Goals.{in-Some+in_ok-push, in_default}

pub rest_behind-requires : goal.rest_behind-requires
rest_behind-requires c = AreIn-at c.loop-number.number-index 0 c.requires c.loop-number-test.true

pub loop-number-preserved : goal.loop-number-preserved
loop-number-preserved c =
    let t = c.args.numbers.now in
    let x = c.args.elem in
    let set = c.args.set.now in
    let i = c.loop-number.number-index in
    let ks = c.loop-number.all.items in
    let inv = c.loop-number.invariant in
    elim c.match-rest_behind.branch [
      | in-Some+in_ok-push w ↦
          (let ms = ap (λ v. v.items) w.all-is ∙ w.in_ok-push.ensures.items in
          record {
            within = subst (AreIn t) (sym ms) (AreIn-push w.in-Some.behind inv.within w.in-Some.ensures.0);
            has = rests-has t x set ks c.match-rest_behind.all.items i w.in-Some.behind c.loop-number-test.true ms w.in-Some.ensures.1 inv.has;
            known = rests-known t x set ks c.match-rest_behind.all.items i w.in-Some.behind c.loop-number-test.true ms w.in-Some.ensures.1 inv.known;
          })
      | in_default w ↦
          (let ms = ap (λ v. v.items) w.all-is in
          let k = get_or set i 0 in
          let other = not_begun ((s : PlainShape) → shown t k ≡ in_front x s → ⊥) (λ j. (j < total t) × (shown t k ≡ in_front x (shown t j))) c.rest_behind.result w.in_default.not-Some c.rest_behind.ensures in
          record {
            within = subst (AreIn t) (sym ms) inv.within;
            has = rests-other t x set c.match-rest_behind.all.items i c.loop-number-test.true other (λ s h. subst (λ zs. Contains (all_shown t zs) s) (sym ms) (inv.has s h));
            known = rests-later t x set c.match-rest_behind.all.items i c.loop-number-test.true (λ s h. inv.known s (subst (λ zs. Contains (all_shown t zs) s) ms h));
          })
    ]

pub returns-clause-has : goal.returns-clause-has
returns-clause-has c = λ s h. c.loop-number.invariant.has s
    (subst (λ zs. Contains (all_shown c.args.numbers.now zs) (in_front c.args.elem s)) (sym (take_all c.loop-number.number-index c.args.set.now c.loop-number-test.false)) h)

pub returns-clause-known : goal.returns-clause-known
returns-clause-known c = λ s h.
    subst (λ zs. Contains (all_shown c.args.numbers.now zs) (in_front c.args.elem s)) (take_all c.loop-number.number-index c.args.set.now c.loop-number-test.false)
    (c.loop-number.invariant.known s h)
