use Rattle.std.proofs.Common.{map, replicate, sym, ap, ◌∙◌, refl}
use Rattle.std.proofs.lemmas.List.{take_all}
use Rattle.fy_phrase.specs.Reads.{reads}
use Rattle.fy_derive.specs.Derivations.{count}
use Rattle.fy_derive.specs.Placed.{placed, all_placed, those_of}
use Rattle.fy_derive.specs.Reading.{plain_derivation, derivations_in, derivations_from}
use Rattle.fy_derive.specs.Rules.{nothing, premises}
use Rattle.fy_derive.proofs.ReadLemmas.{plain_derivations-at}
use Rattle.fy_phrase.specs.Premises.{premise_shown}
use Rattle.fy_link.specs.Placing.{plain_wanted}
use Rattle.fy_link.proofs.PlacingLemmas.{placed_items, placed-all, placed-repeated, placed-next, premise-at, premise-past, alt-placed}
use Rattle.fy_link.proofs.composed.+placing.Goals as goal
use Rattle.fy_link.proofs.composed.+placing.Goals.{premises_placed-then-i-premises+in_ok-d, premises_placed-else-i-premises+in_ok-d-2}

pub placed-returns-in_ok-inner-in-Alt : goal.placed-returns-in_ok-inner-in-Alt
placed-returns-in_ok-inner-in-Alt t c =
    alt-placed _ c.args.d.now c.in-Alt.index c.in_ok-inner-in-Alt.inner c.in-Alt.inner c.deref-in-Alt.result.now c.in_ok-placed-in-Alt.field-0
    (plain_wanted c.args.wanted.now) (plain_wanted c.behind-within.result) (reads c.args.p.now) (reads c.body_of.result.now)
    refl c.in-Alt.is c.in_ok-inner-in-Alt.ensures.ok c.deref-in-Alt.ensures c.in_ok-placed-in-Alt.ensures c.behind-within.ensures c.body_of.ensures

pub premises_placed-loop-i-preserved : goal.premises_placed-loop-i-preserved
premises_placed-loop-i-preserved t c =
    let items = c.as_slice-items.result.now in
    let all = c.as_slice-premises.result.now in
    let Ps = map premise_shown all in
    let wanted = plain_wanted c.args.wanted.now in
    let i = c.loop-i.i in
    let made = c.loop-i.made in
    elim c.if-i-premises.branch [
      | premises_placed-then-i-premises+in_ok-d w ↦ placed-next wanted Ps items (derivations_in made) (derivations_in c.push.new.self) i
          w.index-items-i.result c.if-i-premises.d c.loop-i-test.true w.index-items-i.is c.in_ok-push.ensures.ok
          (ap plain_derivation w.d-is
          ∙ (w.in_ok-d.ensures
          ∙ premise-at wanted (plain_wanted w.inside-within.result) all i w.index-premises-i.result (plain_derivation w.index-items-i.result)
          w.if-i-premises.true w.index-premises-i.is w.inside-within.ensures))
          c.loop-i.invariant
      | premises_placed-else-i-premises+in_ok-d-2 w ↦ placed-next wanted Ps items (derivations_in made) (derivations_in c.push.new.self) i
          w.index-items-i-else-i-premises.result c.if-i-premises.d c.loop-i-test.true w.index-items-i-else-i-premises.is c.in_ok-push.ensures.ok
          (ap plain_derivation w.d-is ∙ (w.in_ok-d-2.ensures ∙ premise-past wanted all i (plain_derivation w.index-items-i-else-i-premises.result) w.if-i-premises.false))
          c.loop-i.invariant
    ]

pub premises_placed-returns : goal.premises_placed-returns
premises_placed-returns t c =
    let items = c.as_slice-items.result.now in
    let w = plain_wanted c.args.wanted.now in
    let Ps = those_of (premises (reads c.args.p.now)) in
    plain_derivations-at c.loop-i.made
    ∙ (ap derivations_from (c.loop-i.invariant
    ∙ (ap (λ xs. placed_items w (map premise_shown c.as_slice-premises.result.now) (map plain_derivation xs)) (take_all c.loop-i.i items c.loop-i-test.false)
    ∙ ap (λ Qs. placed_items w Qs (map plain_derivation items)) (ap (map premise_shown) c.as_slice-premises.ensures.value ∙ c.in_ok-all.ensures)))
    ∙ (placed-all w Ps (map plain_derivation items) ∙ ap (all_placed w Ps) (sym c.as_slice-items.ensures.reading)))

pub repeated-returns : goal.repeated-returns
repeated-returns t c =
    let items = c.as_slice-d-items.result.now in
    let w = plain_wanted c.args.wanted.now in
    let p = reads c.args.p.now in
    plain_derivations-at c.loop-d.made
    ∙ (ap derivations_from (c.loop-d.invariant ∙ ap (λ xs. map (placed w p) (map plain_derivation xs)) (take_all c.loop-d.d-index items c.loop-d-test.false))
    ∙ (placed-repeated w p (map plain_derivation items)
    ∙ ap (λ ds. all_placed w (replicate (count ds) (nothing, p)) ds) (sym c.as_slice-d-items.ensures.reading)))
