use Rattle.std.proofs.Common.{get_or, below_more}
use Rattle.fy_order.proofs.SearchLemmas.{IsTaken, each-has, pushed-kept, pushed-has}
use Rattle.fy_order.proofs.relation.add_low.Goals as goal
use Rattle.fy_order.proofs.relation.add_low.Goals.{then-is_low+in_ok-push, else-is_low}

pub loop-place-preserved : goal.loop-place-preserved
loop-place-preserved c =
    let inv = c.loop-place.invariant in
    let level = c.args.level.now in
    let list = c.args.list.now in
    let wanted = c.args.wanted.now in
    let covered = c.args.covered.now.places.items in
    let i = c.loop-place.place-index in
    let found = c.loop-place.found.items in
    elim c.if-is_low.branch [
      | then-is_low+in_ok-push w ↦
          let grown = w.push.new.self.items in
          let more = pushed-kept found grown (get_or list i 0) in
          rw w.found-is (record {
            kept = λ k h. more k w.in_ok-push.ensures.items (inv.kept k h);
            has = below_more (λ n. IsTaken level wanted covered grown (get_or list n 0)) i
                (λ n h few seeks all. more (get_or list n 0) w.in_ok-push.ensures.items (inv.has n h few seeks all))
                (λ few seeks all. pushed-has found grown (get_or list i 0) w.in_ok-push.ensures.items);
          })
      | else-is_low w ↦
          rw w.found-is (record {
            kept = inv.kept;
            has = below_more (λ n. IsTaken level wanted covered found (get_or list n 0)) i inv.has
                (λ few seeks all. let t = c.is_low.ensures few seeks all in let f = w.if-is_low.false in absurd (cc));
          })
    ]

pub returns-clause-has : goal.returns-clause-has
returns-clause-has c =
    each-has (IsTaken c.args.level.now c.args.wanted.now c.args.covered.now.places.items c.loop-place.found.items) c.args.list.now
    c.loop-place.place-index c.loop-place-test.false c.loop-place.invariant.has
