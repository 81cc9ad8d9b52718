use Rattle.std.proofs.Common.{get_or, below_more}
use Rattle.fy_order.proofs.SearchLemmas.{IsHigh, each-has, pushed-kept, pushed-has}
use Rattle.fy_order.proofs.relation.add_high.Goals as goal
use Rattle.fy_order.proofs.relation.add_high.Goals.{then-is_wanted+in_ok-are_met+then-branch+in_ok-push, then-is_wanted+in_ok-are_met+else-branch, else-is_wanted}

pub loop-place-preserved : goal.loop-place-preserved
loop-place-preserved c =
    let inv = c.loop-place.invariant in
    let level = c.args.level.now in
    let list = c.args.list.now in
    let wanted = c.args.wanted.now in
    let domains = c.args.domains.0.now in
    let lists = c.args.domains.1.now in
    let i = c.loop-place.place-index in
    let found = c.loop-place.found.items in
    elim c.if-is_wanted.branch [
      | then-is_wanted+in_ok-are_met+then-branch+in_ok-push w ↦
          let grown = w.push.new.self.items in
          let more = pushed-kept found grown (get_or list i 0) in
          rw w.found-is (record {
            kept = λ k h. more k w.in_ok-push.ensures.items (inv.kept k h);
            has = below_more (λ n. IsHigh level wanted domains lists grown (get_or list n 0)) i
                (λ n h few seeks met. more (get_or list n 0) w.in_ok-push.ensures.items (inv.has n h few seeks met))
                (λ few seeks met. pushed-has found grown (get_or list i 0) w.in_ok-push.ensures.items);
          })
      | then-is_wanted+in_ok-are_met+else-branch w ↦
          rw w.found-is (record {
            kept = inv.kept;
            has = below_more (λ n. IsHigh level wanted domains lists found (get_or list n 0)) i inv.has
                (λ few seeks met. let t = w.in_ok-are_met.ensures (rw (w.list_at-inner.ensures, w.as_slice.ensures.value) met) in let f = w.if-branch.false in absurd (cc));
          })
      | else-is_wanted w ↦
          rw w.found-is (record {
            kept = inv.kept;
            has = below_more (λ n. IsHigh level wanted domains lists found (get_or list n 0)) i inv.has
                (λ few seeks met. let t = c.is_wanted.ensures few seeks in let f = w.if-is_wanted.false in absurd (cc));
          })
    ]

pub returns-clause-has : goal.returns-clause-has
returns-clause-has c =
    each-has (IsHigh c.args.level.now c.args.wanted.now c.args.domains.0.now c.args.domains.1.now c.loop-place.found.items) c.args.list.now
    c.loop-place.place-index c.loop-place-test.false c.loop-place.invariant.has
