use Rattle.std.proofs.Common.{◌≡◌, ◌<◌, ◌≤◌, ◌+◌, length, eqb, sym, ap, ◌∙◌, subst, arith}
use Rattle.indexmap.specs.IndexSet.{insert_key}
use Rattle.fy_derive.specs.Shown.{total}
use Rattle.fy_derive.specs.Tables.{node_at, reach}
use Rattle.fy_derive.specs.Covers.{AreMet}
use Rattle.fy_derive.proofs.CoverLemmas.{number_at, met-first, met-single, met-opened, met-alike, met-under, split-paths, single-other}
use Rattle.fy_derive.proofs.members.members_of.Goals as goal
use Rattle.fy_derive.proofs.members.members_of.Goals.{in-AndType+in_ok-insert-in-AndType+in_ok-insert-in-AndType-2, in_default+in_ok-push-in_default}

pub loop-i-init : goal.loop-i-init
loop-i-init c =
    subst (λ ks. AreMet c.args.table.now c.args.bound c.args.list.now c.in_ok-met.met.keys ks 0) (sym c.new-singles.ensures.items)
    (met-first c.args.table.now c.args.bound c.args.list.now c.in_ok-met.met.keys c.requires.under c.in_ok-met.ensures.has c.in_ok-met.ensures.known)

pub node-requires : goal.node-requires
node-requires c =
    let within : c.loop-i.i < length c.loop-i.met.keys = omega (arith, c.len.ensures.len, c.loop-i-test.true) in
    let at = number_at c.loop-i.met.keys c.index-number.result.now c.loop-i.i c.index-number.ensures in
    rw at (omega (arith, c.loop-i.invariant.under.each c.loop-i.i 0 within, c.requires.bound))

pub loop-i-preserved : goal.loop-i-preserved
loop-i-preserved c =
    let t = c.args.table.now in
    let within : c.loop-i.i < length c.loop-i.met.keys = omega (arith, c.len.ensures.len, c.loop-i-test.true) in
    let at = number_at c.loop-i.met.keys c.index-number.result.now c.loop-i.i c.index-number.ensures in
    let inside : c.index-number.result.now < total t = rw at (omega (arith, c.loop-i.invariant.under.each c.loop-i.i 0 within, c.requires.bound)) in
    elim c.match-node.branch [
      | in-AndType+in_ok-insert-in-AndType+in_ok-insert-in-AndType-2 w ↦
          (let e : node_at t.nodes.keys c.index-number.result.now ≡ _ = sym c.node.ensures.same ∙ w.in-AndType.is in
          let deep = subst (λ n. reach n ≤ c.index-number.result.now) w.in-AndType.is c.node.ensures.parts in
          subst (λ ks. AreMet t c.args.bound c.args.list.now c.match-node.met.keys ks (c.loop-i.i + 1)) (sym (ap (λ v. v.items) w.singles-is))
          (met-opened t c.args.bound c.args.list.now c.loop-i.met.keys c.match-node.met.keys c.loop-i.singles.items c.loop-i.i c.index-number.result.now
          w.in-AndType.first w.in-AndType.rest c.loop-i.invariant within at e (omega (arith, deep)) (omega (arith, deep))
          (split-paths t c.index-number.result.now w.in-AndType.first w.in-AndType.rest inside e)
          (ap (λ s. s.keys) w.met-is ∙ (w.in_ok-insert-in-AndType-2.ensures.keys
          ∙ ap (λ ks. insert_key eqb ks w.in-AndType.rest) w.in_ok-insert-in-AndType.ensures.keys))))
      | in_default+in_ok-push-in_default w ↦
          (subst (λ s. AreMet t c.args.bound c.args.list.now s.keys c.match-node.singles.items (c.loop-i.i + 1)) (sym w.met-is)
          (met-single t c.args.bound c.args.list.now c.loop-i.met.keys c.loop-i.singles.items c.match-node.singles.items c.loop-i.i c.index-number.result.now
          c.loop-i.invariant within at (single-other _ (λ m r e. w.in_default.not-AndType m r (c.node.ensures.same ∙ e)))
          (ap (λ v. v.items) w.singles-is ∙ w.in_ok-push-in_default.ensures.items)))
    ]

pub returns-clause-alike : goal.returns-clause-alike
returns-clause-alike c =
    met-alike c.args.table.now c.args.bound c.args.list.now c.loop-i.met.keys c.loop-i.singles.items c.loop-i.i c.loop-i.invariant
    (omega (arith, c.len.ensures.len, c.loop-i-test.false)) c.requires.bound

pub returns-clause-under : goal.returns-clause-under
returns-clause-under c =
    met-under c.args.table.now c.args.bound c.args.list.now c.loop-i.met.keys c.loop-i.singles.items c.loop-i.i c.loop-i.invariant
