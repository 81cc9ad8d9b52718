use Rattle.std.proofs.Common.{sym, subst, All}
use Rattle.std.proofs.lemmas.List.Elements.{All-push}
use Rattle.fy_forms.specs.declared.fresh.Enough.{Enough}
use Rattle.fy_forms.specs.Keys.{lent}
use Rattle.fy_forms.specs.Rows.{IsEnough}
use Rattle.fy_forms.proofs.fresh.fresh_in.Goals as goal

pub returns-clause-known : goal.returns-clause-known
returns-clause-known c list known =
    let table = c.args.known.now.rows.table in
    let flags = c.in_ok-flags.flags in
    let fresh = c.in_ok-fresh-2.fresh in
    let new : IsEnough table flags.items (lent fresh.items) (lent list) =
    subst (λ l. IsEnough table flags.items (lent fresh.items) (lent l)) known.rows.paths
    (rw c.deref-2.ensures.value at c.in_ok-fresh-2.ensures) in
    record {
      rows = known.rows;
      met = subst (All (λ (e : Enough). IsEnough table e.flags.items (lent e.fresh.items) (lent list))) (sym c.in_ok-push.ensures.items)
          (All-push (λ (e : Enough). IsEnough table e.flags.items (lent e.fresh.items) (lent list)) c.args.known.now.met.items
          (record { flags = flags; fresh = fresh }) known.met new);
    }
