use Rattle.std.proofs.Common.{sym, subst}
use Rattle.fy_types.specs.Reading.{plain_path}
use Rattle.fy_forms.specs.Keys.{group_at, lent}
use Rattle.fy_forms.specs.Rows.{IsEnoughFor, IsKnown}
use Rattle.fy_forms.proofs.FreshLemmas.{known-by}
use Rattle.fy_forms.proofs.fresh.fresh_for.Goals as goal
use Rattle.fy_forms.proofs.fresh.fresh_for.Goals.{in-Some, in-None+in_ok-now-in-None}

pub fresh_in-requires : goal.fresh_in-requires
fresh_in-requires c =
    let now : IsKnown c.match-remove.now (group_at c.args.groups.now c.args.key) =
    elim c.match-remove.branch [
      | in-Some w ↦
          subst (λ x. IsKnown x (group_at c.args.groups.now c.args.key)) (sym w.now-is)
          (c.requires.known c.args.key w.in-Some.met (sym w.in-Some.ensures.value))
      | in-None+in_ok-now-in-None w ↦
          subst (λ x. IsKnown x (group_at c.args.groups.now c.args.key)) (sym w.now-is)
          (subst (IsKnown w.in_ok-now-in-None.now) c.requires.list w.in_ok-now-in-None.ensures)
    ] in
    now.rows.each

pub returns-clause-known : goal.returns-clause-known
returns-clause-known c =
    let now : IsKnown c.match-remove.now (group_at c.args.groups.now c.args.key) =
    elim c.match-remove.branch [
      | in-Some w ↦
          subst (λ x. IsKnown x (group_at c.args.groups.now c.args.key)) (sym w.now-is)
          (c.requires.known c.args.key w.in-Some.met (sym w.in-Some.ensures.value))
      | in-None+in_ok-now-in-None w ↦
          subst (λ x. IsKnown x (group_at c.args.groups.now c.args.key)) (sym w.now-is)
          (subst (IsKnown w.in_ok-now-in-None.now) c.requires.list w.in_ok-now-in-None.ensures)
    ] in
    known-by c.args.known.now c.remove.new.self c.insert.new.self c.args.groups.now c.args.key c.fresh_in.new.known c.requires.known
    c.remove.ensures.updates.0 c.in_ok-insert.ensures.updates.0
    (c.in_ok-fresh.ensures.known (group_at c.args.groups.now c.args.key) now)

pub returns-clause-enough : goal.returns-clause-enough
returns-clause-enough c =
    let now : IsKnown c.match-remove.now (group_at c.args.groups.now c.args.key) =
    elim c.match-remove.branch [
      | in-Some w ↦
          subst (λ x. IsKnown x (group_at c.args.groups.now c.args.key)) (sym w.now-is)
          (c.requires.known c.args.key w.in-Some.met (sym w.in-Some.ensures.value))
      | in-None+in_ok-now-in-None w ↦
          subst (λ x. IsKnown x (group_at c.args.groups.now c.args.key)) (sym w.now-is)
          (subst (IsKnown w.in_ok-now-in-None.now) c.requires.list w.in_ok-now-in-None.ensures)
    ] in
    subst (λ l. IsEnoughFor (plain_path c.args.path.now) (lent c.in_ok-fresh.fresh.items) (lent l)) (sym c.requires.list)
    (c.in_ok-fresh.ensures.enough (group_at c.args.groups.now c.args.key) now)
