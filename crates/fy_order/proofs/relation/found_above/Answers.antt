use Rattle.std.proofs.Common.{◌∙◌, sym, subst, Contains, get_or, inl, inr}
use Rattle.fy_order.specs.Levels.{places_at}
use Rattle.fy_order.specs.Searching.{IsWanted}
use Rattle.fy_order.proofs.relation.found_above.Goals as goal
use Rattle.fy_order.proofs.relation.found_above.Goals.{in-Some+in_ok-owners-in-Some+in_ok-add_high-in-Some, in-None+in_ok-add_high-in-None+then-wanted+in_ok-add_high-in-None-2, in-None+in_ok-add_high-in-None+else-wanted}

pub returns : goal.returns
returns c k u few is low met =
    let level = c.args.indexed.now.level in
    let index = c.args.indexed.now.index in
    let wanted = c.above-wanted.result in
    let seeks : IsWanted wanted (get_or level.signs.items k 0) = subst (IsWanted wanted) (sym is) (c.above-wanted.ensures u low) in
    let signed = c.requires.signed k few in
    elim c.match-shortest.branch [
      | in-Some+in_ok-owners-in-Some+in_ok-add_high-in-Some w ↦
          let one = met w.in-Some.place w.in-Some.ensures in
          let owner = w.in_ok-owners-in-Some.ensures.has one.0 k (rw w.list_at.ensures one.2) (rw w.as_slice.ensures.value (c.requires.owned k one.0 few one.1)) in
          rw w.found-is (w.in_ok-add_high-in-Some.ensures.has k (rw w.as_slice-in-Some.ensures.value owner) few seeks met)
      | in-None+in_ok-add_high-in-None+then-wanted+in_ok-add_high-in-None-2 w ↦
          rw w.found-is (elim seeks [
            | inl e ↦ w.in_ok-add_high-in-None-2.ensures.kept k
                (w.in_ok-add_high-in-None.ensures.has k (rw w.places_at.ensures (subst (λ s. Contains (places_at index.places s) k) e signed)) few (inl e) met)
            | inr e ↦ w.in_ok-add_high-in-None-2.ensures.has k
                (rw w.places_at-then-wanted.ensures (subst (λ s. Contains (places_at index.places s) k) e signed)) few (inr e) met
          ])
      | in-None+in_ok-add_high-in-None+else-wanted w ↦
          rw w.found-is (w.in_ok-add_high-in-None.ensures.has k
          (rw w.places_at.ensures (subst (λ s. Contains (places_at index.places s) k)
          (elim seeks [ inl e ↦ e | inr e ↦ e ∙ w.if-wanted.false ]) signed)) few seeks met)
    ]
