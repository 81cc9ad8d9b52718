use Rattle.std.proofs.Common.{◌<◌, ◌≡◌, ◌∙◌, ap, subst, length, get_or, Contains, arith}
use Rattle.std.proofs.lemmas.List.{get_or_default}
use Rattle.std.proofs.lemmas.List.Elements.{All-contains}
use Rattle.fy_order.specs.Levels.{IsNotedToo, list_at}
use Rattle.fy_order.proofs.IndexLemmas.{found-noted, found-owned, list-within}
use Rattle.fy_order.proofs.index.index_by_one.Goals as goal
use Rattle.fy_order.proofs.index.index_by_one.Goals.{in-Some+in_ok-own-in-Some, in-None+in_ok-note-in-None}

pub own-requires : goal.own-requires
own-requires c =
    let level = c.args.level.now in
    let is = c.list_at.ensures ∙ ap (λ vs. list_at vs c.loop-place.place) c.as_slice-in-loop-place-2.ensures.value in
    let has = subst (λ xs. Contains xs c.in-Some.chosen) is c.in-Some.ensures.some in
    let less = All-contains (λ k. k < c.args.count) (list_at level.inner.items c.loop-place.place) c.in-Some.chosen
    (list-within c.args.count level.inner.items c.loop-place.place c.requires) has in
    omega (arith, less, c.loop-place.invariant.long)

pub loop-place-preserved : goal.loop-place-preserved
loop-place-preserved c =
    let level = c.args.level.now in
    let signs = level.signs.items in
    let inv = c.loop-place.invariant in
    let n = c.loop-place.place in
    let is = c.list_at.ensures ∙ ap (λ vs. list_at vs n) c.as_slice-in-loop-place-2.ensures.value in
    elim c.match-rarest.branch [
      | in-Some+in_ok-own-in-Some w ↦
          let too = w.in_ok-own-in-Some.ensures in
          rw (w.owners-is, w.places-is) (record {
            long = too.long ∙ inv.long;
            found = found-owned signs level.inner.items c.loop-place.owners.items w.own.new.owners.items c.loop-place.places n w.in-Some.chosen inv.found
                (subst (λ xs. Contains xs w.in-Some.chosen) is w.in-Some.ensures.some) too;
          })
      | in-None+in_ok-note-in-None w ↦
          let few : n < length signs = omega (arith, c.loop-place-test.true, c.len-place-end.ensures, level.signs.ok.0) in
          let sign : w.index.result.now ≡ get_or signs n 0 = w.index.ensures ∙ get_or_default signs n w.index.result.now 0 few in
          let too : IsNotedToo c.loop-place.places w.note.new.places (get_or signs n 0) n =
          subst (λ q. IsNotedToo c.loop-place.places w.note.new.places q n) sign w.in_ok-note-in-None.ensures in
          rw (w.owners-is, w.places-is) (record {
            long = inv.long;
            found = found-noted signs level.inner.items c.loop-place.owners.items c.loop-place.places w.note.new.places n inv.found too;
          })
    ]

pub returns : goal.returns
returns c k few = c.loop-place.invariant.found k (omega (arith, c.loop-place-test.false, c.len-place-end.ensures, c.args.level.now.signs.ok.0))
