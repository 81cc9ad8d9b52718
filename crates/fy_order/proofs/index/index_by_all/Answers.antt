use Rattle.std.proofs.Common.{◌<◌, ◌≡◌, ◌∙◌, ap, sym, subst, length, get_or, All, Contains, arith, below_more}
use Rattle.std.proofs.lemmas.List.{get_or_default}
use Rattle.fy_order.specs.Levels.{IsNotedToo, list_at, places_at}
use Rattle.fy_order.proofs.IndexLemmas.{has-noted, list-within, still-noted}
use Rattle.fy_order.proofs.index.index_by_all.Goals as goal

pub own_each-requires : goal.own_each-requires
own_each-requires c =
    let inner = c.args.level.now.inner.items in
    let n = c.loop-place.place in
    let is = c.list_at.ensures ∙ ap (λ vs. list_at vs n) c.as_slice.ensures.value in
    subst (λ count. All (λ k. k < count) c.list_at.result.now) (sym c.loop-place.invariant.long)
    (subst (All (λ k. k < c.args.count)) (sym is) (list-within c.args.count inner n c.requires))

pub loop-place-preserved : goal.loop-place-preserved
loop-place-preserved c =
    let level = c.args.level.now in
    let signs = level.signs.items in
    let inner = level.inner.items in
    let inv = c.loop-place.invariant in
    let n = c.loop-place.place in
    let is = c.list_at.ensures ∙ ap (λ vs. list_at vs n) c.as_slice.ensures.value in
    let made = c.in_ok-own_each.ensures in
    let few : n < length signs = omega (arith, c.loop-place-test.true, c.len-place-end.ensures, level.signs.ok.0) in
    let sign : c.index.result.now ≡ get_or signs n 0 = c.index.ensures ∙ get_or_default signs n c.index.result.now 0 few in
    let too : IsNotedToo c.loop-place.places c.note.new.places (get_or signs n 0) n =
    subst (λ q. IsNotedToo c.loop-place.places c.note.new.places q n) sign c.in_ok-note.ensures in
    record {
      long = made.length ∙ inv.long;
      signed = below_more (λ k. Contains (places_at c.note.new.places (get_or signs k 0)) k) n
          (λ k less. still-noted c.loop-place.places c.note.new.places (get_or signs n 0) n too (get_or signs k 0) k (inv.signed k less))
          (has-noted c.loop-place.places c.note.new.places (get_or signs n 0) n too);
      owned = λ k j less. below_more (λ i. Contains (list_at inner i) j → Contains (list_at c.own_each.new.owners.items j) i) n
          (λ i low has. made.kept j i (inv.owned i j low has))
          (λ has. made.owned j (subst (λ xs. Contains xs j) (sym is) has)) k less;
    }

pub returns : goal.returns
returns c =
    let inv = c.loop-place.invariant in
    let all : c.loop-place.place ≡ length c.args.level.now.signs.items =
    omega (arith, c.loop-place-test.false, c.len-place-end.ensures, c.loop-place.auto.place-end, c.args.level.now.signs.ok.0) in
    record {
      signed = λ k few. inv.signed k (omega (arith, few, all));
      owned = λ k j few has. inv.owned k j (omega (arith, few, all)) has;
    }
