use Rattle.std.proofs.Common.{ℕ, sym, subst, Contains, get_or, inl, inr, arith, below_more}
use Rattle.fy_order.specs.Levels.{list_at, places_at}
use Rattle.fy_order.specs.Searching.{IsWanted}
use Rattle.fy_order.proofs.SearchLemmas.{IsTaken, each-has}
use Rattle.fy_order.proofs.relation.found_below.Goals as goal
use Rattle.fy_order.proofs.relation.found_below.Goals.{then-wanted+in_ok-add_low-2, else-wanted}

pub loop-place-init : goal.loop-place-init
loop-place-init c =
    let of_covered = c.as_slice-place-items.ensures.value in
    let own = c.in_ok-add_low.ensures in
    elim c.if-wanted.branch [
      | then-wanted+in_ok-add_low-2 w ↦
          let other = w.in_ok-add_low-2.ensures in
          rw w.found-is (record {
            own = λ k h few seeks all. other.kept k
                (own.has k (rw c.places_at.ensures h) few seeks (λ j at. subst (λ xs. Contains xs j) of_covered (all j at)));
            other = λ k h few seeks all.
                other.has k (rw w.places_at-then-wanted.ensures h) few seeks (λ j at. subst (λ xs. Contains xs j) of_covered (all j at));
            owners = λ j none. absurd (omega arith);
          })
      | else-wanted w ↦
          rw w.found-is (record {
            own = λ k h few seeks all.
                own.has k (rw c.places_at.ensures h) few seeks (λ j at. subst (λ xs. Contains xs j) of_covered (all j at));
            other = λ k h few seeks all.
                own.has k (rw c.places_at.ensures (subst (λ s. Contains (places_at c.args.indexed.now.index.places s) k) w.if-wanted.false h)) few seeks
                (λ j at. subst (λ xs. Contains xs j) of_covered (all j at));
            owners = λ j none. absurd (omega arith);
          })
    ]

pub loop-place-preserved : goal.loop-place-preserved
loop-place-preserved c =
    let inv = c.loop-place.invariant in
    let items = c.as_slice-place-items.result.now in
    let i = c.loop-place.place-index in
    let level = c.args.indexed.now.level in
    let owners = c.args.indexed.now.index.owners.items in
    let wanted = c.below-wanted.result in
    let found = c.add_low-in-loop-place.new.found.items in
    let more = c.in_ok-add_low-3.ensures in
    record {
      own = λ k h few seeks all. more.kept k (inv.own k h few seeks all);
      other = λ k h few seeks all. more.kept k (inv.other k h few seeks all);
      owners = below_more (λ n. (k : ℕ) → Contains (list_at owners (get_or items n 0)) k → IsTaken level wanted items found k) i
          (λ n h k owner few seeks all. more.kept k (inv.owners n h k owner few seeks all))
          (λ k owner few seeks all. more.has k (rw (c.list_at-owners.ensures, c.as_slice.ensures.value) owner) few seeks
          (λ j at. subst (λ xs. Contains xs j) c.as_slice-place-items.ensures.value (all j at)));
    }

pub returns : goal.returns
returns c k t few is low are =
    let inv = c.loop-place.invariant in
    let items = c.as_slice-place-items.result.now in
    let level = c.args.indexed.now.level in
    let index = c.args.indexed.now.index in
    let wanted = c.below-wanted.result in
    let found = c.loop-place.found.items in
    let seeks : IsWanted wanted (get_or level.signs.items k 0) = subst (IsWanted wanted) (sym is) (c.below-wanted.ensures t low) in
    let all : (j : ℕ) → Contains (list_at level.inner.items k) j → Contains items j =
    λ j at. let h = are j at in subst (λ xs. Contains xs j) (sym c.as_slice-place-items.ensures.value) (c.in_ok-covered.ensures.has h.0 j h.1 h.2) in
    elim (c.requires k few) [
      | inl at ↦ elim seeks [
        | inl e ↦ inv.own k (subst (λ s. Contains (places_at index.places s) k) e at) few (inl e) all
        | inr e ↦ inv.other k (subst (λ s. Contains (places_at index.places s) k) e at) few (inr e) all
      ]
      | inr one ↦
          each-has (λ z. (n : ℕ) → Contains (list_at index.owners.items z) n → IsTaken level wanted items found n) items c.loop-place.place-index
          c.loop-place-test.false inv.owners one.0 (all one.0 one.1) k one.2 few seeks all
    ]
