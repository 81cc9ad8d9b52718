use Rattle.std.proofs.Common.{◌≡◌, ℕ, ◌+◌, ◌-◌, ◌^◌, max, min, ap, ◌∙◌, arith}
use Rattle.fy_phrase.specs.Reads.{reads}
use Rattle.fy_phrase.specs.Closing.{closed_at}
use Rattle.fy_phrase.specs.Sizes.{nodes as nodes_of, nesting as nesting_of, greatest_u64}
use Rattle.fy_copy.proofs.SizeLemmas.{closed_nodes-more, closed_nesting-more}
use Rattle.fy_copy.proofs.sizes.+closed_size.Goals as goal

nodes_next : (m s c r x y z : ℕ) → s ≡ min x m → c ≡ min y m → r ≡ min (s + c) m → z ≡ x + y → r ≡ min z m
nodes_next m s c r x y z before one sum all = omega arith

nesting_next : (m s c r x y z : ℕ) → s ≡ min x m → c ≡ min y m → r ≡ max s c → z ≡ max x y → r ≡ min z m
nesting_next m s c r x y z before one sum all = omega arith

pub closed_size_of_parts-loop-part-preserved : goal.closed_size_of_parts-loop-part-preserved
closed_size_of_parts-loop-part-preserved t c =
    let ps = c.as_slice-part-items.result.now in
    record {
      nodes = λ n a level actual. nodes_next (2 ^ 64 - 1) _ _ _ _ _ _ (c.loop-part.invariant.nodes n a level actual)
          (c.closed_size.ensures.nodes n a level actual ∙ ap (λ q. greatest_u64 (nodes_of (closed_at n a (reads q)))) c.part-item.is) c.beside-size.ensures.nodes
          (closed_nodes-more n a ps c.loop-part.part-index c.part-item.result c.loop-part-test.true);
      nesting = λ n a level actual. nesting_next (2 ^ 64 - 1) _ _ _ _ _ _ (c.loop-part.invariant.nesting n a level actual)
          (c.closed_size.ensures.nesting n a level actual ∙ ap (λ q. greatest_u64 (nesting_of (closed_at n a (reads q)))) c.part-item.is) c.beside-size.ensures.nesting
          (closed_nesting-more n a ps c.loop-part.part-index c.part-item.result c.loop-part-test.true);
    }
