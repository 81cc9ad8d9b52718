use Rattle.std.proofs.Common.{arith, ap, ◌∙◌}
use Rattle.fy_types.specs.Paths.{and_path, no_paths}
use Rattle.fy_types.specs.Reading.{plain_path}
use Rattle.fy_types.specs.Limits.{all_nodes, all_nesting}
use Rattle.fy_types.proofs.Sizes.{append-nodes, append-nesting}
use Rattle.fy_forms.proofs.KeepLemmas.{firsts, firsts-more}
use Rattle.fy_forms.proofs.size.+size.Goals as goal

pub size_of_paths-loop-path-preserved : goal.size_of_paths-loop-path-preserved
size_of_paths-loop-path-preserved t c =
    let more = firsts-more c.as_slice-path-items.result.now c.loop-path.path-index c.path-item.result c.loop-path-test.true c.path-item.is in
    let nodes = ap all_nodes more
    ∙ append-nodes (firsts c.loop-path.path-index c.as_slice-path-items.result.now) (and_path (plain_path c.path-item.result) no_paths) in
    let nesting = ap all_nesting more
    ∙ append-nesting (firsts c.loop-path.path-index c.as_slice-path-items.result.now) (and_path (plain_path c.path-item.result) no_paths) in record {
      nodes = omega (arith, nodes, c.saturating_add-nodes.ensures, c.loop-path.invariant.nodes, c.size_of_path-size.ensures.nodes);
      nesting = omega (arith, nesting, c.max-nesting.ensures, c.loop-path.invariant.nesting, c.size_of_path-size.ensures.nesting);
    }
