use Rattle.std.proofs.Common.{map, sym, ap, ◌∙◌}
use Rattle.fy_types.specs.Paths.{and_path, append, no_paths}
use Rattle.fy_types.specs.Reading.{plain_path, paths_from}
use Rattle.fy_types.proofs.Making.{made-push}
use Rattle.fy_derive.specs.Least.{others}
use Rattle.fy_derive.specs.Standing.{plain_kind}
use Rattle.fy_order.proofs.DemandLemmas.{others-append}
use Rattle.fy_order.proofs.demands.others.Goals as goal

pub loop-path-preserved : goal.loop-path-preserved
loop-path-preserved c =
    let k = plain_kind c.args.demand in
    let one = and_path (plain_path c.in-Some.path) no_paths in
    c.in_ok-kept-2.ensures
    ∙ (ap (λ P. append P (others k one)) c.loop-path.invariant
    ∙ (sym (others-append k (paths_from (map plain_path c.loop-path.yielded)) one)
    ∙ ap (others k) (sym (made-push c.loop-path.yielded c.in-Some.path))))
