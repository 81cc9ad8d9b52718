use Rattle.std.proofs.Common.{map, ap, sym, ◌∙◌}
use Rattle.fy_types.specs.Paths.{and_path, no_paths, append}
use Rattle.fy_types.specs.Reading.{plain_path, plain_paths, paths_in, paths_from}
use Rattle.fy_types.proofs.Laws.{append-none}
use Rattle.fy_types.proofs.ReadLemmas.{plain_paths-at}
use Rattle.fy_types.proofs.Making.{made-push}
use Rattle.fy_derive.specs.Standing.{plain_kind}
use Rattle.fy_order.proofs.DemandLemmas.{other-kept, other-left}
use Rattle.fy_order.proofs.demands.with_other.Goals as goal

pub returns-then-begins : goal.returns-then-begins
returns-then-begins c =
    sym (append-none (plain_paths c.args.paths))
    ∙ ap (append (plain_paths c.args.paths))
    (sym (other-left (plain_kind c.args.demand) (plain_path c.args.path) no_paths (sym c.begins.ensures ∙ c.if-begins.true)))

pub returns : goal.returns
returns c =
    plain_paths-at c.push.new.self
    ∙ (ap (λ xs. paths_from (map plain_path xs)) c.in_ok-push.ensures.ok
    ∙ (made-push (paths_in c.args.paths) c.args.path
    ∙ (ap (λ P. append P (and_path (plain_path c.args.path) no_paths)) (sym (plain_paths-at c.args.paths))
    ∙ ap (append (plain_paths c.args.paths))
    (sym (other-kept (plain_kind c.args.demand) (plain_path c.args.path) no_paths (sym c.begins.ensures ∙ c.if-begins.false))))))
