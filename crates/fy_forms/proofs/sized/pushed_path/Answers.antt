use Rattle.std.proofs.Common.{map, ap, sym, ◌∙◌}
use Rattle.fy_types.specs.Paths.{and_path, no_paths, append}
use Rattle.fy_types.specs.Reading.{plain_path, paths_in, paths_from}
use Rattle.fy_types.proofs.ReadLemmas.{plain_paths-at}
use Rattle.fy_types.proofs.Making.{made-push}
use Rattle.fy_forms.proofs.sized.pushed_path.Goals as goal

pub returns : goal.returns
returns c =
    plain_paths-at c.push.new.self
    ∙ (ap (λ xs. paths_from (map plain_path xs)) c.in_ok-push.ensures.ok
    ∙ (made-push (paths_in c.args.list) c.args.path
    ∙ ap (λ P. append P (and_path (plain_path c.args.path) no_paths)) (sym (plain_paths-at c.args.list))))
