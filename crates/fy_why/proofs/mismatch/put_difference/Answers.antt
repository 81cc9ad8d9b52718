use Rattle.std.proofs.Common.{codes, decimal}
use Rattle.std.proofs.lemmas.Result.{on_ok_weaker}
use Rattle.fy_types.specs.Reading.{plain_path, plain_paths}
use Rattle.fy_show.specs.Reading.{known_in}
use Rattle.fy_why.specs.Types.{path_text, paths_text}
use Rattle.fy_why.proofs.LineLemmas.{six-put}
use Rattle.fy_why.proofs.mismatch.put_difference.Goals as goal

pub returns : goal.returns
returns c =
    let names = (known_in c.args.view.now).names in
    on_ok_weaker c.put_path.result
    (λ e. six-put c.args.text.now.items (codes ": its argument ") (decimal c.args.number) (codes " would be ") (paths_text names (plain_paths c.args.given.now)) (codes ", with no ")
    (path_text names (plain_path c.args.lacks.now)) _ _ _ _ _ _
    c.in_ok-put.ensures c.in_ok-put_number.ensures c.in_ok-put-2.ensures c.in_ok-put_paths.ensures c.in_ok-put-3.ensures e)
    c.put_path.ensures
