use Rattle.std.proofs.Common.{◌++◌, codes}
use Rattle.std.proofs.lemmas.Result.{on_ok_weaker}
use Rattle.fy_types.specs.Reading.{plain_paths}
use Rattle.fy_show.specs.Reading.{known_in}
use Rattle.fy_why.specs.Types.{paths_text}
use Rattle.fy_why.proofs.LineLemmas.{end-put, more-put, two-put}
use Rattle.fy_why.proofs.sentences.put_not_command.Goals as goal

pub returns : goal.returns
returns c =
    let T = c.args.text.now.items in
    let lead = c.args.lead.now in
    on_ok_weaker c.put-3.result
    (λ e. end-put T lead ((codes "A program is a comm, and this has ") ++ (paths_text (known_in c.args.view.now).names (plain_paths c.args.e.now.paths))) (codes ".") c.put_paths.new.text.items c.put-3.new.text.items (more-put T lead (codes "A program is a comm, and this has ") (paths_text (known_in c.args.view.now).names (plain_paths c.args.e.now.paths)) c.put-2.new.text.items c.put_paths.new.text.items (two-put T lead (codes "A program is a comm, and this has ") c.put.new.text.items c.put-2.new.text.items (c.in_ok-put.ensures) c.in_ok-put-2.ensures) c.in_ok-put_paths.ensures) e)
    c.put-3.ensures
