use Rattle.std.proofs.Common.{sym, ◌∙◌}
use Rattle.fy_types.specs.Reading.{plain_paths, paths_in}
use Rattle.fy_types.proofs.Laws.{append-none}
use Rattle.fy_types.proofs.ReadLemmas.{plain_paths-at}
use Rattle.fy_types.proofs.Making.{append-push}
use Rattle.fy_forms.proofs.sized.appended_paths.Goals as goal

pub loop-path-init : goal.loop-path-init
loop-path-init c = sym (plain_paths-at c.args.list) ∙ sym (append-none (plain_paths c.args.list))

pub loop-path-preserved : goal.loop-path-preserved
loop-path-preserved c =
    append-push (plain_paths c.args.list) (paths_in c.loop-path.made) c.loop-path.yielded (paths_in c.push.new.self)
    c.in-Some.path c.in_ok-push.ensures.ok c.loop-path.invariant
