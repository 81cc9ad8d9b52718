use Rattle.std.proofs.Common.{◌∙◌, ap}
use Rattle.fy_types.specs.Reading.{plain_path, paths_in, front}
use Rattle.fy_types.proofs.ReadLemmas.{plain_elem-Field}
use Rattle.fy_types.proofs.Making.{picked-push}
use Rattle.fy_forms.proofs.sized.picked_paths.Goals as goal

pub loop-path-preserved : goal.loop-path-preserved
loop-path-preserved c =
    picked-push c.args.name (paths_in c.loop-path.made) c.loop-path.yielded (paths_in c.push.new.self)
    c.in_ok-after.field-0 c.in-Some.path c.in_ok-push.ensures.ok
    (c.in_ok-after.ensures ∙ ap (λ x. front x (plain_path c.in-Some.path)) (plain_elem-Field c.args.name)) c.loop-path.invariant
