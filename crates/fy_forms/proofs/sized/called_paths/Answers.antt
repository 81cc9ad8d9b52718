use Rattle.std.proofs.Common.{◌≡◌, ◌∙◌, ap, rules}
use Rattle.fy_types.specs.Reading.{plain_path, plain_paths, paths_in, front, a_call}
use Rattle.fy_types.proofs.ReadLemmas.{plain_elem-Call}
use Rattle.fy_types.proofs.Making.{called-push}
use Rattle.fy_forms.proofs.sized.called_paths.Goals as goal

pub loop-path-preserved : goal.loop-path-preserved
loop-path-preserved c =
    let same : c.in_ok-clone.field-0.value ≡ c.args.domain = search rules in
    called-push (plain_paths c.args.domain) (paths_in c.loop-path.made) c.loop-path.yielded (paths_in c.push.new.self)
    c.in_ok-after.field-0 c.in-Some.path c.in_ok-push.ensures.ok
    (c.in_ok-after.ensures ∙ ap (λ x. front x (plain_path c.in-Some.path))
    (plain_elem-Call c.in_ok-clone.field-0 ∙ ap (λ d. a_call (plain_paths d)) same)) c.loop-path.invariant
