use Rattle.std.proofs.Common.{◌++◌, ◌∷◌, [], map, ap, ◌∙◌}
use Rattle.std.proofs.lemmas.List.{map-append}
use Rattle.fy_types.specs.Reading.{plain_path}
use Rattle.fy_forms.specs.Rows.{plain_member}
use Rattle.fy_forms.proofs.RowLemmas.{tagged-more}
use Rattle.fy_forms.proofs.rows.with_domain.Goals as goal

pub loop-path-preserved : goal.loop-path-preserved
loop-path-preserved c =
    ap (map plain_member) c.in_ok-push.ensures.items
    ∙ (map-append plain_member c.loop-path.made.items _
    ∙ (ap (λ X. X ++ ((c.args.place, plain_path c.path-item.result) ∷ [])) c.loop-path.invariant
    ∙ tagged-more (map plain_member c.args.list.items) c.args.place c.as_slice-path-items.result.now c.loop-path.path-index c.path-item.result
    c.loop-path-test.true c.path-item.is))
