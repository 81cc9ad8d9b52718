use Rattle.std.proofs.Common.{◌++◌, map, take, ap, sym, ◌∙◌}
use Rattle.fy_types.specs.Reading.{plain_type, types_from}
use Rattle.fy_types.specs.Print.{enclosed, type_text, members_text, separator_text}
use Rattle.fy_types.proofs.PrintLemmas.{members-more, regrouped}
use Rattle.fy_types.proofs.print.+print.Goals as goal

pub put_members-loop-i-preserved : goal.put_members-loop-i-preserved
put_members-loop-i-preserved t c =
    let more = members-more c.args.names.now c.as_slice-list.result.now c.loop-i.i c.index-list-i.result c.loop-i-test.true c.index-list-i.is in
    let part = enclosed (plain_type c.index-list-i.result) (type_text c.args.names.now (plain_type c.index-list-i.result)) in
    let old = members_text c.args.names.now (types_from (map plain_type (take c.loop-i.i c.as_slice-list.result.now))) in
    c.in_ok-put_part.ensures
    ∙ (ap (λ x. x ++ part) (c.in_ok-put.ensures ∙ ap (λ x. x ++ c.separator.result.now) c.loop-i.invariant)
    ∙ (ap (λ s. ((c.args.text.now ++ old) ++ s) ++ part) c.separator.ensures
    ∙ (sym (regrouped c.args.text.now old (separator_text c.loop-i.i) part) ∙ ap (λ x. c.args.text.now ++ x) (sym more))))
