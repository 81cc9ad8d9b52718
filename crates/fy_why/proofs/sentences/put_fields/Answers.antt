use Rattle.std.proofs.Common.{[], ◌++◌, codes, map, sym, ap, ◌∙◌}
use Rattle.std.proofs.lemmas.Result.{on_ok_weaker}
use Rattle.fy_types.specs.Print.{name_text}
use Rattle.fy_show.specs.Reading.{known_in}
use Rattle.fy_causes.specs.Readings.{explained_read}
use Rattle.fy_why.specs.Sentences.{listed, type_text}
use Rattle.fy_why.proofs.LineLemmas.{two-put}
use Rattle.fy_why.proofs.SentenceLemmas.{fields-none, fields-some}
use Rattle.fy_why.proofs.sentences.put_fields.Goals as goal

pub returns-then-fields-eq0 : goal.returns-then-fields-eq0
returns-then-fields-eq0 c =
    let T = c.args.text.now.items in
    let k = known_in c.args.view.now in
    let E = explained_read c.args.e.now in
    on_ok_weaker c.put-then-fields-eq0.result
    (λ e. two-put T (codes "It has " ++ type_text k E 0) (codes ", and no field at all.") c.put_part_type.new.text.items c.put-then-fields-eq0.new.text.items
    (two-put T (codes "It has ") (type_text k E 0) c.put.new.text.items c.put_part_type.new.text.items c.in_ok-put.ensures c.in_ok-put_part_type.ensures) e
    ∙ ap (λ t. T ++ t) (sym (fields-none k E c.args.fields.now c.if-fields-eq0.true)))
    c.put-then-fields-eq0.ensures

pub returns : goal.returns
returns c =
    let T = c.args.text.now.items in
    let k = known_in c.args.view.now in
    let E = explained_read c.args.e.now in
    let names = listed [] (map (name_text k.names) c.args.fields.now) in
    on_ok_weaker c.put-3.result
    (λ e. two-put T (codes "Its fields are " ++ names) (codes ".") c.put_names.new.text.items c.put-3.new.text.items
    (two-put T (codes "Its fields are ") names c.put-2.new.text.items c.put_names.new.text.items c.in_ok-put-2.ensures c.in_ok-put_names.ensures) e
    ∙ ap (λ t. T ++ t) (sym (fields-some k E c.args.fields.now c.if-fields-eq0.false)))
    c.put-3.ensures
