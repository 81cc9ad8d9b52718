use Rattle.std.proofs.Common.{◌++◌, codes}
use Rattle.std.proofs.lemmas.Result.{on_ok_weaker}
use Rattle.fy_show.specs.Reading.{known_in}
use Rattle.fy_causes.specs.Readings.{explained_read}
use Rattle.fy_why.specs.Sentences.{part_text, type_text}
use Rattle.fy_why.proofs.LineLemmas.{end-put, more-put, two-put}
use Rattle.fy_why.proofs.sentences.put_no_procedure.Goals as goal

pub returns : goal.returns
returns c =
    let T = c.args.text.now.items in
    let lead = c.args.lead.now in
    on_ok_weaker c.put-3.result
    (λ e. end-put T lead (((part_text (known_in c.args.view.now) (explained_read c.args.e.now) 0) ++ (codes " is called, but is no procedure: it has ")) ++ (type_text (known_in c.args.view.now) (explained_read c.args.e.now) 0)) (codes ".") c.put_part_type.new.text.items c.put-3.new.text.items (more-put T lead ((part_text (known_in c.args.view.now) (explained_read c.args.e.now) 0) ++ (codes " is called, but is no procedure: it has ")) (type_text (known_in c.args.view.now) (explained_read c.args.e.now) 0) c.put-2.new.text.items c.put_part_type.new.text.items (more-put T lead (part_text (known_in c.args.view.now) (explained_read c.args.e.now) 0) (codes " is called, but is no procedure: it has ") c.put_part_phrase.new.text.items c.put-2.new.text.items (two-put T lead (part_text (known_in c.args.view.now) (explained_read c.args.e.now) 0) c.put.new.text.items c.put_part_phrase.new.text.items (c.in_ok-put.ensures) c.in_ok-put_part_phrase.ensures) c.in_ok-put-2.ensures) c.in_ok-put_part_type.ensures) e)
    c.put-3.ensures
