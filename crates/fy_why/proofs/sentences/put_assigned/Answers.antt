use Rattle.std.proofs.Common.{◌++◌, map, codes}
use Rattle.std.proofs.lemmas.Result.{on_ok_weaker}
use Rattle.fy_short.specs.DataTexts.{data_word}
use Rattle.fy_show.specs.Reading.{known_in}
use Rattle.fy_causes.specs.Readings.{explained_read}
use Rattle.fy_why.specs.Sentences.{has_text, or_text, part_text}
use Rattle.fy_why.proofs.LineLemmas.{end-put, more-put, two-put}
use Rattle.fy_why.proofs.sentences.put_assigned.Goals as goal

pub returns : goal.returns
returns c =
    let T = c.args.text.now.items in
    let lead = c.args.lead.now in
    on_ok_weaker c.put-4.result
    (λ e. end-put T lead (((((part_text (known_in c.args.view.now) (explained_read c.args.e.now) 0) ++ (codes " takes ")) ++ (or_text (map data_word c.args.taken.now))) ++ (codes ", and ")) ++ (has_text (known_in c.args.view.now) (explained_read c.args.e.now) 1)) (codes ".") c.put_having.new.text.items c.put-4.new.text.items (more-put T lead ((((part_text (known_in c.args.view.now) (explained_read c.args.e.now) 0) ++ (codes " takes ")) ++ (or_text (map data_word c.args.taken.now))) ++ (codes ", and ")) (has_text (known_in c.args.view.now) (explained_read c.args.e.now) 1) c.put-3.new.text.items c.put_having.new.text.items (more-put T lead (((part_text (known_in c.args.view.now) (explained_read c.args.e.now) 0) ++ (codes " takes ")) ++ (or_text (map data_word c.args.taken.now))) (codes ", and ") c.put_data.new.text.items c.put-3.new.text.items (more-put T lead ((part_text (known_in c.args.view.now) (explained_read c.args.e.now) 0) ++ (codes " takes ")) (or_text (map data_word c.args.taken.now)) c.put-2.new.text.items c.put_data.new.text.items (more-put T lead (part_text (known_in c.args.view.now) (explained_read c.args.e.now) 0) (codes " takes ") c.put_part_phrase.new.text.items c.put-2.new.text.items (two-put T lead (part_text (known_in c.args.view.now) (explained_read c.args.e.now) 0) c.put.new.text.items c.put_part_phrase.new.text.items (c.in_ok-put.ensures) c.in_ok-put_part_phrase.ensures) c.in_ok-put-2.ensures) c.in_ok-put_data.ensures) c.in_ok-put-3.ensures) c.in_ok-put_having.ensures) e)
    c.put-4.ensures
