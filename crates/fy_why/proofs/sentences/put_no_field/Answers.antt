use Rattle.std.proofs.Common.{◌≡◌, [], ◌∷◌, ◌++◌, codes}
use Rattle.std.proofs.lemmas.Result.{on_ok_weaker}
use Rattle.fy_phrase.specs.Reads.{reads}
use Rattle.fy_show.specs.Reading.{known_in}
use Rattle.fy_causes.specs.Readings.{explained_read}
use Rattle.fy_why.specs.Sentences.{fields_text, part_text, selected}
use Rattle.fy_why.proofs.LineLemmas.{end-put, line-put, lines-put, more-put, two-put}
use Rattle.fy_why.proofs.sentences.put_no_field.Goals as goal

pub returns : goal.returns
returns c =
    let T = c.args.text.now.items in
    let lead = c.args.lead.now in
    let line1 : c.put-3.new.text.items ≡ T ++ ((lead ++ ((((part_text (known_in c.args.view.now) (explained_read c.args.e.now) 0) ++ (codes " has no field ")) ++ (selected (known_in c.args.view.now).names (reads c.args.e.now.at.phrase.now))) ++ (codes "."))) ++ 10 ∷ []) = end-put T lead (((part_text (known_in c.args.view.now) (explained_read c.args.e.now) 0) ++ (codes " has no field ")) ++ (selected (known_in c.args.view.now).names (reads c.args.e.now.at.phrase.now))) (codes ".") c.put_selected.new.text.items c.put-3.new.text.items (more-put T lead ((part_text (known_in c.args.view.now) (explained_read c.args.e.now) 0) ++ (codes " has no field ")) (selected (known_in c.args.view.now).names (reads c.args.e.now.at.phrase.now)) c.put-2.new.text.items c.put_selected.new.text.items (more-put T lead (part_text (known_in c.args.view.now) (explained_read c.args.e.now) 0) (codes " has no field ") c.put_part_phrase.new.text.items c.put-2.new.text.items (two-put T lead (part_text (known_in c.args.view.now) (explained_read c.args.e.now) 0) c.put.new.text.items c.put_part_phrase.new.text.items (c.in_ok-put.ensures) c.in_ok-put_part_phrase.ensures) c.in_ok-put-2.ensures) c.in_ok-put_selected.ensures) c.in_ok-put-3.ensures in
    on_ok_weaker c.put-5.result
    (λ e. lines-put T (lead ++ ((((part_text (known_in c.args.view.now) (explained_read c.args.e.now) 0) ++ (codes " has no field ")) ++ (selected (known_in c.args.view.now).names (reads c.args.e.now.at.phrase.now))) ++ (codes "."))) ((lead ++ (fields_text (known_in c.args.view.now) (explained_read c.args.e.now) c.args.fields.now)) ++ 10 ∷ []) c.put-3.new.text.items c.put-5.new.text.items line1 (line-put c.put-3.new.text.items lead (fields_text (known_in c.args.view.now) (explained_read c.args.e.now) c.args.fields.now) c.put_fields.new.text.items c.put-5.new.text.items (two-put c.put-3.new.text.items lead (fields_text (known_in c.args.view.now) (explained_read c.args.e.now) c.args.fields.now) c.put-4.new.text.items c.put_fields.new.text.items (c.in_ok-put-4.ensures) c.in_ok-put_fields.ensures) e))
    c.put-5.ensures
