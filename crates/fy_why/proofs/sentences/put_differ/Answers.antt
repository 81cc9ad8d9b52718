use Rattle.std.proofs.Common.{◌≡◌, [], ◌∷◌, ◌++◌, codes, ap, ◌∙◌}
use Rattle.std.proofs.lemmas.Result.{on_ok_weaker}
use Rattle.fy_base.specs.Outside.{Bytes}
use Rattle.fy_phrase.specs.Reads.{reads}
use Rattle.fy_show.specs.Reading.{known_in}
use Rattle.fy_causes.specs.Readings.{explained_read}
use Rattle.fy_why.specs.Sentences.{has_text, operator_of, quoted}
use Rattle.fy_why.proofs.LineLemmas.{end-put, lines-put, more-put, two-put}
use Rattle.fy_why.proofs.sentences.put_differ.Goals as goal

pub returns : goal.returns
returns c =
    let T = c.args.text.now.items in
    let lead = c.args.lead.now in
    let line1 : c.put-2.new.text.items ≡ T ++ ((lead ++ ((quoted (operator_of (reads c.args.e.now.at.phrase.now))) ++ (codes " wants two values of one type."))) ++ 10 ∷ []) = end-put T lead (quoted (operator_of (reads c.args.e.now.at.phrase.now))) (codes " wants two values of one type.") c.put_quoted.new.text.items c.put-2.new.text.items (two-put T lead (quoted (operator_of (reads c.args.e.now.at.phrase.now))) c.put.new.text.items c.put_quoted.new.text.items (c.in_ok-put.ensures) (c.in_ok-put_quoted.ensures ∙ ap (λ (w : Bytes). c.put.new.text.items ++ quoted w) c.operator_in.ensures)) c.in_ok-put-2.ensures in
    on_ok_weaker c.put-5.result
    (λ e. lines-put T (lead ++ ((quoted (operator_of (reads c.args.e.now.at.phrase.now))) ++ (codes " wants two values of one type."))) ((lead ++ ((((has_text (known_in c.args.view.now) (explained_read c.args.e.now) 0) ++ (codes ", and ")) ++ (has_text (known_in c.args.view.now) (explained_read c.args.e.now) 1)) ++ (codes "."))) ++ 10 ∷ []) c.put-2.new.text.items c.put-5.new.text.items line1 (end-put c.put-2.new.text.items lead (((has_text (known_in c.args.view.now) (explained_read c.args.e.now) 0) ++ (codes ", and ")) ++ (has_text (known_in c.args.view.now) (explained_read c.args.e.now) 1)) (codes ".") c.put_having-2.new.text.items c.put-5.new.text.items (more-put c.put-2.new.text.items lead ((has_text (known_in c.args.view.now) (explained_read c.args.e.now) 0) ++ (codes ", and ")) (has_text (known_in c.args.view.now) (explained_read c.args.e.now) 1) c.put-4.new.text.items c.put_having-2.new.text.items (more-put c.put-2.new.text.items lead (has_text (known_in c.args.view.now) (explained_read c.args.e.now) 0) (codes ", and ") c.put_having.new.text.items c.put-4.new.text.items (two-put c.put-2.new.text.items lead (has_text (known_in c.args.view.now) (explained_read c.args.e.now) 0) c.put-3.new.text.items c.put_having.new.text.items (c.in_ok-put-3.ensures) c.in_ok-put_having.ensures) c.in_ok-put-4.ensures) c.in_ok-put_having-2.ensures) e))
    c.put-5.ensures
