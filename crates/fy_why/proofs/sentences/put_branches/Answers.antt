use Rattle.std.proofs.Common.{◌≡◌, [], ◌∷◌, ◌++◌, codes}
use Rattle.std.proofs.lemmas.Result.{on_ok_weaker}
use Rattle.fy_show.specs.Reading.{known_in}
use Rattle.fy_causes.specs.Readings.{explained_read}
use Rattle.fy_why.specs.Sentences.{has_text}
use Rattle.fy_why.proofs.LineLemmas.{end-put, lines-put, only-put, two-put}
use Rattle.fy_why.proofs.sentences.put_branches.Goals as goal

pub returns : goal.returns
returns c =
    let T = c.args.text.now.items in
    let lead = c.args.lead.now in
    let line1 : c.put-2.new.text.items ≡ T ++ ((lead ++ ((has_text (known_in c.args.view.now) (explained_read c.args.e.now) 1) ++ (codes "."))) ++ 10 ∷ []) = end-put T lead (has_text (known_in c.args.view.now) (explained_read c.args.e.now) 1) (codes ".") c.put_having.new.text.items c.put-2.new.text.items (two-put T lead (has_text (known_in c.args.view.now) (explained_read c.args.e.now) 1) c.put.new.text.items c.put_having.new.text.items (c.in_ok-put.ensures) c.in_ok-put_having.ensures) c.in_ok-put-2.ensures in
    let line2 : c.put-4.new.text.items ≡ c.put-2.new.text.items ++ ((lead ++ ((has_text (known_in c.args.view.now) (explained_read c.args.e.now) 2) ++ (codes "."))) ++ 10 ∷ []) = end-put c.put-2.new.text.items lead (has_text (known_in c.args.view.now) (explained_read c.args.e.now) 2) (codes ".") c.put_having-2.new.text.items c.put-4.new.text.items (two-put c.put-2.new.text.items lead (has_text (known_in c.args.view.now) (explained_read c.args.e.now) 2) c.put-3.new.text.items c.put_having-2.new.text.items (c.in_ok-put-3.ensures) c.in_ok-put_having-2.ensures) c.in_ok-put-4.ensures in
    on_ok_weaker c.put-6.result
    (λ e. lines-put T (lead ++ ((has_text (known_in c.args.view.now) (explained_read c.args.e.now) 1) ++ (codes "."))) ((lead ++ ((has_text (known_in c.args.view.now) (explained_read c.args.e.now) 2) ++ (codes "."))) ++ 10 ∷ ((lead ++ codes "They have no type in common.") ++ 10 ∷ [])) c.put-2.new.text.items c.put-6.new.text.items line1 (lines-put c.put-2.new.text.items (lead ++ ((has_text (known_in c.args.view.now) (explained_read c.args.e.now) 2) ++ (codes "."))) ((lead ++ codes "They have no type in common.") ++ 10 ∷ []) c.put-4.new.text.items c.put-6.new.text.items line2 (only-put c.put-4.new.text.items lead (codes "They have no type in common.") c.put-5.new.text.items c.put-6.new.text.items (c.in_ok-put-5.ensures) e)))
    c.put-6.ensures
