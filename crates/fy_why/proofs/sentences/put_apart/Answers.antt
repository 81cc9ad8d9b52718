use Rattle.std.proofs.Common.{◌≡◌, [], ◌∷◌, ◌++◌, codes}
use Rattle.std.proofs.lemmas.Result.{on_ok_weaker}
use Rattle.fy_types.specs.Reading.{plain_paths}
use Rattle.fy_show.specs.Reading.{known_in}
use Rattle.fy_causes.specs.Readings.{explained_read}
use Rattle.fy_why.specs.Types.{paths_text}
use Rattle.fy_why.specs.Sentences.{has_text}
use Rattle.fy_why.proofs.LineLemmas.{end-put, lines-put, more-put, two-put}
use Rattle.fy_why.proofs.sentences.put_apart.Goals as goal

pub returns : goal.returns
returns c =
    let T = c.args.text.now.items in
    let lead = c.args.lead.now in
    let line1 : c.put-3.new.text.items ≡ T ++ ((lead ++ (((codes "The parts of `seq` before it have ") ++ (paths_text (known_in c.args.view.now).names (plain_paths c.args.joined.now))) ++ (codes " in common."))) ++ 10 ∷ []) = end-put T lead ((codes "The parts of `seq` before it have ") ++ (paths_text (known_in c.args.view.now).names (plain_paths c.args.joined.now))) (codes " in common.") c.put_paths.new.text.items c.put-3.new.text.items (more-put T lead (codes "The parts of `seq` before it have ") (paths_text (known_in c.args.view.now).names (plain_paths c.args.joined.now)) c.put-2.new.text.items c.put_paths.new.text.items (two-put T lead (codes "The parts of `seq` before it have ") c.put.new.text.items c.put-2.new.text.items (c.in_ok-put.ensures) c.in_ok-put-2.ensures) c.in_ok-put_paths.ensures) c.in_ok-put-3.ensures in
    on_ok_weaker c.put-5.result
    (λ e. lines-put T (lead ++ (((codes "The parts of `seq` before it have ") ++ (paths_text (known_in c.args.view.now).names (plain_paths c.args.joined.now))) ++ (codes " in common."))) ((lead ++ ((has_text (known_in c.args.view.now) (explained_read c.args.e.now) c.args.index) ++ (codes ": nothing of that."))) ++ 10 ∷ []) c.put-3.new.text.items c.put-5.new.text.items line1 (end-put c.put-3.new.text.items lead (has_text (known_in c.args.view.now) (explained_read c.args.e.now) c.args.index) (codes ": nothing of that.") c.put_having.new.text.items c.put-5.new.text.items (two-put c.put-3.new.text.items lead (has_text (known_in c.args.view.now) (explained_read c.args.e.now) c.args.index) c.put-4.new.text.items c.put_having.new.text.items (c.in_ok-put-4.ensures) c.in_ok-put_having.ensures) e))
    c.put-5.ensures
