use Rattle.std.proofs.lemmas.Result.{on_ok_weaker}
use Rattle.fy_types.specs.Reading.{plain_path}
use Rattle.fy_phrase.specs.Reads.{reads}
use Rattle.fy_show.specs.Reading.{known_in}
use Rattle.fy_causes.specs.Readings.{around_read}
use Rattle.fy_why.specs.Sentences.{declared_text, first_field}
use Rattle.fy_why.proofs.LineLemmas.{line-put, two-put}
use Rattle.fy_why.proofs.sentences.put_declared.Goals as goal

pub returns : goal.returns
returns c =
    let T = c.args.text.now.items in
    let lead = c.args.lead.now in
    on_ok_weaker c.put-2.result
    (λ e. line-put T lead (declared_text (known_in c.args.view.now) (around_read c.args.e.now.at.around.value) (reads c.args.e.now.at.phrase.now) (first_field (plain_path c.args.path.now))) c.put_declaration.new.text.items c.put-2.new.text.items (two-put T lead (declared_text (known_in c.args.view.now) (around_read c.args.e.now.at.around.value) (reads c.args.e.now.at.phrase.now) (first_field (plain_path c.args.path.now))) c.put.new.text.items c.put_declaration.new.text.items (c.in_ok-put.ensures) c.in_ok-put_declaration.ensures) e)
    c.put-2.ensures
