use Rattle.std.proofs.Common.{◌≡◌, ap, sym}
use Rattle.fy_types.specs.Reading.{plain_paths}
use Rattle.fy_causes.specs.Causes.{Cause, parts}
use Rattle.fy_causes.specs.Readings.{cause_read, explained_read}
use Rattle.fy_show.specs.Reading.{known_in}
use Rattle.fy_why.specs.Sentences.{sentences}
use Rattle.fy_why.specs.Texts.{lines}
use Rattle.fy_why.proofs.LineLemmas.{put-text}
use Rattle.fy_why.proofs.sentences.put_sentences.Goals as goal

pub returns-in-Parts : goal.returns-in-Parts
returns-in-Parts c =
    let k = known_in c.args.view.now in
    let E = explained_read c.args.e.now in
    let lead = c.args.lead.now in
    let is : cause_read c.args.e.now.cause ≡ parts c.in-Parts.index (plain_paths c.in-Parts.joined) = ap cause_read c.in-Parts.is in
    put-text c.put_apart.result c.put_apart.new.text.items c.args.text.now.items (lines lead (sentences k E (parts c.in-Parts.index (plain_paths c.in-Parts.joined))))
    (lines lead (sentences k E (cause_read c.args.e.now.cause))) c.put_apart.ensures (ap (λ (x : Cause). lines lead (sentences k E x)) (sym is))
