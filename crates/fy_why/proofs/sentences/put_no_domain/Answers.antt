use Rattle.std.proofs.Common.{◌≡◌, [], ◌∷◌, ◌++◌, codes, length, map, take, sym, ap, ◌∙◌}
use Rattle.std.proofs.lemmas.List.{take-map}
use Rattle.std.proofs.lemmas.Result.{on_ok_weaker}
use Rattle.fy_base.specs.Outside.{Bytes}
use Rattle.fy_show.specs.Reading.{known_in}
use Rattle.fy_causes.specs.Readings.{explained_read, missed_read}
use Rattle.fy_why.specs.Sentences.{has_text, missed_text, others_text}
use Rattle.fy_why.specs.Texts.{lines}
use Rattle.fy_why.proofs.LineLemmas.{end-put, lines-put, more-put, two-put}
use Rattle.fy_why.proofs.SentenceLemmas.{lines-append, take-least}
use Rattle.fy_why.proofs.sentences.put_no_domain.Goals as goal

pub returns : goal.returns
returns c =
    let T = c.args.text.now.items in
    let lead = c.args.lead.now in
    let k = known_in c.args.view.now in
    let E = explained_read c.args.e.now in
    let all = c.args.all.now in
    let H = has_text k E 1 in
    let L = lead ++ (codes "The argument " ++ H ++ codes ".") in
    let Ms = map (missed_text k E) (take 4 (map missed_read all)) in
    let Os = others_text (length all) in
    let first : map missed_read (take c.min.result all) ≡ take 4 (map missed_read all) = ap (map missed_read) (take-least all c.min.result 4 c.min.ensures) ∙ sym (take-map missed_read 4 all) in
    let line : c.put-3.new.text.items ≡ T ++ (L ++ 10 ∷ []) =
    end-put T lead (codes "The argument " ++ H) (codes ".") c.put_having.new.text.items c.put-3.new.text.items
    (more-put T lead (codes "The argument ") H c.put-2.new.text.items c.put_having.new.text.items
    (two-put T lead (codes "The argument ") c.put.new.text.items c.put-2.new.text.items c.in_ok-put.ensures c.in_ok-put-2.ensures) c.in_ok-put_having.ensures) c.in_ok-put-3.ensures in
    let missed : c.put_all_missed.new.text.items ≡ c.put-3.new.text.items ++ lines lead Ms =
    c.in_ok-put_all_missed.ensures ∙ ap (λ ms. c.put-3.new.text.items ++ lines lead (map (missed_text k E) ms)) first in
    on_ok_weaker c.put_others.result
    (λ e. lines-put T L (lines lead Ms ++ lines lead Os) c.put-3.new.text.items c.put_others.new.text.items line
    (two-put c.put-3.new.text.items (lines lead Ms) (lines lead Os) c.put_all_missed.new.text.items c.put_others.new.text.items missed e)
    ∙ ap (λ (t : Bytes). T ++ (L ++ 10 ∷ t)) (sym (lines-append lead Ms Os)))
    c.put_others.ensures
