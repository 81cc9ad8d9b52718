use Rattle.std.proofs.Common.{◌≡◌, ◌≢◌, [], ◌∷◌, ◌++◌, sym, ap, ◌∙◌}
use Rattle.std.specs.Prelude.{codes}
use Rattle.std.proofs.lemmas.List.{append-nil}
use Rattle.std.proofs.lemmas.Result.{on_ok_weaker}
use Rattle.fy_types.specs.Paths.{PlainPaths}
use Rattle.fy_types.specs.Reading.{plain_paths}
use Rattle.fy_phrase.specs.Reads.{reads}
use Rattle.fy_show.specs.Reading.{known_in, scope_in}
use Rattle.fy_causes.specs.Occurrences.{least_in}
use Rattle.fy_causes.specs.Readings.{around_read}
use Rattle.fy_why.specs.Types.{count, paths_text}
use Rattle.fy_why.specs.Sentences.{phrase_told}
use Rattle.fy_why.specs.Origins.{taken, takers}
use Rattle.fy_why.specs.Texts.{lines}
use Rattle.fy_why.proofs.LineLemmas.{end-put, more-put, put-text, two-put}
use Rattle.fy_why.proofs.OriginLemmas.{count-len, taken-none, taken-told, taken_words}
use Rattle.fy_why.proofs.origins.put_taken.Goals as goal

pub returns-then-len : goal.returns-then-len
returns-then-len c =
    let T = c.args.text.now.items in
    let lead = c.args.lead.now in
    let k = known_in c.args.view.now in
    let s = scope_in c.args.view.now in
    let G = around_read c.args.around.now.value in
    let A = least_in G (reads c.args.procedure.now) in
    let Q = least_in G (reads c.args.argument.now) in
    let read : plain_paths c.in_ok-taken.taken ≡ takers Q A =
    c.in_ok-taken.ensures ∙ (ap (λ (q : PlainPaths). takers q (plain_paths c.in_ok-all.all)) c.in_ok-given.ensures ∙ ap (takers Q) c.in_ok-all.ensures) in
    let same : count (takers Q A) ≡ count A =
    ap count (sym read) ∙ (count-len c.in_ok-taken.taken ∙ (sym c.len.ensures ∙ (c.if-len.true ∙ (c.len-2.ensures ∙ (sym (count-len c.in_ok-all.all) ∙ ap count c.in_ok-all.ensures))))) in
    sym (append-nil T)
    ∙ ap (λ ls. T ++ lines lead ls)
    (taken-none k (phrase_told k s (reads c.args.procedure.now)) A (takers Q A) (phrase_told k s (reads c.args.argument.now)) same)

pub returns : goal.returns
returns c =
    let T = c.args.text.now.items in
    let lead = c.args.lead.now in
    let k = known_in c.args.view.now in
    let s = scope_in c.args.view.now in
    let G = around_read c.args.around.now.value in
    let A = least_in G (reads c.args.procedure.now) in
    let Q = least_in G (reads c.args.argument.now) in
    let F = phrase_told k s (reads c.args.procedure.now) in
    let X = phrase_told k s (reads c.args.argument.now) in
    let PA = paths_text k.names A in
    let PT = paths_text k.names (takers Q A) in
    let read : plain_paths c.in_ok-taken.taken ≡ takers Q A =
    c.in_ok-taken.ensures ∙ (ap (λ (q : PlainPaths). takers q (plain_paths c.in_ok-all.all)) c.in_ok-given.ensures ∙ ap (takers Q) c.in_ok-all.ensures) in
    let some : count (takers Q A) ≡ c.len.result = ap count (sym read) ∙ (count-len c.in_ok-taken.taken ∙ sym c.len.ensures) in
    let every : count A ≡ c.len-2.result = ap count (sym c.in_ok-all.ensures) ∙ (count-len c.in_ok-all.all ∙ sym c.len-2.ensures) in
    let apart : count (takers Q A) ≢ count A = λ e. c.if-len.false (sym some ∙ (e ∙ every)) in
    let has : c.put_paths.new.text.items ≡ c.put-3.new.text.items ++ PA =
    c.in_ok-put_paths.ensures ∙ ap (λ (ps : PlainPaths). c.put-3.new.text.items ++ paths_text k.names ps) c.in_ok-all.ensures in
    let takes : c.put_paths-2.new.text.items ≡ c.put-4.new.text.items ++ PT =
    c.in_ok-put_paths-2.ensures ∙ ap (λ (ps : PlainPaths). c.put-4.new.text.items ++ paths_text k.names ps) read in
    put-text c.put-6.result c.put-6.new.text.items T (lines lead (taken_words k F A (takers Q A) X ∷ [])) (lines lead (taken k F A (takers Q A) X))
    (on_ok_weaker c.put-6.result
    (λ f. end-put T lead (((((((codes "In it " ++ F) ++ codes " has ") ++ PA) ++ codes ", of which ") ++ PT) ++ codes " takes ") ++ X) (codes ".") c.put_phrase-2.new.text.items c.put-6.new.text.items
    (more-put T lead ((((((codes "In it " ++ F) ++ codes " has ") ++ PA) ++ codes ", of which ") ++ PT) ++ codes " takes ") X c.put-5.new.text.items c.put_phrase-2.new.text.items
    (more-put T lead (((((codes "In it " ++ F) ++ codes " has ") ++ PA) ++ codes ", of which ") ++ PT) (codes " takes ") c.put_paths-2.new.text.items c.put-5.new.text.items
    (more-put T lead ((((codes "In it " ++ F) ++ codes " has ") ++ PA) ++ codes ", of which ") PT c.put-4.new.text.items c.put_paths-2.new.text.items
    (more-put T lead (((codes "In it " ++ F) ++ codes " has ") ++ PA) (codes ", of which ") c.put_paths.new.text.items c.put-4.new.text.items
    (more-put T lead ((codes "In it " ++ F) ++ codes " has ") PA c.put-3.new.text.items c.put_paths.new.text.items
    (more-put T lead (codes "In it " ++ F) (codes " has ") c.put_phrase.new.text.items c.put-3.new.text.items
    (more-put T lead (codes "In it ") F c.put-2.new.text.items c.put_phrase.new.text.items
    (two-put T lead (codes "In it ") c.put.new.text.items c.put-2.new.text.items c.in_ok-put.ensures c.in_ok-put-2.ensures)
    c.in_ok-put_phrase.ensures) c.in_ok-put-3.ensures) has) c.in_ok-put-4.ensures) takes) c.in_ok-put-5.ensures) c.in_ok-put_phrase-2.ensures) f)
    c.put-6.ensures)
    (ap (lines lead) (taken-told k F A (takers Q A) X apart))
