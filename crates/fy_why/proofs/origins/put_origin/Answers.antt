use Rattle.std.proofs.Common.{◌≡◌, [], ◌∷◌, ◌++◌, length, ap, ◌∙◌}
use Rattle.std.specs.Prelude.{nat_lt, codes}
use Rattle.std.proofs.lemmas.Result.{on_ok_weaker}
use Rattle.fy_base.specs.Outside.{Bytes}
use Rattle.fy_base.specs.declared.data.Place.{Place}
use Rattle.fy_phrase.specs.Reads.{reads}
use Rattle.fy_phrase.specs.Tree.{place_of}
use Rattle.fy_show.specs.Reading.{known_in, scope_in}
use Rattle.fy_causes.specs.declared.around.Around.{Around}
use Rattle.fy_causes.specs.Readings.{around_read, variable_read}
use Rattle.fy_causes.proofs.AroundLemmas.{around-under}
use Rattle.fy_why.specs.Sentences.{phrase_told, place_text}
use Rattle.fy_why.specs.Origins.{binder_word, origin, prelude_names}
use Rattle.fy_why.specs.Texts.{lines}
use Rattle.fy_why.proofs.LineLemmas.{end-put, more-put, put-text, two-put}
use Rattle.fy_why.proofs.OriginLemmas.{origin-told, origin_words}
use Rattle.fy_why.proofs.origins.put_origin.Goals as goal

pub returns : goal.returns
returns c =
    let T = c.args.text.now.items in
    let lead = c.args.lead.now in
    let P = phrase_told (known_in c.args.view.now) (scope_in c.args.view.now) (reads c.args.name.now) in
    let v = variable_read c.in-Under.variable in
    let G = around_read c.in-Under.outer.value in
    let H = around_read c.args.around.now in
    let W = binder_word (reads c.in-Under.variable.binder.now) in
    let A = place_text (place_of (reads c.in-Under.variable.binder.now)) in
    let is : H ≡ v ∷ G = ap around_read c.in-Under.is ∙ around-under c.in-Under.variable c.in-Under.outer in
    let fewer : c.are_fewer.result ≡ nat_lt (length G) prelude_names =
    c.are_fewer.ensures ∙ ap (λ (a : Around). nat_lt (length (around_read a)) prelude_names) c.deref.ensures in
    let word : c.put-3.new.text.items ≡ c.put-2.new.text.items ++ W = c.in_ok-put-3.ensures ∙ ap (λ (b : Bytes). c.put-2.new.text.items ++ b) c.binder_word.ensures in
    let place : c.put_place.new.text.items ≡ c.put-4.new.text.items ++ A =
    c.in_ok-put_place.ensures ∙ ap (λ (a : Place). c.put-4.new.text.items ++ place_text a) c.place.ensures in
    put-text c.put-5.result c.put-5.new.text.items T (lines lead (origin_words P v ∷ [])) (lines lead (origin P H))
    (on_ok_weaker c.put-5.result
    (λ f. end-put T lead ((((P ++ codes " is ") ++ W) ++ codes ", from ") ++ A) (codes ".") c.put_place.new.text.items c.put-5.new.text.items
    (more-put T lead (((P ++ codes " is ") ++ W) ++ codes ", from ") A c.put-4.new.text.items c.put_place.new.text.items
    (more-put T lead ((P ++ codes " is ") ++ W) (codes ", from ") c.put-3.new.text.items c.put-4.new.text.items
    (more-put T lead (P ++ codes " is ") W c.put-2.new.text.items c.put-3.new.text.items
    (more-put T lead P (codes " is ") c.put_phrase.new.text.items c.put-2.new.text.items
    (two-put T lead P c.put.new.text.items c.put_phrase.new.text.items c.in_ok-put.ensures c.in_ok-put_phrase.ensures)
    c.in_ok-put-2.ensures) word) c.in_ok-put-4.ensures) place) f)
    c.put-5.ensures)
    (ap (lines lead) (origin-told P v G H c.are_fewer.result is fewer c.if-are_fewer.false))
