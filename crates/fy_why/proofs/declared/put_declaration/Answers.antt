use Rattle.std.proofs.Common.{◌≡◌, ◌<◌, ◌∷◌, ◌++◌, List, codes, length, sym, ap, ◌∙◌}
use Rattle.std.proofs.lemmas.Result.{on_ok_weaker}
use Rattle.fy_base.specs.Outside.{Bytes}
use Rattle.fy_types.specs.Paths.{paths}
use Rattle.fy_types.specs.Print.{name_text}
use Rattle.fy_types.specs.Reading.{plain_path, plain_type}
use Rattle.fy_phrase.specs.declared.phrase.Phrase.{Phrase}
use Rattle.fy_phrase.specs.Reads.{reads}
use Rattle.fy_phrase.specs.Tree.{Tree, rec}
use Rattle.fy_derive.proofs.FormLemmas.{Rec-tree}
use Rattle.fy_short.specs.ShortTypes.{short_type}
use Rattle.fy_show.specs.Fresh.{fields_of}
use Rattle.fy_show.specs.Reading.{known_in}
use Rattle.fy_causes.specs.Occurrences.{Variable, bound_by}
use Rattle.fy_causes.specs.Readings.{around_read}
use Rattle.fy_why.specs.Sentences.{declared_text, defined_in, definition_type, first_field, quoted, type_of_field}
use Rattle.fy_why.specs.Types.{paths_text}
use Rattle.fy_why.proofs.LineLemmas.{declared-put}
use Rattle.fy_why.proofs.PartLemmas.{rec-around, rec-some}
use Rattle.fy_why.proofs.declared.put_declaration.Goals as goal

pub returns-in_ok-put_definition_type-in-Rec : goal.returns-in_ok-put_definition_type-in-Rec
returns-in_ok-put_definition_type-in-Rec c =
    let T = c.args.text.now.items in
    let names = (known_in c.args.view.now).names in
    let k = known_in c.args.view.now in
    let e = c.args.e.now in
    let G = around_read e.at.around.value in
    let p = reads e.at.phrase.now in
    let x = plain_path c.args.path.now in
    let i = c.first_field-name.result in
    let B = plain_type c.in-Rec.ty in
    let b = reads c.in-Rec.body.value in
    let is : p ≡ rec c.in-Rec.field-0 B b c.in-Rec.field-3 = Rec-tree _ _ _ _ _ c.in-Rec.is in
    let H : List Variable = bound_by (rec c.in-Rec.field-0 B b c.in-Rec.field-3) (paths B) ∷ G in
    let within : 0 < length e.parts.items = rec-some G p c.in-Rec.field-0 B b c.in-Rec.field-3 e.parts.items is c.requires in
    let around : around_read c.index.result.now.at.around.value ≡ H =
    rec-around G p c.in-Rec.field-0 B b c.in-Rec.field-3 e.parts.items c.index.result.now is c.requires within c.index.ensures in
    let N = name_text names i in
    let A = short_type names (type_of_field (fields_of B) i) in
    let D = paths_text names (definition_type H (defined_in b i)) in
    let had : c.put_definition_type.new.text.items ≡ c.put-in-Rec-2.new.text.items ++ D =
    c.in_ok-put_definition_type-in-Rec.ensures
    ∙ (ap (λ (q : Phrase). c.put-in-Rec-2.new.text.items ++ paths_text names (definition_type (around_read c.index.result.now.at.around.value) (defined_in (reads q) i))) c.deref.ensures
    ∙ ap (λ (vs : List Variable). c.put-in-Rec-2.new.text.items ++ paths_text names (definition_type vs (defined_in b i))) around) in
    let text : Bytes = codes "`letrec` declares " ++ quoted (N ++ codes ": " ++ A) ++ codes ", and its definition has " ++ D ++ codes "." in
    let same : text ≡ declared_text k G p (first_field x) =
    ap (λ j. declared_text k G (rec c.in-Rec.field-0 B b c.in-Rec.field-3) j) c.first_field-name.ensures ∙ ap (λ (q : Tree). declared_text k G q (first_field x)) (sym is) in
    on_ok_weaker c.put-in-Rec-3.result
    (λ f. declared-put T N A D c.put.new.text.items c.put_name.new.text.items c.put-in-Rec.new.text.items c.put_field_type.new.text.items c.put-in-Rec-2.new.text.items c.put_definition_type.new.text.items c.put-in-Rec-3.new.text.items
    c.in_ok-put-in-Rec.ensures c.in_ok-put_name-in-Rec.ensures c.in_ok-put-in-Rec-2.ensures c.in_ok-put_field_type-in-Rec.ensures c.in_ok-put-in-Rec-3.ensures had f
    ∙ ap (λ t. T ++ t) same)
    c.put-in-Rec-3.ensures
