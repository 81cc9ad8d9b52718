use Rattle.std.proofs.Common.{◌≡◌, ◌&&◌, false, ◌++◌, codes, refl, sym, ap₂, ◌∙◌, rules}
use Rattle.fy_types.specs.Print.{name_text}
use Rattle.fy_types.specs.Reading.{plain_types}
use Rattle.fy_phrase.specs.declared.phrase.Phrase.{Phrase, the_lemmas}
use Rattle.fy_phrase.specs.Reads.{reads}
use Rattle.fy_phrase.specs.Tree.{lam, app, field, merge, seq, assign, while_do, forever, new, cells, escape, accept, put, read}
use Rattle.fy_short.specs.DataTexts.{put_word}
use Rattle.fy_show.specs.Reading.{part_in, shown_in, text_in}
use Rattle.fy_show.specs.Texts.{are_halves, is_halved, is_sequence, item}
use Rattle.fy_show.proofs.PutLemmas.{as_form, put_both, put_three, put_four, merge_text}
use Rattle.fy_show.proofs.print.+print.Goals as goal

pub put_form-returns-in-Lam : goal.put_form-returns-in-Lam
put_form-returns-in-Lam t c =
    let v = c.args.view.now in
    let a = reads c.deref-in-Lam.result.now in
    let is : reads c.args.p.now ≡ lam c.in-Lam.d (plain_types c.in-Lam.types) a c.in-Lam.at = search (rules, the_lemmas) in
    as_form c.put_lam.result c.args.text.now.items c.put_lam.new.text.items (text_in v (lam c.in-Lam.d (plain_types c.in-Lam.types) a c.in-Lam.at)) v (reads c.args.p.now) (lam c.in-Lam.d (plain_types c.in-Lam.types) a c.in-Lam.at) is refl c.put_lam.ensures

pub put_form-returns-in-App : goal.put_form-returns-in-App
put_form-returns-in-App t c =
    let v = c.args.view.now in
    let a = reads c.deref-in-App.result.now in
    let b = reads c.deref-in-App-2.result.now in
    let is : reads c.args.p.now ≡ app a b c.in-App.field-2 = search (rules, the_lemmas) in
    as_form c.put_two.result c.args.text.now.items c.put_two.new.text.items ((part_in v 10 a ++ codes " ") ++ part_in v 11 b) v (reads c.args.p.now) (app a b c.in-App.field-2) is refl
    (put_three c.put_two.result c.args.text.now.items c.put_two.new.text.items (part_in v 10 a) (codes " ") (part_in v 11 b) c.put_two.ensures)

pub put_form-returns-in-Field : goal.put_form-returns-in-Field
put_form-returns-in-Field t c =
    let v = c.args.view.now in
    let a = reads c.deref-in-Field.result.now in
    let is : reads c.args.p.now ≡ field c.in-Field.i a c.in-Field.field-2 = search (rules, the_lemmas) in
    as_form c.put_definition.result c.args.text.now.items c.put_definition.new.text.items ((name_text v.known.now.names.now c.in-Field.i ++ codes " == ") ++ part_in v 3 a) v (reads c.args.p.now) (field c.in-Field.i a c.in-Field.field-2) is refl
    (put_three c.put_definition.result c.args.text.now.items c.put_definition.new.text.items (name_text v.known.now.names.now c.in-Field.i) (codes " == ") (part_in v 3 a) c.put_definition.ensures)

pub put_form-returns-else-is_sequence : goal.put_form-returns-else-is_sequence
put_form-returns-else-is_sequence t c =
    let v = c.args.view.now in
    let a = reads c.deref-else-is_sequence.result.now in
    let b = reads c.deref-else-is_sequence-2.result.now in
    let left : c.deref-else-is_sequence.result.now ≡ c.deref-in-Merge.result.now = search rules in
    let right : c.deref-else-is_sequence-2.result.now ≡ c.deref-in-Merge-2.result.now = search rules in
    let none : c.is_sequence.result ≡ false = c.if-is_sequence.false in
    let plain : is_sequence a b ≡ false = ap₂ (λ (x y : Phrase). is_sequence (reads x) (reads y)) left right ∙ (sym c.is_sequence.ensures ∙ none) in
    let is : reads c.args.p.now ≡ merge a b c.in-Merge.field-2 = search (rules, the_lemmas) in
    as_form c.put_two-else-is_sequence.result c.args.text.now.items c.put_two-else-is_sequence.new.text.items ((part_in v 1 a ++ codes ", ") ++ part_in v 2 b) v (reads c.args.p.now) (merge a b c.in-Merge.field-2) is (merge_text v a b c.in-Merge.field-2 plain)
    (put_three c.put_two-else-is_sequence.result c.args.text.now.items c.put_two-else-is_sequence.new.text.items (part_in v 1 a) (codes ", ") (part_in v 2 b) c.put_two-else-is_sequence.ensures)

pub put_form-returns-in-Seq : goal.put_form-returns-in-Seq
put_form-returns-in-Seq t c =
    let v = c.args.view.now in
    let a = reads c.deref-in-Seq.result.now in
    let b = reads c.deref-in-Seq-2.result.now in
    let is : reads c.args.p.now ≡ seq a b c.in-Seq.field-2 = search (rules, the_lemmas) in
    as_form c.put_items.result c.args.text.now.items c.put_items.new.text.items ((item (are_halves a b && (is_halved a && is_halved b)) v.manner (shown_in v a) ++ codes "; ") ++ item (are_halves a b && (is_halved a && is_halved b)) v.manner (shown_in v b)) v (reads c.args.p.now) (seq a b c.in-Seq.field-2) is refl
    (put_three c.put_items.result c.args.text.now.items c.put_items.new.text.items (item (are_halves a b && (is_halved a && is_halved b)) v.manner (shown_in v a)) (codes "; ") (item (are_halves a b && (is_halved a && is_halved b)) v.manner (shown_in v b)) c.put_items.ensures)

pub put_form-returns-in-Assign : goal.put_form-returns-in-Assign
put_form-returns-in-Assign t c =
    let v = c.args.view.now in
    let a = reads c.deref-in-Assign.result.now in
    let b = reads c.deref-in-Assign-2.result.now in
    let is : reads c.args.p.now ≡ assign a b c.in-Assign.field-2 = search (rules, the_lemmas) in
    as_form c.put_two-in-Assign.result c.args.text.now.items c.put_two-in-Assign.new.text.items ((part_in v 4 a ++ codes " := ") ++ part_in v 3 b) v (reads c.args.p.now) (assign a b c.in-Assign.field-2) is refl
    (put_three c.put_two-in-Assign.result c.args.text.now.items c.put_two-in-Assign.new.text.items (part_in v 4 a) (codes " := ") (part_in v 3 b) c.put_two-in-Assign.ensures)

pub put_form-returns-in-WhileDo : goal.put_form-returns-in-WhileDo
put_form-returns-in-WhileDo t c =
    let v = c.args.view.now in
    let a = reads c.deref-in-WhileDo.result.now in
    let b = reads c.deref-in-WhileDo-2.result.now in
    let is : reads c.args.p.now ≡ while_do a b c.in-WhileDo.field-2 = search (rules, the_lemmas) in
    as_form c.put_while.result c.args.text.now.items c.put_while.new.text.items (((codes "while " ++ part_in v 3 a) ++ codes " do ") ++ part_in v 3 b) v (reads c.args.p.now) (while_do a b c.in-WhileDo.field-2) is refl
    (put_four c.put_while.result c.args.text.now.items c.put_while.new.text.items (codes "while ") (part_in v 3 a) (codes " do ") (part_in v 3 b) c.put_while.ensures)

pub put_form-returns-in-Forever : goal.put_form-returns-in-Forever
put_form-returns-in-Forever t c =
    let v = c.args.view.now in
    let a = reads c.deref-in-Forever.result.now in
    let is : reads c.args.p.now ≡ forever a c.in-Forever.field-1 = search (rules, the_lemmas) in
    as_form c.put_behind-in-Forever.result c.args.text.now.items c.put_behind-in-Forever.new.text.items (codes "loop " ++ part_in v 3 a) v (reads c.args.p.now) (forever a c.in-Forever.field-1) is refl
    (put_both c.put_behind-in-Forever.result c.args.text.now.items c.put_behind-in-Forever.new.text.items (codes "loop ") (part_in v 3 a) c.put_behind-in-Forever.ensures)

pub put_form-returns-in-New : goal.put_form-returns-in-New
put_form-returns-in-New t c =
    let v = c.args.view.now in
    let a = reads c.deref-in-New.result.now in
    let b = reads c.deref-in-New-2.result.now in
    let is : reads c.args.p.now ≡ new c.in-New.d c.in-New.ty a b c.in-New.at = search (rules, the_lemmas) in
    as_form c.put_new.result c.args.text.now.items c.put_new.new.text.items (text_in v (new c.in-New.d c.in-New.ty a b c.in-New.at)) v (reads c.args.p.now) (new c.in-New.d c.in-New.ty a b c.in-New.at) is refl c.put_new.ensures

pub put_form-returns-in-Cells : goal.put_form-returns-in-Cells
put_form-returns-in-Cells t c =
    let v = c.args.view.now in
    let a = reads c.deref-in-Cells.result.now in
    let b = reads c.deref-in-Cells-2.result.now in
    let is : reads c.args.p.now ≡ cells c.in-Cells.d a b c.in-Cells.at = search (rules, the_lemmas) in
    as_form c.put_cells.result c.args.text.now.items c.put_cells.new.text.items (text_in v (cells c.in-Cells.d a b c.in-Cells.at)) v (reads c.args.p.now) (cells c.in-Cells.d a b c.in-Cells.at) is refl c.put_cells.ensures

pub put_form-returns-in-Escape : goal.put_form-returns-in-Escape
put_form-returns-in-Escape t c =
    let v = c.args.view.now in
    let a = reads c.deref-in-Escape.result.now in
    let is : reads c.args.p.now ≡ escape c.in-Escape.d a c.in-Escape.at = search (rules, the_lemmas) in
    as_form c.put_escape.result c.args.text.now.items c.put_escape.new.text.items (text_in v (escape c.in-Escape.d a c.in-Escape.at)) v (reads c.args.p.now) (escape c.in-Escape.d a c.in-Escape.at) is refl c.put_escape.ensures

pub put_form-returns-in-Accept : goal.put_form-returns-in-Accept
put_form-returns-in-Accept t c =
    let v = c.args.view.now in
    let a = reads c.deref-in-Accept.result.now in
    let is : reads c.args.p.now ≡ accept c.in-Accept.d c.in-Accept.ty a c.in-Accept.at = search (rules, the_lemmas) in
    as_form c.put_accept.result c.args.text.now.items c.put_accept.new.text.items (text_in v (accept c.in-Accept.d c.in-Accept.ty a c.in-Accept.at)) v (reads c.args.p.now) (accept c.in-Accept.d c.in-Accept.ty a c.in-Accept.at) is refl c.put_accept.ensures

pub put_form-returns-in-Put : goal.put_form-returns-in-Put
put_form-returns-in-Put t c =
    let v = c.args.view.now in
    let a = reads c.deref-in-Put.result.now in
    let is : reads c.args.p.now ≡ put c.in-Put.kind a c.in-Put.field-2 = search (rules, the_lemmas) in
    as_form c.put_output.result c.args.text.now.items c.put_output.new.text.items ((put_word c.in-Put.kind ++ codes " ") ++ part_in v 11 a) v (reads c.args.p.now) (put c.in-Put.kind a c.in-Put.field-2) is refl
    (put_three c.put_output.result c.args.text.now.items c.put_output.new.text.items (put_word c.in-Put.kind) (codes " ") (part_in v 11 a) c.put_output.ensures)

pub put_form-returns-in-Read : goal.put_form-returns-in-Read
put_form-returns-in-Read t c =
    let v = c.args.view.now in
    let a = reads c.deref-in-Read.result.now in
    let is : reads c.args.p.now ≡ read a c.in-Read.field-1 = search (rules, the_lemmas) in
    as_form c.put_behind-in-Read.result c.args.text.now.items c.put_behind-in-Read.new.text.items (codes "read " ++ part_in v 11 a) v (reads c.args.p.now) (read a c.in-Read.field-1) is refl
    (put_both c.put_behind-in-Read.result c.args.text.now.items c.put_behind-in-Read.new.text.items (codes "read ") (part_in v 11 a) c.put_behind-in-Read.ensures)
