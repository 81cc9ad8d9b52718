use Rattle.std.proofs.Common.{refl, ap, ◌∙◌}
use Rattle.std.proofs.lemmas.Result.{err_from_is_err_and}
use Rattle.fy_elf.specs.Elf.{numbers_bytes}
use Rattle.fy_elf.specs.Refusals.{ended}
use Rattle.fy_elf.proofs.Contents.{after_code, after_padding, after_table, after_note, contents_are, padding_by, note_by, is_contents}
use Rattle.fy_elf.proofs.Judging.{cause_along, cause_some}
use Rattle.fy_elf.proofs.Taking.{taken_as}
use Rattle.fy_elf.proofs.read.read_contents.Goals as goal

pub returns-in_err-code-clause-judged : goal.returns-in_err-code-clause-judged
returns-in_err-code-clause-judged c =
    let p = err_from_is_err_and c.from_residual.result c.from_residual.ensures.1 in
    let z = c.args.sizes.now in
    rw (p.1, p.2) (cause_along c.in_err-code.field-0.0 _ _ (contents_are z c.args.fields.now) (c.in_err-code.ensures.judged (after_code z)))

pub returns-in_err-exact-clause-judged : goal.returns-in_err-exact-clause-judged
returns-in_err-exact-clause-judged c =
    let p = err_from_is_err_and c.from_residual-in_err-exact.result c.from_residual-in_err-exact.ensures.1 in
    let z = c.args.sizes.now in
    rw (p.1, p.2)
    (cause_along c.in_err-exact.field-0.0 _ _
    (contents_are z c.args.fields.now ∙ c.in_ok-code.ensures.judged (after_code z) ∙ padding_by z c.padding.result.now c.words.new.self c.padding.ensures)
    (c.in_err-exact.ensures.judged (after_padding z)))

pub returns-in_err-table-clause-judged : goal.returns-in_err-table-clause-judged
returns-in_err-table-clause-judged c =
    let p = err_from_is_err_and c.from_residual-in_err-table.result c.from_residual-in_err-table.ensures.1 in
    let z = c.args.sizes.now in
    rw (p.1, p.2)
    (cause_along c.in_err-table.field-0.0 _ _
    (contents_are z c.args.fields.now ∙ c.in_ok-code.ensures.judged (after_code z) ∙ padding_by z c.padding.result.now c.words.new.self c.padding.ensures ∙ c.in_ok-exact.ensures.judged (after_padding z))
    (c.in_err-table.ensures.judged (after_table z)))

pub returns-in_err-exacts-clause-judged : goal.returns-in_err-exacts-clause-judged
returns-in_err-exacts-clause-judged c =
    let p = err_from_is_err_and c.from_residual-in_err-exacts.result c.from_residual-in_err-exacts.ensures.1 in
    let z = c.args.sizes.now in
    rw (p.1, p.2)
    (cause_along c.in_err-exacts.field-0.0 _ _
    (contents_are z c.args.fields.now ∙ c.in_ok-code.ensures.judged (after_code z) ∙ padding_by z c.padding.result.now c.words.new.self c.padding.ensures ∙ c.in_ok-exact.ensures.judged (after_padding z)
    ∙ c.in_ok-table.ensures.judged (after_table z) ∙ note_by z c.note_header.result c.doubles.new.self c.note_header.ensures)
    (c.in_err-exacts.ensures.judged (after_note z)))

pub returns-in_err-places-clause-judged : goal.returns-in_err-places-clause-judged
returns-in_err-places-clause-judged c =
    let p = err_from_is_err_and c.from_residual-in_err-places.result c.from_residual-in_err-places.ensures.1 in
    let z = c.args.sizes.now in
    rw (p.1, p.2)
    (cause_along c.in_err-places.field-0.0 _ _
    (contents_are z c.args.fields.now ∙ c.in_ok-code.ensures.judged (after_code z) ∙ padding_by z c.padding.result.now c.words.new.self c.padding.ensures ∙ c.in_ok-exact.ensures.judged (after_padding z)
    ∙ c.in_ok-table.ensures.judged (after_table z) ∙ note_by z c.note_header.result c.doubles.new.self c.note_header.ensures ∙ c.in_ok-exacts.ensures.judged (after_note z))
    (c.in_err-places.ensures.judged ended))

pub returns-in_err-end-clause-judged : goal.returns-in_err-end-clause-judged
returns-in_err-end-clause-judged c =
    let p = err_from_is_err_and c.from_residual-in_err-end.result c.from_residual-in_err-end.ensures.1 in
    let z = c.args.sizes.now in
    rw (p.1, p.2)
    (cause_some c.in_err-end.field-0.0 _
    (contents_are z c.args.fields.now ∙ c.in_ok-code.ensures.judged (after_code z) ∙ padding_by z c.padding.result.now c.words.new.self c.padding.ensures ∙ c.in_ok-exact.ensures.judged (after_padding z)
    ∙ c.in_ok-table.ensures.judged (after_table z) ∙ note_by z c.note_header.result c.doubles.new.self c.note_header.ensures ∙ c.in_ok-exacts.ensures.judged (after_note z) ∙ c.in_ok-places.ensures.judged ended ∙ c.in_err-end.ensures.judged))

pub returns-clause-judged : goal.returns-clause-judged
returns-clause-judged c =
    let z = c.args.sizes.now in
    contents_are z c.args.fields.now ∙ c.in_ok-code.ensures.judged (after_code z) ∙ padding_by z c.padding.result.now c.words.new.self c.padding.ensures ∙ c.in_ok-exact.ensures.judged (after_padding z)
    ∙ c.in_ok-table.ensures.judged (after_table z) ∙ note_by z c.note_header.result c.doubles.new.self c.note_header.ensures ∙ c.in_ok-exacts.ensures.judged (after_note z) ∙ c.in_ok-places.ensures.judged ended ∙ c.in_ok-end.ensures.judged

pub returns-clause-found : goal.returns-clause-found
returns-clause-found c =
    let code = c.in_ok-code.ensures in
    let table = c.in_ok-table.ensures in
    let places = c.in_ok-places.ensures in
    is_contents c.args.sizes.now _ c.args.fields.now _ _ _ _ _ (record {
      sizes = c.requires;
      code = code.taken;
      code_fits = code.fit;
      padding_is = taken_as _ _ _ _ c.padding.ensures c.in_ok-exact.ensures.taken;
      table = table.taken;
      table_fits = table.fit;
      note = taken_as _ _ _ _ (ap numbers_bytes c.note_header.ensures) c.in_ok-exacts.ensures.taken;
      places = places.taken;
      places_fit = places.fit;
      done = c.in_ok-end.ensures.done;
      code_count = code.count;
      table_count = table.count;
      stack_is = refl;
      place_count = places.count;
    })
