use Rattle.std.proofs.Common.{ap, ◌∙◌}
use Rattle.std.proofs.lemmas.Result.{err_from_is_err_and}
use Rattle.fy_elf.specs.Elf.{numbers_bytes}
use Rattle.fy_elf.proofs.Judging.{cause_along}
use Rattle.fy_elf.proofs.Taking.{taken_as}
use Rattle.fy_elf.proofs.Segments.{after_code, after_table, after_stack, file_step, file_fail, headers_taken}
use Rattle.fy_elf.proofs.read.read_headers.Goals as goal

pub returns-in_err-exacts-clause-judged : goal.returns-in_err-exacts-clause-judged
returns-in_err-exacts-clause-judged c =
    let p = err_from_is_err_and c.from_residual.result c.from_residual.ensures.1 in
    rw (p.1, p.2) (file_fail c.in_err-exacts.field-0.0 _ c.args.fields.now c.file_header.ensures c.in_err-exacts.ensures.judged)

pub returns-in_err-code_words-clause-judged : goal.returns-in_err-code_words-clause-judged
returns-in_err-code_words-clause-judged c =
    let p = err_from_is_err_and c.from_residual-in_err-code_words.result c.from_residual-in_err-code_words.ensures.1 in
    rw (p.1, p.2)
    (λ next. cause_along c.in_err-code_words.field-0.0 _ _ (file_step _ c.args.fields.now _ c.file_header.ensures c.in_ok-exacts.ensures.judged next) (c.in_err-code_words.ensures.judged (after_code next)))

pub returns-in_err-table_words-clause-judged : goal.returns-in_err-table_words-clause-judged
returns-in_err-table_words-clause-judged c =
    let p = err_from_is_err_and c.from_residual-in_err-table_words.result c.from_residual-in_err-table_words.ensures.1 in
    let code = c.in_ok-code_words in
    rw (p.1, p.2)
    (λ next. cause_along c.in_err-table_words.field-0.0 _ _
    (file_step _ c.args.fields.now _ c.file_header.ensures c.in_ok-exacts.ensures.judged next ∙ code.ensures.judged (after_code next))
    (c.in_err-table_words.ensures.judged (after_table next code.code_words)))

pub returns-in_err-stack_words-clause-judged : goal.returns-in_err-stack_words-clause-judged
returns-in_err-stack_words-clause-judged c =
    let p = err_from_is_err_and c.from_residual-in_err-stack_words.result c.from_residual-in_err-stack_words.ensures.1 in
    let code = c.in_ok-code_words in
    let table = c.in_ok-table_words in
    rw (p.1, p.2)
    (λ next. cause_along c.in_err-stack_words.field-0.0 _ _
    (file_step _ c.args.fields.now _ c.file_header.ensures c.in_ok-exacts.ensures.judged next
    ∙ code.ensures.judged (after_code next)
    ∙ table.ensures.judged (after_table next code.code_words))
    (c.in_err-stack_words.ensures.judged (after_stack next code.code_words table.table_words)))

pub returns-in_err-places-clause-judged : goal.returns-in_err-places-clause-judged
returns-in_err-places-clause-judged c =
    let p = err_from_is_err_and c.from_residual-in_err-places.result c.from_residual-in_err-places.ensures.1 in
    let code = c.in_ok-code_words in
    let table = c.in_ok-table_words in
    let stack = c.in_ok-stack_words in
    rw (p.1, p.2)
    (λ next. cause_along c.in_err-places.field-0.0 _ _
    (file_step _ c.args.fields.now _ c.file_header.ensures c.in_ok-exacts.ensures.judged next
    ∙ code.ensures.judged (after_code next)
    ∙ table.ensures.judged (after_table next code.code_words)
    ∙ stack.ensures.judged (after_stack next code.code_words table.table_words))
    (c.in_err-places.ensures.judged (λ n. next (record { code_words = code.code_words; table_words = table.table_words; stack_words = stack.stack_words; places = n }))))

pub returns-clause-taken : goal.returns-clause-taken
returns-clause-taken c =
    headers_taken _ c.args.fields.now _ _ _ _ _ (taken_as _ _ c.args.fields.now _ (ap numbers_bytes c.file_header.ensures) c.in_ok-exacts.ensures.taken) c.in_ok-code_words.ensures.taken c.in_ok-table_words.ensures.taken c.in_ok-stack_words.ensures.taken c.in_ok-places.ensures.taken

pub returns-clause-judged : goal.returns-clause-judged
returns-clause-judged c = λ next.
    let code = c.in_ok-code_words in
    let table = c.in_ok-table_words in
    let stack = c.in_ok-stack_words in
    file_step _ c.args.fields.now _ c.file_header.ensures c.in_ok-exacts.ensures.judged next
    ∙ code.ensures.judged (after_code next)
    ∙ table.ensures.judged (after_table next code.code_words)
    ∙ stack.ensures.judged (after_stack next code.code_words table.table_words)
    ∙ c.in_ok-places.ensures.judged (λ n. next (record { code_words = code.code_words; table_words = table.table_words; stack_words = stack.stack_words; places = n }))
