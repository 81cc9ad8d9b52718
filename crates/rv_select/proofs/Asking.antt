-- What is asked of a sequence of cells at a shape, and the word of the table for it.
use Rattle.std.proofs.Common.{◌≡◌, ℕ, Bool, true, false, cond, refl, ap, sym, ◌∙◌}
use Rattle.pe_code.specs.declared.code.PeCode.{PeCode}
use Rattle.pe_machine.specs.Step.{is_assignment, Asked, a_cell, a_length, no_part, asked_at}
use Rattle.rv_select.specs.Numbers.{end_entry, length_entry, index_read_entry, index_write_entry, entry_word}
use Rattle.rv_select.specs.Program.{sequence_word}

-- the word of what is asked
abbrev pub asked_word : Asked → ℕ
asked_word (a_cell true) = entry_word index_write_entry
asked_word (a_cell false) = entry_word index_read_entry
asked_word a_length = entry_word length_entry
asked_word no_part = entry_word end_entry

either : (b : Bool) (x y : Asked) → asked_word (cond b x y) ≡ cond b (asked_word x) (asked_word y)
either true x y = refl
either false x y = refl

pub sequence_word_is : (code : PeCode) (shape : ℕ) → sequence_word code shape ≡ asked_word (asked_at code.sequences shape)
sequence_word_is code shape =
    let reads = is_assignment code.sequences.element shape in
    let writes = is_assignment code.sequences.assigned_element shape in
    let measures = is_assignment code.sequences.row_length shape in
    let measured : Asked = cond measures a_length no_part in
    let written : Asked = cond writes (a_cell true) measured in
    sym (
    either reads (a_cell false) written
    ∙ ap (λ n. cond reads (asked_word (a_cell false)) n)
    (either writes (a_cell true) measured ∙ ap (λ n. cond writes (asked_word (a_cell true)) n) (either measures a_length no_part))
    )
