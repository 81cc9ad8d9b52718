use Rattle.std.proofs.Common.{arith, refl, ◌*◌, length}
use Rattle.std.specs.List.{flat_map}
use Rattle.std.proofs.lemmas.Result.{err_from_is_err_and}
use Rattle.fy_image.specs.Form.{word}
use Rattle.fy_image.proofs.Lists.{fours_cut, words_long}
use Rattle.fy_elf.specs.Reading.{IsTaken}
use Rattle.fy_elf.proofs.Judging.{any_cut, any_passed}
use Rattle.fy_elf.proofs.fields.Fields.words.Goals as goal

pub returns-in_err-word-clause-judged : goal.returns-in_err-word-clause-judged
returns-in_err-word-clause-judged c =
    let p = err_from_is_err_and c.from_residual.result c.from_residual.ensures.1 in
    let cut = c.in_err-word.ensures.cut in
    let short = fours_cut word (λ x. refl) c.loop.words c.args.count c.args.self.now.bytes c.loop.self.bytes c.loop.invariant.bytes_are (omega (arith, c.loop.invariant.count)) cut.1 in
    rw (p.1, p.2) (any_cut c.in_err-word.field-0.0 (4 * c.args.count) c.args.self.now cut.0 short)

pub returns-clause-taken : goal.returns-clause-taken
returns-clause-taken c = record { bytes_are = c.loop.invariant.bytes_are; offset_is = omega (arith, c.loop.invariant.offset_is, words_long c.loop.words (length c.loop.words) refl) }

pub returns-clause-judged : goal.returns-clause-judged
returns-clause-judged c =
    let long = words_long c.loop.words c.args.count (omega (arith, c.loop.invariant.count)) in
    let taken : IsTaken (flat_map word c.loop.words) c.args.self.now c.loop.self = record { bytes_are = c.loop.invariant.bytes_are; offset_is = omega (arith, c.loop.invariant.offset_is, words_long c.loop.words (length c.loop.words) refl) } in
    any_passed (4 * c.args.count) _ c.args.self.now c.loop.self taken long
