use Rattle.std.proofs.Common.{arith, refl, ◌*◌, length}
use Rattle.std.specs.List.{flat_map}
use Rattle.std.proofs.lemmas.Result.{err_from_is_err_and}
use Rattle.fy_image.specs.Form.{double}
use Rattle.fy_image.proofs.Lists.{eights_cut, doubles_long}
use Rattle.fy_elf.specs.Reading.{IsTaken}
use Rattle.fy_elf.proofs.Judging.{any_cut, any_passed}
use Rattle.fy_elf.proofs.fields.Fields.doubles.Goals as goal

pub returns-in_err-double-clause-judged : goal.returns-in_err-double-clause-judged
returns-in_err-double-clause-judged c =
    let p = err_from_is_err_and c.from_residual.result c.from_residual.ensures.1 in
    let cut = c.in_err-double.ensures.cut in
    let short = eights_cut double (λ x. refl) c.loop.doubles c.args.count c.args.self.now.bytes c.loop.self.bytes c.loop.invariant.bytes_are (omega (arith, c.loop.invariant.count)) cut.1 in
    rw (p.1, p.2) (any_cut c.in_err-double.field-0.0 (8 * c.args.count) c.args.self.now cut.0 short)

pub returns-clause-taken : goal.returns-clause-taken
returns-clause-taken c = record { bytes_are = c.loop.invariant.bytes_are; offset_is = omega (arith, c.loop.invariant.offset_is, doubles_long c.loop.doubles (length c.loop.doubles) refl) }

pub returns-clause-judged : goal.returns-clause-judged
returns-clause-judged c =
    let long = doubles_long c.loop.doubles c.args.count (omega (arith, c.loop.invariant.count)) in
    let taken : IsTaken (flat_map double c.loop.doubles) c.args.self.now c.loop.self = record { bytes_are = c.loop.invariant.bytes_are; offset_is = omega (arith, c.loop.invariant.offset_is, doubles_long c.loop.doubles (length c.loop.doubles) refl) } in
    any_passed (8 * c.args.count) _ c.args.self.now c.loop.self taken long
