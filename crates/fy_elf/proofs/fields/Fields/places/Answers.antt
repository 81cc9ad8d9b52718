use Rattle.std.proofs.Common.{arith, refl, length}
use Rattle.std.specs.List.{flat_map}
use Rattle.std.proofs.lemmas.Result.{err_from_is_err_and}
use Rattle.fy_image.specs.declared.version.Version.TheVariants.{One}
use Rattle.fy_image.specs.Form.{place_bytes}
use Rattle.fy_image.proofs.Lists.{places_long}
use Rattle.fy_elf.specs.Reading.{IsTaken}
use Rattle.fy_elf.proofs.Lists.{line_bad, col_bad, places_passed}
use Rattle.fy_elf.proofs.fields.Fields.places.Goals as goal

pub returns-in_err-line-clause-judged : goal.returns-in_err-line-clause-judged
returns-in_err-line-clause-judged c =
    let p = err_from_is_err_and c.from_residual.result c.from_residual.ensures.1 in
    let i = c.loop.invariant in
    let taken : IsTaken (flat_map (place_bytes One) c.loop.places) c.args.self.now c.loop.self = record { bytes_are = i.bytes_are; offset_is = omega (arith, i.offset_is, places_long c.loop.places (length c.loop.places) refl) } in
    rw (p.1, p.2) (line_bad c.args.count c.loop.places c.in_err-line.field-0.0 c.args.self.now c.loop.self (omega (arith, i.count)) i.fit taken c.in_err-line.ensures.judged)

pub returns-in_err-col-clause-judged : goal.returns-in_err-col-clause-judged
returns-in_err-col-clause-judged c =
    let p = err_from_is_err_and c.from_residual-in_err-col.result c.from_residual-in_err-col.ensures.1 in
    let i = c.loop.invariant in
    let taken : IsTaken (flat_map (place_bytes One) c.loop.places) c.args.self.now c.loop.self = record { bytes_are = i.bytes_are; offset_is = omega (arith, i.offset_is, places_long c.loop.places (length c.loop.places) refl) } in
    rw (p.1, p.2) (col_bad c.args.count c.loop.places c.in_err-col.field-0.0 c.args.self.now c.loop.self _ (omega (arith, i.count)) i.fit taken c.in_ok-line.ensures.judged c.in_err-col.ensures.judged)

pub returns-clause-taken : goal.returns-clause-taken
returns-clause-taken c = record { bytes_are = c.loop.invariant.bytes_are; offset_is = omega (arith, c.loop.invariant.offset_is, places_long c.loop.places (length c.loop.places) refl) }

pub returns-clause-judged : goal.returns-clause-judged
returns-clause-judged c =
    let i = c.loop.invariant in
    let taken : IsTaken (flat_map (place_bytes One) c.loop.places) c.args.self.now c.loop.self = record { bytes_are = i.bytes_are; offset_is = omega (arith, i.offset_is, places_long c.loop.places (length c.loop.places) refl) } in
    places_passed c.args.count c.loop.places c.args.self.now c.loop.self (omega (arith, i.count)) i.fit taken
