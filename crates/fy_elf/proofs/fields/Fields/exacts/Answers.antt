use Rattle.std.proofs.Common.{◌<◌, ◌≤◌, length, sym, arith}
use Rattle.std.proofs.lemmas.Result.{err_from_is_err_and}
use Rattle.fy_elf.proofs.Taking.{taken_as, taken_none}
use Rattle.fy_elf.proofs.Judging.{numbers_none, numbers_more, numbers_all, exacts_bad, exacts_passed}
use Rattle.fy_elf.proofs.fields.Fields.exacts.Goals as goal

pub loop-number-init : goal.loop-number-init
loop-number-init c = taken_as _ _ c.args.self.now c.args.self.now (sym numbers_none) (taken_none c.args.self.now)

pub loop-number-preserved : goal.loop-number-preserved
loop-number-preserved c =
    let within : c.loop-number.number-index < length c.args.numbers.now = omega arith in
    numbers_more c.args.numbers.now c.loop-number.number-index _ c.args.self.now c.loop-number.self _ within c.loop-number.invariant c.in_ok-number.ensures.taken

pub returns-in_err-number-clause-judged : goal.returns-in_err-number-clause-judged
returns-in_err-number-clause-judged c =
    let p = err_from_is_err_and c.from_residual.result c.from_residual.ensures.1 in
    let within : c.loop-number.number-index < length c.args.numbers.now = omega arith in
    rw (p.1, p.2) (exacts_bad c.args.numbers.now c.loop-number.number-index _ c.in_err-number.field-0.0 c.args.self.now c.loop-number.self within c.loop-number.invariant c.in_err-number.ensures.judged)

pub returns-clause-taken : goal.returns-clause-taken
returns-clause-taken c =
    let past : length c.args.numbers.now ≤ c.loop-number.number-index = omega arith in
    numbers_all c.args.numbers.now c.loop-number.number-index c.args.self.now c.loop-number.self past c.loop-number.invariant

pub returns-clause-judged : goal.returns-clause-judged
returns-clause-judged c =
    let past : length c.args.numbers.now ≤ c.loop-number.number-index = omega arith in
    exacts_passed c.args.numbers.now c.args.self.now c.loop-number.self (numbers_all c.args.numbers.now c.loop-number.number-index c.args.self.now c.loop-number.self past c.loop-number.invariant)
