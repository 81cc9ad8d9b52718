use Rattle.std.proofs.Common.{◌≡◌, ◌<◌, get_or, length, ap, ◌∙◌, arith}
use Rattle.std.proofs.lemmas.Result.{err_from_is_err_and}
use Rattle.pe_shapes.specs.Shown.{shown}
use Rattle.pe_shapes.proofs.LoopSteps.{recorded-shown, recorded-stop}
use Rattle.pe_shapes.proofs.found.Found.recorded.Goals as goal

pub returns-in_err-record-clause-recorded : goal.returns-in_err-record-clause-recorded
returns-in_err-record-clause-recorded c =
    let p = err_from_is_err_and c.from_residual.result c.from_residual.ensures.1 in
    let f = c.args.self.now in
    let set = c.args.set.items in
    let i = c.loop-number.number-index in
    let here : i < length set = omega (arith, c.loop-number-test.true, ap length c.deref-number-items.ensures.value) in
    let s = shown c.loop-number.self.numbers (get_or c.deref-number-items.result.now i 0) in
    let is : s ≡ shown f.numbers (get_or set i 0) =
    ap (λ t. shown t (get_or c.deref-number-items.result.now i 0)) c.loop-number.invariant.numbers ∙ ap (λ ks. shown f.numbers (get_or ks i 0)) c.deref-number-items.ensures.value in
    rw (p.1, p.2)
    (recorded-stop f c.loop-number.self f.numbers c.args.node set i s c.in_err-record.field-0.0 here is c.loop-number.invariant.adds c.in_err-record.ensures.recorded)

pub loop-number-preserved : goal.loop-number-preserved
loop-number-preserved c =
    let f = c.args.self.now in
    let set = c.args.set.items in
    let i = c.loop-number.number-index in
    let here : i < length set = omega (arith, c.loop-number-test.true, ap length c.deref-number-items.ensures.value) in
    let s = shown c.loop-number.self.numbers (get_or c.deref-number-items.result.now i 0) in
    let is : s ≡ shown f.numbers (get_or set i 0) =
    ap (λ t. shown t (get_or c.deref-number-items.result.now i 0)) c.loop-number.invariant.numbers ∙ ap (λ ks. shown f.numbers (get_or ks i 0)) c.deref-number-items.ensures.value in
    record {
      sound = c.in_ok-record.ensures.sound;
      numbers = c.in_ok-record.ensures.numbers ∙ c.loop-number.invariant.numbers;
      adds = recorded-shown f c.loop-number.self c.record.new.self f.numbers c.args.node set i s here is c.loop-number.invariant.adds c.in_ok-record.ensures.recorded;
    }
