use Rattle.std.proofs.Common.{◌≡◌, ◌∙◌, ◌+◌, ◌-◌, ◌*◌, ◌^◌, min, get_or, arith}
use Rattle.std.proofs.lemmas.List.{get_or_default}
use Rattle.fy_words.proofs.WordLemmas.{digit_next, number_done}
use Rattle.fy_words.proofs.words.number_of.Goals as goal

pub loop-digit-preserved : goal.loop-digit-preserved
loop-digit-preserved c =
    let d = get_or c.as_bytes-digit-items.result.now c.loop-digit.digit-index 0 in
    let step : c.saturating_add-number.result ≡ min (10 * c.loop-digit.number + (d - 48)) (2 ^ 64 - 1) = omega (arith, c.saturating_add-number.ensures, c.saturating_mul.ensures, c.saturating_sub.ensures, c.from.ensures) in
    record {
      left = digit_next _ c.loop-digit.digit-index c.loop-digit.number c.saturating_add-number.result d c.loop-digit-test.true (get_or_default _ _ _ _ c.loop-digit-test.true) step ∙ c.loop-digit.invariant.left;
      fits = omega arith;
    }

pub returns : goal.returns
returns c = number_done c.args.text.now c.as_bytes-digit-items.result.now c.loop-digit.digit-index c.loop-digit.number (omega arith) c.loop-digit.invariant.fits c.loop-digit.invariant.left
