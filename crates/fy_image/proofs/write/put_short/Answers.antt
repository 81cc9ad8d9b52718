use Rattle.std.proofs.Common.{◌+◌, ◌/◌, ◌%◌, ◌<◌, ◌≤◌, [], ◌∷◌, ◌++◌, append_assoc, sym, ap, ◌∙◌, arith}
use Rattle.fy_image.specs.Form.{short}
use Rattle.fy_image.proofs.Groups.{short_low, short_more}
use Rattle.fy_image.proofs.write.put_short.Goals as goal

pub loop-left-preserved : goal.loop-left-preserved
loop-left-preserved c =
    let left = c.loop-left.left in
    let before = c.loop-left.bytes.items in
    let high : 128 ≤ left = c.loop-left-test.true in
    record {
      some = omega arith;
      put =
          c.loop-left.invariant.put
          ∙ ap (λ b. before ++ b) (short_more left high)
          ∙ sym (append_assoc before ((128 + left % 128) ∷ []) (short (left / 128)))
          ∙ ap (λ b. b ++ short (left / 128)) (sym c.in_ok-push.ensures.items);
    }

pub returns : goal.returns
returns c =
    let left = c.loop-left.left in
    let low : left < 128 = c.loop-left-test.false in
    c.in_ok-push-2.ensures.items ∙ ap (λ b. c.loop-left.bytes.items ++ b) (sym (short_low left c.loop-left.invariant.some low)) ∙ sym c.loop-left.invariant.put
