use Rattle.std.proofs.Common.{◌≡◌, ◌∙◌, sym, length, take, min}
use Rattle.fy_image.proofs.Judging.{magic_bad, magic_short, magic_good}
use Rattle.fy_image.proofs.fields.Fields.magic.Goals as goal

pub returns-then-not-starts_with-clause-judged : goal.returns-then-not-starts_with-clause-judged
returns-then-not-starts_with-clause-judged c =
    let is : c.split_at.result.0.now ≡ take (min (length c.args.self.now) 8) c.args.self.now = cc in
    magic_bad c.args.self.now _ is (sym c.starts_with.ensures.value ∙ c.if-not-starts_with.true)

pub returns-then-start-lt8-clause-judged : goal.returns-then-start-lt8-clause-judged
returns-then-start-lt8-clause-judged c =
    let is : c.split_at.result.0.now ≡ take (min (length c.args.self.now) 8) c.args.self.now = cc in
    magic_short c.args.self.now _ is (sym c.starts_with.ensures.value ∙ c.if-not-starts_with.false) c.if-start-lt8.true

pub returns-clause-judged : goal.returns-clause-judged
returns-clause-judged c =
    let is : c.split_at.result.0.now ≡ take (min (length c.args.self.now) 8) c.args.self.now = cc in
    magic_good c.args.self.now _ is (sym c.starts_with.ensures.value ∙ c.if-not-starts_with.false) c.if-start-lt8.false
