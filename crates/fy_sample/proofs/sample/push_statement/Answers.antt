use Rattle.std.proofs.Common.{◌≡◌, ◌/◌, ◌%◌, ◌++◌, OnOk, subst, arith}
use Rattle.fy_base.specs.Outside.{Bytes}
use Rattle.fy_sample.proofs.SampleLemmas.{pieces_of_two, pieces_of_three}
use Rattle.fy_sample.proofs.sample.push_statement.Goals as goal

pub returns-in-2 : goal.returns-in-2
returns-in-2 c =
    let P : Bytes → Type 0 = λ t. OnOk c.push_pieces-in-2.result (c.push_pieces-in-2.new.text.items ≡ c.args.text.now.items ++ t) in
    subst P (pieces_of_two c.args.x c.format-k.result.now c.in-2.is c.format-k.ensures.text) c.push_pieces-in-2.ensures

pub returns-in_default : goal.returns-in_default
returns-in_default c =
    let P : Bytes → Type 0 = λ t. OnOk c.push_pieces-in_default.result (c.push_pieces-in_default.new.text.items ≡ c.args.text.now.items ++ t) in
    let kind : c.args.x / 65536 % 4 ≡ 3 = omega arith in
    subst P (pieces_of_three c.args.x c.format-k.result.now kind c.format-k.ensures.text) c.push_pieces-in_default.ensures
