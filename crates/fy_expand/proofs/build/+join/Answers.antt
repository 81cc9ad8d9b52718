use Rattle.std.proofs.Common.{◌≡◌, ◌-◌, ◌/◌, map, length, take, vec_len, ap, ap₂, ◌∙◌, arith}
use Rattle.std.proofs.lemmas.List.{length-map}
use Rattle.fy_expand.specs.Core.{one_after}
use Rattle.fy_expand.specs.Built.{item_of, last_joined}
use Rattle.fy_expand.proofs.JoinLemmas.{joined-two}
use Rattle.fy_expand.proofs.build.+join.Goals as goal

pub returns-clause-ok : goal.returns-clause-ok
returns-clause-ok t c = λ at.
    let xs = map item_of c.args.items.now.items in
    let n = c.args.count in
    let len : vec_len c.args.items.now ≡ length xs = omega (arith, length-map c.args.items.now.items item_of, c.args.items.now.ok.0) in
    let left = c.in_ok-rest.ensures.left ∙ ap (λ m. take (m - (n - n / 2)) xs) len in
    c.in_ok-made.ensures
    ∙ ap₂ one_after (c.in_ok-first.ensures.ok at ∙ ap (last_joined at (n / 2)) left) (c.in_ok-rest.ensures.ok at)
    ∙ joined-two at xs n (omega arith) (omega arith)
