use Rattle.std.proofs.Common.{◌≡◌, min, length, ap, ◌∙◌}
use Rattle.rv_select.proofs.NumberingLemmas.{start_at}
use Rattle.rv_select.proofs.numbers.Numbers.start.Goals as goal

pub returns : goal.returns
returns c =
    let least : c.min.result ≡ min (length c.self.inside.code.now.items) c.args.address = c.min.ensures ∙ ap (λ n. min n c.args.address) c.len-end.ensures in
    rw (← c.self.view_is) (start_at c.self.inside.code.now c.self.inside.starts.items c.args.address c.min.result c.index.result.now c.self.invariant.valid c.self.invariant.begun least c.index.ensures)
