use Rattle.std.proofs.Common.{◌≡◌, length, unwrap_or, ap, ◌∙◌, arith}
use Rattle.rv_select.specs.Numbers.{place_in}
use Rattle.rv_select.proofs.NumberingLemmas.{place_inside}
use Rattle.rv_select.proofs.numbers.Numbers.place.Goals as goal

pub returns : goal.returns
returns c =
    let placed : unwrap_or c.copied.result c.len-nodes.result ≡ place_in c.self.inside.code.now.thunks c.args.node =
    ap (λ n. unwrap_or c.copied.result n) c.len-nodes.ensures
    ∙ ap (λ o. unwrap_or o (length c.self.inside.code.now.thunks)) (c.copied.ensures ∙ c.get.ensures.value)
    ∙ c.self.invariant.placed.places c.args.node in
    let inside = place_inside c.self.inside.code.now.thunks c.args.node in
    let few = c.self.invariant.placed.few in
    rw (← c.self.view_is) (record { is = c.unwrap_or.ensures ∙ placed; few = omega (arith, c.unwrap_or.ensures, placed) })
