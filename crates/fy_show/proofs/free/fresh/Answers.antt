use Rattle.std.proofs.Common.{◌≡◌, true, map, sym, ap, ◌∙◌, arith, rules}
use Rattle.fy_phrase.specs.Reads.{reads}
use Rattle.fy_show.specs.Fresh.{is_taken, like, most_names}
use Rattle.fy_show.specs.Reading.{fields_read, known_read, scope_read}
use Rattle.fy_show.proofs.FreshLemmas.{first_free-used}
use Rattle.fy_show.proofs.free.fresh.Goals as goal

pub loop-number-preserved : goal.loop-number-preserved
loop-number-preserved c =
    let k = known_read c.args.view.now.known.now in
    let s = scope_read c.args.view.now.scope.now in
    let ps = map (λ p. reads p.now) c.args.bodies.now in
    let done = fields_read c.args.done.now in
    let tried : c.is_taken.result ≡ true = search rules in
    let name : like c.args.base.now c.loop-number.number ≡ c.deref.result.now = sym c.in_ok-name.ensures ∙ sym c.deref.ensures.value in
    let taken : is_taken k s ps done (like c.args.base.now c.loop-number.number) ≡ true = ap (λ t. is_taken k s ps done t) name ∙ (sym c.is_taken.ensures ∙ tried) in
    first_free-used (is_taken k s ps done) c.args.base.now most_names c.loop-number.number (omega (arith, c.loop-number-test.true, c.most_names-most.ensures)) taken
    ∙ c.loop-number.invariant
