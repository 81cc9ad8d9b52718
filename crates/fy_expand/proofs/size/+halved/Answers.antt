use Rattle.std.proofs.Common.{◌/◌, ◌-◌, length, take, drop, refl, sym, ap, ◌∙◌, arith, length-drop}
use Rattle.std.proofs.lemmas.List.{take_all}
use Rattle.fy_expand.specs.Measures.{over, halved}
use Rattle.fy_expand.proofs.MeasureHalves.{halved-two}
use Rattle.fy_expand.proofs.size.+halved.Goals as goal

pub returns-in_default : goal.returns-in_default
returns-in_default t c =
    let sizes = c.args.sizes.now in
    let half = length sizes / 2 in
    let rest = take_all (length sizes - half) (drop half sizes) (omega (arith, length-drop half sizes)) in
    c.over.ensures
    ∙ ap (λ a. over a c.halved-in_default.result) c.halved.ensures
    ∙ ap (over (halved (take half sizes))) (c.halved-in_default.ensures ∙ ap halved rest)
    ∙ sym (halved-two sizes half refl (omega arith))
