use Rattle.std.proofs.Common.{◌++◌, map, take, ap, sym, ◌∙◌, append_assoc}
use Rattle.fy_derive.specs.Reading.{plain_derivation, derivations_from}
use Rattle.fy_derive.specs.Print.{derivation_text, derivations_text}
use Rattle.fy_derive.proofs.PrintLemmas.{texts-more}
use Rattle.fy_derive.proofs.print.+print.Goals as goal

pub put_derivations-loop-d-preserved : goal.put_derivations-loop-d-preserved
put_derivations-loop-d-preserved t c =
    let items = c.as_slice-d-items.result.now in
    let one = derivation_text c.args.names.now (plain_derivation c.d-item.result) in
    let before = derivations_text c.args.names.now (derivations_from (map plain_derivation (take c.loop-d.d-index items))) in
    c.in_ok-put_derivation.ensures
    ∙ (ap (λ x. x ++ one) c.loop-d.invariant
    ∙ (append_assoc c.args.text.now before one
    ∙ ap (λ x. c.args.text.now ++ x) (sym (texts-more c.args.names.now items c.loop-d.d-index c.d-item.result c.loop-d-test.true c.d-item.is))))
