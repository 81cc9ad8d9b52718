use Rattle.std.proofs.Common.{◌++◌, map, sym, ap, ◌∙◌, arith}
use Rattle.std.proofs.lemmas.List.{append-nil, length-map}
use Rattle.pe_gen.specs.Preorder.{own_thunks, seen}
use Rattle.pe_gen.proofs.Gets.{get-some}
use Rattle.pe_gen.proofs.ThunkLemmas.{thunks_from-more}
use Rattle.pe_gen.proofs.thunks.thunks_of.Goals as goal
use Rattle.pe_gen.proofs.thunks.thunks_of.Goals.{in-Some+in_ok-push, in_default}

pub loop-number-preserved : goal.loop-number-preserved
loop-number-preserved c =
    let ns = map seen c.args.nodes.now in
    let number = c.loop-number.number in
    let node = get-some ns number (omega (arith, c.loop-number-test.true, length-map c.args.nodes.now seen)) in
    let more = thunks_from-more ns number node.0.0 node.0.1 node.1 in
    elim c.match-thunk_at.branch [
      | in-Some+in_ok-push w ↦
          w.thunks-is
          ∙ (w.in_ok-push.ensures.ok
          ∙ (ap (λ xs. c.loop-number.thunks ++ xs) (w.in-Some.ensures node.0.0 node.0.1 node.1)
          ∙ (ap (λ ts. ts ++ own_thunks number node.0.1) c.loop-number.invariant ∙ sym more)))
      | in_default w ↦
          w.thunks-is
          ∙ (sym (append-nil c.loop-number.thunks)
          ∙ (ap (λ xs. c.loop-number.thunks ++ xs) (w.in_default.ensures node.0.0 node.0.1 node.1)
          ∙ (ap (λ ts. ts ++ own_thunks number node.0.1) c.loop-number.invariant ∙ sym more)))
    ]
